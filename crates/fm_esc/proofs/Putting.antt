-- Rule files that come to graphs one after another.
use Rattle.std.proofs.Common.{◌≡◌, ◌<◌, ◌≤◌, ◌+◌, ◌++◌, ℕ, zero, suc, List, [], ◌∷◌, length, take}
use Rattle.std.proofs.Common.{Some, refl, sym, ap, ◌∙◌, subst, arith, append-nil, append_assoc}
use Rattle.std.proofs.Common.{slice_get, get_or}
use Rattle.std.proofs.Math.Seq.{take-suc}
use Rattle.std.proofs.lemmas.List.{length-take}
use Rattle.std.proofs.lemmas.Option.{get_or_from_slice_get, slice_get_read, slice_get_within}
use Rattle.ev_file.specs.declared.made.Made.{Made}
use Rattle.ev_inst.specs.Instances.{IsMadeOf}
use Rattle.ev_listing.proofs.Listed.{files_push, listing_push}
use Rattle.fm_sources.specs.declared.files.RuleFile.{RuleFile}
use Rattle.fm_topo.specs.Topology.{Topology}
use Rattle.fm_esc.specs.Compiling.{AreGraphs, GraphCause, GraphsCause, IsFirstPast}
use Rattle.fm_esc.specs.Compiling.{part_in, text_in}
use Rattle.fm_esc.specs.declared.faults.CompileFault.{CompileFault}
use Rattle.fm_esc.specs.declared.faults.CompileFault.TheVariants.{Graph, NoMemory}
use Rattle.ev_listing.specs.declared.form.GraphForm.{GraphForm}
use Rattle.ev_listing.specs.declared.form.GraphForm.TheVariants.{Listed, Compiled}

-- the rule files before a place come to graphs, of which the text was appended
pub record PutUpTo (form : GraphForm) (topo : Topology) (files : List RuleFile) (number : ℕ)
    (old new : List ℕ) : Type 0 where
  pub mades : List Made
  pub graphs : AreGraphs topo (take number files) mades
  pub text : new ≡ old ++ text_in form mades

graphs_push : (topo : Topology) (files : List RuleFile) (mades : List Made) (file : RuleFile)
    (made : Made) → AreGraphs topo files mades → IsMadeOf file.checked topo made
    → AreGraphs topo (files ++ file ∷ []) (mades ++ made ∷ [])
graphs_push topo [] [] file made graphs is = (is, tt)
graphs_push topo (f ∷ files) (m ∷ mades) file made (one, more) is =
    (one, graphs_push topo files mades file made more is)
graphs_push _ _ _ _ _ graphs is = absurd graphs

graphs_count : (topo : Topology) (files : List RuleFile) (mades : List Made)
    → AreGraphs topo files mades → length mades ≡ length files
graphs_count topo [] [] graphs = refl
graphs_count topo (f ∷ files) (m ∷ mades) (one, more) = ap suc (graphs_count topo files mades more)
graphs_count _ _ _ graphs = absurd graphs

text_none : (form : GraphForm) → text_in form [] ≡ []
text_none Listed = refl
text_none Compiled = refl

text_push : (form : GraphForm) (mades : List Made) (made : Made)
    → text_in form (mades ++ made ∷ []) ≡ text_in form mades ++ part_in form (length mades) made
text_push Listed mades made = listing_push mades made
text_push Compiled mades made = files_push mades made

take_past : {X : Type 0} (n : ℕ) (xs : List X) → length xs ≤ n → take n xs ≡ xs
take_past zero [] le = refl
take_past zero (x ∷ xs) le = absurd (omega (arith, le))
take_past (suc n) [] le = refl
take_past (suc n) (x ∷ xs) le = ap (λ ys. x ∷ ys) (take_past n xs (omega (arith, le)))

pub put_none : (form : GraphForm) (topo : Topology) (files : List RuleFile) (old : List ℕ)
    → PutUpTo form topo files 0 old old
put_none form topo files old = record {
  mades = [];
  graphs = tt;
  text = sym (append-nil old) ∙ ap (λ xs. old ++ xs) (sym (text_none form));
}

take_more : (files : List RuleFile) (number : ℕ) (file : RuleFile)
    → slice_get files number ≡ Some file
    → take (number + 1) files ≡ take number files ++ file ∷ []
take_more files number file there =
    let one : number + 1 ≡ suc number = omega arith in
    ap (λ n. take n files) one
    ∙ take-suc files number file (slice_get_within files number file there)
    ∙ ap (λ f. take number files ++ f ∷ [])
    (get_or_from_slice_get files number file file there)

-- the file that a loop over the files has at a place
file_at : (files : List RuleFile) (number : ℕ) (file : RuleFile) → number < length files
    → file ≡ get_or files number file → slice_get files number ≡ Some file
file_at files number file inside is = slice_get_read files (length files) number file refl inside is

pub put_more : (form : GraphForm) (topo : Topology) (files : List RuleFile) (number : ℕ)
    (old mid new : List ℕ) (file : RuleFile) (made : Made)
    → PutUpTo form topo files number old mid → number < length files
    → file ≡ get_or files number file → IsMadeOf file.checked topo made
    → new ≡ mid ++ part_in form number made → PutUpTo form topo files (number + 1) old new
put_more form topo files number old mid new file made before inside same is put =
    let there = file_at files number file inside same in
    let count : length before.mades ≡ number = (
    let same = graphs_count topo (take number files) before.mades before.graphs in
    let long = length-take number files in
    let less = slice_get_within files number file there in
    omega (arith, same, long, less)
    ) in
    record {
      mades = before.mades ++ made ∷ [];
      graphs = subst (λ fs. AreGraphs topo fs (before.mades ++ made ∷ []))
          (sym (take_more files number file there))
          (graphs_push topo (take number files) before.mades file made before.graphs is);
      text = put
          ∙ (λ i. before.text i ++ part_in form (sym count i) made)
          ∙ append_assoc old (text_in form before.mades)
          (part_in form (length before.mades) made)
          ∙ ap (λ xs. old ++ xs) (sym (text_push form before.mades made));
    }

pub put_all : (form : GraphForm) (topo : Topology) (files : List RuleFile) (number : ℕ)
    (old new : List ℕ) → PutUpTo form topo files number old new → length files ≤ number
    → (mades : List Made) × (AreGraphs topo files mades × (new ≡ old ++ text_in form mades))
put_all form topo files number old new before past = (
  before.mades,
  (
    subst (λ fs. AreGraphs topo fs before.mades) (take_past number files past) before.graphs,
    before.text,
  ),
)

pub first_past : (form : GraphForm) (topo : Topology) (files : List RuleFile) (number : ℕ)
    (old new : List ℕ) (file : RuleFile) (fault : CompileFault)
    → PutUpTo form topo files number old new → number < length files
    → file ≡ get_or files number file → GraphCause number file.checked topo fault
    → GraphsCause topo files fault
first_past form topo files number old new file (Graph at limit) before inside is (same, past) =
    subst (λ n. IsFirstPast topo files n limit) (sym same) (record {
      before = before.mades;
      graphs = before.graphs;
      file = file;
      there = file_at files number file inside is;
      past = past;
    })
first_past form topo files number old new file NoMemory before inside is want = tt
first_past form topo files number old new file _ before inside is refused = absurd refused
