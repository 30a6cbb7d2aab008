-- Sources that tell their bytes are read as one list of rule files, which comes to one text.
use Rattle.std.proofs.Common.{◌≡◌, ◌≤◌, ℕ, List, [], ◌∷◌, ◌++◌, length, map, Option, Some, None}
use Rattle.std.proofs.Common.{refl, sym, ap, ◌∙◌, subst, arith, append-nil, length-append}
use Rattle.std.specs.Io.KnownBytes.{Consumes, IsAtEnd}
use Rattle.fm_outer.specs.declared.source.Source.{Ghosts}
use Rattle.fm_topo.specs.Topology.{Topology, topology_of}
use Rattle.ev_check.specs.CheckedFile.{CheckedFile}
use Rattle.ev_check.specs.Sound.{IsSound}
use Rattle.ev_file.specs.declared.made.Made.{Made}
use Rattle.ev_inst.specs.Instances.{IsMadeOf}
use Rattle.ev_inst_laws.proofs.OneGraph.{graphs_one}
use Rattle.fm_sources.specs.Rules.{IsRuleFile}
use Rattle.fm_sources.specs.Sources.{FilesGave, Given}
use Rattle.fm_sources.specs.Texts.{GaveText}
use Rattle.fm_sources.specs.declared.files.RuleFile.{RuleFile}
use Rattle.fm_sources_laws.proofs.OneFile.{rule_files_one}
use Rattle.fm_esc.specs.Compiling.{AreGraphs, IsCompiled, text_in}
use Rattle.ev_listing.specs.declared.form.GraphForm.{GraphForm}
use Rattle.fm_esc_laws.specs.ToldTexts.{AreFilesOf, TellTexts}

-- ---- rule files of the same texts come to the same
pub sound_of : (text : List ℕ) (f : CheckedFile) → IsRuleFile text f → IsSound f
sound_of text f h = record {
  statements = h.tree.statements;
  checked = h.passes;
  file = h.file_is;
}

made_one : (topo : Topology) (text : List ℕ) (f g : CheckedFile) (a b : Made) → IsRuleFile text f
    → IsRuleFile text g → IsMadeOf f topo a → IsMadeOf g topo b → a ≡ b
made_one topo text f g a b one other made more =
    let same = graphs_one f g topo a.graph b.graph a.skipped b.skipped (sound_of text f one)
    (rule_files_one text f g one other) made.graph more.graph in
    λ i. record { graph = same.0 i; skipped = same.1 i }

pub list_one : (topo : Topology) (texts : List (List ℕ)) (files others : List RuleFile)
    (mades more : List Made) → AreFilesOf texts files → AreFilesOf texts others
    → AreGraphs topo files mades → AreGraphs topo others more → mades ≡ more
list_one topo [] [] [] [] [] a b s t = refl
list_one topo [] [] [] [] (n ∷ more) a b s t = absurd t
list_one topo [] [] [] (m ∷ mades) more a b s t = absurd s
list_one topo [] [] (g ∷ others) mades more a b s t = absurd b
list_one topo [] (f ∷ files) others mades more a b s t = absurd a
list_one topo (text ∷ texts) [] others mades more a b s t = absurd a
list_one topo (text ∷ texts) (f ∷ files) [] mades more a b s t = absurd b
list_one topo (text ∷ texts) (f ∷ files) (g ∷ others) [] more a b s t = absurd s
list_one topo (text ∷ texts) (f ∷ files) (g ∷ others) (m ∷ mades) [] a b s t = absurd t
list_one topo (text ∷ texts) (f ∷ files) (g ∷ others) (m ∷ mades) (n ∷ more) a b s t =
    let first : m ≡ n = made_one topo text f.checked g.checked m n a.0 b.0 s.0 t.0 in
    let rest = list_one topo texts files others mades more a.1 b.1 s.1 t.1 in
    λ i. first i ∷ rest i

-- ---- a source that tells its bytes gives all of them
all_given : (old new : Option (List ℕ)) (bytes text : List ℕ) → old ≡ Some bytes
    → Consumes old new text → IsAtEnd new → text ≡ bytes
all_given None new bytes text e gave end = absurd (cc)
all_given (Some xs) None bytes text e gave end = absurd gave
all_given (Some xs) (Some ys) bytes text e gave end =
    let same : xs ≡ bytes = cc in
    sym (append-nil text) ∙ ap (λ (zs : List ℕ). text ++ zs) (sym end) ∙ sym gave ∙ same

given_short : (old new : Option (List ℕ)) (bytes text : List ℕ) → old ≡ Some bytes
    → Consumes old new text → length text ≤ length bytes
given_short None new bytes text e gave = absurd (cc)
given_short (Some xs) None bytes text e gave = absurd gave
given_short (Some xs) (Some ys) bytes text e gave =
    let same : xs ≡ bytes = cc in
    let whole = ap length gave in
    let both = length-append text ys in
    let long = ap length same in
    omega (arith, whole, both, long)

module _ {S : Type 0} (g : Ghosts S) where
  pub text_given : (limit : ℕ) (old new : S) (bytes text : List ℕ) → g.left old ≡ Some bytes
      → GaveText g limit old new text → length text ≤ limit → text ≡ bytes
  text_given limit old new bytes text e gave short =
      all_given (g.left old) (g.left new) bytes text e gave.consumed (gave.whole short)

  some_one : {X : Type 0} (x y : X) (xs ys : List X) → x ∷ xs ≡ y ∷ ys → (x ≡ y) × (xs ≡ ys)
  some_one x y xs ys h = (cc, cc)

  files_given : (olds news : List S) (files : List RuleFile) (texts : List (List ℕ))
      → map g.left olds ≡ map Some texts → FilesGave g olds news files → AreFilesOf texts files
  files_given [] [] [] [] e h = tt
  files_given [] [] [] (t ∷ texts) e h = absurd (cc)
  files_given [] [] (f ∷ files) texts e h = absurd h
  files_given [] (n ∷ news) files texts e h = absurd h
  files_given (o ∷ olds) [] files texts e h = absurd h
  files_given (o ∷ olds) (n ∷ news) [] texts e h = absurd h
  files_given (o ∷ olds) (n ∷ news) (f ∷ files) [] e h = absurd (cc)
  files_given (o ∷ olds) (n ∷ news) (f ∷ files) (t ∷ texts) e h =
      let parts = some_one (g.left o) (Some t) (map g.left olds) (map Some texts) e in
      let text : f.text.items ≡ t =
      text_given 1048576 o n t f.text.items parts.0 h.0.gave h.0.is_rules.has.has.short in (
        subst (λ (bs : List ℕ). IsRuleFile bs f.checked) text h.0.is_rules,
        files_given olds news files texts parts.1 h.1,
      )

  pub text_one : (form : GraphForm) (old new other : Given S) (text more : List ℕ)
      → TellTexts g old → IsCompiled g form old new text → IsCompiled g form old other more
      → text ≡ more
  text_one form old new other text more told a b =
      let own : a.got.topo_text.items ≡ told.topo =
      text_given 16777216 old.topo new.topo told.topo a.got.topo_text.items told.topo_is
      a.read.1.gave (let less = given_short (g.left old.topo) (g.left new.topo) told.topo
      a.got.topo_text.items told.topo_is a.read.1.gave.consumed in
      let short = told.short in omega (arith, less, short)) in
      let their : b.got.topo_text.items ≡ told.topo =
      text_given 16777216 old.topo other.topo told.topo b.got.topo_text.items told.topo_is
      b.read.1.gave (let less = given_short (g.left old.topo) (g.left other.topo) told.topo
      b.got.topo_text.items told.topo_is b.read.1.gave.consumed in
      let short = told.short in omega (arith, less, short)) in
      let topo : a.got.topo ≡ b.got.topo =
      a.read.1.topology_is ∙ ap topology_of (own ∙ sym their) ∙ sym b.read.1.topology_is in
      let mades : a.mades ≡ b.mades =
      list_one a.got.topo told.texts a.got.files.items b.got.files.items a.mades b.mades
      (files_given old.rules new.rules a.got.files.items told.texts told.rules_are a.read.0)
      (files_given old.rules other.rules b.got.files.items told.texts told.rules_are b.read.0)
      a.graphs
      (subst (λ (t : Topology). AreGraphs t b.got.files.items b.mades) (sym topo) b.graphs) in
      a.text_is ∙ ap (text_in form) mades ∙ sym b.text_is
