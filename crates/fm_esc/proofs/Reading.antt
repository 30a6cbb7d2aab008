-- What is made of sources that were read.
use Rattle.std.proofs.Common.{◌≡◌, ◌≤◌, ◌++◌, ℕ, suc, List, [], ◌∷◌, length, refl, ap, ◌∙◌, subst}
use Rattle.std.proofs.Common.{arith, Ok}
use Rattle.ev_file.specs.declared.made.Made.{Made}
use Rattle.fm_outer.specs.declared.source.Source.{Ghosts}
use Rattle.fm_sources.specs.Sources.{FilesGave, Given, ReadsSources}
use Rattle.fm_sources.specs.declared.files.RuleFile.{RuleFile}
use Rattle.fm_sources.specs.declared.sources.Sources.{Sources}
use Rattle.fm_esc.specs.Compiling.{AreGraphs, CompileCause, GraphsCause, IsCompiled, IsFirstPast}
use Rattle.fm_esc.specs.Compiling.{text_in}
use Rattle.fm_esc.specs.declared.faults.CompileFault.{CompileFault}
use Rattle.fm_esc.specs.declared.faults.CompileFault.TheVariants.{Graph, NoMemory}
use Rattle.ev_listing.specs.declared.form.GraphForm.{GraphForm}

-- as many files as sources
pub files_count : {S : Type 0} (g : Ghosts S) (olds news : List S) (files : List RuleFile)
    → FilesGave g olds news files → length files ≡ length olds
files_count g [] [] [] gave = refl
files_count g (old ∷ olds) (new ∷ news) (file ∷ files) gave =
    ap suc (files_count g olds news files gave.1)
files_count g _ _ _ gave = absurd gave

module _ {S : Type 0} (g : Ghosts S) (old new : Given S) (got : Sources)
    (files : List RuleFile) (read : ReadsSources g old new (Ok got))
    (same : files ≡ got.files.items) where
  pub few_files : length old.rules ≤ 8 → length files ≤ 8
  few_files few =
      let count = files_count g old.rules new.rules got.files.items read.0 in
      let long = ap (λ (fs : List RuleFile). length fs) same in
      omega (arith, few, count, long)

  pub files_cause : (fault : CompileFault) → GraphsCause got.topo files fault
      → CompileCause g old new fault
  files_cause (Graph file limit) past =
      (got, read, subst (λ fs. IsFirstPast got.topo fs file limit) same past)
  files_cause NoMemory want = (got, read)
  files_cause _ refused = absurd refused

  pub compiled_of : (form : GraphForm) (before text : List ℕ) → before ≡ []
      → (mades : List Made) × (AreGraphs got.topo files mades
      × (text ≡ before ++ text_in form mades))
      → IsCompiled g form old new text
  compiled_of form before text none (mades, (graphs, put)) = record {
    got = got;
    read = read;
    mades = mades;
    graphs = subst (λ fs. AreGraphs got.topo fs mades) same graphs;
    text_is = put ∙ ap (λ xs. xs ++ text_in form mades) none;
  }
