-- What rule files come to over a topology, as a text; and why there is none.
use Rattle.std.specs.Prelude.{◌≡◌, ℕ, List, [], ◌∷◌, take, slice_get, Some, Ok, Err}
use Rattle.ev_check.specs.CheckedFile.{CheckedFile}
use Rattle.ev_file.specs.Files.{file_bytes}
use Rattle.ev_file.specs.declared.made.Made.{Made}
use Rattle.ev_inst.specs.Instances.{IsMadeOf, IsInstFault}
use Rattle.ev_inst.specs.declared.fault.InstFault.TheVariants as inst
use Rattle.ev_listing.specs.Listing.{files_bytes, listing, sizes_of}
use Rattle.fm_adm.specs.Config.{listing_line}
use Rattle.fm_outer.specs.declared.source.Source.{Ghosts}
use Rattle.fm_sources.specs.Sources.{Given, ReadsSources}
use Rattle.fm_sources.specs.declared.files.RuleFile.{RuleFile}
use Rattle.fm_sources.specs.declared.sources.Sources.{Sources as WasRead}
use Rattle.fm_topo.specs.Topology.{Topology}
use Rattle.fm_esc.specs.declared.faults.CompileFault.{CompileFault}
use Rattle.fm_esc.specs.declared.faults.CompileFault.TheVariants.{Sources, Graph, NoMemory}
use Rattle.fm_esc.specs.declared.faults.GraphLimit.{GraphLimit}
use Rattle.fm_esc.specs.declared.faults.GraphLimit.TheVariants.{Nodes, Links}
use Rattle.ev_listing.specs.declared.form.GraphForm.{GraphForm}
use Rattle.ev_listing.specs.declared.form.GraphForm.TheVariants.{Listed, Compiled}

-- each rule file comes to this over the topology
abbrev pub AreGraphs : Topology → List RuleFile → List Made → Type 0
AreGraphs topo [] [] = Unit {0}
AreGraphs topo (file ∷ files) (made ∷ mades) =
    IsMadeOf file.checked topo made × AreGraphs topo files mades
AreGraphs _ _ _ = ⊥

-- what a rule file comes to is past the limit
abbrev pub IsPastLimit : GraphLimit → CheckedFile → Topology → Type 0
IsPastLimit Nodes checked topo = IsInstFault checked topo inst.Nodes
IsPastLimit Links checked topo = IsInstFault checked topo inst.Links

-- The rule file at a place is the first that comes to more than a limit: those before it come to
-- graphs.
pub record IsFirstPast (topo : Topology) (files : List RuleFile) (at : ℕ) (limit : GraphLimit)
    : Type 0 where
  pub before : List Made
  pub graphs : AreGraphs topo (take at files) before
  pub file : RuleFile
  pub there : slice_get files at ≡ Some file
  pub past : IsPastLimit limit file.checked topo

-- what one is told by
abbrev pub part_in : GraphForm → ℕ → Made → List ℕ
part_in Listed number made = listing_line number (sizes_of made)
part_in Compiled number made = file_bytes made

-- the whole text: a line for each, numbered from 0 on, or the compiled files one after another
abbrev pub text_in : GraphForm → List Made → List ℕ
text_in Listed mades = listing mades
text_in Compiled mades = files_bytes mades

-- why the rule file of a number comes to nothing
abbrev pub GraphCause : ℕ → CheckedFile → Topology → CompileFault → Type 0
GraphCause number checked topo (Graph file limit) = (file ≡ number) × IsPastLimit limit checked topo
GraphCause number checked topo NoMemory = Unit {0}
GraphCause _ _ _ _ = ⊥

-- why the rule files don't all come to something
abbrev pub GraphsCause : Topology → List RuleFile → CompileFault → Type 0
GraphsCause topo files (Graph file limit) = IsFirstPast topo files file limit
GraphsCause topo files NoMemory = Unit {0}
GraphsCause _ _ _ = ⊥

-- the sources were rule files and a topology, and this is the text of what they come to
pub record IsCompiled {S : Type 0} (g : Ghosts S) (form : GraphForm) (old new : Given S)
    (text : List ℕ) : Type 0 where
  pub got : WasRead
  pub read : ReadsSources g old new (Ok got)
  pub mades : List Made
  pub graphs : AreGraphs got.topo got.files.items mades
  pub text_is : text ≡ text_in form mades

-- why there is no such text: the sources were refused; or they were read, and a file is past a
-- limit or memory was wanted
abbrev pub CompileCause : {S : Type 0} → Ghosts S → Given S → Given S → CompileFault → Type 0
CompileCause g old new (Sources fault) = ReadsSources g old new (Err fault)
CompileCause g old new (Graph file limit) =
    (got : WasRead) × ReadsSources g old new (Ok got)
    × IsFirstPast got.topo got.files.items file limit
CompileCause g old new NoMemory = (got : WasRead) × ReadsSources g old new (Ok got)
