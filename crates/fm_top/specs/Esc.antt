-- What `esc` does: to the sources of the rule files and the topology, or to the input; and to the
-- sink.
use Rattle.std.specs.Prelude.{◌≡◌, ◌⊎◌, ℕ, List, Option, Some, None, Result, Ok, Err}
use Rattle.std.specs.Io.KnownBytes.{Appends}
use Rattle.fm_answers.specs.StreamsAt.{SinkAt}
use Rattle.fm_answers.specs.Refusing.{PutCut}
use Rattle.fm_answers.specs.Stops.{of_compiling, of_input}
use Rattle.fm_answers.specs.declared.stops.Stop.{Stop}
use Rattle.fm_answers.specs.declared.stops.Stop.TheVariants.{DamagedInput}
use Rattle.fm_esc.specs.Compiling.{CompileCause, IsCompiled}
use Rattle.fm_esc.specs.InputListing.{InputCause, IsListed}
use Rattle.fm_esc.specs.declared.faults.CompileFault.{CompileFault}
use Rattle.fm_esc.specs.declared.faults.InputFault.{InputFault}
use Rattle.ev_listing.specs.declared.form.GraphForm.{GraphForm}
use Rattle.fm_outer.specs.declared.source.Source.{Ghosts}
use Rattle.fm_sources.specs.Sources.{Given}

-- a text was put whole, and the sink did not fail
pub record PutText (out out_now : SinkAt) (text : List ℕ) : Type 0 where
  pub put : Appends out.bytes out_now.bytes text
  pub quiet : out_now.failures ≡ out.failures

-- a text was to be put: it was, whole, or the sink failed and took a front of it
abbrev pub TextEnds : SinkAt → SinkAt → List ℕ → Result (Unit {0}) Stop → Type 0
TextEnds out out_now text (Ok done) = PutText out out_now text
TextEnds out out_now text (Err stop) = PutCut out out_now text stop

-- What `esc` comes to: the sources are rule files and a topology, all files come to something, and
-- the text of that was to be put; or the first cause why not, and nothing was put.
abbrev pub EscEnds : {S : Type 0} → Ghosts S → GraphForm → Given S → Given S → SinkAt → SinkAt
    → Result (Unit {0}) Stop → Type 0
EscEnds g form old new out out_now ran =
    ((text : List ℕ) × IsCompiled g form old new text × TextEnds out out_now text ran)
    ⊎ ((fault : CompileFault) × CompileCause g old new fault
    × (ran ≡ Err (of_compiling fault)) × (out_now ≡ out))

-- how a listing that was put ends the command, by the place of the first bad file
abbrev pub after_listing : Option ℕ → Result (Unit {0}) Stop
after_listing None = Ok tt
after_listing (Some place) = Err (DamagedInput place)

-- the listing was put whole; it was to be put, and the sink failed; or there is none, and nothing
-- was put
pub record ListedWhole {S : Type 0} (g : Ghosts S) (old new : S) (out out_now : SinkAt)
    (ran : Result (Unit {0}) Stop) : Type 0 where
  pub text : List ℕ
  pub bad : Option ℕ
  pub listed : IsListed g old new text bad
  pub put : PutText out out_now text
  pub ends : ran ≡ after_listing bad

pub record ListedCut {S : Type 0} (g : Ghosts S) (old new : S) (out out_now : SinkAt)
    (ran : Result (Unit {0}) Stop) : Type 0 where
  pub text : List ℕ
  pub bad : Option ℕ
  pub listed : IsListed g old new text bad
  pub stop : Stop
  pub cut : PutCut out out_now text stop
  pub ends : ran ≡ Err stop

pub record NotListed {S : Type 0} (g : Ghosts S) (old new : S) (out out_now : SinkAt)
    (ran : Result (Unit {0}) Stop) : Type 0 where
  pub fault : InputFault
  pub cause : InputCause g old new fault
  pub ends : ran ≡ Err (of_input fault)
  pub put : out_now ≡ out

-- what `esc -l` comes to
abbrev pub EscInputEnds : {S : Type 0} → Ghosts S → S → S → SinkAt → SinkAt
    → Result (Unit {0}) Stop → Type 0
EscInputEnds g old new out out_now ran =
    ListedWhole g old new out out_now ran
    ⊎ (ListedCut g old new out out_now ran ⊎ NotListed g old new out out_now ran)
