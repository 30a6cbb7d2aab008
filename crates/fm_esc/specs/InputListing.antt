-- What the compiled files of the input are listed as; and why they are not.
use Rattle.std.specs.Prelude.{◌≡◌, ℕ, ◌<◌, ◌≤◌, ◌^◌, List, length, Option}
use Rattle.ev_file.specs.declared.made.Made.{Made}
use Rattle.ev_listing.specs.Listing.{AreFiles, listing}
use Rattle.fm_outer.specs.Failures.{Rose}
use Rattle.fm_outer.specs.declared.source.Source.{Ghosts}
use Rattle.fm_sources.specs.Texts.{GaveText}
use Rattle.fm_esc.specs.declared.faults.InputFault.{InputFault}
use Rattle.fm_esc.specs.declared.faults.InputFault.TheVariants.{Read, Full, NoMemory}

-- The input gave all its bytes, which are compiled files to their end or to the bad place, and this
-- is their listing.
pub record IsListed {S : Type 0} (g : Ghosts S) (old new : S) (text : List ℕ) (bad : Option ℕ)
    : Type 0 where
  pub bytes : List ℕ
  pub gave : GaveText g (2 ^ 40) old new bytes
  pub within : length bytes ≤ 2 ^ 40
  pub mades : List Made
  pub files : AreFiles mades bytes bad
  pub text_is : text ≡ listing mades

-- why there is no listing: the source failed; it gave more bytes than are taken; or memory was
-- wanted
abbrev pub InputCause : {S : Type 0} → Ghosts S → S → S → InputFault → Type 0
InputCause g old new Read = Rose (g.failures old) (g.failures new)
InputCause g old new Full =
    (bytes : List ℕ) × GaveText g (2 ^ 40) old new bytes × (2 ^ 40 < length bytes)
InputCause g old new NoMemory = g.failures new ≡ g.failures old
