-- What is read of a source.
use Rattle.std.specs.Prelude.{◌≡◌, ℕ, ◌+◌, ◌≤◌, List, length}
use Rattle.std.specs.Io.KnownBytes.{Consumes, IsAtEnd}
use Rattle.fm_outer.specs.Failures.{Rose}
use Rattle.fm_outer.specs.declared.source.Source.{Ghosts}
use Rattle.fm_sources.specs.declared.faults.TextFault.{TextFault}
use Rattle.fm_sources.specs.declared.faults.TextFault.TheVariants.{Read, NoMemory}

-- The source gave these bytes: all that it had left, or more than the limit, which one piece of
-- 4,096 bytes passed. It didn't fail.
pub record GaveText {S : Type 0} (g : Ghosts S) (limit : ℕ) (old new : S) (text : List ℕ)
    : Type 0 where
  pub consumed : Consumes (g.left old) (g.left new) text
  pub whole : length text ≤ limit → IsAtEnd (g.left new)
  pub near : length text ≤ limit + 4096
  pub quiet : g.failures new ≡ g.failures old

-- the source gave these bytes so far, of which one piece may have passed the limit, and didn't fail
pub record GivesSoFar {S : Type 0} (g : Ghosts S) (limit : ℕ) (old new : S) (text : List ℕ)
    : Type 0 where
  pub consumed : Consumes (g.left old) (g.left new) text
  pub near : length text ≤ limit + 4096
  pub quiet : g.failures new ≡ g.failures old

-- why a text was not read
abbrev pub TextCause : {S : Type 0} → Ghosts S → S → S → TextFault → Type 0
TextCause g old new Read = Rose (g.failures old) (g.failures new)
TextCause g old new NoMemory = g.failures new ≡ g.failures old
