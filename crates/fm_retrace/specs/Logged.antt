-- What a record of a log says of a number: what was said there.
use Rattle.std.specs.Prelude.{ℕ, List, [], ◌∷◌}
use Rattle.fm_core.specs.Records.{numbered_before}
use Rattle.fm_entry.specs.declared.spoken.Spoken.{Spoken}

-- what a log of this one record has of the numbers below one
abbrev pub said_below : ℕ → Spoken → List Spoken
said_below n said = numbered_before n (said ∷ [])
