use Rattle.std.proofs.Common.{◌≡◌, drop}
use Rattle.std.specs.Prelude.{◌==◌}
use Rattle.std.specs.List.{slice_split, list_all}
use Rattle.fm_name.specs.Class.{is_piece}
use Rattle.fm_name.proofs.Scanning.{pieces}
use Rattle.fm_name.proofs.grammar.joins_pieces.Given as goal

abbrev pub invariant-loop-byte : goal.invariant-loop-byte
invariant-loop-byte l = pieces l.begun (drop l.byte-index l.bytes)
    ≡ list_all is_piece (slice_split (λ b. b == 45) l.bytes)
