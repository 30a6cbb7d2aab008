use Rattle.std.proofs.Common.{◌≡◌, drop}
use Rattle.std.specs.Prelude.{◌==◌}
use Rattle.std.specs.List.{slice_split, list_all}
use Rattle.fm_name.specs.Class.{is_piece}
use Rattle.fm_name.proofs.Scanning.{pieces}
use Rattle.fm_act.proofs.kind.joins_pieces.Given as goal

abbrev pub invariant-bytes : goal.invariant-bytes
invariant-bytes l = pieces l.begun (drop l.byte-index l.bytes)
    ≡ list_all is_piece (slice_split (λ b. b == 45) l.bytes)
