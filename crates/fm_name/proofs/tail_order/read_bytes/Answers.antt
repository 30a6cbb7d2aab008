use Rattle.std.proofs.Common.{◌∙◌, sym}
use Rattle.fm_name.proofs.Digits.{has_equals}
use Rattle.fm_name.proofs.Firsts.{place_none}
use Rattle.fm_name.proofs.tail_order.read_bytes.Goals as goal

pub unreachable-requires : goal.unreachable-requires
unreachable-requires c =
    has_equals c.args.text.now
    (place_none _ c.args.text.now (sym c.first_equals.ensures ∙ c.in-None.is)) c.requires
