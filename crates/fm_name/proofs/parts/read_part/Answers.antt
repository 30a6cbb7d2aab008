use Rattle.std.proofs.Common.{lit<}
use Rattle.fm_name.proofs.Digits.{has_equals}
use Rattle.fm_name.proofs.parts.read_part.Goals as goal

pub unreachable-requires : goal.unreachable-requires
unreachable-requires c = has_equals c.args.text.now (c.in-None.ensures.byte (lit< tt) (λ w o f. f))
    c.requires
