use Rattle.std.proofs.Common.{◌-◌, ◌∙◌, sym, ap, arith}
use Rattle.fm_name.proofs.PartScans.{goes, parts_start, slash_next}
use Rattle.fm_name.proofs.tails.+joins_parts.Goals as goal

pub returns-then-byte-eq47 : goal.returns-then-byte-eq47
returns-then-byte-eq47 t c =
    c.joins_parts.ensures
    ∙ sym (parts_start c.args.room c.args.bytes.now (omega arith)
    ∙ (ap (goes (c.args.room - 1)) (sym c.in-Some.ensures)
    ∙ slash_next (c.args.room - 1) c.in-Some.rest.now c.in-len1-up.len_at_least
    c.if-byte-eq47.true))
