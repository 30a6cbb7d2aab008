-- At the start nothing is pending.
use Rattle.std.proofs.Common.{◌++◌, flat_map, sym, ap, ◌∙◌}
use Rattle.fm_line.specs.Lines.{lines_from}
use Rattle.fm_line.proofs.Cutting.{lines_from_afresh}
use Rattle.fm_line_laws.proofs.pieces.lines_of_pieces.Goals as goal

pub pieces-init : goal.pieces-init
pieces-init c =
    let all = flat_map (λ piece. piece.now) c.args.pieces.now in
    sym (lines_from_afresh all)
    ∙ ap (λ s. lines_from s.pending all) (sym c.in_ok-splitter.ensures)
    ∙ ap (λ xs. xs ++ lines_from c.in_ok-splitter.splitter.pending all)
    (sym c.new-lines.ensures.items)
