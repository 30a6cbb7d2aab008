use Rattle.std.proofs.Common.{◌≡◌, ◌≢◌, [], ◌∷◌, Some, true, false, ap, sym, ◌∙◌, subst}
use Rattle.fm_line.specs.Lines.{lines_from}
use Rattle.fm_line.proofs.Cutting.{cut_last, IsInProgress, view_in_progress, lines_from_start}
use Rattle.fm_line.proofs.split.Splitter.finish.Goals as goal

pub returns-clause-lines : goal.returns-clause-lines
returns-clause-lines c =
    let free : IsInProgress c.args.self.now.pending =
    subst (λ s. IsInProgress s.pending) c.self.view_is
    (view_in_progress c.self.inside.is_long c.self.inside.pending.items c.self.invariant.free
    c.self.invariant.short) in
    let some : c.args.self.now.pending ≢ Some [] = λ e. let yes : c.is_between.result ≡ true =
    c.is_between.ensures.1 e in let no : c.is_between.result ≡ false = c.if-is_between.false in
    cc in
    cut_last c.args.self.now.pending free some ∙ ap (λ o. o ∷ []) (sym c.end.ensures.line)

pub returns-then-is_between-clause-lines : goal.returns-then-is_between-clause-lines
returns-then-is_between-clause-lines c =
    ap (λ p. lines_from p []) (c.is_between.ensures.0 c.if-is_between.true) ∙ lines_from_start
