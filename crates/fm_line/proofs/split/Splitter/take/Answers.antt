use Rattle.std.proofs.Common.{◌≡◌, Some, ap, sym, ◌∙◌, refl, ◌++◌, ◌∷◌, subst, position, drop, ◌+◌}
use Rattle.std.proofs.Math.Seq.{drop-length}
use Rattle.fm_line.specs.Lines.{lines_from, lines_of, is_newline, ended_line}
use Rattle.fm_line.proofs.split.Splitter.take.Goals as goal
use Rattle.fm_entry.proofs.Places.{place_is}
use Rattle.fm_line.proofs.Places.{fails_all, fails_before, passes_at}
use Rattle.fm_line.proofs.Cutting.{cut_at, cut_free, view_in_progress, IsInProgress}
use Rattle.fm_line.proofs.Cutting.{lines_from_afresh}

pub grow-requires : goal.grow-requires
grow-requires c = fails_all is_newline c.args.piece.now (sym c.newline_place.ensures ∙ c.in-None.is)

pub grow-requires-in-Some : goal.grow-requires-in-Some
grow-requires-in-Some c =
    fails_before is_newline c.args.piece.now c.in-Some.at (sym c.newline_place.ensures
    ∙ c.in-Some.is)

pub returns-in-None-clause-none : goal.returns-in-None-clause-none
returns-in-None-clause-none c = (
  λ _. fails_all is_newline c.args.piece.now (sym c.newline_place.ensures ∙ c.in-None.is),
  λ _. refl,
)

pub returns-in-None-clause-lines : goal.returns-in-None-clause-lines
returns-in-None-clause-lines c =
    let free : IsInProgress c.args.self.now.pending =
    subst (λ s. IsInProgress s.pending) c.self.view_is
    (view_in_progress c.self.inside.is_long c.self.inside.pending.items c.self.invariant.free
    c.self.invariant.short) in
    λ more.
    cut_free c.args.self.now.pending c.args.piece.now more free
    (fails_all is_newline c.args.piece.now (sym c.newline_place.ensures ∙ c.in-None.is))
    ∙ ap (λ p. lines_from p more) (sym c.grow.ensures.pending)
    ∙ ap (λ l. lines_from c.grow.new.self.pending (l ++ more)) (sym (drop-length c.args.piece.now))

pub returns-in-Some-clause-none : goal.returns-in-Some-clause-none
returns-in-Some-clause-none c =
    let found : position is_newline c.args.piece.now ≡ Some c.in-Some.at =
    sym c.newline_place.ensures ∙ c.in-Some.is in (
      λ e. cc,
      λ free. sym (passes_at is_newline c.args.piece.now c.in-Some.at found)
          ∙ free c.in-Some.at 0 (place_is is_newline c.args.piece.now c.in-Some.at found).1,
    )

pub returns-in-Some-clause-lines : goal.returns-in-Some-clause-lines
returns-in-Some-clause-lines c =
    let free : IsInProgress c.args.self.now.pending =
    subst (λ s. IsInProgress s.pending) c.self.view_is
    (view_in_progress c.self.inside.is_long c.self.inside.pending.items c.self.invariant.free
    c.self.invariant.short) in
    let found : position is_newline c.args.piece.now ≡ Some c.in-Some.at =
    sym c.newline_place.ensures ∙ c.in-Some.is in
    λ more.
    cut_at c.args.self.now.pending c.args.piece.now more c.in-Some.at free found
    ∙ ap (λ o. o ∷ lines_of (drop (c.in-Some.at + 1) c.args.piece.now ++ more))
    (sym c.grow-in-Some.ensures.pending ∙ sym c.end.ensures.line)
    ∙ ap (λ l. ended_line c.end.result c.end.new.self.line ∷ l)
    (sym (lines_from_afresh (drop (c.in-Some.at + 1) c.args.piece.now ++ more))
    ∙ ap (λ p. lines_from p (drop (c.in-Some.at + 1) c.args.piece.now ++ more))
    (sym c.end.ensures.pending))
