use Rattle.std.proofs.Common.{rules, ◌≡◌, sym, length, arith, length-drop}
use Rattle.std.proofs.lemmas.Bool.Decides.{nat_tests}
use Rattle.ev_lex.specs.Pieces.{size, line_after}
use Rattle.ev_lex.proofs.Fits.{piece_fits, Within}
use Rattle.ev_lex.proofs.Reach.{Reached, reach_more, whole, one_reading, stuck_at, stuck_no_tokens}
use Rattle.ev_lex.proofs.Reach.{is_nothing}
use Rattle.ev_lex.proofs.lexer.lex.Goals as goal

pub returns-in_default-clause-only : goal.returns-in_default-clause-only
returns-in_default-clause-only c =
    λ ts a. absurd (stuck_no_tokens c.args.text.now c.pieces.at ts
    (stuck_at c.args.text.now c.pieces.rest.now c.pieces.line c.pieces.tokens.items c.pieces.at
    c.pieces.invariant (search rules) (sym c.in_default.ensures)) a)

pub push_token-requires : goal.push_token-requires
push_token-requires c =
    let fits : Within (length c.pieces.rest.now) c.in-Some.piece =
    piece_fits _ _ _ (sym c.in-Some.ensures) in
    omega (arith, fits.most, c.pieces.invariant.within, c.requires)

pub overflow_cast-at : goal.overflow_cast-at
overflow_cast-at c =
    let fits : Within (length c.pieces.rest.now) c.in-Some.piece =
    piece_fits _ _ _ (sym c.in-Some.ensures) in
    let same = c.size.ensures in
    omega (arith, fits.most, c.pieces.invariant.within, c.requires, same)

pub overflow_add-at : goal.overflow_add-at
overflow_add-at c =
    let fits : Within (length c.pieces.rest.now) c.in-Some.piece =
    piece_fits _ _ _ (sym c.in-Some.ensures) in
    let same = c.size.ensures in
    omega (arith, fits.most, c.pieces.invariant.within, c.requires, same)

pub past-rest-requires : goal.past-rest-requires
past-rest-requires c =
    let fits : Within (length c.pieces.rest.now) c.in-Some.piece =
    piece_fits _ _ _ (sym c.in-Some.ensures) in fits.most

pub pieces-smaller : goal.pieces-smaller
pieces-smaller c =
    let fits : Within (length c.pieces.rest.now) c.in-Some.piece =
    piece_fits _ _ _ (sym c.in-Some.ensures) in
    rw c.past-rest.ensures
    (omega (arith, length-drop (size c.in-Some.piece) c.pieces.rest.now, fits.some, fits.most))

pub pieces-preserved : goal.pieces-preserved
pieces-preserved c =
    let more : Reached c.args.text.now (line_after c.pieces.line c.in-Some.piece) _ _ _ =
    reach_more c.args.text.now c.pieces.line c.pieces.rest.now c.pieces.tokens.items c.pieces.at
    c.in-Some.piece c.pieces.invariant (sym c.in-Some.ensures) in
    rw (
      c.line_after-line.ensures,
      c.past-rest.ensures,
      c.in_ok-push_token.ensures.ok,
      c.size.ensures,
    ) more

pub returns-clause-only : goal.returns-clause-only
returns-clause-only c =
    let none : length c.pieces.rest.now ≡ 0 = grind (arith, nat_tests) in
    λ ts a. one_reading c.args.text.now c.pieces.tokens.items ts
    (whole c.args.text.now c.pieces.rest.now c.pieces.line c.pieces.tokens.items c.pieces.at
    c.pieces.invariant (is_nothing c.pieces.rest.now none)) a
