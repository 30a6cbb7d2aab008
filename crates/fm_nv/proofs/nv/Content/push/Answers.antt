-- What is kept with one pair more.
use Rattle.std.proofs.Common.{◌+◌, ◌<◌, ℕ, List, [], ◌∷◌, ◌++◌, length, arith, ap, sym, subst, ◌∙◌}
use Rattle.std.specs.Bool.{OnTrue}
use Rattle.fm_nv.specs.Ascending.{IsPast}
use Rattle.fm_nv.specs.Data.{Pairs, count, add}
use Rattle.fm_nv.specs.View.{datum}
use Rattle.fm_nv.specs.declared.nv.Cell.{Cell}
use Rattle.fm_nv.proofs.Cells.{count_in, content_push, content_pairs}
use Rattle.fm_nv.proofs.nv.Content.push.Goals as goal

pub invariant_of-self-2 : goal.invariant_of-self-2
invariant_of-self-2 c =
    let room : length c.self.inside.cells.items < 65535 =
    omega (
      arith,
      count_in c.self.inside.names.items 0 c.self.inside.cells.items,
      ap count c.self.view_is,
      c.requires.room,
    ) in
    let cell : Cell = record { end = c.len.result + length c.args.name.now; value = c.args.value }
    in
    content_push c.self.inside.deep _ c.self.inside.ascending _ c.self.inside.names.items
    c.args.name.now _ c.self.inside.cells.items _ cell c.self.invariant c.requires.name room
    (omega (arith, c.len.ensures, c.self.inside.names.ok.0))
    (omega (arith, c.max-deep.ensures, c.depth.ensures.deep))
    (subst (λ (ps : Pairs). OnTrue c.is_past-ascending.result (IsPast c.args.name.now ps))
    (sym c.self.view_is)
    c.is_past-ascending.ensures)
    (c.in_ok-extend_from_slice.ensures.items
    ∙ ap (λ (ns : List ℕ). c.self.inside.names.items ++ ns) c.as_bytes.ensures.value)
    (c.push_reserved.ensures.items
    ∙ ap (λ (cs : List Cell). cs ++ cell ∷ []) c.in_ok-reserve.ensures.items)

pub returns-clause-ok : goal.returns-clause-ok
returns-clause-ok c =
    let cell : Cell = record { end = c.len.result + length c.args.name.now; value = c.args.value }
    in
    content_pairs c.self.inside.names.items c.args.name.now _ c.self.inside.cells.items _ cell
    c.self.inside.deep c.self.inside.ascending c.self.invariant
    (omega (arith, c.len.ensures, c.self.inside.names.ok.0))
    (c.in_ok-extend_from_slice.ensures.items
    ∙ ap (λ (ns : List ℕ). c.self.inside.names.items ++ ns) c.as_bytes.ensures.value)
    (c.push_reserved.ensures.items
    ∙ ap (λ (cs : List Cell). cs ++ cell ∷ []) c.in_ok-reserve.ensures.items)
    ∙ ap (add c.args.name.now (datum c.args.value)) c.self.view_is
