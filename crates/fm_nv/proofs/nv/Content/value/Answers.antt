-- The value at a place is that of the cell there.
use Rattle.std.proofs.Common.{◌≡◌, ◌<◌, length, arith, ap, ◌∙◌}
use Rattle.fm_nv.specs.Data.{count, value_at, data_depth}
use Rattle.fm_nv.specs.View.{datum}
use Rattle.fm_nv.proofs.Cells.{count_in, value_in}
use Rattle.fm_nv.proofs.Places.{value_at-smaller}
use Rattle.fm_nv.proofs.nv.Content.value.Goals as goal

pub index-requires : goal.index-requires
index-requires c =
    omega (
      arith,
      count_in c.self.inside.names.items 0 c.self.inside.cells.items,
      ap count c.self.view_is,
      c.self.inside.cells.ok.0,
    )

pub returns-clause-value : goal.returns-clause-value
returns-clause-value c =
    let names = c.self.inside.names.items in
    let cells = c.self.inside.cells.items in
    let here : c.args.at < length cells =
    omega (arith, count_in names 0 cells, ap count c.self.view_is) in
    value_in names 0 cells c.args.at c.index.result.now here c.index.ensures
    ∙ ap (value_at c.args.at) c.self.view_is

pub returns-clause-smaller : goal.returns-clause-smaller
returns-clause-smaller c =
    let names = c.self.inside.names.items in
    let cells = c.self.inside.cells.items in
    let here : c.args.at < length cells =
    omega (arith, count_in names 0 cells, ap count c.self.view_is) in
    let same : datum c.index.result.now.value ≡ value_at c.args.at c.args.self.now =
    value_in names 0 cells c.args.at c.index.result.now here c.index.ensures
    ∙ ap (value_at c.args.at) c.self.view_is in
    omega (arith, value_at-smaller c.args.self.now c.args.at c.requires, ap data_depth same)
