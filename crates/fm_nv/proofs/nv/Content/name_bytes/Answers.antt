-- The name at a place of the cells, which is one.
use Rattle.std.proofs.Common.{◌<◌, length, arith, ap, sym, ◌∙◌}
use Rattle.fm_nv.specs.Data.{count, name_at}
use Rattle.fm_nv.specs.Spelled.{names_fit}
use Rattle.fm_nv.specs.View.{pairs_in}
use Rattle.fm_nv.proofs.Cells.{count_in, name_fits}
use Rattle.fm_nv.proofs.nv.Content.name_bytes.Goals as goal

pub name_in-requires : goal.name_in-requires
name_in-requires c =
    let here : c.args.at < length c.deref-2.result.now =
    omega (
      arith,
      count_in c.self.inside.names.items 0 c.self.inside.cells.items,
      ap count c.self.view_is,
      ap length c.deref-2.ensures.value,
      c.requires,
    ) in
    record {
      at = here;
      ends =
          rw (c.deref.ensures.value, c.deref-2.ensures.value) c.self.invariant.ends;
    }

pub returns-clause-name : goal.returns-clause-name
returns-clause-name c =
    c.name_in.ensures ∙ (λ i.
    name_at c.args.at (pairs_in (c.deref.ensures.value i) 0 (c.deref-2.ensures.value i)))
    ∙ ap (name_at c.args.at) c.self.view_is

pub returns-clause-fits : goal.returns-clause-fits
returns-clause-fits c =
    name_fits c.args.self.now c.args.at (sym (ap names_fit c.self.view_is) ∙ c.self.invariant.named)
    c.requires
