use Rattle.std.proofs.Common.{arith}
use Rattle.dx_sets.proofs.Linking.{gift_there, gift_lost, no_gift}
use Rattle.dx_sets.proofs.links.lose_gift.Goals as goal

pub lose_giver-requires : goal.lose_giver-requires
lose_giver-requires g c =
    gift_there c.args.table.now (g.C.CutTest.is_cut c.args.cuts.now) c.args.root c.args.link
    c.args.sets.now c.requires.steady c.requires.once
    (omega (arith, c.k.ensures, c.causes_left.ensures, c.if-k-causes_left.true))

pub returns-then-k-causes_left : goal.returns-then-k-causes_left
returns-then-k-causes_left g c = rw c.lose_giver.ensures (record {
  paid = λ more one. gift_lost c.args.table.now (g.C.CutTest.is_cut c.args.cuts.now) c.args.root
      c.args.link c.args.sets.now c.requires.steady c.requires.once more one
      (omega (arith, c.k.ensures, c.causes_left.ensures, c.if-k-causes_left.true));
})

pub returns-else-k-causes_left : goal.returns-else-k-causes_left
returns-else-k-causes_left g c = record {
  paid = λ more one. no_gift c.args.table.now (g.C.CutTest.is_cut c.args.cuts.now) c.args.root
      c.args.link c.args.sets.now c.requires.steady c.requires.once more one
      (omega (arith, c.k.ensures, c.causes_left.ensures, c.if-k-causes_left.false));
}
