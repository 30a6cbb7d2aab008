use Rattle.std.proofs.Common.{◌≡◌, length}
use Rattle.fm_top.specs.Generate.{TookFirst}
use Rattle.fm_top.proofs.generating.take_all.Given as goal

abbrev pub invariant-entries : goal.invariant-entries
invariant-entries g l = record {
  took : TookFirst (g.T.Taker.went l.initial.taker l.taker) l.initial.entries l.entries;
  ready : g.T.Taker.ready l.taker;
  same_taker : g.T.Taker.name l.taker ≡ g.T.Taker.name l.initial.taker;
}

abbrev pub decreases-entries : goal.decreases-entries
decreases-entries g l = length l.entries
