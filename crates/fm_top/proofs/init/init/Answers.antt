use Rattle.std.proofs.Common.{inl, rules}
use Rattle.fm_top.proofs.Confs.{spelled_conf}
use Rattle.fm_top.proofs.init.init.Goals as goal

pub make-requires : goal.make-requires
make-requires g c =
    rw c.in_ok-conf.ensures
    (spelled_conf g.S.Source _ _ c.in_ok-got.got c.args.namespace (search rules) c.requires
    c.in_ok-got.ensures.read)

pub returns-in_err-conf-clause-ends : goal.returns-in_err-conf-clause-ends
returns-in_err-conf-clause-ends g c = inl (record {
  got = c.in_ok-got.got;
  read = c.in_ok-got.ensures.read;
  mades = c.in_ok-got.ensures.graphs.0;
  graphs = c.in_ok-got.ensures.graphs.1;
  making = search rules;
})

pub returns-in_err-make-clause-ends : goal.returns-in_err-make-clause-ends
returns-in_err-make-clause-ends g c = inl (record {
  got = c.in_ok-got.got;
  read = c.in_ok-got.ensures.read;
  mades = c.in_ok-got.ensures.graphs.0;
  graphs = c.in_ok-got.ensures.graphs.1;
  making = search rules;
})

pub returns-clause-ends : goal.returns-clause-ends
returns-clause-ends g c = inl (record {
  got = c.in_ok-got.got;
  read = c.in_ok-got.ensures.read;
  mades = c.in_ok-got.ensures.graphs.0;
  graphs = c.in_ok-got.ensures.graphs.1;
  making = search rules;
})
