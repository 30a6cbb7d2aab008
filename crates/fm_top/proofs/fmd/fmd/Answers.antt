use Rattle.std.proofs.Common.{inl, inr, refl, rules, Ok}
use Rattle.std.proofs.lemmas.Result.{err_from_is_err_and}
use Rattle.fm_answers.specs.StreamsAt.{sink_at}
use Rattle.fm_top.proofs.FmdDoing.{stopped_ran}
use Rattle.fm_top.proofs.Standing.{reads_standing}
use Rattle.fm_top.proofs.TasksDone.{fmd_did}
use Rattle.fm_top.proofs.fmd.fmd.Goals as goal

pub returns-clause-ran : goal.returns-clause-ran
returns-clause-ran g c = inr (inr (record {
  got = c.in_ok-got.got;
  sources = record {
    read = reads_standing g.S.Source _ _ _ _ (Ok c.in_ok-got.got) c.in_ok-got.ensures.read;
    mades = c.in_ok-got.ensures.graphs.0;
    graphs = c.in_ok-got.ensures.graphs.1;
  };
  conclusion = c.in-Concluded.conclusion;
  middle = sink_at g.K.Sink c.work_store.new.out;
  store = fmd_did c.in_ok-got.got c.in_ok-done.done c.in-Concluded.conclusion _ _ _ _ _ _
      (search rules) c.in_ok-done.ensures.ran;
  settled = c.settle.ensures.ends;
}))

pub returns-in_err-done-clause-ran : goal.returns-in_err-done-clause-ran
returns-in_err-done-clause-ran g c =
    let p = err_from_is_err_and c.from_residual-in_err-done.result
    c.from_residual-in_err-done.ensures.1 in
    rw (p.1, p.2) (inr (inl (record {
      got = c.in_ok-got.got;
      sources = record {
        read = reads_standing g.S.Source _ _ _ _ (Ok c.in_ok-got.got) c.in_ok-got.ensures.read;
        mades = c.in_ok-got.ensures.graphs.0;
        graphs = c.in_ok-got.ensures.graphs.1;
      };
      stop = c.in_err-done.field-0.0;
      told = refl;
      store = c.in_err-done.ensures.ran;
      unmoved = refl;
    })))

pub returns-in_err-got-clause-ran : goal.returns-in_err-got-clause-ran
returns-in_err-got-clause-ran g c =
    let p = err_from_is_err_and c.from_residual.result
    c.from_residual.ensures.1 in
    rw (p.1, p.2) (stopped_ran g.S.Source _ _ _ _ _ _ _ _ c.in_err-got.field-0.0
    c.in_err-got.ensures.refused)
