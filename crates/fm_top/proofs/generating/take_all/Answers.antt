use Rattle.std.proofs.Common.{◌∙◌, refl, rules}
use Rattle.std.proofs.lemmas.Result.{err_from_is_err_and}
use Rattle.fm_top.proofs.Taking.{given_one, took_next, took_none, took_until}
use Rattle.fm_top.proofs.generating.take_all.Goals as goal

pub entries-init : goal.entries-init
entries-init g c = record {
  took = took_none g.T.Taker.went g.met.T.Taker.stays g.met.T.Taker.goes_on c.args.taker.now
      c.args.entries;
  ready = c.requires.ready;
  same_taker = refl;
}

pub entries-preserved : goal.entries-preserved
entries-preserved g c = record {
  took = took_next g.T.Taker.went g.met.T.Taker.stays g.met.T.Taker.goes_on c.args.taker.now
      c.entries.taker c.take.new.self c.args.entries c.entries.entries c.next.new.self
      c.in-Some.entry c.entries.invariant.took
      (given_one c.in_ok-entry.field-0 c.in-Some.entry c.entries.entries c.next.new.self
      (search rules) c.in_ok-entry.ensures.ok) c.in_ok-take-in-Some.ensures.ok;
  ready = c.in_ok-take-in-Some.ensures.ready;
  same_taker = c.take.ensures.same_taker ∙ c.entries.invariant.same_taker;
}

pub returns-in_err-take-in-Some-clause-until : goal.returns-in_err-take-in-Some-clause-until
returns-in_err-take-in-Some-clause-until g c =
    let p = err_from_is_err_and c.from_residual-in_err-take-in-Some.result
    c.from_residual-in_err-take-in-Some.ensures.1 in
    rw (p.1, p.2) (took_until g.T.Taker.went g.met.T.Taker.stays g.met.T.Taker.goes_on
    c.args.taker.now c.entries.taker c.take.new.self c.args.entries c.entries.entries
    c.next.new.self c.in-Some.entry c.in_err-take-in-Some.field-0.0 c.entries.invariant.took
    (given_one c.in_ok-entry.field-0 c.in-Some.entry c.entries.entries c.next.new.self
    (search rules) c.in_ok-entry.ensures.ok) c.in_err-take-in-Some.ensures.err)
