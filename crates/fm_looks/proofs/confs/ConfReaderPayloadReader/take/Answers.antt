-- A configuration that fits is taken, and no other.
use Rattle.fm_logs.specs.ReadsAsBook.{SpellsConf}
use Rattle.fm_looks.specs.Opening.{FitConfs}
use Rattle.fm_looks.proofs.Spelled.{conf_once, none_fits}
use Rattle.fm_looks.proofs.StoreConfs.{conf_refused, conf_taken, kept_push}
use Rattle.fm_looks.proofs.confs.ConfReaderPayloadReader.take.Goals as goal

pub returns-in_default-clause-refused : goal.returns-in_default-clause-refused
returns-in_default-clause-refused c = λ no payloads took. (
  took,
  λ before spelled good.
      none_fits SpellsConf conf_once FitConfs before c.args.payload.now c.args.self.now.confs.items
      spelled (λ x is fit. c.in_default.not-Some x (c.in_ok-conf.ensures.read x is.0 is.1)) good,
)

pub returns-then-not-may_follow-clause-refused : goal.returns-then-not-may_follow-clause-refused
returns-then-not-may_follow-clause-refused c = λ no payloads took. (
  took,
  λ before spelled good.
      none_fits SpellsConf conf_once FitConfs before c.args.payload.now c.args.self.now.confs.items
      spelled (λ x is fit.
      conf_refused c.args.self.now.confs.items c.deref.result.now c.in-Some.conf x
      c.in_ok-conf.field-0 c.deref.ensures.value c.in-Some.is
      (c.in_ok-conf.ensures.read x is.0 is.1) (c.may_follow.ensures.no c.if-not-may_follow.true)
      fit)
      good,
)

pub returns-clause-taken : goal.returns-clause-taken
returns-clause-taken c = λ yes payloads took.
    conf_taken c.args.self.now.confs.items c.deref.result.now c.push.new.self.items
    c.in-Some.conf c.in_ok-conf.field-0 payloads c.args.payload.now c.deref.ensures.value
    c.in_ok-push.ensures.items c.in-Some.is c.in_ok-conf.ensures.found
    (c.may_follow.ensures.yes c.if-not-may_follow.false) took

pub returns-clause-rule : goal.returns-clause-rule
returns-clause-rule c =
    kept_push c.args.self.now.confs.items c.deref.result.now c.push.new.self.items c.in-Some.conf
    c.in_ok-conf.field-0 c.args.payload.now c.deref.ensures.value c.in_ok-push.ensures.items
    c.in-Some.is c.in_ok-conf.ensures.found (c.may_follow.ensures.yes c.if-not-may_follow.false)
