use Rattle.std.proofs.Common.{sym, subst, List}
use Rattle.std.specs.List.{All}
use Rattle.std.proofs.lemmas.Result.{IfOk-weaker}
use Rattle.fm_entry.specs.Words.{IsWordOf}
use Rattle.fm_entry.specs.declared.list_event.ListEvent.{ListEvent}
use Rattle.fm_core.specs.Meaning.{Diagnosing}
use Rattle.dx_rules.specs.Rulebooks.{rules_in}
use Rattle.dx_engine.specs.Standing.{state_of}
use Rattle.dx_step.proofs.Module.{says_words}
use Rattle.dx_engine.proofs.diagnoser.DiagnoserModule.step.Goals as goal

pub returns-clause-events : goal.returns-clause-events
returns-clause-events c =
    let r = rules_in c.self.inside.rules in
    let s = state_of c.self.inside.standing in
    rw (← c.self.view_is) (IfOk-weaker c.turn.result _ _
    (λ words is. subst (λ (ws : List ListEvent). All (IsWordOf r.own) ws) (sym is)
    (says_words r (Diagnosing s) c.args.number c.args.entry.now c.self.invariant.parts.lawful
    c.requires.number c.requires.spelled)) c.turn.ensures.says)
