use Rattle.std.proofs.Common.{◌∙◌, ap, sym, refl, subst, max}
use Rattle.std.proofs.lemmas.Result.{on_ok_weaker, IfOk-weaker}
use Rattle.dx_case.specs.Starts.{AreStartsOf}
use Rattle.dx_rules.specs.Rulebooks.{rules_in}
use Rattle.dx_state.specs.Configured.{configuration_at}
use Rattle.dx_step.proofs.Stepping.{lawful_is}
use Rattle.dx_turn.specs.declared.work.Work.{Work}
use Rattle.dx_turn.specs.Tracking.{cases_before}
use Rattle.dx_engine.specs.Standing.{StandingParts, kept_parts, whole_state, state_of}
use Rattle.dx_engine.specs.Standing.{AreStanding}
use Rattle.dx_engine.proofs.Placing.{begins, begun_told, begun_ready, begun_ascend}
use Rattle.dx_engine.proofs.Placing.{ended_ascend, turned, undone_same, on_either}
use Rattle.dx_engine.proofs.Placing.{starts_there, starts_back, put_starts, same_starts}
use Rattle.dx_engine.proofs.standing.StandingState.turn.Goals as goal

pub ground-ground-requires : goal.ground-ground-requires
ground-ground-requires c =
    (lawful_is (rules_in c.args.rules.now) (state_of c.args.self.now)
    c.requires.standing.parts.lawful).there

pub turn-requires-clause-told : goal.turn-requires-clause-told
turn-requires-clause-told c =
    let p = kept_parts c.args.self.now in
    let e = c.args.entry.now in
    let w : Work = record {
      cases = c.replace-cases.result;
      starts = c.replace-starts.result;
      next = c.args.self.now.next;
      told = c.new-3.result;
    } in
    let d = c.ground-ground.result in
    begun_told d p e w
    (begins c.args.rules.now d p _ e w c.max-time.result c.requires.standing.parts
    c.requires.spelled c.ground-ground.ensures
    (c.max-time.ensures ∙ ap (max c.args.self.now.time) c.moment.ensures)
    (ap (λ v. v.items) c.replace-cases.ensures.value) refl c.new-3.ensures)

pub turn-requires-clause-ready : goal.turn-requires-clause-ready
turn-requires-clause-ready c =
    let p = kept_parts c.args.self.now in
    let e = c.args.entry.now in
    let w : Work = record {
      cases = c.replace-cases.result;
      starts = c.replace-starts.result;
      next = c.args.self.now.next;
      told = c.new-3.result;
    } in
    let d = c.ground-ground.result in
    begun_ready d p e w
    (begins c.args.rules.now d p _ e w c.max-time.result c.requires.standing.parts
    c.requires.spelled c.ground-ground.ensures
    (c.max-time.ensures ∙ ap (max c.args.self.now.time) c.moment.ensures)
    (ap (λ v. v.items) c.replace-cases.ensures.value) refl c.new-3.ensures)

pub turn-requires-clause-ascend : goal.turn-requires-clause-ascend
turn-requires-clause-ascend c =
    let p = kept_parts c.args.self.now in
    let e = c.args.entry.now in
    let w : Work = record {
      cases = c.replace-cases.result;
      starts = c.replace-starts.result;
      next = c.args.self.now.next;
      told = c.new-3.result;
    } in
    let d = c.ground-ground.result in
    begun_ascend d p e w
    (begins c.args.rules.now d p _ e w c.max-time.result c.requires.standing.parts
    c.requires.spelled c.ground-ground.ensures
    (c.max-time.ensures ∙ ap (max c.args.self.now.time) c.moment.ensures)
    (ap (λ v. v.items) c.replace-cases.ensures.value) refl c.new-3.ensures)

pub turn-requires-clause-starts : goal.turn-requires-clause-starts
turn-requires-clause-starts c =
    let p = kept_parts c.args.self.now in
    starts_there c.args.rules.now c.ground-ground.result p _ c.replace-starts.result
    c.max-time.result c.ground-ground.ensures
    (subst (AreStartsOf (configuration_at (rules_in c.args.rules.now) p.conf).graph)
    (sym c.replace-starts.ensures.value) c.requires.standing.starts)

pub put-requires : goal.put-requires
put-requires c =
    let p = kept_parts c.args.self.now in
    let e = c.args.entry.now in
    let w : Work = record {
      cases = c.replace-cases.result;
      starts = c.replace-starts.result;
      next = c.args.self.now.next;
      told = c.new-3.result;
    } in
    let d = c.ground-ground.result in
    ended_ascend d p c.args.number e c.in-Ok.reloaded w c.turn.new.work c.requires.number
    (begins c.args.rules.now d p _ e w c.max-time.result c.requires.standing.parts
    c.requires.spelled c.ground-ground.ensures
    (c.max-time.ensures ∙ ap (max c.args.self.now.time) c.moment.ensures)
    (ap (λ v. v.items) c.replace-cases.ensures.value) refl c.new-3.ensures)
    c.in-Ok.ensures.ok

pub returns-in-Ok-clause-says : goal.returns-in-Ok-clause-says
returns-in-Ok-clause-says c =
    let p = kept_parts c.args.self.now in
    let e = c.args.entry.now in
    let w : Work = record {
      cases = c.replace-cases.result;
      starts = c.replace-starts.result;
      next = c.args.self.now.next;
      told = c.new-3.result;
    } in
    let d = c.ground-ground.result in
    let put = turned c.args.rules.now d p _ c.args.number e c.in-Ok.reloaded w c.turn.new.work
    c.max-time.result c.requires.number
    (begins c.args.rules.now d p _ e w c.max-time.result c.requires.standing.parts
    c.requires.spelled c.ground-ground.ensures
    (c.max-time.ensures ∙ ap (max c.args.self.now.time) c.moment.ensures)
    (ap (λ v. v.items) c.replace-cases.ensures.value) refl c.new-3.ensures)
    c.ground-ground.ensures c.in-Ok.ensures.ok in
    IfOk-weaker c.put.result _ _ (λ words is. is ∙ put.words) c.put.ensures.words

pub returns-in-Ok-clause-after : goal.returns-in-Ok-clause-after
returns-in-Ok-clause-after c =
    let p = kept_parts c.args.self.now in
    let e = c.args.entry.now in
    let w : Work = record {
      cases = c.replace-cases.result;
      starts = c.replace-starts.result;
      next = c.args.self.now.next;
      told = c.new-3.result;
    } in
    let d = c.ground-ground.result in
    let put = turned c.args.rules.now d p _ c.args.number e c.in-Ok.reloaded w c.turn.new.work
    c.max-time.result c.requires.number
    (begins c.args.rules.now d p _ e w c.max-time.result c.requires.standing.parts
    c.requires.spelled c.ground-ground.ensures
    (c.max-time.ensures ∙ ap (max c.args.self.now.time) c.moment.ensures)
    (ap (λ v. v.items) c.replace-cases.ensures.value) refl c.new-3.ensures)
    c.ground-ground.ensures c.in-Ok.ensures.ok in
    on_ok_weaker c.put.result (λ is. ap whole_state is ∙ put.state) c.put.ensures.parts

pub returns-in-Ok-clause-standing : goal.returns-in-Ok-clause-standing
returns-in-Ok-clause-standing c =
    let p = kept_parts c.args.self.now in
    let e = c.args.entry.now in
    let w : Work = record {
      cases = c.replace-cases.result;
      starts = c.replace-starts.result;
      next = c.args.self.now.next;
      told = c.new-3.result;
    } in
    let d = c.ground-ground.result in
    let r = rules_in c.args.rules.now in
    let put = turned c.args.rules.now d p _ c.args.number e c.in-Ok.reloaded w c.turn.new.work
    c.max-time.result c.requires.number
    (begins c.args.rules.now d p _ e w c.max-time.result c.requires.standing.parts
    c.requires.spelled c.ground-ground.ensures
    (c.max-time.ensures ∙ ap (max c.args.self.now.time) c.moment.ensures)
    (ap (λ v. v.items) c.replace-cases.ensures.value) refl c.new-3.ensures)
    c.ground-ground.ensures c.in-Ok.ensures.ok in
    on_either c.put.result c.put.ensures.parts c.put.ensures.err
    (λ is. record {
      parts = subst (AreStanding r) (sym is) put.standing;
      starts = same_starts r c.put.new.self _ c.turn.new.work.starts
          (ap (λ (q : StandingParts). q.conf) is) c.put.ensures.starts
          (put_starts c.args.rules.now d p _ c.in-Ok.reloaded c.turn.new.work c.max-time.result
          c.ground-ground.ensures c.in-Ok.ensures.ok.left);
    })
    (λ is. record {
      parts = subst (AreStanding r)
          (sym (is ∙ undone_same r p c.turn.new.work.cases.items c.requires.standing.parts
          (c.turn.ensures.kept ∙ ap (λ v. cases_before v.items) c.replace-cases.ensures.value)))
          c.requires.standing.parts;
      starts = same_starts r c.put.new.self _ c.turn.new.work.starts
          (ap (λ (q : StandingParts). q.conf) is) c.put.ensures.starts
          (starts_back c.args.rules.now d p _ c.turn.new.work.starts c.max-time.result
          c.ground-ground.ensures c.turn.ensures.starts);
    })

pub returns-in-Err-clause-standing : goal.returns-in-Err-clause-standing
returns-in-Err-clause-standing c =
    let p = kept_parts c.args.self.now in
    let d = c.ground-ground.result in
    let r = rules_in c.args.rules.now in
    let is = c.put_back.ensures.parts in
    record {
      parts = subst (AreStanding r)
          (sym (is ∙ undone_same r p c.turn.new.work.cases.items c.requires.standing.parts
          (c.turn.ensures.kept ∙ ap (λ v. cases_before v.items) c.replace-cases.ensures.value)))
          c.requires.standing.parts;
      starts = same_starts r c.put_back.new.self _ c.turn.new.work.starts
          (ap (λ (q : StandingParts). q.conf) is) c.put_back.ensures.starts
          (starts_back c.args.rules.now d p _ c.turn.new.work.starts c.max-time.result
          c.ground-ground.ensures c.turn.ensures.starts);
    }
