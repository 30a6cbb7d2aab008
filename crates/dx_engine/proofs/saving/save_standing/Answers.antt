use Rattle.std.proofs.Common.{◌∙◌, ◌++◌, ap, sym, subst, map}
use Rattle.std.proofs.lemmas.Result.{on_ok_weaker}
use Rattle.fm_core.specs.Meaning.{Diagnosis}
use Rattle.dx_case.specs.Cases.{open_of}
use Rattle.dx_rules.specs.Rulebooks.{rules_in}
use Rattle.dx_restore.specs.declared.parts.Parts.{Parts}
use Rattle.dx_restore.specs.Saving.{IsLawfulSomewhere}
use Rattle.dx_state.specs.StateBytes.{diagnosis_bytes}
use Rattle.dx_turn.specs.Tracking.{cases_before}
use Rattle.dx_engine.specs.Standing.{kept_parts}
use Rattle.dx_engine.proofs.Saves.{somewhere, short_cases, ArePartsToSave, saved_state}
use Rattle.dx_engine.proofs.saving.save_standing.Goals as goal

pub kept_cases-requires : goal.kept_cases-requires
kept_cases-requires c =
    short_cases (rules_in c.args.rules.now) (kept_parts c.args.standing.now) c.cases.result.now
    c.cases.ensures c.requires.parts

pub save-requires : goal.save-requires
save-requires c =
    let p = kept_parts c.args.standing.now in
    let q : Parts = record {
      conf = c.conf.result;
      time = c.time.result;
      next = c.next.result;
      cases = c.as_slice.result;
      solved = c.solved.result;
      engines = c.engines.result;
    } in
    let made : ArePartsToSave p q = record {
      conf = c.conf.ensures;
      time = c.time.ensures;
      next = c.next.ensures;
      cases = c.as_slice.ensures.value ∙ c.in_ok-cases.ensures
          ∙ ap (λ ts. map open_of (cases_before ts)) c.cases.ensures;
      solved = c.solved.ensures;
      engines = c.engines.ensures;
    } in
    subst IsLawfulSomewhere (sym (saved_state p q made))
    (somewhere (rules_in c.args.rules.now) p c.requires.parts)

pub returns-clause-ok : goal.returns-clause-ok
returns-clause-ok c =
    let p = kept_parts c.args.standing.now in
    let q : Parts = record {
      conf = c.conf.result;
      time = c.time.result;
      next = c.next.result;
      cases = c.as_slice.result;
      solved = c.solved.result;
      engines = c.engines.result;
    } in
    let made : ArePartsToSave p q = record {
      conf = c.conf.ensures;
      time = c.time.ensures;
      next = c.next.ensures;
      cases = c.as_slice.ensures.value ∙ c.in_ok-cases.ensures
          ∙ ap (λ ts. map open_of (cases_before ts)) c.cases.ensures;
      solved = c.solved.ensures;
      engines = c.engines.ensures;
    } in
    on_ok_weaker c.save.result
    (λ is. is ∙ ap (λ (s : Diagnosis). c.args.out.now.items ++ diagnosis_bytes s)
    (saved_state p q made)) c.save.ensures.ok
