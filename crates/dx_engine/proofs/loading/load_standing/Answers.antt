use Rattle.std.proofs.Common.{◌∙◌, ap, sym, subst}
use Rattle.dx_rules.specs.Rulebooks.{rules_in}
use Rattle.dx_state.specs.StateBytes.{diagnosis_bytes}
use Rattle.dx_engine.specs.Standing.{whole_state, AreStanding}
use Rattle.dx_engine.proofs.Loads.{loaded_same, loaded_stands}
use Rattle.dx_engine.proofs.loading.load_standing.Goals as goal

pub returns-clause-ok : goal.returns-clause-ok
returns-clause-ok c =
    let l = c.in_ok-loaded.loaded in
    ap (λ q. diagnosis_bytes (whole_state q)) c.in_ok-standing.ensures.parts
    ∙ ap diagnosis_bytes (loaded_same l) ∙ c.in_ok-loaded.ensures.ok.spelled

pub returns-clause-standing : goal.returns-clause-standing
returns-clause-standing c =
    let r = rules_in c.args.rules.now in
    c.in_ok-standing.ensures.stands r (subst (AreStanding r) (sym c.in_ok-standing.ensures.parts)
    (loaded_stands r c.args.bytes.now c.in_ok-loaded.loaded c.in_ok-loaded.ensures.ok))
