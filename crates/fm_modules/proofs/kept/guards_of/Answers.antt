-- Guards that guard no link are none.
use Rattle.std.proofs.Common.{refl, subst, sym, ◌∙◌}
use Rattle.fm_topo.specs.Topology.{Topology}
use Rattle.ev_inst.specs.GuardsOf.{AreGuardsOf}
use Rattle.dx_rules.specs.Payloads.{guarding_of}
use Rattle.dx_rules.proofs.Alike.{none_guarded}
use Rattle.fm_modules.proofs.Guarding.{none_long}
use Rattle.fm_modules.proofs.kept.guards_of.Goals as goal

pub returns-then-is_empty : goal.returns-then-is_empty
returns-then-is_empty c =
    let guards = c.in_ok-guards.guards in
    record {
      guards = guards;
      are = subst (λ (t : Topology). AreGuardsOf c.args.checked.now t c.args.graph.now guards)
          c.in_ok-topo.ensures.same c.in_ok-guards.ensures;
      guarding_is = sym (none_guarded (guarding_of guards) (none_long (guarding_of guards).guarded
          (sym c.is_empty.ensures ∙ c.if-is_empty.true)));
    }

pub returns : goal.returns
returns c =
    let guards = c.in_ok-guards.guards in
    record {
      guards = guards;
      are = subst (λ (t : Topology). AreGuardsOf c.args.checked.now t c.args.graph.now guards)
          c.in_ok-topo.ensures.same c.in_ok-guards.ensures;
      guarding_is = refl;
    }
