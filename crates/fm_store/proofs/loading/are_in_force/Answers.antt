-- One module more has the configuration in force, or does not.
use Rattle.std.proofs.Common.{◌≡◌, ℕ, Option, refl, length, subst, arith}
use Rattle.std.specs.Option.{ForSome}
use Rattle.std.proofs.lemmas.Option.{slice_get_read, slice_get_within}
use Rattle.fm_store.proofs.Loads.{all_in_force, in_force_next, one_not_in_force}
use Rattle.fm_store.proofs.loading.are_in_force.Goals as goal

pub returns-then-not-is_in_force-clause-no : goal.returns-then-not-is_in_force-clause-no
returns-then-not-is_in_force-clause-no g c = λ _.
    one_not_in_force g.M.Module c.args.modules.now c.modules.own-index c.args.in_force
    c.own-item.result
    (slice_get_read c.args.modules.now (length c.args.modules.now) c.modules.own-index
    c.own-item.result refl c.modules-test.true c.own-item.is)
    (subst (λ (o : Option ℕ). ForSome o (λ n. n ≡ c.args.in_force) → ⊥) c.conf.ensures
    (c.is_in_force.ensures.no c.if-not-is_in_force.true))

pub modules-preserved : goal.modules-preserved
modules-preserved g c =
    in_force_next g.M.Module c.args.modules.now c.modules.own-index c.args.in_force
    c.own-item.result
    (slice_get_read c.args.modules.now (length c.args.modules.now) c.modules.own-index
    c.own-item.result refl c.modules-test.true c.own-item.is)
    (subst (λ (o : Option ℕ). ForSome o (λ n. n ≡ c.args.in_force)) c.conf.ensures
    (c.is_in_force.ensures.yes c.if-not-is_in_force.false))
    c.modules.invariant

pub returns-clause-yes : goal.returns-clause-yes
returns-clause-yes g c = λ _.
    all_in_force g.M.Module c.args.modules.now c.args.in_force
    (λ j o there. c.modules.invariant j o
    (omega (arith, c.modules-test.false, slice_get_within c.args.modules.now j o there)) there)
