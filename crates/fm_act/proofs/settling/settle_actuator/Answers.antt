use Rattle.std.proofs.Common.{ap, ◌∙◌, subst, map}
use Rattle.std.specs.List.{filter}
use Rattle.std.specs.BTreeSet.{IsFromIterResult}
use Rattle.fm_name.specs.Order.{path_cmp}
use Rattle.fm_act.specs.Changes.{TakesPaths}
use Rattle.fm_act.specs.Reconciled.{is_of_kind}
use Rattle.fm_act.proofs.HeldWanted.{settled_is, on_ok_so}
use Rattle.fm_act.proofs.settling.settle_actuator.Goals as goal

pub returns-clause-ok : goal.returns-clause-ok
returns-clause-ok g c =
    on_ok_so c.retire_all.result (λ adds.
    settled_is (g.A.ActCalls.kind_text c.args.act.now) c.args.wanted.now
    c.in_ok-listed_paths.field-0.items (map (λ p. p.now) c.deref.result.now)
    (map (λ p. p.now) c.deref-2.result.now) c.in_ok-wants.wants c.in_ok-holds.holds
    (g.A.ActCalls.held c.args.act.now) (g.A.ActCalls.held c.unretire_all.new.act)
    (g.A.ActCalls.held c.retire_all.new.act)
    (subst (λ ps. IsFromIterResult path_cmp ps c.in_ok-wants.wants)
    (c.in_ok-paths_of_kind.ensures
    ∙ ap (λ k. filter (is_of_kind k) c.args.wanted.now) c.kind.ensures)
    c.in_ok-wants.ensures)
    c.in_ok-holds.ensures c.in_ok-listed_paths.ensures.found
    (ap (map (λ p. p.now)) c.deref.ensures.value ∙ c.in_ok-others.ensures)
    (ap (map (λ p. p.now)) c.deref-2.ensures.value ∙ c.in_ok-missing.ensures)
    (subst (λ h. TakesPaths (map (λ p. p.now) c.deref.result.now) h
    (g.A.ActCalls.held c.unretire_all.new.act))
    c.in_ok-listed_paths.ensures.same c.in_ok-unretire_all.ensures.ok)
    adds)
    c.retire_all.ensures.ok
