-- The text of the row is that of the drained book.
use Rattle.std.proofs.Common.{◌∙◌, rules}
use Rattle.fm_logs.specs.declared.disks.DiskName.TheVariants.{Flt}
use Rattle.fm_admin.proofs.Explanations.{explanation_is, force_is}
use Rattle.fm_admin.proofs.Tellings.{refused_as, told_on, wanting_on}
use Rattle.fm_admin.proofs.explaining.explain.Goals as goal

pub returns-in_err-_hands-clause-book : goal.returns-in_err-_hands-clause-book
returns-in_err-_hands-clause-book g c = λ fresh k stands follow.
    refused_as g.D.Disk fresh Flt c.args.store.now c.drain_status.new.store k
    c.in_err-_hands.field-0.0 c.from_residual.result _ _ (search rules)
    (c.in_err-_hands.ensures.book fresh k stands follow)

pub returns-in_err-explained_of-clause-book : goal.returns-in_err-explained_of-clause-book
returns-in_err-explained_of-clause-book g c = λ fresh k stands follow.
    wanting_on g.D.Disk fresh Flt c.args.store.now c.drain_status.new.store k
    (c.in_ok-_hands._hands, c.in_ok-_hands.status) c.from_residual-in_err-explained_of.result _ _
    (search rules) (c.in_ok-_hands.ensures.book fresh k stands follow)

pub returns-clause-book : goal.returns-clause-book
returns-clause-book g c = λ fresh k stands follow.
    told_on g.D.Disk fresh Flt c.args.store.now c.drain_status.new.store k
    (c.in_ok-_hands._hands, c.in_ok-_hands.status) _ _ _
    (c.in_ok-_hands.ensures.book fresh k stands follow)
    (λ now is told. explanation_is c.args.conf.now c.conf_now-in_force.result c.args.uuid.now k now
    c.in_ok-_hands.status _ is told.1
    (c.conf_now-in_force.ensures ∙ force_is g.D.Disk fresh c.args.store.now k stands)
    c.in_ok-explained_of.ensures) tt
