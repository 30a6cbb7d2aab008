use Rattle.fm_lent.proofs.Lending.{first_of_pair}
use Rattle.fm_logs.specs.declared.disks.DiskName.TheVariants.{Conf, ErrA, ErrB, SlotA, SlotB, Flt}
use Rattle.fm_top.proofs.Makings.{names_paired}
use Rattle.fm_top.proofs.opened.task_lent.Goals as goal

pub returns-clause-same_conf : goal.returns-clause-same_conf
returns-clause-same_conf g c = first_of_pair _ _ _ _ (c.task_on.ensures.same_disks Conf)

pub returns-clause-same_err_a : goal.returns-clause-same_err_a
returns-clause-same_err_a g c = first_of_pair _ _ _ _ (c.task_on.ensures.same_disks ErrA)

pub returns-clause-same_err_b : goal.returns-clause-same_err_b
returns-clause-same_err_b g c = first_of_pair _ _ _ _ (c.task_on.ensures.same_disks ErrB)

pub returns-clause-same_slot_a : goal.returns-clause-same_slot_a
returns-clause-same_slot_a g c = first_of_pair _ _ _ _ (c.task_on.ensures.same_disks SlotA)

pub returns-clause-same_slot_b : goal.returns-clause-same_slot_b
returns-clause-same_slot_b g c = first_of_pair _ _ _ _ (c.task_on.ensures.same_disks SlotB)

pub returns-clause-same_flt : goal.returns-clause-same_flt
returns-clause-same_flt g c = first_of_pair _ _ _ _ (c.task_on.ensures.same_disks Flt)

pub returns-clause-same_disks : goal.returns-clause-same_disks
returns-clause-same_disks g c =
    names_paired _ _ _ _ (c.task_on.ensures.same_disks Conf) (c.task_on.ensures.same_disks ErrA)
    (c.task_on.ensures.same_disks ErrB) (c.task_on.ensures.same_disks SlotA)
    (c.task_on.ensures.same_disks SlotB) (c.task_on.ensures.same_disks Flt)
