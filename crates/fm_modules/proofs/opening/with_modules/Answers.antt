-- What is open with its modules, and why it is not.
use denote.Param.Send.{sendable}
use Rattle.std.proofs.Common.{List, sym, ◌∙◌, ap, subst, Some}
use Rattle.fm_saved.specs.declared.conf.Conf.{Conf}
use Rattle.fm_store.specs.StoreOf.{made_modules}
use Rattle.dx_engine.proofs.Crossing.{diagnoser_send}
use Rattle.fm_modules.specs.Modules.{AreModulesOf, ModulesCause}
use Rattle.dx_engine.specs.Diagnosers.{diagnosers}
use Rattle.fm_modules.specs.OpenStore.{fault_of_modules}
use Rattle.fm_modules.proofs.FirstModules.{few_modules}
use Rattle.fm_modules.proofs.StoreModules.{adopting_refused, closed_for_texts, opens_store}
use Rattle.fm_modules.proofs.opening.with_modules.Goals as goal

pub returns-in-Ok-adopt-clause-opens : goal.returns-in-Ok-adopt-clause-opens
returns-in-Ok-adopt-clause-opens g c = λ contents opens told.
    opens_store g.D.Disk c.args.opened (made_modules diagnosers c.in-Ok-make_modules.kept.items)
    (subst (λ (l : List Conf). AreModulesOf l
    (made_modules diagnosers c.in-Ok-make_modules.kept.items)) c.confs.ensures.confs
    c.in-Ok-make_modules.ensures.are) contents (record {
      store = c.in-Ok-adopt.store;
      hands = c.in-Ok-adopt.hands;
      conf = c.in-Ok.conf;
    }) c.conf.result.now c.in-Ok-make_modules.ensures.first opens
    (c.in-Ok-adopt.ensures.adopts contents opens told) c.conf.ensures c.in-Ok.ensures

pub returns-in-Ok-adopt-clause-is : goal.returns-in-Ok-adopt-clause-is
returns-in-Ok-adopt-clause-is g c = record {
  opened = c.args.opened;
  kept = c.in-Ok-make_modules.kept.items;
  modules = subst (λ (l : List Conf). AreModulesOf l
      (made_modules diagnosers c.in-Ok-make_modules.kept.items)) c.confs.ensures.confs
      c.in-Ok-make_modules.ensures.are;
  few = few_modules c.args.opened.confs c.in-Ok-make_modules.kept.items c.confs.ensures.kept
      (subst (λ (l : List Conf). AreModulesOf l
      (made_modules diagnosers c.in-Ok-make_modules.kept.items)) c.confs.ensures.confs
      c.in-Ok-make_modules.ensures.are);
  adopted = c.in-Ok-adopt.ensures.is;
  conf_is = c.conf.ensures ∙ ap Some (sym c.in-Ok.ensures);
}

pub returns-in-Err-adopt-clause-refused : goal.returns-in-Err-adopt-clause-refused
returns-in-Err-adopt-clause-refused g c =
    adopting_refused g.D.Disk c.args.opened
    (made_modules diagnosers c.in-Ok-make_modules.kept.items)
    (subst (λ (l : List Conf). AreModulesOf l
    (made_modules diagnosers c.in-Ok-make_modules.kept.items)) c.confs.ensures.confs
    c.in-Ok-make_modules.ensures.are) c.in-Err-adopt.refused.disks c.in-Err-adopt.refused.fault
    c.in-Err-adopt.ensures.refused

pub returns-in-Err-make_modules-clause-refused : goal.returns-in-Err-make_modules-clause-refused
returns-in-Err-make_modules-clause-refused g c =
    let fault = c.in-Err-make_modules.fault in
    closed_for_texts g.D.Disk c.args.opened c.close-in-Err-make_modules.result fault
    c.modules_fault-fault.result c.close-in-Err-make_modules.ensures
    (c.modules_fault-fault.ensures ∙ ap (λ (l : List Conf). fault_of_modules l fault)
    c.confs-in-Err-make_modules.ensures.confs)
    (subst (λ (l : List Conf). ModulesCause l fault) c.confs.ensures.confs
    c.in-Err-make_modules.ensures.refused)

pub adopt-requires-send-M : goal.adopt-requires-send-M
adopt-requires-send-M g c κs = search (diagnoser_send, sendable)
