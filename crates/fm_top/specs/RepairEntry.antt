-- The entry that an operator's word on repairs comes to, by the book that the contents read as.
use Rattle.std.specs.Prelude.{◌≡◌, Option, Some, None, slice_get}
use Rattle.fm_admin.specs.Marking.{IsEntryBy}
use Rattle.fm_command.specs.declared.request.RepairOrder.{RepairOrder}
use Rattle.fm_command.specs.RepairAsked.{RepairAsked}
use Rattle.fm_core.specs.Drained.{drained}
use Rattle.fm_entry.specs.declared.entry.Entry.{Entry}
use Rattle.fm_logs.specs.Contents.{Contents}
use Rattle.fm_logs.specs.StoreBook.{StoreBook, force_now, store_accepted}
use Rattle.fm_saved.specs.declared.conf.Conf.{Conf}
use Rattle.fm_store.specs.StoreLeft.{ReadsLike}
use Rattle.fm_top.specs.Kept.{BookAt}

-- the same, under the namespace of a configuration
abbrev pub order_by : Conf → RepairAsked → RepairOrder
order_by conf asked = record {
  namespace = conf.namespace;
  moment = asked.moment;
  repair = asked.repair;
}

-- the entry that says it, where that marks a suspect of the drained book, or none
abbrev pub IsEntryOf : RepairAsked → Conf → StoreBook → Option Entry → Type 0
IsEntryOf asked conf k e = IsEntryBy conf.namespace asked.moment asked.repair (drained k.book) e

-- with the configuration that is in force in the book
pub record IsEntryAt (asked : RepairAsked) {told : Contents} (stood : BookAt told)
    (e : Option Entry) : Type 0 where
  pub conf : Conf
  pub in_force : slice_get stood.book.confs (force_now stood.book) ≡ Some conf
  pub entry_is : IsEntryOf asked conf stood.book e

-- The contents read as a book, and no suspect of it would be marked once it is drained.
pub record MarksNothing (asked : RepairAsked) (told : Contents) : Type 0 where
  pub stood : BookAt told
  pub none : IsEntryAt asked stood None

-- The image reads like the book with the entry.
pub record HasRepair (asked : RepairAsked) {told : Contents} (stood : BookAt told)
    (image : Contents) : Type 0 where
  pub entry : Entry
  pub found : IsEntryAt asked stood (Some entry)
  pub reads : ReadsLike stood.fresh (store_accepted stood.book entry) image
