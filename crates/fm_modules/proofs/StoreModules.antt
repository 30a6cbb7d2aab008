-- The looks of an opening with the one at the modules among them, and what a store is opened with.
use Rattle.std.proofs.Common.{◌≡◌, inl, inr, List, [], ◌∷◌, ◌++◌, map, Some, slice_get}
use Rattle.std.proofs.Common.{refl, sym, ◌∙◌, ap, subst}
use Rattle.fm_core.specs.Book.{ModuleState}
use Rattle.fm_init.specs.Making.{AreFirstModules}
use Rattle.fm_init.specs.declared.refused.StoreRefused.{StoreRefused}
use Rattle.fm_logs.specs.Contents.{Contents, AreTold, WereOnlyRead, disk_named}
use Rattle.fm_logs.specs.ReadsAsBook.{SpellsConf}
use Rattle.fm_logs.specs.StoreBook.{force_along}
use Rattle.fm_logs.specs.declared.disks.Disks.{Disks}
use Rattle.fm_logs.specs.declared.disks.DiskName.TheVariants.{Conf as ConfDisk}
use Rattle.fm_logs.specs.declared.fault.StoreFault.{StoreFault}
use Rattle.fm_logs.specs.declared.fault.StoreFault.TheVariants.{Disk, Full, Closed, Damaged, Exists}
use Rattle.fm_logs.specs.declared.fault.StoreFault.TheVariants.{NoMemory}
use Rattle.fm_looks.proofs.Spelled.{conf_once}
use Rattle.fm_looks.specs.Opening.{AllStorePass, DamageAt, FirstStoreFinds, StoreLook, StorePasses}
use Rattle.fm_looks.specs.Opening.{WasRead, adopt_looks, at_confs, book_read}
use Rattle.fm_looks.specs.Opening.{open_looks}
use Rattle.fm_outer.proofs.Moments.{OnlyNow, read-none, read-then}
use Rattle.fm_outer.specs.Failures.{Rose}
use Rattle.fm_outer.specs.declared.disk.Disk.{Ghosts}
use Rattle.fm_saved.specs.declared.conf.Conf.{Conf}
use Rattle.fm_store.proofs.Damages.{same_log}
use Rattle.fm_store.proofs.OpeningLaws.{opens_book, reads_as_book}
use Rattle.fm_store.specs.Adopting.{AdoptRefused, Adopts}
use Rattle.fm_store.specs.Opened.{NoneFailed, OpenRefused, OpenedOf, Opens, OpensBook}
use Rattle.fm_store.specs.Opened.{disks_of}
use Rattle.fm_modules.specs.KeptTexts.{IsFirstRefused}
use Rattle.fm_modules.specs.Modules.{AreModulesOf, ModulesCause}
use Rattle.dx_engine.specs.Diagnosers.{diagnosers}
use Rattle.fm_modules.specs.OpenStore.{ModulesRefused, OpenStoreRefused, OpensStore}
use Rattle.fm_modules.specs.OpenStore.{fault_of_modules}
use Rattle.fm_modules.specs.Opening.{FirstOpeningFinds, OpeningLook, at_disk, at_modules, conf_gate}
use Rattle.fm_modules.specs.declared.fault.ModulesFault.{ModulesFault}
use Rattle.fm_modules.specs.declared.fault.ModulesFault.TheVariants as modules
use Rattle.fm_modules.specs.declared.opening.OpenStore.{OpenStore}

module _ (fresh : List ModuleState) (c : Contents) (read : WasRead) (d : DamageAt) where
  -- looks at disks pass before what another finds
  passed : (looks : List StoreLook) (rest : List OpeningLook) → AllStorePass fresh c read looks
      → FirstOpeningFinds fresh c read rest d
      → FirstOpeningFinds fresh c read (map at_disk looks ++ rest) d
  passed [] rest pass finds = finds
  passed (look ∷ looks) rest pass finds = inr (pass.0, passed looks rest pass.1 finds)

  -- one of them finds it, whatever follows
  found : (looks : List StoreLook) (rest : List OpeningLook)
      → FirstStoreFinds fresh c read looks d
      → FirstOpeningFinds fresh c read (map at_disk looks ++ rest) d
  found [] rest finds = absurd finds
  found (look ∷ looks) rest (inl finds) = inl finds
  found (look ∷ looks) rest (inr later) = inr (later.0, found looks rest later.1)

  last_found : (looks : List StoreLook) → FirstStoreFinds fresh c read looks d
      → FirstOpeningFinds fresh c read (map at_disk looks) d
  last_found [] finds = absurd finds
  last_found (look ∷ looks) (inl finds) = inl finds
  last_found (look ∷ looks) (inr later) = inr (later.0, last_found looks later.1)

  -- the look at the modules passes between them
  inserted : (looks more : List StoreLook)
      → (AllStorePass fresh c read looks → AreModulesOf read.confs fresh)
      → FirstStoreFinds fresh c read (looks ++ more) d
      → FirstOpeningFinds fresh c read (map at_disk looks ++ (at_modules ∷ map at_disk more)) d
  inserted [] more make finds = inr (make tt, last_found more finds)
  inserted (look ∷ looks) more make (inl finds) = inl finds
  inserted (look ∷ looks) more make (inr later) =
      inr (later.0, inserted looks more (λ rest. make (later.0, rest)) later.1)

-- the configurations of contents are one list
confs_alike : (f g : List ModuleState) (c : Contents) (x y : WasRead)
    → StorePasses f c x at_confs → StorePasses g c y at_confs → x.confs ≡ y.confs
confs_alike f g c x y one other =
    (same_log SpellsConf conf_once c.conf one.0.0 other.0.0 x.confs y.confs one.0.1 other.0.1).1

module _ {D : Type 0} (g : Ghosts D) where
  -- ---- a store that was open
  module _ (o : OpenedOf D) where
    -- want of memory
    pub closed_for_memory : (r : StoreRefused D)
        → r ≡ record { disks = disks_of o; fault = NoMemory }
        → ModulesRefused g o r.disks r.fault
    closed_for_memory r is =
        subst (λ (x : StoreRefused D). ModulesRefused g o x.disks x.fault) (sym is) tt

    pub closed_back : OnlyNow g → (r : StoreRefused D) (fault : StoreFault)
        → r ≡ record { disks = disks_of o; fault = fault } → WereOnlyRead g (disks_of o) r.disks
    closed_back now r fault is =
        subst (λ (x : StoreRefused D). WereOnlyRead g (disks_of o) x.disks) (sym is)
        (λ name. read-none g now (disk_named name (disks_of o)))

    -- a text is refused
    texts_refused : (fault : ModulesFault) → ModulesCause o.confs fault
        → ModulesRefused g o (disks_of o) (fault_of_modules o.confs fault)
    texts_refused (modules.Refused at) cause = λ c opens told.
        let same = opens.confs_are in (
          [],
          opens.read,
          passed [] c opens.read (record { disk = ConfDisk; place = conf_gate o.confs at })
              open_looks (at_modules ∷ map at_disk adopt_looks) opens.pass
              (inl (
                refl,
                at,
                subst (λ l. IsFirstRefused l at) same cause,
                ap (λ l. conf_gate l at) same,
              )),
        )
    texts_refused modules.NoMemory cause = tt

    pub closed_for_texts : (r : StoreRefused D) (fault : ModulesFault) (is_fault : StoreFault)
        → r ≡ record { disks = disks_of o; fault = is_fault }
        → is_fault ≡ fault_of_modules o.confs fault → ModulesCause o.confs fault
        → ModulesRefused g o r.disks r.fault
    closed_for_texts r fault is_fault is same cause =
        subst (λ (x : StoreRefused D). ModulesRefused g o x.disks x.fault)
        (sym (is ∙ ap (λ f. record { disks = disks_of o; fault = f }) same))
        (texts_refused fault cause)

    module _ (fresh : List ModuleState) (are : AreModulesOf o.confs fresh) where
      -- the modules found damage
      pub adopting_refused : (new : Disks D) (fault : StoreFault)
          → AdoptRefused g fresh o new fault → ModulesRefused g o new fault
      adopting_refused new (Damaged disk place) refused = λ c opens told.
          let finds = refused c opens told in (
            fresh,
            finds.0,
            inserted fresh c finds.0 (record { disk = disk; place = place }) open_looks adopt_looks
                (λ pass. subst (λ l. AreModulesOf l fresh) (opens.confs_are
                ∙ confs_alike [] fresh c opens.read finds.0 opens.pass.0 pass.0) are)
                finds.1,
          )
      adopting_refused new Disk refused = refused
      adopting_refused new NoMemory refused = tt
      adopting_refused new (Full kind) refused = absurd refused
      adopting_refused new (Closed disk count) refused = absurd refused
      adopting_refused new Exists refused = absurd refused

      -- the store that stands for the book which the contents read as
      pub opens_store : (c : Contents) (s : OpenStore D) (conf : Conf) → AreFirstModules fresh
          → Opens g c o → Adopts g diagnosers c fresh s.store s.hands.items
          → slice_get o.confs (force_along o.checkpoint.conf o.entries) ≡ Some conf
          → s.conf ≡ conf → OpensStore g c s
      opens_store c s conf first opens adopts there is =
          let book : OpensBook o (book_read adopts.read) =
          opens_book g fresh c o (book_read adopts.read) opens
          (reads_as_book fresh c adopts.read first adopts.pass) in
          record {
            fresh = fresh;
            adopts = adopts;
            modules = subst (λ l. AreModulesOf l fresh) book.confs_are are;
            conf_is = (λ i. slice_get (sym book.confs_are i)
                (force_along (sym book.force_is i) (sym book.entries_are i)))
                ∙ there ∙ ap Some (sym is);
          }

  -- ---- a store that was not
  pub opening_refused : (old new : Disks D) (fault : StoreFault) → OpenRefused g old new fault
      → OpenStoreRefused g old new fault
  opening_refused old new (Damaged disk place) refused = λ c told.
      let finds = refused c told in (
        [],
        finds.0,
        found [] c finds.0 (record { disk = disk; place = place })
            open_looks (at_modules ∷ map at_disk adopt_looks) finds.1,
      )
  opening_refused old new Disk refused = refused
  opening_refused old new NoMemory refused = tt
  opening_refused old new (Full kind) refused = absurd refused
  opening_refused old new (Closed disk count) refused = absurd refused
  opening_refused old new Exists refused = absurd refused

  -- what the disks told before they were read they tell still
  pub still_told : (old new : Disks D) (c : Contents) → WereOnlyRead g old new → AreTold g old c
      → AreTold g new c
  still_told old new c read told = λ name. (read name).same ∙ told name

  pub then_refused : (old : Disks D) (o : OpenedOf D) (new : Disks D) (fault : StoreFault)
      → ((c : Contents) → AreTold g old c → Opens g c o) → WereOnlyRead g old (disks_of o)
      → NoneFailed g old (disks_of o) → ModulesRefused g o new fault
      → OpenStoreRefused g old new fault
  then_refused old o new (Damaged disk place) opens read kept refused = λ c told.
      refused c (opens c told) (still_told old (disks_of o) c read told)
  then_refused old o new Disk opens read kept refused = (
    refused.0,
    subst (λ n. Rose n (g.failures (disk_named refused.0 new))) (kept refused.0)
        refused.1,
  )
  then_refused old o new NoMemory opens read kept refused = tt
  then_refused old o new (Full kind) opens read kept refused = absurd refused
  then_refused old o new (Closed disk count) opens read kept refused = absurd refused
  then_refused old o new Exists opens read kept refused = absurd refused

  pub then_back : OnlyNow g → (old mid new : Disks D) → WereOnlyRead g old mid
      → WereOnlyRead g mid new → WereOnlyRead g old new
  then_back now old mid new one other = λ name.
      read-then g _ _ _ (one name) (other name)
