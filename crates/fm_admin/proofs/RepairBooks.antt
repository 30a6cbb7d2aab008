-- An operator's word on a repair: the entry that it comes to, and what becomes of the book.
use Rattle.std.proofs.Common.{◌≡◌, inl, inr, ℕ, suc, Bool, ◌||◌, List, [], ◌∷◌, ◌++◌, length}
use Rattle.std.proofs.Common.{map, Option}
use Rattle.std.proofs.Common.{Some, None, Result, Ok, Err, IfOk, IfErr, refl, sym, ◌∙◌, ap}
use Rattle.std.proofs.Common.{subst, arith}
use Rattle.std.specs.List.{list_any, slice_get}
use Rattle.std.proofs.lemmas.Result.{IfOk-weaker, IfErr-weaker}
use Rattle.dx_step.specs.Repairs.{Chosen}
use Rattle.fm_outer.specs.declared.disk.Disk.{Ghosts}
use Rattle.fm_outer.proofs.Moments.{leaves-weaker}
use Rattle.fm_core.specs.Book.{Book, ModuleState, next_number}
use Rattle.fm_core.specs.Drained.{Drained, Ended, drained, ended}
use Rattle.fm_core.specs.Folds.{state_along}
use Rattle.fm_core.specs.Hands.{HandOf, shown}
use Rattle.fm_core.specs.Meaning.{State}
use Rattle.fm_core.specs.Seen.{Follows}
use Rattle.fm_core.specs.declared.module.Module.{Ghosts as ModuleGhosts}
use Rattle.fm_core.proofs.Places.{taken_all}
use Rattle.fm_drain.specs.DrainCalls.{AllFollow}
use Rattle.fm_drain.specs.DrainLimits.{DrainIsFull}
use Rattle.fm_entry.specs.Entries.{entry_bytes}
use Rattle.fm_entry.specs.declared.entry.Entry.{Entry}
use Rattle.fm_entry.specs.declared.list_event.ListEvent.{ListEvent}
use Rattle.fm_journal.specs.JournalOf.{JournalOf}
use Rattle.fm_logs.specs.Contents.{Contents}
use Rattle.fm_logs.specs.LogsBook.{DrainAlike}
use Rattle.fm_logs.specs.LogsOf.{CannotTake, name_of_two}
use Rattle.fm_logs.specs.StoreBook.{StoreBook, store_accepted}
use Rattle.fm_logs.specs.declared.disks.DiskName.TheVariants.{Flt}
use Rattle.fm_logs.specs.declared.fault.StoreFault.{StoreFault}
use Rattle.fm_logs.specs.declared.fault.StoreFault.TheVariants.{Disk, Full, Closed, NoMemory}
use Rattle.fm_logs.specs.declared.fault.StoreFault.TheVariants.{Damaged, Exists}
use Rattle.fm_drain.specs.CaseStatus.{IsStatusOf}
use Rattle.fm_store.specs.StoreCalls.{HandsAreDone}
use Rattle.fm_store.specs.StoreLeft.{ReadsLike, ReadsLikeEither, store_disk, with_content}
use Rattle.fm_store.specs.StoreOf.{StoreOf, StoreStandsFor}
use Rattle.fm_store.proofs.StoreReads.{like_through}
use Rattle.fm_drain.specs.Wanting.{AreWantedOf}
use Rattle.fm_admin.specs.Limits.{RepairLimit, TakeLimit}
use Rattle.fm_admin.specs.Marking.{IsEntryBy, entry_by, marks_drained, marks_hands, marks_in}
use Rattle.fm_admin.specs.Repairing.{AreHandsAndEntry, IsRepairedBy, RepairDid, RepairRefused}
use Rattle.fm_admin.specs.Repairing.{RepairsBook, TakeRefused, TakesAndTells}
use Rattle.fm_admin.specs.Repairing.{TookOne}
use Rattle.fm_admin.specs.Telling.{AreHandsAndStatus, IsDrainedOf, StandsTold, TellsBook}
use Rattle.fm_admin.specs.Telling.{TellRefused, WasDrained}
use Rattle.fm_command.specs.declared.request.RepairOrder.{RepairOrder}
use Rattle.fm_admin.specs.declared.repairing.Repaired.{Repaired}
use Rattle.fm_admin.proofs.Repairs.{accepted_alike}
use Rattle.fm_admin.proofs.Tellings.{refused_on, tell_full, told_on}
use Rattle.fm_drain.proofs.BasedBooks.{drained_same}

module _ {M : Type 0} (m : ModuleGhosts M) where
  -- a hand at the end has the state of its module in the drained book
  state_there : (k : Book) (i : ℕ) (p : ModuleState) (h : HandOf M) → Follows k i p (shown m h)
      → h.cursor ≡ next_number k → m.state h.object ≡ (ended k p).state
  state_there k i p h follows at =
      follows.folds ∙ ap (λ (es : List Entry). state_along p.meaning p.state k.base es)
      (taken_all k h.cursor (omega (arith, at)))

  marks_same : (test : State → Bool) (k : Book) (ps : List ModuleState) (hands : List (HandOf M))
      → length hands ≡ length ps
      → ((i : ℕ) (p : ModuleState) (h : HandOf M) → slice_get ps i ≡ Some p
      → slice_get hands i ≡ Some h → m.state h.object ≡ (ended k p).state)
      → list_any (λ h. test (m.state h.object)) hands
      ≡ list_any (λ (e : Ended). test e.state) (map (ended k) ps)
  marks_same test k [] [] many each = refl
  marks_same test k [] (h ∷ hands) many each = absurd (omega (arith, many))
  marks_same test k (p ∷ ps) [] many each = absurd (omega (arith, many))
  marks_same test k (p ∷ ps) (h ∷ hands) many each =
      let first : test (m.state h.object) ≡ test (ended k p).state =
      ap test (each 0 p h refl refl) in
      let rest : list_any (λ h. test (m.state h.object)) hands
      ≡ list_any (λ (e : Ended). test e.state) (map (ended k) ps) =
      marks_same test k ps hands (omega (arith, many))
      (λ i q d one other. each (suc i) q d one other) in
      ap (λ b. b || list_any (λ h. test (m.state h.object)) hands) first
      ∙ ap (λ b. test (ended k p).state || b) rest

  -- what hands that are done mark is what the drained book marks
  marks_done : (k : Book) (hands : List (HandOf M)) → HandsAreDone m k hands → (chosen : Chosen)
      → marks_hands m hands chosen ≡ marks_drained (drained k) chosen
  marks_done k hands done chosen =
      marks_same (marks_in chosen) k k.modules hands done.as_many
      (λ i p h one other. state_there k i p h (done.follow i h other p one)
      (done.at_end i h other))

  -- the entry that the operator's word comes to, by the drained book
  pub entry_found : (order : RepairOrder) (k now : StoreBook) (hands : List (HandOf M))
      (rows : List ListEvent) (e : Option Entry) → IsDrainedOf k now
      → AreHandsAndStatus m now hands rows
      → e ≡ entry_by order.namespace order.moment order.repair rows (marks_hands m hands)
      → AreHandsAndEntry m order k now hands e
  entry_found order k now hands rows e is told found =
      let same : drained now.book ≡ drained k.book = drained_same now.book k.book is.alike in
      let marks : marks_hands m hands ≡ marks_drained (drained now.book) =
      λ i chosen. marks_done now.book hands told.0 chosen i in (
        told.0,
        record {
          rows = rows;
          status = subst (λ (d : Drained). IsStatusOf d rows) same told.1;
          entry_is = found
              ∙ (ap (λ f. entry_by order.namespace order.moment order.repair rows f) marks
              ∙ ap (λ (d : Drained). entry_by order.namespace order.moment order.repair rows
              (marks_drained d)) same);
        },
      )

-- ---- from the drained book to the one before

either_through : (fresh : List ModuleState) (k w : StoreBook) (e : Entry) (c : Contents)
    → IsDrainedOf k w → ReadsLikeEither fresh w (store_accepted w e) c
    → ReadsLikeEither fresh k (store_accepted k e) c
either_through fresh k w e c is (inl reads) =
    inl (like_through fresh w k c is.confs_same is.alike reads)
either_through fresh k w e c is (inr reads) =
    inr (like_through fresh (store_accepted w e) (store_accepted k e) c is.confs_same
    (accepted_alike w.book k.book e is.alike) reads)

drained_through : (k w now : StoreBook) (e : Entry) → IsDrainedOf k w
    → IsDrainedOf (store_accepted w e) now → IsDrainedOf (store_accepted k e) now
drained_through k w now e is then =
    let alike : DrainAlike (store_accepted w e).book (store_accepted k e).book =
    accepted_alike w.book k.book e is.alike in
    record {
      alike = λ es. then.alike es ∙ alike es;
      confs_same = then.confs_same ∙ is.confs_same;
      base_same = then.base_same ∙ is.base_same;
      entries_same = then.entries_same
          ∙ ap (λ (es : List Entry). es ++ e ∷ []) is.entries_same;
      done = then.done;
      ends = λ i p got.
          ap (λ (d : Drained). slice_get d.modules i)
          (sym (drained_same (store_accepted w e).book (store_accepted k e).book alike))
          ∙ then.ends i p got;
    }

repaired_through : (k w : StoreBook) (e : Entry) (told : Option Repaired) → IsDrainedOf k w
    → IsRepairedBy w e told → IsRepairedBy k e told
repaired_through k w e None is repaired = absurd repaired
repaired_through k w e (Some one) is repaired =
    let count : length w.book.entries ≡ length k.book.entries = ap length is.entries_same in
    let base : w.book.base ≡ k.book.base = is.base_same in
    let next : next_number w.book ≡ next_number k.book = omega (arith, count, base) in
    record {
      number_is = repaired.number_is ∙ next;
      wanted = subst (λ (d : Drained). AreWantedOf d one.wanted)
          (drained_same (store_accepted w e).book (store_accepted k e).book
          (accepted_alike w.book k.book e is.alike)) repaired.wanted;
    }

module _ {D M : Type 0} (g : Ghosts D) where
  tells_through : (fresh : List ModuleState) (mid new : StoreOf D M) (k w : StoreBook)
      (e : Entry) (result : Result (Option Repaired) StoreFault) → IsDrainedOf k w
      → TellsBook g fresh Flt mid new (store_accepted w e) result
      (λ now told. IsRepairedBy w e told)
      → TellsBook g fresh Flt mid new (store_accepted k e) result
      (λ now told. IsRepairedBy k e told)
  tells_through fresh mid new k w e result is tells =
      let through : (c : Contents) → ReadsLike fresh (store_accepted w e) c
      → ReadsLike fresh (store_accepted k e) c =
      λ c reads. like_through fresh (store_accepted w e) (store_accepted k e) c is.confs_same
      (accepted_alike w.book k.book e is.alike) reads in
      record {
        done = IfOk-weaker result
            (StandsTold g fresh new (store_accepted w e) (λ now told. IsRepairedBy w e told))
            (StandsTold g fresh new (store_accepted k e) (λ now told. IsRepairedBy k e told))
            (λ told stands. record {
              now = stands.now;
              stands = stands.stands;
              drained_is = drained_through k w stands.now e is stands.drained_is;
              told = repaired_through k w e told is stands.told;
            }) tells.done;
        undamaged = tells.undamaged;
        after_drain = tells.after_drain;
        any_moment = leaves-weaker g (store_disk Flt mid) (store_disk Flt tells.after_drain) _ _
            tells.any_moment
            (λ image reads c others. through (with_content Flt image c) (reads c others));
        any_reading = leaves-weaker g (store_disk Flt tells.after_drain) (store_disk Flt new) _ _
            tells.any_reading
            (λ image reads c others. through (with_content Flt image c) (reads c others));
        left = λ c left. through c (tells.left c left);
      }

  takes_through : (fresh : List ModuleState) (mid new : StoreOf D M) (k w : StoreBook)
      (e : Entry) (result : Result (Option Repaired) StoreFault) → IsDrainedOf k w
      → TakesAndTells g fresh mid new w e result (λ now told. IsRepairedBy w e told)
      → TakesAndTells g fresh mid new k e result (λ now told. IsRepairedBy k e told)
  takes_through fresh mid new k w e result is takes = record {
    between = takes.between;
    any_moment = leaves-weaker g (store_disk (name_of_two mid.logs.second) mid)
        (store_disk (name_of_two mid.logs.second) takes.between) _ _ takes.any_moment
        (λ image reads c others.
        either_through fresh k w e (with_content (name_of_two mid.logs.second) image c) is
        (reads c others));
    ends = elim takes.ends [
      | inl stops ↦ inl (record {
        fault = stops.fault;
        result_is = stops.result_is;
        undamaged = stops.undamaged;
        same = stops.same;
        left = λ c left. either_through fresh k w e c is (stops.left c left);
      })
      | inr tells ↦ inr (tells_through fresh takes.between new k w e result is tells)
    ];
  }

module _ {D M : Type 0} (g : Ghosts D) (m : ModuleGhosts M) where
  -- ---- what was done

  did_one : (old mid new : StoreOf D M) (e : Entry) (told : Option Repaired)
      → WasDrained g old mid → TookOne g mid new e told → RepairDid g old new told
  did_one old mid new e None drained took = absurd took
  did_one old mid new e (Some one) drained took = (mid, drained, e, took)

  pub repair_did : {E : Type 0} (old mid new : StoreOf D M) (e : Entry)
      (result : Result (Option Repaired) E) → WasDrained g old mid
      → IfOk result (TookOne g mid new e) → IfOk result (RepairDid g old new)
  repair_did old mid new e result drained took =
      IfOk-weaker result (TookOne g mid new e) (RepairDid g old new)
      (λ told one. did_one old mid new e told drained one) took

  pub repair_refused : {X : Type 0} (old mid new : StoreOf D M) (hands now : List (HandOf M))
      (e : Entry) (result : Result X StoreFault) → WasDrained g old mid
      → IfErr result (TakeRefused g m mid new now e)
      → IfErr result (RepairRefused g m old new hands)
  repair_refused old mid new hands now e result drained why =
      IfErr-weaker result (TakeRefused g m mid new now e) (RepairRefused g m old new hands)
      (λ fault one. inr (mid, drained, now, e, one)) why

  -- ---- the book

  entry_of : {H : Type 0} (fresh : List ModuleState) (old mid : StoreOf D M) (k : StoreBook)
      (order : RepairOrder) (hands : H → List (HandOf M)) (h : H) (e : Option Entry)
      → TellsBook {X = H × Option Entry} g fresh Flt old mid k (Ok (h, e))
      (λ now found. AreHandsAndEntry m order k now (hands found.0) found.1)
      → TellsBook g fresh Flt old mid k (Ok e)
      (λ now e. IsEntryBy order.namespace order.moment order.repair (drained k.book) e)
  entry_of {H = H} fresh old mid k order hands h e tells =
      let both : H × Option Entry = (h, e) in
      told_on g fresh Flt old mid k both (Ok e)
      (λ now found. AreHandsAndEntry m order k now (hands found.0) found.1)
      (λ now e. IsEntryBy order.namespace order.moment order.repair (drained k.book) e) tells
      (λ now is told. told.1) tt

  looks_as : {H : Type 0} (fresh : List ModuleState) (old mid : StoreOf D M) (k : StoreBook)
      (order : RepairOrder) (hands : H → List (HandOf M)) (h : H) (found e : Option Entry)
      → found ≡ e
      → TellsBook {X = H × Option Entry} g fresh Flt old mid k (Ok (h, found))
      (λ now found. AreHandsAndEntry m order k now (hands found.0) found.1)
      → TellsBook g fresh Flt old mid k (Ok e)
      (λ now e. IsEntryBy order.namespace order.moment order.repair (drained k.book) e)
  looks_as fresh old mid k order hands h found e is tells =
      subst (λ (f : Option Entry). TellsBook g fresh Flt old mid k (Ok f)
      (λ now e. IsEntryBy order.namespace order.moment order.repair (drained k.book) e)) is
      (entry_of fresh old mid k order hands h found tells)

  -- nothing would be marked
  pub none_repaired : {H : Type 0} (fresh : List ModuleState) (old mid : StoreOf D M)
      (k : StoreBook) (order : RepairOrder) (hands : H → List (HandOf M)) (h : H)
      (found : Option Entry) → found ≡ None
      → TellsBook {X = H × Option Entry} g fresh Flt old mid k (Ok (h, found))
      (λ now found. AreHandsAndEntry m order k now (hands found.0) found.1)
      → RepairsBook g fresh old mid k order (Ok None)
  none_repaired fresh old mid k order hands h found is tells = record {
    after_look = mid;
    found = Ok None;
    looks = looks_as fresh old mid k order hands h found None is tells;
    follows = (refl, refl);
    limit = tt;
  }

  look_limit : (fresh : List ModuleState) (old mid : StoreOf D M) (k : StoreBook)
      (order : RepairOrder) (hands : List (HandOf M)) (fault : StoreFault)
      → StoreStandsFor g fresh old k → AllFollow m k.book hands
      → TellRefused g m Flt old mid hands fault → RepairLimit old k order fault
  look_limit fresh old mid k order hands (Full kind) st follow why =
      inl (tell_full g m Flt fresh old mid k hands kind st follow why)
  look_limit fresh old mid k order hands (Closed name failures) st follow why = tt
  look_limit fresh old mid k order hands Disk st follow why = tt
  look_limit fresh old mid k order hands NoMemory st follow why = tt
  look_limit fresh old mid k order hands (Damaged name place) st follow why = tt
  look_limit fresh old mid k order hands Exists st follow why = tt

  -- the taking of the entry stopped at a limit
  take_limit : (old mid : StoreOf D M) (k w : StoreBook) (order : RepairOrder) (e : Entry)
      (fault : StoreFault) → WasDrained g old mid → IsDrainedOf k w
      → IsEntryBy order.namespace order.moment order.repair (drained k.book) (Some e)
      → TakeLimit mid w e fault → RepairLimit old k order fault
  take_limit old mid k w order e (Full kind) was is found limit =
      inr (record {
        entry = e;
        entry_is = found;
        now = w;
        drained_is = is;
        full = elim limit [
          | inl journal ↦ inl (subst (λ (j : JournalOf D). CannotTake j (entry_bytes e) kind)
              (ap (λ (s : StoreOf D M). s.logs.active) was.only) journal)
          | inr log ↦ inr (subst (λ (n : ℕ). DrainIsFull n (store_accepted w e).book kind)
              was.first_same log)
        ];
      })
  take_limit old mid k w order e (Closed name failures) was is found limit = tt
  take_limit old mid k w order e Disk was is found limit = tt
  take_limit old mid k w order e NoMemory was is found limit = tt
  take_limit old mid k w order e (Damaged name place) was is found limit = tt
  take_limit old mid k w order e Exists was is found limit = tt

  -- the look for an entry was refused
  pub look_refused : {X : Type 0} (fresh : List ModuleState) (old mid : StoreOf D M)
      (k : StoreBook) (order : RepairOrder) (fault : StoreFault) (Told : StoreBook → X → Type 0)
      → TellsBook g fresh Flt old mid k (Err fault) Told → (hands : List (HandOf M))
      → StoreStandsFor g fresh old k → AllFollow m k.book hands
      → TellRefused g m Flt old mid hands fault → RepairsBook g fresh old mid k order (Err fault)
  look_refused fresh old mid k order fault Told tells hands st follow why = record {
    after_look = mid;
    found = Err fault;
    looks = refused_on g fresh Flt old mid k fault Told
        (λ now e. IsEntryBy order.namespace order.moment order.repair (drained k.book) e) tells;
    follows = (refl, refl);
    limit = look_limit fresh old mid k order hands fault st follow why;
  }

  -- an entry was found
  pub entry_taken : {H : Type 0} (fresh : List ModuleState) (old mid new : StoreOf D M)
      (k : StoreBook) (order : RepairOrder) (hands : H → List (HandOf M)) (h : H)
      (found : Option Entry) (e : Entry) (result : Result (Option Repaired) StoreFault)
      → found ≡ Some e
      → (tells : TellsBook {X = H × Option Entry} g fresh Flt old mid k (Ok (h, found))
      (λ now found. AreHandsAndEntry m order k now (hands found.0) found.1))
      → TakesAndTells g fresh mid new tells.done.now e result
      (λ now told. IsRepairedBy tells.done.now e told)
      → WasDrained g old mid → IfErr result (TakeLimit mid tells.done.now e)
      → RepairsBook g fresh old new k order result
  entry_taken fresh old mid new k order hands h found e result is tells takes was limit = record {
    after_look = mid;
    found = Ok (Some e);
    looks = looks_as fresh old mid k order hands h found (Some e) is tells;
    follows = takes_through g fresh mid new k tells.done.now e result tells.done.drained_is
        takes;
    limit = IfErr-weaker result (TakeLimit mid tells.done.now e) (RepairLimit old k order)
        (λ fault. take_limit old mid k tells.done.now order e fault was tells.done.drained_is
        (subst (IsEntryBy order.namespace order.moment order.repair (drained k.book)) is
        tells.done.told.1)) limit;
  }
