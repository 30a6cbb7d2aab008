-- A drain and the checkpoint that follows it, as one.
use Rattle.std.proofs.Common.{◌≡◌, inl, inr, ℕ, ◌<◌, Bool, true, false, List, [], ◌∷◌, length}
use Rattle.std.proofs.Common.{Option, Some, None, Result, Ok, Err, OnOk, OnErr, IfErr, ◌==◌, refl}
use Rattle.std.proofs.Common.{sym, ◌∙◌, ap, subst, arith}
use Rattle.std.specs.List.{slice_get}
use Rattle.std.proofs.lemmas.Bool.{cases_eq, true≢false}
use Rattle.std.proofs.lemmas.List.{nil_from_length}
use Rattle.std.proofs.lemmas.Option.{slice_get_within, same_Some}
use Rattle.fm_outer.specs.Failures.{Rose}
use Rattle.fm_outer.specs.declared.disk.Disk.{Ghosts}
use Rattle.fm_outer.proofs.Moments.{OnlyNow, leaves-weaker}
use Rattle.fm_core.specs.Book.{ModuleState, IsLawful, is_done}
use Rattle.fm_core.specs.Hands.{HandOf}
use Rattle.fm_core.specs.declared.module.Module.{Ghosts as ModuleGhosts}
use Rattle.fm_core.proofs.Draining.{all_pass}
use Rattle.fm_core.proofs.Lists.{list_all_get}
use Rattle.fm_core.proofs.Tests.{eq_true, true_eq}
use Rattle.fm_entry.specs.declared.entry.Entry.{Entry}
use Rattle.fm_logs.specs.Contents.{Contents}
use Rattle.fm_logs.specs.LogsOf.{LogsOf}
use Rattle.fm_logs.specs.StoreBook.{StoreBook}
use Rattle.fm_logs.specs.declared.disks.DiskName.{DiskName}
use Rattle.fm_logs.specs.declared.disks.DiskName.TheVariants.{Flt}
use Rattle.fm_logs.specs.declared.fault.StoreFault.{StoreFault}
use Rattle.fm_logs.specs.declared.fault.StoreFault.TheVariants.{Disk, Full, Closed, NoMemory}
use Rattle.fm_logs.specs.declared.fault.StoreFault.TheVariants.{Damaged, Exists}
use Rattle.fm_looks.specs.Opening.{slot_name}
use Rattle.fm_store.specs.Cursors.{IsAtCursor, AreAtCursors}
use Rattle.fm_store.specs.Slots.{next_slot}
use Rattle.fm_store.specs.StoreCalls.{next_entry, saves_of, AreAtEnd, HandsAreDone, CheckpointDoes}
use Rattle.fm_store.specs.StoreCalls.{CheckpointRefused, Checkpoints, CheckpointsOnBook}
use Rattle.fm_store.specs.StoreCalls.{ClosesAtSlot}
use Rattle.fm_store.specs.StoreLeft.{AreSameStore, MomentsOn, ReadsLike, store_based, store_disk}
use Rattle.fm_store.specs.StoreLeft.{with_content}
use Rattle.fm_store.specs.StoreOf.{StoreOf, StoreBaseOf, StoreStandsFor, fills_second}
use Rattle.fm_store.proofs.StoreMoves.{done_at_end}
use Rattle.fm_store.proofs.StoreReads.{like_through}
use Rattle.fm_drain.specs.DrainCalls.{IsDrained, StaysOpen, StoppedAt}
use Rattle.fm_drain.specs.DrainCalls.{OnlyCommitted, DrainDoes, DrainsOnBook, AllFollow}
use Rattle.fm_drain.specs.DrainCalls.{CommitsWorks, IsStopped, StopsAtLimit, store_after}
use Rattle.fm_drain.proofs.Committing.{commits_none}
use Rattle.fm_drain.proofs.StepLaws.{there}
use Rattle.fm_drain.proofs.Works.{works_alike, works_keep}
use Rattle.fm_drain.specs.ToBase.{DrainsThenBases, ToBaseBy, ToBaseDoes, IsAtBase, ClosesAt}
use Rattle.fm_drain.specs.ToBase.{ToBaseRefused, ToBaseOnBook, StandsAtBase}
use Rattle.fm_drain.proofs.BasedBooks.{based_none, based_of, hands_based}
use Rattle.fm_drain.proofs.BaseLimitLaws.{checkpoint_limit, drain_limit}
use Rattle.fm_drain.proofs.Left.{moments_still}
use Rattle.fm_core.proofs.Options.{none_some}

-- the disk of the slot that is written next
pub next_disk : {D M : Type 0} (f : Bool) (base : StoreOf D M) (newest : Option (Bool × ℕ))
    → fills_second newest ≡ f
    → store_disk (slot_name (fills_second newest)) base ≡ next_slot base.base newest
next_disk true store newest is = rw is refl
next_disk false store newest is = rw is refl

-- a list that is empty by its test, or not
pub empty_is : {X : Type 0} (xs ys : List X) (b : Bool) → xs ≡ ys → b ≡ (length xs == 0)
    → b ≡ true → ys ≡ []
empty_is xs ys b same test passed =
    sym same ∙ nil_from_length xs (true_eq (length xs) 0 (sym test ∙ passed))

pub some_are : {X : Type 0} (xs ys : List X) (b : Bool) → xs ≡ ys → b ≡ (length xs == 0)
    → b ≡ false → 0 < length ys
some_are xs ys b same test failed = elim (cases_eq (length xs) 0) [
  | inl none ↦
      let both : true ≡ false = sym (eq_true (length xs) 0 none) ∙ (sym test ∙ failed) in
      absurd (true≢false both)
  | inr differs ↦
      let count : length xs ≡ length ys = ap length same in
      omega (arith, differs, count)
]

module _ {D M : Type 0} (g : Ghosts D) (m : ModuleGhosts M) where
  -- ---- what is done

  pub closed_does : (store : StoreOf D M) (hands : List (HandOf M)) (name : DiskName)
      (failures : ℕ) → store.logs.closed ≡ Some (name, failures)
      → ToBaseDoes g m store store hands hands (Err (Closed name failures))
  closed_does store hands name failures is =
      subst (λ (o : Option (DiskName × ℕ)).
      ToBaseBy o store.logs.entries g m store store hands hands (Err (Closed name failures)))
      (sym is) (refl, refl, refl)

  pub still_does : (store : StoreOf D M) (hands : List (HandOf M)) (done : Unit)
      → store.logs.closed ≡ None → store.logs.entries ≡ []
      → ToBaseDoes g m store store hands hands (Ok done)
  still_does store hands done is none =
      subst (λ (o : Option (DiskName × ℕ)).
      ToBaseBy o store.logs.entries g m store store hands hands (Ok done)) (sym is)
      (subst (λ (es : List Entry). ToBaseBy None es g m store store hands hands (Ok done))
      (sym none) (refl, refl, refl))

  some_does : (es : List Entry) (old new : StoreOf D M) (hands now : List (HandOf M))
      (result : Result Unit StoreFault) → 0 < length es
      → DrainsThenBases g m old new hands now result
      → ToBaseBy None es g m old new hands now result
  some_does [] old new hands now result some does = absurd (omega (arith, some))
  some_does (e ∷ es) old new hands now result some does = does

  both_does : (old new : StoreOf D M) (hands now : List (HandOf M))
      (result : Result Unit StoreFault) → old.logs.closed ≡ None → 0 < length old.logs.entries
      → DrainsThenBases g m old new hands now result → ToBaseDoes g m old new hands now result
  both_does old new hands now result is some does =
      subst (λ (o : Option (DiskName × ℕ)).
      ToBaseBy o old.logs.entries g m old new hands now result) (sym is)
      (some_does old.logs.entries old new hands now result some does)

  -- the drain came to the end, and a checkpoint followed
  pub drained_does : (old mid new : StoreOf D M) (hands now : List (HandOf M)) (done : Unit)
      (result : Result Unit StoreFault) → old.logs.closed ≡ None → 0 < length old.logs.entries
      → DrainDoes g m old mid hands now (Ok done)
      → CheckpointDoes g mid new (saves_of m now) result
      → ToBaseDoes g m old new hands now result
  drained_does old mid new hands now done result is some drain writes =
      both_does old new hands now result is some (record {
        after_drain = mid;
        answer = Ok done;
        drain = drain;
        checkpoint = writes;
      })

  -- the drain stopped
  pub stopped_does : (old new : StoreOf D M) (hands now : List (HandOf M)) (fault : StoreFault)
      → old.logs.closed ≡ None → 0 < length old.logs.entries
      → DrainDoes g m old new hands now (Err fault)
      → ToBaseDoes g m old new hands now (Err fault)
  stopped_does old new hands now fault is some drain =
      both_does old new hands now (Err fault) is some (record {
        after_drain = new;
        answer = Err fault;
        drain = drain;
        checkpoint = (refl, refl);
      })

  -- ---- the end

  -- a cursor of hands that stand between the base and the end, which are one
  cursor_there : (store : StoreOf D M) (hands : List (HandOf M)) (i c : ℕ)
      → store.logs.entries ≡ [] → AreAtCursors m store.logs hands
      → slice_get store.logs.cursors i ≡ Some c → c ≡ next_entry store.logs
  cursor_there store hands i c none at got =
      let inside : i < length store.logs.cursors =
      slice_get_within store.logs.cursors i c got in
      let h = there hands i (omega (arith, inside, at.as_many)) in
      let hand : IsAtCursor m store.logs i h.0 = at.each i h.0 h.1 in
      let same : c ≡ h.0.cursor = same_Some c h.0.cursor (sym got ∙ hand.cursor_is) in
      let count : length store.logs.entries ≡ 0 = ap length none in
      omega (arith, same, count, hand.from_base, hand.to_end)

  all_there : (store : StoreOf D M) (hands : List (HandOf M)) → store.logs.entries ≡ []
      → AreAtCursors m store.logs hands → AreAtEnd store.logs
  all_there store hands none at =
      all_pass (λ (cursor : ℕ). cursor == next_entry store.logs) store.logs.cursors
      (λ i c got. eq_true c (next_entry store.logs) (cursor_there store hands i c none at got))

  pub still_at_base : (store : StoreOf D M) (hands : List (HandOf M)) → store.logs.closed ≡ None
      → store.logs.entries ≡ [] → AreAtCursors m store.logs hands
      → IsAtBase m store store hands
  still_at_base store hands is none at =
      let count : length store.logs.entries ≡ 0 = ap length none in
      record {
        was_open = is;
        is_open = is;
        base_is = omega (arith, count);
        none_left = none;
        at_cursors = at;
        at_end = all_there store hands none at;
      }

  -- a drain leaves an open store open
  open_after : (old new : StoreOf D M) → old.logs.closed ≡ None → StaysOpen g old new
      → new.logs.closed ≡ None
  open_after old new is (inl same) = ap (λ (s : StoreOf D M). s.logs.closed) same ∙ is
  open_after old new is (inr stays) = stays.1

  end_same : (old mid : StoreOf D M) → OnlyCommitted old mid
      → next_entry mid.logs ≡ next_entry old.logs
  end_same old mid only = ap (λ (s : StoreOf D M). next_entry s.logs) only

  hand_at_base : (mid new : StoreOf D M) (states : List (List ℕ)) (i : ℕ) (h : HandOf M)
      → Checkpoints g mid new states → AreAtEnd mid.logs → IsAtCursor m mid.logs i h
      → IsAtCursor m new.logs i h
  hand_at_base mid new states i h writes end at =
      let here : h.cursor ≡ next_entry mid.logs =
      true_eq h.cursor (next_entry mid.logs) (list_all_get
      (λ (cursor : ℕ). cursor == next_entry mid.logs) mid.logs.cursors i h.cursor end
      at.cursor_is) in
      let base : new.logs.base ≡ next_entry mid.logs =
      ap (λ (l : LogsOf D). l.base) writes.logs_are in
      record {
        number_is = at.number_is;
        own_is = at.own_is;
        cursor_is = ap (λ (l : LogsOf D). slice_get l.cursors i) writes.logs_are ∙ at.cursor_is;
        from_base = omega (arith, here, base);
        to_end = omega (arith, here, base);
      }

  pub drained_at_base : (old mid new : StoreOf D M) (now : List (HandOf M))
      → old.logs.closed ≡ None → OnlyCommitted old mid → IsDrained g m old mid now
      → Checkpoints g mid new (saves_of m now) → IsAtBase m old new now
  drained_at_base old mid new now is only drains writes =
      let none : new.logs.entries ≡ [] =
      ap (λ (l : LogsOf D). l.entries) writes.logs_are in
      let at : AreAtCursors m new.logs now = record {
        as_many = drains.at_cursors.as_many
            ∙ sym (ap (λ (l : LogsOf D). length l.cursors) writes.logs_are);
        each = λ i h got. hand_at_base mid new (saves_of m now) i h writes drains.at_end
            (drains.at_cursors.each i h got);
      } in
      record {
        was_open = is;
        is_open = ap (λ (l : LogsOf D). l.closed) writes.logs_are
            ∙ open_after old mid is drains.open_still;
        base_is = ap (λ (l : LogsOf D). l.base) writes.logs_are ∙ end_same old mid only;
        none_left = none;
        at_cursors = at;
        at_end = all_there new now none at;
      }

  -- ---- refusals

  stopped_why : (old new : StoreOf D M) (one : ℕ) (h : HandOf M) (fault : StoreFault)
      → old.logs.closed ≡ None → StoppedAt g m old new one h fault → ToBaseRefused g old new fault
  stopped_why old new one h (Closed name failures) is why = absurd (none_some is why.1)
  stopped_why old new one h (Full kind) is why = (is, why.1)
  stopped_why old new one h Disk is why = record {
    was_open = is;
    name = Flt;
    closed_is = why.1;
    rose = why.2;
  }
  stopped_why old new one h NoMemory is why = is
  stopped_why old new one h (Damaged name place) is why = absurd why
  stopped_why old new one h Exists is why = absurd why

  pub drain_why : (old new : StoreOf D M) (now : List (HandOf M)) (fault : StoreFault)
      → old.logs.closed ≡ None → IsStopped g m old new now fault
      → ToBaseRefused g old new fault
  drain_why old new now fault is stopped = elim stopped.why [
    | inl wants ↦ subst (ToBaseRefused g old new) (sym wants) is
    | inr here ↦ stopped_why old new stopped.one here.0 fault is here.2
  ]

  slot_closes : (old mid new : StoreOf D M) → old.logs.closed ≡ None → OnlyCommitted old mid
      → ClosesAtSlot g mid new → ClosesAt g old new
  slot_closes old mid new is only closes =
      let newest : Option (Bool × ℕ) = mid.base.newest in
      let f : Bool = fills_second newest in
      let base : mid.base ≡ old.base = ap (λ (s : StoreOf D M). s.base) only in
      let was : next_slot mid.base newest ≡ store_disk (slot_name f) old =
      ap (λ (b : StoreBaseOf D M). next_slot b newest) base ∙ sym (next_disk f old newest refl) in
      let now : next_slot new.base newest ≡ store_disk (slot_name f) new =
      sym (next_disk f new newest refl) in
      record {
        was_open = is;
        name = slot_name f;
        closed_is = ap (λ (l : LogsOf D). l.closed) closes.logs_are
            ∙ ap (λ (d : D). Some (slot_name f, g.failures d)) now;
        rose = subst (λ (d : D). Rose (g.failures d) (g.failures (store_disk (slot_name f) new)))
            was (subst (λ (d : D). Rose (g.failures (next_slot mid.base newest)) (g.failures d))
            now closes.rose);
      }

  checkpoint_why : (old mid new : StoreOf D M) (states : List (List ℕ)) (fault : StoreFault)
      → old.logs.closed ≡ None → OnlyCommitted old mid → mid.logs.closed ≡ None
      → CheckpointRefused g mid new states fault → ToBaseRefused g old new fault
  checkpoint_why old mid new states (Closed name failures) is only still why =
      absurd (none_some still why.1)
  checkpoint_why old mid new states (Full kind) is only still why =
      (is, ap (λ (s : StoreOf D M). s.logs.closed) why.0 ∙ still)
  checkpoint_why old mid new states Disk is only still why = slot_closes old mid new is only why.3
  checkpoint_why old mid new states NoMemory is only still why = is
  checkpoint_why old mid new states (Damaged name place) is only still why = absurd why.1
  checkpoint_why old mid new states Exists is only still why = absurd why.1

  -- why the call was refused after the drain
  pub why_after : (old mid new : StoreOf D M) (states : List (List ℕ))
      (result : Result Unit StoreFault) → old.logs.closed ≡ None → OnlyCommitted old mid
      → StaysOpen g old mid → CheckpointDoes g mid new states result
      → IfErr result (ToBaseRefused g old new)
  why_after old mid new states (Ok done) is only stays does = tt
  why_after old mid new states (Err fault) is only stays does =
      checkpoint_why old mid new states fault is only (open_after old mid is stays) does

  pub at_base_after : (old mid new : StoreOf D M) (now : List (HandOf M))
      (result : Result Unit StoreFault) → old.logs.closed ≡ None → OnlyCommitted old mid
      → IsDrained g m old mid now → CheckpointDoes g mid new (saves_of m now) result
      → OnOk result (IsAtBase m old new now)
  at_base_after old mid new now (Ok done) is only drains does =
      drained_at_base old mid new now is only drains does
  at_base_after old mid new now (Err fault) is only drains does = tt

  -- ---- the book

  pub still_on_book : OnlyNow g → (fresh : List ModuleState) (store : StoreOf D M) (k : StoreBook)
      (now : List (HandOf M)) (done : Unit) → StoreStandsFor g fresh store k
      → AllFollow m k.book now → store.logs.entries ≡ [] → AreAtCursors m store.logs now
      → ToBaseOnBook g m fresh store store k now (Ok done)
  still_on_book only_now fresh store k now done st follows none at =
      let empty : k.book.entries ≡ [] = sym st.entries_are ∙ none in
      let end : is_done k.book ≡ true =
      done_at_end g fresh store k st (all_there store now none at) in
      let same : store_based k ≡ k = based_none k empty end in
      let commits : CommitsWorks g fresh store store k [] =
      commits_none g only_now fresh store k st in
      record {
        works = [];
        follow = follows;
        at_base = record {
          stands = subst (StoreStandsFor g fresh store) (sym same) st;
          done = subst (λ (b : StoreBook). HandsAreDone m b.book now) (sym same)
              (still_done fresh store k now st follows none at);
          based_is = based_of k [] st.lawful.lawful end;
        };
        refused = tt;
        limit = tt;
        after_drain = store;
        any_moment = commits.any_moment;
        any_later = moments_still g only_now (slot_name (fills_second store.base.newest)) store
            (ReadsLike fresh k) commits.left;
        left = commits.left;
      }
    where
      still_done : (fresh : List ModuleState) (store : StoreOf D M) (k : StoreBook)
          (now : List (HandOf M)) → StoreStandsFor g fresh store k → AllFollow m k.book now
          → store.logs.entries ≡ [] → AreAtCursors m store.logs now → HandsAreDone m k.book now
      still_done fresh store k now st follows none at =
          let many : length store.logs.cursors ≡ length k.book.cursors =
          ap length st.cursors_are in
          let base : store.logs.base ≡ k.book.base = st.base_is in
          let entries : length store.logs.entries ≡ length k.book.entries =
          ap length st.entries_are in
          record {
            as_many = at.as_many ∙ (many ∙ st.lawful.lawful.as_many);
            follow = follows;
            at_end = λ i h got.
                let hand : IsAtCursor m store.logs i h = at.each i h got in
                let there : h.cursor ≡ next_entry store.logs =
                cursor_there store now i h.cursor none at hand.cursor_is in
                omega (arith, there, base, entries);
          }

  -- the drain stopped
  pub stopped_on_book : OnlyNow g → (fresh : List ModuleState) (old new : StoreOf D M)
      (k : StoreBook) (now : List (HandOf M)) (fault : StoreFault)
      → DrainsOnBook g m fresh old new k now (Err fault) → StopsAtLimit g fresh old new k fault
      → ToBaseOnBook g m fresh old new k now (Err fault)
  stopped_on_book only_now fresh old new k now fault drains stops = record {
    works = drains.works;
    follow = drains.follow;
    at_base = tt;
    refused = drains.commits.stands;
    limit = drain_limit g m fresh old new k fault stops;
    after_drain = new;
    any_moment = drains.commits.any_moment;
    any_later = moments_still g only_now (slot_name (fills_second old.base.newest)) new
        (ReadsLike fresh k) drains.commits.left;
    left = drains.commits.left;
  }

  -- a refused checkpoint leaves the store as it was, unless it was closed
  refused_stands : (fresh : List ModuleState) (mid new : StoreOf D M) (w : StoreBook)
      (states : List (List ℕ)) (result : Result Unit StoreFault) → StoreStandsFor g fresh mid w
      → CheckpointDoes g mid new states result
      → OnErr result (new.logs.closed ≡ None → StoreStandsFor g fresh new w)
  refused_stands fresh mid new w states (Ok done) st does = tt
  refused_stands fresh mid new w states (Err Disk) st does = λ is.
      absurd (none_some is (ap (λ (l : LogsOf D). l.closed) does.3.logs_are))
  refused_stands fresh mid new w states (Err (Closed name failures)) st does = λ is.
      subst (λ (s : StoreOf D M). StoreStandsFor g fresh s w) (sym does.0) st
  refused_stands fresh mid new w states (Err (Full kind)) st does = λ is.
      subst (λ (s : StoreOf D M). StoreStandsFor g fresh s w) (sym does.0) st
  refused_stands fresh mid new w states (Err NoMemory) st does = λ is.
      subst (λ (s : StoreOf D M). StoreStandsFor g fresh s w) (sym does.0) st
  refused_stands fresh mid new w states (Err (Damaged name place)) st does = absurd does.1
  refused_stands fresh mid new w states (Err Exists) st does = absurd does.1

  based_stands : (fresh : List ModuleState) (mid new : StoreOf D M) (k : StoreBook)
      (works : List ℕ) (now : List (HandOf M)) (result : Result Unit StoreFault)
      → IsLawful k.book → is_done (store_after works k).book ≡ true
      → HandsAreDone m (store_after works k).book now
      → CheckpointsOnBook g fresh mid new (store_after works k) result
      → OnOk result (StandsAtBase g m fresh new k (store_based (store_after works k)) now)
  based_stands fresh mid new k works now (Ok done) lawful end hands writes = record {
    stands = writes.stands;
    done = hands_based m (store_after works k) now hands end;
    based_is = based_of k works lawful end;
  }
  based_stands fresh mid new k works now (Err fault) lawful end hands writes = tt

  -- the drain came to the end, and a checkpoint followed
  pub drained_on_book : (fresh : List ModuleState) (old mid new : StoreOf D M) (k : StoreBook)
      (now : List (HandOf M)) (done : Unit) (result : Result Unit StoreFault)
      → StoreStandsFor g fresh old k → OnlyCommitted old mid → AreAtEnd mid.logs
      → DrainsOnBook g m fresh old mid k now (Ok done)
      → CheckpointDoes g mid new (saves_of m now) result
      → ((w : StoreBook) → StoreStandsFor g fresh mid w → HandsAreDone m w.book now
      → CheckpointsOnBook g fresh mid new w result)
      → ToBaseOnBook g m fresh old new k now result
  drained_on_book fresh old mid new k now done result st only end drains does book =
      let w : StoreBook = store_after drains.works k in
      let stands : StoreStandsFor g fresh mid w = drains.commits.stands drains.is_open in
      let writes : CheckpointsOnBook g fresh mid new w result = book w stands drains.done in
      let through : (c : Contents) → ReadsLike fresh w c → ReadsLike fresh k c =
      λ c reads. like_through fresh w k c refl
      (works_alike drains.works k.book st.lawful.lawful) reads in
      let newest : mid.base.newest ≡ old.base.newest =
      ap (λ (s : StoreOf D M). s.base.newest) only in
      record {
        works = drains.works;
        follow = drains.follow;
        at_base = based_stands fresh mid new k drains.works now result st.lawful.lawful
            (done_at_end g fresh mid w stands end) drains.done writes;
        refused = refused_stands fresh mid new w (saves_of m now) result stands does;
        limit = checkpoint_limit g m fresh old mid new k w.book now result st only
            (works_keep drains.works k.book) drains.done does;
        after_drain = mid;
        any_moment = drains.commits.any_moment;
        any_later = subst (λ (n : Option (Bool × ℕ)).
            MomentsOn g (slot_name (fills_second n)) mid new (ReadsLike fresh k)) newest
            (leaves-weaker g (store_disk (slot_name (fills_second mid.base.newest)) mid)
            (store_disk (slot_name (fills_second mid.base.newest)) new) _ _ writes.any_moment
            (λ image reads c others.
            through (with_content (slot_name (fills_second mid.base.newest)) image c)
            (reads c others)));
        left = λ c left. through c (writes.left c left);
      }

  pub disks_both : (old mid new : StoreOf D M) → AreSameStore g old mid → AreSameStore g mid new
      → AreSameStore g old new
  disks_both old mid new first second name = second name ∙ first name
