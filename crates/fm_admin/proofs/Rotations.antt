-- What a drain and a rotation come to.
use Rattle.std.proofs.Common.{◌≡◌, ◌⊎◌, inl, inr, ℕ, ◌<◌, ◌≤◌, ◌^◌, Bool, true, false, not, ◌==◌}
use Rattle.std.proofs.Common.{List, []}
use Rattle.std.proofs.Common.{length, Option, None, Result, Ok, Err, IfOk, IfErr, OnOk, refl, sym}
use Rattle.std.proofs.Common.{◌∙◌, ap, subst, arith}
use Rattle.std.specs.List.{list_all}
use Rattle.fm_outer.specs.Failures.{Rose}
use Rattle.fm_outer.specs.declared.disk.Disk.{Ghosts}
use Rattle.fm_outer.proofs.Moments.{OnlyNow, leaves-weaker}
use Rattle.fm_core.specs.Book.{Book, ModuleState, IsLawful, is_done}
use Rattle.fm_core.specs.Hands.{HandOf}
use Rattle.fm_core.specs.declared.module.Module.{Ghosts as ModuleGhosts}
use Rattle.fm_drain.specs.DrainCalls.{DrainDoes, DrainsOnBook, StaysOpen, StoppedAt}
use Rattle.fm_drain.specs.DrainCalls.{OnlyCommitted, StopsAtLimit, store_after}
use Rattle.fm_drain.proofs.Works.{KeepsEntries, works_alike, works_keep}
use Rattle.fm_journal.specs.declared.fault.FullKind.{FullKind}
use Rattle.fm_journal.specs.declared.fault.FullKind.TheVariants.{Numbers}
use Rattle.fm_logs.specs.Contents.{Contents}
use Rattle.fm_logs.specs.LogsOf.{LogsOf, name_of_two}
use Rattle.fm_logs.specs.StoreBook.{StoreBook}
use Rattle.fm_logs.specs.declared.disks.DiskName.TheVariants.{Flt}
use Rattle.fm_logs.specs.declared.fault.StoreFault.{StoreFault}
use Rattle.fm_logs.specs.declared.fault.StoreFault.TheVariants.{Disk, Full, Closed, NoMemory}
use Rattle.fm_logs.specs.declared.fault.StoreFault.TheVariants.{Damaged, Exists}
use Rattle.fm_looks.specs.Opening.{slot_name}
use Rattle.fm_drain.specs.BaseLimits.{figures_of}
use Rattle.fm_drain.proofs.BaseLimitLaws.{next_full}
use Rattle.fm_drain.proofs.BasedBooks.{based_of}
use Rattle.fm_store.specs.Rotating.{ClosesAtSpare, RotateDoes, RotateRefused, Rotates}
use Rattle.fm_store.specs.Rotating.{RotatesOnBook, with_spare}
use Rattle.fm_store.specs.Slots.{next_slot}
use Rattle.fm_store.specs.StoreCalls.{AreAtEnd, ClosesAtSlot, HandsAreDone, NextRefused, next_entry}
use Rattle.fm_store.specs.StoreCalls.{saves_of}
use Rattle.fm_store.specs.StoreLeft.{MomentsOn, ReadsLike, store_based, store_disk}
use Rattle.fm_store.specs.StoreLeft.{with_content}
use Rattle.fm_store.specs.StoreOf.{StoreOf, StoreBaseOf, StoreStandsFor, fills_second}
use Rattle.fm_store.specs.StoreReading.{IsNoDamage}
use Rattle.fm_store.proofs.StoreMoves.{done_at_end}
use Rattle.fm_store.proofs.StoreReads.{like_through}
use Rattle.fm_admin.specs.Limits.{DrainOrRotation}
use Rattle.fm_admin.specs.Rotation.{IsRotated, RotatesDrained, RotationRefused, StandsRotated}
use Rattle.fm_drain.proofs.Left.{moments_still}
use Rattle.fm_drain.proofs.ToBaseLaws.{next_disk}
use Rattle.fm_admin.proofs.Tellings.{closed_why, drain_undamaged, open_before}

-- a limit at which no rotation is made
abbrev FullAt : {D M : Type 0} → StoreOf D M → List (List ℕ) → FullKind → Type 0
FullAt mid states kind =
    ((mid.logs.closed ≡ None) × (kind ≡ Numbers) × (2 ^ 46 ≤ next_entry mid.logs))
    ⊎ ((next_entry mid.logs < 2 ^ 46) × NextRefused mid (not mid.logs.second) states (Full kind))

-- the disk of the error journal that is not active
spare_disk : {D M : Type 0} (second : Bool) (store : StoreOf D M) → store.logs.second ≡ second
    → store_disk (name_of_two (not second)) store ≡ store.base.spare
spare_disk true store is = rw is refl
spare_disk false store is = rw is refl

module _ {D M : Type 0} (g : Ghosts D) (m : ModuleGhosts M) where
  -- ---- after Ok

  rotated_one : (old mid new : StoreOf D M) (states : List (List ℕ)) (number : ℕ)
      → OnlyCommitted old mid → StaysOpen g old mid → AreAtEnd mid.logs
      → Rotates g mid new states number → IsRotated old new number
  rotated_one old mid new states number only stays end rotates =
      let was : mid.logs.closed ≡ None = rotates.puts.was_open in
      let base : new.logs.base ≡ number = ap (λ (l : LogsOf D). l.base) rotates.logs_are in
      let none : new.logs.entries ≡ [] = ap (λ (l : LogsOf D). l.entries) rotates.logs_are in
      let count : length new.logs.entries ≡ 0 = ap length none in
      let number_is : number ≡ next_entry mid.logs = rotates.number_is in
      let next : next_entry mid.logs ≡ next_entry new.logs =
      omega (arith, base, count, number_is) in
      record {
        was_open = open_before g old mid stays was;
        is_open = ap (λ (l : LogsOf D). l.closed) rotates.logs_are ∙ was;
        number_is = rotates.number_is ∙ ap (λ (s : StoreOf D M). next_entry s.logs) only;
        number_fits = rotates.number_fits;
        base_is = base;
        none_left = none;
        at_end = ap (λ (cs : List ℕ). list_all (λ c. c == next_entry new.logs) cs)
            (ap (λ (l : LogsOf D). l.cursors) rotates.logs_are)
            ∙ (ap (λ (n : ℕ). list_all (λ c. c == n) mid.logs.cursors) (sym next) ∙ end);
        other = ap (λ (l : LogsOf D). l.second) rotates.logs_are
            ∙ ap (λ (s : StoreOf D M). not s.logs.second) only;
        journal_is = rotates.journal_is;
      }

  pub rotated_after : (old mid new : StoreOf D M) (hands now : List (HandOf M)) (done : Unit)
      (result : Result ℕ StoreFault) → DrainDoes g m old mid hands now (Ok done)
      → RotateDoes g mid new (saves_of m now) result → IfOk result (IsRotated old new)
  rotated_after old mid new hands now done (Ok number) drain does =
      rotated_one old mid new (saves_of m now) number drain.only drain.answer.open_still
      drain.answer.at_end does
  rotated_after old mid new hands now done (Err fault) drain does = tt

  -- ---- refusals

  spare_rose : (old mid new : StoreOf D M) → OnlyCommitted old mid → ClosesAtSpare g mid new
      → Rose (g.failures (store_disk (name_of_two (not mid.logs.second)) old))
      (g.failures (store_disk (name_of_two (not mid.logs.second)) new))
  spare_rose old mid new only closes =
      let second : mid.logs.second ≡ old.logs.second =
      ap (λ (s : StoreOf D M). s.logs.second) only in
      let was : store_disk (name_of_two (not mid.logs.second)) old ≡ mid.base.spare =
      spare_disk mid.logs.second old (sym second)
      ∙ sym (ap (λ (s : StoreOf D M). s.base.spare) only) in
      let now : store_disk (name_of_two (not mid.logs.second)) new ≡ new.base.spare =
      spare_disk mid.logs.second new (ap (λ (l : LogsOf D). l.second) closes.logs_are) in
      subst (λ (d : D). Rose (g.failures d)
      (g.failures (store_disk (name_of_two (not mid.logs.second)) new))) (sym was)
      (subst (λ (d : D). Rose (g.failures mid.base.spare) (g.failures d)) (sym now) closes.rose)

  slot_rose : (old mid new : StoreOf D M) → OnlyCommitted old mid → ClosesAtSlot g mid new
      → Rose (g.failures (store_disk (slot_name (fills_second mid.base.newest)) old))
      (g.failures (store_disk (slot_name (fills_second mid.base.newest)) new))
  slot_rose old mid new only closes =
      let newest : Option (Bool × ℕ) = mid.base.newest in
      let f : Bool = fills_second newest in
      let base : mid.base ≡ old.base = ap (λ (s : StoreOf D M). s.base) only in
      let was : store_disk (slot_name f) old ≡ next_slot mid.base newest =
      next_disk f old newest refl
      ∙ sym (ap (λ (b : StoreBaseOf D M). next_slot b newest) base) in
      let now : store_disk (slot_name f) new ≡ next_slot new.base newest =
      next_disk f new newest refl in
      subst (λ (d : D). Rose (g.failures d) (g.failures (store_disk (slot_name f) new))) (sym was)
      (subst (λ (d : D). Rose (g.failures (next_slot mid.base newest)) (g.failures d)) (sym now)
      closes.rose)

  full_open : (mid : StoreOf D M) (states : List (List ℕ)) (kind : FullKind)
      → FullAt mid states kind → mid.logs.closed ≡ None
  full_open mid states kind (inl numbers) = numbers.0
  full_open mid states kind (inr next) = next.1.0

  -- why no rotation followed
  rotate_why : (old mid new : StoreOf D M) (hands now : List (HandOf M)) (done : Unit)
      (fault : StoreFault) → DrainDoes g m old mid hands now (Ok done)
      → RotateRefused g mid new (saves_of m now) fault
      → RotationRefused g m old new hands fault
  rotate_why old mid new hands now done (Closed name failures) drain why =
      closed_why g m old mid new name failures drain.answer.open_still why.1 why.0
  rotate_why old mid new hands now done (Full kind) drain why = (
    open_before g old mid drain.answer.open_still (full_open mid (saves_of m now) kind why.1),
    record {
      now = now;
      at = inr (
        subst (λ (s : StoreOf D M). DrainDoes g m old s hands now (Ok tt)) (sym why.0) drain,
        subst (λ (s : StoreOf D M). RotateRefused g s s (saves_of m now) (Full kind)) (sym why.0)
            (refl, why.1),
      );
    },
  )
  rotate_why old mid new hands now done Disk drain why = (
    open_before g old mid drain.answer.open_still why.0,
    elim why.4 [
      | inl spare ↦ (name_of_two (not mid.logs.second), spare_rose old mid new drain.only spare)
      | inr slot ↦ (
        slot_name (fills_second mid.base.newest),
        slot_rose old mid new drain.only slot,
      )
    ],
  )
  rotate_why old mid new hands now done NoMemory drain why = tt
  rotate_why old mid new hands now done (Damaged name place) drain why = absurd why.1
  rotate_why old mid new hands now done Exists drain why = absurd why.1

  pub refused_after : (old mid new : StoreOf D M) (hands now : List (HandOf M)) (done : Unit)
      (result : Result ℕ StoreFault) → DrainDoes g m old mid hands now (Ok done)
      → RotateDoes g mid new (saves_of m now) result
      → IfErr result (RotationRefused g m old new hands)
  refused_after old mid new hands now done (Ok number) drain does = tt
  refused_after old mid new hands now done (Err fault) drain does =
      rotate_why old mid new hands now done fault drain does

  stopped_why : (old new : StoreOf D M) (hands now : List (HandOf M)) (one : ℕ) (h : HandOf M)
      (fault : StoreFault) → DrainDoes g m old new hands now (Err fault)
      → StoppedAt g m old new one h fault → RotationRefused g m old new hands fault
  stopped_why old new hands now one h (Closed name failures) drain why = (why.0, why.1)
  stopped_why old new hands now one h (Full kind) drain why =
      (open_before g old new why.0 why.1, record { now = now; at = inl drain })
  stopped_why old new hands now one h Disk drain why = (why.0, (Flt, why.2))
  stopped_why old new hands now one h NoMemory drain why = tt
  stopped_why old new hands now one h (Damaged name place) drain why = absurd why
  stopped_why old new hands now one h Exists drain why = absurd why

  -- why the drain stopped
  pub refused_before : (old new : StoreOf D M) (hands now : List (HandOf M)) (fault : StoreFault)
      → DrainDoes g m old new hands now (Err fault) → RotationRefused g m old new hands fault
  refused_before old new hands now fault drain = elim drain.answer.why [
    | inl wants ↦ subst (RotationRefused g m old new hands) (sym wants) tt
    | inr here ↦ stopped_why old new hands now drain.answer.one here.0 fault drain here.2
  ]

  -- ---- the book

  rotate_undamaged : (mid new : StoreOf D M) (states : List (List ℕ))
      (result : Result ℕ StoreFault) → RotateDoes g mid new states result
      → IfErr result IsNoDamage
  rotate_undamaged mid new states (Ok number) does = tt
  rotate_undamaged mid new states (Err (Closed name failures)) does = tt
  rotate_undamaged mid new states (Err (Full kind)) does = tt
  rotate_undamaged mid new states (Err Disk) does = tt
  rotate_undamaged mid new states (Err NoMemory) does = tt
  rotate_undamaged mid new states (Err (Damaged name place)) does = absurd does.1
  rotate_undamaged mid new states (Err Exists) does = absurd does.1

  drain_stops : (fresh : List ModuleState) (old new : StoreOf D M) (k : StoreBook)
      (fault : StoreFault) → StopsAtLimit g fresh old new k fault
      → DrainOrRotation (figures_of old) k fault
  drain_stops fresh old new k (Full kind) stops =
      inl (record { works = stops.works; step = stops.step })
  drain_stops fresh old new k (Closed name failures) stops = tt
  drain_stops fresh old new k Disk stops = tt
  drain_stops fresh old new k NoMemory stops = tt
  drain_stops fresh old new k (Damaged name place) stops = tt
  drain_stops fresh old new k Exists stops = tt

  -- the limit of a rotation is one of the book of before
  rotation_stops : (fresh : List ModuleState) (old mid new : StoreOf D M) (k : StoreBook)
      (w : Book) (now : List (HandOf M)) (result : Result ℕ StoreFault)
      → StoreStandsFor g fresh old k → OnlyCommitted old mid → KeepsEntries k.book w
      → HandsAreDone m w now → RotateDoes g mid new (saves_of m now) result
      → IfErr result (DrainOrRotation (figures_of old) k)
  rotation_stops fresh old mid new k w now (Ok number) st only keeps done does = tt
  rotation_stops fresh old mid new k w now (Err (Full kind)) st only keeps done does =
      let base : mid.logs.base ≡ k.book.base =
      ap (λ (s : StoreOf D M). s.logs.base) only ∙ st.base_is in
      let count : length mid.logs.entries ≡ length k.book.entries =
      ap (λ (s : StoreOf D M). length s.logs.entries) only ∙ ap length st.entries_are in
      elim does.1 [
        | inl numbers ↦ inr (inl (numbers.1, omega (arith, numbers.2, base, count)))
        | inr next ↦ inr (inr (
          omega (arith, next.0, base, count),
          next_full g m fresh old mid k w now (not old.logs.second) kind st only keeps done
              (subst (λ (b : Bool). NextRefused mid (not b) (saves_of m now) (Full kind))
              (ap (λ (s : StoreOf D M). s.logs.second) only) next.1),
        ))
      ]
  rotation_stops fresh old mid new k w now (Err (Closed name failures)) st only keeps done does =
      tt
  rotation_stops fresh old mid new k w now (Err Disk) st only keeps done does = tt
  rotation_stops fresh old mid new k w now (Err NoMemory) st only keeps done does = tt
  rotation_stops fresh old mid new k w now (Err (Damaged name place)) st only keeps done does = tt
  rotation_stops fresh old mid new k w now (Err Exists) st only keeps done does = tt

  -- the drain stopped
  pub stopped_rotation : OnlyNow g → (fresh : List ModuleState) (old new : StoreOf D M)
      (k : StoreBook) (hands now : List (HandOf M)) (fault : StoreFault)
      → DrainDoes g m old new hands now (Err fault)
      → DrainsOnBook g m fresh old new k now (Err fault) → StopsAtLimit g fresh old new k fault
      → RotatesDrained g fresh old new k (Err fault)
  stopped_rotation only_now fresh old new k hands now fault drain drains stops = record {
    done = tt;
    undamaged = drain_undamaged g m old new now fault drain.answer;
    limit = drain_stops fresh old new k fault stops;
    after_drain = new;
    after_making = new;
    any_moment = drains.commits.any_moment;
    any_making = moments_still g only_now (name_of_two (not old.logs.second)) new
        (ReadsLike fresh k) drains.commits.left;
    any_later = moments_still g only_now (slot_name (fills_second old.base.newest)) new
        (ReadsLike fresh k) drains.commits.left;
    left = drains.commits.left;
  }

  rotated_stands : (fresh : List ModuleState) (mid new : StoreOf D M) (k : StoreBook)
      (works : List ℕ) (result : Result ℕ StoreFault) → IsLawful k.book
      → is_done (store_after works k).book ≡ true
      → OnOk result (StoreStandsFor g fresh new (store_based (store_after works k)))
      → OnOk result (StandsRotated g fresh new k)
  rotated_stands fresh mid new k works (Ok number) lawful end stands = record {
    based = store_based (store_after works k);
    stands = stands;
    based_is = based_of k works lawful end;
  }
  rotated_stands fresh mid new k works (Err fault) lawful end stands = tt

  -- the drain came to the end, and a rotation followed or not
  pub rotation_book : (fresh : List ModuleState) (old mid new : StoreOf D M) (k : StoreBook)
      (hands now : List (HandOf M)) (done : Unit) (result : Result ℕ StoreFault)
      → StoreStandsFor g fresh old k → DrainDoes g m old mid hands now (Ok done)
      → DrainsOnBook g m fresh old mid k now (Ok done)
      → RotateDoes g mid new (saves_of m now) result
      → ((w : StoreBook) → StoreStandsFor g fresh mid w → HandsAreDone m w.book now
      → RotatesOnBook g fresh mid new w result)
      → RotatesDrained g fresh old new k result
  rotation_book fresh old mid new k hands now done result st drain drains does book =
      let w : StoreBook = store_after drains.works k in
      let stands : StoreStandsFor g fresh mid w = drains.commits.stands drains.is_open in
      let rotates : RotatesOnBook g fresh mid new w result = book w stands drains.done in
      let through : (c : Contents) → ReadsLike fresh w c → ReadsLike fresh k c =
      λ c reads. like_through fresh w k c refl
      (works_alike drains.works k.book st.lawful.lawful) reads in
      let newest : mid.base.newest ≡ old.base.newest =
      ap (λ (s : StoreOf D M). s.base.newest) drain.only in
      let second : mid.logs.second ≡ old.logs.second =
      ap (λ (s : StoreOf D M). s.logs.second) drain.only in
      let made : StoreOf D M = with_spare mid rotates.made in
      record {
        done = rotated_stands fresh mid new k drains.works result st.lawful.lawful
            (done_at_end g fresh mid w stands drain.answer.at_end) rotates.stands;
        undamaged = rotate_undamaged mid new (saves_of m now) result does;
        limit = rotation_stops fresh old mid new k w.book now result st drain.only
            (works_keep drains.works k.book) drains.done does;
        after_drain = mid;
        after_making = made;
        any_moment = drains.commits.any_moment;
        any_making = subst (λ (b : Bool). MomentsOn g (name_of_two (not b)) mid made
            (ReadsLike fresh k)) second
            (leaves-weaker g (store_disk (name_of_two (not mid.logs.second)) mid)
            (store_disk (name_of_two (not mid.logs.second)) made) _ _ rotates.any_moment
            (λ image reads c others.
            through (with_content (name_of_two (not mid.logs.second)) image c)
            (reads c others)));
        any_later = subst (λ (n : Option (Bool × ℕ)). MomentsOn g (slot_name (fills_second n))
            made new (ReadsLike fresh k)) newest
            (leaves-weaker g (store_disk (slot_name (fills_second mid.base.newest)) made)
            (store_disk (slot_name (fills_second mid.base.newest)) new) _ _ rotates.any_later
            (λ image reads c others.
            through (with_content (slot_name (fills_second mid.base.newest)) image c)
            (reads c others)));
        left = λ c left. through c (rotates.left c left);
      }
