-- A drain, hand by hand.
use Rattle.std.proofs.Common.{◌≡◌, ◌≢◌, ◌⊎◌, inl, inr, ℕ, ◌+◌, ◌<◌, ◌≤◌}
use Rattle.std.proofs.Common.{List, [], ◌∷◌, ◌++◌, length, Some, None, Result, Ok, Err, ◌==◌}
use Rattle.std.proofs.Common.{append_assoc, append-nil, length-append, OnOk, IfErr, refl, sym}
use Rattle.std.proofs.Common.{◌∙◌, ap, subst, arith}
use Rattle.std.specs.List.{slice_get, slice_set}
use Rattle.std.proofs.lemmas.Bool.{cases_eq, cases_lt}
use Rattle.std.proofs.lemmas.List.{length-set}
use Rattle.std.proofs.lemmas.Option.{slice_get_within, same_Some}
use Rattle.fm_outer.specs.declared.disk.Disk.{Ghosts}
use Rattle.fm_outer.proofs.Moments.{OnlyNow}
use Rattle.fm_core.specs.Book.{Book, ModuleState}
use Rattle.fm_core.specs.Hands.{HandOf, shown}
use Rattle.fm_core.specs.Seen.{FollowsAs}
use Rattle.fm_core.specs.declared.module.Module.{Ghosts as ModuleGhosts}
use Rattle.fm_core.proofs.Draining.{all_pass}
use Rattle.fm_core.proofs.Lists.{get_set_same, get_set_other}
use Rattle.fm_core.proofs.Tests.{eq_true}
use Rattle.fm_journal.specs.declared.fault.FullKind.{FullKind}
use Rattle.fm_logs.specs.StoreBook.{StoreBook}
use Rattle.fm_logs.specs.declared.fault.StoreFault.{StoreFault}
use Rattle.fm_logs.specs.declared.fault.StoreFault.TheVariants.{Disk, Full, Closed, Damaged}
use Rattle.fm_logs.specs.declared.fault.StoreFault.TheVariants.{Exists, NoMemory}
use Rattle.fm_store.specs.Cursors.{IsAtCursor, AreAtCursors}
use Rattle.fm_store.specs.StoreCalls.{next_entry, AreAtEnd, HandsAreDone}
use Rattle.fm_store.specs.StoreLeft.{AreSameStore}
use Rattle.fm_store.specs.StoreOf.{StoreOf, StoreStandsFor}
use Rattle.fm_drain.specs.DrainCalls.{MayBePast, OnlyCommitted}
use Rattle.fm_drain.specs.DrainCalls.{StaysOpen, IsStopped, DrainAnswers, StopsAtLimit}
use Rattle.fm_drain.specs.DrainCalls.{AllFollow, DrainDoes, DrainsOnBook, CommitsWorks, store_after}
use Rattle.fm_drain.specs.DrainSteps.{HandAnswers, HandDoes, HandOnBook, NextDoes}
use Rattle.fm_drain.proofs.StepLaws.{there}
use Rattle.fm_drain.proofs.Works.{works_keep, follows_kept}
use Rattle.fm_drain.proofs.Committing.{commits_none, commits_both}
use Rattle.fm_drain.proofs.HandLaws.{only_then, stays_then, stopped_then, OnBooks, open_between}
use Rattle.fm_drain.proofs.HandLaws.{book_same, limit_then}

-- what stands in a list in which one element was written
written : {X : Type 0} (xs : List X) (i : ℕ) (old new : X) (j : ℕ) (x : X)
    → slice_get xs i ≡ Some old → slice_get (slice_set xs i new) j ≡ Some x
    → ((j ≡ i) × (x ≡ new)) ⊎ ((j ≢ i) × (slice_get xs j ≡ Some x))
written {X = X} xs i old new j x at got = elim (cases_eq j i) [
  | inl same ↦ inl (
    same,
    same_Some x new (sym got ∙ ap (λ (n : ℕ). slice_get (slice_set xs i new) n) same
        ∙ get_set_same xs i old new at),
  )
  | inr other ↦ inr (other, sym (get_set_other xs i j new other) ∙ got)
]

-- the element in the middle is written
pub middle_set : {X : Type 0} (before : List X) (x new : X) (after : List X)
    → slice_set (before ++ x ∷ after) (length before) new ≡ (before ++ new ∷ []) ++ after
middle_set [] x new after = refl
middle_set (y ∷ before) x new after = ap (λ l. y ∷ l) (middle_set before x new after)

pub middle_get : {X : Type 0} (before : List X) (x : X) (after : List X)
    → slice_get (before ++ x ∷ after) (length before) ≡ Some x
middle_get [] x after = refl
middle_get (y ∷ before) x after = middle_get before x after

module _ {D M : Type 0} (g : Ghosts D) (m : ModuleGhosts M) where
  -- the first hands have come to the end, and all are at their cursors
  pub record HaveCome (old now : StoreOf D M) (i : ℕ) (xs : List (HandOf M)) : Type 0 where
    pub each : (j : ℕ) (h : HandOf M) → slice_get xs j ≡ Some h → IsAtCursor m now.logs j h
    pub come : (j : ℕ) (h : HandOf M) → j < i → slice_get xs j ≡ Some h
        → h.cursor ≡ next_entry old.logs
    pub stays : StaysOpen g old now

  abbrev pub SoFar : StoreOf D M → StoreOf D M → ℕ → List (HandOf M) → Result Unit StoreFault
      → Type 0
  SoFar old now i xs (Ok done) = HaveCome old now i xs
  SoFar old now i xs (Err fault) = IsStopped g m old now xs fault

  -- a drain of the first hands
  pub record Drains (old now : StoreOf D M) (hands : List (HandOf M)) (i : ℕ)
      (xs : List (HandOf M)) (result : Result Unit StoreFault) : Type 0 where
    pub only : OnlyCommitted old now
    pub as_many : length xs ≡ length hands
    pub cursors_many : length hands ≡ length now.logs.cursors
    pub first_same : OnOk result (now.logs.flt.first ≡ old.logs.flt.first)
    pub follow : (k : Book) → k.base ≡ old.logs.base → k.entries ≡ old.logs.entries
        → AllFollow m k hands → AllFollow m k xs
    pub answer : SoFar old now i xs result
    pub book : (fresh : List ModuleState) (k : StoreBook) → StoreStandsFor g fresh old k
        → AllFollow m k.book hands → HandOnBook g fresh old now k result
    pub same_disks : AreSameStore g old now

  pub drains_none : OnlyNow g → (store : StoreOf D M) (hands : List (HandOf M)) (done : Unit)
      → AreAtCursors m store.logs hands → Drains store store hands 0 hands (Ok done)
  drains_none only_now store hands done at = record {
    only = refl;
    as_many = refl;
    cursors_many = at.as_many;
    first_same = refl;
    follow = λ k base entries follows. follows;
    answer = record {
      each = at.each;
      come = λ j h low got. absurd (let no : ⊥ = omega arith in no);
      stays = inl refl;
    };
    book = λ fresh k st follows. book_same g m only_now fresh store k (Ok done) st tt;
    same_disks = λ name. refl;
  }

  -- after a refusal the others pass
  pub drains_pass : (old now : StoreOf D M) (hands : List (HandOf M)) (i : ℕ)
      (xs : List (HandOf M)) (fault : StoreFault) → Drains old now hands i xs (Err fault)
      → Drains old now hands (i + 1) xs (Err fault)
  drains_pass old now hands i xs fault so = record {
    only = so.only;
    as_many = so.as_many;
    cursors_many = so.cursors_many;
    first_same = tt;
    follow = so.follow;
    answer = so.answer;
    book = so.book;
    same_disks = so.same_disks;
  }

  -- the other hands are where they were
  beside : (now new : StoreOf D M) (i j : ℕ) (h : HandOf M) → OnlyCommitted now new
      → slice_get new.logs.cursors j ≡ slice_get now.logs.cursors j → IsAtCursor m now.logs j h
      → IsAtCursor m new.logs j h
  beside now new i j h only same at = record {
    number_is = at.number_is;
    own_is = at.own_is;
    cursor_is = same ∙ at.cursor_is;
    from_base = subst (λ (n : ℕ). n ≤ h.cursor)
        (sym (ap (λ (s : StoreOf D M). s.logs.base) only)) at.from_base;
    to_end = subst (λ (n : ℕ). h.cursor ≤ n)
        (sym (ap (λ (s : StoreOf D M). next_entry s.logs) only)) at.to_end;
  }

  -- what the answer of the hand at a place says of all
  next_answer : (old now new : StoreOf D M) (hands : List (HandOf M)) (i : ℕ)
      (xs : List (HandOf M)) (hand after : HandOf M)
      (result : Result Unit StoreFault) → length (slice_set xs i after) ≡ length new.logs.cursors
      → hand.number ≡ i → OnlyCommitted old now
      → HaveCome old now i xs → slice_get xs i ≡ Some hand → OnlyCommitted now new
      → ((j : ℕ) → j ≢ i → slice_get new.logs.cursors j ≡ slice_get now.logs.cursors j)
      → HandAnswers g m now new i after result
      → OnOk result (after.cursor ≡ next_entry now.logs)
      → SoFar old new (i + 1) (slice_set xs i after) result
  next_answer old now new hands i xs hand after (Ok fine) many number first so at only others
      answer ends = record {
        each = λ j h got. elim (written xs i hand after j h at got) [
          | inl here ↦ subst (λ (n : ℕ). IsAtCursor m new.logs n h) (sym here.0)
              (subst (IsAtCursor m new.logs i) (sym here.1) answer.0)
          | inr other ↦ beside now new i j h only (others j other.0) (so.each j h other.1)
        ];
        come = λ j h low got. elim (written xs i hand after j h at got) [
          | inl here ↦ ap (λ (x : HandOf M). x.cursor) here.1 ∙ ends
              ∙ ap (λ (s : StoreOf D M). next_entry s.logs) first
          | inr other ↦ so.come j h (below j i low other.0) other.1
        ];
        stays = stays_then g m old now new so.stays answer.1;
      }
    where
      below : (j i : ℕ) → j < i + 1 → j ≢ i → j < i
      below j i low differs = elim (cases_lt j i) [
        | inl less ↦ less
        | inr not ↦ absurd (differs (omega (arith, low, not)))
      ]
  next_answer old now new hands i xs hand after (Err fault) many number first so at only others
      answer ends = record {
        one = i;
        at_cursors = record {
          as_many = many;
          others = λ j h differs got. elim (written xs i hand after j h at got) [
            | inl here ↦ absurd (differs here.0)
            | inr other ↦ beside now new i j h only (others j other.0) (so.each j h other.1)
          ];
          past = λ h got. subst (MayBePast m new.logs i)
              (same_Some after h (sym (get_set_same xs i hand after at) ∙ got)) answer.0;
        };
        why = inr (
          after,
          get_set_same xs i hand after at,
          stopped_then g m old now new i after fault so.stays answer.1,
        );
      }

  pub drains_next : (old now new : StoreOf D M) (hands : List (HandOf M)) (i : ℕ)
      (xs : List (HandOf M)) (hand after : HandOf M) (done : Unit)
      (result : Result Unit StoreFault) → Drains old now hands i xs (Ok done)
      → slice_get xs i ≡ Some hand → HandDoes g m now new hand after result
      → OnOk result (after.cursor ≡ next_entry now.logs) → OnBooks g m now new hand result
      → AreSameStore g now new → Drains old new hands (i + 1) (slice_set xs i after) result
  drains_next old now new hands i xs hand after done result so at does ends books same =
      let number : hand.number ≡ i = (so.answer.each i hand at).number_is in
      let base : now.logs.base ≡ old.logs.base = ap (λ (s : StoreOf D M). s.logs.base) so.only in
      let entries : now.logs.entries ≡ old.logs.entries =
      ap (λ (s : StoreOf D M). s.logs.entries) so.only in
      let many : length (slice_set xs i after) ≡ length xs = length-set xs i after in
      let others : (j : ℕ) → j ≢ i → slice_get new.logs.cursors j ≡ slice_get now.logs.cursors j =
      λ j differs. does.others j (λ e. differs (e ∙ number)) in
      record {
        only = only_then old now new so.only does.only;
        as_many = many ∙ so.as_many;
        cursors_many = so.cursors_many ∙ sym does.as_many;
        first_same = subst (λ (n : ℕ). OnOk result (new.logs.flt.first ≡ n)) so.first_same
            does.first_same;
        follow = λ k at_base at_entries follows j h got.
            elim (written xs i hand after j h at got) [
              | inl here ↦ subst (λ (n : ℕ). FollowsAs k n (shown m h)) (sym here.0)
                  (subst (λ (x : HandOf M). FollowsAs k i (shown m x)) (sym here.1)
                  (subst (λ (n : ℕ). FollowsAs k n (shown m after)) number
                  (does.follow k (at_base ∙ sym base) (at_entries ∙ sym entries)
                  (subst (λ (n : ℕ). FollowsAs k n (shown m hand)) (sym number)
                  (so.follow k at_base at_entries follows i hand at)))))
              | inr other ↦ so.follow k at_base at_entries follows j h other.1
            ];
        answer = next_answer old now new hands i xs hand after result
            (many ∙ so.as_many ∙ so.cursors_many ∙ sym does.as_many) number so.only so.answer at
            does.only others
            (subst (λ (n : ℕ). HandAnswers g m now new n after result) number does.answer) ends;
        book = λ fresh k st follows.
            let one = so.book fresh k st follows in
            let is_open : now.logs.closed ≡ None =
            open_between g m fresh old now k so.answer.stays st in
            let stands : StoreStandsFor g fresh now (store_after one.works k) =
            one.commits.stands is_open in
            let follows_now : FollowsAs (store_after one.works k).book hand.number (shown m hand) =
            subst (λ (n : ℕ). FollowsAs (store_after one.works k).book n (shown m hand))
            (sym number) (follows_kept k.book (store_after one.works k).book i (shown m hand)
            (works_keep one.works k.book)
            (so.follow k.book (sym st.base_is) (sym st.entries_are) follows i hand at)) in
            let two = books fresh (store_after one.works k) stands follows_now in
            record {
              works = one.works ++ two.works;
              commits = commits_both g fresh old now new k one.works two.works st so.only
                  one.commits two.commits;
              limit = limit_then g m now old k one.works two.works result so.first_same two.limit;
            };
        same_disks = λ name. same name ∙ so.same_disks name;
      }

  -- all hands were drained
  at_end : (old now : StoreOf D M) (i : ℕ) (xs : List (HandOf M)) → OnlyCommitted old now
      → length xs ≡ length now.logs.cursors → length xs ≤ i → HaveCome old now i xs
      → AreAtEnd now.logs
  at_end old now i xs only many all so =
      all_pass (λ cursor. cursor == next_entry now.logs) now.logs.cursors (λ j c got.
      let inside : j < length now.logs.cursors = slice_get_within now.logs.cursors j c got in
      let found = there xs j (omega (arith, inside, many)) in
      let low : j < i = omega (arith, inside, many, all) in
      let same : c ≡ found.0.cursor =
      same_Some c found.0.cursor (sym got ∙ (so.each j found.0 found.1).cursor_is) in
      eq_true c (next_entry now.logs) (same ∙ so.come j found.0 low found.1
      ∙ sym (ap (λ (s : StoreOf D M). next_entry s.logs) only)))

  end_answer : (old now : StoreOf D M) (i : ℕ) (xs : List (HandOf M))
      (result : Result Unit StoreFault) → OnlyCommitted old now
      → length xs ≡ length now.logs.cursors → length xs ≤ i → SoFar old now i xs result
      → DrainAnswers g m old now xs result
  end_answer old now i xs (Ok done) only many all so = record {
    at_cursors = record { as_many = many; each = so.each };
    at_end = at_end old now i xs only many all so;
    open_still = so.stays;
  }
  end_answer old now i xs (Err fault) only many all so = so

  -- a limit that is told, of the book that the store stands for then
  full_at : (fresh : List ModuleState) (old now : StoreOf D M) (i : ℕ) (xs : List (HandOf M))
      (k : StoreBook) (result : Result Unit StoreFault) → SoFar old now i xs result
      → HandOnBook g fresh old now k result → IfErr result (StopsAtLimit g fresh old now k)
  full_at fresh old now i xs k (Ok done) so book = tt
  full_at fresh old now i xs k (Err (Full kind)) so book = record {
    works = book.works;
    stands = book.commits.stands (elim so.why [
      | inl wants ↦ absurd (full_memory wants)
      | inr here ↦ here.2.1
    ]);
    step = book.limit;
  }
    where
      full_memory : {kind : FullKind} → Full kind ≡ NoMemory → ⊥
      full_memory same = cc same
  full_at fresh old now i xs k (Err Disk) so book = tt
  full_at fresh old now i xs k (Err (Closed name failures)) so book = tt
  full_at fresh old now i xs k (Err (Damaged name place)) so book = tt
  full_at fresh old now i xs k (Err Exists) so book = tt
  full_at fresh old now i xs k (Err NoMemory) so book = tt

  pub drain_does : (old now : StoreOf D M) (hands : List (HandOf M)) (i : ℕ)
      (xs : List (HandOf M)) (result : Result Unit StoreFault) → length hands ≤ i
      → Drains old now hands i xs result → DrainDoes g m old now hands xs result
  drain_does old now hands i xs result all so =
      let many : length xs ≡ length hands = so.as_many in
      record {
        only = so.only;
        as_many = so.as_many;
        first_same = so.first_same;
        follow = so.follow;
        answer = end_answer old now i xs result so.only (so.as_many ∙ so.cursors_many)
            (omega (arith, many, all)) so.answer;
        limit = λ fresh k st follows.
            full_at fresh old now i xs k result so.answer (so.book fresh k st follows);
      }

  -- what an answer of Ok says of the book
  done_on : (fresh : List ModuleState) (old now : StoreOf D M) (hands : List (HandOf M)) (i : ℕ)
      (xs : List (HandOf M)) (k : StoreBook) (works : List ℕ) (result : Result Unit StoreFault)
      → length xs ≤ i → OnlyCommitted old now → SoFar old now i xs result
      → StoreStandsFor g fresh old k → CommitsWorks g fresh old now k works
      → length xs ≡ length now.logs.cursors → AllFollow m (store_after works k).book xs
      → OnOk result (HandsAreDone m (store_after works k).book xs)
  done_on fresh old now hands i xs k works (Ok done) all only so st commits many follows =
      let stands : StoreStandsFor g fresh now (store_after works k) =
      commits.stands (open_between g m fresh old now k so.stays st) in
      let keeps = works_keep works k.book in
      record {
        as_many = many ∙ ap length stands.cursors_are ∙ stands.lawful.lawful.as_many;
        follow = follows;
        at_end = λ j h got.
            let inside : j < length xs = slice_get_within xs j h got in
            let low : j < i = omega (arith, inside, all) in
            so.come j h low got ∙ sym (ap (λ (s : StoreOf D M). next_entry s.logs) only)
            ∙ ap (λ (n : ℕ). n + length now.logs.entries) stands.base_is
            ∙ ap (λ es. (store_after works k).book.base + length es) stands.entries_are;
      }
  done_on fresh old now hands i xs k works (Err fault) all only so st commits many follows = tt

  open_on : (fresh : List ModuleState) (old now : StoreOf D M) (i : ℕ) (xs : List (HandOf M))
      (k : StoreBook) (result : Result Unit StoreFault) → SoFar old now i xs result
      → StoreStandsFor g fresh old k → OnOk result (now.logs.closed ≡ None)
  open_on fresh old now i xs k (Ok done) so st = open_between g m fresh old now k so.stays st
  open_on fresh old now i xs k (Err fault) so st = tt

  pub drains_on_book : (old now : StoreOf D M) (hands : List (HandOf M)) (i : ℕ)
      (xs : List (HandOf M)) (result : Result Unit StoreFault) → length hands ≤ i
      → Drains old now hands i xs result → (fresh : List ModuleState) (k : StoreBook)
      → StoreStandsFor g fresh old k → AllFollow m k.book hands
      → DrainsOnBook g m fresh old now k xs result
  drains_on_book old now hands i xs result all so fresh k st follows =
      let one = so.book fresh k st follows in
      let many : length xs ≡ length hands = so.as_many in
      let after : AllFollow m (store_after one.works k).book xs =
      λ j h got. follows_kept k.book (store_after one.works k).book j (shown m h)
      (works_keep one.works k.book)
      (so.follow k.book (sym st.base_is) (sym st.entries_are) follows j h got) in
      record {
        works = one.works;
        commits = one.commits;
        follow = after;
        done = done_on fresh old now hands i xs k one.works result (omega (arith, many, all))
            so.only so.answer st one.commits (so.as_many ∙ so.cursors_many) after;
        is_open = open_on fresh old now i xs k result so.answer st;
      }

  -- no memory for the list that goes back
  pub none_does : (store : StoreOf D M) (hands : List (HandOf M))
      → AreAtCursors m store.logs hands → DrainDoes g m store store hands hands (Err NoMemory)
  none_does store hands at = record {
    only = refl;
    as_many = refl;
    first_same = tt;
    follow = λ k base entries follows. follows;
    limit = λ fresh k st follows. tt;
    answer = record {
      one = 0;
      at_cursors = record {
        as_many = at.as_many;
        others = λ j h differs got. at.each j h got;
        past = λ h got. inl (at.each 0 h got);
      };
      why = inl refl;
    };
  }

  pub none_on_book : OnlyNow g → (store : StoreOf D M) (hands : List (HandOf M))
      (fresh : List ModuleState) (k : StoreBook) → StoreStandsFor g fresh store k
      → AllFollow m k.book hands → DrainsOnBook g m fresh store store k hands (Err NoMemory)
  none_on_book only_now store hands fresh k st follows = record {
    works = [];
    commits = commits_none g only_now fresh store k st;
    follow = follows;
    done = tt;
    is_open = tt;
  }

  -- the hands that came back, and those behind them
  pub list_none : OnlyNow g → (store : StoreOf D M) (hands back rest : List (HandOf M))
      (done : Unit) → back ≡ [] → rest ≡ hands → AreAtCursors m store.logs hands
      → Drains store store hands (length back) (back ++ rest) (Ok done)
  list_none only_now store hands back rest done none all at =
      subst (λ (b : List (HandOf M)). Drains store store hands (length b) (b ++ rest) (Ok done))
      (sym none)
      (subst (λ (r : List (HandOf M)). Drains store store hands 0 r (Ok done)) (sym all)
      (drains_none only_now store hands done at))

  next_list : (old now new : StoreOf D M) (hands back rest : List (HandOf M))
      (hand after : HandOf M) (so result : Result Unit StoreFault)
      → Drains old now hands (length back) (back ++ hand ∷ rest) so
      → NextDoes g m now new hand after so result
      → Drains old new hands (length back + 1) ((back ++ after ∷ []) ++ rest) result
  next_list old now new hands back rest hand after (Ok done) result drains goes =
      subst (λ (xs : List (HandOf M)). Drains old new hands (length back + 1) xs result)
      (middle_set back hand after rest)
      (drains_next old now new hands (length back) (back ++ hand ∷ rest) hand after done result
      drains (middle_get back hand rest) goes.does goes.at_end goes.book goes.same_disks)
  next_list old now new hands back rest hand after (Err fault) result drains goes =
      subst (λ (r : Result Unit StoreFault).
      Drains old new hands (length back + 1) ((back ++ after ∷ []) ++ rest) r) (sym goes.2)
      (subst (λ (h : HandOf M).
      Drains old new hands (length back + 1) ((back ++ h ∷ []) ++ rest) (Err fault)) (sym goes.1)
      (subst (λ (s : StoreOf D M).
      Drains old s hands (length back + 1) ((back ++ hand ∷ []) ++ rest) (Err fault)) (sym goes.0)
      (subst (λ (xs : List (HandOf M)). Drains old now hands (length back + 1) xs (Err fault))
      (sym (append_assoc back (hand ∷ []) rest))
      (drains_pass old now hands (length back) (back ++ hand ∷ rest) fault drains))))

  pub list_next : (old now new : StoreOf D M) (hands back left rest more : List (HandOf M))
      (hand after : HandOf M) (so result : Result Unit StoreFault)
      → Drains old now hands (length back) (back ++ left) so → left ≡ hand ∷ rest
      → NextDoes g m now new hand after so result → more ≡ back ++ after ∷ []
      → Drains old new hands (length more) (more ++ rest) result
  list_next old now new hands back left rest more hand after so result drains first goes is =
      subst (λ (b : List (HandOf M)). Drains old new hands (length b) (b ++ rest) result) (sym is)
      (subst (λ (n : ℕ). Drains old new hands n ((back ++ after ∷ []) ++ rest) result)
      (sym (length-append back (after ∷ [])))
      (next_list old now new hands back rest hand after so result
      (subst (λ (l : List (HandOf M)). Drains old now hands (length back) (back ++ l) so) first
      drains) goes))

  -- what the next hand is asked
  pub few_next : (old now : StoreOf D M) (hands back left rest : List (HandOf M))
      (hand : HandOf M) (so : Result Unit StoreFault)
      → Drains old now hands (length back) (back ++ left) so → left ≡ hand ∷ rest
      → length hands ≤ 8 → OnOk so (hand.number < 8)
  few_next old now hands back left rest hand (Ok done) drains first few =
      let at : slice_get (back ++ left) (length back) ≡ Some hand =
      ap (λ (l : List (HandOf M)). slice_get (back ++ l) (length back)) first
      ∙ middle_get back hand rest in
      let number : hand.number ≡ length back =
      (drains.answer.each (length back) hand at).number_is in
      let inside : length back < length (back ++ left) =
      slice_get_within (back ++ left) (length back) hand at in
      let many : length (back ++ left) ≡ length hands = drains.as_many in
      omega (arith, number, inside, many, few)
  few_next old now hands back left rest hand (Err fault) drains first few = tt

  pub at_next : (old now : StoreOf D M) (hands back left rest : List (HandOf M))
      (hand : HandOf M) (so : Result Unit StoreFault)
      → Drains old now hands (length back) (back ++ left) so → left ≡ hand ∷ rest
      → OnOk so (IsAtCursor m now.logs hand.number hand)
  at_next old now hands back left rest hand (Ok done) drains first =
      let at : slice_get (back ++ left) (length back) ≡ Some hand =
      ap (λ (l : List (HandOf M)). slice_get (back ++ l) (length back)) first
      ∙ middle_get back hand rest in
      let here : IsAtCursor m now.logs (length back) hand =
      drains.answer.each (length back) hand at in
      subst (λ (n : ℕ). IsAtCursor m now.logs n hand) (sym here.number_is) here
  at_next old now hands back left rest hand (Err fault) drains first = tt

  -- all have come back
  pub list_end : (old now : StoreOf D M) (hands back left : List (HandOf M))
      (result : Result Unit StoreFault) → Drains old now hands (length back) (back ++ left) result
      → left ≡ [] → (length hands ≤ length back) × Drains old now hands (length back) back result
  list_end old now hands back left result drains none =
      let all : back ++ left ≡ back =
      ap (λ (l : List (HandOf M)). back ++ l) none ∙ append-nil back in
      let here : Drains old now hands (length back) back result =
      subst (λ (xs : List (HandOf M)). Drains old now hands (length back) xs result) all drains in
      let many : length back ≡ length hands = here.as_many in
      (omega (arith, many), here)
