-- Steps of one hand, one after another.
use Rattle.std.proofs.Common.{◌≡◌, inl, inr, ℕ, List, [], ◌++◌, None}
use Rattle.std.proofs.Common.{Result, Ok, Err, OnOk, IfErr, refl, sym, ◌∙◌, ap, subst}
use Rattle.fm_outer.specs.Failures.{Rose}
use Rattle.fm_outer.specs.declared.disk.Disk.{Ghosts}
use Rattle.fm_outer.proofs.Moments.{OnlyNow}
use Rattle.fm_core.specs.Book.{Book, ModuleState}
use Rattle.fm_core.specs.Hands.{HandOf, shown}
use Rattle.fm_core.specs.Seen.{FollowsAs}
use Rattle.fm_core.specs.declared.module.Module.{Ghosts as ModuleGhosts}
use Rattle.fm_logs.specs.StoreBook.{StoreBook}
use Rattle.fm_logs.specs.declared.fault.StoreFault.{StoreFault}
use Rattle.fm_logs.specs.declared.fault.StoreFault.TheVariants.{Disk, Full, Closed, Damaged}
use Rattle.fm_logs.specs.declared.fault.StoreFault.TheVariants.{Exists, NoMemory}
use Rattle.fm_store.specs.Cursors.{IsAtCursor}
use Rattle.fm_store.specs.StoreCalls.{next_entry}
use Rattle.fm_store.specs.StoreLeft.{AreSameStore}
use Rattle.fm_store.specs.StoreOf.{StoreOf, StoreStandsFor}
use Rattle.fm_drain.specs.DrainCalls.{OnlyCommitted, StaysOpen, StoppedAt}
use Rattle.fm_drain.specs.DrainCalls.{store_after}
use Rattle.fm_drain.specs.DrainLimits.{StepLimit}
use Rattle.fm_drain.specs.DrainSteps.{HandAnswers, HandDoes, HandOnBook}
use Rattle.fm_drain.proofs.Works.{works_keep, follows_kept, run_both}
use Rattle.fm_drain.proofs.Committing.{commits_none, commits_both}
use Rattle.fm_core.proofs.Options.{none_some}

pub only_then : {D M : Type 0} (old mid new : StoreOf D M) → OnlyCommitted old mid
    → OnlyCommitted mid new → OnlyCommitted old new
only_then old mid new first second =
    second ∙ ap (λ (s : StoreOf _ _). record s {
      logs = record s.logs {
        flt = new.logs.flt;
        cursors = new.logs.cursors;
        closed = new.logs.closed;
      };
    }) first

module _ {D M : Type 0} (g : Ghosts D) (m : ModuleGhosts M) where
  pub stays_then : (old mid new : StoreOf D M) → StaysOpen g old mid → StaysOpen g mid new
      → StaysOpen g old new
  stays_then old mid new (inl same) second =
      subst (λ (s : StoreOf D M). StaysOpen g s new) same second
  stays_then old mid new (inr first) (inl same) =
      subst (λ (s : StoreOf D M). StaysOpen g old s) (sym same) (inr first)
  stays_then old mid new (inr first) (inr second) = inr (first.0, second.1, second.2 ∙ first.2)

  pub stopped_then : (old mid new : StoreOf D M) (i : ℕ) (h : HandOf M) (fault : StoreFault)
      → StaysOpen g old mid → StoppedAt g m mid new i h fault → StoppedAt g m old new i h fault
  stopped_then old mid new i h (Closed name failures) (inl same) why =
      subst (λ (s : StoreOf D M). StoppedAt g m s new i h (Closed name failures)) same why
  stopped_then old mid new i h (Closed name failures) (inr first) why =
      absurd (none_some first.1 why.1)
  stopped_then old mid new i h (Full kind) stays why =
      (stays_then old mid new stays why.0, why.1, why.2)
  stopped_then old mid new i h Disk (inl same) why =
      subst (λ (s : StoreOf D M). StoppedAt g m s new i h Disk) same why
  stopped_then old mid new i h Disk (inr first) why = (
    first.0,
    why.1,
    subst (λ (n : ℕ). Rose n (g.failures new.logs.flt.disk)) first.2 why.2,
    why.3,
  )
  stopped_then old mid new i h NoMemory stays why = stays_then old mid new stays why
  stopped_then old mid new i h (Damaged name place) stays why = absurd why
  stopped_then old mid new i h Exists stays why = absurd why

  -- no step yet
  pub hand_same : (store : StoreOf D M) (hand : HandOf M) (done : Unit)
      → IsAtCursor m store.logs hand.number hand → HandDoes g m store store hand hand (Ok done)
  hand_same store hand done at = record {
    only = refl;
    as_many = refl;
    first_same = refl;
    others = λ j differs. refl;
    follow = λ k base entries follows. follows;
    answer = (at, inl refl);
  }

  answer_then : (old mid new : StoreOf D M) (i : ℕ) (b : HandOf M) (result : Result Unit StoreFault)
      → StaysOpen g old mid → HandAnswers g m mid new i b result
      → HandAnswers g m old new i b result
  answer_then old mid new i b (Ok done) stays answer =
      (answer.0, stays_then old mid new stays answer.1)
  answer_then old mid new i b (Err fault) stays answer =
      (answer.0, stopped_then old mid new i b fault stays answer.1)

  -- some more
  pub hand_then : (old mid new : StoreOf D M) (hand a b : HandOf M) (done : Unit)
      (result : Result Unit StoreFault) → HandDoes g m old mid hand a (Ok done)
      → HandDoes g m mid new a b result → HandDoes g m old new hand b result
  hand_then old mid new hand a b done result first second =
      let number : a.number ≡ hand.number = first.answer.0.number_is in
      let base : mid.logs.base ≡ old.logs.base = ap (λ (s : StoreOf D M). s.logs.base) first.only in
      let entries : mid.logs.entries ≡ old.logs.entries =
      ap (λ (s : StoreOf D M). s.logs.entries) first.only in
      record {
        only = only_then old mid new first.only second.only;
        as_many = second.as_many ∙ first.as_many;
        first_same = subst (λ (n : ℕ). OnOk result (new.logs.flt.first ≡ n)) first.first_same
            second.first_same;
        others = λ j differs. second.others j (λ same. differs (same ∙ number))
            ∙ first.others j differs;
        follow = λ k at_base at_entries follows.
            subst (λ (n : ℕ). FollowsAs k n (shown m b)) number
            (second.follow k (at_base ∙ sym base) (at_entries ∙ sym entries)
            (subst (λ (n : ℕ). FollowsAs k n (shown m a)) (sym number)
            (first.follow k at_base at_entries follows)));
        answer = subst (λ (n : ℕ). HandAnswers g m old new n b result) number
            (answer_then old mid new a.number b result first.answer.1 second.answer);
      }

  -- what the steps of a hand make of each book
  abbrev pub OnBooks : StoreOf D M → StoreOf D M → HandOf M → Result Unit StoreFault → Type 0
  OnBooks old new hand result =
      (fresh : List ModuleState) (k : StoreBook) → StoreStandsFor g fresh old k
      → FollowsAs k.book hand.number (shown m hand) → HandOnBook g fresh old new k result

  -- nothing was done
  pub book_same : OnlyNow g → (fresh : List ModuleState) (store : StoreOf D M) (k : StoreBook)
      (result : Result Unit StoreFault) → StoreStandsFor g fresh store k
      → IfErr result (StepLimit store.logs.flt.first k.book)
      → HandOnBook g fresh store store k result
  book_same only_now fresh store k result st limit = record {
    works = [];
    commits = commits_none g only_now fresh store k st;
    limit = limit;
  }

  -- the store is open between steps
  pub open_between : (fresh : List ModuleState) (old mid : StoreOf D M) (k : StoreBook)
      → StaysOpen g old mid → StoreStandsFor g fresh old k → mid.logs.closed ≡ None
  open_between fresh old mid k (inl same) st =
      ap (λ (s : StoreOf D M). s.logs.closed) same ∙ st.keep.is_open
  open_between fresh old mid k (inr first) st = first.1

  -- a hand that follows the book with the store's entries does so after works
  pub follows_after : (fresh : List ModuleState) (store : StoreOf D M) (k : StoreBook)
      (works : List ℕ) (i : ℕ) (old now : HandOf M) → StoreStandsFor g fresh store k
      → ((b : Book) → b.base ≡ store.logs.base → b.entries ≡ store.logs.entries
      → FollowsAs b i (shown m old) → FollowsAs b i (shown m now))
      → FollowsAs k.book i (shown m old) → FollowsAs (store_after works k).book i (shown m now)
  follows_after fresh store k works i old now st goes follows =
      follows_kept k.book (store_after works k).book i (shown m now) (works_keep works k.book)
      (goes k.book (sym st.base_is) (sym st.entries_are) follows)

  -- a limit of a book after works, some steps later
  pub limit_then : (mid old : StoreOf D M) (k : StoreBook) (one two : List ℕ)
      (result : Result Unit StoreFault) → mid.logs.flt.first ≡ old.logs.flt.first
      → IfErr result (StepLimit mid.logs.flt.first (store_after two (store_after one k)).book)
      → IfErr result (StepLimit old.logs.flt.first (store_after (one ++ two) k).book)
  limit_then mid old k one two result first limit =
      subst (λ (b : Book). IfErr result (StepLimit old.logs.flt.first b))
      (sym (run_both one two k.book))
      (subst (λ (n : ℕ). IfErr result
      (StepLimit n (store_after two (store_after one k)).book)) first limit)

  pub books_then : (old mid new : StoreOf D M) (hand a : HandOf M) (done : Unit)
      (result : Result Unit StoreFault) → HandDoes g m old mid hand a (Ok done)
      → OnBooks old mid hand (Ok done) → OnBooks mid new a result → OnBooks old new hand result
  books_then old mid new hand a done result does first second fresh k st follows =
      let one = first fresh k st follows in
      let is_open : mid.logs.closed ≡ None = open_between fresh old mid k does.answer.1 st in
      let stands : StoreStandsFor g fresh mid (store_after one.works k) =
      one.commits.stands is_open in
      let after : FollowsAs (store_after one.works k).book a.number (shown m a) =
      subst (λ (n : ℕ). FollowsAs (store_after one.works k).book n (shown m a))
      (sym does.answer.0.number_is)
      (follows_after fresh old k one.works hand.number hand a st does.follow follows) in
      let two = second fresh (store_after one.works k) stands after in
      record {
        works = one.works ++ two.works;
        commits = commits_both g fresh old mid new k one.works two.works st does.only one.commits
            two.commits;
        limit = limit_then mid old k one.works two.works result does.first_same two.limit;
      }

  -- a run of steps of a hand
  pub record HandSteps (old new : StoreOf D M) (hand now : HandOf M)
      (result : Result Unit StoreFault) : Type 0 where
    pub does : HandDoes g m old new hand now result
    pub book : OnBooks old new hand result
    pub same_disks : AreSameStore g old new

  pub steps_none : OnlyNow g → (store : StoreOf D M) (hand : HandOf M) (done : Unit)
      → IsAtCursor m store.logs hand.number hand → HandSteps store store hand hand (Ok done)
  steps_none only_now store hand done at = record {
    does = hand_same store hand done at;
    book = λ fresh k st follows. book_same only_now fresh store k (Ok done) st tt;
    same_disks = λ name. refl;
  }

  pub steps_then : (old mid new : StoreOf D M) (hand a b : HandOf M) (done : Unit)
      (result : Result Unit StoreFault) → HandSteps old mid hand a (Ok done)
      → HandDoes g m mid new a b result → OnBooks mid new a result → AreSameStore g mid new
      → HandSteps old new hand b result
  steps_then old mid new hand a b done result first does book same = record {
    does = hand_then old mid new hand a b done result first.does does;
    book = books_then old mid new hand a done result first.does first.book book;
    same_disks = λ name. same name ∙ first.same_disks name;
  }

  -- the hand stands where the next step begins
  pub steps_at : (old now : StoreOf D M) (hand a : HandOf M) (done : Unit)
      → HandSteps old now hand a (Ok done) → IsAtCursor m now.logs a.number a
  steps_at old now hand a done steps =
      subst (λ (n : ℕ). IsAtCursor m now.logs n a) (sym steps.does.answer.0.number_is)
      steps.does.answer.0

  pub steps_end : (old now : StoreOf D M) (hand a : HandOf M) (result : Result Unit StoreFault)
      → HandSteps old now hand a result → next_entry now.logs ≡ next_entry old.logs
  steps_end old now hand a result steps =
      ap (λ (s : StoreOf D M). next_entry s.logs) steps.does.only
