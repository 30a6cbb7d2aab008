-- A book with its base at its end.
use Rattle.std.proofs.Common.{◌≡◌, ℕ, suc, ◌+◌, ◌-◌, ◌≤◌, true, ◌==◌, List, [], ◌∷◌, length}
use Rattle.std.proofs.Common.{map, take, Some, refl, sym, ◌∙◌, ap, subst, arith}
use Rattle.std.proofs.lemmas.List.{take_all}
use Rattle.std.specs.List.{slice_get}
use Rattle.fm_core.specs.Book.{Book, ModuleState, IsLawful, Work, run, based, is_done, next_number}
use Rattle.fm_core.specs.Book.{greatest_from, rebased, state_at}
use Rattle.fm_core.specs.Drained.{drained}
use Rattle.fm_core.specs.Folds.{state_along}
use Rattle.fm_core.specs.Hands.{HandOf, shown}
use Rattle.fm_core.specs.Meaning.{State}
use Rattle.fm_core.specs.Records.{of_module}
use Rattle.fm_core.specs.Seen.{Follows}
use Rattle.fm_core.specs.declared.module.Module.{Ghosts as ModuleGhosts}
use Rattle.fm_core.proofs.Drains.{cursor_of, drained_based}
use Rattle.fm_core.proofs.Lists.{list_all_get, map_got}
use Rattle.fm_core.proofs.Places.{taken_all}
use Rattle.fm_core.proofs.Runs.{ends_drained, lawful_based, run_lawful, with_none}
use Rattle.fm_core.proofs.Tests.{true_eq}
use Rattle.fm_entry.specs.declared.entry.Entry.{Entry}
use Rattle.fm_logs.specs.LogsBook.{DrainAlike}
use Rattle.fm_logs.specs.StoreBook.{StoreBook, force_along}
use Rattle.fm_store.specs.StoreCalls.{HandsAreDone}
use Rattle.fm_store.specs.StoreLeft.{store_based}
use Rattle.fm_store.proofs.Based.{book_at_end, based_is, store_based_is}
use Rattle.fm_drain.specs.DrainCalls.{store_after}
use Rattle.fm_drain.proofs.Works.{KeepsEntries, works_keep, works_alike}
use Rattle.fm_drain.specs.ToBase.{IsBasedOf}

map_self : (f : ModuleState → ModuleState) (ps : List ModuleState)
    → ((p : ModuleState) → f p ≡ p) → map f ps ≡ ps
map_self f [] same = refl
map_self f (p ∷ ps) same =
    let one : f p ≡ p = same p in
    let rest : map f ps ≡ ps = map_self f ps same in
    cc

take_none : (es : List Entry) → es ≡ [] → (n : ℕ) → take n es ≡ []
take_none es none n =
    let count : length es ≡ 0 = ap length none in
    take_all n es (omega (arith, count)) ∙ none

length_mapped : {X Y : Type 0} (f : X → Y) (xs : List X) → length (map f xs) ≡ length xs
length_mapped f [] = refl
length_mapped f (x ∷ xs) = ap suc (length_mapped f xs)

-- a book without entries is its own end
end_itself : (k : Book) → k.entries ≡ [] → book_at_end k ≡ k
end_itself k none =
    let count : length k.entries ≡ 0 = ap length none in
    let base : k.base + length k.entries ≡ k.base = omega (arith, count) in
    let moment : greatest_from k.moment k.entries ≡ k.moment =
    ap (λ (es : List Entry). greatest_from k.moment es) none in
    let modules : map (rebased k) k.modules ≡ k.modules =
    map_self (rebased k) k.modules
    (λ p. ap (λ (es : List Entry).
    record p { state = state_along p.meaning p.state k.base es }) none) in
    let entries : [] ≡ k.entries = sym none in
    λ i. record {
      base = base i;
      moment = moment i;
      modules = modules i;
      entries = entries i;
      cursors = k.cursors;
      records = k.records;
    }

pub based_none : (k : StoreBook) → k.book.entries ≡ [] → is_done k.book ≡ true → store_based k ≡ k
based_none k none done =
    let book : book_at_end k.book ≡ k.book = end_itself k.book none in
    let force : force_along k.in_force k.book.entries ≡ k.in_force =
    ap (λ (es : List Entry). force_along k.in_force es) none in
    store_based_is k done ∙ (λ i. record { book = book i; confs = k.confs; in_force = force i })

-- the state of a module that has taken all entries
pub state_there : (k : Book) (p : ModuleState) (c : ℕ) → next_number k ≤ c
    → state_at k p c ≡ state_along p.meaning p.state k.base k.entries
state_there k p c past =
    ap (λ (es : List Entry). state_along p.meaning p.state k.base es) (taken_all k c past)

module _ {M : Type 0} (m : ModuleGhosts M) where
  follows_there : (k : Book) (i : ℕ) (p : ModuleState) (h : HandOf M)
      → Follows k i p (shown m h) → h.cursor ≡ next_number k
      → Follows (book_at_end k) i (rebased k p) (shown m h)
  follows_there k i p h follows at = record {
    number_is = follows.number_is;
    own_is = follows.own_is;
    meaning_is = follows.meaning_is;
    from_base = omega (arith, at);
    to_end = omega (arith, at);
    folds = follows.folds
        ∙ (state_there k p h.cursor (omega (arith, at))
        ∙ ap (λ (es : List Entry). state_along p.meaning
        (state_along p.meaning p.state k.base k.entries) (next_number k) es)
        (sym (take_none [] refl (h.cursor - next_number k))));
  }

  done_there : (k : Book) (hands : List (HandOf M)) → HandsAreDone m k hands
      → HandsAreDone m (book_at_end k) hands
  done_there k hands done = record {
    as_many = done.as_many ∙ sym (length_mapped (rebased k) k.modules);
    follow = λ i h got q at.
        let from = map_got (rebased k) k.modules i q at in
        subst (λ (p : ModuleState). Follows (book_at_end k) i p (shown m h)) from.2
        (follows_there k i from.0 h (done.follow i h got from.0 from.1) (done.at_end i h got));
    at_end = λ i h got.
        let here : h.cursor ≡ next_number k = done.at_end i h got in
        omega (arith, here);
  }

  -- hands that are done are so where the base is at the end
  pub hands_based : (k : StoreBook) (hands : List (HandOf M)) → HandsAreDone m k.book hands
      → is_done k.book ≡ true → HandsAreDone m (store_based k).book hands
  hands_based k hands done end =
      subst (λ (b : Book). HandsAreDone m b hands) (sym (based_is k.book end))
      (done_there k.book hands done)

-- the state of a module of a book that is at its end
module_ends : (k : Book) (i : ℕ) (p : ModuleState) → IsLawful (book_at_end k) → is_done k ≡ true
    → slice_get (book_at_end k).modules i ≡ Some p
    → slice_get (drained (book_at_end k)).modules i
    ≡ Some (record { state = p.state; words = of_module i k.records })
module_ends k i p lawful done got =
    let c = cursor_of (book_at_end k) i p lawful got in
    let at : c.0 ≡ next_number k =
    true_eq c.0 (next_number k)
    (list_all_get (λ n. n == next_number k) k.cursors i c.0 done c.1) in
    let there : c.0 ≡ next_number (book_at_end k) = omega (arith, at) in
    let state : state_at (book_at_end k) p (next_number (book_at_end k)) ≡ p.state =
    ap (λ (es : List Entry). state_along p.meaning p.state (next_number k) es)
    (take_none [] refl (next_number (book_at_end k) - next_number k)) in
    ends_drained (book_at_end k) i p lawful got (c.1 ∙ ap Some there)
    ∙ ap (λ (s : State). Some (record { state = s; words = of_module i k.records })) state

-- books that drain alike drain to the same
pub drained_same : (one other : Book) → DrainAlike one other → drained one ≡ drained other
drained_same one other alike = sym (with_none one) ∙ (alike [] ∙ with_none other)

pub based_of : (k : StoreBook) (works : List ℕ) → IsLawful k.book
    → is_done (store_after works k).book ≡ true
    → IsBasedOf k (store_based (store_after works k))
based_of k works lawful done =
    let w : Book = run k.book (map Work works) in
    let kept : KeepsEntries k.book w = works_keep works k.book in
    let worked : IsLawful w = run_lawful (map Work works) k.book lawful in
    let end : based w ≡ book_at_end w = based_is w done in
    let alike : DrainAlike (based w) k.book =
    λ es. drained_based w es worked ∙ works_alike works k.book lawful es in
    let count : length w.entries ≡ length k.book.entries = ap length kept.entries_same in
    let base : next_number w ≡ next_number k.book = omega (arith, kept.base_same, count) in
    record {
      alike = alike;
      confs_same = refl;
      base_is = ap (λ (b : Book). b.base) end ∙ base;
      none_left = ap (λ (b : Book). b.entries) end;
      ends = λ i p got.
          ap (λ d. slice_get d.modules i) (sym (drained_same (based w) k.book alike))
          ∙ (ap (λ (b : Book). slice_get (drained b).modules i) end
          ∙ (module_ends w i p (subst IsLawful end (lawful_based w worked)) done
          (ap (λ (b : Book). slice_get b.modules i) (sym end) ∙ got)
          ∙ ap (λ (b : Book). Some (record { state = p.state; words = of_module i b.records }))
          (sym end)));
    }
