-- Each move keeps a book lawful, and so does every list of moves.
use Rattle.std.proofs.Common.{◌≡◌, ◌≢◌, ℕ, ◌+◌, ◌-◌, ◌<◌, ◌≤◌, Bool, true, false, cond, ◌&&◌}
use Rattle.std.proofs.Common.{nat_le, ◌==◌, List, [], ◌∷◌, ◌++◌, length, take, map, set, Option}
use Rattle.std.proofs.Common.{Some, None, inl, inr, refl, sym, ◌∙◌, ap, subst, append-nil, arith}
use Rattle.std.proofs.lemmas.List.{length-map, length-set}
use Rattle.std.proofs.lemmas.Option.{slice_get_within, same_Some}
use Rattle.std.proofs.lemmas.Bool.{cases_eq, and_parts}
use Rattle.std.specs.List.{AllByRecursion, slice_get, slice_set}
use Rattle.fm_entry.specs.declared.entry.Entry.{Entry}
use Rattle.fm_entry.specs.declared.list_event.ListEvent.{ListEvent}
use Rattle.fm_core.specs.Meaning.{says_of}
use Rattle.fm_core.specs.Folds.{state_along, words_along, records_at}
use Rattle.fm_core.specs.Records.{of_module, numbered_from, numbered_before}
use Rattle.fm_core.specs.Book.{ModuleState, Book, next_number, greatest_of, state_at, IsPlaced}
use Rattle.fm_core.specs.Book.{IsLawful, accepted, worked, worked_at, worked_on, floor_of, fallen}
use Rattle.fm_core.specs.Book.{fallen_at, floored, is_done, based, rebased, with_entries, Move}
use Rattle.fm_core.specs.Book.{Accept, Work, Fall, Base, moved, run, accepts_of}
use Rattle.fm_core.specs.Drained.{ended, drained, AnyOrder}
use Rattle.fm_core.proofs.Lists.{all_append, all_map, get_set_same, get_set_other, map_got, map_get}
use Rattle.fm_core.proofs.Lists.{list_all_get}
use Rattle.fm_core.proofs.Tests.{true_le, true_eq}
use Rattle.fm_core.proofs.Along.{IsWithin, records_within}
use Rattle.fm_core.proofs.Ordered.{from_none, past_all_least}
use Rattle.fm_core.proofs.Places.{placed_accepted, placed_beside, placed_worked, placed_fallen}
use Rattle.fm_core.proofs.Places.{other_records, words_below, records_below, taken_all}
use Rattle.fm_core.proofs.Drains.{drained_accepted, drained_worked, drained_fallen, drained_based}
use Rattle.fm_core.proofs.Drains.{placed_at_end, cursor_of, records_at_end}

-- accepting keeps a book lawful
pub lawful_accepted : (k : Book) (e : Entry) → IsLawful k → IsLawful (accepted k e)
lawful_accepted k e h =
    record {
      as_many = h.as_many;
      named = h.named;
      placed =
          λ i p c a b. placed_accepted k e i p c (h.placed i p c a b);
    }

-- the cursor of module i after it was written
cursor_written : (cs : List ℕ) (i d c e : ℕ) → slice_get cs i ≡ Some d
    → slice_get (slice_set cs i c) i ≡ Some e → e ≡ c
cursor_written cs i d c e a b = let f : slice_get (set cs i c) i ≡ Some c =
    get_set_same cs i d c a in cc

-- the module of what stands at a place is one
same_module : (k : Book) (i : ℕ) (p q : ModuleState) → slice_get k.modules i ≡ Some p
    → slice_get k.modules i ≡ Some q → p ≡ q
same_module k i p q a b = cc

worked_named : (k : Book) (i : ℕ) (p : ModuleState) (c : ℕ) (ws : List ListEvent) → IsLawful k
    → IsPlaced k i p c → slice_get k.modules i ≡ Some p
    → AllByRecursion (λ r. r.«module» < length k.modules)
    (k.records ++ records_at p.meaning.own c ws)
worked_named k i p c ws h at a =
    let inside : i < length k.modules = slice_get_within k.modules i p a in
    let own : p.meaning.own ≡ i = at.numbered in
    let known : p.meaning.own < length k.modules = omega arith in
    all_append (λ r. r.«module» < length k.modules) k.records (records_at p.meaning.own c ws)
    h.named
    (all_map (IsWithin p.meaning.own c (c + 1)) (λ r. r.«module» < length k.modules)
    (records_at p.meaning.own c ws)
    (λ r w. let is : r.«module» ≡ p.meaning.own = w.module_is in omega arith)
    (records_within p.meaning.own c ws c (c + 1) (omega arith) (omega arith)))

worked_placed : (k : Book) (i : ℕ) (p : ModuleState) (c : ℕ) (e : Entry) → IsLawful k
    → slice_get k.modules i ≡ Some p → slice_get k.cursors i ≡ Some c
    → slice_get k.entries (c - k.base) ≡ Some e
    → (j : ℕ) (q : ModuleState) (d : ℕ) → slice_get k.modules j ≡ Some q
    → slice_get (slice_set k.cursors i (c + 1)) j ≡ Some d
    → IsPlaced (worked_on k i p c (Some e)) j q d
worked_placed k i p c e h a b found j q d a' b' =
    let at : IsPlaced k i p c = h.placed i p c a b in
    let ws : List ListEvent = says_of p.meaning (state_at k p c) c e in
    let cs : List ℕ = slice_set k.cursors i (c + 1) in
    elim (cases_eq j i) [
      | inl same ↦
          let here : IsPlaced (worked_on k i p c (Some e)) i p (c + 1) =
          placed_worked k cs i p c e at found in
          let b'' : slice_get cs i ≡ Some d = subst (λ x. slice_get cs x ≡ Some d) same b' in
          let a'' : slice_get k.modules i ≡ Some q =
          subst (λ x. slice_get k.modules x ≡ Some q) same a' in
          let is : d ≡ c + 1 = cursor_written k.cursors i c (c + 1) d b b'' in
          let part : p ≡ q = same_module k i p q a a'' in
          subst (λ x. IsPlaced (worked_on k i p c (Some e)) x q d) (sym same)
          (subst (λ x. IsPlaced (worked_on k i p c (Some e)) i x d) part
          (subst (IsPlaced (worked_on k i p c (Some e)) i p) (sym is) here))
      | inr other ↦
          let there : slice_get k.cursors j ≡ Some d =
          sym (get_set_other k.cursors i j (c + 1) other) ∙ b' in
          let ne : j ≢ p.meaning.own = λ x. other (x ∙ at.numbered) in
          placed_beside k cs (k.records ++ records_at p.meaning.own c ws) j q d
          (other_records j p.meaning.own c ws k.records ne) (h.placed j q d a' there)
    ]

worked_on_lawful : (k : Book) (i : ℕ) (p : ModuleState) (c : ℕ) → IsLawful k
    → slice_get k.modules i ≡ Some p → slice_get k.cursors i ≡ Some c
    → (found : Option Entry) → slice_get k.entries (c - k.base) ≡ found
    → IsLawful (worked_on k i p c found)
worked_on_lawful k i p c h a b None f = h
worked_on_lawful k i p c h a b (Some e) f =
    record {
      as_many = length-set k.cursors i (c + 1) ∙ h.as_many;
      named = worked_named k i p c (says_of p.meaning (state_at k p c) c e) h (h.placed i p c a b)
          a;
      placed = worked_placed k i p c e h a b f;
    }

worked_at_lawful : (k : Book) (i : ℕ) → IsLawful k → (part : Option ModuleState) (cursor : Option ℕ)
    → slice_get k.modules i ≡ part → slice_get k.cursors i ≡ cursor
    → IsLawful (worked_at k i part cursor)
worked_at_lawful k i h (Some p) (Some c) a b =
    worked_on_lawful k i p c h a b (slice_get k.entries (c - k.base)) refl
worked_at_lawful k i h (Some p) None a b = h
worked_at_lawful k i h None c a b = h

-- work keeps a book lawful
pub lawful_worked : (k : Book) (i : ℕ) → IsLawful k → IsLawful (worked k i)
lawful_worked k i h =
    worked_at_lawful k i h (slice_get k.modules i) (slice_get k.cursors i) refl refl

fallen_placed : (k : Book) (i c d : ℕ) → IsLawful k → slice_get k.cursors i ≡ Some d
    → floor_of k i ≤ c → c ≤ d
    → (j : ℕ) (q : ModuleState) (e : ℕ) → slice_get k.modules j ≡ Some q
    → slice_get (slice_set k.cursors i c) j ≡ Some e
    → IsPlaced (record k { cursors = slice_set k.cursors i c }) j q e
fallen_placed k i c d h b low high j q e a' b' =
    let cs : List ℕ = slice_set k.cursors i c in
    elim (cases_eq j i) [
      | inl same ↦
          let b'' : slice_get cs i ≡ Some e = subst (λ x. slice_get cs x ≡ Some e) same b' in
          let a'' : slice_get k.modules i ≡ Some q =
          subst (λ x. slice_get k.modules x ≡ Some q) same a' in
          let is : e ≡ c = cursor_written k.cursors i d c e b b'' in
          let here : IsPlaced (record k { cursors = cs }) i q c =
          placed_fallen k cs i q d c (h.placed i q d a'' b) low high in
          subst (λ x. IsPlaced (record k { cursors = cs }) x q e) (sym same)
          (subst (IsPlaced (record k { cursors = cs }) i q) (sym is) here)
      | inr other ↦
          let there : slice_get k.cursors j ≡ Some e = sym (get_set_other k.cursors i j c other)
          ∙ b' in
          placed_beside k cs k.records j q e refl (h.placed j q e a' there)
    ]

fallen_by_lawful : (k : Book) (i c d : ℕ) → IsLawful k → slice_get k.cursors i ≡ Some d
    → (allowed : Bool) → (nat_le (floor_of k i) c && nat_le c d) ≡ allowed
    → IsLawful (cond allowed (record k { cursors = slice_set k.cursors i c }) k)
fallen_by_lawful k i c d h b false e = h
fallen_by_lawful k i c d h b true e =
    let parts : (nat_le (floor_of k i) c ≡ true) × (nat_le c d ≡ true) =
    and_parts (nat_le (floor_of k i) c) (nat_le c d) e in
    record {
      as_many = length-set k.cursors i c ∙ h.as_many;
      named = h.named;
      placed = fallen_placed k i c d h b (true_le (floor_of k i) c parts.0) (true_le c d parts.1);
    }

fallen_at_lawful : (k : Book) (i c : ℕ) → IsLawful k → (cursor : Option ℕ)
    → slice_get k.cursors i ≡ cursor → IsLawful (fallen_at k i c cursor)
fallen_at_lawful k i c h None b = h
fallen_at_lawful k i c h (Some d) b =
    fallen_by_lawful k i c d h b (nat_le (floor_of k i) c && nat_le c d) refl

-- a fall keeps a book lawful
pub lawful_fallen : (k : Book) (i c : ℕ) → IsLawful k → IsLawful (fallen k i c)
lawful_fallen k i c h = fallen_at_lawful k i c h (slice_get k.cursors i) refl

-- the floor of a module of a lawful book is at most its cursor
pub floor_low : (k : Book) (i : ℕ) (p : ModuleState) (c : ℕ) → IsPlaced k i p c → floor_of k i ≤ c
floor_low k i p c h =
    past_all_least k.base c (numbered_from k.base (of_module i k.records)) h.from_base
    (subst (AllByRecursion (λ r. r.number < c)) (sym h.exact) (words_below k i p c h))

floored_placed : (k : Book) → IsLawful k → (i : ℕ) (p : ModuleState) (c : ℕ)
    → slice_get k.modules i ≡ Some p → slice_get (floored k).cursors i ≡ Some c
    → IsPlaced (floored k) i p c
floored_placed k h i p c a b =
    let found : (d : ℕ) × (slice_get k.cursors i ≡ Some d) = cursor_of k i p h a in
    let at : IsPlaced k i p found.0 = h.placed i p found.0 a found.1 in
    let got : slice_get (floored k).cursors i ≡ Some (floor_of k p.meaning.own) =
    map_get (λ q. floor_of k q.meaning.own) k.modules i p a in
    let is : c ≡ floor_of k p.meaning.own = same_Some c (floor_of k p.meaning.own) (sym b ∙ got) in
    let own : c ≡ floor_of k i = is ∙ ap (floor_of k) at.numbered in
    let low : floor_of k i ≤ found.0 = floor_low k i p found.0 at in
    placed_fallen k (floored k).cursors i p found.0 c at (omega arith) (omega arith)

-- all modules at their floors stand lawfully
pub lawful_floored : (k : Book) → IsLawful k → IsLawful (floored k)
lawful_floored k h =
    record {
      as_many = length-map k.modules (λ p. floor_of k p.meaning.own);
      named = h.named;
      placed = floored_placed k h;
    }

abbrev next_base : Book → Book
next_base k = record {
  base = next_number k;
  moment = greatest_of k;
  modules =
      map (rebased k) k.modules;
  entries = [];
  cursors = k.cursors;
  records = k.records;
}

take_none : (n : ℕ) → n ≡ 0 → take n (let none : List Entry = [] in none) ≡ []
take_none n e = rw e refl

based_at : (k : Book) (i : ℕ) (p : ModuleState) → IsPlaced k i p (next_number k)
    → IsPlaced (next_base k) i (rebased k p) (next_number k)
based_at k i p h =
    record {
      numbered = h.numbered;
      from_base = omega arith;
      to_end = omega arith;
      ascending = h.ascending;
      exact = from_none (next_number k) (of_module i k.records)
          (records_below k i p (next_number k) h)
          ∙ ap (words_along p.meaning (state_along p.meaning p.state k.base k.entries)
          (next_number k))
          (sym (take_none (next_number k - next_number k) (omega arith)));
    }

based_placed : (k : Book) → IsLawful k → is_done k ≡ true → (i : ℕ) (q : ModuleState) (c : ℕ)
    → slice_get (map (rebased k) k.modules) i ≡ Some q → slice_get k.cursors i ≡ Some c
    → IsPlaced (next_base k) i q c
based_placed k h done i q c a b =
    let found : (p : ModuleState) × (slice_get k.modules i ≡ Some p)
    × (rebased k p ≡ q) = map_got (rebased k) k.modules i q a in
    let end : c ≡ next_number k =
    true_eq c (next_number k) (list_all_get (λ d. d == next_number k) k.cursors i c done b) in
    let here : IsPlaced (next_base k) i (rebased k found.0) (next_number k) =
    based_at k i found.0 (placed_at_end k i found.0 h done found.1) in
    subst (IsPlaced (next_base k) i q) (sym end)
    (subst (λ x. IsPlaced (next_base k) i x (next_number k)) found.2 here)

based_by_lawful : (k : Book) → IsLawful k → (done : Bool) → is_done k ≡ done
    → IsLawful (cond done (next_base k) k)
based_by_lawful k h false e = h
based_by_lawful k h true e =
    record {
      as_many = h.as_many ∙ sym (length-map k.modules (rebased k));
      named = subst (λ n. AllByRecursion (λ r. r.«module» < n) k.records)
          (sym (length-map k.modules (rebased k))) h.named;
      placed = based_placed k h e;
    }

-- a new base keeps a book lawful
pub lawful_based : (k : Book) → IsLawful k → IsLawful (based k)
lawful_based k h = based_by_lawful k h (is_done k) refl

-- each move does
pub lawful_moved : (k : Book) (m : Move) → IsLawful k → IsLawful (moved k m)
lawful_moved k (Accept e) h = lawful_accepted k e h
lawful_moved k (Work i) h = lawful_worked k i h
lawful_moved k (Fall i c) h = lawful_fallen k i c h
lawful_moved k Base h = lawful_based k h

pub run_lawful : (ms : List Move) (k : Book) → IsLawful k → IsLawful (run k ms)
run_lawful [] k h = h
run_lawful (m ∷ ms) k h = run_lawful ms (moved k m) (lawful_moved k m h)

-- after any moves a book drains, with more entries, as the book that only accepts
pub run_drained : (ms : List Move) (k : Book) (es : List Entry) → IsLawful k
    → drained (with_entries (run k ms) es) ≡ drained (with_entries k (accepts_of ms ++ es))
run_drained [] k es h = refl
run_drained (Accept e ∷ ms) k es h = run_drained ms (accepted k e) es (lawful_accepted k e h)
    ∙ drained_accepted k e (accepts_of ms ++ es)
run_drained (Work i ∷ ms) k es h = run_drained ms (worked k i) es (lawful_worked k i h)
    ∙ drained_worked k i (accepts_of ms ++ es) h
run_drained (Fall i c ∷ ms) k es h = run_drained ms (fallen k i c) es (lawful_fallen k i c h)
    ∙ drained_fallen k i c (accepts_of ms ++ es)
run_drained (Base ∷ ms) k es h = run_drained ms (based k) es (lawful_based k h)
    ∙ drained_based k (accepts_of ms ++ es) h

-- no more entries
pub with_none : (k : Book) → drained (with_entries k []) ≡ drained k
with_none k = ap (λ es. drained (record k { entries = es })) (append-nil k.entries)

-- at the end the state of a module and its records are those of the drained book
pub ends_drained : (k : Book) (i : ℕ) (p : ModuleState) → IsLawful k
    → slice_get k.modules i ≡ Some p → slice_get k.cursors i ≡ Some (next_number k)
    → slice_get (drained k).modules i
    ≡ Some (record { state = state_at k p (next_number k); words = of_module i k.records })
ends_drained k i p h a b =
    let at : IsPlaced k i p (next_number k) = h.placed i p (next_number k) a b in
    let state : state_along p.meaning p.state k.base k.entries ≡ state_at k p (next_number k) =
    ap (state_along p.meaning p.state k.base) (sym (taken_all k (next_number k) (omega arith))) in
    let all : of_module i k.records ≡ of_module i (numbered_before k.base k.records)
    ++ words_along p.meaning p.state k.base k.entries = records_at_end k i p at in
    let words : of_module p.meaning.own (numbered_before k.base k.records)
    ++ words_along p.meaning p.state k.base k.entries ≡ of_module i k.records =
    ap (λ j. of_module j (numbered_before k.base k.records)
    ++ words_along p.meaning p.state k.base k.entries) at.numbered ∙ sym all in
    let whole : ended k p
    ≡ record { state = state_at k p (next_number k); words = of_module i k.records } = cc in
    map_get (ended k) k.modules i p a ∙ ap Some whole

-- whatever the order
pub any_order : (k : Book) (ms : List Move) → IsLawful k → AnyOrder k ms
any_order k ms h =
    let lawful : IsLawful (run k ms) = run_lawful ms k h in
    let drains : drained (run k ms) ≡ drained (with_entries k (accepts_of ms)) =
    sym (with_none (run k ms)) ∙ run_drained ms k [] h
    ∙ ap (λ es. drained (with_entries k es)) (append-nil (accepts_of ms)) in
    record {
      lawful = lawful;
      drains = drains;
      drains_with = λ es. run_drained ms k es h;
      ends = λ i p a b. ap (λ d. slice_get d.modules i) (sym drains)
          ∙ ends_drained (run k ms) i p lawful a b;
    }
