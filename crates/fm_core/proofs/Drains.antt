-- What a book drains to, and what each move keeps of it.
use Rattle.std.proofs.Common.{◌≡◌, ℕ, ◌+◌, ◌-◌, ◌<◌, ◌≤◌, Bool, true, false, cond, ◌&&◌, nat_lt}
use Rattle.std.proofs.Common.{nat_le, max, ◌==◌, List, [], ◌∷◌, ◌++◌, length, map, get_or}
use Rattle.std.proofs.Common.{Option, Some, None, refl, sym, ◌∙◌, ap, subst, append-nil}
use Rattle.std.proofs.Common.{append_assoc, length-append, arith}
use Rattle.std.proofs.lemmas.List.Elements.{filter-append}
use Rattle.std.proofs.lemmas.Option.{slice_get_within, slice_get-get_or}
use Rattle.std.specs.List.{slice_get, slice_set}
use Rattle.fm_entry.specs.declared.entry.Entry.{Entry}
use Rattle.fm_entry.specs.declared.list_event.ListEvent.{ListEvent}
use Rattle.fm_entry.specs.declared.spoken.Spoken.{Spoken}
use Rattle.fm_entry.specs.Entries.{moment_of}
use Rattle.fm_core.specs.Meaning.{says_of}
use Rattle.fm_core.specs.Folds.{state_along, words_along, records_at}
use Rattle.fm_core.specs.Records.{of_module, numbered_before}
use Rattle.fm_core.specs.Book.{ModuleState, Book, next_number, state_at, IsPlaced, IsLawful}
use Rattle.fm_core.specs.Book.{accepted, worked, worked_at, worked_on, floor_of, fallen, fallen_at}
use Rattle.fm_core.specs.Book.{floored, is_done, based, rebased, with_entries, greatest_of}
use Rattle.fm_core.specs.Book.{greatest_from}
use Rattle.fm_core.specs.Drained.{ended, Drained, drained}
use Rattle.fm_core.proofs.Lists.{filter_swap, map_same, map_map, list_all_get}
use Rattle.fm_core.proofs.Tests.{true_eq}
use Rattle.fm_core.proofs.Along.{state_append, words_append, records_within}
use Rattle.fm_core.proofs.Ordered.{within_from, before_none, before_all}
use Rattle.fm_core.proofs.Places.{taken_all, records_split, records_below}

-- the drained book, by the records below the base: nothing else of the records counts
abbrev pub drained_by : Book → List Entry → List Spoken → Drained
drained_by k es below =
    record {
      count = k.base + length es;
      moment = greatest_from k.moment es;
      modules = map (λ p. record {
        state = state_along p.meaning p.state k.base es;
        words = of_module p.meaning.own below ++ words_along p.meaning p.state k.base es;
      }) k.modules;
    }

-- the greatest moment of two lists is that of the second, from that of the first
pub greatest_append : (t : ℕ) (es more : List Entry)
    → greatest_from t (es ++ more) ≡ greatest_from (greatest_from t es) more
greatest_append t [] more = refl
greatest_append t (e ∷ es) more = greatest_append (max t (moment_of e)) es more

-- records from the base on change nothing of what a book drains to, and nor do cursors
pub drained_beside : (k : Book) (cs : List ℕ) (rs : List Spoken) (es : List Entry)
    → numbered_before k.base rs ≡ numbered_before k.base k.records
    → drained (with_entries (record k { cursors = cs; records = rs }) es)
    ≡ drained (with_entries k es)
drained_beside k cs rs es same = ap (drained_by k (k.entries ++ es)) same

-- what is said at a number from the base on is not below it
pub before_said : (n own c : ℕ) (ws : List ListEvent) (rs : List Spoken) → n ≤ c
    → numbered_before n (rs ++ records_at own c ws) ≡ numbered_before n rs
before_said n own c ws rs h =
    filter-append (λ r. nat_lt r.number n) rs (records_at own c ws)
    ∙ ap (λ xs. numbered_before n rs ++ xs)
    (before_none n (records_at own c ws)
    (within_from own n (c + 1) (records_at own c ws)
    (records_within own c ws n (c + 1) h (omega arith))))
    ∙ append-nil (numbered_before n rs)

-- accepting, and then more
pub drained_accepted : (k : Book) (e : Entry) (es : List Entry)
    → drained (with_entries (accepted k e) es) ≡ drained (with_entries k (e ∷ es))
drained_accepted k e es =
    ap (λ xs. drained_by k xs (numbered_before k.base k.records))
    (append_assoc k.entries (e ∷ []) es)

worked_on_drained : (k : Book) (i : ℕ) (p : ModuleState) (c : ℕ) (es : List Entry) → k.base ≤ c
    → (found : Option Entry)
    → drained (with_entries (worked_on k i p c found) es) ≡ drained (with_entries k es)
worked_on_drained k i p c es low None = refl
worked_on_drained k i p c es low (Some e) =
    drained_beside k (slice_set k.cursors i (c + 1))
    (k.records ++ records_at p.meaning.own c (says_of p.meaning (state_at k p c) c e)) es
    (before_said k.base p.meaning.own c (says_of p.meaning (state_at k p c) c e) k.records low)

worked_at_drained : (k : Book) (i : ℕ) (es : List Entry) → IsLawful k
    → (part : Option ModuleState) (cursor : Option ℕ) → slice_get k.modules i ≡ part
    → slice_get k.cursors i ≡ cursor
    → drained (with_entries (worked_at k i part cursor) es) ≡ drained (with_entries k es)
worked_at_drained k i es h (Some p) (Some c) a b =
    worked_on_drained k i p c es (h.placed i p c a b).from_base (slice_get k.entries (c - k.base))
worked_at_drained k i es h (Some p) None a b = refl
worked_at_drained k i es h None c a b = refl

-- work changes nothing of what a book drains to, also with more entries
pub drained_worked : (k : Book) (i : ℕ) (es : List Entry) → IsLawful k
    → drained (with_entries (worked k i) es) ≡ drained (with_entries k es)
drained_worked k i es h =
    worked_at_drained k i es h (slice_get k.modules i) (slice_get k.cursors i) refl refl

fallen_by_drained : (k : Book) (i c : ℕ) (es : List Entry) (allowed : Bool)
    → drained (with_entries (cond allowed (record k { cursors = slice_set k.cursors i c }) k) es)
    ≡ drained (with_entries k es)
fallen_by_drained k i c es true = refl
fallen_by_drained k i c es false = refl

fallen_at_drained : (k : Book) (i c : ℕ) (es : List Entry) (cursor : Option ℕ)
    → drained (with_entries (fallen_at k i c cursor) es) ≡ drained (with_entries k es)
fallen_at_drained k i c es None = refl
fallen_at_drained k i c es (Some d) =
    fallen_by_drained k i c es (nat_le (floor_of k i) c && nat_le c d)

-- nor does a fall
pub drained_fallen : (k : Book) (i c : ℕ) (es : List Entry)
    → drained (with_entries (fallen k i c) es) ≡ drained (with_entries k es)
drained_fallen k i c es = fallen_at_drained k i c es (slice_get k.cursors i)

pub drained_floored : (k : Book) (es : List Entry)
    → drained (with_entries (floored k) es) ≡ drained (with_entries k es)
drained_floored k es = refl

-- each module of a lawful book has a cursor
pub cursor_of : (k : Book) (i : ℕ) (p : ModuleState) → IsLawful k → slice_get k.modules i ≡ Some p
    → (c : ℕ) × (slice_get k.cursors i ≡ Some c)
cursor_of k i p h a =
    let inside : i < length k.modules = slice_get_within k.modules i p a in
    let many : length k.cursors ≡ length k.modules = h.as_many in
    let fits : i < length k.cursors = omega arith in
    (get_or k.cursors i 0, slice_get-get_or k.cursors i 0 fits)

-- where all is done, each module stands at the end
pub placed_at_end : (k : Book) (i : ℕ) (p : ModuleState) → IsLawful k → is_done k ≡ true
    → slice_get k.modules i ≡ Some p → IsPlaced k i p (next_number k)
placed_at_end k i p h done a =
    let found : (c : ℕ) × (slice_get k.cursors i ≡ Some c) = cursor_of k i p h a in
    let at : found.0 ≡ next_number k =
    true_eq found.0 (next_number k)
    (list_all_get (λ c. c == next_number k) k.cursors i found.0 done found.1) in
    subst (IsPlaced k i p) at (h.placed i p found.0 a found.1)

-- all records of a module that stands at the end
pub records_at_end : (k : Book) (i : ℕ) (p : ModuleState) → IsPlaced k i p (next_number k)
    → of_module i k.records ≡ of_module i (numbered_before k.base k.records)
    ++ words_along p.meaning p.state k.base k.entries
records_at_end k i p h =
    records_split k i p (next_number k) h
    ∙ ap (λ es. of_module i (numbered_before k.base k.records)
    ++ words_along p.meaning p.state k.base es)
    (taken_all k (next_number k) (omega arith))

-- and none of them is at the end or past it
pub records_before_end : (k : Book) (i : ℕ) (p : ModuleState) → IsPlaced k i p (next_number k)
    → of_module i (numbered_before (next_number k) k.records) ≡ of_module i k.records
records_before_end k i p h =
    filter_swap (λ r. r.«module» == i) (λ r. nat_lt r.number (next_number k)) k.records
    ∙ before_all (next_number k) (of_module i k.records) (records_below k i p (next_number k) h)

-- a module that is put at a new base drains as it did
rebased_ended : (k : Book) (es : List Entry) (i : ℕ) (p : ModuleState)
    → IsPlaced k i p (next_number k)
    → ended (record {
      base = next_number k;
      moment = greatest_of k;
      modules =
          map (rebased k) k.modules;
      entries = [] ++ es;
      cursors = k.cursors;
      records = k.records;
    })
    (rebased k p)
    ≡ ended (with_entries k es) p
rebased_ended k es i p h =
    let state : state_along p.meaning (state_along p.meaning p.state k.base k.entries)
    (next_number k) es ≡ state_along p.meaning p.state k.base (k.entries ++ es) =
    sym (state_append p.meaning p.state k.base k.entries es) in
    let below : List Spoken = of_module p.meaning.own (numbered_before k.base k.records) in
    let first : List Spoken = words_along p.meaning p.state k.base k.entries in
    let last : List Spoken =
    words_along p.meaning (state_along p.meaning p.state k.base k.entries) (next_number k) es in
    let all : of_module i (numbered_before (next_number k) k.records)
    ≡ of_module i (numbered_before k.base k.records) ++ first =
    records_before_end k i p h ∙ records_at_end k i p h in
    let own : of_module p.meaning.own (numbered_before (next_number k) k.records) ≡ below ++ first =
    subst (λ j. of_module j (numbered_before (next_number k) k.records)
    ≡ of_module j (numbered_before k.base k.records) ++ first)
    (sym h.numbered) all in
    let words : of_module p.meaning.own (numbered_before (next_number k) k.records) ++ last ≡ below
    ++ words_along p.meaning p.state k.base (k.entries ++ es) =
    ap (λ xs. xs ++ last) own ∙ append_assoc below first last
    ∙ ap (λ xs. below ++ xs) (sym (words_append p.meaning p.state k.base k.entries es)) in
    cc

based_by_drained : (k : Book) (es : List Entry) → IsLawful k → (done : Bool) → is_done k ≡ done
    → drained (with_entries
    (cond done (record {
      base = next_number k;
      moment = greatest_of k;
      modules =
          map (rebased k) k.modules;
      entries = [];
      cursors = k.cursors;
      records = k.records;
    }) k) es)
    ≡ drained (with_entries k es)
based_by_drained k es h false e = refl
based_by_drained k es h true e =
    let next : Book = record {
      base = next_number k;
      moment = greatest_of k;
      modules =
          map (rebased k) k.modules;
      entries = [] ++ es;
      cursors = k.cursors;
      records = k.records;
    } in
    let count : next_number k + length es ≡ k.base + length (k.entries ++ es) =
    omega (arith, length-append k.entries es) in
    let moment : greatest_from (greatest_of k) es ≡ greatest_from k.moment (k.entries ++ es) =
    sym (greatest_append k.moment k.entries es) in
    let modules : map (ended next) (map (rebased k) k.modules)
    ≡ map (ended (with_entries k es)) k.modules =
    map_map (rebased k) (ended next) k.modules
    ∙ map_same (λ p. ended next (rebased k p)) (ended (with_entries k es)) k.modules
    (λ i p a. rebased_ended k es i p (placed_at_end k i p h e a)) in
    cc

-- nor does a new base
pub drained_based : (k : Book) (es : List Entry) → IsLawful k
    → drained (with_entries (based k) es) ≡ drained (with_entries k es)
drained_based k es h = based_by_drained k es h (is_done k) refl
