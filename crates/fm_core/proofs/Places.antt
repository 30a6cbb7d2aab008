-- How a module stands in a book, and what each move keeps of it.
use Rattle.std.proofs.Common.{◌≡◌, ◌≢◌, ℕ, ◌+◌, ◌-◌, ◌<◌, ◌≤◌, true, nat_lt, nat_le, ◌==◌, List, []}
use Rattle.std.proofs.Common.{◌∷◌, ◌++◌, length, take, drop, Some, sym, ◌∙◌, ap, subst, append-nil}
use Rattle.std.proofs.Common.{length-append, arith}
use Rattle.std.proofs.lemmas.List.{take-append-le, take-append-drop, take-take, length-take-le}
use Rattle.std.proofs.lemmas.List.{take_all}
use Rattle.std.proofs.lemmas.List.Elements.{filter-append}
use Rattle.std.proofs.lemmas.Option.{slice_get_within}
use Rattle.std.specs.List.{slice_get}
use Rattle.fm_entry.specs.declared.entry.Entry.{Entry}
use Rattle.fm_entry.specs.declared.list_event.ListEvent.{ListEvent}
use Rattle.fm_entry.specs.declared.spoken.Spoken.{Spoken}
use Rattle.fm_core.specs.Meaning.{State, says_of}
use Rattle.fm_core.specs.Folds.{words_along, records_at}
use Rattle.fm_core.specs.Records.{of_module, numbered_from, numbered_before, IsAscending}
use Rattle.fm_core.specs.Book.{ModuleState, Book, next_number, taken, state_at, IsPlaced, accepted}
use Rattle.fm_core.specs.Book.{floor_of}
use Rattle.fm_core.proofs.Lists.{all_append, all_map, all_right, filter_swap, filter_passes}
use Rattle.fm_core.proofs.Lists.{take_push}
use Rattle.fm_core.proofs.Tests.{true_lt}
use Rattle.fm_core.proofs.Along.{words_append, words_push, words_within, records_within}
use Rattle.fm_core.proofs.Ordered.{AllBelow, AllFrom, within_below, within_from, below_weaker}
use Rattle.fm_core.proofs.Ordered.{ascending_said, from_all, split_at, of_own, of_other}
use Rattle.fm_core.proofs.Ordered.{none_between, past_all_below, past_all_from}

-- as many entries are taken as the cursor is past the base
pub length_taken : (k : Book) (c : ℕ) → k.base ≤ c → c ≤ next_number k
    → k.base + length (taken k c) ≡ c
length_taken k c a b =
    let fits : c - k.base ≤ length k.entries = omega arith in
    let e : length (take (c - k.base) k.entries) ≡ c - k.base =
    length-take-le (c - k.base) k.entries fits in
    omega arith

-- at the end all are taken
pub taken_all : (k : Book) (c : ℕ) → next_number k ≤ c → taken k c ≡ k.entries
taken_all k c h = let fits : length k.entries ≤ c - k.base = omega arith in
    take_all (c - k.base) k.entries fits

-- the entry at the cursor comes next
pub taken_next : (k : Book) (c : ℕ) (e : Entry) → k.base ≤ c
    → slice_get k.entries (c - k.base) ≡ Some e → taken k (c + 1) ≡ taken k c ++ e ∷ []
taken_next k c e a h =
    let same : c + 1 - k.base ≡ c - k.base + 1 = omega arith in
    rw same (take_push k.entries (c - k.base) e h)

-- more entries at the end change nothing of what is taken
pub taken_longer : (k : Book) (c : ℕ) (es : List Entry) → c ≤ next_number k
    → take (c - k.base) (k.entries ++ es) ≡ taken k c
taken_longer k c es h = let fits : c - k.base ≤ length k.entries = omega arith in
    take-append-le (c - k.base) k.entries es fits

-- the records of a lawful module are those before the base, and its words along what it has taken
pub records_split : (k : Book) (i : ℕ) (p : ModuleState) (c : ℕ) → IsPlaced k i p c
    → of_module i k.records ≡ of_module i (numbered_before k.base k.records)
    ++ words_along p.meaning p.state k.base (taken k c)
records_split k i p c h =
    sym (split_at k.base (of_module i k.records) h.ascending)
    ∙ ap (λ rs. numbered_before k.base (of_module i k.records) ++ rs) h.exact
    ∙ ap (λ rs. rs ++ words_along p.meaning p.state k.base (taken k c))
    (filter_swap (λ r. nat_lt r.number k.base) (λ r. r.«module» == i) k.records)

-- its words along what it has taken are numbered below its cursor
pub words_below : (k : Book) (i : ℕ) (p : ModuleState) (c : ℕ) → IsPlaced k i p c
    → AllBelow c (words_along p.meaning p.state k.base (taken k c))
words_below k i p c h =
    subst (λ n. AllBelow n (words_along p.meaning p.state k.base (taken k c)))
    (length_taken k c h.from_base h.to_end)
    (within_below p.meaning.own k.base (k.base + length (taken k c))
    (words_along p.meaning p.state k.base (taken k c))
    (words_within p.meaning p.state k.base (taken k c)))

-- and so are all its records
pub records_below : (k : Book) (i : ℕ) (p : ModuleState) (c : ℕ) → IsPlaced k i p c
    → AllBelow c (of_module i k.records)
records_below k i p c h =
    let low : AllBelow k.base (numbered_before k.base (of_module i k.records)) =
    all_map (λ r. nat_lt r.number k.base ≡ true) (λ r. r.number < k.base)
    (numbered_before k.base (of_module i k.records)) (λ r e. true_lt r.number k.base e)
    (filter_passes (λ r. nat_lt r.number k.base) (of_module i k.records)) in
    subst (AllBelow c) (split_at k.base (of_module i k.records) h.ascending)
    (all_append (λ r. r.number < c) (numbered_before k.base (of_module i k.records))
    (numbered_from k.base (of_module i k.records))
    (below_weaker k.base c (numbered_before k.base (of_module i k.records)) h.from_base low)
    (subst (AllBelow c) (sym h.exact) (words_below k i p c h)))

-- what module i says beside what stands there
pub own_records : (i own n : ℕ) (ws : List ListEvent) (rs : List Spoken) → own ≡ i
    → of_module i (rs ++ records_at own n ws) ≡ of_module i rs ++ records_at own n ws
own_records i own n ws rs e =
    filter-append (λ r. r.«module» == i) rs (records_at own n ws)
    ∙ ap (λ xs. of_module i rs ++ xs)
    (subst (λ j. of_module j (records_at own n ws) ≡ records_at own n ws) e
    (of_own own n (n + 1) (records_at own n ws)
    (records_within own n ws n (n + 1) (omega arith) (omega arith))))

pub other_records : (j own n : ℕ) (ws : List ListEvent) (rs : List Spoken) → j ≢ own
    → of_module j (rs ++ records_at own n ws) ≡ of_module j rs
other_records j own n ws rs ne =
    filter-append (λ r. r.«module» == j) rs (records_at own n ws)
    ∙ ap (λ xs. of_module j rs ++ xs)
    (of_other own j n (n + 1) (records_at own n ws) ne
    (records_within own n ws n (n + 1) (omega arith) (omega arith)))
    ∙ append-nil (of_module j rs)

-- a module stands as before where only entries are added
pub placed_accepted : (k : Book) (e : Entry) (i : ℕ) (p : ModuleState) (c : ℕ) → IsPlaced k i p c
    → IsPlaced (accepted k e) i p c
placed_accepted k e i p c h =
    record {
      numbered = h.numbered;
      from_base = h.from_base;
      to_end = omega (arith, h.to_end, length-append k.entries (e ∷ []));
      ascending = h.ascending;
      exact = h.exact ∙ ap (words_along p.meaning p.state k.base)
          (sym (taken_longer k c (e ∷ []) h.to_end));
    }

-- and where another module's records or cursors change
pub placed_beside : (k : Book) (cs : List ℕ) (rs : List Spoken) (j : ℕ) (p : ModuleState) (c : ℕ)
    → of_module j rs ≡ of_module j k.records → IsPlaced k j p c
    → IsPlaced (record k { cursors = cs; records = rs }) j p c
placed_beside k cs rs j p c same h =
    record {
      numbered = h.numbered;
      from_base = h.from_base;
      to_end = h.to_end;
      ascending = subst IsAscending (sym same) h.ascending;
      exact = ap (numbered_from k.base) same ∙ h.exact;
    }

-- the module that took an entry stands one further
pub placed_worked : (k : Book) (cs : List ℕ) (i : ℕ) (p : ModuleState) (c : ℕ) (e : Entry)
    → IsPlaced k i p c → slice_get k.entries (c - k.base) ≡ Some e
    → IsPlaced (record k {
      cursors = cs;
      records =
          k.records ++ records_at p.meaning.own c (says_of p.meaning (state_at k p c) c e);
    }) i p
    (c + 1)
placed_worked k cs i p c e h found =
    let ws : List ListEvent = says_of p.meaning (state_at k p c) c e in
    let said : List Spoken = records_at p.meaning.own c ws in
    let room : c - k.base < length k.entries = slice_get_within k.entries (c - k.base) e found in
    let own : of_module i (k.records ++ said) ≡ of_module i k.records ++ said =
    own_records i p.meaning.own c ws k.records h.numbered in
    let here : AllFrom k.base said =
    within_from p.meaning.own k.base (c + 1) said
    (records_within p.meaning.own c ws k.base (c + 1) h.from_base (omega arith)) in
    let from : numbered_from k.base (of_module i k.records ++ said)
    ≡ words_along p.meaning p.state k.base (taken k c) ++ said =
    filter-append (λ r. nat_le k.base r.number) (of_module i k.records) said
    ∙ ap (λ xs. xs ++ numbered_from k.base said) h.exact
    ∙ ap (λ xs. words_along p.meaning p.state k.base (taken k c) ++ xs) (from_all k.base said here)
    in
    let next : words_along p.meaning p.state k.base (taken k (c + 1))
    ≡ words_along p.meaning p.state k.base (taken k c) ++ said =
    ap (words_along p.meaning p.state k.base) (taken_next k c e h.from_base found)
    ∙ words_push p.meaning p.state k.base (taken k c) e
    ∙ ap (λ n. words_along p.meaning p.state k.base (taken k c)
    ++ records_at p.meaning.own n (says_of p.meaning (state_at k p c) n e))
    (length_taken k c h.from_base h.to_end) in
    record {
      numbered = h.numbered;
      from_base = omega (arith, h.from_base);
      to_end = omega (arith, h.from_base);
      ascending = subst IsAscending (sym own)
          (ascending_said p.meaning.own c ws (of_module i k.records) (records_below k i p c h)
          h.ascending);
      exact = ap (numbered_from k.base) own ∙ from ∙ sym next;
    }

-- the module that fell stands at the lower cursor
pub placed_fallen : (k : Book) (cs : List ℕ) (i : ℕ) (p : ModuleState) (d c : ℕ) → IsPlaced k i p d
    → floor_of k i ≤ c → c ≤ d → IsPlaced (record k { cursors = cs }) i p c
placed_fallen k cs i p d c h low high =
    let rs : List Spoken = numbered_from k.base (of_module i k.records) in
    let base_low : k.base ≤ floor_of k i = past_all_from k.base rs in
    let up : k.base ≤ c = omega arith in
    let down : c ≤ next_number k = omega (arith, h.to_end) in
    let more : List Entry = drop (c - k.base) (taken k d) in
    let fits : c - k.base ≤ d - k.base = omega arith in
    let parts : taken k c ++ more ≡ taken k d =
    ap (λ xs. xs ++ more) (sym (take-take (c - k.base) (d - k.base) k.entries fits))
    ∙ take-append-drop (c - k.base) (taken k d) in
    let s : State = state_at k p c in
    let n : ℕ = k.base + length (taken k c) in
    let words : words_along p.meaning p.state k.base (taken k d)
    ≡ words_along p.meaning p.state k.base (taken k c) ++ words_along p.meaning s n more =
    ap (words_along p.meaning p.state k.base) (sym parts)
    ∙ words_append p.meaning p.state k.base (taken k c) more in
    let below : AllBelow c rs = past_all_below k.base c rs low in
    let all_below : AllBelow c
    (words_along p.meaning p.state k.base (taken k c) ++ words_along p.meaning s n more) =
    subst (AllBelow c) (h.exact ∙ words) below in
    let last_below : AllBelow c (words_along p.meaning s n more) =
    all_right (λ r. r.number < c) (words_along p.meaning p.state k.base (taken k c))
    (words_along p.meaning s n more) all_below in
    let last_from : AllFrom c (words_along p.meaning s n more) =
    subst (λ low. AllFrom low (words_along p.meaning s n more)) (length_taken k c up down)
    (within_from p.meaning.own n (n + length more) (words_along p.meaning s n more)
    (words_within p.meaning s n more)) in
    let none : words_along p.meaning s n more ≡ [] =
    none_between c (words_along p.meaning s n more) last_from last_below in
    record {
      numbered = h.numbered;
      from_base = up;
      to_end = down;
      ascending = h.ascending;
      exact = h.exact ∙ words
          ∙ ap (λ xs. words_along p.meaning p.state k.base (taken k c) ++ xs) none
          ∙ append-nil (words_along p.meaning p.state k.base (taken k c));
    }
