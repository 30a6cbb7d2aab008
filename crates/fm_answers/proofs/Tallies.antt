-- What a tally comes to, from one core to the next and from one entry to the next.
use Rattle.std.proofs.Common.{◌≡◌, ℕ, ◌+◌, ◌<◌, ◌≤◌, ◌^◌, cond, true, List, [], ◌∷◌, ◌++◌, length}
use Rattle.std.proofs.Common.{map, Some, None, refl, sym, ◌∙◌, ap, subst, arith, length-append}
use Rattle.std.proofs.Common.{zero-add}
use Rattle.std.specs.List.{slice_get, AllByRecursion}
use Rattle.std.proofs.lemmas.List.{length-map}
use Rattle.fm_entry.specs.declared.entry.Entry.{Entry}
use Rattle.fm_entry.specs.declared.list_event.ListEvent.{ListEvent}
use Rattle.fm_entry.specs.declared.spoken.Spoken.{Spoken}
use Rattle.fm_core.specs.Book.{Book, ModuleState, IsLawful, next_number, state_at, accepted}
use Rattle.fm_core.specs.Book.{with_entries, is_done, rebased, greatest_of}
use Rattle.fm_core.specs.Counter.{CounterOf, counters}
use Rattle.fm_core.specs.Drained.{Drained, drained, ended}
use Rattle.fm_core.specs.Folds.{state_along, words_along, records_at}
use Rattle.fm_core.specs.Hands.{HandOf, shown}
use Rattle.fm_core.specs.Meaning.{Counting, says_of}
use Rattle.fm_core.specs.Records.{of_module, numbered_before}
use Rattle.fm_core.specs.Seen.{CoreOf, Follows, OnlyWorked, IsFresh, AreFresh, seen, module_state}
use Rattle.fm_core.proofs.Along.{words_push}
use Rattle.fm_core.proofs.Drains.{placed_at_end, records_before_end, drained_accepted}
use Rattle.fm_core.proofs.Drains.{drained_based}
use Rattle.fm_core.proofs.Keeping.{module_for}
use Rattle.fm_core.proofs.Lists.{map_get, map_got}
use Rattle.fm_core.proofs.Places.{taken_all}
use Rattle.fm_core.proofs.Runs.{with_none}
use Rattle.fm_answers.specs.Draining.{core_book, hand_at, moved_to, IsInOrder, IsNext}
use Rattle.fm_answers.specs.Replaying.{spoken_by, counts_in, first_counts, replayed, replay_text}
use Rattle.fm_answers.specs.Replaying.{summary_text}
use Rattle.fm_answers.specs.Tallied.{Sum, sum_of, sum_text, sum_with, entry_count, Tallied, IsTally}
use Rattle.fm_answers.specs.TallyLaws.{tallied_numbers}
use Rattle.fm_answers.specs.declared.tally.Tally.{Tally}
use Rattle.fm_answers.proofs.Summaries.{two_modules, Two, two_of, many_parts, stands_at, done_sum}

-- a book at the end of another, of which all is done
abbrev ended_book : Book → Book
ended_book k = record {
  base = next_number k;
  moment = greatest_of k;
  modules =
      map (rebased k) k.modules;
  entries = [];
  cursors = k.cursors;
  records = k.records;
}

ended_drains : (k : Book) (more : List Entry) → IsLawful k → is_done k ≡ true
    → drained (with_entries (ended_book k) more) ≡ drained (with_entries k more)
ended_drains k more lawful done =
    sym (ap (λ b. drained (with_entries (cond b (ended_book k) k) more)) done)
    ∙ drained_based k more lawful

-- a module at the end, as the next core has it
state_at_end : (c : CoreOf CounterOf) (i : ℕ) (h : HandOf CounterOf) (p : ModuleState) → IsInOrder c
    → is_done (core_book c) ≡ true → slice_get c.hands i ≡ Some h
    → slice_get (core_book c).modules i ≡ Some p
    → module_state (shown counters (moved_to (next_number (core_book c)) h))
    ≡ rebased (core_book c) p
state_at_end c i h p ready done hand there =
    let k : Book = core_book c in
    let follows : Follows k i p (shown counters h) =
    ready.follows i (shown counters h) (map_get (shown counters) c.hands i h hand) p there in
    let state : Counting h.object.counts ≡ state_along p.meaning p.state k.base k.entries =
    follows.folds ∙ ap (state_at k p) (stands_at c i h p ready done hand there)
    ∙ ap (state_along p.meaning p.state k.base) (taken_all k (next_number k) (omega arith)) in
    let meaning : counters.meaning h.object ≡ p.meaning = follows.meaning_is in
    λ j. record { meaning = meaning j; state = state j }

-- what a book drains to, by what counts of it
abbrev drained_from : ℕ → List ModuleState → List Entry → List Spoken → Drained
drained_from base parts entries records =
    drained (record {
      base = base;
      moment = 0;
      modules = parts;
      entries = entries;
      cursors =
          [];
      records = records;
    })

-- records that are forgotten, and counted
forgotten : (base before : ℕ) (p q : ModuleState) (more : List Entry) (records : List Spoken)
    → length (of_module p.meaning.own (numbered_before base records)) + length
    (of_module q.meaning.own (numbered_before base records)) ≡ length records
    → sum_of (before + length records) (drained_from base (p ∷ q ∷ []) more [])
    ≡ sum_of before (drained_from base (p ∷ q ∷ []) more records)
forgotten base before p q more records all =
    let old0 : List Spoken = of_module p.meaning.own (numbered_before base records) in
    let old1 : List Spoken = of_module q.meaning.own (numbered_before base records) in
    let new0 : List Spoken = words_along p.meaning p.state base more in
    let new1 : List Spoken = words_along q.meaning q.state base more in
    let spoken : before + length records + (length new0 + (length new1 + 0))
    ≡ before + (length (old0 ++ new0) + (length (old1 ++ new1) + 0)) =
    omega (arith, all, length-append old0 new0, length-append old1 new1) in
    ap (λ (n : ℕ). let s : Sum =
    record {
      entries = base + length more;
      spoken = n;
      counts =
          counts_in (state_along p.meaning p.state base more);
    } in s) spoken

-- the core that begins where another ends comes to what that would come to, with the records of
-- that
pub next_sum : (c next : CoreOf CounterOf) (before : ℕ) (more : List Entry) → IsInOrder c
    → length c.hands ≡ 2 → is_done (core_book c) ≡ true → IsNext c next
    → sum_of (before + length c.records) (drained (with_entries (core_book next) more))
    ≡ sum_of before (drained (with_entries (core_book c) more))
next_sum c next before more ready two done is =
    let k : Book = core_book c in
    let parts : Two k.modules = two_of k.modules (many_parts c ready two) in
    let hands : Two c.hands = two_of c.hands two in
    let p : ModuleState = parts.first in
    let q : ModuleState = parts.second in
    let there0 : slice_get k.modules 0 ≡ Some p = ap (λ ps. slice_get ps 0) parts.is in
    let there1 : slice_get k.modules 1 ≡ Some q = ap (λ ps. slice_get ps 1) parts.is in
    let now0 : module_state (shown counters (moved_to (next_number k) hands.first)) ≡ rebased k p =
    state_at_end c 0 hands.first p ready done (ap (λ hs. slice_get hs 0) hands.is) there0 in
    let now1 : module_state (shown counters (moved_to (next_number k) hands.second)) ≡ rebased k q =
    state_at_end c 1 hands.second q ready done (ap (λ hs. slice_get hs 1) hands.is) there1 in
    let next_parts : (core_book next).modules ≡ rebased k p ∷ rebased k q ∷ [] =
    ap (λ hs. map module_state (map (shown counters) hs))
    (is.kept_is ∙ ap (map (moved_to (next_number k))) hands.is)
    ∙ (λ j. now0 j ∷ now1 j ∷ []) in
    let named : AllByRecursion (λ r. r.«module» < 2) k.records =
    subst (λ n. AllByRecursion (λ r. r.«module» < n) k.records) (ap length parts.is)
    ready.lawful.named in
    let own0 : p.meaning.own ≡ 0 = (placed_at_end k 0 p ready.lawful done there0).numbered in
    let own1 : q.meaning.own ≡ 1 = (placed_at_end k 1 q ready.lawful done there1).numbered in
    let old0 : of_module p.meaning.own (numbered_before (next_number k) k.records)
    ≡ of_module 0 k.records =
    ap (λ n. of_module n (numbered_before (next_number k) k.records)) own0
    ∙ records_before_end k 0 p (placed_at_end k 0 p ready.lawful done there0) in
    let old1 : of_module q.meaning.own (numbered_before (next_number k) k.records)
    ≡ of_module 1 k.records =
    ap (λ n. of_module n (numbered_before (next_number k) k.records)) own1
    ∙ records_before_end k 1 q (placed_at_end k 1 q ready.lawful done there1) in
    let all : length (of_module p.meaning.own (numbered_before (next_number k) k.records)) + length
    (of_module q.meaning.own (numbered_before (next_number k) k.records)) ≡ length k.records =
    omega (arith, ap length old0, ap length old1, two_modules k.records named) in
    let began : drained (with_entries (core_book next) more)
    ≡ drained_from (next_number k) (rebased k p ∷ rebased k q ∷ []) more [] =
    ap (λ b. drained_from b (core_book next).modules (next.entries ++ more) next.records) is.base_is
    ∙ ap (λ ps. drained_from (next_number k) ps (next.entries ++ more) next.records) next_parts
    ∙ ap (λ es. drained_from (next_number k) (rebased k p ∷ rebased k q ∷ []) (es ++ more)
    next.records) is.entries_none
    ∙ ap (λ rs. drained_from (next_number k) (rebased k p ∷ rebased k q ∷ []) more rs)
    is.records_none in
    ap (sum_of (before + length c.records)) began
    ∙ forgotten (next_number k) before (rebased k p) (rebased k q) more k.records all
    ∙ ap (λ ps. sum_of before (drained_from (next_number k) (map (rebased k) ps) more k.records))
    (sym parts.is)
    ∙ ap (sum_of before) (ended_drains k more ready.lawful done)

-- ---- one entry more
said_few : (own n : ℕ) (ws : List ListEvent) → length (records_at own n ws) ≤ 1
said_few own n [] = omega arith
said_few own n (w ∷ ws) = omega arith

-- each module speaks one record more at the most
spoken_one : (k : Book) (e : Entry) (ps : List ModuleState)
    → spoken_by (map (ended (with_entries k (e ∷ []))) ps)
    ≤ spoken_by (map (ended k) ps) + length ps
spoken_one k e [] = omega arith
spoken_one k e (p ∷ ps) =
    let old : List Spoken = of_module p.meaning.own (numbered_before k.base k.records) in
    let words : List Spoken = words_along p.meaning p.state k.base k.entries in
    let says : List ListEvent =
    says_of p.meaning (state_along p.meaning p.state k.base k.entries)
    (k.base + length k.entries) e in
    let said : List Spoken = records_at p.meaning.own (k.base + length k.entries) says in
    let longer : List Spoken = words_along p.meaning p.state k.base (k.entries ++ e ∷ []) in
    let pushed : length longer ≡ length words + length said =
    ap length (words_push p.meaning p.state k.base k.entries e) ∙ length-append words said in
    let few : length said ≤ 1 = said_few p.meaning.own (k.base + length k.entries) says in
    omega (arith, spoken_one k e ps, length-append old longer, length-append old words, pushed, few)

-- an entry that a core has accepted was taken
pub accepted_same : (old new : Tally) (e : Entry)
    → core_book new.core ≡ accepted (core_book old.core) e → new.spoken ≡ old.spoken
    → Tallied old new (e ∷ []) None
accepted_same old new e book spoken = record {
  same = λ more.
      ap (λ s. sum_of s (drained (with_entries (core_book new.core) more))) spoken
      ∙ ap (λ k. sum_of old.spoken (drained (with_entries k more))) book
      ∙ ap (sum_of old.spoken) (drained_accepted (core_book old.core) e more);
  refused = tt;
}

pub accepted_ready : (old new : Tally) (e : Entry) → IsTally old → entry_count old < 2 ^ 46
    → IsInOrder new.core → new.core ≡ record old.core { entries = old.core.entries ++ e ∷ [] }
    → Tallied old new (e ∷ []) None → IsTally new
accepted_ready old new e ready room order is took =
    let k : Book = core_book old.core in
    let count : entry_count new ≡ entry_count old + 1 = tallied_numbers old new (e ∷ []) took in
    let parts : length k.modules ≡ 2 = many_parts old.core ready.order ready.two in
    let now : (sum_with new []).spoken
    ≡ old.spoken + spoken_by (map (ended (with_entries k (e ∷ []))) k.modules) =
    ap (λ s. s.spoken) (took.same []) in
    let before : (sum_with old []).spoken ≡ old.spoken + spoken_by (map (ended k) k.modules) =
    ap (λ d. old.spoken + spoken_by d.modules) (with_none k) in
    record {
      order = order;
      two = ap (λ (c : CoreOf CounterOf). length c.hands) is ∙ ready.two;
      numbered = omega (arith, count, room);
      few = omega (arith, count, now, before, ready.few, parts, spoken_one k e k.modules);
    }

-- ---- work, and the next core
pub worked_same : (old new : Tally) → OnlyWorked (seen counters old.core) (seen counters new.core)
    → new.spoken ≡ old.spoken → Tallied old new [] None
worked_same old new worked spoken = record {
  same = λ more.
      ap (λ s. sum_of s (drained (with_entries (core_book new.core) more))) spoken
      ∙ ap (sum_of old.spoken) (worked.drains_same more);
  refused = tt;
}

same_hands : (old new : CoreOf CounterOf) → OnlyWorked (seen counters old) (seen counters new)
    → length old.hands ≡ 2 → length new.hands ≡ 2
same_hands old new worked two =
    sym (length-map new.hands (shown counters)) ∙ worked.as_many_same
    ∙ length-map old.hands (shown counters) ∙ two

-- a tally that comes to the same is in order where its core is
still_ready : (old new : Tally) → IsTally old → IsInOrder new.core → length new.core.hands ≡ 2
    → Tallied old new [] None → IsTally new
still_ready old new ready order two same =
    let count : entry_count new ≡ entry_count old + 0 = tallied_numbers old new [] same in
    let spoken : (sum_with new []).spoken ≡ (sum_with old []).spoken =
    ap (λ s. s.spoken) (same.same []) in
    record {
      order = order;
      two = two;
      numbered = omega (arith, count, ready.numbered);
      few = omega (arith, count, spoken, ready.few);
    }

pub worked_ready : (old new : Tally) → IsTally old
    → OnlyWorked (seen counters old.core) (seen counters new.core) → new.spoken ≡ old.spoken
    → IsTally new
worked_ready old new ready worked spoken =
    still_ready old new ready worked.lawful (same_hands old.core new.core worked ready.two)
    (worked_same old new worked spoken)

-- the records of a core that was worked to its end are few
pub few_spoken : (old : Tally) (mid : CoreOf CounterOf) → IsTally old
    → OnlyWorked (seen counters old.core) (seen counters mid) → is_done (core_book mid) ≡ true
    → old.spoken + length mid.records < 2 ^ 64
few_spoken old mid ready worked done =
    let hands : Two mid.hands = two_of mid.hands (same_hands old.core mid worked ready.two) in
    let sum : old.spoken + spoken_by (drained (core_book mid)).modules
    ≡ old.spoken + length mid.records =
    ap (λ s. s.spoken) (done_sum mid hands.first old.spoken worked.lawful
    (same_hands old.core mid worked ready.two) done (ap (λ hs. slice_get hs 0) hands.is)) in
    let same : spoken_by (drained (with_entries (core_book mid) [])).modules
    ≡ spoken_by (drained (with_entries (core_book old.core) [])).modules =
    ap (λ d. spoken_by d.modules) (worked.drains_same []) in
    let none : spoken_by (drained (with_entries (core_book mid) [])).modules
    ≡ spoken_by (drained (core_book mid)).modules =
    ap (λ d. spoken_by d.modules) (with_none (core_book mid)) in
    omega (arith, sum, same, none, ready.few, ready.numbered)

-- the core was worked to its end, and the next began there
pub turned_same : (old new : Tally) (mid : CoreOf CounterOf) → IsTally old
    → OnlyWorked (seen counters old.core) (seen counters mid) → is_done (core_book mid) ≡ true
    → IsNext mid new.core → new.spoken ≡ old.spoken + length mid.records → Tallied old new [] None
turned_same old new mid ready worked done is spoken = record {
  same = λ more.
      ap (λ s. sum_of s (drained (with_entries (core_book new.core) more))) spoken
      ∙ next_sum mid new.core old.spoken more worked.lawful
      (same_hands old.core mid worked ready.two) done is
      ∙ ap (sum_of old.spoken) (worked.drains_same more);
  refused = tt;
}

pub turned_ready : (old new : Tally) (mid : CoreOf CounterOf) → IsTally old
    → OnlyWorked (seen counters old.core) (seen counters mid) → is_done (core_book mid) ≡ true
    → IsNext mid new.core → new.spoken ≡ old.spoken + length mid.records → IsInOrder new.core
    → IsTally new
turned_ready old new mid ready worked done is spoken order =
    let hands : length new.core.hands ≡ 2 =
    ap length is.hands_is ∙ length-map mid.hands (moved_to (mid.base + length mid.entries))
    ∙ same_hands old.core mid worked ready.two in
    still_ready old new ready order hands (turned_same old new mid ready worked done is spoken)

-- ---- the hands of the next core
-- the counter of module i has the number i
pub number_is : (c : CoreOf CounterOf) (i : ℕ) (h : HandOf CounterOf) → IsInOrder c
    → slice_get c.hands i ≡ Some h → h.object.number ≡ i
number_is c i h ready hand =
    let shows : slice_get (map (shown counters) c.hands) i ≡ Some (shown counters h) =
    map_get (shown counters) c.hands i h hand in
    let part : (p : ModuleState) × (slice_get (core_book c).modules i ≡ Some p) =
    module_for (seen counters c) i (shown counters h) ready shows in
    let follows : Follows (core_book c) i part.0 (shown counters h) =
    ready.follows i (shown counters h) shows part.0 part.1 in
    let cursor : slice_get (core_book c).cursors i ≡ Some h.cursor = map_get _ _ i _ shows in
    ap (λ m. m.own) follows.meaning_is
    ∙ (ready.lawful.placed i part.0 h.cursor part.1 cursor).numbered

-- two hands, put at a place
pub both_moved : (place : ℕ) (hs : List (HandOf CounterOf)) (f g : HandOf CounterOf) → length hs ≡ 2
    → slice_get hs 0 ≡ Some f → slice_get hs 1 ≡ Some g
    → hand_at place f.object ∷ hand_at place g.object ∷ [] ≡ map (moved_to place) hs
both_moved place hs f g two first second =
    let hands : Two hs = two_of hs two in
    let is0 : hands.first ≡ f =
    (let e : Some hands.first ≡ Some f = ap (λ l. slice_get l 0) (sym hands.is) ∙ first in cc)
    in
    let is1 : hands.second ≡ g =
    (let e : Some hands.second ≡ Some g = ap (λ l. slice_get l 1) (sym hands.is) ∙ second in cc)
    in
    sym (ap (map (moved_to place)) hands.is
    ∙ (λ j. moved_to place (is0 j) ∷ moved_to place (is1 j) ∷ []))

pub moved_fresh : (c : CoreOf CounterOf) (place : ℕ) (hands : List (HandOf CounterOf)) → IsInOrder c
    → hands ≡ map (moved_to place) c.hands
    → AreFresh place (map (shown counters) hands)
moved_fresh c place hands ready is i h at =
    let got : (f : HandOf CounterOf) × (slice_get hands i ≡ Some f) × (shown counters f ≡ h) =
    map_got (shown counters) hands i h at in
    let from : (f : HandOf CounterOf) × (slice_get c.hands i ≡ Some f)
    × (moved_to place f ≡ got.0) =
    map_got (moved_to place) c.hands i got.0 (ap (λ hs. slice_get hs i) (sym is) ∙ got.1) in
    let number : from.0.object.number ≡ i = number_is c i from.0 ready from.1 in
    subst (IsFresh place i) (ap (shown counters) from.2 ∙ got.2)
    (let fresh : IsFresh place i (shown counters (moved_to place from.0)) =
    record { number_is = number; own_is = number; cursor_is = refl } in fresh)

pub shown_same : {hands kept : List (HandOf CounterOf)} → hands ≡ kept
    → map (shown counters) hands ≡ map (shown counters) kept
shown_same is = ap (map (shown counters)) is

pub next_of : (c next : CoreOf CounterOf) (place : ℕ) (kept hands : List (HandOf CounterOf))
    → place ≡ c.base + length c.entries
    → kept ≡ map (moved_to (c.base + length c.entries)) c.hands
    → hands ≡ map (moved_to (c.base + length c.entries)) c.hands
    → next ≡ record { base = place; kept = kept; entries = []; hands = hands; records = [] }
    → IsNext c next
next_of c next place kept hands at kept_is hands_is made = record {
  base_is = ap (λ n. n.base) made ∙ at;
  kept_is = ap (λ n. n.kept) made ∙ kept_is;
  hands_is = ap (λ n. n.hands) made ∙ hands_is;
  entries_none = ap (λ n. n.entries) made;
  records_none = ap (λ n. n.records) made;
}

-- ---- the text
pub text_is : (old new : Tally) (entries : List Entry) (text : List ℕ) → IsTally old
    → OnlyWorked (seen counters old.core) (seen counters new.core) → new.spoken ≡ old.spoken
    → is_done (core_book new.core) ≡ true
    → ((h : HandOf CounterOf) → slice_get new.core.hands 0 ≡ Some h
    → text ≡ summary_text (entry_count new) (new.spoken + length new.core.records) h.object.counts)
    → sum_with old [] ≡ sum_of 0 (replayed entries) → text ≡ replay_text entries
text_is old new entries text ready worked spoken done is sum =
    let hands : Two new.core.hands =
    two_of new.core.hands (same_hands old.core new.core worked ready.two) in
    let first : slice_get new.core.hands 0 ≡ Some hands.first =
    ap (λ hs. slice_get hs 0) hands.is in
    is hands.first first
    ∙ ap sum_text (sym (done_sum new.core hands.first new.spoken worked.lawful
    (same_hands old.core new.core worked ready.two) done first))
    ∙ ap (λ d. sum_text (sum_of new.spoken d)) (sym (with_none (core_book new.core)))
    ∙ ap sum_text ((worked_same old new worked spoken).same [] ∙ sum)
    ∙ ap (λ n. summary_text (replayed entries).count n (first_counts (replayed entries).modules))
    (zero-add (spoken_by (replayed entries).modules))
