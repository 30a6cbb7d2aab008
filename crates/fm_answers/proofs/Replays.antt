-- From a tally that took entries to what `replay` puts.
use Rattle.std.proofs.Common.{◌≡◌, ℕ, ◌+◌, List, [], ◌++◌, false, length, take, Option, Some, None}
use Rattle.std.proofs.Common.{Result, Ok, Err, refl, ◌∙◌, ap, subst, arith, append-nil, inl, inr}
use Rattle.std.specs.Io.KnownBytes.{Appends, Consumes}
use Rattle.std.proofs.KnownBytes.{Appends-trans}
use Rattle.std.specs.Result.{IfErr, OnOk}
use Rattle.std.proofs.lemmas.Result.{on_ok_weaker}
use Rattle.fm_core.specs.Book.{next_number, with_entries}
use Rattle.fm_core.specs.Drained.{drained}
use Rattle.fm_entry.specs.declared.entry.Entry.{Entry}
use Rattle.fm_journal.specs.declared.fault.FullKind.TheVariants.{Numbers}
use Rattle.fm_line.specs.Lines.{lines_of}
use Rattle.fm_answers.specs.Accounts.{Accounts}
use Rattle.fm_answers.specs.Answers.{answers, entries_of}
use Rattle.fm_answers.specs.Draining.{core_book}
use Rattle.fm_answers.specs.StreamsAt.{SinkAt}
use Rattle.fm_answers.specs.Refusing.{PutCut}
use Rattle.fm_answers.specs.Replaying.{fresh_book, replayed, replay_text, ReplayTaken, ReplayedAll}
use Rattle.fm_answers.specs.Replaying.{ReplayStops, IsPutOf}
use Rattle.fm_answers.specs.Running.{RanAll, RanUntil}
use Rattle.fm_answers.specs.Tallied.{sum_of, sum_with, entry_count, Tallied, TallyLast}
use Rattle.fm_answers.specs.declared.stops.Stop.{Stop}
use Rattle.fm_answers.specs.declared.stops.Stop.TheVariants.{Write, Memory, Full}
use Rattle.fm_answers.specs.TallyLaws.{tallied_numbers}
use Rattle.fm_answers.specs.declared.tally.Tally.{Tally}
use Rattle.fm_answers.proofs.Weaker.{until_weaker}
use Rattle.fm_answers.proofs.OnPieces.{ran_nothing}

-- nothing was read for want of memory
pub replay_nothing : (put left : Option (List ℕ)) (at_end : Type 0)
    → ReplayStops (Appends put put) (Consumes left left) at_end Memory
replay_nothing put left at_end =
    inl (ran_nothing {T = Unit {0}} (λ a b. ReplayTaken) (λ a. tt) tt 0 put left false at_end)

last_taken : (count : ℕ) (es : List Entry) (last : Option (Stop × Entry)) → count ≡ length es
    → TallyLast count last → ReplayTaken es last
last_taken count es None same refused = tt
last_taken count es (Some (Full Numbers, entry)) same refused = omega (arith, same, refused)
last_taken count es _ same refused = absurd refused

-- a tally of two counters, before any entry
abbrev IsFresh : Tally → Type 0
IsFresh t = (core_book t.core ≡ fresh_book) × (t.spoken ≡ 0)

count_none : (a : Tally) → IsFresh a → entry_count a ≡ 0
count_none a (book, spoken) = ap next_number book

tallied_taken : (a b : Tally) → IsFresh a → (es : List Entry) (last : Option (Stop × Entry))
    → Tallied a b es last → ReplayTaken es last
tallied_taken a b fresh es last tallied =
    let count : entry_count b ≡ entry_count a + length es =
    tallied_numbers a b es (record { same = tallied.same; refused = tt }) in
    let none : entry_count a ≡ 0 = count_none a fresh in
    last_taken (entry_count b) es last
    (let all : entry_count b ≡ length es = omega (arith, count, none) in all) tallied.refused

-- the run over the input stopped
pub replay_until : (a b : Tally) (puts consumes : List ℕ → Type 0) (at_end : Type 0) (stop : Stop)
    → IsFresh a
    → RanUntil (Tallied a b) puts false (entry_count a) consumes at_end stop
    → ReplayStops puts consumes at_end stop
replay_until a b puts consumes at_end stop fresh ran =
    inl (subst (λ n. RanUntil ReplayTaken puts false n consumes at_end stop) (count_none a fresh)
    (until_weaker (Tallied a b) ReplayTaken puts false (entry_count a) consumes at_end stop
    (tallied_taken a b fresh) ran))

-- what a tally comes to that took these entries
sum_after : (a b : Tally) (es : List Entry) (last : Option (Stop × Entry)) → IsFresh a
    → Tallied a b es last → sum_with b [] ≡ sum_of 0 (replayed es)
unfolding replayed
sum_after a b es last (book, spoken) tallied =
    tallied.same []
    ∙ ap (λ n. sum_of n (drained (with_entries (core_book a.core) (es ++ [])))) spoken
    ∙ ap (λ k. sum_of 0 (drained (with_entries k (es ++ [])))) book
    ∙ ap (λ l. sum_of 0 (drained (with_entries fresh_book l))) (append-nil es)

-- what was put of a text, as the sink tells it
part_of_put : (out out_now : SinkAt) (text : List ℕ) (stop : Stop) → PutCut out out_now text stop
    → (part : List ℕ) × IsPutOf text stop part × Appends out.bytes out_now.bytes part
part_of_put out out_now text Write (rose, (m, within, put)) = (take m text, (m, within, refl), put)
part_of_put out out_now text Memory (put, same) = ([], refl, put)
part_of_put out out_now text _ cut = absurd cut

-- the refusals, where the tally was fresh
refusals_put : (a b : Tally) (p q : Option (List ℕ)) (consumes : List ℕ → Type 0) (at_end : Type 0)
    → IsFresh a
    → (ran : RanAll (Tallied a b) (Appends p q) false (entry_count a) consumes at_end)
    → Appends p q (answers false 1 0 (lines_of ran.read))
refusals_put a b p q consumes at_end fresh ran =
    subst (λ n. Appends p q (answers false 1 n (lines_of ran.read))) (count_none a fresh) ran.put

-- the whole command
pub replay_all : {E : Type 0} (a b : Tally) (p q r : Option (List ℕ)) (consumes : List ℕ → Type 0)
    (at_end : Type 0) (result : Result E Stop)
    → IsFresh a → RanAll (Tallied a b) (Appends p q) false (entry_count a) consumes at_end
    → OnOk result ((entries : List Entry) → sum_with b [] ≡ sum_of 0 (replayed entries)
    → Appends q r (replay_text entries))
    → OnOk result (ReplayedAll (Appends p r) consumes at_end)
replay_all a b p q r consumes at_end result fresh ran put =
    on_ok_weaker result
    (λ (text : (entries : List Entry) → sum_with b [] ≡ sum_of 0 (replayed entries)
    → Appends q r (replay_text entries)). record {
      read = ran.read;
      consumed = ran.consumed;
      whole = ran.whole;
      within = ran.within;
      put = Appends-trans p q r _ _ (refusals_put a b p q consumes at_end fresh ran)
          (text (entries_of (lines_of ran.read))
          (sum_after a b (entries_of (lines_of ran.read)) None fresh ran.took));
    })
    put

pub replay_cut : {E : Type 0} (a b : Tally) (p : Option (List ℕ)) (out out_now : SinkAt)
    (consumes : List ℕ → Type 0) (at_end : Type 0) (result : Result E Stop)
    → IsFresh a → RanAll (Tallied a b) (Appends p out.bytes) false (entry_count a) consumes at_end
    → IfErr result (λ stop. (entries : List Entry) → sum_with b [] ≡ sum_of 0 (replayed entries)
    → PutCut out out_now (replay_text entries) stop)
    → IfErr result (ReplayStops (Appends p out_now.bytes) consumes at_end)
replay_cut a b p out out_now consumes at_end (Ok done) fresh ran put = tt
replay_cut a b p out out_now consumes at_end (Err stop) fresh ran put =
    let entries : List Entry = entries_of (lines_of ran.read) in
    let (part, why, last) =
    part_of_put out out_now (replay_text entries) stop
    (put entries (sum_after a b entries None fresh ran.took)) in
    inr (record {
      read = ran.read;
      consumed = ran.consumed;
      whole = ran.whole;
      within = ran.within;
      part = part;
      why = why;
      put = Appends-trans p out.bytes out_now.bytes _ _
          (refusals_put a b p out.bytes consumes at_end fresh ran) last;
    })

-- a count that stood still, where its fault is not answered
pub still_accounts : {E : Type 0} (fault : Stop) (before now : ℕ) (result : Result E Stop)
    → now ≡ before → (result ≡ Err fault → ⊥) → Accounts fault before now result
still_accounts fault before now (Ok done) same never = same
still_accounts fault before now (Err stop) same never =
    (omega (arith, same), λ is. absurd (never (ap Err is)))
