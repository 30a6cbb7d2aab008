-- Runs over the pieces that a source gave.
use Rattle.std.proofs.Common.{◌≡◌, ℕ, ◌+◌, ◌-◌, ◌<◌, ◌≤◌, ◌^◌, min, ◌++◌, ◌∷◌, [], List, Bool}
use Rattle.std.proofs.Common.{length, take, drop, Option, None, Some, refl, sym, ◌∙◌, ap, subst}
use Rattle.std.proofs.Common.{arith, inl, inr, append_assoc, append-nil, length-append, Result}
use Rattle.std.proofs.lemmas.List.{take-append-drop, length-take, length-drop, take-take}
use Rattle.std.specs.Result.{OnOk, IfErr}
use Rattle.std.proofs.lemmas.Result.{IfErr-weaker, on_ok_weaker}
use Rattle.std.specs.Io.KnownBytes.{Appends, Consumes}
use Rattle.std.proofs.KnownBytes.{Consumes-nil, Consumes-trans, Appends-nil, Appends-trans}
use Rattle.fm_entry.specs.declared.entry.Entry.{Entry}
use Rattle.fm_journal.specs.declared.fault.FullKind.TheVariants.{Input}
use Rattle.fm_line.specs.Lines.{lines_of, lines_from}
use Rattle.fm_line.proofs.Cutting.{lines_from_afresh}
use Rattle.fm_answers.specs.declared.stops.Stop.{Stop}
use Rattle.fm_answers.specs.declared.stops.Stop.TheVariants.{Read, Memory, Full}
use Rattle.fm_answers.specs.Answers.{answers, entries_of}
use Rattle.fm_answers.specs.Ended.{ended}
use Rattle.fm_answers.specs.Running.{Line, Taken, StopsAt, StopsBetween, RanAll, RanUntil}
use Rattle.fm_answers.specs.Halting.{Moved, Halted, StopsIn, MovedOn, StoppedOn, MovedWithin}
use Rattle.fm_answers.specs.Halting.{Finished}
use Rattle.fm_answers.specs.Halting.{FinishStops}
use Rattle.fm_answers.proofs.AnswerLists.{entries_none, entries_append, answers_none}
use Rattle.fm_answers.proofs.Moving.{moved_nil, moved_trans}
use Rattle.fm_answers.proofs.Halts.{answers_on, stops_on, moved_halts, halted_longer, ended_is}

-- a run that stops since the source failed
pub read_stopped : {T : Type 0} (went : T → T → Taken) (stays : (a : T) → went a a [] None)
    (t : T) (next : ℕ) (put : Option (List ℕ)) (is_told : Bool) (consumes : List ℕ → Type 0)
    (pending : Line) (count total : ℕ) (stop : Stop)
    → total ≤ 2 ^ 40 → (stop ≡ Read) × consumes []
    → StoppedOn (went t t) (Appends put put) is_told next consumes pending count total stop
read_stopped went stays t next put is_told consumes pending count total stop within (failed, none) =
    inl (record {
      piece = [];
      more = [];
      consumed = none;
      within = omega (arith, within);
      why = λ before size. subst (λ s. StopsBetween (before ++ []) [] s) (sym failed) refl;
      kept = pending;
      new_count = count;
      moved = moved_nil went stays t next put is_told pending count;
    })

-- the front of a front
front_of : (k n : ℕ) (buf : List ℕ) → k ≤ n → take k (take n buf) ≡ take k buf
front_of k n buf short = take-take k n buf short

parts_of : (k n : ℕ) (buf : List ℕ) → k ≤ n → take k buf ++ drop k (take n buf) ≡ take n buf
parts_of k n buf short = ap (λ s. s ++ drop k (take n buf)) (sym (front_of k n buf short))
    ∙ take-append-drop k (take n buf)

-- a run that stops at a line of a piece, or of the front that is within the limit
pub feed_stopped : (taken : Taken) (puts : List ℕ → Type 0) (is_told : Bool) (next : ℕ)
    (consumes : List ℕ → Type 0)
    (pending : Line) (count total : ℕ) (stop : Stop) (buf : List ℕ) (k n : ℕ)
    → k ≡ min (2 ^ 40 - total) n → n ≤ length buf → length buf ≡ 4096 → total ≤ 2 ^ 40
    → consumes (take n buf)
    → Halted taken puts is_told next (take k buf) pending count stop
    → StoppedOn taken puts is_told next consumes pending count total stop
feed_stopped taken puts is_told next consumes pending count total stop buf k n kept bound size
    within consumed halted =
    let short : k ≤ n = omega (arith, kept) in
    let whole : Halted taken puts is_told next (take n buf) pending count stop =
    subst (λ s. Halted taken puts is_told next s pending count stop) (parts_of k n buf short)
    (halted_longer taken puts is_told next (take k buf) (drop k (take n buf)) pending count stop
    halted) in
    let parts = ap length whole.split ∙ length-append whole.front whole.back in
    inr (record {
      piece = take n buf;
      consumed = consumed;
      within = omega (arith, bound, size, within, length-take n buf);
      halted = whole;
      near = omega (arith, bound, size, length-take n buf, parts);
    })

-- a run that stops since after 2^40 bytes there are more
pub full_stopped : (taken : Taken) (puts : List ℕ → Type 0) (is_told : Bool) (next : ℕ)
    (consumes : List ℕ → Type 0)
    (pending kept : Line) (count new_count total : ℕ) (buf : List ℕ) (k n : ℕ)
    → k ≡ min (2 ^ 40 - total) n → k < n → n ≤ length buf → length buf ≡ 4096 → total ≤ 2 ^ 40
    → consumes (take n buf)
    → Moved taken puts is_told next (take k buf) pending kept count new_count
    → StoppedOn taken puts is_told next consumes pending count total (Full Input)
full_stopped taken puts is_told next consumes pending kept count new_count total buf k n is_kept
    past bound size_is within consumed moved =
    let short : k ≤ n = omega (arith, past) in
    inl (record {
      piece = take k buf;
      more = drop k (take n buf);
      consumed = subst consumes (sym (parts_of k n buf short)) consumed;
      within = omega (arith, is_kept, past, bound, within, length-take k buf);
      why = λ before size. (
        omega (
          arith,
          size,
          is_kept,
          past,
          bound,
          within,
          length-append before (take k buf),
          length-take k buf,
        ),
        omega (arith, past, bound, length-drop k (take n buf), length-take n buf),
        omega (arith, bound, size_is, length-drop k (take n buf), length-take n buf),
      );
      kept = kept;
      new_count = new_count;
      moved = moved;
    })

-- a run over no piece
pub on_nothing : {T : Type 0} (went : T → T → Taken) (stays : (a : T) → went a a [] None)
    (t : T) (next : ℕ) (put left : Option (List ℕ)) (is_told : Bool) (pending : Line) (count : ℕ)
    → MovedOn (went t t) (Appends put put) is_told next (Consumes left left) pending pending count
    count 0
on_nothing went stays t next put left is_told pending count = record {
  piece = [];
  size = refl;
  consumed = Consumes-nil left;
  moved = moved_nil went stays t next put is_told pending count;
}

-- a run over pieces, and then over more of them
pub on_moved : {T : Type 0} (went : T → T → Taken) (next : T → ℕ)
    (goes_on : (a b c : T) (es fs : List Entry) (last : Option (Stop × Entry))
    → went a b es None → went b c fs last → went a c (es ++ fs) last)
    (numbers : (a b : T) (es : List Entry) → went a b es None → next b ≡ next a + length es)
    (t u v : T) (p q r : Option (List ℕ)) (x y z : Option (List ℕ)) (is_told : Bool) (a b c : Line)
    (k l m : ℕ) (i j : ℕ)
    → MovedOn (went t u) (Appends p q) is_told (next t) (Consumes x y) a b k l i
    → MovedOn (went u v) (Appends q r) is_told (next u) (Consumes y z) b c l m j
    → MovedOn (went t v) (Appends p r) is_told (next t) (Consumes x z) a c k m (i + j)
on_moved went next goes_on numbers t u v p q r x y z is_told a b c k l m i j first then = record {
  piece = first.piece ++ then.piece;
  size = length-append first.piece then.piece ∙ ap (λ n. n + length then.piece) first.size
      ∙ ap (λ n. i + n) then.size;
  consumed = Consumes-trans x y z first.piece then.piece first.consumed then.consumed;
  moved = moved_trans went next goes_on numbers t u v p q r is_told first.piece then.piece a b c k l
      m first.moved then.moved;
}

-- a run over pieces, and then one that stops
pub on_stopped : {T : Type 0} (went : T → T → Taken) (next : T → ℕ)
    (goes_on : (a b c : T) (es fs : List Entry) (last : Option (Stop × Entry))
    → went a b es None → went b c fs last → went a c (es ++ fs) last)
    (numbers : (a b : T) (es : List Entry) → went a b es None → next b ≡ next a + length es)
    (t u v : T) (p q r : Option (List ℕ)) (x y z : Option (List ℕ)) (is_told : Bool) (a b : Line)
    (k l : ℕ) (i : ℕ) (stop : Stop)
    → MovedOn (went t u) (Appends p q) is_told (next t) (Consumes x y) a b k l i
    → StoppedOn (went u v) (Appends q r) is_told (next u) (Consumes y z) b l i stop
    → StoppedOn (went t v) (Appends p r) is_told (next t) (Consumes x z) a k 0 stop
unfolding moved_halts
on_stopped went next goes_on numbers t u v p q r x y z is_told a b k l i stop first (inl broken) =
    inl (record {
      piece = first.piece ++ broken.piece;
      more = broken.more;
      consumed = subst (λ s. Consumes x z s)
          (sym (append_assoc first.piece broken.piece broken.more))
          (Consumes-trans x y z first.piece (broken.piece ++ broken.more) first.consumed
          broken.consumed);
      within = omega (arith, broken.within, first.size, length-append first.piece broken.piece);
      why = λ before none.
          subst (λ s. StopsBetween s broken.more stop)
          (append_assoc before first.piece broken.piece)
          (broken.why (before ++ first.piece)
          (omega (arith, none, first.size, length-append before first.piece)));
      kept = broken.kept;
      new_count = broken.new_count;
      moved = moved_trans went next goes_on numbers t u v p q r is_told first.piece broken.piece a b
          broken.kept k l broken.new_count
          first.moved broken.moved;
    })
on_stopped went next goes_on numbers t u v p q r x y z is_told a b k l i stop first (inr halted) =
    inr (record {
      piece = first.piece ++ halted.piece;
      consumed = Consumes-trans x y z first.piece halted.piece first.consumed halted.consumed;
      within = omega (arith, halted.within, first.size, length-append first.piece halted.piece);
      halted = moved_halts went next goes_on numbers t u v p q r is_told first.piece halted.piece
          a b k l stop
          first.moved halted.halted;
      near = halted.near;
    })

-- a run that wanted memory before it read anything
pub ran_nothing : {T : Type 0} (went : T → T → Taken) (stays : (a : T) → went a a [] None)
    (t : T) (next : ℕ) (put left : Option (List ℕ)) (is_told : Bool) (at_end : Type 0)
    → RanUntil (went t t) (Appends put put) is_told next (Consumes left left) at_end Memory
unfolding ended
ran_nothing went stays t next put left is_told at_end = inl (record {
  read = [];
  more = [];
  consumed = Consumes-nil left;
  within = omega arith;
  why = refl;
  put = subst (λ text. Appends put put text) (sym (answers_none is_told 1 next)) (Appends-nil put);
  took = subst (λ es. went t t es None) (sym entries_none) (stays t);
})

-- a run from the start that stopped before the end of the input
ran_stopped : (taken : Taken) (puts : List ℕ → Type 0) (is_told : Bool) (next : ℕ)
    (consumes : List ℕ → Type 0)
    (at_end : Type 0) (stop : Stop)
    → StoppedOn taken puts is_told next consumes (Some []) 0 0 stop
    → RanUntil taken puts is_told next consumes at_end stop
ran_stopped taken puts is_told next consumes at_end stop (inl broken) =
    let lines : ended broken.piece ≡ broken.moved.lines =
    ended_is broken.piece broken.moved.lines broken.kept broken.moved.onward broken.moved.number in
    inl (record {
      read = broken.piece;
      more = broken.more;
      consumed = broken.consumed;
      within = omega (arith, broken.within);
      why = broken.why [] refl;
      put = subst (λ ls. puts (answers is_told 1 next ls)) (sym lines) broken.moved.put;
      took = subst (λ ls. taken (entries_of ls) None) (sym lines) broken.moved.took;
    })
ran_stopped taken puts is_told next consumes at_end stop (inr stopped) =
    inr (record {
      read = stopped.piece;
      consumed = stopped.consumed;
      within = omega (arith, stopped.within);
      lines = stopped.halted.lines;
      line = stopped.halted.line;
      there = inl (
        stopped.halted.front,
        stopped.halted.back,
        stopped.halted.split,
        stopped.near,
        ended_is stopped.halted.front (stopped.halted.lines ++ stopped.halted.line ∷ [])
            stopped.halted.kept
            stopped.halted.onward stopped.halted.number,
      );
      stops = stopped.halted.stops;
    })

-- the lines of a whole input: those that ended in a newline, and the last one
all_lines : (read : List ℕ) (kept : Line) (lines last : List Line)
    → ((more : List ℕ) → lines_from (Some []) (read ++ more) ≡ lines ++ lines_from kept more)
    → lines_from kept [] ≡ last
    → lines_of read ≡ lines ++ last
all_lines read kept lines last onward ends =
    sym (ap lines_of (append-nil read)) ∙ sym (lines_from_afresh (read ++ [])) ∙ onward []
    ∙ ap (λ l. lines ++ l) ends

-- a run to the end of the input
ran_all : {T : Type 0} (went : T → T → Taken) (next : T → ℕ)
    (goes_on : (a b c : T) (es fs : List Entry) (last : Option (Stop × Entry))
    → went a b es None → went b c fs last → went a c (es ++ fs) last)
    (numbers : (a b : T) (es : List Entry) → went a b es None → next b ≡ next a + length es)
    (t u v : T) (p q r : Option (List ℕ)) (is_told : Bool) (consumes : List ℕ → Type 0)
    (at_end : Type 0)
    (kept : Line) (count : ℕ) (last : List Line)
    → at_end
    → MovedWithin (went t u) (Appends p q) is_told (next t) consumes (Some []) kept 0 count
    → lines_from kept [] ≡ last → Appends q r (answers is_told (count + 1) (next u) last)
    → went u v (entries_of last) None
    → RanAll (went t v) (Appends p r) is_told (next t) consumes at_end
ran_all went next goes_on numbers t u v p q r is_told consumes at_end kept count last ended_now
    first ends put took =
    let read : List ℕ = first.moved_on.piece in
    let lines : List Line = first.moved_on.moved.lines in
    let all : lines_of read ≡ lines ++ last =
    all_lines read kept lines last first.moved_on.moved.onward ends in
    let text : answers is_told 1 (next t) (lines ++ last) ≡ answers is_told 1 (next t) lines
    ++ answers is_told (count + 1) (next u) last =
    answers_on is_told 0 count (next t) (next u) lines last first.moved_on.moved.counted
    (numbers t u (entries_of lines) first.moved_on.moved.took) in
    record {
      read = read;
      consumed = first.moved_on.consumed;
      whole = ended_now;
      within = omega (arith, first.within, first.moved_on.size);
      put = subst (λ s. Appends p r s) (sym (ap (answers is_told 1 (next t)) all ∙ text))
          (Appends-trans p q r _ _ first.moved_on.moved.put put);
      took = subst (λ es. went t v es None) (sym (ap entries_of all ∙ entries_append lines last))
          (goes_on t u v _ _ None first.moved_on.moved.took took);
    }

-- a run that stopped at the last line of the input
ran_last : {T : Type 0} (went : T → T → Taken) (next : T → ℕ)
    (goes_on : (a b c : T) (es fs : List Entry) (last : Option (Stop × Entry))
    → went a b es None → went b c fs last → went a c (es ++ fs) last)
    (numbers : (a b : T) (es : List Entry) → went a b es None → next b ≡ next a + length es)
    (t u v : T) (p q r : Option (List ℕ)) (is_told : Bool) (consumes : List ℕ → Type 0)
    (at_end : Type 0)
    (kept : Line) (count : ℕ) (last : List Line) (stop : Stop)
    → at_end
    → MovedWithin (went t u) (Appends p q) is_told (next t) consumes (Some []) kept 0 count
    → lines_from kept [] ≡ last
    → StopsIn (went u v) (Appends q r) (answers is_told (count + 1) (next u)) last stop
    → RanUntil (went t v) (Appends p r) is_told (next t) consumes at_end stop
ran_last went next goes_on numbers t u v p q r is_told consumes at_end kept count last stop
    ended_now first ends (line, only, stops) =
    let read : List ℕ = first.moved_on.piece in
    let lines : List Line = first.moved_on.moved.lines in
    let all : lines_of read ≡ lines ++ line ∷ [] =
    all_lines read kept lines (line ∷ []) first.moved_on.moved.onward (ends ∙ only) in
    let whole : StopsAt (went t v) (Appends p r) (answers is_told 1 (next t)) (lines ++ []) line
    stop =
    stops_on went next goes_on t u v p q r is_told 0 count lines [] line stop
    first.moved_on.moved.counted
    (numbers t u (entries_of lines) first.moved_on.moved.took) first.moved_on.moved.put
    first.moved_on.moved.took stops in
    inr (record {
      read = read;
      consumed = first.moved_on.consumed;
      within = omega (arith, first.within, first.moved_on.size);
      lines = lines;
      line = line;
      there = inr (ended_now, all);
      stops = subst (λ ls. StopsAt (went t v) (Appends p r) (answers is_told 1 (next t)) ls line
          stop) (append-nil lines) whole;
    })

-- the same of a run that began with what a reading held, which is the start
pub ran_stopped_of : (taken : Taken) (puts : List ℕ → Type 0) (is_told : Bool) (next : ℕ)
    (consumes : List ℕ → Type 0)
    (at_end : Type 0) (stop : Stop) (pending : Line) (count : ℕ)
    → pending ≡ Some [] → count ≡ 0
    → StoppedOn taken puts is_told next consumes pending count 0 stop
    → RanUntil taken puts is_told next consumes at_end stop
ran_stopped_of taken puts is_told next consumes at_end stop pending count fresh none stopped =
    ran_stopped taken puts is_told next consumes at_end stop
    (subst (λ k. StoppedOn taken puts is_told next consumes (Some []) k 0 stop) none
    (subst (λ p. StoppedOn taken puts is_told next consumes p count 0 stop) fresh stopped))

moved_fresh : (taken : Taken) (puts : List ℕ → Type 0) (is_told : Bool) (next : ℕ)
    (consumes : List ℕ → Type 0)
    (pending kept : Line) (count new_count : ℕ)
    → pending ≡ Some [] → count ≡ 0
    → MovedWithin taken puts is_told next consumes pending kept count new_count
    → MovedWithin taken puts is_told next consumes (Some []) kept 0 new_count
moved_fresh taken puts is_told next consumes pending kept count new_count fresh none moved =
    subst (λ k. MovedWithin taken puts is_told next consumes (Some []) kept k new_count) none
    (subst (λ p. MovedWithin taken puts is_told next consumes p kept count new_count) fresh moved)

pub ran_all_of : {T E : Type 0} (went : T → T → Taken) (next : T → ℕ)
    (goes_on : (a b c : T) (es fs : List Entry) (last : Option (Stop × Entry))
    → went a b es None → went b c fs last → went a c (es ++ fs) last)
    (numbers : (a b : T) (es : List Entry) → went a b es None → next b ≡ next a + length es)
    (t u v : T) (p q r : Option (List ℕ)) (is_told : Bool) (consumes : List ℕ → Type 0)
    (at_end : Type 0)
    (pending kept : Line) (count new_count : ℕ) (result : Result E Stop)
    → pending ≡ Some [] → count ≡ 0 → at_end
    → MovedWithin (went t u) (Appends p q) is_told (next t) consumes pending kept count new_count
    → OnOk result (Finished (went u v) (Appends q r) (answers is_told (new_count + 1) (next u))
    kept)
    → OnOk result (RanAll (went t v) (Appends p r) is_told (next t) consumes at_end)
ran_all_of went next goes_on numbers t u v p q r is_told consumes at_end pending kept count
    new_count result fresh none ended_now moved finished =
    on_ok_weaker result
    (λ (done : Finished (went u v) (Appends q r) (answers is_told (new_count + 1) (next u)) kept).
    ran_all went next goes_on numbers t u v p q r is_told consumes at_end kept new_count done.last
    ended_now
    (moved_fresh (went t u) (Appends p q) is_told (next t) consumes pending kept count new_count
    fresh none moved)
    done.ends done.put done.took)
    finished

pub ran_last_of : {T E : Type 0} (went : T → T → Taken) (next : T → ℕ)
    (goes_on : (a b c : T) (es fs : List Entry) (last : Option (Stop × Entry))
    → went a b es None → went b c fs last → went a c (es ++ fs) last)
    (numbers : (a b : T) (es : List Entry) → went a b es None → next b ≡ next a + length es)
    (t u v : T) (p q r : Option (List ℕ)) (is_told : Bool) (consumes : List ℕ → Type 0)
    (at_end : Type 0)
    (pending kept : Line) (count new_count : ℕ) (result : Result E Stop)
    → pending ≡ Some [] → count ≡ 0 → at_end
    → MovedWithin (went t u) (Appends p q) is_told (next t) consumes pending kept count new_count
    → IfErr result (FinishStops (went u v) (Appends q r) (answers is_told (new_count + 1) (next u))
    kept)
    → IfErr result (RanUntil (went t v) (Appends p r) is_told (next t) consumes at_end)
ran_last_of went next goes_on numbers t u v p q r is_told consumes at_end pending kept count
    new_count result fresh none ended_now moved stopped =
    IfErr-weaker result (FinishStops (went u v) (Appends q r)
    (answers is_told (new_count + 1) (next u)) kept)
    (RanUntil (went t v) (Appends p r) is_told (next t) consumes at_end)
    (λ stop at. ran_last went next goes_on numbers t u v p q r is_told consumes at_end kept
    new_count at.last stop ended_now
    (moved_fresh (went t u) (Appends p q) is_told (next t) consumes pending kept count new_count
    fresh none moved) at.ends at.stops)
    stopped
