-- Marks that suspects of solved cases get.
use Rattle.std.proofs.Common.{◌≡◌, ℕ, Bool, true, false, ◌||◌, List, [], ◌∷◌, ◌++◌, refl, sym}
use Rattle.std.proofs.Common.{ap, ◌∙◌, subst, nat_lt, IsTrue, append-nil, Some, if◌then◌else◌}
use Rattle.std.specs.List.{list_any, list_all}
use Rattle.std.proofs.lemmas.Bool.{false≢true, and_from, and_parts, or_from}
use Rattle.fm_entry.specs.declared.suspect.Mark.{Mark}
use Rattle.fm_entry.specs.declared.list_event.ListEvent.{ListEvent}
use Rattle.ev_incidence.specs.Sets.{ascends}
use Rattle.dx_state.specs.LawfulState.{solved_numbers}
use Rattle.dx_state.proofs.Lists.{is_strict, strict_of, ascends_of}
use Rattle.dx_step.specs.Said.{with_last_word}
use Rattle.dx_step.specs.Repairs.{Chosen, is_marked_by, marked_word, has_present, kept_if}
use Rattle.dx_step.specs.Repairs.{last_words, mark_words, mark}
use Rattle.dx_said.specs.Making.{with_words}
use Rattle.dx_turn.specs.declared.ground.Ground.{Ground}
use Rattle.dx_turn.specs.declared.told.Told.{Told}
use Rattle.dx_turn.specs.Turning.{made_or, solved_by, turn_at, IsTold, HasTurned}

-- words among which some more ascend do so themselves
all_less : (p : ℕ → Bool) (w : ListEvent) (ws : List ListEvent)
    → IsTrue (list_all p (solved_numbers (with_last_word w ws)))
    → IsTrue (list_all p (solved_numbers ws))
all_less p w [] h = refl
all_less p w (y ∷ ys) h =
    let rest = all_less p w ys in
    elim (nat_lt w.case.case y.case.case) as (λ (b : Bool). IsTrue (list_all p (solved_numbers
    (if b then w ∷ y ∷ ys else (if nat_lt y.case.case w.case.case then y ∷ with_last_word w ys
    else y ∷ ys)))) → IsTrue (list_all p (solved_numbers (y ∷ ys)))) [
      | true ↦ λ k. (and_parts (p w.case.case) (list_all p (solved_numbers (y ∷ ys))) k).1
      | false ↦ elim (nat_lt y.case.case w.case.case) as (λ (b : Bool).
          IsTrue (list_all p (solved_numbers (if b then y ∷ with_last_word w ys else y ∷ ys)))
          → IsTrue (list_all p (solved_numbers (y ∷ ys)))) [
            | true ↦ λ k.
                let parts = and_parts (p y.case.case)
                (list_all p (solved_numbers (with_last_word w ys))) k in
                and_from (p y.case.case) (list_all p (solved_numbers ys)) parts.0 (rest parts.1)
            | false ↦ λ k. k
          ]
    ] h

strict_less : (w : ListEvent) (ws : List ListEvent)
    → IsTrue (is_strict (solved_numbers (with_last_word w ws)))
    → IsTrue (is_strict (solved_numbers ws))
strict_less w [] h = refl
strict_less w (y ∷ ys) h =
    let rest = strict_less w ys in
    let n = y.case.case in
    elim (nat_lt w.case.case n) as (λ (b : Bool). IsTrue (is_strict (solved_numbers
    (if b then w ∷ y ∷ ys else (if nat_lt y.case.case w.case.case then y ∷ with_last_word w ys
    else y ∷ ys)))) → IsTrue (is_strict (solved_numbers (y ∷ ys)))) [
      | true ↦ λ k. (and_parts (list_all (nat_lt w.case.case) (solved_numbers (y ∷ ys)))
          (is_strict (solved_numbers (y ∷ ys))) k).1
      | false ↦ elim (nat_lt n w.case.case) as (λ (b : Bool).
          IsTrue (is_strict (solved_numbers (if b then y ∷ with_last_word w ys else y ∷ ys)))
          → IsTrue (is_strict (solved_numbers (y ∷ ys)))) [
            | true ↦ λ k.
                let parts = and_parts (list_all (nat_lt n) (solved_numbers (with_last_word w ys)))
                (is_strict (solved_numbers (with_last_word w ys))) k in
                and_from (list_all (nat_lt n) (solved_numbers ys)) (is_strict (solved_numbers ys))
                (all_less (nat_lt n) w ys parts.0) (rest parts.1)
            | false ↦ λ k. k
          ]
    ] h

all_strict : (more ws : List ListEvent) → IsTrue (is_strict (solved_numbers (with_words more ws)))
    → IsTrue (is_strict (solved_numbers ws))
all_strict [] ws h = h
all_strict (w ∷ more) ws h = strict_less w ws (all_strict more (with_last_word w ws) h)

pub ascend_before : (more ws : List ListEvent)
    → IsTrue (ascends (solved_numbers (with_words more ws))) → IsTrue (ascends (solved_numbers ws))
ascend_before more ws h =
    ascends_of (solved_numbers ws)
    (all_strict more ws (strict_of (solved_numbers (with_words more ws)) h))

-- where none passes a test before, none passes it after
none_first : (a b : Bool) → (a || b) ≡ false → a ≡ false
none_first true b h = absurd (false≢true (sym h))
none_first false b h = refl

none_rest : (a b : Bool) → (a || b) ≡ false → b ≡ false
none_rest true b h = absurd (false≢true (sym h))
none_rest false b h = h

none_with : (p : ListEvent → Bool) (w : ListEvent) (ws : List ListEvent) → p w ≡ false
    → list_any p ws ≡ false → list_any p (with_last_word w ws) ≡ false
none_with p w [] h k = or_from (p w) false h refl
none_with p w (y ∷ ys) h k =
    let here = none_first (p y) (list_any p ys) k in
    let rest = none_with p w ys h (none_rest (p y) (list_any p ys) k) in
    elim (nat_lt w.case.case y.case.case) as (λ (b : Bool). list_any p (if b then w ∷ y ∷ ys
    else (if nat_lt y.case.case w.case.case then y ∷ with_last_word w ys else y ∷ ys)) ≡ false) [
      | true ↦ or_from (p w) (list_any p (y ∷ ys)) h k
      | false ↦ elim (nat_lt y.case.case w.case.case) as (λ (b : Bool).
          list_any p (if b then y ∷ with_last_word w ys else y ∷ ys) ≡ false) [
            | true ↦ or_from (p y) (list_any p (with_last_word w ys)) here rest
            | false ↦ k
          ]
    ]

none_among : (p : ListEvent → Bool) (more ws : List ListEvent) → list_any p more ≡ false
    → list_any p ws ≡ false → list_any p (with_words more ws) ≡ false
none_among p [] ws h k = k
none_among p (w ∷ more) ws h k =
    none_among p more (with_last_word w ws) (none_rest (p w) (list_any p more) h)
    (none_with p w ws (none_first (p w) (list_any p more) h) k)

-- where none gets a mark, the words stay, and none is said
none_left : (time : ℕ) (chosen : Chosen) (m : Mark) (ws : List ListEvent)
    → list_any (is_marked_by chosen) ws ≡ false → last_words time chosen m ws ≡ ws
none_left time chosen m [] h = refl
none_left time chosen m (w ∷ ws) h =
    let x = marked_word time chosen m w in
    ap (λ (b : Bool). (if b then kept_if (has_present x.suspects) x else w ∷ [])
    ++ last_words time chosen m ws)
    (none_first (is_marked_by chosen w) (list_any (is_marked_by chosen) ws) h)
    ∙ ap (λ vs. w ∷ vs) (none_left time chosen m ws
    (none_rest (is_marked_by chosen w) (list_any (is_marked_by chosen) ws) h))

none_said : (time : ℕ) (chosen : Chosen) (m : Mark) (ws : List ListEvent)
    → list_any (is_marked_by chosen) ws ≡ false → mark_words time chosen m ws ≡ []
none_said time chosen m [] h = refl
none_said time chosen m (w ∷ ws) h =
    ap (λ (b : Bool). kept_if b (marked_word time chosen m w) ++ mark_words time chosen m ws)
    (none_first (is_marked_by chosen w) (list_any (is_marked_by chosen) ws) h)
    ∙ none_said time chosen m ws
    (none_rest (is_marked_by chosen w) (list_any (is_marked_by chosen) ws) h)

pub marked_none : (d : Ground) (t : Told) (chosen : Chosen) (m : Mark) → IsTold d t
    → (list_any (is_marked_by chosen) (made_or t.marked d.last_words.now)
    || list_any (is_marked_by chosen) t.solved) ≡ false
    → HasTurned d (mark chosen m) t t
unfolding mark
marked_none d t chosen m told h =
    let p = is_marked_by chosen in
    let before = made_or t.marked d.last_words.now in
    let none : list_any p (solved_by d t) ≡ false =
    none_among p t.solved before (none_rest (list_any p before) (list_any p t.solved) h)
    (none_first (list_any p before) (list_any p t.solved) h) in
    let left = none_left d.time chosen m (solved_by d t) none in
    let said : t.words ++ mark_words d.time chosen m (solved_by d t) ≡ t.words =
    ap (λ ws. t.words ++ ws) (none_said d.time chosen m (solved_by d t) none)
    ∙ append-nil t.words in
    record {
      turn = λ next cs i.
          let u = turn_at d next cs t in
          record u {
            state = record u.state { solved = sym left i };
            words = sym said i;
          };
      told = told;
    }

-- words got marks
pub marked_some : (d : Ground) (old new : Told) (chosen : Chosen) (m : Mark)
    (ws left said : List ListEvent) → IsTold d old → ws ≡ solved_by d old
    → left ≡ last_words d.time chosen m ws → said ≡ mark_words d.time chosen m ws
    → new ≡ record old { marked = Some left; solved = []; words = old.words ++ said }
    → HasTurned d (mark chosen m) old new
unfolding mark
marked_some d old new chosen m ws left said told are lefts saids e =
    let one : left ≡ last_words d.time chosen m (solved_by d old) =
    lefts ∙ ap (last_words d.time chosen m) are in
    let two : said ≡ mark_words d.time chosen m (solved_by d old) =
    saids ∙ ap (mark_words d.time chosen m) are in
    record {
      turn = λ next cs. ap (turn_at d next cs) e ∙ (λ i.
          let u = turn_at d next cs old in
          record u {
            state = record u.state { solved = one i };
            words = old.words ++ two i;
          });
      told = subst (IsTold d) (sym e) (record { rates = told.rates; fired = told.fired });
    }
