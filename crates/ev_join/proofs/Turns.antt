-- The turns of the search: which candidates stand from a list on.
use Rattle.std.proofs.Common.{◌≡◌, ◌<◌, ◌≤◌, ◌+◌, ℕ, List, [], ◌∷◌, ◌++◌, length, inl, inr}
use Rattle.std.proofs.Common.{arith, ap, sym, ◌∙◌, subst, append_assoc, length-append, None, Some}
use Rattle.std.proofs.Common.{nat_lt}
use Rattle.std.proofs.lemmas.Bool.{cases_Bool}
use Rattle.std.proofs.lemmas.Grind.{common_steps}
use Rattle.ev_join.specs.Order.{AreSmall}
use Rattle.ev_join.specs.Tables.{TableValue}
use Rattle.ev_join.specs.Candidates.{HasRows, IsJoined}
use Rattle.ev_join.specs.Search.{IsLeastFrom, GoesOn, IsOpen, IsFirstCandidate, HasNoCandidate}
use Rattle.ev_join.specs.Search.{MovesTo, steps_left}
use Rattle.ev_join.proofs.Ordering.{GoesFrom, IsPast, parts, past_any, goes_any, goes_back, raised}
use Rattle.ev_join.proofs.Ordering.{lowered}
use Rattle.ev_join.proofs.Ordering.{deeper, shallower, not_before_itself, not_before_trans}
use Rattle.ev_join.proofs.Columns.{fits_fewer}
use Rattle.ev_join.proofs.Steps.{back_falls, deep_falls}

-- ---- small numbers
pub small_at : (p more : List ℕ) (z : ℕ) → AreSmall (p ++ z ∷ more) → z < 4294967296
small_at [] more z h = h.0
small_at (x ∷ p) more z h = small_at p more z h.1

pub small_push : (p : List ℕ) (z : ℕ) → AreSmall p → z < 4294967296 → AreSmall (p ++ z ∷ [])
small_push [] z h less = (less, tt)
small_push (x ∷ p) z h less = (h.0, small_push p z h.1 less)

pub small_front : (p more : List ℕ) → AreSmall (p ++ more) → AreSmall p
small_front [] more h = tt
small_front (x ∷ p) more h = (h.0, small_front p more h.1)

-- ---- turns
module _ (tables : List TableValue) (n : ℕ) where
  -- a candidate that goes on from a beginning shows a number with which that goes on
  goes_on : (c front : List ℕ) (y : ℕ) → IsJoined tables n c → (g : GoesFrom c front y)
      → GoesOn tables front g.value
  goes_on c front y h g = record {
    small = small_at front g.more g.value (subst AreSmall g.is h.small);
    fits = fits_fewer tables (front ++ g.value ∷ []) g.more
        (subst (HasRows tables) (g.is ∙ sym (append_assoc front (g.value ∷ []) g.more)) h.fits);
  }

  -- nothing is passed over on the way to the least number
  pub turn_found : (old front : List ℕ) (x v : ℕ) → MovesTo tables n old (front ++ x ∷ [])
      → IsLeastFrom (GoesOn tables front) x (Some v) → MovesTo tables n old (front ++ v ∷ [])
  turn_found old front x v m least = record {
    on = λ c h p. elim (parts front c x (m.on c h p)) [
      | inl past ↦ past_any front c (v ∷ []) past
      | inr g ↦ goes_back c front v (record {
        value = g.value;
        more = g.more;
        is = g.is;
        from = least.1.1 g.value g.from (goes_on c front x h g);
      })
    ];
    back = λ c h p.
        m.back c h (not_before_trans c (front ++ v ∷ []) (front ++ x ∷ []) p
        (goes_any front [] x v least.0));
  }

  -- the next number is sought from 0 on
  pub turn_deeper : (old q : List ℕ) → length q < n → MovesTo tables n old q
      → MovesTo tables n old (q ++ 0 ∷ [])
  turn_deeper old q less m = record {
    on = λ c h p. deeper q c (omega (arith, less, h.full)) (m.on c h p);
    back = λ c h p. m.back c h (shallower q c (0 ∷ []) p);
  }

  -- where no number goes on, the one before is raised
  pub turn_back : (old front : List ℕ) (last x : ℕ)
      → MovesTo tables n old ((front ++ last ∷ []) ++ x ∷ [])
      → IsLeastFrom (GoesOn tables (front ++ last ∷ [])) x None
      → MovesTo tables n old (front ++ (last + 1) ∷ [])
  turn_back old front last x m none = record {
    on = λ c h p. elim (parts (front ++ last ∷ []) c x (m.on c h p)) [
      | inl past ↦ raised front c last past
      | inr g ↦ absurd (none g.value g.from (goes_on c (front ++ last ∷ []) x h g))
    ];
    back = λ c h p. m.back c h
        (rw (append_assoc front (last ∷ []) (x ∷ [])) (lowered front c (x ∷ []) last p));
  }

  -- a whole binding that fits is the first candidate
  pub is_first : (old b : List ℕ) → IsJoined tables n b → MovesTo tables n old b
      → IsFirstCandidate tables n old b
  is_first old b h m = record {
    candidate = h;
    from = m.back b h (not_before_itself b);
    least = m.on;
  }

  -- where the first number can't be raised, there is none
  pub is_none : (old : List ℕ) (x : ℕ) → MovesTo tables n old ([] ++ x ∷ [])
      → IsLeastFrom (GoesOn tables []) x None → HasNoCandidate tables n old
  is_none old x m none = record {
    none = λ c h p. elim (parts [] c x (m.on c h p)) [
      | inl past ↦ past_none c past
      | inr g ↦ none g.value g.from (goes_on c [] x h g)
    ];
  } where
    past_none : (c : List ℕ) → IsPast c [] → ⊥
    past_none c past = past

  -- ---- the state of the search
  pub open_deeper : (front : List ℕ) (x v : ℕ) → IsOpen tables n front x
      → IsLeastFrom (GoesOn tables front) x (Some v) → length (front ++ v ∷ []) < n
      → IsOpen tables n (front ++ v ∷ []) 0
  open_deeper front x v h least less = record {
    short = less;
    small = small_push front v h.small least.1.0.small;
    room = omega arith;
    fits = least.1.0.fits;
  }

  pub open_back : (front : List ℕ) (last x : ℕ) → IsOpen tables n (front ++ last ∷ []) x
      → IsOpen tables n front (last + 1)
  open_back front last x h = record {
    short = omega (arith, h.short, length-append front (last ∷ []));
    small = small_front front (last ∷ []) h.small;
    room = omega (arith, small_at front [] last h.small);
    fits = fits_fewer tables front (last ∷ []) h.fits;
  }

  pub full_candidate : (front : List ℕ) (x v : ℕ) → IsOpen tables n front x
      → IsLeastFrom (GoesOn tables front) x (Some v) → length (front ++ v ∷ []) ≡ n
      → IsJoined tables n (front ++ v ∷ [])
  full_candidate front x v h least full = record {
    full = full;
    small = small_push front v h.small least.1.0.small;
    fits = least.1.0.fits;
  }

-- ---- the search at a turn
-- the beginning fits, and the candidates from here on are those from the start on
pub record Turning (tables : List TableValue) (n : ℕ) (old front : List ℕ)
    (value : ℕ) : Type 0 where
  pub opened : IsOpen tables n front value
  pub moves : MovesTo tables n old (front ++ value ∷ [])

module _ (tables : List TableValue) (n : ℕ) (old front new : List ℕ) (x : ℕ)
    (h : Turning tables n old front x) where
  -- with one more number there is room for the next, or the binding is whole
  room_left : (v : ℕ) → new ≡ front ++ v ∷ [] → (length new ≡ n → ⊥) → length new < n
  room_left v is more =
      let len = ap length is ∙ length-append front (v ∷ []) in
      let short = h.opened.short in
      elim (cases_Bool (nat_lt (length new) n)) [
        | inl so ↦ grind (arith, common_steps, so)
        | inr not_so ↦
            absurd (more (let low : n ≤ length new = grind (arith, common_steps, not_so) in
            omega (arith, len, short, low)))
      ]

  pub turn_on : (v : ℕ) → new ≡ front ++ v ∷ [] → IsLeastFrom (GoesOn tables front) x (Some v)
      → (length new ≡ n → ⊥) → Turning tables n old new 0
  turn_on v is least more =
      let less = room_left v is more in
      let shorter : length (front ++ v ∷ []) < n = subst (λ k. length k < n) is less in
      subst (λ k. Turning tables n old k 0) (sym is) (record {
        opened = open_deeper tables n front x v h.opened least shorter;
        moves = turn_deeper tables n old (front ++ v ∷ []) shorter
            (turn_found tables n old front x v h.moves least);
      })

  pub on_falls : (v : ℕ) → new ≡ front ++ v ∷ [] → IsLeastFrom (GoesOn tables front) x (Some v)
      → (length new ≡ n → ⊥) → steps_left n (new ++ 0 ∷ []) < steps_left n (front ++ x ∷ [])
  on_falls v is least more =
      let less = room_left v is more in
      let shorter : length (front ++ v ∷ []) < n = subst (λ k. length k < n) is less in
      subst (λ k. steps_left n (k ++ 0 ∷ []) < steps_left n (front ++ x ∷ [])) (sym is)
      (deep_falls front x v n shorter least.0)

  pub turn_off : (last : ℕ) → front ≡ new ++ last ∷ [] → IsLeastFrom (GoesOn tables front) x None
      → Turning tables n old new (last + 1)
  turn_off last is none = record {
    opened = open_back tables n new last x
        (subst (λ k. IsOpen tables n k x) is h.opened);
    moves = turn_back tables n old new last x
        (subst (λ k. MovesTo tables n old (k ++ x ∷ [])) is h.moves)
        (subst (λ k. IsLeastFrom (GoesOn tables k) x None) is none);
  }

  pub off_falls : (last : ℕ) → front ≡ new ++ last ∷ []
      → steps_left n (new ++ (last + 1) ∷ []) < steps_left n (front ++ x ∷ [])
  off_falls last is =
      let small = subst AreSmall is h.opened.small in
      subst (λ k. steps_left n (new ++ (last + 1) ∷ []) < steps_left n (k ++ x ∷ [])) (sym is)
      (back_falls new x last n (subst (λ k. length k < n) is h.opened.short)
      (small_at new [] last small))

  pub turn_whole : (v : ℕ) → new ≡ front ++ v ∷ [] → IsLeastFrom (GoesOn tables front) x (Some v)
      → length new ≡ n → IsFirstCandidate tables n old new
  turn_whole v is least full =
      let whole : length (front ++ v ∷ []) ≡ n = ap length (sym is) ∙ full in
      subst (IsFirstCandidate tables n old) (sym is)
      (is_first tables n old (front ++ v ∷ [])
      (full_candidate tables n front x v h.opened least whole)
      (turn_found tables n old front x v h.moves least))

  pub turn_over : front ≡ [] → IsLeastFrom (GoesOn tables front) x None
      → HasNoCandidate tables n old
  turn_over is none =
      is_none tables n old x (subst (λ k. MovesTo tables n old (k ++ x ∷ [])) is h.moves)
      (subst (λ k. IsLeastFrom (GoesOn tables k) x None) is none)

pub turning_first : (tables : List TableValue) (n : ℕ) (front : List ℕ) (x : ℕ)
    → IsOpen tables n front x → Turning tables n (front ++ x ∷ []) front x
turning_first tables n front x h = record {
  opened = h;
  moves = record { on = λ c k p. p; back = λ c k p. p };
}
