-- Upsets, and the trips that are reached from them.
use Rattle.std.proofs.Common.{◌≡◌, ℕ, ◌+◌, ◌<◌, ◌≤◌, inl, inr, ◌++◌, ◌∷◌, [], List, length, get_or}
use Rattle.std.proofs.Common.{slice_get, Option, Some, None, is_some, Bool, true, false}
use Rattle.std.proofs.Common.{if◌then◌else◌, arith, refl, sym, ap, ◌∙◌, subst, below_more}
use Rattle.std.proofs.lemmas.Bool.{false≢true}
use Rattle.fm_name.specs.Category.{category_of}
use Rattle.ev_ways.specs.Lists.{IsIn}
use Rattle.ev_ways.proofs.Membership.{in_either, in_last, in_old}
use Rattle.ev_tree.specs.declared.tree.Declared.{Declared}
use Rattle.ev_words.specs.Categories.{is_upset}
use Rattle.ev_check.proofs.Drawings.{below_push}
use Rattle.std.proofs.lemmas.Option.{same_Some, slice_get_read, slice_get_within}
use Rattle.ev_ways.specs.Search.{AreDistances, far}
use Rattle.ev_tree.specs.declared.tree.Statement.{Statement}
use Rattle.ev_check.specs.Declarations.{events_in}
use Rattle.ev_check.specs.Drawn.{causes_in, effects_in, trip_in}
use Rattle.ev_check.specs.Faults.{AreUpsets, AreUpsetsTo, IsUpset, HasFar, has_far, IsTripFree}
use Rattle.ev_check.specs.Faults.{IsTripped}

some_value : {A : Type 0} (o : Option A) → is_some o ≡ true → (v : A) × (o ≡ Some v)
some_value None h = absurd (false≢true h)
some_value (Some v) h = (v, refl)

-- what the test of a distance says
pub far_yes : (distance : List (Option ℕ)) (node : Option ℕ) → has_far distance node ≡ true
    → HasFar distance node
far_yes distance None h = absurd (false≢true h)
far_yes distance (Some n) h = let v = some_value (far distance n) h in
    record { at = n; is = refl; steps = v.0; stands = v.1 }

pub far_none : (distance : List (Option ℕ)) (node : Option ℕ) → has_far distance node ≡ false
    → HasFar distance node → ⊥
far_none distance node h x = false≢true (sym h ∙ ap (has_far distance) x.is ∙ ap is_some x.stands)

-- a trip with a distance from the upsets is reached from one
pub tripped_yes : (ss : List Statement) (s : Statement) (starts : List ℕ)
    (distance : List (Option ℕ)) (trip : Option ℕ)
    → AreUpsets (events_in ss) starts → AreDistances (causes_in ss) (effects_in ss) starts distance
    → trip ≡ trip_in ss s → HasFar distance trip → IsTripped ss s
tripped_yes ss s starts distance trip upsets distances is far =
    let way = distances.shown far.at far.steps far.stands in
    record {
      trip = far.at;
      number = sym is
          ∙ far.is;
      reached = record {
        upset = way.0;
        is = upsets.each way.0 way.1;
        steps =
            far.steps;
        way = way.2;
      };
    }

-- and one without is not
pub tripped_none : (ss : List Statement) (s : Statement) (starts : List ℕ)
    (distance : List (Option ℕ)) (trip : Option ℕ)
    → AreUpsets (events_in ss) starts → AreDistances (causes_in ss) (effects_in ss) starts distance
    → trip ≡ trip_in ss s → (HasFar distance trip → ⊥) → IsTripped ss s → ⊥
tripped_none ss s starts distance trip upsets distances is none tripped =
    let near = distances.least tripped.trip tripped.reached.steps (
      tripped.reached.upset,
      upsets.all tripped.reached.upset tripped.reached.is,
      tripped.reached.way,
    ) in
    none (record {
      at = tripped.trip;
      is = is ∙ tripped.number;
      steps = near.steps;
      stands =
          near.stands;
    })

-- one more statement whose trip is not reached
pub trips_more : (ss : List Statement) (n : ℕ) (x : Statement)
    → ((j : ℕ) → j < n → (s : Statement) → slice_get ss j ≡ Some s → IsTripped ss s → ⊥)
    → slice_get ss n ≡ Some x → (IsTripped ss x → ⊥) → (j : ℕ) → j < n + 1 → (s : Statement)
    → slice_get ss j ≡ Some s → IsTripped ss s → ⊥
trips_more ss n x before stands none =
    below_more _ _ before
    (λ s e t. none (let P : Statement → Type 0 = λ y. IsTripped ss y in
    subst P (same_Some s x (sym e ∙ stands)) t))

-- none at all
pub trips_none : (ss : List Statement) (n : ℕ) → length ss ≤ n
    → ((j : ℕ) → j < n → (s : Statement) → slice_get ss j ≡ Some s → IsTripped ss s → ⊥)
    → IsTripFree ss
trips_none ss n le before =
    record {
      each = λ j s e. let lt : j < length ss = slice_get_within ss j s e in
          before j (omega arith) s e;
    }

-- one more event, which is an upset
upset_more : (events : List Declared) (n : ℕ) (x : Declared) (old : List ℕ)
    → slice_get events n ≡ Some x → is_upset (category_of x.class) ≡ true → AreUpsetsTo events n old
    → AreUpsetsTo events (n + 1) (old ++ n ∷ [])
upset_more events n x old stands is before = record {
  below = below_push (n + 1) n old (λ k lt. omega (arith, before.below k lt)) (omega arith);
  each = λ u member. elim (in_either old n member) [
    | inl there ↦ before.each u there
    | inr same ↦
        (let P : ℕ → Type 0 = λ v. IsUpset events v in
        subst P (sym same) (record { event = x; declared = stands; category = is }))
  ];
  all = below_more (λ u. IsUpset events u → IsIn u (old ++ n ∷ [])) n
      (λ u lt upset. in_old n (before.all u lt upset)) (λ upset. in_last old n);
}

-- one more event, which is none
plain_more : (events : List Declared) (n : ℕ) (x : Declared) (old : List ℕ)
    → slice_get events n ≡ Some x → is_upset (category_of x.class) ≡ false
    → AreUpsetsTo events n old → AreUpsetsTo events (n + 1) old
plain_more events n x old stands is before = record {
  below = λ k lt. omega (arith, before.below k lt);
  each = before.each;
  all = below_more (λ u. IsUpset events u → IsIn u old) n before.all
      (λ upset. absurd (false≢true
      (sym is ∙ ap (λ (y : Declared). is_upset (category_of y.class))
      (same_Some x upset.event (sym stands ∙ upset.declared)) ∙ upset.category)));
}

either_more : (events : List Declared) (n : ℕ) (x : Declared) (old : List ℕ) (b : Bool)
    → slice_get events n ≡ Some x → is_upset (category_of x.class) ≡ b → AreUpsetsTo events n old
    → AreUpsetsTo events (n + 1) (if b then old ++ n ∷ [] else old)
either_more events n x old true stands is before = upset_more events n x old stands is before
either_more events n x old false stands is before = plain_more events n x old stands is before

pub upsets_more : (events : List Declared) (n : ℕ) (x : Declared) (old new : List ℕ)
    → n < length events → x ≡ get_or events n x
    → new ≡ (if is_upset (category_of x.class) then old ++ n ∷ [] else old)
    → AreUpsetsTo events n old → AreUpsetsTo events (n + 1) new
upsets_more events n x old new lt is new_is before =
    let P : List ℕ → Type 0 = λ y. AreUpsetsTo events (n + 1) y in
    subst P (sym new_is) (either_more events n x old (is_upset (category_of x.class))
    (slice_get_read events (length events) n x refl lt is) refl before)

-- all of them
pub upsets_all : (events : List Declared) (n : ℕ) (starts : List ℕ) → length events ≤ n
    → AreUpsetsTo events n starts → AreUpsets events starts
upsets_all events n starts le before =
    record {
      each = before.each;
      all = λ u upset. let lt : u < length events =
          slice_get_within events u upset.event upset.declared in before.all u (omega arith) upset;
    }
