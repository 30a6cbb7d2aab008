-- The steps of a breadth-first search.
use Rattle.std.proofs.Common.{◌≡◌, ◌≢◌, ◌⊎◌, ℕ, zero, suc, ◌+◌, ◌<◌, ◌≤◌, Bool, true, false, cond}
use Rattle.std.proofs.Common.{List, [], ◌∷◌, ◌++◌, Option, Some, None, length, get_or, set, refl}
use Rattle.std.proofs.Common.{sym, ◌∙◌, subst, inl, inr, arith, length-append, get_or-set_same}
use Rattle.std.proofs.Common.{get_or-set_other}
use Rattle.std.proofs.Math.ListN.{length-set, get_or-eq_default, replicate}
use Rattle.std.proofs.lemmas.Bool.{cases_lt, cases_eq, false≢true}
use Rattle.std.proofs.lemmas.List.Sums.{sum_by-set, count_by-le-length}
use Rattle.std.proofs.lemmas.List.{get_or-replicate, length-replicate}
use Rattle.std.specs.List.{count_by}
use Rattle.std.specs.Option.{is_none}
use Rattle.ev_ways.specs.Lists.{IsIn, row, IsIndex, marked}
use Rattle.ev_ways.specs.Ways.{Leads, Way, Comes}
use Rattle.ev_ways.specs.Search.{far, IsNear, IsFront, IsTaken, reached, noted, Grown, IsEffectOf}
use Rattle.ev_ways.specs.Search.{IsAfter, IsOneOf, Searched, AreDistances}
use Rattle.ev_ways.proofs.Membership.{in_old, in_last, in_either, in_place}
use Rattle.ev_ways.proofs.Walks.{comes_more}

-- a node that had no distance is given one
reached_none : (dist : List (Option ℕ)) (x v : ℕ) → far dist x ≡ None
    → reached dist x v ≡ set dist x (Some v)
reached_none dist x v e = rw e refl

reached_some : (dist : List (Option ℕ)) (x v d : ℕ) → far dist x ≡ Some d → reached dist x v ≡ dist
reached_some dist x v d e = rw e refl

noted_none : (dist : List (Option ℕ)) (front : List ℕ) (x : ℕ) → far dist x ≡ None
    → noted dist front x ≡ front ++ x ∷ []
noted_none dist front x e = rw e refl

noted_some : (dist : List (Option ℕ)) (front : List ℕ) (x d : ℕ) → far dist x ≡ Some d
    → noted dist front x ≡ front
noted_some dist front x d e = rw e refl

far_same : (dist : List (Option ℕ)) (x v : ℕ) → x < length dist
    → far (set dist x (Some v)) x ≡ Some v
far_same dist x v lt = get_or-set_same dist x (Some v) None lt

far_other : (dist : List (Option ℕ)) (x y v : ℕ) → y ≢ x → far (set dist x (Some v)) y ≡ far dist y
far_other dist x y v ne = get_or-set_other dist x y (Some v) None ne

none_some : {A : Type 0} {o : Option ℕ} (d : ℕ) → o ≡ None → o ≡ Some d → A
none_some d e f = let no_one : ⊥ = cc in absurd no_one

count_falls : (dist : List (Option ℕ)) (x v : ℕ) → x < length dist → far dist x ≡ None
    → count_by is_none (set dist x (Some v)) + 1 ≡ count_by is_none dist
count_falls dist x v lt e =
    let was : ◌≡◌ {A = ℕ} (cond (is_none (far dist x)) 1 0) 1 = rw e refl in
    omega (arith, sum_by-set (λ o. cond (is_none o) 1 0) dist x (Some v) None lt, was)

set_only : (dist : List (Option ℕ)) (x v y d : ℕ) → x < length dist
    → far (set dist x (Some v)) y ≡ Some d → (far dist y ≡ Some d) ⊎ ((d ≡ v) × (y ≡ x))
set_only dist x v y d lt h = elim (cases_eq y x) [
  | inl e ↦ inr (
    (let P : ℕ → Type 0 = λ z. far (set dist x (Some v)) z ≡ Some d in
        let there : far (set dist x (Some v)) x ≡ Some d = subst P e h in
        let same = far_same dist x v lt in cc),
    e,
  )
  | inr ne ↦ inl (sym (far_other dist x y v ne) ∙ h)
]

set_kept : (dist : List (Option ℕ)) (x v y d : ℕ) → far dist x ≡ None → far dist y ≡ Some d
    → far (set dist x (Some v)) y ≡ Some d
set_kept dist x v y d none h = elim (cases_eq y x) [
  | inl e ↦ none_some d none (let P : ℕ → Type 0 = λ z. far dist z ≡ Some d in subst P e h)
  | inr ne ↦ far_other dist x y v ne ∙ h
]

set_front : (dist : List (Option ℕ)) (front : List ℕ) (x v : ℕ) → x < length dist
    → far dist x ≡ None → IsFront v dist front → IsFront v (set dist x (Some v)) (front ++ x ∷ [])
set_front dist front x v lt none h = record {
  bound = λ y d e. elim (set_only dist x v y d lt e)
      [ inl old ↦ h.bound y d old | inr fresh ↦ omega (arith, fresh.0) ];
  all = λ y e. elim (set_only dist x v y v lt e) [
    | inl old ↦ in_old x (h.all y old)
    | inr fresh ↦ let P : ℕ → Type 0 = λ z. IsIn z (front ++ x ∷ []) in
        subst P (sym fresh.1) (in_last front x)
  ];
  given = λ y w. elim (in_either front x w) [
    | inl old ↦ set_kept dist x v y v none (h.given y old)
    | inr e ↦ let P : ℕ → Type 0 = λ z. far (set dist x (Some v)) z ≡ Some v in
        subst P (sym e) (far_same dist x v lt)
  ];
  room = omega (
    arith,
    h.room,
    count_falls dist x v lt none,
    length-append front (x ∷ []),
    length-set dist x (Some v),
  );
}

-- one node
pub reach_front : (dist : List (Option ℕ)) (front : List ℕ) (x v : ℕ) → x < length dist
    → IsFront v dist front → IsFront v (reached dist x v) (noted dist front x)
reach_front dist front x v lt h = go (far dist x) refl where
  go : (o : Option ℕ) → far dist x ≡ o → IsFront v (reached dist x v) (noted dist front x)
  go None e = rw (reached_none dist x v e)
      (rw (noted_none dist front x e) (set_front dist front x v lt e h))
  go (Some d) e = rw (reached_some dist x v d e) (rw (noted_some dist front x d e) h)

pub reach_grown : (dist : List (Option ℕ)) (front : List ℕ) (x v : ℕ) → x < length dist
    → IsFront v dist front → Grown v (λ y. y ≡ x) (λ y. y ≡ x) dist (reached dist x v)
reach_grown dist front x v lt h = go (far dist x) refl where
  go : (o : Option ℕ) → far dist x ≡ o → Grown v (λ y. y ≡ x) (λ y. y ≡ x) dist (reached dist x v)
  go None e = rw (reached_none dist x v e) (record {
    lengths = length-set dist x (Some v);
    kept = λ y d f. set_kept dist x v y d e f;
    near = λ y same. record {
      steps = v;
      stands =
          (let P : ℕ → Type 0 = λ z. far (set dist x (Some v)) z ≡ Some v in
          subst P (sym same) (far_same dist x v lt));
      within = omega arith;
    };
    only = λ y d f. set_only dist x v y d lt f;
  })
  go (Some d) e = rw (reached_some dist x v d e) (record {
    lengths = refl;
    kept = λ y c f. f;
    near = λ y same. record {
      steps = d;
      stands =
          (let P : ℕ → Type 0 = λ z. far dist z ≡ Some d in subst P (sym same) e);
      within =
          h.bound x d e;
    };
    only = λ y c f. inl f;
  })

pub near_kept : {old new : List (Option ℕ)} {n x : ℕ}
    → ((y d : ℕ) → far old y ≡ Some d → far new y ≡ Some d) → IsNear old n x → IsNear new n x
near_kept {x = x} kept h =
    record { steps = h.steps; stands = kept x h.steps h.stands; within = h.within }

pub near_far : {dist : List (Option ℕ)} {n m x : ℕ} → n ≤ m → IsNear dist n x → IsNear dist m x
near_far le h = record { steps = h.steps; stands = h.stands; within = omega (arith, le, h.within) }

pub grown_none : (v : ℕ) (done all : ℕ → Type 0) (dist : List (Option ℕ)) → ((y : ℕ) → done y → ⊥)
    → Grown v done all dist dist
grown_none v done all dist none =
    record {
      lengths = refl;
      kept = λ x d e. e;
      near = λ x h. absurd (none x h);
      only =
          λ x d e. inl e;
    }

-- one part after another
pub grown_more : (v : ℕ) (done more both all part : ℕ → Type 0) (old mid new : List (Option ℕ))
    → Grown v done all old mid → Grown v more part mid new
    → ((y : ℕ) → both y → done y ⊎ more y) → ((y : ℕ) → part y → all y) → Grown v both all old new
grown_more v done more both all part old mid new h g split within = record {
  lengths = g.lengths ∙ h.lengths;
  kept = λ x d e. g.kept x d (h.kept x d e);
  near = λ x b. elim (split x b) [ inl d ↦ near_kept g.kept (h.near x d) | inr m ↦ g.near x m ];
  only = λ x d e. elim (g.only x d e)
      [ inl was ↦ h.only x d was | inr fresh ↦ inr (fresh.0, within x fresh.1) ];
}

pub grown_as : (v : ℕ) (done done2 all all2 : ℕ → Type 0) (old new : List (Option ℕ))
    → Grown v done all old new
    → ((y : ℕ) → done2 y → done y) → ((y : ℕ) → all y → all2 y) → Grown v done2 all2 old new
grown_as v done done2 all all2 old new h d a = record {
  lengths = h.lengths;
  kept = h.kept;
  near = λ x w. h.near x (d x w);
  only = λ x e f. elim (h.only x e f)
      [ inl was ↦ inl was | inr fresh ↦ inr (fresh.0, a x fresh.1) ];
}

pub taken_kept : (effects : List (List ℕ)) (v : ℕ) (old new : List (Option ℕ)) (taken : List Bool)
    → ((y d : ℕ) → far old y ≡ Some d → far new y ≡ Some d) → IsTaken effects v old taken
    → IsTaken effects v new taken
taken_kept effects v old new taken kept h =
    record { each = λ j y m w. near_kept kept (h.each j y m w) }

-- one more of the first k + 1 places: below k, or k itself
pub one_more : {P : ℕ → Type 0} (k : ℕ) → ((a : ℕ) × (a < k + 1) × P a) → ((a : ℕ) × (a < k) × P a)
    ⊎ P k
one_more {P = P} k (a, lt, h) = elim (cases_lt a k) [
  | inl low ↦ inl (a, low, h)
  | inr ge ↦ let e : a ≡ k = omega (arith, lt, ge) in inr (subst P e h)
]

pub give_more : (nodes : List ℕ) (k v : ℕ) (old now : List (Option ℕ)) (front : List ℕ)
    → k < length nodes → get_or nodes k 0 < length now → IsFront v now front
    → Grown v (IsOneOf nodes k) (λ y. IsIn y nodes) old now
    → IsFront v (reached now (get_or nodes k 0) v) (noted now front (get_or nodes k 0))
    × Grown v (IsOneOf nodes (k + 1)) (λ y. IsIn y nodes) old (reached now (get_or nodes k 0) v)
give_more nodes k v old now front lt inside f g =
    let x = get_or nodes k 0 in (
      reach_front now front (get_or nodes k 0) v inside f,
      grown_more v (IsOneOf nodes k) (λ y. y ≡ get_or nodes k 0) (IsOneOf nodes (k + 1))
          (λ y. IsIn y nodes) (λ y. y ≡ get_or nodes k 0) old now (reached now (get_or nodes k 0) v)
          g
          (reach_grown now front (get_or nodes k 0) v inside f)
          (λ y w. elim (one_more {P = λ a. get_or nodes a 0 ≡ y} k w)
          [ inl low ↦ inl low | inr here ↦ inr (sym here) ])
          (λ y e. let P : ℕ → Type 0 = λ z. IsIn z nodes in subst P (sym e) (in_place nodes k lt)),
    )

pub one_of_in : (xs : List ℕ) (y : ℕ) → IsIn y xs → IsOneOf xs (length xs) y
one_of_in xs y h = (h.place, h.within, h.stands)

-- after an arrow was taken
pub take_taken : (effects : List (List ℕ)) (v j : ℕ) (old new : List (Option ℕ)) (taken : List Bool)
    → IsTaken effects v old taken
    → Grown v (λ y. IsIn y (row effects j)) (λ y. IsIn y (row effects j)) old new
    → IsTaken effects v new (set taken j true)
take_taken effects v j old new taken h g = record {
  each = λ i y m w. elim (cases_eq i j) [
    | inl e ↦ let P : ℕ → Type 0 = λ z. IsIn y (row effects z) in g.near y (subst P e w)
    | inr ne ↦ near_kept g.kept (h.each i y (sym (get_or-set_other taken j i true false ne) ∙ m) w)
  ];
}

-- an arrow that is taken already
pub skip_taken : (effects : List (List ℕ)) (v j : ℕ) (now : List (Option ℕ)) (taken : List Bool)
    → IsTaken effects v now taken → marked taken j
    → Grown v (λ y. IsIn y (row effects j)) (λ y. IsIn y (row effects j)) now now
skip_taken effects v j now taken h m =
    record {
      lengths = refl;
      kept = λ x d e. e;
      near = λ y w. h.each j y m w;
      only =
          λ x d e. inl e;
    }

-- one more arrow of the node x
pub leave_more : (causes effects uses : List (List ℕ)) (x k v : ℕ) (old now new : List (Option ℕ))
    → IsIndex causes uses → k < length (row uses x)
    → Grown v (IsEffectOf effects (row uses x) k) (Leads causes effects x) old now
    → Grown v (λ y. IsIn y (row effects (get_or (row uses x) k 0)))
    (λ y. IsIn y (row effects (get_or (row uses x) k 0))) now new
    → Grown v (IsEffectOf effects (row uses x) (k + 1)) (Leads causes effects x) old new
leave_more causes effects uses x k v old now new index lt h g =
    grown_more v (IsEffectOf effects (row uses x) k)
    (λ y. IsIn y (row effects (get_or (row uses x) k 0)))
    (IsEffectOf effects (row uses x) (k + 1))
    (Leads causes effects x) (λ y. IsIn y (row effects (get_or (row uses x) k 0))) old now new h g
    (λ y w. one_more {P = λ a. IsIn y (row effects (get_or (row uses x) a 0))} k w)
    (λ y w. record {
      arrow = get_or (row uses x) k 0;
      cause =
          index.from x (get_or (row uses x) k 0) (in_place (row uses x) k lt);
      effect = w;
    })

-- all arrows of the node x
pub leave_all : (causes effects uses : List (List ℕ)) (x v : ℕ) (old new : List (Option ℕ))
    → IsIndex causes uses
    → Grown v (IsEffectOf effects (row uses x) (length (row uses x))) (Leads causes effects x) old
    new
    → Grown v (Leads causes effects x) (Leads causes effects x) old new
leave_all causes effects uses x v old new index h =
    grown_as v (IsEffectOf effects (row uses x) (length (row uses x))) (Leads causes effects x)
    (Leads causes effects x) (Leads causes effects x) old new h
    (λ y l. let used = index.to x l.arrow l.cause in (
      used.place,
      used.within,
      (let P : ℕ → Type 0 = λ z. IsIn y (row effects z) in subst P (sym used.stands) l.effect),
    ))
    (λ y l. l)

-- one more node of the front
pub spread_more : (causes effects : List (List ℕ)) (nodes : List ℕ) (k v : ℕ)
    (old now new : List (Option ℕ)) → k < length nodes
    → Grown v (IsAfter causes effects nodes k) (IsAfter causes effects nodes (length nodes)) old now
    → Grown v (Leads causes effects (get_or nodes k 0)) (Leads causes effects (get_or nodes k 0))
    now new
    → Grown v (IsAfter causes effects nodes (k + 1)) (IsAfter causes effects nodes (length nodes))
    old new
spread_more causes effects nodes k v old now new lt h g =
    grown_more v (IsAfter causes effects nodes k) (Leads causes effects (get_or nodes k 0))
    (IsAfter causes effects nodes (k + 1))
    (IsAfter causes effects nodes (length nodes)) (Leads causes effects (get_or nodes k 0)) old now
    new h g
    (λ y w. one_more {P = λ a. Leads causes effects (get_or nodes a 0) y} k w)
    (λ y w. (k, lt, w))

-- the levels of a search
pub starts_searched : (causes effects : List (List ℕ)) (starts : List ℕ) (old new : List (Option ℕ))
    (front : List ℕ) (taken : List Bool)
    → ((x d : ℕ) → far old x ≡ Some d → ⊥) → ((j : ℕ) → marked taken j → ⊥) → IsFront 0 new front
    → Grown 0 (λ y. IsIn y starts) (λ y. IsIn y starts) old new
    → Searched causes effects starts 0 new front taken
starts_searched causes effects starts old new front taken none untaken f g = record {
  shown = λ x d e. elim (g.only x d e) [
    | inl was ↦ absurd (none x d was)
    | inr fresh ↦ let P : ℕ → Type 0 = λ n. Comes causes effects starts n x in
        subst P (sym fresh.0) (x, fresh.1, refl)
  ];
  begun = g.near;
  front_is = f;
  closed = λ x d y e lt l. absurd (omega (arith, lt));
  taken_is = record { each = λ j y m w. absurd (untaken j m) };
}

-- the next level begins with an empty front
pub next_front : (v : ℕ) (dist : List (Option ℕ)) (front : List ℕ) → IsFront v dist front
    → 0 < length front → IsFront (v + 1) dist []
next_front v dist front f some = record {
  bound = λ x d e. omega (arith, f.bound x d e);
  all = λ x e. absurd (omega (arith, f.bound x (v + 1) e));
  given = λ x w. absurd (omega (arith, w.within));
  room = omega (arith, f.room, some);
}

pub next_taken : (effects : List (List ℕ)) (v : ℕ) (dist : List (Option ℕ)) (taken : List Bool)
    → IsTaken effects v dist taken → IsTaken effects (v + 1) dist taken
next_taken effects v dist taken h =
    record { each = λ j y m w. near_far (omega arith) (h.each j y m w) }

pub next_searched : (causes effects : List (List ℕ)) (starts : List ℕ) (v : ℕ)
    (old new : List (Option ℕ)) (front next : List ℕ) (taken taken2 : List Bool)
    → Searched causes effects starts v old front taken → IsFront (v + 1) new next
    → IsTaken effects (v + 1) new taken2
    → Grown (v + 1) (IsAfter causes effects front (length front))
    (IsAfter causes effects front (length front)) old new
    → Searched causes effects starts (v + 1) new next taken2
next_searched causes effects starts v old new front next taken taken2 h f t g = record {
  shown = λ x d e. elim (g.only x d e) [
    | inl was ↦ h.shown x d was
    | inr fresh ↦ let P : ℕ → Type 0 = λ n. Comes causes effects starts n x in subst P (sym fresh.0)
        (come x fresh.1)
  ];
  begun = λ s w. near_kept g.kept (h.begun s w);
  front_is = f;
  closed = λ x d y e lt l. elim (g.only x d e) [
    | inl was ↦ elim (cases_lt d v) [
      | inl low ↦ near_kept g.kept (h.closed x d y was low l)
      | inr ge ↦ let same : d ≡ v = omega (arith, lt, ge) in
          let P : ℕ → Type 0 = λ n. IsNear new (n + 1) y in subst P (sym same)
          (leave x (let Q : ℕ → Type 0 = λ n. far old x ≡ Some n in subst Q same was) y l)
    ]
    | inr fresh ↦ absurd (omega (arith, lt, fresh.0))
  ];
  taken_is = t;
} where
  come : (x : ℕ) → IsAfter causes effects front (length front) x
      → Comes causes effects starts (v + 1) x
  come x (k, lt, l) = comes_more causes effects starts v (get_or front k 0) x
      (h.shown (get_or front k 0) v (h.front_is.given (get_or front k 0) (in_place front k lt))) l

  leave : (x : ℕ) → far old x ≡ Some v → (y : ℕ) → Leads causes effects x y → IsNear new (v + 1) y
  leave x e y l = let w = h.front_is.all x e in
      g.near y (
        w.place,
        w.within,
        (let P : ℕ → Type 0 = λ z. Leads causes effects z y in subst P (sym w.stands) l),
      )

-- where the front is empty, each way is at least as long as the distance of its end
pub along : (causes effects : List (List ℕ)) (dist : List (Option ℕ))
    → ((x d y : ℕ) → far dist x ≡ Some d → Leads causes effects x y → IsNear dist (d + 1) y)
    → (n m x y : ℕ) → IsNear dist m x → Way causes effects n x y → IsNear dist (m + n) y
along causes effects dist closed zero m x y near w = let P : ℕ
    → Type 0 = λ z. IsNear dist (m + 0) z in subst P w (near_far (omega arith) near)
along causes effects dist closed (suc n) m x y near (z, first, rest) =
    near_far (omega arith) (along causes effects dist closed n (m + 1) z y
    (near_far (omega (arith, near.within)) (closed x near.steps z near.stands first)) rest)

pub all_searched : (causes effects : List (List ℕ)) (starts : List ℕ) (v : ℕ)
    (dist : List (Option ℕ)) (front : List ℕ) (taken : List Bool)
    → Searched causes effects starts v dist front taken → length front ≡ 0
    → AreDistances causes effects starts dist
all_searched causes effects starts v dist front taken h empty = record {
  shown = h.shown;
  least = λ x n w. comes x n w;
} where
  closed : (x d y : ℕ) → far dist x ≡ Some d → Leads causes effects x y → IsNear dist (d + 1) y
  closed x d y e l = elim (cases_lt d v) [
    | inl low ↦ h.closed x d y e low l
    | inr ge ↦ let same : d ≡ v = omega (arith, ge, h.front_is.bound x d e) in
        absurd (let w = h.front_is.all x (let Q : ℕ → Type 0 = λ n. far dist x ≡ Some n in
        subst Q same e) in omega (arith, w.within, empty))
  ]

  comes : (x n : ℕ) → Comes causes effects starts n x → IsNear dist n x
  comes x n (s, start, w) =
      near_far (omega arith) (along causes effects dist closed n 0 s x (h.begun s start) w)

-- a node with a distance is within the list
pub far_within : (dist : List (Option ℕ)) (x d : ℕ) → far dist x ≡ Some d → x < length dist
far_within dist x d e =
    elim (cases_lt x (length dist))
    [ inl lt ↦ lt | inr past ↦ none_some d (get_or-eq_default dist None past) e ]

pub front_below : (v : ℕ) (dist : List (Option ℕ)) (front : List ℕ) → IsFront v dist front → (k : ℕ)
    → k < length front → get_or front k 0 < length dist
front_below v dist front f k lt =
    far_within dist (get_or front k 0) v (f.given (get_or front k 0) (in_place front k lt))

abbrev no_distance : Option ℕ
no_distance = None

pub far_none : (n x d : ℕ) → far (replicate n None) x ≡ Some d → ⊥
far_none n x d e = none_some d (same x (cases_lt x n)) e where
  same : (y : ℕ) → (y < n) ⊎ (n ≤ y) → far (replicate n None) y ≡ None
  same y (inl lt) = get_or-replicate n y None None lt
  same y (inr past) = get_or-eq_default (replicate n None) None
      (omega (arith, past, length-replicate n no_distance))

pub taken_none : (n j : ℕ) → marked (replicate n false) j → ⊥
taken_none n j m = go (cases_lt j n) where
  go : (j < n) ⊎ (n ≤ j) → ⊥
  go (inl lt) = false≢true (sym (get_or-replicate n j false false lt) ∙ m)
  go (inr past) = false≢true
      (sym (get_or-eq_default (replicate n false) false
      (omega (arith, past, length-replicate n false))) ∙ m)

-- before the first start is reached
pub fresh_front : (n : ℕ) → IsFront 0 (replicate n None) []
fresh_front n = record {
  bound = λ x d e. absurd (far_none n x d e);
  all = λ x e. absurd (far_none n x 0 e);
  given = λ x w. absurd (omega (arith, w.within));
  room = omega (arith, count_by-le-length (is_none {T = ℕ}) (replicate n None));
}
