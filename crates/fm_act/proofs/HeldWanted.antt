-- What an actuator holds in the end: exactly what is wanted of its kind.
use Rattle.std.proofs.Common.{◌≡◌, inl, inr, ℕ, ◌<◌, ◌≤◌, List, [], ◌∷◌, length, Option}
use Rattle.std.proofs.Common.{None, Some}
use Rattle.std.proofs.Common.{Bool, true, false, not, cond, refl, sym, ap, subst, arith}
use Rattle.std.specs.Prelude.{Contains, ◌⊎◌, ◌↔◌, IsTrue, IfSome, OnOk, Result, Ok, Err}
use Rattle.std.specs.List.{filter}
use Rattle.std.specs.BTreeSet.{BTreeSet, contains, difference, IsFromIterResult}
use Rattle.std.proofs.Math.Logic.{⊎_elim}
use Rattle.std.proofs.lemmas.List.Elements.{Contains-append_left}
use Rattle.std.proofs.lemmas.List.Elements.{Contains-append_right, Contains-append_cases}
use Rattle.std.proofs.lemmas.List.Elements.{Contains-push_cases}
use Rattle.std.proofs.lemmas.Map.Views.{btree_set_contains_iff, btree_set_contains_from_list}
use Rattle.std.proofs.lemmas.Bool.{cases_Bool}
use Rattle.fm_name.specs.Order.{path_cmp}
use Rattle.fm_name.specs.OrderLaws.{path_cmp_total, path_tie}
use Rattle.fm_act.specs.Changes.{AddsPaths, TakesPaths}
use Rattle.fm_act.specs.Reconciled.{is_of_kind, BecomesWanted, HoldsWanted}

-- ---- what a filter keeps

none_in_nothing : {X : Type 0} (q : X) → Contains {X = X} [] q → ⊥
none_in_nothing q c = let below : c.0 < 0 = c.1 in omega arith

front_is : {X : Type 0} (x q : X) → Contains (x ∷ []) q → x ≡ q
front_is x q c = ⊎_elim (λ m. absurd (none_in_nothing q m)) (λ e. e) (Contains-push_cases [] x q c)

kept_at : {X : Type 0} (p : X → Bool) (x : X) (xs : List X) (q : X) (b : Bool) → p x ≡ b
    → (Contains (filter p xs) q ↔ (Contains xs q × (p q ≡ true)))
    → Contains (cond b (x ∷ filter p xs) (filter p xs)) q ↔ (Contains (x ∷ xs) q × (p q ≡ true))
kept_at p x xs q true e more = (
  (λ c. ⊎_elim
      (λ m. (Contains-append_left (x ∷ []) xs q m, subst (λ z. p z ≡ true) (front_is x q m) e))
      (λ m. let there = more.0 m in (Contains-append_right (x ∷ []) xs q there.0, there.1))
      (Contains-append_cases (x ∷ []) (filter p xs) q c)),
  (λ both. ⊎_elim
      (λ m. Contains-append_left (x ∷ []) (filter p xs) q m)
      (λ m. Contains-append_right (x ∷ []) (filter p xs) q (more.1 (m, both.1)))
      (Contains-append_cases (x ∷ []) xs q both.0)),
)
kept_at p x xs q false e more = (
  (λ c. let there = more.0 c in (Contains-append_right (x ∷ []) xs q there.0, there.1)),
  (λ both. ⊎_elim
      (λ m. let not_kept : p q ≡ false = subst (λ z. p z ≡ false) (front_is x q m) e in
      let kept : p q ≡ true = both.1 in cc)
      (λ m. more.1 (m, both.1))
      (Contains-append_cases (x ∷ []) xs q both.0)),
)

pub contains_filter : {X : Type 0} (p : X → Bool) (xs : List X) (q : X)
    → Contains (filter p xs) q ↔ (Contains xs q × (p q ≡ true))
contains_filter p [] q = ((λ c. absurd (none_in_nothing q c)), (λ both. both.0))
contains_filter p (x ∷ xs) q = kept_at p x xs q (p x) refl (contains_filter p xs q)

-- ---- what is held

-- What is wanted of a kind, what is listed, and the sets of both.
pub record IsReady (kind : List ℕ) (wanted listed : List (List ℕ)) (wants holds : BTreeSet (List ℕ))
    : Type 0 where
  pub has_wanted : IsFromIterResult path_cmp (filter (is_of_kind kind) wanted) wants
  pub has_listed : IsFromIterResult path_cmp listed holds

-- a path is in the one set and not in the other
apart : (s t : BTreeSet (List ℕ)) (q : List ℕ) → Contains (difference path_cmp s t) q
    ↔ (IsTrue (contains path_cmp s q) × (not (contains path_cmp t q) ≡ true))
apart s t q =
    let kept = contains_filter (λ k. not (contains path_cmp t k)) s.keys q in
    let is = btree_set_contains_iff path_cmp_total path_tie s q in (
      (λ c. let there = kept.0 c in (is.1 there.0, there.1)),
      (λ both. kept.1 (is.0 both.0, both.1)),
    )

not_both : (b : Bool) → b ≡ true → not b ≡ true → ⊥
not_both true e f = cc
not_both false e f = cc

neither : (b : Bool) → (not b ≡ true → ⊥) → b ≡ true
neither true h = refl
neither false h = absurd (h refl)

holds_wanted : (kind : List ℕ) (wanted listed : List (List ℕ)) (wants holds : BTreeSet (List ℕ))
    (ys zs : List (List ℕ)) → IsReady kind wanted listed wants holds
    → TakesPaths (difference path_cmp holds wants) (Some listed) (Some ys)
    → AddsPaths (difference path_cmp wants holds) (Some ys) (Some zs)
    → HoldsWanted kind wanted zs
holds_wanted kind wanted listed wants holds ys zs ready takes adds = λ q.
    let mine = btree_set_contains_from_list path_cmp_total path_tie
    (filter (is_of_kind kind) wanted) wants ready.has_wanted q in
    let there = btree_set_contains_from_list path_cmp_total path_tie listed holds
    ready.has_listed q in
    let others = apart holds wants q in
    let missing = apart wants holds q in
    let wish = contains_filter (is_of_kind kind) wanted q in (
      (λ c. ⊎_elim
          (λ m. wish.0 (mine.0 (missing.0 m).0))
          (λ m. let left = (takes q).0 m in
          wish.0 (mine.0 (neither (contains path_cmp wants q)
          (λ n. left.0 (others.1 (there.1 left.1, n))))))
          ((adds q).0 c)),
      (λ both. (adds q).1 (elim (cases_Bool (contains path_cmp holds q)) [
        | inl e ↦ inr ((takes q).1 (
          (λ m. not_both (contains path_cmp wants q) (mine.1 (wish.1 both)) (others.0 m).1),
          there.0 e,
        ))
        | inr e ↦ inl (missing.1 (mine.1 (wish.1 both), ap not e))
      ])),
    )

pub settled_is : (kind : List ℕ) (wanted listed others missing : List (List ℕ))
    (wants holds : BTreeSet (List ℕ)) (a b c : Option (List (List ℕ)))
    → IsFromIterResult path_cmp (filter (is_of_kind kind) wanted) wants
    → IsFromIterResult path_cmp listed holds
    → IfSome a (λ xs. length xs ≤ 65536 → listed ≡ xs)
    → others ≡ difference path_cmp holds wants → missing ≡ difference path_cmp wants holds
    → TakesPaths others a b → AddsPaths missing b c → BecomesWanted kind wanted a c
settled_is kind wanted listed others missing wants holds None b c w h told e f takes adds = tt
settled_is kind wanted listed others missing wants holds (Some xs) None c w h told e f takes adds =
    absurd takes
settled_is kind wanted listed others missing wants holds (Some xs) (Some ys) None w h told e f
    takes adds = absurd adds
settled_is kind wanted listed others missing wants holds (Some xs) (Some ys) (Some zs) w h told
    e f takes adds = λ few. holds_wanted kind wanted listed wants holds ys zs
    (record { has_wanted = w; has_listed = h })
    (subst (λ z. TakesPaths z (Some listed) (Some ys)) e
    (subst (λ z. TakesPaths others (Some z) (Some ys)) (sym (told few)) takes))
    (subst (λ z. AddsPaths z (Some ys) (Some zs)) f adds)

pub on_ok_so : {T E P Q : Type 0} (r : Result T E) → (P → Q) → OnOk r P → OnOk r Q
on_ok_so (Ok value) f p = f p
on_ok_so (Err fault) f p = p
