-- The roots that explain a case are listed in order, each once.
use Rattle.std.proofs.Common.{◌≡◌, ◌<◌, ◌&&◌, ◌++◌, ℕ, zero, suc, Bool, true, List, []}
use Rattle.std.proofs.Common.{◌∷◌, length, slice_get, refl, sym, ap, subst, ◌∙◌, inl, inr}
use Rattle.std.proofs.Common.{arith}
use Rattle.std.specs.List.{filter}
use Rattle.std.proofs.lemmas.Bool.{cases_Bool, cases_eq, and_parts, and_from}
use Rattle.std.proofs.lemmas.Bool.{false≢true}
use Rattle.std.proofs.lemmas.Bool.{cond-true, cond-false}
use Rattle.std.proofs.lemmas.List.Elements.{filter-append}
use Rattle.ev_incidence.specs.Sets.{is_member, ascends}
use Rattle.ev_graph.specs.Kinds.{has_kind}
use Rattle.ev_graph.specs.Lawful.{GraphValue, IsGraph}
use Rattle.ev_graph.specs.declared.nodes.NodeKind.{NodeKind}
use Rattle.ev_incidence.proofs.Occurrences.{in_filter, filter_in, in_more, in_last, in_push}
use Rattle.dx_explain.specs.Laws.{Explains}
use Rattle.fm_core.specs.Meaning.{OpenCase}
use Rattle.dx_explain.specs.Search.{numbers_below}
use Rattle.dx_explain.specs.Stories.{explains}
use Rattle.dx_explain.specs.Cases.{cuts_of, blamed}
use Rattle.dx_explain.specs.CaseLaws.{BlamedIs, BlamedAscends}
use Rattle.ev_graph.proofs.KindBelow.{kind_below}
use Rattle.dx_explain.proofs.Meaning.{explaining}
use Rattle.dx_explain.proofs.Listed.{ascends_push}

append_nil : (xs : List ℕ) → xs ++ [] ≡ xs
append_nil [] = refl
append_nil (x ∷ xs) = ap (λ (zs : List ℕ). x ∷ zs) (append_nil xs)

number_in : (n e : ℕ) → e < n → is_member (numbers_below n) e ≡ true
unfolding numbers_below
number_in zero e l = absurd (omega (arith, l))
number_in (suc n) e l = elim (cases_eq e n) [
  | inl same ↦
      let P : ℕ → Type 0 = λ x. is_member (numbers_below n ++ n ∷ []) x ≡ true in
      subst P (sym same) (in_last (numbers_below n) n)
  | inr ne ↦ in_more (numbers_below n) (n ∷ []) e (number_in n e (omega (arith, l, ne)))
]

in_number : (n e : ℕ) → is_member (numbers_below n) e ≡ true → e < n
unfolding numbers_below
in_number zero e i = absurd (false≢true i)
in_number (suc n) e i = elim (in_push (numbers_below n) n e i) [
  | inl old ↦ omega (arith, in_number n e old)
  | inr last ↦ omega (arith, last)
]

-- those of them that pass a test ascend
below_ascends : (p : ℕ → Bool) (n : ℕ) → ascends (filter p (numbers_below n)) ≡ true
unfolding numbers_below
below_ascends p zero = refl
below_ascends p (suc n) =
    let old = filter p (numbers_below n) in
    ap ascends (filter-append p (numbers_below n) (n ∷ [])) ∙ elim (cases_Bool (p n)) [
      | inl here ↦
          ap (λ (xs : List ℕ). ascends (old ++ xs))
          (cond-true {A = List ℕ} (p n) (n ∷ []) [] here)
          ∙ ascends_push old n (below_ascends p n)
          (λ e i. in_number n e (filter_in p e (numbers_below n) i).1)
      | inr away ↦
          ap (λ (xs : List ℕ). ascends (old ++ xs))
          (cond-false {A = List ℕ} (p n) (n ∷ []) [] away)
          ∙ (ap ascends (append_nil old) ∙ below_ascends p n)
    ]

module _ (kind : NodeKind → Bool) (g : GraphValue) (c : OpenCase) where
  abbrev is_blamed : ℕ → Bool
  is_blamed e = has_kind kind (slice_get g.nodes e) && explains g (cuts_of c) c.observed e

  pub blamed_ascends : ascends (blamed kind g c) ≡ true
  unfolding blamed
  blamed_ascends = below_ascends is_blamed (length g.nodes)

  pub blamed_from : (e : ℕ) → IsGraph g → is_member (blamed kind g c) e ≡ true
      → (has_kind kind (slice_get g.nodes e) ≡ true)
      × Explains g (cuts_of c) e (is_member c.observed)
  unfolding blamed
  blamed_from e graph i =
      let p = filter_in is_blamed e (numbers_below (length g.nodes)) i in
      let q = and_parts (has_kind kind (slice_get g.nodes e))
      (explains g (cuts_of c) c.observed e) p.0 in
      (q.0, (explaining g (cuts_of c) c.observed e graph).0 q.1)

  pub in_blamed : (e : ℕ) → IsGraph g → has_kind kind (slice_get g.nodes e) ≡ true
      → Explains g (cuts_of c) e (is_member c.observed) → is_member (blamed kind g c) e ≡ true
  unfolding blamed
  in_blamed e graph k x =
      in_filter is_blamed e (numbers_below (length g.nodes))
      (and_from (has_kind kind (slice_get g.nodes e)) (explains g (cuts_of c) c.observed e) k
      ((explaining g (cuts_of c) c.observed e graph).1 x))
      (number_in (length g.nodes) e (kind_below kind g.nodes e k))

pub blame : BlamedIs
blame kind g c e graph =
    (blamed_from kind g c e graph, λ both. in_blamed kind g c e graph both.0 both.1)

pub blame_ascends : BlamedAscends
blame_ascends kind g c = blamed_ascends kind g c
