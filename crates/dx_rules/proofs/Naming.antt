-- The report of a name is the only one.
use Rattle.std.proofs.Common.{◌≡◌, ℕ, zero, suc, ◌+◌, ◌<◌, Bool, true, false, not, List, []}
use Rattle.std.proofs.Common.{◌∷◌, length, refl, sym, ap, ◌∙◌, arith, inl, inr, Option, Some}
use Rattle.std.proofs.Common.{None, slice_get, cond, nat_lt, IsTrue}
use Rattle.std.specs.Prelude.{position}
use Rattle.std.specs.List.{position_or_len}
use Rattle.std.specs.Ordering.{is_eq, is_lt}
use Rattle.std.specs.declared.cmp.Ordering.{Ordering}
use Rattle.std.specs.declared.cmp.Ordering.TheVariants.{Less, Equal, Greater}
use Rattle.std.specs.Cmp.{tied_itself}
use Rattle.std.proofs.lemmas.Bool.{false≢true, lt-ltb, and_parts, cases_lt}
use Rattle.std.proofs.lemmas.Bool.Decides.{nat_tests}
use Rattle.fm_name.specs.Events.{event_cmp, event_eq, event_cmp_total, event_cmp_ties, event_tie}
use Rattle.fm_name.specs.declared.events.EventName.{EventName}
use Rattle.ev_incidence.specs.Sets.{ascends_by}
use Rattle.ev_graph.specs.Kinds.{is_report_kind}
use Rattle.ev_graph.specs.Lawful.{GraphValue, IsGraph, is_before_node}
use Rattle.ev_graph.specs.declared.nodes.Node.{Node}
use Rattle.dx_step.proofs.Names.{in_order}
use Rattle.dx_step.specs.Reports.{report_named}
use Rattle.dx_rules.specs.ReportIndex.{is_report_of}

-- the number is that of a report of the name; there is none where no node is one
abbrev pub IsReportNamed : List Node → EventName → Option ℕ → Type 0
IsReportNamed nodes name None = (at : ℕ) → is_report_of name (slice_get nodes at) ≡ true → ⊥
IsReportNamed nodes name (Some at) = is_report_of name (slice_get nodes at) ≡ true

-- the place of the only item that passes a test
none_pass : {X : Type 0} (p : X → Bool) (xs : List X)
    → ((i : ℕ) (x : X) → slice_get xs i ≡ Some x → p x ≡ true → ⊥)
    → position_or_len p xs ≡ length xs
none_pass p [] h = refl
none_pass p (x ∷ xs) h =
    let rest = none_pass p xs (λ i y e t. h (suc i) y e t) in
    elim (p x) as (λ (b : Bool). p x ≡ b
    → cond (not b) (1 + position_or_len p xs) 0 ≡ length (x ∷ xs)) [
      | true ↦ λ is. absurd (h 0 x refl is)
      | false ↦ λ is. omega (arith, rest)
    ] refl

one_passes : {X : Type 0} (p : X → Bool) (xs : List X) (at : ℕ) (x : X)
    → slice_get xs at ≡ Some x → p x ≡ true
    → ((i : ℕ) (y : X) → slice_get xs i ≡ Some y → p y ≡ true → i ≡ at)
    → position_or_len p xs ≡ at
one_passes p [] at x e t u = absurd (let never : ⊥ = cc in never)
one_passes p (y ∷ ys) zero x e t u =
    let same : y ≡ x = cc in
    ap (λ (c : Bool). cond (not c) (1 + position_or_len p ys) 0) (ap p same ∙ t)
one_passes p (y ∷ ys) (suc at) x e t u =
    let rest = one_passes p ys at x e t (λ i z f v. let l = u (suc i) z f v in omega (arith, l)) in
    elim (p y) as (λ (c : Bool). p y ≡ c
    → cond (not c) (1 + position_or_len p ys) 0 ≡ suc at) [
      | true ↦ λ is. let l = u 0 y refl is in absurd (let never : ⊥ = omega (arith, l) in never)
      | false ↦ λ is. omega (arith, rest)
    ] refl

low_at : {X : Type 0} (xs : List X) (i : ℕ) (x : X) → slice_get xs i ≡ Some x → i < length xs
low_at [] i x e = absurd (let never : ⊥ = cc in never)
low_at (y ∷ ys) zero x e = omega arith
low_at (y ∷ ys) (suc i) x e = let l = low_at ys i x e in omega (arith, l)

place_past : {X : Type 0} (p : X → Bool) (xs : List X) → position_or_len p xs ≡ length xs
    → position p xs ≡ None
place_past p xs h =
    let low : nat_lt (length xs) (length xs) ≡ false = grind (arith, nat_tests) in
    ap (λ n. cond (nat_lt n (length xs)) (Some n) None) h
    ∙ ap (λ (b : Bool). cond b (Some (length xs)) None) low

place_at : {X : Type 0} (p : X → Bool) (xs : List X) (at : ℕ) → position_or_len p xs ≡ at
    → at < length xs → position p xs ≡ Some at
place_at p xs at h l =
    ap (λ n. cond (nat_lt n (length xs)) (Some n) None) h
    ∙ ap (λ (b : Bool). cond b (Some at) None) (lt-ltb at (length xs) l)

-- equal names
eq_is : (o : Ordering) → is_eq o ≡ true → o ≡ Equal
eq_is Less h = absurd (false≢true h)
eq_is Equal h = refl
eq_is Greater h = absurd (false≢true h)

is_one : (x y : EventName) → event_eq x y ≡ true → x ≡ y
is_one x y h = event_tie x y (eq_is (event_cmp x y) (sym (event_cmp_ties x y) ∙ h))

not_before : (x y : EventName) → x ≡ y → is_lt (event_cmp x y) ≡ true → ⊥
not_before x y e h =
    false≢true (sym (ap is_lt (ap (λ z. event_cmp z y) e ∙ tied_itself event_cmp_total y)) ∙ h)

same_place : (nodes : List Node) (i j : ℕ) (a b : Node) → IsTrue (ascends_by is_before_node nodes)
    → slice_get nodes i ≡ Some a → slice_get nodes j ≡ Some b → a.name ≡ b.name → i ≡ j
same_place nodes i j a b up e f same =
    elim (cases_lt i j) [
      | inl low ↦ absurd (not_before a.name b.name same (in_order nodes i j a b up low e f))
      | inr high ↦ elim (cases_lt j i) [
        | inl low ↦
            absurd (not_before b.name a.name (sym same) (in_order nodes j i b a up low f e))
        | inr other ↦ omega (arith, high, other)
      ]
    ]

pub name_of : (name : EventName) (node : Node) → is_report_of name (Some node) ≡ true
    → node.name ≡ name
name_of name node h =
    is_one node.name name (and_parts (is_report_kind node.kind) (event_eq node.name name) h).1

-- the report of the name is the only one
pub report_found : (g : GraphValue) (name : EventName) (o : Option ℕ) → IsGraph g
    → IsReportNamed g.nodes name o → o ≡ report_named g name
report_found g name None graph h =
    sym (place_past (λ node. is_report_of name (Some node)) g.nodes
    (none_pass (λ node. is_report_of name (Some node)) g.nodes
    (λ i n e t. h i (ap (is_report_of name) e ∙ t))))
report_found g name (Some at) graph h =
    let up = (and_parts (ascends_by is_before_node g.nodes) _
    graph.counted.kindred.numbered.sorted.ascending).0 in
    let test = λ (node : Node). is_report_of name (Some node) in
    elim (slice_get g.nodes at) as (λ (o : Option Node). slice_get g.nodes at ≡ o
    → is_report_of name o ≡ true → Some at ≡ report_named g name) [
      | None ↦ λ is f. absurd (false≢true f)
      | Some n ↦ λ is f. sym (place_at test g.nodes at
          (one_passes test g.nodes at n is f
          (λ i m e t. same_place g.nodes i at m n up e is
          (name_of name m t ∙ sym (name_of name n f))))
          (low_at g.nodes at n is))
    ] refl h
