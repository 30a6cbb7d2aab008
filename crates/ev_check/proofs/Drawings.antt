-- The arrows that propagations draw, and what they lead to.
use Rattle.std.proofs.Common.{◌≡◌, ℕ, ◌+◌, ◌<◌, inl, inr, ◌++◌, ◌∷◌, [], List, length, get_or, take}
use Rattle.std.proofs.Common.{filter_map, option_to_list, slice_index, Option, Some, None, arith}
use Rattle.std.proofs.Common.{refl, sym, ◌∙◌, ap, subst, suc}
use Rattle.std.specs.List.{cons_option}
use Rattle.ev_ways.specs.Lists.{AllBelow, IsIn, RowsBelow, row}
use Rattle.ev_ways.specs.Ways.{Leads}
use Rattle.ev_ways.specs.Cycle.{IsFirstCycle}
use Rattle.ev_ways.proofs.Membership.{in_either, in_place}
use Rattle.std.proofs.lemmas.List.{take_more}
use Rattle.std.proofs.lemmas.List.Elements.{filter_map-append}
use Rattle.ev_tree.specs.declared.tree.Statement.{Statement}
use Rattle.ev_tree.specs.declared.tree.Statement.TheVariants as statements
use Rattle.ev_check.specs.Declarations.{event_in}
use Rattle.ev_check.specs.Faults.{event_place}

-- a member of a list of small numbers is small
pub below_in : (n x : ℕ) (xs : List ℕ) → AllBelow n xs → IsIn x xs → x < n
below_in n x xs below member = let P : ℕ → Type 0 = λ y. y < n in
    subst P member.stands (below member.place member.within)

-- one more small number
pub below_push : (n x : ℕ) (xs : List ℕ) → AllBelow n xs → x < n → AllBelow n (xs ++ x ∷ [])
below_push n x xs below lt =
    λ k within. elim (in_either xs x (in_place (xs ++ x ∷ []) k within)) [
      | inl member ↦ below_in n (get_or (xs ++ x ∷ []) k 0) xs below member
      | inr same ↦
          (let P : ℕ → Type 0 = λ y. y < n in subst P (sym same) lt)
    ]

-- one more element in a list that keeps what some function finds
one_given : {Y : Type 0} (o : Option Y) → cons_option o [] ≡ option_to_list o
one_given None = refl
one_given (Some y) = refl

pub given_more : {X Y : Type 0} (h : X → Option Y) (xs : List X) (n : ℕ) (x : X) → n < length xs
    → x ≡ get_or xs n x
    → filter_map h (take (n + 1) xs) ≡ filter_map h (take n xs) ++ option_to_list (h x)
given_more h xs n x lt is = ap (filter_map h) (take_more xs n x lt)
    ∙ filter_map-append h (take n xs) (get_or xs n x ∷ [])
    ∙ ap (λ y. filter_map h (take n xs) ++ y) (one_given (h (get_or xs n x))
    ∙ ap (λ y. option_to_list (h y)) (sym is))

-- there are as many places of event statements as events
pub places_length : (ss : List Statement)
    → length (filter_map event_place ss) ≡ length (filter_map event_in ss)
places_length [] = refl
places_length (statements.Event at event attrs ∷ ss) = ap suc (places_length ss)
places_length (statements.Engine at engine attrs ∷ ss) = places_length ss
places_length (statements.Prop at left n k right ∷ ss) = places_length ss

-- what leads to something is a node
pub leads_below : (n x y : ℕ) (causes effects : List (List ℕ)) → RowsBelow n causes
    → Leads causes effects x y → x < n
leads_below n x y causes effects below leads =
    below_in n x (row causes leads.arrow) (below leads.arrow) leads.cause

-- the first member of a cycle is a node
pub first_below : (n : ℕ) (causes effects : List (List ℕ)) (members : List ℕ) → RowsBelow n causes
    → IsFirstCycle causes effects members → slice_index members 0 < n
first_below n causes effects [] below cycle =
    absurd (let e : 0 < 0 = cycle.ring.some in omega arith)
first_below n causes effects (x ∷ []) below cycle =
    leads_below n _ _ causes effects below (cycle.ring.back 0 (omega arith))
first_below n causes effects (x ∷ (y ∷ more)) below cycle =
    leads_below n _ _ causes effects below (cycle.ring.next 0 (omega arith))
