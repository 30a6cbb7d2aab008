-- What was made so far, and what is made of the rest, is all.
use Rattle.std.proofs.Common.{◌≡◌, ℕ, suc, ◌+◌, ◌<◌, ◌≤◌, List, [], ◌∷◌, ◌++◌, length, map}
use Rattle.std.proofs.Common.{drop}
use Rattle.std.proofs.Common.{get_or, refl, sym, ap, ◌∙◌, arith, append_assoc, drop-cons, add-one}
use Rattle.std.proofs.Common.{Option}
use Rattle.std.proofs.Common.{Some, None, slice_get}
use Rattle.std.proofs.Common.{IsTrue, nat_lt, append-nil, false}
use Rattle.std.proofs.lemmas.Bool.Decides.{nat_tests}
use Rattle.std.specs.List.{cons_option, list_all}
use Rattle.std.proofs.lemmas.Bool.{ltb-true}
use Rattle.std.proofs.lemmas.List.{length-map}
use Rattle.std.proofs.lemmas.List.Sums.{AllPass-from_list_all}
use Rattle.fm_entry.specs.declared.suspect.Suspect.{Suspect}
use Rattle.ev_graph.specs.Lawful.{GraphValue}
use Rattle.ev_graph.specs.declared.nodes.Node.{Node}
use Rattle.dx_step.specs.Said.{nodes_of, failures_of, suspect_at, suspects_with}
use Rattle.dx_step.proofs.Names.{found, nodes_many}
use Rattle.dx_said.specs.Making.{node_at}

made_first : {A : Type 0} (f : Node → A) (o : Option Node) (rest : List Node)
    → map f (cons_option o rest) ≡ map f (cons_option o []) ++ map f rest
made_first f None rest = refl
made_first f (Some node) rest = refl

-- one more node
pub made_more : {A : Type 0} (f : Node → A) (g : GraphValue) (numbers : List ℕ) (at d : ℕ)
    (was now : List A) (all : List A) → at < length numbers
    → was ++ map f (nodes_of g (drop at numbers)) ≡ all
    → now ≡ was ++ map f (node_at g.nodes (get_or numbers at d))
    → now ++ map f (nodes_of g (drop (at + 1) numbers)) ≡ all
made_more f g numbers at d was now all low h more =
    let e = get_or numbers at d in
    let rest = nodes_of g (drop (at + 1) numbers) in
    ap (λ xs. xs ++ map f rest) more
    ∙ append_assoc was (map f (node_at g.nodes e)) (map f rest)
    ∙ ap (λ xs. was ++ xs) (sym (made_first f (slice_get g.nodes e) rest))
    ∙ ap (λ n. was ++ map f (cons_option (slice_get g.nodes e) (nodes_of g (drop n numbers))))
    (add-one at)
    ∙ ap (λ xs. was ++ map f (nodes_of g xs)) (sym (drop-cons numbers at d low))
    ∙ h

-- where there is no node of the number, nothing is made
pub none_made : {A : Type 0} (f : Node → A) (nodes : List Node) (e : ℕ) (xs : List A)
    → slice_get nodes e ≡ None → xs ≡ xs ++ map f (node_at nodes e)
none_made f nodes e xs h =
    sym (ap (λ o. xs ++ map f (cons_option o [])) h ∙ append-nil xs)

-- one more suspect with its certainty
pub suspects_more : (g : GraphValue) (numbers certainties : List ℕ) (at : ℕ)
    (was now all : List Suspect) → at < length numbers → at < length certainties
    → IsTrue (list_all (λ e. nat_lt e (length g.nodes)) numbers)
    → was ++ suspects_with (nodes_of g (drop at numbers)) (drop at certainties) ≡ all
    → now ≡ was ++ map (λ n. suspect_at n (get_or certainties at 0))
    (node_at g.nodes (get_or numbers at 0))
    → now ++ suspects_with (nodes_of g (drop (at + 1) numbers)) (drop (at + 1) certainties) ≡ all
suspects_more g numbers certainties at was now all low many below h more =
    let e = get_or numbers at 0 in
    let p = get_or certainties at 0 in
    let inside = AllPass-from_list_all (λ e. nat_lt e (length g.nodes)) numbers below at 0 low in
    let one = found g.nodes e (ltb-true e (length g.nodes) inside) in
    let rest = nodes_of g (drop (suc at) numbers) in
    let here : node_at g.nodes e ≡ one.node ∷ [] =
    ap (λ o. cons_option o []) one.stands in
    let nodes : nodes_of g (drop at numbers) ≡ one.node ∷ rest =
    ap (nodes_of g) (drop-cons numbers at 0 low)
    ∙ ap (λ o. cons_option o rest) one.stands in
    let split : suspects_with (nodes_of g (drop at numbers)) (drop at certainties)
    ≡ suspect_at one.node p ∷ suspects_with rest (drop (suc at) certainties) =
    (λ i. suspects_with (nodes i) (drop-cons certainties at 0 many i)) in
    ap (λ xs. xs ++ suspects_with (nodes_of g (drop (at + 1) numbers)) (drop (at + 1) certainties))
    (more ∙ ap (λ ns. was ++ map (λ n. suspect_at n p) ns) here)
    ∙ append_assoc was (suspect_at one.node p ∷ [])
    (suspects_with (nodes_of g (drop (at + 1) numbers)) (drop (at + 1) certainties))
    ∙ ap (λ n. was ++ suspect_at one.node p
    ∷ suspects_with (nodes_of g (drop n numbers)) (drop n certainties)) (add-one at)
    ∙ ap (λ xs. was ++ xs) (sym split) ∙ h

-- the marks that were given so far, and one more
pub marks_more : (f : Suspect → Suspect) (ss : List Suspect) (at : ℕ) (d : Suspect)
    (was now all : List Suspect) → at < length ss → was ++ map f (drop at ss) ≡ all
    → now ≡ was ++ f (get_or ss at d) ∷ [] → now ++ map f (drop (at + 1) ss) ≡ all
marks_more f ss at d was now all low h more =
    ap (λ xs. xs ++ map f (drop (at + 1) ss)) more
    ∙ append_assoc was (f (get_or ss at d) ∷ []) (map f (drop (at + 1) ss))
    ∙ ap (λ n. was ++ f (get_or ss at d) ∷ map f (drop n ss)) (add-one at)
    ∙ ap (λ xs. was ++ map f xs) (sym (drop-cons ss at d low)) ∙ h

-- certainties of nodes are as many as their numbers
pub rates_many : (g : GraphValue) (numbers : List ℕ)
    → IsTrue (list_all (λ e. nat_lt e (length g.nodes)) numbers)
    → length (map (λ n. failures_of n.kind) (nodes_of g numbers)) ≡ length numbers
rates_many g numbers below =
    length-map (nodes_of g numbers) (λ n. failures_of n.kind) ∙ nodes_many g numbers below

-- a place that is not before the end is past it
pub past_end : (i n : ℕ) → false ≡ nat_lt i n → n ≤ i
past_end i n h = grind (arith, nat_tests)
