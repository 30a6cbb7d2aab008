-- What a phase finds at the statements so far.
use Rattle.std.proofs.Common.{◌≡◌, ℕ, ◌+◌, ◌<◌, ◌≤◌, ◌++◌, ◌∷◌, [], List, length, get_or, take}
use Rattle.std.proofs.Common.{filter_map, option_to_list, slice_get, Option, Some, None, arith}
use Rattle.std.proofs.Common.{refl, sym, ◌∙◌, ap, subst, below_more, Bool, true, false}
use Rattle.std.proofs.Common.{if◌then◌else◌}
use Rattle.std.specs.List.{cons_option}
use Rattle.std.proofs.lemmas.Option.{same_Some, slice_get_read, slice_get_within}
use Rattle.std.proofs.lemmas.List.{take_more}
use Rattle.std.proofs.lemmas.List.Elements.{filter_map-append}
use Rattle.ev_tree.specs.declared.tree.Statement.{Statement}
use Rattle.ev_tree.specs.Rule.{place_of}
use Rattle.ev_tree.specs.declared.tree.Declared.{Declared}
use Rattle.ev_words.specs.declared.kinds.CheckKind.{CheckKind}
use Rattle.ev_words.specs.declared.kinds.CheckKind.TheVariants.{Twice, Undeclared}
use Rattle.ev_check.specs.Declarations.{events_in, engines_in, is_again, names_undeclared}
use Rattle.ev_check.specs.Declarations.{twice_after, undeclared_among}
use Rattle.ev_check.specs.Faults.{Phase, IsClean, IsFirst, Passes}

-- a phase that found nothing at the first n statements, nor at the next, found nothing at the first
-- n + 1
pub clean_more : (f : Phase) (ss : List Statement) (n : ℕ) (x : Statement) → IsClean f ss n
    → slice_get ss n ≡ Some x → f (take n ss) x ≡ None → IsClean f ss (n + 1)
clean_more f ss n x clean stands none =
    below_more _ _ clean (λ s e. let P : Statement → Type 0 = λ y. f (take n ss) y ≡ None in
    subst P (same_Some x s (sym stands ∙ e)) none)

-- at all of them
pub clean_all : (f : Phase) (ss : List Statement) (n : ℕ) → length ss ≤ n → IsClean f ss n
    → Passes f ss
clean_all f ss n le clean =
    record {
      each = λ j s e. let lt : j < length ss = slice_get_within ss j s e in
          clean j (omega arith) s e;
    }

one_found : {Y : Type 0} (o : Option Y) → cons_option o [] ≡ option_to_list o
one_found None = refl
one_found (Some y) = refl

-- one more statement in a list that keeps what some function finds
pub found_more : {Y : Type 0} (h : Statement → Option Y) (ss : List Statement) (n : ℕ)
    (x : Statement) → n < length ss → x ≡ get_or ss n x
    → filter_map h (take (n + 1) ss) ≡ filter_map h (take n ss) ++ option_to_list (h x)
found_more h ss n x lt is = ap (filter_map h) (take_more ss n x lt)
    ∙ filter_map-append h (take n ss) (get_or ss n x ∷ [])
    ∙ ap (λ y. filter_map h (take n ss) ++ y) (one_found (h (get_or ss n x))
    ∙ ap (λ y. option_to_list (h y)) (sym is))

-- the statement that a loop over statements comes to
pub stands_at : (ss : List Statement) (n : ℕ) (x : Statement) → n < length ss → x ≡ get_or ss n x
    → slice_get ss n ≡ Some x
stands_at ss n x lt is = slice_get_read ss (length ss) n x refl lt is

-- a phase that finds something at a statement, and nothing before
pub found_first : (f : Phase) (ss : List Statement) (n : ℕ) (x : Statement) (place : ℕ)
    (kind : CheckKind) → IsClean f ss n → slice_get ss n ≡ Some x → place ≡ place_of x
    → f (take n ss) x ≡ Some kind → IsFirst f ss place kind
found_first f ss n x place kind clean stands begins found =
    record {
      number = n;
      statement = x;
      stands = stands;
      begins = sym begins;
      found = found;
      first =
          clean;
    }

-- what the second phase finds, by the lists so far
pub again_found : (t : List Statement) (x : Statement) (events engines : List Declared) (b : Bool)
    → events ≡ events_in t → engines ≡ engines_in t → b ≡ is_again events engines x → b ≡ true
    → twice_after t x ≡ Some Twice
again_found t x events engines b e g i h =
    let k : is_again (events_in t) (engines_in t) x ≡ true =
    ap (λ y. is_again y (engines_in t) x) (sym e) ∙ ap (λ y. is_again events y x) (sym g)
    ∙ sym i ∙ h in
    let P : Bool → Type 0 = λ c. (if c then Some Twice else None) ≡ Some Twice in
    subst P (sym k) refl

pub again_none : (t : List Statement) (x : Statement) (events engines : List Declared) (b : Bool)
    → events ≡ events_in t → engines ≡ engines_in t → b ≡ is_again events engines x → b ≡ false
    → twice_after t x ≡ None
again_none t x events engines b e g i h =
    let k : is_again (events_in t) (engines_in t) x ≡ false =
    ap (λ y. is_again y (engines_in t) x) (sym e) ∙ ap (λ y. is_again events y x) (sym g)
    ∙ sym i ∙ h in
    let P : Bool → Type 0 = λ c. (if c then Some Twice else None) ≡ None in
    subst P (sym k) refl

-- what the third phase finds, by the lists of the file
pub lost_found : (ss : List Statement) (x : Statement) (events engines : List Declared) (b : Bool)
    → events ≡ events_in ss → engines ≡ engines_in ss → b ≡ names_undeclared events engines x
    → b ≡ true → undeclared_among (events_in ss) (engines_in ss) x ≡ Some Undeclared
lost_found ss x events engines b e g i h =
    let k : names_undeclared (events_in ss) (engines_in ss) x ≡ true =
    ap (λ y. names_undeclared y (engines_in ss) x) (sym e)
    ∙ ap (λ y. names_undeclared events y x) (sym g) ∙ sym i ∙ h in
    let P : Bool → Type 0 = λ c. (if c then Some Undeclared else None) ≡ Some Undeclared in
    subst P (sym k) refl

pub lost_none : (ss : List Statement) (x : Statement) (events engines : List Declared) (b : Bool)
    → events ≡ events_in ss → engines ≡ engines_in ss → b ≡ names_undeclared events engines x
    → b ≡ false → undeclared_among (events_in ss) (engines_in ss) x ≡ None
lost_none ss x events engines b e g i h =
    let k : names_undeclared (events_in ss) (engines_in ss) x ≡ false =
    ap (λ y. names_undeclared y (engines_in ss) x) (sym e)
    ∙ ap (λ y. names_undeclared events y x) (sym g) ∙ sym i ∙ h in
    let P : Bool → Type 0 = λ c. (if c then Some Undeclared else None) ≡ None in
    subst P (sym k) refl
