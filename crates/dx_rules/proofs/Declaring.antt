-- Classes in a set are those of its keys.
use Rattle.std.proofs.Common.{◌≡◌, ◌||◌, ℕ, Bool, true, false, cond, List, bytes_eq, refl, sym, ◌∙◌}
use Rattle.std.specs.BTreeSet.{BTreeSet, Updates, contains}
use Rattle.std.specs.Cmp.Lexicographic.{slice_cmp}
use Rattle.std.specs.List.{list_any}
use Rattle.std.specs.Ordering.{nat_cmp}
use Rattle.std.proofs.lemmas.Map.Text.{is_eq-slice_cmp}
use Rattle.dx_rules.specs.Classes.{is_class_among}

-- a set has a class just where it is one of its keys
pub found_is : (set : BTreeSet (List ℕ)) (class : List ℕ)
    → contains (slice_cmp nat_cmp) set class ≡ is_class_among set.keys class
found_is set class = λ i. list_any (λ key. is_eq-slice_cmp class key i) set.keys

cond_or : (a b : Bool) → cond a true b ≡ (b || a)
cond_or true true = refl
cond_or true false = refl
cond_or false true = refl
cond_or false false = refl

-- a class more
pub class_added : (old new : BTreeSet (List ℕ)) (added : List ℕ)
    → Updates (slice_cmp nat_cmp) old new added true → (class : List ℕ)
    → is_class_among new.keys class ≡ (is_class_among old.keys class || bytes_eq added class)
class_added old new added h class =
    sym (found_is new class) ∙ h.0 class
    ∙ (λ i. cond (is_eq-slice_cmp added class i) true (found_is old class i))
    ∙ cond_or (bytes_eq added class) (is_class_among old.keys class)
