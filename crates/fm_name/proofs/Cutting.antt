-- A text that is cut at its first slash.
use Rattle.std.proofs.Common.{◌≡◌, ℕ, ◌<◌, ◌+◌, Bool, false, List, [], ◌∷◌, length, map, refl}
use Rattle.std.proofs.Common.{arith, sym, ◌∙◌, ap, IsTrue, Some, slice_get, drop}
use Rattle.std.specs.Prelude.{◌==◌}
use Rattle.std.specs.declared.cmp.Ordering.TheVariants.{Less, Greater}
use Rattle.std.specs.List.{slice_split, list_all, position_or_len, before_first, after_first}
use Rattle.std.proofs.lemmas.List.Splits.{slice_split_first, length-slice_split}
use Rattle.std.proofs.lemmas.Grind.{common_steps}
use Rattle.std.specs.Prelude.{option_map}
use Rattle.std.proofs.lemmas.Option.{slice_get-map}
use Rattle.fm_name.specs.Path.{PathPart, part_of, parts_of, names_of, instances_of}
use Rattle.fm_name.specs.Order.{parts_cmp, begins_with_parts}

-- where no element passes, the list is the one part
pub split_none : {X : Type 0} (p : X → Bool) (xs : List X) → position_or_len p xs ≡ length xs
    → slice_split p xs ≡ xs ∷ []
split_none p [] e = refl
split_none p (x ∷ xs) e = grind (arith, split_none p xs)

-- the first part ends at the first element that passes
pub cut_some : (p : ℕ → Bool) (text first rest : List ℕ) → first ≡ before_first p text
    → rest ≡ after_first p text
    → position_or_len p text < length text → slice_split p text ≡ first ∷ slice_split p rest
cut_some p text first rest e f h = slice_split_first p text 0 h
    ∙ (ap (λ a. a ∷ slice_split p (after_first p text)) (sym e)
    ∙ ap (λ a. first ∷ slice_split p a) (sym f))

-- there is always a first text
pub some_text : (p : ℕ → Bool) (text : List ℕ) → 0 < length (slice_split p text)
some_text p text = omega (arith, length-slice_split p text)

pub one_text : (xs : List (List ℕ)) (x : List ℕ) → xs ≡ x ∷ [] → length xs ≡ 1
one_text xs x e = ap length e

pub one_more : (xs ys : List (List ℕ)) (x : List ℕ) → xs ≡ x ∷ ys → length xs ≡ length ys + 1
one_more xs ys x e = omega (arith, ap length e)

pub all_left : (p : List ℕ → Bool) (xs ys : List (List ℕ)) (x : List ℕ) → xs ≡ x ∷ ys
    → IsTrue (list_all p xs) → IsTrue (p x) × IsTrue (list_all p ys)
all_left p xs ys x e h = grind (arith, common_steps)

none_below : (f : List ℕ → PathPart) (xs : List (List ℕ)) → 0 < length xs
    → parts_cmp [] (map f xs) ≡ Less
unfolding parts_cmp
none_below f [] h = absurd (omega arith)
none_below f (x ∷ xs) h = refl

none_above : (f : List ℕ → PathPart) (xs : List (List ℕ)) → 0 < length xs
    → parts_cmp (map f xs) [] ≡ Greater
unfolding parts_cmp
none_above f [] h = absurd (omega arith)
none_above f (x ∷ xs) h = refl

none_begins : (f : List ℕ → PathPart) (xs : List (List ℕ)) → 0 < length xs
    → begins_with_parts [] (map f xs) ≡ false
none_begins f [] h = absurd (omega arith)
none_begins f (x ∷ xs) h = refl

-- no parts stand before some parts
pub less_first : (f : List ℕ → PathPart) (text : List ℕ)
    → parts_cmp [] (map f (slice_split (λ b. b == 47) text)) ≡ Less
less_first f text = none_below f _ (some_text _ text)

pub greater_first : (f : List ℕ → PathPart) (text : List ℕ)
    → parts_cmp (map f (slice_split (λ b. b == 47) text)) [] ≡ Greater
greater_first f text = none_above f _ (some_text _ text)

pub not_begun : (f : List ℕ → PathPart) (text : List ℕ)
    → begins_with_parts [] (map f (slice_split (λ b. b == 47) text)) ≡ false
not_begun f text = none_begins f _ (some_text _ text)

pub count_map : {X Y : Type 0} (f : X → Y) (xs : List X) → length (map f xs) ≡ length xs
count_map f [] = refl
count_map f (x ∷ xs) = omega (arith, count_map f xs)

get_map : {X Y : Type 0} (f : X → Y) (xs : List X) (i : ℕ) (x : X) → slice_get xs i ≡ Some x
    → slice_get (map f xs) i ≡ Some (f x)
get_map f xs i x e = slice_get-map f xs i ∙ ap (option_map f) e

-- the name and the instance of the part at a place, from its text
pub name_at : (path tail text name : List ℕ) (at : ℕ)
    → slice_get (slice_split (λ b. b == 47) tail) at ≡ Some text → tail ≡ drop 6 path
    → name ≡ (part_of text).name → slice_get (names_of path) at ≡ Some name
unfolding names_of parts_of
name_at path tail text name at e f g =
    ap (λ t. slice_get (map (λ p. p.name) (map part_of (slice_split (λ b. b == 47) t))) at) (sym f)
    ∙ (get_map (λ p. p.name) (map part_of (slice_split (λ b. b == 47) tail)) at (part_of text)
    (get_map part_of _ at text e) ∙ ap Some (sym g))

pub instance_at : (path tail text : List ℕ) (instance at : ℕ)
    → slice_get (slice_split (λ b. b == 47) tail) at ≡ Some text → tail ≡ drop 6 path
    → instance ≡ (part_of text).instance → slice_get (instances_of path) at ≡ Some instance
unfolding instances_of parts_of
instance_at path tail text instance at e f g =
    ap (λ t. slice_get (map (λ p. p.instance) (map part_of (slice_split (λ b. b == 47) t))) at)
    (sym f)
    ∙ (get_map (λ p. p.instance) (map part_of (slice_split (λ b. b == 47) tail)) at (part_of text)
    (get_map part_of _ at text e) ∙ ap Some (sym g))

-- what reads a part at its place
pub ruleset placed = (count_map, name_at, instance_at)

-- some parts stand behind none
pub ruleset shorter = (less_first, greater_first)
