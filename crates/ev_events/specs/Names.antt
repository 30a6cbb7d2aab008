-- The vertical iterators of a propagation, in order of first appearance.
use Rattle.std.specs.Prelude.{◌≡◌, ℕ, true, List, [], ◌∷◌, ◌++◌, Option, Some, None, fold}
use Rattle.std.specs.Prelude.{slice_get}
use Rattle.std.specs.Prelude.{if◌then◌else◌}
use Rattle.std.specs.List.{list_any}
use Rattle.ev_tree.specs.Pattern.{Pattern}
use Rattle.ev_tree.specs.declared.tree.At.{At}
use Rattle.ev_tree.specs.declared.tree.At.TheVariants as ats
use Rattle.ev_tree.specs.declared.tree.Part.{Part}
use Rattle.ev_check.specs.CheckedFile.{Linking}
use Rattle.ev_words.specs.Iterators.{same_name}

-- the vertical iterator of a part, where it has one: that in brackets, or the name itself
abbrev pub iterator_at : List ℕ → At → Option (List ℕ)
iterator_at name ats.Bare = Some name
iterator_at name (ats.Down v) = Some v
iterator_at name _ = None

abbrev pub iterator_of : Part → Option (List ℕ)
iterator_of p = iterator_at p.name p.at

-- names with one more behind them, where it is none of them
abbrev pub with_name : List (List ℕ) → List ℕ → List (List ℕ)
with_name names v = if list_any (same_name v) names then names else names ++ v ∷ []

abbrev pub with_any : List (List ℕ) → Option (List ℕ) → List (List ℕ)
with_any names None = names
with_any names (Some v) = with_name names v

-- names with the vertical iterators of parts, and of patterns
abbrev pub with_parts : List (List ℕ) → List Part → List (List ℕ)
with_parts names parts = fold (λ vs p. with_any vs (iterator_of p)) names parts

abbrev pub with_patterns : List (List ℕ) → List Pattern → List (List ℕ)
with_patterns names qs = fold (λ vs q. with_parts vs q.parts) names qs

-- the vertical iterators of a propagation. A binding is a list with an instance for each of them.
abbrev pub iterators : Linking → List (List ℕ)
iterators l = with_patterns (with_patterns [] l.left) l.right

-- each vertical iterator of parts is one of these names
pub record Knows (names : List (List ℕ)) (parts : List Part) : Type 0 where
  pub each : (i : ℕ) (p : Part) (v : List ℕ) → slice_get parts i ≡ Some p → iterator_of p ≡ Some v
      → list_any (same_name v) names ≡ true

-- these are names of all vertical iterators of a propagation
pub record KnowSides (names : List (List ℕ)) (l : Linking) : Type 0 where
  pub left : (j : ℕ) (q : Pattern) → slice_get l.left j ≡ Some q → Knows names q.parts
  pub right : (j : ℕ) (q : Pattern) → slice_get l.right j ≡ Some q → Knows names q.parts
