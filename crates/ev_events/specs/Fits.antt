-- The paths that fit a pattern under a binding.
use Rattle.std.specs.Prelude.{ℕ, suc, Bool, false, ◌==◌, ◌&&◌, List, [], ◌∷◌, zip, map}
use Rattle.std.specs.Prelude.{Option, Some, None, option_and_then, slice_get, position}
use Rattle.std.specs.Prelude.{if◌then◌else◌}
use Rattle.std.specs.List.{list_all}
use Rattle.std.specs.Cmp.Lexicographic.{pointwise}
use Rattle.fm_name.specs.Path.{names_of, instances_of}
use Rattle.fm_topo.specs.Topology.{Topology}
use Rattle.ev_tree.specs.declared.tree.At.{At}
use Rattle.ev_tree.specs.declared.tree.At.TheVariants as ats
use Rattle.ev_tree.specs.declared.tree.Part.{Part}
use Rattle.ev_check.specs.Declarations.{name_of}
use Rattle.ev_words.specs.Iterators.{same_name, goes_across}

-- it is this number
abbrev pub is_that : Option ℕ → ℕ → Bool
is_that None x = false
is_that (Some y) x = y == x

-- what a binding of iterators gives to a name
abbrev pub instance_bound : List (List ℕ) → List ℕ → List ℕ → Option ℕ
instance_bound vs b v = option_and_then (slice_get b) (position (same_name v) vs)

-- the instance at the first part that has a horizontal iterator
abbrev pub instance_across : List Part → List ℕ → List ℕ → Option ℕ
instance_across parts xs v = option_and_then (slice_get xs) (position (goes_across v) parts)

-- An instance is what stands behind a name: what is bound, the constant, or, at a horizontal
-- iterator, what stands at the first part with the same.
abbrev pub fits_at : List (List ℕ) → List ℕ → List Part → List ℕ → List ℕ → At → ℕ → Bool
fits_at vs b parts xs name ats.Bare x = is_that (instance_bound vs b name) x
fits_at vs b parts xs name (ats.Down v) x = is_that (instance_bound vs b v) x
fits_at vs b parts xs name (ats.Number n) x = n == x
fits_at vs b parts xs name (ats.Across v) x = is_that (instance_across parts xs v) x

abbrev pub fits_part : List (List ℕ) → List ℕ → List Part → List ℕ → Part × ℕ → Bool
fits_part vs b parts xs p = fits_at vs b parts xs p.0.name p.0.at p.1

-- the instances of a path are those of the parts of a pattern
abbrev pub fit_instances : List (List ℕ) → List ℕ → List Part → List ℕ → Bool
fit_instances vs b parts xs = list_all (fits_part vs b parts xs) (zip parts xs)

-- the names of a path are those of the parts of a pattern
abbrev pub has_names : List Part → List ℕ → Bool
has_names parts path = pointwise same_name (names_of path) (map name_of parts)

-- a path fits the parts of a pattern under a binding
abbrev pub fits : List (List ℕ) → List ℕ → List Part → List ℕ → Bool
fits vs b parts path = has_names parts path && fit_instances vs b parts (instances_of path)

-- the numbers of the paths of a topology that pass a test, where the first has a number
abbrev pub places_with : (List ℕ → Bool) → ℕ → Topology → List ℕ
places_with test at [] = []
places_with test at (place ∷ more) =
    if test place.0 then at ∷ places_with test (suc at) more else places_with test (suc at) more

-- the numbers of the paths that fit the parts of a pattern under a binding
abbrev pub fitting : Topology → List (List ℕ) → List ℕ → List Part → List ℕ
fitting topology vs b parts = places_with (fits vs b parts) 0 topology
