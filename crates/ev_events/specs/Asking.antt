-- What the condition of a pattern is asked with.
use Rattle.std.specs.Prelude.{ℕ, Bool, List, ◌++◌, zip, map, filter_map, Option}
use Rattle.std.specs.Prelude.{Some, None}
use Rattle.std.specs.List.{list_any}
use Rattle.fm_name.specs.Path.{instances_of}
use Rattle.ev_tree.specs.Condition.{Condition}
use Rattle.ev_tree.specs.declared.tree.At.{At}
use Rattle.ev_tree.specs.declared.tree.At.TheVariants as ats
use Rattle.ev_tree.specs.declared.tree.Part.{Part}
use Rattle.ev_words.specs.Operands.{operands_of}
use Rattle.ev_words.specs.Words.{is_payload}
use Rattle.ev_expr.specs.declared.settings.Bound.{Bound}

-- what a binding gives to the vertical iterators
abbrev pub names_down : List (List ℕ) → List ℕ → List Bound
names_down vs b = map (λ p. record { name = p.0; instance = p.1 }) (zip vs b)

-- the horizontal iterator of a part, with the instance there
abbrev pub bound_at : At → ℕ → Option Bound
bound_at (ats.Across v) x = Some (record { name = v; instance = x })
bound_at _ x = None

abbrev pub names_across : List Part → List ℕ → List Bound
names_across parts xs = filter_map (λ p. bound_at p.0.at p.1) (zip parts xs)

-- the names that the condition of a pattern may ask for, with the instances bound to them: the
-- vertical iterators by the binding, and the horizontal ones of the pattern by the path
abbrev pub condition_names : List (List ℕ) → List ℕ → List Part → List ℕ → List Bound
condition_names vs b parts path = names_down vs b ++ names_across parts (instances_of path)

-- the condition asks the payload
abbrev pub asks_payload : Condition → Bool
asks_payload c = list_any is_payload (operands_of c)
