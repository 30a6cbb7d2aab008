-- What an attribute says where it is given, and else its default.
use Rattle.std.specs.Prelude.{ℕ, Bool, ◌==◌, min, List, [], ◌∷◌, Option, Some, None}
use Rattle.std.specs.Option.{unwrap_or}
use Rattle.ev_tree.specs.declared.tree.EventAttr.{EventAttr}
use Rattle.ev_tree.specs.declared.tree.EngineAttr.{EngineAttr}
use Rattle.ev_words.specs.Attributes.{fit_value, retire_value, within_value, n_value, t_value}

-- the one, or else the other
abbrev pub or_else : {B : Type 0} → Option B → Option B → Option B
or_else None other = other
or_else (Some b) other = Some b

-- what h gives of the first element of which it gives something
abbrev pub first_by : {A B : Type 0} → (A → Option B) → List A → Option B
first_by h [] = None
first_by h (x ∷ xs) = or_else (h x) (first_by h xs)

-- FITrate, 1 where it isn't given; a number that is checked is at most what is kept
abbrev pub fit_of : List EventAttr → ℕ
fit_of attrs = min (unwrap_or (first_by fit_value attrs) 1) 4294967295

-- retire, 1 where it isn't given
abbrev pub retire_of : List EventAttr → Bool
retire_of attrs = unwrap_or (first_by retire_value attrs) 1 == 1

-- within, five seconds where it isn't given
abbrev pub within_of : List EventAttr → ℕ
within_of attrs = min (unwrap_or (first_by within_value attrs) 5000000000) 1125899906842624

-- N and T, which are never missing where the file is checked
abbrev pub n_of : List EngineAttr → ℕ
n_of attrs = min (unwrap_or (first_by n_value attrs) 1) 1024

abbrev pub t_of : List EngineAttr → ℕ
t_of attrs = min (unwrap_or (first_by t_value attrs) 1) 1152921504606846976
