-- What the meanings of a word and of a number come to, case by case.
use Rattle.std.proofs.Common.{◌≡◌, ℕ, Bool, true, false, List, Option, Some, None}
use Rattle.std.proofs.Common.{is_some, if◌then◌else◌, refl, ap}
use Rattle.fm_name.specs.Class.{is_class}
use Rattle.std.specs.Option.{unwrap_or}
use Rattle.ev_tree.specs.Tok.{Class, Int, Odd}
use Rattle.ev_parse.specs.Reading.{pick_class, pick_int}

by_test : (b : List ℕ) (c : Bool) → is_class b ≡ c
    → pick_class (if c then Class b else Odd) ≡ (if c then Some b else None)
by_test b true e = ap (λ d. if d then Some b else None) e
by_test b false e = refl

-- a word that may be a class is picked where it is one
pub class_picked : (b : List ℕ)
    → pick_class (if is_class b then Class b else Odd) ≡ (if is_class b then Some b else None)
class_picked b = by_test b (is_class b) refl

-- a number that was read is picked
pub int_picked : (o : Option ℕ) → pick_int (if is_some o then Int (unwrap_or o 0) else Odd) ≡ o
int_picked (Some n) = refl
int_picked None = refl
