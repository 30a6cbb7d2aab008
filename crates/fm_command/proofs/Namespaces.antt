-- A text that is no UUID.
use Rattle.std.proofs.Common.{◌≡◌, ℕ, List, Option, Some, None, false, true, sym, ◌∙◌}
use Rattle.fm_dump.proofs.Values.{none_from}

pub none_for : (value other : Option (List ℕ)) → other ≡ value
    → ((x : List ℕ) × (other ≡ Some x) → false ≡ true) → value ≡ None
none_for value other same never = sym same ∙ none_from other never
