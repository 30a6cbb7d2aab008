-- A value that is there and isn't.
use Rattle.std.proofs.Common.{◌≡◌, Option, None, Some, sym, ◌∙◌}

-- none is no value
pub none_some : {X : Type 0} {x : X} {o : Option X} → o ≡ None → o ≡ Some x → ⊥
none_some {x = x} none some =
    let both : None ≡ Some x = sym none ∙ some in
    cc
