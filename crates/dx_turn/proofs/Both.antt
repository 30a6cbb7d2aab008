-- Two facts of what a call left, where it answers Ok.
use Rattle.std.proofs.Common.{Result, Ok, Err}
use Rattle.std.specs.Result.{OnOk}

pub on_both : {T E P Q R : Type 0} (r : Result T E) → (P → Q → R) → OnOk r P → OnOk r Q → OnOk r R
on_both (Ok v) f p q = f p q
on_both (Err e) f p q = tt
