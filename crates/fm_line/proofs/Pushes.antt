-- A pair that a list takes.
use Rattle.std.proofs.Common.{◌≡◌, Option, Some, None, Result, Ok, Err, IfSome, cond, is_none, refl}
use Rattle.fm_nv.specs.Data.{Pairs}
use Rattle.fm_nv.specs.declared.fault.NvFault.{NvFault}

pub pushed_ok : (refused : Option NvFault) (list : Pairs) (result : Result (Unit {0}) NvFault)
    (done : Unit {0})
    → IfSome refused (λ f. result ≡ Err f) → result ≡ Ok done
    → Some list ≡ cond (is_none refused) (Some list) None
pushed_ok None list result done refuses ok = refl
pushed_ok (Some f) list result done refuses ok = cc
