-- The numbers of a program have 64 bits.
use Rattle.std.proofs.Common.{ℕ, suc, ◌<◌, ◌^◌, List, [], ◌∷◌, get_or, IsTrue, refl, arith}
use Rattle.std.specs.List.{list_all}
use Rattle.std.proofs.lemmas.Bool.{lt-ltb}
use Rattle.fm_bytes.specs.Numbers.{is_unsigned}
use Rattle.fm_bytes.proofs.Booleans.{and_true}
use Rattle.fm_nv.proofs.numbers.all_numbers.Goals as goal

all_unsigned : (ns : List ℕ) → ((i : ℕ) → get_or ns i 0 < 2 ^ 64) → IsTrue (list_all is_unsigned ns)
all_unsigned [] h = refl
all_unsigned (n ∷ ns) h =
    and_true (is_unsigned n) _ (lt-ltb _ _ (h 0)) (all_unsigned ns (λ i. h (suc i)))

pub returns : goal.returns
returns c = all_unsigned c.args.items.now (λ i. omega (arith, c.type_inv.items i))
