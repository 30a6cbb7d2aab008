-- What the reader of numerals answers for an instance.
use Rattle.std.proofs.Common.{◌≡◌, ◌<◌, ◌-◌, ◌+◌, ◌^◌, ℕ, true, List, [], length, arith, rules}
use Rattle.std.proofs.Common.{IsTrue, Some, ap}
use Rattle.std.proofs.lemmas.Grind.{common_steps}
use Rattle.std.proofs.lemmas.List.{drop_all}
use Rattle.std.specs.Prelude.{◌==◌}
use Rattle.std.specs.List.{position_or_len, after_first}
use Rattle.fm_bytes.specs.Decimals.{is_numeral, number_of, numeral_within}
use Rattle.fm_name.specs.Path.{is_instance, is_part}

-- what an instance is
pub record IsInstance (bs : List ℕ) : Type 0 where
  pub numeral : is_numeral bs ≡ true
  pub some : 0 < length bs
  pub small : number_of bs < 2 ^ 32

pub instance_parts : (bs : List ℕ) → IsTrue (is_instance bs) → IsInstance bs
unfolding is_instance
instance_parts bs h = record {
  numeral = grind (arith, common_steps);
  some = grind (arith, common_steps);
  small = grind (arith, common_steps);
}

-- an instance reads as its number
pub instance_read : (bs : List ℕ) → IsTrue (is_instance bs)
    → numeral_within (2 ^ 32 - 1) bs ≡ Some (number_of bs)
unfolding numeral_within
instance_read bs h = let p = instance_parts bs h in rw p.numeral (grind (arith, common_steps))

-- a part has an `=`
pub has_equals : (bs : List ℕ) → position_or_len (λ b. b == 61) bs ≡ length bs → IsTrue (is_part bs)
    → ⊥
unfolding is_part
has_equals bs e h =
    let d : after_first (λ b. b == 61) bs ≡ [] =
    rw e (drop_all (length bs + 1) bs (omega arith)) in
    let k : IsTrue (is_instance (after_first (λ b. b == 61) bs)) = search rules in
    let n = (instance_parts _ k).some in
    absurd (omega (arith, ap length d))
