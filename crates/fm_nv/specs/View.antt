-- How the values of the program are seen as data.
use Rattle.std.specs.Prelude.{◌≡◌, ℕ, zero, suc, ◌-◌, ◌*◌, ◌≤◌, IsTrue, List, [], ◌∷◌, length, take}
use Rattle.std.specs.Prelude.{drop}
use Rattle.std.specs.Prelude.{Bool as Truth}
use Rattle.std.specs.Bool.{OnTrue}
use Rattle.fm_nv.specs.Ascending.{LastIsGreatest}
use Rattle.fm_nv.specs.Data.{Pairs, Data, no_pairs, pair, boolean, unsigned, signed, text, nested}
use Rattle.fm_nv.specs.Data.{unsigneds, texts, lists, lists_of, depth}
use Rattle.fm_nv.specs.Spelled.{names_fit}
use Rattle.fm_nv.specs.declared.nv.Value.{Value}
use Rattle.fm_nv.specs.declared.nv.Value.TheVariants.{Bool, Unsigned, Signed, Text, List as Nested}
use Rattle.fm_nv.specs.declared.nv.Value.TheVariants.{Unsigneds, Texts, Lists}
use Rattle.fm_nv.specs.declared.nv.Cell.{Cell}

-- a value as data
abbrev pub datum : Value → Data
datum (Bool b) = boolean b
datum (Unsigned n) = unsigned n
datum (Signed z) = signed z
datum (Text t) = text t
datum (Nested ps) = nested ps
datum (Unsigneds ns) = unsigneds ns
datum (Texts ts) = texts ts
datum (Lists ls) = lists (lists_of ls)

-- the bytes between two places
abbrev pub bytes_between : ℕ → ℕ → List ℕ → List ℕ
bytes_between begin end names = take (end - begin) (drop begin names)

-- the pairs of the cells, whose names stand one behind the other from a place on
abbrev pub pairs_in : List ℕ → ℕ → List Cell → Pairs
pairs_in names begin [] = no_pairs
pairs_in names begin (c ∷ cs) =
    pair (bytes_between begin c.end names) (datum c.value) (pairs_in names c.end cs)

-- where the name at a place begins, counted from 0: where the one before it ends
abbrev pub begins : ℕ → List Cell → ℕ → ℕ
begins begin cs zero = begin
begins begin [] (suc n) = begin
begins begin (c ∷ cs) (suc n) = begins c.end cs n

-- the names from a place on end one behind the other, and the last with the bytes
abbrev pub AreEnds : ℕ → ℕ → List Cell → Type 0
AreEnds size begin [] = begin ≡ size
AreEnds size begin (c ∷ cs) = (begin ≤ c.end) × AreEnds size c.end cs

-- what is kept of pairs: how deep they are, whether their names are known to ascend, the bytes of
-- the names, and the cells
pub record IsContent (deep : ℕ) (ascending : Truth) (names : List ℕ) (cells : List Cell)
    : Type 0 where
  pub depth_is : deep ≡ depth (pairs_in names 0 cells)
  pub greatest : OnTrue ascending (LastIsGreatest (pairs_in names 0 cells))
  pub ends : AreEnds (length names) 0 cells
  pub named : IsTrue (names_fit (pairs_in names 0 cells))
  pub bytes : length names ≤ 255 * length cells
  pub few : length cells ≤ 65535
