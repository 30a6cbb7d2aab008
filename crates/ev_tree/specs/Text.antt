-- The text of tokens.
use Rattle.std.specs.Prelude.{ℕ, List, [], ◌∷◌, ◌++◌, if◌then◌else◌, codes}
use Rattle.std.specs.Fmt.{decimal}
use Rattle.ev_tree.specs.Tok.{Tok, Sign, Name, Class, Int, Time, Text, Odd, same_bytes}
use Rattle.ev_tree.specs.declared.tree.TimeWord.{TimeWord}
use Rattle.ev_tree.specs.declared.tree.Unit as the_unit
use Rattle.ev_tree.specs.declared.tree.Unit.TheVariants as units

abbrev pub unit_bytes : the_unit.Unit → List ℕ
unit_bytes units.Ns = codes "ns"
unit_bytes units.Us = codes "us"
unit_bytes units.Ms = codes "ms"
unit_bytes units.S = codes "s"
unit_bytes units.M = codes "m"
unit_bytes units.H = codes "h"
unit_bytes units.D = codes "d"

-- the bytes of a token
abbrev pub bytes_of : Tok → List ℕ
bytes_of (Sign b) = b
bytes_of (Name b) = b
bytes_of (Class b) = b
bytes_of (Int n) = decimal n
bytes_of (Time w) = decimal w.number ++ unit_bytes w.unit
bytes_of (Text t) = 34 ∷ (t ++ 34 ∷ [])
bytes_of Odd = []

-- what follows a token: a newline after `;`, else a space
abbrev pub gap : Tok → ℕ
gap (Sign b) = if same_bytes b (codes ";") then 10 else 32
gap (Name b) = 32
gap (Class b) = 32
gap (Int n) = 32
gap (Time w) = 32
gap (Text t) = 32
gap Odd = 32

-- each token and its gap
abbrev pub text_of : List Tok → List ℕ
text_of [] = []
text_of (t ∷ ts) = bytes_of t ++ (gap t ∷ text_of ts)
