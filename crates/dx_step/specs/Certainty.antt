-- How certain each suspect is, in percent.
use Rattle.std.specs.Prelude.{ℕ, ◌+◌, ◌-◌, ◌*◌, ◌/◌, List, [], ◌∷◌, map, sum}

-- its share of a sum of rates in percent, rounded down
abbrev pub share : ℕ → ℕ → ℕ
share total rate = (100 * rate) / total

abbrev pub shares : List ℕ → List ℕ
shares rates = map (share (sum rates)) rates

-- the first gets what the shares leave of 100
abbrev pub with_rest : ℕ → List ℕ → List ℕ
with_rest left [] = []
with_rest left (x ∷ xs) = (x + left) ∷ xs

-- the certainties of suspects with these rates
unfoldable pub certainties : List ℕ → List ℕ
certainties rates = with_rest (100 - sum (shares rates)) (shares rates)
