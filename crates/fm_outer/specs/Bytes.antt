-- What a disk's bytes are after a write, and which places lie inside of it.
use Rattle.std.specs.Prelude.{◌≡◌, ℕ, ◌+◌, ◌≤◌, List, ◌++◌, length, take, drop, Some}
use Rattle.std.specs.declared.option.Option.{Option}

-- the n bytes from the place at on
abbrev pub range : ℕ → ℕ → List ℕ → List ℕ
range at n xs = take n (drop at xs)

-- these bytes in the place of what stood there, or past the end
abbrev pub written : ℕ → List ℕ → List ℕ → List ℕ
written at bytes xs = take at xs ++ bytes ++ drop (at + length bytes) xs

-- the place is not past the end of the bytes, where these are told
abbrev pub Inside : ℕ → Option (List ℕ) → Type 0
Inside at seen = (xs : List ℕ) → seen ≡ Some xs → at ≤ length xs

-- the n bytes from the place on lie inside, where the bytes are told
abbrev pub InsideRange : ℕ → ℕ → Option (List ℕ) → Type 0
InsideRange at n seen = (xs : List ℕ) → seen ≡ Some xs → at + n ≤ length xs
