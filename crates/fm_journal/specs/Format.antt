-- What bytes spell a journal: a header, then records, then a closed gate.
use Rattle.std.specs.Prelude.{◌≡◌, ◌≢◌, ℕ, ◌+◌, ◌<◌, ◌≤◌, ◌^◌, List, [], ◌∷◌, ◌++◌, length, codes}
use Rattle.std.specs.Prelude.{All}
use Rattle.byteorder.specs.Endian.{big_bytes}

-- the eight letters and the first number
unfoldable pub header : ℕ → List ℕ
header first = codes "FMAJRNL1" ++ big_bytes 8 first

-- an open gate, the length, the payload
unfoldable pub spelled : List ℕ → List ℕ
spelled payload = 1 ∷ (big_bytes 4 (length payload) ++ payload)

-- the records of these payloads, one after the other, without the gate behind the last
abbrev pub records : List (List ℕ) → List ℕ
records [] = []
records (payload ∷ payloads) = spelled payload ++ records payloads

-- the place of the gate behind the records of these payloads
unfoldable pub end_of : List (List ℕ) → ℕ
end_of payloads = 16 + length (records payloads)

-- what an append writes behind the closed gate: the length, the payload and one closed gate
unfoldable pub framed : List ℕ → List ℕ
framed payload = big_bytes 4 (length payload) ++ (payload ++ 0 ∷ [])

-- The numbers and counts are within the limits. The last gate is within the first 2^40 bytes.
pub record IsWithin (first : ℕ) (payloads : List (List ℕ)) : Type 0 where
  pub first_fits : first < 2 ^ 46
  pub counted : length payloads < 2 ^ 32
  pub numbered : first + length payloads ≤ 2 ^ 46
  pub sized : end_of payloads < 2 ^ 40
  pub short : All (λ payload. length payload ≤ 2 ^ 28) payloads

-- The bytes begin with the header, the records of these payloads and a gate, all within the limits.
-- `rest` is what follows.
pub record Begins (bytes : List ℕ) (first : ℕ) (payloads : List (List ℕ)) (gate : ℕ)
    (rest : List ℕ) : Type 0 where
  pub bytes_are : bytes ≡ header first ++ (records payloads ++ gate ∷ rest)
  pub limits : IsWithin first payloads

-- The bytes are a journal of these payloads: the gate behind their records is closed. What follows
-- it may be anything.
pub record IsJournal (bytes : List ℕ) (first : ℕ) (payloads : List (List ℕ)) : Type 0 where
  pub gate : ℕ
  pub rest : List ℕ
  pub closed : gate ≢ 1
  pub begins : Begins bytes first payloads gate rest
