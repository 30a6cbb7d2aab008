-- Numbers, texts and lists in bytes: the highest byte of a number first, a text behind its length,
-- a list behind the number of its items.
use Rattle.std.specs.Prelude.{ℕ, Bool, nat_lt, ◌^◌, ◌<◌, ◌++◌, List, length, slice_index, flat_map}
use Rattle.byteorder.specs.Endian.{big_bytes}

-- a number of 64 bits
abbrev pub is_unsigned : ℕ → Bool
is_unsigned n = nat_lt n (2 ^ 64)

-- a number in two bytes
unfoldable pub u16_bytes : ℕ → List ℕ
u16_bytes n = big_bytes 2 n

-- a number in four bytes
unfoldable pub u32_bytes : ℕ → List ℕ
u32_bytes n = big_bytes 4 n

-- a number in eight bytes
unfoldable pub u64_bytes : ℕ → List ℕ
u64_bytes n = big_bytes 8 n

-- a text behind its length in two bytes
abbrev pub short_text : List ℕ → List ℕ
short_text t = u16_bytes (length t) ++ t

-- a text behind its length in four bytes
abbrev pub long_text : List ℕ → List ℕ
long_text t = u32_bytes (length t) ++ t

-- a list behind the number of its items in so many bytes
abbrev pub counted_bytes : {A : Type 0} → ℕ → (A → List ℕ) → List A → List ℕ
counted_bytes width spell xs = big_bytes width (length xs) ++ flat_map spell xs

-- each item of a list is a byte
abbrev pub AllBytes : List ℕ → Type 0
AllBytes xs = (i : ℕ) → slice_index xs i < 256
