-- What the front of some bytes reads as, with the bytes that are left after it.
use Rattle.std.specs.Prelude.{ℕ, zero, suc, ◌==◌, Bool, true, false, if◌then◌else◌, nat_le, List}
use Rattle.std.specs.Prelude.{[], ◌∷◌, length, take, drop, Option, Some, None}
use Rattle.std.specs.Str.{is_utf8}
use Rattle.byteorder.specs.Endian.{big_number}
use Rattle.fm_bytes.specs.declared.fault.ReadFault.{ReadFault}
use Rattle.fm_bytes.specs.declared.fault.ReadFault.TheVariants.{NoSpelling, NoMemory}

-- a value and the bytes after it, or nothing where the bytes begin with no spelling of one
abbrev pub Read : Type 0 → Type 0
Read A = Option (A × List ℕ)

-- what reads next, where something was read
abbrev pub after : {A B : Type 0} → Read A → (A → List ℕ → Option B) → Option B
after None f = None
after (Some t) f = f t.0 t.1

-- the fault says that the bytes begin with no spelling
abbrev pub IsMisspelled : ReadFault → Type 0
IsMisspelled NoSpelling = Unit {0}
IsMisspelled NoMemory = ⊥

-- a number in so many bytes
unfoldable pub number_from : ℕ → List ℕ → Read ℕ
number_from n bytes =
    if nat_le n (length bytes) then Some (big_number n bytes, drop n bytes) else None

-- so many bytes
unfoldable pub piece_from : ℕ → List ℕ → Read (List ℕ)
piece_from n bytes = if nat_le n (length bytes) then Some (take n bytes, drop n bytes) else None

-- so many bytes that are a text
unfoldable pub text_of_length : ℕ → List ℕ → Read (List ℕ)
text_of_length n bytes =
    after (piece_from n bytes) (λ t rest. if is_utf8 t then Some (t, rest) else None)

-- a text behind its length in two bytes
unfoldable pub short_text_from : List ℕ → Read (List ℕ)
short_text_from bytes = after (number_from 2 bytes) (λ n rest. text_of_length n rest)

-- a text of at most so many bytes behind its length in four bytes
unfoldable pub long_text_from : ℕ → List ℕ → Read (List ℕ)
long_text_from most bytes =
    after (number_from 4 bytes) (λ n rest. if nat_le n most then text_of_length n rest else None)

-- so many items, one after the other
abbrev pub items_from : {A : Type 0} → (List ℕ → Read A) → ℕ → List ℕ → Read (List A)
items_from f zero bytes = Some ([], bytes)
items_from f (suc n) bytes =
    after (f bytes) (λ x rest. after (items_from f n rest) (λ xs more. Some (x ∷ xs, more)))

-- a list behind the number of its items in so many bytes
unfoldable pub counted_from : {A : Type 0} → ℕ → (List ℕ → Read A) → List ℕ → Read (List A)
counted_from width f bytes = after (number_from width bytes) (λ n rest. items_from f n rest)

-- the truth value of a byte 0 or 1
unfoldable pub flag_from : List ℕ → Read Bool
flag_from bytes = after (number_from 1 bytes) (λ n rest.
    if n == 0 then Some (false, rest) else (if n == 1 then Some (true, rest) else None))

-- what was read, made into something else
abbrev pub made : {A B : Type 0} → (A → B) → Read A → Read B
made f r = after r (λ x rest. Some (f x, rest))

-- one value, and another behind it
abbrev pub both_from : {A B : Type 0} → (List ℕ → Read A) → (List ℕ → Read B) → List ℕ
    → Read (A × B)
both_from first second bytes =
    after (first bytes) (λ x rest. after (second rest) (λ y more. Some ((x, y), more)))

-- a value that passes a test
abbrev pub where_from : {A : Type 0} → (A → Bool) → (List ℕ → Read A) → List ℕ → Read A
where_from test read bytes = after (read bytes) (λ x rest. if test x then Some (x, rest) else None)

-- a value that is there, with what is left
abbrev pub there : {A : Type 0} → Option A → List ℕ → Read A
there None rest = None
there (Some x) rest = Some (x, rest)

-- a value, of the number that stands for it in one byte
abbrev pub coded_from : {A : Type 0} → (ℕ → Option A) → List ℕ → Read A
coded_from meaning bytes = after (number_from 1 bytes) (λ n rest. there (meaning n) rest)

-- the value that all of the bytes are
abbrev pub whole : {A : Type 0} → Read A → Option A
whole None = None
whole (Some t) = if length t.1 == 0 then Some t.0 else None
