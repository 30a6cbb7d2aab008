-- What a token of a rule text means.
use Rattle.std.specs.Prelude.{ℕ, Bool, true, false, ◌&&◌, ◌||◌, ◌==◌, List, [], ◌∷◌, codes}
use Rattle.std.specs.List.{list_all}
use Rattle.std.specs.Char.{is_ascii_alphanumeric}
use Rattle.ev_tree.specs.declared.tree.TimeWord.{TimeWord}

-- Punctuation or a reserved word, by its bytes; a name; a class; a number; a time; a quoted text
-- without its quotes. A token that has none of these meanings is Odd, and stands in no rule file.
pub data Tok : Type 0 where
  Sign : List ℕ → Tok
  Name : List ℕ → Tok
  Class : List ℕ → Tok
  Int : ℕ → Tok
  Time : TimeWord → Tok
  Text : List ℕ → Tok
  Odd : Tok

-- the two byte strings are the same
abbrev pub same_bytes : List ℕ → List ℕ → Bool
same_bytes [] [] = true
same_bytes [] (b ∷ bs) = false
same_bytes (a ∷ more) [] = false
same_bytes (a ∷ more) (b ∷ bs) = a == b && same_bytes more bs

-- a reserved word, which is no name
abbrev pub is_reserved : List ℕ → Bool
is_reserved word =
    ((((same_bytes word (codes "event") || same_bytes word (codes "engine"))
    || same_bytes word (codes "prop")) || same_bytes word (codes "confprop"))
    || same_bytes word (codes "confprop_defined")) || same_bytes word (codes "payloadprop")

-- a byte of a name: a letter, a digit, `_` or `-`
abbrev pub is_name_byte : ℕ → Bool
is_name_byte b = (is_ascii_alphanumeric b || b == 95) || b == 45
