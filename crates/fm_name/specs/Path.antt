-- The grammar of paths, and the parts of a path.
use Rattle.std.specs.Prelude.{ℕ, Bool, ◌&&◌, ◌==◌, ◌^◌, nat_le, nat_lt, nat_eq, List, length, drop}
use Rattle.std.specs.Prelude.{map, codes}
use Rattle.std.specs.List.{slice_split, list_all, before_first, after_first, starts_with}
use Rattle.fm_bytes.specs.Decimals.{is_numeral, number_of}
use Rattle.fm_name.specs.Class.{is_component, starts_with_letter}

-- a name: a component that begins with a letter
unfoldable pub is_name : List ℕ → Bool
is_name bytes = starts_with_letter bytes && is_component bytes

-- an instance: a decimal number below 2 ^ 32 without a leading zero
unfoldable pub is_instance : List ℕ → Bool
is_instance bytes = is_numeral bytes && nat_lt (number_of bytes) (2 ^ 32)

-- a part: a name, `=` and an instance
unfoldable pub is_part : List ℕ → Bool
is_part bytes =
    is_name (before_first (λ b. b == 61) bytes) && is_instance (after_first (λ b. b == 61) bytes)

-- the texts between the slashes of a text
abbrev pub slash_texts : List ℕ → List (List ℕ)
slash_texts bytes = slice_split (λ b. b == 47) bytes

-- the texts of the parts of a path, which stand between slashes after `hc:///`
abbrev pub part_texts : List ℕ → List (List ℕ)
part_texts bytes = slash_texts (drop 6 bytes)

-- texts that are parts, as many as there is room for or fewer
unfoldable pub are_parts : ℕ → List (List ℕ) → Bool
are_parts room texts = nat_le (length texts) room && list_all is_part texts

-- a path: `hc:///` and one to sixteen parts joined by `/`, which are at most 709 bytes
unfoldable pub is_path : List ℕ → Bool
is_path bytes =
    nat_le (length bytes) 709
    && (starts_with nat_eq bytes (codes "hc:///") && are_parts 16 (part_texts bytes))

-- opens what a path is, for a proof that names this
unfoldable pub on_path : Unit {0}
unfolding is_path are_parts
on_path = tt

-- one part of a path
pub record PathPart : Type 0 where
  pub name : List ℕ
  pub instance : ℕ

-- the part that a text `name=instance` means
abbrev pub part_of : List ℕ → PathPart
part_of bytes = record {
  name = before_first (λ b. b == 61) bytes;
  instance = number_of (after_first (λ b. b == 61) bytes);
}

-- the parts of a path, from the root on
unfoldable pub parts_of : List ℕ → List PathPart
parts_of bytes = map part_of (part_texts bytes)

-- the names of the parts, and their instances
unfoldable pub names_of : List ℕ → List (List ℕ)
names_of bytes = map (λ p. p.name) (parts_of bytes)

unfoldable pub instances_of : List ℕ → List ℕ
instances_of bytes = map (λ p. p.instance) (parts_of bytes)
