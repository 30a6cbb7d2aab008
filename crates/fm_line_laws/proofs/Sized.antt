-- A value that was read has a compact text no longer than the text that it was read from.
use Rattle.std.proofs.Common.{◌≡◌, ℕ, ◌+◌, ◌≤◌, Bool, true, false, cond, List, [], ◌∷◌, ◌++◌}
use Rattle.std.proofs.Common.{length, Some, option_and_then, refl, ap, arith}
use Rattle.std.proofs.lemmas.List.{length-append, append_assoc}
use Rattle.std.proofs.lemmas.Option.{option_and_then_some}
use Rattle.json.specs.Token.{Token, begin_object, end_object, begin_array, end_array, key, string}
use Rattle.json.specs.Token.{number, boolean, null, bad}
use Rattle.json.specs.Lex.{Lexeme, token, comma, colon, between, lex, Place, fresh, after_value}
use Rattle.json.specs.Lex.{after_comma, after_key, begins_colon, place_token, punctuate, tokens}
use Rattle.json.specs.Print.{token_text, quoted, ends}
use Rattle.json.specs.Json as json
use Rattle.json.specs.Tree as tree
use Rattle.json.proofs.Unique.Spelling.{value-json_tokens_back}
use Rattle.fm_line_laws.proofs.Lexed.{weights, lexed}

-- ---- tokens

-- a token that a comma can stand before
abbrev follows : Token → ℕ
follows begin_object = 1
follows end_object = 0
follows begin_array = 1
follows end_array = 0
follows (key s) = 1
follows (string s) = 1
follows (number s) = 1
follows (boolean b) = 1
follows null = 1
follows bad = 0

abbrev pub if_late : Bool → ℕ → ℕ
if_late true n = n
if_late false n = 0

-- the bytes of the tokens with their commas, behind a value or not
abbrev cost : Bool → List Token → ℕ
cost late [] = 0
cost late (t ∷ ts) = if_late late (follows t) + (length (token_text t) + cost (ends t) ts)

-- whether a value stands before, and what is still to be paid for
abbrev late_at : Place → Bool
late_at fresh = false
late_at after_value = true
late_at after_comma = true
late_at after_key = false

abbrev owed : Place → List Lexeme → ℕ
owed fresh ls = 0
owed after_value ls = 0
owed after_comma ls = 1
owed after_key ls = 0

-- a colon that the key has paid for
abbrev paid : Place → List Lexeme → ℕ
paid fresh ls = 0
paid after_value ls = 0
paid after_comma ls = 0
paid after_key ls = cond (begins_colon ls) 1 0

abbrev Within : Place → List Lexeme → Type 0
Within p ls = cost (late_at p) (punctuate p ls) + paid p ls ≤ weights ls + owed p ls

nothing : (late : Bool) → cost late (bad ∷ []) ≡ 0
nothing true = refl
nothing false = refl

abbrev Later : List Lexeme → Type 0
Later ls = (p : Place) → Within p ls

token_step : (p : Place) (t : Token) (ls : List Lexeme) (c : Bool) → begins_colon ls ≡ c → Later ls
    → cost (late_at p) (place_token p t c (λ next. punctuate next ls))
    ≤ (length (token_text t) + weights ls) + owed p ls
token_step fresh begin_object ls c is later = omega (arith, later fresh)
token_step fresh end_object ls c is later = omega (arith, later after_value)
token_step fresh begin_array ls c is later = omega (arith, later fresh)
token_step fresh end_array ls c is later = omega (arith, later after_value)
token_step fresh (key s) ls c is later = omega (arith, later after_value)
token_step fresh (string s) ls true is later =
    omega (
      arith,
      later after_key,
      ap {B = ℕ} (λ c. cond c 1 0) is,
      length-append (quoted s) (58 ∷ []),
    )
token_step fresh (string s) ls false is later = omega (arith, later after_value)
token_step fresh (number s) ls c is later = omega (arith, later after_value)
token_step fresh (boolean b) ls c is later = omega (arith, later after_value)
token_step fresh null ls c is later = omega (arith, later after_value)
token_step fresh bad ls c is later = omega (arith, later after_value)
token_step after_value begin_object ls c is later = omega (arith, later fresh)
token_step after_value end_object ls c is later = omega (arith, later after_value)
token_step after_value begin_array ls c is later = omega (arith, later fresh)
token_step after_value end_array ls c is later = omega (arith, later after_value)
token_step after_value (key s) ls c is later = omega (arith, later after_value)
token_step after_value (string s) ls true is later =
    omega (
      arith,
      later after_key,
      ap {B = ℕ} (λ c. cond c 1 0) is,
      length-append (quoted s) (58 ∷ []),
    )
token_step after_value (string s) ls false is later = omega (arith, later after_value)
token_step after_value (number s) ls c is later = omega (arith, later after_value)
token_step after_value (boolean b) ls c is later = omega (arith, later after_value)
token_step after_value null ls c is later = omega (arith, later after_value)
token_step after_value bad ls c is later = omega (arith, later after_value)
token_step after_comma begin_object ls c is later = omega (arith, later fresh)
token_step after_comma end_object ls c is later = omega (arith, later after_value)
token_step after_comma begin_array ls c is later = omega (arith, later fresh)
token_step after_comma end_array ls c is later = omega (arith, later after_value)
token_step after_comma (key s) ls c is later = omega (arith, later after_value)
token_step after_comma (string s) ls true is later =
    omega (
      arith,
      later after_key,
      ap {B = ℕ} (λ c. cond c 1 0) is,
      length-append (quoted s) (58 ∷ []),
    )
token_step after_comma (string s) ls false is later = omega (arith, later after_value)
token_step after_comma (number s) ls c is later = omega (arith, later after_value)
token_step after_comma (boolean b) ls c is later = omega (arith, later after_value)
token_step after_comma null ls c is later = omega (arith, later after_value)
token_step after_comma bad ls c is later = omega (arith, later after_value)
token_step after_key begin_object ls c is later = omega (arith, later fresh)
token_step after_key end_object ls c is later = omega (arith, later after_value)
token_step after_key begin_array ls c is later = omega (arith, later fresh)
token_step after_key end_array ls c is later = omega (arith, later after_value)
token_step after_key (key s) ls c is later = omega (arith, later after_value)
token_step after_key (string s) ls true is later =
    omega (
      arith,
      later after_key,
      ap {B = ℕ} (λ c. cond c 1 0) is,
      length-append (quoted s) (58 ∷ []),
    )
token_step after_key (string s) ls false is later = omega (arith, later after_value)
token_step after_key (number s) ls c is later = omega (arith, later after_value)
token_step after_key (boolean b) ls c is later = omega (arith, later after_value)
token_step after_key null ls c is later = omega (arith, later after_value)
token_step after_key bad ls c is later = omega (arith, later after_value)

within : (ls : List Lexeme) (p : Place) → Within p ls
unfolding punctuate
within [] fresh = omega arith
within [] after_value = omega arith
within [] after_comma = omega arith
within [] after_key = omega arith
within (token t ∷ ls) fresh =
    omega (arith, token_step fresh t ls (begins_colon ls) refl (within ls))
within (token t ∷ ls) after_value =
    omega (arith, token_step after_value t ls (begins_colon ls) refl (within ls))
within (token t ∷ ls) after_comma =
    omega (arith, token_step after_comma t ls (begins_colon ls) refl (within ls))
within (token t ∷ ls) after_key =
    omega (arith, token_step after_key t ls (begins_colon ls) refl (within ls))
within (comma ∷ ls) fresh = omega arith
within (comma ∷ ls) after_value = omega (arith, within ls after_comma)
within (comma ∷ ls) after_comma = omega arith
within (comma ∷ ls) after_key = omega arith
within (colon ∷ ls) fresh = omega arith
within (colon ∷ ls) after_value = omega arith
within (colon ∷ ls) after_comma = omega arith
within (colon ∷ ls) after_key = omega (arith, within ls fresh)

text_cost : (text : List ℕ) → cost false (tokens text) ≤ length text
text_cost text = omega (arith, within (lex between text) fresh, lexed text between)

-- ---- values

abbrev mutual
  -- the bytes of a value without blanks, its numbers as they stand
  pub size : json.Json → ℕ
  size json.null = 4
  size (json.boolean b) = length (token_text (boolean b))
  size (json.number s) = length s
  size (json.string s) = length (quoted s)
  size (json.array js) = 1 + items_size false js
  size (json.object ms) = 1 + members_size false ms

  -- with commas and the closing bracket
  pub items_size : Bool → json.Items → ℕ
  items_size late json.no_items = 1
  items_size late (json.item j js) = if_late late 1 + (size j + items_size true js)

  pub members_size : Bool → json.Members → ℕ
  members_size late json.no_members = 1
  members_size late (json.member k j ms) =
      if_late late 1 + (length (quoted k) + 1 + (size j + members_size true ms))

closed : (late : Bool) (n : ℕ) → if_late late 0 ≡ 0
closed true n = refl
closed false n = refl

mutual
  value_cost : (j : json.Json) (late : Bool) (rest : List Token)
      → cost late (tree.json_tokens j ++ rest) ≡ if_late late 1 + (size j + cost true rest)
  value_cost json.null late rest = omega arith
  value_cost (json.boolean b) late rest = omega arith
  value_cost (json.number s) late rest = omega arith
  value_cost (json.string s) late rest = omega arith
  value_cost (json.array js) late rest = omega (arith, items_cost js false rest)
  value_cost (json.object ms) late rest = omega (arith, members_cost ms false rest)

  items_cost : (js : json.Items) (late : Bool) (rest : List Token)
      → cost late (tree.items_tokens js ++ rest) ≡ items_size late js + cost true rest
  items_cost json.no_items late rest = omega (arith, closed late 0)
  items_cost (json.item j js) late rest =
      omega (
        arith,
        ap (cost late) (append_assoc (tree.json_tokens j) (tree.items_tokens js) rest),
        value_cost j late (tree.items_tokens js ++ rest),
        items_cost js true rest,
      )

  members_cost : (ms : json.Members) (late : Bool) (rest : List Token)
      → cost late (tree.members_tokens ms ++ rest) ≡ members_size late ms + cost true rest
  members_cost json.no_members late rest = omega (arith, closed late 0)
  members_cost (json.member k j ms) late rest =
      omega (
        arith,
        ap (cost false) (append_assoc (tree.json_tokens j) (tree.members_tokens ms) rest),
        value_cost j false (tree.members_tokens ms ++ rest),
        members_cost ms true rest,
        length-append (quoted k) (58 ∷ []),
      )

whole : (rest : List Token) (i j : json.Json) → json.if_last i rest ≡ Some j → size i ≡ size j
whole [] i j e = let same : i ≡ j = cc in ap size same
whole (t ∷ rest) i j e = let no_one : ⊥ = cc in absurd no_one

-- a text that is a value, and nothing more
pub value_size : (depth : ℕ) (text : List ℕ) (j : json.Json)
    → option_and_then (λ p. json.if_last p.0 p.1) (json.value depth (tokens text)) ≡ Some j
    → size j ≤ length text
value_size depth text j h =
    option_and_then_some (λ p. json.if_last p.0 p.1) (json.value depth (tokens text)) j h
    (λ p found last. omega (
      arith,
      text_cost text,
      whole p.1 p.0 j last,
      ap (cost false) (value-json_tokens_back depth (tokens text) p.1 p.0 found),
      value_cost p.0 false p.1,
    ))
