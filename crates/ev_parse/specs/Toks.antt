-- What the tokens of a text mean.
use Rattle.std.specs.Prelude.{ℕ, ◌-◌, if◌then◌else◌, List, length, take, drop, map}
use Rattle.std.specs.Prelude.{Option, Some, None, is_some, codes}
use Rattle.std.specs.Option.{unwrap_or}
use Rattle.std.specs.Char.{is_ascii_digit}
use Rattle.std.specs.List.{list_all}
use Rattle.fm_name.specs.Class.{is_class}
use Rattle.ev_lex.specs.Bytes.{count_while, is_text_byte, int_value}
use Rattle.ev_lex.specs.declared.token.Kind.{Kind}
use Rattle.ev_lex.specs.declared.token.Kind.TheVariants as kinds
use Rattle.ev_lex.specs.declared.token.Token.{Token}
use Rattle.ev_tree.specs.Tok.{Tok, Sign, Name, Class, Int, Time, Text, Odd, same_bytes, is_reserved}
use Rattle.ev_tree.specs.Tok.{is_name_byte}
use Rattle.ev_tree.specs.declared.tree.Unit as the_unit
use Rattle.ev_tree.specs.declared.tree.Unit.TheVariants as units

-- the bytes of a token
abbrev pub token_bytes : List ℕ → Token → List ℕ
token_bytes text t = take (t.to - t.from) (drop t.from text)

-- a reserved word, a name or a class
abbrev pub word_meaning : List ℕ → Tok
word_meaning b =
    if is_reserved b then Sign b
    else (if list_all is_name_byte b then Name b
    else (if is_class b then Class b
    else Odd))

-- the unit of these letters
abbrev pub unit_of : List ℕ → Option the_unit.Unit
unit_of b =
    if same_bytes b (codes "ns") then Some units.Ns
    else (if same_bytes b (codes "us") then Some units.Us
    else (if same_bytes b (codes "ms") then Some units.Ms
    else (if same_bytes b (codes "s") then Some units.S
    else (if same_bytes b (codes "m") then Some units.M
    else (if same_bytes b (codes "h") then Some units.H
    else (if same_bytes b (codes "d") then Some units.D
    else None))))))

-- a number, where there is one
abbrev pub number_meaning : Option ℕ → Tok
number_meaning o = if is_some o then Int (unwrap_or o 0) else Odd

-- a number and a unit, where there are both
abbrev pub timed : Option ℕ → Option the_unit.Unit → Tok
timed o None = Odd
timed o (Some u) = if is_some o then Time (record { number = unwrap_or o 0; unit = u }) else Odd

-- digits and a unit
abbrev pub time_meaning : List ℕ → Tok
time_meaning b = let n = count_while is_ascii_digit b in
    timed (int_value (take n b)) (unit_of (drop n b))

-- what stands between the quotes
abbrev pub inner : List ℕ → List ℕ
inner b = take (length b - 2) (drop 1 b)

abbrev pub text_meaning : List ℕ → Tok
text_meaning b = if list_all is_text_byte (inner b) then Text (inner b) else Odd

abbrev pub meaning : Kind → List ℕ → Tok
meaning kinds.Word b = word_meaning b
meaning kinds.Int b = number_meaning (int_value b)
meaning kinds.Time b = time_meaning b
meaning kinds.Text b = text_meaning b
meaning kinds.Punct b = Sign b

-- what a token of a text means
unfoldable pub tok_of : List ℕ → Token → Tok
tok_of text t = meaning t.kind (token_bytes text t)

-- what tokens of a text mean
abbrev pub toks : List ℕ → List Token → List Tok
toks text ts = map (tok_of text) ts
