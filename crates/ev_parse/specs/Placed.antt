-- Where the statements of a tree stand in the text.
use Rattle.std.specs.Prelude.{◌≡◌, ℕ, ◌+◌, List, [], ◌∷◌, length, take, drop}
use Rattle.ev_lex.specs.declared.token.Token.{Token}
use Rattle.ev_tree.specs.Grammar.{statement}
use Rattle.ev_tree.specs.Rule.{place_of, view_statement}
use Rattle.ev_tree.specs.declared.tree.Statement.{Statement}
use Rattle.ev_parse.specs.Fault.{place_from}
use Rattle.ev_parse.specs.Toks.{toks}

-- From the token of number at on, each statement has so many tokens that spell it, up to the token
-- of number end; its place is the first byte of the first of them.
abbrev pub StandFrom : List ℕ → List Token → ℕ → List Statement → ℕ → Type 0
StandFrom text tokens at [] end = at ≡ end
StandFrom text tokens at (s ∷ ss) end =
    (n : ℕ) × statement (view_statement s) (take n (drop at (toks text tokens)))
    × (place_of s ≡ place_from (length text) (drop at tokens))
    × StandFrom text tokens (at + n) ss end
