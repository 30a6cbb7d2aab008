-- A text spells rules: it is cut into tokens, and these are a rule file with the rules.
use Rattle.std.specs.Prelude.{ℕ, ◌<◌, List, length}
use Rattle.ev_lex.specs.Cut.{AreTokens}
use Rattle.ev_lex.specs.declared.token.Token.{Token}
use Rattle.ev_tree.specs.Grammar.{file}
use Rattle.ev_tree.specs.Printing.{file_tokens}
use Rattle.ev_tree.specs.Rule.{Rule}
use Rattle.ev_tree.specs.Text.{text_of}
use Rattle.ev_parse.specs.Toks.{toks}
use Rattle.ev_print_laws.specs.declared.unread.Unread.{Unread}
use Rattle.ev_print_laws.specs.declared.unread.Unread.TheVariants as unreads

pub record Spells (text : List ℕ) (rules : List Rule) : Type 0 where
  pub tokens : List Token
  pub lexed : AreTokens text tokens
  pub spelled : file rules (toks text tokens)

-- some text spells the rules
pub record AreSpelled (rules : List Rule) : Type 0 where
  pub text : List ℕ
  pub spells : Spells text rules

-- the text that rules are printed as
abbrev pub printed : List Rule → List ℕ
printed rules = text_of (file_tokens rules)

-- why the printed text of rules was not read again: it is longer than a rule file may be, or memory
-- ran out, and never since it has no tree
abbrev pub Causes : List Rule → Unread → Type 0
Causes rules unreads.TooLong = 1048576 < length (printed rules)
Causes rules unreads.Refused = ⊥
Causes rules unreads.NoMemory = Unit {0}
