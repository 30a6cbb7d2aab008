-- Rule files as texts: which bytes are one, what they come to, and what is wrong first.
use Rattle.std.specs.Prelude.{◌≡◌, ℕ, ◌<◌, ◌≤◌, List, length}
use Rattle.ev_lex.specs.Cut.{AreTokens, IsStuck}
use Rattle.ev_lex.specs.declared.token.Token.{Token}
use Rattle.ev_parse.specs.Fault.{FaultAt}
use Rattle.ev_parse.specs.Placed.{StandFrom}
use Rattle.ev_parse.specs.Toks.{toks}
use Rattle.ev_tree.specs.Grammar.{file}
use Rattle.ev_tree.specs.Rule.{view_tree}
use Rattle.ev_tree.specs.declared.tree.Tree.{Tree}
use Rattle.ev_check.specs.CheckedFile.{CheckedFile, IsFileOf}
use Rattle.ev_check.specs.Faults.{IsChecked, IsCheckFault}
use Rattle.fm_sources.specs.declared.faults.RulesFault.{RulesFault}
use Rattle.fm_sources.specs.declared.faults.RulesFault.TheVariants.{At, NoMemory}
use Rattle.fm_sources.specs.declared.faults.RulesKind.{RulesKind}
use Rattle.fm_sources.specs.declared.faults.RulesKind.TheVariants as kinds

-- the text has no more bytes than a rule file, and these are its tokens
pub record HasTokens (text : List ℕ) (tokens : List Token) : Type 0 where
  pub short : length text ≤ 1048576
  pub tokens_are : AreTokens text tokens

-- the text has these tokens, and they are these statements, each at its place
pub record HasStatements (text : List ℕ) (tokens : List Token) (tree : Tree) : Type 0 where
  pub has : HasTokens text tokens
  pub grammar : file (view_tree tree) (toks text tokens)
  pub placed : StandFrom text tokens 0 tree.statements (length tokens)

-- the text is a rule file that comes to this
pub record IsRuleFile (text : List ℕ) (checked : CheckedFile) : Type 0 where
  pub tokens : List Token
  pub tree : Tree
  pub has : HasStatements text tokens tree
  pub passes : IsChecked tree.statements
  pub file_is : IsFileOf tree.statements checked

-- what is wrong with the text first, and where
abbrev pub IsRulesFault : List ℕ → ℕ → RulesKind → Type 0
IsRulesFault text place kinds.Length = (1048576 < length text) × (place ≡ 1048576)
IsRulesFault text place kinds.Token = (length text ≤ 1048576) × IsStuck text place
IsRulesFault text place kinds.Grammar =
    (tokens : List Token) × HasTokens text tokens × FaultAt text tokens place
IsRulesFault text place (kinds.Check kind) = (tokens : List Token) × (tree : Tree)
    × HasStatements text tokens tree × IsCheckFault tree.statements place kind

-- why a text is no rule file
abbrev pub RulesCause : List ℕ → RulesFault → Type 0
RulesCause text (At place kind) = IsRulesFault text place kind
RulesCause text NoMemory = Unit {0}
