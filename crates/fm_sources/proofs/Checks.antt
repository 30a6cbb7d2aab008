-- What the checks find as what is wrong with a rule file.
use Rattle.std.proofs.Common.{ℕ, List}
use Rattle.ev_check.specs.Faults.{IsAnswer, IsCheckFault}
use Rattle.ev_check.specs.declared.kinds.CheckFault.{CheckFault}
use Rattle.ev_check.specs.declared.kinds.CheckFault.TheVariants.{At, NoMemory}
use Rattle.ev_lex.specs.declared.token.Token.{Token}
use Rattle.ev_tree.specs.declared.tree.Tree.{Tree}
use Rattle.fm_sources.specs.Conversions.{of_checking}
use Rattle.fm_sources.specs.Rules.{HasStatements, RulesCause}

pub by_check : (text : List ℕ) (tokens : List Token) (tree : Tree) (fault : CheckFault)
    → HasStatements text tokens tree → IsAnswer (IsCheckFault tree.statements) fault
    → RulesCause text (of_checking fault)
by_check text tokens tree (At place kind) has found = (tokens, tree, has, found)
by_check text tokens tree NoMemory has found = tt
