-- The faults of the steps as faults of a rule file.
use Rattle.ev_lex.specs.declared.fault.LexFault.{LexFault}
use Rattle.ev_lex.specs.declared.fault.LexFault.TheVariants as lexing
use Rattle.ev_parse.specs.declared.fault.ParseFault.{ParseFault}
use Rattle.ev_parse.specs.declared.fault.ParseFault.TheVariants as parsing
use Rattle.ev_check.specs.declared.kinds.CheckFault.{CheckFault}
use Rattle.ev_check.specs.declared.kinds.CheckFault.TheVariants as checking
use Rattle.fm_sources.specs.declared.faults.RulesFault.{RulesFault}
use Rattle.fm_sources.specs.declared.faults.RulesFault.TheVariants.{At, NoMemory}
use Rattle.fm_sources.specs.declared.faults.RulesKind.TheVariants.{Token, Grammar, Check}

abbrev pub of_lexing : LexFault → RulesFault
of_lexing (lexing.At place) = At place Token
of_lexing lexing.NoMemory = NoMemory

abbrev pub of_parsing : ParseFault → RulesFault
of_parsing (parsing.At place) = At place Grammar
of_parsing parsing.NoMemory = NoMemory

abbrev pub of_checking : CheckFault → RulesFault
of_checking (checking.At place kind) = At place (Check kind)
of_checking checking.NoMemory = NoMemory
