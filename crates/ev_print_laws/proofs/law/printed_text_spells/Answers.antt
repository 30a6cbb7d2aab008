use Rattle.ev_print_laws.proofs.Spelled.{spelled_again}
use Rattle.ev_print_laws.proofs.law.printed_text_spells.Goals as goal

pub returns : goal.returns
returns c = spelled_again
