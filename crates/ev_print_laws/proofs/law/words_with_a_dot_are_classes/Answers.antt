use Rattle.ev_print_laws.proofs.ClassWords.{word_is_class}
use Rattle.ev_print_laws.proofs.law.words_with_a_dot_are_classes.Goals as goal

pub returns : goal.returns
returns c bytes after w dot = word_is_class bytes after w dot
