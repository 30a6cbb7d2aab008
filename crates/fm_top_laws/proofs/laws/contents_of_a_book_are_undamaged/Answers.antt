use Rattle.fm_top_laws.proofs.NoDamage.{no_damage}
use Rattle.fm_top_laws.proofs.laws.contents_of_a_book_are_undamaged.Goals as goal

pub returns : goal.returns
returns c = no_damage c.a_rule_file_has_no_fault.ensures
