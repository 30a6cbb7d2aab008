-- Damage is no book.
use Rattle.fm_store.proofs.OpeningLaws.{damaged_no_book, open_damaged_no_book}
use Rattle.fm_store.proofs.laws.damage_is_no_book.Goals as goal

pub returns-clause-any : goal.returns-clause-any
returns-clause-any c = damaged_no_book

pub returns-clause-at_opening : goal.returns-clause-at_opening
returns-clause-at_opening c = open_damaged_no_book
