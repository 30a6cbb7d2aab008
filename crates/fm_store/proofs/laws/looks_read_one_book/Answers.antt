-- The looks read one book.
use Rattle.fm_store.proofs.OpeningLaws.{books_are_one, passes_looks, reads_as_book}
use Rattle.fm_store.proofs.laws.looks_read_one_book.Goals as goal

pub returns-clause-reads : goal.returns-clause-reads
returns-clause-reads c = reads_as_book

pub returns-clause-passes : goal.returns-clause-passes
returns-clause-passes c = passes_looks

pub returns-clause-one : goal.returns-clause-one
returns-clause-one c = books_are_one
