-- The contents of a new store read as its book.
use Rattle.fm_init.proofs.NewStore.{new_reads}
use Rattle.fm_init.proofs.laws.a_new_store_reads_as_its_book.Goals as goal

pub returns : goal.returns
returns c = λ fresh contents conf spelled first new. new_reads fresh contents conf spelled first new
