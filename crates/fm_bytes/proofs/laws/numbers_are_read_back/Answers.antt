use Rattle.std.proofs.lemmas.Bool.{lt-ltb}
use Rattle.fm_bytes.proofs.Numbering.{same_bytes}
use Rattle.fm_bytes.proofs.Readers.{number_reader}
use Rattle.fm_bytes.proofs.laws.numbers_are_read_back.Goals as goal

pub returns-clause-one : goal.returns-clause-one
returns-clause-one c n xs ys lx ly bx by same = same_bytes n xs ys lx ly bx by same

pub returns-clause-back : goal.returns-clause-back
returns-clause-back c n x rest small = (number_reader n).whole x rest (lt-ltb _ _ small)
