use Rattle.std.proofs.Common.{refl}
use Rattle.fm_nv.proofs.ListReader.{no_prefix, spelled_read}
use Rattle.fm_nv.proofs.laws.lists_are_read_back.Goals as goal

pub returns-clause-back : goal.returns-clause-back
returns-clause-back c ps rest spelled = spelled_read _ ps rest spelled refl

pub returns-clause-prefix : goal.returns-clause-prefix
returns-clause-prefix c ps qs xs ys p q same = no_prefix ps qs xs ys p q same
