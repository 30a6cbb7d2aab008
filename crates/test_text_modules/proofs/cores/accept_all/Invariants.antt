-- The core stays in order from line to line.
use Rattle.fm_core.specs.Seen.{seen}
use Rattle.test_text_modules.specs.Ones.{IsOne}
use Rattle.test_text_modules.proofs.cores.accept_all.Given as goal

abbrev pub invariant-lines : goal.invariant-lines
invariant-lines g l = IsOne (seen g.M.Module l.core)
