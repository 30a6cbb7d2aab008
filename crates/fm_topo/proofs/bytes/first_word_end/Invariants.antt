use Rattle.std.proofs.Common.{◌≡◌, ◌+◌, drop, false}
use Rattle.fm_topo.specs.Word.{word_end}
use Rattle.fm_topo.proofs.bytes.first_word_end.Given as goal

abbrev pub invariant-loop-at : goal.invariant-loop-at
invariant-loop-at l = word_end false l.text ≡ l.at + word_end l.quoted (drop l.at l.text)
