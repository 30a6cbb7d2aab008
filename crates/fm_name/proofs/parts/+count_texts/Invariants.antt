use Rattle.std.proofs.Common.{length}
use Rattle.fm_name.proofs.parts.+count_texts.Given as goal

abbrev pub decreases-count_texts : goal.decreases-count_texts
decreases-count_texts l = length l.text.now
