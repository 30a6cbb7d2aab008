-- The texts that the loop has passed are those of the files.
use Rattle.std.proofs.Common.{length, ◌-◌, ◌≡◌, map, take}
use Rattle.fm_top.proofs.as_read.are_texts_of.Given as goal

abbrev pub invariant-texts : goal.invariant-texts
invariant-texts l = take l.at l.texts ≡ map (λ f. f.text.items) (take l.at l.files)

abbrev pub decreases-texts : goal.decreases-texts
decreases-texts l = length l.texts - l.at
