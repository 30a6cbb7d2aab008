-- The texts of the files that the loop has passed.
use Rattle.std.proofs.Common.{◌≡◌, map, take}
use Rattle.fm_top.proofs.init.texts_of.Given as goal

abbrev pub invariant-files : goal.invariant-files
invariant-files l = l.texts ≡ map (λ f. f.text.items) (take l.file-index l.files)
