use Rattle.std.proofs.Common.{◌≡◌, take, false}
use Rattle.std.specs.List.{list_any}
use Rattle.fm_name.specs.Category.{category_of}
use Rattle.ev_words.specs.Attributes.{is_misplaced}
use Rattle.ev_words.proofs.attributes.any_misplaced.Given as goal

abbrev pub invariant-loop-attr : goal.invariant-loop-attr
invariant-loop-attr l =
    list_any (is_misplaced (category_of l.class)) (take l.attr-index l.attrs) ≡ false
