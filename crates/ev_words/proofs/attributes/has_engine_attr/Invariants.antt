use Rattle.std.proofs.Common.{◌≡◌, take, false}
use Rattle.std.specs.List.{list_any}
use Rattle.ev_words.specs.Attributes.{is_engine_attr}
use Rattle.ev_words.proofs.attributes.has_engine_attr.Given as goal

abbrev pub invariant-loop-attr : goal.invariant-loop-attr
invariant-loop-attr l = list_any (is_engine_attr l.word) (take l.attr-index l.attrs) ≡ false
