use Rattle.std.proofs.Common.{◌≡◌, drop}
use Rattle.ev_words.specs.Attributes.{t_value}
use Rattle.ev_check.specs.Defaults.{first_by}
use Rattle.ev_check.proofs.defaults.first_t.Given as goal

abbrev pub invariant-loop-attr : goal.invariant-loop-attr
invariant-loop-attr l = first_by t_value l.attrs ≡ first_by t_value (drop l.attr-index l.attrs)
