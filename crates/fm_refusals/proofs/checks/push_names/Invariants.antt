-- What is written, and the text of what is left, is the whole.
use Rattle.std.proofs.Common.{◌≡◌, ◌++◌, drop, flat_map}
use Rattle.std.specs.Prelude.{string_bytes}
use Rattle.fm_refusals.specs.Refusals.{behind_slash}
use Rattle.fm_refusals.proofs.checks.push_names.Given as goal

abbrev pub invariant-others : goal.invariant-others
invariant-others l =
    string_bytes l.line ++ flat_map behind_slash (drop l.other-index l.others)
    ≡ string_bytes l.initial.line ++ flat_map behind_slash l.others
