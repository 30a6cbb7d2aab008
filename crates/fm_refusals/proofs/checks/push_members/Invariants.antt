-- What is written, and the text of what is left, is the whole.
use Rattle.std.proofs.Common.{◌≡◌, ◌++◌, drop, flat_map}
use Rattle.std.specs.Prelude.{string_bytes}
use Rattle.fm_refusals.specs.Refusals.{behind_space}
use Rattle.fm_refusals.proofs.checks.push_members.Given as goal

abbrev pub invariant-members : goal.invariant-members
invariant-members l =
    string_bytes l.line ++ flat_map behind_space (drop l.member-index l.members)
    ≡ string_bytes l.initial.line ++ flat_map behind_space l.members
