use Rattle.std.proofs.Common.{◌≡◌, ◌++◌, length}
use Rattle.fm_gen.specs.Generated.{lines_text}
use Rattle.fm_gen.proofs.lines.generated_lines.Given as goal

abbrev pub invariant-entries : goal.invariant-entries
invariant-entries l = l.text.items ++ lines_text l.entries ≡ lines_text l.initial.entries

abbrev pub decreases-entries : goal.decreases-entries
decreases-entries l = length l.entries
