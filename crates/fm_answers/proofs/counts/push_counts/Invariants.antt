use Rattle.std.proofs.Common.{◌≡◌, ◌++◌, take, string_bytes}
use Rattle.fm_answers.specs.Replaying.{count_lines}
use Rattle.fm_answers.proofs.counts.push_counts.Given as goal

abbrev pub invariant-loop-counted : goal.invariant-loop-counted
invariant-loop-counted l = string_bytes l.text ≡ string_bytes l.initial.text
    ++ count_lines (take l.counted-index l.counts)
