use Rattle.std.proofs.Common.{◌≡◌, ◌++◌, drop}
use Rattle.dx_step.specs.Repairs.{last_words, mark_words}
use Rattle.dx_said.proofs.marked.mark_words.Given as goal

abbrev pub invariant-loop-word : goal.invariant-loop-word
invariant-loop-word g l = record {
  left : l.marked.left
      ++ last_words l.time (g.C.Choice.chosen l.choice) l.mark (drop l.word-index l.words)
      ≡ last_words l.time (g.C.Choice.chosen l.choice) l.mark l.words;
  said : l.marked.said
      ++ mark_words l.time (g.C.Choice.chosen l.choice) l.mark (drop l.word-index l.words)
      ≡ mark_words l.time (g.C.Choice.chosen l.choice) l.mark l.words;
}
