-- What is asked so far, with what the patterns ask that are left, is all.
use Rattle.std.proofs.Common.{◌≡◌, ◌++◌, length, map}
use Rattle.ev_tree.specs.Pattern.{view_pattern}
use Rattle.ev_inst.specs.Asked.{AreGivenAt, asked_of}
use Rattle.ev_guards.specs.Watched.{view_question}
use Rattle.ev_inst.specs.Guarding.{are_guards}
use Rattle.ev_inst.proofs.asked.questions_of.Given as goal

abbrev pub invariant-patterns : goal.invariant-patterns
invariant-patterns l = record {
  given : AreGivenAt l.binding.topo.now l.binding.names.now l.binding.instances.now l.effect l.node
      (map view_pattern l.rest) l.left;
  guards : are_guards l.binding.topo.now l.binding.names.now l.binding.instances.now
      (map view_pattern l.rest) l.node
      ≡ are_guards l.binding.topo.now l.binding.names.now l.binding.instances.now
      (map view_pattern l.patterns) l.node;
  asked : map view_question l.found.items ++ asked_of l.binding.topo.now l.binding.names.now
      l.binding.instances.now l.node (map view_pattern l.rest)
      ≡ asked_of l.binding.topo.now l.binding.names.now l.binding.instances.now l.node
      (map view_pattern l.patterns);
}

abbrev pub decreases-patterns : goal.decreases-patterns
decreases-patterns l = length l.rest
