use Rattle.std.proofs.Common.{◌≡◌, take}
use Rattle.ev_incidence.specs.Reached.{AddsNodes}
use Rattle.ev_incidence.proofs.searches.note_each.Given as goal

abbrev pub invariant-loop-number : goal.invariant-loop-number
invariant-loop-number l = record {
  adds : AddsNodes (take l.number-index l.numbers) l.initial.marked.items l.marked.items;
  size : l.marked.size ≡ l.initial.marked.size;
}
