use Rattle.std.proofs.Common.{◌≡◌, length}
use Rattle.ev_ways.specs.Lists.{IsIndexOf}
use Rattle.ev_ways.proofs.index.note_all.Given as goal

abbrev pub invariant-loop-row : goal.invariant-loop-row
invariant-loop-row l = record {
  same_length : length l.uses ≡ length l.initial.uses;
  counted : l.arrow ≡ l.row-index;
  index : IsIndexOf l.row-index l.rows l.uses;
}
