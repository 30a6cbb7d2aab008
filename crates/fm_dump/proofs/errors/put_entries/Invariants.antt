use Rattle.std.proofs.Common.{◌≡◌, ◌+◌, ◌++◌, drop}
use Rattle.fm_dump.specs.Errors.{errors_text}
use Rattle.fm_dump.specs.Kept.{IsTextFront}
use Rattle.fm_dump.proofs.errors.put_entries.Given as goal

-- what is left of the entries gives what is left to write
abbrev pub invariant-entries : goal.invariant-entries
invariant-entries l = record {
  whole : l.out.items ++ errors_text l.fn.options (l.fn.first + l.at) (drop l.at l.fn.entries)
      ≡ l.initial.out.items ++ errors_text l.fn.options l.fn.first l.fn.entries;
  behind : IsTextFront l.initial.out.items l.out.items;
}
