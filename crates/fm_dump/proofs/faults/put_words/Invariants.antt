use Rattle.std.proofs.Common.{◌≡◌, ◌++◌, drop}
use Rattle.std.specs.Prelude.{flat_map}
use Rattle.fm_dump.specs.Faults.{kept_lines}
use Rattle.fm_dump.proofs.faults.put_words.Given as goal

abbrev pub invariant-words : goal.invariant-words
invariant-words l =
    l.out.items ++ flat_map (kept_lines l.fn.options l.fn.namespace) (drop l.word-index l.words)
    ≡ l.initial.out.items ++ flat_map (kept_lines l.fn.options l.fn.namespace) l.words
