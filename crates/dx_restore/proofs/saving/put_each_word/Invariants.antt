-- What is written, and the spelling of what is left, is the whole.
use Rattle.std.proofs.Common.{◌≡◌, ◌++◌, drop, flat_map}
use Rattle.fm_entry.specs.WordBytes.{word_bytes}
use Rattle.dx_restore.proofs.saving.put_each_word.Given as goal

abbrev pub invariant-loop-word : goal.invariant-loop-word
invariant-loop-word l =
    l.out.items ++ flat_map word_bytes (drop l.word-index l.words)
    ≡ l.initial.out.items ++ flat_map word_bytes l.words
