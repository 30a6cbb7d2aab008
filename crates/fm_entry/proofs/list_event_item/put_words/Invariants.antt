-- What is written, and the spelling of what is left, is the whole.
use Rattle.std.proofs.Common.{◌≡◌, ◌++◌, drop, flat_map}
use Rattle.fm_entry.specs.WordBytes.{word_bytes}
use Rattle.fm_entry.proofs.list_event_item.put_words.Given as goal

abbrev pub invariant-items : goal.invariant-items
invariant-items l = l.out.items ++ flat_map word_bytes (drop l.word-index l.items)
    ≡ l.initial.out.items ++ flat_map word_bytes l.items
