-- What is written, and the spelling of the texts that are left, is the whole; and those are texts.
use Rattle.std.proofs.Common.{◌≡◌, ◌++◌, drop, IsTrue, flat_map}
use Rattle.std.specs.List.{list_all}
use Rattle.fm_bytes.specs.Numbers.{long_text}
use Rattle.fm_nv.specs.Spelled.{is_text}
use Rattle.fm_nv.proofs.write.put_texts.Given as goal

abbrev pub invariant-items : goal.invariant-items
invariant-items l =
    (l.out.items ++ flat_map long_text (drop l.text-index l.items) ≡ l.initial.out.items
    ++ flat_map long_text l.items)
    × IsTrue (list_all is_text (drop l.text-index l.items))
