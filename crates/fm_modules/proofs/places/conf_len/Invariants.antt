-- The bytes so far.
use Rattle.std.proofs.Common.{◌≡◌, ◌+◌, ◌*◌, ◌≤◌, length, take}
use Rattle.std.specs.List.{flat_map}
use Rattle.fm_bytes.specs.Numbers.{long_text}
use Rattle.fm_modules.proofs.places.conf_len.Given as goal

abbrev pub invariant-rules : goal.invariant-rules
invariant-rules l =
    (l.count ≡ 21 + length l.conf.topo
    + length (flat_map long_text (take l.text-index l.text-items)))
    × (l.count ≤ 4294967317 + l.text-index * 4294967300)
