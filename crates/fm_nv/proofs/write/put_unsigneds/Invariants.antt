-- What is written, and the spelling of the numbers that are left, is the whole.
use Rattle.std.proofs.Common.{◌≡◌, ◌++◌, drop, flat_map}
use Rattle.fm_bytes.specs.Numbers.{u64_bytes}
use Rattle.fm_nv.proofs.write.put_unsigneds.Given as goal

abbrev pub invariant-items : goal.invariant-items
invariant-items l = l.out.items ++ flat_map u64_bytes (drop l.number-index l.items)
    ≡ l.initial.out.items ++ flat_map u64_bytes l.items
