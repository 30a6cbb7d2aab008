-- The name of a disk that is lent: the reference's and the disk's own, as one number.
use Rattle.std.specs.Prelude.{ℕ, ◌+◌, ◌*◌, suc, zero}
use Rattle.fm_logs.specs.declared.disks.DiskName.{DiskName}
use Rattle.fm_logs.specs.declared.disks.DiskName.TheVariants.{Conf, ErrA, ErrB, SlotA, SlotB, Flt}

-- the pair of two numbers, as a number: the second doubled, and so often as the first says doubled
-- once more with 1
unfoldable pub paired : ℕ → ℕ → ℕ
paired zero n = n * 2
paired (suc m) n = paired m n * 2 + 1

-- the names of six disks, as one number
abbrev pub six_paired : (DiskName → ℕ) → ℕ
six_paired name =
    paired (name Conf) (paired (name ErrA) (paired (name ErrB)
    (paired (name SlotA) (paired (name SlotB) (name Flt)))))
