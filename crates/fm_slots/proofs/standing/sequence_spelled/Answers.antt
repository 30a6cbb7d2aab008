-- Eight bytes are the spelling of the number that they read as.
use Rattle.std.proofs.Common.{◌≡◌, ℕ, sym, subst}
use Rattle.byteorder.specs.Endian.{big_bytes}
use Rattle.fm_outer.proofs.Numbers.{spells_eight}
use Rattle.fm_slots.proofs.standing.sequence_spelled.Goals as goal

pub returns : goal.returns
returns c = subst (λ (n : ℕ). big_bytes 8 n ≡ c.args.bytes.now) (sym c.read_u64.ensures)
    (spells_eight c.args.bytes.now c.told-bytes c.fits-bytes)
