-- Four bytes are the spelling of the number that they read as.
use Rattle.std.proofs.Common.{◌≡◌, ℕ, sym, subst}
use Rattle.byteorder.specs.Endian.{big_bytes}
use Rattle.fm_outer.proofs.Numbers.{spells_four}
use Rattle.fm_slots.proofs.standing.count_spelled.Goals as goal

pub returns : goal.returns
returns c = subst (λ (n : ℕ). big_bytes 4 n ≡ c.args.bytes.now) (sym c.read_u32.ensures)
    (spells_four c.args.bytes.now c.told-bytes c.fits-bytes)
