use Rattle.std.proofs.Common.{◌-◌, length, drop}
use Rattle.fm_topo.specs.Line.{is_clean_byte}
use Rattle.fm_topo.proofs.Pieces.{all_take, all_drop}
use Rattle.fm_topo.proofs.words.inner.Goals as goal

pub text_of-requires : goal.text_of-requires
text_of-requires c =
    all_take is_clean_byte (length c.args.bytes.now - 1 - 1) (drop 1 c.args.bytes.now)
    (all_drop is_clean_byte 1 c.args.bytes.now c.requires.clean)
