-- The piece has sixteen bytes.
use Rattle.fm_saved.proofs.SavedReader.{piece_length}
use Rattle.fm_saved.proofs.conf_bytes.take_namespace.Goals as goal

pub copy_from_slice-requires : goal.copy_from_slice-requires
copy_from_slice-requires c = piece_length 16 _ _ c.in_ok-piece.ensures.ok
