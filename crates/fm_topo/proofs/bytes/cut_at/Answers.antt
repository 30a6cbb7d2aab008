use Rattle.std.proofs.Common.{◌+◌}
use Rattle.fm_topo.specs.Line.{is_clean_byte}
use Rattle.fm_topo.proofs.Pieces.{all_take, rest_clean}
use Rattle.fm_topo.proofs.bytes.cut_at.Goals as goal

pub returns-then-at-text-clause-clean : goal.returns-then-at-text-clause-clean
returns-then-at-text-clause-clean c = (
  all_take is_clean_byte c.find_byte-at.result c.args.text.now c.requires,
  rest_clean (c.find_byte-at.result + 1) c.args.text.now c.requires,
)
