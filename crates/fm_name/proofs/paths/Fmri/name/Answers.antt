use Rattle.fm_name.proofs.Cutting.{name_at}
use Rattle.fm_name.proofs.paths.Fmri.name.Goals as goal

pub returns : goal.returns
returns c = name_at c.args.self.now c.tail_of.result.now c.part_text.result.now
    c.read_part.result.0.now c.args.at c.part_text.ensures.same (cc) c.read_part.ensures.name
