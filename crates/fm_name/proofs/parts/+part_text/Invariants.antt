use Rattle.fm_name.proofs.parts.+part_text.Given as goal

abbrev pub decreases-part_text : goal.decreases-part_text
decreases-part_text l = l.at
