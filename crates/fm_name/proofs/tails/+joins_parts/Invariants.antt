use Rattle.fm_name.proofs.tails.+joins_parts.Given as goal

abbrev pub decreases-joins_parts : goal.decreases-joins_parts
decreases-joins_parts l = l.room
