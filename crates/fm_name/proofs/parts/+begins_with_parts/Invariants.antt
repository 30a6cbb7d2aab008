use Rattle.std.proofs.Common.{length}
use Rattle.fm_name.proofs.parts.+begins_with_parts.Given as goal

abbrev pub decreases-begins_with_parts : goal.decreases-begins_with_parts
decreases-begins_with_parts l = length l.text.now
