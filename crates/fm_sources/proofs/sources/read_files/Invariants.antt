use Rattle.fm_sources.proofs.Given.{GaveUpTo}
use Rattle.fm_sources.proofs.sources.read_files.Given as goal

abbrev pub invariant-files : goal.invariant-files
invariant-files g l = GaveUpTo g.S.Source l.number l.initial.rules l.rules l.files.items
