use Rattle.ev_join.proofs.Rounds.{Asked}
use Rattle.ev_join.proofs.search.round.Given as goal

abbrev pub invariant-tables : goal.invariant-tables
invariant-tables l = Asked l.tables l.front l.value l.table-index l.least
