-- A drained book has one status, and rows want one list.
use Rattle.fm_drain.proofs.WantedOnce.{wanted_is, wanted_once}
use Rattle.fm_drain.proofs.wanting.a_drained_book_wants_one_list.Goals as goal

pub returns-clause-wanted : goal.returns-clause-wanted
returns-clause-wanted c = wanted_is

pub returns-clause-one : goal.returns-clause-one
returns-clause-one c = wanted_once
