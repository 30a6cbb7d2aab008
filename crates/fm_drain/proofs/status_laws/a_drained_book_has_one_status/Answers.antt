-- Rows in which each case has the same row are the same.
use Rattle.fm_drain.proofs.CaseWords.{one_status}
use Rattle.fm_drain.proofs.status_laws.a_drained_book_has_one_status.Goals as goal

pub returns : goal.returns
returns c = one_status
