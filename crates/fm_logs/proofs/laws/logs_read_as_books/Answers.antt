-- Each image reads as the book.
use Rattle.fm_logs.proofs.Books.{reads_now}
use Rattle.fm_logs.proofs.laws.logs_read_as_books.Goals as goal

pub returns : goal.returns
returns g c = λ logs fresh contents k st. reads_now g.D.Disk logs fresh contents k st
