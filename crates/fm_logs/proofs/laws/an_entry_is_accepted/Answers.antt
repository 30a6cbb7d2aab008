-- An entry more is the accepted book.
use Rattle.fm_logs.proofs.Books.{accepted_stands, accept_moments}
use Rattle.fm_logs.proofs.laws.an_entry_is_accepted.Goals as goal

pub returns-clause-done : goal.returns-clause-done
returns-clause-done g c = λ old new fresh contents k e n st lawful takes.
    accepted_stands g.D.Disk old new fresh contents k e n st lawful takes

pub returns-clause-any_moment : goal.returns-clause-any_moment
returns-clause-any_moment g c = λ old new fresh contents k e st lawful leaves.
    accept_moments g.D.Disk old new fresh contents k e st lawful leaves
