-- A step more is the book that is worked on.
use Rattle.fm_logs.proofs.Books.{worked_stands, commit_moments}
use Rattle.fm_logs.proofs.laws.a_step_is_worked.Goals as goal

pub returns-clause-done : goal.returns-clause-done
returns-clause-done g c = λ old new fresh contents k i n frame st step commits.
    worked_stands g.D.Disk old new fresh contents k i n frame st step commits

pub returns-clause-any_moment : goal.returns-clause-any_moment
returns-clause-any_moment g c = λ old new fresh contents k i n frame st step leaves.
    commit_moments g.D.Disk old new fresh contents k i n frame st step leaves
