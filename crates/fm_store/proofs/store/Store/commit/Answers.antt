-- The step is in the fault log, and what a crash leaves drains to the same.
use Rattle.fm_store.specs.StoreLimits.{store_of}
use Rattle.fm_store.proofs.StoreCommits.{commits_on_book}
use Rattle.fm_store.proofs.store.Store.commit.Goals as goal

pub returns-clause-book : goal.returns-clause-book
returns-clause-book g c =
    rw (← c.self.view_is) (λ fresh k st step.
    commits_on_book g.D.Disk g.met.D.Disk.counts_now fresh
    (store_of c.self.inside.logs c.self.inside.base) c.commit.new.self k c.args.own c.args.number
    _ _ c.commit.ensures.does c.commit.ensures.any_moment st step)
