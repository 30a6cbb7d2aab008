-- Each answer is a lemma over the journal's value, with what the body and the disk's calls say.
use Rattle.std.proofs.Common.{refl, sym, ◌∙◌}
use Rattle.fm_journal.proofs.Added.{append_leaves, append_keeps}
use Rattle.fm_journal.proofs.journal.Journal.append.Goals as goal

pub returns-in-Ok-clause-list : goal.returns-in-Ok-clause-list
returns-in-Ok-clause-list g c =
    rw (← c.self.view_is) (λ done payloads keeps. append_keeps g.D.Disk _ payloads
    c.args.frame.now keeps c.self.invariant c.body-body.ensures.short c.body-body.result.now
    c.body-body.ensures.bytes (sym c.refused.ensures ∙ c.in_default.is) _ refl keeps.is_open refl
    refl c.in-Ok.ensures.written c.in-Ok.ensures.settled)

pub returns-in-Ok-clause-any_moment : goal.returns-in-Ok-clause-any_moment
returns-in-Ok-clause-any_moment g c =
    rw (← c.self.view_is) (λ payloads keeps. append_leaves g.D.Disk _ payloads c.args.frame.now
    keeps c.self.invariant c.body-body.ensures.short c.body-body.result.now
    c.body-body.ensures.bytes (sym c.refused.ensures ∙ c.in_default.is) c.add.new.disk
    c.add.ensures.any_moment)

pub returns-in-Err-clause-any_moment : goal.returns-in-Err-clause-any_moment
returns-in-Err-clause-any_moment g c =
    rw (← c.self.view_is) (λ payloads keeps. append_leaves g.D.Disk _ payloads c.args.frame.now
    keeps c.self.invariant c.body-body.ensures.short c.body-body.result.now
    c.body-body.ensures.bytes (sym c.refused.ensures ∙ c.in_default.is) c.add.new.disk
    c.add.ensures.any_moment)
