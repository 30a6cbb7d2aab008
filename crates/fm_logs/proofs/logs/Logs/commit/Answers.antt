-- The words stand in the fault log, and the cursor is one further.
use Rattle.std.proofs.Common.{rules, refl, ap, ◌∙◌, length, Some}
use Rattle.std.proofs.lemmas.Option.{slice_get_read}
use Rattle.fm_logs.proofs.Logged.{commits}
use Rattle.fm_logs.proofs.logs.Logs.commit.Goals as goal

pub returns-clause-does : goal.returns-clause-does
returns-clause-does g c =
    commits g.D.Disk c.args.self.now _ c.args.own c.args.number _ _ (search rules)
    (rw (← c.self.view_is)
    (slice_get_read c.self.inside.cursors.items (length c.self.inside.cursors.items) c.args.own
    c.index-cursor.result.now refl (rw (← c.self.view_is) at c.requires.known)
    c.index-cursor.ensures ∙ ap Some c.if-cursor-number.false))
    (rw (← c.self-2.view_is) at c.in_ok-append_words.ensures.done) c.in_ok-append_words.ensures.room
    refl (rw (← c.self-2.view_is) at (c.in_ok-append_words.ensures.keeps refl))
    (rw (← c.self-2.view_is) at c.in_ok-append_words.ensures.no_failure)

pub returns-clause-any_moment : goal.returns-clause-any_moment
returns-clause-any_moment g c =
    rw (← c.self-2.view_is) at c.in_ok-append_words.ensures.any_moment
