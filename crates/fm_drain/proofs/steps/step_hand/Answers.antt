-- The step was committed, or it wasn't.
use Rattle.std.proofs.Common.{◌≡◌, ◌<◌, ℕ, List, Option, Ok, length, sym, ◌∙◌, ap, subst, arith}
use Rattle.std.specs.Option.{option_copied}
use Rattle.fm_core.specs.Outcome.{kept_record}
use Rattle.fm_logs.specs.LogsOf.{CommitDoes, Frames}
use Rattle.fm_logs.specs.declared.logs.Committed.{Committed}
use Rattle.fm_store.specs.StoreCalls.{CommitsOnBook}
use Rattle.std.proofs.lemmas.Option.{slice_get_within}
use Rattle.fm_drain.proofs.HandLaws.{book_same}
use Rattle.fm_drain.proofs.StepLaws.{done_does, refused_does, unframed_does, step_is}
use Rattle.fm_drain.proofs.StepLaws.{FramesShort, step_unmade, done_on_book, refused_on_book}
use Rattle.fm_drain.proofs.StepLimits.{refused_limit, unframed_limit}
use Rattle.fm_drain.proofs.steps.step_hand.Goals as goal

pub step-requires-clause-number : goal.step-requires-clause-number
step-requires-clause-number g c = omega (arith, c.requires.more, c.requires.fits)

pub words_frame-requires-clause-number_fits : goal.words_frame-requires-clause-number_fits
words_frame-requires-clause-number_fits g c =
    let is : c.in-Ok.spoken.number ≡ c.args.hand.cursor =
    ap (λ s. s.number) c.in-Ok.ensures.words in
    omega (arith, is, c.requires.more, c.requires.fits)

pub commit-requires-clause-known : goal.commit-requires-clause-known
commit-requires-clause-known g c =
    subst (λ (n : ℕ). n < length c.args.store.now.logs.cursors) (sym c.module-own.ensures)
    (slice_get_within c.args.store.now.logs.cursors c.args.hand.number c.args.hand.cursor
    c.requires.at_cursor.cursor_is)

pub commit-requires-clause-few : goal.commit-requires-clause-few
commit-requires-clause-few g c =
    omega (arith, c.cursor-number.ensures, c.requires.more, c.requires.fits)

pub returns-in-Ok-Done-clause-does : goal.returns-in-Ok-Done-clause-does
returns-in-Ok-Done-clause-does g c =
    done_does g.D.Disk g.M.Module c.args.store.now c.commit.new.self c.args.hand c.in-Ok.hand
    c.entry_at.result.now c.module-own.result c.cursor-number.result c.requires.at_cursor
    c.module-own.ensures c.cursor-number.ensures c.entry_at.ensures.entry c.in-Ok.ensures.hand _ _
    c.in-Ok-Done.ensures.base_same
    (subst (λ (a : Committed). CommitDoes g.D.Disk c.args.store.now.logs c.commit.new.self.logs
    c.module-own.result c.cursor-number.result (option_copied c.as_ref.result) (Ok a))
    c.in-Ok-Done.field-0-is
    c.in-Ok-Done.ensures.does)

pub returns-in-Ok-Done-clause-book : goal.returns-in-Ok-Done-clause-book
returns-in-Ok-Done-clause-book g c = λ fresh k st follows.
    done_on_book g.D.Disk g.M.Module fresh c.args.store.now c.commit.new.self k c.module-own.result
    tt
    (subst (λ (a : Committed). CommitsOnBook g.D.Disk fresh c.args.store.now c.commit.new.self k
    c.module-own.result (Ok a)) c.in-Ok-Done.field-0-is
    (c.in-Ok-Done.ensures.book fresh k st (step_is g.D.Disk g.M.Module c.args.store.now
    c.commit.new.self c.args.hand c.in-Ok.hand c.entry_at.result.now c.module-own.result
    c.cursor-number.result c.requires.at_cursor c.module-own.ensures c.cursor-number.ensures
    c.entry_at.ensures.entry c.in-Ok.ensures.hand fresh k c.in-Ok.spoken _ c.in-Ok.ensures.words
    (subst (λ (o : Option (List ℕ)). Frames o (kept_record c.in-Ok.spoken))
    (sym c.as_ref.ensures.value) c.in-Ok-words_frame.ensures.ok) st follows)))

pub returns-in-Ok-words_frame-clause-does : goal.returns-in-Ok-words_frame-clause-does
returns-in-Ok-words_frame-clause-does g c =
    refused_does g.D.Disk g.M.Module c.args.store.now c.commit.new.self c.args.hand c.in-Ok.hand
    c.entry_at.result.now c.module-own.result c.cursor-number.result c.requires.at_cursor
    c.module-own.ensures c.cursor-number.ensures c.entry_at.ensures.entry c.in-Ok.ensures.hand
    c.in-Ok.spoken _ c.in-Err-commit.fault c.in-Err-commit.ensures.base_same
    (sym c.closed.ensures ∙ c.in_default.is) c.in-Ok.ensures.words
    (subst (FramesShort c.in-Ok.spoken) (sym c.as_ref.ensures.value)
    c.in-Ok-words_frame.ensures.short) c.in-Err-commit.ensures.does

pub returns-in-Ok-words_frame-clause-book : goal.returns-in-Ok-words_frame-clause-book
returns-in-Ok-words_frame-clause-book g c = λ fresh k st follows.
    refused_on_book g.D.Disk g.M.Module fresh c.args.store.now c.commit.new.self k
    c.module-own.result c.cursor-number.result _ c.in-Err-commit.fault
    c.in-Err-commit.ensures.base_same st c.in-Err-commit.ensures.does
    (refused_limit g.D.Disk g.M.Module fresh c.args.store.now c.commit.new.self k c.args.hand
    c.in-Ok.hand c.entry_at.result.now c.module-own.result c.cursor-number.result
    c.requires.at_cursor c.cursor-number.ensures c.entry_at.ensures.entry c.in-Ok.spoken
    c.in-Ok.ensures.words st follows _ c.in-Err-commit.fault
    (subst (λ (o : Option (List ℕ)). Frames o (kept_record c.in-Ok.spoken))
    (sym c.as_ref.ensures.value) c.in-Ok-words_frame.ensures.ok)
    (subst (FramesShort c.in-Ok.spoken) (sym c.as_ref.ensures.value)
    c.in-Ok-words_frame.ensures.short) c.in-Err-commit.ensures.does)
    (c.in-Err-commit.ensures.book fresh k st (step_is g.D.Disk g.M.Module c.args.store.now
    c.commit.new.self c.args.hand c.in-Ok.hand c.entry_at.result.now c.module-own.result
    c.cursor-number.result c.requires.at_cursor c.module-own.ensures c.cursor-number.ensures
    c.entry_at.ensures.entry c.in-Ok.ensures.hand fresh k c.in-Ok.spoken _ c.in-Ok.ensures.words
    (subst (λ (o : Option (List ℕ)). Frames o (kept_record c.in-Ok.spoken))
    (sym c.as_ref.ensures.value) c.in-Ok-words_frame.ensures.ok) st follows))

pub returns-in-Ok-clause-does : goal.returns-in-Ok-clause-does
returns-in-Ok-clause-does g c =
    unframed_does g.D.Disk g.M.Module c.args.store.now c.args.store.now c.args.hand c.in-Ok.hand
    c.entry_at.result.now c.module-own.result c.cursor-number.result c.requires.at_cursor
    c.module-own.ensures c.cursor-number.ensures c.entry_at.ensures.entry c.in-Ok.ensures.hand
    c.in-Ok.spoken c.in-Err-words_frame.fault (sym c.closed.ensures ∙ c.in_default.is)
    c.in-Ok.ensures.words c.in-Err-words_frame.ensures.err

pub returns-in-Ok-clause-book : goal.returns-in-Ok-clause-book
returns-in-Ok-clause-book g c = λ fresh k st follows.
    book_same g.D.Disk g.M.Module g.met.D.Disk.only_now fresh c.args.store.now k _ st
    (unframed_limit g.D.Disk g.M.Module fresh c.args.store.now c.args.store.now k c.args.hand
    c.in-Ok.hand c.entry_at.result.now c.module-own.result c.cursor-number.result
    c.requires.at_cursor c.cursor-number.ensures c.entry_at.ensures.entry c.in-Ok.spoken
    c.in-Ok.ensures.words st follows c.in-Err-words_frame.fault c.in-Err-words_frame.ensures.err)

pub returns-clause-does : goal.returns-clause-does
returns-clause-does g c =
    step_unmade g.D.Disk g.M.Module c.args.store.now c.args.hand c.in-Err.hand
    c.requires.at_cursor c.in-Err.ensures.err

pub returns-clause-book : goal.returns-clause-book
returns-clause-book g c = λ fresh k st follows.
    book_same g.D.Disk g.M.Module g.met.D.Disk.only_now fresh c.args.store.now k _ st tt
