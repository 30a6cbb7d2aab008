use Rattle.std.proofs.Common.{◌≡◌, IfOk, IfErr, Some, None, Option, sym, subst, rules, ap, ◌∙◌}
use Rattle.uuid.specs.Text.{parsed}
use Rattle.clap.specs.Matches.{found_of}
use Rattle.clap.specs.Walk.{rows_of}
use Rattle.fm_text.specs.Time.{time_of}
use Rattle.fm_dump.specs.declared.options.DumpOptions.{DumpOptions}
use Rattle.fm_dump.specs.declared.options.DumpFault.TheVariants.{Usage}
use Rattle.fm_dump.specs.Options.{is_true, pattern_text, value_by}
use Rattle.fm_dump.proofs.Values.{all_read}
use Rattle.fm_dump.proofs.options.options_in.Goals as goal

pub returns-clause-ok : goal.returns-clause-ok
returns-clause-ok c =
    let read = all_read (rows_of (found_of c.args.matches.now)) c.is_true-errors.result
    c.is_true-full.result c.in_ok-class.class c.in_ok-case.case c.in_ok-from.from c.in_ok-to.to
    (c.is_true-errors.ensures ∙ ap is_true c.text_of.ensures)
    (c.is_true-full.ensures ∙ ap is_true c.text_of-2.ensures)
    (ap (value_by pattern_text) (sym c.text_of-3.ensures) ∙ c.in_ok-class.ensures.ok)
    (ap (value_by parsed) (sym c.text_of-4.ensures) ∙ c.in_ok-case.ensures.ok)
    (ap (value_by time_of) (sym c.text_of-5.ensures) ∙ c.in_ok-from.ensures.ok)
    (ap (value_by time_of) (sym c.text_of-6.ensures) ∙ c.in_ok-to.ensures.ok) in
    subst (λ (found : Option DumpOptions). IfOk c.allow.result (λ o. found ≡ Some o)) (sym read)
    c.allow.ensures.ok

pub returns-clause-usage : goal.returns-clause-usage
returns-clause-usage c =
    let read = all_read (rows_of (found_of c.args.matches.now)) c.is_true-errors.result
    c.is_true-full.result c.in_ok-class.class c.in_ok-case.case c.in_ok-from.from c.in_ok-to.to
    (c.is_true-errors.ensures ∙ ap is_true c.text_of.ensures)
    (c.is_true-full.ensures ∙ ap is_true c.text_of-2.ensures)
    (ap (value_by pattern_text) (sym c.text_of-3.ensures) ∙ c.in_ok-class.ensures.ok)
    (ap (value_by parsed) (sym c.text_of-4.ensures) ∙ c.in_ok-case.ensures.ok)
    (ap (value_by time_of) (sym c.text_of-5.ensures) ∙ c.in_ok-from.ensures.ok)
    (ap (value_by time_of) (sym c.text_of-6.ensures) ∙ c.in_ok-to.ensures.ok) in
    subst (λ (found : Option DumpOptions). IfErr c.allow.result (λ f. f ≡ Usage → found ≡ None))
    (sym read) (search rules)
