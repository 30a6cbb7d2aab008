-- The entries were read, and their text made.
use Rattle.std.proofs.Common.{◌≡◌, ◌-◌, length, rules}
use Rattle.fm_dump.specs.Errors.{errors_text}
use Rattle.fm_admin.proofs.Dumps.{errors_told}
use Rattle.fm_admin.proofs.dumping.read_errors.Goals as goal

pub returns-in_err-entries-clause-undamaged : goal.returns-in_err-entries-clause-undamaged
returns-in_err-entries-clause-undamaged g c = λ fresh k stands.
    let undamaged = c.in_err-entries.ensures.undamaged fresh k stands in
    search rules

pub returns-clause-told : goal.returns-clause-told
returns-clause-told g c = λ fresh k stands.
    let told : c.in_ok-errors_of.field-0.items ≡ errors_text c.args.options.now
    (c.next_entry.result - length c.in_ok-entries.entries.items) c.in_ok-entries.entries.items =
    search rules in
    errors_told g.D.Disk fresh c.logged.new.self k c.args.options.now
    c.args.store.now.logs.active.first c.next_entry.result c.in_ok-entries.entries.items
    c.in_ok-errors_of.field-0.items (c.logged.ensures.book fresh k stands)
    c.next_entry.ensures.value (c.in_ok-entries.ensures.entries fresh k stands) told
