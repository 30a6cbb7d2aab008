use Rattle.std.proofs.Common.{rules}
use Rattle.fm_answers.specs.StreamsAt.{source_at, sink_at}
use Rattle.fm_top.specs.declared.tasks.StoreTask.TheVariants.{Accept, Admin, Repair, Explain}
use Rattle.fm_top.specs.declared.tasks.StoreTask.TheVariants.{Generate, GeneratedLines}
use Rattle.fm_top.proofs.TasksDone.{does_task}
use Rattle.fm_top.proofs.opened.do_task.Goals as goal

pub returns-in-Accept-clause-does : goal.returns-in-Accept-clause-does
returns-in-Accept-clause-does g c =
    does_task g.D.Disk _ Accept _ _ _ _ _ _ _ _ _ (search rules)
    (c.accept_lines.ensures.does c.args.hands.items c.args.conf.now)

pub returns-in-Admin-clause-does : goal.returns-in-Admin-clause-does
returns-in-Admin-clause-does g c =
    does_task g.D.Disk _ (Admin c.in-Admin.asked) _ _ _ _ _ _ _ _ _ (search rules)
    (c.tell_text.ensures.does (source_at g.S.Source c.args.streams.now.input.now)
    (sink_at g.K.Sink c.args.streams.now.out.now))

pub returns-in-Repair-clause-does : goal.returns-in-Repair-clause-does
returns-in-Repair-clause-does g c =
    does_task g.D.Disk _ (Repair c.in-Repair.request) _ _ _ _ _ _ _ _ _ (search rules)
    (c.repair_store.ensures.does (source_at g.S.Source c.args.streams.now.input.now)
    (sink_at g.K.Sink c.args.streams.now.out.now))

pub returns-in-Explain-clause-does : goal.returns-in-Explain-clause-does
returns-in-Explain-clause-does g c =
    does_task g.D.Disk _ (Explain c.in-Explain.uuid) _ _ _ _ _ _ _ _ _ (search rules)
    (c.explain_store.ensures.does (source_at g.S.Source c.args.streams.now.input.now)
    (sink_at g.K.Sink c.args.streams.now.out.now))

pub returns-in-Generate-clause-does : goal.returns-in-Generate-clause-does
returns-in-Generate-clause-does g c =
    does_task g.D.Disk _ (Generate c.in-Generate.number) _ _ _ _ _ _ _ _ _ (search rules)
    (c.generate_entries.ensures.does (source_at g.S.Source c.args.streams.now.input.now)
    (sink_at g.K.Sink c.args.streams.now.out.now))

pub returns-in-GeneratedLines-clause-does : goal.returns-in-GeneratedLines-clause-does
returns-in-GeneratedLines-clause-does g c =
    does_task g.D.Disk _ (GeneratedLines c.in-GeneratedLines.number) _ _ _ _ _ _ _ _ _
    (search rules)
    (c.list_entries.ensures.does c.args.hands.items
    (source_at g.S.Source c.args.streams.now.input.now)
    (sink_at g.K.Sink c.args.streams.now.out.now))
