use Rattle.std.proofs.Common.{refl, rules, Some}
use Rattle.fm_answers.specs.StreamsAt.{sink_at}
use Rattle.fm_command.specs.declared.words.Command.TheVariants.{Accept, Fmd, Replay, Init, Esc}
use Rattle.fm_command.specs.declared.words.Command.TheVariants.{EscInput, Admin, Repair, Explain}
use Rattle.fm_command.specs.declared.words.Command.TheVariants.{Generate, GeneratedLines}
use Rattle.fm_top.proofs.AdminDoing.{does_tell}
use Rattle.fm_top.proofs.Doing.{does_as, does_accept, does_replay}
use Rattle.fm_top.proofs.Escs.{does_esc, does_input, esc_standing, input_standing}
use Rattle.fm_top.proofs.ExplainDoing.{does_explain}
use Rattle.fm_top.proofs.FmdDoing.{does_fmd}
use Rattle.fm_top.proofs.GenerateDoing.{does_generate, does_lines}
use Rattle.fm_top.proofs.Inits.{does_init, ends_standing}
use Rattle.fm_top.proofs.RepairDoing.{does_repair}
use Rattle.fm_top.proofs.RepairSpelled.{said_of}
use Rattle.fm_top.proofs.Wanting.{does_want}
use Rattle.fm_top.proofs.call.tool.Goals as goal

pub returns-in-Some-Accept-clause-does : goal.returns-in-Some-Accept-clause-does
returns-in-Some-Accept-clause-does g c =
    does_as _ (Some Accept) _ _ _ (search rules)
    (does_accept _ _ (sink_at g.K.Sink c.accept.new.out) c.accept.result _ c.accept.ensures.ran
    c.end-in-Some-Accept.ensures (record { rules = refl; topo = refl; acts = refl }))

pub returns-in-Some-Fmd-clause-does : goal.returns-in-Some-Fmd-clause-does
returns-in-Some-Fmd-clause-does g c =
    does_as _ (Some Fmd) _ _ _ (search rules)
    (does_fmd _ _ (sink_at g.K.Sink c.fmd.new.out) c.fmd.result _ c.fmd.ensures.ran
    c.end-in-Some-Fmd.ensures)

pub returns-in-Some-Replay-clause-does : goal.returns-in-Some-Replay-clause-does
returns-in-Some-Replay-clause-does g c =
    does_as _ (Some Replay) _ _ _ (search rules)
    (does_replay _ _ (sink_at g.K.Sink c.replay.new.out) c.replay.result _
    c.replay.ensures.all c.replay.ensures.until c.replay.ensures.counts_input
    c.replay.ensures.counts_out
    c.end-in-Some-Replay.ensures
    (record { rules = refl; topo = refl; acts = refl }) refl (λ image leaves. leaves))

pub returns-in-Some-Init-clause-does : goal.returns-in-Some-Init-clause-does
returns-in-Some-Init-clause-does g c =
    does_as _ (Some (Init c.in-Some-Init.namespace)) _ _ _ (search rules)
    (does_init _ _ _ c.init.result _
    (ends_standing g.S.Source _ _ _ _ _ _ _ c.init.result c.init.ensures.ends)
    c.end-in-Some-Init.ensures refl refl)

pub returns-in-Some-Esc-clause-does : goal.returns-in-Some-Esc-clause-does
returns-in-Some-Esc-clause-does g c =
    does_as _ (Some (Esc c.in-Some-Esc.form)) _ _ _ (search rules)
    (does_esc _ _ (sink_at g.K.Sink c.esc.new.out) _ c.esc.result _
    (esc_standing g.S.Source _ _ _ _ _ _ _ c.esc.result c.esc.ensures)
    c.end-in-Some-Esc.ensures refl refl refl (λ image leaves. leaves))

pub returns-in-Some-EscInput-clause-does : goal.returns-in-Some-EscInput-clause-does
returns-in-Some-EscInput-clause-does g c =
    does_as _ (Some EscInput) _ _ _ (search rules)
    (does_input _ _ (sink_at g.K.Sink c.esc_input.new.out) c.esc_input.result _
    (input_standing g.S.Source _ _ _ _ c.esc_input.result c.esc_input.ensures)
    c.end-in-Some-EscInput.ensures refl refl refl refl (λ image leaves. leaves))

pub returns-in-Some-Admin-clause-does : goal.returns-in-Some-Admin-clause-does
returns-in-Some-Admin-clause-does g c =
    does_as _ (Some (Admin c.in-Some-Admin.asked)) _ _ _ (search rules)
    (does_tell c.in-Some-Admin.asked _ _ (sink_at g.K.Sink c.tell.new.out) c.tell.result _
    c.tell.ensures.ran c.end-in-Some-Admin.ensures
    (record { rules = refl; topo = refl; acts = refl }) refl)

pub returns-in-Some-Repair-clause-does : goal.returns-in-Some-Repair-clause-does
returns-in-Some-Repair-clause-does g c =
    does_as _ (Some (Repair c.in-Some-Repair.request)) _ _ _ (search rules)
    (does_repair c.in-Some-Repair.request c.args.now _ _ (sink_at g.K.Sink c.repair.new.out)
    c.repair.result _ c.requires.moment
    (said_of c.args.words.now c.args.now c.in-Some-Repair.request (search rules))
    c.repair.ensures.ran c.end-in-Some-Repair.ensures refl refl refl)

pub returns-in-Some-Explain-clause-does : goal.returns-in-Some-Explain-clause-does
returns-in-Some-Explain-clause-does g c =
    does_as _ (Some (Explain c.in-Some-Explain.uuid)) _ _ _ (search rules)
    (does_explain c.in-Some-Explain.uuid _ _ (sink_at g.K.Sink c.explain.new.out)
    c.explain.result _ c.explain.ensures.ran c.end-in-Some-Explain.ensures
    (record { rules = refl; topo = refl; acts = refl }) refl)

pub returns-in-Some-Generate-clause-does : goal.returns-in-Some-Generate-clause-does
returns-in-Some-Generate-clause-does g c =
    does_as _ (Some (Generate c.in-Some-Generate.number)) _ _ _ (search rules)
    (does_generate c.in-Some-Generate.number _ _ (sink_at g.K.Sink c.generate.new.out)
    c.generate.result _ c.generate.ensures.ran c.end-in-Some-Generate.ensures refl refl
    refl)

pub returns-in-Some-GeneratedLines-clause-does : goal.returns-in-Some-GeneratedLines-clause-does
returns-in-Some-GeneratedLines-clause-does g c =
    does_as _ (Some (GeneratedLines c.in-Some-GeneratedLines.number)) _ _ _ (search rules)
    (does_lines c.in-Some-GeneratedLines.number _ _
    (sink_at g.K.Sink c.put_generated.new.out) c.put_generated.result _
    c.put_generated.ensures.ran c.end-in-Some-GeneratedLines.ensures
    (record { rules = refl; topo = refl; acts = refl }) refl)

pub returns-in-Err-clause-does : goal.returns-in-Err-clause-does
returns-in-Err-clause-does g c =
    does_want _ c.args.now _ _ c.end.result c.requires.moment
    (said_of c.args.words.now c.args.now) c.in-Err.ensures.wanted c.end.ensures
    (record { rules = refl; topo = refl; acts = refl }) refl
    (λ name. record { seen = refl; images = λ image is. is })
