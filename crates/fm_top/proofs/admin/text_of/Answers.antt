use denote.Param.Send.{sendable}
use Rattle.dx_engine.proofs.Crossing.{diagnoser_send}
use Rattle.fm_command.specs.declared.words.AdminCommand.TheVariants.{Config, Dump, Faulty, Rotate}
use Rattle.fm_top.proofs.Texts.{done_as, faulty_done}
use Rattle.fm_top.proofs.admin.text_of.Goals as goal

pub tell_faulty-requires-send-M : goal.tell_faulty-requires-send-M
tell_faulty-requires-send-M g c κs = search (diagnoser_send, sendable)

pub returns-in-Faulty-clause-did : goal.returns-in-Faulty-clause-did
returns-in-Faulty-clause-did g c =
    done_as g.D.Disk c.args.asked.now Faulty c.args.store.now c.tell_faulty.new.store
    c.args.hands.items c.args.conf.now c.tell_faulty.result c.in-Faulty.is
    (faulty_done g.D.Disk c.args.store.now c.tell_faulty.new.store c.args.hands.items
    c.args.conf.now c.requires.ready c.tell_faulty.result c.tell_faulty.ensures.drained
    c.tell_faulty.ensures.refused c.tell_faulty.ensures.book)

pub returns-in-Config-clause-did : goal.returns-in-Config-clause-did
returns-in-Config-clause-did g c =
    done_as g.D.Disk c.args.asked.now Config c.args.store.now c.drained_conf.new.store
    c.args.hands.items c.args.conf.now c.drained_conf.result c.in-Config.is
    c.drained_conf.ensures.did

pub returns-in-Dump-clause-did : goal.returns-in-Dump-clause-did
returns-in-Dump-clause-did g c =
    done_as g.D.Disk c.args.asked.now (Dump c.in-Dump.options) c.args.store.now
    c.dump_text.new.store c.args.hands.items c.args.conf.now c.dump_text.result c.in-Dump.is
    c.dump_text.ensures.did

pub returns-in-Rotate-clause-did : goal.returns-in-Rotate-clause-did
returns-in-Rotate-clause-did g c =
    done_as g.D.Disk c.args.asked.now Rotate c.args.store.now c.rotate.new.store
    c.args.hands.items c.args.conf.now c.rotate.result c.in-Rotate.is
    (c.rotate.ensures.did c.args.conf.now)
