use Rattle.std.proofs.Common.{codes}
use Rattle.fm_dump.proofs.Commands.{bare_from, added}
use Rattle.fm_dump.proofs.command.dump_command.Goals as goal

pub returns : goal.returns
returns c =
    let bare = bare_from c.new.result c.no_binary_name.result c.disable_help_flag.result
    c.disable_version_flag-command.result (codes "fmdump") c.new.ensures.app
    c.no_binary_name.ensures c.disable_help_flag.ensures c.disable_version_flag-command.ensures in
    let errors = added _ _ _ _ _ c.in_ok-arg.ensures c.flag.ensures.own bare c.flag.ensures.rule in
    let full =
    added _ _ _ _ _ c.in_ok-arg-2.ensures c.flag-2.ensures.own errors c.flag-2.ensures.rule in
    let class =
    added _ _ _ _ _ c.in_ok-arg-3.ensures c.valued.ensures.own full c.valued.ensures.rule in
    let case =
    added _ _ _ _ _ c.in_ok-arg-4.ensures c.valued-2.ensures.own class c.valued-2.ensures.rule in
    let from =
    added _ _ _ _ _ c.in_ok-arg-5.ensures c.valued-3.ensures.own case c.valued-3.ensures.rule in
    added _ _ _ _ _ c.in_ok-command.ensures c.valued-4.ensures.own from c.valued-4.ensures.rule
