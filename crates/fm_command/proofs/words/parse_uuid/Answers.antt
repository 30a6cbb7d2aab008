use Rattle.std.proofs.Common.{ap, sym}
use Rattle.uuid.specs.Text.{parsed}
use Rattle.fm_command.proofs.Namespaces.{none_for}
use Rattle.fm_command.proofs.words.parse_uuid.Goals as goal

pub returns-in-Err : goal.returns-in-Err
returns-in-Err c =
    sym (none_for (parsed c.args.word.now) (parsed c.get.result.now) (ap parsed c.get.ensures.bytes)
    c.in-Err.ensures.ok.1)
