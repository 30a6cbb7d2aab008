use Rattle.std.proofs.Common.{sym}
use Rattle.uuid.specs.Text.{parsed}
use Rattle.fm_dump.proofs.Values.{none_from}
use Rattle.fm_dump.proofs.options.parse_uuid.Goals as goal

pub returns-in-Err : goal.returns-in-Err
returns-in-Err c = sym (none_from (parsed c.args.text.now) c.in-Err.ensures.ok.1)
