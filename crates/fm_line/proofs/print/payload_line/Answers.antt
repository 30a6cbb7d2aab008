use Rattle.std.proofs.Common.{◌∙◌, ap}
use Rattle.serde_json.specs.Written.{compact_text, has_float}
use Rattle.fm_line.proofs.Floatless.{payload_floatless}
use Rattle.fm_line.proofs.print.payload_line.Goals as goal

pub returns : goal.returns
returns c =
    c.in_ok-to_string.ensures.text (ap has_float c.in_ok-object.ensures
    ∙ payload_floatless c.args.payload.now)
    ∙ ap compact_text c.in_ok-object.ensures
