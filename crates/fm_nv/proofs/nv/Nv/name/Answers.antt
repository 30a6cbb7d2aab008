-- A name is text.
use Rattle.std.proofs.Common.{ap, ◌∙◌}
use Rattle.std.specs.Str.{is_utf8}
use Rattle.std.proofs.lemmas.Str.{IsUtf8-from_is_utf8}
use Rattle.fm_bytes.proofs.Booleans.{and_parts}
use Rattle.fm_nv.proofs.nv.Nv.name.Goals as goal

pub unreachable-requires : goal.unreachable-requires
unreachable-requires c =
    let text = (and_parts (is_utf8 _) _ c.name_bytes.ensures.fits).0 in
    c.in-Err.ensures.cases.0 (IsUtf8-from_is_utf8 _ (ap is_utf8 c.name_bytes.ensures.name ∙ text))
