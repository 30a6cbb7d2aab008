-- The text that was copied is text, since it came as a `&str`.
use Rattle.std.proofs.lemmas.Str.{is_utf8-from_IsUtf8}
use Rattle.fm_bytes.proofs.text.Text.new.Goals as goal

pub invariant_of-result : goal.invariant_of-result
invariant_of-result c =
    let e = c.in_ok-text.ensures.ok in
    rw e (is_utf8-from_IsUtf8 _ c.utf8.text)
