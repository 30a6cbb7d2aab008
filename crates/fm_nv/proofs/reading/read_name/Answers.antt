-- A text of 1 to 255 bytes is a name.
use Rattle.std.proofs.Common.{◌≡◌, ◌<◌, ◌≤◌, ℕ, List, length, nat_lt, Some, IsTrue, arith}
use Rattle.std.specs.Str.{is_utf8}
use Rattle.std.proofs.lemmas.Bool.{lt-ltb, le-leb}
use Rattle.std.proofs.lemmas.Result.{IfOk-weaker}
use Rattle.fm_bytes.specs.Reading.{text_of_length}
use Rattle.fm_nv.specs.Spelled.{is_pair_name}
use Rattle.fm_bytes.proofs.Booleans.{and_true}
use Rattle.fm_bytes.proofs.Readers.{text_sound}
use Rattle.fm_nv.proofs.reading.read_name.Goals as goal

sized_text : (n : ℕ) (bytes t rest : List ℕ) → 0 < n → n ≤ 255
    → text_of_length n bytes ≡ Some (t, rest) → IsTrue (is_pair_name t)
sized_text n bytes t rest above most h =
    let text = text_sound n bytes (t, rest) h in
    let size : length t ≡ n = text.0 in
    and_true (is_utf8 t) _ text.1
    (and_true (nat_lt 0 (length t)) _ (lt-ltb 0 (length t) (omega arith))
    (le-leb (length t) 255 (omega arith)))

pub returns-clause-fits : goal.returns-clause-fits
returns-clause-fits c =
    let above : 0 < c.from.result = omega (arith, c.from.ensures, c.if-length-eq0.false) in
    let most : c.from.result ≤ 255 = omega (arith, c.from.ensures) in
    IfOk-weaker c.take_text.result _ _ (λ t h. sized_text _ _ t.now _ above most h)
    c.take_text.ensures.ok
