-- What `from_utf8` says of the bytes, as a test.
use Rattle.std.proofs.Common.{◌≡◌, ℕ, Bool, true, false, List, refl}
use Rattle.std.specs.Str.{IsUtf8, is_utf8}
use Rattle.std.proofs.lemmas.Str.{is_utf8-from_IsUtf8, IsUtf8-from_is_utf8}
use Rattle.fm_bytes.proofs.input.as_text.Goals as goal

false_of : (b : Bool) → (b ≡ true → ⊥) → b ≡ false
false_of true no_true = absurd (no_true refl)
false_of false no_true = refl

not_text : (bytes : List ℕ) → (IsUtf8 bytes → ⊥) → is_utf8 bytes ≡ false
not_text bytes not = false_of (is_utf8 bytes) (λ e. not (IsUtf8-from_is_utf8 bytes e))

pub returns-in-Ok-clause-ok : goal.returns-in-Ok-clause-ok
returns-in-Ok-clause-ok c = is_utf8-from_IsUtf8 _ c.in-Ok.ensures.cases.1

pub returns-in-Err-clause-err : goal.returns-in-Err-clause-err
returns-in-Err-clause-err c = not_text _ c.in-Err.ensures.cases.0
