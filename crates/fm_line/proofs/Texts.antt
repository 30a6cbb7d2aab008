-- Bytes that are a text.
use Rattle.std.proofs.Common.{◌≡◌, ℕ, List, true, false, cond, Some, None, refl, sym, ap, ◌∙◌}
use Rattle.std.proofs.Common.{option_and_then}
use Rattle.std.specs.Str.{is_utf8, IsUtf8}
use Rattle.std.proofs.lemmas.Str.{is_utf8-from_IsUtf8, IsUtf8-from_is_utf8}
use Rattle.serde_json.specs.Data.{Data}
use Rattle.serde_json.specs.Read.{read}
use Rattle.fm_line.specs.Forms.{text_of, json_of}

pub text_of_text : (bytes text : List ℕ) → text ≡ bytes → IsUtf8 bytes → Some text ≡ text_of bytes
unfolding text_of
text_of_text bytes text same utf8 = ap Some same
    ∙ ap (λ t. cond t (Some bytes) None) (sym (is_utf8-from_IsUtf8 bytes utf8))

pub text_of_none : (bytes : List ℕ) → ¬ (IsUtf8 bytes) → None ≡ text_of bytes
unfolding text_of
text_of_none bytes other =
    elim (is_utf8 bytes) as (λ t. is_utf8 bytes ≡ t → None ≡ cond t (Some bytes) None) [
      | true ↦ λ e. absurd (other (IsUtf8-from_is_utf8 bytes e))
      | false ↦ λ e. refl
    ] refl

-- what is read of the bytes of a text is what they are as JSON
pub json_reads : (bytes line : List ℕ) (v d : Data) → bytes ≡ line → IsUtf8 bytes → v ≡ d
    → read bytes ≡ Some v → json_of line ≡ Some d
unfolding json_of
json_reads bytes line v d same utf8 is said =
    ap (λ l. option_and_then read (text_of l)) (sym same)
    ∙ ap (option_and_then read) (sym (text_of_text bytes bytes refl utf8)) ∙ said ∙ ap Some is
