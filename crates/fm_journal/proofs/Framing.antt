-- A frame's bytes give its payload back.
use Rattle.std.proofs.Common.{◌≡◌, ℕ, ◌-◌, ◌≤◌, ◌^◌, List, [], ◌∷◌, ◌++◌, length, take, drop, refl}
use Rattle.std.proofs.Common.{sym, ◌∙◌, ap, arith, append_assoc}
use Rattle.std.proofs.lemmas.List.{take_at, drop_at}
use Rattle.byteorder.specs.Endian.{big_bytes}
use Rattle.fm_outer.specs.Bytes.{range}
use Rattle.fm_journal.specs.Format.{framed}
use Rattle.fm_outer.proofs.Numbers.{length-big_bytes}
use Rattle.fm_journal.proofs.Records.{length-framed}

pub range-framed : (payload : List ℕ)
    → range 4 (length (framed payload) - 5) (framed payload) ≡ payload
unfolding framed
range-framed payload =
    let size = big_bytes 4 (length payload) in
    let long : length (framed payload) - 5 ≡ length payload =
    omega (arith, length-framed payload) in
    ap (λ (n : ℕ). take n (drop 4 (framed payload))) long
    ∙ ap (take (length payload))
    (drop_at size (payload ++ 0 ∷ []) 4 (length-big_bytes 4 (length payload)))
    ∙ take_at payload (0 ∷ []) (length payload) refl

-- what the bytes of a frame are, of which contracts see the payload
abbrev pub IsFramed : List ℕ → Type 0
IsFramed bytes = (bytes ≡ framed (range 4 (length bytes - 5) bytes))
    × (length (range 4 (length bytes - 5) bytes) ≤ 2 ^ 28)

pub framed_gives_back : (bytes payload : List ℕ) → bytes ≡ framed payload → length payload ≤ 2 ^ 28
    → range 4 (length bytes - 5) bytes ≡ payload
framed_gives_back bytes payload is short = ap (λ (b : List ℕ). range 4 (length b - 5) b) is
    ∙ range-framed payload

pub is_framed : (bytes payload : List ℕ) → bytes ≡ framed payload → length payload ≤ 2 ^ 28
    → IsFramed bytes
is_framed bytes payload is short =
    let back = framed_gives_back bytes payload is short in
    (is ∙ ap framed (sym back), omega (arith, ap length back))

-- the pieces of a frame, one after the other
pub framed_pieces : (none sized filled bytes size payload : List ℕ) → none ≡ []
    → sized ≡ none ++ size → filled ≡ sized ++ payload → bytes ≡ filled ++ 0 ∷ []
    → size ≡ big_bytes 4 (length payload) ++ [] → bytes ≡ framed payload
unfolding framed
framed_pieces none sized filled bytes size payload start first second third is =
    rw (third, second, first, start, is)
    (append_assoc (big_bytes 4 (length payload)) payload (0 ∷ []))
