-- A record has more bytes than words.
use Rattle.std.proofs.Common.{◌≡◌, ℕ, ◌+◌, ◌≤◌, List, [], ◌∷◌, ◌++◌, length, arith, length-append}
use Rattle.std.specs.List.{flat_map}
use Rattle.fm_bytes.specs.Numbers.{u32_bytes, u64_bytes, counted_bytes}
use Rattle.fm_entry.specs.WordBytes.{spoken_bytes, word_bytes, head_byte, has_links}
use Rattle.fm_entry.specs.declared.list_event.ListEvent.{ListEvent}
use Rattle.fm_entry.specs.declared.spoken.Spoken.{Spoken}

-- what begins with a byte has one
begun_long : (x : ℕ) (xs : List ℕ) → 1 ≤ length (x ∷ [] ++ xs)
begun_long x xs = let many : length (x ∷ [] ++ xs) ≡ 1 + length xs = length-append (x ∷ []) xs in
    omega (arith, many)

-- a word has a byte or more
word_long : (w : ListEvent) → 1 ≤ length (word_bytes w)
word_long w = begun_long (head_byte w.kind (has_links w.broken)) _

words_long : (ws : List ListEvent) → length ws ≤ length (flat_map word_bytes ws)
words_long [] = omega arith
words_long (w ∷ ws) =
    let one : 1 ≤ length (word_bytes w) = word_long w in
    let rest : length ws ≤ length (flat_map word_bytes ws) = words_long ws in
    let both : length (flat_map word_bytes (w ∷ ws))
    ≡ length (word_bytes w) + length (flat_map word_bytes ws) =
    length-append (word_bytes w) (flat_map word_bytes ws) in
    omega (arith, one, rest, both)

-- what stands behind bytes is no longer than both
after_long : (xs ys : List ℕ) → length ys ≤ length (xs ++ ys)
after_long xs ys = let both : length (xs ++ ys) ≡ length xs + length ys = length-append xs ys in
    omega (arith, both)

pub record_long : (s : Spoken) → length s.events ≤ length (spoken_bytes s)
unfolding u32_bytes
record_long s =
    let words : length s.events ≤ length (flat_map word_bytes s.events) = words_long s.events in
    let counted : length (flat_map word_bytes s.events)
    ≤ length (counted_bytes 4 word_bytes s.events) =
    after_long (u32_bytes (length s.events)) (flat_map word_bytes s.events) in
    let numbered : length (u64_bytes s.number ++ counted_bytes 4 word_bytes s.events)
    ≡ length (u64_bytes s.number) + length (counted_bytes 4 word_bytes s.events) =
    length-append (u64_bytes s.number) (counted_bytes 4 word_bytes s.events) in
    let whole : length (spoken_bytes s) ≡ length (u32_bytes s.«module»)
    + length (u64_bytes s.number ++ counted_bytes 4 word_bytes s.events) =
    length-append (u32_bytes s.«module») (u64_bytes s.number ++ counted_bytes 4 word_bytes s.events)
    in
    omega (arith, words, counted, numbered, whole)
