-- A range of a disk that is copied in two parts: what is held of it, and the rest.
use Rattle.std.proofs.Common.{◌≡◌, ℕ, ◌+◌, ◌-◌, ◌≤◌, List, [], ◌++◌, length, take, drop, sym}
use Rattle.std.proofs.Common.{◌∙◌, ap, arith, length-append, length-drop, take-append-drop}
use Rattle.std.proofs.lemmas.List.{take_at, take-take, drop_all, length-take-le, append-nil}
use borrow.Rule.Slice.PartMut.{post_of}
use Rattle.fm_outer.specs.Bytes.{range}
use Rattle.fm_outer.proofs.Ranges.{drop-range}

-- a range is its front and the rest
range_parts : (at n count : ℕ) (bytes : List ℕ) → count ≤ n
    → range at count bytes ++ range (at + count) (n - count) bytes ≡ range at n bytes
range_parts at n count bytes le =
    ap (λ (l : List ℕ). l ++ range (at + count) (n - count) bytes)
    (sym (take-take count n (drop at bytes) le))
    ∙ ap (λ (l : List ℕ). take count (range at n bytes) ++ l) (sym (drop-range at n count bytes le))
    ∙ take-append-drop count (range at n bytes)

module _ (at count : ℕ) (bytes old held mid : List ℕ) (few : count ≤ length old)
    (enough : count ≤ length held) (first : mid ≡ take count held ++ drop count old) where
  long : length mid ≡ length old
  long =
      omega (
        arith,
        few,
        ap length first,
        length-append (take count held) (drop count old),
        length-take-le count held enough,
        length-drop count old,
      )

  -- so many bytes are still to be read
  pub rest_long : length (take (length mid - count) (drop count mid)) ≡ length old - count
  rest_long =
      omega (
        arith,
        long,
        length-drop count mid,
        length-take-le (length mid - count) (drop count mid) (omega (arith, length-drop count mid)),
      )

  pub copied : (rest : List ℕ) → range at count bytes ≡ take count held
      → rest ≡ range (at + count) (length (take (length mid - count) (drop count mid))) bytes
      → take count mid ++ (rest ++ post_of count (length mid - count) mid)
      ≡ range at (length old) bytes
  copied rest there second =
      let behind : post_of count (length mid - count) mid ≡ [] =
      drop_all (length mid - count) (drop count mid) (omega (arith, length-drop count mid)) in
      let front : take count mid ≡ range at count bytes = ap (take count) first
      ∙ take_at (take count held) (drop count old) count (length-take-le count held enough)
      ∙ sym there in
      let read : rest ≡ range (at + count) (length old - count) bytes = second
      ∙ ap (λ (n : ℕ). range (at + count) n bytes) rest_long in
      ap (λ (l : List ℕ). l ++ (rest ++ post_of count (length mid - count) mid)) front
      ∙ ap (λ (l : List ℕ). range at count bytes ++ (rest ++ l)) behind
      ∙ ap (λ (l : List ℕ). range at count bytes ++ l) (append-nil rest ∙ read)
      ∙ range_parts at (length old) count bytes few
