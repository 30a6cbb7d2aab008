-- Values of the eight kinds, pairs and lists, read and spelled.
use Rattle.std.specs.Prelude.{if◌then◌else◌}
use Rattle.std.proofs.Common.{◌≡◌, ℕ, suc, ◌-◌, ◌^◌, ◌<◌, ◌≤◌, ℤ, pos, negsuc, Bool, true, false}
use Rattle.std.proofs.Common.{◌&&◌, ◌==◌, nat_lt, nat_le, IsTrue, List, [], ◌∷◌, ◌++◌, length}
use Rattle.std.proofs.Common.{flat_map, Some, refl, sym, ap, ◌∙◌, arith, subst}
use Rattle.std.proofs.Common.{append_assoc}
use Rattle.std.specs.List.{list_all}
use Rattle.std.specs.Int.{w64, cast_signed, cast_unsigned}
use Rattle.std.proofs.lemmas.Int.{of_z-to_z, to_z-of_z}
use Rattle.std.proofs.lemmas.Bool.{leb-true, le-leb, ltb-true, ltb-false, lt-ltb, eqb-true}
use mir.Val.{sel}
use Rattle.fm_nv.specs.Data.{Pairs, Data, Lists, boolean, unsigned, signed, text, nested, unsigneds}
use Rattle.fm_nv.specs.Data.{texts, lists, no_lists, list_then, lists_of, lists_count, depth}
use Rattle.fm_nv.specs.Data.{data_depth, lists_depth}
use Rattle.fm_bytes.specs.Numbers.{AllBytes, is_unsigned, u16_bytes, u64_bytes}
use Rattle.fm_nv.specs.Spelled.{is_pair_name, is_text, is_signed, value_fits, lists_fit, list_fits}
use Rattle.fm_nv.specs.Spelled.{name_bytes, value_bytes, lists_bytes, pairs_bytes}
use Rattle.fm_bytes.specs.Reading.{Read, after, made, number_from, long_text_from, flag_from}
use Rattle.fm_bytes.specs.Reading.{counted_from}
use Rattle.fm_nv.specs.Reading.{name_from, tagged_from, value_from, pair_from}
use Rattle.fm_bytes.proofs.Booleans.{and_parts, and_true}
use Rattle.fm_bytes.proofs.Combined.{made_some, made_read}
use Rattle.fm_nv.proofs.Places.{lists_count_of}
use Rattle.fm_bytes.proofs.Readers.{IsReader, after_some, some_same, choice_some}
use Rattle.fm_bytes.proofs.Readers.{left_bytes, byte_reader, long_reader, flag_reader}
use Rattle.fm_nv.proofs.Readers.{name_reader, text_reader, array_reader, array_fits, array_bytes}

-- what a list at most so deep needs
abbrev pub fits_within : ℕ → Pairs → Bool
fits_within d ps = list_fits ps && nat_le (depth ps) d

-- what a value whose lists are at most so deep needs
abbrev pub value_within : ℕ → Data → Bool
value_within d v = value_fits v && nat_le (data_depth v) d

-- what a pair needs
abbrev pub pair_within : ℕ → List ℕ × Data → Bool
pair_within d p = is_pair_name p.0 && value_within d p.1

abbrev pub pair_bytes : List ℕ × Data → List ℕ
pair_bytes p = name_bytes p.0 ++ value_bytes p.1

-- a kind of value: its content is read by a reader, and its spelling is the tag and the content's
kind_sound : {A : Type 0} (d tag : ℕ) (g : A → Data) (fits : A → Bool) (spell : A → List ℕ)
    (read : List ℕ → Read A) → IsReader fits spell read
    → ((x : A) → IsTrue (fits x) → IsTrue (value_within d (g x)))
    → ((x : A) → IsTrue (fits x) → value_bytes (g x) ≡ tag ∷ spell x)
    → (n : ℕ) (bytes : List ℕ) (t : Data × List ℕ) → n ≡ tag → AllBytes bytes
    → made g (read bytes) ≡ Some t
    → IsTrue (value_within d t.0) × (n ∷ bytes ≡ value_bytes t.0 ++ t.1)
kind_sound d tag g fits spell read r within same n bytes t is all h =
    let some = made_some g (read bytes) t h in
    let known = r.sound bytes some.0 all some.1 in (
      ap (λ (p : Data × List ℕ). value_within d p.0) some.2 ∙ within some.0.0 known.0,
      (λ i. is i ∷ known.1 i) ∙ ap (λ (xs : List ℕ). xs ++ some.0.1) (sym (same some.0.0 known.0))
          ∙ sym (ap (λ (p : Data × List ℕ). value_bytes p.0 ++ p.1) some.2),
    )

lists_bytes-flat : (ls : List Pairs) → lists_bytes (lists_of ls) ≡ flat_map pairs_bytes ls
lists_bytes-flat [] = refl
lists_bytes-flat (ps ∷ ls) = ap (λ (xs : List ℕ). pairs_bytes ps ++ xs) (lists_bytes-flat ls)

lists_within : (d : ℕ) (ls : List Pairs) → IsTrue (list_all (fits_within d) ls)
    → IsTrue (lists_fit (lists_of ls)) × (lists_depth (lists_of ls) ≤ d)
lists_within d [] h = (refl, omega arith)
lists_within d (ps ∷ ls) h =
    let parts = and_parts (fits_within d ps) _ h in
    let one = and_parts (list_fits ps) _ parts.0 in
    let most = leb-true (depth ps) d one.1 in
    let more = lists_within d ls parts.1 in
    let rest = more.1 in
    (and_true (list_fits ps) _ one.0 more.0, omega arith)

array_within : (d : ℕ) (ls : List Pairs) → IsTrue (array_fits (fits_within d) ls)
    → IsTrue (value_within d (lists (lists_of ls)))
array_within d ls h =
    let parts = and_parts (nat_le (length ls) 65535) _ h in
    let all = lists_within d ls parts.1 in
    let few = leb-true (length ls) 65535 parts.0 in
    let same = lists_count_of ls in
    and_true _ _ (and_true (nat_le (lists_count (lists_of ls)) 65535) _
    (le-leb (lists_count (lists_of ls)) 65535 (omega arith)) all.0)
    (le-leb (lists_depth (lists_of ls)) d all.1)

pub array_spelled : (ls : List Pairs)
    → value_bytes (lists (lists_of ls)) ≡ 8 ∷ array_bytes pairs_bytes ls
array_spelled ls = λ i. 8 ∷ (u16_bytes (lists_count_of ls i) ++ lists_bytes-flat ls i)

signed_half : (b : Bool) (n : ℕ) → nat_lt n (2 ^ 63) ≡ b → n < 2 ^ 64
    → IsTrue (is_signed (sel b (pos n) (negsuc (2 ^ 64 - suc n))))
signed_half true n e h = e
signed_half false n e h = let most = ltb-false n (2 ^ 63) e in
    lt-ltb (2 ^ 64 - suc n) (2 ^ 63) (omega arith)

-- eight bytes are a signed number, and it has no other spelling
signed_fits : (n : ℕ) → IsTrue (is_unsigned n) → IsTrue (is_signed (cast_signed w64 n))
    × (cast_unsigned w64 (cast_signed w64 n) ≡ n)
signed_fits n h =
    let small = ltb-true n (2 ^ 64) h in
    (signed_half (nat_lt n (2 ^ 63)) n refl small, of_z-to_z w64 n small)

signed_back : (z : ℤ) → IsTrue (is_signed z) → IsTrue (is_unsigned (cast_unsigned w64 z))
    × (cast_signed w64 (cast_unsigned w64 z) ≡ z)
signed_back (pos n) h =
    let small = ltb-true n (2 ^ 63) h in
    (lt-ltb n (2 ^ 64) (omega arith), to_z-of_z w64 (pos n) (record { sfits = small }))
signed_back (negsuc n) h =
    let small = ltb-true n (2 ^ 63) h in (
      lt-ltb (2 ^ 64 - suc n) (2 ^ 64) (omega arith),
      to_z-of_z w64 (negsuc n) (record { sfits = small }),
    )

signed_within : (d n : ℕ) → IsTrue (is_unsigned n)
    → IsTrue (value_within d (signed (cast_signed w64 n)))
signed_within d n h = and_true _ (nat_le 0 d) (signed_fits n h).0 (le-leb 0 d (omega arith))

-- a value without lists in it
flat_within : (d : ℕ) (b : Bool) → IsTrue b → IsTrue (b && nat_le 0 d)
flat_within d b h = and_true b (nat_le 0 d) h (le-leb 0 d (omega arith))

-- a choice between two readings, by what each of them gives
one_of_two : {P : Type 0} (b : Bool) (x y : Read Data) (t : Data × List ℕ)
    → (IsTrue b → x ≡ Some t → P) → (y ≡ Some t → P) → (if b then x else y) ≡ Some t → P
one_of_two true x y t f g h = f refl h
one_of_two false x y t f g h = g h

-- the content of a value is that of its tag's kind
tagged_sound : (d : ℕ) (list : List ℕ → Read Pairs) → IsReader (fits_within d) pairs_bytes list
    → (n : ℕ) (bytes : List ℕ) (t : Data × List ℕ) → AllBytes bytes
    → tagged_from list n bytes ≡ Some t
    → IsTrue (value_within d t.0) × (n ∷ bytes ≡ value_bytes t.0 ++ t.1)
unfolding tagged_from
tagged_sound d list r n bytes t all h =
    one_of_two (n == 1) _ _ t
    (λ is. kind_sound d 1 boolean _ _ flag_from flag_reader
    (λ x k. flat_within d true refl) (λ x k. refl) n bytes t (eqb-true n 1 is) all)
    (one_of_two (n == 2) _ _ t
    (λ is. kind_sound d 2 unsigned _ _ (number_from 8) long_reader
    (λ x k. flat_within d _ k) (λ x k. refl) n bytes t (eqb-true n 2 is) all)
    (one_of_two (n == 3) _ _ t
    (λ is. kind_sound d 3 (λ m. signed (cast_signed w64 m)) _ _ (number_from 8) long_reader
    (signed_within d) (λ x k. ap (λ (m : ℕ). 3 ∷ u64_bytes m) (signed_fits x k).1)
    n bytes t (eqb-true n 3 is) all)
    (one_of_two (n == 4) _ _ t
    (λ is. kind_sound d 4 text _ _ (long_text_from 65536) text_reader
    (λ x k. flat_within d _ k) (λ x k. refl) n bytes t (eqb-true n 4 is) all)
    (one_of_two (n == 5) _ _ t
    (λ is. kind_sound d 5 nested _ _ list r
    (λ x k. k) (λ x k. refl) n bytes t (eqb-true n 5 is) all)
    (one_of_two (n == 6) _ _ t
    (λ is. kind_sound d 6 unsigneds _ _ (counted_from 2 (number_from 8))
    (array_reader _ _ (number_from 8) long_reader)
    (λ x k. flat_within d _ k) (λ x k. refl) n bytes t (eqb-true n 6 is) all)
    (one_of_two (n == 7) _ _ t
    (λ is. kind_sound d 7 texts _ _ (counted_from 2 (long_text_from 65536))
    (array_reader _ _ (long_text_from 65536) text_reader)
    (λ x k. flat_within d _ k) (λ x k. refl) n bytes t (eqb-true n 7 is) all)
    (λ e.
    let last =
    choice_some (n == 8) (made (λ ls. lists (lists_of ls)) (counted_from 2 list bytes)) t e in
    kind_sound d 8 (λ ls. lists (lists_of ls)) _ _ (counted_from 2 list) (array_reader _ _ list r)
    (array_within d) (λ x k. array_spelled x) n bytes t (eqb-true n 8 last.0) all last.1)))))))
    h

-- the items of an array
to_items : Lists → List Pairs
to_items no_lists = []
to_items (list_then ps ls) = ps ∷ to_items ls

to_items_back : (ls : Lists) → lists_of (to_items ls) ≡ ls
unfolding to_items
to_items_back no_lists = refl
to_items_back (list_then ps ls) = ap (list_then ps) (to_items_back ls)

lists_back : (d : ℕ) (ls : List Pairs) → IsTrue (lists_fit (lists_of ls))
    → lists_depth (lists_of ls) ≤ d → IsTrue (list_all (fits_within d) ls)
lists_back d [] h k = refl
lists_back d (ps ∷ ls) h k =
    let parts = and_parts (list_fits ps) _ h in
    and_true (fits_within d ps) _
    (and_true (list_fits ps) _ parts.0 (le-leb (depth ps) d (omega arith)))
    (lists_back d ls parts.1 (omega arith))

array_back : (d : ℕ) (ls : List Pairs) → IsTrue (value_within d (lists (lists_of ls)))
    → IsTrue (array_fits (fits_within d) ls)
array_back d ls h =
    let parts = and_parts (value_fits (lists (lists_of ls))) _ h in
    let one = and_parts (nat_le (lists_count (lists_of ls)) 65535) _ parts.0 in
    let few = leb-true (lists_count (lists_of ls)) 65535 one.0 in
    let deep = leb-true (lists_depth (lists_of ls)) d parts.1 in
    let same = lists_count_of ls in
    and_true (nat_le (length ls) 65535) _ (le-leb (length ls) 65535 (omega arith))
    (lists_back d ls one.1 deep)

-- a value begins with its tag
value_start : (list : List ℕ → Read Pairs) (tag : ℕ) (bytes : List ℕ) → IsTrue (nat_le tag 255)
    → value_from list (tag ∷ bytes) ≡ tagged_from list tag bytes
unfolding value_from
value_start list tag bytes h =
    ap (λ (r : Read ℕ). after r (λ n rest. tagged_from list n rest)) (byte_reader.whole tag bytes h)

array_whole : (d : ℕ) (list : List ℕ → Read Pairs) → IsReader (fits_within d) pairs_bytes list
    → (ls : List Pairs) (rest : List ℕ) → IsTrue (value_within d (lists (lists_of ls)))
    → value_from list (value_bytes (lists (lists_of ls)) ++ rest) ≡ Some (lists (lists_of ls), rest)
unfolding tagged_from
array_whole d list r ls rest h =
    ap (λ (xs : List ℕ). value_from list (xs ++ rest)) (array_spelled ls)
    ∙ value_start list 8 (array_bytes pairs_bytes ls ++ rest) refl
    ∙ made_read (λ xs. lists (lists_of xs)) _ ls rest
    ((array_reader _ _ list r).whole ls rest (array_back d ls h))

value_whole : (d : ℕ) (list : List ℕ → Read Pairs) → IsReader (fits_within d) pairs_bytes list
    → (v : Data) (rest : List ℕ) → IsTrue (value_within d v)
    → value_from list (value_bytes v ++ rest) ≡ Some (v, rest)
unfolding tagged_from
value_whole d list r (boolean b) rest h = value_start list 1 _ refl
    ∙ made_read boolean _ b rest (flag_reader.whole b rest refl)
value_whole d list r (unsigned n) rest h =
    value_start list 2 _ refl
    ∙ made_read unsigned _ n rest (long_reader.whole n rest (and_parts (is_unsigned n) _ h).0)
value_whole d list r (signed z) rest h =
    let back = signed_back z (and_parts (is_signed z) _ h).0 in
    value_start list 3 _ refl
    ∙ made_read (λ m. signed (cast_signed w64 m)) _ (cast_unsigned w64 z) rest
    (long_reader.whole (cast_unsigned w64 z) rest back.0)
    ∙ ap (λ (y : ℤ). Some (signed y, rest)) back.1
value_whole d list r (text t) rest h =
    value_start list 4 _ refl
    ∙ made_read text _ t rest (text_reader.whole t rest (and_parts (is_text t) _ h).0)
value_whole d list r (nested ps) rest h = value_start list 5 _ refl
    ∙ made_read nested _ ps rest (r.whole ps rest h)
value_whole d list r (unsigneds ns) rest h =
    value_start list 6 _ refl
    ∙ made_read unsigneds _ ns rest
    ((array_reader _ _ (number_from 8) long_reader).whole ns rest
    (and_parts (array_fits is_unsigned ns) _ h).0)
value_whole d list r (texts ts) rest h =
    value_start list 7 _ refl
    ∙ made_read texts _ ts rest
    ((array_reader _ _ (long_text_from 65536) text_reader).whole ts rest
    (and_parts (array_fits is_text ts) _ h).0)
value_whole d list r (lists ls) rest h =
    let same = to_items_back ls in
    let P : Lists → Type 0 = λ ys. IsTrue (value_within d (lists ys))
    → value_from list (value_bytes (lists ys) ++ rest) ≡ Some (lists ys, rest) in
    subst P same (array_whole d list r (to_items ls) rest) h

-- a value
pub value_reader : (d : ℕ) (list : List ℕ → Read Pairs) → IsReader (fits_within d) pairs_bytes list
    → IsReader (value_within d) value_bytes (value_from list)
unfolding value_from
value_reader d list r = record {
  sound = λ bytes t all h.
      let first = after_some (number_from 1 bytes) (λ tag rest. tagged_from list tag rest) t h in
      let tag = byte_reader.sound bytes first.0 all first.1 in
      let known = tagged_sound d list r first.0.0 first.0.1 t
      (left_bytes bytes (first.0.0 ∷ []) first.0.1 tag.1 all) first.2 in
      (known.0, tag.1 ∙ known.1);
  whole = value_whole d list r;
}

-- a name and its value
pub pair_reader : (d : ℕ) (list : List ℕ → Read Pairs) → IsReader (fits_within d) pairs_bytes list
    → IsReader (pair_within d) pair_bytes (pair_from list)
unfolding pair_from
pair_reader d list r = record {
  sound = λ bytes t all h.
      let first = after_some (name_from bytes)
      (λ k rest. after (value_from list rest) (λ v more. Some ((k, v), more))) t h in
      let name = name_reader.sound bytes first.0 all first.1 in
      let left = left_bytes bytes (name_bytes first.0.0) first.0.1 name.1 all in
      let second = after_some (value_from list first.0.1) (λ v more. Some ((first.0.0, v), more)) t
      first.2 in
      let value = (value_reader d list r).sound first.0.1 second.0 left second.1 in
      let same : ((first.0.0, second.0.0), second.0.1) ≡ t =
      some_same ((first.0.0, second.0.0), second.0.1) t second.2 in (
        subst (λ (p : (List ℕ × Data) × List ℕ). IsTrue (pair_within d p.0)) same
            (and_true (is_pair_name first.0.0) _ name.0 value.0),
        subst (λ (p : (List ℕ × Data) × List ℕ). bytes ≡ pair_bytes p.0 ++ p.1) same
            (name.1 ∙ ap (λ (xs : List ℕ). name_bytes first.0.0 ++ xs) value.1
            ∙ sym (append_assoc (name_bytes first.0.0) (value_bytes second.0.0) second.0.1)),
      );
  whole = λ x rest fits.
      let parts = and_parts (is_pair_name x.0) _ fits in
      ap (λ (bytes : List ℕ).
      after (name_from bytes)
      (λ k left. after (value_from list left) (λ v more. Some ((k, v), more))))
      (append_assoc (name_bytes x.0) (value_bytes x.1) rest)
      ∙ ap (λ (q : Read (List ℕ)).
      after q (λ k left. after (value_from list left) (λ v more. Some ((k, v), more))))
      (name_reader.whole x.0 (value_bytes x.1 ++ rest) parts.0)
      ∙ ap (λ (q : Read Data). after q (λ v more. Some ((x.0, v), more)))
      (value_whole d list r x.1 rest parts.1);
}
