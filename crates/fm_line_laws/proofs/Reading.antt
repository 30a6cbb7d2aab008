-- What a value that was read keeps: negative numbers are negative, and the members of an object
-- ascend.
use Rattle.std.proofs.Common.{◌≡◌, ◌==◌, ◌&&◌, ◌<◌, ◌^◌, ℕ, zero, suc, arith, nat_lt, nat_le}
use Rattle.std.proofs.Common.{slice_index, drop, pos, negsuc, List, Bool, true, false, cond, Option}
use Rattle.std.proofs.Common.{Some, None, option_map, option_and_then, IfSome, refl, ap, ◌∙◌}
use Rattle.std.proofs.Common.{Ordering, Less, Equal, Greater, nat_cmp}
use Rattle.std.specs.Ordering.{match_ordering, ordering_reverse}
use Rattle.std.specs.Cmp.Lexicographic.{slice_cmp, nat_list_cmp_total}
use Rattle.json.specs.Json as json
use Rattle.json.specs.Lex.{tokens}
use Rattle.serde_json.specs.Data.{Num, unsigned, negative, float, Data, null, boolean, number}
use Rattle.serde_json.specs.Data.{string, array, object, Items, no_items, item, Members, no_members}
use Rattle.serde_json.specs.Data.{member, put}
use Rattle.serde_json.specs.Find.{get, get_member}
use Rattle.serde_json.specs.Read.{of_json, of_items, of_members, number_of, number_from, float_of}
use Rattle.serde_json.specs.Read.{is_integer, read, max_depth}
use Rattle.std.specs.Float.{binary64}
use Rattle.std.proofs.lemmas.Bool.{ltb-true}
use Rattle.fast_float.specs.Text.{minus, Parts, scan, digits_of, nearest, with_sign}
use Rattle.fm_bytes.proofs.Booleans.{and_parts}
use Rattle.fm_line_laws.specs.Names.{IsNameBefore}

-- a name stands before all that an object has
abbrev pub IsBeforeAll : List ℕ → Members → Type 0
IsBeforeAll k no_members = Unit {0}
IsBeforeAll k (member l e ms) = IsNameBefore k l × IsBeforeAll k ms

abbrev pub IsReadNumber : Num → Type 0
IsReadNumber (unsigned n) = Unit {0}
IsReadNumber (negative (pos n)) = ⊥
IsReadNumber (negative (negsuc n)) = Unit {0}
IsReadNumber (float x) = Unit {0}

abbrev mutual
  pub IsRead : Data → Type 0
  IsRead null = Unit {0}
  IsRead (boolean b) = Unit {0}
  IsRead (number n) = IsReadNumber n
  IsRead (string s) = Unit {0}
  IsRead (array ds) = ItemsRead ds
  IsRead (object ms) = MembersRead ms

  pub ItemsRead : Items → Type 0
  ItemsRead no_items = Unit {0}
  ItemsRead (item d ds) = IsRead d × ItemsRead ds

  pub MembersRead : Members → Type 0
  MembersRead no_members = Unit {0}
  MembersRead (member k d ms) = IsRead d × IsBeforeAll k ms × MembersRead ms

before_later : (k l : List ℕ) (ms : Members) → IsNameBefore k l → IsBeforeAll l ms
    → IsBeforeAll k ms
before_later k l no_members h hs = tt
before_later k l (member m e ms) h hs =
    (nat_list_cmp_total.trans k l m h hs.0, before_later k l ms h hs.1)

chosen_before : (j : List ℕ) (o : Ordering) (a b c : Members) → IsBeforeAll j a → IsBeforeAll j b
    → IsBeforeAll j c → IsBeforeAll j (match_ordering o a b c)
chosen_before j Less a b c p q r = p
chosen_before j Equal a b c p q r = q
chosen_before j Greater a b c p q r = r

before_put : (j k : List ℕ) (d : Data) (ms : Members) → IsNameBefore j k → IsBeforeAll j ms
    → IsBeforeAll j (put k d ms)
before_put j k d no_members h hs = (h, tt)
before_put j k d (member l e ms) h hs =
    chosen_before j (slice_cmp nat_cmp k l) (member k d (member l e ms)) (member l d ms)
    (member l e (put k d ms))
    (h, hs) hs (hs.0, before_put j k d ms h hs.1)

flipped : (k l : List ℕ) → slice_cmp nat_cmp k l ≡ Greater → IsNameBefore l k
flipped k l h = nat_list_cmp_total.antisymm l k ∙ ap ordering_reverse h

put_read_at : (o : Ordering) (k l : List ℕ) (d e : Data) (ms : Members) → slice_cmp nat_cmp k l ≡ o
    → IsRead d → MembersRead (member l e ms) → MembersRead (put k d ms)
    → MembersRead (match_ordering o (member k d (member l e ms)) (member l d ms)
    (member l e (put k d ms)))
put_read_at Less k l d e ms is hd h later = (hd, (is, before_later k l ms is h.1), h)
put_read_at Equal k l d e ms is hd h later = (hd, h.1, h.2)
put_read_at Greater k l d e ms is hd h later =
    (h.0, before_put l k d ms (flipped k l is) h.1, later)

put_read : (k : List ℕ) (d : Data) (ms : Members) → IsRead d → MembersRead ms
    → MembersRead (put k d ms)
put_read k d no_members hd h = (hd, tt, tt)
put_read k d (member l e ms) hd h =
    put_read_at (slice_cmp nat_cmp k l) k l d e ms refl hd h (put_read k d ms hd h.2)

read_if : (b : Bool) (x y : Option Num) → (b ≡ true → IfSome x IsReadNumber) → IfSome y IsReadNumber
    → IfSome (cond b x y) IsReadNumber
read_if true x y hx hy = hx refl
read_if false x y hx hy = hy

float_read : (sign : Bool) (p : Parts) → IfSome (float_of sign p) IsReadNumber
float_read sign p = read_if _ (Some (float (nearest binary64 sign p))) None (λ e. tt) tt

negative_read : (n : ℕ) → 0 < n → IsReadNumber (negative (with_sign true n))
negative_read zero h = absurd (omega arith)
negative_read (suc n) h = tt

unsigned_read : (p : Parts) → IfSome (number_from false p) IsReadNumber
unsigned_read p = read_if (is_integer p && nat_lt (digits_of p) (2 ^ 64))
    (Some (unsigned (digits_of p))) (float_of false p) (λ e. tt) (float_read false p)

signed_read : (p : Parts) → IfSome (number_from true p) IsReadNumber
signed_read p =
    read_if (is_integer p && nat_lt 0 (digits_of p) && nat_le (digits_of p) (2 ^ 63))
    (Some (negative (with_sign true (digits_of p)))) (float_of true p)
    (λ e. negative_read (digits_of p)
    (ltb-true 0 (digits_of p)
    (and_parts (is_integer p) (nat_lt 0 (digits_of p))
    (and_parts (is_integer p && nat_lt 0 (digits_of p)) (nat_le (digits_of p) (2 ^ 63))
    e).0).1))
    (float_read true p)

number_read : (s : List ℕ) → IfSome (number_of s) IsReadNumber
unfolding number_of
number_read s =
    read_if (slice_index s 0 == minus) (number_from true (scan (drop 1 s)))
    (number_from false (scan s)) (λ e. signed_read (scan (drop 1 s))) (unsigned_read (scan s))

mapped : {A B : Type 0} (P : A → Type 0) (Q : B → Type 0) (f : A → B) (o : Option A) → IfSome o P
    → ((x : A) → P x → Q (f x)) → IfSome (option_map f o) Q
mapped P Q f None h g = tt
mapped P Q f (Some x) h g = g x h

pub then_read : {A B : Type 0} (P : A → Type 0) (Q : B → Type 0) (f : A → Option B) (o : Option A)
    → IfSome o P → ((x : A) → P x → IfSome (f x) Q) → IfSome (option_and_then f o) Q
then_read P Q f None h g = tt
then_read P Q f (Some x) h g = g x h

mutual
  of_json_read : (j : json.Json) → IfSome (of_json j) IsRead
  of_json_read json.null = tt
  of_json_read (json.boolean b) = tt
  of_json_read (json.number s) =
      mapped IsReadNumber IsRead number (number_of s) (number_read s) (λ n h. h)
  of_json_read (json.string s) = tt
  of_json_read (json.array js) =
      mapped ItemsRead IsRead array (of_items js) (of_items_read js) (λ ds h. h)
  of_json_read (json.object ms) =
      mapped MembersRead IsRead object (of_members ms no_members) (of_members_read ms no_members tt)
      (λ ns h. h)

  of_items_read : (js : json.Items) → IfSome (of_items js) ItemsRead
  of_items_read json.no_items = tt
  of_items_read (json.item j js) =
      then_read IsRead ItemsRead (λ d. option_map (item d) (of_items js)) (of_json j)
      (of_json_read j)
      (λ d hd. mapped ItemsRead ItemsRead (item d) (of_items js) (of_items_read js)
      (λ ds hs. (hd, hs)))

  of_members_read : (ms : json.Members) (found : Members) → MembersRead found
      → IfSome (of_members ms found) MembersRead
  of_members_read json.no_members found h = h
  of_members_read (json.member k j ms) found h =
      then_read IsRead MembersRead (λ d. of_members ms (put k d found)) (of_json j) (of_json_read j)
      (λ d hd. of_members_read ms (put k d found) (put_read k d found hd h))

from_json : (o : Option json.Json) → IfSome (option_and_then of_json o) IsRead
from_json None = tt
from_json (Some j) = of_json_read j

-- what a text reads as keeps this
pub read_read : (text : List ℕ) → IfSome (read text) IsRead
read_read text = from_json
    (option_and_then (λ p. json.if_last p.0 p.1) (json.value max_depth (tokens text)))

chosen_read : (o : Ordering) (a b c : Option Data) → IfSome a IsRead → IfSome b IsRead
    → IfSome c IsRead → IfSome (match_ordering o a b c) IsRead
chosen_read Less a b c ha hb hc = ha
chosen_read Equal a b c ha hb hc = hb
chosen_read Greater a b c ha hb hc = hc

member_read : (k : List ℕ) (ms : Members) → MembersRead ms → IfSome (get_member k ms) IsRead
member_read k no_members h = tt
member_read k (member l e ms) h =
    chosen_read (slice_cmp nat_cmp k l) (get_member k ms) (Some e) (get_member k ms)
    (member_read k ms h.2) h.0 (member_read k ms h.2)

-- and so does what stands in it at a key
pub get_read : (k : List ℕ) (d : Data) → IsRead d → IfSome (get k d) IsRead
get_read k null h = tt
get_read k (boolean b) h = tt
get_read k (number n) h = tt
get_read k (string s) h = tt
get_read k (array ds) h = tt
get_read k (object ms) h = member_read k ms h
