-- Modules at the base, and hands that have come to their floors.
use Rattle.std.proofs.Common.{◌≡◌, ℕ, zero, suc, ◌+◌, ◌-◌, max, List, [], ◌∷◌, length, map, take}
use Rattle.std.proofs.Common.{get_or, Some, refl, sym, ◌∙◌, ap, subst, arith, slice_get}
use Rattle.std.proofs.lemmas.List.{length-map}
use Rattle.std.proofs.lemmas.Option.{same_Some, slice_get_within, slice_get-get_or}
use Rattle.fm_core.specs.Book.{Book, ModuleState, IsPlaced, floored, floor_of}
use Rattle.fm_core.specs.Folds.{state_along, words_along}
use Rattle.fm_core.specs.Hands.{HandOf, shown}
use Rattle.fm_core.specs.Records.{of_module}
use Rattle.fm_core.specs.Seen.{Follows, FollowsAs}
use Rattle.fm_core.specs.declared.module.Module.{Ghosts as ModuleGhosts}
use Rattle.fm_core.proofs.Lists.{map_get, map_got, same_list}
use Rattle.fm_entry.specs.declared.spoken.Spoken.{Spoken}
use Rattle.fm_retrace.specs.Retracing.{HaveRetraced, SayRecords, cursors_of}
use Rattle.fm_retrace.specs.Retracing.{hands_from}
use Rattle.fm_retrace.specs.declared.retraced.Retraced.{Retraced}
use Rattle.fm_retrace.proofs.Come.{all_at}
use Rattle.fm_retrace.proofs.Next.{past_from}
use Rattle.fm_store.specs.Adopting.{HandsFollow}
use Rattle.fm_looks.specs.FaultLog.{BeginsAt}
use Rattle.fm_store.specs.Loading.{AreSilent, states_of}

-- each module bears the number of its place
abbrev pub BearNumbers : List ModuleState → Type 0
BearNumbers modules =
    (i : ℕ) (p : ModuleState) → slice_get modules i ≡ Some p → p.meaning.own ≡ i

-- a book without records is lawful at its floors
none_said : (k : Book) → BearNumbers k.modules → SayRecords k []
none_said k numbered = record {
  as_many = length-map k.modules (λ p. floor_of (record k { records = [] }) p.meaning.own);
  named = tt;
  placed = λ i p c at_module at_cursor.
      let got = map_get (λ q. floor_of (record k { records = [] }) q.meaning.own) k.modules i p
      at_module in
      let is : c ≡ k.base = same_Some c k.base (sym at_cursor ∙ got) in
      let none : k.base - k.base ≡ 0 = omega arith in
      subst (IsPlaced (floored (record k { records = [] })) i p) (sym is) (record {
        numbered = numbered i p at_module;
        from_base = omega arith;
        to_end = omega arith;
        ascending = tt;
        exact = sym (ap (λ (n : ℕ). words_along p.meaning p.state k.base (take n k.entries)) none);
      });
}

-- modules that have said nothing begin at the base
pub begins_at : {M : Type 0} (m : ModuleGhosts M) (k : Book) (modules : List (Retraced M))
    → k.modules ≡ states_of m modules → BearNumbers (states_of m modules) → AreSilent modules
    → BeginsAt m k.base k.entries modules k
begins_at {M = M} m k modules are numbered silent = record {
  book_of = record { base_is = refl; entries_are = refl };
  nothing = none_said k (subst BearNumbers (sym are) numbered);
  at_base = record {
    as_many = sym (ap (λ (l : List ModuleState). length l) are ∙ length-map modules of);
    each = λ i p own at_book at_list.
        let got = map_get of modules i own at_list in
        let is : of own ≡ p =
        same_Some (of own) p
        (sym got ∙ ap (λ (l : List ModuleState). slice_get l i) (sym are) ∙ at_book) in
        let past : own.past ≡ 0 =
        all_at (λ (o : Retraced M). o.past ≡ 0) modules i own silent at_list in
        let none : max k.base own.past - k.base ≡ 0 = omega (arith, past) in
        record {
          meaning_is = ap (λ (q : ModuleState). q.meaning) is;
          past_is = past;
          state_is = ap (λ (q : ModuleState). q.state) is
              ∙ sym (ap (λ (n : ℕ). state_along p.meaning p.state k.base (take n k.entries)) none);
        };
  };
}
  where
    of : Retraced M → ModuleState
    of own = record { meaning = m.meaning own.object; state = m.state own.object }

-- hands by place
pub hands_length : {M : Type 0} (base n : ℕ) (modules : List (Retraced M))
    → length (hands_from base n modules) ≡ length modules
hands_length base n [] = refl
hands_length base n (own ∷ modules) = ap suc (hands_length base (n + 1) modules)

pub hands_at : {M : Type 0} (base n : ℕ) (modules : List (Retraced M)) (i : ℕ) (h : HandOf M)
    → slice_get (hands_from base n modules) i ≡ Some h → (own : Retraced M)
    × (slice_get modules i ≡ Some own)
    × (h ≡ record { number = n + i; cursor = max base own.past; object = own.object })
hands_at base n [] i h there = absurd (let no : ⊥ = cc in no)
hands_at {M = M} base n (own ∷ modules) zero h there =
    let same : n ≡ n + 0 = omega arith in (
      own,
      refl,
      sym (same_Some _ h there)
          ∙ ap (λ (k : ℕ). record {
            number = k;
            cursor = max base own.past;
            object = own.object;
          }) same,
    )
hands_at {M = M} base n (own ∷ modules) (suc i) h there =
    let found = hands_at base (n + 1) modules i h there in
    let same : n + 1 + i ≡ n + suc i = omega arith in
    let o : Retraced M = found.0 in (
      o,
      found.1,
      found.2
          ∙ ap (λ (k : ℕ). record { number = k; cursor = max base o.past; object = o.object }) same,
    )

pub hands_cursors : {M : Type 0} (base n : ℕ) (modules : List (Retraced M))
    → map (λ (h : HandOf M). h.cursor) (hands_from base n modules) ≡ cursors_of base modules
hands_cursors base n [] = refl
hands_cursors base n (own ∷ modules) =
    ap (λ (l : List ℕ). max base own.past ∷ l) (hands_cursors base (n + 1) modules)

module _ {M : Type 0} (m : ModuleGhosts M) (k : Book) (records : List Spoken)
    (modules : List (Retraced M)) (says : SayRecords k records)
    (come : HaveRetraced m k records modules) where
  abbrev now : Book
  now = record k { records = records }

  -- a module's floor, and where it stands there
  floor_is : (i : ℕ) (p : ModuleState) (own : Retraced M) → slice_get k.modules i ≡ Some p
      → slice_get modules i ≡ Some own
      → (floor_of now p.meaning.own ≡ max k.base own.past)
      × IsPlaced (floored now) i p (max k.base own.past)
  floor_is i p own at_book at_list =
      let at = says.placed i p (floor_of now p.meaning.own) at_book
      (map_get (λ q. floor_of now q.meaning.own) k.modules i p at_book) in
      let is : floor_of now p.meaning.own ≡ max k.base own.past =
      ap (floor_of now) at.numbered ∙ past_from k.base (of_module i records)
      ∙ ap (max k.base) (sym (come.each i p own at_book at_list).past_is) in
      (is, subst (IsPlaced (floored now) i p) is at)

  -- the module of an object
  book_module : (i : ℕ) (own : Retraced M) → slice_get modules i ≡ Some own
      → (p : ModuleState) × (slice_get k.modules i ≡ Some p)
  book_module i own there =
      let d : ModuleState =
      record { meaning = m.meaning own.object; state = m.state own.object } in (
        get_or k.modules i d,
        slice_get-get_or k.modules i d
            (omega (arith, come.as_many, slice_get_within modules i own there)),
      )

  pub floors_are : cursors_of k.base modules ≡ (floored now).cursors
  floors_are =
      same_list (cursors_of k.base modules) (floored now).cursors
      (length-map modules (λ (own : Retraced M). max k.base own.past) ∙ come.as_many
      ∙ sym (length-map k.modules (λ q. floor_of now q.meaning.own)))
      (λ i c there.
      let found = map_got (λ (own : Retraced M). max k.base own.past) modules i c there in
      let p = book_module i found.0 found.1 in
      map_get (λ q. floor_of now q.meaning.own) k.modules i p.0 p.1
      ∙ ap Some ((floor_is i p.0 found.0 p.1 found.1).0 ∙ found.2))

  pub hands_follow : HandsFollow m (floored now) (hands_from k.base 0 modules)
  hands_follow = record {
    as_many = hands_length k.base 0 modules ∙ come.as_many;
    follow = λ i h there p at_book.
        let found = hands_at k.base 0 modules i h there in
        let own : Retraced M = found.0 in
        let is = come.each i p own at_book found.1 in
        let at = (floor_is i p own at_book found.1).1 in
        subst (λ (x : HandOf M). FollowsAs (floored now) i (shown m x)) (sym found.2)
        (λ q at_too. let one : p ≡ q = same_Some p q (sym at_book ∙ at_too) in
        subst (λ (y : ModuleState). Follows (floored now) i y
        (shown m (record { number = 0 + i; cursor = max k.base own.past; object = own.object })))
        one
        (record {
          number_is = omega arith;
          own_is = at.numbered;
          meaning_is = is.meaning_is;
          from_base = at.from_base;
          to_end = at.to_end;
          folds = is.state_is;
        })) p at_book;
    cursors_are = hands_cursors k.base 0 modules ∙ floors_are;
  }
