-- Modules that have come to their floors, with one record more.
use Rattle.std.proofs.Common.{◌≡◌, inl, inr, ℕ, zero, suc, ◌+◌, ◌<◌, ◌≤◌, max, List, [], ◌∷◌, ◌++◌}
use Rattle.std.proofs.Common.{length, get_or, Some, refl, sym, ◌∙◌, ap, subst, arith}
use Rattle.std.proofs.Common.{slice_get}
use Rattle.std.proofs.Common.{set, map, Bool, true, false, Result, Ok, Err, IfOk}
use Rattle.std.proofs.lemmas.List.{map-set, set-get_or}
use Rattle.std.proofs.lemmas.Option.{slice_get_read}
use Rattle.std.specs.List.{AllByRecursion, slice_set}
use Rattle.std.proofs.lemmas.Bool.{cases_eq}
use Rattle.std.proofs.lemmas.List.{length-set}
use Rattle.std.proofs.lemmas.Option.{slice_get_within, slice_get-get_or, same_Some}
use Rattle.fm_core.specs.Book.{Book, ModuleState, state_at}
use Rattle.fm_core.specs.Folds.{state_along}
use Rattle.fm_core.specs.Meaning.{Meaning, State}
use Rattle.fm_core.specs.Records.{of_module, past_all}
use Rattle.fm_core.specs.declared.module.Module.{Ghosts}
use Rattle.fm_core.proofs.Lists.{get_set_same, get_set_other, map_get}
use Rattle.fm_entry.specs.declared.entry.Entry.{Entry}
use Rattle.fm_entry.specs.declared.spoken.Spoken.{Spoken}
use Rattle.fm_retrace.specs.Retracing.{SayRecords, SaysNext, entries_between, HasRetraced}
use Rattle.fm_retrace.specs.Retracing.{HaveRetraced, IsBookOf, meanings_of, AreNumbered}
use Rattle.fm_retrace.specs.Retracing.{AreWithin}
use Rattle.fm_retrace.specs.declared.retraced.Retraced.{Retraced}
use Rattle.fm_retrace.proofs.Next.{says_more, says_only, state_parts, past_push, of_same, of_others}
use Rattle.fm_retrace.proofs.Next.{names_module}
use Rattle.fm_bytes.specs.declared.no_memory.NoMemory.{NoMemory}

-- what a module says next, of the same
same_next : (base b : ℕ) (entries es : List Entry) (m n : Meaning) (s t : State) (past q : ℕ)
    (r : Spoken) → base ≡ b → entries ≡ es → m ≡ n → s ≡ t → past ≡ q
    → SaysNext base entries m s past r → SaysNext b es n t q r
same_next base b entries es m n s t past q r one two three four five next =
    subst (λ (x : ℕ). SaysNext b es n t x r) five
    (subst (λ (x : State). SaysNext b es n x past r) four
    (subst (λ (x : Meaning). SaysNext b es x s past r) three
    (subst (λ (x : List Entry). SaysNext b x m s past r) two
    (subst (λ (x : ℕ). SaysNext x entries m s past r) one next))))

module _ {M : Type 0} (g : Ghosts M) (base : ℕ) (entries : List Entry) (k : Book)
    (rs : List Spoken) (r : Spoken) (modules : List (Retraced M)) (own : Retraced M)
    (has : IsBookOf base entries k) (says : SayRecords k rs) (come : HaveRetraced g k rs modules)
    (there : slice_get modules r.«module» ≡ Some own) where
  abbrev p : ModuleState
  p = get_or k.modules r.«module» (record {
    meaning = g.meaning own.object;
    state = g.state own.object;
  })

  there_too : slice_get k.modules r.«module» ≡ Some p
  there_too =
      slice_get-get_or k.modules r.«module» _
      (omega (arith, come.as_many, slice_get_within modules r.«module» own there))

  at : HasRetraced g k rs r.«module» p own
  at = come.each r.«module» p own there_too there

  abbrev past : ℕ
  past = past_all 0 (of_module r.«module» rs)

  state_is : g.state own.object ≡ state_at k p (max k.base past)
  state_is = at.state_is ∙ ap (λ (n : ℕ). state_at k p (max k.base n)) at.past_is

  -- what the module says next, as the book has it, and as the object
  in_book : SaysNext base entries (g.meaning own.object) (g.state own.object) own.past r
      → SaysNext k.base k.entries p.meaning (state_at k p (max k.base past)) past r
  in_book next =
      same_next base k.base entries k.entries (g.meaning own.object) p.meaning
      (g.state own.object) (state_at k p (max k.base past)) own.past past r (sym has.base_is)
      (sym has.entries_are) at.meaning_is state_is at.past_is next

  of_object : SaysNext k.base k.entries p.meaning (state_at k p (max k.base past)) past r
      → SaysNext base entries (g.meaning own.object) (g.state own.object) own.past r
  of_object next =
      same_next k.base base k.entries entries p.meaning (g.meaning own.object)
      (state_at k p (max k.base past)) (g.state own.object) past own.past r has.base_is
      has.entries_are (sym at.meaning_is) (sym state_is) (sym at.past_is) next

  -- the modules say the record too where the object does
  pub say_more : SaysNext base entries (g.meaning own.object) (g.state own.object) own.past r
      → SayRecords k (rs ++ r ∷ [])
  say_more next = says_more k rs r says p there_too (in_book next)

  -- and only then
  pub say_only : (SaysNext base entries (g.meaning own.object) (g.state own.object) own.past r → ⊥)
      → SayRecords k (rs ++ r ∷ []) → ⊥
  say_only other more = other (of_object (says_only k rs r says p there_too more))

  module _ (next : SaysNext base entries (g.meaning own.object) (g.state own.object) own.past r)
      (later : Retraced M) (past_later : later.past ≡ r.number + 1)
      (kept : g.meaning later.object ≡ g.meaning own.object)
      (taken : g.state later.object ≡ state_along (g.meaning own.object) (g.state own.object)
      (max base own.past) (entries_between base (max base own.past) (max base (r.number + 1))
      entries)) where
    rises : past ≤ r.number
    rises = (in_book next).rises

    past_now : later.past ≡ past_all 0 (of_module r.«module» (rs ++ r ∷ []))
    past_now =
        past_later
        ∙ (let greater : r.number + 1 ≡ max past (r.number + 1) = omega (arith, rises) in greater)
        ∙ sym (past_push (of_module r.«module» rs) r)
        ∙ ap (past_all 0) (sym (of_same r.«module» rs r refl))

    low_is : max base own.past ≡ max k.base past
    low_is =
        ap (λ (n : ℕ). max n own.past) (sym has.base_is) ∙ ap (max k.base) at.past_is

    high_is : max base (r.number + 1) ≡ max k.base later.past
    high_is =
        ap (λ (n : ℕ). max n (r.number + 1)) (sym has.base_is) ∙ ap (max k.base) (sym past_later)

    inside : max k.base later.past ≤ k.base + length k.entries
    inside = omega (arith, (in_book next).inside, past_later)

    state_now : g.state later.object ≡ state_at k p (max k.base later.past)
    state_now =
        taken
        ∙ ap (λ (m : Meaning). state_along m (g.state own.object) (max base own.past)
        (entries_between base (max base own.past) (max base (r.number + 1)) entries))
        at.meaning_is
        ∙ ap (λ (s : State). state_along p.meaning s (max base own.past)
        (entries_between base (max base own.past) (max base (r.number + 1)) entries)) state_is
        ∙ ap (λ (n : ℕ). state_along p.meaning (state_at k p (max k.base past)) n
        (entries_between base n (max base (r.number + 1)) entries)) low_is
        ∙ ap (λ (n : ℕ). state_along p.meaning (state_at k p (max k.base past)) (max k.base past)
        (entries_between base (max k.base past) n entries)) high_is
        ∙ ap (λ (n : ℕ). state_along p.meaning (state_at k p (max k.base past)) (max k.base past)
        (entries_between n (max k.base past) (max k.base later.past) entries)) (sym has.base_is)
        ∙ ap (λ (l : List Entry). state_along p.meaning (state_at k p (max k.base past))
        (max k.base past)
        (entries_between k.base (max k.base past) (max k.base later.past) l))
        (sym has.entries_are)
        ∙ sym (state_parts p.meaning p.state k.base (max k.base past) (max k.base later.past)
        k.entries (omega arith) (omega (arith, rises, past_later)) inside)

    one_more : HasRetraced g k (rs ++ r ∷ []) r.«module» p later
    one_more = record {
      meaning_is = kept ∙ at.meaning_is;
      past_is = past_now;
      state_is = state_now;
    }

    pub come_more : HaveRetraced g k (rs ++ r ∷ []) (slice_set modules r.«module» later)
    come_more = record {
      as_many = length-set modules r.«module» later ∙ come.as_many;
      each = λ j q o at_book at_list. elim (cases_eq j r.«module») [
        | inl same ↦
            let book_there : slice_get k.modules r.«module» ≡ Some q =
            subst (λ (x : ℕ). slice_get k.modules x ≡ Some q) same at_book in
            let list_there : slice_get (set modules r.«module» later) r.«module» ≡ Some o =
            subst (λ (x : ℕ). slice_get (set modules r.«module» later) x ≡ Some o) same at_list in
            let one : p ≡ q = same_Some p q (sym there_too ∙ book_there) in
            let other : later ≡ o =
            same_Some later o
            (sym (get_set_same modules r.«module» own later there) ∙ list_there) in
            subst (λ (x : ℕ). HasRetraced g k (rs ++ r ∷ []) x q o) (sym same)
            (subst (λ (x : Retraced M). HasRetraced g k (rs ++ r ∷ []) r.«module» q x) other
            (subst (λ (x : ModuleState). HasRetraced g k (rs ++ r ∷ []) r.«module» x later) one
            one_more))
        | inr other ↦
            let same : of_module j (rs ++ r ∷ []) ≡ of_module j rs =
            of_others j rs r (λ e. other (sym e)) in
            let was = come.each j q o at_book
            (sym (get_set_other modules r.«module» j later other) ∙ at_list) in
            record {
              meaning_is = was.meaning_is;
              past_is = was.past_is ∙ ap (past_all 0) (sym same);
              state_is = was.state_is;
            }
      ];
    }

-- a fact of each element, at a place, and with another element there
pub all_at : {X : Type 0} (P : X → Type 0) (xs : List X) (i : ℕ) (x : X) → AllByRecursion P xs
    → slice_get xs i ≡ Some x → P x
all_at P [] i x all there = absurd (let no : ⊥ = cc in no)
all_at P (y ∷ xs) zero x all there = subst P (same_Some y x there) all.0
all_at P (y ∷ xs) (suc i) x all there = all_at P xs i x all.1 there

all_set : {X : Type 0} (P : X → Type 0) (xs : List X) (i : ℕ) (x : X) → AllByRecursion P xs → P x
    → AllByRecursion P (set xs i x)
all_set P [] i x all now = tt
all_set P (y ∷ xs) zero x all now = (now, all.1)
all_set P (y ∷ xs) (suc i) x all now = (all.0, all_set P xs i x all.1 now)

-- the element that was read at a place
read_at : {X : Type 0} (xs : List X) (i : ℕ) (x : X) → i < length xs → x ≡ get_or xs i x
    → slice_get xs i ≡ Some x
read_at xs i x inside is = slice_get_read xs (length xs) i x refl inside is

module _ {M : Type 0} (g : Ghosts M) (modules : List (Retraced M)) (at : ℕ) (own : Retraced M)
    (inside : at < length modules) (read : own ≡ get_or modules at own) where
  -- the object has the meaning of its place
  pub own_number : AreNumbered (meanings_of g modules) → (g.meaning own.object).own ≡ at
  own_number numbered =
      numbered at (g.meaning own.object)
      (map_get (λ (o : Retraced M). g.meaning o.object) modules at own
      (read_at modules at own inside read))

  -- none spoke past a number, with another object in place of this one
  pub within_set : (end : ℕ) (later : Retraced M) → (own.past ≤ end → later.past ≤ end)
      → AreWithin end modules → AreWithin end (slice_set modules at later)
  within_set end later kept all =
      all_set (λ (o : Retraced M). o.past ≤ end) modules at later all
      (kept (all_at (λ (o : Retraced M). o.past ≤ end) modules at own all
      (read_at modules at own inside read)))

  -- no meaning changes
  pub meanings_kept : (later : Retraced M) → g.meaning later.object ≡ g.meaning own.object
      → meanings_of g (slice_set modules at later) ≡ meanings_of g modules
  meanings_kept later kept =
      let f : Retraced M → Meaning = λ o. g.meaning o.object in
      map-set f modules at later
      ∙ ap (λ (m : Meaning). set (map f modules) at m) kept
      ∙ sym (map-set f modules at own)
      ∙ ap (map f) (ap (set modules at) read ∙ set-get_or modules at own)

  module _ (base : ℕ) (entries : List Entry) (r : Spoken) (is : r.«module» ≡ at)
      (later : Retraced M) where
    there : slice_get modules r.«module» ≡ Some own
    there = ap (slice_get modules) is ∙ read_at modules at own inside read

    -- what a step by the record does, by its answer
    pub take_yes : (result : Result Bool NoMemory)
        → IfOk result (λ says. says ≡ true → SaysNext base entries (g.meaning own.object)
        (g.state own.object) own.past r)
        → IfOk result (λ says. says ≡ true → later.past ≡ r.number + 1)
        → IfOk result (λ says. says ≡ true → g.state later.object
        ≡ state_along (g.meaning own.object) (g.state own.object) (max base own.past)
        (entries_between base (max base own.past) (max base (r.number + 1)) entries))
        → g.meaning later.object ≡ g.meaning own.object
        → IfOk result (λ says. says ≡ true → (k : Book) (rs : List Spoken)
        → IsBookOf base entries k → SayRecords k rs → HaveRetraced g k rs modules
        → SayRecords k (rs ++ r ∷ [])
        × HaveRetraced g k (rs ++ r ∷ []) (slice_set modules r.«module» later))
    take_yes (Ok says) next there_past taken kept = λ yes k rs has so_far come. (
      say_more g base entries k rs r modules own has so_far come there (next yes),
      come_more g base entries k rs r modules own has so_far come there (next yes) later
          (there_past yes) kept (taken yes),
    )
    take_yes (Err fault) next there_past taken kept = tt

    pub take_no : (result : Result Bool NoMemory)
        → IfOk result (λ says. says ≡ false → SaysNext base entries (g.meaning own.object)
        (g.state own.object) own.past r → ⊥)
        → IfOk result (λ says. says ≡ false → (k : Book) (rs : List Spoken)
        → IsBookOf base entries k → SayRecords k rs → HaveRetraced g k rs modules
        → SayRecords k (rs ++ r ∷ []) → ⊥)
    take_no (Ok says) next = λ no k rs has so_far come.
        say_only g base entries k rs r modules own has so_far come there (next no)
    take_no (Err fault) next = tt

-- there is no such module
pub take_none : {M : Type 0} (g : Ghosts M) (k : Book) (rs : List Spoken) (r : Spoken)
    (modules : List (Retraced M)) → length modules ≤ r.«module» → HaveRetraced g k rs modules
    → SayRecords k (rs ++ r ∷ []) → ⊥
take_none g k rs r modules none come says =
    omega (arith, none, come.as_many, names_module k rs r says)
