-- The records of a drained book that are numbered from its base on.
use Rattle.std.proofs.Common.{◌≡◌, ℕ, zero, suc, ◌+◌, ◌-◌, ◌≤◌, ◌^◌, Bool, true, false, nat_le}
use Rattle.std.proofs.Common.{nat_lt, ◌==◌, IsTrue, List, [], ◌∷◌, ◌++◌, length, drop, Some, None}
use Rattle.std.proofs.Common.{refl, sym, ◌∙◌, ap, subst}
use Rattle.std.specs.declared.option.Option.{Option}
use Rattle.std.specs.List.{All, AllByRecursion, AllZip, slice_get}
use Rattle.std.proofs.lemmas.List.Elements.{All-from_recursion, recursion_from_All}
use Rattle.std.proofs.lemmas.Option.{same_Some}
use Rattle.fm_entry.specs.Entries.{IsSpelled}
use Rattle.fm_entry.specs.declared.entry.Entry.{Entry}
use Rattle.fm_entry.specs.declared.spoken.Spoken.{Spoken}
use Rattle.fm_core.specs.Book.{Book, ModuleState, next_number, with_entries}
use Rattle.fm_core.specs.Drained.{ended}
use Rattle.fm_core.specs.Folds.{words_along}
use Rattle.fm_core.specs.Meaning.{holds_of}
use Rattle.fm_core.specs.Records.{of_module, numbered_from, numbered_before}
use Rattle.fm_core.proofs.Along.{words_within}
use Rattle.fm_core.proofs.Lists.{all_append, all_filter, all_map, filter_none, filter_passes}
use Rattle.fm_core.proofs.Lists.{map_got}
use Rattle.fm_core.proofs.Ordered.{within_from, from_all}
use Rattle.fm_core.proofs.Tests.{true_lt, le_false}
use Rattle.fm_logs.specs.Contents.{Contents}
use Rattle.fm_payloads.specs.Spelling.{EachSpells}
use Rattle.fm_logs.specs.ReadsAsBook.{AreLoaded, ReadsAsBook, SaysBase, SpellsEntry}
use Rattle.fm_logs.specs.StoreBook.{StoreBook}
use Rattle.fm_saved.specs.declared.checkpoint.Checkpoint.{Checkpoint}
use Rattle.fm_slots.specs.Format.{SlotOf}
use Rattle.dx_state.specs.Configured.{Rules}
use Rattle.dx_along.specs.ExactAlong.{AllExact, IsDiagnoserOf, IsExactAlong, IsExactBook}
use Rattle.dx_along.specs.ExactAlong.{IsExactEnd}
use Rattle.dx_along.proofs.Along.{exact_along}

-- ---- the records from the base on

from_step : (n : ℕ) (x : Spoken) (xs ys : List Spoken)
    → numbered_from n (xs ++ ys) ≡ numbered_from n xs ++ numbered_from n ys → (b : Bool)
    → nat_le n x.number ≡ b
    → numbered_from n ((x ∷ xs) ++ ys) ≡ numbered_from n (x ∷ xs) ++ numbered_from n ys
from_step n x xs ys more true e = simp e (ap (λ l. x ∷ l) more)
from_step n x xs ys more false e = simp e more

from_append : (n : ℕ) (xs ys : List Spoken)
    → numbered_from n (xs ++ ys) ≡ numbered_from n xs ++ numbered_from n ys
from_append n [] ys = refl
from_append n (x ∷ xs) ys =
    from_step n x xs ys (from_append n xs ys) (nat_le n x.number) refl

-- none of the records from before the base is numbered from it on
old_none : (base own : ℕ) (records : List Spoken)
    → numbered_from base (of_module own (numbered_before base records)) ≡ []
old_none base own records =
    filter_none (λ r. nat_le base r.number) (of_module own (numbered_before base records))
    (all_filter (λ r. nat_le base r.number ≡ false) (λ r. r.«module» == own)
    (numbered_before base records)
    (all_map (λ r. nat_lt r.number base ≡ true) (λ r. nat_le base r.number ≡ false)
    (numbered_before base records)
    (λ r low. le_false base r.number (true_lt r.number base low))
    (filter_passes (λ r. nat_lt r.number base) records)))

words_from_base : (k : Book) (p : ModuleState)
    → numbered_from k.base (ended k p).words ≡ words_along p.meaning p.state k.base k.entries
words_from_base k p =
    let said : List Spoken = words_along p.meaning p.state k.base k.entries in
    let older : List Spoken = of_module p.meaning.own (numbered_before k.base k.records) in
    from_append k.base older said
    ∙ (ap (λ l. l ++ numbered_from k.base said) (old_none k.base p.meaning.own k.records)
    ∙ from_all k.base said (within_from p.meaning.own k.base (k.base + length k.entries) said
    (words_within p.meaning p.state k.base k.entries)))

exact_end : (r : Rules) (k : Book) (p : ModuleState)
    → IsExactAlong r p k.base k.entries → IsExactEnd r k.base (ended k p)
exact_end r k p along = record {
  words = subst (AllExact r) (sym (words_from_base k p)) along.words;
  waits = along.waits;
}

zip_at : {A B : Type 0} (R : A → B → Type 0) (xs : List A) (ys : List B) (i : ℕ) (x : A) (y : B)
    → AllZip R xs ys → slice_get xs i ≡ Some x → slice_get ys i ≡ Some y → R x y
zip_at R (a ∷ xs) (b ∷ ys) zero x y zip one other =
    subst (λ z. R z y) (same_Some a x one) (subst (λ z. R a z) (same_Some b y other) zip.0)
zip_at R (a ∷ xs) (b ∷ ys) (suc i) x y zip one other = zip_at R xs ys i x y zip.1 one other
zip_at R [] [] i x y zip one other = absurd (cc one)
zip_at R [] (b ∷ ys) i x y zip one other = absurd zip
zip_at R (a ∷ xs) [] i x y zip one other = absurd zip

pub exact_book : (rules : List Rules) (k : Book) → AllZip IsDiagnoserOf rules k.modules
    → next_number k ≤ 2 ^ 46 → All IsSpelled k.entries → IsExactBook rules k
exact_book rules k are few spelled i r e one other =
    let from = map_got (ended k) k.modules i e other in
    subst (IsExactEnd r k.base) from.2 (exact_end r k from.0
    (exact_along r from.0 k.base k.entries
    (zip_at IsDiagnoserOf rules k.modules i r from.0 are one from.1) few spelled))

-- ---- the book that contents read as

loaded_one : (r : Rules) (f p : ModuleState) → IsDiagnoserOf r f → p.meaning ≡ f.meaning
    → IsTrue (holds_of p.meaning p.state) → IsDiagnoserOf r p
loaded_one r f p is same holds = record {
  meaning_is = same ∙ is.meaning_is;
  holds = holds;
  graphs = is.graphs;
}

-- fresh modules of such rules, loaded with lawful states
pub loaded_all : (rules : List Rules) (fresh : List ModuleState) (states : List (List ℕ))
    (modules : List ModuleState) → AllZip IsDiagnoserOf rules fresh
    → AreLoaded fresh states modules → AllZip IsDiagnoserOf rules modules
loaded_all [] [] [] [] are loaded = tt
loaded_all (r ∷ rules) (f ∷ fresh) (state ∷ states) (p ∷ modules) are loaded =
    (loaded_one r f p are.0 loaded.0 loaded.1, loaded_all rules fresh states modules are.1 loaded.3)
loaded_all [] (f ∷ fresh) states modules are loaded = absurd are
loaded_all (r ∷ rules) [] states modules are loaded = absurd are
loaded_all [] [] [] (p ∷ modules) are loaded = absurd loaded
loaded_all [] [] (state ∷ states) modules are loaded = absurd loaded
loaded_all (r ∷ rules) (f ∷ fresh) [] modules are loaded = absurd loaded
loaded_all (r ∷ rules) (f ∷ fresh) (state ∷ states) [] are loaded = absurd loaded

says_all : (rules : List Rules) (fresh : List ModuleState) (found : Option (Bool × SlotOf))
    (checkpoint : Checkpoint) (modules : List ModuleState) → AllZip IsDiagnoserOf rules fresh
    → SaysBase fresh found checkpoint modules → AllZip IsDiagnoserOf rules modules
says_all rules fresh None checkpoint modules are says =
    subst (AllZip IsDiagnoserOf rules) (sym says.1) are
says_all rules fresh (Some slot) checkpoint modules are says =
    loaded_all rules fresh checkpoint.states modules are says.2

each_spelled : (payloads : List (List ℕ)) (es : List Entry) → EachSpells SpellsEntry payloads es
    → AllByRecursion IsSpelled es
each_spelled [] [] each = tt
each_spelled (p ∷ ps) (e ∷ es) each = (each.0.0, each_spelled ps es each.1)
each_spelled [] (e ∷ es) each = absurd each
each_spelled (p ∷ ps) [] each = absurd each

all_drop : (n : ℕ) (es : List Entry) → AllByRecursion IsSpelled es
    → AllByRecursion IsSpelled (drop n es)
all_drop zero es are = are
all_drop (suc n) [] are = tt
all_drop (suc n) (e ∷ es) are = all_drop n es are.1

-- the modules of the book
pub modules_on_disks : (rules : List Rules) (fresh : List ModuleState) (c : Contents)
    (k : StoreBook) → AllZip IsDiagnoserOf rules fresh → ReadsAsBook fresh c k
    → AllZip IsDiagnoserOf rules k.book.modules
modules_on_disks rules fresh c k are reads =
    says_all rules fresh reads.says.found reads.says.checkpoint k.book.modules are reads.says.says

-- its entries, and more behind them
pub entries_on_disks : (fresh : List ModuleState) (c : Contents) (k : StoreBook)
    (more : List Entry) → ReadsAsBook fresh c k → All IsSpelled more
    → All IsSpelled (with_entries k.book more).entries
entries_on_disks fresh c k more reads spelled =
    let own : AllByRecursion IsSpelled k.book.entries =
    subst (AllByRecursion IsSpelled) (sym reads.entries_are)
    (all_drop (k.book.base - reads.first) reads.entries
    (each_spelled reads.active.payloads reads.entries reads.active.spelled)) in
    All-from_recursion IsSpelled (k.book.entries ++ more)
    (all_append IsSpelled k.book.entries more own (recursion_from_All IsSpelled more spelled))

pub exact_on_disks : (rules : List Rules) (fresh : List ModuleState) (c : Contents) (k : StoreBook)
    (more : List Entry) → AllZip IsDiagnoserOf rules fresh → ReadsAsBook fresh c k
    → next_number (with_entries k.book more) ≤ 2 ^ 46 → All IsSpelled more
    → IsExactBook rules (with_entries k.book more)
exact_on_disks rules fresh c k more are reads few spelled =
    exact_book rules (with_entries k.book more) (modules_on_disks rules fresh c k are reads) few
    (entries_on_disks fresh c k more reads spelled)
