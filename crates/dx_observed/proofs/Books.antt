-- Each module of a drained book explains the reports along its entries.
use Rattle.std.proofs.Common.{◌≡◌, ℕ, zero, suc, ◌≤◌, ◌^◌, IsTrue, List, [], ◌∷◌, Some, slice_get}
use Rattle.std.proofs.Common.{refl, sym, ap, ◌∙◌, subst}
use Rattle.std.specs.List.{All, AllZip}
use Rattle.std.proofs.lemmas.Bool.{false≢true}
use Rattle.std.proofs.lemmas.Option.{same_Some}
use Rattle.fm_entry.specs.Entries.{IsSpelled}
use Rattle.fm_core.specs.Book.{Book, ModuleState, next_number}
use Rattle.fm_core.specs.Drained.{Ended, ended}
use Rattle.fm_core.specs.Meaning.{Meaning, State, Counting, Diagnosing, Foreign, Diagnosis}
use Rattle.fm_core.specs.Meaning.{holds_of}
use Rattle.fm_core.proofs.Lists.{map_got}
use Rattle.dx_state.specs.Configured.{Rules}
use Rattle.dx_step.specs.Lawful.{is_lawful}
use Rattle.dx_meaning.specs.DiagnoserMeaning.{diagnoser_meaning}
use Rattle.dx_along.specs.ExactAlong.{IsDiagnoserOf}
use Rattle.dx_observed.specs.ObservedBook.{ExplainsBook, ExplainsEnd, diagnoser_in}
use Rattle.dx_observed.proofs.Observed.{explained}

zip_at : {A B : Type 0} (R : A → B → Type 0) (xs : List A) (ys : List B) (i : ℕ) (x : A) (y : B)
    → AllZip R xs ys → slice_get xs i ≡ Some x → slice_get ys i ≡ Some y → R x y
zip_at R (a ∷ xs) (b ∷ ys) zero x y zip one other =
    subst (λ z. R z y) (same_Some a x one) (subst (λ z. R a z) (same_Some b y other) zip.0)
zip_at R (a ∷ xs) (b ∷ ys) (suc i) x y zip one other = zip_at R xs ys i x y zip.1 one other
zip_at R [] [] i x y zip one other = absurd (cc one)
zip_at R [] (b ∷ ys) i x y zip one other = absurd zip
zip_at R (a ∷ xs) [] i x y zip one other = absurd zip

-- a diagnosis module in a lawful state is one in the state of a diagnosis module
record IsIn (r : Rules) (p : ModuleState) : Type 0 where
  first : Diagnosis
  is : p ≡ diagnoser_in r first
  lawful : IsTrue (is_lawful r first)

is_in : (r : Rules) (m : Meaning) (t : State) → m ≡ diagnoser_meaning r → IsTrue (holds_of m t)
    → IsIn r (record { meaning = m; state = t })
is_in r m (Diagnosing s) is h = record {
  first = s;
  is = ap (λ (x : Meaning). record { meaning = x; state = Diagnosing s }) is;
  lawful = subst (λ (x : Meaning). IsTrue (holds_of x (Diagnosing s))) is h;
}
is_in r m (Counting xs) is h =
    absurd (false≢true (subst (λ (x : Meaning). IsTrue (holds_of x (Counting xs))) is h))
is_in r m (Foreign bytes) is h =
    absurd (false≢true (subst (λ (x : Meaning). IsTrue (holds_of x (Foreign bytes))) is h))

explained_end : (r : Rules) (k : Book) (i : ℕ) (p : ModuleState) (s : Diagnosis)
    → p ≡ diagnoser_in r s → IsDiagnoserOf r p → IsTrue (is_lawful r s)
    → slice_get k.modules i ≡ Some p → next_number k ≤ 2 ^ 46 → All IsSpelled k.entries
    → ExplainsEnd r k i (ended k p)
explained_end r k i p s same are lawful stands few spelled =
    subst (λ (q : ModuleState). ExplainsEnd r k i (ended k q)) (sym same) (record {
      first = s;
      module_is = stands ∙ ap Some same;
      state_is = refl;
      words_are = refl;
      explains = explained r s k.base k.entries are.graphs lawful few spelled;
    })

pub explained_book : (rules : List Rules) (k : Book) → AllZip IsDiagnoserOf rules k.modules
    → next_number k ≤ 2 ^ 46 → All IsSpelled k.entries → ExplainsBook rules k
explained_book rules k are few spelled i r e one other =
    let from = map_got (ended k) k.modules i e other in
    let p = from.0 in
    let is = zip_at IsDiagnoserOf rules k.modules i r p are one from.1 in
    let found = is_in r p.meaning p.state is.meaning_is is.holds in
    subst (λ (x : Ended). ExplainsEnd r k i x) from.2
    (explained_end r k i p found.first found.is is found.lawful from.1 few spelled)
