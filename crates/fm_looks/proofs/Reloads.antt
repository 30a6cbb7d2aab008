-- Reloads along entries, and entries behind older ones.
use Rattle.std.proofs.Common.{◌≡◌, ℕ, zero, suc, ◌<◌, ◌≤◌, List, [], ◌∷◌, ◌++◌, length}
use Rattle.std.proofs.Common.{take, drop, refl, sym, ◌∙◌, ap, arith, length-append}
use Rattle.std.proofs.Math.ListN.{drop_of_length-le}
use Rattle.std.proofs.lemmas.List.{drop-append-le}
use Rattle.fm_entry.specs.declared.entry.Entry.{Entry}
use Rattle.fm_entry.specs.declared.entry.Entry.TheVariants.{Report, Tick, Repaired, Replaced}
use Rattle.fm_entry.specs.declared.entry.Entry.TheVariants.{Acquit, Reload}
use Rattle.fm_logs.specs.StoreBook.{force_along, ReloadsRise}

-- the number in force after one entry, and then more
force_cons : (n : ℕ) (e : Entry) (es : List Entry)
    → force_along n (e ∷ es) ≡ force_along (force_along n (e ∷ [])) es
force_cons n (Report class path moment payload) es = refl
force_cons n (Tick moment) es = refl
force_cons n (Repaired path moment) es = refl
force_cons n (Replaced path moment) es = refl
force_cons n (Acquit case moment) es = refl
force_cons n (Reload conf moment) es = refl

pub force_step : (n m : ℕ) (e : Entry) (es : List Entry) → m ≡ force_along n (e ∷ [])
    → force_along m es ≡ force_along n (e ∷ es)
force_step n m e es is = ap (λ (x : ℕ). force_along x es) is ∙ sym (force_cons n e es)

pub force_append : (n : ℕ) (es more : List Entry)
    → force_along n (es ++ more) ≡ force_along (force_along n es) more
force_append n [] more = refl
force_append n (e ∷ es) more =
    force_cons n e (es ++ more)
    ∙ force_append (force_along n (e ∷ [])) es more
    ∙ ap (λ (m : ℕ). force_along m more) (sym (force_cons n e es))

-- the number in force after an entry more
pub force_push : (n : ℕ) (es : List Entry) (e : Entry)
    → force_along n (es ++ e ∷ []) ≡ force_along (force_along n es) (e ∷ [])
force_push n [] e = refl
force_push n (Reload conf moment ∷ es) e = force_push conf es e
force_push n (x ∷ es) e = force_push n es e

-- Reloads rise with an entry more where that one does
pub rise_push : (known n : ℕ) (es : List Entry) (e : Entry) → ReloadsRise known n es
    → ReloadsRise known (force_along n es) (e ∷ []) → ReloadsRise known n (es ++ e ∷ [])
rise_push known n [] e a b = b
rise_push known n (Reload conf moment ∷ es) e a b = (a.0, a.1, rise_push known conf es e a.2 b)
rise_push known n (x ∷ es) e a b = rise_push known n es e a b

pub rise_last : (known n : ℕ) (es : List Entry) (e : Entry) → ReloadsRise known n (es ++ e ∷ [])
    → ReloadsRise known (force_along n es) (e ∷ [])
rise_last known n [] e a = a
rise_last known n (Reload conf moment ∷ es) e a = rise_last known conf es e a.2
rise_last known n (x ∷ es) e a = rise_last known n es e a

-- and among the first of them
pub rise_take : (known n k : ℕ) (es : List Entry) → ReloadsRise known n es
    → ReloadsRise known n (take k es)
rise_take known n zero es a = tt
rise_take known n (suc k) [] a = tt
rise_take known n (suc k) (Reload conf moment ∷ es) a = (a.0, a.1, rise_take known conf k es a.2)
rise_take known n (suc k) (x ∷ es) a = rise_take known n k es a

-- an entry more comes behind the older ones, or is one of them
pub behind_push : (older : ℕ) (all : List Entry) (e : Entry) → older ≤ length all
    → drop older (all ++ e ∷ []) ≡ drop older all ++ e ∷ []
behind_push older all e h = drop-append-le older all (e ∷ []) h

pub older_push : (older : ℕ) (all : List Entry) (e : Entry) → length all < older
    → drop older (all ++ e ∷ []) ≡ drop older all
older_push older all e h =
    drop_of_length-le (all ++ e ∷ []) (omega (arith, length-append all (e ∷ [])))
    ∙ sym (drop_of_length-le all (omega arith))

-- the first of the entries reload lawfully behind the older ones too
pub behind_take : (known n older k : ℕ) (all : List Entry) → ReloadsRise known n (drop older all)
    → ReloadsRise known n (drop older (take k all))
behind_take known n zero k all a = rise_take known n k all a
behind_take known n (suc older) zero all a = tt
behind_take known n (suc older) (suc k) [] a = tt
behind_take known n (suc older) (suc k) (x ∷ all) a = behind_take known n older k all a
