-- Conditions one by one: one of them holds, and each of them holds.
use Rattle.std.proofs.Common.{◌≡◌, ◌<◌, ◌+◌, ℕ, List, [], ◌∷◌, true, false, ◌&&◌, ◌||◌, ap, sym}
use Rattle.std.proofs.Common.{◌∙◌, refl, length, get_or, map, take}
use Rattle.std.specs.List.{list_any, list_all}
use Rattle.std.proofs.lemmas.List.Folds.{list_any_at, list_any_more, list_all_at, list_all_more}
use Rattle.ev_tree.specs.Condition.{conditions, view_cond}
use Rattle.ev_tree.specs.declared.tree.Cond.{Cond}
use Rattle.ev_expr.specs.Conditions.{holds, any_holds, all_hold}
use Rattle.ev_expr.specs.Operands.{Setting}

-- one of the conditions holds
pub any_is : (at : Setting) (cs : List Cond)
    → any_holds at (conditions (map view_cond cs)) ≡ list_any (λ c. holds at (view_cond c)) cs
any_is at [] = refl
any_is at (c ∷ cs) = ap (λ b. holds at (view_cond c) || b) (any_is at cs)

-- each of them holds
pub all_is : (at : Setting) (cs : List Cond)
    → all_hold at (conditions (map view_cond cs)) ≡ list_all (λ c. holds at (view_cond c)) cs
all_is at [] = refl
all_is at (c ∷ cs) = ap (λ b. holds at (view_cond c) && b) (all_is at cs)

-- a condition that holds settles the answer for any, and one that fails that for all
pub any_at : (at : Setting) (cs : List Cond) (i : ℕ) (x : Cond) → i < length cs → x ≡ get_or cs i x
    → holds at (view_cond x) ≡ true → any_holds at (conditions (map view_cond cs)) ≡ true
any_at at cs i x less is so =
    any_is at cs
    ∙ list_any_at (λ c. holds at (view_cond c)) cs i x less
    (ap (λ c. holds at (view_cond c)) (sym is) ∙ so)

pub all_at : (at : Setting) (cs : List Cond) (i : ℕ) (x : Cond) → i < length cs → x ≡ get_or cs i x
    → holds at (view_cond x) ≡ false → all_hold at (conditions (map view_cond cs)) ≡ false
all_at at cs i x less is so =
    all_is at cs
    ∙ list_all_at (λ c. holds at (view_cond c)) cs i x less
    (ap (λ c. holds at (view_cond c)) (sym is) ∙ so)

-- one more condition that fails, and one more that holds
pub any_more : (at : Setting) (cs : List Cond) (i : ℕ) (x : Cond) → i < length cs
    → x ≡ get_or cs i x → holds at (view_cond x) ≡ false
    → any_holds at (conditions (map view_cond (take i cs))) ≡ false
    → any_holds at (conditions (map view_cond (take (i + 1) cs))) ≡ false
any_more at cs i x less is so before =
    let test = λ (c : Cond). holds at (view_cond c) in
    any_is at (take (i + 1) cs) ∙ list_any_more test cs i x less
    ∙ ap (λ b. b || test (get_or cs i x)) (sym (any_is at (take i cs)) ∙ before)
    ∙ ap test (sym is) ∙ so

pub all_more : (at : Setting) (cs : List Cond) (i : ℕ) (x : Cond) → i < length cs
    → x ≡ get_or cs i x → holds at (view_cond x) ≡ true
    → all_hold at (conditions (map view_cond (take i cs))) ≡ true
    → all_hold at (conditions (map view_cond (take (i + 1) cs))) ≡ true
all_more at cs i x less is so before =
    let test = λ (c : Cond). holds at (view_cond c) in
    all_is at (take (i + 1) cs) ∙ list_all_more test cs i x less
    ∙ ap (λ b. b && test (get_or cs i x)) (sym (all_is at (take i cs)) ∙ before)
    ∙ ap test (sym is) ∙ so
