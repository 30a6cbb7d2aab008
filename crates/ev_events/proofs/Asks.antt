-- Whether one of some conditions asks the payload, condition by condition.
use Rattle.std.proofs.Common.{◌≡◌, ◌<◌, ◌+◌, ◌||◌, ℕ, Bool, true, false, List, [], ◌∷◌}
use Rattle.std.proofs.Common.{length, get_or, map, take, refl, sym, ap, ◌∙◌}
use Rattle.std.specs.List.{list_any}
use Rattle.std.proofs.lemmas.List.Folds.{list_any_at, list_any_more, list_any-append}
use Rattle.ev_tree.specs.Condition.{conditions, view_cond}
use Rattle.ev_tree.specs.declared.tree.Cond.{Cond}
use Rattle.ev_words.specs.Operands.{operands_of, operands_in}
use Rattle.ev_words.specs.Words.{is_payload}
use Rattle.ev_events.specs.Asking.{asks_payload}

pub any_asks_is : (cs : List Cond)
    → list_any is_payload (operands_in (conditions (map view_cond cs)))
    ≡ list_any (λ c. asks_payload (view_cond c)) cs
any_asks_is [] = refl
any_asks_is (c ∷ cs) =
    list_any-append is_payload (operands_of (view_cond c))
    (operands_in (conditions (map view_cond cs)))
    ∙ ap (λ (b : Bool). asks_payload (view_cond c) || b) (any_asks_is cs)

pub any_asks_at : (cs : List Cond) (i : ℕ) (x : Cond) → i < length cs → x ≡ get_or cs i x
    → asks_payload (view_cond x) ≡ true
    → list_any is_payload (operands_in (conditions (map view_cond cs))) ≡ true
any_asks_at cs i x less is so =
    any_asks_is cs
    ∙ list_any_at (λ c. asks_payload (view_cond c)) cs i x less
    (ap (λ (c : Cond). asks_payload (view_cond c)) (sym is) ∙ so)

pub any_asks_more : (cs : List Cond) (i : ℕ) (x : Cond) → i < length cs → x ≡ get_or cs i x
    → asks_payload (view_cond x) ≡ false
    → list_any is_payload (operands_in (conditions (map view_cond (take i cs)))) ≡ false
    → list_any is_payload (operands_in (conditions (map view_cond (take (i + 1) cs)))) ≡ false
any_asks_more cs i x less is so before =
    let test = λ (c : Cond). asks_payload (view_cond c) in
    any_asks_is (take (i + 1) cs) ∙ list_any_more test cs i x less
    ∙ ap (λ (b : Bool). b || test (get_or cs i x)) (sym (any_asks_is (take i cs)) ∙ before)
    ∙ ap test (sym is) ∙ so
