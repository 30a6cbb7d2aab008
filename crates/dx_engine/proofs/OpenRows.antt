-- Rows of open cases.
use Rattle.std.proofs.Common.{◌≡◌, ℕ, ◌+◌, ◌<◌, List, [], ◌∷◌, ◌++◌, length, map, ap, ◌∙◌}
use Rattle.std.proofs.Common.{get_or, take}
use Rattle.std.specs.List.{cons_option}
use Rattle.std.proofs.lemmas.List.{take_more, map-append}
use Rattle.dx_case.specs.Cases.{open_of}
use Rattle.dx_turn.specs.declared.tracked.Tracked.{Tracked}
use Rattle.dx_turn.specs.Tracking.{cases_before}
use Rattle.dx_engine.specs.Rows.{open_row, rows_of}
use Rattle.dx_engine.proofs.KeptCases.{kept_append}

-- one more row
pub rows_more : (own : ℕ) (ts : List Tracked) (i : ℕ) (t : Tracked) → i < length ts
    → rows_of own (cases_before (take (i + 1) ts))
    ≡ rows_of own (cases_before (take i ts)) ++ rows_of own (cons_option (get_or ts i t).kept [])
rows_more own ts i t low =
    let xs = cases_before (take i ts) in
    let ys = cases_before (get_or ts i t ∷ []) in
    ap (λ (us : List Tracked). rows_of own (cases_before us)) (take_more ts i t low)
    ∙ ap (rows_of own) (kept_append (take i ts) (get_or ts i t ∷ []))
    ∙ ap (map (open_row own)) (map-append open_of xs ys)
    ∙ map-append (open_row own) (map open_of xs) (map open_of ys)
