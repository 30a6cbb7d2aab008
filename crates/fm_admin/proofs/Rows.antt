-- The first row that passes a test, of rows that are lent.
use Rattle.std.proofs.Common.{◌≡◌, Bool, true, false, cond, List, [], ◌∷◌, map, Option, Some, None}
use Rattle.std.proofs.Common.{refl, sym, ◌∙◌, ap, Bor}
use Rattle.std.specs.List.{find}
use Rattle.std.specs.Option.{option_map}
use Rattle.fm_entry.specs.declared.case_name.CaseName.{CaseName}
use Rattle.fm_entry.specs.declared.list_event.ListEvent.{ListEvent}

found_step : {X Y : Type 0} (f : X → Y) (b : Bool) (x : X) (ys : Option Y) (xs : Option X)
    → ys ≡ option_map f xs → cond b (Some (f x)) ys ≡ option_map f (cond b (Some x) xs)
found_step f true x ys xs same = refl
found_step f false x ys xs same = same

find_mapped : {X Y : Type 0} (f : X → Y) (test : Y → Bool) (xs : List X)
    → find test (map f xs) ≡ option_map f (find (λ x. test (f x)) xs)
find_mapped f test [] = refl
find_mapped f test (x ∷ xs) =
    found_step f (test (f x)) x (find test (map f xs)) (find (λ x. test (f x)) xs)
    (find_mapped f test xs)

case_of : (r : Option (Bor ListEvent))
    → option_map (λ row. row.now.case) r
    ≡ option_map (λ (row : ListEvent). row.case) (option_map (λ row. row.now) r)
case_of (Some row) = refl
case_of None = refl

-- the first row that is lent, and the first row
row_found : (test : CaseName → Bool) (rows : List (Bor ListEvent))
    (r : Option (Bor ListEvent)) → r ≡ find (λ row. test row.now.case) rows
    → option_map (λ row. row.now) r ≡ find (λ row. test row.case) (map (λ row. row.now) rows)
row_found test rows r found =
    ap (λ (o : Option (Bor ListEvent)). option_map (λ row. row.now) o) found
    ∙ sym (find_mapped (λ row. row.now) (λ (row : ListEvent). test row.case) rows)

-- the first of all rows, where these are lent
pub row_in : (test : CaseName → Bool) (rows lent : List (Bor ListEvent)) (all : List ListEvent)
    (r : Option (Bor ListEvent)) → lent ≡ rows → map (λ row. row.now) rows ≡ all
    → r ≡ find (λ row. test row.now.case) lent
    → find (λ row. test row.case) all ≡ option_map (λ row. row.now) r
row_in test rows lent all r lends are found =
    sym (row_found test lent r found
    ∙ (ap (λ (ls : List (Bor ListEvent)). find (λ (row : ListEvent). test row.case)
    (map (λ row. row.now) ls)) lends
    ∙ ap (λ (ls : List ListEvent). find (λ row. test row.case) ls) are))

-- the case of the first row that is lent, and of the first row
pub case_found : (test : CaseName → Bool) (rows : List (Bor ListEvent))
    (r : Option (Bor ListEvent)) → r ≡ find (λ row. test row.now.case) rows
    → option_map (λ row. row.now.case) r
    ≡ option_map (λ row. row.case) (find (λ row. test row.case) (map (λ row. row.now) rows))
case_found test rows r found =
    case_of r
    ∙ (ap (λ (o : Option (Bor ListEvent)). option_map (λ (row : ListEvent). row.case)
    (option_map (λ row. row.now) o)) found
    ∙ ap (option_map (λ (row : ListEvent). row.case))
    (sym (find_mapped (λ row. row.now) (λ (row : ListEvent). test row.case) rows)))
