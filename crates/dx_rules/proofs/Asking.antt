-- The pairs of a payload, one by one.
use Rattle.std.proofs.Common.{◌≡◌, ℕ, ◌+◌, ◌<◌, ◌≤◌, ◌++◌, List, [], ap, sym, ◌∙◌}
use Rattle.std.proofs.lemmas.List.{append_assoc, append-nil}
use Rattle.fm_nv.specs.Data.{Pairs, Data, count, from, name_at, value_at}
use Rattle.fm_nv.proofs.Places.{from_step, from_zero, from_past}
use Rattle.ev_expr.specs.declared.settings.Prop.{Prop}
use Rattle.dx_rules.specs.Payloads.{props_of, prop_if_any, value_in}

pub props_none : (ps : Pairs) (done : List Prop) → done ≡ []
    → done ++ props_of (from 0 ps) ≡ props_of ps
props_none ps done none =
    (λ i. none i ++ props_of (from 0 ps)) ∙ ap props_of (from_zero ps 0 (λ i. 0))

pub props_more : (ps : Pairs) (at : ℕ) (done more : List Prop) (name : List ℕ) (d : Data)
    → at < count ps → name ≡ name_at at ps → d ≡ value_at at ps
    → more ≡ done ++ prop_if_any name (value_in d) → done ++ props_of (from at ps) ≡ props_of ps
    → more ++ props_of (from (at + 1) ps) ≡ props_of ps
props_more ps at done more name d room named valued put before =
    let rest = props_of (from (at + 1) ps) in
    (λ i. put i ++ rest)
    ∙ (append_assoc done (prop_if_any name (value_in d)) rest
    ∙ ((λ i. done ++ (prop_if_any (named i) (value_in (valued i)) ++ rest))
    ∙ (sym (ap (λ (qs : Pairs). done ++ props_of qs) (from_step ps at room)) ∙ before)))

pub props_all : (ps : Pairs) (at : ℕ) (done : List Prop) → count ps ≤ at
    → done ++ props_of (from at ps) ≡ props_of ps → done ≡ props_of ps
props_all ps at done past before =
    sym (append-nil done)
    ∙ (sym (ap (λ (qs : Pairs). done ++ props_of qs) (from_past ps at past)) ∙ before)
