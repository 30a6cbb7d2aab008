-- Operands and what is gathered of them.
use Rattle.std.proofs.Common.{◌≡◌, ℕ, ◌+◌, ◌<◌, ◌++◌, ◌∷◌, [], List, length, get_or, take, map, sym}
use Rattle.std.proofs.Common.{◌∙◌, ap, append_assoc}
use Rattle.std.proofs.lemmas.List.{append-nil, map-append, take_more}
use Rattle.ev_tree.specs.Condition.{Condition, conditions, view_cond}
use Rattle.ev_tree.specs.declared.tree.Cond.{Cond}
use Rattle.ev_tree.specs.declared.tree.Operand.{Operand}
use Rattle.ev_words.specs.Operands.{operands_in, operands_of}

-- the operands of one more condition
operands_more : (cs : List Condition) (c : Condition)
    → operands_in (conditions (cs ++ c ∷ [])) ≡ operands_in (conditions cs) ++ operands_of c
operands_more [] c = append-nil (operands_of c)
operands_more (d ∷ cs) c = ap (λ os. operands_of d ++ os) (operands_more cs c)
    ∙ sym (append_assoc (operands_of d) (operands_in (conditions cs)) (operands_of c))

-- the same in a loop over conditions
pub gathered_more : (conds : List Cond) (n : ℕ) (x : Cond) (old new found : List Operand)
    → n < length conds → x ≡ get_or conds n x
    → old ≡ found ++ operands_in (conditions (map view_cond (take n conds)))
    → new ≡ old ++ operands_of (view_cond x)
    → new ≡ found ++ operands_in (conditions (map view_cond (take (n + 1) conds)))
gathered_more conds n x old new found lt is before after =
    after ∙ ap (λ os. os ++ operands_of (view_cond x)) before
    ∙ append_assoc found (operands_in (conditions (map view_cond (take n conds))))
    (operands_of (view_cond x))
    ∙ ap (λ os. found ++ os) (sym (operands_more (map view_cond (take n conds)) (view_cond x)))
    ∙ ap (λ y. found ++ operands_in (conditions (map view_cond (take n conds) ++ view_cond y ∷ [])))
    is
    ∙ ap (λ cs. found ++ operands_in (conditions cs))
    (sym (map-append view_cond (take n conds) (get_or conds n x ∷ [])))
    ∙ ap (λ cs. found ++ operands_in (conditions (map view_cond cs))) (sym (take_more conds n x lt))
