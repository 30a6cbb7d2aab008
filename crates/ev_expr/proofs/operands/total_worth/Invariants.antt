use Rattle.std.proofs.Common.{◌≡◌, ◌≤◌, ◌*◌, true, take, sum_by}
use Rattle.std.specs.List.{list_all}
use Rattle.ev_expr.specs.Operands.{has_number, operand_number, setting_of}
use Rattle.ev_expr.proofs.operands.total_worth.Given as goal

-- the operands so far are worth numbers, the sum is theirs, and there is room for one more
abbrev pub invariant-loop-operand : goal.invariant-loop-operand
invariant-loop-operand l =
    (list_all (has_number (setting_of l.env)) (take l.operand-index l.operands) ≡ true)
    × (l.sum ≡ sum_by (operand_number (setting_of l.env)) (take l.operand-index l.operands))
    × (l.sum ≤ 18446744073709551616 * l.operand-index)
