-- The operands in a condition, in order.
use Rattle.std.specs.Prelude.{List, [], ◌++◌, Option, Some, None}
use Rattle.ev_tree.specs.Condition.{Condition, Conditions, Any, All, Negated, Defined, Compares}
use Rattle.ev_tree.specs.Condition.{Nothing, Also}
use Rattle.ev_tree.specs.Pattern.{view_option}
use Rattle.ev_tree.specs.declared.tree.SidePattern.{SidePattern}
use Rattle.ev_tree.specs.declared.tree.Operand.{Operand}

abbrev mutual
  -- the operands of a condition
  pub operands_of : Condition → List Operand
  operands_of (Any cs) = operands_in cs
  operands_of (All cs) = operands_in cs
  operands_of (Negated c) = operands_of c
  operands_of (Defined t) = []
  operands_of (Compares left how right) = left ++ right

  -- the operands of conditions
  pub operands_in : Conditions → List Operand
  operands_in Nothing = []
  operands_in (Also c cs) = operands_of c ++ operands_in cs

-- the operands of a condition that may be absent
abbrev pub operands_if : Option Condition → List Operand
operands_if None = []
operands_if (Some c) = operands_of c

-- the operands of the condition of a pattern
abbrev pub operands_at : SidePattern → List Operand
operands_at p = operands_if (view_option p.cond)
