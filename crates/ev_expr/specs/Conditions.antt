-- Whether a condition holds.
use Rattle.std.specs.Prelude.{ℕ, Bool, true, false, not, ◌==◌, ◌&&◌, ◌||◌, nat_lt, nat_le, List}
use Rattle.std.specs.Prelude.{Option, Some, is_some, bytes_eq}
use Rattle.ev_tree.specs.Condition.{Condition, Conditions, Any, All, Negated, Defined, Compares}
use Rattle.ev_tree.specs.Condition.{Nothing, Also}
use Rattle.ev_tree.specs.declared.tree.Compare.{Compare}
use Rattle.ev_tree.specs.declared.tree.Compare.TheVariants.{Eq, Ne, Lt, Le, Gt, Ge}
use Rattle.fm_topo.specs.Query.{property_at}
use Rattle.fm_topo.specs.declared.values.TopoValue.{TopoValue}
use Rattle.fm_topo.specs.declared.values.TopoValue.TheVariants.{Number, Text}
use Rattle.ev_expr.specs.Operands.{Setting, sum_value}

-- two numbers compare as usual
abbrev pub number_compares : Compare → ℕ → ℕ → Bool
number_compares Eq m n = m == n
number_compares Ne m n = not (m == n)
number_compares Lt m n = nat_lt m n
number_compares Le m n = nat_le m n
number_compares Gt m n = nat_lt n m
number_compares Ge m n = nat_le n m

-- two texts are equal or not, byte by byte; they are in no order
abbrev pub text_compares : Compare → List ℕ → List ℕ → Bool
text_compares Eq s t = bytes_eq s t
text_compares Ne s t = not (bytes_eq s t)
text_compares _ s t = false

-- two values of one kind compare; nothing is true of two kinds, or of what is absent
abbrev pub value_compares : Compare → Option TopoValue → Option TopoValue → Bool
value_compares how (Some (Number m)) (Some (Number n)) = number_compares how m n
value_compares how (Some (Text s)) (Some (Text t)) = text_compares how s t
value_compares how _ _ = false

abbrev mutual
  -- whether a condition holds at a setting
  pub holds : Setting → Condition → Bool
  holds at (Any cs) = any_holds at cs
  holds at (All cs) = all_hold at cs
  holds at (Negated c) = not (holds at c)
  holds at (Defined name) = is_some (property_at at.topology at.path name)
  holds at (Compares left how right) =
      value_compares how (sum_value at left) (sum_value at right)

  -- whether one of the conditions holds
  pub any_holds : Setting → Conditions → Bool
  any_holds at Nothing = false
  any_holds at (Also c cs) = holds at c || any_holds at cs

  -- whether each of the conditions holds
  pub all_hold : Setting → Conditions → Bool
  all_hold at Nothing = true
  all_hold at (Also c cs) = holds at c && all_hold at cs
