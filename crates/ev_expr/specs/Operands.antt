-- What operands of a condition are worth: a number, a text, or nothing.
use Rattle.std.specs.Prelude.{ℕ, ⊤, ◌<◌, ◌^◌, Bool, List, [], ◌∷◌, Option, Some, None}
use Rattle.std.specs.Prelude.{option_map, is_some}
use Rattle.std.specs.Prelude.{unwrap_or, find, bytes_eq, sum_by, if◌then◌else◌}
use Rattle.std.specs.List.{list_all}
use Rattle.ev_tree.specs.declared.tree.Operand.{Operand}
use Rattle.ev_tree.specs.declared.tree.Operand.TheVariants as operands
use Rattle.fm_topo.specs.Topology.{Topology}
use Rattle.fm_topo.specs.Query.{property_at}
use Rattle.fm_topo.specs.declared.values.TopoValue.{TopoValue}
use Rattle.fm_topo.specs.declared.values.TopoValue.TheVariants.{Number, Text}
use Rattle.ev_expr.specs.declared.settings.Bound.{Bound}
use Rattle.ev_expr.specs.declared.settings.Prop.{Prop}
use Rattle.ev_expr.specs.declared.settings.Environment.{Environment}
use Rattle.ev_expr.specs.declared.settings.Worth.{Worth}
use Rattle.ev_expr.specs.declared.settings.Worth.TheVariants as worths

-- where a condition is asked: the names that are bound, the topology and a path of it, and the
-- pairs of a payload
pub record Setting : Type 0 where
  pub names : List Bound
  pub topology : Topology
  pub path : List ℕ
  pub props : List Prop

-- the setting of an environment
abbrev pub setting_of : Environment → Setting
setting_of e = record {
  names = e.names.now;
  topology = e.topo.now;
  path = e.path.now;
  props = e.props.now;
}

-- the value that a `Worth` stands for, where it is one
abbrev pub view_worth : Worth → Option TopoValue
view_worth (worths.Number n) = Some (Number n)
view_worth (worths.Text text) = Some (Text text.now)
view_worth worths.Absent = None

-- the number of a `Worth` is one of 64 bits
abbrev pub HasSmallNumber : Worth → Type 0
HasSmallNumber (worths.Number n) = n < 2 ^ 64
HasSmallNumber _ = ⊤

-- the instance that is bound to a name: that of the first of this name
abbrev pub bound_value : List Bound → List ℕ → Option TopoValue
bound_value names name =
    option_map (λ b. Number b.instance) (find (λ b. bytes_eq b.name name) names)

-- the value in a payload: that of the first pair of this name
abbrev pub payload_value : List Prop → List ℕ → Option TopoValue
payload_value props name = option_map (λ p. p.value) (find (λ p. bytes_eq p.name name) props)

-- what an operand is worth
abbrev pub operand_value : Setting → Operand → Option TopoValue
operand_value at (operands.Int n) = Some (Number n)
operand_value at (operands.Name name) = bound_value at.names name
operand_value at (operands.Text text) = Some (Text text)
operand_value at (operands.Confprop name) = property_at at.topology at.path name
operand_value at (operands.Payloadprop name) = payload_value at.props name

-- the number that a value is, where it is one
abbrev pub number_in : Option TopoValue → Option ℕ
number_in (Some (Number n)) = Some n
number_in _ = None

-- whether an operand is worth a number, and that number
abbrev pub has_number : Setting → Operand → Bool
has_number at o = is_some (number_in (operand_value at o))

abbrev pub operand_number : Setting → Operand → ℕ
operand_number at o = unwrap_or (number_in (operand_value at o)) 0

-- the exact sum of the numbers, where each operand is worth one
abbrev pub exact_sum : Setting → List Operand → Option TopoValue
exact_sum at os =
    if list_all (has_number at) os then Some (Number (sum_by (operand_number at) os)) else None

-- what a sum is worth: one operand what it is worth itself, more of them their exact sum
abbrev pub sum_value : Setting → List Operand → Option TopoValue
sum_value at (o ∷ []) = operand_value at o
sum_value at os = exact_sum at os
