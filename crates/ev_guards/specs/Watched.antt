-- Guards, but for where their conditions lie in memory.
use Rattle.std.specs.Prelude.{ℕ, List, map}
use Rattle.ev_tree.specs.Condition.{Condition, view_cond}
use Rattle.ev_expr.specs.declared.settings.Bound.{Bound}
use Rattle.ev_guards.specs.declared.guards.Question.{Question}
use Rattle.ev_guards.specs.declared.guards.Guard.{Guard}
use Rattle.ev_guards.specs.declared.guards.GuardedNode.{GuardedNode}

-- what a pattern asks at a node, without where its condition lies in memory
pub record Asked : Type 0 where
  pub names : List Bound
  pub condition : Condition

abbrev pub view_question : Question → Asked
view_question q = record { names = q.names.items; condition = view_cond q.cond }

-- a guard, without where its conditions lie in memory: an instance, and what is asked
pub record Guarded : Type 0 where
  pub instance : ℕ
  pub asked : List Asked

abbrev pub view_guard : Guard → Guarded
view_guard g = record { instance = g.instance; asked = map view_question g.questions.items }

-- a node with its guards, without where their conditions lie in memory
pub record Watched : Type 0 where
  pub path : List ℕ
  pub guards : List Guarded

abbrev pub view_node : GuardedNode → Watched
view_node n = record { path = n.path; guards = map view_guard n.guards.items }
