-- The condition that a `Cond` stands for, without where its members lie in memory.
use Rattle.std.specs.Prelude.{ℕ, List, [], ◌∷◌}
use Rattle.ev_tree.specs.declared.tree.Operand.{Operand}
use Rattle.ev_tree.specs.declared.tree.Compare.{Compare}
use Rattle.ev_tree.specs.declared.tree.Cond.{Cond, Cond-F, fold-Cond}

mutual
  -- any of the members, all of them, not the one, a property is there, or two sums compare so
  pub data Condition : Type 0 where
    Any : Conditions → Condition
    All : Conditions → Condition
    Negated : Condition → Condition
    Defined : List ℕ → Condition
    Compares : List Operand → Compare → List Operand → Condition

  -- conditions, in order
  pub data Conditions : Type 0 where
    Nothing : Conditions
    Also : Condition → Conditions → Conditions

-- the conditions of a list
abbrev pub conditions : List Condition → Conditions
conditions [] = Nothing
conditions (c ∷ cs) = Also c (conditions cs)

-- any of a list, and all of a list
abbrev pub any : List Condition → Condition
any cs = Any (conditions cs)

abbrev pub all : List Condition → Condition
all cs = All (conditions cs)

-- the condition of one level, over the conditions of its members
abbrev pub layer : Cond-F Condition → Condition
layer (Cond-F.Any cs) = any cs.items
layer (Cond-F.All cs) = all cs.items
layer (Cond-F.Not c) = Negated c.value
layer (Cond-F.Defined t) = Defined t
layer (Cond-F.Compares left how right) = Compares left how right

-- the condition that a `Cond` stands for
abbrev pub view_cond : Cond → Condition
view_cond = fold-Cond Condition layer
