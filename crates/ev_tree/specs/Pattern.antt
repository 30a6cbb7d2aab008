-- The pattern that a `SidePattern` stands for, without where its condition lies in memory.
use Rattle.std.specs.Prelude.{ℕ, List, Option, Some, None}
use Rattle.ev_tree.specs.declared.tree.Part.{Part}
use Rattle.ev_tree.specs.declared.tree.SidePattern.{SidePattern}
use Rattle.ev_tree.specs.declared.tree.Cond.{Cond}
use Rattle.ev_tree.specs.Condition.{Condition, view_cond}

-- a class at the paths of these parts, under a condition where there is one
pub record Pattern : Type 0 where
  pub class : List ℕ
  pub parts : List Part
  pub cond : Option Condition

-- the condition, where there is one
abbrev pub view_option : Option Cond → Option Condition
view_option None = None
view_option (Some c) = Some (view_cond c)

-- the pattern that a `SidePattern` stands for
abbrev pub view_pattern : SidePattern → Pattern
view_pattern p = record { class = p.class; parts = p.parts; cond = view_option p.cond }
