-- Arrows between nodes, as contracts see them.
use Rattle.std.specs.Prelude.{◌≡◌, ◌<◌, ◌^◌, ℕ, List, length}
use Rattle.ev_ways.specs.Lists.{RowsBelow}

-- so many nodes, and for each arrow its causes and its effects
pub record Drawing : Type 0 where
  pub nodes : ℕ
  pub causes : List (List ℕ)
  pub effects : List (List ℕ)

-- each arrow is between nodes that are there
pub record IsDrawing (d : Drawing) : Type 0 where
  pub causes_below : RowsBelow d.nodes d.causes
  pub effects_below : RowsBelow d.nodes d.effects
  pub both : length d.causes ≡ length d.effects
  pub few : length d.causes < 2 ^ 32
