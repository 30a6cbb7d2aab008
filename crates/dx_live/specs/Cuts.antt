-- Which links of some rows are cut.
use Rattle.std.specs.Prelude.{◌≡◌, ◌==◌, ◌&&◌, ◌||◌, ◌+◌, ◌<◌, ℕ, suc, Bool, true, List, [], ◌∷◌}
use Rattle.std.specs.Prelude.{length}
use Rattle.std.specs.Prelude.{slice_index, if◌then◌else◌}
use Rattle.ev_incidence.specs.Sets.{is_member, has_mark, ascends, IsSubset}
use Rattle.ev_incidence.specs.Table.{row_at, IncidenceValue}
use Rattle.ev_graph.specs.declared.instances.Link.{Link}
use Rattle.dx_sets.specs.Sets.{SetsValue}
use Rattle.dx_sets.specs.Engine.{CutsOf, IsSteady, KeepsFit, wiring_cut}

-- a mark for each member of each row, one row behind the other, and where the marks of each begin
pub record CutsValue : Type 0 where
  pub starts : List ℕ
  pub marks : List Bool

-- the place at which a number first stands
abbrev pub first_index : ℕ → List ℕ → ℕ
first_index v [] = 0
first_index v (x ∷ xs) = if x == v then 0 else suc (first_index v xs)

-- the mark of a member of the row at t
abbrev pub mark_place : CutsValue → List ℕ → ℕ → ℕ → ℕ
mark_place c row t l = slice_index c.starts t + first_index l row

-- these members are marked
abbrev pub cut_at : List (List ℕ) → CutsValue → CutsOf
cut_at rows c t l =
    is_member (row_at rows t) l && has_mark c.marks (mark_place c (row_at rows t) t l)

-- the marks of the first n rows stand apart, below the total
pub record AreStarts (n : ℕ) (rows : List (List ℕ)) (starts : List ℕ) (total : ℕ) : Type 0 where
  pub count : length starts ≡ n
  pub inside : (t i : ℕ) → t < n → i < length (row_at rows t) → slice_index starts t + i < total
  pub apart : (t u i : ℕ) → t < u → u < n → i < length (row_at rows t)
      → slice_index starts t + i < slice_index starts u

-- each row ascends
pub record AreAscending (rows : List (List ℕ)) : Type 0 where
  pub each : (t : ℕ) → ascends (row_at rows t) ≡ true

-- there is a mark for each member
pub record AreCutsOf (rows : List (List ℕ)) (c : CutsValue) : Type 0 where
  pub starts : AreStarts (length rows) rows c.starts (length c.marks)
  pub ascending : AreAscending rows

-- of the links, one more is cut
pub record IsOneCut (rows : List (List ℕ)) (link : Link) (old new : CutsOf) : Type 0 where
  pub each : (t l : ℕ) → is_member (row_at rows t) l ≡ true
      → new t l ≡ (old t l || (t == link.instance && l == link.effect))

-- a link is cut: the set is steady again, and no set that is fit without the link lost a member
pub record CutIsMade (v : IncidenceValue) (here : ℕ) (link : Link) (c : CutsValue) (s : SetsValue)
    (d : CutsValue) (t : SetsValue) : Type 0 where
  pub cuts : AreCutsOf v.effects d
  pub one : IsOneCut v.effects link (cut_at v.effects c) (cut_at v.effects d)
  pub steady : IsSteady v (cut_at v.effects d) here t
  pub over : t.pending ≡ []
  pub shrinks : IsSubset (has_mark t.marks) (has_mark s.marks)
  pub keeps : KeepsFit (wiring_cut v (cut_at v.effects d)) here s t
