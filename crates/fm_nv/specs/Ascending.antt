-- Names that come in the order of their bytes.
use Rattle.std.specs.Prelude.{◌≡◌, ℕ, false, List}
use Rattle.std.specs.declared.cmp.Ordering.TheVariants.{Less}
use Rattle.std.specs.Ordering.{nat_cmp}
use Rattle.std.specs.Cmp.Lexicographic.{slice_cmp}
use Rattle.fm_nv.specs.Data.{Pairs, no_pairs, pair, has}

-- a name is greater than that of the last pair, if there is one
abbrev pub FollowsLast : List ℕ → Pairs → Type 0
FollowsLast name no_pairs = Unit {0}
FollowsLast name (pair k d no_pairs) = slice_cmp nat_cmp k name ≡ Less
FollowsLast name (pair k d (pair j e ps)) = FollowsLast name (pair j e ps)

-- what is greater than the last name is no name of the list
abbrev pub LastIsGreatest : Pairs → Type 0
LastIsGreatest ps = (name : List ℕ) → FollowsLast name ps → has name ps ≡ false

-- a name is greater than the last, which is the greatest
pub record IsPast (name : List ℕ) (ps : Pairs) : Type 0 where
  pub follows : FollowsLast name ps
  pub greatest : LastIsGreatest ps
