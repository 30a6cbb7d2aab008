-- A link that is cut.
use Rattle.std.specs.Prelude.{◌≡◌, ◌==◌, ◌&&◌, ◌||◌, ◌+◌, ◌-◌, ◌⊎◌, [], ℕ, length, slice_index}
use Rattle.std.specs.Prelude.{slice_set}
use Rattle.ev_incidence.specs.Table.{row_at, IncidenceValue}
use Rattle.ev_graph.specs.declared.instances.Link.{Link}
use Rattle.dx_sets.specs.Sets.{SetsValue}
use Rattle.dx_sets.specs.Engine.{CutsOf, IsPaying, CausesLeave, IsSteady, IsOnWay}

-- one more link is cut
pub record CutsOne (cut : CutsOf) (link : Link) (more : CutsOf) : Type 0 where
  pub each : (j e : ℕ) → more j e ≡ (cut j e || (j == link.instance && e == link.effect))

-- the instance gives the effect no more
pub record GiftIsLost (v : IncidenceValue) (cut : CutsOf) (root : ℕ) (link : Link)
    (s t : SetsValue) : Type 0 where
  pub paid : (more : CutsOf) → CutsOne cut link more → IsPaying v more root [] s t

-- an instance has one effect less
abbrev pub one_effect_less : SetsValue → ℕ → SetsValue
one_effect_less s j = record {
  marks = s.marks;
  pending = s.pending;
  causes_left = s.causes_left;
  effects_left = slice_set s.effects_left j (slice_index s.effects_left j - 1);
  support = s.support;
}

-- and its causes leave where too few are left; so many steps were taken before and then
abbrev pub EffectLeaves : IncidenceValue → ℕ → SetsValue → ℕ → SetsValue → ℕ → Type 0
EffectLeaves v j s m t n =
    ((u : SetsValue) × (slice_index s.effects_left j ≡ slice_index v.n j) × CausesLeave v j s u
    × (t ≡ one_effect_less u j) × (n ≡ m + length (row_at v.causes j)))
    ⊎ ((slice_index s.effects_left j ≡ slice_index v.n j → ⊥) × (t ≡ one_effect_less s j)
    × (n ≡ m))

-- what was steady is steady without the link, and no set that is fit without it lost a member
pub record LinkIsLost (v : IncidenceValue) (cut : CutsOf) (root : ℕ) (link : Link)
    (s t : SetsValue) : Type 0 where
  pub steady : (more : CutsOf) → CutsOne cut link more → IsSteady v more root t
  pub way : (more : CutsOf) → CutsOne cut link more → IsOnWay v more root s t
