-- Guards of the same links, which payloads break alike, say the same of payloads.
use mathlib.Core.Bool.{Bool-set}
use mathlib.Core.HLevel.{is_prop→PathP, Π_prop}
use Rattle.std.proofs.Common.{◌≡◌, ℕ, List, [], ◌∷◌, IsTrue, refl, subst}
use Rattle.std.proofs.lemmas.Bool.{false≢true}
use Rattle.std.specs.List.{list_all}
use Rattle.fm_nv.specs.Data.{Pairs}
use Rattle.ev_graph.specs.Cutting.{is_cut}
use Rattle.ev_graph.specs.declared.instances.Link.{Link}
use Rattle.ev_guards.specs.Guards.{GuardAlike, GuardsValue}
use Rattle.dx_state.specs.Configured.{Guarding, unguarded}
use Rattle.dx_rules.specs.Payloads.{guarding_of, props_of}

-- that only guarded links break
abbrev OnlyGuarded : List Link → (ℕ → Pairs → List ℕ) → Type 0
OnlyGuarded guarded breaks = (node : ℕ) (payload : Pairs)
    → IsTrue (list_all (λ i. is_cut guarded i node) (breaks node payload))

one_guarding : (g h : Guarding) → g.guarded ≡ h.guarded
    → ((node : ℕ) (payload : Pairs) → g.breaks node payload ≡ h.breaks node payload) → g ≡ h
one_guarding g h guarded breaks = λ i. record {
  guarded = guarded i;
  breaks = λ node payload. breaks node payload i;
  breaks_guarded = is_prop→PathP
      (λ j. OnlyGuarded (guarded j) (λ node payload. breaks node payload j))
      (λ j. Π_prop (λ node. Π_prop (λ payload. Bool-set _ _)))
      g.breaks_guarded h.breaks_guarded i;
}

pub same_guarding : (v w : GuardsValue) → GuardAlike v w → guarding_of w ≡ guarding_of v
same_guarding v w h =
    one_guarding (guarding_of w) (guarding_of v) h.links
    (λ node payload. h.broken node (props_of payload))

-- where no link is guarded nothing breaks
nothing : (node : ℕ) (xs : List ℕ) → IsTrue (list_all (λ i. is_cut [] i node) xs) → xs ≡ []
nothing node [] h = refl
nothing node (x ∷ xs) h = absurd (false≢true h)

pub none_guarded : (g : Guarding) → g.guarded ≡ [] → g ≡ unguarded
none_guarded g none =
    one_guarding g unguarded none
    (λ node payload. nothing node (g.breaks node payload)
    (subst (λ (ls : List Link). IsTrue (list_all (λ i. is_cut ls i node) (g.breaks node payload)))
    none (g.breaks_guarded node payload)))
