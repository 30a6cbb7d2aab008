-- A file with a fault is none that is checked.
use Rattle.std.proofs.Common.{◌≡◌, ℕ, zero, suc, ◌+◌, ◌<◌, inl, inr, List, length, slice_index}
use Rattle.std.proofs.Common.{Result, Ok, Err, is_some, refl, sym, ap, ◌∙◌, subst, arith}
use Rattle.std.specs.Result.{IfErr, MatchResult}
use Rattle.std.proofs.lemmas.Bool.{false≢true}
use Rattle.ev_ways.specs.Ways.{Leads, Reaches, Way}
use Rattle.ev_ways.specs.Cycle.{IsRing}
use Rattle.ev_ways.proofs.Walks.{way_more}
use Rattle.ev_tree.specs.declared.tree.Statement.{Statement}
use Rattle.ev_words.specs.declared.kinds.CheckKind.{CheckKind}
use Rattle.ev_check.specs.declared.kinds.CheckFault.{CheckFault}
use Rattle.ev_check.specs.declared.kinds.CheckFault.TheVariants.{At, NoMemory}
use Rattle.ev_check.specs.Drawn.{causes_in, effects_in}
use Rattle.ev_check.specs.Faults.{IsAnswer, IsArrowAnswer, IsChecked, IsDrawn, IsCheckFault}
use Rattle.ev_check.specs.Faults.{IsFirst, NotDeclared, IsTwice, InItself, Passes, Phase}

-- a phase that finds nothing finds nothing first
passes_first : (f : Phase) (ss : List Statement) (place : ℕ) (kind : CheckKind) → Passes f ss
    → IsFirst f ss place kind → ⊥
passes_first f ss place kind passes h =
    false≢true (ap is_some (sym (passes.each h.number h.statement h.stands) ∙ h.found))

-- a ring goes from its first member to each other one
ring_way : (causes effects : List (List ℕ)) (members : List ℕ) → IsRing causes effects members
    → (n : ℕ) → n < length members
    → Way causes effects n (slice_index members 0) (slice_index members n)
ring_way causes effects members ring zero lt = refl
ring_way causes effects members ring (suc n) lt =
    let at : n + 1 ≡ suc n = omega arith in
    let P : ℕ → Type 0 = λ k. Leads causes effects (slice_index members n) (slice_index members k)
    in
    way_more causes effects n (slice_index members 0) (slice_index members n)
    (slice_index members (suc n))
    (ring_way causes effects members ring n (omega (arith, lt)))
    (subst P at (ring.next n (omega (arith, lt))))

-- so its first member reaches itself
last_of : (n : ℕ) → 0 < n → (k : ℕ) × (k + 1 ≡ n)
last_of zero lt = absurd (omega (arith, lt))
last_of (suc k) lt = (k, omega arith)

ring_reaches : (causes effects : List (List ℕ)) (members : List ℕ) → IsRing causes effects members
    → Reaches causes effects (slice_index members 0) (slice_index members 0)
ring_reaches causes effects members ring =
    let last = last_of (length members) ring.some in (
      last.0,
      way_more causes effects last.0 (slice_index members 0) (slice_index members last.0)
          (slice_index members 0)
          (ring_way causes effects members ring last.0 (omega (arith, last.1)))
          (ring.back last.0 last.1),
    )

arrows_none : (ss : List Statement) (place : ℕ) (kind : CheckKind) → IsArrowAnswer ss place kind
    → IsChecked ss → ⊥
arrows_none ss place kind (inl (trip, is)) checked =
    checked.trips.each trip.number trip.statement trip.stands trip.tripped
arrows_none ss place kind (inr (free, (members, cycle, is))) checked =
    checked.acyclic.each (slice_index cycle.numbers 0)
    (ring_reaches (causes_in ss) (effects_in ss) cycle.numbers cycle.cycle.ring)

fault_none : (ss : List Statement) (place : ℕ) (kind : CheckKind) → IsCheckFault ss place kind
    → IsChecked ss → ⊥
fault_none ss place kind (InItself h) checked = passes_first _ ss place kind checked.words h
fault_none ss place kind (IsTwice a h) checked = passes_first _ ss place kind checked.once h
fault_none ss place kind (NotDeclared a b h) checked =
    passes_first _ ss place kind checked.declared h
fault_none ss place kind (IsDrawn a b d h) checked = arrows_none ss place kind h checked

answer_none : (ss : List Statement) (e : CheckFault) → IsAnswer (IsCheckFault ss) e → IsChecked ss
    → e ≡ NoMemory
answer_none ss (At place kind) h checked = absurd (fault_none ss place kind h checked)
answer_none ss NoMemory h checked = refl

only_of : {T : Type 0} (ss : List Statement) (r : Result T CheckFault)
    → IfErr r (IsAnswer (IsCheckFault ss)) → IsChecked ss
    → MatchResult r (λ _. Unit {0}) (λ e. e ≡ NoMemory)
only_of ss (Ok x) h checked = tt
only_of ss (Err e) h checked = answer_none ss e h checked

-- a file in which no phase finds a fault is refused for want of memory alone
pub only_memory : {T : Type 0} (ss seen : List Statement) (r : Result T CheckFault) → seen ≡ ss
    → IfErr r (IsAnswer (IsCheckFault seen)) → IsChecked ss
    → MatchResult r (λ _. Unit {0}) (λ e. e ≡ NoMemory)
only_memory ss seen r e h =
    only_of ss r (subst (λ (xs : List Statement). IfErr r (IsAnswer (IsCheckFault xs))) e h)
