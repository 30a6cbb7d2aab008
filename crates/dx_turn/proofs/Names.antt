-- Reports by their names, and how they act.
use Rattle.std.proofs.Common.{◌≡◌, ℕ, zero, suc, ◌+◌, ◌<◌, Bool}
use Rattle.std.proofs.Common.{true, false, not, ◌&&◌, ◌||◌, List, []}
use Rattle.std.proofs.Common.{◌∷◌, length, refl, sym, ap, subst, ◌∙◌, arith, Option, Some}
use Rattle.std.proofs.Common.{None, slice_get, cond, nat_lt, bytes_eq, if◌then◌else◌}
use Rattle.std.specs.List.{list_any, position_or_len}
use Rattle.std.proofs.lemmas.Bool.{ltb-true, and_parts}
use Rattle.fm_nv.specs.Data.{Pairs}
use Rattle.fm_name.specs.Events.{event_eq}
use Rattle.fm_name.specs.declared.events.EventName.{EventName}
use Rattle.ev_graph.specs.Kinds.{is_report_kind, has_kind}
use Rattle.ev_graph.specs.Lawful.{GraphValue}
use Rattle.ev_graph.specs.declared.nodes.Node.{Node}
use Rattle.dx_state.specs.Configured.{configuration_at}
use Rattle.dx_step.specs.Turns.{Turn}
use Rattle.dx_step.specs.Reports.{declares, report_named, report, join, join_if_known}
use Rattle.dx_step.specs.Reports.{join_or_open, place_of_report, links_broken}
use Rattle.ev_graph.specs.declared.instances.Link.{Link}
use Rattle.dx_turn.specs.declared.ground.Ground.{Ground}
use Rattle.dx_turn.specs.declared.work.Work.{Work}
use Rattle.dx_turn.specs.Grounds.{IsGround, rules_on}
use Rattle.dx_turn.specs.Joining.{turn_of, HasGone}
use Rattle.dx_turn.specs.Finding.{IsDeclared, reported_by, unknown_by}

any_at : {X : Type 0} (p : X → Bool) (xs : List X) (i : ℕ) (x : X) → slice_get xs i ≡ Some x
    → p x ≡ true → list_any p xs ≡ true
any_at p [] i x e h = absurd (let never : ⊥ = cc in never)
any_at p (y ∷ ys) zero x e h =
    let same : y ≡ x = cc in
    ap (λ (b : Bool). b || list_any p ys) (ap p same ∙ h)
any_at p (y ∷ ys) (suc i) x e h =
    ap (λ (b : Bool). p y || b) (any_at p ys i x e h) ∙ or_true (p y) where
      or_true : (b : Bool) → (b || true) ≡ true
      or_true true = refl
      or_true false = refl

-- the graph declares the class of a report of its
declared_at : (g : GraphValue) (name : EventName) (at : ℕ) (n : Node)
    → slice_get g.nodes at ≡ Some n → bytes_eq n.name.class name.class ≡ true
    → is_report_kind n.kind ≡ true → declares g name.class ≡ true
unfolding declares
declared_at g name at n e same kind =
    any_at (λ node. is_report_kind node.kind && bytes_eq node.name.class name.class) g.nodes at n e
    (ap (λ (b : Bool). b && bytes_eq n.name.class name.class) kind ∙ same)

-- the place of a report is that of a report
passes_at : (p : Node → Bool) (nodes : List Node) (n : ℕ) → position_or_len p nodes ≡ n
    → n < length nodes → (node : Node) × (slice_get nodes n ≡ Some node) × (p node ≡ true)
passes_at p [] n e low = absurd (let never : ⊥ = omega (arith, low) in never)
passes_at p (x ∷ nodes) n e low =
    elim (p x) as (λ (b : Bool). p x ≡ b → cond (not b) (1 + position_or_len p nodes) 0 ≡ n
    → (node : Node) × (slice_get (x ∷ nodes) n ≡ Some node) × (p node ≡ true)) [
      | true ↦ λ is same. (x, ap (slice_get (x ∷ nodes)) (sym same), is)
      | false ↦ λ is same.
          let one = passes_at p nodes (position_or_len p nodes) refl (omega (arith, low, same)) in
          let next : n ≡ suc (position_or_len p nodes) = omega (arith, same) in
          (one.0, ap (slice_get (x ∷ nodes)) next ∙ one.1, one.2)
    ] refl e

placed_at : (b : Bool) (n at : ℕ) → cond b (Some n) None ≡ Some at → (b ≡ true) × (n ≡ at)
placed_at true n at e = (refl, cc)
placed_at false n at e = absurd (let never : ⊥ = cc in never)

pub is_declared : (g : GraphValue) (name : EventName) (o : Option ℕ) → o ≡ report_named g name
    → IsDeclared g name o
is_declared g name None e = tt
is_declared g name (Some at) e =
    let test = λ (node : Node). is_report_kind node.kind && event_eq node.name name in
    let place = placed_at (nat_lt (position_or_len test g.nodes) (length g.nodes))
    (position_or_len test g.nodes) at (sym e) in
    let one = passes_at test g.nodes at place.1
    (subst (λ n. n < length g.nodes) place.1
    (ltb-true (position_or_len test g.nodes) (length g.nodes) place.0)) in
    let is = and_parts (is_report_kind one.0.kind) (event_eq one.0.name name) one.2 in
    let same = and_parts (bytes_eq one.0.name.path name.path) (bytes_eq one.0.name.class name.class)
    is.1 in (
      ap (has_kind is_report_kind) one.1 ∙ is.0,
      declared_at g name at one.0 one.1 same.1 is.0,
    )

-- how a report acts
pub reported_known : (d : Ground) (entry node : ℕ) (name : EventName) (payload : Pairs)
    (old new : Work) → IsGround d → Some node ≡ report_named d.graph.now name
    → declares d.graph.now name.class ≡ true
    → HasGone d (join (rules_on d) true entry node payload) old new
    → HasGone d (reported_by d entry name payload) old new
unfolding report
reported_known d entry node name payload old new ground is declared h = record {
  turn = h.turn
      ∙ ap (λ (o : Option ℕ). join_if_known (rules_on d) entry name payload o (turn_of d old)) is
      ∙ ap (λ (g : GraphValue). join_if_known (rules_on d) entry name payload
      (report_named g name) (turn_of d old)) (sym ground.graph)
      ∙ sym (ap (λ (b : Bool). if b then report (rules_on d) entry name payload (turn_of d old)
      else turn_of d old) declared);
  work = h.work;
}

pub reported_unknown : (d : Ground) (entry : ℕ) (name : EventName) (payload : Pairs)
    (old new : Work) → IsGround d → None ≡ report_named d.graph.now name
    → HasGone d (unknown_by d name) old new
    → HasGone d (reported_by d entry name payload) old new
unfolding report
reported_unknown d entry name payload old new ground is h =
    let t = turn_of d old in
    let r = rules_on d in
    record {
      turn = h.turn
          ∙ ap (λ (u : Turn). if declares d.graph.now name.class then u else t)
          (ap (λ (o : Option ℕ). join_if_known r entry name payload o t) is
          ∙ ap (λ (g : GraphValue). join_if_known r entry name payload (report_named g name) t)
          (sym ground.graph));
      work = h.work;
    }

pub joined_known : (d : Ground) (entry node : ℕ) (payload : Pairs) (links : List Link)
    (old new : Work) → links ≡ links_broken (configuration_at (rules_on d) d.conf) node payload
    → HasGone d (λ t. join_or_open (rules_on d) true entry node links
    (place_of_report (rules_on d) node t) t) old new
    → HasGone d (join (rules_on d) true entry node payload) old new
unfolding join
joined_known d entry node payload links old new is h = record {
  turn = h.turn
      ∙ ap (λ (ls : List Link). join_or_open (rules_on d) true entry node ls
      (place_of_report (rules_on d) node (turn_of d old)) (turn_of d old)) is;
  work = h.work;
}
