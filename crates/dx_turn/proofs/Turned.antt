-- What is told makes of a turn what the step says.
use Rattle.std.proofs.Common.{◌≡◌, ℕ, Bool, true, false, List, [], ◌∷◌, ◌++◌, refl, sym, ap}
use Rattle.std.proofs.Common.{◌∙◌, subst, IsTrue}
use Rattle.fm_entry.specs.declared.list_event.ListKind.TheVariants.{Suspect as SuspectKind}
use Rattle.fm_entry.specs.declared.list_event.ListKind.TheVariants.{Undiagnosable}
use Rattle.fm_entry.specs.declared.list_event.ListKind.TheVariants.{Upset as UpsetWord}
use Rattle.fm_entry.specs.declared.list_event.ListEvent.{ListEvent}
use Rattle.fm_core.specs.Meaning.{OpenCase}
use Rattle.ev_graph.specs.Lawful.{GraphValue, IsGraph}
use Rattle.ev_graph.specs.declared.nodes.Node.{Node}
use Rattle.dx_explain.specs.Cases.{Verdict, Solving, verdict, verdict_of}
use Rattle.dx_explain.specs.Cases.{faults_of, upsets_of, is_solving_kind}
use Rattle.dx_step.proofs.Blamed.{are_blamed}
use Rattle.dx_state.proofs.Lists.{strict_few, all_pass}
use Rattle.std.specs.List.{list_all}
use Rattle.std.proofs.Common.{◌<◌, ◌≤◌, ◌^◌, length, arith, nat_lt, nat_le}
use Rattle.std.proofs.lemmas.Bool.{le-leb}
use Rattle.fm_entry.specs.declared.suspect.Suspect.{Suspect}
use Rattle.dx_state.specs.Configured.{configuration_at}
use Rattle.dx_step.specs.Said.{nodes_of, suspects_of, upsets_named, word_on, with_last_word}
use Rattle.dx_step.specs.Turns.{Turn, say, note_all, solve, upset, give_up, decide_by, decide}
use Rattle.dx_turn.specs.declared.ground.Ground.{Ground}
use Rattle.dx_turn.specs.declared.told.Told.{Told}
use Rattle.dx_turn.specs.Grounds.{IsGround, rules_on, own_of, state_on}
use Rattle.dx_said.specs.Making.{with_words}
use Rattle.dx_turn.specs.Turning.{made_or, turn_at, IsTold, HasTurned}

-- one more word
with_push : (more ws : List ListEvent) (w : ListEvent)
    → with_words (more ++ w ∷ []) ws ≡ with_last_word w (with_words more ws)
with_push [] ws w = refl
with_push (v ∷ more) ws w = with_push more (with_last_word v ws) w

-- nothing was told
pub turned_not : (d : Ground) (t : Told) → IsTold d t → HasTurned d (λ u. u) t t
turned_not d t h = record { turn = λ next cs. refl; told = h }

-- one after the other
pub turned_then : (d : Ground) (f h : Turn → Turn) (a b c : Told) → HasTurned d f a b
    → HasTurned d h b c → HasTurned d (λ t. h (f t)) a c
turned_then d f h a b c p q = record {
  turn = λ next cs. q.turn next cs ∙ ap h (p.turn next cs);
  told = q.told;
}

pub turned_as : (d : Ground) (f h : Turn → Turn) (a b : Told)
    → ((next : ℕ) (cs : List OpenCase) → f (turn_at d next cs a) ≡ h (turn_at d next cs a))
    → HasTurned d f a b → HasTurned d h a b
turned_as d f h a b same p = record {
  turn = λ next cs. p.turn next cs ∙ same next cs;
  told = p.told;
}

-- a word was said
pub said : (d : Ground) (old new : Told) (w : ListEvent) → IsTold d old
    → new ≡ record old { words = old.words ++ w ∷ [] } → HasTurned d (say w) old new
said d old new w h e = record {
  turn = λ next cs. ap (turn_at d next cs) e;
  told = subst (IsTold d) (sym e) (record { rates = h.rates; fired = h.fired });
}

pub gave_up : (d : Ground) (old new : Told) (c : OpenCase) (w : ListEvent) → IsGround d
    → w ≡ word_on (own_of d) d.graph.now (state_on d) Undiagnosable c []
    → HasTurned d (say w) old new → HasTurned d (give_up (rules_on d) c) old new
gave_up d old new c w ground is h =
    turned_as d (say w) (give_up (rules_on d) c) old new
    (λ next cs. ap (λ v. say v (turn_at d next cs old))
    (is ∙ ap (λ (g : GraphValue). word_on (own_of d) g (state_on d) Undiagnosable c [])
    (sym ground.graph))) h

pub solved : (d : Ground) (old new : Told) (c : OpenCase) (nodes : List Node) (w : ListEvent)
    → IsGround d → IsTold d old
    → w ≡ word_on (own_of d) d.graph.now (state_on d) SuspectKind c (suspects_of nodes)
    → new ≡ record old { words = old.words ++ w ∷ []; solved = old.solved ++ w ∷ [] }
    → HasTurned d (solve (rules_on d) c nodes) old new
solved d old new c nodes w ground h is e =
    let f : ListEvent → Turn → Turn =
    λ v t. say v (record t {
      state = record t.state { solved = with_last_word v t.state.solved };
    }) in
    let base = made_or old.marked d.last_words.now in
    record {
      turn = λ next cs. ap (turn_at d next cs) e
          ∙ ap (λ (ws : List ListEvent).
          let t = turn_at d next cs old in
          say w (record t { state = record t.state { solved = ws } }))
          (with_push old.solved base w)
          ∙ ap (λ v. f v (turn_at d next cs old))
          (is ∙ ap (λ (g : GraphValue). word_on (own_of d) g (state_on d) SuspectKind c
          (suspects_of nodes)) (sym ground.graph));
      told = subst (IsTold d) (sym e) (record { rates = h.rates; fired = h.fired });
    }

-- upsets were said, and noted
pub upset_quiet : (d : Ground) (old new : Told) (c : OpenCase) (nodes : List Node) (w : ListEvent)
    → IsGround d
    → w ≡ word_on (own_of d) d.graph.now (state_on d) UpsetWord c (upsets_named nodes)
    → HasTurned d (say w) old new → HasTurned d (upset (rules_on d) false c nodes) old new
upset_quiet d old new c nodes w ground is h =
    turned_as d (say w) (upset (rules_on d) false c nodes) old new
    (λ next cs. ap (λ v. say v (turn_at d next cs old))
    (is ∙ ap (λ (g : GraphValue). word_on (own_of d) g (state_on d) UpsetWord c
    (upsets_named nodes)) (sym ground.graph))) h

pub upset_noted : (d : Ground) (old mid new : Told) (c : OpenCase) (nodes : List Node)
    (w : ListEvent) → IsGround d
    → w ≡ word_on (own_of d) d.graph.now (state_on d) UpsetWord c (upsets_named nodes)
    → HasTurned d (say w) old mid → HasTurned d (note_all d.graph.now nodes) mid new
    → HasTurned d (upset (rules_on d) true c nodes) old new
upset_noted d old mid new c nodes w ground is h k =
    turned_as d (λ t. note_all d.graph.now nodes (say w t)) (upset (rules_on d) true c nodes) old
    new
    (λ next cs. ap (λ v. note_all d.graph.now nodes (say v (turn_at d next cs old))) is
    ∙ ap (λ (g : GraphValue). note_all g nodes (say (word_on (own_of d) g (state_on d) UpsetWord c
    (upsets_named nodes)) (turn_at d next cs old))) (sym ground.graph))
    (turned_then d (say w) (note_all d.graph.now nodes) old mid new h k)

-- the verdict
pub decided_by : (d : Ground) (notes : Bool) (c : OpenCase) (v : Verdict) (old new : Told)
    → IsGround d → v ≡ verdict_of d.graph.now c → IsTold d new
    → ((next : ℕ) (cs : List OpenCase) → turn_at d next cs new
    ≡ decide_by (rules_on d) notes c v (turn_at d next cs old))
    → HasTurned d (decide (rules_on d) notes c) old new
unfolding decide
decided_by d notes c v old new ground is h turns = record {
  turn = λ next cs. turns next cs
      ∙ ap (λ u. decide_by (rules_on d) notes c u (turn_at d next cs old))
      (is ∙ ap (λ (g : GraphValue). verdict_of g c) (sym ground.graph));
  told = h;
}

-- nodes by the graph of the rules
pub nodes_by : (d : Ground) (f : List Node → Turn → Turn) (es : List ℕ) (old new : Told)
    → IsGround d → HasTurned d (f (nodes_of d.graph.now es)) old new → (next : ℕ)
    (cs : List OpenCase) → turn_at d next cs new
    ≡ f (nodes_of (configuration_at (rules_on d) d.conf).graph es) (turn_at d next cs old)
nodes_by d f es old new ground h next cs =
    h.turn next cs
    ∙ ap (λ (g : GraphValue). f (nodes_of g es) (turn_at d next cs old)) (sym ground.graph)

-- what a verdict says
pub solving_is : (fs us xs : List ℕ) → Solving xs ≡ verdict fs us → xs ≡ fs
solving_is [] [] xs h = cc
solving_is [] (u ∷ us) xs h = cc
solving_is (f ∷ fs) us xs h = cc

-- the same from what the calls ensure
pub solved_by_word : (d : Ground) (old new : Told) (c : OpenCase) (nodes : List Node)
    (ss : List Suspect) (w : ListEvent) → IsGround d → IsTold d old → ss ≡ suspects_of nodes
    → w ≡ word_on (own_of d) d.graph.now (state_on d) SuspectKind c ss
    → new ≡ record old { words = old.words ++ w ∷ []; solved = old.solved ++ w ∷ [] }
    → HasTurned d (solve (rules_on d) c nodes) old new
solved_by_word d old new c nodes ss w ground h named is e =
    solved d old new c nodes w ground h
    (is ∙ ap (word_on (own_of d) d.graph.now (state_on d) SuspectKind c) named) e

pub upset_said_noted : (d : Ground) (old mid new : Told) (notes : Bool) (c : OpenCase)
    (nodes : List Node) (ss : List Suspect) (w : ListEvent) → IsGround d → IsTold d old
    → notes ≡ true → ss ≡ upsets_named nodes
    → w ≡ word_on (own_of d) d.graph.now (state_on d) UpsetWord c ss
    → mid ≡ record old { words = old.words ++ w ∷ [] }
    → HasTurned d (note_all d.graph.now nodes) mid new
    → HasTurned d (upset (rules_on d) notes c nodes) old new
upset_said_noted d old mid new notes c nodes ss w ground h on named is e k =
    subst (λ (b : Bool). HasTurned d (upset (rules_on d) b c nodes) old new) (sym on)
    (upset_noted d old mid new c nodes w ground
    (is ∙ ap (word_on (own_of d) d.graph.now (state_on d) UpsetWord c) named)
    (said d old mid w h e) k)

-- a case that is decided by its verdict
few_solving : (g : GraphValue) (c : OpenCase) → IsGraph g → length (faults_of g c) ≤ 65536
few_solving g c graph =
    let b = are_blamed is_solving_kind g c in
    let few = strict_few 0 (length g.nodes) (faults_of g c) (omega arith)
    (all_pass (nat_le 0) (λ n. le-leb 0 n (omega arith)) (faults_of g c)) b.below b.strict in
    let nodes = graph.counted.kindred.numbered.sorted.small.few_nodes in
    omega arith

pub record AreFaults (g : GraphValue) (xs : List ℕ) : Type 0 where
  pub below : IsTrue (list_all (λ e. nat_lt e (length g.nodes)) xs)
  pub few : length xs < 2 ^ 32

pub are_faults : (g : GraphValue) (c : OpenCase) (xs : List ℕ) → IsGraph g
    → Solving xs ≡ verdict_of g c → AreFaults g xs
are_faults g c xs graph is =
    let same : xs ≡ faults_of g c = solving_is (faults_of g c) (upsets_of g c) xs is in
    let few = few_solving g c graph in
    subst (AreFaults g) (sym same) (record {
      below = (are_blamed is_solving_kind g c).below;
      few = omega arith;
    })
