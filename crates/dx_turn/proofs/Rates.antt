-- Engines that note the time.
use Rattle.std.proofs.Common.{◌≡◌, ℕ, zero, suc, ◌-◌, ◌<◌, Bool, true, false, nat_le, IsTrue}
use Rattle.std.proofs.Common.{List, [], ◌∷◌, ◌++◌, length, map, refl, sym, ap, ◌∙◌, arith, subst}
use Rattle.std.proofs.Common.{Option, Some, None, get_or, drop, if◌then◌else◌, slice_get}
use Rattle.std.proofs.Common.{slice_set}
use Rattle.std.proofs.Math.ListN.{set}
use Rattle.std.specs.List.{list_all}
use Rattle.std.proofs.lemmas.Bool.{and_parts, le-leb}
use Rattle.circular_buffer.specs.Buffer.{keep_last}
use Rattle.ev_graph.specs.Kinds.{is_report_node}
use Rattle.ev_graph.specs.Lawful.{IsGraph}
use Rattle.ev_graph.specs.declared.nodes.EngineSpec.{EngineSpec}
use Rattle.dx_serd.specs.Rates.{RateOf, none_past, kept_after, fires}
use Rattle.dx_state.proofs.Lists.{all_at}
use Rattle.dx_step.specs.Turns.{Turn, noted_at}
use Rattle.dx_step.proofs.Parts.{all_joined, all_one}
use Rattle.dx_turn.specs.declared.ground.Ground.{Ground}
use Rattle.dx_turn.specs.declared.told.Told.{Told}
use Rattle.dx_turn.specs.Grounds.{AreRates}
use Rattle.dx_turn.specs.Turning.{turn_at, rates_by, IsTold, HasTurned, noted_in}

-- the engine at a place
pub record IsRateAt (time : ℕ) (rs : List RateOf) (at : ℕ) (e : EngineSpec) : Type 0 where
  pub low : at < length rs
  pub n : (d : RateOf) → (get_or rs at d).n ≡ e.n
  pub t : (d : RateOf) → (get_or rs at d).t ≡ e.t
  pub past : (d : RateOf) → IsTrue (none_past time (get_or rs at d).kept)

pub rates_at : (time : ℕ) (es : List EngineSpec) (rs : List RateOf) (at : ℕ) (e : EngineSpec)
    → AreRates time es rs → slice_get es at ≡ Some e → IsRateAt time rs at e
rates_at time [] rs at e h i = absurd (let never : ⊥ = cc in never)
rates_at time (x ∷ es) [] at e h i = absurd h
rates_at time (x ∷ es) (r ∷ rs) zero e h i =
    let same : x ≡ e = cc in
    record {
      low = omega arith;
      n = λ d. h.0 ∙ ap (λ (y : EngineSpec). y.n) same;
      t = λ d. h.1.0 ∙ ap (λ (y : EngineSpec). y.t) same;
      past = λ d. h.1.1.0;
    }
rates_at time (x ∷ es) (r ∷ rs) (suc at) e h i =
    let rest = rates_at time es rs at e h.1.1.1 i in
    let low = rest.low in
    record { low = omega arith; n = rest.n; t = rest.t; past = rest.past }

rates_set : (time : ℕ) (es : List EngineSpec) (rs : List RateOf) (at : ℕ) (e : EngineSpec)
    (r : RateOf) → AreRates time es rs → slice_get es at ≡ Some e → r.n ≡ e.n → r.t ≡ e.t
    → IsTrue (none_past time r.kept) → AreRates time es (set rs at r)
rates_set time [] rs at e r h i a b c = absurd (let never : ⊥ = cc in never)
rates_set time (x ∷ es) [] at e r h i a b c = absurd h
rates_set time (x ∷ es) (s ∷ rs) zero e r h i a b c =
    let same : x ≡ e = cc in (
      a ∙ sym (ap (λ (y : EngineSpec). y.n) same),
      (b ∙ sym (ap (λ (y : EngineSpec). y.t) same), (c, h.1.1.1)),
    )
rates_set time (x ∷ es) (s ∷ rs) (suc at) e r h i a b c =
    (h.0, (h.1.0, (h.1.1.0, rates_set time es rs at e r h.1.1.1 i a b c)))

-- what is kept after the time is noted is not past it
all_dropped : (p : ℕ → Bool) (k : ℕ) (xs : List ℕ) → IsTrue (list_all p xs)
    → IsTrue (list_all p (drop k xs))
all_dropped p zero xs h = h
all_dropped p (suc k) [] h = h
all_dropped p (suc k) (x ∷ xs) h = all_dropped p k xs (and_parts (p x) (list_all p xs) h).1

past_after : (n t m : ℕ) (kept : List ℕ) → IsTrue (none_past m kept)
    → IsTrue (none_past m (kept_after n t kept m))
past_after n t m kept h =
    elim (fires n t kept m) as (λ (b : Bool). IsTrue (none_past m
    (if b then [] else keep_last n (kept ++ m ∷ [])))) [
      | true ↦ refl
      | false ↦
          all_dropped (λ x. nat_le x m) (length (kept ++ m ∷ []) - n) (kept ++ m ∷ [])
          (all_joined (λ x. nat_le x m) kept (m ∷ []) h
          (all_one (λ x. nat_le x m) m (le-leb m m (omega arith))))
    ]

kept_set : (rs : List RateOf) (at : ℕ) (r : RateOf)
    → map (λ (x : RateOf). x.kept) (set rs at r)
    ≡ slice_set (map (λ (x : RateOf). x.kept) rs) at r.kept
kept_set [] at r = refl
kept_set (x ∷ rs) zero r = refl
kept_set (x ∷ rs) (suc at) r = ap (λ (ks : List (List ℕ)). x.kept ∷ ks) (kept_set rs at r)

kept_get : (rs : List RateOf) (at : ℕ) (d : RateOf) → at < length rs
    → slice_get (map (λ (x : RateOf). x.kept) rs) at ≡ Some (get_or rs at d).kept
kept_get [] at d low = absurd (omega arith)
kept_get (x ∷ rs) zero d low = refl
kept_get (x ∷ rs) (suc at) d low = kept_get rs at d (omega arith)

fired_more : (nodes : ℕ → Bool) (xs : List ℕ) (b : Bool) (trip : ℕ) → IsTrue (list_all nodes xs)
    → IsTrue (nodes trip) → IsTrue (list_all nodes (if b then xs ++ trip ∷ [] else xs))
fired_more nodes xs true trip h k = all_joined nodes xs (trip ∷ []) h (all_one nodes trip k)
fired_more nodes xs false trip h k = h

-- what an engine that noted the time fired
told_fired : (d : Ground) (at : ℕ) (e : EngineSpec) (xs : List ℕ) (b : Bool)
    → IsGraph d.graph.now → slice_get d.graph.now.engines at ≡ Some e
    → IsTrue (list_all (is_report_node d.graph.now.nodes) xs)
    → IsTrue (list_all (is_report_node d.graph.now.nodes) (if b then xs ++ e.trip ∷ [] else xs))
told_fired d at e xs b graph stands h =
    let g = d.graph.now in
    let kinds = and_parts (list_all (λ (x : EngineSpec). is_report_node g.nodes x.trip) g.engines)
    _ graph.counted.kindred.kinds in
    fired_more (is_report_node g.nodes) xs b e.trip h
    (all_at (λ (x : EngineSpec). is_report_node g.nodes x.trip) g.engines at e kinds.0 stands)

-- the engine at a place noted the time
pub noted_turn : (d : Ground) (at : ℕ) (e : EngineSpec) (old new : Told) (was r : RateOf)
    → IsGraph d.graph.now → IsTold d old → slice_get d.graph.now.engines at ≡ Some e
    → was ≡ get_or (rates_by d old) at was
    → r ≡ record was { kept = kept_after was.n was.t was.kept d.time }
    → new ≡ record old {
      engines = Some (set (rates_by d old) at r);
      fired = if fires was.n was.t was.kept d.time then old.fired ++ e.trip ∷ [] else old.fired;
    } → HasTurned d (noted_in d at) old new
noted_turn d at e old new was r graph h stands is noted told =
    let rs = rates_by d old in
    let one = rates_at d.time d.graph.now.engines rs at e h.rates stands in
    let n : was.n ≡ e.n = ap (λ (x : RateOf). x.n) is ∙ one.n was in
    let t : was.t ≡ e.t = ap (λ (x : RateOf). x.t) is ∙ one.t was in
    let past : IsTrue (none_past d.time was.kept) =
    ap (λ (x : RateOf). none_past d.time x.kept) is ∙ one.past was in
    let here : slice_get (map (λ (x : RateOf). x.kept) rs) at ≡ Some was.kept =
    kept_get rs at was one.low ∙ ap (λ (x : RateOf). Some x.kept) (sym is) in
    let more : ℕ → ℕ → List ℕ = λ a b.
    if fires a b was.kept d.time then old.fired ++ e.trip ∷ [] else old.fired in
    record {
      turn = λ next cs.
          let u = turn_at d next cs old in
          let by : List (List ℕ) → List ℕ → Turn = λ ks fs.
          record u { state = record u.state { engines = ks }; fired = fs } in
          let ks = map (λ (x : RateOf). x.kept) rs in
          ap (turn_at d next cs) told
          ∙ ap (λ (zs : List (List ℕ)). by zs (more was.n was.t)) (kept_set rs at r)
          ∙ ap (λ (x : RateOf). by (slice_set ks at x.kept) (more was.n was.t)) noted
          ∙ ap (λ (a : ℕ). by (slice_set ks at (kept_after a was.t was.kept d.time))
          (more a was.t)) n
          ∙ ap (λ (b : ℕ). by (slice_set ks at (kept_after e.n b was.kept d.time))
          (more e.n b)) t
          ∙ ap (λ (o : Option (List ℕ)). noted_at at (Some e) o u) (sym here)
          ∙ ap (λ (o : Option EngineSpec). noted_at at o (slice_get ks at) u) (sym stands);
      told = subst (IsTold d) (sym told) (record {
        rates = rates_set d.time d.graph.now.engines rs at e r h.rates stands
            (ap (λ (x : RateOf). x.n) noted ∙ n) (ap (λ (x : RateOf). x.t) noted ∙ t)
            (ap (λ (x : RateOf). none_past d.time x.kept) noted
            ∙ past_after was.n was.t d.time was.kept past);
        fired = told_fired d at e old.fired (fires was.n was.t was.kept d.time) graph stands
            h.fired;
      });
    }

-- the same from what the calls ensure
pub noted_from : (d : Ground) (at : ℕ) (e : EngineSpec) (old mid : Told) (was r : RateOf)
    (rs : List RateOf) (fs : List ℕ) (fired : Bool) → IsGraph d.graph.now → IsTold d old
    → slice_get d.graph.now.engines at ≡ Some e → was ≡ get_or (rates_by d old) at was
    → r ≡ record was { kept = kept_after was.n was.t was.kept d.time }
    → mid ≡ record old { engines = None } → rs ≡ set (rates_by d old) at r
    → fired ≡ fires was.n was.t was.kept d.time
    → fs ≡ (if fired then mid.fired ++ e.trip ∷ [] else mid.fired)
    → HasTurned d (noted_in d at) old (record mid { engines = Some rs; fired = fs })
noted_from d at e old mid was r rs fs fired graph h stands is noted taken put on more =
    let more_of : Bool → List ℕ → List ℕ = λ b xs. if b then xs ++ e.trip ∷ [] else xs in
    let trips : fs ≡ more_of (fires was.n was.t was.kept d.time) old.fired =
    more ∙ ap (λ (t : Told). more_of fired t.fired) taken
    ∙ ap (λ (b : Bool). more_of b old.fired) on in
    noted_turn d at e old (record mid { engines = Some rs; fired = fs }) was r graph h stands is
    noted
    (ap (λ (t : Told). record t { engines = Some rs; fired = fs }) taken
    ∙ ap (λ (xs : List RateOf). record old { engines = Some xs; fired = fs }) put
    ∙ ap (λ (xs : List ℕ). record old { engines = Some (set (rates_by d old) at r); fired = xs })
    trips)
