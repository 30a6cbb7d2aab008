-- The parts of a lawful state have numbers of items that can be written.
use Rattle.std.proofs.Common.{◌≡◌, ℕ, ◌<◌, ◌^◌, ◌==◌, ◌&&◌, nat_lt, nat_le, IsTrue, List, []}
use Rattle.std.proofs.Common.{◌∷◌, ◌++◌, length, map, flat_map, suc, refl, ap, subst, arith}
use Rattle.fm_bytes.specs.Numbers.{counted_bytes, u32_bytes}
use Rattle.std.specs.List.{list_all, All, AllByRecursion}
use Rattle.std.proofs.lemmas.Bool.{false≢true, and_parts, leb-true, ltb-true}
use Rattle.std.proofs.lemmas.List.Elements.{All-from_recursion}
use Rattle.fm_bytes.proofs.Readers.{counted_fits}
use Rattle.fm_entry.specs.Words.{event_fits, suspect_fits, link_fits, links_ascend}
use Rattle.fm_entry.specs.declared.list_event.ListEvent.{ListEvent}
use Rattle.fm_core.specs.Meaning.{OpenCase, Diagnosis}
use Rattle.ev_graph.specs.Lawful.{GraphValue, has_engine_limits}
use Rattle.ev_graph.specs.declared.nodes.EngineSpec.{EngineSpec}
use Rattle.dx_serd.specs.Rates.{RateOf, are_kept, is_rising, none_past}
use Rattle.dx_case.specs.declared.case.Case.{Case}
use Rattle.dx_case.specs.Cases.{open_of}
use Rattle.dx_state.specs.Configured.{Configuration}
use Rattle.dx_state.specs.LawfulState.{is_open_case, is_last_word, are_engines, is_formed_engine}
use Rattle.dx_state.proofs.Facts.{IsFormed, case_is, word_is}
use Rattle.dx_state.proofs.Spelled.{observed_few, links_fit_case}
use Rattle.dx_step.proofs.Stepping.{lawful_is}
use Rattle.dx_step.specs.Turns.{configuration_of}
use Rattle.dx_restore.specs.declared.parts.Parts.{Parts}
use Rattle.dx_restore.specs.Parts.{parts_state}
use Rattle.dx_restore.specs.Saving.{IsLawfulSomewhere, IsShortCase, IsShortWord, IsShortEngine}
use Rattle.dx_restore.specs.Saving.{AreShort}

cases_short : (x : Configuration) (time next : ℕ) → IsFormed x → (cs : List Case)
    → IsTrue (list_all (is_open_case x time next) (map open_of cs))
    → AllByRecursion IsShortCase cs
cases_short x time next f [] h = tt
cases_short x time next f (c ∷ cs) h =
    let parts = and_parts (is_open_case x time next (open_of c)) _ h in
    let one = case_is x time next (open_of c) parts.0 in
    let few = observed_few x time next (open_of c) f one in
    let links = and_parts (counted_fits 4 link_fits (open_of c).broken)
    (links_ascend (open_of c).broken) (links_fit_case x time next (open_of c) f one) in
    let counted = and_parts (nat_lt (length (open_of c).broken) (256 ^ 4)) _ links.0 in (
      record {
        observed = omega (arith, few);
        broken = ltb-true (length (open_of c).broken) (256 ^ 4) counted.0;
      },
      cases_short x time next f cs parts.1,
    )

short_words : (own next : ℕ) (ws : List ListEvent) → IsTrue (list_all (is_last_word own next) ws)
    → AllByRecursion IsShortWord ws
short_words own next [] h = tt
short_words own next (w ∷ ws) h =
    let parts = and_parts (is_last_word own next w) _ h in
    let fits = (word_is own next w parts.0).fits in
    let one = and_parts (w.case.module == own) _ fits in
    let two = and_parts (nat_lt w.case.case (2 ^ 63)) _ one.1 in
    let three = and_parts (nat_lt w.moment (2 ^ 62)) _ two.1 in
    let four = and_parts (nat_lt w.conf (2 ^ 32)) _ three.1 in
    let five = and_parts (counted_fits 4 event_fits w.observed) _ four.1 in
    let six = and_parts (counted_fits 4 suspect_fits w.suspects) _ five.1 in
    let seven = and_parts (counted_fits 4 link_fits w.broken) (links_ascend w.broken) six.1 in
    let observed = and_parts (nat_lt (length w.observed) (256 ^ 4)) _ five.0 in
    let suspects = and_parts (nat_lt (length w.suspects) (256 ^ 4)) _ six.0 in
    let broken = and_parts (nat_lt (length w.broken) (256 ^ 4)) _ seven.0 in (
      record {
        observed = ltb-true (length w.observed) (256 ^ 4) observed.0;
        suspects = ltb-true (length w.suspects) (256 ^ 4) suspects.0;
        broken = ltb-true (length w.broken) (256 ^ 4) broken.0;
      },
      short_words own next ws parts.1,
    )

-- what an engine inside its limits keeps
short_kept : (e : EngineSpec) (kept : List ℕ) → IsTrue (has_engine_limits e)
    → IsTrue (are_kept e.n e.t kept) → length kept < 65536
short_kept e kept limits h =
    let one = and_parts (nat_lt 0 e.n) _ limits in
    let two = and_parts (nat_le e.n 1024) _ one.1 in
    let three = and_parts (is_rising kept) _ h in
    let four = and_parts (nat_le (length kept) e.n) _ three.1 in
    let few = leb-true e.n 1024 two.0 in
    let below = leb-true (length kept) e.n four.0 in
    omega (arith, few, below)

short_engines : (g : GraphValue) (time : ℕ) (es : List EngineSpec) (rs : List RateOf)
    → IsTrue (list_all (is_formed_engine g) es)
    → IsTrue (are_engines time es (map (λ r. r.kept) rs)) → AllByRecursion IsShortEngine rs
short_engines g time es [] f h = tt
short_engines g time [] (r ∷ rs) f h = absurd (false≢true h)
short_engines g time (e ∷ es) (r ∷ rs) f h =
    let formed = and_parts (is_formed_engine g e) _ f in
    let limits = and_parts (has_engine_limits e) _ formed.0 in
    let parts = and_parts (are_kept e.n e.t r.kept && none_past time r.kept) _ h in
    let kept = and_parts (are_kept e.n e.t r.kept) (none_past time r.kept) parts.0 in (
      record { kept = short_kept e r.kept limits.0 kept.0 },
      short_engines g time es rs formed.1 parts.1,
    )

engines_long : (time : ℕ) (es : List EngineSpec) (rs : List RateOf)
    → IsTrue (are_engines time es (map (λ r. r.kept) rs)) → length rs ≡ length es
engines_long time [] [] h = refl
engines_long time (e ∷ es) [] h = absurd (false≢true h)
engines_long time [] (r ∷ rs) h = absurd (false≢true h)
engines_long time (e ∷ es) (r ∷ rs) h =
    ap suc (engines_long time es rs
    (and_parts (are_kept e.n e.t r.kept && none_past time r.kept) _ h).1)

pub parts_short : (p : Parts) → IsLawfulSomewhere (parts_state p) → AreShort p
parts_short p somewhere =
    let s = parts_state p in
    let r = somewhere.rules in
    let x = configuration_of r s in
    let h = lawful_is r s somewhere.lawful in
    let long = engines_long s.time x.graph.engines p.engines.now h.state.engines in
    let few = h.formed.few_engines in
    record {
      words = All-from_recursion IsShortWord p.solved.now
          (short_words r.own s.next p.solved.now h.state.solved);
      few_engines = omega (arith, long, few);
      engines = All-from_recursion IsShortEngine p.engines.now
          (short_engines x.graph s.time x.graph.engines p.engines.now h.formed.engines
          h.state.engines);
    }

-- so have the cases of a lawful state
pub cases_short_in : (s : Diagnosis) (cs : List Case) → s.open_cases ≡ map open_of cs
    → IsLawfulSomewhere s → All IsShortCase cs
cases_short_in s cs same somewhere =
    let r = somewhere.rules in
    let x = configuration_of r s in
    let h = lawful_is r s somewhere.lawful in
    All-from_recursion IsShortCase cs
    (cases_short x s.time s.next h.formed cs
    (subst (λ (os : List OpenCase). IsTrue (list_all (is_open_case x s.time s.next) os)) same
    h.state.cases))

-- a list of what items have, counted and spelled
flat_mapped : (spell : List ℕ → List ℕ) (rs : List RateOf)
    → flat_map (λ r. spell r.kept) rs ≡ flat_map spell (map (λ r. r.kept) rs)
flat_mapped spell [] = refl
flat_mapped spell (r ∷ rs) = ap (λ bytes. spell r.kept ++ bytes) (flat_mapped spell rs)

kept_long : (rs : List RateOf) → length rs ≡ length (map (λ r. r.kept) rs)
kept_long [] = refl
kept_long (r ∷ rs) = ap suc (kept_long rs)

pub counted_mapped : (spell : List ℕ → List ℕ) (rs : List RateOf)
    → counted_bytes 4 (λ r. spell r.kept) rs ≡ counted_bytes 4 spell (map (λ r. r.kept) rs)
unfolding u32_bytes
counted_mapped spell rs = λ i. u32_bytes (kept_long rs i) ++ flat_mapped spell rs i
