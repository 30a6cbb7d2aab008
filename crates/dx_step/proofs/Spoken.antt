-- What is said of a case has a spelling.
use Rattle.std.proofs.Common.{◌≡◌, ℕ, suc, ◌^◌, ◌<◌, ◌≤◌, ◌==◌, Bool, nat_lt}
use Rattle.std.proofs.Common.{nat_le, IsTrue, List, [], ◌∷◌, length, map, refl, ap, ◌∙◌, arith}
use Rattle.std.specs.List.{list_all}
use Rattle.std.proofs.lemmas.Bool.{and_from, and_parts}
use Rattle.std.proofs.lemmas.Bool.{lt-ltb, eq-eqb}
use Rattle.std.proofs.lemmas.List.{length-map}
use Rattle.std.proofs.lemmas.List.Folds.{list_all-map}
use Rattle.fm_bytes.proofs.Readers.{counted_fits}
use Rattle.fm_name.specs.Class.{is_class}
use Rattle.fm_name.specs.Path.{is_path}
use Rattle.fm_entry.specs.Words.{event_fits, suspect_fits, word_fits}
use Rattle.fm_entry.specs.declared.suspect.Suspect.{Suspect}
use Rattle.fm_entry.specs.declared.list_event.ListKind.{ListKind}
use Rattle.fm_core.specs.Meaning.{OpenCase, Diagnosis}
use Rattle.ev_graph.specs.Lawful.{GraphValue}
use Rattle.ev_graph.specs.declared.nodes.Node.{Node}
use Rattle.dx_state.specs.Configured.{Configuration}
use Rattle.dx_state.specs.LawfulState.{events_ascend, suspect_name, is_present_suspect}
use Rattle.dx_state.proofs.Facts.{IsFormed, IsOpenCase}
use Rattle.dx_state.proofs.Spelled.{observed_few, links_fit_case, reports_below}
use Rattle.dx_step.specs.Certainty.{certainties}
use Rattle.dx_step.specs.Said.{nodes_of, event_names, failures_of, suspect_at, suspects_with}
use Rattle.dx_step.specs.Said.{suspects_of, upsets_named, word_on}
use Rattle.dx_step.proofs.Certain.{certain_low, certain_many}
use Rattle.dx_step.proofs.Names.{nodes_all, nodes_few, nodes_many, nodes_ascend, names_ascend}

-- suspects are those of nodes, with their certainties
abbrev pub is_low : ℕ → Bool
is_low p = nat_le p 100

pub record AreNamed (nodes : List Node) (ss : List Suspect) : Type 0 where
  pub many : length ss ≡ length nodes
  pub names : map suspect_name ss ≡ map (λ n. n.name) nodes
  pub fit : IsTrue (list_all (λ n. event_fits n.name) nodes) → IsTrue (list_all suspect_fits ss)
  pub present : IsTrue (list_all is_present_suspect ss)

suspect_fit : (node : Node) (p : ℕ) → IsTrue (event_fits node.name) → IsTrue (is_low p)
    → IsTrue (suspect_fits (suspect_at node p))
suspect_fit node p h low =
    let parts = and_parts (is_class node.name.class) _ h in
    and_from (is_class node.name.class) _ parts.0
    (and_from (is_path node.name.path) _ parts.1 low)

named_with : (nodes : List Node) (ps : List ℕ) → length ps ≡ length nodes
    → IsTrue (list_all is_low ps) → AreNamed nodes (suspects_with nodes ps)
named_with [] [] e low = record { many = refl; names = refl; fit = λ h. refl; present = refl }
named_with [] (p ∷ ps) e low = absurd (omega (arith, e))
named_with (n ∷ nodes) [] e low = absurd (omega (arith, e))
named_with (n ∷ nodes) (p ∷ ps) e low =
    let parts = and_parts (is_low p) _ low in
    let rest = named_with nodes ps (omega (arith, e)) parts.1 in
    record {
      many = ap suc rest.many;
      names = ap (λ ns. n.name ∷ ns) rest.names;
      fit = λ h. let one = and_parts (event_fits n.name) _ h in
          and_from (suspect_fits (suspect_at n p)) _ (suspect_fit n p one.0 parts.0)
          (rest.fit one.1);
      present = rest.present;
    }

pub suspects_named : (nodes : List Node) → AreNamed nodes (suspects_of nodes)
suspects_named nodes =
    named_with nodes (certainties (map (λ n. failures_of n.kind) nodes))
    (certain_many (map (λ n. failures_of n.kind) nodes)
    ∙ length-map nodes (λ n. failures_of n.kind))
    (certain_low (map (λ n. failures_of n.kind) nodes))

pub upsets_are_named : (nodes : List Node) → AreNamed nodes (upsets_named nodes)
upsets_are_named [] = record { many = refl; names = refl; fit = λ h. refl; present = refl }
upsets_are_named (n ∷ nodes) =
    let rest = upsets_are_named nodes in
    record {
      many = ap suc rest.many;
      names = ap (λ ns. n.name ∷ ns) rest.names;
      fit = λ h. let one = and_parts (event_fits n.name) _ h in
          and_from (suspect_fits (suspect_at n 0)) _ (suspect_fit n 0 one.0 refl) (rest.fit one.1);
      present = rest.present;
    }

-- suspects that are few fit a word
pub suspects_fit : (g : GraphValue) (es : List ℕ) (ss : List Suspect)
    → IsTrue (list_all (λ n. event_fits n.name) g.nodes) → length es < 2 ^ 32
    → AreNamed (nodes_of g es) ss → IsTrue (counted_fits 4 suspect_fits ss)
suspects_fit g es ss names few h =
    let less = nodes_few g es in
    let many = h.many in
    and_from (nat_lt (length ss) (256 ^ 4)) _ (lt-ltb (length ss) (256 ^ 4) (omega arith))
    (h.fit (nodes_all g (λ n. event_fits n.name) es names))

-- a state in which a word is said
pub record MaySay (own : ℕ) (x : Configuration) (s : Diagnosis) : Type 0 where
  pub formed : IsFormed x
  pub time : s.time < 2 ^ 62
  pub next : s.next ≤ 2 ^ 63
  pub conf : s.conf < 2 ^ 32

names_fit : (own : ℕ) (x : Configuration) (s : Diagnosis) (c : OpenCase) → MaySay own x s
    → IsOpenCase x s.time s.next c
    → IsTrue (counted_fits 4 event_fits (event_names x.graph c.observed))
names_fit own x s c m h =
    let few = observed_few x s.time s.next c m.formed h in
    let less = nodes_few x.graph c.observed in
    let many = length-map (nodes_of x.graph c.observed) (λ n. n.name) in
    and_from (nat_lt (length (event_names x.graph c.observed)) (256 ^ 4)) _
    (lt-ltb (length (event_names x.graph c.observed)) (256 ^ 4) (omega arith))
    (list_all-map event_fits (λ n. n.name) (nodes_of x.graph c.observed)
    ∙ nodes_all x.graph (λ n. event_fits n.name) c.observed m.formed.names)

pub said_fits : (own : ℕ) (x : Configuration) (s : Diagnosis) (kind : ListKind) (c : OpenCase)
    (ss : List Suspect) → MaySay own x s → IsOpenCase x s.time s.next c
    → IsTrue (counted_fits 4 suspect_fits ss)
    → IsTrue (word_fits own (word_on own x.graph s kind c ss))
said_fits own x s kind c ss m h fit =
    let number = h.number in
    let next = m.next in
    and_from (own == own) _ (eq-eqb own own refl)
    (and_from (nat_lt c.number (2 ^ 63)) _ (lt-ltb c.number (2 ^ 63) (omega arith))
    (and_from (nat_lt s.time (2 ^ 62)) _ (lt-ltb s.time (2 ^ 62) m.time)
    (and_from (nat_lt s.conf (2 ^ 32)) _ (lt-ltb s.conf (2 ^ 32) m.conf)
    (and_from (counted_fits 4 event_fits (event_names x.graph c.observed)) _
    (names_fit own x s c m h)
    (and_from (counted_fits 4 suspect_fits ss) _ fit
    (links_fit_case x s.time s.next c m.formed h))))))

-- what was observed is in event order, and some event was
pub observed_ascend : (x : Configuration) (time next : ℕ) (c : OpenCase) → IsFormed x
    → IsOpenCase x time next c → IsTrue (events_ascend (event_names x.graph c.observed))
observed_ascend x time next c f h =
    names_ascend (nodes_of x.graph c.observed)
    (nodes_ascend x.graph c.observed f.ordered (reports_below x.graph.nodes c.observed h.reports)
    h.ascend)

pub observed_some : (x : Configuration) (time next : ℕ) (c : OpenCase)
    → IsOpenCase x time next c → 0 < length (event_names x.graph c.observed)
observed_some x time next c h =
    let many = nodes_many x.graph c.observed (reports_below x.graph.nodes c.observed h.reports) in
    let names = length-map (nodes_of x.graph c.observed) (λ n. n.name) in
    let some = h.some in
    omega arith
