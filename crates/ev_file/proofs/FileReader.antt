-- Compiled files, read and spelled.
use Rattle.std.proofs.Common.{◌≡◌, ℕ, ◌^◌, ◌==◌, Bool, ◌&&◌, nat_lt, nat_le, IsTrue, List, []}
use Rattle.std.proofs.Common.{◌∷◌, ◌++◌, codes, refl, sym, ap}
use Rattle.std.proofs.lemmas.Bool.{eqb-true, eq-eqb}
use Rattle.fm_bytes.specs.Numbers.{is_unsigned, u32_bytes, u64_bytes, counted_bytes}
use Rattle.fm_bytes.specs.Reading.{number_from, both_from, counted_from}
use Rattle.fm_bytes.proofs.Booleans.{and_parts, and_true}
use Rattle.fm_bytes.proofs.Readers.{IsReader, reader_as, counted_fits, counted_reader, byte_reader}
use Rattle.fm_bytes.proofs.Readers.{word_reader, long_reader}
use Rattle.fm_bytes.proofs.Combined.{both_reader, where_reader, made_reader}
use Rattle.fm_name.specs.declared.events.EventName.{EventName}
use Rattle.fm_entry.specs.Words.{event_fits}
use Rattle.fm_entry.specs.WordBytes.{event_bytes}
use Rattle.fm_entry.specs.WordReading.{event_from}
use Rattle.fm_entry.proofs.Readers.{then_reader, made_where_reader}
use Rattle.fm_entry.proofs.SpokenReader.{event_reader}
use Rattle.ev_graph.specs.declared.nodes.Node.{Node}
use Rattle.ev_graph.specs.declared.nodes.NodeKind.{NodeKind}
use Rattle.ev_graph.specs.declared.nodes.NodeKind.TheVariants.{Fault, Defect, Upset, Inner, Report}
use Rattle.ev_graph.specs.declared.nodes.EngineSpec.{EngineSpec}
use Rattle.ev_graph.specs.declared.instances.Instance.{Instance}
use Rattle.ev_file.specs.Files.{has_category, kind_code, kind_bytes, node_bytes, engine_bytes}
use Rattle.ev_file.specs.Files.{instance_bytes, body_bytes, file_bytes}
use Rattle.ev_file.specs.FileReading.{kind_from, any_node_from, node_from, engine_from}
use Rattle.ev_file.specs.FileReading.{instance_from, magic_from, body_from, file_from}
use Rattle.ev_file.specs.declared.made.Made.{Made}
use Rattle.ev_file.proofs.KindReader.{kind_fits, kind_reader}

-- a node of any category: the number of its kind, its name and the fields of its kind
abbrev coded_fits : ℕ × (EventName × NodeKind) → Bool
coded_fits p =
    nat_le p.0 255 && (event_fits p.1.0 && ((kind_code p.1.1 == p.0) && kind_fits p.1.1))

abbrev coded_bytes : ℕ × (EventName × NodeKind) → List ℕ
coded_bytes p = (p.0 ∷ []) ++ (event_bytes p.1.0 ++ kind_bytes p.1.1)

abbrev uncoded : Node → ℕ × (EventName × NodeKind)
uncoded node = (kind_code node.kind, (node.name, node.kind))

abbrev any_fits : Node → Bool
any_fits node = event_fits node.name && kind_fits node.kind

code_same : (p : ℕ × (EventName × NodeKind)) → IsTrue (coded_fits p)
    → (kind_code p.1.1, p.1) ≡ p
code_same p h =
    let one = and_parts (nat_le p.0 255) _ h in
    let two = and_parts (event_fits p.1.0) _ one.1 in
    let same = eqb-true (kind_code p.1.1) p.0 (and_parts (kind_code p.1.1 == p.0) _ two.1).0 in
    λ i. (same i, p.1)

code_small : (k : NodeKind) → IsTrue (nat_le (kind_code k) 255)
code_small (Fault fit retire) = refl
code_small (Defect fit retire) = refl
code_small (Upset engine) = refl
code_small Inner = refl
code_small (Report within) = refl

any_node_reader : IsReader any_fits node_bytes any_node_from
unfolding any_node_from
any_node_reader =
    reader_as (λ node. coded_fits (uncoded node)) any_fits (λ node. coded_bytes (uncoded node))
    node_bytes _
    (λ node h. let one = and_parts (nat_le (kind_code node.kind) 255) _ h in
    let two = and_parts (event_fits node.name) _ one.1 in
    and_true (event_fits node.name) (kind_fits node.kind) two.0
    (and_parts (kind_code node.kind == kind_code node.kind) (kind_fits node.kind) two.1).1)
    (λ node h. let parts = and_parts (event_fits node.name) (kind_fits node.kind) h in
    and_true (nat_le (kind_code node.kind) 255) _ (code_small node.kind)
    (and_true (event_fits node.name) _ parts.0
    (and_true (kind_code node.kind == kind_code node.kind) _
    (eq-eqb (kind_code node.kind) (kind_code node.kind) refl) parts.1)))
    (λ node h. refl)
    (made_where_reader (λ f. record { name = f.1.0; kind = f.1.1 }) uncoded coded_fits coded_bytes _
    code_same (λ node. refl)
    (then_reader (λ n. nat_le n 255) (λ n p.
    event_fits p.0 && ((kind_code p.1 == n) && kind_fits p.1))
    (λ n. n ∷ []) (λ n p. event_bytes p.0 ++ kind_bytes p.1) (number_from 1)
    (λ n. both_from event_from (kind_from n)) byte_reader
    (λ n h. both_reader event_fits (λ k. (kind_code k == n) && kind_fits k) event_bytes kind_bytes
    event_from (kind_from n) event_reader (kind_reader n))))

-- a node whose category fits its kind
abbrev pub node_fits : Node → Bool
node_fits node = any_fits node && has_category node

node_reader : IsReader node_fits node_bytes node_from
unfolding node_from
node_reader = where_reader any_fits has_category node_bytes any_node_from any_node_reader

abbrev pub engine_spec_fits : EngineSpec → Bool
engine_spec_fits e =
    event_fits e.name && (nat_lt e.n (2 ^ 32) && (is_unsigned e.t && nat_lt e.trip (2 ^ 32)))

engine_reader : IsReader engine_spec_fits engine_bytes engine_from
unfolding engine_from
engine_reader =
    made_reader (λ f. record { name = f.0; n = f.1.0; t = f.1.1.0; trip = f.1.1.1 })
    (λ (e : EngineSpec). (e.name, (e.n, (e.t, e.trip)))) _ _ _ (λ f. refl) (λ e. refl)
    (both_reader _ _ _ _ event_from _ event_reader
    (both_reader _ _ _ _ (number_from 4) _ word_reader
    (both_reader _ _ _ _ (number_from 8) (number_from 4) long_reader word_reader)))

abbrev pub instance_fits : Instance → Bool
instance_fits i =
    nat_lt i.n (2 ^ 32)
    && (nat_lt i.k (2 ^ 32)
    && (counted_fits 4 (λ n. nat_lt n (2 ^ 32)) i.causes
    && counted_fits 4 (λ n. nat_lt n (2 ^ 32)) i.effects))

numbers_reader : IsReader (counted_fits 4 (λ n. nat_lt n (2 ^ 32))) (counted_bytes 4 u32_bytes)
    (counted_from 4 (number_from 4))
numbers_reader = counted_reader 4 (λ n. nat_lt n (2 ^ 32)) u32_bytes (number_from 4) word_reader

instance_reader : IsReader instance_fits instance_bytes instance_from
unfolding instance_from
instance_reader =
    made_reader (λ f. record { causes = f.1.1.0; effects = f.1.1.1; n = f.0; k = f.1.0 })
    (λ (i : Instance). (i.n, (i.k, (i.causes, i.effects)))) _ _ _ (λ f. refl) (λ i. refl)
    (both_reader _ _ _ _ (number_from 4) _ word_reader
    (both_reader _ _ _ _ (number_from 4) _ word_reader
    (both_reader _ _ _ _ (counted_from 4 (number_from 4)) (counted_from 4 (number_from 4))
    numbers_reader numbers_reader)))

abbrev pub body_fits : Made → Bool
body_fits made =
    counted_fits 4 node_fits made.graph.nodes
    && (counted_fits 4 engine_spec_fits made.graph.engines
    && (counted_fits 4 instance_fits made.graph.instances && is_unsigned made.skipped))

body_reader : IsReader body_fits body_bytes body_from
unfolding body_from
body_reader =
    made_reader (λ f. record {
      graph = record { nodes = f.0; engines = f.1.0; instances = f.1.1.0 };
      skipped = f.1.1.1;
    })
    (λ (made : Made).
    (made.graph.nodes, (made.graph.engines, (made.graph.instances, made.skipped))))
    _ _ _ (λ f. refl) (λ made. refl)
    (both_reader _ _ _ _ (counted_from 4 node_from) _
    (counted_reader 4 node_fits node_bytes node_from node_reader)
    (both_reader _ _ _ _ (counted_from 4 engine_from) _
    (counted_reader 4 engine_spec_fits engine_bytes engine_from engine_reader)
    (both_reader _ _ _ _ (counted_from 4 instance_from) (number_from 8)
    (counted_reader 4 instance_fits instance_bytes instance_from instance_reader) long_reader)))

-- the eight first bytes
abbrev magic : ℕ
magic = 5065776921867137073

magic_reader : IsReader (λ n. n == magic) u64_bytes magic_from
unfolding magic_from
magic_reader =
    reader_as (λ n. is_unsigned n && (n == magic)) (λ n. n == magic) u64_bytes u64_bytes _
    (λ n h. (and_parts (is_unsigned n) _ h).1)
    (λ n h. and_true (is_unsigned n) (n == magic) (ap is_unsigned (eqb-true n magic h)) h)
    (λ n h. refl)
    (where_reader is_unsigned (λ n. n == magic) u64_bytes (number_from 8) long_reader)

pub magic_bytes : u64_bytes 5065776921867137073 ≡ codes "FMAESC01"
unfolding u64_bytes
magic_bytes = refl

magic_same : (p : ℕ × Made) → IsTrue ((p.0 == magic) && body_fits p.1) → (magic, p.1) ≡ p
magic_same p h =
    let same = eqb-true p.0 magic (and_parts (p.0 == magic) _ h).0 in
    λ i. (sym same i, p.1)

pub file_reader : IsReader body_fits file_bytes file_from
unfolding file_from
file_reader =
    reader_as (λ made. (magic == magic) && body_fits made) body_fits
    (λ made. u64_bytes magic ++ body_bytes made) file_bytes _
    (λ made h. (and_parts (magic == magic) _ h).1)
    (λ made h. and_true (magic == magic) (body_fits made) refl h)
    (λ made h. ap (λ (xs : List ℕ). xs ++ body_bytes made) magic_bytes)
    (made_where_reader (λ (f : ℕ × Made). f.1) (λ made. (magic, made))
    (λ p. (p.0 == magic) && body_fits p.1) (λ p. u64_bytes p.0 ++ body_bytes p.1) _ magic_same
    (λ made. refl)
    (both_reader (λ n. n == magic) body_fits u64_bytes body_bytes magic_from body_from magic_reader
    body_reader))
