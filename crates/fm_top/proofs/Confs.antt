-- What is read of sources has a spelling as a configuration.
use Rattle.std.proofs.Common.{◌≡◌, ◌<◌, ◌≤◌, ◌+◌, ◌-◌, ℕ, Bool, true, false, ◌||◌, ◌==◌, List}
use Rattle.std.proofs.Common.{[], ◌∷◌, length, take, refl, arith, ap, ◌∙◌, Ok}
use Rattle.std.proofs.Common.{Option, Some, None, slice_get, unwrap_or, nat_lt, sum_by, cond}
use Rattle.std.specs.Prelude.{if◌then◌else◌, All, not}
use Rattle.std.specs.List.{onto_first, list_all}
use Rattle.std.proofs.Math.Seq.{take-length}
use Rattle.std.proofs.lemmas.List.{length-map}
use Rattle.std.proofs.lemmas.List.Elements.{All-map, All-nil, All-cons}
use Rattle.std.proofs.lemmas.Grind.{common_steps}
use Rattle.std.proofs.lemmas.List.Splits.{length-slice_split}
use Rattle.std.proofs.lemmas.List.Sums.{sum_by-cons}
use Rattle.fm_topo.proofs.Maps.{total}
use Rattle.fm_esc.proofs.Reading.{files_count}
use Rattle.fm_outer.specs.declared.source.Source.{Ghosts}
use Rattle.fm_saved.specs.Confs.{IsSpelledConf}
use Rattle.fm_saved.specs.Saved.{FitsLongText}
use Rattle.fm_sources.specs.Sources.{FilesGave, ReadsSources, Given}
use Rattle.fm_sources.specs.declared.files.RuleFile.{RuleFile}
use Rattle.fm_sources.specs.declared.sources.Sources.{Sources}
use Rattle.fm_topo.specs.Line.{topology_lines, line_end, content_of, is_clean_byte}
use Rattle.fm_topo.specs.Topology.{Topology, lines_topology}
use Rattle.fm_topo.specs.Fault.{line_fault, fault_at, IsFaultless}
use Rattle.fm_topo.specs.declared.faults.TopoKind.{TopoKind}
use Rattle.fm_topo.specs.declared.faults.TopoKind.TheVariants.{Length, Bytes}
use Rattle.fm_top.specs.Init.{conf_with}

-- ---- the lines of a text and their newlines are as long as the text, and one newline more
abbrev line_size : List ℕ → ℕ
line_size line = length line + 1

onto_total : (x : ℕ) (ws : List (List ℕ)) → 0 < length ws
    → total line_size (onto_first x ws) ≡ total line_size ws + 1
onto_total x [] some = absurd (omega (arith, some))
onto_total x (w ∷ ws) some = omega arith

lines_at : (x : ℕ) (xs : List ℕ) (t : Bool) (ws : List (List ℕ)) → 0 < length ws
    → total line_size ws ≡ length xs + 1
    → total line_size (cond t ([] ∷ ws) (onto_first x ws)) ≡ length (x ∷ xs) + 1
lines_at x xs true ws some e = omega (arith, e)
lines_at x xs false ws some e = omega (arith, e, onto_total x ws some)

lines_total : (xs : List ℕ) → total line_size (topology_lines xs) ≡ length xs + 1
lines_total [] = refl
lines_total (x ∷ xs) =
    lines_at x xs (x == 10) (topology_lines xs)
    (omega (arith, length-slice_split (λ b. b == 10) xs)) (lines_total xs)

sum_total : (xs : List (List ℕ)) → sum_by (λ line. length line + 1) xs ≡ total line_size xs
sum_total [] = refl
sum_total (x ∷ xs) = sum_by-cons (λ line. length line + 1) x xs
    ∙ ap (λ n. length x + 1 + n) (sum_total xs)

-- ---- the last line of a text without a fault ends within the limit
if_none : (b : Bool) (k : TopoKind) (r : Option TopoKind) → (if b then Some k else r) ≡ None
    → (b ≡ false) × (r ≡ None)
if_none true k r e = cc
if_none false k r e = (refl, e)

not_past : (b : Bool) (last : ℕ) → (b || nat_lt 16777216 last) ≡ false → last ≤ 16777216
not_past true last e = cc
not_past false last e = grind (arith, common_steps)

ends_within : (found : Topology) (last : ℕ) (line : List ℕ) → line_fault found last line ≡ None
    → last ≤ 16777216
unfolding line_fault
ends_within found last line none =
    let bytes = if_none (not (list_all is_clean_byte (content_of line))) Bytes _ none in
    let long = if_none (nat_lt 4096 (length line) || nat_lt 16777216 last) Length _ bytes.1 in
    not_past (nat_lt 4096 (length line)) last long.0

topology_within : (text : List ℕ) → IsFaultless text → length text ≤ 16777216
unfolding fault_at line_end
topology_within text clean =
    let n = length (topology_lines text) - 1 in
    let some = length-slice_split (λ b. b == 10) text in
    let e : n + 1 ≡ length (topology_lines text) = omega (arith, some) in
    let all : take (n + 1) (topology_lines text) ≡ topology_lines text =
    ap (λ k. take k (topology_lines text)) e ∙ take-length (topology_lines text) in
    let sum : sum_by (λ line. length line + 1) (take (n + 1) (topology_lines text))
    ≡ length text + 1 =
    ap (sum_by (λ line. length line + 1)) all
    ∙ (sum_total (topology_lines text) ∙ lines_total text) in
    let within = ends_within (lines_topology (take n (topology_lines text))) (line_end text n)
    (unwrap_or (slice_get (topology_lines text) n) []) (clean n (omega (arith, some))) in
    omega (arith, within, sum)

-- ---- the rule files
files_fit : {S : Type 0} (g : Ghosts S) (olds news : List S) (files : List RuleFile)
    → FilesGave g olds news files → All (λ (f : RuleFile). FitsLongText f.text.items) files
files_fit g [] [] [] gave = All-nil (λ (f : RuleFile). FitsLongText f.text.items)
files_fit g (old ∷ olds) (new ∷ news) (file ∷ files) gave =
    All-cons (λ (f : RuleFile). FitsLongText f.text.items) file files
    (omega (arith, gave.0.is_rules.has.has.short)) (files_fit g olds news files gave.1)
files_fit g _ _ _ gave = absurd gave

pub spelled_conf : {S : Type 0} (g : Ghosts S) (old new : Given S) (got : Sources)
    (namespace : List ℕ)
    → length namespace ≡ 16 → length old.rules ≤ 8 → ReadsSources g old new (Ok got)
    → IsSpelledConf (conf_with namespace got)
spelled_conf g old new got namespace long few (files, topology) = record {
  namespace_is = long;
  few = omega (
    arith,
    few,
    files_count g old.rules new.rules got.files.items files,
    length-map got.files.items (λ (f : RuleFile). f.text.items),
  );
  rules_fit = All-map FitsLongText (λ (f : RuleFile). f.text.items) got.files.items
      (files_fit g old.rules new.rules got.files.items files);
  topo_fits = omega (arith, topology_within got.topo_text.items topology.clean);
}
