-- What is kept of a case, part by part, and broken links as links of a graph.
use Rattle.std.proofs.Common.{◌≡◌, ◌+◌, ◌<◌, ◌≤◌, ◌++◌, ◌&&◌, ℕ, true, List, [], ◌∷◌, length}
use Rattle.std.proofs.Common.{get_or, take, map, ltb, leb, refl, sym, ap, ◌∙◌}
use Rattle.std.specs.List.{list_all}
use Rattle.std.proofs.lemmas.Bool.{and_parts, and_from, leb-true, ltb-true}
use Rattle.std.proofs.lemmas.List.{take_more, map-append}
use Rattle.ev_incidence.specs.Sets.{ascends, ascends_by}
use Rattle.ev_graph.specs.Kinds.{is_report_node}
use Rattle.ev_graph.specs.Lawful.{GraphValue}
use Rattle.ev_graph.specs.Cutting.{is_before_link}
use Rattle.ev_graph.specs.declared.instances.Link.{Link}
use Rattle.fm_core.specs.Meaning.{OpenCase}
use Rattle.fm_entry.specs.declared.broken.Broken.{Broken}
use Rattle.fm_entry.specs.Words.{is_link_before, links_ascend}
use Rattle.dx_explain.specs.Cases.{broken_of}
use Rattle.dx_case.specs.Facts.{facts_fit}

-- the parts of the test
pub record FactsParts (g : GraphValue) (moment : ℕ) (c : OpenCase) : Type 0 where
  pub before : c.opened ≤ moment
  pub some : 0 < length c.observed
  pub observed_ascend : ascends c.observed ≡ true
  pub observed_are : list_all (is_report_node g.nodes) c.observed ≡ true
  pub broken_ascend : ascends_by is_link_before c.broken ≡ true

pub facts_parts : (g : GraphValue) (moment : ℕ) (c : OpenCase) → facts_fit g moment c ≡ true
    → FactsParts g moment c
facts_parts g moment c h =
    let links = ascends_by is_link_before c.broken in
    let reports = list_all (is_report_node g.nodes) c.observed && links in
    let up = ascends c.observed && reports in
    let some = ltb 0 (length c.observed) && up in
    let p = and_parts (leb c.opened moment) some h in
    let q = and_parts (ltb 0 (length c.observed)) up p.1 in
    let r = and_parts (ascends c.observed) reports q.1 in
    let s = and_parts (list_all (is_report_node g.nodes) c.observed) links r.1 in
    record {
      before = leb-true c.opened moment p.0;
      some = ltb-true 0 (length c.observed) q.0;
      observed_ascend = r.0;
      observed_are = s.0;
      broken_ascend = s.1;
    }

-- where each link stands before all that follow it, each stands before the next
pub next_ascend : (bs : List Broken) → links_ascend bs ≡ true
    → ascends_by is_link_before bs ≡ true
next_ascend [] h = refl
next_ascend (x ∷ []) h = refl
next_ascend (x ∷ y ∷ bs) h =
    let p = and_parts (list_all (is_link_before x) (y ∷ bs)) (links_ascend (y ∷ bs)) h in
    and_from (is_link_before x y) (ascends_by is_link_before (y ∷ bs))
    (and_parts (is_link_before x y) (list_all (is_link_before x) bs) p.0).0
    (next_ascend (y ∷ bs) p.1)

-- links ascend where what they are broken by does
pub links_rise : (links : List Link)
    → ascends_by is_link_before (map broken_of links) ≡ true
    → ascends_by is_before_link links ≡ true
links_rise [] h = refl
links_rise (l ∷ []) h = refl
links_rise (l ∷ k ∷ ls) h =
    let p = and_parts (is_before_link l k)
    (ascends_by is_link_before (map broken_of (k ∷ ls))) h in
    and_from (is_before_link l k) (ascends_by is_before_link (k ∷ ls)) p.0
    (links_rise (k ∷ ls) p.1)

-- one more
pub link_more : (broken : List Broken) (i : ℕ) (d : Broken) (links : List Link) (l : Link)
    → i < length broken → broken_of l ≡ get_or broken i d
    → map broken_of links ≡ take i broken
    → map broken_of (links ++ l ∷ []) ≡ take (i + 1) broken
link_more broken i d links l room is h =
    map-append broken_of links (l ∷ [])
    ∙ (ap (λ (bs : List Broken). bs ++ broken_of l ∷ []) h
    ∙ (ap (λ (b : Broken). take i broken ++ b ∷ []) is ∙ sym (take_more broken i d room)))
