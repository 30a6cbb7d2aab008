-- Open cases: what is allowed and pending in one, what explains it, and how one comes and grows.
use Rattle.std.specs.Prelude.{◌==◌, ◌+◌, ◌++◌, ◌∷◌, [], ◌&&◌, ◌||◌, not, ℕ, Bool, false, List}
use Rattle.std.specs.Prelude.{length, nat_le, nat_lt, slice_get, true, if◌then◌else◌}
use Rattle.std.specs.List.{filter, list_any}
use Rattle.ev_incidence.specs.Sets.{NodeSet, is_member}
use Rattle.ev_graph.specs.Kinds.{has_kind, is_report_node, is_upset_kind}
use Rattle.ev_graph.specs.Lawful.{GraphValue}
use Rattle.ev_graph.specs.declared.instances.Link.{Link}
use Rattle.ev_graph.specs.declared.nodes.NodeKind.{NodeKind}
use Rattle.ev_graph.specs.declared.nodes.NodeKind.TheVariants.{Fault, Defect, Report}
use Rattle.dx_sets.specs.Engine.{CutsOf}
use Rattle.fm_entry.specs.declared.broken.Broken.{Broken}
use Rattle.fm_entry.specs.Words.{is_link_before}
use Rattle.fm_core.specs.Meaning.{OpenCase}
use Rattle.dx_explain.specs.Search.{numbers_below, some_below}
use Rattle.dx_explain.specs.Stories.{explains, comes_from}

-- which links the reports of the case break
abbrev pub cuts_of : OpenCase → CutsOf
cuts_of c j e = list_any (λ b. b.instance == j && b.effect == e) c.broken

-- the window of a report of this kind, in a case that was opened then, is not over at a time
abbrev pub is_awaited : ℕ → ℕ → NodeKind → Bool
is_awaited opened time (Report within) = nat_le time (opened + within)
is_awaited opened time _ = false

-- allowed at a time: what was observed, and each report whose window is not over
abbrev pub is_allowed : GraphValue → ℕ → OpenCase → NodeSet
is_allowed g time c e =
    is_member c.observed e || has_kind (is_awaited c.opened time) (slice_get g.nodes e)

-- pending at a time: a report that was not observed and occurs in some story, of some root, that
-- has all that was observed and no report but those allowed
abbrev pub is_pending : GraphValue → ℕ → OpenCase → NodeSet
is_pending g time c e =
    is_report_node g.nodes e
    && (not (is_member c.observed e)
    && some_below (length g.nodes)
    (comes_from g (cuts_of c) c.observed (is_allowed g time c) e))

-- some report is pending
unfoldable pub waits : GraphValue → ℕ → OpenCase → Bool
waits g time c = some_below (length g.nodes) (is_pending g time c)

-- a report of the node joins the case
abbrev pub takes_report : GraphValue → ℕ → ℕ → OpenCase → Bool
takes_report g time node c = is_member c.observed node || is_pending g time c node

-- the roots of a kind that explain the case, in event order
unfoldable pub blamed : (NodeKind → Bool) → GraphValue → OpenCase → List ℕ
blamed kind g c =
    filter (λ e. has_kind kind (slice_get g.nodes e) && explains g (cuts_of c) c.observed e)
    (numbers_below (length g.nodes))

-- faults and defects solve a case
abbrev pub is_solving_kind : NodeKind → Bool
is_solving_kind (Fault fit retire) = true
is_solving_kind (Defect fit retire) = true
is_solving_kind _ = false

abbrev pub faults_of : GraphValue → OpenCase → List ℕ
faults_of g c = blamed is_solving_kind g c

abbrev pub upsets_of : GraphValue → OpenCase → List ℕ
upsets_of g c = blamed is_upset_kind g c

-- what a case comes to: faults and defects, else upsets, else nothing that explains it
pub data Verdict : Type 0 where
  Solving : List ℕ → Verdict
  Upsetting : List ℕ → Verdict
  Unexplained : Verdict

abbrev pub verdict : List ℕ → List ℕ → Verdict
verdict (f ∷ fs) us = Solving (f ∷ fs)
verdict [] (u ∷ us) = Upsetting (u ∷ us)
verdict [] [] = Unexplained

abbrev pub verdict_of : GraphValue → OpenCase → Verdict
verdict_of g c = verdict (faults_of g c) (upsets_of g c)

-- a list in order with an item more, unless it is there
abbrev pub inserted : {A : Type 0} → (A → A → Bool) → A → List A → List A
inserted before x [] = x ∷ []
inserted before x (y ∷ ys) =
    if before x y then x ∷ y ∷ ys else (if before y x then y ∷ inserted before x ys else y ∷ ys)

-- a link as one that is broken
abbrev pub broken_of : Link → Broken
broken_of l = record { instance = l.instance; effect = l.effect }

-- broken links with some more
abbrev pub with_links : List Link → List Broken → List Broken
with_links [] bs = bs
with_links (l ∷ ls) bs = with_links ls (inserted is_link_before (broken_of l) bs)

-- a case that a report of the node opens at a time, by the entry of this number, where the payload
-- breaks these links
abbrev pub case_opened : ℕ → ℕ → ℕ → ℕ → List Link → OpenCase
case_opened number node time entry links = record {
  number = number;
  opened = time;
  entries = entry ∷ [];
  observed = node ∷ [];
  broken = with_links links [];
}

-- a case that a report of the node joins
abbrev pub case_joined : ℕ → ℕ → List Link → OpenCase → OpenCase
case_joined node entry links c = record {
  number = c.number;
  opened = c.opened;
  entries = c.entries ++ entry ∷ [];
  observed = inserted nat_lt node c.observed;
  broken = with_links links c.broken;
}
