-- The kinds of nodes are those of the categories of their classes.
use Rattle.std.proofs.Common.{◌≡◌, ◌^◌, ℕ, true, false, List, length}
use Rattle.std.proofs.Common.{Some, None, refl, ap, ◌∙◌, nat_lt, nat_le}
use Rattle.std.proofs.lemmas.Bool.{false≢true, lt-ltb}
use Rattle.fm_name.specs.declared.classes.Category.{Category}
use Rattle.fm_name.specs.declared.classes.Category.TheVariants as categories
use Rattle.fm_name.specs.declared.events.EventName.{EventName}
use Rattle.ev_words.specs.Categories.{is_report, is_side, is_upset}
use Rattle.ev_check.specs.declared.checked.DeclKind.{DeclKind}
use Rattle.ev_check.specs.declared.checked.DeclKind.TheVariants as kinds
use Rattle.ev_check.specs.declared.checked.SerdSpec.{SerdSpec}
use Rattle.ev_graph.specs.Kinds.{has_engine_below, has_limits, is_report_kind, is_root_kind}
use Rattle.ev_graph.specs.Kinds.{is_upset_kind}
use Rattle.ev_graph.specs.declared.nodes.NodeKind.{NodeKind}
use Rattle.ev_graph.specs.declared.nodes.NodeKind.TheVariants as nodes
use Rattle.ev_file.specs.Files.{is_category_for}
use Rattle.ev_events.proofs.Places.{within_is}
use Rattle.ev_events.specs.Nodes.{IsKindAt}
use Rattle.ev_events.specs.Whole.{category_for, is_limited}

-- the category of the nodes of a kind
abbrev pub node_category : NodeKind → Category
node_category (nodes.Fault fit retire) = categories.Fault
node_category (nodes.Defect fit retire) = categories.Defect
node_category (nodes.Upset engine) = categories.Upset
node_category nodes.Inner = categories.Error
node_category (nodes.Report within) = categories.Ereport

pub record KindFacts (count : ℕ) (k : DeclKind) (kind : NodeKind) : Type 0 where
  pub category : category_for k ≡ node_category kind
  pub limits : has_limits kind ≡ true
  pub engine : has_engine_below count kind ≡ true

pub kind_facts : (specs : List SerdSpec) (engines : List EventName) (path : List ℕ)
    (k : DeclKind) (kind : NodeKind) → is_limited k ≡ true → IsKindAt specs engines path k kind
    → KindFacts (length engines) k kind
kind_facts specs engines path (kinds.Fault fit retire) (nodes.Fault rate gone) lim h = record {
  category = refl;
  limits = ap (nat_lt 0) h.0 ∙ lim;
  engine = refl;
}
kind_facts specs engines path (kinds.Fault fit retire) (nodes.Defect rate gone) lim h = absurd h
kind_facts specs engines path (kinds.Fault fit retire) (nodes.Upset None) lim h = absurd h
kind_facts specs engines path (kinds.Fault fit retire) (nodes.Upset (Some number)) lim h = absurd h
kind_facts specs engines path (kinds.Fault fit retire) nodes.Inner lim h = absurd h
kind_facts specs engines path (kinds.Fault fit retire) (nodes.Report time) lim h = absurd h
kind_facts specs engines path (kinds.Defect fit retire) (nodes.Fault rate gone) lim h = absurd h
kind_facts specs engines path (kinds.Defect fit retire) (nodes.Defect rate gone) lim h = record {
  category = refl;
  limits = ap (nat_lt 0) h.0 ∙ lim;
  engine = refl;
}
kind_facts specs engines path (kinds.Defect fit retire) (nodes.Upset None) lim h = absurd h
kind_facts specs engines path (kinds.Defect fit retire) (nodes.Upset (Some number)) lim h = absurd h
kind_facts specs engines path (kinds.Defect fit retire) nodes.Inner lim h = absurd h
kind_facts specs engines path (kinds.Defect fit retire) (nodes.Report time) lim h = absurd h
kind_facts specs engines path (kinds.Upset None) (nodes.Fault rate gone) lim h = absurd h
kind_facts specs engines path (kinds.Upset None) (nodes.Defect rate gone) lim h = absurd h
kind_facts specs engines path (kinds.Upset None) (nodes.Upset None) lim h = record {
  category = refl;
  limits = refl;
  engine = refl;
}
kind_facts specs engines path (kinds.Upset None) (nodes.Upset (Some number)) lim h = absurd h
kind_facts specs engines path (kinds.Upset None) nodes.Inner lim h = absurd h
kind_facts specs engines path (kinds.Upset None) (nodes.Report time) lim h = absurd h
kind_facts specs engines path (kinds.Upset (Some e)) (nodes.Fault rate gone) lim h = absurd h
kind_facts specs engines path (kinds.Upset (Some e)) (nodes.Defect rate gone) lim h = absurd h
kind_facts specs engines path (kinds.Upset (Some e)) (nodes.Upset None) lim h = absurd h
kind_facts specs engines path (kinds.Upset (Some e)) (nodes.Upset (Some number)) lim h = record {
  category = refl;
  limits = refl;
  engine = lt-ltb number (length engines) (within_is engines number _ h.stands);
}
kind_facts specs engines path (kinds.Upset (Some e)) nodes.Inner lim h = absurd h
kind_facts specs engines path (kinds.Upset (Some e)) (nodes.Report time) lim h = absurd h
kind_facts specs engines path kinds.Inner (nodes.Fault rate gone) lim h = absurd h
kind_facts specs engines path kinds.Inner (nodes.Defect rate gone) lim h = absurd h
kind_facts specs engines path kinds.Inner (nodes.Upset None) lim h = absurd h
kind_facts specs engines path kinds.Inner (nodes.Upset (Some number)) lim h = absurd h
kind_facts specs engines path kinds.Inner nodes.Inner lim h = record {
  category = refl;
  limits = refl;
  engine = refl;
}
kind_facts specs engines path kinds.Inner (nodes.Report time) lim h = absurd h
kind_facts specs engines path (kinds.Report within) (nodes.Fault rate gone) lim h = absurd h
kind_facts specs engines path (kinds.Report within) (nodes.Defect rate gone) lim h = absurd h
kind_facts specs engines path (kinds.Report within) (nodes.Upset None) lim h = absurd h
kind_facts specs engines path (kinds.Report within) (nodes.Upset (Some number)) lim h = absurd h
kind_facts specs engines path (kinds.Report within) nodes.Inner lim h = absurd h
kind_facts specs engines path (kinds.Report within) (nodes.Report time) lim h = record {
  category = refl;
  limits = ap (λ (n : ℕ). nat_le n (2 ^ 50)) h ∙ lim;
  engine = refl;
}

-- ---- what the category says of the kind
pub not_report : (kind : NodeKind) → is_side true (Some (node_category kind)) ≡ true
    → is_report_kind kind ≡ false
not_report (nodes.Fault fit retire) h = refl
not_report (nodes.Defect fit retire) h = refl
not_report (nodes.Upset engine) h = refl
not_report nodes.Inner h = refl
not_report (nodes.Report within) h = absurd (false≢true h)

pub not_root : (kind : NodeKind) → is_side false (Some (node_category kind)) ≡ true
    → is_root_kind kind ≡ false
not_root (nodes.Fault fit retire) h = absurd (false≢true h)
not_root (nodes.Defect fit retire) h = absurd (false≢true h)
not_root (nodes.Upset engine) h = absurd (false≢true h)
not_root nodes.Inner h = refl
not_root (nodes.Report within) h = refl

pub reports : (kind : NodeKind) → is_report (Some (node_category kind)) ≡ true
    → is_report_kind kind ≡ true
reports (nodes.Fault fit retire) h = absurd (false≢true h)
reports (nodes.Defect fit retire) h = absurd (false≢true h)
reports (nodes.Upset engine) h = absurd (false≢true h)
reports nodes.Inner h = absurd (false≢true h)
reports (nodes.Report within) h = refl

pub upsets : (kind : NodeKind) → is_upset_kind kind ≡ true
    → is_upset (Some (node_category kind)) ≡ true
upsets (nodes.Fault fit retire) h = absurd (false≢true h)
upsets (nodes.Defect fit retire) h = absurd (false≢true h)
upsets (nodes.Upset engine) h = refl
upsets nodes.Inner h = absurd (false≢true h)
upsets (nodes.Report within) h = absurd (false≢true h)

pub categories_fit : (kind : NodeKind) → is_category_for kind (Some (node_category kind)) ≡ true
categories_fit (nodes.Fault fit retire) = refl
categories_fit (nodes.Defect fit retire) = refl
categories_fit (nodes.Upset engine) = refl
categories_fit nodes.Inner = refl
categories_fit (nodes.Report within) = refl
