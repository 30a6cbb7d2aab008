-- What is printed of a case's row: each suspect, and the greatest story of it.
use Rattle.std.specs.Prelude.{◌≡◌, ◌⊎◌, ◌<◌, ℕ, Bool, true, List, [], ◌∷◌, ◌++◌, length, map}
use Rattle.std.specs.Prelude.{slice_get}
use Rattle.std.specs.Prelude.{Some, None, IfSome, codes, flat_map}
use Rattle.std.specs.declared.option.Option.{Option}
use Rattle.std.specs.List.{AllZip}
use Rattle.fm_name.specs.declared.events.EventName.{EventName}
use Rattle.fm_entry.specs.declared.broken.Broken.{Broken}
use Rattle.fm_entry.specs.declared.list_event.ListEvent.{ListEvent}
use Rattle.fm_entry.specs.declared.suspect.Suspect.{Suspect}
use Rattle.fm_status.specs.Lines.{event_text}
use Rattle.ev_incidence.specs.Sets.{NodeSet, is_member, ascends}
use Rattle.ev_graph.specs.Cutting.{AreLinks, is_cut}
use Rattle.ev_graph.specs.Wired.{wiring}
use Rattle.ev_graph.specs.Lawful.{GraphValue, IsNodeNamed, name_in}
use Rattle.ev_graph.specs.declared.instances.Link.{Link}
use Rattle.ev_graph.specs.declared.nodes.Node.{Node}
use Rattle.dx_story.specs.Greatest.{IsGreatestStory}
use Rattle.dx_explain.specs.Explaining.{AreMembers, IsPossible}

-- a link as the graph has it
abbrev pub broken_link : Broken → Link
broken_link b = record { instance = b.instance; effect = b.effect }

-- the events of the first so many of these names that the graph has, in some order
pub record AreFound (nodes : List Node) (names : List EventName) (count : ℕ) (xs : List ℕ) : Type 0
  where
    pub from : (e : ℕ) → is_member xs e ≡ true → (i : ℕ) × (name : EventName) × (i < count)
        × (slice_get names i ≡ Some name) × (name_in (slice_get nodes e) ≡ Some name)
    pub all : (i : ℕ) (name : EventName) → i < count → slice_get names i ≡ Some name
        → (at : Option ℕ) × IsNodeNamed nodes name at × IfSome at (λ e. is_member xs e ≡ true)

-- the events of these names that the graph has, ascending
pub record AreNamed (nodes : List Node) (names : List EventName) (xs : List ℕ) : Type 0 where
  pub ascend : ascends xs ≡ true
  pub found : AreFound nodes names (length names) xs

-- the line of an event
abbrev pub event_line : EventName → List ℕ
event_line name = codes "  " ++ (event_text name.class name.path ++ codes "\n")

abbrev pub node_line_if : Option Node → List ℕ
node_line_if None = []
node_line_if (Some node) = event_line node.name

-- the line of an event of the graph, by its number
abbrev pub node_line : List Node → ℕ → List ℕ
node_line nodes e = node_line_if (slice_get nodes e)

-- the lines of these events of the graph
abbrev pub node_lines : List Node → List ℕ → List ℕ
node_lines nodes xs = flat_map (node_line nodes) xs

-- the lines of the greatest story of the root with these reports and no other, in the graph less
-- the links that are cut; none where the root has no such story
abbrev pub IsStoryTold : GraphValue → (ℕ → ℕ → Bool) → ℕ → List ℕ → List ℕ → Type 0
IsStoryTold g cut root reports text =
    ((X : NodeSet) × (xs : List ℕ) × IsGreatestStory g cut root (is_member reports) X
    × AreMembers X (length g.nodes) xs × (text ≡ node_lines g.nodes xs))
    ⊎ ((text ≡ []) × (IsPossible g cut root (is_member []) (is_member reports) → ⊥))

-- the name of a suspect
abbrev pub suspect_name : Suspect → EventName
suspect_name s = record { class = s.class; path = s.path }

-- the head line of a suspect
abbrev pub suspect_head : Suspect → List ℕ
suspect_head s = codes "suspect " ++ (event_text s.class s.path ++ codes "\n")

-- what the event at a place of the graph accounts for; nothing where there is none
abbrev pub IsAccountAt : GraphValue → List Link → List ℕ → Option ℕ → List ℕ → Type 0
IsAccountAt g less reports None text = text ≡ []
IsAccountAt g less reports (Some root) text = IsStoryTold g (is_cut less) root reports text

-- the text of a suspect: its head line, and the lines of what it accounts for
pub record IsSuspectTold (g : GraphValue) (less : List Link) (reports : List ℕ)
    (suspect : Suspect) (text : List ℕ) : Type 0 where
  pub at : Option ℕ
  pub named : IsNodeNamed g.nodes (suspect_name suspect) at
  pub account : List ℕ
  pub is : IsAccountAt g less reports at account
  pub text_is : text ≡ suspect_head suspect ++ account

-- the texts of suspects, one after another
pub record AreSuspectsTold (g : GraphValue) (less : List Link) (reports : List ℕ)
    (suspects : List Suspect) (text : List ℕ) : Type 0 where
  pub texts : List (List ℕ)
  pub each : AllZip (IsSuspectTold g less reports) suspects texts
  pub text_is : text ≡ flat_map (λ t. t) texts

-- the row's broken links as links of a graph
abbrev pub links_of_row : ListEvent → List Link
links_of_row row = map broken_link row.broken

-- the texts of a row's suspects, in the graph less the row's broken links, with no report but those
-- that were observed
pub record IsRowTold (g : GraphValue) (row : ListEvent) (text : List ℕ) : Type 0 where
  pub links : AreLinks (wiring g.instances) (links_of_row row)
  pub reports : List ℕ
  pub named : AreNamed g.nodes row.observed reports
  pub told : AreSuspectsTold g (links_of_row row) reports row.suspects text

-- the head lines of a row's suspects, whose broken links are not all of the graph
pub record IsRowForeign (g : GraphValue) (row : ListEvent) (text : List ℕ) : Type 0 where
  pub foreign : AreLinks (wiring g.instances) (links_of_row row) → ⊥
  pub text_is : text ≡ flat_map suspect_head row.suspects

-- the text of these suspects of a row; of a row whose graph is not kept the head lines alone
abbrev pub IsExplainedBy : Option GraphValue → ListEvent → List Suspect → List ℕ → Type 0
IsExplainedBy graph row [] text = text ≡ codes "no root\n"
IsExplainedBy None row (s ∷ ss) text = text ≡ flat_map suspect_head (s ∷ ss)
IsExplainedBy (Some g) row (s ∷ ss) text = IsRowTold g row text ⊎ IsRowForeign g row text

abbrev pub IsExplained : Option GraphValue → ListEvent → List ℕ → Type 0
IsExplained graph row text = IsExplainedBy graph row row.suspects text
