-- Both rules on members only gain from a larger set.
use Rattle.std.proofs.Common.{not, ℕ, leb, List}
use Rattle.std.proofs.Common.{arith, inl, inr}
use Rattle.std.specs.List.{count_by}
use Rattle.std.proofs.lemmas.Bool.{and_parts, and_from, or_cases, or_left, or_right, le-leb}
use Rattle.std.proofs.lemmas.Bool.{leb-true}
use Rattle.ev_incidence.specs.Sets.{NodeSet, is_member, IsSubset}
use Rattle.ev_incidence.specs.Wiring.{Wiring}
use Rattle.ev_graph.specs.declared.nodes.Node.{Node}
use Rattle.ev_incidence.proofs.Occurrences.{count_within}
use Rattle.ev_graph.specs.Rules.{IsProduced, IsShown}
use Rattle.dx_story.specs.Story.{IsStory, union}

pub caused_within : (w : Wiring) (X Y : NodeSet) (e : ℕ) → IsSubset X Y → IsProduced w X e
    → IsProduced w Y e
caused_within w X Y e h c =
    let p = and_parts (is_member (w.effects c.place) e)
    (leb (w.k c.place) (count_by X (w.causes c.place))) c.enough in
    record {
      place = c.place;
      enough = and_from (is_member (w.effects c.place) e)
          (leb (w.k c.place) (count_by Y (w.causes c.place))) p.0
          (le-leb (w.k c.place) (count_by Y (w.causes c.place))
          (omega (
            arith,
            leb-true (w.k c.place) (count_by X (w.causes c.place)) p.1,
            count_within X Y (w.causes c.place) h,
          )));
    }

pub shown_within : (w : Wiring) (X Y : NodeSet) (e : ℕ) → IsSubset X Y → IsShown w X e
    → IsShown w Y e
shown_within w X Y e h s = record {
  each = λ j.
      elim (or_cases (not (is_member (w.causes j) e)) (leb (w.n j) (count_by X (w.effects j)))
      (s.each j)) [
        | inl none ↦ or_left (not (is_member (w.causes j) e))
            (leb (w.n j) (count_by Y (w.effects j)))
            none
        | inr enough ↦ or_right (not (is_member (w.causes j) e))
            (leb (w.n j) (count_by Y (w.effects j)))
            (le-leb (w.n j) (count_by Y (w.effects j))
            (omega (
              arith,
              leb-true (w.n j) (count_by X (w.effects j)) enough,
              count_within X Y (w.effects j) h,
            )))
      ];
}

in_union_left : (X Y : NodeSet) → IsSubset X (union X Y)
in_union_left X Y e h = or_left (X e) (Y e) h

in_union_right : (X Y : NodeSet) → IsSubset Y (union X Y)
in_union_right X Y e h = or_right (X e) (Y e) h

pub union_story : (nodes : List Node) (w : Wiring) (root : ℕ) (X Y : NodeSet)
    → IsStory nodes w root X → IsStory nodes w root Y → IsStory nodes w root (union X Y)
union_story nodes w root X Y f g = record {
  root_kind = f.root_kind;
  has_root = in_union_left X Y root f.has_root;
  only_root = λ e h r. elim (or_cases (X e) (Y e) h)
      [ inl x ↦ f.only_root e x r | inr y ↦ g.only_root e y r ];
  caused = λ e h ne. elim (or_cases (X e) (Y e) h) [
    | inl x ↦ caused_within w X (union X Y) e (in_union_left X Y) (f.caused e x ne)
    | inr y ↦ caused_within w Y (union X Y) e (in_union_right X Y) (g.caused e y ne)
  ];
  shown = λ e h. elim (or_cases (X e) (Y e) h) [
    | inl x ↦ shown_within w X (union X Y) e (in_union_left X Y) (f.shown e x)
    | inr y ↦ shown_within w Y (union X Y) e (in_union_right X Y) (g.shown e y)
  ];
}
