-- The tests that the checker makes, along the incidence of the graph.
use Rattle.std.specs.Prelude.{◌==◌, ◌&&◌, ◌||◌, not, ℕ, Bool, nat_le, List, slice_index}
use Rattle.std.specs.Prelude.{slice_get}
use Rattle.std.specs.List.{count_by, filter, list_all, list_any}
use Rattle.ev_incidence.specs.Sets.{NodeSet, is_member, ascends}
use Rattle.ev_graph.specs.Kinds.{is_root_node, is_report_node}
use Rattle.ev_graph.specs.Lawful.{are_below}
use Rattle.ev_incidence.specs.Table.{row_at, IncidenceValue}
use Rattle.ev_graph.specs.Wired.{effects_if_any}
use Rattle.ev_graph.specs.declared.nodes.Node.{Node}
use Rattle.ev_graph.specs.declared.instances.Instance.{Instance}
use Rattle.ev_graph.specs.declared.instances.Link.{Link}

-- the instance j gives e by a link that is not cut
abbrev pub gives_at : IncidenceValue → (ℕ → ℕ → Bool) → NodeSet → ℕ → ℕ → Bool
gives_at v cut X e j = not (cut j e) && nat_le (slice_index v.k j) (count_by X (row_at v.causes j))

-- the instance j has enough effects
abbrev pub shows_at : IncidenceValue → (ℕ → ℕ → Bool) → NodeSet → ℕ → Bool
shows_at v cut X j = nat_le (slice_index v.n j)
    (count_by X (filter (λ e. not (cut j e)) (row_at v.effects j)))

abbrev pub is_fit_at : IncidenceValue → (ℕ → ℕ → Bool) → ℕ → NodeSet → ℕ → Bool
is_fit_at v cut root X e =
    (e == root || list_any (gives_at v cut X e) (row_at v.gets e)) && list_all (shows_at v cut X)
    (row_at v.uses e)

-- ascending numbers of nodes
abbrev pub are_nodes : ℕ → List ℕ → Bool
are_nodes count xs = ascends xs && are_below count xs

-- the reports of the story are those seen
abbrev pub are_reports : List Node → List ℕ → List ℕ → Bool
are_reports nodes seen story =
    list_all (λ e. is_report_node nodes e && is_member story e) seen
    && list_all (λ e. not (is_report_node nodes e) || is_member seen e) story

-- the root is in the story, and no other root
abbrev pub has_one_root : List Node → ℕ → List ℕ → Bool
has_one_root nodes root story =
    is_root_node nodes root
    && (is_member story root && list_all (λ e. not (is_root_node nodes e) || e == root) story)

-- the instance of the link has its effect
abbrev pub is_link_of : List Instance → Link → Bool
is_link_of is l = is_member (effects_if_any (slice_get is l.instance)) l.effect
