use Rattle.std.proofs.Common.{List, map, get_or, refl, sym, ap, ◌∙◌}
use Rattle.std.proofs.lemmas.List.{take_all}
use Rattle.ev_graph.specs.declared.instances.Link.{Link}
use Rattle.fm_entry.specs.Words.{is_link_before}
use Rattle.dx_explain.specs.Cases.{inserted, broken_of, with_links}
use Rattle.dx_case.proofs.Inserting.{map_inserted, with_more}
use Rattle.dx_case.proofs.lists.put_links.Goals as goal

pub loop-link-init : goal.loop-link-init
loop-link-init c = record { put = refl; ascend = c.requires }

pub loop-link-preserved : goal.loop-link-preserved
loop-link-preserved c =
    let links = c.args.links.now in
    let i = c.loop-link.link-index in
    let d : Link = record { instance = 0; effect = 0 } in
    let x = get_or links i d in
    record {
      put = ap (map broken_of) c.in_ok-put_link.ensures.put
          ∙ (map_inserted x c.loop-link.list.items
          ∙ (ap (inserted is_link_before (broken_of x)) c.loop-link.invariant.put
          ∙ sym (with_more links i d (map broken_of c.args.list.now.items) c.loop-link-test.true)));
      ascend = c.in_ok-put_link.ensures.ascend;
    }

pub returns : goal.returns
returns c =
    let e = take_all c.loop-link.link-index c.args.links.now c.loop-link-test.false in
    record {
      put = c.loop-link.invariant.put
          ∙ ap (λ (ks : List Link). with_links ks (map broken_of c.args.list.now.items)) e;
      ascend = c.loop-link.invariant.ascend;
    }
