use Rattle.std.proofs.Common.{length, sym, ap, ◌∙◌, arith}
use Rattle.ev_incidence.specs.Sets.{ascends_by}
use Rattle.ev_graph.specs.Cutting.{is_before_link}
use Rattle.dx_case.proofs.Inserting.{link_there, link_new, link_behind, ascends_inserted}
use Rattle.dx_case.proofs.lists.put_link.Goals as goal
use Rattle.dx_case.proofs.lists.put_link.Goals.{
  else-at-len-via-then-at-len+else-not-is_before,
  else-at-len-via-else-at-len,
}

pub returns-then-not-is_before : goal.returns-then-not-is_before
returns-then-not-is_before c =
    let xs = c.args.list.now.items in
    let sized = ap length c.as_slice.ensures.value in
    let place = rw c.as_slice.ensures.value at c.place_of_link-at.ensures in
    record {
      put = sym (link_there c.args.link xs c.place_of_link-at.result place c.index.result.now
          (omega (arith, c.if-at-len.true, c.len.ensures, c.as_slice.ensures.len, sized))
          c.index.ensures
          (sym c.is_before.ensures ∙ c.if-not-is_before.true));
      ascend = c.requires;
    }

pub returns : goal.returns
returns c =
    let xs = c.args.list.now.items in
    let sized = ap length c.as_slice.ensures.value in
    let x = c.args.link in
    let at = c.place_of_link-at.result in
    let place = rw c.as_slice.ensures.value at c.place_of_link-at.ensures in
    let put = c.in_ok-insert.ensures.items ∙ sym (link_new x xs at place
    (λ l. elim c.else-at-len.branch [
      | else-at-len-via-then-at-len+else-not-is_before w ↦ link_behind x xs at place
          w.index.result.now l w.index.ensures
          (sym w.is_before.ensures ∙ w.if-not-is_before.false)
      | else-at-len-via-else-at-len w ↦
          absurd (omega (arith, w.if-at-len.false, c.len.ensures, c.as_slice.ensures.len, sized, l))
    ])) in
    record {
      put = put;
      ascend = ap (ascends_by is_before_link) put
          ∙ ascends_inserted is_before_link x xs c.requires;
    }
