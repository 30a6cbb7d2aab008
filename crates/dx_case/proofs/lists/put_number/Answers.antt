use Rattle.std.proofs.Common.{ltb, length, sym, ap, ◌∙◌, arith}
use Rattle.std.proofs.lemmas.List.{get_or_default}
use Rattle.ev_incidence.specs.Sets.{ascends}
use Rattle.dx_case.proofs.Inserting.{number_there, number_new, ascends_inserted}
use Rattle.dx_case.proofs.lists.put_number.Goals as goal
use Rattle.dx_case.proofs.lists.put_number.Goals.{
  else-at-len-via-then-at-len+else-index-number,
  else-at-len-via-else-at-len,
}

pub returns-then-index-number : goal.returns-then-index-number
returns-then-index-number c =
    let xs = c.args.list.now.items in
    let sized = ap length c.as_slice.ensures.value in
    let place = rw c.as_slice.ensures.value at c.place_of_number-at.ensures in
    record {
      put = sym (number_there c.args.number xs c.place_of_number-at.result place
          c.index.result.now
          (omega (arith, c.if-at-len.true, c.len.ensures, c.as_slice.ensures.len, sized))
          c.index.ensures c.if-index-number.true);
      ascend = c.requires;
    }

pub returns : goal.returns
returns c =
    let xs = c.args.list.now.items in
    let sized = ap length c.as_slice.ensures.value in
    let x = c.args.number in
    let at = c.place_of_number-at.result in
    let place = rw c.as_slice.ensures.value at c.place_of_number-at.ensures in
    let put = c.in_ok-insert.ensures.items ∙ sym (number_new x xs at place
    (λ l d same. elim c.else-at-len.branch [
      | else-at-len-via-then-at-len+else-index-number w ↦ w.if-index-number.false
          (w.index.ensures ∙ (get_or_default xs at w.index.result.now d l ∙ same))
      | else-at-len-via-else-at-len w ↦
          absurd (omega (arith, w.if-at-len.false, c.len.ensures, c.as_slice.ensures.len, sized, l))
    ])) in
    record {
      put = put;
      ascend = ap ascends put ∙ ascends_inserted ltb x xs c.requires;
    }
