-- A hand more.
use Rattle.std.proofs.Common.{rules, ◌∙◌, length, sym}
use Rattle.fm_retrace.proofs.Handed.{front, hands_next, cursors_next, counted_next}
use Rattle.fm_retrace.proofs.Handed.{numbers_next, first_number}
use Rattle.fm_retrace.proofs.hands.hands_of.Goals as goal

pub new-requires-after_bounds : goal.new-requires-after_bounds
new-requires-after_bounds g c κs within =
    let is = front c.modules.rest.items c.remove-object.result c.remove-object.new.self.items
    (search rules) c.remove-object.ensures.value c.remove-object.ensures.items in
    first_number c.args.base c.args.modules.items c.modules.rest.items
    c.remove-object.new.self.items c.remove-object.result is g.M.Module
    (length c.modules.hands.items) c.modules.invariant.numbered
    ∙ sym (c.len.ensures ∙ c.modules.hands.ok.0)

pub modules-preserved : goal.modules-preserved
modules-preserved g c =
    let is = front c.modules.rest.items c.remove-object.result c.remove-object.new.self.items
    (search rules) c.remove-object.ensures.value c.remove-object.ensures.items in
    record {
      hands_are = hands_next c.args.base c.args.modules.items c.modules.rest.items
          c.remove-object.new.self.items c.remove-object.result is c.modules.hands.items
          c.push.new.self.items c.new.result c.len.result c.max-cursor.result
          c.in_ok-push.ensures.items c.new.ensures (c.len.ensures ∙ c.modules.hands.ok.0)
          (search rules) c.modules.invariant.hands_are;
      cursors_are = cursors_next c.args.base c.args.modules.items c.modules.rest.items
          c.remove-object.new.self.items c.remove-object.result is c.modules.cursors.items
          c.push-in-modules.new.self.items c.max-cursor.result c.in_ok-push-2.ensures.items
          (search rules) c.modules.invariant.cursors_are;
      counted = counted_next c.args.base c.args.modules.items c.modules.rest.items
          c.remove-object.new.self.items c.remove-object.result is c.modules.hands.items
          c.push.new.self.items c.new.result (length c.args.modules.items)
          c.in_ok-push.ensures.items c.modules.invariant.counted;
      numbered = numbers_next c.args.base c.args.modules.items c.modules.rest.items
          c.remove-object.new.self.items c.remove-object.result is g.M.Module
          c.modules.hands.items c.push.new.self.items c.new.result c.in_ok-push.ensures.items
          c.modules.invariant.numbered;
    }
