-- One more item was read.
use Rattle.std.proofs.Common.{ℕ, List, [], ◌∷◌, ◌++◌, ap, ◌∙◌}
use Rattle.fm_bytes.specs.Reading.{long_text_from}
use Rattle.fm_bytes.proofs.ReadLoops.{items_more}
use Rattle.fm_nv.proofs.reading.read_each_text.Goals as goal

pub items-preserved : goal.items-preserved
items-preserved c =
    let pushed = c.in_ok-push.ensures.items
    ∙ ap (λ (t : List ℕ). c.items.items.items ++ t ∷ []) c.in_ok-new.ensures in
    items_more (long_text_from 65536) _ _ _ _ _ _ _ _ c.items-test.true c.items.invariant
    c.in_ok-text.ensures.ok pushed
