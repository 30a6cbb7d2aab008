-- The lists of a graph are short enough for their numbers.
use Rattle.std.proofs.Common.{◌<◌, ◌^◌, All, List, length, sym, subst}
use Rattle.ev_file.proofs.SpelledFiles.{short_instances, short_links}
use Rattle.ev_file.proofs.files.put_body.Goals as goal

pub put_counted-requires-3 : goal.put_counted-requires-3
put_counted-requires-3 c =
    let graph = c.args.made.now.graph in
    let same = sym c.instances.ensures.instances in
    record {
      few = subst (λ (is : List _). length is < 2 ^ 32) same
          (short_instances graph c.instances.ensures.graph);
      fit = subst (All (λ i. (length i.causes < 2 ^ 32) × (length i.effects < 2 ^ 32))) same
          (short_links graph c.instances.ensures.graph);
    }
