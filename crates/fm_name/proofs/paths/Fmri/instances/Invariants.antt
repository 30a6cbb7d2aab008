use Rattle.std.proofs.Common.{◌≡◌, ◌≤◌, ◌+◌, ◌++◌, length, map, IsTrue}
use Rattle.std.specs.Prelude.{option_map}
use Rattle.std.specs.List.{list_all}
use Rattle.fm_name.specs.Cut.{texts_left}
use Rattle.fm_name.specs.Path.{is_part, part_of, instances_of}
use Rattle.fm_name.proofs.paths.Fmri.instances.Given as goal

abbrev pub invariant-parts : goal.invariant-parts
invariant-parts l =
    let texts = texts_left (option_map (λ s. s.now) l.left) in
    record {
      parts : IsTrue (list_all is_part texts);
      room : length l.found.items + length texts ≤ 16;
      same : l.found.items ++ map (λ p. p.instance) (map part_of texts) ≡ instances_of l.fn.self;
    }

abbrev pub decreases-parts : goal.decreases-parts
decreases-parts l = length (texts_left (option_map (λ s. s.now) l.left))
