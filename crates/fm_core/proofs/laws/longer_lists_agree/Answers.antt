use Rattle.std.proofs.lemmas.List.Elements.{recursion_from_All}
use Rattle.fm_core.specs.Configurations.{NamesKnown}
use Rattle.fm_core.proofs.Configurations.{alike}
use Rattle.fm_core.proofs.laws.longer_lists_agree.Goals as goal

pub returns : goal.returns
returns c = λ m longer s n es more known names.
    alike m longer s n es more known (recursion_from_All (NamesKnown m.known) es names)
