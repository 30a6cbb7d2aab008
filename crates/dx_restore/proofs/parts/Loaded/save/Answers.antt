use Rattle.std.proofs.Common.{refl, sym, subst}
use Rattle.std.specs.List.{All}
use Rattle.dx_restore.specs.Parts.{loaded_state}
use Rattle.dx_restore.specs.Saving.{IsShortCase}
use Rattle.dx_restore.proofs.Short.{cases_short_in}
use Rattle.dx_restore.proofs.parts.Loaded.save.Goals as goal

pub kept_cases-requires : goal.kept_cases-requires
kept_cases-requires c =
    subst (All IsShortCase) (sym c.as_slice.ensures.value)
    (cases_short_in (loaded_state c.args.self.now) c.args.self.now.cases.items refl c.requires)
