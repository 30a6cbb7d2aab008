-- The modules so far have the configuration in force.
use Rattle.std.proofs.Common.{◌≡◌, ◌<◌, ℕ, Some, slice_get}
use Rattle.std.specs.Option.{ForSome}
use Rattle.fm_core.specs.Meaning.{conf_of}
use Rattle.fm_retrace.specs.declared.retraced.Retraced.{Retraced}
use Rattle.fm_store.proofs.loading.are_in_force.Given as goal

abbrev pub invariant-modules : goal.invariant-modules
invariant-modules g l =
    (j : ℕ) (o : Retraced g.row.M.Denot) → j < l.own-index → slice_get l.modules j ≡ Some o
    → ForSome (conf_of (g.M.Module.meaning o.object) (g.M.Module.state o.object))
    (λ n. n ≡ l.in_force)
