use Rattle.std.proofs.Common.{◌≡◌, take, false}
use Rattle.std.specs.List.{list_any}
use Rattle.ev_check.specs.Declarations.{is_undeclared_engine}
use Rattle.ev_check.proofs.undeclared.any_undeclared_engine.Given as goal

abbrev pub invariant-loop-attr : goal.invariant-loop-attr
invariant-loop-attr l =
    list_any (is_undeclared_engine l.engines l.names) (take l.attr-index l.attrs) ≡ false
