-- Links that payloads can break.
use Rattle.std.specs.Prelude.{◌^◌, ◌&&◌, Bool, length, nat_lt}
use Rattle.std.specs.List.{list_all}
use Rattle.dx_state.specs.Configured.{Guarding}

-- few guarded links, of instances that have numbers of 32 bits
abbrev pub are_few : Guarding → Bool
are_few x =
    nat_lt (length x.guarded) (2 ^ 32) && list_all (λ l. nat_lt l.instance (2 ^ 32)) x.guarded
