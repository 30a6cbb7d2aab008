-- The texts so far are short.
use Rattle.std.proofs.Common.{◌≡◌, length, nat_le, drop}
use Rattle.std.specs.List.{list_all}
use Rattle.fm_nv.specs.Spelled.{is_text}
use Rattle.fm_nv.proofs.push.are_short.Given as goal

abbrev pub invariant-items : goal.invariant-items
invariant-items l =
    (list_all (λ t. nat_le (length t) 65536) (drop l.text-index l.items)
    ≡ list_all (λ t. nat_le (length t) 65536) l.items)
    × (list_all is_text (drop l.text-index l.items) ≡ list_all is_text l.items)
