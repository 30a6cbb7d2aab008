-- Names are those of the parts where they are as many and the same pair by pair.
use Rattle.std.proofs.Common.{ℕ, List, sym, ap, ◌∙◌, map, Bor, zip}
use Rattle.std.specs.List.{list_all}
use Rattle.std.specs.Cmp.Lexicographic.{pointwise}
use Rattle.ev_check.specs.Declarations.{name_of}
use Rattle.ev_words.specs.Iterators.{same_name}
use Rattle.ev_events.proofs.Grouped.{names_paired}
use Rattle.ev_events.proofs.sheets.has_names.Goals as goal

pub returns-then-len-parts : goal.returns-then-len-parts
returns-then-len-parts c =
    let long = sym c.len.ensures.value ∙ c.if-len-parts.true in
    c.are_names-paired.ensures
    ∙ ap (λ (ns : List (Bor (List ℕ))). list_all (λ p. same_name p.0.now p.1.name)
    (zip ns c.args.parts.now)) c.as_slice.ensures.value
    ∙ sym (names_paired c.names-names.result.items c.args.parts.now long)
    ∙ ap (λ (names : List (List ℕ)). pointwise same_name names (map name_of c.args.parts.now))
    c.names-names.ensures
