-- Names are the others where they are as many and the same pair by pair.
use Rattle.std.proofs.Common.{ℕ, List, sym, ap, ◌∙◌, Bor, zip}
use Rattle.std.specs.List.{list_all}
use Rattle.std.specs.Cmp.Lexicographic.{pointwise}
use Rattle.ev_words.specs.Iterators.{same_name}
use Rattle.ev_events.proofs.Keeping.{names_zipped}
use Rattle.ev_events.proofs.placed.has_names.Goals as goal

pub returns-then-len-names : goal.returns-then-len-names
returns-then-len-names c =
    let long = sym c.len.ensures.value ∙ c.if-len-names.true in
    c.are_names-paired.ensures
    ∙ ap (λ (ns : List (Bor (List ℕ))). list_all (λ p. same_name p.0.now p.1)
    (zip ns c.args.names.now)) c.as_slice.ensures.value
    ∙ sym (names_zipped c.names-own.result.items c.args.names.now long)
    ∙ ap (λ (names : List (List ℕ)). pointwise same_name names c.args.names.now)
    c.names-own.ensures
