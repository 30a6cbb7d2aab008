use Rattle.std.proofs.Common.{ℕ, List, ◌<◌, refl, sym, subst, ◌∙◌, ap, length, filter_map}
use Rattle.std.proofs.Common.{slice_get, slice_index}
use Rattle.std.proofs.lemmas.Option.{slice_get_read}
use Rattle.ev_check.proofs.cycles.cycle_fault.Goals as goal

pub returns : goal.returns
returns c =
    let numbers = c.args.numbers.now in
    let at = slice_index numbers 0 in
    let places = c.in_ok-places.places.items in
    let P : List ℕ → Type 0 = λ ps. at < length ps in (
      c.in_ok-named.field-0,
      record {
        numbers = numbers;
        cycle = c.requires.cycle;
        named = c.in_ok-named.ensures
            ∙ ap (λ e. filter_map (slice_get e) numbers) c.requires.events;
        begins = ap (λ ps. slice_get ps at) (sym c.in_ok-places.ensures)
            ∙ slice_get_read places (length places) at c.index-place.result.now refl
            (subst P (sym c.in_ok-places.ensures) c.requires.below) c.index-place.ensures;
      },
      refl,
    )
