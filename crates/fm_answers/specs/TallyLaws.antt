-- The laws of a tally that takes entries.
use Rattle.std.specs.Prelude.{◌≡◌, ◌+◌, List, [], ◌++◌, length, Option, None}
use Rattle.std.proofs.Common.{refl, sym, ◌∙◌, ap, arith, append_assoc, length-append}
use Rattle.fm_entry.specs.declared.entry.Entry.{Entry}
use Rattle.fm_answers.specs.declared.stops.Stop.{Stop}
use Rattle.fm_answers.specs.declared.tally.Tally.{Tally}
use Rattle.fm_answers.specs.Tallied.{Tallied, sum_with, entry_count}

pub tallied_none : (a : Tally) → Tallied a a [] None
tallied_none a = record { same = λ more. refl; refused = tt }

pub tallied_on : (a b c : Tally) (es fs : List Entry) (last : Option (Stop × Entry))
    → Tallied a b es None → Tallied b c fs last → Tallied a c (es ++ fs) last
tallied_on a b c es fs last first then = record {
  same = λ more. then.same more ∙ first.same (fs ++ more)
      ∙ ap (sum_with a) (sym (append_assoc es fs more));
  refused = then.refused;
}

pub tallied_numbers : (a b : Tally) (es : List Entry) → Tallied a b es None
    → entry_count b ≡ entry_count a + length es
tallied_numbers a b es tallied =
    let counts : b.core.base + length (b.core.entries ++ [])
    ≡ a.core.base + length (a.core.entries ++ (es ++ [])) =
    ap (λ s. s.entries) (tallied.same []) in
    let now : length (b.core.entries ++ []) ≡ length b.core.entries + 0 =
    length-append b.core.entries [] in
    let before : length (a.core.entries ++ (es ++ [])) ≡ length a.core.entries + length (es ++ []) =
    length-append a.core.entries (es ++ []) in
    let more : length (es ++ []) ≡ length es + 0 = length-append es [] in
    omega (arith, counts, now, before, more)
