-- A text that is put together of the parts of a summary is one.
use Rattle.std.proofs.Common.{◌≡◌, ◌++◌, ℕ, List, length, subst, ap, ◌∙◌}
use Rattle.std.specs.Prelude.{flat_map}
use Rattle.std.specs.List.Sorted.{IsPermutation}
use Rattle.std.proofs.lemmas.List.{append_assoc}
use Rattle.fm_entry.specs.declared.list_event.ListEvent.{ListEvent}
use Rattle.fm_status.specs.Wanted.{IsWantedOf}
use Rattle.fm_adm.specs.declared.summary.OpenReports.{OpenReports}
use Rattle.fm_adm.specs.declared.summary.CaseLine.{CaseLine}
use Rattle.fm_adm.specs.Summary.{standing_lines, counts_text, case_line, retire_line, ByCase}
use Rattle.fm_adm.specs.Summary.{IsSummary}

-- three parts in turn
in_turn : (a b c one two text : List ℕ) → one ≡ a → two ≡ one ++ b → text ≡ two ++ c
    → text ≡ a ++ (b ++ c)
in_turn a b c one two text e f g =
    g ∙ (ap (λ t. t ++ c) (f ∙ ap (λ t. t ++ b) e) ∙ append_assoc a b c)

pub summed : (entries : ℕ) (cases : List OpenReports) (given rows : List ListEvent)
    (lines : List CaseLine) (wanted : List (List ℕ)) (old new one two text : List ℕ)
    → given ≡ rows → IsPermutation (standing_lines cases given) lines → ByCase lines
    → IsWantedOf rows wanted
    → one ≡ counts_text entries (length cases) rows
    → two ≡ one ++ flat_map case_line lines
    → text ≡ two ++ flat_map retire_line wanted
    → new ≡ old ++ text
    → (x : List ℕ) × IsSummary entries cases rows x × (new ≡ old ++ x)
summed entries cases given rows lines wanted old new one two text e all order wants p q r put = (
  text,
  record {
    lines = lines;
    wanted = wanted;
    all = subst (λ s. IsPermutation (standing_lines cases s) lines) e all;
    order = order;
    wants = wants;
    reads = in_turn (counts_text entries (length cases) rows) (flat_map case_line lines)
        (flat_map retire_line wanted) one two text p q r;
  },
  put,
)
