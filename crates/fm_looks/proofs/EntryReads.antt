-- A reader of entries with one entry more, or refusing it.
use Rattle.std.proofs.Common.{◌≡◌, ℕ, ◌-◌, ◌<◌, ◌≤◌, List, [], ◌∷◌, ◌++◌, length}
use Rattle.std.proofs.Common.{drop, Option, Some, sym, ◌∙◌, ap, subst, arith}
use Rattle.std.proofs.Common.{length-append}
use Rattle.std.specs.Prelude.{IfSome}
use Rattle.std.proofs.lemmas.List.Elements.{All-push}
use Rattle.fm_entry.specs.Entries.{IsSpelled, entry_bytes}
use Rattle.fm_entry.specs.declared.entry.Entry.{Entry}
use Rattle.fm_entry.specs.declared.entry.Entry.TheVariants.{Reload}
use Rattle.fm_logs.specs.ReadsAsBook.{SpellsEntry}
use Rattle.fm_logs.specs.StoreBook.{force_along, ReloadsRise}
use Rattle.fm_logs.proofs.Logged.{each_push}
use Rattle.fm_looks.specs.Entries.{EntryReaderOf, IsEntryReader, HasEntries}
use Rattle.fm_looks.specs.Opening.{FitEntries, Good}
use Rattle.fm_looks.proofs.Reloads.{behind_push, force_push, older_push, rise_last, rise_push}
use Rattle.fm_logs.proofs.SpelledOnce.{entry_once}
use Rattle.fm_looks.proofs.Spelled.{none_fits}

same_entry : (o : Option Entry) (e x : Entry) → o ≡ Some e → o ≡ Some x → e ≡ x
same_entry o e x one other = cc

-- the number in force stays one of so many
force_below : (known n : ℕ) (e : Entry) → n < known → ReloadsRise known n (e ∷ [])
    → force_along n (e ∷ []) < known
force_below known n (Reload conf moment) low rise = rise.1
force_below known n e low rise = low

-- what was read spells the entry
pub entry_found : (o : Option Entry) (e : Entry) (payload : List ℕ) → o ≡ Some e
    → IfSome o (λ x. IsSpelled x × (payload ≡ entry_bytes x)) → SpellsEntry payload e
entry_found o e payload is found =
    subst (λ (p : Option Entry). IfSome p (λ x. IsSpelled x × (payload ≡ entry_bytes x))) is found

-- the number in force after it, where it is lawful
pub force_found : (o : Option ℕ) (known force next : ℕ) (e : Entry) → o ≡ Some next
    → IfSome o (λ n. ReloadsRise known force (e ∷ []) × (n ≡ force_along force (e ∷ [])))
    → ReloadsRise known force (e ∷ []) × (next ≡ force_along force (e ∷ []))
force_found o known force next e is found =
    subst (λ (p : Option ℕ). IfSome p (λ n. ReloadsRise known force (e ∷ [])
    × (n ≡ force_along force (e ∷ [])))) is found

-- an entry from before the base
pub entry_older : (r : EntryReaderOf) (payloads : List (List ℕ)) (payload : List ℕ) (e : Entry)
    → 0 < r.left → SpellsEntry payload e → HasEntries r payloads
    → HasEntries (record r { left = r.left - 1 }) (payloads ++ payload ∷ [])
entry_older r payloads payload e some spells h =
    let early : length h.all < r.older = omega (arith, h.left_is, some) in
    let same = older_push r.older h.all e early in
    record {
      all = h.all ++ e ∷ [];
      spelled = each_push SpellsEntry payloads h.all payload e h.spelled spells;
      fit = subst (ReloadsRise r.known r.at_base) (sym same) h.fit;
      left_is = omega (arith, h.left_is, length-append h.all (e ∷ []));
      entries_are = h.entries_are ∙ sym same;
    }

-- one from the base on
pub entry_kept : (r : EntryReaderOf) (payloads : List (List ℕ)) (payload : List ℕ) (e : Entry)
    (next : ℕ) → r.left ≡ 0 → SpellsEntry payload e → r.force ≡ force_along r.at_base r.entries
    → ReloadsRise r.known r.force (e ∷ []) → HasEntries r payloads
    → HasEntries (record r { force = next; entries = r.entries ++ e ∷ [] })
    (payloads ++ payload ∷ [])
entry_kept r payloads payload e next none spells force rise h =
    let late : r.older ≤ length h.all = omega (arith, h.left_is, none) in
    let same = behind_push r.older h.all e late in
    let now : ReloadsRise r.known (force_along r.at_base (drop r.older h.all)) (e ∷ []) =
    subst (λ (n : ℕ). ReloadsRise r.known n (e ∷ []))
    (force ∙ ap (force_along r.at_base) h.entries_are) rise in
    record {
      all = h.all ++ e ∷ [];
      spelled = each_push SpellsEntry payloads h.all payload e h.spelled spells;
      fit = subst (ReloadsRise r.known r.at_base) (sym same)
          (rise_push r.known r.at_base (drop r.older h.all) e h.fit now);
      left_is = omega (arith, h.left_is, none, length-append h.all (e ∷ []));
      entries_are = ap (λ (l : List Entry). l ++ e ∷ []) h.entries_are ∙ sym same;
    }

-- what holds of the reader then
pub kept_sound : (r : EntryReaderOf) (e : Entry) (next : ℕ) → IsSpelled e
    → ReloadsRise r.known r.force (e ∷ []) → next ≡ force_along r.force (e ∷ [])
    → IsEntryReader r
    → IsEntryReader (record r { force = next; entries = r.entries ++ e ∷ [] })
kept_sound r e next spelled rise is sound = record {
  spelled = All-push IsSpelled r.entries e sound.spelled spelled;
  force_is = is ∙ ap (λ (n : ℕ). force_along n (e ∷ [])) sound.force_is
      ∙ sym (force_push r.at_base r.entries e);
  force_known = omega (arith, is, force_below r.known r.force e sound.force_known rise);
}

-- a payload that spells no entry
pub entry_none : (r : EntryReaderOf) (payloads : List (List ℕ)) (payload : List ℕ)
    → ((x : Entry) → SpellsEntry payload x → ⊥) → HasEntries r payloads
    → Good SpellsEntry (FitEntries r.known r.at_base r.older) (payloads ++ payload ∷ []) → ⊥
entry_none r payloads payload none h good =
    none_fits SpellsEntry entry_once (FitEntries r.known r.at_base r.older) payloads payload h.all
    h.spelled (λ x is fit. none x is) good

-- a Reload that isn't lawful
pub entry_unlawful : (r : EntryReaderOf) (payloads : List (List ℕ)) (payload : List ℕ) (e : Entry)
    (o : Option Entry) → r.left ≡ 0 → o ≡ Some e
    → ((x : Entry) → SpellsEntry payload x → o ≡ Some x)
    → r.force ≡ force_along r.at_base r.entries → (ReloadsRise r.known r.force (e ∷ []) → ⊥)
    → HasEntries r payloads
    → Good SpellsEntry (FitEntries r.known r.at_base r.older) (payloads ++ payload ∷ []) → ⊥
entry_unlawful r payloads payload e o none one read force unlawful h good =
    let late : r.older ≤ length h.all = omega (arith, h.left_is, none) in
    none_fits SpellsEntry entry_once (FitEntries r.known r.at_base r.older) payloads payload h.all
    h.spelled
    (λ x is fit.
    let same : e ≡ x = same_entry o e x one (read x is) in
    let rise : ReloadsRise r.known (force_along r.at_base (drop r.older h.all)) (x ∷ []) =
    rise_last r.known r.at_base (drop r.older h.all) x
    (subst (ReloadsRise r.known r.at_base) (behind_push r.older h.all x late) fit) in
    unlawful
    (subst (λ (y : Entry). ReloadsRise r.known r.force (y ∷ [])) (sym same)
    (subst (λ (n : ℕ). ReloadsRise r.known n (x ∷ []))
    (sym (force ∙ ap (force_along r.at_base) h.entries_are)) rise)))
    good
