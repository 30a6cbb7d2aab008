-- A book after works of its modules: what it keeps, and what it drains to.
use Rattle.std.proofs.Common.{◌≡◌, ℕ, ◌+◌, ◌-◌, ◌≤◌, List, [], ◌∷◌, ◌++◌, length, map, take}
use Rattle.std.proofs.Common.{Option, Some, None, refl, sym, ◌∙◌, ap, subst}
use Rattle.std.specs.List.{slice_get}
use Rattle.fm_entry.specs.declared.entry.Entry.{Entry}
use Rattle.fm_core.specs.Book.{Book, ModuleState, Work, IsLawful, run, worked, worked_at}
use Rattle.fm_core.specs.Book.{worked_on, accepts_of, with_entries}
use Rattle.fm_core.specs.Drained.{drained}
use Rattle.fm_core.specs.Folds.{state_along}
use Rattle.fm_core.specs.Hands.{Shown}
use Rattle.fm_core.specs.Seen.{Follows, FollowsAs}
use Rattle.fm_core.proofs.Runs.{run_drained}
use Rattle.fm_logs.specs.LogsBook.{DrainAlike}

-- the entries and the modules at the base are the same
pub record KeepsEntries (k w : Book) : Type 0 where
  pub base_same : w.base ≡ k.base
  pub entries_same : w.entries ≡ k.entries
  pub modules_same : w.modules ≡ k.modules

same_entries : (k : Book) → KeepsEntries k k
same_entries k = record { base_same = refl; entries_same = refl; modules_same = refl }

on_keeps : (k : Book) (i : ℕ) (p : ModuleState) (c : ℕ) (found : Option Entry)
    → KeepsEntries k (worked_on k i p c found)
on_keeps k i p c None = same_entries k
on_keeps k i p c (Some e) =
    record { base_same = refl; entries_same = refl; modules_same = refl }

at_keeps : (k : Book) (i : ℕ) (part : Option ModuleState) (cursor : Option ℕ)
    → KeepsEntries k (worked_at k i part cursor)
at_keeps k i (Some p) (Some c) = on_keeps k i p c (slice_get k.entries (c - k.base))
at_keeps k i (Some p) None = same_entries k
at_keeps k i None c = same_entries k

pub works_keep : (works : List ℕ) (k : Book) → KeepsEntries k (run k (map Work works))
works_keep [] k = same_entries k
works_keep (i ∷ works) k =
    let first : KeepsEntries k (worked k i) =
    at_keeps k i (slice_get k.modules i) (slice_get k.cursors i) in
    let rest : KeepsEntries (worked k i) (run (worked k i) (map Work works)) =
    works_keep works (worked k i) in
    record {
      base_same = rest.base_same ∙ first.base_same;
      entries_same = rest.entries_same ∙ first.entries_same;
      modules_same = rest.modules_same ∙ first.modules_same;
    }

-- a hand that follows the book does so after works
pub follows_kept : (k w : Book) (i : ℕ) (h : Shown) → KeepsEntries k w → FollowsAs k i h
    → FollowsAs w i h
follows_kept k w i h same follows p at =
    let f : Follows k i p h =
    follows p (sym (ap (λ (ms : List ModuleState). slice_get ms i) same.modules_same) ∙ at) in
    record {
      number_is = f.number_is;
      own_is = f.own_is;
      meaning_is = f.meaning_is;
      from_base = subst (λ (n : ℕ). n ≤ h.cursor) (sym same.base_same) f.from_base;
      to_end = subst (λ (n : ℕ). h.cursor ≤ n + length w.entries) (sym same.base_same)
          (subst (λ (es : List Entry). h.cursor ≤ k.base + length es) (sym same.entries_same)
          f.to_end);
      folds = f.folds
          ∙ ap (λ (n : ℕ). state_along p.meaning p.state n (take (h.cursor - n) k.entries))
          (sym same.base_same)
          ∙ ap (λ (es : List Entry).
          state_along p.meaning p.state w.base (take (h.cursor - w.base) es))
          (sym same.entries_same);
    }

-- works one after another
pub run_both : (one two : List ℕ) (k : Book)
    → run k (map Work (one ++ two)) ≡ run (run k (map Work one)) (map Work two)
run_both [] two k = refl
run_both (i ∷ one) two k = run_both one two (worked k i)

-- works accept nothing
accepts_none : (works : List ℕ) → accepts_of (map Work works) ≡ []
accepts_none [] = refl
accepts_none (i ∷ works) = accepts_none works

-- and so the book drains as before
pub works_alike : (works : List ℕ) (k : Book) → IsLawful k
    → DrainAlike (run k (map Work works)) k
works_alike works k lawful es = run_drained (map Work works) k es lawful
    ∙ ap (λ (more : List Entry). drained (with_entries k (more ++ es))) (accepts_none works)
