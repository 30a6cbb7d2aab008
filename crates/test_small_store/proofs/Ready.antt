-- Hands that stay at their modules' cursors.
use Rattle.std.proofs.Common.{◌≡◌, ℕ, List, [], ◌∷◌, length, slice_get}
use Rattle.std.proofs.Common.{◌==◌, sym, ◌∙◌, ap, arith}
use Rattle.fm_core.proofs.Tests.{true_eq}
use Rattle.fm_core.specs.Hands.{HandOf}
use Rattle.fm_core.specs.declared.module.Module.{Ghosts as ModuleGhosts}
use Rattle.fm_core.proofs.Lists.{list_all_get}
use Rattle.fm_entry.specs.declared.entry.Entry.{Entry}
use Rattle.fm_logs.specs.LogsOf.{LogsOf, TakesEntry}
use Rattle.fm_outer.specs.declared.disk.Disk.{Ghosts}
use Rattle.fm_store.proofs.Cursors.{longer_cursors}
use Rattle.fm_store.specs.Cursors.{AreAtCursors}
use Rattle.fm_store.specs.Rotating.{Rotates}
use Rattle.fm_store.specs.StoreCalls.{AreAtEnd, Checkpoints, next_entry}
use Rattle.fm_store.specs.StoreOf.{StoreOf}

module _ {D M : Type 0} (m : ModuleGhosts M) where
  -- after an entry more
  pub taken_cursors : (g : Ghosts D) (old new : LogsOf D) (e : Entry) (n : ℕ)
      (hands : List (HandOf M)) → TakesEntry g old new e n → AreAtCursors m old hands
      → AreAtCursors m new hands
  taken_cursors g old new e n hands takes at =
      longer_cursors m old new (e ∷ []) hands (ap (λ (l : LogsOf D). l.cursors) takes.logs_are)
      (ap (λ (l : LogsOf D). l.base) takes.logs_are)
      (ap (λ (l : LogsOf D). l.entries) takes.logs_are) at

  -- after the base has moved to the end
  based_cursors : (old new : LogsOf D) (hands : List (HandOf M))
      → new.cursors ≡ old.cursors → new.base ≡ next_entry old → new.entries ≡ [] → AreAtEnd old
      → AreAtCursors m old hands → AreAtCursors m new hands
  based_cursors old new hands cursors base entries end at = record {
    as_many = at.as_many ∙ ap (λ (l : List ℕ). length l) (sym cursors);
    each = λ i h there. let of = at.each i h there in
        let done : h.cursor ≡ next_entry old =
        true_eq h.cursor (next_entry old)
        (list_all_get (λ c. c == next_entry old) old.cursors i h.cursor end of.cursor_is) in
        record {
          number_is = of.number_is;
          own_is = of.own_is;
          cursor_is = ap (λ (l : List ℕ). slice_get l i) cursors ∙ of.cursor_is;
          from_base = omega (arith, base, done);
          to_end = omega (arith, base, done);
        };
  }

  -- after a checkpoint
  pub checkpointed_cursors : (g : Ghosts D) (old new : StoreOf D M) (states : List (List ℕ))
      (hands : List (HandOf M)) → Checkpoints g old new states → AreAtEnd old.logs
      → AreAtCursors m old.logs hands → AreAtCursors m new.logs hands
  checkpointed_cursors g old new states hands does end at =
      based_cursors old.logs new.logs hands
      (ap (λ (l : LogsOf D). l.cursors) does.logs_are)
      (ap (λ (l : LogsOf D). l.base) does.logs_are)
      (ap (λ (l : LogsOf D). l.entries) does.logs_are) end at

  -- after a rotation
  pub rotated_cursors : (g : Ghosts D) (old new : StoreOf D M) (states : List (List ℕ))
      (number : ℕ) (hands : List (HandOf M)) → Rotates g old new states number → AreAtEnd old.logs
      → AreAtCursors m old.logs hands → AreAtCursors m new.logs hands
  rotated_cursors g old new states number hands does end at =
      based_cursors old.logs new.logs hands
      (ap (λ (l : LogsOf D). l.cursors) does.logs_are)
      (ap (λ (l : LogsOf D). l.base) does.logs_are ∙ does.number_is)
      (ap (λ (l : LogsOf D). l.entries) does.logs_are) end at
