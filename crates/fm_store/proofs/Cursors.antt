-- Hands that are at their modules' cursors.
use Rattle.std.proofs.Common.{◌≡◌, ◌∙◌, List, ◌++◌, length, slice_get, ap, sym, arith}
use Rattle.std.proofs.Common.{length-append}
use Rattle.std.proofs.lemmas.List.{length-map}
use Rattle.fm_core.specs.Hands.{HandOf}
use Rattle.fm_core.specs.declared.module.Module.{Ghosts as ModuleGhosts}
use Rattle.fm_entry.specs.declared.entry.Entry.{Entry}
use Rattle.fm_logs.specs.LogsOf.{LogsOf}
use Rattle.fm_store.specs.Adopting.{IsAdopted}
use Rattle.fm_store.specs.Cursors.{AreAtCursors}
use Rattle.fm_store.specs.Opened.{OpenedOf}
use Rattle.fm_store.specs.StoreOf.{StoreOf}

module _ {D M : Type 0} (m : ModuleGhosts M) where
  -- the hands of modules that were adopted
  pub adopted_cursors : (o : OpenedOf D) (kept : List M) (store : StoreOf D M)
      (hands : List (HandOf M)) → IsAdopted m o kept store hands
      → AreAtCursors m store.logs hands
  adopted_cursors o kept store hands is = record {
    as_many = sym (length-map hands (λ (h : HandOf M). h.cursor)) ∙ ap length is.hands_are;
    each = is.each;
  }

  -- hands that were at their cursors, once entries were taken
  pub longer_cursors : (old new : LogsOf D) (es : List Entry) (hands : List (HandOf M))
      → new.cursors ≡ old.cursors → new.base ≡ old.base → new.entries ≡ old.entries ++ es
      → AreAtCursors m old hands → AreAtCursors m new hands
  longer_cursors old new es hands cursors base entries at = record {
    as_many = at.as_many ∙ ap length (sym cursors);
    each = λ i h got. let one = at.each i h got in record {
      number_is = one.number_is;
      own_is = one.own_is;
      cursor_is = ap (λ cs. slice_get cs i) cursors ∙ one.cursor_is;
      from_base = omega (arith, one.from_base, base);
      to_end = omega (arith, one.to_end, base, ap length entries, length-append old.entries es);
    };
  }
