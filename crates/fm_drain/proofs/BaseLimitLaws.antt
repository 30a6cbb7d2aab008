-- The limits of a drain and of the checkpoint that follows it, from those of the store.
use Rattle.std.proofs.Common.{◌≡◌, inl, inr, ℕ, ◌+◌, ◌<◌, ◌^◌, Bool, List, length, map, Some}
use Rattle.std.proofs.Common.{Result, Ok, Err, IfErr, sym, ◌∙◌, ap, subst, arith}
use Rattle.std.proofs.lemmas.List.{length-map}
use Rattle.std.proofs.lemmas.Option.{slice_get_within}
use Rattle.fm_outer.specs.declared.disk.Disk.{Ghosts}
use Rattle.fm_core.specs.Book.{Book, ModuleState, next_number, greatest_from}
use Rattle.fm_core.specs.Drained.{ended}
use Rattle.fm_core.specs.Folds.{state_along}
use Rattle.fm_core.specs.Hands.{HandOf, shown}
use Rattle.fm_core.specs.Meaning.{Meaning, State, saved_of}
use Rattle.fm_core.specs.Seen.{Follows}
use Rattle.fm_core.specs.declared.module.Module.{Ghosts as ModuleGhosts}
use Rattle.fm_core.proofs.Lists.{map_get, map_got, same_list}
use Rattle.fm_entry.specs.declared.entry.Entry.{Entry}
use Rattle.fm_journal.specs.declared.fault.FullKind.{FullKind}
use Rattle.fm_logs.specs.StoreBook.{StoreBook, force_along}
use Rattle.fm_logs.specs.declared.fault.StoreFault.{StoreFault}
use Rattle.fm_logs.specs.declared.fault.StoreFault.TheVariants.{Disk, Full, Closed, NoMemory}
use Rattle.fm_logs.specs.declared.fault.StoreFault.TheVariants.{Damaged, Exists}
use Rattle.fm_saved.specs.Checkpoints.{checkpoint_bytes}
use Rattle.fm_saved.specs.declared.checkpoint.Checkpoint.{Checkpoint}
use Rattle.fm_store.specs.StoreCalls.{saves_of, HandsAreDone, CheckpointDoes, NextRefused}
use Rattle.fm_store.specs.StoreCalls.{checkpoint_at}
use Rattle.fm_store.specs.StoreOf.{StoreOf, StoreStandsFor, newest_sequence}
use Rattle.fm_drain.specs.DrainCalls.{OnlyCommitted, StopsAtLimit}
use Rattle.fm_drain.proofs.StepLaws.{there}
use Rattle.fm_drain.proofs.Works.{KeepsEntries}
use Rattle.fm_drain.specs.BaseLimits.{BaseLimit, CheckpointIsFull, drained_checkpoint}
use Rattle.fm_drain.specs.BaseLimits.{drained_saves, figures_of}
use Rattle.fm_drain.proofs.BasedBooks.{state_there}

-- works leave what the modules save at the end
saves_kept : (k w : Book) → KeepsEntries k w → drained_saves w ≡ drained_saves k
saves_kept k w keeps =
    ap (λ (n : ℕ). map (λ p. saved_of p.meaning (state_along p.meaning p.state n w.entries))
    w.modules) keeps.base_same
    ∙ ap (λ (es : List Entry).
    map (λ p. saved_of p.meaning (state_along p.meaning p.state k.base es)) w.modules)
    keeps.entries_same
    ∙ ap (λ (ps : List ModuleState).
    map (λ p. saved_of p.meaning (state_along p.meaning p.state k.base k.entries)) ps)
    keeps.modules_same

-- a checkpoint of these
abbrev checkpoint_of : Bool → ℕ → ℕ → ℕ → List (List ℕ) → Checkpoint
checkpoint_of second base moment conf states = record {
  second = second;
  base = base;
  moment = moment;
  conf = conf;
  states = states;
}

module _ {D M : Type 0} (g : Ghosts D) (m : ModuleGhosts M) where
  -- a hand that is done saves what its module does at the end
  save_same : (k : Book) (i : ℕ) (p : ModuleState) (h : HandOf M)
      → Follows k i p (shown m h) → h.cursor ≡ next_number k
      → saved_of (m.meaning h.object) (m.state h.object)
      ≡ saved_of p.meaning (ended k p).state
  save_same k i p h follows at =
      ap (λ (x : Meaning). saved_of x (m.state h.object)) follows.meaning_is
      ∙ ap (λ (s : State). saved_of p.meaning s)
      (follows.folds ∙ state_there k p h.cursor (omega (arith, at)))

  saves_done : (k : Book) (hands : List (HandOf M)) → HandsAreDone m k hands
      → saves_of m hands ≡ drained_saves k
  saves_done k hands done =
      same_list (saves_of m hands) (drained_saves k)
      (length-map hands (λ (h : HandOf M). saved_of (m.meaning h.object) (m.state h.object))
      ∙ (done.as_many
      ∙ sym (length-map k.modules (λ p. saved_of p.meaning (ended k p).state))))
      (λ i saved got.
      let from = map_got (λ (h : HandOf M). saved_of (m.meaning h.object) (m.state h.object)) hands
      i saved got in
      let inside : i < length hands = slice_get_within hands i from.0 from.1 in
      let p = there k.modules i (omega (arith, inside, done.as_many)) in
      map_get (λ q. saved_of q.meaning (ended k q).state) k.modules i p.0 p.1
      ∙ ap Some (sym (save_same k i p.0 from.0 (done.follow i from.0 from.1 p.0 p.1)
      (done.at_end i from.0 from.1)) ∙ from.2))

  -- the checkpoint that a drained store makes is that of the book of before
  pub checkpoint_same : (fresh : List ModuleState) (old mid : StoreOf D M) (k : StoreBook)
      (w : Book) (now : List (HandOf M)) (second : Bool) → StoreStandsFor g fresh old k
      → OnlyCommitted old mid → KeepsEntries k.book w → HandsAreDone m w now
      → checkpoint_at mid second (saves_of m now) ≡ drained_checkpoint second k
  checkpoint_same fresh old mid k w now second st only keeps done =
      let base : mid.logs.base ≡ k.book.base =
      ap (λ (s : StoreOf D M). s.logs.base) only ∙ st.base_is in
      let entries : mid.logs.entries ≡ k.book.entries =
      ap (λ (s : StoreOf D M). s.logs.entries) only ∙ st.entries_are in
      let moment : mid.base.moment ≡ k.book.moment =
      ap (λ (s : StoreOf D M). s.base.moment) only ∙ st.moment_is in
      let force : mid.base.in_force ≡ k.in_force =
      ap (λ (s : StoreOf D M). s.base.in_force) only ∙ st.force_is in
      let saves : saves_of m now ≡ drained_saves k.book =
      saves_done w now done ∙ saves_kept k.book w keeps in
      ap (λ (n : ℕ). checkpoint_of second (n + length mid.logs.entries)
      (greatest_from mid.base.moment mid.logs.entries)
      (force_along mid.base.in_force mid.logs.entries) (saves_of m now)) base
      ∙ ap (λ (es : List Entry). checkpoint_of second (k.book.base + length es)
      (greatest_from mid.base.moment es) (force_along mid.base.in_force es) (saves_of m now))
      entries
      ∙ ap (λ (n : ℕ). checkpoint_of second (k.book.base + length k.book.entries)
      (greatest_from n k.book.entries) (force_along mid.base.in_force k.book.entries)
      (saves_of m now)) moment
      ∙ ap (λ (n : ℕ). checkpoint_of second (k.book.base + length k.book.entries)
      (greatest_from k.book.moment k.book.entries) (force_along n k.book.entries)
      (saves_of m now)) force
      ∙ ap (λ (states : List (List ℕ)). checkpoint_of second
      (k.book.base + length k.book.entries) (greatest_from k.book.moment k.book.entries)
      (force_along k.in_force k.book.entries) states) saves

  -- no frame of it can be made
  pub next_full : (fresh : List ModuleState) (old mid : StoreOf D M) (k : StoreBook) (w : Book)
      (now : List (HandOf M)) (second : Bool) (kind : FullKind) → StoreStandsFor g fresh old k
      → OnlyCommitted old mid → KeepsEntries k.book w → HandsAreDone m w now
      → NextRefused mid second (saves_of m now) (Full kind)
      → CheckpointIsFull (newest_sequence old.base.newest) second k kind
  next_full fresh old mid k w now second kind st only keeps done why =
      let newest : newest_sequence mid.base.newest ≡ newest_sequence old.base.newest =
      ap (λ (s : StoreOf D M). newest_sequence s.base.newest) only in
      let same : checkpoint_at mid second (saves_of m now) ≡ drained_checkpoint second k =
      checkpoint_same fresh old mid k w now second st only keeps done in
      elim why.1 [
        | inl none ↦ inl (none.0, omega (arith, none.1, newest))
        | inr long ↦ inr (
          long.0,
          omega (arith, long.1, newest),
          subst (λ (c : Checkpoint). 2 ^ 28 < length (checkpoint_bytes c)) same long.2,
        )
      ]

  pub checkpoint_limit : (fresh : List ModuleState) (old mid new : StoreOf D M) (k : StoreBook)
      (w : Book) (now : List (HandOf M)) (result : Result Unit StoreFault)
      → StoreStandsFor g fresh old k → OnlyCommitted old mid → KeepsEntries k.book w
      → HandsAreDone m w now → CheckpointDoes g mid new (saves_of m now) result
      → IfErr result (BaseLimit (figures_of old) k)
  checkpoint_limit fresh old mid new k w now (Ok done) st only keeps hands does = tt
  checkpoint_limit fresh old mid new k w now (Err (Full kind)) st only keeps hands does =
      inr (next_full fresh old mid k w now old.logs.second kind st only keeps hands
      (subst (λ (second : Bool). NextRefused mid second (saves_of m now) (Full kind))
      (ap (λ (s : StoreOf D M). s.logs.second) only) does.1))
  checkpoint_limit fresh old mid new k w now (Err Disk) st only keeps hands does = tt
  checkpoint_limit fresh old mid new k w now (Err NoMemory) st only keeps hands does = tt
  checkpoint_limit fresh old mid new k w now (Err Exists) st only keeps hands does = tt
  checkpoint_limit fresh old mid new k w now (Err (Closed name failures)) st only keeps hands does =
      tt
  checkpoint_limit fresh old mid new k w now (Err (Damaged name place)) st only keeps hands does =
      tt

  -- a drain that stopped at a limit
  pub drain_limit : (fresh : List ModuleState) (old new : StoreOf D M) (k : StoreBook)
      (fault : StoreFault) → StopsAtLimit g fresh old new k fault
      → BaseLimit (figures_of old) k fault
  drain_limit fresh old new k (Full kind) stops =
      inl (record { works = stops.works; step = stops.step })
  drain_limit fresh old new k Disk stops = tt
  drain_limit fresh old new k NoMemory stops = tt
  drain_limit fresh old new k Exists stops = tt
  drain_limit fresh old new k (Closed name failures) stops = tt
  drain_limit fresh old new k (Damaged name place) stops = tt
