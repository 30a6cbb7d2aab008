-- A journal with a payload more.
use Rattle.std.proofs.Common.{◌≡◌, ◌≢◌, ℕ, ◌+◌, ◌-◌, ◌≤◌, ◌^◌, List, [], ◌∷◌, ◌++◌, length, Option}
use Rattle.std.proofs.Common.{Some, None, ◌∙◌, ap, subst, arith, length-append}
use Rattle.std.specs.Option.{option_map}
use Rattle.std.proofs.lemmas.Bool.Decides.{nat_tests}
use Rattle.fm_outer.specs.Bytes.{written}
use Rattle.fm_outer.specs.Crash.{AddedFrom}
use Rattle.fm_outer.specs.Moments.{IsSettled, LeavesOnly}
use Rattle.fm_outer.specs.declared.disk.Disk.{Ghosts}
use Rattle.fm_outer.proofs.Moments.{leaves-weaker}
use Rattle.fm_journal.specs.Format.{framed, IsWithin, IsJournal}
use Rattle.fm_journal.specs.Crash.{IsOldOrNew}
use Rattle.fm_journal.specs.Causes.{refused}
use Rattle.fm_journal.specs.JournalOf.{JournalOf, IsLawfulJournal}
use Rattle.fm_journal.specs.Keeps.{Keeps}
use Rattle.fm_journal.proofs.Records.{length-framed, end_of_push, within_push}
use Rattle.fm_journal.proofs.Torn.{added, written_gate}
use Rattle.fm_journal.proofs.Opened.{two_tellings}

-- where nothing is refused there is room for a record
pub record HasRoom (first count end size : ℕ) : Type 0 where
  pub counts : count ≢ 2 ^ 32 - 1
  pub numbers : first + count ≢ 2 ^ 46
  pub bytes : end + 1 + size ≤ 2 ^ 40

pub has_room : (first count end size : ℕ) → refused None first count end size ≡ None
    → HasRoom first count end size
has_room first count end size free = record {
  counts = grind (arith, nat_tests);
  numbers = grind (arith, nat_tests);
  bytes = grind (arith, nat_tests);
}

module _ {D : Type 0} (g : Ghosts D) (old : JournalOf D) (payloads : List (List ℕ))
    (payload : List ℕ) (keeps : Keeps g old payloads) (sound : IsLawfulJournal g old)
    (short : length payload ≤ 2 ^ 28) (bytes : List ℕ) (is : bytes ≡ framed payload)
    (free : refused old.closed old.first old.count old.end (length bytes) ≡ None) where
  room : HasRoom old.first old.count old.end (length bytes)
  room = has_room old.first old.count old.end (length bytes)
      (subst (λ (c : Option ℕ). refused c old.first old.count old.end (length bytes) ≡ None)
      keeps.is_open free)

  long : length bytes ≡ 5 + length payload
  long = ap length is ∙ length-framed payload

  limits : IsWithin old.first (payloads ++ payload ∷ [])
  limits = within_push old.first payloads payload keeps.told.2.begins.limits
      (omega (arith, sound.counted, room.counts, keeps.counted))
      (omega (arith, sound.numbered, room.numbers, keeps.counted))
      (omega (arith, room.bytes, keeps.ends, long))
      short

  -- what a crash within the append leaves
  pub append_leaves : (disk : D)
      → LeavesOnly g old.disk disk (AddedFrom (g.seen old.disk) old.end bytes)
      → LeavesOnly g old.disk disk (IsOldOrNew old.first payloads payload)
  append_leaves disk leaves =
      leaves-weaker g old.disk disk (AddedFrom (g.seen old.disk) old.end bytes)
      (IsOldOrNew old.first payloads payload) leaves
      (λ c from. added (g.seen old.disk) keeps.told.0 c old.first old.end payloads payload
      keeps.told.1 keeps.told.2 keeps.ends limits
      (subst (λ (b : List ℕ). AddedFrom (g.seen old.disk) old.end b c) is from))

  -- what the journal is afterwards
  pub append_keeps : (new : JournalOf D) → new.first ≡ old.first → new.closed ≡ None
      → new.count ≡ old.count + 1 → new.end ≡ old.end + length bytes
      → g.seen new.disk ≡ option_map (written old.end (1 ∷ []))
      (option_map (written (old.end + 1) bytes) (g.seen old.disk))
      → IsSettled g new.disk → Keeps g new (payloads ++ payload ∷ [])
  append_keeps new first unlocked count end wrote settled =
      let now = written old.end (1 ∷ [])
      (written (old.end + 1) (framed payload) keeps.told.0) in
      let told : g.seen new.disk ≡ Some now =
      wrote
      ∙ ap (λ (b : List ℕ). option_map (written old.end (1 ∷ []))
      (option_map (written (old.end + 1) b) (g.seen old.disk))) is
      ∙ ap (λ (s : Option (List ℕ)). option_map (written old.end (1 ∷ []))
      (option_map (written (old.end + 1) (framed payload)) s)) keeps.told.1 in
      let journal : IsJournal now new.first (payloads ++ payload ∷ []) =
      rw (first, keeps.ends)
      (written_gate keeps.told.0 old.first payloads payload keeps.told.2 limits) in
      record {
        is_open = unlocked;
        counted = omega (arith, count, keeps.counted, length-append payloads (payload ∷ []));
        ends = omega (arith, end, long, keeps.ends, end_of_push payloads payload);
        told = (now, told, journal);
        left = λ image left.
            let same : now ≡ image =
            two_tellings (g.seen new.disk) now image told (settled image left) in
            subst (λ (l : List ℕ). IsJournal l new.first (payloads ++ payload ∷ [])) same journal;
      }
