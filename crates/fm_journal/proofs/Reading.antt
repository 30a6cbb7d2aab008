-- A payload that is read through a piece.
use Rattle.std.proofs.Common.{◌≡◌, ◌≢◌, ℕ, ◌+◌, ◌-◌, ◌<◌, ◌≤◌, List, ◌++◌, length, take, Some}
use Rattle.std.proofs.Common.{None, rules, refl, sym, ◌∙◌, ap, subst, arith}
use Rattle.std.specs.Prelude.{slice_get}
use Rattle.std.specs.Option.{option_map}
use Rattle.std.proofs.lemmas.List.{take_at}
use Rattle.fm_outer.specs.Bytes.{range}
use Rattle.fm_outer.specs.declared.disk.Disk.{Ghosts}
use Rattle.fm_journal.specs.Format.{end_of}
use Rattle.fm_journal.specs.JournalOf.{JournalOf}
use Rattle.fm_journal.specs.Keeps.{Keeps}
use Rattle.fm_journal.specs.Look.{ShowsNext}
use Rattle.fm_journal.specs.Reads.{ReadsAt}
use Rattle.fm_journal.proofs.Places.{none_at_end, inside_end, next_kept, size_kept, payload_kept}
use Rattle.fm_journal.proofs.Places.{shown_stands}

module _ {D : Type 0} (g : Ghosts D) (journal : JournalOf D) (place room : ℕ) where
  -- at the end of the list
  pub reads_none : (buffer : List ℕ) → place ≡ journal.end
      → ReadsAt g journal place room buffer None
  reads_none buffer here = record {
    at_end = search rules;
    within = search rules;
    stands = tt;
    size_is = λ payloads k keeps at. none_at_end payloads k (sym at ∙ here ∙ keeps.ends);
    payload_is = λ payloads k payload keeps at is fits.
        absurd (omega (arith, inside_end payloads k payload is, at, here, keeps.ends));
  }

  module _ (next : ℕ) (before : place ≢ journal.end) (later : place + 5 ≤ next)
      (within_end : next ≤ journal.end)
      (shows : (bytes : List ℕ) → g.seen journal.disk ≡ Some bytes
      → ShowsNext (take (journal.end + 1) bytes) place (Some next)) where
    shown : (payloads : List (List ℕ)) (keeps : Keeps g journal payloads)
        → ShowsNext (take (journal.end + 1) keeps.told.0) place (Some next)
    shown payloads keeps = shows keeps.told.0 keeps.told.1

    size_there : (payloads : List (List ℕ)) (k : ℕ) → Keeps g journal payloads
        → place ≡ end_of (take k payloads)
        → Some (next - place - 5) ≡ option_map length (slice_get payloads k)
    size_there payloads k keeps at =
        subst (λ (n : ℕ). Some (next - n - 5) ≡ option_map length (slice_get payloads k)) (sym at)
        (size_kept g journal payloads keeps k next (λ same. before (at ∙ same))
        (subst (λ (n : ℕ). ShowsNext (take (journal.end + 1) keeps.told.0) n (Some next)) at
        (shown payloads keeps)))

    long_there : (payloads : List (List ℕ)) (k : ℕ) (payload : List ℕ) → Keeps g journal payloads
        → place ≡ end_of (take k payloads) → slice_get payloads k ≡ Some payload
        → next - place - 5 ≡ length payload
    long_there payloads k payload keeps at is =
        omega (
          arith,
          at,
          next_kept g journal payloads keeps k next payload is
              (subst (λ (n : ℕ). ShowsNext (take (journal.end + 1) keeps.told.0) n (Some next)) at
              (shown payloads keeps)),
        )

    -- the buffer is too short
    pub reads_size : (buffer : List ℕ) → room < next - place - 5
        → ReadsAt g journal place room buffer (Some (next - place - 5))
    reads_size buffer short = record {
      at_end = search rules;
      within = omega (arith, later, within_end);
      stands = λ bytes told.
          let there = shown_stands bytes place next journal.end within_end (shows bytes told) in (
            there.0,
            there.1,
            there.2,
            (there.3.0, λ fits. absurd (omega (arith, short, fits))),
            there.4,
          );
      size_is = size_there;
      payload_is = λ payloads k payload keeps at is fits.
          absurd (omega (arith, short, fits, long_there payloads k payload keeps at is));
    }

    -- the payload stands in front of the buffer
    pub reads_payload : (front behind : List ℕ)
        → ((bytes : List ℕ) → g.seen journal.disk ≡ Some bytes
        → front ≡ range (place + 5) (next - place - 5) bytes)
        → ReadsAt g journal place room (front ++ behind) (Some (next - place - 5))
    reads_payload front behind read = record {
      at_end = search rules;
      within = omega (arith, later, within_end);
      stands = λ bytes told.
          let there = shown_stands bytes place next journal.end within_end (shows bytes told) in
          let got : front ≡ there.0 = read bytes told ∙ there.3.1 in (
            there.0,
            there.1,
            there.2,
            (
              there.3.0,
              λ fits. ap (λ (l : List ℕ). take (next - place - 5) (l ++ behind)) got
                  ∙ take_at there.0 behind (next - place - 5) there.3.0,
            ),
            there.4,
          );
      size_is = size_there;
      payload_is = λ payloads k payload keeps at is fits.
          let there = long_there payloads k payload keeps at is in
          let got : front ≡ payload = read keeps.told.0 keeps.told.1
          ∙ ap (λ (n : ℕ). range (place + 5) n keeps.told.0) there
          ∙ ap (λ (n : ℕ). range (n + 5) (length payload) keeps.told.0) at
          ∙ payload_kept g journal payloads keeps k payload is in
          ap (λ (l : List ℕ). take (length payload) (l ++ behind)) got
          ∙ take_at payload behind (length payload) refl;
    }
