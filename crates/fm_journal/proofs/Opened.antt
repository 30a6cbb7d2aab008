-- A journal that was just made or opened.
use Rattle.std.proofs.Common.{◌≡◌, ℕ, ◌+◌, ◌<◌, ◌^◌, List, [], ◌∷◌, ◌++◌, length, take, Option}
use Rattle.std.proofs.Common.{Some, None, refl, sym, ◌∙◌, ap, subst, arith, length-append}
use Rattle.std.specs.Option.{option_map}
use Rattle.std.proofs.lemmas.List.{append-nil, drop_all}
use Rattle.fm_outer.specs.Bytes.{written}
use Rattle.fm_outer.specs.Moments.{IsSettled}
use Rattle.fm_outer.specs.declared.disk.Disk.{Ghosts}
use Rattle.fm_journal.specs.Format.{header, end_of, IsJournal}
use Rattle.fm_journal.specs.JournalOf.{JournalOf, IsLawfulJournal}
use Rattle.fm_journal.specs.Keeps.{Keeps}
use Rattle.fm_journal.specs.Look.{IsFound, IsBounded}
use Rattle.fm_journal.proofs.Records.{length-header, end_of_nil}
use Rattle.fm_journal.proofs.Growth.{length_begins}
use Rattle.fm_journal.proofs.Uniqueness.{same_journal_list}

-- over nothing the bytes of an empty journal are all there is
pub blanked : (seen : Option (List ℕ)) (bytes blank : List ℕ) → bytes ≡ blank
    → option_map (written 0 bytes) (option_map (take 0) seen) ≡ option_map (λ _. blank) seen
blanked None bytes blank is = refl
blanked (Some xs) bytes blank is =
    ap (λ (l : List ℕ). Some l)
    (rw (drop_all {X = ℕ} (0 + length bytes) [] (omega arith), append-nil bytes) is)

pub empty_is_journal : (first : ℕ) → first < 2 ^ 46 → IsJournal (header first ++ 0 ∷ []) first []
empty_is_journal first fits = record {
  gate = 0;
  rest = [];
  closed = λ e. omega (arith, e);
  begins = record {
    bytes_are = refl;
    limits = record {
      first_fits = fits;
      counted = omega arith;
      numbered = omega arith;
      sized =
          omega (arith, end_of_nil);
      short = λ k d below. absurd (omega arith);
    };
  };
}

pub two_tellings : (s : Option (List ℕ)) (a b : List ℕ) → s ≡ Some a → s ≡ Some b → a ≡ b
two_tellings s a b one other = cc

module _ {D : Type 0} (g : Ghosts D) (journal : JournalOf D) (unlocked : journal.closed ≡ None)
    (settled : IsSettled g journal.disk) where
  keeps_all : (bytes : List ℕ) (payloads : List (List ℕ)) → g.seen journal.disk ≡ Some bytes
      → journal.count ≡ length payloads → journal.end ≡ end_of payloads
      → IsJournal bytes journal.first payloads
      → Keeps g journal payloads
  keeps_all bytes payloads told counted ends is = record {
    is_open = unlocked;
    counted = counted;
    ends = ends;
    told = (bytes, told, is);
    left = λ image left. subst (λ (l : List ℕ). IsJournal l journal.first payloads)
        (two_tellings (g.seen journal.disk) bytes image told (settled image left)) is;
  }

  pub keeps_found : (bytes : List ℕ) → g.seen journal.disk ≡ Some bytes
      → (found : IsFound bytes journal.first journal.count journal.end)
      → Keeps g journal found.payloads
  keeps_found bytes told found =
      keeps_all bytes found.payloads told found.counted found.ends found.journal

  -- what was found is what is there
  pub keeps_list : (bytes : List ℕ) (first : ℕ) (payloads : List (List ℕ))
      → g.seen journal.disk ≡ Some bytes → IsFound bytes journal.first journal.count journal.end
      → IsJournal bytes first payloads
      → (journal.first ≡ first) × Keeps g journal payloads
  keeps_list bytes first payloads told found is =
      let same = same_journal_list bytes journal.first first found.payloads payloads found.journal
      is in (
        same.0,
        subst (λ (l : List (List ℕ)). Keeps g journal l) same.1
            (keeps_found bytes told found),
      )

  pub keeps_none : (bytes : List ℕ) → g.seen journal.disk ≡ Some bytes
      → bytes ≡ header journal.first ++ 0 ∷ [] → journal.first < 2 ^ 46 → journal.count ≡ 0
      → journal.end ≡ 16 → Keeps g journal []
  keeps_none bytes told is fits none ends =
      keeps_all bytes [] told none (ends ∙ sym end_of_nil)
      (subst (λ (l : List ℕ). IsJournal l journal.first []) (sym is)
      (empty_is_journal journal.first fits))

  pub sound_found : IsBounded journal.first journal.count journal.end
      → ((bytes : List ℕ) → g.seen journal.disk ≡ Some bytes
      → IsFound bytes journal.first journal.count journal.end) → IsLawfulJournal g journal
  sound_found bounded found = record {
    first_fits = bounded.first_fits;
    counted = bounded.counted;
    numbered = bounded.numbered;
    sized = bounded.sized;
    inside = λ bytes still told.
        let there = found bytes told in
        omega (
          arith,
          there.ends,
          length_begins bytes journal.first there.payloads there.journal.gate there.journal.rest
              there.journal.begins,
        );
    settled = λ still. settled;
  }

  pub sound_none : (old : Option (List ℕ))
      → g.seen journal.disk ≡ option_map (λ _. header journal.first ++ 0 ∷ []) old
      → journal.first < 2 ^ 46 → journal.count ≡ 0 → journal.end ≡ 16 → IsLawfulJournal g journal
  sound_none old blank fits none ends = record {
    first_fits = fits;
    counted = omega arith;
    numbered = omega arith;
    sized = omega arith;
    inside = λ bytes still told.
        omega (
          arith,
          ends,
          ap length
              (told_blank old (g.seen journal.disk) (header journal.first ++ 0 ∷ []) bytes blank
              told),
          length-append (header journal.first) (0 ∷ []),
          length-header journal.first,
        );
    settled = λ still. settled;
  }
    where
      told_blank : (o s : Option (List ℕ)) (blank bytes : List ℕ) → s ≡ option_map (λ _. blank) o
          → s ≡ Some bytes → bytes ≡ blank
      told_blank None s blank bytes is told = cc
      told_blank (Some xs) s blank bytes is told = cc

  pub none_told : (old : Option (List ℕ)) (bytes : List ℕ)
      → g.seen journal.disk ≡ option_map (λ _. header journal.first ++ 0 ∷ []) old
      → old ≡ Some bytes
      → journal.first < 2 ^ 46 → journal.count ≡ 0 → journal.end ≡ 16 → Keeps g journal []
  none_told old bytes blank told fits none ends =
      keeps_none (header journal.first ++ 0 ∷ [])
      (blank ∙ ap (λ (o : Option (List ℕ)). option_map (λ _. header journal.first ++ 0 ∷ []) o)
      told) refl fits none ends
