-- What is damaged passes no look.
use Rattle.std.proofs.Common.{◌≡◌, inl, inr, ℕ, zero, suc, ◌+◌, ◌-◌, ◌<◌, ◌≤◌, List, [], ◌∷◌}
use Rattle.std.proofs.Common.{length, take, drop, Option, Some, None, refl, sym, ◌∙◌, ap, subst}
use Rattle.std.proofs.Common.{arith, slice_get, length-append, ◌^◌}
use Rattle.std.proofs.lemmas.List.{take-append-drop}
use Rattle.std.proofs.lemmas.List.Elements.{All-head, All-tail}
use Rattle.std.specs.Prelude.{Bool, IsTrue, All}
use Rattle.fm_core.specs.Book.{ModuleState}
use Rattle.fm_core.specs.Meaning.{Meaning, State, holds_of, saved_of}
use Rattle.fm_entry.specs.declared.entry.Entry.{Entry}
use Rattle.fm_entry.specs.declared.spoken.Spoken.{Spoken}
use Rattle.fm_journal.proofs.Uniqueness.{same_journal_list}
use Rattle.fm_payloads.specs.Spelling.{EachSpells}
use Rattle.fm_logs.specs.ReadsAsBook.{IsLog, SpellsConf, SpellsEntry, SpellsSpoken}
use Rattle.fm_logs.specs.ReadsAsBook.{AreLoaded}
use Rattle.fm_saved.specs.Saved.{FitsLongText}
use Rattle.fm_saved.specs.declared.checkpoint.Checkpoint.{Checkpoint}
use Rattle.fm_saved.specs.declared.conf.Conf.{Conf}
use Rattle.fm_slots.specs.Format.{SlotOf}
use Rattle.fm_looks.specs.Opening.{Good, FirstBad, LogDamage, ConfsDamage, EntriesDamage, FitConfs}
use Rattle.fm_looks.specs.Opening.{FitEntries, SaysCheckpoint, LoadsStates, RecordsDamage}
use Rattle.fm_looks.specs.Opening.{FitRecords}
use Rattle.fm_looks.specs.Opening.{unfloored_book}
use Rattle.fm_store.proofs.FirstRecords.{lawful_left}
use Rattle.fm_looks.proofs.Reloads.{behind_take}
use Rattle.fm_logs.proofs.SpelledOnce.{SpellsOne, each_one}
use Rattle.fm_looks.proofs.Spelled.{each_counted, each_take, checkpoint_once}

-- bytes are a log in one way at most
pub same_log : {A : Type 0} (spells : List ℕ → A → Type 0) → SpellsOne spells → (bytes : List ℕ)
    (f g : ℕ) (xs ys : List A) → IsLog spells bytes f xs → IsLog spells bytes g ys
    → (f ≡ g) × (xs ≡ ys)
same_log {A = A} spells once bytes f g xs ys one other =
    let same = same_journal_list bytes f g one.payloads other.payloads one.journal other.journal
    in (
      same.0,
      each_one spells once other.payloads xs ys
          (subst (λ (l : List (List ℕ)). EachSpells spells l xs) same.1 one.spelled) other.spelled,
    )

module _ {A : Type 0} (spells : List ℕ → A → Type 0) (xs : List A) where
  -- payloads that all fit have no first one that doesn't
  pub first_bad_none : (Fits : List A → Type 0) (payloads : List (List ℕ)) (place : ℕ)
      → EachSpells spells payloads xs → ((n : ℕ) → Fits (take n xs))
      → FirstBad (Good spells Fits) payloads place → ⊥
  first_bad_none Fits payloads place spelled fit bad =
      bad.bad (
        take (bad.count + 1) xs,
        each_take spells (bad.count + 1) payloads xs spelled,
        fit (bad.count + 1),
      )

  -- a log whose payloads aren't damaged is not damaged
  pub log_damage_none : (Damaged : ℕ → List (List ℕ) → ℕ → Type 0) (bytes : List ℕ)
      (first place : ℕ) → IsLog spells bytes first xs
      → ((payloads : List (List ℕ)) → EachSpells spells payloads xs → Damaged first payloads place
      → ⊥)
      → LogDamage Damaged bytes place → ⊥
  log_damage_none Damaged bytes first place log none (inl damaged) =
      damaged.none first log.payloads log.journal
  log_damage_none Damaged bytes first place log none (inr found) =
      let same = same_journal_list bytes found.0 first found.1 log.payloads found.2 log.journal in
      none log.payloads log.spelled
      (subst (λ (l : List (List ℕ)). Damaged first l place) same.1
      (subst (λ (f : ℕ). Damaged f found.1 place) same.0 found.3))

-- the first of configurations of one store are of one store
take_got : {A : Type 0} (n i : ℕ) (xs : List A) (x : A) → slice_get (take n xs) i ≡ Some x
    → slice_get xs i ≡ Some x
take_got zero i xs x got = absurd (let no : ⊥ = cc in no)
take_got (suc n) i [] x got = absurd (let no : ⊥ = cc in no)
take_got (suc n) zero (y ∷ xs) x got = got
take_got (suc n) (suc i) (y ∷ xs) x got = take_got n i xs x got

take_shorter : {A : Type 0} (n : ℕ) (xs : List A) → length (take n xs) ≤ length xs
take_shorter {A = A} n xs = omega (
  arith,
  ap (λ (l : List A). length l) (take-append-drop n xs),
  length-append (take n xs) (drop n xs),
)

pub confs_take : (n : ℕ) (confs : List Conf) → FitConfs confs → FitConfs (take n confs)
confs_take n confs fit = (
  λ first i conf at_first at.
      fit.0 first i conf (take_got n 0 confs first at_first) (take_got n i confs conf at),
  omega (arith, take_shorter n confs, fit.1),
)

-- configurations that pass the look aren't damaged
pub confs_sound : (bytes : List ℕ) (first place : ℕ) (confs : List Conf)
    → IsLog SpellsConf bytes first confs → FitConfs confs → 1 ≤ length confs
    → LogDamage ConfsDamage bytes place → ⊥
confs_sound bytes first place confs log fit some =
    log_damage_none SpellsConf confs ConfsDamage bytes first place log none
  where
    none : (payloads : List (List ℕ)) → EachSpells SpellsConf payloads confs
        → ConfsDamage first payloads place → ⊥
    none payloads spelled (inl empty) =
        let counted = each_counted SpellsConf payloads confs spelled in
        let zero_long : length payloads ≡ 0 = ap (λ (l : List (List ℕ)). length l) empty.0 in
        omega (arith, counted, zero_long, some)
    none payloads spelled (inr bad) =
        first_bad_none SpellsConf confs FitConfs payloads place spelled
        (λ n. confs_take n confs fit) bad

-- entries that pass the look aren't damaged
pub entries_sound : (known : ℕ) (checkpoint : Checkpoint) (bytes : List ℕ) (first place : ℕ)
    (entries : List Entry) → IsLog SpellsEntry bytes first entries → first ≤ checkpoint.base
    → checkpoint.base ≤ first + length entries
    → FitEntries known checkpoint.conf (checkpoint.base - first) entries
    → LogDamage (EntriesDamage known checkpoint) bytes place → ⊥
entries_sound known checkpoint bytes first place entries log begins reaches fit =
    log_damage_none SpellsEntry entries (EntriesDamage known checkpoint) bytes first place log none
  where
    none : (payloads : List (List ℕ)) → EachSpells SpellsEntry payloads entries
        → EntriesDamage known checkpoint first payloads place → ⊥
    none payloads spelled (inl (inl above)) = omega (arith, above.0, begins)
    none payloads spelled (inl (inr short)) =
        omega (arith, short.1, reaches, each_counted SpellsEntry payloads entries spelled)
    none payloads spelled (inr bad) =
        first_bad_none SpellsEntry entries
        (FitEntries known checkpoint.conf (checkpoint.base - first)) payloads place spelled
        (λ n. behind_take known checkpoint.conf (checkpoint.base - first) n entries fit) bad.2

-- the slot in force says one checkpoint at most
pub same_checkpoint : (known : ℕ) (found : Option (Bool × SlotOf)) (x y : Checkpoint)
    → SaysCheckpoint known found x → SaysCheckpoint known found y → x ≡ y
same_checkpoint known None x y a b = a ∙ sym b
same_checkpoint known (Some found) x y a b = checkpoint_once found.1.payload x y a.0 a.1 b.0 b.1

-- a module of this meaning that is saved so is one
one_loaded : (f : ModuleState) (state : List ℕ) (p q : ModuleState) → FitsLongText state
    → p.meaning ≡ f.meaning → IsTrue (holds_of p.meaning p.state)
    → saved_of p.meaning p.state ≡ state → q.meaning ≡ f.meaning
    → IsTrue (holds_of q.meaning q.state) → saved_of q.meaning q.state ≡ state → p ≡ q
one_loaded f state p q fits made holds saved made' holds' saved' =
    let meanings : p.meaning ≡ q.meaning = made ∙ sym made' in
    let here : IsTrue (holds_of p.meaning q.state) =
    subst (λ (m : Meaning). IsTrue (holds_of m q.state)) (sym meanings) holds' in
    let there : saved_of p.meaning q.state ≡ state =
    ap (λ (m : Meaning). saved_of m q.state) meanings ∙ saved' in
    let short : length (saved_of p.meaning p.state) < 2 ^ 64 =
    omega (arith, ap (λ (l : List ℕ). length l) saved, fits) in
    let states : p.state ≡ q.state =
    p.meaning.saved_once p.state q.state holds here short (saved ∙ sym there) in
    ap (λ (m : Meaning). of m p.state) meanings ∙ ap (of q.meaning) states
  where
    of : Meaning → State → ModuleState
    of m s = record { meaning = m; state = s }

-- states that are saved so are one
pub same_loaded : (fresh : List ModuleState) (states : List (List ℕ)) (x y : List ModuleState)
    → All FitsLongText states → AreLoaded fresh states x → AreLoaded fresh states y → x ≡ y
same_loaded [] [] [] [] fit a b = refl
same_loaded [] [] [] (q ∷ y) fit a b = absurd b
same_loaded [] [] (p ∷ x) y fit a b = absurd a
same_loaded [] (state ∷ states) x y fit a b = absurd a
same_loaded (f ∷ fresh) [] x y fit a b = absurd a
same_loaded (f ∷ fresh) (state ∷ states) [] y fit a b = absurd a
same_loaded (f ∷ fresh) (state ∷ states) (p ∷ x) [] fit a b = absurd b
same_loaded (f ∷ fresh) (state ∷ states) (p ∷ x) (q ∷ y) fit a b =
    let heads : p ≡ q = one_loaded f state p q (All-head FitsLongText state states fit) a.0 a.1 a.2
    b.0 b.1 b.2 in
    let tails : x ≡ y = same_loaded fresh states x y (All-tail FitsLongText state states fit) a.3
    b.3 in cc

-- the states load in one way at most
pub same_states : (fresh : List ModuleState) (known : ℕ) (found : Option (Bool × SlotOf))
    (checkpoint : Checkpoint) (x y : List ModuleState) → SaysCheckpoint known found checkpoint
    → LoadsStates fresh found checkpoint x → LoadsStates fresh found checkpoint y → x ≡ y
same_states fresh known None checkpoint x y says a b = a ∙ sym b
same_states fresh known (Some found) checkpoint x y says a b =
    same_loaded fresh checkpoint.states x y says.0.states_fit a.0 b.0

-- records that pass the look aren't damaged
pub records_sound : (checkpoint : Checkpoint) (modules : List ModuleState) (entries : List Entry)
    (bytes : List ℕ) (first place : ℕ) (records : List Spoken)
    → IsLog SpellsSpoken bytes first records → FitRecords checkpoint modules entries records
    → LogDamage (RecordsDamage checkpoint modules entries) bytes place → ⊥
records_sound checkpoint modules entries bytes first place records log fit =
    log_damage_none SpellsSpoken records (RecordsDamage checkpoint modules entries) bytes first
    place log none
  where
    none : (payloads : List (List ℕ)) → EachSpells SpellsSpoken payloads records
        → RecordsDamage checkpoint modules entries first payloads place → ⊥
    none payloads spelled bad =
        first_bad_none SpellsSpoken records (FitRecords checkpoint modules entries) payloads place
        spelled
        (λ n. lawful_left (unfloored_book checkpoint modules entries records) (take n records)
        (drop n records) (sym (take-append-drop n records)) fit) bad
