-- What a call of the disk in memory does to what a read gives, and to what a crash may leave.
use Rattle.std.proofs.Common.{◌≡◌, ◌≤◌, ◌⊎◌, ℕ, ◌+◌, List, [], ◌∷◌, ◌++◌, Bool, true, false, Some}
use Rattle.std.proofs.Common.{length, take, refl, sym, ap, ◌∙◌, subst, inl, inr, arith}
use Rattle.std.proofs.Common.{length-append, if◌then◌else◌, Result, Ok, Err, is_ok, OnOk}
use Rattle.std.specs.Prelude.{nat_le, not, ◌&&◌}
use Rattle.std.proofs.Math.Nat.{le_refl}
use Rattle.std.proofs.lemmas.Bool.{leb-true, leb-false, le-leb}
use Rattle.std.proofs.lemmas.List.{take-append-le, take_all}
use Rattle.fm_outer.specs.Bytes.{written}
use Rattle.fm_outer.specs.FailPlan.{is_due}
use Rattle.fm_outer.specs.Crash.{Torn, Shorter, StepsFrom, NoMore, OnlySeen, Elapses}
use Rattle.fm_outer.specs.Record.{Op, Wrote, CutTo, Synced, read_after, content_after, Left}
use Rattle.fm_outer.specs.Record.{LeftAfter, IsImage, places}
use Rattle.fm_outer.specs.Tape.{Tape, recorded, has_place}
use Rattle.fm_outer.specs.MemDisk.{DiskState, does, does_write}
use Rattle.fm_outer.specs.MemDiskLaws.{left_after-read}
use Rattle.fm_outer.specs.Steps.{torn-none, shorter-none}

-- one call more
pub content_after-snoc : (ops : List Op) (op : Op) (xs : List ℕ)
    → content_after (ops ++ op ∷ []) xs ≡ read_after op (content_after ops xs)
content_after-snoc [] op xs = refl
content_after-snoc (first ∷ ops) op xs = content_after-snoc ops op (read_after first xs)

left_after-snoc : (ops : List Op) (op : Op) (xs : List ℕ) (before : List ℕ → Type 0) (c : List ℕ)
    → LeftAfter (ops ++ op ∷ []) xs before c
    → Left op (content_after ops xs) (λ d. LeftAfter ops xs before d) c
left_after-snoc [] op xs before c left = left
left_after-snoc (first ∷ ops) op xs before c left =
    left_after-snoc ops op (read_after first xs) (Left first xs before) c left

abbrev Since : List ℕ → List Op → ℕ → List ℕ → Type 0
Since base ops t c = (k : ℕ) × (t ≤ k) × (k ≤ length ops) × IsImage (take k ops) base c

time-same : (base : List ℕ) (ops : List Op)
    → Elapses (length ops) (length ops) (Since base ops) (Since base ops) (λ c. IsImage ops base c)
time-same base ops = record {
  later = le_refl (length ops);
  nothing_else =
      λ t c le left. inl left;
  keeps = λ t c le left. left;
}

time-snoc : (base : List ℕ) (ops : List Op) (op : Op)
    → Elapses (length ops) (length (ops ++ op ∷ [])) (Since base ops) (Since base (ops ++ op ∷ []))
    (λ c. IsImage (ops ++ op ∷ []) base c)
time-snoc base ops op = record {
  later = omega (arith, size);
  nothing_else = λ t c le left. split t c left.0 left.1 left.2 left.3 (nat_le left.0 (length ops))
      refl;
  keeps = λ t c le left. (
    left.0,
    left.1,
    omega (arith, left.2, size),
    subst (λ (l : List Op). IsImage l base c) (sym (take-append-le left.0 ops (op ∷ []) left.2))
        left.3,
  );
}
  where
    size : length (ops ++ op ∷ []) ≡ length ops + 1
    size = length-append ops (op ∷ [])

    split : (t : ℕ) (c : List ℕ) (k : ℕ) → t ≤ k → k ≤ length (ops ++ op ∷ [])
        → IsImage (take k (ops ++ op ∷ [])) base c → (test : Bool) → nat_le k (length ops) ≡ test
        → Since base ops t c ⊎ IsImage (ops ++ op ∷ []) base c
    split t c k above below image true is =
        let le = leb-true k (length ops) is in
        inl (
          k,
          above,
          le,
          subst (λ (l : List Op). IsImage l base c)
              (take-append-le k ops (op ∷ []) le) image,
        )
    split t c k above below image false is =
        let past = leb-false k (length ops) is in
        inr (subst (λ (l : List Op). IsImage l base c)
        (take_all k (ops ++ op ∷ []) (omega (arith, past, size))) image)

-- the record after a call, where it has room for it or not
abbrev after : Op → Tape → Bool → Tape
after op tape test = if test then record tape { ops = tape.ops ++ op ∷ [] } else tape

-- a clause of what was done, where the answer says whether it was
pub on_ok : {T E : Type 0} (r : Result T E) (done : Bool) (P : Type 0) → is_ok r ≡ done
    → (done ≡ true → P) → OnOk r P
on_ok (Ok v) done P is so = so (sym is)
on_ok (Err e) done P is so = tt

-- a call is done only where the record has a place for it
pub does-place : (n : ℕ) (disk : DiskState) (done : Bool) → done ≡ does n disk
    → has_place n disk.tape ≡ false → done ≡ false
does-place n disk done tells full = tells ∙ ap (λ (p : Bool). p && not (is_due disk.plan)) full

pub does_write-place : (at n : ℕ) (disk : DiskState) (done : Bool) → done ≡ does_write at n disk
    → has_place (1 + n) disk.tape ≡ false → done ≡ false
does_write-place at n disk done tells full = tells
    ∙ ap (λ (p : Bool). (p && not (is_due disk.plan)) && nat_le (at + n) disk.room) full

module _ (base : List ℕ) (old new : Tape) where
  abbrev Was : List ℕ → Type 0
  Was c = IsImage old.ops base c

  pub called-time : (op : Op) → new ≡ recorded op old
      → Elapses (length old.ops) (length new.ops) (Since base old.ops) (Since base new.ops)
      (λ c. IsImage new.ops base c)
  called-time op is = subst
      (λ (t : Tape). Elapses (length old.ops) (length t.ops) (Since base old.ops) (Since base t.ops)
      (λ c. IsImage t.ops base c)) (sym is) (go (has_place (places op) old))
    where
      go : (test : Bool) → Elapses (length old.ops) (length (after op old test).ops)
          (Since base old.ops) (Since base (after op old test).ops)
          (λ c. IsImage (after op old test).ops base c)
      go true = time-snoc base old.ops op
      go false = time-same base old.ops

  -- a step that a crash may leave after the call may leave nothing done, too
  pub called-follows : (op : Op) (step : List ℕ → List ℕ → Type 0) → new ≡ recorded op old
      → ((xs : List ℕ) (before : List ℕ → Type 0) (c : List ℕ) → Left op xs before c → (d : List ℕ)
      × before d × step d c)
      → ((c : List ℕ) → step c c) → StepsFrom step Was (λ c. IsImage new.ops base c)
  called-follows op step is by none =
      subst (λ (t : Tape). StepsFrom step Was (λ c. IsImage t.ops base c)) (sym is)
      (go (has_place (places op) old))
    where
      go : (test : Bool) → StepsFrom step Was (λ c. IsImage (after op old test).ops base c)
      go true = λ c left. by (content_after old.ops base) Was c
          (left_after-snoc old.ops op base (λ d. base ≡ d) c left)
      go false = λ c left. (c, left, none c)

  pub write-follows : (at : ℕ) (bytes : List ℕ) (done : Bool)
      → new ≡ recorded (Wrote at bytes done) old
      → StepsFrom (Torn at (length bytes)) Was (λ c. IsImage new.ops base c)
  write-follows at bytes done is =
      called-follows (Wrote at bytes done) (Torn at (length bytes)) is (λ xs before c left. left)
      (torn-none at (length bytes))

  pub cut-follows : (len : ℕ) (done : Bool) → new ≡ recorded (CutTo len done) old
      → StepsFrom (Shorter len) Was (λ c. IsImage new.ops base c)
  cut-follows len done is =
      called-follows (CutTo len done) (Shorter len) is (λ xs before c left. left) (shorter-none len)

  -- a sync leaves no new image
  pub sync-no_more : (done : Bool) → new ≡ recorded (Synced done) old
      → NoMore Was (λ c. IsImage new.ops base c)
  sync-no_more done is =
      subst (λ (t : Tape). NoMore Was (λ c. IsImage t.ops base c)) (sym is)
      (go done (has_place 1 old))
    where
      go : (d test : Bool) → NoMore Was (λ c. IsImage (after (Synced d) old test).ops base c)
      go true true = λ c left.
          subst Was (left_after-snoc old.ops (Synced true) base (λ d. base ≡ d) c left)
          (left_after-read old.ops base (λ d. base ≡ d) refl)
      go false true = λ c left. left_after-snoc old.ops (Synced false) base (λ d. base ≡ d) c left
      go true false = λ c left. left
      go false false = λ c left. left

  -- after one that was done there is only what a read gives
  pub sync-durable : (done : Bool) → new ≡ recorded (Synced done) old
      → (has_place 1 old ≡ false → done ≡ false) → done ≡ true
      → OnlySeen (Some (content_after old.ops base)) (λ c. IsImage new.ops base c)
  sync-durable done is full did =
      subst (λ (t : Tape). OnlySeen (Some (content_after old.ops base)) (λ c. IsImage t.ops base c))
      (sym is) (go done (has_place 1 old) did full)
    where
      go : (d test : Bool) → d ≡ true → (test ≡ false → d ≡ false)
          → OnlySeen (Some (content_after old.ops base))
          (λ c. IsImage (after (Synced d) old test).ops base c)
      go true true was so =
          λ c left. ap (λ (l : List ℕ). Some l)
          (left_after-snoc old.ops (Synced true) base (λ d. base ≡ d) c left)
      go true false was so = let never : true ≡ false = so refl in absurd (cc never)
      go false true was so = absurd (cc was)
      go false false was so = absurd (cc was)

  -- what a read gives after a call that is done only where the record has room for it
  pub called-content : (op : Op) (done : Bool) → new ≡ recorded op old
      → (has_place (places op) old ≡ false → done ≡ false)
      → (done ≡ false → read_after op (content_after old.ops base) ≡ content_after old.ops base)
      → content_after new.ops base ≡ read_after op (content_after old.ops base)
  called-content op done is full same = ap (λ (t : Tape). content_after t.ops base) is
      ∙ go (has_place (places op) old) full
    where
      go : (test : Bool) → (test ≡ false → done ≡ false)
          → content_after (after op old test).ops base ≡ read_after op (content_after old.ops base)
      go true so = content_after-snoc old.ops op base
      go false so = sym (same (so refl))

  pub write-content : (at : ℕ) (bytes : List ℕ) (done : Bool)
      → new ≡ recorded (Wrote at bytes done) old
      → (has_place (1 + length bytes) old ≡ false → done ≡ false)
      → at ≤ length (content_after old.ops base)
      → content_after new.ops base
      ≡ (if done then written at bytes (content_after old.ops base) else content_after old.ops
      base)
  write-content at bytes done is full inside =
      called-content (Wrote at bytes done) done is full (idle done) ∙ sym (here done)
    where
      here : (d : Bool) → (if d then written at bytes (content_after old.ops base)
          else content_after old.ops base)
          ≡ read_after (Wrote at bytes d) (content_after old.ops base)
      here true = rw (le-leb at (length (content_after old.ops base)) inside) refl
      here false = refl

      idle : (d : Bool) → d ≡ false
          → read_after (Wrote at bytes d) (content_after old.ops base) ≡ content_after old.ops base
      idle true is = absurd (cc is)
      idle false is = refl

  pub cut-content : (len : ℕ) (done : Bool) → new ≡ recorded (CutTo len done) old
      → (has_place 1 old ≡ false → done ≡ false)
      → content_after new.ops base
      ≡ (if done then take len (content_after old.ops base) else content_after old.ops base)
  cut-content len done is full = called-content (CutTo len done) done is full (idle done)
    where
      idle : (d : Bool) → d ≡ false
          → read_after (CutTo len d) (content_after old.ops base) ≡ content_after old.ops base
      idle true is = absurd (cc is)
      idle false is = refl

  pub sync-content : (done : Bool) → new ≡ recorded (Synced done) old
      → content_after new.ops base ≡ content_after old.ops base
  sync-content done is = called-content (Synced done) false is (λ full. refl) (λ same. refl)
