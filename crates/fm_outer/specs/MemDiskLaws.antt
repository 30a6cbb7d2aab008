-- The laws of a disk, for the disk in memory.
use Rattle.std.specs.Prelude.{◌≡◌, ℕ, ◌≤◌, List, [], ◌∷◌, true, false, length, Some}
use Rattle.std.proofs.Common.{refl, sym, subst}
use Rattle.std.proofs.Math.Nat.{le_refl}
use Rattle.std.proofs.lemmas.List.{take_all}
use Rattle.fm_outer.specs.Record.{Op, Wrote, CutTo, Synced, read_after, content_after, Left}
use Rattle.fm_outer.specs.Record.{LeftAfter, IsImage}
use Rattle.fm_outer.specs.MemDisk.{DiskState, content, Images, LeftSince}
use Rattle.fm_outer.specs.Steps.{torn-none, torn-laid, shorter-none, shorter-all}

pub counts_now_lem : (disk : DiskState) (t : ℕ) (c : List ℕ) → t ≤ length disk.tape.ops
    → Images disk c → LeftSince disk t c
counts_now_lem disk t c le now =
    let ops = disk.tape.ops in (
      length ops,
      le,
      le_refl (length ops),
      subst (λ (l : List Op). IsImage l disk.base c)
          (sym (take_all (length ops) ops (le_refl (length ops)))) now,
    )

pub only_now_lem : (disk : DiskState) (c : List ℕ) → LeftSince disk (length disk.tape.ops) c
    → Images disk c
only_now_lem disk c left =
    subst (λ (l : List Op). IsImage l disk.base c) (take_all left.0 disk.tape.ops left.1) left.3

-- what a read gives after a call is among what a crash after it may leave
left-read : (op : Op) (xs : List ℕ) (before : List ℕ → Type 0) → before xs
    → Left op xs before (read_after op xs)
left-read (Wrote at bytes true) xs before here = (xs, here, torn-laid at bytes xs)
left-read (Wrote at bytes false) xs before here = (xs, here, torn-none at (length bytes) xs)
left-read (CutTo len true) xs before here = (xs, here, shorter-all len xs)
left-read (CutTo len false) xs before here = (xs, here, shorter-none len xs)
left-read (Synced true) xs before here = refl
left-read (Synced false) xs before here = here

pub left_after-read : (ops : List Op) (xs : List ℕ) (before : List ℕ → Type 0) → before xs
    → LeftAfter ops xs before (content_after ops xs)
left_after-read [] xs before here = here
left_after-read (op ∷ ops) xs before here =
    left_after-read ops (read_after op xs) (Left op xs before) (left-read op xs before here)

pub seen_is_image_lem : (disk : DiskState) (c : List ℕ) → Some (content disk) ≡ Some c
    → Images disk c
seen_is_image_lem disk c is =
    subst (λ (l : List ℕ). Images disk l) (some_same is)
    (left_after-read disk.tape.ops disk.base (λ d. disk.base ≡ d) refl)
  where
    some_same : Some (content disk) ≡ Some c → content disk ≡ c
    some_same same = cc same
