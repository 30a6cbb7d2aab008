-- The image that a played crash leaves is one of those that a crash may leave.
use Rattle.std.proofs.Common.{◌≡◌, ℕ, List, [], ◌∷◌, true, false, length, refl, sym, ap, subst}
use Rattle.std.specs.Prelude.{replicate}
use Rattle.std.proofs.lemmas.List.{length-replicate}
use Rattle.fm_outer.specs.declared.image.Image.{Image}
use Rattle.fm_outer.specs.declared.image.Image.TheVariants.{Old, New, Fill}
use Rattle.fm_outer.specs.Crash.{Torn, Shorter}
use Rattle.fm_outer.specs.Record.{Op, Wrote, CutTo, Synced, read_after, Left, LeftAfter, laid}
use Rattle.fm_outer.specs.Image.{laid_by, cut_by, image_after, image_run, image_of}
use Rattle.fm_outer.specs.MemDisk.{DiskState, Images, content, fresh_disk}
use Rattle.fm_outer.specs.Steps.{torn-none, torn-laid, shorter-none, shorter-all}

torn-by : (how : Image) (at : ℕ) (bytes image : List ℕ)
    → Torn at (length bytes) image (laid_by how at bytes image)
torn-by Old at bytes image = torn-none at (length bytes) image
torn-by New at bytes image = torn-laid at bytes image
torn-by (Fill byte) at bytes image =
    let fill = replicate (length bytes) byte in
    subst (λ (n : ℕ). Torn at n image (laid at fill image)) (length-replicate (length bytes) byte)
    (torn-laid at fill image)

cut-by : (how : Image) (len : ℕ) (image : List ℕ) → Shorter len image (cut_by how len image)
cut-by Old len image = shorter-none len image
cut-by New len image = shorter-all len image
cut-by (Fill byte) len image = shorter-all len image

left-image : (how : Image) (op : Op) (xs image : List ℕ) (before : List ℕ → Type 0) → before image
    → Left op xs before (image_after how op xs image)
left-image how (Wrote at bytes done) xs image before here =
    (image, here, torn-by how at bytes image)
left-image how (CutTo len true) xs image before here = (image, here, cut-by how len image)
left-image how (CutTo len false) xs image before here = (image, here, shorter-none len image)
left-image how (Synced true) xs image before here = refl
left-image how (Synced false) xs image before here = here

left_after-image : (how : Image) (ops : List Op) (xs image : List ℕ) (before : List ℕ → Type 0)
    → before image → LeftAfter ops xs before (image_run how ops xs image)
left_after-image how [] xs image before here = here
left_after-image how (op ∷ ops) xs image before here =
    left_after-image how ops (read_after op xs) (image_after how op xs image) (Left op xs before)
    (left-image how op xs image before here)

pub crash-image : (old new : DiskState) (how : Image) (room size : ℕ) (fails : List ℕ)
    → new ≡ fresh_disk (image_of how old.tape.ops old.base) room size fails
    → Images old (content new)
crash-image old new how room size fails is =
    subst (λ (l : List ℕ). Images old l) (sym (ap (λ (d : DiskState). content d) is))
    (left_after-image how old.tape.ops old.base old.base (λ d. old.base ≡ d) refl)
