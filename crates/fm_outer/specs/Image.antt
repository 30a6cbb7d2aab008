-- The image that is taken of a disk where a crash is played.
use Rattle.std.specs.Prelude.{ℕ, List, [], ◌∷◌, if◌then◌else◌, length, take, replicate}
use Rattle.fm_outer.specs.declared.image.Image.{Image}
use Rattle.fm_outer.specs.declared.image.Image.TheVariants.{Old, New, Fill}
use Rattle.fm_outer.specs.Record.{Op, Wrote, CutTo, Synced, laid, read_after}

-- what a written range has in the image: what was there, what was written, or one byte throughout
abbrev pub laid_by : Image → ℕ → List ℕ → List ℕ → List ℕ
laid_by Old at bytes image = image
laid_by New at bytes image = laid at bytes image
laid_by (Fill byte) at bytes image = laid at (replicate (length bytes) byte) image

-- the image after a cut: the old length, or the new one
abbrev pub cut_by : Image → ℕ → List ℕ → List ℕ
cut_by Old len image = image
cut_by New len image = take len image
cut_by (Fill byte) len image = take len image

-- the image after a call, where xs was read before it: a failed write is taken as written, a failed
-- cut as not done
abbrev pub image_after : Image → Op → List ℕ → List ℕ → List ℕ
image_after how (Wrote at bytes done) xs image = laid_by how at bytes image
image_after how (CutTo len done) xs image = if done then cut_by how len image else image
image_after how (Synced done) xs image = if done then xs else image

-- the image after the calls
abbrev pub image_run : Image → List Op → List ℕ → List ℕ → List ℕ
image_run how [] xs image = image
image_run how (op ∷ ops) xs image =
    image_run how ops (read_after op xs) (image_after how op xs image)

-- the image after the calls, where a crash before them leaves just these bytes
abbrev pub image_of : Image → List Op → List ℕ → List ℕ
image_of how ops base = image_run how ops base base
