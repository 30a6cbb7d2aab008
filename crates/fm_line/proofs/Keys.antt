-- The keys of an object.
use Rattle.std.proofs.Common.{◌≡◌, Some, None, refl, ap}
use Rattle.serde_json.specs.Data.{Data, null, boolean, number, string, array, object, Members}
use Rattle.serde_json.specs.Events.{members_len}
use Rattle.serde_json.specs.Find.{as_object}
use Rattle.fm_line.specs.Forms.{key_count}

pub key_count_object : (d : Data) (ms : Members) → Some ms ≡ as_object d
    → members_len ms ≡ key_count d
key_count_object null ms is = cc
key_count_object (boolean b) ms is = cc
key_count_object (number n) ms is = cc
key_count_object (string s) ms is = cc
key_count_object (array ds) ms is = cc
key_count_object (object ns) ms is = let same : ms ≡ ns = cc in ap members_len same

pub key_count_other : (d : Data) → None ≡ as_object d → 0 ≡ key_count d
key_count_other null is = refl
key_count_other (boolean b) is = refl
key_count_other (number n) is = refl
key_count_other (string s) is = refl
key_count_other (array ds) is = refl
key_count_other (object ns) is = cc
