-- The UUID of a case: version 5 of its text under a namespace.
use Rattle.std.specs.Prelude.{ℕ, List, ◌++◌, take}
use Rattle.sha1.specs.Sha1.{sha1}
use Rattle.uuid.specs.Parts.{with_version, with_variant}
use Rattle.uuid.specs.declared.Variant.TheVariants.{RFC4122}
use Rattle.uuid.specs.declared.Version.TheVariants.{Sha1}
use Rattle.fm_entry.specs.declared.case_name.CaseName.{CaseName}
use Rattle.fm_entry.specs.CaseText.{case_text}

-- the first sixteen bytes of the digest of the namespace and the text, with the variant and the
-- version set
unfoldable pub case_uuid : List ℕ → CaseName → List ℕ
case_uuid namespace case =
    with_version (with_variant (take 16 (sha1 (namespace ++ case_text case))) RFC4122) Sha1
