-- The bytes that the state of a diagnosis module is kept as.
use Rattle.std.specs.Prelude.{ℕ, ◌∷◌, ◌++◌, [], Bool, List, if◌then◌else◌}
use Rattle.std.specs.List.{list_any}
use Rattle.fm_bytes.specs.Numbers.{u32_bytes, u64_bytes, counted_bytes}
use Rattle.fm_entry.specs.WordBytes.{has_links, link_bytes, word_bytes}
use Rattle.fm_entry.specs.declared.broken.Broken.{Broken}
use Rattle.fm_core.specs.Meaning.{OpenCase, Diagnosis}

-- some open case has broken links
abbrev pub is_marked : Diagnosis → Bool
is_marked s = list_any (λ c. has_links c.broken) s.open_cases

-- the broken links of an open case, in a state that has some
abbrev pub case_links : Bool → List Broken → List ℕ
case_links marked links = if marked then counted_bytes 4 link_bytes links else []

-- an open case: its number, when it was opened, the entries of its reports, their nodes, and the
-- links that they break
abbrev pub open_case_bytes : Bool → OpenCase → List ℕ
open_case_bytes marked c =
    u64_bytes c.number
    ++ (u64_bytes c.opened
    ++ (counted_bytes 8 u64_bytes c.entries
    ++ (counted_bytes 4 u32_bytes c.observed ++ case_links marked c.broken)))

-- the moments of an engine
abbrev pub moments_bytes : List ℕ → List ℕ
moments_bytes moments = counted_bytes 2 u64_bytes moments

-- what follows the first byte: the configuration, the time, the number of the next case, the open
-- cases, the words of the solved ones, and the engines
abbrev pub parts_bytes : Bool → Diagnosis → List ℕ
parts_bytes marked s =
    u32_bytes s.conf
    ++ (u64_bytes s.time
    ++ (u64_bytes s.next
    ++ (counted_bytes 8 (open_case_bytes marked) s.open_cases
    ++ (counted_bytes 8 word_bytes s.solved ++ counted_bytes 4 moments_bytes s.engines))))

-- the first byte: 2 where some open case has broken links, else 1
abbrev pub version_byte : Bool → ℕ
version_byte marked = if marked then 2 else 1

-- a state
abbrev pub diagnosis_bytes : Diagnosis → List ℕ
diagnosis_bytes s = version_byte (is_marked s) ∷ [] ++ parts_bytes (is_marked s) s
