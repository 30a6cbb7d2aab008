-- Which states have a spelling.
use Rattle.std.specs.Prelude.{ℕ, ◌^◌, ◌&&◌, not, Bool, true, false, nat_lt, List}
use Rattle.fm_bytes.specs.Numbers.{is_unsigned}
use Rattle.fm_bytes.proofs.Readers.{counted_fits}
use Rattle.fm_entry.specs.Words.{links_fit, word_fits}
use Rattle.fm_entry.specs.WordBytes.{has_links}
use Rattle.fm_entry.specs.declared.broken.Broken.{Broken}
use Rattle.fm_core.specs.Meaning.{OpenCase, Diagnosis}
use Rattle.dx_state.specs.StateBytes.{is_marked}

-- a number of 32 bits
abbrev pub is_number_32 : ℕ → Bool
is_number_32 n = nat_lt n (2 ^ 32)

-- links in order, in a state that has some; else none
abbrev pub case_links_fit : Bool → List Broken → Bool
case_links_fit true links = links_fit links
case_links_fit false links = not (has_links links)

abbrev pub open_case_fits : Bool → OpenCase → Bool
open_case_fits marked c =
    is_unsigned c.number
    && (is_unsigned c.opened
    && (counted_fits 8 is_unsigned c.entries
    && (counted_fits 4 is_number_32 c.observed && case_links_fit marked c.broken)))

abbrev pub state_parts_fit : ℕ → Bool → Diagnosis → Bool
state_parts_fit own marked s =
    is_number_32 s.conf
    && (is_unsigned s.time
    && (is_unsigned s.next
    && (counted_fits 8 (open_case_fits marked) s.open_cases
    && (counted_fits 8 (word_fits own) s.solved
    && counted_fits 4 (counted_fits 2 is_unsigned) s.engines))))

-- the state has a spelling, as one of the module of this number
abbrev pub diagnosis_fits : ℕ → Diagnosis → Bool
diagnosis_fits own s = state_parts_fit own (is_marked s) s
