-- What the front of some bytes reads as: the state of a diagnosis module.
use Rattle.std.specs.Prelude.{ℕ, ◌==◌, ◌||◌, not, Bool, true, false, List, [], Option, Some, None}
use Rattle.std.specs.Prelude.{if◌then◌else◌}
use Rattle.fm_bytes.specs.Reading.{Read, made, number_from, counted_from, both_from, where_from}
use Rattle.fm_bytes.specs.Reading.{coded_from}
use Rattle.fm_entry.specs.Words.{links_ascend}
use Rattle.fm_entry.specs.WordReading.{then_from, link_from, word_from}
use Rattle.fm_entry.specs.declared.broken.Broken.{Broken}
use Rattle.fm_core.specs.Meaning.{OpenCase, Diagnosis}
use Rattle.dx_state.specs.StateBytes.{is_marked}

-- whether a state has broken links, by its first byte
abbrev pub marked_of : ℕ → Option Bool
marked_of n = if n == 1 then Some false else (if n == 2 then Some true else None)

unfoldable pub marked_from : List ℕ → Read Bool
marked_from bytes = coded_from marked_of bytes

-- the broken links of an open case, in a state that has some
unfoldable pub case_links_from : Bool → List ℕ → Read (List Broken)
case_links_from marked bytes =
    if marked then where_from links_ascend (counted_from 4 link_from) bytes
    else Some ([], bytes)

-- an open case
unfoldable pub open_case_from : Bool → List ℕ → Read OpenCase
open_case_from marked bytes =
    made (λ f. record {
      number = f.0;
      opened = f.1.0;
      entries = f.1.1.0;
      observed = f.1.1.1.0;
      broken = f.1.1.1.1;
    })
    (both_from (number_from 8)
    (both_from (number_from 8)
    (both_from (counted_from 8 (number_from 8))
    (both_from (counted_from 4 (number_from 4)) (case_links_from marked)))) bytes)

-- the moments of an engine
abbrev pub moments_from : List ℕ → Read (List ℕ)
moments_from bytes = counted_from 2 (number_from 8) bytes

-- what follows the first byte of a state
unfoldable pub parts_from : ℕ → Bool → List ℕ → Read Diagnosis
parts_from own marked bytes =
    made (λ f. record {
      conf = f.0;
      time = f.1.0;
      next = f.1.1.0;
      open_cases = f.1.1.1.0;
      solved = f.1.1.1.1.0;
      engines = f.1.1.1.1.1;
    })
    (both_from (number_from 4)
    (both_from (number_from 8)
    (both_from (number_from 8)
    (both_from (counted_from 8 (open_case_from marked))
    (both_from (counted_from 8 (word_from own)) (counted_from 4 moments_from))))) bytes)

-- the same, where the first byte says rightly that there are broken links
abbrev pub marked_parts_from : ℕ → Bool → List ℕ → Read Diagnosis
marked_parts_from own marked bytes =
    where_from (λ s. not marked || is_marked s) (parts_from own marked) bytes

-- a state of the module of this number
unfoldable pub diagnosis_from : ℕ → List ℕ → Read Diagnosis
diagnosis_from own bytes =
    made (λ f. f.1) (then_from marked_from (λ marked. marked_parts_from own marked) bytes)
