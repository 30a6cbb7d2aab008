-- The options of `fmdump`, by what its command finds in the words.
use Rattle.std.specs.Prelude.{ℕ, Bool, false, ◌&&◌, not, List, Option, Some, None, is_some}
use Rattle.std.specs.Prelude.{option_map, option_and_then, if◌then◌else◌, codes}
use Rattle.std.specs.Str.{bytes_eq}
use Rattle.uuid.specs.Text.{parsed}
use Rattle.clap.specs.Walk.{Row, Text, first_of}
use Rattle.fm_name.specs.Pattern.{is_pattern}
use Rattle.fm_text.specs.Time.{time_of}
use Rattle.fm_dump.specs.Command.{are_taken, found_rows}
use Rattle.fm_dump.specs.declared.options.DumpOptions.{DumpOptions}

-- a flag is there: then its value is `true`, else `false`
abbrev pub is_true : Option Text → Bool
is_true (Some text) = bytes_eq text (codes "true")
is_true None = false

-- what the value of an option means, none where the option is not there; None where the value can't
-- be read
abbrev pub value_by : {A : Type 0} → (Text → Option A) → Option Text → Option (Option A)
value_by meaning None = Some None
value_by meaning (Some text) = option_map Some (meaning text)

-- the pattern that a text is
abbrev pub pattern_text : Text → Option (List ℕ)
pattern_text text = if is_pattern text then Some text else None

-- a case is asked for only among words, and not among entries
abbrev pub is_allowed_dump : DumpOptions → Bool
is_allowed_dump options = not (options.errors && is_some options.case)

-- options, where they are allowed
abbrev pub allowed : DumpOptions → Option DumpOptions
allowed options = if is_allowed_dump options then Some options else None

-- options of these values, where each of them can be read
unfoldable pub options_with : Bool → Bool → Option (Option Text) → Option (Option (List ℕ))
    → Option (Option ℕ) → Option (Option ℕ) → Option DumpOptions
options_with errors full class case from to =
    option_and_then (λ class. option_and_then (λ case. option_and_then (λ from.
    option_and_then (λ to. allowed (record {
      errors = errors;
      full = full;
      class = class;
      case = case;
      from = from;
      to = to;
    })) to) from) case) class

-- the options that were found
abbrev pub options_in : List Row → Option DumpOptions
options_in rows = options_with
    (is_true (first_of (codes "e") rows)) (is_true (first_of (codes "V") rows))
    (value_by pattern_text (first_of (codes "c") rows))
    (value_by parsed (first_of (codes "u") rows))
    (value_by time_of (first_of (codes "t") rows))
    (value_by time_of (first_of (codes "T") rows))

-- the options that some words mean
unfoldable pub dump_options : List Text → Option DumpOptions
dump_options words = if are_taken words then options_in (found_rows words) else None
