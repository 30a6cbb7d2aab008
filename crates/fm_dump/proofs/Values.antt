-- Values of options: what can't be read, and what all of them come to.
use Rattle.std.proofs.Common.{◌≡◌, ℕ, Bool, true, false, List, Option, Some, None, refl, codes}
use Rattle.std.proofs.Common.{◌∙◌}
use Rattle.uuid.specs.Text.{parsed}
use Rattle.clap.specs.Matches.{first_value}
use Rattle.clap.specs.Walk.{Row, Text, first_of, rows_of}
use Rattle.clap.specs.declared.parser.matches.Found.{Found}
use Rattle.clap.proofs.WalkLemmas.{first_value-rows}
use Rattle.fm_text.specs.Time.{time_of}
use Rattle.fm_dump.specs.Command.{are_taken, found_rows}
use Rattle.fm_dump.specs.Options.{allowed, dump_options, is_true, options_in}
use Rattle.fm_dump.specs.Options.{options_with, pattern_text, value_by}

-- what a getter reads is the first value in the rows
pub found_text : (found : Found) (id : Text) (text : Option Text) → text ≡ first_value found id
    → text ≡ first_of id (rows_of found)
found_text found id text e = e ∙ first_value-rows found id

-- what is never some value is none
pub none_from : (value : Option (List ℕ))
    → ((x : List ℕ) × (value ≡ Some x) → false ≡ true) → value ≡ None
none_from None never = refl
none_from (Some x) never =
    let bad : false ≡ true = never (x, refl) in
    cc

-- words of which the options are these
pub options_are : (words : List Text) (rows : List Row) → are_taken words ≡ true
    → rows ≡ found_rows words → dump_options words ≡ options_in rows
unfolding dump_options
options_are words rows t r = rw (t, r)

-- words that are not taken mean no options
pub none_taken : (words : List Text) → are_taken words ≡ false → dump_options words ≡ None
unfolding dump_options
none_taken words t = rw t

pub no_class : (errors full : Bool) (class : Option (Option Text))
    (case : Option (Option (List ℕ))) (from to : Option (Option ℕ)) → class ≡ None
    → options_with errors full class case from to ≡ None
unfolding options_with
no_class errors full None case from to e = refl
no_class errors full (Some class) case from to e = cc

pub no_case : (errors full : Bool) (class : Option (Option Text))
    (case : Option (Option (List ℕ))) (from to : Option (Option ℕ)) → case ≡ None
    → options_with errors full class case from to ≡ None
unfolding options_with
no_case errors full None case from to e = refl
no_case errors full (Some class) None from to e = refl
no_case errors full (Some class) (Some case) from to e = cc

pub no_from : (errors full : Bool) (class : Option (Option Text))
    (case : Option (Option (List ℕ))) (from to : Option (Option ℕ)) → from ≡ None
    → options_with errors full class case from to ≡ None
unfolding options_with
no_from errors full None case from to e = refl
no_from errors full (Some class) None from to e = refl
no_from errors full (Some class) (Some case) None to e = refl
no_from errors full (Some class) (Some case) (Some from) to e = cc

pub no_to : (errors full : Bool) (class : Option (Option Text))
    (case : Option (Option (List ℕ))) (from to : Option (Option ℕ)) → to ≡ None
    → options_with errors full class case from to ≡ None
unfolding options_with
no_to errors full None case from to e = refl
no_to errors full (Some class) None from to e = refl
no_to errors full (Some class) (Some case) None to e = refl
no_to errors full (Some class) (Some case) (Some from) None e = refl
no_to errors full (Some class) (Some case) (Some from) (Some to) e = cc

-- where a value can't be read there are no options
pub ruleset unread = (no_class, no_case, no_from, no_to)

-- where each value can be read
pub all_read : (rows : List Row) (errors full : Bool) (class : Option (List ℕ))
    (case : Option (List ℕ)) (from to : Option ℕ)
    → errors ≡ is_true (first_of (codes "e") rows) → full ≡ is_true (first_of (codes "V") rows)
    → value_by pattern_text (first_of (codes "c") rows) ≡ Some class
    → value_by parsed (first_of (codes "u") rows) ≡ Some case
    → value_by time_of (first_of (codes "t") rows) ≡ Some from
    → value_by time_of (first_of (codes "T") rows) ≡ Some to
    → options_in rows ≡ allowed (record {
      errors = errors;
      full = full;
      class = class;
      case = case;
      from = from;
      to = to;
    })
unfolding options_with
all_read rows errors full class case from to e f p u t l = rw (e, f, p, u, t, l)
