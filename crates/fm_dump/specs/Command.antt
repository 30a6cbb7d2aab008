-- The command whose words `fmdump` takes: six options by one letter each, two of them flags and
-- four with a value, and neither help nor a version.
use Rattle.std.specs.Prelude.{ℕ, Bool, true, false, List, [], ◌∷◌, Some, codes}
use Rattle.clap.specs.Faults.{fault_of}
use Rattle.clap.specs.Kinds.{Kinds}
use Rattle.clap.specs.Simple.{App, Shape, matches_of, new_app, new_rule, on_top, with_rule}
use Rattle.clap.specs.Walk.{Row, Rule, Text}
use Rattle.clap.specs.declared.builder.action.ArgAction.TheVariants.{Set, SetTrue}

-- an option that is there or not
abbrev pub flag_rule : Text → ℕ → Rule
flag_rule id letter = record (new_rule id) { short = Some letter; action = Some SetTrue }

-- an option with a value
abbrev pub value_rule : Text → ℕ → Rule
value_rule id letter = record (new_rule id) { short = Some letter; action = Some Set }

-- the words begin behind the command's name, and help and the version are no words of it
abbrev pub bare : Shape → Shape
bare s = record s {
  no_binary_name = true;
  disable_help_flag = true;
  disable_version_flag = true;
}

-- the command: -e, -V, -c, -u, -t, -T
abbrev pub dump_app : App
dump_app =
    with_rule (with_rule (with_rule (with_rule (with_rule (with_rule
    (on_top bare (new_app (codes "fmdump")))
    (flag_rule (codes "e") 101)) (flag_rule (codes "V") 86)) (value_rule (codes "c") 99))
    (value_rule (codes "u") 117)) (value_rule (codes "t") 116)) (value_rule (codes "T") 84)

-- these are no kinds of fault
abbrev pub is_none : Kinds → Bool
is_none [] = true
is_none (kind ∷ kinds) = false

-- the command takes the words: it finds no fault with them
unfoldable pub are_taken : List Text → Bool
are_taken words = is_none (fault_of dump_app words)

-- what the command finds in the words: for each option that is there, its values
unfoldable pub found_rows : List Text → List Row
found_rows words = matches_of dump_app words
