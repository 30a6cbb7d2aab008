-- Which words are which command.
use Rattle.std.specs.Prelude.{ℕ, ◌-◌, ◌^◌, List, [], ◌∷◌, Option, Some, None, codes}
use Rattle.std.specs.Prelude.{if◌then◌else◌}
use Rattle.std.specs.Option.{option_map}
use Rattle.std.specs.Str.{bytes_eq}
use Rattle.uuid.specs.Text.{parsed}
use Rattle.fm_bytes.specs.Decimals.{digits_within}
use Rattle.fm_command.specs.declared.request.Repair.{Repair as Said}
use Rattle.fm_command.specs.declared.request.Repair.TheVariants.{Repaired, Replaced, Acquit}
use Rattle.fm_dump.specs.Options.{dump_options}
use Rattle.fm_name.specs.Path.{is_path}
use Rattle.ev_listing.specs.declared.form.GraphForm.TheVariants.{Listed, Compiled}
use Rattle.fm_command.specs.declared.words.Command.{Command}
use Rattle.fm_command.specs.declared.words.Command.TheVariants.{Accept, Fmd, Replay, Init, Esc}
use Rattle.fm_command.specs.declared.words.Command.TheVariants.{EscInput, Admin, Repair, Explain}
use Rattle.fm_command.specs.declared.words.Command.TheVariants.{Generate, GeneratedLines}
use Rattle.fm_command.specs.declared.words.AdminCommand.TheVariants.{Config, Dump, Faulty, Rotate}

-- the command of one word
abbrev pub command_in : List ℕ → Option Command
command_in word =
    if bytes_eq word (codes "accept") then Some Accept
    else (if bytes_eq word (codes "replay") then Some Replay
    else (if bytes_eq word (codes "esc") then Some (Esc Listed) else None))

-- the command of `esc` and an option
abbrev pub esc_with : List ℕ → Option Command
esc_with option =
    if bytes_eq option (codes "-b") then Some (Esc Compiled)
    else (if bytes_eq option (codes "-l") then Some EscInput else None)

-- the command `fmd` with an option
abbrev pub fmd_with : List ℕ → Option Command
fmd_with option = if bytes_eq option (codes "-1") then Some Fmd else None

-- the command `fmadm` and a word
abbrev pub fmadm_with : List ℕ → Option Command
fmadm_with second =
    if bytes_eq second (codes "faulty") then Some (Admin Faulty)
    else (if bytes_eq second (codes "config") then Some (Admin Config)
    else (if bytes_eq second (codes "rotate") then Some (Admin Rotate) else None))

-- the command `explain` and the UUID of a case
abbrev pub explain_with : List ℕ → Option Command
explain_with second = option_map Explain (parsed second)

-- the number below 2^64 that a word is
abbrev pub word_number : List ℕ → Option ℕ
word_number word = digits_within (2 ^ 64 - 1) word

-- the command `gen` and a number
abbrev pub generate_with : List ℕ → Option Command
generate_with second = option_map Generate (word_number second)

-- the command of two words: `init` and a namespace, `esc` or `fmd` and an option, `fmadm` and what
-- is asked for, `explain` and a UUID, or `gen` and a number
unfoldable pub command_with : List ℕ → List ℕ → Option Command
command_with word second =
    if bytes_eq word (codes "init") then option_map Init (parsed second)
    else (if bytes_eq word (codes "esc") then esc_with second
    else (if bytes_eq word (codes "fmd") then fmd_with second
    else (if bytes_eq word (codes "fmadm") then fmadm_with second
    else (if bytes_eq word (codes "explain") then explain_with second
    else (if bytes_eq word (codes "gen") then generate_with second else None)))))

-- the path that a word is
abbrev pub path_of : List ℕ → Option (List ℕ)
path_of word = if is_path word then Some word else None

-- what an operator says of repairs: that the resource at a path was repaired, or replaced, or that
-- the suspects of the case with a UUID are acquitted
unfoldable pub repair_with : List ℕ → List ℕ → Option Said
repair_with word third =
    if bytes_eq word (codes "repaired") then option_map Repaired (path_of third)
    else (if bytes_eq word (codes "replaced") then option_map Replaced (path_of third)
    else (if bytes_eq word (codes "acquit") then option_map Acquit (parsed third) else None))

-- the command that says it at a moment
abbrev pub repair_at : ℕ → Option Said → Option Command
repair_at now said =
    option_map (λ repair. Repair (record { moment = now; repair = repair })) said

-- the command `gen`, the option `-l` and a number
abbrev pub lines_with : List ℕ → List ℕ → Option Command
lines_with option third =
    if bytes_eq option (codes "-l") then option_map GeneratedLines (word_number third) else None

-- the command of three words: `gen`, its option and a number; or `fmadm`, what is said of repairs,
-- and of what
unfoldable pub command_about : List ℕ → List ℕ → List ℕ → ℕ → Option Command
command_about word second third now =
    if bytes_eq word (codes "gen") then lines_with second third
    else (if bytes_eq word (codes "fmadm") then repair_at now (repair_with second third) else None)

-- the command of one word, two or three, at a moment
abbrev pub short_command : List (List ℕ) → ℕ → Option Command
short_command [] now = None
short_command (word ∷ []) now = command_in word
short_command (word ∷ second ∷ []) now = command_with word second
short_command (word ∷ second ∷ third ∷ []) now = command_about word second third now
short_command (word ∷ second ∷ third ∷ fourth ∷ more) now = None

-- the command `fmdump` and the words behind it, where these are options
abbrev pub dump_with : List (List ℕ) → Option Command
dump_with words = option_map (λ options. Admin (Dump options)) (dump_options words)

-- the command of the words at a moment, if they name one
abbrev pub command_of : List (List ℕ) → ℕ → Option Command
command_of [] now = None
command_of (word ∷ more) now =
    if bytes_eq word (codes "fmdump") then dump_with more else short_command (word ∷ more) now

-- words that are this command, or none, may take memory to be read
abbrev pub TakesMemory : Option Command → Type 0
TakesMemory None = Unit {0}
TakesMemory (Some (Admin asked)) = Unit {0}
TakesMemory (Some (Repair asked)) = Unit {0}
TakesMemory (Some _) = ⊥
