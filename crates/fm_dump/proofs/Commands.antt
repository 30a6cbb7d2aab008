-- The command is one of those whose matches and faults `clap` defines.
use Rattle.std.proofs.Common.{◌≡◌, true, false, List, [], ◌∷◌, refl, inl, inr, ap}
use Rattle.std.proofs.Common.{ap₂, subst, ◌∙◌, Result}
use Rattle.clap.specs.Built.{AddsArg}
use Rattle.clap.specs.Faults.{fault_of, is_simple_and_free}
use Rattle.clap.specs.Kinds.{FailsBy, Kinds, HasKind, IsAmong}
use Rattle.clap.specs.Matches.{found_of}
use Rattle.clap.specs.Simple.{App, HasMatchesOf, app_of, app_of_fields, is_simple, matches_of}
use Rattle.clap.specs.Simple.{new_app, on_top, with_rule}
use Rattle.clap.specs.Values.{kind_of}
use Rattle.clap.specs.Walk.{Rule, Text, rows_of, rule_of}
use Rattle.clap.specs.declared.builder.arg.Arg.{Arg}
use Rattle.clap.specs.declared.builder.command.Command.{Command}
use Rattle.clap.specs.declared.builder.command.Command.TheViews.{out-Command}
use Rattle.clap.specs.declared.error.Error.{Error}
use Rattle.clap.specs.declared.error.kind.ErrorKind.{ErrorKind}
use Rattle.clap.specs.declared.error.kind.ErrorKind.TheVariants.{OutOfMemory}
use Rattle.clap.specs.declared.parser.matches.ArgMatches.{ArgMatches}
use Rattle.fm_dump.specs.Command.{dump_app, are_taken, found_rows, bare, is_none}
use Rattle.fm_dump.specs.declared.options.DumpFault.{DumpFault}
use Rattle.fm_dump.specs.declared.options.DumpFault.TheVariants.{NoMemory, Usage}

pub app_is_simple : is_simple dump_app ≡ true
app_is_simple = refl

pub app_is_free : is_simple_and_free dump_app ≡ true
app_is_free = refl

-- words with which no fault is found are taken
pub taken : (words : List Text) → fault_of dump_app words ≡ [] → are_taken words ≡ true
unfolding are_taken
taken words e = ap is_none e

some_kind : (k : ErrorKind) (kinds : Kinds) → IsAmong k kinds → is_none kinds ≡ false
some_kind k [] h = elim h [ ]
some_kind k (x ∷ xs) h = refl

-- words with which a fault is found are not
pub not_taken : (words : List Text) (k : ErrorKind) → IsAmong k (fault_of dump_app words)
    → are_taken words ≡ false
unfolding are_taken
not_taken words k h = some_kind k (fault_of dump_app words) h

-- what the three settings leave of a new command
pub bare_from : (new named helped bare_one : Command) (name : Text)
    → app_of new ≡ new_app name
    → out-Command named ≡ record (out-Command new) { no_binary_name = true }
    → out-Command helped ≡ record (out-Command named) { disable_help_flag = true }
    → out-Command bare_one ≡ record (out-Command helped) { disable_version_flag = true }
    → app_of bare_one ≡ on_top bare (new_app name)
bare_from new named helped bare_one name e first second third =
    let one : app_of named ≡ on_top (λ s. record s { no_binary_name = true }) (app_of new) =
    ap app_of_fields first in
    let two : app_of helped ≡ on_top (λ s. record s { disable_help_flag = true }) (app_of named) =
    ap app_of_fields second in
    let three : app_of bare_one
    ≡ on_top (λ s. record s { disable_version_flag = true }) (app_of helped) =
    ap app_of_fields third in
    three ∙ ap (on_top (λ s. record s { disable_version_flag = true })) two
    ∙ ap (on_top (λ s. record s { disable_version_flag = true; disable_help_flag = true })) one
    ∙ ap (on_top bare) e

-- one more option
pub added : (old new : Command) (arg : Arg) (app : App) (rule : Rule) → AddsArg old arg new
    → arg.global ≡ false → app_of old ≡ app → rule_of arg ≡ rule → app_of new ≡ with_rule app rule
added old new arg app rule adds own e r = adds.shape own ∙ ap₂ with_rule e r

-- what a parse says of the command's words, where the command is this one
pub found_is : (command : Command) (words : List Text) (m : ArgMatches) → app_of command ≡ dump_app
    → HasMatchesOf (app_of command) words m → rows_of (found_of m) ≡ found_rows words
unfolding found_rows
found_is command words m e has =
    (has (ap is_simple e ∙ app_is_simple)).0 ∙ ap (λ app. matches_of app words) e

pub faults_are : {T : Type 0} (command : Command) (words : List Text) (r : Result T Error)
    → app_of command ≡ dump_app
    → (is_simple_and_free (app_of command) ≡ true → FailsBy (fault_of (app_of command) words) r)
    → FailsBy (fault_of dump_app words) r
faults_are {T} command words r e fails =
    subst (λ (app : App). FailsBy (fault_of app words) r) e
    (fails (ap is_simple_and_free e ∙ app_is_free))

-- an error that is no want of memory is one of a fault with the words
pub refused_is : (words : List Text) (e : Error) (kind : ErrorKind) (fault : DumpFault)
    → HasKind (fault_of dump_app words) e → kind ≡ kind_of e
    → (kind ≡ OutOfMemory → fault ≡ NoMemory) → fault ≡ Usage → are_taken words ≡ false
refused_is words e kind fault (inl memory) k wants usage =
    let bad : fault ≡ NoMemory = wants (k ∙ memory) in
    cc
refused_is words e kind fault (inr among) k wants usage = not_taken words (kind_of e) among
