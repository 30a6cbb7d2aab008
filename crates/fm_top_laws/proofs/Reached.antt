-- Where a command ended at a limit, it is one that it may reach.
use Rattle.std.proofs.Common.{◌≡◌, ◌⊎◌, inl, inr, ℕ, ◌<◌, ◌^◌, List, ◌++◌, length, Option}
use Rattle.std.proofs.Common.{Some, None, IfSome, Result, Ok, Err, refl, sym, ◌∙◌, ap, subst, arith}
use Rattle.std.proofs.Common.{append-nil, length-append}
use Rattle.std.specs.Io.KnownBytes.{Appends, Consumes, IsAtEnd}
use Rattle.std.specs.Result.{MatchResult}
use Rattle.ev_listing.specs.declared.form.GraphForm.{GraphForm}
use Rattle.fm_act.specs.Reconciled.{ActuatorState}
use Rattle.fm_answers.specs.Answers.{entries_of}
use Rattle.fm_answers.specs.Replaying.{ReplayRan, ReplayStops, ReplayedAll}
use Rattle.fm_answers.specs.Stops.{of_compiling, of_input}
use Rattle.fm_answers.specs.StreamsAt.{SinkAt, SourceAt}
use Rattle.fm_answers.specs.declared.stops.Stop.{Stop}
use Rattle.fm_answers.specs.declared.stops.Stop.TheVariants.{Act, Damaged, Disk, Exists, Full}
use Rattle.fm_answers.specs.declared.stops.Stop.TheVariants.{Memory, Write}
use Rattle.fm_command.specs.RepairAsked.{RepairAsked}
use Rattle.fm_command.specs.declared.words.AdminCommand.{AdminCommand}
use Rattle.fm_entry.specs.declared.entry.Entry.{Entry}
use Rattle.fm_esc.specs.InputListing.{InputCause}
use Rattle.fm_esc.specs.declared.faults.CompileFault.{CompileFault}
use Rattle.fm_esc.specs.declared.faults.CompileFault.TheVariants as compiling
use Rattle.fm_esc.specs.declared.faults.InputFault.{InputFault}
use Rattle.fm_esc.specs.declared.faults.InputFault.TheVariants as inputs
use Rattle.fm_journal.specs.declared.fault.FullKind.{FullKind}
use Rattle.fm_journal.specs.declared.fault.FullKind.TheVariants.{Input, Numbers, Payload}
use Rattle.fm_line.specs.Lines.{lines_of}
use Rattle.fm_logs.specs.Contents.{Contents}
use Rattle.fm_sources.specs.Sources.{Given, ReadsSources}
use Rattle.fm_sources.specs.declared.faults.SourceFault.{SourceFault}
use Rattle.fm_sources.specs.declared.faults.SourceFault.TheVariants as sources
use Rattle.fm_sources.specs.declared.sources.Sources.{Sources}
use Rattle.fm_top.specs.Accepting.{AcceptRan, AcceptedAll, AcceptedUntil, Grew, NotOpened}
use Rattle.fm_top.specs.Accepting.{OpeningStops}
use Rattle.fm_top.specs.Admin.{AdminRan, StoreUnopened, StoreUntold, command_limit}
use Rattle.fm_top.specs.Esc.{EscEnds, EscInputEnds, TextEnds, after_listing}
use Rattle.fm_top.specs.Explain.{ExplainRan, StoreWithout}
use Rattle.fm_top.specs.Fmd.{ConcludingStops, FmdRan, SettlingEnds, StoreStops}
use Rattle.fm_top.specs.Generate.{GenerateRan, GenerateStops, GenerateUntil, Generates, LinesRan}
use Rattle.fm_top.specs.Generate.{TakingStops, UnbegunStops}
use Rattle.fm_top.specs.GenerateStart.{BeginsLate}
use Rattle.fm_top.specs.Init.{InitRan, MakingEnds, conf_with}
use Rattle.fm_top.specs.Limits.{ReachesWorkLimit, WorkLimit, concluding_limit, draining_limit}
use Rattle.fm_top.specs.Outside.{DisksAt, Outside, Tells, given_of, standing}
use Rattle.fm_top.specs.Repair.{RepairRan, StoreUnmarked, StoreUnrepaired, repair_limit}
use Rattle.fm_top_laws.specs.Limits.{ConcludingPasses, ConfPasses, GeneratedPasses, InputPasses}
use Rattle.fm_top_laws.specs.Limits.{IsOverlong, OfInput, generating_limit}
use Rattle.fm_top_laws.proofs.InputLimits.{input_passes, one_passes, replay_overlong}

-- a command that ended at a limit has this of it
abbrev pub IfFull : (FullKind → Type 0) → Result (Unit {0}) Stop → Type 0
IfFull IsSo (Err (Full kind)) = IsSo kind
IfFull IsSo _ = Unit {0}

-- ---- the ends that commands share

module _ (IsSo : FullKind → Type 0) where
  text_full : (out out_now : SinkAt) (text : List ℕ) (ran : Result (Unit {0}) Stop)
      → TextEnds out out_now text ran → IfFull IsSo ran
  text_full out out_now text (Ok done) ends = tt
  text_full out out_now text (Err Write) ends = tt
  text_full out out_now text (Err Memory) ends = tt
  text_full out out_now text (Err _) ends = absurd ends

  settled_full : (paths : List (List ℕ)) (text : List ℕ) (acts acts_now : List ActuatorState)
      (out out_now : SinkAt) (ran : Result (Unit {0}) Stop)
      → SettlingEnds paths text acts acts_now out out_now ran → IfFull IsSo ran
  settled_full paths text acts acts_now out out_now (Ok done) ends = tt
  settled_full paths text acts acts_now out out_now (Err (Act index)) ends = tt
  settled_full paths text acts acts_now out out_now (Err Write) ends = tt
  settled_full paths text acts acts_now out out_now (Err Memory) ends = tt
  settled_full paths text acts acts_now out out_now (Err _) ends = absurd ends

  opening_full : (disks : DisksAt) (stop : Stop) → OpeningStops disks stop
      → IfFull IsSo (Err stop)
  opening_full disks Disk why = tt
  opening_full disks Memory why = tt
  opening_full disks (Damaged disk place) why = tt
  opening_full disks _ why = absurd why

  concluding_full : (limit : WorkLimit) (disks : DisksAt) (stop : Stop)
      → ((kind : FullKind) → ReachesWorkLimit limit disks kind → IsSo kind)
      → ConcludingStops limit disks stop → IfFull IsSo (Err stop)
  concluding_full limit disks Disk reached why = tt
  concluding_full limit disks (Full kind) reached why = reached kind why
  concluding_full limit disks Memory reached why = tt
  concluding_full limit disks (Damaged disk place) reached why = tt
  concluding_full limit disks _ reached why = absurd why

  sources_full : (fault : SourceFault)
      → IfFull IsSo (Err (of_compiling (compiling.Sources fault)))
  sources_full sources.Read = tt
  sources_full (sources.Rules file place kind) = tt
  sources_full (sources.Topology line kind) = tt
  sources_full sources.NoMemory = tt

  compiled_full : (fault : CompileFault) → IfFull IsSo (Err (of_compiling fault))
  compiled_full (compiling.Sources fault) = sources_full fault
  compiled_full (compiling.Graph file limit) = tt
  compiled_full compiling.NoMemory = tt

-- ---- the input

some_weaker : {P Q : List ℕ → Type 0} (left : Option (List ℕ)) → ((bytes : List ℕ) → P bytes
    → Q bytes) → IfSome left P → IfSome left Q
some_weaker None weaker is = tt
some_weaker (Some bytes) weaker is = weaker bytes is

-- what is so of all that was read is so of the input
all_read : (left left_now : Option (List ℕ)) (read : List ℕ) (P : List ℕ → Type 0)
    → Consumes left left_now read → IsAtEnd left_now → P read → IfSome left P
all_read None left_now read P consumed whole is = tt
all_read (Some bytes) None read P consumed whole is = absurd consumed
all_read (Some bytes) (Some rest) read P consumed whole is =
    subst P
    (sym (consumed ∙ ap (λ (l : List ℕ). read ++ l) whole ∙ append-nil read)) is

given_long : (left left_now : Option (List ℕ)) (bytes : List ℕ) → Consumes left left_now bytes
    → 2 ^ 40 < length bytes → IfSome left (λ all. IsOverlong all Input)
given_long None left_now bytes consumed long = tt
given_long (Some all) None bytes consumed long = absurd consumed
given_long (Some all) (Some rest) bytes consumed long =
    omega (arith, long, ap (λ (l : List ℕ). length l) consumed, length-append bytes rest)

-- ---- accept, fmd -1, replay

module _ (input input_now : SourceAt) (out out_now : SinkAt) (disks disks_now : DisksAt) where
  abbrev AcceptLimit : FullKind → Type 0
  AcceptLimit kind = OfInput input (λ bytes. InputPasses bytes disks kind)

  abbrev FmdLimit : FullKind → Type 0
  FmdLimit kind = OfInput input (λ bytes. ConcludingPasses bytes disks kind)

  until_full : (IsSo : FullKind → Type 0) (stop : Stop)
      → ((kind : FullKind) → AcceptLimit kind → IsSo kind)
      → AcceptedUntil input input_now out out_now disks disks_now stop → IfFull IsSo (Err stop)
  until_full IsSo (Full kind) weaker until =
      weaker kind
      (input_passes disks disks_now until.next (Appends out.bytes out_now.bytes) input.left
      input_now.left kind until.ran)
  until_full IsSo _ weaker until = tt

  accept_went : (ran : Result (Unit {0}) Stop)
      → MatchResult ran (λ _. AcceptedAll input input_now out out_now disks disks_now)
      (λ stop. NotOpened input input_now out out_now disks disks_now stop
      ⊎ AcceptedUntil input input_now out out_now disks disks_now stop)
      → IfFull AcceptLimit ran
  accept_went (Ok done) went = tt
  accept_went (Err stop) (inl unopened) = opening_full AcceptLimit disks stop unopened.why
  accept_went (Err stop) (inr until) = until_full AcceptLimit stop (λ kind is. is) until

  fmd_passes : (kind : FullKind) → AcceptLimit kind → FmdLimit kind
  fmd_passes kind is = some_weaker input.left (λ bytes passes. inl passes) is

  concluded_passes : (all : AcceptedAll input input_now out out_now disks disks_now)
      (kind : FullKind)
      → ReachesWorkLimit (concluding_limit (entries_of (lines_of all.ran.read))) disks kind
      → FmdLimit kind
  concluded_passes all kind reached =
      all_read input.left input_now.left all.ran.read (λ bytes. ConcludingPasses bytes disks kind)
      all.ran.consumed all.ran.whole (inr reached)

  store_full : (got : Sources) (stop : Stop)
      → StoreStops input input_now out out_now disks disks_now got stop
      → IfFull FmdLimit (Err stop)
  store_full got stop (inl unopened) = opening_full FmdLimit disks stop unopened.why
  store_full got stop (inr (inl other)) =
      subst (λ (s : Stop). IfFull FmdLimit (Err s)) (sym other.why) tt
  store_full got stop (inr (inr (same, inl until))) = until_full FmdLimit stop fmd_passes until
  store_full got stop (inr (inr (same, inr un))) =
      concluding_full FmdLimit (concluding_limit (entries_of (lines_of un.accepted.ran.read))) disks
      stop (concluded_passes un.accepted) un.why

pub accept_full : (before after : Outside) (ran : Result (Unit {0}) Stop)
    → AcceptRan before.input after.input before.out after.out before.disks after.disks ran
    → IfFull (λ kind. OfInput before.input (λ bytes. InputPasses bytes before.disks kind)) ran
accept_full before after ran did =
    accept_went before.input after.input before.out after.out before.disks after.disks ran did.went

pub fmd_full : (before after : Outside) (ran : Result (Unit {0}) Stop) → FmdRan before after ran
    → IfFull (λ kind. OfInput before.input (λ bytes. ConcludingPasses bytes before.disks kind)) ran
fmd_full before after ran (inl s) =
    subst (IfFull _) (sym s.told) (compiled_full _ s.fault)
fmd_full before after ran (inr (inl s)) =
    subst (IfFull _) (sym s.told)
    (store_full before.input after.input before.out after.out before.disks after.disks s.got s.stop
    s.store.went)
fmd_full before after ran (inr (inr s)) =
    settled_full _ s.conclusion.wanted s.conclusion.summary.items before.acts after.acts s.middle
    after.out ran s.settled

replay_stops : (puts : List ℕ → Type 0) (left left_now : Option (List ℕ)) (stop : Stop)
    → ReplayStops puts (Consumes left left_now) (IsAtEnd left_now) stop
    → IfFull (λ kind. IfSome left (λ bytes. IsOverlong bytes kind)) (Err stop)
replay_stops puts left left_now (Full kind) (inl until) =
    replay_overlong puts left left_now kind until
replay_stops puts left left_now (Full kind) (inr cut) = absurd cut.why
replay_stops puts left left_now _ stops = tt

replay_went : (puts : List ℕ → Type 0) (left left_now : Option (List ℕ))
    (ran : Result (Unit {0}) Stop)
    → MatchResult ran (λ _. ReplayedAll puts (Consumes left left_now) (IsAtEnd left_now))
    (ReplayStops puts (Consumes left left_now) (IsAtEnd left_now))
    → IfFull (λ kind. IfSome left (λ bytes. IsOverlong bytes kind)) ran
replay_went puts left left_now (Ok done) went = tt
replay_went puts left left_now (Err stop) went = replay_stops puts left left_now stop went

pub replay_full : (input input_now : SourceAt) (out out_now : SinkAt)
    (ran : Result (Unit {0}) Stop) → ReplayRan input input_now out out_now ran
    → IfFull (λ kind. OfInput input (λ bytes. IsOverlong bytes kind)) ran
replay_full input input_now out out_now ran did =
    replay_went (Appends out.bytes out_now.bytes) input.left input_now.left ran did.went

-- ---- init, esc

making_full : (namespace : List ℕ) (old new : Given SourceAt) (before after : DisksAt)
    (got : Sources) (ran : Result (Unit {0}) Stop) → ReadsSources standing old new (Ok got)
    → MakingEnds before after (conf_with namespace got) ran
    → IfFull (ConfPasses namespace old new) ran
making_full namespace old new before after got (Ok done) read ends = tt
making_full namespace old new before after got (Err Exists) read ends = tt
making_full namespace old new before after got (Err (Full Payload)) read (same, none, long) =
    (got, read, long)
making_full namespace old new before after got (Err Memory) read ends = tt
making_full namespace old new before after got (Err Disk) read ends = tt
making_full namespace old new before after got (Err _) read ends = absurd ends

pub init_full : (namespace : List ℕ) (before after : Outside) (ran : Result (Unit {0}) Stop)
    → InitRan namespace before after ran
    → IfFull (ConfPasses namespace (given_of before) (given_of after)) ran
init_full namespace before after ran did =
    elim did.ends [
      | inl tried ↦ making_full namespace (given_of before) (given_of after) before.disks
          after.disks
          tried.got ran tried.read tried.making
      | inr untried ↦ subst (IfFull (ConfPasses namespace (given_of before) (given_of after)))
          (sym untried.told)
          (compiled_full (ConfPasses namespace (given_of before) (given_of after)) untried.fault)
    ]

pub esc_full : (IsSo : FullKind → Type 0) (form : GraphForm) (old new : Given SourceAt)
    (out out_now : SinkAt) (ran : Result (Unit {0}) Stop)
    → EscEnds standing form old new out out_now ran → IfFull IsSo ran
esc_full IsSo form old new out out_now ran (inl (text, is, ends)) =
    text_full IsSo out out_now text ran ends
esc_full IsSo form old new out out_now ran (inr (fault, cause, told, unsaid)) =
    subst (IfFull IsSo) (sym told) (compiled_full IsSo fault)

module _ (input input_now : SourceAt) (out out_now : SinkAt) where
  abbrev InputLimit : FullKind → Type 0
  InputLimit kind = OfInput input (λ bytes. IsOverlong bytes kind)

  listing_full : (bad : Option ℕ) → IfFull InputLimit (after_listing bad)
  listing_full None = tt
  listing_full (Some place) = tt

  unlisted_full : (fault : InputFault) → InputCause standing input input_now fault
      → IfFull InputLimit (Err (of_input fault))
  unlisted_full inputs.Read cause = tt
  unlisted_full inputs.Full (bytes, gave, long) =
      given_long input.left input_now.left bytes gave.consumed long
  unlisted_full inputs.NoMemory cause = tt

  pub esc_input_full : (ran : Result (Unit {0}) Stop)
      → EscInputEnds standing input input_now out out_now ran → IfFull InputLimit ran
  esc_input_full ran (inl whole) =
      subst (IfFull InputLimit) (sym whole.ends) (listing_full whole.bad)
  esc_input_full ran (inr (inl cut)) =
      subst (IfFull InputLimit) (sym cut.ends)
      (text_full InputLimit out out_now cut.text (Err cut.stop) cut.cut)
  esc_input_full ran (inr (inr not)) =
      subst (IfFull InputLimit) (sym not.ends) (unlisted_full not.fault not.cause)

-- ---- an operator's commands

module _ (out out_now : SinkAt) (disks disks_now : DisksAt) where
  untold_full : (limit : WorkLimit) (stop : Stop)
      → StoreUnopened disks disks_now stop ⊎ StoreUntold limit disks disks_now stop
      → IfFull (ReachesWorkLimit limit disks) (Err stop)
  untold_full limit stop (inl unopened) =
      opening_full (ReachesWorkLimit limit disks) disks stop unopened.why
  untold_full limit stop (inr untold) =
      concluding_full (ReachesWorkLimit limit disks) limit disks stop (λ kind is. is) untold.why

  pub admin_full : (asked : AdminCommand) (ran : Result (Unit {0}) Stop)
      → AdminRan asked out out_now disks disks_now ran
      → IfFull (ReachesWorkLimit (command_limit asked) disks) ran
  admin_full asked ran (inl told) =
      text_full (ReachesWorkLimit (command_limit asked) disks) out out_now told.text ran told.put
  admin_full asked ran (inr untold) =
      subst (IfFull (ReachesWorkLimit (command_limit asked) disks)) (sym untold.told)
      (untold_full (command_limit asked) untold.stop untold.store.went)

  without_full : (uuid : List ℕ) (stop : Stop)
      → StoreUnopened disks disks_now stop
      ⊎ (StoreWithout uuid disks disks_now stop ⊎ StoreUntold draining_limit disks disks_now stop)
      → IfFull (ReachesWorkLimit draining_limit disks) (Err stop)
  without_full uuid stop (inl unopened) = untold_full draining_limit stop (inl unopened)
  without_full uuid stop (inr (inl without)) =
      subst (λ (s : Stop). IfFull (ReachesWorkLimit draining_limit disks) (Err s))
      (sym without.why) tt
  without_full uuid stop (inr (inr untold)) = untold_full draining_limit stop (inr untold)

  pub explain_full : (uuid : List ℕ) (ran : Result (Unit {0}) Stop)
      → ExplainRan uuid out out_now disks disks_now ran
      → IfFull (ReachesWorkLimit draining_limit disks) ran
  explain_full uuid ran (inl told) =
      text_full (ReachesWorkLimit draining_limit disks) out out_now told.text ran told.put
  explain_full uuid ran (inr untold) =
      subst (IfFull (ReachesWorkLimit draining_limit disks)) (sym untold.told)
      (without_full uuid untold.stop untold.store.went)

  unrepaired_full : (asked : RepairAsked) (stop : Stop)
      → StoreUnopened disks disks_now stop
      ⊎ (StoreUnmarked asked disks disks_now stop ⊎ StoreUnrepaired asked disks disks_now stop)
      → IfFull (ReachesWorkLimit (repair_limit asked) disks) (Err stop)
  unrepaired_full asked stop (inl unopened) =
      opening_full (ReachesWorkLimit (repair_limit asked) disks) disks stop unopened.why
  unrepaired_full asked stop (inr (inl unmarked)) =
      subst (λ (s : Stop). IfFull (ReachesWorkLimit (repair_limit asked) disks) (Err s))
      (sym unmarked.why) tt
  unrepaired_full asked stop (inr (inr un)) =
      concluding_full (ReachesWorkLimit (repair_limit asked) disks) (repair_limit asked) disks stop
      (λ kind is. is) un.why

  pub repair_full : (asked : RepairAsked) (acts acts_now : List ActuatorState)
      (ran : Result (Unit {0}) Stop) → RepairRan asked acts acts_now out out_now disks disks_now ran
      → IfFull (ReachesWorkLimit (repair_limit asked) disks) ran
  repair_full asked acts acts_now ran (inl s) =
      subst (IfFull (ReachesWorkLimit (repair_limit asked) disks)) (sym s.told)
      (unrepaired_full asked s.stop s.store.went)
  repair_full asked acts acts_now ran (inr s) =
      settled_full (ReachesWorkLimit (repair_limit asked) disks) s.one.wanted _ acts acts_now out
      out_now ran s.settled

-- ---- what is generated

-- the greatest moment is too late, which a look finds
abbrev pub StartsLate : DisksAt → FullKind → Type 0
StartsLate disks kind =
    (Full kind ≡ Full Numbers) × ((told : Contents) → Tells disks told → BeginsLate told)

module _ (number : ℕ) (disks disks_now : DisksAt) where
  abbrev pub GenerateLimit : FullKind → Type 0
  GenerateLimit kind =
      StartsLate disks kind
      ⊎ (GeneratedPasses number disks kind
      ⊎ ReachesWorkLimit (generating_limit number) disks kind)

  unbegun_full : (IsSo : FullKind → Type 0) (stop : Stop)
      → ((kind : FullKind) → StartsLate disks kind → IsSo kind) → UnbegunStops disks stop
      → IfFull IsSo (Err stop)
  unbegun_full IsSo (Full Numbers) weaker why = weaker Numbers (refl, why)
  unbegun_full IsSo Memory weaker why = tt
  unbegun_full IsSo _ weaker why = absurd why

  taken_passes : (kind : FullKind) (until : GenerateUntil number disks disks_now (Full kind))
      → TakingStops (Grew disks disks_now until.next) until.ran.front until.ran.rest (Full kind)
      → GeneratedPasses number disks kind
  taken_passes kind until (entry, more, rest_is, took) told tells = record {
    stood = (took told tells).stood;
    each = λ book. (
      until.entries,
      (until.are told tells).each book,
      one_passes disks disks_now until.next told until.entries until.ran.front more entry kind
          (until.ran.entries_are ∙ ap (λ (es : List Entry). until.ran.front ++ es) rest_is) tells
          took book,
    );
  }

  taken_full : (stop : Stop) → GenerateUntil number disks disks_now stop
      → IfFull GenerateLimit (Err stop)
  taken_full (Full kind) until = inr (inl (taken_passes kind until until.ran.stops))
  taken_full _ until = tt

  concluding_passes : (entries : List Entry) → Generates number disks entries → (kind : FullKind)
      → ReachesWorkLimit (concluding_limit entries) disks kind
      → ReachesWorkLimit (generating_limit number) disks kind
  concluding_passes entries are kind reached told tells =
      let each = reached told tells in
      record {
        stood = each.stood;
        each = λ book. record {
          figures = (each.each book).figures;
          are = (each.each book).are;
          reached = (entries, (are told tells).each book, (each.each book).reached);
        };
      }

  generate_stops : (stop : Stop) → GenerateStops number disks disks_now stop
      → IfFull GenerateLimit (Err stop)
  generate_stops stop (inl unopened) = opening_full GenerateLimit disks stop unopened.why
  generate_stops stop (inr (inl un)) =
      unbegun_full GenerateLimit stop (λ kind late. inl late) un.why
  generate_stops stop (inr (inr (inl until))) = taken_full stop until
  generate_stops stop (inr (inr (inr un))) =
      concluding_full GenerateLimit (concluding_limit un.entries) disks stop
      (λ kind reached. inr (inr (concluding_passes un.entries un.are kind reached))) un.why

  pub generate_full : (acts acts_now : List ActuatorState) (out out_now : SinkAt)
      (ran : Result (Unit {0}) Stop)
      → GenerateRan number acts acts_now out out_now disks disks_now ran
      → IfFull GenerateLimit ran
  generate_full acts acts_now out out_now ran (inl s) =
      subst (IfFull GenerateLimit) (sym s.told) (generate_stops s.stop s.store.went)
  generate_full acts acts_now out out_now ran (inr s) =
      settled_full GenerateLimit s.conclusion.wanted s.conclusion.summary.items acts acts_now out
      out_now ran s.settled

  pub lines_full : (out out_now : SinkAt) (ran : Result (Unit {0}) Stop)
      → LinesRan number out out_now disks disks_now ran → IfFull (StartsLate disks) ran
  lines_full out out_now ran (inl put) =
      text_full (StartsLate disks) out out_now put.text ran put.put
  lines_full out out_now ran (inr untold) =
      subst (IfFull (StartsLate disks)) (sym untold.told)
      (elim untold.store.went [
        | inl unopened ↦ opening_full (StartsLate disks) disks untold.stop unopened.why
        | inr un ↦ unbegun_full (StartsLate disks) untold.stop (λ kind late. late) un.why
      ])
