-- A valid run ends with all done, or for want of memory.
use Rattle.std.proofs.Common.{◌≡◌, inl, inr, ℕ, ◌≤◌, List, [], ◌∷◌}
use Rattle.std.proofs.Common.{Option, Some, None, Result, Ok, Err, refl, ap, subst, arith}
use Rattle.fm_answers.specs.Ending.{EndsAs}
use Rattle.fm_answers.specs.Refusing.{PutCut}
use Rattle.fm_answers.specs.Stops.{last_text}
use Rattle.fm_answers.specs.StreamsAt.{SinkAt}
use Rattle.fm_answers.specs.declared.status.ToolStatus.{ToolStatus}
use Rattle.fm_answers.specs.declared.status.ToolStatus.TheVariants.{NoMemory}
use Rattle.fm_answers.specs.declared.stops.Stop.{Stop}
use Rattle.fm_answers.specs.declared.stops.Stop.TheVariants.{Act, Disk, Full, Memory, Read, Write}
use Rattle.fm_command.specs.declared.words.Command.{Command}
use Rattle.fm_command.specs.declared.words.Command.TheVariants.{Accept, Fmd, Replay, Init, Esc}
use Rattle.fm_command.specs.declared.words.Command.TheVariants.{EscInput, Admin, Repair, Explain}
use Rattle.fm_command.specs.declared.words.Command.TheVariants.{Generate, GeneratedLines}
use Rattle.fm_journal.specs.declared.fault.FullKind.{FullKind}
use Rattle.fm_outer.specs.Failures.{Rose}
use Rattle.fm_top.specs.Calls.{Did, Does, Ran}
use Rattle.fm_top.specs.Order.{FirstFinds, Look, World, looks, world_of}
use Rattle.fm_top.specs.Outside.{Outside, given_of}
use Rattle.fm_top.proofs.SourceFaults.{ok_no_err}
use Rattle.fm_top_laws.specs.Limits.{MayReach}
use Rattle.fm_top_laws.specs.Valid.{FindNothing, HasReadInput, IsDoneOrWants, IsValidOf, IsValidRun}
use Rattle.fm_top_laws.proofs.Reached.{accept_full, admin_full}
use Rattle.fm_top_laws.proofs.Reached.{esc_full, esc_input_full, explain_full, fmd_full}
use Rattle.fm_top_laws.proofs.Reached.{generate_full, init_full, lines_full, repair_full}
use Rattle.fm_top_laws.proofs.Reached.{replay_full}

-- ---- counts

rose_then : (a b c : ℕ) → Rose a b → b ≤ c → Rose a c
rose_then a b c rose more = (omega (arith, rose.0, more), omega (arith, rose.1, more))

rose_behind : (a b c : ℕ) → a ≤ b → Rose b c → Rose a c
rose_behind a b c more rose = (omega (arith, more, rose.0), omega (arith, more, rose.1))

same_le : (out out_now : SinkAt) → out_now ≡ out → out.failures ≤ out_now.failures
same_le out out_now same = omega (arith, ap (λ (o : SinkAt). o.failures) same)

cut_le : (out out_now : SinkAt) (text : List ℕ) (stop : Stop) → PutCut out out_now text stop
    → out.failures ≤ out_now.failures
cut_le out out_now text Write (rose, put) = rose.0
cut_le out out_now text Memory (put, same) = omega (arith, same)
cut_le out out_now text _ cut = absurd cut

-- the last line leaves the count of the sink, or it rose
end_le : (out out_now : SinkAt) (ran : Result (Unit {0}) Stop) (status : ToolStatus)
    → EndsAs out out_now ran status → out.failures ≤ out_now.failures
end_le out out_now (Ok done) status ends = same_le out out_now ends.1
end_le out out_now (Err stop) status (inl whole) = omega (arith, whole.quiet)
end_le out out_now (Err stop) status (inr (cut, is, put)) =
    cut_le out out_now (last_text stop) cut put

-- a command that wanted memory has not lowered it
kept_le : (command : Command) (before after : Outside) → Did command before after (Err Memory)
    → before.out.failures ≤ after.out.failures
kept_le Accept before after did = did.counts_out.0
kept_le Fmd before after (inl s) = same_le before.out after.out s.unsaid
kept_le Fmd before after (inr (inl s)) = s.store.counts_out.0
kept_le Fmd before after (inr (inr s)) = omega (arith, s.store.counts_out, s.settled.1)
kept_le Replay before after did = did.counts_out.0
kept_le (Init namespace) before after did = same_le before.out after.out did.put
kept_le (Esc form) before after (inl (text, is, ends)) = omega (arith, ends.1)
kept_le (Esc form) before after (inr (fault, cause, told, unsaid)) =
    same_le before.out after.out unsaid
kept_le EscInput before after (inl whole) = omega (arith, whole.put.quiet)
kept_le EscInput before after (inr (inl cut)) =
    cut_le before.out after.out cut.text cut.stop cut.cut
kept_le EscInput before after (inr (inr not)) = same_le before.out after.out not.put
kept_le (Admin asked) before after (inl told) = omega (arith, told.put.1)
kept_le (Admin asked) before after (inr untold) = same_le before.out after.out untold.unsaid
kept_le (Repair asked) before after (inl s) = same_le before.out after.out s.unsaid
kept_le (Repair asked) before after (inr s) = omega (arith, s.settled.1)
kept_le (Explain uuid) before after (inl told) = omega (arith, told.put.1)
kept_le (Explain uuid) before after (inr untold) = same_le before.out after.out untold.unsaid
kept_le (Generate number) before after (inl s) = same_le before.out after.out s.unsaid
kept_le (Generate number) before after (inr s) = omega (arith, s.settled.1)
kept_le (GeneratedLines number) before after (inl put) = omega (arith, put.put.1)
kept_le (GeneratedLines number) before after (inr untold) =
    same_le before.out after.out untold.unsaid

-- ---- what a valid run does not meet

none_first : (w : World) (order : List Look) (stop : Stop) → FindNothing w order
    → FirstFinds w order stop → ⊥
none_first w [] stop nothing found = found
none_first w (look ∷ more) stop nothing (inl found) = nothing.0 stop found
none_first w (look ∷ more) stop nothing (inr (passes, found)) =
    none_first w more stop nothing.1 found

-- a limit that was reached is one that the command may reach
reached : (command : Command) (before after : Outside) (kind : FullKind)
    → Did command before after (Err (Full kind))
    → FindNothing (world_of before after) (looks command)
    → MayReach command before (given_of after) kind
reached Accept before after kind did nothing = accept_full before after (Err (Full kind)) did
reached Fmd before after kind did nothing = fmd_full before after (Err (Full kind)) did
reached Replay before after kind did nothing =
    replay_full before.input after.input before.out after.out (Err (Full kind)) did
reached (Init namespace) before after kind did nothing =
    init_full namespace before after (Err (Full kind)) did
reached (Esc form) before after kind did nothing =
    esc_full (λ kind. ⊥) form (given_of before) (given_of after) before.out after.out
    (Err (Full kind)) did
reached EscInput before after kind did nothing =
    esc_input_full before.input after.input before.out after.out (Err (Full kind)) did
reached (Admin asked) before after kind did nothing =
    admin_full before.out after.out before.disks after.disks asked (Err (Full kind)) did
reached (Repair asked) before after kind did nothing =
    repair_full before.out after.out before.disks after.disks asked before.acts after.acts
    (Err (Full kind)) did
reached (Explain uuid) before after kind did nothing =
    explain_full before.out after.out before.disks after.disks uuid (Err (Full kind)) did
reached (Generate number) before after kind did nothing =
    elim (generate_full number before.disks after.disks before.acts after.acts before.out after.out
    (Err (Full kind)) did) [
      | inl late ↦ absurd (nothing.1.0 (Full kind) late)
      | inr passes ↦ passes
    ]
reached (GeneratedLines number) before after kind did nothing =
    nothing.1.0 (Full kind)
    (lines_full number before.disks after.disks before.out after.out (Err (Full kind)) did)

-- where it is done, it has read the input
read_to_end : (command : Command) (before after : Outside) (done : Unit {0})
    → Did command before after (Ok done) → HasReadInput command after.input
read_to_end Accept before after done did = did.went.ran.whole
read_to_end Fmd before after done (inl s) = absurd (ok_no_err done _ s.told)
read_to_end Fmd before after done (inr (inl s)) = absurd (ok_no_err done s.stop s.told)
read_to_end Fmd before after done (inr (inr s)) = s.store.went.accepted.ran.whole
read_to_end Replay before after done did = did.went.whole
read_to_end EscInput before after done (inl whole) = whole.listed.gave.whole whole.listed.within
read_to_end EscInput before after done (inr (inl cut)) = absurd (ok_no_err done cut.stop cut.ends)
read_to_end EscInput before after done (inr (inr not)) = absurd (ok_no_err done _ not.ends)
read_to_end _ before after done did = tt

module _ (command : Command) (before after : Outside) (middle : SinkAt) (status : ToolStatus)
    (valid : IsValidOf command before after) where
  abbrev run : Outside
  run = record after { out = middle }

  -- only want of memory stops it
  stops_for : (stop : Stop) → Ran command before run (Err stop)
      → middle.failures ≤ after.out.failures → stop ≡ Memory
  stops_for Read ran more = absurd (valid.quiet.sources ran.cause.0 ran.cause.1)
  stops_for Write ran more =
      absurd (valid.quiet.out
      (rose_then before.out.failures middle.failures after.out.failures ran.cause more))
  stops_for Disk ran more = absurd (valid.quiet.disks ran.cause.0 ran.cause.1)
  stops_for (Act index) ran more = absurd (valid.quiet.acts index ran.cause)
  stops_for Memory ran more = refl
  stops_for (Full kind) ran more =
      absurd (valid.within kind (reached command before run kind ran.did valid.nothing))
  stops_for stop ran more =
      elim ran.order [
        | inl outside ↦ absurd outside
        | inr (inl found) ↦
            absurd (none_first (world_of before after) (looks command) stop valid.nothing found)
        | inr (inr (all, limit)) ↦ absurd limit
      ]

  -- and then nothing is put, or memory wanted once more
  wants : Ran command before run (Err Memory) → EndsAs middle after.out (Err Memory) status
      → status ≡ NoMemory
  wants ran (inl whole) = whole.answered
  wants ran (inr (Write, is, (rose, put))) =
      absurd (valid.quiet.out
      (rose_behind before.out.failures middle.failures after.out.failures
      (kept_le command before run ran.did) rose))
  wants ran (inr (Memory, is, cut)) = is
  wants ran (inr (_, is, cut)) = absurd cut

  ends_valid : (ran : Result (Unit {0}) Stop) → Ran command before run ran
      → EndsAs middle after.out ran status → IsDoneOrWants (Some command) after.input status
  ends_valid (Ok done) ran ends = inl (ends.0, read_to_end command before run done ran.did)
  ends_valid (Err stop) ran ends =
      let is : stop ≡ Memory =
      stops_for stop ran (end_le middle after.out (Err stop) status ends) in
      inr (wants (subst (λ (s : Stop). Ran command before run (Err s)) is ran)
      (subst (λ (s : Stop). EndsAs middle after.out (Err s) status) is ends))

pub valid_done : (words : Option Command) (before after : Outside) (status : ToolStatus)
    → Does words before after status → IsValidRun words before after
    → IsDoneOrWants words after.input status
valid_done None before after status does valid = absurd valid
valid_done (Some command) before after status (ran, middle, went, ends) valid =
    ends_valid command before after middle status valid ran went ends
