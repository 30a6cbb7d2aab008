-- A call that ends before its words are read, for want of memory.
use Rattle.std.proofs.Common.{◌≡◌, inl, inr, ℕ, ◌<◌, ◌^◌, zero, suc, List, [], take, refl, subst}
use Rattle.std.proofs.Common.{arith}
use Rattle.std.proofs.Common.{Option, Some, None, Err}
use Rattle.std.specs.Io.KnownBytes.{Appends}
use Rattle.fm_answers.specs.Ending.{EndsAs}
use Rattle.fm_answers.specs.StreamsAt.{SinkAt}
use Rattle.fm_answers.specs.declared.status.ToolStatus.{ToolStatus}
use Rattle.fm_answers.specs.declared.stops.Stop.{Stop}
use Rattle.fm_answers.specs.declared.stops.Stop.TheVariants.{Memory, Usage, Write}
use Rattle.fm_command.specs.RepairAsked.{RepairAsked}
use Rattle.fm_command.specs.Words.{TakesMemory}
use Rattle.fm_command.specs.declared.words.Command.{Command}
use Rattle.fm_command.specs.declared.words.Command.TheVariants.{Admin, Repair}
use Rattle.fm_top.specs.Calls.{Does}
use Rattle.fm_top.specs.Init.{AreUnwritten}
use Rattle.fm_top.specs.Outside.{Outside}
use Rattle.fm_top.proofs.AdminDoing.{does_tell}
use Rattle.fm_top.proofs.Doing.{Rests}
use Rattle.fm_top.proofs.RepairDoing.{does_repair}
use Rattle.fm_top.proofs.RepairSpelled.{CanBeSaid}

abbrev no_text : List ℕ
no_text = []

take_none : (m : ℕ) → take m no_text ≡ no_text
take_none zero = refl
take_none (suc m) = refl

-- the last line of a call that wanted memory is none, whatever the line would be
ends_without : (out out_now : SinkAt) (stop : Stop) (result : ToolStatus)
    → EndsAs out out_now (Err Memory) result → EndsAs out out_now (Err stop) result
ends_without out out_now stop result (inl whole) =
    inr (Memory, whole.answered, (whole.put, whole.quiet))
ends_without out out_now stop result (inr (Write, is, (rose, (m, few, put)))) =
    inr (
      Write,
      is,
      (rose, (0, omega arith, subst (Appends out.bytes out_now.bytes) (take_none m) put)),
    )
ends_without out out_now stop result (inr (Memory, is, cut)) = inr (Memory, is, cut)
ends_without out out_now stop result (inr (_, is, cut)) = absurd cut

pub does_want : (o : Option Command) (now : ℕ) (before after : Outside) (result : ToolStatus)
    → now < 2 ^ 62 → ((asked : RepairAsked) → o ≡ Some (Repair asked) → CanBeSaid now asked)
    → TakesMemory o → EndsAs before.out after.out (Err Memory) result
    → Rests before after → after.input ≡ before.input → AreUnwritten before.disks after.disks
    → Does o before after result
does_want None now before after result early said takes ends rests unread untouched =
    ends_without before.out after.out Usage result ends
does_want (Some (Repair asked)) now before after result early said takes ends rests unread untouched =
    does_repair asked now before after before.out (Err Memory) result early (said asked refl)
    (inl (record {
      stop = Memory;
      told = refl;
      store = record { went = inl (record { untouched = untouched; why = tt }); counts = tt };
      unsaid = refl;
      unmoved = rests.acts;
    })) ends rests.rules rests.topo unread
does_want (Some (Admin asked)) now before after result early said takes ends rests unread untouched =
    does_tell asked before after before.out (Err Memory) result
    (inr (record {
      stop = Memory;
      told = refl;
      store = record { went = inl (record { untouched = untouched; why = tt }); counts = tt };
      unsaid = refl;
    })) ends rests unread
does_want (Some _) now before after result early said takes ends rests unread untouched =
    absurd takes
