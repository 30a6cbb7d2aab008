-- What a call of the fault manager does, by its command.
use Rattle.std.specs.Prelude.{◌≡◌, ℕ, List, map, Option, None, Some, Result, Err, OnOk}
use Rattle.std.specs.Prelude.{IfErr}
use Rattle.fm_act.specs.Reconciled.{ActuatorState}
use Rattle.fm_answers.specs.Ending.{EndsAs}
use Rattle.fm_answers.specs.StreamsAt.{SinkAt, source_at, sink_at}
use Rattle.fm_answers.specs.Replaying.{ReplayRan}
use Rattle.fm_answers.specs.declared.status.ToolStatus.{ToolStatus}
use Rattle.fm_answers.specs.declared.stops.Stop.{Stop}
use Rattle.fm_answers.specs.declared.stops.Stop.TheVariants.{Usage, Read, Write, Disk, Act}
use Rattle.fm_command.specs.declared.words.Command.{Command}
use Rattle.fm_command.specs.declared.words.Command.TheVariants.{Accept, Fmd, Replay, Init, Esc}
use Rattle.fm_command.specs.declared.words.Command.TheVariants.{EscInput, Admin, Repair, Explain}
use Rattle.fm_command.specs.declared.words.Command.TheVariants.{Generate, GeneratedLines}
use Rattle.fm_outer.specs.Failures.{Rose}
use Rattle.fm_outer.specs.declared.disk.Disk.{Ghosts as DiskGhosts}
use Rattle.fm_outer.specs.declared.sink.Sink.{Ghosts as SinkGhosts}
use Rattle.fm_outer.specs.declared.source.Source.{Ghosts as SourceGhosts}
use Rattle.fm_top.specs.Accepting.{AcceptRan}
use Rattle.fm_top.specs.Admin.{AdminRan}
use Rattle.fm_top.specs.Esc.{EscEnds, EscInputEnds}
use Rattle.fm_top.specs.Explain.{ExplainRan}
use Rattle.fm_top.specs.Fmd.{FmdRan}
use Rattle.fm_top.specs.Generate.{GenerateRan, LinesRan}
use Rattle.fm_top.specs.Order.{Goes, looks, world_of}
use Rattle.fm_top.specs.Headline.{Headline}
use Rattle.fm_top.specs.Init.{InitRan}
use Rattle.fm_top.specs.Outside.{Outside, source_counts, disk_counts, counts_of, RoseAt}
use Rattle.fm_top.specs.Outside.{given_of, standing, act_counts, disks_at}
use Rattle.fm_top.specs.Repair.{RepairRan}
use Rattle.fm_logs.specs.declared.disks.Disks.{Disks}

-- EACH FAULT OF THE OUTSIDE, one line a fault: it comes only where a count of that kind rose
abbrev pub IsCaused : Outside → Outside → Stop → Type 0
IsCaused before after Read = (at : ℕ) × RoseAt (source_counts before) (source_counts after) at
IsCaused before after Write = Rose before.out.failures after.out.failures
IsCaused before after Disk = (at : ℕ)
    × RoseAt (disk_counts before.disks) (disk_counts after.disks) at
IsCaused before after (Act index) = RoseAt (act_counts before.acts) (act_counts after.acts) index
IsCaused before after _ = Unit {0}

-- WHAT EACH COMMAND DOES, one line a command
abbrev pub Did : Command → Outside → Outside → Result (Unit {0}) Stop → Type 0
Did Accept before after ran =
    AcceptRan before.input after.input before.out after.out before.disks after.disks ran
Did Fmd before after ran = FmdRan before after ran
Did Replay before after ran = ReplayRan before.input after.input before.out after.out ran
Did (Init namespace) before after ran = InitRan namespace before after ran
Did (Esc form) before after ran =
    EscEnds standing form (given_of before) (given_of after) before.out after.out ran
Did EscInput before after ran =
    EscInputEnds standing before.input after.input before.out after.out ran
Did (Admin asked) before after ran =
    AdminRan asked before.out after.out before.disks after.disks ran
Did (Repair asked) before after ran =
    RepairRan asked before.acts after.acts before.out after.out before.disks after.disks ran
Did (Explain uuid) before after ran =
    ExplainRan uuid before.out after.out before.disks after.disks ran
Did (Generate number) before after ran =
    GenerateRan number before.acts after.acts before.out after.out before.disks after.disks ran
Did (GeneratedLines number) before after ran =
    LinesRan number before.out after.out before.disks after.disks ran

-- a command ran, up to its last line
pub record Ran (command : Command) (before after : Outside) (ran : Result (Unit {0}) Stop) : Type 0
  where
    pub order : Goes (world_of before after) (looks command) ran
    pub cause : IfErr ran (IsCaused before after)
    pub quiet : OnOk ran (counts_of after ≡ counts_of before)
    pub did : Did command before after ran
    pub headline : Headline command before after ran

-- What a call does: the command of its words ran, `middle` is the sink then, and its last line was
-- put. Where they are no command only the last line is put.
abbrev pub Does : Option Command → Outside → Outside → ToolStatus → Type 0
Does None before after result = EndsAs before.out after.out (Err Usage) result
Does (Some command) before after result =
    (ran : Result (Unit {0}) Stop) × (middle : SinkAt)
    × Ran command before (record after { out = middle }) ran × EndsAs middle after.out ran result

-- the objects that are handed in, but for the sink
pub record Handed (S D A : Type 0) : Type 0 where
  pub input : S
  pub rules : List S
  pub topo : S
  pub disks : Disks D
  pub acts : List A

abbrev pub handed : {S D A : Type 0} → S → List S → S → Disks D → List A → Handed S D A
handed input rules topo disks acts =
    record { input = input; rules = rules; topo = topo; disks = disks; acts = acts }

-- all objects as they stand, with an actuator's state by its own words
abbrev pub outside_of : {S K D A : Type 0} → SourceGhosts S → SinkGhosts K → DiskGhosts D
    → (A → ActuatorState) → Handed S D A → K → Outside
outside_of s k d a h out = record {
  input = source_at s h.input;
  rules = map (source_at s) h.rules;
  topo = source_at s h.topo;
  out = sink_at k out;
  disks = disks_at d h.disks;
  acts = map a h.acts;
}

-- WHAT EACH COMMAND WORKS ON, one line a command: all else that was handed in is as it was
abbrev pub WorksOn : {S D A : Type 0} → Option Command → Handed S D A → Handed S D A → Type 0
WorksOn None old new = new ≡ old
WorksOn (Some Accept) old new =
    new ≡ record old { input = new.input; disks = new.disks }
WorksOn (Some Fmd) old new = Unit {0}
WorksOn (Some Replay) old new = new ≡ record old { input = new.input }
WorksOn (Some (Esc form)) old new = new ≡ record old { rules = new.rules; topo = new.topo }
WorksOn (Some EscInput) old new = new ≡ record old { input = new.input }
WorksOn (Some (Admin asked)) old new = new ≡ record old { disks = new.disks }
WorksOn (Some (Repair asked)) old new = new ≡ record old { disks = new.disks; acts = new.acts }
WorksOn (Some (Explain uuid)) old new = new ≡ record old { disks = new.disks }
WorksOn (Some (Generate number)) old new = new ≡ record old { disks = new.disks; acts = new.acts }
WorksOn (Some (GeneratedLines number)) old new = new ≡ record old { disks = new.disks }
WorksOn (Some (Init namespace)) old new =
    new ≡ record old {
      rules = new.rules;
      topo = new.topo;
      disks = record new.disks { err_b = old.disks.err_b };
    }

-- six disks
abbrev pub six : {D : Type 0} → D → D → D → D → D → D → Disks D
six conf err_a err_b slot_a slot_b flt = record {
  conf = conf;
  err_a = err_a;
  err_b = err_b;
  slot_a = slot_a;
  slot_b = slot_b;
  flt = flt;
}

-- the names of the disks
abbrev pub names_of : {D : Type 0} → (D → ℕ) → Disks D → Disks ℕ
names_of name disks = record {
  conf = name disks.conf;
  err_a = name disks.err_a;
  err_b = name disks.err_b;
  slot_a = name disks.slot_a;
  slot_b = name disks.slot_b;
  flt = name disks.flt;
}
