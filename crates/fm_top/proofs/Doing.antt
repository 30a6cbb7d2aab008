-- What a command did, in the words of the whole call.
use Rattle.std.proofs.Common.{◌≡◌, ◌⊎◌, ℕ, ◌∷◌, List, Bool, true, Option, Some, Result, Ok}
use Rattle.std.proofs.Common.{Err, OnOk, IfErr, MatchResult, map, refl, sym, subst, inl, inr}
use Rattle.std.specs.Io.KnownBytes.{Appends, Consumes, IsAtEnd}
use Rattle.fm_answers.specs.Accounts.{Accounts}
use Rattle.fm_answers.specs.Ending.{EndsAs}
use Rattle.fm_answers.specs.StreamsAt.{SinkAt}
use Rattle.fm_answers.specs.Replaying.{ReplayedAll, ReplayStops}
use Rattle.fm_answers.specs.Running.{Taken, RanUntil}
use Rattle.fm_answers.specs.declared.status.ToolStatus.{ToolStatus}
use Rattle.fm_answers.specs.declared.stops.Stop.{Stop}
use Rattle.fm_answers.specs.declared.stops.Stop.TheVariants.{Damaged, Read, Write, Disk, Memory}
use Rattle.fm_answers.specs.declared.stops.Stop.TheVariants.{Full, Act}
use Rattle.fm_command.specs.declared.words.Command.{Command}
use Rattle.fm_command.specs.declared.words.Command.TheVariants.{Accept, Replay}
use Rattle.fm_logs.specs.Contents.{Contents}
use Rattle.fm_top.specs.Accepting.{AcceptRan, AcceptedUntil, Grew, NotOpened, OpeningStops}
use Rattle.fm_top.specs.Calls.{IsCaused, Does, Handed, WorksOn}
use Rattle.fm_top.specs.Headline.{AreFromBefore, Unopened}
use Rattle.fm_top.specs.Init.{AreUnwritten}
use Rattle.fm_top.specs.Kept.{BookAt}
use Rattle.fm_top.specs.Order.{Goes, IsOutsideFault, IsLimit, looks, world_of}
use Rattle.fm_top.specs.Outside.{Outside, Tells, disk_counts, counts_of}
use Rattle.fm_top.proofs.Headlines.{headline_accept}

-- what is said of the words of a command is said of the words
pub does_as : (o p : Option Command) (before after : Outside) (result : ToolStatus)
    → o ≡ p → Does p before after result → Does o before after result
does_as o p before after result same does = subst (λ c. Does c before after result) (sym same) does

pub works_as : {S D A : Type 0} (o p : Option Command) (old new : Handed S D A)
    → o ≡ p → WorksOn p old new → WorksOn o old new
works_as o p old new same works = subst (λ c. WorksOn c old new) (sym same) works

both : {E : Type 0} (r : Result (Unit {0}) E) (P : Type 0) (Q : E → Type 0) → OnOk r P → IfErr r Q
    → MatchResult r (λ _. P) Q
both (Ok done) P Q all until = all
both (Err e) P Q all until = until

-- a run over the input ends by a fault or at a limit
pub run_ends : (taken : Taken) (puts : List ℕ → Type 0) (is_told : Bool) (next : ℕ)
    (consumes : List ℕ → Type 0)
    (at_end : Type 0) (stop : Stop)
    → RanUntil taken puts is_told next consumes at_end stop → IsOutsideFault stop ⊎ IsLimit stop
run_ends taken puts is_told next consumes at_end Read ran = inl tt
run_ends taken puts is_told next consumes at_end Write ran = inl tt
run_ends taken puts is_told next consumes at_end Disk ran = inl tt
run_ends taken puts is_told next consumes at_end Memory ran = inl tt
run_ends taken puts is_told next consumes at_end (Full kind) ran = inr tt
run_ends taken puts is_told next consumes at_end _ (inl ran) = absurd ran.why
run_ends taken puts is_told next consumes at_end _ (inr ran) = absurd ran.stops

accept_goes : (before after : Outside) (ran : Result (Unit {0}) Stop)
    → AcceptRan before.input after.input before.out after.out before.disks after.disks ran
    → Goes (world_of before after) (looks Accept) ran
accept_goes before after (Ok done) did =
    (λ told tells. (did.went.ran.took told tells).stood, tt)
accept_goes before after (Err stop) did = by_end stop did.went
  where
    passes : (next : ℕ) (stop : Stop)
        → RanUntil (Grew before.disks after.disks next) (Appends before.out.bytes after.out.bytes)
        true next (Consumes before.input.left after.input.left) (IsAtEnd after.input.left) stop
        → IsLimit stop → (told : Contents) → Tells before.disks told → BookAt told
    passes next stop (inl ran) limit told tells = (ran.took told tells).stood
    passes next (Full kind) (inr ran) limit told tells = (ran.stops.1.2 told tells).stood
    passes next _ (inr ran) limit told tells = absurd limit

    by_end : (stop : Stop)
        → NotOpened before.input after.input before.out after.out before.disks after.disks stop
        ⊎ AcceptedUntil before.input after.input before.out after.out before.disks after.disks stop
        → Goes (world_of before after) (looks Accept) (Err stop)
    by_end stop (inl refused) = opening_goes stop refused.why
      where
        opening_goes : (stop : Stop) → OpeningStops before.disks stop
            → Goes (world_of before after) (looks Accept) (Err stop)
        opening_goes Disk why = inl tt
        opening_goes Memory why = inl tt
        opening_goes (Damaged disk place) why = inr (inl (inl (disk, place, refl, why)))
        opening_goes _ why = absurd why
    by_end stop (inr until) =
        elim (run_ends _ _ _ _ _ _ stop until.ran) [
          | inl fault ↦ inl fault
          | inr limit ↦ inr (inr ((passes until.next stop until.ran limit, tt), limit))
        ]

-- the fault of an object whose count accounts for it
accept_caused : (before after : Outside) (ran : Result (Unit {0}) Stop)
    → AcceptRan before.input after.input before.out after.out before.disks after.disks ran
    → IfErr ran (IsCaused before after)
accept_caused before after (Ok done) did = tt
accept_caused before after (Err Read) did = (0, (_, _, refl, refl, did.counts_input.1 refl))
accept_caused before after (Err Write) did = did.counts_out.1 refl
accept_caused before after (Err Disk) did = did.counts_disks
accept_caused before after (Err (Act index)) did =
    elim did.went [
      | inl refused ↦ absurd refused.why
      | inr until ↦ elim until.ran [ inl ran ↦ absurd ran.why | inr ran ↦ absurd ran.stops ]
    ]
accept_caused before after (Err _) did = tt

-- what a run over the input leaves alone
pub record Rests (before after : Outside) : Type 0 where
  pub rules : after.rules ≡ before.rules
  pub topo : after.topo ≡ before.topo
  pub acts : after.acts ≡ before.acts

-- that stays so, whatever is put then
pub rests_put : (before after : Outside) (middle : SinkAt) → Rests before after
    → Rests before (record after { out = middle })
rests_put before after middle rests =
    record { rules = rests.rules; topo = rests.topo; acts = rests.acts }

-- nothing was called that is of the store, but for reads
pub unopened : (before after : Outside) (ran : Result (Unit {0}) Stop) (stop : Stop)
    → ran ≡ Err stop → after.input ≡ before.input → after.out ≡ before.out
    → AreUnwritten before.disks after.disks → Unopened before after ran
unopened before after ran stop told unread unsaid untouched = record {
  refused = subst (λ r. OnOk r ⊥) (sym told) tt;
  unread = unread;
  unsaid = unsaid;
  left = λ image leaves name. (untouched name).images _ (leaves name);
}

-- the counts of a command that is done
pub quiet_counts : (before after : Outside) → Rests before after
    → after.input.failures ≡ before.input.failures → after.out.failures ≡ before.out.failures
    → disk_counts after.disks ≡ disk_counts before.disks → counts_of after ≡ counts_of before
quiet_counts before after rests input out disks =
    λ i. record {
      sources = input i ∷ (rests.topo i).failures ∷ map (λ s. s.failures) (rests.rules i);
      out = out i;
      disks = disks i;
      acts = map (λ a. a.failures) (rests.acts i);
    }

accept_quiet : (before after : Outside) (ran : Result (Unit {0}) Stop) → Rests before after
    → AcceptRan before.input after.input before.out after.out before.disks after.disks ran
    → OnOk ran (counts_of after ≡ counts_of before)
accept_quiet before after (Ok done) rests did =
    quiet_counts before after rests did.counts_input did.counts_out did.counts_disks
accept_quiet before after (Err stop) rests did = tt

pub does_accept : (before after : Outside) (middle : SinkAt) (ran : Result (Unit {0}) Stop)
    (result : ToolStatus)
    → AcceptRan before.input after.input before.out middle before.disks after.disks ran
    → EndsAs middle after.out ran result → Rests before after
    → Does (Some Accept) before after result
does_accept before after middle ran result did ends rests =
    let mid : Outside = record after { out = middle } in (
      ran,
      middle,
      record {
        order = accept_goes before mid ran did;
        cause = accept_caused before mid ran did;
        quiet = accept_quiet before mid ran (rests_put before after middle rests) did;
        did = did;
        headline = headline_accept before mid ran did;
      },
      ends,
    )

replay_goes : (before after : Outside) (puts consumes : List ℕ → Type 0) (at_end : Type 0)
    (ran : Result (Unit {0}) Stop)
    → IfErr ran (ReplayStops puts consumes at_end) → Goes (world_of before after) (looks Replay) ran
replay_goes before after puts consumes at_end (Ok done) until = tt
replay_goes before after puts consumes at_end (Err stop) (inl stopped) =
    elim (run_ends _ _ _ _ _ _ stop stopped)
    [ inl fault ↦ inl fault | inr limit ↦ inr (inr (tt, limit)) ]
replay_goes before after puts consumes at_end (Err Write) (inr cut) = inl tt
replay_goes before after puts consumes at_end (Err Memory) (inr cut) = inl tt
replay_goes before after puts consumes at_end (Err _) (inr cut) = absurd cut.why

-- `replay` is stopped by no disk, and by no actuator
no_disk : (puts consumes : List ℕ → Type 0) (at_end : Type 0)
    → ReplayStops puts consumes at_end Disk → ⊥
no_disk puts consumes at_end (inl (inl between)) = between.why
no_disk puts consumes at_end (inl (inr (at_line))) = at_line.stops.1.2
no_disk puts consumes at_end (inr cut) = cut.why

no_act : (puts consumes : List ℕ → Type 0) (at_end : Type 0) (index : ℕ)
    → ReplayStops puts consumes at_end (Act index) → ⊥
no_act puts consumes at_end index (inl (inl between)) = between.why
no_act puts consumes at_end index (inl (inr (at_line))) = at_line.stops
no_act puts consumes at_end index (inr cut) = cut.why

replay_caused : (before after : Outside) (puts consumes : List ℕ → Type 0) (at_end : Type 0)
    (ran : Result (Unit {0}) Stop)
    → IfErr ran (ReplayStops puts consumes at_end)
    → Accounts Read before.input.failures after.input.failures ran
    → Accounts Write before.out.failures after.out.failures ran
    → IfErr ran (IsCaused before after)
replay_caused before after puts consumes at_end (Ok done) until input out = tt
replay_caused before after puts consumes at_end (Err Read) until input out =
    (0, (_, _, refl, refl, input.1 refl))
replay_caused before after puts consumes at_end (Err Write) until input out = out.1 refl
replay_caused before after puts consumes at_end (Err Disk) until input out =
    absurd (no_disk puts consumes at_end until)
replay_caused before after puts consumes at_end (Err (Act index)) until input out =
    absurd (no_act puts consumes at_end index until)
replay_caused before after puts consumes at_end (Err _) until input out = tt

replay_quiet : (before after : Outside) (ran : Result (Unit {0}) Stop) → Rests before after
    → disk_counts after.disks ≡ disk_counts before.disks
    → Accounts Read before.input.failures after.input.failures ran
    → Accounts Write before.out.failures after.out.failures ran
    → OnOk ran (counts_of after ≡ counts_of before)
replay_quiet before after (Ok done) rests disks input out =
    quiet_counts before after rests input out disks
replay_quiet before after (Err stop) rests disks input out = tt

pub does_replay : (before after : Outside) (middle : SinkAt) (ran : Result (Unit {0}) Stop)
    (result : ToolStatus)
    → OnOk ran (ReplayedAll (Appends before.out.bytes middle.bytes)
    (Consumes before.input.left after.input.left) (IsAtEnd after.input.left))
    → IfErr ran (ReplayStops (Appends before.out.bytes middle.bytes)
    (Consumes before.input.left after.input.left) (IsAtEnd after.input.left))
    → Accounts Read before.input.failures after.input.failures ran
    → Accounts Write before.out.failures middle.failures ran
    → EndsAs middle after.out ran result → Rests before after
    → disk_counts after.disks ≡ disk_counts before.disks → AreFromBefore before.disks after.disks
    → Does (Some Replay) before after result
does_replay before after middle ran result all until input out ends rests disks same = (
  ran,
  middle,
  record {
    order = replay_goes before (record after { out = middle }) _ _ _ ran until;
    cause = replay_caused before (record after { out = middle }) _ _ _ ran until input out;
    quiet = replay_quiet before (record after { out = middle }) ran
        (rests_put before after middle rests) disks input out;
    did = record { went = both ran _ _ all until; counts_input = input; counts_out = out };
    headline = same;
  },
  ends,
)
