-- What `fmd -1` did, in the words of the whole call.
use Rattle.std.proofs.Common.{◌≡◌, inl, inr, ℕ, zero, suc, List, [], ◌∷◌, map, refl, sym}
use Rattle.std.proofs.Common.{◌∙◌, subst, arith, true, Some, OnOk, IfErr, Result, Ok, Err}
use Rattle.std.specs.List.{AllZip}
use Rattle.std.specs.Io.KnownBytes.{Appends, Consumes}
use Rattle.std.proofs.KnownBytes.{Appends-nil, Consumes-nil}
use Rattle.fm_act.specs.Reconciled.{ActuatorState, FirstFailed, Settled}
use Rattle.fm_answers.specs.Ended.{ended}
use Rattle.fm_answers.specs.Ending.{EndsAs}
use Rattle.fm_answers.specs.StreamsAt.{SourceAt, SinkAt}
use Rattle.fm_answers.specs.StreamsAt.{source_at}
use Rattle.fm_answers.specs.Stops.{of_compiling}
use Rattle.fm_answers.specs.declared.status.ToolStatus.{ToolStatus}
use Rattle.fm_answers.specs.declared.stops.Stop.{Stop}
use Rattle.fm_answers.specs.declared.stops.Stop.TheVariants.{Read, Write, Disk, Damaged, Memory}
use Rattle.fm_answers.specs.declared.stops.Stop.TheVariants.{Full}
use Rattle.fm_answers.specs.declared.stops.Stop.TheVariants.{Differs, Act}
use Rattle.fm_answers.proofs.AnswerLists.{answers_none, entries_none}
use Rattle.fm_command.specs.declared.words.Command.TheVariants.{Fmd}
use Rattle.fm_core.specs.Book.{next_number}
use Rattle.fm_logs.specs.Contents.{Contents}
use Rattle.fm_outer.specs.Failures.{Rose}
use Rattle.fm_outer.specs.declared.source.Source.{Ghosts}
use Rattle.fm_esc.specs.Compiling.{CompileCause}
use Rattle.fm_esc.specs.declared.faults.CompileFault.{CompileFault}
use Rattle.fm_sources.specs.Sources.{given}
use Rattle.fm_sources.specs.declared.sources.Sources.{Sources}
use Rattle.fm_top.specs.Exact.{ReadsExact}
use Rattle.fm_top.specs.Accepting.{AcceptedAll, AcceptedUntil, NotOpened}
use Rattle.fm_top.specs.Calls.{IsCaused, Does}
use Rattle.fm_top.specs.Fmd.{ConcludingStops, FmdRan, KeepSame, SettlingEnds, SourcesRead}
use Rattle.fm_top.specs.Fmd.{StoreDiffers, StoreRan, StoreStops}
use Rattle.fm_top.specs.Headline.{HasEach, Headline}
use Rattle.fm_top.specs.Order.{AllPass, FirstFinds, Goes, at_store, at_same, looks, world_of}
use Rattle.fm_top.specs.Kept.{BookAt}
use Rattle.fm_top.specs.Limits.{WorkLimit}
use Rattle.fm_top.specs.Outside.{Outside, Tells, Leaves, RoseAt, act_counts}
use Rattle.fm_top.specs.Outside.{DisksAt, counts_of}
use Rattle.fm_top.proofs.BookHeld.{HeldAfterOf, HeldOf, held_after_each}
use Rattle.fm_top.proofs.Doing.{run_ends, unopened}
use Rattle.fm_top.proofs.SourceFaults.{cause_caused, cause_goes, cause_standing, ok_no_err}
use Rattle.fm_top.proofs.SourceFaults.{rules_quiet}
use Rattle.fm_top.proofs.Going.{settled_goes}
use Rattle.fm_top.proofs.Headlines.{until_held, whole_answered}

-- what stands outside, part by part
abbrev pub outside_with : SourceAt → List SourceAt → SourceAt → SinkAt → DisksAt
    → List ActuatorState → Outside
outside_with input rules topo out disks acts = record {
  input = input;
  rules = rules;
  topo = topo;
  out = out;
  disks = disks;
  acts = acts;
}

-- ---- the order of refusals

module _ (before after : Outside) (got : Sources) (sources : SourcesRead before after got) where
  -- what is found behind the sources
  found_behind : (stop : Stop)
      → FirstFinds (world_of before after) (at_store ∷ at_same ∷ []) stop
      → FirstFinds (world_of before after) (looks Fmd) stop
  found_behind stop found =
      inr (
        (got.files.items, sources.read.0),
        inr (
          (got.topo_text.items, got.topo, sources.read.1),
          inr ((got, sources.read, (sources.mades, sources.graphs)), found),
        ),
      )

  same_passes : KeepSame before.disks got → AllPass (world_of before after) (looks Fmd)
  same_passes same = (
    (got.files.items, sources.read.0),
    (
      (got.topo_text.items, got.topo, sources.read.1),
      (
        (got, sources.read, (sources.mades, sources.graphs)),
        ((λ told tells. (same told tells).stood, ((got, sources.read, same), tt))),
      ),
    ),
  )

  opening_goes : (stop : Stop) (middle : SinkAt)
      → NotOpened before.input after.input before.out middle before.disks after.disks stop
      → Goes (world_of before after) (looks Fmd) (Err stop)
  opening_goes Disk middle refused = inl tt
  opening_goes Memory middle refused = inl tt
  opening_goes (Damaged disk place) middle refused =
      inr (inl (found_behind (Damaged disk place) (inl (disk, place, refl, refused.why))))
  opening_goes _ middle refused = absurd refused.why

  differs_goes : (stop : Stop) (middle : SinkAt)
      → StoreDiffers before.input after.input before.out middle before.disks after.disks got stop
      → Goes (world_of before after) (looks Fmd) (Err stop)
  differs_goes stop middle other =
      inr (inl (found_behind stop (inr (
        (λ told tells. (other.other told tells).stood),
        inl (other.why, got, sources.read, other.other),
      ))))

  until_goes : (stop : Stop) (middle : SinkAt) → KeepSame before.disks got
      → AcceptedUntil before.input after.input before.out middle before.disks after.disks stop
      → Goes (world_of before after) (looks Fmd) (Err stop)
  until_goes stop middle same until =
      elim (run_ends _ _ _ _ _ _ stop until.ran) [
        | inl fault ↦ inl fault
        | inr limit ↦ inr (inr (same_passes same, limit))
      ]

  behind_goes : (limit : WorkLimit) (stop : Stop) → KeepSame before.disks got
      → ConcludingStops limit before.disks stop
      → Goes (world_of before after) (looks Fmd) (Err stop)
  behind_goes limit Disk same why = inl tt
  behind_goes limit Memory same why = inl tt
  behind_goes limit (Full kind) same why = inr (inr (same_passes same, tt))
  behind_goes limit (Damaged disk place) same why =
      inr (inl (found_behind (Damaged disk place)
      (inl (disk, place, refl, λ told tells. absurd (why told tells)))))
  behind_goes limit _ same why = absurd why

  stops_goes : (stop : Stop) (middle : SinkAt)
      → StoreStops before.input after.input before.out middle before.disks after.disks got stop
      → Goes (world_of before after) (looks Fmd) (Err stop)
  stops_goes stop middle (inl refused) = opening_goes stop middle refused
  stops_goes stop middle (inr (inl other)) = differs_goes stop middle other
  stops_goes stop middle (inr (inr (same, inl until))) = until_goes stop middle same until
  stops_goes stop middle (inr (inr (same, inr behind))) = behind_goes _ stop same behind.why

fmd_goes : (before after : Outside) (ran : Result (Unit {0}) Stop) → FmdRan before after ran
    → Goes (world_of before after) (looks Fmd) ran
fmd_goes before after ran (inl stopped) =
    subst (Goes (world_of before after) (looks Fmd)) (sym stopped.told)
    (cause_goes before after (at_store ∷ at_same ∷ []) stopped.fault stopped.cause)
fmd_goes before after ran (inr (inl s)) =
    subst (Goes (world_of before after) (looks Fmd)) (sym s.told)
    (stops_goes before after s.got s.sources s.stop after.out s.store.went)
fmd_goes before after ran (inr (inr s)) =
    settled_goes (world_of before after) (looks Fmd) s.conclusion.wanted s.conclusion.summary.items
    before.acts after.acts s.middle after.out ran
    (same_passes before after s.got s.sources s.store.went.same) s.settled

-- ---- the causes

-- no work on a store is stopped by an actuator
no_act : (before after : Outside) (got : Sources) (index : ℕ)
    → StoreStops before.input after.input before.out after.out before.disks after.disks got
    (Act index) → ⊥
no_act before after got index (inl refused) = refused.why
no_act before after got index (inr (inl other)) =
    let e : Act index ≡ Differs = other.why in
    cc
no_act before after got index (inr (inr (same, inl until))) =
    elim until.ran [ inl ran ↦ absurd ran.why | inr ran ↦ absurd ran.stops ]
no_act before after got index (inr (inr (same, inr behind))) = behind.why

store_caused : (before after : Outside) (got : Sources) (stop : Stop)
    → StoreRan before.input after.input before.out after.out before.disks after.disks got (Err stop)
    → IsCaused before after stop
store_caused before after got Read store = (0, (_, _, refl, refl, store.counts_input.1 refl))
store_caused before after got Write store = store.counts_out.1 refl
store_caused before after got Disk store = store.counts_disks
store_caused before after got (Act index) store = absurd (no_act before after got index store.went)
store_caused before after got _ store = tt

-- the first that failed is the one whose count rose
act_rose : (paths : List (List ℕ)) (at : ℕ) (olds news : List ActuatorState)
    → FirstFailed paths at olds news → RoseAt (act_counts olds) (act_counts news) at
act_rose paths zero (old ∷ olds) (new ∷ news) (rose, tried) = (_, _, refl, refl, rose)
act_rose paths (suc at) (old ∷ olds) (new ∷ news) (held, more) = act_rose paths at olds news more
act_rose _ _ _ _ failed = absurd failed

pub settled_caused : (before after : Outside) (paths : List (List ℕ)) (summary : List ℕ)
    (middle : SinkAt) (ran : Result (Unit {0}) Stop)
    → middle.failures ≡ before.out.failures
    → SettlingEnds paths summary before.acts after.acts middle after.out ran
    → IfErr ran (IsCaused before after)
settled_caused before after paths summary middle (Ok done) quiet ends = tt
settled_caused before after paths summary middle (Err (Act index)) quiet ends =
    act_rose paths index before.acts after.acts ends.0
settled_caused before after paths summary middle (Err Write) quiet ends =
    subst (λ n. Rose n after.out.failures) quiet ends.1.0
settled_caused before after paths summary middle (Err Memory) quiet ends = tt
settled_caused before after paths summary middle (Err _) quiet ends = absurd ends

fmd_caused : (before after : Outside) (ran : Result (Unit {0}) Stop) → FmdRan before after ran
    → IfErr ran (IsCaused before after)
fmd_caused before after ran (inl stopped) =
    subst (λ r. IfErr r (IsCaused before after)) (sym stopped.told)
    (cause_caused before after stopped.fault stopped.cause)
fmd_caused before after ran (inr (inl s)) =
    subst (λ r. IfErr r (IsCaused before after)) (sym s.told)
    (store_caused before after s.got s.stop s.store)
fmd_caused before after ran (inr (inr s)) =
    settled_caused before after s.conclusion.wanted s.conclusion.summary.items s.middle ran
    s.store.counts_out s.settled

-- ---- the counts of a command that is done

pub acts_quiet : (paths : List (List ℕ)) (olds news : List ActuatorState)
    → AllZip (Settled paths) olds news → act_counts news ≡ act_counts olds
acts_quiet paths [] [] all = refl
acts_quiet paths (old ∷ olds) (new ∷ news) (one, more) =
    λ i. one.quiet i ∷ acts_quiet paths olds news more i
acts_quiet paths _ _ all = absurd all

fmd_quiet : (before after : Outside) (ran : Result (Unit {0}) Stop) → FmdRan before after ran
    → OnOk ran (counts_of after ≡ counts_of before)
fmd_quiet before after (Err stop) did = tt
fmd_quiet before after (Ok done) (inl stopped) =
    absurd (ok_no_err done (of_compiling stopped.fault) stopped.told)
fmd_quiet before after (Ok done) (inr (inl s)) = absurd (ok_no_err done s.stop s.told)
fmd_quiet before after (Ok done) (inr (inr s)) =
    let input = s.store.counts_input in
    let out = s.settled.1.quiet ∙ s.store.counts_out in
    let disks = s.store.counts_disks in
    let acts = acts_quiet s.conclusion.wanted before.acts after.acts s.settled.0 in
    let rules = rules_quiet before.rules after.rules s.got.files.items s.sources.read.0 in
    let topo = s.sources.read.1.gave.quiet in
    λ i. record {
      sources = input i ∷ topo i ∷ rules i;
      out = out i;
      disks = disks i;
      acts = acts i;
    }

-- ---- the headline

ended_none : ended [] ≡ []
unfolding ended
ended_none = refl

module _ (before after : Outside) where
  -- where all lines were answered, each image has the entries of all
  has_each : (told : Contents) → Tells before.disks told → (middle : SinkAt)
      → AcceptedAll before.input after.input before.out middle before.disks after.disks
      → (stood : BookAt told) × ((image : Contents) → Leaves after.disks image
      → HasEach before after told stood image)
  has_each told tells middle accepted =
      let run = accepted.ran in
      let grew = run.took told tells in (
        grew.stood,
        (λ image leaves. record {
          read = run.read;
          consumed = run.consumed;
          at_end = run.whole;
          reads = grew.left image leaves;
        }),
      )

  -- the store keeps another configuration: no line was read
  differs_held : (got : Sources) (stop : Stop) (told : Contents) → Tells before.disks told
      → StoreDiffers before.input after.input before.out after.out before.disks after.disks got stop
      → HeldOf before after told (Err stop)
  differs_held got stop told tells other =
      let grew = other.grew told tells in record {
        stood = grew.stood;
        left = λ image leaves. record {
          read = [];
          consumed = subst (λ (s : SourceAt). Consumes before.input.left s.left [])
              (sym other.consumed) (Consumes-nil before.input.left);
          lines = [];
          others = [];
          first = inl ([], [], refl, omega arith, ended_none);
          answered = whole_answered (Appends before.out.bytes after.out.bytes)
              (next_number grew.stood.book.book) []
              (subst (Appends before.out.bytes after.out.bytes)
              (sym (answers_none true 1 (next_number grew.stood.book.book)))
              (subst (λ (s : SinkAt). Appends before.out.bytes s.bytes []) (sym other.put)
              (Appends-nil before.out.bytes)));
          reads = subst (λ es. ReadsExact grew.stood es image) (sym entries_none)
              (grew.left image leaves);
        };
      }

  -- as of a command that has no more to do behind the last line
  held_after : (told : Contents) (stop : Stop) → ((index : ℕ) → stop ≡ Act index → ⊥)
      → HeldOf before after told (Err stop) → HeldAfterOf before after told (Err stop)
  held_after told (Act index) none held = absurd (none index refl)
  held_after told _ none held = record {
    stood = held.stood;
    left = λ image leaves. inl (held.left image leaves);
  }

  each_after : (told : Contents) (ran : Result (Unit {0}) Stop)
      → (stood : BookAt told) × ((image : Contents) → Leaves after.disks image
      → HasEach before after told stood image) → HeldAfterOf before after told ran
  each_after told (Ok done) (stood, left) = record { stood = stood; left = left }
  each_after told (Err (Act index)) (stood, left) = record { stood = stood; left = left }
  each_after told (Err _) (stood, left) =
      record { stood = stood; left = λ image leaves. inr (left image leaves) }

  no_act_of : (got : Sources) (stop : Stop)
      → StoreStops before.input after.input before.out after.out before.disks after.disks got stop
      → (index : ℕ) → stop ≡ Act index → ⊥
  no_act_of got stop stops index is =
      no_act before after got index
      (subst (StoreStops before.input after.input before.out after.out before.disks after.disks got)
      is stops)

  stops_headline : (got : Sources) (stop : Stop)
      → StoreStops before.input after.input before.out after.out before.disks after.disks got stop
      → Headline Fmd before after (Err stop)
  stops_headline got stop (inl refused) =
      inl (unopened before after (Err stop) stop refl refused.consumed refused.put
      refused.untouched)
  stops_headline got stop (inr (inl other)) = inr (λ told tells.
      held_after_each before after told (Err stop)
      (held_after told stop (no_act_of got stop (inr (inl other)))
      (differs_held got stop told tells other)))
  stops_headline got stop (inr (inr (same, inl until))) = inr (λ told tells.
      held_after_each before after told (Err stop)
      (held_after told stop (no_act_of got stop (inr (inr (same, inl until))))
      (until_held before after told stop tells until)))
  stops_headline got stop (inr (inr (same, inr behind))) = inr (λ told tells.
      held_after_each before after told (Err stop)
      (each_after told (Err stop) (has_each told tells after.out behind.accepted)))

fmd_headline : (before after : Outside) (ran : Result (Unit {0}) Stop) → FmdRan before after ran
    → Headline Fmd before after ran
fmd_headline before after ran (inl stopped) =
    inl (unopened before after ran (of_compiling stopped.fault) stopped.told stopped.unread
    stopped.unsaid stopped.untouched)
fmd_headline before after ran (inr (inl s)) =
    subst (Headline Fmd before after) (sym s.told)
    (stops_headline before after s.got s.stop s.store.went)
fmd_headline before after ran (inr (inr s)) = inr (λ told tells.
    held_after_each before after told ran
    (each_after before after told ran
    (has_each before after told tells s.middle s.store.went.accepted)))

-- ---- the command below the call

-- sources that come to nothing
pub stopped_ran : {S : Type 0} (g : Ghosts S) (olds news : List S) (old new : S)
    (input : SourceAt) (out : SinkAt) (disks : DisksAt) (acts : List ActuatorState)
    (fault : CompileFault) → CompileCause g (given olds old) (given news new) fault
    → FmdRan (outside_with input (map (source_at g) olds) (source_at g old) out disks acts)
    (outside_with input (map (source_at g) news) (source_at g new) out disks acts)
    (Err (of_compiling fault))
stopped_ran g olds news old new input out disks acts fault cause = inl (record {
  fault = fault;
  cause = cause_standing g olds news old new fault cause;
  told = refl;
  unread = refl;
  unsaid = refl;
  untouched = λ name. record { seen = refl; images = λ c is. is };
  uncalled = refl;
  unmoved = refl;
})

-- ---- the whole

pub does_fmd : (before after : Outside) (middle : SinkAt) (ran : Result (Unit {0}) Stop)
    (result : ToolStatus) → FmdRan before (record after { out = middle }) ran
    → EndsAs middle after.out ran result → Does (Some Fmd) before after result
does_fmd before after middle ran result did ends =
    let mid : Outside = record after { out = middle } in (
      ran,
      middle,
      record {
        order = fmd_goes before mid ran did;
        cause = fmd_caused before mid ran did;
        quiet = fmd_quiet before mid ran did;
        did = did;
        headline = fmd_headline before mid ran did;
      },
      ends,
    )
