-- What `init` did, in the words of the whole call.
use Rattle.std.proofs.Common.{◌≡◌, inl, inr, ℕ, List, [], ◌∷◌, map, refl, sym}
use Rattle.std.proofs.Common.{subst, OnOk, IfErr, IfSome, Result, Ok, Err, Some}
use Rattle.fm_answers.specs.Ending.{EndsAs}
use Rattle.fm_answers.specs.StreamsAt.{source_at}
use Rattle.fm_answers.specs.Stops.{of_compiling}
use Rattle.fm_answers.specs.declared.status.ToolStatus.{ToolStatus}
use Rattle.fm_answers.specs.declared.stops.Stop.{Stop}
use Rattle.fm_answers.specs.declared.stops.Stop.TheVariants.{Disk, Memory, Full, Exists}
use Rattle.fm_command.specs.declared.words.Command.TheVariants.{Init}
use Rattle.fm_outer.specs.declared.source.Source.{Ghosts}
use Rattle.fm_journal.specs.Crash.{IsEmptyOrNone}
use Rattle.fm_journal.specs.declared.fault.FullKind.TheVariants.{Payload}
use Rattle.fm_logs.specs.Contents.{Contents}
use Rattle.fm_logs.specs.declared.disks.DiskName.TheVariants.{Conf as ConfDisk}
use Rattle.fm_saved.specs.declared.conf.Conf.{Conf}
use Rattle.fm_sources.specs.Sources.{given}
use Rattle.fm_sources.specs.declared.faults.SourceFault.TheVariants as faults
use Rattle.fm_init.specs.Making.{HasStore}
use Rattle.fm_logs.specs.declared.disks.Disks.{Disks}
use Rattle.fm_top.specs.Calls.{IsCaused, Does, WorksOn, handed}
use Rattle.fm_top.specs.Init.{InitEnds, MakingEnds, AreUnwritten}
use Rattle.fm_top.specs.Init.{HasNoStore, conf_with}
use Rattle.fm_top.specs.Order.{Goes, LookPasses, at_rules, at_topology, at_graphs, at_no_store}
use Rattle.fm_top.specs.Order.{looks, world_of}
use Rattle.fm_top.specs.Outside.{Outside, DisksAt, Tells, Leaves, standing}
use Rattle.fm_top.specs.Outside.{given_of, counts_of}
use Rattle.fm_top.proofs.Headlines.{has_store}
use Rattle.fm_top.proofs.SourceFaults.{cause_goes, cause_caused, cause_standing, done_quiet}
use Rattle.fm_top.proofs.SourceFaults.{ok_no_err}
use Rattle.fm_top.proofs.Standing.{reads_standing}

-- ---- the order of refusals

made_goes : (before after : Outside) (namespace : List ℕ) (conf : Conf)
    (ran : Result (Unit {0}) Stop)
    → LookPasses (world_of before after) at_rules → LookPasses (world_of before after) at_topology
    → LookPasses (world_of before after) at_graphs → MakingEnds before.disks after.disks conf ran
    → Goes (world_of before after) (looks (Init namespace)) ran
made_goes before after namespace conf (Ok done) files topology graphs made =
    (files, (topology, (graphs, (made.was_none, tt))))
made_goes before after namespace conf (Err Exists) files topology graphs (read, there) =
    inr (inl (inr (files, inr (topology, inr (graphs, inl (refl, there))))))
made_goes before after namespace conf (Err (Full Payload)) files topology graphs
    (read, none, long) =
    inr (inr ((files, (topology, (graphs, (none, tt)))), tt))
made_goes before after namespace conf (Err Memory) files topology graphs read = inl tt
made_goes before after namespace conf (Err Disk) files topology graphs fails = inl tt
made_goes before after namespace conf (Err _) files topology graphs ends = absurd ends

abbrev EndsSo : List ℕ → Outside → Outside → Result (Unit {0}) Stop → Type 0
EndsSo namespace before after ran =
    InitEnds standing (given_of before) (given_of after) before.disks after.disks namespace ran

init_goes : (before after : Outside) (namespace : List ℕ) (ran : Result (Unit {0}) Stop)
    → EndsSo namespace before after ran → Goes (world_of before after) (looks (Init namespace)) ran
init_goes before after namespace ran (inl tried) =
    made_goes before after namespace (conf_with namespace tried.got) ran
    (tried.got.files.items, tried.read.0)
    (tried.got.topo_text.items, tried.got.topo, tried.read.1)
    (tried.got, tried.read, (tried.mades, tried.graphs)) tried.making
init_goes before after namespace ran (inr untried) =
    subst (Goes (world_of before after) (looks (Init namespace))) (sym untried.told)
    (cause_goes before after (at_no_store ∷ []) untried.fault untried.cause)

-- ---- the causes

made_caused : (before after : Outside) (conf : Conf) (ran : Result (Unit {0}) Stop)
    → MakingEnds before.disks after.disks conf ran → IfErr ran (IsCaused before after)
made_caused before after conf (Ok done) ends = tt
made_caused before after conf (Err Disk) ends = ends.0
made_caused before after conf (Err Exists) ends = tt
made_caused before after conf (Err (Full Payload)) ends = tt
made_caused before after conf (Err Memory) ends = tt
made_caused before after conf (Err _) ends = absurd ends

init_caused : (before after : Outside) (namespace : List ℕ) (ran : Result (Unit {0}) Stop)
    → EndsSo namespace before after ran → IfErr ran (IsCaused before after)
init_caused before after namespace ran (inl tried) =
    made_caused before after (conf_with namespace tried.got) ran tried.making
init_caused before after namespace ran (inr untried) =
    subst (λ r. IfErr r (IsCaused before after)) (sym untried.told)
    (cause_caused before after untried.fault untried.cause)

-- ---- the counts of a command that is done

init_quiet : (before after : Outside) (namespace : List ℕ) (ran : Result (Unit {0}) Stop)
    → EndsSo namespace before after ran → after.input ≡ before.input → after.out ≡ before.out
    → after.acts ≡ before.acts → OnOk ran (counts_of after ≡ counts_of before)
init_quiet before after namespace (Err stop) ends input out acts = tt
init_quiet before after namespace (Ok done) (inl tried) input out acts =
    done_quiet before after tried.got.files.items tried.got.topo_text.items tried.got.topo
    tried.read.0 tried.read.1 input (λ i. (out i).failures) acts tried.making.quiet
init_quiet before after namespace (Ok done) (inr untried) input out acts =
    absurd (ok_no_err done (of_compiling untried.fault) untried.told)

-- ---- where there was a store

no_two : (bytes : List ℕ) → HasStore bytes → IsEmptyOrNone bytes → ⊥
no_two bytes (first, payload, payloads, is) none =
    let e : payload ∷ payloads ≡ [] = none first (payload ∷ payloads) is in
    cc

none_told : (disks : DisksAt) (told : Contents) → Tells disks told → HasStore told.conf
    → HasNoStore disks → ⊥
none_told disks told tells there none =
    no_two told.conf there
    (subst (λ o. IfSome o IsEmptyOrNone) (tells ConfDisk) none)

read_kept : (before after : DisksAt) → AreUnwritten before after → (image : Contents)
    → Leaves after image → Leaves before image
read_kept before after read image leaves name = (read name).images _ (leaves name)

made_kept : (before after : DisksAt) (conf : Conf) (ran : Result (Unit {0}) Stop)
    → MakingEnds before after conf ran → (told image : Contents) → Tells before told
    → HasStore told.conf → Leaves after image → Leaves before image
made_kept before after conf (Ok done) made told image tells there leaves =
    absurd (none_told before told tells there made.was_none)
made_kept before after conf (Err Exists) ends told image tells there leaves =
    read_kept before after ends.0 image leaves
made_kept before after conf (Err (Full Payload)) ends told image tells there leaves =
    read_kept before after ends.0 image leaves
made_kept before after conf (Err Memory) read told image tells there leaves =
    read_kept before after read image leaves
made_kept before after conf (Err Disk) (rose, inl read) told image tells there leaves =
    read_kept before after read image leaves
made_kept before after conf (Err Disk) (rose, inr began) told image tells there leaves =
    absurd (none_told before told tells there began.was_none)
made_kept before after conf (Err _) ends told image tells there leaves = absurd ends

init_kept : (before after : Outside) (namespace : List ℕ) (ran : Result (Unit {0}) Stop)
    → EndsSo namespace before after ran → (told image : Contents) → Tells before.disks told
    → HasStore told.conf → Leaves after.disks image → Leaves before.disks image
init_kept before after namespace ran (inl tried) told image tells there leaves =
    made_kept before.disks after.disks (conf_with namespace tried.got) ran tried.making told image
    tells there leaves
init_kept before after namespace ran (inr untried) told image tells there leaves =
    read_kept before.disks after.disks untried.untouched image leaves

-- ---- the whole

pub does_init : (before after : Outside) (namespace : List ℕ) (ran : Result (Unit {0}) Stop)
    (result : ToolStatus)
    → InitEnds standing (given_of before) (given_of after) before.disks after.disks namespace ran
    → EndsAs before.out after.out ran result → after.input ≡ before.input
    → after.acts ≡ before.acts → Does (Some (Init namespace)) before after result
does_init before after namespace ran result ends last input acts =
    let mid : Outside = record after { out = before.out } in (
      ran,
      before.out,
      record {
        order = init_goes before mid namespace ran ends;
        cause = init_caused before mid namespace ran ends;
        quiet = init_quiet before mid namespace ran ends input refl acts;
        did = record {
          ends = ends;
          put = refl;
          kept = init_kept before mid namespace ran ends;
        };
        headline = λ told tells stood image leaves.
            init_kept before mid namespace ran ends told image tells (has_store told stood) leaves;
      },
      last,
    )

-- ---- the command below the call

-- what is said of the sources as objects is said of them as they stand
pub ends_standing : {S : Type 0} (g : Ghosts S) (olds news : List S) (old new : S)
    (before after : DisksAt) (namespace : List ℕ) (ran : Result (Unit {0}) Stop)
    → InitEnds g (given olds old) (given news new) before after namespace ran
    → InitEnds standing (given (map (source_at g) olds) (source_at g old))
    (given (map (source_at g) news) (source_at g new)) before after namespace ran
ends_standing g olds news old new before after namespace ran (inl tried) = inl (record {
  got = tried.got;
  read = reads_standing g olds news old new (Ok tried.got) tried.read;
  mades = tried.mades;
  graphs = tried.graphs;
  making = tried.making;
})
ends_standing g olds news old new before after namespace ran (inr untried) = inr (record {
  fault = untried.fault;
  cause = cause_standing g olds news old new untried.fault untried.cause;
  told = untried.told;
  untouched = untried.untouched;
  uncalled = untried.uncalled;
})

-- what the command leaves alone
pub works_init : {S D A : Type 0} (namespace : List ℕ) (input : S) (rules rules_now : List S)
    (topo topo_now : S) (disks disks_now : Disks D) (acts : List A)
    → disks_now.err_b ≡ disks.err_b
    → WorksOn (Some (Init namespace)) (handed input rules topo disks acts)
    (handed input rules_now topo_now disks_now acts)
works_init namespace input rules rules_now topo topo_now disks disks_now acts same =
    λ i. handed input rules_now topo_now (record disks_now { err_b = same i }) acts
