-- What sources that come to nothing are to a command, and what those leave that were read.
use Rattle.std.proofs.Common.{◌≡◌, inl, inr, ℕ, zero, suc, List, [], ◌∷◌, map, refl, Ok, Err}
use Rattle.fm_answers.specs.StreamsAt.{SourceAt, source_at}
use Rattle.fm_answers.specs.Stops.{of_compiling, of_sources}
use Rattle.fm_answers.specs.declared.stops.Stop.{Stop}
use Rattle.fm_esc.specs.Compiling.{CompileCause}
use Rattle.fm_esc.specs.declared.faults.CompileFault.{CompileFault}
use Rattle.fm_esc.specs.declared.faults.CompileFault.TheVariants as compiling
use Rattle.fm_outer.specs.declared.source.Source.{Ghosts}
use Rattle.fm_sources.specs.Sources.{given, FilesGave, GaveTopology, ReadsSources, RefusedAt}
use Rattle.fm_sources.specs.declared.faults.SourceFault.{SourceFault}
use Rattle.fm_sources.specs.declared.faults.SourceFault.TheVariants as faults
use Rattle.fm_sources.specs.declared.files.RuleFile.{RuleFile}
use Rattle.fm_topo.specs.Topology.{Topology}
use Rattle.fm_topo.specs.declared.faults.TopoKind.{TopoKind}
use Rattle.fm_top.specs.Calls.{IsCaused}
use Rattle.fm_top.specs.Order.{Goes, World, Look, at_rules, at_topology, at_graphs, world_of}
use Rattle.fm_top.specs.Outside.{Outside, RoseAt, standing, given_of, source_counts}
use Rattle.fm_top.specs.Outside.{disk_counts, counts_of}
use Rattle.fm_top.proofs.Standing.{reads_standing}

-- ---- the order of refusals

-- no rule file is refused as a topology
no_topology : (number at : ℕ) (olds news : List SourceAt) (line : ℕ)
    (kind : TopoKind)
    → RefusedAt standing number at olds news (faults.Topology line kind) → ⊥
no_topology number zero (old ∷ olds) (new ∷ news) line kind refused = refused.0
no_topology number (suc at) (old ∷ olds) (new ∷ news) line kind refused =
    no_topology (suc number) at olds news line kind refused.1
no_topology _ _ _ _ _ _ refused = absurd refused

-- sources that are refused, of a command that looks at them first
pub refused_goes : (w : World) (more : List Look) (fault : SourceFault)
    → ReadsSources standing w.sources w.sources_now (Err fault)
    → Goes w (at_rules ∷ at_topology ∷ more) (Err (of_sources fault))
refused_goes w more faults.Read read = inl tt
refused_goes w more faults.NoMemory read = inl tt
refused_goes w more (faults.Rules file place kind) (inl (refused, rest)) =
    inr (inl (inl (file, place, kind, refl, refused)))
refused_goes w more (faults.Rules file place kind) (inr (files, refused)) = absurd refused
refused_goes w more (faults.Topology line kind) (inl ((at, refused), rest)) =
    absurd (no_topology 0 at _ _ line kind refused)
refused_goes w more (faults.Topology line kind) (inr (files, refused)) =
    inr (inl (inr (files, inl (line, kind, refl, refused))))

-- sources that come to nothing, of a command that looks at them first
pub cause_goes : (before after : Outside) (more : List Look) (fault : CompileFault)
    → CompileCause standing (given_of before) (given_of after) fault
    → Goes (world_of before after) (at_rules ∷ at_topology ∷ at_graphs ∷ more)
    (Err (of_compiling fault))
cause_goes before after more (compiling.Sources fault) cause =
    refused_goes (world_of before after) (at_graphs ∷ more) fault cause
cause_goes before after more (compiling.Graph file limit) (got, read, past) =
    inr (inl (inr (
      (got.files.items, read.0),
      inr ((got.topo_text.items, got.topo, read.1), inl (file, limit, refl, (got, read, past))),
    )))
cause_goes before after more compiling.NoMemory cause = inl tt

-- ---- the causes

abbrev failures_of : SourceAt → ℕ
failures_of s = s.failures

rule_rose : (number at : ℕ) (olds news : List SourceAt)
    → RefusedAt standing number at olds news faults.Read
    → RoseAt (map failures_of olds) (map failures_of news) at
rule_rose number zero (old ∷ olds) (new ∷ news) (rose, same) = (_, _, refl, refl, rose)
rule_rose number (suc at) (old ∷ olds) (new ∷ news) (gave, more) =
    rule_rose (suc number) at olds news more
rule_rose _ _ _ _ refused = absurd refused

source_rose : (before after : Outside)
    → ReadsSources standing (given_of before) (given_of after) (Err faults.Read)
    → (at : ℕ) × RoseAt (source_counts before) (source_counts after) at
source_rose before after (inl ((at, refused), rest)) =
    (suc (suc at), rule_rose 0 at before.rules after.rules refused)
source_rose before after (inr (files, rose)) = (1, (_, _, refl, refl, rose))

pub refused_caused : (before after : Outside) (fault : SourceFault)
    → ReadsSources standing (given_of before) (given_of after) (Err fault)
    → IsCaused before after (of_sources fault)
refused_caused before after faults.Read read = source_rose before after read
refused_caused before after (faults.Rules file place kind) read = tt
refused_caused before after (faults.Topology line kind) read = tt
refused_caused before after faults.NoMemory read = tt

pub cause_caused : (before after : Outside) (fault : CompileFault)
    → CompileCause standing (given_of before) (given_of after) fault
    → IsCaused before after (of_compiling fault)
cause_caused before after (compiling.Sources fault) cause =
    refused_caused before after fault cause
cause_caused before after (compiling.Graph file limit) cause = tt
cause_caused before after compiling.NoMemory cause = tt

-- ---- the counts of a command that is done

pub rules_quiet : (olds news : List SourceAt) (files : List RuleFile)
    → FilesGave standing olds news files → map failures_of news ≡ map failures_of olds
rules_quiet [] [] [] gave = refl
rules_quiet (old ∷ olds) (new ∷ news) (file ∷ files) (one, more) =
    λ i. one.gave.quiet i ∷ rules_quiet olds news files more i
rules_quiet _ _ _ gave = absurd gave

-- what was read left its counts, and so did the rest
pub done_quiet : (before after : Outside) (files : List RuleFile) (text : List ℕ)
    (topo : Topology)
    → FilesGave standing before.rules after.rules files
    → GaveTopology standing before.topo after.topo text topo
    → after.input ≡ before.input → after.out.failures ≡ before.out.failures
    → after.acts ≡ before.acts → disk_counts after.disks ≡ disk_counts before.disks
    → counts_of after ≡ counts_of before
done_quiet before after files text topo rules topology input out acts disks =
    let from_rules = rules_quiet before.rules after.rules files rules in
    λ i. record {
      sources = (input i).failures ∷ topology.gave.quiet i ∷ from_rules i;
      out = out i;
      disks = disks i;
      acts = map (λ a. a.failures) (acts i);
    }

pub ok_no_err : (done : Unit {0}) (stop : Stop) → Ok done ≡ Err stop → ⊥
ok_no_err done stop e = cc

-- ---- what is said of the sources as objects is said of them as they stand

module _ {S : Type 0} (g : Ghosts S) (olds news : List S) (old new : S) where
  pub cause_standing : (fault : CompileFault)
      → CompileCause g (given olds old) (given news new) fault
      → CompileCause standing (given (map (source_at g) olds) (source_at g old))
      (given (map (source_at g) news) (source_at g new)) fault
  cause_standing (compiling.Sources fault) cause =
      reads_standing g olds news old new (Err fault) cause
  cause_standing (compiling.Graph file limit) (got, read, past) =
      (got, reads_standing g olds news old new (Ok got) read, past)
  cause_standing compiling.NoMemory (got, read) =
      (got, reads_standing g olds news old new (Ok got) read)
