-- Contents that read as a book of the modules of their own texts are nowhere damaged.
use Rattle.std.proofs.Common.{◌≡◌, inl, inr, ℕ, List, [], ◌∷◌, sym, ◌∙◌, subst}
use Rattle.std.proofs.lemmas.Option.{none-some}
use Rattle.ev_check.specs.CheckedFile.{CheckedFile}
use Rattle.dx_state.specs.Configured.{Configuration}
use Rattle.fm_core.specs.Book.{ModuleState}
use Rattle.fm_logs.specs.Contents.{Contents}
use Rattle.fm_logs.specs.ReadsAsBook.{SpellsConf}
use Rattle.fm_logs.specs.declared.disks.DiskName.{DiskName}
use Rattle.fm_looks.proofs.Spelled.{conf_once}
use Rattle.fm_looks.specs.Opening.{DamageAt, FirstStoreFinds, StorePasses, WasRead, all_looks}
use Rattle.fm_looks.specs.Opening.{at_confs, at_records, at_states}
use Rattle.fm_modules.specs.KeptTexts.{ConfMakes, IsFirstRefused, IsRefusedConf, IsRefusedText}
use Rattle.fm_modules.specs.KeptTexts.{TextMakes}
use Rattle.fm_modules.specs.Modules.{AreModulesOf}
use Rattle.fm_modules.specs.Opening.{FirstOpeningFinds, at_disk, opening_looks}
use Rattle.fm_modules_laws.proofs.OneRow.{each_at, modules_one}
use Rattle.fm_saved.specs.declared.conf.Conf.{Conf}
use Rattle.fm_sources.specs.Rules.{IsRuleFile, IsRulesFault}
use Rattle.fm_sources.specs.declared.faults.RulesKind.{RulesKind}
use Rattle.fm_sources_laws.proofs.OneFile.{rule_files_one}
use Rattle.fm_store.proofs.Damages.{same_log}
use Rattle.fm_store.proofs.OpeningLaws.{finds_or_passes, passes_looks}
use Rattle.fm_topo.specs.Fault.{IsFaultless, IsFirstFault}
use Rattle.fm_topo.specs.Topology.{Topology}
use Rattle.fm_topo.specs.declared.faults.TopoFault.TheVariants.{At}
use Rattle.fm_topo.specs.declared.faults.TopoKind.{TopoKind}
use Rattle.fm_top.specs.Kept.{BookAt, FirstDamage}
use Rattle.fm_top_laws.proofs.WithinLimits.{links_in_limit, nodes_in_limit}

-- a law of fm_sources_laws: a rule file has no fault
abbrev pub RulesHaveNoFault : Type 0
RulesHaveNoFault = (text : List ℕ) (f : CheckedFile) (place : ℕ) (kind : RulesKind)
    → IsRuleFile text f → IsRulesFault text place kind → ⊥

-- ---- texts that make modules are not refused

pub clean_unfaulted : (text : List ℕ) (line : ℕ) (kind : TopoKind) → IsFaultless text
    → IsFirstFault text (At line kind) → ⊥
clean_unfaulted text line kind clean (k, line_is, inside, found, before) =
    none-some kind (sym (clean k inside) ∙ found)

text_unrefused : RulesHaveNoFault → (topo : Topology) (text : List ℕ) (x : Configuration)
    → TextMakes topo text x → IsRefusedText topo text → ⊥
text_unrefused no_fault topo text x makes (inl (place, kind, fault)) =
    no_fault text makes.checked place kind makes.is_rules fault
text_unrefused no_fault topo text x makes (inr (checked, is_rules, inl nodes)) =
    nodes_in_limit makes.checked checked topo makes.makes.made
    (rule_files_one text makes.checked checked makes.is_rules is_rules) makes.makes.is_made nodes
text_unrefused no_fault topo text x makes (inr (checked, is_rules, inr links)) =
    links_in_limit makes.checked checked topo makes.makes.made
    (rule_files_one text makes.checked checked makes.is_rules is_rules) makes.makes.is_made links

conf_unrefused : RulesHaveNoFault → (conf : Conf) (row : List Configuration) → ConfMakes conf row
    → IsRefusedConf conf → ⊥
conf_unrefused no_fault conf row makes (inl (line, kind, fault)) =
    clean_unfaulted conf.topo line kind makes.topo_is.clean fault
conf_unrefused no_fault conf row makes (inr (topo, topo_is, (i, text, there, refused))) =
    let same : topo ≡ makes.topo = topo_is.topology_is ∙ sym makes.topo_is.topology_is in
    let at = each_at (TextMakes makes.topo) conf.rules row i text makes.files there in
    text_unrefused no_fault makes.topo text at.0 at.2
    (subst (λ (t : Topology). IsRefusedText t text) same refused)

confs_unrefused : RulesHaveNoFault → (confs : List Conf) (modules : List ModuleState) (at : ℕ)
    → AreModulesOf confs modules → IsFirstRefused confs at → ⊥
confs_unrefused no_fault confs modules at made refused =
    let own = each_at ConfMakes confs made.rows at refused.conf made.make refused.there in
    conf_unrefused no_fault refused.conf own.0 own.2 refused.refused

-- ---- the looks of an opening

module _ (no_fault : RulesHaveNoFault) (c : Contents) (stood : BookAt c)
    (fresh : List ModuleState) (o : WasRead) (d : DamageAt) where
  -- what the looks at the disks find is not there, whatever the modules
  finds_none : (modules : List ModuleState) → modules ≡ stood.fresh
      → FirstStoreFinds modules c o all_looks d → ⊥
  finds_none modules same finds =
      let passes = passes_looks stood.fresh c stood.book stood.reads in
      finds_or_passes stood.fresh c o passes.0 passes.1 d
      (subst (λ (ms : List ModuleState). FirstStoreFinds ms c o all_looks d) same finds)

  confs_are : StorePasses fresh c o at_confs → o.confs ≡ stood.book.confs
  confs_are passes =
      (same_log SpellsConf conf_once c.conf passes.0.0 stood.reads.says.conf_first o.confs
      stood.book.confs passes.0.1 stood.reads.says.confs).1

  modules_are : StorePasses fresh c o at_confs → AreModulesOf o.confs fresh → fresh ≡ stood.fresh
  modules_are passes made =
      modules_one stood.book.confs fresh stood.fresh
      (subst (λ (l : List Conf). AreModulesOf l fresh) (confs_are passes) made) stood.made

  behind_modules : FirstOpeningFinds fresh c o (at_disk at_states ∷ at_disk at_records ∷ []) d
      → FirstStoreFinds fresh c o (at_states ∷ at_records ∷ []) d
  behind_modules (inl found) = inl found
  behind_modules (inr (states, inl found)) = inr (states, inl found)
  behind_modules (inr (states, inr (records, none))) = absurd none

  opening_finds_none : FirstOpeningFinds fresh c o opening_looks d → ⊥
  opening_finds_none (inl found) = finds_none stood.fresh (λ i. stood.fresh) (inl found)
  opening_finds_none (inr (confs, inl found)) =
      finds_none stood.fresh (λ i. stood.fresh) (inr (confs, inl found))
  opening_finds_none (inr (confs, inr (a, inl found))) =
      finds_none stood.fresh (λ i. stood.fresh) (inr (confs, inr (a, inl found)))
  opening_finds_none (inr (confs, inr (a, inr (b, inl found)))) =
      finds_none stood.fresh (λ i. stood.fresh) (inr (confs, inr (a, inr (b, inl found))))
  opening_finds_none (inr (confs, inr (a, inr (b, inr (says, inl found))))) =
      finds_none stood.fresh (λ i. stood.fresh)
      (inr (confs, inr (a, inr (b, inr (says, inl found)))))
  opening_finds_none
      (inr (confs, inr (a, inr (b, inr (says, inr (entries, inl (disk, at, refused, place))))))) =
      confs_unrefused no_fault stood.book.confs stood.fresh at stood.made
      (subst (λ (l : List Conf). IsFirstRefused l at) (confs_are confs) refused)
  opening_finds_none
      (inr (confs, inr (a, inr (b, inr (says, inr (entries, inr (made, behind))))))) =
      finds_none fresh (modules_are confs made)
      (inr (confs, inr (a, inr (b, inr (says, inr (entries, behind_modules behind))))))

pub no_damage : RulesHaveNoFault → (c : Contents) (disk : DiskName) (place : ℕ) → BookAt c
    → FirstDamage c disk place → ⊥
no_damage no_fault c disk place stood (fresh, read, finds) =
    opening_finds_none no_fault c stood fresh read _ finds
