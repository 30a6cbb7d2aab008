-- The modules of kept configurations, to which nothing has happened, are diagnosis modules that are
-- made with graphs, in lawful states.
use Rattle.std.proofs.Common.{ℕ, zero, suc, ◌+◌, ◌<◌, ◌≤◌, IsTrue, List, [], ◌∷◌, length}
use Rattle.std.proofs.Common.{map, slice_get, refl, sym, subst, arith}
use Rattle.std.specs.List.{AllByRecursion, AllZip, range_with_len}
use Rattle.std.proofs.lemmas.List.Elements.{All-from_recursion}
use Rattle.fm_core.specs.Book.{ModuleState}
use Rattle.fm_payloads.specs.Spelling.{EachSpells}
use Rattle.fm_logs.specs.ReadsAsBook.{SpellsConf}
use Rattle.fm_saved.specs.declared.conf.Conf.{Conf}
use Rattle.fm_topo.specs.Topology.{Topology}
use Rattle.dx_state.specs.Configured.{Configuration, or_none}
use Rattle.dx_step.specs.Exact.{HaveGraphs}
use Rattle.dx_step.specs.Lawful.{is_lawful, is_there}
use Rattle.dx_step.specs.Longer.{rules_of}
use Rattle.dx_meaning.specs.Fresh.{fresh_of}
use Rattle.dx_meaning.proofs.Beginning.{fresh_lawful}
use Rattle.dx_along.specs.ExactAlong.{HasGraph, IsDiagnoserOf}
use Rattle.dx_along.proofs.Graphs.{listed_graphs}
use Rattle.fm_modules.specs.KeptTexts.{ConfMakes, EachHas, TextMakes}
use Rattle.fm_modules.specs.Modules.{AreModulesOf, configurations_at, file_count, first_module}
use Rattle.fm_modules_laws.specs.ExactSuspects.{rules_by_file}
use Rattle.fm_modules_laws.proofs.Formed.{configuration_count, rules_formed}

-- ---- the graphs

-- where there is no configuration of a number, the one without events has a graph
none_graph : HasGraph (or_none (slice_get [] 0))
none_graph = listed_graphs 0 [] (All-from_recursion HasGraph [] tt) 0

-- what a rule file of a configuration makes has a graph
row_graph : (topo : Topology) (texts : List (List ℕ)) (row : List Configuration) (i : ℕ)
    → EachHas (TextMakes topo) texts row → HasGraph (or_none (slice_get row i))
row_graph topo [] [] i each = none_graph
row_graph topo (text ∷ texts) (x ∷ row) zero each = each.0.makes.is_graph
row_graph topo (text ∷ texts) (x ∷ row) (suc i) each = row_graph topo texts row i each.1
row_graph topo [] (x ∷ row) i each = absurd each
row_graph topo (text ∷ texts) [] i each = absurd each

-- and so has that of each configuration
rows_graphs : (confs : List Conf) (rows : List (List Configuration)) (i : ℕ)
    → EachHas ConfMakes confs rows → AllByRecursion HasGraph (configurations_at i rows)
rows_graphs [] [] i each = tt
rows_graphs (conf ∷ confs) (row ∷ rows) i each =
    (row_graph each.0.topo conf.rules row i each.0.files, rows_graphs confs rows i each.1)
rows_graphs [] (row ∷ rows) i each = absurd each
rows_graphs (conf ∷ confs) [] i each = absurd each

-- ---- the states
some_there : (xs : List Configuration) → 1 ≤ length xs → IsTrue (is_there (slice_get xs 0))
some_there [] some = absurd (let no : ⊥ = omega (arith, some) in no)
some_there (x ∷ xs) some = refl

module _ (confs : List Conf) (rows : List (List Configuration))
    (make : EachHas ConfMakes confs rows) where
  has_graphs : (i : ℕ) → HaveGraphs (rules_of i (configurations_at i rows))
  has_graphs i =
      listed_graphs i (configurations_at i rows)
      (All-from_recursion HasGraph (configurations_at i rows) (rows_graphs confs rows i make))

  first_lawful : 1 ≤ length confs → length confs ≤ 16 → (i : ℕ) → i < 8
      → IsTrue (is_lawful (rules_of i (configurations_at i rows))
      (fresh_of (rules_of i (configurations_at i rows))))
  first_lawful some few i low =
      let many = configuration_count confs rows i make in
      fresh_lawful (rules_of i (configurations_at i rows))
      (rules_formed confs rows i make few low)
      (some_there (configurations_at i rows) (omega (arith, some, many)))

  -- the modules of these numbers
  numbered_are : 1 ≤ length confs → length confs ≤ 16 → (numbers : List ℕ)
      → AllByRecursion (λ i. i < 8) numbers
      → AllZip IsDiagnoserOf (map (λ i. rules_of i (configurations_at i rows)) numbers)
      (map (λ i. first_module i (configurations_at i rows)) numbers)
  numbered_are some few [] low = tt
  numbered_are some few (i ∷ numbers) low = (
    record {
      meaning_is = refl;
      holds = first_lawful some few i low.0;
      graphs = has_graphs i;
    },
    numbered_are some few numbers low.1,
  )

-- numbers of a range that ends at 8 or before
range_low : (a n : ℕ) → a + n ≤ 8 → AllByRecursion (λ i. i < 8) (range_with_len a n)
range_low a zero within = tt
range_low a (suc n) within = (omega (arith, within), range_low (a + 1) n (omega (arith, within)))

-- a configuration with a spelling has at most 8 rule files
few_files : (payloads : List (List ℕ)) (confs : List Conf) → EachSpells SpellsConf payloads confs
    → file_count confs ≤ 8
few_files [] [] each = omega arith
few_files (p ∷ ps) (conf ∷ confs) each = each.0.0.few
few_files [] (conf ∷ confs) each = absurd each
few_files (p ∷ ps) [] each = absurd each

pub firsts_are : (payloads : List (List ℕ)) (confs : List Conf) (fresh : List ModuleState)
    → EachSpells SpellsConf payloads confs → 1 ≤ length confs → length confs ≤ 16
    → (made : AreModulesOf confs fresh)
    → AllZip IsDiagnoserOf (rules_by_file (file_count confs) made.rows) fresh
firsts_are payloads confs fresh spelled some few made =
    subst (AllZip IsDiagnoserOf (rules_by_file (file_count confs) made.rows))
    (sym made.modules_are)
    (numbered_are confs made.rows made.make some few (range_with_len 0 (file_count confs))
    (range_low 0 (file_count confs) (omega (arith, few_files payloads confs spelled))))
