-- Modules that are made, one after another, and what is known of them.
use Rattle.std.proofs.Common.{◌≡◌, ℕ, zero, suc, ◌+◌, ◌<◌, ◌≤◌, List, [], ◌∷◌, ◌++◌, length, map}
use Rattle.std.proofs.Common.{take}
use Rattle.std.proofs.Common.{Some, refl, sym, ap, ◌∙◌, subst, arith, slice_get}
use Rattle.std.proofs.Common.{get_or}
use Rattle.std.specs.List.{All, range_with_len}
use Rattle.std.specs.Option.{ForSome}
use Rattle.std.proofs.lemmas.List.{length-map, map-append, take_more}
use Rattle.std.proofs.lemmas.List.FromFn.{get_or-range_with_len, length-range_with_len}
use Rattle.std.proofs.lemmas.List.FromFn.{map-range_with_len_more}
use Rattle.std.proofs.lemmas.Option.{get_or_from_slice_get, slice_get-map, slice_get_read}
use Rattle.std.proofs.lemmas.Option.{slice_get_within}
use Rattle.fm_core.proofs.Lists.{map_got}
use Rattle.fm_core.specs.Book.{ModuleState}
use Rattle.fm_core.specs.Meaning.{Diagnosing, conf_of}
use Rattle.fm_init.specs.Making.{AreFirstModules}
use Rattle.fm_looks.specs.Looks.{AreKeptConfs}
use Rattle.fm_saved.specs.declared.conf.Conf.{Conf}
use Rattle.fm_store.specs.Adopting.{KnowAll}
use Rattle.fm_store.specs.StoreOf.{made_modules}
use Rattle.dx_engine.specs.Diagnosers.{DiagnoserOf, diagnosers}
use Rattle.dx_meaning.specs.DiagnoserMeaning.{diagnoser_meaning}
use Rattle.dx_meaning.specs.Fresh.{fresh_of}
use Rattle.dx_rules.specs.Rulebooks.{ruled_of, rules_in}
use Rattle.dx_rules.specs.declared.rulebook.Rulebook.{Rulebook}
use Rattle.dx_rules.specs.declared.ruled.Ruled.{Ruled}
use Rattle.dx_engine.specs.Standing.{state_of}
use Rattle.dx_state.specs.Configured.{Configuration, or_none}
use Rattle.dx_step.specs.Longer.{rules_of}
use Rattle.fm_modules.specs.KeptTexts.{ConfMakes, EachHas, TextMakes, conf_row, conf_rows}
use Rattle.fm_modules.specs.Modules.{AreModulesOf, configurations_at, file_count}
use Rattle.fm_modules.specs.Modules.{first_module, first_modules}
use Rattle.fm_modules.specs.declared.kept.MadeConf.{MadeConf}
use Rattle.fm_modules.proofs.KeptRows.{each_count}

-- what stands at a place of a row
row_at : (files : List Ruled) (i : ℕ) (x : Ruled) → i < length files → x ≡ get_or files i x
    → or_none (slice_get (map ruled_of files) i) ≡ ruled_of x
row_at files i x low is =
    ap or_none (slice_get-map ruled_of files i
    ∙ ap (λ o. Rattle.std.specs.Option.option_map ruled_of o)
    (slice_get_read files (length files) i x refl low is))

-- one row more
rows_more : (file : ℕ) (mades : List MadeConf) (i : ℕ) (made : MadeConf) (x : Ruled)
    → i < length mades → made ≡ get_or mades i made → file < length made.files.items
    → x ≡ get_or made.files.items file x
    → configurations_at file (conf_rows (take (i + 1) mades))
    ≡ configurations_at file (conf_rows (take i mades)) ++ ruled_of x ∷ []
rows_more file mades i made x low is inside at =
    ap (λ ms. configurations_at file (conf_rows ms))
    (take_more mades i made low ∙ ap (λ m. take i mades ++ m ∷ []) (sym is))
    ∙ ap (λ rows. configurations_at file rows) (map-append conf_row (take i mades) (made ∷ []))
    ∙ map-append (λ row. or_none (slice_get row file)) (conf_rows (take i mades))
    (conf_row made ∷ [])
    ∙ ap (λ y. configurations_at file (conf_rows (take i mades)) ++ y ∷ [])
    (row_at made.files.items file x inside at)

-- one copy more
pub copies_more : (file : ℕ) (mades : List MadeConf) (i : ℕ) (made : MadeConf) (x copy : Ruled)
    (old new : List Ruled) → i < length mades → made ≡ get_or mades i made
    → file < length made.files.items → x ≡ get_or made.files.items file x
    → ruled_of copy ≡ ruled_of x
    → map ruled_of old ≡ configurations_at file (conf_rows (take i mades))
    → new ≡ old ++ copy ∷ []
    → map ruled_of new ≡ configurations_at file (conf_rows (take (i + 1) mades))
copies_more file mades i made x copy old new low is inside at same before new_is =
    ap (map ruled_of) new_is
    ∙ map-append ruled_of old (copy ∷ [])
    ∙ (λ j. before j ++ same j ∷ [])
    ∙ sym (rows_more file mades i made x low is inside at)

-- the module that is made of copies
pub module_is : (d : DiagnoserOf) (rules : Rulebook) (own : ℕ) (list : List Configuration)
    → d.rules ≡ rules → state_of d.standing ≡ fresh_of (rules_in rules)
    → rules_in rules ≡ rules_of own list
    → made_modules diagnosers (d ∷ []) ≡ first_module own list ∷ []
module_is d rules own list is state same =
    let r : rules_in d.rules ≡ rules_of own list = ap rules_in is ∙ same in
    let s : state_of d.standing ≡ fresh_of (rules_of own list) = state ∙ ap fresh_of same in
    λ i. record { meaning = diagnoser_meaning (r i); state = Diagnosing (s i) } ∷ []

-- one module more
pub modules_more : (rows : List (List Configuration)) (i : ℕ) (old new : List DiagnoserOf)
    (d : DiagnoserOf) → made_modules diagnosers old ≡ first_modules i rows
    → made_modules diagnosers (d ∷ []) ≡ first_module i (configurations_at i rows) ∷ []
    → new ≡ old ++ d ∷ [] → made_modules diagnosers new ≡ first_modules (i + 1) rows
modules_more rows i old new d before one is =
    ap (made_modules diagnosers) is
    ∙ map-append (λ m. record { meaning = diagnosers.meaning m; state = diagnosers.state m }) old
    (d ∷ [])
    ∙ (λ j. before j ++ one j)
    ∙ sym (map-range_with_len_more (λ n. first_module n (configurations_at n rows)) 0 i i
    (omega arith))

-- ---- what is known of them
module_at : (count : ℕ) (rows : List (List Configuration)) (i : ℕ) (p : ModuleState)
    → slice_get (first_modules count rows) i ≡ Some p
    → first_module i (configurations_at i rows) ≡ p
module_at count rows i p there =
    let got = map_got (λ n. first_module n (configurations_at n rows)) (range_with_len 0 count) i p
    there in
    let low = slice_get_within (range_with_len 0 count) i got.0 got.1 in
    let inside : i < count = omega (arith, low, length-range_with_len 0 count) in
    let number : got.0 ≡ i =
    omega (
      arith,
      get_or_from_slice_get (range_with_len 0 count) i got.0 0 got.1,
      get_or-range_with_len 0 count i 0 inside,
    ) in
    ap (λ n. first_module n (configurations_at n rows)) (sym number) ∙ got.2

same_zero : (x : ℕ) → Some 0 ≡ Some x → x ≡ 0
same_zero x is = cc

pub first_are : (count : ℕ) (rows : List (List Configuration))
    → AreFirstModules (first_modules count rows)
first_are count rows = record {
  numbered = λ i p there. ap (λ (q : ModuleState). q.meaning.own)
      (sym (module_at count rows i p there));
  of_first = λ i p there. subst (λ (q : ModuleState). ForSome (conf_of q.meaning q.state)
      (λ conf. conf ≡ 0)) (module_at count rows i p there) same_zero;
}

pub first_know : (count known : ℕ) (rows : List (List Configuration)) → length rows ≡ known
    → KnowAll known (first_modules count rows)
first_know count known rows many = λ i p s there x is.
    ap (λ (q : ModuleState). q.meaning.known) (sym (module_at count rows i p there))
    ∙ length-map rows (λ row. or_none (slice_get row i)) ∙ many

-- ---- each configuration of a store has as many rule files as the first
pub few_files : (confs : List Conf) → AreKeptConfs confs → file_count confs ≤ 8
few_files [] kept = omega arith
few_files (conf ∷ confs) kept = (kept.spelled 0 conf (omega arith)).few

-- modules of kept configurations are no more than eight
pub few_modules : (confs : List Conf) (kept : List DiagnoserOf) → AreKeptConfs confs
    → AreModulesOf confs (made_modules diagnosers kept) → length kept ≤ 8
few_modules confs kept are modules =
    let made = ap length modules.modules_are in
    let as_many : length (made_modules diagnosers kept) ≡ length kept =
    length-map kept _ in
    let numbers = length-map (range_with_len 0 (file_count confs))
    (λ i. first_module i (configurations_at i modules.rows)) in
    omega (
      arith,
      few_files confs are,
      made,
      numbers,
      length-range_with_len 0 (file_count confs),
      as_many,
    )

all_first : (count : ℕ) (made : MadeConf) (mades : List MadeConf)
    → length made.files.items ≡ count
    → All (λ (m : MadeConf). length m.files.items ≡ count) mades
    → All (λ (m : MadeConf). length m.files.items ≡ count) (made ∷ mades)
all_first count made mades one rest = λ k d low. each k d low
  where
    each : (k : ℕ) (d : MadeConf) → k < length (made ∷ mades)
        → length (get_or (made ∷ mades) k d).files.items ≡ count
    each zero d low = one
    each (suc k) d low = rest k d (omega (arith, low))

same_files : (confs : List Conf) (mades : List MadeConf) (count : ℕ)
    → ((i : ℕ) (conf : Conf) → slice_get confs i ≡ Some conf → length conf.rules ≡ count)
    → EachHas ConfMakes confs (conf_rows mades)
    → All (λ (made : MadeConf). length made.files.items ≡ count) mades
same_files [] [] count same each = λ k d low. absurd (omega (arith, low))
same_files [] (made ∷ mades) count same each = absurd each
same_files (conf ∷ confs) [] count same each = absurd each
same_files (conf ∷ confs) (made ∷ mades) count same each =
    all_first count made mades
    (sym (length-map made.files.items ruled_of)
    ∙ each_count (TextMakes each.0.topo) conf.rules (conf_row made) each.0.files
    ∙ same 0 conf refl)
    (same_files confs mades count (λ i c there. same (suc i) c there) each.1)

pub files_alike : (confs : List Conf) (mades : List MadeConf) → AreKeptConfs confs
    → EachHas ConfMakes confs (conf_rows mades)
    → All (λ (made : MadeConf). length made.files.items ≡ file_count confs) mades
files_alike [] [] kept each = λ k d low. absurd (omega (arith, low))
files_alike [] (made ∷ mades) kept each = absurd each
files_alike (conf ∷ confs) mades kept each =
    same_files (conf ∷ confs) mades (length conf.rules)
    (λ i c there. sym (kept.fit.0 conf i c refl there).same_count) each
