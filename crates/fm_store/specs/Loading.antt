-- The modules of a store at its base, as its slots say them, and why they are not there.
use Rattle.std.specs.Prelude.{◌≡◌, ℕ, Bool, List, map, All, Some, None}
use Rattle.std.specs.List.{AllByRecursion}
use Rattle.std.specs.declared.option.Option.{Option}
use Rattle.fm_core.specs.Book.{ModuleState}
use Rattle.fm_core.specs.declared.module.Module.{Ghosts as ModuleGhosts}
use Rattle.fm_logs.specs.ReadsAsBook.{AreLoaded}
use Rattle.fm_logs.specs.StoreBook.{HaveConf}
use Rattle.fm_logs.specs.declared.fault.StoreFault.{StoreFault}
use Rattle.fm_logs.specs.declared.fault.StoreFault.TheVariants.{Damaged, NoMemory}
use Rattle.fm_retrace.specs.declared.retraced.Retraced.{Retraced}
use Rattle.fm_saved.specs.Saved.{FitsLongText}
use Rattle.fm_looks.specs.Opening.{slot_name}

-- modules that take entries again, as those of a book
abbrev pub states_of : {M : Type 0} → ModuleGhosts M → List (Retraced M) → List ModuleState
states_of g modules =
    map (λ own. record { meaning = g.meaning own.object; state = g.state own.object }) modules

-- none of them has spoken yet
abbrev pub AreSilent : {M : Type 0} → List (Retraced M) → Type 0
AreSilent modules = AllByRecursion (λ own. own.past ≡ 0) modules

-- The modules at the base: as they were made where no slot is open, and else of the states that are
-- saved there, and of the configuration in force.
abbrev pub AreAtBase : List ModuleState → Option (Bool × ℕ) → ℕ → List (List ℕ)
    → List (List ℕ) → List ModuleState → Type 0
AreAtBase fresh None conf states saves modules = modules ≡ fresh
AreAtBase fresh (Some newest) conf states saves modules =
    (saves ≡ states) × HaveConf conf modules

-- Why the modules at the base are not there. Damaged only at the slot in force, where no modules
-- have the states that are saved there.
abbrev pub BaseRefused : List ModuleState → Option (Bool × ℕ) → ℕ → List (List ℕ) → StoreFault
    → Type 0
BaseRefused fresh (Some newest) conf states (Damaged disk place) =
    (disk ≡ slot_name newest.0) × (place ≡ 13)
    × (All FitsLongText states → (modules : List ModuleState) → AreLoaded fresh states modules
    → HaveConf conf modules → ⊥)
BaseRefused fresh newest conf states NoMemory = Unit {0}
BaseRefused _ _ _ _ _ = ⊥
