-- Entries: their moments, which of them a log can hold, and the bytes that spell them.
use Rattle.std.specs.Prelude.{◌≡◌, ℕ, ◌<◌, ◌^◌, Bool, true, false, List, ◌∷◌, ◌++◌, Some, IsTrue}
use Rattle.fm_name.specs.Category.{category_of}
use Rattle.fm_name.specs.Class.{is_class}
use Rattle.fm_name.specs.Path.{is_path}
use Rattle.fm_name.specs.declared.classes.Category.TheVariants.{Ereport}
use Rattle.fm_nv.specs.Data.{Pairs}
use Rattle.fm_bytes.specs.Numbers.{u32_bytes, u64_bytes, short_text}
use Rattle.fm_nv.specs.Spelled.{IsSpelledList, pairs_bytes}
use Rattle.fm_entry.specs.declared.case_name.CaseName.{CaseName}
use Rattle.fm_entry.specs.declared.entry.Entry.{Entry}
use Rattle.fm_entry.specs.declared.entry.Entry.TheVariants.{Report, Tick, Repaired, Replaced}
use Rattle.fm_entry.specs.declared.entry.Entry.TheVariants.{Acquit, Reload}

-- the moment of an entry
abbrev pub moment_of : Entry → ℕ
moment_of (Report class path moment payload) = moment
moment_of (Tick moment) = moment
moment_of (Repaired path moment) = moment
moment_of (Replaced path moment) = moment
moment_of (Acquit case moment) = moment
moment_of (Reload conf moment) = moment

-- the entry is a reload
abbrev pub is_reload : Entry → Bool
is_reload (Reload conf moment) = true
is_reload _ = false

-- a case name has a module below 8 and a case below 2^63
pub record IsCaseName (name : CaseName) : Type 0 where
  pub module_fits : name.module < 8
  pub case_fits : name.case < 2 ^ 63

-- a report's class is of category ereport, and its class, path and payload are in their grammars
pub record IsReport (class path : List ℕ) (payload : Pairs) : Type 0 where
  pub class_is : IsTrue (is_class class)
  pub category_is : category_of class ≡ Some Ereport
  pub path_is : IsTrue (is_path path)
  pub payload_is : IsSpelledList payload

-- what stands beside the moment has a spelling
abbrev pub IsBody : Entry → Type 0
IsBody (Report class path moment payload) = IsReport class path payload
IsBody (Tick moment) = Unit {0}
IsBody (Repaired path moment) = IsTrue (is_path path)
IsBody (Replaced path moment) = IsTrue (is_path path)
IsBody (Acquit case moment) = IsCaseName case
IsBody (Reload conf moment) = conf < 2 ^ 32

-- the entry has a spelling: its moment is below 2^62, and the rest is in range
pub record IsSpelled (entry : Entry) : Type 0 where
  pub moment_fits : moment_of entry < 2 ^ 62
  pub body : IsBody entry

-- the bytes that spell an entry: a byte for its kind, and its fields in order
abbrev pub entry_bytes : Entry → List ℕ
entry_bytes (Report class path moment payload) =
    1 ∷ (short_text class ++ (short_text path ++ (u64_bytes moment ++ pairs_bytes payload)))
entry_bytes (Tick moment) = 2 ∷ u64_bytes moment
entry_bytes (Repaired path moment) = 3 ∷ (short_text path ++ u64_bytes moment)
entry_bytes (Replaced path moment) = 4 ∷ (short_text path ++ u64_bytes moment)
entry_bytes (Acquit case moment) =
    5 ∷ (u32_bytes case.module ++ (u64_bytes case.case ++ u64_bytes moment))
entry_bytes (Reload conf moment) = 6 ∷ (u32_bytes conf ++ u64_bytes moment)
