-- The attributes of an event or an engine: what each says, and what is wrong with one.
use Rattle.std.specs.Prelude.{ℕ, ◌*◌, Bool, false, not, ◌&&◌, List, Option, Some, None, is_some}
use Rattle.std.specs.Prelude.{nat_le, nat_lt, count_by}
use Rattle.std.specs.List.{list_any}
use Rattle.fm_name.specs.Category.{category_of}
use Rattle.fm_name.specs.declared.classes.Category.{Category}
use Rattle.ev_tree.specs.declared.tree.EventAttr.{EventAttr}
use Rattle.ev_tree.specs.declared.tree.EventAttr.TheVariants as event_attrs
use Rattle.ev_tree.specs.declared.tree.EngineAttr.{EngineAttr}
use Rattle.ev_tree.specs.declared.tree.EngineAttr.TheVariants as engine_attrs
use Rattle.ev_tree.specs.declared.tree.TimeWord.{TimeWord}
use Rattle.ev_tree.specs.declared.tree.Unit.{Unit as TimeUnit}
use Rattle.ev_tree.specs.declared.tree.Unit.TheVariants as units
use Rattle.ev_words.specs.Categories.{is_fault, is_upset, is_report, is_serd}
use Rattle.ev_words.specs.declared.attributes.EventWord.{EventWord}
use Rattle.ev_words.specs.declared.attributes.EventWord.TheVariants as event_words
use Rattle.ev_words.specs.declared.attributes.EngineWord.{EngineWord}
use Rattle.ev_words.specs.declared.attributes.EngineWord.TheVariants as engine_words

-- a unit in nanoseconds
abbrev pub unit_length : TimeUnit → ℕ
unit_length units.Ns = 1
unit_length units.Us = 1000
unit_length units.Ms = 1000000
unit_length units.S = 1000000000
unit_length units.M = 60000000000
unit_length units.H = 3600000000000
unit_length units.D = 86400000000000

-- a length of time in nanoseconds
abbrev pub nanoseconds : TimeWord → ℕ
nanoseconds w = w.number * unit_length w.unit

-- The table of attributes: the value of one of the kind that is asked, a time in nanoseconds.
abbrev pub fit_value : EventAttr → Option ℕ
fit_value (event_attrs.Fit n) = Some n
fit_value _ = None

abbrev pub retire_value : EventAttr → Option ℕ
retire_value (event_attrs.Retire n) = Some n
retire_value _ = None

abbrev pub engine_value : EventAttr → Option (List ℕ)
engine_value (event_attrs.Engine c) = Some c
engine_value _ = None

abbrev pub within_value : EventAttr → Option ℕ
within_value (event_attrs.Within t) = Some (nanoseconds t)
within_value _ = None

abbrev pub n_value : EngineAttr → Option ℕ
n_value (engine_attrs.N n) = Some n
n_value _ = None

abbrev pub t_value : EngineAttr → Option ℕ
t_value (engine_attrs.T t) = Some (nanoseconds t)
t_value _ = None

abbrev pub trip_value : EngineAttr → Option (List ℕ)
trip_value (engine_attrs.Trip c) = Some c
trip_value _ = None

-- the attribute has that word
abbrev pub is_event_attr : EventWord → EventAttr → Bool
is_event_attr event_words.Fit = λ a. is_some (fit_value a)
is_event_attr event_words.Retire = λ a. is_some (retire_value a)
is_event_attr event_words.Engine = λ a. is_some (engine_value a)
is_event_attr event_words.Within = λ a. is_some (within_value a)

abbrev pub is_engine_attr : EngineWord → EngineAttr → Bool
is_engine_attr engine_words.N = λ a. is_some (n_value a)
is_engine_attr engine_words.T = λ a. is_some (t_value a)
is_engine_attr engine_words.Trip = λ a. is_some (trip_value a)

-- more than one of the attributes has such a value
abbrev pub repeats : {A B : Type 0} → (A → Option B) → List A → Bool
repeats value attrs = nat_lt 1 (count_by (λ a. is_some (value a)) attrs)

-- none of the attributes has such a value
abbrev pub lacks : {A B : Type 0} → (A → Option B) → List A → Bool
lacks value attrs = not (list_any (λ a. is_some (value a)) attrs)

-- the attribute may not stand at an event of this category, or names an engine that is none
abbrev pub is_misplaced : Option Category → EventAttr → Bool
is_misplaced c (event_attrs.Fit n) = not (is_fault c)
is_misplaced c (event_attrs.Retire n) = not (is_fault c)
is_misplaced c (event_attrs.Engine e) = not (is_upset c && is_serd (category_of e))
is_misplaced c (event_attrs.Within t) = not (is_report c)

-- the attribute names a trip that is no report
abbrev pub is_odd_trip : EngineAttr → Bool
is_odd_trip (engine_attrs.Trip c) = not (is_report (category_of c))
is_odd_trip _ = false

-- the number is from the one to the other
abbrev pub is_from : ℕ → ℕ → ℕ → Bool
is_from least most n = nat_le least n && nat_le n most

-- a number of an event or an engine is out of range
abbrev pub is_odd_number : EventAttr → Bool
is_odd_number (event_attrs.Fit n) = not (is_from 1 4294967295 n)
is_odd_number (event_attrs.Retire n) = not (is_from 0 1 n)
is_odd_number _ = false

abbrev pub is_odd_size : EngineAttr → Bool
is_odd_size (engine_attrs.N n) = not (is_from 1 1024 n)
is_odd_size _ = false

-- a time is out of range: a window goes up to 2^50 nanoseconds, the time of an engine from 1 to
-- 2^60
abbrev pub is_odd_window : EventAttr → Bool
is_odd_window (event_attrs.Within t) = not (is_from 0 1125899906842624 (nanoseconds t))
is_odd_window _ = false

abbrev pub is_odd_time : EngineAttr → Bool
is_odd_time (engine_attrs.T t) = not (is_from 1 1152921504606846976 (nanoseconds t))
is_odd_time _ = false
