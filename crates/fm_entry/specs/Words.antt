-- Words spoken: which of them a log can hold.
use Rattle.std.specs.Prelude.{
  ◌≡◌,
  ◌==◌,
  ℕ,
  ◌<◌,
  ◌≤◌,
  ◌^◌,
  Bool,
  true,
  ◌&&◌,
  ◌||◌,
  nat_lt,
  nat_le,
  List,
  [],
  ◌∷◌,
  length,
  All,
  IsTrue,
}
use Rattle.std.specs.List.{list_all}
use Rattle.fm_bytes.proofs.Readers.{counted_fits}
use Rattle.fm_name.specs.Class.{is_class}
use Rattle.fm_name.specs.Path.{is_path}
use Rattle.fm_name.specs.declared.events.EventName.{EventName}
use Rattle.fm_entry.specs.declared.broken.Broken.{Broken}
use Rattle.fm_entry.specs.declared.suspect.Suspect.{Suspect}
use Rattle.fm_entry.specs.declared.list_event.ListEvent.{ListEvent}
use Rattle.fm_entry.specs.declared.spoken.Spoken.{Spoken}

-- an event is a class at a path
pub record IsEvent (event : EventName) : Type 0 where
  pub class_is : IsTrue (is_class event.class)
  pub path_is : IsTrue (is_path event.path)

-- a suspect has a class, a path and a certainty of at most 100
pub record IsSuspect (suspect : Suspect) : Type 0 where
  pub class_is : IsTrue (is_class suspect.class)
  pub path_is : IsTrue (is_path suspect.path)
  pub certainty_fits : suspect.certainty ≤ 100

-- a broken link has an instance and an effect of 32 bits
pub record IsBrokenLink (link : Broken) : Type 0 where
  pub instance_fits : link.instance < 2 ^ 32
  pub effect_fits : link.effect < 2 ^ 32

-- a link stands before another: by instance, then by effect
abbrev pub is_link_before : Broken → Broken → Bool
is_link_before x y =
    nat_lt x.instance y.instance || ((x.instance == y.instance) && nat_lt x.effect y.effect)

-- each link stands before all that follow it
abbrev pub links_ascend : List Broken → Bool
links_ascend [] = true
links_ascend (x ∷ xs) = list_all (is_link_before x) xs && links_ascend xs

-- the word names a case of the module of this number, and has a spelling
pub record IsWordOf (own : ℕ) (word : ListEvent) : Type 0 where
  pub module_is : word.case.module ≡ own
  pub case_fits : word.case.case < 2 ^ 63
  pub moment_fits : word.moment < 2 ^ 62
  pub conf_fits : word.conf < 2 ^ 32
  pub observed_fit : length word.observed < 2 ^ 32
  pub observed_are : All IsEvent word.observed
  pub suspects_fit : length word.suspects < 2 ^ 32
  pub suspects_are : All IsSuspect word.suspects
  pub broken_fit : length word.broken < 2 ^ 32
  pub broken_are : All IsBrokenLink word.broken
  pub broken_ascend : IsTrue (links_ascend word.broken)

-- the record has a spelling: a module below 8, a number below 2^46, and one or more words of that
-- module
pub record IsSpelledSpoken (spoken : Spoken) : Type 0 where
  pub module_fits : spoken.module < 8
  pub number_fits : spoken.number < 2 ^ 46
  pub some_words : 0 < length spoken.events
  pub words_fit : length spoken.events < 2 ^ 32
  pub words_are : All (IsWordOf spoken.module) spoken.events

-- The same as tests that compute, for states that keep words.

abbrev pub event_fits : EventName → Bool
event_fits event = is_class event.class && is_path event.path

abbrev pub suspect_fits : Suspect → Bool
suspect_fits suspect =
    is_class suspect.class && (is_path suspect.path && nat_le suspect.certainty 100)

abbrev pub link_fits : Broken → Bool
link_fits link = nat_lt link.instance (2 ^ 32) && nat_lt link.effect (2 ^ 32)

-- broken links that a word can carry
abbrev pub links_fit : List Broken → Bool
links_fit links = counted_fits 4 link_fits links && links_ascend links

-- a word of the module of this number
abbrev pub word_fits : ℕ → ListEvent → Bool
word_fits own word =
    (word.case.module == own)
    && (nat_lt word.case.case (2 ^ 63)
    && (nat_lt word.moment (2 ^ 62)
    && (nat_lt word.conf (2 ^ 32)
    && (counted_fits 4 event_fits word.observed
    && (counted_fits 4 suspect_fits word.suspects && links_fit word.broken)))))
