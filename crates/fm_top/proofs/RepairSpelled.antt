-- The entry of a repair that words ask for has a spelling, so the book with it has exact suspects.
use Rattle.std.proofs.Common.{◌≡◌, ℕ, ◌<◌, ◌^◌, ◌&&◌, Bool, true, false, nat_lt, IsTrue, List, []}
use Rattle.std.proofs.Common.{◌∷◌, Option, Some, None, IfSome, if◌then◌else◌, codes, refl, sym}
use Rattle.std.proofs.Common.{subst}
use Rattle.std.specs.Option.{option_and_then, option_map}
use Rattle.std.specs.Str.{bytes_eq}
use Rattle.std.proofs.lemmas.Bool.{and_parts, ltb-true}
use Rattle.std.proofs.lemmas.List.Elements.{All-cons, All-nil}
use Rattle.uuid.specs.Text.{parsed}
use Rattle.dx_step.specs.Repairs.{Chosen, is_at, is_at_or_under, is_of_case}
use Rattle.fm_admin.specs.Marking.{case_with, entry_by, is_case_name, marks_drained, where_acquits}
use Rattle.fm_admin.specs.Marking.{where_marks}
use Rattle.fm_command.specs.RepairAsked.{RepairAsked}
use Rattle.fm_command.specs.Words.{command_about, command_in, command_of, command_with, path_of}
use Rattle.fm_command.specs.Words.{repair_at, repair_with, short_command, word_number}
use Rattle.fm_command.specs.declared.request.Repair.{Repair as Said}
use Rattle.fm_command.specs.declared.request.Repair.TheVariants.{Repaired, Replaced, Acquit}
use Rattle.fm_command.specs.declared.words.Command.{Command}
use Rattle.fm_command.specs.declared.words.Command.TheVariants.{Admin, Explain, Generate}
use Rattle.fm_command.specs.declared.words.Command.TheVariants.{GeneratedLines, Init, Repair}
use Rattle.fm_command.specs.declared.words.AdminCommand.TheVariants.{Dump}
use Rattle.fm_core.specs.Drained.{drained}
use Rattle.fm_dump.specs.Options.{dump_options}
use Rattle.fm_entry.specs.Entries.{IsSpelled}
use Rattle.fm_entry.specs.declared.case_name.CaseName.{CaseName}
use Rattle.fm_entry.specs.declared.entry.Entry.{Entry}
use Rattle.fm_entry.specs.declared.entry.Entry.TheVariants as entry
use Rattle.fm_entry.specs.declared.list_event.ListEvent.{ListEvent}
use Rattle.fm_logs.specs.Contents.{Contents}
use Rattle.fm_name.specs.Path.{is_path}
use Rattle.fm_top.specs.Exact.{ReadsExact}
use Rattle.fm_top.specs.Kept.{BookAt}
use Rattle.fm_top.specs.RepairEntry.{HasRepair, IsEntryAt}
use Rattle.fm_top.proofs.Exactness.{reads_exact}

if_some : {A : Type 0} (P : A → Type 0) (b : Bool) (x y : Option A) → (b ≡ true → IfSome x P)
    → IfSome y P → IfSome (if b then x else y) P
if_some P true x y f g = f refl
if_some P false x y f g = g

map_some : {A B : Type 0} (P : A → Type 0) (Q : B → Type 0) (f : A → B) (o : Option A)
    → IfSome o P → ((x : A) → P x → Q (f x)) → IfSome (option_map f o) Q
map_some P Q f None is so = tt
map_some P Q f (Some x) is so = so x is

map_any : {A B : Type 0} (Q : B → Type 0) (f : A → B) (o : Option A) → ((x : A) → Q (f x))
    → IfSome (option_map f o) Q
map_any Q f None so = tt
map_any Q f (Some x) so = so x

then_some : {A B : Type 0} (Q : B → Type 0) (f : A → Option B) (o : Option A)
    → ((x : A) → IfSome (f x) Q) → IfSome (option_and_then f o) Q
then_some Q f None so = tt
then_some Q f (Some x) so = so x

-- ---- what words ask for

-- the path is one
abbrev pub HasPath : Said → Type 0
HasPath (Repaired path) = IsTrue (is_path path)
HasPath (Replaced path) = IsTrue (is_path path)
HasPath (Acquit uuid) = Unit {0}

-- at this moment, and of such a path
abbrev pub CanBeSaid : ℕ → RepairAsked → Type 0
CanBeSaid now asked = (asked.moment ≡ now) × HasPath asked.repair

-- so it is with a command of repairs
abbrev IsOf : ℕ → Command → Type 0
IsOf now (Repair asked) = CanBeSaid now asked
IsOf now _ = Unit {0}

path_said : (word : List ℕ) → IfSome (path_of word) (λ path. IsTrue (is_path path))
path_said word =
    if_some (λ path. IsTrue (is_path path)) (is_path word) (Some word) None (λ is. is) tt

said_with : (word third : List ℕ) → IfSome (repair_with word third) HasPath
unfolding repair_with
said_with word third =
    if_some HasPath (bytes_eq word (codes "repaired")) _ _
    (λ _. map_some (λ path. IsTrue (is_path path)) HasPath Repaired (path_of third)
    (path_said third) (λ path is. is))
    (if_some HasPath (bytes_eq word (codes "replaced")) _ _
    (λ _. map_some (λ path. IsTrue (is_path path)) HasPath Replaced (path_of third)
    (path_said third) (λ path is. is))
    (if_some HasPath (bytes_eq word (codes "acquit")) _ _
    (λ _. map_any HasPath Acquit (parsed third) (λ uuid. tt)) tt))

said_at : (now : ℕ) (o : Option Said) → IfSome o HasPath → IfSome (repair_at now o) (IsOf now)
said_at now None is = tt
said_at now (Some said) is = (refl, is)

about_of : (word second third : List ℕ) (now : ℕ)
    → IfSome (command_about word second third now) (IsOf now)
unfolding command_about
about_of word second third now =
    if_some (IsOf now) (bytes_eq word (codes "gen")) _ _
    (λ _. if_some (IsOf now) (bytes_eq second (codes "-l")) _ _
    (λ _. map_any (IsOf now) GeneratedLines (word_number third) (λ n. tt)) tt)
    (if_some (IsOf now) (bytes_eq word (codes "fmadm")) _ _
    (λ _. said_at now (repair_with second third) (said_with second third)) tt)

with_of : (word second : List ℕ) (now : ℕ) → IfSome (command_with word second) (IsOf now)
unfolding command_with
with_of word second now =
    if_some (IsOf now) (bytes_eq word (codes "init")) _ _
    (λ _. map_any (IsOf now) Init (parsed second) (λ uuid. tt))
    (if_some (IsOf now) (bytes_eq word (codes "esc")) _ _
    (λ _. if_some (IsOf now) (bytes_eq second (codes "-b")) _ _ (λ _. tt)
    (if_some (IsOf now) (bytes_eq second (codes "-l")) _ _ (λ _. tt) tt))
    (if_some (IsOf now) (bytes_eq word (codes "fmd")) _ _
    (λ _. if_some (IsOf now) (bytes_eq second (codes "-1")) _ _ (λ _. tt) tt)
    (if_some (IsOf now) (bytes_eq word (codes "fmadm")) _ _
    (λ _. if_some (IsOf now) (bytes_eq second (codes "faulty")) _ _ (λ _. tt)
    (if_some (IsOf now) (bytes_eq second (codes "config")) _ _ (λ _. tt)
    (if_some (IsOf now) (bytes_eq second (codes "rotate")) _ _ (λ _. tt) tt)))
    (if_some (IsOf now) (bytes_eq word (codes "explain")) _ _
    (λ _. map_any (IsOf now) Explain (parsed second) (λ uuid. tt))
    (if_some (IsOf now) (bytes_eq word (codes "gen")) _ _
    (λ _. map_any (IsOf now) Generate (word_number second) (λ n. tt)) tt)))))

in_of : (word : List ℕ) (now : ℕ) → IfSome (command_in word) (IsOf now)
in_of word now =
    if_some (IsOf now) (bytes_eq word (codes "accept")) _ _ (λ _. tt)
    (if_some (IsOf now) (bytes_eq word (codes "replay")) _ _ (λ _. tt)
    (if_some (IsOf now) (bytes_eq word (codes "esc")) _ _ (λ _. tt) tt))

short_of : (words : List (List ℕ)) (now : ℕ) → IfSome (short_command words now) (IsOf now)
short_of [] now = tt
short_of (word ∷ []) now = in_of word now
short_of (word ∷ second ∷ []) now = with_of word second now
short_of (word ∷ second ∷ third ∷ []) now = about_of word second third now
short_of (word ∷ second ∷ third ∷ fourth ∷ more) now = tt

words_of : (words : List (List ℕ)) (now : ℕ) → IfSome (command_of words now) (IsOf now)
words_of [] now = tt
words_of (word ∷ more) now =
    if_some (IsOf now) (bytes_eq word (codes "fmdump")) _ _
    (λ _. map_any (IsOf now) (λ options. Admin (Dump options)) (dump_options more) (λ options. tt))
    (short_of (word ∷ more) now)

pub said_of : (words : List (List ℕ)) (now : ℕ) (asked : RepairAsked)
    → command_of words now ≡ Some (Repair asked) → CanBeSaid now asked
said_of words now asked is =
    subst (λ (o : Option Command). IfSome o (IsOf now)) is (words_of words now)

-- ---- its entry
marked_spelled : (chosen : Chosen) (marks : Chosen → Bool) (e : Entry) → IsSpelled e
    → IfSome (where_marks chosen marks e) IsSpelled
marked_spelled chosen marks e is = if_some IsSpelled (marks chosen) (Some e) None (λ _. is) tt

acquit_spelled : (moment : ℕ) (marks : Chosen → Bool) (case : CaseName) → moment < 2 ^ 62
    → IfSome (where_acquits moment marks case) IsSpelled
acquit_spelled moment marks case low =
    if_some IsSpelled (is_case_name case) _ _
    (λ is. let fits = and_parts (nat_lt case.module 8) (nat_lt case.case (2 ^ 63)) is in
    marked_spelled (is_of_case case) marks (entry.Acquit case moment) (record {
      moment_fits = low;
      body = record {
        module_fits = ltb-true case.module 8 fits.0;
        case_fits = ltb-true case.case (2 ^ 63) fits.1;
      };
    })) tt

said_spelled : (namespace : List ℕ) (moment : ℕ) (said : Said) (rows : List ListEvent)
    (marks : Chosen → Bool) → moment < 2 ^ 62 → HasPath said
    → IfSome (entry_by namespace moment said rows marks) IsSpelled
said_spelled namespace moment (Repaired path) rows marks low is =
    marked_spelled (is_at path) marks (entry.Repaired path moment)
    (record { moment_fits = low; body = is })
said_spelled namespace moment (Replaced path) rows marks low is =
    marked_spelled (is_at_or_under path) marks (entry.Replaced path moment)
    (record { moment_fits = low; body = is })
said_spelled namespace moment (Acquit uuid) rows marks low is =
    then_some IsSpelled (λ case. where_acquits moment marks case)
    (case_with namespace uuid rows) (λ case. acquit_spelled moment marks case low)

entry_spelled : (asked : RepairAsked) (now : ℕ) (told : Contents) (stood : BookAt told)
    (e : Entry) → now < 2 ^ 62 → CanBeSaid now asked → IsEntryAt asked stood (Some e) → IsSpelled e
entry_spelled asked now told stood e low said found =
    let by = found.entry_is in
    subst (λ (o : Option Entry). IfSome o IsSpelled) (sym by.entry_is)
    (said_spelled found.conf.namespace asked.moment asked.repair by.rows
    (marks_drained (drained stood.book.book))
    (subst (λ (n : ℕ). n < 2 ^ 62) (sym said.0) low) said.1)

-- the book with it
pub repair_exact : (asked : RepairAsked) (now : ℕ) → now < 2 ^ 62 → CanBeSaid now asked
    → (told : Contents) (stood : BookAt told) (image : Contents) (has : HasRepair asked stood image)
    → ReadsExact stood (has.entry ∷ []) image
repair_exact asked now low said told stood image has =
    reads_exact told stood (has.entry ∷ []) image
    (All-cons IsSpelled has.entry []
    (entry_spelled asked now told stood has.entry low said has.found) (All-nil IsSpelled))
    has.reads
