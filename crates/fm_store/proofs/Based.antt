-- A new base of a book, at the end of its entries.
use Rattle.std.proofs.Common.{◌≡◌, ℕ, suc, ◌<◌, max, Bool, true}
use Rattle.std.proofs.Common.{cond, List, [], ◌∷◌, ◌++◌, length, map, slice_get, Option, Some, None}
use Rattle.std.proofs.Common.{refl, sym, ◌∙◌, ap, subst, arith, IsTrue, nat_lt, ◌&&◌}
use Rattle.std.proofs.Common.{if◌then◌else◌}
use Rattle.std.specs.List.{AllByRecursion}
use Rattle.std.specs.Option.{ForSome}
use Rattle.std.proofs.lemmas.Bool.Decides.{nat_tests}
use Rattle.std.proofs.lemmas.Option.{same_Some}
use Rattle.fm_core.specs.Book.{Book, ModuleState, IsLawful, next_number, greatest_from, greatest_of}
use Rattle.fm_core.specs.Book.{is_done, rebased, based}
use Rattle.fm_core.specs.Configurations.{conf_along}
use Rattle.fm_core.specs.Folds.{state_along}
use Rattle.fm_core.specs.Hands.{HandOf}
use Rattle.fm_core.specs.Meaning.{Meaning, State, conf_of, holds_of, saved_of}
use Rattle.fm_core.specs.declared.module.Module.{Ghosts as ModuleGhosts}
use Rattle.fm_core.proofs.Configurations.{conf_is}
use Rattle.fm_core.proofs.Lists.{map_got}
use Rattle.fm_core.proofs.Runs.{lawful_based}
use Rattle.fm_entry.specs.Entries.{moment_of}
use Rattle.fm_entry.specs.declared.entry.Entry.{Entry}
use Rattle.fm_entry.specs.declared.entry.Entry.TheVariants.{Report, Tick, Repaired, Replaced}
use Rattle.fm_entry.specs.declared.entry.Entry.TheVariants.{Acquit, Reload}
use Rattle.fm_logs.specs.ReadsAsBook.{AreLoaded}
use Rattle.fm_logs.specs.StoreBook.{StoreBook, IsLawfulStore, HaveConf, ReloadsRise, force_along}
use Rattle.fm_logs.specs.StoreBook.{force_now}
use Rattle.fm_store.specs.StoreOf.{KnowConfs}
use Rattle.fm_store.specs.StoreCalls.{saves_of}
use Rattle.fm_store.specs.StoreLeft.{store_based}

pub greatest_push : (t : ℕ) (es : List Entry) (e : Entry)
    → greatest_from t (es ++ e ∷ []) ≡ max (greatest_from t es) (moment_of e)
greatest_push t [] e = refl
greatest_push t (d ∷ es) e = greatest_push (max t (moment_of d)) es e

-- the number in force stays known
force_known : (known n : ℕ) (es : List Entry) → n < known → ReloadsRise known n es
    → force_along n es < known
force_known known n [] below rise = below
force_known known n (Report class path moment payload ∷ es) below rise =
    force_known known n es below rise
force_known known n (Tick moment ∷ es) below rise = force_known known n es below rise
force_known known n (Repaired path moment ∷ es) below rise = force_known known n es below rise
force_known known n (Replaced path moment ∷ es) below rise = force_known known n es below rise
force_known known n (Acquit case moment ∷ es) below rise = force_known known n es below rise
force_known known n (Reload conf moment ∷ es) below rise =
    force_known known conf es rise.1 rise.2

-- where the Reloads rise, the configuration of a state that has one is the one in force
risen : (known c conf : ℕ) → c < conf → conf < known
    → (if (nat_lt c conf && nat_lt conf known) then conf else c) ≡ conf
risen known c conf above below = grind (arith, nat_tests)

conf_rises : (known n : ℕ) (es : List Entry) → ReloadsRise known n es
    → conf_along known (Some n) es ≡ Some (force_along n es)
conf_rises known n [] rise = refl
conf_rises known n (Report class path moment payload ∷ es) rise = conf_rises known n es rise
conf_rises known n (Tick moment ∷ es) rise = conf_rises known n es rise
conf_rises known n (Repaired path moment ∷ es) rise = conf_rises known n es rise
conf_rises known n (Replaced path moment ∷ es) rise = conf_rises known n es rise
conf_rises known n (Acquit case moment ∷ es) rise = conf_rises known n es rise
conf_rises known n (Reload conf moment ∷ es) rise =
    ap (λ (m : ℕ). conf_along known (Some m) es) (risen known n conf rise.0 rise.1)
    ∙ conf_rises known conf es rise.2

none_along : (known : ℕ) (es : List Entry) → conf_along known None es ≡ None
none_along known [] = refl
none_along known (e ∷ es) = none_along known es

some_none : (o : Option ℕ) (x : ℕ) → o ≡ Some x → o ≡ None → ⊥
some_none o x some none = cc

conf_based : (known mine n : ℕ) (conf : Option ℕ) (es : List Entry)
    → ForSome conf (λ c. c ≡ n) → ForSome conf (λ c. mine ≡ known) → ReloadsRise known n es
    → ForSome (conf_along mine conf es) (λ c. c ≡ force_along n es)
conf_based known mine n None es is knows rise =
    λ x got. absurd (some_none (conf_along mine None es) x got (none_along mine es))
conf_based known mine n (Some c) es is knows rise =
    λ x got. same_Some x (force_along n es)
    (sym got ∙ ap (λ (m : ℕ). conf_along m (Some c) es) (knows c refl)
    ∙ ap (λ (m : ℕ). conf_along known (Some m) es) (is c refl) ∙ conf_rises known n es rise)

knows_based : (known mine : ℕ) (conf : Option ℕ) (es : List Entry)
    → ForSome conf (λ c. mine ≡ known) → ForSome (conf_along mine conf es) (λ c. mine ≡ known)
knows_based known mine None es knows =
    λ x got. absurd (some_none (conf_along mine None es) x got (none_along mine es))
knows_based known mine (Some c) es knows = λ x got. knows c refl

-- the book with the base at the end, whatever the cursors are
abbrev pub book_at_end : Book → Book
book_at_end k = record {
  base = next_number k;
  moment = greatest_of k;
  modules = map (rebased k) k.modules;
  entries = [];
  cursors = k.cursors;
  records = k.records;
}

pub based_is : (k : Book) → is_done k ≡ true → based k ≡ book_at_end k
based_is k done = ap (λ (b : Bool). cond b (book_at_end k) k) done

abbrev pub at_end : StoreBook → StoreBook
at_end k = record { book = book_at_end k.book; confs = k.confs; in_force = force_now k }

pub store_based_is : (k : StoreBook) → is_done k.book ≡ true → store_based k ≡ at_end k
store_based_is k done =
    ap (λ (b : Book). record { book = b; confs = k.confs; in_force = force_now k })
    (based_is k.book done)

pub know_at_end : (k : StoreBook) → KnowConfs (length k.confs) k.book.modules
    → KnowConfs (length k.confs) (at_end k).book.modules
know_at_end k know i p got =
    let from = map_got (rebased k.book) k.book.modules i p got in
    subst (λ (q : ModuleState).
    ForSome (conf_of q.meaning q.state) (λ conf. q.meaning.known ≡ length k.confs)) from.2
    (subst (λ (o : Option ℕ). ForSome o (λ conf. from.0.meaning.known ≡ length k.confs))
    (sym (conf_is from.0.meaning from.0.state k.book.base k.book.entries))
    (knows_based (length k.confs) from.0.meaning.known
    (conf_of from.0.meaning from.0.state) k.book.entries (know i from.0 from.1)))

conf_at_end : (k : StoreBook) → IsLawfulStore k → KnowConfs (length k.confs) k.book.modules
    → HaveConf (force_now k) (at_end k).book.modules
conf_at_end k lawful know i p got =
    let from = map_got (rebased k.book) k.book.modules i p got in
    subst (λ (q : ModuleState).
    ForSome (conf_of q.meaning q.state) (λ conf. conf ≡ force_now k)) from.2
    (subst (λ (o : Option ℕ). ForSome o (λ conf. conf ≡ force_now k))
    (sym (conf_is from.0.meaning from.0.state k.book.base k.book.entries))
    (conf_based (length k.confs) from.0.meaning.known k.in_force
    (conf_of from.0.meaning from.0.state) k.book.entries (lawful.of_conf i from.0 from.1)
    (know i from.0 from.1) lawful.reloads))

pub lawful_at_end : (k : StoreBook) → IsLawfulStore k
    → KnowConfs (length k.confs) k.book.modules → is_done k.book ≡ true → IsLawfulStore (at_end k)
lawful_at_end k lawful know done = record {
  some_confs = lawful.some_confs;
  few_confs = lawful.few_confs;
  confs_are = lawful.confs_are;
  known = force_known (length k.confs) k.in_force k.book.entries lawful.known lawful.reloads;
  of_conf = conf_at_end k lawful know;
  reloads = tt;
  lawful = subst IsLawful (based_is k.book done) (lawful_based k.book lawful.lawful);
}

module _ {M : Type 0} (g : ModuleGhosts M) where
  -- the hand has come with the module to the end
  pub record IsAtEndOf (k : Book) (h : HandOf M) (p : ModuleState) : Type 0 where
    pub meaning_is : g.meaning h.object ≡ p.meaning
    pub state_is : g.state h.object ≡ state_along p.meaning p.state k.base k.entries

  holds_at_end : (k : Book) (h : HandOf M) (p : ModuleState) → IsAtEndOf k h p
      → IsTrue (holds_of (g.meaning h.object) (g.state h.object))
      → IsTrue (holds_of p.meaning (state_along p.meaning p.state k.base k.entries))
  holds_at_end k h p at holds =
      subst (λ (s : State). IsTrue (holds_of p.meaning s)) at.state_is
      (subst (λ (m : Meaning). IsTrue (holds_of m (g.state h.object))) at.meaning_is holds)

  saved_at_end : (k : Book) (h : HandOf M) (p : ModuleState) → IsAtEndOf k h p
      → saved_of p.meaning (state_along p.meaning p.state k.base k.entries)
      ≡ saved_of (g.meaning h.object) (g.state h.object)
  saved_at_end k h p at =
      sym (ap (λ (m : Meaning). saved_of m (g.state h.object)) at.meaning_is
      ∙ ap (λ (s : State). saved_of p.meaning s) at.state_is)

  pub loaded_at_end : (k : Book) (fresh : List ModuleState) (states : List (List ℕ))
      (modules : List ModuleState) (hands : List (HandOf M)) → AreLoaded fresh states modules
      → length hands ≡ length modules
      → ((i : ℕ) (h : HandOf M) (p : ModuleState) → slice_get hands i ≡ Some h
      → slice_get modules i ≡ Some p → IsAtEndOf k h p)
      → AllByRecursion (λ h. IsTrue (holds_of (g.meaning h.object) (g.state h.object))) hands
      → AreLoaded fresh (saves_of g hands) (map (rebased k) modules)
  loaded_at_end k [] [] [] [] loaded many at holds = tt
  loaded_at_end k [] [] [] (h ∷ hands) loaded many at holds = absurd (omega (arith, many))
  loaded_at_end k (f ∷ fresh) (state ∷ states) (p ∷ modules) [] loaded many at holds =
      absurd (omega (arith, many))
  loaded_at_end k (f ∷ fresh) (state ∷ states) (p ∷ modules) (h ∷ hands) loaded many at holds = (
    loaded.0,
    holds_at_end k h p (at 0 h p refl refl) holds.0,
    saved_at_end k h p (at 0 h p refl refl),
    loaded_at_end k fresh states modules hands loaded.3 (omega (arith, many))
        (λ i d q one other. at (suc i) d q one other) holds.1,
  )
  loaded_at_end k [] [] (p ∷ modules) hands loaded many at holds = absurd loaded
  loaded_at_end k [] (state ∷ states) modules hands loaded many at holds = absurd loaded
  loaded_at_end k (f ∷ fresh) [] modules hands loaded many at holds = absurd loaded
  loaded_at_end k (f ∷ fresh) (state ∷ states) [] hands loaded many at holds = absurd loaded
