-- Configurations of one store, one after another.
use Rattle.std.proofs.Common.{◌≡◌, ◌⊎◌, inl, inr, ℕ, zero, suc, ◌<◌, List, [], ◌∷◌, ◌++◌, length}
use Rattle.std.proofs.Common.{Some}
use Rattle.std.proofs.Common.{refl, sym, ◌∙◌, ap, subst, arith, slice_get, length-append}
use Rattle.std.proofs.lemmas.List.Elements.{All-push}
use Rattle.std.proofs.lemmas.Option.{slice_get-get_or}
use Rattle.std.specs.Prelude.{IfSome, Option, get_or}
use Rattle.fm_logs.proofs.Logged.{each_push}
use Rattle.fm_payloads.specs.Spelling.{EachSpells}
use Rattle.fm_logs.specs.ReadsAsBook.{SpellsConf}
use Rattle.fm_logs.specs.StoreBook.{AreOfOneStore}
use Rattle.fm_saved.specs.Confs.{IsSpelledConf, conf_bytes}
use Rattle.fm_saved.specs.declared.conf.Conf.{Conf}
use Rattle.fm_looks.specs.Looks.{AreKeptConfs}
use Rattle.fm_looks.specs.Opening.{FitConfs}

same_some : (x y : Conf) → Some x ≡ Some y → x ≡ y
same_some x y same = cc

-- an element of a list with one more is one of the list, or that one
got_push : (xs : List Conf) (x y : Conf) (i : ℕ) → slice_get (xs ++ x ∷ []) i ≡ Some y
    → (slice_get xs i ≡ Some y) ⊎ (x ≡ y)
got_push [] x y zero got = inr (same_some x y got)
got_push [] x y (suc i) got = absurd (let no : ⊥ = cc in no)
got_push (z ∷ xs) x y zero got = inl got
got_push (z ∷ xs) x y (suc i) got = got_push xs x y i got

-- the first element stays the first
first_push : (xs : List Conf) (z x : Conf) → slice_get ((z ∷ xs) ++ x ∷ []) 0 ≡ Some z
first_push xs z x = refl

-- the last one is among them
last_push : (xs : List Conf) (x : Conf) → slice_get (xs ++ x ∷ []) (length xs) ≡ Some x
last_push [] x = refl
last_push (z ∷ xs) x = last_push xs x

-- a configuration of one store with the first one fits behind them
pub confs_push : (confs : List Conf) (first conf : Conf) → length confs < 16
    → slice_get confs 0 ≡ Some first → AreOfOneStore first conf → FitConfs confs
    → FitConfs (confs ++ conf ∷ [])
confs_push [] first conf few head one fit = absurd (let no : ⊥ = cc in no)
confs_push (z ∷ confs) first conf few head one fit = (
  λ a i b at_first at.
      let is : z ≡ a = same_some z a at_first in
      let heads : z ≡ first = same_some z first head in
      elim (got_push (z ∷ confs) conf b i at) [
        | inl old ↦ fit.0 a i b at_first old
        | inr new ↦ subst (λ (y : Conf). AreOfOneStore a y) new
            (subst (λ (x : Conf). AreOfOneStore x conf) (sym heads ∙ is) one)
      ],
  omega (arith, length-append (z ∷ confs) (conf ∷ []), few),
)

-- and the first one fits
pub confs_one : (conf : Conf) → FitConfs (conf ∷ [])
confs_one conf = (
  λ a i b at_first at. one a b (same_some conf a at_first) (only i b at),
  omega arith,
)
  where
    one : (a b : Conf) → conf ≡ a → conf ≡ b → AreOfOneStore a b
    one a b x y = record {
      same_namespace = ap (λ (c : Conf). c.namespace) (sym x ∙ y);
      same_count = ap (λ (c : Conf). length c.rules) (sym x ∙ y);
    }

    only : (i : ℕ) (b : Conf) → slice_get (conf ∷ []) i ≡ Some b → conf ≡ b
    only zero b at = same_some conf b at
    only (suc i) b at = absurd (let no : ⊥ = cc in no)

-- one that fits is of one store with the first one
pub confs_last : (confs : List Conf) (first conf : Conf) → slice_get confs 0 ≡ Some first
    → FitConfs (confs ++ conf ∷ []) → AreOfOneStore first conf
confs_last [] first conf head fit = absurd (let no : ⊥ = cc in no)
confs_last (z ∷ confs) first conf head fit =
    fit.0 first (length (z ∷ confs)) conf head (last_push (z ∷ confs) conf)

-- the first of a list
pub first_got : (confs : List Conf) (first : Conf) → 0 < length confs → first ≡ get_or confs 0 first
    → slice_get confs 0 ≡ Some first
first_got confs first some is = slice_get-get_or confs 0 first some ∙ ap Some (sym is)

-- the configuration that was read is the one that the payload spells
same_read : (o : Option Conf) (conf x : Conf) → o ≡ Some conf → o ≡ Some x → conf ≡ x
same_read o conf x one other = cc

-- a configuration that doesn't fit
pub conf_refused : (confs seen : List Conf) (conf x : Conf) (o : Option Conf) → seen ≡ confs
    → o ≡ Some conf → o ≡ Some x → (FitConfs (seen ++ conf ∷ []) → ⊥)
    → FitConfs (confs ++ x ∷ []) → ⊥
conf_refused confs seen conf x o same one other none fit =
    none (subst (λ (l : List Conf). FitConfs (l ++ conf ∷ [])) (sym same)
    (subst (λ (y : Conf). FitConfs (confs ++ y ∷ [])) (sym (same_read o conf x one other)) fit))

-- one that does
pub conf_taken : (confs seen new : List Conf) (conf : Conf) (o : Option Conf)
    (payloads : List (List ℕ)) (payload : List ℕ) → seen ≡ confs → new ≡ confs ++ conf ∷ []
    → o ≡ Some conf → IfSome o (λ x. IsSpelledConf x × (payload ≡ conf_bytes x))
    → (FitConfs seen → FitConfs (seen ++ conf ∷ []))
    → EachSpells SpellsConf payloads confs × FitConfs confs
    → EachSpells SpellsConf (payloads ++ payload ∷ []) new × FitConfs new
conf_taken confs seen new conf o payloads payload same is one found fits before =
    let spells : SpellsConf payload conf =
    subst (λ (p : Option Conf). IfSome p (λ x. IsSpelledConf x × (payload ≡ conf_bytes x))) one
    found in
    let fit : FitConfs (confs ++ conf ∷ []) =
    subst (λ (l : List Conf). FitConfs (l ++ conf ∷ [])) same
    (fits (subst FitConfs (sym same) before.1)) in (
      subst (EachSpells SpellsConf (payloads ++ payload ∷ [])) (sym is)
          (each_push SpellsConf payloads confs payload conf before.0 spells),
      subst FitConfs (sym is) fit,
    )

-- one that fits and has a spelling, behind such as do
pub kept_push : (confs seen new : List Conf) (conf : Conf) (o : Option Conf) (payload : List ℕ)
    → seen ≡ confs → new ≡ confs ++ conf ∷ [] → o ≡ Some conf
    → IfSome o (λ x. IsSpelledConf x × (payload ≡ conf_bytes x))
    → (FitConfs seen → FitConfs (seen ++ conf ∷ [])) → AreKeptConfs confs → AreKeptConfs new
kept_push confs seen new conf o payload same is one found fits kept =
    let spells : SpellsConf payload conf =
    subst (λ (p : Option Conf). IfSome p (λ x. IsSpelledConf x × (payload ≡ conf_bytes x))) one
    found in
    subst AreKeptConfs (sym is) (record {
      fit = subst (λ (l : List Conf). FitConfs (l ++ conf ∷ [])) same
          (fits (subst FitConfs (sym same) kept.fit));
      spelled = All-push IsSpelledConf confs conf kept.spelled spells.0;
    })
