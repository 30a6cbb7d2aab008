-- Modules that are loaded one after another, and what can't be loaded.
use Rattle.std.proofs.Common.{◌≡◌, ℕ, zero, suc, ◌+◌, ◌<◌, List, [], ◌∷◌, ◌++◌, length, take, drop}
use Rattle.std.proofs.Common.{map, get_or, Some, refl, sym, ◌∙◌, ap, subst, arith, slice_get}
use Rattle.std.proofs.Common.{add-one, append_assoc, inl, inr}
use Rattle.std.proofs.lemmas.Bool.{cases_eq}
use Rattle.std.specs.Prelude.{IsTrue, All}
use Rattle.std.specs.List.{remove}
use Rattle.std.specs.Option.{ForSome}
use Rattle.std.proofs.lemmas.List.{map-append}
use Rattle.std.proofs.lemmas.Option.{same_Some}
use Rattle.fm_core.specs.Book.{ModuleState}
use Rattle.fm_core.specs.Meaning.{Meaning, IsNoSave, conf_of, holds_of, saved_of}
use Rattle.fm_core.specs.declared.module.Module.{Ghosts as ModuleGhosts}
use Rattle.fm_core.proofs.Lists.{all_append, map_get, map_got, take_push}
use Rattle.fm_logs.specs.ReadsAsBook.{AreLoaded}
use Rattle.fm_logs.specs.StoreBook.{HaveConf}
use Rattle.fm_retrace.specs.declared.retraced.Retraced.{Retraced}
use Rattle.fm_saved.specs.Saved.{FitsLongText}
use Rattle.fm_store.specs.Loading.{AreSilent, states_of}
use Rattle.fm_store.specs.StoreOf.{made_modules}
use Rattle.fm_store.proofs.Damages.{same_loaded}

less : (k i : ℕ) → (k ≡ i → ⊥) → k < i + 1 → k < i
less k i other high = grind arith

-- one module more is loaded
loaded_push : (fresh : List ModuleState) (saves : List (List ℕ)) (modules : List ModuleState)
    (f : ModuleState) (save : List ℕ) (p : ModuleState) → AreLoaded fresh saves modules
    → p.meaning ≡ f.meaning → IsTrue (holds_of p.meaning p.state)
    → saved_of p.meaning p.state ≡ save
    → AreLoaded (fresh ++ f ∷ []) (saves ++ save ∷ []) (modules ++ p ∷ [])
loaded_push [] [] [] f save p loaded made holds saved = (made, holds, saved, tt)
loaded_push [] [] (q ∷ modules) f save p loaded made holds saved = absurd loaded
loaded_push [] (s ∷ saves) modules f save p loaded made holds saved = absurd loaded
loaded_push (x ∷ fresh) [] modules f save p loaded made holds saved = absurd loaded
loaded_push (x ∷ fresh) (s ∷ saves) [] f save p loaded made holds saved = absurd loaded
loaded_push (x ∷ fresh) (s ∷ saves) (q ∷ modules) f save p loaded made holds saved = (
  loaded.0,
  loaded.1,
  loaded.2,
  loaded_push fresh saves modules f save p loaded.3 made holds saved,
)

-- the module that is loaded at a place
loaded_at : (fresh : List ModuleState) (saves : List (List ℕ)) (modules : List ModuleState) (i : ℕ)
    (f : ModuleState) (save : List ℕ) → AreLoaded fresh saves modules
    → slice_get fresh i ≡ Some f → slice_get saves i ≡ Some save
    → (p : ModuleState) × (p.meaning ≡ f.meaning) × IsTrue (holds_of p.meaning p.state)
    × (saved_of p.meaning p.state ≡ save)
loaded_at [] saves modules i f save loaded there saved = absurd (let no : ⊥ = cc in no)
loaded_at (x ∷ fresh) [] modules i f save loaded there saved = absurd loaded
loaded_at (x ∷ fresh) (s ∷ saves) [] i f save loaded there saved = absurd loaded
loaded_at (x ∷ fresh) (s ∷ saves) (p ∷ modules) zero f save loaded there saved =
    let is : x ≡ f = cc in
    let same : s ≡ save = cc in
    (p, loaded.0 ∙ ap (λ (y : ModuleState). y.meaning) is, loaded.1, loaded.2 ∙ same)
loaded_at (x ∷ fresh) (s ∷ saves) (p ∷ modules) (suc i) f save loaded there saved =
    loaded_at fresh saves modules i f save loaded.3 there saved

-- the module of which one was loaded
pub loaded_back : (fresh : List ModuleState) (saves : List (List ℕ)) (modules : List ModuleState)
    (i : ℕ) (p : ModuleState) → AreLoaded fresh saves modules → slice_get modules i ≡ Some p
    → (f : ModuleState) × (slice_get fresh i ≡ Some f) × (p.meaning ≡ f.meaning)
loaded_back [] [] [] i p loaded there = absurd (let no : ⊥ = cc in no)
loaded_back [] [] (q ∷ modules) i p loaded there = absurd loaded
loaded_back [] (s ∷ saves) modules i p loaded there = absurd loaded
loaded_back (x ∷ fresh) [] modules i p loaded there = absurd loaded
loaded_back (x ∷ fresh) (s ∷ saves) [] i p loaded there = absurd loaded
loaded_back (x ∷ fresh) (s ∷ saves) (q ∷ modules) zero p loaded there =
    let is : q ≡ p = cc in (x, refl, ap (λ (y : ModuleState). y.meaning) (sym is) ∙ loaded.0)
loaded_back (x ∷ fresh) (s ∷ saves) (q ∷ modules) (suc i) p loaded there =
    loaded_back fresh saves modules i p loaded.3 there

-- bytes that are no save are not loaded
pub none_loaded : (fresh : List ModuleState) (saves : List (List ℕ)) (modules : List ModuleState)
    (i : ℕ) (f : ModuleState) (save : List ℕ) → slice_get fresh i ≡ Some f
    → slice_get saves i ≡ Some save → IsNoSave f.meaning save → AreLoaded fresh saves modules → ⊥
none_loaded fresh saves modules i f save there saved none loaded =
    let at = loaded_at fresh saves modules i f save loaded there saved in
    let p : ModuleState = at.0 in
    none p.state
    (subst (λ (m : Meaning). IsTrue (holds_of m p.state)) at.1 at.2)
    (sym (ap (λ (m : Meaning). saved_of m p.state) at.1) ∙ at.3)

-- as many saves as modules
pub loaded_many : (fresh : List ModuleState) (saves : List (List ℕ)) (modules : List ModuleState)
    → AreLoaded fresh saves modules → length saves ≡ length fresh
loaded_many [] [] [] loaded = refl
loaded_many [] [] (p ∷ modules) loaded = absurd loaded
loaded_many [] (s ∷ saves) modules loaded = absurd loaded
loaded_many (x ∷ fresh) [] modules loaded = absurd loaded
loaded_many (x ∷ fresh) (s ∷ saves) [] loaded = absurd loaded
loaded_many (x ∷ fresh) (s ∷ saves) (p ∷ modules) loaded =
    ap suc (loaded_many fresh saves modules loaded.3)

pub loaded_length : (fresh : List ModuleState) (saves : List (List ℕ)) (modules : List ModuleState)
    → AreLoaded fresh saves modules → length modules ≡ length fresh
loaded_length [] [] [] loaded = refl
loaded_length [] [] (p ∷ modules) loaded = absurd loaded
loaded_length [] (s ∷ saves) modules loaded = absurd loaded
loaded_length (x ∷ fresh) [] modules loaded = absurd loaded
loaded_length (x ∷ fresh) (s ∷ saves) [] loaded = absurd loaded
loaded_length (x ∷ fresh) (s ∷ saves) (p ∷ modules) loaded =
    ap suc (loaded_length fresh saves modules loaded.3)

-- the first of a list, and what is left of it
pub front : {A : Type 0} (xs : List A) (x : A) (rest : List A) → 0 < length xs
    → x ≡ get_or xs 0 x → rest ≡ remove xs 0 → xs ≡ x ∷ rest
front [] x rest some is left = absurd (let no : ⊥ = omega arith in no)
front (y ∷ xs) x rest some is left =
    let one : x ≡ y = is in
    let others : rest ≡ xs = left in
    cc

-- what is left after some, of which the next is known
next_suc : {A : Type 0} (xs : List A) (i : ℕ) (x : A) (rest : List A) → drop i xs ≡ x ∷ rest
    → (slice_get xs i ≡ Some x) × (drop (suc i) xs ≡ rest)
next_suc [] zero x rest is = absurd (let no : ⊥ = cc in no)
next_suc [] (suc i) x rest is = absurd (let no : ⊥ = cc in no)
next_suc (y ∷ xs) zero x rest is = (cc, cc)
next_suc (y ∷ xs) (suc i) x rest is =
    let more = next_suc xs i x rest is in (more.0, more.1)

pub next_left : {A : Type 0} (xs : List A) (i : ℕ) (x : A) (rest : List A) → drop i xs ≡ x ∷ rest
    → (slice_get xs i ≡ Some x) × (drop (i + 1) xs ≡ rest)
next_left xs i x rest is =
    let next = next_suc xs i x rest is in (next.0, rw add-one next.1)

module _ {M : Type 0} (g : ModuleGhosts M) where
  -- a turn along the saves
  pub loaded_next : (fresh : List M) (saves : List (List ℕ)) (i : ℕ) (object : M) (save : List ℕ)
      (modules : List (Retraced M)) (own : Retraced M) → slice_get fresh i ≡ Some object
      → slice_get saves i ≡ Some save
      → AreLoaded (made_modules g (take i fresh)) (take i saves) (states_of g modules)
      → g.meaning own.object ≡ g.meaning object
      → IsTrue (holds_of (g.meaning object) (g.state own.object))
      → saved_of (g.meaning object) (g.state own.object) ≡ save
      → AreLoaded (made_modules g (take (i + 1) fresh)) (take (i + 1) saves)
      (states_of g (modules ++ own ∷ []))
  loaded_next fresh saves i object save modules own there saved so_far made holds is =
      let made_of : M → ModuleState = λ m. record { meaning = g.meaning m; state = g.state m } in
      let state_of : Retraced M → ModuleState =
      λ o. record { meaning = g.meaning o.object; state = g.state o.object } in
      let front_is : made_modules g (take (i + 1) fresh)
      ≡ made_modules g (take i fresh) ++ made_of object ∷ [] =
      ap (map made_of) (take_push fresh i object there)
      ∙ map-append made_of (take i fresh) (object ∷ []) in
      let end_is : states_of g (modules ++ own ∷ []) ≡ states_of g modules ++ state_of own ∷ [] =
      map-append state_of modules (own ∷ []) in
      subst (λ (l : List ModuleState). AreLoaded l (take (i + 1) saves)
      (states_of g (modules ++ own ∷ []))) (sym front_is)
      (subst (λ (l : List (List ℕ)). AreLoaded (made_modules g (take i fresh) ++ made_of object
      ∷ [])
      l (states_of g (modules ++ own ∷ []))) (sym (take_push saves i save saved))
      (subst (AreLoaded (made_modules g (take i fresh) ++ made_of object ∷ [])
      (take i saves ++ save ∷ [])) (sym end_is)
      (loaded_push (made_modules g (take i fresh)) (take i saves) (states_of g modules)
      (made_of object) save (state_of own) so_far made
      (subst (λ (m : Meaning). IsTrue (holds_of m (g.state own.object))) (sym made) holds)
      (ap (λ (m : Meaning). saved_of m (g.state own.object)) made ∙ is))))

  -- a module whose own state is saved
  pub saved_next : (modules : List M) (i : ℕ) (object : M) (saves : List (List ℕ)) (save : List ℕ)
      → slice_get modules i ≡ Some object
      → AreLoaded (made_modules g (take i modules)) saves (made_modules g (take i modules))
      → IsTrue (holds_of (g.meaning object) (g.state object))
      → save ≡ saved_of (g.meaning object) (g.state object)
      → AreLoaded (made_modules g (take (i + 1) modules)) (saves ++ save ∷ [])
      (made_modules g (take (i + 1) modules))
  saved_next modules i object saves save there so_far holds is =
      let made_of : M → ModuleState = λ m. record { meaning = g.meaning m; state = g.state m } in
      let front_is : made_modules g (take (i + 1) modules)
      ≡ made_modules g (take i modules) ++ made_of object ∷ [] =
      ap (map made_of) (take_push modules i object there)
      ∙ map-append made_of (take i modules) (object ∷ []) in
      subst (λ (l : List ModuleState). AreLoaded l (saves ++ save ∷ []) l) (sym front_is)
      (loaded_push (made_modules g (take i modules)) saves (made_modules g (take i modules))
      (made_of object) save (made_of object) so_far refl holds (sym is))

  -- a module that begins
  pub begun_next : (fresh : List M) (modules : List (Retraced M)) (rest left : List M) (object : M)
      (own : Retraced M) → rest ≡ object ∷ left → own.object ≡ object
      → states_of g modules ++ made_modules g rest ≡ made_modules g fresh
      → states_of g (modules ++ own ∷ []) ++ made_modules g left ≡ made_modules g fresh
  begun_next fresh modules rest left object own is same so_far =
      let made_of : M → ModuleState = λ m. record { meaning = g.meaning m; state = g.state m } in
      let state_of : Retraced M → ModuleState =
      λ o. record { meaning = g.meaning o.object; state = g.state o.object } in
      ap (λ (l : List ModuleState). l ++ made_modules g left)
      (map-append state_of modules (own ∷ []))
      ∙ append_assoc (states_of g modules) (state_of own ∷ []) (made_modules g left)
      ∙ ap (λ (m : M). states_of g modules ++ made_of m ∷ made_modules g left) same
      ∙ ap (λ (l : List M). states_of g modules ++ made_modules g l) (sym is)
      ∙ so_far

  pub silent_push : (modules : List (Retraced M)) (own : Retraced M) → AreSilent modules
      → own.past ≡ 0 → AreSilent (modules ++ own ∷ [])
  silent_push modules own silent none =
      all_append (λ (o : Retraced M). o.past ≡ 0) modules (own ∷ []) silent (none, tt)

  -- one more is of the configuration in force
  pub in_force_next : (modules : List (Retraced M)) (i conf : ℕ) (own : Retraced M)
      → slice_get modules i ≡ Some own
      → ForSome (conf_of (g.meaning own.object) (g.state own.object)) (λ n. n ≡ conf)
      → ((j : ℕ) (o : Retraced M) → j < i → slice_get modules j ≡ Some o
      → ForSome (conf_of (g.meaning o.object) (g.state o.object)) (λ n. n ≡ conf))
      → (j : ℕ) (o : Retraced M) → j < i + 1 → slice_get modules j ≡ Some o
      → ForSome (conf_of (g.meaning o.object) (g.state o.object)) (λ n. n ≡ conf)
  in_force_next modules i conf own there now so_far j o low at = elim (cases_eq j i) [
    | inl same ↦
        let one : own ≡ o = same_Some own o (sym there ∙ ap (slice_get modules) (sym same) ∙ at) in
        subst (λ (x : Retraced M).
        ForSome (conf_of (g.meaning x.object) (g.state x.object)) (λ n. n ≡ conf)) one now
    | inr other ↦ so_far j o (less j i other low) at
  ]

  -- all are, or one isn't
  pub all_in_force : (modules : List (Retraced M)) (conf : ℕ)
      → ((j : ℕ) (o : Retraced M) → slice_get modules j ≡ Some o
      → ForSome (conf_of (g.meaning o.object) (g.state o.object)) (λ n. n ≡ conf))
      → HaveConf conf (states_of g modules)
  all_in_force modules conf all i p there =
      let found = map_got (λ (o : Retraced M). record {
        meaning = g.meaning o.object;
        state = g.state o.object;
      }) modules i p there in
      subst (λ (q : ModuleState). ForSome (conf_of q.meaning q.state) (λ n. n ≡ conf)) found.2
      (all i found.0 found.1)

  pub one_not_in_force : (modules : List (Retraced M)) (i conf : ℕ) (own : Retraced M)
      → slice_get modules i ≡ Some own
      → (ForSome (conf_of (g.meaning own.object) (g.state own.object)) (λ n. n ≡ conf) → ⊥)
      → HaveConf conf (states_of g modules) → ⊥
  one_not_in_force modules i conf own there other have =
      other (have i (record { meaning = g.meaning own.object; state = g.state own.object })
      (map_get (λ (o : Retraced M). record {
        meaning = g.meaning o.object;
        state = g.state o.object;
      }) modules i own there))

-- the modules are the only ones, which aren't of the configuration in force
pub none_in_force : (fresh : List ModuleState) (saves : List (List ℕ))
    (modules other : List ModuleState) (conf : ℕ) → AreLoaded fresh saves modules
    → (HaveConf conf modules → ⊥) → All FitsLongText saves → AreLoaded fresh saves other
    → HaveConf conf other → ⊥
none_in_force fresh saves modules other conf loaded none fit again have =
    none (subst (HaveConf conf) (same_loaded fresh saves other modules fit again loaded) have)
