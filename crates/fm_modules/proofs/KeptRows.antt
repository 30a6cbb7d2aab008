-- What the texts of configurations make, one after another.
use Rattle.std.proofs.Common.{◌≡◌, ℕ, suc, ◌+◌, ◌<◌, ◌≤◌, List, [], ◌∷◌, ◌++◌, length, map}
use Rattle.std.proofs.Common.{take}
use Rattle.std.proofs.Common.{Some, refl, sym, ap, ◌∙◌, subst, slice_get, get_or, inr}
use Rattle.std.proofs.lemmas.List.{map-append, take_all, take_more}
use Rattle.std.proofs.lemmas.Option.{slice_get_read}
use Rattle.fm_saved.specs.declared.conf.Conf.{Conf}
use Rattle.fm_topo.specs.Fault.{IsFaultless}
use Rattle.fm_topo.specs.Topology.{Topology, topology_of}
use Rattle.fm_modules.specs.KeptTexts.{AreRefusedTexts, ConfMakes, EachHas, IsFirstRefused}
use Rattle.fm_modules.specs.KeptTexts.{IsRefusedConf, IsRefusedText, IsTopologyText, KeptCause}
use Rattle.fm_modules.specs.KeptTexts.{conf_rows}
use Rattle.fm_modules.specs.Modules.{ModulesCause, NumberedCause}
use Rattle.fm_modules.specs.declared.fault.KeptFault.{KeptFault}
use Rattle.fm_modules.specs.declared.fault.KeptFault.TheVariants as kept
use Rattle.fm_modules.specs.declared.fault.ModulesFault.{ModulesFault}
use Rattle.fm_modules.specs.declared.fault.ModulesFault.TheVariants.{Refused, NoMemory}
use Rattle.fm_modules.specs.declared.kept.MadeConf.{MadeConf}

module _ {A B : Type 0} (has : A → B → Type 0) where
  each_push : (xs : List A) (ys : List B) (x : A) (y : B) → EachHas has xs ys → has x y
      → EachHas has (xs ++ x ∷ []) (ys ++ y ∷ [])
  each_push [] [] x y each one = (one, tt)
  each_push [] (z ∷ ys) x y each one = absurd each
  each_push (w ∷ xs) [] x y each one = absurd each
  each_push (w ∷ xs) (z ∷ ys) x y each one = (each.0, each_push xs ys x y each.1 one)

  -- as many of the one as of the other
  pub each_count : (xs : List A) (ys : List B) → EachHas has xs ys → length ys ≡ length xs
  each_count [] [] each = refl
  each_count [] (z ∷ ys) each = absurd each
  each_count (w ∷ xs) [] each = absurd each
  each_count (w ∷ xs) (z ∷ ys) each = ap suc (each_count xs ys each.1)

  -- one more, as a loop makes it
  pub each_more : {C : Type 0} (f : C → B) (xs : List A) (i : ℕ) (x : A) (ys new : List C) (y : C)
      → i < length xs → x ≡ get_or xs i x → EachHas has (take i xs) (map f ys) → has x (f y)
      → new ≡ ys ++ y ∷ [] → EachHas has (take (i + 1) xs) (map f new)
  each_more f xs i x ys new y low is each one new_is =
      subst (λ ws. EachHas has ws (map f new))
      (sym (take_more xs i x low ∙ ap (λ w. take i xs ++ w ∷ []) (sym is)))
      (subst (λ zs. EachHas has (take i xs ++ x ∷ []) zs)
      (sym (ap (map f) new_is ∙ map-append f ys (y ∷ [])))
      (each_push (take i xs) (map f ys) x (f y) each one))

  -- all, once the loop is at its end
  pub each_whole : (xs : List A) (i : ℕ) (ys : List B) → length xs ≤ i
      → EachHas has (take i xs) ys → EachHas has xs ys
  each_whole xs i ys past each = subst (λ ws. EachHas has ws ys) (take_all i xs past) each

-- what a loop has at a place is there
at_place : {X : Type 0} (xs : List X) (i : ℕ) (x : X) → i < length xs → x ≡ get_or xs i x
    → slice_get xs i ≡ Some x
at_place xs i x low is = slice_get_read xs (length xs) i x refl low is

-- a text that is refused is one of all
pub text_refused : (topo : Topology) (texts : List (List ℕ)) (i : ℕ) (text : List ℕ)
    (fault : KeptFault) → i < length texts → text ≡ get_or texts i text
    → KeptCause (IsRefusedText topo text) fault → KeptCause (AreRefusedTexts topo texts) fault
text_refused topo texts i text kept.Refused low is cause =
    (i, text, at_place texts i text low is, cause)
text_refused topo texts i text kept.NoMemory low is cause = tt

-- and the configuration is refused, of which these are the rule files and the topology
pub conf_refused : (conf : Conf) (topo : Topology) (texts : List (List ℕ)) (topo_text : List ℕ)
    (fault : KeptFault) → texts ≡ conf.rules → topo_text ≡ conf.topo → IsFaultless topo_text
    → topo ≡ topology_of topo_text → KeptCause (AreRefusedTexts topo texts) fault
    → KeptCause (IsRefusedConf conf) fault
conf_refused conf topo texts topo_text kept.Refused same same_topo clean is cause =
    inr (
      topo,
      subst (λ text. IsTopologyText text topo) same_topo
          (record { clean = clean; topology_is = is }),
      subst (AreRefusedTexts topo) same cause,
    )
conf_refused conf topo texts topo_text kept.NoMemory same same_topo clean is cause = tt

-- a configuration that is refused is the first
pub first_refused : (confs : List Conf) (i number : ℕ) (mades : List MadeConf) (conf : Conf)
    (fault : ModulesFault) → number ≡ i → i < length confs → conf ≡ get_or confs i conf
    → EachHas ConfMakes (take i confs) (conf_rows mades) → NumberedCause number conf fault
    → ModulesCause confs fault
first_refused confs i number mades conf (Refused at) same low is before cause =
    subst (IsFirstRefused confs) (sym (cause.0 ∙ same)) (record {
      rows = conf_rows mades;
      before = before;
      conf = conf;
      there = at_place confs i conf low is;
      refused = cause.1;
    })
first_refused confs i number mades conf NoMemory same low is before cause = tt
