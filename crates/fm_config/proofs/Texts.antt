-- The texts of a configuration, one after another.
use Rattle.std.proofs.Common.{◌≡◌, ℕ, ◌+◌, ◌<◌, List, [], ◌∷◌, ◌++◌, length, take, get_or}
use Rattle.std.proofs.Common.{refl, sym, ap, ◌∙◌, subst, inl, inr}
use Rattle.std.proofs.lemmas.List.{take_more}
use Rattle.std.proofs.lemmas.Option.{slice_get_read}
use Rattle.fm_modules.specs.KeptTexts.{AreRefusedTexts, EachHas, IsRefusedConf, IsRefusedText}
use Rattle.fm_modules.specs.KeptTexts.{IsNoTopology, IsTopologyText}
use Rattle.fm_saved.specs.declared.conf.Conf.{Conf}
use Rattle.fm_topo.specs.Topology.{Topology}
use Rattle.fm_config.specs.Sizes.{ConfCause}
use Rattle.fm_config.specs.declared.fault.ConfFault.{ConfFault}
use Rattle.fm_config.specs.declared.fault.ConfFault.TheVariants.{Refused, NoMemory}

module _ {A B : Type 0} (has : A → B → Type 0) where
  each_push : (xs : List A) (ys : List B) (x : A) (y : B) → EachHas has xs ys → has x y
      → EachHas has (xs ++ x ∷ []) (ys ++ y ∷ [])
  each_push [] [] x y each one = (one, tt)
  each_push [] (z ∷ ys) x y each one = absurd each
  each_push (w ∷ xs) [] x y each one = absurd each
  each_push (w ∷ xs) (z ∷ ys) x y each one = (each.0, each_push xs ys x y each.1 one)

  -- one more, as a loop makes it
  pub each_next : (xs : List A) (i : ℕ) (x : A) (ys new : List B) (y : B) → i < length xs
      → x ≡ get_or xs i x → EachHas has (take i xs) ys → has x y → new ≡ ys ++ y ∷ []
      → EachHas has (take (i + 1) xs) new
  each_next xs i x ys new y low is each one new_is =
      subst (λ ws. EachHas has ws new)
      (sym (take_more xs i x low ∙ ap (λ w. take i xs ++ w ∷ []) (sym is)))
      (subst (λ zs. EachHas has (take i xs ++ x ∷ []) zs) (sym new_is)
      (each_push (take i xs) ys x y each one))

-- one of all texts
pub one_refused : (topo : Topology) (texts : List (List ℕ)) (i : ℕ) (text : List ℕ)
    (fault : ConfFault) → i < length texts → text ≡ get_or texts i text
    → ConfCause (IsRefusedText topo text) fault → ConfCause (AreRefusedTexts topo texts) fault
one_refused topo texts i text Refused low is cause =
    (i, text, slice_get_read texts (length texts) i text refl low is, cause)
one_refused topo texts i text NoMemory low is cause = tt

-- the texts of a configuration, over its topology
pub conf_refused : (conf : Conf) (topo : Topology) (texts : List (List ℕ)) (topo_text : List ℕ)
    (fault : ConfFault) → texts ≡ conf.rules → topo_text ≡ conf.topo
    → IsTopologyText topo_text topo → ConfCause (AreRefusedTexts topo texts) fault
    → ConfCause (IsRefusedConf conf) fault
conf_refused conf topo texts topo_text Refused same same_topo is cause =
    inr (
      topo,
      subst (λ text. IsTopologyText text topo) same_topo is,
      subst (AreRefusedTexts topo) same cause,
    )
conf_refused conf topo texts topo_text NoMemory same same_topo is cause = tt

-- its topology
pub topo_refused : (conf : Conf) (topo_text : List ℕ) (fault : ConfFault) → topo_text ≡ conf.topo
    → ConfCause (IsNoTopology topo_text) fault → ConfCause (IsRefusedConf conf) fault
topo_refused conf topo_text Refused same cause = inl (subst IsNoTopology same cause)
topo_refused conf topo_text NoMemory same cause = tt
