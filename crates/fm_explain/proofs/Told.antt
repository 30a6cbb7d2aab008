-- The texts of suspects, one after another.
use Rattle.std.proofs.Common.{◌≡◌, ◌++◌, ℕ, List, [], ◌∷◌, refl, sym, ap, ◌∙◌}
use Rattle.std.specs.Prelude.{flat_map}
use Rattle.std.specs.List.{AllZip}
use Rattle.std.proofs.lemmas.List.{append_assoc, append-nil}
use Rattle.fm_entry.specs.declared.suspect.Suspect.{Suspect}
use Rattle.ev_graph.specs.Lawful.{GraphValue}
use Rattle.ev_graph.specs.declared.instances.Link.{Link}
use Rattle.fm_explain.specs.Explained.{IsSuspectTold, AreSuspectsTold}

-- one more of each
zip_push : {A B : Type 0} (R : A → B → Type 0) (xs : List A) (ys : List B) (x : A) (y : B)
    → AllZip R xs ys → R x y → AllZip R (xs ++ x ∷ []) (ys ++ y ∷ [])
zip_push R [] [] x y h r = (r, tt)
zip_push R [] (b ∷ ys) x y h r = absurd h
zip_push R (a ∷ xs) [] x y h r = absurd h
zip_push R (a ∷ xs) (b ∷ ys) x y h r = (h.0, zip_push R xs ys x y h.1 r)

-- one more text
texts_push : (texts : List (List ℕ)) (t : List ℕ)
    → flat_map (λ t. t) (texts ++ t ∷ []) ≡ flat_map (λ t. t) texts ++ t
texts_push [] t = append-nil t
texts_push (u ∷ us) t =
    ap (λ (z : List ℕ). u ++ z) (texts_push us t) ∙ sym (append_assoc u (flat_map (λ t. t) us) t)

module _ (g : GraphValue) (less : List Link) (reports : List ℕ) where
  pub told_none : AreSuspectsTold g less reports [] []
  told_none = record { texts = []; each = tt; text_is = refl }

  pub told_push : (suspects : List Suspect) (s : Suspect) (text t : List ℕ)
      → AreSuspectsTold g less reports suspects text → IsSuspectTold g less reports s t
      → AreSuspectsTold g less reports (suspects ++ s ∷ []) (text ++ t)
  told_push suspects s text t h one = record {
    texts = h.texts ++ t ∷ [];
    each = zip_push (IsSuspectTold g less reports) suspects h.texts s t h.each one;
    text_is = ap (λ (z : List ℕ). z ++ t) h.text_is ∙ sym (texts_push h.texts t);
  }
