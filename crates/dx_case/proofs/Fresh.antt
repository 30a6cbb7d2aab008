-- Candidates as they are made.
use Rattle.std.proofs.Common.{◌≡◌, ◌⊎◌, ◌+◌, ◌<◌, ◌++◌, ℕ, zero, suc, List, [], ◌∷◌, length, get_or}
use Rattle.std.proofs.Common.{take, slice_get, refl, sym, ap, subst, ◌∙◌, inl, inr, eqb, true}
use Rattle.std.proofs.Common.{false, Some}
use Rattle.std.specs.List.{list_all}
use Rattle.std.proofs.lemmas.Bool.{or_left, eq-eqb}
use Rattle.std.proofs.lemmas.List.{take_more, map-append}
use Rattle.std.proofs.lemmas.Option.{same_Some}
use Rattle.ev_incidence.specs.Sets.{is_member, ascends}
use Rattle.ev_graph.specs.Kinds.{is_report_node}
use Rattle.ev_graph.specs.Lawful.{GraphValue}
use Rattle.dx_live.specs.Live.{no_cut, all_allowed}
use Rattle.dx_case.specs.declared.candidate.Candidate.{Candidate}
use Rattle.dx_case.specs.Candidates.{IsCandidate, AreCovered, AreCandidates}
use Rattle.dx_case.specs.Finding.{AreRootsOf, AreAsMade}

-- an item of a list with one more at its end
pub get_push : {A : Type 0} (xs : List A) (y x : A) (i : ℕ) → slice_get (xs ++ y ∷ []) i ≡ Some x
    → (slice_get xs i ≡ Some x) ⊎ (y ≡ x)
get_push [] y x zero h = inr (same_Some y x h)
get_push [] y x (suc i) h = absurd (let no_item : ⊥ = cc in no_item)
get_push (z ∷ zs) y x zero h = inl h
get_push (z ∷ zs) y x (suc i) h = get_push zs y x i h

pub fresh_none : (g : GraphValue) → AreAsMade g [] []
fresh_none g = record {
  are = refl;
  each = λ i a s. absurd (let no_item : ⊥ = cc in no_item);
}

pub fresh_more : (g : GraphValue) (roots : List ℕ) (i d : ℕ) (cs : List Candidate) (a : Candidate)
    → i < length roots → a.root ≡ get_or roots i d → IsCandidate g no_cut all_allowed a
    → AreAsMade g (take i roots) cs → AreAsMade g (take (i + 1) roots) (cs ++ a ∷ [])
fresh_more g roots i d cs a l is h f = record {
  are = map-append (λ (c : Candidate). c.root) cs (a ∷ [])
      ∙ (ap (λ (rs : List ℕ). rs ++ a.root ∷ []) f.are
      ∙ (ap (λ (r : ℕ). take i roots ++ r ∷ []) is ∙ sym (take_more roots i d l)));
  each = λ k b s. elim (get_push cs a b k s) [
    | inl old ↦ f.each k b old
    | inr same ↦ let P : Candidate → Type 0 = λ c. IsCandidate g no_cut all_allowed c in
        subst P same h
  ];
}

-- candidates of all roots whose stories have a node
pub begins : (g : GraphValue) (node : ℕ) (roots reports : List ℕ) (fresh : List Candidate)
    → AreRootsOf g node roots → AreAsMade g roots fresh → ascends reports ≡ true
    → list_all (is_report_node g.nodes) reports ≡ true → AreCovered g roots reports
    → AreCandidates g no_cut (is_member (node ∷ [])) all_allowed fresh reports
begins g node roots reports fresh list made up are covered =
    let P : List ℕ → Type 0 = λ rs. AreCovered g rs reports in
    record {
      each = made.each;
      ascend = ap ascends made.are ∙ list.ascend;
      all = λ root p. ap (λ (rs : List ℕ). is_member rs root) made.are
          ∙ list.all root no_cut all_allowed p.set p.story
          (p.all node (or_left (eqb node node) false (eq-eqb node node refl)));
      reports_ascend = up;
      reports_are = are;
      covered = subst P (sym made.are) covered;
    }
