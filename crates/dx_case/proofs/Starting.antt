-- What was found for one more node.
use Rattle.std.proofs.Common.{◌≡◌, ◌∙◌, ℕ, Bool, true, cond, Some, sym, ap, subst, refl}
use Rattle.std.proofs.Common.{inl, inr}
use Rattle.std.specs.Ordering.{nat_cmp, is_eq}
use Rattle.std.specs.declared.cmp.Ordering.{Ordering}
use Rattle.std.specs.declared.cmp.Ordering.TheVariants.{Less, Equal, Greater}
use Rattle.std.specs.BTreeMap.{get, is_at, Updates, IsUnchanged}
use Rattle.std.specs.Map.{lookup}
use Rattle.std.proofs.lemmas.Bool.{cases_Bool, false≢true}
use Rattle.std.proofs.lemmas.Map.Lookups.{exact_unsigned}
use Rattle.std.proofs.lemmas.Option.{same_Some}
use Rattle.ev_graph.specs.Lawful.{GraphValue}
use Rattle.dx_case.specs.declared.finding.Fresh.{Fresh}
use Rattle.dx_case.specs.declared.starts.Starts.{Starts}
use Rattle.dx_case.specs.Starts.{IsFreshOf, AreStartsOf}

equal_of : (o : Ordering) → is_eq o ≡ true → o ≡ Equal
equal_of Less h = absurd (false≢true h)
equal_of Equal h = refl
equal_of Greater h = absurd (false≢true h)

-- equal ones are right too
pub fresh_copy : (g : GraphValue) (node : ℕ) (f made : Fresh)
    → made.candidates.items ≡ f.candidates.items → made.reports.items ≡ f.reports.items
    → IsFreshOf g node f → IsFreshOf g node made
fresh_copy g node f made candidates reports h = rw (candidates, reports) h

pub none_more : (g : GraphValue) (old new : Starts) → IsUnchanged old.found new.found
    → AreStartsOf g old → AreStartsOf g new
none_more g old new same h = record {
  each = λ e k there. h.each e k (ap (lookup (is_at (nat_cmp e))) (sym same) ∙ there);
}

pub one_more : (g : GraphValue) (old new : Starts) (node : ℕ) (f : Fresh)
    → Updates nat_cmp old.found new.found node (Some f) → IsFreshOf g node f
    → AreStartsOf g old → AreStartsOf g new
one_more g old new node f up is h = record {
  each = λ e k there.
      let now = λ (b : Bool). cond b (Some f) (get nat_cmp old.found e) in
      elim (cases_Bool (is_eq (nat_cmp node e))) [
        | inl here ↦
            let same : f ≡ k = same_Some f k (sym (ap now here) ∙ (sym (up.0 e) ∙ there)) in
            let at : node ≡ e = exact_unsigned node e (equal_of (nat_cmp node e) here) in
            subst (λ (n : ℕ). IsFreshOf g n k) at (subst (IsFreshOf g node) same is)
        | inr away ↦ h.each e k (sym (ap now away) ∙ (sym (up.0 e) ∙ there))
      ];
}
