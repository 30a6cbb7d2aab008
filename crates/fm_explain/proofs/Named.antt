-- The events of names, name by name.
use Rattle.std.proofs.Common.{◌≡◌, ◌+◌, ◌++◌, ℕ, true, List, [], ◌∷◌, Some, None}
use Rattle.std.proofs.Common.{sym, ap, ◌∙◌, inl, inr, arith}
use Rattle.std.specs.Prelude.{slice_get, IfSome}
use Rattle.std.specs.declared.option.Option.{Option}
use Rattle.std.proofs.lemmas.Bool.{cases_eq, false≢true}
use Rattle.fm_name.specs.declared.events.EventName.{EventName}
use Rattle.ev_incidence.specs.Sets.{is_member}
use Rattle.ev_graph.specs.Lawful.{IsNodeNamed, name_in}
use Rattle.ev_graph.specs.declared.nodes.Node.{Node}
use Rattle.ev_incidence.proofs.Occurrences.{in_push, in_more, in_last}
use Rattle.fm_explain.specs.Explained.{AreFound}

module _ (nodes : List Node) (names : List EventName) where
  pub found_none : AreFound nodes names 0 []
  found_none = record {
    from = λ e i. absurd (false≢true i);
    all = λ i name l g. absurd (omega (arith, l));
  }

  -- what is a member still
  widened : (xs ys : List ℕ) (at : Option ℕ)
      → ((e : ℕ) → is_member xs e ≡ true → is_member ys e ≡ true)
      → IfSome at (λ e. is_member xs e ≡ true) → IfSome at (λ e. is_member ys e ≡ true)
  widened xs ys None f h = h
  widened xs ys (Some e) f h = f e h

  -- two names at one place
  same_name : (i n : ℕ) (a b : EventName) → i ≡ n → slice_get names i ≡ Some a
      → slice_get names n ≡ Some b → Some b ≡ Some a
  same_name i n a b e here there = sym there ∙ (ap (slice_get names) (sym e) ∙ here)

  pub found_push : (n e : ℕ) (name : EventName) (xs : List ℕ) → slice_get names n ≡ Some name
      → name_in (slice_get nodes e) ≡ Some name → AreFound nodes names n xs
      → AreFound nodes names (n + 1) (xs ++ e ∷ [])
  found_push n e name xs here is h = record {
    from = λ x i. elim (in_push xs e x i) [
      | inl old ↦
          let r = h.from x old in
          (r.0, r.1, omega (arith, r.2), r.3, r.4)
      | inr last ↦
          (n, name, omega arith, here, ap (λ (z : ℕ). name_in (slice_get nodes z)) (sym last) ∙ is)
    ];
    all = λ i other l g. elim (cases_eq i n) [
      | inl same ↦ (Some e, is ∙ same_name i n other name same g here, in_last xs e)
      | inr ne ↦
          let r = h.all i other (omega (arith, l, ne)) g in
          (r.0, r.1, widened xs (xs ++ e ∷ []) r.0 (λ x m. in_more xs (e ∷ []) x m) r.2)
    ];
  }

  pub found_past : (n : ℕ) (name : EventName) (xs : List ℕ) → slice_get names n ≡ Some name
      → IsNodeNamed nodes name None → AreFound nodes names n xs → AreFound nodes names (n + 1) xs
  found_past n name xs here none h = record {
    from = λ x i. let r = h.from x i in (r.0, r.1, omega (arith, r.2), r.3, r.4);
    all = λ i other l g. elim (cases_eq i n) [
      | inl same ↦ (None, λ at m. none at (m ∙ sym (same_name i n other name same g here)), tt)
      | inr ne ↦ h.all i other (omega (arith, l, ne)) g
    ];
  }

  pub found_same : (n : ℕ) (xs ys : List ℕ) → ((e : ℕ) → is_member ys e ≡ is_member xs e)
      → AreFound nodes names n xs → AreFound nodes names n ys
  found_same n xs ys same h = record {
    from = λ x i. h.from x (sym (same x) ∙ i);
    all = λ i name l g.
        let r = h.all i name l g in
        (r.0, r.1, widened xs ys r.0 (λ x m. same x ∙ m) r.2);
  }
