-- Links in order.
use Rattle.std.proofs.Common.{◌≡◌, ◌<◌, ◌⊎◌, ◌&&◌, ℕ, Bool, true, false, eqb, ltb, List}
use Rattle.std.proofs.Common.{length, get_or, sym, subst, ◌∙◌, arith, inl, inr}
use Rattle.std.specs.List.{AllWithin}
use Rattle.std.specs.List.Sorted.{IsPartitionedBy}
use Rattle.std.proofs.lemmas.List.{get_or_default}
use Rattle.std.proofs.lemmas.List.Folds.{list_any_at, list_any_none}
use Rattle.std.proofs.lemmas.Bool.{cases_lt, cases_eq, or_cases, or_left, or_right}
use Rattle.std.proofs.lemmas.Bool.{and_parts, and_from, and_left, and_right, ltb-true, lt-ltb}
use Rattle.std.proofs.lemmas.Bool.{eqb-true, eq-eqb, ne_eqb, both_ways}
use Rattle.ev_incidence.specs.Sets.{ascends_by}
use Rattle.ev_graph.specs.Cutting.{is_before_link, is_cut}
use Rattle.ev_graph.specs.declared.instances.Link.{Link}
use Rattle.ev_incidence.proofs.Ascending.{rises_by}

means : (a b : Link) → is_before_link a b ≡ true → (a.instance < b.instance)
    ⊎ ((a.instance ≡ b.instance) × (a.effect < b.effect))
means a b h = elim (or_cases (ltb a.instance b.instance)
    (eqb a.instance b.instance && ltb a.effect b.effect) h) [
      | inl l ↦ inl (ltb-true a.instance b.instance l)
      | inr t ↦ let p = and_parts (eqb a.instance b.instance) (ltb a.effect b.effect) t in
          inr (eqb-true a.instance b.instance p.0, ltb-true a.effect b.effect p.1)
    ]

comes : (a b : Link) → (a.instance < b.instance)
    ⊎ ((a.instance ≡ b.instance) × (a.effect < b.effect)) → is_before_link a b ≡ true
comes a b h = elim h [
  | inl l ↦ or_left (ltb a.instance b.instance) (eqb a.instance b.instance && ltb a.effect b.effect)
      (lt-ltb a.instance b.instance l)
  | inr (e, l) ↦ or_right (ltb a.instance b.instance)
      (eqb a.instance b.instance && ltb a.effect b.effect)
      (and_from (eqb a.instance b.instance) (ltb a.effect b.effect) (eq-eqb a.instance b.instance e)
      (lt-ltb a.effect b.effect l))
]

pub link_trans : (a b c : Link) → is_before_link a b ≡ true → is_before_link b c ≡ true
    → is_before_link a c ≡ true
link_trans a b c f g = comes a c (elim (means a b f) [
  | inl l ↦ elim (means b c g)
      [ inl m ↦ inl (omega (arith, l, m)) | inr (e, m) ↦ inl (omega (arith, l, e)) ]
  | inr (d, l) ↦ elim (means b c g)
      [ inl m ↦ inl (omega (arith, d, m)) | inr (e, m) ↦ inr (d ∙ e, omega (arith, l, m)) ]
])

-- a link that is before or behind is another
abbrev is_same : ℕ → ℕ → Link → Bool
is_same j e l = eqb l.instance j && eqb l.effect e

before_other : (l x : Link) → is_before_link l x ≡ true → is_same x.instance x.effect l ≡ false
before_other l x h = elim (means l x h) [
  | inl low ↦ and_left (eqb l.instance x.instance) (eqb l.effect x.effect)
      (ne_eqb l.instance x.instance (λ e. absurd (omega (arith, e, low))))
  | inr (e, low) ↦ and_right (eqb l.instance x.instance) (eqb l.effect x.effect)
      (ne_eqb l.effect x.effect (λ d. absurd (omega (arith, d, low))))
]

behind_other : (l x : Link) → is_before_link x l ≡ true → is_same x.instance x.effect l ≡ false
behind_other l x h = elim (means x l h) [
  | inl low ↦ and_left (eqb l.instance x.instance) (eqb l.effect x.effect)
      (ne_eqb l.instance x.instance (λ e. absurd (omega (arith, e, low))))
  | inr (e, low) ↦ and_right (eqb l.instance x.instance) (eqb l.effect x.effect)
      (ne_eqb l.effect x.effect (λ d. absurd (omega (arith, d, low))))
]

behind : (l x : Link) → is_before_link l x ≡ false → is_same x.instance x.effect l ≡ false
    → is_before_link x l ≡ true
behind l x h s = elim (cases_lt x.instance l.instance) [
  | inl low ↦ comes x l (inl low)
  | inr ge ↦ elim (cases_eq l.instance x.instance) [
    | inl e ↦ elim (cases_lt x.effect l.effect) [
      | inl low ↦ comes x l (inr (sym e, low))
      | inr le ↦ elim (cases_eq l.effect x.effect) [
        | inl d ↦ absurd (both_ways (is_same x.instance x.effect l) s
            (and_from (eqb l.instance x.instance) (eqb l.effect x.effect)
            (eq-eqb l.instance x.instance e) (eq-eqb l.effect x.effect d)))
        | inr ne ↦ absurd (both_ways (is_before_link l x) h
            (comes l x (inr (e, omega (arith, le, ne)))))
      ]
    ]
    | inr ne ↦ absurd (both_ways (is_before_link l x) h (comes l x (inl (omega (arith, ge, ne)))))
  ]
]

module _ (less : List Link) (x : Link) (up : ascends_by is_before_link less ≡ true) where
  pub parted_links : IsPartitionedBy (λ l. is_before_link l x) less
  parted_links i j d le l h = elim (cases_eq i j) [
    | inl same ↦ let P : ℕ → Type 0 = λ k. is_before_link (get_or less k d) x ≡ true in
        subst P (sym same) h
    | inr ne ↦ link_trans (get_or less i d) (get_or less j d) x
        (rises_by is_before_link link_trans less i j d up (omega (arith, le, ne)) l) h
  ]

  pub cut_past : AllWithin (λ l. is_before_link l x ≡ true) less 0 (length less)
      → is_cut less x.instance x.effect ≡ false
  cut_past h = list_any_none (is_same x.instance x.effect) less
      (λ k d l. before_other (get_or less k d) x (h k d (omega arith) l))

  pub cut_here : (at : ℕ) (d : Link) → at < length less
      → is_same x.instance x.effect (get_or less at d) ≡ true
      → is_cut less x.instance x.effect ≡ true
  cut_here at d l h = list_any_at (is_same x.instance x.effect) less at d l h

  pub cut_missing : (at : ℕ) (e : Link) → at < length less
      → AllWithin (λ l. is_before_link l x ≡ true) less 0 at
      → is_before_link (get_or less at e) x ≡ false
      → is_same x.instance x.effect (get_or less at e) ≡ false
      → is_cut less x.instance x.effect ≡ false
  cut_missing at e l low here other =
      let after = behind (get_or less at e) x here other in
      list_any_none (is_same x.instance x.effect) less (λ k d m. elim (cases_lt k at) [
        | inl lt ↦ before_other (get_or less k d) x (low k d (omega arith) lt)
        | inr ge ↦ elim (cases_eq k at) [
          | inl same ↦
              let P : ℕ → Type 0 = λ n. is_same x.instance x.effect (get_or less n d) ≡ false in
              subst P (sym same) (let Q : Link
              → Type 0 = λ z. is_same x.instance x.effect z ≡ false in
              subst Q (get_or_default less at e d l) other)
          | inr ne ↦
              let there = rises_by is_before_link link_trans less at k d up (omega (arith, ge, ne))
              m in
              let first : is_before_link x (get_or less at d) ≡ true = let Q : Link
              → Type 0 = λ z. is_before_link x z ≡ true in
              subst Q (get_or_default less at e d l) after in
              behind_other (get_or less k d) x
              (link_trans x (get_or less at d) (get_or less k d) first there)
        ]
      ])
