-- Names that stand behind a place, and those of the whole list.
use Rattle.std.proofs.Common.{◌≡◌, ℕ, zero, suc, ◌+◌, ◌-◌, ◌<◌, ◌≤◌, Bool, true, false, ◌&&◌, ◌||◌}
use Rattle.std.proofs.Common.{not, cond, bytes_eq, List, refl, sym, ap, ◌∙◌, arith, nat_cmp}
use Rattle.std.specs.Cmp.Lexicographic.{slice_cmp}
use Rattle.std.specs.Ordering.{is_eq}
use Rattle.std.proofs.lemmas.Map.Text.{is_eq-slice_cmp}
use Rattle.fm_nv.specs.Data.{Pairs, no_pairs, pair, has, from, count, name_at, value_at}
use Rattle.fm_nv.specs.Spelled.{distinct}
use Rattle.fm_nv.proofs.Places.{from_step}

and_false : (a b : Bool) → b ≡ false → (a && b) ≡ false
and_false true b h = h
and_false false b h = refl

not_both : (a b : Bool) → a ≡ true → (not a && b) ≡ false
not_both a b h = ap (λ (c : Bool). not c && b) h

-- a name that stands twice behind a place stands twice
pub distinct_behind : (ps : Pairs) (i : ℕ) → distinct (from i ps) ≡ false → distinct ps ≡ false
distinct_behind no_pairs i h = h
distinct_behind (pair k d ps) zero h = h
distinct_behind (pair k d ps) (suc i) h = and_false (not (has k ps)) _ (distinct_behind ps i h)

-- the pairs from a place on, by the pair there and those behind it
pub one_before : (ps : Pairs) (at : ℕ) → at ≤ count ps → 0 < at
    → from (at - 1) ps ≡ pair (name_at (at - 1) ps) (value_at (at - 1) ps) (from at ps)
one_before ps at h above =
    let back : at - 1 + 1 ≡ at = omega arith in
    from_step ps (at - 1) (omega arith)
    ∙ ap (λ (n : ℕ). pair (name_at (at - 1) ps) (value_at (at - 1) ps) (from n ps)) back

-- a name that is there behind the place stands twice
pub twice_there : (ps : Pairs) (at : ℕ) → at ≤ count ps → 0 < at
    → has (name_at (at - 1) ps) (from at ps) ≡ true → distinct ps ≡ false
twice_there ps at h above there =
    distinct_behind ps (at - 1) (ap distinct (one_before ps at h above) ∙ not_both _ _ there)

-- a name that is not there behind the place leaves the names distinct
pub new_there : (ps : Pairs) (at : ℕ) → at ≤ count ps → 0 < at
    → has (name_at (at - 1) ps) (from at ps) ≡ false → distinct (from at ps) ≡ true
    → distinct (from (at - 1) ps) ≡ true
new_there ps at h above new apart =
    ap distinct (one_before ps at h above) ∙ ap (λ (b : Bool). not b && distinct (from at ps)) new
    ∙ apart

cond_or : (a b : Bool) → cond a true b ≡ (a || b)
cond_or true b = refl
cond_or false b = refl

-- the names of a set with one more name
pub one_more : (ps : Pairs) (at : ℕ) (name q : List ℕ) (before now : Bool) → at ≤ count ps → 0 < at
    → name ≡ name_at (at - 1) ps
    → now ≡ cond (is_eq (slice_cmp nat_cmp name q)) true before → before ≡ has q (from at ps)
    → now ≡ has q (from (at - 1) ps)
one_more ps at name q before now h above same after was =
    after ∙ ap (λ (b : Bool). cond b true before) (is_eq-slice_cmp name q)
    ∙ cond_or (bytes_eq name q) before
    ∙ ap (λ (b : Bool). bytes_eq name q || b) was
    ∙ ap (λ (k : List ℕ). bytes_eq k q || has q (from at ps)) same
    ∙ sym (ap (has q) (one_before ps at h above))
