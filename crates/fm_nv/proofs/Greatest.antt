-- The last name as the greatest.
use Rattle.std.proofs.Common.{◌≡◌, ℕ, zero, suc, Bool, true, false, bytes_eq, List, refl, sym}
use Rattle.std.proofs.Common.{ap, ◌∙◌, subst, arith, nat_cmp, Ordering, Less, Equal, Greater}
use Rattle.std.proofs.lemmas.Bool.{false≢true}
use Rattle.std.specs.Bool.{OnTrue}
use Rattle.std.specs.Ordering.{is_eq, is_lt}
use Rattle.std.specs.Cmp.Lexicographic.{slice_cmp, nat_list_cmp_total}
use Rattle.std.proofs.lemmas.Map.Text.{is_eq-slice_cmp}
use Rattle.fm_bytes.proofs.Booleans.{or_parts, or_false}
use Rattle.fm_nv.specs.Ascending.{FollowsLast, LastIsGreatest, IsPast}
use Rattle.fm_nv.specs.Data.{Pairs, Data, no_pairs, pair, count, has, add, name_at}

-- a name that is past all is not there
pub past_is_new : (k : List ℕ) (ps : Pairs) → IsPast k ps → has k ps ≡ false
past_is_new k ps h = h.greatest k h.follows

-- the last pair is at the last place
pub follows_at : (k : List ℕ) (ps : Pairs) (n : ℕ) → suc n ≡ count ps
    → slice_cmp nat_cmp (name_at n ps) k ≡ Less → FollowsLast k ps
follows_at k no_pairs n h less = absurd (omega arith)
follows_at k (pair j e no_pairs) zero h less = less
follows_at k (pair j e no_pairs) (suc n) h less = absurd (omega arith)
follows_at k (pair j e (pair i f ps)) zero h less = absurd (omega arith)
follows_at k (pair j e (pair i f ps)) (suc n) h less =
    follows_at k (pair i f ps) n (omega arith) less

-- what is greater than a name that follows the last follows it too
follows_on : (k q : List ℕ) (ps : Pairs) → FollowsLast k ps → slice_cmp nat_cmp k q ≡ Less
    → FollowsLast q ps
follows_on k q no_pairs h less = h
follows_on k q (pair j e no_pairs) h less = nat_list_cmp_total.trans j k q h less
follows_on k q (pair j e (pair i f ps)) h less = follows_on k q (pair i f ps) h less

follows_added : (k q : List ℕ) (d : Data) (ps : Pairs) → FollowsLast q (add k d ps)
    → slice_cmp nat_cmp k q ≡ Less
follows_added k q d no_pairs h = h
follows_added k q d (pair j e no_pairs) h = h
follows_added k q d (pair j e (pair i f ps)) h = follows_added k q d (pair i f ps) h

-- a name that is neither that of a new pair nor there before is not there
has_not : (q k : List ℕ) (d : Data) (ps : Pairs) → has q ps ≡ false → bytes_eq k q ≡ false
    → has q (add k d ps) ≡ false
has_not q k d no_pairs h other = or_false _ _ other refl
has_not q k d (pair j e ps) h other =
    let parts = or_parts (bytes_eq j q) (has q ps) h in
    or_false _ _ parts.0 (has_not q k d ps parts.1 other)

apart : (k q : List ℕ) → slice_cmp nat_cmp k q ≡ Less → bytes_eq k q ≡ false
apart k q h = sym (is_eq-slice_cmp k q) ∙ ap is_eq h

-- with a name that is past all, that name is the greatest
pub past_is_greatest : (k : List ℕ) (d : Data) (ps : Pairs) → IsPast k ps
    → LastIsGreatest (add k d ps)
past_is_greatest k d ps h q follows =
    let less = follows_added k q d ps follows in
    has_not q k d ps (h.greatest q (follows_on k q ps h.follows less)) (apart k q less)

-- each name is past no pair
pub past_nothing : (k : List ℕ) (ps : Pairs) → count ps ≡ 0 → IsPast k ps
past_nothing k no_pairs h = record { follows = tt; greatest = λ q follows. refl }
past_nothing k (pair j e ps) h = absurd (omega arith)

less_is : (o : Ordering) → true ≡ is_lt o → o ≡ Less
less_is Less h = refl
less_is Equal h = absurd (false≢true (sym h))
less_is Greater h = absurd (false≢true (sym h))

-- a name that is greater than that at the last place is past all, where that one is the greatest
pub past_last : (ascending found : Bool) (k j : List ℕ) (ps qs : Pairs) (n : ℕ) → ascending ≡ true
    → OnTrue ascending (LastIsGreatest qs) → qs ≡ ps → suc n ≡ count ps → j ≡ name_at n ps
    → found ≡ is_lt (slice_cmp nat_cmp j k)
    → OnTrue found (IsPast k ps)
past_last false found k j ps qs n known greatest same last named told = absurd (false≢true known)
past_last true false k j ps qs n known greatest same last named told = tt
past_last true true k j ps qs n known greatest same last named told =
    record {
      follows = follows_at k ps n last
          (sym (ap (λ (l : List ℕ). slice_cmp nat_cmp l k) named) ∙ less_is _ told);
      greatest = subst LastIsGreatest same greatest;
    }
