-- What a condition is printed as spells it, with the least parentheses, as deep as any of its
-- spellings.
use Rattle.std.proofs.Common.{◌≡◌, inl, inr, ℕ, zero, suc, Bool, true, false, List, [], ◌∷◌, ◌++◌}
use Rattle.std.proofs.Common.{refl, sym, ap, subst, codes}
use Rattle.ev_tree.specs.Condition.{Condition, Conditions, Any, All, Negated, Defined, Compares}
use Rattle.ev_tree.specs.Condition.{Nothing, Also, conditions, any, all}
use Rattle.ev_tree.specs.Grammar.{text, sum, compare, gather, atom, both, cond, unary}
use Rattle.ev_tree.specs.Language.{Lang, ◌·◌, each, separated, sign}
use Rattle.ev_tree.specs.declared.print_conditions.Level.{Level}
use Rattle.ev_tree.specs.declared.print_conditions.Level.TheVariants.{Whole, InAny, InAll}
use Rattle.ev_tree.specs.Printing.{wraps_any, wraps_all, wrapped, show, row, others, sum_tokens}
use Rattle.ev_tree.specs.Printing.{compare_sign}
use Rattle.ev_tree.specs.Tok.{Tok, Sign, Text}
use Rattle.ev_tree.specs.declared.tree.Compare.{Compare}
use Rattle.ev_tree.specs.declared.tree.Operand.{Operand}
use Rattle.ev_print_laws.proofs.Real.{Real, AllReal, GivenAll, all_append, given_front, given_back}
use Rattle.ev_print_laws.proofs.Real.{and_real, or_real, not_real, open_real, close_real}
use Rattle.ev_print_laws.proofs.Real.{confprop_defined_real}
use Rattle.ev_print_laws.proofs.Printed.{Prints, sum_prints, compare_prints, compare_tokens}
use Rattle.ev_print_laws.proofs.Printed.{text_prints, sign_before, sign_behind}

-- two conditions at least
abbrev Two : Conditions → Type 0
Two Nothing = ⊥
Two (Also c Nothing) = ⊥
Two (Also c (Also d more)) = Unit {0}

-- one nesting less, where there are parentheses
abbrev Inside : Bool → (ℕ → Type 0) → ℕ → Type 0
Inside true P n = (m : ℕ) × (n ≡ suc m) × P m
Inside false P n = P n

-- a sum and a comparison that are printed as they are spelled
abbrev SumFits : List Operand → Type 0
SumFits os = sum os (sum_tokens os) × AllReal (sum_tokens os)

abbrev HowFits : Compare → Type 0
HowFits how = compare how (compare_tokens how) × AllReal (compare_tokens how)

abbrev mutual
  -- n nestings are enough for what the condition is printed as at the level
  Fits : Level → Condition → ℕ → Type 0
  Fits l (Any cs) n = Two cs × Inside (wraps_any l) (Members InAny cs) n
  Fits l (All cs) n = Two cs × Inside (wraps_all l) (Members InAll cs) n
  Fits l (Negated c) n = (m : ℕ) × (n ≡ suc m) × Fits InAll c m
  Fits l (Defined t) n = Real (Text t)
  Fits l (Compares left how right) n = SumFits left × HowFits how × SumFits right

  Members : Level → Conditions → ℕ → Type 0
  Members l Nothing n = Unit {0}
  Members l (Also c cs) n = Fits l c n × Members l cs n

-- ---- more nestings are enough too

inside_mono : (b : Bool) (P : ℕ → Type 0) → ((n : ℕ) → P n → P (suc n)) → (n : ℕ) → Inside b P n
    → Inside b P (suc n)
inside_mono true P up n i = (suc i.0, ap suc i.1, up i.0 i.2)
inside_mono false P up n i = up n i

mutual
  fits_mono : (l : Level) (c : Condition) (n : ℕ) → Fits l c n → Fits l c (suc n)
  fits_mono l (Any cs) n f =
      (f.0, inside_mono (wraps_any l) (Members InAny cs) (λ k g. members_mono InAny cs k g) n f.1)
  fits_mono l (All cs) n f =
      (f.0, inside_mono (wraps_all l) (Members InAll cs) (λ k g. members_mono InAll cs k g) n f.1)
  fits_mono l (Negated c) n f = (suc f.0, ap suc f.1, fits_mono InAll c f.0 f.2)
  fits_mono l (Defined t) n f = f
  fits_mono l (Compares left how right) n f = f

  members_mono : (l : Level) (cs : Conditions) (n : ℕ) → Members l cs n → Members l cs (suc n)
  members_mono l Nothing n f = tt
  members_mono l (Also c cs) n f = (fits_mono l c n f.0, members_mono l cs n f.1)

-- ---- what fits inside fits where less stands round it, and in parentheses

out_of : (P : ℕ → Type 0) → ((n : ℕ) → P n → P (suc n)) → (n : ℕ) → Inside true P n → P n
out_of P up n i = subst P (sym i.1) (up i.0 i.2)

fits_in_any : (c : Condition) (n : ℕ) → Fits InAll c n → Fits InAny c n
fits_in_any (Any cs) n f = f
fits_in_any (All cs) n f = (f.0, out_of (Members InAll cs) (λ k g. members_mono InAll cs k g) n f.1)
fits_in_any (Negated c) n f = f
fits_in_any (Defined t) n f = f
fits_in_any (Compares left how right) n f = f

fits_whole : (c : Condition) (n : ℕ) → Fits InAny c n → Fits Whole c n
fits_whole (Any cs) n f = (f.0, out_of (Members InAny cs) (λ k g. members_mono InAny cs k g) n f.1)
fits_whole (All cs) n f = f
fits_whole (Negated c) n f = f
fits_whole (Defined t) n f = f
fits_whole (Compares left how right) n f = f

in_parentheses : (c : Condition) (n : ℕ) → Fits Whole c n → Fits InAll c (suc n)
in_parentheses (Any cs) n f = (f.0, (n, refl, f.1))
in_parentheses (All cs) n f = (f.0, (n, refl, f.1))
in_parentheses (Negated c) n f = fits_mono InAll (Negated c) n f
in_parentheses (Defined t) n f = f
in_parentheses (Compares left how right) n f = f

-- ---- any spelling shows that the printed one fits

atom_fits : (n : ℕ) (c : Condition) (ts : List Tok) → atom c ts → GivenAll ts → Fits InAll c n
unfolding atom
atom_fits n c ts (inl m) g =
    let r = (sign_before (codes "confprop_defined") confprop_defined_real
    (sign_before (codes "(") open_real (sign_behind (codes ")") close_real text_prints))).prints
    m.from ts m.spelled g in
    subst (λ d. Fits InAll d n) m.value r.1.1.1.0
atom_fits n c ts (inr m) g =
    let w = m.spelled in
    let left = sum_prints.prints m.from.0 w.front w.first (given_front ts w.front w.back w.parts g)
    in
    let back = given_back ts w.front w.back w.parts g in
    let how = compare_prints.prints m.from.1.0 w.second.front w.second.first
    (given_front w.back w.second.front w.second.back w.second.parts back) in
    let right = sum_prints.prints m.from.1.1 w.second.back w.second.second
    (given_back w.back w.second.front w.second.back w.second.parts back) in
    subst (λ d. Fits InAll d n) m.value (left, how, right)

-- each member of a list that is spelled fits
each_fits : (l : Level) (U : Condition → Lang) (n : ℕ) (s : List ℕ)
    → ((c : Condition) (ts : List Tok) → U c ts → GivenAll ts → Fits l c n)
    → (cs : List Condition) (ts : List Tok) → each (λ c. sign s · U c) cs ts → GivenAll ts
    → Members l (conditions cs) n
each_fits l U n s fits [] ts w g = tt
each_fits l U n s fits (c ∷ cs) ts w g =
    let front = given_front ts w.front w.back w.parts g in (
      fits c w.first.back w.first.second
          (given_back w.front w.first.front w.first.back w.first.parts front),
      each_fits l U n s fits cs w.back w.second (given_back ts w.front w.back w.parts g),
    )

both_fits : (U : Condition → Lang) (n : ℕ)
    → ((c : Condition) (ts : List Tok) → U c ts → GivenAll ts → Fits InAll c n)
    → (c : Condition) (ts : List Tok) → both U c ts → GivenAll ts → Fits InAny c n
unfolding both
both_fits U n fits c ts m g = subst (λ d. Fits InAny d n) m.value (of m.from ts m.spelled g)
  where
    of : (cs : List Condition) (us : List Tok) → separated (Sign (codes "&&")) U cs us → GivenAll us
        → Fits InAny (gather all cs) n
    of [] us w h = absurd w
    of (d ∷ []) us w h = fits_in_any d n
        (fits d w.front w.first (given_front us w.front w.back w.parts h))
    of (d ∷ e ∷ more) us w h = (
      tt,
      (
        fits d w.front w.first (given_front us w.front w.back w.parts h),
        each_fits InAll U n (codes "&&") fits (e ∷ more) w.back w.second
            (given_back us w.front w.back w.parts h),
      ),
    )

cond_fits : (U : Condition → Lang) (n : ℕ)
    → ((c : Condition) (ts : List Tok) → U c ts → GivenAll ts → Fits InAll c n)
    → (c : Condition) (ts : List Tok) → cond U c ts → GivenAll ts → Fits Whole c n
unfolding cond
cond_fits U n fits c ts m g = subst (λ d. Fits Whole d n) m.value (of m.from ts m.spelled g)
  where
    of : (cs : List Condition) (us : List Tok) → separated (Sign (codes "||")) (both U) cs us
        → GivenAll us → Fits Whole (gather any cs) n
    of [] us w h = absurd w
    of (d ∷ []) us w h = fits_whole d n
        (both_fits U n fits d w.front w.first (given_front us w.front w.back w.parts h))
    of (d ∷ e ∷ more) us w h = (
      tt,
      (
        both_fits U n fits d w.front w.first (given_front us w.front w.back w.parts h),
        each_fits InAny (both U) n (codes "||") (both_fits U n fits) (e ∷ more) w.back w.second
            (given_back us w.front w.back w.parts h),
      ),
    )

unary_fits : (n : ℕ) (c : Condition) (ts : List Tok) → unary n c ts → GivenAll ts → Fits InAll c n
unfolding unary
unary_fits zero c ts w g = atom_fits zero c ts w g
unary_fits (suc n) c ts (inl m) g =
    subst (λ d. Fits InAll d (suc n)) m.value (
      n,
      refl,
      unary_fits n m.from m.spelled.back m.spelled.second
          (given_back ts m.spelled.front m.spelled.back m.spelled.parts g),
    )
unary_fits (suc n) c ts (inr (inl w)) g =
    in_parentheses c n (cond_fits (unary n) n (unary_fits n) c w.second.front w.second.first
    (given_front w.back w.second.front w.second.back w.second.parts
    (given_back ts w.front w.back w.parts g)))
unary_fits (suc n) c ts (inr (inr w)) g = atom_fits (suc n) c ts w g

-- ---- what fits is spelled by what is printed

append_none : {A : Type 0} (l : List A) → l ++ [] ≡ l
append_none [] = refl
append_none (a ∷ more) = ap (λ k. a ∷ k) (append_none more)

-- a unary condition alone is one of `&&`, and one of these alone is one of `||`
alone_both : (U : Condition → Lang) (c : Condition) (ts : List Tok) → U c ts → both U c ts
unfolding both
alone_both U c ts w =
    record {
      from = c ∷ [];
      value = refl;
      spelled =
          record { front = ts; back = []; parts = sym (append_none ts); first = w; second = refl };
    }

alone_cond : (U : Condition → Lang) (c : Condition) (ts : List Tok) → both U c ts → cond U c ts
unfolding cond
alone_cond U c ts w =
    record {
      from = c ∷ [];
      value = refl;
      spelled =
          record { front = ts; back = []; parts = sym (append_none ts); first = w; second = refl };
    }

abbrev at_level : Level → ℕ → Condition → Lang
at_level Whole n = cond (unary n)
at_level InAny n = both (unary n)
at_level InAll n = unary n

from_unary : (l : Level) (n : ℕ) (c : Condition) (ts : List Tok) → unary n c ts → at_level l n c ts
from_unary Whole n c ts w = alone_cond (unary n) c ts (alone_both (unary n) c ts w)
from_unary InAny n c ts w = alone_both (unary n) c ts w
from_unary InAll n c ts w = w

from_atom : (n : ℕ) (c : Condition) (ts : List Tok) → atom c ts → unary n c ts
unfolding unary
from_atom zero c ts w = w
from_atom (suc n) c ts w = inr (inr w)

in_signs : (n : ℕ) (c : Condition) (ts : List Tok) → cond (unary n) c ts
    → unary (suc n) c (Sign (codes "(") ∷ (ts ++ Sign (codes ")") ∷ []))
unfolding unary
in_signs n c ts w =
    inr (inl (record {
      front = Sign (codes "(") ∷ [];
      back = ts ++ Sign (codes ")") ∷ [];
      parts =
          refl;
      first = refl;
      second =
          record {
            front = ts;
            back = Sign (codes ")") ∷ [];
            parts = refl;
            first = w;
            second = refl;
          };
    }))

negate : (n : ℕ) (c : Condition) (ts : List Tok) → unary n c ts
    → unary (suc n) (Negated c) (Sign (codes "!") ∷ ts)
unfolding unary
negate n c ts w = inl
    (record {
      from = c;
      value = refl;
      spelled =
          record {
            front = Sign (codes "!") ∷ [];
            back = ts;
            parts = refl;
            first = refl;
            second = w;
          };
    })

defined_atom : (t : List ℕ)
    → atom (Defined t) (Sign (codes "confprop_defined") ∷ Sign (codes "(") ∷ Text t ∷ Sign
    (codes ")") ∷ [])
unfolding atom text
defined_atom t =
    inl (record {
      from = t;
      value = refl;
      spelled =
          record {
            front = Sign (codes "confprop_defined") ∷ [];
            back = Sign (codes "(") ∷ Text t ∷ Sign (codes ")") ∷ [];
            parts = refl;
            first = refl;
            second =
                record {
                  front = Sign (codes "(") ∷ [];
                  back = Text t ∷ Sign (codes ")") ∷ [];
                  parts = refl;
                  first = refl;
                  second =
                      record {
                        front = Text t ∷ [];
                        back = Sign (codes ")") ∷ [];
                        parts =
                            refl;
                        first = refl;
                        second = refl;
                      };
                };
          };
    })

compares_atom : (left : List Operand) (how : Compare) (right : List Operand) → SumFits left
    → HowFits how → SumFits right
    → atom (Compares left how right)
    (sum_tokens left ++ (Sign (compare_sign how) ∷ sum_tokens right))
unfolding atom
compares_atom left how right l h r =
    inr (record {
      from = (left, (how, right));
      value = refl;
      spelled =
          record {
            front = sum_tokens left;
            back = Sign (compare_sign how) ∷ sum_tokens right;
            parts = refl;
            first = l.0;
            second =
                record {
                  front = compare_tokens how;
                  back = sum_tokens right;
                  parts = refl;
                  first =
                      h.0;
                  second = r.0;
                };
          };
    })

abbrev listed : Conditions → List Condition
listed Nothing = []
listed (Also c cs) = c ∷ listed cs

listed_back : (cs : Conditions) → conditions (listed cs) ≡ cs
listed_back Nothing = refl
listed_back (Also c cs) = ap (λ x. Also c x) (listed_back cs)

-- what is printed at a level is a word there, and real
abbrev Shown : Level → ℕ → Condition → Type 0
Shown l n c = at_level l n c (show l c) × AllReal (show l c)

-- members, each behind a sign
abbrev ShownRow : (U : Condition → Lang) → List ℕ → Level → Conditions → Type 0
ShownRow U s l cs = each (λ c. sign s · U c) (listed cs) (others s l cs) × AllReal (others s l cs)

any_whole : (n : ℕ) (cs : Conditions) → Two cs
    → separated (Sign (codes "||")) (both (unary n)) (listed cs) (row (codes "||") InAny cs)
    → cond (unary n) (Any cs) (row (codes "||") InAny cs)
unfolding cond
any_whole n Nothing two w = absurd two
any_whole n (Also c Nothing) two w = absurd two
any_whole n (Also c (Also d more)) two w =
    record {
      from = c ∷ d ∷ listed more;
      value =
          ap (λ x. Any (Also c (Also d x))) (listed_back more);
      spelled = w;
    }

all_both : (n : ℕ) (cs : Conditions) → Two cs
    → separated (Sign (codes "&&")) (unary n) (listed cs) (row (codes "&&") InAll cs)
    → both (unary n) (All cs) (row (codes "&&") InAll cs)
unfolding both
all_both n Nothing two w = absurd two
all_both n (Also c Nothing) two w = absurd two
all_both n (Also c (Also d more)) two w =
    record {
      from = c ∷ d ∷ listed more;
      value =
          ap (λ x. All (Also c (Also d x))) (listed_back more);
      spelled = w;
    }

wrapped_real : (b : Bool) (ts : List Tok) → AllReal ts → AllReal (wrapped b ts)
wrapped_real true ts r = (open_real, all_append ts (Sign (codes ")") ∷ []) r (close_real, tt))
wrapped_real false ts r = r

mutual
  shown : (l : Level) (c : Condition) (n : ℕ) → Fits l c n → Shown l n c
  shown Whole (Any cs) n f =
      let r = row_any cs n f.0 f.1 in (any_whole n cs f.0 r.0, r.1)
  shown InAny (Any cs) n f =
      let r = row_any cs f.1.0 f.0 f.1.2 in (
        subst (λ k. both (unary k) (Any cs) (show InAny (Any cs))) (sym f.1.1)
            (alone_both (unary (suc f.1.0)) (Any cs) (show InAny (Any cs))
            (in_signs f.1.0 (Any cs) (row (codes "||") InAny cs) (any_whole f.1.0 cs f.0 r.0))),
        wrapped_real true (row (codes "||") InAny cs) r.1,
      )
  shown InAll (Any cs) n f =
      let r = row_any cs f.1.0 f.0 f.1.2 in (
        subst (λ k. unary k (Any cs) (show InAll (Any cs))) (sym f.1.1)
            (in_signs f.1.0 (Any cs) (row (codes "||") InAny cs) (any_whole f.1.0 cs f.0 r.0)),
        wrapped_real true (row (codes "||") InAny cs) r.1,
      )
  shown Whole (All cs) n f =
      let r = row_all cs n f.0 f.1 in
      (alone_cond (unary n) (All cs) (show Whole (All cs)) (all_both n cs f.0 r.0), r.1)
  shown InAny (All cs) n f =
      let r = row_all cs n f.0 f.1 in (all_both n cs f.0 r.0, r.1)
  shown InAll (All cs) n f =
      let r = row_all cs f.1.0 f.0 f.1.2 in (
        subst (λ k. unary k (All cs) (show InAll (All cs))) (sym f.1.1)
            (in_signs f.1.0 (All cs) (row (codes "&&") InAll cs)
            (alone_cond (unary f.1.0) (All cs) (row (codes "&&") InAll cs)
            (all_both f.1.0 cs f.0 r.0))),
        wrapped_real true (row (codes "&&") InAll cs) r.1,
      )
  shown l (Negated c) n f =
      let r = shown InAll c f.0 f.2 in (
        from_unary l n (Negated c) (show l (Negated c))
            (subst (λ k. unary k (Negated c) (Sign (codes "!") ∷ show InAll c)) (sym f.1)
            (negate f.0 c (show InAll c) r.0)),
        (not_real, r.1),
      )
  shown l (Defined t) n f = (
    from_unary l n (Defined t) (show l (Defined t))
        (from_atom n (Defined t) (show l (Defined t)) (defined_atom t)),
    (confprop_defined_real, (open_real, (f, (close_real, tt)))),
  )
  shown l (Compares left how right) n f = (
    from_unary l n (Compares left how right) (show l (Compares left how right))
        (from_atom n (Compares left how right) (show l (Compares left how right))
        (compares_atom left how right f.0 f.1 f.2)),
    all_append (sum_tokens left) (Sign (compare_sign how) ∷ sum_tokens right) f.0.1
        (f.1.1.0, f.2.1),
  )

  row_any : (cs : Conditions) (n : ℕ) → Two cs → Members InAny cs n
      → separated (Sign (codes "||")) (both (unary n)) (listed cs) (row (codes "||") InAny cs)
      × AllReal (row (codes "||") InAny cs)
  row_any Nothing n two f = absurd two
  row_any (Also c cs) n two f =
      let r = shown InAny c n f.0 in
      let t = others_any cs n f.1 in (
        record {
          front = show InAny c;
          back = others (codes "||") InAny cs;
          parts = refl;
          first =
              r.0;
          second = t.0;
        },
        all_append (show InAny c) (others (codes "||") InAny cs) r.1 t.1,
      )

  others_any : (cs : Conditions) (n : ℕ) → Members InAny cs n
      → ShownRow (both (unary n)) (codes "||") InAny cs
  others_any Nothing n f = (refl, tt)
  others_any (Also c cs) n f =
      let r = shown InAny c n f.0 in
      let t = others_any cs n f.1 in (
        record {
          front = Sign (codes "||") ∷ show InAny c;
          back =
              others (codes "||") InAny cs;
          parts = refl;
          first =
              record {
                front = Sign (codes "||") ∷ [];
                back = show InAny c;
                parts = refl;
                first =
                    refl;
                second = r.0;
              };
          second = t.0;
        },
        (or_real, all_append (show InAny c) (others (codes "||") InAny cs) r.1 t.1),
      )

  row_all : (cs : Conditions) (n : ℕ) → Two cs → Members InAll cs n
      → separated (Sign (codes "&&")) (unary n) (listed cs) (row (codes "&&") InAll cs)
      × AllReal (row (codes "&&") InAll cs)
  row_all Nothing n two f = absurd two
  row_all (Also c cs) n two f =
      let r = shown InAll c n f.0 in
      let t = others_all cs n f.1 in (
        record {
          front = show InAll c;
          back = others (codes "&&") InAll cs;
          parts = refl;
          first =
              r.0;
          second = t.0;
        },
        all_append (show InAll c) (others (codes "&&") InAll cs) r.1 t.1,
      )

  others_all : (cs : Conditions) (n : ℕ) → Members InAll cs n
      → ShownRow (unary n) (codes "&&") InAll cs
  others_all Nothing n f = (refl, tt)
  others_all (Also c cs) n f =
      let r = shown InAll c n f.0 in
      let t = others_all cs n f.1 in (
        record {
          front = Sign (codes "&&") ∷ show InAll c;
          back =
              others (codes "&&") InAll cs;
          parts = refl;
          first =
              record {
                front = Sign (codes "&&") ∷ [];
                back = show InAll c;
                parts = refl;
                first =
                    refl;
                second = r.0;
              };
          second = t.0;
        },
        (and_real, all_append (show InAll c) (others (codes "&&") InAll cs) r.1 t.1),
      )

-- any spelling of a condition within n nestings gives the printed one
pub condition_prints : (n : ℕ) → Prints (cond (unary n)) (show Whole)
condition_prints n = record {
  prints =
      λ c ts w g. shown Whole c n (cond_fits (unary n) n (unary_fits n) c ts w g);
}
