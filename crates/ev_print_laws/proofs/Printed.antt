-- What is printed spells what was spelled, rule by rule.
use Rattle.std.proofs.Common.{◌≡◌, ◌⊎◌, inl, inr, ℕ, List, [], ◌∷◌, ◌++◌, Option, Some, None, refl}
use Rattle.std.proofs.Common.{sym, ◌∙◌, ap, subst, codes}
use Rattle.ev_tree.specs.Grammar.{name, class, int, time, text, declared, event_attr, engine_attr}
use Rattle.ev_tree.specs.Grammar.{count, arrow_count, index, at, part, compare, operand, sum}
use Rattle.ev_tree.specs.Language.{Lang, nothing, Seq, ◌·◌, ◌∣◌, made, always, maybe, each}
use Rattle.ev_tree.specs.Language.{separated, sign, word}
use Rattle.ev_tree.specs.Printing.{behind, between, name_tokens, declared_tokens, event_attr_tokens}
use Rattle.ev_tree.specs.Printing.{engine_attr_tokens, count_token, arrow_count_tokens, at_tokens}
use Rattle.ev_tree.specs.Printing.{part_tokens, operand_tokens, sum_tokens, compare_sign}
use Rattle.ev_tree.specs.Tok.{Tok, Sign, Name, Class, Int, Time, Text}
use Rattle.ev_tree.specs.declared.tree.At.{At}
use Rattle.ev_tree.specs.declared.tree.At.TheVariants as ats
use Rattle.ev_tree.specs.declared.tree.Compare.{Compare}
use Rattle.ev_tree.specs.declared.tree.Compare.TheVariants as compares
use Rattle.ev_tree.specs.declared.tree.Count.{Count}
use Rattle.ev_tree.specs.declared.tree.Count.TheVariants as counts
use Rattle.ev_tree.specs.declared.tree.EngineAttr.TheVariants as engine_attrs
use Rattle.ev_tree.specs.declared.tree.EventAttr.TheVariants as event_attrs
use Rattle.ev_tree.specs.declared.tree.Operand.TheVariants as operands
use Rattle.ev_tree.specs.declared.tree.TimeWord.{TimeWord}
use Rattle.ev_print_laws.proofs.Real.{Real, Given, AllReal, GivenAll, all_append, given_front}
use Rattle.ev_print_laws.proofs.Real.{given_back, less_equal_real, greater_equal_real, equal_real}
use Rattle.ev_print_laws.proofs.Real.{not_equal_real, at_real, slash_real, equals_real, open_real}
use Rattle.ev_print_laws.proofs.Real.{close_real, open_square_real, close_square_real, less_real}
use Rattle.ev_print_laws.proofs.Real.{greater_real, plus_real, engine_real, confprop_real}
use Rattle.ev_print_laws.proofs.Real.{payloadprop_real, FITrate_word_real, retire_word_real}
use Rattle.ev_print_laws.proofs.Real.{within_word_real, N_word_real, T_word_real, trip_word_real}
use Rattle.ev_print_laws.proofs.Real.{A_word_real}

-- where some tokens spell a value and are real in what they carry, those that f gives spell it too,
-- and are real
pub record Prints {A : Type 0} (S : A → Lang) (f : A → List Tok) : Type 0 where
  pub prints : (a : A) (ts : List Tok) → S a ts → GivenAll ts → S a (f a) × AllReal (f a)

first_given : (t : Tok) (ts : List Tok) → ts ≡ t ∷ [] → GivenAll ts → Given t
first_given t ts e g = let h : GivenAll (t ∷ []) = subst GivenAll e g in h.0

-- ---- one token

pub name_prints : Prints name name_tokens
unfolding name
name_prints = record { prints = λ a ts s g. (refl, (first_given (Name a) ts s g, tt)) }

abbrev pub class_tokens : List ℕ → List Tok
class_tokens c = Class c ∷ []

pub class_prints : Prints class class_tokens
unfolding class
class_prints = record { prints = λ a ts s g. ((s.0, refl), (first_given (Class a) ts s.1 g, tt)) }

abbrev pub int_tokens : ℕ → List Tok
int_tokens n = Int n ∷ []

pub int_prints : Prints int int_tokens
unfolding int
int_prints = record { prints = λ a ts s g. (refl, (first_given (Int a) ts s g, tt)) }

abbrev pub time_tokens : TimeWord → List Tok
time_tokens w = Time w ∷ []

pub time_prints : Prints time time_tokens
unfolding time
time_prints = record { prints = λ a ts s g. (refl, (first_given (Time a) ts s g, tt)) }

abbrev pub text_tokens : List ℕ → List Tok
text_tokens t = Text t ∷ []

pub text_prints : Prints text text_tokens
unfolding text
text_prints = record { prints = λ a ts s g. (refl, (first_given (Text a) ts s g, tt)) }

-- ---- put together

pub sign_before : {A : Type 0} {S : A → Lang} {f : A → List Tok} (s : List ℕ) → Real (Sign s)
    → Prints S f → Prints (λ a. sign s · S a) (λ a. Sign s ∷ f a)
sign_before {A = A} {S = S} {f = f} s real p =
    record {
      prints = λ a ts w g.
          let r = p.prints a w.back w.second (given_back ts w.front w.back w.parts g) in (
            record { front = Sign s ∷ []; back = f a; parts = refl; first = refl; second = r.0 },
            (real, r.1),
          );
    }

pub word_before : {A : Type 0} {S : A → Lang} {f : A → List Tok} (s : List ℕ) → Real (Name s)
    → Prints S f → Prints (λ a. word s · S a) (λ a. Name s ∷ f a)
word_before {A = A} {S = S} {f = f} s real p =
    record {
      prints = λ a ts w g.
          let r = p.prints a w.back w.second (given_back ts w.front w.back w.parts g) in (
            record { front = Name s ∷ []; back = f a; parts = refl; first = refl; second = r.0 },
            (real, r.1),
          );
    }

pub sign_behind : {A : Type 0} {S : A → Lang} {f : A → List Tok} (s : List ℕ) → Real (Sign s)
    → Prints S f → Prints (λ a. S a · sign s) (λ a. f a ++ Sign s ∷ [])
sign_behind {A = A} {S = S} {f = f} s real p =
    record {
      prints = λ a ts w g.
          let r = p.prints a w.front w.first (given_front ts w.front w.back w.parts g) in (
            record { front = f a; back = Sign s ∷ []; parts = refl; first = r.0; second = refl },
            all_append (f a) (Sign s ∷ []) r.1 (real, tt),
          );
    }

pub pair_prints : {A B : Type 0} {S : A → Lang} {T : B → Lang} {f : A → List Tok} {h : B → List Tok}
    → Prints S f → Prints T h
    → Prints (λ (x : A × B). S x.0 · T x.1) (λ (x : A × B). f x.0 ++ h x.1)
pair_prints {A = A} {B = B} {S = S} {T = T} {f = f} {h = h} p q =
    record {
      prints = λ x ts w g.
          let r = p.prints x.0 w.front w.first (given_front ts w.front w.back w.parts g) in
          let t = q.prints x.1 w.back w.second (given_back ts w.front w.back w.parts g) in (
            record { front = f x.0; back = h x.1; parts = refl; first = r.0; second = t.0 },
            all_append (f x.0) (h x.1) r.1 t.1,
          );
    }

pub made_prints : {A B : Type 0} {S : A → Lang} {h : A → List Tok} (c : A → B) (f : B → List Tok)
    → ((a : A) → h a ≡ f (c a)) → Prints S h → Prints (made c S) f
made_prints {A = A} {B = B} {S = S} {h = h} c f e p =
    record {
      prints = λ b ts m g.
          let r = p.prints m.from ts m.spelled g in
          let same : h m.from ≡ f b = e m.from ∙ ap f m.value in (
            record { from = m.from; value = m.value; spelled = subst (λ l. S m.from l) same r.0 },
            subst AllReal same r.1,
          );
    }

pub always_prints : {B : Type 0} (b : B) (l : Lang) (f : B → List Tok) → l (f b) → AllReal (f b)
    → Prints (always b l) f
always_prints b l f w real =
    record {
      prints = λ c ts m g. (
        record { from = tt; value = m.value; spelled = subst (λ x. l (f x)) m.value w },
        subst (λ x. AllReal (f x)) m.value real,
      );
    }

pub either_prints : {A : Type 0} {S T : A → Lang} {f : A → List Tok} → Prints S f → Prints T f
    → Prints (λ a. S a ∣ T a) f
either_prints {A = A} {S = S} {T = T} {f = f} p q = record { prints = λ a ts s g. of a ts s g }
  where
    of : (a : A) (ts : List Tok) → S a ts ⊎ T a ts → GivenAll ts → (S a (f a) ⊎ T a (f a))
        × AllReal (f a)
    of a ts (inl s) g = let r = p.prints a ts s g in (inl r.0, r.1)
    of a ts (inr s) g = let r = q.prints a ts s g in (inr r.0, r.1)

pub maybe_prints : {A : Type 0} {S : A → Lang} {h : A → List Tok} (f : Option A → List Tok)
    → f None ≡ [] → ((a : A) → h a ≡ f (Some a)) → Prints S h → Prints (maybe S) f
maybe_prints {A = A} {S = S} {h = h} f none some p = record { prints = λ o ts s g. of o ts s g }
  where
    of : (o : Option A) (ts : List Tok) → maybe S o ts → GivenAll ts → maybe S o (f o)
        × AllReal (f o)
    of None ts s g = (none, subst AllReal (sym none) tt)
    of (Some a) ts s g = let r = p.prints a ts s g in
        (subst (λ l. S a l) (some a) r.0, subst AllReal (some a) r.1)

pub behind_prints : {A : Type 0} {S : A → Lang} {f : A → List Tok} (s : List ℕ) → Real (Sign s)
    → Prints S f → Prints (each (λ a. sign s · S a)) (behind s f)
behind_prints {A = A} {S = S} {f = f} s real p = record { prints = of }
  where
    of : (as' : List A) (ts : List Tok) → each (λ a. sign s · S a) as' ts → GivenAll ts
        → each (λ a. sign s · S a) as' (behind s f as') × AllReal (behind s f as')
    of [] ts w g = (refl, tt)
    of (a ∷ more) ts w g =
        let r = (sign_before s real p).prints a w.front w.first
        (given_front ts w.front w.back w.parts g) in
        let t = of more w.back w.second (given_back ts w.front w.back w.parts g) in (
          record {
            front = Sign s ∷ f a;
            back = behind s f more;
            parts = refl;
            first = r.0;
            second =
                t.0;
          },
          all_append (Sign s ∷ f a) (behind s f more) r.1 t.1,
        )

pub between_prints : {A : Type 0} {S : A → Lang} {f : A → List Tok} (s : List ℕ) → Real (Sign s)
    → Prints S f → Prints (separated (Sign s) S) (between s f)
between_prints {A = A} {S = S} {f = f} s real p = record { prints = of }
  where
    of : (as' : List A) (ts : List Tok) → separated (Sign s) S as' ts → GivenAll ts
        → separated (Sign s) S as' (between s f as') × AllReal (between s f as')
    of [] ts w g = absurd w
    of (a ∷ more) ts w g =
        let r = p.prints a w.front w.first (given_front ts w.front w.back w.parts g) in
        let t = (behind_prints s real p).prints more w.back w.second
        (given_back ts w.front w.back w.parts g) in (
          record { front = f a; back = behind s f more; parts = refl; first = r.0; second = t.0 },
          all_append (f a) (behind s f more) r.1 t.1,
        )

-- ---- rule by rule

pub declared_prints : Prints declared declared_tokens
unfolding declared
declared_prints =
    record {
      prints = λ d ts s g.
          (pair_prints class_prints
          (sign_before (codes "@") at_real
          (between_prints (codes "/") slash_real name_prints))).prints (d.class, d.names) ts s
          g;
    }

pub event_attr_prints : Prints event_attr event_attr_tokens
unfolding event_attr
event_attr_prints =
    either_prints (made_prints event_attrs.Fit event_attr_tokens (λ n. refl)
    (word_before (codes "FITrate") FITrate_word_real
    (sign_before (codes "=") equals_real int_prints)))
    (either_prints (made_prints event_attrs.Retire event_attr_tokens (λ n. refl)
    (word_before (codes "retire") retire_word_real
    (sign_before (codes "=") equals_real int_prints)))
    (either_prints (made_prints event_attrs.Engine event_attr_tokens (λ n. refl)
    (sign_before (codes "engine") engine_real
    (sign_before (codes "=") equals_real class_prints)))
    (made_prints event_attrs.Within event_attr_tokens (λ n. refl)
    (word_before (codes "within") within_word_real
    (sign_before (codes "=") equals_real time_prints)))))

pub engine_attr_prints : Prints engine_attr engine_attr_tokens
unfolding engine_attr
engine_attr_prints =
    either_prints (made_prints engine_attrs.N engine_attr_tokens (λ n. refl)
    (word_before (codes "N") N_word_real (sign_before (codes "=") equals_real int_prints)))
    (either_prints (made_prints engine_attrs.T engine_attr_tokens (λ n. refl)
    (word_before (codes "T") T_word_real (sign_before (codes "=") equals_real time_prints)))
    (made_prints engine_attrs.Trip engine_attr_tokens (λ n. refl)
    (word_before (codes "trip") trip_word_real
    (sign_before (codes "=") equals_real class_prints))))

abbrev pub count_tokens : Count → List Tok
count_tokens c = count_token c ∷ []

pub count_prints : Prints count count_tokens
unfolding count
count_prints =
    either_prints (made_prints counts.Number count_tokens (λ n. refl) int_prints)
    (always_prints counts.All (word (codes "A")) count_tokens refl (A_word_real, tt))

pub arrow_count_prints : Prints arrow_count arrow_count_tokens
unfolding arrow_count
arrow_count_prints =
    maybe_prints arrow_count_tokens refl (λ c. refl)
    (sign_before (codes "(") open_real (sign_behind (codes ")") close_real count_prints))

abbrev pub index_tokens : At → List Tok
index_tokens ats.Bare = []
index_tokens (ats.Down n) = Name n ∷ []
index_tokens (ats.Number n) = Int n ∷ []
index_tokens (ats.Across n) = []

pub index_prints : Prints index index_tokens
unfolding index
index_prints = either_prints (made_prints ats.Down index_tokens (λ n. refl) name_prints)
    (made_prints ats.Number index_tokens (λ n. refl) int_prints)

-- in brackets, only names and numbers are spelled
indexed : (a : At) (ts : List Tok) → index a ts
    → Sign (codes "[") ∷ (index_tokens a ++ Sign (codes "]") ∷ []) ≡ at_tokens a
unfolding index
indexed ats.Bare ts (inl m) = absurd (let e : ats.Down m.from ≡ ats.Bare = m.value in cc)
indexed ats.Bare ts (inr m) = absurd (let e : ats.Number m.from ≡ ats.Bare = m.value in cc)
indexed (ats.Down n) ts s = refl
indexed (ats.Number n) ts s = refl
indexed (ats.Across n) ts (inl m) = absurd (let e : ats.Down m.from ≡ ats.Across n = m.value in cc)
indexed (ats.Across n) ts (inr m) =
    absurd (let e : ats.Number m.from ≡ ats.Across n = m.value in cc)

bracket_prints : Prints (λ a. sign (codes "[") · index a · sign (codes "]")) at_tokens
bracket_prints =
    record {
      prints = λ a ts s g.
          let r = (sign_before (codes "[") open_square_real
          (sign_behind (codes "]") close_square_real index_prints)).prints a ts s g in
          let same = indexed a s.second.front s.second.first in (
            subst (λ l. Seq (sign (codes "[")) (index a · sign (codes "]")) l) same r.0,
            subst AllReal same r.1,
          );
    }

pub at_prints : Prints at at_tokens
unfolding at
at_prints =
    either_prints bracket_prints
    (either_prints (made_prints ats.Across at_tokens (λ n. refl)
    (sign_before (codes "<") less_real (sign_behind (codes ">") greater_real name_prints)))
    (always_prints ats.Bare nothing at_tokens refl tt))

pub part_prints : Prints part part_tokens
unfolding part
part_prints = record {
  prints =
      λ p ts s g. (pair_prints name_prints at_prints).prints (p.name, p.at) ts s g;
}

abbrev pub compare_tokens : Compare → List Tok
compare_tokens c = Sign (compare_sign c) ∷ []

pub compare_prints : Prints compare compare_tokens
unfolding compare
compare_prints =
    either_prints (always_prints compares.Eq (sign (codes "==")) compare_tokens refl
    (equal_real, tt))
    (either_prints (always_prints compares.Ne (sign (codes "!=")) compare_tokens refl
    (not_equal_real, tt))
    (either_prints (always_prints compares.Lt (sign (codes "<")) compare_tokens refl
    (less_real, tt))
    (either_prints (always_prints compares.Le (sign (codes "<=")) compare_tokens refl
    (less_equal_real, tt))
    (either_prints (always_prints compares.Gt (sign (codes ">")) compare_tokens refl
    (greater_real, tt))
    (always_prints compares.Ge (sign (codes ">=")) compare_tokens refl (greater_equal_real, tt))))))

pub operand_prints : Prints operand operand_tokens
unfolding operand
operand_prints =
    either_prints (made_prints operands.Int operand_tokens (λ n. refl) int_prints)
    (either_prints (made_prints operands.Name operand_tokens (λ n. refl) name_prints)
    (either_prints (made_prints operands.Confprop operand_tokens (λ n. refl)
    (sign_before (codes "confprop") confprop_real
    (sign_before (codes "(") open_real (sign_behind (codes ")") close_real text_prints))))
    (either_prints (made_prints operands.Payloadprop operand_tokens (λ n. refl)
    (sign_before (codes "payloadprop") payloadprop_real
    (sign_before (codes "(") open_real (sign_behind (codes ")") close_real text_prints))))
    (made_prints operands.Text operand_tokens (λ n. refl) text_prints))))

pub sum_prints : Prints sum sum_tokens
unfolding sum
sum_prints = between_prints (codes "+") plus_real operand_prints
