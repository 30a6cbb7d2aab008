-- The law of each rule of the grammar.
use Rattle.std.proofs.Common.{◌≡◌, ◌⊎◌, inl, inr, ℕ, zero, suc, Bool, true, false, List, [], ◌∷◌}
use Rattle.std.proofs.Common.{◌++◌, Option, Some, None, if◌then◌else◌, refl, ◌∙◌, ap, subst, IsTrue}
use Rattle.std.proofs.Common.{codes}
use Rattle.std.proofs.lemmas.Option.{same_Some}
use Rattle.fm_name.specs.Class.{is_class, are_components, is_component}
use Rattle.ev_tree.specs.Condition.{Condition, Negated, Defined, any, all}
use Rattle.ev_tree.specs.Grammar.{name, class, int, time, text, declared, event_attr, engine_attr}
use Rattle.ev_tree.specs.Grammar.{count, arrow_count, index, at, part, compare, operand, sum}
use Rattle.ev_tree.specs.Grammar.{gather, comparing, atom, both, cond, unary, condition, pattern}
use Rattle.ev_tree.specs.Grammar.{side, event_of, engine_of, prop_of, statement, file}
use Rattle.ev_tree.specs.Language.{Lang, nothing, Seq, ◌·◌, ◌∣◌, made, always, maybe, each}
use Rattle.ev_tree.specs.Language.{separated, sign}
use Rattle.ev_tree.specs.Tok.{Tok, Sign, Name, Class, Int, Time, Text, Odd, same_bytes}
use Rattle.ev_tree.specs.declared.tree.At.TheVariants as ats
use Rattle.ev_tree.specs.declared.tree.Compare.{Compare}
use Rattle.ev_tree.specs.declared.tree.Compare.TheVariants as compares
use Rattle.ev_tree.specs.declared.tree.Count.{Count}
use Rattle.ev_tree.specs.declared.tree.Count.TheVariants as counts
use Rattle.ev_tree.specs.declared.tree.EngineAttr.TheVariants as engine_attrs
use Rattle.ev_tree.specs.declared.tree.EventAttr.TheVariants as event_attrs
use Rattle.ev_tree.specs.declared.tree.Operand.TheVariants as operands
use Rattle.ev_tree.specs.declared.tree.TimeWord.{TimeWord}
use Rattle.ev_tree.specs.declared.tree.Unit.TheVariants as units
use Rattle.ev_parse.specs.Read.{Got, opens_at, is, is_word, closed_at, more_at}
use Rattle.ev_parse.specs.Reading.{pick_name, pick_class, pick_int, pick_time, pick_text}
use Rattle.ev_parse.specs.Reading.{comparison, pick_compare, is_int, opens_name, any_token, name_at}
use Rattle.ev_parse.specs.Reading.{class_at, int_at, time_at, text_at, compare_at, declared_of}
use Rattle.ev_parse.specs.Reading.{names_at, declared_at, event_attr_at, engine_attr_at}
use Rattle.ev_parse.specs.Reading.{all_counted, count_at, arrow_count_at, index_at, at_at}
use Rattle.ev_parse.specs.Reading.{named_part}
use Rattle.ev_parse.specs.Reading.{part_at, parts_at, call_at, operand_at, sum_at, compares_at}
use Rattle.ev_parse.specs.Reading.{atom_at, all_of_at, any_of_at, unary_at, condition_at}
use Rattle.ev_parse.specs.Reading.{pattern_of, guard_at, pattern_at, side_at, event_at, engine_at}
use Rattle.ev_parse.specs.Reading.{prop_at, statement_at, file_at}
use Rattle.ev_parse.proofs.Laws.{Law, Begins, Avoids, mapped, making, token_law, pure_law, joined}
use Rattle.ev_parse.proofs.Laws.{either}
use Rattle.ev_parse.proofs.Many.{many_law}
use Rattle.ev_parse.proofs.Rules.{among, among_first, among_rest, same_true, Starts, begun, avoided}
use Rattle.ev_parse.proofs.Rules.{by_token, by_one, by_front, by_head, by_made, by_always}
use Rattle.ev_parse.proofs.Rules.{by_either, by_separated, word_law, avoids_none, after, after_word}
use Rattle.ev_parse.proofs.Rules.{closed, optional, avoids_maybe, by_maybe, more, by_sign}

never : Tok → Bool
never t = false

-- ---- one token

name_back : (t : Tok) (a : List ℕ) → pick_name t ≡ Some a → t ∷ [] ≡ Name a ∷ []
name_back (Name n) a e = ap (λ x. Name x ∷ []) (same_Some n a e)
name_back (Sign b) a e = absurd (cc)
name_back (Class b) a e = absurd (cc)
name_back (Int n) a e = absurd (cc)
name_back (Time w) a e = absurd (cc)
name_back (Text b) a e = absurd (cc)
name_back Odd a e = absurd (cc)

pub name_law : (g : Tok → Bool) → Law name_at name g
unfolding name_at name
name_law g = token_law pick_name name g (λ v front e. (Name v, e, refl)) name_back (120 ∷ [])
    (Name (120 ∷ []) ∷ []) refl

class_if : (b : Bool) (c a : List ℕ) → is_class c ≡ b → (if b then Some c else None) ≡ Some a
    → IsTrue (is_class a) × (Class c ∷ [] ≡ Class a ∷ [])
class_if true c a is e =
    let same_one : c ≡ a = same_Some c a e in
    (subst (λ x. IsTrue (is_class x)) same_one is, ap (λ x. Class x ∷ []) same_one)
class_if false c a is e = absurd (cc)

class_back : (t : Tok) (a : List ℕ) → pick_class t ≡ Some a → IsTrue (is_class a)
    × (t ∷ [] ≡ Class a ∷ [])
class_back (Class c) a e = class_if (is_class c) c a refl e
class_back (Name n) a e = absurd (cc)
class_back (Sign b) a e = absurd (cc)
class_back (Int n) a e = absurd (cc)
class_back (Time w) a e = absurd (cc)
class_back (Text b) a e = absurd (cc)
class_back Odd a e = absurd (cc)

sample_class : IsTrue (is_class (codes "a.a"))
unfolding is_class are_components is_component
sample_class = refl

pub class_law : (g : Tok → Bool) → Law class_at class g
unfolding class_at class
class_law g =
    token_law pick_class class g
    (λ v front s. (Class v, s.1, ap (λ b. if b then Some v else None) s.0)) class_back
    (codes "a.a") (Class (codes "a.a") ∷ []) (sample_class, refl)

int_back : (t : Tok) (a : ℕ) → pick_int t ≡ Some a → t ∷ [] ≡ Int a ∷ []
int_back (Int n) a e = ap (λ x. Int x ∷ []) (same_Some n a e)
int_back (Name n) a e = absurd (cc)
int_back (Sign b) a e = absurd (cc)
int_back (Class b) a e = absurd (cc)
int_back (Time w) a e = absurd (cc)
int_back (Text b) a e = absurd (cc)
int_back Odd a e = absurd (cc)

pub int_law : (g : Tok → Bool) → Law int_at int g
unfolding int_at int
int_law g = token_law pick_int int g (λ v front e. (Int v, e, refl)) int_back 0 (Int 0 ∷ []) refl

time_back : (t : Tok) (a : TimeWord) → pick_time t ≡ Some a → t ∷ [] ≡ Time a ∷ []
time_back (Time w) a e = ap (λ x. Time x ∷ []) (same_Some w a e)
time_back (Name n) a e = absurd (cc)
time_back (Sign b) a e = absurd (cc)
time_back (Class b) a e = absurd (cc)
time_back (Int n) a e = absurd (cc)
time_back (Text b) a e = absurd (cc)
time_back Odd a e = absurd (cc)

a_time : TimeWord
a_time = record { number = 0; unit = units.S }

pub time_law : (g : Tok → Bool) → Law time_at time g
unfolding time_at time
time_law g = token_law pick_time time g (λ v front e. (Time v, e, refl)) time_back a_time
    (Time a_time ∷ []) refl

text_back : (t : Tok) (a : List ℕ) → pick_text t ≡ Some a → t ∷ [] ≡ Text a ∷ []
text_back (Text x) a e = ap (λ y. Text y ∷ []) (same_Some x a e)
text_back (Name n) a e = absurd (cc)
text_back (Sign b) a e = absurd (cc)
text_back (Class b) a e = absurd (cc)
text_back (Int n) a e = absurd (cc)
text_back (Time w) a e = absurd (cc)
text_back Odd a e = absurd (cc)

pub text_law : (g : Tok → Bool) → Law text_at text g
unfolding text_at text
text_law g = token_law pick_text text g (λ v front e. (Text v, e, refl)) text_back [] (Text [] ∷ [])
    refl

-- ---- comparisons

compare_to : (c : Compare) (front : List Tok) → compare c front → (t : Tok) × (front ≡ t ∷ [])
    × (pick_compare t ≡ Some c)
unfolding compare
compare_to c front (inl m) = (Sign (codes "=="), m.spelled, ap (λ x. Some x) m.value)
compare_to c front (inr (inl m)) = (Sign (codes "!="), m.spelled, ap (λ x. Some x) m.value)
compare_to c front (inr (inr (inl m))) = (Sign (codes "<"), m.spelled, ap (λ x. Some x) m.value)
compare_to c front (inr (inr (inr (inl m)))) =
    (Sign (codes "<="), m.spelled, ap (λ x. Some x) m.value)
compare_to c front (inr (inr (inr (inr (inl m))))) =
    (Sign (codes ">"), m.spelled, ap (λ x. Some x) m.value)
compare_to c front (inr (inr (inr (inr (inr m))))) =
    (Sign (codes ">="), m.spelled, ap (λ x. Some x) m.value)

-- either way of a choice gives P
choose : {A P : Type 0} (b : Bool) (x y z : A) → (if b then x else y) ≡ z → (b ≡ true → x ≡ z → P)
    → (b ≡ false → y ≡ z → P) → P
choose true x y z e first second = first refl e
choose false x y z e first second = second refl e

spelt : (b s : List ℕ) (x c : Compare) → same_bytes b s ≡ true → Some x ≡ Some c
    → always x (sign s) c (Sign b ∷ [])
spelt b s x c e v = record {
  from = tt;
  value = same_Some x c v;
  spelled =
      ap (λ l. Sign l ∷ []) (same_true b s e);
}

compare_sign : (b : List ℕ) (c : Compare) → comparison b ≡ Some c → compare c (Sign b ∷ [])
unfolding compare
compare_sign b c e =
    choose (same_bytes b (codes "==")) (Some compares.Eq) _ (Some c) e
    (λ i v. inl (spelt b (codes "==") compares.Eq c i v)) (λ _ f.
    choose (same_bytes b (codes "!=")) (Some compares.Ne) _ (Some c) f
    (λ i v. inr (inl (spelt b (codes "!=") compares.Ne c i v))) (λ _ g.
    choose (same_bytes b (codes "<")) (Some compares.Lt) _ (Some c) g
    (λ i v. inr (inr (inl (spelt b (codes "<") compares.Lt c i v)))) (λ _ h.
    choose (same_bytes b (codes "<=")) (Some compares.Le) _ (Some c) h
    (λ i v. inr (inr (inr (inl (spelt b (codes "<=") compares.Le c i v))))) (λ _ j.
    choose (same_bytes b (codes ">")) (Some compares.Gt) _ (Some c) j
    (λ i v. inr (inr (inr (inr (inl (spelt b (codes ">") compares.Gt c i v)))))) (λ _ k.
    choose (same_bytes b (codes ">=")) (Some compares.Ge) None (Some c) k
    (λ i v. inr (inr (inr (inr (inr (spelt b (codes ">=") compares.Ge c i v)))))) (λ _ l.
    absurd (cc)))))))

compare_back : (t : Tok) (c : Compare) → pick_compare t ≡ Some c → compare c (t ∷ [])
compare_back (Sign b) c e = compare_sign b c e
compare_back (Name n) c e = absurd (cc)
compare_back (Class b) c e = absurd (cc)
compare_back (Int n) c e = absurd (cc)
compare_back (Time w) c e = absurd (cc)
compare_back (Text b) c e = absurd (cc)
compare_back Odd c e = absurd (cc)

pub compare_law : (g : Tok → Bool) → Law compare_at compare g
unfolding compare_at compare
compare_law g = token_law pick_compare compare g compare_to compare_back compares.Eq
    (Sign (codes "==") ∷ []) (inl (record { from = tt; value = refl; spelled = refl }))

-- ---- declarations and attributes

name_starts : {test : Tok → Bool} {v : Bool} → ((n : List ℕ) → test (Name n) ≡ v)
    → Starts test v name
unfolding name
name_starts e = by_token Name e

class_starts : {test : Tok → Bool} {v : Bool} → ((n : List ℕ) → test (Class n) ≡ v)
    → Starts test v class
unfolding class
class_starts e = record { first = λ c front s. (Class c, [], s.1, e c) }

int_starts : {test : Tok → Bool} {v : Bool} → ((n : ℕ) → test (Int n) ≡ v) → Starts test v int
unfolding int
int_starts e = by_token Int e

text_starts : {test : Tok → Bool} {v : Bool} → ((n : List ℕ) → test (Text n) ≡ v)
    → Starts test v text
unfolding text
text_starts e = by_token Text e

pub names_law : Law names_at (separated (Sign (codes "/")) name) (among (codes "/" ∷ []))
unfolding names_at
names_law = by_sign (codes "/") [] refl (name_law (among []))

pub declared_law : Law declared_at declared (among (codes "/" ∷ []))
unfolding declared_at declared
declared_law =
    mapped declared_of declared (λ a ts s. s) (λ d ts s. ((d.class, d.names), refl, s))
    (joined (avoids_none _ _) (class_law (λ t. false)) (after (codes "@") names_law))

pub event_attr_law : Law event_attr_at event_attr (among [])
unfolding event_attr_at event_attr
event_attr_law =
    either (is_word (codes "FITrate"))
    (begun (by_made event_attrs.Fit (by_one (Name (codes "FITrate")) refl)))
    (avoided (by_either (by_made event_attrs.Retire (by_one (Name (codes "retire")) refl))
    (by_either (by_made event_attrs.Engine (by_one (Sign (codes "engine")) refl))
    (by_made event_attrs.Within (by_one (Name (codes "within")) refl)))))
    (making event_attrs.Fit (after_word (codes "FITrate") (after (codes "=") (int_law (among [])))))
    (either (is_word (codes "retire"))
    (begun (by_made event_attrs.Retire (by_one (Name (codes "retire")) refl)))
    (avoided (by_either (by_made event_attrs.Engine (by_one (Sign (codes "engine")) refl))
    (by_made event_attrs.Within (by_one (Name (codes "within")) refl))))
    (making event_attrs.Retire
    (after_word (codes "retire") (after (codes "=") (int_law (among [])))))
    (either (is (codes "engine"))
    (begun (by_made event_attrs.Engine (by_one (Sign (codes "engine")) refl)))
    (avoided (by_made event_attrs.Within (by_one (Name (codes "within")) refl)))
    (making event_attrs.Engine (after (codes "engine") (after (codes "=") (class_law (among [])))))
    (making event_attrs.Within
    (after_word (codes "within") (after (codes "=") (time_law (among [])))))))

pub engine_attr_law : Law engine_attr_at engine_attr (among [])
unfolding engine_attr_at engine_attr
engine_attr_law =
    either (is_word (codes "N")) (begun (by_made engine_attrs.N (by_one (Name (codes "N")) refl)))
    (avoided (by_either (by_made engine_attrs.T (by_one (Name (codes "T")) refl))
    (by_made engine_attrs.Trip (by_one (Name (codes "trip")) refl))))
    (making engine_attrs.N (after_word (codes "N") (after (codes "=") (int_law (among [])))))
    (either (is_word (codes "T")) (begun (by_made engine_attrs.T (by_one (Name (codes "T")) refl)))
    (avoided (by_made engine_attrs.Trip (by_one (Name (codes "trip")) refl)))
    (making engine_attrs.T (after_word (codes "T") (after (codes "=") (time_law (among [])))))
    (making engine_attrs.Trip
    (after_word (codes "trip") (after (codes "=") (class_law (among []))))))

-- ---- arrows and parts

pub count_law : Law count_at count (among [])
unfolding count_at count
count_law =
    either is_int (begun (by_made counts.Number (int_starts (λ n. refl))))
    (avoided (by_always counts.All (Name (codes "A")) refl))
    (making counts.Number (int_law (among [])))
    (making all_counted (word_law (codes "A") (among [])))

pub arrow_count_law : Law arrow_count_at arrow_count (among (codes "(" ∷ []))
unfolding arrow_count_at arrow_count
arrow_count_law =
    optional (is (codes "(")) (λ t e. among_first (codes "(") [] t e)
    (by_one (Sign (codes "(")) refl)
    (after (codes "(") (closed (codes ")") (among (codes "(" ∷ [])) refl count_law))

pub index_law : Law index_at index (among [])
unfolding index_at index
index_law =
    either opens_name (begun (by_made ats.Down (name_starts (λ n. refl))))
    (avoided (by_made ats.Number (int_starts (λ n. refl))))
    (making ats.Down (name_law (among []))) (making ats.Number (int_law (among [])))

-- at most one of two signs goes on
less_first : (a b : List ℕ) (t : Tok) → among (a ∷ b ∷ []) t ≡ false → is a t ≡ false
less_first a b t e = among_first a (b ∷ []) t e

less_second : (a b : List ℕ) (t : Tok) → among (a ∷ b ∷ []) t ≡ false → is b t ≡ false
less_second a b t e = among_first b [] t (among_rest a (b ∷ []) t e)

-- the value of nothing is avoided by what would go on
avoids_bare : {B : Type 0} (b : B) (test g : Tok → Bool)
    → ((t : Tok) → g t ≡ false → test t ≡ false) → Avoids test (always b nothing) g
avoids_bare b test g less =
    record {
      first = λ v front rest m stop. ap (λ l. opens_at test (l ++ rest)) m.spelled
          ∙ by_rest rest stop;
    }
  where
    by_rest : (rest : List Tok) → opens_at g rest ≡ false → opens_at test rest ≡ false
    by_rest [] e = refl
    by_rest (t ∷ ts) e = less t e

avoids_either : {A : Type 0} {test g : Tok → Bool} {S T : A → Lang} → Avoids test S g
    → Avoids test T g → Avoids test (λ a. S a ∣ T a) g
avoids_either {A = A} {test = test} {g = g} {S = S} {T = T} one_way other =
    record { first = λ v front rest s stop. of v front rest s stop }
  where
    of : (v : A) (front rest : List Tok) → S v front ⊎ T v front → opens_at g rest ≡ false
        → opens_at test (front ++ rest) ≡ false
    of v front rest (inl s) stop = one_way.first v front rest s stop
    of v front rest (inr s) stop = other.first v front rest s stop

abbrev at_signs : List (List ℕ)
at_signs = codes "[" ∷ codes "<" ∷ []

pub at_law : Law at_at at (among at_signs)
unfolding at_at at
at_law =
    either (is (codes "[")) (begun (by_one (Sign (codes "[")) refl))
    (avoids_either (avoided (by_made ats.Across (by_one (Sign (codes "<")) refl)))
    (avoids_bare ats.Bare (is (codes "[")) (among at_signs)
    (less_first (codes "[") (codes "<"))))
    (after (codes "[") (closed (codes "]") (among at_signs) refl index_law))
    (either (is (codes "<")) (begun (by_made ats.Across (by_one (Sign (codes "<")) refl)))
    (avoids_bare ats.Bare (is (codes "<")) (among at_signs) (less_second (codes "[") (codes "<")))
    (making ats.Across (after (codes "<")
    (closed (codes ">") (among at_signs) refl (name_law (among [])))))
    (pure_law ats.Bare (among at_signs)))

pub part_law : Law part_at part (among at_signs)
unfolding part_at part
part_law = mapped named_part part (λ a ts s. s) (λ p ts s. ((p.name, p.at), refl, s))
    (joined (avoids_none _ _) (name_law (λ t. false)) at_law)

abbrev parts_signs : List (List ℕ)
parts_signs = codes "/" ∷ at_signs

pub parts_law : Law parts_at (separated (Sign (codes "/")) part) (among parts_signs)
unfolding parts_at
parts_law = by_sign (codes "/") at_signs refl part_law

-- ---- conditions

-- a reserved word, and a text in parentheses
call_law : (w : List ℕ) (g : Tok → Bool)
    → Law (call_at w) (λ t. sign w · sign (codes "(") · text t · sign (codes ")")) g
unfolding call_at
call_law w g = after w (after (codes "(") (closed (codes ")") g refl (text_law (λ t. false))))

pub operand_law : Law operand_at operand (among [])
unfolding operand_at operand
operand_law =
    either is_int (begun (by_made operands.Int (int_starts (λ n. refl))))
    (avoided (by_either (by_made operands.Name (name_starts (λ n. refl)))
    (by_either (by_made operands.Confprop (by_one (Sign (codes "confprop")) refl))
    (by_either (by_made operands.Payloadprop (by_one (Sign (codes "payloadprop")) refl))
    (by_made operands.Text (text_starts (λ n. refl)))))))
    (making operands.Int (int_law (among [])))
    (either opens_name (begun (by_made operands.Name (name_starts (λ n. refl))))
    (avoided (by_either (by_made operands.Confprop (by_one (Sign (codes "confprop")) refl))
    (by_either (by_made operands.Payloadprop (by_one (Sign (codes "payloadprop")) refl))
    (by_made operands.Text (text_starts (λ n. refl))))))
    (making operands.Name (name_law (among [])))
    (either (is (codes "confprop"))
    (begun (by_made operands.Confprop (by_one (Sign (codes "confprop")) refl)))
    (avoided (by_either (by_made operands.Payloadprop (by_one (Sign (codes "payloadprop")) refl))
    (by_made operands.Text (text_starts (λ n. refl)))))
    (making operands.Confprop (call_law (codes "confprop") (among [])))
    (either (is (codes "payloadprop"))
    (begun (by_made operands.Payloadprop (by_one (Sign (codes "payloadprop")) refl)))
    (avoided (by_made operands.Text (text_starts (λ n. refl))))
    (making operands.Payloadprop (call_law (codes "payloadprop") (among [])))
    (making operands.Text (text_law (among []))))))

-- no operand begins with a sign other than its two words
operand_starts : {test : Tok → Bool} {v : Bool} → ((n : ℕ) → test (Int n) ≡ v)
    → ((n : List ℕ) → test (Name n) ≡ v) → ((n : List ℕ) → test (Text n) ≡ v)
    → test (Sign (codes "confprop")) ≡ v → test (Sign (codes "payloadprop")) ≡ v
    → Starts test v operand
unfolding operand
operand_starts i n t c p =
    by_either (by_made operands.Int (int_starts i))
    (by_either (by_made operands.Name (name_starts n))
    (by_either (by_made operands.Confprop (by_one (Sign (codes "confprop")) c))
    (by_either (by_made operands.Payloadprop (by_one (Sign (codes "payloadprop")) p))
    (by_made operands.Text (text_starts t)))))

abbrev sum_signs : List (List ℕ)
sum_signs = codes "+" ∷ []

pub sum_law : Law sum_at sum (among sum_signs)
unfolding sum_at sum
sum_law = by_sign (codes "+") [] refl operand_law

sum_starts : {test : Tok → Bool} {v : Bool} → ((n : ℕ) → test (Int n) ≡ v)
    → ((n : List ℕ) → test (Name n) ≡ v) → ((n : List ℕ) → test (Text n) ≡ v)
    → test (Sign (codes "confprop")) ≡ v → test (Sign (codes "payloadprop")) ≡ v → Starts test v sum
unfolding sum
sum_starts i n t c p = by_separated (Sign (codes "+")) (operand_starts i n t c p)

compare_starts : Starts (among sum_signs) false compare
unfolding compare
compare_starts =
    by_either (by_always compares.Eq (Sign (codes "==")) refl)
    (by_either (by_always compares.Ne (Sign (codes "!=")) refl)
    (by_either (by_always compares.Lt (Sign (codes "<")) refl)
    (by_either (by_always compares.Le (Sign (codes "<=")) refl)
    (by_either (by_always compares.Gt (Sign (codes ">")) refl)
    (by_always compares.Ge (Sign (codes ">=")) refl)))))

pub compares_law : Law compares_at (made comparing (λ p. sum p.0 · compare p.1.0 · sum p.1.1))
    (among sum_signs)
unfolding compares_at
compares_law =
    making comparing (joined (avoided (by_front _ compare_starts)) sum_law
    (joined (avoids_none _ _) (compare_law (λ t. false)) sum_law))

pub atom_law : Law atom_at atom (among sum_signs)
unfolding atom_at atom
atom_law =
    either (is (codes "confprop_defined"))
    (begun (by_made Defined (by_one (Sign (codes "confprop_defined")) refl)))
    (avoided (by_made comparing
    (by_front _ (sum_starts (λ n. refl) (λ n. refl) (λ n. refl) refl refl))))
    (making Defined (call_law (codes "confprop_defined") (among sum_signs)))
    compares_law

atom_starts : {test : Tok → Bool} {v : Bool} → ((n : ℕ) → test (Int n) ≡ v)
    → ((n : List ℕ) → test (Name n) ≡ v) → ((n : List ℕ) → test (Text n) ≡ v)
    → test (Sign (codes "confprop")) ≡ v → test (Sign (codes "payloadprop")) ≡ v
    → test (Sign (codes "confprop_defined")) ≡ v → Starts test v atom
unfolding atom
atom_starts i n t c p d =
    by_either (by_made Defined (by_one (Sign (codes "confprop_defined")) d))
    (by_made comparing (by_front _ (sum_starts i n t c p)))

abbrev both_signs : List (List ℕ)
both_signs = codes "&&" ∷ sum_signs

abbrev cond_signs : List (List ℕ)
cond_signs = codes "||" ∷ both_signs

pub both_law : {u : List Tok → Got Condition} {U : Condition → Lang} → Law u U (among sum_signs)
    → Law (all_of_at u) (both U) (among both_signs)
unfolding all_of_at both
both_law l = making (gather all) (by_sign (codes "&&") sum_signs refl l)

pub cond_law : {u : List Tok → Got Condition} {U : Condition → Lang} → Law u U (among sum_signs)
    → Law (any_of_at u) (cond U) (among cond_signs)
unfolding any_of_at cond
cond_law l = making (gather any) (by_sign (codes "||") both_signs refl (both_law l))

pub unary_law : (n : ℕ) → Law (unary_at n) (unary n) (among sum_signs)
unfolding unary_at unary
unary_law zero = atom_law
unary_law (suc n) =
    either (is (codes "!")) (begun (by_made Negated (by_one (Sign (codes "!")) refl)))
    (avoided (by_either (by_one (Sign (codes "(")) refl)
    (atom_starts (λ n. refl) (λ n. refl) (λ n. refl) refl refl refl)))
    (making Negated (after (codes "!") (unary_law n)))
    (either (is (codes "(")) (begun (by_one (Sign (codes "(")) refl))
    (avoided (atom_starts (λ n. refl) (λ n. refl) (λ n. refl) refl refl refl))
    (after (codes "(") (closed (codes ")") (among sum_signs) refl (cond_law (unary_law n))))
    atom_law)

pub condition_law : Law condition_at condition (among cond_signs)
unfolding condition_at condition
condition_law = cond_law (unary_law 64)

-- ---- patterns and statements

abbrev pattern_signs : List (List ℕ)
pattern_signs = codes "{" ∷ parts_signs

pub guard_law : Law guard_at (maybe (λ c. sign (codes "{") · condition c · sign (codes "}")))
    (among pattern_signs)
unfolding guard_at
guard_law =
    optional (is (codes "{")) (λ t e. among_first (codes "{") parts_signs t e)
    (by_one (Sign (codes "{")) refl)
    (after (codes "{") (closed (codes "}") (among pattern_signs) refl condition_law))

pub pattern_law : Law pattern_at pattern (among pattern_signs)
unfolding pattern_at pattern
pattern_law =
    mapped pattern_of pattern (λ a ts s. s) (λ p ts s. ((p.class, (p.parts, p.cond)), refl, s))
    (joined (avoids_none _ _) (class_law (λ t. false)) (after (codes "@")
    (joined (avoids_maybe (among parts_signs) (among pattern_signs)
    (λ t e. among_rest (codes "{") parts_signs t e) (by_one (Sign (codes "{")) refl)) parts_law
    guard_law)))

abbrev side_signs : List (List ℕ)
side_signs = codes "," ∷ pattern_signs

pub side_law : Law side_at side (among side_signs)
unfolding side_at side
side_law = by_sign (codes ",") pattern_signs refl pattern_law

-- what stands between a declaration and the end of its statement begins with `,` or `;`
attrs_starts : {A : Type 0} {test : Tok → Bool} {v : Bool} (S : A → Lang)
    → test (Sign (codes ",")) ≡ v → test (Sign (codes ";")) ≡ v
    → Starts test v (λ as'. each (λ a. sign (codes ",") · S a) as' · sign (codes ";"))
attrs_starts {A = A} {test = test} {v = v} S comma semi =
    record { first = λ as' front s. of as' front s }
  where
    of : (as' : List A) (front : List Tok)
        → Seq (each (λ a. sign (codes ",") · S a) as') (sign (codes ";")) front → (t : Tok)
        × (others : List Tok) × (front ≡ t ∷ others) × (test t ≡ v)
    of [] front s = (Sign (codes ";"), [], s.parts ∙ ap (λ l. l ++ s.back) s.first ∙ s.second, semi)
    of (a ∷ others) front s = (
      Sign (codes ","),
      (s.first.first.back ++ s.first.back) ++ s.back,
      s.parts ∙ ap (λ l. l ++ s.back)
          (s.first.parts ∙ ap (λ l. l ++ s.first.back)
          (s.first.first.parts ∙ ap (λ l. l ++ s.first.first.back) s.first.first.first)),
      comma,
    )

pub attrs_law : {A : Type 0} {p : List Tok → Got A} {S : A → Lang} → Law p S (among [])
    → Law (closed_at (more_at (codes ",") p) (codes ";"))
    (λ as'. each (λ a. sign (codes ",") · S a) as' · sign (codes ";")) (λ t. false)
attrs_law l = closed (codes ";") (λ t. false) refl (more (codes ",") [] refl l)

pub event_law : Law event_at
    (made event_of (λ p. sign (codes "event") · declared p.0 · each
    (λ a. sign (codes ",") · event_attr a) p.1 · sign (codes ";"))) (λ t. false)
unfolding event_at
event_law =
    making event_of (after (codes "event")
    (joined (avoided (attrs_starts event_attr refl refl)) declared_law
    (attrs_law event_attr_law)))

pub engine_law : Law engine_at
    (made engine_of (λ p. sign (codes "engine") · declared p.0 · each
    (λ a. sign (codes ",") · engine_attr a) p.1 · sign (codes ";"))) (λ t. false)
unfolding engine_at
engine_law =
    making engine_of (after (codes "engine")
    (joined (avoided (attrs_starts engine_attr refl refl)) declared_law
    (attrs_law engine_attr_law)))

side_starts : {test : Tok → Bool} {v : Bool} → ((n : List ℕ) → test (Class n) ≡ v)
    → Starts test v side
unfolding side pattern class
side_starts e = by_separated (Sign (codes ","))
    (record {
      first = λ p front s.
          (Class p.class, s.back, s.parts ∙ ap (λ l. l ++ s.back) s.first.1, e p.class);
    })

count_starts : {test : Tok → Bool} {v : Bool} {B : Type 0} {T : B → Lang}
    → test (Sign (codes "(")) ≡ v → Starts test v T
    → Starts test v (λ (x : Option Count × B). arrow_count x.0 · T x.1)
unfolding arrow_count
count_starts e starts = by_maybe (by_one (Sign (codes "(")) e) starts

pub prop_law : Law prop_at
    (made prop_of (λ p. sign (codes "prop") · side p.0 · arrow_count p.1.0 · sign (codes "->") ·
    arrow_count p.1.1.0 · side p.1.1.1 · sign (codes ";"))) (λ t. false)
unfolding prop_at
prop_law =
    making prop_of (after (codes "prop")
    (joined (avoided (count_starts refl (by_one (Sign (codes "->")) refl))) side_law
    (joined (avoided (by_one (Sign (codes "->")) refl)) arrow_count_law
    (after (codes "->")
    (joined (avoided (by_head (sign (codes ";")) (side_starts (λ n. refl)))) arrow_count_law
    (closed (codes ";") (λ t. false) refl side_law))))))

pub statement_law : Law statement_at statement (λ t. false)
unfolding statement_at statement
statement_law =
    either (is (codes "event")) (begun (by_made event_of (by_one (Sign (codes "event")) refl)))
    (avoided (by_either (by_made engine_of (by_one (Sign (codes "engine")) refl))
    (by_made prop_of (by_one (Sign (codes "prop")) refl))))
    event_law
    (either (is (codes "engine")) (begun (by_made engine_of (by_one (Sign (codes "engine")) refl)))
    (avoided (by_made prop_of (by_one (Sign (codes "prop")) refl)))
    engine_law
    prop_law)

pub statement_begins : Begins any_token statement
unfolding statement
statement_begins =
    begun (by_either (by_made event_of (by_one (Sign (codes "event")) refl))
    (by_either (by_made engine_of (by_one (Sign (codes "engine")) refl))
    (by_made prop_of (by_one (Sign (codes "prop")) refl))))

pub file_law : Law file_at file any_token
unfolding file_at file
file_law = many_law any_token any_token statement_begins
    (record { begun = λ t e. refl; ended = λ t e. e; stopped = λ t e. refl }) statement_law
