-- The text of tokens that are put together, and of lists that grow at their end.
use Rattle.std.proofs.Common.{◌≡◌, Bool, true, false, ℕ, ◌+◌, ◌<◌, List, [], ◌∷◌, ◌++◌, length}
use Rattle.std.proofs.Common.{take, map, get_or, refl, sym, ◌∙◌, ap, append_assoc, codes}
use Rattle.std.proofs.lemmas.List.{take_more, map-append}
use Rattle.std.proofs.Math.Seq.{take-length}
use Rattle.ev_tree.specs.Condition.{Condition, Conditions, Nothing, Also, conditions}
use Rattle.ev_tree.specs.Printing.{behind, between, wrapped, show, row, others, file_tokens}
use Rattle.ev_tree.specs.Printing.{rule_tokens}
use Rattle.ev_tree.specs.Rule.{Rule}
use Rattle.ev_tree.specs.Text.{bytes_of, gap, text_of}
use Rattle.ev_tree.specs.Tok.{Tok, Sign}
use Rattle.ev_tree.specs.declared.print_conditions.Level.{Level}

pub text_of-append : (a b : List Tok) → text_of (a ++ b) ≡ text_of a ++ text_of b
text_of-append [] b = refl
text_of-append (t ∷ a) b =
    ap (λ l. bytes_of t ++ (gap t ∷ l)) (text_of-append a b)
    ∙ sym (append_assoc (bytes_of t) (gap t ∷ text_of a) (text_of b))

pub behind-append : {A : Type 0} (s : List ℕ) (f : A → List Tok) (xs ys : List A)
    → behind s f (xs ++ ys) ≡ behind s f xs ++ behind s f ys
behind-append s f [] ys = refl
behind-append s f (x ∷ xs) ys =
    ap (λ l. Sign s ∷ (f x ++ l)) (behind-append s f xs ys)
    ∙ sym (ap (λ l. Sign s ∷ l) (append_assoc (f x) (behind s f xs) (behind s f ys)))

pub others-append : (s : List ℕ) (l : Level) (xs ys : List Condition)
    → others s l (conditions (xs ++ ys)) ≡ others s l (conditions xs) ++ others s l (conditions ys)
others-append s l [] ys = refl
others-append s l (x ∷ xs) ys =
    ap (λ k. Sign s ∷ (show l x ++ k)) (others-append s l xs ys)
    ∙ sym (ap (λ k. Sign s ∷ k)
    (append_assoc (show l x) (others s l (conditions xs)) (others s l (conditions ys))))

pub file_tokens-append : (xs ys : List Rule)
    → file_tokens (xs ++ ys) ≡ file_tokens xs ++ file_tokens ys
file_tokens-append [] ys = refl
file_tokens-append (x ∷ xs) ys =
    ap (λ l. rule_tokens x ++ l) (file_tokens-append xs ys)
    ∙ sym (append_assoc (rule_tokens x) (file_tokens xs) (file_tokens ys))

append_none : {A : Type 0} (l : List A) → l ++ [] ≡ l
append_none [] = refl
append_none (a ∷ more) = ap (λ k. a ∷ k) (append_none more)

-- a turn of a loop that prints a sign and an item
pub text_step : (init mid m1 m2 s : List ℕ) (before after item : List Tok)
    → after ≡ before ++ (Sign s ∷ item) → mid ≡ init ++ text_of before
    → m1 ≡ mid ++ (s ++ (gap (Sign s) ∷ [])) → m2 ≡ m1 ++ text_of item → m2 ≡ init ++ text_of after
text_step init mid m1 m2 s before after item grown a b c =
    c
    ∙ ap (λ l. l ++ text_of item) (b ∙ ap (λ l. l ++ (s ++ (gap (Sign s) ∷ []))) a)
    ∙ ap (λ l. l ++ text_of item) (append_assoc init (text_of before) (s ++ (gap (Sign s) ∷ [])))
    ∙ append_assoc init (text_of before ++ (s ++ (gap (Sign s) ∷ []))) (text_of item)
    ∙ ap (λ l. init ++ l) (append_assoc (text_of before) (s ++ (gap (Sign s) ∷ [])) (text_of item)
    ∙ ap (λ l. text_of before ++ l) (append_assoc s (gap (Sign s) ∷ []) (text_of item))
    ∙ sym (text_of-append before (Sign s ∷ item))
    ∙ ap text_of (sym grown))

pub behind_more : {A : Type 0} (s : List ℕ) (f : A → List Tok) (xs : List A) (i : ℕ) (x : A)
    → i < length xs → x ≡ get_or xs i x
    → behind s f (take (i + 1) xs) ≡ behind s f (take i xs) ++ (Sign s ∷ f x)
behind_more s f xs i x less is =
    ap (behind s f) (take_more xs i x less ∙ ap (λ y. take i xs ++ y ∷ []) (sym is))
    ∙ behind-append s f (take i xs) (x ∷ [])
    ∙ ap (λ l. behind s f (take i xs) ++ (Sign s ∷ l)) (append_none (f x))

-- the same through a view
pub behind_more_seen : {A B : Type 0} (s : List ℕ) (f : B → List Tok) (v : A → B) (xs : List A)
    (i : ℕ) (x : A) → i < length xs → x ≡ get_or xs i x
    → behind s f (map v (take (i + 1) xs)) ≡ behind s f (map v (take i xs)) ++ (Sign s ∷ f (v x))
behind_more_seen s f v xs i x less is =
    ap (λ l. behind s f (map v l)) (take_more xs i x less ∙ ap (λ y. take i xs ++ y ∷ []) (sym is))
    ∙ ap (behind s f) (map-append v (take i xs) (x ∷ []))
    ∙ behind-append s f (map v (take i xs)) (v x ∷ [])
    ∙ ap (λ l. behind s f (map v (take i xs)) ++ (Sign s ∷ l)) (append_none (f (v x)))

pub others_more : {A : Type 0} (s : List ℕ) (l : Level) (v : A → Condition) (xs : List A) (i : ℕ)
    (x : A) → i < length xs → x ≡ get_or xs i x
    → others s l (conditions (map v (take (i + 1) xs)))
    ≡ others s l (conditions (map v (take i xs))) ++ (Sign s ∷ show l (v x))
others_more s l v xs i x less is =
    ap (λ k. others s l (conditions (map v k)))
    (take_more xs i x less ∙ ap (λ y. take i xs ++ y ∷ []) (sym is))
    ∙ ap (λ k. others s l (conditions k)) (map-append v (take i xs) (x ∷ []))
    ∙ others-append s l (map v (take i xs)) (v x ∷ [])
    ∙ ap (λ k. others s l (conditions (map v (take i xs))) ++ (Sign s ∷ k))
    (append_none (show l (v x)))

pub file_more : {A : Type 0} (v : A → Rule) (xs : List A) (i : ℕ) (x : A) → i < length xs
    → x ≡ get_or xs i x → file_tokens (map v (take (i + 1) xs)) ≡ file_tokens (map v (take i xs))
    ++ rule_tokens (v x)
file_more v xs i x less is =
    ap (λ k. file_tokens (map v k)) (take_more xs i x less ∙ ap (λ y. take i xs ++ y ∷ []) (sym is))
    ∙ ap file_tokens (map-append v (take i xs) (x ∷ []))
    ∙ file_tokens-append (map v (take i xs)) (v x ∷ [])
    ∙ ap (λ k. file_tokens (map v (take i xs)) ++ k) (append_none (rule_tokens (v x)))

-- two and three pieces of text, one behind the other
pub text_two : (old m1 m2 : List ℕ) (a b ts : List Tok) → ts ≡ a ++ b → m1 ≡ old ++ text_of a
    → m2 ≡ m1 ++ text_of b → m2 ≡ old ++ text_of ts
text_two old m1 m2 a b ts e f g =
    g ∙ ap (λ l. l ++ text_of b) f ∙ append_assoc old (text_of a) (text_of b)
    ∙ ap (λ l. old ++ l) (sym (text_of-append a b) ∙ ap text_of (sym e))

pub text_three : (old m1 m2 m3 : List ℕ) (a b c ts : List Tok) → ts ≡ a ++ (b ++ c)
    → m1 ≡ old ++ text_of a → m2 ≡ m1 ++ text_of b → m3 ≡ m2 ++ text_of c → m3 ≡ old ++ text_of ts
text_three old m1 m2 m3 a b c ts e f g h =
    text_two old m2 m3 (a ++ b) c ts (e ∙ sym (append_assoc a b c))
    (text_two old m1 m2 a b (a ++ b) refl f g) h

-- a text in parentheses
pub text_wrapped : (old m1 m2 m3 : List ℕ) (ts : List Tok) (b : Bool) → b ≡ true
    → m1 ≡ old ++ (40 ∷ 32 ∷ []) → m2 ≡ m1 ++ text_of ts → m3 ≡ m2 ++ (41 ∷ 32 ∷ [])
    → m3 ≡ old ++ text_of (wrapped b ts)
text_wrapped old m1 m2 m3 ts b yes' e f g =
    text_three old m1 m2 m3 (Sign (codes "(") ∷ []) ts (Sign (codes ")") ∷ []) (wrapped b ts)
    (ap (λ c. wrapped c ts) yes') e f g

pub text_bare : (old m1 : List ℕ) (ts : List Tok) (b : Bool) → b ≡ false → m1 ≡ old ++ text_of ts
    → m1 ≡ old ++ text_of (wrapped b ts)
text_bare old m1 ts b no' e = e ∙ ap (λ c. old ++ text_of (wrapped c ts)) (sym no')

-- one text behind another
pub then_text : (old mid new : List ℕ) (a b : List Tok) → mid ≡ old ++ text_of a
    → new ≡ mid ++ text_of b → new ≡ old ++ text_of (a ++ b)
then_text old mid new a b e f = text_two old mid new a b (a ++ b) refl e f

-- a turn of a loop that prints a sign with a space behind it and an item
pub text_turn : (init mid m1 m2 s : List ℕ) (before after item : List Tok) → gap (Sign s) ≡ 32
    → after ≡ before ++ (Sign s ∷ item) → mid ≡ init ++ text_of before
    → m1 ≡ mid ++ (s ++ (32 ∷ [])) → m2 ≡ m1 ++ text_of item → m2 ≡ init ++ text_of after
text_turn init mid m1 m2 s before after item space grown a b c =
    text_step init mid m1 m2 s before after item grown a
    (b ∙ ap (λ g. mid ++ (s ++ (g ∷ []))) (sym space)) c

-- the first item, and what a loop over the others has added
pub between_done : {A B : Type 0} (s : List ℕ) (f : B → List Tok) (v : A → B) (old mid new : List ℕ)
    (x : A) (others xs : List A) (i : ℕ) → xs ≡ x ∷ others → i ≡ length others
    → mid ≡ old ++ text_of (f (v x)) → new ≡ mid ++ text_of (behind s f (map v (take i others)))
    → new ≡ old ++ text_of (between s f (map v xs))
between_done s f v old mid new x others xs i parts whole e g =
    then_text old mid new (f (v x)) (behind s f (map v others)) e
    (g ∙ ap (λ l. mid ++ text_of (behind s f (map v l))) (ap (λ n. take n others) whole
    ∙ take-length others))
    ∙ ap (λ l. old ++ text_of (between s f (map v l))) (sym parts)

pub row_done : {A : Type 0} (s : List ℕ) (l : Level) (v : A → Condition) (old mid new : List ℕ)
    (x : A) (more xs : List A) (i : ℕ) → xs ≡ x ∷ more → i ≡ length more
    → mid ≡ old ++ text_of (show l (v x))
    → new ≡ mid ++ text_of (others s l (conditions (map v (take i more))))
    → new ≡ old ++ text_of (row s l (conditions (map v xs)))
row_done s l v old mid new x more xs i parts whole e g =
    then_text old mid new (show l (v x)) (others s l (conditions (map v more))) e
    (g ∙ ap (λ k. mid ++ text_of (others s l (conditions (map v k)))) (ap (λ n. take n more) whole
    ∙ take-length more))
    ∙ ap (λ k. old ++ text_of (row s l (conditions (map v k)))) (sym parts)
