-- Languages over tokens, and how they are put together. A language says which lists of tokens are
-- its words; a family of languages says which words spell a value.
use Rattle.std.specs.Prelude.{◌≡◌, ◌⊎◌, ℕ, List, [], ◌∷◌, ◌++◌, Option, Some, None}
use Rattle.ev_tree.specs.Tok.{Tok, Sign, Name}

abbrev pub Lang : Type 1
Lang = List Tok → Type 0

infixr 36 ◌·◌
infixr 34 ◌∣◌
-- no token
abbrev pub nothing : Lang
nothing ts = ts ≡ []

-- this token
abbrev pub one : Tok → Lang
one t ts = ts ≡ t ∷ []

-- a front in a, and the rest in b
pub record Seq (a b : Lang) (ts : List Tok) : Type 0 where
  pub front : List Tok
  pub back : List Tok
  pub parts : ts ≡ front ++ back
  pub first : a front
  pub second : b back

-- a word of a and then one of b
abbrev pub ◌·◌ : Lang → Lang → Lang
a · b = Seq a b

-- a word of a or of b
abbrev pub ◌∣◌ : Lang → Lang → Lang
(a ∣ b) ts = a ts ⊎ b ts

-- what spells some value from which f makes b
pub record Made {A B : Type 0} (f : A → B) (S : A → Lang) (b : B) (ts : List Tok) : Type 0 where
  pub from : A
  pub value : f from ≡ b
  pub spelled : S from ts

abbrev pub made : {A B : Type 0} → (A → B) → (A → Lang) → B → Lang
made f S b ts = Made f S b ts

-- words of one language, which all spell this one value
abbrev pub always : {B : Type 0} → B → Lang → B → Lang
always b l = made (λ (u : Unit {0}). b) (λ u. l)

-- nothing for None
abbrev pub maybe : {A : Type 0} → (A → Lang) → Option A → Lang
maybe S None = nothing
maybe S (Some a) = S a

-- one word for each value of a list, in order
abbrev pub each : {A : Type 0} → (A → Lang) → List A → Lang
each S [] = nothing
each S (a ∷ more) = S a · each S more

-- one value at least, with a token between two
abbrev pub separated : {A : Type 0} → Tok → (A → Lang) → List A → Lang
separated t S [] ts = ⊥
separated t S (a ∷ more) ts = Seq (S a) (each (λ b. one t · S b) more) ts

-- punctuation or a reserved word; a word of the grammar that is not reserved
abbrev pub sign : List ℕ → Lang
sign bytes = one (Sign bytes)

abbrev pub word : List ℕ → Lang
word bytes = one (Name bytes)
