-- The tokens that a tree is printed as: a condition stands in parentheses only where it has to.
use Rattle.std.specs.Prelude.{ℕ, Bool, true, false, List, [], ◌∷◌, ◌++◌, Option, Some, None, codes}
use Rattle.ev_tree.specs.Condition.{Condition, Conditions, Any, All, Negated, Defined, Compares}
use Rattle.ev_tree.specs.Condition.{Nothing, Also}
use Rattle.ev_tree.specs.Pattern.{Pattern}
use Rattle.ev_tree.specs.Rule.{Rule, EventRule, EngineRule, PropRule}
use Rattle.ev_tree.specs.Tok.{Tok, Sign, Name, Class, Int, Time, Text}
use Rattle.ev_tree.specs.declared.print_conditions.Level.{Level}
use Rattle.ev_tree.specs.declared.print_conditions.Level.TheVariants.{Whole, InAny, InAll}
use Rattle.ev_tree.specs.declared.tree.At.{At}
use Rattle.ev_tree.specs.declared.tree.At.TheVariants as ats
use Rattle.ev_tree.specs.declared.tree.Compare.{Compare}
use Rattle.ev_tree.specs.declared.tree.Compare.TheVariants as compares
use Rattle.ev_tree.specs.declared.tree.Count.{Count}
use Rattle.ev_tree.specs.declared.tree.Count.TheVariants as counts
use Rattle.ev_tree.specs.declared.tree.Declared.{Declared}
use Rattle.ev_tree.specs.declared.tree.EngineAttr.{EngineAttr}
use Rattle.ev_tree.specs.declared.tree.EngineAttr.TheVariants as engine_attrs
use Rattle.ev_tree.specs.declared.tree.EventAttr.{EventAttr}
use Rattle.ev_tree.specs.declared.tree.EventAttr.TheVariants as event_attrs
use Rattle.ev_tree.specs.declared.tree.Operand.{Operand}
use Rattle.ev_tree.specs.declared.tree.Operand.TheVariants as operands
use Rattle.ev_tree.specs.declared.tree.Part.{Part}

-- the tokens of each value of a list, a sign in front of each
abbrev pub behind : {A : Type 0} → List ℕ → (A → List Tok) → List A → List Tok
behind s f [] = []
behind s f (a ∷ more) = Sign s ∷ (f a ++ behind s f more)

-- the same with no sign in front of the first
abbrev pub between : {A : Type 0} → List ℕ → (A → List Tok) → List A → List Tok
between s f [] = []
between s f (a ∷ more) = f a ++ behind s f more

abbrev pub name_tokens : List ℕ → List Tok
name_tokens n = Name n ∷ []

abbrev pub declared_tokens : Declared → List Tok
declared_tokens d = Class d.class ∷ Sign (codes "@") ∷ between (codes "/") name_tokens d.names

abbrev pub event_attr_tokens : EventAttr → List Tok
event_attr_tokens (event_attrs.Fit n) = Name (codes "FITrate") ∷ Sign (codes "=") ∷ Int n ∷ []
event_attr_tokens (event_attrs.Retire n) = Name (codes "retire") ∷ Sign (codes "=") ∷ Int n ∷ []
event_attr_tokens (event_attrs.Engine c) = Sign (codes "engine") ∷ Sign (codes "=") ∷ Class c ∷ []
event_attr_tokens (event_attrs.Within w) = Name (codes "within") ∷ Sign (codes "=") ∷ Time w ∷ []

abbrev pub engine_attr_tokens : EngineAttr → List Tok
engine_attr_tokens (engine_attrs.N n) = Name (codes "N") ∷ Sign (codes "=") ∷ Int n ∷ []
engine_attr_tokens (engine_attrs.T w) = Name (codes "T") ∷ Sign (codes "=") ∷ Time w ∷ []
engine_attr_tokens (engine_attrs.Trip c) = Name (codes "trip") ∷ Sign (codes "=") ∷ Class c ∷ []

abbrev pub count_token : Count → Tok
count_token counts.All = Name (codes "A")
count_token (counts.Number n) = Int n

abbrev pub arrow_count_tokens : Option Count → List Tok
arrow_count_tokens None = []
arrow_count_tokens (Some c) = Sign (codes "(") ∷ count_token c ∷ Sign (codes ")") ∷ []

abbrev pub at_tokens : At → List Tok
at_tokens ats.Bare = []
at_tokens (ats.Down n) = Sign (codes "[") ∷ Name n ∷ Sign (codes "]") ∷ []
at_tokens (ats.Number n) = Sign (codes "[") ∷ Int n ∷ Sign (codes "]") ∷ []
at_tokens (ats.Across n) = Sign (codes "<") ∷ Name n ∷ Sign (codes ">") ∷ []

abbrev pub part_tokens : Part → List Tok
part_tokens p = Name p.name ∷ at_tokens p.at

abbrev pub operand_tokens : Operand → List Tok
operand_tokens (operands.Int n) = Int n ∷ []
operand_tokens (operands.Name n) = Name n ∷ []
operand_tokens (operands.Text t) = Text t ∷ []
operand_tokens (operands.Confprop t) =
    Sign (codes "confprop") ∷ Sign (codes "(") ∷ Text t ∷ Sign (codes ")") ∷ []
operand_tokens (operands.Payloadprop t) =
    Sign (codes "payloadprop") ∷ Sign (codes "(") ∷ Text t ∷ Sign (codes ")") ∷ []

abbrev pub sum_tokens : List Operand → List Tok
sum_tokens os = between (codes "+") operand_tokens os

abbrev pub compare_sign : Compare → List ℕ
compare_sign compares.Eq = codes "=="
compare_sign compares.Ne = codes "!="
compare_sign compares.Lt = codes "<"
compare_sign compares.Le = codes "<="
compare_sign compares.Gt = codes ">"
compare_sign compares.Ge = codes ">="

-- whether a sum of conditions stands in parentheses at a level
abbrev pub wraps_any : Level → Bool
wraps_any Whole = false
wraps_any InAny = true
wraps_any InAll = true

abbrev pub wraps_all : Level → Bool
wraps_all Whole = false
wraps_all InAny = false
wraps_all InAll = true

-- in parentheses, or not
abbrev pub wrapped : Bool → List Tok → List Tok
wrapped true ts = Sign (codes "(") ∷ (ts ++ Sign (codes ")") ∷ [])
wrapped false ts = ts

abbrev mutual
  -- a condition at a level
  pub show : Level → Condition → List Tok
  show l (Any cs) = wrapped (wraps_any l) (row (codes "||") InAny cs)
  show l (All cs) = wrapped (wraps_all l) (row (codes "&&") InAll cs)
  show l (Negated c) = Sign (codes "!") ∷ show InAll c
  show l (Defined t) = Sign (codes "confprop_defined") ∷ Sign (codes "(") ∷ Text t ∷ Sign
      (codes ")") ∷ []
  show l (Compares left how right) = sum_tokens left ++ (Sign (compare_sign how) ∷ sum_tokens right)

  -- conditions at a level with a sign between two
  pub row : List ℕ → Level → Conditions → List Tok
  row s l Nothing = []
  row s l (Also c cs) = show l c ++ others s l cs

  pub others : List ℕ → Level → Conditions → List Tok
  others s l Nothing = []
  others s l (Also c cs) = Sign s ∷ (show l c ++ others s l cs)

abbrev pub guard_tokens : Option Condition → List Tok
guard_tokens None = []
guard_tokens (Some c) = Sign (codes "{") ∷ (show Whole c ++ Sign (codes "}") ∷ [])

abbrev pub pattern_tokens : Pattern → List Tok
pattern_tokens p = Class p.class ∷ Sign (codes "@") ∷
    (between (codes "/") part_tokens p.parts ++ guard_tokens p.cond)

abbrev pub side_tokens : List Pattern → List Tok
side_tokens ps = between (codes ",") pattern_tokens ps

abbrev pub rule_tokens : Rule → List Tok
rule_tokens (EventRule d attrs) =
    Sign (codes "event") ∷
    (declared_tokens d ++ (behind (codes ",") event_attr_tokens attrs ++ Sign (codes ";") ∷ []))
rule_tokens (EngineRule d attrs) =
    Sign (codes "engine") ∷
    (declared_tokens d ++ (behind (codes ",") engine_attr_tokens attrs
    ++ Sign (codes ";") ∷ []))
rule_tokens (PropRule left n k right) =
    Sign (codes "prop") ∷
    (side_tokens left ++ (arrow_count_tokens n
    ++ (Sign (codes "->") ∷
    (arrow_count_tokens k ++ (side_tokens right ++ Sign (codes ";") ∷ [])))))

abbrev pub file_tokens : List Rule → List Tok
file_tokens [] = []
file_tokens (r ∷ rs) = rule_tokens r ++ file_tokens rs
