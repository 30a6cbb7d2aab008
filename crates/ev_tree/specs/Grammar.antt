-- The grammar of rule files, rule by rule: which tokens spell which tree.
use Rattle.std.specs.Prelude.{◌≡◌, ℕ, suc, zero, List, [], ◌∷◌, Option, codes, IsTrue}
use Rattle.fm_name.specs.Class.{is_class}
use Rattle.ev_tree.specs.Condition.{Condition, Negated, Defined, Compares, any, all}
use Rattle.ev_tree.specs.Language.{Lang, ◌·◌, ◌∣◌, Seq, nothing, one, made, always, maybe, each}
use Rattle.ev_tree.specs.Language.{separated, sign, word}
use Rattle.ev_tree.specs.Pattern.{Pattern}
use Rattle.ev_tree.specs.Rule.{Rule, EventRule, EngineRule, PropRule}
use Rattle.ev_tree.specs.Tok.{Tok, Sign, Name, Class, Int, Time, Text}
use Rattle.ev_tree.specs.declared.tree.At.{At}
use Rattle.ev_tree.specs.declared.tree.At.TheVariants as ats
use Rattle.ev_tree.specs.declared.tree.Compare.{Compare}
use Rattle.ev_tree.specs.declared.tree.Compare.TheVariants as compares
use Rattle.ev_tree.specs.declared.tree.Count.{Count}
use Rattle.ev_tree.specs.declared.tree.Count.TheVariants as counts
use Rattle.ev_tree.specs.declared.tree.Declared.{Declared}
use Rattle.ev_tree.specs.declared.tree.EngineAttr.{EngineAttr}
use Rattle.ev_tree.specs.declared.tree.EngineAttr.TheVariants as engine_attrs
use Rattle.ev_tree.specs.declared.tree.EventAttr.{EventAttr}
use Rattle.ev_tree.specs.declared.tree.EventAttr.TheVariants as event_attrs
use Rattle.ev_tree.specs.declared.tree.Operand.{Operand}
use Rattle.ev_tree.specs.declared.tree.Operand.TheVariants as operands
use Rattle.ev_tree.specs.declared.tree.Part.{Part}
use Rattle.ev_tree.specs.declared.tree.TimeWord.{TimeWord}

-- NAME, CLASS, INT, TIME and TEXT
unfoldable pub name : List ℕ → Lang
name n = one (Name n)

unfoldable pub class : List ℕ → Lang
class c ts = IsTrue (is_class c) × (ts ≡ Class c ∷ [])

unfoldable pub int : ℕ → Lang
int n = one (Int n)

unfoldable pub time : TimeWord → Lang
time w = one (Time w)

unfoldable pub text : List ℕ → Lang
text t = one (Text t)

-- declared = CLASS "@" NAME { "/" NAME } .
unfoldable pub declared : Declared → Lang
declared d = class d.class · sign (codes "@") · separated (Sign (codes "/")) name d.names

-- eattr = "FITrate" "=" INT | "retire" "=" INT | "engine" "=" CLASS | "within" "=" TIME .
unfoldable pub event_attr : EventAttr → Lang
event_attr a =
    made event_attrs.Fit (λ n. word (codes "FITrate") · sign (codes "=") · int n) a
    ∣ made event_attrs.Retire (λ n. word (codes "retire") · sign (codes "=") · int n) a
    ∣ made event_attrs.Engine (λ c. sign (codes "engine") · sign (codes "=") · class c) a
    ∣ made event_attrs.Within (λ w. word (codes "within") · sign (codes "=") · time w) a

-- gattr = "N" "=" INT | "T" "=" TIME | "trip" "=" CLASS .
unfoldable pub engine_attr : EngineAttr → Lang
engine_attr a =
    made engine_attrs.N (λ n. word (codes "N") · sign (codes "=") · int n) a
    ∣ made engine_attrs.T (λ w. word (codes "T") · sign (codes "=") · time w) a
    ∣ made engine_attrs.Trip (λ c. word (codes "trip") · sign (codes "=") · class c) a

-- count = INT | "A" .
unfoldable pub count : Count → Lang
count c = made counts.Number int c ∣ always counts.All (word (codes "A")) c

-- the `[ "(" count ")" ]` on either side of an arrow
unfoldable pub arrow_count : Option Count → Lang
arrow_count c = maybe (λ n. sign (codes "(") · count n · sign (codes ")")) c

-- part = NAME [ "[" ( NAME | INT ) "]" | "<" NAME ">" ] .
unfoldable pub index : At → Lang
index a = made ats.Down name a ∣ made ats.Number int a

unfoldable pub at : At → Lang
at a =
    (sign (codes "[") · index a · sign (codes "]"))
    ∣ made ats.Across (λ n. sign (codes "<") · name n · sign (codes ">")) a
    ∣ always ats.Bare nothing a

unfoldable pub part : Part → Lang
part p = name p.name · at p.at

-- compare = "==" | "!=" | "<" | "<=" | ">" | ">=" .
unfoldable pub compare : Compare → Lang
compare c =
    always compares.Eq (sign (codes "==")) c
    ∣ always compares.Ne (sign (codes "!=")) c
    ∣ always compares.Lt (sign (codes "<")) c
    ∣ always compares.Le (sign (codes "<=")) c
    ∣ always compares.Gt (sign (codes ">")) c
    ∣ always compares.Ge (sign (codes ">=")) c

-- operand = INT | NAME | TEXT | "confprop" "(" TEXT ")" | "payloadprop" "(" TEXT ")" .
unfoldable pub operand : Operand → Lang
operand o =
    made operands.Int int o
    ∣ made operands.Name name o
    ∣ made operands.Confprop
    (λ t. sign (codes "confprop") · sign (codes "(") · text t · sign (codes ")")) o
    ∣ made operands.Payloadprop
    (λ t. sign (codes "payloadprop") · sign (codes "(") · text t · sign (codes ")")) o
    ∣ made operands.Text text o

-- sum = operand { "+" operand } .
unfoldable pub sum : List Operand → Lang
sum os = separated (Sign (codes "+")) operand os

-- the condition that stands for a list of them: one for itself, more as f makes it of them
abbrev pub gather : (List Condition → Condition) → List Condition → Condition
gather f [] = f []
gather f (c ∷ []) = c
gather f (c ∷ d ∷ more) = f (c ∷ d ∷ more)

-- the comparison of two sums
abbrev pub comparing : List Operand × (Compare × List Operand) → Condition
comparing p = Compares p.0 p.1.0 p.1.1

-- "confprop_defined" "(" TEXT ")" | sum compare sum
unfoldable pub atom : Condition → Lang
atom c =
    made Defined (λ t. sign (codes "confprop_defined") · sign (codes "(") · text t · sign
    (codes ")")) c
    ∣ made comparing (λ p. sum p.0 · compare p.1.0 · sum p.1.1) c

-- both = unary { "&&" unary } .
unfoldable pub both : (Condition → Lang) → Condition → Lang
both unary = made (gather all) (separated (Sign (codes "&&")) unary)

-- cond = both { "||" both } .
unfoldable pub cond : (Condition → Lang) → Condition → Lang
cond unary = made (gather any) (separated (Sign (codes "||")) (both unary))

-- unary = "!" unary | "(" cond ")" | "confprop_defined" "(" TEXT ")" | sum compare sum , where `!`
-- and `(` nest at most so deep
unfoldable pub unary : ℕ → Condition → Lang
unary zero c = atom c
unary (suc n) c =
    made Negated (λ d. sign (codes "!") · unary n d) c
    ∣ (sign (codes "(") · cond (unary n) c · sign (codes ")"))
    ∣ atom c

-- a condition, in which `!` and `(` nest at most 64 deep
unfoldable pub condition : Condition → Lang
condition c = cond (unary 64) c

-- pattern = CLASS "@" part { "/" part } [ "{" cond "}" ] .
unfoldable pub pattern : Pattern → Lang
pattern p =
    class p.class · sign (codes "@") · separated (Sign (codes "/")) part p.parts
    · maybe (λ c. sign (codes "{") · condition c · sign (codes "}")) p.cond

-- side = pattern { "," pattern } .
unfoldable pub side : List Pattern → Lang
side ps = separated (Sign (codes ",")) pattern ps

-- an event or an engine, and its attributes
abbrev pub event_of : Declared × List EventAttr → Rule
event_of p = EventRule p.0 p.1

abbrev pub engine_of : Declared × List EngineAttr → Rule
engine_of p = EngineRule p.0 p.1

-- a propagation: its left side, N, K, and its right side
abbrev pub prop_of : List Pattern × (Option Count × (Option Count × List Pattern)) → Rule
prop_of p = PropRule p.0 p.1.0 p.1.1.0 p.1.1.1

-- statement = "event" declared { "," eattr } ";"
--           | "engine" declared { "," gattr } ";"
--           | "prop" side [ "(" count ")" ] "->" [ "(" count ")" ] side ";" .
unfoldable pub statement : Rule → Lang
statement r =
    made event_of (λ p. sign (codes "event") · declared p.0 · each
    (λ a. sign (codes ",") · event_attr a) p.1 · sign (codes ";")) r
    ∣ made engine_of (λ p. sign (codes "engine") · declared p.0 · each
    (λ a. sign (codes ",") · engine_attr a) p.1 · sign (codes ";")) r
    ∣ made prop_of (λ p. sign (codes "prop") · side p.0 · arrow_count p.1.0 · sign (codes "->") ·
    arrow_count p.1.1.0 · side p.1.1.1 · sign (codes ";")) r

-- file = { statement } .
unfoldable pub file : List Rule → Lang
file rs = each statement rs
