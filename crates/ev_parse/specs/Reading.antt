-- The readers of the grammar, rule by rule.
use Rattle.std.specs.Prelude.{ℕ, zero, suc, Bool, true, false, List, Option, Some, None, codes}
use Rattle.std.specs.Prelude.{if◌then◌else◌}
use Rattle.fm_name.specs.Class.{is_class}
use Rattle.ev_tree.specs.Condition.{Condition, Negated, Defined, any, all}
use Rattle.ev_tree.specs.Grammar.{gather, comparing, event_of, engine_of, prop_of}
use Rattle.ev_tree.specs.Pattern.{Pattern}
use Rattle.ev_tree.specs.Rule.{Rule}
use Rattle.ev_tree.specs.Tok.{Tok, Sign, Name, Class, Int, Time, Text, Odd, same_bytes}
use Rattle.ev_tree.specs.declared.tree.At.{At}
use Rattle.ev_tree.specs.declared.tree.At.TheVariants as ats
use Rattle.ev_tree.specs.declared.tree.Compare.{Compare}
use Rattle.ev_tree.specs.declared.tree.Compare.TheVariants as compares
use Rattle.ev_tree.specs.declared.tree.Count.{Count}
use Rattle.ev_tree.specs.declared.tree.Count.TheVariants as counts
use Rattle.ev_tree.specs.declared.tree.Declared.{Declared}
use Rattle.ev_tree.specs.declared.tree.EngineAttr.{EngineAttr}
use Rattle.ev_tree.specs.declared.tree.EngineAttr.TheVariants as engine_attrs
use Rattle.ev_tree.specs.declared.tree.EventAttr.{EventAttr}
use Rattle.ev_tree.specs.declared.tree.EventAttr.TheVariants as event_attrs
use Rattle.ev_tree.specs.declared.tree.Operand.{Operand}
use Rattle.ev_tree.specs.declared.tree.Operand.TheVariants as operands
use Rattle.ev_tree.specs.declared.tree.Part.{Part}
use Rattle.ev_tree.specs.declared.tree.TimeWord.{TimeWord}
use Rattle.ev_parse.specs.Read.{Got, token_at, map_at, both_at, is, is_word, word_at, after_at}
use Rattle.ev_parse.specs.Read.{after_word_at, closed_at, either_at, pure_at, optional_at, many_at}
use Rattle.ev_parse.specs.Read.{more_at, separated_at}

-- what a token stands for, where it is of the kind

abbrev pub pick_name : Tok → Option (List ℕ)
pick_name (Name n) = Some n
pick_name _ = None

-- a class
abbrev pub pick_class : Tok → Option (List ℕ)
pick_class (Class c) = if is_class c then Some c else None
pick_class _ = None

-- a number
abbrev pub pick_int : Tok → Option ℕ
pick_int (Int n) = Some n
pick_int _ = None

-- a time
abbrev pub pick_time : Tok → Option TimeWord
pick_time (Time w) = Some w
pick_time _ = None

-- a quoted text
abbrev pub pick_text : Tok → Option (List ℕ)
pick_text (Text t) = Some t
pick_text _ = None

-- the comparison of these bytes
abbrev pub comparison : List ℕ → Option Compare
comparison b =
    if same_bytes b (codes "==") then Some compares.Eq
    else (if same_bytes b (codes "!=") then Some compares.Ne
    else (if same_bytes b (codes "<") then Some compares.Lt
    else (if same_bytes b (codes "<=") then Some compares.Le
    else (if same_bytes b (codes ">") then Some compares.Gt
    else (if same_bytes b (codes ">=") then Some compares.Ge
    else None)))))

-- a comparison
abbrev pub pick_compare : Tok → Option Compare
pick_compare (Sign b) = comparison b
pick_compare _ = None

-- a number is next
abbrev pub is_int : Tok → Bool
is_int (Int n) = true
is_int _ = false

-- a name is next
abbrev pub opens_name : Tok → Bool
opens_name (Name n) = true
opens_name _ = false

-- any token
abbrev pub any_token : Tok → Bool
any_token t = true

-- the rules

unfoldable pub name_at : List Tok → Got (List ℕ)
name_at ts = token_at pick_name ts

unfoldable pub class_at : List Tok → Got (List ℕ)
class_at ts = token_at pick_class ts

unfoldable pub int_at : List Tok → Got ℕ
int_at ts = token_at pick_int ts

unfoldable pub time_at : List Tok → Got TimeWord
time_at ts = token_at pick_time ts

unfoldable pub text_at : List Tok → Got (List ℕ)
text_at ts = token_at pick_text ts

unfoldable pub compare_at : List Tok → Got Compare
compare_at ts = token_at pick_compare ts

abbrev pub declared_of : List ℕ × List (List ℕ) → Declared
declared_of p = record { class = p.0; names = p.1 }

unfoldable pub names_at : List Tok → Got (List (List ℕ))
names_at ts = separated_at (codes "/") name_at ts

unfoldable pub declared_at : List Tok → Got Declared
declared_at ts = map_at declared_of (both_at class_at (after_at (codes "@") names_at)) ts

unfoldable pub event_attr_at : List Tok → Got EventAttr
event_attr_at ts =
    either_at (is_word (codes "FITrate"))
    (map_at event_attrs.Fit (after_word_at (codes "FITrate") (after_at (codes "=") int_at)))
    (either_at (is_word (codes "retire"))
    (map_at event_attrs.Retire (after_word_at (codes "retire") (after_at (codes "=") int_at)))
    (either_at (is (codes "engine"))
    (map_at event_attrs.Engine (after_at (codes "engine") (after_at (codes "=") class_at)))
    (map_at event_attrs.Within (after_word_at (codes "within") (after_at (codes "=") time_at))))) ts

unfoldable pub engine_attr_at : List Tok → Got EngineAttr
engine_attr_at ts =
    either_at (is_word (codes "N"))
    (map_at engine_attrs.N (after_word_at (codes "N") (after_at (codes "=") int_at)))
    (either_at (is_word (codes "T"))
    (map_at engine_attrs.T (after_word_at (codes "T") (after_at (codes "=") time_at)))
    (map_at engine_attrs.Trip (after_word_at (codes "trip") (after_at (codes "=") class_at)))) ts

abbrev pub all_counted : Unit {0} → Count
all_counted u = counts.All

unfoldable pub count_at : List Tok → Got Count
count_at ts = either_at is_int (map_at counts.Number int_at)
    (map_at all_counted (word_at (codes "A"))) ts

unfoldable pub arrow_count_at : List Tok → Got (Option Count)
arrow_count_at ts = optional_at (is (codes "("))
    (after_at (codes "(") (closed_at count_at (codes ")"))) ts

unfoldable pub index_at : List Tok → Got At
index_at ts = either_at opens_name (map_at ats.Down name_at) (map_at ats.Number int_at) ts

unfoldable pub at_at : List Tok → Got At
at_at ts =
    either_at (is (codes "[")) (after_at (codes "[") (closed_at index_at (codes "]")))
    (either_at (is (codes "<"))
    (map_at ats.Across (after_at (codes "<") (closed_at name_at (codes ">"))))
    (pure_at ats.Bare)) ts

abbrev pub named_part : List ℕ × At → Part
named_part p = record { name = p.0; at = p.1 }

unfoldable pub part_at : List Tok → Got Part
part_at ts = map_at named_part (both_at name_at at_at) ts

unfoldable pub parts_at : List Tok → Got (List Part)
parts_at ts = separated_at (codes "/") part_at ts

-- a reserved word, and a text in parentheses
unfoldable pub call_at : List ℕ → List Tok → Got (List ℕ)
call_at word ts = after_at word (after_at (codes "(") (closed_at text_at (codes ")"))) ts

unfoldable pub operand_at : List Tok → Got Operand
operand_at ts =
    either_at is_int (map_at operands.Int int_at)
    (either_at opens_name (map_at operands.Name name_at)
    (either_at (is (codes "confprop")) (map_at operands.Confprop (call_at (codes "confprop")))
    (either_at (is (codes "payloadprop"))
    (map_at operands.Payloadprop (call_at (codes "payloadprop")))
    (map_at operands.Text text_at)))) ts

unfoldable pub sum_at : List Tok → Got (List Operand)
sum_at ts = separated_at (codes "+") operand_at ts

unfoldable pub compares_at : List Tok → Got Condition
compares_at ts = map_at comparing (both_at sum_at (both_at compare_at sum_at)) ts

unfoldable pub atom_at : List Tok → Got Condition
atom_at ts =
    either_at (is (codes "confprop_defined")) (map_at Defined (call_at (codes "confprop_defined")))
    compares_at ts

-- the `&&` and the `||` of conditions, over a reader of unary ones
unfoldable pub all_of_at : (List Tok → Got Condition) → List Tok → Got Condition
all_of_at unary ts = map_at (gather all) (separated_at (codes "&&") unary) ts

unfoldable pub any_of_at : (List Tok → Got Condition) → List Tok → Got Condition
any_of_at unary ts = map_at (gather any) (separated_at (codes "||") (all_of_at unary)) ts

unfoldable pub unary_at : ℕ → List Tok → Got Condition
unary_at zero ts = atom_at ts
unary_at (suc n) ts =
    either_at (is (codes "!")) (map_at Negated (after_at (codes "!") (unary_at n)))
    (either_at (is (codes "("))
    (after_at (codes "(") (closed_at (any_of_at (unary_at n)) (codes ")")))
    atom_at) ts

unfoldable pub condition_at : List Tok → Got Condition
condition_at ts = any_of_at (unary_at 64) ts

abbrev pub pattern_of : List ℕ × (List Part × Option Condition) → Pattern
pattern_of p = record { class = p.0; parts = p.1.0; cond = p.1.1 }

-- a condition in braces, where there is one
unfoldable pub guard_at : List Tok → Got (Option Condition)
guard_at ts = optional_at (is (codes "{"))
    (after_at (codes "{") (closed_at condition_at (codes "}"))) ts

unfoldable pub pattern_at : List Tok → Got Pattern
pattern_at ts = map_at pattern_of
    (both_at class_at (after_at (codes "@") (both_at parts_at guard_at))) ts

unfoldable pub side_at : List Tok → Got (List Pattern)
side_at ts = separated_at (codes ",") pattern_at ts

unfoldable pub event_at : List Tok → Got Rule
event_at ts = map_at event_of
    (after_at (codes "event")
    (both_at declared_at (closed_at (more_at (codes ",") event_attr_at) (codes ";")))) ts

unfoldable pub engine_at : List Tok → Got Rule
engine_at ts = map_at engine_of
    (after_at (codes "engine")
    (both_at declared_at (closed_at (more_at (codes ",") engine_attr_at) (codes ";")))) ts

unfoldable pub prop_at : List Tok → Got Rule
prop_at ts =
    map_at prop_of (after_at (codes "prop") (both_at side_at (both_at arrow_count_at
    (after_at (codes "->") (both_at arrow_count_at (closed_at side_at (codes ";"))))))) ts

unfoldable pub statement_at : List Tok → Got Rule
statement_at ts = either_at (is (codes "event")) event_at
    (either_at (is (codes "engine")) engine_at prop_at) ts

unfoldable pub file_at : List Tok → Got (List Rule)
file_at ts = many_at any_token statement_at ts
