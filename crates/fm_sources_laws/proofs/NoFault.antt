-- A text that is a rule file has no fault: each of the looks at it passes, in whatever memory.
use Rattle.std.proofs.Common.{◌≡◌, ◌≢◌, ℕ, zero, suc, Bool, true, false, not, ◌&&◌, ◌||◌, List, []}
use Rattle.std.proofs.Common.{◌∷◌, drop, take, map, filter_map, slice_get, Option, Some, None}
use Rattle.std.proofs.Common.{Err, Result, if◌then◌else◌, refl, sym, ap, ◌∙◌, subst, arith}
use Rattle.std.specs.List.{list_any}
use Rattle.std.proofs.lemmas.Option.{same_Some}
use Rattle.fm_name.specs.Category.{category_of}
use Rattle.ev_lex.specs.Cut.{IsCut, IsStuck, AreTokens, line_at}
use Rattle.ev_lex.specs.Pieces.{line_after, piece, size}
use Rattle.ev_lex.specs.declared.piece.Piece.{Piece}
use Rattle.ev_lex.specs.declared.token.Token.{Token}
use Rattle.ev_tree.specs.Grammar.{file}
use Rattle.ev_tree.specs.Pattern.{Pattern, view_pattern}
use Rattle.ev_tree.specs.Rule.{Rule, EventRule, EngineRule, PropRule, view_statement, view_tree}
use Rattle.ev_tree.specs.declared.tree.Declared.{Declared}
use Rattle.ev_tree.specs.declared.tree.SidePattern.{SidePattern}
use Rattle.ev_tree.specs.declared.tree.Statement.{Statement}
use Rattle.ev_tree.specs.declared.tree.Statement.TheVariants as statements
use Rattle.ev_parse.specs.Toks.{toks}
use Rattle.ev_ways.specs.Ways.{Reaches, Way}
use Rattle.ev_words.specs.Attributes.{trip_value}
use Rattle.ev_words.specs.Categories.{is_report, is_side}
use Rattle.ev_words.specs.Iterators.{goes_across, goes_down, has_odd_name, is_down, is_free}
use Rattle.ev_words.specs.Iterators.{is_mixed, is_vertical}
use Rattle.ev_words.specs.Operands.{operands_if}
use Rattle.ev_words.specs.Words.{has_odd_part, is_odd_count, is_odd_part, is_odd_side, is_payload}
use Rattle.ev_words.specs.Words.{word_of}
use Rattle.ev_words.specs.declared.kinds.CheckKind.{CheckKind}
use Rattle.ev_words.specs.declared.kinds.CheckKind.TheVariants.{BadCount, BadKind, FreeIterator}
use Rattle.ev_words.specs.declared.kinds.CheckKind.TheVariants.{Twice, Undeclared}
use Rattle.ev_check.specs.CheckedFile.{CheckedFile}
use Rattle.ev_check.specs.Declarations.{declared_number, engines_in, events_in, is_again}
use Rattle.ev_check.specs.Declarations.{is_declared, is_undeclared, is_undeclared_engine}
use Rattle.ev_check.specs.Declarations.{is_undeclared_trip, names_undeclared}
use Rattle.ev_check.specs.Defaults.{first_by}
use Rattle.ev_check.specs.Drawn.{causes_in, causes_of, effects_in, effects_of, number_at, numbered}
use Rattle.ev_check.specs.Drawn.{trip_among}
use Rattle.ev_check.specs.Faults.{IsCheckFault, IsChecked, IsUpset, IsUpsets}
use Rattle.ev_check.specs.Lawful.{pattern_numbers, pattern_subject}
use Rattle.ev_check.specs.declared.kinds.CheckFault.{CheckFault}
use Rattle.ev_check.specs.declared.kinds.CheckFault.TheVariants.{At, NoMemory}
use Rattle.ev_check.proofs.Excluding.{only_memory}
use Rattle.fm_sources.specs.Rules.{IsRuleFile, IsRulesFault}
use Rattle.fm_sources.specs.declared.faults.RulesKind.{RulesKind}
use Rattle.fm_sources.specs.declared.faults.RulesKind.TheVariants as kinds
use Rattle.fm_sources_laws.proofs.OneFile.{all_seen, engines_same, events_same, given_same}
use Rattle.fm_sources_laws.proofs.OneFile.{nothing_begins, rules_one}
use Rattle.ev_lex.proofs.Reach.{one_reading}

-- ---- a text that is cut into pieces is nowhere stuck
none_found : {X : Type 0} (x : X) → ◌≡◌ {A = Option X} None (Some x) → ⊥
none_found x h = cc

stuck_is_not_cut : (line : Bool) (text : List ℕ) (qs : List Piece) (rest : List ℕ)
    (ps : List Piece) → IsCut line text qs rest → rest ≢ []
    → piece (line_at line qs) rest ≡ None → IsCut line text ps [] → ⊥
stuck_is_not_cut line text [] rest [] cut left stuck all = left (sym cut ∙ all)
stuck_is_not_cut line text [] rest (p ∷ ps) cut left stuck all =
    none_found p (sym stuck ∙ ap (piece line) (sym cut) ∙ all.0)
stuck_is_not_cut line text (q ∷ qs) rest [] cut left stuck all =
    nothing_begins line text q all cut.0
stuck_is_not_cut line text (q ∷ qs) rest (p ∷ ps) cut left stuck all =
    let same : p ≡ q = same_Some p q (sym all.0 ∙ cut.0) in
    stuck_is_not_cut (line_after line q) (drop (size q) text) qs rest ps cut.1 left stuck
    (subst (λ (r : Piece). IsCut (line_after line r) (drop (size r) text) ps []) same all.1)

not_stuck : (text : List ℕ) (place : ℕ) (ts : List Token) → AreTokens text ts → IsStuck text place
    → ⊥
not_stuck text place ts are h =
    stuck_is_not_cut true text h.pieces h.rest are.pieces h.cut h.left h.stuck are.cut

-- ---- what is wrong with a statement is what is wrong with its rule
any_seen : (test : SidePattern → Bool) (test_view : Pattern → Bool)
    → ((p : SidePattern) → test p ≡ test_view (view_pattern p)) → (ps : List SidePattern)
    → list_any test ps ≡ list_any test_view (map view_pattern ps)
any_seen test test_view seen [] = refl
any_seen test test_view seen (p ∷ ps) = λ i. seen p i || any_seen test test_view seen ps i

abbrev odd_side : Bool → Pattern → Bool
odd_side left q =
    not (is_side left (category_of q.class)) || (list_any is_payload (operands_if q.cond)
    && (left || not (is_report (category_of q.class))))

abbrev odd_part : Pattern → Bool
odd_part q = list_any is_odd_part q.parts

abbrev down : List ℕ → Pattern → Bool
down v q = list_any (goes_down v) q.parts

abbrev vertical : List Pattern → List Pattern → List ℕ → Bool
vertical left right v = list_any (down v) left || list_any (down v) right

abbrev odd_name : (List ℕ → Bool) → Pattern → Bool
odd_name test q =
    list_any (is_free test (λ v. list_any (goes_across v) q.parts)) (operands_if q.cond)
    || list_any (is_mixed test) q.parts

abbrev first_word : Bool → Bool → Bool → Option CheckKind
first_word kind count free =
    if kind then Some BadKind else
    if count then Some BadCount else
    if free then Some FreeIterator else None

abbrev rule_word : Rule → Option CheckKind
rule_word (EventRule d attrs) = word_of (statements.Event 0 d attrs)
rule_word (EngineRule d attrs) = word_of (statements.Engine 0 d attrs)
rule_word (PropRule left n k right) =
    first_word (list_any (odd_side true) left || list_any (odd_side false) right)
    ((is_odd_count 0 n || is_odd_count 1 k) || (list_any odd_part left || list_any odd_part right))
    (list_any (odd_name (vertical left right)) left
    || list_any (odd_name (vertical left right)) right)

vertical_seen : (left right : List SidePattern) (v : List ℕ)
    → is_vertical left right v ≡ vertical (map view_pattern left) (map view_pattern right) v
vertical_seen left right v = λ i.
    any_seen (is_down v) (down v) (λ p. refl) left i
    || any_seen (is_down v) (down v) (λ p. refl) right i

names_seen : (left right ps : List SidePattern)
    → list_any (has_odd_name (is_vertical left right)) ps
    ≡ list_any (odd_name (vertical (map view_pattern left) (map view_pattern right)))
    (map view_pattern ps)
names_seen left right ps =
    any_seen (has_odd_name (is_vertical left right)) (odd_name (is_vertical left right)) (λ p. refl)
    ps
    ∙ (λ i. list_any (odd_name (λ v. vertical_seen left right v i)) (map view_pattern ps))

word_seen : (s : Statement) → word_of s ≡ rule_word (view_statement s)
word_seen (statements.Event place d attrs) = refl
word_seen (statements.Engine place d attrs) = refl
word_seen (statements.Prop place left n k right) = λ i.
    first_word (any_seen (is_odd_side true) (odd_side true) (λ p. refl) left i
    || any_seen (is_odd_side false) (odd_side false) (λ p. refl) right i)
    ((is_odd_count 0 n || is_odd_count 1 k)
    || (any_seen has_odd_part odd_part (λ p. refl) left i
    || any_seen has_odd_part odd_part (λ p. refl) right i))
    (names_seen left right left i || names_seen left right right i)

abbrev rule_again : List Declared → List Declared → Rule → Bool
rule_again events engines (EventRule d attrs) = is_declared events d
rule_again events engines (EngineRule d attrs) = is_declared engines d
rule_again events engines _ = false

again_seen : (events engines : List Declared) (s : Statement)
    → is_again events engines s ≡ rule_again events engines (view_statement s)
again_seen events engines (statements.Event place d attrs) = refl
again_seen events engines (statements.Engine place d attrs) = refl
again_seen events engines (statements.Prop place left n k right) = refl

abbrev undeclared_pattern : List Declared → Pattern → Bool
undeclared_pattern events q = not (is_declared events (pattern_subject q))

abbrev rule_undeclared : List Declared → List Declared → Rule → Bool
rule_undeclared events engines (EventRule d attrs) =
    list_any (is_undeclared_engine engines d.names) attrs
rule_undeclared events engines (EngineRule d attrs) =
    list_any (is_undeclared_trip events d.names) attrs
rule_undeclared events engines (PropRule left n k right) =
    list_any (undeclared_pattern events) left || list_any (undeclared_pattern events) right

undeclared_seen : (events engines : List Declared) (s : Statement)
    → names_undeclared events engines s ≡ rule_undeclared events engines (view_statement s)
undeclared_seen events engines (statements.Event place d attrs) = refl
undeclared_seen events engines (statements.Engine place d attrs) = refl
undeclared_seen events engines (statements.Prop place left n k right) = λ i.
    any_seen (is_undeclared events) (undeclared_pattern events) (λ p. refl) left i
    || any_seen (is_undeclared events) (undeclared_pattern events) (λ p. refl) right i

abbrev rule_trip : List Declared → Rule → Option ℕ
rule_trip events (EngineRule d attrs) = number_at events d.names (first_by trip_value attrs)
rule_trip events _ = None

trip_seen : (events : List Declared) (s : Statement)
    → trip_among events s ≡ rule_trip events (view_statement s)
trip_seen events (statements.Event place d attrs) = refl
trip_seen events (statements.Engine place d attrs) = refl
trip_seen events (statements.Prop place left n k right) = refl

abbrev rule_causes : List Declared → Rule → Option (List ℕ)
rule_causes events (PropRule left n k right) = Some (pattern_numbers events left)
rule_causes events _ = None

abbrev rule_effects : List Declared → Rule → Option (List ℕ)
rule_effects events (PropRule left n k right) = Some (pattern_numbers events right)
rule_effects events _ = None

causes_seen : (events : List Declared) (s : Statement)
    → causes_of events s ≡ rule_causes events (view_statement s)
causes_seen events (statements.Event place d attrs) = refl
causes_seen events (statements.Engine place d attrs) = refl
causes_seen events (statements.Prop place left n k right) =
    ap Some (all_seen view_pattern (numbered events)
    (λ q. declared_number events (pattern_subject q)) (λ p. refl) left)

effects_seen : (events : List Declared) (s : Statement)
    → effects_of events s ≡ rule_effects events (view_statement s)
effects_seen events (statements.Event place d attrs) = refl
effects_seen events (statements.Engine place d attrs) = refl
effects_seen events (statements.Prop place left n k right) =
    ap Some (all_seen view_pattern (numbered events)
    (λ q. declared_number events (pattern_subject q)) (λ p. refl) right)

-- ---- lists

viewed_at : {A B : Type 0} (view : A → B) (xs : List A) (i : ℕ) (x : A) → slice_get xs i ≡ Some x
    → slice_get (map view xs) i ≡ Some (view x)
viewed_at view [] i x h = absurd (none_found x h)
viewed_at view (y ∷ ys) zero x h = ap (λ z. Some (view z)) (same_Some y x h)
viewed_at view (y ∷ ys) (suc i) x h = viewed_at view ys i x h

seen_at : {A B : Type 0} (view : A → B) (xs : List A) (i : ℕ) (y : B)
    → slice_get (map view xs) i ≡ Some y → (x : A) × (slice_get xs i ≡ Some x) × (view x ≡ y)
seen_at view [] i y h = absurd (none_found y h)
seen_at view (x ∷ xs) zero y h = (x, refl, same_Some (view x) y h)
seen_at view (x ∷ xs) (suc i) y h = seen_at view xs i y h

taken_seen : {A B : Type 0} (view : A → B) (xs : List A) (j : ℕ)
    → map view (take j xs) ≡ take j (map view xs)
taken_seen view [] zero = refl
taken_seen view [] (suc j) = refl
taken_seen view (x ∷ xs) zero = refl
taken_seen view (x ∷ xs) (suc j) = ap (λ ys. view x ∷ ys) (taken_seen view xs j)

-- ---- statements of the same rules pass the same looks
module _ (ss ts : List Statement) (same : map view_statement ss ≡ map view_statement ts) where
  other_at : (j : ℕ) (t : Statement) → slice_get ts j ≡ Some t
      → (s : Statement) × (slice_get ss j ≡ Some s) × (view_statement s ≡ view_statement t)
  other_at j t is =
      seen_at view_statement ss j (view_statement t)
      (ap (λ (l : List Rule). slice_get l j) same ∙ viewed_at view_statement ts j t is)

  taken_same : (j : ℕ) → map view_statement (take j ss) ≡ map view_statement (take j ts)
  taken_same j =
      taken_seen view_statement ss j ∙ ap (take j) same ∙ sym (taken_seen view_statement ts j)

  events_are : events_in ss ≡ events_in ts
  events_are = events_same ss ts same

  engines_are : engines_in ss ≡ engines_in ts
  engines_are = engines_same ss ts same

  causes_are : causes_in ss ≡ causes_in ts
  causes_are =
      given_same ss ts same (causes_of (events_in ss)) (rule_causes (events_in ss))
      (causes_seen (events_in ss))
      ∙ ap (λ (l : List Declared). filter_map (causes_of l) ts) events_are

  effects_are : effects_in ss ≡ effects_in ts
  effects_are =
      given_same ss ts same (effects_of (events_in ss)) (rule_effects (events_in ss))
      (effects_seen (events_in ss))
      ∙ ap (λ (l : List Declared). filter_map (effects_of l) ts) events_are

  upsets_moved : (y : ℕ) → IsUpsets ts y → IsUpsets ss y
  upsets_moved y h = record {
    upset = h.upset;
    is = subst (λ (l : List Declared). IsUpset l h.upset) (sym events_are) h.is;
    steps = h.steps;
    way = subst (λ (l : List (List ℕ)). Way l (effects_in ss) h.steps h.upset y) (sym causes_are)
        (subst (λ (l : List (List ℕ)). Way (causes_in ts) l h.steps h.upset y) (sym effects_are)
        h.way);
  }

  reaches_moved : (x y : ℕ) → Reaches (causes_in ts) (effects_in ts) x y
      → Reaches (causes_in ss) (effects_in ss) x y
  reaches_moved x y h =
      subst (λ (l : List (List ℕ)). Reaches l (effects_in ss) x y) (sym causes_are)
      (subst (λ (l : List (List ℕ)). Reaches (causes_in ts) l x y) (sym effects_are) h)

  pub checked_moved : IsChecked ss → IsChecked ts
  checked_moved h = record {
    words = record {
      each = λ j t is. let o = other_at j t is in
          word_seen t ∙ ap rule_word (sym o.2) ∙ sym (word_seen o.0) ∙ h.words.each j o.0 o.1;
    };
    once = record {
      each = λ j t is. let o = other_at j t is in
          let events = events_same (take j ss) (take j ts) (taken_same j) in
          let engines = engines_same (take j ss) (take j ts) (taken_same j) in
          let again : is_again (events_in (take j ts)) (engines_in (take j ts)) t
          ≡ is_again (events_in (take j ss)) (engines_in (take j ss)) o.0 =
          again_seen (events_in (take j ts)) (engines_in (take j ts)) t
          ∙ (λ i. rule_again (sym events i) (sym engines i) (sym o.2 i))
          ∙ sym (again_seen (events_in (take j ss)) (engines_in (take j ss)) o.0) in
          ap (λ (b : Bool). if b then Some Twice else None) again ∙ h.once.each j o.0 o.1;
    };
    declared = record {
      each = λ j t is. let o = other_at j t is in
          let undeclared : names_undeclared (events_in ts) (engines_in ts) t
          ≡ names_undeclared (events_in ss) (engines_in ss) o.0 =
          undeclared_seen (events_in ts) (engines_in ts) t
          ∙ (λ i. rule_undeclared (sym events_are i) (sym engines_are i) (sym o.2 i))
          ∙ sym (undeclared_seen (events_in ss) (engines_in ss) o.0) in
          ap (λ (b : Bool). if b then Some Undeclared else None) undeclared
          ∙ h.declared.each j o.0 o.1;
    };
    trips = record {
      each = λ j t is tripped. let o = other_at j t is in
          h.trips.each j o.0 o.1 (record {
            trip = tripped.trip;
            number = trip_seen (events_in ss) o.0 ∙ (λ i. rule_trip (events_are i) (o.2 i))
                ∙ sym (trip_seen (events_in ts) t) ∙ tripped.number;
            reached = upsets_moved tripped.trip tripped.reached;
          });
    };
    acyclic = record { each = λ x reaches. h.acyclic.each x (reaches_moved x x reaches) };
  }

-- ---- so no kind of fault is there
check_fault_no : (ss : List Statement) (place : ℕ) (kind : CheckKind) → IsCheckFault ss place kind
    → IsChecked ss → ⊥
check_fault_no ss place kind h checked =
    let refused : Result (Unit {0}) CheckFault = Err (At place kind) in
    let bad : At place kind ≡ NoMemory = only_memory ss ss refused refl h checked in
    absurd (cc)

pub no_fault : (text : List ℕ) (f : CheckedFile) (place : ℕ) (kind : RulesKind)
    → IsRuleFile text f → IsRulesFault text place kind → ⊥
no_fault text f place kinds.Length a h =
    let long = h.0 in let short = a.has.has.short in omega (arith, long, short)
no_fault text f place kinds.Token a h = not_stuck text place a.tokens a.has.has.tokens_are h.1
no_fault text f place kinds.Grammar a h =
    let same : a.tokens ≡ h.0 =
    one_reading text a.tokens h.0 a.has.has.tokens_are h.1.tokens_are in
    h.2.fault.missing (view_tree a.tree)
    (subst (λ (l : List Token). file (view_tree a.tree) (toks text l)) same a.has.grammar)
no_fault text f place (kinds.Check kind) a h =
    let same = rules_one text a.tokens h.0 a.tree h.1 a.has h.2 in
    check_fault_no h.1.statements place kind h.3
    (checked_moved a.tree.statements h.1.statements same a.passes)
