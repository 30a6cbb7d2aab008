-- A text is cut into tokens in one way, these spell one list of rules, and rules come to one file.
use Rattle.std.proofs.Common.{◌≡◌, ℕ, Bool, List, [], ◌∷◌, map, filter_map, Option}
use Rattle.std.proofs.Common.{Some, None, refl, sym, ap, ◌∙◌, subst, unwrap_or}
use Rattle.std.specs.List.{cons_option}
use Rattle.fm_name.specs.Category.{category_of}
use Rattle.ev_lex.specs.Pieces.{piece}
use Rattle.ev_lex.specs.declared.piece.Piece.{Piece}
use Rattle.ev_lex.specs.declared.token.Token.{Token}
use Rattle.ev_tree.specs.Grammar.{file}
use Rattle.ev_tree.specs.Rule.{Rule, EventRule, EngineRule, PropRule, view_statement, view_tree}
use Rattle.ev_tree.specs.declared.tree.Count.TheVariants as counts
use Rattle.ev_tree.specs.declared.tree.Declared.{Declared}
use Rattle.ev_tree.specs.declared.tree.Statement.{Statement}
use Rattle.ev_tree.specs.declared.tree.Statement.TheVariants as statements
use Rattle.ev_tree.specs.declared.tree.Tree.{Tree}
use Rattle.ev_parse.specs.Toks.{toks}
use Rattle.ev_parse.proofs.Whole.{file_one, file_read}
use Rattle.ev_words.specs.Attributes.{trip_value}
use Rattle.ev_check.specs.CheckedFile.{CheckedFile, IsCopyOf, IsFileOf, Linking, event_spec}
use Rattle.ev_check.specs.CheckedFile.{kind_of, linking, serd_spec}
use Rattle.ev_check.specs.Declarations.{engine_in, engines_in, event_in, events_in}
use Rattle.ev_check.specs.Defaults.{first_by, n_of, t_of}
use Rattle.ev_check.specs.Drawn.{number_at}
use Rattle.ev_check.specs.declared.checked.EventSpec.{EventSpec}
use Rattle.ev_check.specs.declared.checked.SerdSpec.{SerdSpec}
use Rattle.fm_sources.specs.Rules.{HasStatements, IsRuleFile}
use Rattle.ev_lex.proofs.Reach.{one_reading}

-- ---- tokens
pub nothing_begins : (line : Bool) (text : List ℕ) (p : Piece) → text ≡ []
    → piece line text ≡ Some p → ⊥
unfolding piece
nothing_begins line text p e h =
    let none : ◌≡◌ {A = Option Piece} None (Some p) = ap (piece line) (sym e) ∙ h in cc

-- ---- rules
pub rules_one : (text : List ℕ) (ts us : List Token) (t u : Tree) → HasStatements text ts t
    → HasStatements text us u → view_tree t ≡ view_tree u
rules_one text ts us t u a b =
    let same : ts ≡ us = one_reading text ts us a.has.tokens_are b.has.tokens_are in
    let spelled : file (view_tree u) (toks text ts) =
    subst (λ (l : List Token). file (view_tree u) (toks text l)) (sym same) b.grammar in
    file_one (toks text ts) (view_tree t, []) (view_tree u)
    (file_read (view_tree t) (toks text ts) a.grammar) spelled

-- ---- what a rule gives
abbrev event_of : Rule → Option Declared
event_of (EventRule d attrs) = Some d
event_of _ = None

abbrev engine_of : Rule → Option Declared
engine_of (EngineRule d attrs) = Some d
engine_of _ = None

abbrev event_spec_of : List Declared → Rule → Option EventSpec
event_spec_of engines (EventRule d attrs) =
    Some (record { event = d; kind = kind_of engines d attrs (category_of d.class) })
event_spec_of engines _ = None

abbrev serd_spec_of : List Declared → Rule → Option SerdSpec
serd_spec_of events (EngineRule d attrs) = Some (record {
  engine = d;
  n = n_of attrs;
  t = t_of attrs;
  trip = unwrap_or (number_at events d.names (first_by trip_value attrs)) 0;
})
serd_spec_of events _ = None

abbrev linking_of : Rule → Option Linking
linking_of (PropRule left n k right) = Some (record {
  left = left;
  right = right;
  n = unwrap_or n counts.All;
  k = unwrap_or k (counts.Number 1);
})
linking_of _ = None

-- what a statement gives is what its rule gives
event_seen : (s : Statement) → event_in s ≡ event_of (view_statement s)
event_seen (statements.Event place d attrs) = refl
event_seen (statements.Engine place d attrs) = refl
event_seen (statements.Prop place left n k right) = refl

engine_seen : (s : Statement) → engine_in s ≡ engine_of (view_statement s)
engine_seen (statements.Event place d attrs) = refl
engine_seen (statements.Engine place d attrs) = refl
engine_seen (statements.Prop place left n k right) = refl

event_spec_seen : (engines : List Declared) (s : Statement)
    → event_spec engines s ≡ event_spec_of engines (view_statement s)
event_spec_seen engines (statements.Event place d attrs) = refl
event_spec_seen engines (statements.Engine place d attrs) = refl
event_spec_seen engines (statements.Prop place left n k right) = refl

serd_spec_seen : (events : List Declared) (s : Statement)
    → serd_spec events s ≡ serd_spec_of events (view_statement s)
serd_spec_seen events (statements.Event place d attrs) = refl
serd_spec_seen events (statements.Engine place d attrs) = refl
serd_spec_seen events (statements.Prop place left n k right) = refl

linking_seen : (s : Statement) → linking s ≡ linking_of (view_statement s)
linking_seen (statements.Event place d attrs) = refl
linking_seen (statements.Engine place d attrs) = refl
linking_seen (statements.Prop place left n k right) = refl

pub all_seen : {A B C : Type 0} (view : A → B) (give : A → Option C) (give_view : B → Option C)
    → ((x : A) → give x ≡ give_view (view x)) → (xs : List A)
    → filter_map give xs ≡ filter_map give_view (map view xs)
all_seen view give give_view seen [] = refl
all_seen view give give_view seen (x ∷ xs) =
    λ i. cons_option (seen x i) (all_seen view give give_view seen xs i)

-- ---- statements of the same rules give the same
module _ (ss ts : List Statement) (same : map view_statement ss ≡ map view_statement ts) where
  pub given_same : {B : Type 0} (give : Statement → Option B) (give_rule : Rule → Option B)
      → ((s : Statement) → give s ≡ give_rule (view_statement s))
      → filter_map give ss ≡ filter_map give ts
  given_same give give_rule seen =
      all_seen view_statement give give_rule seen ss ∙ ap (filter_map give_rule) same
      ∙ sym (all_seen view_statement give give_rule seen ts)

  pub events_same : events_in ss ≡ events_in ts
  events_same = given_same event_in event_of event_seen

  pub engines_same : engines_in ss ≡ engines_in ts
  engines_same = given_same engine_in engine_of engine_seen

  pub files_one : (f g : CheckedFile) → IsFileOf ss f → IsFileOf ts g → IsCopyOf f g
  files_one f g a b =
      record {
        events_are =
            b.events_are
            ∙ ap (λ (l : List Declared). filter_map (event_spec l) ts) (sym engines_same)
            ∙ sym (given_same (event_spec (engines_in ss)) (event_spec_of (engines_in ss))
            (event_spec_seen (engines_in ss)))
            ∙ sym a.events_are;
        engines_are =
            b.engines_are
            ∙ ap (λ (l : List Declared). filter_map (serd_spec l) ts) (sym events_same)
            ∙ sym (given_same (serd_spec (events_in ss)) (serd_spec_of (events_in ss))
            (serd_spec_seen (events_in ss)))
            ∙ sym a.engines_are;
        props_are =
            b.props_are ∙ sym (given_same linking linking_of linking_seen) ∙ sym a.props_are;
      }

pub rule_files_one : (text : List ℕ) (f g : CheckedFile) → IsRuleFile text f → IsRuleFile text g
    → IsCopyOf f g
rule_files_one text f g a b =
    files_one a.tree.statements b.tree.statements
    (rules_one text a.tokens b.tokens a.tree b.tree a.has b.has) f g a.file_is b.file_is
