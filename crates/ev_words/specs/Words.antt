-- What is wrong with a statement in itself: the first word of the table that holds of it.
use Rattle.std.specs.Prelude.{ℕ, Bool, true, false, not, ◌&&◌, ◌||◌, Option, Some, None}
use Rattle.std.specs.Prelude.{if◌then◌else◌}
use Rattle.std.specs.List.{list_any}
use Rattle.fm_name.specs.Category.{category_of}
use Rattle.ev_tree.specs.declared.tree.At.{At}
use Rattle.ev_tree.specs.declared.tree.At.TheVariants as ats
use Rattle.ev_tree.specs.declared.tree.Count.{Count}
use Rattle.ev_tree.specs.declared.tree.Count.TheVariants as counts
use Rattle.ev_tree.specs.declared.tree.Operand.{Operand}
use Rattle.ev_tree.specs.declared.tree.Operand.TheVariants as operands
use Rattle.ev_tree.specs.declared.tree.Part.{Part}
use Rattle.ev_tree.specs.declared.tree.SidePattern.{SidePattern}
use Rattle.ev_tree.specs.declared.tree.Statement.{Statement}
use Rattle.ev_tree.specs.declared.tree.Statement.TheVariants as statements
use Rattle.ev_words.specs.declared.kinds.CheckKind.{CheckKind}
use Rattle.ev_words.specs.declared.kinds.CheckKind.TheVariants.{BadKind, Twice, Missing, BadCount}
use Rattle.ev_words.specs.declared.kinds.CheckKind.TheVariants.{BadTime, FreeIterator}
use Rattle.ev_words.specs.Attributes.{fit_value, retire_value, engine_value, within_value, n_value}
use Rattle.ev_words.specs.Attributes.{t_value, trip_value, is_misplaced, is_odd_trip, is_from}
use Rattle.ev_words.specs.Attributes.{is_odd_number, is_odd_size, is_odd_window, is_odd_time}
use Rattle.ev_words.specs.Attributes.{repeats, lacks}
use Rattle.ev_words.specs.Categories.{is_event, is_report, is_serd, is_side}
use Rattle.ev_words.specs.Iterators.{is_long, is_vertical, has_odd_name}
use Rattle.ev_words.specs.Operands.{operands_at}

-- the operand is a property of the payload
abbrev pub is_payload : Operand → Bool
is_payload (operands.Payloadprop t) = true
is_payload _ = false

-- the condition of the pattern asks the payload, and it stands on the left or is of no report
abbrev pub asks_oddly : Bool → SidePattern → Bool
asks_oddly left p = list_any is_payload (operands_at p) &&
    (left || not (is_report (category_of p.class)))

-- the pattern may not stand on that side, or may not ask the payload there
abbrev pub is_odd_side : Bool → SidePattern → Bool
is_odd_side left p = not (is_side left (category_of p.class)) || asks_oddly left p

-- a class, an attribute or a property of the payload may not stand where it does
abbrev pub has_bad_kind : Statement → Bool
has_bad_kind (statements.Event place d attrs) =
    not (is_event (category_of d.class)) || list_any (is_misplaced (category_of d.class)) attrs
has_bad_kind (statements.Engine place d attrs) =
    not (is_serd (category_of d.class)) || list_any is_odd_trip attrs
has_bad_kind (statements.Prop place left n k right) =
    list_any (is_odd_side true) left || list_any (is_odd_side false) right

-- an attribute stands twice
abbrev pub has_twice : Statement → Bool
has_twice (statements.Event place d attrs) =
    (repeats fit_value attrs || repeats retire_value attrs)
    || (repeats engine_value attrs || repeats within_value attrs)
has_twice (statements.Engine place d attrs) =
    repeats n_value attrs || (repeats t_value attrs || repeats trip_value attrs)
has_twice _ = false

-- an engine lacks N, T or trip
abbrev pub is_missing : Statement → Bool
is_missing (statements.Engine place d attrs) =
    lacks n_value attrs || (lacks t_value attrs || lacks trip_value attrs)
is_missing _ = false

-- a number at an arrow is out of range
abbrev pub is_odd_count : ℕ → Option Count → Bool
is_odd_count least (Some (counts.Number n)) = not (is_from least 65536 n)
is_odd_count least _ = false

-- a constant instance is out of range
abbrev pub is_odd_at : At → Bool
is_odd_at (ats.Number n) = not (is_from 0 4294967295 n)
is_odd_at _ = false

abbrev pub is_odd_part : Part → Bool
is_odd_part p = is_odd_at p.at

abbrev pub has_odd_part : SidePattern → Bool
has_odd_part p = list_any is_odd_part p.parts

-- a number of the statement is out of range
abbrev pub has_bad_count : Statement → Bool
has_bad_count (statements.Event place d attrs) = list_any is_odd_number attrs
has_bad_count (statements.Engine place d attrs) = list_any is_odd_size attrs
has_bad_count (statements.Prop place left n k right) =
    (is_odd_count 0 n || is_odd_count 1 k) ||
    (list_any has_odd_part left || list_any has_odd_part right)

-- a time of the statement is out of range
abbrev pub has_bad_time : Statement → Bool
has_bad_time (statements.Event place d attrs) = list_any is_odd_window attrs
has_bad_time (statements.Engine place d attrs) = list_any is_odd_time attrs
has_bad_time _ = false

-- a name is too long, or no iterator where it stands, or one of both kinds
abbrev pub has_free_iterator : Statement → Bool
has_free_iterator (statements.Event place d attrs) = list_any is_long d.names
has_free_iterator (statements.Engine place d attrs) = list_any is_long d.names
has_free_iterator (statements.Prop place left n k right) =
    list_any (has_odd_name (is_vertical left right)) left
    || list_any (has_odd_name (is_vertical left right)) right

-- the first word that holds
abbrev pub word_of : Statement → Option CheckKind
word_of s =
    if has_bad_kind s then Some BadKind else
    if has_twice s then Some Twice else
    if is_missing s then Some Missing else
    if has_bad_count s then Some BadCount else
    if has_bad_time s then Some BadTime else
    if has_free_iterator s then Some FreeIterator else None
