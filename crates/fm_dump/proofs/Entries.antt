-- One more entry.
use Rattle.std.proofs.Common.{◌≡◌, ℕ, ◌+◌, ◌<◌, ◌≤◌, List, [], ◌++◌, append_assoc, append-nil}
use Rattle.std.proofs.Common.{ap, sym, subst, ◌∙◌, length, drop, get_or, arith}
use Rattle.std.specs.Prelude.{OnErr, Result, Ok, Err}
use Rattle.std.proofs.lemmas.List.{at_drop_all, at_drop_more}
use Rattle.fm_entry.specs.declared.entry.Entry.{Entry}
use Rattle.fm_dump.specs.declared.options.DumpOptions.{DumpOptions}
use Rattle.fm_dump.specs.Errors.{errors_text, kept_entry}
use Rattle.fm_dump.specs.Kept.{IsTextFront}

-- a text begins with itself
pub extends_self : (text : List ℕ) → IsTextFront text text
extends_self text = ([], sym (append-nil text))

-- and with what it began with before it grew
pub extends_more : (old now more new : List ℕ) → IsTextFront old now → new ≡ now ++ more
    → IsTextFront old new
extends_more old now more new e grown =
    (e.0 ++ more, grown ∙ (ap (λ text. text ++ more) e.1 ∙ append_assoc old e.0 more))

-- after an error a text that is as it was begins with what it began with
pub extends_still : {T E : Type 0} (r : Result T E) (old now new : List ℕ) → IsTextFront old now
    → new ≡ now → OnErr r (IsTextFront old new)
extends_still (Ok value) old now new e same = tt
extends_still (Err fault) old now new e same = subst (IsTextFront old) (sym same) e

-- what is left of the entries at one of them
pub left_is : (options : DumpOptions) (first at : ℕ) (entries : List Entry) (entry : Entry)
    → at < length entries → entry ≡ get_or entries at entry
    → errors_text options (first + at) (drop at entries)
    ≡ kept_entry options (first + at) entry
    ++ errors_text options (first + (at + 1)) (drop (at + 1) entries)
unfolding errors_text
left_is options first at entries entry inside is =
    let next : (first + at) + 1 ≡ first + (at + 1) = omega arith in
    at_drop_more (errors_text options (first + at)) entries at entry inside
    ∙ (ap (λ e. kept_entry options (first + at) e
    ++ errors_text options ((first + at) + 1) (drop (at + 1) entries)) (sym is)
    ∙ ap (λ n. kept_entry options (first + at) entry
    ++ errors_text options n (drop (at + 1) entries)) next)

-- and one further
pub grown : (options : DumpOptions) (first at : ℕ) (entries : List Entry) (entry : Entry)
    (now new all : List ℕ) → at < length entries → entry ≡ get_or entries at entry
    → new ≡ now ++ kept_entry options (first + at) entry
    → now ++ errors_text options (first + at) (drop at entries) ≡ all
    → new ++ errors_text options (first + (at + 1)) (drop (at + 1) entries) ≡ all
grown options first at entries entry now new all inside is more e =
    ap (λ text. text ++ errors_text options (first + (at + 1)) (drop (at + 1) entries)) more
    ∙ (append_assoc now (kept_entry options (first + at) entry)
    (errors_text options (first + (at + 1)) (drop (at + 1) entries))
    ∙ (ap (λ text. now ++ text) (sym (left_is options first at entries entry inside is)) ∙ e))

-- nothing is left past the last entry
pub all_written : (options : DumpOptions) (first at : ℕ) (entries : List Entry) (now all : List ℕ)
    → length entries ≤ at → now ++ errors_text options (first + at) (drop at entries) ≡ all
    → now ≡ all
unfolding errors_text
all_written options first at entries now all past e =
    sym (append-nil now)
    ∙ (ap (λ text. now ++ text)
    (sym (at_drop_all (errors_text options (first + at)) entries at past)) ∙ e)

-- before the first entry
pub none_written : (options : DumpOptions) (first : ℕ) (entries : List Entry) (now : List ℕ)
    → now ++ errors_text options (first + 0) (drop 0 entries)
    ≡ now ++ errors_text options first entries
none_written options first entries now =
    let e : first + 0 ≡ first = omega arith in
    ap (λ n. now ++ errors_text options n entries) e
