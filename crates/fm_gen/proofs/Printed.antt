-- The lines of entries that are given one after another.
use Rattle.std.proofs.Common.{◌≡◌, ◌∙◌, ℕ, List, [], ◌∷◌, ◌++◌, Option, Some, None, sym, ap}
use Rattle.std.proofs.Common.{append_assoc, append-nil, codes}
use Rattle.std.specs.Prelude.{option_to_list, IfNone}
use Rattle.fm_entry.specs.declared.entry.Entry.{Entry}
use Rattle.fm_line.specs.Printed.{line_text}
use Rattle.fm_gen.specs.Generated.{lines_text}

-- what is printed so far, and what is left: one more was given and printed
pub printed_next : (o : Option Entry) (entry : Entry) (left rest whole : List Entry)
    (text new : List ℕ) → o ≡ Some entry → left ≡ option_to_list o ++ rest
    → new ≡ text ++ (line_text entry ++ codes "\n")
    → text ++ lines_text left ≡ lines_text whole → new ++ lines_text rest ≡ lines_text whole
unfolding lines_text
printed_next o entry left rest whole text new is given put so =
    let here : left ≡ entry ∷ rest = given ∙ ap (λ p. option_to_list p ++ rest) is in
    ap (λ t. t ++ lines_text rest) put
    ∙ append_assoc text (line_text entry ++ codes "\n") (lines_text rest)
    ∙ ap (λ es. text ++ lines_text es) (sym here) ∙ so

-- none is left
pub printed_all : (o : Option Entry) (left whole : List Entry) (text : List ℕ) → o ≡ None
    → IfNone o (left ≡ []) → text ++ lines_text left ≡ lines_text whole
    → text ≡ lines_text whole
unfolding lines_text
printed_all None left whole text is none so =
    sym (append-nil text) ∙ ap (λ es. text ++ lines_text es) (sym none) ∙ so
printed_all (Some entry) left whole text is none so = absurd (let no : ⊥ = cc in no)
