-- Rules that some text spells are spelled by the text that they are printed as.
use Rattle.std.proofs.Common.{List, Result, Ok, Err, MatchResult, IfOk, IfErr, subst, sym}
use Rattle.ev_tree.specs.Grammar.{file}
use Rattle.ev_tree.specs.Printing.{file_tokens}
use Rattle.ev_tree.specs.Rule.{Rule}
use Rattle.ev_parse.specs.Toks.{toks}
use Rattle.ev_print_laws.specs.Spells.{AreSpelled, Spells, printed}
use Rattle.ev_print_laws.proofs.Lexed.{tokens_given}
use Rattle.ev_print_laws.proofs.PrintedFile.{file_prints}
use Rattle.ev_print_laws.proofs.Reread.{text_tokens, text_lexes, text_says}

pub spelled_again : (rules : List Rule) → AreSpelled rules → Spells (printed rules) rules
spelled_again rules a =
    let s = a.spells in
    let p = file_prints rules (toks a.text s.tokens) s.spelled
    (tokens_given a.text s.tokens s.lexed) in
    record {
      tokens = text_tokens (file_tokens rules) p.1;
      lexed = text_lexes (file_tokens rules) p.1;
      spelled = subst (λ ts. file rules ts) (sym (text_says (file_tokens rules) p.1)) p.0;
    }

-- what is said of either answer, of one of them
pub ok_half : {A E : Type 0} (r : Result A E) (P : A → Type 0) (Q : E → Type 0) → MatchResult r P Q
    → IfOk r P
ok_half (Ok a) P Q m = m
ok_half (Err e) P Q m = tt

pub err_half : {A E : Type 0} (r : Result A E) (P : A → Type 0) (Q : E → Type 0) → MatchResult r P Q
    → IfErr r Q
err_half (Ok a) P Q m = tt
err_half (Err e) P Q m = m
