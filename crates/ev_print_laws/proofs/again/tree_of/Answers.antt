use Rattle.std.proofs.Common.{◌≡◌, ◌∙◌, sym, subst}
use Rattle.ev_tree.specs.Grammar.{file}
use Rattle.ev_parse.specs.Toks.{toks}
use Rattle.ev_parse.specs.declared.fault.ParseFault.TheVariants as parse_faults
use Rattle.ev_lex.specs.declared.fault.LexFault.TheVariants as lex_faults
use Rattle.ev_print_laws.proofs.again.tree_of.Goals as goal

pub returns-in-Ok-parse : goal.returns-in-Ok-parse
returns-in-Ok-parse c = λ rules s.
    c.in-Ok-parse.ensures.only rules
    (subst (λ ts. file rules (toks c.args.text.now ts))
    (sym (c.as_slice.ensures.value ∙ c.in-Ok.ensures.only s.tokens s.lexed)) s.spelled)

pub returns-in-Ok : goal.returns-in-Ok
returns-in-Ok c = λ rules s.
    let is = c.in-Err-At-parse.field-0-is in
    let never : c.in-Err-At-parse.field-0 ≡ parse_faults.NoMemory =
    c.in-Err-At-parse.ensures.only rules
    (subst (λ ts. file rules (toks c.args.text.now ts))
    (sym (c.as_slice.ensures.value ∙ c.in-Ok.ensures.only s.tokens s.lexed)) s.spelled) in
    absurd (cc)

pub returns : goal.returns
returns c = λ rules s.
    let is = c.in-Err-At.field-0-is in
    let never : c.in-Err-At.field-0 ≡ lex_faults.NoMemory =
    c.in-Err-At.ensures.only s.tokens s.lexed in
    absurd (cc)
