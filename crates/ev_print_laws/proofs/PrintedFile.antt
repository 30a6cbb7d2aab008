-- What is printed spells what was spelled: patterns, statements and whole files.
use Rattle.std.proofs.Common.{List, [], ◌∷◌, refl, codes}
use Rattle.ev_tree.specs.Grammar.{condition, pattern, side, event_of, engine_of, prop_of, statement}
use Rattle.ev_tree.specs.Grammar.{file}
use Rattle.ev_tree.specs.Language.{each}
use Rattle.ev_tree.specs.declared.print_conditions.Level.TheVariants.{Whole}
use Rattle.ev_tree.specs.Printing.{show, guard_tokens, pattern_tokens, side_tokens, rule_tokens}
use Rattle.ev_tree.specs.Printing.{file_tokens}
use Rattle.ev_tree.specs.Rule.{Rule}
use Rattle.ev_tree.specs.Tok.{Tok}
use Rattle.ev_print_laws.proofs.Printed.{Prints, class_prints, sign_before, sign_behind}
use Rattle.ev_print_laws.proofs.Printed.{pair_prints, made_prints, either_prints, maybe_prints}
use Rattle.ev_print_laws.proofs.Printed.{behind_prints, between_prints, declared_prints}
use Rattle.ev_print_laws.proofs.Printed.{event_attr_prints, engine_attr_prints, arrow_count_prints}
use Rattle.ev_print_laws.proofs.Printed.{part_prints}
use Rattle.ev_print_laws.proofs.Real.{AllReal, GivenAll, all_append, given_front, given_back}
use Rattle.ev_print_laws.proofs.Real.{at_real, slash_real, comma_real, semi_real, arrow_real}
use Rattle.ev_print_laws.proofs.Real.{open_brace_real, close_brace_real, event_real, engine_real}
use Rattle.ev_print_laws.proofs.Real.{prop_real}
use Rattle.ev_print_laws.proofs.Shown.{condition_prints}

guard_prints : Prints condition (show Whole)
unfolding condition
guard_prints = condition_prints 64

pub pattern_prints : Prints pattern pattern_tokens
unfolding pattern
pattern_prints =
    record {
      prints = λ p ts s g.
          (pair_prints class_prints (sign_before (codes "@") at_real
          (pair_prints (between_prints (codes "/") slash_real part_prints)
          (maybe_prints guard_tokens refl (λ c. refl)
          (sign_before (codes "{") open_brace_real
          (sign_behind (codes "}") close_brace_real guard_prints)))))).prints
          (p.class, (p.parts, p.cond)) ts s g;
    }

pub side_prints : Prints side side_tokens
unfolding side
side_prints = between_prints (codes ",") comma_real pattern_prints

pub statement_prints : Prints statement rule_tokens
unfolding statement
statement_prints =
    either_prints
    (made_prints event_of rule_tokens (λ p. refl)
    (sign_before (codes "event") event_real (pair_prints declared_prints
    (sign_behind (codes ";") semi_real (behind_prints (codes ",") comma_real event_attr_prints)))))
    (either_prints
    (made_prints engine_of rule_tokens (λ p. refl)
    (sign_before (codes "engine") engine_real (pair_prints declared_prints
    (sign_behind (codes ";") semi_real (behind_prints (codes ",") comma_real engine_attr_prints)))))
    (made_prints prop_of rule_tokens (λ p. refl)
    (sign_before (codes "prop") prop_real
    (pair_prints side_prints (pair_prints arrow_count_prints
    (sign_before (codes "->") arrow_real
    (pair_prints arrow_count_prints (sign_behind (codes ";") semi_real side_prints))))))))

statements_print : (rs : List Rule) (ts : List Tok) → each statement rs ts → GivenAll ts
    → each statement rs (file_tokens rs) × AllReal (file_tokens rs)
statements_print [] ts w g = (refl, tt)
statements_print (r ∷ rs) ts w g =
    let p = statement_prints.prints r w.front w.first (given_front ts w.front w.back w.parts g) in
    let t = statements_print rs w.back w.second (given_back ts w.front w.back w.parts g) in (
      record {
        front = rule_tokens r;
        back = file_tokens rs;
        parts = refl;
        first = p.0;
        second =
            t.0;
      },
      all_append (rule_tokens r) (file_tokens rs) p.1 t.1,
    )

pub file_prints : (rs : List Rule) (ts : List Tok) → file rs ts → GivenAll ts
    → file rs (file_tokens rs) × AllReal (file_tokens rs)
unfolding file
file_prints rs ts w g = statements_print rs ts w g
