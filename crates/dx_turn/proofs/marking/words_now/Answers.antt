use Rattle.std.proofs.Common.{◌∙◌, subst, sym, IsTrue}
use Rattle.ev_incidence.specs.Sets.{ascends}
use Rattle.dx_state.specs.LawfulState.{solved_numbers}
use Rattle.dx_turn.specs.Turning.{made_or}
use Rattle.dx_turn.proofs.Marks.{ascend_before}
use Rattle.dx_turn.proofs.marking.words_now.Goals as goal

pub put_words-requires : goal.put_words-requires
put_words-requires c =
    let told = c.args.told.now in
    subst (λ ws. IsTrue (ascends (solved_numbers ws)))
    (sym (c.in_ok-words.ensures ∙ c.words_before.ensures))
    (ascend_before told.solved (made_or told.marked c.args.ground.now.last_words.now) c.requires)
