use Rattle.fm_core.proofs.Calls.{step_hands, step_words, step_kept}
use Rattle.fm_core.proofs.cores.advance_at.Goals as goal

pub returns-clause-hand : goal.returns-clause-hand
returns-clause-hand g c =
    step_hands g.M.Module c.advance.result c.args.hands.now.items c.args.at
    c.index_mut-hand.result.now
    c.advance.new.self c.args.entry.now c.requires.inside c.index_mut-hand.ensures.value
    c.advance.ensures.hand

pub returns-clause-words : goal.returns-clause-words
returns-clause-words g c =
    step_words g.M.Module c.advance.result c.args.hands.now.items c.args.at
    c.index_mut-hand.result.now
    c.args.entry.now c.requires.inside c.index_mut-hand.ensures.value c.advance.ensures.words

pub returns-clause-err : goal.returns-clause-err
returns-clause-err g c =
    step_kept g.M.Module c.advance.result c.args.hands.now.items c.args.at
    c.index_mut-hand.result.now
    c.advance.new.self c.index_mut-hand.ensures.value c.advance.ensures.err
