use Rattle.std.proofs.Common.{refl}
use Rattle.fm_answers.proofs.Tallies.{few_spoken, text_is}
use Rattle.fm_answers.proofs.tally.Tally.text.Goals as goal

pub summary-requires-clause-fits : goal.summary-requires-clause-fits
summary-requires-clause-fits c =
    few_spoken c.args.self.now c.drain.new.self c.requires.ready c.drain.ensures.worked
    c.in_ok-drain.ensures.done

pub returns-clause-text : goal.returns-clause-text
returns-clause-text c = λ entries sum.
    text_is c.args.self.now
    (record {
      core = c.drain.new.self;
      spoken = c.args.self.now.spoken;
      room =
          c.args.self.now.room;
    }) entries _
    c.requires.ready c.drain.ensures.worked refl c.in_ok-drain.ensures.done c.in_ok-summary.ensures
    sum
