use Rattle.std.proofs.Common.{lit<, ◌∙◌, sym, ap}
use Rattle.fm_text.specs.Time.{value_of}
use Rattle.fm_text.specs.Time.{moment_from}
use Rattle.fm_text.proofs.Reading.{time_some, time_none}
use Rattle.fm_text.proofs.times.read_time.Goals as goal

pub returns-in-Some : goal.returns-in-Some
returns-in-Some c = let h = c.in-Some.ensures.byte (lit< tt) (λ w o f. f) in
    c.moment_at.ensures
    ∙ (ap (λ o. moment_from (value_of c.in-Some.seconds.now) o) c.read_fraction.ensures
    ∙ sym (time_some c.args.text.now c.in-Some.seconds.now c.in-Some.fraction.now h.0 h.1 h.2))

pub returns-in-None : goal.returns-in-None
returns-in-None c = c.moment_at-in-None.ensures
    ∙ sym (time_none c.args.text.now (c.in-None.ensures.byte (lit< tt) (λ w o f. f)))
