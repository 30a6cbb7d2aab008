-- One entry more, and what is said at it.
use Rattle.std.proofs.Common.{◌∙◌, ◌+◌, sym, arith, refl, length}
use Rattle.std.proofs.lemmas.Option.{slice_get_read}
use Rattle.fm_retrace.proofs.Said.{none_below, said_other, said_next, state_next}
use Rattle.fm_retrace.proofs.words.says_just.Goals as goal

pub entries-init : goal.entries-init
entries-init g c = record {
  number_is = omega arith;
  meaning_is = refl;
  state_is = refl;
  said = sym (none_below (c.args.first + 0) c.args.record.now (omega (arith, c.requires.some)));
}

pub returns-then-not-branch-clause-no : goal.returns-then-not-branch-clause-no
returns-then-not-branch-clause-no g c = λ _.
    said_other (g.M.Module.meaning c.args.object.now) (g.M.Module.state c.args.object.now)
    c.args.first c.args.entries.now c.args.record.now c.entries.entry-index c.entry-item.result
    c.entries.number (g.M.Module.meaning c.entries.object) (g.M.Module.state c.entries.object)
    c.in_ok-words.words.items
    (slice_get_read c.args.entries.now (length c.args.entries.now) c.entries.entry-index
    c.entry-item.result refl c.entries-test.true c.entry-item.is)
    c.requires.last c.requires.own c.entries.invariant.number_is c.entries.invariant.meaning_is
    c.entries.invariant.state_is c.entries.invariant.said c.in_ok-words.ensures.says
    (c.in_ok-says_at.ensures.no c.if-not-branch.true)

pub entries-preserved : goal.entries-preserved
entries-preserved g c =
    let there = slice_get_read c.args.entries.now (length c.args.entries.now)
    c.entries.entry-index c.entry-item.result refl c.entries-test.true c.entry-item.is in
    record {
      number_is = omega (arith, c.entries.invariant.number_is);
      meaning_is = c.step.ensures.kept ∙ c.entries.invariant.meaning_is;
      state_is = state_next (g.M.Module.meaning c.args.object.now)
          (g.M.Module.state c.args.object.now) c.args.first c.args.entries.now c.args.record.now
          c.entries.entry-index c.entry-item.result c.entries.number
          (g.M.Module.meaning c.entries.object) (g.M.Module.state c.entries.object)
          c.in_ok-words.words.items there c.requires.last c.requires.own
          c.entries.invariant.number_is c.entries.invariant.meaning_is
          c.entries.invariant.state_is c.entries.invariant.said
          (g.M.Module.state c.step.new.self) c.in_ok-words.ensures.after;
      said = said_next (g.M.Module.meaning c.args.object.now)
          (g.M.Module.state c.args.object.now) c.args.first c.args.entries.now c.args.record.now
          c.entries.entry-index c.entry-item.result c.entries.number
          (g.M.Module.meaning c.entries.object) (g.M.Module.state c.entries.object)
          c.in_ok-words.words.items there c.requires.last c.requires.own
          c.entries.invariant.number_is c.entries.invariant.meaning_is
          c.entries.invariant.state_is c.entries.invariant.said c.in_ok-words.ensures.says
          (c.in_ok-says_at.ensures.yes c.if-not-branch.false);
    }
