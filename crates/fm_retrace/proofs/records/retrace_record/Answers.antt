-- The module of the record says it next, or it does not.
use Rattle.std.proofs.Common.{◌+◌, arith, length, refl}
use Rattle.fm_retrace.proofs.Come.{own_number, meanings_kept, take_yes, take_no, take_none}
use Rattle.fm_retrace.proofs.Come.{within_set}
use Rattle.fm_retrace.proofs.records.retrace_record.Goals as goal

pub returns-then-at-len-clause-no : goal.returns-then-at-len-clause-no
returns-then-at-len-clause-no g c = λ _ k records has so_far come.
    take_none g.M.Module k records c.args.record.now c.args.modules.now.items
    (omega (arith, c.if-at-len.true, c.len.ensures, c.args.modules.now.ok.0)) come

pub take-requires-clause-own : goal.take-requires-clause-own
take-requires-clause-own g c κs within =
    own_number g.M.Module c.args.modules.now.items c.args.record.now.module
    c.index_mut-own.result.now
    (omega (arith, c.if-at-len.false, c.len.ensures, c.args.modules.now.ok.0))
    c.index_mut-own.ensures.value c.requires.numbered

pub returns-clause-kept : goal.returns-clause-kept
returns-clause-kept g c =
    meanings_kept g.M.Module c.args.modules.now.items c.args.record.now.module
    c.index_mut-own.result.now
    (omega (arith, c.if-at-len.false, c.len.ensures, c.args.modules.now.ok.0))
    c.index_mut-own.ensures.value c.take.new.self c.take.ensures.kept

pub returns-clause-yes : goal.returns-clause-yes
returns-clause-yes g c =
    take_yes g.M.Module c.args.modules.now.items c.args.record.now.module
    c.index_mut-own.result.now
    (omega (arith, c.if-at-len.false, c.len.ensures, c.args.modules.now.ok.0))
    c.index_mut-own.ensures.value c.args.base c.args.entries.now c.args.record.now refl
    c.take.new.self c.take.result c.take.ensures.yes c.take.ensures.past c.take.ensures.taken
    c.take.ensures.kept

pub returns-clause-no : goal.returns-clause-no
returns-clause-no g c =
    take_no g.M.Module c.args.modules.now.items c.args.record.now.module
    c.index_mut-own.result.now
    (omega (arith, c.if-at-len.false, c.len.ensures, c.args.modules.now.ok.0))
    c.index_mut-own.ensures.value c.args.base c.args.entries.now c.args.record.now refl
    c.take.new.self c.take.result c.take.ensures.no

pub returns-clause-within : goal.returns-clause-within
returns-clause-within g c =
    within_set g.M.Module c.args.modules.now.items c.args.record.now.module
    c.index_mut-own.result.now
    (omega (arith, c.if-at-len.false, c.len.ensures, c.args.modules.now.ok.0))
    c.index_mut-own.ensures.value (c.args.base + length c.args.entries.now) c.take.new.self
    c.take.ensures.within
