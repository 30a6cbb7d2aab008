use Rattle.std.proofs.Common.{◌≡◌, ◌∙◌, sym, rules, None, Some}
use Rattle.fm_topo.specs.Fault.{entry_fault}
use Rattle.fm_topo.specs.Line.{path_of, words_of}
use Rattle.fm_topo.proofs.Faulty.{set_stops}
use Rattle.fm_topo.proofs.entries.read_entry.Goals as goal

pub returns-in-Some-3-clause-err : goal.returns-in-Some-3-clause-err
returns-in-Some-3-clause-err c =
    set_stops c.args.found.now.entries (path_of c.args.content.now) c.in-Some.path
    (words_of c.args.content.now) c.in-Some-2.pairs.map.entries c.in-Some-2.pairs.count
    (Some c.in-Some-3.kind) (search rules) (search rules) (search rules) (search rules)
    (search rules) (sym c.in-Some-3.is ∙ c.in_ok-kind.ensures)

pub returns-clause-ok : goal.returns-clause-ok
returns-clause-ok c =
    let fault : entry_fault c.args.found.now.entries (path_of c.args.content.now)
    (words_of c.args.content.now) ≡ None =
    set_stops c.args.found.now.entries (path_of c.args.content.now) c.in-Some.path
    (words_of c.args.content.now) c.in-Some-2.pairs.map.entries c.in-Some-2.pairs.count
    None (search rules) (search rules) (search rules) (search rules) (search rules) (search rules)
    in
    (fault, search rules, search rules)
