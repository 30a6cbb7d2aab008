-- The modules, and what is known of them.
use Rattle.std.proofs.Common.{◌≡◌, List, sym, subst, length}
use Rattle.fm_store.specs.Adopting.{KnowAll}
use Rattle.fm_modules.specs.KeptTexts.{ConfMakes, conf_rows}
use Rattle.fm_modules.specs.declared.kept.MadeConf.{MadeConf}
use Rattle.fm_modules.proofs.FirstModules.{few_files, files_alike, first_are, first_know}
use Rattle.fm_modules.proofs.KeptRows.{each_count}
use Rattle.fm_modules.proofs.modules.make_modules.Goals as goal

pub modules_of-requires-clause-count : goal.modules_of-requires-clause-count
modules_of-requires-clause-count c =
    rw c.file_count-count.ensures (few_files c.args.confs.now c.requires)

pub modules_of-requires-clause-there : goal.modules_of-requires-clause-there
modules_of-requires-clause-there c =
    rw (c.file_count-count.ensures, c.as_slice-rows.ensures.value)
    (files_alike c.args.confs.now c.in_ok-mades.mades.items c.requires
    c.in_ok-mades.ensures.make)

pub modules_of-requires-2-clause-count : goal.modules_of-requires-2-clause-count
modules_of-requires-2-clause-count c =
    rw c.file_count-count.ensures (few_files c.args.confs.now c.requires)

pub modules_of-requires-2-clause-there : goal.modules_of-requires-2-clause-there
modules_of-requires-2-clause-there c =
    rw (c.file_count-count.ensures, c.as_slice-rows.ensures.value)
    (files_alike c.args.confs.now c.in_ok-mades.mades.items c.requires
    c.in_ok-mades.ensures.make)

pub returns-clause-first : goal.returns-clause-first
returns-clause-first c =
    rw c.in_ok-kept.ensures
    (first_are c.file_count-count.result (conf_rows c.as_slice-rows.result.now))

pub returns-clause-know : goal.returns-clause-know
returns-clause-know c =
    subst (KnowAll (length c.args.confs.now)) (sym c.in_ok-kept.ensures)
    (first_know c.file_count-count.result (length c.args.confs.now)
    (conf_rows c.as_slice-rows.result.now)
    (subst (λ (l : List MadeConf). length (conf_rows l) ≡ length c.args.confs.now)
    (sym c.as_slice-rows.ensures.value)
    (each_count ConfMakes c.args.confs.now (conf_rows c.in_ok-mades.mades.items)
    c.in_ok-mades.ensures.make)))
