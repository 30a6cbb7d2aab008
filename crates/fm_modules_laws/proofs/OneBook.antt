-- Contents read as one book of the modules that their own configurations make.
use Rattle.std.proofs.Common.{◌≡◌, List, sym, subst}
use Rattle.fm_core.specs.Book.{ModuleState}
use Rattle.fm_logs.specs.Contents.{Contents}
use Rattle.fm_logs.specs.ReadsAsBook.{ReadsAsBook, SpellsConf}
use Rattle.fm_logs.specs.StoreBook.{StoreBook}
use Rattle.fm_looks.proofs.Spelled.{conf_once}
use Rattle.fm_saved.specs.declared.conf.Conf.{Conf}
use Rattle.fm_store.proofs.Damages.{same_log}
use Rattle.fm_store.proofs.OpeningLaws.{books_are_one}
use Rattle.fm_modules.specs.Modules.{AreModulesOf}
use Rattle.fm_modules_laws.proofs.OneRow.{modules_one}

-- the configurations of a book are those that the contents spell, whatever its modules are
confs_one : (c : Contents) (fresh others : List ModuleState) (k l : StoreBook)
    → ReadsAsBook fresh c k → ReadsAsBook others c l → k.confs ≡ l.confs
confs_one c fresh others k l a b =
    (same_log SpellsConf conf_once c.conf a.says.conf_first b.says.conf_first k.confs l.confs
    a.says.confs b.says.confs).1

pub books_one : (c : Contents) (fresh others : List ModuleState) (k l : StoreBook)
    → AreModulesOf k.confs fresh → ReadsAsBook fresh c k → AreModulesOf l.confs others
    → ReadsAsBook others c l → (fresh ≡ others) × (k ≡ l)
books_one c fresh others k l made a remade b =
    let confs : k.confs ≡ l.confs = confs_one c fresh others k l a b in
    let modules : fresh ≡ others =
    modules_one k.confs fresh others made
    (subst (λ (l : List Conf). AreModulesOf l others) (sym confs) remade) in (
      modules,
      books_are_one fresh c k l a
          (subst (λ (ms : List ModuleState). ReadsAsBook ms c l) (sym modules) b),
    )
