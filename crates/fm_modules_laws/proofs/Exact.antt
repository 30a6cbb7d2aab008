-- What the modules of kept texts say in a drained book has exact suspects.
use Rattle.std.proofs.Common.{◌≡◌, ℕ, ◌-◌, ◌≤◌, ◌^◌, List, [], ◌∷◌, ◌++◌, length, ap, subst}
use Rattle.std.proofs.Common.{arith}
use Rattle.std.specs.List.{All, AllByRecursion, AllZip}
use Rattle.std.proofs.lemmas.List.{append-nil, length-drop}
use Rattle.std.proofs.lemmas.List.Elements.{All-from_recursion, recursion_from_All}
use Rattle.fm_entry.specs.Entries.{IsSpelled}
use Rattle.fm_entry.specs.declared.entry.Entry.{Entry}
use Rattle.fm_outer.specs.declared.disk.Disk.{Ghosts}
use Rattle.fm_core.specs.Book.{Book, ModuleState, next_number, with_entries}
use Rattle.fm_core.specs.Drained.{Drained}
use Rattle.fm_core.proofs.Lists.{all_append}
use Rattle.fm_payloads.specs.Spelling.{EachSpells}
use Rattle.fm_logs.specs.Contents.{Contents}
use Rattle.fm_logs.specs.ReadsAsBook.{ReadsAsBook, SpellsEntry}
use Rattle.fm_logs.specs.StoreBook.{StoreBook, with_book}
use Rattle.fm_looks.proofs.Spelled.{each_counted}
use Rattle.fm_saved.specs.declared.conf.Conf.{Conf}
use Rattle.fm_store.specs.StoreLeft.{ReadsLike}
use Rattle.fm_store.specs.StoreOf.{StoreOf, StoreStandsFor}
use Rattle.dx_state.specs.Configured.{Configuration}
use Rattle.dx_along.specs.ExactAlong.{IsDiagnoserOf, IsExactBook}
use Rattle.dx_along.proofs.Books.{entries_on_disks, exact_book, loaded_all, modules_on_disks}
use Rattle.dx_observed.specs.ObservedBook.{ExplainsBook}
use Rattle.dx_observed.proofs.Books.{explained_book}
use Rattle.fm_modules.specs.Modules.{AreModulesOf, file_count}
use Rattle.fm_modules_laws.specs.ExactSuspects.{HasExactSuspects, rules_by_file}
use Rattle.fm_modules_laws.proofs.FirstModules.{firsts_are}
use Rattle.fm_modules_laws.proofs.OneRow.{rows_one}

-- a book of modules that are made with the rules of kept texts
book_exact : {confs : List Conf} {fresh : List ModuleState} (made : AreModulesOf confs fresh)
    (k : Book) → AllZip IsDiagnoserOf (rules_by_file (file_count confs) made.rows) k.modules
    → next_number k ≤ 2 ^ 46 → All IsSpelled k.entries → HasExactSuspects made k
book_exact {confs = confs} made k are few spelled = record {
  exact = exact_book (rules_by_file (file_count confs) made.rows) k are few spelled;
  explains = explained_book (rules_by_file (file_count confs) made.rows) k are few spelled;
}

-- whichever rows the configurations are said to make
pub exact_again : {confs : List Conf} {fresh others : List ModuleState}
    (made : AreModulesOf confs fresh) (again : AreModulesOf confs others) (k : Book)
    → HasExactSuspects made k → HasExactSuspects again k
exact_again {confs = confs} made again k h =
    let rows : made.rows ≡ again.rows =
    rows_one confs made.rows again.rows made.make again.make in
    record {
      exact = subst (λ (rs : List (List Configuration)).
          IsExactBook (rules_by_file (file_count confs) rs) k) rows h.exact;
      explains = subst (λ (rs : List (List Configuration)).
          ExplainsBook (rules_by_file (file_count confs) rs) k) rows h.explains;
    }

-- ---- the book that a store stands for

-- the entries behind others that payloads spell
spelled_behind : (payloads : List (List ℕ)) (older es : List Entry)
    → EachSpells SpellsEntry payloads (older ++ es) → AllByRecursion IsSpelled es
spelled_behind [] [] [] each = tt
spelled_behind (p ∷ ps) [] (e ∷ es) each = (each.0.0, spelled_behind ps [] es each.1)
spelled_behind (p ∷ ps) (o ∷ older) es each = spelled_behind ps older es each.1
spelled_behind [] [] (e ∷ es) each = absurd each
spelled_behind (p ∷ ps) [] [] each = absurd each
spelled_behind [] (o ∷ older) es each = absurd each

pub stands_exact : {D M : Type 0} (g : Ghosts D) (fresh : List ModuleState) (store : StoreOf D M)
    (k : StoreBook) (more : List Entry) (made : AreModulesOf k.confs fresh)
    → StoreStandsFor g fresh store k → next_number (with_entries k.book more) ≤ 2 ^ 46
    → All IsSpelled more → HasExactSuspects made (with_entries k.book more)
stands_exact g fresh store k more made stands few spelled =
    let firsts = firsts_are stands.conf_payloads k.confs fresh stands.confs_spelled
    stands.lawful.some_confs stands.lawful.few_confs made in
    let own : AllByRecursion IsSpelled k.book.entries =
    subst (AllByRecursion IsSpelled) stands.entries_are
    (spelled_behind stands.keep.entry_payloads stands.older store.logs.entries
    stands.keep.entries_spelled) in
    book_exact made (with_entries k.book more)
    (loaded_all (rules_by_file (file_count k.confs) made.rows) fresh store.base.states
    k.book.modules firsts stands.loaded) few
    (All-from_recursion IsSpelled (k.book.entries ++ more)
    (all_append IsSpelled k.book.entries more own (recursion_from_All IsSpelled more spelled)))

-- ---- the book that contents read as
pub contents_exact : (fresh : List ModuleState) (c : Contents) (k : StoreBook) (more : List Entry)
    (made : AreModulesOf k.confs fresh) → ReadsAsBook fresh c k
    → next_number (with_entries k.book more) ≤ 2 ^ 46 → All IsSpelled more
    → HasExactSuspects made (with_entries k.book more)
contents_exact fresh c k more made reads few spelled =
    let log = reads.says.confs in
    let firsts = firsts_are log.payloads k.confs fresh log.spelled reads.lawful.some_confs
    reads.lawful.few_confs made in
    book_exact made (with_entries k.book more)
    (modules_on_disks (rules_by_file (file_count k.confs) made.rows) fresh c k firsts reads) few
    (entries_on_disks fresh c k more reads spelled)

-- the entries of such a book have numbers below 2^46
pub few_read : (fresh : List ModuleState) (c : Contents) (k : StoreBook) → ReadsAsBook fresh c k
    → next_number k.book ≤ 2 ^ 46
few_read fresh c k reads =
    let log = reads.active in
    omega (
      arith,
      log.journal.begins.limits.numbered,
      each_counted SpellsEntry log.payloads reads.entries log.spelled,
      ap length reads.entries_are,
      length-drop (k.book.base - reads.first) reads.entries,
      reads.begins,
      reads.reaches,
    )

-- and so has the book from before with what an image of the disks has more
pub image_exact : (fresh : List ModuleState) (c image : Contents) (k : StoreBook)
    (more : List Entry) (made : AreModulesOf k.confs fresh) → ReadsAsBook fresh c k
    → ReadsLike fresh (with_book k (with_entries k.book more)) image → All IsSpelled more
    → HasExactSuspects made (with_entries k.book more)
image_exact fresh c image k more made reads like spelled =
    contents_exact fresh c k more made reads
    (omega (
      arith,
      few_read fresh image like.read like.reads,
      ap (λ (d : Drained). d.count) (like.alike []),
      ap length (append-nil like.read.book.entries),
      ap length (append-nil (k.book.entries ++ more)),
    ))
    spelled
