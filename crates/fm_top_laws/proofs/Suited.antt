-- A look that what stands before suits finds nothing.
use Rattle.std.proofs.Common.{◌≡◌, ℕ, ◌^◌, List, [], ◌∷◌, Some, Ok}
use Rattle.std.proofs.Common.{sym, ◌∙◌, ap, subst, arith, slice_get, IfSome}
use Rattle.std.proofs.lemmas.Option.{same_Some}
use Rattle.ev_listing.specs.Listing.{files_bytes}
use Rattle.fm_answers.specs.StreamsAt.{SourceAt}
use Rattle.fm_answers.specs.declared.stops.Stop.{Stop}
use Rattle.fm_core.specs.Book.{greatest_of}
use Rattle.fm_esc.specs.InputListing.{IsListed}
use Rattle.fm_init.specs.Making.{HasStore}
use Rattle.fm_journal.specs.Crash.{IsEmptyOrNone}
use Rattle.fm_logs.specs.Contents.{Contents}
use Rattle.fm_logs.specs.StoreBook.{StoreBook, force_now}
use Rattle.fm_saved.specs.declared.conf.Conf.{Conf}
use Rattle.fm_sources.specs.Sources.{ReadsSources}
use Rattle.fm_sources.specs.declared.sources.Sources.{Sources}
use Rattle.fm_top.specs.GenerateStart.{BeginsEarly, BeginsLate}
use Rattle.fm_top.specs.Kept.{KeepsOther}
use Rattle.fm_top.specs.Order.{Finds, Look, World, at_early, at_files, at_graphs, at_marked}
use Rattle.fm_top.specs.Order.{at_no_store, at_row, at_rules, at_same, at_store, at_topology}
use Rattle.fm_top.specs.Outside.{standing}
use Rattle.fm_top.proofs.BookHeld.{same_book}
use Rattle.fm_top_laws.proofs.FilesListed.{files_have_no_bad}
use Rattle.fm_top_laws.proofs.NoDamage.{RulesHaveNoFault, no_damage}
use Rattle.fm_top_laws.proofs.ToldSources.{files_from, given_told, no_graph_past}
use Rattle.fm_top_laws.proofs.ToldSources.{no_rules_refused, no_topology_refused, texts_read}
use Rattle.fm_top_laws.proofs.ToldSources.{topo_from}
use Rattle.fm_top_laws.specs.Suiting.{AllSuit, KeepsGraphs, Suits}
use Rattle.fm_top_laws.specs.Suiting.{TellsFiles}
use Rattle.fm_top_laws.specs.Valid.{FindNothing}

-- files that the input tells are listed to its end
none_bad : (input input_now : SourceAt) (text : List ℕ) (place : ℕ) → TellsFiles input
    → IsListed standing input input_now text (Some place) → ⊥
none_bad input input_now text place tells listed =
    files_have_no_bad tells.mades listed.mades listed.bytes place tells.spelled
    (given_told (2 ^ 40) input input_now (files_bytes tells.mades) listed.bytes tells.bytes_are
    listed.gave listed.within) listed.files

-- bytes that are empty, or no journal with a payload, are no store
no_store : (bytes : List ℕ) → IsEmptyOrNone bytes → HasStore bytes → ⊥
no_store bytes none (first, payload, payloads, journal) =
    let empty : payload ∷ payloads ≡ [] = none first (payload ∷ payloads) journal in
    absurd (let no : ⊥ = cc in no)

-- a store keeps the texts that were read
keeps_read : (w : World) (keeps : KeepsGraphs w) (got : Sources)
    → ReadsSources standing w.sources w.sources_now (Ok got)
    → KeepsOther keeps.kept.told got → ⊥
keeps_read w keeps got reads other =
    let kept = keeps.kept.is in
    let same : kept.stood.book ≡ other.stood.book =
    (same_book keeps.kept.told kept.stood other.stood).1 in
    let confs : kept.conf ≡ other.conf =
    same_Some kept.conf other.conf
    (sym kept.in_force ∙ ap (λ (k : StoreBook). slice_get k.confs (force_now k)) same
    ∙ other.in_force) in
    let files = files_from w.sources w.sources_now keeps.graphs got reads in
    other.differs (
      sym (ap (λ (c : Conf). c.rules) confs) ∙ kept.rules_are
          ∙ sym (texts_read _ keeps.graphs.told.texts got.files.items files),
      sym (ap (λ (c : Conf). c.topo) confs) ∙ kept.topo_is
          ∙ sym (topo_from w.sources w.sources_now keeps.graphs got reads),
    )

early_not_late : (told : Contents) → BeginsEarly told → BeginsLate told → ⊥
early_not_late told early late =
    let same : greatest_of early.stood.book.book ≡ greatest_of late.stood.book.book =
    ap (λ (k : StoreBook). greatest_of k.book) (same_book told early.stood late.stood).1 in
    omega (arith, early.early, late.late, same)

suited : RulesHaveNoFault → (w : World) (look : Look) → Suits w look → (stop : Stop)
    → Finds w look stop → ⊥
suited no_fault w at_rules suits stop (file, place, kind, is, (at, refused)) =
    no_rules_refused w.sources w.sources_now suits no_fault at file place kind refused
suited no_fault w at_topology suits stop (line, kind, is, refused) =
    no_topology_refused w.sources w.sources_now suits line kind refused
suited no_fault w at_graphs suits stop (file, limit, is, (got, reads, past)) =
    no_graph_past w.sources w.sources_now suits got file limit reads past
suited no_fault w at_files suits stop (place, is, (text, listed)) =
    none_bad w.input w.input_now text place suits listed
suited no_fault w at_no_store (bytes, seen, none) stop (is, has) =
    no_store bytes none (subst (λ o. IfSome o HasStore) seen has)
suited no_fault w at_store suits stop (disk, place, is, found) =
    no_damage no_fault suits.told disk place suits.is (found suits.told suits.are)
suited no_fault w at_same suits stop (is, got, reads, other) =
    keeps_read w suits got reads (other suits.kept.told suits.kept.are)
suited no_fault w (at_marked asked) suits stop (is, found) =
    suits.is (found suits.told suits.are)
suited no_fault w (at_row uuid) suits stop (is, found) = suits.is (found suits.told suits.are)
suited no_fault w at_early suits stop (is, found) =
    early_not_late suits.told suits.is (found suits.told suits.are)

pub all_suited : RulesHaveNoFault → (w : World) (order : List Look) → AllSuit w order
    → FindNothing w order
all_suited no_fault w [] suits = tt
all_suited no_fault w (look ∷ more) suits =
    (suited no_fault w look suits.0, all_suited no_fault w more suits.1)
