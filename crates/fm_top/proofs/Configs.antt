-- What is told of the configuration of a store that was drained.
use Rattle.std.proofs.Common.{◌≡◌, inl, inr, ℕ, List, None, Result, Ok, Err, IfOk, IfErr, sym}
use Rattle.std.proofs.Common.{◌∙◌, ap, subst}
use Rattle.std.specs.Global.{Vec}
use Rattle.dx_engine.specs.Diagnosers.{DiagnoserOf, diagnosers}
use Rattle.fm_admin.proofs.Tellings.{drain_undamaged, drain_why, drained_of, drained_open}
use Rattle.fm_command.specs.declared.words.AdminCommand.TheVariants.{Config}
use Rattle.fm_config.specs.Sizes.{IsConfText}
use Rattle.fm_core.specs.Book.{ModuleState}
use Rattle.fm_core.specs.Hands.{HandOf}
use Rattle.fm_drain.specs.DrainCalls.{AllFollow, DrainDoes, DrainsOnBook, StaysOpen, store_after}
use Rattle.fm_logs.specs.StoreBook.{StoreBook}
use Rattle.fm_logs.specs.declared.disks.DiskName.TheVariants.{Flt}
use Rattle.fm_logs.specs.declared.fault.StoreFault.{StoreFault}
use Rattle.fm_logs.specs.declared.fault.StoreFault.TheVariants.{NoMemory}
use Rattle.fm_outer.specs.declared.disk.Disk.{Ghosts}
use Rattle.fm_saved.specs.declared.conf.Conf.{Conf}
use Rattle.fm_store.specs.StoreOf.{StoreOf, StoreStandsFor}
use Rattle.fm_store.specs.StoreReading.{IsNoDamage}
use Rattle.fm_store.proofs.StoreMoves.{done_at_end}
use Rattle.fm_drain.specs.BaseLimits.{figures_of}
use Rattle.fm_top.specs.Admin.{AdminDone, AdminRefused}
use Rattle.fm_top.specs.Limits.{DrainLimit}
use Rattle.fm_top.proofs.Fmds.{reads_floored}
use Rattle.fm_top.proofs.Texts.{same_counts, told_limit, told_refused}

module _ {D : Type 0} (g : Ghosts D) (old new : StoreOf D DiagnoserOf)
    (hands now : List (HandOf DiagnoserOf)) (conf : Conf) (open_before : old.logs.closed ≡ None)
  where
    open_still : StaysOpen g old new → new.logs.closed ≡ None
    open_still (inl same) = ap (λ (s : StoreOf D DiagnoserOf). s.logs.closed) same ∙ open_before
    open_still (inr stays) = stays.1

    pub conf_done : (done : Unit) (answer : Result (Vec ℕ) StoreFault)
        → DrainDoes g diagnosers old new hands now (Ok done)
        → ((fresh : List ModuleState) (k : StoreBook) → StoreStandsFor g fresh old k
        → AllFollow diagnosers k.book hands
        → DrainsOnBook g diagnosers fresh old new k now (Ok done))
        → IfOk answer (λ text. IsConfText conf text.items)
        → IfErr answer (λ fault. fault ≡ NoMemory)
        → AdminDone g Config old new hands conf answer
    conf_done done (Ok text) drain book told wanted = record {
      was_open = open_before;
      quiet = same_counts g old new
          (drained_open g diagnosers old new hands now done drain
          (open_still drain.answer.open_still));
      refused = tt;
      book = λ fresh k stands follow.
          let drains = book fresh k stands follow in
          let w : StoreBook = store_after drains.works k in
          let there : StoreStandsFor g fresh new w = drains.commits.stands drains.is_open in
          record {
            text_is = told;
            after = λ c left. record {
              now = w;
              drained_is = drained_of k drains.works stands.lawful.lawful
                  (done_at_end g fresh new w there drain.answer.at_end);
              reads = reads_floored g fresh new w there c left;
            };
            undamaged = tt;
            limit = tt;
            left = drains.commits.left;
          };
    }
    conf_done done (Err fault) drain book told wanted = record {
      was_open = open_before;
      quiet = tt;
      refused = subst (AdminRefused g old new) (sym wanted) tt;
      book = λ fresh k stands follow. record {
        text_is = tt;
        after = tt;
        undamaged = subst IsNoDamage (sym wanted) tt;
        limit = subst (DrainLimit (figures_of old) k) (sym wanted) tt;
        left = (book fresh k stands follow).commits.left;
      };
    }

    -- the drain stopped
    pub conf_undone : (fault : StoreFault)
        → DrainDoes g diagnosers old new hands now (Err fault)
        → ((fresh : List ModuleState) (k : StoreBook) → StoreStandsFor g fresh old k
        → AllFollow diagnosers k.book hands
        → DrainsOnBook g diagnosers fresh old new k now (Err fault))
        → AdminDone g Config old new hands conf (Err fault)
    conf_undone fault drain book = record {
      was_open = open_before;
      quiet = tt;
      refused = told_refused g old new hands conf open_before Flt fault
          (drain_why g diagnosers Flt old new hands now fault drain);
      book = λ fresh k stands follow. record {
        text_is = tt;
        after = tt;
        undamaged = drain_undamaged g diagnosers old new now fault drain.answer;
        limit = told_limit g old new hands conf open_before Flt fresh k fault stands follow
            (drain_why g diagnosers Flt old new hands now fault drain);
        left = (book fresh k stands follow).commits.left;
      };
    }
