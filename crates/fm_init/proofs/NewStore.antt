-- The contents of a new store read as its book.
use Rattle.std.proofs.Common.{◌≡◌, ℕ, List, [], ◌∷◌, false, Option, Some, None}
use Rattle.std.proofs.Common.{refl, sym, ◌∙◌, subst, arith, slice_get}
use Rattle.std.specs.Option.{option_map}
use Rattle.std.proofs.lemmas.List.{length-map}
use Rattle.std.proofs.lemmas.Option.{slice_get-map, slice_get_within, same_Some}
use Rattle.fm_core.specs.Book.{ModuleState, IsPlaced}
use Rattle.fm_saved.specs.Confs.{IsSpelledConf, conf_bytes}
use Rattle.fm_saved.specs.declared.conf.Conf.{Conf}
use Rattle.fm_saved.specs.declared.checkpoint.Checkpoint.{Checkpoint}
use Rattle.fm_logs.specs.Contents.{Contents}
use Rattle.fm_logs.specs.ReadsAsBook.{ReadsAsBook}
use Rattle.fm_logs.specs.StoreBook.{IsLawfulStore, AreOfOneStore}
use Rattle.fm_init.specs.Making.{IsNewStore, AreFirstModules, new_book}
use Rattle.fm_core.proofs.Options.{none_some}

-- before any slot is open
abbrev first_checkpoint : Checkpoint
first_checkpoint = record { second = false; base = 0; moment = 0; conf = 0; states = [] }

-- each cursor is 0
zero_there : {A : Type 0} (o : Option A) (c : ℕ) → option_map (λ _. 0) o ≡ Some c → c ≡ 0
zero_there None c at = absurd (none_some refl at)
zero_there (Some x) c at = sym (same_Some 0 c at)

first_placed : (fresh : List ModuleState) (conf : Conf) (i : ℕ) (p : ModuleState) (c : ℕ)
    → AreFirstModules fresh → slice_get fresh i ≡ Some p → c ≡ 0
    → IsPlaced (new_book fresh conf).book i p c
first_placed fresh conf i p c first at none =
    subst (λ (n : ℕ). IsPlaced (new_book fresh conf).book i p n) (sym none) (record {
      numbered = first.numbered i p at;
      from_base = omega arith;
      to_end = omega arith;
      ascending = tt;
      exact = refl;
    })

-- a list of one configuration is of one store
one_conf : (conf first : Conf) (i : ℕ) (other : Conf) → slice_get (conf ∷ []) 0 ≡ Some first
    → slice_get (conf ∷ []) i ≡ Some other → AreOfOneStore first other
one_conf conf first i other at_first at =
    let within = slice_get_within (conf ∷ []) i other at in
    let none : i ≡ 0 = omega (arith, within) in
    let same : first ≡ other = same_Some first other
    (sym at_first ∙ subst (λ (n : ℕ). slice_get (conf ∷ []) n ≡ Some other) none at) in
    subst (λ (x : Conf). AreOfOneStore first x) same
    (record { same_namespace = refl; same_count = refl })

first_lawful : (fresh : List ModuleState) (conf : Conf) → AreFirstModules fresh
    → IsLawfulStore (new_book fresh conf)
first_lawful fresh conf first = record {
  some_confs = omega arith;
  few_confs = omega arith;
  confs_are = one_conf conf;
  known = omega arith;
  of_conf = first.of_first;
  reloads = tt;
  lawful = record {
    as_many = length-map fresh (λ _. 0);
    named = tt;
    placed = λ i p c at cursor. first_placed fresh conf i p c first at
        (zero_there (slice_get fresh i) c
        (sym (slice_get-map (λ (q : ModuleState). 0) fresh i) ∙ cursor));
  };
}

pub new_reads : (fresh : List ModuleState) (c : Contents) (conf : Conf) → IsSpelledConf conf
    → AreFirstModules fresh → IsNewStore c conf → ReadsAsBook fresh c (new_book fresh conf)
new_reads fresh c conf spelled first new = record {
  second = false;
  says = record {
    conf_first = 0;
    confs = record {
      payloads = conf_bytes conf ∷ [];
      journal = new.conf_is;
      spelled = ((spelled, refl), tt);
    };
    found = None;
    in_force = (None, None, new.no_first_slot, new.no_second_slot, refl);
    checkpoint = first_checkpoint;
    says = (
      record { in_first = refl; at_start = refl; no_moment = refl; first_conf = refl },
      refl,
    );
    second_is = refl;
    base_is = refl;
    moment_is = refl;
    force_is = refl;
  };
  first = 0;
  entries = [];
  active = record { payloads = []; journal = new.no_entries; spelled = tt };
  begins = omega arith;
  reaches = omega arith;
  entries_are = refl;
  flt_first = 0;
  records = record { payloads = []; journal = new.no_records; spelled = tt };
  at_floors = refl;
  lawful = first_lawful fresh conf first;
}
