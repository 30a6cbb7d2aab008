-- Configurations along entries, and what two modules do alike.
use Rattle.std.proofs.Common.{◌≡◌, ℕ, ◌+◌, ◌<◌, List, [], ◌∷◌, ◌++◌, Option, Some, None}
use Rattle.std.proofs.Common.{Bool, true, false, cond, refl, sym, ◌∙◌, ap, subst}
use Rattle.std.proofs.Common.{nat_lt, ◌&&◌}
use Rattle.std.proofs.lemmas.Option.{same_Some}
use Rattle.std.specs.List.{AllByRecursion}
use Rattle.fm_entry.specs.declared.entry.Entry.{Entry}
use Rattle.fm_entry.specs.declared.entry.Entry.TheVariants.{Report, Tick, Repaired, Replaced}
use Rattle.fm_entry.specs.declared.entry.Entry.TheVariants.{Acquit, Reload}
use Rattle.fm_core.specs.Meaning.{State, Meaning, conf_after, conf_of, after_of, says_of}
use Rattle.fm_core.specs.Folds.{state_along, words_along, records_at}
use Rattle.fm_core.specs.Configurations.{conf_along, IsKnown, NamesKnown, KnowsMore, AgreeAlong}

-- the configuration of the state along entries
pub conf_is : (m : Meaning) (s : State) (n : ℕ) (es : List Entry)
    → conf_of m (state_along m s n es) ≡ conf_along m.known (conf_of m s) es
conf_is m s n [] = refl
conf_is m s n (e ∷ es) =
    conf_is m (after_of m s n e) (n + 1) es
    ∙ ap (λ conf. conf_along m.known conf es) (m.conf_steps s n e)

known_of : (known c conf : ℕ) (above : Bool) → c < known → conf < known
    → IsKnown known (Some (cond above conf c))
known_of known c conf true old new = λ x got. subst (λ y. y < known) (same_Some conf x got) new
known_of known c conf false old new = λ x got. subst (λ y. y < known) (same_Some c x got) old

-- a configuration that is known stays so
known_after : (known : ℕ) (conf : Option ℕ) (e : Entry) → IsKnown known conf → NamesKnown known e
    → IsKnown known (conf_after known conf e)
known_after known None e h names = h
known_after known (Some c) (Reload conf moment) h names =
    known_of known c conf (nat_lt c conf && nat_lt conf known) (h c refl) names
known_after known (Some c) (Report class path moment payload) h names = h
known_after known (Some c) (Tick moment) h names = h
known_after known (Some c) (Repaired path moment) h names = h
known_after known (Some c) (Replaced path moment) h names = h
known_after known (Some c) (Acquit case moment) h names = h

pub alike : (m longer : Meaning) (s : State) (n : ℕ) (es : List Entry) → KnowsMore m longer
    → IsKnown m.known (conf_of m s) → AllByRecursion (NamesKnown m.known) es
    → AgreeAlong m longer s n es
alike m longer s n [] more known names = record { state_same = refl; words_same = refl }
alike m longer s n (e ∷ es) more known names =
    let after : after_of longer s n e ≡ after_of m s n e = more.after_same s n e known names.0 in
    let says : says_of longer s n e ≡ says_of m s n e = more.says_same s n e known names.0 in
    let still : IsKnown m.known (conf_of m (after_of m s n e)) =
    subst (IsKnown m.known) (sym (m.conf_steps s n e))
    (known_after m.known (conf_of m s) e known names.0) in
    let rest : AgreeAlong m longer (after_of m s n e) (n + 1) es =
    alike m longer (after_of m s n e) (n + 1) es more still names.1 in
    let own : records_at longer.own n (says_of longer s n e)
    ≡ records_at m.own n (says_of m s n e) =
    ap (λ own. records_at own n (says_of longer s n e)) more.own_same
    ∙ ap (records_at m.own n) says in
    record {
      state_same = ap (λ t. state_along longer t (n + 1) es) after ∙ rest.state_same;
      words_same = ap (λ rs. rs ++ words_along longer (after_of longer s n e) (n + 1) es) own
          ∙ ap (λ t. records_at m.own n (says_of m s n e) ++ words_along longer t (n + 1) es) after
          ∙ ap (λ rs. records_at m.own n (says_of m s n e) ++ rs) rest.words_same;
    }
