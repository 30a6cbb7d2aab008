-- Hands: an object of a module with the place that it has come to.
use Rattle.std.specs.Prelude.{ℕ, ◌+◌, refl}
use Rattle.std.specs.Coded.{Coded, code_by, coded×, coded_ℕ}
use Rattle.fm_entry.specs.declared.entry.Entry.{Entry}
use Rattle.fm_entry.specs.declared.spoken.Spoken.{Spoken}
use Rattle.fm_core.specs.declared.module.Module.{Ghosts}
use Rattle.fm_core.specs.Meaning.{Meaning, State, after_of, says_of}

-- a hand: the module's number, the number of the next entry to take, and the object
pub record HandOf (M : Type 0) : Type 0 where
  pub number : ℕ
  pub cursor : ℕ
  pub object : M

-- a hand is stored as its fields
abbrev pub hand_code : {M : Type 0} → Coded M → Coded (HandOf M)
hand_code {M = M} code =
    code_by (ℕ × (ℕ × M)) (coded× coded_ℕ (coded× coded_ℕ code))
    (λ h. (h.number, (h.cursor, h.object)))
    (λ p. record { number = p.0; cursor = p.1.0; object = p.1.1 }) (λ _. refl)

-- what shows of a hand: all but how the object is made inside
pub record Shown : Type 0 where
  pub number : ℕ
  pub cursor : ℕ
  pub meaning : Meaning
  pub state : State

abbrev pub shown : {M : Type 0} → Ghosts M → HandOf M → Shown
shown g h =
    record {
      number = h.number;
      cursor = h.cursor;
      meaning = g.meaning h.object;
      state = g.state h.object;
    }

-- the hand after it took an entry
abbrev pub stepped : Shown → Entry → Shown
stepped h e = record h { cursor = h.cursor + 1; state = after_of h.meaning h.state h.cursor e }

-- what the hand says as it takes an entry, the words of which may be none
abbrev pub spoken_at : Shown → Entry → Spoken
spoken_at h e =
    record { «module» = h.number; number = h.cursor; events = says_of h.meaning h.state h.cursor e }
