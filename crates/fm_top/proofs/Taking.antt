-- Entries that are taken one after another, of which the first are taken so far.
use Rattle.std.proofs.Common.{◌≡◌, ◌∙◌, List, [], ◌∷◌, ◌++◌, Option, None, Some, refl, sym, ap}
use Rattle.std.proofs.Common.{subst, append_assoc, append-nil}
use Rattle.std.specs.Prelude.{option_to_list}
use Rattle.fm_answers.specs.Refusing.{TakeStops}
use Rattle.fm_answers.specs.Running.{Taken}
use Rattle.fm_answers.specs.declared.stops.Stop.{Stop}
use Rattle.fm_answers.specs.declared.stops.Stop.TheVariants.{Disk, Memory, Full}
use Rattle.fm_entry.specs.declared.entry.Entry.{Entry}
use Rattle.fm_top.specs.Generate.{TakingStops, TookFirst, TookUntil}

-- one more was given
pub given_one : (o : Option Entry) (entry : Entry) (left rest : List Entry) → o ≡ Some entry
    → left ≡ option_to_list o ++ rest → left ≡ entry ∷ rest
given_one o entry left rest is given = given ∙ ap (λ p. option_to_list p ++ rest) is

module _ {T : Type 0} (went : T → T → List Entry → Option (Stop × Entry) → Type 0)
    (stays : (a : T) → went a a [] None)
    (goes_on : (a b c : T) (es fs : List Entry) (last : Option (Stop × Entry)) → went a b es None
    → went b c fs last → went a c (es ++ fs) last) where
  pub took_none : (a : T) (entries : List Entry) → TookFirst (went a a) entries entries
  took_none a entries = record { front = []; entries_are = refl; went = stays a }

  -- the next one was taken
  pub took_next : (a b c : T) (entries rest left : List Entry) (entry : Entry)
      → TookFirst (went a b) entries rest → rest ≡ entry ∷ left → went b c (entry ∷ []) None
      → TookFirst (went a c) entries left
  took_next a b c entries rest left entry so is one = record {
    front = so.front ++ entry ∷ [];
    entries_are = so.entries_are ∙ ap (λ es. so.front ++ es) is
        ∙ sym (append_assoc so.front (entry ∷ []) left);
    went = goes_on a b c so.front (entry ∷ []) None so.went one;
  }

  -- none is left
  pub took_every : (a b : T) (entries rest : List Entry) → TookFirst (went a b) entries rest
      → rest ≡ [] → went a b entries None
  took_every a b entries rest so none =
      subst (λ es. went a b es None)
      (sym (so.entries_are ∙ ap (λ es. so.front ++ es) none ∙ append-nil so.front)) so.went

  -- the next one was not
  pub took_until : (a b c : T) (entries rest left : List Entry) (entry : Entry) (stop : Stop)
      → TookFirst (went a b) entries rest → rest ≡ entry ∷ left
      → TakeStops (went b c) entry stop → TookUntil (went a c) entries stop
  took_until a b c entries rest left entry stop so is why = record {
    front = so.front;
    rest = rest;
    entries_are = so.entries_are;
    stops = by_stop stop why;
  }
    where
      after : (last : Option (Stop × Entry)) → went b c [] last → went a c so.front last
      after last then =
          subst (λ es. went a c es last) (append-nil so.front)
          (goes_on a b c so.front [] last so.went then)

      by_stop : (stop : Stop) → TakeStops (went b c) entry stop
          → TakingStops (went a c) so.front rest stop
      by_stop Disk why = (entry, left, is, after (Some (Disk, entry)) why)
      by_stop (Full kind) why = (entry, left, is, after (Some (Full kind, entry)) why)
      by_stop Memory why = after None why
      by_stop _ why = absurd why

  -- memory was wanted between two
  pub took_wanted : (a b : T) (entries rest : List Entry) → TookFirst (went a b) entries rest
      → TookUntil (went a b) entries Memory
  took_wanted a b entries rest so = record {
    front = so.front;
    rest = rest;
    entries_are = so.entries_are;
    stops = so.went;
  }

-- what is said of taken entries in other words
pub until_other : (strong weak : Taken) (entries : List Entry) (stop : Stop)
    → ((es : List Entry) (last : Option (Stop × Entry)) → strong es last → weak es last)
    → TookUntil strong entries stop → TookUntil weak entries stop
until_other strong weak entries stop on until = record {
  front = until.front;
  rest = until.rest;
  entries_are = until.entries_are;
  stops = by_stop stop until.stops;
}
  where
    by_stop : (stop : Stop) → TakingStops strong until.front until.rest stop
        → TakingStops weak until.front until.rest stop
    by_stop Disk (entry, more, is, took) =
        (entry, more, is, on until.front (Some (Disk, entry)) took)
    by_stop (Full kind) (entry, more, is, took) =
        (entry, more, is, on until.front (Some (Full kind, entry)) took)
    by_stop Memory took = on until.front None took
    by_stop _ why = absurd why
