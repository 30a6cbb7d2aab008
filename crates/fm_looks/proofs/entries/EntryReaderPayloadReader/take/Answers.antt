-- An entry that fits is taken, and no other.
use Rattle.std.proofs.Common.{◌≡◌, List, [], ◌∷◌, ◌++◌, subst, sym, refl, arith}
use Rattle.fm_entry.specs.declared.entry.Entry.{Entry}
use Rattle.fm_logs.specs.StoreBook.{force_along, ReloadsRise}
use Rattle.fm_looks.specs.Entries.{EntryReaderOf, IsEntryReader, HasEntries, reader_of}
use Rattle.fm_looks.proofs.EntryReads.{entry_found, entry_kept, entry_none, entry_older}
use Rattle.fm_looks.proofs.EntryReads.{entry_unlawful, force_found, kept_sound}
use Rattle.fm_looks.proofs.entries.EntryReaderPayloadReader.take.Goals as goal

pub returns-in_default-clause-refused : goal.returns-in_default-clause-refused
returns-in_default-clause-refused c = λ no payloads h. (
  h,
  λ before h'.
      entry_none c.args.self.now before c.args.payload.now
      (λ x is. c.in_default.not-Some x (c.in_ok-entry.ensures.read x is.0 is.1)) h',
)

pub returns-then-self-gt0-clause-taken : goal.returns-then-self-gt0-clause-taken
returns-then-self-gt0-clause-taken c = λ yes payloads h.
    entry_older
    (reader_of c.self.inside.known c.self.inside.at_base c.self.inside.older c.self.inside.left
    c.self.inside.force c.self.inside.entries.items) payloads c.args.payload.now c.in-Some.entry
    c.if-self-gt0.true
    (entry_found c.in_ok-entry.field-0 c.in-Some.entry c.args.payload.now c.in-Some.is
    c.in_ok-entry.ensures.found)
    (subst (λ (r : EntryReaderOf). HasEntries r payloads) (sym c.self.view_is) h)

pub returns-in_default-next_force-clause-refused :
    goal.returns-in_default-next_force-clause-refused
returns-in_default-next_force-clause-refused c = λ no payloads h. (
  h,
  λ before h' good.
      entry_unlawful c.args.self.now before c.args.payload.now c.in-Some.entry
      c.in_ok-entry.field-0
      (subst (λ (r : EntryReaderOf). r.left ≡ 0) c.self.view_is
      (omega (arith, c.if-self-gt0.false))) c.in-Some.is
      (λ x is. c.in_ok-entry.ensures.read x is.0 is.1)
      (subst (λ (r : EntryReaderOf). r.force ≡ force_along r.at_base r.entries) c.self.view_is
      c.self.invariant.force_is)
      (subst (λ (r : EntryReaderOf). ReloadsRise r.known r.force (c.in-Some.entry ∷ []) → ⊥)
      c.self.view_is (c.in_default-next_force.ensures.unlawful refl)) h' good,
)

pub invariant_of-self-2 : goal.invariant_of-self-2
invariant_of-self-2 c =
    let next = force_found c.next_force.result c.self.inside.known c.self.inside.force
    c.in-Some-next_force.force c.in-Some.entry c.in-Some-next_force.is c.next_force.ensures.lawful
    in
    subst (λ (es : List Entry). IsEntryReader (reader_of c.self.inside.known c.self.inside.at_base
    c.self.inside.older c.self.inside.left c.in-Some-next_force.force es))
    (sym c.in_ok-push.ensures.items)
    (kept_sound
    (reader_of c.self.inside.known c.self.inside.at_base c.self.inside.older c.self.inside.left
    c.self.inside.force c.self.inside.entries.items) c.in-Some.entry c.in-Some-next_force.force
    (entry_found c.in_ok-entry.field-0 c.in-Some.entry c.args.payload.now c.in-Some.is
    c.in_ok-entry.ensures.found).0 next.0 next.1 c.self.invariant)

pub returns-clause-taken : goal.returns-clause-taken
returns-clause-taken c = λ yes payloads h.
    let next = force_found c.next_force.result c.self.inside.known c.self.inside.force
    c.in-Some-next_force.force c.in-Some.entry c.in-Some-next_force.is c.next_force.ensures.lawful
    in
    subst (λ (es : List Entry). HasEntries (reader_of c.self.inside.known c.self.inside.at_base
    c.self.inside.older c.self.inside.left c.in-Some-next_force.force es)
    (payloads ++ c.args.payload.now ∷ []))
    (sym c.in_ok-push.ensures.items)
    (entry_kept
    (reader_of c.self.inside.known c.self.inside.at_base c.self.inside.older c.self.inside.left
    c.self.inside.force c.self.inside.entries.items) payloads c.args.payload.now c.in-Some.entry
    c.in-Some-next_force.force (omega (arith, c.if-self-gt0.false))
    (entry_found c.in_ok-entry.field-0 c.in-Some.entry c.args.payload.now c.in-Some.is
    c.in_ok-entry.ensures.found) c.self.invariant.force_is next.0
    (subst (λ (r : EntryReaderOf). HasEntries r payloads) (sym c.self.view_is) h))
