-- How far a journal has been read, and what its reader has taken.
use Rattle.std.proofs.Common.{◌≡◌, ℕ, ◌+◌, ◌≤◌, List, [], ◌∷◌, ◌++◌, take, Some, refl, sym}
use Rattle.std.proofs.Common.{◌∙◌, ap, subst, arith}
use Rattle.std.specs.Prelude.{slice_get}
use Rattle.fm_outer.specs.Moments.{OnlyRead}
use Rattle.fm_outer.specs.declared.disk.Disk.{Ghosts}
use Rattle.fm_outer.proofs.Moments.{OnlyNow, read-none, read-then}
use Rattle.fm_journal.specs.Format.{end_of}
use Rattle.fm_journal.specs.JournalOf.{JournalOf}
use Rattle.fm_journal.specs.Keeps.{Keeps}
use Rattle.fm_journal.specs.Pieces.{PieceOf, IsPiece}
use Rattle.fm_journal.proofs.Places.{take_next}
use Rattle.fm_journal.proofs.Records.{end_of_nil}
use Rattle.fm_payloads.specs.Reading.{IsPayloadIn, StopsAtPayload}
use Rattle.fm_payloads.proofs.Kept.{keeps_now, next_after, whole_list}

-- so many payloads stand before the place, and the reader has taken them
pub record IsReadTo {R : Type 0} (took : R → List (List ℕ) → Type 0) (payloads : List (List ℕ))
    (start reader : R) (place : ℕ) : Type 0 where
  pub count : ℕ
  pub place_is : place ≡ end_of (take count payloads)
  pub so_far : took start [] → took reader (take count payloads)

-- the journal was only read, up to the place
pub record HasRead {D R : Type 0} (g : Ghosts D) (took : R → List (List ℕ) → Type 0)
    (same_rule : R → R → Type 0) (old now : JournalOf D) (start reader : R) (piece : PieceOf)
    (place : ℕ) : Type 0 where
  pub same : now ≡ record old { disk = now.disk }
  pub still : OnlyRead g old.disk now.disk
  pub kept : g.failures now.disk ≡ g.failures old.disk
  pub rule : same_rule start reader
  pub stands : IsPiece (g.seen old.disk) piece
  pub read : (payloads : List (List ℕ)) → Keeps g old payloads
      → IsReadTo took payloads start reader place

module _ {D R : Type 0} (g : Ghosts D) (took : R → List (List ℕ) → Type 0)
    (same_rule : R → R → Type 0) where
  -- before the first payload
  pub has_read_none : OnlyNow g → (old : JournalOf D) (reader : R) (piece : PieceOf)
      → same_rule reader reader → IsPiece (g.seen old.disk) piece
      → HasRead g took same_rule old old reader reader piece 16
  has_read_none only_now old reader piece rule stands = record {
    same = refl;
    still = read-none g only_now old.disk;
    kept = refl;
    rule = rule;
    stands = stands;
    read = λ payloads keeps. record {
      count = 0;
      place_is = sym end_of_nil;
      so_far = λ taken. taken;
    };
  }

  module _ (old now new : JournalOf D) (start reader : R) (piece : PieceOf) (place : ℕ)
      (so_far : HasRead g took same_rule old now start reader piece place)
      (same : new ≡ record now { disk = new.disk }) (still : OnlyRead g now.disk new.disk)
    where
      same_as_old : new ≡ record old { disk = new.disk }
      same_as_old = same ∙ ap (λ (j : JournalOf D). record j { disk = new.disk }) so_far.same

      still_since : OnlyRead g old.disk new.disk
      still_since = read-then g old.disk now.disk new.disk so_far.still still

      module _ (size : ℕ) (buffer : List ℕ) (here : IsPayloadIn g now place size buffer) where
        payload_there : (payloads : List (List ℕ)) (keeps : Keeps g old payloads)
            → slice_get payloads (so_far.read payloads keeps).count ≡ Some (take size buffer)
        payload_there payloads keeps =
            here.there payloads (so_far.read payloads keeps).count
            (keeps_now g old now payloads so_far.same so_far.still keeps)
            (so_far.read payloads keeps).place_is

        -- one payload more was taken
        pub has_read_next : (after : R) (then_piece : PieceOf) (next : ℕ)
            → next ≡ place + 5 + size → g.failures new.disk ≡ g.failures now.disk
            → same_rule start after
            → IsPiece (g.seen now.disk) then_piece
            → ((payloads : List (List ℕ)) → took reader payloads
            → took after (payloads ++ take size buffer ∷ []))
            → HasRead g took same_rule old new start after then_piece next
        has_read_next after then_piece next next_is kept rule stands taken = record {
          same = same_as_old;
          still = still_since;
          kept = kept ∙ so_far.kept;
          rule = rule;
          stands = λ bytes told. stands bytes (so_far.still.same ∙ told);
          read = λ payloads keeps.
              let before = so_far.read payloads keeps in
              let there = payload_there payloads keeps in
              record {
                count = before.count + 1;
                place_is = next_is ∙ next_after payloads before.count place size buffer
                    before.place_is there here.room;
                so_far = λ began.
                    subst (λ (l : List (List ℕ)). took after l)
                    (sym (take_next payloads before.count (take size buffer) there))
                    (taken (take before.count payloads) (before.so_far began));
              };
        }

        -- the next one was refused
        pub stops_here : (after : R) (refuses : R → List ℕ → Type 0)
            → ((payloads : List (List ℕ)) → took reader payloads
            → took after payloads × refuses after (take size buffer))
            → (payloads : List (List ℕ)) → Keeps g old payloads → took start []
            → StopsAtPayload took refuses payloads after place
        stops_here after refuses refused payloads keeps began =
            let before = so_far.read payloads keeps in
            let both = refused (take before.count payloads) (before.so_far began) in
            record {
              count = before.count;
              payload = take size buffer;
              there = payload_there payloads keeps;
              place_is = before.place_is;
              so_far = both.0;
              refused = both.1;
            }

  -- all were taken
  pub has_read_all : (old now : JournalOf D) (start reader : R) (piece : PieceOf) (place : ℕ)
      → HasRead g took same_rule old now start reader piece place → old.end ≤ place
      → (payloads : List (List ℕ)) → Keeps g old payloads → took start []
      → took reader payloads
  has_read_all old now start reader piece place so_far past payloads keeps began =
      let before = so_far.read payloads keeps in
      subst (λ (l : List (List ℕ)). took reader l)
      (whole_list payloads before.count (omega (arith, past, before.place_is, keeps.ends)))
      (before.so_far began)
