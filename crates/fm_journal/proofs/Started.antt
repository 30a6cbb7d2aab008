-- What the making of a journal leaves at each moment.
use Rattle.std.proofs.Common.{◌≡◌, inl, inr, ℕ, ◌≤◌, List, [], ◌∷◌, length, take, Option, Some}
use Rattle.std.proofs.Common.{None, Result, Ok, Err, OnOk, OnErr, refl, sym, ◌∙◌, ap, arith}
use Rattle.std.proofs.Common.{length-append}
use Rattle.std.specs.Option.{option_map}
use Rattle.std.proofs.lemmas.List.{take_all}
use Rattle.fm_outer.specs.Crash.{TornFrom, Shorter, StepsFrom, NoMore}
use Rattle.fm_outer.specs.Moments.{LeavesOnly}
use Rattle.fm_outer.specs.declared.disk.Disk.{Ghosts}
use Rattle.fm_outer.proofs.Moments.{Goes, OnlyNow, leaves-call, leaves-still, leaves-weaker}
use Rattle.fm_outer.proofs.Moments.{leaves-then}
use Rattle.fm_journal.specs.Format.{spelled, records}
use Rattle.fm_journal.specs.Crash.{IsFrontOf, IsEmptyOrNone, IsFrontOrEmpty, StartsOver}
use Rattle.fm_journal.specs.Crash.{StartsOrStops, HasTwoPhases, disk_back}
use Rattle.fm_journal.specs.JournalOf.{JournalOf}
use Rattle.fm_journal.specs.declared.fault.Refused.{Refused}
use Rattle.fm_journal.proofs.Records.{length-spelled, end_of_is}
use Rattle.fm_journal.proofs.Growth.{length_begins}

pub at_ok : {T E : Type 0} (r : Result T E) (P : Type 0) → P → OnOk r P
at_ok (Ok x) P holds = holds
at_ok (Err e) P holds = tt

pub at_err : {T E : Type 0} (r : Result T E) (P : Type 0) → P → OnErr r P
at_err (Ok x) P holds = tt
at_err (Err e) P holds = holds

-- what is too short for a record is no journal, or one without payloads
pub short_is_empty : (bytes : List ℕ) → length bytes ≤ 17 → IsEmptyOrNone bytes
short_is_empty bytes short first [] journal = refl
short_is_empty bytes short first (p ∷ payloads) journal =
    absurd (omega (
      arith,
      length_begins bytes first (p ∷ payloads) journal.gate journal.rest journal.begins,
      end_of_is (p ∷ payloads),
      length-append (spelled p) (records payloads),
      length-spelled p,
    ))

-- what a write of a header to an empty disk leaves
pub torn_empty : (old mid : Option (List ℕ)) (n : ℕ) (c : List ℕ) → mid ≡ option_map (take 0) old
    → n ≤ 17 → TornFrom mid 0 n c → IsEmptyOrNone c
torn_empty None mid n c is short torn = let other = torn.1 in cc
torn_empty (Some xs) mid n c is short torn =
    let from : Some torn.0 ≡ Some [] = sym torn.1 ∙ is in
    let none : torn.0 ≡ [] = cc in
    let longest = torn.2.no_longer in
    short_is_empty c (omega (arith, ap length none))

module _ {D : Type 0} (g : Ghosts D) (only_now : OnlyNow g) (old cut : D)
    (shorter : StepsFrom (Shorter 0) (g.images old) (g.images cut)) (cut_time : Goes g old cut)
  where
    whole_is_front : (c : List ℕ) → g.images old c → IsFrontOf (g.images old) c
    whole_is_front c now = (c, now, take_all (length c) c (omega arith))

    cut_is_front : (c : List ℕ) → g.images cut c → IsFrontOf (g.images old) c
    cut_is_front c now = let from = shorter c now in (from.0, from.1, from.2.front)

    -- after a cut
    pub cut_leaves : LeavesOnly g old cut (IsFrontOf (g.images old))
    cut_leaves = leaves-call g old old cut (IsFrontOf (g.images old))
        (leaves-still g only_now old (IsFrontOf (g.images old)) whole_is_front) cut_time
        cut_is_front

    -- and after a sync
    pub emptied_leaves : (synced : D) → NoMore (g.images cut) (g.images synced)
        → Goes g cut synced → LeavesOnly g old synced (IsFrontOf (g.images old))
    emptied_leaves synced same time = leaves-call g old cut synced (IsFrontOf (g.images old))
        cut_leaves time (λ c now. cut_is_front c (same c now))

module _ {D : Type 0} (g : Ghosts D) where
  -- the two parts
  pub starts_over : (old mid new : D) (n : ℕ) → n ≤ 17
      → LeavesOnly g old mid (IsFrontOf (g.images old))
      → g.seen mid ≡ option_map (take 0) (g.seen old)
      → LeavesOnly g mid new (TornFrom (g.seen mid) 0 n) → StartsOver g old new
  starts_over old mid new n short first is second = record {
    synced = mid;
    before = first;
    after = leaves-weaker g mid new (TornFrom (g.seen mid) 0 n) IsEmptyOrNone second
        (λ c torn. torn_empty (g.seen old) (g.seen mid) n c is short torn);
  }

  -- what a crash at any moment of both parts leaves
  pub start_leaves : (old new : D) → StartsOver g old new
      → LeavesOnly g old new (IsFrontOrEmpty (g.images old))
  start_leaves old new starts =
      leaves-then g old starts.synced new (IsFrontOrEmpty (g.images old))
      (leaves-weaker g old starts.synced (IsFrontOf (g.images old))
      (IsFrontOrEmpty (g.images old)) starts.before (λ c front. inl front))
      (leaves-weaker g starts.synced new IsEmptyOrNone (IsFrontOrEmpty (g.images old))
      starts.after (λ c empty. inr empty))

  pub stop_leaves : (old new : D) → StartsOrStops g old new
      → LeavesOnly g old new (IsFrontOrEmpty (g.images old))
  stop_leaves old new (inl first) =
      leaves-weaker g old new (IsFrontOf (g.images old)) (IsFrontOrEmpty (g.images old)) first
      (λ c front. inl front)
  stop_leaves old new (inr both) = start_leaves old new both

  -- a making leaves that at any moment, whatever it answers
  pub create_leaves : (old : D) (made : Result (JournalOf D) (Refused D))
      → HasTwoPhases g old made
      → LeavesOnly g old (disk_back made) (IsFrontOrEmpty (g.images old))
  create_leaves old (Ok journal) phases = start_leaves old journal.disk phases
  create_leaves old (Err refused) phases = stop_leaves old refused.disk phases
