-- How a run of disk calls goes on, for any disk. The laws of the trait go in as arguments, as
-- `g.met.D.Disk.only_now` and `g.met.D.Disk.counts_now` in an answer.
use Rattle.std.proofs.Common.{◌≡◌, ◌≤◌, ◌⊎◌, inl, inr, ⊎_elim, ℕ, List, refl, ◌∙◌, arith}
use Rattle.fm_outer.specs.Crash.{Elapses, NoMore}
use Rattle.fm_outer.specs.Moments.{LeavesOnly, OnlyRead}
use Rattle.fm_outer.specs.declared.disk.Disk.{Ghosts}

module _ {D : Type 0} (g : Ghosts D) where
  -- time goes on from one disk to another
  abbrev pub Goes : D → D → Type 0
  Goes old new =
      Elapses (g.moment old) (g.moment new) (g.left_since old) (g.left_since new) (g.images new)

  -- the laws of a disk
  abbrev pub CountsNow : Type 0
  CountsNow = (disk : D) (t : ℕ) (c : List ℕ) → t ≤ g.moment disk → g.images disk c
      → g.left_since disk t c

  abbrev pub OnlyNow : Type 0
  OnlyNow = (disk : D) (c : List ℕ) → g.left_since disk (g.moment disk) c → g.images disk c

  -- before the first call
  pub leaves-start : (old : D) (P : List ℕ → Type 0)
      → ((c : List ℕ) → g.left_since old (g.moment old) c → P c) → LeavesOnly g old old P
  leaves-start old P here =
      record { later = omega arith; each = here; before = λ t c le left. inl left }

  -- a weaker fact of each image
  pub leaves-weaker : (old new : D) (P Q : List ℕ → Type 0) → LeavesOnly g old new P
      → ((c : List ℕ) → P c → Q c) → LeavesOnly g old new Q
  leaves-weaker old new P Q so_far weaker = record {
    later = so_far.later;
    each = λ c left. weaker c (so_far.each c left);
    before = λ t c le left.
        ⊎_elim (λ past. inl past) (λ now. inr (weaker c now)) (so_far.before t c le left);
  }

  -- one run after another
  pub leaves-then : (old mid new : D) (P : List ℕ → Type 0) → LeavesOnly g old mid P
      → LeavesOnly g mid new P → LeavesOnly g old new P
  leaves-then old mid new P first second = record {
    later = omega (arith, first.later, second.later);
    each = λ c left.
        ⊎_elim (first.each c) (λ now. now) (second.before (g.moment old) c first.later left);
    before = λ t c le left.
        ⊎_elim (first.before t c le) (λ now. inr now)
        (second.before t c (omega (arith, le, first.later)) left);
  }

  -- one call more, after which a crash leaves what has P
  pub leaves-call : (old mid new : D) (P : List ℕ → Type 0) → LeavesOnly g old mid P
      → Goes mid new → ((c : List ℕ) → g.images new c → P c) → LeavesOnly g old new P
  leaves-call old mid new P so_far time here = record {
    later = omega (arith, so_far.later, time.later);
    each = λ c left.
        ⊎_elim (so_far.each c) (here c) (time.nothing_else (g.moment old) c so_far.later left);
    before = λ t c le left.
        ⊎_elim (so_far.before t c le) (λ now. inr (here c now))
        (time.nothing_else t c (omega (arith, le, so_far.later)) left);
  }

  -- what a crash now leaves has the fact too
  pub leaves-now : CountsNow → (old new : D) (P : List ℕ → Type 0) → LeavesOnly g old new P
      → (c : List ℕ) → g.images new c → P c
  leaves-now counts_now old new P so_far c now =
      so_far.each c (counts_now new (g.moment old) c so_far.later now)

  -- before the first call, where each image has the fact
  pub leaves-still : OnlyNow → (old : D) (P : List ℕ → Type 0)
      → ((c : List ℕ) → g.images old c → P c) → LeavesOnly g old old P
  leaves-still only_now old P here = leaves-start old P (λ c left. here c (only_now old c left))

  -- before the first read
  pub read-none : OnlyNow → (old : D) → OnlyRead g old old
  read-none only_now old = record {
    same = refl;
    no_more = λ c now. now;
    any_moment = leaves-still only_now old (g.images old) (λ c now. now);
    same_disk = refl;
  }

  -- one call that only reads
  pub read-once : OnlyNow → (old new : D) → g.seen new ≡ g.seen old
      → NoMore (g.images old) (g.images new) → Goes old new → g.name new ≡ g.name old
      → OnlyRead g old new
  read-once only_now old new same fewer time same_name = record {
    same = same;
    no_more = fewer;
    any_moment = leaves-call old old new (g.images old)
        (leaves-still only_now old (g.images old) (λ c now. now)) time fewer;
    same_disk = same_name;
  }

  -- one run of reads after another
  pub read-then : (old mid new : D) → OnlyRead g old mid → OnlyRead g mid new → OnlyRead g old new
  read-then old mid new first second = record {
    same = second.same ∙ first.same;
    no_more = λ c now. first.no_more c (second.no_more c now);
    any_moment = leaves-then old mid new (g.images old) first.any_moment
        (leaves-weaker mid new (g.images mid) (g.images old) second.any_moment first.no_more);
    same_disk = second.same_disk ∙ first.same_disk;
  }

  -- a run of reads, and then one that leaves what has the fact
  pub leaves-read : (old mid new : D) (P : List ℕ → Type 0) → OnlyRead g old mid
      → ((c : List ℕ) → g.images old c → P c) → LeavesOnly g mid new P → LeavesOnly g old new P
  leaves-read old mid new P still here so_far =
      leaves-then old mid new P
      (leaves-weaker old mid (g.images old) P still.any_moment here) so_far
