-- A run over the input, in weaker words of what became of the entries.
use Rattle.std.proofs.Common.{inl, inr, ℕ, List, Bool, Option, Some, None}
use Rattle.fm_entry.specs.declared.entry.Entry.{Entry}
use Rattle.fm_answers.specs.Answers.{answers}
use Rattle.fm_answers.specs.Running.{Line, Taken, StopsAt, RanAll, RanUntil}
use Rattle.fm_answers.specs.declared.stops.Stop.{Stop}
use Rattle.fm_answers.specs.declared.stops.Stop.TheVariants.{Write, Disk, Memory, Full}

-- where the run stopped at a line
stops_weaker : (strong weak : Taken) (puts : List ℕ → Type 0) (answered : List Line → List ℕ)
    (lines : List Line) (line : Line) (stop : Stop)
    → ((es : List Entry) (last : Option (Stop × Entry)) → strong es last → weak es last)
    → StopsAt strong puts answered lines line stop → StopsAt weak puts answered lines line stop
stops_weaker strong weak puts answered lines line Write on (m, past, put, took) =
    (m, past, put, on _ None took)
stops_weaker strong weak puts answered lines line Disk on (put, (entry, only, last)) =
    (put, (entry, only, on _ (Some (Disk, entry)) last))
stops_weaker strong weak puts answered lines line (Full kind) on (put, (entry, only, last)) =
    (put, (entry, only, on _ (Some (Full kind, entry)) last))
stops_weaker strong weak puts answered lines line Memory on (put, took) =
    (put, elim took [ inl none ↦ inl (on _ None none) | inr one ↦ inr (on _ None one) ])
stops_weaker strong weak puts answered lines line _ on stops = absurd stops

pub all_weaker : (strong weak : Taken) (puts : List ℕ → Type 0) (is_told : Bool) (next : ℕ)
    (consumes : List ℕ → Type 0) (at_end : Type 0)
    → ((es : List Entry) (last : Option (Stop × Entry)) → strong es last → weak es last)
    → RanAll strong puts is_told next consumes at_end
    → RanAll weak puts is_told next consumes at_end
all_weaker strong weak puts is_told next consumes at_end on ran = record {
  read = ran.read;
  consumed = ran.consumed;
  whole = ran.whole;
  within = ran.within;
  put = ran.put;
  took = on _ None ran.took;
}

pub until_weaker : (strong weak : Taken) (puts : List ℕ → Type 0) (is_told : Bool) (next : ℕ)
    (consumes : List ℕ → Type 0) (at_end : Type 0) (stop : Stop)
    → ((es : List Entry) (last : Option (Stop × Entry)) → strong es last → weak es last)
    → RanUntil strong puts is_told next consumes at_end stop
    → RanUntil weak puts is_told next consumes at_end stop
until_weaker strong weak puts is_told next consumes at_end stop on (inl ran) = inl (record {
  read = ran.read;
  more = ran.more;
  consumed = ran.consumed;
  within = ran.within;
  why = ran.why;
  put = ran.put;
  took = on _ None ran.took;
})
until_weaker strong weak puts is_told next consumes at_end stop on (inr ran) = inr (record {
  read = ran.read;
  consumed = ran.consumed;
  within = ran.within;
  lines = ran.lines;
  line = ran.line;
  there = ran.there;
  stops = stops_weaker strong weak puts (answers is_told 1 next) ran.lines ran.line stop on
      ran.stops;
})
