-- What a source and a sink tell at one moment, as plain records, each with its count of faults.
use Rattle.std.specs.Prelude.{ℕ, List, Option}
use Rattle.fm_outer.specs.declared.source.Source.{Ghosts as SourceGhosts}
use Rattle.fm_outer.specs.declared.sink.Sink.{Ghosts as SinkGhosts}

-- the bytes that a source has left, where it tells them
pub record SourceAt : Type 0 where
  pub left : Option (List ℕ)
  pub failures : ℕ

-- the bytes that were put, where the sink tells them
pub record SinkAt : Type 0 where
  pub bytes : Option (List ℕ)
  pub failures : ℕ

-- each object as it stands

abbrev pub source_at : {S : Type 0} → SourceGhosts S → S → SourceAt
source_at g source = record { left = g.left source; failures = g.failures source }

abbrev pub sink_at : {K : Type 0} → SinkGhosts K → K → SinkAt
sink_at g sink = record { bytes = g.put_bytes sink; failures = g.failures sink }
