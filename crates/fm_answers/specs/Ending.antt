-- The last line of a command, and its status.
use Rattle.std.specs.Prelude.{◌≡◌, ◌⊎◌, Result, Ok, Err}
use Rattle.std.specs.Io.KnownBytes.{Appends}
use Rattle.fm_answers.specs.StreamsAt.{SinkAt}
use Rattle.fm_answers.specs.Refusing.{PutCut}
use Rattle.fm_answers.specs.Stops.{status_of, last_text}
use Rattle.fm_answers.specs.declared.status.ToolStatus.{ToolStatus}
use Rattle.fm_answers.specs.declared.status.ToolStatus.TheVariants as status
use Rattle.fm_answers.specs.declared.stops.Stop.{Stop}

-- the last line was put whole, and the status tells why the command stopped
pub record PutWhole (out out_now : SinkAt) (stop : Stop) (result : ToolStatus) : Type 0 where
  pub answered : result ≡ status_of stop
  pub put : Appends out.bytes out_now.bytes (last_text stop)
  pub quiet : out_now.failures ≡ out.failures

-- What is put last, by how the command ran: nothing after one that is done; else its last line
-- whole, or a part of it with the status that tells why no more.
abbrev pub EndsAs : SinkAt → SinkAt → Result (Unit {0}) Stop → ToolStatus → Type 0
EndsAs out out_now (Ok done) result = (result ≡ status.Done) × (out_now ≡ out)
EndsAs out out_now (Err stop) result =
    PutWhole out out_now stop result
    ⊎ ((cut : Stop) × (result ≡ status_of cut) × PutCut out out_now (last_text stop) cut)
