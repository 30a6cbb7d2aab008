-- What was put, where nothing was.
use Rattle.std.proofs.Common.{ℕ, List, [], Option}
use Rattle.std.specs.Io.KnownBytes.{Appends}
use Rattle.std.proofs.KnownBytes.{Appends-nil}

-- nothing was put
pub appends_none : (known : Option (List ℕ)) → Appends known known []
appends_none known = Appends-nil known
