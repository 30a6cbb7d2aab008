-- What is left of a text that is read part by part.
use Rattle.std.specs.Prelude.{List, ℕ, [], Option, Some, None}
use Rattle.fm_name.specs.Path.{slash_texts}

-- the texts between the slashes of what is left, of which there are none where nothing is left
abbrev pub texts_left : Option (List ℕ) → List (List ℕ)
texts_left None = []
texts_left (Some rest) = slash_texts rest
