-- A Word with a dot is a class.
use Rattle.std.specs.Prelude.{◌≡◌, ◌==◌, ℕ, true, List}
use Rattle.std.specs.List.{list_any}
use Rattle.fm_name.specs.Class.{is_class}
use Rattle.ev_lex.specs.Forms.{IsWord}

-- bytes that are a word, with a dot among them, are in the grammar of classes
abbrev pub WordsWithDotsAreClasses : Type 0
WordsWithDotsAreClasses = (bytes after : List ℕ) → IsWord bytes after
    → list_any (λ b. b == 46) bytes ≡ true → is_class bytes ≡ true
