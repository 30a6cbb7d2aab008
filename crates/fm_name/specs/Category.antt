-- The category of a class, by its first component.
use Rattle.std.specs.Prelude.{ℕ, Bool, true, false, ◌&&◌, ◌==◌, List, Option, Some, None, codes}
use Rattle.std.specs.Prelude.{if◌then◌else◌}
use Rattle.std.specs.List.{before_first}
use Rattle.std.specs.Str.{bytes_eq}
use Rattle.fm_name.specs.Class.{is_class}
use Rattle.fm_name.specs.declared.classes.Category.{Category}
use Rattle.fm_name.specs.declared.classes.Category.TheVariants.{Ereport, Error, Fault, Defect}
use Rattle.fm_name.specs.declared.classes.Category.TheVariants.{Upset, List as ListCategory, Serd}

-- the category that a first component names
abbrev pub category_named : List ℕ → Option Category
category_named word =
    if bytes_eq word (codes "ereport") then Some Ereport else
    if bytes_eq word (codes "error") then Some Error else
    if bytes_eq word (codes "fault") then Some Fault else
    if bytes_eq word (codes "defect") then Some Defect else
    if bytes_eq word (codes "upset") then Some Upset else
    if bytes_eq word (codes "list") then Some ListCategory else
    if bytes_eq word (codes "serd") then Some Serd else None

-- the category of a class: what its first component names
unfoldable pub category_of : List ℕ → Option Category
category_of class = category_named (before_first (λ b. b == 46) class)

-- the category of what detectors report
abbrev pub is_ereport_category : Option Category → Bool
is_ereport_category (Some Ereport) = true
is_ereport_category _ = false

-- a text is a class of category `ereport`
abbrev pub is_ereport : List ℕ → Bool
is_ereport text = is_class text && is_ereport_category (category_of text)
