-- The classes of words about cases are classes.
use Rattle.std.proofs.Common.{◌≡◌, true, refl}
use Rattle.fm_name.specs.Class.{are_components, is_class, is_component}
use Rattle.fm_entry.specs.declared.list_event.ListKind.{ListKind}
use Rattle.fm_entry.specs.declared.list_event.ListKind.TheVariants as kind
use Rattle.fm_dump.specs.Faults.{kind_class}

pub class_named : (kind : ListKind) → is_class (kind_class kind) ≡ true
unfolding is_class are_components is_component
class_named kind.Suspect = refl
class_named kind.Undiagnosable = refl
class_named kind.Upset = refl
class_named kind.Updated = refl
class_named kind.Repaired = refl
