-- The texts of refused rule files and topologies.
use Rattle.std.specs.Prelude.{ℕ, List, [], ◌∷◌, ◌++◌, codes, decimal, flat_map}
use Rattle.ev_tree.specs.declared.tree.Declared.{Declared}
use Rattle.ev_words.specs.declared.kinds.CheckKind.{CheckKind}
use Rattle.ev_words.specs.declared.kinds.CheckKind.TheVariants as checks
use Rattle.fm_sources.specs.declared.faults.RulesKind.{RulesKind}
use Rattle.fm_sources.specs.declared.faults.RulesKind.TheVariants as kinds
use Rattle.fm_topo.specs.declared.faults.TopoKind.{TopoKind}
use Rattle.fm_topo.specs.declared.faults.TopoKind.TheVariants as topo_kinds

abbrev pub behind_slash : List ℕ → List ℕ
behind_slash name = codes "/" ++ name

-- names, with a slash between two
abbrev pub names_text : List (List ℕ) → List ℕ
names_text [] = []
names_text (name ∷ more) = name ++ flat_map behind_slash more

-- `CLASS@NAMES`
abbrev pub declared_text : Declared → List ℕ
declared_text d = d.class ++ (codes "@" ++ names_text d.names)

abbrev pub behind_space : Declared → List ℕ
behind_space d = codes " " ++ declared_text d

-- the members of a ring, a space before each
abbrev pub members_text : List Declared → List ℕ
members_text members = flat_map behind_space members

-- what a check finds
abbrev pub check_text : CheckKind → List ℕ
check_text checks.BadKind = codes "kind"
check_text checks.Twice = codes "twice"
check_text checks.Missing = codes "missing"
check_text checks.BadCount = codes "count"
check_text checks.BadTime = codes "time"
check_text checks.FreeIterator = codes "iterator"
check_text checks.Undeclared = codes "undeclared"
check_text checks.UpsetTrips = codes "upset-trips"
check_text (checks.Cycle members) = codes "cycle" ++ members_text members

-- what is wrong with a rule file
abbrev pub rules_kind_text : RulesKind → List ℕ
rules_kind_text kinds.Length = codes "length"
rules_kind_text kinds.Token = codes "token"
rules_kind_text kinds.Grammar = codes "grammar"
rules_kind_text (kinds.Check kind) = check_text kind

-- what is wrong with a topology
abbrev pub topo_kind_text : TopoKind → List ℕ
topo_kind_text topo_kinds.Path = codes "path"
topo_kind_text topo_kinds.Property = codes "property"
topo_kind_text topo_kinds.Twice = codes "twice"
topo_kind_text topo_kinds.Parent = codes "parent"
topo_kind_text topo_kinds.Length = codes "length"
topo_kind_text topo_kinds.Count = codes "count"
topo_kind_text topo_kinds.Bytes = codes "bytes"

-- `rules F P KIND`
abbrev pub rules_text : ℕ → ℕ → RulesKind → List ℕ
rules_text file place kind = codes "rules " ++ (decimal file ++ (codes " " ++ (decimal place
    ++ (codes " " ++ (rules_kind_text kind ++ codes "\n")))))

-- `topology L KIND`
abbrev pub topology_text : ℕ → TopoKind → List ℕ
topology_text line kind =
    codes "topology " ++ (decimal line ++ (codes " " ++ (topo_kind_text kind ++ codes "\n")))
