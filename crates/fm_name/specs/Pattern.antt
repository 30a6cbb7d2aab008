-- The grammar of patterns, and which classes a pattern matches.
use Rattle.std.specs.Prelude.{ℕ, Bool, ◌&&◌, ◌||◌, ◌-◌, nat_lt, nat_eq, List, length, take, codes}
use Rattle.std.specs.List.{starts_with, ends_with}
use Rattle.std.specs.Str.{bytes_eq}
use Rattle.fm_name.specs.Class.{is_class, are_components}

-- one or more components and then `.*`
unfoldable pub is_prefix_pattern : List ℕ → Bool
is_prefix_pattern bytes = ends_with nat_eq bytes (codes ".*")
    && are_components (take (length bytes - 2) bytes)

-- a pattern: `*`, a class, or one or more components and then `.*`
unfoldable pub is_pattern : List ℕ → Bool
is_pattern bytes = bytes_eq bytes (codes "*") || (is_class bytes || is_prefix_pattern bytes)

-- `X.*` matches each class that goes on after `X.`
unfoldable pub prefix_matches : List ℕ → List ℕ → Bool
prefix_matches pattern class =
    ends_with nat_eq pattern (codes ".*")
    && (nat_lt (length pattern - 1) (length class)
    && starts_with nat_eq class (take (length pattern - 1) pattern))

-- `*` matches each class, `X.*` each class that goes on after `X.`, and a class itself
unfoldable pub pattern_matches : List ℕ → List ℕ → Bool
pattern_matches pattern class = bytes_eq pattern (codes "*")
    || (prefix_matches pattern class || bytes_eq pattern class)
