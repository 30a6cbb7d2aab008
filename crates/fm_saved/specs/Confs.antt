-- What bytes spell a configuration.
use Rattle.std.specs.Prelude.{◌≡◌, ℕ, ◌≤◌, nat_le, List, ◌∷◌, ◌++◌, All, length, flat_map}
use Rattle.fm_bytes.specs.Numbers.{long_text}
use Rattle.fm_bytes.specs.Reading.{Read, made, piece_from, counted_from, both_from, where_from}
use Rattle.fm_saved.specs.Saved.{FitsLongText, saved_from}
use Rattle.fm_saved.specs.declared.conf.Conf.{Conf}

-- a configuration that has a spelling
pub record IsSpelledConf (conf : Conf) : Type 0 where
  pub namespace_is : length conf.namespace ≡ 16
  pub few : length conf.rules ≤ 8
  pub rules_fit : All FitsLongText conf.rules
  pub topo_fits : FitsLongText conf.topo

-- the number of rule files in one byte, and each behind its length
abbrev pub rules_bytes : List (List ℕ) → List ℕ
rules_bytes rules = length rules ∷ flat_map long_text rules

-- the namespace, the rule files, and the topology behind its length
abbrev pub conf_bytes : Conf → List ℕ
conf_bytes conf = conf.namespace ++ (rules_bytes conf.rules ++ long_text conf.topo)

-- at most 8 rule files
unfoldable pub rules_from : List ℕ → Read (List (List ℕ))
rules_from bytes = where_from (λ rules. nat_le (length rules) 8) (counted_from 1 saved_from) bytes

-- a configuration
unfoldable pub conf_from : List ℕ → Read Conf
conf_from bytes =
    made (λ f. record { namespace = f.0; rules = f.1.0; topo = f.1.1 })
    (both_from (piece_from 16) (both_from rules_from saved_from) bytes)
