-- Configurations, read and spelled.
use Rattle.std.proofs.Common.{◌≡◌, ℕ, ◌^◌, ◌≤◌, Bool, ◌&&◌, ◌==◌, nat_lt, nat_le, IsTrue, List}
use Rattle.std.proofs.Common.{[], ◌∷◌, ◌++◌, length, flat_map, Some, refl, ap, arith}
use Rattle.std.proofs.lemmas.Bool.{leb-true, le-leb, ltb-true, lt-ltb, eqb-true, eq-eqb}
use Rattle.std.proofs.Math.Nat.{mod-eq_of_lt}
use Rattle.byteorder.specs.Endian.{big_bytes}
use Rattle.fm_bytes.specs.Numbers.{AllBytes, long_text, counted_bytes}
use Rattle.fm_bytes.specs.Reading.{piece_from, counted_from, both_from, whole}
use Rattle.fm_bytes.proofs.Booleans.{and_parts, and_true}
use Rattle.fm_bytes.proofs.Readers.{IsReader, reader_as, counted_fits, counted_reader}
use Rattle.fm_bytes.proofs.Combined.{both_reader, where_reader, made_reader}
use Rattle.fm_entry.proofs.Readers.{whole_spelled, whole_read, spelling_prefix}
use Rattle.fm_saved.specs.Saved.{saved_from}
use Rattle.fm_saved.specs.Confs.{IsSpelledConf, rules_bytes, conf_bytes, rules_from, conf_from}
use Rattle.fm_saved.specs.declared.conf.Conf.{Conf}
use Rattle.fm_saved.proofs.SavedReader.{piece_reader, saved_fits, saved_reader, all_fit, fit_all}

abbrev rules_fit : List (List ℕ) → Bool
rules_fit rules = counted_fits 1 saved_fits rules && nat_le (length rules) 8

one_byte : (n : ℕ) → n ≤ 8 → big_bytes 1 n ≡ n ∷ []
one_byte n h = ap (λ (m : ℕ). m ∷ []) (mod-eq_of_lt (omega (arith, h)))

rules_few : (rules : List (List ℕ)) → IsTrue (rules_fit rules) → length rules ≤ 8
rules_few rules h = leb-true (length rules) 8 (and_parts (counted_fits 1 saved_fits rules) _ h).1

-- rule files behind their number
rules_reader : IsReader rules_fit rules_bytes rules_from
unfolding rules_from
rules_reader =
    reader_as rules_fit rules_fit (counted_bytes 1 long_text) rules_bytes _ (λ x h. h) (λ x h. h)
    (λ x h. ap (λ (front : List ℕ). front ++ flat_map long_text x)
    (one_byte (length x) (rules_few x h)))
    (where_reader (counted_fits 1 saved_fits) (λ rules. nat_le (length rules) 8)
    (counted_bytes 1 long_text) (counted_from 1 saved_from)
    (counted_reader 1 saved_fits long_text saved_from saved_reader))

abbrev conf_fits : Conf → Bool
conf_fits conf =
    (length conf.namespace == 16) && (rules_fit conf.rules && saved_fits conf.topo)

conf_reader : IsReader conf_fits conf_bytes conf_from
unfolding conf_from
conf_reader =
    made_reader (λ f. record { namespace = f.0; rules = f.1.0; topo = f.1.1 })
    (λ (conf : Conf). (conf.namespace, (conf.rules, conf.topo))) _ _ _
    (λ f. refl) (λ conf. refl)
    (both_reader _ _ _ _ (piece_from 16) (both_from rules_from saved_from) (piece_reader 16)
    (both_reader _ _ _ _ rules_from saved_from rules_reader saved_reader))

-- a configuration that fits has a spelling, and back
conf_is : (conf : Conf) → IsTrue (conf_fits conf) → IsSpelledConf conf
conf_is conf h =
    let one = and_parts (length conf.namespace == 16) _ h in
    let two = and_parts (rules_fit conf.rules) _ one.1 in
    let three = and_parts (counted_fits 1 saved_fits conf.rules) _ two.0 in
    let four = and_parts (nat_lt (length conf.rules) (256 ^ 1)) _ three.0 in
    record {
      namespace_is = eqb-true (length conf.namespace) 16 one.0;
      few = leb-true (length conf.rules) 8 three.1;
      rules_fit = all_fit conf.rules four.1;
      topo_fits = ltb-true (length conf.topo) (2 ^ 32) two.1;
    }

conf_back : (conf : Conf) → IsSpelledConf conf → IsTrue (conf_fits conf)
conf_back conf h =
    and_true (length conf.namespace == 16) _ (eq-eqb (length conf.namespace) 16 h.namespace_is)
    (and_true (rules_fit conf.rules) _
    (and_true (counted_fits 1 saved_fits conf.rules) _
    (and_true (nat_lt (length conf.rules) (256 ^ 1)) _
    (lt-ltb (length conf.rules) (256 ^ 1) (omega (arith, h.few))) (fit_all conf.rules h.rules_fit))
    (le-leb (length conf.rules) 8 h.few))
    (lt-ltb (length conf.topo) (2 ^ 32) h.topo_fits))

-- the configuration that all bytes are
pub conf_spelled : (bytes : List ℕ) (conf : Conf) → AllBytes bytes
    → whole (conf_from bytes) ≡ Some conf → IsSpelledConf conf × (bytes ≡ conf_bytes conf)
conf_spelled bytes conf all h =
    let known = whole_spelled conf_fits conf_bytes conf_from conf_reader bytes conf all h in
    (conf_is conf known.0, known.1)

-- the bytes of a configuration read as the configuration
pub conf_whole : (bytes : List ℕ) (conf : Conf) → IsSpelledConf conf → bytes ≡ conf_bytes conf
    → whole (conf_from bytes) ≡ Some conf
conf_whole bytes conf spelled same =
    whole_read conf_fits conf_bytes conf_from conf_reader bytes conf (conf_back conf spelled) same

-- no spelling of a configuration is a proper prefix of another
pub conf_prefix : (one other : Conf) (xs ys : List ℕ) → IsSpelledConf one → IsSpelledConf other
    → conf_bytes one ++ xs ≡ conf_bytes other ++ ys → (one ≡ other) × (xs ≡ ys)
conf_prefix one other xs ys h k same =
    spelling_prefix conf_fits conf_bytes conf_from conf_reader one other xs ys (conf_back one h)
    (conf_back other k) same
