-- How long configurations are, and where they stand one after another.
use Rattle.std.proofs.Common.{◌≡◌, ℕ, zero, suc, ◌+◌, ◌*◌, ◌^◌, ◌<◌, ◌≤◌, List, [], ◌∷◌, ◌++◌}
use Rattle.std.proofs.Common.{length, map}
use Rattle.std.proofs.Common.{take, refl, sym, ap, ◌∙◌, subst, arith, get_or}
use Rattle.std.proofs.Common.{length-append}
use Rattle.std.specs.List.{All, flat_map}
use Rattle.std.proofs.lemmas.List.{length-map, length-take-le, get_or-take, take_all, take_more}
use Rattle.std.proofs.lemmas.Option.{slice_get_read}
use Rattle.fm_core.proofs.Lists.{map_get}
use Rattle.fm_journal.proofs.Places.{next_place}
use Rattle.fm_journal.specs.Format.{end_of}
use Rattle.fm_saved.specs.Confs.{IsSpelledConf, conf_bytes}
use Rattle.fm_saved.specs.Saved.{FitsLongText}
use Rattle.fm_saved.specs.declared.conf.Conf.{Conf}
use Rattle.fm_outer.proofs.Numbers.{length-big_bytes}
use Rattle.fm_bytes.specs.Numbers.{long_text, u32_bytes}
use Rattle.fm_modules.specs.Opening.{conf_gate}

length-long_text : (text : List ℕ) → length (long_text text) ≡ 4 + length text
unfolding u32_bytes
length-long_text text =
    length-append (u32_bytes (length text)) text ∙ ap (λ n. n + length text)
    (length-big_bytes 4 (length text))

length-texts_push : (texts : List (List ℕ)) (text : List ℕ)
    → length (flat_map long_text (texts ++ text ∷ []))
    ≡ length (flat_map long_text texts) + (4 + length text)
length-texts_push [] text =
    length-append (long_text text) [] ∙ omega (arith, length-long_text text)
length-texts_push (t ∷ texts) text =
    length-append (long_text t) (flat_map long_text (texts ++ text ∷ []))
    ∙ omega (
      arith,
      length-texts_push texts text,
      length-append (long_text t) (flat_map long_text texts),
    )

-- one text more
pub texts_more : (texts : List (List ℕ)) (i : ℕ) (text : List ℕ) → i < length texts
    → text ≡ get_or texts i text → length (flat_map long_text (take (i + 1) texts))
    ≡ length (flat_map long_text (take i texts)) + (4 + length text)
texts_more texts i text low is =
    ap (λ ts. length (flat_map long_text ts))
    (take_more texts i text low ∙ ap (λ t. take i texts ++ t ∷ []) (sym is))
    ∙ length-texts_push (take i texts) text

-- one text more is at most so much longer
pub text_fits : (texts : List (List ℕ)) (i : ℕ) (text : List ℕ) → All FitsLongText texts
    → i < length texts → text ≡ get_or texts i text → length text < 2 ^ 32
text_fits texts i text fit low is =
    subst FitsLongText (sym is) (fit i text low)

-- one text more of a configuration
pub len_more : (topo : List ℕ) (texts rules : List (List ℕ)) (i : ℕ) (text got : List ℕ)
    (count : ℕ) → texts ≡ rules → All FitsLongText rules → i < length texts
    → text ≡ get_or texts i text → got ≡ text
    → (count ≡ 21 + length topo + length (flat_map long_text (take i texts)))
    × (count ≤ 4294967317 + i * 4294967300)
    → (count + (4 + length got) ≡ 21 + length topo
    + length (flat_map long_text (take (i + 1) texts)))
    × (count + (4 + length got) ≤ 4294967317 + (i + 1) * 4294967300)
len_more topo texts rules i text got count same fit low is got_is before =
    let fits = text_fits texts i text (subst (All FitsLongText) (sym same) fit) low is in
    let long : length got ≡ length text = ap length got_is in (
      omega (arith, before.0, texts_more texts i text low is, long),
      omega (arith, before.1, fits, long),
    )

-- how long a configuration is
pub conf_length : (conf : Conf) → IsSpelledConf conf → length (conf_bytes conf)
    ≡ 21 + length conf.topo + length (flat_map long_text conf.rules)
conf_length conf spelled =
    omega (
      arith,
      length-append conf.namespace
          ((length conf.rules ∷ flat_map long_text conf.rules) ++ long_text conf.topo),
      length-append (length conf.rules ∷ flat_map long_text conf.rules) (long_text conf.topo),
      length-long_text conf.topo,
      spelled.namespace_is,
    )

-- all of its texts
pub len_whole : (conf : Conf) (texts : List (List ℕ)) (i count : ℕ) → IsSpelledConf conf
    → texts ≡ conf.rules → length texts ≤ i
    → count ≡ 21 + length conf.topo + length (flat_map long_text (take i texts))
    → count ≡ length (conf_bytes conf)
len_whole conf texts i count spelled same past is =
    is ∙ ap (λ ts. 21 + length conf.topo + length (flat_map long_text ts))
    (take_all i texts past ∙ same)
    ∙ sym (conf_length conf spelled)

texts_short : (texts : List (List ℕ)) → All FitsLongText texts
    → length (flat_map long_text texts) ≤ length texts * 4294967300
texts_short [] fit = omega arith
texts_short (t ∷ texts) fit =
    omega (
      arith,
      length-append (long_text t) (flat_map long_text texts),
      length-long_text t,
      fit 0 t (omega arith),
      texts_short texts (λ k d low. fit (suc k) d (omega (arith, low))),
    )

pub conf_short : (conf : Conf) → IsSpelledConf conf → length (conf_bytes conf) ≤ 2 ^ 36
conf_short conf spelled =
    omega (
      arith,
      conf_length conf spelled,
      texts_short conf.rules spelled.rules_fit,
      spelled.few,
      spelled.topo_fits,
    )

-- the gate behind one configuration more
pub gate_more : (confs : List Conf) (i : ℕ) (conf : Conf) → i < length confs
    → conf ≡ get_or confs i conf
    → conf_gate confs (i + 1) ≡ conf_gate confs i + 5 + length (conf_bytes conf)
gate_more confs i conf low is =
    next_place (map conf_bytes confs) i (conf_bytes conf)
    (map_get conf_bytes confs i conf (slice_get_read confs (length confs) i conf refl low is))

-- one of the first configurations
pub spelled_at : (confs : List Conf) (n i : ℕ) (conf : Conf) → All IsSpelledConf confs
    → n ≤ length confs → i < length (take n confs) → conf ≡ get_or (take n confs) i conf
    → IsSpelledConf conf
spelled_at confs n i conf spelled inside low is =
    let below : i < n = omega (arith, low, length-take-le n confs inside) in
    subst IsSpelledConf (sym (is ∙ get_or-take n confs i conf below))
    (spelled i conf (omega (arith, below, inside)))

map_take : (n : ℕ) (confs : List Conf) → map conf_bytes (take n confs)
    ≡ take n (map conf_bytes confs)
map_take zero confs = refl
map_take (suc n) [] = refl
map_take (suc n) (conf ∷ confs) = ap (λ l. conf_bytes conf ∷ l) (map_take n confs)

-- all of the first configurations
pub gate_whole : (confs : List Conf) (n i : ℕ) → length (take n confs) ≤ i
    → conf_gate (take n confs) i ≡ conf_gate confs n
gate_whole confs n i past =
    ap end_of (take_all i (map conf_bytes (take n confs))
    (omega (arith, past, length-map (take n confs) conf_bytes)) ∙ map_take n confs)

-- the places stay small
pub gate_fits : (confs : List Conf) (n i place size : ℕ) → length confs ≤ 16 → n ≤ length confs
    → i < length (take n confs) → place ≤ 16 + i * 68719476741 → size ≤ 2 ^ 36
    → place + (5 + size) < 2 ^ 64
gate_fits confs n i place size few inside low before short =
    omega (arith, few, inside, low, length-take-le n confs inside, before, short)
