-- Entries, read and spelled.
use Rattle.std.proofs.Common.{◌≡◌, ℕ, ◌^◌, Bool, ◌&&◌, ◌==◌, nat_lt, nat_le, IsTrue, List, [], ◌∷◌}
use Rattle.std.proofs.Common.{◌++◌, Option, Some, inl, inr, refl, sym, ap, ◌∙◌, subst}
use Rattle.std.proofs.lemmas.Bool.{ltb-true, lt-ltb, eqb-true}
use Rattle.std.proofs.lemmas.List.{append-nil}
use Rattle.fm_name.specs.Category.{category_of, is_ereport_category, is_ereport}
use Rattle.fm_name.specs.Class.{is_class}
use Rattle.fm_name.specs.Path.{is_path}
use Rattle.fm_name.specs.declared.classes.Category.{Category}
use Rattle.fm_name.specs.declared.classes.Category.TheVariants.{Ereport}
use Rattle.fm_nv.specs.Data.{Pairs}
use Rattle.fm_bytes.specs.Numbers.{AllBytes, u32_bytes, u64_bytes, short_text}
use Rattle.fm_nv.specs.Spelled.{pairs_bytes}
use Rattle.fm_bytes.specs.Reading.{Read, after, made, number_from, both_from, whole}
use Rattle.fm_nv.specs.Reading.{list_from}
use Rattle.fm_bytes.proofs.Booleans.{and_parts, and_true}
use Rattle.fm_bytes.proofs.Readers.{IsReader, after_some, some_same, choice_some, choice_split}
use Rattle.fm_bytes.proofs.Readers.{left_bytes, byte_reader, word_reader}
use Rattle.fm_bytes.proofs.Combined.{made_some, made_read, both_reader, whole_some}
use Rattle.fm_nv.proofs.ValueKinds.{fits_within}
use Rattle.fm_nv.proofs.ListReader.{list_reader, spelled_within, within_spelled}
use Rattle.fm_entry.specs.declared.entry.Entry.{Entry}
use Rattle.fm_entry.specs.declared.entry.Entry.TheVariants.{Report, Tick, Repaired, Replaced}
use Rattle.fm_entry.specs.declared.entry.Entry.TheVariants.{Acquit, Reload}
use Rattle.fm_entry.specs.Entries.{IsSpelled, entry_bytes}
use Rattle.fm_entry.specs.Reading.{report_class_from, path_from, moment_from, module_from}
use Rattle.fm_entry.specs.Reading.{case_from, report_from, acquit_from, tagged_from, entry_from}
use Rattle.fm_entry.proofs.PartReaders.{path_reader, report_class_reader, moment_reader}
use Rattle.fm_entry.proofs.PartReaders.{module_reader, case_reader}

-- a category that passes the test is that of reports
pub ereport_is : (o : Option Category) → IsTrue (is_ereport_category o) → o ≡ Some Ereport
ereport_is (Some Ereport) h = refl
ereport_is _ h = cc

abbrev small : ℕ → Bool
small n = nat_lt n (2 ^ 62)

abbrev report_fits : List ℕ × (List ℕ × (ℕ × Pairs)) → Bool
report_fits f = is_ereport f.0 && (is_path f.1.0 && (small f.1.1.0 && fits_within 8 f.1.1.1))

abbrev report_bytes : List ℕ × (List ℕ × (ℕ × Pairs)) → List ℕ
report_bytes f = short_text f.0 ++ (short_text f.1.0 ++ (u64_bytes f.1.1.0 ++ pairs_bytes f.1.1.1))

report_reader : IsReader report_fits report_bytes report_from
unfolding report_from
report_reader =
    both_reader _ _ _ _ report_class_from _ report_class_reader
    (both_reader _ _ _ _ path_from _ path_reader
    (both_reader _ _ _ _ moment_from (list_from 8) moment_reader (list_reader 8)))

abbrev acquit_fits : ℕ × (ℕ × ℕ) → Bool
acquit_fits f = nat_lt f.0 8 && (nat_lt f.1.0 (2 ^ 63) && small f.1.1)

abbrev acquit_bytes : ℕ × (ℕ × ℕ) → List ℕ
acquit_bytes f = u32_bytes f.0 ++ (u64_bytes f.1.0 ++ u64_bytes f.1.1)

acquit_reader : IsReader acquit_fits acquit_bytes acquit_from
unfolding acquit_from
acquit_reader = both_reader _ _ _ _ module_from _ module_reader
    (both_reader _ _ _ _ case_from moment_from case_reader moment_reader)

abbrev place_fits : List ℕ × ℕ → Bool
place_fits f = is_path f.0 && small f.1

abbrev place_bytes : List ℕ × ℕ → List ℕ
place_bytes f = short_text f.0 ++ u64_bytes f.1

place_reader : IsReader place_fits place_bytes (both_from path_from moment_from)
place_reader = both_reader _ _ _ _ path_from moment_from path_reader moment_reader

abbrev reload_fits : ℕ × ℕ → Bool
reload_fits f = nat_lt f.0 (2 ^ 32) && small f.1

abbrev reload_bytes : ℕ × ℕ → List ℕ
reload_bytes f = u32_bytes f.0 ++ u64_bytes f.1

reload_reader : IsReader reload_fits reload_bytes (both_from (number_from 4) moment_from)
reload_reader = both_reader _ _ _ _ (number_from 4) moment_from word_reader moment_reader

-- the entries of the fields that fit have a spelling
report_spelled : (f : List ℕ × (List ℕ × (ℕ × Pairs))) → IsTrue (report_fits f)
    → IsSpelled (Report f.0 f.1.0 f.1.1.0 f.1.1.1)
report_spelled f h =
    let one = and_parts (is_ereport f.0) _ h in
    let class = and_parts (is_class f.0) _ one.0 in
    let two = and_parts (is_path f.1.0) _ one.1 in
    let three = and_parts (small f.1.1.0) _ two.1 in
    record {
      moment_fits = ltb-true f.1.1.0 (2 ^ 62) three.0;
      body = record {
        class_is = class.0;
        category_is =
            ereport_is (category_of f.0) class.1;
        path_is = two.0;
        payload_is =
            spelled_within f.1.1.1 three.1;
      };
    }

report_back : (f : List ℕ × (List ℕ × (ℕ × Pairs))) → IsSpelled (Report f.0 f.1.0 f.1.1.0 f.1.1.1)
    → IsTrue (report_fits f)
report_back f h =
    and_true (is_ereport f.0) _
    (and_true (is_class f.0) _ h.body.class_is (ap is_ereport_category h.body.category_is))
    (and_true (is_path f.1.0) _ h.body.path_is
    (and_true (small f.1.1.0) _ (lt-ltb f.1.1.0 (2 ^ 62) h.moment_fits)
    (within_spelled f.1.1.1 h.body.payload_is)))

acquit_spelled : (f : ℕ × (ℕ × ℕ)) → IsTrue (acquit_fits f)
    → IsSpelled (Acquit (record { «module» = f.0; case = f.1.0 }) f.1.1)
acquit_spelled f h =
    let one = and_parts (nat_lt f.0 8) _ h in
    let two = and_parts (nat_lt f.1.0 (2 ^ 63)) _ one.1 in
    record {
      moment_fits = ltb-true f.1.1 (2 ^ 62) two.1;
      body = record {
        module_fits = ltb-true f.0 8 one.0;
        case_fits =
            ltb-true f.1.0 (2 ^ 63) two.0;
      };
    }

-- a kind of entry
kind_entry : {A : Type 0} (tag : ℕ) (g : A → Entry) (f : A → Bool) (s : A → List ℕ)
    (r : List ℕ → Read A) → IsReader f s r
    → ((x : A) → IsTrue (f x) → IsSpelled (g x)) → ((x : A) → entry_bytes (g x) ≡ tag ∷ s x)
    → (n : ℕ) (bytes : List ℕ) (t : Entry × List ℕ) → n ≡ tag → AllBytes bytes
    → made g (r bytes) ≡ Some t → IsSpelled t.0 × (n ∷ bytes ≡ entry_bytes t.0 ++ t.1)
kind_entry tag g f s r reader spelled same n bytes t is all h =
    let some = made_some g (r bytes) t h in
    let known = reader.sound bytes some.0 all some.1 in (
      subst (λ (p : Entry × List ℕ). IsSpelled p.0) (sym some.2) (spelled some.0.0 known.0),
      (λ i. is i ∷ known.1 i) ∙ ap (λ (xs : List ℕ). xs ++ some.0.1) (sym (same some.0.0))
          ∙ sym (ap (λ (p : Entry × List ℕ). entry_bytes p.0 ++ p.1) some.2),
    )

tagged_sound : (n : ℕ) (bytes : List ℕ) (t : Entry × List ℕ) → AllBytes bytes
    → tagged_from n bytes ≡ Some t
    → IsSpelled t.0 × (n ∷ bytes ≡ entry_bytes t.0 ++ t.1)
unfolding tagged_from
tagged_sound n bytes t all h =
    elim (choice_split (n == 1) (made (λ f. Report f.0 f.1.0 f.1.1.0 f.1.1.1) (report_from bytes)) _
    (Some t) h) [
      | inl is ↦ kind_entry 1 (λ f. Report f.0 f.1.0 f.1.1.0 f.1.1.1) report_fits report_bytes
          report_from report_reader report_spelled (λ f. refl) n bytes t (eqb-true n 1 is.0) all
          is.1
      | inr other ↦ elim (choice_split (n == 2) (made Tick (moment_from bytes)) _ (Some t)
          other.1) [
            | inl is ↦ kind_entry 2 Tick small u64_bytes moment_from moment_reader
                (λ m k. record { moment_fits = ltb-true m (2 ^ 62) k; body = tt }) (λ m. refl) n
                bytes t
                (eqb-true n 2 is.0) all is.1
            | inr other ↦ elim (choice_split (n == 3)
                (made (λ f. Repaired f.0 f.1) (both_from path_from moment_from bytes)) _ (Some t)
                other.1) [
                  | inl is ↦ kind_entry 3 (λ f. Repaired f.0 f.1) place_fits place_bytes
                      (both_from path_from moment_from) place_reader
                      (λ f k. let parts = and_parts (is_path f.0) _ k in
                      record { moment_fits = ltb-true f.1 (2 ^ 62) parts.1; body = parts.0 })
                      (λ f. refl) n bytes t (eqb-true n 3 is.0) all is.1
                  | inr other ↦ elim (choice_split (n == 4)
                      (made (λ f. Replaced f.0 f.1) (both_from path_from moment_from bytes)) _
                      (Some t)
                      other.1) [
                        | inl is ↦ kind_entry 4 (λ f. Replaced f.0 f.1) place_fits place_bytes
                            (both_from path_from moment_from) place_reader
                            (λ f k. let parts = and_parts (is_path f.0) _ k in
                            record { moment_fits = ltb-true f.1 (2 ^ 62) parts.1; body = parts.0 })
                            (λ f. refl) n bytes t (eqb-true n 4 is.0) all is.1
                        | inr other ↦ elim (choice_split (n == 5)
                            (made (λ f. Acquit (record { «module» = f.0; case = f.1.0 }) f.1.1)
                            (acquit_from bytes)) _ (Some t) other.1) [
                              | inl is ↦ kind_entry 5
                                  (λ f. Acquit (record { «module» = f.0; case = f.1.0 }) f.1.1)
                                  acquit_fits acquit_bytes acquit_from acquit_reader
                                  acquit_spelled (λ f. refl) n bytes t (eqb-true n 5 is.0) all is.1
                              | inr other ↦
                                  let last = choice_some (n == 6)
                                  (made (λ f. Reload f.0 f.1)
                                  (both_from (number_from 4) moment_from bytes)) t other.1 in
                                  kind_entry 6 (λ f. Reload f.0 f.1) reload_fits reload_bytes
                                  (both_from (number_from 4) moment_from) reload_reader
                                  (λ f k. let parts = and_parts (nat_lt f.0 (2 ^ 32)) _ k in
                                  record {
                                    moment_fits = ltb-true f.1 (2 ^ 62) parts.1;
                                    body =
                                        ltb-true f.0 (2 ^ 32) parts.0;
                                  })
                                  (λ f. refl) n bytes t (eqb-true n 6 last.0) all last.1
                            ]
                      ]
                ]
          ]
    ]

-- what is read is spelled so
entry_sound : (bytes : List ℕ) (t : Entry × List ℕ) → AllBytes bytes → entry_from bytes ≡ Some t
    → IsSpelled t.0 × (bytes ≡ entry_bytes t.0 ++ t.1)
unfolding entry_from
entry_sound bytes t all h =
    let first = after_some (number_from 1 bytes) (λ tag rest. tagged_from tag rest) t h in
    let tag = byte_reader.sound bytes first.0 all first.1 in
    let known = tagged_sound first.0.0 first.0.1 t
    (left_bytes bytes (first.0.0 ∷ []) first.0.1 tag.1 all) first.2 in
    (known.0, tag.1 ∙ known.1)

entry_start : (tag : ℕ) (bytes : List ℕ) → IsTrue (nat_le tag 255)
    → entry_from (tag ∷ bytes) ≡ tagged_from tag bytes
unfolding entry_from
entry_start tag bytes h =
    ap (λ (r : Read ℕ). after r (λ n rest. tagged_from n rest)) (byte_reader.whole tag bytes h)

-- what is spelled is read again
entry_read : (e : Entry) (rest : List ℕ) → IsSpelled e
    → entry_from (entry_bytes e ++ rest) ≡ Some (e, rest)
unfolding tagged_from
entry_read (Report class path moment payload) rest h =
    entry_start 1 _ refl
    ∙ made_read (λ f. Report f.0 f.1.0 f.1.1.0 f.1.1.1) _ (class, (path, (moment, payload))) rest
    (report_reader.whole (class, (path, (moment, payload))) rest
    (report_back (class, (path, (moment, payload))) h))
entry_read (Tick moment) rest h =
    entry_start 2 _ refl ∙ made_read Tick _ moment rest
    (moment_reader.whole moment rest (lt-ltb moment (2 ^ 62) h.moment_fits))
entry_read (Repaired path moment) rest h =
    entry_start 3 _ refl
    ∙ made_read (λ f. Repaired f.0 f.1) _ (path, moment) rest
    (place_reader.whole (path, moment) rest
    (and_true (is_path path) _ h.body (lt-ltb moment (2 ^ 62) h.moment_fits)))
entry_read (Replaced path moment) rest h =
    entry_start 4 _ refl
    ∙ made_read (λ f. Replaced f.0 f.1) _ (path, moment) rest
    (place_reader.whole (path, moment) rest
    (and_true (is_path path) _ h.body (lt-ltb moment (2 ^ 62) h.moment_fits)))
entry_read (Acquit case moment) rest h =
    entry_start 5 _ refl
    ∙ made_read (λ f. Acquit (record { «module» = f.0; case = f.1.0 }) f.1.1) _
    (case.module, (case.case, moment)) rest
    (acquit_reader.whole (case.module, (case.case, moment)) rest
    (and_true (nat_lt case.module 8) _ (lt-ltb case.module 8 h.body.module_fits)
    (and_true (nat_lt case.case (2 ^ 63)) _ (lt-ltb case.case (2 ^ 63) h.body.case_fits)
    (lt-ltb moment (2 ^ 62) h.moment_fits))))
entry_read (Reload conf moment) rest h =
    entry_start 6 _ refl
    ∙ made_read (λ f. Reload f.0 f.1) _ (conf, moment) rest
    (reload_reader.whole (conf, moment) rest
    (and_true (nat_lt conf (2 ^ 32)) _ (lt-ltb conf (2 ^ 32) h.body)
    (lt-ltb moment (2 ^ 62) h.moment_fits)))

-- the entry that all bytes are
pub entry_spelled : (bytes : List ℕ) (e : Entry) → AllBytes bytes
    → whole (entry_from bytes) ≡ Some e → IsSpelled e × (bytes ≡ entry_bytes e)
entry_spelled bytes e all h =
    let known = entry_sound bytes (e, []) all (whole_some (entry_from bytes) e h) in
    (known.0, known.1 ∙ append-nil (entry_bytes e))

-- the bytes of an entry read as the entry
pub entry_whole : (bytes : List ℕ) (e : Entry) → IsSpelled e → bytes ≡ entry_bytes e
    → whole (entry_from bytes) ≡ Some e
entry_whole bytes e spelled same =
    ap whole (ap entry_from (same ∙ sym (append-nil (entry_bytes e))) ∙ entry_read e [] spelled)

-- an entry that is spelled is read again, and no spelling is a proper prefix of another
pub entry_prefix : (d e : Entry) (xs ys : List ℕ) → IsSpelled d → IsSpelled e
    → entry_bytes d ++ xs ≡ entry_bytes e ++ ys → (d ≡ e) × (xs ≡ ys)
entry_prefix d e xs ys h k same =
    let both = some_same (d, xs) (e, ys) (sym (entry_read d xs h) ∙ ap entry_from same
    ∙ entry_read e ys k) in
    (ap (λ (t : Entry × List ℕ). t.0) both, ap (λ (t : Entry × List ℕ). t.1) both)
