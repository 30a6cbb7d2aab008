-- The whole of a rule file: what its reader answers, and where it stops.
use Rattle.std.proofs.Common.{◌≡◌, ℕ, ◌+◌, ◌-◌, ◌<◌, ◌≤◌, List, [], ◌∷◌, ◌++◌, length, take, false}
use Rattle.std.proofs.Common.{Ok, Err, refl, sym, ◌∙◌, ap, subst, append_assoc, length-append}
use Rattle.std.proofs.Common.{arith}
use Rattle.std.proofs.lemmas.List.{take_at, length-map}
use Rattle.ev_lex.specs.declared.token.Token.{Token}
use Rattle.ev_tree.specs.Grammar.{file}
use Rattle.ev_tree.specs.Rule.{Rule}
use Rattle.ev_tree.specs.Tok.{Tok}
use Rattle.ev_parse.specs.Fault.{BeginsFile, IsParseFault, IsFaultOfText, fault_from}
use Rattle.ev_parse.specs.Gives.{Fails}
use Rattle.ev_parse.specs.Toks.{toks, tok_of}
use Rattle.ev_parse.specs.declared.stop.ParseStop.{ParseStop}
use Rattle.ev_parse.specs.declared.stop.ParseStop.TheVariants as stops
use Rattle.ev_parse.specs.declared.fault.ParseFault.TheVariants as faults
use Rattle.ev_parse.specs.Read.{Got, opens_at}
use Rattle.ev_parse.specs.Reading.{any_token, file_at}
use Rattle.ev_parse.proofs.GrammarLaws.{file_law, statement_law, statement_begins}
use Rattle.ev_parse.proofs.Laws.{Failed, After}
use Rattle.ev_parse.proofs.Many.{many_ends}

append_none : {A : Type 0} (l : List A) → l ++ [] ≡ l
append_none [] = refl
append_none (a ∷ more) = ap (λ k. a ∷ k) (append_none more)

-- what is spelled is read to the end
pub file_read : (rules : List Rule) (ts : List Tok) → file rules ts → file_at ts ≡ Ok (rules, [])
file_read rules ts s = ap file_at (sym (append_none ts)) ∙ file_law.again rules ts [] s refl

no_rest : (rest : List Tok) → opens_at any_token rest ≡ false → rest ≡ []
no_rest [] e = refl
no_rest (t ∷ ts) e = absurd (cc)

pub all_read : (ts : List Tok) (x : List Rule × List Tok) → file_at ts ≡ Ok x → x.1 ≡ []
unfolding file_at
all_read ts x e = no_rest x.1 (many_ends any_token statement_begins statement_law ts x e)

took_file : (ts : List Tok) (r : Got (List Rule)) (x : List Rule × List Tok) → r ≡ Ok x → x.1 ≡ []
    → After file_at file ts r → file x.0 ts
took_file ts (Ok y) x e end took =
    let same : y ≡ x = cc in
    let all' : ts ≡ took.front = took.parts ∙ ap (λ l. took.front ++ l) (ap (λ z. z.1) same ∙ end)
    ∙ append_none took.front in
    subst (λ z. file z.0 ts) same (subst (λ l. file y.0 l) (sym all') took.spelled)
took_file ts (Err rest) x e end failed = absurd (cc)

-- what is read is spelled
pub file_found : (ts : List Tok) (x : List Rule × List Tok) → file_at ts ≡ Ok x → file x.0 ts
file_found ts x e = took_file ts (file_at ts) x e (all_read ts x e) (file_law.after ts)

not_both : (x : List Rule × List Tok) (rest : List Tok) (r : Got (List Rule)) → r ≡ Ok x
    → r ≡ Err rest → ⊥
not_both x rest r a b = let two : ◌≡◌ {A = Got (List Rule)} (Ok x) (Err rest) = sym a ∙ b in cc

-- no file has the token of the fault behind those before it
refuses : (ts rest : List Tok) (failed : Failed file_at file ts rest) (t : Tok) (a : List Tok)
    → rest ≡ t ∷ a → BeginsFile (failed.seen ++ t ∷ []) → ⊥
refuses ts rest failed t a h begins =
    not_both (begins.rules, []) (t ∷ begins.more) (file_at (failed.seen ++ t ∷ begins.more))
    (ap file_at (sym (append_assoc failed.seen (t ∷ []) begins.more))
    ∙ file_read begins.rules ((failed.seen ++ t ∷ []) ++ begins.more) begins.spelled)
    (failed.same t a begins.more h)

fault_seen : (ts rest : List Tok) → file_at ts ≡ Err rest → (failed : Failed file_at file ts rest)
    → IsParseFault ts (length failed.seen)
fault_seen ts rest e failed =
    record {
      within = omega (arith, ap length failed.parts, length-append failed.seen rest);
      before = subst BeginsFile
          (sym (ap (take (length failed.seen)) failed.parts
          ∙ take_at failed.seen rest (length failed.seen) refl))
          (record { rules = failed.value; more = failed.more; spelled = failed.viable });
      refused = λ less begins. by_rest rest refl less begins;
      missing = λ rules s. not_both (rules, []) rest (file_at ts) (file_read rules ts s) e;
    }
  where
    one_more : (t : Tok) (a : List Tok) → rest ≡ t ∷ a
        → take (length failed.seen + 1) ts ≡ failed.seen ++ t ∷ []
    one_more t a h =
        ap (take (length failed.seen + 1)) (failed.parts ∙ ap (λ l. failed.seen ++ l) h
        ∙ sym (append_assoc failed.seen (t ∷ []) a))
        ∙ take_at (failed.seen ++ t ∷ []) a (length failed.seen + 1)
        (omega (arith, length-append failed.seen (t ∷ [])))

    by_rest : (r : List Tok) → rest ≡ r → length failed.seen < length ts
        → BeginsFile (take (length failed.seen + 1) ts) → ⊥
    by_rest [] h less begins =
        omega (arith, ap length failed.parts, length-append failed.seen rest, ap length h)
    by_rest (t ∷ a) h less begins =
        refuses ts rest failed t a h (subst BeginsFile (one_more t a h) begins)

fault_of : (ts rest : List Tok) (r : Got (List Rule)) → file_at ts ≡ r → r ≡ Err rest
    → After file_at file ts r → (number : ℕ) → number + length rest ≡ length ts
    → IsParseFault ts number
fault_of ts rest (Ok x) e f took number count = absurd (cc)
fault_of ts rest (Err end) e f failed number count =
    let same : end ≡ rest = cc in
    subst (λ n. IsParseFault ts n)
    (omega (
      arith,
      ap length failed.parts,
      length-append failed.seen end,
      ap length same,
      count,
    )) (fault_seen ts end e failed)

-- a stop is a fault, at the token behind those that were taken
pub file_fault : (ts rest : List Tok) → file_at ts ≡ Err rest → (number : ℕ)
    → number + length rest ≡ length ts → IsParseFault ts number
file_fault ts rest e number count =
    fault_of ts rest (file_at ts) refl e (file_law.after ts) number count

one_file : (x y : List Rule × List Tok) → ◌≡◌ {A = Got (List Rule)} (Ok x) (Ok y) → x ≡ y
one_file x y e = cc

-- no other rules are spelled
pub file_one : (ts : List Tok) (x : List Rule × List Tok) (rules : List Rule) → file_at ts ≡ Ok x
    → file rules ts → x.0 ≡ rules
file_one ts x rules e s = ap (λ z. z.0) (one_file x (rules, []) (sym e ∙ file_read rules ts s))

short_of : (ts rest : List Tok) (r : Got (List Rule)) → r ≡ Err rest → After file_at file ts r
    → length rest ≤ length ts
short_of ts rest (Ok x) e took = absurd (cc)
short_of ts rest (Err end) e failed =
    let same : end ≡ rest = cc in
    omega (arith, ap length failed.parts, length-append failed.seen end, ap length same)

-- a stop leaves no more tokens than there are
pub file_short : (ts rest : List Tok) → file_at ts ≡ Err rest → length rest ≤ length ts
file_short ts rest e = short_of ts rest (file_at ts) e (file_law.after ts)

-- a stop is a fault of the tokens, and no rules are spelled
pub stop_faults : (text : List ℕ) (tokens : List Token) (stop : ParseStop)
    → Fails text stop (file_at (toks text tokens))
    → IsFaultOfText text tokens (fault_from (length text) tokens stop)
stop_faults text tokens stops.NoMemory f = tt
stop_faults text tokens (stops.At rest) f =
    let number = length tokens - length rest.now in
    let short = file_short (toks text tokens) (toks text rest.now) f in
    record {
      number = number;
      fault = file_fault (toks text tokens) (toks text rest.now) f number
          (omega (
            arith,
            short,
            length-map tokens (tok_of text),
            length-map rest.now (tok_of text),
          ));
      stands = refl;
    }

pub stop_only : (text : List ℕ) (tokens : List Token) (stop : ParseStop) (rules : List Rule)
    → Fails text stop (file_at (toks text tokens)) → file rules (toks text tokens)
    → fault_from (length text) tokens stop ≡ faults.NoMemory
stop_only text tokens stops.NoMemory rules f s = refl
stop_only text tokens (stops.At rest) rules f s =
    absurd (not_both (rules, []) (toks text rest.now) (file_at (toks text tokens))
    (file_read rules (toks text tokens) s) f)
