-- A run that stops at its first line.
use Rattle.std.proofs.Common.{ℕ, ◌∷◌, [], List, Bool, length, take, None, Some, refl, sym, ap}
use Rattle.std.proofs.Common.{subst, arith, inl, inr, Result}
use Rattle.std.proofs.lemmas.Result.{IfErr-weaker}
use Rattle.std.specs.Result.{IfErr}
use Rattle.fm_answers.specs.declared.stops.Stop.{Stop}
use Rattle.fm_answers.specs.declared.stops.Stop.TheVariants.{Write, Disk, Memory, Full}
use Rattle.fm_answers.specs.Answers.{answer, answers, entries_in}
use Rattle.fm_answers.specs.Running.{Line, Taken, StopsAt}
use Rattle.fm_answers.specs.Refusing.{LineStops}
use Rattle.fm_answers.specs.Halting.{StopsIn}
use Rattle.fm_answers.proofs.AnswerLists.{entries_none, entries_one, answers_none, answers_one}

pub line_stops : (taken : Taken) (puts : List ℕ → Type 0) (is_told : Bool) (number next : ℕ)
    (line : Line) (stop : Stop)
    → LineStops taken puts (answer is_told number next line) (entries_in line) stop
    → StopsAt taken puts (answers is_told number next) [] line stop
line_stops taken puts is_told number next line Write (m, within, put, took) = (
  m,
  omega (arith, ap length (answers_none is_told number next)),
  subst (λ text. puts (take m text)) (sym (answers_one is_told number next line)) put,
  subst (λ es. taken es None) (sym (entries_one line)) took,
)
line_stops taken puts is_told number next line Memory (put, took) = (
  subst puts (sym (answers_none is_told number next)) put,
  elim took [
    | inl none ↦ inl (subst (λ es. taken es None) (sym entries_none) none)
    | inr one ↦ inr (subst (λ es. taken es None) (sym (entries_one line)) one)
  ],
)
line_stops taken puts is_told number next line Disk (put, (entry, only, left)) = (
  subst puts (sym (answers_none is_told number next)) put,
  (entry, only, subst (λ es. taken es (Some (Disk, entry))) (sym entries_none) left),
)
line_stops taken puts is_told number next line (Full kind) (put, (entry, only, left)) = (
  subst puts (sym (answers_none is_told number next)) put,
  (entry, only, subst (λ es. taken es (Some (Full kind, entry))) (sym entries_none) left),
)
line_stops taken puts is_told number next line _ stops = absurd stops

-- the same of a result
pub line_stops_in : {T : Type 0} (taken : Taken) (puts : List ℕ → Type 0) (is_told : Bool)
    (number next : ℕ) (line : Line) (r : Result T Stop)
    → IfErr r (LineStops taken puts (answer is_told number next line) (entries_in line))
    → IfErr r (StopsIn taken puts (answers is_told number next) (line ∷ []))
line_stops_in taken puts is_told number next line r stops =
    IfErr-weaker r (LineStops taken puts (answer is_told number next line) (entries_in line))
    (StopsIn taken puts (answers is_told number next) (line ∷ []))
    (λ stop stopped. (line, refl, line_stops taken puts is_told number next line stop stopped))
    stops
