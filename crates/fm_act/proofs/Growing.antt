-- What an actuator holds after calls with several paths, call by call.
use Rattle.std.proofs.Common.{◌≡◌, inl, inr, ℕ, ◌<◌, List, [], ◌∷◌, ◌++◌, Option, None, Some}
use Rattle.std.proofs.Common.{sym, subst, ap, ◌∙◌, ◌+◌, arith, length, get_or, map}
use Rattle.std.proofs.Common.{take}
use Rattle.std.proofs.lemmas.List.{take_more, get_or-map, length-map}
use Rattle.std.specs.Prelude.{Contains}
use Rattle.std.proofs.Math.Logic.{⊎_elim}
use Rattle.std.proofs.lemmas.List.Elements.{Contains-push, Contains-append_left}
use Rattle.std.proofs.lemmas.List.Elements.{Contains-push_cases}
use Rattle.fm_act.specs.HeldPaths.{AddsPath, TakesPath}
use Rattle.fm_act.specs.Changes.{AddsPaths, TakesPaths}

-- one element more of what is made of a list
pub next_of : {X Y : Type 0} (f : X → Y) (xs : List X) (i : ℕ) (x : X) → i < length xs
    → x ≡ get_or xs i x → take (i + 1) (map f xs) ≡ take i (map f xs) ++ f x ∷ []
next_of f xs i x lt is =
    let within : i < length (map f xs) = subst (λ n. i < n) (sym (length-map xs f)) lt in
    take_more (map f xs) i (f x) within
    ∙ ap (λ y. take i (map f xs) ++ y ∷ []) (get_or-map f xs i x (f x) lt ∙ ap f (sym is))

none_in : (q : List ℕ) → Contains [] q → ⊥
none_in q c = let below : c.0 < 0 = c.1 in omega arith

pub takes_none : (held : Option (List (List ℕ))) → TakesPaths [] held held
takes_none None = tt
takes_none (Some xs) = λ q. ((λ there. (none_in q, there)), (λ both. both.1))

pub takes_more : (ps : List (List ℕ)) (p : List ℕ) (a b c : Option (List (List ℕ)))
    → TakesPaths ps a b → TakesPath p b c → TakesPaths (ps ++ p ∷ []) a c
takes_more ps p None b c s t = tt
takes_more ps p (Some xs) None c s t = absurd s
takes_more ps p (Some xs) (Some ys) None s t = absurd t
takes_more ps p (Some xs) (Some ys) (Some zs) s t = λ q. (
  (λ there.
      let left = (t q).0 there in
      let had = (s q).0 left.1 in
      ((λ m. ⊎_elim had.0 (λ e. left.0 (sym e)) (Contains-push_cases ps p q m)), had.1)),
  (λ both. (t q).1 (
    (λ e. both.0 (subst (λ z. Contains (ps ++ p ∷ []) z) (sym e) (Contains-push ps p))),
    (s q).1 ((λ m. both.0 (Contains-append_left ps (p ∷ []) q m)), both.1),
  )),
)

pub adds_none : (held : Option (List (List ℕ))) → AddsPaths [] held held
adds_none None = tt
adds_none (Some xs) = λ q. ((λ there. inr there), ⊎_elim (λ m. absurd (none_in q m)) (λ had. had))

pub adds_more : (ps : List (List ℕ)) (p : List ℕ) (a b c : Option (List (List ℕ)))
    → AddsPaths ps a b → AddsPath p b c → AddsPaths (ps ++ p ∷ []) a c
adds_more ps p None b c s t = tt
adds_more ps p (Some xs) None c s t = absurd s
adds_more ps p (Some xs) (Some ys) None s t = absurd t
adds_more ps p (Some xs) (Some ys) (Some zs) s t = λ q. (
  (λ there. ⊎_elim
      (λ e. inl (subst (λ z. Contains (ps ++ p ∷ []) z) (sym e) (Contains-push ps p)))
      (λ had. ⊎_elim (λ m. inl (Contains-append_left ps (p ∷ []) q m)) (λ old. inr old)
      ((s q).0 had))
      ((t q).0 there)),
  (λ either. (t q).1 (⊎_elim
      (λ m. ⊎_elim (λ old. inr ((s q).1 (inl old))) (λ e. inl (sym e))
      (Contains-push_cases ps p q m))
      (λ old. inr ((s q).1 (inr old)))
      either)),
)
