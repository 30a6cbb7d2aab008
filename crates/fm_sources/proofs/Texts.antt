-- A source that gives its bytes piece by piece.
use Rattle.std.proofs.Common.{◌≡◌, ◌∙◌, ℕ, ◌<◌, ◌≤◌, List, [], ◌++◌, length, take, subst}
use Rattle.std.proofs.Common.{arith, refl}
use Rattle.std.proofs.lemmas.List.{append-nil, length-append, length-take-le}
use Rattle.std.proofs.KnownBytes.{Consumes-trans, Consumes-nil}
use Rattle.std.specs.Io.KnownBytes.{Consumes, IsAtEnd}
use Rattle.fm_outer.specs.declared.source.Source.{Ghosts}
use Rattle.fm_sources.specs.Texts.{GivesSoFar, GaveText}

pub gives_none : {S : Type 0} (g : Ghosts S) (limit : ℕ) (source : S)
    → GivesSoFar g limit source source []
gives_none g limit source = record {
  consumed = Consumes-nil (g.left source);
  near = omega arith;
  quiet = refl;
}

pub gives_more : {S : Type 0} (g : Ghosts S) (limit : ℕ) (start old new : S)
    (text piece : List ℕ) (n : ℕ)
    → GivesSoFar g limit start old text → length text ≤ limit
    → n ≤ length piece → length piece ≡ 4096
    → Consumes (g.left old) (g.left new) (take n piece)
    → g.failures new ≡ g.failures old → GivesSoFar g limit start new (text ++ take n piece)
gives_more g limit start old new text piece n so_far few fits size more same = record {
  consumed = Consumes-trans (g.left start) (g.left old) (g.left new) text (take n piece)
      so_far.consumed more;
  near =
      let both = length-append text (take n piece) in
      let taken = length-take-le n piece fits in
      omega (arith, both, taken, few, fits, size);
  quiet = same ∙ so_far.quiet;
}

pub gave_much : {S : Type 0} (g : Ghosts S) (limit : ℕ) (start new : S) (text : List ℕ)
    → GivesSoFar g limit start new text → limit < length text → GaveText g limit start new text
gave_much g limit start new text so_far much = record {
  consumed = so_far.consumed;
  whole = λ few. absurd (let no : ⊥ = omega (arith, few, much) in no);
  near = so_far.near;
  quiet = so_far.quiet;
}

pub gave_all : {S : Type 0} (g : Ghosts S) (limit : ℕ) (start old new : S) (text bytes : List ℕ)
    → GivesSoFar g limit start old text → Consumes (g.left old) (g.left new) (take 0 bytes)
    → IsAtEnd (g.left new) → g.failures new ≡ g.failures old → GaveText g limit start new text
gave_all g limit start old new text bytes so_far none end same = record {
  consumed = subst (λ t. Consumes (g.left start) (g.left new) t) (append-nil text)
      (Consumes-trans (g.left start) (g.left old) (g.left new) text [] so_far.consumed none);
  whole = λ few. end;
  near = so_far.near;
  quiet = same ∙ so_far.quiet;
}

-- what a source gives, piece by piece and at the end
pub ruleset reading = (gives_none, gives_more, gave_much, gave_all)
