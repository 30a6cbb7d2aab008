-- Rule files that are read in turn: those of the sources up to a place.
use Rattle.std.proofs.Common.{◌≡◌, ℕ, ◌+◌, ◌<◌, ◌≤◌, List, [], ◌∷◌, ◌++◌, length, get_or, set}
use Rattle.std.proofs.Common.{refl, subst, sym, arith, zero, suc}
use Rattle.fm_outer.specs.declared.source.Source.{Ghosts}
use Rattle.fm_sources.specs.Sources.{GaveRules, FilesGave, RulesRefused, RefusedAt}
use Rattle.fm_sources.specs.declared.faults.SourceFault.{SourceFault}
use Rattle.fm_sources.specs.declared.files.RuleFile.{RuleFile}

-- the sources before the place gave these files, and the others are as they were
abbrev pub GaveUpTo : {S : Type 0} → Ghosts S → ℕ → List S → List S → List RuleFile → Type 0
GaveUpTo g zero olds news files = (news ≡ olds) × (files ≡ [])
GaveUpTo g (suc i) (old ∷ olds) (new ∷ news) (file ∷ files) =
    GaveRules g old new file × GaveUpTo g i olds news files
GaveUpTo g (suc i) _ _ _ = ⊥

pub gave_more : {S : Type 0} (g : Ghosts S) (i : ℕ) (olds news : List S) (files : List RuleFile)
    (new other : S) (file : RuleFile) → GaveUpTo g i olds news files → i < length news
    → GaveRules g (get_or news i other) new file
    → GaveUpTo g (suc i) olds (set news i new) (files ++ file ∷ [])
gave_more g zero olds [] files new other file so_far lt gave =
    absurd (let no : ⊥ = omega arith in no)
gave_more g zero olds (n ∷ news) files new other file so_far lt gave =
    subst (λ os. GaveUpTo g 1 os (new ∷ news) (files ++ file ∷ [])) so_far.0
    (subst (λ fs. GaveUpTo g 1 (n ∷ news) (new ∷ news) (fs ++ file ∷ [])) (sym so_far.1)
    (gave, (refl, refl)))
gave_more g (suc i) [] [] files new other file so_far lt gave = absurd so_far
gave_more g (suc i) [] (n ∷ news) files new other file so_far lt gave = absurd so_far
gave_more g (suc i) (o ∷ olds) [] files new other file so_far lt gave = absurd so_far
gave_more g (suc i) (o ∷ olds) (n ∷ news) [] new other file so_far lt gave = absurd so_far
gave_more g (suc i) (o ∷ olds) (n ∷ news) (f ∷ files) new other file so_far lt gave =
    (so_far.0, gave_more g i olds news files new other file so_far.1 (omega arith) gave)

pub gave_whole : {S : Type 0} (g : Ghosts S) (i : ℕ) (olds news : List S) (files : List RuleFile)
    → GaveUpTo g i olds news files → length news ≤ i → FilesGave g olds news files
gave_whole g zero olds [] files so_far le =
    subst (λ os. FilesGave g os [] files) so_far.0
    (subst (λ fs. FilesGave g [] [] fs) (sym so_far.1) tt)
gave_whole g zero olds (n ∷ news) files so_far le = absurd (let no : ⊥ = omega arith in no)
gave_whole g (suc i) [] [] files so_far le = absurd so_far
gave_whole g (suc i) [] (n ∷ news) files so_far le = absurd so_far
gave_whole g (suc i) (o ∷ olds) [] files so_far le = absurd so_far
gave_whole g (suc i) (o ∷ olds) (n ∷ news) [] so_far le = absurd so_far
gave_whole g (suc i) (o ∷ olds) (n ∷ news) (f ∷ files) so_far le =
    (so_far.0, gave_whole g i olds news files so_far.1 (omega arith))

pub refused_there : {S : Type 0} (g : Ghosts S) (number i : ℕ) (olds news : List S)
    (files : List RuleFile) (new other : S) (fault : SourceFault) → GaveUpTo g i olds news files
    → i < length news → RulesRefused g (number + i) (get_or news i other) new fault
    → RefusedAt g number i olds (set news i new) fault
refused_there g number zero olds [] files new other fault so_far lt refused =
    absurd (let no : ⊥ = omega arith in no)
refused_there g number zero olds (n ∷ news) files new other fault so_far lt refused =
    subst (λ os. RefusedAt g number 0 os (new ∷ news) fault) so_far.0 (
      subst (λ k. RulesRefused g k n new fault) (let e : number + 0 ≡ number = omega arith in e)
          refused,
      refl,
    )
refused_there g number (suc i) [] [] files new other fault so_far lt refused = absurd so_far
refused_there g number (suc i) [] (n ∷ news) files new other fault so_far lt refused =
    absurd so_far
refused_there g number (suc i) (o ∷ olds) [] files new other fault so_far lt refused =
    absurd so_far
refused_there g number (suc i) (o ∷ olds) (n ∷ news) [] new other fault so_far lt refused =
    absurd so_far
refused_there g number (suc i) (o ∷ olds) (n ∷ news) (f ∷ files) new other fault so_far lt
    refused = (
      (f, so_far.0),
      refused_there g (suc number) i olds news files new other fault so_far.1 (omega arith)
          (subst (λ k. RulesRefused g k (get_or news i other) new fault)
          (let e : number + suc i ≡ suc number + i = omega arith in e) refused),
    )

-- the same, where numbers are places
pub refused_first : {S : Type 0} (g : Ghosts S) (i : ℕ) (olds news : List S)
    (files : List RuleFile) (new other : S) (fault : SourceFault) → GaveUpTo g i olds news files
    → i < length news → RulesRefused g i (get_or news i other) new fault
    → RefusedAt g 0 i olds (set news i new) fault
refused_first g i olds news files new other fault so_far lt refused =
    refused_there g 0 i olds news files new other fault so_far lt
    (subst (λ k. RulesRefused g k (get_or news i other) new fault)
    (let e : i ≡ 0 + i = omega arith in e) refused)

-- one file more, at the next place
pub gave_next : {S : Type 0} (g : Ghosts S) (i : ℕ) (olds news : List S) (files : List RuleFile)
    (new other : S) (file : RuleFile) → GaveUpTo g i olds news files → i < length news
    → GaveRules g (get_or news i other) new file
    → GaveUpTo g (i + 1) olds (set news i new) (files ++ file ∷ [])
gave_next g i olds news files new other file so_far lt gave =
    subst (λ k. GaveUpTo g k olds (set news i new) (files ++ file ∷ []))
    (let e : suc i ≡ i + 1 = omega arith in e)
    (gave_more g i olds news files new other file so_far lt gave)
