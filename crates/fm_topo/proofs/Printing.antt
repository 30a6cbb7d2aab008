-- What is printed piece by piece.
use Rattle.std.proofs.Common.{◌≡◌, ℕ, List, [], ◌∷◌, ◌++◌, ap, sym, ◌∙◌, append_assoc, append-nil}
use Rattle.std.proofs.Common.{length, arith}
use Rattle.fm_topo.specs.Topology.{Topology}
use Rattle.fm_topo.specs.Property.{Properties}
use Rattle.fm_topo.specs.Printed.{place_line, rest_text, topology_text}

pub joined : (old a b mid new : List ℕ) → mid ≡ old ++ a → new ≡ mid ++ b → new ≡ old ++ (a ++ b)
joined old a b mid new e f = f ∙ (ap (λ m. m ++ b) e ∙ append_assoc old a b)

pub quoted_added : (old t a b new : List ℕ) → a ≡ old ++ (34 ∷ []) → b ≡ a ++ t
    → new ≡ b ++ (34 ∷ []) → new ≡ old ++ (34 ∷ (t ++ (34 ∷ [])))
quoted_added old t a b new e f g =
    g ∙ (ap (λ m. m ++ (34 ∷ [])) (f ∙ ap (λ m. m ++ t) e)
    ∙ (append_assoc (old ++ (34 ∷ [])) t (34 ∷ [])
    ∙ append_assoc old (34 ∷ []) (t ++ (34 ∷ []))))

pub pair_added : (old name value a b c new : List ℕ) → a ≡ old ++ (32 ∷ []) → b ≡ a ++ name
    → c ≡ b ++ (61 ∷ []) → new ≡ c ++ value
    → new ≡ old ++ (32 ∷ (name ++ (61 ∷ value)))
pair_added old name value a b c new e f g h =
    h ∙ (ap (λ m. m ++ value) (g ∙ ap (λ m. m ++ (61 ∷ [])) (f ∙ ap (λ m. m ++ name) e))
    ∙ (append_assoc ((old ++ (32 ∷ [])) ++ name) (61 ∷ []) value
    ∙ (append_assoc (old ++ (32 ∷ [])) name (61 ∷ value)
    ∙ append_assoc old (32 ∷ []) (name ++ (61 ∷ value)))))

-- the first line and the others
pub line_then : (p : List ℕ × Properties) (ps : Topology)
    → topology_text (p ∷ ps) ≡ place_line p ++ rest_text ps
unfolding topology_text
line_then p [] = sym (append-nil (place_line p))
line_then p (q ∷ qs) = ap (λ r. place_line p ++ (10 ∷ r)) (line_then q qs)

pub places_some : (old mid new : List ℕ) (places ps : Topology) (p : List ℕ × Properties)
    → places ≡ p ∷ ps → mid ≡ old ++ place_line p → new ≡ mid ++ rest_text ps
    → new ≡ old ++ topology_text places
places_some old mid new places ps p h e f =
    joined old (place_line p) (rest_text ps) mid new e f
    ∙ ap (λ r. old ++ r) (sym (line_then p ps) ∙ ap topology_text (sym h))

pub places_none : (old : List ℕ) (places : Topology) → length places ≡ 0
    → old ≡ old ++ topology_text places
unfolding topology_text
places_none old [] h = sym (append-nil old)
places_none old (p ∷ ps) h = absurd (omega arith)
