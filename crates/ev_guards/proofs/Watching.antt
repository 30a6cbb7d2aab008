-- What guards say is said of what they are but for where their conditions lie in memory.
use Rattle.std.proofs.Common.{◌≡◌, ◌||◌, ◌==◌, ℕ, Bool, true, false, not, cond, List, [], ◌∷◌, map}
use Rattle.std.proofs.Common.{filter, refl, sym, ap}
use Rattle.std.specs.List.{list_any}
use Rattle.std.proofs.lemmas.Bool.{false≢true}
use Rattle.fm_topo.specs.Topology.{Topology}
use Rattle.ev_expr.specs.Conditions.{holds}
use Rattle.ev_expr.specs.declared.settings.Prop.{Prop}
use Rattle.ev_graph.specs.declared.instances.Link.{Link}
use Rattle.ev_guards.specs.Watched.{Asked, Guarded, view_guard, view_question}
use Rattle.ev_guards.specs.Guards.{guard_instance, is_broken, is_guard_of, question_holds, link_to}
use Rattle.ev_guards.specs.declared.guards.Question.{Question}
use Rattle.ev_guards.specs.declared.guards.Guard.{Guard}

-- ---- what is asked, without where it lies in memory
abbrev pub answer : Topology → List ℕ → List Prop → Asked → Bool
answer topology path props a = holds (record {
  names = a.names;
  topology = topology;
  path = path;
  props = props;
}) a.condition

pub met_any : (topology : Topology) (path : List ℕ) (props : List Prop) (qs : List Question)
    → list_any (question_holds topology path props) qs
    ≡ list_any (answer topology path props) (map view_question qs)
met_any topology path props [] = refl
met_any topology path props (q ∷ qs) =
    ap (λ (b : Bool). question_holds topology path props q || b) (met_any topology path props qs)

abbrev pub is_of_instance : ℕ → Guarded → Bool
is_of_instance i v = v.instance == i

pub guard_any : (i : ℕ) (gs : List Guard)
    → list_any (is_guard_of i) gs ≡ list_any (is_of_instance i) (map view_guard gs)
guard_any i [] = refl
guard_any i (g ∷ gs) = ap (λ (b : Bool). is_guard_of i g || b) (guard_any i gs)

abbrev pub guarded_instance : Guarded → ℕ
guarded_instance v = v.instance

abbrev pub is_unmet : Topology → List ℕ → List Prop → List Asked → Bool
is_unmet topology path props asked = not (list_any (answer topology path props) asked)

pub broken_map : (topology : Topology) (path : List ℕ) (props : List Prop) (gs : List Guard)
    → map guard_instance (filter (is_broken topology path props) gs)
    ≡ map guarded_instance
    (filter (λ v. is_unmet topology path props v.asked) (map view_guard gs))
broken_map topology path props [] = refl
broken_map topology path props (g ∷ gs) =
    by (is_broken topology path props g) refl (broken_map topology path props gs) where
      seen : is_broken topology path props g
          ≡ is_unmet topology path props (map view_question g.questions.items)
      seen = ap not (met_any topology path props g.questions.items)

      by : (b : Bool) → is_broken topology path props g ≡ b
          → map guard_instance (filter (is_broken topology path props) gs)
          ≡ map guarded_instance
          (filter (λ v. is_unmet topology path props v.asked) (map view_guard gs))
          → map guard_instance (filter (is_broken topology path props) (g ∷ gs))
          ≡ map guarded_instance
          (filter (λ v. is_unmet topology path props v.asked) (map view_guard (g ∷ gs)))
      by b is rest =
          step (is_broken topology path props g)
          (is_unmet topology path props (map view_question g.questions.items)) seen where
            step : (x y : Bool) → x ≡ y
                → map guard_instance (cond x (g ∷ filter (is_broken topology path props) gs)
                (filter (is_broken topology path props) gs))
                ≡ map guarded_instance (cond y (view_guard g
                ∷ filter (λ v. is_unmet topology path props v.asked) (map view_guard gs))
                (filter (λ v. is_unmet topology path props v.asked) (map view_guard gs)))
            step true true e = ap (λ (xs : List ℕ). g.instance ∷ xs) rest
            step false false e = rest
            step true false e = absurd (false≢true (sym e))
            step false true e = absurd (false≢true e)

-- ---- the links
abbrev pub watched_link : ℕ → Guarded → Link
watched_link e g = record { instance = g.instance; effect = e }

pub links_here : (e : ℕ) (gs : List Guard)
    → map (link_to e) gs ≡ map (watched_link e) (map view_guard gs)
links_here e [] = refl
links_here e (g ∷ gs) = ap (λ (ls : List Link). link_to e g ∷ ls) (links_here e gs)
