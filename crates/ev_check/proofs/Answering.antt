-- The fault of a phase as the fault of the file.
use Rattle.std.proofs.Common.{◌≡◌, inl, inr, List, subst, Option, Some}
use Rattle.std.specs.Option.{IfSome}
use Rattle.ev_tree.specs.declared.tree.Statement.{Statement}
use Rattle.ev_check.specs.declared.kinds.CheckFault.{CheckFault}
use Rattle.ev_check.specs.declared.kinds.CheckFault.TheVariants.{At, NoMemory}
use Rattle.ev_check.specs.Declarations.{twice_after}
use Rattle.ev_check.specs.Faults.{IsAnswer, IsArrowAnswer, IsCycleAnswer, IsDrawn, IsCheckFault}
use Rattle.ev_check.specs.Faults.{IsFirst, NotDeclared, IsTripAnswer, IsTripFree, IsTwice, InItself}
use Rattle.ev_check.specs.Faults.{Passes, in_itself, finds_undeclared}

-- a fact of two lists, at lists that are the same
pub at_both : {A : Type 0} (P : A → A → Type 0) (a b x y : A) → a ≡ x → b ≡ y → P a b → P x y
at_both P a b x y e f p = subst (λ u. P u y) e (subst (λ u. P a u) f p)

-- the fault of a phase is the fault of the file, where the phases before found nothing
pub by_words : (ss : List Statement) (e : CheckFault) → IsAnswer (IsFirst in_itself ss) e
    → IsAnswer (IsCheckFault ss) e
by_words ss (At place kind) h = InItself h
by_words ss NoMemory h = tt

pub by_twice : (ss : List Statement) (e : CheckFault) → Passes in_itself ss
    → IsAnswer (IsFirst twice_after ss) e → IsAnswer (IsCheckFault ss) e
by_twice ss (At place kind) a h = IsTwice a h
by_twice ss NoMemory a h = tt

pub by_undeclared : (ss : List Statement) (e : CheckFault) → Passes in_itself ss
    → Passes twice_after ss → IsAnswer (IsFirst (finds_undeclared ss) ss) e
    → IsAnswer (IsCheckFault ss) e
by_undeclared ss (At place kind) a b h = NotDeclared a b h
by_undeclared ss NoMemory a b h = tt

pub by_arrows : (ss : List Statement) (e : CheckFault) → Passes in_itself ss → Passes twice_after ss
    → Passes (finds_undeclared ss) ss → IsAnswer (IsArrowAnswer ss) e → IsAnswer (IsCheckFault ss) e
by_arrows ss (At place kind) a b d h = IsDrawn a b d h
by_arrows ss NoMemory a b d h = tt

pub by_trips : (ss : List Statement) (e : CheckFault) → IsAnswer (IsTripAnswer ss) e
    → IsAnswer (IsArrowAnswer ss) e
by_trips ss (At place kind) h = inl h
by_trips ss NoMemory h = tt

pub by_cycle : (ss : List Statement) (e : CheckFault) → IsTripFree ss
    → IsAnswer (IsCycleAnswer ss) e → IsAnswer (IsArrowAnswer ss) e
by_cycle ss (At place kind) a h = inr (a, h)
by_cycle ss NoMemory a h = tt

-- what is said of a value that is there, at the value
pub at_some : {A : Type 0} (P : A → Type 0) (o : Option A) (x : A) → o ≡ Some x → IfSome o P → P x
at_some {A} P o x e h = subst (λ (q : Option A). IfSome q P) e h
