-- A sort without doubles.
use Rattle.std.proofs.Common.{List, ℕ, sym, ap, ◌∙◌, subst, eqb}
use Rattle.std.proofs.lemmas.List.Filters.{dedup_is}
use Rattle.ev_join.specs.Tables.{RisesFrom}
use Rattle.ev_incidence.specs.Sets.{is_member}
use Rattle.ev_inst.proofs.NodeSets.{set_members, set_rises}
use Rattle.ev_inst.proofs.numbers.set_of.Goals as goal

pub returns-clause-rises : goal.returns-clause-rises
returns-clause-rises c =
    subst (RisesFrom 0)
    (sym (dedup_is eqb c.sort_unstable.new.self.items c.dedup.new.self.items
    c.dedup.ensures.filtered))
    (set_rises c.sort_unstable.new.self.items c.sort_unstable.ensures.sorted)

pub returns-clause-members : goal.returns-clause-members
returns-clause-members c = λ n.
    ap (λ (xs : List ℕ). is_member xs n)
    (dedup_is eqb c.sort_unstable.new.self.items c.dedup.new.self.items c.dedup.ensures.filtered)
    ∙ set_members c.args.numbers.items c.sort_unstable.new.self.items
    c.sort_unstable.ensures.permutation n
