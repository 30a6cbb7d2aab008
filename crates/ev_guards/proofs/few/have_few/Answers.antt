use Rattle.std.proofs.Common.{◌∙◌, ◌&&◌, Bool, sym, ap}
use Rattle.std.specs.List.{list_all}
use Rattle.ev_guards.specs.Guards.{has_instance_number}
use Rattle.ev_guards.proofs.GuardsAlike.{few_links}
use Rattle.ev_guards.proofs.few.have_few.Goals as goal

pub returns-then-are_few : goal.returns-then-are_few
returns-then-are_few c =
    let all = list_all (λ n. list_all has_instance_number n.guards.items) c.args.nodes.now in
    c.have_numbers.ensures ∙ ap (λ (b : Bool). b && all)
    (sym (sym c.are_few.ensures ∙ c.if-are_few.true))
    ∙ few_links c.args.nodes.now

pub returns-else-are_few : goal.returns-else-are_few
returns-else-are_few c =
    let all = list_all (λ n. list_all has_instance_number n.guards.items) c.args.nodes.now in
    c.if-are_few.false
    ∙ ap (λ (b : Bool). b && all) (sym (sym c.are_few.ensures ∙ c.if-are_few.false))
    ∙ few_links c.args.nodes.now
