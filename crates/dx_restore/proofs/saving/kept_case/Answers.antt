use Rattle.std.proofs.Common.{◌∙◌}
use Rattle.dx_restore.proofs.saving.kept_case.Goals as goal

pub returns : goal.returns
returns c =
    c.new.ensures
    ∙ (λ i. record {
      number = c.number.ensures i;
      opened = c.opened.ensures i;
      entries = (c.in_ok-entries.ensures.items ∙ c.reports.ensures) i;
      observed = (c.in_ok-observed.ensures.items ∙ c.observed.ensures) i;
      broken = (c.in_ok-broken.ensures ∙ c.broken.ensures) i;
    })
