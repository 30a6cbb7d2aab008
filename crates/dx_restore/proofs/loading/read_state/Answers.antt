-- What was read is the only lawful state that the bytes can spell.
use Rattle.std.proofs.Common.{◌≡◌, sym, ap, ◌∙◌}
use Rattle.std.proofs.lemmas.Bool.{false≢true}
use Rattle.fm_bytes.specs.Reading.{IsMisspelled}
use Rattle.ev_graph.specs.Cutting.{is_cut}
use Rattle.dx_state.specs.Configured.{Configuration, configuration_at}
use Rattle.dx_state.proofs.Facts.{state_back}
use Rattle.dx_kept.specs.Kept.{diagnosis_of}
use Rattle.dx_rules.specs.Rulebooks.{ruled_of, rules_in}
use Rattle.dx_restore.proofs.Readings.{reads_none, reads_unlawful, reads_fit, reads_state}
use Rattle.dx_restore.proofs.loading.read_state.Goals as goal

pub returns-in-Err-NoSpelling : goal.returns-in-Err-NoSpelling
returns-in-Err-NoSpelling c =
    let misspelled : IsMisspelled c.in-Err-NoSpelling.field-0 =
    rw c.in-Err-NoSpelling.field-0-is tt in
    reads_none (rules_in c.args.rules.now) c.args.bytes.now c.count-count.ensures.few
    (c.in-Err-NoSpelling.ensures.err misspelled)

pub returns-then-not-has_configuration : goal.returns-then-not-has_configuration
returns-then-not-has_configuration c =
    reads_unlawful (rules_in c.args.rules.now) c.args.bytes.now (diagnosis_of c.in-Ok.kept)
    c.count-count.ensures.few c.in-Ok.ensures.ok
    (λ p. false≢true (sym (sym c.has_configuration.ensures ∙ c.if-not-has_configuration.true)
    ∙ p.there))

pub is_state-requires : goal.is_state-requires
is_state-requires c =
    reads_fit (rules_in c.args.rules.now) c.args.bytes.now (diagnosis_of c.in-Ok.kept) c.requires
    c.count-count.ensures.all c.in-Ok.ensures.ok

pub returns-then-lawful : goal.returns-then-lawful
returns-then-lawful c =
    let b = c.args.rules.now in
    let s = diagnosis_of c.in-Ok.kept in
    let x = configuration_at (rules_in b) s.conf in
    let same : x ≡ ruled_of c.ruled-ruled.result.now = sym c.ruled-ruled.ensures in
    reads_state (rules_in b) c.args.bytes.now s c.requires c.count-count.ensures.few
    c.count-count.ensures.all c.in-Ok.ensures.ok
    (sym c.has_configuration.ensures ∙ c.if-not-has_configuration.false)
    (sym (c.in_ok-lawful.ensures x (ap (λ (y : Configuration). y.graph) same)
    (λ i e. ap (λ (y : Configuration). is_cut y.guarding.guarded i e) same)) ∙ c.if-lawful.true)

pub returns-else-lawful : goal.returns-else-lawful
returns-else-lawful c =
    let b = c.args.rules.now in
    let s = diagnosis_of c.in-Ok.kept in
    let x = configuration_at (rules_in b) s.conf in
    let same : x ≡ ruled_of c.ruled-ruled.result.now = sym c.ruled-ruled.ensures in
    reads_unlawful (rules_in b) c.args.bytes.now s c.count-count.ensures.few c.in-Ok.ensures.ok
    (λ p. false≢true (sym (sym (c.in_ok-lawful.ensures x
    (ap (λ (y : Configuration). y.graph) same)
    (λ i e. ap (λ (y : Configuration). is_cut y.guarding.guarded i e) same)) ∙ c.if-lawful.false)
    ∙ state_back b.own x s p.state))
