use Rattle.std.proofs.Common.{◌≡◌, ◌∙◌, map, ap}
use Rattle.std.proofs.lemmas.Result.{IfErr-weaker, IfOk-weaker}
use Rattle.clap.specs.Matches.{found_of}
use Rattle.clap.specs.Walk.{rows_of}
use Rattle.fm_dump.specs.Options.{dump_options, options_in}
use Rattle.fm_dump.proofs.Values.{options_are}
use Rattle.fm_dump.proofs.options.read_options.Goals as goal

pub returns-clause-ok : goal.returns-clause-ok
returns-clause-ok c =
    let same : map (λ w. w.now) c.deref.result.now ≡ c.args.words.now =
    ap (map (λ w. w.now)) c.deref.ensures.value ∙ c.in_ok-texts.ensures in
    let are : dump_options c.args.words.now
    ≡ options_in (rows_of (found_of c.in_ok-matches.matches)) = rw (← same)
    (options_are (map (λ w. w.now) c.deref.result.now) _ c.in_ok-matches.ensures.taken
    c.in_ok-matches.ensures.found) in
    IfOk-weaker c.options_in.result _ _ (λ o h. are ∙ h) c.options_in.ensures.ok

pub returns-clause-usage : goal.returns-clause-usage
returns-clause-usage c =
    let same : map (λ w. w.now) c.deref.result.now ≡ c.args.words.now =
    ap (map (λ w. w.now)) c.deref.ensures.value ∙ c.in_ok-texts.ensures in
    let are : dump_options c.args.words.now
    ≡ options_in (rows_of (found_of c.in_ok-matches.matches)) = rw (← same)
    (options_are (map (λ w. w.now) c.deref.result.now) _ c.in_ok-matches.ensures.taken
    c.in_ok-matches.ensures.found) in
    IfErr-weaker c.options_in.result _ _ (λ f h. λ u. are ∙ h u) c.options_in.ensures.usage
