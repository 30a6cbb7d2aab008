-- The eight first bytes, and the body behind them.
use Rattle.std.proofs.Common.{ℕ, List, ◌++◌, ap, ◌∙◌}
use Rattle.fm_bytes.specs.Numbers.{u64_bytes}
use Rattle.ev_file.specs.Files.{body_bytes}
use Rattle.ev_file.proofs.FileReader.{magic_bytes}
use Rattle.ev_file.proofs.files.write_file.Goals as goal

pub returns-clause-ok : goal.returns-clause-ok
returns-clause-ok c =
    c.in_ok-extend_from_slice.ensures.items
    ∙ ap (λ (xs : List ℕ). c.args.out.now.items ++ xs)
    (c.deref.ensures.value ∙ c.in_ok-put_body.ensures.ok
    ∙ ap (λ (xs : List ℕ). xs ++ body_bytes c.args.made.now)
    (c.in_ok-put_u64.ensures.ok
    ∙ ap (λ (xs : List ℕ). xs ++ u64_bytes 5065776921867137073) c.new-spelling.ensures.items
    ∙ magic_bytes))
