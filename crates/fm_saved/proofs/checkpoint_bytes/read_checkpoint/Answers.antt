-- What was read is the checkpoint that the bytes spell.
use Rattle.std.proofs.Common.{sym, ap, ◌∙◌, arith}
use Rattle.fm_bytes.specs.Numbers.{AllBytes}
use Rattle.fm_bytes.specs.Reading.{IsMisspelled, whole}
use Rattle.fm_saved.specs.Checkpoints.{checkpoint_from}
use Rattle.fm_saved.proofs.CheckpointReader.{checkpoint_spelled, checkpoint_whole}
use Rattle.fm_saved.proofs.checkpoint_bytes.read_checkpoint.Goals as goal

pub returns-in-Ok-clause-found : goal.returns-in-Ok-clause-found
returns-in-Ok-clause-found c =
    let all : AllBytes c.args.bytes.now = λ i. omega (arith, c.type_inv.bytes i) in
    checkpoint_spelled _ _ all
    (ap (λ bytes. whole (checkpoint_from bytes)) (sym c.new-input.ensures) ∙ c.in-Ok.ensures.ok)

pub returns-in-Ok-clause-read : goal.returns-in-Ok-clause-read
returns-in-Ok-clause-read c =
    let read = ap (λ bytes. whole (checkpoint_from bytes)) (sym c.new-input.ensures)
    ∙ c.in-Ok.ensures.ok in
    λ checkpoint spelled same. sym read ∙ checkpoint_whole _ checkpoint spelled same

pub returns-in-Err-NoSpelling-clause-read : goal.returns-in-Err-NoSpelling-clause-read
returns-in-Err-NoSpelling-clause-read c =
    let misspelled : IsMisspelled c.in-Err-NoSpelling.field-0 =
    rw c.in-Err-NoSpelling.field-0-is tt in
    let none = ap (λ bytes. whole (checkpoint_from bytes)) (sym c.new-input.ensures)
    ∙ c.in-Err-NoSpelling.ensures.err misspelled in
    λ checkpoint spelled same. sym none ∙ checkpoint_whole _ checkpoint spelled same
