-- What was read is the configuration that the bytes spell.
use Rattle.std.proofs.Common.{sym, ap, ◌∙◌, arith}
use Rattle.fm_bytes.specs.Numbers.{AllBytes}
use Rattle.fm_bytes.specs.Reading.{IsMisspelled, whole}
use Rattle.fm_saved.specs.Confs.{conf_from}
use Rattle.fm_saved.proofs.ConfReader.{conf_spelled, conf_whole}
use Rattle.fm_saved.proofs.conf_bytes.read_conf.Goals as goal

pub returns-in-Ok-clause-found : goal.returns-in-Ok-clause-found
returns-in-Ok-clause-found c =
    let all : AllBytes c.args.bytes.now = λ i. omega (arith, c.type_inv.bytes i) in
    conf_spelled _ _ all (ap (λ bytes. whole (conf_from bytes)) (sym c.new-input.ensures)
    ∙ c.in-Ok.ensures.ok)

pub returns-in-Ok-clause-read : goal.returns-in-Ok-clause-read
returns-in-Ok-clause-read c =
    let read = ap (λ bytes. whole (conf_from bytes)) (sym c.new-input.ensures)
    ∙ c.in-Ok.ensures.ok in
    λ conf spelled same. sym read ∙ conf_whole _ conf spelled same

pub returns-in-Err-NoSpelling-clause-read : goal.returns-in-Err-NoSpelling-clause-read
returns-in-Err-NoSpelling-clause-read c =
    let misspelled : IsMisspelled c.in-Err-NoSpelling.field-0 =
    rw c.in-Err-NoSpelling.field-0-is tt in
    let none = ap (λ bytes. whole (conf_from bytes)) (sym c.new-input.ensures)
    ∙ c.in-Err-NoSpelling.ensures.err misspelled in
    λ conf spelled same. sym none ∙ conf_whole _ conf spelled same
