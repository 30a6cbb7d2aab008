-- What was read is what the front of the bytes spells.
use Rattle.std.proofs.Common.{Some, length, ◌-◌, sym, ap, ◌∙◌, subst, arith}
use Rattle.fm_bytes.specs.Numbers.{AllBytes}
use Rattle.fm_bytes.specs.Reading.{IsMisspelled}
use Rattle.ev_file.specs.FileReading.{file_from, IsNoFile}
use Rattle.ev_file.proofs.SpelledFiles.{file_left, file_found, file_only, file_missing}
use Rattle.ev_file.proofs.files.read_file.Goals as goal

pub overflow_sub-result : goal.overflow_sub-result
overflow_sub-result c =
    let all : AllBytes c.args.bytes.now = λ i. omega (arith, c.type_inv.bytes i) in
    let less = file_left _ _ _ all (ap file_from (sym c.new-input.ensures) ∙ c.in-Ok.ensures.ok) in
    omega (arith, less, c.left.ensures.left)

pub returns-in-Ok-clause-found : goal.returns-in-Ok-clause-found
returns-in-Ok-clause-found c =
    let all : AllBytes c.args.bytes.now = λ i. omega (arith, c.type_inv.bytes i) in
    file_found _ _ _ _ all (ap file_from (sym c.new-input.ensures) ∙ c.in-Ok.ensures.ok)
    c.in-Ok.ensures.graph (ap (λ n. length c.args.bytes.now - n) c.left.ensures.left)

pub returns-in-Ok-clause-read : goal.returns-in-Ok-clause-read
returns-in-Ok-clause-read c =
    λ made size spelled front.
    ap Some (file_only _ _ _ made size _
    (ap file_from (sym c.new-input.ensures) ∙ c.in-Ok.ensures.ok)
    (ap (λ n. length c.args.bytes.now - n) c.left.ensures.left) spelled front)

pub returns-in-Err-NoSpelling-clause-read : goal.returns-in-Err-NoSpelling-clause-read
returns-in-Err-NoSpelling-clause-read c =
    let misspelled : IsMisspelled c.in-Err-NoSpelling.field-0 =
    rw c.in-Err-NoSpelling.field-0-is tt in
    λ made size spelled front. absurd (file_missing c.args.bytes.now made size
    (subst (λ bytes. IsNoFile (file_from bytes)) c.new-input.ensures
    (c.in-Err-NoSpelling.ensures.err misspelled)) spelled front)
