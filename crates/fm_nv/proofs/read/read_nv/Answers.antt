-- The spelling that was read is the front of the bytes.
use Rattle.std.proofs.Common.{◌≡◌, ℕ, List, Option, Some, None, sym, ap, ◌∙◌, arith}
use Rattle.fm_nv.specs.Data.{Pairs}
use Rattle.fm_bytes.specs.Numbers.{AllBytes}
use Rattle.fm_nv.specs.Reading.{list_from}
use Rattle.fm_bytes.specs.Reading.{IsMisspelled}
use Rattle.fm_nv.proofs.ListReader.{read_ends, read_spelled, spelled_read}
use Rattle.fm_nv.proofs.read.read_nv.Goals as goal

pub overflow_sub-result : goal.overflow_sub-result
overflow_sub-result c =
    let all : AllBytes c.args.bytes.now = λ i. omega (arith, c.type_inv.bytes i) in
    (read_ends c.args.bytes.now _ _ c.left.result all (ap (list_from 8) (sym c.new-input.ensures)
    ∙ c.in-Ok.ensures.ok) c.left.ensures.left).0

pub returns-in-Ok-clause-found : goal.returns-in-Ok-clause-found
returns-in-Ok-clause-found c =
    let all : AllBytes c.args.bytes.now = λ i. omega (arith, c.type_inv.bytes i) in
    let read = ap (list_from 8) (sym c.new-input.ensures) ∙ c.in-Ok.ensures.ok in
    let ends = read_ends c.args.bytes.now _ _ c.left.result all read c.left.ensures.left in
    ((read_spelled c.args.bytes.now _ all read).0, omega arith, ends.1)

pub returns-in-Ok-clause-reads : goal.returns-in-Ok-clause-reads
returns-in-Ok-clause-reads c =
    let all : AllBytes c.args.bytes.now = λ i. omega (arith, c.type_inv.bytes i) in
    let read = ap (list_from 8) (sym c.new-input.ensures) ∙ c.in-Ok.ensures.ok in
    let ends = read_ends c.args.bytes.now _ _ c.left.result all read c.left.ensures.left in
    ap (λ (xs : List ℕ). Some (c.in-Ok.list, xs)) ends.2 ∙ sym read

no_value : (x : Option (Pairs × List ℕ)) (t : Pairs × List ℕ) → x ≡ None → x ≡ Some t → ⊥
no_value x t e f = cc

pub returns-in-Err-NoSpelling-clause-none : goal.returns-in-Err-NoSpelling-clause-none
returns-in-Err-NoSpelling-clause-none c =
    let misspelled : IsMisspelled c.in-Err-NoSpelling.field-0 =
    rw c.in-Err-NoSpelling.field-0-is tt in
    λ ps rest spelled e. no_value _ _ (ap (list_from 8) (sym c.new-input.ensures)
    ∙ c.in-Err-NoSpelling.ensures.err misspelled)
    (spelled_read c.args.bytes.now ps rest spelled e)
