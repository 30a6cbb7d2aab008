-- Bytes that are a header have its first number in them.
use Rattle.std.proofs.Common.{sym, ◌∙◌, ap, arith}
use Rattle.std.specs.Cmp.Lexicographic.{other_text}
use Rattle.fm_journal.specs.Format.{header}
use Rattle.fm_journal.proofs.Records.{header_number}
use Rattle.fm_journal.proofs.header.first_of.Goals as goal

pub returns-then-first-ge-END_OF_NUMBERS-clause-none :
    goal.returns-then-first-ge-END_OF_NUMBERS-clause-none
returns-then-first-ge-END_OF_NUMBERS-clause-none c =
    λ none first fits is. absurd (omega (
      arith,
      header_number c.args.bytes.now first c.read_u64-first.result fits is c.read_u64-first.ensures,
    ))

pub returns-else-eq-clause-none : goal.returns-else-eq-clause-none
returns-else-eq-clause-none c =
    λ none first fits is. other_text c.args.bytes.now c.as_slice.result.now c.if-eq.ensures
    (is ∙ ap header (sym (header_number c.args.bytes.now first c.read_u64-first.result fits is
    c.read_u64-first.ensures)) ∙ sym c.header_of.ensures ∙ sym c.as_slice.ensures)
