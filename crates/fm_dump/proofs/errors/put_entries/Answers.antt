use Rattle.std.proofs.Common.{◌≡◌, ◌≤◌, ◌<◌, ◌+◌, ◌++◌, ◌∙◌, ap, length, arith}
use Rattle.fm_dump.specs.Errors.{kept_entry}
use Rattle.fm_dump.proofs.Entries.{all_written, extends_more, extends_still, grown}
use Rattle.fm_dump.proofs.errors.put_entries.Goals as goal

pub entries-preserved : goal.entries-preserved
entries-preserved c =
    let inside : c.entries.at < length c.args.entries.now = omega arith in
    let kept = kept_entry c.args.options.now (c.args.first + c.entries.at)
    c.index-entries-at.result in
    let more : c.extend_from_slice.new.self.items ≡ c.entries.out.items ++ kept =
    c.in_ok-extend_from_slice.ensures.items
    ∙ ap (λ text. c.entries.out.items ++ text) (c.deref.ensures.value
    ∙ (c.in_ok-put_kept.ensures ∙ ap (λ text. text ++ kept) c.clear.ensures.items)) in
    record {
      whole = grown c.args.options.now c.args.first c.entries.at c.args.entries.now
          c.index-entries-at.result c.entries.out.items c.extend_from_slice.new.self.items _ inside
          c.index-entries-at.is more c.entries.invariant.whole;
      behind = extends_more _ c.entries.out.items _ c.extend_from_slice.new.self.items
          c.entries.invariant.behind more;
    }

pub returns-in_err-extend_from_slice-clause-err : goal.returns-in_err-extend_from_slice-clause-err
returns-in_err-extend_from_slice-clause-err c =
    extends_still c.from_residual-in_err-extend_from_slice.result _ c.entries.out.items _
    c.entries.invariant.behind c.in_err-extend_from_slice.ensures.items

pub returns-clause-ok : goal.returns-clause-ok
returns-clause-ok c =
    let past : length c.args.entries.now ≤ c.entries.at = omega arith in
    all_written c.args.options.now c.args.first c.entries.at c.args.entries.now
    c.entries.out.items _ past c.entries.invariant.whole
