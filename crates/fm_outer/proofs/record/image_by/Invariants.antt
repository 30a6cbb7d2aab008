use Rattle.std.proofs.Common.{◌≡◌, length, drop}
use Rattle.fm_outer.specs.Image.{image_run, image_of}
use Rattle.fm_outer.specs.Tape.{all_bytes, ops_of}
use Rattle.fm_outer.proofs.record.image_by.Given as goal

abbrev pub invariant-loop-call : goal.invariant-loop-call
invariant-loop-call l = record {
  whole : all_bytes (drop l.call-index l.calls) ≡ length l.rest;
  same : image_run l.how (ops_of (drop l.call-index l.calls) l.rest) l.seen.items l.image.items
      ≡ image_of l.how (ops_of l.calls l.bytes) l.base;
}
