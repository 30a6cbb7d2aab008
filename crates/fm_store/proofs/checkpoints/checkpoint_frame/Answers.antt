-- Whether the states are short says whether the checkpoint has a spelling.
use Rattle.std.proofs.Common.{refl, ◌∙◌, ap}
use Rattle.std.specs.List.{list_all}
use Rattle.fm_store.proofs.Saves.{is_short, too_long, spelled_checkpoint}
use Rattle.fm_store.proofs.checkpoints.checkpoint_frame.Goals as goal

pub returns-then-not-are_short-clause-err : goal.returns-then-not-are_short-clause-err
returns-then-not-are_short-clause-err c = (
  refl,
  too_long c.args.checkpoint.now c.are_short.result
      (c.are_short.ensures ∙ ap (list_all is_short) c.as_slice.ensures)
      c.if-not-are_short.true,
)

pub write_checkpoint-requires : goal.write_checkpoint-requires
write_checkpoint-requires c =
    spelled_checkpoint c.args.checkpoint.now c.are_short.result
    (c.are_short.ensures ∙ ap (list_all is_short) c.as_slice.ensures)
    c.if-not-are_short.false c.requires.base_fits c.requires.moment_fits c.requires.conf_fits
    c.requires.few

pub returns-in-Ok-clause-spelled : goal.returns-in-Ok-clause-spelled
returns-in-Ok-clause-spelled c =
    spelled_checkpoint c.args.checkpoint.now c.are_short.result
    (c.are_short.ensures ∙ ap (list_all is_short) c.as_slice.ensures)
    c.if-not-are_short.false c.requires.base_fits c.requires.moment_fits c.requires.conf_fits
    c.requires.few
