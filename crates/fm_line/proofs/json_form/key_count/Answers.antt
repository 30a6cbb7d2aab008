use Rattle.std.proofs.Common.{◌∙◌, sym}
use Rattle.serde_json.specs.View.{view, members_view}
use Rattle.serde_json.proofs.Views.{members_len-members_view}
use Rattle.fm_line.proofs.Keys.{key_count_object, key_count_other}
use Rattle.fm_line.proofs.json_form.key_count.Goals as goal

pub returns-in-Some : goal.returns-in-Some
returns-in-Some c =
    c.len.ensures.len
    ∙ sym (members_len-members_view c.in-Some.members.now.entries)
    ∙ key_count_object (view c.args.json.now) (members_view c.in-Some.members.now.entries)
    c.in-Some.ensures

pub returns-in-None : goal.returns-in-None
returns-in-None c = key_count_other (view c.args.json.now) c.in-None.ensures
