-- A diagnosis module may cross threads: what it is made of may.
use denote.Param.Send.{IsSend, sendable, view_send}
use denote.Param.SendFields.{declared_send}
use Rattle.std.proofs.Crossing.{crosses}
use Rattle.fm_bytes.proofs.items.Items.TheSendSync.{the_send as items_send}
use Rattle.fm_bytes.proofs.text.Text.TheSendSync.{the_send as text_send}
use Rattle.fm_name.proofs.paths.Fmri.TheSendSync.{the_send as path_send}
use Rattle.fm_topo.proofs.topo.Topo.TheSendSync.{the_send as topo_send}
use Rattle.ev_tree.proofs.tree.Operand.TheSendSync.{the_send as operand_send}
use Rattle.ev_tree.proofs.tree.Cond.TheLaws.TheKnot as knot
use Rattle.ev_tree.specs.contracts.tree.Cond as cond
use Rattle.ev_expr.proofs.settings.Bound.TheSendSync.{the_send as bound_send}
use Rattle.ev_graph.proofs.graph.Graph.TheSendSync.{the_send as graph_send}
use Rattle.ev_guards.specs.contracts.guards.Question as question
use Rattle.ev_guards.specs.contracts.guards.Guard as guard
use Rattle.ev_guards.specs.contracts.guards.GuardedNode as node
use Rattle.ev_guards.specs.contracts.guards.Guards as guards
use Rattle.dx_rules.proofs.classes.Classes.TheSendSync.{the_send as classes_send}
use Rattle.dx_rules.proofs.report_index.ReportIndex.TheSendSync.{the_send as index_send}
use Rattle.dx_rules.specs.contracts.ruled.Ruled as ruled
use Rattle.dx_rules.specs.contracts.rulebook.Configs as configs
use Rattle.dx_rules.specs.contracts.rulebook.Rulebook as rulebook
use Rattle.dx_engine.proofs.standing.StandingState.TheSendSync.{the_send as standing_send}
use Rattle.dx_engine.specs.contracts.diagnoser.Diagnoser as diagnoser
use Rattle.dx_engine.specs.contracts.diagnoser.Diagnoser.TheInside as inside

cond_send : IsSend (cond.the_field).row
cond_send = search (
  sendable,
  crosses,
  knot.crosses,
  knot.hole_send-Cond,
  operand_send,
  text_send,
  items_send,
) depth 30

question_send : IsSend question.the_row
question_send = search (sendable, crosses, cond_send, bound_send) depth 20

guard_send : IsSend guard.the_row
guard_send = search (sendable, crosses, question_send) depth 20

node_send : IsSend node.the_row
node_send = search (sendable, crosses, path_send, guard_send) depth 20

guards_send : IsSend guards.the_row
guards_send = search (sendable, crosses, topo_send, node_send) depth 20

-- a configuration by itself, as a member of a list; and as a field
ruled_send : IsSend ruled.the_row
ruled_send = search (
  sendable,
  crosses,
  graph_send,
  guards_send,
  classes_send,
  index_send,
) depth 20

ruled_field_send : IsSend (ruled.the_field).row
ruled_field_send = search (
  sendable,
  crosses,
  graph_send,
  guards_send,
  classes_send,
  index_send,
) depth 20

configs_field_send : IsSend (configs.the_field).row
configs_field_send = search (sendable, crosses, ruled_send, ruled_field_send) depth 20

rulebook_field_send : IsSend (rulebook.the_field).row
rulebook_field_send = search (sendable, crosses, configs_field_send) depth 20

rulebook_send : IsSend rulebook.the_row
rulebook_send = search (sendable, crosses, rulebook_field_send) depth 20

inside_send : IsSend inside.the_row
inside_send = declared_send inside.the_type (rulebook_send, (standing_send, tt))

pub diagnoser_send : IsSend diagnoser.the_row
diagnoser_send = view_send _ _ _ _ _ inside_send
