-- Servers may go to other threads, with all that they hold.
use denote.RattleType.{RattleType}
use denote.Param.Send.{IsSend, sendable}
use Rattle.std.proofs.Crossing.{crosses}
use Rattle.controller.proofs.events.Choice.TheSendSync as choice
use Rattle.fr_base.proofs.instructions.Code.TheSendSync as code
use Rattle.fr_base.proofs.label.Label.TheSendSync as label
use Rattle.fr_base.proofs.list.List.TheSendSync as list
use Rattle.global_addr.proofs.word.Word.TheSendSync as word
use Rattle.indexmap.proofs.map.IndexMap.TheSendSync as index
use Rattle.join_home.proofs.tasks.Tasks.TheSendSync as tasks
use Rattle.journal.proofs.act.Act.TheSendSync as act
use Rattle.journal.proofs.entries.Journal.TheSendSync as journal
use Rattle.mutex_home.proofs.mutexes.Mutexes.TheSendSync as mutexes
use Rattle.owner_box.proofs.partition.Partition.TheSendSync as partition
use Rattle.rank_map.proofs.block.Block.TheSendSync as block
use Rattle.rank_map.proofs.tree.Tree.TheLaws.TheKnot.{send-Tree}
use Rattle.read_cache.proofs.slot.Slot.TheSendSync as slot
use Rattle.server_index.specs.contracts.marks.MarkSet as marks
use Rattle.server_index.specs.contracts.queue.FrontQueue as queue
use Rattle.server_index.specs.contracts.table.Table as table
use Rattle.server_msgs.proofs.message.Message.TheSendSync as message
use Rattle.server_parts.proofs.idle.Idle.TheSendSync as idle
use Rattle.server_parts.proofs.kind.Kind.TheSendSync as kind
use Rattle.thread_state.proofs.boxed.BoxedThread.TheSendSync as boxed
use Rattle.thread_state.proofs.value.Value.TheSendSync as value
use Rattle.rank_map.specs.contracts.map.RankMap as map
use Rattle.read_cache.specs.contracts.cache.Cache as cache
use Rattle.server_core.specs.contracts.server.Server as server
use Rattle.server_parts.specs.contracts.spares.Spares as spares
use Rattle.server_parts.specs.contracts.threads.Threads as threads
use Rattle.server_parts.specs.contracts.work.Work as work
use Rattle.drust_run.specs.contracts.desk.Desk as desk

-- each part whole, since a `search` that goes down through all of them runs out of steps
map_send : (T : RattleType) → IsSend T → IsSend (map.the_field T).row
map_send T s = search (crosses, sendable, send-Tree, block.the_send) depth 30

queue_send : (T : RattleType) → IsSend T → IsSend (queue.the_field T).row
queue_send T s = search (crosses, sendable) depth 30

cache_send : IsSend (cache.the_field).row
cache_send = search (crosses, sendable, map_send, slot.the_send, word.the_send, index.the_send) depth 30

work_send : IsSend (work.the_field).row
work_send = search (crosses, sendable, partition.the_send, mutexes.the_send, tasks.the_send, message.the_send, act.the_send, label.the_send, list.the_send, idle.the_send, cache_send, queue_send) depth 30

table_send : (T : RattleType) → IsSend T → IsSend (table.the_field T).row
table_send T s = search (crosses, sendable) depth 30

marks_send : IsSend (marks.the_field).row
marks_send = search (crosses, sendable) depth 30

threads_send : IsSend (threads.the_field).row
threads_send = search (crosses, sendable, boxed.the_send, kind.the_send, table_send, marks_send) depth 30

spares_send : IsSend (spares.the_field).row
spares_send = search (crosses, sendable, boxed.the_send, value.the_field_send) depth 30

server_send : IsSend (server.the_field).row
server_send = search (crosses, sendable, code.the_send, code.the_sync, work_send, threads_send, spares_send) depth 30

-- a server at its desk, with its generator and its journal
pub desk_send : IsSend desk.the_row
desk_send = search (crosses, sendable, choice.the_send, journal.the_send, server_send) depth 30
