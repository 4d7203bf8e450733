-- WHAT A CLUSTER IS WORTH (this project's rule): how many events it may still do without another step of a thread. Each thing is worth the events that it
-- can still cause: a message its delivery and its answer's, a copy its eviction, an object the delivery of its `drop`, a mutex value that of its `release`.
use Rattle.std.specs.Prelude.{ℕ, ◌+◌, ◌*◌, true, false, if◌then◌else◌, length, Option, Some, None}
use Rattle.law_runs_coherent.specs.Below.fr_base.Lists.{tot}
use Rattle.law_runs_coherent.specs.Below.heap_partition.declared.value.Owned.{Owned}
use Rattle.law_runs_coherent.specs.Below.owner_box.Partition.{live_count}
use Rattle.law_runs_coherent.specs.Below.mutex_home.Mutexes.{Mutex}
use Rattle.law_runs_coherent.specs.Below.join_home.Tasks.{Task, TaskState, going, let_go, kept, asked, in_pair}
use Rattle.law_runs_coherent.specs.Below.thread_state.View.{ThreadState}
use Rattle.law_runs_coherent.specs.Below.server_msgs.declared.message.Message.{Message}
use Rattle.law_runs_coherent.specs.Below.server_msgs.declared.message.Message.TheVariants as message
use Rattle.law_runs_coherent.specs.Below.server_model.Servers.{Rest, Server, Cluster}
use Rattle.law_runs_coherent.specs.Below.server_model.Laws.{sum_at}

-- a thread that hasn't moved since its last plain step may move once: it leaves, and its parcel comes
abbrev pub thread_worth : ThreadState → ℕ
thread_worth t = if t.moved_since_step then 0 else 2

-- a request is worth its delivery and its answer's, and what comes then: the eviction of a copy, the content's way back, a share. An object under way stays
-- an object. What a thread's end, a `drop`, a `release` or an unlock takes is what it ends
abbrev pub message_worth : Message → ℕ
message_worth (message.Fetch w o s t) = 3
message_worth (message.Fetched w c t) = 2
message_worth (message.Move w o s t) = 2
message_worth (message.Moved w c t) = 2
message_worth (message.Drop w o) = 0
message_worth (message.Lock m s t) = 3
message_worth (message.Granted m v t) = 1
message_worth (message.Unlock m v) = 0
message_worth (message.Dup m s t) = 3
message_worth (message.Dupped m t) = 1
message_worth (message.Release r) = 0
message_worth (message.Start t) = 1 + thread_worth t
message_worth (message.Join u s t) = 2
message_worth (message.Joined u v t) = 1
message_worth (message.Finished u v) = 0
message_worth (message.Migrate t) = 1 + thread_worth t

-- the content is out: it comes back
abbrev pub out_worth : Option Owned → ℕ
out_worth None = 1
out_worth (Some v) = 0

-- each share is let go, and who waits is granted the content, which comes back
abbrev pub mutex_worth : Mutex → ℕ
mutex_worth m = m.shares + out_worth m.content + 2 * length m.queue

-- the end of the thread, and its task's
abbrev pub state_worth : TaskState → ℕ
state_worth going = 2
state_worth let_go = 1
state_worth (kept v) = 1
state_worth (asked s t) = 2
state_worth (in_pair p true) = 0
state_worth (in_pair p false) = 1

abbrev pub task_worth : Task → ℕ
task_worth x = state_worth x.state

-- all of a server but its threads
abbrev pub rest_worth : Rest → ℕ
rest_worth r = live_count r.partition.cells + length r.cache + tot mutex_worth r.mutexes.there + tot task_worth r.tasks + sum_at (λ n m. message_worth m) r

abbrev pub server_worth : Server → ℕ
server_worth s = rest_worth s.rest + tot thread_worth s.threads

-- what a cluster is worth
abbrev pub credit : Cluster → ℕ
credit k = tot server_worth k.servers

-- how many threads its servers have started
abbrev pub begun : Cluster → ℕ
begun k = tot (λ (s : Server). s.rest.started) k.servers
