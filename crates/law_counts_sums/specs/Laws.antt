-- Laws of events: from a cluster that has the sums, an event of a kind leaves them.
use Rattle.std.specs.Prelude.{◌≡◌, ◌≤◌, ◌<◌, ◌+◌, ◌^◌, ◌==◌, ⊤, ℕ, true, List, length, take, drop, Option, Some, None, IsSome, slice_get}
use Rattle.std.specs.List.{AllByRecursion}
use Rattle.coherent_memory.specs.Below.fr_base.declared.name.MutexNo.{MutexNo}
use Rattle.coherent_memory.specs.Below.fr_base.declared.name.ObjNo.{ObjNo}
use Rattle.coherent_memory.specs.Below.fr_base.declared.instruction.Instr.{Instr}
use Rattle.coherent_memory.specs.Below.fr_base.declared.instruction.Instr.TheVariants.{ParEnd}
use Rattle.coherent_memory.specs.Below.fr_base.declared.instruction.Instr.TheVariants as instr
use Rattle.coherent_memory.specs.Below.fr_base.declared.instruction.Operand.{Operand}
use Rattle.coherent_memory.specs.Below.fr_base.declared.release.Released.TheVariants.{Mutex, Task}
use Rattle.coherent_memory.specs.Below.fr_base.declared.settings.Options.{Options}
use Rattle.coherent_memory.specs.Below.global_addr.Words.{server_of}
use Rattle.coherent_memory.specs.Below.heap_partition.declared.value.Cell.{Cell}
use Rattle.coherent_memory.specs.Below.heap_partition.declared.value.Owned.{Owned}
use Rattle.coherent_memory.specs.Below.journal.View.{EntryView}
use Rattle.coherent_memory.specs.Below.thread_state.View.{ThreadState}
use Rattle.coherent_memory.specs.Below.server_msgs.declared.message.Message.TheVariants.{Fetch, Fetched, Move, Moved, Drop, Lock, Granted, Unlock, Dup, Dupped, Release, Start, Join, Joined, Finished, Migrate}
use Rattle.coherent_memory.specs.Below.server_model.declared.event.Event.{Event}
use Rattle.coherent_memory.specs.Below.server_model.declared.event.What.{What}
use Rattle.coherent_memory.specs.Below.server_model.declared.event.What.TheVariants.{Deliver, Evict}
use Rattle.coherent_memory.specs.Below.server_model.declared.event.What.TheVariants as what
use Rattle.coherent_memory.specs.Below.server_model.Servers.{Sent, Server, Cluster, server_at, start_of}
use Rattle.coherent_memory.specs.Below.server_model.Work.{thread_in}
use Rattle.coherent_memory.specs.Below.server_model.Start.{next_thread}
use Rattle.coherent_memory.specs.Below.server_model.Events.{enabled}
use Rattle.coherent_memory.specs.Below.server_model.Clusters.{with_server, with_outbox, hand_over_newer, done_at, act_at, apply}
use Rattle.coherent_memory.specs.Names.{tot, some, one}
use Rattle.coherent_memory.specs.Things.{Thing, servers_things, things_of}
use Rattle.coherent_memory.specs.Sight.{sight, issued}
use Rattle.coherent_memory.specs.Paths.{joined_thread}
use Rattle.coherent_memory.specs.Naming.{events_of, started_at, made_at}
use Rattle.coherent_memory.specs.Requests.{stands_at, halves_to, halves_needed, pair_notes, pair_places}
use Rattle.coherent_memory.specs.Sharing.{going_notes, goes_on, owed, results, has_ended}
use Rattle.coherent_memory.specs.Balances.{Agree, AtMost, AtMostOne}
use Rattle.coherent_memory.specs.Weights.{states, below, shares_of, shares_at_home, tasks_of, is_thread}
use Rattle.coherent_memory.specs.Coherent.{IsSound, Holds, objects_made, names_counted, branches_give_unit, parts_are_typed, noted_at_home}
use Rattle.law_counts_sums.specs.Kinds.{Kind, released, step_spawn, step_join, kind_of}
use Rattle.law_counts_sums.specs.Sums.{Sums, is_server}

-- where there is a result, it is so
abbrev pub Gives : {X : Type 0} → (X → Type 0) → Option X → Type 0
Gives P None = ⊤
Gives P (Some x) = P x

-- an event of that kind, done at its server from a cluster that has the sums, leaves the part; its messages stay in its outbox
abbrev pub Leaves : Kind → (Cluster → Type 0) → Type 0
Leaves kind Part = (k : Cluster) (e : Event) → kind_of k e ≡ Some kind → Sums (things_of k) → Gives (λ d. Part d.0) (act_at k e)

-- the same where each object's number is below what the thread that made it has made, as in every sound cluster
abbrev pub LeavesWithNames : Kind → (Cluster → Type 0) → Type 0
LeavesWithNames kind Part = (k : Cluster) (e : Event) → kind_of k e ≡ Some kind → Sums (things_of k) → Holds k objects_made → Gives (λ d. Part d.0) (act_at k e)

-- each server can start two threads more before its count of them reaches 2 ^ 32
abbrev pub NamesLeft : Cluster → Type 0
NamesLeft k = (n : ℕ) (s : Server) → server_at k.servers n ≡ Some s → s.rest.started + 2 < 2 ^ 32

-- the same where the count of each thread that is named is at most what its home has started, as in every sound cluster, and there are names left
abbrev pub LeavesWithThreads : Kind → (Cluster → Type 0) → Type 0
LeavesWithThreads kind Part =
    (k : Cluster) (e : Event) → kind_of k e ≡ Some kind → Sums (things_of k) → Holds k names_counted → NamesLeft k → Gives (λ d. Part d.0) (act_at k e)

-- the same where the result of a thread of a pair is unit, and where what a server notes of threads stands by rising number, as in every sound cluster
abbrev pub LeavesWithResults : Kind → (Cluster → Type 0) → Type 0
LeavesWithResults kind Part =
    (k : Cluster) (e : Event) → kind_of k e ≡ Some kind → Sums (things_of k) → Holds k branches_give_unit → Holds k parts_are_typed → Gives (λ d. Part d.0) (act_at k e)

-- ALL KINDS IN ONE

-- so few events were done that no server's count of threads comes near 2 ^ 32
abbrev pub FewEvents : Cluster → Type 0
FewEvents k = events_of (sight k) + 1 < 2 ^ 31

-- an event of whatever kind, done at its server from a sound cluster, leaves the part; its messages stay in its outbox
abbrev pub EachEventLeaves : (Cluster → Type 0) → Type 0
EachEventLeaves Part = (k : Cluster) (e : Event) → IsSound k → FewEvents k → Gives (λ d. Part d.0) (act_at k e)

-- HOW MANY TASK VALUES THERE ARE

-- the task values and `release` messages of a thread, in the places that own
abbrev pub task_values_in : Cluster → ℕ → ℕ
task_values_in k t = tot (tasks_of t) (things_of k)

-- the kinds of events that make none and spend none
abbrev pub LeavesTaskValues : Kind → Type 0
LeavesTaskValues step_spawn = ⊥
LeavesTaskValues step_join = ⊥
LeavesTaskValues released = ⊥
LeavesTaskValues kind = ⊤

-- an event of such a kind, done at its server from a sound cluster, leaves as many of each thread as there were
abbrev pub OthersLeaveTaskValues : Type 0
OthersLeaveTaskValues =
    (k : Cluster) (e : Event) (kind : Kind) → kind_of k e ≡ Some kind → LeavesTaskValues kind → IsSound k → FewEvents k
    → Gives (λ d. (t : ℕ) → task_values_in d.0 t ≡ task_values_in k t) (act_at k e)

-- a spawn makes one of its thread, and none of another
abbrev pub SpawnsMakeOne : Type 0
SpawnsMakeOne =
    (k : Cluster) (e : Event) (s : Server) → kind_of k e ≡ Some step_spawn → server_at k.servers e.server ≡ Some s → IsSound k → FewEvents k
    → Gives (λ d. (t : ℕ) → task_values_in d.0 t ≡ task_values_in k t + one (next_thread s.rest == t)) (act_at k e)

-- the delivery of a task's `release` spends one of it
abbrev pub ReleasesSpendOne : Type 0
ReleasesSpendOne =
    (k : Cluster) (n i : ℕ) (s : Server) (u : ℕ) → IsSound k → server_at k.servers n ≡ Some s → slice_get s.rest.inbox i ≡ Some (Release (Task u))
    → Gives (λ d. (t : ℕ) → task_values_in d.0 t + one (u == t) ≡ task_values_in k t) (act_at k (record { server = n; what = Deliver i }))

-- a join that is done spends one of its operand
abbrev pub JoinsSpendOne : Type 0
JoinsSpendOne =
    (k : Cluster) (n t : ℕ) (s : Server) (y : ThreadState) (o : Operand) (v : Owned) (u : ℕ) → IsSound k → server_at k.servers n ≡ Some s → thread_in s.threads t ≡ Some y → slice_get k.code y.pc ≡ Some (instr.Join o) → y.gift ≡ Some v
    → joined_thread (Some (instr.Join o)) y ≡ Some u → Gives (λ d. (w : ℕ) → task_values_in d.0 w + one (u == w) ≡ task_values_in k w) (act_at k (record { server = n; what = what.Step t }))

-- the delivery of a `release` of a mutex, and a join that asks, leave as many as there were
abbrev pub SharesLeaveTaskValues : Type 0
SharesLeaveTaskValues =
    (k : Cluster) (n i : ℕ) (s : Server) (m : MutexNo) → IsSound k → server_at k.servers n ≡ Some s → slice_get s.rest.inbox i ≡ Some (Release (Mutex m))
    → Gives (λ d. (t : ℕ) → task_values_in d.0 t ≡ task_values_in k t) (act_at k (record { server = n; what = Deliver i }))

abbrev pub AskingLeavesTaskValues : Type 0
AskingLeavesTaskValues =
    (k : Cluster) (n t : ℕ) (s : Server) (y : ThreadState) (o : Operand) → IsSound k → server_at k.servers n ≡ Some s → thread_in s.threads t ≡ Some y → slice_get k.code y.pc ≡ Some (instr.Join o) → y.gift ≡ None
    → Gives (λ d. (u : ℕ) → task_values_in d.0 u ≡ task_values_in k u) (act_at k (record { server = n; what = what.Step t }))

-- THE PARTS

abbrev pub OneState : Cluster → Type 0
OneState k = AtMost states below (things_of k)

abbrev pub SharesCounted : Cluster → Type 0
SharesCounted k = Agree shares_of shares_at_home (things_of k)

abbrev pub OneTaskValue : Cluster → Type 0
OneTaskValue k = AtMostOne tasks_of (things_of k)

-- as many task values of each thread as are owed of its result
abbrev pub TaskValuesOwed : Cluster → Type 0
TaskValuesOwed k = Agree tasks_of (owed (sight k)) (things_of k)

abbrev pub NumbersDiffer : Cluster → Type 0
NumbersDiffer k = AtMostOne is_thread (things_of k)

abbrev pub ServersDiffer : Cluster → Type 0
ServersDiffer k = AtMostOne is_server (things_of k)

-- as many halves of answers to each thread as it needs: two where it waits
abbrev pub OneAnswer : Cluster → Type 0
OneAnswer k = Agree halves_to halves_needed (things_of k)

-- as many notes of each half of a pair as the parent there waits for
abbrev pub PairsNoted : Cluster → Type 0
PairsNoted k = Agree pair_notes pair_places (things_of k)

-- as many notes of each thread as one that goes on as it goes on or its `finished` waits
abbrev pub NotedGoOn : Cluster → Type 0
NotedGoOn k = Agree going_notes goes_on (things_of k)

-- what is noted of a thread stands at its home alone
abbrev pub NotedAtHome : Cluster → Type 0
NotedAtHome k = Holds k noted_at_home

-- each result stands in at most one place, and only of a thread that is over and isn't main
abbrev pub OneResult : Cluster → Type 0
OneResult k = AtMost (results (sight k)) has_ended (things_of k)

-- a sound cluster has the sums, so each law's premise holds in every coherent one
abbrev pub SoundHasSums : Type 0
SoundHasSums = (k : Cluster) → IsSound k → Sums (things_of k)

-- the start of any code has them
abbrev pub StartHasSums : Type 0
StartHasSums = (code : List Instr) (o : Options) → 1 ≤ o.servers → Sums (things_of (start_of code o))

-- and it has that part
abbrev pub StartHas : (Cluster → Type 0) → Type 0
StartHas Part = (code : List Instr) (o : Options) → 1 ≤ o.servers → Part (start_of code o)

-- HANDING OVER

-- those messages go to servers that are there
abbrev pub GoTo : List Server → List Sent → Type 0
GoTo ss xs = AllByRecursion (λ (x : Sent). IsSome (server_at ss x.target)) xs

-- handing over the messages that an event appended to its server's outbox changes no sum, where they go to servers of the run
abbrev pub HandOverNewerLaw : Type 0
HandOverNewerLaw =
    (f : Thing → ℕ) (n older : ℕ) (s new : Server) (ss : List Server) → server_at ss n ≡ Some s
    → GoTo (with_server ss n (with_outbox (take older new.rest.outbox) new)) (drop older new.rest.outbox)
    → tot f (servers_things (hand_over_newer n older new ss)) ≡ tot f (servers_things (with_server ss n new))

-- THE EVENT AND ITS MESSAGES HANDED OVER

-- what an event puts into its server's outbox goes to servers that are there
abbrev pub SendsToServers : Cluster → Event → Type 0
SendsToServers k e =
    (s : Server) → server_at k.servers e.server ≡ Some s
    → Gives (λ (r : Server × EntryView). GoTo (with_server k.servers e.server r.0) (drop (length s.rest.outbox) r.0.rest.outbox)) (done_at k e.what s)

-- each event of a sound cluster does
abbrev pub EachEventSends : Type 0
EachEventSends = (k : Cluster) (e : Event) → IsSound k → FewEvents k → SendsToServers k e

-- an event of whatever kind from a sound cluster, and its messages handed over, leave the part
abbrev pub EachEventHandedOver : (Cluster → Type 0) → Type 0
EachEventHandedOver Part = (k : Cluster) (e : Event) → IsSound k → FewEvents k → Gives (λ d. Part d.0) (apply k e)

-- RESULTS

-- that event of that server has a result, its messages handed over
abbrev pub HasResult : Cluster → ℕ → What → Type 0
HasResult k n w = IsSome (apply k (record { server = n; what = w }))

-- an eviction that is enabled, in whatever cluster
abbrev pub EvictionsHaveResults : Type 0
EvictionsHaveResults = (k : Cluster) (n w : ℕ) (s : Server) → server_at k.servers n ≡ Some s → enabled k.options s (Evict w) ≡ true → HasResult k n (Evict w)

-- the delivery of a new thread, in a sound cluster
abbrev pub StartsHaveResults : Type 0
StartsHaveResults =
    (k : Cluster) (n i : ℕ) (s : Server) (t : ThreadState) → IsSound k → server_at k.servers n ≡ Some s → enabled k.options s (Deliver i) ≡ true → slice_get s.rest.inbox i ≡ Some (Start t) → HasResult k n (Deliver i)

-- that of a thread that moved
abbrev pub ParcelsHaveResults : Type 0
ParcelsHaveResults =
    (k : Cluster) (n i : ℕ) (s : Server) (t : ThreadState) → IsSound k → server_at k.servers n ≡ Some s → enabled k.options s (Deliver i) ≡ true → slice_get s.rest.inbox i ≡ Some (Migrate t) → HasResult k n (Deliver i)

-- a migration that is enabled, in a sound cluster
abbrev pub MigrationsHaveResults : Type 0
MigrationsHaveResults = (k : Cluster) (n t target : ℕ) (s : Server) → IsSound k → server_at k.servers n ≡ Some s → enabled k.options s (what.Migrate t target) ≡ true → HasResult k n (what.Migrate t target)

-- the delivery of a `lock`, of a content that comes back, and of a value of a mutex that was dropped, in a sound cluster
pub record MutexesHaveResults : Type 0 where
  pub locks : (k : Cluster) (n i : ℕ) (s : Server) (m : MutexNo) (a t : ℕ) → IsSound k → server_at k.servers n ≡ Some s → enabled k.options s (Deliver i) ≡ true → slice_get s.rest.inbox i ≡ Some (Lock m a t)
      → HasResult k n (Deliver i)
  pub unlocks : (k : Cluster) (n i : ℕ) (s : Server) (m : MutexNo) (v : Owned) → IsSound k → server_at k.servers n ≡ Some s → enabled k.options s (Deliver i) ≡ true → slice_get s.rest.inbox i ≡ Some (Unlock m v)
      → HasResult k n (Deliver i)
  pub releases : (k : Cluster) (n i : ℕ) (s : Server) (m : MutexNo) → IsSound k → server_at k.servers n ≡ Some s → enabled k.options s (Deliver i) ≡ true → slice_get s.rest.inbox i ≡ Some (Release (Mutex m))
      → HasResult k n (Deliver i)

-- that of a `dup`, where few events were done, so that the count of shares is far from its end
abbrev pub DupsHaveResults : Type 0
DupsHaveResults =
    (k : Cluster) (n i : ℕ) (s : Server) (m : MutexNo) (a t : ℕ) → IsSound k → FewEvents k → server_at k.servers n ≡ Some s → enabled k.options s (Deliver i) ≡ true → slice_get s.rest.inbox i ≡ Some (Dup m a t)
    → HasResult k n (Deliver i)

-- that of a copy, where few events were done, so that the count of its users is far from its end
abbrev pub FetchedHaveResults : Type 0
FetchedHaveResults =
    (k : Cluster) (n i : ℕ) (s : Server) (w : ℕ) (c : Cell) (t : ℕ) → IsSound k → FewEvents k → server_at k.servers n ≡ Some s → enabled k.options s (Deliver i) ≡ true → slice_get s.rest.inbox i ≡ Some (Fetched w c t)
    → HasResult k n (Deliver i)

-- that of an object that comes, where few events were done, so that an address is left, and its thread has passed no hop of a write. (That the boxes
-- which it has passed lead to where their objects lie follows from types)
abbrev pub MovedHaveResults : Type 0
MovedHaveResults =
    (k : Cluster) (n i : ℕ) (s : Server) (w : ℕ) (c : Cell) (t : ℕ) (y : ThreadState) → IsSound k → FewEvents k → server_at k.servers n ≡ Some s → enabled k.options s (Deliver i) ≡ true → slice_get s.rest.inbox i ≡ Some (Moved w c t)
    → thread_in s.threads t ≡ Some y → y.passed ≡ 0 → HasResult k n (Deliver i)

-- that of a message about an object
pub record ObjectsHaveResults : Type 0 where
  pub fetches : (k : Cluster) (n i : ℕ) (s : Server) (w : ℕ) (o : ObjNo) (a t : ℕ) → IsSound k → server_at k.servers n ≡ Some s → enabled k.options s (Deliver i) ≡ true → slice_get s.rest.inbox i ≡ Some (Fetch w o a t)
      → HasResult k n (Deliver i)
  pub moves : (k : Cluster) (n i : ℕ) (s : Server) (w : ℕ) (o : ObjNo) (a t : ℕ) → IsSound k → server_at k.servers n ≡ Some s → enabled k.options s (Deliver i) ≡ true → slice_get s.rest.inbox i ≡ Some (Move w o a t)
      → HasResult k n (Deliver i)
  pub drops : (k : Cluster) (n i : ℕ) (s : Server) (w : ℕ) (o : ObjNo) → IsSound k → server_at k.servers n ≡ Some s → enabled k.options s (Deliver i) ≡ true → slice_get s.rest.inbox i ≡ Some (Drop w o)
      → HasResult k n (Deliver i)

-- that of the end of a thread
abbrev pub FinishesHaveResults : Type 0
FinishesHaveResults =
    (k : Cluster) (n i : ℕ) (s : Server) (u : ℕ) (v : Owned) → IsSound k → server_at k.servers n ≡ Some s → enabled k.options s (Deliver i) ≡ true → slice_get s.rest.inbox i ≡ Some (Finished u v)
    → HasResult k n (Deliver i)

-- that of a `join`, and that of a task that was dropped
abbrev pub JoinsHaveResults : Type 0
JoinsHaveResults =
    (k : Cluster) (n i : ℕ) (s : Server) (u a t : ℕ) → IsSound k → server_at k.servers n ≡ Some s → enabled k.options s (Deliver i) ≡ true → slice_get s.rest.inbox i ≡ Some (Join u a t)
    → HasResult k n (Deliver i)

abbrev pub TasksLetGoHaveResults : Type 0
TasksLetGoHaveResults =
    (k : Cluster) (n i : ℕ) (s : Server) (u : ℕ) → IsSound k → server_at k.servers n ≡ Some s → enabled k.options s (Deliver i) ≡ true → slice_get s.rest.inbox i ≡ Some (Release (Task u))
    → HasResult k n (Deliver i)

-- the delivery of an answer that gives a thread something, in a sound cluster
pub record AnswersHaveResults : Type 0 where
  -- a content
  pub grants : (k : Cluster) (n i : ℕ) (s : Server) (m : MutexNo) (v : Owned) (t : ℕ) → IsSound k → server_at k.servers n ≡ Some s → enabled k.options s (Deliver i) ≡ true → slice_get s.rest.inbox i ≡ Some (Granted m v t)
      → HasResult k n (Deliver i)
  -- a share
  pub shares : (k : Cluster) (n i : ℕ) (s : Server) (m : MutexNo) (t : ℕ) → IsSound k → server_at k.servers n ≡ Some s → enabled k.options s (Deliver i) ≡ true → slice_get s.rest.inbox i ≡ Some (Dupped m t)
      → HasResult k n (Deliver i)
  -- a result
  pub joins : (k : Cluster) (n i : ℕ) (s : Server) (u : ℕ) (v : Owned) (t : ℕ) → IsSound k → server_at k.servers n ≡ Some s → enabled k.options s (Deliver i) ≡ true → slice_get s.rest.inbox i ≡ Some (Joined u v t)
      → HasResult k n (Deliver i)

-- the step of a thread that has got what it waited for and follows no place, in a sound cluster: at the end of a pair, and at a join
pub record StepsHaveResults : Type 0 where
  pub pairs : (k : Cluster) (n t : ℕ) (s : Server) (y : ThreadState) → IsSound k → server_at k.servers n ≡ Some s → enabled k.options s (what.Step t) ≡ true → thread_in s.threads t ≡ Some y → slice_get k.code y.pc ≡ Some ParEnd
      → HasResult k n (what.Step t)
  pub joins : (k : Cluster) (n t : ℕ) (s : Server) (y : ThreadState) (o : Operand) (v : Owned) → IsSound k → server_at k.servers n ≡ Some s → enabled k.options s (what.Step t) ≡ true → thread_in s.threads t ≡ Some y → y.gift ≡ Some v
      → slice_get k.code y.pc ≡ Some (instr.Join o) → HasResult k n (what.Step t)

-- WHERE NAMES LEAD

-- what a cluster names is of servers that are there: an issued word, a thread and a mutex that are counted at their home, and the server of a
-- thread that stands somewhere, as a thread that asks does
pub record NamesAreHere (k : Cluster) : Type 0 where
  pub words : (w : ℕ) → issued (sight k) w ≡ true → IsSome (server_at k.servers (server_of w))
  pub threads : (home n : ℕ) → some (tot (started_at home n) (things_of k)) ≡ true → IsSome (server_at k.servers home)
  pub mutexes : (home n : ℕ) → some (tot (made_at home n) (things_of k)) ≡ true → IsSome (server_at k.servers home)
  pub askers : (thread server : ℕ) → stands_at (sight k) thread server ≡ true → IsSome (server_at k.servers server)

abbrev pub SoundNames : Type 0
SoundNames = (k : Cluster) → IsSound k → NamesAreHere k
