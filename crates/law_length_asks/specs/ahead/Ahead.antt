-- HOW MANY HOPS ARE AHEAD OF A THREAD on the place that it follows (this project's rule): those of a write that it hasn't passed, and those of a read from the
-- first pointer on that it can't read. A step asks at most once for each.
use Rattle.std.specs.Prelude.{◌≡◌, ◌≤◌, ℕ, suc, ◌+◌, ◌-◌, true, if◌then◌else◌, List, [], ◌∷◌, ◌++◌, length, Some}
use Rattle.law_walks_own.specs.Below.fr_base.declared.instruction.Instr.{Instr}
use Rattle.law_walks_own.specs.Below.fr_base.declared.place.Lval.{Lval}
use Rattle.law_walks_own.specs.Below.thread_state.declared.phase.Phase.TheVariants as phase
use Rattle.law_walks_own.specs.Below.journal.View.{EntryView}
use Rattle.law_walks_own.specs.Below.server_msgs.declared.message.Message.{Message}
use Rattle.law_walks_own.specs.Below.server_model.declared.event.Event.{Event}
use Rattle.law_walks_own.specs.Below.server_model.declared.event.What.TheVariants.{Step}
use Rattle.law_walks_own.specs.Below.server_model.Servers.{Cluster}
use Rattle.law_walks_own.specs.Below.server_model.Clusters.{apply}
use Rattle.law_walks_own.specs.Below.coherent_memory.Names.{Among}
use Rattle.law_walks_own.specs.Below.coherent_memory.Follow.{Standing}
use Rattle.law_walks_own.specs.Below.coherent_memory.Paths.{Path, no_path, reads, shares, lends, writes, ends, Awaited, awaited, is_readable}
use Rattle.law_walks_own.specs.Below.coherent_memory.Sight.{Sight, sight}
use Rattle.law_walks_own.specs.Below.coherent_memory.Walking.{instr_of, path, words_kept, in_turn}
use Rattle.law_walks_own.specs.Below.coherent_memory.Coherent.{IsSound}
use Rattle.law_walks_own.specs.Below.coherent_types.ClusterTypes.{IsCoherent}
use Rattle.law_walks_own.specs.Below.law_words_paths.paths.HeapStore.{GoesOn}
use Rattle.law_walks_own.specs.Below.law_words_paths.words.Unmoved.{Delivers}
use Rattle.law_walks_own.specs.Below.law_counts_sums.Kinds.{Kind, fetched}
use Rattle.law_walks_own.specs.Below.law_counts_sums.Laws.{Gives, FewEvents}
use Rattle.law_walks_own.specs.Below.law_words_kept.stays.Laws.{IsOfKind}
use Rattle.law_walks_own.specs.Below.law_words_kept.reads.Reading.{Reads}
use Rattle.law_walks_own.specs.Below.law_counts_waiting.waits.Steady.{IsSteady}

-- those from the first one on that can't be read, with so many words kept at that server
abbrev pub ahead_from : List ℕ → ℕ → List Awaited → ℕ
ahead_from kept s [] = 0
ahead_from kept s (a ∷ rest) = if is_readable kept s a then ahead_from kept s rest else suc (length rest)

-- on a path of the thread
abbrev pub ahead_on : Sight → Standing → Path → ℕ
ahead_on s x no_path = 0
ahead_on s x (writes w) = w.depth - x.thread.passed
ahead_on s x (ends r) = r.holder.depth - x.thread.passed
ahead_on s x p = ahead_from (words_kept x.thread) x.server (awaited s.options.colours s.ground x.thread.number p)

abbrev pub ahead : Sight → Standing → ℕ
ahead s x = ahead_on s x (path s x)

-- the stars of a path's place
abbrev pub path_stars : Path → ℕ
path_stars no_path = 0
path_stars (reads w) = w.depth
path_stars (shares w) = w.depth
path_stars (lends w) = w.depth
path_stars (writes w) = w.depth
path_stars (ends r) = r.holder.depth

abbrev pub AheadWithinStars : Type 0
AheadWithinStars = (s : Sight) (x : Standing) → ahead s x ≤ path_stars (path s x)

-- in a coherent cluster these are few
abbrev pub EightAhead : Type 0
EightAhead = (k : Cluster) → IsCoherent k → (x : Standing) → Among x (sight k).ground.threads → ahead (sight k) x ≤ 8

-- as many are ahead of the thread as were before
abbrev pub SameAhead : Cluster → Standing → Cluster × EntryView → Type 0
SameAhead k x d = ahead (sight d.0) x ≡ ahead (sight k) x

-- after the step of another thread, done or not, from a coherent cluster with few events
abbrev pub OthersStepsLeaveAhead : Type 0
OthersStepsLeaveAhead =
    (k : Cluster) (e : Event) (t : ℕ) → e.what ≡ Step t → IsCoherent k → FewEvents k → (x : Standing) → GoesOn k x → (x.thread.number ≡ t → ⊥) → Gives (SameAhead k x) (apply k e)

-- after an event in which no object comes or goes and no pointer gets another word, from a sound one, whatever the thread keeps
abbrev pub SteadyEventsLeaveAhead : Type 0
SteadyEventsLeaveAhead = (kind : Kind) → IsSteady kind → (k : Cluster) (e : Event) → IsOfKind kind k e → IsSound k → FewEvents k → (x : Standing) → Gives (SameAhead k x) (apply k e)

-- after the delivery of that message, from a coherent one
abbrev pub DeliveryLeavesAhead : Message → Type 0
DeliveryLeavesAhead m = (k : Cluster) (e : Event) → Delivers k e m → IsCoherent k → FewEvents k → (x : Standing) → GoesOn k x → Gives (SameAhead k x) (apply k e)

-- the thread with a copy under that word in its walk
abbrev pub with_copy : ℕ → Standing → Standing
with_copy w x = record x { thread = record x.thread { walk = x.thread.walk ++ w ∷ [] } }

-- where a thread waits in turn for what may be read by a copy, and a copy comes, fewer are ahead of it with that copy
abbrev pub CopiesLeadOn : Type 0
CopiesLeadOn =
    (k : Cluster) (e : Event) → IsOfKind fetched k e → IsSound k → FewEvents k → (x : Standing) (w : ℕ) (a : Awaited) → in_turn (sight k) x w (path (sight k) x) ≡ Some a → a.by_copy ≡ true
    → Gives (λ (d : Cluster × EntryView). ahead (sight d.0) (with_copy a.word x) + 1 ≤ ahead (sight k) x) (apply k e)

-- after a step of its own that asks on a read of a whole place, from a coherent cluster with few events, no more are ahead of the thread
abbrev pub OwnReadsLeaveNoMore : Type 0
OwnReadsLeaveNoMore =
    (k : Cluster) (e : Event) (t : ℕ) → e.what ≡ Step t → IsCoherent k → FewEvents k → (x : Standing) (i : Instr) (w : Lval) → Among x (sight k).ground.threads → x.thread.number ≡ t → instr_of (sight k) x ≡ Some i → Reads i w w.depth
    → Gives (λ (d : Cluster × EntryView). (y : Standing) (q : ℕ) → Among y (sight d.0).ground.threads → y.thread.number ≡ t → y.thread.phase ≡ phase.WaitCell q → ahead (sight d.0) y ≤ ahead (sight k) x) (apply k e)
