-- A step that ends in a request: for a copy or an object, while its place is made ready, or for what its instruction needs, at a lock, a dup or a join.
use Rattle.std.proofs.Common.{◌≡◌, ◌⊎◌, inl, inr, ℕ, Bool, true, false, [], Option, Some, None, refl, sym, subst, ◌∙◌}
use Rattle.std.specs.Bool.{⊤}
use Rattle.std.specs.Prelude.{slice_get, option_map}
use Rattle.law_counts_sums.specs.Below.fr_base.declared.name.MutexNo.{MutexNo}
use Rattle.law_counts_sums.specs.Below.fr_base.declared.step.Fresh.{Fresh}
use Rattle.law_counts_sums.specs.Below.fr_base.declared.instruction.Instr.{Instr}
use Rattle.law_counts_sums.specs.Below.fr_base.declared.instruction.Instr.TheVariants as instr
use Rattle.law_counts_sums.specs.Below.heap_partition.declared.value.Owned.{Owned}
use Rattle.law_counts_sums.specs.Below.thread_state.View.{ThreadState}
use Rattle.law_counts_sums.specs.Below.thread_state.declared.phase.Phase.{Phase}
use Rattle.law_counts_sums.specs.Below.thread_state.declared.phase.Phase.TheVariants as phase
use Rattle.law_counts_sums.specs.Below.server_msgs.declared.message.Message.TheVariants as message
use Rattle.law_counts_sums.specs.Below.journal.declared.act.Act.TheVariants as act
use Rattle.law_counts_sums.specs.Below.journal.View.{EntryView}
use Rattle.law_counts_sums.specs.Below.server_model.declared.event.What.TheVariants.{Step}
use Rattle.law_counts_sums.specs.Below.server_model.Servers.{Server, Cluster, server_at}
use Rattle.law_counts_sums.specs.Below.server_model.Work.{Hand, then_some, pop, task_of, thread_in, put_back}
use Rattle.law_counts_sums.specs.Below.server_model.Drop.{home_of}
use Rattle.law_counts_sums.specs.Below.server_model.Places.{Spot}
use Rattle.law_counts_sums.specs.Below.server_model.Prepare.{Prepared, ready, requested, nothing, access_of, prepare}
use Rattle.law_counts_sums.specs.Below.server_model.Commit.{Committed, done, waits, refused, done_where, goes_on, waiting, ask_join, join, ask_dup, dup, ask_lock, lock, mutex_at, par_end, commit, settle}
use Rattle.law_counts_sums.specs.Below.server_model.Events.{can_step, has_phase, enabled, begin_work, begin_at, Stepped, done_step, wait_step, committed, prepared, step, step_in, stepped, does}
use Rattle.law_counts_sums.specs.Below.coherent_memory.Names.{other}
use Rattle.law_counts_sums.specs.Below.coherent_memory.Sight.{sight}
use Rattle.law_counts_sums.specs.Below.coherent_memory.Requests.{is_par, is_par_end, same_truth, par_end as par_wrong}
use Rattle.law_counts_sums.specs.Below.coherent_memory.Coherent.{IsSound}
use Rattle.law_counts_sums.specs.Laws.{Gives}
use Rattle.law_counts_sums.proofs.Results.{then_gives, map_gives, over_gives}
use Rattle.law_counts_sums.proofs.GiftsTaken.{none_here}
use Rattle.law_heap_still.specs.events.Laws.{RequestsLeaveHeap}
use Rattle.law_heap_still.proofs.events.Sites.{begins, ends, ServerStill, leaves_heap_where}
use Rattle.law_heap_still.proofs.events.Leaving.{others, placed_here}
use Rattle.law_heap_still.proofs.events.Once.{shown_once}
use Rattle.law_heap_still.proofs.events.Hands.{HandStill, then_hand, put_still, IsQuiet}
use Rattle.law_heap_still.proofs.events.Addresses.{in_place}
use Rattle.law_heap_still.proofs.events.Readied.{IsPlaced, ready_still, phase_stays}
use Rattle.law_heap_still.proofs.events.Prepares.{Fine, prepare_shows, request_still}

-- PHASES

pub step_quiet : (p : Phase) → can_step p ≡ true → is_par p ≡ false → IsQuiet p
step_quiet phase.Ready e f = record { goes_on = refl; alone = refl; unpaired = refl }
step_quiet phase.Got e f = record { goes_on = refl; alone = refl; unpaired = refl }
step_quiet (phase.Taken w) e f = record { goes_on = refl; alone = refl; unpaired = refl }
step_quiet (phase.GotPar a b) e f = absurd (cc f)
step_quiet _ e f = absurd (cc e)

-- WHAT AN INSTRUCTION ASKS FOR

-- where the thread waits, its hand shows what it showed
abbrev Waits : Hand → Committed → Type 0
Waits h (waits h2) = HandStill [] h h2
Waits h c = ⊤

done_waits : (h : Hand) (names : Fresh) (o : Option Hand) → Waits h (done_where names o)
done_waits h names None = tt
done_waits h names (Some h2) = tt

pub asks_join : (h : Hand) (o : Option ℕ) → IsQuiet h.thread.phase → Waits h (waiting (option_map (ask_join h) o))
asks_join h None q = tt
asks_join h (Some u) q = request_still h (act.AskJoin u) (home_of u) (message.Join u h.work.rest.number h.thread.number) (phase.WaitJoin u) refl q (record { goes_on = refl; alone = refl; unpaired = refl })

asks_dup : (h : Hand) (o : Option MutexNo) → IsQuiet h.thread.phase → Waits h (waiting (option_map (ask_dup h) o))
asks_dup h None q = tt
asks_dup h (Some m) q = request_still h (act.AskDup m) m.home (message.Dup m h.work.rest.number h.thread.number) (phase.WaitDup m) refl q (record { goes_on = refl; alone = refl; unpaired = refl })

asks_lock : (h : Hand) (o : Option MutexNo) → IsQuiet h.thread.phase → Waits h (waiting (option_map (ask_lock h) o))
asks_lock h None q = tt
asks_lock h (Some m) q = request_still h (act.AskLock m) m.home (message.Lock m h.work.rest.number h.thread.number) (phase.WaitLock m) refl q (record { goes_on = refl; alone = refl; unpaired = refl })

by_gift : (P : Committed → Type 0) (f : Option Owned → Committed) → P (f None) → ((v : Owned) → P (f (Some v))) → (g : Option Owned) → P (f g)
by_gift P f a b None = a
by_gift P f a b (Some v) = b v

commit_waits : (servers : ℕ) (i : Instr) (s : Spot) (h : Hand) → IsQuiet h.thread.phase → Waits h (commit servers i s h)
commit_waits n (instr.Join o) s h q = by_gift (Waits h) (λ g. join o g h) (asks_join h (then_some (pop o h) (λ t. task_of t.item)) q) (λ v. done_waits h _ _) h.thread.gift
commit_waits n (instr.Dup w) s h q = by_gift (Waits h) (λ g. dup s g h) (asks_dup h (mutex_at h s) q) (λ v. done_waits h _ _) h.thread.gift
commit_waits n (instr.Lock w) s h q = by_gift (Waits h) (λ g. lock s g h) (asks_lock h (mutex_at h s) q) (λ v. done_waits h _ _) h.thread.gift
commit_waits n (instr.Let o) s h q = done_waits h _ _
commit_waits n (instr.Assign w o) s h q = done_waits h _ _
commit_waits n (instr.Read w take) s h q = done_waits h _ _
commit_waits n (instr.Borrow w) s h q = done_waits h _ _
commit_waits n (instr.BorrowMut w) s h q = done_waits h _ _
commit_waits n (instr.Box o) s h q = done_waits h _ _
commit_waits n (instr.Arith f a b) s h q = done_waits h _ _
commit_waits n (instr.Print o) s h q = done_waits h _ _
commit_waits n instr.Discard s h q = done_waits h _ _
commit_waits n instr.DropSlot s h q = done_waits h _ _
commit_waits n (instr.Spawn cs pc) s h q = done_waits h _ _
commit_waits n (instr.Mutex o) s h q = done_waits h _ _
commit_waits n instr.Unlock s h q = done_waits h _ _
commit_waits n (instr.Par cs pc ds other) s h q = done_waits h _ _
commit_waits n instr.ParEnd s h q = done_waits h _ _
commit_waits n (instr.End o) s h q = done_waits h _ _

-- THE STEP

-- where no plain step is done, the hand shows what it showed
abbrev pub Undone : Hand → Stepped → Type 0
Undone h d = d.names ≡ None → HandStill [] h d.hand

-- hops and labels that count later aren't shown
pub wait_still : (h h2 : Hand) → HandStill [] h h2 → HandStill [] h (wait_step h2).hand
wait_still h h2 s = record { number = s.number; thread = s.thread; alike = s.alike }

committed_undone : (h h2 : Hand) (c : Committed) → (Waits h2 c → Waits h c) → Waits h2 c → Gives (Undone h) (committed c)
committed_undone h h2 (done names h3) go g = map_gives (Undone h) (settle h3) (done_step names) (λ h4 e none. absurd (cc none))
committed_undone h h2 (waits h3) go g = λ none. wait_still h h3 (go g)
committed_undone h h2 refused go g = tt

waits_from : (h h2 : Hand) → HandStill [] h h2 → (c : Committed) → Waits h2 c → Waits h c
waits_from h h2 s (waits h3) g = then_hand [] h h2 h3 s g
waits_from h h2 s (done names h3) g = tt
waits_from h h2 s refused g = tt

prepared_undone : (servers : ℕ) (i : Instr) (h : Hand) (p : Prepared) → IsQuiet h.thread.phase → Fine h p → Gives (Undone h) (prepared servers i p)
prepared_undone n i h (ready h2 s) q g =
    committed_undone h h2 (commit n i s h2) (waits_from h h2 (ready_still h h2 g.0) (commit n i s h2)) (commit_waits n i s h2 (subst IsQuiet (sym (phase_stays h h2 g.0)) q))
prepared_undone n i h (requested h2) q g = λ none. wait_still h h2 (g q)
prepared_undone n i h nothing q g = tt

-- the end of a pair never waits
pair_undone : (servers : ℕ) (h : Hand) → Gives (Undone h) (step servers instr.ParEnd h)
pair_undone n h = by (goes_on (par_end h.thread.phase h)) (done_waits h _ _) (never (par_end h.thread.phase h))
  where
    Never : Committed → Type 0
    Never (waits h2) = ⊥
    Never c = ⊤

    never : (o : Option Hand) → Never (goes_on o)
    never None = tt
    never (Some h2) = tt

    by : (c : Committed) → Waits h c → Never c → Gives (Undone h) (committed c)
    by (done names h3) w e = map_gives (Undone h) (settle h3) (done_step names) (λ h4 x none. absurd (cc none))
    by (waits h3) w e = absurd e
    by refused w e = tt

step_undone : (servers : ℕ) (i : Instr) (h : Hand) → IsPlaced h → IsQuiet h.thread.phase ⊎ (i ≡ instr.ParEnd) → Gives (Undone h) (step servers i h)
step_undone n i h p (inl q) = prepared_undone n i h (prepare (access_of i h.thread) h) q (prepare_shows h (access_of i h.thread) p)
step_undone n i h p (inr e) = subst (λ j. Gives (Undone h) (step n j h)) (sym e) (pair_undone n h)

-- IN A SOUND CLUSTER

is_end : (i : Instr) → is_par_end (Some i) ≡ true → i ≡ instr.ParEnd
is_end instr.ParEnd e = refl
is_end _ e = absurd (cc e)

unpaired : (b : Bool) → other (same_truth false b) ≡ 0 → b ≡ false
unpaired true z = absurd (cc z)
unpaired false z = refl

module _ (k : Cluster) (sound : IsSound k) (number : ℕ) (s : Server) (here : server_at k.servers number ≡ Some s) (t : ℕ) (on : enabled k.options s (Step t) ≡ true) where
  module _ (y : ThreadState) (at : thread_in s.threads t ≡ Some y) (i : Instr) (code : slice_get k.code y.pc ≡ Some i) where
    abbrev h : Hand
    h = record { work = begin_work s.rest; thread = y }

    calm : can_step y.phase ≡ true
    calm = subst (λ x. has_phase can_step x ≡ true) at on

    fits : other (same_truth (is_par_end (Some i)) (is_par y.phase)) ≡ 0
    fits = subst (λ j. other (same_truth (is_par_end j) (is_par y.phase)) ≡ 0) code (none_here k sound number s here t y at (par_wrong (sight k)) sound.requests.par_ends)

    quiet_or_end : IsQuiet y.phase ⊎ (i ≡ instr.ParEnd)
    quiet_or_end = by (is_par_end (Some i)) refl fits
      where
        by : (b : Bool) → is_par_end (Some i) ≡ b → other (same_truth b (is_par y.phase)) ≡ 0 → IsQuiet y.phase ⊎ (i ≡ instr.ParEnd)
        by true e z = inr (is_end i e)
        by false e z = inl (step_quiet y.phase calm (unpaired (is_par y.phase) z))

    undone : Gives (Undone h) (step k.options.servers i h)
    undone = step_undone k.options.servers i h (in_place s.rest.number s.events s.rest (others k sound number s here) (placed_here k sound number s here)) quiet_or_end

  abbrev Then : Server × EntryView → Type 0
  Then r = r.1.done ≡ None → ServerStill k s r

  pub steps : Gives Then (does k.code k.options s (Step t))
  steps = by (thread_in s.threads t) refl
    where
      by : (o : Option ThreadState) → thread_in s.threads t ≡ o
          → Gives Then (option_map (stepped s) (then_some (option_map (λ y. record { work = begin_work s.rest; thread = y }) o) (step_in k.code k.options.servers)))
      by None at = tt
      by (Some y) at =
          over_gives (Undone (record { work = begin_work s.rest; thread = y })) Then (step_in k.code k.options.servers (record { work = begin_work s.rest; thread = y })) (stepped s)
          (then_gives (Undone (record { work = begin_work s.rest; thread = y })) (slice_get k.code y.pc) (λ i. step k.options.servers i (record { work = begin_work s.rest; thread = y })) (λ i code. undone y at i code))
          (λ d u none w z c. begins s w z ∙ put_still [] t (begin_at s) y at d.hand (u none) w z ∙ ends s.events (Some d.hand.thread.number) d.names (put_back s.threads d.hand) w z)

pub requests_leave : RequestsLeaveHeap
requests_leave k n t sound few = leaves_heap_where (λ (e : EntryView). e.done ≡ None) shown_once k (record { server = n; what = Step t }) sound few (λ s here on. steps k sound n s here t on)
