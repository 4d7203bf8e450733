-- An event without a plain step has no labels: none of what messages do gives one, and where a thread waits, none counts yet.
use Rattle.std.proofs.Common.{◌≡◌, ℕ, zero, suc, ◌+◌, ◌-◌, ◌==◌, nat_lt, Bool, true, false, if◌then◌else◌, List, [], ◌∷◌, ◌++◌, length, Option, Some, None, refl}
use Rattle.std.specs.Prelude.{slice_get, slice_set, option_map}
use Rattle.law_runs_coherent.specs.Below.fr_base.declared.name.MutexNo.{MutexNo}
use Rattle.law_runs_coherent.specs.Below.fr_base.declared.instruction.Instr.{Instr}
use Rattle.law_runs_coherent.specs.Below.fr_base.declared.place.Lval.{Lval}
use Rattle.law_runs_coherent.specs.Below.fr_base.declared.release.Released.TheVariants as released
use Rattle.law_runs_coherent.specs.Below.fr_base.declared.step.Fresh.{Fresh}
use Rattle.law_runs_coherent.specs.Below.fr_base.declared.settings.Options.{Options}
use Rattle.law_runs_coherent.specs.Below.heap_partition.declared.value.Cell.{Cell}
use Rattle.law_runs_coherent.specs.Below.heap_partition.declared.value.Owned.{Owned}
use Rattle.law_runs_coherent.specs.Below.heap_partition.declared.value.Owned.TheVariants as owned
use Rattle.law_runs_coherent.specs.Below.thread_state.View.{ThreadState}
use Rattle.law_runs_coherent.specs.Below.thread_state.declared.phase.Phase.TheVariants as phase
use Rattle.law_runs_coherent.specs.Below.thread_state.declared.value.Value.{Value}
use Rattle.law_runs_coherent.specs.Below.thread_state.declared.value.Value.TheVariants as value
use Rattle.law_runs_coherent.specs.Below.mutex_home.declared.answers.Asked.{Asked}
use Rattle.law_runs_coherent.specs.Below.mutex_home.declared.answers.Asked.TheVariants as was
use Rattle.law_runs_coherent.specs.Below.mutex_home.declared.answers.Back.{Back}
use Rattle.law_runs_coherent.specs.Below.mutex_home.declared.answers.Back.TheVariants as back
use Rattle.law_runs_coherent.specs.Below.join_home.declared.answers.EndedAs.{EndedAs}
use Rattle.law_runs_coherent.specs.Below.join_home.declared.answers.EndedAs.TheVariants as ends
use Rattle.law_runs_coherent.specs.Below.server_msgs.declared.message.Message.{Message}
use Rattle.law_runs_coherent.specs.Below.server_msgs.declared.message.Message.TheVariants as message
use Rattle.law_runs_coherent.specs.Below.server_model.NewWords.{can_grow}
use Rattle.law_runs_coherent.specs.Below.owner_box.Partition.{new_word, made, freed, stored}
use Rattle.law_runs_coherent.specs.Below.read_cache.Cache.{can_pin, pin, can_fill, fill, can_evict, evict}
use Rattle.law_runs_coherent.specs.Below.migration.Packing.{pack_thread}
use Rattle.law_runs_coherent.specs.Below.fr_base.Lists.{is_in}
use Rattle.law_runs_coherent.specs.Below.mutex_home.Mutexes as mutexes
use Rattle.law_runs_coherent.specs.Below.join_home.Tasks as tasks
use Rattle.law_runs_coherent.specs.Below.journal.declared.act.Act.TheVariants as act
use Rattle.law_runs_coherent.specs.Below.journal.View.{EntryView}
use Rattle.law_runs_coherent.specs.Below.server_model.declared.event.What.{What}
use Rattle.law_runs_coherent.specs.Below.server_model.declared.event.What.TheVariants.{Step, Deliver, Evict, Migrate}
use Rattle.law_runs_coherent.specs.Below.server_model.Servers.{Server, Cluster, server_at}
use Rattle.law_runs_coherent.specs.Below.server_model.Work.{Work, Hand, Site, send, note, look_object, leads_here, working, with_partition, with_cache, with_mutexes, with_tasks, with_slots, without_thread, use_word, then_some, thread_in, in_hand, at_thread, beside_threads, put_back, with_phase, used_once}
use Rattle.law_runs_coherent.specs.Below.server_model.Places.{Spot, in_slot, on_top, in_cell, note_write, put_at, with_word, set_pointer, value_at}
use Rattle.law_runs_coherent.specs.Below.server_model.NewWords.{NewWord, issue_placed}
use Rattle.law_runs_coherent.specs.Below.server_model.Prepare.{Access, ReadTo, ReadPointer, WriteTo, LendTo, EndRef, Prepared, ready, requested, nothing, write_stars, passing, prepare, access_of}
use Rattle.law_runs_coherent.specs.Below.server_model.Commit.{Committed, done, waits, refused, commit, settle}
use Rattle.law_runs_coherent.specs.Below.server_model.Drop.{give_up}
use Rattle.law_runs_coherent.specs.Below.server_model.Objects.{chased, waits_for_cell, passed_spot, waits_under, instr_access, deliver_fetch, filled, deliver_fetched, deliver_move, arrived_at, arrived_slot, arrived_write, arrived_lend, arrived_end, arrived, came, deliver_moved, deliver_drop}
use Rattle.law_runs_coherent.specs.Below.server_model.Sharing.{waits_for_lock, waits_for_dup, given, answer_lock, deliver_lock, deliver_granted, answer_back, deliver_unlock, deliver_dup, deliver_dupped, give_up_left, release_mutex}
use Rattle.law_runs_coherent.specs.Below.server_model.Joining.{waits_for_join, got_par, answer, stand, answer_join, deliver_join, deliver_joined, release_task, pair_over, end_answer}
use Rattle.law_runs_coherent.specs.Below.server_model.Moving.{depart, migrate}
use Rattle.law_runs_coherent.specs.Below.server_model.Events.{Stepped, done_step, committed, prepared, step, step_in, stepped, deliver_message, received, deliver, evict_copy, enabled, does, begin_work, begin_at, left_by}
use Rattle.law_runs_coherent.specs.Below.server_model.Clusters.{done_at}
use Rattle.law_runs_coherent.specs.Below.law_counts_sums.Laws.{Gives}
use Rattle.law_runs_coherent.proofs.Below.law_counts_sums.Results.{then_gives, map_gives, test_gives, bind_gives, over_gives}
use Rattle.law_runs_whole.specs.runs.Runs.{UndoneUnlabelled}

abbrev Mute : Work → Type 0
Mute w = w.labels ≡ []

abbrev MuteHand : Hand → Type 0
MuteHand h = Mute h.work

abbrev MuteSite : Site → Type 0
MuteSite x = Mute x.work

-- VALUES THAT GO

given_up : (v : Owned) (w : Work) → Mute w → Mute (give_up v w)
given_up (owned.Box p) w e = e
given_up (owned.Mutex m) w e = e
given_up (owned.Task t) w e = e
given_up owned.Nothing w e = e
given_up owned.Unit w e = e
given_up (owned.Int n) w e = e

left_given_up : (v : Option Owned) (w : Work) → Mute w → Mute (give_up_left v w)
left_given_up None w e = e
left_given_up (Some v) w e = given_up v w e

-- MESSAGES BESIDE THREADS

lock_answered : (m : MutexNo) (s t : ℕ) (a : Asked) (w : Work) → Mute w → Mute (answer_lock m s t a w)
lock_answered m s t was.Queued w e = e
lock_answered m s t (was.Granted v) w e = e

back_answered : (m : MutexNo) (a : Back) (w : Work) → Mute w → Mute (answer_back m a w)
back_answered m (back.Next s t v) w e = e
back_answered m (back.Ended v) w e = given_up v w e
back_answered m back.Kept w e = e

join_answered : (u s by : ℕ) (v : Option Owned) (w : Work) → Mute w → Mute (answer_join u s by v w)
join_answered u s by None w e = e
join_answered u s by (Some v) w e = e

beside : (f : Work → Option Work) (x : Site) → Gives Mute (f x.work) → Gives MuteSite (beside_threads f x)
beside f x g = over_gives Mute MuteSite (f x.work) (λ w. record x { work = w }) g (λ w e. e)

-- MESSAGES TO THREADS

at_one : (t : ℕ) (f : Hand → Option Hand) (x : Site) → MuteSite x → ((h : Hand) → MuteHand h → Gives MuteHand (f h)) → Gives MuteSite (at_thread t f x)
at_one t f x e go =
    bind_gives MuteHand MuteSite (in_hand x t) (λ h. option_map (put_back x.threads) (f h)) (map_gives MuteHand (thread_in x.threads t) (λ y. record { work = x.work; thread = y }) (λ y q. e))
    (λ h m. over_gives MuteHand MuteSite (f h) (put_back x.threads) (go h m) (λ h2 w. w))

put_so : (s : Spot) (v : Value) (h : Hand) → MuteHand h → Gives MuteHand (put_at s v h)
put_so (in_slot i) v h e = test_gives MuteHand (nat_lt i (length h.thread.slots)) (Some (with_slots (slice_set h.thread.slots i v) h)) (λ on. e)
put_so on_top v h e = e
put_so (in_cell w through) (value.Own v) h e =
    let stored_there : Hand = working (with_partition (stored h.work.rest.partition w v)) h in
    test_gives MuteHand (leads_here h.work.rest.partition w) (Some (note_write through stored_there)) (λ on. noted through stored_there e)
  where
    noted : (through : Option ℕ) (h : Hand) → MuteHand h → MuteHand (note_write through h)
    noted None h e = e
    noted (Some i) h e = e
put_so s v h e = tt

pointer_set : (s : Spot) (w : ℕ) (h : Hand) → MuteHand h → Gives MuteHand (set_pointer s w h)
pointer_set s w h e = then_gives MuteHand (value_at h s) (λ v. then_some (with_word w v) (λ new. put_at s new h)) (λ v q. then_gives MuteHand (with_word w v) (λ new. put_at s new h) (λ new r. put_so s new h e))

came_at : (s : Spot) (new : ℕ) (h : Hand) → MuteHand h → Gives MuteHand (arrived_at s new h)
came_at s new h e = over_gives MuteHand MuteHand (set_pointer s new h) (with_phase phase.Got) (pointer_set s new h e) (λ h2 w. w)

came_slot : (old new i : ℕ) (h : Hand) → MuteHand h → Gives MuteHand (arrived_slot old new i h)
came_slot old new i h e = test_gives MuteHand (waits_under old (slice_get h.thread.slots i)) (arrived_at (in_slot i) new h) (λ on. came_at (in_slot i) new h e)

came_write : (w : Lval) (new : ℕ) (h : Hand) → MuteHand h → Gives MuteHand (arrived_write w new h)
came_write w new h e =
    let passed : Hand = passing (h.thread.passed + 1) h in
    then_gives MuteHand (passed_spot (write_stars h.thread.passed 0 h (in_slot w.slot))) (λ s. arrived_at s new passed) (λ s q. came_at s new passed e)

came_lend : (slot depth old new : ℕ) (h : Hand) → MuteHand h → Gives MuteHand (arrived_lend slot depth old new h)
came_lend slot zero old new h e = tt
came_lend slot (suc zero) old new h e = e
came_lend slot (suc (suc d)) old new h e = by (waits_under old (slice_get h.thread.slots (chased d h.thread.slots slot)))
  where
    by : (b : Bool) → Gives MuteHand (if b then arrived_at (in_slot (chased d h.thread.slots slot)) new h else Some (with_phase (phase.Taken new) h))
    by true = came_at (in_slot (chased d h.thread.slots slot)) new h e
    by false = e

came_end : (s : Spot) (v : Option Value) (old new : ℕ) (h : Hand) → MuteHand h → Gives MuteHand (arrived_end s v old new h)
came_end s (Some (value.Mut r)) old new h e = by (r.word == old)
  where
    by : (b : Bool) → Gives MuteHand (if b then arrived_at s new h else arrived_write r.holder new h)
    by true = came_at s new h e
    by false = came_write r.holder new h e
came_end s v old new h e = tt

came_so : (a : Option Access) (old new : ℕ) (h : Hand) → MuteHand h → Gives MuteHand (arrived a old new h)
came_so None old new h e = tt
came_so (Some (ReadTo w)) old new h e = came_slot old new (chased (w.depth - 1) h.thread.slots w.slot) h e
came_so (Some (ReadPointer w)) old new h e = came_slot old new (chased (w.depth - 1) h.thread.slots w.slot) h e
came_so (Some (WriteTo w)) old new h e = came_write w new h e
came_so (Some (LendTo w)) old new h e = came_lend w.slot w.depth old new h e
came_so (Some (EndRef s)) old new h e = came_end s (value_at h s) old new h e

moved : (code : List Instr) (old : ℕ) (c : Cell) (h : Hand) → MuteHand h → Gives MuteHand (deliver_moved code old c h)
moved code old c h e =
    test_gives MuteHand (waits_for_cell h.thread.phase old) (came code old c h) (λ on.
    bind_gives (λ (n : NewWord). Mute n.work) MuteHand (issue_placed (act.Take c.object old) c h.work) (λ n. arrived (instr_access h (slice_get code h.thread.pc)) old n.word (record h { work = n.work }))
    (test_gives (λ (n : NewWord). Mute n.work) (can_grow h.work.rest.partition) (Some (record { word = new_word h.work.rest.partition; work = note (act.Take c.object old (new_word h.work.rest.partition)) (with_partition (made h.work.rest.partition c) h.work) })) (λ grows. e))
    (λ n m. came_so (instr_access h (slice_get code h.thread.pc)) old n.word (record h { work = n.work }) m))

word_used : (w : ℕ) (b : Bool) (h : Hand) → MuteHand h → Gives MuteHand (used_once w b h)
word_used w true h e = e
word_used w false h e =
    test_gives MuteHand (can_pin h.work.rest.cache w) (Some (record { work = with_cache (pin h.work.rest.cache w) h.work; thread = record h.thread { walk = h.thread.walk ++ w ∷ [] } })) (λ on. e)

fetched : (w : ℕ) (c : Cell) (h : Hand) → MuteHand h → Gives MuteHand (deliver_fetched w c h)
fetched w c h e =
    test_gives MuteHand (waits_for_cell h.thread.phase w) (option_map (λ h2. with_phase phase.Got (working (note (act.Fill c.object w)) h2)) (filled w c h)) (λ on.
    over_gives MuteHand MuteHand (filled w c h) (λ h2. with_phase phase.Got (working (note (act.Fill c.object w)) h2))
    (test_gives MuteHand (can_fill h.work.rest.cache w c) (use_word w (working (with_cache (fill h.work.rest.cache w c)) h)) (λ room. word_used w (is_in w h.thread.walk) (working (with_cache (fill h.work.rest.cache w c)) h) e))
    (λ h2 m. m))

gift_given : (v : Owned) (g : Option Owned) (h : Hand) → MuteHand h → Gives MuteHand (given v g h)
gift_given v None h e = e
gift_given v (Some u) h e = tt

-- ALL MESSAGES

stood : (o : Option ThreadState) (t : ThreadState) (x : Site) → MuteSite x → Gives MuteSite (stand o t x)
stood None t x e = e
stood (Some y) t x e = tt

ended_so : (u : ℕ) (a : EndedAs) (x : Site) → MuteSite x → Gives MuteSite (end_answer u a x)
ended_so u (ends.Answer s by v) x e = beside (λ w. Some (answer u s by v w)) x e
ended_so u (ends.Both parent) x e = at_one parent (pair_over u) x e (λ h m. map_gives MuteHand (got_par u h.thread.phase) (λ p. with_phase p h) (λ p q. m))
ended_so u (ends.LetGo v) x e = beside (λ w. Some (give_up v w)) x (given_up v x.work e)
ended_so u ends.Kept x e = e

delivered_so : (code : List Instr) (m : Message) (x : Site) → MuteSite x → Gives MuteSite (deliver_message code m x)
delivered_so code (message.Fetch w o s t) x e = beside (deliver_fetch w o s t) x (map_gives Mute (look_object x.work.rest.partition w o) (λ c. send s (message.Fetched w c t) (note (act.Serve o w s) x.work)) (λ c q. e))
delivered_so code (message.Fetched w c t) x e = at_one t (deliver_fetched w c) x e (fetched w c)
delivered_so code (message.Move w o s t) x e = beside (deliver_move w o s t) x (map_gives Mute (look_object x.work.rest.partition w o) (λ c. send s (message.Moved w c t) (note (act.Give o w s) (with_partition (freed x.work.rest.partition w) x.work))) (λ c q. e))
delivered_so code (message.Moved w c t) x e = at_one t (deliver_moved code w c) x e (moved code w c)
delivered_so code (message.Drop w o) x e = beside (deliver_drop w o) x (map_gives Mute (look_object x.work.rest.partition w o) (λ c. give_up c.value (note (act.Free o w) (with_partition (freed x.work.rest.partition w) x.work))) (λ c q. given_up c.value (note (act.Free o w) (with_partition (freed x.work.rest.partition w) x.work)) e))
delivered_so code (message.Lock m s t) x e = beside (deliver_lock m s t) x (map_gives Mute (mutexes.ask x.work.rest.mutexes m s t) (λ a. answer_lock m s t a.1 (with_mutexes a.0 x.work)) (λ a q. lock_answered m s t a.1 (with_mutexes a.0 x.work) e))
delivered_so code (message.Granted m v t) x e = at_one t (deliver_granted m v) x e (λ h w. test_gives MuteHand (waits_for_lock h.thread.phase m) (given v h.thread.gift h) (λ on. gift_given v h.thread.gift h w))
delivered_so code (message.Unlock m v) x e = beside (deliver_unlock m v) x (map_gives Mute (mutexes.give_back x.work.rest.mutexes m v) (λ a. answer_back m a.1 (with_mutexes a.0 x.work)) (λ a q. back_answered m a.1 (with_mutexes a.0 x.work) e))
delivered_so code (message.Dup m s t) x e = beside (deliver_dup m s t) x (map_gives Mute (mutexes.more x.work.rest.mutexes m) (λ ms. send s (message.Dupped m t) (note (act.Dupped m t s) (with_mutexes ms x.work))) (λ a q. e))
delivered_so code (message.Dupped m t) x e = at_one t (deliver_dupped m) x e (λ h w. test_gives MuteHand (waits_for_dup h.thread.phase m) (given (owned.Mutex m) h.thread.gift h) (λ on. gift_given (owned.Mutex m) h.thread.gift h w))
delivered_so code (message.Release (released.Mutex m)) x e = beside (release_mutex m) x (map_gives Mute (mutexes.less x.work.rest.mutexes m) (λ a. give_up_left a.1 (with_mutexes a.0 x.work)) (λ a q. left_given_up a.1 (with_mutexes a.0 x.work) e))
delivered_so code (message.Release (released.Task u)) x e = beside (release_task u) x (map_gives Mute (tasks.let_go_of x.work.rest.tasks u) (λ a. give_up_left a.1 (with_tasks a.0 x.work)) (λ a q. left_given_up a.1 (with_tasks a.0 x.work) e))
delivered_so code (message.Start p) x e = stood (thread_in x.threads p.number) p x e
delivered_so code (message.Join u s by) x e = beside (deliver_join u s by) x (map_gives Mute (tasks.ask x.work.rest.tasks u s by) (λ a. answer_join u s by a.1 (with_tasks a.0 x.work)) (λ a q. join_answered u s by a.1 (with_tasks a.0 x.work) e))
delivered_so code (message.Joined u v by) x e = at_one by (deliver_joined u v) x e (λ h w. test_gives MuteHand (waits_for_join h.thread.phase u) (given v h.thread.gift h) (λ on. gift_given v h.thread.gift h w))
delivered_so code (message.Finished u v) x e = then_gives MuteSite (tasks.ended x.work.rest.tasks u v) (λ a. end_answer u a.1 (record x { work = with_tasks a.0 x.work })) (λ a q. ended_so u a.1 (record x { work = with_tasks a.0 x.work }) e)
delivered_so code (message.Migrate p) x e = stood (thread_in x.threads p.number) p x e

-- EVENTS

abbrev Waits : Stepped → Type 0
Waits d = d.names ≡ None → Mute d.hand.work

committed_so : (c : Committed) → Gives Waits (committed c)
committed_so (done names h) = map_gives Waits (settle h) (done_step names) (λ h2 q. named names)
  where
    named : {X : Type 0} (names : Fresh) → Some names ≡ None → X
    named names e = absurd (cc e)
committed_so (waits h) = λ e. refl
committed_so refused = tt

prepared_so : (servers : ℕ) (i : Instr) (p : Prepared) → Gives Waits (prepared servers i p)
prepared_so servers i (ready h s) = committed_so (commit servers i s h)
prepared_so servers i (requested h) = λ e. refl
prepared_so servers i nothing = tt

abbrev Silent : Server × EntryView → Type 0
Silent r = r.1.done ≡ None → r.1.labels ≡ []

does_so : (code : List Instr) (o : Options) (s : Server) (w : What) → Gives Silent (does code o s w)
does_so code o s (Step t) =
    over_gives Waits Silent (then_some (in_hand (begin_at s) t) (step_in code o.servers)) (stepped s)
    (then_gives Waits (in_hand (begin_at s) t) (step_in code o.servers) (λ h q. then_gives Waits (slice_get code h.thread.pc) (λ i. step o.servers i h) (λ i r. prepared_so o.servers i (prepare (access_of i h.thread) h)))) (λ d m. m)
does_so code o s (Deliver i) = over_gives MuteSite Silent (deliver code i s) (left_by s.events None None) (then_gives MuteSite (slice_get s.rest.inbox i) (λ m. deliver_message code m (received i s)) (λ m q. delivered_so code m (received i s) refl)) (λ x m d. m)
does_so code o s (Evict c) = over_gives MuteSite Silent (beside_threads (evict_copy c) (begin_at s)) (left_by s.events None None) (beside (evict_copy c) (begin_at s) (test_gives Mute (can_evict s.rest.cache c) (Some (note (act.Evict c) (with_cache (evict s.rest.cache c) (begin_work s.rest)))) (λ on. refl))) (λ x m d. m)
does_so code o s (Migrate t target) =
    over_gives MuteSite Silent (migrate t target (begin_at s)) (left_by s.events (Some t) None) (then_gives MuteSite (thread_in s.threads t) (λ y. option_map (λ p. record { work = depart target (begin_work s.rest) p; threads = without_thread s.threads t }) (pack_thread (record y { moved_since_step = true }) s.rest.cache)) (λ y q. map_gives MuteSite (pack_thread (record y { moved_since_step = true }) s.rest.cache) (λ p. record { work = depart target (begin_work s.rest) p; threads = without_thread s.threads t }) (λ p r. refl))) (λ x m d. m)

pub undone_unlabelled : UndoneUnlabelled
undone_unlabelled k e =
    then_gives (λ (d : Cluster × EntryView). d.1.done ≡ None → d.1.labels ≡ []) (server_at k.servers e.server) _ (λ s here.
    over_gives Silent (λ (d : Cluster × EntryView). d.1.done ≡ None → d.1.labels ≡ []) (done_at k e.what s) _ (test_gives Silent (enabled k.options s e.what) (does k.code k.options s e.what) (λ on. does_so k.code k.options s e.what)) (λ r m. m))
