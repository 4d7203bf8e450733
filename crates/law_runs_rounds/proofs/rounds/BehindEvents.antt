-- The delivery of a message, and every other event, is the same with other messages in front.
use Rattle.std.proofs.Common.{◌≡◌, ℕ, zero, suc, ◌+◌, ◌-◌, ◌==◌, Bool, true, false, List, Option, Some, None, refl, ap, ◌∙◌}
use Rattle.std.specs.Prelude.{slice_get, option_map}
use Rattle.law_runs_whole.specs.Below.fr_base.Lists.{is_in}
use Rattle.law_runs_whole.specs.Below.fr_base.declared.name.MutexNo.{MutexNo}
use Rattle.law_runs_whole.specs.Below.fr_base.declared.name.ObjNo.{ObjNo}
use Rattle.law_runs_whole.specs.Below.fr_base.declared.place.Lval.{Lval}
use Rattle.law_runs_whole.specs.Below.fr_base.declared.instruction.Instr.{Instr}
use Rattle.law_runs_whole.specs.Below.fr_base.declared.settings.Options.{Options}
use Rattle.law_runs_whole.specs.Below.fr_base.declared.release.Released.{Released}
use Rattle.law_runs_whole.specs.Below.fr_base.declared.release.Released.TheVariants as released
use Rattle.law_runs_whole.specs.Below.heap_partition.declared.value.Cell.{Cell}
use Rattle.law_runs_whole.specs.Below.heap_partition.declared.value.Owned.{Owned}
use Rattle.law_runs_whole.specs.Below.heap_partition.declared.value.Owned.TheVariants as owned
use Rattle.law_runs_coherent.specs.Below.owner_box.Partition.{freed}
use Rattle.law_runs_whole.specs.Below.read_cache.Cache.{can_evict, can_fill, fill}
use Rattle.law_runs_whole.specs.Below.mutex_home.Mutexes.{Mutexes, ask, give_back, more, less}
use Rattle.law_runs_whole.specs.Below.mutex_home.declared.answers.Asked.{Asked}
use Rattle.law_runs_whole.specs.Below.mutex_home.declared.answers.Asked.TheVariants as asked
use Rattle.law_runs_whole.specs.Below.mutex_home.declared.answers.Back.{Back}
use Rattle.law_runs_whole.specs.Below.mutex_home.declared.answers.Back.TheVariants as back
use Rattle.law_runs_whole.specs.Below.join_home.Tasks.{Task, ended, let_go_of}
use Rattle.law_runs_whole.specs.Below.join_home.Tasks as tasks
use Rattle.law_runs_whole.specs.Below.join_home.declared.answers.EndedAs.{EndedAs}
use Rattle.law_runs_whole.specs.Below.join_home.declared.answers.EndedAs.TheVariants as over
use Rattle.law_runs_coherent.specs.Below.migration.Packing.{pack_thread}
use Rattle.law_runs_whole.specs.Below.thread_state.View.{ThreadState}
use Rattle.law_runs_whole.specs.Below.thread_state.declared.phase.Phase.TheVariants as phase
use Rattle.law_runs_whole.specs.Below.thread_state.declared.value.Value.{Value}
use Rattle.law_runs_whole.specs.Below.thread_state.declared.value.Value.TheVariants as value
use Rattle.law_runs_coherent.specs.Below.server_msgs.declared.message.Message.{Message}
use Rattle.law_runs_coherent.specs.Below.server_msgs.declared.message.Message.TheVariants as message
use Rattle.law_runs_whole.specs.Below.journal.declared.act.Act.TheVariants as act
use Rattle.law_runs_whole.specs.Below.journal.View.{EntryView}
use Rattle.law_runs_whole.specs.Below.server_model.declared.event.What.{What}
use Rattle.law_runs_whole.specs.Below.server_model.declared.event.What.TheVariants.{Step, Deliver, Evict, Migrate}
use Rattle.law_runs_whole.specs.Below.server_model.Servers.{Sent, Server}
use Rattle.law_runs_whole.specs.Below.server_model.Work.{Work, Hand, Site, then_some, thread_in, without_thread, look_object, note, working, with_partition, with_cache, with_phase, with_mutexes, with_tasks}
use Rattle.law_runs_whole.specs.Below.server_model.Places.{Spot, in_slot, value_at}
use Rattle.law_runs_whole.specs.Below.server_model.Prepare.{Access, ReadTo, ReadPointer, WriteTo, LendTo, EndRef, Prepared, ready, requested, nothing, passing, write_stars}
use Rattle.law_runs_whole.specs.Below.server_model.Drop.{give_up}
use Rattle.law_runs_whole.specs.Below.server_model.Objects.{deliver_fetch, waits_for_cell, filled, deliver_fetched, deliver_move, chased, waits_under, arrived_at, arrived_slot, passed_spot, arrived_write, arrived_lend, arrived_end, arrived, instr_access, deliver_moved, deliver_drop}
use Rattle.law_runs_whole.specs.Below.server_model.Sharing.{given, answer_lock, deliver_lock, waits_for_lock, deliver_granted, answer_back, deliver_unlock, deliver_dup, waits_for_dup, deliver_dupped, give_up_left}
use Rattle.law_runs_whole.specs.Below.server_model.Joining.{stand, answer, answer_join, deliver_join, waits_for_join, deliver_joined, got_par, pair_over, end_answer, deliver_finished}
use Rattle.law_runs_whole.specs.Below.server_model.Moving.{migrate}
use Rattle.law_runs_whole.specs.Below.server_model.Events.{begin_work, begin_at, left_by, release, deliver_message, evict_copy, step_in, stepped, does}
use Rattle.law_runs_rounds.proofs.rounds.Chains.{map_by, then_by, map_same, then_same, if_same, if_either}
use Rattle.law_runs_rounds.proofs.rounds.Behind.{rest_behind, work_behind, hand_behind, site_behind, word_behind, sends, beside, at, uses_once, places_it, value_same, points, gives_up}
use Rattle.law_runs_rounds.proofs.rounds.BehindPlaces.{prepared_behind, writes}
use Rattle.law_runs_rounds.proofs.rounds.BehindSteps.{stepped_behind, steps_in}

-- what a message that was taken out does
abbrev pub brought : List Instr → Message → Server → Option (Server × EntryView)
brought code m s = option_map (left_by s.events None None) (deliver_message code m (begin_at s))

-- whether the event is the delivery of a message
abbrev pub delivers : What → Bool
delivers (Deliver i) = true
delivers w = false

module _ (ms : List Message) (xs : List Sent) where
  abbrev behind : Hand → Hand
  behind h = hand_behind ms xs h

  abbrev worked : Work → Work
  worked w = work_behind ms xs w

  abbrev stood : Site → Site
  stood x = site_behind ms xs x

  abbrev Alike : (Hand → Option Hand) → Hand → Type 0
  Alike f h = f (behind h) ≡ option_map behind (f h)

  abbrev Works : (Work → Option Work) → Work → Type 0
  Works f w = f (worked w) ≡ option_map worked (f w)

  -- OBJECTS

  fetches : (v : ℕ) (b : ObjNo) (s t : ℕ) (w : Work) → Works (deliver_fetch v b s t) w
  fetches v b s t w = map_same worked (look_object w.rest.partition v b) _ _ (λ c. sends ms xs s (message.Fetched v c t) (note (act.Serve b v s) w))

  moves : (v : ℕ) (b : ObjNo) (s t : ℕ) (w : Work) → Works (deliver_move v b s t) w
  moves v b s t w = map_same worked (look_object w.rest.partition v b) _ _ (λ c. sends ms xs s (message.Moved v c t) (note (act.Give b v s) (with_partition (freed w.rest.partition v) w)))

  drops : (v : ℕ) (b : ObjNo) (w : Work) → Works (deliver_drop v b) w
  drops v b w = map_same worked (look_object w.rest.partition v b) _ _ (λ c. gives_up ms xs c.value (note (act.Free b v) (with_partition (freed w.rest.partition v) w)))

  fills : (v : ℕ) (c : Cell) (h : Hand) → Alike (filled v c) h
  fills v c h = if_same behind (can_fill h.work.rest.cache v c) _ _ (uses_once ms xs v (is_in v h.thread.walk) (working (with_cache (fill h.work.rest.cache v c)) h))

  comes_as_copy : (v : ℕ) (c : Cell) (h : Hand) → Alike (deliver_fetched v c) h
  comes_as_copy v c h =
      let got = λ (h2 : Hand). with_phase phase.Got (working (note (act.Fill c.object v)) h2) in
      if_same behind (waits_for_cell h.thread.phase v) _ _ (map_by behind behind _ _ got got (fills v c h) (λ h2. refl))

  comes_at : (s : Spot) (new : ℕ) (h : Hand) → Alike (arrived_at s new) h
  comes_at s new h = map_by behind behind _ _ (with_phase phase.Got) (with_phase phase.Got) (points ms xs s new h) (λ h2. refl)

  comes_slot : (old new i : ℕ) (h : Hand) → Alike (arrived_slot old new i) h
  comes_slot old new i h = if_same behind (waits_under old (slice_get h.thread.slots i)) _ _ (comes_at (in_slot i) new h)

  passes : (p2 p : Prepared) → p2 ≡ prepared_behind ms xs p → passed_spot p2 ≡ passed_spot p
  passes p2 p e = ap passed_spot e ∙ by p
    where
      by : (p : Prepared) → passed_spot (prepared_behind ms xs p) ≡ passed_spot p
      by (ready h s) = refl
      by (requested h) = refl
      by nothing = refl

  comes_write : (w : Lval) (new : ℕ) (h : Hand) → Alike (arrived_write w new) h
  comes_write w new h =
      ap (λ o. then_some o (λ s. arrived_at s new (passing (h.thread.passed + 1) (behind h)))) (passes (write_stars h.thread.passed 0 (behind h) (in_slot w.slot)) (write_stars h.thread.passed 0 h (in_slot w.slot)) (writes ms xs h.thread.passed 0 h (in_slot w.slot)))
      ∙ then_same behind (passed_spot (write_stars h.thread.passed 0 h (in_slot w.slot))) _ _ (λ s. comes_at s new (passing (h.thread.passed + 1) h))

  comes_lend : (slot d old new : ℕ) (h : Hand) → Alike (arrived_lend slot d old new) h
  comes_lend slot zero old new h = refl
  comes_lend slot (suc zero) old new h = refl
  comes_lend slot (suc (suc d)) old new h =
      let s = in_slot (chased d h.thread.slots slot) in
      if_either (option_map behind) (waits_under old (slice_get h.thread.slots (chased d h.thread.slots slot))) (arrived_at s new h) (Some (with_phase (phase.Taken new) h)) (arrived_at s new (behind h)) (Some (with_phase (phase.Taken new) (behind h)))
      (comes_at s new h) refl

  comes_end : (s : Spot) (v : Option Value) (old new : ℕ) (h : Hand) → Alike (arrived_end s v old new) h
  comes_end s (Some (value.Mut q)) old new h =
      if_either (option_map behind) (q.word == old) (arrived_at s new h) (arrived_write q.holder new h) (arrived_at s new (behind h)) (arrived_write q.holder new (behind h)) (comes_at s new h) (comes_write q.holder new h)
  comes_end s None old new h = refl
  comes_end s (Some _) old new h = refl

  comes_for : (x : Option Access) (old new : ℕ) (h : Hand) → Alike (arrived x old new) h
  comes_for None old new h = refl
  comes_for (Some (ReadTo w)) old new h = comes_slot old new (chased (w.depth - 1) h.thread.slots w.slot) h
  comes_for (Some (ReadPointer w)) old new h = comes_slot old new (chased (w.depth - 1) h.thread.slots w.slot) h
  comes_for (Some (WriteTo w)) old new h = comes_write w new h
  comes_for (Some (LendTo w)) old new h = comes_lend w.slot w.depth old new h
  comes_for (Some (EndRef s)) old new h = ap (λ o. arrived_end s o old new (behind h)) (value_same ms xs h s) ∙ comes_end s (value_at h s) old new h

  access_same : (h : Hand) (o : Option Instr) → instr_access (behind h) o ≡ instr_access h o
  access_same h None = refl
  access_same h (Some i) = refl

  comes : (code : List Instr) (old : ℕ) (c : Cell) (h : Hand) → Alike (deliver_moved code old c) h
  comes code old c h =
      if_same behind (waits_for_cell h.thread.phase old) _ _
      (then_by (word_behind ms xs) behind _ _ (λ n. arrived (instr_access h (slice_get code h.thread.pc)) old n.word (record h { work = n.work })) (λ n. arrived (instr_access (behind h) (slice_get code h.thread.pc)) old n.word (record (behind h) { work = n.work }))
      (places_it ms xs (act.Take c.object old) c h.work)
      (λ n. ap (λ x. arrived x old n.word (behind (record h { work = n.work }))) (access_same h (slice_get code h.thread.pc)) ∙ comes_for (instr_access h (slice_get code h.thread.pc)) old n.word (record h { work = n.work })))

  -- MUTEXES

  gives_it : (v : Owned) (g : Option Owned) (h : Hand) → Alike (given v g) h
  gives_it v None h = refl
  gives_it v (Some u) h = refl

  left_over : (o : Option Owned) (w : Work) → give_up_left o (worked w) ≡ worked (give_up_left o w)
  left_over None w = refl
  left_over (Some v) w = gives_up ms xs v w

  locks : (m : MutexNo) (s t : ℕ) (w : Work) → Works (deliver_lock m s t) w
  locks m s t w = map_same worked (ask w.rest.mutexes m s t) _ _ (λ p. by p.0 p.1)
    where
      by : (n : Mutexes) (x : Asked) → answer_lock m s t x (with_mutexes n (worked w)) ≡ worked (answer_lock m s t x (with_mutexes n w))
      by n asked.Queued = refl
      by n (asked.Granted v) = sends ms xs s (message.Granted m v t) (note (act.Grant m t s) (with_mutexes n w))

  unlocks : (m : MutexNo) (v : Owned) (w : Work) → Works (deliver_unlock m v) w
  unlocks m v w = map_same worked (give_back w.rest.mutexes m v) _ _ (λ p. by p.0 p.1)
    where
      by : (n : Mutexes) (b : Back) → answer_back m b (with_mutexes n (worked w)) ≡ worked (answer_back m b (with_mutexes n w))
      by n (back.Next s t u) = sends ms xs s (message.Granted m u t) (note (act.Grant m t s) (with_mutexes n w))
      by n (back.Ended u) = gives_up ms xs u (with_mutexes n w)
      by n back.Kept = refl

  dups : (m : MutexNo) (s t : ℕ) (w : Work) → Works (deliver_dup m s t) w
  dups m s t w = map_same worked (more w.rest.mutexes m) _ _ (λ n. sends ms xs s (message.Dupped m t) (note (act.Dupped m t s) (with_mutexes n w)))

  -- THREADS

  joins : (u s by_thread : ℕ) (w : Work) → Works (deliver_join u s by_thread) w
  joins u s by_thread w = map_same worked (tasks.ask w.rest.tasks u s by_thread) _ _ (λ p. of p.0 p.1)
    where
      of : (ts : List Task) (x : Option Owned) → answer_join u s by_thread x (with_tasks ts (worked w)) ≡ worked (answer_join u s by_thread x (with_tasks ts w))
      of ts None = refl
      of ts (Some v) = sends ms xs s (message.Joined u v by_thread) (note (act.Answer u by_thread s) (with_tasks ts w))

  releases : (x : Released) (w : Work) → Works (release x) w
  releases (released.Mutex m) w = map_same worked (less w.rest.mutexes m) _ _ (λ p. left_over p.1 (with_mutexes p.0 w))
  releases (released.Task u) w = map_same worked (let_go_of w.rest.tasks u) _ _ (λ p. left_over p.1 (with_tasks p.0 w))

  goes_on : (u : ℕ) (h : Hand) → Alike (pair_over u) h
  goes_on u h = map_same behind (got_par u h.thread.phase) _ _ (λ p. refl)

  stands : (o : Option ThreadState) (t : ThreadState) (x : Site) → stand o t (stood x) ≡ option_map stood (stand o t x)
  stands None t x = refl
  stands (Some y) t x = refl

  finishes : (u : ℕ) (v : Owned) (x : Site) → deliver_finished u v (stood x) ≡ option_map stood (deliver_finished u v x)
  finishes u v x = then_same stood (ended x.work.rest.tasks u v) _ _ (λ p. by p.0 p.1)
    where
      by : (ts : List Task) (e : EndedAs) → end_answer u e (record (stood x) { work = with_tasks ts (worked x.work) }) ≡ option_map stood (end_answer u e (record x { work = with_tasks ts x.work }))
      by ts (over.Answer s t b) = beside ms xs (λ w. Some (answer u s t b w)) (record x { work = with_tasks ts x.work }) (ap Some (sends ms xs s (message.Joined u b t) (note (act.Answer u t s) (with_tasks ts x.work))))
      by ts (over.Both parent) = at ms xs parent (pair_over u) (record x { work = with_tasks ts x.work }) (goes_on u)
      by ts (over.LetGo b) = beside ms xs (λ w. Some (give_up b w)) (record x { work = with_tasks ts x.work }) (ap Some (gives_up ms xs b (with_tasks ts x.work)))
      by ts over.Kept = refl

  -- ALL MESSAGES

  messages : (code : List Instr) (m : Message) (x : Site) → deliver_message code m (stood x) ≡ option_map stood (deliver_message code m x)
  messages code (message.Fetch w o s t) x = beside ms xs (deliver_fetch w o s t) x (fetches w o s t x.work)
  messages code (message.Fetched w c t) x = at ms xs t (deliver_fetched w c) x (comes_as_copy w c)
  messages code (message.Move w o s t) x = beside ms xs (deliver_move w o s t) x (moves w o s t x.work)
  messages code (message.Moved w c t) x = at ms xs t (deliver_moved code w c) x (comes code w c)
  messages code (message.Drop w o) x = beside ms xs (deliver_drop w o) x (drops w o x.work)
  messages code (message.Lock m s t) x = beside ms xs (deliver_lock m s t) x (locks m s t x.work)
  messages code (message.Granted m v t) x = at ms xs t (deliver_granted m v) x (λ h. if_same behind (waits_for_lock h.thread.phase m) _ _ (gives_it v h.thread.gift h))
  messages code (message.Unlock m v) x = beside ms xs (deliver_unlock m v) x (unlocks m v x.work)
  messages code (message.Dup m s t) x = beside ms xs (deliver_dup m s t) x (dups m s t x.work)
  messages code (message.Dupped m t) x = at ms xs t (deliver_dupped m) x (λ h. if_same behind (waits_for_dup h.thread.phase m) _ _ (gives_it (owned.Mutex m) h.thread.gift h))
  messages code (message.Release m) x = beside ms xs (release m) x (releases m x.work)
  messages code (message.Start t) x = stands (thread_in x.threads t.number) t x
  messages code (message.Join u s t) x = beside ms xs (deliver_join u s t) x (joins u s t x.work)
  messages code (message.Joined u v t) x = at ms xs t (deliver_joined u v) x (λ h. if_same behind (waits_for_join h.thread.phase u) _ _ (gives_it v h.thread.gift h))
  messages code (message.Finished u v) x = finishes u v x
  messages code (message.Migrate t) x = stands (thread_in x.threads t.number) t x

  -- ALL EVENTS

  abbrev pub server_behind : Server → Server
  server_behind s = record s { rest = rest_behind ms xs s.rest }

  abbrev pub done_behind : Server × EntryView → Server × EntryView
  done_behind d = (server_behind d.0, d.1)

  steps : (code : List Instr) (o : Options) (t : ℕ) (s : Server) → does code o (server_behind s) (Step t) ≡ option_map done_behind (does code o s (Step t))
  steps code o t s =
      map_by (stepped_behind ms xs o.servers) done_behind _ _ (stepped s) (stepped (server_behind s))
      (then_by behind (stepped_behind ms xs o.servers) _ _ (step_in code o.servers) (step_in code o.servers) (taken_in_hand (thread_in s.threads t)) (steps_in ms xs o.servers code)) (λ d. refl)
    where
      taken_in_hand : (y : Option ThreadState) → option_map (λ x. record { work = begin_work (rest_behind ms xs s.rest); thread = x }) y ≡ option_map behind (option_map (λ x. record { work = begin_work s.rest; thread = x }) y)
      taken_in_hand None = refl
      taken_in_hand (Some y) = refl

  evicts : (code : List Instr) (o : Options) (w : ℕ) (s : Server) → does code o (server_behind s) (Evict w) ≡ option_map done_behind (does code o s (Evict w))
  evicts code o w s =
      map_by stood done_behind _ _ (left_by s.events None None) (left_by s.events None None) (beside ms xs (evict_copy w) (begin_at s) (if_same worked (can_evict s.rest.cache w) _ _ refl)) (λ x. refl)

  leaves : (code : List Instr) (o : Options) (t target : ℕ) (s : Server) → does code o (server_behind s) (Migrate t target) ≡ option_map done_behind (does code o s (Migrate t target))
  leaves code o t target s =
      map_by stood done_behind (migrate t target (begin_at (server_behind s))) (migrate t target (begin_at s)) (left_by s.events (Some t) None) (left_by s.events (Some t) None)
      (then_same stood (thread_in s.threads t) _ _ (λ y. map_same stood (pack_thread (record y { moved_since_step = true }) s.rest.cache) _ _
      (λ p. ap (λ w. record (begin_at s) { work = w; threads = without_thread s.threads t }) (sends ms xs target (message.Migrate p.0) (note (act.Depart p.0.number target) (with_cache p.1 (begin_work s.rest))))))) (λ x. refl)

  pub brings : (code : List Instr) (m : Message) (s : Server) → brought code m (server_behind s) ≡ option_map done_behind (brought code m s)
  brings code m s = map_by stood done_behind _ _ (left_by s.events None None) (left_by s.events None None) (messages code m (begin_at s)) (λ x. refl)

  -- an event that delivers no message
  pub others : (code : List Instr) (o : Options) (w : What) (s : Server) → delivers w ≡ false → does code o (server_behind s) w ≡ option_map done_behind (does code o s w)
  others code o (Step t) s e = steps code o t s
  others code o (Evict w) s e = evicts code o w s
  others code o (Migrate t target) s e = leaves code o t target s
  others code o (Deliver i) s e = absurd (cc e)
