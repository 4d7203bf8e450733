-- What each message of an event says by itself, whatever its server has.
use Rattle.std.proofs.Common.{◌≡◌, ◌⊎◌, inl, inr, ℕ, zero, suc, ◌+◌, ◌-◌, ◌==◌, Bool, true, false, if◌then◌else◌, List, [], ◌∷◌, ◌++◌, Option, Some, None, refl, sym, ap, subst, ◌∙◌, append_assoc}
use Rattle.std.specs.Prelude.{slice_get, option_map}
use Rattle.std.specs.List.{AllByRecursion}
use Rattle.law_counts_sums.specs.Below.fr_base.Lists.{is_in}
use Rattle.law_counts_sums.specs.Below.fr_base.declared.name.MutexNo.{MutexNo}
use Rattle.law_counts_sums.specs.Below.fr_base.declared.name.ObjNo.{ObjNo}
use Rattle.law_counts_sums.specs.Below.fr_base.declared.place.Lval.{Lval}
use Rattle.law_counts_sums.specs.Below.fr_base.declared.instruction.Instr.{Instr}
use Rattle.law_counts_sums.specs.Below.fr_base.declared.instruction.Instr.TheVariants as instr
use Rattle.law_counts_sums.specs.Below.fr_base.declared.instruction.Operand.{Operand}
use Rattle.law_counts_sums.specs.Below.fr_base.declared.release.Released.{Released}
use Rattle.law_counts_sums.specs.Below.fr_base.declared.release.Released.TheVariants as released
use Rattle.law_counts_sums.specs.Below.global_addr.Words.{server_of}
use Rattle.law_counts_sums.specs.Below.heap_partition.declared.value.BoxPtr.{BoxPtr}
use Rattle.law_counts_sums.specs.Below.heap_partition.declared.value.Cell.{Cell}
use Rattle.law_counts_sums.specs.Below.heap_partition.declared.value.Owned.{Owned}
use Rattle.law_counts_sums.specs.Below.heap_partition.declared.value.Owned.TheVariants as owned
use Rattle.law_counts_sums.specs.Below.owner_box.Partition.{freed}
use Rattle.law_counts_sums.specs.Below.read_cache.Cache.{can_pin, can_fill}
use Rattle.law_counts_sums.specs.Below.mutex_home.Mutexes.{Mutexes, can_make, ask, give_back, more, less}
use Rattle.law_counts_sums.specs.Below.mutex_home.declared.answers.Asked.{Asked}
use Rattle.law_counts_sums.specs.Below.mutex_home.declared.answers.Asked.TheVariants as asked
use Rattle.law_counts_sums.specs.Below.mutex_home.declared.answers.Back.{Back}
use Rattle.law_counts_sums.specs.Below.mutex_home.declared.answers.Back.TheVariants as back
use Rattle.law_counts_sums.specs.Below.join_home.Tasks.{Task, can_begin, can_begin_pair, ended, let_go_of}
use Rattle.law_counts_sums.specs.Below.join_home.Tasks as tasks
use Rattle.law_counts_sums.specs.Below.join_home.declared.answers.EndedAs.{EndedAs}
use Rattle.law_counts_sums.specs.Below.join_home.declared.answers.EndedAs.TheVariants as over
use Rattle.law_counts_sums.specs.Below.thread_state.View.{ThreadState, new_thread}
use Rattle.law_counts_sums.specs.Below.thread_state.declared.phase.Phase.TheVariants as phase
use Rattle.law_counts_sums.specs.Below.thread_state.declared.value.Value.{Value}
use Rattle.law_counts_sums.specs.Below.thread_state.declared.value.Value.TheVariants as value
use Rattle.law_counts_sums.specs.Below.server_msgs.declared.message.Message.{Message}
use Rattle.law_counts_sums.specs.Below.server_msgs.declared.message.Message.TheVariants as message
use Rattle.law_counts_sums.specs.Below.journal.declared.act.Act.TheVariants as act
use Rattle.law_counts_sums.specs.Below.server_model.Servers.{Sent, Rest}
use Rattle.law_counts_sums.specs.Below.server_model.Work.{Work, Hand, Site, sent_from, send, working, with_phase, with_mutexes, with_tasks, with_partition, then_some, put_back, thread_in, at_thread, beside_threads, look_object, used_once, note}
use Rattle.law_counts_sums.specs.Below.server_model.NewWords.{NewWord, can_grow, issue_placed}
use Rattle.law_counts_sums.specs.Below.server_model.Places.{Spot, in_slot, value_at, set_pointer}
use Rattle.law_counts_sums.specs.Below.server_model.Start.{next_thread, server_for, start_thread, capture}
use Rattle.law_counts_sums.specs.Below.server_model.Drop.{home_of, give_up}
use Rattle.law_counts_sums.specs.Below.server_model.Commit.{go_on, next_object, push_box, begun, pair_begun, spawn_with, end_with, label_dropped}
use Rattle.law_counts_sums.specs.Below.server_model.Prepare.{Access, ReadTo, ReadPointer, WriteTo, LendTo, EndRef, passing, write_stars}
use Rattle.law_counts_sums.specs.Below.server_model.Objects.{deliver_fetch, waits_for_cell, filled, deliver_fetched, deliver_move, chased, waits_under, arrived_at, arrived_slot, passed_spot, arrived_write, arrived_lend, arrived_end, arrived, instr_access, deliver_moved, deliver_drop}
use Rattle.law_counts_sums.specs.Below.server_model.Sharing.{given, answer_lock, deliver_lock, waits_for_lock, deliver_granted, answer_back, deliver_unlock, deliver_dup, waits_for_dup, deliver_dupped, give_up_left}
use Rattle.law_counts_sums.specs.Below.server_model.Joining.{answer_join, deliver_join, waits_for_join, deliver_joined, got_par, pair_over, end_answer, deliver_finished}
use Rattle.law_counts_sums.specs.Below.server_model.Events.{release, deliver_message, step}
use Rattle.law_counts_sums.proofs.Below.coherent_memory.Names.{same_number}
use Rattle.law_counts_sums.specs.Laws.{Gives}
use Rattle.law_counts_sums.proofs.Results.{then_gives, map_gives, over_gives, bind_gives, test_gives, stand_gives}
use Rattle.law_counts_sums.proofs.Known.{all_append}
use Rattle.law_counts_sums.proofs.KnownPlaces.{Told, pointer_keeps}
use Rattle.law_counts_things.proofs.things.Small.{Of, Places, Small, Passes}
use Rattle.law_counts_things.proofs.things.Plainly.{Settles, moves_by, Acts, EndsStep, steps}
use Rattle.law_counts_things.proofs.things.Goes.{puts_by, Any, AnyWord}

-- the messages that wait and that leave each are as they should be, at the server that they go to, and those that leave come behind older ones
pub record Mail (M : ℕ → Message → Type 0) (n : ℕ) (old : List Sent) (number : ℕ) (inbox : List Message) (outbox : List Sent) : Type 0 where
  pub numbered : number ≡ n
  pub waiting : AllByRecursion (M n) inbox
  pub leaving : AllByRecursion (λ (x : Sent). M x.target x.message) outbox
  pub more : List Sent
  pub appended : outbox ≡ old ++ more

abbrev pub Mailed : (ℕ → Message → Type 0) → ℕ → List Sent → Rest → Type 0
Mailed M n old r = Mail M n old r.number r.inbox r.outbox

-- one message more
pub mail_sent : (M : ℕ → Message → Type 0) (n : ℕ) (old : List Sent) (r : Rest) (t : ℕ) (m : Message) → M t m → Mailed M n old r → Mailed M n old (sent_from r t m)
mail_sent M n old r t m a g = by (t == r.number) refl
  where
    by : (b : Bool) → (t == r.number) ≡ b → Mailed M n old (if b then record r { inbox = r.inbox ++ m ∷ [] } else record r { outbox = r.outbox ++ record { target = t; message = m } ∷ [] })
    by true e = record {
      numbered = g.numbered;
      waiting = all_append (M n) r.inbox (m ∷ []) g.waiting (subst (λ x. M x m) (same_number t r.number e ∙ g.numbered) a, tt);
      leaving = g.leaving;
      more = g.more;
      appended = g.appended;
    }
    by false e = record {
      numbered = g.numbered;
      waiting = g.waiting;
      leaving = all_append (λ (x : Sent). M x.target x.message) r.outbox (record { target = t; message = m } ∷ []) g.leaving (a, tt);
      more = g.more ++ record { target = t; message = m } ∷ [];
      appended = ap (λ l. l ++ record { target = t; message = m } ∷ []) g.appended ∙ append_assoc old g.more (record { target = t; message = m } ∷ []);
    }

-- what is said at server n in answer to messages, and where something is let go, is as it should be
pub record Replies (M : ℕ → Message → Type 0) : Type 0 where
  pub fetched : (s w : ℕ) (c : Cell) (t : ℕ) → M s (message.Fetched w c t)
  pub moved : (s w : ℕ) (c : Cell) (t : ℕ) → M s (message.Moved w c t)
  pub granted : (s : ℕ) (m : MutexNo) (v : Owned) (t : ℕ) → M s (message.Granted m v t)
  pub dupped : (s : ℕ) (m : MutexNo) (t : ℕ) → M s (message.Dupped m t)
  pub joined : (s u : ℕ) (v : Owned) (t : ℕ) → M s (message.Joined u v t)
  pub drop : (w : ℕ) (o : ObjNo) → M (server_of w) (message.Drop w o)
  pub release : (m : MutexNo) → M m.home (message.Release (released.Mutex m))
  pub let_go : (u : ℕ) → M (home_of u) (message.Release (released.Task u))

-- so is what a thread says in a step of that instruction there, that has a home
pub record Requests (M : ℕ → Message → Type 0) (n : ℕ) (y : ThreadState) (i : Instr) : Type 0 where
  pub replies : Replies M
  pub fetch : (p : BoxPtr) → (server_of p.word == n) ≡ false → M (server_of p.word) (message.Fetch p.word p.object n y.number)
  pub move : (p : BoxPtr) → (server_of p.word == n) ≡ false → M (server_of p.word) (message.Move p.word p.object n y.number)
  pub lock : (m : MutexNo) → M m.home (message.Lock m n y.number)
  pub dup : (m : MutexNo) → M m.home (message.Dup m n y.number)
  pub unlock : (m : MutexNo) (v : Owned) → M m.home (message.Unlock m v)
  pub join : (u : ℕ) → M (home_of u) (message.Join u n y.number)
  pub finished : (o : Operand) → i ≡ instr.End o → (v : Owned) → M y.home (message.Finished y.number v)

-- the code at which an instruction starts a thread
abbrev pub StartsAt : Instr → ℕ → Type 0
StartsAt (instr.Spawn cs pc) p = p ≡ pc
StartsAt (instr.Par cs pc ds other) p = (p ≡ pc) ⊎ (p ≡ other)
StartsAt i p = ⊥

-- and what starts a thread, once one more was started there, or none
abbrev pub Begins : (ℕ → Message → Type 0) → ℕ → Rest → Instr → Type 0
Begins M servers r0 i = (pc : ℕ) (vs : List Value) (r : Rest) → StartsAt i pc → r.number ≡ r0.number → (r.started ≡ r0.started) ⊎ (r.started ≡ r0.started + 1) → M (server_for servers r) (message.Start (new_thread (next_thread r) pc vs))

-- values that a thread captured from some slots
abbrev pub AreCaptured : List Value → Type 0
AreCaptured vs = (branch : Bool) × (cs : List (ℕ × Bool)) × (slots : List Value) × (left : List Value) × (capture branch cs slots ≡ Some (vs, left))

-- the same, where the slots of what starts were captured
abbrev pub BeginsBy : (ℕ → Message → Type 0) → ℕ → Rest → Instr → Type 0
BeginsBy M servers r0 i =
    (pc : ℕ) (vs : List Value) (r : Rest) → StartsAt i pc → AreCaptured vs → r.number ≡ r0.number → (r.started ≡ r0.started) ⊎ (r.started ≡ r0.started + 1) → M (server_for servers r) (message.Start (new_thread (next_thread r) pc vs))

module _ (M : ℕ → Message → Type 0) (n : ℕ) (old : List Sent) (k : Replies M) where
  abbrev pub Well : Rest → Type 0
  Well = Mailed M n old

  says : (t : ℕ) (m : Message) (r : Rest) → M t m → Well r → Well (sent_from r t m)
  says t m r a g = mail_sent M n old r t m a g

  pub gives_up : (v : Owned) (w : Work) → Well w.rest → Well (give_up v w).rest
  gives_up (owned.Box p) w g = says (server_of p.word) (message.Drop p.word p.object) w.rest (k.drop p.word p.object) g
  gives_up (owned.Mutex m) w g = says m.home (message.Release (released.Mutex m)) w.rest (k.release m) g
  gives_up (owned.Task t) w g = says (home_of t) (message.Release (released.Task t)) w.rest (k.let_go t) g
  gives_up owned.Nothing w g = g
  gives_up owned.Unit w g = g
  gives_up (owned.Int m) w g = g

  abbrev WellWork : Work → Type 0
  WellWork w = Well w.rest

  abbrev WellHand : Hand → Type 0
  WellHand h = Well h.work.rest

  abbrev pub WellSite : Site → Type 0
  WellSite x = Well x.work.rest

  beside : (f : Work → Option Work) (x : Site) → Gives WellWork (f x.work) → Gives WellSite (beside_threads f x)
  beside f x g = over_gives WellWork WellSite (f x.work) (λ w. record x { work = w }) g (λ w a. a)

  at : (t : ℕ) (f : Hand → Option Hand) (x : Site) → ((y : ThreadState) → Gives WellHand (f (record { work = x.work; thread = y }))) → Gives WellSite (at_thread t f x)
  at t f x go = by (thread_in x.threads t)
    where
      by : (o : Option ThreadState) → Gives WellSite (then_some (option_map (λ y. record { work = x.work; thread = y }) o) (λ h. option_map (put_back x.threads) (f h)))
      by None = tt
      by (Some y) = over_gives WellHand WellSite (f (record { work = x.work; thread = y })) (put_back x.threads) (go y) (λ h a. a)

  -- OBJECTS

  abbrev told : Told
  told p t g pc m i o ms ts c = Mail M n old m i o

  pointer_well : (s : Spot) (w : ℕ) (h : Hand) → WellHand h → Gives WellHand (set_pointer s w h)
  pointer_well s w h a = pointer_keeps told s w h a

  fetches : (v : ℕ) (b : ObjNo) (s t : ℕ) (w : Work) → WellWork w → Gives WellWork (deliver_fetch v b s t w)
  fetches v b s t w a = map_gives WellWork (look_object w.rest.partition v b) _ (λ c q. says s (message.Fetched v c t) w.rest (k.fetched s v c t) a)

  moves : (v : ℕ) (b : ObjNo) (s t : ℕ) (w : Work) → WellWork w → Gives WellWork (deliver_move v b s t w)
  moves v b s t w a = map_gives WellWork (look_object w.rest.partition v b) _ (λ c q. says s (message.Moved v c t) (record w.rest { partition = freed w.rest.partition v }) (k.moved s v c t) a)

  drops : (v : ℕ) (b : ObjNo) (w : Work) → WellWork w → Gives WellWork (deliver_drop v b w)
  drops v b w a = map_gives WellWork (look_object w.rest.partition v b) _ (λ c q. gives_up c.value (note (act.Free b v) (with_partition (freed w.rest.partition v) w)) a)

  uses_it : (v : ℕ) (b : Bool) (h : Hand) → WellHand h → Gives WellHand (used_once v b h)
  uses_it v true h a = a
  uses_it v false h a = test_gives WellHand (can_pin h.work.rest.cache v) _ (λ z. a)

  fills : (v : ℕ) (c : Cell) (h : Hand) → WellHand h → Gives WellHand (deliver_fetched v c h)
  fills v c h a =
      test_gives WellHand (waits_for_cell h.thread.phase v) _ (λ z. over_gives WellHand WellHand (filled v c h) _
      (test_gives WellHand (can_fill h.work.rest.cache v c) _ (λ p. uses_it v (is_in v h.thread.walk) _ a)) (λ h2 b. b))

  comes_at : (new : ℕ) (s : Spot) (h : Hand) → WellHand h → Gives WellHand (arrived_at s new h)
  comes_at new s h a = over_gives WellHand WellHand (set_pointer s new h) _ (pointer_well s new h a) (λ h2 b. b)

  comes_slot : (old new i : ℕ) (h : Hand) → WellHand h → Gives WellHand (arrived_slot old new i h)
  comes_slot old new i h a = test_gives WellHand (waits_under old (slice_get h.thread.slots i)) _ (λ z. comes_at new (in_slot i) h a)

  comes_write : (w : Lval) (new : ℕ) (h : Hand) → WellHand h → Gives WellHand (arrived_write w new h)
  comes_write w new h a = then_gives WellHand (passed_spot (write_stars h.thread.passed 0 h (in_slot w.slot))) _ (λ s q. comes_at new s (passing (h.thread.passed + 1) h) a)

  comes_lend : (slot d old new : ℕ) (h : Hand) → WellHand h → Gives WellHand (arrived_lend slot d old new h)
  comes_lend slot zero old new h a = tt
  comes_lend slot (suc zero) old new h a = a
  comes_lend slot (suc (suc d)) old new h a = by (waits_under old (slice_get h.thread.slots (chased d h.thread.slots slot)))
    where
      by : (b : Bool) → Gives WellHand (if b then arrived_at (in_slot (chased d h.thread.slots slot)) new h else Some (with_phase (phase.Taken new) h))
      by true = comes_at new (in_slot (chased d h.thread.slots slot)) h a
      by false = a

  comes_end : (s : Spot) (v : Option Value) (old new : ℕ) (h : Hand) → WellHand h → Gives WellHand (arrived_end s v old new h)
  comes_end s (Some (value.Mut q)) old new h a = by (q.word == old)
    where
      by : (b : Bool) → Gives WellHand (if b then arrived_at s new h else arrived_write q.holder new h)
      by true = comes_at new s h a
      by false = comes_write q.holder new h a
  comes_end s _ old new h a = tt

  comes_for : (x : Option Access) (old new : ℕ) (h : Hand) → WellHand h → Gives WellHand (arrived x old new h)
  comes_for None old new h a = tt
  comes_for (Some (ReadTo w)) old new h a = comes_slot old new (chased (w.depth - 1) h.thread.slots w.slot) h a
  comes_for (Some (ReadPointer w)) old new h a = comes_slot old new (chased (w.depth - 1) h.thread.slots w.slot) h a
  comes_for (Some (WriteTo w)) old new h a = comes_write w new h a
  comes_for (Some (LendTo w)) old new h a = comes_lend w.slot w.depth old new h a
  comes_for (Some (EndRef s)) old new h a = comes_end s (value_at h s) old new h a

  comes : (code : List Instr) (old : ℕ) (c : Cell) (h : Hand) → WellHand h → Gives WellHand (deliver_moved code old c h)
  comes code old c h a =
      test_gives WellHand (waits_for_cell h.thread.phase old) _ (λ z. bind_gives (λ (m : NewWord). WellWork m.work) WellHand (issue_placed (act.Take c.object old) c h.work) _
      (test_gives (λ (m : NewWord). WellWork m.work) (can_grow h.work.rest.partition) _ (λ p. a)) (λ m b. comes_for (instr_access h (slice_get code h.thread.pc)) old m.word (record h { work = m.work }) b))

  -- MUTEXES

  gives_it : (v : Owned) (g : Option Owned) (h : Hand) → WellHand h → Gives WellHand (given v g h)
  gives_it v None h a = a
  gives_it v (Some u) h a = tt

  left_over : (o : Option Owned) (w : Work) → WellWork w → WellWork (give_up_left o w)
  left_over None w a = a
  left_over (Some v) w a = gives_up v w a

  locks : (m : MutexNo) (s t : ℕ) (w : Work) → WellWork w → Gives WellWork (deliver_lock m s t w)
  locks m s t w a = map_gives WellWork (ask w.rest.mutexes m s t) _ (λ p q. by p.0 p.1)
    where
      by : (ms : Mutexes) (x : Asked) → WellWork (answer_lock m s t x (with_mutexes ms w))
      by ms asked.Queued = a
      by ms (asked.Granted v) = says s (message.Granted m v t) (record w.rest { mutexes = ms }) (k.granted s m v t) a

  unlocks : (m : MutexNo) (v : Owned) (w : Work) → WellWork w → Gives WellWork (deliver_unlock m v w)
  unlocks m v w a = map_gives WellWork (give_back w.rest.mutexes m v) _ (λ p q. by p.0 p.1)
    where
      by : (ms : Mutexes) (b : Back) → WellWork (answer_back m b (with_mutexes ms w))
      by ms (back.Next s t u) = says s (message.Granted m u t) (record w.rest { mutexes = ms }) (k.granted s m u t) a
      by ms (back.Ended u) = gives_up u (with_mutexes ms w) a
      by ms back.Kept = a

  dups : (m : MutexNo) (s t : ℕ) (w : Work) → WellWork w → Gives WellWork (deliver_dup m s t w)
  dups m s t w a = map_gives WellWork (more w.rest.mutexes m) _ (λ ms q. says s (message.Dupped m t) (record w.rest { mutexes = ms }) (k.dupped s m t) a)

  -- THREADS

  joins : (u s by_thread : ℕ) (w : Work) → WellWork w → Gives WellWork (deliver_join u s by_thread w)
  joins u s by_thread w a = map_gives WellWork (tasks.ask w.rest.tasks u s by_thread) _ (λ p q. of p.0 p.1)
    where
      of : (ts : List Task) (x : Option Owned) → WellWork (answer_join u s by_thread x (with_tasks ts w))
      of ts None = a
      of ts (Some v) = says s (message.Joined u v by_thread) (record w.rest { tasks = ts }) (k.joined s u v by_thread) a

  releases : (x : Released) (w : Work) → WellWork w → Gives WellWork (release x w)
  releases (released.Mutex m) w a = map_gives WellWork (less w.rest.mutexes m) _ (λ p q. left_over p.1 (with_mutexes p.0 w) a)
  releases (released.Task u) w a = map_gives WellWork (let_go_of w.rest.tasks u) _ (λ p q. left_over p.1 (with_tasks p.0 w) a)

  goes_on : (u : ℕ) (h : Hand) → WellHand h → Gives WellHand (pair_over u h)
  goes_on u h a = map_gives WellHand (got_par u h.thread.phase) _ (λ p q. a)

  finishes : (u : ℕ) (v : Owned) (x : Site) → WellSite x → Gives WellSite (deliver_finished u v x)
  finishes u v x a = then_gives WellSite (ended x.work.rest.tasks u v) _ (λ p q. by p.0 p.1)
    where
      by : (ts : List Task) (e : EndedAs) → Gives WellSite (end_answer u e (record x { work = with_tasks ts x.work }))
      by ts (over.Answer s t b) = says s (message.Joined u b t) (record x.work.rest { tasks = ts }) (k.joined s u b t) a
      by ts (over.Both parent) = at parent (pair_over u) (record x { work = with_tasks ts x.work }) (λ y. goes_on u (record { work = with_tasks ts x.work; thread = y }) a)
      by ts (over.LetGo b) = gives_up b (with_tasks ts x.work) a
      by ts over.Kept = a

  -- ALL MESSAGES

  pub message_says : (code : List Instr) (m : Message) (x : Site) → WellSite x → Gives WellSite (deliver_message code m x)
  message_says code (message.Fetch w o s t) x a = beside (deliver_fetch w o s t) x (fetches w o s t x.work a)
  message_says code (message.Fetched w c t) x a = at t (deliver_fetched w c) x (λ y. fills w c (record { work = x.work; thread = y }) a)
  message_says code (message.Move w o s t) x a = beside (deliver_move w o s t) x (moves w o s t x.work a)
  message_says code (message.Moved w c t) x a = at t (deliver_moved code w c) x (λ y. comes code w c (record { work = x.work; thread = y }) a)
  message_says code (message.Drop w o) x a = beside (deliver_drop w o) x (drops w o x.work a)
  message_says code (message.Lock m s t) x a = beside (deliver_lock m s t) x (locks m s t x.work a)
  message_says code (message.Granted m v t) x a = at t (deliver_granted m v) x (λ y. test_gives WellHand (waits_for_lock y.phase m) _ (λ z. gives_it v y.gift (record { work = x.work; thread = y }) a))
  message_says code (message.Unlock m v) x a = beside (deliver_unlock m v) x (unlocks m v x.work a)
  message_says code (message.Dup m s t) x a = beside (deliver_dup m s t) x (dups m s t x.work a)
  message_says code (message.Dupped m t) x a = at t (deliver_dupped m) x (λ y. test_gives WellHand (waits_for_dup y.phase m) _ (λ z. gives_it (owned.Mutex m) y.gift (record { work = x.work; thread = y }) a))
  message_says code (message.Release m) x a = beside (release m) x (releases m x.work a)
  message_says code (message.Start t) x a = stand_gives WellSite (thread_in x.threads t.number) t x a
  message_says code (message.Join u s t) x a = beside (deliver_join u s t) x (joins u s t x.work a)
  message_says code (message.Joined u v t) x a = at t (deliver_joined u v) x (λ y. test_gives WellHand (waits_for_join y.phase u) _ (λ z. gives_it v y.gift (record { work = x.work; thread = y }) a))
  message_says code (message.Finished u v) x a = finishes u v x a
  message_says code (message.Migrate t) x a = stand_gives WellSite (thread_in x.threads t.number) t x a

-- STEPS

-- the messages so far, and what names its thread and its server, with how many threads that has started
pub record Talk (M : ℕ → Message → Type 0) (r0 : Rest) (y : ThreadState) (number : ℕ) (inbox : List Message) (outbox : List Sent) (started thread home : ℕ) : Type 0 where
  pub mail : Mail M r0.number r0.outbox number inbox outbox
  pub begun : started ≡ r0.started
  pub named : thread ≡ y.number
  pub at_home : home ≡ y.home

module _ (M : ℕ → Message → Type 0) (servers : ℕ) (i : Instr) (r0 : Rest) (y : ThreadState) (k : Requests M r0.number y i) (begins : BeginsBy M servers r0 i) where
  abbrev F : Rest → ThreadState → Type 0
  F r t = Talk M r0 y r.number r.inbox r.outbox r.started t.number t.home

  abbrev E : Rest → ThreadState → Type 0
  E r t = Mailed M r0.number r0.outbox r

  number_here : (r : Rest) (t : ThreadState) → F r t → r.number ≡ r0.number
  number_here r t g = let mail = g.mail in mail.numbered

  says_one : (t : ℕ) (m : Message) (h : Hand) → M t m → Of F h → Mailed M r0.number r0.outbox (sent_from h.work.rest t m)
  says_one t m h a g = mail_sent M r0.number r0.outbox h.work.rest t m a g.mail

  started_same : (r : Rest) (t : ℕ) (m : Message) → (sent_from r t m).started ≡ r.started
  started_same r t m = by (t == r.number)
    where
      by : (b : Bool) → (if b then record r { inbox = r.inbox ++ m ∷ [] } else record r { outbox = r.outbox ++ record { target = t; message = m } ∷ [] }).started ≡ r.started
      by true = refl
      by false = refl

  places : Places F Any AnyWord
  places = record {
    spot = λ s v h g e. tt;
    puts = λ s v h z a g. puts_by F (λ vs r t u. u) (λ vs r t u. u) (λ h2 w x u. u) s v h g;
    worded = λ w v new x a e. tt;
    word_of = λ r a. tt;
    points = λ v p a e. tt;
  }

  -- a request names its thread and its server
  asks_for : (f : ℕ → ℕ → Message) (t : ℕ) (h : Hand) → M t (f r0.number y.number) → Of F h → Mailed M r0.number r0.outbox (sent_from h.work.rest t (f h.work.rest.number h.thread.number))
  asks_for f t h a g =
      let b : M t (f h.work.rest.number y.number) = subst (λ x. M t (f x y.number)) (sym (number_here h.work.rest h.thread g)) a in
      says_one t (f h.work.rest.number h.thread.number) h (subst (λ x. M t (f h.work.rest.number x)) (sym g.named) b) g

  small : Small F E Any AnyWord
  small = record {
    places = places;
    tints = λ p h a g e. tt;
    renews = λ p h a g e. (tt, g);
    pinned = λ r a. tt;
    pins = λ w h e g. g;
    uses = λ w h e g. g;
    asks_copy = λ p h a e g. asks_for (λ s t. message.Fetch p.word p.object s t) (server_of p.word) h (k.fetch p (subst (λ x. (server_of p.word == x) ≡ false) (number_here h.work.rest h.thread g) e)) g;
    asks_object = λ p h a e g. asks_for (λ s t. message.Move p.word p.object s t) (server_of p.word) h (k.move p (subst (λ x. (server_of p.word == x) ≡ false) (number_here h.work.rest h.thread g) e)) g;
  }

  passes : Passes F
  passes m h g = g

  -- a thread starts
  starts : (pc : ℕ) (vs : List Value) (w : Work) → StartsAt i pc → AreCaptured vs → (w.rest.started ≡ r0.started) ⊎ (w.rest.started ≡ r0.started + 1) → Mailed M r0.number r0.outbox w.rest → Mailed M r0.number r0.outbox (start_thread servers pc vs w).rest
  starts pc vs w at c b g = mail_sent M r0.number r0.outbox (record w.rest { started = w.rest.started + 1 }) (server_for servers w.rest) (message.Start (new_thread (next_thread w.rest) pc vs)) (begins pc vs w.rest at c g.numbered b) g

  began : (pc : ℕ) (vs : List Value) (w : Work) → (start_thread servers pc vs w).rest.started ≡ w.rest.started + 1
  began pc vs w = started_same (record w.rest { started = w.rest.started + 1 }) (server_for servers w.rest) (message.Start (new_thread (next_thread w.rest) pc vs))

  says_on : (t : ℕ) (m : Message) (h : Hand) → M t m → Of F h → Of F (working (send t m) h)
  says_on t m h a g = record { mail = says_one t m h a g; begun = started_same h.work.rest t m ∙ g.begun; named = g.named; at_home = g.at_home }

  gives : (v : Owned) (h : Hand) → Of F h → Of F (working (give_up v) h)
  gives (owned.Box p) h g = let r = k.replies in says_on (server_of p.word) (message.Drop p.word p.object) h (r.drop p.word p.object) g
  gives (owned.Mutex m) h g = let r = k.replies in says_on m.home (message.Release (released.Mutex m)) h (r.release m) g
  gives (owned.Task t) h g = let r = k.replies in says_on (home_of t) (message.Release (released.Task t)) h (r.let_go t) g
  gives owned.Nothing h g = g
  gives owned.Unit h g = g
  gives (owned.Int m) h g = g

  over_says : (o : Operand) → i ≡ instr.End o → (main : Bool) (v : Owned) (h : Hand) → Of F h → Gives (λ h2. Settles E (with_phase phase.Over h2)) (end_with main v h)
  over_says o e true v h g = λ cs z. let after = gives v (label_dropped (value.Own v) h) g in after.mail
  over_says o e false v h g = λ cs z.
      let b : M y.home (message.Finished h.thread.number v) = subst (λ x. M y.home (message.Finished x v)) (sym g.named) (k.finished o e v) in
      says_one h.thread.home (message.Finished h.thread.number v) h (subst (λ x. M x (message.Finished h.thread.number v)) (sym g.at_home) b) g

  acts : Acts servers F E Any Any AnyWord i
  acts = record {
    places = places;
    number = λ m. tt;
    unit_value = tt;
    nothing_value = tt;
    gone = tt;
    owned_temp = λ v a. tt;
    shared_slot = λ j. tt;
    mutable_slot = λ j. tt;
    second = λ v u a e. tt;
    shared = λ v u a e. tt;
    lent = λ w d e z v u h a g c. tt;
    off_temps = λ h g. g;
    off_slots = λ h g. g;
    on_temps = λ v h a g. g;
    on_slots = λ v h a g. g;
    gives = λ v h a g. gives v h g;
    unpins = λ w h e g. g;
    gift = λ v h e g. (tt, g);
    boxes = λ o e v h a g.
        over_gives (λ (m : NewWord). F m.work.rest h.thread) (λ h2. Settles E (go_on h2)) (issue_placed (act.Make (next_object h)) (record { object = next_object h; value = v }) h.work) (λ m. push_box v m h)
        (test_gives (λ (m : NewWord). F m.work.rest h.thread) (can_grow h.work.rest.partition) _ (λ z. g)) (λ m w cs z. w.mail);
    mutexes = λ o e v h a g. test_gives (λ h2. Settles E (go_on h2)) (can_make h.work.rest.mutexes) _ (λ z cs z2. g.mail);
    spawns = λ cs pc e h g.
        then_gives (λ h2. Settles E (go_on h2)) (capture false cs.items h.thread.slots) (spawn_with servers pc (next_thread h.work.rest) h) (λ new q.
        over_gives (Of F) (λ h2. Settles E (go_on h2)) (begun h) _ (test_gives (Of F) (can_begin h.work.rest.tasks (next_thread h.work.rest)) _ (λ z. g))
        (λ h2 u cs2 z. starts pc new.0 h2.work (subst (λ j. StartsAt j pc) (sym e) refl) (false, cs.items, h.thread.slots, new.1, q) (inl u.begun) u.mail));
    unlocks = λ e m v h a b g. says_on m.home (message.Unlock m v) h (k.unlock m v) g;
    holds = λ w e m a. tt;
    goes = λ o h g cs z. g.mail;
    pairs = λ cs pc ds other e h g.
        let u = next_thread h.work.rest in
        then_gives (Settles E) (capture true cs.items h.thread.slots) _ (λ first p. then_gives (Settles E) (capture true ds.items first.1) _ (λ second q.
        over_gives (Of F) (Settles E) (pair_begun h u (u + 1)) _ (test_gives (Of F) (can_begin_pair h.work.rest.tasks h.thread.number u (u + 1)) _ (λ z. g))
        (λ h2 b cs2 z.
        let one = starts pc first.0 h2.work (subst (λ j. StartsAt j pc) (sym e) (inl refl)) (true, cs.items, h.thread.slots, first.1, p) (inl b.begun) b.mail in
        starts other second.0 (start_thread servers pc first.0 h2.work) (subst (λ j. StartsAt j other) (sym e) (inr refl)) (true, ds.items, first.1, second.1, q) (inr (began pc first.0 h2.work ∙ ap (λ x. x + 1) b.begun)) one)));
    ends = λ o e main v h a g. over_says o e main v h g;
    asks_join = λ o e u h q a g. asks_for (λ s t. message.Join u s t) (home_of u) h (k.join u) g;
    asks_dup = λ w e m h q a g. asks_for (λ s t. message.Dup m s t) m.home h (k.dup m) g;
    asks_lock = λ w e m h q a g. asks_for (λ s t. message.Lock m s t) m.home h (k.lock m) g;
  }

  -- a step there says so
  pub step_tells : (h : Hand) → Of F h → Gives (EndsStep E) (step servers i h)
  step_tells h g = steps i h (λ f. small) (λ f. passes) acts (λ h2 s q u. moves_by i s h2 (λ w c v z. tt)) g

-- the same, whatever was captured
module _ (M : ℕ → Message → Type 0) (servers : ℕ) (i : Instr) (r0 : Rest) (y : ThreadState) (k : Requests M r0.number y i) (begins : Begins M servers r0 i) where
  pub step_says : (h : Hand) → Talk M r0 y h.work.rest.number h.work.rest.inbox h.work.rest.outbox h.work.rest.started h.thread.number h.thread.home → Gives (EndsStep (λ r t. Mailed M r0.number r0.outbox r)) (step servers i h)
  step_says h g = step_tells M servers i r0 y k (λ pc vs r at c d f. begins pc vs r at d f) h g
