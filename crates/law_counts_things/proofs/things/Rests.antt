-- What the rest of a server keeps in each event, whatever is said and whatever its threads are.
use Rattle.std.proofs.Common.{◌≡◌, ℕ, zero, suc, ◌+◌, ◌-◌, ◌==◌, ◌&&◌, Bool, true, false, nat_lt, if◌then◌else◌, List, length, Option, Some, None, refl}
use Rattle.std.specs.Prelude.{slice_get, option_map}
use Rattle.law_counts_sums.specs.Below.fr_base.Lists.{is_in}
use Rattle.law_counts_sums.specs.Below.fr_base.declared.name.MutexNo.{MutexNo}
use Rattle.law_counts_sums.specs.Below.fr_base.declared.name.ObjNo.{ObjNo}
use Rattle.law_counts_sums.specs.Below.fr_base.declared.place.Lval.{Lval}
use Rattle.law_counts_sums.specs.Below.fr_base.declared.instruction.Instr.{Instr}
use Rattle.law_counts_sums.specs.Below.fr_base.declared.release.Released.{Released}
use Rattle.law_counts_sums.specs.Below.fr_base.declared.release.Released.TheVariants as released
use Rattle.law_counts_sums.specs.Below.heap_partition.declared.value.Cell.{Cell}
use Rattle.law_counts_sums.specs.Below.heap_partition.declared.value.Owned.{Owned}
use Rattle.law_counts_sums.specs.Below.heap_partition.declared.value.Owned.TheVariants as owned
use Rattle.law_counts_sums.specs.Below.owner_box.Partition.{stored, freed, made, renewed}
use Rattle.law_counts_sums.specs.Below.read_cache.Cache.{Copy, can_pin, pin, can_unpin, unpin, can_fill, fill, can_evict, evict}
use Rattle.law_counts_sums.specs.Below.migration.Packing.{unpin_all, used_words, packed}
use Rattle.law_counts_sums.specs.Below.mutex_home.Mutexes.{Mutexes, can_make, make, ask, give_back, more, less}
use Rattle.law_counts_sums.specs.Below.mutex_home.declared.answers.Asked.{Asked}
use Rattle.law_counts_sums.specs.Below.mutex_home.declared.answers.Asked.TheVariants as asked
use Rattle.law_counts_sums.specs.Below.mutex_home.declared.answers.Back.{Back}
use Rattle.law_counts_sums.specs.Below.mutex_home.declared.answers.Back.TheVariants as back
use Rattle.law_counts_sums.specs.Below.join_home.Tasks.{Task, can_begin, begin, can_begin_pair, begin_pair, ended, let_go_of}
use Rattle.law_counts_sums.specs.Below.join_home.Tasks as tasks
use Rattle.law_counts_sums.specs.Below.join_home.declared.answers.EndedAs.{EndedAs}
use Rattle.law_counts_sums.specs.Below.join_home.declared.answers.EndedAs.TheVariants as over
use Rattle.law_counts_sums.specs.Below.thread_state.View.{ThreadState}
use Rattle.law_counts_sums.specs.Below.thread_state.declared.phase.Phase.TheVariants as phase
use Rattle.law_counts_sums.specs.Below.thread_state.declared.value.Value.{Value}
use Rattle.law_counts_sums.specs.Below.thread_state.declared.value.Value.TheVariants as value
use Rattle.law_counts_sums.specs.Below.server_msgs.declared.message.Message.{Message}
use Rattle.law_counts_sums.specs.Below.server_msgs.declared.message.Message.TheVariants as message
use Rattle.law_counts_sums.specs.Below.journal.declared.act.Act.TheVariants as act
use Rattle.law_counts_sums.specs.Below.journal.View.{EntryView}
use Rattle.law_counts_sums.specs.Below.fr_base.declared.settings.Options.{Options}
use Rattle.law_counts_sums.specs.Below.server_model.declared.event.What.{What}
use Rattle.law_counts_sums.specs.Below.server_model.declared.event.What.TheVariants.{Step, Deliver, Evict, Migrate}
use Rattle.law_counts_sums.specs.Below.server_model.Servers.{Rest, Server}
use Rattle.law_counts_sums.specs.Below.server_model.Work.{Work, Hand, Site, sent_from, receive, leads_here, working, with_phase, with_mutexes, with_tasks, with_partition, then_some, put_back, thread_in, without_thread, at_thread, beside_threads, look_object, used_once, note}
use Rattle.law_counts_sums.specs.Below.server_model.NewWords.{NewWord, can_grow, is_last, issue_placed}
use Rattle.law_counts_sums.specs.Below.server_model.Places.{Spot, in_slot, on_top, in_cell, in_copy, nowhere, note_write, value_at, put_at, with_word, set_pointer}
use Rattle.law_counts_sums.specs.Below.server_model.Start.{next_thread, start_thread, capture}
use Rattle.law_counts_sums.specs.Below.server_model.Drop.{give_up}
use Rattle.law_counts_sums.specs.Below.server_model.Moving.{migrate, depart}
use Rattle.law_counts_sums.specs.Below.server_model.Commit.{go_on, next_object, push_box, begun, pair_begun, spawn_with, end_with, label_dropped}
use Rattle.law_counts_sums.specs.Below.server_model.Prepare.{Access, ReadTo, ReadPointer, WriteTo, LendTo, EndRef, passing, write_stars}
use Rattle.law_counts_sums.specs.Below.server_model.Objects.{deliver_fetch, waits_for_cell, filled, deliver_fetched, deliver_move, chased, waits_under, arrived_at, arrived_slot, passed_spot, arrived_write, arrived_lend, arrived_end, arrived, instr_access, deliver_moved, deliver_drop}
use Rattle.law_counts_sums.specs.Below.server_model.Sharing.{given, answer_lock, deliver_lock, waits_for_lock, deliver_granted, answer_back, deliver_unlock, deliver_dup, waits_for_dup, deliver_dupped, give_up_left}
use Rattle.law_counts_sums.specs.Below.server_model.Joining.{answer_join, deliver_join, waits_for_join, deliver_joined, got_par, pair_over, end_answer, deliver_finished}
use Rattle.law_counts_sums.specs.Below.server_model.Events.{begin_work, begin_at, left_by, received, release, deliver_message, evict_copy, step, step_in, stepped, does, deliver}
use Rattle.law_counts_sums.specs.Laws.{Gives}
use Rattle.law_counts_sums.proofs.Results.{then_gives, map_gives, over_gives, bind_gives, test_gives, stand_gives}
use Rattle.law_counts_things.proofs.things.Small.{Places, Small}
use Rattle.law_counts_things.proofs.things.Plainly.{Settles, moves_by, Acts, EndsStep, steps}
use Rattle.law_counts_things.proofs.things.Goes.{Any, AnyWord}

-- each change of a part of a server keeps the fact
pub record Parts (R : Rest → Type 0) : Type 0 where
  -- messages
  pub sent : (t : ℕ) (m : Message) (r : Rest) → R r → R (sent_from r t m)
  pub received : (i : ℕ) (r : Rest) → R r → R (receive r i)
  -- the partition
  pub stores : (w : ℕ) (v : Owned) (r : Rest) → leads_here r.partition w ≡ true → R r → R (record r { partition = stored r.partition w v })
  pub frees : (w : ℕ) (o : ObjNo) (c : Cell) (r : Rest) → look_object r.partition w o ≡ Some c → R r → R (record r { partition = freed r.partition w })
  pub makes : (c : Cell) (r : Rest) → can_grow r.partition ≡ true → R r → R (record r { partition = made r.partition c })
  pub renews : (w : ℕ) (r : Rest) → (leads_here r.partition w && (is_last r.partition w && can_grow r.partition)) ≡ true → R r → R (record r { partition = renewed r.partition w })
  -- the cache
  pub pins : (w : ℕ) (r : Rest) → can_pin r.cache w ≡ true → R r → R (record r { cache = pin r.cache w })
  pub unpins : (w : ℕ) (r : Rest) → can_unpin r.cache w ≡ true → R r → R (record r { cache = unpin r.cache w })
  pub unpins_all : (ws : List ℕ) (cs : List Copy) (r : Rest) → unpin_all ws r.cache ≡ Some cs → R r → R (record r { cache = cs })
  pub fills : (w : ℕ) (c : Cell) (r : Rest) → can_fill r.cache w c ≡ true → R r → R (record r { cache = fill r.cache w c })
  pub evicts : (w : ℕ) (r : Rest) → can_evict r.cache w ≡ true → R r → R (record r { cache = evict r.cache w })
  -- the mutexes
  pub mutex : (v : Owned) (r : Rest) → can_make r.mutexes ≡ true → R r → R (record r { mutexes = make r.mutexes v })
  pub asked : (m : MutexNo) (s t : ℕ) (r : Rest) (p : Mutexes × Asked) → ask r.mutexes m s t ≡ Some p → R r → R (record r { mutexes = p.0 })
  pub given : (m : MutexNo) (v : Owned) (r : Rest) (p : Mutexes × Back) → give_back r.mutexes m v ≡ Some p → R r → R (record r { mutexes = p.0 })
  pub shared : (m : MutexNo) (r : Rest) (ms : Mutexes) → more r.mutexes m ≡ Some ms → R r → R (record r { mutexes = ms })
  pub less_shared : (m : MutexNo) (r : Rest) (p : Mutexes × Option Owned) → less r.mutexes m ≡ Some p → R r → R (record r { mutexes = p.0 })
  -- the threads that it started
  pub began : (r : Rest) → can_begin r.tasks (next_thread r) ≡ true → R r → R (record r { tasks = begin r.tasks (next_thread r) })
  pub pair : (parent : ℕ) (r : Rest) → can_begin_pair r.tasks parent (next_thread r) (next_thread r + 1) ≡ true → R r → R (record r { tasks = begin_pair r.tasks parent (next_thread r) (next_thread r + 1) })
  pub counted : (r : Rest) → R r → R (record r { started = r.started + 1 })
  pub joined : (u s by : ℕ) (r : Rest) (p : List Task × Option Owned) → tasks.ask r.tasks u s by ≡ Some p → R r → R (record r { tasks = p.0 })
  pub let_go : (u : ℕ) (r : Rest) (p : List Task × Option Owned) → let_go_of r.tasks u ≡ Some p → R r → R (record r { tasks = p.0 })
  pub over : (u : ℕ) (v : Owned) (r : Rest) (p : List Task × EndedAs) → ended r.tasks u v ≡ Some p → R r → R (record r { tasks = p.0 })

-- the same of a fact that tells how many threads are noted here that aren't counted yet: each change of another part finds none, and keeps it so
pub record Changes (R : ℕ → Rest → Type 0) : Type 0 where
  -- messages
  pub sent : (c t : ℕ) (m : Message) (r : Rest) → R c r → R c (sent_from r t m)
  pub received : (i : ℕ) (r : Rest) → R 0 r → R 0 (receive r i)
  -- the partition
  pub stores : (w : ℕ) (v : Owned) (r : Rest) → leads_here r.partition w ≡ true → R 0 r → R 0 (record r { partition = stored r.partition w v })
  pub frees : (w : ℕ) (o : ObjNo) (c : Cell) (r : Rest) → look_object r.partition w o ≡ Some c → R 0 r → R 0 (record r { partition = freed r.partition w })
  pub makes : (c : Cell) (r : Rest) → can_grow r.partition ≡ true → R 0 r → R 0 (record r { partition = made r.partition c })
  pub renews : (w : ℕ) (r : Rest) → (leads_here r.partition w && (is_last r.partition w && can_grow r.partition)) ≡ true → R 0 r → R 0 (record r { partition = renewed r.partition w })
  -- the cache
  pub pins : (w : ℕ) (r : Rest) → can_pin r.cache w ≡ true → R 0 r → R 0 (record r { cache = pin r.cache w })
  pub unpins : (w : ℕ) (r : Rest) → can_unpin r.cache w ≡ true → R 0 r → R 0 (record r { cache = unpin r.cache w })
  pub unpins_all : (ws : List ℕ) (cs : List Copy) (r : Rest) → unpin_all ws r.cache ≡ Some cs → R 0 r → R 0 (record r { cache = cs })
  pub fills : (w : ℕ) (c : Cell) (r : Rest) → can_fill r.cache w c ≡ true → R 0 r → R 0 (record r { cache = fill r.cache w c })
  pub evicts : (w : ℕ) (r : Rest) → can_evict r.cache w ≡ true → R 0 r → R 0 (record r { cache = evict r.cache w })
  -- the mutexes
  pub mutex : (v : Owned) (r : Rest) → can_make r.mutexes ≡ true → R 0 r → R 0 (record r { mutexes = make r.mutexes v })
  pub asked : (m : MutexNo) (s t : ℕ) (r : Rest) (p : Mutexes × Asked) → ask r.mutexes m s t ≡ Some p → R 0 r → R 0 (record r { mutexes = p.0 })
  pub given : (m : MutexNo) (v : Owned) (r : Rest) (p : Mutexes × Back) → give_back r.mutexes m v ≡ Some p → R 0 r → R 0 (record r { mutexes = p.0 })
  pub shared : (m : MutexNo) (r : Rest) (ms : Mutexes) → more r.mutexes m ≡ Some ms → R 0 r → R 0 (record r { mutexes = ms })
  pub less_shared : (m : MutexNo) (r : Rest) (p : Mutexes × Option Owned) → less r.mutexes m ≡ Some p → R 0 r → R 0 (record r { mutexes = p.0 })
  -- the threads that it started
  pub began : (r : Rest) → can_begin r.tasks (next_thread r) ≡ true → R 0 r → R 1 (record r { tasks = begin r.tasks (next_thread r) })
  pub pair : (parent : ℕ) (r : Rest) → can_begin_pair r.tasks parent (next_thread r) (next_thread r + 1) ≡ true → R 0 r → R 2 (record r { tasks = begin_pair r.tasks parent (next_thread r) (next_thread r + 1) })
  pub counted : (c : ℕ) (r : Rest) → R (suc c) r → R c (record r { started = r.started + 1 })
  pub joined : (u s by : ℕ) (r : Rest) (p : List Task × Option Owned) → tasks.ask r.tasks u s by ≡ Some p → R 0 r → R 0 (record r { tasks = p.0 })
  pub let_go : (u : ℕ) (r : Rest) (p : List Task × Option Owned) → let_go_of r.tasks u ≡ Some p → R 0 r → R 0 (record r { tasks = p.0 })
  pub over : (u : ℕ) (v : Owned) (r : Rest) (p : List Task × EndedAs) → ended r.tasks u v ≡ Some p → R 0 r → R 0 (record r { tasks = p.0 })

-- a fact that tells nothing of it
pub changes : {R : Rest → Type 0} → Parts R → Changes (λ c. R)
changes k = record {
  sent = λ c t m r g. k.sent t m r g;
  received = k.received;
  stores = k.stores;
  frees = k.frees;
  makes = k.makes;
  renews = k.renews;
  pins = k.pins;
  unpins = k.unpins;
  unpins_all = k.unpins_all;
  fills = k.fills;
  evicts = k.evicts;
  mutex = k.mutex;
  asked = k.asked;
  given = k.given;
  shared = k.shared;
  less_shared = k.less_shared;
  began = k.began;
  pair = k.pair;
  counted = λ c r g. k.counted r g;
  joined = k.joined;
  let_go = k.let_go;
  over = k.over;
}

module _ {R : ℕ → Rest → Type 0} (k : Changes R) where
  abbrev OfWork : Work → Type 0
  OfWork w = R 0 w.rest

  abbrev OfHand : Hand → Type 0
  OfHand h = R 0 h.work.rest

  abbrev pub OfSite : Site → Type 0
  OfSite x = R 0 x.work.rest

  gives_up : (v : Owned) (w : Work) → OfWork w → OfWork (give_up v w)
  gives_up (owned.Box p) w g = k.sent 0 _ _ w.rest g
  gives_up (owned.Mutex m) w g = k.sent 0 _ _ w.rest g
  gives_up (owned.Task t) w g = k.sent 0 _ _ w.rest g
  gives_up owned.Nothing w g = g
  gives_up owned.Unit w g = g
  gives_up (owned.Int m) w g = g

  puts : (s : Spot) (v : Value) (h : Hand) → OfHand h → Gives OfHand (put_at s v h)
  puts (in_slot j) v h a = test_gives OfHand (nat_lt j (length h.thread.slots)) _ (λ z. a)
  puts on_top v h a = a
  puts (in_cell w through) (value.Own v) h a = test_gives OfHand (leads_here h.work.rest.partition w) _ (λ z. noted through (k.stores w v h.work.rest z a))
    where
      noted : (o : Option ℕ) → R 0 (record h.work.rest { partition = stored h.work.rest.partition w v }) → OfHand (note_write o (working (with_partition (stored h.work.rest.partition w v)) h))
      noted None b = b
      noted (Some j) b = b
  puts (in_cell w through) value.Gone h a = tt
  puts (in_cell w through) (value.SharedSlot j) h a = tt
  puts (in_cell w through) (value.MutSlot j) h a = tt
  puts (in_cell w through) (value.Shared q) h a = tt
  puts (in_cell w through) (value.Mut q) h a = tt
  puts (in_cell w through) (value.Held m) h a = tt
  puts (in_copy w) v h a = tt
  puts nowhere v h a = tt

  pointer : (s : Spot) (w : ℕ) (h : Hand) → OfHand h → Gives OfHand (set_pointer s w h)
  pointer s w h a = then_gives OfHand (value_at h s) _ (λ v q. then_gives OfHand (with_word w v) _ (λ new e. puts s new h a))

  -- STEPS

  abbrev F : Rest → ThreadState → Type 0
  F r t = R 0 r

  places : Places F Any AnyWord
  places = record { spot = λ s v h g e. tt; puts = λ s v h z a g. puts s v h g; worded = λ w v new x a e. tt; word_of = λ r a. tt; points = λ v p a e. tt }

  small : Small F F Any AnyWord
  small = record {
    places = places;
    tints = λ p h a g e. tt;
    renews = λ p h a g e. (tt, k.renews p.word h.work.rest e g);
    pinned = λ r a. tt;
    pins = λ w h e g. k.pins w h.work.rest e g;
    uses = λ w h e g. k.pins w h.work.rest e g;
    asks_copy = λ p h a e g. k.sent 0 _ _ h.work.rest g;
    asks_object = λ p h a e g. k.sent 0 _ _ h.work.rest g;
  }

  -- one of those that are noted starts, and is counted
  starts : (c servers pc : ℕ) (vs : List Value) (w : Work) → R (suc c) w.rest → R c (start_thread servers pc vs w).rest
  starts c servers pc vs w g = k.sent c _ _ (record w.rest { started = w.rest.started + 1 }) (k.counted c w.rest g)

  over_main : (main : Bool) (v : Owned) (h : Hand) → OfHand h → Gives (λ h2. Settles F (with_phase phase.Over h2)) (end_with main v h)
  over_main true v h g = λ cs z. k.unpins_all h.thread.walk cs _ z (gives_up v (label_dropped (value.Own v) h).work g)
  over_main false v h g = λ cs z. k.unpins_all h.thread.walk cs _ z (k.sent 0 _ _ h.work.rest g)

  acts : (n : ℕ) (i : Instr) → Acts n F F Any Any AnyWord i
  acts n i = record {
    places = places;
    number = λ m. tt;
    unit_value = tt;
    nothing_value = tt;
    gone = tt;
    owned_temp = λ v a. tt;
    shared_slot = λ j. tt;
    mutable_slot = λ j. tt;
    second = λ v u a e. tt;
    shared = λ v u a e. tt;
    lent = λ w d e z v u h a g c. tt;
    off_temps = λ h g. g;
    off_slots = λ h g. g;
    on_temps = λ v h a g. g;
    on_slots = λ v h a g. g;
    gives = λ v h a g. gives_up v h.work g;
    unpins = λ w h e g. k.unpins w h.work.rest e g;
    gift = λ v h e g. (tt, g);
    boxes = λ o e v h a g.
        over_gives (λ (m : NewWord). R 0 m.work.rest) (λ h2. Settles F (go_on h2)) (issue_placed (act.Make (next_object h)) (record { object = next_object h; value = v }) h.work) (λ m. push_box v m h)
        (test_gives (λ (m : NewWord). R 0 m.work.rest) (can_grow h.work.rest.partition) _ (λ z. k.makes (record { object = next_object h; value = v }) h.work.rest z g)) (λ m w cs z. k.unpins_all h.thread.walk cs m.work.rest z w);
    mutexes = λ o e v h a g. test_gives (λ h2. Settles F (go_on h2)) (can_make h.work.rest.mutexes) _ (λ z cs z2. k.unpins_all h.thread.walk cs (record h.work.rest { mutexes = make h.work.rest.mutexes v }) z2 (k.mutex v h.work.rest z g));
    spawns = λ cs pc e h g.
        then_gives (λ h2. Settles F (go_on h2)) (capture false cs.items h.thread.slots) (spawn_with n pc (next_thread h.work.rest) h) (λ new q.
        over_gives (λ (h2 : Hand). R 1 h2.work.rest) (λ h2. Settles F (go_on h2)) (begun h) _ (test_gives (λ (h2 : Hand). R 1 h2.work.rest) (can_begin h.work.rest.tasks (next_thread h.work.rest)) _ (λ z. k.began h.work.rest z g))
        (λ h2 u cs2 z. k.unpins_all h2.thread.walk cs2 _ z (starts 0 n pc new.0 h2.work u)));
    unlocks = λ e m v h a b g. k.sent 0 _ _ h.work.rest g;
    holds = λ w e m a. tt;
    goes = λ o h g cs z. k.unpins_all h.thread.walk cs h.work.rest z g;
    pairs = λ cs pc ds other e h g.
        let u = next_thread h.work.rest in
        then_gives (Settles F) (capture true cs.items h.thread.slots) _ (λ first p. then_gives (Settles F) (capture true ds.items first.1) _ (λ second q.
        over_gives (λ (h2 : Hand). R 2 h2.work.rest) (Settles F) (pair_begun h u (u + 1)) _ (test_gives (λ (h2 : Hand). R 2 h2.work.rest) (can_begin_pair h.work.rest.tasks h.thread.number u (u + 1)) _ (λ z. k.pair h.thread.number h.work.rest z g))
        (λ h2 b cs2 z. k.unpins_all h2.thread.walk cs2 _ z (starts 0 n other second.0 (start_thread n pc first.0 h2.work) (starts 1 n pc first.0 h2.work b)))));
    ends = λ o e main v h a g. over_main main v h g;
    asks_join = λ o e u h q a g. k.sent 0 _ _ h.work.rest g;
    asks_dup = λ w e m h q a g. k.sent 0 _ _ h.work.rest g;
    asks_lock = λ w e m h q a g. k.sent 0 _ _ h.work.rest g;
  }

  pub step_rests : (n : ℕ) (i : Instr) (h : Hand) → OfHand h → Gives (EndsStep F) (step n i h)
  step_rests n i h g = steps i h (λ f. small) (λ f m h2 u. u) (acts n i) (λ h2 s q u. moves_by i s h2 (λ w c v z. tt)) g

  -- DELIVERIES

  beside : (f : Work → Option Work) (x : Site) → Gives OfWork (f x.work) → Gives OfSite (beside_threads f x)
  beside f x g = over_gives OfWork OfSite (f x.work) (λ w. record x { work = w }) g (λ w a. a)

  at : (t : ℕ) (f : Hand → Option Hand) (x : Site) → ((y : ThreadState) → Gives OfHand (f (record { work = x.work; thread = y }))) → Gives OfSite (at_thread t f x)
  at t f x go = by (thread_in x.threads t)
    where
      by : (o : Option ThreadState) → Gives OfSite (then_some (option_map (λ y. record { work = x.work; thread = y }) o) (λ h. option_map (put_back x.threads) (f h)))
      by None = tt
      by (Some y) = over_gives OfHand OfSite (f (record { work = x.work; thread = y })) (put_back x.threads) (go y) (λ h a. a)

  drops : (v : ℕ) (b : ObjNo) (w : Work) → OfWork w → Gives OfWork (deliver_drop v b w)
  drops v b w a = map_gives OfWork (look_object w.rest.partition v b) _ (λ c q. gives_up c.value (note (act.Free b v) (with_partition (freed w.rest.partition v) w)) (k.frees v b c w.rest q a))

  uses_it : (v : ℕ) (b : Bool) (h : Hand) → OfHand h → Gives OfHand (used_once v b h)
  uses_it v true h a = a
  uses_it v false h a = test_gives OfHand (can_pin h.work.rest.cache v) _ (λ z. k.pins v h.work.rest z a)

  fills_it : (v : ℕ) (c : Cell) (h : Hand) → OfHand h → Gives OfHand (deliver_fetched v c h)
  fills_it v c h a =
      test_gives OfHand (waits_for_cell h.thread.phase v) _ (λ z. over_gives OfHand OfHand (filled v c h) _
      (test_gives OfHand (can_fill h.work.rest.cache v c) _ (λ p. uses_it v (is_in v h.thread.walk) _ (k.fills v c h.work.rest p a))) (λ h2 b. b))

  comes_at : (new : ℕ) (s : Spot) (h : Hand) → OfHand h → Gives OfHand (arrived_at s new h)
  comes_at new s h a = over_gives OfHand OfHand (set_pointer s new h) _ (pointer s new h a) (λ h2 b. b)

  comes_slot : (old new i : ℕ) (h : Hand) → OfHand h → Gives OfHand (arrived_slot old new i h)
  comes_slot old new i h a = test_gives OfHand (waits_under old (slice_get h.thread.slots i)) _ (λ z. comes_at new (in_slot i) h a)

  comes_write : (w : Lval) (new : ℕ) (h : Hand) → OfHand h → Gives OfHand (arrived_write w new h)
  comes_write w new h a = then_gives OfHand (passed_spot (write_stars h.thread.passed 0 h (in_slot w.slot))) _ (λ s q. comes_at new s (passing (h.thread.passed + 1) h) a)

  comes_lend : (slot d old new : ℕ) (h : Hand) → OfHand h → Gives OfHand (arrived_lend slot d old new h)
  comes_lend slot zero old new h a = tt
  comes_lend slot (suc zero) old new h a = a
  comes_lend slot (suc (suc d)) old new h a = by (waits_under old (slice_get h.thread.slots (chased d h.thread.slots slot)))
    where
      by : (b : Bool) → Gives OfHand (if b then arrived_at (in_slot (chased d h.thread.slots slot)) new h else Some (with_phase (phase.Taken new) h))
      by true = comes_at new (in_slot (chased d h.thread.slots slot)) h a
      by false = a

  comes_end : (s : Spot) (v : Option Value) (old new : ℕ) (h : Hand) → OfHand h → Gives OfHand (arrived_end s v old new h)
  comes_end s (Some (value.Mut q)) old new h a = by (q.word == old)
    where
      by : (b : Bool) → Gives OfHand (if b then arrived_at s new h else arrived_write q.holder new h)
      by true = comes_at new s h a
      by false = comes_write q.holder new h a
  comes_end s _ old new h a = tt

  comes_for : (x : Option Access) (old new : ℕ) (h : Hand) → OfHand h → Gives OfHand (arrived x old new h)
  comes_for None old new h a = tt
  comes_for (Some (ReadTo w)) old new h a = comes_slot old new (chased (w.depth - 1) h.thread.slots w.slot) h a
  comes_for (Some (ReadPointer w)) old new h a = comes_slot old new (chased (w.depth - 1) h.thread.slots w.slot) h a
  comes_for (Some (WriteTo w)) old new h a = comes_write w new h a
  comes_for (Some (LendTo w)) old new h a = comes_lend w.slot w.depth old new h a
  comes_for (Some (EndRef s)) old new h a = comes_end s (value_at h s) old new h a

  comes : (code : List Instr) (old : ℕ) (c : Cell) (h : Hand) → OfHand h → Gives OfHand (deliver_moved code old c h)
  comes code old c h a =
      test_gives OfHand (waits_for_cell h.thread.phase old) _ (λ z. bind_gives (λ (m : NewWord). OfWork m.work) OfHand (issue_placed (act.Take c.object old) c h.work) _
      (test_gives (λ (m : NewWord). OfWork m.work) (can_grow h.work.rest.partition) _ (λ p. k.makes c h.work.rest p a)) (λ m b. comes_for (instr_access h (slice_get code h.thread.pc)) old m.word (record h { work = m.work }) b))

  gives_it : (v : Owned) (g : Option Owned) (h : Hand) → OfHand h → Gives OfHand (Rattle.law_counts_sums.specs.Below.server_model.Sharing.given v g h)
  gives_it v None h a = a
  gives_it v (Some u) h a = tt

  left_over : (o : Option Owned) (w : Work) → OfWork w → OfWork (give_up_left o w)
  left_over None w a = a
  left_over (Some v) w a = gives_up v w a

  locks : (m : MutexNo) (s t : ℕ) (w : Work) → OfWork w → Gives OfWork (deliver_lock m s t w)
  locks m s t w a = map_gives OfWork (ask w.rest.mutexes m s t) _ (λ p q. by p.0 p.1 (k.asked m s t w.rest p q a))
    where
      by : (ms : Mutexes) (x : Asked) → R 0 (record w.rest { mutexes = ms }) → OfWork (answer_lock m s t x (with_mutexes ms w))
      by ms asked.Queued b = b
      by ms (asked.Granted v) b = k.sent 0 _ _ (record w.rest { mutexes = ms }) b

  unlocks : (m : MutexNo) (v : Owned) (w : Work) → OfWork w → Gives OfWork (deliver_unlock m v w)
  unlocks m v w a = map_gives OfWork (give_back w.rest.mutexes m v) _ (λ p q. by p.0 p.1 (k.given m v w.rest p q a))
    where
      by : (ms : Mutexes) (x : Back) → R 0 (record w.rest { mutexes = ms }) → OfWork (answer_back m x (with_mutexes ms w))
      by ms (back.Next s t u) b = k.sent 0 _ _ (record w.rest { mutexes = ms }) b
      by ms (back.Ended u) b = gives_up u (with_mutexes ms w) b
      by ms back.Kept b = b

  dups : (m : MutexNo) (s t : ℕ) (w : Work) → OfWork w → Gives OfWork (deliver_dup m s t w)
  dups m s t w a = map_gives OfWork (more w.rest.mutexes m) _ (λ ms q. k.sent 0 _ _ (record w.rest { mutexes = ms }) (k.shared m w.rest ms q a))

  joins : (u s by_thread : ℕ) (w : Work) → OfWork w → Gives OfWork (deliver_join u s by_thread w)
  joins u s by_thread w a = map_gives OfWork (tasks.ask w.rest.tasks u s by_thread) _ (λ p q. of p.0 p.1 (k.joined u s by_thread w.rest p q a))
    where
      of : (ts : List Task) (x : Option Owned) → R 0 (record w.rest { tasks = ts }) → OfWork (answer_join u s by_thread x (with_tasks ts w))
      of ts None b = b
      of ts (Some v) b = k.sent 0 _ _ (record w.rest { tasks = ts }) b

  releases : (x : Released) (w : Work) → OfWork w → Gives OfWork (release x w)
  releases (released.Mutex m) w a = map_gives OfWork (less w.rest.mutexes m) _ (λ p q. left_over p.1 (with_mutexes p.0 w) (k.less_shared m w.rest p q a))
  releases (released.Task u) w a = map_gives OfWork (let_go_of w.rest.tasks u) _ (λ p q. left_over p.1 (with_tasks p.0 w) (k.let_go u w.rest p q a))

  goes_on : (u : ℕ) (h : Hand) → OfHand h → Gives OfHand (pair_over u h)
  goes_on u h a = map_gives OfHand (got_par u h.thread.phase) _ (λ p q. a)

  finishes : (u : ℕ) (v : Owned) (x : Site) → OfSite x → Gives OfSite (deliver_finished u v x)
  finishes u v x a = then_gives OfSite (ended x.work.rest.tasks u v) _ (λ p q. by p.0 p.1 (k.over u v x.work.rest p q a))
    where
      by : (ts : List Task) (e : EndedAs) → R 0 (record x.work.rest { tasks = ts }) → Gives OfSite (end_answer u e (record x { work = with_tasks ts x.work }))
      by ts (over.Answer s t b) c = k.sent 0 _ _ (record x.work.rest { tasks = ts }) c
      by ts (over.Both parent) c = at parent (pair_over u) (record x { work = with_tasks ts x.work }) (λ y. goes_on u (record { work = with_tasks ts x.work; thread = y }) c)
      by ts (over.LetGo b) c = gives_up b (with_tasks ts x.work) c
      by ts over.Kept c = c

  pub message_rests : (code : List Instr) (m : Message) (x : Site) → OfSite x → Gives OfSite (deliver_message code m x)
  message_rests code (message.Fetch w o s t) x a = beside (deliver_fetch w o s t) x (map_gives OfWork (look_object x.work.rest.partition w o) _ (λ c q. k.sent 0 _ _ x.work.rest a))
  message_rests code (message.Fetched w c t) x a = at t (deliver_fetched w c) x (λ y. fills_it w c (record { work = x.work; thread = y }) a)
  message_rests code (message.Move w o s t) x a =
      beside (deliver_move w o s t) x (map_gives OfWork (look_object x.work.rest.partition w o) _ (λ c q. k.sent 0 _ _ (record x.work.rest { partition = freed x.work.rest.partition w }) (k.frees w o c x.work.rest q a)))
  message_rests code (message.Moved w c t) x a = at t (deliver_moved code w c) x (λ y. comes code w c (record { work = x.work; thread = y }) a)
  message_rests code (message.Drop w o) x a = beside (deliver_drop w o) x (drops w o x.work a)
  message_rests code (message.Lock m s t) x a = beside (deliver_lock m s t) x (locks m s t x.work a)
  message_rests code (message.Granted m v t) x a = at t (deliver_granted m v) x (λ y. test_gives OfHand (waits_for_lock y.phase m) _ (λ z. gives_it v y.gift (record { work = x.work; thread = y }) a))
  message_rests code (message.Unlock m v) x a = beside (deliver_unlock m v) x (unlocks m v x.work a)
  message_rests code (message.Dup m s t) x a = beside (deliver_dup m s t) x (dups m s t x.work a)
  message_rests code (message.Dupped m t) x a = at t (deliver_dupped m) x (λ y. test_gives OfHand (waits_for_dup y.phase m) _ (λ z. gives_it (owned.Mutex m) y.gift (record { work = x.work; thread = y }) a))
  message_rests code (message.Release m) x a = beside (release m) x (releases m x.work a)
  message_rests code (message.Start t) x a = stand_gives OfSite (thread_in x.threads t.number) t x a
  message_rests code (message.Join u s t) x a = beside (deliver_join u s t) x (joins u s t x.work a)
  message_rests code (message.Joined u v t) x a = at t (deliver_joined u v) x (λ y. test_gives OfHand (waits_for_join y.phase u) _ (λ z. gives_it v y.gift (record { work = x.work; thread = y }) a))
  message_rests code (message.Finished u v) x a = finishes u v x a
  message_rests code (message.Migrate t) x a = stand_gives OfSite (thread_in x.threads t.number) t x a

  -- ALL EVENTS

  abbrev Then : Server × EntryView → Type 0
  Then r = R 0 r.0.rest

  pub rests_change : (code : List Instr) (o : Options) (s : Server) (w : What) → R 0 s.rest → Gives Then (does code o s w)
  rests_change code o s (Step t) g = by (thread_in s.threads t)
    where
      by : (x : Option ThreadState) → Gives Then (option_map (stepped s) (then_some (option_map (λ y. record { work = begin_work s.rest; thread = y }) x) (step_in code o.servers)))
      by None = tt
      by (Some y) =
          let h : Hand = record { work = begin_work s.rest; thread = y } in
          over_gives (EndsStep F) Then (step_in code o.servers h) (stepped s) (then_gives (EndsStep F) (slice_get code y.pc) (λ i. step o.servers i h) (λ i q. step_rests o.servers i h g)) (λ d u. u)
  rests_change code o s (Deliver i) g =
      over_gives OfSite Then (deliver code i s) (left_by s.events None None)
      (then_gives OfSite (slice_get s.rest.inbox i) (λ m. deliver_message code m (received i s)) (λ m q. message_rests code m (received i s) (k.received i s.rest g))) (λ x u. u)
  rests_change code o s (Evict w) g =
      over_gives OfSite Then (beside_threads (evict_copy w) (begin_at s)) (left_by s.events None None)
      (over_gives OfWork OfSite (evict_copy w (begin_work s.rest)) _ (test_gives OfWork (can_evict s.rest.cache w) _ (λ q. k.evicts w s.rest q g)) (λ x u. u)) (λ x u. u)
  rests_change code o s (Migrate t target) g =
      over_gives OfSite Then (migrate t target (begin_at s)) (left_by s.events (Some t) None)
      (then_gives OfSite (thread_in s.threads t) _ (λ y q. by y (unpin_all (used_words y) s.rest.cache) refl)) (λ x u. u)
    where
      by : (y : ThreadState) (l : Option (List Copy)) → unpin_all (used_words y) s.rest.cache ≡ l
          → Gives OfSite (option_map (λ p. record { work = depart target (begin_work s.rest) p; threads = without_thread s.threads t }) (option_map (λ left. (packed (record y { moved_since_step = true }), left)) l))
      by y None e = tt
      by y (Some cs) e = k.sent 0 _ _ (record s.rest { cache = cs }) (k.unpins_all (used_words y) cs s.rest e g)

-- the same of a fact that tells nothing of threads that are noted and not counted
pub rests : {R : Rest → Type 0} → Parts R → (code : List Instr) (o : Options) (s : Server) (w : What) → R s.rest → Gives (λ (r : Server × EntryView). R r.0.rest) (does code o s w)
rests k code o s w g = rests_change (changes k) code o s w g
