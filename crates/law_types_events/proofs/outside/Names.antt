-- What stands anywhere in a coherent cluster agrees by whatever types of names by which those that were given have the types that they had: each mutex and thread that it names was given.
use Rattle.std.proofs.Common.{◌≡◌, inl, inr, ℕ, ◌+◌, ◌≤◌, ◌==◌, ◌&&◌, ◌||◌, not, Bool, true, false, List, [], ◌∷◌, ◌++◌, Some, refl, ap, subst, ◌∙◌, arith}
use Rattle.std.specs.Prelude.{◌%◌, ◌^◌, slice_get}
use Rattle.law_types_still.specs.Below.fr_base.Names.{home_of}
use Rattle.law_types_still.specs.Below.fr_base.declared.name.MutexNo.{MutexNo}
use Rattle.law_types_still.specs.Below.fr_typing.Kinds.{Owned as OwnedType, unit, int, box, mutex, task, same_owned}
use Rattle.law_types_events.specs.Below.fr_sound.Seen.{Gives as NamesGive}
use Rattle.law_types_still.specs.Below.law_plain_values.acts.Keeps.{KeepsNames}
use Rattle.law_types_still.specs.Below.heap_partition.declared.value.Owned.{Owned}
use Rattle.law_types_still.specs.Below.heap_partition.declared.value.Owned.TheVariants as owned
use Rattle.law_types_still.specs.Below.join_home.Tasks.{TaskState, going, let_go, kept, asked, in_pair}
use Rattle.law_types_still.specs.Below.thread_state.declared.value.Value.{Value}
use Rattle.law_types_still.specs.Below.thread_state.declared.value.Value.TheVariants as value
use Rattle.law_types_still.specs.Below.server_msgs.declared.message.Message.{Message}
use Rattle.law_types_still.specs.Below.server_msgs.declared.message.Message.TheVariants as message
use Rattle.law_types_still.specs.Below.server_model.Servers.{Cluster}
use Rattle.law_types_still.specs.Below.coherent_memory.Names.{tot, one, other, some, if_so, Among, same_mutex}
use Rattle.law_types_still.specs.Below.coherent_memory.Things.{Spot, in_slot, in_temp, as_gift, as_content, as_result, in_hand, at_slot, Thing, holds, shares, borrows, locks, lies, flies, vacant, retired, copied, uses, sent, stands, at_home, queued, noted, counts, things_at, gift_things, walk_things, slot_things, temp_things, things_of}
use Rattle.law_types_still.specs.Below.coherent_memory.Follow.{Standing, threads_in, thread_at}
use Rattle.law_types_still.specs.Below.coherent_memory.Sight.{sight}
use Rattle.law_types_still.specs.Below.coherent_memory.Weights.{is_home_of}
use Rattle.law_types_still.specs.Below.coherent_memory.Sharing.{owned_mutex, contents}
use Rattle.law_types_still.specs.Below.coherent_memory.Naming.{owned_thread, threads, named_mutexes, started_at, made_at, uncounted_thread, uncounted_mutex, zeroth_thread, zeroth_mutex}
use Rattle.law_types_still.specs.Below.coherent_memory.OneHeap.{one_heap, if_given, life_at}
use Rattle.law_types_still.proofs.Below.coherent_memory.Names.{same_mutexes}
use Rattle.law_types_events.specs.Below.coherent_types.Names.{NameTypes, names_of, fits, is_there}
use Rattle.law_types_events.specs.Below.coherent_types.ClusterTypes.{IsCoherent, misfit}
use Rattle.law_types_still.proofs.Below.law_counts_sums.MutexResults.{mutex_self}
use Rattle.law_types_still.proofs.Below.law_words_paths.paths.Shown.{none_else}
use Rattle.law_types_still.proofs.Below.law_words_paths.paths.Contained.{servers_contain, listed_in}
use Rattle.law_types_still.proofs.Below.law_words_paths.paths.Origins.{among_first, among_second}
use Rattle.law_types_still.proofs.Below.law_heap_still.events.Gifts.{placed, telling, places_told}
use Rattle.law_types_still.proofs.Below.law_heap_still.events.Told.{at_most}
use Rattle.law_types_events.proofs.Below.law_results_reads.Flights.{has_weight}

-- GIVEN NAMES

given_by : (a b d : Bool) → one (b && not a) ≡ 0 → d ≡ true → a || (not b && d) ≡ true
given_by true b d z e = refl
given_by false true d z e = absurd cc
given_by false false d z e = e

mutex_given : (b d : Bool) → one b ≡ 0 → d ≡ true → not b && d ≡ true
mutex_given true d z e = absurd cc
mutex_given false d z e = e

-- a mutex that is at its home somewhere is named there
home_named : (lost : MutexNo → ℕ) (m : MutexNo) (b : List Thing) → tot (named_mutexes lost) b ≡ 0 → 1 ≤ tot (is_home_of m) b → lost m ≡ 0
home_named lost m [] z l = absurd (omega (arith, l))
home_named lost m (at_home s x ∷ b) z l = by (same_mutex x.number m) refl l (λ h. home_named lost m b (omega (arith, z)) h)
  where
    by : (q : Bool) → same_mutex x.number m ≡ q → 1 ≤ one q + tot (is_home_of m) b → (1 ≤ tot (is_home_of m) b → lost m ≡ 0) → lost m ≡ 0
    by true e h go = subst (λ n. lost n ≡ 0) (same_mutexes x.number m e) (omega (arith, z))
    by false e h go = go (omega (arith, h))
home_named lost m (holds p v ∷ b) z l = home_named lost m b (omega (arith, z)) (omega (arith, l))
home_named lost m (shares p r ∷ b) z l = home_named lost m b (omega (arith, z)) (omega (arith, l))
home_named lost m (borrows p r ∷ b) z l = home_named lost m b (omega (arith, z)) (omega (arith, l))
home_named lost m (locks p n ∷ b) z l = home_named lost m b (omega (arith, z)) (omega (arith, l))
home_named lost m (lies s a c ∷ b) z l = home_named lost m b (omega (arith, z)) (omega (arith, l))
home_named lost m (flies w c ∷ b) z l = home_named lost m b (omega (arith, z)) (omega (arith, l))
home_named lost m (vacant s a n ∷ b) z l = home_named lost m b (omega (arith, z)) (omega (arith, l))
home_named lost m (retired s a ∷ b) z l = home_named lost m b (omega (arith, z)) (omega (arith, l))
home_named lost m (copied s c ∷ b) z l = home_named lost m b (omega (arith, z)) (omega (arith, l))
home_named lost m (uses s w ∷ b) z l = home_named lost m b (omega (arith, z)) (omega (arith, l))
home_named lost m (sent s x ∷ b) z l = home_named lost m b (omega (arith, z)) (omega (arith, l))
home_named lost m (stands s p t ∷ b) z l = home_named lost m b (omega (arith, z)) (omega (arith, l))
home_named lost m (queued n s t ∷ b) z l = home_named lost m b (omega (arith, z)) (omega (arith, l))
home_named lost m (noted s x ∷ b) z l = home_named lost m b (omega (arith, z)) (omega (arith, l))
home_named lost m (counts s a c d e g ∷ b) z l = home_named lost m b (omega (arith, z)) (omega (arith, l))

-- a thread whose result is told of is named there
module _ (lost : ℕ → ℕ) where
  abbrev tells : Thing → ℕ
  tells = telling (λ m. 0) lost (λ t. 0)

  told_note : (s t : ℕ) (z : TaskState) → tells (noted s (record { thread = t; state = z })) ≤ threads lost (noted s (record { thread = t; state = z }))
  told_note s t (kept v) = omega arith
  told_note s t going = omega arith
  told_note s t let_go = omega arith
  told_note s t (asked r u) = omega arith
  told_note s t (in_pair p d) = omega arith

  told_message : (s : ℕ) (m : Message) → tells (sent s m) ≤ threads lost (sent s m)
  told_message s (message.Finished t v) = omega arith
  told_message s (message.Joined t v u) = omega arith
  told_message s _ = omega arith

  told_held : (p : Spot) (v : Owned) → tells (holds p v) ≤ threads lost (holds p v)
  told_held (as_content m) v = omega arith
  told_held (as_result t) v = omega arith
  told_held (as_gift t) v = omega arith
  told_held (in_slot t i) v = omega arith
  told_held (in_temp t i) v = omega arith
  told_held in_hand v = omega arith

  no_gift : (b : Bool) → if_so b 0 ≤ 0
  no_gift true = omega arith
  no_gift false = omega arith

  told_so : (x : Thing) → tells x ≤ threads lost x
  told_so (holds p v) = told_held p v
  told_so (noted s x) = told_note s x.thread x.state
  told_so (sent s m) = told_message s m
  told_so (stands s p t) = let z = no_gift (Rattle.std.specs.Prelude.is_some t.gift) in omega (arith, z)
  told_so _ = omega arith

  result_named : (k : Cluster) (t : ℕ) (v : Owned) → tot (threads lost) (things_of k) ≡ 0 → Among (holds (as_result t) v) (things_of k) → lost t ≡ 0
  result_named k t v z a = let l = has_weight (placed (λ m. 0) lost (λ u. 0)) (holds (as_result t) v) (things_of k) a in omega (arith, z, l, places_told (λ m. 0) lost (λ u. 0) k, at_most tells (threads lost) told_so (things_of k))

-- WHAT A THREAD HAS

module _ (k : Cluster) (x : Standing) (there : Among x (threads_in (things_of k))) where
  abbrev t : ℕ
  t = x.thread.number

  pub slot_among : (i : ℕ) (v : Value) (y : Thing) → slice_get x.thread.slots i ≡ Some v → Among y (slot_things x.server t (0 + i) v) → Among y (things_of k)
  slot_among i v y e a =
      let g = gift_things t x.thread.gift in
      let w = things_at (walk_things x.server) 0 x.thread.walk in
      let p = things_at (slot_things x.server t) 0 x.thread.slots in
      let q = things_at (temp_things x.server t) 0 x.thread.temps in
      servers_contain k.servers x there y (inr (among_first y (g ++ w ++ p) q (among_second y (g ++ w) p (listed_in (slot_things x.server t) y 0 i x.thread.slots v e a))))

  pub temp_among : (i : ℕ) (v : Value) (y : Thing) → slice_get x.thread.temps i ≡ Some v → Among y (temp_things x.server t (0 + i) v) → Among y (things_of k)
  temp_among i v y e a =
      let g = gift_things t x.thread.gift in
      let w = things_at (walk_things x.server) 0 x.thread.walk in
      let p = things_at (slot_things x.server t) 0 x.thread.slots in
      let q = things_at (temp_things x.server t) 0 x.thread.temps in
      servers_contain k.servers x there y (inr (among_second y (g ++ w ++ p) q (listed_in (temp_things x.server t) y 0 i x.thread.temps v e a)))

module _ (k : Cluster) (co : IsCoherent k) (after : NamesGive) (names_kept : KeepsNames (one_heap k) co.types.typing.gives after) where
  abbrev b : List Thing
  b = things_of k

  abbrev n : NameTypes
  n = names_of co.types.object co.types.typing.gives

  abbrev pub n2 : NameTypes
  n2 = names_of co.types.object after

  abbrev lost_thread : ℕ → ℕ
  lost_thread = uncounted_thread (sight k)

  abbrev lost_mutex : MutexNo → ℕ
  lost_mutex = uncounted_mutex (sight k)

  all_threads : tot (threads lost_thread) b ≡ 0
  all_threads = (let z = co.sound.names.names_counted in omega (arith, z))

  all_mutexes : tot (named_mutexes lost_mutex) b ≡ 0
  all_mutexes = (let z = co.sound.names.names_counted in omega (arith, z))

  no_zeroth : tot (threads zeroth_thread) b ≡ 0
  no_zeroth = (let z = co.sound.names.counts_from_one in omega (arith, z))

  no_zeroth_mutex : tot (named_mutexes zeroth_mutex) b ≡ 0
  no_zeroth_mutex = (let z = co.sound.names.counts_from_one in omega (arith, z))

  -- its type is what it was
  mutex_same : (m : MutexNo) → lost_mutex m ≡ 0 → zeroth_mutex m ≡ 0 → after.mutex m ≡ co.types.typing.gives.mutex m
  mutex_same m l z = names_kept.mutexes m (mutex_given (m.count == 0) (some (tot (made_at m.home m.count) b)) z (none_else (some (tot (made_at m.home m.count) b)) l))

  thread_same : (t : ℕ) → lost_thread t ≡ 0 → zeroth_thread t ≡ 0 → after.result t ≡ co.types.typing.gives.result t
  thread_same t l z =
      let life = life_at (sight k) t (thread_at (sight k).ground.threads t) in
      names_kept.results t life (ap (λ q. if_given q life) (given_by (t == 0) (t % 2 ^ 32 == 0) (some (tot (started_at (home_of t) (t % 2 ^ 32)) b)) z (none_else (some (tot (started_at (home_of t) (t % 2 ^ 32)) b)) l)))

  -- VALUES

  -- all that a value names was given
  pub record Named (v : Owned) : Type 0 where
    pub thread : owned_thread lost_thread v ≡ 0
    pub first_thread : owned_thread zeroth_thread v ≡ 0
    pub mutex_no : owned_mutex lost_mutex v ≡ 0
    pub first_mutex : owned_mutex zeroth_mutex v ≡ 0

  pub value_same : (v : Owned) → Named v → (o : OwnedType) → fits n2 o v ≡ fits n o v
  value_same owned.Nothing g o = refl
  value_same owned.Unit g unit = refl
  value_same owned.Unit g int = refl
  value_same owned.Unit g (box c) = refl
  value_same owned.Unit g (mutex c) = refl
  value_same owned.Unit g (task c) = refl
  value_same (owned.Int i) g unit = refl
  value_same (owned.Int i) g int = refl
  value_same (owned.Int i) g (box c) = refl
  value_same (owned.Int i) g (mutex c) = refl
  value_same (owned.Int i) g (task c) = refl
  value_same (owned.Box p) g unit = refl
  value_same (owned.Box p) g int = refl
  value_same (owned.Box p) g (box c) = refl
  value_same (owned.Box p) g (mutex c) = refl
  value_same (owned.Box p) g (task c) = refl
  value_same (owned.Mutex m) g unit = refl
  value_same (owned.Mutex m) g int = refl
  value_same (owned.Mutex m) g (box c) = refl
  value_same (owned.Mutex m) g (mutex c) = ap (λ z. same_owned z c) (mutex_same m g.mutex_no g.first_mutex)
  value_same (owned.Mutex m) g (task c) = refl
  value_same (owned.Task t) g unit = refl
  value_same (owned.Task t) g int = refl
  value_same (owned.Task t) g (box c) = refl
  value_same (owned.Task t) g (mutex c) = refl
  value_same (owned.Task t) g (task c) = ap (λ z. same_owned z c) (thread_same t g.thread g.first_thread)

  -- a sum that is nothing is nothing at each thing
  at_thing : (f : Thing → ℕ) (x : Thing) → tot f b ≡ 0 → Among x b → f x ≡ 0
  at_thing f x z a = let l = has_weight f x b a in omega (arith, z, l)

  pub held_named : (p : Spot) (v : Owned) → Among (holds p v) b → Named v
  held_named p v a = record {
    thread = at_thing (threads lost_thread) (holds p v) all_threads a;
    first_thread = at_thing (threads zeroth_thread) (holds p v) no_zeroth a;
    mutex_no = at_thing (named_mutexes lost_mutex) (holds p v) all_mutexes a;
    first_mutex = at_thing (named_mutexes zeroth_mutex) (holds p v) no_zeroth_mutex a;
  }

  -- WHAT STANDS ANYWHERE

  content_mutex : (m : MutexNo) (v : Owned) → Among (holds (as_content m) v) b → after.mutex m ≡ co.types.typing.gives.mutex m
  content_mutex m v a =
      let self : one (same_mutex m m) ≡ 1 = ap one (mutex_self m) in
      let l = has_weight (contents (sight k) m) (holds (as_content m) v) b a in
      let homes : 1 ≤ tot (is_home_of m) b = omega (arith, self, l, co.sound.mutexes_and_tasks.one_content m) in
      mutex_same m (home_named lost_mutex m b all_mutexes homes) (home_named zeroth_mutex m b no_zeroth_mutex homes)

  result_thread : (t : ℕ) (v : Owned) → Among (holds (as_result t) v) b → after.result t ≡ co.types.typing.gives.result t
  result_thread t v a = thread_same t (result_named lost_thread k t v all_threads a) (result_named zeroth_thread k t v no_zeroth a)

  held_same : (p : Spot) (v : Owned) → Among (holds p v) b → misfit n2 (holds p v) ≡ misfit n (holds p v)
  held_same (as_content m) v a = ap (λ o. other (is_there v && fits n2 o v)) (content_mutex m v a) ∙ ap (λ q. other (is_there v && q)) (value_same v (held_named (as_content m) v a) (n.mutex m))
  held_same (as_result t) v a = ap (λ o. other (is_there v && fits n2 o v)) (result_thread t v a) ∙ ap (λ q. other (is_there v && q)) (value_same v (held_named (as_result t) v a) (n.result t))
  held_same (as_gift t) v a = refl
  held_same (in_slot t i) v a = refl
  held_same (in_temp t i) v a = refl
  held_same in_hand v a = refl

  both_none : (i j : ℕ) → i + j ≡ 0 → j ≡ 0
  both_none i j e = omega (arith, e)

  misfit_same : (x : Thing) → Among x b → misfit n2 x ≡ misfit n x
  misfit_same (holds p v) a = held_same p v a
  misfit_same (lies s i c) a =
      ap other (value_same c.value (record {
        thread = both_none (lost_thread c.object.thread) _ (at_thing (threads lost_thread) (lies s i c) all_threads a);
        first_thread = both_none (zeroth_thread c.object.thread) _ (at_thing (threads zeroth_thread) (lies s i c) no_zeroth a);
        mutex_no = at_thing (named_mutexes lost_mutex) (lies s i c) all_mutexes a;
        first_mutex = at_thing (named_mutexes zeroth_mutex) (lies s i c) no_zeroth_mutex a;
      }) (n.object c.object))
  misfit_same (flies w c) a =
      ap other (value_same c.value (record {
        thread = both_none (lost_thread c.object.thread) _ (at_thing (threads lost_thread) (flies w c) all_threads a);
        first_thread = both_none (zeroth_thread c.object.thread) _ (at_thing (threads zeroth_thread) (flies w c) no_zeroth a);
        mutex_no = at_thing (named_mutexes lost_mutex) (flies w c) all_mutexes a;
        first_mutex = at_thing (named_mutexes zeroth_mutex) (flies w c) no_zeroth_mutex a;
      }) (n.object c.object))
  misfit_same _ a = refl

  -- by these types too nothing misfits
  pub none_misfits : (x : Thing) → Among x b → misfit n2 x ≡ 0
  none_misfits x a =
      let all = co.types.agree in
      let l = has_weight (misfit n) x b a in
      misfit_same x a ∙ omega (arith, all, l)

  -- ITS VALUES, MARKS AND NUMBER

  module _ (x : Standing) (there : Among x (threads_in b)) where
    pub slot_named : (i : ℕ) (v : Owned) → slice_get x.thread.slots i ≡ Some (value.Own v) → Named v
    slot_named i v e = held_named (in_slot x.thread.number (0 + i)) v (slot_among k x there i (value.Own v) (holds (in_slot x.thread.number (0 + i)) v) e (inl refl))

    pub temp_named : (i : ℕ) (v : Owned) → slice_get x.thread.temps i ≡ Some (value.Own v) → Named v
    temp_named i v e = held_named (in_temp x.thread.number (0 + i)) v (temp_among k x there i (value.Own v) (holds (in_temp x.thread.number (0 + i)) v) e (inl refl))

    -- the mutex of a mark, and the thread itself
    pub mark_same : (i : ℕ) (m : MutexNo) → slice_get x.thread.slots i ≡ Some (value.Held m) → after.mutex m ≡ co.types.typing.gives.mutex m
    mark_same i m e =
        let a = slot_among k x there i (value.Held m) (locks (at_slot x.thread.number (0 + i)) m) e (inl refl) in
        mutex_same m (at_thing (named_mutexes lost_mutex) (locks (at_slot x.thread.number (0 + i)) m) all_mutexes a) (at_thing (named_mutexes zeroth_mutex) (locks (at_slot x.thread.number (0 + i)) m) no_zeroth_mutex a)

    stood : (f : Thing → ℕ) (c : List Thing) → tot f c ≡ 0 → Among x (threads_in c) → f (stands x.server x.packed x.thread) ≡ 0
    stood f [] z h = absurd h
    stood f (stands s p y ∷ c) z (inl e) = subst (λ (v : Standing). f (stands v.server v.packed v.thread) ≡ 0) e (omega (arith, z))
    stood f (stands s p y ∷ c) z (inr h) = stood f c (omega (arith, z)) h
    stood f (_ ∷ c) z h = stood f c (omega (arith, z)) h

    pub own_same : after.result x.thread.number ≡ co.types.typing.gives.result x.thread.number
    own_same =
        let l = stood (threads lost_thread) b all_threads there in
        let z = stood (threads zeroth_thread) b no_zeroth there in
        thread_same x.thread.number (omega (arith, l)) (omega (arith, z))
