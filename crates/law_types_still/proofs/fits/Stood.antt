-- An owned value among the things of a cluster stands in a slot, a temporary value or a gift of a thread, or as a content or a result that the one heap shows.
use Rattle.std.proofs.Common.{◌≡◌, ◌⊎◌, inl, inr, ℕ, ◌+◌, ◌≤◌, ◌%◌, ◌^◌, ◌==◌, ◌&&◌, ◌||◌, not, Bool, true, false, List, [], ◌∷◌, ◌++◌, length, Option, Some, None, is_some, refl, sym, ap, subst, ◌∙◌, arith}
use Rattle.std.specs.Prelude.{slice_get}
use Rattle.std.proofs.lemmas.Bool.Decides.{nat_tests}
use Rattle.law_heap_still.specs.Below.fr_base.declared.label.Plain.{Plain}
use Rattle.law_heap_still.specs.Below.fr_base.declared.name.MutexNo.{MutexNo}
use Rattle.law_heap_still.specs.Below.fr_base.declared.instruction.Instr.{Instr}
use Rattle.law_heap_still.specs.Below.fr_base.declared.instruction.Instr.TheVariants as instr
use Rattle.law_heap_still.specs.Below.fr_plain.declared.value.Value.TheVariants.{Own}
use Rattle.law_heap_still.specs.Below.fr_plain.MachineThreads.{ended}
use Rattle.law_heap_still.specs.Below.heap_partition.Plain.{plain_of}
use Rattle.law_heap_still.specs.Below.heap_partition.declared.value.Owned.{Owned}
use Rattle.law_heap_still.specs.Below.join_home.Tasks.{TaskState, going, let_go, kept, asked, in_pair}
use Rattle.law_heap_still.specs.Below.server_msgs.declared.message.Message.{Message}
use Rattle.law_heap_still.specs.Below.server_msgs.declared.message.Message.TheVariants as message
use Rattle.law_heap_still.specs.Below.thread_state.View.{is_over}
use Rattle.law_heap_still.specs.Below.thread_state.declared.value.Value.TheVariants as value
use Rattle.law_heap_still.specs.Below.server_model.Servers.{Cluster}
use Rattle.law_heap_still.specs.Below.coherent_memory.Names.{tot, one, other, some, if_so, Among, same_mutex}
use Rattle.law_heap_still.specs.Below.coherent_memory.Things.{Spot, in_slot, in_temp, as_gift, as_content, as_result, in_hand, Thing, holds, sent, stands, noted, things_at, gift_things, walk_things, slot_things, temp_things, things_of}
use Rattle.law_heap_still.specs.Below.coherent_memory.Follow.{Standing, threads_in, thread_at}
use Rattle.law_heap_still.specs.Below.coherent_memory.Sight.{Sight, sight}
use Rattle.law_heap_still.specs.Below.coherent_memory.Walking.{instr_of}
use Rattle.law_heap_still.specs.Below.coherent_memory.Paths.{joined_thread}
use Rattle.law_heap_still.specs.Below.coherent_memory.Requests.{locked_mutex, is_mutex, is_task, home_of}
use Rattle.law_heap_still.specs.Below.coherent_memory.Rooted.{is_end, dressed}
use Rattle.law_heap_still.specs.Below.coherent_memory.Sharing.{has_ended}
use Rattle.law_heap_still.specs.Below.coherent_memory.Weights.{is_thread}
use Rattle.law_heap_still.specs.Below.coherent_memory.Naming.{threads, started_at, uncounted_thread, zeroth_thread}
use Rattle.law_types_still.specs.fits.Fits.{StandsOnce}
use Rattle.law_heap_still.specs.Below.coherent_memory.OneHeap.{one_heap, mutex_n, task_n, inside, content_owner, result_owner, gift_owner, gift_owner_of, owner_of, is_in_state, if_in, or_else, first_shown, is_gift_of, content_value, share_in, if_there, is_joined_by, result_value, result_of, ended_with, life_of, life_at, if_given, is_given_thread}
use Rattle.law_heap_still.proofs.Below.law_counts_sums.MutexResults.{mutex_self}
use Rattle.law_types_still.specs.Below.law_words_paths.paths.HeapStore.{GoesOn}
use Rattle.law_types_still.proofs.Below.law_words_paths.paths.Shown.{none_else}
use Rattle.law_types_still.proofs.Below.law_words_paths.paths.Forms.{none_of}
use Rattle.law_types_still.proofs.Below.law_words_paths.paths.Contained.{among_thread, servers_contain}
use Rattle.law_types_still.proofs.Below.law_words_paths.paths.Origins.{Origin, of_thread, of_none, origin, Listed, in_slots, own_value, among_first}
use Rattle.law_heap_still.specs.events.Shows.{is_held}
use Rattle.law_heap_still.proofs.events.Told.{told, ones, at_thread, at_most, thread_told, found}
use Rattle.law_heap_still.proofs.events.Gifts.{placed, telling, places_told}
use Rattle.law_heap_still.proofs.events.Counting.{shown_result, result_shown}
use Rattle.law_heap_still.proofs.events.Alike.{Once}
use Rattle.law_types_still.proofs.fits.Once.{stands_once}
use Rattle.law_types_still.proofs.fits.Hands.{weighs}

-- LISTS

-- what one thing alone shows is what is shown first
pub only_shown : (f : Thing → Option Plain) (x : Thing) (v : Plain) (b : List Thing) → tot (λ y. told ones (f y)) b ≤ 1 → Among x b → f x ≡ Some v → first_shown f b ≡ Some v
only_shown f x v [] l h e = absurd h
only_shown f x v (y ∷ b) l (inl same) e = ap (λ o. or_else o (first_shown f b)) (ap f same ∙ e)
only_shown f x v (y ∷ b) l (inr h) e = by (f y) l (only_shown f x v b)
  where
    one_here : 1 ≤ told ones (f x)
    one_here = let q : told ones (f x) ≡ 1 = ap (told ones) e in omega (arith, q)

    by : (o : Option Plain) → told ones o + tot (λ z. told ones (f z)) b ≤ 1 → (tot (λ z. told ones (f z)) b ≤ 1 → Among x b → f x ≡ Some v → first_shown f b ≡ Some v) → or_else o (first_shown f b) ≡ Some v
    by None m go = go (omega (arith, m)) h e
    by (Some w) m go = let a = weighs (λ z. told ones (f z)) x b h in absurd (omega (arith, m, a, one_here))

number_itself : (n : ℕ) → (n == n) ≡ true
number_itself n = grind (arith, nat_tests)

not_empty : {A : Type 0} (xs : List A) (i : ℕ) (v : A) → length xs ≡ 0 → slice_get xs i ≡ Some v → ⊥
not_empty [] i v z e = absurd cc
not_empty (x ∷ xs) i v z e = absurd (omega (arith, z))

is_true : (b : Bool) → 1 ≤ one b → b ≡ true
is_true true l = refl
is_true false l = absurd (omega (arith, l))

same_slots : (t i u j : ℕ) → in_slot t i ≡ in_slot u j → (t ≡ u) × (i ≡ j)
same_slots t i u j e = (cc, cc)

same_temps : (t i u j : ℕ) → in_temp t i ≡ in_temp u j → (t ≡ u) × (i ≡ j)
same_temps t i u j e = (cc, cc)

slot_no_temp : (t i u j : ℕ) → in_slot t i ≡ in_temp u j → ⊥
slot_no_temp t i u j e = absurd cc

-- A GIFT'S OWNER

locked_of : (o : Option MutexNo) (m : MutexNo) → content_owner o ≡ inside (mutex_n m) → o ≡ Some m
locked_of None m e = absurd cc
locked_of (Some n) m e = let same : n ≡ m = cc in ap Some same

joined_of : (o : Option ℕ) (t : ℕ) → result_owner o ≡ inside (task_n t) → o ≡ Some t
joined_of None t e = absurd cc
joined_of (Some n) t e = let same : n ≡ t = cc in ap Some same

no_lock : (o : Option MutexNo) (t : ℕ) → content_owner o ≡ inside (task_n t) → ⊥
no_lock None t e = absurd cc
no_lock (Some n) t e = absurd cc

no_join : (o : Option ℕ) (m : MutexNo) → result_owner o ≡ inside (mutex_n m) → ⊥
no_join None m e = absurd cc
no_join (Some n) m e = absurd cc

module _ (s : Sight) (x : Standing) where
  gift_locked : (m : MutexNo) (i : Option Instr) → gift_owner s x i ≡ inside (mutex_n m) → locked_mutex s x i ≡ Some m
  gift_locked m (Some (instr.Lock w)) e = locked_of (locked_mutex s x (Some (instr.Lock w))) m e
  gift_locked m (Some (instr.Join o)) e = absurd (no_join (joined_thread (Some (instr.Join o)) x.thread) m e)
  gift_locked m _ e = absurd (cc e)

  gift_joined : (t : ℕ) (i : Option Instr) → gift_owner s x i ≡ inside (task_n t) → joined_thread i x.thread ≡ Some t
  gift_joined t (Some (instr.Lock w)) e = absurd (no_lock (locked_mutex s x (Some (instr.Lock w))) t e)
  gift_joined t (Some (instr.Join o)) e = joined_of (joined_thread (Some (instr.Join o)) x.thread) t e
  gift_joined t _ e = absurd (cc e)

given_by : (a b d : Bool) → one (b && not a) ≡ 0 → d ≡ true → a || (not b && d) ≡ true
given_by true b d z e = refl
given_by false true d z e = absurd cc
given_by false false d z e = e

or_second : (a b : Bool) → b ≡ true → a || b ≡ true
or_second true b e = refl
or_second false b e = e

none_at : (f : Thing → ℕ) (x : Standing) (b : List Thing) → tot f b ≡ 0 → Among x (threads_in b) → f (stands x.server x.packed x.thread) ≡ 0
none_at f x [] z h = absurd h
none_at f x (stands s p t ∷ b) z (inl e) = subst (λ (y : Standing). f (stands y.server y.packed y.thread) ≡ 0) e (omega (arith, z))
none_at f x (stands s p t ∷ b) z (inr h) = none_at f x b (omega (arith, z)) h
none_at f x (_ ∷ b) z h = none_at f x b (omega (arith, z)) h

module _ (k : Cluster) (each_once : StandsOnce k) where
  abbrev s : Sight
  s = sight k

  abbrev b : List Thing
  b = things_of k

  -- IN THREADS

  bare : (x : Standing) → Among x s.ground.threads → is_over x.thread.phase ≡ true → (length x.thread.slots ≡ 0) × (length x.thread.temps ≡ 0)
  bare x h over =
      let all = none_of (dressed s) x s.ground.threads each_once.numbers.over_are_bare h in
      let here = sym (ap (λ q. if_so q (other (is_end (instr_of s x)) + length x.thread.slots + length x.thread.temps + one (is_some x.thread.gift))) over) ∙ all in
      (omega (arith, here), omega (arith, here))

  with_things : (x : Standing) → Among x s.ground.threads → ((is_over x.thread.phase ≡ true) → ⊥) → GoesOn k x
  with_things x h f = record { among = h; going = by (is_over x.thread.phase) refl }
    where
      by : (q : Bool) → is_over x.thread.phase ≡ q → q ≡ false
      by true e = absurd (f e)
      by false e = refl

  -- the thread that has it
  pub record InSlot (i : ℕ) (v : Owned) : Type 0 where
    pub thread : Standing
    pub goes : GoesOn k thread
    pub is : slice_get thread.thread.slots i ≡ Some (value.Own v)

  pub record InTemp (i : ℕ) (v : Owned) : Type 0 where
    pub thread : Standing
    pub goes : GoesOn k thread
    pub is : slice_get thread.thread.temps i ≡ Some (value.Own v)

  pub slot_stood : (t i : ℕ) (v : Owned) → Among (holds (in_slot t i) v) b → InSlot i v
  slot_stood t i v h = by (origin k (holds (in_slot t i) v) h)
    where
      with_slot : (x : Standing) → Among x s.ground.threads → Listed (slot_things x.server x.thread.number) (holds (in_slot t i) v) 0 x.thread.slots → InSlot i v
      with_slot x hx q =
          let r = own_value x.server (in_slot x.thread.number (0 + q.number)) (in_slot t i) _ v q.element q.among in
          let n = (same_slots t i x.thread.number (0 + q.number) r.1).1 in
          let at : i ≡ q.number = omega (arith, n) in
          let there : slice_get x.thread.slots i ≡ Some (value.Own v) = ap (slice_get x.thread.slots) at ∙ q.is ∙ ap Some r.0 in
          record { thread = x; goes = with_things x hx (λ o. not_empty x.thread.slots i (value.Own v) (bare x hx o).0 there); is = there }

      with_temp : (x : Standing) → Listed (temp_things x.server x.thread.number) (holds (in_slot t i) v) 0 x.thread.temps → InSlot i v
      with_temp x q = let r = own_value x.server (in_temp x.thread.number (0 + q.number)) (in_slot t i) _ v q.element q.among in absurd (slot_no_temp t i x.thread.number (0 + q.number) r.1)

      either : (x : Standing) → Among x s.ground.threads → Listed (slot_things x.server x.thread.number) (holds (in_slot t i) v) 0 x.thread.slots ⊎ Listed (temp_things x.server x.thread.number) (holds (in_slot t i) v) 0 x.thread.temps → InSlot i v
      either x hx (inl q) = with_slot x hx q
      either x hx (inr q) = with_temp x q

      by : Origin b (holds (in_slot t i) v) → InSlot i v
      by (of_none z) = absurd (omega (arith, z))
      by (of_thread x hx q) = either x hx (in_slots x.server x.packed x.thread (holds (in_slot t i) v) refl q)

  pub temp_stood : (t i : ℕ) (v : Owned) → Among (holds (in_temp t i) v) b → InTemp i v
  temp_stood t i v h = by (origin k (holds (in_temp t i) v) h)
    where
      with_temp : (x : Standing) → Among x s.ground.threads → Listed (temp_things x.server x.thread.number) (holds (in_temp t i) v) 0 x.thread.temps → InTemp i v
      with_temp x hx q =
          let r = own_value x.server (in_temp x.thread.number (0 + q.number)) (in_temp t i) _ v q.element q.among in
          let n = (same_temps t i x.thread.number (0 + q.number) r.1).1 in
          let at : i ≡ q.number = omega (arith, n) in
          let there : slice_get x.thread.temps i ≡ Some (value.Own v) = ap (slice_get x.thread.temps) at ∙ q.is ∙ ap Some r.0 in
          record { thread = x; goes = with_things x hx (λ o. not_empty x.thread.temps i (value.Own v) (bare x hx o).1 there); is = there }

      with_slot : (x : Standing) → Listed (slot_things x.server x.thread.number) (holds (in_temp t i) v) 0 x.thread.slots → InTemp i v
      with_slot x q = let r = own_value x.server (in_slot x.thread.number (0 + q.number)) (in_temp t i) _ v q.element q.among in absurd (slot_no_temp x.thread.number (0 + q.number) t i (sym r.1))

      either : (x : Standing) → Among x s.ground.threads → Listed (slot_things x.server x.thread.number) (holds (in_temp t i) v) 0 x.thread.slots ⊎ Listed (temp_things x.server x.thread.number) (holds (in_temp t i) v) 0 x.thread.temps → InTemp i v
      either x hx (inl q) = with_slot x q
      either x hx (inr q) = with_temp x hx q

      by : Origin b (holds (in_temp t i) v) → InTemp i v
      by (of_none z) = absurd (omega (arith, z))
      by (of_thread x hx q) = either x hx (in_slots x.server x.packed x.thread (holds (in_temp t i) v) refl q)

  -- GIFTS

  module _ (t : ℕ) where
    abbrev mine : ℕ → ℕ
    mine u = one (u == t)

    abbrev has_gift : Standing → ℕ
    has_gift x = one (is_some x.thread.gift)

    no_kept : (u : ℕ) (z : TaskState) → telling (λ m. 0) (λ r. 0) mine (noted 0 (record { thread = u; state = z })) ≤ 0
    no_kept u (kept v) = omega arith
    no_kept u going = omega arith
    no_kept u let_go = omega arith
    no_kept u (asked r w) = omega arith
    no_kept u (in_pair p d) = omega arith

    no_sent : (r : ℕ) (m : Message) → telling (λ m. 0) (λ r. 0) mine (sent r m) ≤ 0
    no_sent r (message.Finished u v) = omega arith
    no_sent r (message.Joined u v w) = omega arith
    no_sent r _ = omega arith

    no_held : (p : Spot) (v : Owned) → telling (λ m. 0) (λ r. 0) mine (holds p v) ≤ 0
    no_held (as_content m) v = omega arith
    no_held (as_result u) v = omega arith
    no_held (as_gift u) v = omega arith
    no_held (in_slot u i) v = omega arith
    no_held (in_temp u i) v = omega arith
    no_held in_hand v = omega arith

    both : (p q : Bool) → if_so p (one q) ≤ if_so q (one p)
    both true true = omega arith
    both true false = omega arith
    both false true = omega arith
    both false false = omega arith

    gift_tells : (x : Thing) → telling (λ m. 0) (λ r. 0) mine x ≤ at_thread has_gift t x
    gift_tells (holds p v) = no_held p v
    gift_tells (noted r x) = no_kept x.thread x.state
    gift_tells (sent r m) = no_sent r m
    gift_tells (stands r p x) = both (is_some x.gift) (x.number == t)
    gift_tells _ = omega arith

    -- a gift's thread has one
    pub gift_stood : (v : Owned) (x : Standing) → Among (holds (as_gift t) v) b → thread_at s.ground.threads t ≡ Some x → is_some x.thread.gift ≡ true
    gift_stood v x h e =
        let here : one (t == t) ≡ 1 = ap one (number_itself t) in
        let a = weighs (placed (λ m. 0) (λ r. 0) mine) (holds (as_gift t) v) b h in
        let c = places_told (λ m. 0) (λ r. 0) mine k in
        let d = at_most (telling (λ m. 0) (λ r. 0) mine) (at_thread has_gift t) gift_tells b in
        let f = thread_told has_gift t b (each_once.numbers.numbers_differ t) in
        let g : told has_gift (thread_at (threads_in b) t) ≡ one (is_some x.thread.gift) = ap (told has_gift) e in
        is_true (is_some x.thread.gift) (omega (arith, here, a, c, d, f, g))

  -- a gift of a thread is one of the things, and has the owner that its thread tells
  module _ (x : Standing) (a : Among x s.ground.threads) where
    pub gift_among : (v : Owned) → x.thread.gift ≡ Some v → Among (holds (as_gift x.thread.number) v) s.things
    gift_among v e =
        let t = x.thread.number in
        let w = things_at (walk_things x.server) 0 x.thread.walk in
        let p = things_at (slot_things x.server t) 0 x.thread.slots in
        let q = things_at (temp_things x.server t) 0 x.thread.temps in
        let first : Among (holds (as_gift t) v) (gift_things t x.thread.gift) = subst (λ o. Among (holds (as_gift t) v) (gift_things t o)) (sym e) (inl refl) in
        servers_contain k.servers x a (holds (as_gift t) v)
        (inr (among_first (holds (as_gift t) v) (gift_things t x.thread.gift ++ w ++ p) q (among_first (holds (as_gift t) v) (gift_things t x.thread.gift ++ w) p (among_first (holds (as_gift t) v) (gift_things t x.thread.gift) w first))))

    pub gift_owned : (v : Owned) → owner_of s (holds (as_gift x.thread.number) v) ≡ gift_owner s x (instr_of s x)
    gift_owned v = ap (gift_owner_of s) (found x b (each_once.numbers.numbers_differ x.thread.number) a)

  -- CONTENTS

  is_locked : (x : Standing) (m : MutexNo) → is_some x.thread.gift ≡ true → locked_mutex s x (instr_of s x) ≡ Some m → is_gift_of s m (Some x) ≡ true
  is_locked x m g e = ap (λ q. some (if_so q (one (is_mutex m (locked_mutex s x (instr_of s x)))))) g ∙ ap (λ o. some (one (is_mutex m o))) e ∙ ap (λ q. some (one q)) (mutex_self m)

  is_awaited : (x : Standing) (t : ℕ) → is_some x.thread.gift ≡ true → joined_thread (instr_of s x) x.thread ≡ Some t → is_joined_by s t (Some x) ≡ true
  is_awaited x t g e = ap (λ q. some (if_so q (one (is_task t (joined_thread (instr_of s x) x.thread))))) g ∙ ap (λ o. some (one (is_task t o))) e ∙ ap (λ q. some (one q)) (number_itself t)

  -- a value whose owner is a mutex shows as its content
  pub content_shows : (p : Spot) (v : Owned) (m : MutexNo) → Among (holds p v) b → owner_of s (holds p v) ≡ inside (mutex_n m) → content_value s m (holds p v) ≡ Some (plain_of v)
  content_shows (as_content n) v m h e = let same : n ≡ m = cc in ap (λ q. if_in q (Some (plain_of v))) (subst (λ z. same_mutex z m ≡ true) (sym same) (mutex_self m))
  content_shows (as_gift t) v m h e = by (thread_at s.ground.threads t) refl e
    where
      by : (o : Option Standing) → thread_at s.ground.threads t ≡ o → gift_owner_of s o ≡ inside (mutex_n m) → if_in (is_gift_of s m o) (Some (plain_of v)) ≡ Some (plain_of v)
      by None at q = absurd cc
      by (Some x) at q = ap (λ z. if_in z (Some (plain_of v))) (is_locked x m (gift_stood t v x h at) (gift_locked s x m (instr_of s x) q))
  content_shows (as_result u) v m h e = absurd cc
  content_shows (in_slot u i) v m h e = absurd cc
  content_shows (in_temp u i) v m h e = absurd cc
  content_shows in_hand v m h e = absurd cc

  -- so does one whose owner is a thread's result
  pub result_shows : (p : Spot) (v : Owned) (t : ℕ) → Among (holds p v) b → owner_of s (holds p v) ≡ inside (task_n t) → result_value s t (holds p v) ≡ Some (plain_of v)
  result_shows (as_result u) v t h e = let same : u ≡ t = cc in ap (λ q. if_in q (Some (plain_of v))) (subst (λ z. (z == t) ≡ true) (sym same) (number_itself t))
  result_shows (as_gift u) v t h e = by (thread_at s.ground.threads u) refl e
    where
      by : (o : Option Standing) → thread_at s.ground.threads u ≡ o → gift_owner_of s o ≡ inside (task_n t) → if_in (is_joined_by s t o) (Some (plain_of v)) ≡ Some (plain_of v)
      by None at q = absurd cc
      by (Some x) at q = ap (λ z. if_in z (Some (plain_of v))) (is_awaited x t (gift_stood u v x h at) (gift_joined s x t (instr_of s x) q))
  result_shows (as_content m) v t h e = absurd cc
  result_shows (in_slot u i) v t h e = absurd cc
  result_shows (in_temp u i) v t h e = absurd cc
  result_shows in_hand v t h e = absurd cc

  once : Once s
  once = stands_once k each_once

  -- the content of a mutex that is in the one heap is shown there
  pub content_there : (p : Spot) (v : Owned) (m : MutexNo) → Among (holds p v) b → owner_of s (holds p v) ≡ inside (mutex_n m) → is_in_state s (mutex_n m) ≡ true
      → (one_heap k).mutex m ≡ Some (record { content = Some (plain_of v); shares = tot (share_in s m) s.things })
  content_there p v m h e is =
      ap (λ q. if_there q (record { content = first_shown (content_value s m) s.things; shares = tot (share_in s m) s.things })) is
      ∙ ap (λ o. Some (record { content = o; shares = tot (share_in s m) s.things })) (only_shown (content_value s m) (holds p v) (plain_of v) b (once.contents m) h (content_shows p v m h e))

  -- RESULTS

  standing_given : (t : ℕ) (x : Standing) → thread_at s.ground.threads t ≡ Some x → is_given_thread s t ≡ true
  standing_given t x e =
      let q = among_thread s.ground.threads t x e in
      let counted : tot (threads (uncounted_thread s)) b ≡ 0 = (let z = each_once.numbers.names_counted in omega (arith, z)) in
      let zeroth : tot (threads zeroth_thread) b ≡ 0 = (let z = each_once.numbers.counts_from_one in omega (arith, z)) in
      let c : uncounted_thread s x.thread.number ≡ 0 = (let z = none_at (threads (uncounted_thread s)) x b counted q.0 in omega (arith, z)) in
      let d : zeroth_thread x.thread.number ≡ 0 = (let z = none_at (threads zeroth_thread) x b zeroth q.0 in omega (arith, z)) in
      let n = x.thread.number in
      subst (λ i. is_given_thread s i ≡ true) q.1 (given_by (n == 0) (n % 2 ^ 32 == 0) (some (tot (started_at (home_of n) (n % 2 ^ 32)) b)) d (none_else (some (tot (started_at (home_of n) (n % 2 ^ 32)) b)) c))

  module _ (t : ℕ) where
    ended_is : Standing → ℕ
    ended_is x = one (is_over x.thread.phase)

    ended_at : (x : Thing) → has_ended t x ≤ at_thread (λ y. one (is_over y.thread.phase)) t x
    ended_at (stands r p x) = by (x.number == t) (x.number == 0) (is_over x.phase)
      where
        by : (a c d : Bool) → one (a && (not c && d)) ≤ if_so a (one d)
        by true true d = omega arith
        by true false d = omega arith
        by false c d = omega arith
    ended_at _ = omega arith

    -- the thread of a result that is shown stands somewhere, and is over
    pub ended_stands : (x : Thing) (v : Plain) → Among x b → shown_result s t x ≡ Some v → (y : Standing) × (thread_at s.ground.threads t ≡ Some y) × (is_over y.thread.phase ≡ true)
    ended_stands x v h e =
        let here : told ones (shown_result s t x) ≡ 1 = ap (told ones) e in
        let a = weighs (λ y. told ones (shown_result s t y)) x b h in
        let c = once.ends t in
        let d = at_most (has_ended t) (at_thread (λ y. one (is_over y.thread.phase)) t) ended_at b in
        let f = thread_told (λ y. one (is_over y.thread.phase)) t b (each_once.numbers.numbers_differ t) in
        by (thread_at (threads_in b) t) refl (omega (arith, here, a, c, d, f))
      where
        by : (o : Option Standing) → thread_at (threads_in b) t ≡ o → 1 ≤ told (λ (y : Standing). one (is_over y.thread.phase)) (thread_at (threads_in b) t) → (y : Standing) × (thread_at s.ground.threads t ≡ Some y) × (is_over y.thread.phase ≡ true)
        by None q l = absurd (let z : told (λ (y : Standing). one (is_over y.thread.phase)) (thread_at (threads_in b) t) ≡ 0 = ap (told (λ (y : Standing). one (is_over y.thread.phase))) q in omega (arith, l, z))
        by (Some y) q l = (y, q, is_true (is_over y.thread.phase) (let z : told (λ (y : Standing). one (is_over y.thread.phase)) (thread_at (threads_in b) t) ≡ one (is_over y.thread.phase) = ap (told (λ (y : Standing). one (is_over y.thread.phase))) q in omega (arith, l, z)))

    few_ended : tot (has_ended t) b ≤ 1
    few_ended = let a = at_most (has_ended t) (is_thread t) less b in omega (arith, a, each_once.numbers.numbers_differ t)
      where
        less : (x : Thing) → has_ended t x ≤ is_thread t x
        less (stands r p x) = by (x.number == t) (x.number == 0) (is_over x.phase)
          where
            by : (a c d : Bool) → one (a && (not c && d)) ≤ one a
            by true true d = omega arith
            by true false true = omega arith
            by true false false = omega arith
            by false c d = omega arith
        less _ = omega arith

  -- the result of a thread whose task is in the one heap is shown there
  pub result_there : (p : Spot) (v : Owned) (t : ℕ) → Among (holds p v) b → owner_of s (holds p v) ≡ inside (task_n t) → is_in_state s (task_n t) ≡ true → (one_heap k).thread t ≡ Some (ended (Own (plain_of v)))
  result_there p v t h e is =
      let shows : shown_result s t (holds p v) ≡ Some (plain_of v) = result_shows p v t h e in
      let few : tot (λ x. told ones (shown_result s t x)) b ≤ 1 = (let a = once.ends t in let c = few_ended t in omega (arith, a, c)) in
      let y = ended_stands t (holds p v) (plain_of v) h shows in
      let number = (among_thread s.ground.threads t y.0 y.1).1 in
      let result : result_of s t ≡ Some (plain_of v) =
      result_shown s t few ∙ ap (λ q. if_in q (first_shown (shown_result s t) s.things)) (or_second (is_held s t) (is_in_state s (task_n t)) is) ∙ only_shown (shown_result s t) (holds p v) (plain_of v) b few h shows in
      ap (λ q. if_given q (life_at s t (thread_at s.ground.threads t))) (standing_given t y.0 y.1)
      ∙ ap (λ o. Some (life_at s t o)) y.1 ∙ ap (λ q. Some (life_of s y.0.thread q)) y.2
      ∙ ap (λ n. Some (ended_with (result_of s n))) number ∙ ap (λ o. Some (ended_with o)) result
