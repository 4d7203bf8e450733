-- In a sound cluster a server's cache has a word once, and the marks, messages and gifts that tell who holds a mutex's content are one at most.
use Rattle.std.proofs.Common.{◌≡◌, ◌≤◌, ℕ, zero, suc, ◌+◌, ◌==◌, ◌&&◌, Bool, true, false, if◌then◌else◌, List, [], ◌∷◌, ◌++◌, Option, Some, None, refl, subst, arith}
use Rattle.std.proofs.lemmas.Bool.Decides.{nat_tests}
use Rattle.law_words_ends.proofs.Below.fr_typing.PlaceLemmas.{eq_cases}
use Rattle.law_words_ends.specs.Below.fr_base.declared.name.MutexNo.{MutexNo}
use Rattle.law_words_ends.specs.Below.heap_partition.Plain.{plain_of}
use Rattle.law_words_ends.specs.Below.heap_partition.declared.value.Cell.{Cell}
use Rattle.law_words_ends.specs.Below.heap_partition.declared.value.Owned.{Owned}
use Rattle.law_words_ends.specs.Below.mut_borrow.declared.shared.SharedRef.{SharedRef}
use Rattle.law_words_ends.specs.Below.law_words_values.Below.read_cache.Cache.{Copy, copy_of}
use Rattle.law_words_ends.specs.Below.mutex_home.Mutexes.{Mutex}
use Rattle.law_words_ends.specs.Below.join_home.Tasks.{TaskState, kept}
use Rattle.law_words_ends.specs.Below.thread_state.View.{ThreadState}
use Rattle.law_words_ends.specs.Below.thread_state.declared.value.Value.{Value}
use Rattle.law_words_ends.specs.Below.thread_state.declared.value.Value.TheVariants as value
use Rattle.law_words_ends.specs.Below.server_msgs.declared.message.Message.{Message}
use Rattle.law_words_ends.specs.Below.server_msgs.declared.message.Message.TheVariants as message
use Rattle.law_words_ends.specs.Below.server_model.Servers.{Server, Cluster}
use Rattle.law_words_ends.specs.Below.law_words_kept.Below.coloured_heap.Heap.{Copied}
use Rattle.law_words_ends.specs.Below.coherent_memory.Names.{tot, one, other, some, same_mutex}
use Rattle.law_words_ends.specs.Below.coherent_memory.Things.{Spot, Location, at_slot, at_temp, in_cell, Thing, locks, sent, stands, copied, uses, retired, things_at, pin_things, value_things, slot_things, temp_things, gift_things, walk_things, thread_things, standing_things, message_things, waiting_things, leaving_things, is_free, cell_things, free_things, copy_things, content_things, queue_things, mutex_things, result_things, task_things, server_things, servers_things, things_of}
use Rattle.law_words_ends.specs.Below.coherent_memory.Follow.{Standing}
use Rattle.law_words_ends.specs.Below.coherent_memory.Sight.{Sight, sight}
use Rattle.law_words_ends.specs.Below.coherent_memory.Walking.{sum_threads}
use Rattle.law_words_ends.specs.Below.coherent_memory.OneHeap.{or_else}
use Rattle.law_words_ends.specs.Below.coherent_memory.Naming.{same_word, cached_twice, servers_wrong, pinned_parcel}
use Rattle.law_words_ends.specs.Below.coherent_memory.Weights.{cached}
use Rattle.law_words_ends.specs.Below.coherent_memory.Sharing.{gift_content, contents}
use Rattle.law_words_ends.specs.Below.coherent_memory.Coherent.{IsSound}
use Rattle.law_words_ends.proofs.Below.coherent_memory.Sums.{tot-append, server_parts}
use Rattle.law_words_ends.proofs.Below.law_counts_sums.Trades.{tot-front}
use Rattle.law_words_ends.proofs.Below.law_counts_sums.Askers.{other_none}
use Rattle.law_words_ends.proofs.Below.law_heap_still.events.Once.{few_homes}
use Rattle.law_words_ends.proofs.Below.law_heap_still.events.Told.{at_most, told, ones}
use Rattle.law_entries_variables.proofs.deliveries.Weighed.{Bare}
use Rattle.law_entries_variables.proofs.deliveries.Carried.{cluster_less, is_sent}
use Rattle.law_entries_variables.proofs.deliveries.Shown.{if_some, copy_in, holder_by}

-- COPIES

-- a list of copies with a word once
module _ (n v : ℕ) where
  found_less : (g : Copy → ℕ) (cs : List Copy) (c : Copy) → copy_of cs v ≡ Some c → g c ≤ tot g cs
  found_less g [] c e = absurd (cc e)
  found_less g (x ∷ cs) c e =
      eq_cases (λ b. (if b then Some x else copy_of cs v) ≡ Some c → g c ≤ tot g (x ∷ cs)) x.word v
      (λ q d. let same : x ≡ c = cc in subst (λ y. g y ≤ tot g (x ∷ cs)) same (omega arith)) (λ ne d. omega (arith, found_less g cs c d)) e

  none_found : (cs : List Copy) → copy_of cs v ≡ None → tot (same_word v) cs ≡ 0
  none_found [] e = refl
  none_found (x ∷ cs) e = eq_cases (λ b. (if b then Some x else copy_of cs v) ≡ None → one b + tot (same_word v) cs ≡ 0) x.word v (λ q d. absurd (cc d)) (λ ne d. omega (arith, none_found cs d)) e

  word_is : (cs : List Copy) (c : Copy) → copy_of cs v ≡ Some c → c.word ≡ v
  word_is [] c e = absurd (cc e)
  word_is (x ∷ cs) c e =
      eq_cases (λ b. (if b then Some x else copy_of cs v) ≡ Some c → c.word ≡ v) x.word v
      (λ q d. let same : x ≡ c = cc in subst (λ (y : Copy). y.word ≡ v) same q) (λ ne d. word_is cs c d) e

  once : (cs : List Copy) → tot (cached_twice cs) cs ≡ 0 → tot (same_word v) cs ≤ 1
  once cs z = by (copy_of cs v) refl
    where
      is_one : (m : ℕ) (b : Bool) → (m == 1) ≡ b → other b ≡ 0 → m ≤ 1
      is_one m true e q = let same : m ≡ 1 = grind (arith, nat_tests, e) in omega (arith, same)
      is_one m false e q = absurd (cc q)

      by : (o : Option Copy) → copy_of cs v ≡ o → tot (same_word v) cs ≤ 1
      by None e = omega (arith, none_found cs e)
      by (Some c) e =
          let mine : other (tot (same_word c.word) cs == 1) ≡ 0 = omega (arith, z, found_less (cached_twice cs) cs c e) in
          subst (λ j. tot (same_word j) cs ≤ 1) (word_is cs c e) (is_one (tot (same_word c.word) cs) (tot (same_word c.word) cs == 1) refl mine)

module _ (r0 w0 : ℕ) where
  none_at : {X : Type 0} (g : ℕ → X → List Thing) → ((i : ℕ) (x : X) → tot (cached r0 w0) (g i x) ≡ 0) → (i : ℕ) (xs : List X) → tot (cached r0 w0) (things_at g i xs) ≡ 0
  none_at g z i [] = refl
  none_at g z i (x ∷ xs) = omega (arith, z i x, none_at g z (i + 1) xs, tot-append (cached r0 w0) (g i x) (things_at g (i + 1) xs))

  cell_none : (r : ℕ) (free : List (ℕ × ℕ)) (a : ℕ) (c : Option Cell) → tot (cached r0 w0) (cell_things r free a c) ≡ 0
  cell_none r free a (Some c) = refl
  cell_none r free a None = by (is_free a free)
    where
      by : (b : Bool) → tot (cached r0 w0) (if b then [] else retired r a ∷ []) ≡ 0
      by true = refl
      by false = refl

  pin_none : (r : ℕ) (q : SharedRef) → tot (cached r0 w0) (pin_things r q) ≡ 0
  pin_none r q = by q.pinned
    where
      by : (b : Bool) → tot (cached r0 w0) (if b then uses r q.word ∷ [] else []) ≡ 0
      by true = refl
      by false = refl

  value_none : (r : ℕ) (p : Spot) (l : Location) (x : Value) → tot (cached r0 w0) (value_things r p l x) ≡ 0
  value_none r p l (value.Shared q) = omega (arith, pin_none r q)
  value_none r p l _ = refl

  gift_none : (t : ℕ) (g : Option Owned) → tot (cached r0 w0) (gift_things t g) ≡ 0
  gift_none t None = refl
  gift_none t (Some x) = refl

  thread_none : (r : ℕ) (p : Bool) (x : ThreadState) → tot (cached r0 w0) (thread_things r p x) ≡ 0
  thread_none r p x =
      let g = gift_things x.number x.gift in
      let w = things_at (walk_things r) 0 x.walk in
      let a = things_at (slot_things r x.number) 0 x.slots in
      let b = things_at (temp_things r x.number) 0 x.temps in
      omega (
        arith,
        gift_none x.number x.gift,
        none_at (walk_things r) (λ i y. refl) 0 x.walk,
        none_at (slot_things r x.number) (λ i y. value_none r _ _ y) 0 x.slots,
        none_at (temp_things r x.number) (λ i y. value_none r _ _ y) 0 x.temps,
        tot-append (cached r0 w0) (g ++ w ++ a) b,
        tot-append (cached r0 w0) (g ++ w) a,
        tot-append (cached r0 w0) g w,
      )

  message_none : (r : ℕ) (m : Message) → tot (cached r0 w0) (message_things r m) ≡ 0
  message_none r (message.Start x) = omega (arith, thread_none r true x)
  message_none r (message.Migrate x) = omega (arith, thread_none r true x)
  message_none r _ = refl

  content_none : (m : MutexNo) (c : Option Owned) → tot (cached r0 w0) (content_things m c) ≡ 0
  content_none m None = refl
  content_none m (Some x) = refl

  mutex_none : (r i : ℕ) (m : Mutex) → tot (cached r0 w0) (mutex_things r i m) ≡ 0
  mutex_none r i m = omega (arith, content_none m.number m.content, none_at (queue_things m.number) (λ j x. refl) 0 m.queue, tot-append (cached r0 w0) (content_things m.number m.content) (things_at (queue_things m.number) 0 m.queue))

  result_none : (t : ℕ) (x : TaskState) → tot (cached r0 w0) (result_things t x) ≡ 0
  result_none t (kept x) = refl
  result_none t _ = refl

  copies_alone : (s : Server) → tot (cached r0 w0) (server_things s) ≡ tot (cached r0 w0) (things_at (copy_things s.rest.number) 0 s.rest.cache)
  copies_alone s =
      let r = s.rest.number in
      let p = s.rest.partition in
      omega (
        arith,
        server_parts (cached r0 w0) s,
        none_at (cell_things r p.free) (cell_none r p.free) 0 p.cells,
        none_at (free_things r) (λ i x. refl) 0 p.free,
        tot-append (cached r0 w0) (things_at (cell_things r p.free) 0 p.cells) (things_at (free_things r) 0 p.free),
        none_at (mutex_things r) (mutex_none r) 0 s.rest.mutexes.there,
        none_at (task_things r) (λ i x. omega (arith, result_none x.thread x.state)) 0 s.rest.tasks,
        none_at (standing_things r) (λ i x. thread_none r false x) 0 s.threads,
        none_at (waiting_things r) (λ i x. message_none r x) 0 s.rest.inbox,
        none_at leaving_things (λ i x. message_none x.target x.message) 0 s.rest.outbox,
      )

  away : (b c : Bool) → b ≡ false → one (b && c) ≡ 0
  away true c e = absurd (cc e)
  away false c e = refl

  elsewhere : (s : Server) → (s.rest.number == r0) ≡ false → tot (cached r0 w0) (server_things s) ≡ 0
  elsewhere s e = omega (arith, copies_alone s, none_at (copy_things s.rest.number) (λ i c. omega (arith, away (s.rest.number == r0) (c.word == w0) e)) 0 s.rest.cache)

  within : (b c : Bool) → one (b && c) ≤ one c
  within true c = omega arith
  within false c = omega arith

  by_words : (n : ℕ) (cs : List Copy) → tot (cached r0 w0) (things_at (copy_things n) 0 cs) ≤ tot (same_word w0) cs
  by_words n [] = omega arith
  by_words n (c ∷ cs) = omega (arith, tot-front (λ x. copied n x ∷ []) (cached r0 w0) 0 c cs, by_words n cs, within (n == r0) (c.word == w0))

  same_none : (q : Bool) (n : ℕ) → q ≡ true → q ≡ false → n ≡ 0
  same_none true n e d = absurd (cc d)
  same_none false n e d = absurd (cc e)

  -- servers by rising number
  cached_in : (q : Sight) (i : ℕ) (ss : List Server) → servers_wrong q i ss ≡ 0 → (tot (cached r0 w0) (servers_things ss) ≤ 1) × ((n : ℕ) → r0 + suc n ≡ i → tot (cached r0 w0) (servers_things ss) ≡ 0)
  cached_in q i [] z = (omega arith, λ n l. refl)
  cached_in q i (s ∷ ss) z = by (s.rest.number == r0) refl (cached_in q (i + 1) ss (omega (arith, z)))
    where
      number : s.rest.number ≡ i
      number = let e : (s.rest.number == i) ≡ true = other_none (s.rest.number == i) (omega (arith, z)) in grind (arith, nat_tests, e)

      by : (b : Bool) → (s.rest.number == r0) ≡ b → (tot (cached r0 w0) (servers_things ss) ≤ 1) × ((n : ℕ) → r0 + suc n ≡ i + 1 → tot (cached r0 w0) (servers_things ss) ≡ 0)
          → (tot (cached r0 w0) (servers_things (s ∷ ss)) ≤ 1) × ((n : ℕ) → r0 + suc n ≡ i → tot (cached r0 w0) (servers_things (s ∷ ss)) ≡ 0)
      by true e later =
          let same : s.rest.number ≡ r0 = grind (arith, nat_tests, e) in
          let words : tot (same_word w0) s.rest.cache ≤ 1 = once 0 w0 s.rest.cache (omega (arith, z)) in
          let none : tot (cached r0 w0) (servers_things ss) ≡ 0 = later.1 zero (omega (arith, same, number)) in
          (omega (arith, tot-append (cached r0 w0) (server_things s) (servers_things ss), copies_alone s, by_words s.rest.number s.rest.cache, words, none), λ n l. absurd (omega (arith, l, same, number)))
      by false e later =
          let here : tot (cached r0 w0) (server_things s) ≡ 0 = elsewhere s e in
          (omega (arith, tot-append (cached r0 w0) (server_things s) (servers_things ss), here, later.0), λ n l. omega (arith, tot-append (cached r0 w0) (server_things s) (servers_things ss), here, later.1 (suc n) (omega (arith, l))))

one_told : {A : Type 0} (q : Bool) (x : A) → told ones (if_some q x) ≡ one q
one_told true x = refl
one_told false x = refl

pub copies_once : (k : Cluster) → IsSound k → (r w : ℕ) → tot (λ x. told ones (copy_in r w x)) (things_of k) ≤ 1
copies_once k sound r w =
    let parts : servers_wrong (sight k) 0 k.servers + sum_threads (sight k) pinned_parcel ≡ 0 = sound.parts.parts_are_typed in
    omega (arith, at_most (λ x. told ones (copy_in r w x)) (cached r w) each (things_of k), (cached_in r w (sight k) 0 k.servers (omega (arith, parts))).0)
  where
    each : (x : Thing) → told ones (copy_in r w x) ≤ cached r w x
    each (copied q c) = let e = one_told {A = Copied} (q == r && c.word == w) (record { server = q; word = c.word; object = c.cell.object; value = plain_of c.cell.value }) in omega (arith, e)
    each _ = omega arith

-- HOLDERS

module _ (k : Cluster) (m : MutexNo) where
  abbrev held_once : Thing → ℕ
  held_once x = told ones (holder_by (sight k) m x)

  some_one : (n : ℕ) → one (some n) ≤ n
  some_one zero = omega arith
  some_one (suc n) = omega arith

  or_none : {A : Type 0} (o : Option A) → told ones (or_else o None) ≡ told ones o
  or_none None = refl
  or_none (Some x) = refl

  each_held : (x : Thing) → is_sent x ≡ false → held_once x ≤ contents (sight k) m x
  each_held (locks (at_slot t i) n) e = omega (arith, or_none (if_some (same_mutex n m) t), one_told (same_mutex n m) t)
  each_held (locks (at_temp t i) n) e = omega arith
  each_held (locks (in_cell o) n) e = omega arith
  each_held (stands r p x) e =
      let y : Standing = record { server = r; packed = p; thread = x } in
      omega (arith, one_told (some (gift_content (sight k) m y)) x.number, some_one (gift_content (sight k) m y))
  each_held (sent r x) e = absurd (cc e)
  each_held _ e = omega arith

  message_held : (n : ℕ) (x : Message) → Bare x → tot held_once (message_things n x) ≤ tot (contents (sight k) m) (message_things n x)
  message_held n (message.Granted o v t) b = omega (arith, or_none (if_some (same_mutex o m) t), one_told (same_mutex o m) t)
  message_held n (message.Start t) b = absurd b
  message_held n (message.Migrate t) b = absurd b
  message_held n (message.Moved w c t) b = omega arith
  message_held n (message.Unlock o v) b = omega arith
  message_held n (message.Joined u v t) b = omega arith
  message_held n (message.Finished u v) b = omega arith
  message_held n _ b = omega arith

  -- as many holders as places of the content, in whatever cluster
  pub holders_less : (c : Cluster) → tot (λ x. told ones (holder_by (sight k) m x)) (things_of c) ≤ tot (contents (sight k) m) (things_of c)
  holders_less c = cluster_less held_once (contents (sight k) m) each_held message_held (λ n t. omega arith) (λ n t. omega arith) c

  pub holders_once : IsSound k → tot (λ x. told ones (holder_by (sight k) m x)) (things_of k) ≤ 1
  holders_once sound = omega (arith, holders_less k, sound.mutexes_and_tasks.one_content m, few_homes k sound m)
