-- In a sound cluster a thread's words have as many users in the cache as it uses them, so what it uses can go.
use Rattle.std.proofs.Common.{◌≡◌, ℕ, ◌+◌, ◌-◌, ◌≤◌, ◌==◌, ◌&&◌, Bool, true, false, if◌then◌else◌, List, [], ◌∷◌, ◌++◌, Option, Some, None, IsSome, refl, sym, subst, ◌∙◌, arith}
use Rattle.std.proofs.lemmas.Bool.Decides.{nat_tests}
use Rattle.law_counts_sums.proofs.Below.fr_typing.PlaceLemmas.{eq_cases}
use Rattle.law_counts_sums.specs.Below.fr_base.declared.name.MutexNo.{MutexNo}
use Rattle.law_counts_sums.specs.Below.heap_partition.declared.value.Cell.{Cell}
use Rattle.law_counts_sums.specs.Below.heap_partition.declared.value.Owned.{Owned}
use Rattle.law_counts_sums.specs.Below.mut_borrow.declared.shared.SharedRef.{SharedRef}
use Rattle.law_counts_sums.specs.Below.read_cache.Cache.{Copy, copy_of, users, users_in, with_users, can_unpin, unpin}
use Rattle.law_counts_sums.specs.Below.mutex_home.Mutexes.{Mutex}
use Rattle.law_counts_sums.specs.Below.join_home.Tasks.{TaskState, kept}
use Rattle.law_counts_sums.specs.Below.migration.Packing.{unpin_all, pinned_word, pinned_words, used_words}
use Rattle.law_counts_sums.specs.Below.thread_state.View.{ThreadState}
use Rattle.law_counts_sums.specs.Below.thread_state.declared.value.Value.{Value}
use Rattle.law_counts_sums.specs.Below.thread_state.declared.value.Value.TheVariants as value
use Rattle.law_counts_sums.specs.Below.server_msgs.declared.message.Message.{Message}
use Rattle.law_counts_sums.specs.Below.server_msgs.declared.message.Message.TheVariants as message
use Rattle.law_counts_sums.specs.Below.server_model.Servers.{Server, Cluster, server_at}
use Rattle.law_counts_sums.specs.Below.server_model.Work.{thread_in}
use Rattle.law_counts_sums.specs.Below.coherent_memory.Names.{tot, one, other, if_so}
use Rattle.law_counts_sums.specs.Below.coherent_memory.Things.{Thing, Spot, Location, copied, uses, retired, is_free, things_at, cell_things, free_things, copy_things, content_things, queue_things, mutex_things, result_things, task_things, gift_things, walk_things, pin_things, value_things, slot_things, temp_things, thread_things, standing_things, waiting_things, leaving_things, message_things, server_things}
use Rattle.law_counts_sums.specs.Below.coherent_memory.Sight.{Sight, sight}
use Rattle.law_counts_sums.specs.Below.coherent_memory.Weights.{uses_of, users_of}
use Rattle.law_counts_sums.specs.Below.coherent_memory.Naming.{same_word, cached_twice, servers_wrong, pinned_parcel}
use Rattle.law_counts_sums.specs.Below.coherent_memory.Walking.{sum_threads}
use Rattle.law_counts_sums.specs.Below.coherent_memory.Coherent.{IsSound}
use Rattle.law_counts_sums.proofs.Below.coherent_memory.Sums.{tot-append, server_parts}
use Rattle.law_counts_sums.proofs.Trades.{tot-front}
use Rattle.law_counts_sums.proofs.Bags.{tot-without}
use Rattle.law_counts_sums.proofs.Events.{tot-server}
use Rattle.law_counts_sums.proofs.Elsewhere.{here_alone}
use Rattle.law_counts_sums.proofs.HaveResults.{some_if}

-- USERS THAT GO

-- how often a word stands in a list
abbrev pub times : ℕ → List ℕ → ℕ
times v [] = 0
times v (w ∷ ws) = one (w == v) + times v ws

pub times_append : (v : ℕ) (xs ys : List ℕ) → times v (xs ++ ys) ≡ times v xs + times v ys
times_append v [] ys = omega arith
times_append v (x ∷ xs) ys = omega (arith, times_append v xs ys)

pub other_users : (cs : List Copy) (w m v : ℕ) → (v ≡ w → ⊥) → users (with_users cs w m) v ≡ users cs v
other_users [] w m v ne = refl
other_users (c ∷ cs) w m v ne =
    eq_cases (λ b. users (if b then record c { users = m } ∷ cs else c ∷ with_users cs w m) v ≡ users (c ∷ cs) v) c.word w
    (λ e. eq_cases (λ b. users_in (if b then Some (record c { users = m }) else copy_of cs v) ≡ users_in (if b then Some c else copy_of cs v)) c.word v (λ d. absurd (ne (sym d ∙ e))) (λ q. refl))
    (λ q. eq_cases (λ b. users_in (if b then Some c else copy_of (with_users cs w m) v) ≡ users_in (if b then Some c else copy_of cs v)) c.word v (λ d. refl) (λ q2. other_users cs w m v ne))

pub own_users : (cs : List Copy) (w m : ℕ) → 1 ≤ users cs w → users (with_users cs w m) w ≡ m
own_users [] w m l = absurd (omega (arith, l))
own_users (c ∷ cs) w m l =
    eq_cases (λ b. 1 ≤ users_in (if b then Some c else copy_of cs w) → users (if b then record c { users = m } ∷ cs else c ∷ with_users cs w m) w ≡ m) c.word w
    (λ e k. eq_cases (λ b. users_in (if b then Some (record c { users = m }) else copy_of cs w) ≡ m) c.word w (λ d. refl) (λ ne. absurd (ne e)))
    (λ ne k. eq_cases (λ b. users_in (if b then Some c else copy_of (with_users cs w m) w) ≡ m) c.word w (λ d. absurd (ne d)) (λ q. own_users cs w m k)) l

pub itself_once : (x : ℕ) → one (x == x) ≡ 1
itself_once x = eq_cases (λ b. one b ≡ 1) x x (λ e. refl) (λ ne. absurd (ne refl))

-- a word with a user is unpinned
pub has_user : (cs : List Copy) (w : ℕ) → 1 ≤ users cs w → can_unpin cs w ≡ true
has_user cs w l = grind (arith, nat_tests, l)

-- one use less of a word that is used once more leaves as many of each as there are
pub one_less : (ws : List ℕ) (cs : List Copy) (w : ℕ) → ((v : ℕ) → one (w == v) + times v ws ≤ users cs v) → (v : ℕ) → times v ws ≤ users (unpin cs w) v
one_less ws cs w l v =
    let some_user : 1 ≤ users cs w = omega (arith, l w, itself_once w) in
    eq_cases (λ b. times v ws ≤ users (unpin cs w) v) v w
    (λ e. subst (λ j. times j ws ≤ users (unpin cs w) j) (sym e) (omega (arith, l w, itself_once w, own_users cs w (users cs w - 1) some_user)))
    (λ ne. omega (arith, l v, other_users cs w (users cs w - 1) v ne))

-- where each word has as many users as it stands in the list, all can go
pub unpins : (ws : List ℕ) (cs : List Copy) → ((v : ℕ) → times v ws ≤ users cs v) → IsSome (unpin_all ws cs)
unpins [] cs l = refl
unpins (w ∷ ws) cs l = some_if (can_unpin cs w) (unpin_all ws (unpin cs w)) (has_user cs w (omega (arith, l w, itself_once w))) (unpins ws (unpin cs w) (one_less ws cs w l))

-- THE USES OF A THREAD

-- each word that the thread uses has as many users as it uses it
abbrev pub Usable : ThreadState → List Copy → Type 0
Usable y cs = (v : ℕ) → times v (used_words y) ≤ users cs v

-- what it has used in its walk can go
pub walk_goes : (y : ThreadState) (cs : List Copy) → Usable y cs → IsSome (unpin_all y.walk cs)
walk_goes y cs u = unpins y.walk cs (λ v. omega (arith, u v, times_append v (y.walk ++ pinned_words y.slots) (pinned_words y.temps), times_append v y.walk (pinned_words y.slots)))

module _ (n v : ℕ) where
  mine : (w : ℕ) → one (n == n && w == v) ≡ one (w == v)
  mine w = eq_cases (λ b. one (b && w == v) ≡ one (w == v)) n n (λ e. refl) (λ ne. absurd (ne refl))

  walk_uses : (i : ℕ) (ws : List ℕ) → times v ws ≤ tot (uses_of (n, v)) (things_at (walk_things n) i ws)
  walk_uses i [] = omega arith
  walk_uses i (w ∷ ws) = omega (arith, walk_uses (i + 1) ws, mine w)

  value_uses : (p : Spot) (l : Location) (x : Value) (vs : List Value) → times v (pinned_words (x ∷ vs)) ≤ tot (uses_of (n, v)) (value_things n p l x) + times v (pinned_words vs)
  value_uses p l (value.Shared r) vs = by r.pinned
    where
      by : (b : Bool) → times v (pinned_word r b (pinned_words vs)) ≤ (0 + tot (uses_of (n, v)) (if b then uses n r.word ∷ [] else [])) + times v (pinned_words vs)
      by true = omega (arith, mine r.word)
      by false = omega arith
  value_uses p l _ vs = omega arith

  values_use : (place : ℕ → Spot) (at : ℕ → Location) (i : ℕ) (vs : List Value) → times v (pinned_words vs) ≤ tot (uses_of (n, v)) (things_at (λ j x. value_things n (place j) (at j) x) i vs)
  values_use place at i [] = omega arith
  values_use place at i (x ∷ vs) = omega (arith, value_uses (place i) (at i) x vs, values_use place at (i + 1) vs, tot-append (uses_of (n, v)) (value_things n (place i) (at i) x) (things_at (λ j x. value_things n (place j) (at j) x) (i + 1) vs))

  thread_uses : (y : ThreadState) → times v (used_words y) ≤ tot (uses_of (n, v)) (thread_things n false y)
  thread_uses y =
      let t = y.number in
      let g = gift_things t y.gift in
      let w = things_at (walk_things n) 0 y.walk in
      let a = things_at (slot_things n t) 0 y.slots in
      let b = things_at (temp_things n t) 0 y.temps in
      omega (
        arith,
        times_append v (y.walk ++ pinned_words y.slots) (pinned_words y.temps),
        times_append v y.walk (pinned_words y.slots),
        walk_uses 0 y.walk,
        values_use (λ i. Rattle.law_counts_sums.specs.Below.coherent_memory.Things.in_slot t i) (λ i. Rattle.law_counts_sums.specs.Below.coherent_memory.Things.at_slot t i) 0 y.slots,
        values_use (λ i. Rattle.law_counts_sums.specs.Below.coherent_memory.Things.in_temp t i) (λ i. Rattle.law_counts_sums.specs.Below.coherent_memory.Things.at_temp t i) 0 y.temps,
        tot-append (uses_of (n, v)) (g ++ w ++ a) b,
        tot-append (uses_of (n, v)) (g ++ w) a,
        tot-append (uses_of (n, v)) g w,
      )

-- THE USERS AT A SERVER

module _ (at : ℕ × ℕ) where
  none_at : {X : Type 0} (g : ℕ → X → List Thing) → ((i : ℕ) (x : X) → tot (users_of at) (g i x) ≡ 0) → (i : ℕ) (xs : List X) → tot (users_of at) (things_at g i xs) ≡ 0
  none_at g z i [] = refl
  none_at g z i (x ∷ xs) = omega (arith, z i x, none_at g z (i + 1) xs, tot-append (users_of at) (g i x) (things_at g (i + 1) xs))

  cell_none : (r : ℕ) (free : List (ℕ × ℕ)) (a : ℕ) (c : Option Cell) → tot (users_of at) (cell_things r free a c) ≡ 0
  cell_none r free a (Some c) = refl
  cell_none r free a None = by (is_free a free)
    where
      by : (b : Bool) → tot (users_of at) (if b then [] else retired r a ∷ []) ≡ 0
      by true = refl
      by false = refl

  pin_none : (r : ℕ) (q : SharedRef) → tot (users_of at) (pin_things r q) ≡ 0
  pin_none r q = by q.pinned
    where
      by : (b : Bool) → tot (users_of at) (if b then uses r q.word ∷ [] else []) ≡ 0
      by true = refl
      by false = refl

  value_none : (r : ℕ) (p : Spot) (l : Location) (x : Value) → tot (users_of at) (value_things r p l x) ≡ 0
  value_none r p l (value.Shared q) = omega (arith, pin_none r q)
  value_none r p l _ = refl

  gift_none : (t : ℕ) (g : Option Owned) → tot (users_of at) (gift_things t g) ≡ 0
  gift_none t None = refl
  gift_none t (Some x) = refl

  thread_none : (r : ℕ) (p : Bool) (x : ThreadState) → tot (users_of at) (thread_things r p x) ≡ 0
  thread_none r p x =
      let g = gift_things x.number x.gift in
      let w = things_at (walk_things r) 0 x.walk in
      let a = things_at (slot_things r x.number) 0 x.slots in
      let b = things_at (temp_things r x.number) 0 x.temps in
      omega (
        arith,
        gift_none x.number x.gift,
        none_at (walk_things r) (λ i y. refl) 0 x.walk,
        none_at (slot_things r x.number) (λ i y. value_none r _ _ y) 0 x.slots,
        none_at (temp_things r x.number) (λ i y. value_none r _ _ y) 0 x.temps,
        tot-append (users_of at) (g ++ w ++ a) b,
        tot-append (users_of at) (g ++ w) a,
        tot-append (users_of at) g w,
      )

  message_none : (r : ℕ) (m : Message) → tot (users_of at) (message_things r m) ≡ 0
  message_none r (message.Start x) = omega (arith, thread_none r true x)
  message_none r (message.Migrate x) = omega (arith, thread_none r true x)
  message_none r _ = refl

  content_none : (m : MutexNo) (c : Option Owned) → tot (users_of at) (content_things m c) ≡ 0
  content_none m None = refl
  content_none m (Some x) = refl

  mutex_none : (r i : ℕ) (m : Mutex) → tot (users_of at) (mutex_things r i m) ≡ 0
  mutex_none r i m = omega (arith, content_none m.number m.content, none_at (queue_things m.number) (λ j x. refl) 0 m.queue, tot-append (users_of at) (content_things m.number m.content) (things_at (queue_things m.number) 0 m.queue))

  result_none : (t : ℕ) (x : TaskState) → tot (users_of at) (result_things t x) ≡ 0
  result_none t (kept x) = refl
  result_none t _ = refl

  copies_alone : (s : Server) → tot (users_of at) (server_things s) ≡ tot (users_of at) (things_at (copy_things s.rest.number) 0 s.rest.cache)
  copies_alone s =
      let r = s.rest.number in
      let p = s.rest.partition in
      omega (
        arith,
        server_parts (users_of at) s,
        none_at (cell_things r p.free) (cell_none r p.free) 0 p.cells,
        none_at (free_things r) (λ i x. refl) 0 p.free,
        tot-append (users_of at) (things_at (cell_things r p.free) 0 p.cells) (things_at (free_things r) 0 p.free),
        none_at (mutex_things r) (mutex_none r) 0 s.rest.mutexes.there,
        none_at (task_things r) (λ i x. omega (arith, result_none x.thread x.state)) 0 s.rest.tasks,
        none_at (standing_things r) (λ i x. thread_none r false x) 0 s.threads,
        none_at (waiting_things r) (λ i x. message_none r x) 0 s.rest.inbox,
        none_at leaving_things (λ i x. message_none x.target x.message) 0 s.rest.outbox,
      )

  if_false : (b c : Bool) (m : ℕ) → b ≡ false → if_so (b && c) m ≡ 0
  if_false true c m e = absurd (cc e)
  if_false false c m e = refl

  elsewhere : (s : Server) → (s.rest.number == at.0) ≡ false → tot (users_of at) (server_things s) ≡ 0
  elsewhere s e = omega (arith, copies_alone s, none_at (copy_things s.rest.number) (λ i c. omega (arith, if_false (s.rest.number == at.0) (c.word == at.1) c.users e)) 0 s.rest.cache)

-- a cache has a word once, so the found copy has all users of it
module _ (n v : ℕ) where
  front : (c : Copy) (cs : List Copy) → tot (users_of (n, v)) (things_at (copy_things n) 0 (c ∷ cs)) ≡ users_of (n, v) (copied n c) + tot (users_of (n, v)) (things_at (copy_things n) 0 cs)
  front c cs = omega (arith, tot-front (λ x. copied n x ∷ []) (users_of (n, v)) 0 c cs)

  no_word : (b c : Bool) (m : ℕ) → one c ≡ 0 → if_so (b && c) m ≡ 0
  no_word true true m z = absurd (cc z)
  no_word true false m z = refl
  no_word false c m z = refl

  at_most_all : (b : Bool) (m : ℕ) → if_so (b && true) m ≤ m
  at_most_all true m = omega arith
  at_most_all false m = omega arith

  none_left : (cs : List Copy) → tot (same_word v) cs ≡ 0 → tot (users_of (n, v)) (things_at (copy_things n) 0 cs) ≡ 0
  none_left [] z = refl
  none_left (c ∷ cs) z = omega (arith, front c cs, none_left cs (omega (arith, z)), no_word (n == n) (c.word == v) c.users (omega (arith, z)))

  all_users : (cs : List Copy) → tot (same_word v) cs ≤ 1 → tot (users_of (n, v)) (things_at (copy_things n) 0 cs) ≤ users cs v
  all_users [] l = omega arith
  all_users (c ∷ cs) l =
      eq_cases (λ b. one (c.word == v) ≡ one b → users_of (n, v) (copied n c) ≡ if_so (n == n && b) c.users → tot (users_of (n, v)) (things_at (copy_things n) 0 (c ∷ cs)) ≤ users_in (if b then Some c else copy_of cs v)) c.word v
      (λ e w g. omega (arith, front c cs, g, at_most_all (n == n) c.users, none_left cs (omega (arith, l, w))))
      (λ ne w g. omega (arith, front c cs, g, no_word (n == n) false c.users refl, all_users cs (omega (arith, l, w)))) refl refl

  found_less : (g : Copy → ℕ) (cs : List Copy) (c : Copy) → copy_of cs v ≡ Some c → g c ≤ tot g cs
  found_less g [] c e = absurd (cc e)
  found_less g (x ∷ cs) c e =
      eq_cases (λ b. (if b then Some x else copy_of cs v) ≡ Some c → g c ≤ tot g (x ∷ cs)) x.word v
      (λ q d. let same : x ≡ c = cc in subst (λ y. g y ≤ tot g (x ∷ cs)) same (omega arith)) (λ ne d. omega (arith, found_less g cs c d)) e

  none_found : (cs : List Copy) → copy_of cs v ≡ None → tot (same_word v) cs ≡ 0
  none_found [] e = refl
  none_found (x ∷ cs) e = eq_cases (λ b. (if b then Some x else copy_of cs v) ≡ None → one b + tot (same_word v) cs ≡ 0) x.word v (λ q d. absurd (cc d)) (λ ne d. omega (arith, none_found cs d)) e

  word_is : (cs : List Copy) (c : Copy) → copy_of cs v ≡ Some c → c.word ≡ v
  word_is [] c e = absurd (cc e)
  word_is (x ∷ cs) c e =
      eq_cases (λ b. (if b then Some x else copy_of cs v) ≡ Some c → c.word ≡ v) x.word v
      (λ q d. let same : x ≡ c = cc in subst (λ (y : Copy). y.word ≡ v) same q) (λ ne d. word_is cs c d) e

  once : (cs : List Copy) → tot (cached_twice cs) cs ≡ 0 → tot (same_word v) cs ≤ 1
  once cs z = by (copy_of cs v) refl
    where
      is_one : (m : ℕ) (b : Bool) → (m == 1) ≡ b → other b ≡ 0 → m ≤ 1
      is_one m true e q = let same : m ≡ 1 = grind (arith, nat_tests, e) in omega (arith, same)
      is_one m false e q = absurd (cc q)

      by : (o : Option Copy) → copy_of cs v ≡ o → tot (same_word v) cs ≤ 1
      by None e = omega (arith, none_found cs e)
      by (Some c) e =
          let mine : other (tot (same_word c.word) cs == 1) ≡ 0 = omega (arith, z, found_less (cached_twice cs) cs c e) in
          subst (λ j. tot (same_word j) cs ≤ 1) (word_is cs c e) (is_one (tot (same_word c.word) cs) (tot (same_word c.word) cs == 1) refl mine)

-- IN A SOUND CLUSTER

words_once : (q : Sight) (i n : ℕ) (ss : List Server) (s : Server) → servers_wrong q i ss ≡ 0 → server_at ss n ≡ Some s → tot (cached_twice s.rest.cache) s.rest.cache ≡ 0
words_once q i n [] s z h = absurd (cc h)
words_once q i n (x ∷ ss) s z h =
    eq_cases (λ b. (if b then Some x else server_at ss n) ≡ Some s → tot (cached_twice s.rest.cache) s.rest.cache ≡ 0) x.rest.number n
    (λ e d. let same : x ≡ s = cc in subst (λ (y : Server). tot (cached_twice y.rest.cache) y.rest.cache ≡ 0) same (omega (arith, z)))
    (λ ne d. words_once q (i + 1) n ss s (omega (arith, z)) d) h

pub used : (k : Cluster) → IsSound k → (number : ℕ) (s : Server) → server_at k.servers number ≡ Some s → (t : ℕ) (y : ThreadState) → thread_in s.threads t ≡ Some y → Usable y s.rest.cache
used k sound number s here t y e v =
    let n = s.rest.number in
    let f = uses_of (n, v) in
    let parts : servers_wrong (sight k) 0 k.servers + sum_threads (sight k) pinned_parcel ≡ 0 = sound.parts.parts_are_typed in
    let words = once n v s.rest.cache (words_once (sight k) 0 number k.servers s (omega (arith, parts)) here) in
    omega (
      arith,
      thread_uses n v y,
      tot-without n f s.threads t y e,
      server_parts f s,
      (tot-server f k.servers number s s here).0,
      sound.users.users_counted (n, v),
      here_alone k sound number s here (users_of (n, v)) (elsewhere (n, v)),
      copies_alone (n, v) s,
      all_users n v s.rest.cache words,
    )
