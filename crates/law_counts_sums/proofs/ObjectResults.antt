-- In a sound cluster a message about an object is delivered, since the object lies where the message's word leads, which is of its server and below the
-- colour limit.
use Rattle.std.proofs.Common.{◌≡◌, ◌≤◌, ◌<◌, ℕ, zero, suc, ◌+◌, ◌==◌, ◌&&◌, nat_lt, is_some, Bool, true, false, if◌then◌else◌, List, [], ◌∷◌, Option, Some, None, IsSome, refl, sym, ap, subst, ◌∙◌, arith}
use Rattle.std.specs.Prelude.{slice_get, slice_index_or}
use Rattle.std.proofs.lemmas.Bool.Decides.{nat_tests}
use Rattle.coherent_memory.proofs.Below.fr_typing.PlaceLemmas.{eq_cases}
use Rattle.coherent_memory.specs.Below.fr_base.declared.name.ObjNo.{ObjNo}
use Rattle.coherent_memory.specs.Below.global_addr.Words.{colour_of, server_of, address_of}
use Rattle.coherent_memory.specs.Below.heap_partition.declared.value.Cell.{Cell}
use Rattle.coherent_memory.specs.Below.owner_box.View.{PartitionState}
use Rattle.coherent_memory.specs.Below.owner_box.Partition.{cell_of}
use Rattle.coherent_memory.specs.Below.mutex_home.Mutexes.{Mutex}
use Rattle.coherent_memory.specs.Below.join_home.Tasks.{Task}
use Rattle.coherent_memory.specs.Below.thread_state.View.{ThreadState}
use Rattle.coherent_memory.specs.Below.server_msgs.declared.message.Message.{Message}
use Rattle.coherent_memory.specs.Below.server_msgs.declared.message.Message.TheVariants as message
use Rattle.coherent_memory.specs.Below.server_model.Servers.{Server, Cluster, server_at}
use Rattle.coherent_memory.specs.Below.server_model.Work.{leads_here, look_object}
use Rattle.coherent_memory.specs.Names.{tot, one, other, some, same_object}
use Rattle.coherent_memory.specs.Things.{Location, Thing, lies, flies, sent, things_at, cell_things, queue_things, mutex_things, task_things, thread_things, standing_things, message_things, waiting_things, leaving_things, partition_things, server_things, things_of}
use Rattle.coherent_memory.specs.Sight.{Sight, is_word, sight, word}
use Rattle.coherent_memory.specs.Placing.{words}
use Rattle.coherent_memory.specs.Weights.{lies_under}
use Rattle.coherent_memory.specs.Requests.{misrouted, not_under, not_there}
use Rattle.coherent_memory.specs.Naming.{servers_wrong, pinned_parcel}
use Rattle.coherent_memory.specs.Walking.{sum_threads}
use Rattle.coherent_memory.specs.Coherent.{IsSound}
use Rattle.coherent_memory.proofs.Names.{and_left, and_right, same_number}
use Rattle.coherent_memory.proofs.Sums.{tot-append, server_parts}
use Rattle.law_counts_sums.specs.Laws.{ObjectsHaveResults}
use Rattle.law_counts_sums.proofs.Unseen.{Unseen, none_at, thread_alone, content_none, result_none, partition_none, copies_none}
use Rattle.law_counts_sums.proofs.Askers.{other_none}
use Rattle.law_counts_sums.proofs.Elsewhere.{here_alone}
use Rattle.law_counts_sums.proofs.HaveResults.{some_map, arrives}
use Rattle.law_counts_sums.proofs.MutexResults.{has}

-- WHERE IT LIES

no_spot : (b c : Bool) → one ((false && b) && c) ≡ 0
no_spot b c = refl

module _ (w : ℕ) (o : ObjNo) where
  abbrev f : Thing → ℕ
  f = lies_under w o

  -- it sees no cell of another server
  unseen : (r : ℕ) → (server_of w == r) ≡ false → Unseen f r
  unseen r e = record {
    held = λ p v. refl;
    shared = λ l q. refl;
    borrowed = λ l q. refl;
    locked = λ l m. refl;
    live = λ a c. ap (λ b. one ((b && address_of w == a) && same_object c.object o)) e;
    free = λ a m. refl;
    old = λ a. refl;
    copy = λ s c. refl;
    used = λ s v. refl;
  }

  abbrev away : ℕ
  away = suc (server_of w)

  elsewhere : Unseen f away
  elsewhere = unseen away (eq_cases (λ b. b ≡ false) (server_of w) away (λ e. absurd (omega (arith, e))) (λ ne. refl))

  thread_none : (r : ℕ) (p : Bool) (t : ThreadState) → tot f (thread_things r p t) ≡ 0
  thread_none r p t = thread_alone f away elsewhere r p t

  message_none : (r : ℕ) (m : Message) → tot f (message_things r m) ≡ 0
  message_none r (message.Start t) = omega (arith, thread_none r true t)
  message_none r (message.Migrate t) = omega (arith, thread_none r true t)
  message_none r _ = refl

  queue_none : (m : Rattle.coherent_memory.specs.Below.fr_base.declared.name.MutexNo.MutexNo) (i : ℕ) (q : List (ℕ × ℕ)) → tot f (things_at (queue_things m) i q) ≡ 0
  queue_none m i [] = refl
  queue_none m i (a ∷ q) = omega (arith, queue_none m (i + 1) q)

  mutex_none : (r i : ℕ) (m : Mutex) → tot f (mutex_things r i m) ≡ 0
  mutex_none r i m =
      omega (arith, content_none f away elsewhere m, queue_none m.number 0 m.queue, tot-append f (Rattle.coherent_memory.specs.Things.content_things m.number m.content) (things_at (queue_things m.number) 0 m.queue))

  task_none : (r i : ℕ) (t : Task) → tot f (task_things r i t) ≡ 0
  task_none r i t = omega (arith, result_none f away elsewhere t.thread t.state)

  -- of a server it sees the partition
  partition_alone : (s : Server) → tot f (server_things s) ≡ tot f (partition_things s.rest.number s.rest.partition)
  partition_alone s =
      let r = s.rest.number in
      omega (
        arith,
        server_parts f s,
        copies_none f away elsewhere r s.rest.cache,
        none_at f away elsewhere (mutex_things r) (mutex_none r) 0 s.rest.mutexes.there,
        none_at f away elsewhere (task_things r) (task_none r) 0 s.rest.tasks,
        none_at f away elsewhere (standing_things r) (λ i x. thread_none r false x) 0 s.threads,
        none_at f away elsewhere (waiting_things r) (λ i x. message_none r x) 0 s.rest.inbox,
        none_at f away elsewhere leaving_things (λ i x. message_none x.target x.message) 0 s.rest.outbox,
      )

  abbrev There : List (Option Cell) → ℕ → Type 0
  There xs i = (j : ℕ) × (c : Cell) × (address_of w ≡ i + j) × (slice_index_or xs j None ≡ Some c) × (same_object c.object o ≡ true)

  truly : (b : Bool) → 1 ≤ one b → b ≡ true
  truly true l = refl
  truly false l = absurd (omega (arith, l))

  -- a cell of the list is the object, at the address
  cell_there : (r : ℕ) (free : List (ℕ × ℕ)) (xs : List (Option Cell)) (i : ℕ) → 1 ≤ tot f (things_at (cell_things r free) i xs) → There xs i
  cell_there r free [] i l = absurd (omega (arith, l))
  cell_there r free (None ∷ xs) i l =
      let later = cell_there r free xs (i + 1) (omega (arith, l, gone (Rattle.coherent_memory.specs.Things.is_free i free), tot-append f (cell_things r free i None) (things_at (cell_things r free) (i + 1) xs))) in
      (suc later.0, later.1, omega (arith, later.2), later.3, later.4)
    where
      gone : (b : Bool) → tot f (if b then [] else Rattle.coherent_memory.specs.Things.retired r i ∷ []) ≡ 0
      gone true = refl
      gone false = refl
  cell_there r free (Some c ∷ xs) i l = by ((server_of w == r && address_of w == i) && same_object c.object o) refl (λ z. cell_there r free xs (i + 1) z)
    where
      by : (b : Bool) → ((server_of w == r && address_of w == i) && same_object c.object o) ≡ b → (1 ≤ tot f (things_at (cell_things r free) (i + 1) xs) → There xs (i + 1)) → There (Some c ∷ xs) i
      by true e go =
          let at = and_left (server_of w == r && address_of w == i) (same_object c.object o) e in
          let address : address_of w ≡ i = same_number (address_of w) i (and_right (server_of w == r) (address_of w == i) at) in
          (0, c, omega (arith, address), refl, and_right (server_of w == r && address_of w == i) (same_object c.object o) e)
      by false e go =
          let none : one ((server_of w == r && address_of w == i) && same_object c.object o) ≡ 0 = ap one e in
          let later = go (omega (arith, l, none)) in
          (suc later.0, later.1, omega (arith, later.2), later.3, later.4)

  -- so the partition finds it
  looks : (p : PartitionState) (c : Cell) → server_of w ≡ p.server → colour_of w < p.limit → cell_of p w ≡ Some c → same_object c.object o ≡ true → look_object p w o ≡ Some c
  looks p c here colour there same =
      let server : (server_of w == p.server) ≡ true = grind (arith, nat_tests, here) in
      let below : nat_lt (colour_of w) p.limit ≡ true = grind (arith, nat_tests, colour) in
      let found : leads_here p w ≡ true = all (server_of w == p.server) (is_some (cell_of p w)) (nat_lt (colour_of w) p.limit) server (ap is_some there) below in
      rw found (rw there (rw same refl))
    where
      all : (a b c : Bool) → a ≡ true → b ≡ true → c ≡ true → ((a && b) && c) ≡ true
      all true true true a b c = refl
      all true true false a b c = absurd (cc c)
      all true false c a b d = absurd (cc b)
      all false b c a d e = absurd (cc a)

-- the partition is its server's, under the colours of the run
fits : (k : Sight) (m n : ℕ) (ss : List Server) (s : Server) → servers_wrong k m ss ≡ 0 → server_at ss n ≡ Some s → (s.rest.partition.server ≡ s.rest.number) × (s.rest.partition.limit ≡ k.options.colours)
fits k m n [] s z h = absurd (cc h)
fits k m n (x ∷ ss) s z h =
    eq_cases (λ b. (if b then Some x else server_at ss n) ≡ Some s → (s.rest.partition.server ≡ s.rest.number) × (s.rest.partition.limit ≡ k.options.colours)) x.rest.number n
    (λ q d.
    let same : x ≡ s = cc in
    let number = same_number x.rest.number m (other_none (x.rest.number == m) (omega (arith, z))) in
    let server = same_number x.rest.partition.server m (other_none (x.rest.partition.server == m) (omega (arith, z))) in
    let limit = same_number x.rest.partition.limit k.options.colours (other_none (x.rest.partition.limit == k.options.colours) (omega (arith, z))) in
    subst (λ (y : Server). (y.rest.partition.server ≡ y.rest.number) × (y.rest.partition.limit ≡ k.options.colours)) same (server ∙ sym number, limit))
    (λ ne d. fits k (m + 1) n ss s (omega (arith, z)) d) h

-- IN A SOUND CLUSTER

module _ (k : Cluster) (sound : IsSound k) (number : ℕ) (s : Server) (here : server_at k.servers number ≡ Some s) (i : ℕ) (m : Message) (q : slice_get s.rest.inbox i ≡ Some m) (w : ℕ) (o : ObjNo) where
  abbrev n : ℕ
  n = s.rest.number

  abbrev p : PartitionState
  p = s.rest.partition

  -- the message says that the word leads here
  its_server : misrouted (sight k) (sent n m) ≡ other (nat_lt n k.options.servers && (server_of w == n)) → server_of w ≡ n
  its_server e =
      let all : tot (misrouted (sight k)) (things_of k) ≡ 0 = sound.requests.go_right in
      let mine : misrouted (sight k) (sent n m) ≡ 0 = omega (arith, all, has k sound number s here i m q (misrouted (sight k))) in
      same_number (server_of w) n (and_right (nat_lt n k.options.servers) (server_of w == n) (other_none _ (sym e ∙ mine)))

  -- and it has a colour
  its_colour : words (λ v. other (nat_lt (colour_of v) k.options.colours)) (sent n m) ≡ other (nat_lt (colour_of w) k.options.colours) → colour_of w < k.options.colours
  its_colour e =
      let g = words (λ v. other (nat_lt (colour_of v) k.options.colours)) in
      let all : tot g (things_of k) + tot (Rattle.coherent_memory.specs.Placing.next_colours k.options.colours) (things_of k) ≡ 0 = sound.words.below_limit in
      let mine : g (sent n m) ≡ 0 = omega (arith, all, has k sound number s here i m q g) in
      let below : nat_lt (colour_of w) k.options.colours ≡ true = other_none _ (sym e ∙ mine) in
      grind (arith, nat_tests, below)

  found : misrouted (sight k) (sent n m) ≡ other (nat_lt n k.options.servers && (server_of w == n)) → words (λ v. other (nat_lt (colour_of v) k.options.colours)) (sent n m) ≡ other (nat_lt (colour_of w) k.options.colours)
      → 1 ≤ tot (lies_under w o) (things_of k) → IsSome (look_object p w o)
  found route coloured there =
      let g = lies_under w o in
      let parts : servers_wrong (sight k) 0 k.servers + sum_threads (sight k) pinned_parcel ≡ 0 = sound.parts.parts_are_typed in
      let part = fits (sight k) 0 number k.servers s (omega (arith, parts)) here in
      let server = its_server route in
      let alone = here_alone k sound number s here g (λ x e. partition_alone w o x ∙ partition_none g x.rest.number (unseen w o x.rest.number (other_way x.rest.number server e)) x.rest.partition) in
      let free = Rattle.law_counts_sums.proofs.Unseen.none_at g (away w o) (elsewhere w o) (Rattle.coherent_memory.specs.Things.free_things n) (λ j x. refl) 0 p.free in
      let it = cell_there w o n p.free p.cells 0 (omega (arith, there, alone, partition_alone w o s, free, tot-append g (things_at (cell_things n p.free) 0 p.cells) (things_at (Rattle.coherent_memory.specs.Things.free_things n) 0 p.free))) in
      let c : Cell = it.1 in
      let address : address_of w ≡ it.0 = omega (arith, it.2) in
      let cell : cell_of p w ≡ Some c = ap (λ a. slice_index_or p.cells a None) address ∙ it.3 in
      let limit : colour_of w < p.limit = omega (arith, its_colour coloured, part.1) in
      ap is_some (looks w o p c (server ∙ sym part.0) limit cell it.4)
    where
      other_way : (r : ℕ) → server_of w ≡ n → (r == n) ≡ false → (server_of w == r) ≡ false
      other_way r e ne = eq_cases (λ b. b ≡ false) (server_of w) r (λ d. let same : (r == n) ≡ true = grind (arith, nat_tests, sym d ∙ e) in let wrong : true ≡ false = sym same ∙ ne in absurd (cc wrong)) (λ x. refl)

  -- as no such message names an object that lies elsewhere, or is under way
  lies_there : not_there (sight k) (sent n m) ≡ not_under (sight k) w o → 1 ≤ tot (lies_under w o) (things_of k)
  lies_there e =
      let all : tot (not_there (sight k)) (things_of k) ≡ 0 = sound.requests.objects_there in
      let mine : not_there (sight k) (sent n m) ≡ 0 = omega (arith, all, has k sound number s here i m q (not_there (sight k))) in
      let count = tot (lies_under w o) (things_of k) in
      some_one count (and_right (is_word (word (sight k) o) w) (some count) (other_none (is_word (word (sight k) o) w && some count) (sym e ∙ mine)))
    where
      some_one : (x : ℕ) → some x ≡ true → 1 ≤ x
      some_one zero d = absurd (cc d)
      some_one (suc x) d = omega arith

pub objects_have_results : ObjectsHaveResults
objects_have_results = record {
  fetches = λ k n i s w o a t sound here on q.
      let m = message.Fetch w o a t in arrives k n i s m here on q (some_map _ _ (some_map _ _ (found k sound n s here i m q w o refl refl (lies_there k sound n s here i m q w o refl))));
  moves = λ k n i s w o a t sound here on q.
      let m = message.Move w o a t in arrives k n i s m here on q (some_map _ _ (some_map _ _ (found k sound n s here i m q w o refl refl (lies_there k sound n s here i m q w o refl))));
  drops = λ k n i s w o sound here on q.
      let m = message.Drop w o in arrives k n i s m here on q (some_map _ _ (some_map _ _ (found k sound n s here i m q w o refl refl (lies_there k sound n s here i m q w o refl))));
}
