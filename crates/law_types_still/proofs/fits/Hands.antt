-- Between events no value is in a hand.
use Rattle.std.proofs.Common.{◌≡◌, inl, inr, ℕ, ◌+◌, ◌≤◌, Bool, true, false, if◌then◌else◌, List, [], ◌∷◌, ◌++◌, Option, Some, None, refl, sym, subst, arith}
use Rattle.law_heap_still.specs.Below.heap_partition.declared.value.Cell.{Cell}
use Rattle.law_heap_still.specs.Below.heap_partition.declared.value.Owned.{Owned}
use Rattle.law_heap_still.specs.Below.mut_borrow.declared.shared.SharedRef.{SharedRef}
use Rattle.law_heap_still.specs.Below.owner_box.View.{PartitionState}
use Rattle.law_heap_still.specs.Below.mutex_home.Mutexes.{Mutex}
use Rattle.law_heap_still.specs.Below.join_home.Tasks.{TaskState, going, let_go, kept, asked, in_pair}
use Rattle.law_heap_still.specs.Below.thread_state.View.{ThreadState}
use Rattle.law_heap_still.specs.Below.thread_state.declared.value.Value.{Value}
use Rattle.law_heap_still.specs.Below.thread_state.declared.value.Value.TheVariants as value
use Rattle.law_heap_still.specs.Below.server_msgs.declared.message.Message.{Message}
use Rattle.law_heap_still.specs.Below.server_msgs.declared.message.Message.TheVariants as message
use Rattle.law_heap_still.specs.Below.server_model.Servers.{Server, Cluster}
use Rattle.law_heap_still.specs.Below.coherent_memory.Names.{tot, Among}
use Rattle.law_heap_still.specs.Below.coherent_memory.Things.{Location, Spot, in_slot, in_temp, in_hand, Thing, holds, retired, uses, things_at, pin_things, value_things, slot_things, temp_things, gift_things, walk_things, thread_things, standing_things, is_free, cell_things, free_things, partition_things, copy_things, content_things, queue_things, mutex_things, result_things, task_things, message_things, waiting_things, leaving_things, server_things, servers_things, things_of}
use Rattle.law_heap_still.proofs.Below.coherent_memory.Sums.{tot-append, server_parts}

-- a thing weighs no more than all
pub weighs : (f : Thing → ℕ) (x : Thing) (b : List Thing) → Among x b → f x ≤ tot f b
weighs f x [] h = absurd h
weighs f x (y ∷ b) (inl e) = let here : f x ≤ f y = subst (λ w. f x ≤ f w) (sym e) (omega arith) in omega (arith, here)
weighs f x (y ∷ b) (inr h) = omega (arith, weighs f x b h)

abbrev f : Thing → ℕ
f (holds in_hand v) = 1
f x = 0

nothing_at : {X : Type 0} (g : ℕ → X → List Thing) → ((i : ℕ) (x : X) → tot f (g i x) ≡ 0) → (i : ℕ) (xs : List X) → tot f (things_at g i xs) ≡ 0
nothing_at g z i [] = refl
nothing_at g z i (x ∷ xs) = omega (arith, z i x, nothing_at g z (i + 1) xs, tot-append f (g i x) (things_at g (i + 1) xs))

cell_nothing : (s : ℕ) (free : List (ℕ × ℕ)) (a : ℕ) (c : Option Cell) → tot f (cell_things s free a c) ≡ 0
cell_nothing s free a (Some c) = refl
cell_nothing s free a None = by (is_free a free)
  where
    by : (b : Bool) → tot f (if b then [] else retired s a ∷ []) ≡ 0
    by true = refl
    by false = refl

partition_nothing : (s : ℕ) (p : PartitionState) → tot f (partition_things s p) ≡ 0
partition_nothing s p =
    omega (arith, nothing_at (cell_things s p.free) (cell_nothing s p.free) 0 p.cells, nothing_at (free_things s) (λ i x. refl) 0 p.free, tot-append f (things_at (cell_things s p.free) 0 p.cells) (things_at (free_things s) 0 p.free))

pin_nothing : (s : ℕ) (r : SharedRef) → tot f (pin_things s r) ≡ 0
pin_nothing s r = by r.pinned
  where
    by : (b : Bool) → tot f (if b then uses s r.word ∷ [] else []) ≡ 0
    by true = refl
    by false = refl

value_nothing : (s : ℕ) (p : Spot) (l : Location) → ((v : Owned) → f (holds p v) ≡ 0) → (v : Value) → tot f (value_things s p l v) ≡ 0
value_nothing s p l z (value.Own v) = omega (arith, z v)
value_nothing s p l z (value.Shared r) = omega (arith, pin_nothing s r)
value_nothing s p l z value.Gone = refl
value_nothing s p l z (value.SharedSlot i) = refl
value_nothing s p l z (value.MutSlot i) = refl
value_nothing s p l z (value.Mut r) = refl
value_nothing s p l z (value.Held m) = refl

gift_nothing : (t : ℕ) (o : Option Owned) → tot f (gift_things t o) ≡ 0
gift_nothing t None = refl
gift_nothing t (Some v) = refl

thread_nothing : (s : ℕ) (p : Bool) (t : ThreadState) → tot f (thread_things s p t) ≡ 0
thread_nothing s p t =
    let g = gift_things t.number t.gift in
    let u = things_at (walk_things s) 0 t.walk in
    let a = things_at (slot_things s t.number) 0 t.slots in
    let b = things_at (temp_things s t.number) 0 t.temps in
    omega (
      arith,
      gift_nothing t.number t.gift,
      nothing_at (walk_things s) (λ i x. refl) 0 t.walk,
      nothing_at (slot_things s t.number) (λ i x. value_nothing s (in_slot t.number i) _ (λ v. refl) x) 0 t.slots,
      nothing_at (temp_things s t.number) (λ i x. value_nothing s (in_temp t.number i) _ (λ v. refl) x) 0 t.temps,
      tot-append f (g ++ u ++ a) b,
      tot-append f (g ++ u) a,
      tot-append f g u,
    )

message_nothing : (s : ℕ) (m : Message) → tot f (message_things s m) ≡ 0
message_nothing s (message.Start t) = omega (arith, thread_nothing s true t)
message_nothing s (message.Migrate t) = omega (arith, thread_nothing s true t)
message_nothing s (message.Granted m v t) = refl
message_nothing s (message.Unlock m v) = refl
message_nothing s (message.Joined u v t) = refl
message_nothing s (message.Finished u v) = refl
message_nothing s _ = refl

content_nothing : (s i : ℕ) (m : Mutex) → tot f (mutex_things s i m) ≡ 0
content_nothing s i m = omega (arith, by m.content, nothing_at (queue_things m.number) (λ j x. refl) 0 m.queue, tot-append f (content_things m.number m.content) (things_at (queue_things m.number) 0 m.queue))
  where
    by : (o : Option Owned) → tot f (content_things m.number o) ≡ 0
    by None = refl
    by (Some v) = refl

state_nothing : (t : ℕ) (z : TaskState) → tot f (result_things t z) ≡ 0
state_nothing t (kept v) = refl
state_nothing t going = refl
state_nothing t let_go = refl
state_nothing t (asked r u) = refl
state_nothing t (in_pair p o) = refl

server_nothing : (s : Server) → tot f (server_things s) ≡ 0
server_nothing s =
    let m = s.rest.number in
    omega (
      arith,
      server_parts f s,
      partition_nothing m s.rest.partition,
      nothing_at (copy_things m) (λ i x. refl) 0 s.rest.cache,
      nothing_at (mutex_things m) (content_nothing m) 0 s.rest.mutexes.there,
      nothing_at (task_things m) (λ i x. omega (arith, state_nothing x.thread x.state)) 0 s.rest.tasks,
      nothing_at (standing_things m) (λ i x. thread_nothing m false x) 0 s.threads,
      nothing_at (waiting_things m) (λ i x. message_nothing m x) 0 s.rest.inbox,
      nothing_at leaving_things (λ i x. message_nothing x.target x.message) 0 s.rest.outbox,
    )

servers_nothing : (ss : List Server) → tot f (servers_things ss) ≡ 0
servers_nothing [] = refl
servers_nothing (s ∷ ss) = omega (arith, server_nothing s, servers_nothing ss, tot-append f (server_things s) (servers_things ss))

pub none_in_hand : (k : Cluster) (v : Owned) → Among (holds in_hand v) (things_of k) → ⊥
none_in_hand k v h = let a : 1 ≤ tot f (things_of k) = weighs f (holds in_hand v) (things_of k) h in omega (arith, a, servers_nothing k.servers)
