-- Where the things of a cluster come from: a reference, a mark and what a thread owns in a slot or a temporary value stand in that thread.
use Rattle.std.proofs.Common.{◌≡◌, ◌⊎◌, inl, inr, ⊎_elim, ℕ, suc, ◌+◌, Bool, true, false, if◌then◌else◌, List, [], ◌∷◌, ◌++◌, length, Option, Some, None, refl, sym, ap, subst, arith}
use Rattle.std.specs.Prelude.{slice_get}
use Rattle.coherent_types.specs.Below.heap_partition.declared.value.Cell.{Cell}
use Rattle.coherent_types.specs.Below.heap_partition.declared.value.Owned.{Owned}
use Rattle.coherent_types.specs.Below.fr_base.declared.name.MutexNo.{MutexNo}
use Rattle.coherent_types.specs.Below.owner_box.View.{PartitionState}
use Rattle.coherent_types.specs.Below.mut_borrow.declared.mutable.MutRef.{MutRef}
use Rattle.coherent_types.specs.Below.mut_borrow.declared.shared.SharedRef.{SharedRef}
use Rattle.coherent_types.specs.Below.thread_state.View.{ThreadState}
use Rattle.coherent_types.specs.Below.thread_state.declared.value.Value.{Value}
use Rattle.coherent_types.specs.Below.thread_state.declared.value.Value.TheVariants as value
use Rattle.coherent_types.specs.Below.mutex_home.Mutexes.{Mutex}
use Rattle.coherent_types.specs.Below.join_home.Tasks.{Task, TaskState, kept}
use Rattle.coherent_types.specs.Below.server_msgs.declared.message.Message.{Message}
use Rattle.coherent_types.specs.Below.server_msgs.declared.message.Message.TheVariants.{Moved, Granted, Unlock, Start, Joined, Finished, Migrate}
use Rattle.coherent_types.specs.Below.server_model.Servers.{Server, Cluster}
use Rattle.coherent_types.specs.Below.coherent_memory.Names.{Among}
use Rattle.coherent_types.specs.Below.coherent_memory.Things.{Location, Spot, in_slot, in_temp, as_content, as_result, Thing, holds, shares, borrows, locks, retired, flies, sent, uses, stands, at_home, noted, counts, things_at, pin_things, value_things, slot_things, temp_things, gift_things, walk_things, thread_things, standing_things, message_things, waiting_things, leaving_things, is_free, cell_things, free_things, partition_things, copy_things, content_things, queue_things, mutex_things, result_things, task_things, server_things, servers_things, things_of}
use Rattle.coherent_types.specs.Below.coherent_memory.Follow.{Standing, threads_in}
use Rattle.coherent_types.proofs.Below.coherent_memory.Bags.{among_split}

-- what stands in a slot or a temporary value of a thread
abbrev pub in_thread : Spot → ℕ
in_thread (in_slot t i) = 1
in_thread (in_temp t i) = 1
in_thread p = 0

abbrev pub placed : Thing → ℕ
placed (holds p v) = in_thread p
placed (shares l r) = 1
placed (borrows l r) = 1
placed (locks l m) = 1
placed x = 0

-- it stands in a thread of these, or in none
pub data Origin (b : List Thing) (y : Thing) : Type 0 where
  of_thread : (x : Standing) → Among x (threads_in b) → Among y (thread_things x.server x.packed x.thread) → Origin b y
  of_none : placed y ≡ 0 → Origin b y

abbrev Origins : List Thing → Type 0
Origins b = (y : Thing) → Among y b → Origin b y

abbrev Free : List Thing → Type 0
Free b = (y : Thing) → Among y b → placed y ≡ 0

pub threads_joined : (a b : List Thing) → threads_in (a ++ b) ≡ threads_in a ++ threads_in b
threads_joined [] b = refl
threads_joined (stands s p t ∷ a) b = ap (λ xs. record { server = s; packed = p; thread = t } ∷ xs) (threads_joined a b)
threads_joined (_ ∷ a) b = threads_joined a b

pub among_first : {A : Type 0} (x : A) (xs ys : List A) → Among x xs → Among x (xs ++ ys)
among_first x [] ys h = absurd h
among_first x (y ∷ xs) ys (inl e) = inl e
among_first x (y ∷ xs) ys (inr h) = inr (among_first x xs ys h)

pub among_second : {A : Type 0} (x : A) (xs ys : List A) → Among x ys → Among x (xs ++ ys)
among_second x [] ys h = h
among_second x (y ∷ xs) ys h = inr (among_second x xs ys h)

origin_first : (a b : List Thing) (y : Thing) → Origin a y → Origin (a ++ b) y
origin_first a b y (of_thread x h q) = of_thread x (subst (λ xs. Among x xs) (sym (threads_joined a b)) (among_first x (threads_in a) (threads_in b) h)) q
origin_first a b y (of_none z) = of_none z

origin_second : (a b : List Thing) (y : Thing) → Origin b y → Origin (a ++ b) y
origin_second a b y (of_thread x h q) = of_thread x (subst (λ xs. Among x xs) (sym (threads_joined a b)) (among_second x (threads_in a) (threads_in b) h)) q
origin_second a b y (of_none z) = of_none z

origins_join : (a b : List Thing) → Origins a → Origins b → Origins (a ++ b)
origins_join a b p q y h = ⊎_elim (λ (l : Among y a). origin_first a b y (p y l)) (λ (r : Among y b). origin_second a b y (q y r)) (among_split y a b h)

origins_all : {A : Type 0} (g : ℕ → A → List Thing) → ((i : ℕ) (x : A) → Origins (g i x)) → (i : ℕ) (xs : List A) → Origins (things_at g i xs)
origins_all g p i [] = λ y h. absurd h
origins_all g p i (x ∷ xs) = origins_join (g i x) (things_at g (i + 1) xs) (p i x) (origins_all g p (i + 1) xs)

free_origins : (b : List Thing) → Free b → Origins b
free_origins b f y h = of_none (f y h)

free_join : (a b : List Thing) → Free a → Free b → Free (a ++ b)
free_join a b p q y h = ⊎_elim (λ (l : Among y a). p y l) (λ (r : Among y b). q y r) (among_split y a b h)

free_all : {A : Type 0} (g : ℕ → A → List Thing) → ((i : ℕ) (x : A) → Free (g i x)) → (i : ℕ) (xs : List A) → Free (things_at g i xs)
free_all g p i [] = λ y h. absurd h
free_all g p i (x ∷ xs) = free_join (g i x) (things_at g (i + 1) xs) (p i x) (free_all g p (i + 1) xs)

free_one : (x : Thing) → placed x ≡ 0 → Free (x ∷ [])
free_one x z y (inl e) = subst (λ w. placed w ≡ 0) e z
free_one x z y (inr h) = absurd h

free_none : Free []
free_none y h = absurd h

-- the parts of a server

cell_free : (s : ℕ) (fs : List (ℕ × ℕ)) (a : ℕ) (c : Option Cell) → Free (cell_things s fs a c)
cell_free s fs a (Some c) = free_one _ refl
cell_free s fs a None = by (is_free a fs)
  where
    by : (q : Bool) → Free (if q then [] else retired s a ∷ [])
    by true = free_none
    by false = free_one _ refl

partition_free : (s : ℕ) (p : PartitionState) → Free (partition_things s p)
partition_free s p = free_join (things_at (cell_things s p.free) 0 p.cells) (things_at (free_things s) 0 p.free) (free_all (cell_things s p.free) (cell_free s p.free) 0 p.cells) (free_all (free_things s) (λ i x. free_one _ refl) 0 p.free)

content_free : (m : MutexNo) (v : Option Owned) → Free (content_things m v)
content_free m None = free_none
content_free m (Some v) = free_one _ refl

mutex_free : (s i : ℕ) (m : Mutex) → Free (mutex_things s i m)
mutex_free s i m =
    free_join (at_home s m ∷ content_things m.number m.content) (things_at (queue_things m.number) 0 m.queue)
    (free_join (at_home s m ∷ []) (content_things m.number m.content) (free_one _ refl) (content_free m.number m.content))
    (free_all (queue_things m.number) (λ j x. free_one _ refl) 0 m.queue)

result_free : (t : ℕ) (x : TaskState) → Free (result_things t x)
result_free t (kept v) = free_one _ refl
result_free t _ = free_none

task_free : (s i : ℕ) (t : Task) → Free (task_things s i t)
task_free s i t = free_join (noted s t ∷ []) (result_things t.thread t.state) (free_one _ refl) (result_free t.thread t.state)

-- threads and messages

thread_origins : (s : ℕ) (p : Bool) (t : ThreadState) → Origins (thread_things s p t)
thread_origins s p t y h = of_thread (record { server = s; packed = p; thread = t }) (inl refl) h

message_origins : (s : ℕ) (m : Message) → Origins (message_things s m)
message_origins s (Moved w c t) = free_origins _ (free_join (sent s (Moved w c t) ∷ []) (flies w c ∷ []) (free_one _ refl) (free_one _ refl))
message_origins s (Granted n v t) = free_origins _ (free_join (sent s (Granted n v t) ∷ []) (holds (as_content n) v ∷ []) (free_one _ refl) (free_one _ refl))
message_origins s (Unlock n v) = free_origins _ (free_join (sent s (Unlock n v) ∷ []) (holds (as_content n) v ∷ []) (free_one _ refl) (free_one _ refl))
message_origins s (Joined t v by) = free_origins _ (free_join (sent s (Joined t v by) ∷ []) (holds (as_result t) v ∷ []) (free_one _ refl) (free_one _ refl))
message_origins s (Finished t v) = free_origins _ (free_join (sent s (Finished t v) ∷ []) (holds (as_result t) v ∷ []) (free_one _ refl) (free_one _ refl))
message_origins s (Start t) = origins_join (sent s (Start t) ∷ []) (thread_things s true t) (free_origins _ (free_one _ refl)) (thread_origins s true t)
message_origins s (Migrate t) = origins_join (sent s (Migrate t) ∷ []) (thread_things s true t) (free_origins _ (free_one _ refl)) (thread_origins s true t)
message_origins s _ = free_origins _ (free_one _ refl)

server_origins : (s : Server) → Origins (server_things s)
server_origins s =
    let n = s.rest.number in
    let a = counts n (length s.rest.partition.cells) s.rest.partition.retired s.rest.started s.rest.mutexes.made s.events ∷ partition_things n s.rest.partition in
    let b = things_at (copy_things n) 0 s.rest.cache in
    let m = things_at (mutex_things n) 0 s.rest.mutexes.there in
    let t = things_at (task_things n) 0 s.rest.tasks in
    let u = things_at (standing_things n) 0 s.threads in
    let i = things_at (waiting_things n) 0 s.rest.inbox in
    let o = things_at leaving_things 0 s.rest.outbox in
    let first : Origins a = free_origins a (free_join (counts n (length s.rest.partition.cells) s.rest.partition.retired s.rest.started s.rest.mutexes.made s.events ∷ []) (partition_things n s.rest.partition) (free_one _ refl) (partition_free n s.rest.partition)) in
    origins_join (a ++ b ++ m ++ t ++ u ++ i) o
    (origins_join (a ++ b ++ m ++ t ++ u) i
    (origins_join (a ++ b ++ m ++ t) u
    (origins_join (a ++ b ++ m) t
    (origins_join (a ++ b) m
    (origins_join a b first (free_origins b (free_all (copy_things n) (λ j x. free_one _ refl) 0 s.rest.cache)))
    (free_origins m (free_all (mutex_things n) (mutex_free n) 0 s.rest.mutexes.there)))
    (free_origins t (free_all (task_things n) (task_free n) 0 s.rest.tasks)))
    (origins_all (standing_things n) (λ j x. thread_origins n false x) 0 s.threads))
    (origins_all (waiting_things n) (λ j x. message_origins n x) 0 s.rest.inbox))
    (origins_all leaving_things (λ j x. message_origins x.target x.message) 0 s.rest.outbox)

servers_origins : (ss : List Server) → Origins (servers_things ss)
servers_origins [] = λ y h. absurd h
servers_origins (s ∷ ss) = origins_join (server_things s) (servers_things ss) (server_origins s) (servers_origins ss)

-- EACH THING OF A CLUSTER STANDS IN A THREAD, OR IS NONE OF THOSE THAT DO
pub origin : (k : Cluster) (y : Thing) → Among y (things_of k) → Origin (things_of k) y
origin k = servers_origins k.servers

-- IN A THREAD

pub record Listed {A : Type 0} (g : ℕ → A → List Thing) (y : Thing) (j : ℕ) (xs : List A) : Type 0 where
  pub number : ℕ
  pub element : A
  pub is : slice_get xs number ≡ Some element
  pub among : Among y (g (j + number) element)

first_listed : {A : Type 0} (g : ℕ → A → List Thing) (y : Thing) (j : ℕ) (x : A) (xs : List A) → Among y (g j x) → Listed g y j (x ∷ xs)
first_listed g y j x xs l = record { number = 0; element = x; is = refl; among = subst (λ i. Among y (g i x)) (omega arith) l }

later_listed : {A : Type 0} (g : ℕ → A → List Thing) (y : Thing) (j : ℕ) (x : A) (xs : List A) → Listed g y (j + 1) xs → Listed g y j (x ∷ xs)
later_listed g y j x xs q = record { number = suc q.number; element = q.element; is = q.is; among = subst (λ i. Among y (g i q.element)) (omega arith) q.among }

pub listed : {A : Type 0} (g : ℕ → A → List Thing) (y : Thing) (j : ℕ) (xs : List A) → Among y (things_at g j xs) → Listed g y j xs
listed g y j [] h = absurd h
listed g y j (x ∷ xs) h =
    ⊎_elim (λ (l : Among y (g j x)). first_listed g y j x xs l) (λ (r : Among y (things_at g (j + 1) xs)). later_listed g y j x xs (listed g y (j + 1) xs r)) (among_split y (g j x) (things_at g (j + 1) xs) h)

gift_free : (t : ℕ) (v : Option Owned) → Free (gift_things t v)
gift_free t None = free_none
gift_free t (Some v) = free_one _ refl

-- what stands in a slot or a temporary value of a thread does so at one of its numbers
pub in_slots : (s : ℕ) (p : Bool) (t : ThreadState) (y : Thing) → placed y ≡ 1 → Among y (thread_things s p t) → Listed (slot_things s t.number) y 0 t.slots ⊎ Listed (temp_things s t.number) y 0 t.temps
in_slots s p t y one h =
    let w = stands s p t ∷ gift_things t.number t.gift ++ things_at (walk_things s) 0 t.walk in
    let rest_free : Free w = free_join (stands s p t ∷ gift_things t.number t.gift) (things_at (walk_things s) 0 t.walk) (free_join (stands s p t ∷ []) (gift_things t.number t.gift) (free_one _ refl) (gift_free t.number t.gift))
    (free_all (walk_things s) (λ i x. free_one _ refl) 0 t.walk) in
    ⊎_elim
    (λ (l : Among y (w ++ things_at (slot_things s t.number) 0 t.slots)).
    ⊎_elim (λ (f : Among y w). absurd (omega (arith, one, rest_free y f))) (λ (q : Among y (things_at (slot_things s t.number) 0 t.slots)). inl (listed (slot_things s t.number) y 0 t.slots q))
    (among_split y w (things_at (slot_things s t.number) 0 t.slots) l))
    (λ (r : Among y (things_at (temp_things s t.number) 0 t.temps)). inr (listed (temp_things s t.number) y 0 t.temps r))
    (among_split y (w ++ things_at (slot_things s t.number) 0 t.slots) (things_at (temp_things s t.number) 0 t.temps) h)

-- the values whose things these are

no_pin : (s : ℕ) (r : SharedRef) → Free (pin_things s r)
no_pin s r = by r.pinned
  where
    by : (q : Bool) → Free (if q then uses s r.word ∷ [] else [])
    by true = free_one _ refl
    by false = free_none

no_holds : (s : ℕ) (r : SharedRef) (q : Spot) (o : Owned) → Among (holds q o) (pin_things s r) → ⊥
no_holds s r q o = by r.pinned
  where
    by : (b : Bool) → Among (holds q o) (if b then uses s r.word ∷ [] else []) → ⊥
    by true (inl e) = absurd cc
    by true (inr h) = h
    by false h = h

pub borrow_value : (s : ℕ) (p : Spot) (l m : Location) (r : MutRef) (v : Value) → Among (borrows m r) (value_things s p l v) → (v ≡ value.Mut r) × (m ≡ l)
borrow_value s p l m r value.Gone h = absurd h
borrow_value s p l m r (value.Own o) (inl e) = absurd cc
borrow_value s p l m r (value.Own o) (inr h) = absurd h
borrow_value s p l m r (value.SharedSlot i) h = absurd h
borrow_value s p l m r (value.MutSlot i) h = absurd h
borrow_value s p l m r (value.Shared q) (inl e) = absurd cc
borrow_value s p l m r (value.Shared q) (inr h) = let z = no_pin s q (borrows m r) h in absurd cc
borrow_value s p l m r (value.Mut q) (inl e) = (cc, cc)
borrow_value s p l m r (value.Mut q) (inr h) = absurd h
borrow_value s p l m r (value.Held z) (inl e) = absurd cc
borrow_value s p l m r (value.Held z) (inr h) = absurd h

pub share_value : (s : ℕ) (p : Spot) (l m : Location) (r : SharedRef) (v : Value) → Among (shares m r) (value_things s p l v) → (v ≡ value.Shared r) × (m ≡ l)
share_value s p l m r value.Gone h = absurd h
share_value s p l m r (value.Own o) (inl e) = absurd cc
share_value s p l m r (value.Own o) (inr h) = absurd h
share_value s p l m r (value.SharedSlot i) h = absurd h
share_value s p l m r (value.MutSlot i) h = absurd h
share_value s p l m r (value.Shared q) (inl e) = (cc, cc)
share_value s p l m r (value.Shared q) (inr h) = let z = no_pin s q (shares m r) h in absurd cc
share_value s p l m r (value.Mut q) (inl e) = absurd cc
share_value s p l m r (value.Mut q) (inr h) = absurd h
share_value s p l m r (value.Held z) (inl e) = absurd cc
share_value s p l m r (value.Held z) (inr h) = absurd h

pub own_value : (s : ℕ) (p q : Spot) (l : Location) (o : Owned) (v : Value) → Among (holds q o) (value_things s p l v) → (v ≡ value.Own o) × (q ≡ p)
own_value s p q l o value.Gone h = absurd h
own_value s p q l o (value.Own u) (inl e) = (cc, cc)
own_value s p q l o (value.Own u) (inr h) = absurd h
own_value s p q l o (value.SharedSlot i) h = absurd h
own_value s p q l o (value.MutSlot i) h = absurd h
own_value s p q l o (value.Shared r) (inl e) = absurd cc
own_value s p q l o (value.Shared r) (inr h) = absurd (no_holds s r q o h)
own_value s p q l o (value.Mut r) (inl e) = absurd cc
own_value s p q l o (value.Mut r) (inr h) = absurd h
own_value s p q l o (value.Held z) (inl e) = absurd cc
own_value s p q l o (value.Held z) (inr h) = absurd h
