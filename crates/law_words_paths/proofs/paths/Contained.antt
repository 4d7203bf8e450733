-- A mutable reference in a slot or a temporary value is one of the cluster's references.
use Rattle.std.proofs.Common.{◌≡◌, inl, inr, ⊎_elim, ℕ, zero, suc, ◌+◌, ◌==◌, Bool, true, false, if◌then◌else◌, List, [], ◌∷◌, ◌++◌, length, Option, Some, None, refl, sym, ap, subst, ◌∙◌, arith}
use Rattle.std.specs.Prelude.{slice_get}
use Rattle.coherent_types.specs.Below.heap_partition.declared.value.Cell.{Cell}
use Rattle.coherent_types.specs.Below.heap_partition.declared.value.Owned.{Owned}
use Rattle.coherent_types.specs.Below.fr_base.declared.name.MutexNo.{MutexNo}
use Rattle.coherent_types.specs.Below.mut_borrow.declared.mutable.MutRef.{MutRef}
use Rattle.coherent_types.specs.Below.mut_borrow.declared.shared.SharedRef.{SharedRef}
use Rattle.coherent_types.specs.Below.mut_borrow.Refs.{changed}
use Rattle.coherent_types.specs.Below.thread_state.View.{ThreadState}
use Rattle.coherent_types.specs.Below.thread_state.declared.value.Value.{Value}
use Rattle.coherent_types.specs.Below.thread_state.declared.value.Value.TheVariants as value
use Rattle.coherent_types.specs.Below.mutex_home.Mutexes.{Mutex}
use Rattle.coherent_types.specs.Below.join_home.Tasks.{TaskState, kept}
use Rattle.coherent_types.specs.Below.server_msgs.declared.message.Message.{Message}
use Rattle.coherent_types.specs.Below.server_msgs.declared.message.Message.TheVariants.{Start, Migrate}
use Rattle.coherent_types.specs.Below.server_model.Servers.{Server, Cluster}
use Rattle.coherent_types.specs.Below.coherent_memory.Names.{Among}
use Rattle.coherent_types.specs.Below.coherent_memory.Things.{Location, at_slot, at_temp, in_cell, Spot, in_slot, in_temp, Thing, borrows, stands, retired, uses, sent, counts, things_at, value_things, pin_things, slot_things, temp_things, gift_things, walk_things, thread_things, standing_things, message_things, waiting_things, leaving_things, is_free, cell_things, free_things, partition_things, copy_things, content_things, queue_things, mutex_things, result_things, task_things, server_things, servers_things, things_of}
use Rattle.coherent_types.specs.Below.coherent_memory.Follow.{Standing, Ground, threads_in, thread_at, slot_of, temp_of, value_in, value_of, cell_of}
use Rattle.coherent_types.specs.Below.coherent_memory.Stale.{same_location, Reference, references, holder_of, is_held_at, changed_above, stale_above}
use Rattle.coherent_types.specs.Below.coherent_memory.Sight.{sight}
use Rattle.coherent_types.specs.Below.coherent_memory.Words.{IsStale}
use Rattle.coherent_types.proofs.Below.coherent_memory.Bags.{among_split}
use Rattle.coherent_types.proofs.Below.coherent_memory.Words.{itself}
use Rattle.std.proofs.lemmas.Bool.Decides.{nat_tests}
use Rattle.coherent_types.proofs.Below.fr_typing.PlaceLemmas.{eq_cases}
use Rattle.law_words_paths.proofs.paths.Sole.{some_is}
use Rattle.law_words_paths.specs.paths.Pointing.{Above, made_from, made_below, AboveIsStale}
use Rattle.law_words_paths.proofs.paths.Origins.{among_first, among_second, threads_joined}

pub one_reference : (q r : MutRef) → Some (value.Mut q) ≡ Some (value.Mut r) → q ≡ r
one_reference q r e = cc

number_itself : (n : ℕ) → (n == n) ≡ true
number_itself n = grind (arith, nat_tests)

pub location_itself : (l : Location) → same_location l l ≡ true
location_itself (at_slot t i) = rw (number_itself t) (number_itself i)
location_itself (at_temp t i) = rw (number_itself t) (number_itself i)
location_itself (in_cell o) = itself o o refl

abbrev pub reference_at : Ground → Location → MutRef → Reference
reference_at g l r = record { at = l; holder = holder_of g l r.holder; reference = r }

same_reference : (g : Ground) (l m : Location) (q r : MutRef) → borrows l q ≡ borrows m r → (reference_at g l q) ≡ (reference_at g m r)
same_reference g l m q r e = cc

-- all that a thread of these has is among them
abbrev pub Contains : List Thing → Type 0
Contains b = (x : Standing) → Among x (threads_in b) → (y : Thing) → Among y (thread_things x.server x.packed x.thread) → Among y b

contains_join : (a b : List Thing) → Contains a → Contains b → Contains (a ++ b)
contains_join a b p q x h y m =
    ⊎_elim (λ (l : Among x (threads_in a)). among_first y a b (p x l y m)) (λ (r : Among x (threads_in b)). among_second y a b (q x r y m))
    (among_split x (threads_in a) (threads_in b) (subst (λ xs. Among x xs) (threads_joined a b) h))

contains_all : {A : Type 0} (g : ℕ → A → List Thing) → ((i : ℕ) (x : A) → Contains (g i x)) → (i : ℕ) (xs : List A) → Contains (things_at g i xs)
contains_all g p i [] = λ x h y m. absurd h
contains_all g p i (x ∷ xs) = contains_join (g i x) (things_at g (i + 1) xs) (p i x) (contains_all g p (i + 1) xs)

-- no thread is among these
contains_none : (b : List Thing) → threads_in b ≡ [] → Contains b
contains_none b e x h y m = let n : Among x [] = subst (λ xs. Among x xs) e h in absurd n

none_joined : (a b : List Thing) → threads_in a ≡ [] → threads_in b ≡ [] → threads_in (a ++ b) ≡ []
none_joined a b e f = threads_joined a b ∙ rw e f

none_all : {A : Type 0} (g : ℕ → A → List Thing) → ((i : ℕ) (x : A) → threads_in (g i x) ≡ []) → (i : ℕ) (xs : List A) → threads_in (things_at g i xs) ≡ []
none_all g p i [] = refl
none_all g p i (x ∷ xs) = none_joined (g i x) (things_at g (i + 1) xs) (p i x) (none_all g p (i + 1) xs)

cell_none : (s : ℕ) (fs : List (ℕ × ℕ)) (a : ℕ) (c : Option Cell) → threads_in (cell_things s fs a c) ≡ []
cell_none s fs a (Some c) = refl
cell_none s fs a None = by (is_free a fs)
  where
    by : (q : Bool) → threads_in (if q then [] else retired s a ∷ []) ≡ []
    by true = refl
    by false = refl

content_none : (m : MutexNo) (v : Option Owned) → threads_in (content_things m v) ≡ []
content_none m None = refl
content_none m (Some v) = refl

mutex_none : (s i : ℕ) (m : Mutex) → threads_in (mutex_things s i m) ≡ []
mutex_none s i m = none_joined (content_things m.number m.content) (things_at (queue_things m.number) 0 m.queue) (content_none m.number m.content) (none_all (queue_things m.number) (λ j x. refl) 0 m.queue)

result_none : (t : ℕ) (x : TaskState) → threads_in (result_things t x) ≡ []
result_none t (kept v) = refl
result_none t _ = refl

pin_none : (s : ℕ) (r : SharedRef) → threads_in (pin_things s r) ≡ []
pin_none s r = by r.pinned
  where
    by : (q : Bool) → threads_in (if q then uses s r.word ∷ [] else []) ≡ []
    by true = refl
    by false = refl

value_none : (s : ℕ) (p : Spot) (l : Location) (v : Value) → threads_in (value_things s p l v) ≡ []
value_none s p l (value.Own v) = refl
value_none s p l (value.Shared r) = pin_none s r
value_none s p l (value.Mut r) = refl
value_none s p l (value.Held m) = refl
value_none s p l _ = refl

gift_none : (t : ℕ) (v : Option Owned) → threads_in (gift_things t v) ≡ []
gift_none t None = refl
gift_none t (Some v) = refl

-- what a thread has beside itself holds no thread
pub rest_none : (s : ℕ) (t : ThreadState) → threads_in (gift_things t.number t.gift ++ things_at (walk_things s) 0 t.walk ++ things_at (slot_things s t.number) 0 t.slots ++ things_at (temp_things s t.number) 0 t.temps) ≡ []
rest_none s t =
    none_joined (gift_things t.number t.gift ++ things_at (walk_things s) 0 t.walk ++ things_at (slot_things s t.number) 0 t.slots) (things_at (temp_things s t.number) 0 t.temps)
    (none_joined (gift_things t.number t.gift ++ things_at (walk_things s) 0 t.walk) (things_at (slot_things s t.number) 0 t.slots)
    (none_joined (gift_things t.number t.gift) (things_at (walk_things s) 0 t.walk) (gift_none t.number t.gift) (none_all (walk_things s) (λ i x. refl) 0 t.walk))
    (none_all (slot_things s t.number) (λ i x. value_none s (in_slot t.number i) (at_slot t.number i) x) 0 t.slots))
    (none_all (temp_things s t.number) (λ i x. value_none s (in_temp t.number i) (at_temp t.number i) x) 0 t.temps)

thread_contains : (s : ℕ) (p : Bool) (t : ThreadState) → Contains (thread_things s p t)
thread_contains s p t x (inl e) y m = subst (λ (z : Standing). Among y (thread_things z.server z.packed z.thread) → Among y (thread_things s p t)) e (λ h. h) m
thread_contains s p t x (inr h) y m = let n : Among x [] = subst (λ xs. Among x xs) (rest_none s t) h in absurd n

message_contains : (s : ℕ) (m : Message) → Contains (message_things s m)
message_contains s (Start t) = contains_join (sent s (Start t) ∷ []) (thread_things s true t) (contains_none (sent s (Start t) ∷ []) refl) (thread_contains s true t)
message_contains s (Migrate t) = contains_join (sent s (Migrate t) ∷ []) (thread_things s true t) (contains_none (sent s (Migrate t) ∷ []) refl) (thread_contains s true t)
message_contains s m = contains_none (message_things s m) refl

server_contains : (s : Server) → Contains (server_things s)
server_contains s =
    let n = s.rest.number in
    let a = counts n (length s.rest.partition.cells) s.rest.partition.retired s.rest.started s.rest.mutexes.made s.events ∷ partition_things n s.rest.partition in
    let b = things_at (copy_things n) 0 s.rest.cache in
    let m = things_at (mutex_things n) 0 s.rest.mutexes.there in
    let t = things_at (task_things n) 0 s.rest.tasks in
    let u = things_at (standing_things n) 0 s.threads in
    let i = things_at (waiting_things n) 0 s.rest.inbox in
    let o = things_at leaving_things 0 s.rest.outbox in
    let cells = things_at (cell_things n s.rest.partition.free) 0 s.rest.partition.cells in
    let frees = things_at (free_things n) 0 s.rest.partition.free in
    let first : threads_in a ≡ [] = none_joined cells frees (none_all (cell_things n s.rest.partition.free) (cell_none n s.rest.partition.free) 0 s.rest.partition.cells) (none_all (free_things n) (λ j x. refl) 0 s.rest.partition.free) in
    contains_join (a ++ b ++ m ++ t ++ u ++ i) o
    (contains_join (a ++ b ++ m ++ t ++ u) i
    (contains_join (a ++ b ++ m ++ t) u
    (contains_join (a ++ b ++ m) t
    (contains_join (a ++ b) m
    (contains_join a b (contains_none a first) (contains_none b (none_all (copy_things n) (λ j x. refl) 0 s.rest.cache)))
    (contains_none m (none_all (mutex_things n) (mutex_none n) 0 s.rest.mutexes.there)))
    (contains_none t (none_all (task_things n) (λ j x. result_none x.thread x.state) 0 s.rest.tasks)))
    (contains_all (standing_things n) (λ j x. thread_contains n false x) 0 s.threads))
    (contains_all (waiting_things n) (λ j x. message_contains n x) 0 s.rest.inbox))
    (contains_all leaving_things (λ j x. message_contains x.target x.message) 0 s.rest.outbox)

pub servers_contain : (ss : List Server) → Contains (servers_things ss)
servers_contain [] = λ x h y m. absurd h
servers_contain (s ∷ ss) = contains_join (server_things s) (servers_things ss) (server_contains s) (servers_contain ss)

-- A REFERENCE THAT STANDS IN A THREAD IS ONE OF THE CLUSTER'S

pub among_thread : (xs : List Standing) (t : ℕ) (x : Standing) → thread_at xs t ≡ Some x → Among x xs × (x.thread.number ≡ t)
among_thread [] t x e = absurd cc
among_thread (y ∷ xs) t x e =
    eq_cases (λ b. (if b then Some y else thread_at xs t) ≡ Some x → Among x (y ∷ xs) × (x.thread.number ≡ t)) y.thread.number t
    (λ q f. let same : y ≡ x = some_is f in (inl same, sym (ap (λ (z : Standing). z.thread.number) same) ∙ q)) (λ ne f. let r = among_thread xs t x f in (inr r.0, r.1)) e

pub listed_in : {A : Type 0} (g : ℕ → A → List Thing) (y : Thing) (j i : ℕ) (xs : List A) (v : A) → slice_get xs i ≡ Some v → Among y (g (j + i) v) → Among y (things_at g j xs)
listed_in g y j i [] v e h = absurd cc
listed_in g y j zero (x ∷ xs) v e h =
    let same : v ≡ x = sym (some_is e) in
    among_first y (g j x) (things_at g (j + 1) xs) (subst (λ z. Among y (g j z)) same (subst (λ n. Among y (g n v)) (omega arith) h))
listed_in g y j (suc i) (x ∷ xs) v e h = among_second y (g j x) (things_at g (j + 1) xs) (listed_in g y (j + 1) i xs v e (subst (λ n. Among y (g n v)) (omega arith) h))

module _ (k : Cluster) where
  borrowed : (m : Location) (r : MutRef) → value_in (sight k).ground m ≡ Some (value.Mut r) → Among (borrows m r) (things_of k)
  borrowed (at_slot t i) r e = by (thread_at (sight k).ground.threads t) refl e
    where
      by : (o : Option Standing) → thread_at (sight k).ground.threads t ≡ o → slot_of o i ≡ Some (value.Mut r) → Among (borrows (at_slot t i) r) (things_of k)
      by None at f = absurd cc
      by (Some x) at f =
          let q = among_thread (sight k).ground.threads t x at in
          let number : 0 + i ≡ i = omega arith in
          let y = borrows (at_slot t i) r in
          let named : at_slot t i ≡ at_slot x.thread.number (0 + i) = ap (λ z. at_slot z i) (sym q.1) ∙ ap (at_slot x.thread.number) (sym number) in
          let here_it : Among y (slot_things x.server x.thread.number (0 + i) (value.Mut r)) = inl (ap (λ z. borrows z r) (sym named)) in
          let slots = things_at (slot_things x.server x.thread.number) 0 x.thread.slots in
          let temps = things_at (temp_things x.server x.thread.number) 0 x.thread.temps in
          let w = stands x.server x.packed x.thread ∷ gift_things x.thread.number x.thread.gift ++ things_at (walk_things x.server) 0 x.thread.walk in
          servers_contain k.servers x q.0 y (among_first y (w ++ slots) temps (among_second y w slots (listed_in (slot_things x.server x.thread.number) y 0 i x.thread.slots (value.Mut r) f here_it)))
  borrowed (at_temp t i) r e = by (thread_at (sight k).ground.threads t) refl e
    where
      by : (o : Option Standing) → thread_at (sight k).ground.threads t ≡ o → temp_of o i ≡ Some (value.Mut r) → Among (borrows (at_temp t i) r) (things_of k)
      by None at f = absurd cc
      by (Some x) at f =
          let q = among_thread (sight k).ground.threads t x at in
          let number : 0 + i ≡ i = omega arith in
          let y = borrows (at_temp t i) r in
          let named : at_temp t i ≡ at_temp x.thread.number (0 + i) = ap (λ z. at_temp z i) (sym q.1) ∙ ap (at_temp x.thread.number) (sym number) in
          let here_it : Among y (temp_things x.server x.thread.number (0 + i) (value.Mut r)) = inl (ap (λ z. borrows z r) (sym named)) in
          let slots = things_at (slot_things x.server x.thread.number) 0 x.thread.slots in
          let temps = things_at (temp_things x.server x.thread.number) 0 x.thread.temps in
          let w = stands x.server x.packed x.thread ∷ gift_things x.thread.number x.thread.gift ++ things_at (walk_things x.server) 0 x.thread.walk in
          servers_contain k.servers x q.0 y (among_second y (w ++ slots) temps (listed_in (temp_things x.server x.thread.number) y 0 i x.thread.temps (value.Mut r) f here_it))
  borrowed (in_cell o) r e = by (cell_of (sight k).ground.cells o) e
    where
      by : (c : Option Cell) → value_of c ≡ Some (value.Mut r) → Among (borrows (in_cell o) r) (things_of k)
      by None f = absurd cc
      by (Some c) f = absurd cc

  among_references : (g : Ground) (m : Location) (r : MutRef) (b : List Thing) → Among (borrows m r) b → Among (record { at = m; holder = holder_of g m r.holder; reference = r }) (references g b)
  among_references g m r [] h = absurd h
  among_references g m r (borrows l q ∷ b) (inl e) = inl (same_reference g l m q r e)
  among_references g m r (borrows l q ∷ b) (inr h) = inr (among_references g m r b h)
  among_references g m r (_ ∷ b) (inl e) = absurd cc
  among_references g m r (_ ∷ b) (inr h) = among_references g m r b h

  pub reference_there : (m : Location) (r : MutRef) → value_in (sight k).ground m ≡ Some (value.Mut r) → Among (record { at = m; holder = holder_of (sight k).ground m r.holder; reference = r }) (references (sight k).ground (sight k).things)
  reference_there m r e = among_references (sight k).ground m r (things_of k) (borrowed m r e)

  pub held_there : (l : Location) (o : Option Location) → o ≡ Some l → is_held_at l o ≡ true
  held_there l o e = ap (is_held_at l) e ∙ location_itself l

  -- what stands above a stale pointer is stale
  stale_up : (l h : Location) → IsStale (sight k) (Some h) → Above (sight k).ground l h → IsStale (sight k) (Some l)
  stale_up l _ stale (made_from {m = m} r is held) =
      stale_above (record { at = m; holder = holder_of (sight k).ground m r.holder; reference = r }) (reference_there m r is) (held_there l (holder_of (sight k).ground m r.holder) held) stale
  stale_up l _ stale (made_below {m = m} {h = h} r is held rest) =
      let next = stale_above (record { at = m; holder = holder_of (sight k).ground m r.holder; reference = r }) (reference_there m r is) (held_there h (holder_of (sight k).ground m r.holder) held) stale in
      stale_up l h next rest

  -- and so is what stands above a changed reference
  changed_up : (l h : Location) (r : MutRef) → value_in (sight k).ground h ≡ Some (value.Mut r) → changed r ≡ true → Above (sight k).ground l h → IsStale (sight k) (Some l)
  changed_up l _ r is ch (made_from {m = m} q at held) =
      let same : q ≡ r = one_reference q r (sym at ∙ is) in
      changed_above (record { at = m; holder = holder_of (sight k).ground m q.holder; reference = q }) (reference_there m q at) (held_there l (holder_of (sight k).ground m q.holder) held) (ap changed same ∙ ch)
  changed_up l _ r is ch (made_below {m = m} {h = h} q at held rest) =
      let same : q ≡ r = one_reference q r (sym at ∙ is) in
      let next = changed_above (record { at = m; holder = holder_of (sight k).ground m q.holder; reference = q }) (reference_there m q at) (held_there h (holder_of (sight k).ground m q.holder) held) (ap changed same ∙ ch) in
      stale_up l h next rest

-- WHAT STANDS ABOVE A CHANGED OR STALE POINTER IS STALE
pub above_stale : AboveIsStale
above_stale = record {
  changed = λ k l h r is ch above. changed_up k l h r is ch above;
  stale = λ k l h is above. stale_up k l h is above;
}
