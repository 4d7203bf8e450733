-- What a pointer that isn't stale tells in a sound cluster: its word is its object's, so it leads to the cell where the object lies, and a copy under it
-- is that cell.
use Rattle.std.proofs.Common.{◌≡◌, inl, inr, ⊎_elim, ◌≤◌, ◌<◌, ℕ, zero, suc, ◌+◌, ◌==◌, ◌&&◌, nat_lt, is_some, Bool, true, false, if◌then◌else◌, List, [], ◌∷◌, ◌++◌, Option, Some, None, refl, sym, ap, subst, ◌∙◌, arith}
use Rattle.std.specs.Prelude.{slice_get, slice_index_or}
use Rattle.std.proofs.lemmas.Bool.Decides.{nat_tests, Decides-int_eq}
use Rattle.law_counts_sums.proofs.Below.fr_typing.PlaceLemmas.{eq_cases}
use Rattle.law_counts_sums.specs.Below.fr_base.declared.name.ObjNo.{ObjNo}
use Rattle.law_counts_sums.specs.Below.global_addr.Words.{colour_of, server_of, address_of}
use Rattle.law_counts_sums.specs.Below.heap_partition.Same.{same_owned, same_cell}
use Rattle.law_counts_sums.specs.Below.heap_partition.declared.value.Cell.{Cell}
use Rattle.law_counts_sums.specs.Below.heap_partition.declared.value.Owned.{Owned}
use Rattle.law_counts_sums.specs.Below.heap_partition.declared.value.Owned.TheVariants as owned
use Rattle.law_counts_sums.specs.Below.owner_box.View.{PartitionState}
use Rattle.law_counts_sums.specs.Below.owner_box.Partition.{cell_of as partition_cell}
use Rattle.law_counts_sums.specs.Below.mutex_home.Mutexes.{Mutex}
use Rattle.law_counts_sums.specs.Below.join_home.Tasks.{Task}
use Rattle.law_counts_sums.specs.Below.thread_state.View.{ThreadState}
use Rattle.law_counts_sums.specs.Below.thread_state.declared.value.Value.{Value}
use Rattle.law_counts_sums.specs.Below.thread_state.declared.value.Value.TheVariants as value
use Rattle.law_counts_sums.specs.Below.server_msgs.declared.message.Message.{Message}
use Rattle.law_counts_sums.specs.Below.server_msgs.declared.message.Message.TheVariants as message
use Rattle.law_counts_sums.specs.Below.server_model.Servers.{Server, Cluster, server_at}
use Rattle.law_counts_sums.specs.Below.server_model.Work.{leads_here, look}
use Rattle.law_counts_sums.specs.Below.coherent_memory.Names.{tot, one, other, Among, same_object}
use Rattle.law_counts_sums.specs.Below.coherent_memory.Things.{Location, at_slot, in_cell, Thing, holds, shares, borrows, lies, flies, vacant, retired, copied, things_at, is_free, cell_things, free_things, copy_things, queue_things, content_things, mutex_things, task_things, thread_things, slot_things, temp_things, gift_things, walk_things, stands, standing_things, message_things, waiting_things, leaving_things, partition_things, server_things, servers_things, things_of}
use Rattle.law_counts_sums.specs.Below.coherent_memory.Follow.{Standing, threads_in, cells_in, cell_of}
use Rattle.law_counts_sums.specs.Below.coherent_memory.Sight.{Sight, Pointer, pointer_in, pointers_of, pointers_in, taken_pointers, sight, word}
use Rattle.law_counts_sums.specs.Below.coherent_memory.Words.{HasWords, IsStale, LeadsTo}
use Rattle.law_counts_sums.specs.Below.coherent_memory.Placing.{words, owned_word, standing_of, standing_in, next_colours}
use Rattle.law_counts_sums.specs.Below.coherent_memory.Weights.{cells, lies_under}
use Rattle.law_counts_sums.specs.Below.coherent_memory.Naming.{servers_wrong, pinned_parcel}
use Rattle.law_counts_sums.specs.Below.coherent_memory.Walking.{sum_threads}
use Rattle.law_counts_sums.specs.Below.coherent_memory.Coherent.{IsSound}
use Rattle.law_counts_sums.proofs.Below.coherent_memory.Names.{and_left, and_right, same_number, same_mutexes}
use Rattle.law_counts_sums.proofs.Below.coherent_memory.Sums.{tot-append, server_parts}
use Rattle.law_counts_sums.proofs.Below.coherent_memory.Words.{named, itself, words_law}
use Rattle.law_counts_sums.proofs.Unseen.{Unseen, none_at as none_seen_at, thread_alone, content_none, result_none, partition_none, copies_none}
use Rattle.law_counts_sums.proofs.Askers.{other_none}
use Rattle.law_counts_sums.proofs.Elsewhere.{here_alone}
use Rattle.law_words_paths.proofs.paths.Contained.{servers_contain, listed_in}
use Rattle.law_words_paths.proofs.paths.InState.{only_one}
use Rattle.law_words_paths.proofs.paths.Origins.{among_first, among_second}
use Rattle.law_results_reads.proofs.Flights.{has_weight}

-- THINGS AND THEIR POINTERS

-- the pointer that a value is, at its location
abbrev pub pointer_at : Location → Value → Option Pointer
pointer_at l (value.Own (owned.Box p)) = Some (record { at = Some l; word = p.word; object = p.object })
pointer_at l (value.Shared r) = Some (record { at = None; word = r.word; object = r.object })
pointer_at l (value.Mut r) = Some (record { at = Some l; word = r.word; object = r.object })
pointer_at l v = None

among_pointers : (y : Thing) (b : List Thing) (p : Pointer) → Among y b → Among p (pointers_of y) → Among p (pointers_in b)
among_pointers y [] p h m = absurd h
among_pointers y (x ∷ b) p (inl e) m = among_first p (pointers_of x) (pointers_in b) (subst (λ z. Among p (pointers_of z)) (sym e) m)
among_pointers y (x ∷ b) p (inr h) m = among_second p (pointers_of x) (pointers_in b) (among_pointers y b p h m)

among_standing : (y : Thing) (b : List Thing) (p : Pointer) → Among y b → Among p (standing_of y) → Among p (standing_in b)
among_standing y [] p h m = absurd h
among_standing y (x ∷ b) p (inl e) m = among_first p (standing_of x) (standing_in b) (subst (λ z. Among p (standing_of z)) (sym e) m)
among_standing y (x ∷ b) p (inr h) m = among_second p (standing_of x) (standing_in b) (among_standing y b p h m)

-- a pointer that stands somewhere, and is no old word of an object under way
pub record Stands (k : Cluster) (p : Pointer) : Type 0 where
  pub pointers : Among p (pointers_in (things_of k))
  pub standing : Among p (standing_in (things_of k))

of_thing : (k : Cluster) (y : Thing) (p : Pointer) → Among y (things_of k) → Among p (pointers_of y) → Among p (standing_of y) → Stands k p
of_thing k y p h m q = record { pointers = among_pointers y (things_of k) p h m; standing = among_standing y (things_of k) p h q }

some_same : {A : Type 0} {x y : A} → Some x ≡ Some y → x ≡ y
some_same e = cc

-- that of a value in a slot
pub slot_pointer : (k : Cluster) (x : Standing) (i : ℕ) (v : Value) (p : Pointer) → Among x (threads_in (things_of k)) → slice_get x.thread.slots i ≡ Some v → pointer_at (at_slot x.thread.number i) v ≡ Some p → Stands k p
slot_pointer k x i v p among e is = by v e is
  where
    in_things : (y : Thing) (v : Value) → slice_get x.thread.slots i ≡ Some v → Among y (slot_things x.server x.thread.number i v) → Among y (things_of k)
    in_things y v e h =
        let number : 0 + i ≡ i = omega arith in
        let slots = things_at (slot_things x.server x.thread.number) 0 x.thread.slots in
        let temps = things_at (temp_things x.server x.thread.number) 0 x.thread.temps in
        let w = stands x.server x.packed x.thread ∷ gift_things x.thread.number x.thread.gift ++ things_at (walk_things x.server) 0 x.thread.walk in
        servers_contain k.servers x among y
        (among_first y (w ++ slots) temps (among_second y w slots (listed_in (slot_things x.server x.thread.number) y 0 i x.thread.slots v e (subst (λ j. Among y (slot_things x.server x.thread.number j v)) (sym number) h))))

    by : (v : Value) → slice_get x.thread.slots i ≡ Some v → pointer_at (at_slot x.thread.number i) v ≡ Some p → Stands k p
    by (value.Own (owned.Box b)) e is = of_thing k (holds (Rattle.law_counts_sums.specs.Below.coherent_memory.Things.in_slot x.thread.number i) (owned.Box b)) p (in_things _ (value.Own (owned.Box b)) e (inl refl)) (inl (some_same is)) (inl (some_same is))
    by (value.Own owned.Nothing) e is = absurd cc
    by (value.Own owned.Unit) e is = absurd cc
    by (value.Own (owned.Int n)) e is = absurd cc
    by (value.Own (owned.Mutex m)) e is = absurd cc
    by (value.Own (owned.Task u)) e is = absurd cc
    by (value.Shared r) e is = of_thing k (shares (at_slot x.thread.number i) r) p (in_things _ (value.Shared r) e (inl refl)) (inl (some_same is)) (inl (some_same is))
    by (value.Mut r) e is = of_thing k (borrows (at_slot x.thread.number i) r) p (in_things _ (value.Mut r) e (inl refl)) (inl (some_same is)) (inl (some_same is))
    by value.Gone e is = absurd cc
    by (value.SharedSlot j) e is = absurd cc
    by (value.MutSlot j) e is = absurd cc
    by (value.Held m) e is = absurd cc

-- the thing of a cell
pub data HomeOf (b : List Thing) (c : Cell) : Type 0 where
  lies_there : (r a : ℕ) → Among (lies r a c) b → HomeOf b c
  flies_there : (w : ℕ) → Among (flies w c) b → HomeOf b c

one_more : (x : Thing) (b : List Thing) (c : Cell) → HomeOf b c → HomeOf (x ∷ b) c
one_more x b c (lies_there r a h) = lies_there r a (inr h)
one_more x b c (flies_there w h) = flies_there w (inr h)

pub home_of_cell : (b : List Thing) (o : ObjNo) (c : Cell) → cell_of (cells_in b) o ≡ Some c → HomeOf b c × (c.object ≡ o)
home_of_cell [] o c e = absurd cc
home_of_cell (lies r a d ∷ b) o c e = by (same_object d.object o) refl e (home_of_cell b o c)
  where
    by : (q : Bool) → same_object d.object o ≡ q → (if q then Some d else cell_of (cells_in b) o) ≡ Some c → (cell_of (cells_in b) o ≡ Some c → HomeOf b c × (c.object ≡ o)) → HomeOf (lies r a d ∷ b) c × (c.object ≡ o)
    by true f g go = let same = some_same g in (lies_there r a (inl (ap (lies r a) same)), sym (ap (λ (x : Cell). x.object) same) ∙ named d.object o f)
    by false f g go = let h = go g in (one_more _ b c h.0, h.1)
home_of_cell (flies w d ∷ b) o c e = by (same_object d.object o) refl e (home_of_cell b o c)
  where
    by : (q : Bool) → same_object d.object o ≡ q → (if q then Some d else cell_of (cells_in b) o) ≡ Some c → (cell_of (cells_in b) o ≡ Some c → HomeOf b c × (c.object ≡ o)) → HomeOf (flies w d ∷ b) c × (c.object ≡ o)
    by true f g go = let same = some_same g in (flies_there w (inl (ap (flies w) same)), sym (ap (λ (x : Cell). x.object) same) ∙ named d.object o f)
    by false f g go = let h = go g in (one_more _ b c h.0, h.1)
home_of_cell (x ∷ b) o c e = let h = home_of_cell b o c e in (one_more x b c h.0, h.1)

-- that of a box in a cell
pub cell_pointer : (k : Cluster) (o : ObjNo) (c : Cell) (p : Pointer) → cell_of (cells_in (things_of k)) o ≡ Some c → pointer_at (in_cell o) (value.Own c.value) ≡ Some p → Stands k p
cell_pointer k o c p e is =
    let h = home_of_cell (things_of k) o c e in
    let in_it = in_value c.value (in_cell c.object) p (subst (λ z. pointer_at (in_cell z) (value.Own c.value) ≡ Some p) (sym h.1) is) in
    of_home h.0 in_it
  where
    in_value : (v : Owned) (l : Location) (p : Pointer) → pointer_at l (value.Own v) ≡ Some p → Among p (pointer_in (Some l) v)
    in_value (owned.Box b) l p e = inl (some_same e)
    in_value owned.Nothing l p e = absurd cc
    in_value owned.Unit l p e = absurd cc
    in_value (owned.Int n) l p e = absurd cc
    in_value (owned.Mutex m) l p e = absurd cc
    in_value (owned.Task t) l p e = absurd cc

    of_home : HomeOf (things_of k) c → Among p (pointer_in (Some (in_cell c.object)) c.value) → Stands k p
    of_home (lies_there r a h) m = of_thing k (lies r a c) p h m m
    of_home (flies_there w h) m = of_thing k (flies w c) p h (inr m) m

-- its word is one of the words that stand there
pub pointer_word : (f : ℕ → ℕ) (b : List Thing) (p : Pointer) → Among p (standing_in b) → f p.word ≤ tot (words f) b
pointer_word f [] p h = absurd h
pointer_word f (x ∷ b) p h = ⊎_elim (λ (a : Among p (standing_of x)). let l = of_one x a in omega (arith, l)) (λ (a : Among p (standing_in b)). let l = pointer_word f b p a in omega (arith, l)) (Rattle.law_counts_sums.proofs.Below.coherent_memory.Bags.among_split p (standing_of x) (standing_in b) h)
  where
    of_value : (v : Owned) (l : Option Location) → Among p (pointer_in l v) → f p.word ≤ owned_word f v
    of_value (owned.Box q) l (inl e) = let w : q.word ≡ p.word = ap (λ (z : Pointer). z.word) e in let g = ap f w in omega (arith, g)
    of_value (owned.Box q) l (inr m) = absurd m
    of_value owned.Nothing l m = absurd m
    of_value owned.Unit l m = absurd m
    of_value (owned.Int n) l m = absurd m
    of_value (owned.Mutex n) l m = absurd m
    of_value (owned.Task n) l m = absurd m

    of_one : (x : Thing) → Among p (standing_of x) → f p.word ≤ words f x
    of_one (holds q v) m = of_value v _ m
    of_one (shares l r) (inl e) = let w : r.word ≡ p.word = ap (λ (z : Pointer). z.word) e in let g = ap f w in omega (arith, g)
    of_one (shares l r) (inr m) = absurd m
    of_one (borrows l r) (inl e) = let w : r.word ≡ p.word = ap (λ (z : Pointer). z.word) e in let g = ap f w in omega (arith, g)
    of_one (borrows l r) (inr m) = absurd m
    of_one (lies r a c) m = of_value c.value _ m
    of_one (flies w c) m = let l = of_value c.value _ m in omega (arith, l)
    of_one (Rattle.law_counts_sums.specs.Below.coherent_memory.Things.sent s (message.Drop w o)) (inl e) = let v : w ≡ p.word = ap (λ (z : Pointer). z.word) e in let g = ap f v in omega (arith, g)
    of_one (Rattle.law_counts_sums.specs.Below.coherent_memory.Things.sent s (message.Drop w o)) (inr m) = absurd m
    of_one (Rattle.law_counts_sums.specs.Below.coherent_memory.Things.sent s _) m = absurd m
    of_one _ m = absurd m

-- SAME CELLS

same_values : (v u : Owned) → same_owned v u ≡ true → v ≡ u
same_values owned.Nothing owned.Nothing e = refl
same_values owned.Unit owned.Unit e = refl
same_values (owned.Int n) (owned.Int m) e = ap owned.Int ((Decides-int_eq n m).0 e)
same_values (owned.Box p) (owned.Box q) e =
    let w : p.word ≡ q.word = same_number p.word q.word (and_left (p.word == q.word) (same_object p.object q.object) e) in
    let o : p.object ≡ q.object = named p.object q.object (and_right (p.word == q.word) (same_object p.object q.object) e) in
    ap (λ z. owned.Box (record { word = z; object = p.object })) w ∙ ap (λ z. owned.Box (record { word = q.word; object = z })) o
same_values (owned.Mutex m) (owned.Mutex n) e = ap owned.Mutex (same_mutexes m n e)
same_values (owned.Task t) (owned.Task u) e = ap owned.Task (same_number t u e)
same_values owned.Nothing _ e = absurd (cc e)
same_values owned.Unit _ e = absurd (cc e)
same_values (owned.Int n) _ e = absurd (cc e)
same_values (owned.Box p) _ e = absurd (cc e)
same_values (owned.Mutex m) _ e = absurd (cc e)
same_values (owned.Task t) _ e = absurd (cc e)

pub same_cells : (c d : Cell) → same_cell c d ≡ true → c ≡ d
same_cells c d e =
    let o : c.object ≡ d.object = named c.object d.object (and_left (same_object c.object d.object) (same_owned c.value d.value) e) in
    let v : c.value ≡ d.value = same_values c.value d.value (and_right (same_object c.object d.object) (same_owned c.value d.value) e) in
    ap (λ z. record { object = z; value = c.value }) o ∙ ap (λ z. record { object = d.object; value = z }) v

-- A CELL AT A SERVER

among_server : (ss : List Server) (n : ℕ) (s : Server) (y : Thing) → server_at ss n ≡ Some s → Among y (server_things s) → Among y (servers_things ss)
among_server [] n s y e h = absurd (cc e)
among_server (x ∷ ss) n s y e h =
    eq_cases (λ b. (if b then Some x else server_at ss n) ≡ Some s → Among y (server_things x ++ servers_things ss)) x.rest.number n
    (λ q f. among_first y (server_things x) (servers_things ss) (subst (λ z. Among y (server_things z)) (sym (some_same f)) h)) (λ ne f. among_second y (server_things x) (servers_things ss) (among_server ss n s y f h)) e

module _ (w : ℕ) (o : ObjNo) where
  abbrev f : Thing → ℕ
  f = lies_under w o

  -- it sees no cell of another server
  unseen : (r : ℕ) → (server_of w == r) ≡ false → Unseen f r
  unseen r e = record {
    held = λ p v. refl;
    shared = λ l q. refl;
    borrowed = λ l q. refl;
    locked = λ l m. refl;
    live = λ a c. ap (λ b. one ((b && address_of w == a) && same_object c.object o)) e;
    free = λ a m. refl;
    old = λ a. refl;
    copy = λ s c. refl;
    used = λ s v. refl;
  }

  abbrev away : ℕ
  away = suc (server_of w)

  elsewhere : Unseen f away
  elsewhere = unseen away (eq_cases (λ b. b ≡ false) (server_of w) away (λ e. absurd (omega (arith, e))) (λ ne. refl))

  thread_none : (r : ℕ) (p : Bool) (t : ThreadState) → tot f (thread_things r p t) ≡ 0
  thread_none r p t = thread_alone f away elsewhere r p t

  message_none : (r : ℕ) (m : Message) → tot f (message_things r m) ≡ 0
  message_none r (message.Start t) = omega (arith, thread_none r true t)
  message_none r (message.Migrate t) = omega (arith, thread_none r true t)
  message_none r _ = refl

  queue_none : (m : Rattle.law_counts_sums.specs.Below.fr_base.declared.name.MutexNo.MutexNo) (i : ℕ) (q : List (ℕ × ℕ)) → tot f (things_at (queue_things m) i q) ≡ 0
  queue_none m i [] = refl
  queue_none m i (a ∷ q) = omega (arith, queue_none m (i + 1) q)

  mutex_none : (r i : ℕ) (m : Mutex) → tot f (mutex_things r i m) ≡ 0
  mutex_none r i m = omega (arith, content_none f away elsewhere m, queue_none m.number 0 m.queue, tot-append f (content_things m.number m.content) (things_at (queue_things m.number) 0 m.queue))

  task_none : (r i : ℕ) (t : Task) → tot f (task_things r i t) ≡ 0
  task_none r i t = omega (arith, result_none f away elsewhere t.thread t.state)

  -- of a server it sees the partition
  partition_alone : (s : Server) → tot f (server_things s) ≡ tot f (partition_things s.rest.number s.rest.partition)
  partition_alone s =
      let r = s.rest.number in
      omega (
        arith,
        server_parts f s,
        copies_none f away elsewhere r s.rest.cache,
        none_seen_at f away elsewhere (mutex_things r) (mutex_none r) 0 s.rest.mutexes.there,
        none_seen_at f away elsewhere (task_things r) (task_none r) 0 s.rest.tasks,
        none_seen_at f away elsewhere (standing_things r) (λ i x. thread_none r false x) 0 s.threads,
        none_seen_at f away elsewhere (waiting_things r) (λ i x. message_none r x) 0 s.rest.inbox,
        none_seen_at f away elsewhere leaving_things (λ i x. message_none x.target x.message) 0 s.rest.outbox,
      )

  abbrev There : List (Option Cell) → ℕ → Type 0
  There xs i = (j : ℕ) × (c : Cell) × (address_of w ≡ i + j) × (slice_index_or xs j None ≡ Some c) × (same_object c.object o ≡ true)

  -- a cell of the list is the object, at the address
  cell_there : (r : ℕ) (free : List (ℕ × ℕ)) (xs : List (Option Cell)) (i : ℕ) → 1 ≤ tot f (things_at (cell_things r free) i xs) → There xs i
  cell_there r free [] i l = absurd (omega (arith, l))
  cell_there r free (None ∷ xs) i l =
      let later = cell_there r free xs (i + 1) (omega (arith, l, gone (is_free i free), tot-append f (cell_things r free i None) (things_at (cell_things r free) (i + 1) xs))) in
      (suc later.0, later.1, omega (arith, later.2), later.3, later.4)
    where
      gone : (b : Bool) → tot f (if b then [] else retired r i ∷ []) ≡ 0
      gone true = refl
      gone false = refl
  cell_there r free (Some c ∷ xs) i l = by ((server_of w == r && address_of w == i) && same_object c.object o) refl (λ z. cell_there r free xs (i + 1) z)
    where
      by : (b : Bool) → ((server_of w == r && address_of w == i) && same_object c.object o) ≡ b → (1 ≤ tot f (things_at (cell_things r free) (i + 1) xs) → There xs (i + 1)) → There (Some c ∷ xs) i
      by true e go =
          let at = and_left (server_of w == r && address_of w == i) (same_object c.object o) e in
          let address : address_of w ≡ i = same_number (address_of w) i (and_right (server_of w == r) (address_of w == i) at) in
          (0, c, omega (arith, address), refl, and_right (server_of w == r && address_of w == i) (same_object c.object o) e)
      by false e go =
          let none : one ((server_of w == r && address_of w == i) && same_object c.object o) ≡ 0 = ap one e in
          let later = go (omega (arith, l, none)) in
          (suc later.0, later.1, omega (arith, later.2), later.3, later.4)

  looks : (p : PartitionState) (c : Cell) → server_of w ≡ p.server → colour_of w < p.limit → partition_cell p w ≡ Some c → look p w ≡ Some c
  looks p c here colour there =
      let server : (server_of w == p.server) ≡ true = grind (arith, nat_tests, here) in
      let below : nat_lt (colour_of w) p.limit ≡ true = grind (arith, nat_tests, colour) in
      let found : leads_here p w ≡ true = all (server_of w == p.server) (is_some (partition_cell p w)) (nat_lt (colour_of w) p.limit) server (ap is_some there) below in
      rw found there
    where
      all : (a b c : Bool) → a ≡ true → b ≡ true → c ≡ true → ((a && b) && c) ≡ true
      all true true true a b c = refl
      all true true false a b c = absurd (cc c)
      all true false c a b d = absurd (cc b)
      all false b c a d e = absurd (cc a)

-- the partition is its server's, under the colours of the run
fits : (k : Sight) (m n : ℕ) (ss : List Server) (s : Server) → servers_wrong k m ss ≡ 0 → server_at ss n ≡ Some s → (s.rest.partition.server ≡ s.rest.number) × (s.rest.partition.limit ≡ k.options.colours)
fits k m n [] s z h = absurd (cc h)
fits k m n (x ∷ ss) s z h =
    eq_cases (λ b. (if b then Some x else server_at ss n) ≡ Some s → (s.rest.partition.server ≡ s.rest.number) × (s.rest.partition.limit ≡ k.options.colours)) x.rest.number n
    (λ q d.
    let same : x ≡ s = cc in
    let number = same_number x.rest.number m (other_none (x.rest.number == m) (omega (arith, z))) in
    let server = same_number x.rest.partition.server m (other_none (x.rest.partition.server == m) (omega (arith, z))) in
    let limit = same_number x.rest.partition.limit k.options.colours (other_none (x.rest.partition.limit == k.options.colours) (omega (arith, z))) in
    subst (λ (y : Server). (y.rest.partition.server ≡ y.rest.number) × (y.rest.partition.limit ≡ k.options.colours)) same (server ∙ sym number, limit))
    (λ ne d. fits k (m + 1) n ss s (omega (arith, z)) d) h

-- IN A SOUND CLUSTER

module _ (k : Cluster) (sound : IsSound k) (number : ℕ) (s : Server) (here : server_at k.servers number ≡ Some s) where
  abbrev n : ℕ
  n = s.rest.number

  abbrev hw : HasWords (sight k)
  hw = sound.words.have_words

  pub its_partition : (s.rest.partition.server ≡ n) × (s.rest.partition.limit ≡ k.options.colours)
  its_partition =
      let parts : servers_wrong (sight k) 0 k.servers + sum_threads (sight k) pinned_parcel ≡ 0 = sound.parts.parts_are_typed in
      fits (sight k) 0 number k.servers s (omega (arith, parts)) here

  module _ (p : Pointer) (stands_there : Stands k p) (fresh : IsStale (sight k) p.at → ⊥) where
    -- it has the word of its object
    pub its_word : p.word ≡ hw.word p.object
    its_word = ⊎_elim (λ (x : IsStale (sight k) p.at). absurd (fresh x)) (λ e. e) (hw.same p (among_first p (pointers_in (things_of k)) (taken_pointers k.code (sight k).ground (sight k).ground.threads) stands_there.pointers))

    told : word (sight k) p.object ≡ Some p.word
    told =
        words_law.first_tells k hw p.object (record { pointer = p; among = among_first p (pointers_in (things_of k)) (taken_pointers k.code (sight k).ground (sight k).ground.threads) stands_there.pointers; object = refl; fresh = fresh }) ∙ ap Some (sym its_word)

    pub its_colour : colour_of p.word < k.options.colours
    its_colour =
        let g : ℕ → ℕ = λ v. other (nat_lt (colour_of v) k.options.colours) in
        let all : tot (words g) (things_of k) + tot (next_colours k.options.colours) (things_of k) ≡ 0 = sound.words.below_limit in
        let less = pointer_word g (things_of k) p stands_there.standing in
        let below : nat_lt (colour_of p.word) k.options.colours ≡ true = other_none _ (omega (arith, all, less)) in
        grind (arith, nat_tests, below)

    -- where the object lies and the word is of this server, the word leads to its cell
    pub leads_home : (c : Cell) (r a : ℕ) → Among (lies r a c) (things_of k) → c.object ≡ p.object → server_of p.word ≡ n → look s.rest.partition p.word ≡ Some c
    leads_home c r a lies_it object at_home =
        let w = p.word in
        let o = p.object in
        let leads : LeadsTo r a w = subst (LeadsTo r a) (ap hw.word object ∙ sym its_word) (hw.home r a c lies_it) in
        let spot : lies_under w o (lies r a c) ≡ 1 = at_spot (server_of w) (address_of w) r a c o leads.server leads.address object in
        let alone = here_alone k sound number s here (lies_under w o) (λ x e. partition_alone w o x ∙ partition_none (lies_under w o) x.rest.number (unseen w o x.rest.number (other_way x.rest.number at_home e)) x.rest.partition) in
        let there : 1 ≤ tot (lies_under w o) (things_of k) = subst (λ m. m ≤ tot (lies_under w o) (things_of k)) spot (has_weight (lies_under w o) (lies r a c) (things_of k) lies_it) in
        let free = none_seen_at (lies_under w o) (away w o) (elsewhere w o) (free_things n) (λ j x. refl) 0 s.rest.partition.free in
        let cells_there : 1 ≤ tot (lies_under w o) (things_at (cell_things n s.rest.partition.free) 0 s.rest.partition.cells) =
        omega (arith, there, alone, partition_alone w o s, free, tot-append (lies_under w o) (things_at (cell_things n s.rest.partition.free) 0 s.rest.partition.cells) (things_at (free_things n) 0 s.rest.partition.free)) in
        let it = cell_there w o n s.rest.partition.free s.rest.partition.cells 0 cells_there in
        let d : Cell = it.1 in
        let address : address_of w ≡ it.0 = omega (arith, it.2) in
        let cell : partition_cell s.rest.partition w ≡ Some d = ap (λ b. slice_index_or s.rest.partition.cells b None) address ∙ it.3 in
        let limit : colour_of w < s.rest.partition.limit = omega (arith, its_colour, its_partition.1) in
        let found : look s.rest.partition w ≡ Some d = looks w o s.rest.partition d (at_home ∙ sym its_partition.0) limit cell in
        let among : Among (lies n it.0 d) (things_of k) = in_partition it.0 d it.3 in
        let one_home = only_one (cells o) (lies n it.0 d) (lies r a c) (things_of k) (sound.one_home.home_of_each o) among lies_it (is_cell_of d it.4) (is_cell_of c (itself c.object o object)) in
        found ∙ ap Some (same_lies one_home)
      where
        other_way : (r : ℕ) → server_of p.word ≡ n → (r == n) ≡ false → (server_of p.word == r) ≡ false
        other_way r e ne = eq_cases (λ b. b ≡ false) (server_of p.word) r (λ d. let same : (r == n) ≡ true = grind (arith, nat_tests, sym d ∙ e) in let wrong : true ≡ false = sym same ∙ ne in absurd (cc wrong)) (λ x. refl)

        at_spot : (x y r a : ℕ) (c : Cell) (o : ObjNo) → x ≡ r → y ≡ a → c.object ≡ o → one ((x == r && y == a) && same_object c.object o) ≡ 1
        at_spot x y r a c o e f g =
            let first : (x == r) ≡ true = grind (arith, nat_tests, e) in
            let second : (y == a) ≡ true = grind (arith, nat_tests, f) in
            rw first (rw second (rw (itself c.object o g) refl))

        is_cell_of : (d : Cell) → same_object d.object p.object ≡ true → 1 ≤ one (same_object d.object p.object)
        is_cell_of d e = rw e (omega arith)

        same_lies : {r a q b : ℕ} {c d : Cell} → lies r a c ≡ lies q b d → c ≡ d
        same_lies e = cc

        indexed : (xs : List (Option Cell)) (j : ℕ) (d : Cell) → slice_index_or xs j None ≡ Some d → slice_get xs j ≡ Some (Some d)
        indexed [] j d e = absurd (cc e)
        indexed (x ∷ xs) zero d e = ap Some e
        indexed (x ∷ xs) (suc j) d e = indexed xs j d e

        in_partition : (j : ℕ) (d : Cell) → slice_index_or s.rest.partition.cells j None ≡ Some d → Among (lies n j d) (things_of k)
        in_partition j d e =
            let p = s.rest.partition in
            let number : 0 + j ≡ j = omega arith in
            let y = lies n j d in
            let listed_there : Among y (things_at (cell_things n p.free) 0 p.cells) = listed_in (cell_things n p.free) y 0 j p.cells (Some d) (indexed p.cells j d e) (inl (ap (λ i. lies n i d) number)) in
            among_server k.servers number_of s y here (inr (in_front listed_there))
          where
            number_of : ℕ
            number_of = number

            in_front : Among (lies n j d) (things_at (cell_things n s.rest.partition.free) 0 s.rest.partition.cells) → Among (lies n j d) (partition_things n s.rest.partition ++ things_at (copy_things n) 0 s.rest.cache ++ things_at (mutex_things n) 0 s.rest.mutexes.there ++ things_at (task_things n) 0 s.rest.tasks ++ things_at (standing_things n) 0 s.threads ++ things_at (waiting_things n) 0 s.rest.inbox ++ things_at leaving_things 0 s.rest.outbox)
            in_front h =
                let y = lies n j d in
                let a = partition_things n s.rest.partition in
                let b = things_at (copy_things n) 0 s.rest.cache in
                let m = things_at (mutex_things n) 0 s.rest.mutexes.there in
                let t = things_at (task_things n) 0 s.rest.tasks in
                let u = things_at (standing_things n) 0 s.threads in
                let i = things_at (waiting_things n) 0 s.rest.inbox in
                among_first y (a ++ b ++ m ++ t ++ u ++ i) (things_at leaving_things 0 s.rest.outbox)
                (among_first y (a ++ b ++ m ++ t ++ u) i (among_first y (a ++ b ++ m ++ t) u (among_first y (a ++ b ++ m) t (among_first y (a ++ b) m (among_first y a b
                (among_first y (things_at (cell_things n s.rest.partition.free) 0 s.rest.partition.cells) (things_at (free_things n) 0 s.rest.partition.free) h))))))
