-- The one heap of a sound cluster is the state of a plain machine.
use Rattle.std.proofs.Common.{◌≡◌, inl, inr, ℕ, zero, suc, ◌+◌, ◌*◌, ◌%◌, ◌/◌, ◌^◌, ◌<◌, ◌≤◌, ◌==◌, not, ◌&&◌, ◌||◌, Bool, true, false, if◌then◌else◌, List, [], ◌∷◌, ◌++◌, length, Option, Some, None, refl, sym, ap, subst, ◌∙◌, arith}
use Rattle.std.specs.Prelude.{slice_get, nat_le, nat_lt}
use Rattle.std.proofs.lemmas.Bool.Decides.{nat_tests}
use Rattle.law_heap_still.specs.Below.fr_base.declared.label.Plain.{Plain}
use Rattle.law_heap_still.specs.Below.fr_base.declared.name.MutexNo.{MutexNo}
use Rattle.law_heap_still.specs.Below.fr_base.declared.name.ObjNo.{ObjNo}
use Rattle.law_heap_still.specs.Below.fr_plain.Heap.{Heap, made_by, cell_at, flat}
use Rattle.law_heap_still.specs.Below.fr_plain.MachineThreads.{Life, alive, over, owing, loose, ended, is_over, thread_at as plain_thread, pair_of as plain_pair, Shared}
use Rattle.law_heap_still.specs.Below.fr_plain.PlainState.{running, running_in, is_over_in, two_of}
use Rattle.law_heap_still.specs.Below.fr_code.Machine.{CodeThread, CodeWhole, CodeRunning}
use Rattle.law_heap_still.specs.Below.fr_code.Steps.{Place}
use Rattle.law_heap_still.specs.Below.heap_partition.declared.value.Cell.{Cell}
use Rattle.law_heap_still.specs.Below.heap_partition.declared.value.Owned.{Owned}
use Rattle.law_heap_still.specs.Below.heap_partition.declared.value.Owned.TheVariants as owned
use Rattle.law_heap_still.specs.Below.thread_state.View.{is_over as is_over_phase}
use Rattle.law_heap_still.specs.Below.thread_state.declared.phase.Phase.{Phase}
use Rattle.law_heap_still.specs.Below.thread_state.declared.phase.Phase.TheVariants as phase
use Rattle.law_heap_still.specs.Below.server_model.Servers.{Cluster}
use Rattle.law_heap_still.proofs.Below.fr_typing.PlaceLemmas.{eq_cases}
use Rattle.law_heap_still.specs.Below.coherent_memory.Names.{tot, one, other, some, Among, same_object}
use Rattle.law_heap_still.specs.Below.coherent_memory.Things.{Thing, holds, lies, flies, counts, stands, things_of}
use Rattle.law_heap_still.specs.Below.coherent_memory.Follow.{Standing, threads_in, thread_at, cells_in, cell_of}
use Rattle.law_heap_still.specs.Below.coherent_memory.Sight.{Sight, sight}
use Rattle.law_heap_still.specs.Below.coherent_memory.Sharing.{owned_mutex}
use Rattle.law_heap_still.specs.Below.coherent_memory.Naming.{threads, named_mutexes, started_at, made_at, zeroth_thread, uncounted_thread, uncounted_mutex, zeroth_mutex, was_made, not_made}
use Rattle.law_heap_still.specs.Below.coherent_memory.Requests.{home_of}
use Rattle.law_heap_still.specs.Below.coherent_memory.Coherent.{IsSound}
use Rattle.law_heap_still.specs.Below.coherent_memory.OneHeap.{first_shown, content_value, share_in, Node, mutex_n, names, owns, named_in, owner_of, any_named, in_state_by, is_in_state, object_value, mutex_state, if_there, PlainLife, ended_with, was_let_go, going_on, running_at, life_of, life_at, made_of, two_in, pair_of, is_given_thread, is_given_mutex, if_given, thread_state}
use Rattle.law_heap_still.proofs.Below.coherent_memory.Names.{and_left, and_right, same_number, same_mutexes}
use Rattle.law_heap_still.proofs.Below.law_words_paths.paths.Sole.{some_is}
use Rattle.law_heap_still.proofs.Below.law_words_paths.paths.Shown.{none_else, object_shown}
use Rattle.law_heap_still.proofs.Below.law_words_paths.paths.Contained.{among_thread}
use Rattle.law_types_still.specs.heap.Shown.{IsShown, HeapsAreWhole}
use Rattle.law_types_still.proofs.heap.Lists.{is_one, one_more, one_here, one_left, one_right, up_from, one_up, threads_for, threads_show, if_one, cells_for, cells_length, cell_there, no_cell, heap_for, made_there, pairs_for, pairs_show, is_one_mutex, mutexes_for, mutexes_show, mutex_left, mutex_right, mutexes_up, mutex_up}

-- LIVES

ended_over : (o : Option Plain) → is_over (ended_with o) ≡ true
ended_over None = refl
ended_over (Some v) = refl

going_not_over : (s : Sight) (t : ℕ) (p : CodeRunning) → is_over (going_on s t p) ≡ false
going_not_over s zero p = refl
going_not_over s (suc t) p = by (was_let_go s (suc t))
  where
    by : (q : Bool) → is_over (if q then loose p else owing p) ≡ false
    by true = refl
    by false = refl

-- a thread that stands nowhere, or is over
abbrev rests : Option Standing → Bool
rests None = true
rests (Some x) = is_over_phase x.thread.phase

life_rests : (s : Sight) (t : ℕ) (o : Option Standing) → is_over (life_at s t o) ≡ rests o
life_rests s t None = ended_over _
life_rests s t (Some x) = by (is_over_phase x.thread.phase)
  where
    by : (q : Bool) → is_over (life_of s x.thread q) ≡ q
    by true = ended_over _
    by false = going_not_over s x.thread.number (running_at x.thread)

-- what is shown of a thread tells whether it has ended
abbrev over_shown : Option PlainLife → Bool
over_shown None = false
over_shown (Some l) = is_over l

running_over : (x : CodeThread) → is_over x.life ≡ is_over (running x.slots x.life)
running_over x = by x.life
  where
    by : (l : Life Place) → is_over l ≡ is_over (running x.slots l)
    by (alive p) = refl
    by over = refl
    by (owing p) = refl
    by (loose p) = refl
    by (ended v) = refl

tells_over : (o : Option CodeThread) → is_over_in o ≡ over_shown (running_in o)
tells_over None = refl
tells_over (Some x) = running_over x

no_pair : (p : Phase) → is_over_phase p ≡ true → two_in p ≡ None
no_pair phase.Over e = refl
no_pair phase.Ready e = refl
no_pair (phase.WaitCell w) e = refl
no_pair phase.Got e = refl
no_pair (phase.Taken w) e = refl
no_pair (phase.WaitLock m) e = refl
no_pair (phase.WaitDup m) e = refl
no_pair (phase.WaitJoin t) e = refl
no_pair (phase.WaitPar a b) e = absurd cc
no_pair (phase.GotPar a b) e = absurd cc

-- NAMES THAT WERE GIVEN

-- the threads that the servers have counted
abbrev numbers_in : List Thing → List ℕ
numbers_in [] = []
numbers_in (counts r next old started made events ∷ b) = up_from (r * 2 ^ 32) started ++ numbers_in b
numbers_in (x ∷ b) = numbers_in b

le_of : (m n : ℕ) → nat_le m n ≡ true → m ≤ n
le_of m n e = grind (arith, nat_tests, e)

no_more : (n : ℕ) → some (0 + n) ≡ true → some n ≡ true
no_more n e = let z : 0 + n ≡ n = omega arith in subst (λ i. some i ≡ true) z e

counted_number : (t : ℕ) (b : List Thing) → some (tot (started_at (home_of t) (t % 2 ^ 32)) b) ≡ true → is_one t (numbers_in b) ≡ true
counted_number t [] e = absurd cc
counted_number t (counts r next old started made events ∷ b) e = by (counted_number t b) (r == home_of t && nat_le (t % 2 ^ 32) started) refl e
  where
    by : (some (tot (started_at (home_of t) (t % 2 ^ 32)) b) ≡ true → is_one t (numbers_in b) ≡ true) → (q : Bool) → (r == home_of t && nat_le (t % 2 ^ 32) started) ≡ q → some (one q + tot (started_at (home_of t) (t % 2 ^ 32)) b) ≡ true → is_one t (up_from (r * 2 ^ 32) started ++ numbers_in b) ≡ true
    by go true h f =
        let home : r ≡ t / 2 ^ 32 = same_number r (home_of t) (and_left (r == home_of t) (nat_le (t % 2 ^ 32) started) h) in
        let small : t % 2 ^ 32 ≤ started = le_of (t % 2 ^ 32) started (and_right (r == home_of t) (nat_le (t % 2 ^ 32) started) h) in
        let is : r * 2 ^ 32 + t % 2 ^ 32 ≡ t = omega (arith, home) in
        one_left t (up_from (r * 2 ^ 32) started) (numbers_in b) (subst (λ n. is_one n (up_from (r * 2 ^ 32) started) ≡ true) is (one_up (r * 2 ^ 32) started (t % 2 ^ 32) small))
    by go false h f = one_right t (up_from (r * 2 ^ 32) started) (numbers_in b) (go (no_more (tot (started_at (home_of t) (t % 2 ^ 32)) b) f))
counted_number t (_ ∷ b) e = counted_number t b (no_more (tot (started_at (home_of t) (t % 2 ^ 32)) b) e)

-- and the mutexes
abbrev mutexes_in : List Thing → List MutexNo
mutexes_in [] = []
mutexes_in (counts r next old started made events ∷ b) = mutexes_up r made ++ mutexes_in b
mutexes_in (x ∷ b) = mutexes_in b

counted_mutex : (m : MutexNo) (b : List Thing) → some (tot (made_at m.home m.count) b) ≡ true → is_one_mutex m (mutexes_in b) ≡ true
counted_mutex m [] e = absurd cc
counted_mutex m (counts r next old started made events ∷ b) e = by (counted_mutex m b) (r == m.home && nat_le m.count made) refl e
  where
    by : (some (tot (made_at m.home m.count) b) ≡ true → is_one_mutex m (mutexes_in b) ≡ true) → (q : Bool) → (r == m.home && nat_le m.count made) ≡ q → some (one q + tot (made_at m.home m.count) b) ≡ true → is_one_mutex m (mutexes_up r made ++ mutexes_in b) ≡ true
    by go true h f =
        let home : r ≡ m.home = same_number r m.home (and_left (r == m.home) (nat_le m.count made) h) in
        let small : m.count ≤ made = le_of m.count made (and_right (r == m.home) (nat_le m.count made) h) in
        mutex_left m (mutexes_up r made) (mutexes_in b) (subst (λ n. is_one_mutex m (mutexes_up n made) ≡ true) (sym home) (mutex_up m made small))
    by go false h f = mutex_right m (mutexes_up r made) (mutexes_in b) (go (no_more (tot (made_at m.home m.count) b) f))
counted_mutex m (_ ∷ b) e = counted_mutex m b (no_more (tot (made_at m.home m.count) b) e)

-- WHAT NOTHING BREAKS

-- a sum that is nothing is nothing at each thing of the list
none_at_thread : (f : Thing → ℕ) (x : Standing) (b : List Thing) → tot f b ≡ 0 → Among x (threads_in b) → f (stands x.server x.packed x.thread) ≡ 0
none_at_thread f x [] z h = absurd h
none_at_thread f x (stands s p t ∷ b) z (inl e) = subst (λ (y : Standing). f (stands y.server y.packed y.thread) ≡ 0) e (omega (arith, z))
none_at_thread f x (stands s p t ∷ b) z (inr h) = none_at_thread f x b (omega (arith, z)) h
none_at_thread f x (_ ∷ b) z h = none_at_thread f x b (omega (arith, z)) h

first_or_later : (g : Cell → ℕ) (c d : Cell) (n : ℕ) → g d ≤ n → n ≡ 0 → (y : Bool) (rest : Option Cell) → (rest ≡ Some c → g c ≡ 0) → (if y then Some d else rest) ≡ Some c → g c ≡ 0
first_or_later g c d n l z true rest later h = subst (λ (x : Cell). g x ≡ 0) (some_is h) (omega (arith, z, l))
first_or_later g c d n l z false rest later h = later h

-- and at the cell of an object
none_at_cell : (f : Thing → ℕ) (g : Cell → ℕ) → ((r a : ℕ) (c : Cell) → g c ≤ f (lies r a c)) → ((w : ℕ) (c : Cell) → g c ≤ f (flies w c)) → (o : ObjNo) (c : Cell) (b : List Thing) → tot f b ≡ 0 → cell_of (cells_in b) o ≡ Some c → g c ≡ 0
none_at_cell f g p q o c [] z e = absurd cc
none_at_cell f g p q o c (lies r a d ∷ b) z e =
    first_or_later g c d (f (lies r a d)) (p r a d) (omega (arith, z)) (same_object d.object o) (cell_of (cells_in b) o) (none_at_cell f g p q o c b (omega (arith, z))) e
none_at_cell f g p q o c (flies w d ∷ b) z e =
    first_or_later g c d (f (flies w d)) (q w d) (omega (arith, z)) (same_object d.object o) (cell_of (cells_in b) o) (none_at_cell f g p q o c b (omega (arith, z))) e
none_at_cell f g p q o c (_ ∷ b) z e = none_at_cell f g p q o c b (omega (arith, z)) e

cell_is_of : (o : ObjNo) (c : Cell) (cs : List Cell) → cell_of cs o ≡ Some c → same_object c.object o ≡ true
cell_is_of o c [] e = absurd cc
cell_is_of o c (d ∷ cs) e = by (cell_is_of o c cs) (same_object d.object o) refl e
  where
    by : (cell_of cs o ≡ Some c → same_object c.object o ≡ true) → (q : Bool) → same_object d.object o ≡ q → (if q then Some d else cell_of cs o) ≡ Some c → same_object c.object o ≡ true
    by go true h f = subst (λ (x : Cell). same_object x.object o ≡ true) (some_is f) h
    by go false h f = go f

-- above the number of each object
abbrev bound : List Cell → ℕ
bound cs = tot (λ (c : Cell). suc c.object.count) cs

below_bound : (o : ObjNo) (c : Cell) (cs : List Cell) → cell_of cs o ≡ Some c → c.object.count < bound cs
below_bound o c [] e = absurd cc
below_bound o c (d ∷ cs) e = by (below_bound o c cs) (same_object d.object o) e
  where
    by : (cell_of cs o ≡ Some c → c.object.count < bound cs) → (q : Bool) → (if q then Some d else cell_of cs o) ≡ Some c → c.object.count < suc d.object.count + bound cs
    by go true f = (let s : d.object.count ≡ c.object.count = ap (λ (x : Cell). x.object.count) (some_is f) in omega (arith, s))
    by go false f = (let l = go f in omega (arith, l))

given_by : (a b d : Bool) → one (b && not a) ≡ 0 → d ≡ true → a || (not b && d) ≡ true
given_by true b d z e = refl
given_by false true d z e = absurd cc
given_by false false d z e = e

module _ (k : Cluster) (sound : IsSound k) where
  abbrev s : Sight
  s = sight k

  uncounted : tot (threads (uncounted_thread s)) (things_of k) ≡ 0
  uncounted = let z = sound.names.names_counted in omega (arith, z)

  zeroth : tot (threads zeroth_thread) (things_of k) ≡ 0
  zeroth = let z = sound.names.counts_from_one in omega (arith, z)

  number_given : (t : ℕ) → uncounted_thread s t ≡ 0 → zeroth_thread t ≡ 0 → is_given_thread s t ≡ true
  number_given t a b = given_by (t == 0) (t % 2 ^ 32 == 0) (some (tot (started_at (home_of t) (t % 2 ^ 32)) (things_of k))) b (none_else (some (tot (started_at (home_of t) (t % 2 ^ 32)) (things_of k))) a)

  -- a thread that stands somewhere was given
  standing_given : (t : ℕ) (x : Standing) → thread_at s.ground.threads t ≡ Some x → is_given_thread s t ≡ true
  standing_given t x e =
      let q = among_thread s.ground.threads t x e in
      let a = none_at_thread (threads (uncounted_thread s)) x (things_of k) uncounted q.0 in
      let b = none_at_thread (threads zeroth_thread) x (things_of k) zeroth q.0 in
      subst (λ n. is_given_thread s n ≡ true) q.1 (number_given x.thread.number (omega (arith, a)) (omega (arith, b)))

  -- so was the one that made an object
  maker_given : (o : ObjNo) (c : Cell) → cell_of (cells_in (things_of k)) o ≡ Some c → is_given_thread s c.object.thread ≡ true
  maker_given o c e =
      number_given c.object.thread
      (none_at_cell (threads (uncounted_thread s)) (λ d. uncounted_thread s d.object.thread) (λ r a d. omega arith) (λ w d. omega arith) o c (things_of k) uncounted e)
      (none_at_cell (threads zeroth_thread) (λ d. zeroth_thread d.object.thread) (λ r a d. omega arith) (λ w d. omega arith) o c (things_of k) zeroth e)

  -- MUTEXES

  mutexes_weigh : (f : MutexNo → ℕ) (m : MutexNo) (b : List Thing) (go : Node → Bool) → any_named s go (mutex_n m) b ≡ true → tot (named_mutexes f) b ≡ 0 → f m ≡ 0
  mutexes_weigh f m [] go e z = absurd cc
  mutexes_weigh f m (x ∷ b) go e z = by (λ g. mutexes_weigh f m b go g (omega (arith, z))) (names (mutex_n m) x) refl e
    where
      owned_weighs : (v : Owned) → owns (mutex_n m) v ≡ true → owned_mutex f v ≡ 0 → f m ≡ 0
      owned_weighs owned.Nothing h y = absurd cc
      owned_weighs owned.Unit h y = absurd cc
      owned_weighs (owned.Int i) h y = absurd cc
      owned_weighs (owned.Box p) h y = absurd cc
      owned_weighs (owned.Mutex n) h y = subst (λ i. f i ≡ 0) (same_mutexes n m h) y
      owned_weighs (owned.Task t) h y = absurd cc

      weighs : (y : Thing) → names (mutex_n m) y ≡ true → named_mutexes f y ≡ 0 → f m ≡ 0
      weighs (holds p v) h q = owned_weighs v h q
      weighs (lies r a c) h q = owned_weighs c.value h q
      weighs (flies w c) h q = owned_weighs c.value h q
      weighs _ h q = absurd cc

      by : (any_named s go (mutex_n m) b ≡ true → f m ≡ 0) → (q : Bool) → names (mutex_n m) x ≡ q → named_in q go (owner_of s x) || any_named s go (mutex_n m) b ≡ true → f m ≡ 0
      by later true h g = weighs x h (omega (arith, z))
      by later false h g = later g

  in_state_given : (m : MutexNo) → is_in_state s (mutex_n m) ≡ true → is_given_mutex s m ≡ true
  in_state_given m e = by (length s.things) e
    where
      by : (n : ℕ) → in_state_by n s (mutex_n m) ≡ true → is_given_mutex s m ≡ true
      by zero h = absurd cc
      by (suc n) h =
          let a = mutexes_weigh (uncounted_mutex s) m (things_of k) (in_state_by n s) h (let z = sound.names.names_counted in omega (arith, z)) in
          let b = mutexes_weigh zeroth_mutex m (things_of k) (in_state_by n s) h (let z = sound.names.counts_from_one in omega (arith, z)) in
          both (m.count == 0) (some (tot (made_at m.home m.count) (things_of k))) b (none_else (some (tot (made_at m.home m.count) (things_of k))) a)
        where
          both : (p q : Bool) → one p ≡ 0 → q ≡ true → not p && q ≡ true
          both true q z y = absurd cc
          both false q z y = y

  -- THE STATE

  abbrev these : List ℕ
  these = 0 ∷ numbers_in (things_of k)

  given_there : (t : ℕ) → is_given_thread s t ≡ true → is_one t these ≡ true
  given_there t e = eq_cases (λ q. q || (not (t % 2 ^ 32 == 0) && some (tot (started_at (home_of t) (t % 2 ^ 32)) (things_of k))) ≡ true → is_one t these ≡ true) t 0
      (λ z f. subst (λ n. is_one n these ≡ true) (sym z) (one_here 0 (numbers_in (things_of k))))
      (λ ne f. one_more t 0 (numbers_in (things_of k)) (counted_number t (things_of k) (and_right (not (t % 2 ^ 32 == 0)) (some (tot (started_at (home_of t) (t % 2 ^ 32)) (things_of k))) f))) e

  abbrev at : ℕ → Option Standing
  at t = thread_at s.ground.threads t

  abbrev room : Bool → Bool → ℕ → ℕ
  room false r n = 0
  room true true n = bound (cells_in (things_of k))
  room true false n = n

  abbrev cells : ℕ → List (Option Plain)
  cells t = cells_for (λ i. object_value s (record { thread = t; count = i })) 0 (room (is_given_thread s t) (rests (at t)) (made_of (at t)))

  abbrev heap : Heap
  heap = heap_for cells these

  abbrev ms : List MutexNo
  ms = mutexes_in (things_of k)

  abbrev whole : CodeWhole
  whole = record {
    threads = threads_for (thread_state s) these;
    heap = heap;
    mutexes = mutexes_for (is_given_mutex s) (mutex_state s) ms;
    pairs = pairs_for (λ t. pair_of (at t)) these;
    output = [];
  }

  shown_thread : (t : ℕ) → running_in (plain_thread whole.threads t) ≡ thread_state s t
  shown_thread t = threads_show (thread_state s) t these ∙ by (is_given_thread s t) refl (is_one t these) refl
    where
      by : (g : Bool) → is_given_thread s t ≡ g → (q : Bool) → is_one t these ≡ q → if_one q (if_given g (life_at s t (at t))) ≡ if_given g (life_at s t (at t))
      by true e true f = refl
      by true e false f = let z : false ≡ true = sym f ∙ given_there t e in absurd cc
      by false e true f = refl
      by false e false f = refl

  shown_over : (t : ℕ) → is_over_in (plain_thread whole.threads t) ≡ is_given_thread s t && rests (at t)
  shown_over t = tells_over (plain_thread whole.threads t) ∙ ap over_shown (shown_thread t) ∙ by (is_given_thread s t)
    where
      by : (g : Bool) → over_shown (if_given g (life_at s t (at t))) ≡ g && rests (at t)
      by true = life_rests s t (at t)
      by false = refl

  -- who stands nowhere has made nothing
  made_nothing : (t : ℕ) → is_given_thread s t ≡ false → at t ≡ None
  made_nothing t e = by (at t) refl
    where
      by : (o : Option Standing) → at t ≡ o → at t ≡ None
      by None f = f
      by (Some x) f = let z : true ≡ false = sym (standing_given t x f) ∙ e in absurd cc

  abbrev cells_if : ℕ → ℕ → Bool → List (Option Plain)
  cells_if t n q = if q then cells_for (λ i. object_value s (record { thread = t; count = i })) 0 n else []

  shown_made : (t : ℕ) → (if is_over_in (plain_thread whole.threads t) then 0 else length (made_by heap t)) ≡ made_of (at t)
  shown_made t =
      ap (λ q. if q then 0 else length (made_by heap t)) (shown_over t)
      ∙ ap (λ l. if is_given_thread s t && rests (at t) then 0 else length l) (made_there cells t these)
      ∙ by (is_given_thread s t) refl (at t) refl (is_one t these) refl
    where
      standing : (x : Standing) (p : Bool) → (if p then 0 else length (cells_if t (room true p (if p then 0 else x.thread.made)) true)) ≡ (if p then 0 else x.thread.made)
      standing x true = refl
      standing x false = cells_length (λ i. object_value s (record { thread = t; count = i })) 0 x.thread.made

      by : (g : Bool) → is_given_thread s t ≡ g → (o : Option Standing) → at t ≡ o → (q : Bool) → is_one t these ≡ q → (if g && rests o then 0 else length (cells_if t (room g (rests o) (made_of o)) q)) ≡ made_of o
      by false e None f true h = refl
      by false e None f false h = refl
      by false e (Some x) f q h = let z : None ≡ Some x = sym (made_nothing t e) ∙ f in absurd cc
      by true e o f false h = let z : false ≡ true = sym h ∙ given_there t e in absurd cc
      by true e None f true h = refl
      by true e (Some x) f true h = standing x (is_over_phase x.thread.phase)

  shown_pair : (t : ℕ) → (if is_over_in (plain_thread whole.threads t) then None else two_of (plain_pair whole.pairs t)) ≡ pair_of (at t)
  shown_pair t =
      ap (λ q. if q then None else two_of (plain_pair whole.pairs t)) (shown_over t)
      ∙ ap (λ l. if is_given_thread s t && rests (at t) then None else l) (pairs_show (λ u. pair_of (at u)) t these)
      ∙ by (is_given_thread s t) refl (at t) refl (is_one t these) refl
    where
      standing : (x : Standing) (p : Bool) → is_over_phase x.thread.phase ≡ p → (if p then None else two_in x.thread.phase) ≡ two_in x.thread.phase
      standing x true e = sym (no_pair x.thread.phase e)
      standing x false e = refl

      by : (g : Bool) → is_given_thread s t ≡ g → (o : Option Standing) → at t ≡ o → (q : Bool) → is_one t these ≡ q → (if g && rests o then None else if_one q (pair_of o)) ≡ pair_of o
      by false e None f true h = refl
      by false e None f false h = refl
      by false e (Some x) f q h = let z : None ≡ Some x = sym (made_nothing t e) ∙ f in absurd cc
      by true e o f false h = let z : false ≡ true = sym h ∙ given_there t e in absurd cc
      by true e None f true h = refl
      by true e (Some x) f true h = standing x (is_over_phase x.thread.phase) refl

  -- an object that is there is below the room of its thread
  in_room : (o : ObjNo) (v : Plain) → object_value s o ≡ Some v → (is_given_thread s o.thread ≡ true) × (o.count < room (is_given_thread s o.thread) (rests (at o.thread)) (made_of (at o.thread)))
  in_room o v e =
      let c = object_shown s o v e in
      let same = cell_is_of o c.0 (cells_in (things_of k)) c.1 in
      let thread : c.0.object.thread ≡ o.thread = same_number c.0.object.thread o.thread (and_left (c.0.object.thread == o.thread) (c.0.object.count == o.count) same) in
      let count : c.0.object.count ≡ o.count = same_number c.0.object.count o.count (and_right (c.0.object.thread == o.thread) (c.0.object.count == o.count) same) in
      let given : is_given_thread s o.thread ≡ true = subst (λ n. is_given_thread s n ≡ true) thread (maker_given o c.0 c.1) in
      let made = none_at_cell (not_made s) (λ d. other (was_made d.object (thread_at s.ground.threads d.object.thread))) (λ r a d. omega arith) (λ w d. omega arith) o c.0 (things_of k) sound.names.objects_made c.1 in
      let small = below_bound o c.0 (cells_in (things_of k)) c.1 in
      let before : was_made c.0.object (at o.thread) ≡ true = subst (λ n. was_made c.0.object (at n) ≡ true) thread (none_else (was_made c.0.object (at c.0.object.thread)) made) in
      (given, subst (λ g. o.count < room g (rests (at o.thread)) (made_of (at o.thread))) (sym given) (by c.0 count small (at o.thread) before))
    where
      standing : (c : Cell) → c.object.count ≡ o.count → c.object.count < bound (cells_in (things_of k)) → (x : Standing) (p : Bool) → p || nat_lt c.object.count x.thread.made ≡ true → o.count < room true p (if p then 0 else x.thread.made)
      standing c n l x true h = omega (arith, n, l)
      standing c n l x false h = let m : c.object.count < x.thread.made = grind (arith, nat_tests, h) in omega (arith, n, m)

      by : (c : Cell) → c.object.count ≡ o.count → c.object.count < bound (cells_in (things_of k)) → (q : Option Standing) → was_made c.object q ≡ true → o.count < room true (rests q) (made_of q)
      by c n l None h = omega (arith, n, l)
      by c n l (Some x) h = standing c n l x (is_over_phase x.thread.phase) h

  abbrev value_here : ObjNo → ℕ → Option Plain
  value_here o i = object_value s (record { thread = o.thread; count = i })

  abbrev room_of : ObjNo → ℕ
  room_of o = room (is_given_thread s o.thread) (rests (at o.thread)) (made_of (at o.thread))

  shown_object : (o : ObjNo) → cell_at heap o ≡ object_value s o
  shown_object o = ap (λ l. flat (slice_get l o.count)) (made_there cells o.thread these) ∙ by (object_value s o) refl
    where
      absent : object_value s o ≡ None → (q : Bool) → flat (slice_get (if q then cells_for (value_here o) 0 (room_of o) else []) o.count) ≡ None
      absent e false = refl
      absent e true = eq_within (nat_le (room_of o) o.count) refl
        where
          eq_within : (b : Bool) → nat_le (room_of o) o.count ≡ b → flat (slice_get (cells_for (value_here o) 0 (room_of o)) o.count) ≡ None
          eq_within true h = ap flat (no_cell (value_here o) 0 (room_of o) o.count (le_of (room_of o) o.count h))
          eq_within false h = let l : o.count < room_of o = grind (arith, nat_tests, h) in let zero_on : 0 + o.count ≡ o.count = omega arith in ap flat (cell_there (value_here o) 0 (room_of o) o.count l) ∙ ap (value_here o) zero_on ∙ e

      by : (r : Option Plain) → object_value s o ≡ r → flat (slice_get (if is_one o.thread these then cells_for (value_here o) 0 (room_of o) else []) o.count) ≡ object_value s o
      by None e = absent e (is_one o.thread these) ∙ sym e
      by (Some v) e =
          let h = in_room o v e in
          let zero_on : 0 + o.count ≡ o.count = omega arith in
          ap (λ q. flat (slice_get (if q then cells_for (value_here o) 0 (room_of o) else []) o.count)) (given_there o.thread h.0) ∙ ap flat (cell_there (value_here o) 0 (room_of o) o.count h.1) ∙ ap (value_here o) zero_on

  shown_given : (m : MutexNo) → (if is_one_mutex m ms then is_given_mutex s m else false) ≡ is_given_mutex s m
  shown_given m = by (is_given_mutex s m) refl (is_one_mutex m ms) refl
    where
      by : (g : Bool) → is_given_mutex s m ≡ g → (q : Bool) → is_one_mutex m ms ≡ q → (if q then g else false) ≡ g
      by g e true f = refl
      by false e false f = refl
      by true e false f =
          let z : false ≡ true = sym f ∙ counted_mutex m (things_of k) (and_right (not (m.count == 0)) (some (tot (made_at m.home m.count) (things_of k))) e) in
          absurd cc

  not_there : (b : Bool) (x : Shared) → b ≡ false → if_there b x ≡ None
  not_there true x e = absurd cc
  not_there false x e = refl

  shown_mutex : (m : MutexNo) → (if is_given_mutex s m then mutex_state s m else None) ≡ mutex_state s m
  shown_mutex m = by (is_given_mutex s m) refl (is_in_state s (mutex_n m)) refl
    where
      by : (g : Bool) → is_given_mutex s m ≡ g → (q : Bool) → is_in_state s (mutex_n m) ≡ q → (if g then mutex_state s m else None) ≡ mutex_state s m
      by true e q f = refl
      by false e true f = let z : false ≡ true = sym e ∙ in_state_given m f in absurd cc
      by false e false f = sym (not_there (is_in_state s (mutex_n m)) (record { content = first_shown (content_value s m) s.things; shares = tot (share_in s m) s.things }) f)

  pub is_whole : IsShown k
  is_whole = record {
    whole = whole;
    shows = record {
      threads = shown_thread;
      made = shown_made;
      pairs = shown_pair;
      objects = shown_object;
      mutexes = λ m. (mutexes_show (is_given_mutex s) (mutex_state s) m ms).1 ∙ ap (λ g. if g then mutex_state s m else None) (shown_given m) ∙ shown_mutex m;
      given = λ m. (mutexes_show (is_given_mutex s) (mutex_state s) m ms).0 ∙ shown_given m;
    };
  }

pub heaps_are_whole : HeapsAreWhole
heaps_are_whole k sound = is_whole k sound
