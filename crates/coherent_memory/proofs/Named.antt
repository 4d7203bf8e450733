-- Each mutex that is named is there: what names it is a share of it, its content, or a thread that waits for it where a value of it stands.
use Rattle.std.proofs.Common.{◌≡◌, inl, inr, ℕ, zero, suc, ◌+◌, ◌≤◌, Bool, true, false, ◌&&◌, if◌then◌else◌, List, [], ◌∷◌, ◌++◌, Option, Some, None, refl, sym, ap, subst, ◌∙◌, arith}
use Rattle.std.specs.Prelude.{◌==◌, slice_get}
use Rattle.std.proofs.lemmas.Bool.Decides.{nat_tests}
use Rattle.server_model.specs.Below.fr_base.declared.name.ObjNo.{ObjNo}
use Rattle.server_model.specs.Below.fr_base.declared.name.MutexNo.{MutexNo}
use Rattle.server_model.specs.Below.fr_base.declared.instruction.Instr.{Instr}
use Rattle.server_model.specs.Below.fr_base.declared.instruction.Instr.TheVariants as instr
use Rattle.server_model.specs.Below.fr_base.declared.release.Released.{Released}
use Rattle.server_model.specs.Below.fr_base.declared.release.Released.TheVariants as released
use Rattle.server_model.specs.Below.heap_partition.declared.value.Cell.{Cell}
use Rattle.server_model.specs.Below.heap_partition.declared.value.Owned.{Owned}
use Rattle.server_model.specs.Below.heap_partition.declared.value.Owned.TheVariants as owned
use Rattle.server_model.specs.Below.thread_state.View.{ThreadState}
use Rattle.server_model.specs.Below.thread_state.declared.value.Value.{Value}
use Rattle.server_model.specs.Below.thread_state.declared.value.Value.TheVariants as value
use Rattle.server_model.specs.Below.thread_state.declared.phase.Phase.{Phase}
use Rattle.server_model.specs.Below.thread_state.declared.phase.Phase.TheVariants as phase
use Rattle.server_model.specs.Below.server_msgs.declared.message.Message.{Message}
use Rattle.server_model.specs.Below.server_msgs.declared.message.Message.TheVariants.{Lock, Granted, Unlock, Dup, Dupped, Release}
use Rattle.server_model.specs.Servers.{Cluster}
use Rattle.coherent_memory.specs.Names.{tot, one, other, some, same_mutex, mutex_values, Among}
use Rattle.coherent_memory.specs.Things.{Location, at_slot, at_temp, in_cell, Thing, holds, locks, lies, flies, sent, stands, at_home, queued, things_at, gift_things, walk_things, slot_things, temp_things, thread_things, things_of}
use Rattle.coherent_memory.specs.Follow.{Standing, threads_in, thread_at, cells_in, cell_of, value_of, slot_of, temp_of, value_in, value_behind, place_at}
use Rattle.coherent_memory.specs.Sight.{sight}
use Rattle.coherent_memory.specs.Weights.{shares_of, shares_at_home, is_home_of}
use Rattle.coherent_memory.specs.Walking.{instr_of}
use Rattle.coherent_memory.specs.Requests.{in_phase, phase_fits, is_lock, is_dup, carries, mutex_of, locked_mutex, dupped_mutex, is_mutex, stands_wrong}
use Rattle.coherent_memory.specs.Sharing.{contents, owned_mutex, released_mutex, message_mutex, phase_mutex, mutexes, there_at, named_wrong, elsewhere, loose_mark}
use Rattle.coherent_memory.specs.Following.{MutexesNoted}
use Rattle.coherent_memory.proofs.Names.{same_mutexes}
use Rattle.coherent_memory.proofs.Sums.{tot-append}
use Rattle.coherent_memory.proofs.Words.{none_at, none_all}
use Rattle.coherent_memory.proofs.Bags.{a_content, loose, content_held, cluster_whole}

abbrev standing : ℕ → Bool → ThreadState → Standing
standing s q t = record { server = s; packed = q; thread = t }

weighs : (f : Thing → ℕ) (x : Thing) (b : List Thing) → Among x b → f x ≤ tot f b
weighs f x [] h = absurd h
weighs f x (y ∷ b) (inl e) = let s : f y ≡ f x = ap f e in omega (arith, s)
weighs f x (y ∷ b) (inr h) = omega (arith, weighs f x b h)

mutex_itself : (m : MutexNo) → same_mutex m m ≡ true
mutex_itself m =
    let a : (m.home == m.home) ≡ true = grind (arith, nat_tests) in
    let b : (m.count == m.count) ≡ true = grind (arith, nat_tests) in
    rw a (rw b refl)

one_itself : (m : MutexNo) → 1 ≤ one (same_mutex m m)
one_itself m = rw (mutex_itself m) (omega arith)

-- A VALUE AT A PLACE

abbrev is_value : MutexNo → Option Value → ℕ
is_value m (Some (value.Own v)) = mutex_values m v
is_value m v = 0

value_weighs : (m : MutexNo) (v : Option Value) → mutex_of v ≡ Some m → 1 ≤ is_value m v
value_weighs m (Some (value.Own (owned.Mutex n))) e = let s : n ≡ m = cc e in subst (λ x. 1 ≤ one (same_mutex x m)) (sym s) (one_itself m)
value_weighs m _ e = absurd (cc e)

all_weigh : {A : Type 0} (f : Thing → ℕ) (g : ℕ → A → List Thing) (n : ℕ) (y : A) → ((j : ℕ) → n ≤ tot f (g j y)) → (j i : ℕ) (xs : List A) → slice_get xs i ≡ Some y → n ≤ tot f (things_at g j xs)
all_weigh f g n y h j i [] e = absurd (cc e)
all_weigh f g n y h j zero (x ∷ xs) e =
    let s : x ≡ y = cc e in
    let l : n ≤ tot f (g j x) = subst (λ z. n ≤ tot f (g j z)) (sym s) (h j) in
    omega (arith, l, tot-append f (g j x) (things_at g (j + 1) xs))
all_weigh f g n y h j (suc i) (x ∷ xs) e = omega (arith, all_weigh f g n y h (j + 1) i xs e, tot-append f (g j x) (things_at g (j + 1) xs))

slot_weighs : (m : MutexNo) (s t : ℕ) (v : Value) (j : ℕ) → is_value m (Some v) ≤ tot (shares_of m) (slot_things s t j v)
slot_weighs m s t (value.Own v) j = omega arith
slot_weighs m s t _ j = omega arith

temp_weighs : (m : MutexNo) (s t : ℕ) (v : Value) (j : ℕ) → is_value m (Some v) ≤ tot (shares_of m) (temp_things s t j v)
temp_weighs m s t (value.Own v) j = omega arith
temp_weighs m s t _ j = omega arith

thread_parts : (f : Thing → ℕ) (s : ℕ) (p : Bool) (t : ThreadState)
    → tot f (things_at (slot_things s t.number) 0 t.slots) + tot f (things_at (temp_things s t.number) 0 t.temps) ≤ tot f (thread_things s p t)
thread_parts f s p t =
    let gift = gift_things t.number t.gift in
    let walk = things_at (walk_things s) 0 t.walk in
    let slots = things_at (slot_things s t.number) 0 t.slots in
    let temps = things_at (temp_things s t.number) 0 t.temps in
    omega (arith, tot-append f (gift ++ walk ++ slots) temps, tot-append f (gift ++ walk) slots)

stands_among : (xs : List Standing) (t : ℕ) (x : Standing) → thread_at xs t ≡ Some x → Among x xs
stands_among [] t x e = absurd (cc e)
stands_among (y ∷ xs) t x e = by (y.thread.number == t) (stands_among xs t x) e
  where
    by : (q : Bool) → (thread_at xs t ≡ Some x → Among x xs) → (if q then Some y else thread_at xs t) ≡ Some x → Among x (y ∷ xs)
    by true go f = let s : y ≡ x = cc f in inl s
    by false go f = inr (go f)

cell_weighs : (m : MutexNo) (o : ObjNo) (c : Cell) (b : List Thing) → cell_of (cells_in b) o ≡ Some c → mutex_values m c.value ≤ tot (shares_of m) b
cell_weighs m o c [] e = absurd (cc e)
cell_weighs m o c (lies s a d ∷ b) e = by (Rattle.coherent_memory.specs.Names.same_object d.object o) (cell_weighs m o c b) e
  where
    by : (q : Bool) → (cell_of (cells_in b) o ≡ Some c → mutex_values m c.value ≤ tot (shares_of m) b) → (if q then Some d else cell_of (cells_in b) o) ≡ Some c → mutex_values m c.value ≤ tot (shares_of m) (lies s a d ∷ b)
    by true go f = let s : d ≡ c = cc f in let w : mutex_values m d.value ≡ mutex_values m c.value = ap (λ (z : Cell). mutex_values m z.value) s in omega (arith, w)
    by false go f = let l = go f in omega (arith, l)
cell_weighs m o c (flies w d ∷ b) e = by (Rattle.coherent_memory.specs.Names.same_object d.object o) (cell_weighs m o c b) e
  where
    by : (q : Bool) → (cell_of (cells_in b) o ≡ Some c → mutex_values m c.value ≤ tot (shares_of m) b) → (if q then Some d else cell_of (cells_in b) o) ≡ Some c → mutex_values m c.value ≤ tot (shares_of m) (flies w d ∷ b)
    by true go f = let s : d ≡ c = cc f in let w : mutex_values m d.value ≡ mutex_values m c.value = ap (λ (z : Cell). mutex_values m z.value) s in omega (arith, w)
    by false go f = let l = go f in omega (arith, l)
cell_weighs m o c (_ ∷ b) e = omega (arith, cell_weighs m o c b e)

module _ (k : Cluster) where
  abbrev all : List Thing
  all = things_of k

  slot_there : (m : MutexNo) (i : ℕ) (x : Standing) → Among x (sight k).ground.threads → (v : Option Value) → slice_get x.thread.slots i ≡ v → mutex_of v ≡ Some m → 1 ≤ tot (shares_of m) all
  slot_there m i x h None e q = absurd (cc q)
  slot_there m i x h (Some v) e q =
      let l = all_weigh (shares_of m) (slot_things x.server x.thread.number) (is_value m (Some v)) v (slot_weighs m x.server x.thread.number v) 0 i x.thread.slots e in
      let w = (cluster_whole k).has x h (shares_of m) in
      omega (arith, value_weighs m (Some v) q, l, thread_parts (shares_of m) x.server x.packed x.thread, w)

  temp_there : (m : MutexNo) (i : ℕ) (x : Standing) → Among x (sight k).ground.threads → (v : Option Value) → slice_get x.thread.temps i ≡ v → mutex_of v ≡ Some m → 1 ≤ tot (shares_of m) all
  temp_there m i x h None e q = absurd (cc q)
  temp_there m i x h (Some v) e q =
      let l = all_weigh (shares_of m) (temp_things x.server x.thread.number) (is_value m (Some v)) v (temp_weighs m x.server x.thread.number v) 0 i x.thread.temps e in
      let w = (cluster_whole k).has x h (shares_of m) in
      omega (arith, value_weighs m (Some v) q, l, thread_parts (shares_of m) x.server x.packed x.thread, w)

  slot_of_thread : (m : MutexNo) (t i : ℕ) (o : Option Standing) → thread_at (sight k).ground.threads t ≡ o → mutex_of (slot_of o i) ≡ Some m → 1 ≤ tot (shares_of m) all
  slot_of_thread m t i None e q = absurd (cc q)
  slot_of_thread m t i (Some x) e q = slot_there m i x (stands_among (sight k).ground.threads t x e) (slice_get x.thread.slots i) refl q

  temp_of_thread : (m : MutexNo) (t i : ℕ) (o : Option Standing) → thread_at (sight k).ground.threads t ≡ o → mutex_of (temp_of o i) ≡ Some m → 1 ≤ tot (shares_of m) all
  temp_of_thread m t i None e q = absurd (cc q)
  temp_of_thread m t i (Some x) e q = temp_there m i x (stands_among (sight k).ground.threads t x e) (slice_get x.thread.temps i) refl q

  cell_there : (m : MutexNo) (o : ObjNo) (c : Option Cell) → cell_of (sight k).ground.cells o ≡ c → mutex_of (value_of c) ≡ Some m → 1 ≤ tot (shares_of m) all
  cell_there m o None e q = absurd (cc q)
  cell_there m o (Some c) e q = omega (arith, value_weighs m (Some (value.Own c.value)) q, cell_weighs m o c all e)

  location_there : (m : MutexNo) (l : Location) → mutex_of (value_in (sight k).ground l) ≡ Some m → 1 ≤ tot (shares_of m) all
  location_there m (at_slot t i) q = slot_of_thread m t i (thread_at (sight k).ground.threads t) refl q
  location_there m (at_temp t i) q = temp_of_thread m t i (thread_at (sight k).ground.threads t) refl q
  location_there m (in_cell o) q = cell_there m o (cell_of (sight k).ground.cells o) refl q

  place_there : (m : MutexNo) (l : Option Location) → mutex_of (value_behind (sight k).ground l) ≡ Some m → 1 ≤ tot (shares_of m) all
  place_there m None q = absurd (cc q)
  place_there m (Some l) q = location_there m l q

  -- A MUTEX AT ITS HOME

  abbrev absent : MutexNo → ℕ
  absent m = other (some (tot (there_at m.home m) all))

  home_by : (m n : MutexNo) (r : ℕ) (q : Bool) → same_mutex n m ≡ q → one q ≤ one (r == m.home && q) + other (n.home == r)
  home_by m n r false e = omega arith
  home_by m n r true e = by (r == m.home) (n.home == r) refl refl
    where
      by : (u v : Bool) → (r == m.home) ≡ u → (n.home == r) ≡ v → 1 ≤ one ((r == m.home) && true) + other (n.home == r)
      by true v a b = rw a (omega arith)
      by false false a b = rw b (omega arith)
      by false true a b =
          let x : n ≡ m = same_mutexes n m e in
          let y : n.home ≡ m.home = ap (λ (z : MutexNo). z.home) x in
          let z : (r == m.home) ≡ true = grind (arith, nat_tests, b, y) in
          let w : true ≡ false = sym z ∙ a in absurd (cc w)

  home_each : (m : MutexNo) (x : Thing) → is_home_of m x ≤ there_at m.home m x + elsewhere x
  home_each m (at_home r n) = home_by m n.number r (same_mutex n.number m) refl
  home_each m _ = omega arith

  home_all : (m : MutexNo) (b : List Thing) → tot (is_home_of m) b ≤ tot (there_at m.home m) b + tot elsewhere b
  home_all m [] = omega arith
  home_all m (x ∷ b) = omega (arith, home_each m x, home_all m b)

  no_home_by : (q : Bool) (n : ℕ) → one q ≡ 0 → Rattle.coherent_memory.specs.Names.if_so q n ≡ 0
  no_home_by true n z = absurd (omega (arith, z))
  no_home_by false n z = refl

  no_home : (m : MutexNo) (x : Thing) → is_home_of m x ≡ 0 → shares_at_home m x ≡ 0
  no_home m (at_home r n) z = no_home_by (same_mutex n.number m) n.shares z
  no_home m _ z = refl

  no_homes : (m : MutexNo) (b : List Thing) → tot (is_home_of m) b ≡ 0 → tot (shares_at_home m) b ≡ 0
  no_homes m [] z = refl
  no_homes m (x ∷ b) z = omega (arith, no_home m x (omega (arith, z)), no_homes m b (omega (arith, z)))

  positive : (n : ℕ) → (n ≡ 0 → ⊥) → 1 ≤ n
  positive zero f = absurd (f refl)
  positive (suc n) f = omega arith

  some_none : (n : ℕ) → 1 ≤ n → other (some n) ≡ 0
  some_none zero l = absurd (omega (arith, l))
  some_none (suc n) l = refl

  held_contents : (m : MutexNo) (b : List Thing) → tot (content_held (a_content m)) b ≤ tot (contents (sight k) m) b
  held_contents m [] = omega arith
  held_contents m (x ∷ b) = omega (arith, by x, held_contents m b)
    where
      by : (y : Thing) → content_held (a_content m) y ≤ contents (sight k) m y
      by (holds p v) = omega arith
      by _ = omega arith

  module _ (p : MutexesNoted k) where
    by_home : (m : MutexNo) → 1 ≤ tot (is_home_of m) all → absent m ≡ 0
    by_home m l = let z : tot elsewhere all ≡ 0 = p.at_their_home in some_none (tot (there_at m.home m) all) (omega (arith, l, home_all m all, z))

    by_share : (m : MutexNo) → 1 ≤ tot (shares_of m) all → absent m ≡ 0
    by_share m l = by_home m (positive (tot (is_home_of m) all) (λ z. omega (arith, l, p.shares_counted m, no_homes m all z)))

    by_content : (m : MutexNo) → 1 ≤ tot (contents (sight k) m) all → absent m ≡ 0
    by_content m l = by_home m (omega (arith, l, p.one_content m))

    by_loose : (m : MutexNo) → 1 ≤ tot (loose (a_content m)) all → absent m ≡ 0
    by_loose m l = by_content m (omega (arith, l, (cluster_whole k).held (a_content m), held_contents m all))

    -- a thread that waits for the mutex stands where a value of it is
    mutex_is : (m : MutexNo) (o : Option MutexNo) → other (is_mutex m o) ≡ 0 → o ≡ Some m
    mutex_is m None z = absurd (cc z)
    mutex_is m (Some n) z = by (same_mutex m n) refl z
      where
        by : (q : Bool) → same_mutex m n ≡ q → other q ≡ 0 → Some n ≡ Some m
        by true e f = ap (λ x. Some x) (sym (same_mutexes m n e))
        by false e f = absurd (cc f)

    locked_there : (m : MutexNo) (x : Standing) (i : Option Instr) → locked_mutex (sight k) x i ≡ Some m → 1 ≤ tot (shares_of m) all
    locked_there m x (Some (instr.Lock w)) e = place_there m (place_at (sight k).ground x.thread.number w) e
    locked_there m x _ e = absurd (cc e)

    dupped_there : (m : MutexNo) (x : Standing) (i : Option Instr) → dupped_mutex (sight k) x i ≡ Some m → 1 ≤ tot (shares_of m) all
    dupped_there m x (Some (instr.Dup w)) e = place_there m (place_at (sight k).ground x.thread.number w) e
    dupped_there m x _ e = absurd (cc e)

    phase_there : (x : Standing) → Among x (sight k).ground.threads → (f : Phase) → x.thread.phase ≡ f → phase_mutex absent f ≡ 0
    phase_there x h (phase.WaitLock m) e =
        let z : stands_wrong (sight k) x x.thread.phase ≡ 0 = none_at (λ (y : Standing). stands_wrong (sight k) y y.thread.phase) x (sight k).ground.threads p.phases_stand h in
        let y : other (is_mutex m (locked_mutex (sight k) x (instr_of (sight k) x))) ≡ 0 = subst (λ f. stands_wrong (sight k) x f ≡ 0) e z in
        by_share m (locked_there m x (instr_of (sight k) x) (mutex_is m (locked_mutex (sight k) x (instr_of (sight k) x)) y))
    phase_there x h (phase.WaitDup m) e =
        let z : stands_wrong (sight k) x x.thread.phase ≡ 0 = none_at (λ (y : Standing). stands_wrong (sight k) y y.thread.phase) x (sight k).ground.threads p.phases_stand h in
        let y : other (is_mutex m (dupped_mutex (sight k) x (instr_of (sight k) x))) ≡ 0 = subst (λ f. stands_wrong (sight k) x f ≡ 0) e z in
        by_share m (dupped_there m x (instr_of (sight k) x) (mutex_is m (dupped_mutex (sight k) x (instr_of (sight k) x)) y))
    phase_there x h _ e = refl

    -- a thread in a phase that names the mutex
    lock_named : (m : MutexNo) (f : Phase) → is_lock m f ≡ true → phase_mutex absent f ≡ 0 → absent m ≡ 0
    lock_named m (phase.WaitLock n) e z = subst (λ x. absent x ≡ 0) (sym (same_mutexes m n e)) z
    lock_named m _ e z = absurd (cc e)

    dup_named : (m : MutexNo) (f : Phase) → is_dup m f ≡ true → phase_mutex absent f ≡ 0 → absent m ≡ 0
    dup_named m (phase.WaitDup n) e z = subst (λ x. absent x ≡ 0) (sym (same_mutexes m n e)) z
    dup_named m _ e z = absurd (cc e)

    waits_there : (m : MutexNo) (test : Phase → Bool) → ((f : Phase) → test f ≡ true → phase_mutex absent f ≡ 0 → absent m ≡ 0) → (t : ℕ) (o : Option Standing) → thread_at (sight k).ground.threads t ≡ o → other (in_phase test o) ≡ 0 → absent m ≡ 0
    waits_there m test go t None e z = absurd (cc z)
    waits_there m test go t (Some x) e z = by (test x.thread.phase) refl z
      where
        by : (q : Bool) → test x.thread.phase ≡ q → other q ≡ 0 → absent m ≡ 0
        by true f y = go x.thread.phase f (phase_there x (stands_among (sight k).ground.threads t x e) x.thread.phase refl)
        by false f y = absurd (cc y)

    lock_waits : (m : MutexNo) (t : ℕ) → phase_fits (sight k) t (is_lock m) ≡ 0 → absent m ≡ 0
    lock_waits m t z = waits_there m (is_lock m) (lock_named m) t (thread_at (sight k).ground.threads t) refl z

    dup_waits : (m : MutexNo) (t : ℕ) → phase_fits (sight k) t (is_dup m) ≡ 0 → absent m ≡ 0
    dup_waits m t z = waits_there m (is_dup m) (dup_named m) t (thread_at (sight k).ground.threads t) refl z

    -- THINGS

    shown : (m : MutexNo) (f : Thing → ℕ) (x : Thing) → Among x all → 1 ≤ f x → 1 ≤ tot f all
    shown m f x h l = omega (arith, l, weighs f x all h)

    owned_there : (v : Owned) → ((m : MutexNo) → mutex_values m v ≤ tot (shares_of m) all) → owned_mutex absent v ≡ 0
    owned_there (owned.Mutex m) l = by_share m (omega (arith, one_itself m, l m))
    owned_there _ l = refl

    released_there : (r : ℕ) (x : Released) → Among (sent r (Release x)) all → released_mutex absent x ≡ 0
    released_there r (released.Mutex m) h = by_share m (shown m (shares_of m) (sent r (Release (released.Mutex m))) h (one_itself m))
    released_there r (released.Task t) h = refl

    message_there : (r : ℕ) (m : Message) → Among (sent r m) all → message_mutex absent m ≡ 0
    message_there r (Lock m s t) h = lock_waits m t (none_at (carries (sight k)) (sent r (Lock m s t)) all p.carry_what_is_asked h)
    message_there r (Granted m v t) h = lock_waits m t (none_at (carries (sight k)) (sent r (Granted m v t)) all p.carry_what_is_asked h)
    message_there r (Unlock m v) h = by_loose m (shown m (loose (a_content m)) (sent r (Unlock m v)) h (one_itself m))
    message_there r (Dup m s t) h = dup_waits m t (none_at (carries (sight k)) (sent r (Dup m s t)) all p.carry_what_is_asked h)
    message_there r (Dupped m t) h = by_share m (shown m (shares_of m) (sent r (Dupped m t)) h (one_itself m))
    message_there r (Release x) h = released_there r x h
    message_there r _ h = refl

    stand_same : (a s : ℕ) (c q : Bool) (u t : ThreadState) → stands a c u ≡ stands s q t → standing a c u ≡ standing s q t
    stand_same a s c q u t e = cc

    among_threads : (s : ℕ) (q : Bool) (t : ThreadState) (b : List Thing) → Among (stands s q t) b → Among (standing s q t) (threads_in b)
    among_threads s q t [] h = absurd h
    among_threads s q t (stands a c u ∷ b) (inl e) = inl (stand_same a s c q u t e)
    among_threads s q t (stands a c u ∷ b) (inr h) = inr (among_threads s q t b h)
    among_threads s q t (_ ∷ b) (inl e) = absurd (cc e)
    among_threads s q t (_ ∷ b) (inr h) = among_threads s q t b h

    thing_there : (x : Thing) → Among x all → mutexes absent x ≡ 0
    thing_there (holds q v) h = owned_there v (λ m. weighs (shares_of m) (holds q v) all h)
    thing_there (locks (at_slot t i) m) h = by_content m (shown m (contents (sight k) m) (locks (at_slot t i) m) h (one_itself m))
    thing_there (locks (at_temp t i) m) h = let z : loose_mark (locks (at_temp t i) m) ≡ 0 = none_at loose_mark (locks (at_temp t i) m) all p.marks_in_slots h in absurd (cc z)
    thing_there (locks (in_cell o) m) h = by_loose m (shown m (loose (a_content m)) (locks (in_cell o) m) h (omega arith))
    thing_there (lies s a c) h = owned_there c.value (λ m. weighs (shares_of m) (lies s a c) all h)
    thing_there (flies w c) h = owned_there c.value (λ m. weighs (shares_of m) (flies w c) all h)
    thing_there (sent r m) h = message_there r m h
    thing_there (stands s q t) h = phase_there (standing s q t) (among_threads s q t all h) t.phase refl
    thing_there (queued m s t) h = lock_waits m t (none_at (carries (sight k)) (queued m s t) all p.carry_what_is_asked h)
    thing_there _ h = refl

    pub named_there : named_wrong (sight k) ≡ 0
    named_there = none_all (mutexes absent) all thing_there
