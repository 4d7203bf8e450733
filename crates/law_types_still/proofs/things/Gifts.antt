-- What a thread's gift counts as: what comes to a thread that waits for it, and that it counts as the same after an event that does no plain step.
use Rattle.std.proofs.Common.{◌≡◌, ℕ, ◌+◌, ◌≤◌, ◌==◌, Bool, true, false, List, map, Option, Some, None, option_map, refl, sym, ap, ap₂, ◌∙◌, arith}
use Rattle.std.specs.Prelude.{slice_get}
use Rattle.law_counts_things.specs.Below.fr_base.declared.name.MutexNo.{MutexNo}
use Rattle.law_counts_things.specs.Below.fr_base.declared.place.Lval.{Lval}
use Rattle.law_counts_things.specs.Below.fr_base.declared.instruction.Instr.{Instr}
use Rattle.law_counts_things.specs.Below.fr_base.declared.instruction.Instr.TheVariants as instr
use Rattle.law_counts_things.specs.Below.fr_base.declared.instruction.Operand.{Operand}
use Rattle.law_counts_things.specs.Below.heap_partition.declared.value.Owned.{Owned}
use Rattle.law_counts_things.specs.Below.heap_partition.declared.value.Owned.TheVariants as owned
use Rattle.law_counts_things.specs.Below.thread_state.View.{ThreadState}
use Rattle.law_counts_things.specs.Below.thread_state.declared.phase.Phase.{Phase}
use Rattle.law_counts_things.specs.Below.thread_state.declared.phase.Phase.TheVariants as phase
use Rattle.law_counts_things.specs.Below.server_model.Servers.{Server, Cluster, server_at}
use Rattle.law_counts_things.specs.Below.server_model.Work.{thread_in}
use Rattle.law_counts_things.specs.Below.server_model.Sharing.{waits_for_lock, waits_for_dup}
use Rattle.law_counts_things.specs.Below.server_model.Joining.{waits_for_join}
use Rattle.law_counts_things.specs.Below.coherent_memory.Names.{tot, other, if_so, Among}
use Rattle.law_counts_things.specs.Below.coherent_memory.Things.{Spot, as_content, as_result, Thing, stands, noted, things_of}
use Rattle.law_counts_things.specs.Below.coherent_memory.Follow.{Standing, threads_in, thread_at, value_at}
use Rattle.law_counts_things.specs.Below.coherent_memory.Sight.{Sight, sight}
use Rattle.law_counts_things.specs.Below.coherent_memory.Paths.{popped, task_in, joined_thread}
use Rattle.law_counts_things.specs.Below.coherent_memory.Walking.{instr_of}
use Rattle.law_counts_things.specs.Below.coherent_memory.Weights.{is_thread}
use Rattle.law_counts_things.specs.Below.coherent_memory.Requests.{mutex_of, locked_mutex, dupped_mutex, is_mutex, is_task, stands_wrong}
use Rattle.law_counts_things.specs.Below.coherent_memory.Coherent.{IsSound}
use Rattle.law_counts_things.proofs.Below.coherent_memory.Names.{same_mutexes, same_number}
use Rattle.law_counts_things.proofs.Below.law_counts_sums.Bags.{thread_number}
use Rattle.law_counts_things.proofs.Below.law_counts_sums.ThreadThere.{thread_there}
use Rattle.law_counts_things.proofs.Below.law_counts_sums.GiftsTaken.{none_here}
use Rattle.law_counts_things.specs.Below.coherent_types.Names.{NameTypes}
use Rattle.law_counts_things.specs.Below.coherent_types.ClusterTypes.{content_gift, result_gift, gift_misfit}
use Rattle.law_types_still.specs.Below.law_words_paths.paths.HeapStore.{HasPaths}
use Rattle.law_types_still.specs.Below.law_heap_still.events.Shows.{ShownThread, Sign, a_thread, plain_frame, sign_of, gift_spot_at, gift_spot_of, gift_spot}
use Rattle.law_types_still.proofs.Below.law_heap_still.events.Tests.{same_part, threads as thread_test}
use Rattle.law_types_still.proofs.Below.law_heap_still.events.Told.{ones, tot_same, same_told, at_thread, thread_told, found}
use Rattle.law_types_still.proofs.Below.law_heap_still.events.PlainValues.{told_map, one_so, unnoted, plain_task, task_plain, popped_plain, pop_plain, shown_of, all_framed}
use Rattle.law_types_still.proofs.Below.law_heap_still.events.Once.{shown_once}
use Rattle.law_types_still.proofs.Below.law_heap_still.events.Drops.{named}
use Rattle.law_types_still.proofs.Below.law_heap_still.events.Counting.{no_stray, no_values}
use Rattle.law_types_still.proofs.Below.law_heap_still.events.Alike.{HeedAlike, Heeds, mutex_same}
use Rattle.law_types_still.proofs.Below.law_heap_still.undone.Locks.{locks_see}
use Rattle.law_types_still.proofs.things.Deliveries.{Comes}
use Rattle.law_types_still.proofs.things.Things.{spot_misfit, given_misfit, agreeing}

-- WHERE A THREAD WAITS

-- what isn't wrong is so; who asks for one asks for that one
other_none : (q : Bool) → other q ≡ 0 → q ≡ true
other_none true z = refl
other_none false z = absurd (cc z)

is_the_mutex : (m : MutexNo) (o : Option MutexNo) → is_mutex m o ≡ true → o ≡ Some m
is_the_mutex m None e = absurd (cc e)
is_the_mutex m (Some n) e = ap (λ i. Some i) (sym (same_mutexes m n e))

is_the_task : (t : ℕ) (o : Option ℕ) → is_task t o ≡ true → o ≡ Some t
is_the_task t None e = absurd (cc e)
is_the_task t (Some u) e = ap (λ i. Some i) (sym (same_number t u e))

module _ (s : Sight) (x : Standing) where
  -- what a gift counts as, by the instruction
  at_lock : (m : MutexNo) (i : Option Instr) → locked_mutex s x i ≡ Some m → gift_spot_at s x i ≡ Some (as_content m)
  at_lock m (Some (instr.Lock w)) e = ap (option_map as_content) e
  at_lock m _ e = absurd (cc e)

  at_dup : (m : MutexNo) (i : Option Instr) → dupped_mutex s x i ≡ Some m → gift_spot_at s x i ≡ None
  at_dup m (Some (instr.Dup w)) e = refl
  at_dup m _ e = absurd (cc e)

  at_join : (t : ℕ) (i : Option Instr) → joined_thread i x.thread ≡ Some t → gift_spot_at s x i ≡ Some (as_result t)
  at_join t (Some (instr.Join o)) e = ap (option_map as_result) e
  at_join t _ e = absurd (cc e)

  -- its gift is the content of the mutex whose lock it waits for, a share, or the result that it waits for
  lock_spot : (m : MutexNo) (p : Phase) → waits_for_lock p m ≡ true → stands_wrong s x p ≡ 0 → gift_spot_at s x (instr_of s x) ≡ Some (as_content m)
  lock_spot m (phase.WaitLock n) e z = at_lock n (instr_of s x) (is_the_mutex n (locked_mutex s x (instr_of s x)) (other_none (is_mutex n (locked_mutex s x (instr_of s x))) z)) ∙ ap (λ i. Some (as_content i)) (same_mutexes n m e)
  lock_spot m _ e z = absurd (cc e)

  dup_spot : (m : MutexNo) (p : Phase) → waits_for_dup p m ≡ true → stands_wrong s x p ≡ 0 → gift_spot_at s x (instr_of s x) ≡ None
  dup_spot m (phase.WaitDup n) e z = at_dup n (instr_of s x) (is_the_mutex n (dupped_mutex s x (instr_of s x)) (other_none (is_mutex n (dupped_mutex s x (instr_of s x))) z))
  dup_spot m _ e z = absurd (cc e)

  join_spot : (u : ℕ) (p : Phase) → waits_for_join p u ≡ true → stands_wrong s x p ≡ 0 → gift_spot_at s x (instr_of s x) ≡ Some (as_result u)
  join_spot u (phase.WaitJoin t) e z = at_join t (instr_of s x) (is_the_task t (joined_thread (instr_of s x) x.thread) (other_none (is_task t (joined_thread (instr_of s x) x.thread)) z)) ∙ ap (λ i. Some (as_result i)) (same_number t u e)
  join_spot u _ e z = absurd (cc e)

-- WHAT COMES

module _ (n : NameTypes) (k : Cluster) (sound : IsSound k) (number : ℕ) (s : Server) (here : server_at k.servers number ≡ Some s) where
  module _ (t : ℕ) (y : ThreadState) (at : thread_in s.threads t ≡ Some y) where
    abbrev me : Standing
    me = record { server = s.rest.number; packed = false; thread = y }

    -- the thread stands where it waits, and its gift is told by its number
    rightly : stands_wrong (sight k) me y.phase ≡ 0
    rightly = none_here k sound number s here t y at (λ x. stands_wrong (sight k) x x.thread.phase) sound.requests.phases_stand

    counts_as : (o : Option Spot) (v : Owned) → gift_spot_at (sight k) me (instr_of (sight k) me) ≡ o → spot_misfit n (gift_spot (sight k)) o v ≡ 0 → spot_misfit n (gift_spot (sight k)) (gift_spot (sight k) y.number) v ≡ 0
    counts_as o v e z =
        let there : thread_at (sight k).ground.threads t ≡ Some me = thread_there k sound number s here t y at in
        let same : gift_spot (sight k) y.number ≡ o = ap (λ i. gift_spot (sight k) i) (thread_number s.threads t y at) ∙ ap (gift_spot_of (sight k)) there ∙ e in
        ap (λ p. spot_misfit n (gift_spot (sight k)) p v) same ∙ z

  -- what comes to a thread agrees with what its gift counts as
  pub what_comes : Comes (agreeing n (gift_spot (sight k))) s.threads
  what_comes = record {
    content = λ t y m v at on z. counts_as t y at (Some (as_content m)) v (lock_spot (sight k) (me t y at) m y.phase on (rightly t y at)) z;
    share = λ t y m at on. counts_as t y at None (owned.Mutex m) (dup_spot (sight k) (me t y at) m y.phase on (rightly t y at)) refl;
    result = λ t y u v at on z. counts_as t y at (Some (as_result u)) v (join_spot (sight k) (me t y at) u y.phase on (rightly t y at)) z;
  }

-- GIFTS THAT AGREE

module _ (n : NameTypes) (spot : ℕ → Option Spot) (s : Sight) (x : Standing) where
  -- by the instruction at which the thread stands
  some_gift : (i : Option Instr) (v : Owned) → content_gift n (locked_mutex s x i) (Some v) + result_gift n (joined_thread i x.thread) (Some v) ≡ spot_misfit n spot (gift_spot_at s x i) v
  some_gift (Some (instr.Lock w)) v = by (locked_mutex s x (Some (instr.Lock w)))
    where
      by : (o : Option MutexNo) → content_gift n o (Some v) + 0 ≡ spot_misfit n spot (option_map as_content o) v
      by None = refl
      by (Some m) = omega arith
  some_gift (Some (instr.Join o)) v = by (joined_thread (Some (instr.Join o)) x.thread)
    where
      by : (o : Option ℕ) → 0 + result_gift n o (Some v) ≡ spot_misfit n spot (option_map as_result o) v
      by None = refl
      by (Some t) = omega arith
  some_gift _ v = refl

  no_gift : (o : Option MutexNo) (t : Option ℕ) → content_gift n o None + result_gift n t None ≡ 0
  no_gift None None = refl
  no_gift (Some m) None = refl
  no_gift None (Some t) = refl
  no_gift (Some m) (Some t) = refl

  -- a gift agrees where it agrees with what it counts as
  pub gift_is : spot x.thread.number ≡ gift_spot_at s x (instr_of s x) → gift_misfit n s x ≡ given_misfit n spot x.thread.number x.thread.gift
  gift_is e = by x.thread.gift
    where
      by : (o : Option Owned) → content_gift n (locked_mutex s x (instr_of s x)) o + result_gift n (joined_thread (instr_of s x) x.thread) o ≡ given_misfit n spot x.thread.number o
      by None = no_gift (locked_mutex s x (instr_of s x)) (joined_thread (instr_of s x) x.thread)
      by (Some v) = some_gift (instr_of s x) v ∙ ap (λ p. spot_misfit n spot p v) (sym e)

-- a thread of a cluster is found by its number
pub spot_found : (s : Sight) (x : Standing) → thread_at s.ground.threads x.thread.number ≡ Some x → gift_spot s x.thread.number ≡ gift_spot_at s x (instr_of s x)
spot_found s x e = ap (gift_spot_of s) e

-- AFTERWARDS

module _ (k : Cluster) (sound : IsSound k) (paths : HasPaths k) (z : Cluster) (code : z.code ≡ k.code) (alike : HeedAlike (named k) (sight k) (things_of k) (things_of z)) where
  -- the things before and afterwards
  abbrev a : List Thing
  a = things_of k

  abbrev b : List Thing
  b = things_of z

  -- weights of one thread, by what it shows
  abbrev weight : (ShownThread → ℕ) → ℕ → Sign → ℕ
  weight h t (a_thread y q) = if_so (y.number == t) (h y)
  weight h t x = 0

  thread_is : (h : ShownThread → ℕ) (t : ℕ) (x : Thing) → at_thread (λ y. h (shown_of y)) t x ≡ weight h t (sign_of x)
  thread_is h t (noted r x) = unnoted (weight h t) refl (λ u d. refl) x.thread x.state
  thread_is h t _ = refl

  number_is : (t : ℕ) (x : Thing) → is_thread t x ≡ weight ones t (sign_of x)
  number_is t (stands r p x) = one_so (x.number == t)
  number_is t (noted r x) = unnoted (weight ones t) refl (λ u d. refl) x.thread x.state
  number_is t _ = refl

  heeds : (h : ShownThread → ℕ) (t : ℕ) → Heeds (named k) (sight k) (weight h t)
  heeds h t = (no_values (sight k) (weight h t) (λ p v. refl) (λ u d. refl) (λ y. refl), λ o v e. refl)

  both : (h : ShownThread → ℕ) (t : ℕ) (f : Thing → ℕ) → ((x : Thing) → f x ≡ weight h t (sign_of x)) → tot f a ≡ tot f b
  both h t f e = tot_same f (λ x. weight h t (sign_of x)) e a ∙ alike (weight h t) refl (heeds h t) ∙ sym (tot_same f (λ x. weight h t (sign_of x)) e b)

  -- no two threads have one number
  pub numbers_differ : (t : ℕ) → tot (is_thread t) b ≤ 1
  numbers_differ t = omega (arith, sound.names.numbers_differ t, both ones t (is_thread t) (number_is t))

  -- each thread shows what it showed
  thread_same : (t : ℕ) → option_map shown_of (thread_at (threads_in a) t) ≡ option_map shown_of (thread_at (threads_in b) t)
  thread_same t =
      let oa = thread_at (threads_in a) t in
      let ob = thread_at (threads_in b) t in
      same_told same_part thread_test (option_map shown_of oa) (option_map shown_of ob) (λ h.
      let g : Standing → ℕ = λ y. h (shown_of y) in
      told_map h shown_of oa ∙ sym (thread_told g t a (sound.names.numbers_differ t)) ∙ both h t (at_thread g t) (thread_is h t) ∙ thread_told g t b (numbers_differ t) ∙ sym (told_map h shown_of ob))

  -- so its lock's place leads to the same mutex, and its operand is the same task
  module _ (y x : Standing) (there : thread_at (threads_in a) x.thread.number ≡ Some y) (q : shown_of y ≡ shown_of x) where
    instr_same : instr_of (sight k) y ≡ instr_of (sight z) x
    instr_same = ap₂ (λ (cs : List Instr) i. slice_get cs i) (sym code) (ap (λ (u : ShownThread). u.pc) q)

    locked_at : (w : Lval) → instr_of (sight k) y ≡ Some (instr.Lock w) → mutex_of (value_at (sight k).ground y.thread.number w) ≡ mutex_of (value_at (sight z).ground x.thread.number w)
    locked_at w e =
        let shown = shown_once k sound in
        let see = locks_see k paths in
        mutex_same k z a b code shown (named k) (λ o h. h) see alike (no_stray k shown.threads) (no_stray z) y.thread.number w (see x.thread.number y w there e)
        ∙ ap (λ t. mutex_of (value_at (sight z).ground t w)) (ap (λ (u : ShownThread). u.number) q)

    joined_at : (o : Operand) → task_in (popped o y.thread.temps) ≡ task_in (popped o x.thread.temps)
    joined_at o =
        task_plain (popped o y.thread.temps)
        ∙ ap plain_task (pop_plain o y.thread.temps ∙ ap (popped_plain o) (sym (all_framed y.thread.temps) ∙ ap (λ (u : ShownThread). map plain_frame u.temps) q ∙ all_framed x.thread.temps) ∙ sym (pop_plain o x.thread.temps))
        ∙ sym (task_plain (popped o x.thread.temps))

    spot_by : (i : Option Instr) → instr_of (sight k) y ≡ i → gift_spot_at (sight k) y i ≡ gift_spot_at (sight z) x i
    spot_by (Some (instr.Lock w)) e = ap (option_map as_content) (locked_at w e)
    spot_by (Some (instr.Join o)) e = ap (option_map as_result) (joined_at o)
    spot_by _ e = refl

    spot_then : gift_spot_at (sight k) y (instr_of (sight k) y) ≡ gift_spot_at (sight z) x (instr_of (sight z) x)
    spot_then = spot_by (instr_of (sight k) y) refl ∙ ap (gift_spot_at (sight z) x) instr_same

  -- its gift counts as what a gift of it counted as
  pub spot_same : (x : Standing) → Among x (threads_in b) → gift_spot (sight k) x.thread.number ≡ gift_spot_at (sight z) x (instr_of (sight z) x)
  spot_same x h = by (thread_at (threads_in a) x.thread.number) refl
    where
      shown : option_map shown_of (thread_at (threads_in a) x.thread.number) ≡ Some (shown_of x)
      shown = thread_same x.thread.number ∙ ap (option_map shown_of) (found x b (numbers_differ x.thread.number) h)

      by : (o : Option Standing) → thread_at (threads_in a) x.thread.number ≡ o → gift_spot (sight k) x.thread.number ≡ gift_spot_at (sight z) x (instr_of (sight z) x)
      by None e = absurd (cc (sym (ap (option_map shown_of) e) ∙ shown))
      by (Some y) e =
          let same : Some (shown_of y) ≡ Some (shown_of x) = sym (ap (option_map shown_of) e) ∙ shown in
          let q : shown_of y ≡ shown_of x = cc in
          ap (gift_spot_of (sight k)) e ∙ spot_then y x e q
