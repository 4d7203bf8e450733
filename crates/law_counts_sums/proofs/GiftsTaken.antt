-- In a sound cluster a thread has a gift only where its instruction takes one, and one that waits for a gift stands at what it waits for.
use Rattle.std.proofs.Common.{◌≡◌, ℕ, ◌==◌, ◌&&◌, not, Bool, true, false, List, Option, Some, None, refl, sym, ap, subst, ◌∙◌, arith}
use Rattle.std.specs.Prelude.{slice_get, is_some}
use Rattle.std.proofs.lemmas.Bool.{eqb-true}
use Rattle.coherent_memory.proofs.Below.fr_typing.PlaceLemmas.{eq_cases}
use Rattle.coherent_memory.specs.Below.fr_base.declared.name.MutexNo.{MutexNo}
use Rattle.coherent_memory.specs.Below.fr_base.declared.instruction.Instr.{Instr}
use Rattle.coherent_memory.specs.Below.fr_base.declared.instruction.Instr.TheVariants as instr
use Rattle.coherent_memory.specs.Below.heap_partition.declared.value.Owned.{Owned}
use Rattle.coherent_memory.specs.Below.thread_state.View.{ThreadState}
use Rattle.coherent_memory.specs.Below.thread_state.declared.phase.Phase.{Phase}
use Rattle.coherent_memory.specs.Below.thread_state.declared.phase.Phase.TheVariants as phase
use Rattle.coherent_memory.specs.Below.server_model.Servers.{Server, Cluster, server_at}
use Rattle.coherent_memory.specs.Below.server_model.Work.{thread_in}
use Rattle.coherent_memory.specs.Below.server_model.Events.{is_ready}
use Rattle.coherent_memory.specs.Below.server_model.Objects.{waits_for_cell}
use Rattle.coherent_memory.specs.Below.server_model.Sharing.{waits_for_lock, waits_for_dup}
use Rattle.coherent_memory.specs.Below.server_model.Joining.{waits_for_join}
use Rattle.coherent_memory.specs.Names.{tot, one, if_so, other}
use Rattle.coherent_memory.specs.Things.{things_of}
use Rattle.coherent_memory.specs.Follow.{Standing, threads_in}
use Rattle.coherent_memory.specs.Sight.{sight}
use Rattle.coherent_memory.specs.Paths.{joined_thread}
use Rattle.coherent_memory.specs.Requests.{is_mutex, is_task, locked_mutex, dupped_mutex, stands_wrong, is_got, early_gift, gift_fits as fits_there, gift_there}
use Rattle.coherent_memory.specs.Coherent.{IsSound}
use Rattle.coherent_memory.proofs.Sums.{server_parts}
use Rattle.law_counts_sums.proofs.Bags.{tot-without}
use Rattle.law_counts_sums.proofs.Events.{tot-server}
use Rattle.law_counts_sums.proofs.KnownSound.{on_standing, sum_standing}
use Rattle.law_counts_sums.proofs.Held.{holds_result, same_joined}
use Rattle.law_counts_sums.proofs.QuietSteps.{GiftFits, Unjoined}

-- PHASES WITHOUT A GIFT

pub ready_ungot : (p : Phase) → is_ready p ≡ true → is_got p ≡ false
ready_ungot phase.Ready e = refl
ready_ungot _ e = absurd (cc e)

pub cell_ungot : (p : Phase) (w : ℕ) → waits_for_cell p w ≡ true → is_got p ≡ false
cell_ungot (phase.WaitCell x) w e = refl
cell_ungot _ w e = absurd (cc e)

pub lock_ungot : (p : Phase) (m : MutexNo) → waits_for_lock p m ≡ true → is_got p ≡ false
lock_ungot (phase.WaitLock x) m e = refl
lock_ungot _ m e = absurd (cc e)

pub dup_ungot : (p : Phase) (m : MutexNo) → waits_for_dup p m ≡ true → is_got p ≡ false
dup_ungot (phase.WaitDup x) m e = refl
dup_ungot _ m e = absurd (cc e)

pub join_ungot : (p : Phase) (u : ℕ) → waits_for_join p u ≡ true → is_got p ≡ false
join_ungot (phase.WaitJoin x) u e = refl
join_ungot _ u e = absurd (cc e)

-- WHAT AN INSTRUCTION TAKES

if_zero : (b : Bool) → if_so b 0 ≡ 0
if_zero true = refl
if_zero false = refl

held_none : (code : List Instr) (t : ℕ) (x : ThreadState) (i : Option Instr) → slice_get code x.pc ≡ i → joined_thread i x ≡ None → holds_result code t x ≡ 0
held_none code t x i q e = ap (λ o. if_so (is_some x.gift) (one (is_task t o))) (ap (λ j. joined_thread j x) q ∙ e) ∙ if_zero (is_some x.gift)

no_join : (code : List Instr) (y : ThreadState) (i : Instr) → slice_get code y.pc ≡ Some i → Unjoined code y i
no_join code y (instr.Join o) q = tt
no_join code y i q = λ t x g c. held_none code t x (Some i) (ap (slice_get code) c ∙ q) refl

fit_none : (i : Instr) → GiftFits i None
fit_none (instr.Lock w) = tt
fit_none (instr.Dup w) = tt
fit_none (instr.Join o) = tt
fit_none _ = refl

bare_of : (g : Option Owned) (b : Bool) → b ≡ false → one (is_some g && not b) ≡ 0 → g ≡ None
bare_of None b e z = refl
bare_of (Some v) true e z = absurd (cc e)
bare_of (Some v) false e z = absurd (cc z)

-- the task that is asked for
task_is : (w : ℕ) (o : Option ℕ) → other (is_task w o) ≡ 0 → o ≡ Some w
task_is w None z = absurd (cc z)
task_is w (Some v) z = by (w == v) refl z
  where
    by : (b : Bool) → (w == v) ≡ b → other b ≡ 0 → Some v ≡ Some w
    by true e z = ap (λ i. Some i) (sym (eqb-true w v e))
    by false e z = absurd (cc z)

pub turned_one : (a u : ℕ) → one (a == u) ≡ one (u == a)
turned_one a u = eq_cases (λ b. one b ≡ one (u == a)) a u (λ e. eq_cases (λ b. 1 ≡ one b) u a (λ d. refl) (λ ne. absurd (ne (sym e)))) (λ ne. eq_cases (λ b. 0 ≡ one b) u a (λ d. absurd (ne (sym d))) (λ other. refl))

module _ (k : Cluster) (sound : IsSound k) (number : ℕ) (s : Server) (here : server_at k.servers number ≡ Some s) (t : ℕ) (y : ThreadState) (at : thread_in s.threads t ≡ Some y) where
  abbrev n : ℕ
  n = s.rest.number

  abbrev me : Standing
  me = record { server = n; packed = false; thread = y }

  -- what no thread breaks it doesn't
  pub none_here : (f : Standing → ℕ) → tot f (threads_in (things_of k)) ≡ 0 → f me ≡ 0
  none_here f z =
      let g = on_standing f in
      omega (arith, z, sum_standing f (things_of k), (tot-server g k.servers number s s here).0, server_parts g s, tot-without n g s.threads t y at)

  pub no_gift : is_got y.phase ≡ false → y.gift ≡ None
  no_gift e = bare_of y.gift (is_got y.phase) e (none_here early_gift sound.requests.gifts_got)

  -- A STEP

  fit_some : (v : Owned) (i : Instr) → fits_there (sight k) me v (Some i) ≡ 0 → GiftFits i (Some v)
  fit_some v (instr.Lock w) z = tt
  fit_some v (instr.Dup w) z = tt
  fit_some v (instr.Join o) z = tt
  fit_some v _ z = absurd (cc z)

  fit : (g : Option Owned) (i : Instr) → gift_there (sight k) me g ≡ 0 → slice_get k.code y.pc ≡ Some i → GiftFits i g
  fit None i z q = fit_none i
  fit (Some v) i z q = fit_some v i (subst (λ j. fits_there (sight k) me v j ≡ 0) q z)

  pub gift_fits : (i : Instr) → slice_get k.code y.pc ≡ Some i → GiftFits i y.gift × Unjoined k.code y i
  gift_fits i q = (fit y.gift i (none_here (λ x. gift_there (sight k) x x.thread.gift) sound.requests.gifts_fit) q, no_join k.code y i q)

  -- A GIFT THAT COMES

  stand : stands_wrong (sight k) me y.phase ≡ 0
  stand = none_here (λ x. stands_wrong (sight k) x x.thread.phase) sound.requests.phases_stand

  at_lock : (m : MutexNo) (o : Option Instr) → other (is_mutex m (locked_mutex (sight k) me o)) ≡ 0 → (x : ThreadState) → joined_thread o x ≡ None
  at_lock m (Some (instr.Lock w)) z x = refl
  at_lock m _ z x = absurd (cc z)

  at_dup : (m : MutexNo) (o : Option Instr) → other (is_mutex m (dupped_mutex (sight k) me o)) ≡ 0 → (x : ThreadState) → joined_thread o x ≡ None
  at_dup m (Some (instr.Dup w)) z x = refl
  at_dup m _ z x = absurd (cc z)

  locks : (p : Phase) (m : MutexNo) → waits_for_lock p m ≡ true → stands_wrong (sight k) me p ≡ 0 → (x : ThreadState) → joined_thread (slice_get k.code y.pc) x ≡ None
  locks (phase.WaitLock w) m on z x = at_lock w (slice_get k.code y.pc) z x
  locks _ m on z x = absurd (cc on)

  dups : (p : Phase) (m : MutexNo) → waits_for_dup p m ≡ true → stands_wrong (sight k) me p ≡ 0 → (x : ThreadState) → joined_thread (slice_get k.code y.pc) x ≡ None
  dups (phase.WaitDup w) m on z x = at_dup w (slice_get k.code y.pc) z x
  dups _ m on z x = absurd (cc on)

  joins : (p : Phase) (u : ℕ) → waits_for_join p u ≡ true → stands_wrong (sight k) me p ≡ 0 → joined_thread (slice_get k.code y.pc) y ≡ Some u
  joins (phase.WaitJoin w) u on z = task_is w (joined_thread (slice_get k.code y.pc) y) z ∙ ap (λ i. Some i) (eqb-true w u on)
  joins _ u on z = absurd (cc on)

  pub lock_takes : (m : MutexNo) → waits_for_lock y.phase m ≡ true → (a : ℕ) (x : ThreadState) → x.pc ≡ y.pc → holds_result k.code a x ≡ 0
  lock_takes m on a x c = held_none k.code a x (slice_get k.code y.pc) (ap (slice_get k.code) c) (locks y.phase m on stand x)

  pub dup_takes : (m : MutexNo) → waits_for_dup y.phase m ≡ true → (a : ℕ) (x : ThreadState) → x.pc ≡ y.pc → holds_result k.code a x ≡ 0
  dup_takes m on a x c = held_none k.code a x (slice_get k.code y.pc) (ap (slice_get k.code) c) (dups y.phase m on stand x)

  pub join_takes : (u : ℕ) → waits_for_join y.phase u ≡ true → (a : ℕ) (x : ThreadState) → x.pc ≡ y.pc → x.temps ≡ y.temps → is_some x.gift ≡ true → holds_result k.code a x ≡ one (u == a)
  join_takes u on a x c e given =
      let takes : joined_thread (slice_get k.code x.pc) x ≡ Some u = ap (λ j. joined_thread (slice_get k.code j) x) c ∙ same_joined (slice_get k.code y.pc) x y e ∙ joins y.phase u on stand in
      let holds : holds_result k.code a x ≡ if_so (is_some x.gift) (one (a == u)) = ap (λ o. if_so (is_some x.gift) (one (is_task a o))) takes in
      let gift : if_so (is_some x.gift) (one (a == u)) ≡ one (a == u) = ap (λ b. if_so b (one (a == u))) given in
      omega (arith, holds, gift, turned_one a u)
