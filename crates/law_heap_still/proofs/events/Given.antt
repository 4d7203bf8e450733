-- A content, a result or a share comes to the thread that asked for it, and is its gift: it counts as the content or result that it is, and a share counts
-- nowhere yet.
use Rattle.std.proofs.Common.{◌≡◌, ℕ, ◌+◌, Bool, true, false, if◌then◌else◌, List, [], ◌∷◌, Option, Some, None, refl, sym, ap, subst, ◌∙◌, arith}
use Rattle.std.specs.Prelude.{slice_get, option_map}
use Rattle.law_counts_sums.specs.Below.fr_base.declared.instruction.Instr.{Instr}
use Rattle.law_counts_sums.specs.Below.fr_base.declared.instruction.Instr.TheVariants as instr
use Rattle.law_counts_sums.specs.Below.fr_base.declared.name.MutexNo.{MutexNo}
use Rattle.law_counts_sums.specs.Below.heap_partition.Plain.{plain_of}
use Rattle.law_counts_sums.specs.Below.heap_partition.declared.value.Owned.{Owned}
use Rattle.law_counts_sums.specs.Below.heap_partition.declared.value.Owned.TheVariants as owned
use Rattle.law_counts_sums.specs.Below.thread_state.View.{ThreadState}
use Rattle.law_counts_sums.specs.Below.thread_state.declared.phase.Phase.{Phase}
use Rattle.law_counts_sums.specs.Below.thread_state.declared.phase.Phase.TheVariants as phase
use Rattle.law_counts_sums.specs.Below.server_msgs.declared.message.Message.{Message}
use Rattle.law_counts_sums.specs.Below.server_msgs.declared.message.Message.TheVariants as message
use Rattle.law_counts_sums.specs.Below.server_model.declared.event.What.TheVariants.{Deliver}
use Rattle.law_counts_sums.specs.Below.server_model.Servers.{Server, Cluster, server_at}
use Rattle.law_counts_sums.specs.Below.server_model.Work.{Hand, thread_in, at_thread}
use Rattle.law_counts_sums.specs.Below.server_model.Sharing.{given, waits_for_lock, deliver_granted, waits_for_dup, deliver_dupped}
use Rattle.law_counts_sums.specs.Below.server_model.Joining.{waits_for_join, deliver_joined}
use Rattle.law_counts_sums.specs.Below.server_model.Events.{received, does}
use Rattle.law_counts_sums.specs.Below.coherent_memory.Names.{other}
use Rattle.law_counts_sums.specs.Below.coherent_memory.Things.{Spot, as_gift, as_content, as_result, Thing, holds, thread_things, message_things}
use Rattle.law_counts_sums.specs.Below.coherent_memory.Follow.{Standing, thread_at}
use Rattle.law_counts_sums.specs.Below.coherent_memory.Sight.{Sight, sight}
use Rattle.law_counts_sums.specs.Below.coherent_memory.Paths.{joined_thread}
use Rattle.law_counts_sums.specs.Below.coherent_memory.Walking.{instr_of}
use Rattle.law_counts_sums.specs.Below.coherent_memory.Requests.{locked_mutex, dupped_mutex, is_mutex, is_task, stands_wrong}
use Rattle.law_counts_sums.specs.Below.coherent_memory.Coherent.{IsSound}
use Rattle.law_counts_sums.proofs.Below.coherent_memory.Names.{same_mutexes, same_number}
use Rattle.law_counts_sums.specs.Laws.{Gives}
use Rattle.law_counts_sums.proofs.Trades.{tot-append}
use Rattle.law_counts_sums.proofs.Results.{test_gives, weaker}
use Rattle.law_counts_sums.proofs.Bags.{rest_things, thread_number}
use Rattle.law_counts_sums.proofs.ThreadThere.{thread_there}
use Rattle.law_counts_sums.proofs.GiftsTaken.{none_here}
use Rattle.law_heap_still.specs.events.Shows.{Sign, nothing, sign_of, gift_spot_at, gift_spot_of, gift_spot, counted_at, Counts}
use Rattle.law_heap_still.proofs.events.Sites.{shown, Still, Takes, ServerStill, deliveries_by}
use Rattle.law_heap_still.proofs.events.Arrivals.{thread_parts}
use Rattle.law_heap_still.proofs.events.Hands.{HandStill, thread_knows, IsQuiet, quiet_shown, got_quiet}

-- THE THREAD

-- the gift is beside the hand, and then the thread's
gets : (v : Owned) (h : Hand) (g : Option Owned) → h.thread.gift ≡ g → IsQuiet h.thread.phase → Gives (HandStill (holds (as_gift h.thread.number) v ∷ []) h) (given v g h)
gets v h (Some u) e q = tt
gets v h None e q = record {
  number = refl;
  thread = refl;
  alike = λ w z.
      let f : Thing → ℕ = λ x. w (sign_of x) in
      let n = h.work.rest.number in
      let y = h.thread in
      let bare : ThreadState = record y { gift = None } in
      let y2 : ThreadState = record y { gift = Some v; phase = phase.Got } in
      let same : shown w (thread_things n false y) ≡ shown w (thread_things n false bare) = ap (λ g. shown w (thread_things n false (record y { gift = g }))) e in
      omega (
        arith,
        same,
        thread_parts w z n false bare,
        thread_parts w z n false y2,
        quiet_shown w n y phase.Got q got_quiet,
        tot-append f (thread_things n false y) (rest_things n 0 h.work.rest),
        tot-append f (thread_things n false y2) (rest_things n 0 h.work.rest),
      );
}

lock_quiet : (p : Phase) (m : MutexNo) → waits_for_lock p m ≡ true → IsQuiet p
lock_quiet (phase.WaitLock n) m e = record { goes_on = refl; alone = refl; unpaired = refl }
lock_quiet _ m e = absurd (cc e)

dup_quiet : (p : Phase) (m : MutexNo) → waits_for_dup p m ≡ true → IsQuiet p
dup_quiet (phase.WaitDup n) m e = record { goes_on = refl; alone = refl; unpaired = refl }
dup_quiet _ m e = absurd (cc e)

join_quiet : (p : Phase) (u : ℕ) → waits_for_join p u ≡ true → IsQuiet p
join_quiet (phase.WaitJoin t) u e = record { goes_on = refl; alone = refl; unpaired = refl }
join_quiet _ u e = absurd (cc e)

-- WHAT ITS GIFT COUNTS AS

other_none : (q : Bool) → other q ≡ 0 → q ≡ true
other_none true z = refl
other_none false z = absurd (cc z)

is_the_mutex : (m : MutexNo) (o : Option MutexNo) → is_mutex m o ≡ true → o ≡ Some m
is_the_mutex m None e = absurd (cc e)
is_the_mutex m (Some n) e = ap (λ i. Some i) (sym (same_mutexes m n e))

is_the_task : (t : ℕ) (o : Option ℕ) → is_task t o ≡ true → o ≡ Some t
is_the_task t None e = absurd (cc e)
is_the_task t (Some u) e = ap (λ i. Some i) (sym (same_number t u e))

module _ (s : Sight) (x : Standing) where
  at_lock : (m : MutexNo) (i : Option Instr) → locked_mutex s x i ≡ Some m → gift_spot_at s x i ≡ Some (as_content m)
  at_lock m (Some (instr.Lock w)) e = ap (option_map as_content) e
  at_lock m _ e = absurd (cc e)

  at_dup : (m : MutexNo) (i : Option Instr) → dupped_mutex s x i ≡ Some m → gift_spot_at s x i ≡ None
  at_dup m (Some (instr.Dup w)) e = refl
  at_dup m _ e = absurd (cc e)

  at_join : (t : ℕ) (i : Option Instr) → joined_thread i x.thread ≡ Some t → gift_spot_at s x i ≡ Some (as_result t)
  at_join t (Some (instr.Join o)) e = ap (option_map as_result) e
  at_join t _ e = absurd (cc e)

  lock_spot : (m : MutexNo) (p : Phase) → waits_for_lock p m ≡ true → stands_wrong s x p ≡ 0 → gift_spot_at s x (instr_of s x) ≡ Some (as_content m)
  lock_spot m (phase.WaitLock n) e z = at_lock n (instr_of s x) (is_the_mutex n (locked_mutex s x (instr_of s x)) (other_none (is_mutex n (locked_mutex s x (instr_of s x))) z)) ∙ ap (λ i. Some (as_content i)) (same_mutexes n m e)
  lock_spot m _ e z = absurd (cc e)

  dup_spot : (m : MutexNo) (p : Phase) → waits_for_dup p m ≡ true → stands_wrong s x p ≡ 0 → gift_spot_at s x (instr_of s x) ≡ None
  dup_spot m (phase.WaitDup n) e z = at_dup n (instr_of s x) (is_the_mutex n (dupped_mutex s x (instr_of s x)) (other_none (is_mutex n (dupped_mutex s x (instr_of s x))) z))
  dup_spot m _ e z = absurd (cc e)

  join_spot : (u : ℕ) (p : Phase) → waits_for_join p u ≡ true → stands_wrong s x p ≡ 0 → gift_spot_at s x (instr_of s x) ≡ Some (as_result u)
  join_spot u (phase.WaitJoin t) e z = at_join t (instr_of s x) (is_the_task t (joined_thread (instr_of s x) x.thread) (other_none (is_task t (joined_thread (instr_of s x) x.thread)) z)) ∙ ap (λ i. Some (as_result i)) (same_number t u e)
  join_spot u _ e z = absurd (cc e)

-- IN A SOUND CLUSTER

module _ (k : Cluster) (sound : IsSound k) (number : ℕ) (s : Server) (here : server_at k.servers number ≡ Some s) where
  abbrev n : ℕ
  n = s.rest.number

  module _ (t : ℕ) (y : ThreadState) (at : thread_in s.threads t ≡ Some y) where
    abbrev me : Standing
    me = record { server = n; packed = false; thread = y }

    rightly : stands_wrong (sight k) me y.phase ≡ 0
    rightly = none_here k sound number s here t y at (λ x. stands_wrong (sight k) x x.thread.phase) sound.requests.phases_stand

    -- its gift is what a gift of it counts as
    there : (o : Option Spot) → gift_spot_at (sight k) me (instr_of (sight k) me) ≡ o → gift_spot (sight k) y.number ≡ o
    there o e =
        let found : thread_at (sight k).ground.threads t ≡ Some me = thread_there k sound number s here t y at in
        ap (λ i. gift_spot (sight k) i) (thread_number s.threads t y at) ∙ ap (gift_spot_of (sight k)) found ∙ e

    counted : (w : Sign → ℕ) → Counts (sight k) w → (v : Owned) (o : Option Spot) → gift_spot_at (sight k) me (instr_of (sight k) me) ≡ o → shown w (holds (as_gift y.number) v ∷ []) ≡ counted_at w o (plain_of v) + 0
    counted w c v o e = ap (λ i. i + 0) (c.gifts y.number (plain_of v) ∙ ap (λ p. counted_at w p (plain_of v)) (there o e))

  -- a message that goes to a thread, and what it brings is that one's gift
  delivered : (i : ℕ) (m : Message) (t : ℕ) (v : Owned) (o : Option Spot) (waits : Phase → Bool) (f : Hand → Option Hand) → slice_get s.rest.inbox i ≡ Some m
      → ((w : Sign → ℕ) → w nothing ≡ 0 → shown w (message_things n m) ≡ counted_at w o (plain_of v))
      → ((x : Hand) → f x ≡ (if waits x.thread.phase then given v x.thread.gift x else None)) → ((p : Phase) → waits p ≡ true → IsQuiet p)
      → ((x : Standing) (p : Phase) → waits p ≡ true → stands_wrong (sight k) x p ≡ 0 → gift_spot_at (sight k) x (instr_of (sight k) x) ≡ o)
      → Gives (Takes k (message_things n m) (received i s)) (at_thread t f (received i s))
  delivered i m t v o waits f q carries is quiet spot =
      weaker (λ x. Still gift (received i s) x × Known) (Takes k (message_things n m) (received i s)) (at_thread t f (received i s))
      (thread_knows gift Known t f (received i s) (λ y at.
      let h : Hand = record { work = (received i s).work; thread = y } in
      subst (λ r. Gives (λ h2. HandStill gift h h2 × Known) r) (sym (is h))
      (test_gives (λ h2. HandStill gift h h2 × Known) (waits y.phase) (given v y.gift h) (λ on.
      weaker (HandStill (holds (as_gift y.number) v ∷ []) h) (λ h2. HandStill gift h h2 × Known) (given v y.gift h) (gets v h y.gift refl (quiet y.phase on))
      (λ h2 u. (subst (λ j. HandStill (holds (as_gift j) v ∷ []) h h2) (thread_number s.threads t y at) u, known y at on))))))
      (λ x u. record { gone = gift; hand = []; leaves = u.0; counts = u.1 })
    where
      gift : List Thing
      gift = holds (as_gift t) v ∷ []

      Known : Type 0
      Known = (w : Sign → ℕ) → w nothing ≡ 0 → Counts (sight k) w → shown w (message_things n m) + 0 ≡ shown w gift

      known : (y : ThreadState) → thread_in s.threads t ≡ Some y → waits y.phase ≡ true → Known
      known y at on w z c =
          let own : shown w (holds (as_gift y.number) v ∷ []) ≡ counted_at w o (plain_of v) + 0 = counted t y at w c v o (spot (me t y at) y.phase on (rightly t y at)) in
          let named : shown w (holds (as_gift y.number) v ∷ []) ≡ shown w gift = ap (λ j. shown w (holds (as_gift j) v ∷ [])) (thread_number s.threads t y at) in
          omega (arith, own, named, carries w z)

  pub contents_come : (i : ℕ) (m : MutexNo) (v : Owned) (t : ℕ) → slice_get s.rest.inbox i ≡ Some (message.Granted m v t) → Gives (ServerStill k s) (does k.code k.options s (Deliver i))
  contents_come i m v t q =
      deliveries_by k s i (message.Granted m v t) q
      (delivered i (message.Granted m v t) t v (Some (as_content m)) (λ p. waits_for_lock p m) (deliver_granted m v) q (λ w z. omega (arith, z)) (λ x. refl) (λ p. lock_quiet p m) (λ x p. lock_spot (sight k) x m p))

  pub shares_come : (i : ℕ) (m : MutexNo) (t : ℕ) → slice_get s.rest.inbox i ≡ Some (message.Dupped m t) → Gives (ServerStill k s) (does k.code k.options s (Deliver i))
  shares_come i m t q =
      deliveries_by k s i (message.Dupped m t) q
      (delivered i (message.Dupped m t) t (owned.Mutex m) None (λ p. waits_for_dup p m) (deliver_dupped m) q (λ w z. omega (arith, z)) (λ x. refl) (λ p. dup_quiet p m) (λ x p. dup_spot (sight k) x m p))

  pub results_come : (i u : ℕ) (v : Owned) (t : ℕ) → slice_get s.rest.inbox i ≡ Some (message.Joined u v t) → Gives (ServerStill k s) (does k.code k.options s (Deliver i))
  results_come i u v t q =
      deliveries_by k s i (message.Joined u v t) q
      (delivered i (message.Joined u v t) t v (Some (as_result u)) (λ p. waits_for_join p u) (deliver_joined u v) q (λ w z. omega (arith, z)) (λ x. refl) (λ p. join_quiet p u) (λ x p. join_spot (sight k) x u p))
