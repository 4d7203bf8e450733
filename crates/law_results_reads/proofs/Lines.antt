-- Instructions that follow no pointer: where what they take is there and of its kind, the step is done or waits. A line each.
use Rattle.std.proofs.Common.{◌≡◌, ℕ, ℤ, ◌<◌, ◌==◌, nat_lt, Bool, true, false, if◌then◌else◌, List, [], ◌∷◌, ◌++◌, length, Option, Some, None, option_map, IsSome, refl, sym, subst, arith}
use Rattle.std.specs.Prelude.{slice_get, slice_set}
use Rattle.std.proofs.lemmas.Option.{slice_get_within}
use Rattle.std.proofs.lemmas.Bool.Decides.{nat_tests}
use Rattle.law_counts_sums.specs.Below.fr_base.Lists.{last_of}
use Rattle.law_counts_sums.specs.Below.fr_base.declared.name.MutexNo.{MutexNo}
use Rattle.law_counts_sums.specs.Below.fr_base.declared.label.Label.TheVariants as label
use Rattle.law_counts_sums.specs.Below.fr_base.declared.place.Lval.{Lval}
use Rattle.law_counts_sums.specs.Below.fr_base.declared.place.Op.{Op}
use Rattle.law_counts_sums.specs.Below.fr_base.declared.step.Fresh.TheVariants as fresh
use Rattle.law_counts_sums.specs.Below.fr_base.declared.instruction.Instr.{Instr}
use Rattle.law_counts_sums.specs.Below.fr_base.declared.instruction.Instr.TheVariants as instr
use Rattle.law_counts_sums.specs.Below.fr_base.declared.instruction.Operand.{Operand}
use Rattle.law_counts_sums.specs.Below.fr_plain.Acts.{result_of}
use Rattle.law_counts_sums.specs.Below.heap_partition.declared.value.Owned.{Owned}
use Rattle.law_counts_sums.specs.Below.heap_partition.declared.value.Owned.TheVariants as owned
use Rattle.law_counts_sums.specs.Below.read_cache.Cache.{Copy}
use Rattle.law_counts_sums.specs.Below.migration.Packing.{unpin_all}
use Rattle.law_counts_sums.specs.Below.mutex_home.Mutexes.{can_make, next_mutex}
use Rattle.law_counts_sums.specs.Below.thread_state.View.{ThreadState}
use Rattle.law_counts_sums.specs.Below.thread_state.declared.value.Value.{Value}
use Rattle.law_counts_sums.specs.Below.thread_state.declared.value.Value.TheVariants as value
use Rattle.law_counts_sums.specs.Below.thread_state.declared.phase.Phase.TheVariants as phase
use Rattle.law_counts_sums.specs.Below.server_msgs.declared.message.Message.{Message}
use Rattle.law_counts_sums.specs.Below.server_msgs.declared.message.Message.TheVariants as message
use Rattle.law_counts_sums.specs.Below.journal.declared.act.Act.TheVariants as act
use Rattle.law_counts_sums.specs.Below.server_model.Servers.{Rest}
use Rattle.law_counts_sums.specs.Below.server_model.Work.{Work, Hand, Popped, sent_from, send, note, with_temps, with_slots, front_of, pop, pop_temp, pop_slot, pop_owned, pop_int, owned_of, mutex_of, taken_as, then_some, push_slot, push_temp, label_all, working, with_phase}
use Rattle.law_counts_sums.specs.Below.server_model.NewWords.{NewWord, can_grow}
use Rattle.law_counts_sums.specs.Below.server_model.Places.{in_slot, load_at, second_of}
use Rattle.law_counts_sums.specs.Below.server_model.Drop.{give_up}
use Rattle.law_counts_sums.specs.Below.server_model.Commit.{Committed, done, done_where, goes_on, go_on, let_slot, take_gift, push_box, make_box, push_content, send_content, held_of, mutex_made, end_with, ask_dup, ask_lock, label_dropped, commit}
use Rattle.law_counts_sums.specs.Below.server_model.Events.{begin_work, committed, step}
use Rattle.law_results_reads.proofs.Known.{settled}

abbrev Goes : Option Hand → Type 0
Goes o = IsSome (committed (goes_on o))

-- MESSAGES LEAVE THE CACHE AS IT WAS

sent_cache : (r : Rest) (target : ℕ) (m : Message) → (sent_from r target m).cache ≡ r.cache
sent_cache r target m = by (target == r.number)
  where
    by : (b : Bool) → (if b then Rattle.law_counts_sums.specs.Below.server_model.Work.add_waiting m r else record r { outbox = r.outbox ++ record { target = target; message = m } ∷ [] }).cache ≡ r.cache
    by true = refl
    by false = refl

pub given_cache : (v : Owned) (w : Work) → (give_up v w).rest.cache ≡ w.rest.cache
given_cache (owned.Box p) w = sent_cache w.rest _ _
given_cache (owned.Mutex m) w = sent_cache w.rest _ _
given_cache (owned.Task t) w = sent_cache w.rest _ _
given_cache owned.Nothing w = refl
given_cache owned.Unit w = refl
given_cache (owned.Int n) w = refl

module _ (servers : ℕ) (r : Rest) (y : ThreadState) (u : IsSome (unpin_all y.walk r.cache)) where
  abbrev h : Hand
  h = record { work = begin_work r; thread = y }

  abbrev Done : Instr → Type 0
  Done i = IsSome (step servers i h)

  -- a step that leaves the walk and the cache as they were
  same_cache : (cs : List Copy) → cs ≡ r.cache → IsSome (unpin_all y.walk cs)
  same_cache cs e = subst (λ c. IsSome (unpin_all y.walk c)) (sym e) u

  quiet : (h2 : Hand) → h2.thread.walk ≡ y.walk → h2.work.rest.cache ≡ r.cache → Goes (Some h2)
  quiet h2 w c = settled fresh.None (go_on h2) (subst (λ ws. IsSome (unpin_all ws h2.work.rest.cache)) (sym w) (same_cache h2.work.rest.cache c))

  -- VALUES

  pub lets : (o : Operand) (v : Value) (rest : List Value) → pop o h ≡ Some (record { item = v; hand = with_temps rest h }) → Done (instr.Let o)
  lets o v rest e = subst (λ p. Goes (option_map (λ t. push_slot t.item t.hand) p)) (sym e) (quiet (push_slot v (with_temps rest h)) refl refl)

  pub prints : (o : Operand) (i : ℤ) (rest : List Value) → pop_int o h ≡ Some (record { item = i; hand = with_temps rest h }) → Done (instr.Print o)
  prints o i rest e = subst (λ p. Goes (option_map (λ t. working (label_all (label.Print t.item ∷ [])) t.hand) p)) (sym e) (quiet (working (label_all (label.Print i ∷ [])) (with_temps rest h)) refl refl)

  pub sums : (f : Op) (a b : Operand) (i j : ℤ) (mid rest : List Value) → pop_int b h ≡ Some (record { item = j; hand = with_temps mid h }) → pop_int a (with_temps mid h) ≡ Some (record { item = i; hand = with_temps rest (with_temps mid h) }) → Done (instr.Arith f a b)
  sums f a b i j mid rest e d =
      subst (λ p. Goes (then_some p (λ y. option_map (λ x. push_temp (value.Own (owned.Int (result_of f x.item y.item))) x.hand) (pop_int a y.hand)))) (sym e)
      (subst (λ p. Goes (option_map (λ x. push_temp (value.Own (owned.Int (result_of f x.item j))) x.hand) p)) (sym d) (quiet (push_temp (value.Own (owned.Int (result_of f i j))) (with_temps rest (with_temps mid h))) refl refl))

  placed : (v : Owned) (rest : List Value) (b : Bool) → b ≡ true → (x : NewWord) → x.work.rest.cache ≡ r.cache → Goes (option_map (λ n. push_box v n (with_temps rest h)) (if b then Some x else None))
  placed v rest true q x c = quiet (push_box v x (with_temps rest h)) refl c
  placed v rest false q x c = absurd (cc q)

  pub boxes : (o : Operand) (v : Owned) (rest : List Value) → can_grow r.partition ≡ true → pop_owned o h ≡ Some (record { item = v; hand = with_temps rest h }) → Done (instr.Box o)
  boxes o v rest grows e = subst (λ p. Goes (then_some p (λ t. make_box t.item t.hand))) (sym e) (placed v rest (can_grow r.partition) grows _ refl)

  abbrev Made : Option Hand → Type 0
  Made o = IsSome (committed (done_where (fresh.Mutex (next_mutex r.mutexes)) (option_map go_on o)))

  numbered : (b : Bool) → b ≡ true → (h2 : Hand) → h2.thread.walk ≡ y.walk → h2.work.rest.cache ≡ r.cache → Made (if b then Some h2 else None)
  numbered true q h2 w c = settled (fresh.Mutex (next_mutex r.mutexes)) (go_on h2) (subst (λ ws. IsSome (unpin_all ws h2.work.rest.cache)) (sym w) (same_cache h2.work.rest.cache c))
  numbered false q h2 w c = absurd (cc q)

  pub mutexes : (o : Operand) (v : Owned) (rest : List Value) → can_make r.mutexes ≡ true → pop_owned o h ≡ Some (record { item = v; hand = with_temps rest h }) → Done (instr.Mutex o)
  mutexes o v rest makes e = subst (λ p. Made (then_some p (λ t. mutex_made t.item t.hand))) (sym e) (numbered (can_make r.mutexes) makes _ refl refl)

  -- VARIABLES

  abbrev variable : ℕ → Lval
  variable i = record { slot = i; depth = 0 }

  pub copies : (i : ℕ) (v w : Value) → slice_get y.slots i ≡ Some v → second_of v ≡ Some w → Done (instr.Read (variable i) false)
  copies i v w e d =
      subst (λ o. Goes (then_some o (λ x. option_map (λ q. push_temp q (load_at (in_slot i) h)) (second_of x)))) (sym e)
      (subst (λ o. Goes (option_map (λ q. push_temp q (load_at (in_slot i) h)) o)) (sym d) (quiet (push_temp w (load_at (in_slot i) h)) refl refl))

  pub moves : (i : ℕ) (v : Value) → slice_get y.slots i ≡ Some v → Done (instr.Read (variable i) true)
  moves i v e =
      let within : i < length y.slots = slice_get_within y.slots i v e in
      subst (λ o. Goes (then_some o (λ x. option_map (push_temp x) (if nat_lt i (length y.slots) then Some (with_slots (slice_set y.slots i value.Gone) (load_at (in_slot i) h)) else None)))) (sym e)
      (by (nat_lt i (length y.slots)) (grind (arith, nat_tests, within)))
    where
      by : (b : Bool) → b ≡ true → Goes (option_map (push_temp v) (if b then Some (with_slots (slice_set y.slots i value.Gone) (load_at (in_slot i) h)) else None))
      by true q = quiet (push_temp v (with_slots (slice_set y.slots i value.Gone) (load_at (in_slot i) h))) refl refl
      by false q = absurd (cc q)

  pub shares : (i : ℕ) → Done (instr.Borrow (variable i))
  shares i = quiet (push_temp (value.SharedSlot i) h) refl refl

  pub lends : (i : ℕ) → Done (instr.BorrowMut (variable i))
  lends i = quiet (push_temp (value.MutSlot i) h) refl refl

  -- MUTEXES

  pub dups : (i : ℕ) (m : MutexNo) → slice_get y.slots i ≡ Some (value.Own (owned.Mutex m)) → Done (instr.Dup (variable i))
  dups i m e = by y.gift
    where
      by : (g : Option Owned) → IsSome (committed (Rattle.law_counts_sums.specs.Below.server_model.Commit.dup (in_slot i) g h))
      by None = subst (λ o. IsSome (committed (Rattle.law_counts_sums.specs.Below.server_model.Commit.waiting (option_map (ask_dup h) (then_some o mutex_of))))) (sym e) refl
      by (Some share) = subst (λ o. Goes (option_map (λ n. push_temp (value.Own share) (load_at (in_slot i) (take_gift h))) (then_some o mutex_of))) (sym e) (quiet (push_temp (value.Own share) (load_at (in_slot i) (take_gift h))) refl refl)

  pub locks : (i : ℕ) (m : MutexNo) → slice_get y.slots i ≡ Some (value.Own (owned.Mutex m)) → Done (instr.Lock (variable i))
  locks i m e = by y.gift
    where
      by : (g : Option Owned) → IsSome (committed (Rattle.law_counts_sums.specs.Below.server_model.Commit.lock (in_slot i) g h))
      by None = subst (λ o. IsSome (committed (Rattle.law_counts_sums.specs.Below.server_model.Commit.waiting (option_map (ask_lock h) (then_some o mutex_of))))) (sym e) refl
      by (Some content) = subst (λ o. Goes (option_map (push_content content (load_at (in_slot i) (take_gift h))) (then_some o mutex_of))) (sym e) (quiet (push_content content (load_at (in_slot i) (take_gift h)) m) refl refl)

  -- the content, and the mark below it
  pub unlocks : (v : Owned) (m : MutexNo) → last_of y.slots ≡ Some (value.Own v) → last_of (front_of y.slots) ≡ Some (value.Held m) → Done instr.Unlock
  unlocks v m e d =
      subst (λ o. Goes (then_some (then_some (option_map (λ x. record { item = x; hand = with_slots (front_of y.slots) h }) o) (taken_as owned_of)) (λ q. option_map (λ n. send_content n.item q.item n.hand) (then_some (pop_slot q.hand) (taken_as held_of))))) (sym e)
      (subst (λ o. Goes (option_map (λ n. send_content n.item v n.hand) (then_some (option_map (λ x. record { item = x; hand = with_slots (front_of (front_of y.slots)) h }) o) (taken_as held_of)))) (sym d)
      (quiet (send_content m v (with_slots (front_of (front_of y.slots)) h)) refl (sent_cache r _ _)))

  -- THREADS

  -- a join that asks
  pub joins : (o : Operand) (v : Value) (t : ℕ) (rest : List Value) → y.gift ≡ None → pop o h ≡ Some (record { item = v; hand = with_temps rest h }) → v ≡ value.Own (owned.Task t) → Done (instr.Join o)
  joins o v t rest bare e task =
      subst (λ g. IsSome (committed (Rattle.law_counts_sums.specs.Below.server_model.Commit.join o g h))) (sym bare)
      (subst (λ p. IsSome (committed (Rattle.law_counts_sums.specs.Below.server_model.Commit.waiting (option_map (Rattle.law_counts_sums.specs.Below.server_model.Commit.ask_join h) (then_some p (λ x. Rattle.law_counts_sums.specs.Below.server_model.Work.task_of x.item)))))) (sym e)
      (subst (λ x. IsSome (committed (Rattle.law_counts_sums.specs.Below.server_model.Commit.waiting (option_map (Rattle.law_counts_sums.specs.Below.server_model.Commit.ask_join h) (Rattle.law_counts_sums.specs.Below.server_model.Work.task_of x))))) (sym task) refl))

  pub ends : (o : Operand) (v : Owned) (rest : List Value) → pop_owned o h ≡ Some (record { item = v; hand = with_temps rest h }) → Done (instr.End o)
  ends o v rest e =
      subst (λ p. IsSome (committed (done_where fresh.None (option_map (with_phase phase.Over) (then_some p (λ t. end_with (y.number == 0) t.item t.hand)))))) (sym e) (by (y.number == 0))
    where
      by : (b : Bool) → IsSome (committed (done_where fresh.None (option_map (with_phase phase.Over) (end_with b v (with_temps rest h)))))
      by true = settled fresh.None (with_phase phase.Over (working (λ w. label_all (label.End y.number ∷ []) (give_up v w)) (label_dropped (value.Own v) (with_temps rest h)))) (same_cache _ (given_cache v (label_dropped (value.Own v) (with_temps rest h)).work))
      by false =
          settled fresh.None (with_phase phase.Over (working (λ w. send y.home (message.Finished y.number v) (label_all (label.End y.number ∷ []) (note (act.Finish y.number) w))) (with_temps rest h)))
          (same_cache _ (sent_cache r y.home (message.Finished y.number v)))
