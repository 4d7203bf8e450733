-- Steps that ask for something, or give something to a mutex or a thread.
use Rattle.std.proofs.Common.{◌≡◌, ℕ, ◌+◌, ◌==◌, Bool, true, false, List, [], ◌∷◌, ◌++◌, Option, Some, None, refl, arith}
use Rattle.coherent_memory.specs.Below.fr_base.declared.name.MutexNo.{MutexNo}
use Rattle.coherent_memory.specs.Below.fr_base.declared.label.Label.TheVariants as label
use Rattle.coherent_memory.specs.Below.fr_base.declared.step.Fresh.TheVariants as fresh
use Rattle.coherent_memory.specs.Below.fr_base.declared.instruction.Operand.{Operand}
use Rattle.coherent_memory.specs.Below.heap_partition.declared.value.Owned.{Owned}
use Rattle.coherent_memory.specs.Below.heap_partition.declared.value.Owned.TheVariants as owned
use Rattle.coherent_memory.specs.Below.mutex_home.Mutexes.{Mutex, can_make, make, next_mutex}
use Rattle.coherent_memory.specs.Below.thread_state.declared.phase.Phase.TheVariants as phase
use Rattle.coherent_memory.specs.Below.thread_state.declared.value.Value.{Value}
use Rattle.coherent_memory.specs.Below.thread_state.declared.value.Value.TheVariants as value
use Rattle.coherent_memory.specs.Below.server_msgs.declared.message.Message.TheVariants as message
use Rattle.coherent_memory.specs.Below.journal.declared.act.Act.{Act}
use Rattle.coherent_memory.specs.Below.journal.declared.act.Act.TheVariants as act
use Rattle.coherent_memory.specs.Below.server_model.Work.{Hand, Popped, send, note, label_all, with_mutexes, working, push_temp, push_slot, pop_slot, pop, pop_owned, taken_as, owned_of, task_of, then_some}
use Rattle.coherent_memory.specs.Below.server_model.Places.{Spot, load_at, cell_at, load_of}
use Rattle.coherent_memory.specs.Below.server_model.Drop.{home_of}
use Rattle.coherent_memory.specs.Below.server_model.Commit.{waiting, label_dropped, ask_join, take_gift, join, end_with, end_thread, mutex_made, mutex, mutex_at, ask_dup, dup, ask_lock, push_content, lock, held_of, send_content, unlock, go_on}
use Rattle.coherent_memory.specs.Things.{Thing, in_hand, at_temp, as_content, as_result, holds, locks, at_home, things_at, mutex_things}
use Rattle.law_counts_sums.specs.Laws.{Gives}
use Rattle.law_counts_sums.proofs.Trades.{Trade, tot-append, trade_push, trade_left}
use Rattle.law_counts_sums.proofs.Rules.{Rule, turned, hands_on, sends, marks, unmarks, makes_mutex, counts_on, beside, in_turn, Kept, Spends}
use Rattle.law_counts_sums.proofs.Results.{map_gives, over_gives, bind_gives, test_gives}
use Rattle.law_counts_sums.proofs.Bags.{WorkOk, HandOk, rest_things, of_mutexes}
use Rattle.law_counts_sums.proofs.Chains.{work_trades, work_sends, work_front, hand_sends, phase_changes, thread_changes, beside_hand, to_hand}
use Rattle.law_counts_sums.proofs.Objects.{one_goes}
use Rattle.law_counts_sums.proofs.Values.{held, pushes_temp, pushes_slot, some_come_by, some_go_by}
use Rattle.law_counts_sums.proofs.Uses.{turns, hand_gives_up}
use Rattle.law_counts_sums.proofs.Gifts.{takes_gift}
use Rattle.law_counts_sums.proofs.Drops.{labelled, pops, pops_last, pops_owned, as_owned}
use Rattle.law_counts_sums.proofs.Commits.{CommittedOk, goes_keep, done_keeps}

module _ {K : List Thing → Type 0} (k : Kept K) (n e t : ℕ) (others : List Thing) where
  abbrev Ok : Hand → Type 0
  Ok = HandOk K n e t others

  waiting_keeps : (o : Option Hand) → Gives Ok o → CommittedOk Ok (waiting o)
  waiting_keeps None g = tt
  waiting_keeps (Some h) g = g

  noted : (a : Act) (h : Hand) → Ok h → Ok (working (note a) h)
  noted a h g = record { number = g.number; thread = g.thread; bag = g.bag }

  -- a message that carries a value takes it from the hand
  sends_value : (target : ℕ) (m : Rattle.coherent_memory.specs.Below.server_msgs.declared.message.Message.Message) (v : Owned) (h : Hand) → Rule (holds in_hand v ∷ []) (Rattle.coherent_memory.specs.Things.message_things target m) → HandOk K n e t (holds in_hand v ∷ others) h → Ok (working (send target m) h)
  sends_value target m v h r g =
      let front = Rattle.coherent_memory.specs.Things.thread_things n false h.thread in
      let there = work_front k n e front others (holds in_hand v) h.work (beside_hand k n e t (holds in_hand v ∷ others) h g) in
      to_hand k n e t others (send target m h.work) h.thread g.thread (work_sends k n e (holds in_hand v ∷ (front ++ others)) h.work target m (one_goes (holds in_hand v) (front ++ others)) r there)

  -- JOINS

  asks_join : (u : ℕ) (h : Hand) → Ok h → Ok (ask_join h u)
  asks_join u h g =
      let m = message.Join u h.work.rest.number h.thread.number in
      phase_changes k n e t others (phase.WaitJoin u) (working (send (home_of u) m) (working (note (act.AskJoin u)) h)) (hand_sends k n e t others (home_of u) m (working (note (act.AskJoin u)) h) refl refl (noted (act.AskJoin u) h g))

  -- a task value goes from the hand
  spent : Spends K → (more : List Thing) (u : ℕ) (h : Hand) → HandOk K n e t (holds in_hand (owned.Task u) ∷ more) h → HandOk K n e t more h
  spent sp more u h g =
      let front = Rattle.coherent_memory.specs.Things.thread_things n false h.thread in
      record { number = g.number; thread = g.thread; bag = sp.joined in_hand u (trade_left front (trade_left (rest_things n e h.work.rest) (one_goes (holds in_hand (owned.Task u)) more))) g.bag }

  -- it waits for the result
  pub join_waits : (o : Operand) (h : Hand) → Ok h → CommittedOk Ok (join o None h)
  join_waits o h g = waiting_keeps _ (map_gives Ok (then_some (pop o h) (λ p. task_of p.item)) (ask_join h) (λ u z. asks_join u h g))

  pub joins : Spends K → (o : Operand) (gift : Option Owned) (h : Hand) → h.thread.gift ≡ gift → Ok h → CommittedOk Ok (join o gift h)
  joins sp o None h q g = join_waits o h g
  joins sp o (Some v) h q g =
      let out = takes_gift k n e t others v h q g in
      goes_keep k n e t others _
      (over_gives (λ (p : Popped ℕ). HandOk K n e t (holds in_hand v ∷ others) p.hand) Ok (then_some (pop o (take_gift h)) (taken_as task_of)) (λ p. push_temp (value.Own v) p.hand)
      (bind_gives (λ (p : Popped Value). HandOk K n e t (held n t p.item ++ (holds in_hand v ∷ others)) p.hand) (λ (p : Popped ℕ). HandOk K n e t (holds in_hand v ∷ others) p.hand) (pop o (take_gift h)) (taken_as task_of)
      (pops k n e t (holds in_hand v ∷ others) o (take_gift h) out) (λ p x. task_with v p x))
      (λ p x. pushes_temp k n e t others (value.Own v) p.hand x))
    where
      task_with : (v : Owned) (p : Popped Value) → HandOk K n e t (held n t p.item ++ (holds in_hand v ∷ others)) p.hand → Gives (λ (x : Popped ℕ). HandOk K n e t (holds in_hand v ∷ others) x.hand) (taken_as task_of p)
      task_with v p g = by p.item refl g
        where
          by : (y : Value) → p.item ≡ y → HandOk K n e t (held n t y ++ (holds in_hand v ∷ others)) p.hand → Gives (λ (x : Popped ℕ). HandOk K n e t (holds in_hand v ∷ others) x.hand) (Rattle.std.specs.Prelude.option_map (λ (x : ℕ). record { item = x; hand = p.hand }) (task_of y))
          by (value.Own (owned.Task u)) q x = spent sp (holds in_hand v ∷ others) u p.hand x
          by _ q x = tt

  -- SHARES AND LOCKS

  asks_dup : (m : MutexNo) (h : Hand) → Ok h → Ok (ask_dup h m)
  asks_dup m h g =
      let x = message.Dup m h.work.rest.number h.thread.number in
      phase_changes k n e t others (phase.WaitDup m) (working (send m.home x) (working (note (act.AskDup m)) h)) (hand_sends k n e t others m.home x (working (note (act.AskDup m)) h) refl refl (noted (act.AskDup m) h g))

  pub dups_step : (s : Spot) (gift : Option Owned) (h : Hand) → h.thread.gift ≡ gift → Ok h → CommittedOk Ok (dup s gift h)
  dups_step s None h q g = waiting_keeps _ (map_gives Ok (mutex_at h s) (ask_dup h) (λ m z. asks_dup m h g))
  dups_step s (Some v) h q g =
      goes_keep k n e t others _ (map_gives Ok (mutex_at h s) _ (λ m z.
      pushes_temp k n e t others (value.Own v) (load_at s (take_gift h)) (labelled k n e t (holds in_hand v ∷ others) (load_of (cell_at (take_gift h) s)) (take_gift h) (takes_gift k n e t others v h q g))))

  asks_lock : (m : MutexNo) (h : Hand) → Ok h → Ok (ask_lock h m)
  asks_lock m h g =
      let x = message.Lock m h.work.rest.number h.thread.number in
      phase_changes k n e t others (phase.WaitLock m) (working (send m.home x) (working (note (act.AskLock m)) h)) (hand_sends k n e t others m.home x (working (note (act.AskLock m)) h) refl refl (noted (act.AskLock m) h g))

  pushes_content : (v : Owned) (h : Hand) (m : MutexNo) → HandOk K n e t (holds in_hand v ∷ others) h → Ok (push_content v h m)
  pushes_content v h m g =
      let h2 = working (label_all (label.Lock m ∷ [])) h in
      let marked = pushes_slot k n e t (holds in_hand v ∷ others) (value.Held m) h2 (some_come_by k n e t (holds in_hand v ∷ others) (locks (at_temp t 0) m ∷ []) h2 (marks (at_temp t 0) m) (labelled k n e t (holds in_hand v ∷ others) (label.Lock m ∷ []) h g)) in
      pushes_slot k n e t others (value.Own v) (push_slot (value.Held m) h2) marked

  pub locks_step : (s : Spot) (gift : Option Owned) (h : Hand) → h.thread.gift ≡ gift → Ok h → CommittedOk Ok (lock s gift h)
  locks_step s None h q g = waiting_keeps _ (map_gives Ok (mutex_at h s) (ask_lock h) (λ m z. asks_lock m h g))
  locks_step s (Some v) h q g =
      goes_keep k n e t others _ (map_gives Ok (mutex_at h s) _ (λ m z.
      pushes_content v (load_at s (take_gift h)) m (labelled k n e t (holds in_hand v ∷ others) (load_of (cell_at (take_gift h) s)) (take_gift h) (takes_gift k n e t others v h q g))))

  sends_content : (m : MutexNo) (v : Owned) (h : Hand) → HandOk K n e t (holds in_hand v ∷ others) h → Ok (send_content m v h)
  sends_content m v h g =
      sends_value m.home (message.Unlock m v) v (working (λ w. label_all (label.Unlock m ∷ []) (note (act.GiveBack m) w)) h) (beside (sends m.home (message.Unlock m v) refl) (hands_on in_hand (as_content m) v))
      (record { number = g.number; thread = g.thread; bag = g.bag })

  pub unlocks : (h : Hand) → Ok h → Gives Ok (unlock h)
  unlocks h g =
      bind_gives (λ (p : Popped Owned). HandOk K n e t (holds in_hand p.item ∷ others) p.hand) Ok (then_some (pop_slot h) (taken_as owned_of)) _
      (bind_gives (λ (p : Popped Value). HandOk K n e t (held n t p.item ++ others) p.hand) (λ (p : Popped Owned). HandOk K n e t (holds in_hand p.item ∷ others) p.hand) (pop_slot h) (taken_as owned_of) (pops_last k n e t others h g) (λ p x. as_owned k n e t others p x))
      (λ v x. over_gives (λ (p : Popped MutexNo). HandOk K n e t (holds in_hand v.item ∷ others) p.hand) Ok (then_some (pop_slot v.hand) (taken_as held_of)) _
      (bind_gives (λ (p : Popped Value). HandOk K n e t (held n t p.item ++ (holds in_hand v.item ∷ others)) p.hand) (λ (p : Popped MutexNo). HandOk K n e t (holds in_hand v.item ∷ others) p.hand) (pop_slot v.hand) (taken_as held_of)
      (pops_last k n e t (holds in_hand v.item ∷ others) v.hand x) (λ p y. as_held v.item p y))
      (λ m y. sends_content m.item v.item m.hand y))
    where
      as_held : (v : Owned) (p : Popped Value) → HandOk K n e t (held n t p.item ++ (holds in_hand v ∷ others)) p.hand → Gives (λ (x : Popped MutexNo). HandOk K n e t (holds in_hand v ∷ others) x.hand) (taken_as held_of p)
      as_held v p g = by p.item refl g
        where
          by : (y : Value) → p.item ≡ y → HandOk K n e t (held n t y ++ (holds in_hand v ∷ others)) p.hand → Gives (λ (x : Popped MutexNo). HandOk K n e t (holds in_hand v ∷ others) x.hand) (Rattle.std.specs.Prelude.option_map (λ (x : MutexNo). record { item = x; hand = p.hand }) (held_of y))
          by (value.Held m) q x = some_go_by k n e t (holds in_hand v ∷ others) (locks (at_temp t 0) m ∷ []) p.hand (unmarks (at_temp t 0) m) x
          by _ q x = tt

  -- ENDS

  ends_with : (main : Bool) (v : Owned) (h : Hand) → HandOk K n e t (holds in_hand v ∷ others) h → Gives Ok (end_with main v h)
  ends_with true v h g =
      let gone = hand_gives_up k n e t others v (label_dropped (value.Own v) h) (labelled k n e t (holds in_hand v ∷ others) (Rattle.coherent_memory.specs.Below.server_model.Drop.drop_labels (value.Own v)) h g) in
      record { number = gone.number; thread = gone.thread; bag = gone.bag }
  ends_with false v h g =
      sends_value h.thread.home (message.Finished h.thread.number v) v (working (λ w. label_all (label.End h.thread.number ∷ []) (note (act.Finish h.thread.number) w)) h)
      (beside (sends h.thread.home (message.Finished h.thread.number v) refl) (hands_on in_hand (as_result h.thread.number) v)) (record { number = g.number; thread = g.thread; bag = g.bag })

  pub ends_thread : (o : Operand) (h : Hand) → Ok h → CommittedOk Ok (end_thread o h)
  ends_thread o h g =
      done_keeps k n e t others fresh.None _ (over_gives Ok Ok (then_some (pop_owned o h) (λ p. end_with (h.thread.number == 0) p.item p.hand)) _
      (bind_gives (λ (p : Popped Owned). HandOk K n e t (holds in_hand p.item ∷ others) p.hand) Ok (pop_owned o h) _ (pops_owned k n e t others o h g) (λ p x. ends_with (h.thread.number == 0) p.item p.hand x))
      (λ h2 x. phase_changes k n e t others phase.Over h2 x))

  -- NEW MUTEXES

  makes : (v : Owned) (h : Hand) → HandOk K n e t (holds in_hand v ∷ others) h → Gives Ok (mutex_made v h)
  makes v h g =
      let w = h.work in
      let ms = w.rest.mutexes in
      let m : Mutex = record { number = next_mutex ms; content = Some v; shares = 1; queue = [] } in
      let mine = owned.Mutex (next_mutex ms) in
      let front = Rattle.coherent_memory.specs.Things.thread_things n false h.thread in
      let there : WorkOk K n e (holds in_hand v ∷ (front ++ others)) w = work_front k n e front others (holds in_hand v) w (beside_hand k n e t (holds in_hand v ∷ others) h g) in
      let push : Trade (things_at (mutex_things n) 0 ms.there) [] (mutex_things n 0 m) (things_at (mutex_things n) 0 (make ms v).there) = trade_push (mutex_things n) ms.there 0 m in
      let beside_it : Trade (holds in_hand v ∷ (front ++ others)) (holds in_hand v ∷ []) (holds in_hand mine ∷ []) (holds in_hand mine ∷ (front ++ others)) = record { rest = front ++ others; before = λ f. omega arith; after = λ f. omega arith } in
      let rule : Rule (holds in_hand v ∷ []) (at_home n m ∷ holds (as_content (next_mutex ms)) v ∷ holds in_hand mine ∷ []) =
      in_turn (beside (makes_mutex n in_hand m refl) (hands_on in_hand (as_content (next_mutex ms)) v)) (turned (at_home n m ∷ holds in_hand mine ∷ holds (as_content (next_mutex ms)) v ∷ []) (at_home n m ∷ holds (as_content (next_mutex ms)) v ∷ holds in_hand mine ∷ []) (λ f. omega arith)) in
      let made : WorkOk K n e (holds in_hand mine ∷ (front ++ others)) (with_mutexes (make ms v) w) =
      work_trades k n e w (with_mutexes (make ms v) w) refl (of_mutexes n e w.rest (make ms v) push) beside_it (beside (counts_on n _ _ _ _ e _ _ _ e) rule) there in
      let back : HandOk K n e t (holds in_hand mine ∷ others) (working (with_mutexes (make ms v)) h) =
      to_hand k n e t (holds in_hand mine ∷ others) (with_mutexes (make ms v) w) h.thread g.thread
      (turns k n e t (holds in_hand mine ∷ (front ++ others)) (front ++ (holds in_hand mine ∷ others)) _ (λ f. omega (arith, tot-append f front others, tot-append f front (holds in_hand mine ∷ others))) made) in
      test_gives Ok (can_make ms) _ (λ on. pushes_temp k n e t others (value.Own mine) (working (with_mutexes (make ms v)) h) back)

  pub mutexes : (o : Operand) (h : Hand) → Ok h → CommittedOk Ok (mutex o h)
  mutexes o h g =
      done_keeps k n e t others (fresh.Mutex (next_mutex h.work.rest.mutexes)) _ (over_gives Ok Ok (then_some (pop_owned o h) (λ p. mutex_made p.item p.hand)) go_on
      (bind_gives (λ (p : Popped Owned). HandOk K n e t (holds in_hand p.item ∷ others) p.hand) Ok (pop_owned o h) _ (pops_owned k n e t others o h g) (λ p x. makes p.item p.hand x))
      (λ h2 x. thread_changes k n e t others h2 (record h2.thread { pc = h2.thread.pc + 1; phase = phase.Ready }) refl (λ f. refl) x))
