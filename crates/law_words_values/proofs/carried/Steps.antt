-- What the steps of these instructions do to the thread and its server, as words see it.
use Rattle.std.proofs.Common.{◌≡◌, ◌⊎◌, inl, inr, ℕ, zero, suc, ◌==◌, Bool, true, false, List, [], ◌∷◌, ◌++◌, Option, Some, None, option_map, refl, sym, ap, subst, ◌∙◌, arith}
use Rattle.std.specs.Prelude.{slice_get, length}
use Rattle.law_words_kept.specs.Below.fr_base.declared.step.Fresh.{Fresh}
use Rattle.law_words_kept.specs.Below.fr_base.declared.step.Fresh.TheVariants as fresh
use Rattle.law_words_kept.specs.Below.fr_base.declared.instruction.Operand.{Operand}
use Rattle.law_words_kept.specs.Below.fr_base.declared.instruction.Operand.TheVariants as operand
use Rattle.law_words_kept.specs.Below.fr_base.declared.instruction.Instr.{Instr}
use Rattle.law_words_kept.specs.Below.fr_base.declared.name.MutexNo.{MutexNo}
use Rattle.law_words_kept.specs.Below.fr_base.declared.name.ObjNo.{ObjNo}
use Rattle.law_words_kept.specs.Below.heap_partition.declared.value.Owned.{Owned}
use Rattle.law_words_kept.specs.Below.heap_partition.declared.value.Owned.TheVariants as owned
use Rattle.law_words_kept.specs.Below.mutex_home.Mutexes.{Mutex, can_make, make, next_mutex}
use Rattle.law_words_kept.specs.Below.thread_state.View.{ThreadState}
use Rattle.law_words_kept.specs.Below.thread_state.declared.phase.Phase.TheVariants as phase
use Rattle.law_words_kept.specs.Below.thread_state.declared.value.Value.{Value}
use Rattle.law_words_kept.specs.Below.thread_state.declared.value.Value.TheVariants as value
use Rattle.law_words_kept.specs.Below.server_msgs.declared.message.Message.TheVariants as message
use Rattle.law_words_kept.specs.Below.server_model.Servers.{Rest}
use Rattle.law_words_kept.specs.Below.server_model.Work.{Work, Hand, Popped, last_of, front_of, with_temps, push_temp, push_slot, pop, pop_owned, owned_of, task_of, taken_as, then_some, working, with_phase, sent_from, label_all}
use Rattle.law_words_kept.specs.Below.server_model.Drop.{give_up, drop_labels, drop_value}
use Rattle.law_words_kept.specs.Below.server_model.Commit.{done_where, go_on, waiting, let_slot, label_dropped, take_gift, ask_join, join, mutex_made, end_with, end_thread, discard, settle}
use Rattle.law_words_kept.specs.Below.server_model.Places.{nowhere as no_spot}
use Rattle.law_words_kept.specs.Below.server_model.Events.{Stepped, done_step, committed}
use Rattle.law_words_kept.specs.Below.coherent_memory.Names.{tot}
use Rattle.law_words_kept.specs.Below.coherent_memory.Things.{in_slot, at_slot, in_hand, holds, sent, locks, things_at, slot_things, temp_things, gift_things, walk_things, thread_things, mutex_things, message_things}
use Rattle.law_words_kept.specs.Below.coherent_memory.Weights.{owners}
use Rattle.law_words_kept.proofs.Below.coherent_memory.Sums.{tot-append}
use Rattle.law_words_kept.proofs.Below.law_words_paths.paths.Sole.{some_is}
use Rattle.law_words_kept.specs.Below.law_words_paths.words.Unmoved.{pointing}
use Rattle.law_words_kept.specs.Below.law_counts_sums.Laws.{Gives}
use Rattle.law_words_kept.proofs.Below.law_counts_sums.Results.{over_gives, test_gives, both_give, weaker}
use Rattle.law_words_kept.proofs.Below.law_counts_sums.Values.{last_split}
use Rattle.law_words_kept.proofs.Below.law_counts_sums.Bags.{body_things, sent_number}
use Rattle.law_words_kept.proofs.stays.Alike.{Alike, itself, turned, chain, beside, in_front, joined, alone, blank, goes}
use Rattle.law_words_kept.proofs.stays.Lists.{at_end, taken_alike}
use Rattle.law_words_kept.proofs.stays.Servers.{held, held_if, mutex_shows, other_mutexes, result_held, given_up, sends}
use Rattle.law_words_kept.proofs.stays.Threads.{slots_of, temps_of, thread_alike}
use Rattle.law_words_kept.proofs.stays.Sites.{HandAlike}
use Rattle.law_words_kept.proofs.stays.Steps.{IsUnseen, owned_unseen, shared_slot_unseen, mut_slot_unseen, TakesNoneHere, pushes, pops, settles, joins_ask}
use Rattle.law_words_values.specs.carried.Steps.{IsNoReference}
use Rattle.law_words_values.proofs.carried.Replaced.{tail_of}
use Rattle.law_words_values.proofs.carried.Passing.{slot, temp, nowhere}
use Rattle.law_words_values.proofs.carried.Places.{end_none, end_sum, end_things, temp_to_slot, temp_to_gift, gift_to_temp}
use Rattle.law_words_values.proofs.carried.Hands.{Together, each_together, Moved, seen, passed, moved_on}

-- AT THE END OF A LIST

last_seen : (xs : List Value) (v : Value) → pointing (Some v) ≡ None → (i : ℕ) → pointing (slice_get (xs ++ v ∷ []) i) ≡ pointing (slice_get xs i)
last_seen [] v e zero = e
last_seen [] v e (suc i) = refl
last_seen (x ∷ xs) v e zero = refl
last_seen (x ∷ xs) v e (suc i) = last_seen xs v e i

-- what is popped for an owned value
popped_owned : (v : Value) (u : Owned) → owned_of v ≡ Some u → v ≡ value.Own u
popped_owned (value.Own w) u e = ap (λ z. value.Own z) (some_is e)
popped_owned value.Gone u e = absurd cc
popped_owned (value.SharedSlot i) u e = absurd cc
popped_owned (value.MutSlot i) u e = absurd cc
popped_owned (value.Shared r) u e = absurd cc
popped_owned (value.Mut r) u e = absurd cc
popped_owned (value.Held m) u e = absurd cc

popped_task : (v : Value) (u : ℕ) → task_of v ≡ Some u → v ≡ value.Own (owned.Task u)
popped_task (value.Own (owned.Task w)) u e = ap (λ z. value.Own (owned.Task z)) (some_is e)
popped_task (value.Own owned.Nothing) u e = absurd cc
popped_task (value.Own owned.Unit) u e = absurd cc
popped_task (value.Own (owned.Int i)) u e = absurd cc
popped_task (value.Own (owned.Box b)) u e = absurd cc
popped_task (value.Own (owned.Mutex m)) u e = absurd cc
popped_task value.Gone u e = absurd cc
popped_task (value.SharedSlot i) u e = absurd cc
popped_task (value.MutSlot i) u e = absurd cc
popped_task (value.Shared r) u e = absurd cc
popped_task (value.Mut r) u e = absurd cc
popped_task (value.Held m) u e = absurd cc

task_unseen : (u : ℕ) → IsUnseen (value.Own (owned.Task u))
task_unseen u = record { points = refl; things = λ n p l. blank (holds p (owned.Task u)) (λ q x h. h) }

mutex_unseen : (m : MutexNo) → IsUnseen (value.Own (owned.Mutex m))
mutex_unseen m = record { points = refl; things = λ n p l. blank (holds p (owned.Mutex m)) (λ q x h. h) }

module _ (code : List Instr) (n : ℕ) where
  -- GOING ON

  pub goes_next : (h : Hand) → TakesNoneHere code h.thread → Together code n h (go_on h)
  goes_next h none = each_together (record {
    number = refl;
    named = refl;
    thread = thread_alike n n false false h.thread (go_on h).thread [] [] (record { number = refl; taking = sym none; slots = λ i. refl; temps = λ i. refl }) (itself (slots_of n h.thread)) (itself (temps_of n h.thread)) (itself (held_if h.thread.gift));
    rest = itself (body_things n h.work.rest);
  })

  -- the step is done
  pub settled : (h h2 : Hand) (names : Fresh) → Moved code n h h2 → Gives (λ (d : Stepped). Moved code n h d.hand) (option_map (done_step names) (settle h2))
  settled h h2 names m = over_gives (HandAlike code n [] h2) (λ (d : Stepped). Moved code n h d.hand) (settle h2) (done_step names) (settles code n h2) (λ h3 a. moved_on m (each_together a))

  -- a value moved, and the thread has taken nothing
  pub record Does (h h2 : Hand) : Type 0 where
    pub moved : Moved code n h h2
    pub untaken : TakesNoneHere code h2.thread

  pub goes_over : (h : Hand) (names : Fresh) (o : Option Hand) → Gives (Does h) o → Gives (λ (d : Stepped). Moved code n h d.hand) (committed (done_where names (option_map go_on o)))
  goes_over h names None g = tt
  goes_over h names (Some h2) g = settled h (go_on h2) names (moved_on g.moved (goes_next h2 g.untaken))

  -- in a new slot stands what leads nowhere
  pub slot_pushed : (h : Hand) (v : Value) → pointing (Some v) ≡ None → IsUnseen v → HandAlike code n [] h (push_slot v h)
  slot_pushed h v e u = record {
    number = refl;
    named = refl;
    thread = thread_alike n n false false h.thread (record h.thread { slots = h.thread.slots ++ v ∷ [] }) [] [] (record { number = refl; taking = refl; slots = last_seen h.thread.slots v e; temps = λ i. refl })
        (turned (chain q.1 (chain (beside (itself (slots_of n h.thread)) (u.things n (in_slot h.thread.number q.0) (at_slot h.thread.number q.0))) (alone (slots_of n h.thread))))) (itself (temps_of n h.thread)) (itself (held_if h.thread.gift));
    rest = itself (body_things n h.work.rest);
  }
    where
      q : (j : ℕ) × Alike code (things_at (slot_things n h.thread.number) 0 (h.thread.slots ++ v ∷ [])) (slots_of n h.thread ++ slot_things n h.thread.number j v)
      q = end_things (slot_things n h.thread.number) 0 h.thread.slots v

  -- what a thread gives comes to the rest
  pub given_to_rest : (x z : ThreadState) (u : Owned) (r r2 : Rest) → x.gift ≡ None → Alike code (thread_things n false x) (thread_things n false z) → Alike code (held u ++ body_things n r) (body_things n r2)
      → Alike code (thread_things n false (record x { gift = Some u }) ++ body_things n r) (thread_things n false z ++ body_things n r2)
  given_to_rest x z u r r2 free a b =
      let away : Alike code (thread_things n false (record x { gift = Some u })) (held u ++ thread_things n false x) =
      thread_alike n n false false (record x { gift = Some u }) x [] (held u) (record { number = refl; taking = refl; slots = λ i. refl; temps = λ i. refl }) (itself (slots_of n x)) (itself (temps_of n x))
      (subst (λ g. Alike code (held u) (held u ++ held_if g)) (sym free) (itself (held u))) in
      chain (beside away (itself (body_things n r)))
      (chain (turned (joined (held u) (thread_things n false x) (body_things n r))) (chain (in_front (held u) (thread_things n false x) (body_things n r)) (beside a b)))

  -- where nothing but what words don't see is given
  module _ (h : Hand) (none : TakesNoneHere code h.thread) (free : h.thread.gift ≡ None) where
    abbrev x : ThreadState
    x = h.thread

    abbrev without : List Value → ThreadState
    without ts = record x { temps = ts }

    -- an owned value on top goes to the rest
    top_given : (u : Owned) (h2 : Hand) → last_of x.temps ≡ Some (value.Own u) → h2.work.rest.number ≡ h.work.rest.number → h2.thread.number ≡ x.number
        → Alike code (thread_things n false (without (front_of x.temps))) (thread_things n false h2.thread) → Alike code (held u ++ body_things n h.work.rest) (body_things n h2.work.rest) → Moved code n h h2
    top_given u h2 e number named a b =
        let ts : List Value = front_of x.temps in
        passed x (record x { temps = ts; gift = Some u }) refl (itself (thread_things n false x)) (λ o. refl) (temp_to_gift code n x none ts u (last_split x.temps (value.Own u) e) free)
        (λ i w. not_there ts i w)
        (record { number = number; named = named; alike = given_to_rest (without ts) h2.thread u h.work.rest h2.work.rest free a b })
      where
        not_there : (ts : List Value) (i : ℕ) → (slot i ≡ temp (length ts)) ⊎ (slot i ≡ nowhere) → pointing (slice_get x.slots i) ≡ None
        not_there ts i (inl q) = absurd cc
        not_there ts i (inr q) = absurd cc

    -- so does one that words don't see
    unseen_given : (u : Owned) (h2 : Hand) → Alike code (held u) [] → h2.work.rest.number ≡ h.work.rest.number → h2.thread.number ≡ x.number → Alike code (thread_things n false x) (thread_things n false h2.thread)
        → Alike code (held u ++ body_things n h.work.rest) (body_things n h2.work.rest) → Moved code n h h2
    unseen_given u h2 q number named a b = seen (record { number = number; named = named; alike = beside a (chain (turned (goes q)) b) })

    -- the rest takes it, and words see the same of the thread
    pub record Taken (u : Owned) (h1 h2 : Hand) : Type 0 where
      pub number : h2.work.rest.number ≡ h.work.rest.number
      pub named : h2.thread.number ≡ h1.thread.number
      pub thread : Alike code (thread_things n false h1.thread) (thread_things n false h2.thread)
      pub rest : Alike code (held u ++ body_things n h.work.rest) (body_things n h2.work.rest)
      pub untaken : TakesNoneHere code h2.thread

    -- an operand's value goes to the rest: what has to be shown of it, whatever it is
    pub operand_given : (o : Operand) (f : Owned → Hand → Option Hand) → ((u : Owned) (h1 : Hand) → h1.work ≡ h.work → h1.thread.number ≡ x.number → TakesNoneHere code h1.thread → Gives (Taken u h1) (f u h1)) → Gives (Does h) (then_some (pop_owned o h) (λ t. f t.item t.hand))
    operand_given (operand.Const i) f g =
        weaker (Taken (owned.Int i) h) (Does h) (f (owned.Int i) h) (g (owned.Int i) h refl refl none) (λ h2 q. record { moved = unseen_given (owned.Int i) h2 (blank (holds in_hand (owned.Int i)) (λ p e m. m)) q.number q.named q.thread q.rest; untaken = q.untaken })
    operand_given operand.Unit f g =
        weaker (Taken owned.Unit h) (Does h) (f owned.Unit h) (g owned.Unit h refl refl none) (λ h2 q. record { moved = unseen_given owned.Unit h2 (blank (holds in_hand owned.Unit) (λ p e m. m)) q.number q.named q.thread q.rest; untaken = q.untaken })
    operand_given operand.Pop f g = by (last_of x.temps) refl
      where
        h1 : Hand
        h1 = with_temps (front_of x.temps) h

        as_owned : (v : Value) → last_of x.temps ≡ Some v → (o : Option Owned) → owned_of v ≡ o → Gives (Does h) (then_some {X = Popped Owned} (option_map (λ u. record { item = u; hand = h1 }) o) (λ t. f t.item t.hand))
        as_owned v e None q = tt
        as_owned v e (Some u) q = weaker (Taken u h1) (Does h) (f u h1) (g u h1 refl refl none) (λ h2 w. record { moved = top_given u h2 (e ∙ ap Some (popped_owned v u q)) w.number w.named w.thread w.rest; untaken = w.untaken })

        by : (o : Option Value) → last_of x.temps ≡ o → Gives (Does h) (then_some {X = Popped Owned} (then_some {X = Popped Value} (option_map (λ v. record { item = v; hand = h1 }) o) (taken_as owned_of)) (λ t. f t.item t.hand))
        by None e = tt
        by (Some v) e = as_owned v e (owned_of v) refl

    -- LET

    pub lets : (o : Operand) → Gives (Does h) (let_slot o h)
    lets (operand.Const i) = record { moved = seen (each_together (slot_pushed h (value.Own (owned.Int i)) refl (owned_unseen (owned.Int i) refl))); untaken = none }
    lets operand.Unit = record { moved = seen (each_together (slot_pushed h (value.Own owned.Unit) refl (owned_unseen owned.Unit refl))); untaken = none }
    lets operand.Pop = by (last_of x.temps) refl
      where
        blind : (ts : List Value) (i : ℕ) → (slot i ≡ temp (length ts)) ⊎ (slot i ≡ slot (length x.slots)) → pointing (slice_get x.slots i) ≡ None
        blind ts i (inl q) = absurd cc
        blind ts i (inr q) = let e : i ≡ length x.slots = cc in ap (λ j. pointing (slice_get x.slots j)) e ∙ ap pointing (end_none x.slots)

        by : (o : Option Value) → last_of x.temps ≡ o → Gives (Does h) (option_map (λ (t : Popped Value). push_slot t.item t.hand) (option_map (λ v. record { item = v; hand = with_temps (front_of x.temps) h }) o))
        by None e = tt
        by (Some v) e =
            let ts : List Value = front_of x.temps in
            let z : ThreadState = record x { temps = ts; slots = x.slots ++ v ∷ [] } in record {
              moved = passed x z refl (itself (thread_things n false x)) (λ o. refl) (temp_to_slot code n x none ts v (last_split x.temps v e)) (λ i w. blind ts i w)
                  (record { number = refl; named = refl; alike = itself (thread_things n false z ++ body_things n h.work.rest) });
              untaken = none;
            }

    -- A NEW MUTEX

    mutex_rest : (r : Rest) (u : Owned) → Alike code (held u ++ body_things n r) (body_things n (record r { mutexes = make r.mutexes u }))
    mutex_rest r u =
        let m : Mutex = record { number = next_mutex r.mutexes; content = Some u; shares = 1; queue = [] } in
        other_mutexes n r (make r.mutexes u) (held u) [] (turned (chain (taken_alike (mutex_things n 0) 0 0 (at_end r.mutexes.there m)) (beside (mutex_shows n 0 m) (itself (things_at (mutex_things n) 0 r.mutexes.there)))))

    pub mutexes : (o : Operand) → Gives (Does h) (then_some (pop_owned o h) (λ t. mutex_made t.item t.hand))
    mutexes o =
        operand_given o mutex_made
        (λ u h1 same named free_of.
        let v : Value = value.Own (owned.Mutex (next_mutex h1.work.rest.mutexes)) in
        let p = pushes code n h1 v (mutex_unseen (next_mutex h1.work.rest.mutexes)) free_of in
        test_gives (Taken u h1) (can_make h1.work.rest.mutexes) _
        (λ on. record {
          number = ap (λ (w : Work). w.rest.number) same;
          named = refl;
          thread = p.alike.thread;
          rest = subst (λ (w : Work). Alike code (held u ++ body_things n w.rest) (body_things n (record h1.work.rest { mutexes = make h1.work.rest.mutexes u }))) same (mutex_rest h1.work.rest u);
          untaken = free_of;
        }))

    -- THE END OF A THREAD

    module _ (number : h.work.rest.number ≡ n) where
      finishes : (u : Owned) (r : Rest) (home t : ℕ) → r.number ≡ n → Alike code (held u ++ body_things n r) (body_things n (sent_from r home (message.Finished t u)))
      finishes u r home t e =
          let m = message.Finished t u in
          let shown : Alike code (message_things home m) (held u) = beside {a = sent home m ∷ []} {b = []} (blank (sent home m) (λ p f i. i)) (result_held t u) in
          chain (beside (turned shown) (itself (body_things n r))) (sends n r e home m)

      ends_with : (b : Bool) (u : Owned) (h1 : Hand) → h1.work ≡ h.work → TakesNoneHere code h1.thread → Gives (Taken u h1) (end_with b u h1)
      ends_with true u h1 same none_of =
          let q = given_up {code = code} n (held u ++ body_things n h1.work.rest) u (working (label_all (drop_labels (value.Own u))) h1).work (ap (λ (v : Work). v.rest.number) same ∙ number) (itself (held u ++ body_things n h1.work.rest)) in record {
            number = q.number ∙ sym number;
            named = refl;
            thread = itself (thread_things n false h1.thread);
            rest = subst (λ (v : Work). Alike code (held u ++ body_things n v.rest) (body_things n (give_up u (working (label_all (drop_labels (value.Own u))) h1).work).rest)) same q.alike;
            untaken = none_of;
          }
      ends_with false u h1 same none_of =
          let r = h1.work.rest in
          let e : r.number ≡ n = ap (λ (v : Work). v.rest.number) same ∙ number in record {
            number = sent_number r h1.thread.home (message.Finished h1.thread.number u) ∙ e ∙ sym number;
            named = refl;
            thread = itself (thread_things n false h1.thread);
            rest = subst (λ (v : Work). Alike code (held u ++ body_things n v.rest) (body_things n (sent_from r h1.thread.home (message.Finished h1.thread.number u)))) same (finishes u r h1.thread.home h1.thread.number e);
            untaken = none_of;
          }

      over_now : (h2 : Hand) → TakesNoneHere code h2.thread → Together code n h2 (with_phase phase.Over h2)
      over_now h2 none_of = each_together (record {
        number = refl;
        named = refl;
        thread = thread_alike n n false false h2.thread (record h2.thread { phase = phase.Over }) [] [] (record { number = refl; taking = sym none_of; slots = λ i. refl; temps = λ i. refl }) (itself (slots_of n h2.thread)) (itself (temps_of n h2.thread)) (itself (held_if h2.thread.gift));
        rest = itself (body_things n h2.work.rest);
      })

      pub ends : (o : Operand) → Gives (λ (d : Stepped). Moved code n h d.hand) (committed (end_thread o h))
      ends o = over (then_some (pop_owned o h) (λ t. end_with (h.thread.number == 0) t.item t.hand)) (operand_given o (end_with (h.thread.number == 0)) (λ u h1 same named none_of. ends_with (h.thread.number == 0) u h1 same none_of))
        where
          over : (q : Option Hand) → Gives (Does h) q → Gives (λ (d : Stepped). Moved code n h d.hand) (committed (done_where fresh.None (option_map (with_phase phase.Over) q)))
          over None g = tt
          over (Some h2) g = settled h (with_phase phase.Over h2) fresh.None (moved_on g.moved (over_now h2 g.untaken))

      -- A DISCARD

      unseen_dropped : (v : Value) → last_of x.temps ≡ Some v → IsUnseen v → Does h (label_dropped v (with_temps (front_of x.temps) h))
      unseen_dropped v e u =
          let p = pops code n h v e u none in
          record { moved = seen (each_together (record { number = p.alike.number; named = p.alike.named; thread = p.alike.thread; rest = p.alike.rest })); untaken = none }

      dropped : (v : Value) → last_of x.temps ≡ Some v → IsNoReference v → Gives (Does h) (drop_value no_spot v (label_dropped v (with_temps (front_of x.temps) h)))
      dropped (value.Own u) e a =
          let w = (label_dropped (value.Own u) (with_temps (front_of x.temps) h)).work in
          let q = given_up {code = code} n (held u ++ body_things n h.work.rest) u w number (itself (held u ++ body_things n h.work.rest)) in record {
            moved = top_given u (working (give_up u) (label_dropped (value.Own u) (with_temps (front_of x.temps) h))) e (q.number ∙ sym number) refl (itself (thread_things n false (without (front_of x.temps)))) q.alike;
            untaken = none;
          }
      dropped (value.SharedSlot i) e a = unseen_dropped (value.SharedSlot i) e (shared_slot_unseen i)
      dropped (value.MutSlot i) e a = unseen_dropped (value.MutSlot i) e (mut_slot_unseen i)
      dropped value.Gone e a = unseen_dropped value.Gone e (record { points = refl; things = λ m p l. itself [] })
      dropped (value.Held m) e a = unseen_dropped (value.Held m) e (record { points = refl; things = λ j p l. blank (locks l m) (λ q f i. i) })
      dropped (value.Shared r) e a = absurd a
      dropped (value.Mut r) e a = absurd a

      pub discards : (v : Value) → last_of x.temps ≡ Some v → IsNoReference v → Gives (Does h) (discard no_spot h)
      discards v e a =
          subst (λ o. Gives (Does h) (then_some {X = Popped Value} (option_map (λ w. record { item = w; hand = with_temps (front_of x.temps) h }) o) (λ t. drop_value no_spot t.item (label_dropped t.item t.hand)))) (sym e) (dropped v e a)

  -- A JOIN

  module _ (h : Hand) (none : TakesNoneHere code h.thread) (number : h.work.rest.number ≡ n) where
    no_names : (u : Option ℕ) → Gives (λ (d : Stepped). d.names ≡ None) (committed (waiting (option_map (ask_join h) u)))
    no_names None = tt
    no_names (Some u) = refl

    joins_wait : (o : Operand) → Gives (λ (d : Stepped). Moved code n h d.hand) (committed (join o None h))
    joins_wait o =
        both_give (λ (d : Stepped). d.names ≡ None) (λ (d : Stepped). d.names ≡ None → HandAlike code n [] h d.hand) (λ (d : Stepped). Moved code n h d.hand) (committed (join o None h)) (no_names (then_some (pop o h) (λ t. task_of t.item)))
        (joins_ask code n o None h number none) (λ d e a. seen (each_together (a e)))

    -- the result becomes a temporary value in the place of the task
    result_taken : (v : Owned) (u : ℕ) → h.thread.gift ≡ Some v → last_of h.thread.temps ≡ Some (value.Own (owned.Task u)) → Does h (push_temp (value.Own v) (with_temps (front_of h.thread.temps) (take_gift h)))
    result_taken v u given e =
        let x : ThreadState = h.thread in
        let ts : List Value = front_of x.temps in
        let x1 : ThreadState = record x { temps = ts } in
        let z : ThreadState = record x1 { gift = None; temps = ts ++ value.Own v ∷ [] } in record {
          moved = passed x1 z refl (pops code n h (value.Own (owned.Task u)) e (task_unseen u) none).alike.thread (λ o. owns ts o (last_split x.temps (value.Own (owned.Task u)) e)) (gift_to_temp code n x1 none v given) (λ i w. blind ts i w)
              (record { number = refl; named = refl; alike = itself (thread_things n false z ++ body_things n h.work.rest) });
          untaken = none;
        }
      where
        blind : (ts : List Value) (i : ℕ) → (slot i ≡ nowhere) ⊎ (slot i ≡ temp (length ts)) → pointing (slice_get h.thread.slots i) ≡ None
        blind ts i (inl q) = absurd cc
        blind ts i (inr q) = absurd cc

        owns : (ts : List Value) (o : ObjNo) → h.thread.temps ≡ ts ++ value.Own (owned.Task u) ∷ [] → tot (owners o) (tail_of n (record h.thread { temps = ts })) ≡ tot (owners o) (tail_of n h.thread)
        owns ts o f =
            let x : ThreadState = h.thread in
            let w = owners o in
            let a = gift_things x.number x.gift ++ things_at (walk_things n) 0 x.walk ++ slots_of n x in
            let q = end_sum w (temp_things n x.number) 0 ts (value.Own (owned.Task u)) in
            let r = ap (λ vs. tot w (things_at (temp_things n x.number) 0 vs)) f in
            let b = tot-append w a (things_at (temp_things n x.number) 0 ts) in
            let c = tot-append w a (temps_of n x) in
            omega (arith, q.1, r, b, c)

    joins_take : (o : Operand) (v : Owned) → h.thread.gift ≡ Some v → Gives (Does h) (option_map (λ t. push_temp (value.Own v) t.hand) (then_some (pop o (take_gift h)) (taken_as task_of)))
    joins_take (operand.Const i) v given = tt
    joins_take operand.Unit v given = tt
    joins_take operand.Pop v given = by (last_of h.thread.temps) refl
      where
        h1 : Hand
        h1 = with_temps (front_of h.thread.temps) (take_gift h)

        as_task : (w : Value) → last_of h.thread.temps ≡ Some w → (o : Option ℕ) → task_of w ≡ o → Gives (Does h) (option_map (λ (t : Popped ℕ). push_temp (value.Own v) t.hand) (option_map (λ u. record { item = u; hand = h1 }) o))
        as_task w e None q = tt
        as_task w e (Some u) q = result_taken v u given (e ∙ ap Some (popped_task w u q))

        by : (o : Option Value) → last_of h.thread.temps ≡ o → Gives (Does h) (option_map (λ (t : Popped ℕ). push_temp (value.Own v) t.hand) (then_some {X = Popped Value} (option_map (λ w. record { item = w; hand = h1 }) o) (taken_as task_of)))
        by None e = tt
        by (Some w) e = as_task w e (task_of w) refl

    pub joins : (o : Operand) (g : Option Owned) → h.thread.gift ≡ g → Gives (λ (d : Stepped). Moved code n h d.hand) (committed (join o g h))
    joins o None e = joins_wait o
    joins o (Some v) e = goes_over h fresh.None (option_map (λ t. push_temp (value.Own v) t.hand) (then_some (pop o (take_gift h)) (taken_as task_of))) (joins_take o v e)
