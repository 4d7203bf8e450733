-- What the start of a thread or a pair does to its parent and its server, as words see it.
use Rattle.std.proofs.Common.{◌≡◌, ℕ, ◌+◌, ◌*◌, ◌^◌, ◌==◌, Bool, true, false, if◌then◌else◌, List, [], ◌∷◌, ◌++◌, Option, Some, None, option_map, refl, sym, ap, subst, ◌∙◌}
use Rattle.law_words_values.specs.Below.fr_base.Rooms.{WithRoom}
use Rattle.law_words_values.specs.Below.fr_base.declared.step.Fresh.{Fresh}
use Rattle.law_words_values.specs.Below.fr_base.declared.step.Fresh.TheVariants as fresh
use Rattle.law_words_values.specs.Below.fr_base.declared.instruction.Instr.{Instr}
use Rattle.law_words_values.specs.Below.heap_partition.declared.value.Owned.TheVariants as owned
use Rattle.law_words_values.specs.Below.join_home.Tasks.{TaskState, going, in_pair, can_begin, begin, can_begin_pair, begin_pair, noted}
use Rattle.law_words_values.specs.Below.server_msgs.declared.message.Message.{Message}
use Rattle.law_words_values.specs.Below.server_msgs.declared.message.Message.TheVariants as message
use Rattle.law_words_values.specs.Below.thread_state.View.{ThreadState, new_thread}
use Rattle.law_words_values.specs.Below.thread_state.declared.phase.Phase.TheVariants as phase
use Rattle.law_words_values.specs.Below.thread_state.declared.value.Value.{Value}
use Rattle.law_words_values.specs.Below.thread_state.declared.value.Value.TheVariants as value
use Rattle.law_words_values.specs.Below.server_model.Servers.{Rest}
use Rattle.law_words_values.specs.Below.server_model.Work.{add_waiting, sent_from, Work, Hand, with_tasks, with_slots, with_phase, push_temp, working, then_some}
use Rattle.law_words_values.specs.Below.server_model.Start.{next_thread, server_for, start_thread, capture}
use Rattle.law_words_values.specs.Below.server_model.Commit.{done_where, go_on, spawn_with, spawn, par_with, par, settle}
use Rattle.law_words_values.specs.Below.server_model.Events.{Stepped, done_step, committed}
use Rattle.law_words_values.specs.Below.coherent_memory.Things.{holds, in_slot, at_slot, sent, things_at, slot_things, task_things, thread_things, message_things}
use Rattle.law_words_values.specs.Below.law_counts_sums.Laws.{Gives}
use Rattle.law_words_values.proofs.Below.law_counts_sums.Results.{over_gives}
use Rattle.law_words_values.proofs.Below.law_counts_sums.Bags.{body_things, all_standing, sent_number}
use Rattle.law_words_values.proofs.Below.law_words_kept.stays.Alike.{Alike, itself, turned, chain, beside, joined, alone, blank, goes}
use Rattle.law_words_values.proofs.Below.law_words_kept.stays.Lists.{at_end, taken_alike}
use Rattle.law_words_values.proofs.Below.law_words_kept.stays.Servers.{held_if, note_shows, other_notes, sends}
use Rattle.law_words_values.proofs.Below.law_words_kept.stays.Threads.{slots_of, temps_of, value_alike, thread_alike}
use Rattle.law_words_values.proofs.Below.law_words_kept.stays.Sites.{HandAlike}
use Rattle.law_words_values.proofs.Below.law_words_kept.stays.Steps.{IsUnseen, TakesNoneHere, pushes, settles}
use Rattle.law_words_values.proofs.carried.Steps.{goes_next}
use Rattle.law_words_values.proofs.carried.Hands.{Together, each_together, together_chain}

-- what is sent starts no thread
sent_started : (r : Rest) (target : ℕ) (m : Message) → (sent_from r target m).started ≡ r.started
sent_started r target m = by (target == r.number)
  where
    by : (b : Bool) → (if b then add_waiting m r else record r { outbox = r.outbox ++ record { target = target; message = m } ∷ [] }).started ≡ r.started
    by true = refl
    by false = refl

-- slots at another server
slots_elsewhere : {code : List Instr} (n m t i : ℕ) (vs : List Value) → Alike code (things_at (slot_things n t) i vs) (things_at (slot_things m t) i vs)
slots_elsewhere n m t i [] = itself []
slots_elsewhere n m t i (v ∷ vs) = beside (chain (value_alike n m (in_slot t i) (at_slot t i) v) (turned (value_alike m m (in_slot t i) (at_slot t i) v))) (slots_elsewhere n m t (i + 1) vs)

module _ (code : List Instr) (n : ℕ) where
  -- a new thread goes to its server
  start_sends : (servers pc : ℕ) (new : List Value) (w : Work) → w.rest.number ≡ n → Alike code (thread_things n false (new_thread (next_thread w.rest) pc new) ++ body_things n w.rest) (body_things n (start_thread servers pc new w).rest)
  start_sends servers pc new w number =
      let u = new_thread (next_thread w.rest) pc new in
      let target = server_for servers w.rest in
      let msg = message.Start u in
      let r = record w.rest { started = w.rest.started + 1 } in
      let packed : Alike code (thread_things n false u) (thread_things target true u) = thread_alike n target false true u u [] [] (record { number = refl; taking = refl; slots = λ i. refl; temps = λ i. refl }) (slots_elsewhere n target u.number 0 new) (itself []) (itself []) in
      let shown : Alike code (thread_things n false u) (message_things target msg) = beside {a = []} {b = sent target msg ∷ []} (turned (blank (sent target msg) (λ p e i. i))) packed in
      chain (beside shown (itself (body_things n w.rest))) (sends n r number target msg)

  start_number : (servers pc : ℕ) (new : List Value) (w : Work) → (start_thread servers pc new w).rest.number ≡ w.rest.number
  start_number servers pc new w = sent_number (record w.rest { started = w.rest.started + 1 }) (server_for servers w.rest) (message.Start (new_thread (next_thread w.rest) pc new))

  -- a note without a result
  note_comes : (r : Rest) (t : ℕ) (s : TaskState) → Alike code (task_things n 0 (record { thread = t; state = s })) [] → Alike code (body_things n r) (body_things n (record r { tasks = noted r.tasks t s }))
  note_comes r t s unseen =
      other_notes n r (noted r.tasks t s) [] [] (turned (chain (taken_alike (task_things n 0) 0 0 (at_end r.tasks (record { thread = t; state = s }))) (goes unseen)))

  -- what is started comes from these captures, and words see the same of all else: the parent with the slots that are left, and the new threads
  pub record Started (h : Hand) (vs : List Value) (us : List ThreadState) (h2 : Hand) : Type 0 where
    pub number : h2.work.rest.number ≡ n
    pub named : h2.thread.number ≡ h.thread.number
    pub alike : Alike code (thread_things n false (record h.thread { slots = vs; gift = None }) ++ (all_standing n us ++ body_things n h.work.rest)) (thread_things n false h2.thread ++ body_things n h2.work.rest)

  started_on : {h : Hand} {vs : List Value} {us : List ThreadState} {h2 h3 : Hand} → Started h vs us h2 → Together code n h2 h3 → Started h vs us h3
  started_on s t = record { number = t.number ∙ s.number; named = t.named ∙ s.named; alike = chain s.alike t.alike }

  -- A THREAD

  pub record SpawnedBy (cs : List (ℕ × Bool)) (pc : ℕ) (h h2 : Hand) : Type 0 where
    pub left : List Value × List Value
    pub captures : capture false cs h.thread.slots ≡ Some left
    pub started : Started h left.1 (new_thread (next_thread h.work.rest) pc left.0 ∷ []) h2

  module _ (h : Hand) (number : h.work.rest.number ≡ n) (none : TakesNoneHere code h.thread) (free : h.thread.gift ≡ None) where
    abbrev y : ThreadState
    y = h.thread

    -- without a gift, as it has none
    ungiven : (vs : List Value) → Alike code (thread_things n false (record y { slots = vs; gift = None })) (thread_things n false (record y { slots = vs }))
    ungiven vs =
        thread_alike n n false false (record y { slots = vs; gift = None }) (record y { slots = vs }) [] [] (record { number = refl; taking = refl; slots = λ i. refl; temps = λ i. refl }) (itself (slots_of n (record y { slots = vs }))) (itself (temps_of n y))
        (subst (λ g. Alike code [] (held_if g)) (sym free) (itself []))

    task_value : (u : ℕ) → IsUnseen (value.Own (owned.Task u))
    task_value u = record { points = refl; things = λ m p l. blank (holds p (owned.Task u)) (λ q x i. i) }

    spawned : (servers : ℕ) (cs : List (ℕ × Bool)) (pc : ℕ) (q : List Value × List Value) → capture false cs y.slots ≡ Some q → Gives (λ (h2 : Hand). SpawnedBy cs pc h h2 × TakesNoneHere code h2.thread) (spawn_with servers pc (next_thread h.work.rest) h q)
    spawned servers cs pc q e = by (can_begin h.work.rest.tasks (next_thread h.work.rest))
      where
        u : ℕ
        u = next_thread h.work.rest

        w : Work
        w = with_tasks (begin h.work.rest.tasks u) h.work

        h1 : Hand
        h1 = record { work = start_thread servers pc q.0 w; thread = record y { slots = q.1 } }

        x : ThreadState
        x = new_thread u pc q.0

        rests : Alike code (thread_things n false x ++ [] ++ body_things n h.work.rest) (body_things n h1.work.rest)
        rests = chain (beside (alone (thread_things n false x)) (note_comes h.work.rest u going (note_shows n 0 (record { thread = u; state = going })))) (start_sends servers pc q.0 w number)

        first : Started h q.1 (x ∷ []) h1
        first = record { number = start_number servers pc q.0 w ∙ number; named = refl; alike = beside (ungiven q.1) rests }

        by : (b : Bool) → Gives (λ (h2 : Hand). SpawnedBy cs pc h h2 × TakesNoneHere code h2.thread) (option_map (λ h2. push_temp (value.Own (owned.Task u)) (working (start_thread servers pc q.0) (with_slots q.1 h2))) (if b then Some (working (with_tasks (begin h.work.rest.tasks u)) h) else None))
        by false = tt
        by true = let p = pushes code n h1 (value.Own (owned.Task u)) (task_value u) none in (record { left = q; captures = e; started = started_on first (each_together p.alike) }, p.untaken)

    pub spawns_start : (servers : ℕ) (cs : WithRoom (ℕ × Bool)) (pc : ℕ) → Gives (λ (d : Stepped). SpawnedBy cs.items pc h d.hand) (committed (spawn servers cs pc h))
    spawns_start servers cs pc = by (capture false cs.items y.slots) refl
      where
        over : (o : Option Hand) → Gives (λ (h2 : Hand). SpawnedBy cs.items pc h h2 × TakesNoneHere code h2.thread) o → Gives (λ (d : Stepped). SpawnedBy cs.items pc h d.hand) (committed (done_where (fresh.Thread (next_thread h.work.rest)) (option_map go_on o)))
        over None g = tt
        over (Some h2) g =
            over_gives (HandAlike code n [] (go_on h2)) (λ (d : Stepped). SpawnedBy cs.items pc h d.hand) (settle (go_on h2)) (done_step (fresh.Thread (next_thread h.work.rest))) (settles code n (go_on h2))
            (λ h3 a. record { left = g.0.left; captures = g.0.captures; started = started_on g.0.started (together_chain (goes_next code n h2 g.1) (each_together a)) })

        by : (o : Option (List Value × List Value)) → capture false cs.items y.slots ≡ o → Gives (λ (d : Stepped). SpawnedBy cs.items pc h d.hand) (committed (done_where (fresh.Thread (next_thread h.work.rest)) (option_map go_on (then_some o (spawn_with servers pc (next_thread h.work.rest) h)))))
        by None e = tt
        by (Some q) e = over (spawn_with servers pc (next_thread h.work.rest) h q) (spawned servers cs.items pc q e)

    -- A PAIR

    pub record PairedBy (cs ds : List (ℕ × Bool)) (pc other : ℕ) (h2 : Hand) : Type 0 where
      pub first : List Value × List Value
      pub second : List Value × List Value
      pub captures : capture true cs y.slots ≡ Some first
      pub then_captures : capture true ds first.1 ≡ Some second
      pub started : Started h second.1 (new_thread (next_thread (record h.work.rest { started = h.work.rest.started + 1 })) other second.0 ∷ new_thread (next_thread h.work.rest) pc first.0 ∷ []) h2

    paired : (servers : ℕ) (cs ds : List (ℕ × Bool)) (pc other : ℕ) (f g : List Value × List Value) → capture true cs y.slots ≡ Some f → capture true ds f.1 ≡ Some g
        → Gives (PairedBy cs ds pc other) (par_with servers pc other (next_thread h.work.rest) (next_thread h.work.rest + 1) h f.0 g)
    paired servers cs ds pc other f g e e2 = by (can_begin_pair h.work.rest.tasks y.number a b)
      where
        a : ℕ
        a = next_thread h.work.rest

        b : ℕ
        b = next_thread h.work.rest + 1

        r1 : Rest
        r1 = record h.work.rest { tasks = noted h.work.rest.tasks a (in_pair y.number false) }

        w : Work
        w = with_tasks (begin_pair h.work.rest.tasks y.number a b) h.work

        w2 : Work
        w2 = start_thread servers pc f.0 w

        h1 : Hand
        h1 = record { work = start_thread servers other g.0 w2; thread = record y { slots = g.1 } }

        x1 : ThreadState
        x1 = new_thread a pc f.0

        x2 : ThreadState
        x2 = new_thread (next_thread w2.rest) other g.0

        notes : Alike code (body_things n h.work.rest) (body_things n w.rest)
        notes = chain (note_comes h.work.rest a (in_pair y.number false) (note_shows n 0 (record { thread = a; state = in_pair y.number false }))) (note_comes r1 b (in_pair y.number false) (note_shows n 0 (record { thread = b; state = in_pair y.number false })))

        rests : Alike code (thread_things n false x2 ++ (thread_things n false x1 ++ []) ++ body_things n h.work.rest) (body_things n h1.work.rest)
        rests =
            chain (beside (beside (itself (thread_things n false x2)) (alone (thread_things n false x1))) notes)
            (chain (turned (joined (thread_things n false x2) (thread_things n false x1) (body_things n w.rest)))
            (chain (beside (itself (thread_things n false x2)) (start_sends servers pc f.0 w number)) (start_sends servers other g.0 w2 (start_number servers pc f.0 w ∙ number))))

        first : Started h g.1 (x2 ∷ x1 ∷ []) h1
        first = record { number = start_number servers other g.0 w2 ∙ start_number servers pc f.0 w ∙ number; named = refl; alike = beside (ungiven g.1) rests }

        -- its numbers are those that the messages have
        waits : Together code n h1 (with_phase (phase.WaitPar a b) (go_on h1))
        waits = each_together (record {
          number = refl;
          named = refl;
          thread = thread_alike n n false false h1.thread (with_phase (phase.WaitPar a b) (go_on h1)).thread [] [] (record { number = refl; taking = sym none; slots = λ i. refl; temps = λ i. refl }) (itself (slots_of n h1.thread)) (itself (temps_of n h1.thread)) (itself (held_if h1.thread.gift));
          rest = itself (body_things n h1.work.rest);
        })

        by : (c : Bool) → Gives (PairedBy cs ds pc other)
            (option_map (λ h2. with_phase (phase.WaitPar a b) (go_on (working (λ v. start_thread servers other g.0 (start_thread servers pc f.0 v)) (with_slots g.1 h2)))) (if c then Some (working (with_tasks (begin_pair h.work.rest.tasks y.number a b)) h) else None))
        by false = tt
        by true = record { first = f; second = g; captures = e; then_captures = e2; started = started_on (subst (λ m. Started h g.1 (new_thread m other g.0 ∷ x1 ∷ []) h1) second_number first) waits }
          where
            second_number : next_thread w2.rest ≡ next_thread (record h.work.rest { started = h.work.rest.started + 1 })
            second_number =
                let r = record w.rest { started = w.rest.started + 1 } in
                ap (λ m. m * 2 ^ 32 + (w2.rest.started + 1)) (start_number servers pc f.0 w) ∙ ap (λ c. w.rest.number * 2 ^ 32 + (c + 1)) (sent_started r (server_for servers w.rest) (message.Start x1))

    pub pars_start : (servers : ℕ) (cs : WithRoom (ℕ × Bool)) (pc : ℕ) (ds : WithRoom (ℕ × Bool)) (other : ℕ) → Gives (λ (d : Stepped). PairedBy cs.items ds.items pc other d.hand) (committed (par servers cs pc ds other h))
    pars_start servers cs pc ds other = by (capture true cs.items y.slots) refl
      where
        names : Fresh
        names = fresh.Threads (next_thread h.work.rest) (next_thread h.work.rest + 1)

        over : (o : Option Hand) → Gives (PairedBy cs.items ds.items pc other) o → Gives (λ (d : Stepped). PairedBy cs.items ds.items pc other d.hand) (committed (done_where names o))
        over None g = tt
        over (Some h2) g =
            over_gives (HandAlike code n [] h2) (λ (d : Stepped). PairedBy cs.items ds.items pc other d.hand) (settle h2) (done_step names) (settles code n h2)
            (λ h3 a. record { first = g.first; second = g.second; captures = g.captures; then_captures = g.then_captures; started = started_on g.started (each_together a) })

        second : (f : List Value × List Value) → capture true cs.items y.slots ≡ Some f → (o : Option (List Value × List Value)) → capture true ds.items f.1 ≡ o
            → Gives (λ (d : Stepped). PairedBy cs.items ds.items pc other d.hand) (committed (done_where names (then_some o (par_with servers pc other (next_thread h.work.rest) (next_thread h.work.rest + 1) h f.0))))
        second f e None e2 = tt
        second f e (Some g) e2 = over (par_with servers pc other (next_thread h.work.rest) (next_thread h.work.rest + 1) h f.0 g) (paired servers cs.items ds.items pc other f g e e2)

        by : (o : Option (List Value × List Value)) → capture true cs.items y.slots ≡ o
            → Gives (λ (d : Stepped). PairedBy cs.items ds.items pc other d.hand) (committed (done_where names (then_some o (λ f. then_some (capture true ds.items f.1) (par_with servers pc other (next_thread h.work.rest) (next_thread h.work.rest + 1) h f.0)))))
        by None e = tt
        by (Some f) e = second f e (capture true ds.items f.1) refl
