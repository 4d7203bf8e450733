-- In a quiet cluster the thread that is joined goes on, and so does one of a pair that is waited for.
use Rattle.std.proofs.Common.{◌≡◌, ◌⊎◌, inl, inr, ℕ, zero, suc, ◌+◌, ◌≤◌, ◌==◌, ◌&&◌, not, Bool, true, false, if◌then◌else◌, List, [], ◌∷◌, Option, Some, None, refl, sym, ap, ap₂, subst, ◌∙◌, arith}
use Rattle.std.specs.Prelude.{slice_get}
use Rattle.std.proofs.lemmas.Bool.Decides.{nat_tests}
use Rattle.law_runs_whole.specs.Below.fr_base.declared.name.MutexNo.{MutexNo}
use Rattle.law_runs_whole.specs.Below.fr_base.declared.instruction.Instr.{Instr}
use Rattle.law_runs_whole.specs.Below.fr_base.declared.instruction.Instr.TheVariants as instr
use Rattle.law_runs_whole.specs.Below.fr_base.declared.instruction.Operand.{Operand}
use Rattle.law_runs_whole.specs.Below.fr_base.declared.instruction.Operand.TheVariants as operand
use Rattle.law_runs_whole.specs.Below.fr_base.declared.label.Plain.TheVariants as plain
use Rattle.law_runs_whole.specs.Below.fr_base.declared.step.Wait.{Wait}
use Rattle.law_runs_whole.specs.Below.fr_base.declared.step.Wait.TheVariants as wait
use Rattle.law_runs_whole.specs.Below.fr_plain.declared.value.Value.{Value as PlainValue}
use Rattle.law_runs_whole.specs.Below.fr_plain.declared.value.Value.TheVariants as plain_v
use Rattle.law_runs_whole.specs.Below.fr_plain.Machine.{unless_some, unless_both, pair_waits}
use Rattle.law_runs_whole.specs.Below.fr_plain.MachineActs.{do_join, do_par_end}
use Rattle.law_runs_whole.specs.Below.fr_plain.MachineThreads.{result_at, pair_of}
use Rattle.law_runs_whole.specs.Below.fr_plain.PlainState.{SameState, plain_state, is_over_in, two_of}
use Rattle.law_runs_whole.specs.Below.fr_code.Machine.{CodeWhole}
use Rattle.law_runs_whole.specs.Below.fr_code.Steps as ends
use Rattle.law_runs_whole.specs.Below.fr_code.Steps.{Place, CodeMove, with_operand, loud, run_instr}
use Rattle.law_runs_whole.specs.Below.thread_state.View.{ThreadState, is_over}
use Rattle.law_runs_whole.specs.Below.thread_state.declared.phase.Phase.{Phase}
use Rattle.law_runs_whole.specs.Below.thread_state.declared.phase.Phase.TheVariants as phase
use Rattle.law_runs_whole.specs.Below.thread_state.declared.value.Value.{Value}
use Rattle.law_runs_whole.specs.Below.thread_state.declared.value.Value.TheVariants as value
use Rattle.law_runs_whole.specs.Below.heap_partition.declared.value.Owned.TheVariants as owned
use Rattle.law_runs_whole.specs.Below.join_home.Tasks.{Task, TaskState, let_go, kept, asked, in_pair}
use Rattle.law_runs_whole.specs.Below.join_home.Tasks as tasks
use Rattle.law_runs_whole.specs.Below.server_model.Servers.{Cluster}
use Rattle.law_runs_whole.specs.Below.server_model.Work.{last_of, front_of}
use Rattle.law_runs_whole.specs.Below.drive_model.Ending.{no_message}
use Rattle.law_runs_whole.specs.Below.coherent_memory.Names.{tot, one, some, if_so, Among}
use Rattle.law_runs_whole.specs.Below.coherent_memory.Things.{Thing, sent, stands, queued, noted, things_of}
use Rattle.law_runs_whole.specs.Below.coherent_memory.Follow.{Standing, threads_in, thread_at}
use Rattle.law_runs_whole.specs.Below.coherent_memory.Sight.{sight}
use Rattle.law_runs_whole.specs.Below.coherent_memory.Paths.{popped, task_in, joined_thread}
use Rattle.law_runs_whole.specs.Below.coherent_memory.Requests.{waits, halves, halves_to, halves_needed, noted_answer, is_lock, is_join, is_par, is_task, in_phase, phase_fits, note_carries, carries, stands_wrong, is_par_end, same_truth, par_end, Branch, half_noted, half_over, branch_places, pair_notes, pair_places, over_at, both_over}
use Rattle.law_runs_whole.specs.Below.coherent_memory.Sharing.{going_on, going_notes, goes_on}
use Rattle.law_runs_whole.specs.Below.coherent_memory.OneHeap.{one_heap, running_at, two_in}
use Rattle.law_runs_whole.specs.Below.coherent_memory.OneHeap as cluster
use Rattle.law_runs_whole.proofs.Below.coherent_memory.Names.{and_left, and_right, same_number}
use Rattle.law_runs_coherent.specs.Below.coherent_types.ClusterTypes.{IsCoherent}
use Rattle.law_runs_coherent.specs.Below.law_heap_steps.Below.law_words_paths.paths.HeapStore.{GoesOn}
use Rattle.law_runs_coherent.proofs.Below.law_heap_steps.Below.law_words_paths.paths.Contained.{among_thread}
use Rattle.law_runs_coherent.proofs.Below.law_heap_steps.Below.law_words_paths.paths.Forms.{none_of}
use Rattle.law_runs_whole.proofs.Below.law_counts_sums.Values.{last_split}
use Rattle.law_runs_coherent.proofs.Below.law_heap_steps.turns.PlainTurn.{goes_as}
use Rattle.law_runs_coherent.proofs.Below.law_heap_steps.turns.Instructions.{shown_last, shown_push}
use Rattle.law_runs_coherent.proofs.Below.law_heap_steps.threads.PlainPairs.{by_pair}
use Rattle.law_runs_whole.proofs.ends.Weighing.{weighs, some_weighs, truly, in_such, not_both}
use Rattle.law_runs_whole.proofs.ends.Servers.{other_so}
use Rattle.law_runs_whole.proofs.ends.Going.{sends, servers_silent, parents_wait, if_weighs, one_weighs}
use Rattle.law_runs_whole.specs.waits.Waits.{plain_wait, JoinsWait, PairsWait}
use Rattle.law_runs_whole.proofs.waits.Plain.{way, there, no_result, waits_as}

same_is : (n : ℕ) → (n == n) ≡ true
same_is n = grind (arith, nat_tests)

both : (a b : Bool) → a ≡ true → b ≡ true → a && b ≡ true
both true true q w = refl
both true false q w = w
both false b q w = absurd (cc q)

one_is : (c : Bool) → c ≡ true → one c ≡ 1
one_is true q = refl
one_is false q = absurd (cc q)

not_so : (b : Bool) → not b ≡ true → b ≡ false
not_so true e = absurd (cc e)
not_so false e = refl

-- THREADS AMONG THINGS

thread_weighs : (f : Thing → ℕ) (x : Standing) (b : List Thing) → Among x (threads_in b) → f (stands x.server x.packed x.thread) ≤ tot f b
thread_weighs f x [] h = absurd h
thread_weighs f x (stands r p y ∷ b) (inl e) = subst (λ (z : Standing). f (stands z.server z.packed z.thread) ≤ f (stands r p y) + tot f b) e (omega arith)
thread_weighs f x (stands r p y ∷ b) (inr h) = omega (arith, thread_weighs f x b h)
thread_weighs f x (_ ∷ b) h = omega (arith, thread_weighs f x b h)

thread_among : (r : ℕ) (p : Bool) (y : ThreadState) (b : List Thing) → Among (stands r p y) b → Among (record { server = r; packed = p; thread = y }) (threads_in b)
thread_among r p y [] h = absurd h
thread_among r p y (z ∷ b) (inl e) = subst (λ (w : Thing). Among (record { server = r; packed = p; thread = y }) (threads_in (w ∷ b))) (sym e) (inl refl)
thread_among r p y (stands q o z ∷ b) (inr h) = inr (thread_among r p y b h)
thread_among r p y (_ ∷ b) (inr h) = thread_among r p y b h

-- PHASES

abbrev joins : Phase → Bool
joins (phase.WaitJoin u) = true
joins p = false

no_par : (p : Phase) → joins p ≡ true → is_par p ≡ true → ⊥
no_par (phase.WaitPar a b) e q = absurd (cc e)
no_par (phase.GotPar a b) e q = absurd (cc e)
no_par p e q = absurd (cc q)

no_lock : (m : MutexNo) (p : Phase) → joins p ≡ true → is_lock m p ≡ true → ⊥
no_lock m (phase.WaitLock n) e q = absurd (cc e)
no_lock m p e q = absurd (cc q)

-- IN A QUIET CLUSTER

module _ (k : Cluster) (co : IsCoherent k) (quiet : no_message k.servers ≡ true) where
  abbrev b : List Thing
  b = things_of k

  none_breaks : (f : Thing → ℕ) (x : Thing) → tot f b ≡ 0 → Among x b → f x ≡ 0
  none_breaks f x z h = omega (arith, weighs f x b h, z)

  -- a thread of that number that goes on
  record IsOnItsWay (u : ℕ) : Type 0 where
    pub it : Standing
    pub number : it.thread.number ≡ u
    pub goes : GoesOn k it

  -- of whom a note says that it goes on
  on_its_way : (r u : ℕ) (y : Task) → Among (noted r y) b → y.thread ≡ u → going_on y.state ≡ true → IsOnItsWay u
  on_its_way r u y h e g =
      let note : going_notes u (noted r y) ≡ 1 = one_is ((y.thread == u) && going_on y.state) (both (y.thread == u) (going_on y.state) (subst (λ n. (y.thread == n) ≡ true) e (same_is y.thread)) g) in
      let w = some_weighs (goes_on u) b (omega (arith, weighs (going_notes u) (noted r y) b h, note, co.sound.mutexes_and_tasks.noted_go_on u)) in
      by w.item w.there w.weight
    where
      by : (x : Thing) → Among x b → 1 ≤ goes_on u x → IsOnItsWay u
      by (stands q p z) h l =
          let t : (z.number == u) && (not (z.number == 0) && not (is_over z.phase)) ≡ true = truly ((z.number == u) && (not (z.number == 0) && not (is_over z.phase))) l in
          let rest = and_right (z.number == u) (not (z.number == 0) && not (is_over z.phase)) t in record {
            it = record { server = q; packed = p; thread = z };
            number = same_number z.number u (and_left (z.number == u) (not (z.number == 0) && not (is_over z.phase)) t);
            goes = record { among = thread_among q p z b h; going = not_so (is_over z.phase) (and_right (not (z.number == 0)) (not (is_over z.phase)) rest) };
          }
      by (sent q m) h l = absurd (omega (arith, none_breaks sends (sent q m) (servers_silent k.servers quiet) h))
      by _ h l = absurd (omega (arith, l))

  module _ (c : CodeWhole) (same : SameState (plain_state c) (one_heap k)) where
    -- it has no result on the plain machine
    unended : (u : ℕ) → IsOnItsWay u → result_at c.threads u ≡ None
    unended u w = subst (λ n. result_at c.threads n ≡ None) w.number (no_result k co c same w.it w.goes)

    module _ (x : Standing) (among : Among x (sight k).ground.threads) (found : thread_at (sight k).ground.threads x.thread.number ≡ Some x) where
      abbrev t : ℕ
      t = x.thread.number

      abbrev pc : ℕ
      pc = x.thread.pc

      abbrev temps : List PlainValue
      temps = shown_last x.thread.temps

      -- JOINS

      module _ (u : ℕ) (joined : x.thread.phase ≡ phase.WaitJoin u) where
        goes : GoesOn k x
        goes = record { among = among; going = ap is_over joined }

        such : in_such joins t (stands x.server x.packed x.thread) ≡ 1
        such = one_is ((t == t) && joins x.thread.phase) (both (t == t) (joins x.thread.phase) (same_is t) (ap joins joined))

        one_such : 1 ≤ tot (in_such joins t) b
        one_such = omega (arith, thread_weighs (in_such joins t) x b among, such)

        needed : 2 ≤ tot (halves_needed t) b
        needed =
            let mine : halves_needed t (stands x.server x.packed x.thread) ≡ 2 = ap (λ d. if_so d 2) (both (t == t) (waits x.thread.phase) (same_is t) (ap waits joined)) in
            omega (arith, thread_weighs (halves_needed t) x b among, mine)

        in_its_phase : (f : Phase → Bool) (v : ℕ) → v ≡ t → phase_fits (sight k) v f ≡ 0 → f (phase.WaitJoin u) ≡ true
        in_its_phase f v e z =
            let fits : in_phase f (thread_at (sight k).ground.threads t) ≡ true = subst (λ n. in_phase f (thread_at (sight k).ground.threads n) ≡ true) e (other_so (in_phase f (thread_at (sight k).ground.threads v)) z) in
            sym (ap f joined) ∙ sym (ap (in_phase f) found) ∙ fits

        by_note : (r : ℕ) (y : Task) (s : TaskState) → y.state ≡ s → Among (noted r y) b → 1 ≤ halves t (noted_answer s) → note_carries (sight k) y.thread s ≡ 0 → IsOnItsWay u
        by_note r y (asked q v) e h l z = on_its_way r u y h (same_number y.thread u (in_its_phase (is_join y.thread) v (if_weighs t v 2 l) z)) (ap going_on e)
        by_note r y (in_pair p o) e h l z =
            let d : Branch = record { server = r; parent = p; thread = y.thread } in
            let state : half_noted y.state p ≡ true = subst (λ s. half_noted s p ≡ true) (sym e) (same_is p) in
            let note : pair_notes d (noted r y) ≡ 1 = one_is ((r == r && y.thread == y.thread) && half_noted y.state p) (both (r == r && y.thread == y.thread) (half_noted y.state p) (both (r == r) (y.thread == y.thread) (same_is r) (same_is y.thread)) state) in
            let places : 1 ≤ tot (pair_places d) b = omega (arith, weighs (pair_notes d) (noted r y) b h, note, co.sound.requests.pairs_noted d) in
            let parent : 1 ≤ tot (in_such is_par p) b = omega (arith, places, parents_wait d b) in
            absurd (not_both t joins is_par no_par b (co.sound.names.numbers_differ t) one_such (subst (λ n. 1 ≤ tot (in_such is_par n) b) (one_weighs t p l) parent))
        by_note r y tasks.going e h l z = absurd (omega (arith, l))
        by_note r y let_go e h l z = absurd (omega (arith, l))
        by_note r y (kept v) e h l z = absurd (omega (arith, l))

        by_answer : (w : Thing) → Among w b → 1 ≤ halves_to t w → IsOnItsWay u
        by_answer (sent r m) h l = absurd (omega (arith, none_breaks sends (sent r m) (servers_silent k.servers quiet) h))
        by_answer (queued m r v) h l = absurd (cc (in_its_phase (is_lock m) v (if_weighs t v 2 l) (none_breaks (carries (sight k)) (queued m r v) co.sound.requests.carry_what_is_asked h)))
        by_answer (noted r y) h l = by_note r y y.state refl h l (none_breaks (carries (sight k)) (noted r y) co.sound.requests.carry_what_is_asked h)
        by_answer _ h l = absurd (omega (arith, l))

        goes_too : IsOnItsWay u
        goes_too = let w = some_weighs (halves_to t) b (omega (arith, needed, co.sound.requests.one_answer t)) in by_answer w.item w.there w.weight

        -- the operand of the join is the task
        stands_so : is_task u (joined_thread (slice_get k.code pc) x.thread) ≡ true
        stands_so =
            let none = none_of (λ y. stands_wrong (sight k) y y.thread.phase) x (sight k).ground.threads co.sound.requests.phases_stand among in
            other_so (is_task u (joined_thread (slice_get k.code pc) x.thread)) (sym (ap (stands_wrong (sight k) x) joined) ∙ none)

        task_is : (o : Option Value) → is_task u (task_in o) ≡ true → o ≡ Some (value.Own (owned.Task u))
        task_is (Some (value.Own (owned.Task v))) e = ap (λ n. Some (value.Own (owned.Task n))) (sym (same_number u v e))
        task_is o e = absurd (cc e)

        takes : (o : Operand) → is_task u (task_in (popped o x.thread.temps)) ≡ true → (go : PlainValue → List PlainValue → Option CodeMove) → with_operand o temps go ≡ go (plain_v.Own (plain.Task u)) (shown_last (front_of x.thread.temps))
        takes operand.Pop e go =
            let last = task_is (last_of x.thread.temps) e in
            ap (λ l. with_operand operand.Pop l go) (ap shown_last (last_split x.thread.temps (value.Own (owned.Task u)) last) ∙ shown_push (front_of x.thread.temps) (value.Own (owned.Task u)))
        takes o e go = absurd (cc e)

        join_waits_so : plain_wait k.code c t ≡ Some (wait.Join u)
        join_waits_so = by (slice_get k.code pc) refl stands_so
          where
            by : (j : Option Instr) → slice_get k.code pc ≡ j → is_task u (joined_thread j x.thread) ≡ true → plain_wait k.code c t ≡ Some (wait.Join u)
            by (Some (instr.Join o)) q e =
                waits_as k co c same x goes (do_join (plain_v.Own (plain.Task u))) (λ v. record { pc = pc + 1; temps = v ∷ shown_last (front_of x.thread.temps) }) (ap (λ j. ends.over_at j temps) q)
                (ap (λ j. run_instr j pc temps) q ∙ takes o e (λ v us. loud (pc + 1) us (do_join v))) ∙ ap (λ r. unless_some r (wait.Join u)) (unended u goes_too)
            by j q e = absurd (cc e)

      -- THE ENDS OF PAIRS

      module _ (a z : ℕ) (paired : x.thread.phase ≡ phase.WaitPar a z) where
        at_pair : GoesOn k x
        at_pair = record { among = among; going = ap is_over paired }

        -- a branch of it is noted at its server
        record IsNoted (u : ℕ) : Type 0 where
          pub note : Task
          pub there_it_is : Among (noted x.server note) b
          pub named : note.thread ≡ u
          pub half : half_noted note.state t ≡ true

        noted_so : (u : ℕ) → 1 ≤ branch_places u (phase.WaitPar a z) → IsNoted u
        noted_so u l =
            let d : Branch = record { server = x.server; parent = t; thread = u } in
            let mine : pair_places d (stands x.server x.packed x.thread) ≡ branch_places u (phase.WaitPar a z) = ap (λ e. if_so e (branch_places u x.thread.phase)) (both (x.server == x.server) (t == t) (same_is x.server) (same_is t)) ∙ ap (branch_places u) paired in
            let w = some_weighs (pair_notes d) b (omega (arith, thread_weighs (pair_places d) x b among, mine, l, co.sound.requests.pairs_noted d)) in
            by w.item w.there w.weight
          where
            by : (w : Thing) → Among w b → 1 ≤ pair_notes (record { server = x.server; parent = t; thread = u }) w → IsNoted u
            by (noted r y) h l =
                let all = truly ((r == x.server && y.thread == u) && half_noted y.state t) l in
                let front = and_left (r == x.server && y.thread == u) (half_noted y.state t) all in record {
                  note = y;
                  there_it_is = subst (λ n. Among (noted n y) b) (same_number r x.server (and_left (r == x.server) (y.thread == u) front)) h;
                  named = same_number y.thread u (and_right (r == x.server) (y.thread == u) front);
                  half = and_right (r == x.server && y.thread == u) (half_noted y.state t) all;
                }
            by _ h l = absurd (omega (arith, l))

        -- it goes on, or it is noted as over
        either : (u : ℕ) → IsNoted u → (1 ≤ tot (over_at x.server u) b) ⊎ IsOnItsWay u
        either u n = by n.note.state refl
          where
            by : (s : TaskState) → n.note.state ≡ s → (1 ≤ tot (over_at x.server u) b) ⊎ IsOnItsWay u
            by (in_pair p true) e =
                let mine : over_at x.server u (noted x.server n.note) ≡ 1 = one_is ((x.server == x.server && n.note.thread == u) && half_over n.note.state) (both (x.server == x.server && n.note.thread == u) (half_over n.note.state) (both (x.server == x.server) (n.note.thread == u) (same_is x.server) (subst (λ m. (n.note.thread == m) ≡ true) n.named (same_is n.note.thread))) (ap half_over e)) in
                inl (omega (arith, weighs (over_at x.server u) (noted x.server n.note) b n.there_it_is, mine))
            by (in_pair p false) e = inr (on_its_way x.server u n.note n.there_it_is n.named (ap going_on e))
            by tasks.going e = absurd (cc (sym (ap (λ s. half_noted s t) e) ∙ n.half))
            by let_go e = absurd (cc (sym (ap (λ s. half_noted s t) e) ∙ n.half))
            by (kept v) e = absurd (cc (sym (ap (λ s. half_noted s t) e) ∙ n.half))
            by (asked q v) e = absurd (cc (sym (ap (λ s. half_noted s t) e) ∙ n.half))

        -- one of them goes on
        one_goes : IsOnItsWay a ⊎ IsOnItsWay z
        one_goes = by (either a (noted_so a first)) (either z (noted_so z second))
          where
            first : 1 ≤ branch_places a (phase.WaitPar a z)
            first = let w = one_is (a == a) (same_is a) in omega (arith, w)

            second : 1 ≤ branch_places z (phase.WaitPar a z)
            second = let w = one_is (z == z) (same_is z) in omega (arith, w)

            some_so : (n : ℕ) → 1 ≤ n → some n ≡ true
            some_so zero l = absurd (omega (arith, l))
            some_so (suc n) l = refl

            over_both : some (tot (over_at x.server a) b) ≡ true → some (tot (over_at x.server z) b) ≡ true → ⊥
            over_both e q =
                let none = none_of (λ y. both_over (sight k) y y.thread.phase) x (sight k).ground.threads co.sound.requests.pairs_go_on among in
                let so = other_so (not (a == z) && not (some (tot (over_at x.server a) b) && some (tot (over_at x.server z) b))) (sym (ap (both_over (sight k) x) paired) ∙ none) in
                let twice = and_right (not (a == z)) (not (some (tot (over_at x.server a) b) && some (tot (over_at x.server z) b))) so in
                absurd (cc (sym (ap not (both (some (tot (over_at x.server a) b)) (some (tot (over_at x.server z) b)) e q)) ∙ twice))

            by : (1 ≤ tot (over_at x.server a) b) ⊎ IsOnItsWay a → (1 ≤ tot (over_at x.server z) b) ⊎ IsOnItsWay z → IsOnItsWay a ⊎ IsOnItsWay z
            by (inr g) h = inl g
            by (inl l) (inr g) = inr g
            by (inl l) (inl m) = absurd (over_both (some_so (tot (over_at x.server a) b) l) (some_so (tot (over_at x.server z) b) m))

        -- it stands at the end of its pair
        at_end : is_par_end (slice_get k.code pc) ≡ true
        at_end =
            let none = none_of (par_end (sight k)) x (sight k).ground.threads co.sound.requests.par_ends among in
            same_so (is_par_end (slice_get k.code pc)) (is_par x.thread.phase) (ap is_par paired) (other_so (same_truth (is_par_end (slice_get k.code pc)) (is_par x.thread.phase)) none)
          where
            same_so : (p q : Bool) → q ≡ true → same_truth p q ≡ true → p ≡ true
            same_so true q e h = refl
            same_so false true e h = absurd (cc h)
            same_so false false e h = absurd (cc e)

        pair_there : two_of (pair_of c.pairs t) ≡ Some (a, z)
        pair_there =
            sym (ap (λ r. if r then None else two_of (pair_of c.pairs t)) (ap is_over_in (there k co c same x at_pair) ∙ goes_as (way k co c same x at_pair) (running_at x.thread).place)) ∙ same.pairs t ∙ ap cluster.pair_of found ∙ ap two_in paired

        unless_one : (r q : Option PlainValue) (w : Wait) → (r ≡ None) ⊎ (q ≡ None) → unless_both r q w ≡ Some w
        unless_one None q w e = refl
        unless_one (Some v) None w e = refl
        unless_one (Some v) (Some u) w (inl e) = absurd (cc e)
        unless_one (Some v) (Some u) w (inr e) = absurd (cc e)

        waits_there : pair_waits c (pair_of c.pairs t) ≡ Some (wait.Par a z)
        waits_there = by_pair a z (pair_of c.pairs t) pair_there (pair_waits c (pair_of c.pairs t) ≡ Some (wait.Par a z)) (λ p e f g.
            ap (pair_waits c) e ∙ ap₂ (λ m n. unless_both (result_at c.threads m) (result_at c.threads n) (wait.Par m n)) f g ∙ unless_one (result_at c.threads a) (result_at c.threads z) (wait.Par a z) (by one_goes))
          where
            by : IsOnItsWay a ⊎ IsOnItsWay z → (result_at c.threads a ≡ None) ⊎ (result_at c.threads z ≡ None)
            by (inl w) = inl (unended a w)
            by (inr w) = inr (unended z w)

        pair_waits_so : plain_wait k.code c t ≡ Some (wait.Par a z)
        pair_waits_so = by (slice_get k.code pc) refl at_end
          where
            by : (j : Option Instr) → slice_get k.code pc ≡ j → is_par_end j ≡ true → plain_wait k.code c t ≡ Some (wait.Par a z)
            by (Some instr.ParEnd) q e =
                waits_as k co c same x at_pair do_par_end (λ v. record { pc = pc + 1; temps = temps }) (ap (λ j. ends.over_at j temps) q) (ap (λ j. run_instr j pc temps) q) ∙ waits_there
            by j q e = absurd (cc e)

pub joins_wait : JoinsWait
joins_wait k co quiet c same t u x at joined =
    let a = among_thread (sight k).ground.threads t x at in
    subst (λ n. plain_wait k.code c n ≡ Some (wait.Join u)) a.1 (join_waits_so k co quiet c same x a.0 (subst (λ n. thread_at (sight k).ground.threads n ≡ Some x) (sym a.1) at) u joined)

pub pairs_wait : PairsWait
pairs_wait k co quiet c same t a z x at paired =
    let h = among_thread (sight k).ground.threads t x at in
    subst (λ n. plain_wait k.code c n ≡ Some (wait.Par a z)) h.1 (pair_waits_so k co quiet c same x h.0 (subst (λ n. thread_at (sight k).ground.threads n ≡ Some x) (sym h.1) at) a z paired)
