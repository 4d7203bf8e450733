-- The end of main, or of a thread that was let go, at the server and on the plain machine: its result is dropped.
use Rattle.std.proofs.Common.{◌≡◌, ◌≢◌, ◌⊎◌, inl, inr, ℕ, zero, suc, ◌+◌, ◌==◌, ◌||◌, not, Bool, true, false, if◌then◌else◌, List, [], ◌∷◌, ◌++◌, Option, Some, None, option_map, refl, sym, ap, ap₂, subst, ◌∙◌, arith}
use Rattle.std.specs.Prelude.{slice_get}
use Rattle.law_words_writes.proofs.Below.law_results_reads.Below.fr_typing.PlaceLemmas.{eq_cases}
use Rattle.law_words_writes.specs.Below.law_results_reads.Below.fr_base.declared.label.Label.TheVariants as label
use Rattle.law_words_writes.specs.Below.law_results_reads.Below.fr_base.declared.release.Released.TheVariants as released
use Rattle.law_words_writes.specs.Below.law_results_reads.Below.fr_base.declared.step.Fresh.TheVariants as fresh
use Rattle.law_words_writes.specs.Below.law_results_reads.Below.fr_base.declared.instruction.Operand.{Operand}
use Rattle.law_words_writes.specs.Below.law_results_reads.Below.fr_base.declared.instruction.Instr.{Instr}
use Rattle.law_words_writes.specs.Below.law_results_reads.Below.fr_base.declared.instruction.Instr.TheVariants as instr
use Rattle.law_words_writes.specs.Below.law_results_reads.Below.fr_plain.declared.value.Value.{Value as PlainValue}
use Rattle.law_words_writes.specs.Below.law_results_reads.Below.fr_plain.declared.value.Value.TheVariants as plain_v
use Rattle.law_words_writes.specs.Below.law_results_reads.Below.fr_plain.MachineThreads.{Move, on_value, dropped}
use Rattle.law_words_writes.specs.Below.law_results_reads.Below.fr_plain.Machine.{step_of}
use Rattle.law_words_writes.specs.Below.law_results_reads.Below.fr_plain.PlainState.{SameState, plain_state}
use Rattle.law_words_writes.specs.Below.law_results_reads.Below.fr_code.Machine.{CodeLife, CodeWhole}
use Rattle.law_words_writes.specs.Below.law_results_reads.Below.fr_code.Steps.{Place, code_moves, over_at}
use Rattle.law_words_writes.specs.Below.law_results_reads.Below.global_addr.Words.{server_of}
use Rattle.law_words_writes.specs.Below.law_results_reads.Below.heap_partition.Plain.{plain_of}
use Rattle.law_words_writes.specs.Below.law_results_reads.Below.heap_partition.declared.value.Owned.{Owned}
use Rattle.law_words_writes.specs.Below.law_results_reads.Below.heap_partition.declared.value.Owned.TheVariants as owned
use Rattle.law_words_writes.specs.Below.law_results_reads.Below.read_cache.Cache.{Copy}
use Rattle.law_words_writes.specs.Below.law_results_reads.Below.migration.Packing.{unpin_all}
use Rattle.law_words_writes.specs.Below.law_results_reads.Below.thread_state.View.{ThreadState}
use Rattle.law_words_writes.specs.Below.law_results_reads.Below.thread_state.declared.phase.Phase.TheVariants as phase
use Rattle.law_words_writes.specs.Below.law_results_reads.Below.thread_state.declared.value.Value.{Value}
use Rattle.law_words_writes.specs.Below.law_results_reads.Below.thread_state.declared.value.Value.TheVariants as value
use Rattle.law_words_writes.specs.Below.law_results_reads.Below.journal.declared.act.Act.TheVariants as act
use Rattle.law_words_writes.specs.Below.law_results_reads.Below.server_msgs.declared.message.Message.TheVariants as message
use Rattle.law_words_writes.specs.Below.law_results_reads.Below.server_model.declared.event.Event.{Event}
use Rattle.law_words_writes.specs.Below.law_results_reads.Below.server_model.Servers.{Server, Cluster}
use Rattle.law_words_writes.specs.Below.law_results_reads.Below.server_model.Work.{Hand, Work, Popped, send, note, label_all, working, with_phase, with_temps, with_cache, pop_owned, then_some}
use Rattle.law_words_writes.specs.Below.law_results_reads.Below.server_model.Drop.{home_of, give_up, drop_labels}
use Rattle.law_words_writes.specs.Below.law_results_reads.Below.server_model.Commit.{done_where, end_with}
use Rattle.law_words_writes.specs.Below.law_results_reads.Below.server_model.Events.{Stepped, stepped, begin_work, committed, step}
use Rattle.law_words_writes.specs.Below.law_results_reads.Below.coherent_memory.Names.{one, some}
use Rattle.law_words_writes.specs.Below.law_results_reads.Below.coherent_memory.Things.{Thing, holds, as_result, things_of}
use Rattle.law_words_writes.specs.Below.law_results_reads.Below.coherent_memory.Sight.{Sight, sight, with_things}
use Rattle.law_words_writes.specs.Below.law_results_reads.Below.coherent_memory.OneHeap.{Node, task_n, owns, is_in_state, in_pair_of, is_branch, if_in, running_at, one_heap, state_of}
use Rattle.law_words_writes.specs.Below.law_results_reads.Below.coherent_memory.Coherent.{IsSound}
use Rattle.law_words_writes.specs.Below.law_results_reads.Below.law_counts_sums.Laws.{Gives}
use Rattle.law_words_writes.proofs.Below.law_results_reads.Below.law_counts_sums.Bags.{counts_of, had_by, rest_things}
use Rattle.law_words_writes.proofs.Below.law_results_reads.Below.law_counts_sums.Results.{both_give}
use Rattle.law_heap_steps.specs.Below.law_heap_still.events.Shows.{sign_of}
use Rattle.law_heap_steps.proofs.Below.law_heap_still.events.Alike.{same_nodes}
use Rattle.law_heap_steps.proofs.Below.law_heap_still.events.Counting.{no_stray_in}
use Rattle.law_heap_steps.proofs.Below.law_heap_still.events.Once.{shown_once}
use Rattle.law_heap_steps.proofs.Below.law_heap_still.events.Readied.{copies_ready}
use Rattle.law_heap_steps.proofs.Below.law_heap_still.events.Sites.{shown, Moves, sends}
use Rattle.law_heap_steps.specs.turns.Turns.{StepsTo, IsPlainStep}
use Rattle.law_heap_steps.proofs.turns.Parts.{owned_in}
use Rattle.law_heap_steps.proofs.turns.OneTurn.{as_main, as_loose, as_owing, going_of}
use Rattle.law_heap_steps.proofs.turns.Instructions.{shown_last, Pops, PopsTo}
use Rattle.law_heap_steps.proofs.turns.Clauses.{same_thread}
use Rattle.law_heap_steps.proofs.turns.Events.{AtStep, Sends, events_are, then_same}
use Rattle.law_heap_steps.proofs.mutexes.Beside.{giftless}
use Rattle.law_heap_steps.proofs.mutexes.Changed as changed
use Rattle.law_heap_steps.proofs.mutexes.NewLines.{popped_owned}
use Rattle.law_heap_steps.proofs.mutexes.ThreadTurns.{then_there, ThreadTurn, Next, is_step}
use Rattle.law_heap_steps.specs.threads.Tasks.{ends_with}
use Rattle.law_heap_steps.proofs.threads.EndLines.{owned_ends, value_there}
use Rattle.law_heap_steps.proofs.threads.ThreadEnds as thread_ends
use Rattle.law_heap_writes.specs.drops.Drops.{IsFree, EndsOfFree}
use Rattle.law_heap_writes.proofs.drops.InHand as held
use Rattle.law_heap_writes.proofs.drops.Carrying.{Carries}
use Rattle.law_heap_writes.proofs.drops.Dropped.{drop_shows}
use Rattle.law_heap_writes.proofs.drops.PlainEnds as plain_ends
use Rattle.law_heap_writes.proofs.drops.PlainEnds.{end_labels}
use Rattle.law_heap_writes.proofs.drops.DropLines.{labels_shown}
use Rattle.law_heap_writes.proofs.drops.UnlockGone.{joined, not_both}
use Rattle.law_heap_writes.proofs.drops.ThreadLoses as loses
use Rattle.law_heap_writes.proofs.drops.EndLoses as ends
use Rattle.law_heap_writes.proofs.drops.Outside as outside

abbrev begun : Server → Owned → Work
begun s u = label_all (drop_labels (value.Own u)) (begin_work s.rest)

pub not_zero : (j : ℕ) → (j == 0) ≡ false → j ≢ 0
not_zero j e d = not_both (j == 0) (ap (λ i. i == 0) d) e

pub is_zero : (j : ℕ) → (j == 0) ≡ true → j ≡ 0
is_zero j = eq_cases (λ b. b ≡ true → j ≡ 0) j 0 (λ d _. d) (λ _ f. absurd (cc f))

module _ (k : Cluster) (sound : IsSound k) (e : Event) (o : Operand) (s : Server) (t : ℕ) (x : ThreadState) (at : AtStep k e (instr.End o) s t x) where
  abbrev i : Instr
  i = instr.End o

  abbrev start : Hand
  start = record { work = begin_work s.rest; thread = x }

  abbrev n : ℕ
  n = s.rest.number

  abbrev counts_then : Thing
  counts_then = counts_of n 0 s.rest

  abbrev Wanted : Stepped → Type 0
  Wanted d = Sends k e s (stepped s d) → IsPlainStep k (Next k sound e i refl s t x at d, (stepped s d).1)

  module _ (v : Owned) (rest : List Value) (u : Pops o x.temps (value.Own v) rest) (said : ends_with o x ≡ Some (value.Own v)) where
    pub even : (q : Node) → owned_in q x.slots + owned_in q x.temps ≡ owned_in q x.slots + owned_in q rest + one (owns q v)
    even q = omega (arith, u.owned q)

    abbrev pub became : ThreadState
    became = ends.became k sound e o s t x at v rest even

    pub bare : x.gift ≡ None
    bare = ends.bare k sound e o s t x at v rest even

    abbrev pub s1 : Sight
    s1 = loses.s1 k sound e i refl s t x at bare v became even

    abbrev pub sv : Sight
    sv = loses.with_it k sound e i refl s t x at bare v became even (Some v)

    abbrev pub s2 : Sight
    s2 = loses.s2 k sound e i refl s t x at bare v became even

    abbrev pub B : List Thing
    B = loses.B k sound e i refl s t x at bare v became even

    abbrev pub y : ThreadState
    y = loses.y k sound e i refl s t x at bare v became even

    abbrev owed : Sight → Bool
    owed w = is_branch w x.number || is_in_state w (task_n x.number)

    -- ON THE PLAIN MACHINE

    module _ (free : (x.number ≡ 0) ⊎ (owed s1 ≡ false)) where
      abbrev its : thread_ends.Ends x.number (plain_of v) (running_at x) (state_of s1) (state_of sv)
      its = ends.ends k sound e o s t x at v rest even free

      now : (f : PlainValue → Option (Move Place CodeLife)) (z : Option (Move Place CodeLife)) → on_value (over_at (slice_get k.code x.pc) (shown_last x.temps)) f z ≡ f (plain_v.Own (plain_of v))
      now f z = ap (λ j. on_value (over_at j (shown_last x.temps)) f z) at.code ∙ value_there o x v said rest u f z

      steps : (c : CodeWhole) → SameState (plain_state c) (one_heap k) → StepsTo k.code c x.number fresh.None (state_of s2) (end_labels its.way x.number (plain_of v))
      steps c same =
          let A = state_of s1 in
          let shown_too : SameState (plain_state c) A = then_same (plain_state c) (one_heap k) A same (changed.state_before k sound e s at.here t x at.at at.number) in
          let w = plain_ends.ends_first k.code c x.number (plain_of v) (running_at x) now its.way in
          let carried : Carries k n y B w v = record {
            same = plain_ends.end_shows k.code c x.number (plain_of v) (running_at x) now A (state_of sv) its shown_too;
            alone = loses.alone_then k sound e i refl s t x at bare v became even;
            known = loses.known_then k sound e i refl s t x at bare v became even (λ r. refl) (ends.once_then k sound e o s t x at v rest even);
          } in
          record {
            after = record { state = dropped w (plain_of v); labels = end_labels its.way x.number (plain_of v) };
            steps = ap (step_of (code_moves k.code) c fresh.None) (plain_ends.found k.code c x.number (plain_of v) (running_at x) now A (state_of sv) its shown_too)
                ∙ plain_ends.ends_then k.code c x.number (plain_of v) (running_at x) now its.way (ends.not_owing k sound e o s t x at v rest even free);
            same = drop_shows k n y B (loses.others_known k sound e i refl s t x at bare v became even (λ r. refl) (ends.once_then k sound e o s t x at v rest even)) w v carried;
            labelled = refl;
          }

    -- MAIN

    module _ (main : (x.number == 0) ≡ true) where
      is_main : x.number ≡ 0
      is_main = is_zero x.number main

      way_main : (m : ℕ) → m ≡ 0 → going_of s1 m ≡ as_main
      way_main zero f = refl
      way_main (suc m) f = absurd (cc f)

      abbrev main_work : Work
      main_work = label_all (label.End x.number ∷ []) (give_up v (label_all (drop_labels (value.Own v)) (begin_work s.rest)))

      abbrev main_hand : Hand
      main_hand = with_phase phase.Over (record { work = main_work; thread = record x { temps = rest } })

      main_told : Moves [] [] s.rest main_work.rest
      main_told = by v
        where
          stays : Moves [] [] s.rest s.rest
          stays = record { number = refl; alike = λ w z. refl }

          by : (u : Owned) → Moves [] [] s.rest (label_all (label.End x.number ∷ []) (give_up u (begun s u))).rest
          by (owned.Box p) = sends [] [] s.rest (note (act.Condemn p.object p.word) (begun s (owned.Box p))) (server_of p.word) (message.Drop p.word p.object) stays (λ w z. omega (arith, z))
          by (owned.Mutex m) = sends [] [] s.rest (note (act.LetGo (released.Mutex m)) (begun s (owned.Mutex m))) m.home (message.Release (released.Mutex m)) stays (λ w z. omega (arith, z))
          by (owned.Task r) = sends [] [] s.rest (note (act.LetGo (released.Task r)) (begun s (owned.Task r))) (home_of r) (message.Release (released.Task r)) stays (λ w z. omega (arith, z))
          by owned.Nothing = stays
          by owned.Unit = stays
          by (owned.Int j) = stays

      main_labels : main_work.labels ≡ end_labels as_main x.number (plain_of v)
      main_labels = by v ∙ ap (λ ls. ls ++ label.End x.number ∷ []) (sym (labels_shown v))
        where
          by : (u : Owned) → (label_all (label.End x.number ∷ []) (give_up u (begun s u))).labels ≡ drop_labels (value.Own u) ++ label.End x.number ∷ []
          by (owned.Box p) = refl
          by (owned.Mutex m) = refl
          by (owned.Task r) = refl
          by owned.Nothing = refl
          by owned.Unit = refl
          by (owned.Int j) = refl

      abbrev main_d : List Copy → Stepped
      main_d cs = record { hand = record { work = with_cache cs main_hand.work; thread = record main_hand.thread { passed = 0; walk = []; moved_since_step = false } }; names = Some fresh.None }

      main_turn : (cs : List Copy) → ThreadTurn k sound e i refl s t x at (main_d cs)
      main_turn cs = record {
        became = became;
        names = fresh.None;
        thread = ap (λ g. (let z : ThreadState = record became { gift = g } in z)) bare;
        named = refl;
        comes = counts_then ∷ [];
        moves = record {
          number = main_told.number;
          alike = λ w z.
              let cache : shown w (rest_things main_work.rest.number 0 main_work.rest) ≡ shown w (rest_things main_work.rest.number 0 (with_cache cs main_work).rest) = (copies_ready main_hand cs []).0.moves.alike w z in
              let at_n : shown w (rest_things n 0 main_work.rest) ≡ shown w (rest_things n 0 (with_cache cs main_work).rest) = subst (λ q. shown w (rest_things q 0 main_work.rest) ≡ shown w (rest_things q 0 (with_cache cs main_work).rest)) main_told.number cache in
              omega (arith, main_told.alike w z, at_n);
        };
        beside = (tt, tt);
        unstray = refl;
        once = ends.once_then k sound e o s t x at v rest even;
        steps = λ c same. subst (λ ls. StepsTo k.code c x.number fresh.None (state_of s2) ls) (ap (λ g. end_labels g x.number (plain_of v)) (ends.way_is k sound e o s t x at v rest even (inl is_main) ∙ way_main x.number is_main) ∙ sym main_labels) (steps (inl is_main) c same);
      }

    -- A THREAD THAT WAS LET GO

    module _ (other : (x.number == 0) ≡ false) where
      way_loose : (m : ℕ) → m ≢ 0 → is_branch s1 m || is_in_state s1 (task_n m) ≡ false → going_of s1 m ≡ as_loose
      way_loose zero f g = absurd (f refl)
      way_loose (suc m) f g = ap (λ c. if not c then as_loose else as_owing) g

      neither : (p q : Bool) → p || q ≡ false → (p ≡ false) × (q ≡ false)
      neither true q f = absurd (cc f)
      neither false q f = (refl, f)

      abbrev pub it : Node
      it = task_n x.number

      abbrev pub C : List Thing
      C = had_by n (giftless y) ++ loses.Rest k sound e i refl s t x at bare v became even

      abbrev pub s3 : Sight
      s3 = then_there k sound e i refl s t x at became (counts_then ∷ holds (as_result x.number) v ∷ [])

      abbrev pub sent_hand : Hand
      sent_hand = with_phase phase.Over (working (λ w. send x.home (message.Finished x.number v) (label_all (label.End x.number ∷ []) (note (act.Finish x.number) w))) (with_temps rest start))

      abbrev pub G2 : List Thing
      G2 = counts_then ∷ holds (as_result x.number) v ∷ []

      abbrev pub d : List Copy → Stepped
      d cs = record { hand = record { work = with_cache cs sent_hand.work; thread = record sent_hand.thread { passed = 0; walk = []; moved_since_step = false } }; names = Some fresh.None }

      pub moves_to : (cs : List Copy) → Moves G2 (counts_then ∷ []) s.rest (d cs).hand.work.rest
      moves_to cs =
          let goes : Moves (holds (as_result x.number) v ∷ []) [] s.rest sent_hand.work.rest =
          sends (holds (as_result x.number) v ∷ []) (holds (as_result x.number) v ∷ []) s.rest (label_all (label.End x.number ∷ []) (note (act.Finish x.number) start.work)) x.home (message.Finished x.number v) (record { number = refl; alike = λ w z. refl }) (λ w z. omega (arith, z)) in
          record {
            number = goes.number;
            alike = λ w z.
                let cache : shown w (rest_things sent_hand.work.rest.number 0 sent_hand.work.rest) ≡ shown w (rest_things sent_hand.work.rest.number 0 (d cs).hand.work.rest) = (copies_ready sent_hand cs []).0.moves.alike w z in
                let at_n : shown w (rest_things n 0 sent_hand.work.rest) ≡ shown w (rest_things n 0 (d cs).hand.work.rest) = subst (λ q. shown w (rest_things q 0 sent_hand.work.rest) ≡ shown w (rest_things q 0 (d cs).hand.work.rest)) goes.number cache in
                omega (arith, goes.alike w z, at_n);
          }

      module _ (let_go : owed s1 ≡ false) where
        out : is_in_state s2 it ≡ false
        out = by (is_in_state s2 it) refl
          where
            by : (b : Bool) → is_in_state s2 it ≡ b → b ≡ false
            by false f = refl
            by true f =
                absurd (not_both (is_in_state sv it) (held.more_in k n y B (Some v) it f) (sym (loses.same_in k sound e i refl s t x at bare v became even it refl) ∙ (neither (is_branch s1 x.number) (is_in_state s1 it) let_go).1))

        owed_then : owed s2 ≡ false
        owed_then = ap₂ (λ p q. p || q) (sym (ends.branch_same k sound e o s t x at v rest even x.number) ∙ (neither (is_branch s1 x.number) (is_in_state s1 it) let_go).0) out

        off_result : (r : ℕ) → is_branch s2 r || is_in_state s2 (task_n r) ≡ true → if_in (x.number == r) (Some (plain_of v)) ≡ None
        off_result r there =
            eq_cases (λ b. if_in b (Some (plain_of v)) ≡ None) x.number r (λ f. absurd (not_both (is_branch s2 r || is_in_state s2 (task_n r)) there (sym (ap (λ z. is_branch s2 z || is_in_state s2 (task_n z)) f) ∙ owed_then))) (λ _. refl)

        same_things : outside.beside k n y s.rest C (as_result x.number) it v ≡ s3.things
        same_things = refl

        -- the result in its message shows nothing
        beside_it : SameState (state_of s2) (state_of s3)
        beside_it = subst (λ l. SameState (state_of s2) (state_of (with_things k l))) same_things (outside.same_beside k n y s.rest C (as_result x.number) it v refl out (λ w z. refl) off_result)

        steps_on : (c : CodeWhole) → SameState (plain_state c) (one_heap k) → StepsTo k.code c x.number fresh.None (state_of s3) (label.End x.number ∷ [])
        steps_on c same =
            let to = steps (inr let_go) c same in
            record {
              after = to.after;
              steps = to.steps;
              same = joined (plain_state to.after.state) (state_of s2) (state_of s3) to.same beside_it;
              labelled = to.labelled ∙ ap (λ g. end_labels g x.number (plain_of v)) (ends.way_is k sound e o s t x at v rest even (inr let_go) ∙ way_loose x.number (not_zero x.number other) let_go);
            }

        turn : (cs : List Copy) → ThreadTurn k sound e i refl s t x at (d cs)
        turn cs = record {
          became = became;
          names = fresh.None;
          thread = ap (λ g. (let z : ThreadState = record became { gift = g } in z)) bare;
          named = refl;
          comes = G2;
          moves = moves_to cs;
          beside = (tt, (tt, tt));
          unstray = refl;
          once = thread_ends.once_then k sound e o s t x at v rest (Some v) (λ z. absurd (not_zero x.number other z));
          steps = steps_on;
        }

    -- BOTH

    by_main : (free : (x.number ≡ 0) ⊎ (owed s1 ≡ false)) → (b : Bool) → (x.number == 0) ≡ b → Gives Wanted (committed (done_where fresh.None (option_map (with_phase phase.Over) (end_with b v (with_temps rest start)))))
    by_main free true q = by (unpin_all x.walk (main_hand q).work.rest.cache)
      where
        by : (z : Option (List Copy)) → Gives Wanted (option_map (λ h2. record { hand = h2; names = Some fresh.None })
            (option_map (λ cs. record { work = with_cache cs (main_hand q).work; thread = record (main_hand q).thread { passed = 0; walk = []; moved_since_step = false } }) z))
        by None = tt
        by (Some cs) = λ goes. is_step k sound e i refl s t x at (main_d q cs) (main_turn q cs) goes
    by_main (inl zero_it) false q = absurd (not_zero x.number q zero_it)
    by_main (inr let_go) false q = by (unpin_all x.walk (sent_hand q).work.rest.cache)
      where
        by : (z : Option (List Copy)) → Gives Wanted (option_map (λ h2. record { hand = h2; names = Some fresh.None })
            (option_map (λ cs. record { work = with_cache cs (sent_hand q).work; thread = record (sent_hand q).thread { passed = 0; walk = []; moved_since_step = false } }) z))
        by None = tt
        by (Some cs) = λ goes. is_step k sound e i refl s t x at (d q cs) (turn q let_go cs) goes

  -- who is in the state is so of the things with the thread in front
  pub nodes_before : (q : Node) → is_in_state (sight k) q ≡ is_in_state (with_things k (changed.a k sound e s at.here t x at.at at.number)) q
  nodes_before =
      same_nodes k (things_of k) (changed.a k sound e s at.here t x at.at at.number) (shown_once k sound) (λ w z. changed.same_things k sound e s at.here t x at.at at.number (λ a. w (sign_of a))) (changed.unstray k sound e s at.here t x at.at at.number)
      (no_stray_in k (changed.a k sound e s at.here t x at.at at.number) (changed.places k sound e s at.here t x at.at at.number))

  free_before : IsFree k x → (x.number ≡ 0) ⊎ (is_branch (with_things k (changed.a k sound e s at.here t x at.at at.number)) x.number || is_in_state (with_things k (changed.a k sound e s at.here t x at.at at.number)) (task_n x.number) ≡ false)
  free_before (inl f) = inl f
  free_before (inr f) = inr (sym (ap₂ (λ p q. p || q) (ap some (changed.same_things k sound e s at.here t x at.at at.number (in_pair_of x.number))) (nodes_before (task_n x.number))) ∙ f)

  abbrev Both : Popped Owned → Type 0
  Both p = PopsTo o start value.Own p × (ends_with o x ≡ Some (value.Own p.item))

  pub end_line : IsFree k x → Gives Wanted (step k.options.servers i start)
  end_line free = by (pop_owned o start) (both_give (PopsTo o start value.Own) (λ (p : Popped Owned). ends_with o x ≡ Some (value.Own p.item)) Both (pop_owned o start) (popped_owned o start) (owned_ends o start) (λ p a b. (a, b)))
    where
      by : (q : Option (Popped Owned)) → Gives Both q → Gives Wanted (committed (done_where fresh.None (option_map (with_phase phase.Over) (then_some q (λ z. end_with (x.number == 0) z.item z.hand)))))
      by None g = tt
      by (Some z) g =
          subst (λ h. Gives Wanted (committed (done_where fresh.None (option_map (with_phase phase.Over) (end_with (x.number == 0) z.item h))))) (sym g.0.hand) (by_main z.item g.0.rest g.0.pops g.1 (free_before free) (x.number == 0) refl)

pub ends_of_free : EndsOfFree
ends_of_free k e o y q th free sound few =
    events_are (IsPlainStep k) k e (instr.End o) sound few (λ s t x at. end_line k sound e o s t x at (subst (IsFree k) (sym (same_thread k e (instr.End o) s t x y at th)) free)) q
