-- An unlock of a mutex that is gone, at the server and on the plain machine: its content is dropped.
use Rattle.std.proofs.Common.{◌≡◌, ℕ, ◌+◌, Bool, true, false, List, [], ◌∷◌, ◌++◌, Option, Some, None, option_map, refl, sym, ap, subst, ◌∙◌, arith}
use Rattle.law_words_writes.specs.Below.law_results_reads.Below.fr_base.Lists.{last_of}
use Rattle.law_words_writes.specs.Below.law_results_reads.Below.fr_base.declared.label.Label.TheVariants as label
use Rattle.law_words_writes.specs.Below.law_results_reads.Below.fr_base.declared.name.MutexNo.{MutexNo}
use Rattle.law_words_writes.specs.Below.law_results_reads.Below.fr_base.declared.step.Fresh.TheVariants as fresh
use Rattle.law_words_writes.specs.Below.law_results_reads.Below.fr_base.declared.instruction.Instr.{Instr}
use Rattle.law_words_writes.specs.Below.law_results_reads.Below.fr_base.declared.instruction.Instr.TheVariants as instr
use Rattle.law_words_writes.specs.Below.law_results_reads.Below.fr_plain.declared.value.Value.{Value as PlainValue}
use Rattle.law_words_writes.specs.Below.law_results_reads.Below.fr_plain.declared.value.Value.TheVariants as plain_v
use Rattle.law_words_writes.specs.Below.law_results_reads.Below.fr_plain.MachineThreads.{Shared, dropped}
use Rattle.law_words_writes.specs.Below.law_results_reads.Below.fr_plain.Machine.{step_of}
use Rattle.law_words_writes.specs.Below.law_results_reads.Below.fr_plain.PlainState.{SameState, plain_state}
use Rattle.law_words_writes.specs.Below.law_results_reads.Below.fr_code.Machine.{CodeWhole, CodeRunning, CodeState}
use Rattle.law_words_writes.specs.Below.law_results_reads.Below.fr_code.Steps.{Place, code_moves, over_at, run_instr}
use Rattle.law_words_writes.specs.Below.law_results_reads.Below.heap_partition.Plain.{plain_of}
use Rattle.law_words_writes.specs.Below.law_results_reads.Below.heap_partition.declared.value.Owned.{Owned}
use Rattle.law_words_writes.specs.Below.law_results_reads.Below.journal.declared.act.Act.TheVariants as act
use Rattle.law_words_writes.specs.Below.law_results_reads.Below.read_cache.Cache.{Copy}
use Rattle.law_words_writes.specs.Below.law_results_reads.Below.migration.Packing.{unpin_all}
use Rattle.law_words_writes.specs.Below.law_results_reads.Below.thread_state.View.{ThreadState}
use Rattle.law_words_writes.specs.Below.law_results_reads.Below.thread_state.declared.value.Value.{Value}
use Rattle.law_words_writes.specs.Below.law_results_reads.Below.thread_state.declared.value.Value.TheVariants as value
use Rattle.law_words_writes.specs.Below.law_results_reads.Below.server_msgs.declared.message.Message.TheVariants as message
use Rattle.law_words_writes.specs.Below.law_results_reads.Below.server_model.declared.event.Event.{Event}
use Rattle.law_words_writes.specs.Below.law_results_reads.Below.server_model.Servers.{Server, Cluster}
use Rattle.law_words_writes.specs.Below.law_results_reads.Below.server_model.Work.{Hand, Popped, note, label_all, with_slots, with_cache, front_of, pop_slot, taken_as, owned_of, then_some}
use Rattle.law_words_writes.specs.Below.law_results_reads.Below.server_model.Commit.{goes_on, go_on, held_of, send_content}
use Rattle.law_words_writes.specs.Below.law_results_reads.Below.server_model.Events.{Stepped, stepped, begin_work, committed, step}
use Rattle.law_words_writes.specs.Below.law_results_reads.Below.coherent_memory.Names.{one, same_mutex}
use Rattle.law_heap_steps.proofs.Below.law_plain_values.acts.Mutexes.{mutex_cases}
use Rattle.law_words_writes.specs.Below.law_results_reads.Below.coherent_memory.Things.{Thing, holds, as_content}
use Rattle.law_words_writes.specs.Below.law_results_reads.Below.coherent_memory.Sight.{Sight, sight, with_things}
use Rattle.law_words_writes.specs.Below.law_results_reads.Below.coherent_memory.OneHeap.{Node, mutex_n, owns, is_in_state, if_in, if_there, running_at, one_heap, state_of}
use Rattle.law_words_writes.specs.Below.law_results_reads.Below.coherent_memory.Coherent.{IsSound}
use Rattle.law_words_writes.specs.Below.law_results_reads.Below.law_counts_sums.Laws.{Gives}
use Rattle.law_words_writes.proofs.Below.law_results_reads.Below.law_counts_sums.Bags.{counts_of, had_by, rest_things}
use Rattle.law_words_writes.proofs.Below.law_results_reads.Below.law_counts_sums.GiftsTaken.{gift_fits}
use Rattle.law_words_writes.proofs.Below.law_results_reads.Below.law_counts_sums.Values.{last_split}
use Rattle.law_heap_steps.proofs.Below.law_heap_still.events.Readied.{copies_ready}
use Rattle.law_heap_steps.proofs.Below.law_heap_still.events.Sites.{shown, Moves, sends}
use Rattle.law_heap_steps.specs.turns.Turns.{StepsTo, IsPlainStep}
use Rattle.law_heap_steps.proofs.turns.Parts.{owned_in}
use Rattle.law_heap_steps.proofs.turns.OneTurn.{Calm, after}
use Rattle.law_heap_steps.proofs.turns.Instructions.{shown_last, shown_push, owned_push}
use Rattle.law_heap_steps.proofs.turns.Clauses.{same_thread}
use Rattle.law_heap_steps.proofs.turns.Events.{AtStep, Sends, events_are, then_same}
use Rattle.law_heap_steps.proofs.mutexes.Beside.{giftless}
use Rattle.law_heap_steps.proofs.mutexes.Changed as changed
use Rattle.law_heap_steps.proofs.mutexes.DupLines.{running_to}
use Rattle.law_heap_steps.proofs.mutexes.OneThread.{GoesOn}
use Rattle.law_heap_steps.proofs.mutexes.PlainMutex.{found}
use Rattle.law_heap_steps.proofs.mutexes.ThreadTurns.{then_there, ThreadTurn, Next, is_step}
use Rattle.law_heap_steps.proofs.mutexes.UnlockLines as unlock_lines
use Rattle.law_heap_steps.specs.mutexes.Locks.{marked}
use Rattle.law_heap_writes.specs.drops.Drops.{IsGone, UnlocksOfGone}
use Rattle.law_heap_writes.proofs.drops.InHand as held
use Rattle.law_heap_writes.proofs.drops.Carrying.{Carries}
use Rattle.law_heap_writes.proofs.drops.Dropped.{drop_shows}
use Rattle.law_heap_writes.proofs.drops.PlainDrop.{unlocks_first, unlocks_then, unlocks_shows}
use Rattle.law_heap_writes.proofs.drops.ThreadLoses as loses
use Rattle.law_heap_writes.proofs.drops.Outside as outside

pub joined : (a b d : CodeState) → SameState a b → SameState b d → SameState a d
joined a b d p r = record {
  threads = λ u. p.threads u ∙ r.threads u;
  made = λ u. p.made u ∙ r.made u;
  pairs = λ u. p.pairs u ∙ r.pairs u;
  objects = λ o. p.objects o ∙ r.objects o;
  mutexes = λ w. p.mutexes w ∙ r.mutexes w;
  given = λ w. p.given w ∙ r.given w;
}

-- what isn't in the state isn't there
if_gone : (b : Bool) (x : Shared) → b ≡ false → if_there b x ≡ None
if_gone b x e = ap (λ c. if_there c x) e

pub not_both : (b : Bool) → b ≡ true → b ≡ false → ⊥
not_both true e f = cc f
not_both false e f = cc e

not_there : (b : Bool) (x : Shared) → if_there b x ≡ None → b ≡ false
not_there true x e = absurd (cc e)
not_there false x e = refl

module _ (k : Cluster) (sound : IsSound k) (e : Event) (s : Server) (t : ℕ) (x : ThreadState) (at : AtStep k e instr.Unlock s t x) where
  abbrev i : Instr
  i = instr.Unlock

  abbrev start : Hand
  start = record { work = begin_work s.rest; thread = x }

  abbrev n : ℕ
  n = s.rest.number

  pub bare : x.gift ≡ None
  bare = (gift_fits k sound e.server s at.here t x at.at i at.code).0

  abbrev counts_then : Thing
  counts_then = counts_of n 0 s.rest

  module _ (m : MutexNo) (v : Owned) (rest : List Value) (split : x.slots ≡ (rest ++ value.Held m ∷ []) ++ value.Own v ∷ []) where
    pub even : (q : Node) → owned_in q x.slots + owned_in q x.temps ≡ owned_in q rest + owned_in q x.temps + one (owns q v)
    even q = omega (arith, ap (owned_in q) split, owned_push q (rest ++ value.Held m ∷ []) (value.Own v), owned_push q rest (value.Held m))

    pub goes2 : Calm (after x (x.pc + 1) rest x.temps).phase
    goes2 = record { alone = refl; goes = refl }

    abbrev pub s1 : Sight
    s1 = loses.s1 k sound e i refl s t x at bare v (after x (x.pc + 1) rest x.temps) even

    abbrev pub sv : Sight
    sv = loses.with_it k sound e i refl s t x at bare v (after x (x.pc + 1) rest x.temps) even (Some v)

    abbrev pub s2 : Sight
    s2 = loses.s2 k sound e i refl s t x at bare v (after x (x.pc + 1) rest x.temps) even

    abbrev pub B : List Thing
    B = loses.B k sound e i refl s t x at bare v (after x (x.pc + 1) rest x.temps) even

    abbrev pub y : ThreadState
    y = loses.y k sound e i refl s t x at bare v (after x (x.pc + 1) rest x.temps) even

    abbrev pub Rest : List Thing
    Rest = loses.Rest k sound e i refl s t x at bare v (after x (x.pc + 1) rest x.temps) even

    abbrev pub C : List Thing
    C = had_by n (giftless y) ++ Rest

    -- what stands there afterwards, with the content in its message
    abbrev pub s3 : Sight
    s3 = then_there k sound e i refl s t x at (after x (x.pc + 1) rest x.temps) (counts_then ∷ holds (as_content m) v ∷ [])

    -- AT THE SERVER

    abbrev pub sent_hand : Hand
    sent_hand = send_content m v (with_slots rest start)

    abbrev pub G2 : List Thing
    G2 = counts_then ∷ holds (as_content m) v ∷ []

    module _ (cs : List Copy) where
      abbrev pub d : Stepped
      d = record { hand = record { work = with_cache cs sent_hand.work; thread = record (go_on sent_hand).thread { passed = 0; walk = []; moved_since_step = false } }; names = Some fresh.None }

      pub moves_to : Moves G2 (counts_then ∷ []) s.rest d.hand.work.rest
      moves_to =
          let goes : Moves (holds (as_content m) v ∷ []) [] s.rest sent_hand.work.rest =
          sends (holds (as_content m) v ∷ []) (holds (as_content m) v ∷ []) s.rest (label_all (label.Unlock m ∷ []) (note (act.GiveBack m) start.work)) m.home (message.Unlock m v) (record { number = refl; alike = λ w z. refl }) (λ w z. omega (arith, z)) in
          record {
            number = goes.number;
            alike = λ w z.
                let cache : shown w (rest_things sent_hand.work.rest.number 0 sent_hand.work.rest) ≡ shown w (rest_things sent_hand.work.rest.number 0 d.hand.work.rest) = (copies_ready sent_hand cs []).0.moves.alike w z in
                let at_n : shown w (rest_things n 0 sent_hand.work.rest) ≡ shown w (rest_things n 0 d.hand.work.rest) = subst (λ j. shown w (rest_things j 0 sent_hand.work.rest) ≡ shown w (rest_things j 0 d.hand.work.rest)) goes.number cache in
                omega (arith, goes.alike w z, at_n);
          }

    -- WHERE THE MUTEX ISN'T THERE

    module _ (gone : is_in_state (sight k) (mutex_n m) ≡ false) where
      gone_before : (state_of s1).mutex m ≡ None
      gone_before = (changed.state_before k sound e s at.here t x at.at at.number).mutexes m ∙ if_gone (is_in_state (sight k) (mutex_n m)) _ gone

      gone_v : is_in_state sv (mutex_n m) ≡ false
      gone_v = not_there (is_in_state sv (mutex_n m)) _ (sym (loses.mutexes_on k sound e i refl s t x at bare v (after x (x.pc + 1) rest x.temps) even m) ∙ gone_before)

      gone_then : is_in_state s2 (mutex_n m) ≡ false
      gone_then = by (is_in_state s2 (mutex_n m)) refl
        where
          by : (b : Bool) → is_in_state s2 (mutex_n m) ≡ b → b ≡ false
          by false f = refl
          by true f = absurd (not_both (is_in_state sv (mutex_n m)) (held.more_in k n y B (Some v) (mutex_n m) f) gone_v)

      off_content : (w : MutexNo) → is_in_state s2 (mutex_n w) ≡ true → if_in (same_mutex m w) (Some (plain_of v)) ≡ None
      off_content w there = mutex_cases (λ b. if_in b (Some (plain_of v)) ≡ None) m w (λ f. absurd (not_both (is_in_state s2 (mutex_n w)) there (sym (ap (λ z. is_in_state s2 (mutex_n z)) f) ∙ gone_then))) (λ _. refl)

      more : shown_last x.slots ≡ plain_v.Own (plain_of v) ∷ plain_v.Held m ∷ shown_last rest
      more = ap shown_last split ∙ shown_push (rest ++ value.Held m ∷ []) (value.Own v) ∙ ap (λ l. plain_v.Own (plain_of v) ∷ l) (shown_push rest (value.Held m))

      abbrev plug : PlainValue → Place
      plug z = record { pc = x.pc + 1; temps = shown_last x.temps }

      abbrev q : CodeRunning
      q = running_to (x.pc + 1) (shown_last x.temps) (shown_last rest)

      same_things : outside.beside k n y s.rest C (as_content m) (mutex_n m) v ≡ s3.things
      same_things = refl

      -- the content in its message shows nothing
      beside_it : SameState (state_of s2) (state_of s3)
      beside_it = subst (λ l. SameState (state_of s2) (state_of (with_things k l))) same_things (outside.same_beside k n y s.rest C (as_content m) (mutex_n m) v refl gone_then off_content (λ u z. refl))

      -- ON THE PLAIN MACHINE

      steps : (c : CodeWhole) → SameState (plain_state c) (one_heap k) → StepsTo k.code c x.number fresh.None (state_of s3) (label.Unlock m ∷ [])
      steps c same =
          let A = state_of s1 in
          let shown_too : SameState (plain_state c) A = then_same (plain_state c) (one_heap k) A same (changed.state_before k sound e s at.here t x at.at at.number) in
          let goes : GoesOn x.number (running_at x) q A (state_of sv) = loses.thread_on k sound e i refl s t x at bare v (after x (x.pc + 1) rest x.temps) even goes2 refl in
          let first = unlocks_shows k.code c x.number (running_at x) q A (state_of sv) goes shown_too (loses.made_on k sound e i refl s t x at bare v (after x (x.pc + 1) rest x.temps) even goes2 refl) (loses.objects_on k sound e i refl s t x at bare v (after x (x.pc + 1) rest x.temps) even) (loses.mutexes_on k sound e i refl s t x at bare v (after x (x.pc + 1) rest x.temps) even) (loses.names_on k sound e i refl s t x at bare v (after x (x.pc + 1) rest x.temps) even) in
          let w = unlocks_first c goes.way x.number q in
          let carried : Carries k n y B w v = record { same = first; alone = loses.alone_then k sound e i refl s t x at bare v (after x (x.pc + 1) rest x.temps) even; known = loses.known_then k sound e i refl s t x at bare v (after x (x.pc + 1) rest x.temps) even (λ r. refl) (loses.once_then k sound e i refl s t x at bare v (after x (x.pc + 1) rest x.temps) even goes2 refl) } in
          let shown2 : SameState (plain_state (dropped w (plain_of v))) (state_of s2) = drop_shows k n y B (loses.others_known k sound e i refl s t x at bare v (after x (x.pc + 1) rest x.temps) even (λ r. refl) (loses.once_then k sound e i refl s t x at bare v (after x (x.pc + 1) rest x.temps) even goes2 refl)) w v carried in
          record {
            after = record { state = dropped w (plain_of v); labels = label.Unlock m ∷ [] };
            steps = ap (step_of (code_moves k.code) c fresh.None) (found k.code c x.number (running_at x) q A (state_of sv) goes shown_too)
                ∙ unlocks_then k.code c goes.way x.number (running_at x) plug m (plain_of v) (shown_last rest) more (ap (λ j. over_at j (shown_last x.temps)) at.code) (ap (λ j. run_instr j x.pc (shown_last x.temps)) at.code) (shown_too.mutexes m ∙ gone_before);
            same = joined (plain_state (dropped w (plain_of v))) (state_of s2) (state_of s3) shown2 beside_it;
            labelled = refl;
          }

      turn : (cs : List Copy) → ThreadTurn k sound e i refl s t x at (d cs)
      turn cs = record {
        became = after x (x.pc + 1) rest x.temps;
        names = fresh.None;
        thread = ap (λ g. (let z : ThreadState = record (after x (x.pc + 1) rest x.temps) { gift = g } in z)) bare;
        named = refl;
        comes = G2;
        moves = moves_to cs;
        beside = (tt, (tt, tt));
        unstray = refl;
        once = unlock_lines.once_then k sound e s t x at m v rest split;
        steps = steps;
      }

  abbrev Wanted : Stepped → Type 0
  Wanted d = Sends k e s (stepped s d) → IsPlainStep k (Next k sound e i refl s t x at d, (stepped s d).1)

  -- what is so of each step that is done
  module _ (W : Stepped → Type 0) (so : (m : MutexNo) (v : Owned) (rest : List Value) (split : x.slots ≡ (rest ++ value.Held m ∷ []) ++ value.Own v ∷ []) → marked x ≡ Some m → (cs : List Copy) → W (d m v rest split cs)) where
    settled : (m : MutexNo) (v : Owned) (rest : List Value) → x.slots ≡ (rest ++ value.Held m ∷ []) ++ value.Own v ∷ [] → marked x ≡ Some m → Gives W (committed (goes_on (Some (send_content m v (with_slots rest start)))))
    settled m v rest split mark = by (unpin_all x.walk (sent_hand m v rest split).work.rest.cache)
      where
        by : (q : Option (List Copy)) → Gives W (option_map (λ h2. record { hand = h2; names = Some fresh.None })
            (option_map (λ cs. record { work = with_cache cs (sent_hand m v rest split).work; thread = record (go_on (sent_hand m v rest split)).thread { passed = 0; walk = []; moved_since_step = false } }) q))
        by None = tt
        by (Some cs) = so m v rest split mark cs

    pub each_done : Gives W (step k.options.servers i start)
    each_done = by (last_of x.slots) refl
      where
        under : (v : Owned) → x.slots ≡ front_of x.slots ++ value.Own v ∷ [] → (q : Option Value) → last_of (front_of x.slots) ≡ q
            → Gives W (committed (goes_on (option_map (λ m. send_content m.item v m.hand) (then_some {X = Popped Value} (option_map (λ w. record { item = w; hand = with_slots (front_of (front_of x.slots)) start }) q) (taken_as held_of)))))
        under v split None p = tt
        under v split (Some (value.Held m)) p =
            settled m v (front_of (front_of x.slots)) (split ∙ ap (λ l. l ++ value.Own v ∷ []) (last_split (front_of x.slots) (value.Held m) p)) (ap (λ q. then_some q held_of) p)
        under v split (Some (value.Own w)) p = tt
        under v split (Some value.Gone) p = tt
        under v split (Some (value.SharedSlot j)) p = tt
        under v split (Some (value.MutSlot j)) p = tt
        under v split (Some (value.Shared r)) p = tt
        under v split (Some (value.Mut r)) p = tt

        by : (q : Option Value) → last_of x.slots ≡ q
            → Gives W (committed (goes_on (then_some (then_some {X = Popped Value} (option_map (λ w. record { item = w; hand = with_slots (front_of x.slots) start }) q) (taken_as owned_of)) (λ v. option_map (λ m. send_content m.item v.item m.hand) (then_some (pop_slot v.hand) (taken_as held_of))))))
        by None p = tt
        by (Some (value.Own v)) p = under v (last_split x.slots (value.Own v) p) (last_of (front_of x.slots)) refl
        by (Some (value.Held m)) p = tt
        by (Some value.Gone) p = tt
        by (Some (value.SharedSlot j)) p = tt
        by (Some (value.MutSlot j)) p = tt
        by (Some (value.Shared r)) p = tt
        by (Some (value.Mut r)) p = tt

  pub unlock_line : IsGone k (marked x) → Gives Wanted (step k.options.servers i start)
  unlock_line gone = each_done Wanted (λ m v rest split mark cs goes. is_step k sound e i refl s t x at (d m v rest split cs) (turn m v rest split (subst (IsGone k) mark gone) cs) goes)

pub unlocks_of_gone : UnlocksOfGone
unlocks_of_gone k e y q th gone sound few =
    events_are (IsPlainStep k) k e instr.Unlock sound few (λ s t x at. unlock_line k sound e s t x at (subst (λ (z : ThreadState). IsGone k (marked z)) (sym (same_thread k e instr.Unlock s t x y at th)) gone)) q
