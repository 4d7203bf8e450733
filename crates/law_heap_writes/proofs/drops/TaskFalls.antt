-- A task in hand: its thread is let go where it goes on, and where it has ended its result comes to the hand.
use Rattle.std.proofs.Common.{◌≡◌, ◌≢◌, ℕ, Bool, true, false, if◌then◌else◌, List, length, Option, Some, None, option_map, refl, sym, ap, ◌∙◌, subst, arith}
use Rattle.law_words_writes.proofs.Below.law_results_reads.Below.fr_typing.PlaceLemmas.{eq_cases}
use Rattle.law_words_writes.specs.Below.law_results_reads.Below.fr_base.declared.name.MutexNo.{MutexNo}
use Rattle.law_words_writes.specs.Below.law_results_reads.Below.fr_base.declared.label.Plain.{Plain}
use Rattle.law_words_writes.specs.Below.law_results_reads.Below.fr_plain.declared.value.Value.{Value}
use Rattle.law_words_writes.specs.Below.law_results_reads.Below.fr_plain.declared.value.Value.TheVariants.{Own}
use Rattle.law_words_writes.specs.Below.law_results_reads.Below.fr_plain.Heap.{made_by}
use Rattle.law_words_writes.specs.Below.law_results_reads.Below.fr_plain.MachineThreads.{alive, over, owing, loose, ended, thread_at, with_thread, with_life, is_over, pair_of as plain_pair}
use Rattle.law_words_writes.specs.Below.law_results_reads.Below.fr_plain.PlainState.{running, running_in, is_over_in, two_of}
use Rattle.law_words_writes.proofs.Below.law_results_reads.Below.fr_plain.ByName.{put_in, put_at, put_off, found_number}
use Rattle.law_words_writes.specs.Below.law_results_reads.Below.fr_code.Machine.{CodeLife, CodeThread, CodeWhole, CodeRunning}
use Rattle.law_words_writes.specs.Below.law_results_reads.Below.fr_code.Steps.{Place}
use Rattle.law_words_writes.specs.Below.law_results_reads.Below.heap_partition.Plain.{plain_of}
use Rattle.law_words_writes.specs.Below.law_results_reads.Below.heap_partition.declared.value.Owned.{Owned}
use Rattle.law_words_writes.specs.Below.law_results_reads.Below.heap_partition.declared.value.Owned.TheVariants as owned
use Rattle.law_words_writes.specs.Below.law_results_reads.Below.thread_state.View.{ThreadState}
use Rattle.law_words_writes.specs.Below.law_results_reads.Below.server_model.Servers.{Cluster}
use Rattle.law_words_writes.specs.Below.law_results_reads.Below.coherent_memory.Names.{tot, one}
use Rattle.law_words_writes.specs.Below.law_results_reads.Below.coherent_memory.Things.{Thing}
use Rattle.law_words_writes.specs.Below.law_results_reads.Below.coherent_memory.Follow.{thread_at as standing_at}
use Rattle.law_words_writes.specs.Below.law_results_reads.Below.coherent_memory.Sight.{Sight}
use Rattle.law_words_writes.specs.Below.law_results_reads.Below.coherent_memory.OneHeap.{PlainLife, Node, object_n, mutex_n, task_n, owns, first_shown, result_value, share_in, ended_with, life_at, is_given_thread, if_given, state_of}
use Rattle.law_heap_steps.specs.Below.law_heap_still.events.Shows.{held_branch}
use Rattle.law_heap_writes.proofs.drops.Under.{under}
use Rattle.law_heap_writes.proofs.drops.InHand as held
use Rattle.law_heap_writes.proofs.drops.HandState as shows
use Rattle.law_heap_writes.proofs.drops.HandState.{LetGo, goes_on, is_main, has_result}
use Rattle.law_heap_writes.proofs.drops.Carrying as carrying
use Rattle.law_heap_writes.proofs.drops.Carrying.{Others, Shows, Carries, KnownTask}

pub task_only : (u : ℕ) (q : Node) → owns q (owned.Task u) ≡ true → q ≡ task_n u
task_only u (task_n x) = eq_cases (λ c. c ≡ true → task_n x ≡ task_n u) u x (λ e _. ap (λ z. task_n z) (sym e)) (λ _ f. absurd (cc f))
task_only u (object_n o) = λ f. absurd (cc f)
task_only u (mutex_n m) = λ f. absurd (cc f)

-- what a task's thread is on the plain machine
owing_is : (l : CodeLife) (slots : List Value) (p : CodeRunning) → running slots l ≡ owing p → (r : Place) × (l ≡ owing r)
owing_is (owing r) slots p e = (r, refl)
owing_is (alive r) slots p e = absurd (cc e)
owing_is over slots p e = absurd (cc e)
owing_is (loose r) slots p e = absurd (cc e)
owing_is (ended v) slots p e = absurd (cc e)

alive_is : (l : CodeLife) (slots : List Value) (p : CodeRunning) → running slots l ≡ alive p → (r : Place) × (l ≡ alive r)
alive_is (alive r) slots p e = (r, refl)
alive_is (owing r) slots p e = absurd (cc e)
alive_is over slots p e = absurd (cc e)
alive_is (loose r) slots p e = absurd (cc e)
alive_is (ended v) slots p e = absurd (cc e)

over_is : (l : CodeLife) (slots : List Value) → running slots l ≡ over → l ≡ over
over_is over slots e = refl
over_is (alive r) slots e = absurd (cc e)
over_is (owing r) slots e = absurd (cc e)
over_is (loose r) slots e = absurd (cc e)
over_is (ended v) slots e = absurd (cc e)

ended_is : (l : CodeLife) (slots : List Value) (v : Value) → running slots l ≡ ended v → l ≡ ended v
ended_is (ended v) slots w e = let same : v ≡ w = cc in ap ended same
ended_is over slots w e = absurd (cc e)
ended_is (alive r) slots w e = absurd (cc e)
ended_is (owing r) slots w e = absurd (cc e)
ended_is (loose r) slots w e = absurd (cc e)

-- the same place, let go
loosened : (slots : List Value) (r : Place) (p : CodeRunning) → running slots (owing r) ≡ owing p → running slots (loose r) ≡ loose p
loosened slots r p e = let same : record { place = r; slots = slots } ≡ p = cc in ap loose same

module _ (k : Cluster) (n : ℕ) (y : ThreadState) (B : List Thing) where
  -- what a dropped task does: its thread is let go; its result comes to the hand; or nothing
  pub data TaskFalls (w : CodeWhole) (u : ℕ) : Type 0 where
    lets_go : (x : CodeThread) (r : Place) → thread_at w.threads u ≡ Some x → x.life ≡ owing r → Shows k n y B (record w { threads = with_thread w.threads (with_life x (loose r)) }) None → TaskFalls w u
    gives : (x : CodeThread) (c : Owned) → thread_at w.threads u ≡ Some x → x.life ≡ ended (Own (plain_of c)) → Carries k n y B (record w { threads = with_thread w.threads (with_life x over) }) c → TaskFalls w u
    is_alive : (x : CodeThread) (r : Place) → thread_at w.threads u ≡ Some x → x.life ≡ alive r → Shows k n y B w None → TaskFalls w u
    was_over : (x : CodeThread) → thread_at w.threads u ≡ Some x → x.life ≡ over → Shows k n y B w None → TaskFalls w u

  module _ (others : Others k n y B) (w : CodeWhole) (u : ℕ) (carried : Carries k n y B w (owned.Task u)) where
    abbrev v : Owned
    v = owned.Task u

    abbrev p : Node
    p = task_n u

    abbrev s : Sight
    s = held.sight_with k n y B (Some v)

    abbrev s0 : Sight
    s0 = held.sight_with k n y B None

    abbrev In : Option Owned → Node → Bool
    In c = held.In k n y B c

    mine : owns p v ≡ true
    mine = eq_cases (λ c. c ≡ true) u u (λ _. refl) (λ ne. absurd (ne refl))

    alone : held.any_in k n y B (Some v) p ≡ false
    alone = carried.alone p refl mine

    known : KnownTask k n y B u
    known = carried.known u mine

    in_it : In (Some v) p ≡ true
    in_it = held.hand_in k n y B (Some v) p (omega (arith, ap one mine))

    other_task : (x : ℕ) → u ≢ x → owns (task_n x) v ≡ false
    other_task x ne = eq_cases (λ b. b ≡ false) u x (λ e. absurd (ne e)) (λ _. refl)

    abbrev result : Option Plain
    result = option_map plain_of (under s0 p B)

    result_is : first_shown (result_value s u) (held.things_with k n y B (Some v)) ≡ result
    result_is = shows.results_same k n y B (Some v) None u ∙ carrying.first_is k n y B others p

    unheld : tot (held_branch u) (held.things_with k n y B (Some v)) ≡ 0
    unheld = let a = held.tot_with k n y B (held_branch u) (λ z. refl) (Some v) in let b = held.tot_with k n y B (held_branch u) (λ z. refl) None in omega (arith, a, b, known.unheld)

    module _ (c : Option Owned) (e : under s0 p B ≡ c) where
      abbrev s2 : Sight
      s2 = held.sight_with k n y B c

      goes_in : (q : Node) → owns q v ≡ false → In (Some v) q ≡ In c q
      goes_in = held.goes_in k n y B v p mine (task_only u) c (λ z. carrying.counted k n y B others p z c e) alone

      out : In c p ≡ false
      out = held.it_goes k n y B v p mine (task_only u) c (λ z. carrying.counted k n y B others p z c e) alone

      lives : LetGo (life_at s u (standing_at s.ground.threads u)) (life_at s2 u (standing_at s2.ground.threads u)) (first_shown (result_value s u) (held.things_with k n y B (Some v)))
      lives = shows.is_let_go k n y B (Some v) c u unheld in_it out (λ z f g. shows.results_same k n y B (Some v) None u ∙ others.silent u z f g)

      abbrev lived : PlainLife
      lived = life_at s u (standing_at s.ground.threads u)

      abbrev lives_then : PlainLife
      lives_then = life_at s2 u (standing_at s2.ground.threads u)

      given_here : is_given_thread s u ≡ true
      given_here = shows.given_same k n y B (Some v) None u ∙ known.given

      given_then : is_given_thread s2 u ≡ true
      given_then = shows.given_same k n y B c None u ∙ known.given

      was : running_in (thread_at w.threads u) ≡ Some lived
      was = carried.same.threads u ∙ ap (λ b. if_given b lived) given_here

      becomes : (state_of s2).thread u ≡ Some lives_then
      becomes = ap (λ b. if_given b lives_then) given_then

      shares : (m : MutexNo) → tot (share_in s m) (held.things_with k n y B (Some v)) ≡ tot (share_in s2 m) (held.things_with k n y B c)
      shares m = let l = shows.share_goes k n y B m v p mine (task_only u) c (λ z. carrying.counted k n y B others p z c e) alone in omega (arith, l)

      -- the plain machine with that thread in another life
      module _ (x : CodeThread) (found : thread_at w.threads u ≡ Some x) (l : CodeLife) (shown : running x.slots l ≡ lives_then) (same_over : is_over l ≡ is_over x.life) where
        abbrev w2 : CodeWhole
        w2 = record w { threads = with_thread w.threads (with_life x l) }

        number : x.number ≡ u
        number = found_number w.threads u x found

        put : thread_at w2.threads u ≡ Some (with_life x l)
        put = put_at w.threads (with_life x l) u number ∙ ap (put_in (with_life x l)) found

        off : (z : ℕ) → u ≢ z → thread_at w2.threads z ≡ thread_at w.threads z
        off z ne = put_off w.threads (with_life x l) z (λ f. ne (sym number ∙ f))

        over_same : (z : ℕ) → is_over_in (thread_at w2.threads z) ≡ is_over_in (thread_at w.threads z)
        over_same z =
            eq_cases (λ b. is_over_in (thread_at w2.threads z) ≡ is_over_in (thread_at w.threads z)) u z
            (λ f. subst (λ i. is_over_in (thread_at w2.threads i) ≡ is_over_in (thread_at w.threads i)) f (ap is_over_in put ∙ same_over ∙ sym (ap is_over_in found))) (λ ne. ap is_over_in (off z ne))

        pub relived : Shows k n y B w2 c
        relived = record {
          threads = λ z. eq_cases (λ b. running_in (thread_at w2.threads z) ≡ (state_of s2).thread z) u z
              (λ f. subst (λ i. running_in (thread_at w2.threads i) ≡ (state_of s2).thread i) f (ap running_in put ∙ ap Some shown ∙ sym becomes))
              (λ ne. ap running_in (off z ne) ∙ carried.same.threads z ∙ shows.thread_same k n y B (Some v) c z (goes_in (task_n z) (other_task z ne)));
          made = λ z. ap (λ b. if b then 0 else length (made_by w.heap z)) (over_same z) ∙ carried.same.made z ∙ shows.made_same k n y B (Some v) c z;
          pairs = λ z. ap (λ b. if b then None else two_of (plain_pair w.pairs z)) (over_same z) ∙ carried.same.pairs z ∙ shows.pairs_same k n y B (Some v) c z;
          objects = λ o. carried.same.objects o ∙ shows.object_same k n y B (Some v) c o (goes_in (object_n o) refl);
          mutexes = λ m. carried.same.mutexes m ∙ shows.mutex_same k n y B (Some v) c m (goes_in (mutex_n m) refl) (shares m);
          given = λ m. carried.same.given m ∙ shows.mutex_given k n y B (Some v) c m;
        }

      -- as it is
      pub unlived : lived ≡ lives_then → Shows k n y B w c
      unlived same = record {
        threads = λ z. eq_cases (λ b. running_in (thread_at w.threads z) ≡ (state_of s2).thread z) u z
            (λ f. subst (λ i. running_in (thread_at w.threads i) ≡ (state_of s2).thread i) f (was ∙ ap Some same ∙ sym becomes))
            (λ ne. carried.same.threads z ∙ shows.thread_same k n y B (Some v) c z (goes_in (task_n z) (other_task z ne)));
        made = λ z. carried.same.made z ∙ shows.made_same k n y B (Some v) c z;
        pairs = λ z. carried.same.pairs z ∙ shows.pairs_same k n y B (Some v) c z;
        objects = λ o. carried.same.objects o ∙ shows.object_same k n y B (Some v) c o (goes_in (object_n o) refl);
        mutexes = λ m. carried.same.mutexes m ∙ shows.mutex_same k n y B (Some v) c m (goes_in (mutex_n m) refl) (shares m);
        given = λ m. carried.same.given m ∙ shows.mutex_given k n y B (Some v) c m;
      }

    -- nothing stands under it
    bare : first_shown (result_value s u) (held.things_with k n y B (Some v)) ≡ None → under s0 p B ≡ None
    bare none = by (under s0 p B) (sym result_is ∙ none)
      where
        by : (o : Option Owned) → option_map plain_of o ≡ None → o ≡ None
        by None e = refl
        by (Some c) e = absurd (cc e)

    found : (l : PlainLife) → running_in (thread_at w.threads u) ≡ Some l → (x : CodeThread) × ((thread_at w.threads u ≡ Some x) × (running x.slots x.life ≡ l))
    found l e = by (thread_at w.threads u) refl e
      where
        by : (o : Option CodeThread) → thread_at w.threads u ≡ o → running_in o ≡ Some l → (x : CodeThread) × ((thread_at w.threads u ≡ Some x) × (running x.slots x.life ≡ l))
        by None q f = absurd (cc f)
        by (Some x) q f = (x, (q, (let g : running x.slots x.life ≡ l = cc in g)))

    pub falls : TaskFalls w u
    falls = by (under s0 p B) refl
      where
        by : (c : Option Owned) → under s0 p B ≡ c → TaskFalls w u
        by None e = of (lives None e)
          where
            of : LetGo (lived None e) (lives_then None e) (first_shown (result_value s u) (held.things_with k n y B (Some v))) → TaskFalls w u
            of (goes_on q before afterwards none) =
                let f = found (owing q) (was None e ∙ ap Some before) in
                let r = owing_is f.0.life f.0.slots q f.1.1 in
                let place : running f.0.slots (owing r.0) ≡ owing q = ap (running f.0.slots) (sym r.1) ∙ f.1.1 in
                lets_go f.0 r.0 f.1.0 r.1 (relived None e f.0 f.1.0 (loose r.0) (loosened f.0.slots r.0 q place ∙ sym afterwards) (sym (ap is_over r.1)))
            of (is_main q before afterwards none) =
                let f = found (alive q) (was None e ∙ ap Some before) in
                let r = alive_is f.0.life f.0.slots q f.1.1 in
                is_alive f.0 r.0 f.1.0 r.1 (unlived None e (before ∙ sym afterwards))
            of (has_result before afterwards) =
                let none : first_shown (result_value s u) (held.things_with k n y B (Some v)) ≡ None = result_is ∙ ap (option_map plain_of) e in
                let is : lived None e ≡ over = before ∙ ap ended_with none in
                let f = found over (was None e ∙ ap Some is) in
                was_over f.0 f.1.0 (over_is f.0.life f.0.slots f.1.1) (unlived None e (is ∙ sym afterwards))
        by (Some c) e = of (lives (Some c) e)
          where
            of : LetGo (lived (Some c) e) (lives_then (Some c) e) (first_shown (result_value s u) (held.things_with k n y B (Some v))) → TaskFalls w u
            of (goes_on q before afterwards none) = absurd (cc (sym e ∙ bare none))
            of (is_main q before afterwards none) = absurd (cc (sym e ∙ bare none))
            of (has_result before afterwards) =
                let some_it : first_shown (result_value s u) (held.things_with k n y B (Some v)) ≡ Some (plain_of c) = result_is ∙ ap (option_map plain_of) e in
                let is : lived (Some c) e ≡ ended (Own (plain_of c)) = before ∙ ap ended_with some_it in
                let f = found (ended (Own (plain_of c))) (was (Some c) e ∙ ap Some is) in
                let life = ended_is f.0.life f.0.slots (Own (plain_of c)) f.1.1 in
                gives f.0 c f.1.0 life (carrying.comes k n y B others v p mine (task_only u) alone c e (record w { threads = with_thread w.threads (with_life f.0 over) }) (relived (Some c) e f.0 f.1.0 over (sym afterwards) (sym (ap is_over life))))
