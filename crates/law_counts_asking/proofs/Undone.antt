-- What does no plain step leaves who waits for a home, or has a gift, where it stands: the one heap is the same, so the same mutex is at its place.
use Rattle.std.proofs.Common.{◌≡◌, inl, inr, ℕ, ◌%◌, ◌^◌, ◌≤◌, ◌==◌, ◌&&◌, ◌||◌, not, is_some, Bool, true, false, List, [], ◌∷◌, Option, Some, None, refl, sym, ap, subst, ◌∙◌, arith}
use Rattle.std.specs.Prelude.{slice_get}
use Rattle.std.proofs.lemmas.Bool.{eq-eqb}
use Rattle.law_results_reads.specs.Below.fr_base.declared.place.Lval.{Lval}
use Rattle.law_results_reads.specs.Below.fr_base.declared.instruction.Instr.{Instr}
use Rattle.law_results_reads.specs.Below.fr_base.declared.instruction.Instr.TheVariants as instr
use Rattle.law_results_reads.specs.Below.fr_plain.PlainState.{SameState, place_in}
use Rattle.law_results_reads.specs.Below.heap_partition.declared.value.Owned.{Owned}
use Rattle.law_results_reads.specs.Below.thread_state.View.{is_over}
use Rattle.law_results_reads.specs.Below.thread_state.declared.phase.Phase.{Phase}
use Rattle.law_results_reads.specs.Below.thread_state.declared.phase.Phase.TheVariants as phase
use Rattle.law_results_reads.specs.Below.journal.View.{EntryView}
use Rattle.law_results_reads.specs.Below.server_model.declared.event.Event.{Event}
use Rattle.law_results_reads.specs.Below.server_model.Servers.{Cluster, server_at}
use Rattle.law_results_reads.specs.Below.server_model.Clusters.{done_at, apply}
use Rattle.law_results_reads.specs.Below.coherent_memory.Names.{tot, one, other, some, Among}
use Rattle.law_results_reads.specs.Below.coherent_memory.Things.{Thing, stands, things_of}
use Rattle.law_results_reads.specs.Below.coherent_memory.Follow.{Standing, threads_in, thread_at, value_at}
use Rattle.law_results_reads.specs.Below.coherent_memory.Sight.{sight}
use Rattle.law_results_reads.specs.Below.coherent_memory.Weights.{is_thread}
use Rattle.law_results_reads.specs.Below.coherent_memory.Naming.{threads, named_mutexes, started_at, zeroth_thread, zeroth_mutex, uncounted_thread, uncounted_mutex}
use Rattle.law_results_reads.specs.Below.coherent_memory.Requests.{home_of, mutex_of, is_mutex, is_task, is_got, early_gift, is_value_of, stands_wrong, gift_there, locked_mutex, dupped_mutex}
use Rattle.law_results_reads.specs.Below.coherent_memory.Paths.{joined_thread}
use Rattle.law_results_reads.specs.Below.coherent_memory.OneHeap.{one_heap, is_given_thread, running_at}
use Rattle.law_results_reads.specs.Below.coherent_memory.Coherent.{Sentence, Holds, phases_stand, gifts_fit, gifts_got, names_counted, counts_from_one}
use Rattle.law_results_reads.proofs.Below.coherent_memory.Names.{left_none}
use Rattle.law_results_reads.specs.Below.coherent_types.ClusterTypes.{IsCoherent}
use Rattle.law_results_reads.proofs.Below.coherent_types.Branches.{found}
use Rattle.law_results_reads.specs.Below.law_words_paths.paths.HeapStore.{HasPaths}
use Rattle.law_results_reads.proofs.Below.law_words_paths.paths.Alike.{coherent_has_paths}
use Rattle.law_results_reads.proofs.Below.law_words_paths.paths.Contained.{among_thread}
use Rattle.law_results_reads.specs.Below.law_counts_sums.Laws.{Gives, FewEvents, NumbersDiffer}
use Rattle.law_results_reads.proofs.Below.law_counts_sums.Results.{then_gives, map_gives, weaker, both_give}
use Rattle.law_results_reads.proofs.Below.law_counts_sums.Applied.{handed_part}
use Rattle.law_results_reads.proofs.Below.law_counts_sums.Sending.{each_event_sends}
use Rattle.law_counts_things.proofs.names.Sentences.{names_kept, counts_kept}
use Rattle.law_heap_still.proofs.undone.Undone.{each_undone}
use Rattle.law_counts_asking.specs.Standing.{locked, dupped, phase_off, gift_at, gift_off, off, StandBy, EachUndoneEventKeeps}
use Rattle.law_counts_asking.proofs.Parents.{named_none}
use Rattle.law_counts_asking.proofs.GiftsGot.{gifts_got_kept}
use Rattle.law_counts_asking.proofs.AtInstructions.{asked_there}
use Rattle.law_counts_asking.proofs.SameHeap.{Runs, running_place, runs, SeesSame, mutex_kept}

-- AFTERWARDS

-- a thread that stands is counted as one
stands_in : (y : Standing) (b : List Thing) → Among y (threads_in b) → 1 ≤ tot (is_thread y.thread.number) b
stands_in y [] h = absurd h
stands_in y (stands s p t ∷ b) (inl e) =
    let mine : one (t.number == y.thread.number) ≡ 1 = ap (λ (z : Standing). one (t.number == z.thread.number)) (sym e) ∙ ap one (eq-eqb t.number t.number refl) in
    omega (arith, mine)
stands_in y (stands s p t ∷ b) (inr h) = omega (arith, stands_in y b h)
stands_in y (_ ∷ b) h = omega (arith, stands_in y b h)

-- a thread that stands has a name that was given
given_there : (c : Cluster) (n : ℕ) → Holds c names_counted → Holds c counts_from_one → 1 ≤ tot (is_thread n) (things_of c) → is_given_thread (sight c) n ≡ true
given_there c n named zeroth l =
    by (n == 0) (n % 2 ^ 32 == 0) (some (tot (started_at (home_of n) (n % 2 ^ 32)) (things_of c)))
    (named_none zeroth_thread n (things_of c) (left_none (tot (threads zeroth_thread) (things_of c)) (tot (named_mutexes zeroth_mutex) (things_of c)) zeroth) l)
    (named_none (uncounted_thread (sight c)) n (things_of c) (left_none (tot (threads (uncounted_thread (sight c))) (things_of c)) (tot (named_mutexes (uncounted_mutex (sight c))) (things_of c)) named) l)
  where
    by : (a b d : Bool) → one (b && not a) ≡ 0 → other d ≡ 0 → a || (not b && d) ≡ true
    by true b d z e = refl
    by false true d z e = absurd (cc z)
    by false false true z e = refl
    by false false false z e = absurd (cc e)

-- what is known of the cluster after an event
record After (k c : Cluster) : Type 0 where
  code : c.code ≡ k.code
  stand : StandBy k c
  differ : NumbersDiffer c
  named : Holds c names_counted
  zeroth : Holds c counts_from_one
  got : Holds c gifts_got

-- the mutex at the place of a lock, or of a dup, is the one that was there
record Kept (k c : Cluster) (n : ℕ) : Type 0 where
  at_lock : (i : Option Instr) → locked (sight k).ground n i ≡ locked (sight c).ground n i
  at_dup : (i : Option Instr) → dupped (sight k).ground n i ≡ dupped (sight c).ground n i

module _ (k c : Cluster) (p : HasPaths k) (a : After k c) (sees : (n : ℕ) → SeesSame k c n) where
  -- of a thread that goes on
  kept : (y : Standing) → Among y (threads_in (things_of c)) → is_over y.thread.phase ≡ false → Kept k c y.thread.number
  kept y among going = record { at_lock = by_lock; at_dup = by_dup }
    where
      there : thread_at (sight c).ground.threads y.thread.number ≡ Some y
      there = found y (things_of c) (a.differ y.thread.number) among

      its_run : Runs (sight k) y.thread.number (running_at y.thread)
      its_run =
          let same = sees y.thread.number in
          runs (sight k) y.thread.number (running_at y.thread)
          (sym same.place ∙ running_place (sight c) y.thread.number y (given_there c y.thread.number a.named a.zeroth (stands_in y (things_of c) among)) there going)

      listed : Among its_run.standing (threads_in (things_of k)) × (its_run.standing.thread.number ≡ y.thread.number)
      listed = among_thread (threads_in (things_of k)) y.thread.number its_run.standing its_run.found

      mutex_same : (w : Lval)
          → mutex_of (value_at (sight k).ground y.thread.number w) ≡ mutex_of (value_at (sight c).ground y.thread.number w)
      mutex_same w =
          let x = its_run.standing in
          subst (λ m. mutex_of (value_at (sight k).ground m w) ≡ mutex_of (value_at (sight c).ground m w)) listed.1
          (mutex_kept k p c x y (record { among = listed.0; going = its_run.going }) (sees x.thread.number) (subst (λ m. thread_at (sight c).ground.threads m ≡ Some y) (sym listed.1) there) its_run.alike w)

      by_lock : (i : Option Instr) → locked (sight k).ground y.thread.number i ≡ locked (sight c).ground y.thread.number i
      by_lock (Some (instr.Lock w)) = mutex_same w
      by_lock i = refl

      by_dup : (i : Option Instr) → dupped (sight k).ground y.thread.number i ≡ dupped (sight c).ground y.thread.number i
      by_dup (Some (instr.Dup w)) = mutex_same w
      by_dup i = refl

  -- the mutex of a lock by the cluster is that by its places
  locked_is : (y : Standing) (i : Option Instr) → locked_mutex (sight c) y i ≡ locked (sight c).ground y.thread.number i
  locked_is y (Some (instr.Lock w)) = refl
  locked_is y i = refl

  -- and so is that of a dup
  dupped_is : (y : Standing) (i : Option Instr) → dupped_mutex (sight c) y i ≡ dupped (sight c).ground y.thread.number i
  dupped_is y (Some (instr.Dup w)) = refl
  dupped_is y i = refl

  -- a phase that was right by the places before is right
  phase_then : (y : Standing) → Among y (threads_in (things_of c)) → (q : Phase) → y.thread.phase ≡ q → phase_off (sight k).ground (slice_get k.code y.thread.pc) y.thread q ≡ 0 → stands_wrong (sight c) y q ≡ 0
  phase_then y among (phase.WaitLock m) e z =
      let same = kept y among (ap is_over e) in
      let i = slice_get k.code y.thread.pc in
      ap (λ cs. other (is_mutex m (locked_mutex (sight c) y (slice_get cs y.thread.pc)))) a.code ∙ ap (λ o. other (is_mutex m o)) (locked_is y i ∙ sym (same.at_lock i)) ∙ z
  phase_then y among (phase.WaitDup m) e z =
      let same = kept y among (ap is_over e) in
      let i = slice_get k.code y.thread.pc in
      ap (λ cs. other (is_mutex m (dupped_mutex (sight c) y (slice_get cs y.thread.pc)))) a.code ∙ ap (λ o. other (is_mutex m o)) (dupped_is y i ∙ sym (same.at_dup i)) ∙ z
  phase_then y among (phase.WaitJoin u) e z = ap (λ cs. other (is_task u (joined_thread (slice_get cs y.thread.pc) y.thread))) a.code ∙ z
  phase_then y among q e z = refl

  -- who has a gift goes on
  got_going : (y : Standing) (v : Owned) → y.thread.gift ≡ Some v → early_gift y ≡ 0 → is_over y.thread.phase ≡ false
  got_going y v e z = by y.thread.phase (sym (ap (λ g. one (is_some g && not (is_got y.thread.phase))) e) ∙ z)
    where
      by : (q : Phase) → one (true && not (is_got q)) ≡ 0 → is_over q ≡ false
      by phase.Got f = refl
      by q f = absurd (cc f)

  -- so does a gift that fitted
  gift_then : (y : Standing) → Among y (threads_in (things_of c)) → early_gift y ≡ 0 → (g : Option Owned) → y.thread.gift ≡ g → gift_off (sight k).ground (slice_get k.code y.thread.pc) y.thread g ≡ 0 → gift_there (sight c) y g ≡ 0
  gift_then y among early None e z = refl
  gift_then y among early (Some v) e z =
      let same = kept y among (got_going y v e early) in
      ap (λ cs. Rattle.law_results_reads.specs.Below.coherent_memory.Requests.gift_fits (sight c) y v (slice_get cs y.thread.pc)) a.code ∙ by same (slice_get k.code y.thread.pc) z
    where
      by : Kept k c y.thread.number → (i : Option Instr) → gift_at (sight k).ground i y.thread v ≡ 0 → Rattle.law_results_reads.specs.Below.coherent_memory.Requests.gift_fits (sight c) y v i ≡ 0
      by same (Some (instr.Lock w)) q = ap (λ o. other (is_some o)) (sym (same.at_lock (Some (instr.Lock w)))) ∙ q
      by same (Some (instr.Dup w)) q = ap (λ o. other (is_value_of v o)) (sym (same.at_dup (Some (instr.Dup w)))) ∙ q
      by same (Some (instr.Join o)) q = q
      by same i q = absurd (cc q)

  -- of each thread, by what is known of each
  each : (f g h : Standing → ℕ) (xs : List Standing) → ((y : Standing) → Among y xs → f y ≡ 0 → g y ≡ 0 → h y ≡ 0) → tot f xs ≡ 0 → tot g xs ≡ 0 → tot h xs ≡ 0
  each f g h [] go x y = refl
  each f g h (z ∷ xs) go x y = omega (arith, go z (inl refl) (omega (arith, x)) (omega (arith, y)), each f g h xs (λ w m. go w (inr m)) (omega (arith, x)) (omega (arith, y)))

  -- so all phases stand
  phases_then : Holds c phases_stand
  phases_then =
      each (off k) early_gift (λ y. stands_wrong (sight c) y y.thread.phase) (threads_in (things_of c)) (λ y among z early. phase_then y among y.thread.phase refl (omega (arith, z))) a.stand a.got

  -- and all gifts fit
  gifts_then : Holds c gifts_fit
  gifts_then =
      each (off k) early_gift (λ y. gift_there (sight c) y y.thread.gift) (threads_in (things_of c)) (λ y among z early. gift_then y among early y.thread.gift refl (omega (arith, z))) a.stand a.got

-- THE EVENT

-- an event leaves the code
same_code : (k : Cluster) (e : Event) → Gives (λ (d : Cluster × EntryView). d.0.code ≡ k.code) (apply k e)
same_code k e =
    then_gives (λ (d : Cluster × EntryView). d.0.code ≡ k.code) (server_at k.servers e.server) _ (λ s here. map_gives (λ (d : Cluster × EntryView). d.0.code ≡ k.code) (done_at k e.what s) _ (λ r q. refl))

module _ (k : Cluster) (e : Event) (coherent : IsCoherent k) (few : FewEvents k) where
  abbrev D : Type 0
  D = Cluster × EntryView

  -- what holds in each case holds together
  with_it : (P Q : D → Type 0) → Gives P (apply k e) → Gives Q (apply k e) → Gives (λ d. P d × Q d) (apply k e)
  with_it P Q p q = both_give P Q (λ d. P d × Q d) (apply k e) p q (λ d a b. (a, b))

  abbrev Coded : D → Type 0
  Coded d = d.0.code ≡ k.code

  abbrev Stands : D → Type 0
  Stands d = StandBy k d.0

  abbrev Differ : D → Type 0
  Differ d = NumbersDiffer d.0

  abbrev Is : Sentence → D → Type 0
  Is s d = Holds d.0 s

  -- after whatever event
  known_after : Gives (λ (d : D). After k d.0) (apply k e)
  known_after =
      weaker (λ d. (Coded d × Stands d) × ((Differ d × Is names_counted d) × (Is counts_from_one d × Is gifts_got d))) (λ (d : D). After k d.0) (apply k e)
      (with_it (λ d. Coded d × Stands d) (λ d. (Differ d × Is names_counted d) × (Is counts_from_one d × Is gifts_got d)) (with_it Coded Stands (same_code k e) (asked_there k e coherent few))
      (with_it (λ d. Differ d × Is names_counted d) (λ d. Is counts_from_one d × Is gifts_got d)
      (with_it Differ (Is names_counted) (handed_part NumbersDiffer (λ c sums. sums.numbers_differ) k e coherent.sound few (each_event_sends k e coherent.sound few)) (names_kept k e coherent.sound few))
      (with_it (Is counts_from_one) (Is gifts_got) (counts_kept k e coherent.sound few) (gifts_got_kept k e coherent few))))
      (λ d u. record { code = u.0.0; stand = u.0.1; differ = u.1.0.0; named = u.1.0.1; zeroth = u.1.1.0; got = u.1.1.1 })

  -- what is the same in the one heap is seen as the same
  sees_same : (c : Cluster) → SameState (one_heap c) (one_heap k) → (n : ℕ) → SeesSame k c n
  sees_same c same n = record { place = ap (λ l. place_in l) (same.threads n); objects = λ o v f. same.objects o ∙ f }

  -- after an event that does no plain step
  undone : (s : Sentence) → ((c : Cluster) → After k c → SameState (one_heap c) (one_heap k) → Holds c s) → Gives (λ (d : D). d.1.done ≡ None → Holds d.0 s) (apply k e)
  undone s go = both_give (λ (d : D). After k d.0) (λ (d : D). d.1.done ≡ None → SameState (one_heap d.0) (one_heap k)) (λ (d : D). d.1.done ≡ None → Holds d.0 s) (apply k e) known_after (each_undone k e coherent few) (λ d a same none. go d.0 a (same none))

-- the phases
pub phases_undone : EachUndoneEventKeeps phases_stand
phases_undone k e coherent few = undone k e coherent few phases_stand (λ c a same. phases_then k c (coherent_has_paths k coherent) a (sees_same k e coherent few c same))

-- the gifts
pub gifts_undone : EachUndoneEventKeeps gifts_fit
gifts_undone k e coherent few = undone k e coherent few gifts_fit (λ c a same. gifts_then k c (coherent_has_paths k coherent) a (sees_same k e coherent few c same))
