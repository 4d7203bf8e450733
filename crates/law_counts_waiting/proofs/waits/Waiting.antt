-- Threads that wait for what a home gives, or have it, stand right after each event: the mutex at the place of a lock or a dup is the one that was there.
use Rattle.std.proofs.Common.{◌≡◌, ◌≢◌, inl, inr, ℕ, zero, suc, ◌+◌, ◌-◌, ◌≤◌, ◌==◌, ◌&&◌, not, is_some, Bool, true, false, List, [], ◌∷◌, Option, Some, None, refl, sym, ap, subst, ◌∙◌, arith}
use Rattle.std.specs.Prelude.{slice_get}
use Rattle.law_counts_asking.proofs.Below.fr_typing.PlaceLemmas.{eq_cases}
use Rattle.law_counts_asking.specs.Below.fr_base.declared.place.Lval.{Lval}
use Rattle.law_counts_asking.specs.Below.fr_base.declared.name.MutexNo.{MutexNo}
use Rattle.law_counts_asking.specs.Below.fr_base.declared.step.Fresh.{Fresh}
use Rattle.law_counts_asking.specs.Below.fr_base.declared.instruction.Instr.{Instr}
use Rattle.law_counts_asking.specs.Below.fr_base.declared.instruction.Instr.TheVariants as instr
use Rattle.law_counts_asking.specs.Below.heap_partition.declared.value.Owned.{Owned}
use Rattle.law_counts_asking.specs.Below.thread_state.View.{ThreadState, is_over}
use Rattle.law_counts_asking.specs.Below.thread_state.declared.phase.Phase.{Phase}
use Rattle.law_counts_asking.specs.Below.thread_state.declared.phase.Phase.TheVariants as phase
use Rattle.law_counts_asking.specs.Below.journal.View.{EntryView}
use Rattle.law_counts_asking.specs.Below.server_model.declared.event.Event.{Event}
use Rattle.law_counts_asking.specs.Below.server_model.declared.event.What.{What}
use Rattle.law_counts_asking.specs.Below.server_model.Servers.{Cluster, server_at}
use Rattle.law_counts_asking.specs.Below.server_model.Clusters.{done_at, apply}
use Rattle.law_counts_asking.specs.Below.coherent_memory.Names.{tot, one, other, if_so, Among}
use Rattle.law_counts_asking.specs.Below.coherent_memory.Things.{Location, Thing, stands, things_of}
use Rattle.law_counts_asking.specs.Below.coherent_memory.Follow.{Standing, Ground, threads_in, thread_at, slot_of, value_behind, leads, locate, value_at}
use Rattle.law_counts_asking.specs.Below.coherent_memory.Sight.{sight}
use Rattle.law_counts_asking.specs.Below.coherent_memory.Paths.{joined_thread}
use Rattle.law_counts_asking.specs.Below.coherent_memory.Walking.{instr_of}
use Rattle.law_counts_asking.specs.Below.coherent_memory.Requests.{mutex_of, is_mutex, is_task, is_got, early_gift, is_value_of, stands_wrong, gift_there, gift_fits as fits_at, locked_mutex, dupped_mutex}
use Rattle.law_counts_asking.specs.Below.coherent_memory.Coherent.{Sentence, Holds, phases_stand, gifts_fit, gifts_got}
use Rattle.law_counts_asking.specs.Below.coherent_types.ClusterTypes.{IsCoherent}
use Rattle.law_counts_asking.specs.Below.law_words_paths.paths.HeapStore.{GoesOn, HasPaths}
use Rattle.law_counts_asking.proofs.Below.law_words_paths.paths.Contained.{among_thread}
use Rattle.law_counts_asking.proofs.Below.law_words_paths.paths.Sole.{some_is}
use Rattle.law_words_asked.specs.Below.law_words_paths.words.Reworded.{HasPlaces}
use Rattle.law_words_asked.specs.Below.law_words_kept.reads.Reading.{Reads, dups, locks}
use Rattle.law_words_asked.proofs.Below.law_words_kept.reads.FreshReads.{Reading, reading_of}
use Rattle.law_counts_asking.specs.Below.law_counts_sums.Laws.{Gives, FewEvents}
use Rattle.law_counts_asking.proofs.Below.law_counts_sums.Results.{then_gives, map_gives, both_give}
use Rattle.law_counts_asking.proofs.Below.law_counts_sums.Sending.{applied_part}
use Rattle.law_words_asked.specs.Below.law_heap_still.events.Shows.{ShownThread, shown_thread}
use Rattle.law_words_asked.proofs.Below.law_heap_still.events.Told.{told, at_thread, thread_told, found}
use Rattle.law_counts_asking.specs.Below.law_counts_things.things.Laws.{EachCoherentEventKeeps}
use Rattle.law_counts_asking.specs.Standing.{locked, dupped, phase_off, gift_at, gift_off, off, StandBy, EachUndoneEventKeeps}
use Rattle.law_counts_asking.proofs.GiftsGot.{gifts_got_kept}
use Rattle.law_counts_asking.proofs.AtInstructions.{asked_there}
use Rattle.law_counts_asking.proofs.Undone.{phases_undone, gifts_undone}
use Rattle.law_counts_waiting.proofs.waits.Commits.{is_calm}
use Rattle.law_counts_waiting.proofs.waits.Clusters.{Stepping, Leaves, Done, step_done}
use Rattle.law_counts_waiting.proofs.waits.Places.{StillThere, still_there, reads_apart, mutex_kept}

-- where nobody of that number stands its places lead nowhere
nobody : (g : Ground) (n slot d : ℕ) → thread_at g.threads n ≡ None → value_behind g (locate g n slot d) ≡ None
nobody g n slot zero e = ap (λ o. slot_of o slot) e
nobody g n slot (suc d) e = ap (λ v. value_behind g (leads n v)) (nobody g n slot d e)

-- AFTER A STEP THAT IS DONE

-- what is known of the cluster
record After (k c : Cluster) : Type 0 where
  code : c.code ≡ k.code
  stand : StandBy k c
  places : HasPlaces c
  got : Holds c gifts_got

module _ (k c : Cluster) (what : What) (a : After k c) (done : Done k what (things_of k) (things_of c)) where
  abbrev G : Ground
  G = (sight k).ground

  abbrev G2 : Ground
  G2 = (sight c).ground

  abbrev p : HasPaths k
  p = done.paths

  abbrev t : ℕ
  t = done.thread

  found_there : (y : Standing) → Among y (threads_in (things_of c)) → thread_at G2.threads y.thread.number ≡ Some y
  found_there y among = let places = a.places in found y (things_of c) (places.numbers_differ y.thread.number) among

  -- THE THREAD THAT STEPPED

  -- it calls no home
  calm_there : (y : Standing) → Among y (threads_in (things_of c)) → y.thread.number ≡ t → is_calm y.thread.phase ≡ true
  calm_there y among named =
      let leaves = done.leaves in
      let st = leaves.stepping in
      let f : Thing → ℕ = at_thread (λ x. one (is_calm x.thread.phase)) t in
      let itself : one (st.thread.number == t) ≡ 1 = eq_cases (λ b. one b ≡ 1) st.thread.number t (λ e. refl) (λ n. absurd (n st.number)) in
      let mine : f (stands done.server false st.thread) ≡ 1 = weighs (st.thread.number == t) st.thread.phase itself st.calm in
      let places = a.places in
      let one_there : tot f (things_of c) ≡ told (λ x. one (is_calm x.thread.phase)) (thread_at G2.threads t) = thread_told (λ x. one (is_calm x.thread.phase)) t (things_of c) (places.numbers_differ t) in
      let there : told (λ x. one (is_calm x.thread.phase)) (thread_at G2.threads t) ≡ one (is_calm y.thread.phase) = ap (told (λ x. one (is_calm x.thread.phase))) (ap (thread_at G2.threads) (sym named) ∙ found_there y among) in
      truly (is_calm y.thread.phase) (omega (arith, st.there f, mine, one_there, there))
    where
      weighs : (b : Bool) (q : Phase) → one b ≡ 1 → is_calm q ≡ true → if_so b (one (is_calm q)) ≡ 1
      weighs true q e f = ap one f
      weighs false q e f = absurd (cc e)

      truly : (b : Bool) → 1 ≤ one b → b ≡ true
      truly true l = refl
      truly false l = absurd (omega (arith, l))

  -- OTHERS

  -- a place that a thread reads at its instruction
  reads_all : (x : Standing) (i : Instr) (w : Lval) → GoesOn k x → instr_of (sight k) x ≡ Some i → Reads i w w.depth → (d : ℕ) (l : Location) → d ≤ w.depth → locate G x.thread.number w.slot d ≡ Some l → Reading k p x l
  reads_all x i w g at reads d l le located = reading_of k p x i w w.depth d l g at reads (w.depth - d) (omega (arith, le)) located

  -- the mutex at its place is the one that was there
  kept : (y : Standing) → Among y (threads_in (things_of c)) → y.thread.number ≢ t → is_over y.thread.phase ≡ false → (i : Instr) (w : Lval) → slice_get k.code y.thread.pc ≡ Some i → Reads i w w.depth
      → (m : MutexNo) → mutex_of (value_at G y.thread.number w) ≡ Some m → mutex_of (value_at G2 y.thread.number w) ≡ Some m
  kept y among ne going i w code reads m there = by (thread_at G.threads y.thread.number) refl
    where
      some_none : None ≡ Some m → ⊥
      some_none e = absurd (cc e)

      by : (o : Option Standing) → thread_at G.threads y.thread.number ≡ o → mutex_of (value_at G2 y.thread.number w) ≡ Some m
      by None e = absurd (some_none (sym (ap mutex_of (nobody G y.thread.number w.slot w.depth e)) ∙ there))
      by (Some x) e =
          let listed = among_thread G.threads y.thread.number x e in
          let off_t : x.thread.number ≢ t = λ (q : x.thread.number ≡ t). ne (sym listed.1 ∙ q) in
          let still : StillThere k c t done.server done.paths a.places done.leaves x = still_there k c t done.server done.paths a.places done.leaves x listed.0 off_t in
          let same : still.standing ≡ y = some_is (sym still.found ∙ ap (thread_at G2.threads) listed.1 ∙ found_there y among) in
          let shown = ap (λ (z : Standing). shown_thread z.thread) (sym same) ∙ still.same in
          let g : GoesOn k x = record { among = listed.0; going = sym (ap (λ (z : ShownThread). z.is_over) shown) ∙ going } in
          let at : instr_of (sight k) x ≡ Some i = sym (ap (λ (z : ShownThread). slice_get k.code z.pc) shown) ∙ code in
          let one_mutex = mutex_kept k c t done.server done.paths a.places done.leaves x g off_t w (λ d l le located. reads_apart k p x l (reads_all x i w g at reads d l le located)) in
          subst (λ u. mutex_of (value_at G2 u w) ≡ Some m) listed.1 (sym one_mutex ∙ ap (λ u. mutex_of (value_at G u w)) listed.1 ∙ there)

  -- SENTENCES

  -- what the mutex was it is
  locked_kept : (y : Standing) → Among y (threads_in (things_of c)) → y.thread.number ≢ t → is_over y.thread.phase ≡ false → (i : Option Instr) → slice_get k.code y.thread.pc ≡ i → (m : MutexNo) → locked G y.thread.number i ≡ Some m → locked_mutex (sight c) y i ≡ Some m
  locked_kept y among ne going (Some (instr.Lock w)) e m there = kept y among ne going (instr.Lock w) w e (locks refl) m there
  locked_kept y among ne going i e m there = absurd (cc there)

  dupped_kept : (y : Standing) → Among y (threads_in (things_of c)) → y.thread.number ≢ t → is_over y.thread.phase ≡ false → (i : Option Instr) → slice_get k.code y.thread.pc ≡ i → (m : MutexNo) → dupped G y.thread.number i ≡ Some m → dupped_mutex (sight c) y i ≡ Some m
  dupped_kept y among ne going (Some (instr.Dup w)) e m there = kept y among ne going (instr.Dup w) w e (dups refl) m there
  dupped_kept y among ne going i e m there = absurd (cc there)

  -- a test that some mutex passes, where that mutex is there still
  goes_over : (f : Option MutexNo → Bool) (o o2 : Option MutexNo) → f None ≡ false → other (f o) ≡ 0 → ((m : MutexNo) → o ≡ Some m → o2 ≡ Some m) → other (f o2) ≡ 0
  goes_over f None o2 none z go = let q : other (f None) ≡ 1 = ap other none in absurd (omega (arith, z, q))
  goes_over f (Some m) o2 none z go = ap (λ o. other (f o)) (go m refl) ∙ z

  -- it isn't the one that stepped
  not_calm : (y : Standing) → Among y (threads_in (things_of c)) → is_calm y.thread.phase ≡ false → y.thread.number ≢ t
  not_calm y among e = λ (q : y.thread.number ≡ t). (let z : true ≡ false = sym (calm_there y among q) ∙ e in absurd (cc z))

  phase_then : (y : Standing) → Among y (threads_in (things_of c)) → (q : Phase) → y.thread.phase ≡ q → phase_off G (slice_get k.code y.thread.pc) y.thread q ≡ 0 → stands_wrong (sight c) y q ≡ 0
  phase_then y among (phase.WaitLock m) e z =
      let i = slice_get k.code y.thread.pc in
      ap (λ cs. other (is_mutex m (locked_mutex (sight c) y (slice_get cs y.thread.pc)))) a.code
      ∙ goes_over (is_mutex m) (locked G y.thread.number i) (locked_mutex (sight c) y i) refl z (locked_kept y among (not_calm y among (ap is_calm e)) (ap is_over e) i refl)
  phase_then y among (phase.WaitDup m) e z =
      let i = slice_get k.code y.thread.pc in
      ap (λ cs. other (is_mutex m (dupped_mutex (sight c) y (slice_get cs y.thread.pc)))) a.code
      ∙ goes_over (is_mutex m) (dupped G y.thread.number i) (dupped_mutex (sight c) y i) refl z (dupped_kept y among (not_calm y among (ap is_calm e)) (ap is_over e) i refl)
  phase_then y among (phase.WaitJoin u) e z = ap (λ cs. other (is_task u (joined_thread (slice_get cs y.thread.pc) y.thread))) a.code ∙ z
  phase_then y among q e z = refl

  -- who has a gift has got it
  got_phase : (y : Standing) (v : Owned) → y.thread.gift ≡ Some v → early_gift y ≡ 0 → y.thread.phase ≡ phase.Got
  got_phase y v e z = by y.thread.phase refl (sym (ap (λ g. one (is_some g && not (is_got y.thread.phase))) e) ∙ z)
    where
      by : (q : Phase) → y.thread.phase ≡ q → one (true && not (is_got q)) ≡ 0 → y.thread.phase ≡ phase.Got
      by phase.Got r f = r
      by q r f = absurd (cc f)

  gift_then : (y : Standing) → Among y (threads_in (things_of c)) → early_gift y ≡ 0 → (g : Option Owned) → y.thread.gift ≡ g → gift_off G (slice_get k.code y.thread.pc) y.thread g ≡ 0 → gift_there (sight c) y g ≡ 0
  gift_then y among early None e z = refl
  gift_then y among early (Some v) e z =
      let got = got_phase y v e early in
      ap (λ cs. fits_at (sight c) y v (slice_get cs y.thread.pc)) a.code ∙ by (not_calm y among (ap is_calm got)) (ap is_over got) (slice_get k.code y.thread.pc) refl z
    where
      by : y.thread.number ≢ t → is_over y.thread.phase ≡ false → (i : Option Instr) → slice_get k.code y.thread.pc ≡ i → gift_at G i y.thread v ≡ 0 → fits_at (sight c) y v i ≡ 0
      by ne going (Some (instr.Lock w)) r q = goes_over is_some (locked G y.thread.number (Some (instr.Lock w))) (locked_mutex (sight c) y (Some (instr.Lock w))) refl q (locked_kept y among ne going (Some (instr.Lock w)) r)
      by ne going (Some (instr.Dup w)) r q = goes_over (is_value_of v) (dupped G y.thread.number (Some (instr.Dup w))) (dupped_mutex (sight c) y (Some (instr.Dup w))) refl q (dupped_kept y among ne going (Some (instr.Dup w)) r)
      by ne going (Some (instr.Join o)) r q = q
      by ne going i r q = absurd (cc q)

  -- of each thread, by what is known of each
  each : (f g h : Standing → ℕ) (xs : List Standing) → ((y : Standing) → Among y xs → f y ≡ 0 → g y ≡ 0 → h y ≡ 0) → tot f xs ≡ 0 → tot g xs ≡ 0 → tot h xs ≡ 0
  each f g h [] go x y = refl
  each f g h (z ∷ xs) go x y = omega (arith, go z (inl refl) (omega (arith, x)) (omega (arith, y)), each f g h xs (λ w m. go w (inr m)) (omega (arith, x)) (omega (arith, y)))

  phases_then : Holds c phases_stand
  phases_then = each (off k) early_gift (λ y. stands_wrong (sight c) y y.thread.phase) (threads_in (things_of c)) (λ y among z early. phase_then y among y.thread.phase refl (omega (arith, z))) a.stand a.got

  gifts_then : Holds c gifts_fit
  gifts_then = each (off k) early_gift (λ y. gift_there (sight c) y y.thread.gift) (threads_in (things_of c)) (λ y among z early. gift_then y among early y.thread.gift refl (omega (arith, z))) a.stand a.got

-- THE EVENT

-- an event leaves the code
pub same_code : (k : Cluster) (e : Event) → Gives (λ (d : Cluster × EntryView). d.0.code ≡ k.code) (apply k e)
same_code k e =
    then_gives (λ (d : Cluster × EntryView). d.0.code ≡ k.code) (server_at k.servers e.server) _ (λ s here. map_gives (λ (d : Cluster × EntryView). d.0.code ≡ k.code) (done_at k e.what s) _ (λ r q. refl))

module _ (k : Cluster) (e : Event) (coherent : IsCoherent k) (few : FewEvents k) where
  abbrev D : Type 0
  D = Cluster × EntryView

  with_it : (P Q : D → Type 0) → Gives P (apply k e) → Gives Q (apply k e) → Gives (λ d. P d × Q d) (apply k e)
  with_it P Q p q = both_give P Q (λ d. P d × Q d) (apply k e) p q (λ d a b. (a, b))

  abbrev Coded : D → Type 0
  Coded d = d.0.code ≡ k.code

  abbrev Stands : D → Type 0
  Stands d = StandBy k d.0

  abbrev Placed : D → Type 0
  Placed d = HasPlaces d.0

  abbrev Is : Sentence → D → Type 0
  Is s d = Holds d.0 s

  known_after : Gives (λ (d : D). After k d.0) (apply k e)
  known_after =
      both_give (λ d. Coded d × Stands d) (λ d. Placed d × Is gifts_got d) (λ (d : D). After k d.0) (apply k e) (with_it Coded Stands (same_code k e) (asked_there k e coherent few))
      (with_it Placed (Is gifts_got) (applied_part HasPlaces (λ c g. record { numbers_differ = g.numbers_differ; home_of_each = g.home_of_each; owner_of_each = g.owner_of_each }) k e coherent.sound few) (gifts_got_kept k e coherent few))
      (λ d a b. record { code = a.0; stand = a.1; places = b.0; got = b.1 })

  abbrev DoneIn : D → Type 0
  DoneIn d = (names : Fresh) → d.1.done ≡ Some names → Done k e.what (things_of k) (things_of d.0)

  -- where a plain step is done, and where none is
  either : (s : Sentence) → Gives (λ (d : D). d.1.done ≡ None → Holds d.0 s) (apply k e) → ((c : Cluster) → After k c → Done k e.what (things_of k) (things_of c) → Holds c s) → Gives (λ (d : D). Holds d.0 s) (apply k e)
  either s undone go =
      both_give (λ (d : D). d.1.done ≡ None → Holds d.0 s) (λ d. After k d.0 × DoneIn d) (λ (d : D). Holds d.0 s) (apply k e) undone (with_it (λ d. After k d.0) DoneIn known_after (step_done k e coherent few)) (λ d u v. by d u v d.1.done refl)
    where
      by : (d : D) → (d.1.done ≡ None → Holds d.0 s) → (After k d.0 × DoneIn d) → (o : Option Fresh) → d.1.done ≡ o → Holds d.0 s
      by d u v None e = u e
      by d u v (Some names) e = go d.0 v.0 (v.1 names e)

-- the phases
pub phases_kept : EachCoherentEventKeeps phases_stand
phases_kept k e coherent few = either k e coherent few phases_stand (phases_undone k e coherent few) (λ c a done. phases_then k c e.what a done)

-- the gifts
pub gifts_kept : EachCoherentEventKeeps gifts_fit
gifts_kept k e coherent few = either k e coherent few gifts_fit (gifts_undone k e coherent few) (λ c a done. gifts_then k c e.what a done)
