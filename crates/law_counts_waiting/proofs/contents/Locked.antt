-- The mutex at the place of a lock whose content has come is the one that was there, after each event.
use Rattle.std.proofs.Common.{◌≡◌, ◌≢◌, inl, inr, ℕ, zero, suc, ◌-◌, ◌%◌, ◌^◌, ◌≤◌, ◌==◌, ◌&&◌, ◌||◌, not, is_some, Bool, true, false, List, [], ◌∷◌, Option, Some, None, refl, sym, ap, subst, ◌∙◌, arith}
use Rattle.std.specs.Prelude.{slice_get}
use Rattle.std.proofs.lemmas.Bool.{eq-eqb}
use Rattle.law_counts_waiting.proofs.Below.fr_typing.PlaceLemmas.{eq_cases}
use Rattle.law_counts_waiting.specs.Below.fr_base.declared.place.Lval.{Lval}
use Rattle.law_counts_waiting.specs.Below.fr_base.declared.name.MutexNo.{MutexNo}
use Rattle.law_counts_waiting.specs.Below.fr_base.declared.step.Fresh.{Fresh}
use Rattle.law_counts_waiting.specs.Below.fr_base.declared.instruction.Instr.{Instr}
use Rattle.law_counts_waiting.specs.Below.fr_base.declared.instruction.Instr.TheVariants as instr
use Rattle.law_counts_waiting.specs.Below.fr_plain.PlainState.{SameState, place_in}
use Rattle.law_counts_waiting.specs.Below.heap_partition.declared.value.Owned.{Owned}
use Rattle.law_counts_waiting.specs.Below.thread_state.View.{is_over}
use Rattle.law_counts_waiting.specs.Below.thread_state.declared.phase.Phase.{Phase}
use Rattle.law_counts_waiting.specs.Below.thread_state.declared.phase.Phase.TheVariants as phase
use Rattle.law_counts_waiting.specs.Below.journal.View.{EntryView}
use Rattle.law_counts_waiting.specs.Below.server_model.declared.event.Event.{Event}
use Rattle.law_counts_waiting.specs.Below.server_model.declared.event.What.{What}
use Rattle.law_counts_waiting.specs.Below.server_model.Servers.{Cluster, server_at}
use Rattle.law_counts_waiting.specs.Below.server_model.Clusters.{done_at, apply}
use Rattle.law_counts_waiting.specs.Below.coherent_memory.Names.{tot, one, other, if_so, some, Among}
use Rattle.law_counts_waiting.specs.Below.coherent_memory.Things.{Location, Thing, stands, things_of}
use Rattle.law_counts_waiting.specs.Below.coherent_memory.Follow.{Standing, Ground, threads_in, thread_at, slot_of, value_behind, leads, locate, value_at}
use Rattle.law_counts_waiting.specs.Below.coherent_memory.Sight.{sight}
use Rattle.law_counts_waiting.specs.Below.coherent_memory.Weights.{is_thread}
use Rattle.law_counts_waiting.specs.Below.coherent_memory.Walking.{instr_of}
use Rattle.law_counts_waiting.specs.Below.coherent_memory.Naming.{threads, named_mutexes, started_at, zeroth_thread, zeroth_mutex, uncounted_thread, uncounted_mutex}
use Rattle.law_counts_waiting.specs.Below.coherent_memory.Requests.{home_of, mutex_of, is_got, early_gift}
use Rattle.law_counts_waiting.specs.Below.coherent_memory.OneHeap.{one_heap, is_given_thread, running_at}
use Rattle.law_counts_waiting.specs.Below.coherent_memory.Coherent.{Sentence, Holds, gifts_got, names_counted, counts_from_one}
use Rattle.law_counts_waiting.proofs.Below.coherent_memory.Names.{left_none}
use Rattle.law_counts_waiting.specs.Below.coherent_types.ClusterTypes.{IsCoherent}
use Rattle.law_counts_waiting.specs.Below.law_words_paths.paths.HeapStore.{GoesOn, HasPaths}
use Rattle.law_counts_waiting.proofs.Below.law_words_paths.paths.Alike.{coherent_has_paths}
use Rattle.law_counts_waiting.proofs.Below.law_words_paths.paths.Contained.{among_thread}
use Rattle.law_counts_waiting.proofs.Below.law_words_paths.paths.Sole.{some_is}
use Rattle.law_counts_waiting.specs.Below.law_words_paths.words.Reworded.{HasPlaces}
use Rattle.law_counts_waiting.specs.Below.law_words_kept.reads.Reading.{Reads, locks}
use Rattle.law_counts_waiting.proofs.Below.law_words_kept.reads.FreshReads.{Reading, reading_of}
use Rattle.law_counts_waiting.specs.Below.law_counts_sums.Laws.{Gives, FewEvents}
use Rattle.law_counts_waiting.proofs.Below.law_counts_sums.Results.{then_gives, map_gives, both_give}
use Rattle.law_counts_waiting.proofs.Below.law_counts_sums.Sending.{applied_part}
use Rattle.law_counts_waiting.specs.Below.law_heap_still.events.Shows.{ShownThread, shown_thread}
use Rattle.law_counts_waiting.proofs.Below.law_heap_still.events.Told.{told, at_thread, thread_told, found}
use Rattle.law_counts_waiting.proofs.Below.law_counts_things.names.Sentences.{names_kept, counts_kept}
use Rattle.law_counts_waiting.proofs.Below.law_heap_still.undone.Undone.{each_undone}
use Rattle.law_counts_waiting.specs.Below.law_counts_asking.Standing.{StandBy}
use Rattle.law_counts_waiting.proofs.Below.law_counts_asking.GiftsGot.{gifts_got_kept}
use Rattle.law_counts_waiting.proofs.Below.law_counts_asking.AtInstructions.{asked_there}
use Rattle.law_counts_waiting.proofs.Below.law_counts_asking.Parents.{named_none}
use Rattle.law_counts_waiting.proofs.Below.law_counts_asking.SameHeap.{Runs, running_place, runs, SeesSame}
use Rattle.law_counts_waiting.proofs.Below.law_counts_asking.SameHeap as same_heap
use Rattle.law_counts_waiting.proofs.waits.Commits.{is_calm}
use Rattle.law_counts_waiting.proofs.waits.Clusters.{Done, step_done}
use Rattle.law_counts_waiting.proofs.waits.Places.{StillThere, still_there, reads_apart}
use Rattle.law_counts_waiting.proofs.waits.Places as places_of

-- WHO HAS A GIFT

-- it has got it
got_phase : (y : Standing) (v : Owned) → y.thread.gift ≡ Some v → early_gift y ≡ 0 → y.thread.phase ≡ phase.Got
got_phase y v e z = by y.thread.phase refl (sym (ap (λ g. one (is_some g && not (is_got y.thread.phase))) e) ∙ z)
  where
    by : (q : Phase) → y.thread.phase ≡ q → one (true && not (is_got q)) ≡ 0 → y.thread.phase ≡ phase.Got
    by phase.Got r f = r
    by q r f = absurd (cc f)

-- what no thread breaks it doesn't
pub none_among : (f : Standing → ℕ) (y : Standing) (xs : List Standing) → Among y xs → tot f xs ≡ 0 → f y ≡ 0
none_among f y [] h z = absurd h
none_among f y (x ∷ xs) (inl e) z = let here : f x ≡ 0 = omega (arith, z) in sym (ap f e) ∙ here
none_among f y (x ∷ xs) (inr h) z = none_among f y xs h (omega (arith, z))

-- what is known of the cluster afterwards
pub record After (k c : Cluster) : Type 0 where
  pub code : c.code ≡ k.code
  pub stand : StandBy k c
  pub places : HasPlaces c
  pub got : Holds c gifts_got
  pub named : Holds c names_counted
  pub zeroth : Holds c counts_from_one

-- the mutex at a lock where a gift is, is the one that was there
abbrev pub LockKept : Cluster → Cluster → Type 0
LockKept k c = (y : Standing) (v : Owned) → Among y (threads_in (things_of c)) → y.thread.gift ≡ Some v → (w : Lval) → slice_get k.code y.thread.pc ≡ Some (instr.Lock w) → (m : MutexNo) → mutex_of (value_at (sight k).ground y.thread.number w) ≡ Some m
    → mutex_of (value_at (sight c).ground y.thread.number w) ≡ Some m

-- where nobody of that number stands its places lead nowhere
nobody : (g : Ground) (n slot d : ℕ) → thread_at g.threads n ≡ None → value_behind g (locate g n slot d) ≡ None
nobody g n slot zero e = ap (λ o. slot_of o slot) e
nobody g n slot (suc d) e = ap (λ v. value_behind g (leads n v)) (nobody g n slot d e)

-- AFTER A STEP THAT IS DONE

module _ (k c : Cluster) (what : What) (a : After k c) (done : Done k what (things_of k) (things_of c)) where
  abbrev G : Ground
  G = (sight k).ground

  abbrev G2 : Ground
  G2 = (sight c).ground

  abbrev p : HasPaths k
  p = done.paths

  abbrev t : ℕ
  t = done.thread

  -- a thread that stands is found by its number
  found_there : (y : Standing) → Among y (threads_in (things_of c)) → thread_at G2.threads y.thread.number ≡ Some y
  found_there y among = let places = a.places in found y (things_of c) (places.numbers_differ y.thread.number) among

  -- the thread that stepped calls no home
  calm_there : (y : Standing) → Among y (threads_in (things_of c)) → y.thread.number ≡ t → is_calm y.thread.phase ≡ true
  calm_there y among named =
      let leaves = done.leaves in
      let st = leaves.stepping in
      let f : Thing → ℕ = at_thread (λ x. one (is_calm x.thread.phase)) t in
      let itself : one (st.thread.number == t) ≡ 1 = eq_cases (λ b. one b ≡ 1) st.thread.number t (λ e. refl) (λ n. absurd (n st.number)) in
      let mine : f (stands done.server false st.thread) ≡ 1 = weighs (st.thread.number == t) st.thread.phase itself st.calm in
      let places = a.places in
      let one_there : tot f (things_of c) ≡ told (λ x. one (is_calm x.thread.phase)) (thread_at G2.threads t) = thread_told (λ x. one (is_calm x.thread.phase)) t (things_of c) (places.numbers_differ t) in
      let there : told (λ x. one (is_calm x.thread.phase)) (thread_at G2.threads t) ≡ one (is_calm y.thread.phase) = ap (told (λ x. one (is_calm x.thread.phase))) (ap (thread_at G2.threads) (sym named) ∙ found_there y among) in
      truly (is_calm y.thread.phase) (omega (arith, st.there f, mine, one_there, there))
    where
      weighs : (b : Bool) (q : Phase) → one b ≡ 1 → is_calm q ≡ true → if_so b (one (is_calm q)) ≡ 1
      weighs true q e f = ap one f
      weighs false q e f = absurd (cc e)

      truly : (b : Bool) → 1 ≤ one b → b ≡ true
      truly true l = refl
      truly false l = absurd (omega (arith, l))

  -- so it has no gift
  not_calm : (y : Standing) → Among y (threads_in (things_of c)) → is_calm y.thread.phase ≡ false → y.thread.number ≢ t
  not_calm y among e = λ (q : y.thread.number ≡ t). (let z : true ≡ false = sym (calm_there y among q) ∙ e in absurd (cc z))

  -- a place that a thread reads at its instruction
  reads_all : (x : Standing) (i : Instr) (w : Lval) → GoesOn k x → instr_of (sight k) x ≡ Some i → Reads i w w.depth → (d : ℕ) (l : Location) → d ≤ w.depth → locate G x.thread.number w.slot d ≡ Some l → Reading k p x l
  reads_all x i w g at reads d l le located = reading_of k p x i w w.depth d l g at reads (w.depth - d) (omega (arith, le)) located

  -- of another thread the mutex at its place is the one that was there
  kept : (y : Standing) → Among y (threads_in (things_of c)) → y.thread.number ≢ t → is_over y.thread.phase ≡ false → (i : Instr) (w : Lval) → slice_get k.code y.thread.pc ≡ Some i → Reads i w w.depth
      → (m : MutexNo) → mutex_of (value_at G y.thread.number w) ≡ Some m → mutex_of (value_at G2 y.thread.number w) ≡ Some m
  kept y among ne going i w code reads m there = by (thread_at G.threads y.thread.number) refl
    where
      some_none : None ≡ Some m → ⊥
      some_none e = absurd (cc e)

      by : (o : Option Standing) → thread_at G.threads y.thread.number ≡ o → mutex_of (value_at G2 y.thread.number w) ≡ Some m
      by None e = absurd (some_none (sym (ap mutex_of (nobody G y.thread.number w.slot w.depth e)) ∙ there))
      by (Some x) e =
          let listed = among_thread G.threads y.thread.number x e in
          let off_t : x.thread.number ≢ t = λ (q : x.thread.number ≡ t). ne (sym listed.1 ∙ q) in
          let still : StillThere k c t done.server done.paths a.places done.leaves x = still_there k c t done.server done.paths a.places done.leaves x listed.0 off_t in
          let same : still.standing ≡ y = some_is (sym still.found ∙ ap (thread_at G2.threads) listed.1 ∙ found_there y among) in
          let shown = ap (λ (z : Standing). shown_thread z.thread) (sym same) ∙ still.same in
          let g : GoesOn k x = record { among = listed.0; going = sym (ap (λ (z : ShownThread). z.is_over) shown) ∙ going } in
          let at : instr_of (sight k) x ≡ Some i = sym (ap (λ (z : ShownThread). slice_get k.code z.pc) shown) ∙ code in
          let one_mutex = places_of.mutex_kept k c t done.server done.paths a.places done.leaves x g off_t w (λ d l le located. reads_apart k p x l (reads_all x i w g at reads d l le located)) in
          subst (λ u. mutex_of (value_at G2 u w) ≡ Some m) listed.1 (sym one_mutex ∙ ap (λ u. mutex_of (value_at G u w)) listed.1 ∙ there)

  -- so the mutex at a lock with a gift is the one that was there
  done_kept : LockKept k c
  done_kept y v among given w code m there =
      let got = got_phase y v given (none_among early_gift y (threads_in (things_of c)) among a.got) in
      kept y among (not_calm y among (ap is_calm got)) (ap is_over got) (instr.Lock w) w code (locks refl) m there

-- WHERE NO PLAIN STEP IS DONE

-- a thread that stands is counted as one
stands_in : (y : Standing) (b : List Thing) → Among y (threads_in b) → 1 ≤ tot (is_thread y.thread.number) b
stands_in y [] h = absurd h
stands_in y (stands s p t ∷ b) (inl e) =
    let mine : one (t.number == y.thread.number) ≡ 1 = ap (λ (z : Standing). one (t.number == z.thread.number)) (sym e) ∙ ap one (eq-eqb t.number t.number refl) in
    omega (arith, mine)
stands_in y (stands s p t ∷ b) (inr h) = omega (arith, stands_in y b h)
stands_in y (_ ∷ b) h = omega (arith, stands_in y b h)

-- a thread that stands has a name that was given
given_there : (c : Cluster) (n : ℕ) → Holds c names_counted → Holds c counts_from_one → 1 ≤ tot (is_thread n) (things_of c) → is_given_thread (sight c) n ≡ true
given_there c n named zeroth l =
    by (n == 0) (n % 2 ^ 32 == 0) (some (tot (started_at (home_of n) (n % 2 ^ 32)) (things_of c)))
    (named_none zeroth_thread n (things_of c) (left_none (tot (threads zeroth_thread) (things_of c)) (tot (named_mutexes zeroth_mutex) (things_of c)) zeroth) l)
    (named_none (uncounted_thread (sight c)) n (things_of c) (left_none (tot (threads (uncounted_thread (sight c))) (things_of c)) (tot (named_mutexes (uncounted_mutex (sight c))) (things_of c)) named) l)
  where
    by : (a b d : Bool) → one (b && not a) ≡ 0 → other d ≡ 0 → a || (not b && d) ≡ true
    by true b d z e = refl
    by false true d z e = absurd (cc z)
    by false false true z e = refl
    by false false false z e = absurd (cc e)

module _ (k c : Cluster) (p : HasPaths k) (a : After k c) (same : SameState (one_heap c) (one_heap k)) where
  -- the one heap shows the same
  sees : (n : ℕ) → SeesSame k c n
  sees n = record { place = ap (λ l. place_in l) (same.threads n); objects = λ o v f. same.objects o ∙ f }

  -- and so it is here
  undone_kept : LockKept k c
  undone_kept y v among given w code m there =
      let going : is_over y.thread.phase ≡ false = ap is_over (got_phase y v given (none_among early_gift y (threads_in (things_of c)) among a.got)) in
      let places = a.places in
      let here : thread_at (sight c).ground.threads y.thread.number ≡ Some y = found y (things_of c) (places.numbers_differ y.thread.number) among in
      let it = sees y.thread.number in
      let run : Runs (sight k) y.thread.number (running_at y.thread) =
      runs (sight k) y.thread.number (running_at y.thread) (sym it.place ∙ running_place (sight c) y.thread.number y (given_there c y.thread.number a.named a.zeroth (stands_in y (things_of c) among)) here going) in
      let x = run.standing in
      let listed = among_thread (threads_in (things_of k)) y.thread.number x run.found in
      let one_mutex : mutex_of (value_at (sight k).ground y.thread.number w) ≡ mutex_of (value_at (sight c).ground y.thread.number w) =
      subst (λ j. mutex_of (value_at (sight k).ground j w) ≡ mutex_of (value_at (sight c).ground j w)) listed.1
      (same_heap.mutex_kept k p c x y (record { among = listed.0; going = run.going }) (sees x.thread.number) (subst (λ j. thread_at (sight c).ground.threads j ≡ Some y) (sym listed.1) here) run.alike w) in
      sym one_mutex ∙ there

-- THE EVENT

-- an event leaves the code
same_code : (k : Cluster) (e : Event) → Gives (λ (d : Cluster × EntryView). d.0.code ≡ k.code) (apply k e)
same_code k e =
    then_gives (λ (d : Cluster × EntryView). d.0.code ≡ k.code) (server_at k.servers e.server) _ (λ s here. map_gives (λ (d : Cluster × EntryView). d.0.code ≡ k.code) (done_at k e.what s) _ (λ r q. refl))

module _ (k : Cluster) (e : Event) (coherent : IsCoherent k) (few : FewEvents k) where
  abbrev D : Type 0
  D = Cluster × EntryView

  -- what holds in each case holds together
  with_it : (P Q : D → Type 0) → Gives P (apply k e) → Gives Q (apply k e) → Gives (λ d. P d × Q d) (apply k e)
  with_it P Q p q = both_give P Q (λ d. P d × Q d) (apply k e) p q (λ d a b. (a, b))

  abbrev Coded : D → Type 0
  Coded d = d.0.code ≡ k.code

  abbrev Stands : D → Type 0
  Stands d = StandBy k d.0

  abbrev Placed : D → Type 0
  Placed d = HasPlaces d.0

  abbrev Is : Sentence → D → Type 0
  Is s d = Holds d.0 s

  abbrev Known : D → Type 0
  Known d = After k d.0

  -- after whatever event
  pub known_after : Gives Known (apply k e)
  known_after =
      both_give (λ d. Coded d × Stands d) (λ d. (Placed d × Is gifts_got d) × (Is names_counted d × Is counts_from_one d)) Known (apply k e) (with_it Coded Stands (same_code k e) (asked_there k e coherent few))
      (with_it (λ d. Placed d × Is gifts_got d) (λ d. Is names_counted d × Is counts_from_one d)
      (with_it Placed (Is gifts_got) (applied_part HasPlaces (λ c g. record { numbers_differ = g.numbers_differ; home_of_each = g.home_of_each; owner_of_each = g.owner_of_each }) k e coherent.sound few) (gifts_got_kept k e coherent few))
      (with_it (Is names_counted) (Is counts_from_one) (names_kept k e coherent.sound few) (counts_kept k e coherent.sound few)))
      (λ d a b. record { code = a.0; stand = a.1; places = b.0.0; got = b.0.1; named = b.1.0; zeroth = b.1.1 })

  abbrev DoneIn : D → Type 0
  DoneIn d = (names : Fresh) → d.1.done ≡ Some names → Done k e.what (things_of k) (things_of d.0)

  abbrev Undone : D → Type 0
  Undone d = d.1.done ≡ None → SameState (one_heap d.0) (one_heap k)

  abbrev Kept : D → Type 0
  Kept d = LockKept k d.0

  -- whether a plain step is done or none
  pub locks_kept : Gives (λ (d : D). Known d × Kept d) (apply k e)
  locks_kept =
      both_give (λ (d : D). Known d × Undone d) DoneIn (λ (d : D). Known d × Kept d) (apply k e) (with_it Known Undone known_after (each_undone k e coherent few)) (step_done k e coherent few)
      (λ d u v. (u.0, by d u.0 u.1 v d.1.done refl))
    where
      by : (d : D) → Known d → Undone d → DoneIn d → (o : Option Fresh) → d.1.done ≡ o → Kept d
      by d u w v None q = undone_kept k d.0 (coherent_has_paths k coherent) u (w q)
      by d u w v (Some names) q = done_kept k d.0 e.what u (v names q)
