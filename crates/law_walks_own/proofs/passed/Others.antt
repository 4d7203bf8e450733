-- What each thread but the event's own one has passed has no copy, after the step of another thread, and after the deliveries of a `move` and of a `drop`.
use Rattle.std.proofs.Common.{◌≡◌, ℕ, zero, suc, Bool, true, false, Some, refl, sym, ap, ◌∙◌, arith}
use Rattle.law_copies_kept.specs.Below.fr_base.declared.name.ObjNo.{ObjNo}
use Rattle.law_copies_kept.specs.Below.fr_base.declared.place.Lval.{Lval}
use Rattle.law_copies_kept.specs.Below.thread_state.View.{is_over}
use Rattle.law_copies_kept.specs.Below.thread_state.declared.phase.Phase.TheVariants as phase
use Rattle.law_copies_kept.specs.Below.journal.View.{EntryView}
use Rattle.law_copies_kept.specs.Below.server_msgs.declared.message.Message.TheVariants as message
use Rattle.law_copies_kept.specs.Below.server_model.declared.event.Event.{Event}
use Rattle.law_copies_kept.specs.Below.server_model.Servers.{Cluster}
use Rattle.law_copies_kept.specs.Below.server_model.Clusters.{apply}
use Rattle.law_copies_kept.specs.Below.coherent_memory.Names.{tot, Among}
use Rattle.law_copies_kept.specs.Below.coherent_memory.Things.{things_of}
use Rattle.law_copies_kept.specs.Below.coherent_memory.Follow.{Standing, threads_in, thread_at}
use Rattle.law_copies_kept.specs.Below.coherent_memory.Sight.{sight}
use Rattle.law_copies_kept.specs.Below.coherent_memory.Walking.{in_walk, early, too_far, over_passed, copied_box}
use Rattle.law_copies_kept.specs.Below.coherent_memory.Weights.{copies}
use Rattle.law_copies_kept.specs.Below.coherent_memory.Coherent.{Holds, passed_not_copied, passed_in_a_walk}
use Rattle.law_copies_kept.proofs.Below.coherent_memory.Words.{none_at, none_all}
use Rattle.law_copies_kept.specs.Below.coherent_types.ClusterTypes.{IsCoherent}
use Rattle.law_copies_kept.specs.Below.law_words_paths.paths.HeapStore.{GoesOn}
use Rattle.law_walks_others.proofs.Below.law_words_kept.ends.Fresh.{Writing, through_it, of_holder, writing}
use Rattle.law_walks_own.specs.Below.law_words_paths.words.Reworded.{HasPlaces}
use Rattle.law_copies_kept.specs.Below.law_counts_sums.Laws.{Gives, FewEvents}
use Rattle.law_copies_kept.proofs.Below.law_counts_sums.Results.{both_give}
use Rattle.law_copies_kept.proofs.Below.law_counts_sums.Sending.{applied_part}
use Rattle.law_walks_own.specs.Below.law_counts_waiting.waits.Places.{Follows, writes, ends_at}
use Rattle.law_walks_own.proofs.Below.law_counts_waiting.waits.Written.{Written}
use Rattle.law_walks_own.specs.Below.law_walks_others.pointers.Pointers.{SamePointers, OthersStepsKeep}
use Rattle.law_walks_own.specs.Below.law_walks_others.pointers.Deliveries.{DeliveryKeeps}
use Rattle.law_walks_own.proofs.Below.law_counts_things.things.Sentences.{passed_kept}
use Rattle.law_walks_own.proofs.Below.law_walks_others.pointers.New.{newly}
use Rattle.law_walks_own.proofs.Below.law_walks_others.pointers.Others.{Known as StepKnown, known as step_known, step_lasts, others_step}
use Rattle.law_walks_own.proofs.Below.law_walks_others.pointers.Still.{places_of, Lasts, stays as stays_still}
use Rattle.law_walks_own.proofs.Below.law_walks_others.pointers.Deliveries.{None_own, None_changed, moves_last, drops_last}
use Rattle.law_walks_own.proofs.Below.law_walks_others.pointers.Delivered.{moves_pointers, drops_pointers}
use Rattle.law_walks_own.proofs.Below.law_walks_others.pointers.Followed.{same_settings}
use Rattle.law_walks_own.proofs.taken.Landed.{all_give}
use Rattle.law_walks_own.proofs.taken.After.{Stays}
use Rattle.law_walks_own.proofs.taken.Stands.{of_others}
use Rattle.law_walks_own.proofs.taken.Stood.{none_new}
use Rattle.law_walks_own.proofs.passed.Passed.{passed_uncopied}
use Rattle.law_walks_own.specs.Below.law_words_paths.words.Unmoved.{pointing}
use Rattle.law_walks_own.proofs.passed.Then.{none_passed, unpassed, over_walks, OnePassed, NoneThen, before_uncopied, uncopied_still}

-- a place that is written is followed
follows_it : (k : Cluster) (x : Standing) (w : Lval) → Writing k x w → Follows k x w
follows_it k x w (through_it t) = writes t.instruction t.at t.writes_to
follows_it k x w (of_holder r is same) = ends_at r is same

-- THE EVENT

-- where there is none of that
abbrev if_none : ℕ → ℕ → ℕ
if_none zero m = m
if_none (suc n) m = 0

pub record OneFollows (k : Cluster) (Own : ℕ → Type 0) : Type 0 where
  pub thread : Standing
  pub place : Lval
  pub goes : GoesOn k thread
  pub apart : Own thread.thread.number → ⊥
  pub follows : Follows k thread place

module _ (k : Cluster) (e : Event) (coherent : IsCoherent k) (few : FewEvents k) (Own : ℕ → Type 0) where
  pub record Known (z : Cluster) : Type 0 where
    pub places : HasPlaces z
    pub code : z.code ≡ k.code
    pub none_new : tot (newly k) (threads_in (things_of z)) ≡ 0
    pub walks : Holds z passed_in_a_walk
    pub stays : (x : Standing) → thread_at (sight k).ground.threads x.thread.number ≡ Some x → (Own x.thread.number → ⊥) → Stays z x
    pub pointers : (q : OneFollows k Own) → SamePointers k z q.thread.thread.number q.place
    pub uncopied : NoneThen k z

  abbrev wrong : Cluster → Standing → ℕ
  wrong z x = over_passed (sight z) (copied_box (sight z)) x

  -- of a thread that has passed nothing outside of a walk
  abbrev counted : Cluster → Standing → ℕ
  counted z x = if_none (early x) (wrong z x)

  pub others_uncopied : (z : Cluster) → Known z → (y : Standing) → Among y (sight z).ground.threads → (Own y.thread.number → ⊥) → wrong z y ≡ 0
  others_uncopied z a y among ne =
      let none : early y ≡ 0 = none_at early y (sight z).ground.threads a.walks among in
      sym (ap (λ m. if_none m (wrong z y)) none)
      ∙ of_others k z a.places a.none_new Own a.stays (counted z) (λ x ready. starts x ready (early x) refl) (λ x listed there off u m same. same (counted z) ∙ both_none (early x) (wrong z x) (kept x listed off (is_over x.thread.phase) refl)) y among ne
    where
      both_none : (n m : ℕ) → m ≡ 0 → if_none n m ≡ 0
      both_none zero m e = e
      both_none (suc n) m e = refl

      starts : (x : Standing) → x.thread.phase ≡ phase.Ready → (m : ℕ) → early x ≡ m → if_none m (wrong z x) ≡ 0
      starts x ready zero f = none_passed (sight z) (sight z) x (unpassed x.thread.phase x.thread.passed (ap in_walk ready) f)
      starts x ready (suc m) f = refl

      kept : (x : Standing) → Among x (sight k).ground.threads → (Own x.thread.number → ⊥) → (b : Bool) → is_over x.thread.phase ≡ b → wrong z x ≡ 0
      kept x listed off true f = none_passed (sight z) (sight z) x (unpassed x.thread.phase x.thread.passed (over_walks x.thread.phase f) (none_at early x (sight k).ground.threads coherent.sound.walks.passed_in_a_walk listed))
      kept x listed off false f =
          let g : GoesOn k x = record { among = listed; going = f } in
          uncopied_still k z x a.code (λ w is m lt. ap pointing ((a.pointers (record { thread = x; place = w; goes = g; apart = off; follows = follows_it k x w (writing k x w is) })) m (omega (arith, lt))).1)
          (none_at (too_far (sight k)) x (sight k).ground.threads coherent.sound.walks.passed_within listed) (before_uncopied k z coherent a.uncopied x listed)

  -- what is known of each event
  abbrev Told : Cluster → Type 0
  Told z = HasPlaces z × (z.code ≡ k.code) × (tot (newly k) (threads_in (things_of z)) ≡ 0) × Holds z passed_in_a_walk × ((q : OnePassed k) → tot (copies q.pointer.word) (things_of z) ≡ 0)

  told : Gives (λ (d : Cluster × EntryView). Told d.0) (apply k e)
  told =
      both_give (λ (d : Cluster × EntryView). HasPlaces d.0 × (d.0.code ≡ k.code)) (λ (d : Cluster × EntryView). (tot (newly k) (threads_in (things_of d.0)) ≡ 0) × Holds d.0 passed_in_a_walk × ((q : OnePassed k) → tot (copies q.pointer.word) (things_of d.0) ≡ 0)) (λ (d : Cluster × EntryView). Told d.0) (apply k e)
      (both_give (λ (d : Cluster × EntryView). HasPlaces d.0) (λ (d : Cluster × EntryView). (d.0.code ≡ k.code) × (d.0.options ≡ k.options)) (λ (d : Cluster × EntryView). HasPlaces d.0 × (d.0.code ≡ k.code)) (apply k e)
      (applied_part HasPlaces (λ z s. record { numbers_differ = s.numbers_differ; home_of_each = s.home_of_each; owner_of_each = s.owner_of_each }) k e coherent.sound few) (same_settings k e) (λ d a b. (a, b.0)))
      (both_give (λ (d : Cluster × EntryView). tot (newly k) (threads_in (things_of d.0)) ≡ 0) (λ (d : Cluster × EntryView). Holds d.0 passed_in_a_walk × ((q : OnePassed k) → tot (copies q.pointer.word) (things_of d.0) ≡ 0))
      (λ (d : Cluster × EntryView). (tot (newly k) (threads_in (things_of d.0)) ≡ 0) × Holds d.0 passed_in_a_walk × ((q : OnePassed k) → tot (copies q.pointer.word) (things_of d.0) ≡ 0)) (apply k e) (none_new k coherent.sound e few)
      (both_give (λ (d : Cluster × EntryView). Holds d.0 passed_in_a_walk) (λ (d : Cluster × EntryView). (q : OnePassed k) → tot (copies q.pointer.word) (things_of d.0) ≡ 0)
      (λ (d : Cluster × EntryView). Holds d.0 passed_in_a_walk × ((q : OnePassed k) → tot (copies q.pointer.word) (things_of d.0) ≡ 0)) (apply k e) (passed_kept k e coherent.sound few)
      (all_give (λ (q : OnePassed k) (d : Cluster × EntryView). tot (copies q.pointer.word) (things_of d.0) ≡ 0) (apply k e) (λ q. passed_uncopied k e coherent few q.thread q.pointer q.passed)) (λ d a b. (a, b)))
      (λ d a b. (a, b.0, b.1))) (λ d a b. (a.0, a.1, b.0, b.1, b.2))

  -- with the pointers on the way of other threads, that is all
  pub all_others : Gives (λ (d : Cluster × EntryView). (x : Standing) → thread_at (sight k).ground.threads x.thread.number ≡ Some x → (Own x.thread.number → ⊥) → Stays d.0 x) (apply k e)
      → ((q : OneFollows k Own) → Gives (λ (d : Cluster × EntryView). SamePointers k d.0 q.thread.thread.number q.place) (apply k e))
      → Gives (λ (d : Cluster × EntryView). (y : Standing) → Among y (sight d.0).ground.threads → (Own y.thread.number → ⊥) → wrong d.0 y ≡ 0) (apply k e)
  all_others stays pointers =
      both_give (λ (d : Cluster × EntryView). Told d.0)
      (λ (d : Cluster × EntryView). ((x : Standing) → thread_at (sight k).ground.threads x.thread.number ≡ Some x → (Own x.thread.number → ⊥) → Stays d.0 x) × ((q : OneFollows k Own) → SamePointers k d.0 q.thread.thread.number q.place))
      (λ (d : Cluster × EntryView). (y : Standing) → Among y (sight d.0).ground.threads → (Own y.thread.number → ⊥) → wrong d.0 y ≡ 0) (apply k e) told
      (both_give (λ (d : Cluster × EntryView). (x : Standing) → thread_at (sight k).ground.threads x.thread.number ≡ Some x → (Own x.thread.number → ⊥) → Stays d.0 x) (λ (d : Cluster × EntryView). (q : OneFollows k Own) → SamePointers k d.0 q.thread.thread.number q.place)
      (λ (d : Cluster × EntryView). ((x : Standing) → thread_at (sight k).ground.threads x.thread.number ≡ Some x → (Own x.thread.number → ⊥) → Stays d.0 x) × ((q : OneFollows k Own) → SamePointers k d.0 q.thread.thread.number q.place)) (apply k e) stays
      (all_give (λ (q : OneFollows k Own) (d : Cluster × EntryView). SamePointers k d.0 q.thread.thread.number q.place) (apply k e) pointers) (λ d a b. (a, b)))
      (λ d a b. others_uncopied d.0 (record { places = a.0; code = a.1; none_new = a.2; walks = a.3; stays = b.0; pointers = b.1; uncopied = a.4 }))

-- THE STEP OF ANOTHER THREAD

pub others_passed : OthersStepsKeep (λ s x. over_passed s (copied_box s) x)
others_passed k e t is coherent few =
    all_others k e coherent few (λ n. n ≡ t)
    (both_give (StepKnown k e coherent few) (λ (d : Cluster × EntryView). HasPlaces d.0) (λ (d : Cluster × EntryView). (x : Standing) → thread_at (sight k).ground.threads x.thread.number ≡ Some x → (x.thread.number ≡ t → ⊥) → Stays d.0 x) (apply k e) (step_known k e coherent few)
    (applied_part HasPlaces (λ z s. record { numbers_differ = s.numbers_differ; home_of_each = s.home_of_each; owner_of_each = s.owner_of_each }) k e coherent.sound few)
    (λ d a b x there ne. (let st = stays_still k d.0 (λ n. n ≡ t) (Written k (a.1 t is).0 t) (places_of coherent) b (step_lasts k d.0 (a.1 t is).0 t (a.1 t is).1) x there ne in record { standing = st.standing; found = st.found; same = st.same })))
    (λ q. others_step k e t is coherent few q.thread q.place q.goes q.apart q.follows)

-- AN OBJECT LEAVES OR GOES

module _ (k : Cluster) (e : Event) (coherent : IsCoherent k) (few : FewEvents k) (Changed : ObjNo → Type 0) (lasts : Gives (λ (d : Cluster × EntryView). Lasts k d.0 None_own Changed) (apply k e))
    (pointers : (x : Standing) (w : Lval) → GoesOn k x → Follows k x w → Gives (λ (d : Cluster × EntryView). SamePointers k d.0 x.thread.number w) (apply k e)) where
  delivered : Gives (λ (d : Cluster × EntryView). Holds d.0 passed_not_copied) (apply k e)
  delivered =
      Rattle.law_copies_kept.proofs.Below.law_counts_sums.Results.weaker (λ (d : Cluster × EntryView). (y : Standing) → Among y (sight d.0).ground.threads → (None_own y.thread.number → ⊥) → over_passed (sight d.0) (copied_box (sight d.0)) y ≡ 0) (λ (d : Cluster × EntryView). Holds d.0 passed_not_copied) (apply k e)
      (all_others k e coherent few None_own
      (both_give (λ (d : Cluster × EntryView). Lasts k d.0 None_own Changed) (λ (d : Cluster × EntryView). HasPlaces d.0) (λ (d : Cluster × EntryView). (x : Standing) → thread_at (sight k).ground.threads x.thread.number ≡ Some x → (None_own x.thread.number → ⊥) → Stays d.0 x) (apply k e) lasts
      (applied_part HasPlaces (λ z s. record { numbers_differ = s.numbers_differ; home_of_each = s.home_of_each; owner_of_each = s.owner_of_each }) k e coherent.sound few)
      (λ d a b x there ne. (let st = stays_still k d.0 None_own Changed (places_of coherent) b a x there ne in record { standing = st.standing; found = st.found; same = st.same })))
      (λ q. pointers q.thread q.place q.goes q.follows))
      (λ d f. none_all (λ y. over_passed (sight d.0) (copied_box (sight d.0)) y) (threads_in (things_of d.0)) (λ y among. f y among (λ h. h)))

pub moves_passed : (w : ℕ) (o : ObjNo) (a t : ℕ) → DeliveryKeeps (message.Move w o a t) passed_not_copied
moves_passed w o a t k e d coherent few = delivered k e coherent few None_changed (moves_last k e w o a t d coherent.sound few) (λ x v g f. moves_pointers w o a t k e d coherent few x v g f)

pub drops_passed : (w : ℕ) (o : ObjNo) → DeliveryKeeps (message.Drop w o) passed_not_copied
drops_passed w o k e d coherent few = delivered k e coherent few (λ q. o ≡ q) (drops_last k e w o d coherent.sound few) (λ x v g f. drops_pointers w o k e d coherent few x v g f)
