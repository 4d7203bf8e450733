-- After the step of a thread: who has taken something is another one, and the pointers on its way are what they were.
use Rattle.std.proofs.Common.{◌≡◌, ℕ, true, false, Some, sym, ap, ◌∙◌, arith}
use Rattle.std.specs.Prelude.{slice_get}
use Rattle.law_words_issued.proofs.Below.fr_typing.PlaceLemmas.{eq_cases}
use Rattle.law_words_issued.specs.Below.fr_base.declared.instruction.Instr.TheVariants as instr
use Rattle.law_words_issued.specs.Below.fr_base.declared.place.Lval.{Lval}
use Rattle.law_words_issued.specs.Below.journal.View.{EntryView}
use Rattle.law_words_issued.specs.Below.server_model.declared.event.Event.{Event}
use Rattle.law_words_issued.specs.Below.server_model.declared.event.What.TheVariants.{Step}
use Rattle.law_words_issued.specs.Below.server_model.Prepare.{is_taken}
use Rattle.law_words_issued.specs.Below.server_model.Servers.{Cluster}
use Rattle.law_words_issued.specs.Below.server_model.Clusters.{apply}
use Rattle.law_words_issued.specs.Below.coherent_memory.Names.{Among, tot}
use Rattle.law_words_issued.specs.Below.coherent_memory.Things.{things_of}
use Rattle.law_words_issued.specs.Below.coherent_memory.Follow.{Standing, threads_in, thread_at}
use Rattle.law_words_issued.specs.Below.coherent_memory.Sight.{Sight, sight}
use Rattle.law_words_issued.specs.Below.law_counts_sums.Laws.{Gives, FewEvents}
use Rattle.law_words_issued.proofs.Below.law_counts_sums.Results.{both_give}
use Rattle.law_words_issued.proofs.Below.law_counts_sums.Sending.{applied_part}
use Rattle.law_words_issued.specs.Below.coherent_types.ClusterTypes.{IsCoherent}
use Rattle.law_words_issued.specs.Below.law_words_paths.paths.HeapStore.{GoesOn, HasPaths}
use Rattle.law_words_issued.specs.Below.law_words_paths.paths.Pointing.{lends}
use Rattle.law_words_issued.proofs.Below.law_words_paths.paths.Sole.{some_is}
use Rattle.law_words_issued.specs.Below.law_words_paths.words.Reworded.{HasPlaces}
use Rattle.law_words_issued.specs.Below.law_words_paths.words.Unmoved.{pointing}
use Rattle.law_words_issued.proofs.Below.law_heap_still.events.Told.{found}
use Rattle.law_words_issued.specs.Below.law_counts_waiting.waits.Places.{Follows, writes}
use Rattle.law_words_issued.proofs.Below.law_counts_waiting.waits.Written.{Written}
use Rattle.law_walks_own.specs.Below.law_walks_others.pointers.Pointers.{SamePointers}
use Rattle.law_walks_own.proofs.Below.law_walks_others.pointers.Clusters.{SeesOn}
use Rattle.law_walks_own.proofs.Below.law_walks_others.pointers.Followed.{same_settings}
use Rattle.law_walks_own.proofs.Below.law_walks_others.pointers.New.{newly}
use Rattle.law_walks_own.proofs.Below.law_walks_others.pointers.Others.{Known, known, step_lasts, others_step}
use Rattle.law_walks_own.proofs.Below.law_walks_others.pointers.Still.{places_of, stays as stays_still}
use Rattle.law_walks_own.proofs.taken.Landed.{all_give}
use Rattle.law_walks_own.proofs.taken.After.{Stays, stays_there}
use Rattle.law_walks_own.proofs.taken.Own.{Untaken, own_untaken}
use Rattle.law_walks_own.proofs.taken.Stands.{of_others}
use Rattle.law_walks_own.proofs.taken.Stood.{none_new}
use Rattle.law_words_issued.specs.old.Old.{unissued}
use Rattle.law_words_issued.specs.ever.Lent.{StepsLeaveLent}
use Rattle.law_words_issued.proofs.ever.Taken.{lent_by, each_none, idle, kept}

-- who has taken nothing
untaken_none : (f : ℕ → ℕ) (s : Sight) (x : Standing) → is_taken x.thread.phase ≡ false → lent_by f s x ≡ 0
untaken_none f s x e = idle f s.ground x.thread.number x.thread.phase (slice_get s.code x.thread.pc) (λ w is. (let no : true ≡ false = sym (ap is_taken is) ∙ e in absurd (cc no)))

-- the places of other threads
record Away (k : Cluster) (t : ℕ) : Type 0 where
  thread : Standing
  place : Lval
  goes : GoesOn k thread
  other : thread.thread.number ≡ t → ⊥
  follows : Follows k thread place

module _ (k : Cluster) (e : Event) (t : ℕ) (is : e.what ≡ Step t) (coherent : IsCoherent k) (few : FewEvents k) where
  -- what is known afterwards
  record Then (z : Cluster) : Type 0 where
    places : HasPlaces z
    code : z.code ≡ k.code
    none_new : tot (newly k) (threads_in (things_of z)) ≡ 0
    same : (q : Away k t) → SamePointers k z q.thread.thread.number q.place

  then : Gives (λ (d : Cluster × EntryView). Then d.0) (apply k e)
  then =
      both_give (λ (d : Cluster × EntryView). HasPlaces d.0 × ((d.0.code ≡ k.code) × (d.0.options ≡ k.options))) (λ (d : Cluster × EntryView). (tot (newly k) (threads_in (things_of d.0)) ≡ 0) × ((q : Away k t) → SamePointers k d.0 q.thread.thread.number q.place)) (λ (d : Cluster × EntryView). Then d.0) (apply k e)
      (both_give (λ (d : Cluster × EntryView). HasPlaces d.0) (λ (d : Cluster × EntryView). (d.0.code ≡ k.code) × (d.0.options ≡ k.options)) (λ (d : Cluster × EntryView). HasPlaces d.0 × ((d.0.code ≡ k.code) × (d.0.options ≡ k.options))) (apply k e)
      (applied_part HasPlaces (λ z s. record { numbers_differ = s.numbers_differ; home_of_each = s.home_of_each; owner_of_each = s.owner_of_each }) k e coherent.sound few) (same_settings k e) (λ d a b. (a, b)))
      (both_give (λ (d : Cluster × EntryView). tot (newly k) (threads_in (things_of d.0)) ≡ 0) (λ (d : Cluster × EntryView). (q : Away k t) → SamePointers k d.0 q.thread.thread.number q.place)
      (λ (d : Cluster × EntryView). (tot (newly k) (threads_in (things_of d.0)) ≡ 0) × ((q : Away k t) → SamePointers k d.0 q.thread.thread.number q.place)) (apply k e) (none_new k coherent.sound e few)
      (all_give (λ (q : Away k t) (d : Cluster × EntryView). SamePointers k d.0 q.thread.thread.number q.place) (apply k e) (λ q. others_step k e t is coherent few q.thread q.place q.goes q.other q.follows)) (λ d a b. (a, b)))
      (λ d a b. record { places = a.0; code = (a.1).0; none_new = b.0; same = b.1 })

  module _ (z : Cluster) (a : Then z) (p : HasPaths k) (sees : SeesOn k p t (things_of k) (things_of z)) (own : Untaken t (things_of z)) where
    abbrev wrong : Standing → ℕ
    wrong y = lent_by (unissued k) (sight z) y

    own_none : (y : Standing) → Among y (sight z).ground.threads → y.thread.number ≡ t → wrong y ≡ 0
    own_none y among number =
        let places : HasPlaces z = a.places in
        let st : Stays z (record { server = own.server; packed = false; thread = own.thread }) = stays_there z places own.server own.thread own.there in
        let here : thread_at (sight z).ground.threads y.thread.number ≡ Some y = found y (things_of z) (places.numbers_differ y.thread.number) among in
        let same : st.standing ≡ y = some_is (sym st.found ∙ ap (thread_at (sight z).ground.threads) (own.number ∙ sym number) ∙ here) in
        ap wrong (sym same) ∙ st.same wrong ∙ untaken_none (unissued k) (sight z) (record { server = own.server; packed = false; thread = own.thread }) own.untaken

    stay : (x : Standing) → thread_at (sight k).ground.threads x.thread.number ≡ Some x → (x.thread.number ≡ t → ⊥) → Stays z x
    stay x there ne = let st = stays_still k z (λ n. n ≡ t) (Written k p t) (places_of coherent) a.places (step_lasts k z p t sees) x there ne in record { standing = st.standing; found = st.found; same = st.same }

    others_none : (y : Standing) → Among y (sight z).ground.threads → (y.thread.number ≡ t → ⊥) → wrong y ≡ 0
    others_none y among ne =
        of_others k z a.places a.none_new (λ n. n ≡ t) stay wrong (λ x ready. untaken_none (unissued k) (sight z) x (ap is_taken ready)) (λ x listed there off u m same.
        kept k coherent.sound.words.are_issued z a.code x u listed same (λ q goes at n lt. (let both = a.same (record { thread = x; place = q; goes = goes; other = off; follows = writes (instr.BorrowMut q) at lends }) n (omega (arith, lt)) in ap pointing both.1))) y among ne

    step_none : (y : Standing) → Among y (sight z).ground.threads → wrong y ≡ 0
    step_none y among = eq_cases (λ c. wrong y ≡ 0) y.thread.number t (λ number. own_none y among number) (λ ne. others_none y among ne)

pub steps_leave_lent : StepsLeaveLent
steps_leave_lent k e t is coherent few =
    both_give (λ (d : Cluster × EntryView). Then k e t is coherent few d.0) (λ (d : Cluster × EntryView). Known k e coherent few d × Untaken t (things_of d.0)) (λ (d : Cluster × EntryView). Rattle.law_words_issued.specs.old.Old.lent_words (unissued k) (sight d.0) ≡ 0) (apply k e) (then k e t is coherent few)
    (both_give (Known k e coherent few) (λ (d : Cluster × EntryView). Untaken t (things_of d.0)) (λ (d : Cluster × EntryView). Known k e coherent few d × Untaken t (things_of d.0)) (apply k e) (known k e coherent few) (own_untaken k e t is coherent.sound few) (λ d a b. (a, b)))
    (λ d a b. each_none (unissued k) d.0 (step_none k e t is coherent few d.0 a ((b.0).1 t is).0 ((b.0).1 t is).1 b.1))
