-- The delivery of an object: what each thread has taken it has under another word than the pointer has that its place follows last.
use Rattle.std.proofs.Common.{◌≡◌, ℕ, ◌+◌, not, false, List, [], ◌∷◌, Option, Some, None, is_some, inl, inr, refl, sym, ap, subst, ◌∙◌, arith}
use Rattle.law_words_ends.proofs.Below.fr_typing.PlaceLemmas.{eq_cases}
use Rattle.law_words_ends.specs.Below.fr_base.declared.place.Lval.{Lval}
use Rattle.law_words_ends.specs.Below.heap_partition.declared.value.Cell.{Cell}
use Rattle.law_words_ends.specs.Below.thread_state.View.{ThreadState, is_over}
use Rattle.law_words_ends.specs.Below.thread_state.declared.phase.Phase.{Phase}
use Rattle.law_words_ends.specs.Below.thread_state.declared.phase.Phase.TheVariants as phase
use Rattle.law_words_ends.specs.Below.server_msgs.declared.message.Message.TheVariants as message
use Rattle.law_words_ends.specs.Below.journal.View.{EntryView}
use Rattle.law_words_ends.specs.Below.server_model.declared.event.Event.{Event}
use Rattle.law_words_ends.specs.Below.server_model.declared.event.What.TheVariants.{Step, Deliver}
use Rattle.law_words_ends.specs.Below.server_model.Servers.{Server, Cluster}
use Rattle.law_words_ends.specs.Below.server_model.Events.{is_ready}
use Rattle.law_words_ends.specs.Below.server_model.Clusters.{apply}
use Rattle.law_words_ends.specs.Below.coherent_memory.Names.{tot, one, other, if_so, Among}
use Rattle.law_words_ends.specs.Below.coherent_memory.Things.{Thing, stands, things_of}
use Rattle.law_words_ends.specs.Below.coherent_memory.Follow.{Standing, threads_in, thread_at}
use Rattle.law_words_ends.specs.Below.coherent_memory.Placing.{words}
use Rattle.law_words_ends.specs.Below.coherent_memory.Sight.{sight, issued}
use Rattle.law_words_ends.specs.Below.coherent_memory.Requests.{old_word}
use Rattle.law_words_ends.specs.Below.coherent_memory.Coherent.{Holds, taken_is_new}
use Rattle.law_words_ends.proofs.Below.coherent_memory.Words.{none_at, none_all}
use Rattle.law_words_ends.specs.Below.coherent_types.ClusterTypes.{IsCoherent}
use Rattle.law_words_ends.specs.Below.law_words_paths.paths.HeapStore.{GoesOn, HasPaths}
use Rattle.law_words_ends.proofs.Below.law_words_paths.paths.Alike.{coherent_has_paths}
use Rattle.law_words_ends.proofs.Below.law_words_paths.paths.Contained.{among_thread}
use Rattle.law_words_ends.proofs.Below.law_words_paths.paths.Sole.{some_is}
use Rattle.law_words_ends.specs.Below.law_words_paths.words.Reworded.{HasPlaces}
use Rattle.law_words_ends.specs.Below.law_words_paths.words.Unmoved.{Delivers}
use Rattle.law_words_ends.specs.Below.law_counts_sums.Laws.{Gives, FewEvents}
use Rattle.law_words_ends.proofs.Below.law_counts_sums.Bags.{thread_number}
use Rattle.law_words_ends.proofs.Below.law_counts_sums.Results.{both_give}
use Rattle.law_words_ends.proofs.Below.law_counts_sums.Sending.{applied_part}
use Rattle.law_words_ends.proofs.Below.law_counts_sums.ThreadThere.{thread_there}
use Rattle.law_words_ends.proofs.Below.law_heap_still.events.Told.{found}
use Rattle.law_words_ends.proofs.Below.law_results_events.writes.Routes.{sane_at, roomy_at}
use Rattle.law_words_ends.proofs.Below.law_words_asked.writes.Later.{later_itself, next_unissued, place_vacant}
use Rattle.law_walks_others.specs.Below.law_counts_waiting.waits.Places.{Follows, LeadsAsItDid}
use Rattle.law_walks_others.proofs.Below.law_counts_waiting.waits.Stay.{others_leave}
use Rattle.law_walks_others.proofs.pointers.New.{newly}
use Rattle.law_walks_others.proofs.pointers.Followed.{same_settings}
use Rattle.law_walks_own.proofs.taken.Landed.{all_give, new, Landed, lands_in}
use Rattle.law_walks_own.proofs.taken.After.{Stays, others_stay, own_stays}
use Rattle.law_walks_own.proofs.taken.Stood.{none_new}
use Rattle.law_walks_own.proofs.taken.Words.{other_none}
use Rattle.law_walks_own.proofs.taken.NewWords.{idle, had_taken, own_new}

-- WHAT IS KNOWN AFTERWARDS

-- a place that a thread follows leads where it led
pub record Leading (k : Cluster) : Type 0 where
  pub thread : Standing
  pub place : Lval
  pub goes : GoesOn k thread
  pub follows : Follows k thread place

pub record Known (k : Cluster) (e : Event) (old t : ℕ) (c : Cell) (z : Cluster) : Type 0 where
  pub places : HasPlaces z
  pub code : z.code ≡ k.code
  pub none_new : tot (newly k) (threads_in (things_of z)) ≡ 0
  pub leads : (q : Leading k) → LeadsAsItDid k z q.thread.thread.number q.place
  pub landed : Landed k e old t c z

pub known : (k : Cluster) (e : Event) (old t : ℕ) (c : Cell) → Delivers k e (message.Moved old c t) → IsCoherent k → FewEvents k → Gives (λ (d : Cluster × EntryView). Known k e old t c d.0) (apply k e)
known k e old t c d coherent few =
    both_give (λ (x : Cluster × EntryView). HasPlaces x.0 × ((x.0.code ≡ k.code) × (x.0.options ≡ k.options))) (λ (x : Cluster × EntryView). (tot (newly k) (threads_in (things_of x.0)) ≡ 0) × (((q : Leading k) → LeadsAsItDid k x.0 q.thread.thread.number q.place) × Landed k e old t c x.0))
    (λ (x : Cluster × EntryView). Known k e old t c x.0) (apply k e)
    (both_give (λ (x : Cluster × EntryView). HasPlaces x.0) (λ (x : Cluster × EntryView). (x.0.code ≡ k.code) × (x.0.options ≡ k.options)) (λ (x : Cluster × EntryView). HasPlaces x.0 × ((x.0.code ≡ k.code) × (x.0.options ≡ k.options))) (apply k e)
    (applied_part HasPlaces (λ z s. record { numbers_differ = s.numbers_differ; home_of_each = s.home_of_each; owner_of_each = s.owner_of_each }) k e coherent.sound few) (same_settings k e) (λ x a b. (a, b)))
    (both_give (λ (x : Cluster × EntryView). tot (newly k) (threads_in (things_of x.0)) ≡ 0) (λ (x : Cluster × EntryView). ((q : Leading k) → LeadsAsItDid k x.0 q.thread.thread.number q.place) × Landed k e old t c x.0)
    (λ (x : Cluster × EntryView). (tot (newly k) (threads_in (things_of x.0)) ≡ 0) × (((q : Leading k) → LeadsAsItDid k x.0 q.thread.thread.number q.place) × Landed k e old t c x.0)) (apply k e) (none_new k coherent.sound e few)
    (both_give (λ (x : Cluster × EntryView). (q : Leading k) → LeadsAsItDid k x.0 q.thread.thread.number q.place) (λ (x : Cluster × EntryView). Landed k e old t c x.0)
    (λ (x : Cluster × EntryView). ((q : Leading k) → LeadsAsItDid k x.0 q.thread.thread.number q.place) × Landed k e old t c x.0) (apply k e)
    (all_give (λ (q : Leading k) (x : Cluster × EntryView). LeadsAsItDid k x.0 q.thread.thread.number q.place) (apply k e) (λ q. others_leave k e coherent few q.thread q.place q.goes (no_step q.thread.thread.number) q.follows))
    (lands_in k e old t c d coherent.sound few) (λ x a b. (a, b))) (λ x a b. (a, b)))
    (λ x a b. (let s = a.1 in let f = b.1 in record { places = a.0; code = s.0; none_new = b.0; leads = f.0; landed = f.1 }))
  where
    no_step : (n : ℕ) → e.what ≡ Step n → ⊥
    no_step n f = let g : Step n ≡ Deliver d.place = sym f ∙ d.what in absurd (cc g)

-- THREADS

ready_so : (p : Phase) → one (not (is_ready p)) ≡ 0 → p ≡ phase.Ready
ready_so phase.Ready e = refl
ready_so phase.Got e = absurd (cc e)
ready_so (phase.Taken w) e = absurd (cc e)
ready_so (phase.WaitCell w) e = absurd (cc e)
ready_so (phase.WaitLock m) e = absurd (cc e)
ready_so (phase.WaitDup m) e = absurd (cc e)
ready_so (phase.WaitJoin u) e = absurd (cc e)
ready_so (phase.WaitPar a b) e = absurd (cc e)
ready_so (phase.GotPar a b) e = absurd (cc e)
ready_so phase.Over e = absurd (cc e)

-- what a thread has taken was issued
phase_issued : (f : ℕ → ℕ) (x : Standing) (b : List Thing) → tot (words f) b ≡ 0 → Among x (threads_in b) → (w : ℕ) → x.thread.phase ≡ phase.Taken w → f w ≡ 0
phase_issued f x [] z m w e = absurd m
phase_issued f x (stands r p u ∷ b) z (inl same) w e =
    let is : u.phase ≡ phase.Taken w = ap (λ (q : Standing). q.thread.phase) same ∙ e in
    let its : Rattle.law_words_ends.specs.Below.coherent_memory.Placing.phase_word f u.phase ≡ f w = ap (Rattle.law_words_ends.specs.Below.coherent_memory.Placing.phase_word f) is in
    omega (arith, z, its)
phase_issued f x (stands r p u ∷ b) z (inr m) w e = phase_issued f x b (omega (arith, z)) m w e
phase_issued f x (_ ∷ b) z m w e = phase_issued f x b (omega (arith, z)) m w e

module _ (k : Cluster) (e : Event) (old t : ℕ) (c : Cell) (coherent : IsCoherent k) (few : FewEvents k) (z : Cluster) (a : Known k e old t c z) where
  abbrev l : Landed k e old t c z
  l = a.landed

  abbrev s : Server
  s = l.server

  abbrev y : ThreadState
  y = l.thread

  before : HasPlaces k
  before = record { numbers_differ = coherent.sound.names.numbers_differ; home_of_each = coherent.sound.one_home.home_of_each; owner_of_each = coherent.sound.one_owner.owner_of_each }

  paths : HasPaths k
  paths = coherent_has_paths k coherent

  unissued : issued (sight k) (new k.code s old t c y) ≡ false
  unissued =
      let sane = sane_at k coherent few e.server s l.here in
      let room = roomy_at k coherent few e.server s l.here in
      let v = (place_vacant s.rest.partition sane).within in
      next_unissued k coherent.sound e.server s l.here s.rest.partition (later_itself s.rest.partition) sane.small (omega (arith, room, v))

  leads_so : (x : Standing) → GoesOn k x → (p : Lval) → Follows k x p → LeadsAsItDid k z x.thread.number p
  leads_so x g p f = a.leads (record { thread = x; place = p; goes = g; follows = f })

  abbrev wrong : Standing → ℕ
  wrong x = old_word (sight z) x x.thread.phase

  abbrev own_x : Standing
  own_x = record { server = s.rest.number; packed = false; thread = y }

  own_there : thread_at (sight k).ground.threads t ≡ Some own_x
  own_there = thread_there k coherent.sound e.server s l.here t y l.at

  own_number : y.number ≡ t
  own_number = thread_number s.threads t y l.at

  own_goes : GoesOn k own_x
  own_goes = record { among = (among_thread (sight k).ground.threads t own_x own_there).0; going = (let m = l.comes in ap is_over m.waited) }

  each : (x : Standing) → Among x (sight z).ground.threads → wrong x ≡ 0
  each x among = eq_cases (λ b. wrong x ≡ 0) x.thread.number t own others
    where
      here : thread_at (sight z).ground.threads x.thread.number ≡ Some x
      here = found x (things_of z) (let p = a.places in p.numbers_differ x.thread.number) among

      -- it is what stands there
      it_is : (u : Standing) → u.thread.number ≡ x.thread.number → (st : Stays z u) → wrong u ≡ 0 → wrong x ≡ 0
      it_is u number st none =
          let same : st.standing ≡ x = some_is (sym st.found ∙ ap (thread_at (sight z).ground.threads) number ∙ here) in
          ap wrong (sym same) ∙ st.same wrong ∙ none

      own : x.thread.number ≡ t → wrong x ≡ 0
      own number =
          let m = l.comes in
          let st = own_stays k z before a.places k.code s old t c y m in
          it_is (record { server = s.rest.number; packed = false; thread = m.thread }) (m.number ∙ sym number) st
          (own_new k z before a.places k.code s old t c y m coherent.sound.words.are_issued unissued paths a.code own_x own_goes refl (ap (thread_at (sight k).ground.threads) own_number ∙ own_there) own_number (leads_so own_x own_goes) m.thread m.ends m.number st)

      others : (x.thread.number ≡ t → ⊥) → wrong x ≡ 0
      others ne = by (thread_at (sight k).ground.threads x.thread.number) refl
        where
          stood : (u : Standing) → Among u (sight k).ground.threads → u.thread.number ≡ x.thread.number → thread_at (sight k).ground.threads u.thread.number ≡ Some u → wrong x ≡ 0
          stood u listed number there =
              let off : u.thread.number ≡ t → ⊥ = λ (f : u.thread.number ≡ t). ne (sym number ∙ f) in
              it_is u number (others_stay k z before a.places k.code s old t c y l.comes u there off)
              (idle (sight z) u u.thread.phase (λ w is.
              let g : GoesOn k u = record { among = listed; going = ap is_over is } in
              had_taken k z before a.places k.code s old t c y l.comes coherent.sound.words.are_issued unissued paths a.code u g there off (leads_so u g) w
              (other_none (issued (sight k) w) (phase_issued (λ v. other (issued (sight k) v)) u (things_of k) coherent.sound.words.are_issued listed w is))
              (subst (λ q. old_word (sight k) u q ≡ 0) is (none_at (λ v. old_word (sight k) v v.thread.phase) u (sight k).ground.threads coherent.sound.requests.taken_is_new listed))))

          by : (o : Option Standing) → thread_at (sight k).ground.threads x.thread.number ≡ o → wrong x ≡ 0
          by None f =
              let none : newly k x ≡ 0 = none_at (newly k) x (threads_in (things_of z)) a.none_new among in
              let parts : one (not (is_ready x.thread.phase)) + one (is_some x.thread.gift) ≡ 0 = sym (ap (λ o. if_so (not (is_some o)) (one (not (is_ready x.thread.phase)) + one (is_some x.thread.gift))) f) ∙ none in
              subst (λ q. old_word (sight z) x q ≡ 0) (sym (ready_so x.thread.phase (omega (arith, parts)))) refl
          by (Some u) f = let q = among_thread (sight k).ground.threads x.thread.number u f in stood u q.0 q.1 (ap (thread_at (sight k).ground.threads) q.1 ∙ f)

  pub moved_new : Holds z taken_is_new
  moved_new = none_all wrong (threads_in (things_of z)) each
