-- After each event what a thread has taken is the word of the object to which its place leads, which lies there.
use Rattle.std.proofs.Common.{◌≡◌, ℕ, zero, suc, ◌+◌, ◌-◌, ◌≤◌, ◌==◌, ◌&&◌, Bool, true, false, List, Option, Some, None, refl, sym, ap, subst, ◌∙◌, arith}
use Rattle.std.specs.Prelude.{slice_get, length}
use Rattle.std.proofs.lemmas.Bool.{eq-eqb}
use Rattle.law_words_ends.proofs.Below.fr_typing.PlaceLemmas.{eq_cases}
use Rattle.law_words_ends.specs.Below.fr_base.Lists.{last_of}
use Rattle.law_words_ends.specs.Below.fr_base.declared.name.ObjNo.{ObjNo}
use Rattle.law_words_ends.specs.Below.fr_base.declared.place.Lval.{Lval}
use Rattle.law_words_ends.specs.Below.fr_base.declared.instruction.Instr.{Instr}
use Rattle.law_words_ends.specs.Below.fr_base.declared.instruction.Instr.TheVariants as instr
use Rattle.law_words_ends.specs.Below.heap_partition.declared.value.Cell.{Cell}
use Rattle.law_words_ends.specs.Below.thread_state.View.{ThreadState, is_over}
use Rattle.law_words_ends.specs.Below.thread_state.declared.phase.Phase.{Phase}
use Rattle.law_words_ends.specs.Below.thread_state.declared.phase.Phase.TheVariants as phase
use Rattle.law_words_ends.specs.Below.thread_state.declared.value.Value.{Value}
use Rattle.law_words_ends.specs.Below.thread_state.declared.value.Value.TheVariants as value
use Rattle.law_words_ends.specs.Below.server_msgs.declared.message.Message.{Message}
use Rattle.law_words_ends.specs.Below.server_msgs.declared.message.Message.TheVariants as message
use Rattle.law_words_ends.specs.Below.journal.View.{EntryView}
use Rattle.law_words_ends.specs.Below.server_model.declared.event.Event.{Event}
use Rattle.law_words_ends.specs.Below.server_model.declared.event.What.TheVariants.{Step, Deliver}
use Rattle.law_words_ends.specs.Below.server_model.Servers.{Server, Cluster, server_at}
use Rattle.law_words_ends.specs.Below.server_model.Places.{Spot, in_slot, on_top}
use Rattle.law_words_ends.specs.Below.server_model.Prepare.{LendTo, access_of, assigned, ending, is_taken, read_or_taken}
use Rattle.law_words_ends.specs.Below.server_model.Clusters.{apply}
use Rattle.law_words_ends.specs.Below.coherent_memory.Names.{tot, one, Among}
use Rattle.law_words_ends.specs.Below.coherent_memory.Things.{Location, in_cell, Thing, sent, things_of}
use Rattle.law_words_ends.specs.Below.coherent_memory.Follow.{Standing, threads_in, thread_at, place_at, value_behind, locate}
use Rattle.law_words_ends.specs.Below.coherent_memory.Follow as follow
use Rattle.law_words_ends.specs.Below.coherent_memory.Sight.{Sight, sight}
use Rattle.law_words_ends.specs.Below.coherent_memory.Weights.{lies_at}
use Rattle.law_words_ends.specs.Below.coherent_memory.Walking.{instr_of}
use Rattle.law_words_ends.specs.Below.coherent_memory.Words.{HasWords}
use Rattle.law_words_ends.specs.Below.coherent_memory.Requests.{taken_phase}
use Rattle.law_words_ends.specs.Below.coherent_memory.Coherent.{Holds, IsSound, taken_stands}
use Rattle.law_words_ends.proofs.Below.coherent_memory.Words.{itself, named, none_all}
use Rattle.law_words_ends.specs.Below.fr_base.Names.{same_object}
use Rattle.law_words_ends.proofs.Below.law_counts_sums.MutexResults.{has}
use Rattle.law_words_ends.proofs.Below.law_words_values.freed.Unled.{none_leads}
use Rattle.law_walks_others.proofs.Below.law_counts_waiting.waits.Found.{Weighing, weighing}
use Rattle.law_words_ends.specs.Below.coherent_types.ClusterTypes.{IsCoherent}
use Rattle.law_words_ends.specs.Below.law_words_paths.paths.HeapStore.{GoesOn, HasPaths}
use Rattle.law_words_ends.specs.Below.law_words_paths.paths.Pointing.{lends}
use Rattle.law_words_ends.proofs.Below.law_words_paths.paths.Alike.{coherent_has_paths}
use Rattle.law_words_ends.proofs.Below.law_words_paths.paths.Contained.{among_thread}
use Rattle.law_words_ends.proofs.Below.law_words_paths.paths.Sole.{some_is}
use Rattle.law_words_ends.specs.Below.law_words_paths.words.Reworded.{HasPlaces}
use Rattle.law_words_ends.specs.Below.law_words_paths.words.Unmoved.{Delivers}
use Rattle.law_words_ends.specs.Below.law_counts_sums.Laws.{Gives, FewEvents}
use Rattle.law_words_ends.proofs.Below.law_counts_sums.Results.{both_give}
use Rattle.law_words_ends.proofs.Below.law_counts_sums.Sending.{applied_part}
use Rattle.law_words_ends.proofs.Below.law_counts_sums.Bags.{thread_number}
use Rattle.law_words_ends.proofs.Below.law_counts_sums.ThreadThere.{thread_there}
use Rattle.law_words_ends.proofs.Below.law_heap_still.events.Told.{found, tot_same}
use Rattle.law_words_ends.specs.Below.law_words_kept.prepared.Requests.{WordsHold}
use Rattle.law_words_ends.proofs.Below.law_words_kept.prepared.Asking.{found_number}
use Rattle.law_words_ends.proofs.arrivals.Each.{events_keep_words}
use Rattle.law_words_ends.specs.Below.law_counts_things.things.Laws.{EachCoherentEventKeeps}
use Rattle.law_walks_others.specs.Below.law_counts_waiting.waits.Places.{writes, LeadsAsItDid}
use Rattle.law_walks_others.proofs.Below.law_counts_waiting.waits.Stay.{others_leave}
use Rattle.law_walks_others.proofs.Below.law_counts_waiting.waits.Steady.{stands_steady}
use Rattle.law_walks_others.proofs.Below.law_counts_waiting.waits.Written.{Written}
use Rattle.law_walks_others.proofs.pointers.Clusters.{SeesOn}
use Rattle.law_walks_others.proofs.pointers.Cells.{Seeing, cell_weight}
use Rattle.law_walks_others.proofs.pointers.New.{newly}
use Rattle.law_walks_others.proofs.pointers.Others.{Known as StepKnown, known as step_known, step_lasts, follows_apart}
use Rattle.law_walks_others.proofs.pointers.Still.{places_of, Lasts, stays as stays_still}
use Rattle.law_walks_others.proofs.pointers.Deliveries.{None_own, None_changed, moves_last, drops_last}
use Rattle.law_walks_others.proofs.pointers.Followed.{same_settings}
use Rattle.law_walks_own.proofs.taken.Landed.{all_give, new, access_at, Lands, gain, loss, Untold, Ends, gets_there, takes_there, Landed, lands_in}
use Rattle.law_walks_own.proofs.taken.After.{Stays, stays_there, others_stay, own_stays}
use Rattle.law_walks_own.proofs.taken.Lying.{lying, lying_so, step_lies, landed_lies, dropped_lies, moved_lies}
use Rattle.law_walks_own.proofs.taken.Moved.{Leading}
use Rattle.law_walks_own.proofs.taken.Movers.{asks_it, asked_apart}
use Rattle.law_walks_own.proofs.taken.Own.{Untaken, own_untaken}
use Rattle.law_walks_own.proofs.taken.Stands.{only_taken, Taker, of_others, stands_on, stands_so, took, took_it}
use Rattle.law_walks_own.proofs.taken.Stood.{none_new}
use Rattle.law_walks_own.proofs.taken.Taking.{taken_leads}
use Rattle.law_walks_own.proofs.taken.Ways.{each_way}

-- who has taken nothing
untaken_none : (s : Sight) (x : Standing) (p : Phase) → is_taken p ≡ false → taken_phase s x p ≡ 0
untaken_none s x p e = only_taken s x p (λ w is. (let no : true ≡ false = sym (ap is_taken is) ∙ e in absurd (cc no)))

ready_none : (s : Sight) (x : Standing) → x.thread.phase ≡ phase.Ready → taken_phase s x x.thread.phase ≡ 0
ready_none s x e = ap (taken_phase s x) e

-- WHAT IS KNOWN AFTERWARDS

-- of each event that isn't the thread's own step
module _ (k : Cluster) (e : Event) (coherent : IsCoherent k) (few : FewEvents k) where
  -- threads that don't step follow their places
  pub record Seen (t : ℕ) : Type 0 where
    pub leading : Leading k
    pub apart : e.what ≡ Step leading.thread.thread.number → ⊥

  abbrev Base : Cluster → Type 0
  Base z = HasPlaces z × (z.code ≡ k.code) × (tot (newly k) (threads_in (things_of z)) ≡ 0) × HasWords (sight z) × ((q : Seen 0) → LeadsAsItDid k z q.leading.thread.thread.number q.leading.place)

  base : Gives (λ (d : Cluster × EntryView). Base d.0) (apply k e)
  base =
      both_give (λ (d : Cluster × EntryView). HasPlaces d.0 × (d.0.code ≡ k.code)) (λ (d : Cluster × EntryView). (tot (newly k) (threads_in (things_of d.0)) ≡ 0) × HasWords (sight d.0) × ((q : Seen 0) → LeadsAsItDid k d.0 q.leading.thread.thread.number q.leading.place)) (λ (d : Cluster × EntryView). Base d.0) (apply k e)
      (both_give (λ (d : Cluster × EntryView). HasPlaces d.0) (λ (d : Cluster × EntryView). (d.0.code ≡ k.code) × (d.0.options ≡ k.options)) (λ (d : Cluster × EntryView). HasPlaces d.0 × (d.0.code ≡ k.code)) (apply k e)
      (applied_part HasPlaces (λ z s. record { numbers_differ = s.numbers_differ; home_of_each = s.home_of_each; owner_of_each = s.owner_of_each }) k e coherent.sound few) (same_settings k e) (λ d a b. (a, b.0)))
      (both_give (λ (d : Cluster × EntryView). tot (newly k) (threads_in (things_of d.0)) ≡ 0) (λ (d : Cluster × EntryView). HasWords (sight d.0) × ((q : Seen 0) → LeadsAsItDid k d.0 q.leading.thread.thread.number q.leading.place))
      (λ (d : Cluster × EntryView). (tot (newly k) (threads_in (things_of d.0)) ≡ 0) × HasWords (sight d.0) × ((q : Seen 0) → LeadsAsItDid k d.0 q.leading.thread.thread.number q.leading.place)) (apply k e) (none_new k coherent.sound e few)
      (both_give (λ (d : Cluster × EntryView). WordsHold d.0) (λ (d : Cluster × EntryView). (q : Seen 0) → LeadsAsItDid k d.0 q.leading.thread.thread.number q.leading.place)
      (λ (d : Cluster × EntryView). HasWords (sight d.0) × ((q : Seen 0) → LeadsAsItDid k d.0 q.leading.thread.thread.number q.leading.place)) (apply k e) (events_keep_words k e coherent few)
      (all_give (λ (q : Seen 0) (d : Cluster × EntryView). LeadsAsItDid k d.0 q.leading.thread.thread.number q.leading.place) (apply k e)
      (λ q. others_leave k e coherent few q.leading.thread q.leading.place q.leading.goes q.apart q.leading.follows)) (λ d a b. (a.has_words, b)))
      (λ d a b. (a, b.0, b.1))) (λ d a b. (a.0, a.1, b.0, b.1, b.2))

  -- a thread that had taken an object from which no step of its own leads
  pub record Had (t : ℕ) : Type 0 where
    pub thread : Standing
    pub goes : GoesOn k thread
    pub word : ℕ
    pub took : thread.thread.phase ≡ phase.Taken word
    pub taker : Taker k thread

  -- so what others had taken stands, where their objects lie still
  others_stand : (z : Cluster) → Base z → (Own : ℕ → Type 0) → ((x : Standing) → (Own x.thread.number → ⊥) → e.what ≡ Step x.thread.number → ⊥) → ((x : Standing) → thread_at (sight k).ground.threads x.thread.number ≡ Some x → (Own x.thread.number → ⊥) → Stays z x)
      → ((q : Had 0) → (Own q.thread.thread.number → ⊥) → tot (lies_at q.thread.server q.taker.object) (things_of k) ≤ tot (lies_at q.thread.server q.taker.object) (things_of z))
      → (y : Standing) → Among y (sight z).ground.threads → (Own y.thread.number → ⊥) → taken_phase (sight z) y y.thread.phase ≡ 0
  others_stand z b Own unstepped stay lies y among ne =
      of_others k z b.0 b.2 Own stay (λ v. taken_phase (sight z) v v.thread.phase) (ready_none (sight z)) (λ x listed there off u m same.
      stands_on k z b.3 b.1 x
      (λ g p f n le. b.4 (record { leading = record { thread = x; place = p; goes = g; follows = f }; apart = unstepped x off }) n le)
      (λ g w is q. (let l = lies (record { thread = x; goes = g; word = w; took = is; taker = q }) off in let was = q.lies in omega (arith, l, was)))
      coherent.sound.requests.taken_stands listed u m same) y among ne

-- THE MESSAGE

truly : (b : Bool) → 1 ≤ one b → b ≡ true
truly true l = refl
truly false l = absurd (omega (arith, l))

abbrev moves_it : ObjNo → Message → ℕ
moves_it o (message.Move w q a t) = one (same_object q o)
moves_it o m = 0

abbrev moving : ObjNo → Thing → ℕ
moving o (sent r m) = moves_it o m
moving o x = 0

abbrev drops_it : ObjNo → Message → ℕ
drops_it o (message.Drop w q) = one (same_object q o)
drops_it o m = 0

abbrev dropping : ObjNo → Thing → ℕ
dropping o (sent r m) = drops_it o m
dropping o x = 0

-- the message that is delivered is among the things
record MoveThere (k : Cluster) (o : ObjNo) : Type 0 where
  server : ℕ
  word : ℕ
  target : ℕ
  thread : ℕ
  among : Among (sent server (message.Move word o target thread)) (things_of k)

record DropThere (k : Cluster) (o : ObjNo) : Type 0 where
  server : ℕ
  word : ℕ
  among : Among (sent server (message.Drop word o)) (things_of k)

move_there : (k : Cluster) (sound : IsSound k) (e : Event) (w : ℕ) (o : ObjNo) (a t : ℕ) → Delivers k e (message.Move w o a t) → MoveThere k o
move_there k sound e w o a t d = by it.thing it.among it.weighs
  where
    some : 1 ≤ tot (moving o) (things_of k)
    some = let m : moves_it o (message.Move w o a t) ≡ 1 = ap one (itself o o refl) in omega (arith, m, has k sound e.server d.server d.there d.place (message.Move w o a t) d.message (moving o))

    it : Weighing (moving o) (things_of k)
    it = weighing (moving o) (things_of k) some

    of_message : (r : ℕ) (m : Message) → Among (sent r m) (things_of k) → 1 ≤ moves_it o m → MoveThere k o
    of_message r (message.Move v q b u) h l = record { server = r; word = v; target = b; thread = u; among = subst (λ p. Among (sent r (message.Move v p b u)) (things_of k)) (named q o (truly (same_object q o) l)) h }
    of_message r _ h l = absurd (omega (arith, l))

    by : (x : Thing) → Among x (things_of k) → 1 ≤ moving o x → MoveThere k o
    by (sent r m) h l = of_message r m h l
    by _ h l = absurd (omega (arith, l))

drop_there : (k : Cluster) (sound : IsSound k) (e : Event) (w : ℕ) (o : ObjNo) → Delivers k e (message.Drop w o) → DropThere k o
drop_there k sound e w o d = by it.thing it.among it.weighs
  where
    some : 1 ≤ tot (dropping o) (things_of k)
    some = let m : drops_it o (message.Drop w o) ≡ 1 = ap one (itself o o refl) in omega (arith, m, has k sound e.server d.server d.there d.place (message.Drop w o) d.message (dropping o))

    it : Weighing (dropping o) (things_of k)
    it = weighing (dropping o) (things_of k) some

    of_message : (r : ℕ) (m : Message) → Among (sent r m) (things_of k) → 1 ≤ drops_it o m → DropThere k o
    of_message r (message.Drop v q) h l = record { server = r; word = v; among = subst (λ p. Among (sent r (message.Drop v p)) (things_of k)) (named q o (truly (same_object q o) l)) h }
    of_message r _ h l = absurd (omega (arith, l))

    by : (x : Thing) → Among x (things_of k) → 1 ≤ dropping o x → DropThere k o
    by (sent r m) h l = of_message r m h l
    by _ h l = absurd (omega (arith, l))

-- no place leads to what is dropped
dropped_apart : (k : Cluster) (coherent : IsCoherent k) (o : ObjNo) → DropThere k o → (t slot m : ℕ) → locate (sight k).ground t slot m ≡ Some (in_cell o) → ⊥
dropped_apart k coherent o d t slot zero e = absurd (cc e)
dropped_apart k coherent o d t slot (suc m) e = by (locate (sight k).ground t slot m) e
  where
    by : (l : Option Location) → follow.leads t (value_behind (sight k).ground l) ≡ Some (in_cell o) → ⊥
    by None f = absurd (cc f)
    by (Some l) f = none_leads k coherent o d.server d.word d.among t l f

-- THE EVENTS

module _ (k : Cluster) (e : Event) (coherent : IsCoherent k) (few : FewEvents k) where
  paths : HasPaths k
  paths = coherent_has_paths k coherent

  abbrev HadOne : Type 0
  HadOne = Had k e coherent few 0

  abbrev StandsAt : Cluster → Standing → Type 0
  StandsAt z y = taken_phase (sight z) y y.thread.phase ≡ 0

  all_stand : (z : Cluster) → ((y : Standing) → Among y (sight z).ground.threads → StandsAt z y) → Holds z taken_stands
  all_stand z f = none_all (λ y. taken_phase (sight z) y y.thread.phase) (threads_in (things_of z)) f

  -- A STEP

  same_step : {t u : ℕ} → Step t ≡ Step u → t ≡ u
  same_step f = cc

  module _ (t : ℕ) (is : e.what ≡ Step t) (z : Cluster) (b : Base k e coherent few z) (p : HasPaths k) (sees : SeesOn k p t (things_of k) (things_of z)) (own : Untaken t (things_of z)) where
    own_stands : (y : Standing) → Among y (sight z).ground.threads → y.thread.number ≡ t → StandsAt z y
    own_stands y among number =
        let places : HasPlaces z = b.0 in
        let st : Stays z (record { server = own.server; packed = false; thread = own.thread }) = stays_there z places own.server own.thread own.there in
        let here : thread_at (sight z).ground.threads y.thread.number ≡ Some y = found y (things_of z) (places.numbers_differ y.thread.number) among in
        let same : st.standing ≡ y = some_is (sym st.found ∙ ap (thread_at (sight z).ground.threads) (own.number ∙ sym number) ∙ here) in
        ap (λ (v : Standing). taken_phase (sight z) v v.thread.phase) (sym same) ∙ st.same (λ v. taken_phase (sight z) v v.thread.phase) ∙ untaken_none (sight z) (record { server = own.server; packed = false; thread = own.thread }) own.thread.phase own.untaken

    stay : (x : Standing) → thread_at (sight k).ground.threads x.thread.number ≡ Some x → (x.thread.number ≡ t → ⊥) → Stays z x
    stay x there ne = let st = stays_still k z (λ n. n ≡ t) (Written k p t) (places_of coherent) b.0 (step_lasts k z p t sees) x there ne in record { standing = st.standing; found = st.found; same = st.same }

    lies_on : (q : HadOne) → (q.thread.thread.number ≡ t → ⊥) → tot (lies_at q.thread.server q.taker.object) (things_of k) ≤ tot (lies_at q.thread.server q.taker.object) (things_of z)
    lies_on q ne = step_lies k z p t sees q.thread.server q.taker.object (λ h.
        ne (follows_apart k p q.thread q.goes q.taker.place (writes (instr.BorrowMut q.taker.place) q.taker.at lends) q.taker.place.depth (in_cell q.taker.object) (omega arith) q.taker.leads t q.taker.object refl h))

    step_stands : Holds z taken_stands
    step_stands = all_stand z (λ y among. eq_cases (λ c. StandsAt z y) y.thread.number t (λ number. own_stands y among number)
        (λ ne. others_stand k e coherent few z b (λ n. n ≡ t) (λ x off f. off (same_step (sym f ∙ is))) stay lies_on y among ne))

  steps_stand : (t : ℕ) → e.what ≡ Step t → Gives (λ (d : Cluster × EntryView). Holds d.0 taken_stands) (apply k e)
  steps_stand t is =
      both_give (λ (d : Cluster × EntryView). Base k e coherent few d.0) (λ (d : Cluster × EntryView). StepKnown k e coherent few d × Untaken t (things_of d.0)) (λ (d : Cluster × EntryView). Holds d.0 taken_stands) (apply k e) (base k e coherent few)
      (both_give (StepKnown k e coherent few) (λ (d : Cluster × EntryView). Untaken t (things_of d.0)) (λ (d : Cluster × EntryView). StepKnown k e coherent few d × Untaken t (things_of d.0)) (apply k e) (step_known k e coherent few) (own_untaken k e t is coherent.sound few) (λ d a b. (a, b)))
      (λ d a b. step_stands t is d.0 a ((b.0).1 t is).0 ((b.0).1 t is).1 b.1)

  -- A DELIVERY IN WHICH AN OBJECT LEAVES OR GOES

  module _ (m : Message) (d : Delivers k e m) where
    no_step : (n : ℕ) → e.what ≡ Step n → ⊥
    no_step n f = let g : Step n ≡ Deliver d.place = sym f ∙ d.what in absurd (cc g)

    deliveries_stand : (Changed : ObjNo → Type 0) → Gives (λ (x : Cluster × EntryView). Lasts k x.0 None_own Changed) (apply k e)
        → ((q : HadOne) → Gives (λ (x : Cluster × EntryView). tot (lies_at q.thread.server q.taker.object) (things_of k) ≤ tot (lies_at q.thread.server q.taker.object) (things_of x.0)) (apply k e))
        → Gives (λ (x : Cluster × EntryView). Holds x.0 taken_stands) (apply k e)
    deliveries_stand Changed lasts lies =
        both_give (λ (x : Cluster × EntryView). Base k e coherent few x.0)
        (λ (x : Cluster × EntryView). Lasts k x.0 None_own Changed × ((q : HadOne) → tot (lies_at q.thread.server q.taker.object) (things_of k) ≤ tot (lies_at q.thread.server q.taker.object) (things_of x.0)))
        (λ (x : Cluster × EntryView). Holds x.0 taken_stands) (apply k e) (base k e coherent few)
        (both_give (λ (x : Cluster × EntryView). Lasts k x.0 None_own Changed) (λ (x : Cluster × EntryView). (q : HadOne) → tot (lies_at q.thread.server q.taker.object) (things_of k) ≤ tot (lies_at q.thread.server q.taker.object) (things_of x.0))
        (λ (x : Cluster × EntryView). Lasts k x.0 None_own Changed × ((q : HadOne) → tot (lies_at q.thread.server q.taker.object) (things_of k) ≤ tot (lies_at q.thread.server q.taker.object) (things_of x.0))) (apply k e) lasts
        (all_give (λ (q : HadOne) (x : Cluster × EntryView). tot (lies_at q.thread.server q.taker.object) (things_of k) ≤ tot (lies_at q.thread.server q.taker.object) (things_of x.0)) (apply k e) lies) (λ x a b. (a, b)))
        (λ x a b. all_stand x.0 (λ y among. others_stand k e coherent few x.0 a None_own (λ u off f. no_step u.thread.number f)
        (λ u there ne. (let st = stays_still k x.0 None_own Changed (places_of coherent) a.0 b.0 u there ne in record { standing = st.standing; found = st.found; same = st.same })) (λ q ne. b.1 q) y among (λ h. h)))

  moves_stand : (w : ℕ) (o : ObjNo) (a t : ℕ) → Delivers k e (message.Move w o a t) → Gives (λ (x : Cluster × EntryView). Holds x.0 taken_stands) (apply k e)
  moves_stand w o a t d =
      let there = move_there k coherent.sound e w o a t d in
      let asks = asks_it k paths coherent.sound there.server there.word o there.target there.thread there.among in
      deliveries_stand (message.Move w o a t) d None_changed (moves_last k e w o a t d coherent.sound few) (λ q.
      moved_lies k e w o a t d coherent.sound few q.thread.server q.taker.object (λ same.
      asked_apart k paths o asks q.thread q.goes (instr.BorrowMut q.taker.place) q.taker.place q.taker.at lends (λ v f. (let no : phase.Taken q.word ≡ phase.WaitCell v = sym q.took ∙ f in absurd (cc no))) (q.taker.leads ∙ ap (λ b. Some (in_cell b)) (sym same))))

  drops_stand : (w : ℕ) (o : ObjNo) → Delivers k e (message.Drop w o) → Gives (λ (x : Cluster × EntryView). Holds x.0 taken_stands) (apply k e)
  drops_stand w o d =
      let there = drop_there k coherent.sound e w o d in
      deliveries_stand (message.Drop w o) d (λ q. o ≡ q) (drops_last k e w o d coherent.sound few) (λ q.
      dropped_lies k e w o d coherent.sound few q.thread.server q.taker.object (λ same.
      dropped_apart k coherent o there q.thread.thread.number q.taker.place.slot q.taker.place.depth (q.taker.leads ∙ ap (λ b. Some (in_cell b)) (sym same))))

-- AN OBJECT COMES

-- only a mutable borrow lends
ending_no_lend : (s : Spot) (v : Option Value) (w : Lval) → ending s v ≡ Some (LendTo w) → ⊥
ending_no_lend s (Some (value.Mut r)) w e = absurd (cc e)
ending_no_lend s None w e = absurd (cc e)
ending_no_lend s (Some (value.Own v)) w e = absurd (cc e)
ending_no_lend s (Some value.Gone) w e = absurd (cc e)
ending_no_lend s (Some (value.SharedSlot j)) w e = absurd (cc e)
ending_no_lend s (Some (value.MutSlot j)) w e = absurd (cc e)
ending_no_lend s (Some (value.Shared r)) w e = absurd (cc e)
ending_no_lend s (Some (value.Held m)) w e = absurd (cc e)

assigned_no_lend : (v : Lval) (d : ℕ) (t : ThreadState) (w : Lval) → assigned v d t ≡ Some (LendTo w) → ⊥
assigned_no_lend v zero t w e = ending_no_lend (in_slot v.slot) (slice_get t.slots v.slot) w e
assigned_no_lend v (suc d) t w e = absurd (cc e)

read_no_lend : (v : Lval) (d : ℕ) (take : Bool) (w : Lval) → Some (read_or_taken v d take) ≡ Some (LendTo w) → ⊥
read_no_lend v zero true w e = absurd (cc e)
read_no_lend v zero false w e = absurd (cc e)
read_no_lend v (suc d) true w e = absurd (cc e)
read_no_lend v (suc d) false w e = absurd (cc e)

same_lent : {v w : Lval} → Some (LendTo v) ≡ Some (LendTo w) → v ≡ w
same_lent e = cc

lend_is : (i : Instr) (t : ThreadState) (w : Lval) → access_of i t ≡ Some (LendTo w) → i ≡ instr.BorrowMut w
lend_is (instr.BorrowMut v) t w e = ap instr.BorrowMut (same_lent e)
lend_is (instr.Assign v o) t w e = absurd (assigned_no_lend v v.depth t w e)
lend_is (instr.Read v take) t w e = absurd (read_no_lend v v.depth take w e)
lend_is instr.Discard t w e = absurd (ending_no_lend on_top (last_of t.temps) w e)
lend_is instr.DropSlot t w e = absurd (ending_no_lend (in_slot (length t.slots - 1)) (last_of t.slots) w e)
lend_is (instr.Borrow v) t w e = absurd (cc e)
lend_is (instr.Dup v) t w e = absurd (cc e)
lend_is (instr.Lock v) t w e = absurd (cc e)
lend_is (instr.Let o) t w e = absurd (cc e)
lend_is (instr.Box o) t w e = absurd (cc e)
lend_is (instr.Arith f a b) t w e = absurd (cc e)
lend_is (instr.Print o) t w e = absurd (cc e)
lend_is (instr.Spawn cs pc) t w e = absurd (cc e)
lend_is (instr.Join o) t w e = absurd (cc e)
lend_is (instr.Mutex o) t w e = absurd (cc e)
lend_is instr.Unlock t w e = absurd (cc e)
lend_is (instr.Par cs pc ds other) t w e = absurd (cc e)
lend_is instr.ParEnd t w e = absurd (cc e)
lend_is (instr.End o) t w e = absurd (cc e)

borrows_it : (cs : List Instr) (s : Server) (old t : ℕ) (c : Cell) (y : ThreadState) (w : Lval) → access_at cs s old t c y (slice_get cs y.pc) ≡ Some (LendTo w) → slice_get cs y.pc ≡ Some (instr.BorrowMut w)
borrows_it cs s old t c y w e = by (slice_get cs y.pc) e
  where
    by : (o : Option Instr) → access_at cs s old t c y o ≡ Some (LendTo w) → o ≡ Some (instr.BorrowMut w)
    by None f = absurd (cc f)
    by (Some i) f = ap (λ j. Some j) (lend_is i y w f)

module _ (k : Cluster) (e : Event) (old t : ℕ) (c : Cell) (coherent : IsCoherent k) (few : FewEvents k) (z : Cluster) (d : Delivers k e (message.Moved old c t)) (a : Landed k e old t c z) (b : Base k e coherent few z) where
  abbrev s : Server
  s = a.server

  abbrev y : ThreadState
  y = a.thread

  abbrev w1 : ℕ
  w1 = new k.code s old t c y

  abbrev me : Standing
  me = record { server = s.rest.number; packed = false; thread = y }

  before : HasPlaces k
  before = record { numbers_differ = coherent.sound.names.numbers_differ; home_of_each = coherent.sound.one_home.home_of_each; owner_of_each = coherent.sound.one_owner.owner_of_each }

  no_steps : (n : ℕ) → e.what ≡ Step n → ⊥
  no_steps n f = let g : Step n ≡ Deliver d.place = sym f ∙ d.what in absurd (cc g)

  its_there : thread_at (sight k).ground.threads t ≡ Some me
  its_there = thread_there k coherent.sound e.server s a.here t y a.at

  its_number : y.number ≡ t
  its_number = thread_number s.threads t y a.at

  its_goes : GoesOn k me
  its_goes = record { among = (among_thread (sight k).ground.threads t me its_there).0; going = (let m = a.comes in ap is_over m.waited) }

  its_here : server_at k.servers s.rest.number ≡ Some s
  its_here = subst (λ n. server_at k.servers n ≡ Some s) (sym (found_number e.server k.servers s a.here)) a.here

  -- the thread that takes it
  module _ (u : Untold k.code s old t c y) (kept : (v : (see : Seeing) × Lands k.code s old t c y see) → tot (cell_weight v.0) (things_of k) + gain k.code s old t c y v.0 ≤ tot (cell_weight v.0) (things_of z) + loss k.code s old t c y v.0)
      (x : Standing) (listed : Among x (sight z).ground.threads) (same : (g : Standing → ℕ) → g x ≡ g (record { server = s.rest.number; packed = false; thread = record y { phase = phase.Taken w1 } })) (is : x.thread.phase ≡ phase.Taken w1) where
    abbrev p : Lval
    p = u.0

    code : slice_get k.code y.pc ≡ Some (instr.BorrowMut p)
    code = borrows_it k.code s old t c y p u.1

    leads : place_at (sight k).ground y.number p ≡ Some (in_cell c.object)
    leads = let m = a.comes in taken_leads k coherent few s its_here t y a.at a.place old c a.message_there m.waited m.grown p code u.2

    lies : 1 ≤ tot (lies_at s.rest.number c.object) (things_of z)
    lies =
        let l = kept (lying s.rest.number c.object, record { own = λ v f. refl }) in
        let mine : one ((s.rest.number == s.rest.number) && same_object c.object c.object) ≡ 1 = ap one (both_true (s.rest.number == s.rest.number) (same_object c.object c.object) (eq-eqb s.rest.number s.rest.number refl) (itself c.object c.object refl)) in
        omega (arith, l, mine, tot_same (cell_weight (lying s.rest.number c.object)) (lies_at s.rest.number c.object) (lying_so s.rest.number c.object) (things_of z))
      where
        both_true : (m n : Bool) → m ≡ true → n ≡ true → (m && n) ≡ true
        both_true true n f g = g
        both_true false n f g = absurd (cc f)

    takes_stands : taken_phase (sight z) x x.thread.phase ≡ 0
    takes_stands =
        let number : x.thread.number ≡ y.number = same (λ v. v.thread.number) in
        let pc : x.thread.pc ≡ y.pc = same (λ v. v.thread.pc) in
        let server : x.server ≡ s.rest.number = same (λ v. v.server) in
        let there : instr_of (sight z) x ≡ Some (instr.BorrowMut p) = ap (λ cs. slice_get cs x.thread.pc) b.1 ∙ ap (slice_get k.code) pc ∙ code in
        let to : place_at (sight z).ground x.thread.number p ≡ Some (in_cell c.object) =
        ap (λ n. place_at (sight z).ground n p) number
        ∙ b.4 (record { leading = record { thread = me; place = p; goes = its_goes; follows = writes (instr.BorrowMut p) code lends }; apart = no_steps y.number }) p.depth (omega arith) ∙ leads in
        ap (taken_phase (sight z) x) is ∙ stands_so z b.3 x w1 p c.object listed is there to (subst (λ n. 1 ≤ tot (lies_at n c.object) (things_of z)) (sym server) lies)

  own_stands_so : (v : ThreadState) → Ends k.code s old t c y v (things_of k) (things_of z) → (x : Standing) → Among x (sight z).ground.threads → ((g : Standing → ℕ) → g x ≡ g (record { server = s.rest.number; packed = false; thread = v })) → taken_phase (sight z) x x.thread.phase ≡ 0
  own_stands_so v (gets_there got m) x listed same =
      untaken_none (sight z) x x.thread.phase (zero_false (is_taken x.thread.phase) (same (λ q. one (is_taken q.thread.phase)) ∙ ap (λ q. one (is_taken q)) got))
    where
      zero_false : (q : Bool) → one q ≡ 0 → q ≡ false
      zero_false true f = absurd (cc f)
      zero_false false f = refl
  own_stands_so v (takes_there u takes m) x listed same =
      let same2 : (g : Standing → ℕ) → g x ≡ g (record { server = s.rest.number; packed = false; thread = record y { phase = phase.Taken w1 } }) = λ g. same g ∙ ap (λ (q : ThreadState). g (record { server = s.rest.number; packed = false; thread = q })) takes in
      takes_stands u m x listed same2 (took_it w1 x.thread.phase (same2 (λ q. took w1 q.thread.phase) ∙ ap one (eq-eqb w1 w1 refl)))

  moved_stands : Holds z taken_stands
  moved_stands = all_stand k e coherent few z (λ x among. eq_cases (λ q. taken_phase (sight z) x x.thread.phase ≡ 0) x.thread.number t (λ number. own x among number)
      (λ ne. others_stand k e coherent few z b (λ n. n ≡ t) (λ u off f. no_steps u.thread.number f) (λ u there off. others_stay k z before b.0 k.code s old t c y a.comes u there off)
      (λ q off. landed_lies k z before b.0 k.code s old t c y a.comes q.thread.server q.taker.object) x among ne))
    where
      own : (x : Standing) → Among x (sight z).ground.threads → x.thread.number ≡ t → taken_phase (sight z) x x.thread.phase ≡ 0
      own x among number =
          let m = a.comes in
          let places : HasPlaces z = b.0 in
          let st : Stays z (record { server = s.rest.number; packed = false; thread = m.thread }) = own_stays k z before b.0 k.code s old t c y m in
          let here : thread_at (sight z).ground.threads x.thread.number ≡ Some x = found x (things_of z) (places.numbers_differ x.thread.number) among in
          let same : st.standing ≡ x = some_is (sym st.found ∙ ap (thread_at (sight z).ground.threads) (m.number ∙ sym number) ∙ here) in
          own_stands_so m.thread m.ends x among (λ g. ap g (sym same) ∙ st.same g)

pub each_stands : EachCoherentEventKeeps taken_stands
each_stands k e coherent few = each_way k (λ z. Holds z taken_stands) (record {
  steps = λ f t is. steps_stand k f coherent few t is;
  steady = λ kind steady f is. stands_steady kind steady k f is coherent.sound few;
  moves = λ f w o a t d. moves_stand k f coherent few w o a t d;
  drops = λ f w o d. drops_stand k f coherent few w o d;
  comes = λ f w c t d.
      both_give (λ (x : Cluster × EntryView). Base k f coherent few x.0) (λ (x : Cluster × EntryView). Landed k f w t c x.0) (λ (x : Cluster × EntryView). Holds x.0 taken_stands) (apply k f) (base k f coherent few) (lands_in k f w t c d coherent.sound few)
      (λ x b a. moved_stands k f w t c coherent few x.0 d a b);
}) e
