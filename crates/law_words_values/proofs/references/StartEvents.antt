-- The start of a thread or a pair in its cluster.
use Rattle.std.proofs.Common.{◌≡◌, ◌⊎◌, inl, inr, ⊎_elim, ℕ, ◌+◌, ◌*◌, ◌^◌, ◌≤◌, ◌<◌, Bool, true, false, if◌then◌else◌, List, [], ◌∷◌, ◌++◌, Option, Some, None, option_map, refl, sym, ap, subst, ◌∙◌, arith}
use Rattle.std.specs.Prelude.{slice_get}
use Rattle.law_words_values.proofs.Below.fr_typing.PlaceLemmas.{eq_cases}
use Rattle.law_words_values.specs.Below.fr_base.Rooms.{WithRoom}
use Rattle.law_words_values.specs.Below.fr_base.declared.instruction.Instr.{Instr}
use Rattle.law_words_values.specs.Below.fr_base.declared.instruction.Instr.TheVariants as instr
use Rattle.law_words_values.specs.Below.journal.View.{EntryView}
use Rattle.law_words_values.specs.Below.thread_state.View.{ThreadState, new_thread}
use Rattle.law_words_values.specs.Below.thread_state.declared.phase.Phase.{Phase}
use Rattle.law_words_values.specs.Below.thread_state.declared.phase.Phase.TheVariants as phase
use Rattle.law_words_values.specs.Below.thread_state.declared.value.Value.{Value}
use Rattle.law_words_values.specs.Below.server_model.declared.event.Event.{Event}
use Rattle.law_words_values.specs.Below.server_model.declared.event.What.TheVariants.{Step}
use Rattle.law_words_values.specs.Below.server_model.Servers.{Server, Cluster, server_at}
use Rattle.law_words_values.specs.Below.server_model.Work.{Hand, thread_in, set_thread, without_thread, then_some}
use Rattle.law_words_values.specs.Below.server_model.Start.{next_thread, capture}
use Rattle.law_words_values.specs.Below.server_model.Clusters.{with_server, done_at, act_at, apply}
use Rattle.law_words_values.specs.Below.server_model.Events.{can_step, has_phase, enabled, begin_work, does, Stepped, step, step_in, stepped}
use Rattle.law_words_values.specs.Below.coherent_memory.Names.{Among, tot, one}
use Rattle.law_words_values.specs.Below.coherent_memory.Things.{at_slot, Thing, stands, things_at, gift_things, walk_things, standing_things, thread_things, server_things, things_of}
use Rattle.law_words_values.specs.Below.coherent_memory.Follow.{Standing}
use Rattle.law_words_values.specs.Below.coherent_memory.Sight.{sight}
use Rattle.law_words_values.specs.Below.coherent_memory.Weights.{cells, owners, is_thread}
use Rattle.law_words_values.proofs.Below.coherent_memory.Sums.{tot-append}
use Rattle.law_words_values.specs.Below.coherent_types.ClusterTypes.{IsCoherent}
use Rattle.law_words_values.specs.Below.law_words_paths.paths.HeapStore.{GoesOn, HasPaths}
use Rattle.law_words_values.proofs.Below.law_words_paths.paths.Alike.{coherent_has_paths}
use Rattle.law_words_values.proofs.Below.law_words_paths.paths.Contained.{among_thread}
use Rattle.law_words_values.specs.Below.law_words_paths.words.Reworded.{HasPlaces}
use Rattle.law_words_values.specs.Below.law_words_paths.words.Unmoved.{taking_by, Untouched, LeavesWords}
use Rattle.law_words_values.proofs.Below.law_words_paths.words.Unmoved.{untouched_stays}
use Rattle.law_words_values.specs.Below.law_counts_sums.Laws.{Gives, FewEvents}
use Rattle.law_words_values.proofs.Below.law_counts_sums.Results.{over_gives, both_give}
use Rattle.law_words_values.proofs.Below.law_counts_sums.Bags.{body_things, all_standing, tot-without, thread_number}
use Rattle.law_words_values.proofs.Below.law_counts_sums.Events.{tot-server}
use Rattle.law_words_values.proofs.Below.law_counts_sums.Sound.{sound_has_sums}
use Rattle.law_words_values.proofs.Below.law_counts_sums.NewThreads.{new_names}
use Rattle.law_words_values.proofs.Below.law_counts_sums.Each.{names_left, each_part}
use Rattle.law_words_values.proofs.Below.law_counts_sums.GiftsTaken.{gift_fits}
use Rattle.law_words_values.proofs.Below.law_counts_sums.ThreadThere.{thread_there}
use Rattle.law_words_values.proofs.Below.law_words_kept.stays.Alike.{Alike, itself, turned, chain, beside, exchanged, in_front, joined}
use Rattle.law_words_values.proofs.Below.law_words_kept.stays.Lists.{thread_taken, thread_set, taken_alike, shifted}
use Rattle.law_words_values.proofs.Below.law_words_kept.stays.Servers.{held_if, server_body}
use Rattle.law_words_values.proofs.Below.law_words_kept.stays.Threads.{slots_of, temps_of, thread_alike}
use Rattle.law_words_values.proofs.Below.law_words_kept.stays.Sites.{replaced, servers_alike}
use Rattle.law_words_values.proofs.Below.law_words_kept.stays.Seen.{seen_alike}
use Rattle.law_words_values.proofs.Below.law_words_kept.stays.Steps.{TakesNoneHere}
use Rattle.law_words_values.proofs.Below.law_words_kept.prepared.Hands.{calm_goes}
use Rattle.law_words_values.proofs.Below.law_words_kept.prepared.Asking.{found_number}
use Rattle.law_words_values.proofs.carried.Hands.{There, leaves_chain, left_where}
use Rattle.law_words_values.specs.references.Unpassed.{IsUnpassed}
use Rattle.law_words_values.specs.references.Starts.{StartsThreads, a_thread, a_pair, StartsLeaveWords}
use Rattle.law_words_values.proofs.references.Unpassed.{unnamed_are_unpassed}
use Rattle.law_words_values.proofs.references.QuietSlots.{unpassed_on}
use Rattle.law_words_values.proofs.references.CaptureTypes.{CapturedBy, spawned, paired_first, paired_second, captured_unnamed}
use Rattle.law_words_values.proofs.references.Blank.{IsBare, bare_comes}
use Rattle.law_words_values.proofs.references.Beside.{with_threads, Reached, reached_itself, reached_same}
use Rattle.law_words_values.proofs.references.CaptureSteps.{places_same, threads_sum, threads_alike, Holding, all_captures}
use Rattle.law_words_values.proofs.references.StartSteps.{Started, SpawnedBy, spawns_start, PairedBy, pars_start}

spawn_takes : (t : ℕ) (p : Phase) (cs : WithRoom (ℕ × Bool)) (pc : ℕ) → taking_by t p (Some (instr.Spawn cs pc)) ≡ None
spawn_takes t (phase.Taken w) cs pc = refl
spawn_takes t _ cs pc = refl

par_takes : (t : ℕ) (p : Phase) (cs : WithRoom (ℕ × Bool)) (pc : ℕ) (ds : WithRoom (ℕ × Bool)) (other : ℕ) → taking_by t p (Some (instr.Par cs pc ds other)) ≡ None
par_takes t (phase.Taken w) cs pc ds other = refl
par_takes t _ cs pc ds other = refl

-- a thread before the others weighs beside them
shift_sum : (f : Thing → ℕ) (n i j : ℕ) (zs : List ThreadState) → tot f (things_at (standing_things n) i zs) ≡ tot f (things_at (standing_things n) j zs)
shift_sum f n i j [] = refl
shift_sum f n i j (z ∷ zs) =
    let a = tot-append f (thread_things n false z) (things_at (standing_things n) (i + 1) zs) in
    let b = tot-append f (thread_things n false z) (things_at (standing_things n) (j + 1) zs) in
    let c = shift_sum f n (i + 1) (j + 1) zs in
    omega (arith, a, b, c)

front_sum : (f : Thing → ℕ) (n : ℕ) (z : ThreadState) (zs : List ThreadState) → tot f (all_standing n (z ∷ zs)) ≡ tot f (thread_things n false z) + tot f (all_standing n zs)
front_sum f n z zs = let a = tot-append f (thread_things n false z) (things_at (standing_things n) (0 + 1) zs) in let b = shift_sum f n (0 + 1) 0 zs in omega (arith, a, b)

abbrev bare_thread : ℕ → ℕ → ThreadState
bare_thread u pc = new_thread u pc []

map_back : {X Y : Type 0} (P : Y → Type 0) (f : X → Y) (o : Option X) → Gives P (option_map f o) → Gives (λ x. P (f x)) o
map_back P f None g = tt
map_back P f (Some x) g = g

module _ (k : Cluster) (coherent : IsCoherent k) (few : FewEvents k) (s : Server) (here : server_at k.servers s.rest.number ≡ Some s) (t : ℕ) (y : ThreadState) (at : thread_in s.threads t ≡ Some y) (on : enabled k.options s (Step t) ≡ true) where
  abbrev n : ℕ
  n = s.rest.number

  abbrev me : Standing
  me = record { server = n; packed = false; thread = y }

  abbrev hand : Hand
  hand = record { work = begin_work s.rest; thread = y }

  abbrev zs : List ThreadState
  zs = without_thread s.threads t

  going : GoesOn k me
  going = record { among = (among_thread (sight k).ground.threads t me (thread_there k coherent.sound n s here t y at)).0; going = calm_goes y.phase (subst (λ o. has_phase can_step o ≡ true) at on) }

  paths : HasPaths k
  paths = coherent_has_paths k coherent

  -- the cluster with these threads at the server, and no event more
  abbrev standing : List ThreadState → Cluster
  standing ts = with_threads k n s.rest s.events ts

  -- THE THREAD IN FRONT

  abbrev mine : ThreadState
  mine = record y { gift = None }

  mine_alike : y.gift ≡ None → Alike k.code (thread_things n false y) (thread_things n false mine)
  mine_alike free =
      thread_alike n n false false y mine [] [] (record { number = refl; taking = refl; slots = λ i. refl; temps = λ i. refl }) (itself (slots_of n y)) (itself (temps_of n y)) (subst (λ g. Alike k.code (held_if g) []) (sym free) (itself []))

  mine_sum : (f : Thing → ℕ) → f (stands n false mine) ≡ f (stands n false y) → y.gift ≡ None → tot f (thread_things n false mine) ≡ tot f (thread_things n false y)
  mine_sum f same free =
      let a = ap (λ g. tot f (gift_things y.number g ++ things_at (walk_things n) 0 y.walk ++ slots_of n y ++ temps_of n y)) free in
      omega (arith, same, a)

  start_sum : (f : Thing → ℕ) → f (stands n false mine) ≡ f (stands n false y) → y.gift ≡ None → tot f (things_of (standing (mine ∷ zs))) ≡ tot f (things_of k)
  start_sum f same free =
      let server : Server = record { rest = s.rest; threads = mine ∷ zs; events = s.events } in
      let a = tot-server f k.servers n s server here in
      let b = threads_sum f s.rest s.events s.threads (mine ∷ zs) in
      let c = front_sum f n mine zs in
      let d = tot-without n f s.threads t y at in
      let e = mine_sum f same free in
      omega (arith, a.0, a.1, b, c, d, e)

  places_start : y.gift ≡ None → HasPlaces (standing (mine ∷ zs))
  places_start free =
      let p = (reached_itself k coherent.sound).places in
      record {
        numbers_differ = λ u. (let q = start_sum (is_thread u) refl free in omega (arith, q, p.numbers_differ u));
        home_of_each = λ o. (let q = start_sum (cells o) refl free in omega (arith, q, p.home_of_each o));
        owner_of_each = λ o. (let q = start_sum (cells o) refl free in let w = start_sum (owners o) refl free in w ∙ p.owner_of_each o ∙ sym q);
      }

  all_alike : y.gift ≡ None → Alike k.code (all_standing n s.threads) (all_standing n (mine ∷ zs))
  all_alike free =
      chain (taken_alike (thread_things n false) 0 0 (thread_taken s.threads t y at)) (beside (mine_alike free) (shifted (thread_things n false) 0 (0 + 1) zs))

  start_alike : y.gift ≡ None → Alike k.code (things_of k) (things_of (standing (mine ∷ zs)))
  start_alike free =
      let server : Server = record { rest = s.rest; threads = mine ∷ zs; events = s.events } in
      servers_alike n k.servers s server here (chain (server_body s) (chain (beside (all_alike free) (itself (body_things n s.rest))) (turned (server_body server))))

  -- A BARE THREAD COMES behind the first one

  bare : (u pc : ℕ) → IsBare k.code (bare_thread u pc)
  bare u pc = record { slots = λ i. refl; temps = λ i. refl; untaken = refl }

  comes_sum : (f : Thing → ℕ) (x : ThreadState) (us : List ThreadState) (u pc : ℕ) → tot f (things_of (standing (x ∷ bare_thread u pc ∷ us))) ≡ f (stands n false (bare_thread u pc)) + tot f (things_of (standing (x ∷ us)))
  comes_sum f x us u pc =
      let a = (tot-server f k.servers n s (record { rest = s.rest; threads = x ∷ bare_thread u pc ∷ us; events = s.events }) here).1 in
      let b = (tot-server f k.servers n s (record { rest = s.rest; threads = x ∷ us; events = s.events }) here).1 in
      let c = threads_sum f s.rest s.events (x ∷ us) (x ∷ bare_thread u pc ∷ us) in
      let d = front_sum f n x (bare_thread u pc ∷ us) in
      let e = front_sum f n (bare_thread u pc) us in
      let g = front_sum f n x us in
      omega (arith, a, b, c, d, e, g)

  bare_alike : (x : ThreadState) (us : List ThreadState) (u pc : ℕ) → Alike k.code (stands n false (bare_thread u pc) ∷ things_of (standing (x ∷ us))) (things_of (standing (x ∷ bare_thread u pc ∷ us)))
  bare_alike x us u pc =
      let new = stands n false (bare_thread u pc) ∷ [] in
      let old : Server = record { rest = s.rest; threads = x ∷ us; events = s.events } in
      let next : Server = record { rest = s.rest; threads = x ∷ bare_thread u pc ∷ us; events = s.events } in
      let B = body_things n s.rest in
      let TX = thread_things n false x in
      let behind = things_at (standing_things n) (0 + 1) us in
      let behind2 = things_at (standing_things n) (0 + 1 + 1) us in
      let threads : Alike k.code (new ++ all_standing n (x ∷ us)) (all_standing n (x ∷ bare_thread u pc ∷ us)) = chain (in_front new TX behind) (beside (itself TX) (beside (itself new) (shifted (thread_things n false) (0 + 1) (0 + 1 + 1) us))) in
      turned
      (replaced n k.servers s next old new here
      (chain (server_body next) (chain (beside (turned threads) (itself B)) (chain (turned (joined new (all_standing n (x ∷ us)) B)) (beside (itself new) (turned (server_body old)))))))

  -- no such thread was there
  abbrev IsNew : ℕ → List ThreadState → Type 0
  IsNew u ts = tot (is_thread u) (things_of (standing ts)) ≡ 0

  places_come : (x : ThreadState) (us : List ThreadState) (u pc : ℕ) → IsNew u (x ∷ us) → HasPlaces (standing (x ∷ us)) → HasPlaces (standing (x ∷ bare_thread u pc ∷ us))
  places_come x us u pc new p = record {
    numbers_differ = λ w. numbers w;
    home_of_each = λ o. (let q = comes_sum (cells o) x us u pc in omega (arith, q, p.home_of_each o));
    owner_of_each = λ o. (let q = comes_sum (cells o) x us u pc in let w = comes_sum (owners o) x us u pc in let e = p.owner_of_each o in omega (arith, q, w, e));
  }
    where
      numbers : (w : ℕ) → tot (is_thread w) (things_of (standing (x ∷ bare_thread u pc ∷ us))) ≤ 1
      numbers w =
          let q = comes_sum (is_thread w) x us u pc in
          let d = p.numbers_differ w in
          eq_cases (λ b. tot (is_thread w) (things_of (standing (x ∷ bare_thread u pc ∷ us))) ≡ one b + tot (is_thread w) (things_of (standing (x ∷ us))) → tot (is_thread w) (things_of (standing (x ∷ bare_thread u pc ∷ us))) ≤ 1) u w
          (λ e z. (let none = subst (λ m. tot (is_thread m) (things_of (standing (x ∷ us))) ≡ 0) e new in omega (arith, z, none))) (λ ne z. omega (arith, z, d)) q

  -- with the slots that may be moved
  record Kept (Free : ℕ → Type 0) (ts : List ThreadState) : Type 0 where
    reached : Reached k (standing ts)
    free : (i : ℕ) → Free i → IsUnpassed (standing ts) (at_slot y.number i)

  kept_same : (Free : ℕ → Type 0) (ts us : List ThreadState) → HasPlaces (standing us) → Untouched (standing ts) (standing us) → Kept Free ts → Kept Free us
  kept_same Free ts us places seen h = record {
    reached = reached_same k (standing ts) (standing us) h.reached places seen;
    free = λ i f. unpassed_on (standing ts) (standing us) (at_slot y.number i) seen.stands (h.free i f);
  }

  kept_comes : (Free : ℕ → Type 0) (x : ThreadState) (us : List ThreadState) (u pc : ℕ) → IsNew u (x ∷ us) → Kept Free (x ∷ us) → Kept Free (x ∷ bare_thread u pc ∷ us)
  kept_comes Free x us u pc new h =
      let places = places_come x us u pc new h.reached.places in
      kept_same Free (x ∷ us) (x ∷ bare_thread u pc ∷ us) places (bare_comes (standing (x ∷ us)) (standing (x ∷ bare_thread u pc ∷ us)) h.reached.places places refl n false (bare_thread u pc) (bare u pc) (bare_alike x us u pc)) h

  kept_start : (Free : ℕ → Type 0) → y.gift ≡ None → ((i : ℕ) → Free i → IsUnpassed k (at_slot y.number i)) → Kept Free (mine ∷ zs)
  kept_start Free free unpassed =
      let places = places_start free in
      let seen = seen_alike k (standing (mine ∷ zs)) (reached_itself k coherent.sound).places places refl (start_alike free) in record {
        reached = reached_same k k (standing (mine ∷ zs)) (reached_itself k coherent.sound) places seen;
        free = λ i f. unpassed_on k (standing (mine ∷ zs)) (at_slot y.number i) seen.stands (unpassed i f);
      }

  -- a number that the server hasn't started is new
  new_number : (c : ℕ) → s.rest.started < c → c < 2 ^ 32 → y.gift ≡ None → IsNew (n * 2 ^ 32 + c) (mine ∷ zs)
  new_number c lt small free =
      let names = new_names k n s here (sound_has_sums k coherent.sound) coherent.sound.names.names_counted in
      let q = start_sum (is_thread (n * 2 ^ 32 + c)) refl free in
      omega (arith, q, names.threads c lt small)

  -- THE END OF IT

  abbrev left : Hand → Cluster
  left h2 = record k { servers = with_server k.servers n (record { rest = h2.work.rest; threads = set_thread s.threads h2.thread; events = s.events + 1 }) }

  appended : (us : List ThreadState) (i : ℕ) → Alike k.code (things_at (standing_things n) i (us ++ zs)) (things_at (standing_things n) i us ++ all_standing n zs)
  appended [] i = shifted (thread_things n false) i 0 zs
  appended (u ∷ us) i = chain (beside (itself (thread_things n false u)) (appended us (i + 1))) (joined (thread_things n false u) (things_at (standing_things n) (i + 1) us) (all_standing n zs))

  -- the third of four goes to the end
  aside : (a b c d : List Thing) → Alike k.code ((a ++ (b ++ c)) ++ d) ((a ++ (b ++ d)) ++ c)
  aside a b c d = chain (turned (joined a (b ++ c) d)) (chain (beside (itself a) (chain (turned (joined b c d)) (chain (beside (itself b) (exchanged c d)) (joined b d c)))) (joined a (b ++ d) c))

  ends_alike : (vs : List Value) (us : List ThreadState) (h2 : Hand) → Started k.code n hand vs us h2 → Alike k.code (things_of (standing (record y { slots = vs; gift = None } ∷ us ++ zs))) (things_of (left h2))
  ends_alike vs us h2 st =
      let x : ThreadState = record y { slots = vs; gift = None } in
      let old : Server = record { rest = s.rest; threads = x ∷ us ++ zs; events = s.events } in
      let next : Server = record { rest = h2.work.rest; threads = set_thread s.threads h2.thread; events = s.events + 1 } in
      let B = body_things n s.rest in
      let C = body_things n h2.work.rest in
      let U = all_standing n us in
      let Z = all_standing n zs in
      let TX = thread_things n false x in
      let TY = thread_things n false h2.thread in
      let first : Alike k.code (all_standing n (x ∷ us ++ zs)) (TX ++ (U ++ Z)) = beside (itself TX) (chain (shifted (thread_things n false) (0 + 1) 0 (us ++ zs)) (appended us 0)) in
      let last : Alike k.code (all_standing n (set_thread s.threads h2.thread)) (TY ++ Z) = taken_alike (thread_things n false) 0 0 (thread_set s.threads t y h2.thread at (st.named ∙ thread_number s.threads t y at)) in
      let body : Alike k.code (server_things next) ((TY ++ Z) ++ C) = chain (subst (λ m. Alike k.code (server_things next) (all_standing m (set_thread s.threads h2.thread) ++ body_things m h2.work.rest)) st.number (server_body next)) (beside last (itself C)) in
      replaced n k.servers s old next [] here
      (chain (server_body old)
      (chain (beside first (itself B))
      (chain (aside TX U Z B)
      (chain (beside st.alike (itself Z)) (chain (chain (turned (joined TY C Z)) (chain (beside (itself TY) (exchanged C Z)) (joined TY Z C))) (turned body))))))

  ends : (Free : ℕ → Type 0) (vs : List Value) (us : List ThreadState) (h2 : Hand) → Started k.code n hand vs us h2 → Kept Free (record y { slots = vs; gift = None } ∷ us ++ zs) → HasPlaces (left h2) → LeavesWords k (left h2)
  ends Free vs us h2 st h places =
      let a = standing (record y { slots = vs; gift = None } ∷ us ++ zs) in
      leaves_chain h.reached.leaves (untouched_stays a (left h2) h.reached.places places (seen_alike a (left h2) h.reached.places places refl (ends_alike vs us h2 st)))

  -- captures
  as_holding : (Free : ℕ → Type 0) (x u : ThreadState) (us : List ThreadState) → x.number ≡ y.number → Kept Free (x ∷ u ∷ us) → Holding k coherent.sound n s here s.rest refl s.events us Free x u
  as_holding Free x u us named h = record { reached = h.reached; free = λ i f. subst (λ m. IsUnpassed (standing (x ∷ u ∷ us)) (at_slot m i)) (sym named) (h.free i f) }

  as_kept : (Free : ℕ → Type 0) (x u : ThreadState) (us : List ThreadState) → x.number ≡ y.number → Holding k coherent.sound n s here s.rest refl s.events us Free x u → Kept Free (x ∷ u ∷ us)
  as_kept Free x u us named h = record { reached = h.reached; free = λ i f. subst (λ m. IsUnpassed (standing (x ∷ u ∷ us)) (at_slot m i)) named (h.free i f) }

  captures : (Free : ℕ → Type 0) → TakesNoneHere k.code y → (branch : Bool) (cs : List (ℕ × Bool)) (u pc : ℕ) (vs : List Value) (us : List ThreadState) (q : List Value × List Value) → ((i : ℕ) → Among (i, true) cs → Free i) → capture branch cs vs ≡ Some q
      → Kept Free (record y { slots = vs; gift = None } ∷ bare_thread u pc ∷ us) → Kept Free (record y { slots = q.1; gift = None } ∷ new_thread u pc q.0 ∷ us)
  captures Free none branch cs u pc vs us q f e h =
      as_kept Free (record y { slots = q.1; gift = None }) (new_thread u pc q.0) us refl
      (all_captures k coherent.sound n s here s.rest refl s.events us Free y (bare_thread u pc) none refl branch cs [] vs q f e (as_holding Free (record y { slots = vs; gift = None }) (bare_thread u pc) us refl h))

  -- A THREAD

  few_started : s.rest.started + 2 < 2 ^ 32
  few_started = let l = names_left k coherent.sound.names.few_names few n s here in omega (arith, l)

  unpassed_capture : (j : Instr) (cs : List (ℕ × Bool)) (i : ℕ) → slice_get k.code y.pc ≡ Some j → CapturedBy j cs → Among (i, true) cs → IsUnpassed k (at_slot y.number i)
  unpassed_capture j cs i code by h = unnamed_are_unpassed k paths y.number i (captured_unnamed k paths me going j cs i code by h)

  spawn_leaves : (cs : WithRoom (ℕ × Bool)) (pc : ℕ) → slice_get k.code y.pc ≡ Some (instr.Spawn cs pc) → y.gift ≡ None → (h2 : Hand) → SpawnedBy k.code n cs.items pc hand h2 → HasPlaces (left h2) → LeavesWords k (left h2)
  spawn_leaves cs pc code free h2 by places =
      let none = subst (λ j. taking_by y.number y.phase j ≡ None) (sym code) (spawn_takes y.number y.phase cs pc) in
      let Free : ℕ → Type 0 = λ i. Among (i, true) cs.items in
      let u = next_thread s.rest in
      let start = kept_start Free free (λ i f. unpassed_capture (instr.Spawn cs pc) cs.items i code spawned f) in
      let with_new = kept_comes Free mine zs u pc (new_number (s.rest.started + 1) (omega arith) (omega (arith, few_started)) free) start in
      let taken = captures Free none false cs.items u pc y.slots zs by.left (λ i f. f) by.captures with_new in
      ends Free by.left.1 (new_thread u pc by.left.0 ∷ []) h2 by.started taken places

  -- A PAIR

  -- two threads behind the first one change places
  swapped_alike : (x a b : ThreadState) → Alike k.code (all_standing n (x ∷ a ∷ b ∷ zs)) (all_standing n (x ∷ b ∷ a ∷ zs))
  swapped_alike x a b = beside (itself (thread_things n false x)) (in_front (thread_things n false a) (thread_things n false b) (things_at (standing_things n) (0 + 1 + 1 + 1) zs))

  swapped_sum : (f : Thing → ℕ) (x a b : ThreadState) → tot f (all_standing n (x ∷ b ∷ a ∷ zs)) ≡ tot f (all_standing n (x ∷ a ∷ b ∷ zs))
  swapped_sum f x a b =
      let p1 = front_sum f n x (a ∷ b ∷ zs) in
      let p2 = front_sum f n a (b ∷ zs) in
      let p3 = front_sum f n b zs in
      let q1 = front_sum f n x (b ∷ a ∷ zs) in
      let q2 = front_sum f n b (a ∷ zs) in
      let q3 = front_sum f n a zs in
      omega (arith, p1, p2, p3, q1, q2, q3)

  kept_swapped : (Free : ℕ → Type 0) (x a b : ThreadState) → Kept Free (x ∷ a ∷ b ∷ zs) → Kept Free (x ∷ b ∷ a ∷ zs)
  kept_swapped Free x a b h =
      let places = places_same k n s here s.rest refl s.events (x ∷ a ∷ b ∷ zs) (x ∷ b ∷ a ∷ zs) (λ u. swapped_sum (is_thread u) x a b) (λ o. swapped_sum (cells o) x a b) (λ o. swapped_sum (owners o) x a b) h.reached.places in
      kept_same Free (x ∷ a ∷ b ∷ zs) (x ∷ b ∷ a ∷ zs) places
      (seen_alike (standing (x ∷ a ∷ b ∷ zs)) (standing (x ∷ b ∷ a ∷ zs)) h.reached.places places refl (threads_alike k n s here s.rest refl s.events (x ∷ a ∷ b ∷ zs) (x ∷ b ∷ a ∷ zs) (swapped_alike x a b))) h

  -- the second number is another one
  new_beside : (u v pc : ℕ) → (v ≡ u → ⊥) → IsNew u (mine ∷ zs) → IsNew u (mine ∷ bare_thread v pc ∷ zs)
  new_beside u v pc ne new =
      let q = comes_sum (is_thread u) mine zs v pc in
      eq_cases (λ b. tot (is_thread u) (things_of (standing (mine ∷ bare_thread v pc ∷ zs))) ≡ one b + tot (is_thread u) (things_of (standing (mine ∷ zs))) → tot (is_thread u) (things_of (standing (mine ∷ bare_thread v pc ∷ zs))) ≡ 0) v u
      (λ e z. absurd (ne e)) (λ d z. omega (arith, z, new)) q

  pair_leaves : (cs : WithRoom (ℕ × Bool)) (pc : ℕ) (ds : WithRoom (ℕ × Bool)) (other : ℕ) → slice_get k.code y.pc ≡ Some (instr.Par cs pc ds other) → (free : y.gift ≡ None) (none : TakesNoneHere k.code y) (h2 : Hand) → PairedBy k.code n hand refl none free cs.items ds.items pc other h2
      → HasPlaces (left h2) → LeavesWords k (left h2)
  pair_leaves cs pc ds other code free none h2 by places =
      let Free : ℕ → Type 0 = λ i. Among (i, true) cs.items ⊎ Among (i, true) ds.items in
      let j : Instr = instr.Par cs pc ds other in
      let u = next_thread s.rest in
      let v = next_thread (record s.rest { started = s.rest.started + 1 }) in
      let start = kept_start Free free (λ i f. ⊎_elim (λ (a : Among (i, true) cs.items). unpassed_capture j cs.items i code paired_first a) (λ (b : Among (i, true) ds.items). unpassed_capture j ds.items i code paired_second b) f) in
      let second_new = kept_comes Free mine zs v other (new_number (s.rest.started + 1 + 1) (omega arith) (omega (arith, few_started)) free) start in
      let first_new = kept_comes Free mine (bare_thread v other ∷ zs) u pc (new_beside u v other (λ e. absurd (omega (arith, e))) (new_number (s.rest.started + 1) (omega arith) (omega (arith, few_started)) free)) second_new in
      let first_taken = captures Free none true cs.items u pc y.slots (bare_thread v other ∷ zs) by.first (λ i f. inl f) by.captures first_new in
      let other_first = kept_swapped Free (record y { slots = by.first.1; gift = None }) (new_thread u pc by.first.0) (bare_thread v other) first_taken in
      let second_taken = captures Free none true ds.items v other by.first.1 (new_thread u pc by.first.0 ∷ zs) by.second (λ i f. inr f) by.then_captures other_first in
      ends Free by.second.1 (new_thread v other by.second.0 ∷ new_thread u pc by.first.0 ∷ []) h2 by.started second_taken places

  -- THE EVENT

  abbrev mid : Server × EntryView → Cluster
  mid r = record k { servers = with_server k.servers n r.0 }

  places_mid : Gives (λ (r : Server × EntryView). HasPlaces (mid r)) (does k.code k.options s (Step t))
  places_mid =
      let e : Event = record { server = n; what = Step t } in
      let all : Gives (λ (d : Cluster × EntryView). HasPlaces d.0) (act_at k e) = each_part HasPlaces (λ c g. record { numbers_differ = g.numbers_differ; home_of_each = g.home_of_each; owner_of_each = g.owner_of_each }) k e coherent.sound few in
      let there : Gives (λ (d : Cluster × EntryView). HasPlaces d.0) (option_map (λ (d : Server × EntryView). (record k { servers = with_server k.servers n d.0 }, d.1)) (done_at k (Step t) s)) = subst (λ o. Gives (λ (d : Cluster × EntryView). HasPlaces d.0) (then_some o (λ x. option_map (λ d. (record k { servers = with_server k.servers n d.0 }, d.1)) (done_at k (Step t) x)))) here all in
      let done : Gives (λ (d : Cluster × EntryView). HasPlaces d.0) (option_map (λ (d : Server × EntryView). (record k { servers = with_server k.servers n d.0 }, d.1)) (does k.code k.options s (Step t))) = subst (λ b. Gives (λ (d : Cluster × EntryView). HasPlaces d.0) (option_map (λ d. (record k { servers = with_server k.servers n d.0 }, d.1)) (if b then does k.code k.options s (Step t) else None))) on there in
      map_back (λ (d : Cluster × EntryView). HasPlaces d.0) (λ (d : Server × EntryView). (record k { servers = with_server k.servers n d.0 }, d.1)) (does k.code k.options s (Step t)) done

  -- a step of which something is shown that leaves the words
  step_leaves : (i : Instr) → slice_get k.code y.pc ≡ Some i → (P : Hand → Type 0) → ((h : Hand) → P h → HasPlaces (left h) → LeavesWords k (left h)) → Gives (λ (d : Stepped). P d.hand) (step k.options.servers i hand) → Gives (There k s) (does k.code k.options s (Step t))
  step_leaves i code P leaves g =
      both_give (λ (r : Server × EntryView). HasPlaces (mid r)) (λ (r : Server × EntryView). HasPlaces (mid r) → LeavesWords k (mid r)) (There k s) (does k.code k.options s (Step t)) places_mid
      (subst (λ o. Gives (λ (r : Server × EntryView). HasPlaces (mid r) → LeavesWords k (mid r)) (option_map (stepped s) (then_some (option_map (λ v. record { work = begin_work s.rest; thread = v }) o) (step_in k.code k.options.servers)))) (sym at)
      (subst (λ o. Gives (λ (r : Server × EntryView). HasPlaces (mid r) → LeavesWords k (mid r)) (option_map (stepped s) (then_some o (λ j. step k.options.servers j hand)))) (sym code)
      (over_gives (λ (d : Stepped). P d.hand) (λ (r : Server × EntryView). HasPlaces (mid r) → LeavesWords k (mid r)) (step k.options.servers i hand) (stepped s) g (λ d p. leaves d.hand p))))
      (λ r a b. (b a, a))

  starts_there : (i : Instr) → StartsThreads i → slice_get k.code y.pc ≡ Some i → Gives (There k s) (does k.code k.options s (Step t))
  starts_there _ (a_thread cs pc) code =
      let free = (gift_fits k coherent.sound n s here t y at (instr.Spawn cs pc) code).0 in
      let none = subst (λ j. taking_by y.number y.phase j ≡ None) (sym code) (spawn_takes y.number y.phase cs pc) in
      step_leaves (instr.Spawn cs pc) code (SpawnedBy k.code n cs.items pc hand) (λ h2 p places. spawn_leaves cs pc code free h2 p places) (spawns_start k.code n hand refl none free k.options.servers cs pc)
  starts_there _ (a_pair cs pc ds other) code =
      let free = (gift_fits k coherent.sound n s here t y at (instr.Par cs pc ds other) code).0 in
      let none = subst (λ j. taking_by y.number y.phase j ≡ None) (sym code) (par_takes y.number y.phase cs pc ds other) in
      step_leaves (instr.Par cs pc ds other) code (PairedBy k.code n hand refl none free cs.items ds.items pc other) (λ h2 p places. pair_leaves cs pc ds other code free none h2 p places) (pars_start k.code n hand refl none free k.options.servers cs pc ds other)

pub starts_leave_words : StartsLeaveWords
starts_leave_words k number t s y i coherent few here at code starts =
    subst (λ n. server_at k.servers n ≡ Some s → Gives (λ (d : Cluster × EntryView). LeavesWords k d.0) (apply k (record { server = n; what = Step t }))) (found_number number k.servers s here)
    (λ h. left_where k s t coherent.sound few h (λ on. starts_there k coherent few s h t y at on i starts code)) here
