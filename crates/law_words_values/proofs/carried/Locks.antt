-- A lock: it asks for the content of its mutex, or takes what came into a new variable.
use Rattle.std.proofs.Common.{◌≡◌, ◌⊎◌, inl, inr, ℕ, true, false, List, [], ◌∷◌, ◌++◌, Option, Some, None, option_map, refl, sym, ap, subst, ◌∙◌, arith}
use Rattle.std.specs.Prelude.{slice_get, length, take, drop as drop_first}
use Rattle.law_words_kept.specs.Below.fr_base.declared.name.MutexNo.{MutexNo}
use Rattle.law_words_kept.specs.Below.fr_base.declared.name.ObjNo.{ObjNo}
use Rattle.law_words_kept.specs.Below.fr_base.declared.place.Lval.{Lval}
use Rattle.law_words_kept.specs.Below.fr_base.declared.step.Fresh.TheVariants as fresh
use Rattle.law_words_kept.specs.Below.fr_base.declared.instruction.Instr.{Instr}
use Rattle.law_words_kept.specs.Below.fr_base.declared.instruction.Instr.TheVariants as instr
use Rattle.law_words_kept.specs.Below.heap_partition.declared.value.Owned.{Owned}
use Rattle.law_words_kept.specs.Below.journal.View.{EntryView}
use Rattle.law_words_kept.specs.Below.journal.declared.act.Act.TheVariants as act
use Rattle.law_words_kept.specs.Below.thread_state.View.{ThreadState}
use Rattle.law_words_kept.specs.Below.thread_state.declared.phase.Phase.TheVariants as phase
use Rattle.law_words_kept.specs.Below.thread_state.declared.value.Value.TheVariants as value
use Rattle.law_words_kept.specs.Below.server_msgs.declared.message.Message.TheVariants as message
use Rattle.law_words_kept.specs.Below.server_model.declared.event.What.TheVariants.{Step}
use Rattle.law_words_kept.specs.Below.server_model.Servers.{Server, Cluster, server_at}
use Rattle.law_words_kept.specs.Below.server_model.Work.{Hand, thread_in, without_thread, then_some}
use Rattle.law_words_kept.specs.Below.server_model.Clusters.{with_server, hand_over_newer, done_at, apply}
use Rattle.law_words_kept.specs.Below.server_model.Places.{Spot, in_slot, load_at}
use Rattle.law_words_kept.specs.Below.server_model.Prepare.{Prepared, ready, requested, nothing, read_stars}
use Rattle.law_words_kept.specs.Below.server_model.Commit.{waiting, take_gift, mutex_at, ask_lock, push_content, lock}
use Rattle.law_words_kept.specs.Below.server_model.Events.{enabled, begin_work, Stepped, committed, prepared, step, step_in, stepped, does}
use Rattle.law_words_kept.specs.Below.coherent_memory.Names.{tot}
use Rattle.law_words_kept.specs.Below.coherent_memory.Things.{things_at, slot_things, temp_things, gift_things, walk_things, thread_things, servers_things, things_of}
use Rattle.law_words_kept.specs.Below.coherent_memory.Follow.{place_at}
use Rattle.law_words_kept.specs.Below.coherent_memory.Sight.{sight}
use Rattle.law_words_kept.specs.Below.coherent_memory.Weights.{owners}
use Rattle.law_words_kept.proofs.Below.coherent_memory.Sums.{tot-append}
use Rattle.law_words_kept.specs.Below.coherent_types.ClusterTypes.{IsCoherent}
use Rattle.law_words_kept.specs.Below.law_words_paths.words.Reworded.{HasPlaces}
use Rattle.law_words_kept.specs.Below.law_words_paths.words.Unmoved.{pointing, LeavesWords}
use Rattle.law_words_kept.proofs.Below.law_words_paths.words.Follows.{seen_places_lead}
use Rattle.law_words_kept.proofs.Below.law_words_paths.words.Unmoved.{untouched_stays}
use Rattle.law_words_kept.specs.Below.law_counts_sums.Laws.{Gives, GoTo, FewEvents}
use Rattle.law_words_kept.proofs.Below.law_counts_sums.Results.{over_gives, map_gives, both_give, test_gives}
use Rattle.law_words_kept.proofs.Below.law_counts_sums.RulesKeep.{sums_kept}
use Rattle.law_words_kept.proofs.Below.law_counts_sums.Bags.{all_standing, body_things}
use Rattle.law_words_kept.proofs.Below.law_counts_sums.Events.{others_of}
use Rattle.law_words_kept.proofs.Below.law_counts_sums.AllSteps.{commits}
use Rattle.law_words_kept.proofs.Below.law_counts_sums.Commits.{CommittedOk}
use Rattle.law_words_kept.proofs.Below.law_counts_sums.Steps.{SteppedOk, committed_keeps}
use Rattle.law_words_kept.proofs.Below.law_counts_sums.Applied.{go_with}
use Rattle.law_words_kept.proofs.Below.law_counts_sums.Sending.{applied_part, each_event_sends}
use Rattle.law_words_kept.specs.reads.Reading.{locks}
use Rattle.law_words_kept.proofs.stays.Alike.{Alike, itself}
use Rattle.law_words_kept.proofs.stays.Sites.{handed_over}
use Rattle.law_words_kept.proofs.stays.Seen.{seen_alike}
use Rattle.law_words_kept.proofs.stays.Steps.{TakesNoneHere, untaken_here}
use Rattle.law_words_kept.specs.prepared.Requests.{WordsRise}
use Rattle.law_words_kept.proofs.prepared.Rising.{rise_left}
use Rattle.law_words_kept.proofs.prepared.Along.{Along}
use Rattle.law_words_kept.proofs.prepared.Untaken.{not_taken}
use Rattle.law_words_kept.proofs.prepared.Hands.{Ok, State, Walks, places, put, first_hand, requests}
use Rattle.law_words_kept.proofs.prepared.Stars.{ReadsOk, a_slot, stars_ok}
use Rattle.law_words_kept.proofs.prepared.Asking.{found_number}
use Rattle.law_words_values.specs.carried.Steps.{LocksKeep}
use Rattle.law_words_values.proofs.carried.Replaced.{tail_of}
use Rattle.law_words_values.proofs.carried.Passing.{slot, nowhere}
use Rattle.law_words_values.proofs.carried.Places.{end_none, end_sum, gift_to_slot}
use Rattle.law_words_values.proofs.carried.Hands.{RootedIn, rooted, Moved, passed, moved_from}
use Rattle.law_words_values.proofs.carried.Steps.{Does, goes_over, slot_pushed}
use Rattle.law_words_values.proofs.carried.Gives.{held_unseen}

-- WORDS THAT HOLD

pub holds_on : {k a b : Cluster} → LeavesWords a b → WordsRise k a → WordsRise k b
holds_on p w = rise_left p w

-- with the server put back
abbrev pub Kept : Cluster → Server → Server × EntryView → Type 0
Kept k s r = WordsRise k (record k { servers = with_server k.servers s.rest.number r.0 }) × HasPlaces (record k { servers = with_server k.servers s.rest.number r.0 })

handed : (k : Cluster) (s : Server) → server_at k.servers s.rest.number ≡ Some s → (o : Option (Server × EntryView)) → Gives (Kept k s) o
    → Gives (λ (r : Server × EntryView). GoTo (with_server k.servers s.rest.number r.0) (drop_first (length s.rest.outbox) r.0.rest.outbox)) o
    → Gives (λ (d : Cluster × EntryView). HasPlaces d.0 → WordsRise k d.0) (option_map (λ r. (record k { servers = hand_over_newer s.rest.number (length s.rest.outbox) r.0 k.servers }, r.1)) o)
handed k s here None a g = tt
handed k s here (Some r) a g = λ q.
    let n = s.rest.number in
    let older = length s.rest.outbox in
    let mid : Cluster = record k { servers = with_server k.servers n r.0 } in
    let end : Cluster = record k { servers = hand_over_newer n older r.0 k.servers } in
    let alike : Alike k.code (things_of mid) (things_of end) = handed_over n older s r.0 k.servers here (go_with k.servers n r.0 (take older r.0.rest.outbox) (drop_first older r.0.rest.outbox) g) in
    holds_on (untouched_stays mid end a.1 q (seen_alike mid end a.1 q refl alike)) a.0

pub kept_where : (k : Cluster) (s : Server) (t : ℕ) → IsCoherent k → FewEvents k → server_at k.servers s.rest.number ≡ Some s → (enabled k.options s (Step t) ≡ true → Gives (Kept k s) (does k.code k.options s (Step t)))
    → Gives (λ (d : Cluster × EntryView). WordsRise k d.0) (apply k (record { server = s.rest.number; what = Step t }))
kept_where k s t coherent few h go =
    both_give (λ (d : Cluster × EntryView). HasPlaces d.0 → WordsRise k d.0) (λ (d : Cluster × EntryView). HasPlaces d.0) (λ (d : Cluster × EntryView). WordsRise k d.0) (apply k (record { server = s.rest.number; what = Step t }))
    (subst (λ o. Gives (λ (d : Cluster × EntryView). HasPlaces d.0 → WordsRise k d.0) (then_some o (λ x. option_map (λ d. (record k { servers = hand_over_newer s.rest.number (length x.rest.outbox) d.0 k.servers }, d.1)) (done_at k (Step t) x)))) (sym h)
    (handed k s h (done_at k (Step t) s) (test_gives (Kept k s) (enabled k.options s (Step t)) (does k.code k.options s (Step t)) go) (each_event_sends k (record { server = s.rest.number; what = Step t }) coherent.sound few s h)))
    (applied_part HasPlaces (λ c g. record { numbers_differ = g.numbers_differ; home_of_each = g.home_of_each; owner_of_each = g.owner_of_each }) k (record { server = s.rest.number; what = Step t }) coherent.sound few)
    (λ d a c. a c)

-- what was taken stands at a place in the middle of an event too
rooted_along : (k z : Cluster) → Along k z → RootedIn k → RootedIn z
rooted_along k z a go t h =
    let y = a.takes t h in
    let q = go y.taking y.among in
    let same : place_at (sight z).ground t.thread t.place ≡ place_at (sight k).ground t.thread t.place = seen_places_lead (sight k).ground (sight z).ground a.slots_lead a.cells_lead t.thread t.place.slot t.place.depth in
    (q.0, same ∙ ap (λ m. place_at (sight k).ground m t.place) (sym y.thread) ∙ ap (place_at (sight k).ground y.taking.thread) (sym y.place) ∙ q.1)

-- THE CONTENT BECOMES A VARIABLE

module _ (code : List Instr) (n : ℕ) (h : Hand) (none : TakesNoneHere code h.thread) (m : MutexNo) (v : Owned) (given : h.thread.gift ≡ Some v) where
  abbrev x : ThreadState
  x = h.thread

  -- the mark of the lock owns nothing
  mark_owns : (o : ObjNo) → tot (owners o) (tail_of n (record x { slots = x.slots ++ value.Held m ∷ [] })) ≡ tot (owners o) (tail_of n x)
  mark_owns o =
      let w = owners o in
      let a = gift_things x.number x.gift ++ things_at (walk_things n) 0 x.walk in
      let b = things_at (temp_things n x.number) 0 x.temps in
      let s = things_at (slot_things n x.number) 0 x.slots in
      let z = things_at (slot_things n x.number) 0 (x.slots ++ value.Held m ∷ []) in
      let q = end_sum w (slot_things n x.number) 0 x.slots (value.Held m) in
      let c = tot-append w (a ++ s) b in
      let d = tot-append w a s in
      let e = tot-append w (a ++ z) b in
      let f = tot-append w a z in
      omega (arith, q.1, c, d, e, f)

  pub content_taken : (sp : Spot) → Does code n h (push_content v (load_at sp (take_gift h)) m)
  content_taken sp =
      let y : ThreadState = record x { slots = x.slots ++ value.Held m ∷ [] } in
      let z : ThreadState = record y { gift = None; slots = y.slots ++ value.Own v ∷ [] } in record {
        moved = passed y z refl (slot_pushed code n h (value.Held m) refl (held_unseen m)).thread (λ o. mark_owns o) (gift_to_slot code n y none v given) (λ i w. blind i w)
            (record { number = refl; named = refl; alike = itself (thread_things n false z ++ body_things n h.work.rest) });
        untaken = none;
      }
    where
      blind : (i : ℕ) → (slot i ≡ nowhere) ⊎ (slot i ≡ slot (length (x.slots ++ value.Held m ∷ []))) → pointing (slice_get (x.slots ++ value.Held m ∷ []) i) ≡ None
      blind i (inl q) = absurd cc
      blind i (inr q) = let e : i ≡ length (x.slots ++ value.Held m ∷ []) = cc in ap (λ j. pointing (slice_get (x.slots ++ value.Held m ∷ []) j)) e ∙ ap pointing (end_none (x.slots ++ value.Held m ∷ []))

-- THE STEP

module _ (k : Cluster) (coherent : IsCoherent k) (s : Server) (here : server_at k.servers s.rest.number ≡ Some s) (t : ℕ) (y : ThreadState) (at : thread_in s.threads t ≡ Some y)
    (on : enabled k.options s (Step t) ≡ true) (w : Lval) (code : slice_get k.code y.pc ≡ Some (instr.Lock w)) (free : (v : ℕ) → y.phase ≡ phase.Taken v → ⊥) where
  abbrev n : ℕ
  n = s.rest.number

  abbrev W : Hand → Type 0
  W = Walks k coherent s here t y at

  abbrev S : Hand → Type 0
  S = State k coherent s here t y at

  abbrev h0 : Hand
  h0 = record { work = begin_work s.rest; thread = y }

  abbrev Fine : Prepared → Type 0
  Fine = ReadsOk k coherent s here t y at on (instr.Lock w) code w w.depth (locks refl) w.depth

  abbrev Left : Stepped → Type 0
  Left d = WordsRise k (put k coherent s here t y at d.hand) × HasPlaces (put k coherent s here t y at d.hand)

  left_by_state : (h : Hand) → S h → WordsRise k (put k coherent s here t y at h) × HasPlaces (put k coherent s here t y at h)
  left_by_state h g = (g.along.words, places k coherent s here t y at h g.ok)

  none : TakesNoneHere k.code y
  none = untaken_here y.number y.phase (slice_get k.code y.pc) free

  followed : Fine (read_stars w.depth h0 (in_slot w.slot))
  followed = stars_ok k coherent s here t y at on (instr.Lock w) code w w.depth (locks refl) w.depth 0 h0 (in_slot w.slot) (omega arith) (record { state = first_hand k coherent s here t y at; untaken = λ e. e; gift = refl }) (a_slot w.slot refl)

  asks : (o : Option MutexNo) (h : Hand) → W h → Gives Left (committed (waiting (option_map (ask_lock h) o)))
  asks None h g = tt
  asks (Some c) h g = left_by_state _ (requests k coherent s here t y at (act.AskLock c) c.home (message.Lock c h.work.rest.number h.thread.number) (phase.WaitLock c) h refl refl (λ p e z. z) (λ a j. refl) none g)

  takes : (sp : Spot) (h : Hand) (v : Owned) → W h → h.thread.gift ≡ Some v → Gives Left (committed (lock sp (Some v) h))
  takes sp h v g e =
      let b = all_standing n (without_thread s.threads t) ++ servers_things (others_of k.servers n) in
      let o = option_map (push_content v (load_at sp (take_gift h))) (mutex_at h sp) in
      both_give (SteppedOk sums_kept n s.events t b) (λ (d : Stepped). Moved k.code n h d.hand) Left (committed (lock sp (Some v) h))
      (committed_keeps sums_kept n s.events t b (lock sp (Some v) h) (subst (λ q. CommittedOk (Ok k coherent s here t y at) (lock sp q h)) e (commits sums_kept n s.events t b 0 (instr.Lock w) sp h tt (λ z. absurd z) g.state.ok)))
      (goes_over k.code n h fresh.None o (map_gives (Does k.code n h) (mutex_at h sp) (push_content v (load_at sp (take_gift h))) (λ c q. content_taken k.code n h (g.untaken none) c v e sp)))
      (λ d ok moved.
      let before = places k coherent s here t y at h g.state.ok in
      let after = places k coherent s here t y at d.hand ok in (
        holds_on (moved_from k coherent.sound s here t y at h d.hand g.state.ok.number g.state.ok.thread before after (rooted_along k (put k coherent s here t y at h) g.state.along (rooted k coherent.sound)) g.state.along.words.first_at_holder moved) g.state.along.words,
        after,
      ))

  by_gift : (o : Option Owned) (sp : Spot) (h : Hand) → W h → h.thread.gift ≡ o → Gives Left (committed (lock sp o h))
  by_gift None sp h g e = asks (mutex_at h sp) h g
  by_gift (Some v) sp h g e = takes sp h v g e

  prepared_lock : (servers : ℕ) (x : Prepared) → Fine x → Gives Left (prepared servers (instr.Lock w) x)
  prepared_lock servers (ready h sp) g = by_gift h.thread.gift sp h g.0 refl
  prepared_lock servers (requested h) g = left_by_state h (g none)
  prepared_lock servers nothing g = tt

  pub server_locks : Gives (Kept k s) (does k.code k.options s (Step t))
  server_locks =
      subst (λ o. Gives (Kept k s) (option_map (stepped s) (then_some (option_map (λ v. record { work = begin_work s.rest; thread = v }) o) (step_in k.code k.options.servers)))) (sym at)
      (subst (λ o. Gives (Kept k s) (option_map (stepped s) (then_some o (λ j. step k.options.servers j h0)))) (sym code)
      (over_gives Left (Kept k s) (step k.options.servers (instr.Lock w) h0) (stepped s) (prepared_lock k.options.servers (read_stars w.depth h0 (in_slot w.slot)) followed) (λ d g. g)))

pub locks_keep : LocksKeep
locks_keep k number t s y w coherent few here at code =
    subst (λ c. server_at k.servers c ≡ Some s → Gives (λ (d : Cluster × EntryView). WordsRise k d.0) (apply k (record { server = c; what = Step t }))) (found_number number k.servers s here)
    (λ h. kept_where k s t coherent few h (λ on. server_locks k coherent s h t y at on w code (not_taken k coherent.sound number s here t y at (instr.Lock w) code refl))) here
