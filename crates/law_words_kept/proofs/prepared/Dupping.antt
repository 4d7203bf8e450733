-- A dup: it asks for a share of its mutex, or takes the one that came, to which no pointer leads.
use Rattle.std.proofs.Common.{◌≡◌, ℕ, true, false, List, [], ◌++◌, Option, Some, None, option_map, refl, sym, ap, subst, ◌∙◌, arith}
use Rattle.std.specs.Prelude.{⊤, slice_get}
use Rattle.law_words_kept.specs.Below.fr_base.declared.name.MutexNo.{MutexNo}
use Rattle.law_words_kept.specs.Below.fr_base.declared.place.Lval.{Lval}
use Rattle.law_words_kept.specs.Below.fr_base.declared.instruction.Instr.{Instr}
use Rattle.law_words_kept.specs.Below.fr_base.declared.instruction.Instr.TheVariants as instr
use Rattle.law_words_kept.specs.Below.heap_partition.declared.value.Owned.{Owned}
use Rattle.law_words_kept.specs.Below.heap_partition.declared.value.Owned.TheVariants as owned
use Rattle.law_words_kept.specs.Below.journal.View.{EntryView}
use Rattle.law_words_kept.specs.Below.journal.declared.act.Act.TheVariants as act
use Rattle.law_words_kept.specs.Below.thread_state.View.{ThreadState}
use Rattle.law_words_kept.specs.Below.thread_state.declared.phase.Phase.TheVariants as phase
use Rattle.law_words_kept.specs.Below.thread_state.declared.value.Value.TheVariants as value
use Rattle.law_words_kept.specs.Below.server_msgs.declared.message.Message.TheVariants as message
use Rattle.law_words_kept.specs.Below.server_model.declared.event.What.TheVariants.{Step}
use Rattle.law_words_kept.specs.Below.server_model.Servers.{Server, Cluster, server_at}
use Rattle.law_words_kept.specs.Below.server_model.Work.{Hand, push_temp, thread_in, without_thread, then_some}
use Rattle.law_words_kept.specs.Below.server_model.Clusters.{apply}
use Rattle.law_words_kept.specs.Below.server_model.Places.{Spot, in_slot, load_at}
use Rattle.law_words_kept.specs.Below.server_model.Prepare.{Prepared, ready, requested, nothing, read_stars}
use Rattle.law_words_kept.specs.Below.server_model.Commit.{waiting, take_gift, mutex_at, ask_dup, dup}
use Rattle.law_words_kept.specs.Below.server_model.Events.{enabled, begin_work, Stepped, committed, prepared, step, step_in, stepped, does}
use Rattle.law_words_kept.specs.Below.coherent_memory.Names.{other}
use Rattle.law_words_kept.specs.Below.coherent_memory.Things.{in_hand, holds, servers_things}
use Rattle.law_words_kept.specs.Below.coherent_memory.Follow.{Standing}
use Rattle.law_words_kept.specs.Below.coherent_memory.Sight.{sight}
use Rattle.law_words_kept.specs.Below.coherent_memory.Requests.{is_value_of, dupped_mutex, gift_fits, gift_there}
use Rattle.law_words_kept.specs.Below.coherent_types.ClusterTypes.{IsCoherent}
use Rattle.law_words_kept.proofs.Below.law_words_paths.paths.Shown.{none_else}
use Rattle.law_words_kept.specs.Below.law_counts_sums.Laws.{Gives}
use Rattle.law_words_kept.proofs.Below.law_counts_sums.Results.{map_gives, over_gives, both_give, weaker}
use Rattle.law_words_kept.proofs.Below.law_counts_sums.RulesKeep.{sums_kept}
use Rattle.law_words_kept.proofs.Below.law_counts_sums.Bags.{all_standing, body_things}
use Rattle.law_words_kept.proofs.Below.law_counts_sums.Events.{others_of}
use Rattle.law_words_kept.proofs.Below.law_counts_sums.AllSteps.{commits}
use Rattle.law_words_kept.proofs.Below.law_counts_sums.Commits.{CommittedOk}
use Rattle.law_words_kept.proofs.Below.law_counts_sums.Steps.{SteppedOk, committed_keeps}
use Rattle.law_words_kept.proofs.Below.law_counts_sums.GiftsTaken.{none_here}
use Rattle.law_words_kept.specs.reads.Reading.{dups}
use Rattle.law_words_kept.proofs.stays.Alike.{Alike, itself, blank}
use Rattle.law_words_kept.proofs.stays.Servers.{held_if}
use Rattle.law_words_kept.proofs.stays.Threads.{slots_of, temps_of, thread_alike}
use Rattle.law_words_kept.proofs.stays.Sites.{HandAlike}
use Rattle.law_words_kept.proofs.stays.Steps.{IsUnseen, TakesNoneHere, Goes, hand_chain, pushes, goes_over, untaken_here}
use Rattle.law_words_kept.specs.prepared.Requests.{WordsRise, DupsKeep}
use Rattle.law_words_kept.proofs.prepared.Untaken.{not_taken}
use Rattle.law_words_kept.proofs.prepared.Hands.{Ok, State, Walks, places, first_hand, unseen, requests}
use Rattle.law_words_kept.proofs.prepared.Stars.{ReadsOk, a_slot, stars_ok}
use Rattle.law_words_kept.proofs.prepared.Asking.{There, kept_where, found_number}

mutex_unseen : (m : MutexNo) → IsUnseen (value.Own (owned.Mutex m))
mutex_unseen m = record { points = refl; things = λ n p l. blank (holds p (owned.Mutex m)) (λ q e h. h) }

is_mutex : (v : Owned) (o : Option MutexNo) → is_value_of v o ≡ true → (m : MutexNo) × (v ≡ owned.Mutex m)
is_mutex (owned.Mutex m) (Some c) e = (m, refl)
is_mutex v None e = absurd cc
is_mutex owned.Nothing (Some c) e = absurd cc
is_mutex owned.Unit (Some c) e = absurd cc
is_mutex (owned.Int i) (Some c) e = absurd cc
is_mutex (owned.Task i) (Some c) e = absurd cc
is_mutex (owned.Box b) (Some c) e = absurd cc

-- a gift that is a mutex is taken, and comes on top
gift_pushed : (code : List Instr) (n : ℕ) (m : MutexNo) (sp : Spot) (h : Hand) → h.thread.gift ≡ Some (owned.Mutex m) → TakesNoneHere code h.thread → Goes code n h (push_temp (value.Own (owned.Mutex m)) (load_at sp (take_gift h)))
gift_pushed code n m sp h e none =
    let h2 = load_at sp (take_gift h) in
    let taken : HandAlike code n [] h h2 = record {
      number = refl;
      named = refl;
      thread = thread_alike n n false false h.thread (record h.thread { gift = None }) [] [] (record { number = refl; taking = refl; slots = λ i. refl; temps = λ i. refl }) (itself (slots_of n h.thread)) (itself (temps_of n h.thread))
          (subst (λ g. Alike code (held_if g) []) (sym e) (blank (holds in_hand (owned.Mutex m)) (λ q x z. z)));
      rest = itself (body_things n h.work.rest);
    } in
    let g = pushes code n h2 (value.Own (owned.Mutex m)) (mutex_unseen m) none in
    record { alike = hand_chain code n h h2 (push_temp (value.Own (owned.Mutex m)) h2) taken g.alike; untaken = g.untaken }

module _ (k : Cluster) (coherent : IsCoherent k) (s : Server) (here : server_at k.servers s.rest.number ≡ Some s) (t : ℕ) (y : ThreadState) (at : thread_in s.threads t ≡ Some y)
    (on : enabled k.options s (Step t) ≡ true) (w : Lval) (code : slice_get k.code y.pc ≡ Some (instr.Dup w)) (free : (v : ℕ) → y.phase ≡ phase.Taken v → ⊥) where
  abbrev n : ℕ
  n = s.rest.number

  abbrev W : Hand → Type 0
  W = Walks k coherent s here t y at

  abbrev S : Hand → Type 0
  S = State k coherent s here t y at

  abbrev h0 : Hand
  h0 = record { work = begin_work s.rest; thread = y }

  abbrev Fine : Prepared → Type 0
  Fine = ReadsOk k coherent s here t y at on (instr.Dup w) code w w.depth (dups refl) w.depth

  abbrev Left : Stepped → Type 0
  Left d = S d.hand

  none : TakesNoneHere k.code y
  none = untaken_here y.number y.phase (slice_get k.code y.pc) free

  followed : Fine (read_stars w.depth h0 (in_slot w.slot))
  followed = stars_ok k coherent s here t y at on (instr.Dup w) code w w.depth (dups refl) w.depth 0 h0 (in_slot w.slot) (omega arith) (record { state = first_hand k coherent s here t y at; untaken = λ e. e; gift = refl }) (a_slot w.slot refl)

  -- a gift there is the mutex
  gift_is : (v : Owned) → y.gift ≡ Some v → (m : MutexNo) × (v ≡ owned.Mutex m)
  gift_is v e =
      let x : Standing = record { server = n; packed = false; thread = y } in
      let fits : gift_there (sight k) x y.gift ≡ 0 = none_here k coherent.sound n s here t y at (λ z. gift_there (sight k) z z.thread.gift) coherent.sound.requests.gifts_fit in
      let there : gift_fits (sight k) x v (slice_get k.code y.pc) ≡ 0 = subst (λ g. gift_there (sight k) x g ≡ 0) e fits in
      let same : other (is_value_of v (dupped_mutex (sight k) x (Some (instr.Dup w)))) ≡ 0 = subst (λ i. gift_fits (sight k) x v i ≡ 0) code there in
      is_mutex v (dupped_mutex (sight k) x (Some (instr.Dup w))) (none_else (is_value_of v (dupped_mutex (sight k) x (Some (instr.Dup w)))) same)

  asks : (o : Option MutexNo) (h : Hand) → W h → Gives Left (committed (waiting (option_map (ask_dup h) o)))
  asks None h g = tt
  asks (Some c) h g =
      let q = requests k coherent s here t y at (act.AskDup c) c.home (message.Dup c h.work.rest.number h.thread.number) (phase.WaitDup c) h refl refl (λ p e z. z) (λ a j. refl) none g in
      record { ok = record { number = q.ok.number; thread = q.ok.thread; bag = q.ok.bag }; along = q.along }

  takes : (sp : Spot) (h : Hand) (m : MutexNo) → W h → h.thread.gift ≡ Some (owned.Mutex m) → Gives Left (committed (dup sp (Some (owned.Mutex m)) h))
  takes sp h m g e =
      let b = all_standing n (without_thread s.threads t) ++ servers_things (others_of k.servers n) in
      let o = option_map (λ c. push_temp (value.Own (owned.Mutex m)) (load_at sp (take_gift h))) (mutex_at h sp) in
      both_give (SteppedOk sums_kept n s.events t b) (λ (d : Stepped). HandAlike k.code n [] h d.hand) Left (committed (dup sp (Some (owned.Mutex m)) h))
      (committed_keeps sums_kept n s.events t b (dup sp (Some (owned.Mutex m)) h) (subst (λ q. CommittedOk (Ok k coherent s here t y at) (dup sp q h)) e (commits sums_kept n s.events t b 0 (instr.Dup w) sp h tt (λ z. absurd z) g.state.ok)))
      (goes_over k.code n h o (map_gives (Goes k.code n h) (mutex_at h sp) (λ c. push_temp (value.Own (owned.Mutex m)) (load_at sp (take_gift h))) (λ c q. gift_pushed k.code n m sp h e (g.untaken none))))
      (λ d x c. unseen k coherent s here t y at h d.hand g.state x c)

  by_gift : (o : Option Owned) (sp : Spot) (h : Hand) → W h → h.thread.gift ≡ o → Gives Left (committed (dup sp o h))
  by_gift None sp h g e = asks (mutex_at h sp) h g
  by_gift (Some v) sp h g e =
      let q = gift_is v (sym g.gift ∙ e) in
      subst (λ u. Gives Left (committed (dup sp (Some u) h))) (sym q.1) (takes sp h q.0 g (e ∙ ap Some q.1))

  prepared_dup : (servers : ℕ) (x : Prepared) → Fine x → Gives Left (prepared servers (instr.Dup w) x)
  prepared_dup servers (ready h sp) g = by_gift h.thread.gift sp h g.0 refl
  prepared_dup servers (requested h) g = let q = g none in record { ok = record { number = q.ok.number; thread = q.ok.thread; bag = q.ok.bag }; along = q.along }
  prepared_dup servers nothing g = tt

  pub server_dups : Gives (There (λ v. ⊤) k s) (does k.code k.options s (Step t))
  server_dups =
      subst (λ o. Gives (There (λ v. ⊤) k s) (option_map (stepped s) (then_some (option_map (λ v. record { work = begin_work s.rest; thread = v }) o) (step_in k.code k.options.servers)))) (sym at)
      (subst (λ o. Gives (There (λ v. ⊤) k s) (option_map (stepped s) (then_some o (λ j. step k.options.servers j h0)))) (sym code)
      (over_gives Left (There (λ v. ⊤) k s) (step k.options.servers (instr.Dup w) h0) (stepped s) (prepared_dup k.options.servers (read_stars w.depth h0 (in_slot w.slot)) followed) (λ d g q. (g.along, places k coherent s here t y at d.hand g.ok))))

pub dups_keep : DupsKeep
dups_keep k number t s y w coherent few here at code =
    subst (λ c. server_at k.servers c ≡ Some s → Gives (λ (d : Cluster × EntryView). WordsRise k d.0) (apply k (record { server = c; what = Step t }))) (found_number number k.servers s here)
    (λ h.
    weaker (λ (d : Cluster × EntryView). ⊤ → WordsRise k d.0) (λ (d : Cluster × EntryView). WordsRise k d.0) (apply k (record { server = s.rest.number; what = Step t }))
    (kept_where k s t (λ v. ⊤) coherent few h (λ on. server_dups k coherent s h t y at on w code (not_taken k coherent.sound number s here t y at (instr.Dup w) code refl))) (λ d a. a tt)) here
