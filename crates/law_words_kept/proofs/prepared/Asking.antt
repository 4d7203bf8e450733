-- A step that reads its place, or borrows from it, and ends in a request.
use Rattle.std.proofs.Common.{◌≡◌, ℕ, zero, suc, ◌==◌, Bool, true, false, if◌then◌else◌, List, [], ◌∷◌, Option, Some, None, option_map, refl, sym, ap, subst, ◌∙◌, arith}
use Rattle.std.specs.Prelude.{⊤, slice_get, take, drop as drop_first, length}
use Rattle.law_words_kept.specs.Below.fr_base.declared.name.MutexNo.{MutexNo}
use Rattle.law_words_kept.specs.Below.fr_base.declared.place.Lval.{Lval}
use Rattle.law_words_kept.specs.Below.fr_base.declared.step.Fresh.TheVariants as fresh
use Rattle.law_words_kept.specs.Below.fr_base.declared.instruction.Instr.{Instr}
use Rattle.law_words_kept.specs.Below.fr_base.declared.instruction.Instr.TheVariants as instr
use Rattle.law_words_kept.specs.Below.global_addr.Words.{colour_of, server_of}
use Rattle.law_words_kept.specs.Below.heap_partition.declared.value.BoxPtr.{BoxPtr}
use Rattle.law_words_kept.specs.Below.heap_partition.declared.value.Owned.{Owned}
use Rattle.law_words_kept.specs.Below.mut_borrow.Refs.{cleaned_answer}
use Rattle.law_words_kept.specs.Below.mut_borrow.declared.mutable.MutRef.{MutRef}
use Rattle.law_words_kept.specs.Below.mut_borrow.declared.mutable.Cleaned.{Cleaned}
use Rattle.law_words_kept.specs.Below.mut_borrow.declared.mutable.Cleaned.TheVariants as cleaned
use Rattle.law_words_kept.specs.Below.journal.View.{EntryView}
use Rattle.law_words_kept.specs.Below.journal.declared.act.Act.TheVariants as act
use Rattle.law_words_kept.specs.Below.thread_state.View.{ThreadState}
use Rattle.law_words_kept.specs.Below.thread_state.declared.phase.Phase.{Phase}
use Rattle.law_words_kept.specs.Below.thread_state.declared.phase.Phase.TheVariants as phase
use Rattle.law_words_kept.specs.Below.thread_state.declared.value.Value.{Value}
use Rattle.law_words_kept.specs.Below.thread_state.declared.value.Value.TheVariants as value
use Rattle.law_words_kept.specs.Below.place_walk.declared.hop.Hop.{Hop}
use Rattle.law_words_kept.specs.Below.place_walk.declared.hop.Hop.TheVariants as hop
use Rattle.law_words_kept.specs.Below.place_walk.Hops.{write_hop}
use Rattle.law_words_kept.specs.Below.server_msgs.declared.message.Message.TheVariants as message
use Rattle.law_words_kept.specs.Below.server_model.declared.event.What.TheVariants.{Step}
use Rattle.law_words_kept.specs.Below.server_model.Servers.{Server, Cluster, server_at}
use Rattle.law_words_kept.specs.Below.server_model.Work.{Hand, thread_in, then_some, push_temp}
use Rattle.law_words_kept.specs.Below.server_model.Clusters.{with_server, hand_over_newer, done_at, apply}
use Rattle.law_words_kept.specs.Below.server_model.NewWords.{issue_tint, issue_renewal}
use Rattle.law_words_kept.specs.Below.server_model.Places.{Spot, in_slot, value_at, load_at, pointer_of, put_word}
use Rattle.law_words_kept.specs.Below.server_model.Prepare.{Prepared, ready, requested, nothing, and_then, ready_at, read_or_taken, ask_object, request_by, box_of, cleaned_by, clean_value, read_stars, read_pointer, is_taken, lend_by, lend_value, lend_pointer, prepare}
use Rattle.law_words_kept.specs.Below.server_model.Commit.{goes_on, go_on, waiting, read, borrow, borrow_mut, take_gift, mutex_at, ask_dup, dup, ask_lock, push_content, lock, commit, settle}
use Rattle.law_words_kept.specs.Below.server_model.Events.{enabled, begin_work, Stepped, done_step, wait_step, committed, prepared, step, step_in, stepped, does}
use Rattle.law_words_kept.specs.Below.coherent_memory.Things.{things_of}
use Rattle.law_words_kept.proofs.Below.coherent_memory.Names.{same_number}
use Rattle.law_words_kept.specs.Below.coherent_types.ClusterTypes.{IsCoherent}
use Rattle.law_words_kept.proofs.Below.law_words_paths.paths.Sole.{some_is}
use Rattle.law_words_kept.specs.Below.law_words_paths.words.Reworded.{HasPlaces}
use Rattle.law_words_kept.specs.Below.law_words_paths.words.Unmoved.{taking_by}
use Rattle.law_words_kept.specs.Below.law_counts_sums.Laws.{Gives, GoTo, FewEvents}
use Rattle.law_words_kept.proofs.Below.law_counts_sums.Results.{map_gives, over_gives, test_gives, both_give}
use Rattle.law_words_kept.proofs.Below.law_counts_sums.Applied.{go_with}
use Rattle.law_words_kept.proofs.Below.law_counts_sums.Sending.{applied_part, each_event_sends}
use Rattle.law_words_kept.specs.reads.Reading.{Reads, copies, shares, lends, dups, locks}
use Rattle.law_words_kept.proofs.stays.Alike.{Alike}
use Rattle.law_words_kept.proofs.stays.Sites.{handed_over}
use Rattle.law_words_kept.proofs.stays.Steps.{TakesNoneHere}
use Rattle.law_words_kept.specs.prepared.Requests.{WordsRise, ReadsThatAsk}
use Rattle.law_words_kept.proofs.prepared.Along.{Along, along_alike}
use Rattle.law_words_kept.proofs.prepared.Hands.{places, State, Walks, first_hand, requests}
use Rattle.law_words_kept.proofs.prepared.Stars.{ReadsOk, a_slot, asks_object, walks_loaded, stars_ok}

takes_none : (t : ℕ) (p : Phase) (j : Option Instr) → ((v : ℕ) → p ≡ phase.Taken v → ⊥) → taking_by t p j ≡ None
takes_none t (phase.Taken v) j f = absurd (f v refl)
takes_none t _ j f = refl

pub read_all : (v : Lval) (d : ℕ) (h : Hand) → prepare (Some (read_or_taken v d false)) h ≡ read_stars v.depth h (in_slot v.slot)
read_all v zero h = refl
read_all v (suc d) h = refl

-- the words hold with the server put back, where the entry is such
abbrev pub There : (EntryView → Type 0) → Cluster → Server → Server × EntryView → Type 0
There Q k s r = Q r.1 → Along k (record k { servers = with_server k.servers s.rest.number r.0 }) × HasPlaces (record k { servers = with_server k.servers s.rest.number r.0 })

module _ (k : Cluster) (coherent : IsCoherent k) (s : Server) (here : server_at k.servers s.rest.number ≡ Some s) (t : ℕ) (y : ThreadState) (at : thread_in s.threads t ≡ Some y)
    (on : enabled k.options s (Step t) ≡ true) (i : Instr) (code : slice_get k.code y.pc ≡ Some i) (w : Lval) (m : ℕ) (reads : Reads i w m) (free : (v : ℕ) → y.phase ≡ phase.Taken v → ⊥) where
  abbrev W : Hand → Type 0
  W = Walks k coherent s here t y at

  abbrev S : Hand → Type 0
  S = State k coherent s here t y at

  abbrev h0 : Hand
  h0 = record { work = begin_work s.rest; thread = y }

  abbrev Fine : Prepared → Type 0
  Fine = ReadsOk k coherent s here t y at on i code w m reads m

  none : TakesNoneHere k.code y
  none = takes_none y.number y.phase (slice_get k.code y.pc) free

  -- where no plain step is done
  abbrev Undone : Stepped → Type 0
  Undone d = d.names ≡ None → S d.hand

  followed : Fine (read_stars m h0 (in_slot w.slot))
  followed = stars_ok k coherent s here t y at on i code w m reads m 0 h0 (in_slot w.slot) (omega arith) (record { state = first_hand k coherent s here t y at; untaken = λ e. e; gift = refl }) (a_slot w.slot refl)

  waits_so : (h : Hand) → S h → S (wait_step h).hand
  waits_so h g = record { ok = record { number = g.ok.number; thread = g.ok.thread; bag = g.ok.bag }; along = g.along }

  done_so : (o : Option Hand) → Gives Undone (committed (goes_on o))
  done_so None = tt
  done_so (Some h2) = map_gives Undone (settle (go_on h2)) (done_step fresh.None) (λ h3 e none. absurd (cc none))

  asks_mutex : (o : Option MutexNo) (ask : MutexNo → Hand) → ((c : MutexNo) → S (ask c)) → Gives Undone (committed (waiting (option_map ask o)))
  asks_mutex None ask f = tt
  asks_mutex (Some c) ask f = λ e. waits_so (ask c) (f c)

  dup_so : (g : Option Owned) (sp : Spot) (h : Hand) → W h → Gives Undone (committed (dup sp g h))
  dup_so None sp h walks =
      asks_mutex (mutex_at h sp) (ask_dup h) (λ c. requests k coherent s here t y at (act.AskDup c) c.home (message.Dup c h.work.rest.number h.thread.number) (phase.WaitDup c) h refl refl (λ q e z. z) (λ a j. refl) none walks)
  dup_so (Some v) sp h walks = done_so (option_map (λ c. push_temp (value.Own v) (load_at sp (take_gift h))) (mutex_at h sp))

  lock_so : (g : Option Owned) (sp : Spot) (h : Hand) → W h → Gives Undone (committed (lock sp g h))
  lock_so None sp h walks =
      asks_mutex (mutex_at h sp) (ask_lock h) (λ c. requests k coherent s here t y at (act.AskLock c) c.home (message.Lock c h.work.rest.number h.thread.number) (phase.WaitLock c) h refl refl (λ q e z. z) (λ a j. refl) none walks)
  lock_so (Some v) sp h walks = done_so (option_map (push_content v (load_at sp (take_gift h))) (mutex_at h sp))

  -- what is asked for leaves the words
  abbrev Asks : Prepared → Type 0
  Asks (ready h sp) = ⊤
  Asks (requested h) = S h
  Asks nothing = ⊤

  asks_if : (b : Bool) (x z : Prepared) → Asks x → Asks z → Asks (if b then x else z)
  asks_if true x z f g = f
  asks_if false x z f g = g

  asks_ready : (sp : Spot) (o : Option Hand) → Asks (ready_at sp o)
  asks_ready sp None = tt
  asks_ready sp (Some h) = tt

  object_asked : (p : BoxPtr) (h : Hand) → W h → S (ask_object p h)
  object_asked p h g = asks_object k coherent s here t y at on i code w m reads p h none g

  cleans_by : (a : Cleaned) (sp : Spot) (r : MutRef) (h : Hand) → W h → Asks (cleaned_by a sp r h)
  cleans_by cleaned.Same sp r h g = tt
  cleans_by (cleaned.Tinted v) sp r h g = asks_ready sp (put_word sp (issue_tint (box_of r) h.work) h)
  cleans_by cleaned.MustRenew sp r h g =
      asks_if (server_of r.word == h.work.rest.number) (ready_at sp (then_some (issue_renewal (box_of r) h.work) (λ c. put_word sp c h))) (requested (ask_object (box_of r) h)) (asks_ready sp (then_some (issue_renewal (box_of r) h.work) (λ c. put_word sp c h))) (object_asked (box_of r) h g)

  cleans : (sp : Spot) (v : Option Value) (h : Hand) → W h → Asks (clean_value sp v h)
  cleans sp (Some (value.Mut r)) h g =
      asks_if (Rattle.std.specs.Prelude.nat_lt (colour_of r.word) h.work.rest.partition.limit) (cleaned_by (cleaned_answer h.work.rest.partition.limit r) sp r h) nothing (cleans_by (cleaned_answer h.work.rest.partition.limit r) sp r h g) tt
  cleans sp _ h g = tt

  object_or_none : (h : Hand) (o : Option BoxPtr) → W h → Asks (request_by ask_object h o)
  object_or_none h None g = tt
  object_or_none h (Some p) g = object_asked p h g

  lends_by : (sp : Spot) (v : Value) (o : Option Hop) (h : Hand) → W h → Asks (lend_by sp v o h)
  lends_by sp v (Some (hop.NeedMove u)) h g = asks_if (is_taken h.thread.phase) (ready h sp) (request_by ask_object h (pointer_of v)) tt (object_or_none h (pointer_of v) g)
  lends_by sp v (Some (hop.Slot u)) h g = tt
  lends_by sp v (Some (hop.Direct u)) h g = tt
  lends_by sp v (Some (hop.Hit u)) h g = tt
  lends_by sp v (Some (hop.NeedCopy u)) h g = tt
  lends_by sp v (Some (hop.NeedTint u)) h g = tt
  lends_by sp v (Some (hop.AtCell u)) h g = tt
  lends_by sp v None h g = tt

  lends_value : (sp : Spot) (v : Option Value) (h : Hand) → W h → Asks (lend_value sp v h)
  lends_value sp None h g = tt
  lends_value sp (Some v) h g = lends_by sp v (write_hop h.work.rest.number v) h g

  asks_then : (x : Prepared) (go : Hand → Spot → Prepared) → Fine x → ((h : Hand) (sp : Spot) → W h → Asks (go h sp)) → Asks (and_then go x)
  asks_then (ready h sp) go g f = f h sp g.0
  asks_then (requested h) go g f = g none
  asks_then nothing go g f = tt

  asks_alone : (x : Prepared) → Fine x → Asks x
  asks_alone (ready h sp) g = tt
  asks_alone (requested h) g = g none
  asks_alone nothing g = tt

  loaded : (sp : Spot) (h : Hand) → W h → W (load_at sp h)
  loaded sp h g = walks_loaded k coherent s here t y at on i code w m reads sp h g

  -- an instruction whose plain step waits for nothing
  prepared_asks : (servers : ℕ) (j : Instr) (x : Prepared) → Asks x → ((h : Hand) (sp : Spot) → Gives Undone (committed (commit servers j sp h))) → Gives Undone (prepared servers j x)
  prepared_asks servers j (ready h sp) g f = f h sp
  prepared_asks servers j (requested h) g f = λ e. waits_so h g
  prepared_asks servers j nothing g f = tt

  prepared_waits : (servers : ℕ) (j : Instr) (x : Prepared) → Fine x → ((h : Hand) (sp : Spot) → W h → Gives Undone (committed (commit servers j sp h))) → Gives Undone (prepared servers j x)
  prepared_waits servers j (ready h sp) g f = f h sp g.0
  prepared_waits servers j (requested h) g f = λ e. waits_so h (g none)
  prepared_waits servers j nothing g f = tt

  step_by : (servers : ℕ) (j : Instr) (v : Lval) (c : ℕ) → Reads j v c → Fine (read_stars c h0 (in_slot v.slot)) → Gives Undone (step servers j h0)
  step_by servers _ v c (copies e) g =
      subst (λ x. Gives Undone (prepared servers (instr.Read v false) x)) (sym (read_all v v.depth h0))
      (subst (λ d. Gives Undone (prepared servers (instr.Read v false) (read_stars d h0 (in_slot v.slot)))) (sym e)
      (prepared_asks servers (instr.Read v false) (read_stars c h0 (in_slot v.slot)) (asks_alone (read_stars c h0 (in_slot v.slot)) g) (λ h sp. done_so (read false sp h))))
  step_by servers _ v c (shares e) g =
      subst (λ d. Gives Undone (prepared servers (instr.Borrow v) (read_pointer v d h0))) (sym e)
      (prepared_asks servers (instr.Borrow v) (read_pointer v (suc c) h0) (asks_then (read_stars c h0 (in_slot v.slot)) (λ h2 sp. clean_value sp (value_at h2 sp) (load_at sp h2)) g (λ h2 sp q. cleans sp (value_at h2 sp) (load_at sp h2) (loaded sp h2 q))) (λ h sp. done_so (borrow v sp h)))
  step_by servers _ v c (lends e) g =
      subst (λ d. Gives Undone (prepared servers (instr.BorrowMut v) (lend_pointer v d h0))) (sym e)
      (prepared_asks servers (instr.BorrowMut v) (lend_pointer v (suc c) h0) (asks_then (read_stars c h0 (in_slot v.slot)) (λ h2 sp. lend_value sp (value_at h2 sp) (load_at sp h2)) g (λ h2 sp q. lends_value sp (value_at h2 sp) (load_at sp h2) (loaded sp h2 q))) (λ h sp. done_so (borrow_mut v sp h)))
  step_by servers _ v c (dups e) g =
      subst (λ d. Gives Undone (prepared servers (instr.Dup v) (read_stars d h0 (in_slot v.slot)))) (sym e)
      (prepared_waits servers (instr.Dup v) (read_stars c h0 (in_slot v.slot)) g (λ h sp q. dup_so h.thread.gift sp h q))
  step_by servers _ v c (locks e) g =
      subst (λ d. Gives Undone (prepared servers (instr.Lock v) (read_stars d h0 (in_slot v.slot)))) (sym e)
      (prepared_waits servers (instr.Lock v) (read_stars c h0 (in_slot v.slot)) g (λ h sp q. lock_so h.thread.gift sp h q))

  -- AT ITS SERVER

  pub server_asks : Gives (There (λ v. v.done ≡ None) k s) (does k.code k.options s (Step t))
  server_asks =
      subst (λ o. Gives (There (λ v. v.done ≡ None) k s) (option_map (stepped s) (then_some (option_map (λ v. record { work = begin_work s.rest; thread = v }) o) (step_in k.code k.options.servers)))) (sym at)
      (subst (λ o. Gives (There (λ v. v.done ≡ None) k s) (option_map (stepped s) (then_some o (λ j. step k.options.servers j h0)))) (sym code)
      (over_gives Undone (There (λ v. v.done ≡ None) k s) (step k.options.servers i h0) (stepped s) (step_by k.options.servers i w m reads followed) (λ d g e. ((g e).along, places k coherent s here t y at d.hand (g e).ok))))

-- IN ITS CLUSTER

-- what is shown of a cluster before messages are handed over
record Before (k c : Cluster) : Type 0 where
  cluster : Cluster
  along : Along k cluster
  places : HasPlaces cluster
  same : c.code ≡ cluster.code
  alike : Alike cluster.code (things_of cluster) (things_of c)

handed : (k : Cluster) (s : Server) (Q : EntryView → Type 0) → server_at k.servers s.rest.number ≡ Some s → (o : Option (Server × EntryView)) → Gives (There Q k s) o
    → Gives (λ (r : Server × EntryView). GoTo (with_server k.servers s.rest.number r.0) (drop_first (length s.rest.outbox) r.0.rest.outbox)) o
    → Gives (λ (d : Cluster × EntryView). Q d.1 → Before k d.0) (option_map (λ r. (record k { servers = hand_over_newer s.rest.number (length s.rest.outbox) r.0 k.servers }, r.1)) o)
handed k s Q here None a g = tt
handed k s Q here (Some r) a g = λ q.
    let n = s.rest.number in
    let older = length s.rest.outbox in
    let x = a q in record {
      cluster = record k { servers = with_server k.servers n r.0 };
      along = x.0;
      places = x.1;
      same = refl;
      alike = handed_over n older s r.0 k.servers here (go_with k.servers n r.0 (take older r.0.rest.outbox) (drop_first older r.0.rest.outbox) g);
    }

-- so the words hold once messages are handed over
pub kept_where : (k : Cluster) (s : Server) (t : ℕ) (Q : EntryView → Type 0) → IsCoherent k → FewEvents k → server_at k.servers s.rest.number ≡ Some s → (enabled k.options s (Step t) ≡ true → Gives (There Q k s) (does k.code k.options s (Step t)))
    → Gives (λ (d : Cluster × EntryView). Q d.1 → WordsRise k d.0) (apply k (record { server = s.rest.number; what = Step t }))
kept_where k s t Q coherent few h go =
    both_give (λ (d : Cluster × EntryView). Q d.1 → Before k d.0) (λ (d : Cluster × EntryView). HasPlaces d.0) (λ (d : Cluster × EntryView). Q d.1 → WordsRise k d.0) (apply k (record { server = s.rest.number; what = Step t }))
    (subst (λ o. Gives (λ (d : Cluster × EntryView). Q d.1 → Before k d.0) (then_some o (λ x. option_map (λ d. (record k { servers = hand_over_newer s.rest.number (length x.rest.outbox) d.0 k.servers }, d.1)) (done_at k (Step t) x)))) (sym h)
    (handed k s Q h (done_at k (Step t) s) (test_gives (There Q k s) (enabled k.options s (Step t)) (does k.code k.options s (Step t)) go) (each_event_sends k (record { server = s.rest.number; what = Step t }) coherent.sound few s h)))
    (applied_part HasPlaces (λ c g. record { numbers_differ = g.numbers_differ; home_of_each = g.home_of_each; owner_of_each = g.owner_of_each }) k (record { server = s.rest.number; what = Step t }) coherent.sound few)
    (λ d a c q. (let b = a q in (along_alike k b.cluster d.0 b.places c b.same b.alike b.along).words))

pub found_number : (n : ℕ) (ss : List Server) (s : Server) → server_at ss n ≡ Some s → s.rest.number ≡ n
found_number n [] s e = absurd cc
found_number n (z ∷ ss) s e = by (z.rest.number == n) refl e (λ g. found_number n ss s g)
  where
    by : (b : Bool) → (z.rest.number == n) ≡ b → (if b then Some z else server_at ss n) ≡ Some s → (server_at ss n ≡ Some s → s.rest.number ≡ n) → s.rest.number ≡ n
    by true q g go = ap (λ (x : Server). x.rest.number) (sym (some_is g)) ∙ same_number z.rest.number n q
    by false q g go = go g

pub reads_that_ask : ReadsThatAsk
reads_that_ask k number t s y i w m coherent few here at code reads free =
    subst (λ n. server_at k.servers n ≡ Some s → Gives (λ (d : Cluster × EntryView). d.1.done ≡ None → WordsRise k d.0) (apply k (record { server = n; what = Step t }))) (found_number number k.servers s here)
    (λ h. kept_where k s t (λ v. v.done ≡ None) coherent few h (λ on. server_asks k coherent s h t y at on i code w m reads free)) here
