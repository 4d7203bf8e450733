-- A mutable borrow of a thread that hasn't taken an object, done or not: each object is what it was, or one gets a word under which a copy of it is asked for.
use Rattle.std.proofs.Common.{◌≡◌, ◌⊎◌, inl, inr, ℕ, suc, Bool, true, false, if◌then◌else◌, List, [], ◌++◌, Option, Some, None, refl, sym, ap, subst, ◌∙◌, ◌+◌}
use Rattle.std.specs.Prelude.{⊤, slice_get, length}
use Rattle.law_copies_kept.specs.Below.fr_base.declared.place.Lval.{Lval}
use Rattle.law_copies_kept.specs.Below.fr_base.declared.instruction.Instr.{Instr}
use Rattle.law_copies_kept.specs.Below.heap_partition.declared.value.BoxPtr.{BoxPtr}
use Rattle.law_copies_kept.specs.Below.mut_borrow.declared.mutable.MutRef.{MutRef}
use Rattle.law_copies_kept.specs.Below.place_walk.declared.hop.Hop.{Hop}
use Rattle.law_copies_kept.specs.Below.place_walk.Hops.{write_hop}
use Rattle.law_copies_kept.specs.Below.thread_state.View.{ThreadState}
use Rattle.law_copies_kept.specs.Below.thread_state.declared.phase.Phase.{Phase}
use Rattle.law_copies_kept.specs.Below.thread_state.declared.value.Value.{Value}
use Rattle.law_copies_kept.specs.Below.server_model.declared.event.Event.{Event}
use Rattle.law_copies_kept.specs.Below.server_model.declared.event.What.TheVariants.{Step}
use Rattle.law_copies_kept.specs.Below.server_model.Servers.{Server, Cluster, server_at}
use Rattle.law_copies_kept.specs.Below.server_model.Work.{Hand, push_temp, thread_in, without_thread}
use Rattle.law_copies_kept.specs.Below.server_model.Places.{Spot, in_slot, value_at, load_at, pointer_of}
use Rattle.law_copies_kept.specs.Below.server_model.Prepare.{Prepared, ready, requested, nothing, LendTo, and_then, ask_object, request_by, read_stars, is_taken, lend_by, lend_value, lend_pointer}
use Rattle.law_copies_kept.specs.Below.server_model.Commit.{go_on, goes_on, lent_word, mutable_from, commit, settle}
use Rattle.law_copies_kept.specs.Below.server_model.Events.{enabled, begin_work, Stepped, done_step, committed, prepared, step}
use Rattle.law_copies_kept.specs.Below.coherent_memory.Names.{Among}
use Rattle.law_copies_kept.specs.Below.coherent_memory.Things.{Location, Thing, servers_things, things_of}
use Rattle.law_copies_kept.specs.Below.coherent_memory.Follow.{Ground, locate}
use Rattle.law_copies_kept.specs.Below.coherent_memory.Sight.{sight}
use Rattle.law_copies_kept.specs.Below.coherent_memory.Placing.{is_first}
use Rattle.law_copies_kept.specs.Below.coherent_types.ClusterTypes.{IsCoherent}
use Rattle.law_copies_kept.proofs.Below.law_words_paths.paths.Sole.{some_is}
use Rattle.law_words_borrows.specs.Below.law_words_paths.words.Reworded.{HasPlaces}
use Rattle.law_words_borrows.proofs.Below.law_words_paths.words.Follows.{seen_places_lead}
use Rattle.law_words_borrows.proofs.Below.law_words_paths.words.Standing.{pointer_at}
use Rattle.law_copies_kept.specs.Below.law_counts_sums.Laws.{Gives, FewEvents}
use Rattle.law_copies_kept.proofs.Below.law_counts_sums.Results.{weaker, over_gives}
use Rattle.law_copies_kept.proofs.Below.law_counts_sums.Bags.{all_standing}
use Rattle.law_copies_kept.proofs.Below.law_counts_sums.Events.{others_of}
use Rattle.law_words_borrows.specs.Below.law_words_kept.reads.Reading.{Reads, lends}
use Rattle.law_words_borrows.proofs.Below.law_words_values.Below.law_heap_still.events.Prepares.{Fine as Shown}
use Rattle.law_words_borrows.proofs.Below.law_words_values.Below.law_heap_still.events.Readied.{Readied}
use Rattle.law_words_borrows.proofs.Below.law_words_kept.stays.Sites.{HandAlike}
use Rattle.law_words_borrows.proofs.Below.law_words_kept.stays.Steps.{TakesNoneHere, mut_slot_unseen, pushes, settles, goes_over}
use Rattle.law_words_borrows.proofs.Below.law_heap_steps.turns.ReadWalk.{value_loaded}
use Rattle.law_words_borrows.proofs.Below.law_heap_steps.turns.StarLines.{shows}
use Rattle.law_words_borrows.proofs.Below.law_words_kept.prepared.Hands.{Ok, State, Walks, put, places}
use Rattle.law_words_borrows.proofs.Below.law_words_kept.prepared.Stars.{Spotted, asks_object, walks_loaded}
use Rattle.law_words_borrows.proofs.LentOne.{LentOne}
use Rattle.law_words_borrows.proofs.OnTop.{same_takings, lent_on_top}
use Rattle.law_copies_kept.specs.Below.fr_base.declared.step.Fresh.TheVariants as fresh
use Rattle.law_copies_kept.specs.Below.fr_base.declared.instruction.Instr.TheVariants as instr
use Rattle.law_copies_kept.specs.Below.heap_partition.declared.value.Owned.TheVariants as owned
use Rattle.law_copies_kept.specs.Below.place_walk.declared.hop.Hop.TheVariants as hop
use Rattle.law_copies_kept.specs.Below.thread_state.declared.phase.Phase.TheVariants as phase
use Rattle.law_copies_kept.specs.Below.thread_state.declared.value.Value.TheVariants as value
use Rattle.law_words_borrows.proofs.Sources as sources
use Rattle.law_words_borrows.proofs.Made.{Lendable, slot, box, reference, lendable}
use Rattle.law_words_borrows.proofs.Lends.{points_somewhere, own_no_mut, its_first}
use Rattle.law_copies_kept.specs.Below.server_model.Servers.{Rest}
use Rattle.law_copies_kept.specs.Below.server_model.Events.{wait_step}
use Rattle.law_copies_kept.specs.Below.coherent_memory.Words.{HasWords}
use Rattle.law_words_borrows.proofs.Below.law_counts_things.things.Mail.{Mailed, mail_sent}
use Rattle.law_words_borrows.proofs.Below.law_counts_things.things.Messages.{Light}
use Rattle.law_copies_kept.proofs.copies.Clean.{Leaves, all_goes}
use Rattle.law_copies_kept.proofs.references.Asked.{asking}
use Rattle.law_copies_kept.proofs.objects.Outcome.{Left, stayed}
use Rattle.law_words_borrows.proofs.Below.law_words_paths.words.Put.{put_split}
use Rattle.law_words_borrows.proofs.Below.law_words_values.carried.Replaced.{cells_same}
use Rattle.law_words_borrows.proofs.Below.law_words_values.carried.Hands.{each_together, puts_alike, stands_here}
use Rattle.law_copies_kept.proofs.references.Changed.{all_chain}
use Rattle.law_copies_kept.proofs.references.Kept.{has_none}
use Rattle.law_copies_kept.proofs.references.ReadCommits.{asks_so}
use Rattle.law_copies_kept.proofs.references.ReadAsks.{AsksSo}
use Rattle.law_copies_kept.proofs.references.ReadHands.{IsCalm}
use Rattle.law_copies_kept.proofs.Below.law_results_reads.Starred.{Fine as Read_so}
use Rattle.law_copies_kept.proofs.Below.law_counts_sums.Prepares.{PreparedOk}
use Rattle.law_words_borrows.proofs.Below.law_counts_things.things.Small.{Made as MadeSo}
use Rattle.law_copies_kept.specs.Below.global_addr.Words.{server_of}
use Rattle.law_copies_kept.specs.Below.journal.declared.act.Act.TheVariants as act
use Rattle.law_copies_kept.specs.Below.server_msgs.declared.message.Message.TheVariants as message
use Rattle.law_copies_kept.specs.Below.coherent_memory.Follow.{cells_in}
use Rattle.law_copies_kept.proofs.objects.LentMarks.{lent_turned, all_same}
use Rattle.law_copies_kept.proofs.objects.Following as following
use Rattle.law_copies_kept.proofs.objects.Asking.{asked_left}
use Rattle.law_copies_kept.proofs.Below.law_results_reads.Known.{Steps}
use Rattle.law_copies_kept.proofs.objects.Lending as making

-- of a phase in which no object is taken the reference has its pointer's word
word_as_it_is : (p : Phase) (r : MutRef) → ((v : ℕ) → p ≡ phase.Taken v → ⊥) → lent_word p r ≡ r
word_as_it_is (phase.Taken v) r none = absurd (none v refl)
word_as_it_is _ r none = refl

-- the reference has its mark
same_mark : (r q : MutRef) → value.Mut r ≡ value.Mut q → q.dirty ≡ r.dirty
same_mark r q e = let z : r ≡ q = cc in ap (λ (x : MutRef). x.dirty) (sym z)

module _ (k : Cluster) (coherent : IsCoherent k) (few : FewEvents k) (s : Server) (here : server_at k.servers s.rest.number ≡ Some s) (t : ℕ) (y : ThreadState) (at : thread_in s.threads t ≡ Some y)
    (on : enabled k.options s (Step t) ≡ true) (w : Lval) (m : ℕ) (deep : w.depth ≡ suc m) (code : slice_get k.code y.pc ≡ Some (instr.BorrowMut w)) (free : (v : ℕ) → y.phase ≡ phase.Taken v → ⊥) where
  abbrev n : ℕ
  n = s.rest.number

  abbrev i : Instr
  i = instr.BorrowMut w

  abbrev reads : Reads i w m
  reads = lends deep

  abbrev g : Ground
  g = (sight k).ground

  abbrev W : Hand → Type 0
  W = Walks k coherent s here t y at

  abbrev S : Hand → Type 0
  S = State k coherent s here t y at

  abbrev IsOk : Hand → Type 0
  IsOk = Ok k coherent s here t y at

  abbrev Put : Hand → Cluster
  Put = put k coherent s here t y at

  abbrev h0 : Hand
  h0 = record { work = begin_work s.rest; thread = y }

  abbrev b : List Thing
  b = all_standing n (without_thread s.threads t) ++ servers_things (others_of k.servers n)

  abbrev e0 : Event
  e0 = record { server = n; what = Step t }

  abbrev holder : Lval
  holder = record w { depth = m }

  abbrev Came : Prepared → Type 0
  Came = sources.Came k coherent s here t y at on i code w m reads deep

  abbrev Followed : Prepared → Type 0
  Followed = sources.Followed k coherent s here t y at on i code w m reads deep

  abbrev AtSpot : Hand → Spot → Type 0
  AtSpot = sources.AtSpot k coherent s here t y at on i code w m reads deep

  abbrev Source : Hand → Value → Type 0
  Source = sources.Source k coherent s here t y at on i code w m reads deep

  abbrev IsNone : Value → Type 0
  IsNone = sources.IsNone k coherent s here t y at on i code w m reads deep

  none : TakesNoneHere k.code y
  none = sources.none k coherent s here t y at on i code w m reads deep free

  -- the hand's cluster has places
  placed : (h : Hand) → IsOk h → HasPlaces (Put h)
  placed h q = places k coherent s here t y at h q

  -- THE POINTER IS READY

  abbrev start : HasWords (sight k)
  start = coherent.sound.words.have_words

  abbrev Sent : (ℕ → ℕ) → Rest → Type 0
  Sent f r = Mailed (Light (asking f)) n s.rest.outbox r

  abbrev Ends_well : Stepped → Type 0
  Ends_well = Left k coherent.sound few s here t y at i code

  -- a hand up to which all stays
  record Ready (h : Hand) : Type 0 where
    walks : W h
    stay : Leaves k (Put h)
    mails : (f : ℕ → ℕ) → Sent f s.rest → Sent f h.work.rest

  record Lends (h : Hand) (sp : Spot) : Type 0 where
    ready_now : Ready h
    source : (v : Value) → value_at h sp ≡ Some v → Source h v ⊎ IsNone v

  abbrev Fine : Prepared → Type 0
  Fine (ready h sp) = Lends h sp
  Fine (requested h) = Ends_well (wait_step h)
  Fine nothing = ⊤

  -- the object is asked for
  asks_for_it : (c : BoxPtr) (h : Hand) → Ready h → Ends_well (wait_step (ask_object c h))
  asks_for_it c h r =
      let st = asks_object k coherent s here t y at on i code w m reads c h none r.walks in
      let a = asks_so k.code n h (r.walks.untaken none) (act.Pull c.object c.word) (server_of c.word) (message.Move c.word c.object h.work.rest.number h.thread.number) (phase.WaitCell c.word) r.walks.state.ok.number refl (λ q e z. z) (λ x j. refl) in (
        stayed
            (all_chain r.stay
            (all_goes.seen (Put h) (Put (ask_object c h)) (placed h r.walks.state.ok) (placed (ask_object c h) st.ok) refl (puts_alike k coherent.sound s here t y at h (ask_object c h) r.walks.state.ok.number r.walks.state.ok.thread (each_together a))))
            (λ mail. mail_sent (Light (asking (has_none k))) n s.rest.outbox h.work.rest (server_of c.word) (message.Move c.word c.object h.work.rest.number h.thread.number) refl (r.mails (has_none k) mail)),
        placed (ask_object c h) st.ok,
      )

  fine_if : (c : Bool) (p q : Prepared) → Fine p → Fine q → Fine (if c then p else q)
  fine_if true p q f h = f
  fine_if false p q f h = h

  -- the last pointer is ready, or its object is asked for
  lent : (h : Hand) (sp : Spot) → Ready h → Spotted g y.number w.slot m sp → ((v : Value) → value_at h sp ≡ Some v → AtSpot h sp) → Fine (lend_value sp (value_at h sp) (load_at sp h))
  lent h sp c p a = by (value_at h sp)
    where
      loaded : Ready (load_at sp h)
      loaded = record { walks = walks_loaded k coherent s here t y at on i code w m reads sp h c.walks; stay = c.stay; mails = c.mails }

      -- what is loaded is noted alone
      of_loaded : (v : Value) → Source h v ⊎ IsNone v → Source (load_at sp h) v ⊎ IsNone v
      of_loaded v (inl q) = inl (record { location = q.location; located = q.located; stands = q.stands })
      of_loaded v (inr q) = inr q

      there : Lends (load_at sp h) sp
      there = record { ready_now = loaded; source = λ v e. of_loaded v (sources.sourced k coherent s here t y at on i code w m reads deep h sp c.walks p a v (sym (value_loaded sp h) ∙ e)) }

      asks : (o : Option BoxPtr) → Fine (request_by ask_object (load_at sp h) o)
      asks None = tt
      asks (Some q) = asks_for_it q (load_at sp h) loaded

      by_hop : (v : Value) (o : Option Hop) → Fine (lend_by sp v o (load_at sp h))
      by_hop v None = tt
      by_hop v (Some (hop.NeedMove u)) = fine_if (is_taken h.thread.phase) (ready (load_at sp h) sp) (request_by ask_object (load_at sp h) (pointer_of v)) there (asks (pointer_of v))
      by_hop v (Some (hop.Slot u)) = there
      by_hop v (Some (hop.Direct u)) = there
      by_hop v (Some (hop.Hit u)) = there
      by_hop v (Some (hop.NeedCopy u)) = there
      by_hop v (Some (hop.NeedTint u)) = there
      by_hop v (Some (hop.AtCell u)) = there

      by : (o : Option Value) → Fine (lend_value sp o (load_at sp h))
      by None = tt
      by (Some v) = by_hop v (write_hop h.work.rest.number v)

  -- so is the place
  abbrev Its_steps : Type 0
  Its_steps = Steps k n t s y i

  abbrev its : Its_steps
  its = following.its k coherent few s here t y at on w i m reads code free

  all_lent : (p : Prepared) → Followed p → Came p → Read_so k n t s y i its w.slot m p → AsksSo k n t s y i its (following.X k coherent few s here t y at on w i m reads code free) w m p → PreparedOk IsOk p → MadeSo (IsCalm s.rest y) (λ r x. ⊤) p
      → Fine (and_then (λ h2 sp. lend_value sp (value_at h2 sp) (load_at sp h2)) p)
  all_lent (ready h sp) f a r q ok calm =
      lent h sp
      (record {
        walks = f.0;
        stay = following.alike_leaves k coherent few s here t y at on w i m reads code free h ok (following.alike_to k coherent few s here t y at on w i m reads code free h (ok, calm) (m, r.3));
        mails = λ c mail. following.mail_of k coherent few s here t y at on w i m reads code free c h ok.number calm mail;
      }) f.1 a
  all_lent (requested h) f a r q ok calm = asked_left k coherent few s here t y at on w i m reads code free h ok q
  all_lent nothing f a r q ok calm = tt

  -- THE BORROW

  abbrev Ends : Stepped → Type 0
  Ends = making.Ends k coherent few s here t y at w m deep code

  module _ (h : Hand) (sp : Spot) (q : Lends h sp) (shown : Readied h0 h) where
    -- the sums of the hand
    ok : IsOk h
    ok = q.ready_now.walks.state.ok

    -- nothing is taken still
    free_now : (v : ℕ) → h.thread.phase ≡ phase.Taken v → ⊥
    free_now v f = free v (sym (ap (λ (x : ThreadState). x.phase) shown.thread) ∙ f)

    -- where the place leads it led
    located_now : (l : Location) → locate g y.number w.slot m ≡ Some l → locate (sight (Put h)).ground h.thread.number w.slot m ≡ Some l
    located_now l e =
        ap (λ u. locate (sight (Put h)).ground u w.slot m) (ap (λ (x : ThreadState). x.number) shown.thread)
        ∙ seen_places_lead (sight k).ground (sight (Put h)).ground q.ready_now.walks.state.along.slots_lead q.ready_now.walks.state.along.cells_lead y.number w.slot m ∙ e

    -- with the same cells
    same_cells : (h3 : Hand) → IsOk h3 → h3.work.rest ≡ h.work.rest → h3.thread.number ≡ h.thread.number → cells_in (things_of (Put h3)) ≡ cells_in (things_of (Put h))
    same_cells h3 after rest number =
        cells_same (Put h) (Put h3) n h.thread h3.thread number (put_split k n s.threads (s.events + 1) h h3 (stands_here k coherent.sound s here t y at h ok.number ok.thread) rest number) (placed h ok) (placed h3 after)

    -- the reference is on top
    referred : (r : MutRef) → r.holder ≡ holder → (v : Value) → (src : Source h v) → Among (record { at = Some src.location; word = r.first; object = r.object }) (pointer_at src.location v) → is_first r (Some v) ≡ true → r.word ≡ r.first
        → ((x : MutRef) → v ≡ value.Mut x → x.dirty ≡ r.dirty) → (r.dirty ≡ true → (x : MutRef) × (v ≡ value.Mut x)) → IsOk (go_on (push_temp (value.Mut r) h)) → Gives Ends (committed (goes_on (Some (push_temp (value.Mut r) h))))
    referred r held v src pointer first unchanged mark marked after =
        let h3 : Hand = go_on (push_temp (value.Mut r) h) in
        let at_holder : locate (sight (Put h)).ground h.thread.number r.holder.slot r.holder.depth ≡ Some src.location = ap (λ (p : Lval). locate (sight (Put h)).ground h.thread.number p.slot p.depth) held ∙ located_now src.location src.located in
        let one : LentOne (Put h) (Put h3) h.thread.number (length h.thread.temps) src.location r =
        lent_on_top k coherent s here t y at h r ok after src.location v at_holder src.stands pointer first (λ x e. subst (λ ts. Among x ts) (same_takings k coherent s here t y at h r ok after (q.ready_now.walks.untaken none)) e)
        (inl (record {
          took = λ x e. subst (λ ts. Among x ts) (sym (same_takings k coherent s here t y at h r ok after (q.ready_now.walks.untaken none))) e;
          fresh = sources.fresh_source k coherent s here t y at on i code w m reads deep free h v q.ready_now.walks src;
          unchanged = unchanged;
          mark = mark;
          marked = marked;
        })) in
        over_gives (HandAlike k.code n [] h3) Ends (settle h3) (done_step fresh.None) (settles k.code n h3)
        (λ h4 a. record {
          middle = h3;
          ok = after;
          turned = lent_turned k (Put h) (Put h3) coherent.sound h.thread.number (length h.thread.temps) src.location r (placed h ok) (placed h3 after) one q.ready_now.stay (same_cells h3 after refl refl);
          alike = a;
        })

    -- as the thread has taken no object
    referred_so : (r : MutRef) → r.holder ≡ holder → (v u : Value) → Some (value.Mut (lent_word h.thread.phase r)) ≡ Some u → (src : Source h v) → Among (record { at = Some src.location; word = r.first; object = r.object }) (pointer_at src.location v)
        → is_first r (Some v) ≡ true → r.word ≡ r.first → ((x : MutRef) → v ≡ value.Mut x → x.dirty ≡ r.dirty) → (r.dirty ≡ true → (x : MutRef) × (v ≡ value.Mut x)) → IsOk (go_on (push_temp u h)) → Gives Ends (committed (goes_on (Some (push_temp u h))))
    referred_so r held v u made src pointer first unchanged mark marked =
        let same : value.Mut r ≡ u = ap (λ x. value.Mut x) (sym (word_as_it_is h.thread.phase r free_now)) ∙ some_is made in
        subst (λ x. IsOk (go_on (push_temp x h)) → Gives Ends (committed (goes_on (Some (push_temp x h))))) same (referred r held v src pointer first unchanged mark marked)

    -- a reference to a slot, which words don't see
    to_slot : (j : ℕ) → Gives Ends (committed (goes_on (Some (push_temp (value.MutSlot j) h))))
    to_slot j =
        weaker (λ (d : Stepped). HandAlike k.code n [] h d.hand) Ends (committed (goes_on (Some (push_temp (value.MutSlot j) h)))) (goes_over k.code n h (Some (push_temp (value.MutSlot j) h)) (pushes k.code n h (value.MutSlot j) (mut_slot_unseen j) (q.ready_now.walks.untaken none)))
        (λ d a. record { middle = h; ok = ok; turned = all_same k (Put h) coherent.sound (placed h ok) q.ready_now.stay; alike = a })

    -- from each value
    pushed_from : (v u : Value) → Lendable v → Source h v ⊎ IsNone v → mutable_from h.thread.phase holder v ≡ Some u → IsOk (go_on (push_temp u h)) → Gives Ends (committed (goes_on (Some (push_temp u h))))
    pushed_from _ u (slot j) src made after = let same : value.MutSlot j ≡ u = cc in subst (λ x. Gives Ends (committed (goes_on (Some (push_temp x h))))) same (to_slot j)
    pushed_from _ u (box p) (inl src) made after =
        referred_so (record { word = p.word; first = p.word; object = p.object; dirty = false; holder = holder }) refl (value.Own (owned.Box p)) u made src (inl refl) (its_first p.word p.object) refl (λ x e. absurd (own_no_mut (owned.Box p) x e)) (λ e. absurd cc) after
    pushed_from _ u (box p) (inr src) made after = absurd (points_somewhere p src.2)
    pushed_from _ u (reference r) (inl src) made after =
        referred_so (record { word = r.word; first = r.word; object = r.object; dirty = r.dirty; holder = holder }) refl (value.Mut r) u made src (inl refl) (its_first r.word r.object) refl (λ x e. same_mark r x e) (λ e. (r, refl)) after
    pushed_from _ u (reference r) (inr src) made after = absurd (own_no_mut src.0 r (sym src.1))

    -- from any value
    pushed : (v u : Value) → Source h v ⊎ IsNone v → mutable_from h.thread.phase holder v ≡ Some u → IsOk (go_on (push_temp u h)) → Gives Ends (committed (goes_on (Some (push_temp u h))))
    pushed v u src made = pushed_from v u (lendable h.thread.phase holder v u made) src made

    -- so it is with its thread put back
    left : Gives Ends_well (committed (commit 0 i sp h))
    left = making.left k coherent few s here t y at w m deep code h sp ok q.ready_now.mails (λ u. Source h u ⊎ IsNone u) q.source pushed

  -- the step of what is ready or asked for
  prepared_lend : (servers : ℕ) (p : Prepared) → Fine p → Shown h0 p → Gives Ends_well (prepared servers i p)
  prepared_lend servers (ready h sp) q shown = left h sp q shown.0
  prepared_lend servers (requested h) q shown = q
  prepared_lend servers nothing q shown = tt

  -- the step
  pub stepped_lend : (servers : ℕ) → Gives Ends_well (step servers i h0)
  stepped_lend servers =
      let ready_at = following.known_ready k coherent few s here t y at on w i m reads code free in
      subst (λ d. Shown h0 (lend_pointer w d h0) → Gives Ends_well (prepared servers i (lend_pointer w d h0))) (sym deep)
      (prepared_lend servers (lend_pointer w (suc m) h0)
      (all_lent (read_stars m h0 (in_slot w.slot)) (sources.followed k coherent s here t y at on i code w m reads deep) (sources.came k coherent s here t y at on i code w m reads deep) (following.fine k coherent few s here t y at on w i m reads code free)
      (following.asked k coherent few s here t y at on w i m reads code free) ready_at.0 ready_at.1))
      (shows k coherent e0 i s t y (sources.stepping k coherent s here t y at on i code w m reads deep) (Some (LendTo w)))
