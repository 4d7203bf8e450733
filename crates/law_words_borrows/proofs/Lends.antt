-- A mutable borrow of a thread that hasn't taken an object, done or not, keeps the words: the new reference has its pointer's word and mark.
use Rattle.std.proofs.Common.{◌≡◌, ◌⊎◌, inl, inr, ℕ, zero, suc, ◌==◌, ◌&&◌, Bool, true, false, if◌then◌else◌, List, [], ◌++◌, Option, Some, None, option_map, refl, sym, ap, ap₂, subst, ◌∙◌}
use Rattle.std.specs.Prelude.{⊤, slice_get, length}
use Rattle.std.proofs.lemmas.Bool.{eq-eqb}
use Rattle.law_heap_steps.specs.Below.fr_base.declared.name.ObjNo.{ObjNo}
use Rattle.law_heap_steps.specs.Below.fr_base.declared.place.Lval.{Lval}
use Rattle.law_heap_steps.specs.Below.fr_base.declared.step.Fresh.TheVariants as fresh
use Rattle.law_heap_steps.specs.Below.fr_base.declared.instruction.Instr.{Instr}
use Rattle.law_heap_steps.specs.Below.fr_base.declared.instruction.Instr.TheVariants as instr
use Rattle.law_heap_steps.specs.Below.heap_partition.declared.value.BoxPtr.{BoxPtr}
use Rattle.law_heap_steps.specs.Below.heap_partition.declared.value.Owned.{Owned}
use Rattle.law_heap_steps.specs.Below.heap_partition.declared.value.Owned.TheVariants as owned
use Rattle.law_heap_steps.specs.Below.mut_borrow.declared.mutable.MutRef.{MutRef}
use Rattle.law_heap_steps.specs.Below.place_walk.declared.hop.Hop.{Hop}
use Rattle.law_heap_steps.specs.Below.place_walk.declared.hop.Hop.TheVariants as hop
use Rattle.law_heap_steps.specs.Below.place_walk.Hops.{write_hop}
use Rattle.law_heap_steps.specs.Below.journal.View.{EntryView}
use Rattle.law_heap_steps.specs.Below.thread_state.View.{ThreadState}
use Rattle.law_heap_steps.specs.Below.thread_state.declared.phase.Phase.{Phase}
use Rattle.law_heap_steps.specs.Below.thread_state.declared.phase.Phase.TheVariants as phase
use Rattle.law_heap_steps.specs.Below.thread_state.declared.value.Value.{Value}
use Rattle.law_heap_steps.specs.Below.thread_state.declared.value.Value.TheVariants as value
use Rattle.law_heap_steps.specs.Below.server_model.declared.event.Event.{Event}
use Rattle.law_heap_steps.specs.Below.server_model.declared.event.What.TheVariants.{Step}
use Rattle.law_heap_steps.specs.Below.server_model.Servers.{Server, Cluster, server_at}
use Rattle.law_heap_steps.specs.Below.server_model.Work.{Hand, push_temp, thread_in, without_thread, then_some}
use Rattle.law_heap_steps.specs.Below.server_model.Clusters.{apply}
use Rattle.law_heap_steps.specs.Below.server_model.Places.{Spot, in_slot, value_at, load_at, pointer_of}
use Rattle.law_heap_steps.specs.Below.server_model.Prepare.{Prepared, ready, requested, nothing, LendTo, and_then, ask_object, request_by, read_stars, is_taken, lend_by, lend_value, lend_pointer}
use Rattle.law_heap_steps.specs.Below.server_model.Commit.{go_on, goes_on, lent_word, mutable_from, commit, settle}
use Rattle.law_heap_steps.specs.Below.server_model.Events.{enabled, begin_work, Stepped, done_step, committed, prepared, step, step_in, stepped, does}
use Rattle.law_heap_steps.specs.Below.coherent_memory.Names.{Among, same_object}
use Rattle.law_heap_steps.specs.Below.coherent_memory.Things.{Location, Thing, servers_things}
use Rattle.law_heap_steps.specs.Below.coherent_memory.Follow.{Ground, locate}
use Rattle.law_heap_steps.specs.Below.coherent_memory.Sight.{sight}
use Rattle.law_heap_steps.specs.Below.coherent_memory.Placing.{is_first}
use Rattle.law_heap_steps.proofs.Below.coherent_memory.Words.{itself}
use Rattle.law_words_values.specs.Below.coherent_types.ClusterTypes.{IsCoherent}
use Rattle.law_words_values.proofs.Below.law_words_paths.paths.Sole.{some_is}
use Rattle.law_words_kept.specs.Below.law_words_paths.words.Reworded.{HasPlaces}
use Rattle.law_words_kept.specs.Below.law_words_paths.words.Unmoved.{LeavesWords}
use Rattle.law_words_kept.proofs.Below.law_words_paths.words.Follows.{seen_places_lead}
use Rattle.law_words_kept.proofs.Below.law_words_paths.words.Standing.{pointer_at}
use Rattle.law_heap_steps.specs.Below.law_counts_sums.Laws.{Gives, FewEvents}
use Rattle.law_heap_steps.proofs.Below.law_counts_sums.Results.{weaker, over_gives}
use Rattle.law_heap_steps.proofs.Below.law_counts_sums.Bags.{all_standing}
use Rattle.law_heap_steps.proofs.Below.law_counts_sums.Events.{others_of}
use Rattle.law_heap_steps.specs.Below.law_words_kept.reads.Reading.{Reads, lends}
use Rattle.law_heap_steps.proofs.Below.law_heap_still.events.Prepares.{Fine as Shown}
use Rattle.law_heap_steps.proofs.Below.law_heap_still.events.Readied.{Readied}
use Rattle.law_words_values.proofs.Below.law_words_kept.stays.Sites.{HandAlike}
use Rattle.law_words_values.proofs.Below.law_words_kept.stays.Steps.{TakesNoneHere, mut_slot_unseen, pushes, settles, goes_over}
use Rattle.law_words_values.proofs.Below.law_words_kept.stays.StayKinds.{borrows_leave}
use Rattle.law_words_values.specs.Below.law_words_kept.stays.Laws.{mutable}
use Rattle.law_heap_steps.proofs.turns.ReadWalk.{value_loaded}
use Rattle.law_heap_steps.proofs.turns.StarLines.{shows}
use Rattle.law_words_values.specs.Below.law_words_kept.prepared.Requests.{WordsRise}
use Rattle.law_words_values.proofs.Below.law_words_kept.prepared.Rising.{rise_itself}
use Rattle.law_words_values.proofs.Below.law_words_kept.prepared.Hands.{Ok, State, Walks, put, places}
use Rattle.law_words_values.proofs.Below.law_words_kept.prepared.Stars.{Spotted, asks_object, walks_loaded}
use Rattle.law_words_values.proofs.Below.law_words_kept.prepared.Asking.{found_number}
use Rattle.law_words_values.proofs.carried.Locks.{holds_on, Kept, kept_where}
use Rattle.law_words_borrows.proofs.Sources as sources
use Rattle.law_words_borrows.proofs.LentOne.{LentOne, lent_one_stays}
use Rattle.law_words_borrows.proofs.OnTop.{same_takings, lent_on_top}
use Rattle.law_words_borrows.proofs.Made as making
use Rattle.law_words_borrows.proofs.Made.{Lendable, slot, box, reference, lendable}

-- of a phase in which no object is taken the reference has its pointer's word
word_as_it_is : (p : Phase) (r : MutRef) → ((v : ℕ) → p ≡ phase.Taken v → ⊥) → lent_word p r ≡ r
word_as_it_is (phase.Taken v) r none = absurd (none v refl)
word_as_it_is _ r none = refl

-- a box points somewhere
pub points_somewhere : (b : BoxPtr) → Some b ≡ None → ⊥
points_somewhere b e = absurd cc

-- what owns is no reference
pub own_no_mut : (o : Owned) (p : MutRef) → value.Own o ≡ value.Mut p → ⊥
own_no_mut o p e = absurd cc

-- the reference has its mark
same_mark : (r q : MutRef) → value.Mut r ≡ value.Mut q → q.dirty ≡ r.dirty
same_mark r q e = let z : r ≡ q = cc in ap (λ (x : MutRef). x.dirty) (sym z)

-- a word and an object are themselves
pub its_first : (w : ℕ) (o : ObjNo) → (w == w && same_object o o) ≡ true
its_first w o = ap₂ (λ p q. p && q) (eq-eqb w w refl) (itself o o refl)

module _ (k : Cluster) (coherent : IsCoherent k) (s : Server) (here : server_at k.servers s.rest.number ≡ Some s) (t : ℕ) (y : ThreadState) (at : thread_in s.threads t ≡ Some y)
    (on : enabled k.options s (Step t) ≡ true) (w : Lval) (m : ℕ) (deep : w.depth ≡ suc m) (code : slice_get k.code y.pc ≡ Some (instr.BorrowMut w)) (free : (v : ℕ) → y.phase ≡ phase.Taken v → ⊥) where
  abbrev n : ℕ
  n = s.rest.number

  abbrev i : Instr
  i = instr.BorrowMut w

  abbrev reads : Reads i w m
  reads = lends deep

  abbrev g : Ground
  g = (sight k).ground

  abbrev W : Hand → Type 0
  W = Walks k coherent s here t y at

  abbrev S : Hand → Type 0
  S = State k coherent s here t y at

  abbrev IsOk : Hand → Type 0
  IsOk = Ok k coherent s here t y at

  abbrev Put : Hand → Cluster
  Put = put k coherent s here t y at

  abbrev h0 : Hand
  h0 = record { work = begin_work s.rest; thread = y }

  abbrev b : List Thing
  b = all_standing n (without_thread s.threads t) ++ servers_things (others_of k.servers n)

  abbrev e0 : Event
  e0 = record { server = n; what = Step t }

  abbrev holder : Lval
  holder = record w { depth = m }

  abbrev Came : Prepared → Type 0
  Came = sources.Came k coherent s here t y at on i code w m reads deep

  abbrev Followed : Prepared → Type 0
  Followed = sources.Followed k coherent s here t y at on i code w m reads deep

  abbrev AtSpot : Hand → Spot → Type 0
  AtSpot = sources.AtSpot k coherent s here t y at on i code w m reads deep

  abbrev Source : Hand → Value → Type 0
  Source = sources.Source k coherent s here t y at on i code w m reads deep

  abbrev IsNone : Value → Type 0
  IsNone = sources.IsNone k coherent s here t y at on i code w m reads deep

  none : TakesNoneHere k.code y
  none = sources.none k coherent s here t y at on i code w m reads deep free

  -- the hand's cluster has places
  placed : (h : Hand) → IsOk h → HasPlaces (Put h)
  placed h q = places k coherent s here t y at h q

  -- THE POINTER IS READY

  record Lends (h : Hand) (sp : Spot) : Type 0 where
    walks : W h
    source : (v : Value) → value_at h sp ≡ Some v → Source h v ⊎ IsNone v

  abbrev Fine : Prepared → Type 0
  Fine (ready h sp) = Lends h sp
  Fine (requested h) = S h
  Fine nothing = ⊤

  fine_if : (c : Bool) (p q : Prepared) → Fine p → Fine q → Fine (if c then p else q)
  fine_if true p q f h = f
  fine_if false p q f h = h

  -- the last pointer is ready, or its object is asked for
  lent : (h : Hand) (sp : Spot) → W h → Spotted g y.number w.slot m sp → ((v : Value) → value_at h sp ≡ Some v → AtSpot h sp) → Fine (lend_value sp (value_at h sp) (load_at sp h))
  lent h sp c p a = by (value_at h sp)
    where
      walks : W (load_at sp h)
      walks = walks_loaded k coherent s here t y at on i code w m reads sp h c

      -- what is loaded is noted alone
      of_loaded : (v : Value) → Source h v ⊎ IsNone v → Source (load_at sp h) v ⊎ IsNone v
      of_loaded v (inl q) = inl (record { location = q.location; located = q.located; stands = q.stands })
      of_loaded v (inr q) = inr q

      there : Lends (load_at sp h) sp
      there = record { walks = walks; source = λ v e. of_loaded v (sources.sourced k coherent s here t y at on i code w m reads deep h sp c p a v (sym (value_loaded sp h) ∙ e)) }

      asks : (o : Option BoxPtr) → Fine (request_by ask_object (load_at sp h) o)
      asks None = tt
      asks (Some q) = asks_object k coherent s here t y at on i code w m reads q (load_at sp h) none walks

      by_hop : (v : Value) (o : Option Hop) → Fine (lend_by sp v o (load_at sp h))
      by_hop v None = tt
      by_hop v (Some (hop.NeedMove u)) = fine_if (is_taken h.thread.phase) (ready (load_at sp h) sp) (request_by ask_object (load_at sp h) (pointer_of v)) there (asks (pointer_of v))
      by_hop v (Some (hop.Slot u)) = there
      by_hop v (Some (hop.Direct u)) = there
      by_hop v (Some (hop.Hit u)) = there
      by_hop v (Some (hop.NeedCopy u)) = there
      by_hop v (Some (hop.NeedTint u)) = there
      by_hop v (Some (hop.AtCell u)) = there

      by : (o : Option Value) → Fine (lend_value sp o (load_at sp h))
      by None = tt
      by (Some v) = by_hop v (write_hop h.work.rest.number v)

  -- so is the place
  all_lent : (p : Prepared) → Followed p → Came p → Fine (and_then (λ h2 sp. lend_value sp (value_at h2 sp) (load_at sp h2)) p)
  all_lent (ready h sp) f a = lent h sp f.0 f.1 a
  all_lent (requested h) f a = f none
  all_lent nothing f a = tt

  -- THE BORROW

  abbrev Ends : Stepped → Type 0
  Ends = making.Ends k coherent s here t y at w m deep

  module _ (h : Hand) (sp : Spot) (q : Lends h sp) (shown : Readied h0 h) where
    -- the sums of the hand
    ok : IsOk h
    ok = q.walks.state.ok

    -- nothing is taken still
    free_now : (v : ℕ) → h.thread.phase ≡ phase.Taken v → ⊥
    free_now v f = free v (sym (ap (λ (x : ThreadState). x.phase) shown.thread) ∙ f)

    -- where the place leads it led
    located_now : (l : Location) → locate g y.number w.slot m ≡ Some l → locate (sight (Put h)).ground h.thread.number w.slot m ≡ Some l
    located_now l e =
        ap (λ u. locate (sight (Put h)).ground u w.slot m) (ap (λ (x : ThreadState). x.number) shown.thread)
        ∙ seen_places_lead (sight k).ground (sight (Put h)).ground q.walks.state.along.slots_lead q.walks.state.along.cells_lead y.number w.slot m ∙ e

    -- the reference is on top
    referred : (r : MutRef) → r.holder ≡ holder → (v : Value) → (src : Source h v) → Among (record { at = Some src.location; word = r.first; object = r.object }) (pointer_at src.location v) → is_first r (Some v) ≡ true → r.word ≡ r.first
        → ((x : MutRef) → v ≡ value.Mut x → x.dirty ≡ r.dirty) → (r.dirty ≡ true → (x : MutRef) × (v ≡ value.Mut x)) → IsOk (go_on (push_temp (value.Mut r) h)) → Gives Ends (committed (goes_on (Some (push_temp (value.Mut r) h))))
    referred r held v src pointer first unchanged mark marked after =
        let h3 : Hand = go_on (push_temp (value.Mut r) h) in
        let at_holder : locate (sight (Put h)).ground h.thread.number r.holder.slot r.holder.depth ≡ Some src.location = ap (λ (p : Lval). locate (sight (Put h)).ground h.thread.number p.slot p.depth) held ∙ located_now src.location src.located in
        let one : LentOne (Put h) (Put h3) h.thread.number (length h.thread.temps) src.location r =
        lent_on_top k coherent s here t y at h r ok after src.location v at_holder src.stands pointer first (λ x e. subst (λ ts. Among x ts) (same_takings k coherent s here t y at h r ok after (q.walks.untaken none)) e)
        (inl (record {
          took = λ x e. subst (λ ts. Among x ts) (sym (same_takings k coherent s here t y at h r ok after (q.walks.untaken none))) e;
          fresh = sources.fresh_source k coherent s here t y at on i code w m reads deep free h v q.walks src;
          unchanged = unchanged;
          mark = mark;
          marked = marked;
        })) in
        over_gives (HandAlike k.code n [] h3) Ends (settle h3) (done_step fresh.None) (settles k.code n h3)
        (λ h4 a. record {
          middle = h3;
          ok = after;
          words = holds_on (lent_one_stays (Put h) (Put h3) h.thread.number (length h.thread.temps) src.location r (placed h ok) (placed h3 after) one q.walks.state.along.words.has_words) q.walks.state.along.words;
          alike = a;
        })

    -- as the thread has taken no object
    referred_so : (r : MutRef) → r.holder ≡ holder → (v u : Value) → Some (value.Mut (lent_word h.thread.phase r)) ≡ Some u → (src : Source h v) → Among (record { at = Some src.location; word = r.first; object = r.object }) (pointer_at src.location v)
        → is_first r (Some v) ≡ true → r.word ≡ r.first → ((x : MutRef) → v ≡ value.Mut x → x.dirty ≡ r.dirty) → (r.dirty ≡ true → (x : MutRef) × (v ≡ value.Mut x)) → IsOk (go_on (push_temp u h)) → Gives Ends (committed (goes_on (Some (push_temp u h))))
    referred_so r held v u made src pointer first unchanged mark marked =
        let same : value.Mut r ≡ u = ap (λ x. value.Mut x) (sym (word_as_it_is h.thread.phase r free_now)) ∙ some_is made in
        subst (λ x. IsOk (go_on (push_temp x h)) → Gives Ends (committed (goes_on (Some (push_temp x h))))) same (referred r held v src pointer first unchanged mark marked)

    -- a reference to a slot, which words don't see
    to_slot : (j : ℕ) → Gives Ends (committed (goes_on (Some (push_temp (value.MutSlot j) h))))
    to_slot j =
        weaker (λ (d : Stepped). HandAlike k.code n [] h d.hand) Ends (committed (goes_on (Some (push_temp (value.MutSlot j) h)))) (goes_over k.code n h (Some (push_temp (value.MutSlot j) h)) (pushes k.code n h (value.MutSlot j) (mut_slot_unseen j) (q.walks.untaken none)))
        (λ d a. record { middle = h; ok = ok; words = q.walks.state.along.words; alike = a })

    -- from each value
    pushed_from : (v u : Value) → Lendable v → Source h v ⊎ IsNone v → mutable_from h.thread.phase holder v ≡ Some u → IsOk (go_on (push_temp u h)) → Gives Ends (committed (goes_on (Some (push_temp u h))))
    pushed_from _ u (slot j) src made after = let same : value.MutSlot j ≡ u = cc in subst (λ x. Gives Ends (committed (goes_on (Some (push_temp x h))))) same (to_slot j)
    pushed_from _ u (box p) (inl src) made after =
        referred_so (record { word = p.word; first = p.word; object = p.object; dirty = false; holder = holder }) refl (value.Own (owned.Box p)) u made src (inl refl) (its_first p.word p.object) refl (λ x e. absurd (own_no_mut (owned.Box p) x e)) (λ e. absurd cc) after
    pushed_from _ u (box p) (inr src) made after = absurd (points_somewhere p src.2)
    pushed_from _ u (reference r) (inl src) made after =
        referred_so (record { word = r.word; first = r.word; object = r.object; dirty = r.dirty; holder = holder }) refl (value.Mut r) u made src (inl refl) (its_first r.word r.object) refl (λ x e. same_mark r x e) (λ e. (r, refl)) after
    pushed_from _ u (reference r) (inr src) made after = absurd (own_no_mut src.0 r (sym src.1))

    -- from any value
    pushed : (v u : Value) → Source h v ⊎ IsNone v → mutable_from h.thread.phase holder v ≡ Some u → IsOk (go_on (push_temp u h)) → Gives Ends (committed (goes_on (Some (push_temp u h))))
    pushed v u src made = pushed_from v u (lendable h.thread.phase holder v u made) src made

    -- so words hold with its thread put back
    left : Gives (λ (d : Stepped). WordsRise k (Put d.hand) × HasPlaces (Put d.hand)) (committed (commit 0 i sp h))
    left = making.left k coherent s here t y at w m deep h sp ok (λ u. Source h u ⊎ IsNone u) q.source pushed

  abbrev Left : Stepped → Type 0
  Left d = WordsRise k (Put d.hand) × HasPlaces (Put d.hand)

  -- the step of what is ready or asked for
  prepared_lend : (servers : ℕ) (p : Prepared) → Fine p → Shown h0 p → Gives Left (prepared servers i p)
  prepared_lend servers (ready h sp) q shown = left h sp q shown.0
  prepared_lend servers (requested h) q shown = (q.along.words, placed h q.ok)
  prepared_lend servers nothing q shown = tt

  -- the step
  stepped_lend : (servers : ℕ) → Gives Left (step servers i h0)
  stepped_lend servers =
      subst (λ d. Shown h0 (lend_pointer w d h0) → Gives Left (prepared servers i (lend_pointer w d h0))) (sym deep)
      (prepared_lend servers (lend_pointer w (suc m) h0) (all_lent (read_stars m h0 (in_slot w.slot)) (sources.followed k coherent s here t y at on i code w m reads deep) (sources.came k coherent s here t y at on i code w m reads deep)))
      (shows k coherent e0 i s t y (sources.stepping k coherent s here t y at on i code w m reads deep) (Some (LendTo w)))

  -- at its server
  pub server_lends : Gives (Kept k s) (does k.code k.options s (Step t))
  server_lends =
      subst (λ o. Gives (Kept k s) (option_map (stepped s) (then_some (option_map (λ v. record { work = begin_work s.rest; thread = v }) o) (step_in k.code k.options.servers)))) (sym at)
      (subst (λ o. Gives (Kept k s) (option_map (stepped s) (then_some o (λ j. step k.options.servers j h0)))) (sym code)
      (over_gives Left (Kept k s) (step k.options.servers i h0) (stepped s) (stepped_lend k.options.servers) (λ d q. q)))

-- of a cluster with the event's entry
abbrev Holds : Cluster → Cluster × EntryView → Type 0
Holds k d = WordsRise k d.0

-- in its cluster
pub untaken_borrows_keep : (k : Cluster) (number t : ℕ) (s : Server) (y : ThreadState) (w : Lval) → IsCoherent k → FewEvents k → server_at k.servers number ≡ Some s → thread_in s.threads t ≡ Some y → slice_get k.code y.pc ≡ Some (instr.BorrowMut w) → ((v : ℕ) → y.phase ≡ phase.Taken v → ⊥)
    → Gives (Holds k) (apply k (record { server = number; what = Step t }))
untaken_borrows_keep k number t s y w coherent few here at code free = by w.depth refl
  where
    held : WordsRise k k
    held = rise_itself k coherent.sound

    by : (d : ℕ) → w.depth ≡ d → Gives (Holds k) (apply k (record { server = number; what = Step t }))
    by zero deep = weaker (λ (d : Cluster × EntryView). LeavesWords k d.0) (Holds k) (apply k (record { server = number; what = Step t })) (borrows_leave k number t s y (instr.BorrowMut w) coherent.sound few here at code (mutable deep) free) (λ d q. holds_on q held)
    by (suc m) deep =
        subst (λ c. server_at k.servers c ≡ Some s → Gives (Holds k) (apply k (record { server = c; what = Step t }))) (found_number number k.servers s here)
        (λ h. kept_where k s t coherent few h (λ on. server_lends k coherent s h t y at on w m deep code free)) here
