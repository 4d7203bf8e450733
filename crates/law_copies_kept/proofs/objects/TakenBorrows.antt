-- A mutable borrow whose object was taken: each object is what it was, and nothing is asked for.
use Rattle.std.proofs.Common.{◌≡◌, ◌⊎◌, inl, inr, ℕ, suc, ◌==◌, Bool, true, false, if◌then◌else◌, List, [], ◌++◌, Option, Some, None, refl, sym, ap, ap₂, subst, ◌∙◌, ◌≢◌, ⊎_elim, ◌∷◌, arith, ◌+◌}
use Rattle.std.specs.Prelude.{⊤, slice_get, length}
use Rattle.std.proofs.lemmas.Bool.{eq-eqb}
use Rattle.law_copies_kept.specs.Below.fr_base.declared.place.Lval.{Lval}
use Rattle.law_copies_kept.specs.Below.fr_base.declared.instruction.Instr.{Instr}
use Rattle.law_copies_kept.specs.Below.heap_partition.declared.value.BoxPtr.{BoxPtr}
use Rattle.law_copies_kept.specs.Below.heap_partition.declared.value.Owned.{Owned}
use Rattle.law_copies_kept.specs.Below.mut_borrow.declared.mutable.MutRef.{MutRef}
use Rattle.law_copies_kept.specs.Below.place_walk.declared.hop.Hop.{Hop}
use Rattle.law_copies_kept.specs.Below.place_walk.Hops.{write_hop}
use Rattle.law_copies_kept.specs.Below.thread_state.View.{ThreadState}
use Rattle.law_copies_kept.specs.Below.thread_state.declared.value.Value.{Value}
use Rattle.law_copies_kept.specs.Below.server_model.declared.event.Event.{Event}
use Rattle.law_copies_kept.specs.Below.server_model.declared.event.What.TheVariants.{Step}
use Rattle.law_copies_kept.specs.Below.server_model.Servers.{Server, Cluster, server_at}
use Rattle.law_copies_kept.specs.Below.server_model.Work.{Hand, push_temp, thread_in, without_thread}
use Rattle.law_copies_kept.specs.Below.server_model.Places.{Spot, in_slot, value_at, load_at, pointer_of, took}
use Rattle.law_copies_kept.specs.Below.server_model.Prepare.{Prepared, ready, requested, nothing, LendTo, and_then, ask_object, request_by, read_stars, is_taken, lend_by, lend_value, lend_pointer, ReadTo}
use Rattle.law_copies_kept.specs.Below.server_model.Commit.{go_on, goes_on, lent_word, mutable_from, commit, settle}
use Rattle.law_copies_kept.specs.Below.server_model.Events.{enabled, begin_work, Stepped, done_step, committed, prepared, step}
use Rattle.law_copies_kept.specs.Below.coherent_memory.Names.{Among, one, other}
use Rattle.law_copies_kept.specs.Below.coherent_memory.Things.{Location, Thing, servers_things, at_slot, in_cell, stands, things_of}
use Rattle.law_copies_kept.specs.Below.coherent_memory.Follow.{Ground, locate, Standing, value_behind, leads, place_at}
use Rattle.law_copies_kept.specs.Below.coherent_memory.Sight.{sight, taken_object, issued}
use Rattle.law_copies_kept.specs.Below.coherent_memory.Placing.{is_first, phase_word, words}
use Rattle.law_copies_kept.proofs.Below.coherent_memory.Words.{none_at}
use Rattle.law_copies_kept.specs.Below.coherent_types.ClusterTypes.{IsCoherent}
use Rattle.law_copies_kept.proofs.Below.law_words_paths.paths.Sole.{some_is}
use Rattle.law_words_borrows.specs.Below.law_words_paths.words.Reworded.{HasPlaces}
use Rattle.law_words_borrows.specs.Below.law_words_paths.words.Unmoved.{Taking, taking_by, taking_of}
use Rattle.law_words_borrows.proofs.Below.law_words_paths.words.Follows.{seen_places_lead}
use Rattle.law_words_borrows.proofs.Below.law_words_paths.words.Standing.{pointer_at}
use Rattle.law_copies_kept.specs.Below.law_counts_sums.Laws.{Gives, FewEvents}
use Rattle.law_copies_kept.proofs.Below.law_counts_sums.Results.{over_gives}
use Rattle.law_copies_kept.proofs.Below.law_counts_sums.Bags.{all_standing}
use Rattle.law_copies_kept.proofs.Below.law_counts_sums.Events.{others_of}
use Rattle.law_words_borrows.specs.Below.law_words_kept.reads.Reading.{Reads, lends}
use Rattle.law_words_borrows.proofs.Below.law_words_values.Below.law_heap_still.events.Prepares.{Fine as Shown}
use Rattle.law_words_borrows.proofs.Below.law_words_values.Below.law_heap_still.events.Readied.{Readied}
use Rattle.law_words_borrows.proofs.Below.law_words_kept.stays.Sites.{HandAlike}
use Rattle.law_words_borrows.proofs.Below.law_words_kept.stays.Steps.{settles}
use Rattle.law_words_borrows.proofs.Below.law_heap_steps.turns.ReadWalk.{value_loaded}
use Rattle.law_words_borrows.proofs.Below.law_heap_steps.turns.StarLines.{shows}
use Rattle.law_words_borrows.proofs.Below.law_words_kept.prepared.Hands.{Ok, Walks, put, places}
use Rattle.law_words_borrows.proofs.Below.law_words_kept.prepared.Stars.{Spotted, walks_loaded}
use Rattle.law_words_borrows.proofs.LentOne.{LentOne}
use Rattle.law_words_borrows.proofs.OnTop.{lent_on_top, takings_were, takings_but, taking_there}
use Rattle.law_copies_kept.specs.Below.coherent_memory.Requests.{has_word, last_hop, taken_again, old_word, lies_here, taken_there, taken_phase, lent_place}
use Rattle.law_copies_kept.specs.Below.coherent_memory.Stale.{one_star_less}
use Rattle.law_copies_kept.proofs.Below.law_counts_sums.GiftsTaken.{none_here}
use Rattle.law_words_borrows.proofs.Below.law_words_values.carried.Far.{thread_thing}
use Rattle.law_words_borrows.proofs.Below.law_counts_asking.Unasked.{Unasked}
use Rattle.law_words_borrows.proofs.AtHand.{unasked}
use Rattle.law_copies_kept.proofs.Below.law_counts_sums.RulesKeep.{sums_kept}
use Rattle.law_copies_kept.specs.Below.fr_base.declared.step.Fresh.TheVariants as fresh
use Rattle.law_copies_kept.specs.Below.fr_base.declared.instruction.Instr.TheVariants as instr
use Rattle.law_copies_kept.specs.Below.heap_partition.declared.value.Owned.TheVariants as owned
use Rattle.law_copies_kept.specs.Below.place_walk.declared.hop.Hop.TheVariants as hop
use Rattle.law_copies_kept.specs.Below.thread_state.declared.phase.Phase.TheVariants as phase
use Rattle.law_copies_kept.specs.Below.thread_state.declared.value.Value.TheVariants as value
use Rattle.law_words_borrows.proofs.Sources as sources
use Rattle.law_words_borrows.proofs.Made.{Lendable, slot, box, reference, lendable}
use Rattle.law_words_borrows.proofs.Lends.{points_somewhere, own_no_mut, its_first}
use Rattle.law_copies_kept.specs.Below.server_model.Servers.{Rest}
use Rattle.law_copies_kept.specs.Below.coherent_memory.Words.{HasWords}
use Rattle.law_words_borrows.proofs.Below.law_counts_things.things.Mail.{Mailed}
use Rattle.law_words_borrows.proofs.Below.law_counts_things.things.Messages.{Light}
use Rattle.law_copies_kept.proofs.copies.Clean.{Leaves, all_goes}
use Rattle.law_copies_kept.proofs.references.Asked.{asking}
use Rattle.law_copies_kept.proofs.objects.Outcome.{Left}
use Rattle.law_words_borrows.proofs.Below.law_words_paths.words.Put.{put_split}
use Rattle.law_words_borrows.proofs.Below.law_words_values.carried.Replaced.{cells_same}
use Rattle.law_words_borrows.proofs.Below.law_words_values.carried.Hands.{each_together, stands_here}
use Rattle.law_copies_kept.proofs.references.ReadHands.{IsCalm, calm_start, calm_ready, read_alike}
use Rattle.law_copies_kept.proofs.Below.law_results_reads.Starred.{Fine as Read_so, bound}
use Rattle.law_copies_kept.proofs.Below.law_results_reads.Readers.{stars_fine}
use Rattle.law_copies_kept.proofs.Below.law_counts_sums.Prepares.{PreparedOk, prepares}
use Rattle.law_words_borrows.proofs.Below.law_counts_things.things.Small.{Made as MadeSo}
use Rattle.law_copies_kept.specs.Below.coherent_memory.Follow.{cells_in}
use Rattle.law_copies_kept.proofs.objects.LentMarks.{lent_turned}
use Rattle.law_copies_kept.proofs.Below.law_results_reads.Known.{Steps}
use Rattle.law_copies_kept.proofs.Below.law_results_reads.Reading.{Reading}
use Rattle.law_words_borrows.proofs.Below.law_counts_things.things.Mail.{Mail}
use Rattle.law_words_borrows.proofs.Below.law_words_values.carried.Hands.{moved_goes, seen, first_ok}
use Rattle.law_words_borrows.proofs.AtHand as at_hand
use Rattle.law_copies_kept.proofs.objects.Lending as making

-- what counts nothing isn't so
counted_none : (b : Bool) → one b ≡ 0 → b ≡ false
counted_none true e = absurd cc
counted_none false e = refl

-- what breaks nothing is so
counted_all : (b : Bool) → other b ≡ 0 → b ≡ true
counted_all true e = refl
counted_all false e = absurd cc

-- another word
other_word : (a v : ℕ) → (a == v) ≡ false → v ≡ a → ⊥
other_word a v e s = let t : true ≡ false = sym (eq-eqb a v (sym s)) ∙ e in absurd cc

-- what is taken is in a cell
lies_in_cell : (k : Cluster) (r v : ℕ) (l : Option Location) (t i : ℕ) → lies_here (sight k) r v l ≡ true → l ≡ Some (at_slot t i) → ⊥
lies_in_cell k r v l t i e f = let no : false ≡ true = sym (ap (lies_here (sight k) r v) f) ∙ e in absurd cc

module _ (k : Cluster) (coherent : IsCoherent k) (few : FewEvents k) (s : Server) (here : server_at k.servers s.rest.number ≡ Some s) (t : ℕ) (y : ThreadState) (at : thread_in s.threads t ≡ Some y)
    (on : enabled k.options s (Step t) ≡ true) (w : Lval) (m : ℕ) (deep : w.depth ≡ suc m) (code : slice_get k.code y.pc ≡ Some (instr.BorrowMut w)) (v : ℕ) (has : y.phase ≡ phase.Taken v) where
  abbrev n : ℕ
  n = s.rest.number

  abbrev i : Instr
  i = instr.BorrowMut w

  abbrev reads : Reads i w m
  reads = lends deep

  abbrev g : Ground
  g = (sight k).ground

  abbrev W : Hand → Type 0
  W = Walks k coherent s here t y at

  abbrev IsOk : Hand → Type 0
  IsOk = Ok k coherent s here t y at

  abbrev Put : Hand → Cluster
  Put = put k coherent s here t y at

  abbrev h0 : Hand
  h0 = record { work = begin_work s.rest; thread = y }

  abbrev x : Standing
  x = record { server = n; packed = false; thread = y }

  abbrev b : List Thing
  b = all_standing n (without_thread s.threads t) ++ servers_things (others_of k.servers n)

  abbrev e0 : Event
  e0 = record { server = n; what = Step t }

  abbrev holder : Lval
  holder = record w { depth = m }

  abbrev Came : Prepared → Type 0
  Came = sources.Came k coherent s here t y at on i code w m reads deep

  abbrev Followed : Prepared → Type 0
  Followed = sources.Followed k coherent s here t y at on i code w m reads deep

  abbrev AtSpot : Hand → Spot → Type 0
  AtSpot = sources.AtSpot k coherent s here t y at on i code w m reads deep

  abbrev Source : Hand → Value → Type 0
  Source = sources.Source k coherent s here t y at on i code w m reads deep

  abbrev IsNone : Value → Type 0
  IsNone = sources.IsNone k coherent s here t y at on i code w m reads deep

  -- the hand's cluster has places
  placed : (h : Hand) → IsOk h → HasPlaces (Put h)
  placed h q = places k coherent s here t y at h q

  -- WHAT THE CLUSTER SAYS OF IT

  -- the pointer that the place follows last has another word
  new_word : has_word v (value_behind g (locate g y.number w.slot m)) ≡ false
  new_word =
      let all : old_word (sight k) x y.phase ≡ 0 = none_here k coherent.sound n s here t y at (λ z. old_word (sight k) z z.thread.phase) coherent.sound.requests.taken_is_new in
      let there : taken_again (sight k) x v (lent_place (slice_get k.code y.pc)) ≡ 0 = subst (λ p. old_word (sight k) x p ≡ 0) has all in
      let its : taken_again (sight k) x v (Some w) ≡ 0 = subst (λ j. taken_again (sight k) x v (lent_place j) ≡ 0) code there in
      counted_none (has_word v (value_behind g (locate g y.number w.slot m))) (subst (λ d. one (last_hop (sight k) x v w d) ≡ 0) deep its)

  -- the place leads to an object
  in_a_cell : lies_here (sight k) n v (locate g y.number w.slot (suc m)) ≡ true
  in_a_cell =
      let all : taken_phase (sight k) x y.phase ≡ 0 = none_here k coherent.sound n s here t y at (λ z. taken_phase (sight k) z z.thread.phase) coherent.sound.requests.taken_stands in
      let there : taken_there (sight k) x v (lent_place (slice_get k.code y.pc)) ≡ 0 = subst (λ p. taken_phase (sight k) x p ≡ 0) has all in
      let its : taken_there (sight k) x v (Some w) ≡ 0 = subst (λ j. taken_there (sight k) x v (lent_place j) ≡ 0) code there in
      ap (λ d. lies_here (sight k) n v (locate g y.number w.slot d)) (sym deep) ∙ counted_all (lies_here (sight k) n v (place_at g y.number w)) its

  -- the word was issued
  is_issued : issued (sight k) v ≡ true
  is_issued =
      let f : ℕ → ℕ = λ u. other (issued (sight k) u) in
      let going = sources.going k coherent s here t y at on i code w m reads deep in
      let mine = none_at (words (λ u. other (issued (sight k) u))) (stands n false y) (things_of k) coherent.sound.words.are_issued (thread_thing x (things_of k) going.among) in
      counted_all (issued (sight k) v) (subst (λ p. phase_word (λ u. other (issued (sight k) u)) p ≡ 0) has mine)

  -- THE POINTER IS READY

  abbrev start : HasWords (sight k)
  start = coherent.sound.words.have_words

  abbrev Sent : (ℕ → ℕ) → Rest → Type 0
  Sent f r = Mailed (Light (asking f)) n s.rest.outbox r

  abbrev Ends_well : Stepped → Type 0
  Ends_well = Left k coherent.sound few s here t y at i code

  -- a hand up to which all stays
  record Ready (h : Hand) : Type 0 where
    walks : W h
    stay : Leaves k (Put h)
    mails : (f : ℕ → ℕ) → Sent f s.rest → Sent f h.work.rest

  record Lends (h : Hand) (sp : Spot) : Type 0 where
    ready_now : Ready h
    source : (u : Value) → value_at h sp ≡ Some u → Source h u ⊎ IsNone u

  abbrev Fine : Prepared → Type 0
  Fine (ready h sp) = Lends h sp
  Fine (requested h) = ⊥
  Fine nothing = ⊤

  -- the last pointer is ready
  lent : (h : Hand) (sp : Spot) → h.thread.phase ≡ phase.Taken v → Ready h → Spotted g y.number w.slot m sp → ((u : Value) → value_at h sp ≡ Some u → AtSpot h sp) → Fine (lend_value sp (value_at h sp) (load_at sp h))
  lent h sp still c p a = by (value_at h sp)
    where
      of_loaded : (u : Value) → Source h u ⊎ IsNone u → Source (load_at sp h) u ⊎ IsNone u
      of_loaded u (inl q) = inl (record { location = q.location; located = q.located; stands = q.stands })
      of_loaded u (inr q) = inr q

      there : Lends (load_at sp h) sp
      there = record {
        ready_now = record { walks = walks_loaded k coherent s here t y at on i code w m reads sp h c.walks; stay = c.stay; mails = c.mails };
        source = λ u e. of_loaded u (sources.sourced k coherent s here t y at on i code w m reads deep h sp c.walks p a u (sym (value_loaded sp h) ∙ e));
      }

      by_hop : (u : Value) (o : Option Hop) → Fine (lend_by sp u o (load_at sp h))
      by_hop u None = tt
      by_hop u (Some (hop.NeedMove z)) = subst (λ c. Fine (if c then ready (load_at sp h) sp else request_by ask_object (load_at sp h) (pointer_of u))) (sym (ap is_taken still)) there
      by_hop u (Some (hop.Slot z)) = there
      by_hop u (Some (hop.Direct z)) = there
      by_hop u (Some (hop.Hit z)) = there
      by_hop u (Some (hop.NeedCopy z)) = there
      by_hop u (Some (hop.NeedTint z)) = there
      by_hop u (Some (hop.AtCell z)) = there

      by : (o : Option Value) → Fine (lend_value sp o (load_at sp h))
      by None = tt
      by (Some u) = by_hop u (write_hop h.work.rest.number u)

  -- WHAT IT HAS READ

  abbrev its : Steps k n t s y i
  its = at_hand.z k coherent few s here t y at on w m deep code v has

  fine : Read_so k n t s y i its w.slot m (read_stars m h0 (in_slot w.slot))
  fine =
      stars_fine k n t s y i its true w (at_hand.place k coherent few s here t y at on w m deep code v has) (at_hand.short k coherent few s here t y at on w m deep code v has) m (omega (arith, deep)) (at_hand.before_it k coherent few s here t y at on w m deep code v has)

  known_ready : PreparedOk IsOk (read_stars m h0 (in_slot w.slot)) × MadeSo (IsCalm s.rest y) (λ r x. ⊤) (read_stars m h0 (in_slot w.slot))
  known_ready =
      let a = Some (ReadTo (record w { depth = m })) in (prepares sums_kept n s.events t b a h0 (first_ok k coherent.sound s here t y at), calm_ready s.rest y a h0 (calm_start s.rest y))

  abbrev Mailed_so : (ℕ → ℕ) → Hand → Type 0
  Mailed_so f h = Sent f s.rest → Sent f h.work.rest

  ready_so : (h : Hand) → W h → IsOk h → IsCalm s.rest y h.work.rest h.thread → Reading y s.rest (bound k n t s y i its) m h → Ready h
  ready_so h c ok calm r = record {
    walks = c;
    stay = moved_goes k coherent.sound s here t y at all_goes h ok (seen (each_together (read_alike k.code n (bound k n t s y i its) m h0 h r calm)));
    mails = λ f mail.
        subst (λ x. Mail (Light (asking f)) n s.rest.outbox h.work.rest.number x h.work.rest.outbox) (sym calm.same_inbox)
        (subst (λ x. Mail (Light (asking f)) n s.rest.outbox h.work.rest.number s.rest.inbox x) (sym calm.same_outbox) (subst (λ x. Mail (Light (asking f)) n s.rest.outbox x s.rest.inbox s.rest.outbox) (sym ok.number) mail));
  }

  -- so is the place
  all_lent : (p : Prepared) → Followed p → Came p → Read_so k n t s y i its w.slot m p → PreparedOk IsOk p → MadeSo (IsCalm s.rest y) (λ r x. ⊤) p → Unasked p → Shown h0 p → Fine (and_then (λ h2 sp. lend_value sp (value_at h2 sp) (load_at sp h2)) p)
  all_lent (ready h sp) f a r ok calm u q = lent h sp (ap (λ (z : ThreadState). z.phase) q.0.thread ∙ has) (ready_so h f.0 ok calm r.3) f.1 a
  all_lent (requested h) f a r ok calm u q = u
  all_lent nothing f a r ok calm u q = tt

  -- THE BORROW

  abbrev Ends : Stepped → Type 0
  Ends = making.Ends k coherent few s here t y at w m deep code

  module _ (h : Hand) (sp : Spot) (q : Lends h sp) (shown : Readied h0 h) where
    -- the sums of the hand
    ok : IsOk h
    ok = q.ready_now.walks.state.ok

    -- the thread has taken the object still
    taken_now : h.thread.phase ≡ phase.Taken v
    taken_now = ap (λ (z : ThreadState). z.phase) shown.thread ∙ has

    -- at that instruction
    code_now : slice_get k.code h.thread.pc ≡ Some (instr.BorrowMut w)
    code_now = ap (λ (z : ThreadState). slice_get k.code z.pc) shown.thread ∙ code

    -- where the place leads it led
    located_now : (l : Location) → locate g y.number w.slot m ≡ Some l → locate (sight (Put h)).ground h.thread.number w.slot m ≡ Some l
    located_now l e =
        ap (λ u. locate (sight (Put h)).ground u w.slot m) (ap (λ (z : ThreadState). z.number) shown.thread)
        ∙ seen_places_lead (sight k).ground (sight (Put h)).ground q.ready_now.walks.state.along.slots_lead q.ready_now.walks.state.along.cells_lead y.number w.slot m ∙ e

    -- the pointer there has another word than the object was taken under
    box_word : (p : BoxPtr) (src : Source h (value.Own (owned.Box p))) → v ≢ p.word
    box_word p src = other_word p.word v (sym (ap (λ o. has_word v (value_behind g o)) src.located ∙ ap (has_word v) (q.ready_now.walks.state.along.boxes_were src.location p src.stands)) ∙ new_word)

    -- also where that is a reference
    mut_word : (r : MutRef) (src : Source h (value.Mut r)) → v ≢ r.word
    mut_word r src e =
        let z = q.ready_now.walks.state.along.word_was src.location r src.stands in
        let old : (z.0.word == v) ≡ false = sym (ap (λ o. has_word v (value_behind g o)) src.located ∙ ap (has_word v) z.1) ∙ new_word in
        ⊎_elim (λ (f : r.word ≡ z.0.word). other_word z.0.word v old (e ∙ f)) (λ (f : issued (sight k) r.word ≡ false). let no : true ≡ false = sym is_issued ∙ ap (issued (sight k)) e ∙ f in absurd cc) z.2

    abbrev taking : Taking
    taking = record { thread = h.thread.number; place = w; word = v }

    -- that is what it has taken
    taking_is : taking_of k.code (record { server = n; packed = false; thread = h.thread }) ≡ Some taking
    taking_is = ap₂ (λ p j. taking_by h.thread.number p j) taken_now code_now

    -- with the same cells
    same_cells : (h3 : Hand) → IsOk h3 → h3.work.rest ≡ h.work.rest → h3.thread.number ≡ h.thread.number → cells_in (things_of (Put h3)) ≡ cells_in (things_of (Put h))
    same_cells h3 after rest number =
        cells_same (Put h) (Put h3) n h.thread h3.thread number (put_split k n s.threads (s.events + 1) h h3 (stands_here k coherent.sound s here t y at h ok.number ok.thread) rest number) (placed h ok) (placed h3 after)

    -- the reference is on top, with the word under which its object was taken
    referred : (r : MutRef) → r.holder ≡ holder → r.dirty ≡ false → r.word ≡ v → (u : Value) → (src : Source h u) → Among (record { at = Some src.location; word = r.first; object = r.object }) (pointer_at src.location u) → is_first r (Some u) ≡ true → v ≢ r.first
        → leads h.thread.number (Some u) ≡ Some (in_cell r.object) → IsOk (go_on (push_temp (value.Mut r) h)) → Gives Ends (committed (goes_on (Some (push_temp (value.Mut r) h))))
    referred r held clean its u src pointer first new leading after =
        let h3 : Hand = go_on (push_temp (value.Mut r) h) in
        let g2 : Ground = (sight (Put h)).ground in
        let place : locate g2 h.thread.number w.slot m ≡ Some src.location = located_now src.location src.located in
        let at_holder : locate (sight (Put h)).ground h.thread.number r.holder.slot r.holder.depth ≡ Some src.location = ap (λ (p : Lval). locate (sight (Put h)).ground h.thread.number p.slot p.depth) held ∙ place in
        let to_object : locate g2 h.thread.number w.slot (suc m) ≡ Some (in_cell r.object) = ap (λ o. leads h.thread.number (value_behind g2 o)) place ∙ ap (leads h.thread.number) src.stands ∙ leading in
        let one_more : LentOne (Put h) (Put h3) h.thread.number (length h.thread.temps) src.location r =
        lent_on_top k coherent s here t y at h r ok after src.location u at_holder src.stands pointer first (takings_were k coherent s here t y at h r ok after)
        (inr (record {
          taking = taking;
          listed = taking_there k coherent s here t y at h r ok after taking taking_is;
          lent = ap (one_star_less g2 h.thread.number w.slot) deep ∙ place;
          its = ap (λ d. taken_object v (locate g2 h.thread.number w.slot d)) deep ∙ ap (taken_object v) to_object ∙ ap (λ c. record { at = None; word = c; object = r.object } ∷ []) (sym its);
          took = takings_but k coherent s here t y at h r ok after taking taking_is;
          renewed = λ e. new (sym its ∙ e);
          clean = clean;
        })) in
        over_gives (HandAlike k.code n [] h3) Ends (settle h3) (done_step fresh.None) (settles k.code n h3)
        (λ h4 a. record {
          middle = h3;
          ok = after;
          turned = lent_turned k (Put h) (Put h3) coherent.sound h.thread.number (length h.thread.temps) src.location r (placed h ok) (placed h3 after) one_more q.ready_now.stay (same_cells h3 after refl refl);
          alike = a;
        })

    -- the same as it is made
    referred_so : (r : MutRef) → r.holder ≡ holder → (u z : Value) → Some (value.Mut (lent_word h.thread.phase r)) ≡ Some z → (src : Source h u) → Among (record { at = Some src.location; word = r.first; object = r.object }) (pointer_at src.location u) → is_first r (Some u) ≡ true → v ≢ r.first
        → leads h.thread.number (Some u) ≡ Some (in_cell r.object) → IsOk (go_on (push_temp z h)) → Gives Ends (committed (goes_on (Some (push_temp z h))))
    referred_so r held u z made src pointer first new leading =
        let same : value.Mut (took r v) ≡ z = ap (λ p. value.Mut (lent_word p r)) (sym taken_now) ∙ some_is made in
        subst (λ c. IsOk (go_on (push_temp c h)) → Gives Ends (committed (goes_on (Some (push_temp c h))))) same (referred (took r v) held refl refl u src pointer first new leading)

    -- a reference to a slot wasn't taken
    no_slot : (j : ℕ) → Source h (value.MutSlot j) → ⊥
    no_slot j src =
        let place : locate (sight (Put h)).ground h.thread.number w.slot m ≡ Some src.location = located_now src.location src.located in
        let number : h.thread.number ≡ y.number = ap (λ (z : ThreadState). z.number) shown.thread in
        let to_slot : locate (sight (Put h)).ground y.number w.slot (suc m) ≡ Some (at_slot y.number j) =
        ap (λ o. leads y.number (value_behind (sight (Put h)).ground o)) (ap (λ c. locate (sight (Put h)).ground c w.slot m) (sym number) ∙ place) ∙ ap (leads y.number) src.stands in
        lies_in_cell k n v (locate g y.number w.slot (suc m)) y.number j in_a_cell
        (sym (seen_places_lead (sight k).ground (sight (Put h)).ground q.ready_now.walks.state.along.slots_lead q.ready_now.walks.state.along.cells_lead y.number w.slot (suc m)) ∙ to_slot)

    -- from each value
    pushed_from : (u z : Value) → Lendable u → Source h u ⊎ IsNone u → mutable_from h.thread.phase holder u ≡ Some z → IsOk (go_on (push_temp z h)) → Gives Ends (committed (goes_on (Some (push_temp z h))))
    pushed_from _ z (slot j) (inl src) made after = absurd (no_slot j src)
    pushed_from _ z (slot j) (inr src) made after = absurd (slot_no_own j src.0 src.1)
      where
        slot_no_own : (c : ℕ) (o : Owned) → value.MutSlot c ≡ value.Own o → ⊥
        slot_no_own c o e = absurd cc
    pushed_from _ z (box p) (inl src) made after =
        referred_so (record { word = p.word; first = p.word; object = p.object; dirty = false; holder = holder }) refl (value.Own (owned.Box p)) z made src (inl refl) (its_first p.word p.object) (box_word p src) refl after
    pushed_from _ z (box p) (inr src) made after = absurd (points_somewhere p src.2)
    pushed_from _ z (reference r) (inl src) made after =
        referred_so (record { word = r.word; first = r.word; object = r.object; dirty = r.dirty; holder = holder }) refl (value.Mut r) z made src (inl refl) (its_first r.word r.object) (mut_word r src) refl after
    pushed_from _ z (reference r) (inr src) made after = absurd (own_no_mut src.0 r (sym src.1))

    -- from any value
    pushed : (u z : Value) → Source h u ⊎ IsNone u → mutable_from h.thread.phase holder u ≡ Some z → IsOk (go_on (push_temp z h)) → Gives Ends (committed (goes_on (Some (push_temp z h))))
    pushed u z src made = pushed_from u z (lendable h.thread.phase holder u z made) src made

    -- so it is with its thread put back
    left : Gives Ends_well (committed (commit 0 i sp h))
    left = making.left k coherent few s here t y at w m deep code h sp ok q.ready_now.mails (λ u. Source h u ⊎ IsNone u) q.source pushed

  -- the step of what is ready
  prepared_lend : (servers : ℕ) (p : Prepared) → Fine p → Shown h0 p → Gives Ends_well (prepared servers i p)
  prepared_lend servers (ready h sp) q shown = left h sp q shown.0
  prepared_lend servers (requested h) q shown = absurd q
  prepared_lend servers nothing q shown = tt

  -- the step
  pub stepped_take : (servers : ℕ) → Gives Ends_well (step servers i h0)
  stepped_take servers =
      subst (λ d. Shown h0 (lend_pointer w d h0) → Gives Ends_well (prepared servers i (lend_pointer w d h0))) (sym deep)
      (prepared_lend servers (lend_pointer w (suc m) h0)
      (all_lent (read_stars m h0 (in_slot w.slot)) (sources.followed k coherent s here t y at on i code w m reads deep) (sources.came k coherent s here t y at on i code w m reads deep) fine known_ready.0 known_ready.1 (unasked k coherent few s here t y at on w m deep code v has)
      (shows k coherent e0 i s t y (sources.stepping k coherent s here t y at on i code w m reads deep) (Some (ReadTo holder)))))
      (shows k coherent e0 i s t y (sources.stepping k coherent s here t y at on i code w m reads deep) (Some (LendTo w)))
