-- Of a thread that has taken the object the new mutable reference has the word under which it was taken.
use Rattle.std.proofs.Common.{◌≡◌, ◌⊎◌, inl, inr, ℕ, suc, ◌==◌, Bool, true, false, [], ◌∷◌, Option, Some, None, refl, sym, ap, ap₂, subst, ◌∙◌, ◌≢◌, ⊎_elim}
use Rattle.std.specs.Prelude.{slice_get, length}
use Rattle.std.proofs.lemmas.Bool.{eq-eqb}
use Rattle.law_copies_kept.specs.Below.fr_base.declared.place.Lval.{Lval}
use Rattle.law_copies_kept.specs.Below.fr_base.declared.step.Fresh.TheVariants as fresh
use Rattle.law_copies_kept.specs.Below.fr_base.declared.instruction.Instr.{Instr}
use Rattle.law_copies_kept.specs.Below.fr_base.declared.instruction.Instr.TheVariants as instr
use Rattle.law_copies_kept.specs.Below.heap_partition.declared.value.BoxPtr.{BoxPtr}
use Rattle.law_copies_kept.specs.Below.heap_partition.declared.value.Owned.{Owned}
use Rattle.law_copies_kept.specs.Below.heap_partition.declared.value.Owned.TheVariants as owned
use Rattle.law_copies_kept.specs.Below.mut_borrow.declared.mutable.MutRef.{MutRef}
use Rattle.law_copies_kept.specs.Below.thread_state.View.{ThreadState}
use Rattle.law_copies_kept.specs.Below.thread_state.declared.phase.Phase.TheVariants as phase
use Rattle.law_copies_kept.specs.Below.thread_state.declared.value.Value.{Value}
use Rattle.law_copies_kept.specs.Below.thread_state.declared.value.Value.TheVariants as value
use Rattle.law_copies_kept.specs.Below.server_model.declared.event.What.TheVariants.{Step}
use Rattle.law_copies_kept.specs.Below.server_model.Servers.{Server, Cluster, server_at}
use Rattle.law_copies_kept.specs.Below.server_model.Work.{Hand, push_temp, thread_in}
use Rattle.law_copies_kept.specs.Below.server_model.Places.{Spot, took}
use Rattle.law_copies_kept.specs.Below.server_model.Commit.{go_on, goes_on, lent_word, mutable_from, settle}
use Rattle.law_copies_kept.specs.Below.server_model.Events.{enabled, Stepped, done_step, committed}
use Rattle.law_copies_kept.specs.Below.coherent_memory.Names.{Among, one, other}
use Rattle.law_copies_kept.specs.Below.coherent_memory.Things.{Location, things_of, at_slot, in_cell, stands}
use Rattle.law_copies_kept.specs.Below.coherent_memory.Follow.{Ground, locate, Standing, value_behind, leads, place_at}
use Rattle.law_copies_kept.specs.Below.coherent_memory.Sight.{sight, taken_object, issued}
use Rattle.law_copies_kept.specs.Below.coherent_memory.Placing.{is_first, phase_word, words}
use Rattle.law_copies_kept.proofs.Below.coherent_memory.Words.{none_at}
use Rattle.law_copies_kept.specs.Below.coherent_types.ClusterTypes.{IsCoherent}
use Rattle.law_copies_kept.proofs.Below.law_words_paths.paths.Sole.{some_is}
use Rattle.law_copies_kept.specs.Below.law_words_paths.words.Reworded.{HasPlaces}
use Rattle.law_copies_kept.specs.Below.law_words_paths.words.Unmoved.{LeavesWords, Taking, taking_by, taking_of}
use Rattle.law_copies_kept.proofs.Below.law_words_paths.words.Follows.{seen_places_lead}
use Rattle.law_copies_kept.proofs.Below.law_words_paths.words.Standing.{pointer_at}
use Rattle.law_copies_kept.specs.Below.law_counts_sums.Laws.{Gives, FewEvents}
use Rattle.law_copies_kept.proofs.Below.law_counts_sums.Results.{over_gives}
use Rattle.law_copies_kept.specs.Below.law_words_kept.reads.Reading.{Reads, lends}
use Rattle.law_copies_kept.proofs.Below.law_words_kept.stays.Sites.{HandAlike}
use Rattle.law_copies_kept.proofs.Below.law_words_kept.stays.Steps.{settles}
use Rattle.law_entries_variables.specs.Below.coloured_heap.Heap.{Coloured}
use Rattle.law_copies_kept.specs.Below.coherent_memory.Colours.{StandsColoured}
use Rattle.law_copies_kept.proofs.Below.law_counts_sums.GiftsTaken.{none_here}
use Rattle.law_copies_kept.proofs.Below.law_words_values.carried.Hands.{leaves_chain}
use Rattle.law_copies_kept.proofs.Below.law_words_borrows.Sources as sources
use Rattle.law_copies_kept.proofs.Below.law_words_borrows.LentOne.{LentOne, lent_one_stays}
use Rattle.law_copies_kept.proofs.Below.law_words_borrows.OnTop.{lent_on_top, takings_were, takings_but, taking_there}
use Rattle.law_copies_kept.proofs.Below.law_words_borrows.Made.{Lendable, slot, box, reference, lendable}
use Rattle.law_copies_kept.proofs.Below.law_words_borrows.Lends.{points_somewhere, own_no_mut, its_first}
use Rattle.law_copies_kept.specs.Below.coherent_memory.Requests.{has_word, last_hop, taken_again, old_word, lies_here, taken_there, taken_phase, lent_place}
use Rattle.law_copies_kept.specs.Below.coherent_memory.Stale.{one_star_less}
use Rattle.law_copies_kept.proofs.Below.law_words_values.carried.Far.{thread_thing}
use Rattle.law_entries_reads.proofs.places.Lending as lending

-- what counts nothing isn't so
counted_none : (b : Bool) → one b ≡ 0 → b ≡ false
counted_none true e = absurd cc
counted_none false e = refl

-- what breaks nothing is so
counted_all : (b : Bool) → other b ≡ 0 → b ≡ true
counted_all true e = refl
counted_all false e = absurd cc

-- another word
other_word : (a v : ℕ) → (a == v) ≡ false → v ≡ a → ⊥
other_word a v e s = let t : true ≡ false = sym (eq-eqb a v (sym s)) ∙ e in absurd cc

-- what is taken is in a cell
lies_in_cell : (k : Cluster) (r v : ℕ) (l : Option Location) (t i : ℕ) → lies_here (sight k) r v l ≡ true → l ≡ Some (at_slot t i) → ⊥
lies_in_cell k r v l t i e f = let no : false ≡ true = sym (ap (lies_here (sight k) r v) f) ∙ e in absurd cc

module _ (k : Cluster) (coherent : IsCoherent k) (few : FewEvents k) (s : Server) (here : server_at k.servers s.rest.number ≡ Some s) (t : ℕ) (y : ThreadState) (at : thread_in s.threads t ≡ Some y)
    (on : enabled k.options s (Step t) ≡ true) (w : Lval) (m : ℕ) (deep : w.depth ≡ suc m) (code : slice_get k.code y.pc ≡ Some (instr.BorrowMut w)) (v : ℕ) (has : y.phase ≡ phase.Taken v) (c0 : Coloured) (is_coloured : StandsColoured k c0) where
  abbrev n : ℕ
  n = s.rest.number

  abbrev i : Instr
  i = instr.BorrowMut w

  abbrev reads : Reads i w m
  reads = lends deep

  abbrev g : Ground
  g = (sight k).ground

  abbrev IsOk : Hand → Type 0
  IsOk = lending.IsOk k coherent few s here t y at on w m deep code c0 is_coloured

  abbrev Put : Hand → Cluster
  Put = lending.Put k coherent few s here t y at on w m deep code c0 is_coloured

  abbrev holder : Lval
  holder = lending.holder k coherent few s here t y at on w m deep code c0 is_coloured

  abbrev Source : Hand → Value → Type 0
  Source = lending.Source k coherent few s here t y at on w m deep code c0 is_coloured

  abbrev IsNone : Value → Type 0
  IsNone = lending.IsNone k coherent few s here t y at on w m deep code c0 is_coloured

  abbrev Lends : Hand → Spot → Type 0
  Lends = lending.Lends k coherent few s here t y at on w m deep code c0 is_coloured

  abbrev Middles : Stepped → Type 0
  Middles d = lending.Middle k coherent few s here t y at on w m deep code c0 is_coloured d.hand

  -- the hand's cluster has places
  placed : (h : Hand) → IsOk h → HasPlaces (Put h)
  placed = lending.placed k coherent few s here t y at on w m deep code c0 is_coloured

  abbrev x : Standing
  x = record { server = n; packed = false; thread = y }

  -- WHAT THE CLUSTER SAYS OF IT

  -- the pointer that the place follows last has another word
  new_word : has_word v (value_behind g (locate g y.number w.slot m)) ≡ false
  new_word =
      let all : old_word (sight k) x y.phase ≡ 0 = none_here k coherent.sound n s here t y at (λ z. old_word (sight k) z z.thread.phase) coherent.sound.requests.taken_is_new in
      let there : taken_again (sight k) x v (lent_place (slice_get k.code y.pc)) ≡ 0 = subst (λ p. old_word (sight k) x p ≡ 0) has all in
      let its : taken_again (sight k) x v (Some w) ≡ 0 = subst (λ j. taken_again (sight k) x v (lent_place j) ≡ 0) code there in
      counted_none (has_word v (value_behind g (locate g y.number w.slot m))) (subst (λ d. one (last_hop (sight k) x v w d) ≡ 0) deep its)

  -- the place leads to an object
  in_a_cell : lies_here (sight k) n v (locate g y.number w.slot (suc m)) ≡ true
  in_a_cell =
      let all : taken_phase (sight k) x y.phase ≡ 0 = none_here k coherent.sound n s here t y at (λ z. taken_phase (sight k) z z.thread.phase) coherent.sound.requests.taken_stands in
      let there : taken_there (sight k) x v (lent_place (slice_get k.code y.pc)) ≡ 0 = subst (λ p. taken_phase (sight k) x p ≡ 0) has all in
      let its : taken_there (sight k) x v (Some w) ≡ 0 = subst (λ j. taken_there (sight k) x v (lent_place j) ≡ 0) code there in
      ap (λ d. lies_here (sight k) n v (locate g y.number w.slot d)) (sym deep) ∙ counted_all (lies_here (sight k) n v (place_at g y.number w)) its

  -- the word was issued
  is_issued : issued (sight k) v ≡ true
  is_issued =
      let f : ℕ → ℕ = λ u. other (issued (sight k) u) in
      let going = sources.going k coherent s here t y at on i code w m reads deep in
      let mine = none_at (words (λ u. other (issued (sight k) u))) (stands n false y) (things_of k) coherent.sound.words.are_issued (thread_thing x (things_of k) going.among) in
      counted_all (issued (sight k) v) (subst (λ p. phase_word (λ u. other (issued (sight k) u)) p ≡ 0) has mine)

  -- THE BORROW

  module _ (h : Hand) (sp : Spot) (q : Lends h sp) where
    -- the sums of the hand
    ok : IsOk h
    ok = q.walks.state.ok

    -- words are left so far
    left_so_far : LeavesWords k (Put h)
    left_so_far = lending.left_so_far k coherent few s here t y at on w m deep code c0 is_coloured h sp q

    -- where the place leads it led
    located_now : (l : Location) → locate g y.number w.slot m ≡ Some l → locate (sight (Put h)).ground h.thread.number w.slot m ≡ Some l
    located_now = lending.located_now k coherent few s here t y at on w m deep code c0 is_coloured h sp q

    -- the thread has taken the object still
    taken_now : h.thread.phase ≡ phase.Taken v
    taken_now = ap (λ (z : ThreadState). z.phase) q.still.thread ∙ has

    -- at that instruction
    code_now : slice_get k.code h.thread.pc ≡ Some (instr.BorrowMut w)
    code_now = ap (λ (z : ThreadState). slice_get k.code z.pc) q.still.thread ∙ code

    -- the pointer there has another word than the object was taken under
    box_word : (p : BoxPtr) (src : Source h (value.Own (owned.Box p))) → v ≢ p.word
    box_word p src = other_word p.word v (sym (ap (λ o. has_word v (value_behind g o)) src.located ∙ ap (has_word v) (q.walks.state.along.boxes_were src.location p src.stands)) ∙ new_word)

    -- also where that is a reference
    mut_word : (r : MutRef) (src : Source h (value.Mut r)) → v ≢ r.word
    mut_word r src e =
        let z = q.walks.state.along.word_was src.location r src.stands in
        let old : (z.0.word == v) ≡ false = sym (ap (λ o. has_word v (value_behind g o)) src.located ∙ ap (has_word v) z.1) ∙ new_word in
        ⊎_elim (λ (f : r.word ≡ z.0.word). other_word z.0.word v old (e ∙ f)) (λ (f : issued (sight k) r.word ≡ false). let no : true ≡ false = sym is_issued ∙ ap (issued (sight k)) e ∙ f in absurd cc) z.2

    abbrev taking : Taking
    taking = record { thread = h.thread.number; place = w; word = v }

    -- that is what it has taken
    taking_is : taking_of k.code (record { server = n; packed = false; thread = h.thread }) ≡ Some taking
    taking_is = ap₂ (λ p j. taking_by h.thread.number p j) taken_now code_now

    -- the reference is on top, with the word under which its object was taken
    referred : (r : MutRef) → r.holder ≡ holder → r.dirty ≡ false → r.word ≡ v → (u : Value) → (src : Source h u) → Among (record { at = Some src.location; word = r.first; object = r.object }) (pointer_at src.location u) → is_first r (Some u) ≡ true → v ≢ r.first
        → leads h.thread.number (Some u) ≡ Some (in_cell r.object) → IsOk (go_on (push_temp (value.Mut r) h)) → Gives Middles (committed (goes_on (Some (push_temp (value.Mut r) h))))
    referred r held clean its u src pointer first new leading after =
        let h3 : Hand = go_on (push_temp (value.Mut r) h) in
        let g2 : Ground = (sight (Put h)).ground in
        let place : locate g2 h.thread.number w.slot m ≡ Some src.location = located_now src.location src.located in
        let at_holder : locate (sight (Put h)).ground h.thread.number r.holder.slot r.holder.depth ≡ Some src.location = ap (λ (p : Lval). locate (sight (Put h)).ground h.thread.number p.slot p.depth) held ∙ place in
        let to_object : locate g2 h.thread.number w.slot (suc m) ≡ Some (in_cell r.object) = ap (λ o. leads h.thread.number (value_behind g2 o)) place ∙ ap (leads h.thread.number) src.stands ∙ leading in
        let one_more : LentOne (Put h) (Put h3) h.thread.number (length h.thread.temps) src.location r =
        lent_on_top k coherent s here t y at h r ok after src.location u at_holder src.stands pointer first (takings_were k coherent s here t y at h r ok after)
        (inr (record {
          taking = taking;
          listed = taking_there k coherent s here t y at h r ok after taking taking_is;
          lent = ap (one_star_less g2 h.thread.number w.slot) deep ∙ place;
          its = ap (λ d. taken_object v (locate g2 h.thread.number w.slot d)) deep ∙ ap (taken_object v) to_object ∙ ap (λ c. record { at = None; word = c; object = r.object } ∷ []) (sym its);
          took = takings_but k coherent s here t y at h r ok after taking taking_is;
          renewed = λ e. new (sym its ∙ e);
          clean = clean;
        })) in
        over_gives (HandAlike k.code n [] h3) Middles (settle h3) (done_step fresh.None) (settles k.code n h3)
        (λ h4 a. record {
          middle = h3;
          ok = after;
          words = leaves_chain left_so_far (lent_one_stays (Put h) (Put h3) h.thread.number (length h.thread.temps) src.location r (placed h ok) (placed h3 after) one_more (left_so_far.words coherent.sound.words.have_words).after);
          alike = a;
        })

    -- the same as it is made
    referred_so : (r : MutRef) → r.holder ≡ holder → (u z : Value) → Some (value.Mut (lent_word h.thread.phase r)) ≡ Some z → (src : Source h u) → Among (record { at = Some src.location; word = r.first; object = r.object }) (pointer_at src.location u) → is_first r (Some u) ≡ true → v ≢ r.first
        → leads h.thread.number (Some u) ≡ Some (in_cell r.object) → IsOk (go_on (push_temp z h)) → Gives Middles (committed (goes_on (Some (push_temp z h))))
    referred_so r held u z made src pointer first new leading =
        let same : value.Mut (took r v) ≡ z = ap (λ p. value.Mut (lent_word p r)) (sym taken_now) ∙ some_is made in
        subst (λ c. IsOk (go_on (push_temp c h)) → Gives Middles (committed (goes_on (Some (push_temp c h))))) same (referred (took r v) held refl refl u src pointer first new leading)

    -- a reference to a slot wasn't taken
    no_slot : (j : ℕ) → Source h (value.MutSlot j) → ⊥
    no_slot j src =
        let place : locate (sight (Put h)).ground h.thread.number w.slot m ≡ Some src.location = located_now src.location src.located in
        let number : h.thread.number ≡ y.number = ap (λ (z : ThreadState). z.number) q.still.thread in
        let to_slot : locate (sight (Put h)).ground y.number w.slot (suc m) ≡ Some (at_slot y.number j) =
        ap (λ o. leads y.number (value_behind (sight (Put h)).ground o)) (ap (λ c. locate (sight (Put h)).ground c w.slot m) (sym number) ∙ place) ∙ ap (leads y.number) src.stands in
        lies_in_cell k n v (locate g y.number w.slot (suc m)) y.number j in_a_cell
        (sym (seen_places_lead (sight k).ground (sight (Put h)).ground q.walks.state.along.slots_lead q.walks.state.along.cells_lead y.number w.slot (suc m)) ∙ to_slot)

    -- from each value
    pushed_from : (u z : Value) → Lendable u → Source h u ⊎ IsNone u → mutable_from h.thread.phase holder u ≡ Some z → IsOk (go_on (push_temp z h)) → Gives Middles (committed (goes_on (Some (push_temp z h))))
    pushed_from _ z (slot j) (inl src) made after = absurd (no_slot j src)
    pushed_from _ z (slot j) (inr src) made after = absurd (slot_no_own j src.0 src.1)
      where
        slot_no_own : (c : ℕ) (o : Owned) → value.MutSlot c ≡ value.Own o → ⊥
        slot_no_own c o e = absurd cc
    pushed_from _ z (box p) (inl src) made after =
        referred_so (record { word = p.word; first = p.word; object = p.object; dirty = false; holder = holder }) refl (value.Own (owned.Box p)) z made src (inl refl) (its_first p.word p.object) (box_word p src) refl after
    pushed_from _ z (box p) (inr src) made after = absurd (points_somewhere p src.2)
    pushed_from _ z (reference r) (inl src) made after =
        referred_so (record { word = r.word; first = r.word; object = r.object; dirty = r.dirty; holder = holder }) refl (value.Mut r) z made src (inl refl) (its_first r.word r.object) (mut_word r src) refl after
    pushed_from _ z (reference r) (inr src) made after = absurd (own_no_mut src.0 r (sym src.1))

  -- from any value
  pub taken_pushes : lending.Pushes k coherent few s here t y at on w m deep code c0 is_coloured
  taken_pushes h sp q u z src made after = pushed_from h sp q u z (lendable h.thread.phase holder u z made) src made after
