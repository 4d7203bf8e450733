-- Of a thread that hasn't taken an object the new mutable reference has its pointer's word and mark.
use Rattle.std.proofs.Common.{◌≡◌, ◌⊎◌, inl, inr, ℕ, suc, true, false, [], Some, refl, sym, ap, subst, ◌∙◌}
use Rattle.std.specs.Prelude.{slice_get, length}
use Rattle.law_copies_kept.specs.Below.fr_base.declared.place.Lval.{Lval}
use Rattle.law_copies_kept.specs.Below.fr_base.declared.step.Fresh.TheVariants as fresh
use Rattle.law_copies_kept.specs.Below.fr_base.declared.instruction.Instr.{Instr}
use Rattle.law_copies_kept.specs.Below.fr_base.declared.instruction.Instr.TheVariants as instr
use Rattle.law_copies_kept.specs.Below.heap_partition.declared.value.Owned.TheVariants as owned
use Rattle.law_copies_kept.specs.Below.mut_borrow.declared.mutable.MutRef.{MutRef}
use Rattle.law_copies_kept.specs.Below.thread_state.View.{ThreadState}
use Rattle.law_copies_kept.specs.Below.thread_state.declared.phase.Phase.{Phase}
use Rattle.law_copies_kept.specs.Below.thread_state.declared.phase.Phase.TheVariants as phase
use Rattle.law_copies_kept.specs.Below.thread_state.declared.value.Value.{Value}
use Rattle.law_copies_kept.specs.Below.thread_state.declared.value.Value.TheVariants as value
use Rattle.law_copies_kept.specs.Below.server_model.declared.event.What.TheVariants.{Step}
use Rattle.law_copies_kept.specs.Below.server_model.Servers.{Server, Cluster, server_at}
use Rattle.law_copies_kept.specs.Below.server_model.Work.{Hand, push_temp, thread_in}
use Rattle.law_copies_kept.specs.Below.server_model.Places.{Spot}
use Rattle.law_copies_kept.specs.Below.server_model.Commit.{go_on, goes_on, lent_word, mutable_from, settle}
use Rattle.law_copies_kept.specs.Below.server_model.Events.{enabled, Stepped, done_step, committed}
use Rattle.law_copies_kept.specs.Below.coherent_memory.Names.{Among}
use Rattle.law_copies_kept.specs.Below.coherent_memory.Things.{Location}
use Rattle.law_copies_kept.specs.Below.coherent_memory.Follow.{Ground, locate}
use Rattle.law_copies_kept.specs.Below.coherent_memory.Sight.{sight}
use Rattle.law_copies_kept.specs.Below.coherent_memory.Placing.{is_first}
use Rattle.law_copies_kept.specs.Below.coherent_types.ClusterTypes.{IsCoherent}
use Rattle.law_copies_kept.proofs.Below.law_words_paths.paths.Sole.{some_is}
use Rattle.law_copies_kept.specs.Below.law_words_paths.words.Reworded.{HasPlaces}
use Rattle.law_copies_kept.specs.Below.law_words_paths.words.Unmoved.{LeavesWords}
use Rattle.law_copies_kept.proofs.Below.law_words_paths.words.Standing.{pointer_at}
use Rattle.law_copies_kept.specs.Below.law_counts_sums.Laws.{Gives, FewEvents}
use Rattle.law_copies_kept.proofs.Below.law_counts_sums.Results.{weaker, over_gives}
use Rattle.law_copies_kept.specs.Below.law_words_kept.reads.Reading.{Reads, lends}
use Rattle.law_copies_kept.proofs.Below.law_words_kept.stays.Sites.{HandAlike}
use Rattle.law_copies_kept.proofs.Below.law_words_kept.stays.Steps.{TakesNoneHere, mut_slot_unseen, pushes, settles, goes_over}
use Rattle.law_entries_variables.specs.Below.coloured_heap.Heap.{Coloured}
use Rattle.law_copies_kept.specs.Below.coherent_memory.Colours.{StandsColoured}
use Rattle.law_copies_kept.proofs.Below.law_words_values.carried.Hands.{leaves_chain}
use Rattle.law_copies_kept.proofs.Below.law_words_borrows.Sources as sources
use Rattle.law_copies_kept.proofs.Below.law_words_borrows.LentOne.{LentOne, lent_one_stays}
use Rattle.law_copies_kept.proofs.Below.law_words_borrows.OnTop.{same_takings, lent_on_top}
use Rattle.law_copies_kept.proofs.Below.law_words_borrows.Made.{Lendable, slot, box, reference, lendable}
use Rattle.law_copies_kept.proofs.Below.law_words_borrows.Lends.{points_somewhere, own_no_mut, its_first}
use Rattle.law_entries_reads.proofs.places.Lending as lending

-- of a phase in which no object is taken the reference has its pointer's word
word_as_it_is : (p : Phase) (r : MutRef) → ((v : ℕ) → p ≡ phase.Taken v → ⊥) → lent_word p r ≡ r
word_as_it_is (phase.Taken v) r none = absurd (none v refl)
word_as_it_is _ r none = refl

-- the reference has its mark
same_mark : (r q : MutRef) → value.Mut r ≡ value.Mut q → q.dirty ≡ r.dirty
same_mark r q e = let z : r ≡ q = cc in ap (λ (x : MutRef). x.dirty) (sym z)

module _ (k : Cluster) (coherent : IsCoherent k) (few : FewEvents k) (s : Server) (here : server_at k.servers s.rest.number ≡ Some s) (t : ℕ) (y : ThreadState) (at : thread_in s.threads t ≡ Some y)
    (on : enabled k.options s (Step t) ≡ true) (w : Lval) (m : ℕ) (deep : w.depth ≡ suc m) (code : slice_get k.code y.pc ≡ Some (instr.BorrowMut w)) (free : (v : ℕ) → y.phase ≡ phase.Taken v → ⊥) (c0 : Coloured) (is_coloured : StandsColoured k c0) where
  abbrev n : ℕ
  n = s.rest.number

  abbrev i : Instr
  i = instr.BorrowMut w

  abbrev reads : Reads i w m
  reads = lends deep

  abbrev g : Ground
  g = (sight k).ground

  abbrev IsOk : Hand → Type 0
  IsOk = lending.IsOk k coherent few s here t y at on w m deep code c0 is_coloured

  abbrev Put : Hand → Cluster
  Put = lending.Put k coherent few s here t y at on w m deep code c0 is_coloured

  abbrev holder : Lval
  holder = lending.holder k coherent few s here t y at on w m deep code c0 is_coloured

  abbrev Source : Hand → Value → Type 0
  Source = lending.Source k coherent few s here t y at on w m deep code c0 is_coloured

  abbrev IsNone : Value → Type 0
  IsNone = lending.IsNone k coherent few s here t y at on w m deep code c0 is_coloured

  abbrev Lends : Hand → Spot → Type 0
  Lends = lending.Lends k coherent few s here t y at on w m deep code c0 is_coloured

  abbrev Middles : Stepped → Type 0
  Middles d = lending.Middle k coherent few s here t y at on w m deep code c0 is_coloured d.hand

  -- the hand's cluster has places
  placed : (h : Hand) → IsOk h → HasPlaces (Put h)
  placed = lending.placed k coherent few s here t y at on w m deep code c0 is_coloured

  -- nothing is taken
  none : TakesNoneHere k.code y
  none = sources.none k coherent s here t y at on i code w m reads deep free

  module _ (h : Hand) (sp : Spot) (q : Lends h sp) where
    -- the sums of the hand
    ok : IsOk h
    ok = q.walks.state.ok

    -- words are left so far
    left_so_far : LeavesWords k (Put h)
    left_so_far = lending.left_so_far k coherent few s here t y at on w m deep code c0 is_coloured h sp q

    -- where the place leads it led
    located_now : (l : Location) → locate g y.number w.slot m ≡ Some l → locate (sight (Put h)).ground h.thread.number w.slot m ≡ Some l
    located_now = lending.located_now k coherent few s here t y at on w m deep code c0 is_coloured h sp q

    -- nothing is taken still
    free_now : (v : ℕ) → h.thread.phase ≡ phase.Taken v → ⊥
    free_now v f = free v (sym (ap (λ (x : ThreadState). x.phase) q.still.thread) ∙ f)

    -- the reference is on top
    referred : (r : MutRef) → r.holder ≡ holder → (v : Value) → (src : Source h v) → Among (record { at = Some src.location; word = r.first; object = r.object }) (pointer_at src.location v) → is_first r (Some v) ≡ true → r.word ≡ r.first
        → ((x : MutRef) → v ≡ value.Mut x → x.dirty ≡ r.dirty) → (r.dirty ≡ true → (x : MutRef) × (v ≡ value.Mut x)) → IsOk (go_on (push_temp (value.Mut r) h)) → Gives Middles (committed (goes_on (Some (push_temp (value.Mut r) h))))
    referred r held v src pointer first unchanged mark marked after =
        let h3 : Hand = go_on (push_temp (value.Mut r) h) in
        let at_holder : locate (sight (Put h)).ground h.thread.number r.holder.slot r.holder.depth ≡ Some src.location = ap (λ (p : Lval). locate (sight (Put h)).ground h.thread.number p.slot p.depth) held ∙ located_now src.location src.located in
        let one : LentOne (Put h) (Put h3) h.thread.number (length h.thread.temps) src.location r =
        lent_on_top k coherent s here t y at h r ok after src.location v at_holder src.stands pointer first (λ x e. subst (λ ts. Among x ts) (same_takings k coherent s here t y at h r ok after (q.walks.untaken none)) e)
        (inl (record {
          took = λ x e. subst (λ ts. Among x ts) (sym (same_takings k coherent s here t y at h r ok after (q.walks.untaken none))) e;
          fresh = sources.fresh_source k coherent s here t y at on i code w m reads deep free h v q.walks src;
          unchanged = unchanged;
          mark = mark;
          marked = marked;
        })) in
        over_gives (HandAlike k.code n [] h3) Middles (settle h3) (done_step fresh.None) (settles k.code n h3)
        (λ h4 a. record {
          middle = h3;
          ok = after;
          words = leaves_chain left_so_far (lent_one_stays (Put h) (Put h3) h.thread.number (length h.thread.temps) src.location r (placed h ok) (placed h3 after) one (left_so_far.words coherent.sound.words.have_words).after);
          alike = a;
        })

    -- as the thread has taken no object
    referred_so : (r : MutRef) → r.holder ≡ holder → (v u : Value) → Some (value.Mut (lent_word h.thread.phase r)) ≡ Some u → (src : Source h v) → Among (record { at = Some src.location; word = r.first; object = r.object }) (pointer_at src.location v)
        → is_first r (Some v) ≡ true → r.word ≡ r.first → ((x : MutRef) → v ≡ value.Mut x → x.dirty ≡ r.dirty) → (r.dirty ≡ true → (x : MutRef) × (v ≡ value.Mut x)) → IsOk (go_on (push_temp u h)) → Gives Middles (committed (goes_on (Some (push_temp u h))))
    referred_so r held v u made src pointer first unchanged mark marked =
        let same : value.Mut r ≡ u = ap (λ x. value.Mut x) (sym (word_as_it_is h.thread.phase r free_now)) ∙ some_is made in
        subst (λ x. IsOk (go_on (push_temp x h)) → Gives Middles (committed (goes_on (Some (push_temp x h))))) same (referred r held v src pointer first unchanged mark marked)

    -- a reference to a slot, which words don't see
    to_slot : (j : ℕ) → Gives Middles (committed (goes_on (Some (push_temp (value.MutSlot j) h))))
    to_slot j =
        weaker (λ (d : Stepped). HandAlike k.code n [] h d.hand) Middles (committed (goes_on (Some (push_temp (value.MutSlot j) h)))) (goes_over k.code n h (Some (push_temp (value.MutSlot j) h)) (pushes k.code n h (value.MutSlot j) (mut_slot_unseen j) (q.walks.untaken none)))
        (λ d a. record { middle = h; ok = ok; words = left_so_far; alike = a })

    -- from each value
    pushed_from : (v u : Value) → Lendable v → Source h v ⊎ IsNone v → mutable_from h.thread.phase holder v ≡ Some u → IsOk (go_on (push_temp u h)) → Gives Middles (committed (goes_on (Some (push_temp u h))))
    pushed_from _ u (slot j) src made after = let same : value.MutSlot j ≡ u = cc in subst (λ x. Gives Middles (committed (goes_on (Some (push_temp x h))))) same (to_slot j)
    pushed_from _ u (box p) (inl src) made after =
        referred_so (record { word = p.word; first = p.word; object = p.object; dirty = false; holder = holder }) refl (value.Own (owned.Box p)) u made src (inl refl) (its_first p.word p.object) refl (λ x e. absurd (own_no_mut (owned.Box p) x e)) (λ e. absurd (cc e)) after
    pushed_from _ u (box p) (inr src) made after = absurd (points_somewhere p src.2)
    pushed_from _ u (reference r) (inl src) made after =
        referred_so (record { word = r.word; first = r.word; object = r.object; dirty = r.dirty; holder = holder }) refl (value.Mut r) u made src (inl refl) (its_first r.word r.object) refl (λ x e. same_mark r x e) (λ e. (r, refl)) after
    pushed_from _ u (reference r) (inr src) made after = absurd (own_no_mut src.0 r (sym src.1))

  -- from any value
  pub untaken_pushes : lending.Pushes k coherent few s here t y at on w m deep code c0 is_coloured
  untaken_pushes h sp q v u src made after = pushed_from h sp q v u (lendable h.thread.phase holder v u made) src made after
