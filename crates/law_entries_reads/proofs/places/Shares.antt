-- Shared borrows through stars that are done, of a pointer that shows all changes of its object.
use Rattle.std.proofs.Common.{◌≡◌, ℕ, suc, ◌+◌, nat_lt, Bool, true, false, if◌then◌else◌, [], ◌∷◌, ◌++◌, Option, Some, None, refl, sym, ap, subst, ◌∙◌}
use Rattle.std.specs.Prelude.{slice_get, option_map}
use Rattle.law_copies_kept.specs.Below.fr_base.declared.place.Lval.{Lval}
use Rattle.law_copies_kept.specs.Below.fr_base.declared.instruction.Instr.{Instr}
use Rattle.law_copies_kept.specs.Below.fr_base.declared.instruction.Instr.TheVariants as instr
use Rattle.law_copies_kept.specs.Below.global_addr.Words.{colour_of, next_word}
use Rattle.law_copies_kept.specs.Below.mut_borrow.Refs.{cleaned_answer}
use Rattle.law_copies_kept.specs.Below.mut_borrow.declared.mutable.MutRef.{MutRef}
use Rattle.law_copies_kept.specs.Below.mut_borrow.declared.mutable.Cleaned.TheVariants as cleaned
use Rattle.law_copies_kept.specs.Below.migration.Packing.{unpinned}
use Rattle.law_copies_kept.specs.Below.thread_state.View.{ThreadState}
use Rattle.law_copies_kept.specs.Below.thread_state.declared.phase.Phase.TheVariants as phase
use Rattle.law_copies_kept.specs.Below.thread_state.declared.value.Value.{Value}
use Rattle.law_copies_kept.specs.Below.thread_state.declared.value.Value.TheVariants as value
use Rattle.law_copies_kept.specs.Below.server_model.declared.event.Event.{Event}
use Rattle.law_copies_kept.specs.Below.server_model.declared.event.What.TheVariants.{Step}
use Rattle.law_copies_kept.specs.Below.server_model.Servers.{Server, Cluster, server_at}
use Rattle.law_copies_kept.specs.Below.server_model.Work.{Hand, thread_in, push_temp, then_some}
use Rattle.law_copies_kept.specs.Below.server_model.Places.{Spot, value_at, load_at}
use Rattle.law_copies_kept.specs.Below.server_model.Prepare.{Prepared, ready, nothing, cleaned_by, clean_value, read_pointer}
use Rattle.law_copies_kept.specs.Below.server_model.Commit.{goes_on, shared_from, borrow_from}
use Rattle.law_copies_kept.specs.Below.server_model.Events.{begin_work, Stepped, committed, prepared, step}
use Rattle.law_entries_variables.specs.Below.coloured_heap.Heap.{Coloured}
use Rattle.law_copies_kept.specs.Below.coherent_memory.Follow.{Ground, value_in}
use Rattle.law_copies_kept.specs.Below.coherent_memory.Sight.{sight}
use Rattle.law_copies_kept.specs.Below.coherent_memory.Words.{IsStale}
use Rattle.law_copies_kept.specs.Below.coherent_memory.Colours.{StandsColoured}
use Rattle.law_copies_kept.specs.Below.coherent_types.ClusterTypes.{IsCoherent}
use Rattle.law_copies_kept.specs.Below.law_counts_sums.Laws.{Gives, FewEvents}
use Rattle.law_copies_kept.proofs.Below.law_counts_sums.GiftsTaken.{gift_fits as gift_is_none}
use Rattle.law_copies_kept.specs.Below.law_words_kept.reads.Reading.{Reads, shares}
use Rattle.law_copies_kept.proofs.Below.law_words_paths.words.OneMore.{one_more_stays}
use Rattle.law_copies_kept.proofs.Below.law_words_kept.stays.Alike.{itself, chain, beside}
use Rattle.law_copies_kept.proofs.Below.law_words_kept.stays.Steps.{shared_slot_unseen, TakesNoneHere, untaken_here, pushes}
use Rattle.law_copies_kept.proofs.Below.law_words_kept.prepared.Untaken.{not_taken}
use Rattle.law_copies_kept.proofs.Below.law_words_kept.prepared.Rising.{rise_itself}
use Rattle.law_copies_kept.proofs.Below.law_words_borrows.Lasts.{fresh_last}
use Rattle.law_copies_kept.proofs.Below.law_words_borrows.OneShare.{shared_pointer, share_more}
use Rattle.law_copies_kept.proofs.Below.law_words_borrows.Pushed.{May, to_slot, to_object, may, coming, shared_on_top}
use Rattle.law_copies_kept.proofs.Below.law_words_borrows.Below.law_heap_steps.turns.Events.{AtStep}
use Rattle.law_copies_kept.proofs.Below.law_words_borrows.Below.law_heap_steps.turns.ReadWalk.{At, seen_value, value_loaded}
use Rattle.law_copies_kept.proofs.Below.law_words_borrows.Below.law_heap_steps.turns.StarLines.{x, goes, finds}
use Rattle.law_entries_variables.proofs.still.PlainSteps.{lives}
use Rattle.law_entries_reads.specs.places.Reads.{DoneLegal, BorrowsClean}
use Rattle.law_entries_reads.proofs.places.Still.{still_loads, Walked}
use Rattle.law_entries_reads.proofs.places.Done.{Kept, bare_holds_none}
use Rattle.law_entries_reads.proofs.places.Words.{walk_unseen, then_goes, still_untaken, over_load}
use Rattle.law_entries_reads.proofs.places.Steps.{sound_places, done_legal, at_step}
use Rattle.law_entries_reads.proofs.places.Following.{kept_as, Ends, ends_event, Goal, goal_by, ends_from, Follows, follows}

-- what is made from a pointer, whatever is pinned
shared_unpinned : (v : Value) → shared_from (unpinned v) ≡ shared_from v
shared_unpinned value.Gone = refl
shared_unpinned (value.Own o) = refl
shared_unpinned (value.SharedSlot i) = refl
shared_unpinned (value.MutSlot i) = refl
shared_unpinned (value.Shared r) = refl
shared_unpinned (value.Mut r) = refl
shared_unpinned (value.Held m) = refl

-- a mutable reference is no shared one
mut_unpinned : (u v : Value) (q : MutRef) → unpinned v ≡ unpinned u → v ≡ value.Mut q → u ≡ value.Mut q
mut_unpinned (value.Mut r) v q e f = sym e ∙ ap unpinned f
mut_unpinned (value.Own o) v q e f = let no : value.Mut q ≡ value.Own o = sym (ap unpinned f) ∙ e in absurd (cc no)
mut_unpinned value.Gone v q e f = let no : value.Mut q ≡ value.Gone = sym (ap unpinned f) ∙ e in absurd (cc no)
mut_unpinned (value.SharedSlot i) v q e f = let no : value.Mut q ≡ value.SharedSlot i = sym (ap unpinned f) ∙ e in absurd (cc no)
mut_unpinned (value.MutSlot i) v q e f = let no : value.Mut q ≡ value.MutSlot i = sym (ap unpinned f) ∙ e in absurd (cc no)
mut_unpinned (value.Shared r) v q e f = let no : value.Mut q ≡ value.Shared (record r { pinned = false }) = sym (ap unpinned f) ∙ e in absurd (cc no)
mut_unpinned (value.Held m) v q e f = let no : value.Mut q ≡ value.Held m = sym (ap unpinned f) ∙ e in absurd (cc no)

module _ (k : Cluster) (co : IsCoherent k) (e : Event) (w : Lval) (m : ℕ) (deep : w.depth ≡ suc m) (s : Server) (t : ℕ) (y : ThreadState) (a : AtStep k e (instr.Borrow w) s t y) (clean : BorrowsClean k y w m) (c0 : Coloured) (is_coloured : StandsColoured k c0) where
  abbrev i : Instr
  i = instr.Borrow w

  abbrev n : ℕ
  n = s.rest.number

  abbrev g : Ground
  g = (sight k).ground

  abbrev h0 : Hand
  h0 = record { work = begin_work s.rest; thread = y }

  abbrev End : Stepped → Type 0
  End = Ends k c0 s y

  abbrev reads : Reads i w m
  reads = shares deep

  -- no object was taken
  free : (v : ℕ) → y.phase ≡ phase.Taken v → ⊥
  free = not_taken k co.sound e.server s a.here t y a.at i a.code refl

  -- so nothing is
  none : TakesNoneHere k.code y
  none = untaken_here y.number y.phase (slice_get k.code y.pc) free

  -- and no gift is for it
  bare : y.gift ≡ None
  bare = (gift_is_none k co.sound e.server s a.here t y a.at i a.code).0

  -- WHAT STANDS AT THE SPOT

  module _ (h : Hand) (p : Spot) (v : Value) (there : value_at h p ≡ Some v) (q : Walked k.options c0 s y h p) (at : At (sight k).ground y s.rest w m (finds k co e i s t y a w m (shares deep)) m h p) where
    abbrev h1 : Hand
    h1 = load_at p h

    -- what stands there in the cluster
    it : (u : Value) × (value_in g at.location ≡ Some u) × (unpinned v ≡ unpinned u)
    it = seen_value (value_in g at.location) v (sym (ap (option_map unpinned) there) ∙ at.seen)

    -- it shows all changes
    not_dirty : (r : MutRef) → v ≡ value.Mut r → r.dirty ≡ false
    not_dirty r f = clean at.location r at.located (it.1 ∙ ap (λ u. Some u) (mut_unpinned it.0 v r it.2 f))

    -- it isn't stale
    fresh : IsStale (sight k) (Some at.location) → ⊥
    fresh = fresh_last k co (x k co e i s t y a) (goes k co e i s t y a) i w m reads deep a.code (λ l q. free q.word q.taken) at.location at.located

    -- no gift is in the hand
    gone : h.thread.gift ≡ None
    gone = ap (λ (z : ThreadState). z.gift) q.still.thread ∙ bare

    -- with a value on top
    kept : (u : Value) → Kept k.options c0 s y (push_temp u h1)
    kept u = subst (λ f. Kept k.options c0 s y (record h1 { thread = record h.thread { temps = h.thread.temps ++ u ∷ []; gift = f } })) (sym gone) (kept_as k c0 s y h1 (h.thread.temps ++ u ∷ []) (still_loads k.options c0 s y h p q))

    -- nothing is taken still
    untaken : TakesNoneHere k.code h.thread
    untaken = still_untaken k.code k.options c0 s y h q.still none

    -- with the reference on top
    goal : (u : Value) → May k u → Goal k c0 s y (push_temp u h1)
    goal _ (to_slot j) = goal_by k c0 s y (push_temp (value.SharedSlot j) h1) co.sound (kept (value.SharedSlot j)) (then_goes k.code k.options c0 s y h (push_temp (value.SharedSlot j) h1) q.still (over_load k.code n p h (push_temp (value.SharedSlot j) h1) (pushes k.code n h1 (value.SharedSlot j) (shared_slot_unseen j) untaken)))
    goal _ (to_object r beside_it is_clean) =
        let top = shared_on_top k.code n r h1 in
        let walked = walk_unseen k.code k.options c0 s y h q.still in record {
          kept = kept (value.Shared r);
          fades = record {
            more = coming top.location r;
            alike = record {
              number = top.alike.number ∙ walked.number;
              named = top.alike.named ∙ walked.named;
              thread = chain (beside (itself (coming top.location r)) walked.thread) top.alike.thread;
              rest = chain walked.rest top.alike.rest;
            };
            leaves = λ c places code alike.
                one_more_stays k c (shared_pointer r) (sound_places k co.sound) places (share_more k c (sound_places k co.sound) places code top.location (record r { pinned = false }) alike beside_it is_clean);
          };
          untaken = untaken;
        }

    -- the reference is made
    made : (u : Value) → shared_from v ≡ Some u → Goal k c0 s y (push_temp u h1)
    made u f =
        goal u (may k (sound_places k co.sound) (rise_itself k co.sound) at.location fresh it.0 u it.1 (λ r z d. let no : false ≡ true = sym (clean at.location r at.located (it.1 ∙ ap (λ b. Some b) z)) ∙ d in cc no)
        (sym (shared_unpinned it.0) ∙ ap shared_from (sym it.2) ∙ shared_unpinned v ∙ f))

    -- nothing is cleaned
    cleaned_same : (servers : ℕ) → Gives End (prepared servers i (ready h1 p)) → (u : Value) → v ≡ u → Gives End (prepared servers i (clean_value p (Some u) h1))
    cleaned_same servers go (value.Mut r) f = by (nat_lt (colour_of r.word) h1.work.rest.partition.limit)
      where
        same : Gives End (prepared servers i (cleaned_by (cleaned_answer h1.work.rest.partition.limit r) p r h1))
        same =
            subst (λ b. Gives End (prepared servers i (cleaned_by (if b then (if nat_lt (colour_of r.word + 1) h1.work.rest.partition.limit then cleaned.Tinted (next_word r.word) else cleaned.MustRenew) else cleaned.Same) p r h1))) (sym (not_dirty r f)) go

        by : (b : Bool) → Gives End (prepared servers i (if b then cleaned_by (cleaned_answer h1.work.rest.partition.limit r) p r h1 else nothing))
        by true = same
        by false = tt
    cleaned_same servers go _ f = go

    -- the borrow
    borrowed : Gives End (committed (goes_on (borrow_from w (suc m) p h1)))
    borrowed = subst (λ z. Gives End (committed (goes_on (then_some z (λ u. option_map (λ r. push_temp r h1) (shared_from u)))))) (sym (value_loaded p h ∙ there)) (by (shared_from v) refl)
      where
        by : (z : Option Value) → shared_from v ≡ z → Gives End (committed (goes_on (option_map (λ r. push_temp r h1) z)))
        by None f = tt
        by (Some u) f = ends_from k c0 s y (Some (push_temp u h1)) (made u f)

    -- the last pointer
    pub last_star : (servers : ℕ) → Gives End (prepared servers i (clean_value p (Some v) h1))
    last_star servers = cleaned_same servers (subst (λ d. Gives End (committed (goes_on (borrow_from w d p h1)))) (sym deep) borrowed) v refl

  -- where nothing stands
  none_there : (servers : ℕ) (h : Hand) (p : Spot) → value_at h p ≡ None → Gives End (prepared servers i (clean_value p None (load_at p h)))
  none_there servers h p f =
      subst (λ d. Gives End (committed (goes_on (borrow_from w d p (load_at p h))))) (sym deep)
      (subst (λ z. Gives End (committed (goes_on (then_some z (λ u. option_map (λ r. push_temp r (load_at p h)) (shared_from u)))))) (sym (value_loaded p h ∙ f)) tt)

  abbrev next : Hand → Spot → Prepared
  next h p = clean_value p (value_at h p) (load_at p h)

  -- from the spot on
  ended : (servers : ℕ) (h : Hand) (p : Spot) → Follows k co e i s t y a c0 is_coloured w m reads h p → Gives End (prepared servers i (next h p))
  ended servers h p f = by (value_at h p) refl
    where
      by : (z : Option Value) → value_at h p ≡ z → Gives End (prepared servers i (clean_value p z (load_at p h)))
      by None q = none_there servers h p q
      by (Some v) q = last_star h p v q (f v q).0 (f v q).1 servers

  -- the step
  pub share_ends : Gives End (step k.options.servers i h0)
  share_ends = subst (λ d. Gives End (prepared k.options.servers i (read_pointer w d h0))) (sym deep) (follows k co e i s t y a c0 is_coloured w m reads k.options.servers next (ended k.options.servers))

-- each shared borrow from such a pointer
pub share_legal : (k : Cluster) (number t : ℕ) (s : Server) (y : ThreadState) (w : Lval) (m : ℕ) → w.depth ≡ suc m → IsCoherent k → FewEvents k → server_at k.servers number ≡ Some s → thread_in s.threads t ≡ Some y → slice_get k.code y.pc ≡ Some (instr.Borrow w)
    → BorrowsClean k y w m → DoneLegal k (record { server = number; what = Step t })
share_legal k number t s y w m deep co few here at code clean c0 is_coloured =
    done_legal k co.sound few number t s y (instr.Borrow w) here at code c0 is_coloured
    (λ on. ends_event k co.sound few number t s y (instr.Borrow w) here at code c0 is_coloured (step k.options.servers (instr.Borrow w) (record { work = begin_work s.rest; thread = y }))
    (share_ends k co (record { server = number; what = Step t }) w m deep s t y (at_step k co.sound few number t s y (instr.Borrow w) here at code c0 is_coloured on) clean c0 is_coloured))
    (λ on. bare_holds_none k co.sound number s here c0 is_coloured t y at (lives y.phase on) y (gift_is_none k co.sound number s here t y at (instr.Borrow w) code).0)
