-- A thread that borrows from a pointer, shared or mutable: what it reads on the way, and that the pointer stands where its place leads; where it hasn't taken the object, it isn't stale.
use Rattle.std.proofs.Common.{◌≡◌, ◌⊎◌, inl, inr, ℕ, suc, ◌+◌, true, false, Option, Some, None, option_map, refl, sym, ap, subst, ◌∙◌, arith}
use Rattle.std.specs.Prelude.{slice_get}
use Rattle.law_heap_steps.specs.Below.fr_base.declared.place.Lval.{Lval}
use Rattle.law_heap_steps.specs.Below.fr_base.declared.instruction.Instr.{Instr}
use Rattle.law_heap_steps.specs.Below.heap_partition.declared.value.BoxPtr.{BoxPtr}
use Rattle.law_heap_steps.specs.Below.heap_partition.declared.value.Cell.{Cell}
use Rattle.law_heap_steps.specs.Below.heap_partition.declared.value.Owned.{Owned}
use Rattle.law_heap_steps.specs.Below.heap_partition.declared.value.Owned.TheVariants as owned
use Rattle.law_heap_steps.specs.Below.migration.Packing.{unpinned}
use Rattle.law_heap_steps.specs.Below.thread_state.View.{ThreadState}
use Rattle.law_heap_steps.specs.Below.thread_state.declared.phase.Phase.TheVariants as phase
use Rattle.law_heap_steps.specs.Below.thread_state.declared.value.Value.{Value}
use Rattle.law_heap_steps.specs.Below.thread_state.declared.value.Value.TheVariants as value
use Rattle.law_heap_steps.specs.Below.server_model.declared.event.Event.{Event}
use Rattle.law_heap_steps.specs.Below.server_model.declared.event.What.TheVariants.{Step}
use Rattle.law_heap_steps.specs.Below.server_model.Servers.{Server, Cluster, server_at}
use Rattle.law_heap_steps.specs.Below.server_model.Work.{Hand, thread_in}
use Rattle.law_heap_steps.specs.Below.server_model.Places.{Spot, in_slot, in_cell, in_copy, cell_at, value_at, value_in as cell_value, pointer_of}
use Rattle.law_heap_steps.specs.Below.server_model.Prepare.{Prepared, read_stars}
use Rattle.law_heap_steps.specs.Below.server_model.Events.{can_step, has_phase, enabled, begin_work}
use Rattle.law_heap_steps.specs.Below.coherent_memory.Things.{Location, at_slot}
use Rattle.law_heap_steps.specs.Below.coherent_memory.Follow.{Ground, Standing, value_in, locate}
use Rattle.law_heap_steps.specs.Below.coherent_memory.Sight.{sight}
use Rattle.law_heap_steps.specs.Below.coherent_memory.Words.{IsStale}
use Rattle.law_words_values.specs.Below.coherent_types.ClusterTypes.{IsCoherent}
use Rattle.law_words_values.specs.Below.law_words_paths.paths.HeapStore.{GoesOn}
use Rattle.law_words_values.proofs.Below.law_words_paths.paths.Alike.{coherent_has_paths}
use Rattle.law_words_values.proofs.Below.law_words_paths.paths.Contained.{among_thread}
use Rattle.law_words_values.proofs.Below.law_words_paths.paths.FreshPaths.{HasTaken}
use Rattle.law_words_values.proofs.Below.law_words_paths.paths.Sole.{some_is}
use Rattle.law_words_kept.specs.Below.law_words_paths.words.Reworded.{HasPlaces}
use Rattle.law_words_kept.proofs.Below.law_words_paths.words.Tints.{slot_stands}
use Rattle.law_heap_steps.proofs.Below.law_counts_sums.Bags.{thread_number}
use Rattle.law_heap_steps.proofs.Below.law_counts_sums.ThreadThere.{thread_there}
use Rattle.law_heap_steps.specs.Below.law_words_kept.reads.Reading.{Reads, LiesUnder}
use Rattle.law_words_values.proofs.Below.law_words_kept.stays.Steps.{TakesNoneHere, untaken_here}
use Rattle.law_heap_steps.proofs.turns.Events.{AtStep}
use Rattle.law_heap_steps.proofs.turns.ReadWalk.{Finds, At, Comes, reads as walk, seen_value}
use Rattle.law_heap_steps.proofs.turns.StarLines.{finds}
use Rattle.law_words_values.proofs.Below.law_words_kept.prepared.Hands.{Ok, Walks, put, places, stands, first_hand, calm_goes, calm_waits}
use Rattle.law_words_values.proofs.Below.law_words_kept.prepared.Stars.{ReadsOk, Spotted, a_slot, a_cell, a_copy, stars_ok}
use Rattle.law_words_borrows.proofs.Lasts.{fresh_last, under_last}

-- what owns has no pins
own_unpinned : (u : Value) (o : Owned) → unpinned u ≡ value.Own o → u ≡ value.Own o
own_unpinned (value.Own p) o e = e
own_unpinned value.Gone o e = absurd cc
own_unpinned (value.SharedSlot i) o e = absurd cc
own_unpinned (value.MutSlot i) o e = absurd cc
own_unpinned (value.Shared r) o e = absurd cc
own_unpinned (value.Mut r) o e = absurd cc
own_unpinned (value.Held m) o e = absurd cc

-- nothing is no value
pub no_value : {A : Type 0} (a : A) → None ≡ Some a → ⊥
no_value a e = absurd cc

module _ (k : Cluster) (coherent : IsCoherent k) (s : Server) (here : server_at k.servers s.rest.number ≡ Some s) (t : ℕ) (y : ThreadState) (at : thread_in s.threads t ≡ Some y)
    (on : enabled k.options s (Step t) ≡ true) (i : Instr) (code : slice_get k.code y.pc ≡ Some i) (w : Lval) (m : ℕ) (reads : Reads i w m) (deep : w.depth ≡ suc m) where
  abbrev n : ℕ
  n = s.rest.number

  abbrev g : Ground
  g = (sight k).ground

  abbrev W : Hand → Type 0
  W = Walks k coherent s here t y at

  abbrev IsOk : Hand → Type 0
  IsOk = Ok k coherent s here t y at

  abbrev Put : Hand → Cluster
  Put = put k coherent s here t y at

  abbrev pub h0 : Hand
  h0 = record { work = begin_work s.rest; thread = y }

  abbrev x : Standing
  x = record { server = n; packed = false; thread = y }

  abbrev e0 : Event
  e0 = record { server = n; what = Step t }

  -- the hand's cluster has places
  pub placed : (h : Hand) → IsOk h → HasPlaces (Put h)
  placed h q = places k coherent s here t y at h q

  -- the thread may step
  calm : can_step y.phase ≡ true
  calm = subst (λ o. has_phase can_step o ≡ true) at on

  -- and waits for no cell
  pub awake : (u : ℕ) → y.phase ≡ phase.WaitCell u → ⊥
  awake u = calm_waits y.phase u calm

  -- it has its number
  named : y.number ≡ t
  named = thread_number s.threads t y at

  -- it goes on
  pub going : GoesOn k x
  going = record { among = (among_thread g.threads t x (thread_there k coherent.sound n s here t y at)).0; going = calm_goes y.phase calm }

  -- it stands at that instruction
  pub stepping : AtStep k e0 i s t y
  stepping = record { here = here; at = at; number = named; on = calm; code = code; what = refl }

  -- what it finds on the way
  pub found : Finds g y s.rest w m
  found = finds k coherent e0 i s t y stepping w m reads

  -- so many stars lead the hand to the spot
  abbrev pub AtSpot : Hand → Spot → Type 0
  AtSpot h sp = At g y s.rest w m found m h sp

  abbrev pub Came : Prepared → Type 0
  Came = Comes g y s.rest w m found m

  abbrev pub Followed : Prepared → Type 0
  Followed = ReadsOk k coherent s here t y at on i code w m reads m

  abbrev pub AllStars : Prepared
  AllStars = read_stars m h0 (in_slot w.slot)

  -- the spot shows what stands where the place leads
  pub came : Came AllStars
  came = walk g y s.rest w m found m (omega arith)

  -- and the words hold there
  pub followed : Followed AllStars
  followed = stars_ok k coherent s here t y at on i code w m reads m 0 h0 (in_slot w.slot) (omega arith) (record { state = first_hand k coherent s here t y at; untaken = λ e. e; gift = refl }) (a_slot w.slot refl)

  -- what stands in the slot to which they lead
  module _ (j : ℕ) (located : locate g y.number w.slot m ≡ Some (at_slot y.number j)) where
    -- the slot is where the place leads
    pub at_hand : (h : Hand) → IsOk h → locate g y.number w.slot m ≡ Some (at_slot h.thread.number j)
    at_hand h q = located ∙ ap (λ u. Some (at_slot u j)) (named ∙ sym q.thread)

    -- its value stands there
    pub it_stands : (h : Hand) (q : IsOk h) (v : Value) → slice_get h.thread.slots j ≡ Some v → value_in (sight (Put h)).ground (at_slot h.thread.number j) ≡ Some v
    it_stands h q v e = slot_stands k n s.threads (s.events + 1) h j v (stands k coherent s here t y at h q) (placed h q) e

  -- THE POINTER

  -- where it stands in the middle of the event
  pub record Source (h : Hand) (v : Value) : Type 0 where
    pub location : Location
    pub located : locate g y.number w.slot m ≡ Some location
    pub stands : value_in (sight (Put h)).ground location ≡ Some v

  abbrev pub IsNone : Value → Type 0
  IsNone v = (o : Owned) × (v ≡ value.Own o) × (pointer_of v ≡ None)

  -- a box in a cell or slot of the cluster stands in the middle of the event too
  in_memory : (h : Hand) → W h → (l : Location) → locate g y.number w.slot m ≡ Some l → (o : Owned) → value_in g l ≡ Some (value.Own o) → Source h (value.Own o) ⊎ IsNone (value.Own o)
  in_memory h c l there (owned.Box p) e = inl (record { location = l; located = there; stands = c.state.along.boxes l p e })
  in_memory h c l there owned.Nothing e = inr (owned.Nothing, refl, refl)
  in_memory h c l there owned.Unit e = inr (owned.Unit, refl, refl)
  in_memory h c l there (owned.Int z) e = inr (owned.Int z, refl, refl)
  in_memory h c l there (owned.Mutex z) e = inr (owned.Mutex z, refl, refl)
  in_memory h c l there (owned.Task z) e = inr (owned.Task z, refl, refl)

  -- so it is where the spot shows a cell
  in_cells : (h : Hand) (sp : Spot) (v : Value) → W h → ((u : Value) → value_at h sp ≡ Some u → AtSpot h sp) → value_at h sp ≡ Some v → (o : Option Cell) → value_at h sp ≡ cell_value o → Source h v ⊎ IsNone v
  in_cells h sp v c a e None f = absurd (no_value v (sym f ∙ e))
  in_cells h sp v c a e (Some d) f =
      let q = a v e in
      let it = seen_value (value_in g q.location) (value.Own d.value) (sym (ap (option_map unpinned) f) ∙ q.seen) in
      subst (λ u. Source h u ⊎ IsNone u) (some_is (sym f ∙ e)) (in_memory h c q.location q.located d.value (it.1 ∙ ap (λ u. Some u) (own_unpinned it.0 d.value (sym it.2))))

  -- at the spot stands the pointer, or what points nowhere
  pub sourced : (h : Hand) (sp : Spot) → W h → Spotted g y.number w.slot m sp → ((u : Value) → value_at h sp ≡ Some u → AtSpot h sp) → (v : Value) → value_at h sp ≡ Some v → Source h v ⊎ IsNone v
  sourced h _ c (a_slot j located) a v e =
      let q = c.state.ok in
      let l = at_hand j located h q in
      inl (record { location = at_slot h.thread.number j; located = l; stands = it_stands j located h q v e })
  sourced h _ c (a_cell u through) a v e = in_cells h (in_cell u through) v c a e (cell_at h (in_cell u through)) refl
  sourced h _ c (a_copy u) a v e = in_cells h (in_copy u) v c a e (cell_at h (in_copy u)) refl

  -- WHERE NOTHING WAS TAKEN

  module _ (free : (v : ℕ) → y.phase ≡ phase.Taken v → ⊥) where
    -- nothing is taken
    pub none : TakesNoneHere k.code y
    none = untaken_here y.number y.phase (slice_get k.code y.pc) free

    -- nor was it from that location
    none_taken : (l : Location) → HasTaken k (coherent_has_paths k coherent) x l → ⊥
    none_taken l q = free q.word q.taken

    -- so the pointer isn't stale at the start
    pub fresh_there : (l : Location) → locate g y.number w.slot m ≡ Some l → IsStale (sight k) (Some l) → ⊥
    fresh_there l there = fresh_last k coherent x going i w m reads deep code none_taken l there

    -- nor in the middle of the event
    pub fresh_source : (h : Hand) (v : Value) → W h → (q : Source h v) → IsStale (sight (Put h)) (Some q.location) → ⊥
    fresh_source h v c q a = fresh_there q.location q.located (c.state.along.fresher q.location a)

    -- and its object lies
    pub under_there : (l : Location) (v : Value) (b : BoxPtr) → locate g y.number w.slot m ≡ Some l → value_in g l ≡ Some v → pointer_of v ≡ Some b → LiesUnder k b
    under_there l v b there stood points = under_last k coherent x going i w m reads deep code none_taken awake l v b there stood points
