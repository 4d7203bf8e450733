-- Copies through stars that are done.
use Rattle.std.proofs.Common.{◌≡◌, ℕ, zero, suc, false, [], ◌∷◌, ◌++◌, Some, None, refl, sym, ap, subst, ◌∙◌}
use Rattle.std.specs.Prelude.{slice_get}
use Rattle.law_copies_kept.specs.Below.fr_base.declared.place.Lval.{Lval}
use Rattle.law_copies_kept.specs.Below.fr_base.declared.instruction.Instr.{Instr}
use Rattle.law_copies_kept.specs.Below.fr_base.declared.instruction.Instr.TheVariants as instr
use Rattle.law_copies_kept.specs.Below.thread_state.View.{ThreadState}
use Rattle.law_copies_kept.specs.Below.thread_state.declared.value.Value.{Value}
use Rattle.law_copies_kept.specs.Below.server_model.declared.event.Event.{Event}
use Rattle.law_copies_kept.specs.Below.server_model.declared.event.What.TheVariants.{Step}
use Rattle.law_copies_kept.specs.Below.server_model.Servers.{Server, Cluster, server_at}
use Rattle.law_copies_kept.specs.Below.server_model.Work.{Hand, thread_in, push_temp}
use Rattle.law_copies_kept.specs.Below.server_model.Places.{Spot, in_slot, on_top, value_at, load_at, second_of}
use Rattle.law_copies_kept.specs.Below.server_model.Prepare.{ReadTo, read_or_taken, ready, prepare, read_stars}
use Rattle.law_copies_kept.specs.Below.server_model.Commit.{read, read_as}
use Rattle.law_copies_kept.specs.Below.server_model.Events.{begin_work, Stepped, prepared, step}
use Rattle.law_entries_variables.specs.Below.coloured_heap.Heap.{Coloured}
use Rattle.law_copies_kept.specs.Below.coherent_memory.Colours.{StandsColoured}
use Rattle.law_copies_kept.specs.Below.coherent_types.ClusterTypes.{IsCoherent}
use Rattle.law_copies_kept.specs.Below.law_counts_sums.Laws.{Gives, FewEvents}
use Rattle.law_copies_kept.proofs.Below.law_counts_sums.GiftsTaken.{gift_fits as gift_is_none}
use Rattle.law_copies_kept.proofs.Below.law_counts_sums.Results.{then_gives, map_gives}
use Rattle.law_copies_kept.specs.Below.law_words_kept.reads.Reading.{copies}
use Rattle.law_copies_kept.proofs.Below.law_words_kept.stays.Steps.{TakesNoneHere, untaken_here}
use Rattle.law_copies_kept.proofs.Below.law_words_kept.prepared.Untaken.{not_taken}
use Rattle.law_copies_kept.proofs.Below.law_words_borrows.Below.law_heap_steps.turns.Events.{AtStep}
use Rattle.law_entries_variables.proofs.still.PlainSteps.{lives}
use Rattle.law_entries_reads.specs.places.Reads.{DoneLegal}
use Rattle.law_entries_reads.proofs.places.Hops.{and_then_ready}
use Rattle.law_entries_reads.proofs.places.Still.{Still, still_loads, Walked}
use Rattle.law_entries_reads.proofs.places.Done.{Kept, bare_holds_none}
use Rattle.law_entries_reads.proofs.places.Words.{then_goes, still_untaken, second_pushed}
use Rattle.law_entries_reads.proofs.places.Steps.{done_legal, at_step}
use Rattle.law_entries_reads.proofs.places.Following.{kept_as, Ends, ends_event, Goal, goal_by, ends_from, Follows, follows}

-- a copy reads its place
to_read : (w : Lval) (d : ℕ) → read_or_taken w d false ≡ ReadTo w
to_read w zero = refl
to_read w (suc d) = refl

module _ (k : Cluster) (co : IsCoherent k) (e : Event) (w : Lval) (s : Server) (t : ℕ) (y : ThreadState) (a : AtStep k e (instr.Read w false) s t y) (c0 : Coloured) (is_coloured : StandsColoured k c0) where
  abbrev i : Instr
  i = instr.Read w false

  abbrev h0 : Hand
  h0 = record { work = begin_work s.rest; thread = y }

  abbrev End : Stepped → Type 0
  End = Ends k c0 s y

  abbrev IsGoal : Hand → Type 0
  IsGoal = Goal k c0 s y

  -- nothing is taken
  none : TakesNoneHere k.code y
  none = untaken_here y.number y.phase (slice_get k.code y.pc) (not_taken k co.sound e.server s a.here t y a.at i a.code refl)

  -- and no gift is for it
  bare : y.gift ≡ None
  bare = (gift_is_none k co.sound e.server s a.here t y a.at i a.code).0

  -- nor is one in the hand
  gone : (h : Hand) → Still k.options c0 s y h → h.thread.gift ≡ None
  gone h q = ap (λ (z : ThreadState). z.gift) q.thread ∙ bare

  -- the second value is on top
  pushed : (h : Hand) (p : Spot) (v u : Value) → Walked k.options c0 s y h p → (p ≡ on_top → ⊥) → value_at h p ≡ Some v → second_of v ≡ Some u → IsGoal (push_temp u (load_at p h))
  pushed h p v u q off there two =
      goal_by k c0 s y (push_temp u (load_at p h)) co.sound
      (subst (λ f. Kept k.options c0 s y (record (load_at p h) { thread = record h.thread { temps = h.thread.temps ++ u ∷ []; gift = f } })) (sym (gone h q.still)) (kept_as k c0 s y (load_at p h) (h.thread.temps ++ u ∷ []) (still_loads k.options c0 s y h p q)))
      (then_goes k.code k.options c0 s y h (push_temp u (load_at p h)) q.still (second_pushed k.code s.rest.number h (still_untaken k.code k.options c0 s y h q.still none) p v u off there two))

  -- from the spot on
  ended : (servers : ℕ) (h : Hand) (p : Spot) → Follows k co e i s t y a c0 is_coloured w w.depth (copies refl) h p → Gives End (prepared servers i (ready h p))
  ended servers h p f =
      ends_from k c0 s y (read false p h)
      (then_gives IsGoal (value_at h p) (λ v. read_as false p v (load_at p h)) (λ v q.
      map_gives IsGoal (second_of v) (λ u. push_temp u (load_at p h)) (λ u two. pushed h p v u (f v q).0 (f v q).1.off_top q two)))

  -- the step
  pub copy_ends : Gives End (step k.options.servers i h0)
  copy_ends =
      subst (λ z. Gives End (prepared k.options.servers i (prepare (Some z) h0))) (sym (to_read w w.depth)) (subst (λ x. Gives End (prepared k.options.servers i x)) (and_then_ready (read_stars w.depth h0 (in_slot w.slot))) (follows k co e i s t y a c0 is_coloured w w.depth (copies refl) k.options.servers ready (ended k.options.servers)))

-- each copy
pub copy_legal : (k : Cluster) (number t : ℕ) (s : Server) (y : ThreadState) (w : Lval) → IsCoherent k → FewEvents k → server_at k.servers number ≡ Some s → thread_in s.threads t ≡ Some y → slice_get k.code y.pc ≡ Some (instr.Read w false) → DoneLegal k (record { server = number; what = Step t })
copy_legal k number t s y w co few here at code c0 is_coloured =
    done_legal k co.sound few number t s y (instr.Read w false) here at code c0 is_coloured
    (λ on. ends_event k co.sound few number t s y (instr.Read w false) here at code c0 is_coloured (step k.options.servers (instr.Read w false) (record { work = begin_work s.rest; thread = y }))
    (copy_ends k co (record { server = number; what = Step t }) w s t y (at_step k co.sound few number t s y (instr.Read w false) here at code c0 is_coloured on) c0 is_coloured))
    (λ on. bare_holds_none k co.sound number s here c0 is_coloured t y at (lives y.phase on) y (gift_is_none k co.sound number s here t y at (instr.Read w false) code).0)
