-- Copies are right after each discard, drop of a slot, assignment and move: by what stands there.
use Rattle.std.proofs.Common.{◌≡◌, ℕ, zero, suc, ◌-◌, true, List, length, Option, Some, None, option_map, refl, sym, subst}
use Rattle.std.specs.Prelude.{slice_get}
use Rattle.coherent_memory.specs.Below.fr_base.declared.place.Lval.{Lval}
use Rattle.coherent_memory.specs.Below.fr_base.declared.instruction.Operand.{Operand}
use Rattle.coherent_memory.specs.Below.fr_base.declared.instruction.Operand.TheVariants as operand
use Rattle.coherent_memory.specs.Below.fr_base.declared.instruction.Instr.{Instr}
use Rattle.coherent_memory.specs.Below.fr_base.declared.instruction.Instr.TheVariants as instr
use Rattle.coherent_memory.specs.Below.thread_state.View.{ThreadState}
use Rattle.coherent_memory.specs.Below.thread_state.declared.value.Value.{Value}
use Rattle.coherent_memory.specs.Below.thread_state.declared.value.Value.TheVariants as value
use Rattle.coherent_memory.specs.Below.server_model.declared.event.What.TheVariants.{Step}
use Rattle.coherent_memory.specs.Below.server_model.Servers.{Server, Cluster, server_at}
use Rattle.coherent_memory.specs.Below.server_model.Work.{Hand, Popped, last_of, front_of, with_slots, with_temps, thread_in, then_some, pop}
use Rattle.coherent_memory.specs.Below.server_model.Places.{in_slot, on_top, nowhere as no_spot, put_slot, load_at}
use Rattle.coherent_memory.specs.Below.server_model.Prepare.{ending, assigned, read_or_taken, prepare, read_stars}
use Rattle.coherent_memory.specs.Below.server_model.Drop.{drop_value}
use Rattle.coherent_memory.specs.Below.server_model.Commit.{goes_on, label_dropped, assign, replace_slot, read_as}
use Rattle.coherent_memory.specs.Below.server_model.Events.{enabled, begin_work, Stepped, committed, prepared, step}
use Rattle.law_counts_things.specs.Below.coherent_types.ClusterTypes.{IsCoherent}
use Rattle.law_counts_things.specs.Below.law_words_paths.paths.Pointing.{assigns as assigns_to}
use Rattle.law_words_kept.specs.ends.Dropped.{written, dropped}
use Rattle.law_words_kept.proofs.ends.Given.{given_up_may_be}
use Rattle.law_counts_sums.specs.Laws.{Gives, FewEvents}
use Rattle.law_counts_sums.proofs.Results.{weaker}
use Rattle.law_counts_waiting.proofs.Below.law_words_kept.prepared.Asking.{found_number}
use Rattle.law_walks_own.specs.Below.law_words_values.references.Gone.{to_slot, to_slot_mutably, shared_to, moves as moves_any, drops as drops_light, discards as discards_light, assigns as assigns_light}
use Rattle.law_copies_writes.specs.Below.law_words_ends.variables.Ends.{drops, discards, assigns}
use Rattle.law_copies_writes.proofs.Below.law_words_ends.variables.EndHands.{newest_there}
use Rattle.law_copies_writes.proofs.Below.law_words_ends.variables.EndEvents.{me, going, paths}
use Rattle.law_counts_sums.proofs.Results.{weaker}
use Rattle.law_words_issued.specs.Below.law_words_values.carried.Steps.{owns, gone}
use Rattle.law_counts_waiting.proofs.Below.law_words_kept.prepared.Asking.{found_number}
use Rattle.law_words_issued.specs.Below.law_copies_kept.copies.Copies.{drops as drops_let, drops_none as none_let}
use Rattle.law_words_issued.proofs.Below.law_copies_kept.copies.KeptCopies.{discarded_copies, dropped_copies, assigned_copies}
use Rattle.law_walks_own.proofs.Below.law_copies_kept.references.ReferenceCopies.{references_keep}
use Rattle.law_walks_own.specs.Below.law_copies_kept.objects.Fresh.{LeavesRight}
use Rattle.law_copies_writes.proofs.Below.law_copies_kept.hidden.Handed.{Left as Left_at, Sends, settled_by}
use Rattle.law_copies_writes.proofs.writes.Written.{assignments_keep, moves_keep}
use Rattle.law_copies_writes.proofs.ends.Ends.{ends_keep}

module _ (k : Cluster) (number t : ℕ) (s : Server) (y : ThreadState) (coherent : IsCoherent k) (few : FewEvents k) (here_it : server_at k.servers number ≡ Some s) (at : thread_in s.threads t ≡ Some y) where
  abbrev Goal : Type 0
  Goal = LeavesRight k (record { server = number; what = Step t })

  abbrev start : Hand
  start = record { work = begin_work s.rest; thread = y }

  -- what can't be done, or can't be by its types
  refused : (i : Instr) → slice_get k.code y.pc ≡ Some i → ((server : server_at k.servers s.rest.number ≡ Some s) (on : enabled k.options s (Step t) ≡ true) → Gives (λ (d : Stepped). ⊥) (step k.options.servers i (record { work = begin_work s.rest; thread = y }))) → Goal
  refused i code none =
      subst (λ m. server_at k.servers m ≡ Some s → LeavesRight k (record { server = m; what = Step t })) (found_number number k.servers s here_it)
      (λ h. settled_by k coherent.sound few s h t y at i code
      (λ on. weaker (λ (d : Stepped). ⊥) (Left_at k coherent.sound few s h t y at i code) (step k.options.servers i (record { work = begin_work s.rest; thread = y })) (none h on) (λ d f. absurd f))
      (λ on mail. weaker (λ (d : Stepped). ⊥) (Sends k coherent.sound few s h t y at i code) (step k.options.servers i (record { work = begin_work s.rest; thread = y })) (none h on) (λ d f. absurd f))) here_it

  -- where nothing comes of a step
  abbrev None_of : Option Stepped → Type 0
  None_of o = Gives (λ (d : Stepped). ⊥) o

  -- A DISCARD

  pub discards_by : slice_get k.code y.pc ≡ Some instr.Discard → Goal
  discards_by code = by (last_of y.temps) refl
    where
      by : (o : Option Value) → last_of y.temps ≡ o → Goal
      by (Some (value.Mut r)) e = ends_keep k number t s y instr.Discard r (discards e) coherent few here_it at code
      by (Some (value.Shared r)) e = references_keep k number t s y instr.Discard coherent few here_it at code (discards_light (value.Shared r) e (shared_to r))
      by (Some (value.Own u)) e = discarded_copies k number t s y (value.Own u) coherent.sound few here_it at code e tt
      by (Some value.Gone) e = discarded_copies k number t s y value.Gone coherent.sound few here_it at code e tt
      by (Some (value.SharedSlot j)) e = discarded_copies k number t s y (value.SharedSlot j) coherent.sound few here_it at code e tt
      by (Some (value.MutSlot j)) e = discarded_copies k number t s y (value.MutSlot j) coherent.sound few here_it at code e tt
      by (Some (value.Held m)) e = discarded_copies k number t s y (value.Held m) coherent.sound few here_it at code e tt
      by None e =
          refused instr.Discard code
          (λ h on.
          subst (λ o. None_of (prepared k.options.servers instr.Discard (prepare (ending on_top o) start))) (sym e)
          (subst (λ o. None_of (committed (goes_on (then_some {X = Popped Value} (option_map (λ w. record { item = w; hand = with_temps (front_of y.temps) start }) o) (λ z. drop_value no_spot z.item (label_dropped z.item z.hand)))))) (sym e) tt))

  -- THE DROP OF A SLOT

  pub drops_by : slice_get k.code y.pc ≡ Some instr.DropSlot → Goal
  drops_by code = by (last_of y.slots) refl
    where
      by : (o : Option Value) → last_of y.slots ≡ o → Goal
      by (Some (value.Mut r)) e = ends_keep k number t s y instr.DropSlot r (drops e) coherent few here_it at code
      by (Some (value.Shared r)) e = references_keep k number t s y instr.DropSlot coherent few here_it at code (drops_light (value.Shared r) e (shared_to r))
      by (Some (value.SharedSlot j)) e = references_keep k number t s y instr.DropSlot coherent few here_it at code (drops_light (value.SharedSlot j) e (to_slot j))
      by (Some (value.MutSlot j)) e = references_keep k number t s y instr.DropSlot coherent few here_it at code (drops_light (value.MutSlot j) e (to_slot_mutably j))
      by (Some (value.Own u)) e = dropped_copies k number t s y instr.DropSlot coherent few here_it at code (drops_let u e)
      by (Some value.Gone) e = dropped_copies k number t s y instr.DropSlot coherent few here_it at code (none_let e)
      by (Some (value.Held m)) e =
          refused instr.DropSlot code
          (λ h on.
          let new = newest_there y.slots (value.Held m) e in
          let j : ℕ = length (front_of y.slots) in
          absurd ((given_up_may_be k (paths k coherent s h t y at on) (me k coherent s h t y at on) instr.DropSlot (record { slot = j; depth = 0 }) (going k coherent s h t y at on) code (dropped j new.1)).unmarked m new.0))
      by None e =
          refused instr.DropSlot code
          (λ h on.
          subst (λ o. None_of (prepared k.options.servers instr.DropSlot (prepare (ending (in_slot (length y.slots - 1)) o) start))) (sym e)
          (subst (λ o. None_of (committed (goes_on (then_some {X = Popped Value} (option_map (λ w. record { item = w; hand = with_slots (front_of y.slots) start }) o) (λ z. drop_value no_spot z.item (label_dropped z.item z.hand)))))) (sym e) tt))

  -- AN ASSIGNMENT

  module _ (w : Lval) (o : Operand) (code : slice_get k.code y.pc ≡ Some (instr.Assign w o)) where
    abbrev i : Instr
    i = instr.Assign w o

    -- there is no such variable
    no_slot : w.depth ≡ 0 → slice_get y.slots w.slot ≡ None → (v : Value) (ts : List Value) → None_of (committed (goes_on (replace_slot w.slot no_spot v (with_temps ts start))))
    no_slot flat e v ts = subst (λ z. None_of (committed (goes_on (then_some z (λ u. then_some (put_slot w.slot v (label_dropped u (with_temps ts start))) (drop_value no_spot u)))))) (sym e) tt

    no_variable : w.depth ≡ 0 → slice_get y.slots w.slot ≡ None → (z : Operand) → None_of (committed (goes_on (then_some (pop z start) (λ u. replace_slot w.slot no_spot u.item u.hand))))
    no_variable flat e (operand.Const c) = no_slot flat e _ y.temps
    no_variable flat e operand.Unit = no_slot flat e _ y.temps
    no_variable flat e operand.Pop = by (last_of y.temps)
      where
        by : (z : Option Value) → None_of (committed (goes_on (then_some {X = Popped Value} (option_map (λ v. record { item = v; hand = with_temps (front_of y.temps) start }) z) (λ u. replace_slot w.slot no_spot u.item u.hand))))
        by None = tt
        by (Some v) = no_slot flat e v (front_of y.temps)

    over : w.depth ≡ 0 → (v : Option Value) → slice_get y.slots w.slot ≡ v → Goal
    over flat (Some (value.Mut r)) e = ends_keep k number t s y i r (assigns w o flat e) coherent few here_it at code
    over flat (Some (value.Shared r)) e = references_keep k number t s y i coherent few here_it at code (assigns_light w o (value.Shared r) flat e (shared_to r))
    over flat (Some (value.SharedSlot j)) e = references_keep k number t s y i coherent few here_it at code (assigns_light w o (value.SharedSlot j) flat e (to_slot j))
    over flat (Some (value.MutSlot j)) e = references_keep k number t s y i coherent few here_it at code (assigns_light w o (value.MutSlot j) flat e (to_slot_mutably j))
    over flat (Some (value.Own u)) e = assigned_copies k number t s y w o (value.Own u) coherent few here_it at code flat e (owns u)
    over flat (Some value.Gone) e = assigned_copies k number t s y w o value.Gone coherent few here_it at code flat e gone
    over flat (Some (value.Held m)) e =
        refused i code (λ h on. absurd ((given_up_may_be k (paths k coherent s h t y at on) (me k coherent s h t y at on) i w (going k coherent s h t y at on) code (written assigns_to)).unmarked m e))
    over flat None e =
        refused i code
        (λ h on.
        subst (λ d. None_of (prepared k.options.servers i (prepare (assigned w d y) start))) (sym flat)
        (subst (λ a. None_of (prepared k.options.servers i (prepare (ending (in_slot w.slot) a) start))) (sym e)
        (subst (λ d. None_of (committed (goes_on (assign w d o no_spot start)))) (sym flat) (no_variable flat e o))))

    pub assigns_by : (d : ℕ) → w.depth ≡ d → Goal
    assigns_by zero flat = over flat (slice_get y.slots w.slot) refl
    assigns_by (suc d) deep = assignments_keep k number t s y w d o deep coherent few here_it at code

  -- A MOVE

  module _ (w : Lval) (code : slice_get k.code y.pc ≡ Some (instr.Read w true)) where
    pub moves_by : (d : ℕ) → w.depth ≡ d → Goal
    moves_by (suc d) deep = moves_keep k number t s y w d deep coherent few here_it at code
    moves_by zero flat = by (slice_get y.slots w.slot) refl
      where
        by : (v : Option Value) → slice_get y.slots w.slot ≡ v → Goal
        by (Some v) e = references_keep k number t s y (instr.Read w true) coherent few here_it at code (moves_any w v flat e)
        by None e =
            refused (instr.Read w true) code
            (λ h on.
            subst (λ d. None_of (prepared k.options.servers (instr.Read w true) (prepare (Some (read_or_taken w d true)) start))) (sym flat)
            (subst (λ d. None_of (prepared k.options.servers (instr.Read w true) (read_stars d start (in_slot w.slot)))) (sym flat)
            (subst (λ v. None_of (committed (goes_on (then_some v (λ u. read_as true (in_slot w.slot) u (load_at (in_slot w.slot) start)))))) (sym e) tt)))
