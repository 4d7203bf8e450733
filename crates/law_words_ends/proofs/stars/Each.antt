-- Each discard, drop of a slot, assignment and move keeps the words: by what stands there.
use Rattle.std.proofs.Common.{◌≡◌, ℕ, zero, suc, ◌-◌, true, List, length, Option, Some, None, option_map, refl, sym, subst}
use Rattle.std.specs.Prelude.{slice_get}
use Rattle.law_words_ends.specs.Below.fr_base.declared.place.Lval.{Lval}
use Rattle.law_words_ends.specs.Below.fr_base.declared.instruction.Operand.{Operand}
use Rattle.law_words_ends.specs.Below.fr_base.declared.instruction.Operand.TheVariants as operand
use Rattle.law_words_ends.specs.Below.fr_base.declared.instruction.Instr.{Instr}
use Rattle.law_words_ends.specs.Below.fr_base.declared.instruction.Instr.TheVariants as instr
use Rattle.law_words_ends.specs.Below.journal.View.{EntryView}
use Rattle.law_words_ends.specs.Below.thread_state.View.{ThreadState}
use Rattle.law_words_ends.specs.Below.thread_state.declared.value.Value.{Value}
use Rattle.law_words_ends.specs.Below.thread_state.declared.value.Value.TheVariants as value
use Rattle.law_words_ends.specs.Below.server_model.declared.event.What.TheVariants.{Step}
use Rattle.law_words_ends.specs.Below.server_model.Servers.{Server, Cluster, server_at}
use Rattle.law_words_ends.specs.Below.server_model.Work.{Hand, Popped, last_of, front_of, with_slots, with_temps, thread_in, then_some, pop}
use Rattle.law_words_ends.specs.Below.server_model.Clusters.{apply}
use Rattle.law_words_ends.specs.Below.server_model.Places.{in_slot, on_top, nowhere as no_spot, put_slot, load_at}
use Rattle.law_words_ends.specs.Below.server_model.Prepare.{ending, assigned, read_or_taken, prepare, read_stars}
use Rattle.law_words_ends.specs.Below.server_model.Drop.{drop_value}
use Rattle.law_words_ends.specs.Below.server_model.Commit.{goes_on, label_dropped, assign, replace_slot, read_as}
use Rattle.law_words_ends.specs.Below.server_model.Events.{enabled, begin_work, Stepped, committed, prepared, step}
use Rattle.law_words_ends.specs.Below.coherent_types.ClusterTypes.{IsCoherent}
use Rattle.law_words_ends.specs.Below.law_words_paths.paths.Pointing.{assigns as assigns_to}
use Rattle.law_words_writes.specs.Below.law_words_kept.ends.Dropped.{written, dropped}
use Rattle.law_words_writes.proofs.Below.law_words_kept.ends.Given.{given_up_may_be}
use Rattle.law_words_ends.specs.Below.law_counts_sums.Kinds.{instr_kind}
use Rattle.law_words_ends.specs.Below.law_counts_sums.Laws.{Gives, FewEvents}
use Rattle.law_words_ends.proofs.Below.law_counts_sums.Proved.{IsProvedKind}
use Rattle.law_words_ends.proofs.Below.law_counts_sums.Results.{weaker}
use Rattle.law_words_ends.specs.Below.law_words_paths.words.Unmoved.{LeavesWords}
use Rattle.law_words_writes.specs.Below.law_words_kept.prepared.Requests.{WordsRise}
use Rattle.law_words_writes.proofs.Below.law_words_kept.prepared.Rising.{rise_itself}
use Rattle.law_words_writes.proofs.Below.law_words_kept.prepared.Asking.{found_number}
use Rattle.law_words_writes.specs.Below.law_words_values.carried.Steps.{drops as drops_owned, drops_none, owns, gone}
use Rattle.law_words_writes.proofs.Below.law_words_values.carried.Assigns.{assigns_over}
use Rattle.law_words_writes.proofs.Below.law_words_values.carried.Events.{discards_carry}
use Rattle.law_words_writes.proofs.Below.law_words_values.carried.Gives.{owned_goes}
use Rattle.law_words_writes.proofs.Below.law_words_values.carried.Hands.{step_by}
use Rattle.law_words_writes.proofs.Below.law_words_values.carried.Locks.{kept_where, holds_on}
use Rattle.law_words_ends.specs.Below.law_words_values.references.Gone.{to_slot, to_slot_mutably, shared_to, moves as moves_any, drops as drops_light, discards as discards_light, assigns as assigns_light}
use Rattle.law_words_ends.proofs.Below.law_words_values.references.RefEvents.{references_go}
use Rattle.law_words_writes.proofs.Assignments.{assignments_keep}
use Rattle.law_words_writes.proofs.Moves.{moves_keep}
use Rattle.law_words_ends.specs.variables.Ends.{drops, discards, assigns}
use Rattle.law_words_ends.proofs.variables.EndHands.{newest_there}
use Rattle.law_words_ends.proofs.variables.EndEvents.{me, going, paths, ok_steps}
use Rattle.law_words_ends.specs.stars.Each.{DiscardsKeepWords, DropsKeepWords, AssignmentsKeepWords, MovesKeepWords}
use Rattle.law_words_ends.proofs.stars.Ends.{ends_keep_words}

module _ (k : Cluster) (number t : ℕ) (s : Server) (y : ThreadState) (coherent : IsCoherent k) (few : FewEvents k) (here_it : server_at k.servers number ≡ Some s) (at : thread_in s.threads t ≡ Some y) where
  abbrev Goal : Type 0
  Goal = Gives (λ (d : Cluster × EntryView). WordsRise k d.0) (apply k (record { server = number; what = Step t }))

  abbrev start : Hand
  start = record { work = begin_work s.rest; thread = y }

  -- what leaves the words keeps them
  left : Gives (λ (d : Cluster × EntryView). LeavesWords k d.0) (apply k (record { server = number; what = Step t })) → Goal
  left g =
      weaker (λ (d : Cluster × EntryView). LeavesWords k d.0) (λ (d : Cluster × EntryView). WordsRise k d.0) (apply k (record { server = number; what = Step t })) g
      (λ d w. holds_on w (rise_itself k coherent.sound))

  -- what can't be done, or can't be by its types
  refused : (i : Instr) → IsProvedKind (instr_kind i) → slice_get k.code y.pc ≡ Some i → ((server : server_at k.servers s.rest.number ≡ Some s) (on : enabled k.options s (Step t) ≡ true) → Gives (λ (d : Stepped). ⊥) (step k.options.servers i (record { work = begin_work s.rest; thread = y }))) → Goal
  refused i kind code none =
      subst (λ m. server_at k.servers m ≡ Some s → Gives (λ (d : Cluster × EntryView). WordsRise k d.0) (apply k (record { server = m; what = Step t }))) (found_number number k.servers s here_it)
      (λ h. kept_where k s t coherent few h (λ on. step_by (λ a b. WordsRise k b) k coherent.sound s h t y at i code (λ h2. ⊥) (λ h2 ok f. absurd f) (ok_steps k coherent s h t y at on i kind) (none h on))) here_it

  -- where nothing comes of a step
  abbrev None_of : Option Stepped → Type 0
  None_of o = Gives (λ (d : Stepped). ⊥) o

  -- A DISCARD

  discards_by : slice_get k.code y.pc ≡ Some instr.Discard → Goal
  discards_by code = by (last_of y.temps) refl
    where
      by : (o : Option Value) → last_of y.temps ≡ o → Goal
      by (Some (value.Mut r)) e = ends_keep_words k number t s y instr.Discard r coherent few here_it at code (discards e)
      by (Some (value.Shared r)) e = left (references_go k number t s y instr.Discard coherent few here_it at code (discards_light (value.Shared r) e (shared_to r)))
      by (Some (value.Own u)) e = left (discards_carry k number t s y (value.Own u) coherent.sound few here_it at code e tt)
      by (Some value.Gone) e = left (discards_carry k number t s y value.Gone coherent.sound few here_it at code e tt)
      by (Some (value.SharedSlot j)) e = left (discards_carry k number t s y (value.SharedSlot j) coherent.sound few here_it at code e tt)
      by (Some (value.MutSlot j)) e = left (discards_carry k number t s y (value.MutSlot j) coherent.sound few here_it at code e tt)
      by (Some (value.Held m)) e = left (discards_carry k number t s y (value.Held m) coherent.sound few here_it at code e tt)
      by None e =
          refused instr.Discard tt code
          (λ h on.
          subst (λ o. None_of (prepared k.options.servers instr.Discard (prepare (ending on_top o) start))) (sym e)
          (subst (λ o. None_of (committed (goes_on (then_some {X = Popped Value} (option_map (λ w. record { item = w; hand = with_temps (front_of y.temps) start }) o) (λ z. drop_value no_spot z.item (label_dropped z.item z.hand)))))) (sym e) tt))

  -- THE DROP OF A SLOT

  drops_by : slice_get k.code y.pc ≡ Some instr.DropSlot → Goal
  drops_by code = by (last_of y.slots) refl
    where
      by : (o : Option Value) → last_of y.slots ≡ o → Goal
      by (Some (value.Mut r)) e = ends_keep_words k number t s y instr.DropSlot r coherent few here_it at code (drops e)
      by (Some (value.Shared r)) e = left (references_go k number t s y instr.DropSlot coherent few here_it at code (drops_light (value.Shared r) e (shared_to r)))
      by (Some (value.SharedSlot j)) e = left (references_go k number t s y instr.DropSlot coherent few here_it at code (drops_light (value.SharedSlot j) e (to_slot j)))
      by (Some (value.MutSlot j)) e = left (references_go k number t s y instr.DropSlot coherent few here_it at code (drops_light (value.MutSlot j) e (to_slot_mutably j)))
      by (Some (value.Own u)) e = left (owned_goes k number t s y instr.DropSlot coherent few here_it at code (drops_owned u e))
      by (Some value.Gone) e = left (owned_goes k number t s y instr.DropSlot coherent few here_it at code (drops_none e))
      by (Some (value.Held m)) e =
          refused instr.DropSlot tt code
          (λ h on.
          let new = newest_there y.slots (value.Held m) e in
          let j : ℕ = length (front_of y.slots) in
          absurd ((given_up_may_be k (paths k coherent s h t y at on) (me k coherent s h t y at on) instr.DropSlot (record { slot = j; depth = 0 }) (going k coherent s h t y at on) code (dropped j new.1)).unmarked m new.0))
      by None e =
          refused instr.DropSlot tt code
          (λ h on.
          subst (λ o. None_of (prepared k.options.servers instr.DropSlot (prepare (ending (in_slot (length y.slots - 1)) o) start))) (sym e)
          (subst (λ o. None_of (committed (goes_on (then_some {X = Popped Value} (option_map (λ w. record { item = w; hand = with_slots (front_of y.slots) start }) o) (λ z. drop_value no_spot z.item (label_dropped z.item z.hand)))))) (sym e) tt))

  -- AN ASSIGNMENT

  module _ (w : Lval) (o : Operand) (code : slice_get k.code y.pc ≡ Some (instr.Assign w o)) where
    abbrev i : Instr
    i = instr.Assign w o

    -- there is no such variable
    no_slot : w.depth ≡ 0 → slice_get y.slots w.slot ≡ None → (v : Value) (ts : List Value) → None_of (committed (goes_on (replace_slot w.slot no_spot v (with_temps ts start))))
    no_slot flat e v ts = subst (λ z. None_of (committed (goes_on (then_some z (λ u. then_some (put_slot w.slot v (label_dropped u (with_temps ts start))) (drop_value no_spot u)))))) (sym e) tt

    no_variable : w.depth ≡ 0 → slice_get y.slots w.slot ≡ None → (z : Operand) → None_of (committed (goes_on (then_some (pop z start) (λ u. replace_slot w.slot no_spot u.item u.hand))))
    no_variable flat e (operand.Const c) = no_slot flat e _ y.temps
    no_variable flat e operand.Unit = no_slot flat e _ y.temps
    no_variable flat e operand.Pop = by (last_of y.temps)
      where
        by : (z : Option Value) → None_of (committed (goes_on (then_some {X = Popped Value} (option_map (λ v. record { item = v; hand = with_temps (front_of y.temps) start }) z) (λ u. replace_slot w.slot no_spot u.item u.hand))))
        by None = tt
        by (Some v) = no_slot flat e v (front_of y.temps)

    over : w.depth ≡ 0 → (v : Option Value) → slice_get y.slots w.slot ≡ v → Goal
    over flat (Some (value.Mut r)) e = ends_keep_words k number t s y i r coherent few here_it at code (assigns w o flat e)
    over flat (Some (value.Shared r)) e = left (references_go k number t s y i coherent few here_it at code (assigns_light w o (value.Shared r) flat e (shared_to r)))
    over flat (Some (value.SharedSlot j)) e = left (references_go k number t s y i coherent few here_it at code (assigns_light w o (value.SharedSlot j) flat e (to_slot j)))
    over flat (Some (value.MutSlot j)) e = left (references_go k number t s y i coherent few here_it at code (assigns_light w o (value.MutSlot j) flat e (to_slot_mutably j)))
    over flat (Some (value.Own u)) e = left (assigns_over k number t s y w o (value.Own u) coherent few here_it at code flat e (owns u))
    over flat (Some value.Gone) e = left (assigns_over k number t s y w o value.Gone coherent few here_it at code flat e gone)
    over flat (Some (value.Held m)) e =
        refused i tt code (λ h on. absurd ((given_up_may_be k (paths k coherent s h t y at on) (me k coherent s h t y at on) i w (going k coherent s h t y at on) code (written assigns_to)).unmarked m e))
    over flat None e =
        refused i tt code
        (λ h on.
        subst (λ d. None_of (prepared k.options.servers i (prepare (assigned w d y) start))) (sym flat)
        (subst (λ a. None_of (prepared k.options.servers i (prepare (ending (in_slot w.slot) a) start))) (sym e)
        (subst (λ d. None_of (committed (goes_on (assign w d o no_spot start)))) (sym flat) (no_variable flat e o))))

    assigns_by : (d : ℕ) → w.depth ≡ d → Goal
    assigns_by zero flat = over flat (slice_get y.slots w.slot) refl
    assigns_by (suc d) deep = assignments_keep k number t s y w d o coherent few here_it at code deep

  -- A MOVE

  module _ (w : Lval) (code : slice_get k.code y.pc ≡ Some (instr.Read w true)) where
    moves_by : (d : ℕ) → w.depth ≡ d → Goal
    moves_by (suc d) deep = moves_keep k number t s y w d coherent few here_it at code deep
    moves_by zero flat = by (slice_get y.slots w.slot) refl
      where
        by : (v : Option Value) → slice_get y.slots w.slot ≡ v → Goal
        by (Some v) e = left (references_go k number t s y (instr.Read w true) coherent few here_it at code (moves_any w v flat e))
        by None e =
            refused (instr.Read w true) tt code
            (λ h on.
            subst (λ d. None_of (prepared k.options.servers (instr.Read w true) (prepare (Some (read_or_taken w d true)) start))) (sym flat)
            (subst (λ d. None_of (prepared k.options.servers (instr.Read w true) (read_stars d start (in_slot w.slot)))) (sym flat)
            (subst (λ v. None_of (committed (goes_on (then_some v (λ u. read_as true (in_slot w.slot) u (load_at (in_slot w.slot) start)))))) (sym e) tt)))

-- THE LAWS

pub discards_keep_words : DiscardsKeepWords
discards_keep_words k number t s y coherent few here_it at code = discards_by k number t s y coherent few here_it at code

pub drops_keep_words : DropsKeepWords
drops_keep_words k number t s y coherent few here_it at code = drops_by k number t s y coherent few here_it at code

pub assignments_keep_words : AssignmentsKeepWords
assignments_keep_words w o k number t s y coherent few here_it at code = assigns_by k number t s y coherent few here_it at w o code w.depth refl

pub moves_keep_words : MovesKeepWords
moves_keep_words w k number t s y coherent few here_it at code = moves_by k number t s y coherent few here_it at w code w.depth refl
