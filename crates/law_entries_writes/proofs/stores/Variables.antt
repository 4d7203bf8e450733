-- A variable is moved out of, or gets a value, and what stood there is dropped.
use Rattle.std.proofs.Common.{◌≡◌, ℕ, ◌+◌, nat_lt, Bool, true, false, if◌then◌else◌, List, [], ◌∷◌, ◌++◌, length, Option, Some, None, refl, sym, ap, subst, ◌∙◌}
use Rattle.std.specs.Prelude.{⊤, slice_get, slice_set, option_map}
use Rattle.law_entries_reads.specs.Below.law_entries_variables.Below.law_words_ends.Below.fr_base.declared.instruction.Instr.{Instr}
use Rattle.law_entries_reads.specs.Below.law_entries_variables.Below.law_words_ends.Below.fr_base.declared.instruction.Instr.TheVariants as instr
use Rattle.law_entries_reads.specs.Below.law_entries_variables.Below.law_words_ends.Below.fr_base.declared.instruction.Operand.{Operand}
use Rattle.law_entries_reads.specs.Below.law_entries_variables.Below.law_words_ends.Below.fr_base.declared.instruction.Operand.TheVariants as operand
use Rattle.law_entries_reads.specs.Below.law_entries_variables.Below.law_words_ends.Below.fr_base.declared.place.Lval.{Lval}
use Rattle.law_entries_reads.specs.Below.law_entries_variables.Below.law_words_ends.Below.fr_base.declared.name.MutexNo.{MutexNo}
use Rattle.law_entries_reads.specs.Below.law_entries_variables.Below.law_words_ends.Below.fr_base.declared.step.Fresh.TheVariants as fresh
use Rattle.law_entries_reads.specs.Below.law_entries_variables.Below.law_words_ends.Below.heap_partition.declared.value.Owned.TheVariants as owned
use Rattle.law_entries_reads.specs.Below.law_entries_variables.Below.law_words_ends.Below.thread_state.View.{ThreadState, is_over}
use Rattle.law_entries_reads.specs.Below.law_entries_variables.Below.law_words_ends.Below.thread_state.declared.value.Value.{Value}
use Rattle.law_entries_reads.specs.Below.law_entries_variables.Below.law_words_ends.Below.thread_state.declared.value.Value.TheVariants as value
use Rattle.law_entries_reads.specs.Below.law_entries_variables.Below.law_words_ends.Below.journal.View.{EntryView}
use Rattle.law_entries_reads.specs.Below.law_entries_variables.Below.law_words_ends.Below.server_model.declared.event.What.TheVariants.{Step}
use Rattle.law_entries_reads.specs.Below.law_entries_variables.Below.law_words_ends.Below.server_model.Servers.{Server, Cluster, server_at}
use Rattle.law_entries_reads.specs.Below.law_entries_variables.Below.law_words_ends.Below.server_model.Clusters.{apply}
use Rattle.law_entries_reads.specs.Below.law_entries_variables.Below.law_words_ends.Below.server_model.Work.{Hand, Popped, last_of, front_of, unit, pop, push_temp, with_slots, with_temps, then_some, thread_in}
use Rattle.law_entries_reads.specs.Below.law_entries_variables.Below.law_words_ends.Below.server_model.Places.{Spot, in_slot, nowhere, load_at, put_slot}
use Rattle.law_entries_reads.specs.Below.law_entries_variables.Below.law_words_ends.Below.server_model.Drop.{drop_value}
use Rattle.law_entries_reads.specs.Below.law_entries_variables.Below.law_words_ends.Below.server_model.Prepare.{read_stars, ending, assigned, read_or_taken, prepare}
use Rattle.law_entries_reads.specs.Below.law_entries_variables.Below.law_words_ends.Below.server_model.Commit.{label_dropped, read, read_as, assign, replace_slot, goes_on, commit}
use Rattle.law_entries_reads.specs.Below.law_entries_variables.Below.law_words_ends.Below.server_model.Events.{can_step, has_phase, enabled, Stepped, begin_work, prepared, committed, step, stepped}
use Rattle.law_entries_writes.specs.Below.law_entries_variables.Below.coloured_heap.Heap.{Coloured}
use Rattle.law_entries_reads.specs.Below.law_entries_variables.Below.law_words_ends.Below.coherent_memory.Things.{in_slot as slot_spot, slot_things}
use Rattle.law_entries_reads.specs.Below.law_entries_variables.Below.law_words_ends.Below.coherent_memory.Colours.{StandsColoured}
use Rattle.law_entries_reads.specs.Below.law_entries_variables.Below.law_words_ends.Below.coherent_memory.Coherent.{IsSound}
use Rattle.law_entries_reads.specs.Below.law_entries_variables.Below.law_words_ends.Below.coherent_types.ClusterTypes.{IsCoherent}
use Rattle.law_entries_reads.specs.Below.law_entries_variables.Below.law_words_ends.Below.law_words_paths.paths.Pointing.{moves as moves_from, assigns as assigns_to}
use Rattle.law_entries_reads.specs.Below.law_entries_variables.Below.law_words_ends.Below.law_counts_sums.Laws.{Gives, FewEvents}
use Rattle.law_entries_reads.proofs.Below.law_entries_variables.Below.law_words_ends.Below.law_counts_sums.GiftsTaken.{gift_fits}
use Rattle.law_entries_reads.proofs.Below.law_entries_variables.Below.law_words_ends.Below.law_counts_sums.QuietSteps.{GiftFits}
use Rattle.law_entries_reads.specs.Below.law_entries_variables.Below.law_words_ends.Below.law_words_paths.words.Unmoved.{LeavesWords}
use Rattle.law_heap_writes.specs.Below.law_words_writes.Below.law_words_values.Below.law_words_kept.ends.Dropped.{GivesUp, written}
use Rattle.law_heap_writes.proofs.Below.law_words_writes.Below.law_words_values.Below.law_words_kept.ends.Given.{given_up_may_be}
use Rattle.law_heap_writes.proofs.Below.law_words_writes.Below.law_words_values.Below.law_words_kept.prepared.Asking.{found_number}
use Rattle.law_heap_writes.specs.Below.law_words_writes.Below.law_words_values.carried.Steps.{owns, gone}
use Rattle.law_heap_writes.proofs.Below.law_words_writes.Below.law_words_values.carried.Assigns.{assigns_over}
use Rattle.law_entries_reads.specs.Below.law_entries_variables.Below.law_words_ends.Below.law_words_values.references.Gone.{to_slot, to_slot_mutably, shared_to, moves as moves_any, assigns as assigns_light}
use Rattle.law_entries_reads.proofs.Below.law_entries_variables.Below.law_words_ends.Below.law_words_values.references.RefEvents.{references_go}
use Rattle.law_entries_reads.specs.Below.law_entries_variables.Below.law_words_ends.variables.Ends.{assigns as assigns_end}
use Rattle.law_entries_reads.proofs.Below.law_entries_variables.Below.law_words_ends.variables.EndEvents.{me, going, paths, ends_at_hand_leave_words}
use Rattle.law_entries_writes.specs.Below.law_entries_variables.deliveries.Entries.{EntryLegal}
use Rattle.law_entries_writes.proofs.Below.law_entries_variables.deliveries.Changed.{AreThere}
use Rattle.law_entries_writes.proofs.Below.law_entries_variables.still.PlainSteps.{lives}
use Rattle.law_entries_reads.specs.Below.law_entries_variables.variables.Steps.{StepsLegal, IsPlain}
use Rattle.law_entries_reads.proofs.Below.law_entries_variables.variables.Slots.{IsUnmarked, slot_put}
use Rattle.law_entries_reads.proofs.Below.law_entries_variables.variables.Turning.{Turning, begins, rethreaded, slots_alike, labelled}
use Rattle.law_entries_reads.proofs.Below.law_entries_variables.variables.Led.{LedWith, goes_on_led}
use Rattle.law_entries_reads.proofs.Below.law_entries_variables.variables.InStep.{by_number, step_legal}
use Rattle.law_entries_reads.proofs.Below.law_entries_variables.variables.Tops.{top_unmarked}
use Rattle.law_entries_reads.proofs.Below.law_entries_variables.variables.GiveUps.{from}
use Rattle.law_entries_writes.specs.stores.Variables.{GoesAtHand, WritesVariable, moves, assigns}
use Rattle.law_entries_writes.proofs.stores.Standing.{slot_there, unmarked_by}
use Rattle.law_entries_writes.proofs.stores.Dropping.{P, Done, quiet, plain_dropped, finishes, ended}

module _ (k : Cluster) (sound : IsSound k) (number : ℕ) (s : Server) (here : server_at k.servers number ≡ Some s) (c0 : Coloured) (is_coloured : StandsColoured k c0) (y : ThreadState) (at : thread_in s.threads y.number ≡ Some y) (live : is_over y.phase ≡ false) (bare : y.gift ≡ None) where
  abbrev h0 : Hand
  h0 = record { work = begin_work s.rest; thread = y }

  abbrev IsLed : Hand → Type 0
  IsLed = P k sound number s here c0 is_coloured y at live bare

  abbrev IsDone : Stepped → Type 0
  IsDone = Done k sound number s here c0 is_coloured y at live bare

  quietly : (h : Hand) → Turning s y [] [] [] h → h.thread.gift ≡ None → IsLed h
  quietly = quiet k sound number s here c0 is_coloured y at live bare

  -- A MOVE

  moved : (j : ℕ) (v : Value) → slice_get y.slots j ≡ Some v → IsUnmarked v → Gives IsLed (read true (in_slot j) h0)
  moved j v e p = subst (λ o. Gives IsLed (then_some o (λ u. read_as true (in_slot j) u (load_at (in_slot j) h0)))) (sym e) (by (nat_lt j (length y.slots)))
    where
      h1 : Hand
      h1 = with_slots (slice_set y.slots j value.Gone) (load_at (in_slot j) h0)

      turned : Turning s y [] [] [] h1
      turned = slots_alike s y [] [] [] (load_at (in_slot j) h0) (labelled s y [] [] [] h0 (begins s y) [] refl) (slice_set y.slots j value.Gone) (λ f i. slot_put f i 0 y.number y.slots j v value.Gone e p tt)

      by : (b : Bool) → Gives IsLed (option_map (push_temp v) (if b then Some h1 else None))
      by true = quietly (push_temp v h1) (rethreaded s y [] [] [] h1 turned (record h1.thread { temps = y.temps ++ v ∷ [] }) refl refl) bare
      by false = tt

  pub moves_led : (servers : ℕ) (w : Lval) → w.depth ≡ 0 → (v : Value) → slice_get y.slots w.slot ≡ Some v → IsUnmarked v → Gives IsDone (step servers (instr.Read w true) h0)
  moves_led servers w flat v e p =
      subst (λ d. Gives IsDone (prepared servers (instr.Read w true) (prepare (Some (read_or_taken w d true)) h0))) (sym flat)
      (subst (λ d. Gives IsDone (prepared servers (instr.Read w true) (read_stars d h0 (in_slot w.slot)))) (sym flat)
      (goes_on_led (LeavesWords k) k s y at c0 fresh.None (read true (in_slot w.slot) h0) (moved w.slot v e p)))

  -- AN ASSIGNMENT

  -- a value comes into the slot, and what stood there is dropped
  module _ (j : ℕ) (old : Value) (e : slice_get y.slots j ≡ Some old) (unmarked : IsUnmarked old) (sp : Spot) (drops : (h : Hand) → Turning s y [] [] [] h → h.thread.gift ≡ None → Gives IsLed (drop_value sp old (label_dropped old h))) where
    put_over : (v : Value) → IsUnmarked v → (ts : List Value) → Gives IsLed (replace_slot j sp v (with_temps ts h0))
    put_over v p ts = subst (λ o. Gives IsLed (then_some o (λ u. then_some (put_slot j v (label_dropped u (with_temps ts h0))) (drop_value sp u)))) (sym e) (by (nat_lt j (length y.slots)))
      where
        h1 : Hand
        h1 = with_slots (slice_set y.slots j v) (with_temps ts h0)

        turned : Turning s y [] [] [] h1
        turned = slots_alike s y [] [] [] (with_temps ts h0) (rethreaded s y [] [] [] h0 (begins s y) (record y { temps = ts }) refl refl) (slice_set y.slots j v) (λ f i. slot_put f i 0 y.number y.slots j old v e unmarked p)

        by : (b : Bool) → Gives IsLed (then_some (if b then Some (label_dropped old h1) else None) (drop_value sp old))
        by true = drops h1 turned bare
        by false = tt

    -- whatever is assigned
    assigned_over : (o : Operand) → Gives IsLed (then_some (pop o h0) (λ u. replace_slot j sp u.item u.hand))
    assigned_over (operand.Const c) = put_over (value.Own (owned.Int c)) tt y.temps
    assigned_over operand.Unit = put_over (value.Own owned.Unit) tt y.temps
    assigned_over operand.Pop = by (last_of y.temps) refl
      where
        by : (o : Option Value) → last_of y.temps ≡ o → Gives IsLed (then_some {X = Popped Value} (option_map (λ v. record { item = v; hand = with_temps (front_of y.temps) h0 }) o) (λ u. replace_slot j sp u.item u.hand))
        by None f = tt
        by (Some v) f = put_over v (top_unmarked k sound number s here y at v f) (front_of y.temps)

  module _ (servers : ℕ) (w : Lval) (flat : w.depth ≡ 0) (o : Operand) where
    abbrev i : Instr
    i = instr.Assign w o

    commits : (old : Value) → slice_get y.slots w.slot ≡ Some old → IsUnmarked old → (sp : Spot) → ((h : Hand) → Turning s y [] [] [] h → h.thread.gift ≡ None → Gives IsLed (drop_value sp old (label_dropped old h))) → Gives IsDone (committed (commit servers i sp h0))
    commits old e p sp drops = goes_on_led (LeavesWords k) k s y at c0 fresh.None (assign w w.depth o sp h0) (subst (λ d. Gives IsLed (assign w d o sp h0)) (sym flat) (assigned_over w.slot old e p sp drops o))

    -- its place
    prepares : (a : Option Value) → slice_get y.slots w.slot ≡ a → Gives IsDone (prepared servers i (prepare (ending (in_slot w.slot) a) h0)) → Gives IsDone (step servers i h0)
    prepares a e g = subst (λ d. Gives IsDone (prepared servers i (prepare (assigned w d y) h0))) (sym flat) (subst (λ b. Gives IsDone (prepared servers i (prepare (ending (in_slot w.slot) b) h0))) (sym e) g)

    -- a value that is no mutable reference to an object
    plainly : (old : Value) → slice_get y.slots w.slot ≡ Some old → IsPlain old → IsUnmarked old → Gives IsDone (committed (commit servers i nowhere h0))
    plainly old e p q =
        commits old e q nowhere
        (plain_dropped k sound number s here c0 is_coloured y at live bare old p
        (λ u same. from (slot_spot y.number (0 + w.slot)) (subst (λ v. AreThere k (slot_things s.rest.number y.number (0 + w.slot) v)) same (slot_there k number s here y at w.slot old e))))

    pub assigns_led : (old : Value) → slice_get y.slots w.slot ≡ Some old → IsUnmarked old → GoesAtHand (Some old) → Gives IsDone (step servers i h0)
    assigns_led (value.Own u) e p g = prepares (Some (value.Own u)) e (plainly (value.Own u) e tt p)
    assigns_led value.Gone e p g = prepares (Some value.Gone) e (plainly value.Gone e tt p)
    assigns_led (value.SharedSlot j) e p g = prepares (Some (value.SharedSlot j)) e (plainly (value.SharedSlot j) e tt p)
    assigns_led (value.MutSlot j) e p g = prepares (Some (value.MutSlot j)) e (plainly (value.MutSlot j) e tt p)
    assigns_led (value.Shared r) e p g = prepares (Some (value.Shared r)) e (plainly (value.Shared r) e tt p)
    assigns_led (value.Held m) e p g = absurd p
    assigns_led (value.Mut r) e p g =
        prepares (Some (value.Mut r)) e
        (ended k sound number s here c0 is_coloured y at live bare r g servers i (in_slot w.slot) e
        (λ sp holder. commits (value.Mut r) e p sp (finishes k sound number s here c0 is_coloured y at live bare r g sp holder)))

-- WHERE NOTHING STANDS

-- nothing is assigned to
nothing_there : (y : ThreadState) (h : Hand) (j : ℕ) (sp : Spot) (o : Operand) → h.thread ≡ y → slice_get y.slots j ≡ None → then_some (pop o h) (λ u. replace_slot j sp u.item u.hand) ≡ None
nothing_there y h j sp (operand.Const c) same e = ap (λ v. then_some v (λ u. then_some (put_slot j (value.Own (owned.Int c)) (label_dropped u h)) (drop_value sp u))) (ap (λ (x : ThreadState). slice_get x.slots j) same ∙ e)
nothing_there y h j sp operand.Unit same e = ap (λ v. then_some v (λ u. then_some (put_slot j unit (label_dropped u h)) (drop_value sp u))) (ap (λ (x : ThreadState). slice_get x.slots j) same ∙ e)
nothing_there y h j sp operand.Pop same e = by (last_of h.thread.temps)
  where
    by : (o : Option Value) → then_some {X = Popped Value} (option_map (λ v. record { item = v; hand = with_temps (front_of h.thread.temps) h }) o) (λ u. replace_slot j sp u.item u.hand) ≡ None
    by None = refl
    by (Some v) = ap (λ z. then_some z (λ u. then_some (put_slot j v (label_dropped u (with_temps (front_of h.thread.temps) h))) (drop_value sp u))) (ap (λ (x : ThreadState). slice_get x.slots j) same ∙ e)

-- whatever is wanted of a result
any_result : {A : Type 0} (o : Option A) → Gives (λ a. ⊤) o
any_result None = tt
any_result (Some a) = tt

-- THE LAW

module _ (k : Cluster) (number t : ℕ) (s : Server) (y : ThreadState) (coherent : IsCoherent k) (few : FewEvents k) (here : server_at k.servers number ≡ Some s) (at : thread_in s.threads t ≡ Some y) where
  abbrev Legal : Type 0
  Legal = EntryLegal k (record { server = number; what = Step t })

  here_too : server_at k.servers s.rest.number ≡ Some s
  here_too = subst (λ n. server_at k.servers n ≡ Some s) (sym (found_number number k.servers s here)) here

  on_by : can_step y.phase ≡ true → enabled k.options s (Step t) ≡ true
  on_by calm = subst (λ o. has_phase can_step o ≡ true) (sym at) calm

  -- no mark stands in a variable that is given up
  unmarked_there : (i : Instr) (w : Lval) → slice_get k.code y.pc ≡ Some i → GivesUp y i w → can_step y.phase ≡ true → (v : Value) → slice_get y.slots w.slot ≡ Some v → IsUnmarked v
  unmarked_there i w code gives calm v e =
      let on = on_by calm in
      unmarked_by v (λ m q. (given_up_may_be k (paths k coherent s here_too t y at on) (me k coherent s here_too t y at on) i w (going k coherent s here_too t y at on) code gives).unmarked m (e ∙ ap (λ u. Some u) q))

  -- a step that is refused
  refused : (i : Instr) → slice_get k.code y.pc ≡ Some i → step k.options.servers i (record { work = begin_work s.rest; thread = y }) ≡ None → Legal
  refused i code none =
      step_legal (λ c. ⊤) k number t s y i coherent.sound few here at code (any_result (apply k (record { server = number; what = Step t })))
      (λ c0 is_coloured calm. subst (Gives (λ (d : Stepped). LedWith (λ c. ⊤) k s c0 (stepped s d))) (sym none) tt)

  bare_at : (i : Instr) → slice_get k.code y.pc ≡ Some i → GiftFits i y.gift
  bare_at i code = (gift_fits k coherent.sound number s here t y at i code).0

  module _ (w : Lval) (flat : w.depth ≡ 0) (code : slice_get k.code y.pc ≡ Some (instr.Read w true)) where
    abbrev r : Instr
    r = instr.Read w true

    pub moves_by : (o : Option Value) → slice_get y.slots w.slot ≡ o → Legal
    moves_by (Some v) e =
        step_legal (LeavesWords k) k number t s y r coherent.sound few here at code (references_go k number t s y r coherent few here at code (moves_any w v flat e))
        (λ c0 is_coloured calm. moves_led k coherent.sound number s here c0 is_coloured y (by_number s t y at) (lives y.phase calm) (bare_at r code) k.options.servers w flat v e (unmarked_there r w code (written moves_from) calm v e))
    moves_by None e =
        refused r code
        (ap (λ d. prepared k.options.servers r (prepare (Some (read_or_taken w d true)) (record { work = begin_work s.rest; thread = y }))) flat
        ∙ ap (λ d. prepared k.options.servers r (read_stars d (record { work = begin_work s.rest; thread = y }) (in_slot w.slot))) flat
        ∙ ap (λ v. committed (goes_on (then_some v (λ u. read_as true (in_slot w.slot) u (load_at (in_slot w.slot) (record { work = begin_work s.rest; thread = y })))))) e)

  module _ (w : Lval) (o : Operand) (flat : w.depth ≡ 0) (code : slice_get k.code y.pc ≡ Some (instr.Assign w o)) where
    abbrev a : Instr
    a = instr.Assign w o

    legal_where : (old : Value) → slice_get y.slots w.slot ≡ Some old → GoesAtHand (Some old) → Gives (λ (d : Cluster × EntryView). LeavesWords k d.0) (apply k (record { server = number; what = Step t })) → Legal
    legal_where old e g words =
        step_legal (LeavesWords k) k number t s y a coherent.sound few here at code words
        (λ c0 is_coloured calm. assigns_led k coherent.sound number s here c0 is_coloured y (by_number s t y at) (lives y.phase calm) (bare_at a code) k.options.servers w flat o old e (unmarked_there a w code (written assigns_to) calm old e) g)

    -- a mark doesn't stand there
    marked : (m : MutexNo) → slice_get y.slots w.slot ≡ Some (value.Held m) → Legal
    marked m e =
        step_legal (λ c. ⊤) k number t s y a coherent.sound few here at code (any_result (apply k (record { server = number; what = Step t })))
        (λ c0 is_coloured calm. absurd (unmarked_there a w code (written assigns_to) calm (value.Held m) e))

    pub assigns_by : (v : Option Value) → slice_get y.slots w.slot ≡ v → GoesAtHand v → Legal
    assigns_by (Some (value.Mut q)) e g = legal_where (value.Mut q) e g (ends_at_hand_leave_words k number t s y a q coherent few here at code (assigns_end w o flat e) g)
    assigns_by (Some (value.Shared q)) e g = legal_where (value.Shared q) e g (references_go k number t s y a coherent few here at code (assigns_light w o (value.Shared q) flat e (shared_to q)))
    assigns_by (Some (value.SharedSlot j)) e g = legal_where (value.SharedSlot j) e g (references_go k number t s y a coherent few here at code (assigns_light w o (value.SharedSlot j) flat e (to_slot j)))
    assigns_by (Some (value.MutSlot j)) e g = legal_where (value.MutSlot j) e g (references_go k number t s y a coherent few here at code (assigns_light w o (value.MutSlot j) flat e (to_slot_mutably j)))
    assigns_by (Some (value.Own u)) e g = legal_where (value.Own u) e g (assigns_over k number t s y w o (value.Own u) coherent few here at code flat e (owns u))
    assigns_by (Some value.Gone) e g = legal_where value.Gone e g (assigns_over k number t s y w o value.Gone coherent few here at code flat e gone)
    assigns_by (Some (value.Held m)) e g = marked m e
    assigns_by None e g =
        refused a code
        (ap (λ d. prepared k.options.servers a (prepare (assigned w d y) (record { work = begin_work s.rest; thread = y }))) flat
        ∙ ap (λ v. prepared k.options.servers a (prepare (ending (in_slot w.slot) v) (record { work = begin_work s.rest; thread = y }))) e
        ∙ ap (λ d. committed (goes_on (assign w d o nowhere (record { work = begin_work s.rest; thread = y })))) flat
        ∙ ap (λ h. committed (goes_on h)) (nothing_there y (record { work = begin_work s.rest; thread = y }) w.slot nowhere o refl e))

-- so the entries are legal
pub variables_legal : StepsLegal WritesVariable
variables_legal k number t s y _ coherent few here at code (moves w flat) = moves_by k number t s y coherent few here at w flat code (slice_get y.slots w.slot) refl
variables_legal k number t s y _ coherent few here at code (assigns w o flat g) = assigns_by k number t s y coherent few here at w o flat code (slice_get y.slots w.slot) refl g
