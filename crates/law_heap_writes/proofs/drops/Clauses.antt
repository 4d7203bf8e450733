-- Each of the instructions that drop a value, whatever is dropped.
use Rattle.std.proofs.Common.{◌≡◌, ℕ, ◌==◌, true, length, Option, Some, None, option_map, refl, sym, ap, ◌∙◌, subst}
use Rattle.std.specs.Prelude.{◌-◌, slice_get}
use Rattle.law_words_writes.proofs.Below.law_results_reads.Below.fr_typing.PlaceLemmas.{eq_cases}
use Rattle.law_words_writes.specs.Below.law_results_reads.Below.fr_base.Lists.{last_of}
use Rattle.law_words_writes.specs.Below.law_results_reads.Below.fr_base.declared.place.Lval.{Lval}
use Rattle.law_words_writes.specs.Below.law_results_reads.Below.fr_base.declared.instruction.Operand.{Operand}
use Rattle.law_words_writes.specs.Below.law_results_reads.Below.fr_base.declared.instruction.Instr.{Instr}
use Rattle.law_words_writes.specs.Below.law_results_reads.Below.fr_base.declared.instruction.Instr.TheVariants as instr
use Rattle.law_words_writes.specs.Below.law_results_reads.Below.heap_partition.declared.value.Owned.{Owned}
use Rattle.law_words_writes.specs.Below.law_results_reads.Below.thread_state.View.{ThreadState}
use Rattle.law_words_writes.specs.Below.law_results_reads.Below.thread_state.declared.value.Value.{Value}
use Rattle.law_words_writes.specs.Below.law_results_reads.Below.thread_state.declared.value.Value.TheVariants as value
use Rattle.law_words_writes.specs.Below.law_results_reads.Below.server_model.declared.event.Event.{Event}
use Rattle.law_words_writes.specs.Below.law_results_reads.Below.server_model.declared.event.What.{What}
use Rattle.law_words_writes.specs.Below.law_results_reads.Below.server_model.declared.event.What.TheVariants.{Step, Deliver, Evict, Migrate}
use Rattle.law_words_writes.specs.Below.law_results_reads.Below.server_model.Servers.{Server, Cluster, server_at}
use Rattle.law_words_writes.specs.Below.law_results_reads.Below.server_model.Work.{Hand, Popped, pop, front_of, with_slots, with_temps, then_some, thread_in}
use Rattle.law_words_writes.specs.Below.law_results_reads.Below.server_model.Places.{put_slot, nowhere, in_slot, on_top}
use Rattle.law_words_writes.specs.Below.law_results_reads.Below.server_model.Prepare.{prepare, ending}
use Rattle.law_words_writes.specs.Below.law_results_reads.Below.server_model.Drop.{drop_value}
use Rattle.law_words_writes.specs.Below.law_results_reads.Below.server_model.Commit.{goes_on, label_dropped, replace_slot}
use Rattle.law_words_writes.specs.Below.law_results_reads.Below.server_model.Events.{Stepped, stepped, begin_work, committed, prepared, step}
use Rattle.law_words_writes.specs.Below.law_results_reads.Below.server_model.Clusters.{hand_over_newer, apply}
use Rattle.law_words_writes.specs.Below.law_results_reads.Below.coherent_memory.Coherent.{IsSound}
use Rattle.law_words_writes.specs.Below.law_results_reads.Below.law_counts_sums.Laws.{Gives, FewEvents}
use Rattle.law_heap_steps.specs.turns.Turns.{IsPlainStep, instr_at, instr_of, ArePlainSteps, none_goes, thread_at, thread_of}
use Rattle.law_heap_steps.proofs.turns.Clauses.{same_thread}
use Rattle.law_heap_steps.proofs.turns.Clauses as turns
use Rattle.law_heap_steps.proofs.turns.Instructions.{PopsTo, itself as same_value, popped}
use Rattle.law_heap_steps.proofs.turns.Events.{Sends, events_are_plain}
use Rattle.law_heap_writes.specs.drops.Drops.{discards as is_discard, drops_slot, assigns_variable}
use Rattle.law_heap_writes.proofs.drops.DropLines.{discard_line, drop_line, variable, assign_line}

-- an event at an instruction is one of a thread
pub stepping : (k : Cluster) (e : Event) (i : Instr) → instr_of k e ≡ Some i → (y : ThreadState) × (thread_of k e ≡ Some y)
stepping k e i q = of_server (server_at k.servers e.server) q
  where
    of_thread : (o : Option ThreadState) → then_some o (λ x. slice_get k.code x.pc) ≡ Some i → (y : ThreadState) × (o ≡ Some y)
    of_thread None f = absurd (cc f)
    of_thread (Some y) f = (y, refl)

    of_what : (s : Server) (w : What) → instr_at k w s ≡ Some i → (y : ThreadState) × (thread_at w s ≡ Some y)
    of_what s (Step t) f = of_thread (thread_in s.threads t) f
    of_what s (Deliver n) f = absurd (cc f)
    of_what s (Evict w) f = absurd (cc f)
    of_what s (Migrate t n) f = absurd (cc f)

    of_server : (o : Option Server) → then_some o (instr_at k e.what) ≡ Some i → (y : ThreadState) × (then_some o (thread_at e.what) ≡ Some y)
    of_server None f = absurd (cc f)
    of_server (Some s) f = of_what s e.what f

-- what lets nothing go, or an owned value
either : (o : Option Value) (C : Type 0) → (o ≡ None → C) → ((v : Owned) → o ≡ Some (value.Own v) → C) → (none_goes o ≡ true → C) → C
either None C none own flat = none refl
either (Some (value.Own v)) C none own flat = own v refl
either (Some value.Gone) C none own flat = flat refl
either (Some (value.SharedSlot i)) C none own flat = flat refl
either (Some (value.MutSlot i)) C none own flat = flat refl
either (Some (value.Shared r)) C none own flat = flat refl
either (Some (value.Mut r)) C none own flat = flat refl
either (Some (value.Held m)) C none own flat = flat refl

-- where there is nothing to drop, no step is done
module _ (k : Cluster) (e : Event) (s : Server) (x : ThreadState) where
  abbrev start : Hand
  start = record { work = begin_work s.rest; thread = x }

  abbrev Wanted : Stepped → Type 0
  Wanted d = Sends k e s (stepped s d) → IsPlainStep k (record k { servers = hand_over_newer e.server (length s.rest.outbox) (stepped s d).0 k.servers }, (stepped s d).1)

  no_discard : last_of x.temps ≡ None → Gives Wanted (step k.options.servers instr.Discard start)
  no_discard f =
      subst (λ l. Gives Wanted (prepared k.options.servers instr.Discard (prepare (ending on_top l) start))) (sym f)
      (subst (λ l. Gives Wanted (committed (goes_on (then_some {X = Popped Value} (option_map (λ z. record { item = z; hand = with_temps (front_of x.temps) start }) l) (λ z. drop_value nowhere z.item (label_dropped z.item z.hand)))))) (sym f) tt)

  no_drop : last_of x.slots ≡ None → Gives Wanted (step k.options.servers instr.DropSlot start)
  no_drop f =
      subst (λ l. Gives Wanted (prepared k.options.servers instr.DropSlot (prepare (ending (in_slot (length x.slots - 1)) l) start))) (sym f)
      (subst (λ l. Gives Wanted (committed (goes_on (then_some {X = Popped Value} (option_map (λ z. record { item = z; hand = with_slots (front_of x.slots) start }) l) (λ z. drop_value nowhere z.item (label_dropped z.item z.hand)))))) (sym f) tt)

  no_assign : (j : ℕ) (o : Operand) → slice_get x.slots j ≡ None → Gives Wanted (step k.options.servers (instr.Assign (variable j) o) start)
  no_assign j o f = subst (λ l. Gives Wanted (prepared k.options.servers (instr.Assign (variable j) o) (prepare (ending (in_slot j) l) start))) (sym f) (by (pop o start) (popped o start))
    where
      by : (z : Option (Popped Value)) → Gives (PopsTo o start same_value) z → Gives Wanted (committed (goes_on (then_some z (λ p. replace_slot j nowhere p.item p.hand))))
      by None g = tt
      by (Some p) g =
          subst (λ h. Gives Wanted (committed (goes_on (replace_slot j nowhere p.item h)))) (sym g.hand)
          (subst (λ l. Gives Wanted (committed (goes_on (then_some l (λ z. then_some (put_slot j p.item (label_dropped z (with_temps g.rest start))) (drop_value nowhere z)))))) (sym f) tt)

abbrev at_depth : ℕ → ℕ → Lval
at_depth j d = record { slot = j; depth = d }

-- a place without a star is a variable
is_variable : (w : Lval) → (w.depth == 0) ≡ true → w ≡ variable w.slot
is_variable w = eq_cases (λ b. b ≡ true → w ≡ variable w.slot) w.depth 0 (λ e z. ap (at_depth w.slot) e) (λ ne z. absurd (cc z))

module _ (k : Cluster) (e : Event) (sound : IsSound k) (few : FewEvents k) (y : ThreadState) (th : thread_of k e ≡ Some y) where
  abbrev Plain : Type 0
  Plain = Gives (IsPlainStep k) (apply k e)

  discarded : instr_of k e ≡ Some instr.Discard → Plain
  discarded q = either (last_of y.temps) Plain none own (λ it. turns.discards k e instr.Discard y q th it sound few)
    where
      none : last_of y.temps ≡ None → Plain
      none f =
          events_are_plain k e instr.Discard sound few (λ s t x at. no_discard k e s x (ap (λ (z : ThreadState). last_of z.temps) (same_thread k e instr.Discard s t x y at th) ∙ f)) q

      own : (v : Owned) → last_of y.temps ≡ Some (value.Own v) → Plain
      own v f = events_are_plain k e instr.Discard sound few (λ s t x at. discard_line k sound e s t x v at (ap (λ (z : ThreadState). last_of z.temps) (same_thread k e instr.Discard s t x y at th) ∙ f)) q

  dropped : instr_of k e ≡ Some instr.DropSlot → Plain
  dropped q = either (last_of y.slots) Plain none own (λ it. turns.drops k e instr.DropSlot y q th it sound few)
    where
      none : last_of y.slots ≡ None → Plain
      none f = events_are_plain k e instr.DropSlot sound few (λ s t x at. no_drop k e s x (ap (λ (z : ThreadState). last_of z.slots) (same_thread k e instr.DropSlot s t x y at th) ∙ f)) q

      own : (v : Owned) → last_of y.slots ≡ Some (value.Own v) → Plain
      own v f = events_are_plain k e instr.DropSlot sound few (λ s t x at. drop_line k sound e s t x v at (ap (λ (z : ThreadState). last_of z.slots) (same_thread k e instr.DropSlot s t x y at th) ∙ f)) q

  assigned : (j : ℕ) (o : Operand) → instr_of k e ≡ Some (instr.Assign (variable j) o) → Plain
  assigned j o q = either (slice_get y.slots j) Plain none own (λ it. turns.replaces k e (instr.Assign (variable j) o) y q th it sound few)
    where
      none : slice_get y.slots j ≡ None → Plain
      none f =
          events_are_plain k e (instr.Assign (variable j) o) sound few
          (λ s t x at. no_assign k e s x j o (ap (λ (z : ThreadState). slice_get z.slots j) (same_thread k e (instr.Assign (variable j) o) s t x y at th) ∙ f)) q

      own : (v : Owned) → slice_get y.slots j ≡ Some (value.Own v) → Plain
      own v f =
          events_are_plain k e (instr.Assign (variable j) o) sound few
          (λ s t x at. assign_line k sound e s t x v j o at (ap (λ (z : ThreadState). slice_get z.slots j) (same_thread k e (instr.Assign (variable j) o) s t x y at th) ∙ f)) q

pub discards : ArePlainSteps IsSound is_discard
discards k e i q it sound few = let y = stepping k e i q in by i q it y.0 y.1
  where
    by : (i : Instr) → instr_of k e ≡ Some i → is_discard i ≡ true → (y : ThreadState) → thread_of k e ≡ Some y → Gives (IsPlainStep k) (apply k e)
    by instr.Discard q it y th = discarded k e sound few y th q
    by _ q it y th = absurd (cc it)

pub drops : ArePlainSteps IsSound drops_slot
drops k e i q it sound few = let y = stepping k e i q in by i q it y.0 y.1
  where
    by : (i : Instr) → instr_of k e ≡ Some i → drops_slot i ≡ true → (y : ThreadState) → thread_of k e ≡ Some y → Gives (IsPlainStep k) (apply k e)
    by instr.DropSlot q it y th = dropped k e sound few y th q
    by _ q it y th = absurd (cc it)

pub assigns : ArePlainSteps IsSound assigns_variable
assigns k e i q it sound few = let y = stepping k e i q in by i q it y.0 y.1
  where
    by : (i : Instr) → instr_of k e ≡ Some i → assigns_variable i ≡ true → (y : ThreadState) → thread_of k e ≡ Some y → Gives (IsPlainStep k) (apply k e)
    by (instr.Assign w o) q it y th = assigned k e sound few y th w.slot o (subst (λ z. instr_of k e ≡ Some (instr.Assign z o)) (is_variable w it) q)
    by _ q it y th = absurd (cc it)
