-- An assignment to a variable in its cluster.
use Rattle.std.proofs.Common.{◌≡◌, ℕ, true, Some, None, refl, sym, ap, subst, ◌++◌}
use Rattle.std.specs.Prelude.{slice_get}
use Rattle.law_words_kept.specs.Below.fr_base.declared.place.Lval.{Lval}
use Rattle.law_words_kept.specs.Below.fr_base.declared.step.Fresh.TheVariants as fresh
use Rattle.law_words_kept.specs.Below.fr_base.declared.instruction.Operand.{Operand}
use Rattle.law_words_kept.specs.Below.fr_base.declared.instruction.Instr.TheVariants as instr
use Rattle.law_words_kept.specs.Below.heap_partition.declared.value.Owned.{Owned}
use Rattle.law_words_kept.specs.Below.journal.View.{EntryView}
use Rattle.law_words_kept.specs.Below.thread_state.View.{ThreadState}
use Rattle.law_words_kept.specs.Below.thread_state.declared.phase.Phase.{Phase}
use Rattle.law_words_kept.specs.Below.thread_state.declared.phase.Phase.TheVariants as phase
use Rattle.law_words_kept.specs.Below.thread_state.declared.value.Value.{Value}
use Rattle.law_words_kept.specs.Below.thread_state.declared.value.Value.TheVariants as value
use Rattle.law_words_kept.specs.Below.server_model.declared.event.What.TheVariants.{Step}
use Rattle.law_words_kept.specs.Below.server_model.Servers.{Server, Cluster, server_at}
use Rattle.law_words_kept.specs.Below.server_model.Work.{Hand, thread_in, without_thread, then_some, pop}
use Rattle.law_words_kept.specs.Below.server_model.Clusters.{apply}
use Rattle.law_words_kept.specs.Below.server_model.Places.{nowhere as no_spot, in_slot as spot_slot}
use Rattle.law_words_kept.specs.Below.server_model.Prepare.{ending, assigned, prepare}
use Rattle.law_words_kept.specs.Below.server_model.Commit.{goes_on, assign, replace_slot}
use Rattle.law_words_kept.specs.Below.server_model.Events.{enabled, Stepped, committed, prepared, step, does}
use Rattle.law_words_kept.specs.Below.coherent_memory.Things.{at_slot, servers_things}
use Rattle.law_words_kept.specs.Below.coherent_types.ClusterTypes.{IsCoherent}
use Rattle.law_words_kept.specs.Below.law_words_paths.paths.Pointing.{assigns}
use Rattle.law_words_kept.specs.Below.law_words_paths.words.Unmoved.{taking_by}
use Rattle.law_words_kept.specs.ends.Dropped.{written}
use Rattle.law_words_kept.specs.Below.law_counts_sums.Laws.{Gives, FewEvents}
use Rattle.law_words_kept.proofs.Below.law_counts_sums.RulesKeep.{sums_kept, sums_spend}
use Rattle.law_words_kept.proofs.Below.law_counts_sums.Bags.{all_standing}
use Rattle.law_words_kept.proofs.Below.law_counts_sums.Events.{others_of}
use Rattle.law_words_kept.proofs.Below.law_counts_sums.Steps.{step_keeps}
use Rattle.law_words_kept.proofs.Below.law_counts_sums.GiftsTaken.{gift_fits}
use Rattle.law_words_kept.proofs.stays.Steps.{TakesNoneHere}
use Rattle.law_words_kept.proofs.prepared.Asking.{found_number}
use Rattle.law_words_values.specs.carried.Steps.{IsOwnedOrGone, owns, gone, AssignsOver}
use Rattle.law_words_values.proofs.carried.Owned.{OwnsAlone}
use Rattle.law_words_values.proofs.carried.Hands.{GoesOver, words_go, ThereBy, Ok, Moved, h0, first_ok, moved_goes, assigned_goes, left_by, step_by}
use Rattle.law_words_values.proofs.carried.Steps.{goes_over}
use Rattle.law_words_values.proofs.carried.Gives.{given_alone}
use Rattle.law_words_values.proofs.carried.Assigning.{Put, puts, puts_over, fills}

assign_takes : (t : ℕ) (p : Phase) (w : Lval) (o : Operand) → taking_by t p (Some (instr.Assign w o)) ≡ None
assign_takes t (phase.Taken v) w o = refl
assign_takes t _ w o = refl

module _ (k : Cluster) (coherent : IsCoherent k) (s : Server) (here : server_at k.servers s.rest.number ≡ Some s) (t : ℕ) (y : ThreadState) (at : thread_in s.threads t ≡ Some y) (on : enabled k.options s (Step t) ≡ true) (w : Lval) (o : Operand)
    (code : slice_get k.code y.pc ≡ Some (instr.Assign w o)) (flat : w.depth ≡ 0) {R : Cluster → Cluster → Type 0} (go : GoesOver R) where
  abbrev n : ℕ
  n = s.rest.number

  abbrev h : Hand
  h = h0 k coherent.sound s here t y at

  none : TakesNoneHere k.code y
  none = subst (λ j. taking_by y.number y.phase j ≡ None) (sym code) (assign_takes y.number y.phase w o)

  free : y.gift ≡ None
  free = (gift_fits k coherent.sound n s here t y at (instr.Assign w o) code).0

  ok_steps : Gives (λ (d : Stepped). Ok k coherent.sound s here t y at d.hand) (step k.options.servers (instr.Assign w o) h)
  ok_steps = step_keeps sums_kept n s.events t (all_standing n (without_thread s.threads t) ++ servers_things (others_of k.servers n)) k.options.servers (instr.Assign w o) h tt (λ z. sums_spend) (first_ok k coherent.sound s here t y at)

  -- the step, where the variable has no reference
  flat_step : (P : Hand → Type 0) (v : Value) → slice_get y.slots w.slot ≡ Some v → ending (spot_slot w.slot) (Some v) ≡ None
      → Gives (λ (d : Stepped). P d.hand) (committed (goes_on (then_some (pop o h) (λ u. replace_slot w.slot no_spot u.item u.hand)))) → Gives (λ (d : Stepped). P d.hand) (step k.options.servers (instr.Assign w o) h)
  flat_step P v e calm g =
      subst (λ d. Gives (λ (x : Stepped). P x.hand) (prepared k.options.servers (instr.Assign w o) (prepare (assigned w d y) h))) (sym flat)
      (subst (λ a. Gives (λ (x : Stepped). P x.hand) (prepared k.options.servers (instr.Assign w o) (prepare a h))) (sym (ap (ending (spot_slot w.slot)) e))
      (subst (λ a. Gives (λ (x : Stepped). P x.hand) (prepared k.options.servers (instr.Assign w o) (prepare a h))) (sym calm)
      (subst (λ d. Gives (λ (x : Stepped). P x.hand) (committed (goes_on (assign w d o no_spot h)))) (sym flat) g)))

  over_owned : (u : Owned) → slice_get y.slots w.slot ≡ Some (value.Own u) → Gives (ThereBy R k s) (does k.code k.options s (Step t))
  over_owned u e =
      step_by R k coherent.sound s here t y at (instr.Assign w o) code (Put k.code n h none refl free w.slot)
      (λ h2 ok q. assigned_goes k coherent.sound s here t y at go h2 ok q.assigned (subst (λ j. OwnsAlone k (at_slot y.number j)) (sym q.place) (given_alone k coherent s here t y at on (instr.Assign w o) code w flat (written assigns)))) ok_steps
      (flat_step (Put k.code n h none refl free w.slot) (value.Own u) e refl (puts_over k.code n h none refl free w.slot (then_some (pop o h) (λ v. replace_slot w.slot no_spot v.item v.hand)) (puts k.code n h none refl free w.slot u e o)))

  over_gone : slice_get y.slots w.slot ≡ Some value.Gone → Gives (ThereBy R k s) (does k.code k.options s (Step t))
  over_gone e =
      step_by R k coherent.sound s here t y at (instr.Assign w o) code (Moved k.code n h) (moved_goes k coherent.sound s here t y at go) ok_steps
      (flat_step (Moved k.code n h) value.Gone e refl (goes_over k.code n h fresh.None (then_some (pop o h) (λ v. replace_slot w.slot no_spot v.item v.hand)) (fills k.code n h none refl free w.slot e o)))

  over : (v : Value) → IsOwnedOrGone v → slice_get y.slots w.slot ≡ Some v → Gives (ThereBy R k s) (does k.code k.options s (Step t))
  over _ (owns u) e = over_owned u e
  over _ gone e = over_gone e

-- what goes on does so there
pub assigns_go : {R : Cluster → Cluster → Type 0} → GoesOver R → (k : Cluster) (number t : ℕ) (s : Server) (y : ThreadState) (w : Lval) (o : Operand) (v : Value) → IsCoherent k → FewEvents k → server_at k.servers number ≡ Some s → thread_in s.threads t ≡ Some y → slice_get k.code y.pc ≡ Some (instr.Assign w o)
    → w.depth ≡ 0 → slice_get y.slots w.slot ≡ Some v → IsOwnedOrGone v → Gives (λ (d : Cluster × EntryView). R k d.0) (apply k (record { server = number; what = Step t }))
assigns_go {R = R} go k number t s y w o v coherent few here at code flat e is =
    subst (λ n. server_at k.servers n ≡ Some s → Gives (λ (d : Cluster × EntryView). R k d.0) (apply k (record { server = n; what = Step t }))) (found_number number k.servers s here)
    (λ h. left_by go k s t coherent.sound few h (λ on. over k coherent s h t y at on w o code flat go v is e)) here

-- so the words stay
pub assigns_over : AssignsOver
assigns_over = assigns_go words_go
