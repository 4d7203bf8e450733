-- Steps of these instructions in their cluster.
use Rattle.std.proofs.Common.{◌≡◌, ℕ, ◌++◌, Some, None, refl, sym, subst}
use Rattle.std.specs.Prelude.{slice_get}
use Rattle.law_words_kept.specs.Below.fr_base.declared.step.Fresh.TheVariants as fresh
use Rattle.law_words_kept.specs.Below.fr_base.declared.instruction.Operand.{Operand}
use Rattle.law_words_kept.specs.Below.fr_base.declared.instruction.Instr.{Instr}
use Rattle.law_words_kept.specs.Below.fr_base.declared.instruction.Instr.TheVariants as instr
use Rattle.law_words_kept.specs.Below.journal.View.{EntryView}
use Rattle.law_words_kept.specs.Below.thread_state.View.{ThreadState}
use Rattle.law_words_kept.specs.Below.thread_state.declared.phase.Phase.{Phase}
use Rattle.law_words_kept.specs.Below.thread_state.declared.phase.Phase.TheVariants as phase
use Rattle.law_words_kept.specs.Below.thread_state.declared.value.Value.{Value}
use Rattle.law_words_kept.specs.Below.thread_state.declared.value.Value.TheVariants as value
use Rattle.law_words_kept.specs.Below.server_model.declared.event.What.TheVariants.{Step}
use Rattle.law_words_kept.specs.Below.server_model.Servers.{Server, Cluster, server_at}
use Rattle.law_words_kept.specs.Below.server_model.Work.{Hand, last_of, thread_in, without_thread, then_some, pop_owned}
use Rattle.law_words_kept.specs.Below.server_model.Clusters.{apply}
use Rattle.law_words_kept.specs.Below.server_model.Prepare.{ending, prepare}
use Rattle.law_words_kept.specs.Below.server_model.Places.{on_top, nowhere as no_spot}
use Rattle.law_words_kept.specs.Below.server_model.Commit.{let_slot, mutex_made, discard}
use Rattle.law_words_kept.specs.Below.server_model.Events.{Stepped, step, prepared}
use Rattle.law_words_kept.specs.Below.coherent_memory.Things.{servers_things}
use Rattle.law_words_kept.specs.Below.coherent_memory.Coherent.{IsSound}
use Rattle.law_words_kept.specs.Below.law_words_paths.words.Unmoved.{taking_by}
use Rattle.law_words_kept.specs.Below.law_counts_sums.Kinds.{instr_kind}
use Rattle.law_words_kept.specs.Below.law_counts_sums.Laws.{Gives, FewEvents}
use Rattle.law_words_kept.proofs.Below.law_counts_sums.Proved.{IsProvedKind}
use Rattle.law_words_kept.proofs.Below.law_counts_sums.RulesKeep.{sums_kept, sums_spend}
use Rattle.law_words_kept.proofs.Below.law_counts_sums.Bags.{all_standing}
use Rattle.law_words_kept.proofs.Below.law_counts_sums.Events.{others_of}
use Rattle.law_words_kept.proofs.Below.law_counts_sums.Steps.{step_keeps}
use Rattle.law_words_kept.proofs.Below.law_counts_sums.GiftsTaken.{gift_fits}
use Rattle.law_words_kept.proofs.stays.Steps.{TakesNoneHere}
use Rattle.law_words_kept.proofs.prepared.Asking.{found_number}
use Rattle.law_words_values.specs.carried.Steps.{CarriesOne, a_let, a_mutex, a_join, an_end, StepsCarry, IsNoReference, DiscardsCarry}
use Rattle.law_words_values.proofs.carried.Hands.{GoesOver, words_go, Ok, Moved, h0, first_ok, moved_goes, left_by, step_by}
use Rattle.law_words_values.proofs.carried.Steps.{goes_over, lets, mutexes, ends, discards, joins}

-- WHICH INSTRUCTIONS TAKE NOTHING

let_takes : (t : ℕ) (p : Phase) (o : Operand) → taking_by t p (Some (instr.Let o)) ≡ None
let_takes t (phase.Taken w) o = refl
let_takes t _ o = refl

mutex_takes : (t : ℕ) (p : Phase) (o : Operand) → taking_by t p (Some (instr.Mutex o)) ≡ None
mutex_takes t (phase.Taken w) o = refl
mutex_takes t _ o = refl

join_takes : (t : ℕ) (p : Phase) (o : Operand) → taking_by t p (Some (instr.Join o)) ≡ None
join_takes t (phase.Taken w) o = refl
join_takes t _ o = refl

end_takes : (t : ℕ) (p : Phase) (o : Operand) → taking_by t p (Some (instr.End o)) ≡ None
end_takes t (phase.Taken w) o = refl
end_takes t _ o = refl

discard_takes : (t : ℕ) (p : Phase) → taking_by t p (Some instr.Discard) ≡ None
discard_takes t (phase.Taken w) = refl
discard_takes t _ = refl

module _ (k : Cluster) (sound : IsSound k) (s : Server) (here : server_at k.servers s.rest.number ≡ Some s) (t : ℕ) (y : ThreadState) (at : thread_in s.threads t ≡ Some y) where
  abbrev n : ℕ
  n = s.rest.number

  abbrev h : Hand
  h = h0 k sound s here t y at

  ok_steps : (i : Instr) → IsProvedKind (instr_kind i) → Gives (λ (d : Stepped). Ok k sound s here t y at d.hand) (step k.options.servers i h)
  ok_steps i p = step_keeps sums_kept n s.events t (all_standing n (without_thread s.threads t) ++ servers_things (others_of k.servers n)) k.options.servers i h p (λ z. sums_spend) (first_ok k sound s here t y at)

  untaken : (i : Instr) → slice_get k.code y.pc ≡ Some i → taking_by y.number y.phase (Some i) ≡ None → TakesNoneHere k.code y
  untaken i code e = subst (λ j. taking_by y.number y.phase j ≡ None) (sym code) e

  steps_by : (i : Instr) → slice_get k.code y.pc ≡ Some i → CarriesOne i → Gives (λ (d : Stepped). Moved k.code n h d.hand) (step k.options.servers i h)
  steps_by _ code (a_let o) = goes_over k.code n h fresh.None (let_slot o h) (lets k.code n h (untaken (instr.Let o) code (let_takes y.number y.phase o)) (gift_fits k sound n s here t y at (instr.Let o) code).0 o)
  steps_by _ code (a_mutex o) = goes_over k.code n h _ (then_some (pop_owned o h) (λ u. mutex_made u.item u.hand)) (mutexes k.code n h (untaken (instr.Mutex o) code (mutex_takes y.number y.phase o)) (gift_fits k sound n s here t y at (instr.Mutex o) code).0 o)
  steps_by _ code (a_join o) = joins k.code n h (untaken (instr.Join o) code (join_takes y.number y.phase o)) refl o y.gift refl
  steps_by _ code (an_end o) = ends k.code n h (untaken (instr.End o) code (end_takes y.number y.phase o)) (gift_fits k sound n s here t y at (instr.End o) code).0 refl o

  proved : (i : Instr) → CarriesOne i → IsProvedKind (instr_kind i)
  proved _ (a_let o) = tt
  proved _ (a_mutex o) = tt
  proved _ (a_join o) = tt
  proved _ (an_end o) = tt

  discards_by : slice_get k.code y.pc ≡ Some instr.Discard → (v : Value) → last_of y.temps ≡ Some v → IsNoReference v → Gives (λ (d : Stepped). Moved k.code n h d.hand) (step k.options.servers instr.Discard h)
  discards_by code v e a = subst (λ o. Gives (λ (d : Stepped). Moved k.code n h d.hand) (prepared k.options.servers instr.Discard (prepare (ending on_top o) h))) (sym e) (by v a)
    where
      done : Gives (λ (d : Stepped). Moved k.code n h d.hand) (prepared k.options.servers instr.Discard (prepare None h))
      done = goes_over k.code n h fresh.None (discard no_spot h) (discards k.code n h (untaken instr.Discard code (discard_takes y.number y.phase)) (gift_fits k sound n s here t y at instr.Discard code).0 refl v e a)

      by : (w : Value) → IsNoReference w → Gives (λ (d : Stepped). Moved k.code n h d.hand) (prepared k.options.servers instr.Discard (prepare (ending on_top (Some w)) h))
      by (value.Own u) b = done
      by (value.SharedSlot i) b = done
      by (value.MutSlot i) b = done
      by value.Gone b = done
      by (value.Held m) b = done
      by (value.Shared r) b = absurd b
      by (value.Mut r) b = absurd b

-- what goes on does so there
pub steps_go : {R : Cluster → Cluster → Type 0} → GoesOver R → (k : Cluster) (number t : ℕ) (s : Server) (y : ThreadState) (i : Instr) → IsSound k → FewEvents k → server_at k.servers number ≡ Some s → thread_in s.threads t ≡ Some y → slice_get k.code y.pc ≡ Some i → CarriesOne i
    → Gives (λ (d : Cluster × EntryView). R k d.0) (apply k (record { server = number; what = Step t }))
steps_go {R = R} go k number t s y i sound few here at code c =
    subst (λ n. server_at k.servers n ≡ Some s → Gives (λ (d : Cluster × EntryView). R k d.0) (apply k (record { server = n; what = Step t }))) (found_number number k.servers s here)
    (λ h. left_by go k s t sound few h (λ on. step_by R k sound s h t y at i code (Moved k.code s.rest.number (h0 k sound s h t y at)) (moved_goes k sound s h t y at go) (ok_steps k sound s h t y at i (proved k sound s h t y at i c)) (steps_by k sound s h t y at i code c))) here

pub discards_go : {R : Cluster → Cluster → Type 0} → GoesOver R → (k : Cluster) (number t : ℕ) (s : Server) (y : ThreadState) (v : Value) → IsSound k → FewEvents k → server_at k.servers number ≡ Some s → thread_in s.threads t ≡ Some y → slice_get k.code y.pc ≡ Some instr.Discard → last_of y.temps ≡ Some v → IsNoReference v
    → Gives (λ (d : Cluster × EntryView). R k d.0) (apply k (record { server = number; what = Step t }))
discards_go {R = R} go k number t s y v sound few here at code e a =
    subst (λ n. server_at k.servers n ≡ Some s → Gives (λ (d : Cluster × EntryView). R k d.0) (apply k (record { server = n; what = Step t }))) (found_number number k.servers s here)
    (λ h. left_by go k s t sound few h (λ on. step_by R k sound s h t y at instr.Discard code (Moved k.code s.rest.number (h0 k sound s h t y at)) (moved_goes k sound s h t y at go) (ok_steps k sound s h t y at instr.Discard tt) (discards_by k sound s h t y at code v e a))) here

-- so the words stay
pub steps_carry : StepsCarry
steps_carry = steps_go words_go

pub discards_carry : DiscardsCarry
discards_carry = discards_go words_go
