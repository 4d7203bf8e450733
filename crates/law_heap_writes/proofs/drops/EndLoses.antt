-- A thread ends whose result nobody will have, and which is in hand then: the thread is over, and all else of the plain state is as it was.
use Rattle.std.proofs.Common.{◌≡◌, ◌≢◌, ◌⊎◌, inl, inr, ℕ, zero, suc, ◌+◌, ◌||◌, not, Bool, true, false, if◌then◌else◌, List, [], ◌∷◌, Option, Some, None, refl, sym, ap, ap₂, ◌∙◌, arith}
use Rattle.std.specs.List.{AllByRecursion}
use Rattle.law_words_writes.specs.Below.law_results_reads.Below.fr_base.declared.label.Plain.{Plain}
use Rattle.law_words_writes.specs.Below.law_results_reads.Below.fr_base.declared.label.Plain.TheVariants as plain
use Rattle.law_words_writes.specs.Below.law_results_reads.Below.fr_base.declared.instruction.Operand.{Operand}
use Rattle.law_words_writes.specs.Below.law_results_reads.Below.fr_base.declared.instruction.Instr.{Instr}
use Rattle.law_words_writes.specs.Below.law_results_reads.Below.fr_base.declared.instruction.Instr.TheVariants as instr
use Rattle.law_words_writes.specs.Below.law_results_reads.Below.fr_plain.MachineThreads.{over}
use Rattle.law_words_writes.specs.Below.law_results_reads.Below.fr_code.Machine.{CodeRunning}
use Rattle.law_words_writes.specs.Below.law_results_reads.Below.heap_partition.Plain.{plain_of}
use Rattle.law_words_writes.specs.Below.law_results_reads.Below.heap_partition.declared.value.Owned.{Owned}
use Rattle.law_words_writes.specs.Below.law_results_reads.Below.thread_state.View.{ThreadState}
use Rattle.law_words_writes.specs.Below.law_results_reads.Below.thread_state.declared.value.Value.{Value}
use Rattle.law_words_writes.specs.Below.law_results_reads.Below.server_model.declared.event.Event.{Event}
use Rattle.law_words_writes.specs.Below.law_results_reads.Below.server_model.Servers.{Server, Cluster}
use Rattle.law_words_writes.specs.Below.law_results_reads.Below.coherent_memory.Names.{tot, one, some}
use Rattle.law_words_writes.specs.Below.law_results_reads.Below.coherent_memory.Things.{Thing, stands}
use Rattle.law_words_writes.specs.Below.law_results_reads.Below.coherent_memory.Follow.{threads_in, thread_at}
use Rattle.law_words_writes.specs.Below.law_results_reads.Below.coherent_memory.Sight.{Sight}
use Rattle.law_words_writes.specs.Below.law_results_reads.Below.coherent_memory.Naming.{started_at}
use Rattle.law_words_writes.specs.Below.law_results_reads.Below.coherent_memory.OneHeap.{Node, task_n, owns, is_in_state, is_branch, if_in, or_else, first_shown, in_pair_of, branch_result, result_value, result_of, ended_with, running_at, life_of, life_at, made_of, pair_of, is_given_thread, if_given, state_of}
use Rattle.law_words_writes.specs.Below.law_results_reads.Below.coherent_memory.Coherent.{IsSound}
use Rattle.law_words_writes.proofs.Below.law_results_reads.Below.law_counts_sums.Bags.{counts_of}
use Rattle.law_heap_steps.proofs.Below.law_heap_still.events.Alike.{Once}
use Rattle.law_heap_steps.proofs.turns.Parts.{Own, owned_in}
use Rattle.law_heap_steps.proofs.turns.OneTurn.{of_thread, Calm, as_loose, as_owing, going_of, going_is}
use Rattle.law_heap_steps.proofs.turns.Events.{AtStep}
use Rattle.law_heap_steps.proofs.mutexes.Beside.{IsBeside, first_with, tot_of, itself}
use Rattle.law_heap_steps.proofs.mutexes.OneThread as one_thread
use Rattle.law_heap_steps.proofs.mutexes.OneThread.{none_got, first_alike}
use Rattle.law_heap_steps.proofs.mutexes.Changed as changed
use Rattle.law_heap_steps.proofs.mutexes.SharedLines.{nothing_under}
use Rattle.law_heap_steps.proofs.threads.ThreadEnds as thread_ends
use Rattle.law_heap_steps.proofs.threads.ThreadEnds.{Ends, end_as}
use Rattle.law_heap_writes.proofs.drops.ThreadLoses as loses
use Rattle.law_heap_writes.proofs.drops.Soundly.{none_shown_of}

-- of two, the second shows nothing where both together don't
second_none : {A : Type 0} (a b : Option A) → or_else a b ≡ None → b ≡ None
second_none None b e = e
second_none (Some x) b e = absurd (cc e)

module _ (k : Cluster) (sound : IsSound k) (e : Event) (o : Operand) (s : Server) (t : ℕ) (x : ThreadState) (at : AtStep k e (instr.End o) s t x) (v : Owned) (rest : List Value)
    (even : (q : Node) → owned_in q x.slots + owned_in q x.temps ≡ owned_in q x.slots + owned_in q rest + one (owns q v)) where
  abbrev i : Instr
  i = instr.End o

  abbrev pub n : ℕ
  n = s.rest.number

  abbrev pub became : ThreadState
  became = thread_ends.became k sound e o s t x at v rest None

  pub bare : x.gift ≡ None
  bare = thread_ends.bare k sound e o s t x at v rest None

  abbrev G1 : List Thing
  G1 = loses.G1 k sound e i refl s t x at bare v became even

  abbrev Gv : List Thing
  Gv = loses.Gv k sound e i refl s t x at bare v became even

  abbrev Rest : List Thing
  Rest = loses.Rest k sound e i refl s t x at bare v became even

  abbrev y : ThreadState
  y = loses.y k sound e i refl s t x at bare v became even

  abbrev s1 : Sight
  s1 = loses.s1 k sound e i refl s t x at bare v became even

  abbrev sv : Sight
  sv = loses.with_it k sound e i refl s t x at bare v became even (Some v)

  beside1 : AllByRecursion IsBeside G1
  beside1 = loses.beside1 k sound e i refl s t x at bare v became even

  beside_v : AllByRecursion IsBeside Gv
  beside_v = loses.beside_v k sound e i refl s t x at bare v became even

  locks_v : one_thread.LocksStay k Rest G1 Gv n x became
  locks_v = loses.locks_v k sound e i refl s t x at bare v became even

  same_in : (q : Node) → false ≡ false → is_in_state s1 q ≡ is_in_state sv q
  same_in = loses.same_in k sound e i refl s t x at bare v became even

  abbrev owed : Sight → ℕ → Bool
  owed w r = is_branch w r || is_in_state w (task_n r)

  lone1 : tot (of_thread x.number) Rest ≡ 0
  lone1 = loses.lone1 k sound e i refl s t x at bare v became even

  calm : Calm x.phase
  calm = loses.calm k sound e i refl s t x at bare v became even

  alone : {A : Type 0} (f : List Thing → A) → f G1 ≡ f (counts_of n s.events s.rest ∷ [])
  alone = loses.alone k sound e i refl s t x at bare v became even

  -- THE THREAD'S RESULT SHOWS NOWHERE

  value_flat : (w : Sight) (r : ℕ) → Own (λ a. result_value w r a ≡ None)
  value_flat w r = record { slots = λ u j a. refl; temps = λ u j a. refl; shared = λ l m. refl; lent = λ l m. refl; marks = λ l m. refl; used = λ u m. refl }

  branch_flat : (r : ℕ) → Own (λ a. branch_result r a ≡ None)
  branch_flat r = record { slots = λ u j a. refl; temps = λ u j a. refl; shared = λ l w. refl; lent = λ l w. refl; marks = λ l w. refl; used = λ u w. refl }

  none_before : (first_shown (branch_result x.number) s1.things ≡ None) × (first_shown (result_value s1 x.number) s1.things ≡ None)
  none_before = none_shown_of s1 (changed.once_before k sound e s at.here t x at.at at.number) x.number _ (itself n x G1 Rest beside1) calm.goes

  rest_none : (first_shown (branch_result x.number) Rest ≡ None) × (first_shown (result_value s1 x.number) Rest ≡ None)
  rest_none =
      let r = x.number in (
        second_none (first_shown (branch_result r) G1) (first_shown (branch_result r) Rest) (second_none (branch_result r (stands n false x)) (or_else (first_shown (branch_result r) G1) (first_shown (branch_result r) Rest)) (sym (first_with n x G1 Rest (branch_result r) (branch_flat r)) ∙ none_before.0)),
        second_none (first_shown (result_value s1 r) G1) (first_shown (result_value s1 r) Rest)
            (second_none (result_value s1 r (stands n false x)) (or_else (first_shown (result_value s1 r) G1) (first_shown (result_value s1 r) Rest)) (sym (first_with n x G1 Rest (result_value s1 r) (value_flat s1 r)) ∙ none_before.1)),
      )

  if_none : (b : Bool) (z : Option Plain) → z ≡ None → if_in b z ≡ None
  if_none true z f = f
  if_none false z f = refl

  result_then : result_of sv x.number ≡ None
  result_then =
      let r = x.number in
      let branches : first_shown (branch_result r) sv.things ≡ None = first_with n y Gv Rest (branch_result r) (branch_flat r) ∙ rest_none.0 in
      let others : first_shown (result_value sv r) Rest ≡ None = sym (first_alike r (result_value s1 r) (result_value sv r) (one_thread.result_stays k Rest G1 Gv n x became beside1 beside_v lone1 locks_v r) Rest lone1) ∙ rest_none.1 in
      let values : first_shown (result_value sv r) sv.things ≡ None = first_with n y Gv Rest (result_value sv r) (value_flat sv r) ∙ others in
      ap₂ or_else branches (if_none (owed sv r) (first_shown (result_value sv r) sv.things) values)

  -- OTHER THREADS

  apart : (r : ℕ) → tot (in_pair_of r) G1 ≡ tot (in_pair_of r) Gv
  apart r = alone (tot (in_pair_of r))

  other_life : (r : ℕ) → x.number ≢ r → life_at s1 r (thread_at (threads_in s1.things) r) ≡ life_at sv r (thread_at (threads_in sv.things) r)
  other_life r ne =
      one_thread.life_goes_on k Rest G1 Gv n x became beside1 beside_v lone1 locks_v (λ q. false) (nothing_under s1 Rest) same_in r (apart r) refl (ap (λ m. if_in (some m) (Some plain.Unit)) (none_got r x.phase calm.alone)) refl (alone (first_shown (result_value s1 r))) ne

  given_same : (u : ℕ) → is_given_thread s1 u ≡ is_given_thread sv u
  given_same = one_thread.given_same k Rest G1 Gv n x became beside1 beside_v lone1 locks_v (λ h d. alone (tot (started_at h d)) ∙ omega arith)

  -- main, or a thread that was let go
  module _ (free : (x.number ≡ 0) ⊎ (owed s1 x.number ≡ false)) where
    over_so : (m : ℕ) → (m ≡ 0) ⊎ (owed s1 m ≡ false) → over ≡ end_as {P = CodeRunning} (going_of s1 m) (plain_of v)
    over_so zero f = refl
    over_so (suc m) (inl f) = absurd (cc f)
    over_so (suc m) (inr f) = sym (ap (λ c. end_as (if not c then as_loose else as_owing) (plain_of v)) f)

    pub ends : Ends x.number (plain_of v) (running_at x) (state_of s1) (state_of sv)
    ends =
        let given = changed.given k sound e s at.here t x at.at at.number in
        record {
          way = going_of s1 x.number;
          before = ap₂ if_given given (ap (life_at s1 x.number) (itself n x G1 Rest beside1) ∙ ap (life_of s1 x) calm.goes ∙ going_is s1 x.number (running_at x));
          afterwards = ap₂ if_given (sym (given_same x.number) ∙ given) (ap (life_at sv x.number) (itself n y Gv Rest beside_v) ∙ ap ended_with result_then ∙ over_so x.number free);
          others = λ u ne. ap₂ if_given (given_same u) (other_life u ne);
          unmade = ap made_of (itself n y Gv Rest beside_v);
          made = λ u ne. ap made_of (one_thread.other_seen k Rest G1 Gv n x became beside1 beside_v lone1 u ne);
          alone = ap pair_of (itself n y Gv Rest beside_v);
          pairs = λ u ne. ap pair_of (one_thread.other_seen k Rest G1 Gv n x became beside1 beside_v lone1 u ne);
          objects = loses.objects_on k sound e i refl s t x at bare v became even;
          mutexes = loses.mutexes_on k sound e i refl s t x at bare v became even;
          given = loses.names_on k sound e i refl s t x at bare v became even;
        }

    pub way_is : ends.way ≡ going_of s1 x.number
    unfolding ends
    way_is = refl

    -- it doesn't go on as one whose result somebody will have
    pub not_owing : ends.way ≡ as_owing → ⊥
    unfolding ends
    not_owing = by x.number free
      where
        by : (m : ℕ) → (m ≡ 0) ⊎ (owed s1 m ≡ false) → going_of s1 m ≡ as_owing → ⊥
        by zero f g = cc g
        by (suc m) (inl f) g = cc f
        by (suc m) (inr f) g = cc (sym (ap (λ c. if not c then as_loose else as_owing) f) ∙ g)

  -- it is no branch then, where it was none
  pub branch_same : (r : ℕ) → is_branch s1 r ≡ is_branch (loses.s2 k sound e i refl s t x at bare v became even) r
  branch_same r =
      let f = in_pair_of r in
      let flat : Own (λ a. f a ≡ 0) = record { slots = λ u j a. refl; temps = λ u j a. refl; shared = λ l w. refl; lent = λ l w. refl; marks = λ l w. refl; used = λ u w. refl } in
      let none : tot f G1 ≡ 0 = alone (tot f) in
      let same : tot f s1.things ≡ tot f (loses.s2 k sound e i refl s t x at bare v became even).things = omega (arith, none, tot_of n x G1 Rest f flat, tot_of n y (loses.G2 k sound e i refl s t x at bare v became even) Rest f flat) in
      ap some same

  pub once_then : Once (loses.s2 k sound e i refl s t x at bare v became even)
  once_then = thread_ends.once_then k sound e o s t x at v rest None (λ z. refl)
