-- The end of a thread in the one heap: it is over, with its result where somebody will have it, and all else is as it was.
use Rattle.std.proofs.Common.{◌≡◌, ◌≢◌, ℕ, zero, suc, ◌+◌, ◌≤◌, ◌==◌, ◌&&◌, ◌||◌, not, Bool, true, false, if◌then◌else◌, List, [], ◌∷◌, ◌++◌, Option, Some, None, is_some, option_map, refl, sym, ap, ap₂, ◌∙◌, arith}
use Rattle.std.specs.List.{AllByRecursion}
use Rattle.law_heap_steps.proofs.Below.fr_typing.PlaceLemmas.{eq_cases}
use Rattle.law_heap_steps.specs.Below.fr_base.declared.name.MutexNo.{MutexNo}
use Rattle.law_heap_steps.specs.Below.fr_base.declared.name.ObjNo.{ObjNo}
use Rattle.law_heap_steps.specs.Below.fr_base.declared.label.Plain.{Plain}
use Rattle.law_heap_steps.specs.Below.fr_base.declared.label.Plain.TheVariants as plain
use Rattle.law_heap_steps.specs.Below.fr_base.declared.instruction.Operand.{Operand}
use Rattle.law_heap_steps.specs.Below.fr_base.declared.instruction.Instr.{Instr}
use Rattle.law_heap_steps.specs.Below.fr_base.declared.instruction.Instr.TheVariants as instr
use Rattle.law_heap_steps.specs.Below.fr_plain.declared.value.Value.TheVariants.{Own as OwnValue}
use Rattle.law_heap_steps.specs.Below.fr_plain.MachineThreads.{Life, over, ended}
use Rattle.law_heap_steps.specs.Below.fr_code.Machine.{CodeState, CodeRunning}
use Rattle.law_heap_steps.specs.Below.heap_partition.Plain.{plain_of}
use Rattle.law_heap_steps.specs.Below.heap_partition.declared.value.Owned.{Owned}
use Rattle.law_heap_steps.specs.Below.thread_state.View.{ThreadState, is_over}
use Rattle.law_heap_steps.specs.Below.thread_state.declared.phase.Phase.TheVariants as phase
use Rattle.law_heap_steps.specs.Below.thread_state.declared.value.Value.{Value}
use Rattle.law_heap_steps.specs.Below.server_model.declared.event.Event.{Event}
use Rattle.law_heap_steps.specs.Below.server_model.Servers.{Server, Cluster}
use Rattle.law_heap_steps.specs.Below.coherent_memory.Names.{tot, one, some}
use Rattle.law_heap_steps.specs.Below.coherent_memory.Things.{as_result, Thing, holds, stands, gift_things}
use Rattle.law_heap_steps.specs.Below.coherent_memory.Follow.{threads_in, thread_at}
use Rattle.law_heap_steps.specs.Below.coherent_memory.Sight.{Sight}
use Rattle.law_heap_steps.specs.Below.coherent_memory.Sharing.{has_ended}
use Rattle.law_heap_steps.specs.Below.coherent_memory.Naming.{started_at, made_at}
use Rattle.law_heap_steps.specs.Below.coherent_memory.Weights.{is_thread}
use Rattle.law_heap_steps.specs.Below.coherent_memory.OneHeap.{Node, task_n, mutex_n, any_named, is_in_state, is_branch, if_in, or_else, first_shown, cell_value, share_in, content_value, in_pair_of, branch_result, result_value, result_of, ended_with, running_at, life_of, life_at, made_of, pair_of, is_given_thread, if_given, state_of}
use Rattle.law_heap_steps.specs.Below.coherent_memory.Coherent.{IsSound}
use Rattle.law_heap_steps.proofs.Below.law_counts_sums.Bags.{counts_of}
use Rattle.law_heap_steps.proofs.Below.law_counts_sums.GiftsTaken.{gift_fits}
use Rattle.law_heap_steps.proofs.Below.law_heap_still.events.Alike.{Once}
use Rattle.law_heap_steps.proofs.Below.law_heap_still.events.Counting.{shown_result}
use Rattle.law_heap_steps.proofs.Below.law_heap_still.events.Told.{told, ones, at_most}
use Rattle.law_heap_steps.proofs.turns.Parts.{Own, owned_in}
use Rattle.law_heap_steps.proofs.turns.OneTurn.{Going, as_main, as_loose, as_owing, life_as, going_of, going_is, of_thread, Calm, after}
use Rattle.law_heap_steps.proofs.turns.Events.{AtStep}
use Rattle.law_heap_steps.proofs.mutexes.Reach.{or_right}
use Rattle.law_heap_steps.proofs.mutexes.Beside.{IsBeside, IsLoose, loose_beside, all_so, gift_uncounted, first_with, tot_of, itself, cells_of}
use Rattle.law_heap_steps.proofs.mutexes.OneNode as one_node
use Rattle.law_heap_steps.proofs.mutexes.OneNode.{named_under, owned_under}
use Rattle.law_heap_steps.proofs.mutexes.OneThread as one_thread
use Rattle.law_heap_steps.proofs.mutexes.OneThread.{next, none_got, first_alike}
use Rattle.law_heap_steps.proofs.mutexes.Changed as changed
use Rattle.law_heap_steps.proofs.mutexes.SharedLines.{nothing_under}
use Rattle.law_heap_steps.proofs.mutexes.ThreadTurns.{G, R, before, then_there, quiet, loose}
use Rattle.law_heap_steps.proofs.threads.Taken.{none_shown_there, none_if}

-- how a thread has ended that went on in that way
abbrev pub end_as : {P : Type 0} → Going → Plain → Life P
end_as as_main v = over
end_as as_owing v = ended (OwnValue v)
end_as as_loose v = over

-- the thread has ended with that value, and the others are as they were
pub record Ends (t : ℕ) (v : Plain) (p : CodeRunning) (a b : CodeState) : Type 0 where
  pub way : Going
  pub before : a.thread t ≡ Some (life_as way p)
  pub afterwards : b.thread t ≡ Some (end_as way v)
  pub others : (u : ℕ) → t ≢ u → a.thread u ≡ b.thread u
  pub unmade : b.made t ≡ 0
  pub made : (u : ℕ) → t ≢ u → a.made u ≡ b.made u
  pub alone : b.pair t ≡ None
  pub pairs : (u : ℕ) → t ≢ u → a.pair u ≡ b.pair u
  pub objects : (o : ObjNo) → a.object o ≡ b.object o
  pub mutexes : (m : MutexNo) → a.mutex m ≡ b.mutex m
  pub given : (m : MutexNo) → a.is_given m ≡ b.is_given m

-- the result goes to the thread's home, or nothing does
abbrev pub out_things : ℕ → Option Owned → List Thing
out_things t None = []
out_things t (Some v) = holds (as_result t) v ∷ []

and_none : (p : Bool) → p && false ≡ false
and_none true = refl
and_none false = refl

none_else : {A : Type 0} (o : Option A) → or_else o None ≡ o
none_else None = refl
none_else (Some a) = refl

same_number : (t : ℕ) → (t == t) ≡ true
same_number t = eq_cases (λ b. b ≡ true) t t (λ _. refl) (λ ne. absurd (ne refl))

ended_here : (t : ℕ) (x : Thing) → has_ended t x ≤ of_thread t x
ended_here t (stands r p x) = at_most_one (x.number == t) (not (x.number == 0) && is_over x.phase)
  where
    at_most_one : (p q : Bool) → one (p && q) ≤ one p
    at_most_one true true = omega arith
    at_most_one true false = omega arith
    at_most_one false q = omega arith
ended_here t _ = omega arith

-- WHAT GOES OUT

module _ (c : Thing) (loose : IsLoose c) (t : ℕ) where
  out_loose : (sent : Option Owned) → AllByRecursion IsLoose (c ∷ out_things t sent)
  out_loose None = (loose, tt)
  out_loose (Some v) = (loose, (tt, tt))

module _ (t n e : ℕ) (r : Sight) (c : Thing) where
  -- it shows nothing but the result, and that of its thread alone
  out_result : (u : ℕ) (sent : Option Owned) → result_value r u c ≡ None → first_shown (result_value r u) (c ∷ out_things t sent) ≡ if_in (t == u) (option_map plain_of sent)
  out_result u None f = ap (λ o. or_else o None) f ∙ sym (none_if (t == u))
  out_result u (Some v) f = ap (λ o. or_else o (or_else (if_in (t == u) (Some (plain_of v))) None)) f ∙ none_else (if_in (t == u) (Some (plain_of v)))

  out_content : (m : MutexNo) (sent : Option Owned) → content_value r m c ≡ None → first_shown (content_value r m) (c ∷ out_things t sent) ≡ None
  out_content m None f = ap (λ o. or_else o None) f
  out_content m (Some v) f = ap (λ o. or_else o None) f

  out_cell : (o : ObjNo) (sent : Option Owned) → cell_value o c ≡ None → first_shown (cell_value o) (c ∷ out_things t sent) ≡ None
  out_cell o None f = ap (λ z. or_else z None) f
  out_cell o (Some v) f = ap (λ z. or_else z None) f

  out_count : (f : Thing → ℕ) → ((v : Owned) → f (holds (as_result t) v) ≡ 0) → (sent : Option Owned) → tot f (c ∷ out_things t sent) ≡ f c
  out_count f h None = omega arith
  out_count f h (Some v) = omega (arith, h v)

-- THE LIFE OF THE THREAD

end_life : (s : Sight) (m : ℕ) (w : Bool) (sent : Option Owned) (v : Owned) → is_branch s m || is_in_state s (task_n m) ≡ w → (m ≡ 0 → sent ≡ None) → (m ≢ 0 → sent ≡ Some v) → ended_with (if_in w (option_map plain_of sent)) ≡ end_as (going_of s m) (plain_of v)
end_life s zero w sent v e z other = ap (λ o. ended_with (if_in w (option_map plain_of o))) (z refl) ∙ ap ended_with (none_if w)
end_life s (suc m) true sent v e z other = ap (λ o. ended_with (option_map plain_of o)) (other (λ d. cc d)) ∙ sym (ap (λ c. end_as (if not c then as_loose else as_owing) (plain_of v)) e)
end_life s (suc m) false sent v e z other = sym (ap (λ c. end_as (if not c then as_loose else as_owing) (plain_of v)) e)

module _ (k : Cluster) (sound : IsSound k) (e : Event) (o : Operand) (s : Server) (t : ℕ) (x : ThreadState) (at : AtStep k e (instr.End o) s t x) (v : Owned) (rest : List Value) (sent : Option Owned) where
  abbrev i : Instr
  i = instr.End o

  abbrev n : ℕ
  n = s.rest.number

  abbrev G1 : List Thing
  G1 = G k sound e i refl s t x at

  abbrev Others : List Thing
  Others = R k sound e i refl s t x at

  abbrev pub s1 : Sight
  s1 = before k sound e i refl s t x at

  abbrev counts_here : Thing
  counts_here = counts_of n s.events s.rest

  abbrev counts_then : Thing
  counts_then = counts_of n 0 s.rest

  abbrev pub G2 : List Thing
  G2 = counts_then ∷ out_things x.number sent

  abbrev pub became : ThreadState
  became = record (after x x.pc x.slots rest) { phase = phase.Over }

  abbrev pub y : ThreadState
  y = next x became

  abbrev pub s2 : Sight
  s2 = then_there k sound e i refl s t x at became G2

  pub calm : Calm x.phase
  calm = quiet k sound e i refl s t x at

  pub bare : x.gift ≡ None
  bare = (gift_fits k sound e.server s at.here t x at.at i at.code).0

  alone : {A : Type 0} (f : List Thing → A) → f G1 ≡ f (counts_here ∷ [])
  alone f = ap (λ g. f (gift_things x.number g ++ counts_here ∷ [])) bare

  loose1 : AllByRecursion IsLoose G1
  loose1 = loose k sound e i refl s t x at

  loose2 : AllByRecursion IsLoose G2
  loose2 = out_loose counts_then tt x.number sent

  pub beside1 : AllByRecursion IsBeside G1
  beside1 = all_so IsLoose IsBeside loose_beside G1 loose1

  pub beside2 : AllByRecursion IsBeside G2
  beside2 = all_so IsLoose IsBeside loose_beside G2 loose2

  lone1 : tot (of_thread x.number) Others ≡ 0
  lone1 = changed.lone k sound e s at.here t x at.at at.number

  locks : one_thread.LocksStay k Others G1 G2 n x became
  locks = one_thread.locks_stay k Others G1 G2 n x became beside1 beside2 lone1 (cells_of n x G1 Others loose1 ∙ sym (cells_of n y G2 Others loose2))

  once1 : Once s1
  once1 = changed.once_before k sound e s at.here t x at.at at.number

  abbrev own : Node → ℕ
  own q = owned_in q x.slots + owned_in q x.temps

  abbrev own2 : Node → ℕ
  own2 q = owned_in q x.slots + owned_in q rest

  -- THE RESULT OF THE THREAD SHOWS NOWHERE ELSE

  value_flat : (w : Sight) (r : ℕ) → Own (λ a. result_value w r a ≡ None)
  value_flat w r = record { slots = λ u j a. refl; temps = λ u j a. refl; shared = λ l m. refl; lent = λ l m. refl; marks = λ l m. refl; used = λ u m. refl }

  branch_flat : (r : ℕ) → Own (λ a. branch_result r a ≡ None)
  branch_flat r = record { slots = λ u j a. refl; temps = λ u j a. refl; shared = λ l w. refl; lent = λ l w. refl; marks = λ l w. refl; used = λ u w. refl }

  ended_flat : (r : ℕ) → Own (λ a. has_ended r a ≡ 0)
  ended_flat r = record { slots = λ u j a. refl; temps = λ u j a. refl; shared = λ l w. refl; lent = λ l w. refl; marks = λ l w. refl; used = λ u w. refl }

  shown_flat : (w : Sight) (r : ℕ) → Own (λ a. told ones (shown_result w r a) ≡ 0)
  shown_flat w r = record { slots = λ u j a. refl; temps = λ u j a. refl; shared = λ l m. refl; lent = λ l m. refl; marks = λ l m. refl; used = λ u m. refl }

  not_ended : (r : ℕ) → has_ended r (stands n false x) ≡ 0
  not_ended r = ap (λ q. one (x.number == r && (not (x.number == 0) && q))) calm.goes ∙ ap (λ q. one (x.number == r && q)) (and_none (not (x.number == 0))) ∙ ap one (and_none (x.number == r))

  none_others : tot (λ a. told ones (shown_result s1 x.number a)) Others ≡ 0
  none_others =
      omega (
        arith,
        once1.ends x.number,
        not_ended x.number,
        at_most (has_ended x.number) (of_thread x.number) (ended_here x.number) Others,
        lone1,
        gift_uncounted (has_ended x.number) x.number counts_here (λ a. refl) x.gift,
        tot_of n x G1 Others (has_ended x.number) (ended_flat x.number),
        tot_of n x G1 Others (λ a. told ones (shown_result s1 x.number a)) (shown_flat s1 x.number),
      )

  rest_none : (first_shown (branch_result x.number) Others ≡ None) × (first_shown (result_value s1 x.number) Others ≡ None)
  rest_none = none_shown_there s1 x.number Others none_others

  -- what goes out and what stays with the thread, who is in the state, and for which thread nothing goes out
  pub record Leaves (under : Option Owned) : Type 0 where
    pub even : (q : Node) → own q ≡ own2 q + owned_under q under
    pub named : (f : Node → Bool) (q : Node) → any_named s2 f q G2 ≡ named_under f q (task_n x.number) under
    pub inside_then : is_some under ≡ true → is_in_state s2 (task_n x.number) ≡ true
    pub shares : (m : MutexNo) → tot (share_in s2 m) G2 + own2 (mutex_n m) ≡ own (mutex_n m)
    pub main : x.number ≡ 0 → sent ≡ None
    pub other : x.number ≢ 0 → sent ≡ Some v

  module _ {under : Option Owned} (c : Leaves under) where
    same_in : (q : Node) → false ≡ false → is_in_state s1 q ≡ is_in_state s2 q
    same_in =
        one_node.in_same k Others G1 G2 n x became beside1 beside2 lone1 locks (task_n x.number) None under (λ q. 0) (λ q. 0) (λ q. (let l = c.even q in omega (arith, l))) (λ f q. alone (any_named s1 f q)) c.named (λ z. absurd (cc z)) c.inside_then (λ q. false)
        (λ q l. absurd (omega (arith, l))) (λ q l. absurd (omega (arith, l))) (λ q z. absurd (cc z)) (nothing_under s1 Others)

    abbrev owed : Sight → ℕ → Bool
    owed w r = is_branch w r || is_in_state w (task_n r)

    apart : (r : ℕ) → tot (in_pair_of r) G1 ≡ tot (in_pair_of r) G2
    apart r = alone (tot (in_pair_of r)) ∙ sym (out_count x.number n 0 s2 counts_then (in_pair_of r) (λ a. refl) sent)

    owed_same : (r : ℕ) → owed s1 r ≡ owed s2 r
    owed_same r = one_thread.owed_same k Others G1 G2 n x became beside1 beside2 lone1 locks (λ q. false) (nothing_under s1 Others) same_in r (apart r) refl

    result_then : result_of s2 x.number ≡ if_in (owed s2 x.number) (option_map plain_of sent)
    result_then =
        let r = x.number in
        let branches : first_shown (branch_result r) s2.things ≡ None =
        first_with n y G2 Others (branch_result r) (branch_flat r) ∙ ap₂ or_else (one_thread.no_done k Others G1 G2 n x became beside1 beside2 lone1 locks (λ q. false) (nothing_under s1 Others) same_in r G2 beside2) rest_none.0 in
        let others : first_shown (result_value s2 r) Others ≡ None =
        sym (first_alike r (result_value s1 r) (result_value s2 r) (one_thread.result_stays k Others G1 G2 n x became beside1 beside2 lone1 locks r) Others lone1) ∙ rest_none.1 in
        let values : first_shown (result_value s2 r) s2.things ≡ option_map plain_of sent =
        first_with n y G2 Others (result_value s2 r) (value_flat s2 r) ∙ ap₂ or_else (out_result x.number n 0 s2 counts_then r sent refl ∙ ap (λ b. if_in b (option_map plain_of sent)) (same_number r)) others ∙ none_else (option_map plain_of sent) in
        ap₂ or_else branches (ap (if_in (owed s2 r)) values)

    -- OTHER THREADS

    shown_same : (r : ℕ) → x.number ≢ r → first_shown (result_value s1 r) G1 ≡ first_shown (result_value s2 r) G2
    shown_same r ne =
        alone (first_shown (result_value s1 r)) ∙ sym (out_result x.number n 0 s2 counts_then r sent refl ∙ eq_cases (λ b. if_in b (option_map plain_of sent) ≡ None) x.number r (λ d. absurd (ne d)) (λ _. refl))

    other_life : (r : ℕ) → x.number ≢ r → life_at s1 r (thread_at (threads_in s1.things) r) ≡ life_at s2 r (thread_at (threads_in s2.things) r)
    other_life r ne =
        one_thread.life_goes_on k Others G1 G2 n x became beside1 beside2 lone1 locks (λ q. false) (nothing_under s1 Others) same_in r (apart r) refl (ap (λ m. if_in (some m) (Some plain.Unit)) (none_got r x.phase calm.alone)) refl (shown_same r ne) ne

    given_same : (u : ℕ) → is_given_thread s1 u ≡ is_given_thread s2 u
    given_same = one_thread.given_same k Others G1 G2 n x became beside1 beside2 lone1 locks (λ h d. alone (tot (started_at h d)) ∙ omega (arith, out_count x.number n 0 s2 counts_then (started_at h d) (λ a. refl) sent))

    -- THE STATE

    pub ends : Ends x.number (plain_of v) (running_at x) (state_of s1) (state_of s2)
    ends =
        let given = changed.given k sound e s at.here t x at.at at.number in
        record {
          way = going_of s1 x.number;
          before = ap₂ if_given given (ap (life_at s1 x.number) (itself n x G1 Others beside1) ∙ ap (life_of s1 x) calm.goes ∙ going_is s1 x.number (running_at x));
          afterwards = ap₂ if_given (sym (given_same x.number) ∙ given) (ap (life_at s2 x.number) (itself n y G2 Others beside2) ∙ ap ended_with result_then ∙ end_life s1 x.number (owed s2 x.number) sent v (owed_same x.number) c.main c.other);
          others = λ u ne. ap₂ if_given (given_same u) (other_life u ne);
          unmade = ap made_of (itself n y G2 Others beside2);
          made = λ u ne. ap made_of (one_thread.other_seen k Others G1 G2 n x became beside1 beside2 lone1 u ne);
          alone = ap pair_of (itself n y G2 Others beside2);
          pairs = λ u ne. ap pair_of (one_thread.other_seen k Others G1 G2 n x became beside1 beside2 lone1 u ne);
          objects = λ q. one_thread.object_same k Others G1 G2 n x became beside1 beside2 lone1 locks (λ w. false) (nothing_under s1 Others) same_in q refl (alone (first_shown (cell_value q)) ∙ sym (out_cell x.number n 0 s2 counts_then q sent refl));
          mutexes = λ m.
              let here_none : tot (share_in s1 m) G1 ≡ 0 = alone (tot (share_in s1 m)) in
              one_thread.mutex_same k Others G1 G2 n x became beside1 beside2 lone1 locks (λ w. false) (nothing_under s1 Others) same_in m refl (alone (first_shown (content_value s1 m)) ∙ sym (out_content x.number n 0 s2 counts_then m sent refl)) (omega (arith, here_none, c.shares m));
          given = one_thread.mutex_given k Others G1 G2 n x became beside1 beside2 lone1 locks (λ h d. alone (tot (made_at h d)) ∙ omega (arith, out_count x.number n 0 s2 counts_then (made_at h d) (λ a. refl) sent));
        }

    -- a thread whose task is in the state goes on as one whose result somebody will have
    pub owing_then : x.number ≢ 0 → is_in_state s2 (task_n x.number) ≡ true → ends.way ≡ as_owing
    unfolding ends
    owing_then ne in_it = by x.number ne (owed_same x.number ∙ or_right (is_branch s2 x.number) (is_in_state s2 (task_n x.number)) in_it)
      where
        by : (m : ℕ) → m ≢ 0 → owed s1 m ≡ true → going_of s1 m ≡ as_owing
        by zero f g = absurd (f refl)
        by (suc m) f g = ap (λ c. if not c then as_loose else as_owing) g

  -- what is shown once stays so, where nothing goes out of main
  pub once_then : (x.number ≡ 0 → sent ≡ None) → Once s2
  once_then main = record {
    cells = λ q.
        let flat : Own (λ a. told ones (cell_value q a) ≡ 0) = record { slots = λ u j a. refl; temps = λ u j a. refl; shared = λ l m. refl; lent = λ l m. refl; marks = λ l m. refl; used = λ u m. refl } in
        omega (arith, once1.cells q, out_count x.number n 0 s2 counts_then (λ a. told ones (cell_value q a)) (λ a. refl) sent, tot_of n x G1 Others (λ a. told ones (cell_value q a)) flat, tot_of n y G2 Others (λ a. told ones (cell_value q a)) flat);
    threads = λ u.
        let flat : Own (λ a. is_thread u a ≡ 0) = record { slots = λ w j a. refl; temps = λ w j a. refl; shared = λ l m. refl; lent = λ l m. refl; marks = λ l m. refl; used = λ w m. refl } in
        omega (arith, once1.threads u, out_count x.number n 0 s2 counts_then (is_thread u) (λ a. refl) sent, tot_of n x G1 Others (is_thread u) flat, tot_of n y G2 Others (is_thread u) flat);
    contents = λ m.
        let flat : (r : Sight) → Own (λ a. told ones (content_value r m a) ≡ 0) = λ r. record { slots = λ w j a. refl; temps = λ w j a. refl; shared = λ l u. refl; lent = λ l u. refl; marks = λ l u. refl; used = λ w a. refl } in
        omega (
          arith,
          once1.contents m,
          out_count x.number n 0 s2 counts_then (λ a. told ones (content_value s2 m a)) (λ a. refl) sent,
          tot_of n x G1 Others (λ a. told ones (content_value s1 m a)) (flat s1),
          tot_of n y G2 Others (λ a. told ones (content_value s2 m a)) (flat s2),
          one_thread.tot_alike x.number (λ a. told ones (content_value s1 m a)) (λ a. told ones (content_value s2 m a)) (λ th w. ap (told ones) (one_thread.content_stays k Others G1 G2 n x became beside1 beside2 lone1 locks m th w)) Others lone1,
        );
    ends = λ r.
        omega (
          arith,
          once1.ends r,
          not_ended r,
          fits r sent main,
          gift_uncounted (has_ended r) x.number counts_here (λ a. refl) x.gift,
          out_count x.number n 0 s2 counts_then (has_ended r) (λ a. refl) sent,
          tot_of n x G1 Others (has_ended r) (ended_flat r),
          tot_of n y G2 Others (has_ended r) (ended_flat r),
          tot_of n x G1 Others (λ a. told ones (shown_result s1 r a)) (shown_flat s1 r),
          tot_of n y G2 Others (λ a. told ones (shown_result s2 r a)) (shown_flat s2 r),
          one_thread.tot_alike x.number (λ a. told ones (shown_result s1 r a)) (λ a. told ones (shown_result s2 r a)) (λ th w. ap (λ q. told ones (or_else (branch_result r th) q)) (one_thread.result_stays k Others G1 G2 n x became beside1 beside2 lone1 locks r th w)) Others lone1,
        );
  }
    where
      fits : (r : ℕ) (out : Option Owned) → (x.number ≡ 0 → out ≡ None) → tot (λ a. told ones (shown_result s2 r a)) (counts_then ∷ out_things x.number out) ≤ has_ended r (stands n false y)
      fits r None main = omega arith
      fits r (Some w) main =
          eq_cases (λ b. 0 + (told ones (or_else None (if_in b (Some (plain_of w)))) + 0) ≤ one (b && (not (x.number == 0) && true))) x.number r
          (λ _. eq_cases (λ b. 0 + (1 + 0) ≤ one (not b && true)) x.number 0 (λ d. absurd (cc (main d))) (λ _. omega arith)) (λ _. omega arith)
