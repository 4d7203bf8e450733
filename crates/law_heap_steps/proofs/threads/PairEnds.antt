-- The end of a pair in the one heap: the parent goes on, the results of both threads are taken, and all else is as it was.
use Rattle.std.proofs.Common.{◌≡◌, ℕ, ◌+◌, ◌≤◌, ◌==◌, ◌||◌, Bool, true, false, List, [], ◌∷◌, ◌++◌, Some, None, refl, sym, ap, ◌∙◌, subst, arith}
use Rattle.law_heap_steps.proofs.Below.fr_typing.PlaceLemmas.{eq_cases}
use Rattle.law_heap_steps.specs.Below.fr_base.declared.label.Plain.TheVariants as plain
use Rattle.law_heap_steps.specs.Below.fr_base.declared.instruction.Instr.TheVariants as instr
use Rattle.law_heap_steps.specs.Below.thread_state.View.{ThreadState, is_over}
use Rattle.law_heap_steps.specs.Below.thread_state.declared.phase.Phase.TheVariants as phase
use Rattle.law_heap_steps.specs.Below.server_model.declared.event.Event.{Event}
use Rattle.law_heap_steps.specs.Below.server_model.Servers.{Server, Cluster}
use Rattle.law_heap_steps.specs.Below.coherent_memory.Names.{tot, one, some}
use Rattle.law_heap_steps.specs.Below.coherent_memory.Things.{Thing, stands, gift_things, things_of}
use Rattle.law_heap_steps.specs.Below.coherent_memory.Sight.{Sight, sight}
use Rattle.law_heap_steps.specs.Below.coherent_memory.Sharing.{got_phase}
use Rattle.law_heap_steps.specs.Below.coherent_memory.Naming.{threads, uncounted_thread, zeroth_thread, phase_thread, named_mutexes, uncounted_mutex, zeroth_mutex}
use Rattle.law_heap_steps.specs.Below.coherent_memory.OneHeap.{Node, any_named, is_in_state, if_in, or_else, first_shown, share_in, content_value, branch_result, result_value, result_of, running_at, is_given_thread, state_of}
use Rattle.law_heap_steps.specs.Below.coherent_memory.Coherent.{IsSound}
use Rattle.law_heap_steps.proofs.Below.law_counts_sums.Bags.{counts_of}
use Rattle.law_heap_steps.proofs.Below.law_counts_sums.GiftsTaken.{gift_fits}
use Rattle.law_heap_steps.proofs.Below.law_heap_still.events.Alike.{Once}
use Rattle.law_heap_steps.proofs.Below.law_heap_still.events.Counting.{shown_result}
use Rattle.law_heap_steps.proofs.Below.law_heap_still.events.Told.{told, ones}
use Rattle.law_heap_steps.proofs.turns.Parts.{owned_in}
use Rattle.law_heap_steps.proofs.turns.Events.{AtStep}
use Rattle.law_heap_steps.proofs.mutexes.Reach.{SameOwners, or_left, or_right, or_cases, with_extra, here, stays_in, comes_from}
use Rattle.law_heap_steps.proofs.mutexes.Beside.{mine, any_mine, first_with}
use Rattle.law_heap_steps.proofs.mutexes.OneThread as one_thread
use Rattle.law_heap_steps.proofs.mutexes.OneThread.{past, same_but}
use Rattle.law_heap_steps.proofs.mutexes.Changed as changed
use Rattle.law_heap_steps.proofs.mutexes.SharedLines.{nothing_under}
use Rattle.law_heap_steps.proofs.threads.Taken as taken
use Rattle.law_heap_steps.proofs.threads.Taken.{ResultsTaken, Takes, branch_flat, results_taken}

module _ (k : Cluster) (sound : IsSound k) (e : Event) (s : Server) (t : ℕ) (x : ThreadState) (at : AtStep k e instr.ParEnd s t x) (p q : ℕ) (got : x.phase ≡ phase.GotPar p q) where
  abbrev n : ℕ
  n = s.rest.number

  abbrev pub R : List Thing
  R = taken.R k sound e instr.ParEnd s t x at (x.pc + 1) x.slots x.temps

  abbrev pub G : List Thing
  G = taken.G k sound e instr.ParEnd s t x at (x.pc + 1) x.slots x.temps

  abbrev G2 : List Thing
  G2 = taken.G2 k sound e instr.ParEnd s t x at (x.pc + 1) x.slots x.temps

  abbrev pub s1 : Sight
  s1 = taken.s1 k sound e instr.ParEnd s t x at (x.pc + 1) x.slots x.temps

  abbrev pub s2 : Sight
  s2 = taken.s2 k sound e instr.ParEnd s t x at (x.pc + 1) x.slots x.temps

  abbrev y : ThreadState
  y = past x (x.pc + 1) x.slots x.temps

  pub bare : x.gift ≡ None
  bare = (gift_fits k sound e.server s at.here t x at.at instr.ParEnd at.code).0

  alone_there : {A : Type 0} (f : List Thing → A) → f G ≡ f (counts_of n s.events s.rest ∷ [])
  alone_there f = ap (λ g. f (gift_things x.number g ++ counts_of n s.events s.rest ∷ [])) bare

  goes : is_over x.phase ≡ false
  goes = ap is_over got

  -- WHO IS IN THE STATE

  abbrev In : Node → Bool
  In = is_in_state s1

  abbrev In2 : Node → Bool
  In2 = is_in_state s2

  abbrev own : Node → ℕ
  own v = owned_in v x.slots + owned_in v x.temps

  same_owners : SameOwners s1 s2 R
  same_owners =
      one_thread.same_owners k R G G2 n x (taken.z k sound e instr.ParEnd s t x at (x.pc + 1) x.slots x.temps) (taken.beside k sound e instr.ParEnd s t x at (x.pc + 1) x.slots x.temps) (tt, tt) (taken.lone1 k sound e instr.ParEnd s t x at (x.pc + 1) x.slots x.temps) (taken.locks k sound e instr.ParEnd s t x at (x.pc + 1) x.slots x.temps)

  stay : (v : Node) → In v ≡ true → In2 v ≡ true
  stay =
      stays_in k (mine n x G) (mine n y G2) R same_owners
      (λ v f. here k (mine n y G2) R v (any_mine n y G2 s2 In2 v ∙ sym (ap (λ b. b || some (own v)) (alone_there (any_named s1 In2 v))) ∙ sym (any_mine n x G s1 In2 v) ∙ f))

  come : (v : Node) → In2 v ≡ true → with_extra In (λ w. false) v ≡ true
  come =
      comes_from k (mine n x G) (mine n y G2) R same_owners (λ w. false) (nothing_under s1 R)
      (λ v f. or_left (In v) false (mine_in v (sym (any_mine n y G2 s2 (with_extra In (λ w. false)) v) ∙ f)))
    where
      mine_in : (v : Node) → some (own v) ≡ true → In v ≡ true
      mine_in v f = here k (mine n x G) R v (any_mine n x G s1 In v ∙ or_right (any_named s1 In v G) (some (own v)) f)

  in_then : (v : Node) → In2 v ≡ with_extra In (λ w. false) v
  in_then v = by (In2 v) refl (with_extra In (λ w. false) v) refl
    where
      by : (c : Bool) → In2 v ≡ c → (d : Bool) → with_extra In (λ w. false) v ≡ d → In2 v ≡ with_extra In (λ w. false) v
      by true f true g = f ∙ sym g
      by false f false g = f ∙ sym g
      by true f false g = absurd (cc (sym g ∙ come v f))
      by false f true g = absurd (cc (sym f ∙ or_cases (In v) false (In2 v ≡ true) (stay v) (λ h. absurd (cc h)) g))

  -- RESULTS

  abbrev pub is_its : ℕ → Bool
  is_its r = some (got_phase r (phase.GotPar p q))

  its : (r : ℕ) → some (got_phase r x.phase) ≡ is_its r
  its r = ap (λ f. some (got_phase r f)) got

  counted : (r : ℕ) → is_its r ≡ true → 1 ≤ told ones (shown_result s1 r (stands n false x)) + tot (λ v. told ones (shown_result s1 r v)) G
  counted r mine_too = let here_it : told ones (shown_result s1 r (stands n false x)) ≡ 1 = ap (λ b. told ones (or_else (if_in b (Some plain.Unit)) None)) (its r ∙ mine_too) in omega (arith, here_it)

  result_before : (r : ℕ) → is_its r ≡ true → result_of s1 r ≡ Some plain.Unit
  result_before r mine_too =
      ap (λ o. or_else o (if_in (taken.owed k sound e instr.ParEnd s t x at (x.pc + 1) x.slots x.temps s1 r) (first_shown (result_value s1 r) s1.things)))
      (first_with n x G R (branch_result r) (branch_flat k sound e instr.ParEnd s t x at (x.pc + 1) x.slots x.temps r) ∙ ap (λ b. or_else (if_in b (Some plain.Unit)) (or_else (first_shown (branch_result r) G) (first_shown (branch_result r) R))) (its r ∙ mine_too))

  -- NAMES

  phase_counted : (f : ℕ → ℕ) → tot (threads f) (things_of k) ≡ 0 → (f p ≡ 0) × (f q ≡ 0)
  phase_counted f w =
      let here_it : f x.number + phase_thread f x.phase ≡ 0 = changed.counted k sound e s at.here t x at.at at.number (threads f) w in
      let two : phase_thread f x.phase ≡ f p + f q = ap (phase_thread f) got in
      (omega (arith, here_it, two), omega (arith, here_it, two))

  its_given : (r : ℕ) → is_its r ≡ true → is_given_thread s1 r ≡ true
  its_given r mine_too =
      let counted : tot (threads (uncounted_thread (sight k))) (things_of k) + tot (named_mutexes (uncounted_mutex (sight k))) (things_of k) ≡ 0 = sound.names.names_counted in
      let from_one : tot (threads zeroth_thread) (things_of k) + tot (named_mutexes zeroth_mutex) (things_of k) ≡ 0 = sound.names.counts_from_one in
      let named = phase_counted (uncounted_thread (sight k)) (omega (arith, counted)) in
      let first = phase_counted zeroth_thread (omega (arith, from_one)) in
      let given = taken.given_by k sound e instr.ParEnd s t x at (x.pc + 1) x.slots x.temps in
      eq_cases (λ b. some (one b + one (q == r)) ≡ true → is_given_thread s1 r ≡ true) p r (λ f _. subst (λ v. is_given_thread s1 v ≡ true) f (given p named.0 first.0))
      (λ _ h. eq_cases (λ b. some (0 + one b) ≡ true → is_given_thread s1 r ≡ true) q r (λ f _. subst (λ v. is_given_thread s1 v ≡ true) f (given q named.1 first.1)) (λ _ g. absurd (cc g)) h) mine_too

  -- THE STATE

  takes : Takes k sound e instr.ParEnd s t x at (x.pc + 1) x.slots x.temps goes is_its counted plain.Unit (λ w. false)
  takes = record {
    result = result_before;
    its_given = its_given;
    silent = λ r off. ap (λ b. if_in b (Some plain.Unit)) (its r ∙ off);
    results = λ r off. alone_there (first_shown (result_value s1 r));
    contents = λ m. alone_there (first_shown (content_value s1 m));
    none = nothing_under s1 R;
    same = same_but In In2 (λ w. false) in_then;
    no_object = λ o. refl;
    no_mutex = λ m. refl;
    no_other = λ r off. refl;
    shares = λ m. (let none : tot (share_in s1 m) G ≡ 0 = alone_there (tot (share_in s1 m)) in omega (arith, none));
  }

  pub pair_taken : ResultsTaken x.number is_its plain.Unit (running_at x) (running_at y) (state_of s1) (state_of s2)
  pair_taken = results_taken k sound e instr.ParEnd s t x at (x.pc + 1) x.slots x.temps goes is_its counted takes

  pub once_then : Once s2
  once_then = taken.once_then k sound e instr.ParEnd s t x at (x.pc + 1) x.slots x.temps goes
