-- A value of a mutex goes while another one is in the state: the mutex has one share less, and all else is as it was.
use Rattle.std.proofs.Common.{◌≡◌, ◌≢◌, ℕ, ◌+◌, ◌≤◌, Bool, true, false, List, [], ◌∷◌, ◌++◌, Option, Some, None, refl, sym, ap, ap₂, ◌∙◌, arith}
use Rattle.std.specs.List.{AllByRecursion}
use Rattle.law_heap_steps.specs.Below.fr_base.declared.name.MutexNo.{MutexNo}
use Rattle.law_heap_steps.specs.Below.fr_base.declared.name.ObjNo.{ObjNo}
use Rattle.law_heap_steps.specs.Below.fr_base.declared.label.Plain.{Plain}
use Rattle.law_heap_steps.specs.Below.fr_base.declared.instruction.Instr.{Instr}
use Rattle.law_heap_steps.specs.Below.heap_partition.declared.value.Owned.TheVariants as owned
use Rattle.law_heap_steps.specs.Below.thread_state.View.{ThreadState}
use Rattle.law_heap_steps.specs.Below.thread_state.declared.value.Value.{Value}
use Rattle.law_heap_steps.specs.Below.server_model.declared.event.Event.{Event}
use Rattle.law_heap_steps.specs.Below.server_model.Servers.{Server, Cluster}
use Rattle.law_heap_steps.specs.Below.coherent_memory.Names.{tot, one, if_so}
use Rattle.law_heap_steps.specs.Below.coherent_memory.Things.{Thing, gift_things}
use Rattle.law_heap_steps.specs.Below.coherent_memory.Sight.{Sight}
use Rattle.law_heap_steps.specs.Below.coherent_memory.Requests.{is_par_end}
use Rattle.law_heap_steps.specs.Below.coherent_memory.Naming.{started_at, made_at}
use Rattle.law_heap_steps.specs.Below.coherent_memory.OneHeap.{Node, task_n, mutex_n, object_n, owns, owner_in, owner_of, names, named_in, any_named, is_in_state, cell_value, or_else, first_shown, object_value, content_value, share_in, if_there, in_pair_of, result_value, running_at, is_given_mutex, state_of}
use Rattle.law_heap_steps.specs.Below.coherent_memory.Coherent.{IsSound}
use Rattle.law_heap_steps.proofs.Below.coherent_memory.Names.{same_mutexes}
use Rattle.law_heap_steps.proofs.Below.law_counts_sums.Bags.{counts_of}
use Rattle.law_plain_values.proofs.acts.Mutexes.{mutex_cases}
use Rattle.law_heap_steps.proofs.Below.law_heap_still.events.Alike.{Once}
use Rattle.law_heap_steps.proofs.Below.law_heap_still.events.Rounds.{any_more}
use Rattle.law_heap_steps.proofs.Below.law_heap_still.events.Told.{told, ones}
use Rattle.law_heap_steps.proofs.turns.Parts.{Own, owned_in}
use Rattle.law_heap_steps.proofs.turns.OneTurn.{of_thread, Calm, after}
use Rattle.law_heap_steps.proofs.turns.Events.{AtStep}
use Rattle.law_heap_steps.proofs.mutexes.Reach.{or_cases, closes, least}
use Rattle.law_heap_steps.proofs.mutexes.Beside.{IsBeside, IsLoose, loose_beside, all_so, tot_of, cells_of}
use Rattle.law_heap_steps.proofs.mutexes.OneNode as one_node
use Rattle.law_heap_steps.proofs.mutexes.OneNode.{is_one}
use Rattle.law_heap_steps.proofs.mutexes.OneThread as one_thread
use Rattle.law_heap_steps.proofs.mutexes.OneThread.{GoesOn, next}
use Rattle.law_heap_steps.proofs.mutexes.OneMutex.{shared_as}
use Rattle.law_heap_steps.proofs.mutexes.Changed as changed
use Rattle.law_heap_steps.proofs.mutexes.Places.{itself_named}
use Rattle.law_heap_steps.proofs.mutexes.SharedLines.{nothing_under}
use Rattle.law_heap_steps.proofs.mutexes.ThreadTurns.{G, R, before, then_there, quiet, loose}

-- what is in the state is named by somebody in it, so a mutex that is in it has a share
named_there : (s : Sight) (q : Node) → is_in_state s q ≡ true → any_named s (is_in_state s) q s.things ≡ true
named_there s = least s (λ q. any_named s (is_in_state s) q s.things) (λ q e. any_more s (λ p. any_named s (is_in_state s) p s.things) (is_in_state s) (closes s) q s.things e)

named_counts : (s : Sight) (m : MutexNo) (xs : List Thing) → any_named s (is_in_state s) (mutex_n m) xs ≡ true → 1 ≤ tot (share_in s m) xs
named_counts s m [] f = absurd (cc f)
named_counts s m (th ∷ xs) f =
    or_cases (named_in (names (mutex_n m) th) (is_in_state s) (owner_of s th)) (any_named s (is_in_state s) (mutex_n m) xs) (1 ≤ share_in s m th + tot (share_in s m) xs)
    (λ g. omega (arith, here (names (mutex_n m) th) g)) (λ g. omega (arith, named_counts s m xs g)) f
  where
    here : (b : Bool) → named_in b (is_in_state s) (owner_of s th) ≡ true → 1 ≤ if_so b (one (owner_in (is_in_state s) (owner_of s th)))
    here true g = omega (arith, ap one g)
    here false g = absurd (cc g)

pub has_share : (s : Sight) (m : MutexNo) → is_in_state s (mutex_n m) ≡ true → 1 ≤ tot (share_in s m) s.things
has_share s m e = named_counts s m s.things (named_there s (mutex_n m) e)

module _ (k : Cluster) (sound : IsSound k) (e : Event) (i : Instr) (single : is_par_end (Some i) ≡ false) (s : Server) (t : ℕ) (x : ThreadState) (at : AtStep k e i s t x) (bare : x.gift ≡ None) (m : MutexNo) (slots temps : List Value)
    (even : (q : Node) → owned_in q x.slots + owned_in q x.temps ≡ owned_in q slots + owned_in q temps + one (owns q (owned.Mutex m))) where
  abbrev n : ℕ
  n = s.rest.number

  abbrev G1 : List Thing
  G1 = G k sound e i single s t x at

  abbrev Others : List Thing
  Others = R k sound e i single s t x at

  abbrev pub G2 : List Thing
  G2 = counts_of n 0 s.rest ∷ []

  abbrev pub s1 : Sight
  s1 = before k sound e i single s t x at

  abbrev pub became : ThreadState
  became = after x (x.pc + 1) slots temps

  abbrev y : ThreadState
  y = next x became

  abbrev pub s2 : Sight
  s2 = then_there k sound e i single s t x at became G2

  calm : Calm x.phase
  calm = quiet k sound e i single s t x at

  calm2 : Calm became.phase
  calm2 = record { alone = refl; goes = refl }

  alone : {A : Type 0} (f : List Thing → A) → f G1 ≡ f (counts_of n s.events s.rest ∷ [])
  alone f = ap (λ g. f (gift_things x.number g ++ counts_of n s.events s.rest ∷ [])) bare

  loose1 : AllByRecursion IsLoose G1
  loose1 = loose k sound e i single s t x at

  pub beside1 : AllByRecursion IsBeside G1
  beside1 = all_so IsLoose IsBeside loose_beside G1 loose1

  lone1 : tot (of_thread x.number) Others ≡ 0
  lone1 = changed.lone k sound e s at.here t x at.at at.number

  locks : one_thread.LocksStay k Others G1 G2 n x became
  locks = one_thread.locks_stay k Others G1 G2 n x became beside1 (tt, tt) lone1 (cells_of n x G1 Others loose1 ∙ sym (cells_of n y G2 Others (tt, tt)))

  once1 : Once s1
  once1 = changed.once_before k sound e s at.here t x at.at at.number

  pub once_then : Once s2
  once_then = one_thread.once_on k Others G1 G2 n x became beside1 (tt, tt) lone1 locks calm (λ r. refl) refl once1 few contents (λ r. omega arith)
    where
      few : (q : ObjNo) → tot (λ a. told ones (cell_value q a)) G2 + tot (λ a. told ones (cell_value q a)) Others ≤ 1
      few q =
          let flat : Own (λ a. told ones (cell_value q a) ≡ 0) = record { slots = λ u j a. refl; temps = λ u j a. refl; shared = λ l r. refl; lent = λ l r. refl; marks = λ l w. refl; used = λ u w. refl } in
          omega (arith, once1.cells q, tot_of n x G1 Others (λ a. told ones (cell_value q a)) flat)

      contents : (w : MutexNo) → tot (λ a. told ones (content_value s2 w a)) G2 + tot (λ a. told ones (content_value s1 w a)) Others ≤ 1
      contents w =
          let flat : Own (λ a. told ones (content_value s1 w a) ≡ 0) = record { slots = λ u j a. refl; temps = λ u j a. refl; shared = λ l r. refl; lent = λ l r. refl; marks = λ l c. refl; used = λ u c. refl } in
          omega (arith, once1.contents w, tot_of n x G1 Others (λ a. told ones (content_value s1 w a)) flat)

  -- WHERE ANOTHER VALUE OF IT IS IN THE STATE

  module _ (in_then : is_in_state s2 (mutex_n m) ≡ true) where
    lost_in : (q : Node) → owns q (owned.Mutex m) ≡ true → is_in_state s2 q ≡ true
    lost_in (object_n u) f = absurd (cc f)
    lost_in (task_n u) f = absurd (cc f)
    lost_in (mutex_n w) f = ap (λ z. is_in_state s2 (mutex_n z)) (sym (same_mutexes m w f)) ∙ in_then

    same_in : (q : Node) → false ≡ false → is_in_state s1 q ≡ is_in_state s2 q
    same_in =
        one_node.in_same k Others G1 G2 n x became beside1 (tt, tt) lone1 locks (mutex_n m) None None (λ q. 0) (λ q. one (owns q (owned.Mutex m))) (λ q. (let l = even q in omega (arith, l))) (λ f q. alone (any_named s1 f q)) (λ f q. refl) (λ z. absurd (cc z)) (λ z. absurd (cc z)) (λ q. false)
        (λ q l. absurd (omega (arith, l))) (λ q l. lost_in q (is_one (owns q (owned.Mutex m)) l)) (λ q z. absurd (cc z)) (nothing_under s1 Others)

    pub thread_on : GoesOn x.number (running_at x) (running_at y) (state_of s1) (state_of s2)
    thread_on =
        one_thread.goes_on k Others G1 G2 n x became beside1 (tt, tt) lone1 locks (λ q. false) (nothing_under s1 Others) same_in (λ r. alone (tot (in_pair_of r))) (λ u. refl) (λ r. alone (first_shown (result_value s1 r))) calm calm2 (λ h c. alone (tot (started_at h c)) ∙ omega arith)
        (changed.given k sound e s at.here t x at.at at.number)

    pub made_on : (u : ℕ) → (state_of s1).made u ≡ (state_of s2).made u
    made_on = one_thread.made_same k Others G1 G2 n x became beside1 (tt, tt) lone1 locks calm.goes refl refl

    pub objects_on : (q : ObjNo) → object_value s1 q ≡ object_value s2 q
    objects_on q = one_thread.object_same k Others G1 G2 n x became beside1 (tt, tt) lone1 locks (λ w. false) (nothing_under s1 Others) same_in q refl (alone (first_shown (cell_value q)))

    pub names_on : (w : MutexNo) → is_given_mutex s1 w ≡ is_given_mutex s2 w
    names_on = one_thread.mutex_given k Others G1 G2 n x became beside1 (tt, tt) lone1 locks (λ h c. alone (tot (made_at h c)) ∙ omega arith)

    here_none : (w : MutexNo) → tot (share_in s1 w) G1 ≡ 0
    here_none w = alone (tot (share_in s1 w))

    pub others_on : (w : MutexNo) → w ≢ m → (state_of s1).mutex w ≡ (state_of s2).mutex w
    others_on w ne =
        let off : one (owns (mutex_n w) (owned.Mutex m)) ≡ 0 = mutex_cases (λ q. one q ≡ 0) m w (λ f. absurd (ne (sym f))) (λ _. refl) in
        one_thread.mutex_same k Others G1 G2 n x became beside1 (tt, tt) lone1 locks (λ q. false) (nothing_under s1 Others) same_in w refl (alone (first_shown (content_value s1 w))) (omega (arith, here_none w, even (mutex_n w), off))

    -- the mutex has a share less
    abbrev pub left : ℕ
    left = tot (share_in s2 m) s2.things

    abbrev pub content : Option Plain
    content = first_shown (content_value s2 m) s2.things

    pub some_left : 1 ≤ left
    some_left = has_share s2 m in_then

    pub it_before : (state_of s1).mutex m ≡ shared_as content (left + 1)
    it_before =
        let mine : one (owns (mutex_n m) (owned.Mutex m)) ≡ 1 = ap one (itself_named m) in
        let more : tot (share_in s1 m) s1.things ≡ left + 1 = omega (arith, one_thread.shares_go_on k Others G1 G2 n x became beside1 (tt, tt) lone1 locks (λ q. false) (nothing_under s1 Others) same_in m, here_none m, even (mutex_n m), mine) in
        let inside : first_shown (content_value s1 m) s1.things ≡ content =
        one_thread.content_before k Others G1 G2 n x became beside1 (tt, tt) lone1 locks (λ q. false) (nothing_under s1 Others) same_in m ∙ ap (λ z. or_else z (first_shown (content_value s1 m) Others)) (alone (first_shown (content_value s1 m)))
        ∙ sym (one_thread.content_afterwards k Others G1 G2 n x became beside1 (tt, tt) lone1 locks (λ q. false) (nothing_under s1 Others) same_in m) in
        ap (λ b. if_there b (record { content = first_shown (content_value s1 m) s1.things; shares = tot (share_in s1 m) s1.things })) (same_in (mutex_n m) refl ∙ in_then) ∙ ap₂ shared_as inside more

    pub it_then : (state_of s2).mutex m ≡ shared_as content left
    it_then = ap (λ b. if_there b (record { content = content; shares = left })) in_then
