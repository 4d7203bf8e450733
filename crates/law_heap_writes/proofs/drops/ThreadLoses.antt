-- A thread goes on, or ends, without an owned value that it had, which is in hand then: the plain state is as it was but for the thread, and what is known of the others.
use Rattle.std.proofs.Common.{◌≡◌, ℕ, ◌+◌, ◌≤◌, ◌==◌, ◌&&◌, ◌||◌, not, Bool, true, false, List, [], ◌∷◌, ◌++◌, Option, Some, None, refl, sym, ap, ap₂, ◌∙◌, arith}
use Rattle.std.specs.List.{AllByRecursion}
use Rattle.law_words_writes.specs.Below.law_results_reads.Below.fr_base.declared.name.MutexNo.{MutexNo}
use Rattle.law_words_writes.specs.Below.law_results_reads.Below.fr_base.declared.name.ObjNo.{ObjNo}
use Rattle.law_words_writes.specs.Below.law_results_reads.Below.fr_base.declared.instruction.Instr.{Instr}
use Rattle.law_words_writes.specs.Below.law_results_reads.Below.heap_partition.declared.value.Owned.{Owned}
use Rattle.law_words_writes.specs.Below.law_results_reads.Below.thread_state.View.{ThreadState}
use Rattle.law_words_writes.specs.Below.law_results_reads.Below.server_model.declared.event.Event.{Event}
use Rattle.law_words_writes.specs.Below.law_results_reads.Below.server_model.Servers.{Server, Cluster}
use Rattle.law_words_writes.specs.Below.law_results_reads.Below.coherent_memory.Names.{tot, one, some, if_so}
use Rattle.law_words_writes.specs.Below.law_results_reads.Below.coherent_memory.Things.{in_hand, Thing, holds, stands, gift_things, things_of}
use Rattle.law_words_writes.specs.Below.law_results_reads.Below.coherent_memory.Sight.{Sight, sight}
use Rattle.law_words_writes.specs.Below.law_results_reads.Below.coherent_memory.Requests.{home_of, is_par_end}
use Rattle.law_words_writes.specs.Below.law_results_reads.Below.coherent_memory.Sharing.{got_phase}
use Rattle.law_words_writes.specs.Below.law_results_reads.Below.coherent_memory.Naming.{count_of, started_at, made_at}
use Rattle.law_words_writes.specs.Below.law_results_reads.Below.coherent_memory.OneHeap.{Node, task_n, mutex_n, a_thread, owner_of, owns, names, named_in, any_named, is_in_state, cell_value, first_shown, object_value, content_value, share_in, in_pair_of, result_value, running_at, is_given_thread, is_given_mutex, state_of}
use Rattle.law_words_writes.specs.Below.law_results_reads.Below.coherent_memory.Coherent.{IsSound}
use Rattle.law_words_writes.proofs.Below.law_results_reads.Below.law_counts_sums.Bags.{counts_of, had_by}
use Rattle.law_words_writes.proofs.Below.law_results_reads.Below.law_counts_sums.Trades.{tot-append}
use Rattle.law_heap_steps.specs.Below.law_heap_still.events.Shows.{held_branch}
use Rattle.law_heap_steps.proofs.Below.law_heap_still.events.Alike.{Once}
use Rattle.law_heap_steps.proofs.Below.law_heap_still.events.Counting.{stray}
use Rattle.law_heap_steps.proofs.Below.law_heap_still.events.Told.{told, ones}
use Rattle.law_heap_steps.proofs.turns.Parts.{Own, owned_in, own_named}
use Rattle.law_heap_steps.proofs.turns.OneTurn.{of_thread, Calm}
use Rattle.law_heap_steps.proofs.turns.Events.{AtStep}
use Rattle.law_heap_steps.proofs.mutexes.Reach.{SameOwners, or_left, or_right, or_cases, here, stays_in, comes_from}
use Rattle.law_heap_steps.proofs.mutexes.Beside.{giftless, IsBeside, IsLoose, loose_beside, all_so, so_one, mine, any_mine, all_of, tot_of, cells_of}
use Rattle.law_heap_steps.proofs.mutexes.OneNode.{some_there, there_some, one_of_two, is_one}
use Rattle.law_heap_steps.proofs.mutexes.OneThread as one_thread
use Rattle.law_heap_steps.proofs.mutexes.OneThread.{GoesOn, next, none_got}
use Rattle.law_heap_steps.proofs.mutexes.Changed as changed
use Rattle.law_heap_steps.proofs.mutexes.NewMutex.{rest_less}
use Rattle.law_heap_steps.proofs.mutexes.SharedLines.{nothing_under}
use Rattle.law_heap_steps.proofs.mutexes.ThreadTurns.{G, R, before, then_there, quiet, loose}
use Rattle.law_heap_writes.proofs.drops.InHand as held
use Rattle.law_heap_writes.proofs.drops.Under.{owned_by, under_names, once_under, none_so}
use Rattle.law_heap_writes.proofs.drops.Carrying.{is_sole, Others, KnownTask}
use Rattle.law_heap_writes.proofs.drops.Soundly.{names_it, sole_owner, no_branch, given_owned, rank, unfallen_at, all_fall, falls_under, silent_of}

module _ (k : Cluster) (sound : IsSound k) (e : Event) (i : Instr) (single : is_par_end (Some i) ≡ false) (s : Server) (t : ℕ) (x : ThreadState) (at : AtStep k e i s t x) (bare : x.gift ≡ None) (v : Owned) (became : ThreadState)
    (even : (q : Node) → owned_in q x.slots + owned_in q x.temps ≡ owned_in q became.slots + owned_in q became.temps + one (owns q v)) where
  abbrev pub n : ℕ
  n = s.rest.number

  abbrev pub G1 : List Thing
  G1 = G k sound e i single s t x at

  abbrev pub Rest : List Thing
  Rest = R k sound e i single s t x at

  abbrev pub G2 : List Thing
  G2 = counts_of n 0 s.rest ∷ []

  abbrev pub Gv : List Thing
  Gv = holds in_hand v ∷ G2

  abbrev pub s1 : Sight
  s1 = before k sound e i single s t x at

  abbrev pub y : ThreadState
  y = next x became

  -- all but the thread and what is in hand
  abbrev pub B : List Thing
  B = (G2 ++ had_by n (giftless y)) ++ Rest

  abbrev pub with_it : Option Owned → Sight
  with_it c = held.sight_with k n y B c

  abbrev sv : Sight
  sv = with_it (Some v)

  abbrev pub s2 : Sight
  s2 = then_there k sound e i single s t x at became G2

  pub calm : Calm x.phase
  calm = quiet k sound e i single s t x at

  pub alone : {A : Type 0} (f : List Thing → A) → f G1 ≡ f (counts_of n s.events s.rest ∷ [])
  alone f = ap (λ g. f (gift_things x.number g ++ counts_of n s.events s.rest ∷ [])) bare

  loose1 : AllByRecursion IsLoose G1
  loose1 = loose k sound e i single s t x at

  pub beside1 : AllByRecursion IsBeside G1
  beside1 = all_so IsLoose IsBeside loose_beside G1 loose1

  pub beside_v : AllByRecursion IsBeside Gv
  beside_v = (tt, (tt, tt))

  pub lone1 : tot (of_thread x.number) Rest ≡ 0
  lone1 = changed.lone k sound e s at.here t x at.at at.number

  pub locks_v : one_thread.LocksStay k Rest G1 Gv n x became
  locks_v = one_thread.locks_stay k Rest G1 Gv n x became beside1 beside_v lone1 (cells_of n x G1 Rest loose1 ∙ sym (cells_of n y Gv Rest (tt, (tt, tt))))

  locks2 : one_thread.LocksStay k Rest G1 G2 n x became
  locks2 = one_thread.locks_stay k Rest G1 G2 n x became beside1 (tt, tt) lone1 (cells_of n x G1 Rest loose1 ∙ sym (cells_of n y G2 Rest (tt, tt)))

  abbrev own : Node → ℕ
  own q = owned_in q x.slots + owned_in q x.temps

  abbrev own2 : Node → ℕ
  own2 q = owned_in q became.slots + owned_in q became.temps

  -- WHO IS IN THE STATE

  abbrev In1 : Node → Bool
  In1 = is_in_state s1

  abbrev Inv : Node → Bool
  Inv = is_in_state sv

  owners_v : SameOwners s1 sv Rest
  owners_v = one_thread.same_owners k Rest G1 Gv n x became beside1 beside_v lone1 locks_v

  named1 : (f : Node → Bool) (q : Node) → any_named s1 f q (mine n x G1) ≡ some (own q)
  named1 f q = any_mine n x G1 s1 f q ∙ ap (λ b. b || some (own q)) (alone (any_named s1 f q))

  named_v : (f : Node → Bool) (q : Node) → any_named sv f q (mine n y Gv) ≡ owns q v || some (own2 q)
  named_v f q = any_mine n y Gv sv f q ∙ by (owns q v)
    where
      by : (b : Bool) → (named_in b f a_thread || any_named sv f q G2) || some (own2 q) ≡ b || some (own2 q)
      by true = refl
      by false = refl

  all_of_it : (q : Node) → 1 ≤ own q → (1 ≤ own2 q → owns q v || some (own2 q) ≡ true) → owns q v || some (own2 q) ≡ true
  all_of_it q l f = one_of_two (own2 q) (one (owns q v)) (owns q v || some (own2 q) ≡ true) f (λ m. or_left (owns q v) (some (own2 q)) (is_one (owns q v) m)) (omega (arith, l, even q))

  stay : (q : Node) → In1 q ≡ true → Inv q ≡ true
  stay =
      stays_in k (mine n x G1) (mine n y Gv) Rest owners_v
      (λ q f. here k (mine n y Gv) Rest q (named_v Inv q ∙ all_of_it q (some_there (own q) (sym (named1 Inv q) ∙ f)) (λ l. or_right (owns q v) (some (own2 q)) (there_some (own2 q) l))))

  come : (q : Node) → Inv q ≡ true → In1 q || false ≡ true
  come =
      comes_from k (mine n x G1) (mine n y Gv) Rest owners_v (λ q. false) (nothing_under s1 Rest)
      (λ q f. or_left (In1 q) false (here k (mine n x G1) Rest q (named1 In1 q ∙ there_some (own q) (or_cases (owns q v) (some (own2 q)) (1 ≤ own q) (λ d. omega (arith, even q, ap one d)) (λ d. omega (arith, even q, some_there (own2 q) d)) (sym (named_v (λ w. In1 w || false) q) ∙ f)))))

  pub same_in : (q : Node) → false ≡ false → In1 q ≡ Inv q
  same_in q z = by (In1 q) refl (Inv q) refl
    where
      by : (b : Bool) → In1 q ≡ b → (c : Bool) → Inv q ≡ c → In1 q ≡ Inv q
      by true f true g = f ∙ sym g
      by false f false g = f ∙ sym g
      by true f false g = absurd (cc (sym g ∙ stay q f))
      by false f true g = absurd (or_cases (In1 q) false ⊥ (λ d. cc (sym d ∙ f)) (λ d. cc d) (come q g))

  -- THE STATE

  pub objects_on : (q : ObjNo) → object_value s1 q ≡ object_value sv q
  objects_on q = one_thread.object_same k Rest G1 Gv n x became beside1 beside_v lone1 locks_v (λ w. false) (nothing_under s1 Rest) same_in q refl (alone (first_shown (cell_value q)))

  pub names_on : (w : MutexNo) → is_given_mutex s1 w ≡ is_given_mutex sv w
  names_on = one_thread.mutex_given k Rest G1 Gv n x became beside1 beside_v lone1 locks_v (λ h c. alone (tot (made_at h c)) ∙ omega arith)

  pub mutexes_on : (w : MutexNo) → (state_of s1).mutex w ≡ (state_of sv).mutex w
  mutexes_on w =
      one_thread.mutex_same k Rest G1 Gv n x became beside1 beside_v lone1 locks_v (λ q. false) (nothing_under s1 Rest) same_in w refl (alone (first_shown (content_value s1 w)))
      (let none : tot (share_in s1 w) G1 ≡ 0 = alone (tot (share_in s1 w)) in omega (arith, none, even (mutex_n w), so_one (owns (mutex_n w) v)))

  -- WHAT IS SHOWN ONCE

  once1 : Once s1
  once1 = changed.once_before k sound e s at.here t x at.at at.number

  -- WHERE IT GOES ON

  module _ (calm2 : Calm became.phase) (same_made : x.made ≡ became.made) where
    pub thread_on : GoesOn x.number (running_at x) (running_at y) (state_of s1) (state_of sv)
    thread_on =
        one_thread.goes_on k Rest G1 Gv n x became beside1 beside_v lone1 locks_v (λ q. false) (nothing_under s1 Rest) same_in (λ r. alone (tot (in_pair_of r))) (λ u. refl) (λ r. alone (first_shown (result_value s1 r))) calm calm2 (λ h c. alone (tot (started_at h c)) ∙ omega arith)
        (changed.given k sound e s at.here t x at.at at.number)

    pub made_on : (u : ℕ) → (state_of s1).made u ≡ (state_of sv).made u
    made_on = one_thread.made_same k Rest G1 Gv n x became beside1 beside_v lone1 locks_v calm.goes calm2.goes same_made

    pub once_then : Once s2
    once_then = one_thread.once_on k Rest G1 G2 n x became beside1 (tt, tt) lone1 locks2 calm (λ r. none_got r became.phase calm2.alone) calm2.goes once1 few contents (λ r. omega arith)
      where
        few : (q : ObjNo) → tot (λ a. told ones (cell_value q a)) G2 + tot (λ a. told ones (cell_value q a)) Rest ≤ 1
        few q =
            let flat : Own (λ a. told ones (cell_value q a) ≡ 0) = record { slots = λ u j a. refl; temps = λ u j a. refl; shared = λ l r. refl; lent = λ l r. refl; marks = λ l w. refl; used = λ u w. refl } in
            omega (arith, once1.cells q, tot_of n x G1 Rest (λ a. told ones (cell_value q a)) flat)

        contents : (w : MutexNo) → tot (λ a. told ones (content_value s2 w a)) G2 + tot (λ a. told ones (content_value s1 w a)) Rest ≤ 1
        contents w =
            let flat : Own (λ a. told ones (content_value s1 w a) ≡ 0) = record { slots = λ u j a. refl; temps = λ u j a. refl; shared = λ l r. refl; lent = λ l r. refl; marks = λ l c. refl; used = λ u c. refl } in
            omega (arith, once1.contents w, tot_of n x G1 Rest (λ a. told ones (content_value s1 w a)) flat)

  unstray1 : tot (stray s1) Rest ≡ 0
  unstray1 =
      let flat : Own (λ a. stray s1 a ≡ 0) = record { slots = λ u j a. refl; temps = λ u j a. refl; shared = λ l r. refl; lent = λ l r. refl; marks = λ l w. refl; used = λ u w. refl } in
      omega (arith, changed.none_stray k sound e s at.here t x at.at at.number, tot_of n x G1 Rest (stray s1) flat)

  unstray2 : tot (stray s2) Rest ≡ 0
  unstray2 = sym (one_thread.stray_stays k Rest G1 G2 n x became beside1 (tt, tt) lone1) ∙ unstray1

  unstray_all : tot (stray s2) s2.things ≡ 0
  unstray_all =
      let flat : Own (λ a. stray s2 a ≡ 0) = record { slots = λ u j a. refl; temps = λ u j a. refl; shared = λ l r. refl; lent = λ l r. refl; marks = λ l w. refl; used = λ u w. refl } in
      omega (arith, unstray2, tot_of n y G2 Rest (stray s2) flat)

  -- WHO OWNS WHAT

  abbrev had_then : List Thing
  had_then = had_by n (giftless y)

  names_before : (q : Node) → tot (names_it q) (things_of k) ≡ own q + tot (names_it q) Rest
  names_before q =
      let f = names_it q in
      let had = had_by n (giftless x) in
      let whole : tot f (all_of n x G1 Rest) ≡ f (stands n false x) + tot f ((G1 ++ had) ++ Rest) = refl in
      let none : tot f G1 ≡ 0 = alone (tot f) in
      omega (arith, changed.same_things k sound e s at.here t x at.at at.number f, whole, none, tot-append f (G1 ++ had) Rest, tot-append f G1 had, own_named q n (giftless x) refl)

  names_then : (q : Node) → tot (names_it q) B ≡ own2 q + tot (names_it q) Rest
  names_then q =
      let f = names_it q in
      let none : tot f G2 ≡ 0 = refl in
      omega (arith, none, tot-append f (G2 ++ had_then) Rest, tot-append f G2 had_then, own_named q n (giftless y) refl)

  pub names_left : (q : Node) → tot (names_it q) B + one (owns q v) ≡ tot (names_it q) (things_of k)
  names_left q = omega (arith, names_before q, names_then q, even q)

  -- WHAT IS IN HAND

  none_names : (f : Node → Bool) (q : Node) (xs : List Thing) → tot (names_it q) xs ≡ 0 → any_named s2 f q xs ≡ false
  none_names f q [] z = refl
  none_names f q (th ∷ xs) z = by (names q th) z (none_names f q xs)
    where
      by : (b : Bool) → one b + tot (names_it q) xs ≡ 0 → (tot (names_it q) xs ≡ 0 → any_named s2 f q xs ≡ false) → named_in b f (owner_of s2 th) || any_named s2 f q xs ≡ false
      by true m go = absurd (omega (arith, m))
      by false m go = go (omega (arith, m))

  -- nobody else has what has one owner
  pub alone_then : (q : Node) → is_sole q ≡ true → owns q v ≡ true → held.any_in k n y B (Some v) q ≡ false
  alone_then q it mine = none_names (held.In k n y B (Some v)) q B (omega (arith, names_left q, sole_owner k sound q it, ap one mine))

  -- THE OTHERS

  module _ (ungot : (r : ℕ) → got_phase r became.phase ≡ 0) (once2 : Once s2) where
    abbrev Known : ℕ → Type 0
    Known u = KnownTask k n y B u

    known_named : (u : ℕ) → 1 ≤ tot (names_it (task_n u)) (things_of k) → Known u
    known_named u l = record {
      given = sym (given_then u) ∙ given_owned k sound u l;
      unheld =
          let f = held_branch u in
          let flat : Own (λ a. f a ≡ 0) = record { slots = λ w j a. refl; temps = λ w j a. refl; shared = λ b r. refl; lent = λ b r. refl; marks = λ b w. refl; used = λ w b. refl } in
          let none = no_branch k sound u l in
          omega (arith, none, changed.same_things k sound e s at.here t x at.at at.number f, tot_of n x G1 Rest f flat, tot_of n y G2 Rest f flat, ap (λ i. one (some i)) (ungot u));
    }
      where
        given_then : (u : ℕ) → is_given_thread (sight k) u ≡ is_given_thread s2 u
        given_then u = ap (λ m. u == 0 || (not (count_of u == 0) && some m)) (changed.same_things k sound e s at.here t x at.at at.number (started_at (home_of u) (count_of u))) ∙ one_thread.given_same k Rest G1 G2 n x became beside1 (tt, tt) lone1 locks2 (λ h c. alone (tot (started_at h c)) ∙ omega arith) u

    -- what stands under a node stood there
    pub under_before : (p q : Node) → tot (under_names s2 p q) B ≡ tot (under_names (sight k) p q) Rest
    under_before p q =
        let f = under_names s2 p q in
        let flat : Own (λ a. f a ≡ 0) = record { slots = λ w j a. none_so (owns q a); temps = λ w j a. none_so (owns q a); shared = λ b r. refl; lent = λ b r. refl; marks = λ b w. refl; used = λ w b. refl } in
        let whole : tot f s2.things ≡ f (stands n false y) + tot f B = refl in
        omega (arith, whole, tot_of n y G2 Rest f flat, same Rest owners2)
      where
        owners2 : SameOwners s1 s2 Rest
        owners2 = one_thread.same_owners k Rest G1 G2 n x became beside1 (tt, tt) lone1 locks2

        stood : (th : Thing) → owner_of (sight k) th ≡ owner_of s1 th
        stood (holds r a) = changed.spots_before k sound e s at.here t x at.at at.number r
        stood _ = refl

        same : (xs : List Thing) → SameOwners s1 s2 xs → tot (under_names s2 p q) xs ≡ tot (under_names (sight k) p q) xs
        same [] h = refl
        same (th ∷ xs) h = ap₂ (λ o r. if_so (names q th) (one (owned_by p o)) + r) (sym h.0 ∙ sym (stood th)) (same xs h.1)

    no_more : {i j : ℕ} → i ≡ 0 → j ≤ i → j ≡ 0
    no_more z l = omega (arith, z, l)

    pub others_known : Others k n y B
    others_known = record {
      once = λ q. let few = once_under s2 once2 unstray_all q in omega (arith, few);
      unstray = omega (arith, unstray_all);
      sole = λ q it. omega (arith, names_left q, sole_owner k sound q it);
      known = λ u l. known_named u (omega (arith, l, names_left (task_n u)));
      silent = silent_of s2 once2;
      rank = rank k sound;
      falls = λ p q l. falls_under k sound p q Rest (no_more (all_fall k sound) (rest_less k sound e s at.here t x at.at at.number (unfallen_at k sound))) (omega (arith, l, under_before p q));
    }

    pub known_then : (u : ℕ) → owns (task_n u) v ≡ true → Known u
    known_then u mine = known_named u (omega (arith, names_left (task_n u), ap one mine))
