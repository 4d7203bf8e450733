-- The pair of a thread that steps is new at its home: who waits for a pair that is noted doesn't step.
use Rattle.std.proofs.Common.{◌≡◌, inl, inr, ℕ, ◌+◌, ◌≤◌, ◌==◌, ◌&&◌, ◌||◌, not, Bool, true, false, List, [], ◌∷◌, Some, refl, sym, ap, ap₂, ◌∙◌, arith}
use Rattle.law_results_events.proofs.Below.fr_typing.PlaceLemmas.{eq_cases}
use Rattle.law_results_events.specs.Below.join_home.Tasks.{Task, TaskState, in_pair, has_parent, has_pair, can_begin, can_begin_pair}
use Rattle.law_results_events.specs.Below.thread_state.View.{ThreadState}
use Rattle.law_results_events.specs.Below.thread_state.declared.phase.Phase.{Phase}
use Rattle.law_results_events.specs.Below.thread_state.declared.phase.Phase.TheVariants as phase
use Rattle.law_results_events.specs.Below.server_model.Servers.{Server, Cluster, server_at}
use Rattle.law_results_events.specs.Below.server_model.Work.{thread_in}
use Rattle.law_results_events.specs.Below.server_model.Events.{can_step}
use Rattle.law_results_events.specs.Below.coherent_memory.Names.{tot, one, if_so, Among}
use Rattle.law_results_events.specs.Below.coherent_memory.Things.{Thing, stands, things_at, result_things, task_things, things_of}
use Rattle.law_results_events.specs.Below.coherent_memory.Follow.{Standing, threads_in}
use Rattle.law_results_events.specs.Below.coherent_memory.Requests.{Branch, half_noted, pair_notes, branch_places, pair_places}
use Rattle.law_results_events.specs.Below.coherent_memory.Sight.{sight}
use Rattle.law_results_events.specs.Below.coherent_memory.Weights.{is_thread}
use Rattle.law_results_events.specs.Below.coherent_memory.Coherent.{IsSound}
use Rattle.law_results_events.proofs.Below.coherent_memory.Sums.{tot-append, server_parts}
use Rattle.law_results_events.proofs.Below.law_counts_sums.Events.{tot-server}
use Rattle.law_results_events.proofs.Below.law_counts_sums.ThreadThere.{thread_there}
use Rattle.law_results_events.proofs.Below.law_words_paths.paths.Contained.{among_thread}

-- WHO WAITS FOR A PAIR

elsewhere : (a : Bool) (m : ℕ) → if_so (a && false) m ≡ 0
elsewhere true m = refl
elsewhere false m = refl

nothing : (a : Bool) → if_so a 0 ≡ 0
nothing true = refl
nothing false = refl

-- no thread of that name waits where none is there
none_waits : (b : Branch) (xs : List Thing) → tot (is_thread b.parent) xs ≡ 0 → tot (pair_places b) xs ≡ 0
none_waits b [] z = refl
none_waits b (stands r p x ∷ xs) z =
    eq_cases (λ c. one (x.number == b.parent) ≡ one c → if_so (r == b.server && c) (branch_places b.thread x.phase) + tot (pair_places b) xs ≡ 0) x.number b.parent
    (λ e w. absurd (omega (arith, w, z))) (λ ne w. omega (arith, elsewhere (r == b.server) (branch_places b.thread x.phase), none_waits b xs (omega (arith, z)))) refl
none_waits b (_ ∷ xs) z = omega (arith, none_waits b xs (omega (arith, z)))

is_there : (t : ℕ) (z : Standing) (xs : List Thing) → Among z (threads_in xs) → z.thread.number ≡ t → 1 ≤ tot (is_thread t) xs
is_there t z [] h e = absurd h
is_there t z (stands r p x ∷ xs) (inl f) e =
    let same : x.number ≡ t = ap (λ (y : Standing). y.thread.number) f ∙ e in
    eq_cases (λ c. 1 ≤ one c + tot (is_thread t) xs) x.number t (λ q. omega arith) (λ ne. absurd (ne same))
is_there t z (stands r p x ∷ xs) (inr h) e = omega (arith, is_there t z xs h e)
is_there t z (_ ∷ xs) h e = omega (arith, is_there t z xs h e)

-- the one of that name that is there doesn't wait
one_waits_not : (b : Branch) (z : Standing) (xs : List Thing) → tot (is_thread b.parent) xs ≤ 1 → Among z (threads_in xs) → z.thread.number ≡ b.parent → branch_places b.thread z.thread.phase ≡ 0 → tot (pair_places b) xs ≡ 0
one_waits_not b z [] few h e quiet = absurd h
one_waits_not b z (stands r p x ∷ xs) few (inl f) e quiet =
    let same : x.number ≡ b.parent = ap (λ (y : Standing). y.thread.number) f ∙ e in
    let phase_is : branch_places b.thread x.phase ≡ 0 = ap (λ (y : Standing). branch_places b.thread y.thread.phase) f ∙ quiet in
    let first : if_so (r == b.server && x.number == b.parent) (branch_places b.thread x.phase) ≡ 0 = ap (if_so (r == b.server && x.number == b.parent)) phase_is ∙ nothing (r == b.server && x.number == b.parent) in
    let counted : one (x.number == b.parent) ≡ 1 = eq_cases (λ c. one c ≡ 1) x.number b.parent (λ q. refl) (λ ne. absurd (ne same)) in
    omega (arith, first, none_waits b xs (omega (arith, few, counted)))
one_waits_not b z (stands r p x ∷ xs) few (inr h) e quiet =
    let there = is_there b.parent z xs h e in
    let counted : one (x.number == b.parent) ≡ 0 = omega (arith, few, there) in
    eq_cases (λ c. one (x.number == b.parent) ≡ one c → if_so (r == b.server && c) (branch_places b.thread x.phase) + tot (pair_places b) xs ≡ 0) x.number b.parent
    (λ q w. absurd (omega (arith, w, counted))) (λ ne w. omega (arith, elsewhere (r == b.server) (branch_places b.thread x.phase), one_waits_not b z xs (omega (arith, few)) h e quiet)) refl
one_waits_not b z (_ ∷ xs) few h e quiet = omega (arith, one_waits_not b z xs (omega (arith, few)) h e quiet)

steps_not : (t : ℕ) (p : Phase) → can_step p ≡ true → branch_places t p ≡ 0
steps_not t (phase.WaitPar a b) e = absurd (cc e)
steps_not t _ e = refl

-- NOTES

both_same : (r u : ℕ) (c : Bool) → one ((r == r && u == u) && c) ≡ one c
both_same r u c = eq_cases (λ d. one ((d && u == u) && c) ≡ one c) r r (λ q. eq_cases (λ d. one (d && c) ≡ one c) u u (λ f. refl) (λ ne. absurd (ne refl))) (λ ne. absurd (ne refl))

-- where no note is one of a pair of that parent, there is no such pair
none_paired : (r p : ℕ) → (i : ℕ) (xs : List Task) → ((u : ℕ) → tot (pair_notes (record { server = r; parent = p; thread = u })) (things_at (task_things r) i xs) ≡ 0) → has_pair xs p ≡ false
none_paired r p i [] z = refl
none_paired r p i (x ∷ xs) z = ap₂ (λ a b. a || b) (first x.state (omega (arith, z x.thread, both_same r x.thread (half_noted x.state p)))) (none_paired r p (i + 1) xs later)
  where
    first : (q : TaskState) → one (half_noted q p) ≡ 0 → has_parent p q ≡ false
    first (in_pair q over) e = eq_cases (λ c. c ≡ false) p q (λ f. absurd (by f)) (λ ne. refl)
      where
        by : p ≡ q → ⊥
        by f = eq_cases (λ c. one c ≡ 0 → ⊥) q p (λ g w. absurd (cc w)) (λ ne w. ne (sym f)) e
    first _ e = refl

    later : (u : ℕ) → tot (pair_notes (record { server = r; parent = p; thread = u })) (things_at (task_things r) (i + 1) xs) ≡ 0
    later u =
        let f = pair_notes (record { server = r; parent = p; thread = u }) in
        omega (arith, z u, tot-append f (result_things x.thread x.state) (things_at (task_things r) (i + 1) xs))

module _ (k : Cluster) (n : ℕ) (s : Server) (h : server_at k.servers n ≡ Some s) (sound : IsSound k) (t : ℕ) (y : ThreadState) (there : thread_in s.threads t ≡ Some y) (able : can_step y.phase ≡ true) where
  abbrev standing : Standing
  standing = record { server = s.rest.number; packed = false; thread = y }

  no_note : (u : ℕ) → tot (pair_notes (record { server = s.rest.number; parent = y.number; thread = u })) (things_at (task_things s.rest.number) 0 s.rest.tasks) ≡ 0
  no_note u =
      let b : Branch = record { server = s.rest.number; parent = y.number; thread = u } in
      let among = (among_thread (sight k).ground.threads t standing (thread_there k sound n s h t y there)).0 in
      let places : tot (pair_places b) (things_of k) ≡ 0 = one_waits_not b standing (things_of k) (sound.names.numbers_differ y.number) among refl (steps_not u y.phase able) in
      let notes : tot (pair_notes b) (things_of k) ≡ 0 = omega (arith, places, sound.requests.pairs_noted b) in
      omega (arith, notes, (tot-server (pair_notes b) k.servers n s s h).0, server_parts (pair_notes b) s)

  no_pair : has_pair s.rest.tasks y.number ≡ false
  no_pair = none_paired s.rest.number y.number 0 s.rest.tasks no_note

  pub pair_new : (a : ℕ) → can_begin s.rest.tasks a ≡ true → can_begin s.rest.tasks (a + 1) ≡ true → can_begin_pair s.rest.tasks y.number a (a + 1) ≡ true
  pair_new a first second =
      let differ : (a == a + 1) ≡ false = eq_cases (λ c. c ≡ false) a (a + 1) (λ e. absurd (omega (arith, e))) (λ ne. refl) in
      ap₂ (λ b c. b && c) (ap₂ (λ b c. b && c) first second) (ap₂ (λ b c. not b && not c) differ no_pair)
