-- A run of events from a coherent cluster to coherent ones has few steps, where threads have few asks left.
use Rattle.std.proofs.Common.{◌≡◌, ◌≤◌, ℕ, zero, suc, ◌+◌, ◌*◌, ◌==◌, ◌&&◌, Bool, true, false, List, [], ◌∷◌, length, Option, Some, None, refl, sym, ap, subst, ◌∙◌, arith}
use Rattle.std.proofs.lemmas.Bool.Decides.{nat_tests}
use Rattle.std.specs.Prelude.{is_some, slice_get, option_map}
use Rattle.law_runs_whole.specs.Below.law_counts_things.Below.fr_base.Lists.{tot, one}
use Rattle.law_runs_whole.specs.Below.law_counts_things.Below.fr_base.declared.instruction.Instr.{Instr}
use Rattle.law_runs_whole.specs.Below.law_counts_things.Below.fr_base.declared.settings.Options.{Options}
use Rattle.law_runs_whole.specs.Below.law_counts_things.Below.fr_base.declared.step.Fresh.{Fresh}
use Rattle.law_runs_whole.specs.Below.law_counts_things.Below.thread_state.View.{ThreadState}
use Rattle.law_runs_whole.specs.Below.journal.View.{EntryView}
use Rattle.law_runs_whole.specs.Below.coloured_heap.Lists.{holds}
use Rattle.law_runs_whole.specs.Below.coloured_heap.Heap.{Coloured, start}
use Rattle.law_runs_whole.specs.Below.coloured_heap.Legal.{entry_after}
use Rattle.law_runs_whole.specs.Below.coloured_heap.Driven.{are_due, departing, may_depart, resting, driven_from, is_driven}
use Rattle.law_runs_whole.specs.Below.server_model.declared.event.Event.{Event}
use Rattle.law_runs_whole.specs.Below.server_model.declared.event.What.{What}
use Rattle.law_runs_whole.specs.Below.server_model.declared.event.What.TheVariants.{Step, Deliver, Evict, Migrate}
use Rattle.law_runs_whole.specs.Below.server_model.Servers.{Server, Cluster, server_at, start_of}
use Rattle.law_runs_whole.specs.Below.server_model.Work.{Hand, thread_in, then_some}
use Rattle.law_runs_whole.specs.Below.server_model.Events.{Stepped, begin_work, enabled, step, step_in, stepped, does}
use Rattle.law_runs_whole.specs.Below.server_model.Clusters.{apply, done_at}
use Rattle.law_runs_whole.specs.Below.law_counts_sums.Laws.{Gives, FewEvents}
use Rattle.law_runs_whole.specs.Below.law_counts_things.Below.coherent_types.ClusterTypes.{IsCoherent}
use Rattle.law_runs_whole.proofs.Below.law_counts_sums.Results.{then_gives, over_gives, bind_gives, test_gives, both_give, weaker, given_by}
use Rattle.law_runs_whole.proofs.Below.law_counts_sums.Bags.{thread_number}
use Rattle.law_runs_whole.proofs.Below.law_counts_things.things.Plainly.{EndsStep}
use Rattle.law_length_runs.specs.worth.Credit.{begun, rest_worth}
use Rattle.law_length_runs.specs.worth.Spending.{cost, After, one_more, after_all}
use Rattle.law_length_runs.specs.worth.Driving.{is_step, steps_in, plain_steps, resting_after}
use Rattle.law_length_runs.proofs.worth.Driven.{among, Once, right_true, driven_runs_are_short}
use Rattle.law_length_runs.proofs.worth.Runs.{starts_with_little}
use Rattle.law_length_runs.proofs.worth.Steps.{E, step_costs}
use Rattle.law_length_runs.specs.asked.Resting.{starts_in, threads_in}
use Rattle.law_length_runs.specs.asked.Starting.{RunsStartFew}
use Rattle.law_length_runs.specs.asked.Asking.{AsksLeft, AreCoherent, StepsAreFew, RunsEnd}
use Rattle.law_length_runs.proofs.asked.Numbers.{numbers, Grown, same_grown, Left, entry_leaves}
use Rattle.law_length_runs.proofs.asked.Resting.{few_rest}
use Rattle.law_length_runs.proofs.asked.Deliveries.{plain_steps_start_two}

-- A STEP'S ENTRY NAMES ITS THREAD

-- the entry of an event has that thread
abbrev Names : What → EntryView → Type 0
Names what v = (t : ℕ) → what ≡ Step t → v.thread ≡ Some t

same_step : {t u : ℕ} → Step t ≡ Step u → t ≡ u
same_step e = cc

any : {X : Type 0} (P : X → Type 0) (o : Option X) → ((r : X) → P r) → Gives P o
any P None f = tt
any P (Some r) f = f r

module _ (code : List Instr) (o : Options) (s : Server) where
  abbrev Named : What → Server × EntryView → Type 0
  Named what r = Names what r.1

  stepping : (t : ℕ) → Gives (Named (Step t)) (does code o s (Step t))
  stepping t = by (thread_in s.threads t) refl
    where
      c : ℕ
      c = rest_worth s.rest

      b : ℕ
      b = 5 * s.rest.started

      put : (y : ThreadState) → thread_in s.threads t ≡ Some y → (d : Stepped) → EndsStep (E c b y) d → Named (Step t) (stepped s d)
      put y q d a u f = ap (λ n. Some n) (a.0 ∙ thread_number s.threads t y q ∙ same_step f)

      by : (x : Option ThreadState) → thread_in s.threads t ≡ x → Gives (Named (Step t)) (option_map (stepped s) (then_some (option_map (λ y. record { work = begin_work s.rest; thread = y }) x) (step_in code o.servers)))
      by None q = tt
      by (Some y) q =
          let h : Hand = record { work = begin_work s.rest; thread = y } in
          over_gives (EndsStep (E c b y)) (Named (Step t)) (step_in code o.servers h) (stepped s)
          (then_gives (EndsStep (E c b y)) (slice_get code y.pc) (λ i. step o.servers i h) (λ i z. step_costs c b y o.servers i h (refl, refl, omega arith))) (put y q)

  none_steps : (what : What) → ((t : ℕ) → what ≡ Step t → ⊥) → Gives (Named what) (does code o s what)
  none_steps what none = any (Named what) (does code o s what) (λ r t e. absurd (none t e))

  named : (what : What) → Gives (Named what) (does code o s what)
  named (Step t) = stepping t
  named (Deliver i) = none_steps (Deliver i) (λ t e. cc e)
  named (Evict w) = none_steps (Evict w) (λ t e. cc e)
  named (Migrate t target) = none_steps (Migrate t target) (λ u e. cc e)

events_named : (k : Cluster) (e : Event) → Gives (λ (d : Cluster × EntryView). Names e.what d.1) (apply k e)
events_named k e =
    then_gives (λ (d : Cluster × EntryView). Names e.what d.1) (server_at k.servers e.server) _ (λ s here.
    over_gives (λ (r : Server × EntryView). Names e.what r.1) (λ (d : Cluster × EntryView). Names e.what d.1) (done_at k e.what s) _
    (test_gives (λ (r : Server × EntryView). Names e.what r.1) (enabled k.options s e.what) _ (λ on. named k.code k.options s e.what)) (λ r a. a))

-- a fact for each of some gives one of all
all_give : {A X : Type 0} (P : A → X → Type 0) (o : Option X) → ((a : A) → Gives (P a) o) → Gives (λ x. (a : A) → P a x) o
all_give P None f = tt
all_give P (Some x) f = λ a. f a

-- SUMS OVER THREADS

-- no thread has more
no_more : (f g : ℕ → ℕ) → ((t : ℕ) → f t ≤ g t) → (ts : List ℕ) → tot f ts ≤ tot g ts
no_more f g l [] = omega arith
no_more f g l (t ∷ ts) = let a = l t in let b = no_more f g l ts in omega (arith, a, b)

-- each has at most so many
at_most : (f : ℕ → ℕ) (m : ℕ) → ((t : ℕ) → f t ≤ m) → (ts : List ℕ) → tot f ts ≤ m * length ts
at_most f m l [] = omega arith
at_most f m l (t ∷ ts) = let a = l t in let b = at_most f m l ts in omega (arith, a, b)

-- one has more, and it is there at most once
one_has : (f g : ℕ → ℕ) (t m : ℕ) → ((u : ℕ) → (u == t) ≡ false → f u ≤ g u) → f t ≤ g t + m → (ts : List ℕ) → tot f ts ≤ tot g ts + m * among t ts
one_has f g t m others mine [] = omega arith
one_has f g t m others mine (u ∷ ts) = by (u == t) refl (one_has f g t m others mine ts)
  where
    by : (b : Bool) → (u == t) ≡ b → tot f ts ≤ tot g ts + m * among t ts → f u + tot f ts ≤ g u + tot g ts + m * (one b + among t ts)
    by true e l = let same : u ≡ t = grind (arith, nat_tests, e) in let a : f u ≤ g u + m = subst (λ v. f v ≤ g v + m) (sym same) mine in omega (arith, l, a)
    by false e l = let a = others u e in omega (arith, l, a)

-- one has less, and it is there
one_less : (f g : ℕ → ℕ) (t : ℕ) → ((u : ℕ) → (u == t) ≡ false → f u ≤ g u) → f t + 1 ≤ g t → (ts : List ℕ) → tot f ts + among t ts ≤ tot g ts
one_less f g t others mine [] = omega arith
one_less f g t others mine (u ∷ ts) = by (u == t) refl (one_less f g t others mine ts)
  where
    by : (b : Bool) → (u == t) ≡ b → tot f ts + among t ts ≤ tot g ts → f u + tot f ts + (one b + among t ts) ≤ g u + tot g ts
    by true e l = let same : u ≡ t = grind (arith, nat_tests, e) in let a : f u + 1 ≤ g u = subst (λ v. f v + 1 ≤ g v) (sym same) mine in omega (arith, l, a)
    by false e l = let a = others u e in omega (arith, l, a)

-- ONE EVENT

differs : (t u : ℕ) → (u == t) ≡ false → t ≡ u → ⊥
differs t u e same = let equal : (u == t) ≡ true = grind (arith, nat_tests, same) in absurd (cc (sym equal ∙ e))

coherent_first : (es : List Event) (k : Cluster) → AreCoherent es k → IsCoherent k
coherent_first [] k a = a
coherent_first (e ∷ es) k a = a.0.0

module _ (most : ℕ) (p : AsksLeft most) where
  abbrev all_left : Cluster → List ℕ → ℕ
  all_left k ts = tot (p.left k) ts

  -- what an event makes of the asks that all have left, where who steps is among them
  abbrev Asked : Cluster → Event → Cluster × EntryView → Type 0
  Asked k e d = IsCoherent d.0 → (ts : List ℕ) → Once ts → ((t : ℕ) → d.1.thread ≡ Some t → 1 ≤ among t ts) → all_left d.0 ts + is_step e.what ≤ all_left k ts + (most + 1) * one (is_some d.1.done)

  of_step : (k : Cluster) (e : Event) (t : ℕ) → e.what ≡ Step t → IsCoherent k → FewEvents k → (d : Cluster × EntryView) → apply k e ≡ Some d → Asked k e d
  of_step k e t is co few d q after ts once there = by d.1.done refl
    where
      others : (u : ℕ) → (u == t) ≡ false → p.left d.0 u ≤ p.left k u
      others u ne = given_by (λ (x : Cluster × EntryView). IsCoherent x.0 → p.left x.0 u ≤ p.left k u) (apply k e) d (p.stays k e u (λ f. differs t u ne (same_step (sym is ∙ f))) co few) q after

      its : d.1.thread ≡ Some t
      its = given_by (λ (x : Cluster × EntryView). Names e.what x.1) (apply k e) d (events_named k e) q t is

      steps_once : is_step e.what ≡ 1
      steps_once = ap is_step is

      by : (o : Option Fresh) → d.1.done ≡ o → all_left d.0 ts + is_step e.what ≤ all_left k ts + (most + 1) * one (is_some o)
      by None none =
          let less = given_by (λ (x : Cluster × EntryView). IsCoherent x.0 → x.1.done ≡ None → p.left x.0 t + 1 ≤ p.left k t) (apply k e) d (p.asks k e t is co few) q after none in
          let all = one_less (p.left d.0) (p.left k) t others less ts in
          let in_it = there t its in
          omega (arith, all, in_it, steps_once)
      by (Some names) done =
          let few_left = p.few d.0 t after in
          let all = one_has (p.left d.0) (p.left k) t most others (omega (arith, few_left)) ts in
          let l = once t in
          let at_once : most * among t ts ≤ most = times_one most (among t ts) l in
          omega (arith, all, at_once, steps_once)
        where
          times_one : (m n : ℕ) → n ≤ 1 → m * n ≤ m
          times_one m zero l = omega arith
          times_one m (suc zero) l = omega arith
          times_one m (suc (suc n)) l = absurd (omega (arith, l))

  of_other : (k : Cluster) (e : Event) → ((t : ℕ) → e.what ≡ Step t → ⊥) → is_step e.what ≡ 0 → IsCoherent k → FewEvents k → (d : Cluster × EntryView) → apply k e ≡ Some d → Asked k e d
  of_other k e none zero_steps co few d q after ts once there =
      let all = no_more (p.left d.0) (p.left k) (λ u. given_by (λ (x : Cluster × EntryView). IsCoherent x.0 → p.left x.0 u ≤ p.left k u) (apply k e) d (p.stays k e u (none u) co few) q after) ts in
      omega (arith, all, zero_steps)

  event_asks : (k : Cluster) (e : Event) → IsCoherent k → FewEvents k → (d : Cluster × EntryView) → apply k e ≡ Some d → Asked k e d
  event_asks k e co few d q = by e.what refl
    where
      by : (w : What) → e.what ≡ w → Asked k e d
      by (Step t) is = of_step k e t is co few d q
      by (Deliver i) is = of_other k e (λ t f. absurd (cc (sym is ∙ f))) (ap is_step is) co few d q
      by (Evict w) is = of_other k e (λ t f. absurd (cc (sym is ∙ f))) (ap is_step is) co few d q
      by (Migrate t target) is = of_other k e (λ u f. absurd (cc (sym is ∙ f))) (ap is_step is) co few d q

  -- RUNS

  -- the threads at the end, and what all have left then
  record Ends (before : List ℕ) (k : Cluster) (es : List Event) (x : After) : Type 0 where
    threads : List ℕ
    grown : Grown before threads (starts_in x.journal)
    bound : (ts : List ℕ) → Once ts → ((n : ℕ) → among n threads ≤ among n ts) → all_left x.cluster ts + steps_in es ≤ all_left k ts + (most + 1) * plain_steps x.journal

  abbrev Driven : Options → Coloured → List ℕ → Cluster → List Event → After → Type 0
  Driven o s moved k es x = driven_from o s moved x.journal ≡ true → Ends (numbers s) k es x

  run_asks : (o : Options) (es : List Event) (k : Cluster) → AreCoherent es k → (s : Coloured) (moved : List ℕ) → Gives (Driven o s moved k es) (after_all es k)
  run_asks o [] k a s moved = λ d. record { threads = numbers s; grown = same_grown (numbers s); bound = λ ts once l. omega arith }
  run_asks o (e ∷ es) k a s moved =
      then_gives (Driven o s moved k (e ∷ es)) (apply k e) _ (λ d q.
      let rest : AreCoherent es d.0 = given_by (λ (x : Cluster × EntryView). AreCoherent es x.0) (apply k e) d a.1 q in
      over_gives (λ (x : After). (s2 : Coloured) (moved2 : List ℕ) → Driven o s2 moved2 d.0 es x) (Driven o s moved k (e ∷ es)) (after_all es d.0) (one_more d.1 (cost k e))
      (all_give (λ (s2 : Coloured) (x : After). (moved2 : List ℕ) → Driven o s2 moved2 d.0 es x) (after_all es d.0) (λ s2.
      all_give (λ (moved2 : List ℕ) (x : After). Driven o s2 moved2 d.0 es x) (after_all es d.0) (λ moved2. run_asks o es d.0 rest s2 moved2)))
      (λ x go. entry d q rest x go))
    where
      entry : (d : Cluster × EntryView) → apply k e ≡ Some d → AreCoherent es d.0 → (x : After) → ((s2 : Coloured) (moved2 : List ℕ) → Driven o s2 moved2 d.0 es x) → driven_from o s moved (d.1 ∷ x.journal) ≡ true → Ends (numbers s) k (e ∷ es) (one_more d.1 (cost k e) x)
      entry d q rest x go driven =
          by (entry_after o s d.1) refl (right_true (are_due o d.1 d.1.acts s && may_depart moved (departing d.1.acts)) (holds (λ after. driven_from o after (resting d.1 moved) x.journal) (entry_after o s d.1)) driven)
        where
          by : (c : Option Coloured) → entry_after o s d.1 ≡ c → holds (λ after. driven_from o after (resting d.1 moved) x.journal) c ≡ true → Ends (numbers s) k (e ∷ es) (one_more d.1 (cost k e) x)
          by None f g = absurd (cc g)
          by (Some c) f g =
              let left : Left s c d.1 = entry_leaves o s c d.1 f in
              let later = go c (resting d.1 moved) g in
              let one_way = left.grown in
              let other_way = later.grown in
              record {
                threads = later.threads;
                grown = record { many = omega (arith, one_way.many, other_way.many); stay = λ n. omega (arith, one_way.stay n, other_way.stay n); once = λ u. other_way.once (one_way.once u) };
                bound = λ ts once l.
                    let first = event_asks k e a.0.0 a.0.1 d q (coherent_first es d.0 rest) ts once (λ t it. let i = left.itself t it in let j = one_way.stay t in let m = other_way.stay t in let n = l t in omega (arith, i, j, m, n)) in
                    let second = later.bound ts once l in
                    omega (arith, first, second);
              }

pub steps_are_few : StepsAreFew
steps_are_few most p code o es a =
    over (after_all es (start_of code o)) (run_asks most p o es (start_of code o) a start [])
  where
    Few : After → Type 0
    Few x = is_driven o x.journal ≡ true → steps_in es ≤ (most + 1) * plain_steps x.journal + most * threads_in x.journal

    main_once : (b : Bool) → one b + 0 ≤ 1
    main_once true = omega arith
    main_once false = omega arith

    over : (x : Option After) → Gives (Driven most p o start [] (start_of code o) es) x → Gives Few x
    over None g = tt
    over (Some x) g = λ driven.
        let e = g driven in
        let grown = e.grown in
        let all = e.bound e.threads (grown.once (λ n. main_once (0 == n))) (λ n. omega arith) in
        let few = at_most (p.left (start_of code o)) most (λ t. p.few (start_of code o) t (coherent_first es (start_of code o) a)) e.threads in
        let many : most * length e.threads ≡ most * threads_in x.journal = ap (λ n. most * n) (let m = grown.many in omega (arith, m)) in
        omega (arith, all, few, many)

-- THREADS THAT START

begun_few : (es : List Event) (k : Cluster) → Gives (λ (x : After). begun x.cluster ≤ begun k + 2 * plain_steps x.journal) (after_all es k)
begun_few [] k = omega arith
begun_few (e ∷ es) k =
    bind_gives (λ (d : Cluster × EntryView). begun d.0 ≤ begun k + 2 * one (is_some d.1.done)) (λ (x : After). begun x.cluster ≤ begun k + 2 * plain_steps x.journal) (apply k e) _ (plain_steps_start_two k e) (λ d a.
    over_gives (λ (x : After). begun x.cluster ≤ begun d.0 + 2 * plain_steps x.journal) (λ (x : After). begun x.cluster ≤ begun k + 2 * plain_steps x.journal) (after_all es d.0) (one_more d.1 (cost k e)) (begun_few es d.0) (λ x b. omega (arith, a, b)))

pub runs_start_few : RunsStartFew
runs_start_few code o es =
    let none = (starts_with_little code o).1 in
    weaker (λ (x : After). begun x.cluster ≤ begun (start_of code o) + 2 * plain_steps x.journal) (λ (x : After). begun x.cluster ≤ 2 * plain_steps x.journal) (after_all es (start_of code o)) (begun_few es (start_of code o)) (λ x a. omega (arith, a, none))

-- LENGTHS

abbrev Short : List Event → Options → After → Type 0
Short es o x = is_driven o x.journal ≡ true → length x.journal ≤ 4 * steps_in es + 2 * plain_steps x.journal + 5 * begun x.cluster + 2 * length (resting_after [] x.journal) + 2

abbrev FewSteps : List Event → Options → After → Type 0
FewSteps es o x = is_driven o x.journal ≡ true → steps_in es ≤ (20 + 1) * plain_steps x.journal + 20 * threads_in x.journal

pub runs_end : RunsEnd
runs_end p code o es a =
    both_give (λ (x : After). Short es o x × FewSteps es o x) (λ (x : After). begun x.cluster ≤ 2 * plain_steps x.journal) _ (after_all es (start_of code o))
    (both_give (Short es o) (FewSteps es o) (λ (x : After). Short es o x × FewSteps es o x) (after_all es (start_of code o)) (driven_runs_are_short code o es) (steps_are_few 20 p code o es a) (λ x u v. (u, v))) (runs_start_few code o es)
    (λ x u started d. let short = u.0 d in let few = u.1 d in let r = few_rest o x.journal d in omega (arith, short, few, started, r))
