-- A number that a server hasn't started is unknown, and nothing is of it.
use Rattle.std.proofs.Common.{◌≡◌, ◌≢◌, ℕ, ◌+◌, ◌*◌, ◌<◌, ◌≤◌, ◌==◌, ◌||◌, nat_le, not, Bool, true, false, List, Some, refl, sym, ap, ap₂, ◌∙◌, subst, arith}
use Rattle.std.specs.Prelude.{◌^◌, ◌&&◌}
use Rattle.std.proofs.lemmas.Bool.Decides.{nat_tests}
use Rattle.law_heap_steps.proofs.Below.fr_typing.PlaceLemmas.{eq_cases}
use Rattle.law_heap_steps.specs.Below.fr_base.declared.instruction.Instr.{Instr}
use Rattle.law_heap_steps.specs.Below.thread_state.View.{ThreadState}
use Rattle.law_heap_steps.specs.Below.server_model.declared.event.Event.{Event}
use Rattle.law_heap_steps.specs.Below.server_model.Servers.{Server, Cluster}
use Rattle.law_heap_steps.specs.Below.coherent_memory.Names.{tot, one, some}
use Rattle.law_heap_steps.specs.Below.coherent_memory.Things.{Thing, counts, things_of}
use Rattle.law_heap_steps.specs.Below.coherent_memory.Sight.{with_things}
use Rattle.law_heap_steps.specs.Below.coherent_memory.Requests.{home_of, is_par_end}
use Rattle.law_heap_steps.specs.Below.coherent_memory.Naming.{count_of, started_at}
use Rattle.law_heap_steps.specs.Below.coherent_memory.Weights.{is_thread}
use Rattle.law_heap_steps.specs.Below.coherent_memory.OneHeap.{is_given_thread}
use Rattle.law_heap_steps.specs.Below.coherent_memory.Coherent.{IsSound}
use Rattle.law_heap_steps.specs.Below.law_counts_sums.Sums.{is_server}
use Rattle.law_heap_steps.proofs.Below.law_counts_sums.Bags.{counts_of}
use Rattle.law_heap_steps.proofs.Below.law_counts_sums.NewThreads.{new_names}
use Rattle.law_heap_steps.proofs.Below.law_counts_sums.Sound.{sound_has_sums}
use Rattle.law_heap_steps.proofs.Below.law_heap_still.events.Told.{at_most}
use Rattle.law_heap_steps.proofs.turns.Parts.{Own}
use Rattle.law_heap_steps.proofs.turns.OneTurn.{of_thread}
use Rattle.law_heap_steps.proofs.turns.Events.{AtStep, told_by, all_of as of_both, itself_counts}
use Rattle.law_heap_steps.proofs.mutexes.Beside.{gift_uncounted, all_of, tot_of}
use Rattle.law_heap_steps.proofs.mutexes.Changed as changed
use Rattle.law_heap_steps.proofs.mutexes.ThreadTurns.{G, R}

-- two numbers of a server
one_first : (a b : Bool) → one (a && b) ≤ one a
one_first true true = omega arith
one_first true false = omega arith
one_first false b = omega arith

pub starts_there : (n c : ℕ) (x : Thing) → started_at n c x ≤ is_server n x
starts_there n c (counts r nx old started made events) = one_first (r == n) (nat_le c started)
starts_there n c _ = omega arith

pub too_many : (a : Bool) (c m : ℕ) → m < c → one (a && nat_le c m) ≡ 0
too_many false c m l = refl
too_many true c m l = by (nat_le c m) refl
  where
    by : (b : Bool) → nat_le c m ≡ b → one b ≡ 0
    by true e = absurd (grind (arith, nat_tests, e, l))
    by false e = refl

pub home_is : (n c : ℕ) → c < 2 ^ 32 → home_of (n * 2 ^ 32 + c) ≡ n
home_is n c l = omega (arith, l)

pub count_is : (n c : ℕ) → c < 2 ^ 32 → count_of (n * 2 ^ 32 + c) ≡ c
count_is n c l = omega (arith, l)

pub and_false : (b : Bool) → b && false ≡ false
and_false true = refl
and_false false = refl

pub later_name : (n j : ℕ) → (n * 2 ^ 32 + (j + 1) == n * 2 ^ 32 + (j + 1 + 1)) ≡ false
later_name n j = eq_cases (λ b. b ≡ false) (n * 2 ^ 32 + (j + 1)) (n * 2 ^ 32 + (j + 1 + 1)) (λ e. absurd (omega (arith, e))) (λ _. refl)

pub from_one : (n j : ℕ) → (n * 2 ^ 32 + (j + 1) == 0) ≡ false
from_one n j = eq_cases (λ b. b ≡ false) (n * 2 ^ 32 + (j + 1)) 0 (λ e. absurd (omega (arith, e))) (λ _. refl)

module _ (k : Cluster) (sound : IsSound k) (e : Event) (i : Instr) (single : is_par_end (Some i) ≡ false) (s : Server) (t : ℕ) (x : ThreadState) (at : AtStep k e i s t x) (j : ℕ) (above : s.rest.started < j + 1) (few : j + 1 < 2 ^ 32) where
  abbrev n : ℕ
  n = s.rest.number

  abbrev v : ℕ
  v = n * 2 ^ 32 + (j + 1)

  abbrev G1 : List Thing
  G1 = G k sound e i single s t x at

  abbrev Others : List Thing
  Others = R k sound e i single s t x at

  abbrev counts_here : Thing
  counts_here = counts_of n s.events s.rest

  abbrev L : List Thing
  L = all_of n x G1 Others

  started_none : tot (started_at n (j + 1)) (things_of k) ≡ 0
  started_none =
      let flat : Own (λ a. started_at n (j + 1) a ≡ 0) = record { slots = λ a b c. refl; temps = λ a b c. refl; shared = λ l r. refl; lent = λ l r. refl; marks = λ l r. refl; used = λ a w. refl } in
      let unseen : Own (λ a. is_server n a ≡ 0) = record { slots = λ a b c. refl; temps = λ a b c. refl; shared = λ l r. refl; lent = λ l r. refl; marks = λ l r. refl; used = λ a w. refl } in
      let once : tot (is_server n) (things_of k) ≤ 1 = (sound_has_sums k sound).servers_differ n in
      let over : started_at n (j + 1) counts_here ≡ 0 = too_many (n == n) (j + 1) s.rest.started above in
      omega (
        arith,
        once,
        changed.same_things k sound e s at.here t x at.at at.number (is_server n),
        changed.same_things k sound e s at.here t x at.at at.number (started_at n (j + 1)),
        tot_of n x G1 Others (is_server n) unseen,
        tot_of n x G1 Others (started_at n (j + 1)) flat,
        gift_uncounted (is_server n) x.number counts_here (λ a. refl) x.gift,
        gift_uncounted (started_at n (j + 1)) x.number counts_here (λ a. refl) x.gift,
        itself_counts n,
        over,
        at_most (started_at n (j + 1)) (is_server n) (starts_there n (j + 1)) Others,
      )

  pub new_home : home_of v ≡ n
  new_home = home_is n (j + 1) few

  pub new_count : count_of v ≡ j + 1
  new_count = count_is n (j + 1) few

  pub unknown : is_given_thread (with_things k L) v ≡ false
  unknown =
      let none : tot (started_at (home_of v) (count_of v)) L ≡ 0 = sym (changed.same_things k sound e s at.here t x at.at at.number (started_at (home_of v) (count_of v))) ∙ subst (λ h. tot (started_at h (count_of v)) (things_of k) ≡ 0) (sym new_home) (subst (λ c. tot (started_at n c) (things_of k) ≡ 0) (sym new_count) started_none) in
      ap₂ (λ a b. a || (not (count_of v == 0) && some b)) (from_one n j) none ∙ and_false (not (count_of v == 0))

  pub no_thread : tot (is_thread v) (things_of k) ≡ 0
  no_thread = (new_names k e.server s at.here (sound_has_sums k sound) sound.names.names_counted).threads (j + 1) above few

  pub lone_all : tot (of_thread v) L ≡ 0
  lone_all =
      let none : tot (is_thread v) L ≡ 0 = sym (changed.same_things k sound e s at.here t x at.at at.number (is_thread v)) ∙ no_thread in
      omega (arith, none, of_both v L, told_by v L, changed.places k sound e s at.here t x at.at at.number (λ w. one (w == v)))

  pub not_it : x.number ≢ v
  not_it f = absurd (cc (sym unknown ∙ ap (is_given_thread (with_things k L)) (sym f) ∙ changed.given k sound e s at.here t x at.at at.number))
