-- New threads and the notes of them weigh the same; a thread that ends weighs what its `finished` does.
use Rattle.std.proofs.Common.{◌≡◌, ℕ, ◌+◌, ◌==◌, ◌&&◌, not, Bool, true, false, List, [], ◌∷◌, ◌++◌, None, refl, sym, ap, ap₂, ◌∙◌, arith}
use Rattle.coherent_memory.proofs.Below.fr_typing.PlaceLemmas.{eq_cases}
use Rattle.coherent_memory.specs.Below.fr_base.declared.instruction.Instr.{Instr}
use Rattle.coherent_memory.specs.Below.heap_partition.declared.value.Owned.{Owned}
use Rattle.coherent_memory.specs.Below.join_home.Tasks.{going, in_pair}
use Rattle.coherent_memory.specs.Below.thread_state.View.{ThreadState, is_over}
use Rattle.coherent_memory.specs.Below.thread_state.declared.phase.Phase.TheVariants as phase
use Rattle.coherent_memory.specs.Below.server_msgs.declared.message.Message.TheVariants as message
use Rattle.coherent_memory.specs.Below.server_model.Events.{can_step}
use Rattle.coherent_memory.specs.Names.{tot, one, if_so, other}
use Rattle.coherent_memory.specs.Things.{Thing, stands, noted, message_things, task_things, thread_things}
use Rattle.coherent_memory.specs.Requests.{Branch, waits, halves_to, halves_needed, pair_notes, pair_places, branch_places, home_of}
use Rattle.coherent_memory.specs.Sharing.{got_phase, going_notes, goes_on, noted_away, has_ended}
use Rattle.law_counts_sums.proofs.Trades.{tot-append}
use Rattle.law_counts_sums.proofs.Unseen.{thread_alone}
use Rattle.law_counts_sums.proofs.Held.{result_of, owed_of, bare_held}
use Rattle.law_counts_sums.proofs.Fair.{Fair, zeros, pays, Hears, owed_heard, results_heard, ended_heard, not_ended, halves_heard, needed_heard, notes_heard, places_heard, going_heard, goes_heard, homes_heard, if_none, needs_none, calm_waits, calm_over, calm_places}

not_zero : (u : ℕ) → (u ≡ 0 → ⊥) → (u == 0) ≡ false
not_zero u ne = eq_cases (λ b. b ≡ false) u 0 (λ e. absurd (ne e)) (λ n. refl)

living : (b z o : Bool) → z ≡ false → o ≡ false → one (b && (not z && not o)) ≡ one b
living true true o e h = absurd (cc e)
living true false true e h = absurd (cc h)
living true false false e h = refl
living false z o e h = refl

pub noting : (b : Bool) → one (b && true) ≡ one b
noting true = refl
noting false = refl

none_half : (b : Bool) → one (b && false) ≡ 0
none_half true = refl
none_half false = refl

-- A NEW THREAD, UNDER WAY

module _ (s : ℕ) (x : ThreadState) (ready : x.phase ≡ phase.Ready) where
  alone : (f : Thing → ℕ) → Hears f → tot f (thread_things s true x) ≡ f (stands s true x)
  alone f h = thread_alone f s (h.unseen s) s true x

  start_answers : (t : ℕ) → (tot (halves_to t) (message_things s (message.Start x)) ≡ 0) × (tot (halves_needed t) (message_things s (message.Start x)) ≡ 0)
  start_answers t = (
    omega (arith, alone (halves_to t) (halves_heard t)),
    omega (arith, alone (halves_needed t) (needed_heard t), needs_none (x.number == t) (waits x.phase) (ap waits ready)),
  )

  start_pairs : (b : Branch) → (tot (pair_notes b) (message_things s (message.Start x)) ≡ 0) × (tot (pair_places b) (message_things s (message.Start x)) ≡ 0)
  start_pairs b = (
    omega (arith, alone (pair_notes b) (notes_heard b)),
    omega (arith, alone (pair_places b) (places_heard b), if_none (s == b.server && x.number == b.parent) (branch_places b.thread x.phase) (ap (branch_places b.thread) ready)),
  )

  start_going : (x.number ≡ 0 → ⊥) → (t : ℕ) → (tot (going_notes t) (message_things s (message.Start x)) ≡ 0) × (tot (goes_on t) (message_things s (message.Start x)) ≡ one (x.number == t))
  start_going ne t = (
    omega (arith, alone (going_notes t) (going_heard t)),
    omega (arith, alone (goes_on t) (goes_heard t), living (x.number == t) (x.number == 0) (is_over x.phase) (not_zero x.number ne) (ap is_over ready)),
  )

  start_ends : x.gift ≡ None → (code : List Instr) (t : ℕ) → (tot (result_of code t) (message_things s (message.Start x)) ≡ 0) × (tot (has_ended t) (message_things s (message.Start x)) ≡ 0)
  start_ends bare code t = (
    omega (arith, alone (result_of code t) (results_heard code t), ap (got_phase t) ready, bare_held code t x bare),
    omega (arith, alone (has_ended t) (ended_heard t), not_ended (x.number == t) (x.number == 0) (is_over x.phase) (ap is_over ready)),
  )

  start_owes : x.gift ≡ None → (code : List Instr) (t : ℕ) → tot (owed_of code t) (message_things s (message.Start x)) ≡ 0
  start_owes bare code t = omega (arith, alone (owed_of code t) (owed_heard code t), bare_held code t x bare)

  start_homes : tot noted_away (message_things s (message.Start x)) ≡ 0
  start_homes = omega (arith, alone noted_away homes_heard)

at_home : (u n : ℕ) → home_of u ≡ n → other (home_of u == n) ≡ 0
at_home u n e = eq_cases (λ b. other b ≡ 0) (home_of u) n (λ q. refl) (λ ne. absurd (ne e))

-- one thread starts, and is noted as going
pub fair_starts : {code : List Instr} (n s : ℕ) (x : ThreadState) → x.phase ≡ phase.Ready → x.gift ≡ None → (x.number ≡ 0 → ⊥) → home_of x.number ≡ n → Fair (record { code = code; made = λ t. one (x.number == t); spent = zeros }) [] (task_things n 0 (record { thread = x.number; state = going }) ++ message_things s (message.Start x))
fair_starts {code} n s x ready bare ne home = record {
  answers = λ t. let a = start_answers s x ready t in omega (arith, a.0, a.1);
  pairs = λ b. let a = start_pairs s x ready b in omega (arith, a.0, a.1, none_half (n == b.server && x.number == b.thread));
  going = λ t. let a = start_going s x ready ne t in omega (arith, a.0, a.1, noting (x.number == t));
  homes = omega (arith, start_homes s x ready, at_home x.number n home);
  ends = λ t. let a = start_ends s x ready bare code t in omega (arith, a.0, a.1, if_none (x.number == t) 0 refl);
  owes = λ t. omega (arith, start_owes s x ready bare code t, noting (x.number == t));
}

-- PAIRS

-- two halves of a pair and the places of them
pub halves_match : (s a b p : Bool) → one ((s && a) && p) + one ((s && b) && p) ≡ if_so (s && p) (one a + one b)
halves_match false a b p = refl
halves_match true true true true = refl
halves_match true true true false = refl
halves_match true true false true = refl
halves_match true true false false = refl
halves_match true false true true = refl
halves_match true false true false = refl
halves_match true false false true = refl
halves_match true false false false = refl

pub waits_for_two : (b : Bool) → if_so (b && true) 2 ≡ one b + one b
waits_for_two true = refl
waits_for_two false = refl

-- two threads start, and their parent waits for both
pub fair_pair : {code : List Instr} (n s r : ℕ) (y y2 u v : ThreadState) → y2.number ≡ y.number → y2.gift ≡ None → u.gift ≡ None → v.gift ≡ None → can_step y.phase ≡ true → y2.phase ≡ phase.WaitPar u.number v.number
    → u.phase ≡ phase.Ready → v.phase ≡ phase.Ready → (u.number ≡ 0 → ⊥) → (v.number ≡ 0 → ⊥) → home_of u.number ≡ n → home_of v.number ≡ n
    → Fair (pays code y zeros) (stands n false y ∷ []) (stands n false y2 ∷ (task_things n 0 (record { thread = u.number; state = in_pair y2.number false }) ++ task_things n 0 (record { thread = v.number; state = in_pair y2.number false }) ++ message_things s (message.Start u) ++ message_things r (message.Start v)))
fair_pair {code} n s r y y2 u v same bare new new2 c waiting ready ready2 ne ne2 home home2 = record {
  answers = λ t.
      let a = start_answers s u ready t in
      let b = start_answers r v ready2 t in
      let w : if_so (y2.number == t && waits y2.phase) 2 ≡ if_so (y2.number == t && true) 2 = ap (λ p. if_so (y2.number == t && waits p) 2) waiting in
      omega (arith, a.0, a.1, b.0, b.1, w, waits_for_two (y2.number == t), needs_none (y.number == t) (waits y.phase) (calm_waits y.phase c), whole (halves_to t), whole (halves_needed t));
  pairs = λ x.
      let a = start_pairs s u ready x in
      let b = start_pairs r v ready2 x in
      let w : branch_places x.thread y2.phase ≡ one (u.number == x.thread) + one (v.number == x.thread) = ap (branch_places x.thread) waiting in
      let q : if_so (n == x.server && y2.number == x.parent) (branch_places x.thread y2.phase) ≡ if_so (n == x.server && y2.number == x.parent) (one (u.number == x.thread) + one (v.number == x.thread)) = ap (if_so (n == x.server && y2.number == x.parent)) w in
      omega (
        arith,
        a.0,
        a.1,
        b.0,
        b.1,
        q,
        halves_match (n == x.server) (u.number == x.thread) (v.number == x.thread) (y2.number == x.parent),
        if_none (n == x.server && y.number == x.parent) (branch_places x.thread y.phase) (calm_places x.thread y.phase c),
        whole (pair_notes x),
        whole (pair_places x),
      );
  going = λ t.
      let a = start_going s u ready ne t in
      let b = start_going r v ready2 ne2 t in
      let w = ap₂ (λ i j. one (i == t && (not (i == 0) && not j))) same (ap is_over waiting ∙ sym (calm_over y.phase c)) in
      omega (arith, a.0, a.1, b.0, b.1, w, noting (u.number == t), noting (v.number == t), whole (going_notes t), whole (goes_on t));
  homes = omega (arith, start_homes s u ready, start_homes r v ready2, at_home u.number n home, at_home v.number n home2, whole noted_away);
  ends = λ t.
      let a = start_ends s u ready new code t in
      let b = start_ends r v ready2 new2 code t in
      omega (
        arith,
        a.0,
        a.1,
        b.0,
        b.1,
        if_none (u.number == t) 0 refl,
        if_none (v.number == t) 0 refl,
        ap (got_phase t) waiting,
        bare_held code t y2 bare,
        not_ended (y.number == t) (y.number == 0) (is_over y.phase) (calm_over y.phase c),
        whole (result_of code t),
        whole (has_ended t),
      );
  owes = λ t. omega (arith, start_owes s u ready new code t, start_owes r v ready2 new2 code t, none_half (u.number == t), none_half (v.number == t), bare_held code t y2 bare, whole (owed_of code t));
}
  where
    whole : (f : Thing → ℕ)
        → tot f (task_things n 0 (record { thread = u.number; state = in_pair y2.number false }) ++ task_things n 0 (record { thread = v.number; state = in_pair y2.number false }) ++ message_things s (message.Start u) ++ message_things r (message.Start v))
        ≡ f (noted n (record { thread = u.number; state = in_pair y2.number false })) + f (noted n (record { thread = v.number; state = in_pair y2.number false })) + tot f (message_things s (message.Start u)) + tot f (message_things r (message.Start v))
    whole f = omega (arith, tot-append f (message_things s (message.Start u)) (message_things r (message.Start v)))

-- ENDS

over_none : (b z o : Bool) → o ≡ true → one (b && (not z && not o)) ≡ 0
over_none true true o e = refl
over_none true false true e = refl
over_none true false false e = absurd (cc e)
over_none false z o e = refl

ended_one : (b z o : Bool) → z ≡ false → o ≡ true → one (b && (not z && o)) ≡ one b
ended_one true true o e h = absurd (cc e)
ended_one true false true e h = refl
ended_one true false false e h = absurd (cc h)
ended_one false z o e h = refl

main_none : (b z o : Bool) → z ≡ true → one (b && (not z && not o)) ≡ 0
main_none true true o e = refl
main_none true false o e = absurd (cc e)
main_none false z o e = refl

-- main is over, and says nothing
pub fair_main_ends : {code : List Instr} (n : ℕ) (y y2 : ThreadState) → y2.number ≡ y.number → y2.gift ≡ None → can_step y.phase ≡ true → y2.phase ≡ phase.Over → (y.number == 0) ≡ true → Fair (pays code y zeros) (stands n false y ∷ []) (stands n false y2 ∷ [])
fair_main_ends {code} n y y2 same bare c over main = record {
  answers = λ t. omega (arith, needs_none (y.number == t) (waits y.phase) (calm_waits y.phase c), needs_none (y2.number == t) (waits y2.phase) (ap waits over));
  pairs = λ x. omega (
    arith,
    if_none (n == x.server && y.number == x.parent) (branch_places x.thread y.phase) (calm_places x.thread y.phase c),
    if_none (n == x.server && y2.number == x.parent) (branch_places x.thread y2.phase) (ap (branch_places x.thread) over),
  );
  going = λ t. omega (arith, main_none (y.number == t) (y.number == 0) (is_over y.phase) main, over_none (y2.number == t) (y2.number == 0) (is_over y2.phase) (ap is_over over));
  homes = omega arith;
  ends = λ t. omega (arith, ap (got_phase t) over, bare_held code t y2 bare, not_ended (y.number == t) (y.number == 0) (is_over y.phase) (calm_over y.phase c));
  owes = λ t. omega (arith, bare_held code t y2 bare);
}

-- another thread is over, and its result goes home
pub fair_ends : {code : List Instr} (n s : ℕ) (y y2 : ThreadState) (v : Owned) → y2.number ≡ y.number → y2.gift ≡ None → can_step y.phase ≡ true → y2.phase ≡ phase.Over → (y.number == 0) ≡ false
    → Fair (pays code y zeros) (stands n false y ∷ []) (stands n false y2 ∷ message_things s (message.Finished y2.number v))
fair_ends {code} n s y y2 v same bare c over other = record {
  answers = λ t. omega (arith, needs_none (y.number == t) (waits y.phase) (calm_waits y.phase c), needs_none (y2.number == t) (waits y2.phase) (ap waits over));
  pairs = λ x. omega (
    arith,
    if_none (n == x.server && y.number == x.parent) (branch_places x.thread y.phase) (calm_places x.thread y.phase c),
    if_none (n == x.server && y2.number == x.parent) (branch_places x.thread y2.phase) (ap (branch_places x.thread) over),
  );
  going = λ t.
      let number : one (y2.number == t) ≡ one (y.number == t) = ap (λ i. one (i == t)) same in
      omega (arith, number, living (y.number == t) (y.number == 0) (is_over y.phase) other (calm_over y.phase c), over_none (y2.number == t) (y2.number == 0) (is_over y2.phase) (ap is_over over));
  homes = omega arith;
  ends = λ t. omega (
    arith,
    ap (got_phase t) over,
    bare_held code t y2 bare,
    not_ended (y.number == t) (y.number == 0) (is_over y.phase) (calm_over y.phase c),
    ended_one (y2.number == t) (y2.number == 0) (is_over y2.phase) (ap (λ i. i == 0) same ∙ other) (ap is_over over),
  );
  owes = λ t. omega (arith, bare_held code t y2 bare);
}
