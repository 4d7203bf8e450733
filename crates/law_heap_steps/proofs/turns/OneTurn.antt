-- What one thread's turn leaves of the one heap: where it goes on with other slots and temporary values that own the same, all else is as it was.
use Rattle.std.proofs.Common.{◌≡◌, ◌≢◌, ℕ, zero, suc, ◌+◌, ◌==◌, ◌||◌, not, Bool, true, false, if◌then◌else◌, List, [], ◌∷◌, ◌++◌, length, Option, Some, None, is_some, refl, sym, ap, ap₂, ◌∙◌, subst, arith}
use Rattle.std.specs.Prelude.{◌%◌, ◌^◌, ◌&&◌}
use Rattle.law_words_kept.proofs.Below.fr_typing.PlaceLemmas.{eq_cases}
use Rattle.law_words_kept.specs.Below.fr_base.declared.name.MutexNo.{MutexNo}
use Rattle.law_words_kept.specs.Below.fr_base.declared.name.ObjNo.{ObjNo}
use Rattle.law_words_kept.specs.Below.fr_base.declared.label.Plain.TheVariants as plain
use Rattle.law_words_kept.specs.Below.fr_base.declared.instruction.Instr.{Instr}
use Rattle.law_words_kept.specs.Below.fr_base.declared.instruction.Instr.TheVariants as instr
use Rattle.law_words_kept.specs.Below.fr_plain.MachineThreads.{Life, alive, owing, loose}
use Rattle.law_words_kept.specs.Below.fr_code.Machine.{CodeState, CodeRunning}
use Rattle.law_words_kept.specs.Below.heap_partition.Plain.{plain_of}
use Rattle.law_words_kept.specs.Below.thread_state.View.{ThreadState, is_over}
use Rattle.law_words_kept.specs.Below.thread_state.declared.phase.Phase.{Phase}
use Rattle.law_words_kept.specs.Below.thread_state.declared.phase.Phase.TheVariants as phase
use Rattle.law_words_kept.specs.Below.thread_state.declared.value.Value.{Value}
use Rattle.law_words_kept.specs.Below.thread_state.declared.value.Value.TheVariants as value
use Rattle.law_words_kept.specs.Below.heap_partition.declared.value.Owned.TheVariants as owned
use Rattle.law_words_kept.specs.Below.server_model.Servers.{Cluster}
use Rattle.law_words_kept.specs.Below.coherent_memory.Names.{tot, one, some, if_so}
use Rattle.law_words_kept.specs.Below.coherent_memory.Things.{in_slot, in_temp, as_gift, as_content, as_result, in_hand, Thing, holds, stands, thread_things}
use Rattle.law_words_kept.specs.Below.coherent_memory.Follow.{Standing, threads_in, thread_at, cells_in, cell_of, value_of, slot_of, value_behind, leads, locate}
use Rattle.law_words_kept.specs.Below.coherent_memory.Sight.{Sight, with_things}
use Rattle.law_words_kept.specs.Below.coherent_memory.Walking.{instr_of}
use Rattle.law_words_kept.specs.Below.coherent_memory.Requests.{home_of, mutex_of, locked_mutex, is_mutex}
use Rattle.law_words_kept.specs.Below.coherent_memory.Sharing.{got_phase, has_ended}
use Rattle.law_words_kept.specs.Below.coherent_memory.Naming.{started_at, made_at}
use Rattle.law_words_kept.specs.Below.coherent_memory.Weights.{is_thread}
use Rattle.law_words_kept.specs.Below.coherent_memory.OneHeap.{Node, object_n, mutex_n, task_n, a_thread, owns, content_owner, gift_owner, gift_owner_of, owner_of, names, owner_in, named_in, any_named, in_state_by, is_in_state, if_in, cell_value, or_else, first_shown, object_value, is_gift_of, content_value, share_in, if_there, in_pair_of, is_branch, branch_result, is_joined_by, result_value, result_of, ended_with, going_on, running_at, life_of, life_at, made_of, two_in, pair_of, was_let_go, is_given_thread, is_given_mutex, if_given, state_of}
use Rattle.law_words_kept.proofs.Below.law_counts_sums.Bags.{had_by}
use Rattle.law_words_kept.proofs.Below.law_counts_sums.Trades.{tot-append}
use Rattle.law_heap_still.proofs.events.Counting.{shown_result}
use Rattle.law_heap_still.proofs.events.Alike.{Once}
use Rattle.law_heap_still.proofs.events.Rounds.{owner_same, named_alike, enough}
use Rattle.law_heap_still.proofs.events.Told.{told, ones}
use Rattle.law_words_kept.proofs.Below.law_words_paths.paths.Contained.{among_thread}
use Rattle.law_heap_steps.proofs.turns.Parts.{shown_both, any_both, threads_both, cells_both, thread_both, Own, own_all, none_shown, same_counted, none_counted, no_threads, no_cells, any_told, owned_in, own_named}

-- THE WAY A THREAD GOES ON

-- main, a thread whose result somebody will have, and one that was let go
pub data Going : Type 0 where
  as_main : Going
  as_owing : Going
  as_loose : Going

abbrev pub life_as : {P : Type 0} → Going → P → Life P
life_as as_main p = alive p
life_as as_owing p = owing p
life_as as_loose p = loose p

abbrev pub going_of : Sight → ℕ → Going
going_of s zero = as_main
going_of s (suc t) = if was_let_go s (suc t) then as_loose else as_owing

pub going_is : (s : Sight) (t : ℕ) (p : CodeRunning) → going_on s t p ≡ life_as (going_of s t) p
going_is s zero p = refl
going_is s (suc t) p = by (was_let_go s (suc t))
  where
    by : (q : Bool) → (if q then loose p else owing p) ≡ life_as (if q then as_loose else as_owing) p
    by true = refl
    by false = refl

-- NOTHING ELSE IS OF THE THREAD

-- threads of that number, and gifts of it
abbrev pub of_thread : ℕ → Thing → ℕ
of_thread t (stands s p x) = one (x.number == t)
of_thread t (holds (as_gift u) v) = one (u == t)
of_thread t x = 0

-- no thread of it is found
pub none_at : (t : ℕ) (xs : List Thing) → tot (of_thread t) xs ≡ 0 → thread_at (threads_in xs) t ≡ None
none_at t [] z = refl
none_at t (stands s p x ∷ xs) z =
    eq_cases (λ b. one b + tot (of_thread t) xs ≡ 0 → (if b then Some (record { server = s; packed = p; thread = x }) else thread_at (threads_in xs) t) ≡ None) x.number t (λ _ l. absurd (omega (arith, l))) (λ _ l. none_at t xs (omega (arith, l))) z
none_at t (_ ∷ xs) z = none_at t xs (omega (arith, z))

differs : (t u : ℕ) → one (u == t) ≡ 0 → t ≢ u
differs t u = eq_cases (λ b. one b ≡ 0 → t ≢ u) u t (λ e z. absurd (cc z)) (λ ne z e. ne (sym e))

-- a thread that waits for no pair and isn't over
pub record Calm (p : Phase) : Type 0 where
  pub alone : two_in p ≡ None
  pub goes : is_over p ≡ false

none_got : (t : ℕ) (p : Phase) → two_in p ≡ None → got_phase t p ≡ 0
none_got t (phase.GotPar a b) e = absurd (cc e)
none_got t _ e = refl

and_none : (q : Bool) → q && false ≡ false
and_none true = refl
and_none false = refl

named_thread : (q : Bool) (go : Node → Bool) → named_in q go a_thread ≡ q
named_thread true go = refl
named_thread false go = refl

so_one : (q : Bool) → if_so q 1 ≡ one q
so_one true = refl
so_one false = refl

-- A THREAD AMONG OTHER THINGS

module _ (A B : List Thing) (n : ℕ) (z : ThreadState) (bare : z.gift ≡ None) where
  abbrev pub with_it : List Thing
  with_it = A ++ (thread_things n false z ++ B)

  abbrev pub me : Standing
  me = record { server = n; packed = false; thread = z }

  -- what only the thread itself may show of its things
  first_it : {X : Type 0} (f : Thing → Option X) → Own (λ x. f x ≡ None) → f (stands n false z) ≡ None → first_shown f with_it ≡ or_else (first_shown f A) (first_shown f B)
  first_it f own e =
      let rest : first_shown f (had_by n z) ≡ None = none_shown f (had_by n z) (own_all (λ x. f x ≡ None) own n z bare) in
      let mine : first_shown f (thread_things n false z) ≡ None = ap (λ o. or_else o (first_shown f (had_by n z))) e ∙ rest in
      shown_both f A (thread_things n false z ++ B) ∙ ap (or_else (first_shown f A)) (shown_both f (thread_things n false z) B ∙ ap (λ o. or_else o (first_shown f B)) mine)

  pub tot_it : (f : Thing → ℕ) → Own (λ x. f x ≡ 0) → tot f with_it ≡ tot f A + (f (stands n false z) + tot f B)
  tot_it f own =
      let rest : tot f (had_by n z) ≡ 0 = none_counted f (had_by n z) (own_all (λ x. f x ≡ 0) own n z bare) in
      omega (arith, rest, tot-append f A (thread_things n false z ++ B), tot-append f (thread_things n false z) B)

  threads_it : threads_in with_it ≡ threads_in A ++ (me ∷ threads_in B)
  threads_it =
      threads_both A (thread_things n false z ++ B)
      ∙ ap (λ l. threads_in A ++ (me ∷ l)) (no_threads (had_by n z) B (own_all (λ x. (l : List Thing) → threads_in (x ∷ l) ≡ threads_in l) (record { slots = λ t i v l. refl; temps = λ t i v l. refl; shared = λ p r l. refl; lent = λ p r l. refl; marks = λ p m l. refl; used = λ s w l. refl }) n z bare))

  cells_it : cells_in with_it ≡ cells_in A ++ cells_in B
  cells_it =
      cells_both A (thread_things n false z ++ B)
      ∙ ap (λ l. cells_in A ++ l) (no_cells (had_by n z) B (own_all (λ x. (l : List Thing) → cells_in (x ∷ l) ≡ cells_in l) (record { slots = λ t i v l. refl; temps = λ t i v l. refl; shared = λ p r l. refl; lent = λ p r l. refl; marks = λ p m l. refl; used = λ s w l. refl }) n z bare))

  seen : (u : ℕ) → thread_at (threads_in with_it) u ≡ or_else (thread_at (threads_in A) u) (if z.number == u then Some me else thread_at (threads_in B) u)
  seen u = ap (λ l. thread_at l u) threads_it ∙ thread_both (threads_in A) (me ∷ threads_in B) u

  itself : tot (of_thread z.number) A ≡ 0 → thread_at (threads_in with_it) z.number ≡ Some me
  itself lone =
      seen z.number ∙ ap (λ o. or_else o (if z.number == z.number then Some me else thread_at (threads_in B) z.number)) (none_at z.number A lone)
      ∙ eq_cases (λ b. (if b then Some me else thread_at (threads_in B) z.number) ≡ Some me) z.number z.number (λ _. refl) (λ ne. absurd (ne refl))

  besides : (u : ℕ) → z.number ≢ u → thread_at (threads_in with_it) u ≡ or_else (thread_at (threads_in A) u) (thread_at (threads_in B) u)
  besides u ne = seen u ∙ ap (or_else (thread_at (threads_in A) u)) (eq_cases (λ b. (if b then Some me else thread_at (threads_in B) u) ≡ thread_at (threads_in B) u) z.number u (λ e. absurd (ne e)) (λ _. refl))

  any_it : (s : Sight) (go : Node → Bool) (q : Node) → any_named s go q with_it ≡ any_named s go q A || (some (owned_in q z.slots + owned_in q z.temps) || any_named s go q B)
  any_it s go q =
      let own : Own (λ x. named_in (names q x) go (owner_of s x) ≡ names q x) = record {
        slots = λ t i v. named_thread (owns q v) go;
        temps = λ t i v. named_thread (owns q v) go;
        shared = λ p r. refl;
        lent = λ p r. refl;
        marks = λ p m. refl;
        used = λ a w. refl;
      } in
      let mine : any_named s go q (had_by n z) ≡ some (owned_in q z.slots + owned_in q z.temps) =
      any_told s go q (had_by n z) (own_all (λ x. named_in (names q x) go (owner_of s x) ≡ names q x) own n z bare) ∙ ap some (own_named q n z bare) in
      any_both s go q A (thread_things n false z ++ B) ∙ ap (λ b. any_named s go q A || b) (any_both s go q (thread_things n false z) B ∙ ap (λ b. b || any_named s go q B) mine)

  shares_it : (s : Sight) (m : MutexNo) → tot (share_in s m) with_it ≡ tot (share_in s m) A + (owned_in (mutex_n m) z.slots + owned_in (mutex_n m) z.temps + tot (share_in s m) B)
  shares_it s m =
      let q = mutex_n m in
      let own : Own (λ x. share_in s m x ≡ one (names q x)) = record {
        slots = λ t i v. so_one (owns q v);
        temps = λ t i v. so_one (owns q v);
        shared = λ p r. refl;
        lent = λ p r. refl;
        marks = λ p r. refl;
        used = λ a w. refl;
      } in
      let mine : tot (share_in s m) (had_by n z) ≡ tot (λ x. one (names q x)) (had_by n z) = same_counted (share_in s m) (λ x. one (names q x)) (had_by n z) (own_all (λ x. share_in s m x ≡ one (names q x)) own n z bare) in
      omega (arith, mine, own_named q n z bare, tot-append (share_in s m) A (thread_things n false z ++ B), tot-append (share_in s m) (thread_things n false z) B)

-- THE TURN

-- the thread at that instruction, with these slots and temporary values, and no step begun
abbrev pub after : ThreadState → ℕ → List Value → List Value → ThreadState
after x pc slots temps = record x { pc = pc; slots = slots; temps = temps; phase = phase.Ready; passed = 0; walk = []; moved_since_step = false }

-- what a turn leaves of the plain state: one thread goes on from its place, and all else is as it was
pub record TurnOf (t : ℕ) (p q : CodeRunning) (a b : CodeState) : Type 0 where
  pub way : Going
  pub before : a.thread t ≡ Some (life_as way p)
  pub afterwards : b.thread t ≡ Some (life_as way q)
  pub others : (u : ℕ) → t ≢ u → a.thread u ≡ b.thread u
  pub made : (u : ℕ) → a.made u ≡ b.made u
  pub pairs : (u : ℕ) → a.pair u ≡ b.pair u
  pub objects : (o : ObjNo) → a.object o ≡ b.object o
  pub mutexes : (m : MutexNo) → a.mutex m ≡ b.mutex m
  pub given : (m : MutexNo) → a.is_given m ≡ b.is_given m

first_alike : {X : Type 0} (t : ℕ) (f g : Thing → Option X) → ((x : Thing) → of_thread t x ≡ 0 → f x ≡ g x) → (xs : List Thing) → tot (of_thread t) xs ≡ 0 → first_shown f xs ≡ first_shown g xs
first_alike t f g e [] z = refl
first_alike t f g e (x ∷ xs) z = ap₂ or_else (e x (omega (arith, z))) (first_alike t f g e xs (omega (arith, z)))

tot_alike : (t : ℕ) (f g : Thing → ℕ) → ((x : Thing) → of_thread t x ≡ 0 → f x ≡ g x) → (xs : List Thing) → tot (of_thread t) xs ≡ 0 → tot f xs ≡ tot g xs
tot_alike t f g e [] z = refl
tot_alike t f g e (x ∷ xs) z = ap₂ (λ a b. a + b) (e x (omega (arith, z))) (tot_alike t f g e xs (omega (arith, z)))

both_ways : (p q : Bool) → (p ≡ true → q ≡ true) → (q ≡ true → p ≡ true) → p ≡ q
both_ways true q f g = sym (f refl)
both_ways false true f g = g refl
both_ways false false f g = refl

module _ (k : Cluster) (A B : List Thing) (n : ℕ) (x : ThreadState) (pc : ℕ) (slots temps : List Value) (bare : x.gift ≡ None) (calm : Calm x.phase)
    (loneA : tot (of_thread x.number) A ≡ 0) (loneB : tot (of_thread x.number) B ≡ 0)
    (even : (q : Node) → owned_in q x.slots + owned_in q x.temps ≡ owned_in q slots + owned_in q temps) where
  abbrev t : ℕ
  t = x.number

  abbrev y : ThreadState
  y = after x pc slots temps

  abbrev a : List Thing
  a = with_it A B n x bare

  abbrev b : List Thing
  b = with_it A B n y bare

  abbrev s : Sight
  s = with_things k a

  abbrev s2 : Sight
  s2 = with_things k b

  -- OTHER THREADS, AND WHERE THEIR PLACES LEAD

  other_seen : (u : ℕ) → t ≢ u → thread_at (threads_in a) u ≡ thread_at (threads_in b) u
  other_seen u ne = besides A B n x bare u ne ∙ sym (besides A B n y bare u ne)

  cells_same : cells_in a ≡ cells_in b
  cells_same = cells_it A B n x bare ∙ sym (cells_it A B n y bare)

  module _ (u : ℕ) (ne : t ≢ u) where
    slot_same : (i : ℕ) → slot_of (thread_at (threads_in a) u) i ≡ slot_of (thread_at (threads_in b) u) i
    slot_same i = ap (λ o. slot_of o i) (other_seen u ne)

    cell_same : (o : ObjNo) → value_of (cell_of (cells_in a) o) ≡ value_of (cell_of (cells_in b) o)
    cell_same o = ap (λ cs. value_of (cell_of cs o)) cells_same

    lead_same : (v : Option Value) → value_behind s.ground (leads u v) ≡ value_behind s2.ground (leads u v)
    lead_same None = refl
    lead_same (Some value.Gone) = refl
    lead_same (Some (value.Own (owned.Box p))) = cell_same p.object
    lead_same (Some (value.Own owned.Nothing)) = refl
    lead_same (Some (value.Own owned.Unit)) = refl
    lead_same (Some (value.Own (owned.Int i))) = refl
    lead_same (Some (value.Own (owned.Mutex m))) = refl
    lead_same (Some (value.Own (owned.Task w))) = refl
    lead_same (Some (value.SharedSlot i)) = slot_same i
    lead_same (Some (value.MutSlot i)) = slot_same i
    lead_same (Some (value.Shared r)) = cell_same r.object
    lead_same (Some (value.Mut r)) = cell_same r.object
    lead_same (Some (value.Held m)) = refl

    behind_same : (slot d : ℕ) → value_behind s.ground (locate s.ground u slot d) ≡ value_behind s2.ground (locate s2.ground u slot d)
    behind_same slot zero = slot_same slot
    behind_same slot (suc d) = ap (λ w. value_behind s.ground (leads u w)) (behind_same slot d) ∙ lead_same (value_behind s2.ground (locate s2.ground u slot d))

  locked_same : (z : Standing) → t ≢ z.thread.number → (i : Option Instr) → locked_mutex s z i ≡ locked_mutex s2 z i
  locked_same z ne (Some (instr.Lock w)) = ap mutex_of (behind_same z.thread.number ne w.slot w.depth)
  locked_same z ne _ = refl

  gift_owned : (z : Standing) → t ≢ z.thread.number → (i : Option Instr) → gift_owner s z i ≡ gift_owner s2 z i
  gift_owned z ne (Some (instr.Lock w)) = ap content_owner (locked_same z ne (Some (instr.Lock w)))
  gift_owned z ne _ = refl

  -- what is the same of a thread that is found
  by_seen : {X : Type 0} (f g : Option Standing → X) → f None ≡ g None → ((z : Standing) → t ≢ z.thread.number → f (Some z) ≡ g (Some z)) → (u : ℕ) → t ≢ u → f (thread_at (threads_in a) u) ≡ g (thread_at (threads_in b) u)
  by_seen f g e h u ne = by (thread_at (threads_in a) u) refl ∙ ap g (other_seen u ne)
    where
      by : (o : Option Standing) → thread_at (threads_in a) u ≡ o → f o ≡ g o
      by None q = e
      by (Some z) q = h z (λ d. ne (d ∙ (among_thread (threads_in a) u z q).1))

  owner_same_of : (th : Thing) → of_thread t th ≡ 0 → owner_of s th ≡ owner_of s2 th
  owner_same_of (holds (as_gift u) v) z = by_seen (gift_owner_of s) (gift_owner_of s2) refl (λ w ne. gift_owned w ne (instr_of s w)) u (differs t u z)
  owner_same_of (holds (in_slot u i) v) z = refl
  owner_same_of (holds (in_temp u i) v) z = refl
  owner_same_of (holds (as_content m) v) z = refl
  owner_same_of (holds (as_result u) v) z = refl
  owner_same_of (holds in_hand v) z = refl
  owner_same_of _ z = refl

  content_same_of : (m : MutexNo) (th : Thing) → of_thread t th ≡ 0 → content_value s m th ≡ content_value s2 m th
  content_same_of m (holds (as_gift u) v) z =
      ap (λ q. if_in q (Some (plain_of v)))
      (by_seen (is_gift_of s m) (is_gift_of s2 m) refl (λ w ne. ap (λ o. some (if_so (is_some w.thread.gift) (one (is_mutex m o)))) (locked_same w ne (instr_of s w))) u (differs t u z))
  content_same_of m (holds (in_slot u i) v) z = refl
  content_same_of m (holds (in_temp u i) v) z = refl
  content_same_of m (holds (as_content w) v) z = refl
  content_same_of m (holds (as_result u) v) z = refl
  content_same_of m (holds in_hand v) z = refl
  content_same_of m _ z = refl

  result_same_of : (r : ℕ) (th : Thing) → of_thread t th ≡ 0 → result_value s r th ≡ result_value s2 r th
  result_same_of r (holds (as_gift u) v) z = ap (λ q. if_in q (Some (plain_of v))) (by_seen (is_joined_by s r) (is_joined_by s2 r) refl (λ w ne. refl) u (differs t u z))
  result_same_of r (holds (in_slot u i) v) z = refl
  result_same_of r (holds (in_temp u i) v) z = refl
  result_same_of r (holds (as_content w) v) z = refl
  result_same_of r (holds (as_result u) v) z = refl
  result_same_of r (holds in_hand v) z = refl
  result_same_of r _ z = refl

  -- WHAT IS IN THE STATE

  any_alike : (go : Node → Bool) (q : Node) (xs : List Thing) → tot (of_thread t) xs ≡ 0 → any_named s go q xs ≡ any_named s2 go q xs
  any_alike go q [] z = refl
  any_alike go q (th ∷ xs) z = ap₂ (λ o r. named_in (names q th) go o || r) (owner_same_of th (omega (arith, z))) (any_alike go q xs (omega (arith, z)))

  any_same : (go : Node → Bool) (q : Node) → any_named s go q a ≡ any_named s2 go q b
  any_same go q =
      any_it A B n x bare s go q ∙ ap₂ (λ f r. f || r) (any_alike go q A loneA) (ap₂ (λ m r. some m || r) (even q) (any_alike go q B loneB)) ∙ sym (any_it A B n y bare s2 go q)

  round_same : (i : ℕ) (q : Node) → in_state_by i s q ≡ in_state_by i s2 q
  round_same zero q = refl
  round_same (suc i) q = any_same (in_state_by i s) q ∙ named_alike s2 (in_state_by i s) (in_state_by i s2) (round_same i) q b

  in_same : (q : Node) → is_in_state s q ≡ is_in_state s2 q
  in_same q =
      both_ways (is_in_state s q) (is_in_state s2 q) (λ e. enough s2 (length a) q (sym (round_same (length a) q) ∙ e)) (λ e. enough s (length b) q (round_same (length b) q ∙ e))

  -- WHAT IS SHOWN

  first_same : {X : Type 0} (f g : Thing → Option X) → Own (λ v. f v ≡ None) → Own (λ v. g v ≡ None) → f (stands n false x) ≡ None → g (stands n false y) ≡ None
      → ((th : Thing) → of_thread t th ≡ 0 → f th ≡ g th) → first_shown f a ≡ first_shown g b
  first_same f g own own2 e e2 h =
      first_it A B n x bare f own e ∙ ap₂ or_else (first_alike t f g h A loneA) (first_alike t f g h B loneB) ∙ sym (first_it A B n y bare g own2 e2)

  tot_same_of : (f g : Thing → ℕ) → Own (λ v. f v ≡ 0) → Own (λ v. g v ≡ 0) → f (stands n false x) ≡ g (stands n false y) → ((th : Thing) → of_thread t th ≡ 0 → f th ≡ g th) → tot f a ≡ tot g b
  tot_same_of f g own own2 e h = omega (arith, tot_it A B n x bare f own, tot_it A B n y bare g own2, e, tot_alike t f g h A loneA, tot_alike t f g h B loneB)

  object_same : (o : ObjNo) → object_value s o ≡ object_value s2 o
  object_same o =
      let none : Own (λ v. cell_value o v ≡ None) = record { slots = λ u i v. refl; temps = λ u i v. refl; shared = λ l r. refl; lent = λ l r. refl; marks = λ l m. refl; used = λ u w. refl } in
      ap₂ if_in (in_same (object_n o)) (first_same (cell_value o) (cell_value o) none none refl refl (λ th z. refl))

  content_same : (m : MutexNo) → first_shown (content_value s m) a ≡ first_shown (content_value s2 m) b
  content_same m =
      let none : (r : Sight) → Own (λ v. content_value r m v ≡ None) = λ r. record { slots = λ u i v. refl; temps = λ u i v. refl; shared = λ l w. refl; lent = λ l w. refl; marks = λ l w. refl; used = λ u w. refl } in
      first_same (content_value s m) (content_value s2 m) (none s) (none s2) refl refl (content_same_of m)

  share_same_of : (m : MutexNo) (th : Thing) → of_thread t th ≡ 0 → share_in s m th ≡ share_in s2 m th
  share_same_of m th z = ap (λ q. if_so (names (mutex_n m) th) (one q)) (owner_same (is_in_state s) (is_in_state s2) in_same (owner_of s th) ∙ ap (owner_in (is_in_state s2)) (owner_same_of th z))

  shares_same : (m : MutexNo) → tot (share_in s m) a ≡ tot (share_in s2 m) b
  shares_same m =
      omega (arith, shares_it A B n x bare s m, shares_it A B n y bare s2 m, even (mutex_n m), tot_alike t (share_in s m) (share_in s2 m) (share_same_of m) A loneA, tot_alike t (share_in s m) (share_in s2 m) (share_same_of m) B loneB)

  mutex_same : (m : MutexNo) → (state_of s).mutex m ≡ (state_of s2).mutex m
  mutex_same m =
      ap (λ q. if_there q (record { content = first_shown (content_value s m) a; shares = tot (share_in s m) a })) (in_same (mutex_n m))
      ∙ ap₂ (λ v w. if_there (is_in_state s2 (mutex_n m)) (record { content = v; shares = w })) (content_same m) (shares_same m)

  -- RESULTS

  branch_same : (r : ℕ) → is_branch s r ≡ is_branch s2 r
  branch_same r =
      let none : Own (λ v. in_pair_of r v ≡ 0) = record { slots = λ u i v. refl; temps = λ u i v. refl; shared = λ l w. refl; lent = λ l w. refl; marks = λ l w. refl; used = λ u w. refl } in
      ap some (tot_same_of (in_pair_of r) (in_pair_of r) none none refl (λ th z. refl))

  done_same : (r : ℕ) → first_shown (branch_result r) a ≡ first_shown (branch_result r) b
  done_same r =
      let none : Own (λ v. branch_result r v ≡ None) = record { slots = λ u i v. refl; temps = λ u i v. refl; shared = λ l w. refl; lent = λ l w. refl; marks = λ l w. refl; used = λ u w. refl } in
      first_same (branch_result r) (branch_result r) none none (ap (λ m. if_in (some m) (Some plain.Unit)) (none_got r x.phase calm.alone)) refl (λ th z. refl)

  kept_same : (r : ℕ) → first_shown (result_value s r) a ≡ first_shown (result_value s2 r) b
  kept_same r =
      let none : (w : Sight) → Own (λ v. result_value w r v ≡ None) = λ w. record { slots = λ u i v. refl; temps = λ u i v. refl; shared = λ l m. refl; lent = λ l m. refl; marks = λ l m. refl; used = λ u m. refl } in
      first_same (result_value s r) (result_value s2 r) (none s) (none s2) refl refl (result_same_of r)

  owed_same : (r : ℕ) → is_branch s r || is_in_state s (task_n r) ≡ is_branch s2 r || is_in_state s2 (task_n r)
  owed_same r = ap₂ (λ p q. p || q) (branch_same r) (in_same (task_n r))

  result_same : (r : ℕ) → result_of s r ≡ result_of s2 r
  result_same r = ap₂ or_else (done_same r) (ap₂ if_in (owed_same r) (kept_same r))

  -- LIVES

  way_same : (r : ℕ) → going_of s r ≡ going_of s2 r
  way_same zero = refl
  way_same (suc r) = ap (λ q. if not q then as_loose else as_owing) (owed_same (suc r))

  life_by : (z : Standing) (q : Bool) → life_of s z.thread q ≡ life_of s2 z.thread q
  life_by z true = ap ended_with (result_same z.thread.number)
  life_by z false =
      going_is s z.thread.number (running_at z.thread) ∙ ap (λ w. life_as w (running_at z.thread)) (way_same z.thread.number) ∙ sym (going_is s2 z.thread.number (running_at z.thread))

  life_same : (u : ℕ) → t ≢ u → life_at s u (thread_at (threads_in a) u) ≡ life_at s2 u (thread_at (threads_in b) u)
  life_same u ne = by_seen (life_at s u) (life_at s2 u) (ap ended_with (result_same u)) (λ z d. life_by z (is_over z.thread.phase)) u ne

  -- NAMES

  given_same : (u : ℕ) → is_given_thread s u ≡ is_given_thread s2 u
  given_same u =
      let h = home_of u in
      let c = u % 2 ^ 32 in
      let none : Own (λ v. started_at h c v ≡ 0) = record { slots = λ w i v. refl; temps = λ w i v. refl; shared = λ l w. refl; lent = λ l w. refl; marks = λ l w. refl; used = λ w v. refl } in
      ap (λ m. u == 0 || (not (c == 0) && some m)) (tot_same_of (started_at h c) (started_at h c) none none refl (λ th z. refl))

  mutex_given : (m : MutexNo) → is_given_mutex s m ≡ is_given_mutex s2 m
  mutex_given m =
      let none : Own (λ v. made_at m.home m.count v ≡ 0) = record { slots = λ w i v. refl; temps = λ w i v. refl; shared = λ l w. refl; lent = λ l w. refl; marks = λ l w. refl; used = λ w v. refl } in
      ap (λ c. not (m.count == 0) && some c) (tot_same_of (made_at m.home m.count) (made_at m.home m.count) none none refl (λ th z. refl))

  -- what is the same of each thread, also of the one whose turn it is
  for_all : {X : Type 0} (f g : Option Standing → X) → f (Some (me A B n x bare)) ≡ g (Some (me A B n y bare)) → f None ≡ g None → ((z : Standing) → f (Some z) ≡ g (Some z)) → (u : ℕ) → f (thread_at (threads_in a) u) ≡ g (thread_at (threads_in b) u)
  for_all f g e z h u =
      eq_cases (λ q. (w : ℕ) → w ≡ u → f (thread_at (threads_in a) w) ≡ g (thread_at (threads_in b) w)) t u
      (λ i w j. subst (λ (v : ℕ). f (thread_at (threads_in a) v) ≡ g (thread_at (threads_in b) v)) (i ∙ sym j) (ap f (itself A B n x bare loneA) ∙ e ∙ sym (ap g (itself A B n y bare loneA))))
      (λ ne w j. by_seen f g z (λ v d. h v) w (λ d. ne (d ∙ j))) u refl

  mine_made : made_of (Some (me A B n x bare)) ≡ made_of (Some (me A B n y bare))
  mine_made = ap (λ q. if q then 0 else x.made) calm.goes

  pub turn_of : is_given_thread s t ≡ true → TurnOf t (running_at x) (running_at y) (state_of s) (state_of s2)
  turn_of named = record {
    way = going_of s t;
    before =
        ap₂ if_given named (ap (life_at s t) (itself A B n x bare loneA) ∙ ap (life_of s x) calm.goes ∙ going_is s t (running_at x));
    afterwards =
        ap₂ if_given (sym (given_same t) ∙ named) (ap (life_at s2 t) (itself A B n y bare loneA) ∙ going_is s2 t (running_at y) ∙ ap (λ w. life_as w (running_at y)) (sym (way_same t)));
    others = λ u ne. ap₂ if_given (given_same u) (life_same u ne);
    made = for_all made_of made_of mine_made refl (λ z. refl);
    pairs = for_all pair_of pair_of calm.alone refl (λ z. refl);
    objects = object_same;
    mutexes = mutex_same;
    given = mutex_given;
  }

  -- the sights show things once together
  pub once_too : Once s → Once s2
  once_too once = record {
    cells = λ o. omega (arith, once.cells o, tot_same_of (λ v. told ones (cell_value o v)) (λ v. told ones (cell_value o v)) (record { slots = λ w i v. refl; temps = λ w i v. refl; shared = λ l w. refl; lent = λ l w. refl; marks = λ l w. refl; used = λ w v. refl }) (record { slots = λ w i v. refl; temps = λ w i v. refl; shared = λ l w. refl; lent = λ l w. refl; marks = λ l w. refl; used = λ w v. refl }) refl (λ th z. refl));
    threads = λ u. omega (arith, once.threads u, tot_same_of (is_thread u) (is_thread u) (record { slots = λ w i v. refl; temps = λ w i v. refl; shared = λ l w. refl; lent = λ l w. refl; marks = λ l w. refl; used = λ w v. refl }) (record { slots = λ w i v. refl; temps = λ w i v. refl; shared = λ l w. refl; lent = λ l w. refl; marks = λ l w. refl; used = λ w v. refl }) refl (λ th z. refl));
    contents = λ m. omega (arith, once.contents m, tot_same_of (λ v. told ones (content_value s m v)) (λ v. told ones (content_value s2 m v)) (record { slots = λ w i v. refl; temps = λ w i v. refl; shared = λ l w. refl; lent = λ l w. refl; marks = λ l w. refl; used = λ w v. refl }) (record { slots = λ w i v. refl; temps = λ w i v. refl; shared = λ l w. refl; lent = λ l w. refl; marks = λ l w. refl; used = λ w v. refl }) refl (λ th z. ap (told ones) (content_same_of m th z)));
    ends = λ r. omega (
      arith,
      once.ends r,
      tot_same_of (λ v. told ones (shown_result s r v)) (λ v. told ones (shown_result s2 r v)) (record { slots = λ w i v. refl; temps = λ w i v. refl; shared = λ l w. refl; lent = λ l w. refl; marks = λ l w. refl; used = λ w v. refl }) (record { slots = λ w i v. refl; temps = λ w i v. refl; shared = λ l w. refl; lent = λ l w. refl; marks = λ l w. refl; used = λ w v. refl }) (ap (λ m. told ones (or_else (if_in (some m) (Some plain.Unit)) None)) (none_got r x.phase calm.alone))
          (λ th z. ap (λ o. told ones (or_else (branch_result r th) o)) (result_same_of r th z)),
      tot_same_of (has_ended r) (has_ended r) (record { slots = λ w i v. refl; temps = λ w i v. refl; shared = λ l w. refl; lent = λ l w. refl; marks = λ l w. refl; used = λ w v. refl }) (record { slots = λ w i v. refl; temps = λ w i v. refl; shared = λ l w. refl; lent = λ l w. refl; marks = λ l w. refl; used = λ w v. refl }) (ap (λ o. one (x.number == r && (not (x.number == 0) && o))) calm.goes) (λ th z. refl),
    );
  }
