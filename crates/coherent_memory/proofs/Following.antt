-- One task value of each thread, and none of the two of a pair that have both ended.
use Rattle.std.proofs.Common.{◌≡◌, ◌≢◌, inl, inr, ℕ, ◌+◌, ◌≤◌, Bool, true, false, not, ◌&&◌, List, [], ◌∷◌, refl, subst, arith}
use Rattle.std.specs.Prelude.{◌==◌}
use Rattle.std.proofs.lemmas.Bool.Decides.{nat_tests}
use Rattle.server_model.specs.Below.thread_state.View.{is_over}
use Rattle.server_model.specs.Below.thread_state.declared.phase.Phase.{Phase}
use Rattle.server_model.specs.Below.thread_state.declared.phase.Phase.TheVariants as phase
use Rattle.server_model.specs.Below.join_home.Tasks.{TaskState, going, let_go, kept, asked, in_pair}
use Rattle.server_model.specs.Servers.{Cluster}
use Rattle.coherent_memory.specs.Names.{tot, one, other, if_so, some, Among}
use Rattle.coherent_memory.specs.Things.{Thing, sent, stands, noted, things_of}
use Rattle.coherent_memory.specs.Follow.{Standing, threads_in}
use Rattle.coherent_memory.specs.Sight.{Sight, sight}
use Rattle.coherent_memory.specs.Balances.{Agree}
use Rattle.coherent_memory.specs.Requests.{Branch, half_noted, pair_notes, branch_places, pair_places}
use Rattle.coherent_memory.specs.Weights.{tasks_of, is_thread}
use Rattle.coherent_memory.specs.Sharing.{going_on, finished, going_notes, goes_on, owes, owed, kept_note, got_phase, results, has_ended, named_pair}
use Rattle.coherent_memory.specs.Following.{TasksNoted, FollowLaw}
use Rattle.coherent_memory.proofs.Named.{named_there}
use Rattle.coherent_memory.proofs.Asked.{awaited_word}

module _ (s : Sight) (t : ℕ) where
  -- what a parent that was answered by its pair has of the thread
  abbrev got : Thing → ℕ
  got (stands r p x) = got_phase t x.phase
  got x = 0

  note_owed : (q : Bool) (u : TaskState) → one (q && owes u) ≤ one (q && going_on u) + if_so q (kept_note u)
  note_owed true going = omega arith
  note_owed true let_go = omega arith
  note_owed true (kept v) = omega arith
  note_owed true (asked r v) = omega arith
  note_owed true (in_pair p over) = omega arith
  note_owed false u = omega arith

  -- what is owed is noted as going on, or is a result
  owed_once : (x : Thing) → owed s t x + finished t x + got x ≤ going_notes t x + results s t x
  owed_once (noted r x) = omega (arith, note_owed (x.thread == t) x.state)
  owed_once (sent r m) = omega arith
  owed_once (stands r p x) = omega arith
  owed_once _ = omega arith

  one_state : (p q r : Bool) → one (p && (q && not r)) + one (p && (q && r)) ≤ one p
  one_state true true true = omega arith
  one_state true true false = omega arith
  one_state true false r = omega arith
  one_state false q r = omega arith

  -- a thread goes on or has ended
  once : (x : Thing) → goes_on t x + has_ended t x ≤ is_thread t x + finished t x
  once (stands r p x) = omega (arith, one_state (x.number == t) (not (x.number == 0)) (is_over x.phase))
  once (sent r m) = omega arith
  once _ = omega arith

  sums : (b : List Thing) → (tot (owed s t) b + tot (finished t) b + tot got b ≤ tot (going_notes t) b + tot (results s t) b) × (tot (goes_on t) b + tot (has_ended t) b ≤ tot (is_thread t) b + tot (finished t) b)
  sums [] = (omega arith, omega arith)
  sums (x ∷ b) = let z = sums b in let l = z.0 in let r = z.1 in (omega (arith, owed_once x, l), omega (arith, once x, r))

  got_by : (x : Standing) (b : List Thing) → Among x (threads_in b) → got_phase t x.thread.phase ≤ tot got b
  got_by x [] h = absurd h
  got_by x (stands r p y ∷ b) (inl e) = let q : got_phase t y.phase ≡ got_phase t x.thread.phase = subst (λ (z : Standing). got_phase t y.phase ≡ got_phase t z.thread.phase) e refl in omega (arith, q)
  got_by x (stands r p y ∷ b) (inr h) = omega (arith, got_by x b h)
  got_by x (_ ∷ b) h = omega (arith, got_by x b h)

-- the task values of a thread, and what its parent has of it
few : (k : Cluster) → TasksNoted k → (t : ℕ) → tot (tasks_of t) (things_of k) + tot (got (sight k) t) (things_of k) ≤ 1
few k p t =
    let z = sums (sight k) t (things_of k) in
    let l = z.0 in
    let r = z.1 in
    omega (arith, l, r, p.numbers_differ t, p.noted_go_on t, p.one_result t, p.task_values_owed t)

one_task : (k : Cluster) → TasksNoted k → (t : ℕ) → tot (tasks_of t) (things_of k) ≤ 1
one_task k p t = omega (arith, few k p t)

one_itself : (t : ℕ) → one (t == t) ≡ 1
one_itself t = let e : (t == t) ≡ true = grind (arith, nat_tests) in rw e refl

none_named : (m n : ℕ) → m ≡ 0 → n ≡ 0 → other (not (some (m + n))) ≡ 0
none_named m n x y = let z : m + n ≡ 0 = omega (arith, x, y) in rw z refl

unnamed_by : (k : Cluster) → TasksNoted k → (x : Standing) → Among x (sight k).ground.threads → (f : Phase) → x.thread.phase ≡ f → named_pair (sight k) f ≡ 0
unnamed_by k p x h (phase.GotPar a b) e =
    let s = sight k in
    let here : (t : ℕ) → got_phase t (phase.GotPar a b) ≤ tot (got s t) (things_of k) = λ t. subst (λ f. got_phase t f ≤ tot (got s t) (things_of k)) e (got_by s t x (things_of k) h) in
    none_named (tot (tasks_of a) (things_of k)) (tot (tasks_of b) (things_of k)) (omega (arith, few k p a, here a, one_itself a)) (omega (arith, few k p b, here b, one_itself b))
unnamed_by k p x h _ e = refl

all_unnamed : (k : Cluster) → TasksNoted k → (xs : List Standing) → ((x : Standing) → Among x xs → Among x (sight k).ground.threads) → tot (λ (x : Standing). named_pair (sight k) x.thread.phase) xs ≡ 0
all_unnamed k p [] i = refl
all_unnamed k p (x ∷ xs) i = omega (arith, unnamed_by k p x (i x (inl refl)) x.thread.phase refl, all_unnamed k p xs (λ y h. i y (inr h)))

-- TWO OF A PAIR

abbrev is_pair : TaskState → ℕ
is_pair (in_pair p over) = 1
is_pair u = 0

module _ (s : Sight) (t : ℕ) where
  -- a note of the thread in a pair
  abbrev paired : Thing → ℕ
  paired (noted r x) = if_so (x.thread == t) (is_pair x.state)
  paired x = 0

  note_paired : (q : Bool) (u : TaskState) → if_so q (is_pair u) ≤ one (q && going_on u) + if_so q (kept_note u)
  note_paired true (in_pair p true) = omega arith
  note_paired true (in_pair p false) = omega arith
  note_paired true going = omega arith
  note_paired true let_go = omega arith
  note_paired true (kept v) = omega arith
  note_paired true (asked r v) = omega arith
  note_paired false u = omega arith

  paired_once : (x : Thing) → paired x + finished t x ≤ going_notes t x + results s t x
  paired_once (noted r x) = omega (arith, note_paired (x.thread == t) x.state)
  paired_once (sent r m) = omega arith
  paired_once _ = omega arith

  paired_sum : (b : List Thing) → tot paired b + tot (finished t) b ≤ tot (going_notes t) b + tot (results s t) b
  paired_sum [] = omega arith
  paired_sum (x ∷ b) = omega (arith, paired_once x, paired_sum b)

  half_is : (p : ℕ) (u : TaskState) (q : Bool) → one (q && half_noted u p) ≤ if_so q (is_pair u)
  half_is p (in_pair r over) true = at_most_one (r == p)
    where
      at_most_one : (q : Bool) → one q ≤ 1
      at_most_one true = omega arith
      at_most_one false = omega arith
  half_is p going true = omega arith
  half_is p let_go true = omega arith
  half_is p (kept v) true = omega arith
  half_is p (asked r v) true = omega arith
  half_is p u false = omega arith

  note_by : (q u v : Bool) (n : ℕ) → one (u && v) ≤ n → one ((q && u) && v) ≤ n
  note_by true u v n l = l
  note_by false u v n l = omega arith

  note_each : (r p : ℕ) (x : Thing) → pair_notes (record { server = r; parent = p; thread = t }) x ≤ paired x
  note_each r p (noted q x) = note_by (q == r) (x.thread == t) (half_noted x.state p) (if_so (x.thread == t) (is_pair x.state)) (half_is p x.state (x.thread == t))
  note_each r p _ = omega arith

  note_all : (r p : ℕ) (b : List Thing) → tot (pair_notes (record { server = r; parent = p; thread = t })) b ≤ tot paired b
  note_all r p [] = omega arith
  note_all r p (x ∷ b) = omega (arith, note_each r p x, note_all r p b)

abbrev branch_of : Standing → ℕ → Branch
branch_of x t = record { server = x.server; parent = x.thread.number; thread = t }

place_by : (x : Standing) (t : ℕ) (b : List Thing) → Among x (threads_in b) → branch_places t x.thread.phase ≤ tot (pair_places (branch_of x t)) b
place_by x t [] h = absurd h
place_by x t (stands r p y ∷ b) (inl e) =
    let q : (r == r) ≡ true = grind (arith, nat_tests) in
    let n : (y.number == y.number) ≡ true = grind (arith, nat_tests) in
    let here : branch_places t y.phase ≤ if_so (r == r && y.number == y.number) (branch_places t y.phase) = rw q (rw n (omega arith)) in
    let there : branch_places t x.thread.phase ≤ pair_places (branch_of x t) (stands r p y) = subst (λ (z : Standing). branch_places t z.thread.phase ≤ pair_places (branch_of z t) (stands r p y)) e here in
    omega (arith, there)
place_by x t (stands r p y ∷ b) (inr h) = omega (arith, place_by x t b h)
place_by x t (_ ∷ b) h = omega (arith, place_by x t b h)

two_differ : (k : Cluster) → TasksNoted k → Agree pair_notes pair_places (things_of k) → (x : Standing) (a b : ℕ) → Among x (sight k).ground.threads → x.thread.phase ≡ phase.WaitPar a b → a ≢ b
two_differ k p g x a b h e same =
    let z = sums (sight k) a (things_of k) in
    let r = z.1 in
    let both : branch_places a (phase.WaitPar a b) ≡ 2 = subst (λ u. one (a == a) + one (u == a) ≡ 2) same (omega (arith, one_itself a)) in
    let places : branch_places a (phase.WaitPar a b) ≤ tot (pair_places (branch_of x a)) (things_of k) = subst (λ f. branch_places a f ≤ tot (pair_places (branch_of x a)) (things_of k)) e (place_by x a (things_of k) h) in
    omega (arith, r, both, places, g (branch_of x a), note_all (sight k) a x.server x.thread.number (things_of k), paired_sum (sight k) a (things_of k), p.numbers_differ a, p.noted_go_on a, p.one_result a)

pub follow_law : FollowLaw
follow_law = record { one_task_value = one_task; pairs_differ = two_differ; pairs_unnamed = λ k p. all_unnamed k p (sight k).ground.threads (λ x h. h); named_are_there = named_there; awaited_words = awaited_word }
