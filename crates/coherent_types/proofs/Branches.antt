-- The branches of pairs in a coherent cluster.
use Rattle.std.proofs.Common.{◌≡◌, ◌⊎◌, inl, inr, ⊎_elim, ℕ, zero, suc, ◌+◌, ◌≤◌, ◌&&◌, Bool, true, false, if◌then◌else◌, List, [], ◌∷◌, Some, refl, sym, ap, subst, arith}
use Rattle.std.specs.Prelude.{◌==◌}
use Rattle.std.proofs.lemmas.Bool.Decides.{nat_tests}
use Rattle.coherent_memory.proofs.Below.fr_typing.PlaceLemmas.{eq_cases}
use Rattle.coherent_memory.specs.Below.thread_state.View.{ThreadState}
use Rattle.coherent_memory.specs.Below.thread_state.declared.phase.Phase.{Phase}
use Rattle.coherent_memory.specs.Below.thread_state.declared.phase.Phase.TheVariants as phase
use Rattle.coherent_memory.specs.Below.join_home.Tasks.{Task, TaskState, in_pair}
use Rattle.coherent_memory.specs.Below.server_model.Servers.{Cluster}
use Rattle.coherent_memory.specs.Names.{tot, one, if_so, Among}
use Rattle.coherent_memory.specs.Things.{Thing, stands, noted, things_of}
use Rattle.coherent_memory.specs.Follow.{Standing, threads_in, thread_at}
use Rattle.coherent_memory.specs.Sight.{sight}
use Rattle.coherent_memory.specs.Weights.{is_thread}
use Rattle.coherent_memory.specs.Requests.{Branch, half_noted, pair_notes, branch_places, pair_places}
use Rattle.coherent_memory.specs.OneHeap.{two_in, pair_of, one_heap}
use Rattle.coherent_memory.proofs.Names.{and_right, same_number}
use Rattle.coherent_memory.specs.Below.fr_sound.States.{Typing, IsBranch}
use Rattle.coherent_types.specs.ClusterTypes.{IsCoherent}
use Rattle.coherent_types.specs.Branches.{IsBranchOf, BranchesLaw}

-- A THREAD BY ITS NUMBER

counted : (x : Standing) (b : List Thing) → Among x (threads_in b) → 1 ≤ tot (is_thread x.thread.number) b
counted x [] h = absurd h
counted x (stands s p t ∷ b) (inl e) =
    let here : 1 ≤ is_thread x.thread.number (stands s p t) =
    subst (λ (y : Standing). 1 ≤ one (t.number == y.thread.number)) e (eq_cases (λ b. 1 ≤ one b) t.number t.number (λ q. omega arith) (λ n. absurd (n refl))) in
    omega (arith, here)
counted x (stands s p t ∷ b) (inr h) = omega (arith, counted x b h)
counted x (_ ∷ b) h = omega (arith, counted x b h)

-- a thread that stands somewhere is found by its number
pub found : (x : Standing) (b : List Thing) → tot (is_thread x.thread.number) b ≤ 1 → Among x (threads_in b) → thread_at (threads_in b) x.thread.number ≡ Some x
found x [] l h = absurd h
found x (stands s p t ∷ b) l (inl e) =
    subst (λ (y : Standing). thread_at (threads_in (stands s p t ∷ b)) y.thread.number ≡ Some y) e
    (eq_cases (λ q. (if q then Some (record { server = s; packed = p; thread = t }) else thread_at (threads_in b) t.number) ≡ Some (record { server = s; packed = p; thread = t })) t.number t.number (λ q. refl) (λ n. absurd (n refl)))
found x (stands s p t ∷ b) l (inr h) =
    let more : 1 ≤ tot (is_thread x.thread.number) b = counted x b h in
    eq_cases (λ q. one q + tot (is_thread x.thread.number) b ≤ 1 → (if q then Some (record { server = s; packed = p; thread = t }) else thread_at (threads_in b) x.thread.number) ≡ Some x) t.number x.thread.number
    (λ q m. absurd (omega (arith, m, more))) (λ n m. found x b (omega (arith, m)) h) l
found x (_ ∷ b) l h = found x b (omega (arith, l)) h

-- PAIRS

below_of : (k : Cluster) {y : Typing} {p t : ℕ} → IsBranch y (one_heap k) p t → IsBranchOf y p t
below_of k b = record { gives = b.gives; below = b.below }

waited : (k : Cluster) (c : IsCoherent k) (x : Standing) (a b : ℕ) → Among x (sight k).ground.threads → two_in x.thread.phase ≡ Some (a, b) → IsBranchOf c.types.typing x.thread.number a × IsBranchOf c.types.typing x.thread.number b
waited k c x a b h e =
    let at : thread_at (threads_in (things_of k)) x.thread.number ≡ Some x = found x (things_of k) (c.sound.names.numbers_differ x.thread.number) h in
    let pair : (one_heap k).pair x.thread.number ≡ Some (a, b) = subst (λ o. pair_of o ≡ Some (a, b)) (sym at) e in
    let two = c.types.state.pairs x.thread.number a b pair in
    (below_of k two.1, below_of k two.2)

-- the parent of a place that is counted
pub record Waiting (r p t : ℕ) (b : List Thing) : Type 0 where
  pub parent : Standing
  pub among : Among parent (threads_in b)
  pub number : parent.thread.number ≡ p
  pub first : ℕ
  pub second : ℕ
  pub pair : two_in parent.thread.phase ≡ Some (first, second)
  pub one_of : (first ≡ t) ⊎ (second ≡ t)

waiting_later : (r p t : ℕ) (x : Thing) (b : List Thing) → ((z : Standing) → Among z (threads_in b) → Among z (threads_in (x ∷ b))) → Waiting r p t b → Waiting r p t (x ∷ b)
waiting_later r p t x b i w = record { parent = w.parent; among = i w.parent w.among; number = w.number; first = w.first; second = w.second; pair = w.pair; one_of = w.one_of }

abbrev branch : ℕ → ℕ → ℕ → Branch
branch r p t = record { server = r; parent = p; thread = t }

positive : (n : ℕ) → (n ≡ 0 → ⊥) → 1 ≤ n
positive zero f = absurd (f refl)
positive (suc n) f = omega arith

itself : (n : ℕ) → (n == n) ≡ true
itself n = grind (arith, nat_tests)

note_weight : (r p : ℕ) (x : Task) (over : Bool) → x.state ≡ in_pair p over → 1 ≤ one ((r == r && x.thread == x.thread) && half_noted x.state p)
note_weight r p x over e =
    let h : half_noted x.state p ≡ true = subst (λ (s : TaskState). half_noted s p ≡ true) (sym e) (itself p) in
    rw h (rw (itself r) (rw (itself x.thread) (omega arith)))

-- a thread here is the parent, or one of the rest is
standing_by : (r p t s : ℕ) (packed : Bool) (x : ThreadState) (b : List Thing) (f : Phase) → x.phase ≡ f → (q : Bool) → (s == r && x.number == p) ≡ q
    → ((tot (pair_places (branch r p t)) b ≡ 0 → ⊥) → Waiting r p t b) → 1 ≤ if_so q (branch_places t f) + tot (pair_places (branch r p t)) b → Waiting r p t (stands s packed x ∷ b)
standing_by r p t s packed x b (phase.WaitPar u v) e true h go l = by (u == t) (v == t) refl refl
  where
    y : Standing
    y = record { server = s; packed = packed; thread = x }

    at : ((u ≡ t) ⊎ (v ≡ t)) → Waiting r p t (stands s packed x ∷ b)
    at o = record { parent = y; among = inl refl; number = same_number x.number p (and_right (s == r) (x.number == p) h); first = u; second = v; pair = ap two_in e; one_of = o }

    by : (c d : Bool) → (u == t) ≡ c → (v == t) ≡ d → Waiting r p t (stands s packed x ∷ b)
    by true d c1 d1 = at (inl (same_number u t c1))
    by false true c1 d1 = at (inr (same_number v t d1))
    by false false c1 d1 =
        waiting_later r p t (stands s packed x) b (λ z m. inr m) (go (λ z. let w : 1 ≤ one (u == t) + one (v == t) = omega (arith, l, z) in let n : one (u == t) + one (v == t) ≡ 0 = rw c1 (rw d1 refl) in omega (arith, w, n)))
standing_by r p t s packed x b _ e true h go l = waiting_later r p t (stands s packed x) b (λ z m. inr m) (go (λ z. omega (arith, l, z)))
standing_by r p t s packed x b f e false h go l = waiting_later r p t (stands s packed x) b (λ z m. inr m) (go (λ z. omega (arith, l, z)))

waiting : (r p t : ℕ) (b : List Thing) → 1 ≤ tot (pair_places (branch r p t)) b → Waiting r p t b
waiting r p t [] l = absurd (omega (arith, l))
waiting r p t (stands s packed x ∷ b) l =
    standing_by r p t s packed x b x.phase refl (s == r && x.number == p) refl (λ n. waiting r p t b (positive (tot (pair_places (branch r p t)) b) n)) l
waiting r p t (x ∷ b) l = waiting_later r p t x b (λ z m. m) (waiting r p t b (omega (arith, l)))

-- a note is counted
noted_once : (r p : ℕ) (x : Task) (over : Bool) (b : List Thing) → x.state ≡ in_pair p over → Among (noted r x) b → 1 ≤ tot (pair_notes (branch r p x.thread)) b
noted_once r p x over [] e h = absurd h
noted_once r p x over (y ∷ b) e (inl q) =
    let here : 1 ≤ pair_notes (branch r p x.thread) (noted r x) = note_weight r p x over e in
    let there : 1 ≤ pair_notes (branch r p x.thread) y = subst (λ z. 1 ≤ pair_notes (branch r p x.thread) z) (sym q) here in
    omega (arith, there)
noted_once r p x over (y ∷ b) e (inr h) = omega (arith, noted_once r p x over b e h)

noted_branch : (k : Cluster) (c : IsCoherent k) (r parent : ℕ) (t : Task) (over : Bool) → Among (noted r t) (things_of k) → t.state ≡ in_pair parent over → IsBranchOf c.types.typing parent t.thread
noted_branch k c r parent t over h e =
    let n : 1 ≤ tot (pair_notes (branch r parent t.thread)) (things_of k) = noted_once r parent t over (things_of k) e h in
    let m : tot (pair_notes (branch r parent t.thread)) (things_of k) ≡ tot (pair_places (branch r parent t.thread)) (things_of k) = c.sound.requests.pairs_noted (branch r parent t.thread) in
    let w = waiting r parent t.thread (things_of k) (omega (arith, n, m)) in
    let two = waited k c w.parent w.first w.second w.among w.pair in
    let one_is : IsBranchOf c.types.typing w.parent.thread.number t.thread =
    ⊎_elim (λ (q : w.first ≡ t.thread). subst (λ u. IsBranchOf c.types.typing w.parent.thread.number u) q two.0) (λ (q : w.second ≡ t.thread). subst (λ u. IsBranchOf c.types.typing w.parent.thread.number u) q two.1) w.one_of in
    subst (λ u. IsBranchOf c.types.typing u t.thread) w.number one_is

pub branches_law : BranchesLaw
branches_law = record { waited = waited; noted = noted_branch }
