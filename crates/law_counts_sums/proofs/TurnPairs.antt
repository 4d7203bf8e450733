-- In a sound cluster the two halves of a pair that are noted at a server are those for which the parent there waits.
use Rattle.std.proofs.Common.{◌≡◌, ℕ, ◌+◌, ◌≤◌, ◌==◌, ◌&&◌, Bool, true, false, List, [], ◌∷◌, ◌++◌, Some, refl, sym, ap, ap₂, ◌∙◌, arith}
use Rattle.coherent_memory.proofs.Below.fr_typing.PlaceLemmas.{eq_cases}
use Rattle.coherent_memory.specs.Below.join_home.Tasks.{Task, in_pair, task_in, without_task}
use Rattle.coherent_memory.specs.Below.thread_state.View.{ThreadState}
use Rattle.coherent_memory.specs.Below.thread_state.declared.phase.Phase.TheVariants as phase
use Rattle.coherent_memory.specs.Below.server_model.Servers.{Server, Cluster, server_at}
use Rattle.coherent_memory.specs.Below.server_model.Work.{thread_in, without_thread}
use Rattle.coherent_memory.specs.Names.{tot, one, if_so}
use Rattle.coherent_memory.specs.Things.{Thing, stands, noted, things_of, servers_things}
use Rattle.coherent_memory.specs.Requests.{Branch, pair_notes, pair_places, branch_places}
use Rattle.coherent_memory.specs.Weights.{is_thread}
use Rattle.coherent_memory.specs.Coherent.{IsSound}
use Rattle.law_counts_sums.proofs.Trades.{tot-append}
use Rattle.law_counts_sums.proofs.Bags.{all_standing, had_by, rest_things, server_same, tot-without, thread_number}
use Rattle.law_counts_sums.proofs.Events.{others_of, tot-server}
use Rattle.law_counts_sums.proofs.TaskMessages.{tot-gone}
use Rattle.law_counts_sums.proofs.FinishSteps.{task_number}
use Rattle.law_counts_sums.proofs.FairStarts.{halves_match}
use Rattle.law_counts_sums.proofs.Fair.{notes_heard}
use Rattle.law_counts_sums.proofs.Quiet.{server_said}
use Rattle.law_counts_sums.proofs.Changes.{task_heard}
use Rattle.law_counts_sums.proofs.TurnNotes.{note_is}
use Rattle.law_counts_sums.proofs.TurnFinished.{PairsMatch}

-- TWO AND TWO

self : (x : ℕ) → one (x == x) ≡ 1
self x = eq_cases (λ b. one b ≡ 1) x x (λ e. refl) (λ ne. absurd (ne refl))

named : (x y : ℕ) → 1 ≤ one (x == y) → x ≡ y
named x y l = eq_cases (λ b. 1 ≤ one b → x ≡ y) x y (λ e k. e) (λ ne k. absurd (omega (arith, k))) l

-- where two names stand among two others, wherever they do, they are these
two_match : (u o a b : ℕ) → ((w : ℕ) → one (u == w) + one (o == w) ≤ one (a == w) + one (b == w)) → (w : ℕ) → one (u == w) + one (o == w) ≡ one (a == w) + one (b == w)
two_match u o a b among w =
    eq_cases (λ c. one (a == u) ≡ one c → one (u == w) + one (o == w) ≡ one (a == w) + one (b == w)) a u
    (λ e k.
    let first : one (a == o) ≡ one (u == o) = ap (λ i. one (i == o)) e in
    let other : b ≡ o = named b o (omega (arith, among o, first, self o)) in
    ap₂ (λ i j. one (i == w) + one (j == w)) (sym e) (sym other))
    (λ ne k.
    let second : b ≡ u = named b u (omega (arith, among u, k, self u)) in
    let same : one (b == o) ≡ one (u == o) = ap (λ i. one (i == o)) second in
    let other : a ≡ o = named a o (omega (arith, among o, same, self o)) in
    let x : one (a == w) ≡ one (o == w) = ap (λ i. one (i == w)) other in
    let y : one (b == w) ≡ one (u == w) = ap (λ i. one (i == w)) second in
    omega (arith, x, y)) refl

-- THE PLACES OF A PARENT

none_elsewhere : (b : Branch) (x : Thing) → is_thread b.parent x ≡ 0 → pair_places b x ≡ 0
none_elsewhere b (stands r p t) z = by (r == b.server) (t.number == b.parent) z
  where
    by : (c d : Bool) → one d ≡ 0 → if_so (c && d) (branch_places b.thread t.phase) ≡ 0
    by c true z = absurd (cc z)
    by true false z = refl
    by false false z = refl
none_elsewhere b _ z = refl

all_elsewhere : (b : Branch) (xs : List Thing) → tot (is_thread b.parent) xs ≡ 0 → tot (pair_places b) xs ≡ 0
all_elsewhere b [] z = refl
all_elsewhere b (x ∷ xs) z = omega (arith, none_elsewhere b x (omega (arith, z)), all_elsewhere b xs (omega (arith, z)))

module _ (k : Cluster) (sound : IsSound k) (number : ℕ) (s : Server) (here : server_at k.servers number ≡ Some s) where
  abbrev n : ℕ
  n = s.rest.number

  -- all but one thread
  abbrev apart : ℕ → ThreadState → List Thing
  apart p y = had_by n y ++ (all_standing n (without_thread s.threads p) ++ (rest_things n s.events s.rest ++ servers_things (others_of k.servers number)))

  parted : (p : ℕ) (y : ThreadState) → thread_in s.threads p ≡ Some y → (f : Thing → ℕ) → tot f (things_of k) ≡ f (stands n false y) + tot f (apart p y)
  parted p y e f =
      let others = servers_things (others_of k.servers number) in
      let rest = rest_things n s.events s.rest in
      let without = all_standing n (without_thread s.threads p) in
      omega (arith, (tot-server f k.servers number s s here).0, server_same s f, tot-append f (all_standing n s.threads) rest, tot-without n f s.threads p y e, tot-append f (had_by n y) (without ++ (rest ++ others)), tot-append f without (rest ++ others), tot-append f rest others)

  -- as many halves are noted as the parent waits for
  halves_here : (u o p a b : ℕ) (x z : Task) (y : ThreadState) → task_in s.rest.tasks u ≡ Some x → task_in (without_task s.rest.tasks u) o ≡ Some z → x.state ≡ in_pair p false → z.state ≡ in_pair p true
      → thread_in s.threads p ≡ Some y → y.phase ≡ phase.WaitPar a b → (w : ℕ) → one (u == w) + one (o == w) ≤ one (a == w) + one (b == w)
  halves_here u o p a b x z y e d first second at waiting w =
      let c : Branch = record { server = n; parent = p; thread = w } in
      let f = pair_notes c in
      let h = notes_heard c in
      let numbered = thread_number s.threads p y at in
      let noted_u = note_is n u x (in_pair p false) (task_number s.rest.tasks u x e) first f in
      let noted_o = note_is n o z (in_pair p true) (task_number (without_task s.rest.tasks u) o z d) second f in
      let few : f (noted n (record { thread = u; state = in_pair p false })) + f (noted n (record { thread = o; state = in_pair p true })) ≤ tot f (things_of k) =
      omega (arith, (tot-server f k.servers number s s here).0, server_said f h s, tot-gone f n s.rest.tasks u x e, tot-gone f n (without_task s.rest.tasks u) o z d, task_heard f h n x, task_heard f h n z, noted_u, noted_o) in
      let mine : is_thread p (stands n false y) ≡ 1 = ap (λ i. one (i == p)) numbered ∙ self p in
      let alone : tot (is_thread p) (apart p y) ≡ 0 = omega (arith, sound.names.numbers_differ p, parted p y at (is_thread p), mine) in
      let places : pair_places c (stands n false y) ≡ if_so (n == n && p == p) (one (a == w) + one (b == w)) = ap₂ (λ i j. if_so (n == n && i == p) (branch_places w j)) numbered waiting in
      let match = halves_match (n == n) (u == w) (o == w) (p == p) in
      let all : if_so (n == n && p == p) (one (u == w) + one (o == w)) ≡ one (u == w) + one (o == w) = full n p (one (u == w) + one (o == w)) in
      let all2 : if_so (n == n && p == p) (one (a == w) + one (b == w)) ≡ one (a == w) + one (b == w) = full n p (one (a == w) + one (b == w)) in
      omega (arith, few, sound.requests.pairs_noted c, parted p y at (pair_places c), all_elsewhere c (apart p y) alone, places, match, all, all2)
    where
      full : (n p x : ℕ) → if_so (n == n && p == p) x ≡ x
      full n p x = eq_cases (λ b. if_so (b && p == p) x ≡ x) n n (λ e. eq_cases (λ b. if_so (true && b) x ≡ x) p p (λ e. refl) (λ ne. absurd (ne refl))) (λ ne. absurd (ne refl))

  pub pairs_match : PairsMatch s
  pairs_match u o p a b x z y e d first second at waiting = two_match u o a b (halves_here u o p a b x z y e d first second at waiting)
