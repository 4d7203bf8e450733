-- Of a cluster that is finished nothing is left.
use Rattle.std.proofs.Common.{◌≡◌, ℕ, ◌+◌, ◌≤◌, ◌==◌, ◌&&◌, not, is_some, Bool, true, false, List, [], ◌∷◌, Option, Some, None, refl, sym, subst, arith}
use Rattle.std.proofs.lemmas.Bool.Decides.{nat_tests}
use Rattle.law_runs_coherent.specs.Below.fr_base.declared.name.MutexNo.{MutexNo}
use Rattle.law_runs_coherent.specs.Below.fr_base.declared.step.Ending3.TheVariants.{Finished}
use Rattle.law_runs_coherent.specs.Below.heap_partition.declared.value.Cell.{Cell}
use Rattle.law_runs_coherent.specs.Below.heap_partition.declared.value.Owned.{Owned}
use Rattle.law_runs_coherent.specs.Below.read_cache.Cache.{Copy}
use Rattle.law_runs_coherent.specs.Below.mutex_home.Mutexes.{Mutex}
use Rattle.law_runs_coherent.specs.Below.join_home.Tasks.{Task, TaskState, going, let_go, kept, asked, in_pair}
use Rattle.law_runs_coherent.specs.Below.thread_state.View.{ThreadState, is_over}
use Rattle.law_runs_coherent.specs.Below.thread_state.declared.phase.Phase.{Phase}
use Rattle.law_runs_coherent.specs.Below.thread_state.declared.phase.Phase.TheVariants as phase
use Rattle.law_runs_coherent.specs.Below.server_model.Servers.{Server, Cluster}
use Rattle.law_runs_coherent.specs.Below.server_model.Figures.{all_over, no_cell, is_none_left, is_finished_at, are_finished}
use Rattle.drive_model.specs.Ending.{is_none, no_message, all_threads, all_in, is_stopped, ending_of}
use Rattle.law_runs_coherent.specs.Below.coherent_memory.Names.{tot, one, other, if_so, same_object, same_mutex}
use Rattle.law_runs_coherent.specs.Below.coherent_memory.Things.{Thing, at_slot, as_content, holds, locks, result_things, lies, copied, uses, sent, stands, at_home, noted, things_at, cell_things, free_things, copy_things, mutex_things, task_things, server_things, servers_things, things_of}
use Rattle.law_runs_coherent.specs.Below.coherent_memory.Sight.{sight}
use Rattle.law_runs_coherent.specs.Below.coherent_memory.Weights.{cells, uses_of, users_of, is_home_of}
use Rattle.law_runs_coherent.specs.Below.coherent_memory.OneHeap.{object_n, mutex_n, task_n}
use Rattle.law_runs_coherent.specs.Below.coherent_memory.Walking.{instr_of}
use Rattle.law_runs_coherent.specs.Below.coherent_memory.Requests.{is_mutex, locked_mutex, Branch, half_noted, pair_notes, pair_places, branch_places}
use Rattle.law_runs_coherent.specs.Below.coherent_memory.Sharing.{contents, going_on, going_notes, goes_on}
use Rattle.law_runs_coherent.proofs.Below.coherent_memory.Names.{and_left, and_right}
use Rattle.law_runs_coherent.proofs.Below.coherent_memory.Sums.{tot-append, server_parts}
use Rattle.law_runs_whole.specs.ends.Left.{unused, all_unused, NothingLeft, FinishedIsEmpty}
use Rattle.law_runs_whole.proofs.ends.Servers.{IsPart}
use Rattle.law_runs_whole.proofs.ends.Bare.{IsFinished, loose, none_loose, content_held, result_held}
use Rattle.law_runs_whole.proofs.ends.Owners.{object_itself, mutex_itself, none_held}

-- where nothing is loose, what isn't there unless something is loose isn't there
none_with : (f : Thing → ℕ) → ((x : Thing) → loose x ≡ 0 → f x ≡ 0) → (b : List Thing) → tot loose b ≡ 0 → tot f b ≡ 0
none_with f go [] z = refl
none_with f go (x ∷ b) z = omega (arith, go x (omega (arith, z)), none_with f go b (omega (arith, z)))

all_with : (f g : Thing → ℕ) → ((x : Thing) → loose x ≡ 0 → f x ≤ g x) → (b : List Thing) → tot loose b ≡ 0 → tot f b ≤ tot g b
all_with f g go [] z = omega arith
all_with f g go (x ∷ b) z = omega (arith, go x (omega (arith, z)), all_with f g go b (omega (arith, z)))

one_is : (c : Bool) → c ≡ true → one c ≡ 1
one_is true q = refl
one_is false q = absurd (cc q)

same_is : (n : ℕ) → (n == n) ≡ true
same_is n = grind (arith, nat_tests)

both : (a b : Bool) → a ≡ true → b ≡ true → a && b ≡ true
both true true q w = refl
both true false q w = w
both false b q w = absurd (cc q)

-- a thread that is over goes on nowhere, and waits for no branch
no_other : (p : Phase) → other (is_over p) ≡ 0 → p ≡ phase.Over
no_other phase.Over e = refl
no_other p e = absurd (cc e)

module _ (k : Cluster) (e : IsFinished k) where
  abbrev b : List Thing
  b = things_of k

  -- NOTES

  none_goes : (t : ℕ) (x : Thing) → loose x ≡ 0 → goes_on t x ≡ 0
  none_goes t (stands r p x) z = subst (λ (q : Phase). one (x.number == t && (not (x.number == 0) && not (is_over q))) ≡ 0) (sym (no_other x.phase (omega (arith, z)))) (by (x.number == t) (not (x.number == 0)))
    where
      by : (c d : Bool) → one (c && (d && false)) ≡ 0
      by true true = refl
      by true false = refl
      by false d = refl
  none_goes t (sent r m) z = absurd (omega (arith, z))
  none_goes t _ z = refl

  none_waits : (c : Branch) (x : Thing) → loose x ≡ 0 → pair_places c x ≡ 0
  none_waits c (stands r p x) z = subst (λ (q : Phase). if_so (r == c.server && x.number == c.parent) (branch_places c.thread q) ≡ 0) (sym (no_other x.phase (omega (arith, z)))) (by (r == c.server && x.number == c.parent))
    where
      by : (d : Bool) → if_so d 0 ≡ 0
      by true = refl
      by false = refl
  none_waits c _ z = refl

  goes_not : (n : ℕ) (x : Task) → ((f : Thing → ℕ) → f (noted n x) ≤ tot f b) → going_on x.state ≡ true → ⊥
  goes_not n x h g =
      let note : going_notes x.thread (noted n x) ≡ 1 = one_is (x.thread == x.thread && going_on x.state) (both (x.thread == x.thread) (going_on x.state) (same_is x.thread) g) in
      omega (arith, note, h (going_notes x.thread), e.sound.mutexes_and_tasks.noted_go_on x.thread, none_with (goes_on x.thread) (none_goes x.thread) b (none_loose k e))

  pairs_not : (n p : ℕ) (x : Task) → ((f : Thing → ℕ) → f (noted n x) ≤ tot f b) → half_noted x.state p ≡ true → ⊥
  pairs_not n p x h g =
      let c : Branch = record { server = n; parent = p; thread = x.thread } in
      let note : pair_notes c (noted n x) ≡ 1 = one_is ((n == n && x.thread == x.thread) && half_noted x.state p) (both (n == n && x.thread == x.thread) (half_noted x.state p) (both (n == n) (x.thread == x.thread) (same_is n) (same_is x.thread)) g) in
      omega (arith, note, h (pair_notes c), e.sound.requests.pairs_noted c, none_with (pair_places c) (none_waits c) b (none_loose k e))

  no_note : (n i : ℕ) (x : Task) → IsPart (task_things n i x) b → ⊥
  no_note n i x part = by x.state refl
    where
      here : (f : Thing → ℕ) → f (noted n x) ≤ tot f b
      here f = omega (arith, part f)

      by : (c : TaskState) → x.state ≡ c → ⊥
      by (kept v) q =
          let weight : tot (result_held x.thread) (result_things x.thread x.state) ≡ 1 = subst (λ c. tot (result_held x.thread) (result_things x.thread c) ≡ 1) (sym q) (one_of (x.thread == x.thread) (same_is x.thread)) in
          none_held k e (task_n x.thread) (omega (arith, part (result_held x.thread), weight))
        where
          one_of : (c : Bool) → c ≡ true → one c + 0 ≡ 1
          one_of true w = refl
          one_of false w = absurd (cc w)
      by going q = goes_not n x here (subst (λ c. going_on c ≡ true) (sym q) refl)
      by let_go q = goes_not n x here (subst (λ c. going_on c ≡ true) (sym q) refl)
      by (asked r t) q = goes_not n x here (subst (λ c. going_on c ≡ true) (sym q) refl)
      by (in_pair p false) q = goes_not n x here (subst (λ c. going_on c ≡ true) (sym q) refl)
      by (in_pair p true) q = pairs_not n p x here (subst (λ c. half_noted c p ≡ true) (sym q) (same_is p))

  -- MUTEXES

  content_there : (m : MutexNo) (x : Thing) → loose x ≡ 0 → contents (sight k) m x ≤ content_held m x
  content_there m (holds (as_content n) v) z = omega arith
  content_there m (holds _ v) z = omega arith
  content_there m (locks (at_slot t i) n) z = absurd (omega (arith, z))
  content_there m (stands r p x) z = by x.gift (omega (arith, z))
    where
      by : (v : Option Owned) → one (is_some v) ≡ 0 → if_so (is_some v) (one (is_mutex m (locked_mutex (sight k) (record { server = r; packed = p; thread = x }) (instr_of (sight k) (record { server = r; packed = p; thread = x }))))) ≤ 0
      by None q = omega arith
      by (Some v) q = absurd (omega (arith, q))
  content_there m _ z = omega arith

  no_mutex : (n i : ℕ) (x : Mutex) → IsPart (mutex_things n i x) b → ⊥
  no_mutex n i x part =
      let m = x.number in
      let home : is_home_of m (at_home n x) ≡ 1 = one_is (same_mutex m m) (mutex_itself m) in
      none_held k e (mutex_n m) (omega (arith, home, part (is_home_of m), e.sound.mutexes_and_tasks.one_content m, all_with (contents (sight k) m) (content_held m) (content_there m) b (none_loose k e)))

  -- CELLS

  no_live : (n a : ℕ) (c : Cell) → ((f : Thing → ℕ) → f (lies n a c) ≤ tot f b) → ⊥
  no_live n a c here = none_held k e (object_n c.object) (omega (arith, here (cells c.object), one_is (same_object c.object c.object) (object_itself c.object)))

  cells_gone : (n : ℕ) (free : List (ℕ × ℕ)) (i : ℕ) (cs : List (Option Cell)) → IsPart (things_at (cell_things n free) i cs) b → no_cell cs ≡ true
  cells_gone n free i [] part = refl
  cells_gone n free i (None ∷ cs) part = cells_gone n free (i + 1) cs (λ f. omega (arith, part f, tot-append f (cell_things n free i None) (things_at (cell_things n free) (i + 1) cs)))
  cells_gone n free i (Some c ∷ cs) part = absurd (no_live n i c (λ f. omega (arith, part f)))

  -- COPIES

  none_uses : (at : ℕ × ℕ) (x : Thing) → loose x ≡ 0 → uses_of at x ≡ 0
  none_uses at (uses r w) z = absurd (omega (arith, z))
  none_uses at _ z = refl

  copies_free : (n i : ℕ) (cs : List Copy) → IsPart (things_at (copy_things n) i cs) b → unused cs ≡ true
  copies_free n i [] part = refl
  copies_free n i (c ∷ cs) part =
      let at : ℕ × ℕ = (n, c.word) in
      let mine : users_of (n, c.word) (copied n c) ≡ c.users = whole (n == n) (c.word == c.word) c.users (same_is n) (same_is c.word) in
      let none : c.users ≡ 0 = omega (arith, mine, part (users_of (n, c.word)), e.sound.users.users_counted (n, c.word), none_with (uses_of (n, c.word)) (none_uses (n, c.word)) b (none_loose k e)) in
      both (c.users == 0) (unused cs) (grind (arith, nat_tests, none)) (copies_free n (i + 1) cs (λ f. omega (arith, part f)))
    where
      whole : (p q : Bool) (u : ℕ) → p ≡ true → q ≡ true → if_so (p && q) u ≡ u
      whole true true u x y = refl
      whole true false u x y = absurd (cc y)
      whole false q u x y = absurd (cc x)

  -- SERVERS

  none_left : {X : Type 0} (g : ℕ → X → List Thing) → ((i : ℕ) (x : X) → IsPart (g i x) b → ⊥) → (i : ℕ) (xs : List X) → IsPart (things_at g i xs) b → is_none_left xs ≡ true
  none_left g gone_one i [] part = refl
  none_left g gone_one i (x ∷ xs) part = absurd (gone_one i x (λ f. omega (arith, part f, tot-append f (g i x) (things_at g (i + 1) xs))))

  all_over_so : (ts : List ThreadState) → all_threads is_over ts ≡ true → all_over ts ≡ true
  all_over_so [] o = refl
  all_over_so (t ∷ ts) o = both (is_over t.phase) (all_over ts) (and_left (is_over t.phase) (all_threads is_over ts) o) (all_over_so ts (and_right (is_over t.phase) (all_threads is_over ts) o))

  none_is : {X : Type 0} (xs : List X) → is_none xs ≡ true → is_none_left xs ≡ true
  none_is [] q = refl
  none_is (x ∷ xs) q = absurd (cc q)

  six : (p q r s t u : Bool) → p ≡ true → q ≡ true → r ≡ true → s ≡ true → t ≡ true → u ≡ true → p && q && r && s && t && u ≡ true
  six p q r s t u a c d f g h =
      both (p && q && r && s && t) u (both (p && q && r && s) t (both (p && q && r) s (both (p && q) r (both p q a c) d) f) g) h

  server_gone : (s : Server) → IsPart (server_things s) b → is_none s.rest.inbox && is_none s.rest.outbox ≡ true → all_threads is_over s.threads ≡ true → is_finished_at s ≡ true
  server_gone s part q o =
      let n = s.rest.number in
      let p = s.rest.partition in
      six (all_over s.threads) (no_cell p.cells) (is_none_left s.rest.inbox) (is_none_left s.rest.outbox) (is_none_left s.rest.mutexes.there) (is_none_left s.rest.tasks)
      (all_over_so s.threads o)
      (cells_gone n p.free 0 p.cells (λ f. omega (arith, part f, server_parts f s, tot-append f (things_at (cell_things n p.free) 0 p.cells) (things_at (free_things n) 0 p.free))))
      (none_is s.rest.inbox (and_left (is_none s.rest.inbox) (is_none s.rest.outbox) q))
      (none_is s.rest.outbox (and_right (is_none s.rest.inbox) (is_none s.rest.outbox) q))
      (none_left (mutex_things n) (no_mutex n) 0 s.rest.mutexes.there (λ f. omega (arith, part f, server_parts f s)))
      (none_left (task_things n) (no_note n) 0 s.rest.tasks (λ f. omega (arith, part f, server_parts f s)))

  server_free : (s : Server) → IsPart (server_things s) b → unused s.rest.cache ≡ true
  server_free s part = copies_free s.rest.number 0 s.rest.cache (λ f. omega (arith, part f, server_parts f s))

  gone : (ss : List Server) → IsPart (servers_things ss) b → no_message ss ≡ true → all_in is_over ss ≡ true → are_finished ss ≡ true
  gone [] part q o = refl
  gone (s ∷ ss) part q o =
      let w : (f : Thing → ℕ) → tot f (servers_things (s ∷ ss)) ≡ tot f (server_things s) + tot f (servers_things ss) = λ f. tot-append f (server_things s) (servers_things ss) in
      both (is_finished_at s) (are_finished ss)
      (server_gone s (λ f. omega (arith, part f, w f)) (and_left (is_none s.rest.inbox && is_none s.rest.outbox) (no_message ss) q) (and_left (all_threads is_over s.threads) (all_in is_over ss) o))
      (gone ss (λ f. omega (arith, part f, w f)) (and_right (is_none s.rest.inbox && is_none s.rest.outbox) (no_message ss) q) (and_right (all_threads is_over s.threads) (all_in is_over ss) o))

  free : (ss : List Server) → IsPart (servers_things ss) b → all_unused ss ≡ true
  free [] part = refl
  free (s ∷ ss) part =
      let w : (f : Thing → ℕ) → tot f (servers_things (s ∷ ss)) ≡ tot f (server_things s) + tot f (servers_things ss) = λ f. tot-append f (server_things s) (servers_things ss) in
      both (unused s.rest.cache) (all_unused ss) (server_free s (λ f. omega (arith, part f, w f))) (free ss (λ f. omega (arith, part f, w f)))

pub finished_is_empty : FinishedIsEmpty
finished_is_empty k sound h = by (no_message k.servers) (all_in is_over k.servers) (all_in is_stopped k.servers) refl refl h
  where
    by : (q o s : Bool) → no_message k.servers ≡ q → all_in is_over k.servers ≡ o → ending_of q o s ≡ Finished → NothingLeft k
    by true true s a c g =
        let e : IsFinished k = record { sound = sound; quiet = a; over = c } in
        record { empty = gone k e k.servers (λ f. omega arith) a c; free = free k e k.servers (λ f. omega arith) }
    by false o s a c g = absurd (cc g)
    by true false true a c g = absurd (cc g)
    by true false false a c g = absurd (cc g)
