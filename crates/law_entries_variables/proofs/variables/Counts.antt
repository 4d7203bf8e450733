-- What a server has started and made so far, and what is named.
use Rattle.std.proofs.Common.{◌≡◌, ℕ, ◌+◌, ◌≤◌, ◌==◌, ◌&&◌, ◌||◌, nat_le, not, Bool, true, false, Some, refl, ap, ◌∙◌, arith}
use Rattle.std.specs.Prelude.{◌%◌, ◌^◌}
use Rattle.std.proofs.lemmas.Bool.Decides.{nat_tests}
use Rattle.law_words_ends.specs.Below.fr_base.declared.name.MutexNo.{MutexNo}
use Rattle.law_words_ends.specs.Below.server_model.Servers.{Server, Cluster, server_at}
use Rattle.law_entries_variables.proofs.Below.coloured_heap.ShownNames.{number_itself}
use Rattle.law_words_ends.specs.Below.coherent_memory.Names.{tot, one, other, some}
use Rattle.law_words_ends.specs.Below.coherent_memory.Things.{Thing, counts, servers_things, things_of}
use Rattle.law_words_ends.specs.Below.coherent_memory.Naming.{threads, named_mutexes, started_at, made_at, zeroth_thread, zeroth_mutex, uncounted_thread, uncounted_mutex}
use Rattle.law_words_ends.specs.Below.coherent_memory.Sight.{sight}
use Rattle.law_words_ends.specs.Below.coherent_memory.Requests.{home_of}
use Rattle.law_words_ends.specs.Below.coherent_memory.OneHeap.{is_given_thread, is_given_mutex}
use Rattle.law_words_ends.specs.Below.coherent_memory.Coherent.{IsSound}
use Rattle.law_words_ends.specs.Below.law_counts_sums.Sums.{Sums, is_server}
use Rattle.law_words_ends.proofs.Below.law_counts_sums.Trades.{tot-append}
use Rattle.law_words_ends.proofs.Below.law_counts_sums.Bags.{counts_of, body_things, rest_things, all_standing, server_same}
use Rattle.law_words_ends.proofs.Below.law_counts_sums.Boxes.{tot_le}
use Rattle.law_words_ends.proofs.Below.law_counts_sums.Events.{others_of, tot-server}
use Rattle.law_words_ends.proofs.Below.law_counts_sums.Sound.{sound_has_sums}

one_first : (a b : Bool) → one (a && b) ≤ one a
one_first true true = omega arith
one_first true false = omega arith
one_first false b = omega arith

module _ (k : Cluster) (sound : IsSound k) (number : ℕ) (s : Server) (here : server_at k.servers number ≡ Some s) where
  abbrev n : ℕ
  n = s.rest.number

  -- what its own counts say alone is said by no others
  own_counts : (w : Thing → ℕ) → ((x : Thing) → w x ≤ is_server n x) → tot w (things_of k) ≡ w (counts_of n s.events s.rest)
  own_counts w less =
      let g : Sums (things_of k) = sound_has_sums k sound in
      let others = servers_things (others_of k.servers number) in
      let standing = all_standing n s.threads in
      let body = body_things n s.rest in
      let mine : one (n == n) ≡ 1 = ap one (number_itself n) in
      omega (
        arith,
        mine,
        g.servers_differ n,
        (tot-server (is_server n) k.servers number s s here).0,
        (tot-server w k.servers number s s here).0,
        server_same s (is_server n),
        server_same s w,
        tot-append (is_server n) standing (rest_things n s.events s.rest),
        tot-append w standing (rest_things n s.events s.rest),
        tot_le w (is_server n) less others,
        tot_le w (is_server n) less standing,
        tot_le w (is_server n) less body,
      )

  start_less : (c : ℕ) (x : Thing) → started_at n c x ≤ is_server n x
  start_less c (counts r next old started made events) = one_first (r == n) (nat_le c started)
  start_less c _ = omega arith

  make_less : (c : ℕ) (x : Thing) → made_at n c x ≤ is_server n x
  make_less c (counts r next old started made events) = one_first (r == n) (nat_le c made)
  make_less c _ = omega arith

  -- how many it has started
  pub started_here : (c : ℕ) → tot (started_at n c) (things_of k) ≡ one (nat_le c s.rest.started)
  started_here c = own_counts (started_at n c) (start_less c) ∙ ap (λ b. one (b && nat_le c s.rest.started)) (number_itself n)

  -- how many mutexes it has made
  pub made_here : (c : ℕ) → tot (made_at n c) (things_of k) ≡ one (nat_le c s.rest.mutexes.made)
  made_here c = own_counts (made_at n c) (make_less c) ∙ ap (λ b. one (b && nat_le c s.rest.mutexes.made)) (number_itself n)

-- ONE MORE

-- what is counted up to a number, and the next one
pub next_counted : (a c : ℕ) → ((a + 1 == c) || (not (c == 0) && some (one (nat_le c a)))) ≡ (not (c == 0) && some (one (nat_le c (a + 1))))
next_counted a c = by (a + 1 == c) (c == 0) (nat_le c a) (nat_le c (a + 1)) refl refl refl refl
  where
    by : (p z q r : Bool) → (a + 1 == c) ≡ p → (c == 0) ≡ z → nat_le c a ≡ q → nat_le c (a + 1) ≡ r → (p || (not z && some (one q))) ≡ (not z && some (one r))
    by true true q r e1 e2 e3 e4 = absurd (grind (arith, nat_tests, e1, e2))
    by true false q true e1 e2 e3 e4 = refl
    by true false q false e1 e2 e3 e4 = absurd (grind (arith, nat_tests, e1, e4))
    by false true q r e1 e2 e3 e4 = refl
    by false false true true e1 e2 e3 e4 = refl
    by false false true false e1 e2 e3 e4 = absurd (grind (arith, nat_tests, e3, e4))
    by false false false true e1 e2 e3 e4 = absurd (grind (arith, nat_tests, e1, e3, e4))
    by false false false false e1 e2 e3 e4 = refl

-- the next one isn't among them
pub below_next : (a : ℕ) → nat_le (a + 1) a ≡ false
below_next a = by (nat_le (a + 1) a) refl
  where
    by : (b : Bool) → nat_le (a + 1) a ≡ b → b ≡ false
    by true e = absurd (grind (arith, nat_tests, e))
    by false e = refl

-- WHO IS NAMED WAS STARTED

-- what is named somewhere was given
pub thread_given : (k : Cluster) → IsSound k → (u : ℕ) → ((f : ℕ → ℕ) → f u ≤ tot (threads f) (things_of k)) → is_given_thread (sight k) u ≡ true
thread_given k sound u held =
    let named : tot (threads (uncounted_thread (sight k))) (things_of k) + tot (named_mutexes (uncounted_mutex (sight k))) (things_of k) ≡ 0 = sound.names.names_counted in
    let zeroth : tot (threads zeroth_thread) (things_of k) + tot (named_mutexes zeroth_mutex) (things_of k) ≡ 0 = sound.names.counts_from_one in
    by (u == 0) (u % 2 ^ 32 == 0) (some (tot (started_at (home_of u) (u % 2 ^ 32)) (things_of k))) (omega (arith, zeroth, held zeroth_thread)) (omega (arith, named, held (uncounted_thread (sight k))))
  where
    by : (a b d : Bool) → one (b && not a) ≡ 0 → other d ≡ 0 → a || (not b && d) ≡ true
    by true b d z e = refl
    by false true d z e = absurd (cc z)
    by false false true z e = refl
    by false false false z e = absurd (cc e)

-- the same of a mutex
pub mutex_given : (k : Cluster) → IsSound k → (m : MutexNo) → ((f : MutexNo → ℕ) → f m ≤ tot (named_mutexes f) (things_of k)) → is_given_mutex (sight k) m ≡ true
mutex_given k sound m held =
    let named : tot (threads (uncounted_thread (sight k))) (things_of k) + tot (named_mutexes (uncounted_mutex (sight k))) (things_of k) ≡ 0 = sound.names.names_counted in
    let zeroth : tot (threads zeroth_thread) (things_of k) + tot (named_mutexes zeroth_mutex) (things_of k) ≡ 0 = sound.names.counts_from_one in
    by (m.count == 0) (some (tot (made_at m.home m.count) (things_of k))) (omega (arith, zeroth, held zeroth_mutex)) (omega (arith, named, held (uncounted_mutex (sight k))))
  where
    by : (b d : Bool) → one b ≡ 0 → other d ≡ 0 → (not b && d) ≡ true
    by true d z e = absurd (cc z)
    by false true z e = refl
    by false false z e = absurd (cc e)
