-- At a server the coloured heap has as many cached words as its cache.
use Rattle.std.proofs.Common.{◌≡◌, ◌≤◌, ℕ, zero, suc, ◌+◌, ◌==◌, ◌&&◌, Bool, true, false, if◌then◌else◌, List, [], ◌∷◌, length, Option, Some, None, refl, sym, ap, subst, ◌∙◌, arith}
use Rattle.std.proofs.lemmas.Bool.Decides.{nat_tests}
use Rattle.std.specs.Prelude.{is_some, map}
use Rattle.law_length_runs.specs.Below.law_counts_things.Below.fr_base.Lists.{tot, one}
use Rattle.law_length_runs.specs.Below.law_counts_things.Below.read_cache.Cache.{Copy}
use Rattle.law_length_runs.specs.Below.law_counts_things.Below.coloured_heap.Lists.{first}
use Rattle.law_length_runs.specs.Below.law_counts_things.Below.coloured_heap.Heap.{Copied, Coloured, is_under, copy_at}
use Rattle.law_length_runs.specs.Below.law_counts_things.Below.coloured_heap.Driven.{cached_at}
use Rattle.law_length_runs.specs.Below.law_counts_things.Below.server_model.Servers.{Server, Cluster, server_at}
use Rattle.law_length_runs.specs.Below.law_counts_things.Below.coherent_memory.Things.{Thing, things_at, copy_things, things_of}
use Rattle.law_length_runs.specs.Below.law_counts_things.Below.coherent_memory.Sight.{sight}
use Rattle.law_length_runs.specs.Below.law_counts_things.Below.coherent_memory.Naming.{same_word, cached_twice}
use Rattle.law_length_runs.specs.Below.law_counts_things.Below.coherent_memory.OneHeap.{or_else, first_shown}
use Rattle.law_length_runs.specs.Below.law_counts_things.Below.coherent_memory.Colours.{StandsColoured, copy_of}
use Rattle.law_length_runs.specs.Below.law_counts_things.Below.coherent_memory.Coherent.{IsSound}
use Rattle.law_length_runs.proofs.Below.law_counts_things.Below.coherent_memory.Names.{left_none, right_none}
use Rattle.law_length_runs.proofs.Below.law_counts_things.Below.coherent_memory.Sums.{server_parts}
use Rattle.law_length_runs.proofs.Below.law_counts_things.Below.law_counts_sums.Askers.{other_none}
use Rattle.law_length_runs.proofs.Below.law_counts_things.Below.law_counts_sums.Events.{tot-server}
use Rattle.law_entries_variables.proofs.deliveries.Shown.{if_some, copy_in, copy_is}
use Rattle.law_length_runs.proofs.worth.Driven.{among}
use Rattle.law_length_runs.proofs.asked.Resting.{within_length}
use Rattle.law_runs_rounds.proofs.rounds.Chosen.{sound_order}

-- WORDS

-- those of a cache, and those cached at a server
abbrev words : List Copy → List ℕ
words cs = map (λ (c : Copy). c.word) cs

abbrev words_at : ℕ → List Copied → List ℕ
words_at n [] = []
words_at n (x ∷ xs) = if x.server == n then x.word ∷ words_at n xs else words_at n xs

words_among : (w : ℕ) (cs : List Copy) → among w (words cs) ≡ tot (same_word w) cs
words_among w [] = refl
words_among w (c ∷ cs) = omega (arith, words_among w cs)

words_long : (cs : List Copy) → length (words cs) ≡ length cs
words_long [] = refl
words_long (c ∷ cs) = omega (arith, words_long cs)

cached_among : (n w : ℕ) (xs : List Copied) → among w (words_at n xs) ≡ tot (λ x. one (is_under n w x)) xs
cached_among n w [] = refl
cached_among n w (x ∷ xs) = by (x.server == n) (cached_among n w xs)
  where
    by : (b : Bool) → among w (words_at n xs) ≡ tot (λ y. one (is_under n w y)) xs → among w (if b then x.word ∷ words_at n xs else words_at n xs) ≡ one (b && (x.word == w)) + tot (λ y. one (is_under n w y)) xs
    by true g = omega (arith, g)
    by false g = omega (arith, g)

cached_long : (n : ℕ) (xs : List Copied) → length (words_at n xs) ≡ tot (λ (x : Copied). one (x.server == n)) xs
cached_long n [] = refl
cached_long n (x ∷ xs) = by (x.server == n) (cached_long n xs)
  where
    by : (b : Bool) → length (words_at n xs) ≡ tot (λ (y : Copied). one (y.server == n)) xs → length (if b then x.word ∷ words_at n xs else words_at n xs) ≡ one b + tot (λ (y : Copied). one (y.server == n)) xs
    by true g = omega (arith, g)
    by false g = omega (arith, g)

-- a word that stands in a cache stands there once
word_once : (all cs : List Copy) (w : ℕ) → tot (cached_twice all) cs ≡ 0 → 1 ≤ tot (same_word w) cs → tot (same_word w) all ≡ 1
word_once all [] w z l = absurd (omega (arith, l))
word_once all (c ∷ cs) w z l = by (c.word == w) refl l (word_once all cs w (right_none (cached_twice all c) (tot (cached_twice all) cs) z))
  where
    by : (b : Bool) → (c.word == w) ≡ b → 1 ≤ one b + tot (same_word w) cs → (1 ≤ tot (same_word w) cs → tot (same_word w) all ≡ 1) → tot (same_word w) all ≡ 1
    by true q k go =
        let same : c.word ≡ w = grind (arith, nat_tests, q) in
        let so : (tot (same_word c.word) all == 1) ≡ true = other_none (tot (same_word c.word) all == 1) (left_none (cached_twice all c) (tot (cached_twice all) cs) z) in
        subst (λ x. tot (same_word x) all ≡ 1) same (grind (arith, nat_tests, so))
    by false q k go = go (omega (arith, k))

-- WHAT IS SHOWN

-- where something shows, the first one is there
first_there : {A : Type 0} (f : Thing → Option A) (xs : List Thing) → 1 ≤ tot (λ x. one (is_some (f x))) xs → is_some (first_shown f xs) ≡ true
first_there f [] l = absurd (omega (arith, l))
first_there f (x ∷ xs) l = by (f x) l (first_there f xs)
  where
    by : (o : Option _) → 1 ≤ one (is_some o) + tot (λ y. one (is_some (f y))) xs → (1 ≤ tot (λ y. one (is_some (f y))) xs → is_some (first_shown f xs) ≡ true) → is_some (or_else o (first_shown f xs)) ≡ true
    by None k go = go (omega (arith, k))
    by (Some a) k go = refl

is_there : {A : Type 0} (test : A → Bool) (xs : List A) → is_some (first test xs) ≡ true → 1 ≤ tot (λ x. one (test x)) xs
is_there test [] e = absurd (cc e)
is_there test (x ∷ xs) e = by (test x) e (is_there test xs)
  where
    by : (b : Bool) → is_some (if b then Some x else first test xs) ≡ true → (is_some (first test xs) ≡ true → 1 ≤ tot (λ y. one (test y)) xs) → 1 ≤ one b + tot (λ y. one (test y)) xs
    by true q go = omega arith
    by false q go = omega (arith, go q)

module _ (n w : ℕ) where
  abbrev shows : Thing → ℕ
  shows x = one (is_some (copy_in n w x))

  -- each copy of that word at that server
  copies_show : (i : ℕ) (cs : List Copy) → tot (same_word w) cs ≤ tot shows (things_at (copy_things n) i cs)
  copies_show i [] = omega arith
  copies_show i (c ∷ cs) = by _ (n == n) (c.word == w) refl (copies_show (i + 1) cs)
    where
      by : (x : Copied) (a b : Bool) → (n == n) ≡ a → tot (same_word w) cs ≤ tot shows (things_at (copy_things n) (i + 1) cs)
          → one b + tot (same_word w) cs ≤ one (is_some (if_some (a && b) x)) + tot shows (things_at (copy_things n) (i + 1) cs)
      by x true true q g = omega (arith, g)
      by x true false q g = omega (arith, g)
      by x false b q g = absurd (grind (arith, nat_tests, q))

  -- it shows in the cluster where it is cached
  pub cached_shows : (k : Cluster) (number : ℕ) (s : Server) → server_at k.servers number ≡ Some s → s.rest.number ≡ n → 1 ≤ tot (same_word w) s.rest.cache → is_some (copy_of (sight k) n w) ≡ true
  cached_shows k number s here e l =
      let part = server_parts shows s in
      let mine : tot (same_word w) s.rest.cache ≤ tot shows (things_at (copy_things s.rest.number) 0 s.rest.cache) = subst (λ m. tot (same_word w) s.rest.cache ≤ tot shows (things_at (copy_things m) 0 s.rest.cache)) (sym e) (copies_show 0 s.rest.cache) in
      ap is_some (copy_is (sight k) n w) ∙ first_there (copy_in n w) (things_of k) (omega (arith, l, mine, part, (tot-server shows k.servers number s s here).0))

pub all_cached : (k : Cluster) → IsSound k → (c : Coloured) → StandsColoured k c → (number : ℕ) (s : Server) → server_at k.servers number ≡ Some s → length s.rest.cache ≤ cached_at c s.rest.number
all_cached k sound c stands number s here =
    let n = s.rest.number in
    let less = within_length (words s.rest.cache) (words_at n c.cached) each in
    omega (arith, less, words_long s.rest.cache, cached_long n c.cached)
  where
    one_word : (w : ℕ) (m : ℕ) → tot (same_word w) s.rest.cache ≡ m → tot (same_word w) s.rest.cache ≤ tot (λ x. one (is_under s.rest.number w x)) c.cached
    one_word w zero e = omega (arith, e)
    one_word w (suc m) e =
        let there : 1 ≤ tot (same_word w) s.rest.cache = omega (arith, e) in
        let once = word_once s.rest.cache s.rest.cache w (sound_order k sound number s here).once there in
        let shown : is_some (copy_at c s.rest.number w) ≡ true = ap is_some (stands.copies s.rest.number w) ∙ cached_shows s.rest.number w k number s here refl there in
        let some = is_there (is_under s.rest.number w) c.cached shown in
        omega (arith, once, some)

    each : (w : ℕ) → among w (words s.rest.cache) ≤ among w (words_at s.rest.number c.cached)
    each w = omega (arith, one_word w (tot (same_word w) s.rest.cache) refl, words_among w s.rest.cache, cached_among s.rest.number w c.cached)
