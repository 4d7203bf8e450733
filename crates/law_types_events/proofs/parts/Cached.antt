-- A cache has each word once.
use Rattle.std.proofs.Common.{◌≡◌, ◌≤◌, ℕ, zero, suc, ◌+◌, ◌-◌, ◌==◌, Bool, true, false, if◌then◌else◌, List, [], ◌∷◌, ◌++◌, Some, None, refl, sym, ap, subst, ◌∙◌, arith}
use Rattle.std.proofs.lemmas.Bool.{eq-eqb}
use Rattle.std.proofs.lemmas.Bool.Decides.{nat_tests}
use Rattle.law_counts_limits.proofs.Below.fr_typing.PlaceLemmas.{eq_cases}
use Rattle.law_counts_limits.specs.Below.heap_partition.declared.value.Cell.{Cell}
use Rattle.law_counts_limits.specs.Below.read_cache.Cache.{Copy, users, with_users, fill, can_unpin, unpin, without_copy, can_evict, evict}
use Rattle.law_counts_limits.specs.Below.migration.Packing.{unpin_all}
use Rattle.law_counts_limits.specs.Below.coherent_memory.Names.{tot, one, other}
use Rattle.law_counts_limits.specs.Below.coherent_memory.Naming.{same_word, cached_twice}
use Rattle.law_counts_limits.proofs.Below.coherent_memory.Sums.{tot-append}

abbrev pub Once : List Copy → Type 0
Once cs = (v : ℕ) → tot (same_word v) cs ≤ 1

-- WORDS STAY

-- other users leave the words
same_words : (cs : List Copy) (w n v : ℕ) → tot (same_word v) (with_users cs w n) ≡ tot (same_word v) cs
same_words [] w n v = refl
same_words (c ∷ cs) w n v = by (c.word == w) (same_words cs w n v)
  where
    by : (b : Bool) → tot (same_word v) (with_users cs w n) ≡ tot (same_word v) cs → tot (same_word v) (if b then record c { users = n } ∷ cs else c ∷ with_users cs w n) ≡ tot (same_word v) (c ∷ cs)
    by true e = refl
    by false e = omega (arith, e)

-- each word stays once where users change
pub once_users : (cs : List Copy) (w n : ℕ) → Once cs → Once (with_users cs w n)
once_users cs w n a v = omega (arith, same_words cs w n v, a v)

pub once_unpinned : (ws : List ℕ) (cs ds : List Copy) → unpin_all ws cs ≡ Some ds → Once cs → Once ds
once_unpinned [] cs ds e a = let same : cs ≡ ds = cc in subst Once same a
once_unpinned (v ∷ ws) cs ds e a = by (can_unpin cs v) (λ d. once_unpinned ws (unpin cs v) ds d (once_users cs v (users cs v - 1) a)) e
  where
    by : (b : Bool) → (unpin_all ws (unpin cs v) ≡ Some ds → Once ds) → (if b then unpin_all ws (unpin cs v) else None) ≡ Some ds → Once ds
    by true go d = go d
    by false go d = absurd (cc d)

-- A WORD MORE

-- a new copy adds no other word
other_fill : (cs : List Copy) (w v : ℕ) (c : Cell) → (w == v) ≡ false → tot (same_word v) (fill cs w c) ≡ tot (same_word v) cs
other_fill [] w v c e = omega (arith, ap one e)
other_fill (x ∷ cs) w v c e = by (x.word == w) (other_fill cs w v c e)
  where
    by : (b : Bool) → tot (same_word v) (fill cs w c) ≡ tot (same_word v) cs → tot (same_word v) (if b then x ∷ cs else x ∷ fill cs w c) ≡ tot (same_word v) (x ∷ cs)
    by true h = refl
    by false h = omega (arith, h)

one_most : (b : Bool) → one b ≤ 1
one_most true = omega arith
one_most false = omega arith

-- and its own only where that is missing
fill_once : (cs : List Copy) (w v : ℕ) (c : Cell) → tot (same_word v) cs ≤ 1 → tot (same_word v) (fill cs w c) ≤ 1
fill_once [] w v c a = omega (arith, one_most (w == v))
fill_once (x ∷ cs) w v c a = by (λ z. fill_once cs w v c z) (x.word == w) refl
  where
    later : (tot (same_word v) cs ≤ 1 → tot (same_word v) (fill cs w c) ≤ 1) → (x.word == w) ≡ false → (b : Bool) → (x.word == v) ≡ b → one (x.word == v) + tot (same_word v) (fill cs w c) ≤ 1
    later go ne true e =
        let here : x.word ≡ v = grind (arith, nat_tests, e) in
        let apart : (w == v) ≡ false = eq_cases (λ b. b ≡ false) w v (λ h. let wrong : (x.word == w) ≡ true = eq-eqb x.word w (here ∙ sym h) in absurd (cc)) (λ n. refl) in
        omega (arith, a, ap one e, other_fill cs w v c apart)
    later go ne false e = omega (arith, ap one e, go (omega (arith, a)))

    by : (tot (same_word v) cs ≤ 1 → tot (same_word v) (fill cs w c) ≤ 1) → (b : Bool) → (x.word == w) ≡ b → tot (same_word v) (if b then x ∷ cs else x ∷ fill cs w c) ≤ 1
    by go true e = a
    by go false e = later go e (x.word == v) refl

pub once_filled : (cs : List Copy) (w : ℕ) (c : Cell) → Once cs → Once (fill cs w c)
once_filled cs w c a v = fill_once cs w v c (a v)

-- A COPY LESS

-- a copy less adds no word
without_less : (cs : List Copy) (w v : ℕ) → tot (same_word v) (without_copy cs w) ≤ tot (same_word v) cs
without_less [] w v = omega arith
without_less (c ∷ cs) w v = by (c.word == w) (without_less cs w v)
  where
    by : (b : Bool) → tot (same_word v) (without_copy cs w) ≤ tot (same_word v) cs → tot (same_word v) (if b then cs else c ∷ without_copy cs w) ≤ tot (same_word v) (c ∷ cs)
    by true l = omega arith
    by false l = omega (arith, l)

pub once_evicted : (cs : List Copy) (w : ℕ) → Once cs → Once (evict cs w)
once_evicted cs w a v = by (can_evict cs w)
  where
    by : (b : Bool) → tot (same_word v) (if b then without_copy cs w else cs) ≤ 1
    by true = omega (arith, without_less cs w v, a v)
    by false = a v

-- THE SENTENCE

self_word : (n : ℕ) → one (n == n) ≡ 1
self_word n = ap one (eq-eqb n n refl)

-- from the sentence: a word that some copy of the list has is there once
pub once_from : (cs : List Copy) → tot (cached_twice cs) cs ≡ 0 → Once cs
once_from cs z v = few (tot (same_word v) cs) (λ l. found cs z l)
  where
    found : (xs : List Copy) → tot (cached_twice cs) xs ≡ 0 → 1 ≤ tot (same_word v) xs → tot (same_word v) cs ≤ 1
    found [] z l = absurd (omega (arith, l))
    found (x ∷ xs) z l =
        eq_cases (λ b. 1 ≤ one b + tot (same_word v) xs → tot (same_word v) cs ≤ 1) x.word v
        (λ e h.
        let mine : other (tot (same_word x.word) cs == 1) ≡ 0 = omega (arith, z) in
        let once : tot (same_word x.word) cs ≡ 1 = is_one (tot (same_word x.word) cs) mine in
        let same : tot (same_word v) cs ≡ 1 = subst (λ w. tot (same_word w) cs ≡ 1) e once in
        omega (arith, same))
        (λ ne h. found xs (omega (arith, z)) (omega (arith, h))) l
      where
        is_one : (n : ℕ) → other (n == 1) ≡ 0 → n ≡ 1
        is_one n z = by (n == 1) refl z
          where
            by : (b : Bool) → (n == 1) ≡ b → other b ≡ 0 → n ≡ 1
            by true e z = grind (arith, nat_tests, e)
            by false e z = absurd (cc z)

    few : (n : ℕ) → (1 ≤ n → n ≤ 1) → n ≤ 1
    few zero h = omega arith
    few (suc n) h = h (omega arith)

-- and to it
pub once_to : (cs : List Copy) → Once cs → tot (cached_twice cs) cs ≡ 0
once_to cs a = all [] cs refl
  where
    all : (front xs : List Copy) → cs ≡ front ++ xs → tot (cached_twice cs) xs ≡ 0
    all front [] e = refl
    all front (x ∷ xs) e =
        let there : tot (same_word x.word) cs ≡ tot (same_word x.word) (front ++ x ∷ xs) = ap (tot (same_word x.word)) e in
        let once : tot (same_word x.word) cs ≡ 1 = omega (arith, there, tot-append (same_word x.word) front (x ∷ xs), self_word x.word, a x.word) in
        let mine : other (tot (same_word x.word) cs == 1) ≡ 0 = ap other (eq-eqb (tot (same_word x.word) cs) 1 once) in
        omega (arith, mine, all (front ++ x ∷ []) xs (e ∙ split front x xs))
      where
        split : (front : List Copy) (x : Copy) (xs : List Copy) → front ++ x ∷ xs ≡ (front ++ x ∷ []) ++ xs
        split [] x xs = refl
        split (y ∷ front) x xs = ap (λ l. y ∷ l) (split front x xs)
