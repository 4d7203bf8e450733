-- The event that a server is to do next is enabled.
use Rattle.std.proofs.Common.{◌≡◌, ℕ, zero, suc, ◌+◌, ◌-◌, ◌<◌, ◌≤◌, ◌%◌, ◌==◌, ◌&&◌, nat_lt, Bool, true, false, if◌then◌else◌, List, [], ◌∷◌, length, Option, Some, None, refl, subst, arith}
use Rattle.std.specs.Prelude.{slice_get, option_map, is_some}
use Rattle.std.proofs.lemmas.Bool.Decides.{nat_tests}
use Rattle.law_runs_whole.proofs.Below.fr_typing.PlaceLemmas.{eq_cases}
use Rattle.rand_pcg.specs.Lcg.{Lcg}
use Rattle.rand_pcg.specs.Pcg.{pcg32}
use Rattle.law_runs_whole.specs.Below.fr_base.declared.settings.Options.{Options}
use Rattle.law_runs_whole.specs.Below.read_cache.Cache.{Copy, copy_of, users_in, can_evict, oldest_unused}
use Rattle.law_runs_whole.specs.Below.thread_state.View.{ThreadState}
use Rattle.law_runs_whole.specs.Below.server_model.declared.event.What.{What}
use Rattle.law_runs_whole.specs.Below.server_model.declared.event.What.TheVariants.{Step, Deliver, Evict}
use Rattle.law_runs_whole.specs.Below.server_model.Servers.{Server, Cluster, server_at}
use Rattle.law_runs_whole.specs.Below.server_model.Work.{thread_in}
use Rattle.law_runs_whole.specs.Below.server_model.Questions.{due, runnable, runnable_in}
use Rattle.law_runs_whole.specs.Below.server_model.Events.{can_step, has_phase, enabled}
use Rattle.drive_model.specs.Choice.{candidates, candidate, Drawn, drawn_from, due_or_drawn, next}
use Rattle.law_runs_whole.specs.Below.coherent_memory.Names.{tot, one, other}
use Rattle.law_runs_whole.specs.Below.coherent_memory.Sight.{Sight, sight}
use Rattle.law_runs_whole.specs.Below.coherent_memory.Walking.{sum_threads}
use Rattle.law_runs_whole.specs.Below.coherent_memory.Naming.{rising, rising_from, numbers_of, same_word, cached_twice, servers_wrong, pinned_parcel}
use Rattle.law_runs_whole.specs.Below.coherent_memory.Coherent.{IsSound}
use Rattle.law_runs_whole.proofs.Below.coherent_memory.Names.{left_none, right_none}
use Rattle.law_counts_limits.proofs.Below.law_counts_sums.Askers.{other_none}
use Rattle.law_runs_rounds.specs.rounds.Choosing.{IsChosen}
use Rattle.law_runs_rounds.proofs.rounds.Numbered.{AreFrom}

-- COPIES

-- the oldest copy that nobody uses is there
is_there : (cs : List Copy) (w : ℕ) → oldest_unused cs ≡ Some w → 1 ≤ tot (same_word w) cs
is_there [] w e = absurd (cc e)
is_there (c ∷ cs) w e = by (c.users == 0) e (is_there cs w)
  where
    first : (x : ℕ) → x ≡ w → 1 ≤ one (x == w) + tot (same_word w) cs
    first x q = eq_cases (λ b. 1 ≤ one b + tot (same_word w) cs) x w (λ _. omega arith) (λ ne. absurd (ne q))

    by : (b : Bool) → (if b then Some c.word else oldest_unused cs) ≡ Some w → (oldest_unused cs ≡ Some w → 1 ≤ tot (same_word w) cs) → 1 ≤ one (c.word == w) + tot (same_word w) cs
    by true q go = let same : c.word ≡ w = cc in first c.word same
    by false q go = let rest = go q in omega (arith, rest)

-- and once, where each word is
is_once : (all cs : List Copy) (w : ℕ) → tot (cached_twice all) cs ≡ 0 → oldest_unused cs ≡ Some w → tot (same_word w) all ≡ 1
is_once all [] w z e = absurd (cc e)
is_once all (c ∷ cs) w z e = by (c.users == 0) e (is_once all cs w (right_none (cached_twice all c) (tot (cached_twice all) cs) z))
  where
    by : (b : Bool) → (if b then Some c.word else oldest_unused cs) ≡ Some w → (oldest_unused cs ≡ Some w → tot (same_word w) all ≡ 1) → tot (same_word w) all ≡ 1
    by true q go =
        let same : c.word ≡ w = cc in
        let so : (tot (same_word c.word) all == 1) ≡ true = other_none (tot (same_word c.word) all == 1) (left_none (cached_twice all c) (tot (cached_twice all) cs) z) in
        subst (λ x. tot (same_word x) all ≡ 1) same (grind (arith, nat_tests, so))
    by false q go = go q

-- so it can go
unused_there : (cs : List Copy) (w : ℕ) → oldest_unused cs ≡ Some w → tot (same_word w) cs ≡ 1 → can_evict cs w ≡ true
unused_there [] w e z = absurd (cc e)
unused_there (c ∷ cs) w e z = by (c.users == 0) refl e (unused_there cs w)
  where
    first : (n : ℕ) → (n == 0) ≡ true → (x : ℕ) → x ≡ w → (is_some (if x == w then Some c else copy_of cs w) && (users_in (if x == w then Some (record c { users = n }) else copy_of cs w) == 0)) ≡ true
    first n q x same = eq_cases (λ b. (is_some (if b then Some c else copy_of cs w) && (users_in (if b then Some (record c { users = n }) else copy_of cs w) == 0)) ≡ true) x w (λ _. q) (λ ne. absurd (ne same))

    by : (b : Bool) → (c.users == 0) ≡ b → (if b then Some c.word else oldest_unused cs) ≡ Some w → (oldest_unused cs ≡ Some w → tot (same_word w) cs ≡ 1 → can_evict cs w ≡ true) → can_evict (c ∷ cs) w ≡ true
    by true u q go = let same : c.word ≡ w = cc in first c.users u c.word same
    by false u q go =
        let some = is_there cs w q in
        eq_cases (λ b. one b + tot (same_word w) cs ≡ 1 → (is_some (if b then Some c else copy_of cs w) && (users_in (if b then Some c else copy_of cs w) == 0)) ≡ true) c.word w
        (λ same h. absurd (omega (arith, h, some))) (λ ne h. go q (omega (arith, h))) z

oldest_goes : (cs : List Copy) (w : ℕ) → tot (cached_twice cs) cs ≡ 0 → oldest_unused cs ≡ Some w → can_evict cs w ≡ true
oldest_goes cs w z e = unused_there cs w e (is_once cs cs w z e)

-- THREADS

-- one that can step, among threads by rising number
above : (n : ℕ) (ts : List ThreadState) (j t : ℕ) → rising_from n (numbers_of (λ x. x.number) ts) ≡ 0 → slice_get (runnable_in ts) j ≡ Some t → n < t
above n [] j t z e = absurd (cc e)
above n (x ∷ ts) j t z e = by (can_step x.phase) j e (λ i h. above x.number ts i t (right_none (other (nat_lt n x.number)) (rising_from x.number (numbers_of (λ y. y.number) ts)) z) h)
  where
    less : n < x.number
    less = let so = other_none (nat_lt n x.number) (left_none (other (nat_lt n x.number)) (rising_from x.number (numbers_of (λ y. y.number) ts)) z) in grind (arith, nat_tests, so)

    by : (b : Bool) (i : ℕ) → slice_get (if b then x.number ∷ runnable_in ts else runnable_in ts) i ≡ Some t → ((k : ℕ) → slice_get (runnable_in ts) k ≡ Some t → x.number < t) → n < t
    by true zero h go = let same : x.number ≡ t = cc in let l = less in omega (arith, l, same)
    by true (suc i) h go = let more = go i h in let l = less in omega (arith, l, more)
    by false i h go = let more = go i h in let l = less in omega (arith, l, more)

steps_from : (n : ℕ) (ts : List ThreadState) (j t : ℕ) → rising_from n (numbers_of (λ x. x.number) ts) ≡ 0 → slice_get (runnable_in ts) j ≡ Some t → has_phase can_step (thread_in ts t) ≡ true
steps_from n [] j t z e = absurd (cc e)
steps_from n (x ∷ ts) j t z e = by (can_step x.phase) refl j e (λ i h. (above x.number ts i t rest h, steps_from x.number ts i t rest h))
  where
    rest : rising_from x.number (numbers_of (λ y. y.number) ts) ≡ 0
    rest = right_none (other (nat_lt n x.number)) (rising_from x.number (numbers_of (λ y. y.number) ts)) z

    behind : (x.number < t) × (has_phase can_step (thread_in ts t) ≡ true) → has_phase can_step (thread_in (x ∷ ts) t) ≡ true
    behind h = eq_cases (λ b. has_phase can_step (if b then Some x else thread_in ts t) ≡ true) x.number t (λ same. let l = h.0 in absurd (omega (arith, l, same))) (λ ne. h.1)

    by : (b : Bool) → can_step x.phase ≡ b → (i : ℕ) → slice_get (if b then x.number ∷ runnable_in ts else runnable_in ts) i ≡ Some t
        → ((k : ℕ) → slice_get (runnable_in ts) k ≡ Some t → (x.number < t) × (has_phase can_step (thread_in ts t) ≡ true)) → has_phase can_step (thread_in (x ∷ ts) t) ≡ true
    by true q zero h go = let same : x.number ≡ t = cc in eq_cases (λ b. has_phase can_step (if b then Some x else thread_in ts t) ≡ true) x.number t (λ _. q) (λ ne. absurd (ne same))
    by true q (suc i) h go = behind (go i h)
    by false q i h go = behind (go i h)

it_steps : (ts : List ThreadState) (j t : ℕ) → rising (numbers_of (λ x. x.number) ts) ≡ 0 → slice_get (runnable_in ts) j ≡ Some t → has_phase can_step (thread_in ts t) ≡ true
it_steps [] j t z e = absurd (cc e)
it_steps (x ∷ ts) j t z e = by (can_step x.phase) refl j e
  where
    behind : (k : ℕ) → slice_get (runnable_in ts) k ≡ Some t → has_phase can_step (thread_in (x ∷ ts) t) ≡ true
    behind k h =
        let l = above x.number ts k t z h in
        eq_cases (λ b. has_phase can_step (if b then Some x else thread_in ts t) ≡ true) x.number t (λ same. absurd (omega (arith, l, same))) (λ ne. steps_from x.number ts k t z h)

    by : (b : Bool) → can_step x.phase ≡ b → (i : ℕ) → slice_get (if b then x.number ∷ runnable_in ts else runnable_in ts) i ≡ Some t → has_phase can_step (thread_in (x ∷ ts) t) ≡ true
    by true q zero h = let same : x.number ≡ t = cc in eq_cases (λ b. has_phase can_step (if b then Some x else thread_in ts t) ≡ true) x.number t (λ _. q) (λ ne. absurd (ne same))
    by true q (suc i) h = behind i h
    by false q i h = behind i h

-- THE EVENT

-- a cache has a word once, and threads stand by rising number
pub record IsInOrder (s : Server) : Type 0 where
  pub once : tot (cached_twice s.rest.cache) s.rest.cache ≡ 0
  pub rise : rising (numbers_of (λ x. x.number) s.threads) ≡ 0

module _ (o : Options) (s : Server) (order : IsInOrder s) where
  candidate_enabled : (i : ℕ) (w : What) → candidate s i ≡ Some w → enabled o s w ≡ true
  candidate_enabled i w e = by (nat_lt i (length s.rest.inbox)) refl e
    where
      second : (x : Option ℕ) → slice_get (runnable s) (i - length s.rest.inbox) ≡ x → option_map (λ t. Step t) x ≡ Some w → enabled o s w ≡ true
      second None q h = absurd (cc h)
      second (Some t) q h = let same : Step t ≡ w = cc in subst (λ v. enabled o s v ≡ true) same (it_steps s.threads (i - length s.rest.inbox) t order.rise q)

      by : (b : Bool) → nat_lt i (length s.rest.inbox) ≡ b → (if b then Some (Deliver i) else option_map (λ t. Step t) (slice_get (runnable s) (i - length s.rest.inbox))) ≡ Some w → enabled o s w ≡ true
      by true q h = let same : Deliver i ≡ w = cc in subst (λ v. enabled o s v ≡ true) same q
      by false q h = second (slice_get (runnable s) (i - length s.rest.inbox)) refl h

  drawn_enabled : (word : ℕ × Lcg) (n : ℕ) (d : Drawn) → drawn_from s word n ≡ Some d → enabled o s d.what ≡ true
  drawn_enabled word zero d e = absurd (cc e)
  drawn_enabled word (suc n) d e = by (candidate s (word.0 % suc n)) refl e
    where
      by : (x : Option What) → candidate s (word.0 % suc n) ≡ x → option_map (λ w. record { what = w; generator = word.1 }) x ≡ Some d → enabled o s d.what ≡ true
      by None q h = absurd (cc h)
      by (Some w) q h =
          let drawn : Drawn = record { what = w; generator = word.1 } in
          let same : drawn ≡ d = cc in
          subst (λ (v : Drawn). enabled o s v.what ≡ true) same (candidate_enabled (word.0 % suc n) w q)

  due_goes : (w : ℕ) → due o s ≡ Some w → enabled o s (Evict w) ≡ true
  due_goes w e = by (nat_lt o.cache (length s.rest.cache)) e
    where
      by : (b : Bool) → (if b then oldest_unused s.rest.cache else None) ≡ Some w → can_evict s.rest.cache w ≡ true
      by true h = oldest_goes s.rest.cache w order.once h
      by false h = absurd (cc h)

  pub next_enabled : (g : Lcg) (d : Drawn) → next o s g ≡ Some d → enabled o s d.what ≡ true
  next_enabled g d e = by (due o s) refl e
    where
      by : (x : Option ℕ) → due o s ≡ x → due_or_drawn x s g ≡ Some d → enabled o s d.what ≡ true
      by None q h = drawn_enabled (pcg32 g) (candidates s) d h
      by (Some w) q h =
          let drawn : Drawn = record { what = Evict w; generator = g } in
          let same : drawn ≡ d = cc in
          subst (λ (v : Drawn). enabled o s v.what ≡ true) same (due_goes w q)

-- it is one that a driver chooses
module _ (o : Options) (s : Server) where
  candidate_chosen : (i : ℕ) (w : What) → candidate s i ≡ Some w → IsChosen o s w
  candidate_chosen i w e = by (nat_lt i (length s.rest.inbox)) e
    where
      second : (x : Option ℕ) → option_map (λ t. Step t) x ≡ Some w → IsChosen o s w
      second None h = absurd (cc h)
      second (Some t) h = let same : Step t ≡ w = cc in subst (λ v. IsChosen o s v) same tt

      by : (b : Bool) → (if b then Some (Deliver i) else option_map (λ t. Step t) (slice_get (runnable s) (i - length s.rest.inbox))) ≡ Some w → IsChosen o s w
      by true h = let same : Deliver i ≡ w = cc in subst (λ v. IsChosen o s v) same tt
      by false h = second (slice_get (runnable s) (i - length s.rest.inbox)) h

  drawn_chosen : (word : ℕ × Lcg) (n : ℕ) (d : Drawn) → drawn_from s word n ≡ Some d → IsChosen o s d.what
  drawn_chosen word zero d e = absurd (cc e)
  drawn_chosen word (suc n) d e = by (candidate s (word.0 % suc n)) refl e
    where
      by : (x : Option What) → candidate s (word.0 % suc n) ≡ x → option_map (λ w. record { what = w; generator = word.1 }) x ≡ Some d → IsChosen o s d.what
      by None q h = absurd (cc h)
      by (Some w) q h =
          let drawn : Drawn = record { what = w; generator = word.1 } in
          let same : drawn ≡ d = cc in
          subst (λ (v : Drawn). IsChosen o s v.what) same (candidate_chosen (word.0 % suc n) w q)

  due_chosen : (w : ℕ) → due o s ≡ Some w → IsChosen o s (Evict w)
  due_chosen w e = by (nat_lt o.cache (length s.rest.cache)) refl e
    where
      by : (b : Bool) → nat_lt o.cache (length s.rest.cache) ≡ b → (if b then oldest_unused s.rest.cache else None) ≡ Some w → o.cache < length s.rest.cache
      by true q h = grind (arith, nat_tests, q)
      by false q h = absurd (cc h)

  pub next_chosen : (g : Lcg) (d : Drawn) → next o s g ≡ Some d → IsChosen o s d.what
  next_chosen g d e = by (due o s) refl e
    where
      by : (x : Option ℕ) → due o s ≡ x → due_or_drawn x s g ≡ Some d → IsChosen o s d.what
      by None q h = drawn_chosen (pcg32 g) (candidates s) d h
      by (Some w) q h =
          let drawn : Drawn = record { what = Evict w; generator = g } in
          let same : drawn ≡ d = cc in
          subst (λ (v : Drawn). IsChosen o s v.what) same (due_chosen w q)

-- SOUND CLUSTERS

in_order : (q : Sight) (m n : ℕ) (ss : List Server) (s : Server) → servers_wrong q m ss ≡ 0 → server_at ss n ≡ Some s → IsInOrder s
in_order q m n [] s z h = absurd (cc h)
in_order q m n (x ∷ ss) s z h =
    eq_cases (λ b. (if b then Some x else server_at ss n) ≡ Some s → IsInOrder s) x.rest.number n
    (λ e g. let same : x ≡ s = cc in subst IsInOrder same (record { once = omega (arith, z); rise = omega (arith, z) })) (λ ne g. in_order q (m + 1) n ss s (omega (arith, z)) g) h

numbered : (q : Sight) (m : ℕ) (ss : List Server) → servers_wrong q m ss ≡ 0 → AreFrom m ss
numbered q m [] z = tt
numbered q m (x ∷ ss) z =
    let number : x.rest.number ≡ m = (let so = other_none (x.rest.number == m) (omega (arith, z)) in grind (arith, nat_tests, so)) in
    let next_one : m + 1 ≡ suc m = omega arith in
    (number, subst (λ k. AreFrom k ss) next_one (numbered q (m + 1) ss (omega (arith, z))))

module _ (k : Cluster) (sound : IsSound k) where
  run : servers_wrong (sight k) 0 k.servers ≡ 0
  run = left_none (servers_wrong (sight k) 0 k.servers) (sum_threads (sight k) pinned_parcel) sound.parts.parts_are_typed

  pub sound_order : (n : ℕ) (s : Server) → server_at k.servers n ≡ Some s → IsInOrder s
  sound_order n s h = in_order (sight k) 0 n k.servers s run h

  pub sound_numbers : AreFrom 0 k.servers
  sound_numbers = numbered (sight k) 0 k.servers run
