-- The next mutex of a server of a sound cluster: its name wasn't given, nothing names it, and nothing is its content.
use Rattle.std.proofs.Common.{◌≡◌, inl, inr, ℕ, zero, suc, ◌+◌, ◌≤◌, ◌<◌, ◌==◌, ◌&&◌, nat_le, not, Bool, true, false, if◌then◌else◌, List, [], ◌∷◌, ◌++◌, Option, Some, None, is_some, refl, sym, ap, ap₂, ◌∙◌, subst, arith}
use Rattle.std.proofs.lemmas.Bool.Decides.{nat_tests}
use Rattle.std.proofs.lemmas.Bool.{eqb-true}
use Rattle.law_heap_steps.proofs.Below.fr_typing.PlaceLemmas.{eq_cases}
use Rattle.law_heap_steps.specs.Below.fr_base.declared.name.MutexNo.{MutexNo}
use Rattle.law_heap_steps.specs.Below.fr_base.declared.instruction.Instr.{Instr}
use Rattle.law_heap_steps.specs.Below.fr_base.declared.instruction.Instr.TheVariants as instr
use Rattle.law_heap_steps.specs.Below.heap_partition.Plain.{plain_of}
use Rattle.law_heap_steps.specs.Below.heap_partition.declared.value.Owned.{Owned}
use Rattle.law_heap_steps.specs.Below.heap_partition.declared.value.Owned.TheVariants as owned
use Rattle.law_heap_steps.specs.Below.mutex_home.Mutexes.{next_mutex}
use Rattle.law_heap_steps.specs.Below.thread_state.View.{ThreadState}
use Rattle.law_heap_steps.specs.Below.server_model.declared.event.Event.{Event}
use Rattle.law_heap_steps.specs.Below.server_model.Servers.{Server, Cluster, server_at}
use Rattle.law_heap_steps.specs.Below.server_model.Work.{thread_in}
use Rattle.law_heap_steps.specs.Below.coherent_memory.Names.{tot, one, other, some, if_so, same_mutex, Among}
use Rattle.law_heap_steps.specs.Below.coherent_memory.Things.{in_slot, in_temp, as_gift, as_content, as_result, in_hand, Thing, holds, lies, flies, stands, at_home, counts, things_of}
use Rattle.law_heap_steps.specs.Below.coherent_memory.Follow.{Standing, threads_in, thread_at}
use Rattle.law_heap_steps.specs.Below.coherent_memory.Sight.{Sight, sight, with_things}
use Rattle.law_heap_steps.specs.Below.coherent_memory.Walking.{instr_of, sum_threads}
use Rattle.law_heap_steps.specs.Below.coherent_memory.Requests.{locked_mutex, is_mutex}
use Rattle.law_heap_steps.specs.Below.coherent_memory.Sharing.{owned_mutex, contents, gift_content}
use Rattle.law_heap_steps.specs.Below.coherent_memory.Naming.{made_at, threads, uncounted_thread, uncounted_mutex, named_mutexes, servers_wrong, pinned_parcel}
use Rattle.law_heap_steps.specs.Below.coherent_memory.Weights.{is_home_of}
use Rattle.law_heap_steps.specs.Below.coherent_memory.OneHeap.{Node, mutex_n, inside, content_owner, result_owner, gift_owner, gift_owner_of, owner_of, names, owns, if_in, content_value, is_gift_of, share_in, value_is_in, is_given_mutex}
use Rattle.law_heap_steps.specs.Below.coherent_memory.Coherent.{IsSound}
use Rattle.law_heap_steps.proofs.Below.coherent_memory.Names.{same_mutexes}
use Rattle.law_heap_steps.specs.Below.law_counts_sums.Sums.{is_server}
use Rattle.law_heap_steps.proofs.Below.law_counts_sums.KnownSound.{on_standing, sum_standing}
use Rattle.law_heap_steps.proofs.Below.law_counts_sums.Sound.{sound_has_sums}
use Rattle.law_heap_steps.proofs.Below.law_counts_sums.Trades.{tot-append}
use Rattle.law_heap_steps.proofs.Below.law_counts_sums.Bags.{counts_of, had_by}
use Rattle.law_heap_steps.proofs.Below.law_heap_still.events.Counting.{stray, gifted}
use Rattle.law_heap_steps.proofs.Below.law_heap_still.events.Told.{told, ones}
use Rattle.law_heap_still.proofs.Below.law_words_paths.paths.Contained.{among_thread}
use Rattle.law_heap_steps.proofs.turns.Parts.{Own}
use Rattle.law_heap_steps.proofs.turns.Events.{itself_counts}
use Rattle.law_heap_steps.proofs.mutexes.Reach.{NoneUnder}
use Rattle.law_heap_steps.proofs.mutexes.Changed as changed
use Rattle.law_heap_steps.proofs.mutexes.Changed.{same_things, spots_before, unstray}
use Rattle.law_heap_steps.proofs.mutexes.Beside.{giftless, gift_uncounted, tot_of}
use Rattle.law_heap_steps.proofs.mutexes.Places.{itself_named}

-- NUMBERS

numbered : (q : Bool) → other q ≡ 0 → q ≡ true
numbered true z = refl
numbered false z = absurd (cc z)

-- a server's mutexes have its number
home_number : (r : Sight) (n m : ℕ) (ss : List Server) (s : Server) → servers_wrong r n ss ≡ 0 → server_at ss m ≡ Some s → s.rest.mutexes.home ≡ s.rest.number
home_number r n m [] s z h = absurd (cc h)
home_number r n m (x ∷ ss) s z h =
    eq_cases (λ q. (if q then Some x else server_at ss m) ≡ Some s → s.rest.mutexes.home ≡ s.rest.number) x.rest.number m
    (λ e g. let same : x ≡ s = cc in subst (λ (y : Server). y.rest.mutexes.home ≡ y.rest.number) same (eqb-true x.rest.mutexes.home n (numbered (x.rest.mutexes.home == n) (omega (arith, z))) ∙ sym (eqb-true x.rest.number n (numbered (x.rest.number == n) (omega (arith, z))))))
    (λ ne g. home_number r (n + 1) m ss s (omega (arith, z)) g) h

one_first : (a b : Bool) → one (a && b) ≤ one a
one_first true true = omega arith
one_first true false = omega arith
one_first false b = omega arith

counts_its_server : (n c : ℕ) (x : Thing) → made_at n c x ≤ is_server n x
counts_its_server n c (counts r next old started made events) = one_first (r == n) (nat_le c made)
counts_its_server n c _ = omega arith

too_many : (a : Bool) (c m : ℕ) → m < c → one (a && nat_le c m) ≡ 0
too_many false c m l = refl
too_many true c m l = by (nat_le c m) refl
  where
    by : (b : Bool) → nat_le c m ≡ b → one b ≡ 0
    by true e = absurd (grind (arith, nat_tests, e, l))
    by false e = refl

tot_le : (f g : Thing → ℕ) → ((x : Thing) → f x ≤ g x) → (xs : List Thing) → tot f xs ≤ tot g xs
tot_le f g e [] = omega arith
tot_le f g e (x ∷ xs) = omega (arith, e x, tot_le f g e xs)

-- NAMED NOWHERE

module _ (m : MutexNo) (f : MutexNo → ℕ) (weighs : 1 ≤ f m) where
  abbrev is_it : MutexNo → ℕ
  is_it w = one (same_mutex w m)

  less : (w : MutexNo) → is_it w ≤ f w
  less w = by (same_mutex w m) refl
    where
      by : (b : Bool) → same_mutex w m ≡ b → one b ≤ f w
      by true e = let l : 1 ≤ f w = subst (λ v. 1 ≤ f v) (sym (same_mutexes w m e)) weighs in omega (arith, l)
      by false e = omega arith

  owned_less : (v : Owned) → one (owns (mutex_n m) v) ≤ owned_mutex f v
  owned_less (owned.Mutex w) = less w
  owned_less owned.Nothing = omega arith
  owned_less owned.Unit = omega arith
  owned_less (owned.Int i) = omega arith
  owned_less (owned.Box p) = omega arith
  owned_less (owned.Task u) = omega arith

  names_less : (th : Thing) → one (names (mutex_n m) th) ≤ named_mutexes f th
  names_less (holds p v) = owned_less v
  names_less (lies r a c) = owned_less c.value
  names_less (flies w c) = owned_less c.value
  names_less _ = omega arith

  home_less : (th : Thing) → is_home_of m th ≤ named_mutexes f th
  home_less (at_home r x) = less x.number
  home_less _ = omega arith

  share_less : (r : Sight) (th : Thing) → share_in r m th ≤ named_mutexes f th
  share_less r th = let l = names_less th in omega (arith, l, if_less (names (mutex_n m) th) (value_is_in r th))
    where
      if_less : (p q : Bool) → if_so p (one q) ≤ one p
      if_less true true = omega arith
      if_less true false = omega arith
      if_less false q = omega arith

none_among : (f : Standing → ℕ) (z : Standing) (xs : List Standing) → tot f xs ≡ 0 → Among z xs → f z ≡ 0
none_among f z [] e h = absurd h
none_among f z (x ∷ xs) e (inl q) = subst (λ v. f v ≡ 0) q (omega (arith, e))
none_among f z (x ∷ xs) e (inr h) = none_among f z xs (omega (arith, e)) h

-- WHAT IS OWNED BY A MUTEX

module _ (k : Cluster) (sound : IsSound k) (e : Event) (s : Server) (here : server_at k.servers e.server ≡ Some s) (t : ℕ) (x : ThreadState) (at : thread_in s.threads t ≡ Some x) (number : x.number ≡ t) where
  abbrev n1 : ℕ
  n1 = s.rest.number

  abbrev Others : List Thing
  Others = changed.R k sound e s here t x at number

  abbrev G1 : List Thing
  G1 = changed.G k sound e s here t x at number

  abbrev a1 : List Thing
  a1 = changed.a k sound e s here t x at number

  -- what the others weigh, and what the thread has
  pub rest_and_own : (f : Thing → ℕ) → tot f Others + tot f (had_by n1 (giftless x)) ≤ tot f (things_of k)
  rest_and_own f =
      let whole : tot f a1 ≡ f (stands n1 false x) + tot f ((G1 ++ had_by n1 (giftless x)) ++ Others) = refl in
      omega (arith, whole, same_things k sound e s here t x at number f, tot-append f (G1 ++ had_by n1 (giftless x)) Others, tot-append f G1 (had_by n1 (giftless x)))

  pub rest_less : (f : Thing → ℕ) → tot f Others ≤ tot f (things_of k)
  rest_less f = omega (arith, rest_and_own f)

  -- where no thread has its content as a gift and nothing among the others is its content
  module _ (m : MutexNo) (free : tot (on_standing (gift_content (sight k) m)) (things_of k) ≡ 0) (rest : tot (contents (sight k) m) Others ≡ 0) where
    ungranted : (z : Standing) → Among z (threads_in (things_of k)) → gift_content (sight k) m z ≡ 0
    ungranted z h = none_among (gift_content (sight k) m) z (threads_in (things_of k)) (omega (arith, free, sum_standing (gift_content (sight k) m) (things_of k))) h

    -- no gift is its content
    gift_off : (u : ℕ) → stray (sight k) (holds (as_gift u) owned.Unit) ≡ 0 → gift_owner_of (sight k) (thread_at (threads_in (things_of k)) u) ≡ inside (mutex_n m) → ⊥
    gift_off u unstray e = by (thread_at (threads_in (things_of k)) u) refl unstray e
      where
        of_lock : (z : Standing) (o : Option MutexNo) → content_owner o ≡ inside (mutex_n m) → o ≡ Some m
        of_lock z None e = absurd (cc e)
        of_lock z (Some w) e = let same : w ≡ m = cc in ap (λ v. Some v) same

        granted : (z : Standing) → is_some z.thread.gift ≡ true → locked_mutex (sight k) z (instr_of (sight k) z) ≡ Some m → gift_content (sight k) m z ≡ 1
        granted z g l = ap₂ (λ b o. if_so b (one (is_mutex m o))) g l ∙ ap (λ b. if_so true (one b)) (itself_named m)

        found : (z : Standing) → Among z (threads_in (things_of k)) → is_some z.thread.gift ≡ true → (i : Option Instr) → instr_of (sight k) z ≡ i → gift_owner (sight k) z i ≡ inside (mutex_n m) → ⊥
        found z h g (Some (instr.Lock w)) q f =
            let l : locked_mutex (sight k) z (instr_of (sight k) z) ≡ Some m = ap (locked_mutex (sight k) z) q ∙ of_lock z (locked_mutex (sight k) z (Some (instr.Lock w))) f in
            absurd (omega (arith, ungranted z h, granted z g l))
        found z h g (Some (instr.Join o)) q f = result_off _ f
          where
            result_off : (r : Option ℕ) → result_owner r ≡ inside (mutex_n m) → ⊥
            result_off None d = cc d
            result_off (Some v) d = cc d
        found z h g _ q f = cc f

        by : (o : Option Standing) → thread_at (threads_in (things_of k)) u ≡ o → other (gifted o) ≡ 0 → gift_owner_of (sight k) o ≡ inside (mutex_n m) → ⊥
        by None q z f = cc f
        by (Some z) q g f = found z (among_thread (threads_in (things_of k)) u z q).0 (numbered (is_some z.thread.gift) g) (instr_of (sight k) z) refl f

    pub off_all : (extra : Node → Bool) → ((q : Node) → extra q ≡ true → q ≡ mutex_n m) → NoneUnder (with_things k a1) extra Others
    off_all extra only = go Others rest (omega (arith, unstray k sound e s here t x at number, rest_less (stray (sight k))))
      where
        off : (th : Thing) → contents (sight k) m th ≡ 0 → stray (sight k) th ≡ 0 → owner_of (with_things k a1) th ≡ inside (mutex_n m) → ⊥
        off (holds (as_content w) v) c g i = let same : w ≡ m = cc in absurd (omega (arith, c, ap one (ap (λ u. same_mutex u m) same ∙ itself_named m)))
        off (holds (as_gift u) v) c g i = gift_off u g (spots_before k sound e s here t x at number (as_gift u) ∙ i)
        off (holds (as_result u) v) c g e = cc e
        off (holds (in_slot u i) v) c g e = cc e
        off (holds (in_temp u i) v) c g e = cc e
        off (holds in_hand v) c g e = cc e
        off (lies r i d) c g e = cc e
        off (flies w d) c g e = cc e
        off _ c g e = cc e

        go : (xs : List Thing) → tot (contents (sight k) m) xs ≡ 0 → tot (stray (sight k)) xs ≡ 0 → NoneUnder (with_things k a1) extra xs
        go [] c g = tt
        go (th ∷ xs) c g = ((λ q z f. off th (omega (arith, c)) (omega (arith, g)) (f ∙ ap inside (only q z))), go xs (omega (arith, c)) (omega (arith, g)))

module _ (k : Cluster) (sound : IsSound k) (e : Event) (s : Server) (here : server_at k.servers e.server ≡ Some s) (t : ℕ) (x : ThreadState) (at : thread_in s.threads t ≡ Some x) (number : x.number ≡ t) where
  abbrev pub m : MutexNo
  m = next_mutex s.rest.mutexes

  abbrev n : ℕ
  n = s.rest.number

  abbrev R : List Thing
  R = changed.R k sound e s here t x at number

  abbrev G : List Thing
  G = changed.G k sound e s here t x at number

  abbrev a : List Thing
  a = changed.a k sound e s here t x at number

  abbrev s1 : Sight
  s1 = with_things k a

  pub home : m.home ≡ n
  home =
      let parts : servers_wrong (sight k) 0 k.servers + sum_threads (sight k) pinned_parcel ≡ 0 = sound.parts.parts_are_typed in
      home_number (sight k) 0 e.server k.servers s (omega (arith, parts)) here

  -- no server has counted it
  unmade_here : tot (made_at n m.count) (things_of k) ≡ 0
  unmade_here =
      let flat : Own (λ v. made_at n m.count v ≡ 0) = record { slots = λ u i v. refl; temps = λ u i v. refl; shared = λ l r. refl; lent = λ l r. refl; marks = λ l r. refl; used = λ u w. refl } in
      let unseen : Own (λ v. is_server n v ≡ 0) = record { slots = λ u i v. refl; temps = λ u i v. refl; shared = λ l r. refl; lent = λ l r. refl; marks = λ l r. refl; used = λ u w. refl } in
      let few : tot (is_server n) (things_of k) ≤ 1 = (sound_has_sums k sound).servers_differ n in
      omega (
        arith,
        few,
        same_things k sound e s here t x at number (is_server n),
        same_things k sound e s here t x at number (made_at n m.count),
        tot_of n x G R (is_server n) unseen,
        tot_of n x G R (made_at n m.count) flat,
        gift_uncounted (is_server n) x.number (counts_of n s.events s.rest) (λ v. refl) x.gift,
        gift_uncounted (made_at n m.count) x.number (counts_of n s.events s.rest) (λ v. refl) x.gift,
        itself_counts n,
        too_many (n == n) m.count s.rest.mutexes.made (omega arith),
        tot_le (made_at n m.count) (is_server n) (counts_its_server n m.count) R,
      )

  pub unmade : tot (made_at m.home m.count) (things_of k) ≡ 0
  unmade = subst (λ h. tot (made_at h m.count) (things_of k) ≡ 0) (sym home) unmade_here

  weighs : 1 ≤ uncounted_mutex (sight k) m
  weighs = let w : uncounted_mutex (sight k) m ≡ 1 = ap (λ c. other (some c)) unmade in omega (arith, w)

  unnamed : tot (named_mutexes (uncounted_mutex (sight k))) (things_of k) ≡ 0
  unnamed =
      let b : tot (threads (uncounted_thread (sight k))) (things_of k) + tot (named_mutexes (uncounted_mutex (sight k))) (things_of k) ≡ 0 = sound.names.names_counted in
      omega (arith, b)

  pub not_given : is_given_mutex s1 m ≡ false
  not_given = ap (λ c. not (m.count == 0) && some c) (sym (same_things k sound e s here t x at number (made_at m.home m.count)) ∙ unmade) ∙ by (not (m.count == 0))
    where
      by : (b : Bool) → b && false ≡ false
      by true = refl
      by false = refl

  pub no_shares : tot (share_in s1 m) a ≡ 0
  no_shares =
      let l = tot_le (share_in s1 m) (named_mutexes (uncounted_mutex (sight k))) (share_less m (uncounted_mutex (sight k)) weighs s1) a in
      omega (arith, l, unnamed, same_things k sound e s here t x at number (named_mutexes (uncounted_mutex (sight k))))

  no_contents : tot (contents (sight k) m) (things_of k) ≡ 0
  no_contents =
      let homes = tot_le (is_home_of m) (named_mutexes (uncounted_mutex (sight k))) (home_less m (uncounted_mutex (sight k)) weighs) (things_of k) in
      let agree : tot (contents (sight k) m) (things_of k) ≡ tot (is_home_of m) (things_of k) = sound.mutexes_and_tasks.one_content m in
      omega (arith, homes, unnamed, agree)

  standing_less : (th : Thing) → on_standing (gift_content (sight k) m) th ≤ contents (sight k) m th
  standing_less (stands r p y) = omega arith
  standing_less _ = omega arith

  -- nothing among the others is owned by it
  pub none_under : (extra : Node → Bool) → ((q : Node) → extra q ≡ true → q ≡ mutex_n m) → NoneUnder s1 extra R
  none_under extra only =
      let l = tot_le (on_standing (gift_content (sight k) m)) (contents (sight k) m) standing_less (things_of k) in
      off_all k sound e s here t x at number m (omega (arith, l, no_contents)) (omega (arith, no_contents, rest_less k sound e s here t x at number (contents (sight k) m))) extra only

-- where nothing is owned by it, nothing shows its content
module _ (r : Sight) (m : MutexNo) where
  mutex_is : (o : Option MutexNo) → is_mutex m o ≡ true → o ≡ Some m
  mutex_is None e = absurd (cc e)
  mutex_is (Some w) e = ap (λ v. Some v) (sym (same_mutexes m w e))

  lock_owner : (z : Standing) (i : Option Instr) → locked_mutex r z i ≡ Some m → gift_owner r z i ≡ inside (mutex_n m)
  lock_owner z (Some (instr.Lock w)) f = ap content_owner f
  lock_owner z _ f = absurd (cc f)

  granted_owner : (o : Option Standing) → is_gift_of r m o ≡ true → gift_owner_of r o ≡ inside (mutex_n m)
  granted_owner None e = absurd (cc e)
  granted_owner (Some z) e = lock_owner z (instr_of r z) (content (is_some z.thread.gift) (locked_mutex r z (instr_of r z)) e)
    where
      content : (b : Bool) (c : Option MutexNo) → some (if_so b (one (is_mutex m c))) ≡ true → c ≡ Some m
      content false c f = absurd (cc f)
      content true c f = of (is_mutex m c) refl f
        where
          of : (d : Bool) → is_mutex m c ≡ d → some (one d) ≡ true → c ≡ Some m
          of true q g = mutex_is c q
          of false q g = absurd (cc g)

  -- who is owned as its content shows as its content, and the other way round
  content_owned : (th : Thing) → 1 ≤ told ones (content_value r m th) → owner_of r th ≡ inside (mutex_n m)
  content_owned (holds (as_content w) v) l = by (same_mutex w m) refl l
    where
      by : (b : Bool) → same_mutex w m ≡ b → 1 ≤ told ones (if_in b (Some (plain_of v))) → inside (mutex_n w) ≡ inside (mutex_n m)
      by true q d = ap (λ u. inside (mutex_n u)) (same_mutexes w m q)
      by false q d = absurd (omega (arith, d))
  content_owned (holds (as_gift u) v) l = by (is_gift_of r m (thread_at r.ground.threads u)) refl l
    where
      by : (b : Bool) → is_gift_of r m (thread_at r.ground.threads u) ≡ b → 1 ≤ told ones (if_in b (Some (plain_of v))) → gift_owner_of r (thread_at r.ground.threads u) ≡ inside (mutex_n m)
      by true q d = granted_owner (thread_at r.ground.threads u) q
      by false q d = absurd (omega (arith, d))
  content_owned (holds (as_result u) v) l = absurd (omega (arith, l))
  content_owned (holds (in_slot u i) v) l = absurd (omega (arith, l))
  content_owned (holds (in_temp u i) v) l = absurd (omega (arith, l))
  content_owned (holds in_hand v) l = absurd (omega (arith, l))
  content_owned _ l = absurd (omega (arith, l))

  pub none_told : (extra : Node → Bool) → extra (mutex_n m) ≡ true → (xs : List Thing) → NoneUnder r extra xs → tot (λ v. told ones (content_value r m v)) xs ≡ 0
  none_told extra e [] h = refl
  none_told extra e (th ∷ xs) h = omega (arith, by (told ones (content_value r m th)) refl, none_told extra e xs h.1)
    where
      by : (c : ℕ) → told ones (content_value r m th) ≡ c → told ones (content_value r m th) ≡ 0
      by zero q = q
      by (suc c) q = absurd (h.0 (mutex_n m) e (content_owned th (omega (arith, q))))
