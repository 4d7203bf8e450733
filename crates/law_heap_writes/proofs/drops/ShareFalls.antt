-- A value of a mutex in hand: where another one is in the state the mutex has one share less, else the mutex goes and its content comes to the hand.
use Rattle.std.proofs.Common.{◌≡◌, ◌≢◌, ◌⊎◌, inl, inr, ℕ, zero, suc, ◌+◌, ◌<◌, ◌≤◌, ◌||◌, Bool, true, false, List, [], ◌∷◌, Option, Some, None, option_map, refl, sym, ap, ap₂, ◌∙◌, arith}
use Rattle.std.specs.Prelude.{nat_le}
use Rattle.std.proofs.lemmas.Bool.Decides.{nat_tests}
use Rattle.law_words_writes.specs.Below.law_results_reads.Below.fr_base.declared.name.MutexNo.{MutexNo}
use Rattle.law_words_writes.specs.Below.law_results_reads.Below.fr_base.declared.label.Plain.{Plain}
use Rattle.law_words_writes.specs.Below.law_results_reads.Below.fr_plain.MachineThreads.{mutex_there, with_mutex}
use Rattle.law_words_writes.specs.Below.law_results_reads.Below.fr_code.Machine.{CodeWhole}
use Rattle.law_words_writes.specs.Below.law_results_reads.Below.heap_partition.Plain.{plain_of}
use Rattle.law_words_writes.specs.Below.law_results_reads.Below.heap_partition.declared.value.Owned.{Owned}
use Rattle.law_words_writes.specs.Below.law_results_reads.Below.heap_partition.declared.value.Owned.TheVariants as owned
use Rattle.law_words_writes.specs.Below.law_results_reads.Below.thread_state.View.{ThreadState}
use Rattle.law_words_writes.specs.Below.law_results_reads.Below.server_model.Servers.{Cluster}
use Rattle.law_words_writes.specs.Below.law_results_reads.Below.coherent_memory.Names.{tot, one, if_so}
use Rattle.law_words_writes.specs.Below.law_results_reads.Below.coherent_memory.Things.{Thing}
use Rattle.law_words_writes.specs.Below.law_results_reads.Below.coherent_memory.Sight.{Sight}
use Rattle.law_words_writes.specs.Below.law_results_reads.Below.coherent_memory.OneHeap.{Node, object_n, mutex_n, task_n, owner_of, owns, names, owner_in, named_in, any_named, is_in_state, first_shown, content_value, share_in, if_there, state_of}
use Rattle.law_heap_steps.proofs.Below.law_plain_values.acts.Mutexes.{mutex_cases, given_set}
use Rattle.law_heap_steps.proofs.Below.law_heap_still.events.Rounds.{any_more}
use Rattle.law_heap_steps.proofs.mutexes.Reach.{or_cases, or_left, or_right}
use Rattle.law_heap_steps.proofs.mutexes.OneMutex.{shared_as}
use Rattle.law_heap_steps.proofs.mutexes.PlainMutex.{set_shows}
use Rattle.law_heap_steps.proofs.mutexes.ShareGoes.{has_share}
use Rattle.law_heap_writes.proofs.drops.Under.{under, under_names}
use Rattle.law_heap_writes.proofs.drops.InHand as held
use Rattle.law_heap_writes.proofs.drops.InHand.{named_there, named_whence}
use Rattle.law_heap_writes.proofs.drops.HandState as shows
use Rattle.law_heap_writes.proofs.drops.Carrying as carrying
use Rattle.law_heap_writes.proofs.drops.Carrying.{Others, Shows, Carries}

pub mutex_only : (m : MutexNo) (q : Node) → owns q (owned.Mutex m) ≡ true → q ≡ mutex_n m
mutex_only m (mutex_n x) = mutex_cases (λ c. c ≡ true → mutex_n x ≡ mutex_n m) m x (λ e _. ap (λ z. mutex_n z) (sym e)) (λ _ f. absurd (cc f))
mutex_only m (object_n o) = λ f. absurd (cc f)
mutex_only m (task_n u) = λ f. absurd (cc f)

-- where nobody in the state names the mutex, none of these is a share of it
none_shares : (s : Sight) (m : MutexNo) (xs : List Thing) → any_named s (is_in_state s) (mutex_n m) xs ≡ false → tot (share_in s m) xs ≡ 0
none_shares s m [] e = refl
none_shares s m (th ∷ xs) e = by (names (mutex_n m) th) (owner_in (is_in_state s) (owner_of s th)) refl e (none_shares s m xs)
  where
    by : (b c : Bool) → owner_in (is_in_state s) (owner_of s th) ≡ c → named_in b (is_in_state s) (owner_of s th) || any_named s (is_in_state s) (mutex_n m) xs ≡ false
        → (any_named s (is_in_state s) (mutex_n m) xs ≡ false → tot (share_in s m) xs ≡ 0) → if_so b (one c) + tot (share_in s m) xs ≡ 0
    by false c f e go = omega (arith, go e)
    by true true f e go = absurd (cc (sym (ap (λ b. b || any_named s (is_in_state s) (mutex_n m) xs) f) ∙ e))
    by true false f e go = omega (arith, go (sym (ap (λ b. b || any_named s (is_in_state s) (mutex_n m) xs) f) ∙ e))

less_one : (i : ℕ) → 1 ≤ i → (j : ℕ) × (i ≡ suc j)
less_one zero l = absurd (omega (arith, l))
less_one (suc j) l = (j, refl)

module _ (k : Cluster) (n : ℕ) (y : ThreadState) (B : List Thing) (others : Others k n y B) (w : CodeWhole) (m : MutexNo) (carried : Carries k n y B w (owned.Mutex m)) where
  abbrev v : Owned
  v = owned.Mutex m

  abbrev p : Node
  p = mutex_n m

  abbrev s : Sight
  s = held.sight_with k n y B (Some v)

  abbrev s0 : Sight
  s0 = held.sight_with k n y B None

  abbrev In : Option Owned → Node → Bool
  In c = held.In k n y B c

  mine : owns p v ≡ true
  mine = mutex_cases (λ c. c ≡ true) m m (λ _. refl) (λ ne. absurd (ne refl))

  in_it : In (Some v) p ≡ true
  in_it = held.hand_in k n y B (Some v) p (omega (arith, ap one mine))

  -- its content is what stands under it
  abbrev pub content : Option Plain
  content = option_map plain_of (under s0 p B)

  abbrev pub shares : ℕ
  shares = tot (share_in s m) (held.things_with k n y B (Some v))

  content_is : (c : Option Owned) → first_shown (content_value (held.sight_with k n y B c) m) (held.things_with k n y B c) ≡ content
  content_is c = shows.contents_same k n y B c None m ∙ carrying.first_is k n y B others p

  pub there : mutex_there w.mutexes m ≡ shared_as content shares
  there =
      carried.same.mutexes m ∙ ap (λ b. if_there b (record { content = first_shown (content_value s m) (held.things_with k n y B (Some v)); shares = shares })) in_it ∙ ap (λ z. shared_as z shares) (content_is (Some v))

  others_off : (x : MutexNo) → x ≢ m → owns (mutex_n x) v ≡ false
  others_off x ne = mutex_cases (λ b. b ≡ false) m x (λ e. absurd (ne (sym e))) (λ _. refl)

  -- WHERE ANOTHER VALUE OF IT IS IN THE STATE

  module _ (stays : In None p ≡ true) where
    already : (q : Node) → owns q v ≡ true → In None q ≡ true
    already q e = ap (In None) (mutex_only m q e) ∙ stays

    same_in : (q : Node) → In (Some v) q ≡ In None q
    same_in = held.stays_in k n y B v already

    abbrev left : ℕ
    left = tot (share_in s0 m) (held.things_with k n y B None)

    one_less : shares ≡ left + 1
    one_less = let l = shows.share_less k n y B m v already in omega (arith, l, ap one mine)

    pub some_left : (j : ℕ) × (left ≡ suc j)
    some_left = less_one left (has_share s0 m stays)

    pub many : shares ≡ suc (suc some_left.0)
    many = omega (arith, one_less, some_left.1)

    pub share_stays : Shows k n y B (record w { mutexes = with_mutex w.mutexes m (shared_as content (suc some_left.0)) }) None
    share_stays = record {
      threads = λ u. carried.same.threads u ∙ shows.thread_same k n y B (Some v) None u (same_in (task_n u));
      made = λ u. carried.same.made u ∙ shows.made_same k n y B (Some v) None u;
      pairs = λ u. carried.same.pairs u ∙ shows.pairs_same k n y B (Some v) None u;
      objects = λ o. carried.same.objects o ∙ shows.object_same k n y B (Some v) None o (same_in (object_n o));
      mutexes = set_shows w.mutexes m (shared_as content (suc some_left.0)) (record { content = content; shares = shares }) (λ x. (state_of s0).mutex x) there here
          (λ x ne. carried.same.mutexes x ∙ shows.mutex_same k n y B (Some v) None x (same_in (mutex_n x)) (let l = shows.share_less k n y B x v already in omega (arith, l, ap one (others_off x ne))));
      given = λ x. given_set w.mutexes m (shared_as content (suc some_left.0)) x ∙ carried.same.given x ∙ shows.mutex_given k n y B (Some v) None x;
    }
      where
        here : (state_of s0).mutex m ≡ shared_as content (suc some_left.0)
        here = ap (λ b. if_there b (record { content = first_shown (content_value s0 m) (held.things_with k n y B None); shares = left })) stays ∙ ap₂ shared_as (content_is None) some_left.1

  -- WHERE NONE IS

  module _ (goes : In None p ≡ false) where
    -- what is in the state only through it has a lower rank, so nothing there names it
    abbrev low : Node → Bool
    low q = nat_le (others.rank q) (others.rank p)

    abbrev reached : Node → Bool
    reached q = In None q || low q

    low_itself : low p ≡ true
    low_itself = grind (arith, nat_tests)

    falls_on : (q z : Node) → low z ≡ true → others.rank q < others.rank z → low q ≡ true
    falls_on q z e l = grind (arith, nat_tests, e, l)

    not_low : (z : Node) → low z ≡ true → others.rank p < others.rank z → ⊥
    not_low z e l = grind (arith, nat_tests, e, l)

    reaches : (q : Node) → In (Some v) q ≡ true → reached q ≡ true
    reaches =
        held.least_with k n y B (Some v) reached (λ q l. or_right (In None q) (low q) (ap low (mutex_only m q (of (owns q v) l)) ∙ low_itself))
        (λ q e. by q (named_whence s0 (In None) reached q B e))
      where
        of : (b : Bool) → 1 ≤ one b → b ≡ true
        of true l = refl
        of false l = absurd (omega (arith, l))

        by : (q : Node) → (any_named s0 (In None) q B ≡ true) ⊎ ((z : Node) × ((reached z ≡ true) × (1 ≤ tot (under_names s0 z q) B))) → reached q ≡ true
        by q (inl d) = or_left (In None q) (low q) (held.rest_in k n y B None q d)
        by q (inr l) =
            or_cases (In None l.0) (low l.0) (reached q ≡ true) (λ d. or_left (In None q) (low q) (held.rest_in k n y B None q (named_there s0 (In None) l.0 q B l.1.1 d)))
            (λ d. or_right (In None q) (low q) (falls_on q l.0 d (others.falls l.0 q l.1.1))) l.1.0

    -- nobody else in the state names it
    alone : held.any_in k n y B (Some v) p ≡ false
    alone = by (held.any_in k n y B (Some v) p) refl
      where
        not_it : In None p ≡ true → ⊥
        not_it d = cc (sym d ∙ goes)

        from : (any_named s0 (In None) p B ≡ true) ⊎ ((z : Node) × ((reached z ≡ true) × (1 ≤ tot (under_names s0 z p) B))) → ⊥
        from (inl d) = not_it (held.rest_in k n y B None p d)
        from (inr l) = or_cases (In None l.0) (low l.0) ⊥ (λ d. not_it (held.rest_in k n y B None p (named_there s0 (In None) l.0 p B l.1.1 d))) (λ d. not_low l.0 d (others.falls l.0 p l.1.1)) l.1.0

        by : (b : Bool) → held.any_in k n y B (Some v) p ≡ b → b ≡ false
        by false e = refl
        by true e = absurd (from (named_whence s0 (In None) reached p B (any_more s0 (In (Some v)) reached reaches p B e)))

    -- it had this share alone
    pub last : shares ≡ 1
    last =
        let none = none_shares s m B (held.any_alike k n y B (Some v) None (In (Some v)) p B ∙ alone) in
        let all = shows.shares_with k n y B m (Some v) in
        omega (arith, none, all, ap one mine)

    module _ (c : Option Owned) (e : under s0 p B ≡ c) where
      goes_in : (q : Node) → owns q v ≡ false → In (Some v) q ≡ In c q
      goes_in = held.goes_in k n y B v p mine (mutex_only m) c (λ z. carrying.counted k n y B others p z c e) alone

      pub mutex_gone : Shows k n y B (record w { mutexes = with_mutex w.mutexes m None }) c
      mutex_gone = record {
        threads = λ u. carried.same.threads u ∙ shows.thread_same k n y B (Some v) c u (goes_in (task_n u) refl);
        made = λ u. carried.same.made u ∙ shows.made_same k n y B (Some v) c u;
        pairs = λ u. carried.same.pairs u ∙ shows.pairs_same k n y B (Some v) c u;
        objects = λ o. carried.same.objects o ∙ shows.object_same k n y B (Some v) c o (goes_in (object_n o) refl);
        mutexes = set_shows w.mutexes m None (record { content = content; shares = shares }) (λ x. (state_of (held.sight_with k n y B c)).mutex x) there none
            (λ x ne. carried.same.mutexes x
            ∙ shows.mutex_same k n y B (Some v) c x (goes_in (mutex_n x) (others_off x ne)) (let l = shows.share_goes k n y B x v p mine (mutex_only m) c (λ z. carrying.counted k n y B others p z c e) alone in omega (arith, l, ap one (others_off x ne))));
        given = λ x. given_set w.mutexes m None x ∙ carried.same.given x ∙ shows.mutex_given k n y B (Some v) c x;
      }
        where
          none : (state_of (held.sight_with k n y B c)).mutex m ≡ None
          none =
              ap (λ b. if_there b (record { content = first_shown (content_value (held.sight_with k n y B c) m) (held.things_with k n y B c); shares = tot (share_in (held.sight_with k n y B c) m) (held.things_with k n y B c) }))
              (held.it_goes k n y B v p mine (mutex_only m) c (λ z. carrying.counted k n y B others p z c e) alone)

    -- its content comes to the hand
    pub next_content : (c : Owned) → under s0 p B ≡ Some c → Carries k n y B (record w { mutexes = with_mutex w.mutexes m None }) c
    next_content c e = carrying.comes k n y B others v p mine (mutex_only m) alone c e (record w { mutexes = with_mutex w.mutexes m None }) (mutex_gone (Some c) e)
