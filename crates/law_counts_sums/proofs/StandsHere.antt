-- In a sound cluster a thread that an answer goes to stands at the server where the answer waits, in the phase that waits for it and without a gift.
use Rattle.std.proofs.Common.{◌≡◌, ℕ, ◌+◌, ◌≤◌, ◌==◌, ◌&&◌, not, is_some, Bool, true, false, if◌then◌else◌, List, [], ◌∷◌, Option, Some, None, refl, sym, ap, subst, arith}
use Rattle.coherent_memory.proofs.Below.fr_typing.PlaceLemmas.{eq_cases}
use Rattle.coherent_memory.specs.Below.thread_state.View.{ThreadState}
use Rattle.coherent_memory.specs.Below.thread_state.declared.phase.Phase.{Phase}
use Rattle.coherent_memory.specs.Below.server_msgs.declared.message.Message.{Message}
use Rattle.coherent_memory.specs.Below.server_msgs.declared.message.Message.TheVariants as message
use Rattle.coherent_memory.specs.Below.server_model.Servers.{Server, Cluster, server_at}
use Rattle.coherent_memory.specs.Below.server_model.Work.{thread_in}
use Rattle.coherent_memory.specs.Names.{tot, one, other, if_so}
use Rattle.coherent_memory.specs.Things.{Thing, stands, message_things, waiting_things, leaving_things, standing_things, thread_things, server_things, things_of}
use Rattle.coherent_memory.specs.Follow.{Standing, threads_in, thread_at}
use Rattle.coherent_memory.specs.Weights.{is_thread}
use Rattle.coherent_memory.specs.Requests.{in_server, in_phase, is_got, early_gift}
use Rattle.coherent_memory.specs.Walking.{is_ready, busy_parcel}
use Rattle.coherent_memory.specs.Coherent.{IsSound}
use Rattle.coherent_memory.proofs.Sums.{server_parts}
use Rattle.law_counts_sums.proofs.Bags.{all_standing}
use Rattle.law_counts_sums.proofs.Events.{tot-server}
use Rattle.law_counts_sums.proofs.Unseen.{Unseen, Unnoted, none_at, thread_alone, seen_of}
use Rattle.law_counts_sums.proofs.Sound.{sound_has_sums}
use Rattle.law_counts_sums.proofs.Elsewhere.{here_alone}

-- it stands at that server, unpacked, in such a phase and without a gift
abbrev pub is_bare : ℕ → (Phase → Bool) → ℕ → Bool → ThreadState → Bool
is_bare n f r p x = (r == n) && (not p && (f x.phase && not (is_some x.gift)))

module _ (n t : ℕ) (f : Phase → Bool) where
  abbrev bare : Thing → ℕ
  bare (stands r p x) = one (x.number == t && is_bare n f r p x)
  bare x = 0

  unseen : (m : ℕ) → Unseen bare m
  unseen m = record { held = λ p v. refl; shared = λ l r. refl; borrowed = λ l r. refl; locked = λ l m. refl; live = λ a c. refl; free = λ a m. refl; old = λ a. refl; copy = λ s c. refl; used = λ s w. refl }

  unnoted : Unnoted bare
  unnoted = record { mutex = λ s m. refl; queue = λ m s t. refl; note = λ s t. refl }

  -- a found thread weighs one
  abbrev FoundBare : Option Standing → Bool
  FoundBare None = false
  FoundBare (Some x) = is_bare n f x.server x.packed x.thread

  counted : (b : List Thing) → FoundBare (thread_at (threads_in b) t) ≡ true → 1 ≤ tot bare b
  counted [] e = absurd (cc e)
  counted (stands r p x ∷ b) e =
      eq_cases (λ c. FoundBare (if c then Some (record { server = r; packed = p; thread = x }) else thread_at (threads_in b) t) ≡ true → 1 ≤ one (c && is_bare n f r p x) + tot bare b) x.number t
      (λ same g. let w : one (is_bare n f r p x) ≡ 1 = ap one g in omega (arith, w))
      (λ ne g. let w = counted b g in omega (arith, w)) e
  counted (_ ∷ b) e = omega (arith, counted b e)

  -- WHERE IT STANDS

  one_none : (c d : Bool) → one (c && (false && d)) ≡ 0
  one_none true d = refl
  one_none false d = refl

  under_way : (c d e : Bool) → one (c && (d && (false && e))) ≡ 0
  under_way true true e = refl
  under_way true false e = refl
  under_way false d e = refl

  parcel_none : (r : ℕ) (x : ThreadState) → tot bare (thread_things r true x) ≡ 0
  parcel_none r x = omega (arith, thread_alone bare r (unseen r) r true x, under_way (x.number == t) (r == n) (f x.phase && not (is_some x.gift)))

  message_none : (r : ℕ) (m : Message) → tot bare (message_things r m) ≡ 0
  message_none r (message.Start x) = omega (arith, parcel_none r x)
  message_none r (message.Migrate x) = omega (arith, parcel_none r x)
  message_none r _ = refl

  -- of a server it sees those that stand there
  standing_alone : (s : Server) → tot bare (server_things s) ≡ tot bare (all_standing s.rest.number s.threads)
  standing_alone s =
      let m = s.rest.number in
      omega (
        arith,
        seen_of bare m (unseen m) unnoted s refl,
        none_at bare m (unseen m) (waiting_things m) (λ i x. message_none m x) 0 s.rest.inbox,
        none_at bare m (unseen m) leaving_things (λ i x. message_none x.target x.message) 0 s.rest.outbox,
      )

  elsewhere : (s : Server) → (s.rest.number == n) ≡ false → tot bare (server_things s) ≡ 0
  elsewhere s e =
      let m = s.rest.number in
      omega (arith, standing_alone s, none_at bare m (unseen m) (standing_things m) (λ i x. by i x (thread_alone bare m (unseen m) m false x)) 0 s.threads)
    where
      by : (i : ℕ) (x : ThreadState) → tot bare (thread_things s.rest.number false x) ≡ one (x.number == t && is_bare n f s.rest.number false x) → tot bare (standing_things s.rest.number i x) ≡ 0
      by i x q =
          let w : one (x.number == t && is_bare n f s.rest.number false x) ≡ one (x.number == t && (false && (true && (f x.phase && not (is_some x.gift))))) = ap (λ b. one (x.number == t && (b && (true && (f x.phase && not (is_some x.gift)))))) e in
          omega (arith, q, w, one_none (x.number == t) (true && (f x.phase && not (is_some x.gift))))

  -- the one that is found among those that stand there
  among_ones : (c d : Bool) → one (c && d) ≤ one c
  among_ones true true = omega arith
  among_ones true false = omega arith
  among_ones false d = omega arith

  bare_is_thread : (x : Thing) → bare x ≤ is_thread t x
  bare_is_thread (stands r p x) = among_ones (x.number == t) (is_bare n f r p x)
  bare_is_thread _ = omega arith

  fewer : (b : List Thing) → tot bare b ≤ tot (is_thread t) b
  fewer [] = omega arith
  fewer (x ∷ b) = omega (arith, bare_is_thread x, fewer b)

  abbrev pub Here : List ThreadState → Type 0
  Here ts = (y : ThreadState) × (thread_in ts t ≡ Some y) × (is_bare n f n false y ≡ true)

  truly : (b : Bool) → 1 ≤ one b → b ≡ true
  truly true l = refl
  truly false l = absurd (omega (arith, l))

  found : (ts : List ThreadState) → 1 ≤ tot bare (all_standing n ts) → tot (is_thread t) (all_standing n ts) ≤ 1 → Here ts
  found [] l k = absurd (omega (arith, l))
  found (x ∷ ts) l k =
      let g = Rattle.law_counts_sums.proofs.Trades.tot-front (thread_things n false) bare 0 x ts in
      let h = Rattle.law_counts_sums.proofs.Trades.tot-front (thread_things n false) (is_thread t) 0 x ts in
      let mine = thread_alone bare n (unseen n) n false x in
      let number : is_thread t (stands n false x) ≤ tot (is_thread t) (thread_things n false x) = omega arith in
      eq_cases (λ c. one (x.number == t) ≡ one c → bare (stands n false x) ≡ one (c && is_bare n f n false x) → (y : ThreadState) × ((if c then Some x else thread_in ts t) ≡ Some y) × (is_bare n f n false y ≡ true)) x.number t
      (λ same q w. (x, refl, truly (is_bare n f n false x) (omega (arith, l, k, g, h, mine, number, q, w, fewer (all_standing n ts)))))
      (λ ne q w. found ts (omega (arith, l, g, mine, w)) (omega (arith, k, h))) refl refl

-- IN A SOUND CLUSTER

-- what nothing breaks of the threads, the found one doesn't
pub found_none : (f : Standing → ℕ) (t : ℕ) (xs : List Standing) (x : Standing) → tot f xs ≡ 0 → thread_at xs t ≡ Some x → f x ≡ 0
found_none f t [] x z e = absurd (cc e)
found_none f t (y ∷ xs) x z e =
    eq_cases (λ b. (if b then Some y else thread_at xs t) ≡ Some x → f x ≡ 0) y.thread.number t
    (λ q d. let same : y ≡ x = cc in subst (λ (w : Standing). f w ≡ 0) same (omega (arith, z))) (λ ne d. found_none f t xs x (omega (arith, z)) d) e

-- a phase that waits is neither ready nor has got anything
pub record IsWaiting (f : Phase → Bool) : Type 0 where
  pub unready : (p : Phase) → f p ≡ true → is_ready p ≡ false
  pub ungot : (p : Phase) → f p ≡ true → is_got p ≡ false

module _ (k : Cluster) (sound : IsSound k) (number : ℕ) (s : Server) (here : server_at k.servers number ≡ Some s) (t : ℕ) (f : Phase → Bool) (waiting : IsWaiting f) where
  abbrev n : ℕ
  n = s.rest.number

  bare_one : (x : Standing) → thread_at (threads_in (things_of k)) t ≡ Some x → in_server n (Some x) ≡ true → in_phase f (Some x) ≡ true → is_bare n f x.server x.packed x.thread ≡ true
  bare_one x e at phase =
      let parcel : busy_parcel x ≡ 0 = found_none busy_parcel t (threads_in (things_of k)) x sound.walks.parcels_ready e in
      let gift : early_gift x ≡ 0 = found_none early_gift t (threads_in (things_of k)) x sound.requests.gifts_got e in
      all (x.server == n) x.packed (f x.thread.phase) (is_some x.thread.gift) at phase
      (λ packed. loaded x.packed (is_ready x.thread.phase) packed (waiting.unready x.thread.phase phase) parcel)
      (λ given. early (is_some x.thread.gift) (is_got x.thread.phase) given (waiting.ungot x.thread.phase phase) gift)
    where
      loaded : (p r : Bool) → p ≡ true → r ≡ false → if_so p (other r) ≡ 0 → ⊥
      loaded true false e h z = absurd (cc z)
      loaded true true e h z = absurd (cc h)
      loaded false r e h z = absurd (cc e)

      early : (g r : Bool) → g ≡ true → r ≡ false → one (g && not r) ≡ 0 → ⊥
      early true false e h z = absurd (cc z)
      early true true e h z = absurd (cc h)
      early false r e h z = absurd (cc e)

      all : (a p b g : Bool) → a ≡ true → b ≡ true → (p ≡ true → ⊥) → (g ≡ true → ⊥) → a && (not p && (b && not g)) ≡ true
      all true false true false e h q w = refl
      all true false true true e h q w = absurd (w refl)
      all true true b g e h q w = absurd (q refl)
      all true false false g e h q w = absurd (cc h)
      all false p b g e h q w = absurd (cc e)

  pub stands_here : in_server n (thread_at (threads_in (things_of k)) t) ≡ true → in_phase f (thread_at (threads_in (things_of k)) t) ≡ true → Here n t f s.threads
  stands_here at phase = by (thread_at (threads_in (things_of k)) t) refl at phase
    where
      by : (o : Option Standing) → thread_at (threads_in (things_of k)) t ≡ o → in_server n o ≡ true → in_phase f o ≡ true → Here n t f s.threads
      by None e a p = absurd (cc a)
      by (Some x) e a p =
          let there : FoundBare n t f (thread_at (threads_in (things_of k)) t) ≡ true = subst (λ o. FoundBare n t f o ≡ true) (sym e) (bare_one x e a p) in
          let some = counted n t f (things_of k) there in
          let sums = sound_has_sums k sound in
          let few : tot (is_thread t) (all_standing n s.threads) ≤ 1 = omega (arith, sums.numbers_differ t, (tot-server (is_thread t) k.servers number s s here).0, server_parts (is_thread t) s) in
          found n t f s.threads (omega (arith, some, here_alone k sound number s here (bare n t f) (elsewhere n t f), standing_alone n t f s)) few
