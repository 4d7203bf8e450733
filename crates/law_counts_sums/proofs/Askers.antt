-- In a sound cluster the server of a thread, and so that of one that asks, is of the run.
use Rattle.std.proofs.Common.{◌≡◌, ℕ, ◌+◌, ◌<◌, ◌≤◌, ◌==◌, ◌&&◌, ◌||◌, Bool, true, false, zero, suc, nat_lt, nat_le, is_some, if◌then◌else◌, List, [], ◌∷◌, Some, IsSome, refl, sym, ap, subst, ◌∙◌, arith}
use Rattle.std.specs.Prelude.{slice_get}
use Rattle.std.proofs.lemmas.Bool.Decides.{nat_tests}
use Rattle.coherent_memory.proofs.Below.fr_typing.PlaceLemmas.{eq_cases}
use Rattle.coherent_memory.specs.Below.global_addr.Words.{colour_of, server_of, address_of}
use Rattle.coherent_memory.specs.Below.thread_state.View.{ThreadState}
use Rattle.coherent_memory.specs.Below.server_msgs.declared.message.Message.{Message}
use Rattle.coherent_memory.specs.Below.server_msgs.declared.message.Message.TheVariants as message
use Rattle.coherent_memory.specs.Below.server_model.Servers.{Sent, Server, Cluster, server_at}
use Rattle.coherent_memory.specs.Names.{tot, one, other, some}
use Rattle.coherent_memory.specs.Things.{Thing, lies, vacant, retired, counts, sent, stands, things_at, message_things, waiting_things, leaving_things, standing_things, thread_things, server_things, servers_things, things_of}
use Rattle.coherent_memory.specs.Follow.{threads_in, thread_at}
use Rattle.coherent_memory.specs.Sight.{Sight, Pointer, sight, word_of_object, colour_up_to, is_spot, is_issued, issued}
use Rattle.coherent_memory.specs.Naming.{servers_wrong, pinned_parcel, started_at, made_at}
use Rattle.coherent_memory.specs.Walking.{sum_threads}
use Rattle.coherent_memory.specs.Requests.{in_server, stands_at, is_goal, goal, misrouted, asker_message, other_asker}
use Rattle.coherent_memory.specs.Coherent.{IsSound}
use Rattle.coherent_memory.proofs.Sums.{tot-append, server_parts}
use Rattle.law_counts_sums.proofs.Trades.{tot-remove}
use Rattle.law_counts_sums.proofs.Events.{tot-server}
use Rattle.law_counts_sums.proofs.Unseen.{Unseen, Unnoted, thread_alone, seen_of}

-- a thread, an address or the counts of a server that isn't there
abbrev pub stray : List Server → Thing → ℕ
stray ss (stands r p t) = other (is_some (server_at ss r))
stray ss (lies r a c) = other (is_some (server_at ss r))
stray ss (vacant r a next) = other (is_some (server_at ss r))
stray ss (retired r a) = other (is_some (server_at ss r))
stray ss (counts r next old started made events) = other (is_some (server_at ss r))
stray ss x = 0

pub other_none : (b : Bool) → other b ≡ 0 → b ≡ true
other_none true q = refl
other_none false q = absurd (cc q)

false_one : false ≡ true → ⊥
false_one e = absurd (cc e)

both : (p q : Bool) → p && q ≡ true → p ≡ true
both true q z = refl
both false q z = absurd (cc z)

-- SERVERS OF THE RUN

-- each number from the first one to below the number of servers is there
there_from : (s : Sight) (m : ℕ) (ss : List Server) → servers_wrong s m ss ≡ 0 → (t : ℕ) → m ≤ t → t < s.options.servers → IsSome (server_at ss t)
there_from s m [] q t l h =
    let e : m ≡ s.options.servers = grind (arith, nat_tests, other_none (m == s.options.servers) q) in
    absurd (omega (arith, e, l, h))
there_from s m (x ∷ xs) q t l h =
    let n : x.rest.number ≡ m = grind (arith, nat_tests, other_none (x.rest.number == m) (omega (arith, q))) in
    eq_cases (λ b. IsSome (if b then Some x else server_at xs t)) x.rest.number t (λ e. refl) (λ ne. there_from s (m + 1) xs (omega (arith, q)) t (by n ne) h)
  where
    by : x.rest.number ≡ m → (x.rest.number ≡ t → ⊥) → m + 1 ≤ t
    by n ne = grind (arith, n, ne, l)

pub there_below : (k : Cluster) → IsSound k → (t : ℕ) → t < k.options.servers → IsSome (server_at k.servers t)
there_below k sound t h =
    let parts : servers_wrong (sight k) 0 k.servers + sum_threads (sight k) pinned_parcel ≡ 0 = sound.parts.parts_are_typed in
    there_from (sight k) 0 k.servers (omega (arith, parts)) t (omega arith) h

-- at that address, or later in the list
at_spot : (X : ℕ → Type 0) (w r a : ℕ) (c d : Bool) → X r → (d ≡ true → X (server_of w)) → (is_spot r a w && c) || d ≡ true → X (server_of w)
at_spot X w r a c d here go i =
    eq_cases (λ b. ((b && (address_of w == a)) && c) || d ≡ true → X (server_of w)) (server_of w) r (λ e j. subst X (sym e) here) (λ ne j. go j) i

-- THREADS

module _ (k : Cluster) (sound : IsSound k) where
  abbrev g : Thing → ℕ
  g = stray k.servers

  abbrev h : Thing → ℕ
  h = misrouted (sight k)

  unseen : (n : ℕ) → IsSome (server_at k.servers n) → Unseen g n
  unseen n a = record {
    held = λ p v. refl;
    shared = λ l r. refl;
    borrowed = λ l r. refl;
    locked = λ l m. refl;
    live = λ b c. ap other a;
    free = λ b m. ap other a;
    old = λ b. ap other a;
    copy = λ s c. refl;
    used = λ s w. refl;
  }

  unnoted : Unnoted g
  unnoted = record { mutex = λ s m. refl; queue = λ m s t. refl; note = λ s t. refl }

  thread_there : (n : ℕ) (p : Bool) (t : ThreadState) → IsSome (server_at k.servers n) → tot g (thread_things n p t) ≡ 0
  thread_there n p t a = thread_alone g n (unseen n a) n p t ∙ ap other a

  -- a message goes to a server of the run
  goes_there : (n : ℕ) (m : Message) → other (nat_lt n k.options.servers && is_goal n (goal k.options.servers m)) ≡ 0 → IsSome (server_at k.servers n)
  goes_there n m z = there_below k sound n (grind (arith, nat_tests, both (nat_lt n k.options.servers) (is_goal n (goal k.options.servers m)) (other_none _ z)))

  message_there : (n : ℕ) (m : Message) → tot h (message_things n m) ≡ 0 → tot g (message_things n m) ≡ 0
  message_there n (message.Start t) z = omega (arith, thread_there n true t (goes_there n (message.Start t) (omega (arith, z))))
  message_there n (message.Migrate t) z = omega (arith, thread_there n true t (goes_there n (message.Migrate t) (omega (arith, z))))
  message_there n _ z = refl

  waiting_there : (n i : ℕ) (ms : List Message) → tot h (things_at (waiting_things n) i ms) ≡ 0 → tot g (things_at (waiting_things n) i ms) ≡ 0
  waiting_there n i [] z = refl
  waiting_there n i (m ∷ ms) z =
      let a = tot-append h (message_things n m) (things_at (waiting_things n) (i + 1) ms) in
      omega (arith, message_there n m (omega (arith, z, a)), waiting_there n (i + 1) ms (omega (arith, z, a)), tot-append g (message_things n m) (things_at (waiting_things n) (i + 1) ms))

  leaving_there : (i : ℕ) (xs : List Sent) → tot h (things_at leaving_things i xs) ≡ 0 → tot g (things_at leaving_things i xs) ≡ 0
  leaving_there i [] z = refl
  leaving_there i (x ∷ xs) z =
      let a = tot-append h (message_things x.target x.message) (things_at leaving_things (i + 1) xs) in
      omega (arith, message_there x.target x.message (omega (arith, z, a)), leaving_there (i + 1) xs (omega (arith, z, a)), tot-append g (message_things x.target x.message) (things_at leaving_things (i + 1) xs))

  standing_there : (n : ℕ) → IsSome (server_at k.servers n) → (i : ℕ) (ts : List ThreadState) → tot g (things_at (standing_things n) i ts) ≡ 0
  standing_there n a i [] = refl
  standing_there n a i (t ∷ ts) = omega (arith, thread_there n false t a, standing_there n a (i + 1) ts, tot-append g (thread_things n false t) (things_at (standing_things n) (i + 1) ts))

  server_there : (s : Server) → IsSome (server_at k.servers s.rest.number) → tot h (server_things s) ≡ 0 → tot g (server_things s) ≡ 0
  server_there s a z =
      let p = server_parts h s in
      omega (arith, seen_of g s.rest.number (unseen s.rest.number a) unnoted s refl, ap other a, standing_there s.rest.number a 0 s.threads, waiting_there s.rest.number 0 s.rest.inbox (omega (arith, z, p)), leaving_there 0 s.rest.outbox (omega (arith, z, p)))

  all_there : (us : List Server) → ((t : ℕ) → IsSome (server_at us t) → IsSome (server_at k.servers t)) → tot h (servers_things us) ≡ 0 → tot g (servers_things us) ≡ 0
  all_there [] c z = refl
  all_there (s ∷ us) c z =
      let a = tot-append h (server_things s) (servers_things us) in
      let here : IsSome (server_at (s ∷ us) s.rest.number) = eq_cases (λ b. IsSome (if b then Some s else server_at us s.rest.number)) s.rest.number s.rest.number (λ e. refl) (λ ne. absurd (ne refl)) in
      omega (
        arith,
        server_there s (c s.rest.number here) (omega (arith, z, a)),
        all_there us (λ t i. c t (eq_cases (λ b. IsSome (if b then Some s else server_at us t)) s.rest.number t (λ e. refl) (λ ne. i))) (omega (arith, z, a)),
        tot-append g (server_things s) (servers_things us),
      )

  none_stray : tot g (things_of k) ≡ 0
  none_stray = all_there k.servers (λ t i. i) sound.requests.go_right

  found : (b : List Thing) (t r : ℕ) → tot g b ≡ 0 → in_server r (thread_at (threads_in b) t) ≡ true → IsSome (server_at k.servers r)
  found [] t r z i = absurd (cc i)
  found (stands n p x ∷ b) t r z i =
      eq_cases (λ c. in_server r (if c then Some (record { server = n; packed = p; thread = x }) else thread_at (threads_in b) t) ≡ true → IsSome (server_at k.servers r)) x.number t
      (λ e j. subst (λ m. IsSome (server_at k.servers m)) (grind (arith, nat_tests, j)) (other_none (is_some (server_at k.servers n)) (omega (arith, z))))
      (λ ne j. found b t r (omega (arith, z)) j) i
  found (_ ∷ b) t r z i = found b t r (omega (arith, z)) i

  -- an issued word is of a server that is there
  word_there : (colours : ℕ) (ps : List Pointer) (w : ℕ) (b : List Thing) → tot g b ≡ 0 → is_issued colours ps b w ≡ true → IsSome (server_at k.servers (server_of w))
  word_there cs ps w [] z i = absurd (cc i)
  word_there cs ps w (lies r a c ∷ b) z i = at_spot (λ n. IsSome (server_at k.servers n)) w r a (colour_up_to (word_of_object ps c.object) w) (is_issued cs ps b w) (other_none (is_some (server_at k.servers r)) (omega (arith, z))) (word_there cs ps w b (omega (arith, z))) i
  word_there cs ps w (vacant r a next ∷ b) z i = at_spot (λ n. IsSome (server_at k.servers n)) w r a (nat_lt (colour_of w) next) (is_issued cs ps b w) (other_none (is_some (server_at k.servers r)) (omega (arith, z))) (word_there cs ps w b (omega (arith, z))) i
  word_there cs ps w (retired r a ∷ b) z i = at_spot (λ n. IsSome (server_at k.servers n)) w r a (nat_lt (colour_of w) cs) (is_issued cs ps b w) (other_none (is_some (server_at k.servers r)) (omega (arith, z))) (word_there cs ps w b (omega (arith, z))) i
  word_there cs ps w (_ ∷ b) z i = word_there cs ps w b (omega (arith, z)) i

  pub issued_there : (w : ℕ) → issued (sight k) w ≡ true → IsSome (server_at k.servers (server_of w))
  issued_there w i = word_there k.options.colours (sight k).pointers w (things_of k) none_stray i

  -- a server that has counted is there
  counter_there : (f : Thing → ℕ) (r : ℕ) → ((x : Thing) → stray k.servers x ≡ 0 → some (f x) ≡ true → IsSome (server_at k.servers r)) → (b : List Thing) → tot g b ≡ 0 → some (tot f b) ≡ true → IsSome (server_at k.servers r)
  counter_there f r go [] z i = absurd (cc i)
  counter_there f r go (x ∷ b) z i = either (f x) (tot f b) (λ e. go x (omega (arith, z)) e) (λ e. counter_there f r go b (omega (arith, z)) e) i
    where
      either : (m n : ℕ) → (some m ≡ true → IsSome (server_at k.servers r)) → (some n ≡ true → IsSome (server_at k.servers r)) → some (m + n) ≡ true → IsSome (server_at k.servers r)
      either zero n p q e = q (subst (λ l. some l ≡ true) (omega arith) e)
      either (suc m) n p q e = p refl

  thread_counted : (r n : ℕ) (x : Thing) → stray k.servers x ≡ 0 → some (started_at r n x) ≡ true → IsSome (server_at k.servers r)
  thread_counted r n (counts a next old started made events) z i =
      eq_cases (λ b. some (one (b && nat_le n started)) ≡ true → IsSome (server_at k.servers r)) a r (λ e j. subst (λ m. IsSome (server_at k.servers m)) e (other_none (is_some (server_at k.servers a)) z)) (λ ne j. absurd (false_one j)) i
  thread_counted r n _ z i = absurd (false_one i)

  mutex_counted : (r n : ℕ) (x : Thing) → stray k.servers x ≡ 0 → some (made_at r n x) ≡ true → IsSome (server_at k.servers r)
  mutex_counted r n (counts a next old started made events) z i =
      eq_cases (λ b. some (one (b && nat_le n made)) ≡ true → IsSome (server_at k.servers r)) a r (λ e j. subst (λ m. IsSome (server_at k.servers m)) e (other_none (is_some (server_at k.servers a)) z)) (λ ne j. absurd (false_one j)) i
  mutex_counted r n _ z i = absurd (false_one i)

  -- the home of a thread that is counted, and that of a mutex, are there
  pub home_there : (r n : ℕ) → some (tot (started_at r n) (things_of k)) ≡ true → IsSome (server_at k.servers r)
  home_there r n i = counter_there (started_at r n) r (thread_counted r n) (things_of k) none_stray i

  pub mutex_there : (r n : ℕ) → some (tot (made_at r n) (things_of k)) ≡ true → IsSome (server_at k.servers r)
  mutex_there r n i = counter_there (made_at r n) r (mutex_counted r n) (things_of k) none_stray i

  -- the server of a thread is there
  pub stands_there : (t r : ℕ) → stands_at (sight k) t r ≡ true → IsSome (server_at k.servers r)
  stands_there t r i = found (things_of k) t r none_stray i

  -- the asking server of a message that waits
  pub asker_there : (n i : ℕ) (s : Server) (m : Message) (t r : ℕ) → server_at k.servers n ≡ Some s → slice_get s.rest.inbox i ≡ Some m
      → asker_message (sight k) m ≡ other (stands_at (sight k) t r) → IsSome (server_at k.servers r)
  asker_there n i s m t r here q e =
      let f = other_asker (sight k) in
      let all : tot f (things_of k) ≡ 0 = sound.requests.askers_stand in
      let one = tot-remove (λ x. message_things s.rest.number x) f 0 s.rest.inbox i m q in
      let none : f (sent s.rest.number m) ≡ 0 = omega (arith, all, (tot-server f k.servers n s s here).0, server_parts f s, one) in
      stands_there t r (other_none (stands_at (sight k) t r) (sym e ∙ none))
