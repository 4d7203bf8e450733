-- A thread starts: none had its name before, and it goes to the server that its name tells.
use Rattle.std.proofs.Common.{◌≡◌, ℕ, ◌+◌, ◌*◌, ◌<◌, ◌≤◌, ◌==◌, ◌&&◌, ◌||◌, nat_le, not, Bool, true, false, if◌then◌else◌, Option, Some, None, is_some, is_none, refl, sym, ap, ap₂, ◌∙◌, arith}
use Rattle.std.specs.Prelude.{◌%◌, ◌^◌}
use Rattle.std.proofs.lemmas.Bool.Decides.{nat_tests}
use Rattle.law_words_ends.specs.Below.fr_base.Names.{home_of, count_of}
use Rattle.law_words_ends.specs.Below.fr_base.declared.settings.Options.{Options}
use Rattle.law_words_ends.specs.Below.journal.View.{EntryView}
use Rattle.law_words_ends.specs.Below.journal.declared.act.Act.TheVariants as act
use Rattle.law_words_ends.specs.Below.server_model.Servers.{Rest, Server, Cluster, server_at}
use Rattle.law_entries_variables.specs.Below.coloured_heap.Lists.{holds}
use Rattle.law_entries_variables.specs.Below.coloured_heap.Heap.{Running, Coloured, thread_at}
use Rattle.law_entries_variables.specs.Below.coloured_heap.Rules.{starting_server}
use Rattle.law_entries_variables.proofs.Below.coloured_heap.Times.{number_is}
use Rattle.law_entries_variables.proofs.Below.coloured_heap.ShownNames.{number_itself}
use Rattle.law_words_ends.specs.Below.coherent_memory.Names.{tot, one, other, some}
use Rattle.law_words_ends.specs.Below.coherent_memory.Things.{things_of}
use Rattle.law_words_ends.specs.Below.coherent_memory.Sight.{sight}
use Rattle.law_words_ends.specs.Below.coherent_memory.Naming.{started_at, above, many_names, events_of}
use Rattle.law_words_ends.specs.Below.coherent_memory.OneHeap.{is_given_thread}
use Rattle.law_words_ends.specs.Below.coherent_memory.Weights.{is_thread}
use Rattle.law_words_ends.specs.Below.coherent_memory.Coherent.{IsSound}
use Rattle.law_words_ends.specs.Below.law_counts_sums.Laws.{FewEvents}
use Rattle.law_words_ends.proofs.Below.law_counts_sums.Trades.{tot-append}
use Rattle.law_words_ends.proofs.Below.law_counts_sums.Bags.{counts_of, rest_things, all_standing, server_same}
use Rattle.law_words_ends.proofs.Below.law_counts_sums.Events.{tot-server}
use Rattle.law_words_ends.proofs.Below.law_counts_sums.NewThreads.{new_names}
use Rattle.law_words_ends.proofs.Below.law_counts_sums.Sound.{sound_has_sums}
use Rattle.law_entries_variables.proofs.deliveries.Answers.{Answers, Fits, Allowed}
use Rattle.law_entries_variables.proofs.variables.Counts.{started_here, next_counted}

-- IN THE COLOURED HEAP

abbrev pub runner : ℕ → ℕ → Running
runner u there = record { thread = u; server = there; has_ended = false }

-- the thread was started, and runs there
abbrev pub starting : ℕ → ℕ → Answers → Answers
starting u there q = record q { started = λ x. (u == x) || q.started x; running = λ x. if u == x then Some (runner u there) else q.running x }

-- who wasn't started may start, at that server
pub start_allowed : (o : Options) (e : EntryView) (c : Coloured) (q : Answers) (t u there : ℕ) → Fits q c → e.thread ≡ Some t → (home_of u == e.server) ≡ true → q.started u ≡ false → q.ended u ≡ false → (there == starting_server o u) ≡ true
    → Allowed o e c (act.Start u there) (starting u there q)
start_allowed o e c q t u there h by_it home new going goal = record {
  allowed =
      ap₂ (λ a b. is_some a && b && is_none (thread_at c u) && (there == starting_server o u)) by_it home ∙ ap₂ (λ a b. true && true && a && b) (none (thread_at c u) (h.started u ∙ new)) goal;
  fits = record {
    objects = h.objects;
    copies = h.copies;
    served = h.served;
    issued = h.issued;
    started = λ x. by_started x (u == x) ∙ ap (λ b. (u == x) || b) (h.started x);
    servers = λ x r d. by_server x r (u == x) d;
    ended = λ x. by_ended x (u == x) refl;
    wishes = h.wishes;
    made = h.made;
    mutexes = h.mutexes;
  };
}
  where
    none : (y : Option Running) → is_some y ≡ false → is_none y ≡ true
    none None d = refl
    none (Some r) d = absurd (cc d)

    by_started : (x : ℕ) (b : Bool) → is_some (if b then Some (runner u there) else thread_at c x) ≡ (b || is_some (thread_at c x))
    by_started x true = refl
    by_started x false = refl

    by_server : (x : ℕ) (r : Running) (b : Bool) → (if b then Some (runner u there) else q.running x) ≡ Some r → (if b then Some (runner u there) else thread_at c x) ≡ Some r
    by_server x r true d = d
    by_server x r false d = h.servers x r d

    by_ended : (x : ℕ) (b : Bool) → (u == x) ≡ b → holds (λ (r : Running). r.has_ended) (if b then Some (runner u there) else thread_at c x) ≡ q.ended x
    by_ended x true d = sym going ∙ ap q.ended (number_is u x d)
    by_ended x false d = h.ended x

-- IN THE CLUSTER

-- counts are far from their limit
pub few_started : (k : Cluster) → IsSound k → FewEvents k → (number : ℕ) (s : Server) → server_at k.servers number ≡ Some s → s.rest.started + 2 < 2 ^ 32
few_started k sound few number s here =
    let n = events_of (sight k) in
    let f = many_names n in
    let z : tot f (things_of k) ≡ 0 = sound.names.few_names in
    let mine : above (2 * n) s.rest.started ≡ 0 =
    omega (arith, z, (tot-server f k.servers number s s here).0, server_same s f, tot-append f (all_standing s.rest.number s.threads) (rest_things s.rest.number s.events s.rest)) in
    by n s.rest.started (nat_le s.rest.started (2 * n)) refl mine few
  where
    by : (n m : ℕ) (b : Bool) → nat_le m (2 * n) ≡ b → other b ≡ 0 → n + 1 < 2 ^ 31 → m + 2 < 2 ^ 32
    by n m true e z l = let less : m ≤ 2 * n = grind (arith, nat_tests, e) in omega (arith, less, l)
    by n m false e z l = absurd (cc z)

module _ (n : ℕ) (rest : ℕ → ℕ → ℕ) where
  -- whether a thread is among those that a server has started, so many of its own
  abbrev pub given_upto : ℕ → ℕ → Bool
  given_upto m x = x == 0 || (not (x % 2 ^ 32 == 0) && some (if n == home_of x then one (nat_le (x % 2 ^ 32) m) else rest (home_of x) (x % 2 ^ 32)))

  -- the next one, and those before
  pub given_next : (m : ℕ) → m + 1 < 2 ^ 32 → (x : ℕ) → (((n * 2 ^ 32 + (m + 1)) == x) || given_upto m x) ≡ given_upto (m + 1) x
  given_next m l x = by (n == home_of x) refl
    where
      shuffled : (p q a b : Bool) → (p || a) ≡ b → (p || (q || a)) ≡ (q || b)
      shuffled true true a b e = refl
      shuffled true false a b e = e
      shuffled false true a b e = refl
      shuffled false false a b e = e

      u : ℕ
      u = n * 2 ^ 32 + (m + 1)

      same_count : (b d : Bool) → n ≡ home_of x → (u == x) ≡ b → (m + 1 == x % 2 ^ 32) ≡ d → b ≡ d
      same_count true true h e f = refl
      same_count false false h e f = refl
      same_count true false h e f =
          let same : u ≡ x = number_is u x e in
          let count : m + 1 ≡ x % 2 ^ 32 = omega (arith, same, l) in
          sym (sym f ∙ ap (λ i. m + 1 == i) (sym count) ∙ number_itself (m + 1))
      same_count false true h e f =
          let count : m + 1 ≡ x % 2 ^ 32 = number_is (m + 1) (x % 2 ^ 32) f in
          let same : u ≡ x = omega (arith, count, h) in
          sym e ∙ ap (λ i. u == i) (sym same) ∙ number_itself u

      by : (b : Bool) → (n == home_of x) ≡ b → ((u == x) || (x == 0 || (not (x % 2 ^ 32 == 0) && some (if b then one (nat_le (x % 2 ^ 32) m) else rest (home_of x) (x % 2 ^ 32)))))
          ≡ (x == 0 || (not (x % 2 ^ 32 == 0) && some (if b then one (nat_le (x % 2 ^ 32) (m + 1)) else rest (home_of x) (x % 2 ^ 32))))
      by true e =
          let h : n ≡ home_of x = number_is n (home_of x) e in
          shuffled (u == x) (x == 0) _ _ (ap (λ b. b || (not (x % 2 ^ 32 == 0) && some (one (nat_le (x % 2 ^ 32) m)))) (same_count (u == x) (m + 1 == x % 2 ^ 32) h refl refl) ∙ next_counted m (x % 2 ^ 32))
      by false e = ap (λ b. b || (x == 0 || (not (x % 2 ^ 32 == 0) && some (rest (home_of x) (x % 2 ^ 32))))) (apart (u == x) refl)
        where
          apart : (b : Bool) → (u == x) ≡ b → b ≡ false
          apart false d = refl
          apart true d =
              let same : u ≡ x = number_is u x d in
              let home : n ≡ home_of x = omega (arith, same, l) in
              sym (ap (λ i. n == i) (sym home) ∙ number_itself n) ∙ e

module _ (k : Cluster) (sound : IsSound k) (number : ℕ) (s : Server) (here : server_at k.servers number ≡ Some s) where
  abbrev sn : ℕ
  sn = s.rest.number

  abbrev elsewhere : ℕ → ℕ → ℕ
  elsewhere r i = tot (started_at r i) (things_of k)

  -- who was given before
  pub given_before : (x : ℕ) → is_given_thread (sight k) x ≡ given_upto sn elsewhere s.rest.started x
  given_before x = by (sn == home_of x) refl
    where
      by : (b : Bool) → (sn == home_of x) ≡ b → is_given_thread (sight k) x ≡ (x == 0 || (not (x % 2 ^ 32 == 0) && some (if b then one (nat_le (x % 2 ^ 32) s.rest.started) else elsewhere (home_of x) (x % 2 ^ 32))))
      by true e = ap (λ i. x == 0 || (not (x % 2 ^ 32 == 0) && some i)) (ap (λ r. tot (started_at r (x % 2 ^ 32)) (things_of k)) (sym (number_is sn (home_of x) e)) ∙ started_here k sound number s here (x % 2 ^ 32))
      by false e = refl

  -- and after the server started some more
  pub given_after : (c : Cluster) (r2 : Rest) → ((r i : ℕ) → tot (started_at r i) (things_of c) + started_at r i (counts_of sn 0 s.rest) ≡ tot (started_at r i) (things_of k) + started_at r i (counts_of sn 0 r2))
      → (x : ℕ) → is_given_thread (sight c) x ≡ given_upto sn elsewhere r2.started x
  given_after c r2 change x = ap (λ i. x == 0 || (not (x % 2 ^ 32 == 0) && some i)) (by (sn == home_of x) refl)
    where
      i : ℕ
      i = x % 2 ^ 32

      by : (b : Bool) → (sn == home_of x) ≡ b → tot (started_at (home_of x) (x % 2 ^ 32)) (things_of c) ≡ (if b then one (nat_le (x % 2 ^ 32) r2.started) else elsewhere (home_of x) (x % 2 ^ 32))
      by true e =
          let before : tot (started_at (home_of x) (x % 2 ^ 32)) (things_of k) ≡ one (nat_le (x % 2 ^ 32) s.rest.started) =
          ap (λ r. tot (started_at r (x % 2 ^ 32)) (things_of k)) (sym (number_is sn (home_of x) e)) ∙ started_here k sound number s here (x % 2 ^ 32) in
          let old : started_at (home_of x) (x % 2 ^ 32) (counts_of sn 0 s.rest) ≡ one (nat_le (x % 2 ^ 32) s.rest.started) = ap (λ b. one (b && nat_le (x % 2 ^ 32) s.rest.started)) e in
          let new : started_at (home_of x) (x % 2 ^ 32) (counts_of sn 0 r2) ≡ one (nat_le (x % 2 ^ 32) r2.started) = ap (λ b. one (b && nat_le (x % 2 ^ 32) r2.started)) e in
          omega (arith, change (home_of x) (x % 2 ^ 32), before, old, new)
      by false e =
          let old : started_at (home_of x) (x % 2 ^ 32) (counts_of sn 0 s.rest) ≡ 0 = ap (λ b. one (b && nat_le (x % 2 ^ 32) s.rest.started)) e in
          let new : started_at (home_of x) (x % 2 ^ 32) (counts_of sn 0 r2) ≡ 0 = ap (λ b. one (b && nat_le (x % 2 ^ 32) r2.started)) e in
          omega (arith, change (home_of x) (x % 2 ^ 32), old, new)

  -- a name that comes next isn't there
  pub none_stands : (c : ℕ) → s.rest.started < c → c < 2 ^ 32 → tot (is_thread (sn * 2 ^ 32 + c)) (things_of k) ≡ 0
  none_stands c l m = (new_names k number s here (sound_has_sums k sound) sound.names.names_counted).threads c l m

  -- its home is this server, and its server is the one that its name tells
  pub its_home : (c : ℕ) → c < 2 ^ 32 → (home_of (sn * 2 ^ 32 + c) == sn) ≡ true
  its_home c l = let home : home_of (sn * 2 ^ 32 + c) ≡ sn = omega (arith, l) in ap (λ i. i == sn) home ∙ number_itself sn

  -- the server is told by the name
  pub its_server : (o : Options) (c : ℕ) → c < 2 ^ 32 → (((sn + c) % o.servers) == starting_server o (sn * 2 ^ 32 + c)) ≡ true
  its_server o c l =
      let home : home_of (sn * 2 ^ 32 + c) ≡ sn = omega (arith, l) in
      let count : count_of (sn * 2 ^ 32 + c) ≡ c = omega (arith, l) in
      ap₂ (λ a b. ((sn + c) % o.servers) == ((a + b) % o.servers)) home count ∙ number_itself ((sn + c) % o.servers)

  -- nor was it started
  pub not_given : (c : ℕ) → s.rest.started < c → c < 2 ^ 32 → is_given_thread (sight k) (sn * 2 ^ 32 + c) ≡ false
  not_given c l m =
      given_before (sn * 2 ^ 32 + c) ∙ ap₂ (λ a b. a || (not ((sn * 2 ^ 32 + c) % 2 ^ 32 == 0) && some (if b then one (nat_le ((sn * 2 ^ 32 + c) % 2 ^ 32) s.rest.started) else elsewhere (home_of (sn * 2 ^ 32 + c)) ((sn * 2 ^ 32 + c) % 2 ^ 32)))) (nonzero (sn * 2 ^ 32 + c == 0) refl) at_home
      ∙ ap (λ b. not ((sn * 2 ^ 32 + c) % 2 ^ 32 == 0) && some (one b)) (above_all (nat_le ((sn * 2 ^ 32 + c) % 2 ^ 32) s.rest.started) refl) ∙ none (not ((sn * 2 ^ 32 + c) % 2 ^ 32 == 0))
    where
      none : (b : Bool) → (b && false) ≡ false
      none true = refl
      none false = refl

      nonzero : (b : Bool) → (sn * 2 ^ 32 + c == 0) ≡ b → b ≡ false
      nonzero false e = refl
      nonzero true e = absurd (let z : sn * 2 ^ 32 + c ≡ 0 = number_is (sn * 2 ^ 32 + c) 0 e in omega (arith, z, l))

      at_home : (sn == home_of (sn * 2 ^ 32 + c)) ≡ true
      at_home = let home : home_of (sn * 2 ^ 32 + c) ≡ sn = omega (arith, m) in ap (λ i. sn == i) home ∙ number_itself sn

      above_all : (b : Bool) → nat_le ((sn * 2 ^ 32 + c) % 2 ^ 32) s.rest.started ≡ b → b ≡ false
      above_all false e = refl
      above_all true e =
          let count : (sn * 2 ^ 32 + c) % 2 ^ 32 ≡ c = omega (arith, m) in
          let less : nat_le c s.rest.started ≡ true = ap (λ i. nat_le i s.rest.started) (sym count) ∙ e in
          absurd (grind (arith, nat_tests, less, l))
