-- The servers of a run stay of their types, from one server to the cluster with the messages handed over.
use Rattle.std.proofs.Common.{◌≡◌, ◌<◌, ℕ, ◌+◌, ◌==◌, Bool, true, false, if◌then◌else◌, List, [], ◌∷◌, Some, refl, sym, ap, subst, ◌∙◌, arith}
use Rattle.std.proofs.lemmas.Bool.{eq-eqb}
use Rattle.std.proofs.lemmas.Bool.Decides.{nat_tests}
use Rattle.law_counts_limits.proofs.Below.fr_typing.PlaceLemmas.{eq_cases}
use Rattle.law_counts_limits.specs.Below.owner_box.View.{PartitionState}
use Rattle.law_counts_limits.specs.Below.read_cache.Cache.{Copy}
use Rattle.law_counts_limits.specs.Below.mutex_home.Mutexes.{Mutexes}
use Rattle.law_counts_limits.specs.Below.join_home.Tasks.{Task}
use Rattle.law_counts_limits.specs.Below.thread_state.View.{ThreadState}
use Rattle.law_counts_limits.specs.Below.server_model.Servers.{Sent, Server, server_at}
use Rattle.law_counts_limits.specs.Below.server_model.Clusters.{with_server, with_outbox, accept_at, accept_all}
use Rattle.law_counts_limits.specs.Below.coherent_memory.Names.{tot, other}
use Rattle.law_counts_limits.specs.Below.coherent_memory.Sight.{Sight}
use Rattle.law_counts_limits.specs.Below.coherent_memory.Placing.{sum_over}
use Rattle.law_counts_limits.specs.Below.coherent_memory.Naming.{free_colours, is_retired, cached_twice, server_wrong, servers_wrong}
use Rattle.law_types_events.proofs.parts.Rising.{Rises}
use Rattle.law_types_events.proofs.parts.Lists.{count_of, name_of, number_of}

-- numbers that are the same, as the sentence counts it
pub same_number : (a b : ℕ) → other (a == b) ≡ 0 → a ≡ b
same_number a b z = by (a == b) refl z
  where
    by : (c : Bool) → (a == b) ≡ c → other c ≡ 0 → a ≡ b
    by true e z = grind (arith, nat_tests, e)
    by false e z = absurd (cc z)

pub number_same : (a b : ℕ) → a ≡ b → other (a == b) ≡ 0
number_same a b e = ap other (eq-eqb a b e)

-- what the sentence says of one server, of whose addresses so many are retired
pub record IsTyped (colours retired n number : ℕ) (p : PartitionState) (cs : List Copy) (ms : Mutexes) (ts : List Task) (threads : List ThreadState) : Type 0 where
  pub numbered : number ≡ n
  pub own : p.server ≡ n
  pub limited : p.limit ≡ colours
  pub coloured : tot free_colours p.free ≡ 0
  pub counted : retired ≡ p.retired
  pub cached : tot (cached_twice cs) cs ≡ 0
  pub homed : ms.home ≡ n
  pub mutexes_rise : Rises count_of ms.there
  pub tasks_rise : Rises name_of ts
  pub threads_rise : Rises number_of threads

abbrev pub ServerTyped : ℕ → ℕ → ℕ → Server → Type 0
ServerTyped colours retired n x = IsTyped colours retired n x.rest.number x.rest.partition x.rest.cache x.rest.mutexes x.rest.tasks x.threads

-- the sentence of one server, and back
typed_from : (s : Sight) (n : ℕ) (x : Server) → server_wrong s n x ≡ 0 → ServerTyped s.options.colours (sum_over s (is_retired n)) n x
typed_from s n x z = record {
  numbered = same_number x.rest.number n (omega (arith, z));
  own = same_number x.rest.partition.server n (omega (arith, z));
  limited = same_number x.rest.partition.limit s.options.colours (omega (arith, z));
  coloured = omega (arith, z);
  counted = same_number (sum_over s (is_retired n)) x.rest.partition.retired (omega (arith, z));
  cached = omega (arith, z);
  homed = same_number x.rest.mutexes.home n (omega (arith, z));
  mutexes_rise = omega (arith, z);
  tasks_rise = omega (arith, z);
  threads_rise = omega (arith, z);
}

typed_to : (s : Sight) (n : ℕ) (x : Server) → ServerTyped s.options.colours (sum_over s (is_retired n)) n x → server_wrong s n x ≡ 0
typed_to s n x g =
    let retired : ℕ = sum_over s (is_retired n) in
    let a : other (x.rest.number == n) ≡ 0 = number_same x.rest.number n g.numbered in
    let b : other (x.rest.partition.server == n) ≡ 0 = number_same x.rest.partition.server n g.own in
    let c : other (x.rest.partition.limit == s.options.colours) ≡ 0 = number_same x.rest.partition.limit s.options.colours g.limited in
    let d : other (sum_over s (is_retired n) == x.rest.partition.retired) ≡ 0 = number_same (sum_over s (is_retired n)) x.rest.partition.retired g.counted in
    let e : other (x.rest.mutexes.home == n) ≡ 0 = number_same x.rest.mutexes.home n g.homed in
    omega (arith, a, b, c, d, e, g.coloured, g.cached, g.mutexes_rise, g.tasks_rise, g.threads_rise)

-- all servers from a number on, up to so many
abbrev pub AllTyped : ℕ → (ℕ → ℕ) → ℕ → ℕ → List Server → Type 0
AllTyped colours retired all n [] = n ≡ all
AllTyped colours retired all n (x ∷ xs) = ServerTyped colours (retired n) n x × AllTyped colours retired all (n + 1) xs

-- of all servers, and back
pub all_from : (s : Sight) (n : ℕ) (ss : List Server) → servers_wrong s n ss ≡ 0 → AllTyped s.options.colours (λ m. sum_over s (is_retired m)) s.options.servers n ss
all_from s n [] z = same_number n s.options.servers z
all_from s n (x ∷ xs) z = (typed_from s n x (omega (arith, z)), all_from s (n + 1) xs (omega (arith, z)))

pub all_to : (s : Sight) (n : ℕ) (ss : List Server) → AllTyped s.options.colours (λ m. sum_over s (is_retired m)) s.options.servers n ss → servers_wrong s n ss ≡ 0
all_to s n [] g = number_same n s.options.servers g
all_to s n (x ∷ xs) g = omega (arith, typed_to s n x g.0, all_to s (n + 1) xs g.1)

module _ (colours : ℕ) (retired : ℕ → ℕ) (all : ℕ) where
  -- the one that is found
  pub found_typed : (i n : ℕ) (ss : List Server) (s : Server) → AllTyped colours retired all i ss → server_at ss n ≡ Some s → ServerTyped colours (retired n) n s
  found_typed i n [] s g e = absurd (cc e)
  found_typed i n (x ∷ ss) s g e =
      eq_cases (λ b. (if b then Some x else server_at ss n) ≡ Some s → ServerTyped colours (retired n) n s) x.rest.number n
      (λ q d.
      let same : x ≡ s = some_same d in
      let first = g.0 in
      let at : i ≡ n = sym first.numbered ∙ q in
      subst (λ y. ServerTyped colours (retired n) n y) same (subst (λ m. ServerTyped colours (retired m) m x) at first))
      (λ ne d. found_typed (i + 1) n ss s g.1 d) e
    where
      some_same : {a b : Server} → Some a ≡ Some b → a ≡ b
      some_same e = cc

  module _ (later : ℕ → ℕ) (n : ℕ) (same : (m : ℕ) → (m ≡ n → ⊥) → later m ≡ retired m) where
    -- beyond that number all is as it was
    rest_typed : (i : ℕ) (ss : List Server) → n < i → AllTyped colours retired all i ss → AllTyped colours later all i ss
    rest_typed i [] l g = g
    rest_typed i (x ∷ ss) l g = (subst (λ m. ServerTyped colours m i x) (sym (same i (λ e. omega (arith, e, l)))) g.0, rest_typed (i + 1) ss (omega (arith, l)) g.1)

    -- another state of one of them
    pub with_typed : (i : ℕ) (ss : List Server) (new : Server) → ServerTyped colours (later n) n new → AllTyped colours retired all i ss → AllTyped colours later all i (with_server ss n new)
    with_typed i [] new h g = g
    with_typed i (x ∷ ss) new h g =
        eq_cases (λ b. AllTyped colours later all i (if b then new ∷ ss else x ∷ with_server ss n new)) x.rest.number n
        (λ q.
        let first = g.0 in
        let at : n ≡ i = sym q ∙ first.numbered in
        (subst (λ m. ServerTyped colours (later m) m new) at h, rest_typed (i + 1) ss (omega (arith, at)) g.1))
        (λ ne.
        let first = g.0 in
        let apart : i ≡ n → ⊥ = λ e. ne (first.numbered ∙ e) in
        (subst (λ m. ServerTyped colours m i x) (sym (same i apart)) first, with_typed (i + 1) ss new h g.1))

-- messages that wait change nothing of it
module _ (colours : ℕ) (retired : ℕ → ℕ) (all : ℕ) where
  -- a message more waits
  accept_typed : (i : ℕ) (ss : List Server) (x : Sent) → AllTyped colours retired all i ss → AllTyped colours retired all i (accept_at ss x)
  accept_typed i [] x g = g
  accept_typed i (s ∷ ss) x g = by (s.rest.number == x.target) (accept_typed (i + 1) ss x g.1)
    where
      by : (b : Bool) → AllTyped colours retired all (i + 1) (accept_at ss x) → AllTyped colours retired all i (if b then Rattle.law_counts_limits.specs.Below.server_model.Clusters.accept x.message s ∷ ss else s ∷ accept_at ss x)
      by true h = (g.0, g.1)
      by false h = (g.0, h)

  -- all messages
  pub accepted_typed : (i : ℕ) (ss : List Server) (xs : List Sent) → AllTyped colours retired all i ss → AllTyped colours retired all i (accept_all ss xs)
  accepted_typed i ss [] g = g
  accepted_typed i ss (x ∷ xs) g = accepted_typed i (accept_at ss x) xs (accept_typed i ss x g)
