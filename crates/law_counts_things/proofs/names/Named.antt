-- What an event of a sound cluster leaves of names: words, threads and mutexes, and how many there are.
use Rattle.std.proofs.Common.{◌≡◌, ℕ, zero, suc, ◌+◌, ◌*◌, ◌^◌, ◌<◌, ◌≤◌, ◌==◌, ◌&&◌, ◌||◌, nat_lt, nat_le, Bool, true, false, if◌then◌else◌, List, [], ◌∷◌, Some, refl, sym, ap, subst, ◌∙◌, arith}
use Rattle.std.proofs.lemmas.Bool.Decides.{nat_tests}
use Rattle.law_counts_things.proofs.Below.fr_typing.PlaceLemmas.{eq_cases}
use Rattle.law_counts_things.specs.Below.fr_base.declared.name.MutexNo.{MutexNo}
use Rattle.law_counts_things.specs.Below.fr_base.declared.name.ObjNo.{ObjNo}
use Rattle.law_counts_things.specs.Below.fr_base.declared.instruction.Instr.{Instr}
use Rattle.law_counts_things.specs.Below.fr_base.declared.settings.Options.{Options}
use Rattle.law_counts_things.specs.Below.heap_partition.declared.value.Cell.{Cell}
use Rattle.law_counts_things.specs.Below.global_addr.Words.{word_of, colour_of, next_word}
use Rattle.law_counts_things.specs.Below.journal.View.{EntryView}
use Rattle.law_counts_things.specs.Below.server_model.declared.event.What.{What}
use Rattle.law_counts_things.specs.Below.server_model.declared.event.What.TheVariants.{Step, Deliver, Evict, Migrate}
use Rattle.law_counts_things.specs.Below.server_model.Servers.{Server, Cluster, server_at}
use Rattle.law_counts_things.specs.Below.server_model.Events.{does}
use Rattle.law_counts_things.specs.Below.coherent_memory.Names.{tot, other, some}
use Rattle.law_counts_things.specs.Below.coherent_memory.Things.{Thing, counts, things_of}
use Rattle.law_counts_things.specs.Below.coherent_memory.Sight.{Sight, sight}
use Rattle.law_counts_things.specs.Below.coherent_memory.Requests.{home_of}
use Rattle.law_counts_things.specs.Below.coherent_memory.Naming.{count_of, started_at, made_at, zeroth_thread, zeroth_mutex, event_count, events_of, above, many_names, servers_wrong}
use Rattle.law_counts_things.specs.Below.law_counts_sums.Laws.{Gives}
use Rattle.law_counts_things.proofs.Below.law_counts_sums.Results.{map_gives}
use Rattle.law_counts_things.proofs.names.Fit.{Weights, Base}
use Rattle.law_counts_things.proofs.names.Counts.{Plain}

-- SMALL FACTS

pub below_limit : (m n : ℕ) → m ≤ n → above n m ≡ 0
below_limit m n l = by (nat_le m n) refl
  where
    by : (b : Bool) → nat_le m n ≡ b → other b ≡ 0
    by true e = refl
    by false e = absurd (grind (arith, nat_tests, e, l))

pub above_less : (m n p : ℕ) → n ≤ p → above p m ≤ above n m
above_less m n p l = by (nat_le m n) refl
  where
    by : (b : Bool) → nat_le m n ≡ b → above p m ≤ other b
    by true e = let small : m ≤ n = grind (arith, nat_tests, e) in omega (arith, below_limit m p (omega (arith, small, l)))
    by false e = at_one (nat_le m p)
      where
        at_one : (b : Bool) → other b ≤ 1
        at_one true = omega arith
        at_one false = omega arith

same_number : (m n : ℕ) → other (m == n) ≡ 0 → m ≡ n
same_number m n z = by (m == n) refl z
  where
    by : (b : Bool) → (m == n) ≡ b → other b ≡ 0 → m ≡ n
    by true e z = grind (arith, nat_tests, e)
    by false e z = absurd (cc z)

-- what isn't so of either isn't so of the first
pub other_or : (a b : Bool) → other (a || b) ≤ other a
other_or true b = omega arith
other_or false true = omega arith
other_or false false = omega arith

pub or_second : (a b : Bool) → b ≡ true → other (a || b) ≡ 0
or_second true b e = refl
or_second false b e = ap other e

-- where it weighs nothing if the other does, it is at most the other
pub some_le : (n m : ℕ) → (m ≡ 0 → 1 ≤ n) → other (some n) ≤ m
some_le zero zero f = absurd (omega (arith, f refl))
some_le zero (suc m) f = omega arith
some_le (suc n) m f = omega arith

pub colour_is : (c s a : ℕ) → s < 2 ^ 8 → a < 2 ^ 40 → colour_of (word_of c s a) ≡ c
colour_is c s a l m = omega (arith, l, m)

pub next_colour : (v : ℕ) → colour_of (next_word v) ≡ colour_of v + 1
next_colour v = omega arith

pub home_is : (n c : ℕ) → c < 2 ^ 32 → home_of (n * 2 ^ 32 + c) ≡ n
home_is n c l = omega (arith, l)

pub count_is : (n c : ℕ) → c < 2 ^ 32 → count_of (n * 2 ^ 32 + c) ≡ c
count_is n c l = omega (arith, l)

-- THE SERVER OF AN EVENT

-- its partition is under the run's colours, and it is the home of its mutexes
pub placed : (q : Sight) (m n : ℕ) (ss : List Server) (s : Server) → servers_wrong q m ss ≡ 0 → server_at ss n ≡ Some s → (s.rest.partition.limit ≡ q.options.colours) × (s.rest.mutexes.home ≡ s.rest.number)
placed q m n [] s z h = absurd (cc h)
placed q m n (x ∷ ss) s z h =
    let limit : x.rest.partition.limit ≡ q.options.colours = same_number x.rest.partition.limit q.options.colours (omega (arith, z)) in
    let numbered : x.rest.number ≡ m = same_number x.rest.number m (omega (arith, z)) in
    let home : x.rest.mutexes.home ≡ m = same_number x.rest.mutexes.home m (omega (arith, z)) in
    eq_cases (λ b. (if b then Some x else server_at ss n) ≡ Some s → (s.rest.partition.limit ≡ q.options.colours) × (s.rest.mutexes.home ≡ s.rest.number)) x.rest.number n
    (λ e d. let same : x ≡ s = cc in subst (λ (y : Server). (y.rest.partition.limit ≡ q.options.colours) × (y.rest.mutexes.home ≡ y.rest.number)) same (limit, home ∙ sym numbered))
    (λ ne d. placed q (m + 1) n ss s (omega (arith, z)) d) h

-- an event more was done
pub more_events : (code : List Instr) (o : Options) (s : Server) (e : What) → Gives (λ (r : Server × EntryView). r.0.events ≡ s.events + 1) (does code o s e)
more_events code o s (Step t) = map_gives (λ (r : Server × EntryView). r.0.events ≡ s.events + 1) _ _ (λ d q. refl)
more_events code o s (Deliver i) = map_gives (λ (r : Server × EntryView). r.0.events ≡ s.events + 1) _ _ (λ d q. refl)
more_events code o s (Evict v) = map_gives (λ (r : Server × EntryView). r.0.events ≡ s.events + 1) _ _ (λ d q. refl)
more_events code o s (Migrate t u) = map_gives (λ (r : Server × EntryView). r.0.events ≡ s.events + 1) _ _ (λ d q. refl)

-- WEIGHTS OF NAMES

-- a thread or a mutex that isn't counted by a server's counts, as they were or as they will be at that server
abbrev pub uncounted : List Thing → Base → ℕ → ℕ
uncounted b j t = other (some (tot (started_at (home_of t) (count_of t)) b) || (home_of t == j.number && nat_le (count_of t) j.started))

abbrev pub unmade : List Thing → Base → MutexNo → ℕ
unmade b j m = other (some (tot (made_at m.home m.count) b) || (m.home == j.number && nat_le m.count j.made))

-- weights of holders, of marks among temporary values, of who asks, of objects of cells, of threads that go on, of copies and of words of which one was asked for
pub record Also : Type 0 where
  pub holder : ℕ → ℕ
  pub mark : ℕ
  pub asker : ℕ → ℕ → ℕ
  pub object : ObjNo → ℕ
  pub going : ℕ → ℕ → ℕ
  pub copy : ℕ → Cell → ℕ
  pub wanted : ℕ → ℕ

abbrev pub names : Cluster → Also → Base → Weights
names k also j = record {
  word = λ v. other (nat_lt (colour_of v) k.options.colours);
  thread = λ t. zeroth_thread t + uncounted (things_of k) j t;
  mutex = λ m. zeroth_mutex m + unmade (things_of k) j m;
  object = also.object;
  holder = also.holder;
  colour = λ c. other (nat_lt c k.options.colours);
  made = above (2 * (events_of (sight k) + 1));
  mark = also.mark;
  asker = also.asker;
  going = also.going;
  copy = also.copy;
  wanted = also.wanted;
}

-- of a server's counts, those of names
abbrev pub counted : ℕ → Thing → ℕ
counted n (counts r next old started made events) = above (2 * n) started + above (2 * n) made
counted n x = 0

pub counted_plain : (n : ℕ) (x : Thing) → Plain x → counted n x ≡ 0
counted_plain n (counts r next old started made events) p = absurd p
counted_plain n x p = refl

pub started_plain : (s n : ℕ) (x : Thing) → Plain x → started_at s n x ≡ 0
started_plain s n (counts r next old started made events) p = absurd p
started_plain s n x p = refl

pub made_plain : (s n : ℕ) (x : Thing) → Plain x → made_at s n x ≡ 0
made_plain s n (counts r next old started made events) p = absurd p
made_plain s n x p = refl

pub events_plain : (x : Thing) → Plain x → event_count x ≡ 0
events_plain (counts r next old started made events) p = absurd p
events_plain x p = refl

pub counted_less : (n : ℕ) (x : Thing) → counted n x ≤ many_names n x
counted_less n (counts r next old started made events) = omega arith
counted_less n x = omega arith

pub counted_later : (n : ℕ) (x : Thing) → counted (n + 1) x ≤ many_names n x
counted_later n (counts r next old started made events) = omega (arith, above_less started (2 * n) (2 * (n + 1)) (omega arith), above_less made (2 * n) (2 * (n + 1)) (omega arith))
counted_later n x = omega arith
