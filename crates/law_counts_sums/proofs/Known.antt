-- What an event reads of a server and of the thread in its hand names servers of the run alone: words, homes of mutexes and of threads.
use Rattle.std.proofs.Common.{◌≡◌, ℕ, zero, suc, ◌+◌, ◌^◌, ◌<◌, ◌==◌, Bool, true, false, nat_lt, if◌then◌else◌, List, [], ◌∷◌, ◌++◌, length, take, Option, Some, None, IsSome, sym, ap, subst, ◌∙◌, arith}
use Rattle.std.specs.Prelude.{slice_get, slice_set, slice_index_or}
use Rattle.std.specs.List.{AllByRecursion}
use Rattle.std.specs.Bool.{⊤}
use Rattle.std.proofs.lemmas.Bool.Decides.{nat_tests}
use Rattle.coherent_memory.specs.Below.global_addr.Words.{word_of, colour_of, server_of, address_of, next_word}
use Rattle.coherent_memory.specs.Below.heap_partition.declared.value.Cell.{Cell}
use Rattle.coherent_memory.specs.Below.heap_partition.declared.value.Owned.{Owned}
use Rattle.coherent_memory.specs.Below.heap_partition.declared.value.Owned.TheVariants as owned
use Rattle.coherent_memory.specs.Below.colour_retire.Colours.{picked, rest_of}
use Rattle.coherent_memory.specs.Below.owner_box.View.{PartitionState}
use Rattle.coherent_memory.specs.Below.owner_box.Partition.{cell_of, with_value, stored, put_cell, new_word, made, freed, made_again, renewed}
use Rattle.coherent_memory.specs.Below.read_cache.Cache.{Copy, copy_of, with_users}
use Rattle.coherent_memory.specs.Below.thread_state.declared.value.Value.{Value}
use Rattle.coherent_memory.specs.Below.thread_state.declared.value.Value.TheVariants as value
use Rattle.coherent_memory.specs.Below.server_model.Servers.{Server, server_at}
use Rattle.coherent_memory.specs.Below.server_model.Drop.{home_of}
use Rattle.coherent_memory.specs.Below.server_model.NewWords.{can_grow}
use Rattle.law_counts_sums.specs.Laws.{Gives}
use Rattle.law_counts_sums.proofs.Objects.{length_set}

-- the server is of the run
abbrev pub Here : List Server → ℕ → Type 0
Here ss n = IsSome (server_at ss n)

abbrev pub OwnedKnown : List Server → Owned → Type 0
OwnedKnown ss (owned.Box p) = Here ss (server_of p.word)
OwnedKnown ss (owned.Mutex m) = Here ss m.home
OwnedKnown ss (owned.Task t) = Here ss (home_of t)
OwnedKnown ss v = ⊤

abbrev pub ValueKnown : List Server → Value → Type 0
ValueKnown ss (value.Own v) = OwnedKnown ss v
ValueKnown ss (value.Shared r) = Here ss (server_of r.word)
ValueKnown ss (value.Mut r) = Here ss (server_of r.word)
ValueKnown ss (value.Held m) = Here ss m.home
ValueKnown ss v = ⊤

abbrev pub CellKnown : List Server → Option Cell → Type 0
CellKnown ss c = Gives (λ (d : Cell). OwnedKnown ss d.value) c

abbrev pub CopyKnown : List Server → Copy → Type 0
CopyKnown ss c = OwnedKnown ss c.cell.value

-- each word that a partition issues is of its server, since that is below 2 ^ 8 and no free address reaches 2 ^ 40
pub record PartitionKnown (ss : List Server) (p : PartitionState) : Type 0 where
  pub cells_known : AllByRecursion (CellKnown ss) p.cells
  pub addresses : AllByRecursion (λ (x : ℕ × ℕ). x.0 < 2 ^ 40) p.free
  pub here : Here ss p.server
  pub small : p.server < 2 ^ 8

-- of a thread its slots, its temporary values and its home; of its server the partition and the copies
pub record Known (ss : List Server) (home : ℕ) (slots temps : List Value) (p : PartitionState) (cs : List Copy) : Type 0 where
  pub home_here : Here ss home
  pub slots_known : AllByRecursion (ValueKnown ss) slots
  pub temps_known : AllByRecursion (ValueKnown ss) temps
  pub partition_known : PartitionKnown ss p
  pub copies_known : AllByRecursion (CopyKnown ss) cs

-- WHAT HOLDS OF EACH OF A LIST

module _ {X : Type 0} (P : X → Type 0) where
  pub all_at : (xs : List X) (i : ℕ) (x : X) → AllByRecursion P xs → slice_get xs i ≡ Some x → P x
  all_at [] i x a e = absurd (cc e)
  all_at (y ∷ xs) zero x a e = let same : y ≡ x = cc in subst P same a.0
  all_at (y ∷ xs) (suc i) x a e = all_at xs i x a.1 e

  pub all_or : (xs : List X) (i : ℕ) (x : X) → AllByRecursion P xs → P x → P (slice_index_or xs i x)
  all_or [] i x a p = p
  all_or (y ∷ xs) zero x a p = a.0
  all_or (y ∷ xs) (suc i) x a p = all_or xs i x a.1 p

  pub all_set : (xs : List X) (i : ℕ) (x : X) → AllByRecursion P xs → P x → AllByRecursion P (slice_set xs i x)
  all_set [] i x a p = tt
  all_set (y ∷ xs) zero x a p = (p, a.1)
  all_set (y ∷ xs) (suc i) x a p = (a.0, all_set xs i x a.1 p)

  pub all_append : (xs ys : List X) → AllByRecursion P xs → AllByRecursion P ys → AllByRecursion P (xs ++ ys)
  all_append [] ys a b = b
  all_append (x ∷ xs) ys a b = (a.0, all_append xs ys a.1 b)

  pub all_take : (n : ℕ) (xs : List X) → AllByRecursion P xs → AllByRecursion P (take n xs)
  all_take zero xs a = tt
  all_take (suc n) [] a = tt
  all_take (suc n) (x ∷ xs) a = (a.0, all_take n xs a.1)

-- WORDS

pub next_server : (w : ℕ) → server_of (next_word w) ≡ server_of w
next_server w = omega arith

word_server : (c s a : ℕ) → s < 2 ^ 8 → a < 2 ^ 40 → server_of (word_of c s a) ≡ s
word_server c s a l m = omega (arith, l, m)

-- PARTITIONS

module _ (ss : List Server) where
  valued : (v : Owned) (c : Option Cell) → OwnedKnown ss v → CellKnown ss (with_value v c)
  valued v None k = tt
  valued v (Some c) k = k

  pub stored_known : (p : PartitionState) (w : ℕ) (v : Owned) → OwnedKnown ss v → PartitionKnown ss p → PartitionKnown ss (stored p w v)
  stored_known p w v k g = record {
    cells_known = all_set (CellKnown ss) p.cells (address_of w) (with_value v (cell_of p w)) g.cells_known (valued v (cell_of p w) k);
    addresses = g.addresses;
    here = g.here;
    small = g.small;
  }

  pub freed_known : (p : PartitionState) (w : ℕ) → PartitionKnown ss p → PartitionKnown ss (freed p w)
  freed_known p w g = record {
    cells_known = all_set (CellKnown ss) p.cells (address_of w) None g.cells_known tt;
    addresses = by (nat_lt (colour_of w + 1) p.limit);
    here = g.here;
    small = g.small;
  }
    where
      by : (b : Bool) → AllByRecursion (λ (x : ℕ × ℕ). x.0 < 2 ^ 40) (if b then (address_of w, colour_of w + 1) ∷ p.free else p.free)
      by true = (omega arith, g.addresses)
      by false = g.addresses

  pub made_known : (p : PartitionState) (c : Cell) → OwnedKnown ss c.value → PartitionKnown ss p → PartitionKnown ss (made p c)
  made_known p c k g = record {
    cells_known = put (picked p.free (length p.cells)).0;
    addresses = fewer p.free g.addresses;
    here = g.here;
    small = g.small;
  }
    where
      put : (a : ℕ) → AllByRecursion (CellKnown ss) (put_cell p.cells a c)
      put a = by (a == length p.cells)
        where
          by : (b : Bool) → AllByRecursion (CellKnown ss) (if b then p.cells ++ Some c ∷ [] else slice_set p.cells a (Some c))
          by true = all_append (CellKnown ss) p.cells (Some c ∷ []) g.cells_known (k, tt)
          by false = all_set (CellKnown ss) p.cells a (Some c) g.cells_known k

      fewer : (xs : List (ℕ × ℕ)) → AllByRecursion (λ (x : ℕ × ℕ). x.0 < 2 ^ 40) xs → AllByRecursion (λ (x : ℕ × ℕ). x.0 < 2 ^ 40) (rest_of xs)
      fewer [] a = tt
      fewer (x ∷ xs) a = a.1

  pub cell_known : (p : PartitionState) (w : ℕ) → PartitionKnown ss p → CellKnown ss (cell_of p w)
  cell_known p w g = all_or (CellKnown ss) p.cells (address_of w) None g.cells_known tt

  pub renewed_known : (p : PartitionState) (w : ℕ) → PartitionKnown ss p → PartitionKnown ss (renewed p w)
  renewed_known p w g = by (cell_of p w) (cell_known p w g)
    where
      by : (c : Option Cell) → CellKnown ss c → PartitionKnown ss (made_again (freed p w) c)
      by None k = freed_known p w g
      by (Some c) k = made_known (freed p w) c k (freed_known p w g)

  -- the word of the next object is of the partition's server
  pub issued_here : (p : PartitionState) → can_grow p ≡ true → PartitionKnown ss p → Here ss (server_of (new_word p))
  issued_here p grows g =
      let few : length p.cells < 2 ^ 40 = grind (arith, nat_tests, grows) in
      subst (Here ss) (sym (word_server (picked p.free (length p.cells)).1 p.server (picked p.free (length p.cells)).0 g.small (place p.free few g.addresses))) g.here
    where
      place : (xs : List (ℕ × ℕ)) → length p.cells < 2 ^ 40 → AllByRecursion (λ (x : ℕ × ℕ). x.0 < 2 ^ 40) xs → (picked xs (length p.cells)).0 < 2 ^ 40
      place [] l a = l
      place (x ∷ xs) l a = a.0

  pub renewal_here : (p : PartitionState) (w : ℕ) → can_grow p ≡ true → PartitionKnown ss p → Here ss (server_of (new_word (freed p w)))
  renewal_here p w grows g =
      let more : can_grow (freed p w) ≡ true = ap (λ n. nat_lt n (2 ^ 40)) (length_set p.cells (address_of w) None) ∙ grows in
      issued_here (freed p w) more (freed_known p w g)

  -- COPIES

  pub copy_known : (cs : List Copy) (w : ℕ) → AllByRecursion (CopyKnown ss) cs → Gives (CopyKnown ss) (copy_of cs w)
  copy_known [] w a = tt
  copy_known (c ∷ cs) w a = by (c.word == w) (copy_known cs w a.1)
    where
      by : (b : Bool) → Gives (CopyKnown ss) (copy_of cs w) → Gives (CopyKnown ss) (if b then Some c else copy_of cs w)
      by true g = a.0
      by false g = g

  pub users_known : (cs : List Copy) (w n : ℕ) → AllByRecursion (CopyKnown ss) cs → AllByRecursion (CopyKnown ss) (with_users cs w n)
  users_known [] w n a = tt
  users_known (c ∷ cs) w n a = by (c.word == w) (users_known cs w n a.1)
    where
      by : (b : Bool) → AllByRecursion (CopyKnown ss) (with_users cs w n) → AllByRecursion (CopyKnown ss) (if b then record c { users = n } ∷ cs else c ∷ with_users cs w n)
      by true g = (a.0, a.1)
      by false g = (a.0, g)
