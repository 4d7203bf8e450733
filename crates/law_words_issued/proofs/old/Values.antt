-- The first words of a thread's references, in its slots and among its temporary values.
use Rattle.std.proofs.Common.{◌≡◌, ℕ, ◌+◌, List, [], ◌∷◌, refl, arith}
use Rattle.std.specs.Prelude.{map}
use Rattle.std.specs.List.{AllByRecursion}
use Rattle.law_walks_own.specs.Below.migration.Packing.{unpinned}
use Rattle.law_walks_own.specs.Below.thread_state.View.{ThreadState}
use Rattle.law_walks_own.specs.Below.thread_state.declared.value.Value.{Value}
use Rattle.law_walks_own.specs.Below.thread_state.declared.value.Value.TheVariants as value
use Rattle.law_walks_own.specs.Below.coherent_memory.Names.{tot}
use Rattle.law_walks_own.specs.Below.coherent_memory.Follow.{Standing}

-- the first word of a mutable reference weighs so much
abbrev pub first_in : (ℕ → ℕ) → Value → ℕ
first_in f (value.Mut r) = f r.first
first_in f v = 0

-- those of a thread
abbrev pub firsts_of : (ℕ → ℕ) → ThreadState → ℕ
firsts_of f t = tot (first_in f) t.slots + tot (first_in f) t.temps

abbrev pub firsts : (ℕ → ℕ) → Standing → ℕ
firsts f x = firsts_of f x.thread

-- it weighs nothing
abbrev pub Fine : (ℕ → ℕ) → Value → Type 0
Fine f v = first_in f v ≡ 0

abbrev pub AllFine : (ℕ → ℕ) → ThreadState → Type 0
AllFine f t = AllByRecursion (Fine f) t.slots × AllByRecursion (Fine f) t.temps

none_each : (f : ℕ → ℕ) (vs : List Value) → tot (first_in f) vs ≡ 0 → AllByRecursion (Fine f) vs
none_each f [] z = tt
none_each f (v ∷ vs) z = (omega (arith, z), none_each f vs (omega (arith, z)))

pub each_none : (f : ℕ → ℕ) (vs : List Value) → AllByRecursion (Fine f) vs → tot (first_in f) vs ≡ 0
each_none f [] a = refl
each_none f (v ∷ vs) a = omega (arith, a.0, each_none f vs a.1)

pub all_fine : (f : ℕ → ℕ) (t : ThreadState) → firsts_of f t ≡ 0 → AllFine f t
all_fine f t z = (none_each f t.slots (omega (arith, z)), none_each f t.temps (omega (arith, z)))

pub none_weighs : (f : ℕ → ℕ) (t : ThreadState) → AllFine f t → firsts_of f t ≡ 0
none_weighs f t a = omega (arith, each_none f t.slots a.0, each_none f t.temps a.1)

-- a parcel's values have the same
unpinned_first : (f : ℕ → ℕ) (v : Value) → first_in f (unpinned v) ≡ first_in f v
unpinned_first f (value.Shared r) = refl
unpinned_first f (value.Mut r) = refl
unpinned_first f value.Gone = refl
unpinned_first f (value.Own v) = refl
unpinned_first f (value.SharedSlot i) = refl
unpinned_first f (value.MutSlot i) = refl
unpinned_first f (value.Held m) = refl

pub unpinned_firsts : (f : ℕ → ℕ) (vs : List Value) → tot (first_in f) (map unpinned vs) ≡ tot (first_in f) vs
unpinned_firsts f [] = refl
unpinned_firsts f (v ∷ vs) = omega (arith, unpinned_first f v, unpinned_firsts f vs)
