-- The addresses of a partition: which are live, with which object, and which are free, with which next colour.
use Rattle.std.proofs.Common.{◌≡◌, ℕ, zero, suc, List, [], ◌∷◌, Option, Some, None, refl, ap, ◌∙◌}
use Rattle.std.specs.Prelude.{map, option_map, slice_set, slice_index_or}
use Rattle.law_walks_own.specs.Below.fr_base.declared.name.ObjNo.{ObjNo}
use Rattle.law_walks_own.specs.Below.global_addr.Words.{address_of}
use Rattle.law_walks_own.specs.Below.heap_partition.declared.value.Cell.{Cell}
use Rattle.law_walks_own.specs.Below.heap_partition.declared.value.Owned.{Owned}
use Rattle.law_walks_own.specs.Below.law_walks_others.Below.owner_box.View.{PartitionState}
use Rattle.law_walks_own.specs.Below.law_walks_others.Below.owner_box.Partition.{with_value, stored}

-- the object of a live address
abbrev pub object_in : Option Cell → Option ObjNo
object_in c = option_map (λ (x : Cell). x.object) c

-- the same addresses are free under the same colours, and live with the same objects
pub record SameAddresses (p q : PartitionState) : Type 0 where
  pub free : q.free ≡ p.free
  pub cells : map object_in q.cells ≡ map object_in p.cells

pub same_itself : (p : PartitionState) → SameAddresses p p
same_itself p = record { free = refl; cells = refl }

-- an object that gets a value stays where it lies
valued : (v : Owned) (c : Option Cell) → object_in (with_value v c) ≡ object_in c
valued v None = refl
valued v (Some c) = refl

set_valued : (v : Owned) (cs : List (Option Cell)) (a : ℕ) → map object_in (slice_set cs a (with_value v (slice_index_or cs a None))) ≡ map object_in cs
set_valued v [] a = refl
set_valued v (c ∷ cs) zero = ap (λ o. o ∷ map object_in cs) (valued v c)
set_valued v (c ∷ cs) (suc a) = ap (λ os. object_in c ∷ os) (set_valued v cs a)

pub stores_same : (p q : PartitionState) (x : ℕ) (v : Owned) → SameAddresses p q → SameAddresses p (stored q x v)
stores_same p q x v s = record { free = s.free; cells = set_valued v q.cells (address_of x) ∙ s.cells }
