-- A server's rest before a step that writes in a cell, and afterwards: it shows the same but for the cell.
use Rattle.std.proofs.Common.{◌≡◌, ℕ, [], ◌∷◌, Some, subst, ◌∙◌, arith}
use Rattle.law_heap_writes.specs.Below.global_addr.Words.{address_of}
use Rattle.law_heap_writes.specs.Below.heap_partition.declared.value.Cell.{Cell}
use Rattle.law_heap_writes.specs.Below.heap_partition.declared.value.Owned.{Owned}
use Rattle.law_heap_writes.specs.Below.owner_box.Partition.{stored}
use Rattle.law_heap_writes.specs.Below.server_model.Servers.{Rest}
use Rattle.law_heap_writes.specs.Below.server_model.Work.{look}
use Rattle.law_heap_writes.specs.Below.coherent_memory.Things.{Thing, lies}
use Rattle.law_heap_writes.proofs.Below.law_counts_sums.Bags.{counts_of, rest_things, of_partition}
use Rattle.law_heap_writes.proofs.Below.law_counts_sums.Values.{stores}
use Rattle.law_words_writes.specs.Below.law_heap_still.events.Shows.{sign_of}
use Rattle.law_words_writes.proofs.Below.law_heap_still.events.Sites.{shown, Moves}

-- where the cell lay at one address, and lies at another one when it gets the value
pub cell_moves : (r r1 r2 : Rest) (u v : ℕ) (c : Cell) (new : Owned) → Moves [] [] r r1 → look r1.partition v ≡ Some c → Moves [] [] (record r1 { partition = stored r1.partition v new }) r2
    → Moves (counts_of r.number 0 r ∷ lies r.number (address_of u) (record c { value = new }) ∷ []) (counts_of r.number 0 r ∷ lies r.number (address_of u) c ∷ []) r r2
cell_moves r r1 r2 u v c new first there later = record {
  number = later.number ∙ first.number;
  alike = λ q z.
      let f : Thing → ℕ = λ x. q (sign_of x) in
      let n = r.number in
      let ra = record r1 { partition = stored r1.partition v new } in
      let trade = of_partition n 0 r1 (stored r1.partition v new) (stores n r1.partition v c new there) in
      let more : shown q (rest_things n 0 ra) ≡ shown q (rest_things n 0 r2) = subst (λ m. shown q (rest_things m 0 ra) ≡ shown q (rest_things m 0 r2)) first.number (later.alike q z) in
      omega (arith, first.alike q z, trade.before f, trade.after f, more);
}
