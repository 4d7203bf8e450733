-- A cell comes to a partition: words see it beside all else.
use Rattle.std.proofs.Common.{◌≡◌, ℕ, zero, suc, ◌+◌, ◌^◌, ◌<◌, if◌then◌else◌, List, [], ◌∷◌, ◌++◌, Option, Some, None, refl, sym, subst, arith}
use Rattle.std.specs.Prelude.{slice_get, slice_set, length}
use Rattle.law_counts_things.proofs.Below.fr_typing.PlaceLemmas.{eq_cases}
use Rattle.law_counts_things.specs.Below.fr_base.declared.instruction.Instr.{Instr}
use Rattle.law_counts_things.specs.Below.global_addr.Words.{word_of, colour_of, server_of, address_of}
use Rattle.law_counts_things.specs.Below.heap_partition.declared.value.Cell.{Cell}
use Rattle.law_counts_things.specs.Below.colour_retire.Colours.{picked, rest_of}
use Rattle.law_counts_things.specs.Below.owner_box.Partition.{put_cell, made}
use Rattle.law_counts_things.specs.Below.server_model.Servers.{Rest}
use Rattle.law_counts_things.specs.Below.coherent_memory.Things.{lies, things_at, cell_things, copy_things, mutex_things, task_things, waiting_things, leaving_things}
use Rattle.law_counts_things.proofs.Below.law_counts_sums.Bags.{body_things}
use Rattle.law_words_values.proofs.Below.law_words_kept.stays.Alike.{Alike, itself, turned, chain, beside, in_front, goes}
use Rattle.law_words_values.proofs.carried.Leaving.{none_blank, one_cell, all_cells, free_blank}

-- a cell where there was none
cell_comes : {code : List Instr} (s : ℕ) (f g : List (ℕ × ℕ)) (i j m : ℕ) (xs : List (Option Cell)) (c : Cell) → slice_get xs j ≡ Some None → m ≡ i + j
    → Alike code (things_at (cell_things s f) i (slice_set xs j (Some c))) (lies s m c ∷ things_at (cell_things s g) i xs)
cell_comes s f g i j m [] c e q = absurd cc
cell_comes {code = code} s f g i zero m (x ∷ xs) c e q =
    let is : x ≡ None = cc in
    let at : m ≡ i = omega (arith, q) in
    subst (λ a. Alike code (lies s i c ∷ things_at (cell_things s f) (i + 1) xs) (lies s a c ∷ (cell_things s g i x ++ things_at (cell_things s g) (i + 1) xs))) (sym at)
    (subst (λ y. Alike code (lies s i c ∷ things_at (cell_things s f) (i + 1) xs) (lies s i c ∷ (cell_things s g i y ++ things_at (cell_things s g) (i + 1) xs))) (sym is)
    (beside {a = lies s i c ∷ []} {b = lies s i c ∷ []} (itself (lies s i c ∷ [])) (chain (all_cells s f g (i + 1) xs) (turned (goes (none_blank s g i))))))
cell_comes s f g i (suc j) m (x ∷ xs) c e q =
    chain (beside (one_cell s f g i x) (cell_comes s f g (i + 1) j m xs c e (omega (arith, q)))) (in_front (cell_things s g i x) (lies s m c ∷ []) (things_at (cell_things s g) (i + 1) xs))

-- a cell at the end
cell_added : {code : List Instr} (s : ℕ) (f g : List (ℕ × ℕ)) (i m : ℕ) (xs : List (Option Cell)) (c : Cell) → m ≡ i + length xs → Alike code (things_at (cell_things s f) i (xs ++ Some c ∷ [])) (lies s m c ∷ things_at (cell_things s g) i xs)
cell_added {code = code} s f g i m [] c q = let at : m ≡ i = omega (arith, q) in subst (λ a. Alike code (lies s i c ∷ []) (lies s a c ∷ [])) (sym at) (itself (lies s i c ∷ []))
cell_added s f g i m (x ∷ xs) c q =
    chain (beside (one_cell s f g i x) (cell_added s f g (i + 1) m xs c (omega (arith, q)))) (in_front (cell_things s g i x) (lies s m c ∷ []) (things_at (cell_things s g) (i + 1) xs))

within : {A : Type 0} (xs : List A) (i : ℕ) (v : A) → slice_get xs i ≡ Some v → i < length xs
within [] i v e = absurd cc
within (x ∷ xs) zero v e = omega arith
within (x ∷ xs) (suc i) v e = let l = within xs i v e in omega (arith, l)

-- wherever the partition puts it
cell_put : {code : List Instr} (s : ℕ) (f g : List (ℕ × ℕ)) (fl : List (ℕ × ℕ)) (xs : List (Option Cell)) (c : Cell) → ((pair : ℕ × ℕ) (rest : List (ℕ × ℕ)) → fl ≡ pair ∷ rest → slice_get xs pair.0 ≡ Some None)
    → Alike code (things_at (cell_things s f) 0 (put_cell xs (picked fl (length xs)).0 c)) (lies s (picked fl (length xs)).0 c ∷ things_at (cell_things s g) 0 xs)
cell_put {code = code} s f g [] xs c free =
    eq_cases (λ b. Alike code (things_at (cell_things s f) 0 (if b then xs ++ Some c ∷ [] else slice_set xs (length xs) (Some c))) (lies s (length xs) c ∷ things_at (cell_things s g) 0 xs)) (length xs) (length xs)
    (λ e. cell_added s f g 0 (length xs) xs c (omega arith)) (λ ne. absurd (ne refl))
cell_put {code = code} s f g (pair ∷ rest) xs c free =
    let none = free pair rest refl in
    eq_cases (λ b. Alike code (things_at (cell_things s f) 0 (if b then xs ++ Some c ∷ [] else slice_set xs pair.0 (Some c))) (lies s pair.0 c ∷ things_at (cell_things s g) 0 xs)) pair.0 (length xs)
    (λ e. let l = within xs pair.0 None none in absurd (omega (arith, e, l))) (λ ne. cell_comes s f g 0 pair.0 pair.0 xs c none (omega arith))

-- of a server's rest
pub body_comes : {code : List Instr} (n : ℕ) (r : Rest) (c : Cell) → ((pair : ℕ × ℕ) (rest : List (ℕ × ℕ)) → r.partition.free ≡ pair ∷ rest → slice_get r.partition.cells pair.0 ≡ Some None)
    → Alike code (body_things n (record r { partition = made r.partition c })) (lies n (picked r.partition.free (length r.partition.cells)).0 c ∷ body_things n r)
body_comes n r c free =
    let p = r.partition in
    let part = beside (cell_put n (rest_of p.free) p.free p.free p.cells c free) (chain (free_blank n 0 (rest_of p.free)) (turned (free_blank n 0 p.free))) in
    beside (beside (beside (beside (beside part (itself (things_at (copy_things n) 0 r.cache))) (itself (things_at (mutex_things n) 0 r.mutexes.there))) (itself (things_at (task_things n) 0 r.tasks))) (itself (things_at (waiting_things n) 0 r.inbox))) (itself (things_at leaving_things 0 r.outbox))

-- A NEW WORD LEADS THERE

pub word_leads : (c s a : ℕ) → s < 2 ^ 8 → a < 2 ^ 40 → (server_of (word_of c s a) ≡ s) × (address_of (word_of c s a) ≡ a) × (colour_of (word_of c s a) ≡ c)
word_leads c s a l m = (omega (arith, l, m), omega (arith, l, m), omega (arith, l, m))
