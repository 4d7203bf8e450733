-- Two clusters with the same threads and cells, as words see them: the same stands at each location.
use Rattle.std.specs.Prelude.{⊤}
use Rattle.std.proofs.Common.{◌≡◌, ℕ, Bool, List, Option, Some, None, refl, sym, ap, subst, ◌∙◌}
use Rattle.law_counts_things.specs.Below.fr_base.declared.instruction.Instr.{Instr}
use Rattle.law_counts_things.specs.Below.fr_base.declared.name.ObjNo.{ObjNo}
use Rattle.law_counts_things.specs.Below.heap_partition.declared.value.Cell.{Cell}
use Rattle.law_counts_things.specs.Below.thread_state.View.{ThreadState}
use Rattle.law_counts_things.specs.Below.thread_state.declared.value.Value.{Value}
use Rattle.law_counts_things.specs.Below.thread_state.declared.value.Value.TheVariants as value
use Rattle.law_counts_things.specs.Below.server_model.Servers.{Cluster}
use Rattle.law_counts_things.specs.Below.coherent_memory.Names.{Among}
use Rattle.law_counts_things.specs.Below.coherent_memory.Things.{Location, at_slot, at_temp, in_cell, Thing, stands, things_of}
use Rattle.law_counts_things.specs.Below.coherent_memory.Follow.{Standing, thread_at, threads_in, cells_in, cell_of, slot_of, temp_of, value_of, value_in}
use Rattle.law_counts_things.specs.Below.coherent_memory.Sight.{sight}
use Rattle.law_counts_things.proofs.Below.coherent_types.Branches.{found}
use Rattle.law_counts_things.proofs.Below.law_words_paths.paths.Contained.{among_thread}
use Rattle.law_words_values.specs.Below.law_words_paths.words.Reworded.{HasPlaces}
use Rattle.law_words_values.specs.Below.law_words_paths.words.Unmoved.{pointing, owning, seen_at, Taking, takings}
use Rattle.law_words_values.proofs.Below.law_words_paths.words.Standing.{CellOf, cell_among, cell_found}
use Rattle.law_words_values.proofs.Below.law_words_kept.stays.Alike.{ShowsAs, StandsIn}
use Rattle.law_words_values.proofs.carried.Far.{thread_thing, thing_thread, taking_listed, CellIn, none_some}
use Rattle.law_words_values.proofs.carried.Taken.{taker_of}

-- THREADS, from one list to a cluster

module _ (code : List Instr) (a : List Thing) (b : Cluster) (d : HasPlaces b) (w : (s : ℕ) (p : Bool) (t : ThreadState) → Among (stands s p t) a → StandsIn code (things_of b) t) where
  pub record Pair (t : ℕ) (x : Standing) : Type 0 where
    pub there : Standing
    pub at : thread_at (threads_in (things_of b)) t ≡ Some there
    pub shows : ShowsAs code x.thread there.thread

  paired : (x : Standing) → Among x (threads_in a) → Pair x.thread.number x
  paired x h =
      let r = w x.server x.packed x.thread (thread_thing x a h) in
      let y : Standing = record { server = r.server; packed = r.packed; thread = r.thread } in
      let at : thread_at (threads_in (things_of b)) r.thread.number ≡ Some y = found y (things_of b) (d.numbers_differ r.thread.number) (thing_thread r.server r.packed r.thread (things_of b) r.among) in
      record { there = y; at = sym (ap (thread_at (threads_in (things_of b))) r.shows.number) ∙ at; shows = r.shows }

  pub pair : (t : ℕ) (x : Standing) → thread_at (threads_in a) t ≡ Some x → Pair t x
  pair t x e = let q = among_thread (threads_in a) t x e in subst (λ n. Pair n x) q.1 (paired x q.0)

  pub taken_on : (t : Taking) → Among t (takings code (threads_in a)) → Among t (takings code (threads_in (things_of b)))
  taken_on t h =
      let q = taker_of code (threads_in a) t h in
      let r = w q.taker.server q.taker.packed q.taker.thread (thread_thing q.taker a q.among) in
      taking_listed code (record { server = r.server; packed = r.packed; thread = r.thread }) t (threads_in (things_of b)) (thing_thread r.server r.packed r.thread (things_of b) r.among) (r.shows.taking ∙ q.taking)

-- a cell that is there is found
pub found_there : (b : Cluster) → HasPlaces b → (c : Cell) → CellIn (things_of b) c → (there : Cell) × (cell_of (cells_in (things_of b)) c.object ≡ Some there) × (pointing (Some (value.Own there.value)) ≡ pointing (Some (value.Own c.value)))
found_there b d c q = (q.cell, sym (ap (cell_of (cells_in (things_of b))) q.object) ∙ cell_found q.cell q.thing (things_of b) (d.home_of_each q.cell.object) q.is q.among, q.value)

-- of cells those that this is said of
abbrev pub CellAway : (ObjNo → Type 0) → Location → Type 0
CellAway P (in_cell n) = P n
CellAway P l = ⊤

module _ (code : List Instr) (k z : Cluster) (c : HasPlaces k) (d : HasPlaces z) (P : ObjNo → Type 0)
    (thread_on : (s : ℕ) (b : Bool) (t : ThreadState) → Among (stands s b t) (things_of k) → StandsIn code (things_of z) t)
    (thread_back : (s : ℕ) (b : Bool) (t : ThreadState) → Among (stands s b t) (things_of z) → StandsIn code (things_of k) t)
    (cell_on : (g : Cell) (y : Thing) → CellOf g y → Among y (things_of k) → CellIn (things_of z) g)
    (cell_back : (g : Cell) (y : Thing) → CellOf g y → Among y (things_of z) → P g.object → CellIn (things_of k) g) where
  abbrev tk : List Standing
  tk = threads_in (things_of k)

  abbrev tz : List Standing
  tz = threads_in (things_of z)

  module _ (look : Option Value → Option Value) (read : Option Standing → Option Value) (shown : (x y : Standing) → ShowsAs code x.thread y.thread → look (read (Some y)) ≡ look (read (Some x))) where
    at_thread : (t : ℕ) → look (read (thread_at tz t)) ≡ look (read (thread_at tk t))
    at_thread t = by (thread_at tk t) refl
      where
        absent : (i : Option Standing) → thread_at tz t ≡ i → thread_at tk t ≡ None → look (read i) ≡ look (read None)
        absent None f g = refl
        absent (Some y) f g = let r = pair code (things_of z) k c thread_back t y f in absurd (none_some r.there (sym g ∙ r.at))

        by : (i : Option Standing) → thread_at tk t ≡ i → look (read (thread_at tz t)) ≡ look (read i)
        by None g = absent (thread_at tz t) refl g
        by (Some x) g = let r = pair code (things_of k) z d thread_on t x g in ap (λ i. look (read i)) r.at ∙ shown x r.there r.shows

  in_cells : (n : ObjNo) → P n → pointing (value_of (cell_of (cells_in (things_of z)) n)) ≡ pointing (value_of (cell_of (cells_in (things_of k)) n))
  in_cells n away = by (cell_of (cells_in (things_of k)) n) refl
    where
      there_k : (y : Cell) → cell_of (cells_in (things_of z)) n ≡ Some y → (g : Cell) × (cell_of (cells_in (things_of k)) n ≡ Some g)
      there_k y f =
          let i = cell_among n y (things_of z) f in
          let r = found_there k c y (cell_back y i.thing i.is i.among (subst P (sym i.object) away)) in
          (r.0, sym (ap (cell_of (cells_in (things_of k))) i.object) ∙ r.1)

      absent : (i : Option Cell) → cell_of (cells_in (things_of z)) n ≡ i → cell_of (cells_in (things_of k)) n ≡ None → pointing (value_of i) ≡ pointing None
      absent None f g = refl
      absent (Some y) f g = let r = there_k y f in absurd (none_some r.0 (sym g ∙ r.1))

      by : (i : Option Cell) → cell_of (cells_in (things_of k)) n ≡ i → pointing (value_of (cell_of (cells_in (things_of z)) n)) ≡ pointing (value_of i)
      by None g = absent (cell_of (cells_in (things_of z)) n) refl g
      by (Some x) g =
          let i = cell_among n x (things_of k) g in
          let r = found_there z d x (cell_on x i.thing i.is i.among) in
          ap (λ j. pointing (value_of j)) (sym (ap (cell_of (cells_in (things_of z))) i.object) ∙ r.1) ∙ r.2

  pub stands_alike : (l : Location) → CellAway P l → seen_at l (value_in (sight z).ground l) ≡ seen_at l (value_in (sight k).ground l)
  stands_alike (at_slot t i) away = at_thread pointing (λ x. slot_of x i) (λ x y h. h.slots i) t
  stands_alike (at_temp t i) away = at_thread owning (λ x. temp_of x i) (λ x y h. h.temps i) t
  stands_alike (in_cell n) away = in_cells n away
