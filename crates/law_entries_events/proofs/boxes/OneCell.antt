-- An object comes to which nothing leads: places lead where they led, and gifts of threads whose slots stay are the contents that they were.
use Rattle.std.proofs.Common.{◌≡◌, ℕ, zero, suc, ◌+◌, ◌≤◌, Bool, true, false, if◌then◌else◌, List, ◌∷◌, Option, Some, None, is_some, refl, sym, ap, subst, ◌∙◌, arith}
use Rattle.std.specs.Prelude.{slice_get}
use Rattle.law_entries_writes.specs.Below.law_entries_reads.Below.law_words_borrows.Below.fr_base.Names.{same_object}
use Rattle.law_entries_writes.specs.Below.law_entries_reads.Below.law_words_borrows.Below.fr_base.declared.name.MutexNo.{MutexNo}
use Rattle.law_entries_writes.specs.Below.law_entries_reads.Below.law_words_borrows.Below.fr_base.declared.name.ObjNo.{ObjNo}
use Rattle.law_entries_writes.specs.Below.law_entries_reads.Below.law_words_borrows.Below.fr_base.declared.label.Plain.{Plain}
use Rattle.law_entries_writes.specs.Below.law_entries_reads.Below.law_words_borrows.Below.fr_base.declared.instruction.Instr.{Instr}
use Rattle.law_entries_writes.specs.Below.law_entries_reads.Below.law_words_borrows.Below.fr_base.declared.instruction.Instr.TheVariants as instr
use Rattle.law_entries_writes.specs.Below.law_entries_reads.Below.law_words_borrows.Below.fr_base.declared.place.Lval.{Lval}
use Rattle.law_entries_writes.specs.Below.law_entries_reads.Below.law_words_borrows.Below.heap_partition.Plain.{plain_of}
use Rattle.law_entries_writes.specs.Below.law_entries_reads.Below.law_words_borrows.Below.heap_partition.declared.value.Cell.{Cell}
use Rattle.law_entries_writes.specs.Below.law_entries_reads.Below.law_words_borrows.Below.server_model.Servers.{Cluster}
use Rattle.law_entries_writes.specs.Below.law_entries_variables.Below.coloured_heap.Heap.{Place, Lies}
use Rattle.law_entries_writes.specs.Below.law_entries_reads.Below.law_words_borrows.Below.coherent_memory.Names.{tot, one, if_so}
use Rattle.law_entries_writes.specs.Below.law_entries_reads.Below.law_words_borrows.Below.coherent_memory.Things.{Location, at_slot, at_temp, in_cell, Thing, lies, things_of}
use Rattle.law_entries_writes.specs.Below.law_entries_reads.Below.law_words_borrows.Below.coherent_memory.Follow.{Standing, Ground, ground_of, cell_of, value_of, value_in, value_behind, leads, locate, value_at}
use Rattle.law_entries_writes.specs.Below.law_entries_reads.Below.law_words_borrows.Below.coherent_memory.Sight.{sight}
use Rattle.law_entries_writes.specs.Below.law_entries_reads.Below.law_words_borrows.Below.coherent_memory.Weights.{cells, is_thread}
use Rattle.law_entries_writes.specs.Below.law_entries_reads.Below.law_words_borrows.Below.coherent_memory.Requests.{mutex_of, is_mutex, locked_mutex}
use Rattle.law_entries_writes.specs.Below.law_entries_reads.Below.law_words_borrows.Below.coherent_memory.Sharing.{gift_content}
use Rattle.law_entries_writes.specs.Below.law_entries_reads.Below.law_words_borrows.Below.coherent_memory.OneHeap.{if_in, cell_value}
use Rattle.law_entries_writes.specs.Below.law_entries_reads.Below.law_words_borrows.Below.coherent_memory.Coherent.{IsSound}
use Rattle.law_entries_writes.specs.Below.law_entries_variables.Below.law_heap_still.events.Shows.{ShownThread}
use Rattle.law_entries_writes.proofs.Below.law_entries_variables.Below.coloured_heap.Times.{object_is}
use Rattle.law_entries_writes.proofs.Below.law_entries_variables.Below.law_heap_still.events.Told.{told, ones, tot_same, at_thread}
use Rattle.law_entries_writes.proofs.Below.law_entries_variables.Below.law_heap_still.events.Once.{shown_once}
use Rattle.law_entries_writes.proofs.Below.law_copies_kept.Below.law_words_values.freed.Lists.{NoneLeads}
use Rattle.law_entries_writes.proofs.Below.law_entries_variables.deliveries.Shown.{if_some, placed_in}
use Rattle.law_entries_writes.proofs.Below.law_entries_variables.deliveries.Live.{placed_cells, placed_seen}
use Rattle.law_entries_writes.proofs.Below.law_entries_variables.deliveries.After.{Follows}
use Rattle.law_entries_writes.proofs.Below.law_entries_variables.still.Kept.{masked_of, cells_placed, PlacingOf, mutex_kept, numbered_seen, slots_seen}

-- PLACES, WITH ONE CELL MORE

module _ (b : List Thing) (r a : ℕ) (d : Cell) (unled : (t : ℕ) (l : Location) → leads t (value_in (ground_of b) l) ≡ Some (in_cell d.object) → ⊥) where
  abbrev g : Ground
  g = ground_of b

  abbrev more : Ground
  more = ground_of (lies r a d ∷ b)

  -- elsewhere the same stands
  same_value : (l : Location) → (l ≡ in_cell d.object → ⊥) → value_in more l ≡ value_in g l
  same_value (at_slot t i) n = refl
  same_value (at_temp t i) n = refl
  same_value (in_cell q) n = by (same_object d.object q) refl
    where
      by : (e : Bool) → same_object d.object q ≡ e → value_of (if e then Some d else cell_of g.cells q) ≡ value_of (cell_of g.cells q)
      by true e = absurd (n (ap in_cell (sym (object_is d.object q e))))
      by false e = refl

  same_behind : (o : Option Location) → (o ≡ Some (in_cell d.object) → ⊥) → value_behind more o ≡ value_behind g o
  same_behind None n = refl
  same_behind (Some l) n = same_value l (λ e. n (ap (λ x. Some x) e))

  -- no place leads to it
  away : (t slot n : ℕ) → locate g t slot n ≡ Some (in_cell d.object) → ⊥
  away t slot zero e = cc e
  away t slot (suc n) e = by (locate g t slot n) e
    where
      by : (o : Option Location) → leads t (value_behind g o) ≡ Some (in_cell d.object) → ⊥
      by None f = cc f
      by (Some l) f = unled t l f

  same_place : (t slot n : ℕ) → locate more t slot n ≡ locate g t slot n
  same_place t slot zero = refl
  same_place t slot (suc n) = ap (λ o. leads t (value_behind more o)) (same_place t slot n) ∙ ap (leads t) (same_behind (locate g t slot n) (away t slot n))

  pub value_stays : (t : ℕ) (w : Lval) → value_at more t w ≡ value_at g t w
  value_stays t w = ap (value_behind more) (same_place t w.slot w.depth) ∙ same_behind (locate g t w.slot w.depth) (away t w.slot w.depth)

-- GIFTS

cell_placed : (q : Bool) (g : Plain → ℕ) (v : Plain) (p : Place) → told g (if_in q (Some v)) ≡ told (λ (x : Plain × Place). g x.0) (if_some q (v, p))
cell_placed true g v p = refl
cell_placed false g v p = refl

each_once : (o : Option (Plain × Place)) → told (λ (x : Plain × Place). 1) o ≡ told ones o
each_once None = refl
each_once (Some x) = refl

module _ (k c : Cluster) (sound : IsSound k) (olds news : List Thing) (f : Follows k c olds news) (r a : ℕ) (d : Cell) (none : tot (cells d.object) (things_of k) ≡ 0) (unled : NoneLeads k d.object) where
  abbrev b : List Thing
  b = lies r a d ∷ things_of k

  -- an object that isn't there shows nothing
  unshown : (o : ObjNo) → tot (cells o) (things_of k) ≡ 0 → tot (λ x. told ones (cell_value o x)) (things_of k) ≡ 0
  unshown o z =
      let same : tot (λ x. told (λ (y : Plain × Place). 1) (placed_in o x)) (things_of k) ≡ tot (λ x. told ones (placed_in o x)) (things_of k) = tot_same (λ x. told (λ (y : Plain × Place). 1) (placed_in o x)) (λ x. told ones (placed_in o x)) (λ x. each_once (placed_in o x)) (things_of k) in
      omega (arith, z, same, placed_cells o k, cells_placed o (λ v. 1) k)

  -- with its cell each object is shown once at most
  once : (o : ObjNo) → tot (λ x. told ones (cell_value o x)) b ≤ 1
  once o = by (same_object d.object o) refl
    where
      by : (e : Bool) → same_object d.object o ≡ e → told ones (if_in e (Some (plain_of d.value))) + tot (λ x. told ones (cell_value o x)) (things_of k) ≤ 1
      by true e = omega (arith, unshown o (subst (λ q. tot (cells q) (things_of k) ≡ 0) (object_is d.object o e) none))
      by false e = omega (arith, (shown_once k sound).cells o)

  -- a thread whose slots stay, where nothing else comes and goes that objects show
  pub record Stays (t : ℕ) : Type 0 where
    pub thread : tot (is_thread t) olds ≡ tot (is_thread t) news
    pub slots : (h : ShownThread → ℕ) → tot (at_thread (λ y. h (masked_of y)) t) olds ≡ tot (at_thread (λ y. h (masked_of y)) t) news
    pub objects : (o : ObjNo) (w : Plain × Place → ℕ) → tot (λ v. told w (placed_in o v)) news ≡ told w (if_some (same_object d.object o) (plain_of d.value, Lies r)) + tot (λ v. told w (placed_in o v)) olds

  module _ (t : ℕ) (u : Stays t) where
    alike : PlacingOf t b (things_of c)
    alike = record {
      thread = omega (arith, f.things (is_thread t) (numbered_seen t), u.thread);
      slots = λ h. omega (arith, f.things (at_thread (λ v. h (masked_of v)) t) (slots_seen h t), u.slots h);
      cells = λ o g.
          let w : Plain × Place → ℕ = (λ v. g v.0) in
          omega (arith, cells_placed o g k, cells_placed o g c, f.things (λ v. told w (placed_in o v)) (placed_seen o w), u.objects o w, cell_placed (same_object d.object o) g (plain_of d.value) (Lies r));
    }

    mutex_stays : (w : Lval) → mutex_of (value_at (sight k).ground t w) ≡ mutex_of (value_at (sight c).ground t w)
    mutex_stays w = ap mutex_of (sym (value_stays (things_of k) r a d unled t w)) ∙ mutex_kept t b (things_of c) (omega (arith, sound.names.numbers_differ t)) once alike w

  pub gift_stays : (m : MutexNo) (x : Standing) → Stays x.thread.number → gift_content (sight c) m x ≡ gift_content (sight k) m x
  gift_stays m x u =
      ap (λ cs. if_so (is_some x.thread.gift) (one (is_mutex m (locked_mutex (sight c) x (slice_get cs x.thread.pc))))) f.code ∙ ap (λ o. if_so (is_some x.thread.gift) (one (is_mutex m o))) (by (slice_get k.code x.thread.pc))
    where
      by : (i : Option Instr) → locked_mutex (sight c) x i ≡ locked_mutex (sight k) x i
      by (Some (instr.Lock w)) = sym (mutex_stays x.thread.number u w)
      by _ = refl
