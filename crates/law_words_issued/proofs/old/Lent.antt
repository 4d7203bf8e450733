-- Where a mutable borrow is ready, its pointer has the word that it had at the start: what is read on the way to it gets no word.
use Rattle.std.proofs.Common.{◌≡◌, ◌≤◌, ℕ, suc, ◌+◌, Bool, true, false, if◌then◌else◌, Option, Some, None, refl, sym, ap, subst, ◌∙◌, arith}
use Rattle.std.specs.Prelude.{⊤, slice_get}
use Rattle.law_walks_own.specs.Below.fr_base.declared.place.Lval.{Lval}
use Rattle.law_walks_own.specs.Below.fr_base.declared.instruction.Instr.{Instr}
use Rattle.law_walks_own.specs.Below.fr_base.declared.instruction.Instr.TheVariants as instr
use Rattle.law_walks_own.specs.Below.fr_code.CodeTypes.{Entry, Table, InstrTypes, i_borrow_mut}
use Rattle.law_walks_own.specs.Below.heap_partition.declared.value.BoxPtr.{BoxPtr}
use Rattle.law_walks_own.specs.Below.law_copies_kept.Below.place_walk.declared.hop.Hop.{Hop}
use Rattle.law_walks_own.specs.Below.law_copies_kept.Below.place_walk.declared.hop.Hop.TheVariants as hop
use Rattle.law_walks_own.specs.Below.law_copies_kept.Below.place_walk.Hops.{write_hop}
use Rattle.law_walks_own.specs.Below.thread_state.View.{ThreadState}
use Rattle.law_walks_own.specs.Below.thread_state.declared.value.Value.{Value}
use Rattle.law_walks_own.specs.Below.server_model.declared.event.What.TheVariants.{Step}
use Rattle.law_walks_own.specs.Below.server_model.Servers.{Server, Cluster, server_at}
use Rattle.law_walks_own.specs.Below.server_model.Work.{Hand, thread_in}
use Rattle.law_walks_own.specs.Below.server_model.Places.{Spot, in_slot, in_cell, in_copy, on_top, nowhere, value_at, load_at, pointer_of}
use Rattle.law_walks_own.specs.Below.server_model.Prepare.{Prepared, ready, requested, nothing, and_then, ask_object, request_by, is_taken, read_stars, lend_by, lend_value, lend_pointer}
use Rattle.law_walks_own.specs.Below.server_model.Events.{enabled, begin_work}
use Rattle.law_walks_own.specs.Below.coherent_memory.Names.{tot}
use Rattle.law_walks_own.specs.Below.coherent_memory.Things.{Location, things_of}
use Rattle.law_walks_own.specs.Below.coherent_memory.Follow.{Standing, value_in, locate}
use Rattle.law_walks_own.specs.Below.coherent_memory.Placing.{words}
use Rattle.law_walks_own.specs.Below.coherent_memory.Sight.{sight}
use Rattle.law_walks_own.specs.Below.coherent_types.ClusterTypes.{IsCoherent}
use Rattle.law_walks_own.specs.Below.law_words_paths.paths.HeapStore.{GoesOn, HasPaths}
use Rattle.law_walks_own.specs.Below.law_words_paths.paths.Pointing.{MayWrite, lends}
use Rattle.law_walks_own.proofs.Below.law_words_paths.paths.MayWrites.{may_write_there}
use Rattle.law_walks_own.proofs.Below.law_words_paths.paths.Sole.{some_is}
use Rattle.law_walks_own.specs.Below.law_counts_sums.Laws.{FewEvents}
use Rattle.law_walks_own.proofs.Below.law_results_reads.Known.{Steps, able, standing, paths, goes, entry, typed, types}
use Rattle.law_walks_own.proofs.Below.law_results_reads.Followed.{Place, at as place_at, hop_from}
use Rattle.law_walks_own.proofs.Below.law_results_reads.Reading.{Alike, equal, both_shared, Reading}
use Rattle.law_walks_own.proofs.Below.law_results_reads.Starred.{bound, At, seen, Fine as Read_so}
use Rattle.law_walks_own.proofs.Below.law_results_reads.Readers.{IsFree, stars_fine, to_entry}
use Rattle.law_walks_own.proofs.Below.law_results_reads.Mutables.{apart}
use Rattle.law_words_issued.specs.old.Old.{pointer_word}
use Rattle.law_words_issued.proofs.old.Stood.{stood}

-- a place that may be lent is short
lendable : (table : Table) (e e2 : Entry) (w : Lval) → InstrTypes table e (instr.BorrowMut w) e2 → w.depth ≤ 8
lendable table _ _ w (i_borrow_mut waits has unlent) = has.short

-- noting a read changes no value
value_loaded : (h : Hand) (s : Spot) → value_at (load_at s h) s ≡ value_at h s
value_loaded h (in_slot j) = refl
value_loaded h on_top = refl
value_loaded h (in_cell w q) = refl
value_loaded h (in_copy w) = refl
value_loaded h nowhere = refl

-- a pointer that is lent isn't pinned
same_pointer : (f : ℕ → ℕ) (u v : Value) → Alike u v → pointer_word f (Some u) ≡ pointer_word f (Some v)
same_pointer f _ _ equal = refl
same_pointer f _ _ (both_shared q r e o) = refl

module _ (k : Cluster) (coherent : IsCoherent k) (few : FewEvents k) (n : ℕ) (s : Server) (here : server_at k.servers n ≡ Some s) (t : ℕ) (y : ThreadState) (at : thread_in s.threads t ≡ Some y)
    (on : enabled k.options s (Step t) ≡ true) (w : Lval) (d : ℕ) (deep : w.depth ≡ suc d) (code : slice_get k.code y.pc ≡ Some (instr.BorrowMut w)) (f : ℕ → ℕ) (all : tot (words f) (things_of k) ≡ 0) where
  abbrev i : Instr
  i = instr.BorrowMut w

  abbrev z : Steps k n t s y i
  z = record { coherent = coherent; few = few; here = here; on = on; at = at; code = code }

  abbrev x : Standing
  x = standing k n t s y i z

  abbrev c : HasPaths k
  c = paths k n t s y i z

  abbrev going : GoesOn k x
  going = goes k n t s y i z

  short : w.depth ≤ 8
  short =
      let at_it = typed k n t s y i z in
      let to = to_entry (types k n t s y i z).table y.pc (entry k n t s y i z) i at_it.0 at_it.1 (λ o e. cc) in
      lendable (types k n t s y i z).table (entry k n t s y i z) to.0 w to.1

  -- the thread may write there
  may : MayWrite k c.types x w
  may = may_write_there k c x going i w code lends

  place : Place k c x true w
  place = record { free = λ j u is. may.free j true u is; base = may.base; boxes = may.boxes; type = may.type; resolves = may.resolves; unmarked = may.unmarked }

  -- it has taken nothing from the pointers on the way
  before_it : IsFree k n t s y i z true w place d
  before_it e lt under l located m u stands leads_on a p stars taken its depth2 there =
      let same_code : instr.BorrowMut w ≡ instr.BorrowMut p = some_is (sym code ∙ its) in
      let same : w ≡ p = cc in
      let depths : w.depth ≡ p.depth = ap (λ (q : Lval). q.depth) same in
      let so_many : stars ≡ d = omega (arith, deep, depth2, depths) in
      apart k c x going w.slot w.depth place.base place.boxes place.type place.resolves e d under (omega (arith, deep)) l located (subst (λ (q : Lval). locate (sight k).ground y.number q.slot d ≡ Some l) (sym same) (subst (λ j. locate (sight k).ground y.number p.slot j ≡ Some l) so_many there))

  abbrev h0 : Hand
  h0 = record { work = begin_work s.rest; thread = y }

  stars : Read_so k n t s y i z w.slot d (read_stars d h0 (in_slot w.slot))
  stars = stars_fine k n t s y i z true w place short d (omega (arith, deep)) before_it

  -- THE POINTER

  pointer_old : (h : Hand) (sp : Spot) (l : Location) → locate (sight k).ground y.number w.slot d ≡ Some l → At k n t s y i z sp l → Reading y s.rest (bound k n t s y i z) d h → pointer_word f (value_at h sp) ≡ 0
  pointer_old h sp l located spot a =
      let after = place_at k coherent.sound c n s here x going (able k n t s y i z) true w place (d + 1) (omega (arith, deep)) in
      let one : d + 1 ≡ suc d = omega arith in
      let e = hop_from (sight k).ground y.number w.slot d l after.0 located (subst (λ q. locate (sight k).ground y.number w.slot q ≡ Some after.0) one after.1) in
      let u = seen k n t s y i z d h sp l e.0 a spot e.1 in
      let now : pointer_word f (value_at h sp) ≡ pointer_word f (Some u.0) = ap (pointer_word f) u.1 in
      let same : pointer_word f (Some u.0) ≡ pointer_word f (Some e.0) = same_pointer f u.0 e.0 u.2 in
      let was : pointer_word f (value_in (sight k).ground l) ≡ pointer_word f (Some e.0) = ap (pointer_word f) e.1 in
      omega (arith, now, same, was, stood k f all l)

  abbrev pub Lent : Prepared → Type 0
  Lent (ready h sp) = pointer_word f (value_at h sp) ≡ 0
  Lent (requested h) = ⊤
  Lent nothing = ⊤

  asks : (o : Option BoxPtr) (h : Hand) → Lent (request_by ask_object h o)
  asks None h = tt
  asks (Some p) h = tt

  by_hop : (sp : Spot) (v : Value) (o : Option Hop) (h : Hand) → pointer_word f (value_at h sp) ≡ 0 → Lent (lend_by sp v o h)
  by_hop sp v None h a = tt
  by_hop sp v (Some (hop.NeedMove u)) h a = by (is_taken h.thread.phase)
    where
      by : (b : Bool) → Lent (if b then ready h sp else request_by ask_object h (pointer_of v))
      by true = a
      by false = asks (pointer_of v) h
  by_hop sp v (Some (hop.Slot u)) h a = a
  by_hop sp v (Some (hop.Direct u)) h a = a
  by_hop sp v (Some (hop.Hit u)) h a = a
  by_hop sp v (Some (hop.NeedCopy u)) h a = a
  by_hop sp v (Some (hop.NeedTint u)) h a = a
  by_hop sp v (Some (hop.AtCell u)) h a = a

  by_value : (sp : Spot) (v : Option Value) (h : Hand) → pointer_word f (value_at h sp) ≡ 0 → Lent (lend_value sp v h)
  by_value sp None h a = tt
  by_value sp (Some v) h a = by_hop sp v (write_hop h.work.rest.number v) h a

  then_lent : (p : Prepared) → Read_so k n t s y i z w.slot d p → Lent (and_then (λ h2 sp. lend_value sp (value_at h2 sp) (load_at sp h2)) p)
  then_lent (ready h sp) r = by_value sp (value_at h sp) (load_at sp h) (ap (pointer_word f) (value_loaded h sp) ∙ pointer_old h sp r.0 r.1 r.2 r.3)
  then_lent (requested h) r = tt
  then_lent nothing r = absurd r

  pub lent_old : Lent (lend_pointer w (suc d) h0)
  lent_old = then_lent (read_stars d h0 (in_slot w.slot)) stars
