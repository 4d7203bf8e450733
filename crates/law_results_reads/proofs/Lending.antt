-- Mutable borrows through stars have results: the last pointer is none that is shared, and the stars before it are read.
use Rattle.std.proofs.Common.{◌≡◌, ◌≤◌, ℕ, zero, suc, ◌==◌, Bool, true, false, if◌then◌else◌, Option, Some, option_map, IsSome, refl, sym, ap, subst, ◌∙◌, arith}
use Rattle.std.specs.Prelude.{slice_get}
use Rattle.law_counts_sums.specs.Below.fr_base.declared.place.Lval.{Lval}
use Rattle.law_counts_sums.specs.Below.fr_base.declared.instruction.Instr.{Instr}
use Rattle.law_counts_sums.specs.Below.fr_base.declared.instruction.Instr.TheVariants as instr
use Rattle.law_counts_sums.specs.Below.fr_store.Keys.{Key, slot_k}
use Rattle.law_counts_sums.specs.Below.fr_store.Store.{Store}
use Rattle.law_counts_sums.specs.Below.fr_store.Typed.{KeyTypes, Typed}
use Rattle.law_counts_sums.specs.Below.fr_code.CodeTypes.{Entry, Table, InstrTypes, i_borrow_mut}
use Rattle.law_counts_sums.specs.Below.global_addr.Words.{server_of}
use Rattle.law_counts_sums.specs.Below.heap_partition.declared.value.BoxPtr.{BoxPtr}
use Rattle.law_counts_sums.specs.Below.heap_partition.declared.value.Cell.{Cell}
use Rattle.law_counts_sums.specs.Below.heap_partition.declared.value.Owned.{Owned}
use Rattle.law_counts_sums.specs.Below.heap_partition.declared.value.Owned.TheVariants as owned
use Rattle.law_counts_sums.specs.Below.mut_borrow.declared.shared.SharedRef.{SharedRef}
use Rattle.law_counts_sums.specs.Below.place_walk.declared.hop.Hop.{Hop as Jump}
use Rattle.law_counts_sums.specs.Below.place_walk.declared.hop.Hop.TheVariants as hop
use Rattle.law_counts_sums.specs.Below.thread_state.View.{ThreadState}
use Rattle.law_counts_sums.specs.Below.thread_state.declared.value.Value.{Value}
use Rattle.law_counts_sums.specs.Below.thread_state.declared.value.Value.TheVariants as value
use Rattle.law_counts_sums.specs.Below.server_model.declared.event.What.TheVariants.{Step}
use Rattle.law_counts_sums.specs.Below.server_model.Servers.{Server, Cluster}
use Rattle.law_counts_sums.specs.Below.server_model.Work.{Hand, push_temp, then_some}
use Rattle.law_counts_sums.specs.Below.server_model.Places.{Spot, in_slot, value_at, load_at, pointer_of}
use Rattle.law_counts_sums.specs.Below.server_model.Prepare.{Prepared, ready, requested, nothing, and_then, ask_object, request_by, is_taken, lend_by, lend_value, lend_pointer, read_stars}
use Rattle.law_counts_sums.specs.Below.server_model.Commit.{goes_on, mutable_from, borrow_mut_from}
use Rattle.law_counts_sums.specs.Below.server_model.Events.{committed, prepared}
use Rattle.law_counts_sums.specs.Below.coherent_memory.Things.{Location, at_slot}
use Rattle.law_counts_sums.specs.Below.coherent_memory.Follow.{Standing, Ground, value_in, value_of, leads, locate}
use Rattle.law_counts_sums.specs.Below.coherent_memory.Sight.{sight}
use Rattle.law_counts_sums.specs.Kinds.{step_borrow_mut, instr_kind}
use Rattle.law_counts_sums.specs.Laws.{HasResult}
use Rattle.law_words_paths.specs.paths.HeapStore.{heap_store, GoesOn, HasPaths}
use Rattle.law_words_paths.specs.paths.Pointing.{MayWrite, lends}
use Rattle.law_words_paths.proofs.paths.MayWrites.{may_write_there}
use Rattle.law_words_paths.proofs.paths.Sole.{some_is}
use Rattle.law_results_reads.specs.Results.{lends_variable, Anyhow, StepsHaveResults}
use Rattle.law_results_reads.proofs.Variables.{quiet_steps}
use Rattle.law_results_reads.proofs.Known.{Steps, hand, standing, able, paths, goes, entry, typed, types, has_result}
use Rattle.law_results_reads.proofs.Followed.{Place, at, hop_from}
use Rattle.law_results_reads.proofs.Reading.{Alike, equal, both_shared, Reading}
use Rattle.law_results_reads.proofs.Starred.{bound, At, a_slot, a_cell, a_copy, seen, Fine}
use Rattle.law_results_reads.proofs.Readers.{IsFree, stars_fine, settles, to_entry}
use Rattle.law_results_reads.proofs.Borrowing.{loaded_there}
use Rattle.law_results_reads.proofs.Mutables.{apart, not_shared, not_shared_slot}

-- THE BORROW

module _ (k : Cluster) (n t : ℕ) (s : Server) (y : ThreadState) (w : Lval) (d : ℕ) (depth : w.depth ≡ suc d) (short : w.depth ≤ 8) (z : Steps k n t s y (instr.BorrowMut w)) where
  abbrev i : Instr
  i = instr.BorrowMut w

  abbrev x : Standing
  x = standing k n t s y i z

  abbrev c : HasPaths k
  c = paths k n t s y i z

  abbrev g : Ground
  g = (sight k).ground

  abbrev tn : ℕ
  tn = y.number

  abbrev servers : ℕ
  servers = k.options.servers

  abbrev on : GoesOn k x
  on = goes k n t s y i z

  abbrev Reads : ℕ → Hand → Type 0
  Reads e h = Reading y s.rest (bound k n t s y i z) e h

  abbrev st : Store
  st = heap_store k c.types

  abbrev E : KeyTypes
  E = c.types.typing.exact

  abbrev rank : Key → ℕ
  rank = c.types.typing.rank

  abbrev typed_there : Typed rank E st
  typed_there = c.types.state.typed

  abbrev K : Key
  K = slot_k tn w.slot

  may : MayWrite k c.types x w
  may = may_write_there k c x on i w z.code lends

  place : Place k c x true w
  place = record { free = λ j u is. may.free j true u is; base = may.base; boxes = may.boxes; type = may.type; resolves = may.resolves; unmarked = may.unmarked }

  -- what the thread has taken is the last pointer, and none before it
  before_it : IsFree k n t s y i z true w place d
  before_it e lt under l located m v stands leads_on u p stars taken code depth2 there =
      let same_code : instr.BorrowMut w ≡ instr.BorrowMut p = some_is (sym z.code ∙ code) in
      let same : w ≡ p = cc in
      let depths : w.depth ≡ p.depth = ap (λ (q : Lval). q.depth) same in
      let so_many : stars ≡ d = omega (arith, depth, depth2, depths) in
      apart k c x on w.slot w.depth place.base place.boxes place.type place.resolves e d under (omega (arith, depth)) l located (subst (λ (q : Lval). locate g tn q.slot d ≡ Some l) (sym same) (subst (λ m2. locate g tn p.slot m2 ≡ Some l) so_many there))

  fine : Fine k n t s y i z w.slot d (read_stars d (hand k n t s y i z) (in_slot w.slot))
  fine = stars_fine k n t s y i z true w place short d (omega (arith, depth)) before_it

  abbrev Done : Prepared → Type 0
  Done p = IsSome (prepared servers i p)

  -- the last pointer is no shared one
  no_shared : (j : ℕ) (r : SharedRef) → locate g tn w.slot d ≡ Some (at_slot tn j) → value_in g (at_slot tn j) ≡ Some (value.Shared r) → ⊥
  no_shared = not_shared k c x on w.slot w.depth place.base place.boxes place.type place.resolves d (omega (arith, depth))

  no_shared_slot : (j m : ℕ) → locate g tn w.slot d ≡ Some (at_slot tn j) → value_in g (at_slot tn j) ≡ Some (value.SharedSlot m) → ⊥
  no_shared_slot = not_shared_slot k c x on w.slot w.depth place.base place.boxes place.type place.resolves d (omega (arith, depth))

  -- THE STEP

  module _ (h : Hand) (sp : Spot) (l : Location) (located : locate g tn w.slot d ≡ Some l) (spot : At k n t s y i z sp l) (a : Reads d h) where
    abbrev h1 : Hand
    h1 = load_at sp h

    abbrev holder : Lval
    holder = record w { depth = d }

    -- a reference is made of what stands there
    lent_from : (u r : Value) → value_at h sp ≡ Some u → mutable_from h.thread.phase holder u ≡ Some r → Done (ready h1 sp)
    lent_from u r at_spot from =
        subst (λ e. IsSome (committed (goes_on (borrow_mut_from w e sp h1)))) (sym depth)
        (subst (λ o. IsSome (committed (goes_on (then_some o (λ v. option_map (λ b. push_temp b h1) (mutable_from h.thread.phase holder v)))))) (sym (loaded_there h sp u at_spot))
        (subst (λ o. IsSome (committed (goes_on (option_map (λ b. push_temp b h1) o)))) (sym from) (settles k n t s y i z d h (push_temp r h1) a refl refl)))

    -- the object is here, or came, or is asked for
    lends_on : (v r : Value) (word : ℕ) (other : Jump) (p : BoxPtr) → value_at h sp ≡ Some v → mutable_from h.thread.phase holder v ≡ Some r → pointer_of v ≡ Some p → lend_by sp v (Some other) h1 ≡ ready h1 sp → (b : Bool) → Done (lend_by sp v (Some (if b then other else hop.NeedMove word)) h1)
    lends_on v r word other p at_spot from pointer stays true = subst Done (sym stays) (lent_from v r at_spot from)
    lends_on v r word other p at_spot from pointer stays false = by (is_taken h.thread.phase)
      where
        by : (b : Bool) → Done (if b then ready h1 sp else request_by ask_object h1 (pointer_of v))
        by true = lent_from v r at_spot from
        by false = subst (λ o. Done (request_by ask_object h1 o)) (sym pointer) refl

    abbrev Goal : Option Value → Type 0
    Goal o = Done (lend_value sp o h1)

    next : (m : Location) × (locate g tn w.slot (suc d) ≡ Some m)
    next = at k z.coherent.sound c n s z.here x on (able k n t s y i z) true w place (suc d) (omega (arith, depth))

    owned_pointer : (v : Owned) (m : Location) → leads tn (Some (value.Own v)) ≡ Some m → value_at h sp ≡ Some (value.Own v) → Goal (Some (value.Own v))
    owned_pointer (owned.Box b) m e at_hand = lends_on (value.Own (owned.Box b)) _ b.word (hop.NeedTint b.word) b at_hand refl refl refl (server_of b.word == h1.work.rest.number)
    owned_pointer owned.Nothing m e at_hand = absurd cc
    owned_pointer owned.Unit m e at_hand = absurd cc
    owned_pointer (owned.Int b) m e at_hand = absurd cc
    owned_pointer (owned.Mutex b) m e at_hand = absurd cc
    owned_pointer (owned.Task b) m e at_hand = absurd cc

    slot_case : (j : ℕ) (u v : Value) (m : Location) → l ≡ at_slot tn j → value_in g l ≡ Some v → leads tn (Some v) ≡ Some m → Alike u v → value_at h sp ≡ Some u → Goal (Some u)
    slot_case j _ _ m f stands e (both_shared b r words objects) at_hand = absurd (no_shared j r (subst (λ q. locate g tn w.slot d ≡ Some q) f located) (sym (ap (value_in g) f) ∙ stands))
    slot_case j (value.Own v) _ m f stands e equal at_hand = owned_pointer v m e at_hand
    slot_case j (value.SharedSlot b) _ m f stands e equal at_hand = absurd (no_shared_slot j b (subst (λ q. locate g tn w.slot d ≡ Some q) f located) (sym (ap (value_in g) f) ∙ stands))
    slot_case j (value.MutSlot b) _ m f stands e equal at_hand = lent_from (value.MutSlot b) _ at_hand refl
    slot_case j (value.Shared b) _ m f stands e equal at_hand = absurd (no_shared j b (subst (λ q. locate g tn w.slot d ≡ Some q) f located) (sym (ap (value_in g) f) ∙ stands))
    slot_case j (value.Mut b) _ m f stands e equal at_hand = lends_on (value.Mut b) _ b.word (hop.AtCell b.word) (record { word = b.word; object = b.object }) at_hand refl refl refl (server_of b.word == h1.work.rest.number)
    slot_case j value.Gone _ m f stands e equal at_hand = absurd cc
    slot_case j (value.Held b) _ m f stands e equal at_hand = absurd cc

    cell_case : (cell : Cell) (v u : Value) (m : Location) → v ≡ value.Own cell.value → leads tn (Some v) ≡ Some m → value_at h sp ≡ Some u → Alike u v → Goal (Some u)
    cell_case cell v _ m is e at_hand equal = subst (λ b. value_at h sp ≡ Some b → Goal (Some b)) (sym is) (owned_pointer cell.value m (ap (λ b. leads tn (Some b)) (sym is) ∙ e)) at_hand
    cell_case cell _ _ m is e at_hand (both_shared b r words objects) = absurd cc

    lent : Goal (value_at h sp)
    lent =
        let e = hop_from g tn w.slot d l next.0 located next.1 in
        let u = seen k n t s y i z d h sp l e.0 a spot e.1 in
        subst Goal (sym u.1) (by sp l refl refl spot e.0 e.1 e.2 u.0 u.1 u.2)
      where
        by : (b : Spot) (f : Location) → sp ≡ b → l ≡ f → At k n t s y i z b f → (v : Value) → value_in g l ≡ Some v → leads tn (Some v) ≡ Some next.0 → (u : Value) → value_at h sp ≡ Some u → Alike u v → Goal (Some u)
        by _ _ e f (a_slot j) v stands leads_on u at_hand al = slot_case j u v next.0 f stands leads_on al at_hand
        by _ _ e f (a_cell b r o cell there has) v stands leads_on u at_hand al = cell_case cell v u next.0 (some_is (sym stands ∙ ap (value_in g) f ∙ ap value_of has)) leads_on at_hand al
        by _ _ e f (a_copy b o cell there has) v stands leads_on u at_hand al = cell_case cell v u next.0 (some_is (sym stands ∙ ap (value_in g) f ∙ ap value_of has)) leads_on at_hand al

  after : (p : Prepared) → Fine k n t s y i z w.slot d p → Done (and_then (λ h2 sp. lend_value sp (value_at h2 sp) (load_at sp h2)) p)
  after (ready h sp) f = lent h sp f.0 f.1 f.2 f.3
  after (requested h) f = refl
  after nothing f = absurd f

  pub lends_it : Done (lend_pointer w w.depth (hand k n t s y i z))
  lends_it = subst (λ e. Done (lend_pointer w e (hand k n t s y i z))) (sym depth) (after (read_stars d (hand k n t s y i z) (in_slot w.slot)) fine)

lendable : (table : Table) (e e2 : Entry) (w : Lval) → InstrTypes table e (instr.BorrowMut w) e2 → w.depth ≤ 8
lendable table _ _ w (i_borrow_mut waits has unlent) = has.short

lend_step : (k : Cluster) (n t : ℕ) (s : Server) (y : ThreadState) (w : Lval) (d : ℕ) → w.depth ≡ suc d → Steps k n t s y (instr.BorrowMut w) → HasResult k n (Step t)
lend_step k n t s y w d depth z =
    let i = instr.BorrowMut w in
    let at_it = typed k n t s y i z in
    let to = to_entry (types k n t s y i z).table y.pc (entry k n t s y i z) i at_it.0 at_it.1 (λ o e. cc) in
    has_result k n t s y i z (lends_it k n t s y w d depth (lendable (types k n t s y i z).table (entry k n t s y i z) to.0 w to.1) z)

pub mutable_borrows_have_results : StepsHaveResults step_borrow_mut Anyhow
mutable_borrows_have_results k n t s y i coherent few server on at_it code is f = by i code is
  where
    by_depth : (w : Lval) (d : ℕ) → w.depth ≡ d → slice_get k.code y.pc ≡ Some (instr.BorrowMut w) → HasResult k n (Step t)
    by_depth w zero e c = quiet_steps step_borrow_mut tt (λ q. cc) k n t s y (instr.BorrowMut w) coherent few server on at_it c refl (lends_variable e)
    by_depth w (suc d) e c = lend_step k n t s y w d e (record { coherent = coherent; few = few; here = server; on = on; at = at_it; code = c })

    by : (i : Instr) → slice_get k.code y.pc ≡ Some i → instr_kind i ≡ step_borrow_mut → HasResult k n (Step t)
    by (instr.BorrowMut w) c e = by_depth w w.depth refl c
    by _ c e = absurd (cc e)
