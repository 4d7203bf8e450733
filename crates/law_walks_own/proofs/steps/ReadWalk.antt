-- A place that is followed for reading: what the thread keeps when it stops, or comes to its end, has at hand each pointer that is behind.
use Rattle.std.proofs.Common.{◌≡◌, ℕ, zero, suc, ◌<◌, ◌≤◌, nat_lt, is_some, Bool, true, false, List, Some, refl, sym, ap, subst, ◌∙◌, arith}
use Rattle.std.proofs.lemmas.Bool.Decides.{nat_tests}
use Rattle.law_walks_others.specs.Below.fr_base.declared.place.Lval.{Lval}
use Rattle.law_walks_others.specs.Below.fr_base.declared.instruction.Instr.{Instr}
use Rattle.law_walks_others.specs.Below.fr_base.declared.instruction.Instr.TheVariants as instr
use Rattle.law_walks_others.specs.Below.fr_base.declared.instruction.Operand.{Operand}
use Rattle.law_walks_others.specs.Below.fr_code.CodeTypes.{Entry, Table, InstrTypes, i_copy, i_borrow, i_borrow_mut, i_dup, i_lock}
use Rattle.law_walks_others.specs.Below.global_addr.Words.{next_word}
use Rattle.law_walks_others.specs.Below.migration.Packing.{used_words}
use Rattle.law_walks_others.specs.Below.mut_borrow.declared.mutable.MutRef.{MutRef}
use Rattle.law_walks_others.specs.Below.thread_state.View.{ThreadState}
use Rattle.law_walks_others.specs.Below.thread_state.declared.value.Value.{Value}
use Rattle.law_walks_others.specs.Below.thread_state.declared.value.Value.TheVariants as value
use Rattle.law_walks_others.specs.Below.server_model.Servers.{Server, Cluster}
use Rattle.law_walks_others.specs.Below.server_model.Work.{Hand}
use Rattle.law_walks_others.specs.Below.server_model.Places.{Spot, in_slot, value_in as cell_value}
use Rattle.law_walks_others.specs.Below.server_model.Prepare.{ready, requested, read_stars}
use Rattle.law_walks_others.specs.Below.server_model.Events.{begin_work}
use Rattle.law_walks_others.specs.Below.coherent_memory.Things.{Location, at_slot, in_cell as in_object}
use Rattle.law_walks_others.specs.Below.coherent_memory.Follow.{Standing, Ground, value_in, leads, locate}
use Rattle.law_walks_others.specs.Below.coherent_memory.Sight.{sight}
use Rattle.law_walks_others.specs.Below.coherent_memory.Walking.{loose_hop}
use Rattle.law_walks_others.specs.Below.law_words_paths.paths.HeapStore.{GoesOn, HasPaths}
use Rattle.law_walks_others.specs.Below.law_words_paths.paths.Pointing.{WritesTo, lends as lends_it}
use Rattle.law_walks_others.proofs.Below.law_words_paths.paths.MayWrites.{may_write_there}
use Rattle.law_walks_others.proofs.Below.law_words_paths.paths.Sole.{some_is}
use Rattle.law_words_ends.specs.Below.law_words_kept.reads.Reading.{Reads, copies, shares, lends, dups, locks, MayRead}
use Rattle.law_words_ends.proofs.Below.law_words_kept.reads.ReadPlaces.{may_read_there}
use Rattle.law_walks_others.proofs.Below.law_results_reads.Followed.{Place, at, hop_from, told}
use Rattle.law_walks_others.proofs.Below.law_results_reads.Known.{Steps, able, goes, hand, paths, standing, types, entry, typed}
use Rattle.law_walks_others.proofs.Below.law_results_reads.Mutables.{apart}
use Rattle.law_walks_others.proofs.Below.law_results_reads.Pointing.{pointer_at}
use Rattle.law_walks_others.proofs.Below.law_results_reads.Readers.{IsFree, stars_fine, to_entry, begins}
use Rattle.law_words_ends.proofs.Below.law_words_borrows.Below.law_counts_asking.Unasked.{Unasked, stars_near}
use Rattle.law_walks_others.proofs.Below.law_results_reads.Reading.{Alike, equal, both_shared, Reading, cached_hit}
use Rattle.law_walks_others.proofs.Below.law_results_reads.Starred.{bound, At, a_slot, a_cell, a_copy, seen, Fine}
use Rattle.law_walks_own.proofs.steps.Stops.{Read, all_read}
use Rattle.law_walks_own.proofs.steps.ReadStars.{Placed, in_its_slot, in_memory, Untinted, Grows, loose_grows, ReadGoes, read_goes}

-- THE INSTRUCTION

short_by : (table : Table) (e e2 : Entry) (i : Instr) (w : Lval) (m : ℕ) → Reads i w m → InstrTypes table e i e2 → w.depth ≤ 8
short_by table _ _ _ w m (copies q) (i_copy waits has twice free) = has.short
short_by table _ _ _ w m (shares q) (i_borrow waits has free) = has.short
short_by table _ _ _ w m (lends q) (i_borrow_mut waits has unlent) = has.short
short_by table _ _ _ w m (dups q) (i_dup waits has free) = has.short
short_by table _ _ _ w m (locks q) (i_lock name waits has free new) = has.short

no_end : (i : Instr) (w : Lval) (m : ℕ) → Reads i w m → (o : Operand) → i ≡ instr.End o → ⊥
no_end _ w m (copies q) o e = absurd (cc e)
no_end _ w m (shares q) o e = absurd (cc e)
no_end _ w m (lends q) o e = absurd (cc e)
no_end _ w m (dups q) o e = absurd (cc e)
no_end _ w m (locks q) o e = absurd (cc e)

within : (i : Instr) (w : Lval) (m : ℕ) → Reads i w m → m ≤ w.depth
within _ w m (copies q) = omega (arith, q)
within _ w m (shares q) = omega (arith, q)
within _ w m (lends q) = omega (arith, q)
within _ w m (dups q) = omega (arith, q)
within _ w m (locks q) = omega (arith, q)

same_lval : {w q : Lval} → instr.BorrowMut w ≡ instr.BorrowMut q → w ≡ q
same_lval e = cc

-- a mutable borrow reads up to its last pointer
borrows : (i : Instr) (w : Lval) (m : ℕ) → Reads i w m → (q : Lval) → i ≡ instr.BorrowMut q → (w ≡ q) × (w.depth ≡ suc m) × WritesTo i w
borrows _ w m (lends e) q f = (same_lval f, e, lends_it)
borrows _ w m (copies e) q f = absurd (cc f)
borrows _ w m (shares e) q f = absurd (cc f)
borrows _ w m (dups e) q f = absurd (cc f)
borrows _ w m (locks e) q f = absurd (cc f)

-- what is alike is at hand alike
pub alike_loose : (r : ℕ) (kept : List ℕ) (u v : Value) → Alike u v → loose_hop r kept (Some u) ≡ loose_hop r kept (Some v)
alike_loose r kept u _ equal = refl
alike_loose r kept _ _ (both_shared a b words objects) = ap (λ w. Rattle.law_walks_others.specs.Below.coherent_memory.Names.other (Rattle.law_walks_others.specs.Below.coherent_memory.Paths.is_at_hand kept r true w)) words

pub alike_reference : (q : MutRef) (v : Value) → Alike (value.Mut q) v → v ≡ value.Mut q
alike_reference q _ equal = refl

ready_hand : {a b : Hand} {u v : Spot} → ready a u ≡ ready b v → a ≡ b
ready_hand e = cc

module _ (k : Cluster) (n t : ℕ) (s : Server) (y : ThreadState) (i : Instr) (z : Steps k n t s y i) (w : Lval) (m : ℕ) (reads : Reads i w m) where
  abbrev x : Standing
  x = standing k n t s y i z

  abbrev p : HasPaths k
  p = paths k n t s y i z

  abbrev on : GoesOn k x
  on = goes k n t s y i z

  abbrev G : Ground
  G = (sight k).ground

  abbrev tn : ℕ
  tn = y.number

  abbrev h0 : Hand
  h0 = hand k n t s y i z

  abbrev Reads_so : ℕ → Hand → Type 0
  Reads_so d h = Reading y s.rest (bound k n t s y i z) d h

  may : MayRead k p.types x w
  may = may_read_there k p x on i w m (let q = z in q.code) reads

  place : Place k p x false w
  place = record { free = may.free; base = may.base; boxes = may.boxes; type = may.type; resolves = may.resolves; unmarked = may.unmarked }

  pub under : m ≤ w.depth
  under = within i w m reads

  pub short : w.depth ≤ 8
  short =
      let at_it = typed k n t s y i z in
      let to = to_entry (types k n t s y i z).table y.pc (entry k n t s y i z) i at_it.0 at_it.1 (no_end i w m reads) in
      short_by (types k n t s y i z).table (entry k n t s y i z) to.0 i w m reads to.1

  -- what the thread has taken is no pointer that is read
  free : IsFree k n t s y i z false w place m
  free d lt less l located m2 v stands leads_on u q stars taken code depth there =
      let zz = z in
      let b = borrows i w m reads q (some_is (sym zz.code ∙ code)) in
      let depths : w.depth ≡ q.depth = ap (λ (r : Lval). r.depth) b.0 in
      let so_many : stars ≡ m = (let e = b.1 in omega (arith, e, depth, depths)) in
      let wr = may_write_there k p x on i w zz.code b.2 in
      apart k p x on w.slot w.depth wr.base wr.boxes wr.type wr.resolves d m less under l located (subst (λ (r : Lval). locate G tn r.slot m ≡ Some l) (sym b.0) (subst (λ a. locate G tn q.slot a ≡ Some l) so_many there))

  Reached : ℕ → Hand → Spot → Type 0
  Reached j h sp = (l : Location) × (locate G tn w.slot j ≡ Some l) × At k n t s y i z sp l × Reads_so j h

  pub reaches : (j : ℕ) → j ≤ m → (h : Hand) (sp : Spot) → read_stars j (record { work = begin_work s.rest; thread = y }) (in_slot w.slot) ≡ ready h sp
      → (l : Location) × (locate (sight k).ground y.number w.slot j ≡ Some l) × At k n t s y i z sp l × Reading y s.rest (bound k n t s y i z) j h
  reaches j le h sp e = subst (Fine k n t s y i z w.slot j) e (stars_fine k n t s y i z false w place short j (let u = under in omega (arith, le, u)) (λ d lt less. free d lt (omega (arith, less, le))))

  -- the value that a star follows
  pub hop_deep : (j : ℕ) → j < w.depth → (l : Location) → locate (sight k).ground y.number w.slot j ≡ Some l
      → (v : Value) × (value_in (sight k).ground l ≡ Some v) × ((l2 : Location) × (locate (sight k).ground y.number w.slot (suc j) ≡ Some l2) × (leads y.number (Some v) ≡ Some l2))
  hop_deep j lt l located =
      let zz = z in
      let next = at k zz.coherent.sound p n s zz.here x on (able k n t s y i z) false w place (suc j) (omega (arith, lt)) in
      let e = hop_from G tn w.slot j l next.0 located next.1 in
      (e.0, e.1, (next.0, next.1, e.2))

  pub hop_there : (j : ℕ) → j < m → (l : Location) → locate (sight k).ground y.number w.slot j ≡ Some l
      → (v : Value) × (value_in (sight k).ground l ≡ Some v) × ((l2 : Location) × (locate (sight k).ground y.number w.slot (suc j) ≡ Some l2) × (leads y.number (Some v) ≡ Some l2))
  hop_there j lt l located = hop_deep j (let u = under in omega (arith, lt, u)) l located

  pub placed_so : (j : ℕ) (h : Hand) (sp : Spot) (l : Location) → At k n t s y i z sp l → Reading y s.rest (bound k n t s y i z) j h → Placed h sp
  placed_so j h _ _ (a_slot b) a = in_its_slot b refl
  placed_so j h _ _ (a_cell u q o d f there) a = in_memory d.value (ap cell_value (ap (λ r. Rattle.law_walks_others.specs.Below.server_model.Work.look r u) a.partition ∙ f))
  placed_so j h _ _ (a_copy u o d f there) a = in_memory d.value (ap cell_value (a.hits u ∙ f))

  -- no copy is here under the next colour of a dirty reference
  pub untinted_so : (j : ℕ) → j < m → (h : Hand) (sp : Spot) (l : Location) → locate (sight k).ground y.number w.slot j ≡ Some l → At k n t s y i z sp l → Reading y s.rest (bound k n t s y i z) j h → Untinted h sp
  untinted_so j lt h sp l located spot a q there dirty =
      let zz = z in
      let e = hop_there j lt l located in
      let u = seen k n t s y i z j h sp l e.0 a spot e.1 in
      let same : u.0 ≡ value.Mut q = some_is (sym u.1 ∙ there) in
      let is : e.0 ≡ value.Mut q = alike_reference q e.0 (subst (λ b. Alike b e.0) same u.2) in
      let to : e.2.0 ≡ in_object q.object = some_is (sym e.2.2 ∙ ap (λ b. leads tn (Some b)) is) in
      let less : j < w.depth = (let b = under in omega (arith, lt, b)) in
      let tells = told k zz.coherent.sound p n s zz.here x on (able k n t s y i z) false w place j less l e.2.0 e.0 located e.1 e.2.2 (record { at = Some l; word = q.word; object = q.object }) (ap (pointer_at l) is) to (free j less lt l located e.2.0 e.0 e.1 e.2.2) in
      cached_hit h.work.rest.cache (next_word q.word) ∙ ap is_some (a.hits (next_word q.word)) ∙ sym (cached_hit s.rest.cache (next_word q.word)) ∙ tells.new

  -- one star
  starred : (j : ℕ) → j ≤ m → (h : Hand) (sp : Spot) → read_stars j h0 (in_slot w.slot) ≡ ready h sp → (i2 : ℕ) → i2 < j → (q : Read h0 (in_slot w.slot) i2) × ReadGoes q.hand q.spot q.next
  starred j le h sp e i2 lt =
      let q = all_read j h0 (in_slot w.slot) h sp e i2 lt in
      let r = reaches i2 (omega (arith, lt, le)) q.hand q.spot q.so_far in
      (q, read_goes q.hand q.spot q.next q.behind (placed_so i2 q.hand q.spot r.0 r.2 r.3) (untinted_so i2 (omega (arith, lt, le)) q.hand q.spot r.0 r.1 r.2 r.3) q.star)

  grows_to : (j : ℕ) → j ≤ m → (h : Hand) (sp : Spot) → read_stars j h0 (in_slot w.slot) ≡ ready h sp → (i2 : ℕ) → i2 ≤ j → (a : Hand) (b : Spot) → read_stars i2 h0 (in_slot w.slot) ≡ ready a b → Grows a.thread h.thread
  grows_to zero le h sp e i2 lt a b f =
      let none : i2 ≡ 0 = omega (arith, lt) in
      let same : a ≡ h = ready_hand (sym f ∙ ap (λ q. read_stars q h0 (in_slot w.slot)) none ∙ e) in
      subst (λ (q : Hand). Grows a.thread q.thread) same (λ v. omega arith)
  grows_to (suc j) le h sp e i2 lt a b f = by (nat_lt j i2) refl (λ q. (let g = grows_to j (omega (arith, le)) (starred (suc j) le h sp e j (omega arith)).0.hand (starred (suc j) le h sp e j (omega arith)).0.spot (starred (suc j) le h sp e j (omega arith)).0.so_far i2 q a b f in g))
    where
      by : (c : Bool) → nat_lt j i2 ≡ c → (i2 ≤ j → Grows a.thread (starred (suc j) le h sp e j (omega arith)).0.hand.thread) → Grows a.thread h.thread
      by true q go =
          let more : j < i2 = grind (arith, nat_tests, q) in
          let same_number : i2 ≡ suc j = omega (arith, more, lt) in
          let same : a ≡ h = ready_hand (sym f ∙ ap (λ u. read_stars u h0 (in_slot w.slot)) same_number ∙ e) in
          subst (λ (u : Hand). Grows a.thread u.thread) same (λ v. omega arith)
      by false q go =
          let no_more : i2 ≤ j = grind (arith, nat_tests, q) in
          let star = starred (suc j) le h sp e j (omega arith) in
          let same : star.0.next ≡ h = ready_hand (sym star.0.one_more ∙ e) in
          let first = go no_more in
          let second : Grows star.0.hand.thread h.thread = subst (λ (u : Hand). Grows star.0.hand.thread u.thread) same (let g = star.1 in g.grows) in
          λ v. (let c = first v in let d = second v in omega (arith, c, d))

  -- each pointer that is behind is at hand
  pub near : (j : ℕ) → j ≤ m → (h : Hand) (sp : Spot) → read_stars j (record { work = begin_work s.rest; thread = y }) (in_slot w.slot) ≡ ready h sp → (i2 : ℕ) → i2 < j → (l : Location) (v : Value) → locate (sight k).ground y.number w.slot i2 ≡ Some l → value_in (sight k).ground l ≡ Some v
      → loose_hop s.rest.number (used_words h.thread) (Some v) ≡ 0
  near j le h sp e i2 lt l v located stands =
      let star = starred j le h sp e i2 lt in
      let q = star.0 in
      let goes_so : ReadGoes q.hand q.spot q.next = star.1 in
      let r = reaches i2 (omega (arith, lt, le)) q.hand q.spot q.so_far in
      let same_location : r.0 ≡ l = some_is (sym r.1 ∙ located) in
      let u = seen k n t s y i z i2 q.hand q.spot r.0 v r.3 r.2 (ap (value_in G) same_location ∙ stands) in
      let same : goes_so.pointed ≡ u.0 = some_is (sym goes_so.stands ∙ u.1) in
      let number : q.hand.work.rest.number ≡ s.rest.number = (let a = r.3 in a.number) in
      let here : loose_hop s.rest.number (used_words q.next.thread) (Some v) ≡ 0 =
      sym (alike_loose s.rest.number (used_words q.next.thread) u.0 v u.2) ∙ ap (λ b. loose_hop s.rest.number (used_words q.next.thread) (Some b)) (sym same) ∙ ap (λ b. loose_hop b (used_words q.next.thread) (Some goes_so.pointed)) (sym number) ∙ goes_so.near in
      loose_grows s.rest.number q.next.thread h.thread (Some v) (grows_to j le h sp e (suc i2) (omega (arith, lt)) q.next q.behind q.one_more) here

  -- where each pointer is at hand already nothing is asked for
  pub never_asked : ((d : ℕ) (l : Location) (v : Value) → d < m → locate (sight k).ground y.number w.slot d ≡ Some l → value_in (sight k).ground l ≡ Some v → loose_hop s.rest.number (used_words y) (Some v) ≡ 0) → (h : Hand) → read_stars m (record { work = begin_work s.rest; thread = y }) (in_slot w.slot) ≡ requested h → ⊥
  never_asked all h e = subst Unasked e (stars_near k n t s y i z false w place short m under free all m 0 (omega arith) h0 (in_slot w.slot) (at_slot tn w.slot) refl (a_slot w.slot) (begins k n t s y i z))
