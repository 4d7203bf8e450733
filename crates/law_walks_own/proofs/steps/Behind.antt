-- A step that reads its place and asks for something: what is behind is at hand, and it waits for the first hop that it can't read.
use Rattle.std.proofs.Common.{◌≡◌, inl, inr, ℕ, zero, suc, ◌<◌, ◌≤◌, not, is_some, Bool, true, false, List, [], ◌∷◌, ◌++◌, Option, Some, None, refl, sym, ap, ◌∙◌, arith}
use Rattle.std.specs.Prelude.{slice_get}
use Rattle.law_walks_others.specs.Below.fr_base.Lists.{is_in}
use Rattle.law_walks_others.specs.Below.fr_base.declared.name.ObjNo.{ObjNo}
use Rattle.law_walks_others.specs.Below.fr_base.declared.place.Lval.{Lval}
use Rattle.law_walks_others.specs.Below.heap_partition.declared.value.Cell.{Cell}
use Rattle.law_walks_others.specs.Below.heap_partition.declared.value.Owned.TheVariants as owned
use Rattle.law_walks_others.specs.Below.journal.View.{EntryView}
use Rattle.law_walks_others.specs.Below.read_cache.Cache.{Copy, copy_of, is_cached, users, users_in}
use Rattle.law_walks_others.specs.Below.thread_state.View.{ThreadState}
use Rattle.law_walks_others.specs.Below.thread_state.declared.value.Value.{Value}
use Rattle.law_walks_others.specs.Below.thread_state.declared.value.Value.TheVariants as value
use Rattle.law_walks_others.specs.Below.server_model.Servers.{Server, Cluster}
use Rattle.law_walks_others.specs.Below.server_model.Work.{Hand}
use Rattle.law_walks_others.specs.Below.server_model.Places.{Spot, in_slot}
use Rattle.law_walks_others.specs.Below.server_model.Prepare.{ready, read_stars}
use Rattle.law_walks_others.specs.Below.server_model.Events.{Stepped, begin_work, wait_step}
use Rattle.law_walks_others.specs.Below.coherent_memory.Names.{tot, other, Among}
use Rattle.law_walks_others.specs.Below.coherent_memory.Things.{Location, at_slot, in_cell}
use Rattle.law_walks_others.specs.Below.coherent_memory.Follow.{Standing, Ground, thread_at, cell_of, value_of, value_in, value_behind, slot_of, locate, hop_at, hops}
use Rattle.law_walks_others.specs.Below.coherent_memory.Paths.{Awaited, to_read, is_at_hand, is_readable}
use Rattle.law_walks_others.specs.Below.coherent_memory.Sight.{sight}
use Rattle.law_walks_others.specs.Below.coherent_memory.Walking.{words_kept, loose_hop}
use Rattle.law_walks_others.specs.Below.coherent_memory.Turn.{IsAsked}
use Rattle.law_walks_others.proofs.Below.coherent_memory.Passing.{paths_law, one_more}
use Rattle.law_walks_others.proofs.Below.coherent_memory.Sums.{tot-append}
use Rattle.law_walks_others.specs.Below.law_words_paths.paths.HeapStore.{GoesOn, HasPaths}
use Rattle.law_walks_others.proofs.Below.law_words_paths.paths.Alike.{IsShown, a_slot as shown_slot, an_object, leads_in_heap}
use Rattle.law_walks_others.proofs.Below.law_words_paths.paths.Shown.{stands_there}
use Rattle.law_words_ends.specs.Below.law_words_paths.words.Reworded.{HasPlaces}
use Rattle.law_walks_others.proofs.Below.law_counts_sums.Bags.{thread_number}
use Rattle.law_words_ends.specs.Below.law_words_kept.reads.Reading.{Reads}
use Rattle.law_walks_others.proofs.Below.law_results_reads.Known.{Steps, standing, paths, goes}
use Rattle.law_walks_others.proofs.Below.law_results_reads.Reading.{alike_at, Reading}
use Rattle.law_walks_others.proofs.Below.law_results_reads.Usable.{times}
use Rattle.law_walks_others.specs.Below.law_counts_waiting.waits.Places.{LeadsAsItDid}
use Rattle.law_walks_own.proofs.steps.Own.{Own, me, slot_is}
use Rattle.law_walks_own.proofs.steps.Stops.{all_read}
use Rattle.law_walks_own.proofs.steps.ReadStars.{Grows, in_times, loose_grows}
use Rattle.law_walks_own.proofs.steps.ReadWalk.{under, reaches, hop_there, near, alike_loose}

-- what is at hand can be read
is_true : (b : Bool) → other b ≡ 0 → b ≡ true
is_true true z = refl
is_true false z = absurd (cc z)

one_of : (a b : Awaited) → Among b (a ∷ []) → b ≡ a
one_of a b (inl e) = sym e
one_of a b (inr h) = absurd h

pub readable : (colours r : ℕ) (kept : List ℕ) (v : Value) (b : Awaited) → loose_hop r kept (Some v) ≡ 0 → Among b (to_read colours (Some v)) → is_readable kept r b ≡ true
readable colours r kept (value.Own (owned.Box p)) b z h = ap (is_readable kept r) (one_of _ b h) ∙ is_true (is_at_hand kept r true p.word) z
readable colours r kept (value.Shared q) b z h = ap (is_readable kept r) (one_of _ b h) ∙ is_true (is_at_hand kept r true q.word) z
readable colours r kept (value.Mut q) b z h = ap (is_readable kept r) (one_of _ b h) ∙ is_true (is_at_hand kept r (not q.dirty) q.word) z
readable colours r kept (value.Own owned.Nothing) b z h = absurd h
readable colours r kept (value.Own owned.Unit) b z h = absurd h
readable colours r kept (value.Own (owned.Int i)) b z h = absurd h
readable colours r kept (value.Own (owned.Mutex i)) b z h = absurd h
readable colours r kept (value.Own (owned.Task i)) b z h = absurd h
readable colours r kept value.Gone b z h = absurd h
readable colours r kept (value.SharedSlot i) b z h = absurd h
readable colours r kept (value.MutSlot i) b z h = absurd h
readable colours r kept (value.Held i) b z h = absurd h

-- a word of which no copy is here isn't kept
pub not_kept : (cs : List Copy) (w : ℕ) (ws : List ℕ) → times w ws ≤ users cs w → is_cached cs w ≡ false → is_in w ws ≡ false
not_kept cs w ws l e = by (is_in w ws) refl
  where
    none : (o : Option Copy) → is_some o ≡ false → users_in o ≡ 0
    none None f = refl
    none (Some d) f = absurd (cc f)

    by : (b : Bool) → is_in w ws ≡ b → b ≡ false
    by true f = let some_use = in_times w ws f in let no = none (copy_of cs w) e in absurd (omega (arith, some_use, l, no))
    by false f = refl

pub hops_sum : (f : Option Value → ℕ) (g : Ground) (t : ℕ) (w : Lval) (n : ℕ) → ((i : ℕ) → i < n → f (hop_at g t w i) ≡ 0) → tot f (hops g t w n) ≡ 0
hops_sum f g t w zero z = refl
hops_sum f g t w (suc n) z =
    let a : tot f (hops g t w (suc n)) ≡ tot f (hops g t w n ++ hop_at g t w n ∷ []) = ap (tot f) (one_more g t w n) in
    omega (arith, a, tot-append f (hops g t w n) (hop_at g t w n ∷ []), hops_sum f g t w n (λ i l. z i (omega (arith, l))), z n (omega arith))

-- AFTERWARDS

-- the thread keeps its number
pub number_then : (k c : Cluster) (v : EntryView) (t : ℕ) (o : Own k c v t) → o.result.hand.thread.number ≡ o.thread.number
number_then k c v t o = let z = o.steps in o.named ∙ sym (thread_number o.server.threads t o.thread z.at)

-- what its slots have
pub slot_then : (k c : Cluster) (v : EntryView) (t : ℕ) (o : Own k c v t) → HasPlaces c → (h : Hand) → o.result ≡ wait_step h → (b : ℕ) → value_in (sight c).ground (at_slot o.thread.number b) ≡ slice_get h.thread.slots b
slot_then k c v t o after h is b =
    let z = o.steps in
    ap (λ q. slot_of (thread_at (sight c).ground.threads q) b) (thread_number o.server.threads t o.thread z.at) ∙ slot_is k c v t o after b ∙ ap (λ (d : Stepped). slice_get d.hand.thread.slots b) is

-- where a place leads it led
pub same_place : (k c : Cluster) (t : ℕ) (w : Lval) → LeadsAsItDid k c t w → (i : ℕ) → i ≤ w.depth → (l : Location) → locate (sight k).ground t w.slot i ≡ Some l → hop_at (sight c).ground t w i ≡ value_in (sight c).ground l
same_place k c t w leads_so i lt l located = ap (value_behind (sight c).ground) (leads_so i lt ∙ located)

module _ (k c : Cluster) (v : EntryView) (t : ℕ) (o : Own k c v t) (after : HasPlaces c) (w : Lval) (m : ℕ) (reads : Reads o.instruction w m) (h : Hand) (is : o.result ≡ wait_step h) (leads_so : LeadsAsItDid k c o.thread.number w)
    (cells : (q : ObjNo) (e : Cell) → cell_of (sight k).ground.cells q ≡ Some e → value_of (cell_of (sight c).ground.cells q) ≡ Some (value.Own e.value))
    (j : ℕ) (le : j ≤ m) (a : Hand) (sp : Spot) (reached : read_stars j (record { work = begin_work o.server.rest; thread = o.thread }) (in_slot w.slot) ≡ ready a sp) (grows : Grows a.thread h.thread)
    (slots_like : (i : ℕ) → i < j → (b : ℕ) → locate (sight k).ground o.thread.number w.slot i ≡ Some (at_slot o.thread.number b) → slice_get h.thread.slots b ≡ slice_get a.thread.slots b) where
  abbrev n : ℕ
  n = o.number

  abbrev s : Server
  s = o.server

  abbrev y : ThreadState
  y = o.thread

  abbrev z : Steps k n t s y o.instruction
  z = o.steps

  abbrev r : ℕ
  r = s.rest.number

  abbrev x : Standing
  x = standing k n t s y o.instruction z

  abbrev p : HasPaths k
  p = paths k n t s y o.instruction z

  abbrev on : GoesOn k x
  on = goes k n t s y o.instruction z

  abbrev G : Ground
  G = (sight k).ground

  abbrev G2 : Ground
  G2 = (sight c).ground

  abbrev tn : ℕ
  tn = y.number

  abbrev kept : List ℕ
  kept = words_kept h.thread

  memory_then : (q : ObjNo) (u : Value) → value_in G (in_cell q) ≡ Some u → value_in G2 (in_cell q) ≡ Some u
  memory_then q u stands = by (cell_of G.cells q) refl stands
    where
      by : (d : Option Cell) → cell_of G.cells q ≡ d → value_of d ≡ Some u → value_in G2 (in_cell q) ≡ Some u
      by None e f = absurd (cc f)
      by (Some d) e f = cells q d e ∙ f

  -- each pointer that is behind is at hand
  at_hand : (i : ℕ) → i < j → (l : Location) → locate G tn w.slot i ≡ Some l → (u : Value) → value_in G l ≡ Some u → loose_hop r kept (value_in G2 l) ≡ 0
  at_hand i lt l located u stands = by l (leads_in_heap k p x on w.slot i l located).1 located stands
    where
      behind : loose_hop r kept (Some u) ≡ 0
      behind = loose_grows r a.thread h.thread (Some u) grows (near k n t s y o.instruction z w m reads j le a sp reached i lt l u located stands)

      by : (l : Location) → IsShown k p x on l → locate G tn w.slot i ≡ Some l → value_in G l ≡ Some u → loose_hop r kept (value_in G2 l) ≡ 0
      by _ (shown_slot b) at_it there =
          let reading : Reading y s.rest (Rattle.law_walks_others.proofs.Below.law_results_reads.Starred.bound k n t s y o.instruction z) j a = (reaches k n t s y o.instruction z w m reads j le a sp reached).3 in
          let same = alike_at a.thread.slots y.slots b u reading.slots (ap (λ q. slot_of q b) (sym (stands_there k p x on)) ∙ there) in
          ap (loose_hop r kept) (slot_then k c v t o after h is b ∙ slots_like i lt b at_it ∙ same.1) ∙ alike_loose r kept same.0 u same.2 ∙ behind
      by _ (an_object q e f) at_it there = ap (loose_hop r kept) (memory_then q u there) ∙ behind

  pub behind_so : (i : ℕ) → i < j → loose_hop o.server.rest.number (words_kept h.thread) (hop_at (sight c).ground o.thread.number w i) ≡ 0
  behind_so i lt =
      let b = all_read j (record { work = begin_work s.rest; thread = y }) (in_slot w.slot) a sp reached i lt in
      let at_it = reaches k n t s y o.instruction z w m reads i (omega (arith, lt, le)) b.hand b.spot b.so_far in
      let e = hop_there k n t s y o.instruction z w m reads i (omega (arith, lt, le)) at_it.0 at_it.1 in
      ap (loose_hop r kept) (same_place k c tn w leads_so i (let q = under k n t s y o.instruction z w m reads in omega (arith, lt, le, q)) at_it.0 at_it.1) ∙ at_hand i lt at_it.0 at_it.1 e.0 e.1

  -- so can be read what is waited for there
  pub can_read : (i : ℕ) → i < j → (b : Awaited) → IsAsked (sight c) (me k c v t o after) w i (to_read (sight c).options.colours) b → is_readable (words_kept h.thread) o.server.rest.number b ≡ true
  can_read i lt b q =
      let there : hop_at G2 tn w i ≡ Some q.value =
      ap (λ u. hop_at G2 u w i) (sym (number_then k c v t o)) ∙ ap (value_behind G2) (paths_law.locates G2 o.result.hand.thread.number w.slot i q.location q.hop.path) ∙ q.hop.stands in
      readable (sight c).options.colours r kept q.value b (sym (ap (loose_hop r kept) there) ∙ behind_so i lt) q.asked
