-- Where what is seen of slots and cells is the same, each place of a thread leads where it led, over pointers of which the same is seen.
use Rattle.std.proofs.Common.{◌≡◌, ℕ, zero, suc, ◌≤◌, ◌&&◌, Bool, true, false, Option, Some, None, refl, sym, ap, subst, ◌∙◌, arith}
use Rattle.std.specs.Prelude.{slice_get}
use Rattle.law_counts_waiting.specs.Below.fr_base.declared.place.Lval.{Lval}
use Rattle.law_counts_waiting.specs.Below.fr_base.declared.name.ObjNo.{ObjNo}
use Rattle.law_counts_waiting.specs.Below.fr_base.declared.label.Plain.{Plain}
use Rattle.law_counts_waiting.specs.Below.fr_base.Names.{same_object}
use Rattle.law_counts_waiting.specs.Below.law_words_asked.Below.fr_sound.Seen.{seen_cell}
use Rattle.law_counts_waiting.specs.Below.heap_partition.Same.{same_owned}
use Rattle.law_counts_waiting.specs.Below.heap_partition.declared.value.Cell.{Cell}
use Rattle.law_counts_waiting.specs.Below.heap_partition.declared.value.Owned.{Owned}
use Rattle.law_counts_waiting.specs.Below.thread_state.declared.value.Value.{Value}
use Rattle.law_counts_waiting.specs.Below.thread_state.declared.value.Value.TheVariants as value
use Rattle.law_counts_waiting.specs.Below.server_model.Servers.{Cluster}
use Rattle.law_counts_waiting.specs.Below.coherent_memory.Names.{tot, one, Among}
use Rattle.law_counts_waiting.specs.Below.coherent_memory.Things.{Location, in_cell, Thing, lies, flies, stands, sent, things_of}
use Rattle.law_counts_waiting.specs.Below.coherent_memory.Follow.{Standing, Ground, thread_at, cell_of, slot_of, value_of, value_in, value_behind, leads, locate, hop_at}
use Rattle.law_counts_waiting.specs.Below.coherent_memory.OneHeap.{object_value}
use Rattle.law_counts_waiting.specs.Below.coherent_memory.Sight.{sight}
use Rattle.law_counts_waiting.proofs.Below.coherent_memory.Names.{and_left, and_right}
use Rattle.law_counts_waiting.specs.Below.law_words_paths.paths.HeapStore.{GoesOn, HasPaths}
use Rattle.law_counts_waiting.proofs.Below.law_words_paths.paths.Alike.{IsShown, a_slot, an_object, leads_in_heap}
use Rattle.law_counts_waiting.proofs.Below.law_words_paths.paths.Shown.{object_shown}
use Rattle.law_counts_waiting.specs.Below.law_words_paths.words.Reworded.{HasPlaces}
use Rattle.law_counts_waiting.proofs.Below.law_words_paths.words.Standing.{CellOf, lying, flying, cell_among, cell_found}
use Rattle.law_walks_others.proofs.Below.law_heap_still.events.Tests.{objects}
use Rattle.law_walks_others.proofs.Below.law_heap_still.events.Told.{found}
use Rattle.law_walks_others.proofs.Below.law_counts_waiting.waits.Found.{weighing, among_weighs}
use Rattle.law_walks_others.proofs.pointers.Cells.{Seeing, cell_weight}
use Rattle.law_walks_others.proofs.pointers.Tests.{owneds}

module _ (k c : Cluster) (seen : Option Value → Option Value) (leads_seen : (t : ℕ) (v : Option Value) → leads t (seen v) ≡ leads t v) (p : HasPaths k) (before : HasPlaces k) (after : HasPlaces c) (me : Standing) (g : GoesOn k me) (y : Standing) (among : Among y (sight c).ground.threads) (number : y.thread.number ≡ me.thread.number)
    (slots : (j : ℕ) → seen (slice_get y.thread.slots j) ≡ seen (slice_get me.thread.slots j)) (cells : (q : ObjNo) (d : Cell) → cell_of (sight k).ground.cells q ≡ Some d → seen (value_of (cell_of (sight c).ground.cells q)) ≡ seen (Some (value.Own d.value))) where
  abbrev G : Ground
  G = (sight k).ground

  abbrev G2 : Ground
  G2 = (sight c).ground

  abbrev n : ℕ
  n = me.thread.number

  here : thread_at G.threads n ≡ Some me
  here = found me (things_of k) (before.numbers_differ n) g.among

  there : thread_at G2.threads n ≡ Some y
  there = ap (thread_at G2.threads) (sym number) ∙ found y (things_of c) (after.numbers_differ y.thread.number) among

  value_same : (l : Location) → IsShown k p me g l → seen (value_in G2 l) ≡ seen (value_in G l)
  value_same _ (a_slot i) = ap (λ o. seen (slot_of o i)) there ∙ slots i ∙ sym (ap (λ o. seen (slot_of o i)) here)
  value_same _ (an_object q v e) = by (object_value (sight k) q) refl e
    where
      by : (z : Option Plain) → object_value (sight k) q ≡ z → seen_cell p.types.typing.gives z ≡ Some v → seen (value_in G2 (in_cell q)) ≡ seen (value_in G (in_cell q))
      by None z f = absurd (cc f)
      by (Some a) z f = let b = object_shown (sight k) q a z in cells q b.0 b.1 ∙ sym (ap (λ o. seen (value_of o)) b.1)

  behind_same : (slot m : ℕ) (o : Option Location) → locate G n slot m ≡ o → seen (value_behind G2 o) ≡ seen (value_behind G o)
  behind_same slot m None e = refl
  behind_same slot m (Some l) e = value_same l (leads_in_heap k p me g slot m l e).1

  led_same : (u v : Option Value) → seen u ≡ seen v → leads n u ≡ leads n v
  led_same u v e = sym (leads_seen n u) ∙ ap (leads n) e ∙ leads_seen n v

  pub place_same : (slot m : ℕ) → locate G2 n slot m ≡ locate G n slot m
  place_same slot zero = refl
  place_same slot (suc m) = ap (λ o. leads n (value_behind G2 o)) (place_same slot m) ∙ led_same (value_behind G2 (locate G n slot m)) (value_behind G (locate G n slot m)) (behind_same slot m (locate G n slot m) refl)

  pub hop_same : (w : Lval) (m : ℕ) → seen (hop_at G2 n w m) ≡ seen (hop_at G n w m)
  hop_same w m = ap (λ o. seen (value_behind G2 o)) (place_same w.slot m) ∙ behind_same w.slot m (locate G n w.slot m) refl

-- CELLS OF WHICH THE SAME IS SEEN

truly : (b : Bool) → 1 ≤ one b → b ≡ true
truly true l = refl
truly false l = absurd (omega (arith, l))

both : (p q : Bool) → p ≡ true → q ≡ true → (p && q) ≡ true
both true q a b = b
both false q a b = absurd (cc a)

-- a weight of the cells of an object of whose value that is seen
abbrev pub cells_see : (Owned → Owned) → ObjNo → Owned → Seeing
cells_see part q v = record { cells = λ r z u. one (same_object z q && same_owned (part u) v); threads = λ s b u. 0; messages = λ s m. 0 }

module _ (k c : Cluster) (after : HasPlaces c) (part : Owned → Owned) (grown : (q : ObjNo) (v : Owned) → tot (λ x. cell_weight (cells_see part q v) x) (things_of k) ≤ tot (λ x. cell_weight (cells_see part q v) x) (things_of c)) where
  pub record Found (q : ObjNo) (d : Cell) : Type 0 where
    pub cell : Cell
    pub there : cell_of (sight c).ground.cells q ≡ Some cell
    pub alike : part cell.value ≡ part d.value

  pub cell_then : (q : ObjNo) (d : Cell) → cell_of (sight k).ground.cells q ≡ Some d → Found q d
  cell_then q d there =
      let a = cell_among q d (things_of k) there in
      let r = weighing f (things_of c) (omega (arith, grown q (part d.value), weighs a.thing a.is a.object, among_weighs f a.thing (things_of k) a.among)) in
      by r.thing r.among r.weighs
    where
      f : Thing → ℕ
      f x = cell_weight (cells_see part q (part d.value)) x

      weighs : (y : Thing) → CellOf d y → d.object ≡ q → cell_weight (cells_see part q (part d.value)) y ≡ 1
      weighs _ (lying s a) e = ap one (both (same_object d.object q) (same_owned (part d.value) (part d.value)) (subst (λ z. same_object d.object z ≡ true) e (objects.itself d.object)) (owneds.itself (part d.value)))
      weighs _ (flying u) e = ap one (both (same_object d.object q) (same_owned (part d.value) (part d.value)) (subst (λ z. same_object d.object z ≡ true) e (objects.itself d.object)) (owneds.itself (part d.value)))

      it : (d2 : Cell) (y : Thing) → CellOf d2 y → Among y (things_of c) → 1 ≤ one (same_object d2.object q && same_owned (part d2.value) (part d.value)) → Found q d
      it d2 y is h l =
          let all = truly (same_object d2.object q && same_owned (part d2.value) (part d.value)) l in
          let object : d2.object ≡ q = objects.tells d2.object q (and_left (same_object d2.object q) (same_owned (part d2.value) (part d.value)) all) in
          record {
            cell = d2;
            there = subst (λ z. cell_of (sight c).ground.cells z ≡ Some d2) object (cell_found d2 y (things_of c) (after.home_of_each d2.object) is h);
            alike = owneds.tells (part d2.value) (part d.value) (and_right (same_object d2.object q) (same_owned (part d2.value) (part d.value)) all);
          }

      by : (y : Thing) → Among y (things_of c) → 1 ≤ cell_weight (cells_see part q (part d.value)) y → Found q d
      by (lies s a d2) h l = it d2 (lies s a d2) (lying s a) h l
      by (flies u d2) h l = it d2 (flies u d2) (flying u) h l
      by (stands s b u) h l = absurd (omega (arith, l))
      by (sent s m) h l = absurd (omega (arith, l))
      by _ h l = absurd (omega (arith, l))
