-- Where a thread and the cells on its way are there still, each place of it leads where it led, over the same pointers.
use Rattle.std.proofs.Common.{◌≡◌, ℕ, zero, suc, ◌+◌, ◌-◌, ◌≤◌, ◌&&◌, Bool, true, false, Option, Some, None, refl, sym, ap, subst, ◌∙◌, arith}
use Rattle.std.specs.Prelude.{slice_get}
use Rattle.law_words_values.specs.Below.fr_base.declared.place.Lval.{Lval}
use Rattle.law_words_values.specs.Below.fr_base.declared.name.ObjNo.{ObjNo}
use Rattle.law_words_values.specs.Below.fr_base.declared.label.Plain.{Plain}
use Rattle.law_words_values.specs.Below.fr_base.Names.{same_object}
use Rattle.law_words_values.specs.Below.fr_sound.Seen.{seen_cell}
use Rattle.law_words_values.specs.Below.heap_partition.Same.{same_owned}
use Rattle.law_words_values.specs.Below.heap_partition.declared.value.Cell.{Cell}
use Rattle.law_words_values.specs.Below.heap_partition.declared.value.Owned.{Owned}
use Rattle.law_words_values.specs.Below.thread_state.declared.value.Value.TheVariants as value
use Rattle.law_words_values.specs.Below.server_model.Servers.{Cluster}
use Rattle.law_words_values.specs.Below.coherent_memory.Names.{tot, one, Among}
use Rattle.law_words_values.specs.Below.coherent_memory.Things.{Location, in_cell, Thing, lies, flies, things_of}
use Rattle.law_words_values.specs.Below.coherent_memory.Follow.{Standing, Ground, thread_at, cell_of, slot_of, value_of, value_in, value_behind, leads, locate}
use Rattle.law_words_values.specs.Below.coherent_memory.Paths.{Awaited}
use Rattle.law_words_values.specs.Below.coherent_memory.Sight.{sight}
use Rattle.law_words_values.specs.Below.coherent_memory.Walking.{asked_for}
use Rattle.law_words_values.specs.Below.coherent_memory.OneHeap.{object_value}
use Rattle.law_words_values.proofs.Below.coherent_memory.Names.{and_left, and_right}
use Rattle.law_words_values.specs.Below.coherent_types.ClusterTypes.{IsCoherent}
use Rattle.law_words_values.specs.Below.law_words_paths.paths.HeapStore.{GoesOn, HasPaths}
use Rattle.law_words_values.proofs.Below.law_words_paths.paths.Alike.{IsShown, a_slot, an_object, leads_in_heap}
use Rattle.law_words_values.proofs.Below.law_words_paths.paths.Shown.{object_shown}
use Rattle.law_counts_waiting.specs.Below.law_words_paths.words.Reworded.{HasPlaces}
use Rattle.law_counts_waiting.proofs.Below.law_words_paths.words.Standing.{CellOf, lying, flying, cell_among, cell_found}
use Rattle.law_words_values.proofs.Below.law_heap_still.events.Tests.{objects}
use Rattle.law_words_values.proofs.Below.law_heap_still.events.Told.{told, same_told, at_thread, thread_told, found}
use Rattle.law_counts_waiting.proofs.waits.Found.{weighing, among_weighs}
use Rattle.law_walks_others.specs.pointers.Pointers.{SamePointers}
use Rattle.law_walks_others.proofs.pointers.Tests.{owneds, same_value, values}

truly : (b : Bool) → 1 ≤ one b → b ≡ true
truly true l = refl
truly false l = absurd (omega (arith, l))

both : (p q : Bool) → p ≡ true → q ≡ true → (p && q) ≡ true
both true q a b = b
both false q a b = absurd (cc a)

-- in a coherent cluster each number is that of one thread, and each object has one home
abbrev pub places_of : {k : Cluster} → IsCoherent k → HasPlaces k
places_of coherent = record { numbers_differ = coherent.sound.names.numbers_differ; home_of_each = coherent.sound.one_home.home_of_each; owner_of_each = coherent.sound.one_owner.owner_of_each }

-- a cell of the object with that value, its word included
abbrev pub shows : ObjNo → Owned → Thing → ℕ
shows o v (lies s a d) = one (same_object d.object o && same_owned d.value v)
shows o v (flies w d) = one (same_object d.object o && same_owned d.value v)
shows o v x = 0

-- each thread but the event's own one, each cell but those that it writes, and what is asked for are there still
pub record Lasts (k c : Cluster) (Own : ℕ → Type 0) (Changed : ObjNo → Type 0) : Type 0 where
  pub threads : (g : Standing → ℕ) (n : ℕ) → (Own n → ⊥) → tot (at_thread g n) (things_of k) ≤ tot (at_thread g n) (things_of c)
  pub cells : (o : ObjNo) (v : Owned) → (Changed o → ⊥) → tot (shows o v) (things_of k) ≤ tot (shows o v) (things_of c)
  pub asked : (n : ℕ) (b : Awaited) → tot (asked_for n b) (things_of k) ≤ tot (asked_for n b) (things_of c)

module _ (k c : Cluster) (Own : ℕ → Type 0) (Changed : ObjNo → Type 0) (before : HasPlaces k) (after : HasPlaces c) (lasts : Lasts k c Own Changed) where
  abbrev G : Ground
  G = (sight k).ground

  abbrev G2 : Ground
  G2 = (sight c).ground

  -- THREADS

  -- a thread that isn't the one that stepped gives no less
  by_number : (g : Standing → ℕ) (n : ℕ) → (Own n → ⊥) → told g (thread_at G.threads n) ≤ told g (thread_at G2.threads n)
  by_number g n ne = omega (arith, lasts.threads g n ne, thread_told g n (things_of k) (before.numbers_differ n), thread_told g n (things_of c) (after.numbers_differ n))

  -- so it stands there, and no count tells it from what it was
  pub record Stays (x : Standing) : Type 0 where
    pub standing : Standing
    pub found : thread_at (sight c).ground.threads x.thread.number ≡ Some standing
    pub same : (g : Standing → ℕ) → g standing ≡ g x

  pub stays : (x : Standing) → thread_at (sight k).ground.threads x.thread.number ≡ Some x → (Own x.thread.number → ⊥) → Stays x
  stays x there ne = by (thread_at G2.threads x.thread.number) refl
    where
      less : (g : Standing → ℕ) (o : Option Standing) → thread_at G2.threads x.thread.number ≡ o → g x ≤ told g o
      less g o e =
          let a : told g (thread_at G.threads x.thread.number) ≡ g x = ap (told g) there in
          let b : told g (thread_at G2.threads x.thread.number) ≡ told g o = ap (told g) e in
          omega (arith, by_number g x.thread.number ne, a, b)

      by : (o : Option Standing) → thread_at G2.threads x.thread.number ≡ o → Stays x
      by None e = absurd (omega (arith, less (λ u. 1) None e))
      by (Some y) e = record { standing = y; found = e; same = λ g. omega (arith, less g (Some y) e, less (λ u. (g x + g y) - g u) (Some y) e) }

  -- CELLS

  cell_same : (o : ObjNo) (d : Cell) → (Changed o → ⊥) → cell_of G.cells o ≡ Some d → value_of (cell_of G2.cells o) ≡ Some (value.Own d.value)
  cell_same o d free there =
      let a = cell_among o d (things_of k) there in
      let mine : shows o d.value a.thing ≡ 1 = weighs a.thing a.is a.object in
      let r = weighing (shows o d.value) (things_of c) (omega (arith, lasts.cells o d.value free, mine, among_weighs (shows o d.value) a.thing (things_of k) a.among)) in
      by r.thing r.among r.weighs
    where
      weighs : (y : Thing) → CellOf d y → d.object ≡ o → shows o d.value y ≡ 1
      weighs _ (lying s a) e = ap one (both (same_object d.object o) (same_owned d.value d.value) (subst (λ q. same_object d.object q ≡ true) e (objects.itself d.object)) (owneds.itself d.value))
      weighs _ (flying u) e = ap one (both (same_object d.object o) (same_owned d.value d.value) (subst (λ q. same_object d.object q ≡ true) e (objects.itself d.object)) (owneds.itself d.value))

      it : (d2 : Cell) (y : Thing) → CellOf d2 y → Among y (things_of c) → 1 ≤ one (same_object d2.object o && same_owned d2.value d.value) → value_of (cell_of G2.cells o) ≡ Some (value.Own d.value)
      it d2 y is h l =
          let all = truly (same_object d2.object o && same_owned d2.value d.value) l in
          let object : d2.object ≡ o = objects.tells d2.object o (and_left (same_object d2.object o) (same_owned d2.value d.value) all) in
          let value_is : d2.value ≡ d.value = owneds.tells d2.value d.value (and_right (same_object d2.object o) (same_owned d2.value d.value) all) in
          ap value_of (subst (λ q. cell_of G2.cells q ≡ Some d2) object (cell_found d2 y (things_of c) (after.home_of_each d2.object) is h)) ∙ ap (λ v. Some (value.Own v)) value_is

      by : (y : Thing) → Among y (things_of c) → 1 ≤ shows o d.value y → value_of (cell_of G2.cells o) ≡ Some (value.Own d.value)
      by (lies s a d2) h l = it d2 (lies s a d2) (lying s a) h l
      by (flies u d2) h l = it d2 (flies u d2) (flying u) h l
      by _ h l = absurd (omega (arith, l))

  -- PLACES

  module _ (p : HasPaths k) (x : Standing) (g : GoesOn k x) (ne : Own x.thread.number → ⊥) (w : Lval) (apart : (d : ℕ) (o : ObjNo) → d ≤ w.depth → locate (sight k).ground x.thread.number w.slot d ≡ Some (in_cell o) → Changed o → ⊥) where
    abbrev n : ℕ
    n = x.thread.number

    there : thread_at G.threads n ≡ Some x
    there = found x (things_of k) (before.numbers_differ n) g.among

    still : Stays x
    still = stays x there ne

    slot_same : (i : ℕ) → slice_get still.standing.thread.slots i ≡ slice_get x.thread.slots i
    slot_same i = same_told same_value values (slice_get still.standing.thread.slots i) (slice_get x.thread.slots i) (λ f. still.same (λ u. told f (slice_get u.thread.slots i)))

    value_same : (d : ℕ) (l : Location) → d ≤ w.depth → locate G n w.slot d ≡ Some l → IsShown k p x g l → value_in G2 l ≡ value_in G l
    value_same d _ le located (a_slot i) = ap (λ o. slot_of o i) still.found ∙ slot_same i ∙ sym (ap (λ o. slot_of o i) there)
    value_same d _ le located (an_object o v e) = by (object_value (sight k) o) refl e
      where
        by : (q : Option Plain) → object_value (sight k) o ≡ q → seen_cell p.types.typing.gives q ≡ Some v → value_in G2 (in_cell o) ≡ value_in G (in_cell o)
        by None q f = absurd (cc f)
        by (Some a) q f = let b = object_shown (sight k) o a q in cell_same o b.0 (λ h. apart d o le located h) b.1 ∙ sym (ap value_of b.1)

    behind_same : (d : ℕ) → d ≤ w.depth → (o : Option Location) → locate G n w.slot d ≡ o → value_behind G2 o ≡ value_behind G o
    behind_same d le None e = refl
    behind_same d le (Some l) e = value_same d l le e (leads_in_heap k p x g w.slot d l e).1

    place_same : (d : ℕ) → d ≤ w.depth → locate G2 n w.slot d ≡ locate G n w.slot d
    place_same zero le = refl
    place_same (suc d) le = let less : d ≤ w.depth = omega (arith, le) in ap (λ o. leads n (value_behind G2 o)) (place_same d less) ∙ ap (leads n) (behind_same d less (locate G n w.slot d) refl)

    pub pointers_same : SamePointers k c x.thread.number w
    pointers_same d le = (place_same d le, ap (value_behind G2) (place_same d le) ∙ behind_same d le (locate G n w.slot d) refl)
