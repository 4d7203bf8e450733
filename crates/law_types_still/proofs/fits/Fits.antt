-- What stands in a typed one heap agrees with the types of its names.
use Rattle.std.proofs.Common.{◌≡◌, inl, inr, ℕ, suc, ◌+◌, ◌&&◌, Bool, true, false, List, [], ◌∷◌, Option, Some, None, refl, sym, ap, subst, ◌∙◌, arith}
use Rattle.law_heap_still.specs.Below.fr_base.declared.name.MutexNo.{MutexNo}
use Rattle.law_heap_still.specs.Below.fr_base.declared.instruction.Instr.{Instr}
use Rattle.law_heap_still.specs.Below.fr_base.declared.instruction.Instr.TheVariants as instr
use Rattle.law_heap_still.specs.Below.heap_partition.Plain.{plain_of}
use Rattle.law_heap_still.specs.Below.heap_partition.declared.value.Cell.{Cell}
use Rattle.law_heap_still.specs.Below.heap_partition.declared.value.Owned.{Owned}
use Rattle.law_heap_still.specs.Below.server_model.Servers.{Cluster}
use Rattle.law_heap_still.specs.Below.fr_typing.Kinds.{Owned as OwnedType}
use Rattle.law_heap_still.specs.Below.fr_store.Keys.{Key, content_k, result_k}
use Rattle.law_heap_still.specs.Below.fr_store.Store.{at_key, at_object}
use Rattle.law_heap_still.specs.Below.fr_store.Typed.{owns, TopFits}
use Rattle.law_heap_still.specs.Below.fr_store.Below.{tree_of}
use Rattle.law_heap_still.proofs.Below.fr_store.Rows.{top_fits}
use Rattle.law_types_still.specs.Below.fr_sound.Seen.{owned_val}
use Rattle.law_types_still.specs.Below.fr_sound.States.{Typing}
use Rattle.law_heap_still.specs.Below.fr_code.CodeTypes.{Table}
use Rattle.law_heap_still.specs.Below.fr_code.TableStates.{CodeStateTypes}
use Rattle.law_heap_still.specs.Below.coherent_memory.Names.{tot, other, if_so, Among}
use Rattle.law_heap_still.specs.Below.coherent_memory.Things.{Spot, in_slot, in_temp, as_gift, as_content, as_result, in_hand, Thing, holds, lies, flies}
use Rattle.law_heap_still.specs.Below.coherent_memory.Follow.{Standing}
use Rattle.law_heap_still.specs.Below.coherent_memory.Sight.{Sight, sight}
use Rattle.law_heap_still.specs.Below.coherent_memory.Walking.{instr_of}
use Rattle.law_heap_still.specs.Below.coherent_memory.Paths.{joined_thread}
use Rattle.law_heap_still.specs.Below.coherent_memory.Requests.{locked_mutex}
use Rattle.law_heap_still.specs.Below.coherent_memory.OneHeap.{one_heap, object_n, mutex_n, task_n, inside, content_owner, result_owner, gift_owner, owner_of, owner_in, is_in_state, value_is_in}
use Rattle.law_types_still.specs.Below.coherent_types.Names.{NameTypes, names_of, fits, is_there}
use Rattle.law_types_still.specs.Below.coherent_types.ClusterTypes.{misfit, content_gift, result_gift, gift_misfit}
use Rattle.law_types_still.proofs.Below.law_words_paths.paths.Sole.{some_is}
use Rattle.law_types_still.specs.heap.Counted.{CountsFollow, sorts_wrong}
use Rattle.law_types_still.proofs.heap.Following.{HasHeap}
use Rattle.law_types_still.proofs.heap.Leads.{to_other, leads_follow}
use Rattle.law_types_still.proofs.heap.Objects.{content_among, result_among, object_type}
use Rattle.law_types_still.proofs.heap.Formed.{forms_follow}
use Rattle.law_types_still.proofs.heap.Counts.{locked_follow, ends_follow}
use Rattle.law_types_still.specs.fits.Fits.{StandsOnce, gift_is_in, HeapFits, TypedHeapsFit}
use Rattle.law_types_still.proofs.fits.Depths.{whole_there}
use Rattle.law_types_still.proofs.fits.Stood.{gift_among, gift_owned, content_there, result_there}
use Rattle.law_types_still.proofs.fits.Chains.{OwnsKey, deep, type_at, fits_at, content_owns, content_at, result_owns, result_at, object_below, CellThing, it_lies, it_flies, cell_there, c, st, object}

-- SUMS

pub nothing : {A : Type 0} (f : A → ℕ) (xs : List A) → ((x : A) → Among x xs → f x ≡ 0) → tot f xs ≡ 0
nothing f [] go = refl
nothing f (x ∷ xs) go = omega (arith, go x (inl refl), nothing f xs (λ y a. go y (inr a)))

so_nothing : (q : Bool) → if_so q 0 ≡ 0
so_nothing true = refl
so_nothing false = refl

-- what is nothing where the test holds
where_so : (q : Bool) (n : ℕ) → (q ≡ true → n ≡ 0) → if_so q n ≡ 0
where_so true n go = go refl
where_so false n go = refl

both_true : (p q : Bool) → p ≡ true → q ≡ true → p && q ≡ true
both_true true q e f = f
both_true false q e f = absurd cc

module _ (k : Cluster) (each_once : StandsOnce k) (table : Table) (y : Typing) (state : CodeStateTypes table y (one_heap k)) (sorted : sorts_wrong table (sight k) ≡ 0) where
  abbrev s : Sight
  s = sight k

  abbrev n : NameTypes
  n = names_of (object k each_once table y state sorted) y.gives

  abbrev Owns : Key → Type 0
  Owns h = OwnsKey k each_once table y state sorted h

  -- CELLS

  cell_fits : (d : Cell) (x : Thing) → CellThing d x → Among x s.things → is_in_state s (object_n d.object) ≡ true → other (fits n (n.object d.object) d.value) ≡ 0
  cell_fits d x cell a is =
      let w = object_below k each_once table y state sorted d.object is in
      let at = cell_there k each_once table y state sorted d x cell a is in
      let deeper = deep k each_once table y state sorted w.key w.owns_it (suc w.depth) (at_object d.object) w.leads in
      let fit = fits_at k each_once table y state sorted w.key w.owns_it (suc w.depth) (at_object d.object) w.leads d.value at in
      let type : n.object d.object ≡ deeper.type = type_at k each_once table y state sorted w.key w.owns_it w.depth d.object deeper.type w.leads deeper.under in
      to_other (fits n (n.object d.object) d.value) (subst (λ a. fits n a d.value ≡ true) (sym type) fit)

  -- CONTENTS AND RESULTS

  -- the whole value of a key
  key_fits : (h : Key) (w : Owns h) (a : OwnedType) (v : Owned) → w.type ≡ a → y.exact h ≡ owns (tree_of a) → (st k each_once table y state sorted).at h ≡ owned_val y.gives (plain_of v) → is_there v && fits n a v ≡ true
  key_fits h w a v type exact at =
      let d = deep k each_once table y state sorted h w 0 (at_key h) refl in
      let fit = fits_at k each_once table y state sorted h w 0 (at_key h) refl v (ap Some at) in
      let same : d.type ≡ a = sym (some_is d.under) ∙ type in
      let there = whole_there y.gives (object k each_once table y state sorted) a v (subst (TopFits (tree_of a)) at (top_fits y.rank y.exact (st k each_once table y state sorted) state.typed h (tree_of a) exact)) in
      both_true (is_there v) (fits n a v) there (subst (λ b. fits n b v ≡ true) same fit)

  content_fits : (p : Spot) (v : Owned) (m : MutexNo) → Among (holds p v) s.things → owner_of s (holds p v) ≡ inside (mutex_n m) → is_in_state s (mutex_n m) ≡ true → misfit n (holds (as_content m) v) ≡ 0
  content_fits p v m a e is =
      let there = content_there k each_once p v m a e is in
      let w = content_owns k each_once table y state sorted m v there (content_among k (c k each_once table y state sorted) (holds p v) m a e) in
      to_other (is_there v && fits n (y.gives.mutex m) v) (key_fits (content_k m.home m.count) w (y.gives.mutex m) v refl w.exact (content_at k each_once table y state sorted m v there))

  result_fits : (p : Spot) (v : Owned) (t : ℕ) → Among (holds p v) s.things → owner_of s (holds p v) ≡ inside (task_n t) → is_in_state s (task_n t) ≡ true → misfit n (holds (as_result t) v) ≡ 0
  result_fits p v t a e is =
      let there = result_there k each_once p v t a e is in
      let w = result_owns k each_once table y state sorted t v there (result_among k (c k each_once table y state sorted) (holds p v) t a e) in
      to_other (is_there v && fits n (y.gives.result t) v) (key_fits (result_k t) w (y.gives.result t) v refl w.exact (result_at k each_once table y state sorted t v there))

  -- THINGS

  held_fits : (p : Spot) (v : Owned) → Among (holds p v) s.things → if_so (value_is_in s (holds p v)) (misfit n (holds p v)) ≡ 0
  held_fits (as_content m) v a = where_so (is_in_state s (mutex_n m)) (misfit n (holds (as_content m) v)) (λ is. content_fits (as_content m) v m a refl is)
  held_fits (as_result t) v a = where_so (is_in_state s (task_n t)) (misfit n (holds (as_result t) v)) (λ is. result_fits (as_result t) v t a refl is)
  held_fits (as_gift t) v a = so_nothing (value_is_in s (holds (as_gift t) v))
  held_fits (in_slot t i) v a = refl
  held_fits (in_temp t i) v a = refl
  held_fits in_hand v a = refl

  thing_fits : (x : Thing) → Among x s.things → if_so (value_is_in s x) (misfit n x) ≡ 0
  thing_fits (holds p v) a = held_fits p v a
  thing_fits (lies r j d) a = where_so (is_in_state s (object_n d.object)) (misfit n (lies r j d)) (λ is. cell_fits d (lies r j d) (it_lies r j) a is)
  thing_fits (flies w d) a = where_so (is_in_state s (object_n d.object)) (misfit n (flies w d)) (λ is. cell_fits d (flies w d) (it_flies w) a is)
  thing_fits _ a = refl

  -- GIFTS

  module _ (x : Standing) (a : Among x s.ground.threads) where
    abbrev t : ℕ
    t = x.thread.number

    lock_fits : (v : Owned) → x.thread.gift ≡ Some v → (o : Option MutexNo) → gift_owner s x (instr_of s x) ≡ content_owner o → if_so (owner_in (is_in_state s) (content_owner o)) (content_gift n o (Some v) + 0) ≡ 0
    lock_fits v e None f = refl
    lock_fits v e (Some m) f =
        where_so (is_in_state s (mutex_n m)) (misfit n (holds (as_content m) v) + 0)
        (λ is. (let z = content_fits (as_gift t) v m (gift_among k each_once x a v e) (gift_owned k each_once x a v ∙ f) is in omega (arith, z)))

    join_fits : (v : Owned) → x.thread.gift ≡ Some v → (o : Option ℕ) → gift_owner s x (instr_of s x) ≡ result_owner o → if_so (owner_in (is_in_state s) (result_owner o)) (0 + result_gift n o (Some v)) ≡ 0
    join_fits v e None f = refl
    join_fits v e (Some u) f =
        where_so (is_in_state s (task_n u)) (0 + misfit n (holds (as_result u) v))
        (λ is. (let z = result_fits (as_gift t) v u (gift_among k each_once x a v e) (gift_owned k each_once x a v ∙ f) is in omega (arith, z)))

    some_fits : (v : Owned) → x.thread.gift ≡ Some v → (i : Option Instr) → instr_of s x ≡ i → if_so (owner_in (is_in_state s) (gift_owner s x i)) (content_gift n (locked_mutex s x i) (Some v) + result_gift n (joined_thread i x.thread) (Some v)) ≡ 0
    some_fits v e (Some (instr.Lock w)) f = lock_fits v e (locked_mutex s x (Some (instr.Lock w))) (ap (gift_owner s x) f)
    some_fits v e (Some (instr.Join o)) f = join_fits v e (joined_thread (Some (instr.Join o)) x.thread) (ap (gift_owner s x) f)
    some_fits v e _ f = refl

    no_gift : (m : Option MutexNo) (u : Option ℕ) → content_gift n m None + result_gift n u None ≡ 0
    no_gift None None = refl
    no_gift (Some m) None = refl
    no_gift None (Some u) = refl
    no_gift (Some m) (Some u) = refl

    gift_fits : if_so (gift_is_in s x) (gift_misfit n s x) ≡ 0
    gift_fits = by x.thread.gift refl
      where
        by : (o : Option Owned) → x.thread.gift ≡ o → if_so (gift_is_in s x) (content_gift n (locked_mutex s x (instr_of s x)) o + result_gift n (joined_thread (instr_of s x) x.thread) o) ≡ 0
        by None e = where_so (gift_is_in s x) (content_gift n (locked_mutex s x (instr_of s x)) None + result_gift n (joined_thread (instr_of s x) x.thread) None) (λ is. no_gift (locked_mutex s x (instr_of s x)) (joined_thread (instr_of s x) x.thread))
        by (Some v) e = some_fits v e (instr_of s x) refl

  abbrev heap : HasHeap k
  heap = c k each_once table y state sorted

  -- what is counted follows by these types of objects
  abbrev counts : CountsFollow table y k
  counts = record {
    types = object_type k heap;
    forms = λ o these z. forms_follow k heap o these z;
    locked = locked_follow k heap;
    lead = leads_follow k heap;
    ends = ends_follow k heap;
  }

  heap_fits : HeapFits table y k
  heap_fits =
      let things = nothing (λ x. if_so (value_is_in s x) (misfit n x)) s.things thing_fits in
      let gifts = nothing (λ x. if_so (gift_is_in s x) (gift_misfit n s x)) s.ground.threads gift_fits in
      record { counts = counts; agree = omega (arith, things, gifts) }

pub typed_heaps_fit : TypedHeapsFit
typed_heaps_fit k each_once table y state sorted = heap_fits k each_once table y state sorted
