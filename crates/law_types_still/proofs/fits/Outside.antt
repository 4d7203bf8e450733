-- Where what is outside a typed one heap agrees with the types of its names, all does: who is inside names only what is inside, and the other way.
use Rattle.std.proofs.Common.{◌≡◌, inl, inr, ℕ, zero, suc, ◌+◌, ◌≤◌, ◌||◌, ◌&&◌, not, Bool, true, false, if◌then◌else◌, List, [], ◌∷◌, length, Option, Some, None, refl, sym, ap, ◌∙◌, arith}
use Rattle.law_heap_still.specs.Below.fr_base.declared.name.MutexNo.{MutexNo}
use Rattle.law_heap_still.specs.Below.fr_base.declared.name.ObjNo.{ObjNo}
use Rattle.law_heap_still.specs.Below.heap_partition.declared.value.BoxPtr.{BoxPtr}
use Rattle.law_heap_still.specs.Below.heap_partition.declared.value.Cell.{Cell}
use Rattle.law_heap_still.specs.Below.heap_partition.declared.value.Owned.{Owned}
use Rattle.law_heap_still.specs.Below.heap_partition.declared.value.Owned.TheVariants as owned
use Rattle.law_heap_still.specs.Below.server_model.Servers.{Cluster}
use Rattle.law_heap_still.specs.Below.fr_typing.Kinds.{Owned as OwnedType, unit, int, box, mutex, task, same_owned}
use Rattle.law_types_still.specs.Below.fr_sound.Seen.{Gives}
use Rattle.law_types_still.specs.Below.fr_sound.States.{Typing}
use Rattle.law_heap_still.specs.Below.fr_code.CodeTypes.{Table}
use Rattle.law_heap_still.specs.Below.coherent_memory.Names.{tot, one, other, if_so, Among, boxes, same_object}
use Rattle.law_heap_still.specs.Below.coherent_memory.Things.{Spot, in_slot, in_temp, as_gift, as_content, as_result, in_hand, Thing, holds, lies, flies}
use Rattle.law_heap_still.specs.Below.coherent_memory.Follow.{Standing}
use Rattle.law_heap_still.specs.Below.coherent_memory.Sight.{Sight, sight}
use Rattle.law_heap_still.specs.Below.coherent_memory.Walking.{instr_of}
use Rattle.law_heap_still.specs.Below.coherent_memory.Paths.{joined_thread}
use Rattle.law_heap_still.specs.Below.coherent_memory.Requests.{locked_mutex}
use Rattle.law_heap_still.specs.Below.coherent_memory.Weights.{owners}
use Rattle.law_heap_still.specs.Below.coherent_memory.OneHeap.{Node, object_n, Owner, a_thread, inside, outside, owns as owns_node, names, owner_of, owner_in, named_in, any_named, in_state_by, is_in_state, value_is_in, if_in, first_shown, cell_value}
use Rattle.law_heap_still.proofs.Below.coherent_memory.Words.{itself}
use Rattle.law_types_still.specs.Below.coherent_types.Names.{NameTypes, names_of, fits, is_there}
use Rattle.law_types_still.specs.Below.coherent_types.ClusterTypes.{misfit, content_gift, result_gift, gift_misfit}
use Rattle.law_types_still.proofs.Below.law_words_paths.paths.Forms.{none_of}
use Rattle.law_types_still.proofs.Below.law_words_paths.paths.InState.{only_one}
use Rattle.law_heap_still.proofs.events.Rounds.{enough}
use Rattle.law_types_still.specs.heap.Counted.{AreTheseTypes}
use Rattle.law_types_still.specs.fits.Fits.{StandsOnce, gift_is_in, HeapFits, outside_misfits, WholeAgrees, MisfitsFollow}
use Rattle.law_types_still.proofs.fits.Hands.{weighs}
use Rattle.law_types_still.proofs.fits.Stood.{gift_among, gift_owned}
use Rattle.law_types_still.proofs.fits.Chains.{named_by}
use Rattle.law_types_still.proofs.fits.Fits.{nothing}

-- TYPES OF OBJECTS ALONE

-- an owned value fits by other types of objects where its box's object has the same type
same_fits : (a b : ObjNo → OwnedType) (g : Gives) (o : OwnedType) (v : Owned) → ((p : BoxPtr) → v ≡ owned.Box p → a p.object ≡ b p.object) → fits (names_of a g) o v ≡ fits (names_of b g) o v
same_fits a b g o owned.Nothing h = refl
same_fits a b g unit owned.Unit h = refl
same_fits a b g int owned.Unit h = refl
same_fits a b g (box c) owned.Unit h = refl
same_fits a b g (mutex c) owned.Unit h = refl
same_fits a b g (task c) owned.Unit h = refl
same_fits a b g unit (owned.Int i) h = refl
same_fits a b g int (owned.Int i) h = refl
same_fits a b g (box c) (owned.Int i) h = refl
same_fits a b g (mutex c) (owned.Int i) h = refl
same_fits a b g (task c) (owned.Int i) h = refl
same_fits a b g unit (owned.Box p) h = refl
same_fits a b g int (owned.Box p) h = refl
same_fits a b g (box c) (owned.Box p) h = ap (λ z. same_owned z c) (h p refl)
same_fits a b g (mutex c) (owned.Box p) h = refl
same_fits a b g (task c) (owned.Box p) h = refl
same_fits a b g unit (owned.Mutex m) h = refl
same_fits a b g int (owned.Mutex m) h = refl
same_fits a b g (box c) (owned.Mutex m) h = refl
same_fits a b g (mutex c) (owned.Mutex m) h = refl
same_fits a b g (task c) (owned.Mutex m) h = refl
same_fits a b g unit (owned.Task t) h = refl
same_fits a b g int (owned.Task t) h = refl
same_fits a b g (box c) (owned.Task t) h = refl
same_fits a b g (mutex c) (owned.Task t) h = refl
same_fits a b g (task c) (owned.Task t) h = refl

-- so does a cell's, where its object has the same type too
same_cell : (a b : ObjNo → OwnedType) (g : Gives) (d : Cell) → a d.object ≡ b d.object → ((p : BoxPtr) → d.value ≡ owned.Box p → a p.object ≡ b p.object) → other (fits (names_of a g) (a d.object) d.value) ≡ other (fits (names_of b g) (b d.object) d.value)
same_cell a b g d e h = ap (λ o. other (fits (names_of a g) o d.value)) e ∙ ap other (same_fits a b g (b d.object) d.value h)

-- and a gift
same_gift : (a b : ObjNo → OwnedType) (g : Gives) (v : Owned) → ((p : BoxPtr) → v ≡ owned.Box p → a p.object ≡ b p.object) → (m : Option MutexNo) (t : Option ℕ)
    → content_gift (names_of a g) m (Some v) + result_gift (names_of a g) t (Some v) ≡ content_gift (names_of b g) m (Some v) + result_gift (names_of b g) t (Some v)
same_gift a b g v h None None = refl
same_gift a b g v h (Some m) None = ap (λ q. other (is_there v && q) + 0) (same_fits a b g (g.mutex m) v h)
same_gift a b g v h None (Some t) = ap (λ q. 0 + other (is_there v && q)) (same_fits a b g (g.result t) v h)
same_gift a b g v h (Some m) (Some t) =
    ap (λ q. other (is_there v && q) + other (is_there v && fits (names_of a g) (g.result t) v)) (same_fits a b g (g.mutex m) v h)
    ∙ ap (λ q. other (is_there v && fits (names_of b g) (g.mutex m) v) + other (is_there v && q)) (same_fits a b g (g.result t) v h)

no_gift : (n : NameTypes) (m : Option MutexNo) (u : Option ℕ) → content_gift n m None + result_gift n u None ≡ 0
no_gift n None None = refl
no_gift n (Some m) None = refl
no_gift n None (Some u) = refl
no_gift n (Some m) (Some u) = refl

-- WHO NAMES WHAT

any_of : (s : Sight) (f : Node → Bool) (n : Node) (x : Thing) (b : List Thing) → Among x b → names n x ≡ true → owner_in f (owner_of s x) ≡ true → any_named s f n b ≡ true
any_of s f n x [] a nm ow = absurd a
any_of s f n x (z ∷ b) (inl e) nm ow =
    ap (λ r. r || any_named s f n b) (ap (λ w. named_in (names n w) f (owner_of s w)) e ∙ ap (λ q. named_in q f (owner_of s x)) nm ∙ ow)
any_of s f n x (z ∷ b) (inr a) nm ow = or_second (named_in (names n z) f (owner_of s z)) (any_named s f n b) (any_of s f n x b a nm ow)
  where
    or_second : (p q : Bool) → q ≡ true → p || q ≡ true
    or_second true q e = refl
    or_second false q e = e

owned_one : (o : ObjNo) (v : Owned) → owns_node (object_n o) v ≡ true → 1 ≤ boxes o v
owned_one o (owned.Box p) f = let y : one (same_object p.object o) ≡ 1 = ap one f in omega (arith, y)
owned_one o _ f = absurd cc

names_owner : (o : ObjNo) (x : Thing) → names (object_n o) x ≡ true → 1 ≤ owners o x
names_owner o (holds p v) e = owned_one o v e
names_owner o (lies r a c) e = owned_one o c.value e
names_owner o (flies w c) e = owned_one o c.value e
names_owner o _ e = absurd cc

boxed_names : (p : BoxPtr) (v : Owned) → v ≡ owned.Box p → owns_node (object_n p.object) v ≡ true
boxed_names p v e = ap (owns_node (object_n p.object)) e ∙ itself p.object p.object refl

owner_more : (f h : Node → Bool) → ((q : Node) → f q ≡ true → h q ≡ true) → (o : Owner) → owner_in f o ≡ true → owner_in h o ≡ true
owner_more f h up a_thread e = refl
owner_more f h up (inside n) e = up n e
owner_more f h up outside e = absurd cc

same_bool : (p q : Bool) → (p ≡ true → q ≡ true) → (q ≡ true → p ≡ true) → p ≡ q
same_bool true q f h = sym (f refl)
same_bool false true f h = h refl
same_bool false false f h = refl

-- the one or the other, by where it is
either_none : (q : Bool) (m n o : ℕ) → if_so q m ≡ 0 → if_so (not q) n ≡ 0 → (q ≡ true → o ≡ m) → (q ≡ false → o ≡ n) → o ≡ 0
either_none true m n o a b f h = f refl ∙ a
either_none false m n o a b f h = h refl ∙ b

module _ (k : Cluster) (each_once : StandsOnce k) (table : Table) (y : Typing) (heap : HeapFits table y k) (old : ObjNo → OwnedType) (agrees : outside_misfits (names_of old y.gives) (sight k) ≡ 0) where
  abbrev s : Sight
  s = sight k

  abbrev types : ObjNo → OwnedType
  types = heap.counts.types

  abbrev pick : ObjNo → Bool → OwnedType
  pick o q = if q then types o else old o

  abbrev object : ObjNo → OwnedType
  object o = pick o (is_in_state s (object_n o))

  these : AreTheseTypes k object types
  these o v e = by (is_in_state s (object_n o)) e
    where
      by : (q : Bool) → if_in q (first_shown (cell_value o) s.things) ≡ Some v → pick o q ≡ types o
      by true f = refl
      by false f = absurd cc

  -- an object is in the state exactly where what names it is
  alike : (x : Thing) (o : ObjNo) → Among x s.things → names (object_n o) x ≡ true → is_in_state s (object_n o) ≡ value_is_in s x
  alike x o a nm = same_bool (is_in_state s (object_n o)) (value_is_in s x) inward (λ ow. enough s (suc (length s.things)) (object_n o) (any_of s (is_in_state s) (object_n o) x s.things a nm ow))
    where
      few : tot (owners o) s.things ≤ 1
      few = let p = each_once.owner_of_each o in let q = each_once.home_of_each o in omega (arith, p, q)

      inward : is_in_state s (object_n o) ≡ true → value_is_in s x ≡ true
      inward e = by (length s.things) refl
        where
          by : (i : ℕ) → length s.things ≡ i → value_is_in s x ≡ true
          by zero l = absurd (let q : false ≡ true = sym (ap (λ j. in_state_by j s (object_n o)) l) ∙ e in cc)
          by (suc i) l =
              let n = named_by s (in_state_by i s) (object_n o) s.things (sym (ap (λ j. in_state_by j s (object_n o)) l) ∙ e) in
              let same = only_one (owners o) n.thing x s.things few n.among a (names_owner o n.thing n.names_it) (names_owner o x nm) in
              owner_more (in_state_by i s) (is_in_state s) (enough s i) (owner_of s x) (sym (ap (λ z. owner_in (in_state_by i s) (owner_of s z)) same) ∙ n.owner_is_in)

  -- so it has the type that things of there are said to have
  typed_as : (x : Thing) (q : Bool) → Among x s.things → value_is_in s x ≡ q → (o : ObjNo) → names (object_n o) x ≡ true → object o ≡ pick o q
  typed_as x q a e o nm = ap (pick o) (alike x o a nm ∙ e)

  inside_thing : (x : Thing) → Among x s.things → if_so (value_is_in s x) (misfit (names_of types y.gives) x) ≡ 0
  inside_thing x a = let z = weighs (λ w. if_so (value_is_in s w) (misfit (names_of types y.gives) w)) x s.things a in let all = heap.agree in omega (arith, z, all)

  outside_thing : (x : Thing) → Among x s.things → if_so (not (value_is_in s x)) (misfit (names_of old y.gives) x) ≡ 0
  outside_thing x a = let z = weighs (λ w. if_so (not (value_is_in s w)) (misfit (names_of old y.gives) w)) x s.things a in omega (arith, z, agrees)

  both_ways : (x : Thing) → Among x s.things → (value_is_in s x ≡ true → misfit (names_of object y.gives) x ≡ misfit (names_of types y.gives) x) → (value_is_in s x ≡ false → misfit (names_of object y.gives) x ≡ misfit (names_of old y.gives) x) → misfit (names_of object y.gives) x ≡ 0
  both_ways x a f h = either_none (value_is_in s x) (misfit (names_of types y.gives) x) (misfit (names_of old y.gives) x) (misfit (names_of object y.gives) x) (inside_thing x a) (outside_thing x a) f h

  held_agrees : (p : Spot) (v : Owned) → Among (holds p v) s.things → misfit (names_of object y.gives) (holds p v) ≡ 0
  held_agrees (as_content m) v a =
      both_ways (holds (as_content m) v) a (λ e. ap (λ q. other (is_there v && q)) (same_fits object types y.gives (y.gives.mutex m) v (λ p b. typed_as (holds (as_content m) v) true a e p.object (boxed_names p v b))))
      (λ e. ap (λ q. other (is_there v && q)) (same_fits object old y.gives (y.gives.mutex m) v (λ p b. typed_as (holds (as_content m) v) false a e p.object (boxed_names p v b))))
  held_agrees (as_result t) v a =
      both_ways (holds (as_result t) v) a (λ e. ap (λ q. other (is_there v && q)) (same_fits object types y.gives (y.gives.result t) v (λ p b. typed_as (holds (as_result t) v) true a e p.object (boxed_names p v b))))
      (λ e. ap (λ q. other (is_there v && q)) (same_fits object old y.gives (y.gives.result t) v (λ p b. typed_as (holds (as_result t) v) false a e p.object (boxed_names p v b))))
  held_agrees (as_gift t) v a = refl
  held_agrees (in_slot t i) v a = refl
  held_agrees (in_temp t i) v a = refl
  held_agrees in_hand v a = refl

  thing_agrees : (x : Thing) → Among x s.things → misfit (names_of object y.gives) x ≡ 0
  thing_agrees (holds p v) a = held_agrees p v a
  thing_agrees (lies r j d) a =
      both_ways (lies r j d) a (λ e. same_cell object types y.gives d (ap (pick d.object) e) (λ p b. typed_as (lies r j d) true a e p.object (boxed_names p d.value b)))
      (λ e. same_cell object old y.gives d (ap (pick d.object) e) (λ p b. typed_as (lies r j d) false a e p.object (boxed_names p d.value b)))
  thing_agrees (flies w d) a =
      both_ways (flies w d) a (λ e. same_cell object types y.gives d (ap (pick d.object) e) (λ p b. typed_as (flies w d) true a e p.object (boxed_names p d.value b)))
      (λ e. same_cell object old y.gives d (ap (pick d.object) e) (λ p b. typed_as (flies w d) false a e p.object (boxed_names p d.value b)))
  thing_agrees _ a = refl

  -- GIFTS

  module _ (x : Standing) (a : Among x s.ground.threads) where
    abbrev gift_of : NameTypes → Option Owned → ℕ
    gift_of n o = content_gift n (locked_mutex s x (instr_of s x)) o + result_gift n (joined_thread (instr_of s x) x.thread) o

    inside_gift : if_so (gift_is_in s x) (gift_misfit (names_of types y.gives) s x) ≡ 0
    inside_gift = none_of (λ w. if_so (gift_is_in s w) (gift_misfit (names_of types y.gives) s w)) x s.ground.threads (let all = heap.agree in omega (arith, all)) a

    outside_gift : if_so (not (gift_is_in s x)) (gift_misfit (names_of old y.gives) s x) ≡ 0
    outside_gift = none_of (λ w. if_so (not (gift_is_in s w)) (gift_misfit (names_of old y.gives) s w)) x s.ground.threads (omega (arith, agrees)) a

    typed_gift : (v : Owned) → x.thread.gift ≡ Some v → (q : Bool) → gift_is_in s x ≡ q → (p : BoxPtr) → v ≡ owned.Box p → object p.object ≡ pick p.object q
    typed_gift v e q i p b = typed_as (holds (as_gift x.thread.number) v) q (gift_among k each_once x a v e) (ap (owner_in (is_in_state s)) (gift_owned k each_once x a v) ∙ i) p.object (boxed_names p v b)

    gift_agrees : gift_misfit (names_of object y.gives) s x ≡ 0
    gift_agrees = by x.thread.gift refl
      where
        by : (o : Option Owned) → x.thread.gift ≡ o → gift_misfit (names_of object y.gives) s x ≡ 0
        by None e = ap (gift_of (names_of object y.gives)) e ∙ no_gift (names_of object y.gives) (locked_mutex s x (instr_of s x)) (joined_thread (instr_of s x) x.thread)
        by (Some v) e =
            either_none (gift_is_in s x) (gift_misfit (names_of types y.gives) s x) (gift_misfit (names_of old y.gives) s x) (gift_misfit (names_of object y.gives) s x) inside_gift outside_gift
            (λ i. ap (gift_of (names_of object y.gives)) e ∙ same_gift object types y.gives v (typed_gift v e true i) (locked_mutex s x (instr_of s x)) (joined_thread (instr_of s x) x.thread) ∙ sym (ap (gift_of (names_of types y.gives)) e))
            (λ i. ap (gift_of (names_of object y.gives)) e ∙ same_gift object old y.gives v (typed_gift v e false i) (locked_mutex s x (instr_of s x)) (joined_thread (instr_of s x) x.thread) ∙ sym (ap (gift_of (names_of old y.gives)) e))

  whole_agrees : WholeAgrees y k types
  whole_agrees =
      let things = nothing (misfit (names_of object y.gives)) s.things thing_agrees in
      let gifts = nothing (gift_misfit (names_of object y.gives) s) s.ground.threads gift_agrees in
      record { object = object; these = these; agree = omega (arith, things, gifts) }

pub misfits_follow : MisfitsFollow
misfits_follow k each_once table y heap old agrees = whole_agrees k each_once table y heap old agrees
