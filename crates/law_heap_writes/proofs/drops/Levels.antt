-- In a coherent cluster what stands under a node has a type of fewer levels than the node: an object's cell, a mutex's content, a thread's result, gifts too.
use Rattle.std.proofs.Common.{◌≡◌, inl, inr, ℕ, suc, ◌+◌, ◌<◌, ◌≤◌, ◌&&◌, Bool, true, false, List, [], ◌∷◌, Option, Some, None, refl, sym, ap, ◌∙◌, subst, arith}
use Rattle.law_words_writes.proofs.Below.law_results_reads.Below.coloured_heap.Times.{number_is, object_is, mutex_is}
use Rattle.law_words_writes.specs.Below.law_results_reads.Below.fr_base.declared.name.ObjNo.{ObjNo}
use Rattle.law_words_writes.specs.Below.law_results_reads.Below.fr_base.declared.name.MutexNo.{MutexNo}
use Rattle.law_words_writes.specs.Below.law_results_reads.Below.fr_base.declared.instruction.Instr.{Instr}
use Rattle.law_words_writes.specs.Below.law_results_reads.Below.fr_base.declared.instruction.Instr.TheVariants as instr
use Rattle.law_words_writes.specs.Below.law_results_reads.Below.fr_typing.Kinds.{Owned, unit, int, box, mutex, task, same_owned}
use Rattle.law_words_writes.specs.Below.law_results_reads.Below.fr_typing.Checks.{owned_levels}
use Rattle.law_words_writes.specs.Below.law_results_reads.Below.heap_partition.declared.value.BoxPtr.{BoxPtr}
use Rattle.law_words_writes.specs.Below.law_results_reads.Below.heap_partition.declared.value.Owned.{Owned as Value}
use Rattle.law_words_writes.specs.Below.law_results_reads.Below.heap_partition.declared.value.Owned.TheVariants as owned
use Rattle.law_words_writes.specs.Below.law_results_reads.Below.server_model.Servers.{Cluster}
use Rattle.law_words_writes.specs.Below.law_results_reads.Below.coherent_memory.Names.{tot, one, other, if_so, Among}
use Rattle.law_words_writes.specs.Below.law_results_reads.Below.coherent_memory.Things.{in_slot, in_temp, as_gift, as_content, as_result, in_hand, Thing, holds, lies, flies, stands, things_of}
use Rattle.law_words_writes.specs.Below.law_results_reads.Below.coherent_memory.Follow.{Standing, threads_in, thread_at}
use Rattle.law_words_writes.specs.Below.law_results_reads.Below.coherent_memory.Sight.{Sight, sight}
use Rattle.law_words_writes.specs.Below.law_results_reads.Below.coherent_memory.Walking.{instr_of}
use Rattle.law_words_writes.specs.Below.law_results_reads.Below.coherent_memory.Paths.{joined_thread}
use Rattle.law_words_writes.specs.Below.law_results_reads.Below.coherent_memory.Requests.{locked_mutex}
use Rattle.law_words_writes.specs.Below.law_results_reads.Below.coherent_memory.OneHeap.{Node, object_n, mutex_n, task_n, Owner, a_thread, inside, outside, content_owner, result_owner, gift_owner, gift_owner_of, spot_owner, owner_of, owns, names}
use Rattle.law_words_writes.specs.Below.law_results_reads.Below.coherent_types.Names.{NameTypes, names_of, fits, is_there}
use Rattle.law_words_writes.specs.Below.law_results_reads.Below.coherent_types.ClusterTypes.{misfit, content_gift, result_gift, gift_misfit, IsCoherent}
use Rattle.law_heap_steps.proofs.Below.law_heap_still.events.Told.{found}
use Rattle.law_heap_writes.proofs.drops.Under.{held_value, owned_by, under_names, node_is}
use Rattle.law_heap_writes.proofs.drops.GiftValues.{given_by, placed, telling, gifts_told}

-- LEVELS

abbrev pub type_of : NameTypes → Node → Owned
type_of n (object_n o) = n.object o
type_of n (mutex_n m) = n.mutex m
type_of n (task_n t) = n.result t

abbrev pub level : NameTypes → Node → ℕ
level n a = owned_levels (type_of n a)

same_levels : (a b : Owned) → same_owned a b ≡ true → owned_levels a ≡ owned_levels b
same_levels unit unit e = refl
same_levels int int e = refl
same_levels (box a) (box b) e = ap suc (same_levels a b e)
same_levels (mutex a) (mutex b) e = ap suc (same_levels a b e)
same_levels (task a) (task b) e = ap suc (same_levels a b e)
same_levels a b e = absurd cc

pub same_type : (a b : Owned) → same_owned a b ≡ true → a ≡ b
same_type unit unit e = refl
same_type int int e = refl
same_type (box a) (box b) e = ap box (same_type a b e)
same_type (mutex a) (mutex b) e = ap mutex (same_type a b e)
same_type (task a) (task b) e = ap task (same_type a b e)
same_type a b e = absurd cc

fewer_box : (n : NameTypes) (t : Owned) (p : BoxPtr) (o : ObjNo) → fits n t (owned.Box p) ≡ true → p.object ≡ o → owned_levels (n.object o) < owned_levels t
fewer_box n (box t) p o e f =
    let x = same_levels (n.object p.object) t e in
    let y = ap (λ q. owned_levels (n.object q)) f in
    omega (arith, x, y)
fewer_box n t p o e f = absurd cc

fewer_mutex : (n : NameTypes) (t : Owned) (q m : MutexNo) → fits n t (owned.Mutex q) ≡ true → q ≡ m → owned_levels (n.mutex m) < owned_levels t
fewer_mutex n (mutex t) q m e f =
    let x = same_levels (n.mutex q) t e in
    let y = ap (λ z. owned_levels (n.mutex z)) f in
    omega (arith, x, y)
fewer_mutex n t q m e f = absurd cc

fewer_task : (n : NameTypes) (t : Owned) (q u : ℕ) → fits n t (owned.Task q) ≡ true → q ≡ u → owned_levels (n.result u) < owned_levels t
fewer_task n (task t) q u e f =
    let x = same_levels (n.result q) t e in
    let y = ap (λ z. owned_levels (n.result z)) f in
    omega (arith, x, y)
fewer_task n t q u e f = absurd cc

-- a name in a value of a type has a type of fewer levels
pub fewer : (n : NameTypes) (t : Owned) (b : Node) (v : Value) → fits n t v ≡ true → owns b v ≡ true → level n b < owned_levels t
fewer n t (object_n o) (owned.Box p) e f = fewer_box n t p o e (object_is p.object o f)
fewer n t (mutex_n m) (owned.Mutex q) e f = fewer_mutex n t q m e (mutex_is q m f)
fewer n t (task_n u) (owned.Task q) e f = fewer_task n t q u e (number_is q u f)
fewer n t b v e f = absurd cc

-- WHAT STANDS UNDER A NODE

none_in : {A : Type 0} (f : A → ℕ) (x : A) (xs : List A) → tot f xs ≡ 0 → Among x xs → f x ≡ 0
none_in f x [] z h = absurd h
none_in f x (y ∷ ys) z (inl e) = subst (λ w. f w ≡ 0) e (omega (arith, z))
none_in f x (y ∷ ys) z (inr h) = none_in f x ys (omega (arith, z)) h

not_other : (b : Bool) → other b ≡ 0 → b ≡ true
not_other true e = refl
not_other false e = absurd cc

at_most_both : (a b : Bool) → other b ≤ other (a && b)
at_most_both true b = omega arith
at_most_both false true = omega arith
at_most_both false false = omega arith

-- of that owner, the value doesn't agree with the type
abbrev bad_under : NameTypes → Owner → Value → ℕ
bad_under n (inside p) v = other (fits n (type_of n p) v)
bad_under n o v = 0

module _ (k : Cluster) (co : IsCoherent k) where
  abbrev pub n : NameTypes
  n = names_of co.types.object co.types.typing.gives

  abbrev s : Sight
  s = sight k

  abbrev bad_gift : ℕ → Value → ℕ
  bad_gift t v = bad_under n (gift_owner_of s (thread_at s.ground.threads t)) v

  agree : (tot (misfit n) (things_of k) ≡ 0) × (tot (gift_misfit n s) s.ground.threads ≡ 0)
  agree = let both_none : tot (misfit n) (things_of k) + tot (gift_misfit n s) s.ground.threads ≡ 0 = co.types.agree in (omega (arith, both_none), omega (arith, both_none))

  -- the gift of a thread that stands agrees
  locked_gift : (m : Option MutexNo) (v : Value) → content_gift n m (Some v) ≡ 0 → bad_under n (content_owner m) v ≡ 0
  locked_gift None v z = refl
  locked_gift (Some m) v z = omega (arith, z, at_most_both (is_there v) (fits n (n.mutex m) v))

  joined_gift : (t : Option ℕ) (v : Value) → result_gift n t (Some v) ≡ 0 → bad_under n (result_owner t) v ≡ 0
  joined_gift None v z = refl
  joined_gift (Some t) v z = omega (arith, z, at_most_both (is_there v) (fits n (n.result t) v))

  standing_gift : (x : Standing) (v : Value) (i : Option Instr) → content_gift n (locked_mutex s x i) (Some v) + result_gift n (joined_thread i x.thread) (Some v) ≡ 0 → bad_under n (gift_owner s x i) v ≡ 0
  standing_gift x v (Some (instr.Lock w)) z = locked_gift (locked_mutex s x (Some (instr.Lock w))) v (omega (arith, z))
  standing_gift x v (Some (instr.Join o)) z = joined_gift (joined_thread (Some (instr.Join o)) x.thread) v (omega (arith, z))
  standing_gift x v _ z = refl

  told_none : (xs : List Thing) → ((x : Standing) → Among x (threads_in xs) → Among x s.ground.threads) → tot (telling bad_gift) xs ≡ 0
  told_none [] h = refl
  told_none (stands r p x ∷ xs) h =
      let y : Standing = record { server = r; packed = p; thread = x } in
      let there = found y (things_of k) (co.sound.names.numbers_differ x.number) (h y (inl refl)) in
      omega (arith, by y there (none_in (gift_misfit n s) y s.ground.threads agree.1 (h y (inl refl))) x.gift refl, told_none xs (λ z q. h z (inr q)))
    where
      by : (y : Standing) → thread_at s.ground.threads y.thread.number ≡ Some y → gift_misfit n s y ≡ 0 → (g : Option Value) → y.thread.gift ≡ g → (telling bad_gift) (stands y.server y.packed y.thread) ≡ 0
      by y there z g e = of g e
        where
          of : (g : Option Value) → y.thread.gift ≡ g → given_by bad_gift y.thread.number y.thread.gift ≡ 0
          of None f = ap (given_by bad_gift y.thread.number) f
          of (Some v) f =
              ap (given_by bad_gift y.thread.number) f ∙ ap (λ o. bad_under n (gift_owner_of s o) v) there
              ∙ standing_gift y v (instr_of s y) (sym (ap (λ g. content_gift n (locked_mutex s y (instr_of s y)) g + result_gift n (joined_thread (instr_of s y) y.thread) g) f) ∙ z)
  told_none (_ ∷ xs) h = omega (arith, told_none xs h)

  gifts_agree : tot (placed bad_gift) (things_of k) ≡ 0
  gifts_agree = omega (arith, gifts_told bad_gift k, told_none (things_of k) (λ x h. h))

  abbrev bad_value : Owner → Option Value → ℕ
  bad_value o None = 0
  bad_value o (Some v) = bad_under n o v

  -- a thing's value that doesn't agree with the type of the node that it stands under
  abbrev pub bad : Thing → ℕ
  bad th = bad_value (owner_of s th) (held_value th)

  bad_at_most : (th : Thing) → bad th ≤ misfit n th + placed bad_gift th
  bad_at_most (holds (as_gift t) v) = omega arith
  bad_at_most (holds (as_content m) v) = omega (arith, at_most_both (is_there v) (fits n (n.mutex m) v))
  bad_at_most (holds (as_result t) v) = omega (arith, at_most_both (is_there v) (fits n (n.result t) v))
  bad_at_most (holds (in_slot t i) v) = omega arith
  bad_at_most (holds (in_temp t i) v) = omega arith
  bad_at_most (holds in_hand v) = omega arith
  bad_at_most (lies r a c) = omega arith
  bad_at_most (flies w c) = omega arith
  bad_at_most _ = omega arith

  all_bad : (xs : List Thing) → tot bad xs ≤ tot (misfit n) xs + tot (placed bad_gift) xs
  all_bad [] = omega arith
  all_bad (th ∷ xs) = omega (arith, bad_at_most th, all_bad xs)

  pub all_agree : tot bad (things_of k) ≡ 0
  all_agree = omega (arith, all_bad (things_of k), agree.0, gifts_agree)

  inside_is : (p : Node) (o : Owner) → owned_by p o ≡ true → o ≡ inside p
  inside_is p (inside w) e = ap inside (node_is w p e)
  inside_is p a_thread e = absurd (cc e)
  inside_is p outside e = absurd (cc e)

  value_falls : (p q : Node) (o : Owner) (v : Value) → bad_under n o v ≡ 0 → owned_by p o ≡ true → owns q v ≡ true → level n q < level n p
  value_falls p q o v z e f = fewer n (type_of n p) q v (not_other (fits n (type_of n p) v) (sym (ap (λ w. bad_under n w v) (inside_is p o e)) ∙ z)) f

  falls_at : (p q : Node) (th : Thing) → bad th ≡ 0 → owned_by p (owner_of s th) ≡ true → names q th ≡ true → level n q < level n p
  falls_at p q (holds r v) z e f = value_falls p q (spot_owner s r) v z e f
  falls_at p q (lies r a c) z e f = value_falls p q (inside (object_n c.object)) c.value z e f
  falls_at p q (flies w c) z e f = value_falls p q (inside (object_n c.object)) c.value z e f
  falls_at p q _ z e f = absurd (cc e)

  pub levels_fall : (p q : Node) (xs : List Thing) → tot bad xs ≡ 0 → 1 ≤ tot (under_names s p q) xs → level n q < level n p
  levels_fall p q [] z l = absurd (omega (arith, l))
  levels_fall p q (th ∷ xs) z l = by (names q th) (owned_by p (owner_of s th)) refl refl l (λ m. levels_fall p q xs (omega (arith, z)) m)
    where
      by : (b c : Bool) → names q th ≡ b → owned_by p (owner_of s th) ≡ c → 1 ≤ if_so b (one c) + tot (under_names s p q) xs → (1 ≤ tot (under_names s p q) xs → level n q < level n p) → level n q < level n p
      by true true f g m go = falls_at p q th (omega (arith, z)) g f
      by true false f g m go = go (omega (arith, m))
      by false c f g m go = go (omega (arith, m))
