-- What a typed one heap says of what is counted: locks and ends, and all of it together.
use Rattle.std.proofs.Common.{◌≡◌, ℕ, suc, ◌<◌, ◌==◌, not, Bool, true, false, if◌then◌else◌, List, [], ◌∷◌, reverse, length, Option, Some, None, refl, sym, ap, ◌∙◌, arith}
use Rattle.std.proofs.lemmas.List.{length-reverse}
use Rattle.law_heap_still.specs.Below.fr_base.declared.name.ObjNo.{ObjNo}
use Rattle.law_heap_still.specs.Below.fr_base.declared.name.MutexNo.{MutexNo}
use Rattle.law_heap_still.specs.Below.thread_state.View.{is_over}
use Rattle.law_heap_still.specs.Below.thread_state.declared.value.Value.{Value}
use Rattle.law_heap_still.specs.Below.thread_state.declared.value.Value.TheVariants as value
use Rattle.law_heap_still.specs.Below.fr_typing.Kinds.{Owned as OwnedType, same_owned}
use Rattle.law_heap_still.specs.Below.fr_typing.Places.{Slot, Env}
use Rattle.law_heap_still.specs.Below.fr_sound.States.{env_at, part_of, owned_part}
use Rattle.law_heap_still.specs.Below.server_model.Servers.{Cluster}
use Rattle.law_heap_still.specs.Below.coherent_memory.Names.{tot, if_so, Among}
use Rattle.law_heap_still.specs.Below.coherent_memory.Things.{things_of}
use Rattle.law_heap_still.specs.Below.coherent_memory.Follow.{Standing, threads_in}
use Rattle.law_heap_still.specs.Below.coherent_memory.Sight.{sight}
use Rattle.law_heap_still.specs.Below.coherent_types.Names.{NameTypes, names_of, is_type}
use Rattle.law_heap_still.specs.Below.coherent_types.ClusterTypes.{entry_wrong, above_mark, locked_of, locked_wrong, gives_other, ends_wrong}
use Rattle.law_heap_still.specs.Below.law_words_paths.paths.HeapStore.{GoesOn}
use Rattle.law_heap_still.proofs.Below.law_words_paths.paths.Shown.{at_behind, behind_is}
use Rattle.law_types_still.specs.heap.Counted.{over_ends_wrong, CountsFollow, TypedHeapsCount, TypesFollow}
use Rattle.law_types_still.proofs.heap.Following.{HasHeap}
use Rattle.law_types_still.proofs.heap.Values.{running, held_shown}
use Rattle.law_types_still.proofs.heap.Leads.{each_none, to_other, leads_follow}
use Rattle.law_types_still.proofs.heap.Objects.{some_part, object_type}
use Rattle.law_types_still.proofs.heap.Forms.{same_if, within_env, newest, older}
use Rattle.law_types_still.proofs.heap.Formed.{long_slots, forms_follow}

-- LOCKS

type_is : (n : NameTypes) (m : MutexNo) (o : Option OwnedType) → o ≡ Some (n.mutex m) → is_type o (n.mutex m) ≡ true
type_is n m None e = absurd cc
type_is n m (Some a) e = let z : a ≡ n.mutex m = cc in same_if a (n.mutex m) z

-- the slot above each mark has the type of its mutex, where it is so by number
locked_right : (n : NameTypes) (e : Env) (vs : List Value) → length vs ≡ length e → ((i : ℕ) (m : MutexNo) (s : Slot) → at_behind vs i ≡ Some (value.Held m) → env_at e (suc i) ≡ Some s → owned_part s.part ≡ Some (n.mutex m)) → locked_of n e vs ≡ 0
locked_right n [] [] long go = refl
locked_right n [] (v ∷ vs) long go = absurd (omega (arith, long))
locked_right n (s ∷ e) [] long go = absurd (omega (arith, long))
locked_right n (s ∷ e) (v ∷ vs) long go =
    let same : length vs ≡ length e = omega (arith, long) in
    let later = locked_right n e vs same (λ i m y a b. (let l = within_env e (suc i) y b in go i m y (older i (length vs) (Some v) (at_behind vs i) (omega (arith, l, same)) ∙ a) (older (suc i) (length e) (Some s) (env_at e (suc i)) l ∙ b))) in
    let first = by vs same go in
    omega (arith, first, later)
  where
    held : (w : Value) (us : List Value) → suc (length us) ≡ length e → ((i : ℕ) (m : MutexNo) (y : Slot) → at_behind (v ∷ w ∷ us) i ≡ Some (value.Held m) → env_at (s ∷ e) (suc i) ≡ Some y → owned_part y.part ≡ Some (n.mutex m)) → above_mark n s (w ∷ us) ≡ 0
    held value.Gone us same go = refl
    held (value.Own o) us same go = refl
    held (value.SharedSlot i) us same go = refl
    held (value.MutSlot i) us same go = refl
    held (value.Shared r) us same go = refl
    held (value.Mut r) us same go = refl
    held (value.Held m) us same go =
        let i = length us in
        let below : length us < suc (length us) = omega arith in
        let at : at_behind (v ∷ value.Held m ∷ us) (length us) ≡ Some (value.Held m) = older (length us) (suc (length us)) (Some v) (at_behind (value.Held m ∷ us) (length us)) below ∙ newest (length us) (Some (value.Held m)) (at_behind us (length us)) in
        let slot : env_at (s ∷ e) (suc (length us)) ≡ Some s = ap (λ j. if suc (length us) == j then Some s else env_at e (suc (length us))) (sym same) ∙ newest (suc (length us)) (Some s) (env_at e (suc (length us))) in
        to_other (is_type (owned_part s.part) (n.mutex m)) (type_is n m (owned_part s.part) (go (length us) m s at slot))

    by : (vs : List Value) → length vs ≡ length e → ((i : ℕ) (m : MutexNo) (y : Slot) → at_behind (v ∷ vs) i ≡ Some (value.Held m) → env_at (s ∷ e) (suc i) ≡ Some y → owned_part y.part ≡ Some (n.mutex m)) → above_mark n s vs ≡ 0
    by [] same go = refl
    by (w ∷ us) same go = held w us same go

module _ (k : Cluster) (c : HasHeap k) (object : ObjNo → OwnedType) where
  abbrev names : NameTypes
  names = names_of object c.typing.gives

  thread_locked : (x : Standing) (g : GoesOn k x) → entry_wrong (λ y. locked_of names y.env (reverse x.thread.slots)) (c.table x.thread.pc) ≡ 0
  thread_locked x g =
      let r = running k c x g in
      ap (entry_wrong (λ y. locked_of names y.env (reverse x.thread.slots))) r.known
      ∙ locked_right names r.entry.env (reverse x.thread.slots) (length-reverse x.thread.slots ∙ long_slots k c (object_type k c) (λ o v e. refl) x g)
      (λ i m s a b.
      let at = sym (behind_is x.thread.slots i) ∙ a in
      let lock = r.marked i m (held_shown k c x g i (value.Held m) at) in
      let content : some_part k c (part_of (env_at r.entry.env (suc i))) ≡ Some (c.typing.gives.mutex m) = lock.content in
      sym (ap (λ o. some_part k c (part_of o)) b) ∙ content)

  if_going : (f : Standing → ℕ) → ((x : Standing) → GoesOn k x → f x ≡ 0) → (x : Standing) → Among x (sight k).ground.threads → if_so (not (is_over x.thread.phase)) (f x) ≡ 0
  if_going f go x a = by (is_over x.thread.phase) refl
    where
      by : (q : Bool) → is_over x.thread.phase ≡ q → if_so (not q) (f x) ≡ 0
      by true e = refl
      by false e = go x (record { among = a; going = e })

  pub locked_follow : locked_wrong c.table names (sight k) ≡ 0
  locked_follow =
      each_none (λ x. 0) (λ x. if_so (not (is_over x.thread.phase)) (entry_wrong (λ y. locked_of names y.env (reverse x.thread.slots)) (c.table x.thread.pc))) (threads_in (things_of k))
      (λ x a none. if_going (λ y. entry_wrong (λ z. locked_of names z.env (reverse y.thread.slots)) (c.table y.thread.pc)) thread_locked x a) (none_in (threads_in (things_of k)))
    where
      none_in : (xs : List Standing) → tot (λ (x : Standing). 0) xs ≡ 0
      none_in [] = refl
      none_in (x ∷ xs) = let z = none_in xs in omega (arith, z)

  -- ENDS
  pub ends_follow : over_ends_wrong c.table names (sight k) ≡ 0 → ends_wrong c.table names (sight k) ≡ 0
  ends_follow z =
      each_none (λ x. if_so (is_over x.thread.phase) (entry_wrong (gives_other names x.thread.number) (c.table x.thread.pc))) (λ x. entry_wrong (gives_other names x.thread.number) (c.table x.thread.pc)) (threads_in (things_of k))
      (λ x a none. by x a (is_over x.thread.phase) refl none) z
    where
      by : (x : Standing) → Among x (sight k).ground.threads → (q : Bool) → is_over x.thread.phase ≡ q → if_so q (entry_wrong (gives_other names x.thread.number) (c.table x.thread.pc)) ≡ 0 → entry_wrong (gives_other names x.thread.number) (c.table x.thread.pc) ≡ 0
      by x a true e none = none
      by x a false e none =
          let r = running k c x (record { among = a; going = e }) in
          ap (entry_wrong (gives_other names x.thread.number)) r.known ∙ to_other (same_owned r.entry.gives (c.typing.gives.result x.thread.number)) (same_if r.entry.gives (c.typing.gives.result x.thread.number) r.gives)

-- TOGETHER
pub counts_follow : (k : Cluster) (c : HasHeap k) → CountsFollow c.table c.typing k
counts_follow k c = record {
  types = object_type k c;
  forms = λ object these z. forms_follow k c object these z;
  locked = locked_follow k c;
  lead = leads_follow k c;
  ends = ends_follow k c;
}

pub typed_heaps_count : TypedHeapsCount
typed_heaps_count k numbers table y state = counts_follow k (record { numbers = numbers; table = table; typing = y; state = state })

pub types_follow : TypesFollow
types_follow k numbers table is y state c left = record {
  table = table;
  is_table = is;
  object = left.object;
  typing = y;
  state = state;
  agree = left.agree;
  forms = c.forms left.object left.these left.sorts;
  locked = c.locked left.object;
  lead = c.lead left.holders;
  views = left.views;
  ends = c.ends left.object left.ends;
}
