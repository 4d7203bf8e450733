-- Where each thing stands once, each object, each content and each result is shown once, and no two threads have one number: what soundness says of it, without what needs types.
use Rattle.std.proofs.Common.{◌≡◌, inl, inr, ℕ, zero, suc, ◌+◌, ◌≤◌, ◌==◌, Bool, true, false, if◌then◌else◌, List, [], ◌∷◌, Option, Some, None, is_some, refl, sym, subst, arith}
use Rattle.law_heap_still.specs.Below.fr_base.declared.label.Plain.{Plain}
use Rattle.law_heap_still.specs.Below.fr_base.declared.label.Plain.TheVariants as plain
use Rattle.law_heap_still.specs.Below.fr_base.declared.name.MutexNo.{MutexNo}
use Rattle.law_heap_still.specs.Below.fr_base.declared.name.ObjNo.{ObjNo}
use Rattle.law_heap_still.specs.Below.join_home.Tasks.{TaskState, going, let_go, kept, asked, in_pair}
use Rattle.law_heap_still.specs.Below.server_msgs.declared.message.Message.{Message}
use Rattle.law_heap_still.specs.Below.server_msgs.declared.message.Message.TheVariants as message
use Rattle.law_heap_still.specs.Below.server_model.Servers.{Cluster}
use Rattle.law_heap_still.specs.Below.coherent_memory.Names.{tot, one, if_so, some, same_object, same_mutex, Among}
use Rattle.law_heap_still.specs.Below.coherent_memory.Things.{Spot, in_slot, in_temp, as_gift, as_content, as_result, in_hand, Thing, holds, lies, flies, sent, stands, noted, things_of}
use Rattle.law_heap_still.specs.Below.coherent_memory.Follow.{Standing, threads_in, thread_at}
use Rattle.law_heap_still.specs.Below.coherent_memory.Sight.{Sight, sight}
use Rattle.law_heap_still.specs.Below.coherent_memory.Sharing.{is_content_of, gift_content, contents, finished_of, joined_of, got_phase, kept_note, gift_result, results, has_ended}
use Rattle.law_heap_still.specs.Below.coherent_memory.Weights.{cells}
use Rattle.law_heap_still.specs.Below.coherent_memory.OneHeap.{if_in, or_else, cell_value, is_gift_of, content_value, pair_over, branch_result, is_joined_by, result_value}
use Rattle.law_heap_still.proofs.events.Told.{at_most, found, told, ones}
use Rattle.law_heap_still.proofs.events.Counting.{shown_result}
use Rattle.law_heap_still.proofs.events.Alike.{Once}
use Rattle.law_heap_still.proofs.events.Gifts.{placed, telling, places_told}
use Rattle.law_types_still.specs.fits.Fits.{StandsOnce, SoundStandOnce}
use Rattle.law_types_still.proofs.fits.Homes.{few_homes}
use Rattle.law_heap_still.specs.Below.heap_partition.Plain.{plain_of}
use Rattle.law_heap_still.specs.Below.heap_partition.declared.value.Owned.{Owned}

told_one : (q : Bool) (v : Plain) → told ones (if_in q (Some v)) ≡ one q
told_one true v = refl
told_one false v = refl

-- OBJECTS

cell_once : (o : ObjNo) (x : Thing) → told ones (cell_value o x) ≤ cells o x
cell_once o (lies r a c) = let e = told_one (same_object c.object o) (plain_of c.value) in omega (arith, e)
cell_once o (flies w c) = let e = told_one (same_object c.object o) (plain_of c.value) in omega (arith, e)
cell_once o _ = omega arith

some_at_most : (n : ℕ) → one (some n) ≤ n
some_at_most zero = omega arith
some_at_most (suc n) = omega arith

so_at_most : (q : Bool) (n : ℕ) → if_so q n ≤ n
so_at_most true n = omega arith
so_at_most false n = omega arith

abbrev nought : {A : Type 0} → A → ℕ
nought x = 0

module _ (k : Cluster) (c : StandsOnce k) where
  abbrev s : Sight
  s = sight k

  abbrev a : List Thing
  a = things_of k

  abbrev at : ℕ → Option Standing
  at t = thread_at (threads_in a) t

  found_there : (x : Standing) → Among x (threads_in a) → at x.thread.number ≡ Some x
  found_there x h = found x a (c.numbers.numbers_differ x.thread.number) h

  -- RESULTS

  module _ (t : ℕ) where
    abbrev mine : ℕ → ℕ
    mine u = one (u == t)

    abbrev joined : ℕ → ℕ
    joined u = one (is_joined_by s t (at u))

    value_placed : (x : Thing) → told ones (result_value s t x) ≤ placed nought mine joined x
    value_placed (holds p v) = by p
      where
        by : (p : Spot) → told ones (result_value s t (holds p v)) ≤ placed nought mine joined (holds p v)
        by (as_result u) = let e = told_one (u == t) (plain_of v) in omega (arith, e)
        by (as_gift u) = let e = told_one (is_joined_by s t (at u)) (plain_of v) in omega (arith, e)
        by (in_slot u i) = omega arith
        by (in_temp u i) = omega arith
        by (as_content m) = omega arith
        by in_hand = omega arith
    value_placed _ = omega arith

    none : (q : Bool) → 0 + told {A = Plain} ones (if q then None else None) ≤ if_so q 0
    none true = omega arith
    none false = omega arith

    branch_note : (u : ℕ) (x : TaskState) → telling nought mine joined (noted 0 (record { thread = u; state = x })) + told ones (if u == t then pair_over x else None) ≤ if_so (u == t) (kept_note x)
    branch_note u (kept v) = by (u == t)
      where
        by : (q : Bool) → one q + told {A = Plain} ones (if q then None else None) ≤ if_so q 1
        by true = omega arith
        by false = omega arith
    branch_note u (in_pair p d) = by (u == t) d
      where
        by : (q d : Bool) → 0 + told ones (if q then pair_over (in_pair p d) else None) ≤ if_so q (one d)
        by true true = omega arith
        by true false = omega arith
        by false d = omega arith
    branch_note u going = none (u == t)
    branch_note u let_go = none (u == t)
    branch_note u (asked r w) = none (u == t)

    sent_at_most : (r : ℕ) (m : Message) → telling nought mine joined (sent r m) ≤ finished_of t m + joined_of t m
    sent_at_most r (message.Finished u v) = omega arith
    sent_at_most r (message.Joined u v by) = omega arith
    sent_at_most r _ = omega arith

    held_none : (p : Spot) (v : Owned) → telling nought mine joined (holds p v) ≡ 0
    held_none (as_content m) v = refl
    held_none (as_result u) v = refl
    held_none (as_gift u) v = refl
    held_none (in_slot u i) v = refl
    held_none (in_temp u i) v = refl
    held_none in_hand v = refl

    results_told : (b : List Thing) → ((x : Standing) → Among x (threads_in b) → joined x.thread.number ≤ gift_result s t x) → tot (telling nought mine joined) b + tot (λ x. told ones (branch_result t x)) b ≤ tot (results s t) b
    results_told [] h = omega arith
    results_told (noted r x ∷ b) h = omega (arith, branch_note x.thread x.state, results_told b h)
    results_told (sent r m ∷ b) h = omega (arith, sent_at_most r m, results_told b h)
    results_told (stands r p x ∷ b) h =
        let y : Standing = record { server = r; packed = p; thread = x } in
        let e = told_one (some (got_phase t x.phase)) plain.Unit in
        omega (arith, e, some_at_most (got_phase t x.phase), so_at_most (is_some x.gift) (joined x.number), h y (inl refl), results_told b (λ z q. h z (inr q)))
    results_told (holds p v ∷ b) h = omega (arith, held_none p v, results_told b h)
    results_told (_ ∷ b) h = omega (arith, results_told b h)

    joined_there : (x : Standing) → Among x (threads_in a) → joined x.thread.number ≤ gift_result s t x
    joined_there x h = subst (λ o. one (is_joined_by s t o) ≤ gift_result s t x) (sym (found_there x h)) (some_at_most (gift_result s t x))

    either_at_most : (x : Thing) → told ones (shown_result s t x) ≤ told ones (branch_result t x) + told ones (result_value s t x)
    either_at_most x = by (branch_result t x) (result_value s t x)
      where
        by : (o p : Option Plain) → told ones (or_else o p) ≤ told ones o + told ones p
        by None p = omega arith
        by (Some v) p = omega arith

    both_at_most : (b : List Thing) → tot (λ x. told ones (shown_result s t x)) b ≤ tot (λ x. told ones (branch_result t x)) b + tot (λ x. told ones (result_value s t x)) b
    both_at_most [] = omega arith
    both_at_most (x ∷ b) = omega (arith, either_at_most x, both_at_most b)

    results_end : tot (λ x. told ones (shown_result s t x)) a ≤ tot (has_ended t) a
    results_end =
        omega (arith, both_at_most a, at_most (λ x. told ones (result_value s t x)) (placed nought mine joined) value_placed a, places_told nought mine joined k, results_told a joined_there, c.one_result t)

  -- CONTENTS

  module _ (m : MutexNo) where
    abbrev its : MutexNo → ℕ
    its n = one (same_mutex n m)

    abbrev granted : ℕ → ℕ
    granted u = one (is_gift_of s m (at u))

    content_placed : (x : Thing) → told ones (content_value s m x) ≤ placed its nought granted x
    content_placed (holds p v) = by p
      where
        by : (p : Spot) → told ones (content_value s m (holds p v)) ≤ placed its nought granted (holds p v)
        by (as_content n) = let e = told_one (same_mutex n m) (plain_of v) in omega (arith, e)
        by (as_gift u) = let e = told_one (is_gift_of s m (at u)) (plain_of v) in omega (arith, e)
        by (in_slot u i) = omega arith
        by (in_temp u i) = omega arith
        by (as_result u) = omega arith
        by in_hand = omega arith
    content_placed _ = omega arith

    unkept : (u : ℕ) (x : TaskState) → telling its nought granted (noted 0 (record { thread = u; state = x })) ≡ 0
    unkept u (kept v) = refl
    unkept u going = refl
    unkept u let_go = refl
    unkept u (asked r w) = refl
    unkept u (in_pair p d) = refl

    unsent : (r : ℕ) (x : Message) → telling its nought granted (sent r x) ≡ 0
    unsent r (message.Finished u v) = refl
    unsent r (message.Joined u v by) = refl
    unsent r _ = refl

    held_told : (p : Spot) (v : Owned) → telling its nought granted (holds p v) ≤ is_content_of m p
    held_told (as_content n) v = omega arith
    held_told (as_result u) v = omega arith
    held_told (as_gift u) v = omega arith
    held_told (in_slot u i) v = omega arith
    held_told (in_temp u i) v = omega arith
    held_told in_hand v = omega arith

    contents_told : (b : List Thing) → ((x : Standing) → Among x (threads_in b) → granted x.thread.number ≤ gift_content s m x) → tot (telling its nought granted) b ≤ tot (contents s m) b
    contents_told [] h = omega arith
    contents_told (noted r x ∷ b) h = omega (arith, unkept x.thread x.state, contents_told b h)
    contents_told (sent r x ∷ b) h = omega (arith, unsent r x, contents_told b h)
    contents_told (stands r p x ∷ b) h =
        let y : Standing = record { server = r; packed = p; thread = x } in
        omega (arith, so_at_most (is_some x.gift) (granted x.number), h y (inl refl), contents_told b (λ z q. h z (inr q)))
    contents_told (holds p v ∷ b) h = omega (arith, held_told p v, contents_told b h)
    contents_told (_ ∷ b) h = omega (arith, contents_told b h)

    granted_there : (x : Standing) → Among x (threads_in a) → granted x.thread.number ≤ gift_content s m x
    granted_there x h = subst (λ o. one (is_gift_of s m o) ≤ gift_content s m x) (sym (found_there x h)) (some_at_most (gift_content s m x))

    contents_once : tot (λ x. told ones (content_value s m x)) a ≤ 1
    contents_once =
        omega (arith, at_most (λ x. told ones (content_value s m x)) (placed its nought granted) content_placed a, places_told its nought granted k, contents_told a granted_there, c.one_content m, few_homes k c m)

  pub stands_once : Once (sight k)
  stands_once = record {
    cells = λ o. omega (arith, at_most (λ x. told ones (cell_value o x)) (cells o) (cell_once o) a, c.home_of_each o);
    threads = c.numbers.numbers_differ;
    contents = contents_once;
    ends = results_end;
  }

-- a sound cluster is such
pub sound_stand_once : SoundStandOnce
sound_stand_once k sound = record {
  numbers = record { numbers_differ = sound.names.numbers_differ; names_counted = sound.names.names_counted; counts_from_one = sound.names.counts_from_one; over_are_bare = sound.rooted.over_are_bare };
  home_of_each = sound.one_home.home_of_each;
  owner_of_each = sound.one_owner.owner_of_each;
  at_their_home = sound.mutexes_and_tasks.at_their_home;
  one_content = sound.mutexes_and_tasks.one_content;
  one_result = sound.mutexes_and_tasks.one_result;
  parts_are_typed = sound.parts.parts_are_typed;
}
