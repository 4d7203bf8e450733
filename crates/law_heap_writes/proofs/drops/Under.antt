-- What stands under a node: the value of an object's cell, a mutex's content, a thread's result. Where each is shown once, at most one thing stands there.
use Rattle.std.proofs.Common.{◌≡◌, ◌≢◌, ℕ, ◌+◌, ◌≤◌, ◌==◌, ◌&&◌, not, Bool, true, false, if◌then◌else◌, List, [], ◌∷◌, Option, Some, None, option_map, refl, sym, ap, ◌∙◌, arith}
use Rattle.law_words_writes.proofs.Below.law_results_reads.Below.fr_typing.PlaceLemmas.{eq_cases}
use Rattle.law_words_writes.proofs.Below.law_results_reads.Below.fr_store.Keys.{object_cases}
use Rattle.law_heap_steps.proofs.Below.law_plain_values.acts.Mutexes.{mutex_cases}
use Rattle.law_words_writes.specs.Below.law_results_reads.Below.fr_base.declared.label.Plain.{Plain}
use Rattle.law_words_writes.specs.Below.law_results_reads.Below.fr_base.declared.name.MutexNo.{MutexNo}
use Rattle.law_words_writes.specs.Below.law_results_reads.Below.fr_base.declared.name.ObjNo.{ObjNo}
use Rattle.law_words_writes.specs.Below.law_results_reads.Below.heap_partition.Plain.{plain_of}
use Rattle.law_words_writes.specs.Below.law_results_reads.Below.heap_partition.declared.value.Owned.{Owned}
use Rattle.law_words_writes.specs.Below.law_results_reads.Below.thread_state.View.{is_over}
use Rattle.law_words_writes.specs.Below.law_results_reads.Below.coherent_memory.Names.{tot, one, other, if_so}
use Rattle.law_words_writes.specs.Below.law_results_reads.Below.coherent_memory.Things.{in_slot, in_temp, as_gift, as_content, as_result, in_hand, Thing, holds, lies, flies, stands}
use Rattle.law_words_writes.specs.Below.law_results_reads.Below.coherent_memory.Follow.{thread_at}
use Rattle.law_words_writes.specs.Below.law_results_reads.Below.coherent_memory.Sight.{Sight}
use Rattle.law_words_writes.specs.Below.law_results_reads.Below.coherent_memory.Sharing.{has_ended}
use Rattle.law_words_writes.specs.Below.law_results_reads.Below.coherent_memory.Weights.{is_thread}
use Rattle.law_words_writes.specs.Below.law_results_reads.Below.coherent_memory.OneHeap.{Node, object_n, mutex_n, task_n, same_node, Owner, inside, gift_owner_of, owner_of, owns, names, if_in, cell_value, or_else, first_shown, is_gift_of, content_value, branch_result, is_joined_by, result_value}
use Rattle.law_heap_steps.proofs.Below.law_heap_still.events.Alike.{Once}
use Rattle.law_heap_steps.proofs.Below.law_heap_still.events.Counting.{shown_result, gifted, stray, by_gift_spot, spot_owned, gift_owned, is_content_at, is_result_at, gift_is_content, gift_is_result}
use Rattle.law_heap_steps.proofs.Below.law_heap_still.events.Told.{told, ones}
use Rattle.law_heap_steps.proofs.mutexes.Beside.{so_one}
use Rattle.law_heap_steps.proofs.mutexes.OneNode.{owned_under}

-- the owned value of a thing
abbrev pub held_value : Thing → Option Owned
held_value (holds p v) = Some v
held_value (lies r a c) = Some c.value
held_value (flies w c) = Some c.value
held_value x = None

-- the owner is that node
abbrev pub owned_by : Node → Owner → Bool
owned_by q (inside p) = same_node p q
owned_by q o = false

-- the first value under that node
abbrev pub under : Sight → Node → List Thing → Option Owned
under s q [] = None
under s q (th ∷ xs) = if owned_by q (owner_of s th) then held_value th else under s q xs

abbrev pub stands_under : Sight → Node → Thing → ℕ
stands_under s q th = one (owned_by q (owner_of s th))

-- what stands under the one and names the other
abbrev pub under_names : Sight → Node → Node → Thing → ℕ
under_names s p q th = if_so (names q th) (stands_under s p th)

-- NODES

pub node_cases : (P : Bool → Type 0) (p q : Node) → (p ≡ q → P true) → (p ≢ q → P false) → P (same_node p q)
node_cases P (object_n o) (object_n p) same off = object_cases P o p (λ e. same (ap (λ z. object_n z) e)) (λ ne. off (λ e. ne (let f : o ≡ p = cc in f)))
node_cases P (mutex_n m) (mutex_n n) same off = mutex_cases P m n (λ e. same (ap (λ z. mutex_n z) e)) (λ ne. off (λ e. ne (let f : m ≡ n = cc in f)))
node_cases P (task_n t) (task_n u) same off = eq_cases P t u (λ e. same (ap (λ z. task_n z) e)) (λ ne. off (λ e. ne (let f : t ≡ u = cc in f)))
node_cases P (object_n o) (mutex_n n) same off = off (λ e. cc e)
node_cases P (object_n o) (task_n u) same off = off (λ e. cc e)
node_cases P (mutex_n m) (object_n p) same off = off (λ e. cc e)
node_cases P (mutex_n m) (task_n u) same off = off (λ e. cc e)
node_cases P (task_n t) (object_n p) same off = off (λ e. cc e)
node_cases P (task_n t) (mutex_n n) same off = off (λ e. cc e)

pub node_is : (p q : Node) → same_node p q ≡ true → p ≡ q
node_is p q = node_cases (λ b. b ≡ true → p ≡ q) p q (λ e z. e) (λ ne z. absurd (cc z))

pub node_itself : (q : Node) → same_node q q ≡ true
node_itself q = node_cases (λ b. b ≡ true) q q (λ e. refl) (λ ne. absurd (ne refl))

-- HOW MANY STAND THERE

pub none_so : (b : Bool) → if_so b 0 ≡ 0
none_so true = refl
none_so false = refl

module _ (s : Sight) (p : Node) where
  no_more : (i j : ℕ) → i ≤ j → j ≡ 0 → i ≡ 0
  no_more i j l e = omega (arith, l, e)

  at_most : (b : Bool) (i : ℕ) → if_so b i ≤ i
  at_most true i = omega arith
  at_most false i = omega arith

  few_names : (q : Node) (xs : List Thing) → tot (under_names s p q) xs ≤ tot (stands_under s p) xs
  few_names q [] = omega arith
  few_names q (th ∷ xs) = omega (arith, at_most (names q th) (stands_under s p th), few_names q xs)

  -- a thing that stands there has a value
  held_there : (q : Node) (th : Thing) → owned_by p (owner_of s th) ≡ true → if_so (names q th) 1 ≡ owned_under q (held_value th)
  held_there q (holds r v) e = so_one (owns q v)
  held_there q (lies r a c) e = so_one (owns q c.value)
  held_there q (flies w c) e = so_one (owns q c.value)
  held_there q _ e = absurd (cc e)

  -- where at most one stands there, it names what is named there
  pub under_counts : (q : Node) (xs : List Thing) → tot (stands_under s p) xs ≤ 1 → tot (under_names s p q) xs ≡ owned_under q (under s p xs)
  under_counts q [] l = refl
  under_counts q (th ∷ xs) l = by (owned_by p (owner_of s th)) refl l (under_counts q xs)
    where
      by : (b : Bool) → owned_by p (owner_of s th) ≡ b → one b + tot (stands_under s p) xs ≤ 1 → (tot (stands_under s p) xs ≤ 1 → tot (under_names s p q) xs ≡ owned_under q (under s p xs))
          → if_so (names q th) (one b) + tot (under_names s p q) xs ≡ owned_under q (if b then held_value th else under s p xs)
      by true e m go = let z : tot (under_names s p q) xs ≡ 0 = no_more (tot (under_names s p q) xs) (tot (stands_under s p) xs) (few_names q xs) (omega (arith, m)) in omega (arith, z, held_there q th e)
      by false e m go = omega (arith, go (omega (arith, m)), none_so (names q th))

-- WHAT IS SHOWN OF IT

abbrev pub shown_by : Sight → Node → Thing → Option Plain
shown_by s (object_n o) th = cell_value o th
shown_by s (mutex_n m) th = content_value s m th
shown_by s (task_n u) th = result_value s u th

module _ (s : Sight) where
  is_gifted : (b : Bool) → other b ≡ 0 → b ≡ true
  is_gifted true e = refl
  is_gifted false e = absurd (cc e)

  no_object : (o : ObjNo) (t : ℕ) → owned_by (object_n o) (gift_owner_of s (thread_at s.ground.threads t)) ≡ false
  no_object o t = ap (owned_by (object_n o)) (gift_owned s t) ∙ by_gift_spot s (λ p. owned_by (object_n o) (spot_owned s p) ≡ false) refl (λ m. refl) (λ u. refl) t

  gift_content : (m : MutexNo) (t : ℕ) → gifted (thread_at s.ground.threads t) ≡ true → is_gift_of s m (thread_at s.ground.threads t) ≡ owned_by (mutex_n m) (gift_owner_of s (thread_at s.ground.threads t))
  gift_content m t e =
      gift_is_content s m (thread_at s.ground.threads t) e ∙ by_gift_spot s (λ p. is_content_at m p ≡ owned_by (mutex_n m) (spot_owned s p)) refl (λ w. refl) (λ u. refl) t ∙ ap (owned_by (mutex_n m)) (sym (gift_owned s t))

  gift_result : (r t : ℕ) → gifted (thread_at s.ground.threads t) ≡ true → is_joined_by s r (thread_at s.ground.threads t) ≡ owned_by (task_n r) (gift_owner_of s (thread_at s.ground.threads t))
  gift_result r t e =
      gift_is_result s r (thread_at s.ground.threads t) e ∙ by_gift_spot s (λ p. is_result_at r p ≡ owned_by (task_n r) (spot_owned s p)) refl (λ w. refl) (λ u. refl) t ∙ ap (owned_by (task_n r)) (sym (gift_owned s t))

  -- a thing shows what stands there
  shown_is : (q : Node) (th : Thing) → stray s th ≡ 0 → shown_by s q th ≡ if_in (owned_by q (owner_of s th)) (option_map plain_of (held_value th))
  shown_is (object_n o) (holds (as_gift t) v) z = sym (ap (λ b. if_in b (Some (plain_of v))) (no_object o t))
  shown_is (object_n o) (holds (in_slot t i) v) z = refl
  shown_is (object_n o) (holds (in_temp t i) v) z = refl
  shown_is (object_n o) (holds (as_content m) v) z = refl
  shown_is (object_n o) (holds (as_result u) v) z = refl
  shown_is (object_n o) (holds in_hand v) z = refl
  shown_is (object_n o) (lies r a c) z = refl
  shown_is (object_n o) (flies w c) z = refl
  shown_is (object_n o) _ z = refl
  shown_is (mutex_n m) (holds (as_gift t) v) z = ap (λ b. if_in b (Some (plain_of v))) (gift_content m t (is_gifted (gifted (thread_at s.ground.threads t)) z))
  shown_is (mutex_n m) (holds (in_slot t i) v) z = refl
  shown_is (mutex_n m) (holds (in_temp t i) v) z = refl
  shown_is (mutex_n m) (holds (as_content w) v) z = refl
  shown_is (mutex_n m) (holds (as_result u) v) z = refl
  shown_is (mutex_n m) (holds in_hand v) z = refl
  shown_is (mutex_n m) (lies r a c) z = refl
  shown_is (mutex_n m) (flies w c) z = refl
  shown_is (mutex_n m) _ z = refl
  shown_is (task_n u) (holds (as_gift t) v) z = ap (λ b. if_in b (Some (plain_of v))) (gift_result u t (is_gifted (gifted (thread_at s.ground.threads t)) z))
  shown_is (task_n u) (holds (in_slot t i) v) z = refl
  shown_is (task_n u) (holds (in_temp t i) v) z = refl
  shown_is (task_n u) (holds (as_content w) v) z = refl
  shown_is (task_n u) (holds (as_result w) v) z = refl
  shown_is (task_n u) (holds in_hand v) z = refl
  shown_is (task_n u) (lies r a c) z = refl
  shown_is (task_n u) (flies w c) z = refl
  shown_is (task_n u) _ z = refl

  module _ (q : Node) where
    first_there : (th : Thing) (rest : Option Plain) → owned_by q (owner_of s th) ≡ true → or_else (option_map plain_of (held_value th)) rest ≡ option_map plain_of (held_value th)
    first_there (holds p v) rest e = refl
    first_there (lies r a c) rest e = refl
    first_there (flies w c) rest e = refl
    first_there _ rest e = absurd (cc e)

    one_there : (th : Thing) → owned_by q (owner_of s th) ≡ true → told ones (option_map plain_of (held_value th)) ≡ 1
    one_there (holds p v) e = refl
    one_there (lies r a c) e = refl
    one_there (flies w c) e = refl
    one_there _ e = absurd (cc e)

    -- what is shown first is what stands there
    pub first_under : (xs : List Thing) → tot (stray s) xs ≡ 0 → first_shown (shown_by s q) xs ≡ option_map plain_of (under s q xs)
    first_under [] z = refl
    first_under (th ∷ xs) z = ap (λ o. or_else o (first_shown (shown_by s q) xs)) (shown_is q th (omega (arith, z))) ∙ by (owned_by q (owner_of s th)) refl (first_under xs (omega (arith, z)))
      where
        by : (b : Bool) → owned_by q (owner_of s th) ≡ b → first_shown (shown_by s q) xs ≡ option_map plain_of (under s q xs)
            → or_else (if_in b (option_map plain_of (held_value th))) (first_shown (shown_by s q) xs) ≡ option_map plain_of (if b then held_value th else under s q xs)
        by true e go = first_there th (first_shown (shown_by s q) xs) e
        by false e go = go

    -- and as often as something stands there
    pub count_under : (xs : List Thing) → tot (stray s) xs ≡ 0 → tot (stands_under s q) xs ≡ tot (λ th. told ones (shown_by s q th)) xs
    count_under [] z = refl
    count_under (th ∷ xs) z =
        let rest = count_under xs (omega (arith, z)) in
        let here : told ones (shown_by s q th) ≡ one (owned_by q (owner_of s th)) = ap (told ones) (shown_is q th (omega (arith, z))) ∙ by (owned_by q (owner_of s th)) refl in
        omega (arith, rest, here)
      where
        by : (b : Bool) → owned_by q (owner_of s th) ≡ b → told ones (if_in b (option_map plain_of (held_value th))) ≡ one b
        by true e = one_there th e
        by false e = refl

  -- ONCE

  ended_one : (a z o : Bool) → one (a && (not z && o)) ≤ one a
  ended_one true true o = omega arith
  ended_one true false true = omega arith
  ended_one true false false = omega arith
  ended_one false z o = omega arith

  ended_thread : (t : ℕ) (xs : List Thing) → tot (has_ended t) xs ≤ tot (is_thread t) xs
  ended_thread t [] = omega arith
  ended_thread t (th ∷ xs) = omega (arith, by th, ended_thread t xs)
    where
      by : (th : Thing) → has_ended t th ≤ is_thread t th
      by (stands r p x) = omega (arith, ended_one (x.number == t) (x.number == 0) (is_over x.phase))
      by _ = omega arith

  second_counts : (a b : Option Plain) → told ones b ≤ told ones (or_else a b)
  second_counts None b = omega arith
  second_counts (Some v) None = omega arith
  second_counts (Some v) (Some w) = omega arith

  results_shown : (t : ℕ) (xs : List Thing) → tot (λ th. told ones (result_value s t th)) xs ≤ tot (λ th. told ones (shown_result s t th)) xs
  results_shown t [] = omega arith
  results_shown t (th ∷ xs) = omega (arith, second_counts (branch_result t th) (result_value s t th), results_shown t xs)

  pub once_under : Once s → tot (stray s) s.things ≡ 0 → (q : Node) → tot (stands_under s q) s.things ≤ 1
  once_under once z (object_n o) = omega (arith, count_under (object_n o) s.things z, once.cells o)
  once_under once z (mutex_n m) = omega (arith, count_under (mutex_n m) s.things z, once.contents m)
  once_under once z (task_n u) = omega (arith, count_under (task_n u) s.things z, results_shown u s.things, once.ends u, ended_thread u s.things, once.threads u)
