-- Two lists of a cluster's things in which each thread but those of one number is found alike: who owns what isn't of that thread stays, and so do contents and results.
use Rattle.std.proofs.Common.{◌≡◌, ◌≢◌, ℕ, zero, suc, ◌+◌, ◌==◌, ◌≤◌, Bool, true, List, [], ◌∷◌, Option, Some, None, is_some, refl, sym, ap, ap₂, ◌∙◌, arith}
use Rattle.std.specs.List.{AllByRecursion}
use Rattle.law_heap_steps.proofs.Below.fr_typing.PlaceLemmas.{eq_cases}
use Rattle.law_heap_steps.specs.Below.fr_base.declared.name.MutexNo.{MutexNo}
use Rattle.law_heap_steps.specs.Below.fr_base.declared.name.ObjNo.{ObjNo}
use Rattle.law_heap_steps.specs.Below.fr_base.declared.instruction.Instr.{Instr}
use Rattle.law_heap_steps.specs.Below.fr_base.declared.instruction.Instr.TheVariants as instr
use Rattle.law_heap_steps.specs.Below.heap_partition.Plain.{plain_of}
use Rattle.law_heap_steps.specs.Below.heap_partition.declared.value.Owned.TheVariants as owned
use Rattle.law_heap_steps.specs.Below.thread_state.declared.value.Value.{Value}
use Rattle.law_heap_steps.specs.Below.thread_state.declared.value.Value.TheVariants as value
use Rattle.law_heap_steps.specs.Below.server_model.Servers.{Cluster}
use Rattle.law_heap_steps.specs.Below.coherent_memory.Names.{tot, one, other, some, if_so}
use Rattle.law_heap_steps.specs.Below.coherent_memory.Things.{in_slot, in_temp, as_gift, as_content, as_result, in_hand, Thing, holds}
use Rattle.law_heap_steps.specs.Below.coherent_memory.Follow.{Standing, threads_in, thread_at, cells_in, cell_of, value_of, slot_of, value_behind, leads, locate}
use Rattle.law_heap_steps.specs.Below.coherent_memory.Sight.{Sight, with_things}
use Rattle.law_heap_steps.specs.Below.coherent_memory.Walking.{instr_of}
use Rattle.law_heap_steps.specs.Below.coherent_memory.Requests.{mutex_of, locked_mutex, is_mutex}
use Rattle.law_heap_steps.specs.Below.coherent_memory.OneHeap.{content_owner, gift_owner, gift_owner_of, owner_of, if_in, or_else, first_shown, is_gift_of, content_value, is_joined_by, result_value}
use Rattle.law_heap_steps.proofs.Below.law_heap_still.events.Alike.{SeenAt, LocksSeeIn, all_seen}
use Rattle.law_heap_steps.proofs.Below.law_heap_still.events.Counting.{gifted, stray}
use Rattle.law_heap_still.proofs.Below.law_words_paths.paths.Contained.{among_thread}
use Rattle.law_heap_steps.proofs.turns.OneTurn.{of_thread}
use Rattle.law_heap_steps.proofs.mutexes.Reach.{SameOwners}

differs : (t u : ℕ) → one (u == t) ≡ 0 → t ≢ u
differs t u = eq_cases (λ b. one b ≡ 0 → t ≢ u) u t (λ e z. absurd (cc z)) (λ ne z e. ne (sym e))

pub first_alike : {X : Type 0} (t : ℕ) (f g : Thing → Option X) → ((x : Thing) → of_thread t x ≡ 0 → f x ≡ g x) → (xs : List Thing) → tot (of_thread t) xs ≡ 0 → first_shown f xs ≡ first_shown g xs
first_alike t f g e [] z = refl
first_alike t f g e (x ∷ xs) z = ap₂ or_else (e x (omega (arith, z))) (first_alike t f g e xs (omega (arith, z)))

pub tot_alike : (t : ℕ) (f g : Thing → ℕ) → ((x : Thing) → of_thread t x ≡ 0 → f x ≡ g x) → (xs : List Thing) → tot (of_thread t) xs ≡ 0 → tot f xs ≡ tot g xs
tot_alike t f g e [] z = refl
tot_alike t f g e (x ∷ xs) z = ap₂ (λ a b. a + b) (e x (omega (arith, z))) (tot_alike t f g e xs (omega (arith, z)))

pub all_alike : (t : ℕ) (P : Thing → Type 0) → ((x : Thing) → of_thread t x ≡ 0 → P x) → (xs : List Thing) → tot (of_thread t) xs ≡ 0 → AllByRecursion P xs
all_alike t P e [] z = tt
all_alike t P e (x ∷ xs) z = (e x (omega (arith, z)), all_alike t P e xs (omega (arith, z)))

-- the first list and the second one, and the number
module _ (k : Cluster) (a b : List Thing) (t : ℕ) where
  abbrev s : Sight
  s = with_things k a

  abbrev s2 : Sight
  s2 = with_things k b

  -- the places of locks of other threads lead to the mutexes to which they led
  abbrev pub LocksStay : Type 0
  LocksStay = (u : ℕ) (w : Standing) → t ≢ w.thread.number → thread_at (threads_in a) u ≡ Some w → locked_mutex s w (instr_of s w) ≡ locked_mutex s2 w (instr_of s w)

  module _ (other_seen : (u : ℕ) → t ≢ u → thread_at (threads_in a) u ≡ thread_at (threads_in b) u) where
    -- WHERE THE CELLS THAT THE PLACES OF LOCKS PASS STAY, THESE LEAD AS BEFORE

    module _ (seen : ObjNo → Bool) (cells : (o : ObjNo) → seen o ≡ true → value_of (cell_of (cells_in a) o) ≡ value_of (cell_of (cells_in b) o)) (paths : LocksSeeIn seen s) where
      module _ (u : ℕ) (ne : t ≢ u) where
        slot_same : (i : ℕ) → slot_of (thread_at (threads_in a) u) i ≡ slot_of (thread_at (threads_in b) u) i
        slot_same i = ap (λ o. slot_of o i) (other_seen u ne)

        lead_same : (v : Option Value) → SeenAt seen (leads u v) → value_behind s.ground (leads u v) ≡ value_behind s2.ground (leads u v)
        lead_same None p = refl
        lead_same (Some value.Gone) p = refl
        lead_same (Some (value.Own (owned.Box b))) p = cells b.object p
        lead_same (Some (value.Own owned.Nothing)) p = refl
        lead_same (Some (value.Own owned.Unit)) p = refl
        lead_same (Some (value.Own (owned.Int i))) p = refl
        lead_same (Some (value.Own (owned.Mutex m))) p = refl
        lead_same (Some (value.Own (owned.Task w))) p = refl
        lead_same (Some (value.SharedSlot i)) p = slot_same i
        lead_same (Some (value.MutSlot i)) p = slot_same i
        lead_same (Some (value.Shared r)) p = cells r.object p
        lead_same (Some (value.Mut r)) p = cells r.object p
        lead_same (Some (value.Held m)) p = refl

        behind_same : (slot d : ℕ) → ((m : ℕ) → m ≤ d → SeenAt seen (locate s.ground u slot m)) → value_behind s.ground (locate s.ground u slot d) ≡ value_behind s2.ground (locate s2.ground u slot d)
        behind_same slot zero p = slot_same slot
        behind_same slot (suc d) p =
            lead_same (value_behind s.ground (locate s.ground u slot d)) (p (suc d) (omega arith)) ∙ ap (λ w. value_behind s2.ground (leads u w)) (behind_same slot d (λ m l. p m (omega (arith, l))))

      lock_leads : (u : ℕ) (w : Standing) → t ≢ w.thread.number → thread_at (threads_in a) u ≡ Some w → (i : Option Instr) → instr_of s w ≡ i → locked_mutex s w i ≡ locked_mutex s2 w i
      lock_leads u w ne found (Some (instr.Lock p)) e = ap mutex_of (behind_same w.thread.number ne p.slot p.depth (paths u w p found e))
      lock_leads u w ne found _ e = refl

      pub locks_lead : LocksStay
      locks_lead u w ne found = lock_leads u w ne found (instr_of s w) refl

    pub locks_stay : cells_in a ≡ cells_in b → LocksStay
    locks_stay same = locks_lead (λ o. true) (λ o z. ap (λ cs. value_of (cell_of cs o)) same) (λ u w p found e m l. all_seen (locate s.ground w.thread.number p.slot m))

    -- a gift has its thread as before
    pub stray_alike : (th : Thing) → of_thread t th ≡ 0 → stray s th ≡ stray s2 th
    stray_alike (holds (as_gift u) v) z = ap (λ o. other (gifted o)) (other_seen u (differs t u z))
    stray_alike (holds (in_slot u i) v) z = refl
    stray_alike (holds (in_temp u i) v) z = refl
    stray_alike (holds (as_content m) v) z = refl
    stray_alike (holds (as_result u) v) z = refl
    stray_alike (holds in_hand v) z = refl
    stray_alike _ z = refl

    -- what is the same of a thread that is found
    pub by_seen : {X : Type 0} (f g : Option Standing → X) → f None ≡ g None → (u : ℕ) → ((w : Standing) → t ≢ w.thread.number → thread_at (threads_in a) u ≡ Some w → f (Some w) ≡ g (Some w)) → t ≢ u → f (thread_at (threads_in a) u) ≡ g (thread_at (threads_in b) u)
    by_seen f g e u h ne = by (thread_at (threads_in a) u) refl ∙ ap g (other_seen u ne)
      where
        by : (o : Option Standing) → thread_at (threads_in a) u ≡ o → f o ≡ g o
        by None q = e
        by (Some w) q = h w (λ d. ne (d ∙ (among_thread (threads_in a) u w q).1)) q

    module _ (locks : LocksStay) where
      gift_owned : (w : Standing) (i : Option Instr) → locked_mutex s w i ≡ locked_mutex s2 w i → gift_owner s w i ≡ gift_owner s2 w i
      gift_owned w (Some (instr.Lock p)) e = ap content_owner e
      gift_owned w _ e = refl

      pub owner_stays : (th : Thing) → of_thread t th ≡ 0 → owner_of s th ≡ owner_of s2 th
      owner_stays (holds (as_gift u) v) e = by_seen (gift_owner_of s) (gift_owner_of s2) refl u (λ w ne q. gift_owned w (instr_of s w) (locks u w ne q)) (differs t u e)
      owner_stays (holds (in_slot u i) v) z = refl
      owner_stays (holds (in_temp u i) v) z = refl
      owner_stays (holds (as_content m) v) z = refl
      owner_stays (holds (as_result u) v) z = refl
      owner_stays (holds in_hand v) z = refl
      owner_stays _ z = refl

      pub content_stays : (m : MutexNo) (th : Thing) → of_thread t th ≡ 0 → content_value s m th ≡ content_value s2 m th
      content_stays m (holds (as_gift u) v) e =
          ap (λ q. if_in q (Some (plain_of v)))
          (by_seen (is_gift_of s m) (is_gift_of s2 m) refl u (λ w ne q. ap (λ o. some (if_so (is_some w.thread.gift) (one (is_mutex m o)))) (locks u w ne q)) (differs t u e))
      content_stays m (holds (in_slot u i) v) z = refl
      content_stays m (holds (in_temp u i) v) z = refl
      content_stays m (holds (as_content w) v) z = refl
      content_stays m (holds (as_result u) v) z = refl
      content_stays m (holds in_hand v) z = refl
      content_stays m _ z = refl

      pub result_stays : (r : ℕ) (th : Thing) → of_thread t th ≡ 0 → result_value s r th ≡ result_value s2 r th
      result_stays r (holds (as_gift u) v) e = ap (λ q. if_in q (Some (plain_of v))) (by_seen (is_joined_by s r) (is_joined_by s2 r) refl u (λ w ne q. refl) (differs t u e))
      result_stays r (holds (in_slot u i) v) z = refl
      result_stays r (holds (in_temp u i) v) z = refl
      result_stays r (holds (as_content w) v) z = refl
      result_stays r (holds (as_result u) v) z = refl
      result_stays r (holds in_hand v) z = refl
      result_stays r _ z = refl

      pub same_owners : (R : List Thing) → tot (of_thread t) R ≡ 0 → SameOwners s s2 R
      same_owners R lone = all_alike t (λ th. owner_of s th ≡ owner_of s2 th) owner_stays R lone
