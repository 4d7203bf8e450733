-- What a pointer allows of which a shared reference is made, and the hand on which that is pushed.
use Rattle.std.proofs.Common.{◌≡◌, inl, ℕ, ◌+◌, true, false, List, [], ◌∷◌, ◌++◌, Some, None, refl, sym, subst, ◌∙◌}
use Rattle.law_heap_steps.specs.Below.fr_base.declared.instruction.Instr.{Instr}
use Rattle.law_heap_steps.specs.Below.heap_partition.declared.value.Owned.TheVariants as owned
use Rattle.law_heap_steps.specs.Below.mut_borrow.declared.mutable.MutRef.{MutRef}
use Rattle.law_heap_steps.specs.Below.mut_borrow.declared.shared.SharedRef.{SharedRef}
use Rattle.law_heap_steps.specs.Below.thread_state.View.{ThreadState}
use Rattle.law_heap_steps.specs.Below.thread_state.declared.value.Value.{Value}
use Rattle.law_heap_steps.specs.Below.thread_state.declared.value.Value.TheVariants as value
use Rattle.law_heap_steps.specs.Below.server_model.Servers.{Server, Cluster, server_at}
use Rattle.law_heap_steps.specs.Below.server_model.Work.{Hand, push_temp, thread_in, set_thread, without_thread, put_back}
use Rattle.law_heap_steps.specs.Below.server_model.Commit.{shared_from}
use Rattle.law_heap_steps.specs.Below.coherent_memory.Names.{Among}
use Rattle.law_heap_steps.specs.Below.coherent_memory.Things as things
use Rattle.law_heap_steps.specs.Below.coherent_memory.Things.{Location, at_temp, Thing, shares, stands, things_at, gift_things, walk_things, temp_things, thread_things, things_of}
use Rattle.law_heap_steps.specs.Below.coherent_memory.Follow.{value_in}
use Rattle.law_heap_steps.specs.Below.coherent_memory.Sight.{Pointer, pointers_in, taken_pointers, sight}
use Rattle.law_heap_steps.specs.Below.coherent_memory.Placing.{standing_in}
use Rattle.law_heap_steps.specs.Below.coherent_memory.Words.{all_pointers, IsStale}
use Rattle.law_words_values.proofs.Below.law_words_paths.paths.Origins.{among_first}
use Rattle.law_words_kept.specs.Below.law_words_paths.words.Reworded.{HasPlaces}
use Rattle.law_words_kept.specs.Below.law_words_paths.words.OneMore.{IsClean, Beside}
use Rattle.law_words_kept.proofs.Below.law_words_paths.words.Standing.{pointer_at, standing_among, stands_in, told_standing}
use Rattle.law_heap_steps.proofs.Below.law_counts_sums.Bags.{all_standing, body_things}
use Rattle.law_heap_steps.proofs.Below.law_words_kept.reads.Homes.{shared_among}
use Rattle.law_words_values.proofs.Below.law_words_kept.stays.Alike.{Alike, itself, turned, chain, beside, exchanged, joined}
use Rattle.law_words_values.proofs.Below.law_words_kept.stays.Lists.{thread_set, taken_alike}
use Rattle.law_words_values.proofs.Below.law_words_kept.stays.Threads.{slots_of, temps_of, stands_alike, value_alike}
use Rattle.law_words_values.proofs.Below.law_words_kept.stays.Sites.{HandAlike, ends_alike, replaced}
use Rattle.law_words_values.proofs.Below.law_words_kept.stays.Steps.{last_points}
use Rattle.law_words_values.specs.Below.law_words_kept.prepared.Requests.{WordsRise}
use Rattle.law_words_values.proofs.Below.law_words_kept.prepared.Copying.{end_things}
use Rattle.law_words_values.proofs.Below.law_words_kept.prepared.Hands.{Ok, put}
use Rattle.law_words_borrows.proofs.OneShare.{shared_pointer, clean_shared, clean_placed}

-- WHAT MAY BE PUSHED

-- a reference to a slot, or to an object of which a pointer isn't stale, and no dirty reference is
pub data May (z : Cluster) : Value → Type 0 where
  to_slot : (i : ℕ) → May z (value.SharedSlot i)
  to_object : (r : SharedRef) → Beside z (shared_pointer r) → IsClean z r.object → May z (value.Shared r)

-- from what is no pointer nothing is made
no_own : (v : Value) → shared_from v ≡ None → (u : Value) → shared_from v ≡ Some u → ⊥
no_own v f u e = let q : None ≡ Some u = sym f ∙ e in absurd cc

module _ {k : Cluster} (z : Cluster) (c : HasPlaces z) (words : WordsRise k z) (l : Location) (fresh : IsStale (sight z) (Some l) → ⊥) where
  -- what stands is a pointer
  counts : (p : Pointer) → Among p (standing_in (things_of z)) → Among p (all_pointers (sight z))
  counts p h = among_first p (pointers_in (things_of z)) (taken_pointers (sight z).code (sight z).ground (sight z).ground.threads) (stands_in p (things_of z) h)

  -- of a pointer at the location
  placed : (v : Value) → value_in (sight z).ground l ≡ Some v → ((p : MutRef) → v ≡ value.Mut p → p.dirty ≡ true → ⊥) → (r : SharedRef) → Among (record { at = Some l; word = r.word; object = r.object }) (pointer_at l v) → May z (value.Shared r)
  placed v e clean r h =
      let q : Pointer = record { at = Some l; word = r.word; object = r.object } in
      let m : Among q (standing_in (things_of z)) = told_standing z l v q e h in
      to_object r (record { pointer = q; among = counts q m; fresh = fresh; object = refl; word = refl })
      (clean_placed z c r.object q l v words.dirty_alone (among_first q (standing_in (things_of z)) (taken_pointers (sight z).code (sight z).ground (sight z).ground.threads) m) refl refl fresh e clean)

  -- of another shared reference
  again : (r q : SharedRef) → value_in (sight z).ground l ≡ Some (value.Shared q) → q.word ≡ r.word → q.object ≡ r.object → May z (value.Shared r)
  again r q e w o =
      let m : Among (shared_pointer q) (standing_in (things_of z)) = standing_among (shared_pointer q) (shares l q) (things_of z) (shared_among z l q e) (inl refl) in
      to_object r (record { pointer = shared_pointer q; among = counts (shared_pointer q) m; fresh = λ x. x; object = o; word = w })
      (clean_shared z r.object (shared_pointer q) words.dirty_alone (among_first (shared_pointer q) (standing_in (things_of z)) (taken_pointers (sight z).code (sight z).ground (sight z).ground.threads) m) refl o)

  -- from each value
  pub may : (v u : Value) → value_in (sight z).ground l ≡ Some v → ((p : MutRef) → v ≡ value.Mut p → p.dirty ≡ true → ⊥) → shared_from v ≡ Some u → May z u
  may (value.SharedSlot i) u e clean f = let s : value.SharedSlot i ≡ u = cc in subst (λ x. May z x) s (to_slot i)
  may (value.MutSlot i) u e clean f = let s : value.SharedSlot i ≡ u = cc in subst (λ x. May z x) s (to_slot i)
  may (value.Own (owned.Box p)) u e clean f =
      let s : value.Shared (record { word = p.word; object = p.object; pinned = false }) ≡ u = cc in
      subst (λ x. May z x) s (placed (value.Own (owned.Box p)) e clean (record { word = p.word; object = p.object; pinned = false }) (inl refl))
  may (value.Shared q) u e clean f =
      let s : value.Shared (record { word = q.word; object = q.object; pinned = false }) ≡ u = cc in
      subst (λ x. May z x) s (again (record { word = q.word; object = q.object; pinned = false }) q e refl refl)
  may (value.Mut q) u e clean f =
      let s : value.Shared (record { word = q.word; object = q.object; pinned = false }) ≡ u = cc in
      subst (λ x. May z x) s (placed (value.Mut q) e clean (record { word = q.word; object = q.object; pinned = false }) (inl refl))
  may value.Gone u e clean f = absurd (no_own value.Gone refl u f)
  may (value.Held m) u e clean f = absurd (no_own (value.Held m) refl u f)
  may (value.Own owned.Nothing) u e clean f = absurd (no_own (value.Own owned.Nothing) refl u f)
  may (value.Own owned.Unit) u e clean f = absurd (no_own (value.Own owned.Unit) refl u f)
  may (value.Own (owned.Int n)) u e clean f = absurd (no_own (value.Own (owned.Int n)) refl u f)
  may (value.Own (owned.Mutex m)) u e clean f = absurd (no_own (value.Own (owned.Mutex m)) refl u f)
  may (value.Own (owned.Task t)) u e clean f = absurd (no_own (value.Own (owned.Task t)) refl u f)

-- A SHARED REFERENCE ON TOP

-- the thing that comes
abbrev pub coming : Location → SharedRef → List Thing
coming l r = shares l (record r { pinned = false }) ∷ []

-- with the things of the thread that it had
pub record Topped (code : List Instr) (n : ℕ) (r : SharedRef) (h h2 : Hand) : Type 0 where
  pub location : Location
  pub alike : HandAlike code n (coming location r) h h2

-- the hand with the reference has one thing more
pub shared_on_top : (code : List Instr) (n : ℕ) (r : SharedRef) (h : Hand) → Topped code n r h (push_temp (value.Shared r) h)
shared_on_top code n r h = record {
  location = at_temp x.number q.0;
  alike = record { number = refl; named = refl; thread = turned over; rest = itself (body_things n h.work.rest) };
}
  where
    v : Value
    v = value.Shared r

    x : ThreadState
    x = h.thread

    z : ThreadState
    z = record x { temps = x.temps ++ v ∷ [] }

    q : (j : ℕ) × Alike code (things_at (temp_things n x.number) 0 (x.temps ++ v ∷ [])) (temps_of n x ++ temp_things n x.number j v)
    q = end_things (temp_things n x.number) 0 x.temps v

    head : List Thing
    head = stands n false x ∷ gift_things x.number x.gift ++ things_at (walk_things n) 0 x.walk ++ slots_of n x

    one : List Thing
    one = coming (at_temp x.number q.0) r

    -- words see the same of where it stands
    head_alike : Alike code (stands n false z ∷ gift_things x.number x.gift ++ things_at (walk_things n) 0 x.walk ++ slots_of n x) head
    head_alike =
        beside (beside (beside (stands_alike n n false false z x (record { number = refl; taking = refl; slots = λ i. refl; temps = λ i. sym (last_points x.temps v refl i) })) (itself (gift_things x.number x.gift))) (itself (things_at (walk_things n) 0 x.walk)))
        (itself (slots_of n x))

    over : Alike code (thread_things n false z) (one ++ thread_things n false x)
    over =
        chain (beside head_alike (chain q.1 (beside (itself (temps_of n x)) (value_alike n n (things.in_temp x.number q.0) (at_temp x.number q.0) v))))
        (chain (joined head (temps_of n x) one) (exchanged (head ++ temps_of n x) one))

-- PUT BACK

module _ (k : Cluster) (coherent : Rattle.law_words_values.specs.Below.coherent_types.ClusterTypes.IsCoherent k) (s : Server) (here : server_at k.servers s.rest.number ≡ Some s) (t : ℕ) (y : ThreadState) (at : thread_in s.threads t ≡ Some y) where
  abbrev n : ℕ
  n = s.rest.number

  abbrev others : List Thing
  others = all_standing n (without_thread s.threads t)

  abbrev with_hand : Hand → Server
  with_hand h = record { rest = h.work.rest; threads = set_thread s.threads h.thread; events = s.events + 1 }

  -- with what is gone beside the first hand's cluster
  pub hands_alike : (gone : List Thing) (h h2 : Hand) → Ok k coherent s here t y at h → Ok k coherent s here t y at h2 → HandAlike k.code n gone h h2 → Alike k.code (things_of (put k coherent s here t y at h2)) (gone ++ things_of (put k coherent s here t y at h))
  hands_alike gone h h2 g g2 a =
      replaced n k.servers s (with_hand h2) (with_hand h) gone here
      (chain (turned (ends_alike n s.events None None (put_back s.threads h2) g2.number))
      (chain (beside standing (turned a.rest)) (chain (turned (joined gone (all_standing n (set_thread s.threads h.thread)) (body_things n h.work.rest))) (beside (itself gone) (ends_alike n s.events None None (put_back s.threads h) g.number)))))
    where
      standing : Alike k.code (all_standing n (set_thread s.threads h2.thread)) (gone ++ all_standing n (set_thread s.threads h.thread))
      standing =
          chain (taken_alike (thread_things n false) 0 0 (thread_set s.threads t y h2.thread at g2.thread))
          (chain (beside (turned a.thread) (itself others))
          (chain (turned (joined gone (thread_things n false h.thread) others)) (beside (itself gone) (turned (taken_alike (thread_things n false) 0 0 (thread_set s.threads t y h.thread at g.thread))))))
