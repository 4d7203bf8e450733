-- An owned value comes to a slot, or goes from it: cells and changed references stay.
use Rattle.std.proofs.Common.{◌≡◌, ◌⊎◌, inl, inr, ⊎_elim, ℕ, ◌+◌, true, false, List, [], ◌++◌, length, Some, None, refl, sym, ap, ◌∙◌}
use Rattle.std.specs.Prelude.{slice_get, slice_set}
use Rattle.law_counts_waiting.proofs.Below.fr_typing.PlaceLemmas.{eq_cases}
use Rattle.law_counts_waiting.specs.Below.heap_partition.declared.value.Owned.{Owned}
use Rattle.law_counts_waiting.specs.Below.heap_partition.declared.value.Owned.TheVariants as owned
use Rattle.law_counts_waiting.specs.Below.thread_state.View.{ThreadState}
use Rattle.law_counts_waiting.specs.Below.thread_state.declared.value.Value.{Value}
use Rattle.law_counts_waiting.specs.Below.thread_state.declared.value.Value.TheVariants as value
use Rattle.law_counts_waiting.specs.Below.server_model.Servers.{Server, Cluster, server_at}
use Rattle.law_counts_waiting.specs.Below.server_model.Work.{Hand, thread_in, without_thread, front_of}
use Rattle.law_counts_waiting.specs.Below.server_model.Places.{owns_nothing}
use Rattle.law_counts_waiting.specs.Below.server_model.Drop.{give_up}
use Rattle.law_counts_waiting.specs.Below.coherent_memory.Things.{at_slot, in_slot, Thing, thread_things, slot_things, servers_things, things_of}
use Rattle.law_counts_waiting.specs.Below.coherent_memory.Coherent.{Holds, first_at_holder}
use Rattle.law_counts_waiting.specs.Below.coherent_types.ClusterTypes.{IsCoherent}
use Rattle.law_words_ends.specs.Below.law_words_paths.words.Reworded.{HasPlaces}
use Rattle.law_words_ends.specs.Below.law_words_paths.words.Unmoved.{pointing, LeavesWords}
use Rattle.law_words_ends.proofs.Below.law_words_paths.words.Put.{Split, put_split}
use Rattle.law_words_ends.proofs.Below.law_words_paths.words.Slots.{set_same, set_other}
use Rattle.law_counts_waiting.proofs.Below.law_counts_sums.Bags.{all_standing, body_things}
use Rattle.law_counts_waiting.proofs.Below.law_counts_sums.Events.{others_of}
use Rattle.law_counts_waiting.proofs.Below.law_counts_sums.Values.{last_split}
use Rattle.law_words_ends.proofs.Below.law_words_kept.stays.Alike.{itself, turned, beside}
use Rattle.law_words_ends.proofs.Below.law_words_kept.stays.Servers.{RestAlike, held, held_if, given_up}
use Rattle.law_words_ends.proofs.Below.law_words_kept.stays.Steps.{owned_unseen, TakesNoneHere}
use Rattle.law_words_ends.proofs.Below.law_words_kept.stays.Threads.{temps_of, thread_alike}
use Rattle.law_words_ends.proofs.Below.law_words_kept.prepared.Hands.{put, places, stands}
use Rattle.law_words_ends.specs.Below.law_words_values.carried.Carried.{Carried}
use Rattle.law_words_ends.proofs.Below.law_words_values.carried.Carrying.{carried_stays}
use Rattle.law_words_ends.proofs.Below.law_words_values.carried.Hands.{RootedIn, rooted, Moved, seen, passed, moved_from, leaves_chain}
use Rattle.law_words_ends.proofs.Below.law_words_values.carried.Owned.{OwnsAlone, owned_quiet}
use Rattle.law_words_ends.proofs.Below.law_words_values.carried.Passing.{slot, temp, nowhere, Passes, is_carried}
use Rattle.law_words_ends.proofs.Below.law_words_values.carried.Places.{set_things, slot_emptied, slot_filled}
use Rattle.law_words_ends.proofs.Below.law_words_values.carried.Replaced.{places_on}
use Rattle.law_words_ends.proofs.Below.law_words_values.carried.Steps.{given_to_rest}
use Rattle.law_words_ends.proofs.Below.law_words_asked.writes.Passing.{State, Fits}
use Rattle.law_words_ends.proofs.Below.law_words_writes.EndTypes.{alone_on, rooted_on as rooted_still}
use Rattle.law_words_ends.proofs.Below.law_words_writes.Putting.{Operand, on_top, plain}
use Rattle.law_words_ends.proofs.Below.law_words_values.carried.Hands.{moved_over}
use Rattle.law_words_ends.proofs.Below.law_words_values.carried.Replaced.{cells_same}
use Rattle.law_words_ends.proofs.Below.law_words_writes.Filling.{filled_ok, without_slot as its_without, without_ok as its_fits}
use Rattle.law_copies_kept.proofs.copies.Clean.{KeepsClean, clean_goes}

same_or_not : (a b : ℕ) → (a ≡ b) ⊎ (a ≡ b → ⊥)
same_or_not a b = eq_cases (λ c. (a ≡ b) ⊎ (a ≡ b → ⊥)) a b (λ e. inl e) (λ d. inr d)

-- where nothing is, what words don't see comes
fill_seen : (xs : List Value) (i : ℕ) (v : Value) → slice_get xs i ≡ Some value.Gone → pointing (Some v) ≡ None → (j : ℕ) → pointing (slice_get (slice_set xs i v) j) ≡ pointing (slice_get xs j)
fill_seen xs i v gone e j =
    ⊎_elim (λ (s : j ≡ i). ap (λ m. pointing (slice_get (slice_set xs i v) m)) s ∙ ap pointing (set_same xs i value.Gone v gone) ∙ e ∙ sym (ap pointing gone) ∙ sym (ap (λ m. pointing (slice_get xs m)) s))
    (λ (d : j ≡ i → ⊥). ap pointing (set_other xs i j v d)) (same_or_not j i)

plain_points : (v : Owned) → owns_nothing v ≡ true → pointing (Some (value.Own v)) ≡ None
plain_points owned.Nothing e = refl
plain_points owned.Unit e = refl
plain_points (owned.Int i) e = refl
plain_points (owned.Box b) e = absurd (cc e)
plain_points (owned.Mutex m) e = absurd (cc e)
plain_points (owned.Task u) e = absurd (cc e)

module _ (k : Cluster) (coherent : IsCoherent k) (s : Server) (here : server_at k.servers s.rest.number ≡ Some s) (t : ℕ) (y : ThreadState) (at : thread_in s.threads t ≡ Some y) where
  abbrev n : ℕ
  n = s.rest.number

  abbrev others : List Thing
  others = all_standing n (without_thread s.threads t) ++ servers_things (others_of k.servers n)

  abbrev O : Hand → Type 0
  O = Fits k coherent s here t y at

  abbrev P : Hand → Cluster
  P = put k coherent s here t y at

  abbrev spread : (h : Hand) → O h → HasPlaces (P h)
  spread h g = places k coherent s here t y at h g

  -- A VALUE COMES where none is

  module _ (h : Hand) (ok : O h) (free : h.thread.gift ≡ None) (none : TakesNoneHere k.code h.thread) (firsts : Holds (P h) first_at_holder) (root : RootedIn (P h)) (i : ℕ) (gone : slice_get h.thread.slots i ≡ Some value.Gone) (v : Owned) where
    abbrev x : ThreadState
    x = h.thread

    abbrev filled : List Value → Hand
    filled ts = record h { thread = record x { temps = ts; slots = slice_set x.slots i (value.Own v) } }

    fills : (ts : List Value) → Operand x v ts → Moved k.code n h (filled ts)
    fills _ (on_top last) =
        passed x (record x { temps = front_of x.temps; slots = slice_set x.slots i (value.Own v) }) refl (itself (thread_things n false x)) (λ o. refl) (slot_filled k.code n x none (front_of x.temps) (value.Own v) i (last_split x.temps (value.Own v) last) gone) (λ j q. blind j q)
        (record { number = refl; named = refl; alike = itself (thread_things n false (record x { temps = front_of x.temps; slots = slice_set x.slots i (value.Own v) }) ++ body_things n h.work.rest) })
      where
        blind : (j : ℕ) → (slot j ≡ temp (length (front_of x.temps))) ⊎ (slot j ≡ slot i) → pointing (slice_get x.slots j) ≡ None
        blind j (inl q) = absurd cc
        blind j (inr q) = let e : j ≡ i = cc in ap (λ m. pointing (slice_get x.slots m)) e ∙ ap pointing gone
    fills _ (plain own) =
        seen (record {
          number = refl;
          named = refl;
          alike = beside
              (thread_alike n n false false x (record x { slots = slice_set x.slots i (value.Own v) }) [] [] (record { number = refl; taking = refl; slots = fill_seen x.slots i (value.Own v) gone (plain_points v own); temps = λ j. refl })
              (set_things (slot_things n x.number) 0 i x.slots value.Gone (value.Own v) gone (λ m. turned ((owned_unseen v own).things n (in_slot x.number m) (at_slot x.number m)))) (itself (temps_of n x)) (itself (held_if x.gift))) (itself (body_things n h.work.rest));
        })

    pub filled_clean : (ts : List Value) → Operand x v ts → KeepsClean (P h) (P (filled ts))
    filled_clean ts o =
        let fits : O (filled ts) = filled_ok k coherent s here t y at h ok free none firsts root i gone v ts o in
        moved_over k coherent.sound s here t y at clean_goes h (filled ts) ok.number ok.thread (spread h ok) (spread (filled ts) fits) root firsts (fills ts o)

  -- A VALUE GOES

  module _ (h : Hand) (st : State k coherent s here t y at h) (free : h.thread.gift ≡ None) (i : ℕ) (u : Owned) (stood : slice_get h.thread.slots i ≡ Some (value.Own u)) (alone : OwnsAlone k (at_slot h.thread.number i)) where
    abbrev z : ThreadState
    z = h.thread

    abbrev after : ThreadState
    after = record z { slots = slice_set z.slots i value.Gone; gift = Some u }

    abbrev h1 : Hand
    h1 = record h { thread = after }

    passes : Passes k.code n z after (slot i) nowhere
    passes = slot_emptied k.code n z st.untaken i u stood free

    split : Split (things_of (P h)) (things_of (P h1)) (thread_things n false z) (thread_things n false after)
    split = put_split k n s.threads (s.events + 1) h h1 (stands k coherent s here t y at h st.ok) refl refl

    place_b : HasPlaces (P h1)
    place_b = places_on (P h) (P h1) n z after refl split passes.owns (spread h st.ok)

    rooted_a : RootedIn (P h)
    rooted_a = rooted_still k (P h) st.onward.outlines refl (rooted k coherent.sound)

    carried : Carried (P h) (P h1) (Some (at_slot z.number i)) None
    carried =
        is_carried (P h) (P h1) n z after (slot i) nowhere passes split refl (spread h st.ok) place_b
        (owned_quiet (P h) (P h1) n z after i nowhere passes split refl (spread h st.ok) place_b u stood (λ j q. absurd cc) (alone_on k (P h) st.onward.outlines (at_slot z.number i) alone) st.onward.words.first_at_holder rooted_a)

    first : LeavesWords (P h) (P h1)
    first = carried_stays (P h) (P h1) (Some (at_slot z.number i)) None (spread h st.ok) place_b st.onward.words.first_at_holder carried

    rooted1 : RootedIn (P h1)
    rooted1 v q = let a = carried.takes v q in let r = rooted_a v a in (r.0, (carried.taken v a).0 ∙ r.1)

    abbrev without_slot : Hand
    without_slot = its_without k coherent s here t y at h st free i u stood alone

    q : RestAlike k.code n (held u ++ body_things n h.work.rest) (give_up u h.work).rest
    q = given_up {code = k.code} n (held u ++ body_things n h.work.rest) u h.work st.ok.number (itself (held u ++ body_things n h.work.rest))

    together : Rattle.law_words_ends.proofs.Below.law_words_values.carried.Hands.Together k.code n h1 without_slot
    together =
        record {
          number = q.number ∙ sym st.ok.number;
          named = refl;
          alike = given_to_rest k.code n (record z { slots = slice_set z.slots i value.Gone }) (record z { slots = slice_set z.slots i value.Gone }) u h.work.rest (give_up u h.work).rest free (itself (thread_things n false (record z { slots = slice_set z.slots i value.Gone }))) q.alike;
        }

    fits : O without_slot
    fits = its_fits k coherent s here t y at h st free i u stood alone

    pub without_clean : KeepsClean (P h) (P without_slot)
    without_clean =
        clean_goes.chain (P h) (P h1) (P without_slot)
        (clean_goes.carried (P h) (P h1) (Some (at_slot z.number i)) None (spread h st.ok) place_b st.onward.words.first_at_holder (cells_same (P h) (P h1) n z after refl split (spread h st.ok) place_b) carried)
        (moved_over k coherent.sound s here t y at clean_goes h1 without_slot st.ok.number st.ok.thread place_b (spread without_slot fits) rooted1 (first.holders st.onward.words.first_at_holder) (seen together))
