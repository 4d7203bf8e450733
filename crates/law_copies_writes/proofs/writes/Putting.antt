-- A value is stored in a cell and what the cell had is dropped: cells of other objects and changed references stay.
use Rattle.std.proofs.Common.{◌≡◌, ◌⊎◌, inl, inr, ℕ, ◌+◌, ◌<◌, true, false, List, [], ◌∷◌, ◌++◌, length, Some, None, refl, sym, ap, subst, ◌∙◌}
use Rattle.std.specs.Prelude.{slice_get, slice_set}
use Rattle.std.proofs.lemmas.Option.{slice_get_within}
use Rattle.std.proofs.lemmas.List.{get_or-set_same}
use Rattle.law_counts_waiting.specs.Below.global_addr.Words.{address_of}
use Rattle.law_counts_waiting.specs.Below.heap_partition.declared.value.Cell.{Cell}
use Rattle.law_counts_waiting.specs.Below.heap_partition.declared.value.Owned.{Owned}
use Rattle.law_counts_waiting.specs.Below.heap_partition.declared.value.Owned.TheVariants as owned
use Rattle.law_counts_waiting.specs.Below.owner_box.View.{PartitionState}
use Rattle.law_counts_waiting.specs.Below.owner_box.Partition.{cell_of, with_value, stored}
use Rattle.law_counts_waiting.specs.Below.thread_state.View.{ThreadState}
use Rattle.law_counts_waiting.specs.Below.thread_state.declared.value.Value.{Value}
use Rattle.law_counts_waiting.specs.Below.thread_state.declared.value.Value.TheVariants as value
use Rattle.law_counts_waiting.specs.Below.server_model.Servers.{Rest, Server, Cluster, server_at}
use Rattle.law_counts_waiting.specs.Below.server_model.Work.{Hand, Work, thread_in, without_thread, front_of}
use Rattle.law_counts_waiting.specs.Below.server_model.Places.{owns_nothing, nowhere as no_spot}
use Rattle.law_counts_waiting.specs.Below.server_model.Drop.{give_up}
use Rattle.law_counts_waiting.specs.Below.coherent_memory.Things.{in_cell, in_hand, holds, Thing, thread_things, servers_things}
use Rattle.law_counts_waiting.specs.Below.coherent_memory.Coherent.{Holds, first_at_holder}
use Rattle.law_counts_waiting.specs.Below.coherent_types.ClusterTypes.{IsCoherent}
use Rattle.law_words_ends.specs.Below.law_words_paths.words.Reworded.{HasPlaces}
use Rattle.law_words_ends.specs.Below.law_words_paths.words.Unmoved.{pointing, LeavesWords}
use Rattle.law_counts_waiting.specs.Below.law_counts_sums.Sums.{Sums}
use Rattle.law_counts_waiting.proofs.Below.law_counts_sums.Bags.{HandOk, all_standing, body_things}
use Rattle.law_counts_waiting.proofs.Below.law_counts_sums.Drops.{drops_keep}
use Rattle.law_counts_waiting.proofs.Below.law_counts_sums.Events.{others_of}
use Rattle.law_counts_waiting.proofs.Below.law_counts_sums.Rules.{comes}
use Rattle.law_counts_waiting.proofs.Below.law_counts_sums.RulesKeep.{sums_kept}
use Rattle.law_counts_waiting.proofs.Below.law_counts_sums.Values.{last_split, pops_temp, some_come_by}
use Rattle.law_words_ends.proofs.Below.law_words_kept.stays.Alike.{Alike, itself, turned, beside, blank}
use Rattle.law_words_ends.proofs.Below.law_words_kept.stays.Servers.{held, held_if, given_up}
use Rattle.law_words_ends.proofs.Below.law_words_kept.stays.Steps.{TakesNoneHere}
use Rattle.law_words_ends.proofs.Below.law_words_kept.stays.Threads.{slots_of, temps_of, thread_alike}
use Rattle.law_words_ends.proofs.Below.law_words_kept.prepared.Hands.{put, places, stands}
use Rattle.law_words_ends.specs.Below.law_words_values.carried.Carried.{Carried}
use Rattle.law_words_ends.proofs.Below.law_words_values.carried.Hands.{RootedIn, Together, Moved, seen, passed, moved_from}
use Rattle.law_words_ends.proofs.Below.law_words_values.carried.Passing.{slot, temp, nowhere}
use Rattle.law_words_ends.proofs.Below.law_words_values.carried.Places.{set_twice, temp_to_gift}
use Rattle.law_words_ends.proofs.Below.law_words_values.carried.Steps.{given_to_rest}
use Rattle.law_words_ends.proofs.Below.law_results_events.writes.Memory.{Leads}
use Rattle.law_words_ends.proofs.Below.law_words_asked.writes.Passing.{State, Fits}
use Rattle.law_words_ends.proofs.Below.law_words_writes.Swapped.{given, Swapped, value_after, elsewhere, gift_stored}
use Rattle.law_words_ends.proofs.Below.law_words_writes.Unvisited.{comes_quiet}
use Rattle.law_words_ends.proofs.Below.law_words_writes.Emptying.{emptied_hand, swapped, gift_comes}
use Rattle.law_words_ends.proofs.Below.law_words_writes.Marking.{together_by, rooted_seen, rooted_thread, other_rest}
use Rattle.law_words_ends.proofs.Below.law_words_writes.Storing.{Tip, Reaches, half_ok, emptied_so}
use Rattle.law_counts_waiting.specs.Below.fr_base.declared.name.ObjNo.{ObjNo}
use Rattle.law_words_ends.proofs.Below.law_words_values.carried.Hands.{moved_over}
use Rattle.law_words_ends.proofs.Below.law_words_writes.Putting.{give_rest, give_partition, Operand, on_top, plain, stored_hand as its_stored_hand, stored_ok as its_stored_ok}
use Rattle.law_copies_kept.proofs.copies.Clean.{clean_goes}
use Rattle.law_copies_writes.proofs.writes.Others.{KeepsOthers, others_chain, others_clean, others_carried}
use Rattle.law_copies_writes.proofs.writes.Storing.{emptied_others}

-- A PARTITION

-- a cell that gets two values has the second one
stored_twice : (p : PartitionState) (w : ℕ) (c : Cell) (a b : Owned) → cell_of p w ≡ Some c → stored (stored p w a) w b ≡ stored p w b
stored_twice p w c a b e =
    let within : address_of w < length p.cells = slice_get_within p.cells (address_of w) (Some c) (Rattle.law_counts_waiting.proofs.Below.law_counts_sums.Cells.indexed p.cells (address_of w) c e) in
    let there : cell_of (stored p w a) w ≡ Some (record c { value = a }) = get_or-set_same p.cells (address_of w) (with_value a (cell_of p w)) None within ∙ ap (with_value a) e in
    ap (λ cs. record p { cells = cs })
    (ap (λ o. slice_set (slice_set p.cells (address_of w) (with_value a (cell_of p w))) (address_of w) (with_value b o)) there
    ∙ set_twice p.cells (address_of w) (with_value a (cell_of p w)) (Some (record c { value = b })) ∙ sym (ap (λ o. slice_set p.cells (address_of w) (with_value b o)) e))

-- it leads there still
stored_leads : (p : PartitionState) (w : ℕ) (c : Cell) (v : Owned) → Leads p w c → Leads (stored p w v) w (record c { value = v })
stored_leads p w c v l =
    let within : address_of w < length p.cells = slice_get_within p.cells (address_of w) (Some c) (Rattle.law_counts_waiting.proofs.Below.law_counts_sums.Cells.indexed p.cells (address_of w) c l.there) in
    record { server = l.server; there = get_or-set_same p.cells (address_of w) (with_value v (cell_of p w)) None within ∙ ap (with_value v) l.there; colour = l.colour }

plain_held : {code : List Rattle.law_counts_waiting.specs.Below.fr_base.declared.instruction.Instr.Instr} (v : Owned) → owns_nothing v ≡ true → Alike code [] (held v)
plain_held owned.Nothing e = turned (blank (holds in_hand owned.Nothing) (λ p f i. i))
plain_held owned.Unit e = turned (blank (holds in_hand owned.Unit) (λ p f i. i))
plain_held (owned.Int j) e = turned (blank (holds in_hand (owned.Int j)) (λ p f i. i))
plain_held (owned.Box b) e = absurd (cc e)
plain_held (owned.Mutex m) e = absurd (cc e)
plain_held (owned.Task u) e = absurd (cc e)

module _ (k : Cluster) (coherent : IsCoherent k) (s : Server) (here : server_at k.servers s.rest.number ≡ Some s) (t : ℕ) (y : ThreadState) (at : thread_in s.threads t ≡ Some y) where
  abbrev n : ℕ
  n = s.rest.number

  abbrev e : ℕ
  e = s.events + 1

  abbrev others : List Thing
  others = all_standing n (without_thread s.threads t) ++ servers_things (others_of k.servers n)

  abbrev O : Hand → Type 0
  O = Fits k coherent s here t y at

  abbrev P : Hand → Cluster
  P = put k coherent s here t y at

  abbrev spread : (h : Hand) → O h → HasPlaces (P h)
  spread h g = places k coherent s here t y at h g

  module _ (h : Hand) (st : State k coherent s here t y at h) (free : h.thread.gift ≡ None) (w : ℕ) (c : Cell) (leads : Leads h.work.rest.partition w c) (tip : Tip k coherent s here t y at c.object) (v : Owned) (ts : List Value) (operand : Operand h.thread v ts) where
    abbrev x : ThreadState
    x = h.thread

    abbrev u : Owned
    u = c.value

    abbrev p : PartitionState
    p = h.work.rest.partition

    abbrev empty : Work
    empty = record h.work { rest = record h.work.rest { partition = stored p w owned.Nothing } }

    abbrev h1 : Hand
    h1 = record { work = empty; thread = given x u }

    first : Reaches k coherent s here t y at h h1
    first = emptied_so k coherent s here t y at h st free w c leads tip

    -- what the cell had is dropped
    abbrev h2 : Hand
    h2 = record { work = give_up u empty; thread = x }

    ok2 : O h2
    ok2 = drops_keep sums_kept n s.events t others no_spot (value.Own u) (record { work = empty; thread = x }) (half_ok k coherent s here t y at h st free w c leads tip)

    drops : Moved k.code n h1 h2
    drops =
        let q = given_up {code = k.code} n (held u ++ body_things n empty.rest) u empty st.ok.number (itself (held u ++ body_things n empty.rest)) in
        seen (record { number = q.number ∙ sym st.ok.number; named = refl; alike = given_to_rest k.code n x x u empty.rest (give_up u empty).rest free (itself (thread_things n false x)) q.alike })

    second : LeavesWords (P h1) (P h2)
    second = moved_from k coherent.sound s here t y at h1 h2 first.fits.number first.fits.thread (spread h1 first.fits) (spread h2 ok2) first.rooted (first.leaves.holders st.onward.words.first_at_holder) drops

    firsts2 : Holds (P h2) first_at_holder
    firsts2 = second.holders (first.leaves.holders st.onward.words.first_at_holder)

    rooted2 : RootedIn (P h2)
    rooted2 = rooted_seen k coherent s here t y at h1 h2 (spread h1 first.fits) (spread h2 ok2) first.fits.number first.fits.thread (record { number = q.number ∙ sym st.ok.number; named = refl; alike = given_to_rest k.code n x x u empty.rest (give_up u empty).rest free (itself (thread_things n false x)) q.alike }) first.rooted
      where
        q : Rattle.law_words_ends.proofs.Below.law_words_kept.stays.Servers.RestAlike k.code n (held u ++ body_things n empty.rest) (give_up u empty).rest
        q = given_up {code = k.code} n (held u ++ body_things n empty.rest) u empty st.ok.number (itself (held u ++ body_things n empty.rest))

    -- the operand becomes the gift
    abbrev h3 : Hand
    h3 = record { work = give_up u empty; thread = given (record x { temps = ts }) v }

    popped : (rs : List Value) → Operand x v rs → HandOk Sums n s.events t (holds in_hand v ∷ others) (record { work = give_up u empty; thread = record x { temps = rs } })
    popped _ (on_top last) = pops_temp sums_kept n s.events t others (value.Own v) h2 last ok2
    popped _ (plain own) = some_come_by sums_kept n s.events t others (holds in_hand v ∷ []) h2 (comes (holds in_hand v) own) ok2

    ok3 : O h3
    ok3 = gift_comes n s.events t others v (record { work = give_up u empty; thread = record x { temps = ts } }) free (popped ts operand)

    moved3 : (rs : List Value) → Operand x v rs → Moved k.code n h2 (record { work = give_up u empty; thread = given (record x { temps = rs }) v })
    moved3 _ (on_top last) =
        passed x (record x { temps = front_of x.temps; gift = Some v }) refl (itself (thread_things n false x)) (λ o. refl) (temp_to_gift k.code n x st.untaken (front_of x.temps) v (last_split x.temps (value.Own v) last) free) (λ i q. not_there i q)
        (record { number = refl; named = refl; alike = itself (thread_things n false (record x { temps = front_of x.temps; gift = Some v }) ++ body_things n (give_up u empty).rest) })
      where
        not_there : (i : ℕ) → (slot i ≡ temp (length (front_of x.temps))) ⊎ (slot i ≡ nowhere) → pointing (slice_get x.slots i) ≡ None
        not_there i (inl q) = absurd cc
        not_there i (inr q) = absurd cc
    moved3 _ (plain own) =
        seen (record {
          number = refl;
          named = refl;
          alike = beside
              (thread_alike n n false false x (given x v) [] [] (record { number = refl; taking = refl; slots = λ i. refl; temps = λ i. refl }) (itself (slots_of n x)) (itself (temps_of n x))
              (subst (λ g. Alike k.code (held_if g) (held v)) (sym free) (plain_held v own))) (itself (body_things n (give_up u empty).rest));
        })

    third : LeavesWords (P h2) (P h3)
    third = moved_from k coherent.sound s here t y at h2 h3 ok2.number ok2.thread (spread h2 ok2) (spread h3 ok3) rooted2 firsts2 (moved3 ts operand)

    firsts3 : Holds (P h3) first_at_holder
    firsts3 = third.holders firsts2

    rooted3 : RootedIn (P h3)
    rooted3 = rooted_thread k coherent s here t y at h2 h3 ok2 ok3 refl refl refl st.untaken st.untaken rooted2

    -- and comes to the cell
    abbrev full : Work
    full = record h.work { rest = record h.work.rest { partition = stored p w v } }

    abbrev stored_hand : Hand
    stored_hand = its_stored_hand k coherent s here t y at h st free w c leads tip v ts operand

    stored_fits : O stored_hand
    stored_fits = its_stored_ok k coherent s here t y at h st free w c leads tip v ts operand

    abbrev c5 : Cell
    c5 = record c { value = v }

    abbrev G : Rest
    G = (give_up u empty).rest

    G_is : G.partition ≡ stored p w owned.Nothing
    G_is = give_partition u empty

    rest5 : stored_hand.work.rest ≡ record G { partition = stored p w v }
    rest5 = give_rest u empty full (stored p w v) refl

    leads5 : Leads stored_hand.work.rest.partition w c5
    leads5 = subst (λ q. Leads q w c5) (sym (give_partition u full)) (stored_leads p w c v leads)

    untaken5 : TakesNoneHere k.code stored_hand.thread
    untaken5 = st.untaken

    abbrev h4 : Hand
    h4 = emptied_hand k n s.threads e stored_hand (stands k coherent s here t y at stored_hand stored_fits) free untaken5 w c5 leads5.there

    rest4 : h4.work.rest ≡ h3.work.rest
    rest4 =
        ap (λ (r : Rest). record r { partition = stored r.partition w owned.Nothing }) rest5 ∙ ap (λ q. record G { partition = q }) (stored_twice p w c v owned.Nothing leads.there) ∙ ap (λ q. record G { partition = q }) (sym G_is)

    ok4 : O h4
    ok4 = other_rest k coherent s here t y at h3 h4 refl rest4 ok3

    near_same : Together k.code n h3 h4
    near_same = together_by h3 h4 refl rest4

    fourth : LeavesWords (P h3) (P h4)
    fourth = moved_from k coherent.sound s here t y at h3 h4 ok3.number ok3.thread (spread h3 ok3) (spread h4 ok4) rooted3 firsts3 (seen near_same)

    swap : Swapped (P stored_hand) (P h4) n (address_of w) c5 stored_hand.thread
    swap = swapped k n s.threads e stored_hand (stands k coherent s here t y at stored_hand stored_fits) free untaken5 w c5 leads5.there

    carried : Carried (P h4) (P stored_hand) None (Some (in_cell c.object))
    carried =
        gift_stored (P stored_hand) (P h4) n (address_of w) c5 stored_hand.thread swap (spread stored_hand stored_fits) (spread h4 ok4)
        (comes_quiet (P h4) (P stored_hand) c.object (λ l f. sym (elsewhere (P stored_hand) (P h4) n (address_of w) c5 stored_hand.thread swap (spread stored_hand stored_fits) (spread h4 ok4) l f)) (fourth.holders firsts3)
        (rooted_seen k coherent s here t y at h3 h4 (spread h3 ok3) (spread h4 ok4) ok3.number ok3.thread near_same rooted3) (value_after (P stored_hand) (P h4) n (address_of w) c5 stored_hand.thread swap (spread stored_hand stored_fits) (spread h4 ok4)))

    -- so cells of other objects and changed references stay
    pub stored_others : KeepsOthers c.object (P h) (P stored_hand)
    stored_others =
        others_chain c.object (P h) (P h1) (P stored_hand) (emptied_others k coherent s here t y at h st free w c leads tip)
        (others_chain c.object (P h1) (P h2) (P stored_hand) (others_clean c.object (P h1) (P h2) (moved_over k coherent.sound s here t y at clean_goes h1 h2 first.fits.number first.fits.thread (spread h1 first.fits) (spread h2 ok2) first.rooted (first.leaves.holders st.onward.words.first_at_holder) drops))
        (others_chain c.object (P h2) (P h3) (P stored_hand) (others_clean c.object (P h2) (P h3) (moved_over k coherent.sound s here t y at clean_goes h2 h3 ok2.number ok2.thread (spread h2 ok2) (spread h3 ok3) rooted2 firsts2 (moved3 ts operand)))
        (others_chain c.object (P h3) (P h4) (P stored_hand) (others_clean c.object (P h3) (P h4) (moved_over k coherent.sound s here t y at clean_goes h3 h4 ok3.number ok3.thread (spread h3 ok3) (spread h4 ok4) rooted3 firsts3 (seen near_same)))
        (others_carried c.object (P h4) (P stored_hand) None (Some (in_cell c.object)) (spread h4 ok4) (spread stored_hand stored_fits) (fourth.holders firsts3)
        (λ o away. sym (elsewhere (P stored_hand) (P h4) n (address_of w) c5 stored_hand.thread swap (spread stored_hand stored_fits) (spread h4 ok4) (in_cell o) (λ e. away (object_is e)))) carried))))
      where
        object_is : {a b : ObjNo} → in_cell a ≡ in_cell b → a ≡ b
        object_is e = cc
