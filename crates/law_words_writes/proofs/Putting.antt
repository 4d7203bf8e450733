-- An owned value is stored in a cell, and what the cell had is dropped: that becomes the thread's gift and goes, then the value becomes the gift, and comes to the cell.
use Rattle.std.proofs.Common.{◌≡◌, ◌⊎◌, inl, inr, ℕ, ◌+◌, ◌<◌, ◌==◌, Bool, true, false, if◌then◌else◌, List, [], ◌∷◌, ◌++◌, length, Some, None, refl, sym, ap, subst, ◌∙◌}
use Rattle.std.specs.Prelude.{slice_get, slice_set}
use Rattle.std.proofs.lemmas.Option.{slice_get_within}
use Rattle.std.proofs.lemmas.List.{get_or-set_same}
use Rattle.law_words_asked.specs.Below.global_addr.Words.{address_of}
use Rattle.law_words_asked.specs.Below.heap_partition.declared.value.Cell.{Cell}
use Rattle.law_words_asked.specs.Below.heap_partition.declared.value.Owned.{Owned}
use Rattle.law_words_asked.specs.Below.heap_partition.declared.value.Owned.TheVariants as owned
use Rattle.law_words_asked.specs.Below.owner_box.View.{PartitionState}
use Rattle.law_words_asked.specs.Below.owner_box.Partition.{cell_of, with_value, stored}
use Rattle.law_words_asked.specs.Below.thread_state.View.{ThreadState}
use Rattle.law_words_asked.specs.Below.thread_state.declared.value.Value.{Value}
use Rattle.law_words_asked.specs.Below.thread_state.declared.value.Value.TheVariants as value
use Rattle.law_words_asked.specs.Below.server_msgs.declared.message.Message.{Message}
use Rattle.law_words_asked.specs.Below.server_model.Servers.{Rest, Server, Cluster, server_at}
use Rattle.law_words_asked.specs.Below.server_model.Work.{Hand, Work, sent_from, thread_in, without_thread, working, with_partition, with_temps, last_of, front_of, then_some}
use Rattle.law_words_asked.specs.Below.server_model.Places.{owns_nothing, nowhere as no_spot}
use Rattle.law_words_asked.specs.Below.server_model.Drop.{give_up, drop_value}
use Rattle.law_words_asked.specs.Below.coherent_memory.Things.{in_cell, in_hand, holds, Thing, thread_things, servers_things}
use Rattle.law_words_asked.specs.Below.coherent_memory.Coherent.{Holds, first_at_holder}
use Rattle.law_words_asked.specs.Below.coherent_types.ClusterTypes.{IsCoherent}
use Rattle.law_words_asked.specs.Below.law_words_paths.words.Reworded.{HasPlaces}
use Rattle.law_words_asked.specs.Below.law_words_paths.words.Unmoved.{pointing, LeavesWords}
use Rattle.law_words_asked.specs.Below.law_counts_sums.Sums.{Sums}
use Rattle.law_words_asked.proofs.Below.law_counts_sums.Bags.{HandOk, all_standing, body_things}
use Rattle.law_words_asked.proofs.Below.law_counts_sums.Drops.{drops_keep}
use Rattle.law_words_asked.proofs.Below.law_counts_sums.Events.{others_of}
use Rattle.law_words_asked.proofs.Below.law_counts_sums.Rules.{comes}
use Rattle.law_words_asked.proofs.Below.law_counts_sums.RulesKeep.{sums_kept}
use Rattle.law_words_asked.proofs.Below.law_counts_sums.Values.{last_split, pops_temp, some_come_by}
use Rattle.law_words_asked.proofs.Below.law_words_kept.stays.Alike.{Alike, itself, turned, beside, blank}
use Rattle.law_words_asked.proofs.Below.law_words_kept.stays.Servers.{held, held_if, given_up}
use Rattle.law_words_asked.proofs.Below.law_words_kept.stays.Steps.{TakesNoneHere}
use Rattle.law_words_asked.proofs.Below.law_words_kept.stays.Threads.{slots_of, temps_of, thread_alike}
use Rattle.law_words_asked.proofs.Below.law_words_kept.prepared.Hands.{put, places, stands}
use Rattle.law_words_values.specs.carried.Carried.{Carried}
use Rattle.law_words_values.proofs.carried.Carrying.{carried_stays}
use Rattle.law_words_values.proofs.carried.Hands.{RootedIn, Together, Moved, seen, passed, moved_from, leaves_chain}
use Rattle.law_words_values.proofs.carried.Passing.{slot, temp, nowhere}
use Rattle.law_words_values.proofs.carried.Places.{set_twice, temp_to_gift}
use Rattle.law_words_values.proofs.carried.Steps.{given_to_rest}
use Rattle.law_words_asked.proofs.Below.law_results_events.writes.Memory.{Leads, looks, leads_on}
use Rattle.law_words_asked.proofs.writes.Passing.{State, Fits}
use Rattle.law_words_writes.proofs.Swapped.{emptied, given, Swapped, value_after, elsewhere, gift_stored}
use Rattle.law_words_writes.proofs.Unvisited.{comes_quiet}
use Rattle.law_words_writes.proofs.Emptying.{emptied_hand, swapped, gift_comes, cell_trades, nothing_goes}
use Rattle.law_words_writes.proofs.Marking.{together_by, rooted_seen, rooted_thread, other_rest}
use Rattle.law_words_writes.proofs.Storing.{Tip, Reaches, half_ok, emptied_so}

-- A PARTITION

-- a cell that gets two values has the second one
stored_twice : (p : PartitionState) (w : ℕ) (c : Cell) (a b : Owned) → cell_of p w ≡ Some c → stored (stored p w a) w b ≡ stored p w b
stored_twice p w c a b e =
    let within : address_of w < length p.cells = slice_get_within p.cells (address_of w) (Some c) (Rattle.law_words_asked.proofs.Below.law_counts_sums.Cells.indexed p.cells (address_of w) c e) in
    let there : cell_of (stored p w a) w ≡ Some (record c { value = a }) = get_or-set_same p.cells (address_of w) (with_value a (cell_of p w)) None within ∙ ap (with_value a) e in
    ap (λ cs. record p { cells = cs })
    (ap (λ o. slice_set (slice_set p.cells (address_of w) (with_value a (cell_of p w))) (address_of w) (with_value b o)) there
    ∙ set_twice p.cells (address_of w) (with_value a (cell_of p w)) (Some (record c { value = b })) ∙ sym (ap (λ o. slice_set p.cells (address_of w) (with_value b o)) e))

-- it leads there still
stored_leads : (p : PartitionState) (w : ℕ) (c : Cell) (v : Owned) → Leads p w c → Leads (stored p w v) w (record c { value = v })
stored_leads p w c v l =
    let within : address_of w < length p.cells = slice_get_within p.cells (address_of w) (Some c) (Rattle.law_words_asked.proofs.Below.law_counts_sums.Cells.indexed p.cells (address_of w) c l.there) in
    record { server = l.server; there = get_or-set_same p.cells (address_of w) (with_value v (cell_of p w)) None within ∙ ap (with_value v) l.there; colour = l.colour }

-- what is sent doesn't see the partition
sent_with : (r : Rest) (p : PartitionState) (t : ℕ) (m : Message) → sent_from (record r { partition = p }) t m ≡ record (sent_from r t m) { partition = p }
sent_with r p t m = by (t == r.number)
  where
    by : (b : Bool) → (if b then Rattle.law_words_asked.specs.Below.server_model.Work.add_waiting m (record r { partition = p }) else record r { partition = p; outbox = r.outbox ++ record { target = t; message = m } ∷ [] })
        ≡ record (if b then Rattle.law_words_asked.specs.Below.server_model.Work.add_waiting m r else record r { outbox = r.outbox ++ record { target = t; message = m } ∷ [] }) { partition = p }
    by true = refl
    by false = refl

sent_same : (r : Rest) (t : ℕ) (m : Message) → (sent_from r t m).partition ≡ r.partition
sent_same r t m = by (t == r.number)
  where
    by : (b : Bool) → (if b then Rattle.law_words_asked.specs.Below.server_model.Work.add_waiting m r else record r { outbox = r.outbox ++ record { target = t; message = m } ∷ [] }).partition ≡ r.partition
    by true = refl
    by false = refl

-- nor does what is given up
pub give_rest : (u : Owned) (a b : Work) (p : PartitionState) → b.rest ≡ record a.rest { partition = p } → (give_up u b).rest ≡ record (give_up u a).rest { partition = p }
give_rest (owned.Box q) a b p e = ap (λ r. sent_from r (Rattle.law_words_asked.specs.Below.global_addr.Words.server_of q.word) (Rattle.law_words_asked.specs.Below.server_msgs.declared.message.Message.TheVariants.Drop q.word q.object)) e ∙ sent_with a.rest p (Rattle.law_words_asked.specs.Below.global_addr.Words.server_of q.word) (Rattle.law_words_asked.specs.Below.server_msgs.declared.message.Message.TheVariants.Drop q.word q.object)
give_rest (owned.Mutex m) a b p e =
    ap (λ r. sent_from r m.home (Rattle.law_words_asked.specs.Below.server_msgs.declared.message.Message.TheVariants.Release (Rattle.law_words_asked.specs.Below.fr_base.declared.release.Released.TheVariants.Mutex m))) e
    ∙ sent_with a.rest p m.home (Rattle.law_words_asked.specs.Below.server_msgs.declared.message.Message.TheVariants.Release (Rattle.law_words_asked.specs.Below.fr_base.declared.release.Released.TheVariants.Mutex m))
give_rest (owned.Task t) a b p e =
    ap (λ r. sent_from r (Rattle.law_words_asked.specs.Below.server_model.Drop.home_of t) (Rattle.law_words_asked.specs.Below.server_msgs.declared.message.Message.TheVariants.Release (Rattle.law_words_asked.specs.Below.fr_base.declared.release.Released.TheVariants.Task t))) e
    ∙ sent_with a.rest p (Rattle.law_words_asked.specs.Below.server_model.Drop.home_of t) (Rattle.law_words_asked.specs.Below.server_msgs.declared.message.Message.TheVariants.Release (Rattle.law_words_asked.specs.Below.fr_base.declared.release.Released.TheVariants.Task t))
give_rest owned.Nothing a b p e = e
give_rest owned.Unit a b p e = e
give_rest (owned.Int i) a b p e = e

pub give_partition : (u : Owned) (a : Work) → (give_up u a).rest.partition ≡ a.rest.partition
give_partition (owned.Box q) a = sent_same a.rest (Rattle.law_words_asked.specs.Below.global_addr.Words.server_of q.word) (Rattle.law_words_asked.specs.Below.server_msgs.declared.message.Message.TheVariants.Drop q.word q.object)
give_partition (owned.Mutex m) a = sent_same a.rest m.home (Rattle.law_words_asked.specs.Below.server_msgs.declared.message.Message.TheVariants.Release (Rattle.law_words_asked.specs.Below.fr_base.declared.release.Released.TheVariants.Mutex m))
give_partition (owned.Task t) a = sent_same a.rest (Rattle.law_words_asked.specs.Below.server_model.Drop.home_of t) (Rattle.law_words_asked.specs.Below.server_msgs.declared.message.Message.TheVariants.Release (Rattle.law_words_asked.specs.Below.fr_base.declared.release.Released.TheVariants.Task t))
give_partition owned.Nothing a = refl
give_partition owned.Unit a = refl
give_partition (owned.Int i) a = refl

-- what is given up sees the rest alone
pub give_same : (u : Owned) (a b : Work) → b.rest ≡ a.rest → (give_up u b).rest ≡ (give_up u a).rest
give_same u a b e = give_rest u a b a.rest.partition e ∙ ap (λ p. record (give_up u a).rest { partition = p }) (sym (give_partition u a))

-- THE OPERAND

-- the value that is stored, and the temporary values that are left: it stood on top, or words don't see it
pub data Operand (x : ThreadState) (v : Owned) : List Value → Type 0 where
  on_top : last_of x.temps ≡ Some (value.Own v) → Operand x v (front_of x.temps)
  plain : owns_nothing v ≡ true → Operand x v x.temps

plain_held : {code : List Rattle.law_words_asked.specs.Below.fr_base.declared.instruction.Instr.Instr} (v : Owned) → owns_nothing v ≡ true → Alike code [] (held v)
plain_held owned.Nothing e = turned (blank (holds in_hand owned.Nothing) (λ p f i. i))
plain_held owned.Unit e = turned (blank (holds in_hand owned.Unit) (λ p f i. i))
plain_held (owned.Int j) e = turned (blank (holds in_hand (owned.Int j)) (λ p f i. i))
plain_held (owned.Box b) e = absurd (cc e)
plain_held (owned.Mutex m) e = absurd (cc e)
plain_held (owned.Task u) e = absurd (cc e)

module _ (k : Cluster) (coherent : IsCoherent k) (s : Server) (here : server_at k.servers s.rest.number ≡ Some s) (t : ℕ) (y : ThreadState) (at : thread_in s.threads t ≡ Some y) where
  abbrev n : ℕ
  n = s.rest.number

  abbrev e : ℕ
  e = s.events + 1

  abbrev others : List Thing
  others = all_standing n (without_thread s.threads t) ++ servers_things (others_of k.servers n)

  abbrev O : Hand → Type 0
  O = Fits k coherent s here t y at

  abbrev P : Hand → Cluster
  P = put k coherent s here t y at

  abbrev spread : (h : Hand) → O h → HasPlaces (P h)
  spread h g = places k coherent s here t y at h g

  module _ (h : Hand) (st : State k coherent s here t y at h) (free : h.thread.gift ≡ None) (w : ℕ) (c : Cell) (leads : Leads h.work.rest.partition w c) (tip : Tip k coherent s here t y at c.object) (v : Owned) (ts : List Value) (operand : Operand h.thread v ts) where
    abbrev x : ThreadState
    x = h.thread

    abbrev u : Owned
    u = c.value

    abbrev p : PartitionState
    p = h.work.rest.partition

    abbrev empty : Work
    empty = record h.work { rest = record h.work.rest { partition = stored p w owned.Nothing } }

    abbrev h1 : Hand
    h1 = record { work = empty; thread = given x u }

    first : Reaches k coherent s here t y at h h1
    first = emptied_so k coherent s here t y at h st free w c leads tip

    -- what the cell had is dropped
    abbrev h2 : Hand
    h2 = record { work = give_up u empty; thread = x }

    ok2 : O h2
    ok2 = drops_keep sums_kept n s.events t others no_spot (value.Own u) (record { work = empty; thread = x }) (half_ok k coherent s here t y at h st free w c leads tip)

    drops : Moved k.code n h1 h2
    drops =
        let q = given_up {code = k.code} n (held u ++ body_things n empty.rest) u empty st.ok.number (itself (held u ++ body_things n empty.rest)) in
        seen (record { number = q.number ∙ sym st.ok.number; named = refl; alike = given_to_rest k.code n x x u empty.rest (give_up u empty).rest free (itself (thread_things n false x)) q.alike })

    second : LeavesWords (P h1) (P h2)
    second = moved_from k coherent.sound s here t y at h1 h2 first.fits.number first.fits.thread (spread h1 first.fits) (spread h2 ok2) first.rooted (first.leaves.holders st.onward.words.first_at_holder) drops

    firsts2 : Holds (P h2) first_at_holder
    firsts2 = second.holders (first.leaves.holders st.onward.words.first_at_holder)

    rooted2 : RootedIn (P h2)
    rooted2 = rooted_seen k coherent s here t y at h1 h2 (spread h1 first.fits) (spread h2 ok2) first.fits.number first.fits.thread (record { number = q.number ∙ sym st.ok.number; named = refl; alike = given_to_rest k.code n x x u empty.rest (give_up u empty).rest free (itself (thread_things n false x)) q.alike }) first.rooted
      where
        q : Rattle.law_words_asked.proofs.Below.law_words_kept.stays.Servers.RestAlike k.code n (held u ++ body_things n empty.rest) (give_up u empty).rest
        q = given_up {code = k.code} n (held u ++ body_things n empty.rest) u empty st.ok.number (itself (held u ++ body_things n empty.rest))

    -- the operand becomes the gift
    abbrev h3 : Hand
    h3 = record { work = give_up u empty; thread = given (record x { temps = ts }) v }

    popped : (rs : List Value) → Operand x v rs → HandOk Sums n s.events t (holds in_hand v ∷ others) (record { work = give_up u empty; thread = record x { temps = rs } })
    popped _ (on_top last) = pops_temp sums_kept n s.events t others (value.Own v) h2 last ok2
    popped _ (plain own) = some_come_by sums_kept n s.events t others (holds in_hand v ∷ []) h2 (comes (holds in_hand v) own) ok2

    ok3 : O h3
    ok3 = gift_comes n s.events t others v (record { work = give_up u empty; thread = record x { temps = ts } }) free (popped ts operand)

    moved3 : (rs : List Value) → Operand x v rs → Moved k.code n h2 (record { work = give_up u empty; thread = given (record x { temps = rs }) v })
    moved3 _ (on_top last) =
        passed x (record x { temps = front_of x.temps; gift = Some v }) refl (itself (thread_things n false x)) (λ o. refl) (temp_to_gift k.code n x st.untaken (front_of x.temps) v (last_split x.temps (value.Own v) last) free) (λ i q. not_there i q)
        (record { number = refl; named = refl; alike = itself (thread_things n false (record x { temps = front_of x.temps; gift = Some v }) ++ body_things n (give_up u empty).rest) })
      where
        not_there : (i : ℕ) → (slot i ≡ temp (length (front_of x.temps))) ⊎ (slot i ≡ nowhere) → pointing (slice_get x.slots i) ≡ None
        not_there i (inl q) = absurd cc
        not_there i (inr q) = absurd cc
    moved3 _ (plain own) =
        seen (record {
          number = refl;
          named = refl;
          alike = beside
              (thread_alike n n false false x (given x v) [] [] (record { number = refl; taking = refl; slots = λ i. refl; temps = λ i. refl }) (itself (slots_of n x)) (itself (temps_of n x))
              (subst (λ g. Alike k.code (held_if g) (held v)) (sym free) (plain_held v own))) (itself (body_things n (give_up u empty).rest));
        })

    third : LeavesWords (P h2) (P h3)
    third = moved_from k coherent.sound s here t y at h2 h3 ok2.number ok2.thread (spread h2 ok2) (spread h3 ok3) rooted2 firsts2 (moved3 ts operand)

    firsts3 : Holds (P h3) first_at_holder
    firsts3 = third.holders firsts2

    rooted3 : RootedIn (P h3)
    rooted3 = rooted_thread k coherent s here t y at h2 h3 ok2 ok3 refl refl refl st.untaken st.untaken rooted2

    -- and comes to the cell
    abbrev full : Work
    full = record h.work { rest = record h.work.rest { partition = stored p w v } }

    abbrev pub stored_hand : Hand
    stored_hand = record { work = give_up u full; thread = record x { temps = ts } }

    abbrev c5 : Cell
    c5 = record c { value = v }

    abbrev G : Rest
    G = (give_up u empty).rest

    G_is : G.partition ≡ stored p w owned.Nothing
    G_is = give_partition u empty

    rest5 : stored_hand.work.rest ≡ record G { partition = stored p w v }
    rest5 = give_rest u empty full (stored p w v) refl

    leads5 : Leads stored_hand.work.rest.partition w c5
    leads5 = subst (λ q. Leads q w c5) (sym (give_partition u full)) (stored_leads p w c v leads)

    -- its sums
    leads_empty : Leads G.partition w (emptied c)
    leads_empty = subst (λ q. Leads q w (emptied c)) (sym G_is) (stored_leads p w c owned.Nothing leads)

    abbrev near : Hand
    near = record { work = record (give_up u empty) { rest = record G { partition = stored G.partition w v } }; thread = record x { temps = ts } }

    near_ok : O near
    near_ok =
        nothing_goes n s.events t others near
        (cell_trades n s.events t others w (emptied c) v (record { work = give_up u empty; thread = record x { temps = ts } }) near (looks G.partition w (emptied c) leads_empty) (ap (λ b. if b then Some near else None) (leads_on G.partition w (emptied c) leads_empty)) (popped ts operand))

    near_rest : near.work.rest ≡ stored_hand.work.rest
    near_rest = ap (λ q. record G { partition = stored q w v }) G_is ∙ ap (λ q. record G { partition = q }) (stored_twice p w c owned.Nothing v leads.there) ∙ sym rest5

    pub stored_ok : O stored_hand
    stored_ok = other_rest k coherent s here t y at near stored_hand refl (sym near_rest) near_ok

    untaken5 : TakesNoneHere k.code stored_hand.thread
    untaken5 = st.untaken

    abbrev h4 : Hand
    h4 = emptied_hand k n s.threads e stored_hand (stands k coherent s here t y at stored_hand stored_ok) free untaken5 w c5 leads5.there

    rest4 : h4.work.rest ≡ h3.work.rest
    rest4 =
        ap (λ (r : Rest). record r { partition = stored r.partition w owned.Nothing }) rest5 ∙ ap (λ q. record G { partition = q }) (stored_twice p w c v owned.Nothing leads.there) ∙ ap (λ q. record G { partition = q }) (sym G_is)

    ok4 : O h4
    ok4 = other_rest k coherent s here t y at h3 h4 refl rest4 ok3

    near_same : Together k.code n h3 h4
    near_same = together_by h3 h4 refl rest4

    fourth : LeavesWords (P h3) (P h4)
    fourth = moved_from k coherent.sound s here t y at h3 h4 ok3.number ok3.thread (spread h3 ok3) (spread h4 ok4) rooted3 firsts3 (seen near_same)

    swap : Swapped (P stored_hand) (P h4) n (address_of w) c5 stored_hand.thread
    swap = swapped k n s.threads e stored_hand (stands k coherent s here t y at stored_hand stored_ok) free untaken5 w c5 leads5.there

    carried : Carried (P h4) (P stored_hand) None (Some (in_cell c.object))
    carried =
        gift_stored (P stored_hand) (P h4) n (address_of w) c5 stored_hand.thread swap (spread stored_hand stored_ok) (spread h4 ok4)
        (comes_quiet (P h4) (P stored_hand) c.object (λ l f. sym (elsewhere (P stored_hand) (P h4) n (address_of w) c5 stored_hand.thread swap (spread stored_hand stored_ok) (spread h4 ok4) l f)) (fourth.holders firsts3)
        (rooted_seen k coherent s here t y at h3 h4 (spread h3 ok3) (spread h4 ok4) ok3.number ok3.thread near_same rooted3) (value_after (P stored_hand) (P h4) n (address_of w) c5 stored_hand.thread swap (spread stored_hand stored_ok) (spread h4 ok4)))

    -- so the words stay
    pub stored_so : LeavesWords (P h) (P stored_hand)
    stored_so =
        leaves_chain first.leaves
        (leaves_chain second (leaves_chain third (leaves_chain fourth (carried_stays (P h4) (P stored_hand) None (Some (in_cell c.object)) (spread h4 ok4) (spread stored_hand stored_ok) (fourth.holders firsts3) carried))))
