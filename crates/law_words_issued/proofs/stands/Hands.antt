-- A server and the thread in the hand of an event that issues no word: what stands where fits, and so does what is put; and the addresses are those that were there.
use Rattle.std.proofs.Common.{◌≡◌, ℕ, ◌+◌, ◌-◌, ◌^◌, ◌==◌, Bool, true, false, nat_lt, if◌then◌else◌, List, [], ◌∷◌, ◌++◌, length, Option, Some, None, refl, subst, ◌∙◌, arith}
use Rattle.std.specs.Prelude.{slice_get, slice_set}
use Rattle.std.specs.List.{AllByRecursion}
use Rattle.law_walks_own.specs.Below.fr_base.declared.release.Released.TheVariants as released
use Rattle.law_walks_own.specs.Below.global_addr.Words.{address_of}
use Rattle.law_walks_own.specs.Below.heap_partition.declared.value.BoxPtr.{BoxPtr}
use Rattle.law_walks_own.specs.Below.heap_partition.declared.value.Cell.{Cell}
use Rattle.law_walks_own.specs.Below.heap_partition.declared.value.Owned.{Owned}
use Rattle.law_walks_own.specs.Below.heap_partition.declared.value.Owned.TheVariants as owned
use Rattle.law_walks_own.specs.Below.law_walks_others.Below.owner_box.View.{PartitionState}
use Rattle.law_walks_own.specs.Below.law_walks_others.Below.owner_box.Partition.{cell_of, with_value, stored}
use Rattle.law_walks_own.specs.Below.law_walks_others.Below.read_cache.Cache.{Copy, copy_of, cell_in, is_cached, users, can_pin, with_users}
use Rattle.law_walks_own.specs.Below.thread_state.View.{ThreadState}
use Rattle.law_walks_own.specs.Below.thread_state.declared.phase.Phase.{Phase}
use Rattle.law_walks_own.specs.Below.thread_state.declared.value.Value.{Value}
use Rattle.law_walks_own.specs.Below.thread_state.declared.value.Value.TheVariants as value
use Rattle.law_walks_own.specs.Below.server_msgs.declared.message.Message.{Message}
use Rattle.law_walks_own.specs.Below.server_msgs.declared.message.Message.TheVariants as message
use Rattle.law_walks_own.specs.Below.server_model.Servers.{Rest}
use Rattle.law_walks_own.specs.Below.server_model.Work.{Work, Hand, with_partition, with_cache, with_phase, look, leads_here, sent_from, working, with_slots, front_of}
use Rattle.law_walks_own.specs.Below.server_model.Places.{Spot, in_slot, on_top, in_cell, in_copy, nowhere, value_in, value_at, written, note_slot, note_write, put_at, pointer_of, with_word}
use Rattle.law_walks_own.specs.Below.server_model.Drop.{give_up}
use Rattle.law_walks_own.specs.Below.coherent_memory.Placing.{phase_word}
use Rattle.law_walks_own.specs.Below.coherent_memory.Naming.{phase_thread}
use Rattle.law_walks_own.specs.Below.coherent_memory.Sharing.{phase_mutex}
use Rattle.law_walks_own.proofs.Below.coherent_memory.Names.{and_left, same_number}
use Rattle.law_walks_own.specs.Below.law_counts_sums.Laws.{Gives}
use Rattle.law_walks_own.proofs.Below.law_counts_sums.Results.{test_gives}
use Rattle.law_walks_own.proofs.Below.law_counts_sums.Known.{all_at, all_or, all_set, all_append, all_take}
use Rattle.law_walks_own.proofs.Below.law_counts_things.things.Small.{Of, Lies, Places}
use Rattle.law_walks_own.proofs.Below.law_counts_things.names.Fit.{Weights, OwnedFits, Fits, TempFits, WordFits, CellFits, CopyFits, temp_fits, ThreadFits, MessageFits, SentFits, copy_fits, cached_fits, users_fit, Base, RestFits}
use Rattle.law_walks_own.proofs.Below.law_counts_things.names.Middle.{IsMine, looked_fits}
use Rattle.law_words_issued.proofs.stands.Addresses.{SameAddresses, stores_same}

some_same : {X : Type 0} {a b : X} → Some a ≡ Some b → a ≡ b
some_same e = cc

-- POINTERS

module _ (w : Weights) where
  worded_fits : (x : ℕ) (v new : Value) → WordFits w x → Fits w v → with_word x v ≡ Some new → Fits w new
  worded_fits x (value.Own (owned.Box b)) new k a e = subst (Fits w) (some_same e) (omega (arith, k, a))
  worded_fits x (value.Mut r) new k a e = subst (Fits w) (some_same e) (omega (arith, k, a))
  worded_fits x (value.Own owned.Nothing) new k a e = absurd (cc e)
  worded_fits x (value.Own owned.Unit) new k a e = absurd (cc e)
  worded_fits x (value.Own (owned.Int n)) new k a e = absurd (cc e)
  worded_fits x (value.Own (owned.Mutex m)) new k a e = absurd (cc e)
  worded_fits x (value.Own (owned.Task t)) new k a e = absurd (cc e)
  worded_fits x value.Gone new k a e = absurd (cc e)
  worded_fits x (value.SharedSlot i) new k a e = absurd (cc e)
  worded_fits x (value.MutSlot i) new k a e = absurd (cc e)
  worded_fits x (value.Shared r) new k a e = absurd (cc e)
  worded_fits x (value.Held m) new k a e = absurd (cc e)

  pointer_fits : (v : Value) (p : BoxPtr) → Fits w v → pointer_of v ≡ Some p → Fits w (value.Own (owned.Box p))
  pointer_fits (value.Own (owned.Box b)) p a e = subst (λ q. Fits w (value.Own (owned.Box q))) (some_same e) a
  pointer_fits (value.Shared r) p a e = subst (λ q. Fits w (value.Own (owned.Box q))) (some_same e) (omega (arith, a))
  pointer_fits (value.Mut r) p a e = subst (λ q. Fits w (value.Own (owned.Box q))) (some_same e) (omega (arith, a))
  pointer_fits (value.Own owned.Nothing) p a e = absurd (cc e)
  pointer_fits (value.Own owned.Unit) p a e = absurd (cc e)
  pointer_fits (value.Own (owned.Int n)) p a e = absurd (cc e)
  pointer_fits (value.Own (owned.Mutex m)) p a e = absurd (cc e)
  pointer_fits (value.Own (owned.Task t)) p a e = absurd (cc e)
  pointer_fits value.Gone p a e = absurd (cc e)
  pointer_fits (value.SharedSlot i) p a e = absurd (cc e)
  pointer_fits (value.MutSlot i) p a e = absurd (cc e)
  pointer_fits (value.Held m) p a e = absurd (cc e)

-- THE HAND

module _ (w : Weights) (b : Base) (p : PartitionState) where
  -- what a server has beside its threads fits, and its addresses are those
  abbrev pub Kept : Rest → Type 0
  Kept r = RestFits w b r × SameAddresses p r.partition

  -- one message more
  pub says_fits : (t : ℕ) (m : Message) (r : Rest) → MessageFits w t m → Kept r → Kept (sent_from r t m)
  says_fits t m r a k = by (t == r.number) refl
    where
      g : RestFits w b r
      g = k.0

      by : (q : Bool) → (t == r.number) ≡ q → Kept (if q then record r { inbox = r.inbox ++ m ∷ [] } else record r { outbox = r.outbox ++ record { target = t; message = m } ∷ [] })
      by true e = (
        record { numbered = g.numbered; begun = g.begun; made_so = g.made_so; homed = g.homed; partition = g.partition; copies = g.copies; mutexes = g.mutexes; tasks = g.tasks; waiting = all_append (MessageFits w b.number) r.inbox (m ∷ []) g.waiting (subst (λ x. MessageFits w x m) (same_number t r.number e ∙ g.numbered) a, tt); leaving = g.leaving },
        k.1,
      )
      by false e = (
        record { numbered = g.numbered; begun = g.begun; made_so = g.made_so; homed = g.homed; partition = g.partition; copies = g.copies; mutexes = g.mutexes; tasks = g.tasks; waiting = g.waiting; leaving = all_append (SentFits w) r.outbox (record { target = t; message = m } ∷ []) g.leaving (a, tt) },
        k.1,
      )

  pub with_copies : (cs : List Copy) (r : Rest) → AllByRecursion (CopyFits w) cs → Kept r → Kept (record r { cache = cs })
  with_copies cs r a k = let g = k.0 in (record { numbered = g.numbered; begun = g.begun; made_so = g.made_so; homed = g.homed; partition = g.partition; copies = a; mutexes = g.mutexes; tasks = g.tasks; waiting = g.waiting; leaving = g.leaving }, k.1)

  -- an object gets a value
  valued : (v : Owned) (c : Option Cell) → OwnedFits w v → Gives (CellFits w) c → Gives (CellFits w) (with_value v c)
  valued v None k a = tt
  valued v (Some c) k a = omega (arith, k, a)

  with_value_at : (x : ℕ) (v : Owned) (r : Rest) → OwnedFits w v → Kept r → Kept (record r { partition = stored r.partition x v })
  with_value_at x v r a k =
      let g = k.0 in
      let part = g.partition in (
        record {
          numbered = g.numbered;
          begun = g.begun;
          made_so = g.made_so;
          homed = g.homed;
          partition = record {
            cells_fit = all_set (Gives (CellFits w)) r.partition.cells (address_of x) (with_value v (cell_of r.partition x)) part.cells_fit
                (valued v (cell_of r.partition x) a (all_or (Gives (CellFits w)) r.partition.cells (address_of x) None part.cells_fit tt));
            free_fit = part.free_fit;
            small = part.small;
            limited = part.limited;
          };
          copies = g.copies;
          mutexes = g.mutexes;
          tasks = g.tasks;
          waiting = g.waiting;
          leaving = g.leaving;
        },
        stores_same p r.partition x v k.1,
      )

  -- what is let go
  pub gives_up : (v : Owned) (x : Work) → OwnedFits w v → Kept x.rest → Kept (give_up v x).rest
  gives_up (owned.Box q) x a g = says_fits _ (message.Drop q.word q.object) x.rest (omega (arith, a)) g
  gives_up (owned.Mutex m) x a g = says_fits _ (message.Release (released.Mutex m)) x.rest (omega (arith, a)) g
  gives_up (owned.Task t) x a g = says_fits _ (message.Release (released.Task t)) x.rest (omega (arith, a)) g
  gives_up owned.Nothing x a g = g
  gives_up owned.Unit x a g = g
  gives_up (owned.Int n) x a g = g

  module _ (y : ThreadState) where
    abbrev pub F : Rest → ThreadState → Type 0
    F r t = Kept r × IsMine w y t

    in_fits : (c : Option Cell) (v : Value) → Gives (CellFits w) c → value_in c ≡ Some v → Fits w v
    in_fits None v k e = absurd (cc e)
    in_fits (Some c) v k e = subst (Fits w) (some_same e) (omega (arith, k))

    copied_fits : (c : Option Copy) (u : ℕ) (v : Value) → Gives (λ (d : Copy). CopyFits w d × WordFits w u) c → value_in (cell_in c) ≡ Some v → Fits w v
    copied_fits None u v k e = absurd (cc e)
    copied_fits (Some c) u v k e = subst (Fits w) (some_same e) (omega (arith, k.0))

    pub spot_fits : (s : Spot) (v : Value) (h : Hand) → Of F h → value_at h s ≡ Some v → Fits w v
    spot_fits (in_slot i) v h g e = let mine = g.1 in let fit = mine.fit in all_at (Fits w) h.thread.slots i v fit.slots_fit e
    spot_fits on_top v h g e = let mine = g.1 in let fit = mine.fit in temp_fits w v (all_at (TempFits w) h.thread.temps _ v fit.temps_fit e)
    spot_fits (in_cell u through) v h g e = let kept = g.0 in let rest = kept.0 in let part = rest.partition in in_fits (look h.work.rest.partition u) v (looked_fits w h.work.rest.partition u part.cells_fit) e
    spot_fits (in_copy u) v h g e = let kept = g.0 in let rest = kept.0 in copied_fits (copy_of h.work.rest.cache u) u v (copy_fits w h.work.rest.cache u rest.copies) e
    spot_fits nowhere v h g e = absurd (cc e)

    pub slots_put : (vs : List Value) (h : Hand) → AllByRecursion (Fits w) vs → Of F h → Of F (with_slots vs h)
    slots_put vs h a g =
        let mine = g.1 in
        let fit = mine.fit in
        (g.0, record { fit = record { named = fit.named; made_so = fit.made_so; waits = fit.waits; given = fit.given; walks = fit.walks; slots_fit = a; temps_fit = fit.temps_fit }; same = mine.same; as_many = mine.as_many })

    pub temps_put : (vs : List Value) (h : Hand) → AllByRecursion (TempFits w) vs → Of F h → F h.work.rest (record h.thread { temps = vs })
    temps_put vs h a g =
        let mine = g.1 in
        let fit = mine.fit in
        (g.0, record { fit = record { named = fit.named; made_so = fit.made_so; waits = fit.waits; given = fit.given; walks = fit.walks; slots_fit = fit.slots_fit; temps_fit = a }; same = mine.same; as_many = mine.as_many })

    written_fits : (v : Value) → Fits w v → Fits w (written v)
    written_fits (value.Mut r) k = k
    written_fits value.Gone k = k
    written_fits (value.Own v) k = k
    written_fits (value.SharedSlot i) k = k
    written_fits (value.MutSlot i) k = k
    written_fits (value.Shared r) k = k
    written_fits (value.Held m) k = k

    noted : (through : Option ℕ) (h : Hand) → Of F h → Of F (note_write through h)
    noted None h g = g
    noted (Some i) h g = by (slice_get h.thread.slots i) refl
      where
        by : (o : Option Value) → slice_get h.thread.slots i ≡ o → Of F (with_slots (note_slot h.thread.slots i o) h)
        by None q = g
        by (Some v) q =
            let mine = g.1 in
            let fit = mine.fit in
            slots_put (slice_set h.thread.slots i (written v)) h (all_set (Fits w) h.thread.slots i (written v) fit.slots_fit (written_fits v (all_at (Fits w) h.thread.slots i v fit.slots_fit q))) g

    -- what may lie on top of the temporary values
    top_fits : (v : Value) → Lies on_top v → Fits w v → TempFits w v
    top_fits (value.Held m) z a = absurd z
    top_fits value.Gone z a = a
    top_fits (value.Own v) z a = omega (arith, a)
    top_fits (value.SharedSlot i) z a = a
    top_fits (value.MutSlot i) z a = a
    top_fits (value.Shared r) z a = omega (arith, a)
    top_fits (value.Mut r) z a = omega (arith, a)

    put_fits : (s : Spot) (v : Value) (h : Hand) → Lies s v → Fits w v → Of F h → Gives (Of F) (put_at s v h)
    put_fits (in_slot i) v h z k g =
        let mine = g.1 in
        let fit = mine.fit in
        test_gives (Of F) (nat_lt i (length h.thread.slots)) _ (λ on. slots_put (slice_set h.thread.slots i v) h (all_set (Fits w) h.thread.slots i v fit.slots_fit k) g)
    put_fits on_top v h z k g =
        let mine = g.1 in
        let fit = mine.fit in
        temps_put (front_of h.thread.temps ++ v ∷ []) h (all_append (TempFits w) (front_of h.thread.temps) (v ∷ []) (all_take (TempFits w) _ h.thread.temps fit.temps_fit) (top_fits v z k, tt)) g
    put_fits (in_cell u through) (value.Own v) h z k g =
        test_gives (Of F) (leads_here h.work.rest.partition u) _ (λ on. noted through (working (with_partition (stored h.work.rest.partition u v)) h) (with_value_at u v h.work.rest k g.0, g.1))
    put_fits (in_cell u through) value.Gone h z k g = tt
    put_fits (in_cell u through) (value.SharedSlot i) h z k g = tt
    put_fits (in_cell u through) (value.MutSlot i) h z k g = tt
    put_fits (in_cell u through) (value.Shared i) h z k g = tt
    put_fits (in_cell u through) (value.Mut i) h z k g = tt
    put_fits (in_cell u through) (value.Held i) h z k g = tt
    put_fits (in_copy u) v h z k g = tt
    put_fits nowhere v h z k g = tt

    pub places : Places F (Fits w) (WordFits w)
    places = record {
      spot = spot_fits;
      puts = put_fits;
      worded = worded_fits w;
      word_of = λ r a. omega (arith, a);
      points = pointer_fits w;
    }

    -- it waits for something else
    pub phased : (p : Phase) (h : Hand) → phase_word w.word p + phase_thread w.thread p + phase_mutex w.mutex p ≡ 0 → Of F h → Of F (with_phase p h)
    phased p h a g =
        let mine = g.1 in
        let fit = mine.fit in
        (g.0, record { fit = record { named = fit.named; made_so = fit.made_so; waits = a; given = fit.given; walks = fit.walks; slots_fit = fit.slots_fit; temps_fit = fit.temps_fit }; same = mine.same; as_many = mine.as_many })

    -- it uses a word more
    pub walked : (u : ℕ) (h : Hand) → WordFits w u → Of F h → F h.work.rest (record h.thread { walk = h.thread.walk ++ u ∷ [] })
    walked u h a g =
        let mine = g.1 in
        let fit = mine.fit in
        (g.0, record { fit = record { named = fit.named; made_so = fit.made_so; waits = fit.waits; given = fit.given; walks = all_append (WordFits w) h.thread.walk (u ∷ []) fit.walks (a, tt); slots_fit = fit.slots_fit; temps_fit = fit.temps_fit }; same = mine.same; as_many = mine.as_many })

    -- it has a gift, or none
    pub gifted : (x : Option Owned) (h : Hand) → Gives (OwnedFits w) x → Of F h → F h.work.rest (record h.thread { gift = x })
    gifted x h a g =
        let mine = g.1 in
        let fit = mine.fit in
        (g.0, record { fit = record { named = fit.named; made_so = fit.made_so; waits = fit.waits; given = a; walks = fit.walks; slots_fit = fit.slots_fit; temps_fit = fit.temps_fit }; same = mine.same; as_many = mine.as_many })

    -- a copy has so many users
    pub used : (u n : ℕ) (h : Hand) → Of F h → Of F (working (with_cache (with_users h.work.rest.cache u n)) h)
    used u n h g = let kept = g.0 in let rest = kept.0 in (with_copies (with_users h.work.rest.cache u n) h.work.rest (users_fit w h.work.rest.cache u n rest.copies) g.0, g.1)

    pub pinned_word : (u : ℕ) (h : Hand) → can_pin h.work.rest.cache u ≡ true → Of F h → WordFits w u
    pinned_word u h e g = let kept = g.0 in let rest = kept.0 in cached_fits w h.work.rest.cache u (and_left (is_cached h.work.rest.cache u) (nat_lt (users h.work.rest.cache u) (2 ^ 64 - 1)) e) rest.copies

    -- a thread begins to be in the hand
    pub taken_up : (r : Rest) → Kept r → ThreadFits w y → F r y
    taken_up r a t = (a, record { fit = t.0; same = refl; as_many = refl })
