-- A server and the thread in the hand of an event, in the middle of it: what stands where fits, and so does what is put.
use Rattle.std.proofs.Common.{◌≡◌, ℕ, ◌+◌, ◌-◌, ◌^◌, ◌==◌, Bool, true, false, nat_lt, if◌then◌else◌, List, [], ◌∷◌, ◌++◌, length, Option, Some, None, refl, subst, ◌∙◌, arith}
use Rattle.std.specs.Prelude.{slice_get, slice_set}
use Rattle.std.specs.List.{AllByRecursion}
use Rattle.law_counts_things.specs.Below.fr_base.declared.name.ObjNo.{ObjNo}
use Rattle.law_counts_things.specs.Below.fr_base.declared.place.Lval.{Lval}
use Rattle.law_counts_things.specs.Below.fr_base.declared.release.Released.TheVariants as released
use Rattle.law_counts_things.specs.Below.global_addr.Words.{address_of}
use Rattle.law_counts_things.specs.Below.heap_partition.declared.value.BoxPtr.{BoxPtr}
use Rattle.law_counts_things.specs.Below.heap_partition.declared.value.Cell.{Cell}
use Rattle.law_counts_things.specs.Below.heap_partition.declared.value.Owned.{Owned}
use Rattle.law_counts_things.specs.Below.heap_partition.declared.value.Owned.TheVariants as owned
use Rattle.law_counts_things.specs.Below.owner_box.View.{PartitionState}
use Rattle.law_counts_things.specs.Below.owner_box.Partition.{stored}
use Rattle.law_counts_things.specs.Below.read_cache.Cache.{Copy, copy_of, cell_in, is_cached, users, can_pin, with_users}
use Rattle.law_counts_things.specs.Below.thread_state.View.{ThreadState}
use Rattle.law_counts_things.specs.Below.thread_state.declared.phase.Phase.{Phase}
use Rattle.law_counts_things.specs.Below.thread_state.declared.phase.Phase.TheVariants as phase
use Rattle.law_counts_things.specs.Below.thread_state.declared.value.Value.{Value}
use Rattle.law_counts_things.specs.Below.thread_state.declared.value.Value.TheVariants as value
use Rattle.law_counts_things.specs.Below.server_msgs.declared.message.Message.{Message}
use Rattle.law_counts_things.specs.Below.server_msgs.declared.message.Message.TheVariants as message
use Rattle.law_counts_things.specs.Below.server_model.Servers.{Rest}
use Rattle.law_counts_things.specs.Below.server_model.Work.{Work, Hand, with_partition, with_cache, with_phase, look, leads_here, look_object, sent_from, working, with_slots, front_of}
use Rattle.law_counts_things.specs.Below.server_model.Places.{Spot, in_slot, on_top, in_cell, in_copy, nowhere, value_in, value_at, written, note_slot, note_write, put_at, pointer_of, with_word, second_of, owns_nothing}
use Rattle.law_counts_things.specs.Below.server_model.Start.{captured, left_after, capture_from, capture}
use Rattle.law_counts_things.specs.Below.server_model.Commit.{shared_from, lent_word, mutable_from}
use Rattle.law_counts_things.specs.Below.server_model.Drop.{give_up}
use Rattle.law_counts_things.specs.Below.coherent_memory.Placing.{phase_word}
use Rattle.law_counts_things.specs.Below.coherent_memory.Naming.{phase_thread}
use Rattle.law_counts_things.specs.Below.coherent_memory.Sharing.{phase_mutex}
use Rattle.law_counts_things.proofs.Below.coherent_memory.Names.{and_left, same_number}
use Rattle.law_counts_things.specs.Below.law_counts_sums.Laws.{Gives}
use Rattle.law_counts_things.proofs.Below.law_counts_sums.Results.{then_gives, test_gives}
use Rattle.law_counts_things.proofs.Below.law_counts_sums.Cells.{looked}
use Rattle.law_counts_things.proofs.Below.law_counts_sums.ObjectMessages.{looked_object}
use Rattle.law_counts_things.proofs.Below.law_counts_sums.Known.{all_at, all_set, all_append, all_take}
use Rattle.law_counts_things.proofs.things.Small.{Of, Lies, Places}
use Rattle.law_counts_things.proofs.names.Fit.{Weights, Closed, OwnedFits, Fits, TempFits, WordFits, CellFits, CopyFits, owned_temp, temp_fits, ThreadFit, ThreadFits, MessageFits, SentFits, PartitionFit, stored_fits, copy_fits, cached_fits, users_fit, Base, RestFits}

some_same : {X : Type 0} {a b : X} → Some a ≡ Some b → a ≡ b
some_same e = cc

-- the thread in the hand: the one that it was, with what it names
pub record Mine (w : Weights) (y : ThreadState) (number made : ℕ) (p : Phase) (gift : Option Owned) (walk : List ℕ) (slots temps : List Value) : Type 0 where
  pub fit : ThreadFit w number made p gift walk slots temps
  pub same : number ≡ y.number
  pub as_many : made ≡ y.made

abbrev pub IsMine : Weights → ThreadState → ThreadState → Type 0
IsMine w y t = Mine w y t.number t.made t.phase t.gift t.walk t.slots t.temps

module _ (w : Weights) where
  -- VALUES

  pub second_fits : (v u : Value) → Fits w v → second_of v ≡ Some u → TempFits w u
  second_fits (value.Own v) u a e = by (owns_nothing v) e
    where
      by : (b : Bool) → (if b then Some (value.Own v) else None) ≡ Some u → TempFits w u
      by true d = subst (TempFits w) (some_same d) (owned_temp w v a)
      by false d = absurd (cc d)
  second_fits (value.SharedSlot i) u a e = subst (TempFits w) (some_same e) refl
  second_fits (value.Shared r) u a e = subst (TempFits w) (some_same e) (omega (arith, a))
  second_fits value.Gone u a e = absurd (cc e)
  second_fits (value.MutSlot i) u a e = absurd (cc e)
  second_fits (value.Mut r) u a e = absurd (cc e)
  second_fits (value.Held m) u a e = absurd (cc e)

  pub shared_fits : (v u : Value) → Fits w v → shared_from v ≡ Some u → TempFits w u
  shared_fits (value.SharedSlot i) u a e = subst (TempFits w) (some_same e) refl
  shared_fits (value.MutSlot i) u a e = subst (TempFits w) (some_same e) refl
  shared_fits (value.Own (owned.Box p)) u a e = subst (TempFits w) (some_same e) (omega (arith, a))
  shared_fits (value.Shared r) u a e = subst (TempFits w) (some_same e) (omega (arith, a))
  shared_fits (value.Mut r) u a e = subst (TempFits w) (some_same e) (omega (arith, a))
  shared_fits (value.Own owned.Nothing) u a e = absurd (cc e)
  shared_fits (value.Own owned.Unit) u a e = absurd (cc e)
  shared_fits (value.Own (owned.Int n)) u a e = absurd (cc e)
  shared_fits (value.Own (owned.Mutex m)) u a e = absurd (cc e)
  shared_fits (value.Own (owned.Task t)) u a e = absurd (cc e)
  shared_fits value.Gone u a e = absurd (cc e)
  shared_fits (value.Held m) u a e = absurd (cc e)

  -- the phase has a word where an object was taken
  lent_ref : (p : Phase) (x : ℕ) (o : ObjNo) (d : Bool) (h : Lval) → w.word x ≡ 0 → w.thread o.thread ≡ 0 → w.holder h.depth ≡ 0 → phase_word w.word p ≡ 0
      → TempFits w (value.Mut (lent_word p (record { word = x; first = x; object = o; dirty = d; holder = h })))
  lent_ref (phase.Taken v) x o d h a b c e = omega (arith, a, b, c, e)
  lent_ref phase.Ready x o d h a b c e = omega (arith, a, b, c)
  lent_ref (phase.WaitCell v) x o d h a b c e = omega (arith, a, b, c)
  lent_ref phase.Got x o d h a b c e = omega (arith, a, b, c)
  lent_ref (phase.WaitLock m) x o d h a b c e = omega (arith, a, b, c)
  lent_ref (phase.WaitDup m) x o d h a b c e = omega (arith, a, b, c)
  lent_ref (phase.WaitJoin t) x o d h a b c e = omega (arith, a, b, c)
  lent_ref (phase.WaitPar s t) x o d h a b c e = omega (arith, a, b, c)
  lent_ref (phase.GotPar s t) x o d h a b c e = omega (arith, a, b, c)
  lent_ref phase.Over x o d h a b c e = omega (arith, a, b, c)

  pub lent_fits : (p : Phase) (h : Lval) (v u : Value) → phase_word w.word p ≡ 0 → w.holder h.depth ≡ 0 → Fits w v → mutable_from p h v ≡ Some u → TempFits w u
  lent_fits p h (value.MutSlot i) u q d a e = subst (TempFits w) (some_same e) refl
  lent_fits p h (value.Own (owned.Box b)) u q d a e = subst (TempFits w) (some_same e) (lent_ref p b.word b.object false h (omega (arith, a)) (omega (arith, a)) d q)
  lent_fits p h (value.Mut r) u q d a e = subst (TempFits w) (some_same e) (lent_ref p r.word r.object r.dirty h (omega (arith, a)) (omega (arith, a)) d q)
  lent_fits p h (value.Own owned.Nothing) u q d a e = absurd (cc e)
  lent_fits p h (value.Own owned.Unit) u q d a e = absurd (cc e)
  lent_fits p h (value.Own (owned.Int n)) u q d a e = absurd (cc e)
  lent_fits p h (value.Own (owned.Mutex m)) u q d a e = absurd (cc e)
  lent_fits p h (value.Own (owned.Task t)) u q d a e = absurd (cc e)
  lent_fits p h value.Gone u q d a e = absurd (cc e)
  lent_fits p h (value.SharedSlot i) u q d a e = absurd (cc e)
  lent_fits p h (value.Shared r) u q d a e = absurd (cc e)
  lent_fits p h (value.Held m) u q d a e = absurd (cc e)

  -- POINTERS

  worded_fits : (x : ℕ) (v new : Value) → WordFits w x → Fits w v → with_word x v ≡ Some new → Fits w new
  worded_fits x (value.Own (owned.Box b)) new k a e = subst (Fits w) (some_same e) (omega (arith, k, a))
  worded_fits x (value.Mut r) new k a e = subst (Fits w) (some_same e) (omega (arith, k, a))
  worded_fits x (value.Own owned.Nothing) new k a e = absurd (cc e)
  worded_fits x (value.Own owned.Unit) new k a e = absurd (cc e)
  worded_fits x (value.Own (owned.Int n)) new k a e = absurd (cc e)
  worded_fits x (value.Own (owned.Mutex m)) new k a e = absurd (cc e)
  worded_fits x (value.Own (owned.Task t)) new k a e = absurd (cc e)
  worded_fits x value.Gone new k a e = absurd (cc e)
  worded_fits x (value.SharedSlot i) new k a e = absurd (cc e)
  worded_fits x (value.MutSlot i) new k a e = absurd (cc e)
  worded_fits x (value.Shared r) new k a e = absurd (cc e)
  worded_fits x (value.Held m) new k a e = absurd (cc e)

  pointer_fits : (v : Value) (p : BoxPtr) → Fits w v → pointer_of v ≡ Some p → Fits w (value.Own (owned.Box p))
  pointer_fits (value.Own (owned.Box b)) p a e = subst (λ q. Fits w (value.Own (owned.Box q))) (some_same e) a
  pointer_fits (value.Shared r) p a e = subst (λ q. Fits w (value.Own (owned.Box q))) (some_same e) (omega (arith, a))
  pointer_fits (value.Mut r) p a e = subst (λ q. Fits w (value.Own (owned.Box q))) (some_same e) (omega (arith, a))
  pointer_fits (value.Own owned.Nothing) p a e = absurd (cc e)
  pointer_fits (value.Own owned.Unit) p a e = absurd (cc e)
  pointer_fits (value.Own (owned.Int n)) p a e = absurd (cc e)
  pointer_fits (value.Own (owned.Mutex m)) p a e = absurd (cc e)
  pointer_fits (value.Own (owned.Task t)) p a e = absurd (cc e)
  pointer_fits value.Gone p a e = absurd (cc e)
  pointer_fits (value.SharedSlot i) p a e = absurd (cc e)
  pointer_fits (value.MutSlot i) p a e = absurd (cc e)
  pointer_fits (value.Held m) p a e = absurd (cc e)

  -- CAPTURES

  captured_fits : (branch moves : Bool) (v u : Value) → captured branch moves v ≡ Some u → Fits w v → Fits w u
  captured_fits branch true (value.Own v) u e a = subst (Fits w) (some_same e) a
  captured_fits branch false (value.Own v) u e a = temp_fits w u (second_fits (value.Own v) u a e)
  captured_fits true false (value.Shared r) u e a = temp_fits w u (second_fits (value.Shared r) u a e)
  captured_fits false false (value.Shared r) u e a = absurd (cc e)
  captured_fits branch true (value.Shared r) u e a = absurd (cc e)
  captured_fits branch true value.Gone u e a = absurd (cc e)
  captured_fits branch true (value.SharedSlot i) u e a = absurd (cc e)
  captured_fits branch true (value.MutSlot i) u e a = absurd (cc e)
  captured_fits branch true (value.Mut r) u e a = absurd (cc e)
  captured_fits branch true (value.Held m) u e a = absurd (cc e)
  captured_fits branch false value.Gone u e a = absurd (cc e)
  captured_fits branch false (value.SharedSlot i) u e a = absurd (cc e)
  captured_fits branch false (value.MutSlot i) u e a = absurd (cc e)
  captured_fits branch false (value.Mut r) u e a = absurd (cc e)
  captured_fits branch false (value.Held m) u e a = absurd (cc e)

  abbrev pub BothFit : List Value × List Value → Type 0
  BothFit p = AllByRecursion (Fits w) p.0 × AllByRecursion (Fits w) p.1

  left_fits : (moves : Bool) (slots : List Value) (i : ℕ) → AllByRecursion (Fits w) slots → AllByRecursion (Fits w) (left_after moves slots i)
  left_fits true slots i a = all_set (Fits w) slots i value.Gone a refl
  left_fits false slots i a = a

  captures_fit : (branch : Bool) (cs : List (ℕ × Bool)) (new slots : List Value) → AllByRecursion (Fits w) new → AllByRecursion (Fits w) slots → Gives BothFit (capture_from branch new cs slots)
  captures_fit branch [] new slots a b = (a, b)
  captures_fit branch (c ∷ cs) new slots a b =
      then_gives BothFit (slice_get slots c.0) _ (λ v q. then_gives BothFit (captured branch c.1 v) _ (λ u e.
      captures_fit branch cs (new ++ u ∷ []) (left_after c.1 slots c.0) (all_append (Fits w) new (u ∷ []) a (captured_fits branch c.1 v u e (all_at (Fits w) slots c.0 v b q), tt)) (left_fits c.1 slots c.0 b)))

  pub capture_fits : (branch : Bool) (cs : List (ℕ × Bool)) (slots : List Value) → AllByRecursion (Fits w) slots → Gives BothFit (capture branch cs slots)
  capture_fits branch cs slots b = captures_fit branch cs [] slots tt b

  -- CELLS

  pub looked_fits : (p : PartitionState) (x : ℕ) → AllByRecursion (Gives (CellFits w)) p.cells → Gives (CellFits w) (look p x)
  looked_fits p x a = by (look p x) refl
    where
      by : (c : Option Cell) → look p x ≡ c → Gives (CellFits w) c
      by None q = tt
      by (Some c) q = all_at (Gives (CellFits w)) p.cells (address_of x) (Some c) a (looked p x c q)

  pub object_fits : (p : PartitionState) (x : ℕ) (o : ObjNo) (c : Cell) → look_object p x o ≡ Some c → AllByRecursion (Gives (CellFits w)) p.cells → CellFits w c
  object_fits p x o c q a = subst (Gives (CellFits w)) (looked_object p x o c q).0 (looked_fits p x a)

-- THE HAND

module _ (w : Weights) (b : Base) (closed : Closed w b.limit) where
  -- one message more
  pub says_fits : (t : ℕ) (m : Message) (r : Rest) → MessageFits w t m → RestFits w b r → RestFits w b (sent_from r t m)
  says_fits t m r a g = by (t == r.number) refl
    where
      by : (q : Bool) → (t == r.number) ≡ q → RestFits w b (if q then record r { inbox = r.inbox ++ m ∷ [] } else record r { outbox = r.outbox ++ record { target = t; message = m } ∷ [] })
      by true e = record { numbered = g.numbered; begun = g.begun; made_so = g.made_so; homed = g.homed; partition = g.partition; copies = g.copies; mutexes = g.mutexes; tasks = g.tasks; waiting = all_append (MessageFits w b.number) r.inbox (m ∷ []) g.waiting (subst (λ x. MessageFits w x m) (same_number t r.number e ∙ g.numbered) a, tt); leaving = g.leaving }
      by false e = record { numbered = g.numbered; begun = g.begun; made_so = g.made_so; homed = g.homed; partition = g.partition; copies = g.copies; mutexes = g.mutexes; tasks = g.tasks; waiting = g.waiting; leaving = all_append (SentFits w) r.outbox (record { target = t; message = m } ∷ []) g.leaving (a, tt) }

  pub with_copies : (cs : List Copy) (r : Rest) → AllByRecursion (CopyFits w) cs → RestFits w b r → RestFits w b (record r { cache = cs })
  with_copies cs r a g = record { numbered = g.numbered; begun = g.begun; made_so = g.made_so; homed = g.homed; partition = g.partition; copies = a; mutexes = g.mutexes; tasks = g.tasks; waiting = g.waiting; leaving = g.leaving }

  pub with_cells : (p : PartitionState) (r : Rest) → PartitionFit w b.limit p → RestFits w b r → RestFits w b (record r { partition = p })
  with_cells p r a g = record { numbered = g.numbered; begun = g.begun; made_so = g.made_so; homed = g.homed; partition = a; copies = g.copies; mutexes = g.mutexes; tasks = g.tasks; waiting = g.waiting; leaving = g.leaving }

  -- what is let go
  pub gives_up : (v : Owned) (x : Work) → OwnedFits w v → RestFits w b x.rest → RestFits w b (give_up v x).rest
  gives_up (owned.Box p) x a g = says_fits _ (message.Drop p.word p.object) x.rest (omega (arith, a)) g
  gives_up (owned.Mutex m) x a g = says_fits _ (message.Release (released.Mutex m)) x.rest (omega (arith, a)) g
  gives_up (owned.Task t) x a g = says_fits _ (message.Release (released.Task t)) x.rest (omega (arith, a)) g
  gives_up owned.Nothing x a g = g
  gives_up owned.Unit x a g = g
  gives_up (owned.Int n) x a g = g

  module _ (y : ThreadState) where
    abbrev pub F : Rest → ThreadState → Type 0
    F r t = RestFits w b r × IsMine w y t

    in_fits : (c : Option Cell) (v : Value) → Gives (CellFits w) c → value_in c ≡ Some v → Fits w v
    in_fits None v k e = absurd (cc e)
    in_fits (Some c) v k e = subst (Fits w) (some_same e) (omega (arith, k))

    copied_fits : (c : Option Copy) (u : ℕ) (v : Value) → Gives (λ (d : Copy). CopyFits w d × WordFits w u) c → value_in (cell_in c) ≡ Some v → Fits w v
    copied_fits None u v k e = absurd (cc e)
    copied_fits (Some c) u v k e = subst (Fits w) (some_same e) (omega (arith, k.0))

    pub spot_fits : (s : Spot) (v : Value) (h : Hand) → Of F h → value_at h s ≡ Some v → Fits w v
    spot_fits (in_slot i) v h g e = let mine = g.1 in let fit = mine.fit in all_at (Fits w) h.thread.slots i v fit.slots_fit e
    spot_fits on_top v h g e = let mine = g.1 in let fit = mine.fit in temp_fits w v (all_at (TempFits w) h.thread.temps _ v fit.temps_fit e)
    spot_fits (in_cell u through) v h g e = let rest = g.0 in let part = rest.partition in in_fits (look h.work.rest.partition u) v (looked_fits w h.work.rest.partition u part.cells_fit) e
    spot_fits (in_copy u) v h g e = let rest = g.0 in copied_fits (copy_of h.work.rest.cache u) u v (copy_fits w h.work.rest.cache u rest.copies) e
    spot_fits nowhere v h g e = absurd (cc e)

    pub slots_put : (vs : List Value) (h : Hand) → AllByRecursion (Fits w) vs → Of F h → Of F (with_slots vs h)
    slots_put vs h a g =
        let mine = g.1 in
        let fit = mine.fit in
        (g.0, record { fit = record { named = fit.named; made_so = fit.made_so; waits = fit.waits; given = fit.given; walks = fit.walks; slots_fit = a; temps_fit = fit.temps_fit }; same = mine.same; as_many = mine.as_many })

    pub temps_put : (vs : List Value) (h : Hand) → AllByRecursion (TempFits w) vs → Of F h → F h.work.rest (record h.thread { temps = vs })
    temps_put vs h a g =
        let mine = g.1 in
        let fit = mine.fit in
        (g.0, record { fit = record { named = fit.named; made_so = fit.made_so; waits = fit.waits; given = fit.given; walks = fit.walks; slots_fit = fit.slots_fit; temps_fit = a }; same = mine.same; as_many = mine.as_many })

    written_fits : (v : Value) → Fits w v → Fits w (written v)
    written_fits (value.Mut r) k = k
    written_fits value.Gone k = k
    written_fits (value.Own v) k = k
    written_fits (value.SharedSlot i) k = k
    written_fits (value.MutSlot i) k = k
    written_fits (value.Shared r) k = k
    written_fits (value.Held m) k = k

    noted : (through : Option ℕ) (h : Hand) → Of F h → Of F (note_write through h)
    noted None h g = g
    noted (Some i) h g = by (slice_get h.thread.slots i) refl
      where
        by : (o : Option Value) → slice_get h.thread.slots i ≡ o → Of F (with_slots (note_slot h.thread.slots i o) h)
        by None q = g
        by (Some v) q =
            let mine = g.1 in
            let fit = mine.fit in
            slots_put (slice_set h.thread.slots i (written v)) h (all_set (Fits w) h.thread.slots i (written v) fit.slots_fit (written_fits v (all_at (Fits w) h.thread.slots i v fit.slots_fit q))) g

    -- what may lie on top of the temporary values
    top_fits : (v : Value) → Lies on_top v → Fits w v → TempFits w v
    top_fits (value.Held m) z a = absurd z
    top_fits value.Gone z a = a
    top_fits (value.Own v) z a = omega (arith, a)
    top_fits (value.SharedSlot i) z a = a
    top_fits (value.MutSlot i) z a = a
    top_fits (value.Shared r) z a = omega (arith, a)
    top_fits (value.Mut r) z a = omega (arith, a)

    put_fits : (s : Spot) (v : Value) (h : Hand) → Lies s v → Fits w v → Of F h → Gives (Of F) (put_at s v h)
    put_fits (in_slot i) v h z k g =
        let mine = g.1 in
        let fit = mine.fit in
        test_gives (Of F) (nat_lt i (length h.thread.slots)) _ (λ on. slots_put (slice_set h.thread.slots i v) h (all_set (Fits w) h.thread.slots i v fit.slots_fit k) g)
    put_fits on_top v h z k g =
        let mine = g.1 in
        let fit = mine.fit in
        temps_put (front_of h.thread.temps ++ v ∷ []) h (all_append (TempFits w) (front_of h.thread.temps) (v ∷ []) (all_take (TempFits w) _ h.thread.temps fit.temps_fit) (top_fits v z k, tt)) g
    put_fits (in_cell u through) (value.Own v) h z k g =
        let rest = g.0 in
        test_gives (Of F) (leads_here h.work.rest.partition u) _ (λ on. noted through (working (with_partition (stored h.work.rest.partition u v)) h) (
          with_cells (stored h.work.rest.partition u v) h.work.rest (stored_fits w b.limit closed h.work.rest.partition u v k rest.partition) rest,
          g.1,
        ))
    put_fits (in_cell u through) value.Gone h z k g = tt
    put_fits (in_cell u through) (value.SharedSlot i) h z k g = tt
    put_fits (in_cell u through) (value.MutSlot i) h z k g = tt
    put_fits (in_cell u through) (value.Shared i) h z k g = tt
    put_fits (in_cell u through) (value.Mut i) h z k g = tt
    put_fits (in_cell u through) (value.Held i) h z k g = tt
    put_fits (in_copy u) v h z k g = tt
    put_fits nowhere v h z k g = tt

    pub places : Places F (Fits w) (WordFits w)
    places = record {
      spot = spot_fits;
      puts = put_fits;
      worded = worded_fits w;
      word_of = λ r a. omega (arith, a);
      points = pointer_fits w;
    }

    -- it waits for something else
    pub phased : (p : Phase) (h : Hand) → phase_word w.word p + phase_thread w.thread p + phase_mutex w.mutex p ≡ 0 → Of F h → Of F (with_phase p h)
    phased p h a g =
        let mine = g.1 in
        let fit = mine.fit in
        (g.0, record { fit = record { named = fit.named; made_so = fit.made_so; waits = a; given = fit.given; walks = fit.walks; slots_fit = fit.slots_fit; temps_fit = fit.temps_fit }; same = mine.same; as_many = mine.as_many })

    -- it uses a word more
    pub walked : (u : ℕ) (h : Hand) → WordFits w u → Of F h → F h.work.rest (record h.thread { walk = h.thread.walk ++ u ∷ [] })
    walked u h a g =
        let mine = g.1 in
        let fit = mine.fit in
        (g.0, record { fit = record { named = fit.named; made_so = fit.made_so; waits = fit.waits; given = fit.given; walks = all_append (WordFits w) h.thread.walk (u ∷ []) fit.walks (a, tt); slots_fit = fit.slots_fit; temps_fit = fit.temps_fit }; same = mine.same; as_many = mine.as_many })

    -- it has a gift, or none
    pub gifted : (x : Option Owned) (h : Hand) → Gives (OwnedFits w) x → Of F h → F h.work.rest (record h.thread { gift = x })
    gifted x h a g =
        let mine = g.1 in
        let fit = mine.fit in
        (g.0, record { fit = record { named = fit.named; made_so = fit.made_so; waits = fit.waits; given = a; walks = fit.walks; slots_fit = fit.slots_fit; temps_fit = fit.temps_fit }; same = mine.same; as_many = mine.as_many })

    -- a copy has so many users
    pub used : (u n : ℕ) (h : Hand) → Of F h → Of F (working (with_cache (with_users h.work.rest.cache u n)) h)
    used u n h g = let rest = g.0 in (with_copies (with_users h.work.rest.cache u n) h.work.rest (users_fit w h.work.rest.cache u n rest.copies) rest, g.1)

    pub pinned_word : (u : ℕ) (h : Hand) → can_pin h.work.rest.cache u ≡ true → Of F h → WordFits w u
    pinned_word u h e g = let rest = g.0 in cached_fits w h.work.rest.cache u (and_left (is_cached h.work.rest.cache u) (nat_lt (users h.work.rest.cache u) (2 ^ 64 - 1)) e) rest.copies

    -- a thread begins to be in the hand
    pub taken_up : (r : Rest) → RestFits w b r → ThreadFits w y → F r y
    taken_up r a t = (a, record { fit = t.0; same = refl; as_many = refl })
