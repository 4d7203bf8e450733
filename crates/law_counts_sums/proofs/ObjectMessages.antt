-- Messages about objects: what each delivery keeps.
use Rattle.std.proofs.Common.{◌≡◌, ℕ, zero, suc, ◌+◌, ◌-◌, ◌==◌, Bool, true, false, if◌then◌else◌, List, [], ◌∷◌, ◌++◌, Option, Some, None, refl, subst, ◌∙◌, arith}
use Rattle.std.specs.Prelude.{slice_get}
use Rattle.coherent_memory.specs.Below.fr_base.declared.instruction.Instr.{Instr}
use Rattle.coherent_memory.specs.Below.fr_base.declared.name.ObjNo.{ObjNo}
use Rattle.coherent_memory.specs.Below.fr_base.declared.place.Lval.{Lval}
use Rattle.coherent_memory.proofs.Below.fr_store.Keys.{object_cases}
use Rattle.coherent_memory.specs.Below.fr_base.Names.{same_object}
use Rattle.coherent_memory.specs.Below.heap_partition.declared.value.Cell.{Cell}
use Rattle.coherent_memory.specs.Below.owner_box.View.{PartitionState}
use Rattle.coherent_memory.specs.Below.owner_box.Partition.{freed, made, new_word}
use Rattle.coherent_memory.specs.Below.read_cache.Cache.{can_fill, fill}
use Rattle.coherent_memory.specs.Below.thread_state.declared.phase.Phase.TheVariants as phase
use Rattle.coherent_memory.specs.Below.thread_state.declared.value.Value.{Value}
use Rattle.coherent_memory.specs.Below.thread_state.declared.value.Value.TheVariants as value
use Rattle.coherent_memory.specs.Below.server_msgs.declared.message.Message.{Message}
use Rattle.coherent_memory.specs.Below.server_msgs.declared.message.Message.TheVariants as message
use Rattle.coherent_memory.specs.Below.journal.declared.act.Act.TheVariants as act
use Rattle.coherent_memory.specs.Below.server_model.Work.{Work, Hand, note, with_partition, with_cache, with_phase, working, look, look_object, then_some}
use Rattle.coherent_memory.specs.Below.server_model.NewWords.{NewWord, can_grow, issue_placed}
use Rattle.coherent_memory.specs.Below.server_model.Places.{Spot, in_slot, value_at, set_pointer}
use Rattle.coherent_memory.specs.Below.server_model.Prepare.{Access, ReadTo, ReadPointer, WriteTo, LendTo, EndRef, passing, write_stars}
use Rattle.coherent_memory.specs.Below.server_model.Objects.{deliver_fetch, filled, waits_for_cell, deliver_fetched, deliver_move, chased, waits_under, arrived_at, arrived_slot, passed_spot, arrived_write, arrived_lend, arrived_end, arrived, instr_access, deliver_moved, deliver_drop}
use Rattle.coherent_memory.specs.Things.{Thing, in_hand, holds, flies, sent, thread_things}
use Rattle.law_counts_sums.specs.Laws.{Gives}
use Rattle.law_counts_sums.proofs.Trades.{tot-append, trade_none}
use Rattle.law_counts_sums.proofs.Rules.{Rule, buries, sends, receives, beside, in_turn, turned, is_plain, Kept}
use Rattle.law_counts_sums.proofs.Results.{then_gives, map_gives, test_gives, bind_gives, over_gives}
use Rattle.law_counts_sums.proofs.Bags.{WorkOk, HandOk, rest_things}
use Rattle.law_counts_sums.proofs.Chains.{work_trades, work_sends, beside_hand, to_hand, phase_changes, thread_changes}
use Rattle.law_counts_sums.proofs.Objects.{leaves_keeps, comes_keeps, one_goes}
use Rattle.law_counts_sums.proofs.Uses.{fills_keep, gives_up, uses_word, on_work}
use Rattle.law_counts_sums.proofs.Pointers.{sets_pointer}

-- the object that is looked for lies there
pub looked_object : (p : PartitionState) (w : ℕ) (o : ObjNo) (c : Cell) → look_object p w o ≡ Some c → (look p w ≡ Some c) × (c.object ≡ o)
looked_object p w o c q = by (look p w) refl q
  where
    by : (x : Option Cell) → look p w ≡ x → then_some x (λ d. if same_object d.object o then Some d else None) ≡ Some c → (look p w ≡ Some c) × (c.object ≡ o)
    by None a b = absurd (cc b)
    by (Some d) a b =
        object_cases (λ z. (if z then Some d else None) ≡ Some c → (look p w ≡ Some c) × (c.object ≡ o)) d.object o
        (λ s y. let same : d ≡ c = cc in (a ∙ y, subst (λ (z : Cell). z.object ≡ o) same s)) (λ ne y. absurd (cc y)) b

module _ {K : List Thing → Type 0} (k : Kept K) (n e : ℕ) where
  -- a message that owns nothing goes from the hand
  pub message_goes : (others : List Thing) (t : ℕ) (m : Message) (x : Work) → is_plain m ≡ true → WorkOk K n e (sent t m ∷ others) x → WorkOk K n e others x
  message_goes others t m x plain g = work_trades k n e x x refl (trade_none (rest_things n e x.rest)) (one_goes (sent t m) others) (receives t m plain) g

  -- COPIES

  pub fetches : (others : List Thing) (w : ℕ) (o : ObjNo) (s t : ℕ) (x : Work) → WorkOk K n e others x → Gives (WorkOk K n e others) (deliver_fetch w o s t x)
  fetches others w o s t x g =
      map_gives (WorkOk K n e others) (look_object x.rest.partition w o) _ (λ c q.
      work_sends k n e others (note (act.Serve o w s) x) s (message.Fetched w c t) (trade_none others) (sends s (message.Fetched w c t) refl) (record { number = g.number; bag = g.bag }))

  -- OBJECTS THAT LEAVE

  -- what flies from the hand into a message
  flying_rule : (s w t : ℕ) (c : Cell) → Rule (flies w c ∷ []) (sent s (message.Moved w c t) ∷ flies w c ∷ [])
  flying_rule s w t c = beside (sends s (message.Moved w c t) refl) (turned (flies w c ∷ []) (flies w c ∷ []) (λ f. refl))

  pub moves_away : (others : List Thing) (w : ℕ) (o : ObjNo) (s t : ℕ) (x : Work) → WorkOk K n e others x → Gives (WorkOk K n e others) (deliver_move w o s t x)
  moves_away others w o s t x g =
      map_gives (WorkOk K n e others) (look_object x.rest.partition w o) _ (λ c q.
      let left = leaves_keeps k n e others x w c (looked_object x.rest.partition w o c q).0 g in
      work_sends k n e (flies w c ∷ others) (note (act.Give o w s) (with_partition (freed x.rest.partition w) x)) s (message.Moved w c t) (one_goes (flies w c) others) (flying_rule s w t c) (record { number = left.number; bag = left.bag }))

  -- OBJECTS THAT GO

  buries_keep : (others : List Thing) (s w : ℕ) (o : ObjNo) (c : Cell) (x : Work) → c.object ≡ o → WorkOk K n e (flies w c ∷ sent s (message.Drop w o) ∷ others) x → WorkOk K n e (holds in_hand c.value ∷ others) x
  buries_keep others s w o c x named g =
      work_trades k n e x x refl (trade_none (rest_things n e x.rest))
      (record { rest = others; before = λ f. omega arith; after = λ f. omega arith })
      (in_turn (turned (flies w c ∷ sent s (message.Drop w o) ∷ []) (sent s (message.Drop w o) ∷ flies w c ∷ []) (λ f. omega arith))
      (subst (λ p. Rule (sent s (message.Drop w p) ∷ flies w c ∷ []) (holds in_hand c.value ∷ [])) named (buries s w w c in_hand))) g

  pub drops_object : (others : List Thing) (s w : ℕ) (o : ObjNo) (x : Work) → WorkOk K n e (sent s (message.Drop w o) ∷ others) x → Gives (WorkOk K n e others) (deliver_drop w o x)
  drops_object others s w o x g =
      map_gives (WorkOk K n e others) (look_object x.rest.partition w o) _ (λ c q.
      let found = looked_object x.rest.partition w o c q in
      let left = leaves_keeps k n e (sent s (message.Drop w o) ∷ others) x w c found.0 g in
      let gone = buries_keep others s w o c (with_partition (freed x.rest.partition w) x) found.1 left in
      gives_up k n e others c.value (note (act.Free o w) (with_partition (freed x.rest.partition w) x)) (record { number = gone.number; bag = gone.bag }))

  module _ (t : ℕ) (others : List Thing) where
    abbrev Ok : Hand → Type 0
    Ok = HandOk K n e t others

    -- a copy comes
    fills_hand : (w : ℕ) (c : Cell) (h : Hand) → Ok h → Gives Ok (filled w c h)
    fills_hand w c h g =
        test_gives Ok (can_fill h.work.rest.cache w c) _ (λ on.
        uses_word k n e t others w (working (with_cache (fill h.work.rest.cache w c)) h)
        (on_work k n e t others others (with_cache (fill h.work.rest.cache w c)) h (λ u. fills_keep k n e (thread_things n false h.thread ++ others) w c h.work u) g))

    pub fetched_comes : (w : ℕ) (c : Cell) (h : Hand) → Ok h → Gives Ok (deliver_fetched w c h)
    fetched_comes w c h g =
        test_gives Ok (waits_for_cell h.thread.phase w) _ (λ on.
        over_gives Ok Ok (filled w c h) _ (fills_hand w c h g) (λ h2 u. phase_changes k n e t others phase.Got (working (note (act.Fill c.object w)) h2) (record { number = u.number; thread = u.thread; bag = u.bag })))

    -- OBJECTS THAT COME

    pub passes : (m : ℕ) (h : Hand) → Ok h → Ok (passing m h)
    passes m h g = thread_changes k n e t others h (record h.thread { passed = m }) refl (λ f. refl) g

    comes_at : (new : ℕ) (s : Spot) (h : Hand) → Ok h → Gives Ok (arrived_at s new h)
    comes_at new s h g = over_gives Ok Ok (set_pointer s new h) _ (sets_pointer k n e t others s new h g) (λ h2 u. phase_changes k n e t others phase.Got h2 u)

    comes_slot : (old new i : ℕ) (h : Hand) → Ok h → Gives Ok (arrived_slot old new i h)
    comes_slot old new i h g = test_gives Ok (waits_under old (slice_get h.thread.slots i)) _ (λ on. comes_at new (in_slot i) h g)

    comes_write : (w : Lval) (new : ℕ) (h : Hand) → Ok h → Gives Ok (arrived_write w new h)
    comes_write w new h g =
        then_gives Ok (passed_spot (write_stars h.thread.passed 0 h (in_slot w.slot))) _ (λ s q. comes_at new s (passing (h.thread.passed + 1) h) (passes (h.thread.passed + 1) h g))

    comes_lend : (slot d old new : ℕ) (h : Hand) → Ok h → Gives Ok (arrived_lend slot d old new h)
    comes_lend slot zero old new h g = tt
    comes_lend slot (suc zero) old new h g = phase_changes k n e t others (phase.Taken new) h g
    comes_lend slot (suc (suc d)) old new h g = by (waits_under old (slice_get h.thread.slots (chased d h.thread.slots slot)))
      where
        by : (b : Bool) → Gives Ok (if b then arrived_at (in_slot (chased d h.thread.slots slot)) new h else Some (with_phase (phase.Taken new) h))
        by true = comes_at new (in_slot (chased d h.thread.slots slot)) h g
        by false = phase_changes k n e t others (phase.Taken new) h g

    comes_end : (s : Spot) (v : Option Value) (old new : ℕ) (h : Hand) → Ok h → Gives Ok (arrived_end s v old new h)
    comes_end s (Some (value.Mut r)) old new h g = by (r.word == old)
      where
        by : (b : Bool) → Gives Ok (if b then arrived_at s new h else arrived_write r.holder new h)
        by true = comes_at new s h g
        by false = comes_write r.holder new h g
    comes_end s _ old new h g = tt

    comes_for : (a : Option Access) (old new : ℕ) (h : Hand) → Ok h → Gives Ok (arrived a old new h)
    comes_for None old new h g = tt
    comes_for (Some (ReadTo w)) old new h g = comes_slot old new (chased (w.depth - 1) h.thread.slots w.slot) h g
    comes_for (Some (ReadPointer w)) old new h g = comes_slot old new (chased (w.depth - 1) h.thread.slots w.slot) h g
    comes_for (Some (WriteTo w)) old new h g = comes_write w new h g
    comes_for (Some (LendTo w)) old new h g = comes_lend w.slot w.depth old new h g
    comes_for (Some (EndRef s)) old new h g = comes_end s (value_at h s) old new h g

    -- an object comes to lie here, with the word of its act
    pub issues_placed : (a : ℕ → Rattle.coherent_memory.specs.Below.journal.declared.act.Act.Act) (w : ℕ) (c : Cell) (h : Hand) → HandOk K n e t (flies w c ∷ others) h
        → Gives (λ (m : NewWord). Ok (record h { work = m.work })) (issue_placed a c h.work)
    issues_placed a w c h g =
        let front = thread_things n false h.thread in
        test_gives (λ (m : NewWord). Ok (record h { work = m.work })) (can_grow h.work.rest.partition) _ (λ on.
        let there = beside_hand k n e t (flies w c ∷ others) h g in
        let here : WorkOk K n e (flies w c ∷ (front ++ others)) h.work = record { number = there.number; bag = k.same _ _ (λ f. omega (arith, tot-append f (rest_things n e h.work.rest) (front ++ (flies w c ∷ others)), tot-append f (rest_things n e h.work.rest) (flies w c ∷ (front ++ others)), tot-append f front (flies w c ∷ others), tot-append f front others)) there.bag } in
        let lies_here = comes_keeps k n e (front ++ others) h.work w c here in
        to_hand k n e t others (note (a (new_word h.work.rest.partition)) (with_partition (made h.work.rest.partition c) h.work)) h.thread g.thread (record { number = lies_here.number; bag = lies_here.bag }))

    pub moved_comes : (code : List Instr) (old : ℕ) (c : Cell) (h : Hand) → HandOk K n e t (flies old c ∷ others) h → Gives Ok (deliver_moved code old c h)
    moved_comes code old c h g =
        test_gives Ok (waits_for_cell h.thread.phase old) _ (λ on.
        bind_gives (λ (m : NewWord). Ok (record h { work = m.work })) Ok (issue_placed (act.Take c.object old) c h.work) _ (issues_placed (act.Take c.object old) old c h g)
        (λ m u. comes_for (instr_access h (slice_get code h.thread.pc)) old m.word (record h { work = m.work }) u))
