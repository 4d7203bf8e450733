-- Values that are taken out and dropped, and the end of a step.
use Rattle.std.proofs.Common.{if◌then◌else◌, ◌≡◌, ℕ, ℤ, Bool, true, false, List, [], ◌∷◌, ◌++◌, Option, Some, None, refl, ap, subst, arith}
use Rattle.coherent_memory.specs.Below.fr_base.declared.instruction.Operand.{Operand}
use Rattle.coherent_memory.specs.Below.fr_base.declared.instruction.Operand.TheVariants as operand
use Rattle.coherent_memory.specs.Below.heap_partition.declared.value.Owned.{Owned}
use Rattle.coherent_memory.specs.Below.heap_partition.declared.value.Owned.TheVariants as owned
use Rattle.coherent_memory.specs.Below.read_cache.Cache.{Copy, can_unpin}
use Rattle.coherent_memory.specs.Below.mut_borrow.Refs.{finish_word}
use Rattle.coherent_memory.specs.Below.mut_borrow.declared.shared.SharedRef.{SharedRef}
use Rattle.coherent_memory.specs.Below.mut_borrow.declared.mutable.MutRef.{MutRef}
use Rattle.coherent_memory.specs.Below.thread_state.declared.value.Value.{Value}
use Rattle.coherent_memory.specs.Below.thread_state.declared.value.Value.TheVariants as value
use Rattle.coherent_memory.specs.Below.fr_base.declared.label.Label.{Label}
use Rattle.coherent_memory.specs.Below.server_model.Work.{Hand, Popped, with_cache, working, label_all, last_of, pop_temp, pop_slot, pop, taken_as, owned_of, int_of, pop_owned, pop_int}
use Rattle.coherent_memory.specs.Below.migration.Packing.{unpin_all}
use Rattle.coherent_memory.specs.Below.server_model.Places.{Spot}
use Rattle.coherent_memory.specs.Below.server_model.Drop.{unpin_ref, finished_at, drop_value}
use Rattle.coherent_memory.specs.Below.server_model.Commit.{settle}
use Rattle.coherent_memory.specs.Things.{Thing, at_temp, in_hand, holds, shares, borrows, locks, uses, pin_things, walk_things, slot_things, temp_things, gift_things, things_at, thread_things}
use Rattle.law_counts_sums.specs.Laws.{Gives}
use Rattle.law_counts_sums.proofs.Trades.{Trade, tot-append, trade_left, trade_right}
use Rattle.law_counts_sums.proofs.Rules.{comes, goes, unmarks, turned, padded, Kept}
use Rattle.law_counts_sums.proofs.Results.{test_gives, map_gives, bind_gives, over_gives}
use Rattle.law_counts_sums.proofs.Bags.{WorkOk, HandOk, rest_things, had_by}
use Rattle.law_counts_sums.proofs.Chains.{beside_hand, to_hand}
use Rattle.law_counts_sums.proofs.Values.{held, pops_temp, pops_slot, thread_trades, some_come_by, some_go_by}
use Rattle.law_counts_sums.proofs.Uses.{ends_all, hand_ends, hand_gives_up}
use Rattle.law_counts_sums.proofs.Pointers.{sets_pointer}

module _ {K : List Thing → Type 0} (k : Kept K) (n e t : ℕ) where
  -- labels change no thing
  pub labelled : (others : List Thing) (ls : List Label) (h : Hand) → HandOk K n e t others h → HandOk K n e t others (working (label_all ls) h)
  labelled others ls h g = record { number = g.number; thread = g.thread; bag = g.bag }

  module _ (others : List Thing) where
    abbrev Ok : Hand → Type 0
    Ok = HandOk K n e t others

    unpins : (r : SharedRef) (b : Bool) (h : Hand) → r.pinned ≡ b → HandOk K n e t (held n t (value.Shared r) ++ others) h → Gives Ok (unpin_ref r b h)
    unpins r false h q g =
        let gone : pin_things n r ≡ [] = ap (λ b. if b then uses n r.word ∷ [] else []) q in
        some_go_by k n e t others (shares (at_temp t 0) r ∷ []) h (goes (shares (at_temp t 0) r) refl) (subst (λ x. HandOk K n e t ((shares (at_temp t 0) r ∷ x) ++ others) h) gone g)
    unpins r true h q g =
        let pinned : pin_things n r ≡ uses n r.word ∷ [] = ap (λ b. if b then uses n r.word ∷ [] else []) q in
        let there : HandOk K n e t ((shares (at_temp t 0) r ∷ []) ++ (uses n r.word ∷ others)) h = subst (λ x. HandOk K n e t ((shares (at_temp t 0) r ∷ x) ++ others) h) pinned g in
        let used = some_go_by k n e t (uses n r.word ∷ others) (shares (at_temp t 0) r ∷ []) h (goes (shares (at_temp t 0) r) refl) there in
        test_gives Ok (can_unpin h.work.rest.cache r.word) _ (λ on. hand_ends k n e t others h r.word on used)

    finishes_at : (holder : Spot) (o : Option ℕ) (h : Hand) → Ok h → Gives Ok (finished_at holder o h)
    finishes_at holder None h g = g
    finishes_at holder (Some w) h g = sets_pointer k n e t others holder w h g

    finishes : (holder : Spot) (r : MutRef) (b : Bool) (h : Hand) → Ok h → Gives Ok (if b then None else finished_at holder (finish_word r) h)
    finishes holder r true h g = tt
    finishes holder r false h g = finishes_at holder (finish_word r) h g

    -- a value in the hand is dropped
    pub drops_keep : (holder : Spot) (v : Value) (h : Hand) → HandOk K n e t (held n t v ++ others) h → Gives Ok (drop_value holder v h)
    drops_keep holder (value.Own v) h g = hand_gives_up k n e t others v h g
    drops_keep holder (value.Shared r) h g = unpins r r.pinned h refl g
    drops_keep holder (value.Mut r) h g = finishes holder r r.dirty h (some_go_by k n e t others (borrows (at_temp t 0) r ∷ []) h (goes (borrows (at_temp t 0) r) refl) g)
    drops_keep holder value.Gone h g = g
    drops_keep holder (value.SharedSlot j) h g = g
    drops_keep holder (value.MutSlot j) h g = g
    drops_keep holder (value.Held m) h g = some_go_by k n e t others (locks (at_temp t 0) m ∷ []) h (unmarks (at_temp t 0) m) g

    -- OPERANDS

    abbrev PoppedOk : Popped Value → Type 0
    PoppedOk p = HandOk K n e t (held n t p.item ++ others) p.hand

    pub pops_top : (h : Hand) → Ok h → Gives PoppedOk (pop_temp h)
    pops_top h g = map_gives PoppedOk (last_of h.thread.temps) _ (λ v q. pops_temp k n e t others v h q g)

    pub pops_last : (h : Hand) → Ok h → Gives PoppedOk (pop_slot h)
    pops_last h g = map_gives PoppedOk (last_of h.thread.slots) _ (λ v q. pops_slot k n e t others v h q g)

    pub pops : (o : Operand) (h : Hand) → Ok h → Gives PoppedOk (pop o h)
    pops (operand.Const i) h g = some_come_by k n e t others (holds in_hand (owned.Int i) ∷ []) h (comes (holds in_hand (owned.Int i)) refl) g
    pops operand.Unit h g = some_come_by k n e t others (holds in_hand owned.Unit ∷ []) h (comes (holds in_hand owned.Unit) refl) g
    pops operand.Pop h g = pops_top h g

    abbrev PoppedOwned : Popped Owned → Type 0
    PoppedOwned p = HandOk K n e t (holds in_hand p.item ∷ others) p.hand

    pub as_owned : (p : Popped Value) → PoppedOk p → Gives PoppedOwned (taken_as owned_of p)
    as_owned p g = by p.item refl g
      where
        by : (v : Value) → p.item ≡ v → HandOk K n e t (held n t v ++ others) p.hand → Gives PoppedOwned (Rattle.std.specs.Prelude.option_map (λ (x : Owned). record { item = x; hand = p.hand }) (owned_of v))
        by (value.Own v) q u = u
        by _ q u = tt

    pub pops_owned : (o : Operand) (h : Hand) → Ok h → Gives PoppedOwned (pop_owned o h)
    pops_owned o h g = bind_gives PoppedOk PoppedOwned (pop o h) (taken_as owned_of) (pops o h g) as_owned

    abbrev PoppedLight : Popped ℤ → Type 0
    PoppedLight p = Ok p.hand

    as_int : (p : Popped Value) → PoppedOk p → Gives PoppedLight (taken_as int_of p)
    as_int p g = by p.item refl g
      where
        by : (v : Value) → p.item ≡ v → HandOk K n e t (held n t v ++ others) p.hand → Gives PoppedLight (Rattle.std.specs.Prelude.option_map (λ (x : ℤ). record { item = x; hand = p.hand }) (int_of v))
        by (value.Own (owned.Int i)) q u = some_go_by k n e t others (holds in_hand (owned.Int i) ∷ []) p.hand (goes (holds in_hand (owned.Int i)) refl) u
        by _ q u = tt

    -- numbers weigh nothing
    pub pops_int : (o : Operand) (h : Hand) → Ok h → Gives PoppedLight (pop_int o h)
    pops_int o h g = bind_gives PoppedOk PoppedLight (pop o h) (taken_as int_of) (pops o h g) as_int

    -- THE END OF A STEP

    -- nothing of the walk is kept
    pub settles : (h : Hand) → Ok h → Gives Ok (settle h)
    settles h g =
        let x = h.thread in
        let x2 = record x { passed = 0; walk = []; moved_since_step = false } in
        let walk = things_at (walk_things n) 0 x.walk in
        let front = thread_things n false x2 in
        let away : Trade walk walk [] [] = record { rest = []; before = λ f. omega arith; after = λ f. omega arith } in
        let bare : Trade (had_by n x) walk [] (had_by n x2) = trade_right (things_at (temp_things n x.number) 0 x.temps) (trade_right (things_at (slot_things n x.number) 0 x.slots) (trade_left (gift_things x.number x.gift) away)) in
        let come : Trade others [] walk (walk ++ others) = record { rest = others; before = λ f. omega arith; after = λ f. tot-append f walk others } in
        let moved : HandOk K n e t (walk ++ others) (record h { thread = x2 }) = thread_trades k n e t h x2 refl bare come (padded (turned walk walk (λ f. refl))) g in
        let there : WorkOk K n e (walk ++ (front ++ others)) h.work = (let u = beside_hand k n e t (walk ++ others) (record h { thread = x2 }) moved in record {
          number = u.number;
          bag = k.same _ _ (λ f. omega (arith, tot-append f (rest_things n e h.work.rest) (front ++ (walk ++ others)), tot-append f (rest_things n e h.work.rest) (walk ++ (front ++ others)), tot-append f front (walk ++ others), tot-append f walk others, tot-append f walk (front ++ others), tot-append f front others)) u.bag;
        }) in
        over_gives (λ (cs : List Copy). WorkOk K n e (front ++ others) (with_cache cs h.work)) Ok (unpin_all x.walk h.work.rest.cache) _
        (ends_all k n e (front ++ others) 0 x.walk h.work there) (λ cs u. to_hand k n e t others (with_cache cs h.work) x2 g.thread u)
