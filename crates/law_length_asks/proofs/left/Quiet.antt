-- A thread that has a gift of a home, or has taken an object to lend it, has all at hand on its way: it asks for nothing.
use Rattle.std.proofs.Common.{◌≡◌, ℕ, zero, suc, ◌-◌, true, if◌then◌else◌, Option, Some, None, refl, sym, ap, subst, ◌∙◌, arith}
use Rattle.law_length_asks.specs.Below.law_walks_others.Below.fr_base.declared.place.Lval.{Lval}
use Rattle.law_length_asks.specs.Below.law_walks_others.Below.fr_base.declared.instruction.Instr.{Instr}
use Rattle.law_length_asks.specs.Below.law_walks_others.Below.fr_base.declared.instruction.Instr.TheVariants as instr
use Rattle.law_length_asks.specs.Below.law_walks_others.Below.heap_partition.declared.value.Owned.{Owned}
use Rattle.law_length_asks.specs.Below.law_walks_others.Below.place_walk.declared.hop.Hop.{Hop}
use Rattle.law_length_asks.specs.Below.law_walks_others.Below.place_walk.declared.hop.Hop.TheVariants as jump
use Rattle.law_length_asks.specs.Below.law_walks_others.Below.place_walk.Hops.{write_hop}
use Rattle.law_length_asks.specs.Below.law_walks_others.Below.thread_state.View.{ThreadState}
use Rattle.law_length_asks.specs.Below.law_walks_others.Below.thread_state.declared.phase.Phase.TheVariants as phase
use Rattle.law_length_asks.specs.Below.law_walks_others.Below.thread_state.declared.value.Value.{Value}
use Rattle.law_length_asks.specs.Below.law_walks_others.Below.server_model.Servers.{Server, Cluster}
use Rattle.law_length_asks.specs.Below.law_walks_others.Below.server_model.Work.{Hand}
use Rattle.law_length_asks.specs.Below.law_walks_others.Below.server_model.Places.{Spot, in_slot, value_at, load_at, pointer_of}
use Rattle.law_length_asks.specs.Below.law_walks_others.Below.server_model.Prepare.{ready, requested, ask_object, request_by, is_taken, lend_by, lend_value, access_of, prepare, read_stars, lend_pointer}
use Rattle.law_length_asks.specs.Below.law_walks_others.Below.server_model.Events.{begin_work}
use Rattle.law_length_asks.specs.Below.law_walks_others.Below.coherent_memory.Follow.{Standing, Ground}
use Rattle.law_length_asks.specs.Below.law_walks_others.Below.coherent_memory.Paths.{path_of}
use Rattle.law_length_asks.specs.Below.law_walks_others.Below.coherent_memory.Passing.{followed_place}
use Rattle.law_length_asks.specs.Below.law_walks_others.Below.coherent_memory.Requests.{lent_place, taken_there, taken_phase, gift_fits, gift_there}
use Rattle.law_length_asks.specs.Below.law_walks_others.Below.coherent_memory.Sight.{sight}
use Rattle.law_length_asks.specs.Below.law_walks_others.Below.coherent_memory.Walking.{instr_of, path, has_gift_there, has_followed}
use Rattle.law_length_asks.proofs.Below.law_walks_others.Below.coherent_memory.Passing.{paths_law}
use Rattle.law_length_asks.proofs.Below.law_walks_others.Below.coherent_memory.Words.{none_at}
use Rattle.law_length_asks.specs.Below.law_walks_others.Below.law_words_paths.paths.HeapStore.{GoesOn}
use Rattle.law_walks_own.specs.Below.law_words_kept.reads.Reading as reading
use Rattle.law_walks_own.specs.Below.law_words_kept.reads.Reading.{Reads}
use Rattle.law_length_asks.proofs.Below.law_walks_others.Below.law_results_reads.Known.{Steps, goes, standing}
use Rattle.law_length_asks.proofs.Below.law_walks_own.steps.Borrows.{split}
use Rattle.law_length_asks.proofs.Below.law_walks_own.steps.Outcomes.{AsksHome, a_lock, a_dup, a_join}
use Rattle.law_length_asks.proofs.Below.law_walks_own.steps.ReadWalk.{reaches, never_asked}

-- an object that was taken isn't asked for
taken_lends : (s : Spot) (v : Value) (o : Option Hop) (h h2 : Hand) → is_taken h.thread.phase ≡ true → lend_by s v o h ≡ requested h2 → ⊥
taken_lends s v None h h2 e f = cc f
taken_lends s v (Some (jump.NeedMove w)) h h2 e f =
    let g : ready h s ≡ requested h2 = sym (ap (λ b. if b then ready h s else request_by ask_object h (pointer_of v)) e) ∙ f in
    cc g
taken_lends s v (Some (jump.Slot i)) h h2 e f = cc f
taken_lends s v (Some (jump.Direct w)) h h2 e f = cc f
taken_lends s v (Some (jump.Hit w)) h h2 e f = cc f
taken_lends s v (Some (jump.NeedCopy w)) h h2 e f = cc f
taken_lends s v (Some (jump.NeedTint w)) h h2 e f = cc f
taken_lends s v (Some (jump.AtCell w)) h h2 e f = cc f

taken_value : (s : Spot) (v : Option Value) (h h2 : Hand) → is_taken h.thread.phase ≡ true → lend_value s v h ≡ requested h2 → ⊥
taken_value s None h h2 e f = cc f
taken_value s (Some v) h h2 e f = taken_lends s v (write_hop h.work.rest.number v) h h2 e f

no_request : {h a : Hand} {s : Spot} → ready a s ≡ requested h → ⊥
no_request e = cc e

module _ (k : Cluster) (n t : ℕ) (s : Server) (y : ThreadState) (i : Instr) (z : Steps k n t s y i) where
  abbrev x : Standing
  x = standing k n t s y i z

  abbrev on : GoesOn k x
  on = goes k n t s y i z

  abbrev h0 : Hand
  h0 = record { work = begin_work s.rest; thread = y }

  abbrev G : Ground
  G = (sight k).ground

  -- so many stars are followed already
  at_hand : (w : Lval) (m : ℕ) → Reads i w m → has_followed (sight k) x y.phase ≡ true → followed_place (path (sight k) x) ≡ Some (record { slot = w.slot; depth = m }) → (h : Hand) → read_stars m h0 (in_slot w.slot) ≡ requested h → ⊥
  at_hand w m r_it has place h e =
      let zz = z in
      never_asked k n t s y i z w m r_it
      (λ j l b less located stands. zz.coherent.sound.walks.have_followed x (record { slot = w.slot; depth = m }) j l b on.among has place less (record { path = paths_law.located G y.number w.slot j l located; stands = stands })) h e

  -- its instruction
  is_at : (j : Instr) → i ≡ j → instr_of (sight k) x ≡ Some j
  is_at j e = (let zz = z in zz.code ∙ ap (λ u. Some u) e)

  -- A GIFT

  module _ (v : Owned) (gift : y.gift ≡ Some v) (got : y.phase ≡ phase.Got) (h : Hand) where
    has : (j : Instr) → i ≡ j → has_followed (sight k) x y.phase ≡ has_gift_there (Some v) (Some j)
    has j e = ap (has_followed (sight k) x) got ∙ ap (λ g. has_gift_there g (instr_of (sight k) x)) gift ∙ ap (has_gift_there (Some v)) (is_at j e)

    by_instr : (j : Instr) → i ≡ j → gift_fits (sight k) x v (Some j) ≡ 0 → prepare (access_of j y) h0 ≡ requested h → ⊥
    by_instr (instr.Lock w) e f g = at_hand w w.depth (subst (λ u. Reads u w w.depth) (sym e) (reading.locks refl)) (has (instr.Lock w) e) (ap (λ u. followed_place (path_of u y)) (is_at (instr.Lock w) e)) h g
    by_instr (instr.Dup w) e f g = at_hand w w.depth (subst (λ u. Reads u w w.depth) (sym e) (reading.dups refl)) (has (instr.Dup w) e) (ap (λ u. followed_place (path_of u y)) (is_at (instr.Dup w) e)) h g
    by_instr (instr.Join o) e f g = no_request g
    by_instr j e f g = cc f

    pub gifted : prepare (access_of i y) (record { work = begin_work s.rest; thread = y }) ≡ requested h → ⊥
    gifted asked =
        let zz = z in
        let fits : gift_there (sight k) x y.gift ≡ 0 = none_at (λ u. gift_there (sight k) u u.thread.gift) x G.threads zz.coherent.sound.requests.gifts_fit on.among in
        by_instr i refl (sym (ap (gift_fits (sight k) x v) (is_at i refl)) ∙ sym (ap (gift_there (sight k) x) gift) ∙ fits) asked

  -- AN OBJECT THAT IS TAKEN

  module _ (u : ℕ) (taken : y.phase ≡ phase.Taken u) where
    stands_so : taken_there (sight k) x u (lent_place (Some i)) ≡ 0
    stands_so =
        let zz = z in
        let fits : taken_phase (sight k) x y.phase ≡ 0 = none_at (λ q. taken_phase (sight k) q q.thread.phase) x G.threads zz.coherent.sound.requests.taken_stands on.among in
        sym (ap (λ q. taken_there (sight k) x u (lent_place q)) (is_at i refl)) ∙ sym (ap (taken_phase (sight k) x) taken) ∙ fits

    pub not_home : (a h2 : Hand) → AsksHome i a h2 → ⊥
    not_home a _ (a_lock w m e) = let f : taken_there (sight k) x u (lent_place (Some (instr.Lock w))) ≡ 0 = subst (λ j. taken_there (sight k) x u (lent_place (Some j)) ≡ 0) e stands_so in cc f
    not_home a _ (a_dup w m e) = let f : taken_there (sight k) x u (lent_place (Some (instr.Dup w))) ≡ 0 = subst (λ j. taken_there (sight k) x u (lent_place (Some j)) ≡ 0) e stands_so in cc f
    not_home a _ (a_join o m e) = let f : taken_there (sight k) x u (lent_place (Some (instr.Join o))) ≡ 0 = subst (λ j. taken_there (sight k) x u (lent_place (Some j)) ≡ 0) e stands_so in cc f

    module _ (h : Hand) where
      by_lend : (w : Lval) (d : ℕ) → i ≡ instr.BorrowMut w → w.depth ≡ d → lend_pointer w d h0 ≡ requested h → ⊥
      by_lend w zero e deep f = no_request f
      by_lend w (suc d) e deep f =
          let reads_it : Reads i w d = subst (λ q. Reads q w d) (sym e) (reading.lends deep) in
          let shorter : w.depth - 1 ≡ d = omega (arith, deep) in
          split (read_stars d h0 (in_slot w.slot)) (λ h2 sp. lend_value sp (value_at h2 sp) (load_at sp h2)) h ⊥ f
          (λ stopped. at_hand w d reads_it (ap (has_followed (sight k) x) taken) (ap (λ q. followed_place (path_of q y)) (is_at (instr.BorrowMut w) e) ∙ ap (λ q. Some (record { slot = w.slot; depth = q })) shorter) h stopped)
          (λ a sp reached asks.
          let at_it = reaches k n t s y i z w d reads_it d (omega arith) a sp reached in
          let so_far = at_it.3 in
          taken_value sp (value_at a sp) (load_at sp a) h (ap is_taken (so_far.phase ∙ taken)) asks)

      by_place : (j : Instr) → i ≡ j → taken_there (sight k) x u (lent_place (Some j)) ≡ 0 → prepare (access_of j y) h0 ≡ requested h → ⊥
      by_place (instr.BorrowMut w) e f g = by_lend w w.depth e refl g
      by_place j e f g = cc f

      pub untaken : prepare (access_of i y) (record { work = begin_work s.rest; thread = y }) ≡ requested h → ⊥
      untaken asked = by_place i refl stands_so asked
