-- The three instructions that may end a mutable reference, each by where that stands.
use Rattle.std.proofs.Common.{◌≡◌, ℕ, ◌-◌, length, Option, Some, None, refl, sym, ap, subst, ◌∙◌, arith}
use Rattle.std.specs.Prelude.{slice_get}
use Rattle.law_walks_others.specs.Below.fr_base.Lists.{last_of}
use Rattle.law_walks_others.specs.Below.fr_base.declared.place.Lval.{Lval}
use Rattle.law_walks_others.specs.Below.fr_base.declared.instruction.Instr.{Instr}
use Rattle.law_walks_others.specs.Below.fr_base.declared.instruction.Instr.TheVariants as instr
use Rattle.law_walks_others.specs.Below.fr_base.declared.instruction.Operand.{Operand}
use Rattle.law_walks_others.specs.Below.fr_store.Keys.{slot_k, temp_k}
use Rattle.law_walks_others.specs.Below.fr_store.Typed.{KeyTypes, Unnamed}
use Rattle.law_walks_others.specs.Below.mut_borrow.declared.mutable.MutRef.{MutRef}
use Rattle.law_walks_others.specs.Below.thread_state.View.{ThreadState}
use Rattle.law_walks_others.specs.Below.thread_state.declared.value.Value.{Value}
use Rattle.law_walks_others.specs.Below.thread_state.declared.value.Value.TheVariants as value
use Rattle.law_walks_others.specs.Below.server_model.Servers.{Server, Cluster}
use Rattle.law_walks_others.specs.Below.server_model.Work.{Hand}
use Rattle.law_walks_others.specs.Below.server_model.Places.{Spot, in_slot, on_top}
use Rattle.law_walks_others.specs.Below.server_model.Prepare.{EndRef, requested, ending, assigned, access_of, prepare}
use Rattle.law_walks_others.specs.Below.server_model.Events.{begin_work}
use Rattle.law_walks_others.specs.Below.coherent_memory.Things.{at_slot, at_temp}
use Rattle.law_walks_others.specs.Below.coherent_memory.Follow.{Standing, slot_of, temp_of}
use Rattle.law_walks_others.specs.Below.coherent_memory.Paths as paths_of
use Rattle.law_walks_others.specs.Below.coherent_memory.Paths.{ends, path_of, assigning}
use Rattle.law_walks_others.specs.Below.coherent_memory.Sight.{sight}
use Rattle.law_walks_others.specs.Below.coherent_memory.Walking.{path}
use Rattle.law_walks_others.specs.Below.law_words_paths.paths.HeapStore.{GoesOn, HasPaths}
use Rattle.law_walks_others.specs.Below.law_words_paths.paths.Pointing.{assigns as assigns_to}
use Rattle.law_walks_others.proofs.Below.law_words_paths.paths.Ended.{newest_free, dropped_at}
use Rattle.law_walks_others.proofs.Below.law_words_paths.paths.FreshPaths.{slot_there, temp_there}
use Rattle.law_walks_others.proofs.Below.law_words_paths.paths.MayWrites.{may_write_there}
use Rattle.law_walks_others.proofs.Below.law_words_paths.paths.Pointers.{temp_unnamed}
use Rattle.law_walks_others.proofs.Below.law_words_paths.paths.Shown.{stands_there}
use Rattle.law_words_ends.proofs.Below.law_words_kept.ends.Ends.{EndsAt, last_is, key_of}
use Rattle.law_walks_others.proofs.Below.law_results_reads.Known.{Steps, standing, paths, goes, types, entry, typed}
use Rattle.law_walks_others.proofs.Below.law_results_events.writes.Ends.{value_of_thread, RefAt as StandsAt, in_its_slot, on_its_top}

slots_of_one : {t u i j : ℕ} → slot_k t i ≡ slot_k u j → t ≡ u
slots_of_one e = cc

temp_no_slot : {t u i j : ℕ} → temp_k t i ≡ slot_k u j → ⊥
temp_no_slot e = absurd (cc e)

-- an instruction that may end a reference
pub data MayEnd (i : Instr) : Type 0 where
  an_assignment : (w : Lval) (p : Operand) → i ≡ instr.Assign w p → w.depth ≡ 0 → MayEnd i
  a_discard : i ≡ instr.Discard → MayEnd i
  a_drop : i ≡ instr.DropSlot → MayEnd i

module _ (k : Cluster) (n t : ℕ) (s : Server) (y : ThreadState) (i : Instr) (z : Steps k n t s y i) where
  abbrev x : Standing
  x = standing k n t s y i z

  abbrev c : HasPaths k
  c = paths k n t s y i z

  abbrev on : GoesOn k x
  on = goes k n t s y i z

  abbrev E : KeyTypes
  E = c.types.typing.exact

  abbrev tn : ℕ
  tn = y.number

  -- a reference that ends: where it stands, and how its path is told by that
  pub record Ends : Type 0 where
    pub reference : MutRef
    pub ended : path (sight k) (standing k n t s y i z) ≡ ends reference
    pub it : EndsAt k (paths k n t s y i z) (standing k n t s y i z) (goes k n t s y i z) reference
    pub spot : Spot
    pub at_it : StandsAt k n t s y i z reference ended it spot
    pub access : access_of i y ≡ Some (EndRef spot)
    pub path_by : (u : ThreadState) (q : MutRef) → value_of_thread u spot ≡ Some (value.Mut q) → length u.slots ≡ length y.slots → path_of (Some i) u ≡ ends q

  abbrev in_slot_it : (r : MutRef) (j : ℕ) → slice_get y.slots j ≡ Some (value.Mut r) → Unnamed E (slot_k tn j) → EndsAt k c x on r
  in_slot_it r j e free = record {
    at = at_slot tn j;
    stands = ap (λ o. slot_of o j) (stands_there k c x on) ∙ e;
    there = slot_there k c x on j r e;
    free = subst (Unnamed E) (key_of (slot_there k c x on j r e).is) free;
    own = λ a b f. sym (slots_of_one (key_of (slot_there k c x on j r e).is ∙ f));
  }

  abbrev in_temp_it : (r : MutRef) (j : ℕ) → slice_get y.temps j ≡ Some (value.Mut r) → EndsAt k c x on r
  in_temp_it r j e = record {
    at = at_temp tn j;
    stands = ap (λ o. temp_of o j) (stands_there k c x on) ∙ e;
    there = temp_there k c x on j r e;
    free = subst (Unnamed E) (key_of (temp_there k c x on j r e).is) (temp_unnamed k c tn j);
    own = λ a b f. absurd (temp_no_slot (key_of (temp_there k c x on j r e).is ∙ f));
  }

  -- an access that asks for something is that of a reference
  asks_reference : (sp : Spot) (v : Option Value) (h0 h : Hand) → prepare (ending sp v) h0 ≡ requested h → (r : MutRef) × (v ≡ Some (value.Mut r))
  asks_reference sp (Some (value.Mut r)) h0 h e = (r, refl)
  asks_reference sp None h0 h e = absurd (cc e)
  asks_reference sp (Some value.Gone) h0 h e = absurd (cc e)
  asks_reference sp (Some (value.Own u)) h0 h e = absurd (cc e)
  asks_reference sp (Some (value.SharedSlot j)) h0 h e = absurd (cc e)
  asks_reference sp (Some (value.MutSlot j)) h0 h e = absurd (cc e)
  asks_reference sp (Some (value.Shared u)) h0 h e = absurd (cc e)
  asks_reference sp (Some (value.Held u)) h0 h e = absurd (cc e)

  by_assignment : (w : Lval) (p : Operand) → i ≡ instr.Assign w p → w.depth ≡ 0 → (r : MutRef) → slice_get y.slots w.slot ≡ Some (value.Mut r) → Ends
  by_assignment w p e deep r there =
      let zz = z in
      let code = zz.code ∙ ap (λ u. Some u) e in
      record {
        reference = r;
        ended = ap (λ b. path_of b y) code ∙ ap (assigning y.slots w) deep ∙ ap paths_of.ending there;
        it = in_slot_it r w.slot there (may_write_there k c x on (instr.Assign w p) w code assigns_to).free;
        spot = in_slot w.slot;
        at_it = in_its_slot w.slot there refl;
        access = ap (λ u. access_of u y) e ∙ ap (λ d. assigned w d y) deep ∙ ap (ending (in_slot w.slot)) there;
        path_by = λ u q f size. ap (λ b. path_of (Some b) u) e ∙ ap (assigning u.slots w) deep ∙ ap paths_of.ending f;
      }

  by_discard : i ≡ instr.Discard → (r : MutRef) → last_of y.temps ≡ Some (value.Mut r) → Ends
  by_discard e r last =
      let zz = z in
      let code = zz.code ∙ ap (λ u. Some u) e in
      let l = last_is y.temps (value.Mut r) last in record {
        reference = r;
        ended = ap (λ b. path_of b y) code ∙ ap paths_of.ending last;
        it = in_temp_it r l.0 l.2;
        spot = on_top;
        at_it = on_its_top last;
        access = ap (λ u. access_of u y) e ∙ ap (ending on_top) last;
        path_by = λ u q f size. ap (λ b. path_of (Some b) u) e ∙ ap paths_of.ending f;
      }

  by_drop : i ≡ instr.DropSlot → (r : MutRef) → last_of y.slots ≡ Some (value.Mut r) → Ends
  by_drop e r last =
      let zz = z in
      let code = zz.code ∙ ap (λ u. Some u) e in
      let l = last_is y.slots (value.Mut r) last in
      let at_entry = typed k n t s y i z in
      let free = newest_free k c x on l.0 l.1 (dropped_at (types k n t s y i z).table y.pc (entry k n t s y i z) at_entry.0 (subst (λ j. Rattle.law_walks_others.specs.Below.fr_code.CodeTable.Leads (types k n t s y i z).table y.pc (entry k n t s y i z) j at_entry.0) e at_entry.1)) in
      let where_it : length y.slots - 1 ≡ l.0 = (let q = l.1 in omega (arith, q)) in record {
        reference = r;
        ended = ap (λ b. path_of b y) code ∙ ap paths_of.ending last;
        it = in_slot_it r l.0 l.2 free;
        spot = in_slot l.0;
        at_it = in_its_slot l.0 l.2 refl;
        access = ap (λ u. access_of u y) e ∙ ap (ending (in_slot (length y.slots - 1))) last ∙ ap (λ j. Some (EndRef (in_slot j))) where_it;
        path_by = λ u q f size. ap (λ b. path_of (Some b) u) e ∙ ap paths_of.ending (ap (λ m. slice_get u.slots (m - 1)) size ∙ ap (slice_get u.slots) where_it ∙ f);
      }

  pub ends_of : MayEnd i → (h : Hand) → prepare (access_of i y) (record { work = begin_work s.rest; thread = y }) ≡ requested h → Ends
  ends_of (an_assignment w p e deep) h asked =
      let h0 : Hand = record { work = begin_work s.rest; thread = y } in
      let q = asks_reference (in_slot w.slot) (slice_get y.slots w.slot) h0 h (sym (ap (λ u. prepare (access_of u y) h0) e ∙ ap (λ d. prepare (assigned w d y) h0) deep) ∙ asked) in
      by_assignment w p e deep q.0 q.1
  ends_of (a_discard e) h asked =
      let h0 : Hand = record { work = begin_work s.rest; thread = y } in
      let q = asks_reference on_top (last_of y.temps) h0 h (sym (ap (λ u. prepare (access_of u y) h0) e) ∙ asked) in
      by_discard e q.0 q.1
  ends_of (a_drop e) h asked =
      let h0 : Hand = record { work = begin_work s.rest; thread = y } in
      let q = asks_reference (in_slot (length y.slots - 1)) (last_of y.slots) h0 h (sym (ap (λ u. prepare (access_of u y) h0) e) ∙ asked) in
      by_drop e q.0 q.1
