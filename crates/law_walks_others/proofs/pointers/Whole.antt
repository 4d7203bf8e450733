-- The step of each instruction leaves each cell, words included, but for those of objects in chains of its thread's own slots.
use Rattle.std.proofs.Common.{◌≡◌, ℕ, zero, suc, ◌-◌, true, false, Option, Some, None, length, refl, sym, ap, subst, ◌∙◌, arith}
use Rattle.std.specs.Prelude.{slice_get}
use Rattle.std.specs.Bool.{⊤}
use Rattle.law_words_values.specs.Below.fr_base.Lists.{last_of}
use Rattle.law_words_values.specs.Below.fr_base.declared.name.ObjNo.{ObjNo}
use Rattle.law_words_values.specs.Below.fr_base.declared.place.Lval.{Lval}
use Rattle.law_words_values.specs.Below.fr_base.declared.instruction.Operand.{Operand}
use Rattle.law_words_values.specs.Below.fr_base.declared.instruction.Instr.{Instr}
use Rattle.law_words_values.specs.Below.fr_base.declared.instruction.Instr.TheVariants as instr
use Rattle.law_words_values.specs.Below.fr_store.Keys.{slot_k, temp_k}
use Rattle.law_words_values.specs.Below.fr_store.Typed.{KeyTypes, Unnamed}
use Rattle.law_words_values.specs.Below.heap_partition.declared.value.Owned.{Owned}
use Rattle.law_words_values.specs.Below.mut_borrow.Refs.{finish_word}
use Rattle.law_words_values.specs.Below.mut_borrow.declared.mutable.MutRef.{MutRef}
use Rattle.law_words_values.specs.Below.thread_state.View.{ThreadState}
use Rattle.law_words_values.specs.Below.thread_state.declared.value.Value.{Value}
use Rattle.law_words_values.specs.Below.thread_state.declared.value.Value.TheVariants as value
use Rattle.law_words_values.specs.Below.server_model.Servers.{Server, Cluster}
use Rattle.law_words_values.specs.Below.server_model.Work.{Hand}
use Rattle.law_words_values.specs.Below.server_model.Places.{Spot, in_slot, on_top, value_at}
use Rattle.law_words_values.specs.Below.server_model.Prepare.{Access, WriteTo, EndRef, Prepared, ready, requested, nothing, and_then, ending, assigned, read_or_taken, access_of, clean_value, follow_holder, follow_ended, unlabelled, end_ref, prepare, read_stars, write_stars}
use Rattle.law_words_values.specs.Below.server_model.Events.{begin_work, prepared, step}
use Rattle.law_words_values.specs.Below.coherent_memory.Things.{at_slot, at_temp}
use Rattle.law_words_values.specs.Below.coherent_memory.Follow.{Standing, slot_of, temp_of}
use Rattle.law_words_values.specs.Below.coherent_memory.Paths as paths_of
use Rattle.law_words_values.specs.Below.coherent_memory.Paths.{ends, path_of, assigning}
use Rattle.law_words_values.specs.Below.coherent_memory.Sight.{sight}
use Rattle.law_words_values.specs.Below.coherent_memory.Walking.{path}
use Rattle.law_words_values.specs.Below.law_words_paths.paths.HeapStore.{GoesOn, HasPaths}
use Rattle.law_words_values.specs.Below.law_words_paths.paths.Pointing.{assigns as assigns_to}
use Rattle.law_words_values.proofs.Below.law_words_paths.paths.Ended.{newest_free, dropped_at}
use Rattle.law_words_values.proofs.Below.law_words_paths.paths.FreshPaths.{slot_there, temp_there}
use Rattle.law_words_values.proofs.Below.law_words_paths.paths.MayWrites.{may_write_there}
use Rattle.law_words_values.proofs.Below.law_words_paths.paths.Pointers.{temp_unnamed}
use Rattle.law_words_values.proofs.Below.law_words_paths.paths.Shown.{stands_there}
use Rattle.law_words_values.specs.Below.law_counts_sums.Laws.{Gives}
use Rattle.law_words_values.proofs.Below.law_heap_still.events.Addresses.{InPlace}
use Rattle.law_words_values.proofs.Below.law_words_kept.ends.Ends.{EndsAt, last_is, key_of}
use Rattle.law_words_values.proofs.Below.law_results_reads.Known.{Steps, standing, paths, goes, types, entry, typed}
use Rattle.law_counts_waiting.proofs.Below.law_results_events.writes.Ends.{RefAt, in_its_slot, on_its_top}
use Rattle.law_counts_waiting.specs.Below.law_words_asked.writes.Writing.{WritesThrough, assigns, moves}
use Rattle.law_counts_waiting.proofs.waits.Written.{Written}
use Rattle.law_walks_others.proofs.pointers.Cells.{Seeing, amount}
use Rattle.law_walks_others.proofs.pointers.Ready as made
use Rattle.law_walks_others.proofs.pointers.Ready.{Blind, prepares}
use Rattle.law_walks_others.proofs.pointers.Commits.{Covers, EndsStep, commits}
use Rattle.law_walks_others.proofs.pointers.Steps.{IsPlain, through_blind}
use Rattle.law_walks_others.proofs.pointers.Ended.{end_blind}

slots_of_one : {t u i j : ℕ} → slot_k t i ≡ slot_k u j → t ≡ u
slots_of_one e = cc

temp_no_slot : {t u i j : ℕ} → temp_k t i ≡ slot_k u j → ⊥
temp_no_slot e = absurd (cc e)

ready_is : {h h2 : Hand} {s s2 : Spot} → ready h s ≡ ready h2 s2 → s ≡ s2
ready_is e = cc

module _ (k : Cluster) (n t : ℕ) (s : Server) (y : ThreadState) (i : Instr) (z : Steps k n t s y i) (see : Seeing) (own : (o : ObjNo) → Written k (paths k n t s y i z) y.number o → (r : Option ℕ) (v : Owned) → see.cells r o v ≡ 0) where
  abbrev x : Standing
  x = standing k n t s y i z

  abbrev c : HasPaths k
  c = paths k n t s y i z

  abbrev on : GoesOn k x
  on = goes k n t s y i z

  abbrev E : KeyTypes
  E = c.types.typing.exact

  abbrev tn : ℕ
  tn = y.number

  abbrev h0 : Hand
  h0 = record { work = begin_work s.rest; thread = y }

  -- as much as was there before
  abbrev pub least : ℕ
  least = amount see s.rest.number s.rest.partition s.rest.inbox s.rest.outbox

  -- what the access passes, and where the place leads at its end, is put over nothing that is seen
  record Fits (a : Option Access) : Type 0 where
    aside : made.Aside see s.rest.number least a h0
    end : (h : Hand) (sp : Spot) → prepare a h0 ≡ ready h sp → Blind see sp h.work.rest.partition

  no_access : Fits None
  no_access = record { aside = tt; end = λ h sp e. subst (λ q. Blind see q h.work.rest.partition) (ready_is e) tt }

  -- A WRITE THROUGH STARS

  writes : (v : Lval) (d : ℕ) → WritesThrough i v d → Fits (Some (WriteTo v))
  writes v d through = record {
    aside = λ j lt h sp e. through_blind k n t s y i z see own v d through j (omega (arith, lt)) h sp e;
    end = λ h sp e. through_blind k n t s y i z see own v d through v.depth (omega arith) h sp e;
  }

  -- A REFERENCE THAT ENDS

  abbrev EndBlind : Prepared → Type 0
  EndBlind (ready h sp) = Blind see sp h.work.rest.partition
  EndBlind (requested h) = ⊤
  EndBlind nothing = ⊤

  end_is : (p : Prepared) → EndBlind p → (h : Hand) (sp : Spot) → p ≡ ready h sp → Blind see sp h.work.rest.partition
  end_is p b h sp e = subst EndBlind e b

  module _ (plain : IsPlain i) (r : MutRef) (is : path (sight k) x ≡ ends r) (it : EndsAt k c x on r) (sp : Spot) (at_it : RefAt k n t s y i z r is it sp) where
    abbrev Follows : Hand → Spot → Prepared
    Follows h2 s2 = follow_ended (value_at h2 s2) h2

    unlabels : (p : Prepared) → EndBlind p → EndBlind (and_then unlabelled p)
    unlabels (ready h end) f = f
    unlabels (requested h) f = tt
    unlabels nothing f = tt

    written : (p : Prepared) → ((h : Hand) (end : Spot) → p ≡ ready h end → Blind see end h.work.rest.partition) → EndBlind p
    written (ready h end) f = f h end refl
    written (requested h) f = tt
    written nothing f = tt

    holder : (h1 : Hand) (s1 : Spot) → clean_value sp (value_at h0 sp) h0 ≡ ready h1 s1 → (v : Option Value) → value_at h1 s1 ≡ v → EndBlind (follow_ended v h1)
    holder h1 s1 e (Some (value.Mut q)) f = by (finish_word q) refl
      where
        by : (w : Option ℕ) → finish_word q ≡ w → EndBlind (follow_holder q w h1)
        by None g = tt
        by (Some w) g = written (write_stars q.holder.depth 0 h1 (in_slot q.holder.slot)) (λ h end a. end_blind k n t s y i z r is it plain see own sp at_it h1 s1 q e f q.holder.depth (omega arith) h end a)
    holder h1 s1 e None f = tt
    holder h1 s1 e (Some value.Gone) f = tt
    holder h1 s1 e (Some (value.Own v)) f = tt
    holder h1 s1 e (Some (value.SharedSlot j)) f = tt
    holder h1 s1 e (Some (value.MutSlot j)) f = tt
    holder h1 s1 e (Some (value.Shared q)) f = tt
    holder h1 s1 e (Some (value.Held m)) f = tt

    followed : (p : Prepared) → clean_value sp (value_at h0 sp) h0 ≡ p → EndBlind (and_then Follows p)
    followed (ready h1 s1) e = holder h1 s1 e (value_at h1 s1) refl
    followed (requested h) e = tt
    followed nothing e = tt

    ended : Fits (Some (EndRef sp))
    ended = record {
      aside = λ h1 s1 q w e there word j lt h2 s2 a. end_blind k n t s y i z r is it plain see own sp at_it h1 s1 q e there j (omega (arith, lt)) h2 s2 a;
      end = λ h end e. end_is (end_ref sp h0) (unlabels (and_then Follows (clean_value sp (value_at h0 sp) h0)) (followed (clean_value sp (value_at h0 sp) h0) refl)) h end e;
    }

  -- where it stands
  abbrev in_slot_it : (r : MutRef) (j : ℕ) → slice_get y.slots j ≡ Some (value.Mut r) → Unnamed E (slot_k tn j) → EndsAt k c x on r
  in_slot_it r j e free = record {
    at = at_slot tn j;
    stands = ap (λ o. slot_of o j) (stands_there k c x on) ∙ e;
    there = slot_there k c x on j r e;
    free = subst (Unnamed E) (key_of (slot_there k c x on j r e).is) free;
    own = λ a b f. sym (slots_of_one (key_of (slot_there k c x on j r e).is ∙ f));
  }

  abbrev in_temp_it : (r : MutRef) (j : ℕ) → slice_get y.temps j ≡ Some (value.Mut r) → EndsAt k c x on r
  in_temp_it r j e = record {
    at = at_temp tn j;
    stands = ap (λ o. temp_of o j) (stands_there k c x on) ∙ e;
    there = temp_there k c x on j r e;
    free = subst (Unnamed E) (key_of (temp_there k c x on j r e).is) (temp_unnamed k c tn j);
    own = λ a b f. absurd (temp_no_slot (key_of (temp_there k c x on j r e).is ∙ f));
  }

  -- what an assignment, a discard or the drop of a slot may end
  may_end : (sp : Spot) (v : Option Value) → ((r : MutRef) → v ≡ Some (value.Mut r) → Fits (Some (EndRef sp))) → Fits (ending sp v)
  may_end sp (Some (value.Mut r)) f = f r refl
  may_end sp None f = no_access
  may_end sp (Some value.Gone) f = no_access
  may_end sp (Some (value.Own v)) f = no_access
  may_end sp (Some (value.SharedSlot j)) f = no_access
  may_end sp (Some (value.MutSlot j)) f = no_access
  may_end sp (Some (value.Shared q)) f = no_access
  may_end sp (Some (value.Held m)) f = no_access

  discards : i ≡ instr.Discard → Fits (ending on_top (last_of y.temps))
  discards e = may_end on_top (last_of y.temps) (λ r last.
      let is : path (sight k) x ≡ ends r = ap (λ b. path_of b y) (z.code ∙ ap Some e) ∙ ap paths_of.ending last in
      let l = last_is y.temps (value.Mut r) last in
      ended (record { ends_none = λ o f. (let g = sym e ∙ f in absurd (cc g)); pairs_none = λ f. (let g = sym e ∙ f in absurd (cc g)) }) r is (in_temp_it r l.0 l.2) on_top (on_its_top last))

  drops : i ≡ instr.DropSlot → Fits (ending (in_slot (length y.slots - 1)) (last_of y.slots))
  drops e = may_end (in_slot (length y.slots - 1)) (last_of y.slots) (λ r last.
      let is : path (sight k) x ≡ ends r = ap (λ b. path_of b y) (z.code ∙ ap Some e) ∙ ap paths_of.ending last in
      let l = last_is y.slots (value.Mut r) last in
      let at_it = typed k n t s y i z in
      let free = newest_free k c x on l.0 l.1 (dropped_at (types k n t s y i z).table y.pc (entry k n t s y i z) at_it.0 (subst (λ j. Rattle.law_words_values.specs.Below.fr_code.CodeTable.Leads (types k n t s y i z).table y.pc (entry k n t s y i z) j at_it.0) e at_it.1)) in
      let it = in_slot_it r l.0 l.2 free in
      let where_it : l.0 ≡ length y.slots - 1 = (let q = l.1 in omega (arith, q)) in
      subst (λ j. Fits (Some (EndRef (in_slot j)))) where_it
      (ended (record { ends_none = λ o f. (let g = sym e ∙ f in absurd (cc g)); pairs_none = λ f. (let g = sym e ∙ f in absurd (cc g)) }) r is it (in_slot l.0) (in_its_slot l.0 l.2 refl)))

  assigned_fits : (w : Lval) (o : Operand) → i ≡ instr.Assign w o → Fits (assigned w w.depth y)
  assigned_fits w o e = by w.depth refl
    where
      by : (d : ℕ) → w.depth ≡ d → Fits (assigned w d y)
      by zero deep = may_end (in_slot w.slot) (slice_get y.slots w.slot) (λ r there.
          let code = z.code ∙ ap Some e in
          let is : path (sight k) x ≡ ends r = ap (λ b. path_of b y) code ∙ ap (assigning y.slots w) deep ∙ ap paths_of.ending there in
          let it = in_slot_it r w.slot there (may_write_there k c x on (instr.Assign w o) w code assigns_to).free in
          ended (record { ends_none = λ p f. (let g = sym e ∙ f in absurd (cc g)); pairs_none = λ f. (let g = sym e ∙ f in absurd (cc g)) }) r is it (in_slot w.slot) (in_its_slot w.slot there refl))
      by (suc d) deep = writes w d (subst (λ j. WritesThrough j w d) (sym e) (assigns o deep))

  taken_fits : (w : Lval) → i ≡ instr.Read w true → Fits (Some (read_or_taken w w.depth true))
  taken_fits w e = by w.depth refl
    where
      by : (d : ℕ) → w.depth ≡ d → Fits (Some (read_or_taken w d true))
      by zero deep = record {
        aside = tt;
        end = λ h sp q. (let at_once : read_stars zero h0 (in_slot w.slot) ≡ ready h sp = sym (ap (λ m. read_stars m h0 (in_slot w.slot)) deep) ∙ q in subst (λ a. Blind see a h.work.rest.partition) (ready_is at_once) tt);
      }
      by (suc d) deep = writes w d (subst (λ j. WritesThrough j w d) (sym e) (moves deep))

  -- THE STEP

  -- what each instruction passes and covers
  record FitsStep (j : Instr) : Type 0 where
    aside : made.Aside see s.rest.number least (access_of j y) h0
    covers : (h : Hand) (sp : Spot) → prepare (access_of j y) h0 ≡ ready h sp → Covers see j sp h.work.rest.partition

  fits : (j : Instr) → i ≡ j → FitsStep j
  fits (instr.Assign w o) e = let a = assigned_fits w o e in record { aside = a.aside; covers = a.end }
  fits (instr.Read w true) e = let a = taken_fits w e in record { aside = a.aside; covers = a.end }
  fits instr.Discard e = let a = discards e in record { aside = a.aside; covers = a.end }
  fits instr.DropSlot e = let a = drops e in record { aside = a.aside; covers = a.end }
  fits (instr.Read w false) e = record { aside = by w.depth; covers = λ h sp q. tt }
    where
      by : (d : ℕ) → made.Aside see s.rest.number least (Some (read_or_taken w d false)) h0
      by zero = tt
      by (suc d) = tt
  fits (instr.Let o) e = record { aside = tt; covers = λ h sp q. tt }
  fits (instr.Borrow w) e = record { aside = tt; covers = λ h sp q. tt }
  fits (instr.BorrowMut w) e = record { aside = tt; covers = λ h sp q. tt }
  fits (instr.Box o) e = record { aside = tt; covers = λ h sp q. tt }
  fits (instr.Arith f a b) e = record { aside = tt; covers = λ h sp q. tt }
  fits (instr.Print o) e = record { aside = tt; covers = λ h sp q. tt }
  fits (instr.Spawn cs pc) e = record { aside = tt; covers = λ h sp q. tt }
  fits (instr.Join o) e = record { aside = tt; covers = λ h sp q. tt }
  fits (instr.Mutex o) e = record { aside = tt; covers = λ h sp q. tt }
  fits (instr.Dup w) e = record { aside = tt; covers = λ h sp q. tt }
  fits (instr.Lock w) e = record { aside = tt; covers = λ h sp q. tt }
  fits instr.Unlock e = record { aside = tt; covers = λ h sp q. tt }
  fits (instr.Par cs pc ds other) e = record { aside = tt; covers = λ h sp q. tt }
  fits instr.ParEnd e = record { aside = tt; covers = λ h sp q. tt }
  fits (instr.End o) e = record { aside = tt; covers = λ h sp q. tt }

  pub step_leaves : (servers : ℕ) → InPlace s.rest.number s.rest.partition → Gives (EndsStep see s.rest.number least) (step servers i h0)
  step_leaves servers placed = by (prepare (access_of i y) h0) refl (prepares see s.rest.number least (access_of i y) h0 (fits i refl).aside start)
    where
      start : made.Good see s.rest.number least h0
      start = ((refl, omega arith), placed)

      by : (p : Prepared) → prepare (access_of i y) h0 ≡ p → made.Fine see s.rest.number least p → Gives (EndsStep see s.rest.number least) (prepared servers i p)
      by (ready h sp) e g = commits see s.rest.number least servers i sp h ((fits i refl).covers h sp e) g
      by (requested h) e g = g.0
      by nothing e g = tt
