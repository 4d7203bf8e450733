-- Each enabled discard, drop of a slot and assignment that ends a mutable reference has a result.
use Rattle.std.proofs.Common.{◌≡◌, ◌≤◌, ◌<◌, ℕ, zero, suc, ◌-◌, nat_lt, Bool, true, false, if◌then◌else◌, List, [], ◌∷◌, length, reverse, take, Option, Some, None, option_map, IsSome, refl, sym, ap, subst, ◌∙◌, arith}
use Rattle.std.specs.Prelude.{slice_get, slice_set}
use Rattle.std.proofs.lemmas.Option.{slice_get_within}
use Rattle.std.proofs.lemmas.Bool.Decides.{nat_tests}
use Rattle.law_results_reads.specs.Below.fr_base.Lists.{last_of}
use Rattle.law_results_reads.specs.Below.fr_base.declared.place.Lval.{Lval}
use Rattle.law_results_reads.specs.Below.fr_base.declared.instruction.Operand.{Operand}
use Rattle.law_results_reads.specs.Below.fr_base.declared.instruction.Instr.{Instr}
use Rattle.law_results_reads.specs.Below.fr_base.declared.instruction.Instr.TheVariants as instr
use Rattle.law_results_reads.specs.Below.fr_typing.Kinds.{Kind}
use Rattle.law_results_reads.specs.Below.fr_store.Keys.{slot_k, temp_k}
use Rattle.law_results_reads.specs.Below.fr_store.Typed.{KeyTypes, Unnamed}
use Rattle.law_results_reads.specs.Below.fr_code.CodeTypes.{Entry, Table, Takes, InstrTypes, i_assign}
use Rattle.law_results_reads.specs.Below.mut_borrow.declared.mutable.MutRef.{MutRef}
use Rattle.law_results_reads.specs.Below.thread_state.View.{ThreadState}
use Rattle.law_results_reads.specs.Below.thread_state.declared.value.Value.{Value}
use Rattle.law_results_reads.specs.Below.thread_state.declared.value.Value.TheVariants as value
use Rattle.law_results_reads.specs.Below.server_model.declared.event.What.TheVariants.{Step}
use Rattle.law_results_reads.specs.Below.server_model.Servers.{Server, Cluster}
use Rattle.law_results_reads.specs.Below.server_model.Work.{Hand, Popped, with_slots, with_temps, front_of, then_some}
use Rattle.law_results_reads.specs.Below.server_model.Places.{Spot, in_slot, on_top, put_slot}
use Rattle.law_results_reads.specs.Below.server_model.Prepare.{Prepared, ready, requested, nothing, EndRef, ending, assigned, access_of, prepare, end_ref}
use Rattle.law_results_reads.specs.Below.server_model.Drop.{drop_value}
use Rattle.law_results_reads.specs.Below.server_model.Commit.{goes_on, label_dropped, replace_slot, assign, discard, drop_slot, commit}
use Rattle.law_results_reads.specs.Below.server_model.Events.{committed, prepared}
use Rattle.law_results_reads.specs.Below.coherent_memory.Things.{at_slot, at_temp}
use Rattle.law_results_reads.specs.Below.coherent_memory.Follow.{Standing, slot_of, temp_of}
use Rattle.law_results_reads.specs.Below.coherent_memory.Paths.{ends, path_of, assigning}
use Rattle.law_results_reads.specs.Below.coherent_memory.Paths as paths_of
use Rattle.law_results_reads.specs.Below.coherent_memory.Sight.{sight}
use Rattle.law_results_reads.specs.Below.coherent_memory.Walking.{path}
use Rattle.law_results_reads.specs.Below.law_counts_sums.Kinds.{step_assign, step_discard, step_drop_slot, instr_kind}
use Rattle.law_results_reads.specs.Below.law_counts_sums.Laws.{HasResult}
use Rattle.law_results_reads.specs.Below.coherent_types.Names.{NameTypes}
use Rattle.law_results_reads.specs.Below.coherent_types.ClusterTypes.{temps_wrong}
use Rattle.law_results_reads.specs.Below.law_words_paths.paths.HeapStore.{GoesOn, HasPaths}
use Rattle.law_results_reads.specs.Below.law_words_paths.paths.Pointing.{assigns}
use Rattle.law_results_reads.proofs.Below.law_words_paths.paths.Ended.{newest_free, dropped_at}
use Rattle.law_results_reads.proofs.Below.law_words_paths.paths.FreshPaths.{slot_there, temp_there}
use Rattle.law_results_reads.proofs.Below.law_words_paths.paths.MayWrites.{may_write_there}
use Rattle.law_results_reads.proofs.Below.law_words_paths.paths.Pointers.{temp_unnamed}
use Rattle.law_results_reads.proofs.Below.law_words_paths.paths.Shown.{stands_there}
use Rattle.law_words_kept.proofs.ends.Ends.{EndsAt, last_is, key_of}
use Rattle.law_results_reads.specs.Results.{StepsHaveResults}
use Rattle.law_results_reads.proofs.Operands.{gets}
use Rattle.law_results_reads.proofs.Known.{Steps, hand, standing, paths, goes, types, names, entry, typed, temps_fit, has_result}
use Rattle.law_results_reads.proofs.Readers.{to_entry}
use Rattle.law_results_events.proofs.writes.Follows.{EndsReference}
use Rattle.law_results_events.proofs.writes.Route.{set_other}
use Rattle.law_results_events.proofs.writes.Ends.{Pointed, in_a_slot, in_a_cell, finishes, RefAt, in_its_slot, on_its_top, IsReady, EndFine, ends_ref}

slots_of_one : {t u i j : ℕ} → slot_k t i ≡ slot_k u j → t ≡ u
slots_of_one e = cc

temp_no_slot : {t u i j : ℕ} → temp_k t i ≡ slot_k u j → ⊥
temp_no_slot e = absurd (cc e)

taken_front : (xs : List Value) (n m : ℕ) → m < n → slice_get (take n xs) m ≡ slice_get xs m
taken_front xs zero m l = absurd (omega (arith, l))
taken_front [] (suc n) m l = refl
taken_front (x ∷ xs) (suc n) zero l = refl
taken_front (x ∷ xs) (suc n) (suc m) l = taken_front xs n m (omega (arith, l))

module _ (k : Cluster) (n t : ℕ) (s : Server) (y : ThreadState) (i : Instr) (z : Steps k n t s y i) (r : MutRef) (is : path (sight k) (standing k n t s y i z) ≡ ends r) where
  abbrev x : Standing
  x = standing k n t s y i z

  abbrev c : HasPaths k
  c = paths k n t s y i z

  abbrev on : GoesOn k x
  on = goes k n t s y i z

  abbrev E : KeyTypes
  E = c.types.typing.exact

  abbrev tn : ℕ
  tn = y.number

  abbrev servers : ℕ
  servers = k.options.servers

  abbrev Goes : Option Hand → Type 0
  Goes o = IsSome (committed (goes_on o))

  -- WHERE IT STANDS

  abbrev in_slot_it : (j : ℕ) → slice_get y.slots j ≡ Some (value.Mut r) → Unnamed E (slot_k tn j) → EndsAt k c x on r
  in_slot_it j e free = record {
    at = at_slot tn j;
    stands = ap (λ o. slot_of o j) (stands_there k c x on) ∙ e;
    there = slot_there k c x on j r e;
    free = subst (Unnamed E) (key_of (slot_there k c x on j r e).is) free;
    own = λ a b f. sym (slots_of_one (key_of (slot_there k c x on j r e).is ∙ f));
  }

  abbrev in_temp_it : (j : ℕ) → slice_get y.temps j ≡ Some (value.Mut r) → EndsAt k c x on r
  in_temp_it j e = record {
    at = at_temp tn j;
    stands = ap (λ o. temp_of o j) (stands_there k c x on) ∙ e;
    there = temp_there k c x on j r e;
    free = subst (Unnamed E) (key_of (temp_there k c x on j r e).is) (temp_unnamed k c tn j);
    own = λ a b f. absurd (temp_no_slot (key_of (temp_there k c x on j r e).is ∙ f));
  }

  -- THE END

  module _ (it : EndsAt k c x on r) where
    abbrev Ready : Spot → Hand → Spot → Type 0
    Ready sp h end = IsReady k n t s y i z r is it sp h.work.rest h.thread end

    on_ready : (sp : Spot) (p : Prepared) → EndFine k n t s y i z r is it sp p → ((h : Hand) (end : Spot) → Ready sp h end → IsSome (committed (commit servers i end h))) → IsSome (prepared servers i p)
    on_ready sp (ready h end) f go = go h end f
    on_ready sp (requested h) f go = refl
    on_ready sp nothing f go = absurd f

    pub steps_on : (sp : Spot) → RefAt k n t s y i z r is it sp → ((h : Hand) (end : Spot) → Ready sp h end → IsSome (committed (commit servers i end h))) → IsSome (prepared servers i (end_ref sp (hand k n t s y i z)))
    steps_on sp at_it go = on_ready sp (end_ref sp (hand k n t s y i z)) (ends_ref k n t s y i z r is it sp at_it) go

    -- off the top of the temporary values
    discards : (h : Hand) (end : Spot) → Ready on_top h end → Goes (discard end h)
    discards h end a =
        let v : Value = value.Mut a.reference in
        subst (λ o. Goes (then_some {X = Popped Value} (option_map (λ u. record { item = u; hand = with_temps (front_of h.thread.temps) h }) o) (λ b. drop_value end b.item (label_dropped b.item b.hand)))) (sym a.there)
        (finishes k n t s y i z (label_dropped v (with_temps (front_of h.thread.temps) h)) end a.reference a.clean_now (λ w e. again end (a.pointed w e).0) (record { walk = a.walk; cache = a.cache }))
      where
        again : (sp : Spot) → Pointed h.work.rest h.thread sp → Pointed h.work.rest (record h.thread { temps = front_of h.thread.temps }) sp
        again _ (in_a_slot m v there takes) = in_a_slot m v there takes
        again _ (in_a_cell w q b p leads boxed) = in_a_cell w q b p leads boxed

    -- with its slot
    drops : (j : ℕ) → length y.slots ≡ suc j → (h : Hand) (end : Spot) → Ready (in_slot j) h end → Goes (drop_slot end h)
    drops j long h end a =
        let v : Value = value.Mut a.reference in
        subst (λ o. Goes (then_some {X = Popped Value} (option_map (λ u. record { item = u; hand = with_slots (front_of h.thread.slots) h }) o) (λ b. drop_value end b.item (label_dropped b.item b.hand)))) (sym (ap (slice_get h.thread.slots) last ∙ a.there))
        (finishes k n t s y i z (label_dropped v (with_slots (front_of h.thread.slots) h)) end a.reference a.clean_now (λ w e. let b = a.pointed w e in again end b.0 (b.1)) (record { walk = a.walk; cache = a.cache }))
      where
        last : length h.thread.slots - 1 ≡ j
        last = let e = a.size in omega (arith, e, long)

        again : (sp : Spot) → Pointed h.work.rest h.thread sp → ((m : ℕ) → sp ≡ in_slot m → in_slot j ≡ in_slot m → ⊥) → Pointed h.work.rest (record h.thread { slots = front_of h.thread.slots }) sp
        again _ (in_a_slot m v there takes) apart =
            let other : j ≡ m → ⊥ = λ e. apart m refl (ap in_slot e) in
            let within : m < length h.thread.slots = slice_get_within h.thread.slots m v there in
            let less : m < length h.thread.slots - 1 = (let e = a.size in below m other (omega (arith, within, e, long)) last) in
            in_a_slot m v (taken_front h.thread.slots (length h.thread.slots - 1) m less ∙ there) takes
          where
            below : (m : ℕ) → (j ≡ m → ⊥) → m ≤ j → length h.thread.slots - 1 ≡ j → m < length h.thread.slots - 1
            below m ne le e = by (nat_lt m j) refl
              where
                by : (b : Bool) → nat_lt m j ≡ b → m < length h.thread.slots - 1
                by true f = let l : m < j = grind (arith, nat_tests, f) in omega (arith, l, e)
                by false f = let l : j ≤ m = grind (arith, nat_tests, f) in absurd (ne (omega (arith, l, le)))
        again _ (in_a_cell w q b p leads boxed) apart = in_a_cell w q b p leads boxed

    -- where another value takes its place
    replaces : (j : ℕ) (v : Value) (rest : List Value) (h : Hand) (end : Spot) → Ready (in_slot j) h end → Goes (replace_slot j end v (with_temps rest h))
    replaces j v rest h end a =
        let u : Value = value.Mut a.reference in
        let within : j < length h.thread.slots = slice_get_within h.thread.slots j u a.there in
        let test : nat_lt j (length h.thread.slots) ≡ true = grind (arith, nat_tests, within) in
        let h1 : Hand = label_dropped u (with_temps rest h) in
        let h2 : Hand = with_slots (slice_set h.thread.slots j v) h1 in
        subst (λ o. Goes (then_some o (λ old. then_some (put_slot j v (label_dropped old (with_temps rest h))) (drop_value end old)))) (sym a.there)
        (subst (λ b. Goes (then_some (if b then Some h2 else None) (drop_value end u))) (sym test)
        (finishes k n t s y i z h2 end a.reference a.clean_now (λ w e. let b = a.pointed w e in again end b.0 (b.1)) (record { walk = a.walk; cache = a.cache })))
      where
        again : (sp : Spot) → Pointed h.work.rest h.thread sp → ((m : ℕ) → sp ≡ in_slot m → in_slot j ≡ in_slot m → ⊥) → Pointed h.work.rest (record h.thread { slots = slice_set h.thread.slots j v; temps = rest }) sp
        again _ (in_a_slot m u there takes) apart = in_a_slot m u (set_other h.thread.slots j m v (λ e. apart m refl (ap in_slot (sym e))) ∙ there) takes
        again _ (in_a_cell w q b p leads boxed) apart = in_a_cell w q b p leads boxed

-- EACH OF THEM

ended_value : (a : Spot) (v : Option Value) → EndsReference (ending a v) → (r : MutRef) × (v ≡ Some (value.Mut r))
ended_value a (Some (value.Mut r)) g = (r, refl)
ended_value a None g = elim g [ ]
ended_value a (Some value.Gone) g = elim g [ ]
ended_value a (Some (value.Own u)) g = elim g [ ]
ended_value a (Some (value.SharedSlot j)) g = elim g [ ]
ended_value a (Some (value.MutSlot j)) g = elim g [ ]
ended_value a (Some (value.Shared r)) g = elim g [ ]
ended_value a (Some (value.Held m)) g = elim g [ ]

discard_step : (k : Cluster) (n t : ℕ) (s : Server) (y : ThreadState) → Steps k n t s y instr.Discard → (r : MutRef) → last_of y.temps ≡ Some (value.Mut r) → HasResult k n (Step t)
discard_step k n t s y z r last =
    let i : Instr = instr.Discard in
    let is : path (sight k) (standing k n t s y i z) ≡ ends r = ap (λ b. path_of b y) z.code ∙ ap paths_of.ending last in
    let l = last_is y.temps (value.Mut r) last in
    let it = in_temp_it k n t s y i z r is l.0 l.2 in
    has_result k n t s y i z
    (subst (λ b. IsSome (prepared k.options.servers i (prepare (ending on_top b) (hand k n t s y i z)))) (sym last)
    (steps_on k n t s y i z r is it on_top (on_its_top last) (λ h end a. discards k n t s y i z r is it h end a)))

drop_step : (k : Cluster) (n t : ℕ) (s : Server) (y : ThreadState) → Steps k n t s y instr.DropSlot → (r : MutRef) → last_of y.slots ≡ Some (value.Mut r) → HasResult k n (Step t)
drop_step k n t s y z r last =
    let i : Instr = instr.DropSlot in
    let is : path (sight k) (standing k n t s y i z) ≡ ends r = ap (λ b. path_of b y) z.code ∙ ap paths_of.ending last in
    let l = last_is y.slots (value.Mut r) last in
    let at_it = typed k n t s y i z in
    let free = newest_free k (paths k n t s y i z) (standing k n t s y i z) (goes k n t s y i z) l.0 l.1 (dropped_at (types k n t s y i z).table y.pc (entry k n t s y i z) at_it.0 at_it.1) in
    let it = in_slot_it k n t s y i z r is l.0 l.2 free in
    let place : length y.slots - 1 ≡ l.0 = (let e = l.1 in omega (arith, e)) in
    has_result k n t s y i z
    (subst (λ b. IsSome (prepared k.options.servers i (prepare (ending (in_slot (length y.slots - 1)) b) (hand k n t s y i z)))) (sym last)
    (subst (λ b. IsSome (prepared k.options.servers i (end_ref (in_slot b) (hand k n t s y i z)))) (sym place)
    (steps_on k n t s y i z r is it (in_slot l.0) (in_its_slot l.0 l.2 refl) (λ h end a. drops k n t s y i z r is it l.0 l.1 h end a))))

-- what typing knows of what is assigned
record IsTaken (e : Entry) (o : Operand) : Type 0 where
  kind : Kind
  left : List Kind
  takes_it : Takes o e.temps kind left

taken_by : (table : Table) (e e2 : Entry) (w : Lval) (o : Operand) → InstrTypes table e (instr.Assign w o) e2 → IsTaken e o
taken_by table _ _ w o (i_assign {us = us} {k = q} takes has opens kept shape below) = record { kind = q; left = us; takes_it = takes }

assign_step : (k : Cluster) (n t : ℕ) (s : Server) (y : ThreadState) (w : Lval) (o : Operand) → w.depth ≡ 0 → Steps k n t s y (instr.Assign w o) → (r : MutRef) → slice_get y.slots w.slot ≡ Some (value.Mut r) → HasResult k n (Step t)
assign_step k n t s y w o depth z r there =
    let i : Instr = instr.Assign w o in
    let x = standing k n t s y i z in
    let c = paths k n t s y i z in
    let on = goes k n t s y i z in
    let is : path (sight k) x ≡ ends r = ap (λ b. path_of b y) z.code ∙ ap (assigning y.slots w) depth ∙ ap paths_of.ending there in
    let e = entry k n t s y i z in
    let N : NameTypes = names k n t s y i z in
    let at_it = typed k n t s y i z in
    let to = to_entry (types k n t s y i z).table y.pc e i at_it.0 at_it.1 (λ p f. cc) in
    let may = taken_by (types k n t s y i z).table e to.0 w o to.1 in
    let it = in_slot_it k n t s y i z r is w.slot there (may_write_there k c x on i w z.code assigns).free in
    has_result k n t s y i z
    (subst (λ d. IsSome (prepared k.options.servers i (prepare (assigned w d y) (hand k n t s y i z)))) (sym depth)
    (subst (λ b. IsSome (prepared k.options.servers i (prepare (ending (in_slot w.slot) b) (hand k n t s y i z)))) (sym there)
    (steps_on k n t s y i z r is it (in_slot w.slot) (in_its_slot w.slot there refl)
    (λ h end a.
    let temps : temps_wrong N e.temps (reverse h.thread.temps) ≡ 0 = ap (λ ts. temps_wrong N e.temps (reverse ts)) (a.temps (λ f. absurd (cc f))) ∙ temps_fit k n t s y i z in
    let got = gets N o e.temps may.left may.kind h may.takes_it temps in
    subst (λ d. IsSome (committed (goes_on (assign w d o end h)))) (sym depth)
    (subst (λ b. IsSome (committed (goes_on (then_some b (λ u. replace_slot w.slot end u.item u.hand))))) (sym got.pops)
    (replaces k n t s y i z r is it w.slot got.item got.rest h end a))))))

-- THE CLAUSES

pub ending_discards : StepsHaveResults step_discard EndsReference
ending_discards k n t s y i coherent few server on_it at_it code is f = by i code is f
  where
    by : (i : Instr) → slice_get k.code y.pc ≡ Some i → instr_kind i ≡ step_discard → EndsReference (access_of i y) → HasResult k n (Step t)
    by instr.Discard c e g = let v = ended_value on_top (last_of y.temps) g in discard_step k n t s y (record { coherent = coherent; few = few; here = server; on = on_it; at = at_it; code = c }) v.0 v.1
    by _ c e g = absurd (cc e)

pub ending_drops : StepsHaveResults step_drop_slot EndsReference
ending_drops k n t s y i coherent few server on_it at_it code is f = by i code is f
  where
    by : (i : Instr) → slice_get k.code y.pc ≡ Some i → instr_kind i ≡ step_drop_slot → EndsReference (access_of i y) → HasResult k n (Step t)
    by instr.DropSlot c e g = let v = ended_value (in_slot (length y.slots - 1)) (last_of y.slots) g in drop_step k n t s y (record { coherent = coherent; few = few; here = server; on = on_it; at = at_it; code = c }) v.0 v.1
    by _ c e g = absurd (cc e)

pub ending_assignments : StepsHaveResults step_assign EndsReference
ending_assignments k n t s y i coherent few server on_it at_it code is f = by i code is f
  where
    no_write : {w : Lval} → EndsReference (Some (Rattle.law_results_reads.specs.Below.server_model.Prepare.WriteTo w)) → ⊥
    no_write g = elim g [ ]

    by_depth : (w : Lval) (o : Operand) (d : ℕ) → w.depth ≡ d → slice_get k.code y.pc ≡ Some (instr.Assign w o) → EndsReference (assigned w d y) → HasResult k n (Step t)
    by_depth w o zero e c g = let v = ended_value (in_slot w.slot) (slice_get y.slots w.slot) g in assign_step k n t s y w o e (record { coherent = coherent; few = few; here = server; on = on_it; at = at_it; code = c }) v.0 v.1
    by_depth w o (suc d) e c g = absurd (no_write g)

    by : (i : Instr) → slice_get k.code y.pc ≡ Some i → instr_kind i ≡ step_assign → EndsReference (access_of i y) → HasResult k n (Step t)
    by (instr.Assign w o) c e g = by_depth w o w.depth refl c g
    by _ c e g = absurd (cc e)
