-- What the act of a thread's plain step does with mutable references is what its instruction does.
use Rattle.std.proofs.Common.{◌≡◌, ℕ, true, false, List, [], ◌∷◌, reverse, map, length, Option, Some, None, refl, sym, ap, subst, ◌∙◌}
use Rattle.std.specs.Prelude.{slice_get}
use Rattle.std.proofs.lemmas.List.{length-reverse, length-map}
use Rattle.law_types_events.specs.Below.fr_base.declared.instruction.Instr.{Instr}
use Rattle.law_types_events.specs.Below.fr_base.declared.instruction.Instr.TheVariants as instr
use Rattle.law_types_events.specs.Below.fr_base.declared.instruction.Operand.{Operand}
use Rattle.law_types_events.specs.Below.fr_base.declared.instruction.Operand.TheVariants as operand
use Rattle.law_types_events.specs.Below.fr_plain.declared.value.Value.{Value}
use Rattle.law_types_events.specs.Below.fr_plain.MachineActs.{Act}
use Rattle.law_types_events.specs.Below.fr_plain.MachineThreads.{Now, going, constant, temporary, on_value, next, Move, Life, alive, over, owing, loose, ended, life_move}
use Rattle.law_types_events.specs.Below.fr_plain.PlainState.{place_of, place_in, running, running_in}
use Rattle.law_types_events.specs.Below.fr_code.Steps.{Place, CodeMove, with_operand, run_instr, over_at, code_move, code_moves}
use Rattle.law_types_events.specs.Below.fr_code.Machine.{CodeRunning}
use Rattle.law_types_events.specs.Below.law_plain_values.acts.Keeps.{OnReferences, rests, on_references, KeepsReferences}
use Rattle.law_types_events.specs.Below.law_plain_threads.steps.Machines.{ReferencesKept}
use Rattle.law_types_events.specs.Below.fr_store.Typed.{KeyTypes}
use Rattle.law_types_events.specs.Below.journal.View.{EntryView}
use Rattle.law_types_events.specs.Below.server_model.Servers.{Cluster}
use Rattle.law_types_events.specs.Below.coherent_memory.Follow.{Standing}
use Rattle.law_types_events.specs.Below.coherent_memory.OneHeap.{plain_value, running_at}
use Rattle.law_types_events.specs.Below.law_words_paths.paths.HeapStore.{GoesOn}
use Rattle.law_types_events.proofs.Below.law_words_paths.paths.Sole.{some_is}
use Rattle.law_types_events.proofs.Below.law_types_still.heap.Following.{HasHeap, is_running}
use Rattle.law_types_events.specs.heap.States.{LeavesReferences}
use Rattle.law_types_events.proofs.holders.Came.{on_of}

-- AN INSTRUCTION

abbrev On : OnReferences → CodeMove → Type 0
On x m = on_references m.act ≡ x

operand_on : (o : Operand) (ts : List Value) (go : Value → List Value → Option CodeMove) (m : CodeMove) (x : OnReferences) → with_operand o ts go ≡ Some m → ((v : Value) (us : List Value) → go v us ≡ Some m → On x m) → On x m
operand_on (operand.Const n) ts go m x e h = h _ ts e
operand_on operand.Unit ts go m x e h = h _ ts e
operand_on operand.Pop [] go m x e h = absurd cc
operand_on operand.Pop (v ∷ ts) go m x e h = h v ts e

of_move : (a m : CodeMove) → Some a ≡ Some m → On (on_references a.act) m
of_move a m e = sym (ap (λ (z : CodeMove). on_references z.act) (some_is e))

act_on : (i : Instr) (pc : ℕ) (ts : List Value) (m : CodeMove) → run_instr (Some i) pc ts ≡ Some m → On (on_of i) m
act_on (instr.Let o) pc ts m e = operand_on o ts _ m _ e (λ v us f. of_move _ m f)
act_on (instr.Assign w o) pc ts m e = operand_on o ts _ m _ e (λ v us f. of_move _ m f)
act_on (instr.Read w true) pc ts m e = of_move _ m e
act_on (instr.Read w false) pc ts m e = of_move _ m e
act_on (instr.Borrow w) pc ts m e = of_move _ m e
act_on (instr.BorrowMut w) pc ts m e = of_move _ m e
act_on (instr.Box o) pc ts m e = operand_on o ts _ m _ e (λ v us f. of_move _ m f)
act_on (instr.Arith f a b) pc ts m e = operand_on b ts _ m _ e (λ w us g. operand_on a us _ m _ g (λ v vs h. of_move _ m h))
act_on (instr.Print o) pc ts m e = operand_on o ts _ m _ e (λ v us f. of_move _ m f)
act_on instr.Discard pc ts m e = operand_on operand.Pop ts _ m _ e (λ v us f. of_move _ m f)
act_on instr.DropSlot pc ts m e = of_move _ m e
act_on (instr.Spawn xs body) pc ts m e = of_move _ m e
act_on (instr.Join o) pc ts m e = operand_on o ts _ m _ e (λ v us f. of_move _ m f)
act_on (instr.Mutex o) pc ts m e = operand_on o ts _ m _ e (λ v us f. of_move _ m f)
act_on (instr.Dup w) pc ts m e = of_move _ m e
act_on (instr.Lock w) pc ts m e = of_move _ m e
act_on instr.Unlock pc ts m e = of_move _ m e
act_on (instr.Par xs body ys other) pc ts m e = of_move _ m e
act_on instr.ParEnd pc ts m e = of_move _ m e
act_on (instr.End o) pc ts m e = absurd cc

-- an end does nothing with them
end_rests : (i : Instr) (ts : List Value) → (over_at (Some i) ts ≡ going → ⊥) → on_of i ≡ rests
end_rests (instr.Let o) ts ne = absurd (ne refl)
end_rests (instr.Assign w o) ts ne = absurd (ne refl)
end_rests (instr.Read w true) ts ne = absurd (ne refl)
end_rests (instr.Read w false) ts ne = refl
end_rests (instr.Borrow w) ts ne = refl
end_rests (instr.BorrowMut w) ts ne = absurd (ne refl)
end_rests (instr.Box o) ts ne = refl
end_rests (instr.Arith f a b) ts ne = refl
end_rests (instr.Print o) ts ne = refl
end_rests instr.Discard ts ne = refl
end_rests instr.DropSlot ts ne = refl
end_rests (instr.Spawn xs body) ts ne = refl
end_rests (instr.Join o) ts ne = refl
end_rests (instr.Mutex o) ts ne = refl
end_rests (instr.Dup w) ts ne = refl
end_rests (instr.Lock w) ts ne = refl
end_rests instr.Unlock ts ne = refl
end_rests (instr.Par xs body ys other) ts ne = refl
end_rests instr.ParEnd ts ne = refl
end_rests (instr.End o) ts ne = refl

-- A THREAD

abbrev LifeMove : Type 0
LifeMove = Move Place (Life Place)

module _ (i : Instr) (p : Place) where
  not_going : {n : Now} (v : Value) → n ≡ constant v → n ≡ going → ⊥
  not_going v e f = let z : constant v ≡ going = sym e ∙ f in cc

  not_going_yet : {n : Now} (v : Value) → n ≡ temporary v → n ≡ going → ⊥
  not_going_yet v e f = let z : temporary v ≡ going = sym e ∙ f in cc

  goes_on : (wrap : Place → Life Place) (o : Option CodeMove) → run_instr (Some i) p.pc p.temps ≡ o → (m : LifeMove) → next wrap o ≡ Some m → on_references m.act ≡ on_of i
  goes_on wrap None q m e = absurd cc
  goes_on wrap (Some a) q m e = sym (ap (λ (z : LifeMove). on_references z.act) (some_is e)) ∙ act_on i p.pc p.temps a q

  by_end : (wrap : Place → Life Place) (f : Value → Option LifeMove) → ((v : Value) (m : LifeMove) → f v ≡ Some m → on_references m.act ≡ rests) → (n : Now) → over_at (Some i) p.temps ≡ n → (m : LifeMove)
      → on_value n f (next wrap (run_instr (Some i) p.pc p.temps)) ≡ Some m → on_references m.act ≡ on_of i
  by_end wrap f ends going q m e = goes_on wrap (run_instr (Some i) p.pc p.temps) refl m e
  by_end wrap f ends (constant v) q m e = ends v m e ∙ sym (end_rests i p.temps (not_going v q))
  by_end wrap f ends (temporary v) q m e = ends v m e ∙ sym (end_rests i p.temps (not_going_yet v q))

  module _ (code : List Instr) (there : slice_get code p.pc ≡ Some i) where
    at_code : (wrap : Place → Life Place) (f : Value → Option LifeMove) (m : LifeMove) → on_value (over_at (slice_get code p.pc) p.temps) f (next wrap (code_move code p.pc p.temps)) ≡ Some m → on_value (over_at (Some i) p.temps) f (next wrap (run_instr (Some i) p.pc p.temps)) ≡ Some m
    at_code wrap f m e = subst (λ j. on_value (over_at j p.temps) f (next wrap (run_instr j p.pc p.temps)) ≡ Some m) there e

    of_alone : (a : Act Place) (g : Value → Life Place) (m : LifeMove) → on_references a ≡ rests → Some (record { act = a; plug = g }) ≡ Some m → on_references m.act ≡ rests
    of_alone a g m r e = sym (ap (λ (z : LifeMove). on_references z.act) (some_is e)) ∙ r

    -- a thread that goes on at that place
    life_on : (l : Life Place) (slots : List Value) (r : CodeRunning) → place_of (running slots l) ≡ Some r → r.place ≡ p → (m : LifeMove) → life_move (code_moves code) l ≡ Some m → on_references m.act ≡ on_of i
    life_on (alive a) slots r e same m makes = let z : a ≡ p = ap (λ (y : CodeRunning). y.place) (some_is e) ∙ same in
        by_end alive _ (λ v n f. of_alone _ _ n refl f) (over_at (Some i) p.temps) refl m (at_code alive _ m (subst (λ b. life_move (code_moves code) (alive b) ≡ Some m) z makes))
    life_on (owing a) slots r e same m makes = let z : a ≡ p = ap (λ (y : CodeRunning). y.place) (some_is e) ∙ same in
        by_end owing _ (λ v n f. of_alone _ _ n refl f) (over_at (Some i) p.temps) refl m (at_code owing _ m (subst (λ b. life_move (code_moves code) (owing b) ≡ Some m) z makes))
    life_on (loose a) slots r e same m makes = let z : a ≡ p = ap (λ (y : CodeRunning). y.place) (some_is e) ∙ same in
        by_end loose _ (λ v n f. of_alone _ _ n refl f) (over_at (Some i) p.temps) refl m (at_code loose _ m (subst (λ b. life_move (code_moves code) (loose b) ≡ Some m) z makes))
    life_on over slots r e same m makes = absurd cc
    life_on (ended v) slots r e same m makes = absurd cc

-- its slots
life_slots : (l : Life Place) (slots : List Value) (r : CodeRunning) → place_of (running slots l) ≡ Some r → slots ≡ r.slots
life_slots (alive a) slots r e = ap (λ (y : CodeRunning). y.slots) (some_is e)
life_slots (owing a) slots r e = ap (λ (y : CodeRunning). y.slots) (some_is e)
life_slots (loose a) slots r e = ap (λ (y : CodeRunning). y.slots) (some_is e)
life_slots over slots r e = absurd cc
life_slots (ended v) slots r e = absurd cc

-- the exact types of mutable references came from where the instruction takes these
pub kept_by : (k : Cluster) (c : HasHeap k) (x : Standing) (g : GoesOn k x) (i : Instr) → slice_get k.code x.thread.pc ≡ Some i → (entry : EntryView) (had has : KeyTypes) → LeavesReferences k entry had has → entry.thread ≡ Some x.thread.number
    → KeepsReferences (on_of i) x.thread.number (length x.thread.slots) had has
kept_by k c x g i code entry had has leaves at =
    let same : leaves.thread ≡ x.thread.number = some_is (sym leaves.is ∙ at) in
    let r : ReferencesKept (code_moves k.code) leaves.whole x.thread.number had has = subst (λ n. ReferencesKept (code_moves k.code) leaves.whole n had has) same leaves.refs in
    let shown : place_of (running r.thread.slots r.thread.life) ≡ Some (running_at x.thread) = sym (ap (λ o. place_in (running_in o)) r.found) ∙ ap place_in (leaves.shows.threads x.thread.number) ∙ is_running k c x g in
    let does : on_references r.move.act ≡ on_of i = life_on i (running_at x.thread).place k.code code r.thread.life r.thread.slots (running_at x.thread) shown refl r.move r.makes in
    let slots : r.thread.slots ≡ reverse (map plain_value x.thread.slots) = life_slots r.thread.life r.thread.slots (running_at x.thread) shown in
    let long : length r.thread.slots ≡ length x.thread.slots = ap (λ (l : List Value). length l) slots ∙ length-reverse (map plain_value x.thread.slots) ∙ length-map x.thread.slots plain_value in
    subst (λ n. KeepsReferences (on_of i) x.thread.number n had has) long (subst (λ o. KeepsReferences o x.thread.number (length r.thread.slots) had has) does r.refs)
