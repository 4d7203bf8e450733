-- Code with a table: each place of which something is known goes by a row, so its steps keep types and no thread is stuck.
use Rattle.std.proofs.Common.{◌≡◌, ⊎_elim, ◌∙◌, ℕ, ◌+◌, Bool, true, false, List, length, Option, Some, None, refl, sym, ap, ap₂, subst}
use Rattle.std.proofs.Math.Path.{fun_ext}
use Rattle.std.specs.Prelude.{IsSome, slice_get, if◌then◌else◌}
use Rattle.fr_base.specs.declared.step.Fresh.{Fresh}
use Rattle.fr_base.specs.declared.step.Wait.{Wait}
use Rattle.fr_base.specs.declared.instruction.Instr.{Instr}
use Rattle.fr_base.specs.declared.instruction.Instr.TheVariants as instr
use Rattle.fr_plain.specs.declared.value.Value.{Value}
use Rattle.fr_plain.specs.MachineThreads.{Now, Move, Moves, Thread, Whole, life_move, thread_at, is_over}
use Rattle.fr_plain.specs.MachineThreads as machine
use Rattle.fr_plain.specs.Machine.{Refusal, refused, refused_of, refused_wait, refused_names, takes_name, waits_for, step}
use Rattle.fr_plain.specs.Machine as plain_machine
use Rattle.fr_plain.specs.PlainState.{SameState, plain_state}
use Rattle.fr_plain.specs.Alike.{value_of}
use Rattle.fr_plain.proofs.RefusedSteps.{none_refused}
use Rattle.fr_sound.specs.Entries.{Entry}
use Rattle.fr_sound.specs.States.{Typing}
use Rattle.fr_code.specs.CodeTypes.{Table}
use Rattle.fr_code.specs.CodeTable.{Successors, Leads, to_next, ends, AllEnter, IsTable}
use Rattle.fr_code.specs.Steps.{Place, CodeMove, run_instr, over_at, code_moves}
use Rattle.fr_code.specs.Machine.{CodeState, CodeWhole, CodeStepped, code_step}
use Rattle.fr_code.specs.TableStates.{CodeStateTypes}
use Rattle.law_plain_values.specs.acts.ActRows.{left_after}
use Rattle.law_plain_values.specs.acts.Keeps.{KeepsNames}
use Rattle.law_plain_values.proofs.acts.CodeRows.{instructions_have_rows_lem, ends_have_rows}
use Rattle.law_plain_threads.specs.steps.Machines.{GoesBy, moves_by_row, ends_typed, PlacesGo, StepsOn, ReferencesKept}
use Rattle.law_plain_threads.specs.steps.Steps.{StepsKeepTypes, ShownStepsKeepTypes, IsNotStuck, has_ended, waits, steps, NeverStuck}
use Rattle.law_plain_threads.proofs.steps.AllSteps.{keeps_all_typed}

-- a thread is not stuck where each step that isn't refused is there
pub goes_or_waits : {P : Type 0} (ms : Moves P) (s : Whole P) (t : ℕ) (x : Thread P) → thread_at s.threads t ≡ Some x → ((names : Fresh) → refused ms s t names ≡ None → IsSome (step ms s t names)) → IsNotStuck ms s t x
goes_or_waits {P} ms s t x found go = by (is_over x.life) refl (waits_for ms s x) refl
  where
    allowed : is_over x.life ≡ false → waits_for ms s x ≡ None → (names : Fresh) → refused_names s (takes_name (life_move ms x.life)) names ≡ None → refused ms s t names ≡ None
    allowed is w names free =
        ap (refused_of ms s names) found
        ∙ ap (λ (b : Bool). if b then Some plain_machine.has_ended else refused_wait (waits_for ms s x) (refused_names s (takes_name (life_move ms x.life)) names)) is
        ∙ ap (λ o. refused_wait o (refused_names s (takes_name (life_move ms x.life)) names)) w
        ∙ free

    by : (b : Bool) → is_over x.life ≡ b → (o : Option Wait) → waits_for ms s x ≡ o → IsNotStuck ms s t x
    by true is o w = has_ended is
    by false is (Some v) w = waits v w
    by false is None w = steps (λ names free. go names (allowed is w names free))

-- an instruction that moves ends no thread
not_over : (i : Instr) (pc : ℕ) (vs : List Value) (m : CodeMove) → run_instr (Some i) pc vs ≡ Some m → over_at (Some i) vs ≡ machine.going
not_over (instr.End o) pc vs m e = absurd cc
not_over (instr.Let o) pc vs m e = refl
not_over (instr.Assign w o) pc vs m e = refl
not_over (instr.Read w take) pc vs m e = refl
not_over (instr.Borrow w) pc vs m e = refl
not_over (instr.BorrowMut w) pc vs m e = refl
not_over (instr.Box o) pc vs m e = refl
not_over (instr.Arith f a b) pc vs m e = refl
not_over (instr.Print o) pc vs m e = refl
not_over instr.Discard pc vs m e = refl
not_over instr.DropSlot pc vs m e = refl
not_over (instr.Spawn xs body) pc vs m e = refl
not_over (instr.Join o) pc vs m e = refl
not_over (instr.Mutex o) pc vs m e = refl
not_over (instr.Dup w) pc vs m e = refl
not_over (instr.Lock w) pc vs m e = refl
not_over instr.Unlock pc vs m e = refl
not_over (instr.Par xs body ys other) pc vs m e = refl
not_over instr.ParEnd pc vs m e = refl

module _ (code : List Instr) (table : Table) (h : IsTable code table) where
  abbrev known : Place → Option Entry
  known p = table p.pc

  abbrev values : Place → List Value
  values p = p.temps

  by_leads : (p : Place) {x : Entry} {i : Instr} {ss : Successors} → Leads table p.pc x i ss → slice_get code p.pc ≡ Some i → AllEnter table ss → length p.temps ≡ length x.temps → GoesBy known values (code_moves code) p x
  by_leads p {x = x} {i = i} (to_next {y = y} t) there enter long =
      let r = instructions_have_rows_lem table p.pc x y i p.temps t long in
      let m : CodeMove = record { act = r.act; plug = λ v. record { pc = p.pc + 1; temps = left_after r.leaves v } } in
      moves_by_row m r.leaves y (ap (λ o. over_at o p.temps) there ∙ not_over i p.pc p.temps m r.is) (ap (λ o. run_instr o p.pc p.temps) there ∙ r.is) r.row (λ v. record { left = refl; entry = enter.0.entry; known = enter.0.at; joins = enter.0.joins })
  by_leads p (ends {ts = ts} {g = g} {o = o} t) there enter long =
      let r = ends_have_rows ts g o p.temps t long in
      ends_typed r.value (ap (λ k. value_of (over_at k p.temps)) there ∙ ⊎_elim (λ e. ap value_of e) (λ e. ap value_of e) r.is) r.ends

  -- each place of which something is known goes by a row, or is at its end
  pub code_goes : PlacesGo known values (code_moves code)
  code_goes p x e long = let r = h.rows p.pc x e in by_leads p r.leads r.there r.enter long

  pub steps_on : (y : Typing) (c : CodeWhole) → CodeStateTypes table y (plain_state c) → (t : ℕ) (names : Fresh) → refused (code_moves code) c t names ≡ None → StepsOn known values (code_moves code) y c t names
  steps_on y c st t names free = keeps_all_typed known values (code_moves code) code_goes y c st t names free

  -- a step leads to a typed state
  step_typed : (y : Typing) (c : CodeWhole) → CodeStateTypes table y (plain_state c) → (t : ℕ) (names : Fresh) (x : CodeStepped) → code_step code c t names ≡ Some x → (o : Option Refusal) → refused (code_moves code) c t names ≡ o → (z : Typing) × CodeStateTypes table z (plain_state x.state) × KeepsNames (plain_state c) y.gives z.gives × ReferencesKept (code_moves code) c t y.exact z.exact
  step_typed y c st t names x e None free = let d = steps_on y c st t names free in let same : d.next ≡ x = (let f : Some d.next ≡ Some x = sym d.is ∙ e in cc) in (d.typing, subst (λ (s : CodeStepped). CodeStateTypes table d.typing (plain_state s.state)) same d.typed, d.kept, d.refs)
  step_typed y c st t names x e (Some why) free = let f : None ≡ Some x = sym (none_refused (code_moves code) c t names why free) ∙ e in absurd cc

pub steps_keep_types : StepsKeepTypes
steps_keep_types code table h y c st t names x e = step_typed code table h y c st t names x e (refused (code_moves code) c t names) refl

pub never_stuck : NeverStuck
never_stuck code table h y c st t x found = goes_or_waits (code_moves code) c t x found (λ names free. let d = steps_on code table h y c st t names free in subst IsSome (sym d.is) refl)

-- states that show the same are the same
same_is : (a b : CodeState) → SameState a b → a ≡ b
same_is a b h =
    ap₂ (λ f g. (let s : CodeState = record a { thread = f; made = g } in s)) (fun_ext h.threads) (fun_ext h.made)
    ∙ ap₂ (λ f g. (let s : CodeState = record b { pair = f; object = g; mutex = a.mutex; is_given = a.is_given } in s)) (fun_ext h.pairs) (fun_ext h.objects)
    ∙ ap₂ (λ f g. (let s : CodeState = record b { mutex = f; is_given = g } in s)) (fun_ext h.mutexes) (fun_ext h.given)

pub shown_steps_keep_types : ShownStepsKeepTypes
shown_steps_keep_types code table h y a b st c before t names x e after =
    let d = steps_keep_types code table h y c (subst (CodeStateTypes table y) (sym (same_is (plain_state c) a before)) st) t names x e in
    (d.0, subst (CodeStateTypes table d.0) (same_is (plain_state x.state) b after) d.1, subst (λ s. KeepsNames s y.gives d.0.gives) (same_is (plain_state c) a before) d.2, d.3)
