use Rattle.std.proofs.Common.{◌++◌, [], ◌∷◌, ℕ, List, refl, sym, ap, ◌∙◌, subst, arith}
use Rattle.fr_base.specs.declared.instruction.Operand.{Operand}
use Rattle.fr_base.specs.declared.instruction.Operand.TheVariants as operand
use Rattle.fr_base.specs.declared.instruction.Instr.TheVariants as instr
use Rattle.fr_plain.specs.Run.{Run}
use Rattle.fr_forms.specs.declared.forms.Captured.{Captured}
use Rattle.fr_forms.specs.FormTerms.{term_of, parts_of, captures_of}
use Rattle.fr_syntax.specs.Meanings.{AllBelow}
use Rattle.fr_forms.proofs.FormLemmas.{form_term, form_below, pair_seen, all_dropped}
use Rattle.law_plain_table.specs.Bare.{bare}
use Rattle.law_plain_table.specs.CodeOf.{slots}
use Rattle.fr_compile.specs.Emitting.{IsEmitted, ArePartsEmitted}
use Rattle.fr_compile.proofs.Rows.{none_added, one_added, unary_added, binary_added, borrow_added, lock_emitted, block_emitted, spawn_added, par_added}
use Rattle.fr_compile.proofs.Forms.{on_added, on_both, Leads, leads_first, leads_on, leads_all, item_lower}
use Rattle.fr_compile.proofs.emitting.+emit.Goals as goal

pub emit-emit-requires : goal.emit-emit-requires
emit-emit-requires t c =
    let fs = c.args.forms.now in
    let parts = form_below fs c.args.node c.index-forms-node.result _ c.requires.order c.requires.here c.index-forms-node.is c.in-Box.is in
    (omega (arith, c.decreases, parts), (c.requires.order, omega (arith, parts, c.requires.here)))

pub emit-emit-requires-in-Join : goal.emit-emit-requires-in-Join
emit-emit-requires-in-Join t c =
    let fs = c.args.forms.now in
    let parts = form_below fs c.args.node c.index-forms-node.result _ c.requires.order c.requires.here c.index-forms-node.is c.in-Join.is in
    (omega (arith, c.decreases, parts), (c.requires.order, omega (arith, parts, c.requires.here)))

pub emit-emit-requires-in-Mutex : goal.emit-emit-requires-in-Mutex
emit-emit-requires-in-Mutex t c =
    let fs = c.args.forms.now in
    let parts = form_below fs c.args.node c.index-forms-node.result _ c.requires.order c.requires.here c.index-forms-node.is c.in-Mutex.is in
    (omega (arith, c.decreases, parts), (c.requires.order, omega (arith, parts, c.requires.here)))

pub emit-emit-requires-in-Lock : goal.emit-emit-requires-in-Lock
emit-emit-requires-in-Lock t c =
    let fs = c.args.forms.now in
    let parts = form_below fs c.args.node c.index-forms-node.result _ c.requires.order c.requires.here c.index-forms-node.is c.in-Lock.is in
    (omega (arith, c.decreases, parts), (c.requires.order, omega (arith, parts, c.requires.here)))

pub emit-emit-requires-in-Let : goal.emit-emit-requires-in-Let
emit-emit-requires-in-Let t c =
    let fs = c.args.forms.now in
    let parts = form_below fs c.args.node c.index-forms-node.result _ c.requires.order c.requires.here c.index-forms-node.is c.in-Let.is in
    (omega (arith, c.decreases, parts), (c.requires.order, omega (arith, parts, c.requires.here)))

pub emit-emit-requires-in-Print : goal.emit-emit-requires-in-Print
emit-emit-requires-in-Print t c =
    let fs = c.args.forms.now in
    let parts = form_below fs c.args.node c.index-forms-node.result _ c.requires.order c.requires.here c.index-forms-node.is c.in-Print.is in
    (omega (arith, c.decreases, parts), (c.requires.order, omega (arith, parts, c.requires.here)))

pub emit-emit-requires-in-Assign : goal.emit-emit-requires-in-Assign
emit-emit-requires-in-Assign t c =
    let fs = c.args.forms.now in
    let parts = form_below fs c.args.node c.index-forms-node.result _ c.requires.order c.requires.here c.index-forms-node.is c.in-Assign.is in
    (omega (arith, c.decreases, parts), (c.requires.order, omega (arith, parts, c.requires.here)))

pub emit-emit-requires-in-Arith : goal.emit-emit-requires-in-Arith
emit-emit-requires-in-Arith t c =
    let fs = c.args.forms.now in
    let parts = form_below fs c.args.node c.index-forms-node.result _ c.requires.order c.requires.here c.index-forms-node.is c.in-Arith.is in
    (omega (arith, c.decreases, parts.0), (c.requires.order, omega (arith, parts.0, c.requires.here)))

pub emit-emit-requires-in-Arith-2 : goal.emit-emit-requires-in-Arith-2
emit-emit-requires-in-Arith-2 t c =
    let fs = c.args.forms.now in
    let parts = form_below fs c.args.node c.index-forms-node.result _ c.requires.order c.requires.here c.index-forms-node.is c.in-Arith.is in
    (omega (arith, c.decreases, parts.1), (c.requires.order, omega (arith, parts.1, c.requires.here)))

pub emit-emit_items-requires : goal.emit-emit_items-requires
emit-emit_items-requires t c =
    let fs = c.args.forms.now in
    let parts = form_below fs c.args.node c.index-forms-node.result _ c.requires.order c.requires.here c.index-forms-node.is c.in-Block.is in
    (omega (arith, c.decreases), (c.requires.order, (omega (arith, c.requires.here), subst (AllBelow c.args.node) (sym c.deref-in-Block.ensures.value) parts)))

pub emit-returns-in-Number : goal.emit-returns-in-Number
emit-returns-in-Number t c =
    let fs = c.args.forms.now in
    let a = c.args.code.now.items in
    let bs = c.args.queue.now.items in
    let is = form_term fs c.args.node c.index-forms-node.result _ c.requires.order c.requires.here c.index-forms-node.is c.in-Number.is in
    subst (λ (r : Run). IsEmitted fs a a bs bs c.constant.result r) (sym is) (c.constant.ensures, none_added fs a bs)

pub emit-returns-in-Unit : goal.emit-returns-in-Unit
emit-returns-in-Unit t c =
    let fs = c.args.forms.now in
    let a = c.args.code.now.items in
    let bs = c.args.queue.now.items in
    let is = form_term fs c.args.node c.index-forms-node.result _ c.requires.order c.requires.here c.index-forms-node.is c.in-Unit.is in
    subst (λ (r : Run). IsEmitted fs a a bs bs operand.Unit r) (sym is) (refl, none_added fs a bs)

pub emit-returns-in-Place : goal.emit-returns-in-Place
emit-returns-in-Place t c =
    let fs = c.args.forms.now in
    let a = c.args.code.now.items in
    let bs = c.args.queue.now.items in
    let is = form_term fs c.args.node c.index-forms-node.result _ c.requires.order c.requires.here c.index-forms-node.is c.in-Place.is in
    subst (λ (r : Run). IsEmitted fs a a bs bs operand.Unit r) (sym is) (refl, none_added fs a bs)

pub emit-returns-in-Read : goal.emit-returns-in-Read
emit-returns-in-Read t c =
    let fs = c.args.forms.now in
    let a = c.args.code.now.items in
    let bs = c.args.queue.now.items in
    let is = form_term fs c.args.node c.index-forms-node.result _ c.requires.order c.requires.here c.index-forms-node.is c.in-Read.is in
    let f = c.leave.new.code.items in
    on_added c.leave.result operand.Pop _ (λ (o : Operand). IsEmitted fs a f bs bs o (term_of fs c.args.node)) c.leave.ensures.code c.leave.ensures.value
    (λ e. subst (λ (r : Run). IsEmitted fs a f bs bs operand.Pop r) (sym is) (refl, one_added fs a f bs (instr.Read c.in-Read.place c.in-Read.take) e refl))

pub emit-returns-in-Borrow : goal.emit-returns-in-Borrow
emit-returns-in-Borrow t c =
    let fs = c.args.forms.now in
    let a = c.args.code.now.items in
    let bs = c.args.queue.now.items in
    let is = form_term fs c.args.node c.index-forms-node.result _ c.requires.order c.requires.here c.index-forms-node.is c.in-Borrow.is in
    let f = c.leave-in-Borrow.new.code.items in
    on_added c.leave-in-Borrow.result operand.Pop _ (λ (o : Operand). IsEmitted fs a f bs bs o (term_of fs c.args.node)) c.leave-in-Borrow.ensures.code c.leave-in-Borrow.ensures.value
    (λ e. subst (λ (r : Run). IsEmitted fs a f bs bs operand.Pop r) (sym is) (refl, borrow_added fs a f bs c.in-Borrow.place c.in-Borrow.is_mut c.borrow.result e c.borrow.ensures))

pub emit-returns-in-Dup : goal.emit-returns-in-Dup
emit-returns-in-Dup t c =
    let fs = c.args.forms.now in
    let a = c.args.code.now.items in
    let bs = c.args.queue.now.items in
    let is = form_term fs c.args.node c.index-forms-node.result _ c.requires.order c.requires.here c.index-forms-node.is c.in-Dup.is in
    let f = c.leave-in-Dup.new.code.items in
    on_added c.leave-in-Dup.result operand.Pop _ (λ (o : Operand). IsEmitted fs a f bs bs o (term_of fs c.args.node)) c.leave-in-Dup.ensures.code c.leave-in-Dup.ensures.value
    (λ e. subst (λ (r : Run). IsEmitted fs a f bs bs operand.Pop r) (sym is) (refl, one_added fs a f bs (instr.Dup c.in-Dup.place) e refl))

pub emit-returns-in_ok-value-in-Box : goal.emit-returns-in_ok-value-in-Box
emit-returns-in_ok-value-in-Box t c =
    let fs = c.args.forms.now in
    let a = c.args.code.now.items in
    let bs = c.args.queue.now.items in
    let is = form_term fs c.args.node c.index-forms-node.result _ c.requires.order c.requires.here c.index-forms-node.is c.in-Box.is in
    let d = c.emit.new.code.items in
    let cs = c.emit.new.queue.items in
    let f = c.leave-in-Box.new.code.items in
    on_added c.leave-in-Box.result operand.Pop _ (λ (o : Operand). IsEmitted fs a f bs cs o (term_of fs c.args.node)) c.leave-in-Box.ensures.code c.leave-in-Box.ensures.value
    (λ e. subst (λ (r : Run). IsEmitted fs a f bs cs operand.Pop r) (sym is) (refl, unary_added fs a d f bs cs instr.Box c.in_ok-value-in-Box.value (term_of fs c.in-Box.part) c.in_ok-value-in-Box.ensures e (λ o. refl)))

pub emit-returns-in_ok-value-in-Join : goal.emit-returns-in_ok-value-in-Join
emit-returns-in_ok-value-in-Join t c =
    let fs = c.args.forms.now in
    let a = c.args.code.now.items in
    let bs = c.args.queue.now.items in
    let is = form_term fs c.args.node c.index-forms-node.result _ c.requires.order c.requires.here c.index-forms-node.is c.in-Join.is in
    let d = c.emit-in-Join.new.code.items in
    let cs = c.emit-in-Join.new.queue.items in
    let f = c.leave-in-Join.new.code.items in
    on_added c.leave-in-Join.result operand.Pop _ (λ (o : Operand). IsEmitted fs a f bs cs o (term_of fs c.args.node)) c.leave-in-Join.ensures.code c.leave-in-Join.ensures.value
    (λ e. subst (λ (r : Run). IsEmitted fs a f bs cs operand.Pop r) (sym is) (refl, unary_added fs a d f bs cs instr.Join c.in_ok-value-in-Join.value (term_of fs c.in-Join.part) c.in_ok-value-in-Join.ensures e (λ o. refl)))

pub emit-returns-in_ok-value-in-Mutex : goal.emit-returns-in_ok-value-in-Mutex
emit-returns-in_ok-value-in-Mutex t c =
    let fs = c.args.forms.now in
    let a = c.args.code.now.items in
    let bs = c.args.queue.now.items in
    let is = form_term fs c.args.node c.index-forms-node.result _ c.requires.order c.requires.here c.index-forms-node.is c.in-Mutex.is in
    let d = c.emit-in-Mutex.new.code.items in
    let cs = c.emit-in-Mutex.new.queue.items in
    let f = c.leave-in-Mutex.new.code.items in
    on_added c.leave-in-Mutex.result operand.Pop _ (λ (o : Operand). IsEmitted fs a f bs cs o (term_of fs c.args.node)) c.leave-in-Mutex.ensures.code c.leave-in-Mutex.ensures.value
    (λ e. subst (λ (r : Run). IsEmitted fs a f bs cs operand.Pop r) (sym is) (refl, unary_added fs a d f bs cs instr.Mutex c.in_ok-value-in-Mutex.value (term_of fs c.in-Mutex.part) c.in_ok-value-in-Mutex.ensures e (λ o. refl)))

pub emit-returns-in_ok-value-in-Let : goal.emit-returns-in_ok-value-in-Let
emit-returns-in_ok-value-in-Let t c =
    let fs = c.args.forms.now in
    let a = c.args.code.now.items in
    let bs = c.args.queue.now.items in
    let is = form_term fs c.args.node c.index-forms-node.result _ c.requires.order c.requires.here c.index-forms-node.is c.in-Let.is in
    let d = c.emit-in-Let.new.code.items in
    let cs = c.emit-in-Let.new.queue.items in
    let f = c.finish.new.code.items in
    on_added c.finish.result operand.Unit _ (λ (o : Operand). IsEmitted fs a f bs cs o (term_of fs c.args.node)) c.finish.ensures.code c.finish.ensures.value
    (λ e. subst (λ (r : Run). IsEmitted fs a f bs cs operand.Unit r) (sym is) (refl, unary_added fs a d f bs cs instr.Let c.in_ok-value-in-Let.value (term_of fs c.in-Let.part) c.in_ok-value-in-Let.ensures e (λ o. refl)))

pub emit-returns-in_ok-value-in-Print : goal.emit-returns-in_ok-value-in-Print
emit-returns-in_ok-value-in-Print t c =
    let fs = c.args.forms.now in
    let a = c.args.code.now.items in
    let bs = c.args.queue.now.items in
    let is = form_term fs c.args.node c.index-forms-node.result _ c.requires.order c.requires.here c.index-forms-node.is c.in-Print.is in
    let d = c.emit-in-Print.new.code.items in
    let cs = c.emit-in-Print.new.queue.items in
    let f = c.finish-in-Print.new.code.items in
    on_added c.finish-in-Print.result operand.Unit _ (λ (o : Operand). IsEmitted fs a f bs cs o (term_of fs c.args.node)) c.finish-in-Print.ensures.code c.finish-in-Print.ensures.value
    (λ e. subst (λ (r : Run). IsEmitted fs a f bs cs operand.Unit r) (sym is) (refl, unary_added fs a d f bs cs instr.Print c.in_ok-value-in-Print.value (term_of fs c.in-Print.part) c.in_ok-value-in-Print.ensures e (λ o. refl)))

pub emit-returns-in_ok-value-in-Assign : goal.emit-returns-in_ok-value-in-Assign
emit-returns-in_ok-value-in-Assign t c =
    let fs = c.args.forms.now in
    let a = c.args.code.now.items in
    let bs = c.args.queue.now.items in
    let is = form_term fs c.args.node c.index-forms-node.result _ c.requires.order c.requires.here c.index-forms-node.is c.in-Assign.is in
    let d = c.emit-in-Assign.new.code.items in
    let cs = c.emit-in-Assign.new.queue.items in
    let f = c.finish-in-Assign.new.code.items in
    on_added c.finish-in-Assign.result operand.Unit _ (λ (o : Operand). IsEmitted fs a f bs cs o (term_of fs c.args.node)) c.finish-in-Assign.ensures.code c.finish-in-Assign.ensures.value
    (λ e. subst (λ (r : Run). IsEmitted fs a f bs cs operand.Unit r) (sym is) (refl, unary_added fs a d f bs cs (instr.Assign c.in-Assign.place) c.in_ok-value-in-Assign.value (term_of fs c.in-Assign.part) c.in_ok-value-in-Assign.ensures e (λ o. refl)))

pub emit-returns-in_ok-right-in-Arith : goal.emit-returns-in_ok-right-in-Arith
emit-returns-in_ok-right-in-Arith t c =
    let fs = c.args.forms.now in
    let a = c.args.code.now.items in
    let bs = c.args.queue.now.items in
    let is = form_term fs c.args.node c.index-forms-node.result _ c.requires.order c.requires.here c.index-forms-node.is c.in-Arith.is in
    let d = c.emit-in-Arith.new.code.items in
    let g = c.emit-in-Arith-2.new.code.items in
    let ms = c.emit-in-Arith.new.queue.items in
    let cs = c.emit-in-Arith-2.new.queue.items in
    let f = c.leave-in-Arith.new.code.items in
    on_added c.leave-in-Arith.result operand.Pop _ (λ (o : Operand). IsEmitted fs a f bs cs o (term_of fs c.args.node)) c.leave-in-Arith.ensures.code c.leave-in-Arith.ensures.value
    (λ e. subst (λ (r : Run). IsEmitted fs a f bs cs operand.Pop r) (sym is)
    (refl, binary_added fs a d g f bs ms cs c.in-Arith.op c.in_ok-left-in-Arith.left c.in_ok-right-in-Arith.right (term_of fs c.in-Arith.left) (term_of fs c.in-Arith.right) c.in_ok-left-in-Arith.ensures c.in_ok-right-in-Arith.ensures e))

pub emit-returns-in_ok-drop_all-in-Block : goal.emit-returns-in_ok-drop_all-in-Block
emit-returns-in_ok-drop_all-in-Block t c =
    let fs = c.args.forms.now in
    let a = c.args.code.now.items in
    let bs = c.args.queue.now.items in
    let is = form_term fs c.args.node c.index-forms-node.result _ c.requires.order c.requires.here c.index-forms-node.is c.in-Block.is in
    let d = c.emit_items.new.code.items in
    let cs = c.emit_items.new.queue.items in
    let f = c.drop_all.new.code.items in
    let o = c.in_ok-value-in-Block.value in
    let parts = subst (λ (is : List ℕ). ArePartsEmitted fs a d bs cs o (parts_of (term_of fs) is)) c.deref-in-Block.ensures.value c.in_ok-value-in-Block.ensures in
    subst (λ (r : Run). IsEmitted fs a f bs cs o r) (sym is) (parts.0, block_emitted fs a d f bs cs o (parts_of (term_of fs) c.in-Block.items.items) c.in-Block.lets parts.1 c.in_ok-drop_all-in-Block.ensures)

pub emit_items-items-init : goal.emit_items-items-init
emit_items-items-init t c = leads_first c.args.forms.now c.args.items.now c.args.code.now.items c.args.queue.now.items

pub emit_items-emit-requires : goal.emit_items-emit-requires
emit_items-emit-requires t c =
    let low = item_lower c.args.bound c.args.items.now c.items.next 0 (omega (arith, c.items-test.true)) c.requires.below in
    (omega (arith, c.decreases, low), (c.requires.order, omega (arith, low, c.requires.inside)))

pub emit_items-items-preserved : goal.emit_items-items-preserved
emit_items-items-preserved t c =
    leads_on c.args.forms.now c.args.items.now c.args.code.now.items c.items.code.items c.discard.new.code.items c.emit.new.code.items c.args.queue.now.items c.items.queue.items c.emit.new.queue.items c.items.value c.in_ok-value.value c.items.next (omega (arith, c.items-test.true)) c.items.invariant c.in_ok-discard.ensures c.in_ok-value.ensures

pub emit_items-returns : goal.emit_items-returns
emit_items-returns t c =
    let all = all_dropped c.args.items.now c.items.next (omega (arith, c.items-test.false)) in
    leads_all c.args.forms.now c.args.items.now c.args.code.now.items c.items.code.items c.args.queue.now.items c.items.queue.items c.items.value
    (subst (λ (rest : List ℕ). Leads c.args.forms.now c.args.items.now c.args.code.now.items c.args.queue.now.items rest c.items.code.items c.items.queue.items c.items.value) all c.items.invariant)

pub emit-returns-in_ok-unlock-in-Lock : goal.emit-returns-in_ok-unlock-in-Lock
emit-returns-in_ok-unlock-in-Lock t c =
    let fs = c.args.forms.now in
    let a = c.args.code.now.items in
    let bs = c.args.queue.now.items in
    let is = form_term fs c.args.node c.index-forms-node.result _ c.requires.order c.requires.here c.index-forms-node.is c.in-Lock.is in
    let b = c.push.new.self.items in
    let d = c.emit-in-Lock.new.code.items in
    let cs = c.emit-in-Lock.new.queue.items in
    let f = c.unlock.new.code.items in
    let v = c.in_ok-value-in-Lock.value in
    subst (λ (r : Run). IsEmitted fs a f bs cs v r) (sym is)
    (lock_emitted fs a b d f bs cs c.in-Lock.place v c.in-Lock.drops (term_of fs c.in-Lock.body) c.in_ok-push-in-Lock.ensures.pushed c.in_ok-value-in-Lock.ensures c.in_ok-unlock-in-Lock.ensures)

pub emit-returns-in-Spawn : goal.emit-returns-in-Spawn
emit-returns-in-Spawn t c =
    let fs = c.args.forms.now in
    let a = c.args.code.now.items in
    let bs = c.args.queue.now.items in
    let is = form_term fs c.args.node c.index-forms-node.result _ c.requires.order c.requires.here c.index-forms-node.is c.in-Spawn.is in
    let part = form_below fs c.args.node c.index-forms-node.result _ c.requires.order c.requires.here c.index-forms-node.is c.in-Spawn.is in
    let f = c.spawn.new.code.items in
    let cs = c.spawn.new.queue.items in
    let captures : List Captured = c.in-Spawn.captures.items in
    on_added c.spawn.result operand.Pop _ (λ (o : Operand). IsEmitted fs a f bs cs o (term_of fs c.args.node)) (on_both c.spawn.result _ _ c.spawn.ensures.code c.spawn.ensures.queue) c.spawn.ensures.value
    (λ e. subst (λ (r : Run). IsEmitted fs a f bs cs operand.Pop r) (sym is)
    (refl, spawn_added fs a f bs cs (captures_of captures) c.in-Spawn.body c.in-Spawn.drops (e.0 ∙ ap (λ (xs : List Captured). bare a ++ instr.Spawn (slots (captures_of xs)) 0 ∷ []) c.deref.ensures.value) e.1 (omega (arith, part, c.requires.here))))

pub emit-returns-in-Par : goal.emit-returns-in-Par
emit-returns-in-Par t c =
    let fs = c.args.forms.now in
    let ours = c.deref-in-Par.result.now in
    let theirs = c.deref-in-Par-2.result.now in
    let a = c.args.code.now.items in
    let bs = c.args.queue.now.items in
    let seen = pair_seen c.index-forms-node.result c.in-Par.ours c.in-Par.theirs ours theirs c.in-Par.is c.deref-in-Par.ensures c.deref-in-Par-2.ensures in
    let is = form_term fs c.args.node c.index-forms-node.result _ c.requires.order c.requires.here c.index-forms-node.is seen in
    let parts = form_below fs c.args.node c.index-forms-node.result _ c.requires.order c.requires.here c.index-forms-node.is seen in
    let f = c.par.new.code.items in
    let cs = c.par.new.queue.items in
    on_added c.par.result operand.Unit _ (λ (o : Operand). IsEmitted fs a f bs cs o (term_of fs c.args.node)) (on_both c.par.result _ _ c.par.ensures.code c.par.ensures.queue) c.par.ensures.value
    (λ e. subst (λ (r : Run). IsEmitted fs a f bs cs operand.Unit r) (sym is)
    (refl, par_added fs a f bs cs (captures_of ours.captures.items) (captures_of theirs.captures.items) ours.term theirs.term ours.drops theirs.drops e.0 e.1 (omega (arith, parts.0, c.requires.here)) (omega (arith, parts.1, c.requires.here))))
