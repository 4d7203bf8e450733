use Rattle.std.proofs.Common.{◌<◌, length, refl, arith, sym, subst}
use Rattle.fr_base.specs.declared.instruction.Instr.TheVariants as instr
use Rattle.fr_forms.specs.FormTerms.{root_of}
use Rattle.fr_compile.specs.declared.waiting.Waiting.{Waiting}
use Rattle.fr_compile.specs.Emitting.{IsPlaced}
use Rattle.fr_compile.proofs.Rows.{unary_added}
use Rattle.fr_compile.proofs.Turns.{inside_at, main_taken, code_few, start_there, next_taken, next_fewer, all_taken}
use Rattle.fr_compile.proofs.threads.emit_threads.Goals as goal

pub queue-init : goal.queue-init
queue-init c =
    let fs = c.args.forms.now in
    let a = c.args.code.now.items in
    let f = c.push.new.self.items in
    let bs = c.new-queue.result.items in
    let cs = c.emit.new.queue.items in
    main_taken fs a f bs cs (root_of fs) c.requires.empty c.new-queue.ensures.items (unary_added fs a c.emit.new.code.items f bs cs instr.End c.in_ok-value.value (root_of fs) c.in_ok-value.ensures c.in_ok-push.ensures.pushed (λ o. refl))

pub emit_body-requires-clause-inside : goal.emit_body-requires-clause-inside
emit_body-requires-clause-inside c =
    let fs = c.args.forms.now in
    subst (λ (w : Waiting). w.body < length fs) (sym c.index-waiting.ensures) (inside_at fs (length fs) c.queue.queue.items c.queue.next c.index-waiting.result.now (omega (arith, c.len.ensures, c.queue-test.true)) c.queue.invariant.1)

pub emit_body-requires-clause-start : goal.emit_body-requires-clause-start
emit_body-requires-clause-start c =
    let fs = c.args.forms.now in
    subst (λ (w : Waiting). w.start < length c.queue.code.items) (sym c.index-waiting.ensures)
    (start_there fs c.queue.code.items c.queue.queue.items c.queue.next (root_of fs) c.index-waiting.result.now (omega (arith, c.len.ensures, c.queue-test.true)) c.queue.invariant)

pub emit_body-requires-clause-few : goal.emit_body-requires-clause-few
emit_body-requires-clause-few c = let l = code_few c.args.forms.now c.queue.code.items c.queue.queue.items c.queue.next (root_of c.args.forms.now) c.queue.invariant in omega (arith, l, c.requires.few)

pub queue-smaller : goal.queue-smaller
queue-smaller c =
    let fs = c.args.forms.now in
    let p = subst (λ (w : Waiting). IsPlaced fs c.queue.code.items c.emit_body.new.code.items c.queue.queue.items c.emit_body.new.queue.items w) c.index-waiting.ensures c.in_ok-emit_body.ensures in
    next_fewer fs c.queue.code.items c.queue.queue.items c.queue.next (root_of fs) c.index-waiting.result.now (omega (arith, c.len.ensures, c.queue-test.true)) c.queue.invariant c.emit_body.new.code.items c.emit_body.new.queue.items p

pub queue-preserved : goal.queue-preserved
queue-preserved c =
    let fs = c.args.forms.now in
    let p = subst (λ (w : Waiting). IsPlaced fs c.queue.code.items c.emit_body.new.code.items c.queue.queue.items c.emit_body.new.queue.items w) c.index-waiting.ensures c.in_ok-emit_body.ensures in
    next_taken fs c.queue.code.items c.queue.queue.items c.queue.next (root_of fs) c.index-waiting.result.now (omega (arith, c.len.ensures, c.queue-test.true)) c.queue.invariant c.emit_body.new.code.items c.emit_body.new.queue.items p

pub returns : goal.returns
returns c = all_taken c.args.forms.now c.queue.code.items c.queue.queue.items c.queue.next (root_of c.args.forms.now) (omega (arith, c.len.ensures, c.queue-test.false)) c.queue.invariant
