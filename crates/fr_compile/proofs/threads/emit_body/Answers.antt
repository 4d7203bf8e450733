use Rattle.std.proofs.Common.{subst, List}
use Rattle.fr_base.specs.declared.instruction.Instr.{Instr}
use Rattle.fr_forms.specs.FormTerms.{term_of}
use Rattle.fr_compile.specs.Emitting.{IsAdded, IsPlaced, wait_of}
use Rattle.fr_compile.proofs.Rows.{thread_added}
use Rattle.fr_compile.proofs.Forms.{on_ok}
use Rattle.law_plain_table.specs.CodeOf.{thread}
use Rattle.fr_compile.proofs.threads.emit_body.Goals as goal

pub returns : goal.returns
returns c =
    let fs = c.args.forms.now in
    let w = c.args.waiting in
    let b = c.set_place.new.code.items in
    let f = c.push.new.self.items in
    let bs = c.args.queue.now.items in
    let cs = c.emit.new.queue.items in
    on_ok c.push.result _ (IsPlaced fs c.args.code.now.items f bs cs w) c.push.ensures.pushed
    (λ h. subst (λ (a : List Instr). IsAdded fs a f bs cs (thread (wait_of fs w).run)) c.set_place.ensures
    (thread_added fs b c.emit.new.code.items c.drop_all.new.code.items f bs cs c.in_ok-result.result (term_of fs w.body) w.drops c.in_ok-result.ensures c.in_ok-drop_all.ensures h))
