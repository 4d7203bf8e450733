use Rattle.std.proofs.Common.{◌+◌, ◌<◌, ◌^◌, List, [], sym, ap, ◌∙◌, subst, arith}
use Rattle.fr_plain.specs.Resolve.{program}
use Rattle.fr_plain.specs.Run.{Run, steps_left}
use Rattle.fr_syntax.specs.Meanings.{term_of}
use Rattle.fr_forms.specs.declared.forms.Form.{Form}
use Rattle.fr_forms.specs.FormTerms.{root_of}
use Rattle.law_plain_table.specs.CodeOf.{code_of}
use Rattle.law_plain_table.proofs.Generations.{its_code}
use Rattle.law_plain_table.proofs.SourceTerms.{resolve_source}
use Rattle.fr_compile.proofs.CheckedCode.{checked_tabled}
use Rattle.fr_compile.proofs.Few.{program_few}
use Rattle.fr_compile.proofs.compiler.compile.Goals as goal

pub emit_threads-requires-clause-few : goal.emit_threads-requires-clause-few
emit_threads-requires-clause-few c =
    let root = ap (λ (fs : List Form). root_of fs) c.deref.ensures.value ∙ c.in_ok-forms.ensures.root in
    let few = program_few c.args.checked.now c.tree.ensures.checked in
    subst (λ (r : Run). steps_left r + 1 < 2 ^ 32) (sym root) (omega (arith, few))

pub returns-clause-equal : goal.returns-clause-equal
returns-clause-equal c =
    c.in_ok-emit_threads.ensures ∙ ap (λ (r : Run). code_of r) (ap (λ (fs : List Form). root_of fs) c.deref.ensures.value ∙ c.in_ok-forms.ensures.root)

pub returns-clause-code : goal.returns-clause-code
returns-clause-code c =
    let t = term_of c.args.checked.now.arena in
    (its_code c.emit_threads.new.code.items (program t) (resolve_source t []) (returns-clause-equal c)).is

pub returns-clause-layout : goal.returns-clause-layout
returns-clause-layout c =
    let t = term_of c.args.checked.now.arena in
    (its_code c.emit_threads.new.code.items (program t) (resolve_source t []) (returns-clause-equal c)).laid

pub returns-clause-length : goal.returns-clause-length
returns-clause-length c =
    let t = term_of c.args.checked.now.arena in
    (its_code c.emit_threads.new.code.items (program t) (resolve_source t []) (returns-clause-equal c)).long

pub returns-clause-short : goal.returns-clause-short
returns-clause-short c = let few = program_few c.args.checked.now c.tree.ensures.checked in omega (arith, few, returns-clause-length c)

pub returns-clause-table : goal.returns-clause-table
returns-clause-table c =
    let t = term_of c.args.checked.now.arena in
    let its = its_code c.emit_threads.new.code.items (program t) (resolve_source t []) (returns-clause-equal c) in
    checked_tabled c.args.checked.now c.emit_threads.new.code.items c.tree.ensures.checked its.is its.laid
