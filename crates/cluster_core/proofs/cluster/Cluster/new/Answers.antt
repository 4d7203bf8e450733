use Rattle.std.proofs.Common.{rules, ◌≡◌, ◌≤◌, ◌^◌, length, sym, subst, ◌∙◌}
use Rattle.std.specs.Arc.{arc_value}
use Rattle.fr_syntax.specs.Meanings.{term_of}
use Rattle.fr_typing.specs.Kinds.{Kind}
use Rattle.fr_plain.specs.Resolve.{program}
use Rattle.law_plain_table.specs.Bare.{bare}
use Rattle.law_plain_table.specs.CodeOf.{code_of}
use Rattle.law_plain_table.specs.Tables.{HasTable}
use Rattle.coherent_types.specs.ClusterTypes.{IsCoherent}
use Rattle.cluster_core.specs.Handing.{NoneSent}
use Rattle.cluster_core.proofs.StartLemmas.{starts, start_sent}
use Rattle.cluster_core.proofs.cluster.Cluster.new.Goals as goal

pub invariant_of-result : goal.invariant_of-result
invariant_of-result c =
    let code : bare c.in_ok-code.code.value.items ≡ code_of (program (term_of (arc_value c.in_ok-clone.field-0).arena)) = search rules in
    let short : length c.in_ok-code.code.value.items ≤ 2 ^ 30 = search rules in
    let all =
    starts (arc_value c.in_ok-clone.field-0) c.in_ok-code.code.value.items c.args.options.now c.in_ok-servers.servers.items c.in_ok-servers.ensures.states c.in_ok-servers.ensures.kept c.requires.servers.0 c.requires.servers.1 code short in
    (all.run, all.few, λ e. absurd (cc e))

pub returns-clause-table : goal.returns-clause-table
returns-clause-table c =
    let code : bare c.in_ok-code.code.value.items ≡ code_of (program (term_of (arc_value c.in_ok-clone.field-0).arena)) = search rules in
    let short : length c.in_ok-code.code.value.items ≤ 2 ^ 30 = search rules in
    let all =
    starts (arc_value c.in_ok-clone.field-0) c.in_ok-code.code.value.items c.args.options.now c.in_ok-servers.servers.items c.in_ok-servers.ensures.states c.in_ok-servers.ensures.kept c.requires.servers.0 c.requires.servers.1 code short in
    let same : c.in_ok-compile.field-0.items ≡ c.in_ok-code.code.value.items = search rules in
    subst (λ l. (x : Kind) × HasTable l x) (same ∙ sym all.code_is) c.in_ok-compile.ensures.table

pub returns-clause-coherent : goal.returns-clause-coherent
returns-clause-coherent c = λ range.
    let ss = c.in_ok-servers.servers.items in
    let code : bare c.in_ok-code.code.value.items ≡ code_of (program (term_of (arc_value c.in_ok-clone.field-0).arena)) = search rules in
    let short : length c.in_ok-code.code.value.items ≤ 2 ^ 30 = search rules in
    let all = starts (arc_value c.in_ok-clone.field-0) c.in_ok-code.code.value.items c.args.options.now ss c.in_ok-servers.ensures.states c.in_ok-servers.ensures.kept c.requires.servers.0 c.requires.servers.1 code short in
    let same : c.in_ok-compile.field-0.items ≡ c.in_ok-code.code.value.items = search rules in
    let table : (x : Kind) × HasTable c.in_ok-code.code.value.items x = subst (λ l. (x : Kind) × HasTable l x) same c.in_ok-compile.ensures.table in
    let is = table.1 in
    subst IsCoherent (sym all.start) (c.starts_are_coherent.ensures c.in_ok-code.code.value.items is.table c.args.options.now is.is range)

pub returns-clause-sent : goal.returns-clause-sent
returns-clause-sent c = subst NoneSent (sym c.in_ok-servers.ensures.states) (start_sent c.in_ok-code.code.value.items c.args.options.now)
