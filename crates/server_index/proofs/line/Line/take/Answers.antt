use Rattle.std.proofs.Common.{is_some, true≢false, length, slice_get, set, sym, ap, ◌∙◌, arith}
use Rattle.std.specs.List.{remove}
use Rattle.server_index.specs.Lines.{values}
use Rattle.server_index.proofs.LineLemmas.{all_marks, found, taken_line}
use Rattle.server_index.proofs.line.Line.take.Goals as goal

pub find-column-requires : goal.find-column-requires
find-column-requires g c =
    let all = all_marks c.self.invariant ∙ ap (λ q. length q.items) c.self.view_is in
    record { falls = omega (arith, all, c.requires.within) }

pub unreachable-requires : goal.unreachable-requires
unreachable-requires g c =
    let there = found c.find-column.result c.args.at c.index_mut.result.now c.self.invariant c.find-column.ensures.rank c.find-column.ensures.marked c.index_mut.ensures.value in
    true≢false (sym there.some ∙ ap is_some (sym c.take.ensures.value ∙ c.in-None.is))

pub invariant_of-self : goal.invariant_of-self
invariant_of-self g c = taken_line c.put.new.self c.find-column.result c.take.new.self c.self.invariant c.put.ensures c.take.ensures.after

pub returns-clause-item : goal.returns-clause-item
returns-clause-item g c =
    let there = found c.find-column.result c.args.at c.index_mut.result.now c.self.invariant c.find-column.ensures.rank c.find-column.ensures.marked c.index_mut.ensures.value in
    sym (ap (λ q. slice_get q.items c.args.at) c.self.view_is) ∙ there.item ∙ sym c.take.ensures.value ∙ c.in-Some.is

pub returns-clause-items : goal.returns-clause-items
returns-clause-items g c =
    let there = found c.find-column.result c.args.at c.index_mut.result.now c.self.invariant c.find-column.ensures.rank c.find-column.ensures.marked c.index_mut.ensures.value in
    ap (λ o. values (set c.self.inside.slots.items c.find-column.result o)) c.take.ensures.after ∙ there.taken ∙ ap (λ q. remove q.items c.args.at) c.self.view_is
