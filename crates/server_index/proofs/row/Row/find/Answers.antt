use Rattle.std.proofs.Common.{◌*◌, length, ap, arith}
use Rattle.std.proofs.lemmas.List.{length-map}
use Rattle.server_index.specs.Sums.{before}
use Rattle.server_index.specs.Ranks.{count_in, marks}
use Rattle.server_index.proofs.SumLemmas.{above_all, inside}
use Rattle.server_index.proofs.row.Row.find.Goals as goal

pub find-sum-requires : goal.find-sum-requires
find-sum-requires c =
    let ms = marks c.self.inside.states.items in
    let all = ap (λ es. before (marks es) (length es)) c.self.view_is in
    let long = ap (before ms) (length-map c.self.inside.states.items count_in) in
    record { falls = omega (arith, above_all ms c.self.inside.sums c.self.invariant.above, all, long, c.requires.falls) }

pub overflow_mul-sum : goal.overflow_mul-sum
overflow_mul-sum c =
    let states = c.self.inside.states.items in
    let ms = marks states in
    let all = ap (λ es. before (marks es) (length es)) c.self.view_is in
    let long = ap (before ms) (length-map states count_in) in
    let start = c.self.invariant.above.sums c.find-sum.result.0 in
    let within = inside ms (c.find-sum.result.0 * 16) c.find-sum.result.1 (omega (arith, start, c.find-sum.ensures.sum, all, long, c.requires.falls)) in
    omega (arith, within, length-map states count_in, c.self.invariant.short)
