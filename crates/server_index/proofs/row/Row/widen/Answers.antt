use Rattle.std.proofs.Common.{◌/◌, ◌+◌, ◌-◌, ◌++◌, length, replicate, refl, arith}
use Rattle.server_index.specs.Ranks.{IsRow}
use Rattle.server_index.proofs.SumLemmas.{either_way}
use Rattle.server_index.proofs.RankLemmas.{row_sums, row_taller, row_wider}
use Rattle.server_index.proofs.row.Row.widen.Goals as goal

pub reserve-requires : goal.reserve-requires
reserve-requires c = record { fits = omega (arith, row_sums c.self.inside.states.items c.self.inside.sums c.self.inside.count c.self.invariant) }

pub invariant_of-self-2 : goal.invariant_of-self-2
invariant_of-self-2 c =
    let states = c.self.inside.states.items in
    let sums = c.self.inside.sums in
    let more = states ++ replicate (c.args.count - length states) 0 in
    either_way (λ es. IsRow es c.reserve.new.self c.self.inside.count) c.widen.result states more c.widen.new.entries.items c.widen.ensures.more c.widen.ensures.refused
    (row_wider states sums more c.reserve.new.self c.self.inside.count c.args.count (c.args.count / 16 + 1) c.self.invariant c.requires.few (omega arith) refl c.in_ok-reserve.ensures.more)
    (row_taller states sums c.reserve.new.self c.self.inside.count _ c.self.invariant c.in_ok-reserve.ensures.more)
