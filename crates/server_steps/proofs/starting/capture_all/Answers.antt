use Rattle.std.proofs.Common.{rules, IsSome, sym, subst, ◌∙◌}
use Rattle.server_steps.proofs.StartLemmas.{slot_within, none_lost, one_more, packed_more, room_more}
use Rattle.server_steps.proofs.starting.capture_all.Goals as goal

pub index-requires : goal.index-requires
index-requires c =
    let within = slot_within c.args.branch c.captures-2.new.items c.args.captures.now c.captures-2.capture-index c.captures-2.slots.items c.captures-test.true (subst (λ o. IsSome o) (sym c.captures-2.invariant.state) c.requires.result) in
    search (rules, within)

pub unreachable-requires : goal.unreachable-requires
unreachable-requires c =
    none_lost c.args.branch c.captures-2.new.items c.args.captures.now c.captures-2.capture-index c.captures-2.slots.items c.index.result.now c.captured.result c.captures-test.true (subst (λ o. IsSome o) (sym c.captures-2.invariant.state) c.requires.result)
    c.index.ensures c.captured.ensures.value c.in_default.is

pub captures-preserved : goal.captures-preserved
captures-preserved c =
    record {
      state =
          one_more c.args.branch c.captures-2.new.items c.push_reserved.new.self.items c.args.captures.now c.captures-2.capture-index c.captures-2.slots.items c.leave.new.slots.items c.index.result.now c.in-Some.taken c.captured.result
          c.captures-test.true (subst (λ o. IsSome o) (sym c.captures-2.invariant.state) c.requires.result) c.index.ensures c.captured.ensures.value c.in-Some.is c.push_reserved.ensures.items c.leave.ensures.items
          ∙ c.captures-2.invariant.state;
      packed = packed_more c.captures-2.new.items c.push_reserved.new.self.items c.in-Some.taken c.push_reserved.ensures.items c.captures-2.invariant.packed (search rules);
      room = room_more c.args.captures.now c.captures-2.capture-index c.captures-2.new.items c.push_reserved.new.self.items c.in-Some.taken _ _ c.captures-test.true c.push_reserved.ensures.items c.captures-2.invariant.room (search rules);
      capacity = search rules;
      len = search rules;
    }
