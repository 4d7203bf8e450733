use Rattle.std.proofs.Common.{is_some, None, sym, subst, ap, ◌∙◌, rules, arith}
use Rattle.rank_map.specs.Places.{Rises}
use Rattle.rank_map.proofs.PlaceLemmas.{with_some}
use Rattle.rank_map.proofs.ForkLemmas.{at_fork, low_less, high_less, low_item, high_item, both_rise, low_reserved, high_reserved}
use Rattle.rank_map.proofs.tree.Tree.+reserve.Goals as goal
use Rattle.rank_map.proofs.tree.Tree.+reserve.Goals.{then-key-fork, else-key-fork}

pub add_below-requires-then-key-from-2-clause-rises : goal.add_below-requires-then-key-from-2-clause-rises
add_below-requires-then-key-from-2-clause-rises g t c =
    let f = at_fork c.self.view_is c.self.invariant c.in-Fork.is c.deref_mut-fork.ensures.value in
    subst (Rises c.deref_mut-fork.result.now.from c.deref_mut-fork.result.now.to) f.places (both_rise f)

pub add_above-requires-then-to-key-2-clause-rises : goal.add_above-requires-then-to-key-2-clause-rises
add_above-requires-then-to-key-2-clause-rises g t c =
    let f = at_fork c.self.view_is c.self.invariant c.in-Fork.is c.deref_mut-fork.ensures.value in
    subst (Rises c.deref_mut-fork.result.now.from c.deref_mut-fork.result.now.to) f.places (both_rise f)

pub invariant_of-self-else-to-key : goal.invariant_of-self-else-to-key
invariant_of-self-else-to-key g t c = rw c.reserve.ensures.places (with_some c.in-Leaf.block.places c.args.key None)

pub reserve-requires-then-key-fork : goal.reserve-requires-then-key-fork
reserve-requires-then-key-fork g t c κs within =
    let f = at_fork c.self.view_is c.self.invariant c.in-Fork.is c.deref_mut-fork.ensures.value in
    (omega (arith, c.decreases, low_less f), (search rules, (c.requires.few, sym (ap is_some (low_item c.args.key f c.if-key-fork.true)) ∙ c.requires.new)))

pub reserve-requires-else-key-fork : goal.reserve-requires-else-key-fork
reserve-requires-else-key-fork g t c κs within =
    let f = at_fork c.self.view_is c.self.invariant c.in-Fork.is c.deref_mut-fork.ensures.value in
    (omega (arith, c.decreases, high_less f), (search rules, (c.requires.few, sym (ap is_some (high_item c.args.key f c.if-key-fork.false)) ∙ c.requires.new)))

pub invariant_of-self-else-to-key-2 : goal.invariant_of-self-else-to-key-2
invariant_of-self-else-to-key-2 g t c =
    let f = at_fork c.self.view_is c.self.invariant c.in-Fork.is c.deref_mut-fork.ensures.value in
    elim c.if-key-fork.branch [
      | then-key-fork w ↦
          rw w.self-inside-is
          (low_reserved c.args.key w.reserve-then-key-fork.result f c.requires.new c.if-key-from-2.false w.if-key-fork.true w.reserve-then-key-fork.ensures.places w.reserve-then-key-fork.ensures.refused).fork
      | else-key-fork w ↦
          rw w.self-inside-is
          (high_reserved c.args.key w.reserve-else-key-fork.result f c.requires.new w.if-key-fork.false c.if-to-key-2.false w.reserve-else-key-fork.ensures.places w.reserve-else-key-fork.ensures.refused).fork
    ]

pub returns-after-key-fork-clause-places : goal.returns-after-key-fork-clause-places
returns-after-key-fork-clause-places g t c =
    let f = at_fork c.self.view_is c.self.invariant c.in-Fork.is c.deref_mut-fork.ensures.value in
    elim c.if-key-fork.branch [
      | then-key-fork w ↦
          rw (w.self-inside-is, w.result-is)
          (low_reserved c.args.key w.reserve-then-key-fork.result f c.requires.new c.if-key-from-2.false w.if-key-fork.true w.reserve-then-key-fork.ensures.places w.reserve-then-key-fork.ensures.refused).ok
      | else-key-fork w ↦
          rw (w.self-inside-is, w.result-is)
          (high_reserved c.args.key w.reserve-else-key-fork.result f c.requires.new w.if-key-fork.false c.if-to-key-2.false w.reserve-else-key-fork.ensures.places w.reserve-else-key-fork.ensures.refused).ok
    ]
