use Rattle.std.proofs.Common.{◌+◌, ◌-◌, is_some, Some, sym, ap, ◌∙◌, rules, arith}
use Rattle.rank_map.specs.Places.{item_in, item_at, with_place}
use Rattle.rank_map.proofs.PlaceLemmas.{count_most, with_some}
use Rattle.rank_map.proofs.ForkLemmas.{at_fork, low_less, high_less, low_item, high_item, low_seen, high_seen, low_counted, high_counted, at_leaf}
use Rattle.rank_map.proofs.tree.Tree.+swap.Goals as goal
use Rattle.rank_map.proofs.tree.Tree.+swap.Goals.{in-Leaf, in-Fork+then-key-fork, in-Fork+else-key-fork}

pub swap-requires-then-key-fork : goal.swap-requires-then-key-fork
swap-requires-then-key-fork g t c κs within =
    let f = at_fork c.self.view_is c.self.invariant c.in-Fork.is c.deref_mut-fork.ensures.value in
    (omega (arith, c.decreases, low_less f), (search rules, sym (ap is_some (low_item c.args.key f c.if-key-fork.true)) ∙ c.requires.place))

pub overflow_add-fork : goal.overflow_add-fork
overflow_add-fork g t c =
    let f = at_fork c.self.view_is c.self.invariant c.in-Fork.is c.deref_mut-fork.ensures.value in
    let fits = low_counted f c.requires.place c.if-key-fork.true c.swap-then-key-fork.ensures.item in
    omega (arith, fits.1, c.count_of-more.ensures, count_most c.args.item.now)

pub overflow_sub-fork : goal.overflow_sub-fork
overflow_sub-fork g t c =
    let f = at_fork c.self.view_is c.self.invariant c.in-Fork.is c.deref_mut-fork.ensures.value in
    let fits = low_counted f c.requires.place c.if-key-fork.true c.swap-then-key-fork.ensures.item in
    omega (arith, fits.0, c.count_of.ensures)

pub swap-requires-else-key-fork : goal.swap-requires-else-key-fork
swap-requires-else-key-fork g t c κs within =
    let f = at_fork c.self.view_is c.self.invariant c.in-Fork.is c.deref_mut-fork.ensures.value in
    (omega (arith, c.decreases, high_less f), (search rules, sym (ap is_some (high_item c.args.key f c.if-key-fork.false)) ∙ c.requires.place))

pub overflow_add-fork-else-key-fork : goal.overflow_add-fork-else-key-fork
overflow_add-fork-else-key-fork g t c =
    let f = at_fork c.self.view_is c.self.invariant c.in-Fork.is c.deref_mut-fork.ensures.value in
    let fits = high_counted f c.requires.place c.if-key-fork.false c.swap-else-key-fork.ensures.item in
    omega (arith, fits.1, c.count_of-more.ensures, count_most c.args.item.now)

pub overflow_sub-fork-else-key-fork : goal.overflow_sub-fork-else-key-fork
overflow_sub-fork-else-key-fork g t c =
    let f = at_fork c.self.view_is c.self.invariant c.in-Fork.is c.deref_mut-fork.ensures.value in
    let fits = high_counted f c.requires.place c.if-key-fork.false c.swap-else-key-fork.ensures.item in
    omega (arith, fits.0, c.count_of-else-key-fork.ensures)

pub invariant_of-self : goal.invariant_of-self
invariant_of-self g t c =
    elim c.match-self.branch [
      | in-Leaf w ↦ rw (w.self-inside-is, w.swap.ensures.places) (with_some w.in-Leaf.block.places c.args.key c.args.item.now)
      | in-Fork+then-key-fork w ↦
          let f = at_fork c.self.view_is c.self.invariant w.in-Fork.is w.deref_mut-fork.ensures.value in
          let fits = low_counted f c.requires.place w.if-key-fork.true w.swap-then-key-fork.ensures.item in
          rw w.self-inside-is
          (low_seen {m = w.deref_mut-fork.result.now.count + w.count_of-more.result - w.count_of.result} {new = Some c.args.item.now} f c.requires.place w.if-key-fork.true w.swap-then-key-fork.ensures.places (rw w.swap-then-key-fork.ensures.places (with_some w.deref_mut-fork.result.now.low c.args.key c.args.item.now)) w.swap-then-key-fork.ensures.item (omega (arith, w.count_of.ensures, w.count_of-more.ensures, fits.0))).fork
      | in-Fork+else-key-fork w ↦
          let f = at_fork c.self.view_is c.self.invariant w.in-Fork.is w.deref_mut-fork.ensures.value in
          let fits = high_counted f c.requires.place w.if-key-fork.false w.swap-else-key-fork.ensures.item in
          rw w.self-inside-is
          (high_seen {m = w.deref_mut-fork.result.now.count + w.count_of-more.result - w.count_of-else-key-fork.result} {new = Some c.args.item.now} f c.requires.place w.if-key-fork.false w.swap-else-key-fork.ensures.places (rw w.swap-else-key-fork.ensures.places (with_some w.deref_mut-fork.result.now.high c.args.key c.args.item.now)) w.swap-else-key-fork.ensures.item (omega (arith, w.count_of-else-key-fork.ensures, w.count_of-more.ensures, fits.0))).fork
    ]

pub returns-clause-item : goal.returns-clause-item
returns-clause-item g t c =
    elim c.match-self.branch [
      | in-Leaf w ↦ rw w.item-is (w.swap.ensures.item ∙ ap (λ ps. item_at ps c.args.key) (at_leaf c.self.view_is w.in-Leaf.is))
      | in-Fork+then-key-fork w ↦
          let f = at_fork c.self.view_is c.self.invariant w.in-Fork.is w.deref_mut-fork.ensures.value in
          rw w.item-is (w.swap-then-key-fork.ensures.item ∙ sym (ap item_in (low_item c.args.key f w.if-key-fork.true)))
      | in-Fork+else-key-fork w ↦
          let f = at_fork c.self.view_is c.self.invariant w.in-Fork.is w.deref_mut-fork.ensures.value in
          rw w.item-is (w.swap-else-key-fork.ensures.item ∙ sym (ap item_in (high_item c.args.key f w.if-key-fork.false)))
    ]

pub returns-clause-places : goal.returns-clause-places
returns-clause-places g t c =
    elim c.match-self.branch [
      | in-Leaf w ↦ rw w.self-inside-is (w.swap.ensures.places ∙ ap (λ ps. with_place ps c.args.key (Some c.args.item.now)) (at_leaf c.self.view_is w.in-Leaf.is))
      | in-Fork+then-key-fork w ↦
          let f = at_fork c.self.view_is c.self.invariant w.in-Fork.is w.deref_mut-fork.ensures.value in
          let fits = low_counted f c.requires.place w.if-key-fork.true w.swap-then-key-fork.ensures.item in
          rw w.self-inside-is
          (low_seen {m = w.deref_mut-fork.result.now.count + w.count_of-more.result - w.count_of.result} {new = Some c.args.item.now} f c.requires.place w.if-key-fork.true w.swap-then-key-fork.ensures.places (rw w.swap-then-key-fork.ensures.places (with_some w.deref_mut-fork.result.now.low c.args.key c.args.item.now)) w.swap-then-key-fork.ensures.item (omega (arith, w.count_of.ensures, w.count_of-more.ensures, fits.0))).seen
      | in-Fork+else-key-fork w ↦
          let f = at_fork c.self.view_is c.self.invariant w.in-Fork.is w.deref_mut-fork.ensures.value in
          let fits = high_counted f c.requires.place w.if-key-fork.false w.swap-else-key-fork.ensures.item in
          rw w.self-inside-is
          (high_seen {m = w.deref_mut-fork.result.now.count + w.count_of-more.result - w.count_of-else-key-fork.result} {new = Some c.args.item.now} f c.requires.place w.if-key-fork.false w.swap-else-key-fork.ensures.places (rw w.swap-else-key-fork.ensures.places (with_some w.deref_mut-fork.result.now.high c.args.key c.args.item.now)) w.swap-else-key-fork.ensures.item (omega (arith, w.count_of-else-key-fork.ensures, w.count_of-more.ensures, fits.0))).seen
    ]
