use Rattle.std.proofs.Common.{◌-◌, is_some, None, sym, ap, ◌∙◌, rules, arith}
use Rattle.rank_map.specs.Places.{item_in}
use Rattle.rank_map.proofs.ForkLemmas.{at_fork, low_less, high_less, low_item, high_item, low_seen, high_seen, low_counted, high_counted, low_emptied, high_emptied}
use Rattle.rank_map.proofs.tree.Tree.+remove.Goals as goal
use Rattle.rank_map.proofs.tree.Tree.+remove.Goals.{in-Leaf-2, in-Fork-2, in-Empty-2, in-Leaf-3, in-Fork-3, in-Empty-3}

pub remove-requires-then-key-fork : goal.remove-requires-then-key-fork
remove-requires-then-key-fork g t c κs within =
    let f = at_fork c.self.view_is c.self.invariant c.in-Fork.is c.deref_mut-fork.ensures.value in
    (omega (arith, c.decreases, low_less f), (search rules, sym (ap is_some (low_item c.args.key f c.if-key-fork.true)) ∙ c.requires.place))

pub overflow_sub-fork : goal.overflow_sub-fork
overflow_sub-fork g t c =
    let f = at_fork c.self.view_is c.self.invariant c.in-Fork.is c.deref_mut-fork.ensures.value in
    let fits = low_counted f c.requires.place c.if-key-fork.true c.remove-then-key-fork.ensures.item in
    omega (arith, fits.0, c.count_of.ensures)

pub invariant_of-self-else-is_empty-2 : goal.invariant_of-self-else-is_empty-2
invariant_of-self-else-is_empty-2 g t c =
    let f = at_fork c.self.view_is c.self.invariant c.in-Fork.is c.deref_mut-fork.ensures.value in
    let fits = low_counted f c.requires.place c.if-key-fork.true c.remove-then-key-fork.ensures.item in
    (low_seen {m = c.deref_mut-fork.result.now.count - c.count_of.result} {new = None} f c.requires.place c.if-key-fork.true c.remove-then-key-fork.ensures.places (c.is_empty-then-key-fork.ensures.some c.if-is_empty-2.false) c.remove-then-key-fork.ensures.item (omega (arith, c.count_of.ensures, fits.0))).fork

pub returns-else-is_empty-2-clause-places : goal.returns-else-is_empty-2-clause-places
returns-else-is_empty-2-clause-places g t c =
    let f = at_fork c.self.view_is c.self.invariant c.in-Fork.is c.deref_mut-fork.ensures.value in
    let fits = low_counted f c.requires.place c.if-key-fork.true c.remove-then-key-fork.ensures.item in
    (low_seen {m = c.deref_mut-fork.result.now.count - c.count_of.result} {new = None} f c.requires.place c.if-key-fork.true c.remove-then-key-fork.ensures.places (c.is_empty-then-key-fork.ensures.some c.if-is_empty-2.false) c.remove-then-key-fork.ensures.item (omega (arith, c.count_of.ensures, fits.0))).seen

pub returns-then-is_empty-2-clause-item : goal.returns-then-is_empty-2-clause-item
returns-then-is_empty-2-clause-item g t c =
    let f = at_fork c.self.view_is c.self.invariant c.in-Fork.is c.deref_mut-fork.ensures.value in
    c.remove-then-key-fork.ensures.item ∙ sym (ap item_in (low_item c.args.key f c.if-key-fork.true))

pub returns-else-is_empty-2-clause-item : goal.returns-else-is_empty-2-clause-item
returns-else-is_empty-2-clause-item g t c =
    let f = at_fork c.self.view_is c.self.invariant c.in-Fork.is c.deref_mut-fork.ensures.value in
    c.remove-then-key-fork.ensures.item ∙ sym (ap item_in (low_item c.args.key f c.if-key-fork.true))

pub returns-then-is_empty-2-clause-places : goal.returns-then-is_empty-2-clause-places
returns-then-is_empty-2-clause-places g t c =
    let f = at_fork c.self.view_is c.self.invariant c.in-Fork.is c.deref_mut-fork.ensures.value in
    let rest = c.replace-rest.ensures.value ∙ low_emptied f c.if-key-fork.true c.remove-then-key-fork.ensures.places (c.is_empty-then-key-fork.ensures.none c.if-is_empty-2.true) in
    elim c.match-self-rest.branch [
      | in-Leaf-2 w ↦ w.self-is ∙ c.rest.view_is ∙ rest
      | in-Fork-2 w ↦ w.self-is ∙ c.rest.view_is ∙ rest
      | in-Empty-2 w ↦ w.self-is ∙ c.rest.view_is ∙ rest
    ]

pub remove-requires-else-key-fork : goal.remove-requires-else-key-fork
remove-requires-else-key-fork g t c κs within =
    let f = at_fork c.self.view_is c.self.invariant c.in-Fork.is c.deref_mut-fork.ensures.value in
    (omega (arith, c.decreases, high_less f), (search rules, sym (ap is_some (high_item c.args.key f c.if-key-fork.false)) ∙ c.requires.place))

pub overflow_sub-fork-else-is_empty-3 : goal.overflow_sub-fork-else-is_empty-3
overflow_sub-fork-else-is_empty-3 g t c =
    let f = at_fork c.self.view_is c.self.invariant c.in-Fork.is c.deref_mut-fork.ensures.value in
    let fits = high_counted f c.requires.place c.if-key-fork.false c.remove-else-key-fork.ensures.item in
    omega (arith, fits.0, c.count_of-else-is_empty-3.ensures)

pub invariant_of-self-else-is_empty-3 : goal.invariant_of-self-else-is_empty-3
invariant_of-self-else-is_empty-3 g t c =
    let f = at_fork c.self.view_is c.self.invariant c.in-Fork.is c.deref_mut-fork.ensures.value in
    let fits = high_counted f c.requires.place c.if-key-fork.false c.remove-else-key-fork.ensures.item in
    (high_seen {m = c.deref_mut-fork.result.now.count - c.count_of-else-is_empty-3.result} {new = None} f c.requires.place c.if-key-fork.false c.remove-else-key-fork.ensures.places (c.is_empty-else-key-fork.ensures.some c.if-is_empty-3.false) c.remove-else-key-fork.ensures.item (omega (arith, c.count_of-else-is_empty-3.ensures, fits.0))).fork

pub returns-else-is_empty-3-clause-places : goal.returns-else-is_empty-3-clause-places
returns-else-is_empty-3-clause-places g t c =
    let f = at_fork c.self.view_is c.self.invariant c.in-Fork.is c.deref_mut-fork.ensures.value in
    let fits = high_counted f c.requires.place c.if-key-fork.false c.remove-else-key-fork.ensures.item in
    (high_seen {m = c.deref_mut-fork.result.now.count - c.count_of-else-is_empty-3.result} {new = None} f c.requires.place c.if-key-fork.false c.remove-else-key-fork.ensures.places (c.is_empty-else-key-fork.ensures.some c.if-is_empty-3.false) c.remove-else-key-fork.ensures.item (omega (arith, c.count_of-else-is_empty-3.ensures, fits.0))).seen

pub returns-then-is_empty-3-clause-item : goal.returns-then-is_empty-3-clause-item
returns-then-is_empty-3-clause-item g t c =
    let f = at_fork c.self.view_is c.self.invariant c.in-Fork.is c.deref_mut-fork.ensures.value in
    c.remove-else-key-fork.ensures.item ∙ sym (ap item_in (high_item c.args.key f c.if-key-fork.false))

pub returns-else-is_empty-3-clause-item : goal.returns-else-is_empty-3-clause-item
returns-else-is_empty-3-clause-item g t c =
    let f = at_fork c.self.view_is c.self.invariant c.in-Fork.is c.deref_mut-fork.ensures.value in
    c.remove-else-key-fork.ensures.item ∙ sym (ap item_in (high_item c.args.key f c.if-key-fork.false))

pub returns-then-is_empty-3-clause-places : goal.returns-then-is_empty-3-clause-places
returns-then-is_empty-3-clause-places g t c =
    let f = at_fork c.self.view_is c.self.invariant c.in-Fork.is c.deref_mut-fork.ensures.value in
    let rest = c.replace-rest-then-is_empty-3.ensures.value ∙ high_emptied f c.if-key-fork.false c.remove-else-key-fork.ensures.places (c.is_empty-else-key-fork.ensures.none c.if-is_empty-3.true) in
    elim c.match-self-rest-2.branch [
      | in-Leaf-3 w ↦ w.self-is ∙ c.rest-then-is_empty-3.view_is ∙ rest
      | in-Fork-3 w ↦ w.self-is ∙ c.rest-then-is_empty-3.view_is ∙ rest
      | in-Empty-3 w ↦ w.self-is ∙ c.rest-then-is_empty-3.view_is ∙ rest
    ]
