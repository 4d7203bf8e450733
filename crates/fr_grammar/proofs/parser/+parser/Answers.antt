use Rattle.std.proofs.Common.{◌≡◌, suc, ◌+◌, ◌-◌, length, arith, [], ◌∷◌, refl, sym, ap, length-append}
use Rattle.std.proofs.lemmas.Result.{err_from_is_err_and}
use Rattle.fr_syntax.specs.declared.tree.Term.TheVariants.{Block, Let, Assign, Read, Box, Print, Join, Mutex, Arith, Spawn, Par, Lock}
use Rattle.fr_syntax.specs.Meanings.{Meaning, as_term, term_s}
use Rattle.fr_grammar.proofs.GrowthLemmas.{grown_first, grown_pair, grown_part, grown_branches, grown_node, grown_push}
use Rattle.fr_grammar.proofs.FirstToken.{item_term, let_value}
use Rattle.fr_grammar.proofs.BranchLemmas.{branch_value, par_value}
use Rattle.fr_grammar.proofs.ReadableLemmas.{readable_part}
use Rattle.fr_grammar.proofs.Front.{refused, goes_on, closes, ends}
use Rattle.fr_grammar.proofs.parser.+parser.Goals as goal

pub after_spot-returns-in_ok-add-in-len1-up-clause-node : goal.after_spot-returns-in_ok-add-in-len1-up-clause-node
after_spot-returns-in_ok-add-in-len1-up-clause-node t c =
    let a = c.in_ok-add-in-len1-up.ensures in
    λ start here. grown_node start _ _ _ _ (Assign c.args.to c.in_ok-value-in-len1-up.value) term_s (grown_pair start _ _ _ _ _ _ here c.in_ok-value-in-len1-up.ensures.node) a.number a.len a.names_kept a.meaning a.keeps refl

pub after_spot-returns-in_ok-add-in_default-clause-node : goal.after_spot-returns-in_ok-add-in_default-clause-node
after_spot-returns-in_ok-add-in_default-clause-node t c =
    let a = c.in_ok-add-in_default.ensures in
    λ start here. grown_node start _ _ _ _ (Read c.args.to) term_s (grown_first start _ _ _ here) a.number a.len a.names_kept a.meaning a.keeps refl

pub block-returns-in_ok-add-in_default-clause-node : goal.block-returns-in_ok-add-in_default-clause-node
block-returns-in_ok-add-in_default-clause-node t c =
    let a = c.in_ok-add-in_default.ensures in
    grown_node _ _ _ _ _ (Block c.in_ok-items-in_default.items) term_s (c.in_ok-items-in_default.ensures.nodes) a.number a.len a.names_kept a.meaning a.keeps refl

pub item-returns-in_ok-add-in-LetWord-clause-node : goal.item-returns-in_ok-add-in-LetWord-clause-node
item-returns-in_ok-add-in-LetWord-clause-node t c =
    let a = c.in_ok-add-in-LetWord.ensures in
    grown_node _ _ _ _ _ (Let c.in_ok-name-in-LetWord.name c.in_ok-value-in-LetWord.value) term_s (grown_first _ _ _ _ c.in_ok-value-in-LetWord.ensures.node) a.number a.len a.names_kept a.meaning a.keeps refl

pub term-returns-in_ok-add-in-BoxWord-clause-node : goal.term-returns-in_ok-add-in-BoxWord-clause-node
term-returns-in_ok-add-in-BoxWord-clause-node t c =
    let a = c.in_ok-add-in-BoxWord.ensures in
    grown_node _ _ _ _ _ (Box c.in_ok-value-in-BoxWord.value) term_s (grown_first _ _ _ _ c.in_ok-value-in-BoxWord.ensures.node) a.number a.len a.names_kept a.meaning a.keeps refl

pub term-returns-in_ok-add-in-PrintWord-clause-node : goal.term-returns-in_ok-add-in-PrintWord-clause-node
term-returns-in_ok-add-in-PrintWord-clause-node t c =
    let a = c.in_ok-add-in-PrintWord.ensures in
    grown_node _ _ _ _ _ (Print c.in_ok-value-in-PrintWord.value) term_s (grown_first _ _ _ _ c.in_ok-value-in-PrintWord.ensures.node) a.number a.len a.names_kept a.meaning a.keeps refl

pub term-returns-in_ok-add-in-JoinWord-clause-node : goal.term-returns-in_ok-add-in-JoinWord-clause-node
term-returns-in_ok-add-in-JoinWord-clause-node t c =
    let a = c.in_ok-add-in-JoinWord.ensures in
    grown_node _ _ _ _ _ (Join c.in_ok-task-in-JoinWord.task) term_s (grown_first _ _ _ _ c.in_ok-task-in-JoinWord.ensures.node) a.number a.len a.names_kept a.meaning a.keeps refl

pub term-returns-in_ok-add-in-MutexWord-clause-node : goal.term-returns-in_ok-add-in-MutexWord-clause-node
term-returns-in_ok-add-in-MutexWord-clause-node t c =
    let a = c.in_ok-add-in-MutexWord.ensures in
    grown_node _ _ _ _ _ (Mutex c.in_ok-value-in-MutexWord.value) term_s (grown_first _ _ _ _ c.in_ok-value-in-MutexWord.ensures.node) a.number a.len a.names_kept a.meaning a.keeps refl

pub item_and_next-returns-clause-readable : goal.item_and_next-returns-clause-readable
item_and_next-returns-clause-readable t c = c.in_ok-next.ensures.readable _ c.in_ok-node.ensures.readable

pub item-term-requires : goal.item-term-requires
item-term-requires t c =
    let r = c.in_ok-name-in-LetWord.ensures.readable _ (readable_part _ _ 1 c.args.tokens.now c.requires.readable) in
    (omega (arith, c.decreases), (omega (arith, c.in_ok-name-in-LetWord.ensures.three), r.1))

pub item-add-requires-clause-names : goal.item-add-requires-clause-names
item-add-requires-clause-names t c =
    let r = c.in_ok-name-in-LetWord.ensures.readable _ (readable_part _ _ 1 c.args.tokens.now c.requires.readable) in
    (rw c.in_ok-value-in-LetWord.ensures.node.names r.0, tt)

pub item-returns-in_ok-add-in-LetWord-clause-value : goal.item-returns-in_ok-add-in-LetWord-clause-value
item-returns-in_ok-add-in-LetWord-clause-value t c =
    let_value c.args.tree.now c.term.new.tree c.add.new.self c.args.depth c.args.tokens.now c.in_ok-name-in-LetWord.rest.now c.in_ok-value-in-LetWord.rest.now _ c.in_ok-name-in-LetWord.name c.in_ok-value-in-LetWord.value c.in_ok-add-in-LetWord.field-0 _ c.if-depth-eq0.false c.in-len1-up.len_at_least c.in-LetWord.is c.in_ok-name-in-LetWord.ensures.value c.in_ok-value-in-LetWord.ensures.value c.in_ok-value-in-LetWord.ensures.node.names c.in_ok-add-in-LetWord.ensures.meaning

pub items-returns-in_err-first-clause-value : goal.items-returns-in_err-first-clause-value
items-returns-in_err-first-clause-value t c =
    let p = err_from_is_err_and c.from_residual.result c.from_residual.ensures.1 in
    rw (p.1, p.2) (refused _ _ _ _ _ _ _ c.each.invariant.front c.each.invariant.nodes _ c.in_err-first.ensures.value)

pub items-returns-in-Close-clause-value : goal.items-returns-in-Close-clause-value
items-returns-in-Close-clause-value t c =
    closes _ _ _ _ _ _ _ c.each.invariant.front c.each.invariant.nodes _ _ _ _ _ c.in_ok-first.ensures.value c.in_ok-first.ensures.node c.in_ok-push.ensures.pushed c.in-Close.is

pub items-returns-in-Close-clause-nodes : goal.items-returns-in-Close-clause-nodes
items-returns-in-Close-clause-nodes t c =
    grown_push _ _ _ _ _ _ _ c.each.invariant.nodes c.in_ok-first.ensures.node c.in_ok-push.ensures.pushed

pub items-returns-in-LastUnit-clause-value : goal.items-returns-in-LastUnit-clause-value
items-returns-in-LastUnit-clause-value t c =
    ends _ _ _ _ _ _ _ c.each.invariant.front c.each.invariant.nodes _ _ _ _ _ c.in_ok-first.ensures.value c.in_ok-first.ensures.node c.in_ok-push.ensures.pushed _ _ _ _ c.in-LastUnit.is c.in_ok-last-in-LastUnit.ensures.node c.in_ok-last-in-LastUnit.ensures.value c.in_ok-push-in-LastUnit.ensures.pushed

pub items-returns-in-LastUnit-clause-nodes : goal.items-returns-in-LastUnit-clause-nodes
items-returns-in-LastUnit-clause-nodes t c =
    grown_push _ _ _ _ _ _ _ (grown_push _ _ _ _ _ _ _ c.each.invariant.nodes c.in_ok-first.ensures.node c.in_ok-push.ensures.pushed) c.in_ok-last-in-LastUnit.ensures.node c.in_ok-push-in-LastUnit.ensures.pushed

pub items-each-preserved : goal.items-each-preserved
items-each-preserved t c =
    let len : length c.push.new.self.items ≡ length c.each.items.items + 1 = rw c.in_ok-push.ensures.pushed (length-append c.each.items.items (c.in_ok-first.first ∷ [])) in
    let fuel : suc (length c.args.tokens.now - length c.push.new.self.items) ≡ length c.args.tokens.now - length c.each.items.items = omega (arith, len, c.in_ok-first.ensures.fewer, c.each.invariant.fuel) in
    record {
      front = goes_on _ _ _ _ _ _ _ c.each.invariant.front c.each.invariant.nodes _ _ _ _ _ c.in_ok-first.ensures.value c.in_ok-first.ensures.node c.in_ok-push.ensures.pushed _ c.in-More.is fuel;
      fuel = omega (arith, len, c.in_ok-first.ensures.fewer, c.each.invariant.fuel);
      nodes = grown_push _ _ _ _ _ _ _ c.each.invariant.nodes c.in_ok-first.ensures.node c.in_ok-push.ensures.pushed;
      room = omega (arith, c.in_ok-first.ensures.room, c.each.invariant.room);
      readable = rw (← c.each.invariant.nodes.names) c.in_ok-first.ensures.readable;
    }

pub arith-term-requires-2 : goal.arith-term-requires-2
arith-term-requires-2 t c =
    let r = c.in_ok-op.ensures.readable _ c.in_ok-left.ensures.readable in
    (omega (arith, c.decreases), (omega (arith, c.in_ok-left.ensures.room, c.in_ok-op.ensures.one), rw c.in_ok-left.ensures.node.names r))

pub arith-returns-clause-node : goal.arith-returns-clause-node
arith-returns-clause-node t c =
    let a = c.in_ok-add.ensures in
    grown_node _ _ _ _ _ (Arith c.in_ok-op.op c.in_ok-left.left c.in_ok-right.right) term_s (grown_pair _ _ _ _ _ _ _ c.in_ok-left.ensures.node c.in_ok-right.ensures.node) a.number a.len a.names_kept a.meaning a.keeps refl

pub arith-returns-clause-readable : goal.arith-returns-clause-readable
arith-returns-clause-readable t c = c.in_ok-rest.ensures.readable _ (rw (← c.in_ok-left.ensures.node.names) c.in_ok-right.ensures.readable)

pub branch-returns-clause-value : goal.branch-returns-clause-value
branch-returns-clause-value t c =
    branch_value _ _ _ _ _ _ _ _ _ c.in_ok-captures.ensures.value c.in_ok-body.ensures.value c.in_ok-captures.ensures.nodes c.in_ok-body.ensures.node

pub branch-returns-clause-nodes : goal.branch-returns-clause-nodes
branch-returns-clause-nodes t c = grown_part _ _ _ _ _ _ c.in_ok-captures.ensures.nodes c.in_ok-body.ensures.node

pub item-returns-in_default-kind-clause-value : goal.item-returns-in_default-kind-clause-value
item-returns-in_default-kind-clause-value t c =
    rw (item_term c.args.tree.now.names c.args.depth c.args.tokens.now _ c.if-depth-eq0.false c.in-len1-up.len_at_least c.in_default-kind.not-LetWord) c.term-in_default-kind.ensures.value

pub lock-body-requires : goal.lock-body-requires
lock-body-requires t c =
    let r = c.in_ok-name.ensures.readable _ c.in_ok-of.ensures.readable in
    (omega (arith, c.decreases), (omega (arith, c.in_ok-of.ensures.room, c.in_ok-name.ensures.two), rw c.in_ok-of.ensures.node.names r.1))

pub lock-add-requires-clause-names : goal.lock-add-requires-clause-names
lock-add-requires-clause-names t c =
    let r = c.in_ok-name.ensures.readable _ c.in_ok-of.ensures.readable in
    (rw (c.in_ok-body.ensures.node.names, c.in_ok-of.ensures.node.names) r.0, tt)

pub lock-returns-clause-node : goal.lock-returns-clause-node
lock-returns-clause-node t c =
    let a = c.in_ok-add.ensures in
    grown_node _ _ _ _ _ (Lock c.in_ok-of.of c.in_ok-name.name c.in_ok-body.body) term_s (grown_pair _ _ _ _ _ _ _ c.in_ok-of.ensures.node c.in_ok-body.ensures.node) a.number a.len a.names_kept a.meaning a.keeps refl

pub par-add-requires-clause-parts : goal.par-add-requires-clause-parts
par-add-requires-clause-parts t c =
    let grown = grown_branches _ _ _ _ _ _ _ c.in_ok-captures.ensures.nodes c.in_ok-others.ensures.nodes in
    rw (c.in_ok-ours.ensures, c.in_ok-theirs.ensures) grown.below

pub par-returns-clause-value : goal.par-returns-clause-value
par-returns-clause-value t c =
    let meaning = ap (λ (m : Meaning). as_term m.what) c.in_ok-add.ensures.meaning in
    par_value _ _ _ _ _ _ _ _ _ _ _ _ _ c.in_ok-captures.ensures.value c.in_ok-others.ensures.value c.in_ok-captures.ensures.nodes c.in_ok-others.ensures.nodes (rw (sym c.in_ok-ours.ensures, sym c.in_ok-theirs.ensures) meaning)

pub par-returns-clause-node : goal.par-returns-clause-node
par-returns-clause-node t c =
    let a = c.in_ok-add.ensures in
    let grown = grown_branches _ _ _ _ _ _ _ c.in_ok-captures.ensures.nodes c.in_ok-others.ensures.nodes in
    grown_node _ _ _ _ _ (Par c.in_ok-ours.ours c.in_ok-captures.body c.in_ok-theirs.theirs c.in_ok-others.other) term_s (rw (sym c.in_ok-ours.ensures, sym c.in_ok-theirs.ensures) at grown) a.number a.len a.names_kept a.meaning a.keeps refl

pub spawn-returns-clause-node : goal.spawn-returns-clause-node
spawn-returns-clause-node t c =
    let a = c.in_ok-add.ensures in
    grown_node _ _ _ _ _ (Spawn c.in_ok-captures.captures c.in_ok-captures.body) term_s c.in_ok-captures.ensures.nodes a.number a.len a.names_kept a.meaning a.keeps refl
