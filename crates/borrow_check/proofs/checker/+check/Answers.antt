use Rattle.std.proofs.Common.{◌<◌, ◌+◌, [], length, drop, Some, false, sym, ap, ◌∙◌, subst, arith}
use Rattle.std.proofs.lemmas.List.{drop_all}
use Rattle.std.proofs.lemmas.Result.{err_from_is_err_and}
use Rattle.fr_syntax.specs.Arena.{text_of}
use Rattle.fr_syntax.specs.Meanings.{meanings, meaning_at, term_at, place_at, captures_at, needs, capture_s, all_need, nodes_in, AreBelow}
use Rattle.fr_types.specs.declared.types.Ty.{Ty}
use Rattle.fr_types.specs.Types.{kind_of}
use Rattle.fr_types.specs.States.{env_of}
use Rattle.fr_typing.specs.Rules.{par_rule}
use Rattle.fr_typing.specs.Captures.{by_spawn, by_par, env_left_by_all}
use Rattle.borrow_check.specs.Usages.{usage_of, capture_usages, usages_of}
use Rattle.borrow_check.proofs.ScopeLemmas.{length-env_of}
use Rattle.borrow_check.proofs.UsageLemmas.{length-write, written_long}
use Rattle.borrow_check.proofs.RuleLemmas.{on_ok_map}
use Rattle.borrow_check.proofs.TermLemmas.{IsAlong, along_few, along_step, along_written, along_fails, first_ready, next_first, follows_gives}
use Rattle.borrow_check.proofs.CheckLemmas.{on_ok, on_ok_both, here_by, at_inside, box_part, print_part, join_part, mutex_part, let_part, assign_part, spawn_parts, spawn_gives, thread_used, spawn_used, join_used, mutex_used, block_parts, block_count, arith_parts, arith_gives, operands_used, arith_used, box_used, print_used, let_used, block_used, assign_used_at}
use Rattle.borrow_check.proofs.LockLemmas.{lock_parts, lock_here, lock_fails, lock_body_fails, lock_gives, lock_used}
use Rattle.borrow_check.proofs.ParLemmas.{behind, par_seen, par_here, par_parts, both_long, par_gives, par_used}
use Rattle.borrow_check.proofs.checker.+check.Goals as goal

pub check_term-check_term-requires : goal.check_term-check_term-requires
check_term-check_term-requires t c =
    let h = here_by c.args.tree.now c.args.at c.in-Some.node.now c.in-Some.ensures.what c.in-Some.ensures.nodes c.in-Some.ensures.parts in
    let part = box_part c.args.tree.now c.args.at c.in-Box.value c.in-Some.node.now h c.in-Box.is c.requires.ready in
    (omega (arith, c.decreases, part.before), (part.ready, (c.requires.scope, (c.requires.usages, omega (arith, c.requires.few, part.count)))))

pub check_term-check_term-requires-in-Print : goal.check_term-check_term-requires-in-Print
check_term-check_term-requires-in-Print t c =
    let h = here_by c.args.tree.now c.args.at c.in-Some.node.now c.in-Some.ensures.what c.in-Some.ensures.nodes c.in-Some.ensures.parts in
    let part = print_part c.args.tree.now c.args.at c.in-Print.value c.in-Some.node.now h c.in-Print.is c.requires.ready in
    (omega (arith, c.decreases, part.before), (part.ready, (c.requires.scope, (c.requires.usages, omega (arith, c.requires.few, part.count)))))

pub check_term-check_term-requires-in-Let : goal.check_term-check_term-requires-in-Let
check_term-check_term-requires-in-Let t c =
    let h = here_by c.args.tree.now c.args.at c.in-Some.node.now c.in-Some.ensures.what c.in-Some.ensures.nodes c.in-Some.ensures.parts in
    let part = let_part c.args.tree.now c.args.at c.in-Let.name c.in-Let.value c.in-Some.node.now h c.in-Let.is c.requires.ready in
    (omega (arith, c.decreases, part.before), (part.ready, (c.requires.scope, (c.requires.usages, omega (arith, c.requires.few, part.count)))))

pub check_term-check_term-requires-in-Assign : goal.check_term-check_term-requires-in-Assign
check_term-check_term-requires-in-Assign t c =
    let h = here_by c.args.tree.now c.args.at c.in-Some.node.now c.in-Some.ensures.what c.in-Some.ensures.nodes c.in-Some.ensures.parts in
    let part = assign_part c.args.tree.now c.args.at c.in-Assign.to c.in-Assign.value c.in-Some.node.now h c.in-Assign.is c.requires.ready in
    (omega (arith, c.decreases, part.before), (part.ready, (c.requires.scope, (c.requires.usages, omega (arith, c.requires.few, part.count)))))

pub check_term-check_term-requires-in-Join : goal.check_term-check_term-requires-in-Join
check_term-check_term-requires-in-Join t c =
    let h = here_by c.args.tree.now c.args.at c.in-Some.node.now c.in-Some.ensures.what c.in-Some.ensures.nodes c.in-Some.ensures.parts in
    let part = join_part c.args.tree.now c.args.at c.in-Join.task c.in-Some.node.now h c.in-Join.is c.requires.ready in
    (omega (arith, c.decreases, part.before), (part.ready, (c.requires.scope, (c.requires.usages, omega (arith, c.requires.few, part.count)))))

pub check_term-check_spawn-requires : goal.check_term-check_spawn-requires
check_term-check_spawn-requires t c =
    let h = here_by c.args.tree.now c.args.at c.in-Some.node.now c.in-Some.ensures.what c.in-Some.ensures.nodes c.in-Some.ensures.parts in
    let parts = spawn_parts c.args.tree.now c.args.at c.in-Spawn.captures c.in-Spawn.body c.in-Some.node.now h c.in-Spawn.is c.requires.ready in
    (omega (arith, c.decreases, parts.before), (parts.names, (parts.ready, (c.requires.scope, (c.requires.usages, omega (arith, c.requires.few, parts.count))))))

pub check_term-returns-in-Spawn-clause-gives : goal.check_term-returns-in-Spawn-clause-gives
check_term-returns-in-Spawn-clause-gives t c =
    let h = here_by c.args.tree.now c.args.at c.in-Some.node.now c.in-Some.ensures.what c.in-Some.ensures.nodes c.in-Some.ensures.parts in
    spawn_gives c.args.tree.now c.args.at c.in-Spawn.captures c.in-Spawn.body c.in-Some.node.now (env_of c.args.tree.now.names c.args.env.now) (env_of c.args.tree.now.names c.check_spawn.new.env) c.check_spawn.result h c.in-Spawn.is c.check_spawn.ensures.gives

pub check_term-returns-in-Spawn-clause-usages : goal.check_term-returns-in-Spawn-clause-usages
check_term-returns-in-Spawn-clause-usages t c =
    let h = here_by c.args.tree.now c.args.at c.in-Some.node.now c.in-Some.ensures.what c.in-Some.ensures.nodes c.in-Some.ensures.parts in
    on_ok_map _ _ c.check_spawn.result
    (spawn_used c.args.tree.now c.args.at c.in-Spawn.captures c.in-Spawn.body c.in-Some.node.now (env_of c.args.tree.now.names c.args.env.now) c.args.checker.now.usages.items c.check_spawn.new.checker.usages.items h c.in-Spawn.is
    (at_inside c.args.tree.now c.args.at c.args.checker.now.usages.items c.requires.ready c.requires.usages)) c.check_spawn.ensures.usages

pub check_spawn-check_term-requires : goal.check_spawn-check_term-requires
check_spawn-check_term-requires t c = (
  omega (arith, c.decreases),
  (
    c.requires.ready,
    (
      c.in_ok-capture_all.ensures.new_scope,
      (
        written_long c.args.checker.now.usages.items c.capture_all.new.checker.usages.items (nodes_in (meanings c.args.tree.now) (all_need capture_s c.args.captures.now.items)) (capture_usages by_spawn (env_of c.args.tree.now.names c.args.env.now) (env_of c.args.tree.now.names c.take-new.result) (captures_at (meanings c.args.tree.now) c.args.captures.now.items)) c.in_ok-capture_all.ensures.usages ∙ c.requires.usages,
        omega (arith, c.requires.few, c.in_ok-capture_all.ensures.few, ap length c.take-new.ensures),
      ),
    ),
  ),
)

pub check_spawn-returns-clause-usages : goal.check_spawn-returns-clause-usages
check_spawn-returns-clause-usages t c =
    let names = c.args.tree.now.names in
    let ms = meanings c.args.tree.now in
    on_ok _ c.in_task.result
    (thread_used by_spawn names c.take-new.result (env_of names c.args.env.now) (env_of names c.capture_all.new.env) (env_of names c.capture_all.new.new) (captures_at ms c.args.captures.now.items) (term_at ms c.args.body) c.args.checker.now.usages.items c.capture_all.new.checker.usages.items c.check_term.new.checker.usages.items
    (nodes_in ms (all_need capture_s c.args.captures.now.items)) (meaning_at ms c.args.body).nodes c.take-new.ensures c.in_ok-capture_all.ensures.goes_on c.in_ok-capture_all.ensures.usages c.in_ok-t.ensures.usages)

pub check_term-returns-in_ok-t-in-Join-clause-usages : goal.check_term-returns-in_ok-t-in-Join-clause-usages
check_term-returns-in_ok-t-in-Join-clause-usages t c =
    let h = here_by c.args.tree.now c.args.at c.in-Some.node.now c.in-Some.ensures.what c.in-Some.ensures.nodes c.in-Some.ensures.parts in
    on_ok _ c.joined.result
    (join_used c.args.tree.now c.args.at c.in-Join.task c.in-Some.node.now (env_of c.args.tree.now.names c.args.env.now) c.args.checker.now.usages.items c.check_term-in-Join.new.checker.usages.items h c.in-Join.is
    (at_inside c.args.tree.now c.args.at c.args.checker.now.usages.items c.requires.ready c.requires.usages) c.in_ok-t-in-Join.ensures.usages)

pub check_term-check_items-requires : goal.check_term-check_items-requires
check_term-check_items-requires t c =
    let h = here_by c.args.tree.now c.args.at c.in-Some.node.now c.in-Some.ensures.what c.in-Some.ensures.nodes c.in-Some.ensures.parts in
    (omega (arith, c.decreases), (block_parts c.args.tree.now c.args.at c.in-Block.items c.in-Some.node.now h c.in-Block.is c.requires.ready, (c.requires.scope, (c.requires.usages, omega (arith, c.requires.few, block_count c.args.tree.now c.args.at c.in-Block.items c.in-Some.node.now h c.in-Block.is)))))

pub check_term-check_arith-requires : goal.check_term-check_arith-requires
check_term-check_arith-requires t c =
    let h = here_by c.args.tree.now c.args.at c.in-Some.node.now c.in-Some.ensures.what c.in-Some.ensures.nodes c.in-Some.ensures.parts in
    let parts = arith_parts c.args.tree.now c.args.at c.in-Arith.left c.in-Arith.right c.in-Arith.field-0 c.in-Some.node.now h c.in-Arith.is c.requires.ready in
    (omega (arith, c.decreases), (parts.left_before, (parts.right_before, (parts.left_ready, (parts.right_ready, (c.requires.scope, (c.requires.usages, omega (arith, c.requires.few, parts.count))))))))

pub check_term-returns-in-Arith-clause-gives : goal.check_term-returns-in-Arith-clause-gives
check_term-returns-in-Arith-clause-gives t c =
    let h = here_by c.args.tree.now c.args.at c.in-Some.node.now c.in-Some.ensures.what c.in-Some.ensures.nodes c.in-Some.ensures.parts in
    arith_gives c.args.tree.now c.args.at c.in-Arith.left c.in-Arith.right c.in-Arith.field-0 c.in-Some.node.now (env_of c.args.tree.now.names c.args.env.now) (env_of c.args.tree.now.names c.check_arith.new.env) c.check_arith.result h c.in-Arith.is (c.check_arith.ensures.gives c.in-Arith.field-0)

pub check_term-returns-in-Arith-clause-usages : goal.check_term-returns-in-Arith-clause-usages
check_term-returns-in-Arith-clause-usages t c =
    let h = here_by c.args.tree.now c.args.at c.in-Some.node.now c.in-Some.ensures.what c.in-Some.ensures.nodes c.in-Some.ensures.parts in
    on_ok_map _ _ c.check_arith.result
    (arith_used c.args.tree.now c.args.at c.in-Arith.left c.in-Arith.right c.in-Arith.field-0 c.in-Some.node.now (env_of c.args.tree.now.names c.args.env.now) c.args.checker.now.usages.items c.check_arith.new.checker.usages.items h c.in-Arith.is
    (at_inside c.args.tree.now c.args.at c.args.checker.now.usages.items c.requires.ready c.requires.usages)) c.check_arith.ensures.usages

pub check_arith-check_term-requires-2 : goal.check_arith-check_term-requires-2
check_arith-check_term-requires-2 t c = (
  omega (arith, c.decreases, c.requires.right),
  (
    c.requires.right_ready,
    (
      c.in_ok-first.ensures.scope,
      (
        written_long c.args.checker.now.usages.items c.check_term.new.checker.usages.items (meaning_at (meanings c.args.tree.now) c.args.left).nodes (usages_of (term_at (meanings c.args.tree.now) c.args.left) (env_of c.args.tree.now.names c.args.env.now)) c.in_ok-first.ensures.usages ∙ c.requires.usages,
        omega (arith, c.requires.few, c.in_ok-first.ensures.few),
      ),
    ),
  ),
)

pub check_arith-returns-clause-usages : goal.check_arith-returns-clause-usages
check_arith-returns-clause-usages t c =
    on_ok _ c.combined.result
    (operands_used c.args.tree.now c.args.left c.args.right (kind_of c.in_ok-first.first) (env_of c.args.tree.now.names c.args.env.now) (env_of c.args.tree.now.names c.check_term.new.env) c.args.checker.now.usages.items c.check_term.new.checker.usages.items c.check_term-2.new.checker.usages.items
    c.in_ok-first.ensures.gives c.in_ok-first.ensures.usages c.in_ok-second.ensures.usages)

pub check_term-assign-requires-clause-usages : goal.check_term-assign-requires-clause-usages
check_term-assign-requires-clause-usages t c =
    let below : AreBelow (meanings c.args.tree.now) c.args.at (needs c.in-Some.node.now.term) = c.in-Some.ensures.parts in
    let before : c.in-Assign.to < c.args.at = (subst (AreBelow (meanings c.args.tree.now) c.args.at) (ap needs c.in-Assign.is) below).0 in
    omega (arith, c.requires.ready.here, c.requires.usages, written_long c.args.checker.now.usages.items c.check_term-in-Assign.new.checker.usages.items (meaning_at (meanings c.args.tree.now) c.in-Assign.value).nodes (usages_of (term_at (meanings c.args.tree.now) c.in-Assign.value) (env_of c.args.tree.now.names c.args.env.now)) c.in_ok-t-in-Assign.ensures.usages)

pub check_term-returns-in_ok-t-in-Box-clause-usages : goal.check_term-returns-in_ok-t-in-Box-clause-usages
check_term-returns-in_ok-t-in-Box-clause-usages t c =
    let h = here_by c.args.tree.now c.args.at c.in-Some.node.now c.in-Some.ensures.what c.in-Some.ensures.nodes c.in-Some.ensures.parts in
    on_ok _ c.in_box.result
    (box_used c.args.tree.now c.args.at c.in-Box.value c.in-Some.node.now (env_of c.args.tree.now.names c.args.env.now) c.args.checker.now.usages.items c.check_term.new.checker.usages.items h c.in-Box.is
    (at_inside c.args.tree.now c.args.at c.args.checker.now.usages.items c.requires.ready c.requires.usages) c.in_ok-t-in-Box.ensures.usages)

pub check_term-returns-in_ok-t-in-Print-clause-usages : goal.check_term-returns-in_ok-t-in-Print-clause-usages
check_term-returns-in_ok-t-in-Print-clause-usages t c =
    let h = here_by c.args.tree.now c.args.at c.in-Some.node.now c.in-Some.ensures.what c.in-Some.ensures.nodes c.in-Some.ensures.parts in
    on_ok _ c.printed.result
    (print_used c.args.tree.now c.args.at c.in-Print.value c.in-Some.node.now (env_of c.args.tree.now.names c.args.env.now) c.args.checker.now.usages.items c.check_term-in-Print.new.checker.usages.items h c.in-Print.is
    (at_inside c.args.tree.now c.args.at c.args.checker.now.usages.items c.requires.ready c.requires.usages) c.in_ok-t-in-Print.ensures.usages)

pub check_term-returns-in_ok-t-in-Let-clause-usages : goal.check_term-returns-in_ok-t-in-Let-clause-usages
check_term-returns-in_ok-t-in-Let-clause-usages t c =
    let h = here_by c.args.tree.now c.args.at c.in-Some.node.now c.in-Some.ensures.what c.in-Some.ensures.nodes c.in-Some.ensures.parts in
    on_ok _ c.bind.result
    (let_used c.args.tree.now c.args.at c.in-Let.name c.in-Let.value c.in-Some.node.now (env_of c.args.tree.now.names c.args.env.now) c.args.checker.now.usages.items c.check_term-in-Let.new.checker.usages.items h c.in-Let.is
    (at_inside c.args.tree.now c.args.at c.args.checker.now.usages.items c.requires.ready c.requires.usages) c.in_ok-t-in-Let.ensures.usages)

pub check_term-returns-in_ok-t-in-Assign-clause-usages : goal.check_term-returns-in_ok-t-in-Assign-clause-usages
check_term-returns-in_ok-t-in-Assign-clause-usages t c =
    let h = here_by c.args.tree.now c.args.at c.in-Some.node.now c.in-Some.ensures.what c.in-Some.ensures.nodes c.in-Some.ensures.parts in
    on_ok_both _ _ _ c.assign.result c.assign.ensures.place c.assign.ensures.usages
    (λ place wrote. assign_used_at c.args.tree.now c.args.at c.in-Assign.to c.in-Assign.value c.in-Some.node.now (kind_of c.in_ok-t-in-Assign.t) (env_of c.args.tree.now.names c.args.env.now) (env_of c.args.tree.now.names c.check_term-in-Assign.new.env) c.args.checker.now.usages.items c.check_term-in-Assign.new.checker.usages.items c.assign.new.checker.usages.items h c.in-Assign.is place c.requires.ready
    (at_inside c.args.tree.now c.args.at c.args.checker.now.usages.items c.requires.ready c.requires.usages) c.in_ok-t-in-Assign.ensures.gives c.in_ok-t-in-Assign.ensures.usages wrote)

pub check_term-returns-in_ok-t-in-Block-clause-scope : goal.check_term-returns-in_ok-t-in-Block-clause-scope
check_term-returns-in_ok-t-in-Block-clause-scope t c = on_ok_map _ _ c.end_block.result (λ f. f c.args.tree.now.names c.in_ok-t-in-Block.ensures.scope) c.end_block.ensures.scope

pub check_term-returns-in_ok-t-in-Block-clause-usages : goal.check_term-returns-in_ok-t-in-Block-clause-usages
check_term-returns-in_ok-t-in-Block-clause-usages t c =
    let h = here_by c.args.tree.now c.args.at c.in-Some.node.now c.in-Some.ensures.what c.in-Some.ensures.nodes c.in-Some.ensures.parts in
    on_ok _ c.end_block.result
    (block_used c.args.tree.now c.args.at c.in-Block.items c.in-Some.node.now (env_of c.args.tree.now.names c.args.env.now) c.args.checker.now.usages.items c.check_items.new.checker.usages.items h c.in-Block.is
    (at_inside c.args.tree.now c.args.at c.args.checker.now.usages.items c.requires.ready c.requires.usages) c.in_ok-t-in-Block.ensures.usages)

pub check_items-check_term-requires : goal.check_items-check_term-requires
check_items-check_term-requires t c =
    let e = next_first c.args.items.now.items c.items.next c.in-Some.item.now (sym c.in-Some.ensures) in
    let along = subst (λ l. IsAlong c.args.tree.now c.args.bound c.args.place c.args.items.now.items l c.args.env.now c.items.env c.args.checker.now.usages.items c.items.checker.usages.items (kind_of c.items.t) c.items.last) e c.items.invariant in
    (omega (arith, c.decreases, along.ready.parts.0), (first_ready c.args.tree.now c.args.bound c.in-Some.item.now (drop (c.items.next + 1) c.args.items.now.items) along.ready, (c.items.invariant.scope, (c.items.invariant.long, along_few c.args.tree.now c.args.bound c.args.place c.in-Some.item.now c.args.items.now.items (drop (c.items.next + 1) c.args.items.now.items) c.args.env.now c.items.env c.args.checker.now.usages.items c.items.checker.usages.items (kind_of c.items.t) c.items.last along c.requires.few))))

pub check_items-returns-in_err-found-clause-gives : goal.check_items-returns-in_err-found-clause-gives
check_items-returns-in_err-found-clause-gives t c =
    let e = next_first c.args.items.now.items c.items.next c.in-Some.item.now (sym c.in-Some.ensures) in
    let along = subst (λ l. IsAlong c.args.tree.now c.args.bound c.args.place c.args.items.now.items l c.args.env.now c.items.env c.args.checker.now.usages.items c.items.checker.usages.items (kind_of c.items.t) c.items.last) e c.items.invariant in
    let p = err_from_is_err_and c.from_residual.result c.from_residual.ensures.1 in
    rw (p.1, p.2) (along_fails c.args.tree.now c.args.bound c.args.place c.in-Some.item.now c.args.items.now.items (drop (c.items.next + 1) c.args.items.now.items) c.args.env.now c.items.env c.args.checker.now.usages.items c.items.checker.usages.items (kind_of c.items.t) c.items.last c.in_err-found.field-0.0 _ _ along c.in_err-found.ensures.gives)

pub check_items-start-last-requires-clause-sort : goal.check_items-start-last-requires-clause-sort
check_items-start-last-requires-clause-sort t c =
    let e = next_first c.args.items.now.items c.items.next c.in-Some.item.now (sym c.in-Some.ensures) in
    let along = subst (λ l. IsAlong c.args.tree.now c.args.bound c.args.place c.args.items.now.items l c.args.env.now c.items.env c.args.checker.now.usages.items c.items.checker.usages.items (kind_of c.items.t) c.items.last) e c.items.invariant in
    (first_ready c.args.tree.now c.args.bound c.in-Some.item.now (drop (c.items.next + 1) c.args.items.now.items) along.ready).sort

pub check_items-items-preserved : goal.check_items-items-preserved
check_items-items-preserved t c =
    let e = next_first c.args.items.now.items c.items.next c.in-Some.item.now (sym c.in-Some.ensures) in
    let along = subst (λ l. IsAlong c.args.tree.now c.args.bound c.args.place c.args.items.now.items l c.args.env.now c.items.env c.args.checker.now.usages.items c.items.checker.usages.items (kind_of c.items.t) c.items.last) e c.items.invariant in
    let next = along_step c.args.tree.now c.args.bound c.args.place c.in-Some.item.now c.args.items.now.items (drop (c.items.next + 1) c.args.items.now.items) c.args.env.now c.items.env c.check_term.new.env c.args.checker.now.usages.items c.items.checker.usages.items c.check_term.new.checker.usages.items (kind_of c.items.t) (kind_of c.in_ok-found.found) c.items.last c.start-last.result along c.in_ok-found.ensures.gives c.in_ok-found.ensures.below c.in_ok-found.ensures.scope c.in_ok-found.ensures.grows c.in_ok-found.ensures.few c.in_ok-found.ensures.usages c.start-last.ensures in
    subst (λ (u : Ty). IsAlong c.args.tree.now c.args.bound c.args.place c.args.items.now.items (drop (c.items.next + 1) c.args.items.now.items) c.args.env.now c.check_term.new.env c.args.checker.now.usages.items c.check_term.new.checker.usages.items (kind_of u) c.start-last.result) (sym c.replace.ensures.after) next

pub check_items-returns-clause-usages : goal.check_items-returns-clause-usages
check_items-returns-clause-usages t c =
    along_written c.args.tree.now c.args.bound c.args.place c.args.items.now.items (drop c.items.next c.args.items.now.items) c.args.env.now c.items.env c.args.checker.now.usages.items c.items.checker.usages.items (kind_of c.items.t) c.items.last c.items.invariant
    (drop_all c.items.next c.args.items.now.items (omega arith))

-- MUTEXES

pub check_term-check_term-requires-in-Mutex : goal.check_term-check_term-requires-in-Mutex
check_term-check_term-requires-in-Mutex t c =
    let h = here_by c.args.tree.now c.args.at c.in-Some.node.now c.in-Some.ensures.what c.in-Some.ensures.nodes c.in-Some.ensures.parts in
    let part = mutex_part c.args.tree.now c.args.at c.in-Mutex.value c.in-Some.node.now h c.in-Mutex.is c.requires.ready in
    (omega (arith, c.decreases, part.before), (part.ready, (c.requires.scope, (c.requires.usages, omega (arith, c.requires.few, part.count)))))

pub check_term-returns-in_ok-t-in-Mutex-clause-usages : goal.check_term-returns-in_ok-t-in-Mutex-clause-usages
check_term-returns-in_ok-t-in-Mutex-clause-usages t c =
    let h = here_by c.args.tree.now c.args.at c.in-Some.node.now c.in-Some.ensures.what c.in-Some.ensures.nodes c.in-Some.ensures.parts in
    on_ok _ c.in_mutex.result
    (mutex_used c.args.tree.now c.args.at c.in-Mutex.value c.in-Some.node.now (env_of c.args.tree.now.names c.args.env.now) c.args.checker.now.usages.items c.check_term-in-Mutex.new.checker.usages.items h c.in-Mutex.is
    (at_inside c.args.tree.now c.args.at c.args.checker.now.usages.items c.requires.ready c.requires.usages) c.in_ok-t-in-Mutex.ensures.usages)

-- LOCKS

pub check_term-returns-in_err-lock-in-Lock-clause-gives : goal.check_term-returns-in_err-lock-in-Lock-clause-gives
check_term-returns-in_err-lock-in-Lock-clause-gives t c =
    let h = here_by c.args.tree.now c.args.at c.in-Some.node.now c.in-Some.ensures.what c.in-Some.ensures.nodes c.in-Some.ensures.parts in
    let a = c.args.tree.now in
    let ms = meanings a in
    let e = env_of a.names c.args.env.now in
    let locked = env_of a.names c.lock.new.env in
    let is = lock_here a c.args.at c.in-Lock.of c.in-Lock.name c.in-Lock.body c.in-Some.node.now h c.in-Lock.is in
    let p = err_from_is_err_and c.from_residual-in_err-lock-in-Lock.result c.from_residual-in_err-lock-in-Lock.ensures.1 in
    rw (p.1, p.2)
    (lock_fails (term_at ms c.args.at) (term_at ms c.in-Lock.body) c.in-Some.node.now.place (place_at ms c.in-Lock.of) (text_of a.names c.in-Lock.name) c.in_err-lock-in-Lock.field-0.0 e locked locked is c.in_err-lock-in-Lock.ensures.goes_to)

pub check_term-check_term-requires-in-Lock : goal.check_term-check_term-requires-in-Lock
check_term-check_term-requires-in-Lock t c =
    let h = here_by c.args.tree.now c.args.at c.in-Some.node.now c.in-Some.ensures.what c.in-Some.ensures.nodes c.in-Some.ensures.parts in
    let parts = lock_parts c.args.tree.now c.args.at c.in-Lock.of c.in-Lock.name c.in-Lock.body c.in-Some.node.now h c.in-Lock.is c.requires.ready in
    let names = c.args.tree.now.names in
    let used = usage_of (env_of names c.args.env.now) (place_at (meanings c.args.tree.now) c.in-Lock.of) false in (
      omega (arith, c.decreases, parts.before),
      (
        parts.ready,
        (
          c.in_ok-lock-in-Lock.ensures.scope,
          (
            ap length c.in_ok-lock-in-Lock.ensures.usages ∙ length-write c.args.checker.now.usages.items c.in-Lock.of (Some used) ∙ c.requires.usages,
            omega (arith, c.requires.few, parts.count, c.in_ok-lock-in-Lock.ensures.two, ap length c.in_ok-lock-in-Lock.ensures.place),
          ),
        ),
      ),
    )

pub check_term-returns-in_err-t-in-Lock-clause-gives : goal.check_term-returns-in_err-t-in-Lock-clause-gives
check_term-returns-in_err-t-in-Lock-clause-gives t c =
    let h = here_by c.args.tree.now c.args.at c.in-Some.node.now c.in-Some.ensures.what c.in-Some.ensures.nodes c.in-Some.ensures.parts in
    let a = c.args.tree.now in
    let ms = meanings a in
    let e = env_of a.names c.args.env.now in
    let locked = env_of a.names c.lock.new.env in
    let is = lock_here a c.args.at c.in-Lock.of c.in-Lock.name c.in-Lock.body c.in-Some.node.now h c.in-Lock.is in
    let after = env_of a.names c.check_term-in-Lock.new.env in
    let p = err_from_is_err_and c.from_residual-in_err-t-in-Lock.result c.from_residual-in_err-t-in-Lock.ensures.1 in
    rw (p.1, p.2)
    (lock_body_fails (term_at ms c.args.at) (term_at ms c.in-Lock.body) c.in-Some.node.now.place (place_at ms c.in-Lock.of) (text_of a.names c.in-Lock.name) c.in_err-t-in-Lock.field-0.0 e locked after after is c.in_ok-lock-in-Lock.ensures.goes_to c.in_err-t-in-Lock.ensures.gives)

pub check_term-returns-in_ok-t-in-Lock-clause-gives : goal.check_term-returns-in_ok-t-in-Lock-clause-gives
check_term-returns-in_ok-t-in-Lock-clause-gives t c =
    let h = here_by c.args.tree.now c.args.at c.in-Some.node.now c.in-Some.ensures.what c.in-Some.ensures.nodes c.in-Some.ensures.parts in
    let a = c.args.tree.now in
    let ms = meanings a in
    let e = env_of a.names c.args.env.now in
    let locked = env_of a.names c.lock.new.env in
    let is = lock_here a c.args.at c.in-Lock.of c.in-Lock.name c.in-Lock.body c.in-Some.node.now h c.in-Lock.is in
    lock_gives (term_at ms c.args.at) (term_at ms c.in-Lock.body) c.in-Some.node.now.place (place_at ms c.in-Lock.of) (text_of a.names c.in-Lock.name) c.unlock.result (kind_of c.in_ok-t-in-Lock.t) c.len-base-in-Lock.result c.start-in-Lock.result
    e locked (env_of a.names c.check_term-in-Lock.new.env) (env_of a.names c.unlock.new.env) is c.in_ok-lock-in-Lock.ensures.goes_to c.in_ok-t-in-Lock.ensures.gives
    (c.len-base-in-Lock.ensures.len ∙ sym (length-env_of a.names c.args.env.now)) c.start-in-Lock.ensures (c.unlock.ensures.gives a.names)

pub check_term-returns-in_ok-t-in-Lock-clause-scope : goal.check_term-returns-in_ok-t-in-Lock-clause-scope
check_term-returns-in_ok-t-in-Lock-clause-scope t c = on_ok_map _ _ c.unlock.result (λ f. f c.args.tree.now.names c.in_ok-t-in-Lock.ensures.scope) c.unlock.ensures.scope

pub check_term-returns-in_ok-t-in-Lock-clause-usages : goal.check_term-returns-in_ok-t-in-Lock-clause-usages
check_term-returns-in_ok-t-in-Lock-clause-usages t c =
    let h = here_by c.args.tree.now c.args.at c.in-Some.node.now c.in-Some.ensures.what c.in-Some.ensures.nodes c.in-Some.ensures.parts in
    let parts = lock_parts c.args.tree.now c.args.at c.in-Lock.of c.in-Lock.name c.in-Lock.body c.in-Some.node.now h c.in-Lock.is c.requires.ready in
    let names = c.args.tree.now.names in
    on_ok _ c.unlock.result
    (lock_used c.args.tree.now c.args.at c.in-Lock.of c.in-Lock.name c.in-Lock.body c.in-Some.node.now (env_of names c.args.env.now) (env_of names c.lock.new.env) c.args.checker.now.usages.items c.lock.new.checker.usages.items c.check_term-in-Lock.new.checker.usages.items h c.in-Lock.is c.in_ok-lock-in-Lock.ensures.place
    (at_inside c.args.tree.now c.args.at c.args.checker.now.usages.items c.requires.ready c.requires.usages) parts.place_before c.in_ok-lock-in-Lock.ensures.goes_to c.in_ok-lock-in-Lock.ensures.usages c.in_ok-t-in-Lock.ensures.usages)

-- BLOCKS BESIDE EACH OTHER

pub check_term-capture_both-requires-clause-first : goal.check_term-capture_both-requires-clause-first
check_term-capture_both-requires-clause-first t c =
    let h = here_by c.args.tree.now c.args.at c.in-Some.node.now c.in-Some.ensures.what c.in-Some.ensures.nodes c.in-Some.ensures.parts in
    let bs = behind c.in-Par.captures c.deref.result.now in
    let es = behind c.in-Par.others c.deref-in-Par.result.now in
    let is = par_seen c.in-Some.node.now.term c.in-Par.captures c.in-Par.others c.in-Par.body c.in-Par.other c.deref.result.now c.deref-in-Par.result.now c.in-Par.is c.deref.ensures c.deref-in-Par.ensures in
    let parts = par_parts c.args.tree.now c.args.at bs c.in-Par.body es c.in-Par.other c.in-Some.node.now h is c.requires.ready in
    parts.first

pub check_term-capture_both-requires-clause-second : goal.check_term-capture_both-requires-clause-second
check_term-capture_both-requires-clause-second t c =
    let h = here_by c.args.tree.now c.args.at c.in-Some.node.now c.in-Some.ensures.what c.in-Some.ensures.nodes c.in-Some.ensures.parts in
    let bs = behind c.in-Par.captures c.deref.result.now in
    let es = behind c.in-Par.others c.deref-in-Par.result.now in
    let is = par_seen c.in-Some.node.now.term c.in-Par.captures c.in-Par.others c.in-Par.body c.in-Par.other c.deref.result.now c.deref-in-Par.result.now c.in-Par.is c.deref.ensures c.deref-in-Par.ensures in
    let parts = par_parts c.args.tree.now c.args.at bs c.in-Par.body es c.in-Par.other c.in-Some.node.now h is c.requires.ready in
    parts.second

pub check_term-capture_both-requires-clause-few : goal.check_term-capture_both-requires-clause-few
check_term-capture_both-requires-clause-few t c =
    let h = here_by c.args.tree.now c.args.at c.in-Some.node.now c.in-Some.ensures.what c.in-Some.ensures.nodes c.in-Some.ensures.parts in
    let bs = behind c.in-Par.captures c.deref.result.now in
    let es = behind c.in-Par.others c.deref-in-Par.result.now in
    let is = par_seen c.in-Some.node.now.term c.in-Par.captures c.in-Par.others c.in-Par.body c.in-Par.other c.deref.result.now c.deref-in-Par.result.now c.in-Par.is c.deref.ensures c.deref-in-Par.ensures in
    let parts = par_parts c.args.tree.now c.args.at bs c.in-Par.body es c.in-Par.other c.in-Some.node.now h is c.requires.ready in
    omega (arith, c.requires.few, parts.count)

pub check_term-check_branch-requires : goal.check_term-check_branch-requires
check_term-check_branch-requires t c =
    let h = here_by c.args.tree.now c.args.at c.in-Some.node.now c.in-Some.ensures.what c.in-Some.ensures.nodes c.in-Some.ensures.parts in
    let bs = behind c.in-Par.captures c.deref.result.now in
    let es = behind c.in-Par.others c.deref-in-Par.result.now in
    let is = par_seen c.in-Some.node.now.term c.in-Par.captures c.in-Par.others c.in-Par.body c.in-Par.other c.deref.result.now c.deref-in-Par.result.now c.in-Par.is c.deref.ensures c.deref-in-Par.ensures in
    let parts = par_parts c.args.tree.now c.args.at bs c.in-Par.body es c.in-Par.other c.in-Some.node.now h is c.requires.ready in
    let a = c.args.tree.now in
    let ms = meanings a in
    let cs = captures_at ms c.deref.result.now.items in
    let ds = captures_at ms c.deref-in-Par.result.now.items in
    let e = env_of a.names c.args.env.now in
    let ours = env_of a.names c.in_ok-ours-in-Par.ours in
    let theirs = env_of a.names c.in_ok-ours-in-Par.theirs in
    let after = env_of a.names c.capture_both.new.env in
    let left = env_left_by_all by_par e cs in
    let long = both_long c.args.checker.now.usages.items c.capture_both.new.checker.usages.items (nodes_in ms (all_need capture_s c.deref.result.now.items)) (nodes_in ms (all_need capture_s c.deref-in-Par.result.now.items)) (capture_usages by_par e [] cs) (capture_usages by_par left [] ds) c.in_ok-ours-in-Par.ensures.usages in
    (omega (arith, c.decreases, parts.ours_before), (parts.ours, (c.in_ok-ours-in-Par.ensures.first_scope, (long ∙ c.requires.usages, omega (arith, c.requires.few, parts.count, c.in_ok-ours-in-Par.ensures.first_few)))))

pub check_term-check_branch-requires-in-Par : goal.check_term-check_branch-requires-in-Par
check_term-check_branch-requires-in-Par t c =
    let h = here_by c.args.tree.now c.args.at c.in-Some.node.now c.in-Some.ensures.what c.in-Some.ensures.nodes c.in-Some.ensures.parts in
    let bs = behind c.in-Par.captures c.deref.result.now in
    let es = behind c.in-Par.others c.deref-in-Par.result.now in
    let is = par_seen c.in-Some.node.now.term c.in-Par.captures c.in-Par.others c.in-Par.body c.in-Par.other c.deref.result.now c.deref-in-Par.result.now c.in-Par.is c.deref.ensures c.deref-in-Par.ensures in
    let parts = par_parts c.args.tree.now c.args.at bs c.in-Par.body es c.in-Par.other c.in-Some.node.now h is c.requires.ready in
    let a = c.args.tree.now in
    let ms = meanings a in
    let cs = captures_at ms c.deref.result.now.items in
    let ds = captures_at ms c.deref-in-Par.result.now.items in
    let e = env_of a.names c.args.env.now in
    let ours = env_of a.names c.in_ok-ours-in-Par.ours in
    let theirs = env_of a.names c.in_ok-ours-in-Par.theirs in
    let after = env_of a.names c.capture_both.new.env in
    let left = env_left_by_all by_par e cs in
    let long = both_long c.args.checker.now.usages.items c.capture_both.new.checker.usages.items (nodes_in ms (all_need capture_s c.deref.result.now.items)) (nodes_in ms (all_need capture_s c.deref-in-Par.result.now.items)) (capture_usages by_par e [] cs) (capture_usages by_par left [] ds) c.in_ok-ours-in-Par.ensures.usages in
    let longer = written_long c.capture_both.new.checker.usages.items c.check_branch.new.checker.usages.items (meaning_at ms c.in-Par.body).nodes (usages_of (term_at ms c.in-Par.body) ours) c.in_ok-first-in-Par.ensures.usages in
    (omega (arith, c.decreases, parts.theirs_before), (parts.theirs, (c.in_ok-ours-in-Par.ensures.second_scope, (longer ∙ long ∙ c.requires.usages, omega (arith, c.requires.few, parts.count, c.in_ok-ours-in-Par.ensures.second_few)))))

pub check_term-start-requires-in-Par-clause-sort : goal.check_term-start-requires-in-Par-clause-sort
check_term-start-requires-in-Par-clause-sort t c =
    let h = here_by c.args.tree.now c.args.at c.in-Some.node.now c.in-Some.ensures.what c.in-Some.ensures.nodes c.in-Some.ensures.parts in
    let bs = behind c.in-Par.captures c.deref.result.now in
    let es = behind c.in-Par.others c.deref-in-Par.result.now in
    let is = par_seen c.in-Some.node.now.term c.in-Par.captures c.in-Par.others c.in-Par.body c.in-Par.other c.deref.result.now c.deref-in-Par.result.now c.in-Par.is c.deref.ensures c.deref-in-Par.ensures in
    let parts = par_parts c.args.tree.now c.args.at bs c.in-Par.body es c.in-Par.other c.in-Some.node.now h is c.requires.ready in
    parts.ours.sort

pub check_term-start-requires-in-Par-2-clause-sort : goal.check_term-start-requires-in-Par-2-clause-sort
check_term-start-requires-in-Par-2-clause-sort t c =
    let h = here_by c.args.tree.now c.args.at c.in-Some.node.now c.in-Some.ensures.what c.in-Some.ensures.nodes c.in-Some.ensures.parts in
    let bs = behind c.in-Par.captures c.deref.result.now in
    let es = behind c.in-Par.others c.deref-in-Par.result.now in
    let is = par_seen c.in-Some.node.now.term c.in-Par.captures c.in-Par.others c.in-Par.body c.in-Par.other c.deref.result.now c.deref-in-Par.result.now c.in-Par.is c.deref.ensures c.deref-in-Par.ensures in
    let parts = par_parts c.args.tree.now c.args.at bs c.in-Par.body es c.in-Par.other c.in-Some.node.now h is c.requires.ready in
    parts.theirs.sort

pub check_term-returns-in_ok-second-in-Par-clause-gives : goal.check_term-returns-in_ok-second-in-Par-clause-gives
check_term-returns-in_ok-second-in-Par-clause-gives t c =
    let h = here_by c.args.tree.now c.args.at c.in-Some.node.now c.in-Some.ensures.what c.in-Some.ensures.nodes c.in-Some.ensures.parts in
    let bs = behind c.in-Par.captures c.deref.result.now in
    let es = behind c.in-Par.others c.deref-in-Par.result.now in
    let is = par_seen c.in-Some.node.now.term c.in-Par.captures c.in-Par.others c.in-Par.body c.in-Par.other c.deref.result.now c.deref-in-Par.result.now c.in-Par.is c.deref.ensures c.deref-in-Par.ensures in
    let a = c.args.tree.now in
    let ms = meanings a in
    let cs = captures_at ms c.deref.result.now.items in
    let ds = captures_at ms c.deref-in-Par.result.now.items in
    let e = env_of a.names c.args.env.now in
    let ours = env_of a.names c.in_ok-ours-in-Par.ours in
    let theirs = env_of a.names c.in_ok-ours-in-Par.theirs in
    let after = env_of a.names c.capture_both.new.env in
    par_gives (term_at ms c.args.at) (term_at ms c.in-Par.body) (term_at ms c.in-Par.other) c.in-Some.node.now.place c.start-in-Par.result c.start-in-Par-2.result cs ds c.in_ok-first-in-Par.first c.in_ok-second-in-Par.second c.paired.result e ours theirs after
    (par_here a c.args.at bs c.in-Par.body es c.in-Par.other c.in-Some.node.now h is) c.in_ok-ours-in-Par.ensures.goes_on c.in_ok-first-in-Par.ensures.gives c.in_ok-second-in-Par.ensures.gives c.start-in-Par.ensures c.start-in-Par-2.ensures
    (follows_gives c.paired.result (par_rule c.start-in-Par.result c.start-in-Par-2.result (kind_of c.in_ok-first-in-Par.first) (kind_of c.in_ok-second-in-Par.second)) after c.paired.ensures.follows)

pub check_term-returns-in_ok-second-in-Par-clause-usages : goal.check_term-returns-in_ok-second-in-Par-clause-usages
check_term-returns-in_ok-second-in-Par-clause-usages t c =
    let h = here_by c.args.tree.now c.args.at c.in-Some.node.now c.in-Some.ensures.what c.in-Some.ensures.nodes c.in-Some.ensures.parts in
    let bs = behind c.in-Par.captures c.deref.result.now in
    let es = behind c.in-Par.others c.deref-in-Par.result.now in
    let is = par_seen c.in-Some.node.now.term c.in-Par.captures c.in-Par.others c.in-Par.body c.in-Par.other c.deref.result.now c.deref-in-Par.result.now c.in-Par.is c.deref.ensures c.deref-in-Par.ensures in
    let a = c.args.tree.now in
    let ms = meanings a in
    let cs = captures_at ms c.deref.result.now.items in
    let ds = captures_at ms c.deref-in-Par.result.now.items in
    let e = env_of a.names c.args.env.now in
    let ours = env_of a.names c.in_ok-ours-in-Par.ours in
    let theirs = env_of a.names c.in_ok-ours-in-Par.theirs in
    let after = env_of a.names c.capture_both.new.env in
    on_ok _ c.paired.result
    (par_used a c.args.at bs c.in-Par.body es c.in-Par.other c.in-Some.node.now e ours theirs c.args.checker.now.usages.items c.capture_both.new.checker.usages.items c.check_branch.new.checker.usages.items c.check_branch-in-Par.new.checker.usages.items h is c.requires.ready
    (at_inside a c.args.at c.args.checker.now.usages.items c.requires.ready c.requires.usages) c.in_ok-ours-in-Par.ensures.first_new c.in_ok-ours-in-Par.ensures.second_new c.in_ok-ours-in-Par.ensures.usages c.in_ok-first-in-Par.ensures.usages c.in_ok-second-in-Par.ensures.usages)
