use Rattle.std.proofs.Common.{length, refl, arith}
use Rattle.fr_syntax.specs.Meanings.{meanings}
use Rattle.fr_syntax.proofs.TreeLemmas.{length_meanings}
use Rattle.borrow_check.proofs.ParLemmas.{behind, par_seen}
use Rattle.fr_forms.proofs.NodeLemmas.{names_weaker, names_before, body_before, locked_before, pair_before}
use Rattle.fr_forms.proofs.ResolveLemmas.{items_before}
use Rattle.fr_forms.proofs.forming.form_of.Goals as goal

pub takes-requires : goal.takes-requires
takes-requires c = omega (arith, c.requires.here, length_meanings c.args.checked.now.arena)

pub variables-requires : goal.variables-requires
variables-requires c =
    items_before (meanings c.args.checked.now.arena) c.args.at (length c.args.counts.now) c.in-Block.items.items c.args.term.now c.in-Block.items c.requires.parts c.in-Block.is c.requires.counts refl

pub returns-in_ok-numbers-in-Block-clause-below : goal.returns-in_ok-numbers-in-Block-clause-below
returns-in_ok-numbers-in-Block-clause-below c =
    items_before (meanings c.args.checked.now.arena) c.args.at c.args.at c.in_ok-numbers-in-Block.field-0.items c.args.term.now c.in-Block.items c.requires.parts c.in-Block.is refl c.in_ok-numbers-in-Block.ensures

pub captured_slots-requires : goal.captured_slots-requires
captured_slots-requires c =
    names_before (meanings c.args.checked.now.arena) c.args.at (length (meanings c.args.checked.now.arena)) c.in-Spawn.names.items c.args.term.now c.in-Spawn.names c.in-Spawn.body c.requires.parts c.in-Spawn.is (omega (arith, c.requires.here)) refl

pub bounds-counts-body : goal.bounds-counts-body
bounds-counts-body c =
    locked_before (meanings c.args.checked.now.arena) c.args.at (length c.args.counts.now) c.in-Lock.body c.args.term.now c.in-Lock.of c.in-Lock.field-1 c.in-Lock.body c.requires.parts c.in-Lock.is c.requires.counts refl

pub bounds-counts-body-in-Spawn : goal.bounds-counts-body-in-Spawn
bounds-counts-body-in-Spawn c =
    body_before (meanings c.args.checked.now.arena) c.args.at (length c.args.counts.now) c.in-Spawn.body c.args.term.now c.in-Spawn.names c.in-Spawn.body c.requires.parts c.in-Spawn.is c.requires.counts refl

pub returns-in_ok-captured_slots-in-Spawn-clause-below : goal.returns-in_ok-captured_slots-in-Spawn-clause-below
returns-in_ok-captured_slots-in-Spawn-clause-below c =
    body_before (meanings c.args.checked.now.arena) c.args.at c.args.at c.in-Spawn.body c.args.term.now c.in-Spawn.names c.in-Spawn.body c.requires.parts c.in-Spawn.is refl refl

pub body-requires-clause-names : goal.body-requires-clause-names
body-requires-clause-names c =
    let ms = meanings c.args.checked.now.arena in
    let is = par_seen c.args.term.now c.in-Par.names c.in-Par.others c.in-Par.first c.in-Par.second c.deref.result.now c.in-Par.others.value c.in-Par.is c.deref.ensures refl in
    let b = pair_before ms c.args.at c.args.term.now (behind c.in-Par.names c.deref.result.now) c.in-Par.first c.in-Par.others c.in-Par.second c.requires.parts is in
    names_weaker ms c.args.at (length ms) c.deref.result.now.items (omega (arith, c.requires.here)) b.names_before

pub body-requires-clause-term : goal.body-requires-clause-term
body-requires-clause-term c =
    let b = pair_before (meanings c.args.checked.now.arena) c.args.at c.args.term.now c.in-Par.names c.in-Par.first c.in-Par.others c.in-Par.second c.requires.parts c.in-Par.is in
    omega (arith, b.body_before, c.requires.counts)

pub body-requires-in-Par-clause-names : goal.body-requires-in-Par-clause-names
body-requires-in-Par-clause-names c =
    let ms = meanings c.args.checked.now.arena in
    let is = par_seen c.args.term.now c.in-Par.names c.in-Par.others c.in-Par.first c.in-Par.second c.in-Par.names.value c.deref-in-Par.result.now c.in-Par.is refl c.deref-in-Par.ensures in
    let b = pair_before ms c.args.at c.args.term.now c.in-Par.names c.in-Par.first (behind c.in-Par.others c.deref-in-Par.result.now) c.in-Par.second c.requires.parts is in
    names_weaker ms c.args.at (length ms) c.deref-in-Par.result.now.items (omega (arith, c.requires.here)) b.others_before

pub body-requires-in-Par-clause-term : goal.body-requires-in-Par-clause-term
body-requires-in-Par-clause-term c =
    let b = pair_before (meanings c.args.checked.now.arena) c.args.at c.args.term.now c.in-Par.names c.in-Par.first c.in-Par.others c.in-Par.second c.requires.parts c.in-Par.is in
    omega (arith, b.other_before, c.requires.counts)

pub returns-in_ok-body-in-Par-2-clause-below : goal.returns-in_ok-body-in-Par-2-clause-below
returns-in_ok-body-in-Par-2-clause-below c =
    let b = pair_before (meanings c.args.checked.now.arena) c.args.at c.args.term.now c.in-Par.names c.in-Par.first c.in-Par.others c.in-Par.second c.requires.parts c.in-Par.is in
    (omega (arith, b.body_before, c.in_ok-body-in-Par.ensures.term_is), omega (arith, b.other_before, c.in_ok-body-in-Par-2.ensures.term_is))
