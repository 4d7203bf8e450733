use Rattle.std.proofs.Common.{◌≡◌, ◌<◌, length, Some, sym, ap, ◌∙◌, arith}
use Rattle.std.proofs.lemmas.Bool.Decides.{nat_tests}
use Rattle.fr_typing.specs.Kinds.{box, mutex, task}
use Rattle.fr_typing.specs.Places.{owned_shape}
use Rattle.fr_types.specs.declared.types.O.{O}
use Rattle.fr_types.specs.OwnedTypes.{owned_of}
use Rattle.fr_types.specs.ShapeTables.{number_in}
use Rattle.fr_types.proofs.ShapeNodeLemmas.{no_number, unit_number, int_number}
use Rattle.fr_types.proofs.shape_table.ShapeTable.+number_of.Goals as goal

pub returns-then-is_empty : goal.returns-then-is_empty
returns-then-is_empty t c =
    let is = c.is_empty.ensures in
    let test = c.if-is_empty.true in
    let none : length c.self.inside.nodes.items ≡ 0 = grind (arith, nat_tests, c.self.inside.nodes.ok.0) in
    no_number c.self.inside.nodes.items c.args.self.now (owned_shape (owned_of c.args.o.now)) c.self.view_is none

pub returns-in-Unit : goal.returns-in-Unit
returns-in-Unit t c =
    let is = c.is_empty.ensures in
    let test = c.if-is_empty.false in
    let some : 0 < length c.self.inside.nodes.items = grind (arith, nat_tests, c.self.inside.nodes.ok.0) in
    unit_number c.self.inside.nodes.items c.args.self.now c.self.invariant c.self.view_is some
    ∙ ap (λ (o : O). number_in c.args.self.now (owned_shape (owned_of o))) (sym c.in-Unit.is)

pub returns-in-Int : goal.returns-in-Int
returns-in-Int t c =
    let is = c.is_empty.ensures in
    let test = c.if-is_empty.false in
    let some : 0 < length c.self.inside.nodes.items = grind (arith, nat_tests, c.self.inside.nodes.ok.0) in
    int_number c.self.inside.nodes.items c.args.self.now c.self.invariant c.self.view_is some
    ∙ ap (λ (o : O). number_in c.args.self.now (owned_shape (owned_of o))) (sym c.in-Int.is)

pub returns-in-Box : goal.returns-in-Box
returns-in-Box t c =
    c.around.ensures (Some (owned_shape (owned_of c.deref.result.now))) c.number_of.ensures
    ∙ ap (λ (o : O). number_in c.args.self.now (owned_shape (box (owned_of o)))) c.deref.ensures
    ∙ ap (λ (o : O). number_in c.args.self.now (owned_shape (owned_of o))) (sym c.in-Box.is)

pub returns-in-Mutex : goal.returns-in-Mutex
returns-in-Mutex t c =
    c.around-in-Mutex.ensures (Some (owned_shape (owned_of c.deref-in-Mutex.result.now))) c.number_of-in-Mutex.ensures
    ∙ ap (λ (o : O). number_in c.args.self.now (owned_shape (mutex (owned_of o)))) c.deref-in-Mutex.ensures
    ∙ ap (λ (o : O). number_in c.args.self.now (owned_shape (owned_of o))) (sym c.in-Mutex.is)

pub returns-in-Task : goal.returns-in-Task
returns-in-Task t c =
    c.around-in-Task.ensures (Some (owned_shape (owned_of c.deref-in-Task.result.now))) c.number_of-in-Task.ensures
    ∙ ap (λ (o : O). number_in c.args.self.now (owned_shape (task (owned_of o)))) c.deref-in-Task.ensures
    ∙ ap (λ (o : O). number_in c.args.self.now (owned_shape (owned_of o))) (sym c.in-Task.is)
