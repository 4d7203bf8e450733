use Rattle.std.proofs.Common.{◌≡◌, [], ◌∷◌, ◌++◌, set, ap, ◌∙◌, arith}
use Rattle.fr_types.specs.declared.shape_node.ShapeNode.{ShapeNode}
use Rattle.fr_types.specs.ShapeTables.{number_at, wrapped_no}
use Rattle.fr_types.proofs.ShapeTableLemmas.{number_there}
use Rattle.fr_types.proofs.ShapeNodeLemmas.{inner_here, child_seen, held_number, held_same, IsHeld, new_held}
use Rattle.fr_types.proofs.shape_table.ShapeTable.hold.Goals as goal

pub index-requires : goal.index-requires
index-requires c =
    let lt = inner_here c.self.inside.nodes.items c.args.self.now c.args.inner c.args.sort c.self.view_is c.requires.makes in
    omega (arith, c.self.inside.nodes.ok.0)

found : (c : goal.In-Some) → number_at c.args.self.now (wrapped_no c.args.self.now c.args.inner c.args.sort) ≡ c.child.result
found c =
    child_seen c.self.inside.nodes.items c.args.self.now c.args.inner c.args.sort c.index.result.now c.child.result c.self.invariant c.self.view_is
    (inner_here c.self.inside.nodes.items c.args.self.now c.args.inner c.args.sort c.self.view_is c.requires.makes) c.index.ensures c.child.ensures

pub returns-in-Some-clause-number : goal.returns-in-Some-clause-number
returns-in-Some-clause-number c = held_number c.args.self.now _ c.in-Some.no (found c ∙ c.in-Some.is)

pub returns-in-Some-clause-here : goal.returns-in-Some-clause-here
returns-in-Some-clause-here c = number_there c.args.self.now c.in-Some.no _ (returns-in-Some-clause-number c) c.requires.makes

pub returns-in-Some-clause-held : goal.returns-in-Some-clause-held
returns-in-Some-clause-held c = held_same c.args.self.now _ c.in-Some.no (found c ∙ c.in-Some.is)

pub index_mut-requires : goal.index_mut-requires
index_mut-requires c =
    let lt = inner_here c.self.inside.nodes.items c.args.self.now c.args.inner c.args.sort c.self.view_is c.requires.makes in
    omega (arith, c.self.inside.nodes.ok.0, c.in_ok-push.ensures.len)

-- the table with the new shape
new : (c : goal.After-self-1) → IsHeld c.self.inside.nodes.items (set c.push.new.self.items c.args.inner c.note.new.self) c.args.self.now (wrapped_no c.args.self.now c.args.inner c.args.sort) c.len-no.result
new c =
    new_held c.self.inside.nodes.items c.push.new.self.items c.args.self.now c.args.inner c.len-no.result c.args.sort c.index_mut.result.now c.note.new.self c.child.result c.self.invariant c.self.view_is c.requires.makes
    (child_seen c.self.inside.nodes.items c.args.self.now c.args.inner c.args.sort c.index.result.now c.child.result c.self.invariant c.self.view_is
    (inner_here c.self.inside.nodes.items c.args.self.now c.args.inner c.args.sort c.self.view_is c.requires.makes) c.index.ensures c.child.ensures)
    c.in_default.is (omega (arith, c.self.inside.nodes.ok.0)) (omega (arith, c.self.inside.nodes.ok.0))
    (c.in_ok-push.ensures.items ∙ ap (λ (x : ShapeNode). c.self.inside.nodes.items ++ x ∷ []) c.new.ensures) c.index_mut.ensures.value c.note.ensures

pub invariant_of-self-2 : goal.invariant_of-self-2
invariant_of-self-2 c = (new c).kept

pub returns-clause-number : goal.returns-clause-number
returns-clause-number c = (new c).number

pub returns-clause-here : goal.returns-clause-here
returns-clause-here c = number_there _ c.len-no.result _ (new c).number c.requires.makes

pub returns-clause-held : goal.returns-clause-held
returns-clause-held c = (new c).held

pub returns-clause-kept : goal.returns-clause-kept
returns-clause-kept c = (new c).keeps
