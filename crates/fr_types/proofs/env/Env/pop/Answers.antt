use Rattle.std.proofs.Common.{length, sym, subst, None, set, arith}
use Rattle.fr_types.specs.Inside.{newest, IsTabled}
use Rattle.fr_types.proofs.EnvLemmas.{pop_within, pop_part, pop_seen, there}
use Rattle.fr_types.proofs.ShapedLemmas.{pop_shaped}
use Rattle.fr_types.proofs.TableLemmas.{pop_below, pop_lent, pop_inside, pop_tabled}
use Rattle.fr_types.proofs.env.Env.pop.Goals as goal

pub note-requires : goal.note-requires
note-requires c = pop_within c.self.inside.slots.items c.pop.new.self.items c.self.inside.slot_of.items c.in-Some.variable c.self.invariant.tabled.kept c.in-Some.ensures.items

pub returns-clause-some : goal.returns-clause-some
returns-clause-some c = there 0 (length c.args.self.now) (pop_part c.self.inside.slots.items c.pop.new.self.items c.args.self.now c.in-Some.variable c.self.view_is c.in-Some.ensures.items).1

pub returns-clause-part : goal.returns-clause-part
returns-clause-part c = (pop_part c.self.inside.slots.items c.pop.new.self.items c.args.self.now c.in-Some.variable c.self.view_is c.in-Some.ensures.items).0

pub returns-clause-rest : goal.returns-clause-rest
returns-clause-rest c = pop_seen c.self.inside.slots.items c.pop.new.self.items c.args.self.now c.in-Some.variable c.self.view_is c.in-Some.ensures.items

pub give_back-requires-clause-below : goal.give_back-requires-clause-below
give_back-requires-clause-below c = pop_below c.self.inside.slots.items c.pop.new.self.items c.self.inside.slot_of.items c.self.inside.loans.items c.self.inside.targets.items c.in-Some.variable c.self.invariant.tabled c.in-Some.ensures.items

pub give_back-requires-clause-lent : goal.give_back-requires-clause-lent
give_back-requires-clause-lent c = pop_lent c.self.inside.slots.items c.pop.new.self.items c.self.inside.slot_of.items c.self.inside.loans.items c.self.inside.targets.items c.in-Some.variable c.self.invariant.tabled c.in-Some.ensures.items

pub index_mut-requires : goal.index_mut-requires
index_mut-requires c = omega (arith, pop_inside c.self.inside.slots.items c.pop.new.self.items c.self.inside.slot_of.items c.self.inside.loans.items c.self.inside.targets.items c.in-Some.variable c.self.invariant.tabled c.in-Some.ensures.items, c.len-at.ensures, c.pop.new.self.ok.0, c.self.inside.targets.ok.0)

pub invariant_of-self-2 : goal.invariant_of-self-2
invariant_of-self-2 c = record {
  tabled =
      subst (λ l. IsTabled (newest c.pop.new.self.items) l c.give_back.new.loans.items (set c.self.inside.targets.items c.len-at.result None)) (sym c.note.ensures)
      (pop_tabled c.self.inside.slots.items c.pop.new.self.items c.self.inside.slot_of.items c.self.inside.loans.items c.give_back.new.loans.items c.self.inside.targets.items c.in-Some.variable c.len-at.result c.self.invariant.tabled c.in-Some.ensures.items c.give_back.ensures (omega (arith, c.len-at.ensures, c.pop.new.self.ok.0)));
  shaped = pop_shaped c.self.inside.slots.items c.pop.new.self.items c.in-Some.variable c.self.inside.shapes c.pop-2.new.self c.self.invariant.shaped c.in-Some.ensures.items c.pop-2.ensures;
}
