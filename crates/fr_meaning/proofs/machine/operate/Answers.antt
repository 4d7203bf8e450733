use Rattle.fr_plain.specs.Acts.{do_assign, unit}
use Rattle.fr_acts.specs.Acting.{state}
use Rattle.fr_acts.proofs.ActLemmas.{no_print}
use Rattle.fr_meaning.proofs.machine.operate.Goals as goal

pub returns-in-Assign-clause-output : goal.returns-in-Assign-clause-output
returns-in-Assign-clause-output c =
    no_print (do_assign c.in-Assign.place c.value_in-value.result) (state c.args.thread.now.number c.args.thread.now.slots.items c.args.heap.now.heap) unit c.args.thread.now.number c.assign-released.new.slots.items c.assign-released.new.heap.heap c.assign-released.new.labels.items c.args.output.now.items tt c.assign-released.ensures.act
