use Rattle.std.proofs.Common.{sym, ap, ◌∙◌}
use Rattle.std.specs.Prelude.{slice_set}
use Rattle.fr_plain.specs.Threads.{release}
use Rattle.fr_shared.specs.Places.{place_of}
use Rattle.fr_acts.specs.MutexActs.{last_of}
use Rattle.fr_meaning.specs.Beside.{beside_of}
use Rattle.fr_meaning.specs.Threads.{whole}
use Rattle.fr_meaning.proofs.StepLemmas.{not_done}
use Rattle.fr_meaning.proofs.ParentLemmas.{still_parents, parents_step}
use Rattle.fr_meaning.proofs.ThreadLists.{numbers_set, well_at, well_set}
use Rattle.fr_meaning.proofs.WholeSteps.{whole_alone, stepped_to}
use Rattle.fr_meaning.proofs.threads.go_alone.Goals as goal

pub step_alone-released-requires-clause-well : goal.step_alone-released-requires-clause-well
step_alone-released-requires-clause-well c = well_at c.args.forms.now c.args.running.now.threads.items c.args.turn.now.at c.index_mut.result.now c.requires.inside c.index_mut.ensures.value c.requires.stands.well

pub step_alone-released-requires-clause-goes_on : goal.step_alone-released-requires-clause-goes_on
step_alone-released-requires-clause-goes_on c = (c.requires.goes c.index_mut.result.now c.index_mut.ensures.value).on

pub let_go-requires : goal.let_go-requires
let_go-requires c =
    c.requires.stands.numbers ∙ sym (numbers_set c.args.running.now.threads.items c.args.turn.now.at c.index_mut.result.now c.step_alone-released.new.thread c.index_mut.ensures.value c.step_alone-released.ensures.number)

pub returns-clause-step : goal.returns-clause-step
returns-clause-step c =
    let fs = c.args.forms.now in
    let xs = c.args.running.now.threads.items in
    let x = c.index_mut.result.now in
    let y = c.step_alone-released.new.thread in
    let a = c.step_alone-released in
    let can = c.requires.goes x c.index_mut.ensures.value in
    let well = well_at fs xs c.args.turn.now.at x c.requires.inside c.index_mut.ensures.value c.requires.stands.well in
    let place = ap (λ ns. place_of ns c.args.turn.now.thread) (sym c.requires.stands.numbers) ∙ c.requires.place in
    let go = not_done fs x.frames.items x.focus c.requires.order well.settled well.way can.at_step in
    whole_alone fs xs (beside_of c.args.running.now.common) a.new.heap.heap c.args.running.now.output.items c.args.turn.now.thread c.args.turn.now.at x y a.new.labels.items a.result place c.index_mut.ensures.value can.on go a.ensures.step a.ensures.number a.ensures.stage
    ∙ ap (λ ns. stepped_to (release (whole fs (slice_set xs c.args.turn.now.at y) (record (beside_of c.args.running.now.common) { heap = a.new.heap.heap }) ns) (last_of a.result)) a.new.labels.items) (sym a.ensures.output)
    ∙ ap (λ s. stepped_to s a.new.labels.items) (sym (c.let_go.ensures.whole fs a.new.output.items))

pub returns-clause-stands : goal.returns-clause-stands
returns-clause-stands c =
    record {
      numbers = c.requires.stands.numbers ∙ sym (c.let_go.ensures.numbers ∙ numbers_set c.args.running.now.threads.items c.args.turn.now.at c.index_mut.result.now c.step_alone-released.new.thread c.index_mut.ensures.value c.step_alone-released.ensures.number);
      well = c.let_go.ensures.well c.args.forms.now (well_set c.args.forms.now c.args.running.now.threads.items c.args.turn.now.at c.step_alone-released.new.thread c.step_alone-released.ensures.well c.requires.stands.well);
      parents = still_parents c.let_go.new.threads.items c.let_go.ensures.pairs (c.let_go.ensures.parents c.args.running.now.common.pairs.pairs
          (parents_step c.args.running.now.common.pairs.pairs c.args.running.now.threads.items c.args.turn.now.thread c.args.turn.now.at c.index_mut.result.now c.step_alone-released.new.thread
          (ap (λ ns. place_of ns c.args.turn.now.thread) (sym c.requires.stands.numbers) ∙ c.requires.place) c.index_mut.ensures.value c.step_alone-released.ensures.number (c.requires.goes c.index_mut.result.now c.index_mut.ensures.value).no_pair c.requires.stands.parents));
    }
