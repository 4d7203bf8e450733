use Rattle.std.proofs.Common.{sym, ap, ◌∙◌, subst, vec_capacity}
use Rattle.fr_shared.specs.Places.{place_of}
use Rattle.fr_meaning.specs.declared.thread.Stage.{Stage}
use Rattle.fr_meaning.specs.Beside.{beside_of}
use Rattle.fr_meaning.specs.DoneTerms.{value_of}
use Rattle.fr_meaning.specs.Threads.{HasRoom}
use Rattle.fr_meaning.proofs.ParentLemmas.{still_parents, parents_step, end_waits_not, end_bare}
use Rattle.fr_meaning.proofs.ThreadLists.{numbers_set, end_room, well_at, well_set, well_same}
use Rattle.fr_meaning.proofs.WholeSteps.{whole_end, stepped_to}
use Rattle.fr_meaning.proofs.threads.go_end.Goals as goal

pub let_go-requires : goal.let_go-requires
let_go-requires c =
    c.requires.stands.numbers ∙ sym (numbers_set c.args.running.now.threads.items c.args.turn.now.at c.index_mut.result.now c.end-released.new.thread c.index_mut.ensures.value c.end-released.ensures.number)

pub end-released-requires-clause-goes : goal.end-released-requires-clause-goes
end-released-requires-clause-goes c = (c.requires.on c.index_mut.result.now c.index_mut.ensures.value).0

pub end-released-requires-clause-none : goal.end-released-requires-clause-none
end-released-requires-clause-none c = end_bare c.index_mut.result.now.focus c.index_mut.result.now.frames.items c.args.done (c.requires.on c.index_mut.result.now c.index_mut.ensures.value).1

pub returns-clause-step : goal.returns-clause-step
returns-clause-step c =
    let output = c.args.running.now.output.items in
    let fs = c.args.forms.now in
    let xs = c.args.running.now.threads.items in
    let x = c.index_mut.result.now in
    let a = c.end-released in
    let on = c.requires.on x c.index_mut.ensures.value in
    let place = ap (λ ns. place_of ns c.args.turn.now.thread) (sym c.requires.stands.numbers) ∙ c.requires.place in
    whole_end fs xs (beside_of c.args.running.now.common) a.new.heap.heap output c.args.turn.now.thread c.args.turn.now.at x a.new.thread c.args.done a.new.labels.items a.result place c.index_mut.ensures.value on.0 on.1 a.ensures.act a.ensures.released a.ensures.number a.ensures.stage
    ∙ ap (λ s. stepped_to s a.new.labels.items) (sym (c.let_go.ensures.whole fs output))

pub returns-clause-stands : goal.returns-clause-stands
returns-clause-stands c =
    let fs = c.args.forms.now in
    let xs = c.args.running.now.threads.items in
    let x = c.index_mut.result.now in
    let y = c.end-released.new.thread in
    let well = well_at fs xs c.args.turn.now.at x c.requires.inside c.index_mut.ensures.value c.requires.stands.well in
    let room = subst (λ (g : Stage). HasRoom g (vec_capacity y.frames)) (sym c.end-released.ensures.stage) (end_room x.stage (value_of c.args.done) (vec_capacity y.frames) c.end-released.ensures.frame_room) in
    record {
      numbers = c.requires.stands.numbers ∙ sym (c.let_go.ensures.numbers ∙ numbers_set c.args.running.now.threads.items c.args.turn.now.at c.index_mut.result.now c.end-released.new.thread c.index_mut.ensures.value c.end-released.ensures.number);
      well = c.let_go.ensures.well fs (well_set fs xs c.args.turn.now.at y (well_same fs x y c.end-released.ensures.frames c.end-released.ensures.focus room well) c.requires.stands.well);
      parents = still_parents c.let_go.new.threads.items c.let_go.ensures.pairs (c.let_go.ensures.parents c.args.running.now.common.pairs.pairs
          (parents_step c.args.running.now.common.pairs.pairs c.args.running.now.threads.items c.args.turn.now.thread c.args.turn.now.at c.index_mut.result.now c.end-released.new.thread
          (ap (λ ns. place_of ns c.args.turn.now.thread) (sym c.requires.stands.numbers) ∙ c.requires.place) c.index_mut.ensures.value c.end-released.ensures.number (end_waits_not c.index_mut.result.now.focus c.index_mut.result.now.frames.items c.args.done (c.requires.on c.index_mut.result.now c.index_mut.ensures.value).1) c.requires.stands.parents));
    }
