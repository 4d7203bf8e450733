use Rattle.std.proofs.Common.{suc, [], sym, ap, ◌∙◌, subst, arith, vec_capacity}
use Rattle.std.specs.Prelude.{slice_set}
use Rattle.fr_plain.specs.Run.{over}
use Rattle.fr_plain.specs.Threads.{release_by}
use Rattle.fr_shared.specs.Places.{place_of}
use Rattle.fr_acts.specs.MutexActs.{Rest, last_of}
use Rattle.fr_meaning.specs.Beside.{beside_of}
use Rattle.fr_meaning.specs.declared.thread.Stage.{Stage}
use Rattle.fr_meaning.specs.Threads.{HasRoom, threads_of, whole, after_release, released_last}
use Rattle.fr_meaning.proofs.ParentLemmas.{parents_same}
use Rattle.fr_meaning.proofs.StepFacts.{place_inside}
use Rattle.fr_meaning.proofs.ThreadLists.{numbers_set, none_there, release_room, well_at, well_set, well_same, thread_same, unknown_goes, one_goes}
use Rattle.fr_meaning.proofs.threads.release_one.Goals as goal

pub index_mut-requires : goal.index_mut-requires
index_mut-requires c =
    let xs = c.args.threads.now.items in
    let inside = place_inside xs c.in-Task.number c.in-Some.place (ap (λ ns. place_of ns c.in-Task.number) (sym c.requires) ∙ sym c.at.ensures.place ∙ c.in-Some.is) in
    omega (arith, inside, c.args.threads.now.ok)

pub returns-in-Share-clause-goes : goal.returns-in-Share-clause-goes
returns-in-Share-clause-goes c = λ fs output k. (
    let xs = c.args.threads.now.items in
    let b = beside_of c.args.common.now in
    let rest : Rest = record { threads = threads_of fs xs; life = over; pairs = b.pairs; output = output } in
    ap (λ u. release_by (suc k) (whole fs xs b output) (last_of u)) c.in-Share.is ∙ c.drop_share.ensures.goes rest [] k)

pub returns-in-Some-clause-goes : goal.returns-in-Some-clause-goes
returns-in-Some-clause-goes c = λ fs output k. (
    let xs = c.args.threads.now.items in
    let b = beside_of c.args.common.now in
    let x = c.index_mut.result.now in
    let y = c.release_thread.new.thread in
    let i = c.in-Some.place in
    let r = c.release_thread.ensures in
    let place = ap (λ ns. place_of ns c.in-Task.number) (sym c.requires) ∙ sym c.at.ensures.place ∙ c.in-Some.is in
    let same = thread_same fs x y (after_release x.stage) r.number r.stage r.frames r.focus r.slots in
    ap (λ u. release_by (suc k) (whole fs xs b output) (last_of u)) c.in-Task.is ∙ one_goes k fs xs b output c.in-Task.number i x y place c.index_mut.ensures.value r.number same
    ∙ ap (λ h. release_by k (whole fs (slice_set xs i y) (record b { heap = h }) output) (last_of (released_last b.heap x.stage))) (sym r.heap)
    ∙ ap (λ u. release_by k (whole fs (slice_set xs i y) (record b { heap = c.release_thread.new.heap.heap }) output) (last_of u)) (sym r.last))

pub returns-in-Some-clause-numbers : goal.returns-in-Some-clause-numbers
returns-in-Some-clause-numbers c = numbers_set c.args.threads.now.items c.in-Some.place c.index_mut.result.now c.release_thread.new.thread c.index_mut.ensures.value c.release_thread.ensures.number

pub returns-in-Some-clause-well : goal.returns-in-Some-clause-well
returns-in-Some-clause-well c = λ fs w. (
    let xs = c.args.threads.now.items in
    let x = c.index_mut.result.now in
    let y = c.release_thread.new.thread in
    let inside = place_inside xs c.in-Task.number c.in-Some.place (ap (λ ns. place_of ns c.in-Task.number) (sym c.requires) ∙ sym c.at.ensures.place ∙ c.in-Some.is) in
    let r = c.release_thread.ensures in
    let well = well_at fs xs c.in-Some.place x inside c.index_mut.ensures.value w in
    let room = subst (λ (g : Stage). HasRoom g (vec_capacity y.frames)) (sym r.stage) (release_room x.stage (vec_capacity y.frames) (subst (HasRoom x.stage) (sym (ap (λ vs. vec_capacity vs) r.frames)) well.room)) in
    well_set fs xs c.in-Some.place y (well_same fs x y (ap (λ vs. vs.items) r.frames) r.focus room well) w)

pub returns-in-None-clause-goes : goal.returns-in-None-clause-goes
returns-in-None-clause-goes c = λ fs output k. (
    let xs = c.args.threads.now.items in
    let s = whole fs xs (beside_of c.args.common.now) output in
    let none = ap (λ ns. place_of ns c.in-Task.number) (sym c.requires) ∙ sym c.at.ensures.place ∙ c.in-None.is in
    ap (λ u. release_by (suc k) s (last_of u)) c.in-Task.is ∙ unknown_goes k s c.in-Task.number (none_there fs xs c.in-Task.number none))

pub returns-in-Some-clause-parents : goal.returns-in-Some-clause-parents
returns-in-Some-clause-parents c = λ ps h. parents_same ps c.args.threads.now.items c.in-Some.place c.index_mut.result.now c.release_thread.new.thread c.index_mut.ensures.value c.release_thread.ensures.number c.release_thread.ensures.focus h
