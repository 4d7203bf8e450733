use Rattle.std.proofs.Common.{◌≡◌, List, [], get_or, Some, None, refl, sym, ap, ◌∙◌, subst, arith, vec_capacity}
use Rattle.std.specs.Prelude.{slice_set}
use Rattle.fr_base.specs.declared.step.Fresh.TheVariants as fresh
use Rattle.fr_plain.specs.MachineThreads.{Pair}
use Rattle.fr_plain.specs.Run.{unit_c}
use Rattle.fr_plain.specs.Whole.{result_at}
use Rattle.fr_shared.specs.PairInside.{pair_from, two_from}
use Rattle.fr_shared.specs.Places.{place_of}
use Rattle.fr_meaning.specs.declared.frame.Focus.{Focus}
use Rattle.fr_meaning.specs.declared.next.Next.TheVariants as next
use Rattle.fr_meaning.specs.declared.thread.Stage.TheVariants as stage
use Rattle.fr_meaning.specs.declared.thread.Thread.{Thread}
use Rattle.fr_meaning.specs.Beside.{beside_of}
use Rattle.fr_meaning.specs.FrameTerms.{wrapped, all_around, focus_run}
use Rattle.fr_meaning.specs.Running.{AreParents}
use Rattle.fr_meaning.specs.Threads.{threads_of, whole}
use Rattle.fr_meaning.proofs.ContextLemmas.{depth_wrap}
use Rattle.fr_meaning.proofs.PairSteps.{like_before, whole_par_end}
use Rattle.fr_meaning.proofs.ParentLemmas.{parents_same, parents_less}
use Rattle.fr_meaning.proofs.StepFacts.{steps_at, is_on, thread_here, place_inside, kept_ended}
use Rattle.fr_meaning.proofs.ThreadLists.{numbers_set, ended_done, room_on, well_at, well_set, well_over, places_differ, other_at}
use Rattle.fr_meaning.proofs.TwinFacts.{end_steps, two_same, kept_there, kept_at, over_thread}
use Rattle.fr_meaning.proofs.WholeSteps.{stepped_to}
use Rattle.fr_meaning.proofs.twins.go_par_end.Goals as goal

pub unreachable-requires : goal.unreachable-requires
unreachable-requires c =
    let fs = c.args.forms.now in
    let r = c.args.running.now in
    let xs = r.threads.items in
    let b = beside_of r.common in
    let t = c.args.turn.now.thread in
    let i = c.args.turn.now.at in
    let q = thread_here xs i c.requires.inside in
    let st = λ (z : Thread) (is : z ≡ get_or xs i z). steps_at fs xs b r.output.items t fresh.None i next.ParEnd r.places.numbers c.requires.order c.requires.stands.well c.requires.stands.numbers c.requires.place c.requires.inside c.requires.next c.requires.goes z is in
    let k = end_steps fs xs b r.output.items t i q.0 (st q.0 q.1) in
    let e : None ≡ Some k.pair = ap (two_from t) (sym c.in_default.is) ∙ c.of.ensures ∙ k.is in
    cc

pub unreachable-requires-in_default-at : goal.unreachable-requires-in_default-at
unreachable-requires-in_default-at c =
    let fs = c.args.forms.now in
    let r = c.args.running.now in
    let xs = r.threads.items in
    let b = beside_of r.common in
    let t = c.args.turn.now.thread in
    let i = c.args.turn.now.at in
    let q = thread_here xs i c.requires.inside in
    let st = λ (z : Thread) (is : z ≡ get_or xs i z). steps_at fs xs b r.output.items t fresh.None i next.ParEnd r.places.numbers c.requires.order c.requires.stands.well c.requires.stands.numbers c.requires.place c.requires.inside c.requires.next c.requires.goes z is in
    let k = end_steps fs xs b r.output.items t i q.0 (st q.0 q.1) in
    let same = two_same t c.in-Some.two k.pair (ap (two_from t) (sym c.in-Some.is) ∙ c.of.ensures ∙ k.is) in
    let kept = subst (λ (p : Pair). result_at (threads_of fs xs) p.first ≡ Some k.one) same k.kept in
    let then_kept = subst (λ (p : Pair). result_at (threads_of fs xs) p.second ≡ Some k.two) same k.then_kept in
    kept_there fs xs c.in-Some.two.first k.one kept (ap (λ ns. place_of ns c.in-Some.two.first) (sym c.requires.stands.numbers) ∙ sym c.at.ensures.place ∙ c.in_default-at.is)

pub unreachable-requires-in_default-at-2 : goal.unreachable-requires-in_default-at-2
unreachable-requires-in_default-at-2 c =
    let fs = c.args.forms.now in
    let r = c.args.running.now in
    let xs = r.threads.items in
    let b = beside_of r.common in
    let t = c.args.turn.now.thread in
    let i = c.args.turn.now.at in
    let q = thread_here xs i c.requires.inside in
    let st = λ (z : Thread) (is : z ≡ get_or xs i z). steps_at fs xs b r.output.items t fresh.None i next.ParEnd r.places.numbers c.requires.order c.requires.stands.well c.requires.stands.numbers c.requires.place c.requires.inside c.requires.next c.requires.goes z is in
    let k = end_steps fs xs b r.output.items t i q.0 (st q.0 q.1) in
    let same = two_same t c.in-Some.two k.pair (ap (two_from t) (sym c.in-Some.is) ∙ c.of.ensures ∙ k.is) in
    let kept = subst (λ (p : Pair). result_at (threads_of fs xs) p.first ≡ Some k.one) same k.kept in
    let then_kept = subst (λ (p : Pair). result_at (threads_of fs xs) p.second ≡ Some k.two) same k.then_kept in
    kept_there fs xs c.in-Some.two.second k.two then_kept (ap (λ ns. place_of ns c.in-Some.two.second) (sym c.requires.stands.numbers) ∙ sym c.at-2.ensures.place ∙ c.in_default-at-2.is)

pub index_mut-requires : goal.index_mut-requires
index_mut-requires c =
    let r = c.args.running.now in
    let xs = r.threads.items in
    let first_at = ap (λ ns. place_of ns c.in-Some.two.first) (sym c.requires.stands.numbers) ∙ sym c.at.ensures.place ∙ c.in-Some-at.is in
    let first_inside = place_inside xs c.in-Some.two.first c.in-Some-at.first first_at in
    omega (arith, first_inside, r.threads.ok)

pub index_mut-requires-2 : goal.index_mut-requires-2
index_mut-requires-2 c =
    let r = c.args.running.now in
    let xs = r.threads.items in
    let second_at = ap (λ ns. place_of ns c.in-Some.two.second) (sym c.requires.stands.numbers) ∙ sym c.at-2.ensures.place ∙ c.in-Some-at-2.is in
    let second_inside = place_inside xs c.in-Some.two.second c.in-Some-at-2.second second_at in
    omega (arith, second_inside, r.threads.ok)

pub resume-requires-clause-inside : goal.resume-requires-clause-inside
resume-requires-clause-inside c =
    let fs = c.args.forms.now in
    let r = c.args.running.now in
    let xs = r.threads.items in
    let b = beside_of r.common in
    let t = c.args.turn.now.thread in
    let i = c.args.turn.now.at in
    let q = thread_here xs i c.requires.inside in
    let st = λ (z : Thread) (is : z ≡ get_or xs i z). steps_at fs xs b r.output.items t fresh.None i next.ParEnd r.places.numbers c.requires.order c.requires.stands.well c.requires.stands.numbers c.requires.place c.requires.inside c.requires.next c.requires.goes z is in
    let k = end_steps fs xs b r.output.items t i q.0 (st q.0 q.1) in
    let same = two_same t c.in-Some.two k.pair (ap (two_from t) (sym c.in-Some.is) ∙ c.of.ensures ∙ k.is) in
    let kept = subst (λ (p : Pair). result_at (threads_of fs xs) p.first ≡ Some k.one) same k.kept in
    let then_kept = subst (λ (p : Pair). result_at (threads_of fs xs) p.second ≡ Some k.two) same k.then_kept in
    let first_at = ap (λ ns. place_of ns c.in-Some.two.first) (sym c.requires.stands.numbers) ∙ sym c.at.ensures.place ∙ c.in-Some-at.is in
    let first_inside = place_inside xs c.in-Some.two.first c.in-Some-at.first first_at in
    let second_at = ap (λ ns. place_of ns c.in-Some.two.second) (sym c.requires.stands.numbers) ∙ sym c.at-2.ensures.place ∙ c.in-Some-at-2.is in
    let second_inside = place_inside xs c.in-Some.two.second c.in-Some-at-2.second second_at in
    let a = c.index_mut.result.now in
    let isa = c.index_mut.ensures.value in
    let d : Thread = record a { stage = stage.Over } in
    let z = thread_here xs c.in-Some-at-2.second second_inside in
    let o = c.index_mut-2.result.now in
    let w : Thread = record o { stage = stage.Over } in
    let on = λ (z : Thread) (is : z ≡ get_or xs i z). is_on (st z is) in
    let kept_a = kept_at fs xs c.in-Some.two.first c.in-Some-at.first k.one a kept first_at isa in
    let kept_z = kept_at fs xs c.in-Some.two.second c.in-Some-at-2.second k.two z.0 then_kept second_at z.1 in
    let x = c.index_mut-3.result.now in
    let here = other_at (slice_set xs c.in-Some-at.first d) i c.in-Some-at-2.second w x (places_differ xs i c.in-Some-at-2.second z.0 on z.1 (kept_ended z.0.stage k.two kept_z)) c.index_mut-3.ensures.value in
    let is = other_at xs i c.in-Some-at.first d x (places_differ xs i c.in-Some-at.first a on isa (kept_ended a.stage k.one kept_a)) here in
    let well = well_at fs xs i x c.requires.inside is c.requires.stands.well in
    well.frames

pub resume-requires-clause-room : goal.resume-requires-clause-room
resume-requires-clause-room c =
    let fs = c.args.forms.now in
    let r = c.args.running.now in
    let xs = r.threads.items in
    let b = beside_of r.common in
    let t = c.args.turn.now.thread in
    let i = c.args.turn.now.at in
    let q = thread_here xs i c.requires.inside in
    let st = λ (z : Thread) (is : z ≡ get_or xs i z). steps_at fs xs b r.output.items t fresh.None i next.ParEnd r.places.numbers c.requires.order c.requires.stands.well c.requires.stands.numbers c.requires.place c.requires.inside c.requires.next c.requires.goes z is in
    let k = end_steps fs xs b r.output.items t i q.0 (st q.0 q.1) in
    let same = two_same t c.in-Some.two k.pair (ap (two_from t) (sym c.in-Some.is) ∙ c.of.ensures ∙ k.is) in
    let kept = subst (λ (p : Pair). result_at (threads_of fs xs) p.first ≡ Some k.one) same k.kept in
    let then_kept = subst (λ (p : Pair). result_at (threads_of fs xs) p.second ≡ Some k.two) same k.then_kept in
    let first_at = ap (λ ns. place_of ns c.in-Some.two.first) (sym c.requires.stands.numbers) ∙ sym c.at.ensures.place ∙ c.in-Some-at.is in
    let first_inside = place_inside xs c.in-Some.two.first c.in-Some-at.first first_at in
    let second_at = ap (λ ns. place_of ns c.in-Some.two.second) (sym c.requires.stands.numbers) ∙ sym c.at-2.ensures.place ∙ c.in-Some-at-2.is in
    let second_inside = place_inside xs c.in-Some.two.second c.in-Some-at-2.second second_at in
    let a = c.index_mut.result.now in
    let isa = c.index_mut.ensures.value in
    let d : Thread = record a { stage = stage.Over } in
    let z = thread_here xs c.in-Some-at-2.second second_inside in
    let o = c.index_mut-2.result.now in
    let w : Thread = record o { stage = stage.Over } in
    let on = λ (z : Thread) (is : z ≡ get_or xs i z). is_on (st z is) in
    let kept_a = kept_at fs xs c.in-Some.two.first c.in-Some-at.first k.one a kept first_at isa in
    let kept_z = kept_at fs xs c.in-Some.two.second c.in-Some-at-2.second k.two z.0 then_kept second_at z.1 in
    let x = c.index_mut-3.result.now in
    let here = other_at (slice_set xs c.in-Some-at.first d) i c.in-Some-at-2.second w x (places_differ xs i c.in-Some-at-2.second z.0 on z.1 (kept_ended z.0.stage k.two kept_z)) c.index_mut-3.ensures.value in
    let is = other_at xs i c.in-Some-at.first d x (places_differ xs i c.in-Some-at.first a on isa (kept_ended a.stage k.one kept_a)) here in
    let well = well_at fs xs i x c.requires.inside is c.requires.stands.well in
    let low = depth_wrap (all_around fs x.frames.items) unit_c (focus_run fs x.focus) (omega arith) in
    omega (arith, low, well.depth)

pub resume-requires-clause-capacity : goal.resume-requires-clause-capacity
resume-requires-clause-capacity c =
    let fs = c.args.forms.now in
    let r = c.args.running.now in
    let xs = r.threads.items in
    let b = beside_of r.common in
    let t = c.args.turn.now.thread in
    let i = c.args.turn.now.at in
    let q = thread_here xs i c.requires.inside in
    let st = λ (z : Thread) (is : z ≡ get_or xs i z). steps_at fs xs b r.output.items t fresh.None i next.ParEnd r.places.numbers c.requires.order c.requires.stands.well c.requires.stands.numbers c.requires.place c.requires.inside c.requires.next c.requires.goes z is in
    let k = end_steps fs xs b r.output.items t i q.0 (st q.0 q.1) in
    let same = two_same t c.in-Some.two k.pair (ap (two_from t) (sym c.in-Some.is) ∙ c.of.ensures ∙ k.is) in
    let kept = subst (λ (p : Pair). result_at (threads_of fs xs) p.first ≡ Some k.one) same k.kept in
    let then_kept = subst (λ (p : Pair). result_at (threads_of fs xs) p.second ≡ Some k.two) same k.then_kept in
    let first_at = ap (λ ns. place_of ns c.in-Some.two.first) (sym c.requires.stands.numbers) ∙ sym c.at.ensures.place ∙ c.in-Some-at.is in
    let first_inside = place_inside xs c.in-Some.two.first c.in-Some-at.first first_at in
    let second_at = ap (λ ns. place_of ns c.in-Some.two.second) (sym c.requires.stands.numbers) ∙ sym c.at-2.ensures.place ∙ c.in-Some-at-2.is in
    let second_inside = place_inside xs c.in-Some.two.second c.in-Some-at-2.second second_at in
    let a = c.index_mut.result.now in
    let isa = c.index_mut.ensures.value in
    let d : Thread = record a { stage = stage.Over } in
    let z = thread_here xs c.in-Some-at-2.second second_inside in
    let o = c.index_mut-2.result.now in
    let w : Thread = record o { stage = stage.Over } in
    let on = λ (z : Thread) (is : z ≡ get_or xs i z). is_on (st z is) in
    let kept_a = kept_at fs xs c.in-Some.two.first c.in-Some-at.first k.one a kept first_at isa in
    let kept_z = kept_at fs xs c.in-Some.two.second c.in-Some-at-2.second k.two z.0 then_kept second_at z.1 in
    let x = c.index_mut-3.result.now in
    let here = other_at (slice_set xs c.in-Some-at.first d) i c.in-Some-at-2.second w x (places_differ xs i c.in-Some-at-2.second z.0 on z.1 (kept_ended z.0.stage k.two kept_z)) c.index_mut-3.ensures.value in
    let is = other_at xs i c.in-Some-at.first d x (places_differ xs i c.in-Some-at.first a on isa (kept_ended a.stage k.one kept_a)) here in
    let well = well_at fs xs i x c.requires.inside is c.requires.stands.well in
    room_on x.stage (vec_capacity x.frames) (is_on (st x is)) well.room

pub resume-requires-clause-on : goal.resume-requires-clause-on
resume-requires-clause-on c =
    let fs = c.args.forms.now in
    let r = c.args.running.now in
    let xs = r.threads.items in
    let b = beside_of r.common in
    let t = c.args.turn.now.thread in
    let i = c.args.turn.now.at in
    let q = thread_here xs i c.requires.inside in
    let st = λ (z : Thread) (is : z ≡ get_or xs i z). steps_at fs xs b r.output.items t fresh.None i next.ParEnd r.places.numbers c.requires.order c.requires.stands.well c.requires.stands.numbers c.requires.place c.requires.inside c.requires.next c.requires.goes z is in
    let k = end_steps fs xs b r.output.items t i q.0 (st q.0 q.1) in
    let same = two_same t c.in-Some.two k.pair (ap (two_from t) (sym c.in-Some.is) ∙ c.of.ensures ∙ k.is) in
    let kept = subst (λ (p : Pair). result_at (threads_of fs xs) p.first ≡ Some k.one) same k.kept in
    let then_kept = subst (λ (p : Pair). result_at (threads_of fs xs) p.second ≡ Some k.two) same k.then_kept in
    let first_at = ap (λ ns. place_of ns c.in-Some.two.first) (sym c.requires.stands.numbers) ∙ sym c.at.ensures.place ∙ c.in-Some-at.is in
    let first_inside = place_inside xs c.in-Some.two.first c.in-Some-at.first first_at in
    let second_at = ap (λ ns. place_of ns c.in-Some.two.second) (sym c.requires.stands.numbers) ∙ sym c.at-2.ensures.place ∙ c.in-Some-at-2.is in
    let second_inside = place_inside xs c.in-Some.two.second c.in-Some-at-2.second second_at in
    let a = c.index_mut.result.now in
    let isa = c.index_mut.ensures.value in
    let d : Thread = record a { stage = stage.Over } in
    let z = thread_here xs c.in-Some-at-2.second second_inside in
    let o = c.index_mut-2.result.now in
    let w : Thread = record o { stage = stage.Over } in
    let on = λ (z : Thread) (is : z ≡ get_or xs i z). is_on (st z is) in
    let kept_a = kept_at fs xs c.in-Some.two.first c.in-Some-at.first k.one a kept first_at isa in
    let kept_z = kept_at fs xs c.in-Some.two.second c.in-Some-at-2.second k.two z.0 then_kept second_at z.1 in
    let x = c.index_mut-3.result.now in
    let here = other_at (slice_set xs c.in-Some-at.first d) i c.in-Some-at-2.second w x (places_differ xs i c.in-Some-at-2.second z.0 on z.1 (kept_ended z.0.stage k.two kept_z)) c.index_mut-3.ensures.value in
    let is = other_at xs i c.in-Some-at.first d x (places_differ xs i c.in-Some-at.first a on isa (kept_ended a.stage k.one kept_a)) here in
    is_on (st x is)

pub returns-clause-step : goal.returns-clause-step
returns-clause-step c =
    let fs = c.args.forms.now in
    let r = c.args.running.now in
    let xs = r.threads.items in
    let b = beside_of r.common in
    let t = c.args.turn.now.thread in
    let i = c.args.turn.now.at in
    let q = thread_here xs i c.requires.inside in
    let st = λ (z : Thread) (is : z ≡ get_or xs i z). steps_at fs xs b r.output.items t fresh.None i next.ParEnd r.places.numbers c.requires.order c.requires.stands.well c.requires.stands.numbers c.requires.place c.requires.inside c.requires.next c.requires.goes z is in
    let k = end_steps fs xs b r.output.items t i q.0 (st q.0 q.1) in
    let same = two_same t c.in-Some.two k.pair (ap (two_from t) (sym c.in-Some.is) ∙ c.of.ensures ∙ k.is) in
    let kept = subst (λ (p : Pair). result_at (threads_of fs xs) p.first ≡ Some k.one) same k.kept in
    let then_kept = subst (λ (p : Pair). result_at (threads_of fs xs) p.second ≡ Some k.two) same k.then_kept in
    let first_at = ap (λ ns. place_of ns c.in-Some.two.first) (sym c.requires.stands.numbers) ∙ sym c.at.ensures.place ∙ c.in-Some-at.is in
    let first_inside = place_inside xs c.in-Some.two.first c.in-Some-at.first first_at in
    let second_at = ap (λ ns. place_of ns c.in-Some.two.second) (sym c.requires.stands.numbers) ∙ sym c.at-2.ensures.place ∙ c.in-Some-at-2.is in
    let second_inside = place_inside xs c.in-Some.two.second c.in-Some-at-2.second second_at in
    let a = c.index_mut.result.now in
    let isa = c.index_mut.ensures.value in
    let d : Thread = record a { stage = stage.Over } in
    let z = thread_here xs c.in-Some-at-2.second second_inside in
    let o = c.index_mut-2.result.now in
    let w : Thread = record o { stage = stage.Over } in
    let on = λ (z : Thread) (is : z ≡ get_or xs i z). is_on (st z is) in
    let kept_a = kept_at fs xs c.in-Some.two.first c.in-Some-at.first k.one a kept first_at isa in
    let kept_z = kept_at fs xs c.in-Some.two.second c.in-Some-at-2.second k.two z.0 then_kept second_at z.1 in
    let x = c.index_mut-3.result.now in
    let here = other_at (slice_set xs c.in-Some-at.first d) i c.in-Some-at-2.second w x (places_differ xs i c.in-Some-at-2.second z.0 on z.1 (kept_ended z.0.stage k.two kept_z)) c.index_mut-3.ensures.value in
    let is = other_at xs i c.in-Some-at.first d x (places_differ xs i c.in-Some-at.first a on isa (kept_ended a.stage k.one kept_a)) here in
    let well = well_at fs xs i x c.requires.inside is c.requires.stands.well in
    let y = c.resume.new.thread in
    let like = like_before xs c.in-Some-at.first c.in-Some-at-2.second a d z.0 o isa refl refl refl c.index_mut-2.ensures.value z.1 second_inside in
    let s = st x is in
    whole_par_end fs xs b r.output.items t i c.in-Some-at.first c.in-Some-at-2.second (pair_from t c.in-Some.two) x y a d z.0 w x.frames.items k.one k.two s.place is (is_on s) (ap (λ (f : Focus). wrapped fs x.frames.items (focus_run fs f)) (c.requires.next x is))
    (sym c.of.ensures ∙ ap (two_from t) c.in-Some.is) first_at isa kept_a (over_thread fs a d refl refl refl) refl second_at z.1 kept_z (over_thread fs z.0 w like.number like.slots refl) like.number
    c.resume.ensures.run c.resume.ensures.number c.resume.ensures.stage (ap (λ vs. vs.items) c.resume.ensures.slots)
    ∙ ap (λ ps. stepped_to (whole fs (slice_set (slice_set (slice_set xs c.in-Some-at.first d) c.in-Some-at-2.second w) i y) (record b { pairs = ps }) r.output.items) []) (sym c.remove.ensures.pairs)

pub returns-clause-stands : goal.returns-clause-stands
returns-clause-stands c =
    let fs = c.args.forms.now in
    let r = c.args.running.now in
    let xs = r.threads.items in
    let b = beside_of r.common in
    let t = c.args.turn.now.thread in
    let i = c.args.turn.now.at in
    let q = thread_here xs i c.requires.inside in
    let st = λ (z : Thread) (is : z ≡ get_or xs i z). steps_at fs xs b r.output.items t fresh.None i next.ParEnd r.places.numbers c.requires.order c.requires.stands.well c.requires.stands.numbers c.requires.place c.requires.inside c.requires.next c.requires.goes z is in
    let k = end_steps fs xs b r.output.items t i q.0 (st q.0 q.1) in
    let same = two_same t c.in-Some.two k.pair (ap (two_from t) (sym c.in-Some.is) ∙ c.of.ensures ∙ k.is) in
    let kept = subst (λ (p : Pair). result_at (threads_of fs xs) p.first ≡ Some k.one) same k.kept in
    let then_kept = subst (λ (p : Pair). result_at (threads_of fs xs) p.second ≡ Some k.two) same k.then_kept in
    let first_at = ap (λ ns. place_of ns c.in-Some.two.first) (sym c.requires.stands.numbers) ∙ sym c.at.ensures.place ∙ c.in-Some-at.is in
    let first_inside = place_inside xs c.in-Some.two.first c.in-Some-at.first first_at in
    let second_at = ap (λ ns. place_of ns c.in-Some.two.second) (sym c.requires.stands.numbers) ∙ sym c.at-2.ensures.place ∙ c.in-Some-at-2.is in
    let second_inside = place_inside xs c.in-Some.two.second c.in-Some-at-2.second second_at in
    let a = c.index_mut.result.now in
    let isa = c.index_mut.ensures.value in
    let d : Thread = record a { stage = stage.Over } in
    let z = thread_here xs c.in-Some-at-2.second second_inside in
    let o = c.index_mut-2.result.now in
    let w : Thread = record o { stage = stage.Over } in
    let on = λ (z : Thread) (is : z ≡ get_or xs i z). is_on (st z is) in
    let kept_a = kept_at fs xs c.in-Some.two.first c.in-Some-at.first k.one a kept first_at isa in
    let kept_z = kept_at fs xs c.in-Some.two.second c.in-Some-at-2.second k.two z.0 then_kept second_at z.1 in
    let x = c.index_mut-3.result.now in
    let here = other_at (slice_set xs c.in-Some-at.first d) i c.in-Some-at-2.second w x (places_differ xs i c.in-Some-at-2.second z.0 on z.1 (kept_ended z.0.stage k.two kept_z)) c.index_mut-3.ensures.value in
    let is = other_at xs i c.in-Some-at.first d x (places_differ xs i c.in-Some-at.first a on isa (kept_ended a.stage k.one kept_a)) here in
    let well = well_at fs xs i x c.requires.inside is c.requires.stands.well in
    let y = c.resume.new.thread in
    let ps = r.common.pairs.pairs in
    let ys = slice_set xs c.in-Some-at.first d in
    let zs = slice_set ys c.in-Some-at-2.second w in
    let numbers_a = numbers_set xs c.in-Some-at.first a d isa refl in
    let numbers_w = numbers_set ys c.in-Some-at-2.second o w c.index_mut-2.ensures.value refl in
    let well_d = well_over fs a d refl refl refl (ended_done a.stage (kept_ended a.stage k.one kept_a)) (well_at fs xs c.in-Some-at.first a first_inside isa c.requires.stands.well) in
    let wells = well_set fs xs c.in-Some-at.first d well_d c.requires.stands.well in
    let inside_o = place_inside ys c.in-Some.two.second c.in-Some-at-2.second (ap (λ ns. place_of ns c.in-Some.two.second) numbers_a ∙ second_at) in
    let like = like_before xs c.in-Some-at.first c.in-Some-at-2.second a d z.0 o isa refl refl refl c.index_mut-2.ensures.value z.1 second_inside in
    let well_w = well_over fs o w refl refl refl (like.over (ended_done z.0.stage (kept_ended z.0.stage k.two kept_z))) (well_at fs ys c.in-Some-at-2.second o inside_o c.index_mut-2.ensures.value wells) in
    let parents = parents_same ps ys c.in-Some-at-2.second o w c.index_mut-2.ensures.value refl refl (parents_same ps xs c.in-Some-at.first a d isa refl refl c.requires.stands.parents) in
    record {
      numbers = c.requires.stands.numbers ∙ sym (numbers_set zs i x y c.index_mut-3.ensures.value c.resume.ensures.number ∙ numbers_w ∙ numbers_a);
      well = well_set fs zs i y c.resume.ensures.well (well_set fs ys c.in-Some-at-2.second w well_w wells);
      parents = subst (λ (us : List Pair). AreParents us (slice_set zs i y)) (sym c.remove.ensures.pairs) (parents_less ps zs t i x y (ap (λ ns. place_of ns t) (numbers_w ∙ numbers_a ∙ sym c.requires.stands.numbers) ∙ c.requires.place) c.index_mut-3.ensures.value c.resume.ensures.number parents);
    }
