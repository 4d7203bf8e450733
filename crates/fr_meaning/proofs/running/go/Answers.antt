use Rattle.std.proofs.Common.{◌≡◌, Some, refl, sym, ap, ◌∙◌, subst, arith}
use Rattle.std.specs.Prelude.{IsSome, IfOk}
use Rattle.fr_base.specs.Rooms.{WithRoom}
use Rattle.fr_base.specs.declared.label.Label.{Label}
use Rattle.fr_base.specs.declared.step.Fresh.{Fresh}
use Rattle.fr_plain.specs.Whole.{step}
use Rattle.fr_meaning.specs.Beside.{beside_of}
use Rattle.fr_meaning.specs.declared.next.Next.TheVariants as next
use Rattle.fr_shared.specs.Places.{place_of}
use Rattle.fr_meaning.specs.Threads.{numbers_of}
use Rattle.fr_meaning.specs.Running.{plain_of}
use Rattle.fr_meaning.proofs.StepFacts.{steps_at, no_step, takes_none, place_inside, thread_here, comes_at}
use Rattle.fr_meaning.proofs.WholeSteps.{stepped_to}
use Rattle.fr_meaning.proofs.running.go.Goals as goal

pub unreachable-requires : goal.unreachable-requires
unreachable-requires c =
    let r = c.args.running.now in
    no_step c.args.forms.now r.threads.items (beside_of r.common) r.output.items c.args.thread c.args.fresh (ap (λ ns. place_of ns c.args.thread) (sym c.requires.stands.numbers) ∙ sym c.at.ensures.place ∙ c.in_default.is) c.requires.goes

pub index-requires : goal.index-requires
index-requires c =
    let r = c.args.running.now in
    let inside = place_inside r.threads.items c.args.thread c.in-Some.at (ap (λ ns. place_of ns c.args.thread) (sym c.requires.stands.numbers) ∙ sym c.at.ensures.place ∙ c.in-Some.is) in
    omega (arith, inside, r.threads.ok)

pub index-requires-2 : goal.index-requires-2
index-requires-2 c =
    let r = c.args.running.now in
    let inside = place_inside r.threads.items c.args.thread c.in-Some.at (ap (λ ns. place_of ns c.args.thread) (sym c.requires.stands.numbers) ∙ sym c.at.ensures.place ∙ c.in-Some.is) in
    omega (arith, inside, r.threads.ok)

pub go_to_end-requires-clause-inside : goal.go_to_end-requires-clause-inside
go_to_end-requires-clause-inside c = place_inside c.args.running.now.threads.items c.args.thread c.in-Some.at (ap (λ ns. place_of ns c.args.thread) (sym c.requires.stands.numbers) ∙ sym c.at.ensures.place ∙ c.in-Some.is)

pub go_to_end-requires-clause-next : goal.go_to_end-requires-clause-next
go_to_end-requires-clause-next c =
    let r = c.args.running.now in
    let inside = place_inside r.threads.items c.args.thread c.in-Some.at (ap (λ ns. place_of ns c.args.thread) (sym c.requires.stands.numbers) ∙ sym c.at.ensures.place ∙ c.in-Some.is) in
    let comes = comes_at r.threads.items c.in-Some.at c.index.result.now c.index-2.result.now c.deref.result.now c.next_of.result (next.End c.in-End.done) inside c.index.ensures c.index-2.ensures c.deref.ensures.value c.in-End.is c.next_of.ensures in
    comes

pub go_to_end-requires-clause-goes : goal.go_to_end-requires-clause-goes
go_to_end-requires-clause-goes c =
    let r = c.args.running.now in
    let inside = place_inside r.threads.items c.args.thread c.in-Some.at (ap (λ ns. place_of ns c.args.thread) (sym c.requires.stands.numbers) ∙ sym c.at.ensures.place ∙ c.in-Some.is) in
    let comes = comes_at r.threads.items c.in-Some.at c.index.result.now c.index-2.result.now c.deref.result.now c.next_of.result (next.End c.in-End.done) inside c.index.ensures c.index-2.ensures c.deref.ensures.value c.in-End.is c.next_of.ensures in
    let x = thread_here r.threads.items c.in-Some.at inside in
    let same = takes_none c.args.forms.now r.threads.items (beside_of r.common) r.output.items c.args.thread c.args.fresh c.in-Some.at x.0 (next.End c.in-End.done) (steps_at c.args.forms.now r.threads.items (beside_of r.common) r.output.items c.args.thread c.args.fresh c.in-Some.at (next.End c.in-End.done) (numbers_of r.threads.items) c.requires.order c.requires.stands.well refl (ap (λ ns. place_of ns c.args.thread) (sym c.requires.stands.numbers) ∙ sym c.at.ensures.place ∙ c.in-Some.is) inside comes c.requires.goes x.0 x.1) refl in
    subst (λ (n : Fresh). IsSome (step (plain_of c.args.forms.now r) c.args.thread n)) same c.requires.goes

pub go_joining-requires-clause-inside : goal.go_joining-requires-clause-inside
go_joining-requires-clause-inside c = place_inside c.args.running.now.threads.items c.args.thread c.in-Some.at (ap (λ ns. place_of ns c.args.thread) (sym c.requires.stands.numbers) ∙ sym c.at.ensures.place ∙ c.in-Some.is)

pub go_joining-requires-clause-next : goal.go_joining-requires-clause-next
go_joining-requires-clause-next c =
    let r = c.args.running.now in
    let inside = place_inside r.threads.items c.args.thread c.in-Some.at (ap (λ ns. place_of ns c.args.thread) (sym c.requires.stands.numbers) ∙ sym c.at.ensures.place ∙ c.in-Some.is) in
    let comes = comes_at r.threads.items c.in-Some.at c.index.result.now c.index-2.result.now c.deref.result.now c.next_of.result (next.Join c.in-Join.value) inside c.index.ensures c.index-2.ensures c.deref.ensures.value c.in-Join.is c.next_of.ensures in
    comes

pub go_joining-requires-clause-goes : goal.go_joining-requires-clause-goes
go_joining-requires-clause-goes c =
    let r = c.args.running.now in
    let inside = place_inside r.threads.items c.args.thread c.in-Some.at (ap (λ ns. place_of ns c.args.thread) (sym c.requires.stands.numbers) ∙ sym c.at.ensures.place ∙ c.in-Some.is) in
    let comes = comes_at r.threads.items c.in-Some.at c.index.result.now c.index-2.result.now c.deref.result.now c.next_of.result (next.Join c.in-Join.value) inside c.index.ensures c.index-2.ensures c.deref.ensures.value c.in-Join.is c.next_of.ensures in
    let x = thread_here r.threads.items c.in-Some.at inside in
    let same = takes_none c.args.forms.now r.threads.items (beside_of r.common) r.output.items c.args.thread c.args.fresh c.in-Some.at x.0 (next.Join c.in-Join.value) (steps_at c.args.forms.now r.threads.items (beside_of r.common) r.output.items c.args.thread c.args.fresh c.in-Some.at (next.Join c.in-Join.value) (numbers_of r.threads.items) c.requires.order c.requires.stands.well refl (ap (λ ns. place_of ns c.args.thread) (sym c.requires.stands.numbers) ∙ sym c.at.ensures.place ∙ c.in-Some.is) inside comes c.requires.goes x.0 x.1) refl in
    subst (λ (n : Fresh). IsSome (step (plain_of c.args.forms.now r) c.args.thread n)) same c.requires.goes

pub go_starting-requires-clause-inside : goal.go_starting-requires-clause-inside
go_starting-requires-clause-inside c = place_inside c.args.running.now.threads.items c.args.thread c.in-Some.at (ap (λ ns. place_of ns c.args.thread) (sym c.requires.stands.numbers) ∙ sym c.at.ensures.place ∙ c.in-Some.is)

pub go_starting-requires-clause-next : goal.go_starting-requires-clause-next
go_starting-requires-clause-next c =
    let r = c.args.running.now in
    let inside = place_inside r.threads.items c.args.thread c.in-Some.at (ap (λ ns. place_of ns c.args.thread) (sym c.requires.stands.numbers) ∙ sym c.at.ensures.place ∙ c.in-Some.is) in
    let comes = comes_at r.threads.items c.in-Some.at c.index.result.now c.index-2.result.now c.deref.result.now c.next_of.result (next.Start c.in-Start.node) inside c.index.ensures c.index-2.ensures c.deref.ensures.value c.in-Start.is c.next_of.ensures in
    comes

pub go_own-requires-clause-inside : goal.go_own-requires-clause-inside
go_own-requires-clause-inside c = place_inside c.args.running.now.threads.items c.args.thread c.in-Some.at (ap (λ ns. place_of ns c.args.thread) (sym c.requires.stands.numbers) ∙ sym c.at.ensures.place ∙ c.in-Some.is)

pub go_own-requires-clause-next : goal.go_own-requires-clause-next
go_own-requires-clause-next c =
    let r = c.args.running.now in
    let inside = place_inside r.threads.items c.args.thread c.in-Some.at (ap (λ ns. place_of ns c.args.thread) (sym c.requires.stands.numbers) ∙ sym c.at.ensures.place ∙ c.in-Some.is) in
    let comes = comes_at r.threads.items c.in-Some.at c.index.result.now c.index-2.result.now c.deref.result.now c.next_of.result (next.Own) inside c.index.ensures c.index-2.ensures c.deref.ensures.value c.in-Own.is c.next_of.ensures in
    comes

pub go_own-requires-clause-goes : goal.go_own-requires-clause-goes
go_own-requires-clause-goes c =
    let r = c.args.running.now in
    let inside = place_inside r.threads.items c.args.thread c.in-Some.at (ap (λ ns. place_of ns c.args.thread) (sym c.requires.stands.numbers) ∙ sym c.at.ensures.place ∙ c.in-Some.is) in
    let comes = comes_at r.threads.items c.in-Some.at c.index.result.now c.index-2.result.now c.deref.result.now c.next_of.result (next.Own) inside c.index.ensures c.index-2.ensures c.deref.ensures.value c.in-Own.is c.next_of.ensures in
    let x = thread_here r.threads.items c.in-Some.at inside in
    let same = takes_none c.args.forms.now r.threads.items (beside_of r.common) r.output.items c.args.thread c.args.fresh c.in-Some.at x.0 (next.Own) (steps_at c.args.forms.now r.threads.items (beside_of r.common) r.output.items c.args.thread c.args.fresh c.in-Some.at (next.Own) (numbers_of r.threads.items) c.requires.order c.requires.stands.well refl (ap (λ ns. place_of ns c.args.thread) (sym c.requires.stands.numbers) ∙ sym c.at.ensures.place ∙ c.in-Some.is) inside comes c.requires.goes x.0 x.1) refl in
    subst (λ (n : Fresh). IsSome (step (plain_of c.args.forms.now r) c.args.thread n)) same c.requires.goes

pub returns-in-End-clause-step : goal.returns-in-End-clause-step
returns-in-End-clause-step c =
    let r = c.args.running.now in
    let inside = place_inside r.threads.items c.args.thread c.in-Some.at (ap (λ ns. place_of ns c.args.thread) (sym c.requires.stands.numbers) ∙ sym c.at.ensures.place ∙ c.in-Some.is) in
    let comes = comes_at r.threads.items c.in-Some.at c.index.result.now c.index-2.result.now c.deref.result.now c.next_of.result (next.End c.in-End.done) inside c.index.ensures c.index-2.ensures c.deref.ensures.value c.in-End.is c.next_of.ensures in
    let x = thread_here r.threads.items c.in-Some.at inside in
    let same = takes_none c.args.forms.now r.threads.items (beside_of r.common) r.output.items c.args.thread c.args.fresh c.in-Some.at x.0 (next.End c.in-End.done) (steps_at c.args.forms.now r.threads.items (beside_of r.common) r.output.items c.args.thread c.args.fresh c.in-Some.at (next.End c.in-End.done) (numbers_of r.threads.items) c.requires.order c.requires.stands.well refl (ap (λ ns. place_of ns c.args.thread) (sym c.requires.stands.numbers) ∙ sym c.at.ensures.place ∙ c.in-Some.is) inside comes c.requires.goes x.0 x.1) refl in
    subst (λ (n : Fresh). IfOk c.go_to_end.result (λ (l : WithRoom Label). step (plain_of c.args.forms.now r) c.args.thread n ≡ Some (record { state = plain_of c.args.forms.now c.go_to_end.new.running; labels = l.items }))) (sym same) c.go_to_end.ensures.step

pub returns-in-Join-clause-step : goal.returns-in-Join-clause-step
returns-in-Join-clause-step c =
    let r = c.args.running.now in
    let inside = place_inside r.threads.items c.args.thread c.in-Some.at (ap (λ ns. place_of ns c.args.thread) (sym c.requires.stands.numbers) ∙ sym c.at.ensures.place ∙ c.in-Some.is) in
    let comes = comes_at r.threads.items c.in-Some.at c.index.result.now c.index-2.result.now c.deref.result.now c.next_of.result (next.Join c.in-Join.value) inside c.index.ensures c.index-2.ensures c.deref.ensures.value c.in-Join.is c.next_of.ensures in
    let x = thread_here r.threads.items c.in-Some.at inside in
    let same = takes_none c.args.forms.now r.threads.items (beside_of r.common) r.output.items c.args.thread c.args.fresh c.in-Some.at x.0 (next.Join c.in-Join.value) (steps_at c.args.forms.now r.threads.items (beside_of r.common) r.output.items c.args.thread c.args.fresh c.in-Some.at (next.Join c.in-Join.value) (numbers_of r.threads.items) c.requires.order c.requires.stands.well refl (ap (λ ns. place_of ns c.args.thread) (sym c.requires.stands.numbers) ∙ sym c.at.ensures.place ∙ c.in-Some.is) inside comes c.requires.goes x.0 x.1) refl in
    ap (step (plain_of c.args.forms.now r) c.args.thread) same ∙ c.go_joining.ensures.step ∙ ap (stepped_to (plain_of c.args.forms.now c.go_joining.new.running)) (sym c.new.ensures)

pub returns-in-Own-clause-step : goal.returns-in-Own-clause-step
returns-in-Own-clause-step c =
    let r = c.args.running.now in
    let inside = place_inside r.threads.items c.args.thread c.in-Some.at (ap (λ ns. place_of ns c.args.thread) (sym c.requires.stands.numbers) ∙ sym c.at.ensures.place ∙ c.in-Some.is) in
    let comes = comes_at r.threads.items c.in-Some.at c.index.result.now c.index-2.result.now c.deref.result.now c.next_of.result (next.Own) inside c.index.ensures c.index-2.ensures c.deref.ensures.value c.in-Own.is c.next_of.ensures in
    let x = thread_here r.threads.items c.in-Some.at inside in
    let same = takes_none c.args.forms.now r.threads.items (beside_of r.common) r.output.items c.args.thread c.args.fresh c.in-Some.at x.0 (next.Own) (steps_at c.args.forms.now r.threads.items (beside_of r.common) r.output.items c.args.thread c.args.fresh c.in-Some.at (next.Own) (numbers_of r.threads.items) c.requires.order c.requires.stands.well refl (ap (λ ns. place_of ns c.args.thread) (sym c.requires.stands.numbers) ∙ sym c.at.ensures.place ∙ c.in-Some.is) inside comes c.requires.goes x.0 x.1) refl in
    subst (λ (n : Fresh). IfOk c.go_own.result (λ (l : WithRoom Label). step (plain_of c.args.forms.now r) c.args.thread n ≡ Some (record { state = plain_of c.args.forms.now c.go_own.new.running; labels = l.items }))) (sym same) c.go_own.ensures.step

pub go_dup-requires-clause-inside : goal.go_dup-requires-clause-inside
go_dup-requires-clause-inside c = place_inside c.args.running.now.threads.items c.args.thread c.in-Some.at (ap (λ ns. place_of ns c.args.thread) (sym c.requires.stands.numbers) ∙ sym c.at.ensures.place ∙ c.in-Some.is)

pub go_dup-requires-clause-next : goal.go_dup-requires-clause-next
go_dup-requires-clause-next c =
    let r = c.args.running.now in
    let inside = place_inside r.threads.items c.args.thread c.in-Some.at (ap (λ ns. place_of ns c.args.thread) (sym c.requires.stands.numbers) ∙ sym c.at.ensures.place ∙ c.in-Some.is) in
    let comes = comes_at r.threads.items c.in-Some.at c.index.result.now c.index-2.result.now c.deref.result.now c.next_of.result (next.Dup c.in-Dup.place) inside c.index.ensures c.index-2.ensures c.deref.ensures.value c.in-Dup.is c.next_of.ensures in
    comes

pub go_dup-requires-clause-goes : goal.go_dup-requires-clause-goes
go_dup-requires-clause-goes c =
    let r = c.args.running.now in
    let inside = place_inside r.threads.items c.args.thread c.in-Some.at (ap (λ ns. place_of ns c.args.thread) (sym c.requires.stands.numbers) ∙ sym c.at.ensures.place ∙ c.in-Some.is) in
    let comes = comes_at r.threads.items c.in-Some.at c.index.result.now c.index-2.result.now c.deref.result.now c.next_of.result (next.Dup c.in-Dup.place) inside c.index.ensures c.index-2.ensures c.deref.ensures.value c.in-Dup.is c.next_of.ensures in
    let x = thread_here r.threads.items c.in-Some.at inside in
    let same = takes_none c.args.forms.now r.threads.items (beside_of r.common) r.output.items c.args.thread c.args.fresh c.in-Some.at x.0 (next.Dup c.in-Dup.place) (steps_at c.args.forms.now r.threads.items (beside_of r.common) r.output.items c.args.thread c.args.fresh c.in-Some.at (next.Dup c.in-Dup.place) (numbers_of r.threads.items) c.requires.order c.requires.stands.well refl (ap (λ ns. place_of ns c.args.thread) (sym c.requires.stands.numbers) ∙ sym c.at.ensures.place ∙ c.in-Some.is) inside comes c.requires.goes x.0 x.1) refl in
    subst (λ (n : Fresh). IsSome (step (plain_of c.args.forms.now r) c.args.thread n)) same c.requires.goes

pub go_unlock-requires-clause-inside : goal.go_unlock-requires-clause-inside
go_unlock-requires-clause-inside c = place_inside c.args.running.now.threads.items c.args.thread c.in-Some.at (ap (λ ns. place_of ns c.args.thread) (sym c.requires.stands.numbers) ∙ sym c.at.ensures.place ∙ c.in-Some.is)

pub go_unlock-requires-clause-next : goal.go_unlock-requires-clause-next
go_unlock-requires-clause-next c =
    let r = c.args.running.now in
    let inside = place_inside r.threads.items c.args.thread c.in-Some.at (ap (λ ns. place_of ns c.args.thread) (sym c.requires.stands.numbers) ∙ sym c.at.ensures.place ∙ c.in-Some.is) in
    let comes = comes_at r.threads.items c.in-Some.at c.index.result.now c.index-2.result.now c.deref.result.now c.next_of.result (next.Unlock c.in-Unlock.done) inside c.index.ensures c.index-2.ensures c.deref.ensures.value c.in-Unlock.is c.next_of.ensures in
    comes

pub go_unlock-requires-clause-goes : goal.go_unlock-requires-clause-goes
go_unlock-requires-clause-goes c =
    let r = c.args.running.now in
    let inside = place_inside r.threads.items c.args.thread c.in-Some.at (ap (λ ns. place_of ns c.args.thread) (sym c.requires.stands.numbers) ∙ sym c.at.ensures.place ∙ c.in-Some.is) in
    let comes = comes_at r.threads.items c.in-Some.at c.index.result.now c.index-2.result.now c.deref.result.now c.next_of.result (next.Unlock c.in-Unlock.done) inside c.index.ensures c.index-2.ensures c.deref.ensures.value c.in-Unlock.is c.next_of.ensures in
    let x = thread_here r.threads.items c.in-Some.at inside in
    let same = takes_none c.args.forms.now r.threads.items (beside_of r.common) r.output.items c.args.thread c.args.fresh c.in-Some.at x.0 (next.Unlock c.in-Unlock.done) (steps_at c.args.forms.now r.threads.items (beside_of r.common) r.output.items c.args.thread c.args.fresh c.in-Some.at (next.Unlock c.in-Unlock.done) (numbers_of r.threads.items) c.requires.order c.requires.stands.well refl (ap (λ ns. place_of ns c.args.thread) (sym c.requires.stands.numbers) ∙ sym c.at.ensures.place ∙ c.in-Some.is) inside comes c.requires.goes x.0 x.1) refl in
    subst (λ (n : Fresh). IsSome (step (plain_of c.args.forms.now r) c.args.thread n)) same c.requires.goes

pub go_making-requires-clause-inside : goal.go_making-requires-clause-inside
go_making-requires-clause-inside c = place_inside c.args.running.now.threads.items c.args.thread c.in-Some.at (ap (λ ns. place_of ns c.args.thread) (sym c.requires.stands.numbers) ∙ sym c.at.ensures.place ∙ c.in-Some.is)

pub go_making-requires-clause-next : goal.go_making-requires-clause-next
go_making-requires-clause-next c =
    let r = c.args.running.now in
    let inside = place_inside r.threads.items c.args.thread c.in-Some.at (ap (λ ns. place_of ns c.args.thread) (sym c.requires.stands.numbers) ∙ sym c.at.ensures.place ∙ c.in-Some.is) in
    let comes = comes_at r.threads.items c.in-Some.at c.index.result.now c.index-2.result.now c.deref.result.now c.next_of.result (next.Mutex c.in-Mutex.value) inside c.index.ensures c.index-2.ensures c.deref.ensures.value c.in-Mutex.is c.next_of.ensures in
    comes

pub returns-in-Dup-clause-step : goal.returns-in-Dup-clause-step
returns-in-Dup-clause-step c =
    let r = c.args.running.now in
    let inside = place_inside r.threads.items c.args.thread c.in-Some.at (ap (λ ns. place_of ns c.args.thread) (sym c.requires.stands.numbers) ∙ sym c.at.ensures.place ∙ c.in-Some.is) in
    let comes = comes_at r.threads.items c.in-Some.at c.index.result.now c.index-2.result.now c.deref.result.now c.next_of.result (next.Dup c.in-Dup.place) inside c.index.ensures c.index-2.ensures c.deref.ensures.value c.in-Dup.is c.next_of.ensures in
    let x = thread_here r.threads.items c.in-Some.at inside in
    let same = takes_none c.args.forms.now r.threads.items (beside_of r.common) r.output.items c.args.thread c.args.fresh c.in-Some.at x.0 (next.Dup c.in-Dup.place) (steps_at c.args.forms.now r.threads.items (beside_of r.common) r.output.items c.args.thread c.args.fresh c.in-Some.at (next.Dup c.in-Dup.place) (numbers_of r.threads.items) c.requires.order c.requires.stands.well refl (ap (λ ns. place_of ns c.args.thread) (sym c.requires.stands.numbers) ∙ sym c.at.ensures.place ∙ c.in-Some.is) inside comes c.requires.goes x.0 x.1) refl in
    subst (λ (n : Fresh). IfOk c.go_dup.result (λ (l : WithRoom Label). step (plain_of c.args.forms.now r) c.args.thread n ≡ Some (record { state = plain_of c.args.forms.now c.go_dup.new.running; labels = l.items }))) (sym same) c.go_dup.ensures.step

pub returns-in-Unlock-clause-step : goal.returns-in-Unlock-clause-step
returns-in-Unlock-clause-step c =
    let r = c.args.running.now in
    let inside = place_inside r.threads.items c.args.thread c.in-Some.at (ap (λ ns. place_of ns c.args.thread) (sym c.requires.stands.numbers) ∙ sym c.at.ensures.place ∙ c.in-Some.is) in
    let comes = comes_at r.threads.items c.in-Some.at c.index.result.now c.index-2.result.now c.deref.result.now c.next_of.result (next.Unlock c.in-Unlock.done) inside c.index.ensures c.index-2.ensures c.deref.ensures.value c.in-Unlock.is c.next_of.ensures in
    let x = thread_here r.threads.items c.in-Some.at inside in
    let same = takes_none c.args.forms.now r.threads.items (beside_of r.common) r.output.items c.args.thread c.args.fresh c.in-Some.at x.0 (next.Unlock c.in-Unlock.done) (steps_at c.args.forms.now r.threads.items (beside_of r.common) r.output.items c.args.thread c.args.fresh c.in-Some.at (next.Unlock c.in-Unlock.done) (numbers_of r.threads.items) c.requires.order c.requires.stands.well refl (ap (λ ns. place_of ns c.args.thread) (sym c.requires.stands.numbers) ∙ sym c.at.ensures.place ∙ c.in-Some.is) inside comes c.requires.goes x.0 x.1) refl in
    subst (λ (n : Fresh). IfOk c.go_unlock.result (λ (l : WithRoom Label). step (plain_of c.args.forms.now r) c.args.thread n ≡ Some (record { state = plain_of c.args.forms.now c.go_unlock.new.running; labels = l.items }))) (sym same) c.go_unlock.ensures.step

pub go_lock-requires-clause-inside : goal.go_lock-requires-clause-inside
go_lock-requires-clause-inside c = place_inside c.args.running.now.threads.items c.args.thread c.in-Some.at (ap (λ ns. place_of ns c.args.thread) (sym c.requires.stands.numbers) ∙ sym c.at.ensures.place ∙ c.in-Some.is)

pub go_lock-requires-clause-next : goal.go_lock-requires-clause-next
go_lock-requires-clause-next c =
    let r = c.args.running.now in
    let inside = place_inside r.threads.items c.args.thread c.in-Some.at (ap (λ ns. place_of ns c.args.thread) (sym c.requires.stands.numbers) ∙ sym c.at.ensures.place ∙ c.in-Some.is) in
    let comes = comes_at r.threads.items c.in-Some.at c.index.result.now c.index-2.result.now c.deref.result.now c.next_of.result (next.Lock c.in-Lock.place c.in-Lock.node) inside c.index.ensures c.index-2.ensures c.deref.ensures.value c.in-Lock.is c.next_of.ensures in
    comes

pub go_lock-requires-clause-goes : goal.go_lock-requires-clause-goes
go_lock-requires-clause-goes c =
    let r = c.args.running.now in
    let inside = place_inside r.threads.items c.args.thread c.in-Some.at (ap (λ ns. place_of ns c.args.thread) (sym c.requires.stands.numbers) ∙ sym c.at.ensures.place ∙ c.in-Some.is) in
    let comes = comes_at r.threads.items c.in-Some.at c.index.result.now c.index-2.result.now c.deref.result.now c.next_of.result (next.Lock c.in-Lock.place c.in-Lock.node) inside c.index.ensures c.index-2.ensures c.deref.ensures.value c.in-Lock.is c.next_of.ensures in
    let x = thread_here r.threads.items c.in-Some.at inside in
    let same = takes_none c.args.forms.now r.threads.items (beside_of r.common) r.output.items c.args.thread c.args.fresh c.in-Some.at x.0 (next.Lock c.in-Lock.place c.in-Lock.node) (steps_at c.args.forms.now r.threads.items (beside_of r.common) r.output.items c.args.thread c.args.fresh c.in-Some.at (next.Lock c.in-Lock.place c.in-Lock.node) (numbers_of r.threads.items) c.requires.order c.requires.stands.well refl (ap (λ ns. place_of ns c.args.thread) (sym c.requires.stands.numbers) ∙ sym c.at.ensures.place ∙ c.in-Some.is) inside comes c.requires.goes x.0 x.1) refl in
    subst (λ (n : Fresh). IsSome (step (plain_of c.args.forms.now r) c.args.thread n)) same c.requires.goes

pub returns-in-Lock-clause-step : goal.returns-in-Lock-clause-step
returns-in-Lock-clause-step c =
    let r = c.args.running.now in
    let inside = place_inside r.threads.items c.args.thread c.in-Some.at (ap (λ ns. place_of ns c.args.thread) (sym c.requires.stands.numbers) ∙ sym c.at.ensures.place ∙ c.in-Some.is) in
    let comes = comes_at r.threads.items c.in-Some.at c.index.result.now c.index-2.result.now c.deref.result.now c.next_of.result (next.Lock c.in-Lock.place c.in-Lock.node) inside c.index.ensures c.index-2.ensures c.deref.ensures.value c.in-Lock.is c.next_of.ensures in
    let x = thread_here r.threads.items c.in-Some.at inside in
    let same = takes_none c.args.forms.now r.threads.items (beside_of r.common) r.output.items c.args.thread c.args.fresh c.in-Some.at x.0 (next.Lock c.in-Lock.place c.in-Lock.node) (steps_at c.args.forms.now r.threads.items (beside_of r.common) r.output.items c.args.thread c.args.fresh c.in-Some.at (next.Lock c.in-Lock.place c.in-Lock.node) (numbers_of r.threads.items) c.requires.order c.requires.stands.well refl (ap (λ ns. place_of ns c.args.thread) (sym c.requires.stands.numbers) ∙ sym c.at.ensures.place ∙ c.in-Some.is) inside comes c.requires.goes x.0 x.1) refl in
    subst (λ (n : Fresh). IfOk c.go_lock.result (λ (l : WithRoom Label). step (plain_of c.args.forms.now r) c.args.thread n ≡ Some (record { state = plain_of c.args.forms.now c.go_lock.new.running; labels = l.items }))) (sym same) c.go_lock.ensures.step

pub go_par-requires-clause-inside : goal.go_par-requires-clause-inside
go_par-requires-clause-inside c = place_inside c.args.running.now.threads.items c.args.thread c.in-Some.at (ap (λ ns. place_of ns c.args.thread) (sym c.requires.stands.numbers) ∙ sym c.at.ensures.place ∙ c.in-Some.is)

pub go_par-requires-clause-next : goal.go_par-requires-clause-next
go_par-requires-clause-next c =
    let r = c.args.running.now in
    let inside = place_inside r.threads.items c.args.thread c.in-Some.at (ap (λ ns. place_of ns c.args.thread) (sym c.requires.stands.numbers) ∙ sym c.at.ensures.place ∙ c.in-Some.is) in
    let comes = comes_at r.threads.items c.in-Some.at c.index.result.now c.index-2.result.now c.deref.result.now c.next_of.result (next.Par c.in-Par.node) inside c.index.ensures c.index-2.ensures c.deref.ensures.value c.in-Par.is c.next_of.ensures in
    comes

pub go_par_end-requires-clause-inside : goal.go_par_end-requires-clause-inside
go_par_end-requires-clause-inside c = place_inside c.args.running.now.threads.items c.args.thread c.in-Some.at (ap (λ ns. place_of ns c.args.thread) (sym c.requires.stands.numbers) ∙ sym c.at.ensures.place ∙ c.in-Some.is)

pub go_par_end-requires-clause-next : goal.go_par_end-requires-clause-next
go_par_end-requires-clause-next c =
    let r = c.args.running.now in
    let inside = place_inside r.threads.items c.args.thread c.in-Some.at (ap (λ ns. place_of ns c.args.thread) (sym c.requires.stands.numbers) ∙ sym c.at.ensures.place ∙ c.in-Some.is) in
    let comes = comes_at r.threads.items c.in-Some.at c.index.result.now c.index-2.result.now c.deref.result.now c.next_of.result (next.ParEnd) inside c.index.ensures c.index-2.ensures c.deref.ensures.value c.in-ParEnd.is c.next_of.ensures in
    comes

pub go_par_end-requires-clause-goes : goal.go_par_end-requires-clause-goes
go_par_end-requires-clause-goes c =
    let r = c.args.running.now in
    let inside = place_inside r.threads.items c.args.thread c.in-Some.at (ap (λ ns. place_of ns c.args.thread) (sym c.requires.stands.numbers) ∙ sym c.at.ensures.place ∙ c.in-Some.is) in
    let comes = comes_at r.threads.items c.in-Some.at c.index.result.now c.index-2.result.now c.deref.result.now c.next_of.result (next.ParEnd) inside c.index.ensures c.index-2.ensures c.deref.ensures.value c.in-ParEnd.is c.next_of.ensures in
    let x = thread_here r.threads.items c.in-Some.at inside in
    let same = takes_none c.args.forms.now r.threads.items (beside_of r.common) r.output.items c.args.thread c.args.fresh c.in-Some.at x.0 (next.ParEnd) (steps_at c.args.forms.now r.threads.items (beside_of r.common) r.output.items c.args.thread c.args.fresh c.in-Some.at (next.ParEnd) (numbers_of r.threads.items) c.requires.order c.requires.stands.well refl (ap (λ ns. place_of ns c.args.thread) (sym c.requires.stands.numbers) ∙ sym c.at.ensures.place ∙ c.in-Some.is) inside comes c.requires.goes x.0 x.1) refl in
    subst (λ (n : Fresh). IsSome (step (plain_of c.args.forms.now r) c.args.thread n)) same c.requires.goes

pub returns-in-ParEnd-clause-step : goal.returns-in-ParEnd-clause-step
returns-in-ParEnd-clause-step c =
    let r = c.args.running.now in
    let inside = place_inside r.threads.items c.args.thread c.in-Some.at (ap (λ ns. place_of ns c.args.thread) (sym c.requires.stands.numbers) ∙ sym c.at.ensures.place ∙ c.in-Some.is) in
    let comes = comes_at r.threads.items c.in-Some.at c.index.result.now c.index-2.result.now c.deref.result.now c.next_of.result (next.ParEnd) inside c.index.ensures c.index-2.ensures c.deref.ensures.value c.in-ParEnd.is c.next_of.ensures in
    let x = thread_here r.threads.items c.in-Some.at inside in
    let same = takes_none c.args.forms.now r.threads.items (beside_of r.common) r.output.items c.args.thread c.args.fresh c.in-Some.at x.0 (next.ParEnd) (steps_at c.args.forms.now r.threads.items (beside_of r.common) r.output.items c.args.thread c.args.fresh c.in-Some.at (next.ParEnd) (numbers_of r.threads.items) c.requires.order c.requires.stands.well refl (ap (λ ns. place_of ns c.args.thread) (sym c.requires.stands.numbers) ∙ sym c.at.ensures.place ∙ c.in-Some.is) inside comes c.requires.goes x.0 x.1) refl in
    ap (step (plain_of c.args.forms.now r) c.args.thread) same ∙ c.go_par_end.ensures.step ∙ ap (stepped_to (plain_of c.args.forms.now c.go_par_end.new.running)) (sym c.new-in-ParEnd.ensures)
