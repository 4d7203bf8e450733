use Rattle.fr_base.specs.declared.step.Fresh.TheVariants as fresh
use Rattle.fr_meaning.specs.Beside.{beside_of}
use Rattle.fr_meaning.specs.declared.next.Next.TheVariants as next
use Rattle.fr_meaning.proofs.StepFacts.{steps_at, is_on}
use Rattle.fr_meaning.proofs.running.go_to_end.Goals as goal

pub go_end-requires-clause-on : goal.go_end-requires-clause-on
go_end-requires-clause-on c = λ x is. (
    let r = c.args.running.now in
    let s = steps_at c.args.forms.now r.threads.items (beside_of r.common) r.output.items c.args.turn.now.thread fresh.None c.args.turn.now.at (next.End c.args.done) r.places.numbers c.requires.order c.requires.stands.well c.requires.stands.numbers c.requires.place c.requires.inside c.requires.next c.requires.goes x is in
    (is_on s, c.requires.next x is))
