use Rattle.std.proofs.Common.{Some, None, sym, ap, ◌∙◌}
use Rattle.fr_typing.specs.Kinds.{boxed}
use Rattle.fr_typing.specs.Places.{alike}
use Rattle.fr_types.specs.Types.{kind_of, piece_of}
use Rattle.fr_types.specs.Answers.{kind_in, piece_in}
use Rattle.fr_types.specs.States.{env_of}
use Rattle.fr_types.proofs.JoinLemmas.{join_whole, join_gone, join_boxed}
use Rattle.fr_types.proofs.join.+join_parts.Goals as goal

pub returns-in-Some : goal.returns-in-Some
returns-in-Some t c = λ names.
    join_whole (alike (env_of names c.args.env.now)) (piece_of c.args.p.now) (piece_of c.args.q.now) (kind_of c.in-Whole-Whole.a) (kind_of c.in-Whole-Whole.b) (Some (kind_of c.in-Some.t)) (kind_in c.in_ok-t-in-Whole-Whole.field-0)
    (ap piece_of c.in-Whole-Whole.is-0) (ap piece_of c.in-Whole-Whole.is-1) (sym (ap kind_in c.in-Some.is)) (c.in_ok-t-in-Whole-Whole.ensures names)

pub returns-in-None : goal.returns-in-None
returns-in-None t c = λ names.
    join_whole (alike (env_of names c.args.env.now)) (piece_of c.args.p.now) (piece_of c.args.q.now) (kind_of c.in-Whole-Whole.a) (kind_of c.in-Whole-Whole.b) None (kind_in c.in_ok-t-in-Whole-Whole.field-0)
    (ap piece_of c.in-Whole-Whole.is-0) (ap piece_of c.in-Whole-Whole.is-1) (sym (ap kind_in c.in-None.is)) (c.in_ok-t-in-Whole-Whole.ensures names)

pub returns-in-Some-2 : goal.returns-in-Some-2
returns-in-Some-2 t c = λ names.
    join_gone (alike (env_of names c.args.env.now)) (piece_of c.args.p.now) (piece_of c.args.q.now) (kind_of c.in-Gone-Gone.a) (kind_of c.in-Gone-Gone.b) (Some (kind_of c.in-Some-2.t)) (kind_in c.in_ok-t-in-Gone-Gone.field-0)
    (ap piece_of c.in-Gone-Gone.is-0) (ap piece_of c.in-Gone-Gone.is-1) (sym (ap kind_in c.in-Some-2.is)) (c.in_ok-t-in-Gone-Gone.ensures names)

pub returns-in-None-2 : goal.returns-in-None-2
returns-in-None-2 t c = λ names.
    join_gone (alike (env_of names c.args.env.now)) (piece_of c.args.p.now) (piece_of c.args.q.now) (kind_of c.in-Gone-Gone.a) (kind_of c.in-Gone-Gone.b) None (kind_in c.in_ok-t-in-Gone-Gone.field-0)
    (ap piece_of c.in-Gone-Gone.is-0) (ap piece_of c.in-Gone-Gone.is-1) (sym (ap kind_in c.in-None-2.is)) (c.in_ok-t-in-Gone-Gone.ensures names)

pub returns-in_ok-new-in-Some-3 : goal.returns-in_ok-new-in-Some-3
returns-in_ok-new-in-Some-3 t c = λ names.
    join_boxed (alike (env_of names c.args.env.now)) (piece_of c.args.p.now) (piece_of c.args.q.now) (piece_of c.deref.result.now) (piece_of c.deref-in-Box-Box.result.now) (Some (piece_of c.in_ok-new-in-Some-3.field-0.value)) (piece_in c.in_ok-r-in-Box-Box.field-0)
    (ap piece_of c.in-Box-Box.is-0 ∙ ap (λ p. boxed (piece_of p)) (sym c.deref.ensures)) (ap piece_of c.in-Box-Box.is-1 ∙ ap (λ p. boxed (piece_of p)) (sym c.deref-in-Box-Box.ensures)) (ap (λ r. Some (piece_of r)) c.in_ok-new-in-Some-3.ensures.ok ∙ sym (ap piece_in c.in-Some-3.is)) (c.in_ok-r-in-Box-Box.ensures names)

pub returns-in-None-3 : goal.returns-in-None-3
returns-in-None-3 t c = λ names.
    join_boxed (alike (env_of names c.args.env.now)) (piece_of c.args.p.now) (piece_of c.args.q.now) (piece_of c.deref.result.now) (piece_of c.deref-in-Box-Box.result.now) None (piece_in c.in_ok-r-in-Box-Box.field-0)
    (ap piece_of c.in-Box-Box.is-0 ∙ ap (λ p. boxed (piece_of p)) (sym c.deref.ensures)) (ap piece_of c.in-Box-Box.is-1 ∙ ap (λ p. boxed (piece_of p)) (sym c.deref-in-Box-Box.ensures)) (sym (ap piece_in c.in-None-3.is)) (c.in_ok-r-in-Box-Box.ensures names)
