use Rattle.std.proofs.Common.{rules, ◌≡◌, ◌<◌, ◌^◌, string_bytes, false, sym, ap, subst, ◌∙◌}
use Rattle.fr_base.specs.declared.step.Fresh.{Fresh}
use Rattle.journal.specs.OrderText.{IsLine}
use Rattle.journal.specs.WrittenOrder.{IsWritten, joins, one_step}
use Rattle.journal.proofs.WritingLemmas.{joined_by, begins, stands_alone, takes_names}
use Rattle.journal.proofs.writing.add_step.Goals as goal
use Rattle.journal.proofs.writing.add_step.Goals.{then-can_join+in_default, else-can_join}

pub returns-in-Some : goal.returns-in-Some
returns-in-Some c = λ steps h.
    joined_by steps (string_bytes c.args.text.now) c.in-Some.line c.args.thread c.args.fresh.now
    (sym (c.if-can_join.ensures ∙ ap (λ l. joins l c.args.thread c.args.fresh.now) c.in-Some.is))
    (subst (λ l. IsWritten steps (string_bytes c.args.text.now) l) c.in-Some.is h)

pub returns-in-None : goal.returns-in-None
returns-in-None c = λ steps h.
    let apart : joins c.args.last.now c.args.thread c.args.fresh.now ≡ false = elim c.if-can_join.branch [
      | then-can_join+in_default w ↦ ap (λ l. joins l c.args.thread c.args.fresh.now) w.in_default.is
      | else-can_join w ↦ sym w.if-can_join.ensures
    ] in
    let few : c.args.thread < 2 ^ 40 = search rules in
    rw (c.in_ok-close.ensures, c.in-None.is) (begins steps (string_bytes c.args.text.now) c.args.last.now c.args.thread (subst (λ (x : Fresh). joins c.args.last.now c.args.thread x ≡ false) c.in-None.is apart) few h)

pub returns : goal.returns
returns c = λ steps h.
    let apart : joins c.args.last.now c.args.thread c.args.fresh.now ≡ false = elim c.if-can_join.branch [
      | then-can_join+in_default w ↦ ap (λ l. joins l c.args.thread c.args.fresh.now) w.in_default.is
      | else-can_join w ↦ sym w.if-can_join.ensures
    ] in
    let is : IsLine (one_step 0 c.args.thread c.args.fresh.now) = (search rules, c.in_ok-add_line.ensures.fits) in
    rw (c.in_ok-add_line.ensures.text, c.in_ok-close.ensures) (stands_alone steps (string_bytes c.args.text.now) c.args.last.now c.args.thread c.args.fresh.now (takes_names c.args.fresh.now c.in_default-fresh.not-None) apart is h)
