use Rattle.std.proofs.Common.{◌≡◌, ◌+◌, List, Some, None, sym, ap, ◌∙◌, subst}
use Rattle.std.proofs.lemmas.Result.{on_err_weaker}
use Rattle.std.specs.Prelude.{IsSome, IfOk, OnOk, OnErr}
use Rattle.fr_base.specs.Rooms.{WithRoom}
use Rattle.fr_base.specs.declared.label.Label.{Label}
use Rattle.fr_plain.specs.Whole.{Whole, step}
use Rattle.law_plain_threads.specs.steps.TypedTerms.{AreTypedTerms}
use Rattle.fr_forms.specs.declared.forms.Form.{Form}
use Rattle.fr_meaning.specs.Beside.{beside_of}
use Rattle.fr_meaning.specs.PoolView.{whole_of, total_left, refusal}
use Rattle.fr_meaning.specs.Running.{plain_of, view_of, Stands}
use Rattle.fr_meaning.proofs.EntryLemmas.{entries_whole, same_whole}
use Rattle.fr_meaning.proofs.PoolLemmas.{typed_goes, typed_either, left_of}
use Rattle.fr_meaning.proofs.pool.Pool.go.Goals as goal

pub go-requires-clause-goes : goal.go-requires-clause-goes
go-requires-clause-goes c =
    let p = c.self.inside in
    let fs = p.forms.items in
    let r = p.running in
    let before = sym (ap whole_of c.self.view_is) ∙ entries_whole fs r.threads.items (beside_of r.common) r.output.items in
    let free = subst (λ (w : Whole). refusal w c.args.thread c.args.fresh ≡ None) before c.requires in
    let typed = subst AreTypedTerms (entries_whole fs r.threads.items (beside_of r.common) r.output.items) c.self.invariant.typed in
    subst (λ (ms : List Form). IsSome (step (plain_of ms r) c.args.thread c.args.fresh)) (sym c.deref.ensures.value) (typed_goes (plain_of fs r) c.args.thread c.args.fresh typed free)

pub invariant_of-self : goal.invariant_of-self
invariant_of-self c =
    let p = c.self.inside in
    let fs = p.forms.items in
    let r = p.running in
    let before = sym (ap whole_of c.self.view_is) ∙ entries_whole fs r.threads.items (beside_of r.common) r.output.items in
    let free = subst (λ (w : Whole). refusal w c.args.thread c.args.fresh ≡ None) before c.requires in
    let typed = subst AreTypedTerms (entries_whole fs r.threads.items (beside_of r.common) r.output.items) c.self.invariant.typed in
    let n = c.go.new.running in
    let after = entries_whole fs n.threads.items (beside_of n.common) n.output.items in
    let steps = subst (λ (ms : List Form). IfOk c.go.result (λ (l : WithRoom Label). step (plain_of ms r) c.args.thread c.args.fresh ≡ Some (record { state = plain_of ms n; labels = l.items }))) c.deref.ensures.value c.go.ensures.step in
    let err = subst (λ (ms : List Form). OnErr c.go.result (view_of ms n ≡ view_of ms r)) c.deref.ensures.value c.go.ensures.err in
    let same = on_err_weaker c.go.result (same_whole fs r.threads.items n.threads.items (beside_of r.common) (beside_of n.common) r.output.items n.output.items) err in
    record {
      order = c.self.invariant.order;
      stands = subst (λ (ms : List Form). Stands ms n) c.deref.ensures.value c.go.ensures.stands;
      typed = subst AreTypedTerms (sym after) (typed_either c.go.result (plain_of fs r) (plain_of fs n) c.args.thread c.args.fresh typed free steps same);
    }

pub returns-clause-stepped : goal.returns-clause-stepped
returns-clause-stepped c =
    let p = c.self.inside in
    let fs = p.forms.items in
    let r = p.running in
    let before = sym (ap whole_of c.self.view_is) ∙ entries_whole fs r.threads.items (beside_of r.common) r.output.items in
    let n = c.go.new.running in
    let after = entries_whole fs n.threads.items (beside_of n.common) n.output.items in
    let steps = subst (λ (ms : List Form). IfOk c.go.result (λ (l : WithRoom Label). step (plain_of ms r) c.args.thread c.args.fresh ≡ Some (record { state = plain_of ms n; labels = l.items }))) c.deref.ensures.value c.go.ensures.step in
    subst (λ (s : Whole). IfOk c.go.result (λ (l : WithRoom Label). step s c.args.thread c.args.fresh ≡ Some (record { state = whole_of (view_of fs n); labels = l.items }))) (sym before)
    (subst (λ (s : Whole). IfOk c.go.result (λ (l : WithRoom Label). step (plain_of fs r) c.args.thread c.args.fresh ≡ Some (record { state = s; labels = l.items }))) (sym after) steps)

pub returns-clause-left : goal.returns-clause-left
returns-clause-left c =
    let p = c.self.inside in
    let fs = p.forms.items in
    let r = p.running in
    let before = sym (ap whole_of c.self.view_is) ∙ entries_whole fs r.threads.items (beside_of r.common) r.output.items in
    let n = c.go.new.running in
    let after = entries_whole fs n.threads.items (beside_of n.common) n.output.items in
    let steps = subst (λ (ms : List Form). IfOk c.go.result (λ (l : WithRoom Label). step (plain_of ms r) c.args.thread c.args.fresh ≡ Some (record { state = plain_of ms n; labels = l.items }))) c.deref.ensures.value c.go.ensures.step in
    subst (λ (s : Whole). OnOk c.go.result (total_left (whole_of (view_of fs n)).threads + 1 ≡ total_left s.threads)) (sym before)
    (subst (λ (s : Whole). OnOk c.go.result (total_left s.threads + 1 ≡ total_left (plain_of fs r).threads)) (sym after) (left_of c.go.result (plain_of fs r) (plain_of fs n) c.args.thread c.args.fresh steps))
