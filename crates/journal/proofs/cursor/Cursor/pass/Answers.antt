use Rattle.std.proofs.Common.{◌≡◌, ◌++◌, ap, ◌∙◌, Some, None}
use Rattle.std.proofs.lemmas.Slice.Eq.{strip_prefix_is}
use Rattle.std.proofs.lemmas.Bool.Decides.{Decides-eqb}
use Rattle.journal.specs.OrderReading.{behind}
use Rattle.journal.proofs.TextLemmas.{behind_again, behind_none}
use Rattle.journal.proofs.cursor.Cursor.pass.Goals as goal

pub returns-in-Some-clause-value : goal.returns-in-Some-clause-value
returns-in-Some-clause-value c =
    let text : c.args.self.now.rest.now ≡ c.args.text.now ++ c.in-Some.rest.now = strip_prefix_is Decides-eqb c.args.self.now.rest.now c.args.text.now (Some c.in-Some.rest) (c.in-Some.ensures.cases) in
    ap (behind c.args.text.now) text ∙ behind_again c.args.text.now c.in-Some.rest.now

pub returns-in-None-clause-value : goal.returns-in-None-clause-value
returns-in-None-clause-value c = behind_none c.args.text.now c.args.self.now.rest.now (strip_prefix_is Decides-eqb c.args.self.now.rest.now c.args.text.now None c.in-None.ensures.cases)
