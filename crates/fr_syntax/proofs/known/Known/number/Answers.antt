use Rattle.std.proofs.Common.{List, ℕ, Bor}
use Rattle.fr_syntax.proofs.TextLemmas.{texts-insert, texts-new, texts-place}
use Rattle.fr_syntax.proofs.known.Known.number.Goals as goal

pub returns-clause-texts : goal.returns-clause-texts
returns-clause-texts c = texts-insert (λ (k : Bor (List ℕ)). k.now) c.args.text c.self.inside.texts.keys _ _ c.in_ok-insert_full.ensures.keys c.self.view_is

pub returns-clause-place : goal.returns-clause-place
returns-clause-place c = texts-place (λ (k : Bor (List ℕ)). k.now) c.args.text c.self.inside.texts.keys _ _ c.in_ok-insert_full.ensures.index c.self.view_is

pub returns-clause-is_new : goal.returns-clause-is_new
returns-clause-is_new c = texts-new (λ (k : Bor (List ℕ)). k.now) c.args.text c.self.inside.texts.keys _ _ c.in_ok-insert_full.ensures.added c.self.view_is
