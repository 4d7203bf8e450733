use Rattle.std.proofs.Common.{sym, ap, ◌∙◌, subst}
use Rattle.fr_typing.specs.Places.{AreBelow, piece_places}
use Rattle.fr_types.specs.Types.{piece_of}
use Rattle.fr_types.specs.States.{slot_in}
use Rattle.fr_types.proofs.EnvLemmas.{slot_in-put_in}
use Rattle.fr_types.proofs.PutLemmas.{put_part-under, put_under_below}
use Rattle.fr_types.proofs.LookLemmas.{put_seen}
use Rattle.fr_types.proofs.env.Env.put.Goals as goal

pub set-requires-clause-below : goal.set-requires-clause-below
set-requires-clause-below c =
    subst (λ p. AreBelow c.args.w.slot (piece_places p)) (sym (c.in_ok-new.ensures ∙ put_part-under c.args.w.depth (piece_of c.args.part) (piece_of c.in-Some.old.now)))
    (put_under_below c.args.w.slot c.args.w.depth (piece_of c.args.part) (piece_of c.in-Some.old.now) c.requires.below c.in-Some.ensures.below)

pub returns-clause-put : goal.returns-clause-put
returns-clause-put c = λ names.
    put_seen names c.args.self.now c.set.new.self c.args.w (piece_of c.args.part) (piece_of c.in-Some.old.now) (piece_of c.in_ok-new.new) c.set.ensures
    (c.in_ok-new.ensures ∙ put_part-under c.args.w.depth (piece_of c.args.part) (piece_of c.in-Some.old.now)) c.in-Some.ensures.part

pub returns-clause-names : goal.returns-clause-names
returns-clause-names c = λ name.
    ap (λ l. slot_in l name) c.set.ensures ∙ slot_in-put_in c.args.self.now c.args.w.slot name (piece_of c.in_ok-new.new)
