use Rattle.std.proofs.Common.{◌∙◌, Err, refl, sym, ap, subst, arith}
use Rattle.fr_typing.specs.Places.{undefined, no_target, found, star, type_at, alike}
use Rattle.fr_types.specs.Types.{piece_of}
use Rattle.fr_types.specs.Paths.{test_of}
use Rattle.fr_types.specs.States.{env_of}
use Rattle.fr_types.specs.Answers.{IsFound}
use Rattle.fr_types.proofs.LookLemmas.{start_seen}
use Rattle.fr_types.proofs.PathLemmas.{test_undefined, test_no_target, next_seen, none_after, met_after, not_met, same_after, below_after}
use Rattle.fr_types.proofs.path.met_below.Goals as goal

pub stars-init : goal.stars-init
stars-init c = record {
  below = below_after c.args.env.now c.args.w.slot 0 (piece_of c.args.part) c.requires.nested (λ names. start_seen names c.args.env.now c.args.w.slot (piece_of c.args.part) (piece_of c.args.part) c.requires.here c.requires.part refl);
  same = λ names. start_seen names c.args.env.now c.args.w.slot (piece_of c.args.part) (piece_of c.args.part) c.requires.here c.requires.part refl;
  none = λ names. ap (test_of c.args.test) (start_seen names c.args.env.now c.args.w.slot (piece_of c.args.part) (piece_of c.args.part) c.requires.here c.requires.part refl) ∙ c.requires.other;
}

pub returns-in-Err-NotDefined : goal.returns-in-Err-NotDefined
returns-in-Err-NotDefined c = λ names.
    none_after (test_of c.args.test) names c.args.env.now c.args.w.slot c.stars.counter c.args.w.depth (piece_of c.stars.part) undefined tt (test_undefined c.args.test) c.requires.nested c.requires.here (omega arith) (omega arith) (c.stars.invariant.same names) (subst (λ r. IsFound (Err r) (star (alike (env_of names c.args.env.now)) (type_at (env_of names c.args.env.now)) (piece_of c.stars.part))) c.in-Err-NotDefined.field-0-is (c.in-Err-NotDefined.ensures names)) (c.stars.invariant.none names)

pub returns-in-Err-NoTarget : goal.returns-in-Err-NoTarget
returns-in-Err-NoTarget c = λ names.
    none_after (test_of c.args.test) names c.args.env.now c.args.w.slot c.stars.counter c.args.w.depth (piece_of c.stars.part) no_target tt (test_no_target c.args.test) c.requires.nested c.requires.here (omega arith) (omega arith) (c.stars.invariant.same names) (subst (λ r. IsFound (Err r) (star (alike (env_of names c.args.env.now)) (type_at (env_of names c.args.env.now)) (piece_of c.stars.part))) c.in-Err-NoTarget.field-0-is (c.in-Err-NoTarget.ensures names)) (c.stars.invariant.none names)

pub returns-then-meets : goal.returns-then-meets
returns-then-meets c = λ names.
    met_after (test_of c.args.test) names c.args.env.now c.args.w.slot c.stars.counter c.args.w.depth (piece_of c.stars.part) (piece_of c.in-Ok.part) c.requires.nested c.requires.here (omega arith) (omega arith) (c.stars.invariant.same names) (c.in-Ok.ensures names) (sym c.if-meets.true ∙ c.meets.ensures)

pub stars-preserved : goal.stars-preserved
stars-preserved c = record {
  below = below_after c.args.env.now c.args.w.slot c.stars.counter (piece_of c.in-Ok.part) c.requires.nested (λ names. next_seen names c.args.env.now c.args.w.slot c.stars.counter (piece_of c.stars.part) (found (piece_of c.in-Ok.part)) c.requires.nested c.requires.here (omega arith) (c.stars.invariant.same names) (c.in-Ok.ensures names));
  same = λ names. same_after names c.args.env.now c.args.w.slot c.stars.counter (found (piece_of c.in-Ok.part)) (next_seen names c.args.env.now c.args.w.slot c.stars.counter (piece_of c.stars.part) (found (piece_of c.in-Ok.part)) c.requires.nested c.requires.here (omega arith) (c.stars.invariant.same names) (c.in-Ok.ensures names));
  none = λ names. not_met (test_of c.args.test) names c.args.env.now c.args.w.slot c.stars.counter (piece_of c.stars.part) (piece_of c.in-Ok.part) c.requires.nested c.requires.here (omega arith) (c.stars.invariant.same names) (c.in-Ok.ensures names) (sym c.if-meets.false ∙ c.meets.ensures) (c.stars.invariant.none names);
}
