use Rattle.std.proofs.Common.{◌∙◌, sym, arith}
use Rattle.fr_types.specs.Types.{piece_of}
use Rattle.fr_types.specs.Paths.{test_of}
use Rattle.fr_types.proofs.PathLemmas.{met_slot, one_star_path}
use Rattle.fr_types.proofs.path.on_path.Goals as goal

pub returns-then-meets : goal.returns-then-meets
returns-then-meets c = λ names.
    met_slot (test_of c.args.test) names c.args.env.now c.args.w.slot c.args.w.depth (piece_of c.in-Some.part.now) c.requires.here (omega arith) c.in-Some.ensures.part (sym c.if-meets.true ∙ c.meets.ensures)

pub returns-then-w-eq1 : goal.returns-then-w-eq1
returns-then-w-eq1 c = λ names.
    one_star_path (test_of c.args.test) names c.args.env.now c.args.w.slot c.args.w.depth (piece_of c.in-Some.part.now) c.requires.here c.if-w-eq1.true c.in-Some.ensures.part (sym c.if-meets.false ∙ c.meets.ensures)
