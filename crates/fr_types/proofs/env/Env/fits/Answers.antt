use Rattle.fr_types.specs.Inside.{newest}
use Rattle.fr_types.specs.Types.{kind_of, piece_of}
use Rattle.fr_types.proofs.ShapedLemmas.{fits_seen}
use Rattle.fr_types.proofs.env.Env.fits.Goals as goal

pub returns : goal.returns
returns c = λ names. fits_seen names (newest c.self.inside.slots.items) c.args.self.now c.self.inside.shapes (piece_of c.args.part.now) (kind_of c.args.t.now) c.fits.result c.self.invariant.shaped c.self.view_is c.fits.ensures
