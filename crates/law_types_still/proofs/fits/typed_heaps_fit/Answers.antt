use Rattle.law_types_still.proofs.fits.typed_heaps_fit.Goals as goal
use Rattle.law_types_still.proofs.fits.Fits.{typed_heaps_fit}
use Rattle.law_types_still.proofs.fits.Outside.{misfits_follow}

pub returns : goal.returns
returns c = record { inside = typed_heaps_fit; whole = misfits_follow }
