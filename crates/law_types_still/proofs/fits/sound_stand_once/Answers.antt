use Rattle.law_types_still.proofs.fits.sound_stand_once.Goals as goal
use Rattle.law_types_still.proofs.fits.Once.{sound_stand_once}

pub returns : goal.returns
returns c = sound_stand_once
