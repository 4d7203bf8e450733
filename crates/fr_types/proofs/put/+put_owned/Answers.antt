use Rattle.fr_types.specs.Types.{piece_of}
use Rattle.fr_types.specs.OwnedTypes.{owned_of}
use Rattle.std.proofs.Common.{sym}
use Rattle.fr_types.proofs.PutLemmas.{put_owned_zero}
use Rattle.fr_types.proofs.put.+put_owned.Goals as goal

pub returns-then-stars-eq0 : goal.returns-then-stars-eq0
returns-then-stars-eq0 t c = sym (put_owned_zero c.args.stars (piece_of c.args.new) (owned_of c.args.o.now) c.if-stars-eq0.true)
