-- Which places are followed for writing: that of an assignment or a move through a star, and that of the holder of a mutable reference that ends.
use Rattle.std.specs.Prelude.{Option, Some}
use Rattle.law_results_reads.specs.Below.fr_base.declared.place.Lval.{Lval}
use Rattle.law_results_reads.specs.Below.server_model.Places.{Spot}
use Rattle.law_results_reads.specs.Below.server_model.Prepare.{Access, WriteTo, EndRef}

-- a place is written, with however many stars
pub data WritesPlace : Option Access → Type 0 where
  writes : {w : Lval} → WritesPlace (Some (WriteTo w))

-- a mutable reference ends
pub data EndsReference : Option Access → Type 0 where
  ends_there : {s : Spot} → EndsReference (Some (EndRef s))
