-- What became of a place, as the definitions have it.
use Rattle.std.specs.Prelude.{Bool, true, false}
use Rattle.server_model.specs.Work.{Hand}
use Rattle.server_model.specs.Prepare.{Prepared, ready, requested, nothing}
use Rattle.server_parts.specs.Spots.{spot}
use Rattle.server_ready.specs.declared.prepared.Prepared.{Prepared as Made}
use Rattle.server_ready.specs.declared.prepared.Prepared.TheVariants as made

-- ready there with what the event has done, or one request was sent
abbrev pub prepared : Made → Hand → Prepared
prepared (made.Ready s) h = ready h (spot s)
prepared made.Requested h = requested h

-- there is something to follow
abbrev pub is_prepared : Prepared → Bool
is_prepared nothing = false
is_prepared p = true
