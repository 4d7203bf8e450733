use Rattle.std.proofs.Common.{◌≡◌, true, sym, subst}
use Rattle.server_parts.specs.Sites.{has_copy_room}
use Rattle.server_parts.proofs.RoomLemmas.{copies_stay}
use Rattle.server_parts.proofs.work.Work.reserve_copy.Goals as goal

pub returns-clause-places : goal.returns-clause-places
returns-clause-places c w h =
    copies_stay c.reserve.result c.self.inside.cache c.reserve.new.self c.args.word c.reserve.ensures.state c.reserve.ensures.rooms c.reserve.ensures.refused w
    (subst (λ x. has_copy_room x w ≡ true) (sym c.self.view_is) h)
