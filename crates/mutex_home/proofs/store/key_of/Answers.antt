use Rattle.std.proofs.Common.{◌-◌, length, refl, sym}
use Rattle.std.proofs.lemmas.Option.{slice_get_read, slice_get_within}
use Rattle.mutex_home.proofs.StoreLemmas.{placed}
use Rattle.mutex_home.proofs.store.key_of.Goals as goal

pub returns : goal.returns
returns c =
    let p = placed c.args.store.now c.args.number c.requires.there in
    let within = slice_get_within c.args.store.now.keys.items (c.args.number.count - 1) p.key p.key_is in
    rw (sym c.place_of.ensures.place) (slice_get_read c.args.store.now.keys.items (length c.args.store.now.keys.items) c.place_of.result c.index.result.now refl (rw c.place_of.ensures.place within) c.index.ensures)
