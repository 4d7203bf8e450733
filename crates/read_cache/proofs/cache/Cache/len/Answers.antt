use Rattle.std.proofs.Common.{◌≡◌, ◌+◌, length, arith}
use Rattle.read_cache.specs.Slots.{copies_in, rooms_in}
use Rattle.read_cache.proofs.SlotLemmas.{all_count}
use Rattle.read_cache.proofs.cache.Cache.len.Goals as goal

pub overflow_sub-result : goal.overflow_sub-result
overflow_sub-result c =
    let es = c.self.inside.slots.entries in
    let all : length (copies_in es) + length (rooms_in es) ≡ length es = all_count es in
    omega (arith, all, c.self.invariant.1, c.len.ensures.len)

pub returns : goal.returns
returns c =
    let es = c.self.inside.slots.entries in
    let all : length (copies_in es) + length (rooms_in es) ≡ length es = all_count es in
    rw (← c.self.view_is) (omega (arith, all, c.self.invariant.1, c.len.ensures.len))
