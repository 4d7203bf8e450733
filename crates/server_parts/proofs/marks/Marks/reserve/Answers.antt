use Rattle.std.proofs.Common.{inl}
use Rattle.server_parts.proofs.SeenLemmas.{reserved_freed, freed_sets}
use Rattle.server_parts.proofs.marks.Marks.reserve.Goals as goal

pub invariant_of-self : goal.invariant_of-self
invariant_of-self c =
    freed_sets c.args.number c.self.invariant c.requires.few
    (reserved_freed _ c.forget.new.runnable c.reserve.new.self c.args.number c.reserve.result c.forget.ensures.runnable c.reserve.ensures.place c.reserve.ensures.refused)
    (inl c.forget.ensures.waiting)
    (inl c.forget.ensures.movable)
    c.forget.ensures.left

pub invariant_of-self-in_err-reserve-2 : goal.invariant_of-self-in_err-reserve-2
invariant_of-self-in_err-reserve-2 c =
    freed_sets c.args.number c.self.invariant c.requires.few
    (reserved_freed _ c.forget.new.runnable c.reserve.new.self c.args.number c.reserve.result c.forget.ensures.runnable c.reserve.ensures.place c.reserve.ensures.refused)
    (reserved_freed _ c.forget.new.waiting c.reserve-2.new.self c.args.number c.reserve-2.result c.forget.ensures.waiting c.reserve-2.ensures.place c.reserve-2.ensures.refused)
    (inl c.forget.ensures.movable)
    c.forget.ensures.left

pub invariant_of-self-2 : goal.invariant_of-self-2
invariant_of-self-2 c =
    freed_sets c.args.number c.self.invariant c.requires.few
    (reserved_freed _ c.forget.new.runnable c.reserve.new.self c.args.number c.reserve.result c.forget.ensures.runnable c.reserve.ensures.place c.reserve.ensures.refused)
    (reserved_freed _ c.forget.new.waiting c.reserve-2.new.self c.args.number c.reserve-2.result c.forget.ensures.waiting c.reserve-2.ensures.place c.reserve-2.ensures.refused)
    (reserved_freed _ c.forget.new.movable c.reserve-3.new.self c.args.number c.reserve-3.result c.forget.ensures.movable c.reserve-3.ensures.place c.reserve-3.ensures.refused)
    c.forget.ensures.left
