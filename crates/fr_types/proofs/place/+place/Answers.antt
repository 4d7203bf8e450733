use Rattle.std.proofs.Common.{◌<◌, ◌-◌, length, get_or, ap, ◌∙◌, arith}
use Rattle.fr_base.specs.declared.place.Lval.{Lval}
use Rattle.fr_typing.specs.Places.{piece_places, type_at, alike}
use Rattle.fr_types.specs.declared.types.Part.TheVariants.{Whole}
use Rattle.fr_types.specs.Types.{piece_of}
use Rattle.fr_types.specs.States.{env_of}
use Rattle.fr_typing.proofs.PlaceLemmas.{AreBelow-weaker}
use Rattle.fr_types.proofs.InsideLemmas.{inside_below, inside_seen, more_below, more_seen, resolved_seen, resolved_error}
use Rattle.fr_types.proofs.LookLemmas.{below_at, set_start, set_start_error, set_step, set_error, set_end, shared_seen, mut_seen}
use Rattle.fr_types.proofs.place.+place.Goals as goal

-- what stands for a place past the end
abbrev none : Lval
none = record { slot = 0; depth = 0 }

pub lval_type-stars-init : goal.lval_type-stars-init
lval_type-stars-init t c =
    let lt : c.resolve-at.result.slot < length c.args.env.now = omega (arith, c.resolve-at.ensures.slot, c.requires.here) in
    record {
      nested = c.resolve-at.ensures.nested;
      below = inside_below c.args.env.now c.resolve-at.result.slot (c.resolve-at.result.stars - c.in_ok-part.left) (piece_of c.in-Some.part.now) (piece_of c.in_ok-part.part) c.resolve-at.ensures.nested lt c.in-Some.ensures.part c.in_ok-part.ensures.part;
      same = λ names. inside_seen names c.args.env.now c.resolve-at.result.slot (c.resolve-at.result.stars - c.in_ok-part.left) (piece_of c.in-Some.part.now) (piece_of c.in_ok-part.part) c.resolve-at.ensures.nested lt c.in-Some.ensures.part c.in_ok-part.ensures.part;
    }

pub lval_type-stars-preserved : goal.lval_type-stars-preserved
lval_type-stars-preserved t c =
    let lt : c.resolve-at.result.slot < length c.args.env.now = omega (arith, c.resolve-at.ensures.slot, c.requires.here) in
    record {
      nested = c.stars.invariant.nested;
      below = more_below c.args.env.now c.resolve-at.result.slot (c.resolve-at.result.stars - c.in_ok-part.left) c.stars.counter (piece_of c.stars.part) (piece_of c.in-Ok.part) c.stars.invariant.nested lt c.stars.invariant.same c.in-Ok.ensures;
      same = λ names. more_seen names c.args.env.now c.resolve-at.result.slot (c.resolve-at.result.stars - c.in_ok-part.left) c.stars.counter (piece_of c.stars.part) (piece_of c.in-Ok.part) c.stars.invariant.nested lt (c.stars.invariant.same names) (c.in-Ok.ensures names);
    }

pub lval_type-returns-in-Err-clause-kind : goal.lval_type-returns-in-Err-clause-kind
lval_type-returns-in-Err-clause-kind t c = λ names.
    resolved_error names c.args.env.now c.args.w c.resolve-at.result c.in_ok-part.left c.stars.counter (piece_of c.stars.part) c.in-Err.e c.stars.invariant.nested c.requires.here c.resolve-at.ensures.base c.resolve-at.ensures.slot c.in_ok-part.ensures.left (omega arith) (c.stars.invariant.same names) (c.in-Err.ensures names)

pub lval_type-returns-clause-kind : goal.lval_type-returns-clause-kind
lval_type-returns-clause-kind t c = λ names.
    resolved_seen names c.args.env.now c.args.w c.resolve-at.result c.in_ok-part.left c.stars.counter (piece_of c.stars.part) c.stars.invariant.nested c.requires.here c.resolve-at.ensures.base c.in_ok-part.ensures.left (omega arith) (c.stars.invariant.same names)

pub lval_type-returns-clause-below : goal.lval_type-returns-clause-below
lval_type-returns-clause-below t c = AreBelow-weaker c.resolve-at.result.slot c.args.w.slot (piece_places (piece_of c.stars.part)) c.resolve-at.ensures.slot c.stars.invariant.below

pub join_set-returns-in-Err : goal.join_set-returns-in-Err
join_set-returns-in-Err t c = λ names. set_start_error (alike (env_of names c.args.env.now)) (type_at (env_of names c.args.env.now)) c.args.us.now none c.in-Err.e c.requires.some (c.in-Err.ensures.kind names)

pub join_set-places-init : goal.join_set-places-init
join_set-places-init t c = λ names. set_start (alike (env_of names c.args.env.now)) (type_at (env_of names c.args.env.now)) c.args.us.now none (piece_of c.in-Ok.part) c.requires.some (c.in-Ok.ensures.kind names)

pub join_set-join_with-requires : goal.join_set-join_with-requires
join_set-join_with-requires t c =
    let lt : (get_or c.args.us.now c.places.at none).slot < c.args.bound = below_at c.args.bound c.places.at c.args.us.now none c.requires.below c.places-test.true in
    (omega (arith, c.decreases), omega (arith, lt, c.requires.here))

pub join_set-returns-in-Err-join_with : goal.join_set-returns-in-Err-join_with
join_set-returns-in-Err-join_with t c = λ names. set_error (alike (env_of names c.args.env.now)) (type_at (env_of names c.args.env.now)) c.args.us.now c.places.at none (piece_of c.places.part) c.in-Err-join_with.e c.places-test.true (c.in-Err-join_with.ensures names) (c.places.invariant names)

pub join_set-places-preserved : goal.join_set-places-preserved
join_set-places-preserved t c = λ names. set_step (alike (env_of names c.args.env.now)) (type_at (env_of names c.args.env.now)) c.args.us.now c.places.at none (piece_of c.places.part) (piece_of c.in-Ok-join_with.part) c.places-test.true (c.in-Ok-join_with.ensures names) (c.places.invariant names)

pub join_set-returns : goal.join_set-returns
join_set-returns t c = λ names. set_end (alike (env_of names c.args.env.now)) (type_at (env_of names c.args.env.now)) c.args.us.now c.places.at (piece_of c.places.part) (omega arith) (c.places.invariant names)

pub star-returns-in-Whole-Shared : goal.star-returns-in-Whole-Shared
star-returns-in-Whole-Shared t c = λ names. shared_seen (alike (env_of names c.args.env.now)) (type_at (env_of names c.args.env.now)) c.args.part c.in-Whole-Shared.us c.as_slice.result.now c.join_set.result (c.in-Whole-Shared.is ∙ ap Whole c.in-Whole-Shared.field-0-is) c.as_slice.ensures.same (c.join_set.ensures names)

pub star-returns-in-Whole-Mut : goal.star-returns-in-Whole-Mut
star-returns-in-Whole-Mut t c = λ names. mut_seen (alike (env_of names c.args.env.now)) (type_at (env_of names c.args.env.now)) c.args.part c.in-Whole-Mut.us c.as_slice-in-Whole-Mut.result.now c.join_set-in-Whole-Mut.result (c.in-Whole-Mut.is ∙ ap Whole c.in-Whole-Mut.field-0-is) c.as_slice-in-Whole-Mut.ensures.same (c.join_set-in-Whole-Mut.ensures names)
