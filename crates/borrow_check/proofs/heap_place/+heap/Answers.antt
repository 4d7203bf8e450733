use Rattle.std.proofs.Common.{◌≡◌, ◌<◌, ◌+◌, ◌∙◌, length, refl, sym, ap, arith, subst, drop, Bool}
use Rattle.std.specs.Prelude.{◌&&◌, IfOk}
use Rattle.std.specs.List.{list_all}
use Rattle.fr_typing.specs.Kinds.{map_some}
use Rattle.fr_typing.specs.Places.{is_heap_place, found, undefined, no_target}
use Rattle.fr_types.specs.declared.error.TypeError.TheVariants.{NotDefined, NoTarget}
use Rattle.fr_types.specs.Types.{piece_of}
use Rattle.fr_types.specs.States.{env_of}
use Rattle.fr_types.specs.Bases.{starred}
use Rattle.fr_types.proofs.LookLemmas.{below_at}
use Rattle.borrow_check.proofs.ScopeLemmas.{error_as}
use Rattle.borrow_check.proofs.HeapLemmas.{heap_none, heap_star, lower, heap_on, whole_leads, shared_leads, mut_leads, all_next, all_end}
use Rattle.borrow_check.proofs.heap_place.+heap.Goals as goal

pub are_heap_places-is_heap_place-requires : goal.are_heap_places-is_heap_place-requires
are_heap_places-is_heap_place-requires t c =
    let lt = below_at c.args.bound c.places.next c.args.us.now (record { slot = 0; depth = 0 }) c.requires.below (omega arith) in
    (omega (arith, c.decreases, lt), omega (arith, lt, c.requires.here))

pub are_heap_places-returns-then-not-branch : goal.are_heap_places-returns-then-not-branch
are_heap_places-returns-then-not-branch t c = λ names.
    sym (all_next (is_heap_place (env_of names c.args.env.now)) c.args.us.now c.places.next (record { slot = 0; depth = 0 }) c.in_ok-is_heap_place.field-0 (omega arith) (c.in_ok-is_heap_place.ensures names) (c.places.invariant names)
    ∙ ap (λ b. b && list_all (is_heap_place (env_of names c.args.env.now)) (drop (c.places.next + 1) c.args.us.now)) c.if-not-branch.true)

pub are_heap_places-places-preserved : goal.are_heap_places-places-preserved
are_heap_places-places-preserved t c = λ names.
    sym (all_next (is_heap_place (env_of names c.args.env.now)) c.args.us.now c.places.next (record { slot = 0; depth = 0 }) c.in_ok-is_heap_place.field-0 (omega arith) (c.in_ok-is_heap_place.ensures names) (c.places.invariant names)
    ∙ ap (λ b. b && list_all (is_heap_place (env_of names c.args.env.now)) (drop (c.places.next + 1) c.args.us.now)) c.if-not-branch.false)

pub are_heap_places-returns : goal.are_heap_places-returns
are_heap_places-returns t c = λ names. all_end (is_heap_place (env_of names c.args.env.now)) c.args.us.now c.places.next (omega arith) (c.places.invariant names)

pub is_heap_place-references-init : goal.is_heap_place-references-init
is_heap_place-references-init t c = record { low = omega arith; same = λ names. refl }

pub is_heap_place-lval_type-requires : goal.is_heap_place-lval_type-requires
is_heap_place-lval_type-requires t c = omega (arith, c.references.invariant.low, c.requires.here)

pub is_heap_place-leads_to_heap-requires : goal.is_heap_place-leads_to_heap-requires
is_heap_place-leads_to_heap-requires t c =
    (omega (arith, c.decreases, c.references.invariant.low), (omega (arith, c.references.invariant.low, c.requires.here), c.in-Ok.ensures.below))

pub is_heap_place-references-preserved : goal.is_heap_place-references-preserved
is_heap_place-references-preserved t c =
    let to = sym c.only_place.ensures ∙ ap (map_some starred) c.in-Some.is in
    let lt : c.references.at.slot < length c.args.env.now = omega (arith, c.references.invariant.low, c.requires.here) in
    let below = lower c.references.at.slot (piece_of c.in-Ok.part) c.in-Some.u c.in-Ok.ensures.below to in
    record {
      low = omega (arith, below, c.references.invariant.low);
      same = λ names.
          sym (heap_on names c.args.env.now c.references.at c.in-Some.u (piece_of c.in-Ok.part) c.in-Ok.ensures.nested lt (omega (arith, c.references-test.true)) (c.in-Ok.ensures.kind names) to)
          ∙ c.references.invariant.same names;
    }

pub is_heap_place-references-smaller : goal.is_heap_place-references-smaller
is_heap_place-references-smaller t c =
    let to = sym c.only_place.ensures ∙ ap (map_some starred) c.in-Some.is in
    lower c.references.at.slot (piece_of c.in-Ok.part) c.in-Some.u c.in-Ok.ensures.below to

pub is_heap_place-returns-in-None : goal.is_heap_place-returns-in-None
is_heap_place-returns-in-None t c = λ names.
    let lt : c.references.at.slot < length c.args.env.now = omega (arith, c.references.invariant.low, c.requires.here) in
    subst (λ (y : Bool). IfOk c.leads_to_heap.result (λ (b : Bool). b ≡ y))
    (sym (heap_star names c.args.env.now c.references.at (found (piece_of c.in-Ok.part)) c.in-Ok.ensures.nested lt (omega (arith, c.references-test.true)) (c.in-Ok.ensures.kind names)) ∙ c.references.invariant.same names)
    (c.leads_to_heap.ensures names)

pub is_heap_place-returns-in-Err-NotDefined : goal.is_heap_place-returns-in-Err-NotDefined
is_heap_place-returns-in-Err-NotDefined t c = λ names.
    let lt : c.references.at.slot < length c.args.env.now = omega (arith, c.references.invariant.low, c.requires.here) in
    sym (heap_star names c.args.env.now c.references.at undefined c.in-Err-NotDefined.ensures.nested lt (omega (arith, c.references-test.true)) (error_as c.in-Err-NotDefined.field-0 NotDefined _ c.in-Err-NotDefined.field-0-is (c.in-Err-NotDefined.ensures.kind names)))
    ∙ c.references.invariant.same names

pub is_heap_place-returns-in-Err-NoTarget : goal.is_heap_place-returns-in-Err-NoTarget
is_heap_place-returns-in-Err-NoTarget t c = λ names.
    let lt : c.references.at.slot < length c.args.env.now = omega (arith, c.references.invariant.low, c.requires.here) in
    sym (heap_star names c.args.env.now c.references.at no_target c.in-Err-NoTarget.ensures.nested lt (omega (arith, c.references-test.true)) (error_as c.in-Err-NoTarget.field-0 NoTarget _ c.in-Err-NoTarget.field-0-is (c.in-Err-NoTarget.ensures.kind names)))
    ∙ c.references.invariant.same names

pub is_heap_place-returns : goal.is_heap_place-returns
is_heap_place-returns t c = λ names. sym (heap_none (env_of names c.args.env.now) c.references.at (omega (arith, c.references-test.false))) ∙ c.references.invariant.same names

pub refers_to_heap-returns-in-Shared : goal.refers_to_heap-returns-in-Shared
refers_to_heap-returns-in-Shared t c = λ names. shared_leads (is_heap_place (env_of names c.args.env.now)) c.args.t.now c.in-Shared.us c.as_slice.result.now c.are_heap_places.result c.in-Shared.is c.as_slice.ensures.same (c.are_heap_places.ensures names)

pub refers_to_heap-returns-in-Mut : goal.refers_to_heap-returns-in-Mut
refers_to_heap-returns-in-Mut t c = λ names. mut_leads (is_heap_place (env_of names c.args.env.now)) c.args.t.now c.in-Mut.us c.as_slice-in-Mut.result.now c.are_heap_places-in-Mut.result c.in-Mut.is c.as_slice-in-Mut.ensures.same (c.are_heap_places-in-Mut.ensures names)

pub leads_to_heap-returns-in-Whole : goal.leads_to_heap-returns-in-Whole
leads_to_heap-returns-in-Whole t c = λ names. whole_leads (is_heap_place (env_of names c.args.env.now)) c.args.part.now c.in-Whole.t c.refers_to_heap.result c.in-Whole.is (c.refers_to_heap.ensures names)
