-- Programs that share have a type.
use Rattle.std.proofs.Common.{ℕ, [], ◌∷◌, codes, Some, refl}
use Rattle.fr_terms.specs.Terms.{Text}
use Rattle.fr_typing.specs.Kinds.{Kind, Piece, own, unit, int, box, shared, view, whole}
use Rattle.fr_typing.specs.Places.{Env, Slot, found}
use Rattle.fr_typing.specs.Captures.{CapturesAll, by_par, captures_none, captures_next, captures_copy}
use Rattle.fr_typing.specs.Typing.{Types, types_number, types_copy, types_print, types_let, types_assign, types_block, types_borrow, types_box, types_arith, types_par, TypesItems, types_none, types_item}
use Rattle.gen_load.specs.Programs.{block, items, name, place, print_end, printing, shared_round, sharing, times}
use Rattle.gen_load.proofs.Steps.{has, items_then, items_times, shows}

abbrev slot : Text → Piece → Slot
slot x p = record { name = Some x; part = p }

abbrev boxed_int : Env
boxed_int = slot (codes "x") (whole (own (box int))) ∷ []

-- to the number in the box
abbrev lent : Kind
lent = shared (record { slot = 0; depth = 1 } ∷ [])

abbrev lending : Env
lending = slot (codes "r") (whole lent) ∷ boxed_int

-- a branch, which has a view of the number
abbrev viewing : Env
viewing = slot (codes "r") (whole (view int)) ∷ []

print_typed : Types viewing printing (own unit) viewing
print_typed = types_block {e = viewing} (types_item (types_print (types_copy {s = 0} (has viewing (place 1 (codes "r")) 0 (found (whole (own int))) refl refl) refl refl) refl) types_none) refl

captured : CapturesAll by_par lending [] (name (codes "r")) lending viewing
captured = captures_next (captures_copy {s = 1} {k = lent} {l = view int} (record { is = has lending (place 0 (codes "r")) 1 (found (whole lent)) refl refl; becomes = refl }) refl refl refl) captures_none

round_typed : (d : ℕ) → TypesItems boxed_int (items (shared_round d)) (own unit) 0 (own unit) 0 boxed_int
round_typed d =
    types_item
    (types_block {e = boxed_int} {e1 = lending}
    (types_item (types_let (types_borrow (shows boxed_int (place 1 (codes "x")) 0 (own int) refl refl refl)) refl)
    (types_item (types_par (record { between = lending; first = captured; second = captured }) print_typed print_typed refl refl) types_none))
    refl)
    (types_item
    (types_assign {e1 = boxed_int} {w = place 1 (codes "x")} {s = 0} {p = whole (own int)}
    (types_arith (types_copy {s = 0} (has boxed_int (place 1 (codes "x")) 0 (found (whole (own int))) refl refl) refl refl) refl types_number refl)
    (has boxed_int (place 1 (codes "x")) 0 (found (whole (own int))) refl refl)
    (record { free = refl; path = refl }) refl refl refl)
    types_none)

pub sharing_typed : (k d : ℕ) → Types [] (block (sharing k d)) (own unit) []
sharing_typed k d =
    types_block {e = []} {e1 = boxed_int}
    (types_item (types_let (types_box types_number refl) refl)
    (items_then (times k (shared_round d)) (print_end 1 ∷ []) (items_times k (shared_round d) (round_typed d))
    (types_item (types_print (types_copy {s = 0} (has boxed_int (place 1 (codes "x")) 0 (found (whole (own int))) refl refl) refl refl) refl) types_none)))
    refl
