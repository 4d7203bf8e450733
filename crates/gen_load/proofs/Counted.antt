-- Programs that count have a type.
use Rattle.std.proofs.Common.{◌≡◌, ℕ, [], ◌∷◌, codes, Some, None, refl}
use Rattle.fr_terms.specs.Terms.{Text}
use Rattle.fr_typing.specs.Kinds.{Kind, Piece, own, unit, int, mutex, task, shared, whole, gone}
use Rattle.fr_typing.specs.Places.{Env, Slot, found, slot_of}
use Rattle.fr_typing.specs.Captures.{captures_none, captures_next, captures_move}
use Rattle.fr_typing.specs.Typing.{Types, types_number, types_copy, types_move, types_print, types_let, types_assign, types_block, types_mutex, types_arith, types_join, types_dup, types_lock, types_spawn, types_none, types_item}
use Rattle.gen_load.specs.Programs.{add_locked, block, counting, place, times}
use Rattle.gen_load.proofs.Steps.{has, items_times, shows}

abbrev slot : Text → Piece → Slot
slot x p = record { name = Some x; part = p }

abbrev counts : Kind
counts = own (mutex int)

-- a thread that has a share
abbrev with_share : Text → Env
with_share share = slot share (whole counts) ∷ []

-- adding under the lock of the share
added : (share : Text) (d : ℕ) → slot_of (with_share share) share ≡ Some 0 → slot_of (with_share share) (codes "c") ≡ None → Types (with_share share) (add_locked share d) (own unit) (with_share share)
added share d named free =
    let locked : Env = slot (codes "c") (whole (own int)) ∷ record { name = None; part = whole (shared (record { slot = 0; depth = 0 } ∷ [])) } ∷ with_share share in
    types_lock (shows (with_share share) (place 0 share) 0 counts named refl refl) free
    (types_block {e = locked}
    (types_item
    (types_assign {e1 = locked} {w = place 0 (codes "c")} {s = 2} {p = whole (own int)}
    (types_arith (types_copy {s = 2} (has locked (place 0 (codes "c")) 2 (found (whole (own int))) refl refl) refl refl) refl types_number refl)
    (has locked (place 0 (codes "c")) 2 (found (whole (own int))) refl refl)
    (record { free = refl; path = refl }) refl refl refl)
    types_none)
    refl)
    refl refl

counter_typed : (share : Text) (k d : ℕ) → slot_of (with_share share) share ≡ Some 0 → slot_of (with_share share) (codes "c") ≡ None
    → Types (with_share share) (block (times k (add_locked share d ∷ []))) (own unit) (with_share share)
counter_typed share k d named free = types_block {e = with_share share} (items_times k (add_locked share d ∷ []) (types_item (added share d named free) types_none)) refl

abbrev shares : Piece → Piece → Env
shares a b = slot (codes "b") b ∷ slot (codes "a") a ∷ slot (codes "m") (whole counts) ∷ []

abbrev left : Piece
left = gone counts

abbrev threads : Piece → Piece → Env
threads h g = slot (codes "g") g ∷ slot (codes "h") h ∷ shares left left

abbrev running : Kind
running = own (task unit)

pub counting_typed : (k d : ℕ) → Types [] (block (counting k d)) (own unit) []
counting_typed k d =
    let one : Env = slot (codes "m") (whole counts) ∷ [] in
    let two : Env = slot (codes "a") (whole counts) ∷ one in
    let three : Env = shares (whole counts) (whole counts) in
    let four : Env = slot (codes "h") (whole running) ∷ shares left (whole counts) in
    let ended : Env = threads (gone running) (gone running) in
    let held : Env = slot (codes "c") (whole (own int)) ∷ record { name = None; part = whole (shared (record { slot = 0; depth = 0 } ∷ [])) } ∷ ended in
    types_block {e = []} {e1 = ended}
    (types_item (types_let (types_mutex types_number refl) refl)
    (types_item (types_let (types_dup (shows one (place 0 (codes "m")) 0 counts refl refl refl)) refl)
    (types_item (types_let (types_dup (shows two (place 0 (codes "m")) 0 counts refl refl refl)) refl)
    (types_item (types_let (types_spawn {e = three} {e1 = shares left (whole counts)}
    (captures_next (captures_move {s = 1} {k = counts} {l = counts} (record { is = has three (place 0 (codes "a")) 1 (found (whole counts)) refl refl; becomes = refl }) refl refl refl) captures_none)
    (counter_typed (codes "a") k d refl refl) refl) refl)
    (types_item (types_let (types_spawn {e = four} {e1 = slot (codes "h") (whole running) ∷ shares left left}
    (captures_next (captures_move {s = 2} {k = counts} {l = counts} (record { is = has four (place 0 (codes "b")) 2 (found (whole counts)) refl refl; becomes = refl }) refl refl refl) captures_none)
    (counter_typed (codes "b") k d refl refl) refl) refl)
    (types_item (types_join (types_move {e = threads (whole running) (whole running)} {s = 3} {k = running} (has (threads (whole running) (whole running)) (place 0 (codes "h")) 3 (found (whole running)) refl refl) refl refl refl))
    (types_item (types_join (types_move {e = threads (gone running) (whole running)} {s = 4} {k = running} (has (threads (gone running) (whole running)) (place 0 (codes "g")) 4 (found (whole running)) refl refl) refl refl refl))
    (types_item (types_lock (shows ended (place 0 (codes "m")) 0 counts refl refl refl) refl
    (types_block {e = held} (types_item (types_print (types_copy {s = 6} (has held (place 0 (codes "c")) 6 (found (whole (own int))) refl refl) refl refl) refl) types_none) refl)
    refl refl)
    types_none))))))))
    refl
