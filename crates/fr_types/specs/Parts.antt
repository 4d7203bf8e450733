-- A part with what stands under so many stars replaced, as the code goes down it.
use Rattle.std.specs.Prelude.{ℕ, ◌-◌, ◌==◌, if◌then◌else◌}
use Rattle.fr_typing.specs.Kinds.{Owned, unit, int, box, mutex, task, Kind, own, Piece, whole, gone, boxed, box_of}

abbrev pub put_owned : ℕ → Piece → Owned → Piece
put_owned n new unit = if n == 0 then new else whole (own unit)
put_owned n new int = if n == 0 then new else whole (own int)
put_owned n new (box o) = if n == 0 then new else box_of (put_owned (n - 1) new o)
put_owned n new (mutex o) = if n == 0 then new else whole (own (mutex o))
put_owned n new (task o) = if n == 0 then new else whole (own (task o))

abbrev pub put_kind : ℕ → Piece → Kind → Piece
put_kind n new (own o) = put_owned n new o
put_kind n new k = if n == 0 then new else whole k

abbrev pub put_part : ℕ → Piece → Piece → Piece
put_part n new (whole k) = put_kind n new k
put_part n new (gone k) = if n == 0 then new else gone k
put_part n new (boxed p) = if n == 0 then new else box_of (put_part (n - 1) new p)
