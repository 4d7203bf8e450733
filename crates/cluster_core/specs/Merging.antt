-- Two lists of those who wait, each by rising thread (this project's own).
use Rattle.std.specs.Prelude.{ℕ, nat_lt, if◌then◌else◌, Bool, true, false, Option, Some, None}
use Rattle.fr_base.specs.declared.step.Wait.{Wait}

-- the first of two lists' heads by thread, the other's where both are the same; with whether it is the first list's
abbrev pub earlier : Option (ℕ × Wait) → Option (ℕ × Wait) → Option (Bool × ℕ × Wait)
earlier None None = None
earlier (Some x) None = Some (true, x.0, x.1)
earlier None (Some y) = Some (false, y.0, y.1)
earlier (Some x) (Some y) = if nat_lt x.0 y.0 then Some (true, x.0, x.1) else Some (false, y.0, y.1)
