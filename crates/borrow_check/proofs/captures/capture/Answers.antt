use Rattle.std.proofs.Common.{length}
use Rattle.std.proofs.lemmas.Result.{err_from_is_err_and}
use Rattle.fr_typing.specs.Kinds.{whole}
use Rattle.fr_types.specs.Types.{kind_of, piece_of}
use Rattle.fr_types.specs.States.{env_of}
use Rattle.borrow_check.specs.declared.usage.Usage.{Usage}
use Rattle.borrow_check.specs.Capturing.{captured_of, capturer_of}
use Rattle.borrow_check.proofs.CaptureLemmas.{IsVariable, IsWhole, part_capture, variable_by, kept_capture, blocked_capture, twice_capture, goes_capture, usage_captured, none_below}
use Rattle.borrow_check.proofs.captures.capture.Goals as goal

pub returns-in_err-t-clause-goes_on : goal.returns-in_err-t-clause-goes_on
returns-in_err-t-clause-goes_on c = λ names scope new_scope lt.
    let e = env_of names c.args.env.now in
    let found = c.in_ok-x.ensures.finds names scope lt in
    let p = err_from_is_err_and c.from_residual-in_err-t.result c.from_residual-in_err-t.ensures.1 in
    rw (p.1, p.2)
    (part_capture (capturer_of c.args.by) Usage e (env_of names c.args.new.now) (captured_of names c.args.captured) c.in_ok-x.x (piece_of c.in_ok-x.part) c.in_err-t.field-0.0 e (env_of names c.args.new.now)
    (record { at = found.0; has = found.1 }) c.in_err-t.ensures)

pub returns-in_err-sent-clause-goes_on : goal.returns-in_err-sent-clause-goes_on
returns-in_err-sent-clause-goes_on c = λ names scope new_scope lt.
    let e = env_of names c.args.env.now in
    let found = c.in_ok-x.ensures.finds names scope lt in
    let here : IsVariable e (captured_of names c.args.captured) c.in_ok-x.x (whole (kind_of c.in_ok-t.t)) = variable_by e (captured_of names c.args.captured) c.in_ok-x.x (piece_of c.in_ok-x.part) c.in_ok-t.t (record { at = found.0; has = found.1 }) c.in_ok-t.ensures in
    let p = err_from_is_err_and c.from_residual-in_err-sent.result c.from_residual-in_err-sent.ensures.1 in
    rw (p.1, p.2)
    (kept_capture (capturer_of c.args.by) Usage e (env_of names c.args.new.now) (captured_of names c.args.captured) c.in_ok-x.x (kind_of c.in_ok-t.t) c.in_err-sent.field-0.0 e (env_of names c.args.new.now)
    here (c.in_err-sent.ensures.sent names here.has.is))

pub returns-in_err-hand_on-clause-goes_on : goal.returns-in_err-hand_on-clause-goes_on
returns-in_err-hand_on-clause-goes_on c = λ names scope new_scope lt.
    let e = env_of names c.args.env.now in
    let found = c.in_ok-x.ensures.finds names scope lt in
    let here : IsVariable e (captured_of names c.args.captured) c.in_ok-x.x (whole (kind_of c.in_ok-t.t)) = variable_by e (captured_of names c.args.captured) c.in_ok-x.x (piece_of c.in_ok-x.part) c.in_ok-t.t (record { at = found.0; has = found.1 }) c.in_ok-t.ensures in
    let whole : IsWhole (capturer_of c.args.by) e (captured_of names c.args.captured) c.in_ok-x.x (kind_of c.in_ok-t.t) (kind_of c.in_ok-sent.sent) = record { variable = here; becomes = c.in_ok-sent.ensures.sent names here.has.is } in
    let p = err_from_is_err_and c.from_residual-in_err-hand_on.result c.from_residual-in_err-hand_on.ensures.1 in
    rw (p.1, p.2)
    (blocked_capture (capturer_of c.args.by) Usage (Unit {0}) e (env_of names c.args.new.now) (captured_of names c.args.captured) c.in_ok-x.x (kind_of c.in_ok-t.t) (kind_of c.in_ok-sent.sent) c.in_err-hand_on.field-0.0 (env_of names c.hand_on.new.env) (env_of names c.hand_on.new.env) (env_of names c.args.new.now)
    whole (c.in_err-hand_on.ensures.passes names))

pub bind-requires-clause-below : goal.bind-requires-clause-below
bind-requires-clause-below c = none_below (length c.args.new.now) (kind_of c.in_ok-sent.sent) c.in_ok-sent.ensures.places

pub returns-in_err-bind-clause-goes_on : goal.returns-in_err-bind-clause-goes_on
returns-in_err-bind-clause-goes_on c = λ names scope new_scope lt.
    let e = env_of names c.args.env.now in
    let found = c.in_ok-x.ensures.finds names scope lt in
    let here : IsVariable e (captured_of names c.args.captured) c.in_ok-x.x (whole (kind_of c.in_ok-t.t)) = variable_by e (captured_of names c.args.captured) c.in_ok-x.x (piece_of c.in_ok-x.part) c.in_ok-t.t (record { at = found.0; has = found.1 }) c.in_ok-t.ensures in
    let whole : IsWhole (capturer_of c.args.by) e (captured_of names c.args.captured) c.in_ok-x.x (kind_of c.in_ok-t.t) (kind_of c.in_ok-sent.sent) = record { variable = here; becomes = c.in_ok-sent.ensures.sent names here.has.is } in
    let p = err_from_is_err_and c.from_residual-in_err-bind.result c.from_residual-in_err-bind.ensures.1 in
    rw (p.1, p.2)
    (twice_capture (capturer_of c.args.by) Usage e (env_of names c.args.new.now) (captured_of names c.args.captured) c.in_ok-x.x (kind_of c.in_ok-t.t) (kind_of c.in_ok-sent.sent) c.in_err-bind.field-0.0 (env_of names c.hand_on.new.env) (env_of names c.bind.new.env) (env_of names c.hand_on.new.env) (env_of names c.bind.new.env)
    whole (c.in_ok-hand_on.ensures.passes names) (c.in_err-bind.ensures.gives names new_scope lt))

pub returns-clause-goes_on : goal.returns-clause-goes_on
returns-clause-goes_on c = λ names scope new_scope lt.
    let e = env_of names c.args.env.now in
    let found = c.in_ok-x.ensures.finds names scope lt in
    let here : IsVariable e (captured_of names c.args.captured) c.in_ok-x.x (whole (kind_of c.in_ok-t.t)) = variable_by e (captured_of names c.args.captured) c.in_ok-x.x (piece_of c.in_ok-x.part) c.in_ok-t.t (record { at = found.0; has = found.1 }) c.in_ok-t.ensures in
    let whole : IsWhole (capturer_of c.args.by) e (captured_of names c.args.captured) c.in_ok-x.x (kind_of c.in_ok-t.t) (kind_of c.in_ok-sent.sent) = record { variable = here; becomes = c.in_ok-sent.ensures.sent names here.has.is } in
    goes_capture (capturer_of c.args.by) e (env_of names c.args.new.now) (captured_of names c.args.captured) c.in_ok-x.x (kind_of c.in_ok-t.t) (kind_of c.in_ok-sent.sent) (env_of names c.hand_on.new.env) (env_of names c.bind.new.env) c.in_ok-bind.field-0
    whole (c.in_ok-hand_on.ensures.passes names) (c.in_ok-bind.ensures.gives names new_scope lt)

pub returns-clause-usage : goal.returns-clause-usage
returns-clause-usage c = λ names scope lt.
    let e = env_of names c.args.env.now in
    let found = c.in_ok-x.ensures.finds names scope lt in
    let here : IsVariable e (captured_of names c.args.captured) c.in_ok-x.x (whole (kind_of c.in_ok-t.t)) = variable_by e (captured_of names c.args.captured) c.in_ok-x.x (piece_of c.in_ok-x.part) c.in_ok-t.t (record { at = found.0; has = found.1 }) c.in_ok-t.ensures in
    usage_captured e (captured_of names c.args.captured) c.in_ok-x.x (kind_of c.in_ok-t.t) c.copies.result here c.copies.ensures
