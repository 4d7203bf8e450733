use Rattle.std.proofs.Common.{◌≡◌, ◌≢◌, ◌+◌, ◌-◌, [], List, length, drop, ap, sym, subst, Some, arith}
use Rattle.std.specs.List.{flat_map}
use Rattle.std.proofs.lemmas.List.{nil_from_length}
use Rattle.std.proofs.lemmas.Bool.{eqb-true, eqb-false}
use Rattle.journal.specs.OrderText.{spell, Leads}
use Rattle.journal.specs.OrderReading.{line_at}
use Rattle.journal.proofs.OrderLemmas.{Leads-push, stops_refused, place_is, rest_short, fewer}
use Rattle.journal.proofs.reading.read_order.Goals as goal

pub overflow_sub-place : goal.overflow_sub-place
overflow_sub-place c = rest_short c.args.from c.args.bytes.now c.lines.order.items c.lines.cursor.rest.now c.lines.invariant

pub returns-in_default-clause-err : goal.returns-in_default-clause-err
returns-in_default-clause-err c =
    let rest = c.lines.cursor.rest.now in
    let some : rest ≢ [] = λ none. eqb-false (length rest) 0 (sym c.lines-test.ensures) (ap length none) in
    stops_refused c.args.from (drop c.args.from c.args.bytes.now) c.lines.order.items rest (length c.args.bytes.now - length rest) c.lines.invariant
    (place_is c.args.from c.args.bytes.now c.lines.order.items rest (omega (arith, eqb-false (length rest) 0 (sym c.lines-test.ensures))) c.lines.invariant) some c.in_default.ensures

pub lines-smaller : goal.lines-smaller
lines-smaller c = fewer (length c.args.bytes.now - length c.lines.cursor.rest.now) c.lines.cursor.rest.now c.in-Some.line c.line.new.self.rest.now c.in-Some.ensures

pub lines-preserved : goal.lines-preserved
lines-preserved c =
    let bytes = drop c.args.from c.args.bytes.now in
    let rest = c.lines.cursor.rest.now in
    let at : length c.args.bytes.now - length rest ≡ c.args.from + length (flat_map spell c.lines.order.items) = place_is c.args.from c.args.bytes.now c.lines.order.items rest (omega (arith, eqb-false (length rest) 0 (sym c.lines-test.ensures))) c.lines.invariant in
    let read : line_at (c.args.from + length (flat_map spell c.lines.order.items)) rest ≡ Some (c.in-Some.line, c.line.new.self.rest.now) = subst (λ p. line_at p rest ≡ Some (c.in-Some.line, c.line.new.self.rest.now)) at c.in-Some.ensures in
    subst (λ (ls : List _). Leads c.args.from bytes ls c.line.new.self.rest.now) (sym c.in_ok-push.ensures.pushed) (Leads-push c.args.from bytes c.lines.order.items rest c.in-Some.line c.line.new.self.rest.now c.lines.invariant read)

pub returns-clause-ok : goal.returns-clause-ok
returns-clause-ok c =
    let none : c.lines.cursor.rest.now ≡ [] = nil_from_length c.lines.cursor.rest.now (eqb-true (length c.lines.cursor.rest.now) 0 (sym c.lines-test.ensures)) in
    subst (λ rest. Leads c.args.from (drop c.args.from c.args.bytes.now) c.lines.order.items rest) none c.lines.invariant
