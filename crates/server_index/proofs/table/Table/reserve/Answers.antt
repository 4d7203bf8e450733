use Rattle.std.proofs.Common.{◌∷◌, [], ◌++◌, is_some, true≢false, length, None, sym, ap, ◌∙◌}
use Rattle.rank_map.specs.Places.{has_place, with_free}
use Rattle.server_index.proofs.TableLemmas.{slot_has, had, came}
use Rattle.server_index.proofs.table.Table.reserve.Goals as goal

pub returns-then-is_some-clause-place : goal.returns-then-is_some-clause-place
returns-then-is_some-clause-place g c =
    let there = ap is_some (sym c.get.ensures) ∙ sym c.is_some.ensures ∙ c.if-is_some.true in
    had c.args.self.now c.args.key (sym (ap (λ v. has_place v c.args.key) c.self.view_is) ∙ sym (slot_has c.args.key c.self.invariant) ∙ there)

pub returns-in_err-reserve-clause-had_place : goal.returns-in_err-reserve-clause-had_place
returns-in_err-reserve-clause-had_place g c =
    let none = ap is_some (sym c.get.ensures) ∙ sym c.is_some.ensures ∙ c.if-is_some.false in
    λ h. absurd (true≢false (sym h ∙ sym (ap (λ v. has_place v c.args.key) c.self.view_is) ∙ sym (slot_has c.args.key c.self.invariant) ∙ none))

pub returns-in_err-add-clause-had_place : goal.returns-in_err-add-clause-had_place
returns-in_err-add-clause-had_place g c =
    let none = ap is_some (sym c.get.ensures) ∙ sym c.is_some.ensures ∙ c.if-is_some.false in
    λ h. absurd (true≢false (sym h ∙ sym (ap (λ v. has_place v c.args.key) c.self.view_is) ∙ sym (slot_has c.args.key c.self.invariant) ∙ none))

pub invariant_of-self-2 : goal.invariant_of-self-2
invariant_of-self-2 g c =
    let none = ap is_some (sym c.get.ensures) ∙ sym c.is_some.ensures ∙ c.if-is_some.false in
    let last = c.len-slot.ensures ∙ c.reserve.new.self.ok.0 ∙ ap length c.in_ok-reserve.ensures.items in
    let pushed = c.push_reserved.ensures.items ∙ ap (λ ts. ts ++ record { key = c.args.key; item = None } ∷ []) c.in_ok-reserve.ensures.items in
    (came c.len-slot.result c.args.key c.self.invariant c.requires.few none last c.in_ok-add.ensures.place pushed).table

pub returns-clause-place : goal.returns-clause-place
returns-clause-place g c =
    let none = ap is_some (sym c.get.ensures) ∙ sym c.is_some.ensures ∙ c.if-is_some.false in
    let last = c.len-slot.ensures ∙ c.reserve.new.self.ok.0 ∙ ap length c.in_ok-reserve.ensures.items in
    let pushed = c.push_reserved.ensures.items ∙ ap (λ ts. ts ++ record { key = c.args.key; item = None } ∷ []) c.in_ok-reserve.ensures.items in
    (came c.len-slot.result c.args.key c.self.invariant c.requires.few none last c.in_ok-add.ensures.place pushed).places
    ∙ ap (λ v. with_free v c.args.key) c.self.view_is
