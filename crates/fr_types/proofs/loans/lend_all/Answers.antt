use Rattle.std.proofs.Common.{◌<◌, ◌+◌, length, take, sym, ap, ◌∙◌, subst, arith}
use Rattle.fr_types.specs.declared.loans.Loans.{Loans}
use Rattle.fr_types.specs.Lent.{reference, IsLent, place_of, loans_at}
use Rattle.fr_types.proofs.LookLemmas.{below_at}
use Rattle.fr_types.proofs.LoanLemmas.{none, lend_first, lent_again, bit_seen, bit_le, space_left, loans_seen}
use Rattle.fr_types.proofs.loans.lend_all.Goals as goal
use Rattle.fr_types.proofs.loans.lend_all.Goals.{then-is_first, else-is_first}

pub index-before-requires : goal.index-before-requires
index-before-requires c =
    let lt : (place_of c.args.us.now c.places.at).slot < length c.args.loans.now.items = below_at (length c.args.loans.now.items) c.places.at c.args.us.now none c.requires.below c.places-test.true in
    omega (arith, lt, c.places.invariant.same, c.places.loans.ok.0)

pub overflow_add-before : goal.overflow_add-before
overflow_add-before c =
    let lt : (place_of c.args.us.now c.places.at).slot < length c.args.loans.now.items = below_at (length c.args.loans.now.items) c.places.at c.args.us.now none c.requires.below c.places-test.true in
    let is = ap (λ (l : Loans). l.mutable) (loans_seen c.places.loans.items (place_of c.args.us.now c.places.at).slot c.index-before.result.now (omega (arith, lt, c.places.invariant.same)) c.index-before.ensures) in
    let most = (space_left c.args.loans.now.items c.places.loans.items (reference c.args.mutable (take c.places.at c.args.us.now)) (place_of c.args.us.now c.places.at).slot c.requires.space c.places.invariant).0 in
    omega (arith, is, most, bit_seen c.args.mutable c.from.result c.from.ensures, bit_le c.args.mutable)

pub overflow_add-before-then-is_first : goal.overflow_add-before-then-is_first
overflow_add-before-then-is_first c =
    let lt : (place_of c.args.us.now c.places.at).slot < length c.args.loans.now.items = below_at (length c.args.loans.now.items) c.places.at c.args.us.now none c.requires.below c.places-test.true in
    let is = ap (λ (l : Loans). l.any) (loans_seen c.places.loans.items (place_of c.args.us.now c.places.at).slot c.index-before.result.now (omega (arith, lt, c.places.invariant.same)) c.index-before.ensures) in
    let most = (space_left c.args.loans.now.items c.places.loans.items (reference c.args.mutable (take c.places.at c.args.us.now)) (place_of c.args.us.now c.places.at).slot c.requires.space c.places.invariant).1 in
    omega (arith, is, most)

pub index_mut-requires : goal.index_mut-requires
index_mut-requires c =
    let lt : (place_of c.args.us.now c.places.at).slot < length c.args.loans.now.items = below_at (length c.args.loans.now.items) c.places.at c.args.us.now none c.requires.below c.places-test.true in
    omega (arith, lt, c.places.invariant.same, c.places.loans.ok.0)

pub places-preserved : goal.places-preserved
places-preserved c = elim c.if-is_first.branch [
  | then-is_first w ↦
      let lt : (place_of c.args.us.now c.places.at).slot < length c.args.loans.now.items = below_at (length c.args.loans.now.items) c.places.at c.args.us.now none c.requires.below c.places-test.true in
      let here : (place_of c.args.us.now c.places.at).slot < length c.places.loans.items = omega (arith, lt, c.places.invariant.same) in
      let is = loans_seen c.places.loans.items (place_of c.args.us.now c.places.at).slot w.index-before.result.now here w.index-before.ensures in
      let more = bit_seen c.args.mutable w.from.result w.from.ensures in
      subst (λ l. IsLent c.args.loans.now.items l (reference c.args.mutable (take (c.places.at + 1) c.args.us.now))) (sym (ap (λ v. v.items) w.loans-is))
      (lend_first c.args.loans.now.items c.places.loans.items c.args.mutable c.args.us.now c.places.at _ c.places-test.true here (sym w.if-is_first.true ∙ c.is_first.ensures)
      (ap (λ (l : Loans). l.mutable + w.from.result) is ∙ ap (λ n. (loans_at c.places.loans.items (place_of c.args.us.now c.places.at).slot).mutable + n) more) (ap (λ (l : Loans). l.any + 1) is) c.places.invariant)
  | else-is_first w ↦
      subst (λ l. IsLent c.args.loans.now.items l (reference c.args.mutable (take (c.places.at + 1) c.args.us.now))) (sym (ap (λ v. v.items) w.loans-is))
      (lent_again c.args.loans.now.items c.places.loans.items c.args.mutable c.args.us.now c.places.at c.places-test.true (sym w.if-is_first.false ∙ c.is_first.ensures) c.places.invariant)
]
