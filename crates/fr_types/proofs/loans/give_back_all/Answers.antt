use Rattle.std.proofs.Common.{◌<◌, ◌+◌, length, take, sym, ap, ◌∙◌, subst, arith}
use Rattle.fr_types.specs.declared.loans.Loans.{Loans}
use Rattle.fr_types.specs.Lent.{reference, IsLent, place_of}
use Rattle.fr_types.proofs.LookLemmas.{below_at}
use Rattle.fr_types.proofs.LoanLemmas.{none, give_back_first, lent_again, bit_seen, still_lent, loans_seen}
use Rattle.fr_types.proofs.loans.give_back_all.Goals as goal
use Rattle.fr_types.proofs.loans.give_back_all.Goals.{then-is_first, else-is_first}

pub index-before-requires : goal.index-before-requires
index-before-requires c =
    let lt : (place_of c.args.us.now c.places.at).slot < length c.args.loans.now.items = below_at (length c.args.loans.now.items) c.places.at c.args.us.now none c.requires.below c.places-test.true in
    omega (arith, lt, c.places.invariant.same, c.places.loans.ok.0)

pub overflow_sub-before : goal.overflow_sub-before
overflow_sub-before c =
    let lt : (place_of c.args.us.now c.places.at).slot < length c.args.loans.now.items = below_at (length c.args.loans.now.items) c.places.at c.args.us.now none c.requires.below c.places-test.true in
    let is = ap (λ (l : Loans). l.mutable) (loans_seen c.places.loans.items (place_of c.args.us.now c.places.at).slot c.index-before.result.now (omega (arith, lt, c.places.invariant.same)) c.index-before.ensures) in
    let least = (still_lent c.places.loans.items c.args.loans.now.items c.args.mutable c.args.us.now c.places.at c.places-test.true (sym c.if-is_first.true ∙ c.is_first.ensures) c.requires.lent c.places.invariant).0 in
    omega (arith, is, least, bit_seen c.args.mutable c.from.result c.from.ensures)

pub overflow_sub-before-then-is_first : goal.overflow_sub-before-then-is_first
overflow_sub-before-then-is_first c =
    let lt : (place_of c.args.us.now c.places.at).slot < length c.args.loans.now.items = below_at (length c.args.loans.now.items) c.places.at c.args.us.now none c.requires.below c.places-test.true in
    let is = ap (λ (l : Loans). l.any) (loans_seen c.places.loans.items (place_of c.args.us.now c.places.at).slot c.index-before.result.now (omega (arith, lt, c.places.invariant.same)) c.index-before.ensures) in
    let least = (still_lent c.places.loans.items c.args.loans.now.items c.args.mutable c.args.us.now c.places.at c.places-test.true (sym c.if-is_first.true ∙ c.is_first.ensures) c.requires.lent c.places.invariant).1 in
    omega (arith, is, least)

pub index_mut-requires : goal.index_mut-requires
index_mut-requires c =
    let lt : (place_of c.args.us.now c.places.at).slot < length c.args.loans.now.items = below_at (length c.args.loans.now.items) c.places.at c.args.us.now none c.requires.below c.places-test.true in
    omega (arith, lt, c.places.invariant.same, c.places.loans.ok.0)

pub places-preserved : goal.places-preserved
places-preserved c = elim c.if-is_first.branch [
  | then-is_first w ↦
      let lt : (place_of c.args.us.now c.places.at).slot < length c.args.loans.now.items = below_at (length c.args.loans.now.items) c.places.at c.args.us.now none c.requires.below c.places-test.true in
      let here : (place_of c.args.us.now c.places.at).slot < length c.places.loans.items = omega (arith, lt, c.places.invariant.same) in
      let is = loans_seen c.places.loans.items (place_of c.args.us.now c.places.at).slot w.index-before.result.now here w.index-before.ensures in
      let reads = ap (λ (l : Loans). l.mutable) is in
      let writes = ap (λ (l : Loans). l.any) is in
      let less = bit_seen c.args.mutable w.from.result w.from.ensures in
      let first = sym w.if-is_first.true ∙ c.is_first.ensures in
      let least = still_lent c.places.loans.items c.args.loans.now.items c.args.mutable c.args.us.now c.places.at c.places-test.true first c.requires.lent c.places.invariant in
      subst (λ l. IsLent l c.args.loans.now.items (reference c.args.mutable (take (c.places.at + 1) c.args.us.now))) (sym (ap (λ v. v.items) w.loans-is))
      (give_back_first c.places.loans.items c.args.loans.now.items c.args.mutable c.args.us.now c.places.at _ c.places-test.true here first
      (omega (arith, reads, less, least.0)) (omega (arith, writes, least.1)) c.places.invariant)
  | else-is_first w ↦
      subst (λ l. IsLent l c.args.loans.now.items (reference c.args.mutable (take (c.places.at + 1) c.args.us.now))) (sym (ap (λ v. v.items) w.loans-is))
      (lent_again c.places.loans.items c.args.loans.now.items c.args.mutable c.args.us.now c.places.at c.places-test.true (sym w.if-is_first.false ∙ c.is_first.ensures) c.places.invariant)
]
