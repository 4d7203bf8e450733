use Rattle.std.proofs.Common.{[], sym, ap, ◌∙◌, subst, nat_eq}
use Rattle.std.specs.Map.{remove_entry}
use Rattle.fr_plain.specs.MachineThreads.{without_pair}
use Rattle.fr_shared.specs.PairRoom.{PairRoom}
use Rattle.fr_shared.specs.PairInside.{pairs_onto, AreApart}
use Rattle.fr_shared.proofs.PairParts.{pair_gone, gone_apart}
use Rattle.fr_shared.proofs.pairs.Pairs.remove.Goals as goal

pub invariant_of-self : goal.invariant_of-self
invariant_of-self c =
    let es = c.self.inside.twos.entries in
    let p = c.args.parent in
    subst AreApart (sym (c.shift_remove.ensures.entries ∙ ap (λ k. remove_entry (nat_eq k) es) c.number.ensures.number)) (gone_apart es p c.self.invariant)

pub returns-clause-pairs : goal.returns-clause-pairs
returns-clause-pairs c =
    let es = c.self.inside.twos.entries in
    let p = c.args.parent in
    ap (pairs_onto []) (c.shift_remove.ensures.entries ∙ ap (λ k. remove_entry (nat_eq k) es) c.number.ensures.number) ∙ pair_gone es p c.self.invariant
    ∙ ap (λ (v : PairRoom). without_pair v.pairs p) c.self.view_is
