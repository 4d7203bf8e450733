use Rattle.std.proofs.Common.{◌≡◌, [], ◌∷◌, None, sym, ap, ◌∙◌, subst, nat_eq}
use Rattle.indexmap.specs.IndexMap.{insert_entry}
use Rattle.fr_plain.specs.MachineThreads.{pair_of}
use Rattle.fr_shared.specs.PairRoom.{PairRoom}
use Rattle.fr_shared.specs.PairInside.{pair_from, pairs_onto, AreApart}
use Rattle.fr_shared.proofs.PairParts.{unpaired, pair_added, added_apart}
use Rattle.fr_shared.proofs.pairs.Pairs.add.Goals as goal

pub invariant_of-self : goal.invariant_of-self
invariant_of-self c =
    let es = c.self.inside.twos.entries in
    let p = c.args.parent in
    let none : pair_of (pairs_onto [] es) p ≡ None = ap (λ (v : PairRoom). pair_of v.pairs p) c.self.view_is ∙ c.requires.new in
    let new = ap (λ k. insert_entry nat_eq es k c.args.two) c.number.ensures.number in
    subst AreApart (sym (c.in-Ok.ensures.entries ∙ new)) (added_apart es p c.args.two c.self.invariant (unpaired es p c.self.invariant none))

pub returns-clause-pairs : goal.returns-clause-pairs
returns-clause-pairs c =
    let es = c.self.inside.twos.entries in
    let p = c.args.parent in
    let none : pair_of (pairs_onto [] es) p ≡ None = ap (λ (v : PairRoom). pair_of v.pairs p) c.self.view_is ∙ c.requires.new in
    let new = ap (λ k. insert_entry nat_eq es k c.args.two) c.number.ensures.number in
    ap (pairs_onto []) (c.in-Ok.ensures.entries ∙ new) ∙ pair_added es p c.args.two (unpaired es p c.self.invariant none)
    ∙ ap (λ (v : PairRoom). pair_from p c.args.two ∷ v.pairs) c.self.view_is
