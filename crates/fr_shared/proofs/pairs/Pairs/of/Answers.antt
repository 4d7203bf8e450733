use Rattle.std.proofs.Common.{◌∙◌, ap, nat_eq}
use Rattle.std.specs.Map.{lookup}
use Rattle.fr_plain.specs.MachineThreads.{pair_of}
use Rattle.fr_shared.specs.PairRoom.{PairRoom}
use Rattle.fr_shared.specs.PairInside.{two_from}
use Rattle.fr_shared.proofs.PairParts.{pair_found}
use Rattle.fr_shared.proofs.pairs.Pairs.of.Goals as goal

pub returns-in-Some : goal.returns-in-Some
returns-in-Some c =
    let es = c.self.inside.twos.entries in
    let p = c.args.parent in
    ap (two_from p) (c.in-Some.ensures.value ∙ ap (λ k. lookup (nat_eq k) es) c.number.ensures.number) ∙ pair_found es p c.self.invariant ∙ ap (λ (v : PairRoom). pair_of v.pairs p) c.self.view_is

pub returns-in-None : goal.returns-in-None
returns-in-None c =
    let es = c.self.inside.twos.entries in
    let p = c.args.parent in
    ap (two_from p) (c.in-None.ensures.value ∙ ap (λ k. lookup (nat_eq k) es) c.number.ensures.number) ∙ pair_found es p c.self.invariant ∙ ap (λ (v : PairRoom). pair_of v.pairs p) c.self.view_is
